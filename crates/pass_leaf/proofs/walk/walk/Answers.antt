use Rattle.std.proofs.Common.{rules, ◌≡◌, ◌≤◌, ◌^◌, List, length, get_or, true, inl, inr, refl, sym, ap, subst, arith, length-append}
use Rattle.pass_leaf.specs.Leaves.{Leaf}
use Rattle.pass_leaf.specs.Archives.{is_open, IsBroken}
use Rattle.pass_leaf.proofs.Walks.{IsWalking, walking_none, walking_more, walking_bad, walking_done, frame_misplaced, frame_fault}
use Rattle.pass_leaf.proofs.walk.walk.Goals as goal

pub loop-rest-init : goal.loop-rest-init
loop-rest-init c =
    subst (λ (l : List Leaf). IsWalking c.args.bytes.now c.args.bytes.now 0 l) (sym c.new-leaves.ensures) (walking_none c.args.bytes.now (omega (arith, c.requires.some)))

pub returns-in_default-clause-fault : goal.returns-in_default-clause-fault
returns-in_default-clause-fault c =
    let rest = c.loop-rest.rest.now in
    let gate : is_open rest ≡ true = search rules in
    let broken : IsBroken rest = search rules in
    inr (c.loop-rest.place, refl, walking_bad c.args.bytes.now rest c.loop-rest.place c.loop-rest.leaves c.loop-rest.invariant gate (inl broken))

pub returns-in-Err-clause-fault : goal.returns-in-Err-clause-fault
returns-in-Err-clause-fault c =
    let rest = c.loop-rest.rest.now in
    let gate : is_open rest ≡ true = search rules in
    let w = c.loop-rest.invariant in
    frame_fault c.args.bytes.now c.loop-rest.place c.in-Err.fault c.fault_at.result c.fault_at.ensures.bad c.fault_at.ensures.memory
    (λ is. walking_bad c.args.bytes.now rest c.loop-rest.place c.loop-rest.leaves w gate
    (inr (frame_misplaced c.args.bytes.now rest c.loop-rest.place c.loop-rest.leaves w c.in-Some.frame.now c.in-Some.after.now
    c.in-Some.ensures.fits c.in-Some.ensures.frame c.in-Some.ensures.more (c.in-Err.ensures.bad is))))

pub loop-rest-preserved : goal.loop-rest-preserved
loop-rest-preserved c =
    let w = c.loop-rest.invariant in
    walking_more c.args.bytes.now c.loop-rest.rest.now c.loop-rest.place c.loop-rest.leaves w c.in-Some.frame.now c.in-Some.after.now
    c.in-Some.ensures.fits c.in-Some.ensures.frame c.in-Some.ensures.more c.read_frame.new.leaves
    c.in_default-read_frame.ensures.next

pub returns-clause-found : goal.returns-clause-found
returns-clause-found c =
    let rest = c.loop-rest.rest.now in
    let w = c.loop-rest.invariant in
    let shut : get_or rest 0 0 ≡ 1 → ⊥ = search rules in
    let within : c.loop-rest.place ≤ 2 ^ 39 = omega (arith, ap length w.is, length-append w.front rest, w.size, c.requires.fits) in
    record {
      archive = walking_done c.args.bytes.now rest c.loop-rest.place c.loop-rest.leaves w shut c.requires.some (omega (arith, c.requires.fits));
      short = (λ no_way. absurd (cc no_way), λ few. absurd (omega (arith, few, c.requires.some)));
      place = within;
    }
