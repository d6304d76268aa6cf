use Rattle.std.proofs.Common.{rules, ◌≡◌, ◌≤◌, ◌^◌, List, length, get_or, true, inl, inr, refl, sym, ap, subst, arith, length-append}
use Rattle.pass_entry.specs.declared.record.Record.{Record}
use Rattle.pass_standby.specs.Streams.{is_open}
use Rattle.pass_standby.specs.Logs.{IsBroken}
use Rattle.pass_standby.proofs.Walking.{IsWalking, walking_none, walking_more, walking_bad, walking_done, frame_unread, frame_fault}
use Rattle.pass_standby.proofs.opening.walk.Goals as goal

pub loop-rest-init : goal.loop-rest-init
loop-rest-init c =
    subst (λ (l : List Record). IsWalking c.args.bytes.now c.args.bytes.now 0 l c.new-judge.result) (sym c.new-list.ensures.items)
    (walking_none c.args.bytes.now c.new-judge.result c.new-judge.ensures (omega (arith, c.requires.some)))

pub returns-in_default-clause-fault : goal.returns-in_default-clause-fault
returns-in_default-clause-fault c =
    let rest = c.loop-rest.rest.now in
    let gate : is_open rest ≡ true = search rules in
    let broken : IsBroken rest = search rules in
    inr (c.loop-rest.place, refl, walking_bad c.args.bytes.now rest c.loop-rest.place c.loop-rest.list.items c.loop-rest.judge c.loop-rest.invariant gate (inl broken))

pub returns-in-Err-clause-fault : goal.returns-in-Err-clause-fault
returns-in-Err-clause-fault c =
    let rest = c.loop-rest.rest.now in
    let gate : is_open rest ≡ true = search rules in
    let w = c.loop-rest.invariant in
    frame_fault c.args.bytes.now c.loop-rest.place c.in-Err.fault c.fault_at.result c.fault_at.ensures.bad c.fault_at.ensures.memory
    (λ is. walking_bad c.args.bytes.now rest c.loop-rest.place c.loop-rest.list.items c.loop-rest.judge w gate
    (inr (frame_unread c.args.bytes.now rest c.loop-rest.place c.loop-rest.list.items c.loop-rest.judge w c.in-Some.frame.now c.in-Some.after.now
    c.in-Some.ensures.fits c.in-Some.ensures.frame c.in-Some.ensures.more (c.in-Err.ensures.bad is c.loop-rest.list.items w.says))))

pub loop-rest-preserved : goal.loop-rest-preserved
loop-rest-preserved c =
    let w = c.loop-rest.invariant in
    walking_more c.args.bytes.now c.loop-rest.rest.now c.loop-rest.place c.loop-rest.list.items c.loop-rest.judge w c.in-Some.frame.now c.in-Some.after.now
    c.in-Some.ensures.fits c.in-Some.ensures.frame c.in-Some.ensures.more c.read_batch.new.list.items c.read_batch.new.judge
    (c.in_default-read_batch.ensures.ok c.loop-rest.list.items w.says)

pub returns-clause-found : goal.returns-clause-found
returns-clause-found c =
    let rest = c.loop-rest.rest.now in
    let w = c.loop-rest.invariant in
    let shut : get_or rest 0 0 ≡ 1 → ⊥ = search rules in
    let within : c.loop-rest.place ≤ 2 ^ 39 = omega (arith, ap length w.is, length-append w.front rest, w.size, c.requires.fits) in
    record {
      image = record {
        holds = walking_done c.args.bytes.now rest c.loop-rest.place c.loop-rest.list.items c.loop-rest.judge w shut c.requires.some (omega (arith, c.requires.fits));
        short = (λ no_way. absurd (cc no_way), λ few. absurd (omega (arith, few, c.requires.some)));
      };
      logged = w.logged;
      says = w.says;
      place = within;
    }
