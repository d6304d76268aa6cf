use Rattle.std.proofs.Common.{◌≡◌, ◌∙◌, ◌<◌, ◌+◌, List, length, get_or, take, drop, sym, ap, subst, arith}
use Rattle.std.proofs.lemmas.List.{take_all}
use Rattle.pass_leaf.specs.Leaves.{Leaf}
use Rattle.pass_leaf.specs.Keeping.{FileVersion}
use Rattle.pass_past.specs.Keepings.{IsKeeping, IsHalted}
use Rattle.pass_past.proofs.Goings.{stopped_on}
use Rattle.pass_prune.specs.Prunings.{chosen_of}
use Rattle.pass_prune.specs.Tables.{is_chosen_by, AreSoFar}
use Rattle.pass_plain.proofs.Replays.{take-next}
use Rattle.pass_prune.proofs.Laying.{next_in, chosen_next, chosen_begins, so_far_none}
use Rattle.pass_prune.proofs.walking.keep_chosen.Goals as goal

pub loop-leaf-init : goal.loop-leaf-init
loop-leaf-init g c = record { contents = so_far_none c.args.choice.now.leaves.now c.new-contents.result c.new-contents.ensures.empty; kept = c.requires.begun }

pub loop-leaf-preserved : goal.loop-leaf-preserved
loop-leaf-preserved g c =
    let leaves : List Leaf = c.args.choice.now.leaves.now in
    let i = c.loop-leaf.leaf-index in
    let leaf = c.leaf-item.result in
    let choice = is_chosen_by c.args.choice.now in
    let less : i < length leaves = omega (arith, c.loop-leaf-test.true, ap length c.list-leaf-items.ensures.list) in
    let at : leaf ≡ get_or leaves i leaf = c.leaf-item.is ∙ ap (λ (l : List Leaf). get_or l i leaf) c.list-leaf-items.ensures.list in
    let next = next_in leaves i leaf c.list-leaf-items.ensures.are less at in
    record {
      contents = subst (λ (l : List Leaf). AreSoFar leaves l c.keep_leaf.new.contents) (sym (take-next leaves i leaf less at))
          (c.in_default.ensures.contents (take i leaves) (drop (i + 1) leaves) next c.loop-leaf.invariant.contents);
      kept = subst (λ (l : List FileVersion). IsKeeping g.F.Disk.view c.args.old.now l c.keep_leaf.new.old) (sym (chosen_next choice leaves i leaf less at))
          (c.in_default.ensures.kept (take i leaves) (drop (i + 1) leaves) next c.loop-leaf.invariant.contents c.args.old.now (chosen_of choice (take i leaves)) c.loop-leaf.invariant.kept);
    }

pub returns-in-Err-clause-stopped : goal.returns-in-Err-clause-stopped
returns-in-Err-clause-stopped g c =
    let leaves : List Leaf = c.args.choice.now.leaves.now in
    let i = c.loop-leaf.leaf-index in
    let leaf = c.leaf-item.result in
    let choice = is_chosen_by c.args.choice.now in
    let less : i < length leaves = omega (arith, c.loop-leaf-test.true, ap length c.list-leaf-items.ensures.list) in
    let at : leaf ≡ get_or leaves i leaf = c.leaf-item.is ∙ ap (λ (l : List Leaf). get_or l i leaf) c.list-leaf-items.ensures.list in
    let next = next_in leaves i leaf c.list-leaf-items.ensures.are less at in
    stopped_on g.F.Disk.view c.args.old.now (chosen_of choice (take (i + 1) leaves)) (chosen_of choice leaves) c.keep_leaf.new.old c.in-Err.fault
    (subst (λ (l : List FileVersion). IsHalted g.F.Disk.view c.args.old.now l c.keep_leaf.new.old c.in-Err.fault) (sym (chosen_next choice leaves i leaf less at))
    (c.in-Err.ensures.stopped (take i leaves) (drop (i + 1) leaves) next c.loop-leaf.invariant.contents c.args.old.now (chosen_of choice (take i leaves)) c.loop-leaf.invariant.kept))
    (chosen_begins choice leaves (i + 1))

pub returns-clause-kept : goal.returns-clause-kept
returns-clause-kept g c =
    let leaves : List Leaf = c.args.choice.now.leaves.now in
    let all : take c.loop-leaf.leaf-index leaves ≡ leaves = take_all c.loop-leaf.leaf-index leaves (omega (arith, c.loop-leaf-test.false, ap length c.list-leaf-items.ensures.list)) in
    subst (λ (l : List Leaf). IsKeeping g.F.Disk.view c.args.old.now (chosen_of (is_chosen_by c.args.choice.now) l) c.loop-leaf.old) all c.loop-leaf.invariant.kept
