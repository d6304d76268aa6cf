use Rattle.std.proofs.Common.{◌≡◌, ◌∙◌, ◌<◌, ◌+◌, ◌++◌, ◌∷◌, [], ℕ, List, take, length, get_or, sym, ap, subst, arith}
use Rattle.std.specs.Prelude.{map}
use Rattle.std.specs.Option.{option_map_or}
use Rattle.std.proofs.lemmas.List.{map-append}
use Rattle.pass_entry.specs.declared.record.Record.{Record}
use Rattle.pass_leaf.specs.Leaves.{Leaf}
use Rattle.pass_audit.specs.Audits.{judged_in, log_at, verdict_on}
use Rattle.pass_audit.specs.Courses.{AreCourses}
use Rattle.pass_audit.specs.declared.verdict.Verdict.TheVariants.{Unknown}
use Rattle.pass_audit.proofs.Coursing.{may_come}
use Rattle.pass_plain.proofs.Replays.{take-next}
use Rattle.pass_audit.proofs.Finding.{is_above_those, is_content}
use Rattle.pass_audit.proofs.auditing.audit.Goals as goal

pub judge-requires : goal.judge-requires
judge-requires c =
    let leaves : List Leaf = c.args.leaves.now in
    let i : ℕ = c.loop-leaf.leaf-index in
    let leaf : Leaf = c.leaf-item.result in
    let less : i < length leaves = omega (arith, c.loop-leaf-test.true, ap length c.list-leaf-items.ensures.list) in
    let at : leaf ≡ get_or leaves i leaf = c.leaf-item.is ∙ ap (λ (l : List Leaf). get_or l i leaf) c.list-leaf-items.ensures.list in
    may_come c.args.records.now (take i leaves) leaf c.loop-leaf.courses c.loop-leaf.invariant.courses (is_above_those leaves i leaf less at c.list-leaf-items.ensures.are)

pub loop-leaf-preserved : goal.loop-leaf-preserved
loop-leaf-preserved c =
    let list : List Record = c.args.records.now in
    let leaves : List Leaf = c.args.leaves.now in
    let i : ℕ = c.loop-leaf.leaf-index in
    let leaf : Leaf = c.leaf-item.result in
    let less : i < length leaves = omega (arith, c.loop-leaf-test.true, ap length c.list-leaf-items.ensures.list) in
    let at : leaf ≡ get_or leaves i leaf = c.leaf-item.is ∙ ap (λ (l : List Leaf). get_or l i leaf) c.list-leaf-items.ensures.list in
    let so = c.in_ok-judged.ensures list (take i leaves) c.loop-leaf.invariant.courses (is_above_those leaves i leaf less at c.list-leaf-items.ensures.are) in
    let said : c.in_ok-judged.judged ≡ judged_in list leaves leaf =
    so.0 ∙ (λ k. record { node = leaf.node; verdict = option_map_or (verdict_on (log_at list leaf.node) leaf.node) (sym (is_content leaves i leaf less at c.list-leaf-items.ensures.are) k) Unknown }) in
    let more : take (i + 1) leaves ≡ take i leaves ++ leaf ∷ [] = take-next leaves i leaf less at in
    record {
      courses = subst (λ (l : List Leaf). AreCourses list l c.judge.new.courses) (sym more) so.1;
      all = c.in_ok-push.ensures.items ∙ (λ k. c.loop-leaf.invariant.all k ++ said k ∷ [])
          ∙ sym (map-append (judged_in list leaves) (take i leaves) (leaf ∷ [])) ∙ ap (λ (l : List Leaf). map (judged_in list leaves) l) (sym more);
    }
