use Rattle.std.proofs.Common.{[], ◌∷◌, ◌++◌, take, sym, ap, ◌∙◌}
use Rattle.std.specs.Prelude.{Option}
use Rattle.std.specs.List.{cons_option}
use Rattle.std.proofs.lemmas.List.{append-nil}
use Rattle.pass_entry.specs.declared.objects.Node.{Node}
use Rattle.pass_pattern.specs.Visits.{ends_of}
use Rattle.pass_pattern.proofs.Ordering.{ends_more, is_end, is_no_end}
use Rattle.pass_pattern.proofs.finding.ended.Goals as goal
use Rattle.pass_pattern.proofs.finding.ended.Goals.{then-visit-eq-END+in_ok-push, else-visit-eq-END}

pub loop-visit-preserved : goal.loop-visit-preserved
loop-visit-preserved c =
    let visits = c.args.visits.now in
    let k = c.loop-visit.visit-index in
    let x = c.visit-item.result in
    let more = ends_more visits k x c.loop-visit-test.true c.visit-item.is in
    elim c.if-visit-eq-END.branch [
      | then-visit-eq-END+in_ok-push w ↦
          ap (λ v. v.items) w.nodes-is ∙ w.in_ok-push.ensures.items ∙ ap (λ xs. xs ++ x.node ∷ []) c.loop-visit.invariant
          ∙ sym (more ∙ ap (λ (o : Option Node). ends_of (take k visits) ++ cons_option o []) (is_end x w.if-visit-eq-END.true))
      | else-visit-eq-END w ↦
          ap (λ v. v.items) w.nodes-is ∙ c.loop-visit.invariant
          ∙ sym (more ∙ ap (λ (o : Option Node). ends_of (take k visits) ++ cons_option o []) (is_no_end x w.if-visit-eq-END.false) ∙ append-nil (ends_of (take k visits)))
    ]
