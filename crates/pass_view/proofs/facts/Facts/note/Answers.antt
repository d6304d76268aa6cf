use Rattle.std.proofs.Common.{sym, subst, refl, [], ◌∷◌, ◌++◌}
use Rattle.std.proofs.lemmas.Result.{on_ok_weaker}
use Rattle.pass_entry.specs.declared.record.Record.{Record}
use Rattle.pass_graph.specs.Logged.{Summarizes}
use Rattle.pass_view.specs.Facts.{AreFacts, AreTags}
use Rattle.pass_view.specs.declared.facts.Facts.{Facts}
use Rattle.pass_view.proofs.Tagging.{name_noted, other_noted}
use Rattle.pass_view.proofs.facts.Facts.note.Goals as goal

pub returns-in-Name : goal.returns-in-Name
returns-in-Name c = on_ok_weaker c.add_name.result (λ names list fine are.
    let old : Facts = c.args.self.now in
    let new : Facts = c.add_name.new.self in
    subst (λ (r : Record). AreFacts (list ++ r ∷ []) new) (sym c.in-Name.is)
    (name_noted list old new c.in-Name.pnode c.in-Name.name
    (subst (λ (r : Record). Summarizes new.logged (list ++ r ∷ [])) c.in-Name.is
    (subst (λ l. Summarizes l (list ++ c.args.one.now ∷ [])) (sym c.add_name.ensures.logged) (c.in_ok-add.ensures.ok list are.logged fine)))
    (subst (λ (r : Record). AreTags (list ++ r ∷ []) new.tags) c.in-Name.is
    (subst (λ t. AreTags (list ++ c.args.one.now ∷ []) t) (sym c.add_name.ensures.tags) (c.in_ok-note.ensures list are.tags)))
    names are))
    c.add_name.ensures.names

pub returns-in_default : goal.returns-in_default
returns-in_default c = λ list fine are.
    let old : Facts = c.args.self.now in
    let new : Facts = record old { logged = c.add.new.self; tags = c.note.new.self } in
    other_noted list old new c.args.one.now (λ p name is. c.in_default.not-Name p name is) (c.in_ok-add.ensures.ok list are.logged fine) (c.in_ok-note.ensures list are.tags) (λ o. refl) are
