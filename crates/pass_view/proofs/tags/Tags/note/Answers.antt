use Rattle.std.proofs.Common.{sym, subst, ◌∙◌, [], ◌∷◌, ◌++◌}
use Rattle.std.specs.Prelude.{if◌then◌else◌}
use Rattle.std.proofs.lemmas.Result.{on_ok_weaker}
use Rattle.pass_entry.specs.declared.record.Record.{Record}
use Rattle.pass_plain.specs.Versions.{same_node}
use Rattle.pass_view.specs.Facts.{AreTags, tags_of}
use Rattle.pass_view.specs.declared.tags.Tags.{Tags}
use Rattle.pass_view.proofs.Tagging.{none_noted, tag_noted}
use Rattle.pass_view.proofs.tags.Tags.note.Goals as goal

pub returns-in_ok-clone-in-Attr-2 : goal.returns-in_ok-clone-in-Attr-2
returns-in_ok-clone-in-Attr-2 c = on_ok_weaker c.add.result (λ tags list are.
    let old : Tags = c.args.self.now in
    let new : Tags = c.add.new.self in
    subst (λ (r : Record). AreTags (list ++ r ∷ []) new) (sym c.in-Attr.is)
    (tag_noted list old new c.in-Attr.node c.in-Attr.attr c.in-Attr.value
    (λ n. tags n ∙ (λ i. if same_node c.in-Attr.node n then tags_of old n ++ (c.in_ok-clone-in-Attr.ensures.cases i, c.in_ok-clone-in-Attr-2.ensures.cases i) ∷ [] else tags_of old n)) are))
    c.add.ensures

pub returns-in_default : goal.returns-in_default
returns-in_default c = λ list are. none_noted list c.args.self.now c.args.one.now (λ n attr value is. c.in_default.not-Attr n attr value is) are
