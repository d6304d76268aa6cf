use Rattle.std.proofs.Common.{ℕ, ◌≡◌, [], ◌∷◌, ◌++◌, List, sym, ap, ◌∙◌, cond, rules}
use Rattle.std.specs.Prelude.{Some}
use Rattle.std.specs.HashMap.{get}
use Rattle.std.specs.Option.{option_copied_mut}
use Rattle.std.specs.declared.vec.Vec.{Vec}
use Rattle.std.specs.declared.alloc.Global.{Global}
use Rattle.pass_plain.specs.Versions.{same_node}
use Rattle.pass_view.specs.declared.tags.Tags.{Tags}
use Rattle.pass_view.proofs.Tagging.{row_added}
use Rattle.pass_view.proofs.tags.Tags.add.Goals as goal

abbrev Tag : Type 0
Tag = List ℕ × List ℕ

pub returns-in_ok-insert-in-None : goal.returns-in_ok-insert-in-None
returns-in_ok-insert-in-None c =
    let old : Tags = c.args.self.now in
    let new : Tags = record old { rows = c.insert.new.self } in
    let row : Vec Tag Global = c.push-in-None.new.self in
    let kept : c.get_mut.follows.lender-at-none ≡ c.args.self.now.rows = search (rules, c.get_mut.follows.holds-at-none) in
    row_added old new c.args.node (c.args.attr, c.args.value) row (sym c.get_mut.ensures.value ∙ ap option_copied_mut c.in-None.is)
    (c.in_ok-push-in-None.ensures.items ∙ ap (λ (xs : List Tag). xs ++ (c.args.attr, c.args.value) ∷ []) c.new-row.ensures.items)
    (λ n. c.in_ok-insert-in-None.ensures.updates.0 n ∙ ap (λ m. cond (same_node c.args.node n) (Some row) (get same_node m n)) kept)
