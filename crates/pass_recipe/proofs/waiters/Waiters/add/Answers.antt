use Rattle.std.proofs.Common.{◌≡◌, [], ◌∷◌, ◌++◌, List, sym, ap, ◌∙◌, cond, rules}
use Rattle.std.specs.Prelude.{Some}
use Rattle.std.specs.HashMap.{get}
use Rattle.std.specs.declared.vec.Vec.{Vec}
use Rattle.std.specs.declared.alloc.Global.{Global}
use Rattle.pass_plain.specs.Versions.{same_node}
use Rattle.std.specs.Option.{option_copied_mut}
use Rattle.pass_recipe.specs.declared.waiters.Waiting.{Waiting}
use Rattle.pass_recipe.specs.declared.waiters.Waiters.{Waiters}
use Rattle.pass_recipe.proofs.Settling.{row_added}
use Rattle.pass_recipe.proofs.waiters.Waiters.add.Goals as goal

pub returns-in_ok-insert-in-None : goal.returns-in_ok-insert-in-None
returns-in_ok-insert-in-None c =
    let old : Waiters = c.args.self.now in
    let new : Waiters = record old { rows = c.insert.new.self } in
    let row : Vec Waiting Global = c.push-in-None.new.self in
    let kept : c.get_mut.follows.lender-at-none ≡ c.args.self.now.rows = search (rules, c.get_mut.follows.holds-at-none) in
    row_added old new c.args.source c.args.one row (sym c.get_mut.ensures.value ∙ ap option_copied_mut c.in-None.is)
    (c.in_ok-push-in-None.ensures.items ∙ ap (λ (xs : List Waiting). xs ++ c.args.one ∷ []) c.new-row.ensures.items)
    (λ s. c.in_ok-insert-in-None.ensures.updates.0 s ∙ ap (λ m. cond (same_node c.args.source s) (Some row) (get same_node m s)) kept)
