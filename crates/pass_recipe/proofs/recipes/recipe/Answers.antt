use Rattle.std.proofs.Common.{◌≡◌, sym, ap, ◌∙◌}
use Rattle.std.specs.Prelude.{Result, Err}
use Rattle.pass_query.specs.declared.fault.QueryFault.{QueryFault}
use Rattle.pass_query.specs.declared.fault.QueryFault.TheVariants.{NoObject}
use Rattle.pass_recipe.proofs.recipes.recipe.Goals as goal
use Rattle.pass_entry.proofs.Variants.{err_inside}

as_fault : {A : Type 0} (f g : QueryFault) → f ≡ g → ◌≡◌ {A = Result A QueryFault} (Err f) (Err g)
as_fault f g is = ap (λ x. Err x) is

pub returns-in-Err-clause-absent : goal.returns-in-Err-clause-absent
returns-in-Err-clause-absent g c = λ n.
    let before = c.ancestors.ensures.absent n in
    let fault : QueryFault = c.in-Err.fault in (
      λ same. before.0 (c.in-Err.is ∙ as_fault fault (NoObject n) (err_inside fault (NoObject n) same)),
      λ holds. as_fault fault (NoObject n) (err_inside fault (NoObject n) (sym c.in-Err.is ∙ before.1 holds)),
    )
