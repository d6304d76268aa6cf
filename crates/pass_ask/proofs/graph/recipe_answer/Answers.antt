use Rattle.std.proofs.Common.{List, ap, ◌∙◌}
use Rattle.pass_recipe.specs.declared.entries.Made.{Made}
use Rattle.pass_recipe.specs.Texts.{recipe_text}
use Rattle.pass_ask.specs.GraphAnswers.{IsMissing, IsRecipe}
use Rattle.pass_ask.specs.declared.words.GraphQuestion.TheVariants.{Recipe}
use Rattle.pass_view.proofs.Lacking.{lacking_both, lacking_none, starved_lacks, ok_lacks}
use Rattle.pass_ask.proofs.graph.recipe_answer.Goals as goal

pub returns-in_err-entries-clause-absent : goal.returns-in_err-entries-clause-absent
returns-in_err-entries-clause-absent g c =
    lacking_both c.recipe.result c.from_residual.result c.in_err-entries.field-0.0 (λ n. IsMissing c.args.index.now (Recipe c.args.node) n) c.in_err-entries.was c.from_residual.ensures.1 c.recipe.ensures.absent

pub returns-in_err-to_text-clause-absent : goal.returns-in_err-to_text-clause-absent
returns-in_err-to_text-clause-absent g c =
    lacking_none c.recipe.result c.from_residual-in_err-to_text.result c.in_ok-entries.entries (λ n. IsMissing c.args.index.now (Recipe c.args.node) n) c.in_ok-entries.was
    (starved_lacks c.from_residual-in_err-to_text.result c.from_residual-in_err-to_text.ensures.1) c.recipe.ensures.absent

pub returns-clause-text : goal.returns-clause-text
returns-clause-text g c =
    let made : List Made = c.in_ok-entries.entries.items in
    let e = c.in_ok-entries.ensures in
    let whole : IsRecipe c.args.index.now c.args.node made = record {
      order = record { sound = e.sound; complete = e.complete; once = e.once; after = e.after };
      least = e.least;
      sources = e.sources;
      programs = e.programs;
    } in
    (made, whole, c.in_ok-to_text.ensures ∙ ap recipe_text c.deref.ensures.value)

pub returns-clause-absent : goal.returns-clause-absent
returns-clause-absent g c =
    lacking_none c.recipe.result _ c.in_ok-entries.entries (λ n. IsMissing c.args.index.now (Recipe c.args.node) n) c.in_ok-entries.was (ok_lacks c.in_ok-to_text.field-0) c.recipe.ensures.absent
