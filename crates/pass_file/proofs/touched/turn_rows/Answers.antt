use Rattle.std.proofs.Common.{◌∙◌, ◌||◌, ℕ, ap}
use Rattle.pass_file.specs.Touches.{is_within}
use Rattle.pass_file.proofs.touched.turn_rows.Goals as goal

pub returns : goal.returns
returns c = λ (b : ℕ).
    let t = c.args.touched.now in
    c.insert_all.ensures.blocks b ∙ ap (λ w. is_within t.first t.end b || w) (c.cut.ensures.blocks b)
