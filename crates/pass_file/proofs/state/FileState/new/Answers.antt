use Rattle.std.proofs.Common.{◌≡◌, ◌∙◌, ℕ, List, [], length, ap, sym, subst, arith, true, false}
use Rattle.pass_table.specs.Tables.{BlocksView}
use Rattle.pass_file.specs.BlockSets.{BlockSetView, is_among, AreBelow}
use Rattle.pass_file.proofs.Turning.{opened_below}
use Rattle.pass_file.proofs.state.FileState.new.Goals as goal

pub invariant_of-result : goal.invariant_of-result
invariant_of-result c =
    let file = c.args.file.now in
    let bytes : c.in_ok-content.content.bytes ≡ file.bytes.items = ap (λ (w : BlocksView). w.bytes) c.in_ok-content.ensures ∙ c.deref.ensures.value in
    let rows : c.in_ok-rows.rows.blocks ≡ file.rows.items = c.in_ok-rows.ensures ∙ c.deref-2.ensures.value in
    let none : c.new.result.blocks ≡ [] = ap (λ (w : BlockSetView). w.blocks) c.new.ensures in
    let size = ap length bytes in
    let sized = c.requires.sized in
    let limited = c.requires.limited in
    record {
      covered = omega arith;
      limit = omega arith;
      small = omega (arith, size, sized, limited);
      places = λ some. absurd (omega (arith, some));
      rows_below = subst (λ (xs : List ℕ). AreBelow xs (length c.in_ok-content.content.bytes)) (sym rows) (subst (AreBelow file.rows.items) (sym size) (opened_below file c.requires));
      dirty_below = λ b among. let z : false ≡ true = ap (λ (xs : List ℕ). is_among xs b) (sym none) ∙ among in absurd (cc);
    }
