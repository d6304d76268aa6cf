use Rattle.std.proofs.Common.{◌≡◌, ◌==◌, ◌++◌, ◌∷◌, [], ap, sym, ◌∙◌, arith, Bool}
use Rattle.std.specs.Prelude.{Option}
use Rattle.std.specs.Option.{option_map_or}
use Rattle.std.specs.List.{list_any}
use Rattle.std.proofs.lemmas.List.FromFn.{map-range_with_len_more}
use Rattle.pass_plain.specs.declared.start.StartFile.{StartFile}
use Rattle.pass_plain.specs.Recording.{opened_row, flags}
use Rattle.pass_plain.proofs.contents.opened_rows.Goals as goal

pub loop-block-preserved : goal.loop-block-preserved
loop-block-preserved c =
    let row = opened_row c.args.start.now c.args.object in
    let block = c.loop-block.block in
    let here : c.has_row.result ≡ row block =
    c.has_row.ensures ∙ ap (λ (file : Option StartFile). list_any (λ b. b == block) (option_map_or (λ (f : StartFile). f.rows.items) file [])) c.opened_file-file.ensures in
    c.in_ok-push.ensures.items ∙ ap (λ rows. rows ++ c.has_row.result ∷ []) c.loop-block.invariant
    ∙ ap (λ (b : Bool). flags row block ++ b ∷ []) here
    ∙ sym (map-range_with_len_more row 0 block block (omega arith))
