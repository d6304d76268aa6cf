use Rattle.std.proofs.Common.{◌∙◌, ℕ, ◌<◌, ◌++◌, List, length, ap, arith}
use Rattle.std.specs.Prelude.{string_bytes}
use Rattle.pass_old.proofs.Consulted.{next_file, all_files}
use Rattle.pass_old.proofs.consulting.files_text.Goals as goal

pub loop-file-preserved : goal.loop-file-preserved
loop-file-preserved c =
    let files : List ℕ = c.args.files.now in
    let i : ℕ = c.loop-file.file-index in
    let within : i < length files = omega (arith, c.loop-file-test.true) in
    next_file c.args.leaves.now files i c.file-item.result (string_bytes c.loop-file.text) (string_bytes c.push_str.new.self) (string_bytes c.in_ok-lines.lines) within c.file-item.is
    c.loop-file.invariant c.in_ok-lines.ensures
    (c.in_ok-push_str.ensures.bytes ∙ ap (λ (t : List ℕ). string_bytes c.loop-file.text ++ t) c.deref.ensures)

pub returns : goal.returns
returns c = all_files c.args.leaves.now c.args.files.now c.loop-file.file-index (string_bytes c.loop-file.text) (omega (arith, c.loop-file-test.false)) c.loop-file.invariant
