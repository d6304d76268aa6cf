use Rattle.std.proofs.Common.{◌∙◌, length, drop, arith}
use Rattle.std.proofs.lemmas.List.{length-drop, take_all}
use Rattle.pass_file.proofs.digests.behind.Goals as goal

pub returns : goal.returns
returns c =
    let bytes = c.args.bytes.now in
    c.piece.ensures ∙ take_all (length bytes) (drop c.args.skip bytes) (let d = length-drop c.args.skip bytes in omega (arith, d))
