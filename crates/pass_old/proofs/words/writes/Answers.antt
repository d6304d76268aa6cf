use Rattle.std.proofs.Common.{arith, sym}
use Rattle.std.specs.Prelude.{map, string_bytes}
use Rattle.std.proofs.lemmas.List.{length-map}
use Rattle.pass_old.proofs.Worded.{writes_more, writes_two}
use Rattle.pass_old.proofs.words.writes.Goals as goal

pub returns-in-len2 : goal.returns-in-len2
returns-in-len2 c = sym (writes_two (map string_bytes c.args.words.now) (omega (arith, c.in-len2.len_at_least, length-map c.args.words.now string_bytes)) (omega (arith, c.in-len2.len_below, length-map c.args.words.now string_bytes)))

pub returns-in-len4-up : goal.returns-in-len4-up
returns-in-len4-up c = sym (writes_more (map string_bytes c.args.words.now) (omega (arith, c.in-len4-up.len_at_least, length-map c.args.words.now string_bytes)))
