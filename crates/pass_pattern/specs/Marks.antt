-- What the bytes of a pattern's text mean outside names.
use Rattle.std.specs.Prelude.{ℕ, ◌==◌, if◌then◌else◌}
use Rattle.pass_pattern.specs.declared.pattern.EdgeTest.TheVariants as test
use Rattle.pass_pattern.specs.declared.reader.Mark.{Mark}
use Rattle.pass_pattern.specs.declared.reader.Mark.TheVariants.{Letter, Brace, Star, Slash, Bar, Open, Close, Other}

-- i, v and e are letters; then { * / | ( )
abbrev pub mark_of : ℕ → Mark
mark_of byte =
    if byte == 105 then Letter test.Other
    else if byte == 118 then Letter test.Same
    else if byte == 101 then Letter test.Any
    else if byte == 123 then Brace
    else if byte == 42 then Star
    else if byte == 47 then Slash
    else if byte == 124 then Bar
    else if byte == 40 then Open
    else if byte == 41 then Close
    else Other
