-- A text is a string.
use Rattle.std.proofs.Common.{ℕ, ◌≡◌, ◌<◌, zero, suc, true, List, [], ◌∷◌, arith}
use Rattle.std.specs.List.{list_all}
use Rattle.std.specs.Str.{IsAscii, IsUtf8}
use Rattle.std.proofs.lemmas.Bool.Decides.{nat_tests}
use Rattle.std.proofs.lemmas.Str.{IsUtf8-from_ascii}
use Rattle.pass_entry.specs.Texts.{is_line_byte, is_line_length, IsLine}
use Rattle.pass_plain.proofs.Lists.{true_left, true_right}

pub low : (b : ℕ) → is_line_byte b ≡ true → b < 128
low b h = grind (arith, nat_tests)

ascii : (bytes : List ℕ) → list_all is_line_byte bytes ≡ true → IsAscii bytes
ascii [] h i = omega arith
ascii (b ∷ bytes) h zero = low b (true_left (is_line_byte b) (list_all is_line_byte bytes) h)
ascii (b ∷ bytes) h (suc i) = ascii bytes (true_right (is_line_byte b) (list_all is_line_byte bytes) h) i

pub line_utf8 : (text : List ℕ) → IsLine text → IsUtf8 text
line_utf8 text line = IsUtf8-from_ascii text (ascii text (true_right (is_line_length text) (list_all is_line_byte text) line))
