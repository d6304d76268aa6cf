-- A name is a line of text too.
use Rattle.std.proofs.Common.{◌≡◌, ℕ, true, List, [], ◌∷◌, arith, refl}
use Rattle.std.proofs.lemmas.Bool.Decides.{nat_tests}
use Rattle.std.specs.List.{list_all}
use Rattle.pass_entry.specs.Texts.{is_line, is_line_byte, is_line_length, is_name_byte, is_name_length}
use Rattle.pass_entry.proofs.Lists.{true_left, true_right, both_true}

pub name_byte-line : (b : ℕ) → is_name_byte b ≡ true → is_line_byte b ≡ true
name_byte-line b h = grind (arith, nat_tests)

name_bytes-line : (bytes : List ℕ) → list_all is_name_byte bytes ≡ true → list_all is_line_byte bytes ≡ true
name_bytes-line [] h = refl
name_bytes-line (b ∷ bytes) h =
    both_true _ _ (name_byte-line b (true_left (is_name_byte b) (list_all is_name_byte bytes) h))
    (name_bytes-line bytes (true_right (is_name_byte b) (list_all is_name_byte bytes) h))

name_length-line : (bytes : List ℕ) → is_name_length bytes ≡ true → is_line_length bytes ≡ true
name_length-line bytes h = grind (arith, nat_tests)

pub name-line : (bytes : List ℕ) → is_name_length bytes ≡ true → list_all is_name_byte bytes ≡ true → is_line bytes ≡ true
name-line bytes within printable = both_true _ _ (name_length-line bytes within) (name_bytes-line bytes printable)
