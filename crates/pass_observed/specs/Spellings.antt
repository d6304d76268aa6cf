-- How the words of a run are spelled as attributes and values of a trace. This project's own rule.
use Rattle.std.specs.Prelude.{ℕ, ◌-◌, ◌==◌, ◌&&◌, Bool, not, nat_le, List, [], ◌∷◌, ◌++◌, length, codes, if◌then◌else◌}
use Rattle.std.specs.List.{flat_map}
use Rattle.percent_encoding.specs.Percent.{percent_encode_byte}
use Rattle.pass_entry.specs.Limits.{name_limit}
use Rattle.pass_entry.specs.Texts.{is_name_byte}

-- a byte from ! to ~ but for the percent sign (37), which stands for itself
abbrev pub is_kept_byte : ℕ → Bool
is_kept_byte b = is_name_byte b && not (b == 37)

-- any other byte is `%` and two digits in base 16
abbrev pub spelled_byte : ℕ → List ℕ
spelled_byte b = if is_kept_byte b then b ∷ [] else percent_encode_byte b

abbrev pub whole_spelling : List ℕ → List ℕ
whole_spelling bytes = flat_map spelled_byte bytes

-- the bytes from the front, spelled, up to the first for which there is no room
abbrev pub fitting : ℕ → List ℕ → List ℕ
fitting room [] = []
fitting room (b ∷ bytes) =
    if nat_le (length (spelled_byte b)) room
    then spelled_byte b ++ fitting (room - length (spelled_byte b)) bytes
    else []

-- what has at most 255 bytes is whole, and else a front of it with a mark, in 255 bytes
abbrev pub short_spelling : List ℕ → List ℕ
short_spelling bytes =
    if nat_le (length (whole_spelling bytes)) name_limit
    then whole_spelling bytes
    else fitting (name_limit - 6) bytes ++ codes "%:more"

-- no byte is spelled `%:`
abbrev pub word_spelling : List ℕ → List ℕ
word_spelling bytes = if length bytes == 0 then codes "%:" else short_spelling bytes
