-- The forms of words and what words stand for. All rules here are this project's own.
use Rattle.std.specs.Prelude.{ℕ, ◌+◌, ◌-◌, ◌*◌, ◌%◌, ◌&&◌, ◌||◌, ◌==◌, nat_le, nat_lt, Bool, true, false, not, List, [], ◌∷◌, length, take, drop, fold, slice_index, codes, if◌then◌else◌, Option, Some, None}
use Rattle.std.specs.List.{list_all}
use Rattle.std.specs.Cmp.Lexicographic.{pointwise}
use Rattle.pass_entry.specs.Texts.{is_name_byte}
use Rattle.pass_trace.specs.declared.call.Form.{Form}
use Rattle.pass_trace.specs.declared.call.Form.TheVariants.{Number, Name, Mode, Payload, Rest}

-- the bytes are those of the text
abbrev pub is_text : List ℕ → List ℕ → Bool
is_text bytes text = pointwise ◌==◌ bytes text

-- a decimal digit
abbrev pub is_digit : ℕ → Bool
is_digit b = nat_le 48 b && nat_le b 57

-- 1 to 19 decimal digits, the first of which isn't 0 where there are more
abbrev pub is_number : List ℕ → Bool
is_number word = not (length word == 0) && (nat_le (length word) 19 && (list_all is_digit word && ((length word == 1) || nat_lt 48 (slice_index word 0))))

-- one or more bytes from ! to ~
abbrev pub is_word : List ℕ → Bool
is_word word = not (length word == 0) && list_all is_name_byte word

-- r, w or rw
abbrev pub is_mode : List ℕ → Bool
is_mode word = is_text word (codes "r") || (is_text word (codes "w") || is_text word (codes "rw"))

-- a digit of a number in base 16, with lower-case letters
abbrev pub is_hex : ℕ → Bool
is_hex b = (nat_le 48 b && nat_le b 57) || (nat_le 97 b && nat_le b 102)

-- N:HH, a number and two digits in base 16
abbrev pub is_repeated : List ℕ → Bool
is_repeated bytes = not (nat_lt (length bytes) 4) && (is_number (take (length bytes - 3) bytes) && ((slice_index bytes (length bytes - 3) == 58) && list_all is_hex (drop (length bytes - 2) bytes)))

-- t: and bytes from ! to ~, x: and an even number of digits in base 16, r:N:HH, or buf
abbrev pub is_payload : List ℕ → Bool
is_payload word =
    if is_text word (codes "buf") then true
    else if is_text (take 2 word) (codes "t:") then list_all is_name_byte (drop 2 word)
    else if is_text (take 2 word) (codes "x:") then ((length (drop 2 word) % 2 == 0) && list_all is_hex (drop 2 word))
    else if is_text (take 2 word) (codes "r:") then is_repeated (drop 2 word)
    else false

-- the word has the form of its field
abbrev pub has_form : Form → List ℕ → Bool
has_form Number word = is_number word
has_form Name word = is_word word
has_form Mode word = is_mode word
has_form Payload word = is_payload word
has_form Rest word = is_word word

-- the words have the forms, one each; `Rest` takes all words that are left
abbrev pub have_forms : List Form → List (List ℕ) → Bool
have_forms [] [] = true
have_forms [] (word ∷ words) = false
have_forms (Rest ∷ forms) words = list_all is_word words
have_forms (form ∷ forms) [] = false
have_forms (form ∷ forms) (word ∷ words) = has_form form word && have_forms forms words

-- there are forms, and the words have them
abbrev pub have_these : Option (List Form) → List (List ℕ) → Bool
have_these None words = false
have_these (Some forms) words = have_forms forms words

-- the number that decimal digits write
abbrev pub value_of : List ℕ → ℕ
value_of word = fold (λ n b. 10 * n + (b - 48)) 0 word
