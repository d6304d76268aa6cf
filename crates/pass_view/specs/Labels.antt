-- What is written of a node. This project's own rule.
use Rattle.std.specs.Prelude.{ℕ, ◌==◌, ◌&&◌, ◌||◌, Bool, not, nat_le, List, [], ◌∷◌, ◌++◌, length, Option, Some, None, option_map, bytes_eq, codes, take, if◌then◌else◌}
use Rattle.std.specs.List.{find, flat_map, list_all, slice_split}
use Rattle.percent_encoding.specs.Percent.{percent_decode, percent_encode_byte}
use Rattle.pass_entry.specs.Texts.{is_line_byte}
use Rattle.pass_entry.specs.Words.{kind_word, node_text}
use Rattle.pass_entry.specs.declared.objects.Kind.TheVariants as kind
use Rattle.pass_plain.specs.Registries.{same_kind}
use Rattle.pass_view.specs.declared.picture.Shown.{Shown}

-- the first value of the attribute among these
abbrev pub value_among : List (List ℕ × List ℕ) → List ℕ → Option (List ℕ)
value_among tags attr = option_map (λ t. t.1) (find (λ t. bytes_eq t.0 attr) tags)

-- the program that a process's version ran, and its arguments
abbrev pub program_of : Shown → Option (List ℕ)
program_of shown = value_among shown.tags.items (codes "EXE")

abbrev pub arguments_of : Shown → Option (List ℕ)
arguments_of shown = value_among shown.tags.items (codes "ARGV")

-- Words of a shell's line

-- a word of a trace, whose `%HH` are bytes; `%:` is the empty word
abbrev pub word_bytes : List ℕ → List ℕ
word_bytes word = if bytes_eq word (codes "%:") then [] else percent_decode word

-- a letter, a digit, or one of `+,-./:@`
abbrev pub is_in_plain_range : ℕ → Bool
is_in_plain_range b = (nat_le 43 b && nat_le b 58) || ((nat_le 64 b && nat_le b 90) || (nat_le 97 b && nat_le b 122))

-- one of `%=_`
abbrev pub is_plain_sign : ℕ → Bool
is_plain_sign b = (b == 37) || ((b == 61) || (b == 95))

abbrev pub is_plain_byte : ℕ → Bool
is_plain_byte b = is_in_plain_range b || is_plain_sign b

abbrev pub is_plain_word : List ℕ → Bool
is_plain_word bytes = not (length bytes == 0) && list_all is_plain_byte bytes

-- a byte that isn't printed stays `%HH`
abbrev pub shown_byte : ℕ → List ℕ
shown_byte b = if is_line_byte b then b ∷ [] else percent_encode_byte b

-- a byte between single quotes, which have to end for a quote (39)
abbrev pub quoted_byte : ℕ → List ℕ
quoted_byte b = if b == 39 then codes "'\\''" else shown_byte b

-- as it stands where all its bytes are plain, and else in single quotes
abbrev pub shell_word : List ℕ → List ℕ
shell_word bytes = if is_plain_word bytes then flat_map quoted_byte bytes else codes "'" ++ (flat_map quoted_byte bytes ++ codes "'")

abbrev pub next_word : List ℕ → List ℕ
next_word word = codes " " ++ shell_word (word_bytes word)

-- arguments are words with a space (32) between two
abbrev pub arguments_text : Option (List ℕ) → List ℕ
arguments_text None = []
arguments_text (Some words) = flat_map next_word (slice_split (λ b. b == 32) words)

-- the program and its arguments as a person writes them
abbrev pub command_text : Option (List ℕ) → Option (List ℕ) → List ℕ
command_text None arguments = []
command_text (Some program) arguments = shell_word (word_bytes program) ++ arguments_text arguments

-- Labels

-- the name, or the last name of what has none any more
abbrev pub name_text : Option (List ℕ) → Option (List ℕ) → List ℕ
name_text (Some name) was = name
name_text None (Some was) = codes "was " ++ was
name_text None None = []

abbrev pub is_activity : Shown → Bool
is_activity s = same_kind s.kind kind.Process

-- what a process ran, and what any other object is called
abbrev pub title_of : Shown → List ℕ
title_of s = if is_activity s then command_text (program_of s) (arguments_of s) else name_text s.name s.was

-- at most 100 bytes, of more the first 97 and three dots
abbrev pub shortened : List ℕ → List ℕ
shortened bytes = if nat_le (length bytes) 100 then flat_map shown_byte bytes else flat_map shown_byte (take 97 bytes) ++ codes "..."

-- an attribute, and the front of its value, whose `%HH` are bytes
abbrev pub attribute_text : List ℕ × List ℕ → List ℕ
attribute_text tag = tag.0 ++ codes " " ++ shortened (word_bytes tag.1)

-- a text behind a space, where there is one
abbrev pub spaced : List ℕ → List ℕ
spaced text = if length text == 0 then [] else codes " " ++ text

-- the node, its kind and its title, with a space between two
abbrev pub label_text : Shown → List ℕ
label_text s = node_text s.node ++ codes " " ++ kind_word s.kind ++ spaced (title_of s)
