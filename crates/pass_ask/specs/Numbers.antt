-- Numbers and nodes among the words. This project's own rule.
use Rattle.std.specs.Prelude.{ℕ, ◌+◌, ◌^◌, ◌==◌, ◌&&◌, ◌||◌, Bool, not, nat_le, nat_lt, length, slice_index, List, Option, Some, None, option_and_then, take, drop, if◌then◌else◌}
use Rattle.std.specs.List.{list_all, position}
use Rattle.pass_entry.specs.declared.objects.Node.{Node}
use Rattle.pass_trace.specs.Words.{is_digit, is_number, value_of}

-- the number that the word writes, as numbers are written in traces, where it is from `low` to `high`
abbrev pub number_in : ℕ → ℕ → List ℕ → Option ℕ
number_in low high word = if is_number word && (nat_le low (value_of word) && nat_le (value_of word) high) then Some (value_of word) else None

-- 1 to so many decimal digits, the first of which isn't 0 where there are more
abbrev pub is_number_to : ℕ → List ℕ → Bool
is_number_to most word = not (length word == 0) && (nat_le (length word) most && (list_all is_digit word && ((length word == 1) || nat_lt 48 (slice_index word 0))))

-- the number below 2 ^ 64 that the word writes
abbrev pub seed_in : List ℕ → Option ℕ
seed_in word = if is_number_to 20 word && nat_lt (value_of word) (2 ^ 64) then Some (value_of word) else None

-- the greatest number of an object, and of a version: 2 ^ 48 - 1
abbrev pub last_number : ℕ
last_number = 281474976710655

abbrev pub node_of : Option ℕ → Option ℕ → Option Node
node_of (Some pnode) (Some version) = Some (record { pnode = pnode; version = version })
node_of _ _ = None

-- P.V, two numbers from 1 with a dot between them
abbrev pub node_in : List ℕ → Option Node
node_in word = option_and_then (λ dot. node_of (number_in 1 last_number (take dot word)) (number_in 1 last_number (drop (dot + 1) word))) (position (λ b. b == 46) word)
