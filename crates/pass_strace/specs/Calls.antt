-- Which lines of a text of strace are calls that its trace has to tell, or to leave out and say so. The form is that of strace's own
-- lines, by `-f` and `-xx`; the rule is this project's own.
use Rattle.std.specs.Prelude.{ℕ, ◌≡◌, ◌+◌, ◌-◌, ◌<◌, ◌⊎◌, ◌==◌, ◌||◌, ◌&&◌, Bool, true, not, nat_eq, nat_le, List, [], length, map, take, drop, reverse, slice_index_or, Option, Some, None, Contains, codes}
use Rattle.std.specs.Cmp.Lexicographic.{pointwise}
use Rattle.std.specs.List.{ends_with, position, slice_split, starts_with}
use Rattle.pass_observed.specs.declared.ledger.Skipped.{Skipped}

-- Parts of a line

-- what stands before the first byte of this value, or all
abbrev pub cut_at : Option ℕ → List ℕ → List ℕ
cut_at None text = text
cut_at (Some place) text = take place text

abbrev pub before : ℕ → List ℕ → List ℕ
before mark text = cut_at (position (λ b. b == mark) text) text

-- what stands behind the last byte of this value, or nothing
abbrev pub last_of : Option ℕ → List ℕ → List ℕ
last_of None text = []
last_of (Some count) text = drop (length text - count) text

abbrev pub behind_last : ℕ → List ℕ → List ℕ
behind_last mark text = last_of (position (λ b. b == mark) (reverse text)) text

-- without the spaces (32) in front
abbrev pub from_at : Option ℕ → List ℕ → List ℕ
from_at None text = []
from_at (Some place) text = drop place text

abbrev pub behind_spaces : List ℕ → List ℕ
behind_spaces text = from_at (position (λ b. not (b == 32)) text) text

-- the number of the thread, and what stands behind it
abbrev pub process_of : List ℕ → List ℕ
process_of line = before 32 line

abbrev pub said_of : List ℕ → List ℕ
said_of line = behind_spaces (drop (length (process_of line)) line)

-- what stands before the first parenthesis (40), which is a call's name where there is one
abbrev pub name_of : List ℕ → List ℕ
name_of said = before 40 said

-- Calls

abbrev pub is_text : List ℕ → List ℕ → Bool
is_text bytes text = pointwise ◌==◌ bytes text

-- calls that open files, and that give, double and close descriptors
abbrev pub is_opening : List ℕ → Bool
is_opening name =
    is_text name (codes "open") || (is_text name (codes "openat") || (is_text name (codes "openat2") || (is_text name (codes "creat") || (is_text name (codes "close") || (is_text name (codes "close_range") || (is_text name (codes "dup") || (is_text name (codes "dup2") || (is_text name (codes "dup3") || (is_text name (codes "fcntl") || (is_text name (codes "pipe") || is_text name (codes "pipe2")))))))))))

-- calls that read
abbrev pub is_reading : List ℕ → Bool
is_reading name =
    is_text name (codes "read") || (is_text name (codes "readv") || (is_text name (codes "pread64") || (is_text name (codes "preadv") || is_text name (codes "preadv2"))))

-- calls that write, or copy from a descriptor to another
abbrev pub is_writing : List ℕ → Bool
is_writing name =
    is_text name (codes "write") || (is_text name (codes "writev") || (is_text name (codes "pwrite64") || (is_text name (codes "pwritev") || (is_text name (codes "pwritev2") || (is_text name (codes "vmsplice") || (is_text name (codes "sendfile") || (is_text name (codes "copy_file_range") || (is_text name (codes "splice") || is_text name (codes "tee")))))))))

-- calls that begin processes and programs
abbrev pub is_beginning : List ℕ → Bool
is_beginning name =
    is_text name (codes "fork") || (is_text name (codes "vfork") || (is_text name (codes "clone") || (is_text name (codes "clone3") || (is_text name (codes "execve") || is_text name (codes "execveat")))))

abbrev pub is_kept_name : List ℕ → Bool
is_kept_name name = is_opening name || (is_reading name || (is_writing name || is_beginning name))

-- Answers

-- it goes on in a later line
abbrev pub is_unfinished : List ℕ → Bool
is_unfinished said = ends_with nat_eq said (codes " <unfinished ...>")

-- a space and a digit, and so neither a fault nor what isn't known
abbrev pub is_number : List ℕ → Bool
is_number answer = (slice_index_or answer 0 0 == 32) && (nat_le 48 (slice_index_or answer 1 0) && nat_le (slice_index_or answer 1 0) 57)

-- behind the last equals sign (61) stands a number
abbrev pub is_answered : List ℕ → Bool
is_answered said = is_number (behind_last 61 said)

-- a call of these that was begun and answered on one line
abbrev pub is_said_call : List ℕ → Bool
is_said_call said = is_kept_name (name_of said) && (not (is_unfinished said) && is_answered said)

abbrev pub is_kept_call : List ℕ → Bool
is_kept_call line = is_said_call (said_of line)

-- Calls that go on in a later line

-- the name behind `<... `, up to a space (32), and what stands behind the first greater-than sign (62)
abbrev pub resumed_name : List ℕ → List ℕ
resumed_name said = before 32 (drop 5 said)

abbrev pub resumed_rest : List ℕ → List ℕ
resumed_rest said = drop (length (before 62 said) + 1) said

-- the rest of a call of these that is answered
abbrev pub is_resumed_call : List ℕ → Bool
is_resumed_call said = starts_with nat_eq said (codes "<... ") && (is_kept_name (resumed_name said) && is_answered (resumed_rest said))

abbrev pub is_kept_rest : List ℕ → Bool
is_kept_rest line = is_resumed_call (said_of line)

-- the thread goes on with the exec that another one began, whose number is behind these 32 bytes
abbrev pub is_superseded : List ℕ → Bool
is_superseded said = starts_with nat_eq said (codes "+++ superseded by execve in pid ")

abbrev pub superseder_of : List ℕ → List ℕ
superseder_of said = before 32 (drop 32 said)

-- behind it the thread has a call to go on with
abbrev pub is_left_open : List ℕ → Bool
is_left_open said = is_unfinished said || is_superseded said

-- Traces

-- the lines, between which LF (10) stands
abbrev pub lines_of : List ℕ → List (List ℕ)
lines_of text = slice_split (λ b. b == 10) text

abbrev pub line_at : List (List ℕ) → ℕ → List ℕ
line_at lines k = slice_index_or lines k []

-- of the lines before a place this is the last one that leaves a call of the thread open
pub record IsLastOpen (lines : List (List ℕ)) (process : List ℕ) (k j : ℕ) : Type 0 where
  pub earlier : j < k
  pub own : process_of (line_at lines j) ≡ process
  pub opens : is_left_open (said_of (line_at lines j)) ≡ true
  pub last : (m : ℕ) → j < m → m < k → is_left_open (said_of (line_at lines m)) ≡ true → process_of (line_at lines m) ≡ process → ⊥

-- a call of this name that isn't answered on its line
abbrev pub is_begun : List ℕ → List ℕ → Bool
is_begun name said = is_text (name_of said) name && is_unfinished said

-- the thread was superseded, and the line is of the one that began the exec
abbrev pub IsLastSuperseding : List (List ℕ) → List ℕ → ℕ → ℕ → Type 0
IsLastSuperseding lines process k j = (m : ℕ) × IsLastOpen lines process k m × (is_superseded (said_of (line_at lines m)) ≡ true) × IsLastOpen lines (superseder_of (said_of (line_at lines m))) k j

-- the call of this name, with which a thread goes on at a place, began at another
abbrev pub IsBegunAt : List (List ℕ) → List ℕ → List ℕ → ℕ → ℕ → Type 0
IsBegunAt lines name process k j = (is_begun name (said_of (line_at lines j)) ≡ true) × (IsLastOpen lines process k j ⊎ IsLastSuperseding lines process k j)

-- a line of the trace comes from the line with this number, or it is among those that are left out
abbrev pub HasLine : List ℕ → List Skipped → ℕ → Type 0
HasLine origins skipped number = Contains origins number ⊎ Contains (map (λ s. s.line) skipped) number

-- the line where the call of a place began is one of these
abbrev pub HasBegin : List (List ℕ) → List ℕ → List Skipped → ℕ → Type 0
HasBegin lines origins skipped k = (j : ℕ) × IsBegunAt lines (resumed_name (said_of (line_at lines k))) (process_of (line_at lines k)) k j × HasLine origins skipped (j + 1)

-- the call at a place, where there is one, is told or left out by its line
abbrev pub KeepsWhole : List (List ℕ) → List ℕ → List Skipped → ℕ → Type 0
KeepsWhole lines origins skipped k = is_kept_call (line_at lines k) ≡ true → HasLine origins skipped (k + 1)

-- the call that goes on at a place is told or left out by the line where it ended, or by that where it began
abbrev pub KeepsRest : List (List ℕ) → List ℕ → List Skipped → ℕ → Type 0
KeepsRest lines origins skipped k = is_kept_rest (line_at lines k) ≡ true → HasLine origins skipped (k + 1) ⊎ HasBegin lines origins skipped k

-- none of these calls is lost
pub record KeepsCalls (lines : List (List ℕ)) (origins : List ℕ) (skipped : List Skipped) : Type 0 where
  pub whole : (k : ℕ) → k < length lines → KeepsWhole lines origins skipped k
  pub rest : (k : ℕ) → k < length lines → KeepsRest lines origins skipped k
