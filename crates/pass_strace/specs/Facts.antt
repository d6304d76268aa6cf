-- How a trace says what is said of a run as a whole. This project's own rule.
use Rattle.std.specs.Prelude.{ℕ, ◌≡◌, ◌==◌, ◌&&◌, Bool, true, false, not, List, [], ◌∷◌, ◌++◌, length, map, take, if◌then◌else◌}
use Rattle.std.specs.List.{find}
use Rattle.std.specs.Option.{option_map_or}
use Rattle.pass_trace.specs.Texts.{text_of}
use Rattle.pass_trace.specs.declared.trace.Command.{Command}
use Rattle.pass_trace.specs.declared.trace.Command.TheVariants.{Close, Disclose, MkObj, Pipe, Read, Tag}
use Rattle.pass_trace.specs.declared.trace.TraceLine.{TraceLine}
use Rattle.pass_strace.specs.declared.facts.Fact.{Fact}

-- a line of process 1, which is written without its number
abbrev pub line_of : Command → TraceLine
line_of command = record { number = 0; process = 1; command = command }

-- process 1 makes the app object of the run
abbrev pub first_lines : List TraceLine
first_lines = line_of (MkObj 0) ∷ []

-- a fact is an attribute of the object
abbrev pub tag_line : Fact → TraceLine
tag_line fact = line_of (Tag 0 fact.name fact.value)

abbrev pub tag_lines : List Fact → List TraceLine
tag_lines facts = map tag_line facts

-- and the object is disclosed to a pipe, which 63 reads and nobody writes
abbrev pub last_lines : List TraceLine
last_lines = line_of (Pipe 63 1) ∷ line_of (Disclose 1 0) ∷ line_of (Close 1) ∷ line_of (Close 0) ∷ []

-- what is said of a run stands in these lines; where nothing is said, there is none
abbrev pub fact_lines : List Fact → List TraceLine
fact_lines facts = if length facts == 0 then [] else first_lines ++ tag_lines facts ++ last_lines

-- the text begins with them
abbrev pub BeginsWith : List Fact → List ℕ → Type 0
BeginsWith facts text = take (length (text_of (fact_lines facts))) text ≡ text_of (fact_lines facts)

-- the line reads the pipe, as the run's first process
abbrev pub reads_pipe : Command → Bool
reads_pipe (Read fd len) = fd == 63
reads_pipe _ = false

abbrev pub is_told : TraceLine → Bool
is_told line = (line.process == 2) && reads_pipe line.command

-- the first line of another process than 1, where there is one, reads the pipe
abbrev pub begins_told : List TraceLine → Bool
begins_told lines = option_map_or is_told (find (λ line. not (line.process == 1)) lines) true

-- where something is said of the run, its first process begins by that
abbrev pub IsTold : List Fact → List TraceLine → Type 0
IsTold facts lines = (length facts == 0) ≡ false → begins_told lines ≡ true
