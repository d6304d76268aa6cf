-- How many places of a history the run of a trace takes at most.
use Rattle.std.specs.Prelude.{ℕ, ◌+◌, List, []}
use Rattle.pass_plain.specs.Places.{need_of}
use Rattle.pass_plain.specs.Traces.{Line, LineCall, name_of_call}
use Rattle.pass_replay.specs.Making.{sum_lines}

-- what the call of a line needs
abbrev pub need_of_line : LineCall → ℕ
need_of_line call = need_of (name_of_call call)

-- the first entry and the exit of the first process, and what each line needs: a fork has the exit of its child with it
abbrev pub places_of : List Line → ℕ
places_of trace = 66 + sum_lines (λ process number call. need_of_line call) [] trace
