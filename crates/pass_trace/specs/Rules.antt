-- The rules that look at the earlier lines of a trace. All of them are this project's own.
use Rattle.std.specs.Prelude.{◌≡◌, ℕ, ◌&&◌, ◌||◌, ◌==◌, nat_le, Bool, true, false, not, List, [], ◌∷◌, ◌++◌, if◌then◌else◌, Option, Some, None, count_by}
use Rattle.std.specs.List.{list_any}
use Rattle.pass_trace.specs.declared.limits.Scale.{Scale}
use Rattle.pass_trace.specs.Limits.{most_created}
use Rattle.pass_trace.specs.Ranges.{IsGoodLine}
use Rattle.pass_trace.specs.declared.trace.Command.{Command}
use Rattle.pass_trace.specs.declared.trace.Command.TheVariants.{Creat, Pipe, Fork, Wait, Await, MkObj}
use Rattle.pass_trace.specs.declared.trace.TraceLine.{TraceLine}
use Rattle.pass_trace.specs.declared.trace.TraceReason.{TraceReason}
use Rattle.pass_trace.specs.declared.trace.TraceReason.TheVariants as reason

-- the command forks this process
abbrev pub is_fork_of : ℕ → Command → Bool
is_fork_of child (Fork q) = q == child
is_fork_of child _ = false

-- the line forks this process
abbrev pub forks : ℕ → TraceLine → Bool
forks child line = is_fork_of child line.command

-- the line is a line of this parent and forks this process
abbrev pub forks_as : ℕ → ℕ → TraceLine → Bool
forks_as parent child line = (line.process == parent) && forks child line

-- process 1, or one that an earlier line forks
abbrev pub is_there : List TraceLine → ℕ → Bool
is_there earlier process = (process == 1) || list_any (forks process) earlier

-- a fork names a process that isn't there, a wait or an await one that an earlier line of the same process forks
abbrev pub may_call : List TraceLine → ℕ → Command → Bool
may_call earlier process (Fork child) = not (is_there earlier child)
may_call earlier process (Wait child) = list_any (forks_as process child) earlier
may_call earlier process (Await child) = list_any (forks_as process child) earlier
may_call earlier process _ = true

-- the calls that make an object
abbrev pub creates : Command → Bool
creates (Creat fd name) = true
creates (Pipe reader writer) = true
creates (Fork child) = true
creates (MkObj fd) = true
creates _ = false

-- how many of the lines make an object
abbrev pub count_created : List TraceLine → ℕ
count_created lines = count_by (λ line. creates line.command) lines

-- The first reason why a line may not stand behind the earlier ones. The objects that it may make are
-- counted beside its first process.
abbrev pub rule_of : Scale → List TraceLine → TraceLine → Option TraceReason
rule_of scale earlier line =
    if not (is_there earlier line.process && may_call earlier line.process line.command) then Some reason.Process
    else if creates line.command && nat_le (most_created scale) (count_created earlier) then Some reason.Many
    else None

-- the process that a command names, or 0
abbrev pub child_of : Command → ℕ
child_of (Fork child) = child
child_of (Wait child) = child
child_of (Await child) = child
child_of _ = 0

-- the lines may stand behind the earlier ones, each with its fields in their ranges and no reason against its place
abbrev pub LinesFollow : Scale → List TraceLine → List TraceLine → Type 0
LinesFollow scale earlier [] = Unit {0}
LinesFollow scale earlier (line ∷ lines) = IsGoodLine scale line × (rule_of scale earlier line ≡ None) × LinesFollow scale (earlier ++ line ∷ []) lines
