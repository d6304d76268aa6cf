-- The report of a run: what each call was answered, the version graph, the objects, who waits, and how it ended.
-- The format is this project's own.
use Rattle.std.specs.Prelude.{ℕ, ◌-◌, Bool, false, not, ◌&&◌, List, [], ◌∷◌, ◌++◌, Option, Some, None, codes, length, filter_map, flat_map, find, fold, zip, slice_get, option_map, if◌then◌else◌, ◌==◌}
use Rattle.std.specs.Option.{option_map_or, option_to_list}
use Rattle.std.specs.List.{enumerate_from, list_any}
use Rattle.std.specs.Ordering.{nat_cmp}
use Rattle.std.specs.declared.cmp.Ordering.{Ordering}
use Rattle.std.specs.Cmp.Lexicographic.{slice_cmp}
use Rattle.std.specs.BTreeSet.{insert_key}
use Rattle.std.specs.Fmt.{decimal}
use Rattle.md5.specs.Md5.{md5}
use Rattle.hex.specs.Hex.{encode_lower}
use Rattle.pass_entry.specs.Words.{call_word, fault_word, kind_word, node_text}
use Rattle.pass_entry.specs.declared.entry.Entry.{Entry}
use Rattle.pass_entry.specs.declared.entry.Act.{Act}
use Rattle.pass_entry.specs.declared.entry.Act.TheVariants as act
use Rattle.pass_entry.specs.declared.entry.Reply.{Reply}
use Rattle.pass_entry.specs.declared.entry.Reply.TheVariants as answer
use Rattle.pass_entry.specs.declared.objects.Kind.{Kind}
use Rattle.pass_entry.specs.declared.objects.Node.{Node}
use Rattle.pass_entry.specs.declared.record.Record.{Record}
use Rattle.pass_entry.specs.declared.record.Record.TheVariants as log
use Rattle.pass_plain.specs.declared.start.Start.{Start}
use Rattle.pass_plain.specs.Histories.{bytes_at, made_object}
use Rattle.pass_plain.specs.Sessions.{Session}
use Rattle.pass_plain.specs.Outlines.{SameButBytes}
use Rattle.pass_plain.specs.Sound.{IsSound}
use Rattle.pass_plain.specs.Registries.{registry_after}
use Rattle.pass_plain.specs.Calls.{is_last}
use Rattle.pass_plain.specs.Legal.{IsLegal, is_start, before_call, is_over}
use Rattle.pass_plain.specs.Versions.{nodes_of, version_after}
use Rattle.pass_plain.specs.Records.{records_of}
use Rattle.pass_plain.specs.Traces.{Line, LineCall, fork_as, lines_of}
use Rattle.pass_plain.specs.Runs.{IsRun, pnode_of_process, is_open}
use Rattle.pass_trace.specs.declared.trace.TraceLine.{TraceLine}
use Rattle.pass_trace.specs.TraceLines.{plain_trace, session_of_trace}

-- each value once, in ascending order
abbrev pub ascending : {K : Type 0} (R : K → K → Ordering) → List K → List K
ascending R ks = fold (insert_key R) [] ks

-- the node of the entry at a place, if there is one
abbrev pub text_at : List Node → ℕ → List ℕ
text_at nodes place = option_map_or node_text (slice_get nodes place) []

-- the number and the MD5 (RFC 1321) of bytes that were read
abbrev pub bytes_text : List ℕ → List ℕ
bytes_text bytes = decimal (length bytes) ++ codes " " ++ encode_lower (md5 bytes)

-- what the last act of a call answers to its process, where it is no fault: what was made or opened, what was read and from
-- which node, how much was written and to which node, the node that was begun. `node` is the entry's own
abbrev pub act_answer : List Entry → List Node → Node → Act → List ℕ
act_answer history nodes node (act.Attach fd d) = codes "pnode " ++ decimal d.pnode
act_answer history nodes node (act.AttachPipe reader writer pnode) = codes "pnode " ++ decimal pnode
act_answer history nodes node (act.Born out descriptors) = codes "pnode " ++ decimal node.pnode
act_answer history nodes node (act.Gain out fd) = bytes_text (bytes_at history out) ++ codes " from " ++ text_at nodes out
act_answer history nodes node (act.Put out at bytes) = decimal (length bytes) ++ codes " to " ++ node_text node
act_answer history nodes node (act.Push out bytes) = decimal (length bytes) ++ codes " to " ++ node_text node
act_answer history nodes node act.Freeze = codes "node " ++ node_text node
act_answer history nodes node _ = codes "ok"

-- a fault by its name, and else what the act answers
abbrev pub answer_of : List Entry → List Node → Node → Act → Reply → List ℕ
answer_of history nodes node a (answer.Fault fault) = codes "fault " ++ fault_word fault
answer_of history nodes node a _ = act_answer history nodes node a

-- the line of the call that an entry ends
abbrev pub call_line : List Entry → List Node → Entry → Node → List ℕ
call_line history nodes e node =
    codes "call " ++ decimal e.who ++ codes " " ++ decimal e.number ++ codes " " ++ call_word e.call ++ codes " "
    ++ answer_of history nodes node e.act e.reply ++ 10 ∷ []

-- the entry ends a call that a process made
abbrev pub is_answered : List Entry → Entry → Bool
is_answered history e = not (is_start e.call) && is_last (before_call history e.who e.number) e

-- a line for each answered call, in the order of the places of the calls' last entries
abbrev pub call_lines : Session → List Entry → List ℕ
call_lines session history =
    let nodes = nodes_of session history in
    flat_map (λ s. if is_answered history s.0 then call_line history nodes s.0 s.1 else []) (zip history nodes)

-- a target and its source
abbrev pub Edge : Type 0
Edge = Node × Node

-- the edges of a record: from a target to its source, and from a new version to the one before it
abbrev pub edges_of_record : Record → List Edge
edges_of_record (log.Input target source) = (target, source) ∷ []
edges_of_record (log.Version node) = (node, record { pnode = node.pnode; version = node.version - 1 }) ∷ []
edges_of_record _ = []

abbrev pub edge_numbers : Edge → List ℕ
edge_numbers e = e.0.pnode ∷ e.0.version ∷ e.1.pnode ∷ e.1.version ∷ []

abbrev pub edge_cmp : Edge → Edge → Ordering
edge_cmp a b = slice_cmp nat_cmp (edge_numbers a) (edge_numbers b)

abbrev pub edge_line : Edge → List ℕ
edge_line e = codes "edge " ++ node_text e.0 ++ codes " " ++ node_text e.1 ++ 10 ∷ []

-- a line for each edge of the history's records
abbrev pub edge_lines : List Record → List ℕ
edge_lines list = flat_map edge_line (ascending edge_cmp (flat_map edges_of_record list))

-- the objects that the history made, and those of its entries
abbrev pub touched : List Entry → List ℕ
touched history = flat_map (λ e. e.what ∷ option_to_list (made_object e.act e.reply)) history

abbrev pub kind_of : Session → List Entry → ℕ → Option Kind
kind_of session history pnode = option_map (λ o. o.1) (find (λ o. o.0 == pnode) (registry_after session history).objects)

-- an object with its kind and its last version; the registry is none
abbrev pub object_line : Session → List Entry → ℕ → List ℕ
object_line session history pnode =
    option_map_or
    (λ k. codes "object " ++ decimal pnode ++ codes " " ++ kind_word k ++ codes " " ++ decimal (version_after session history pnode) ++ 10 ∷ [])
    (kind_of session history pnode) []

abbrev pub object_lines : Session → List Entry → List ℕ
object_lines session history = flat_map (object_line session history) (ascending nat_cmp (touched history))

abbrev pub forked_by : LineCall → Option ℕ
forked_by (fork_as child) = Some child
forked_by _ = None

-- process 1, and those that a line forks
abbrev pub trace_processes : List Line → List ℕ
trace_processes trace = 1 ∷ filter_map (λ l. forked_by l.call) trace

-- the call of this number of a process of the trace is answered
abbrev pub is_done : Session → List Line → List Entry → ℕ → ℕ → Bool
is_done session trace history process number =
    option_map_or (λ who. is_over history who number) (pnode_of_process session trace history process) false

-- the first line of a process that isn't answered
abbrev pub next_line : Session → List Line → List Entry → ℕ → Option Line
next_line session trace history process =
    option_map (λ s. s.1) (find (λ s. not (is_done session trace history process s.0)) (enumerate_from 1 (lines_of trace process)))

abbrev pub waiting_line : Session → List Line → List Entry → ℕ → List ℕ
waiting_line session trace history process =
    option_map_or (λ l. codes "waiting " ++ decimal process ++ codes " " ++ decimal l.number ++ 10 ∷ [])
    (next_line session trace history process) []

-- a line for each process of the trace with a line that isn't answered
abbrev pub waiting_lines : Session → List Line → List Entry → List ℕ
waiting_lines session trace history = flat_map (waiting_line session trace history) (ascending nat_cmp (trace_processes trace))

-- some process of the trace is open
abbrev pub is_stuck : Session → List Line → List Entry → Bool
is_stuck session trace history = list_any (is_open session trace history) (trace_processes trace)

abbrev pub end_line : Session → List Line → List Entry → List ℕ
end_line session trace history =
    codes "end " ++ (if is_stuck session trace history then codes "stuck " else codes "done ") ++ decimal (length history)
    ++ codes " entries " ++ decimal (length (records_of session history)) ++ codes " records" ++ 10 ∷ []

-- the report of a history of a session that runs a trace
abbrev pub session_report : Session → List Line → List Entry → List ℕ
session_report session trace history =
    call_lines session history ++ edge_lines (records_of session history) ++ object_lines session history
    ++ waiting_lines session trace history ++ end_line session trace history

-- the report of a run of a trace from a start
abbrev pub report_of : Start → List Entry → List TraceLine → List ℕ
report_of start history lines = session_report (session_of_trace start lines) (plain_trace lines) history

-- from `full`, which is the start but for the bytes of its files, the history is a run of the trace
pub record IsRunFrom (start : Start) (history : List Entry) (lines : List TraceLine) (full : Start) : Type 0 where
  pub same : SameButBytes start full
  pub sound : IsSound (session_of_trace full lines)
  pub run : IsRun (session_of_trace full lines) (plain_trace lines) history

-- the history is legal in a session that opens with this start, which may lack the bytes of its files
pub record IsLegalFrom (start : Start) (history : List Entry) (session : Session) : Type 0 where
  pub same : SameButBytes start session.start
  pub sound : IsSound session
  pub legal : IsLegal session history
