-- What the graph of every legal history is.
use Rattle.std.specs.Prelude.{ℕ, ◌≡◌, ◌≤◌, ◌<◌, min, max, true, false, List, [], Some, take, ◌↔◌, Contains}
use Rattle.pass_entry.specs.declared.entry.Entry.{Entry}
use Rattle.pass_entry.specs.declared.objects.Node.{Node}
use Rattle.pass_entry.specs.declared.record.Record.{Record}
use Rattle.pass_entry.specs.declared.record.Record.TheVariants as log
use Rattle.pass_plain.specs.Sessions.{Session}
use Rattle.pass_plain.specs.Legal.{IsLegal}
use Rattle.pass_plain.specs.Sound.{IsSound}
use Rattle.pass_plain.specs.Records.{records_of}
use Rattle.pass_plain.specs.Graphs.{IsEdge, HasPath, IsAcyclic}
use Rattle.pass_plain.specs.Joined.{IsJoined}
use Rattle.pass_plain.specs.WellLogged.{IsWellLogged}
use Rattle.pass_graph.specs.Openings.{Opens, Continues, session_list, IsOpened, IsVersionOf}
use Rattle.pass_graph.specs.Places.{object_at, node_at, out_at, source_at, is_in_at, is_fresh_at, is_freeze_at}
use Rattle.pass_graph.specs.Ranks.{rank_of}

-- a session's own records have a new version exactly where an entry freezes its object
abbrev pub VersionRecordLaw : Type 0
VersionRecordLaw = (session : Session) (history : List Entry) → IsLegal session history → (n : Node)
    → Contains (records_of session history) (log.Version n) ↔ ((place : ℕ) × (is_freeze_at session history place ≡ true) × (node_at session history place ≡ Some n))

-- and an edge from a target to a source exactly where an IN is fresh
abbrev pub InputRecordLaw : Type 0
InputRecordLaw = (session : Session) (history : List Entry) → IsLegal session history → (target source : Node)
    → Contains (records_of session history) (log.Input target source)
    ↔ ((place : ℕ) × (is_fresh_at session history place ≡ true) × (node_at session history place ≡ Some target) × (source_at session history place ≡ Some source))

-- along every edge of a session's own records the rank falls
abbrev pub RankLaw : Type 0
RankLaw = (session : Session) (history : List Entry) → IsLegal session history → (a b : Node) → IsEdge (records_of session history) a b
    → rank_of session history b < rank_of session history a

-- no edge leads from a version of the opening to one of this session
abbrev pub OpeningLaw : Type 0
OpeningLaw = (before : List Record) (session : Session) (history : List Entry) → Opens before session → IsLegal session history
    → (a b : Node) → IsEdge (session_list before session history) a b → IsOpened before a → IsOpened before b

-- no path of a session's list leads from a node to itself
abbrev pub AcyclicLaw : Type 0
AcyclicLaw = (before : List Record) (session : Session) (history : List Entry) → Opens before session → IsLegal session history
    → IsAcyclic (session_list before session history)

-- where a version that an object has had is joined to another one, a path leads there
abbrev pub ChainLaw : Type 0
ChainLaw = (before : List Record) (session : Session) (history : List Entry) → Opens before session → IsLegal session history
    → (a b : Node) → IsVersionOf before session history a → 1 ≤ b.version
    → IsJoined session history before a b → HasPath (session_list before session history) a b

-- where a path leads, the two are joined
abbrev pub PathLaw : Type 0
PathLaw = (before : List Record) (session : Session) (history : List Entry) → Opens before session → IsLegal session history
    → (a b : Node) → HasPath (session_list before session history) a b → IsJoined session history before a b

-- the graph of a list is that of a history after the records before it: no path leads from a node to itself, and a path leads
-- from a version that an object has had exactly where it is joined
pub record IsFaithful (list before : List Record) (session : Session) (history : List Entry) : Type 0 where
  pub acyclic : IsAcyclic list
  pub joined : (a b : Node) → IsVersionOf before session history a → 1 ≤ b.version → HasPath list a b ↔ IsJoined session history before a b

abbrev pub GraphLaw : Type 0
GraphLaw = (before : List Record) (session : Session) (history : List Entry) → Opens before session → IsLegal session history
    → IsFaithful (session_list before session history) before session history

-- a session that opens without records has the graph of its own ones
abbrev pub OwnGraphLaw : Type 0
OwnGraphLaw = (session : Session) (history : List Entry) → Opens [] session → IsLegal session history
    → IsFaithful (records_of session history) [] session history

-- a session's list is well logged after each number of its entries
abbrev pub PrefixLaw : Type 0
PrefixLaw = (before : List Record) (session : Session) (history : List Entry) → Continues before session → IsLegal session history
    → (entries : ℕ) → IsWellLogged (session_list before session (take entries history))

-- a store without records opens a session whose start is empty
abbrev pub FirstOpeningLaw : Type 0
FirstOpeningLaw = (session : Session) → IsSound session → session.start.files.items ≡ [] → session.start.apps.items ≡ [] → Opens [] session

-- and the records before it are all that the start says, where its ceiling is 0
abbrev pub FirstStartLaw : Type 0
FirstStartLaw = (session : Session) → IsSound session → session.start.files.items ≡ [] → session.start.apps.items ≡ []
    → session.start.ceiling ≡ 0 → Continues [] session

-- the place lies between two others, whichever stands first
abbrev pub IsBetween : ℕ → ℕ → ℕ → Type 0
IsBetween i j place = (min i j < place) × (place < max i j)

-- a fresh IN stands before the place, with the node and the source node of the IN there, and has put their edge on the
-- record; and no fresh IN of the source stands between the OUTs of the two
pub record IsKnown (session : Session) (history : List Entry) (place : ℕ) : Type 0 where
  pub first : ℕ
  pub stands : first < place
  pub fresh : is_fresh_at session history first ≡ true
  pub target : Node
  pub source : Node
  pub first_target : node_at session history first ≡ Some target
  pub same_target : node_at session history place ≡ Some target
  pub first_source : source_at session history first ≡ Some source
  pub same_source : source_at session history place ≡ Some source
  pub edge : Contains (records_of session (take place history)) (log.Input target source)
  pub first_out : ℕ
  pub out : ℕ
  pub first_names : out_at history first ≡ Some first_out
  pub names : out_at history place ≡ Some out
  pub unchanged : (between : ℕ) → IsBetween first_out out between → object_at history between ≡ Some source.pnode → is_fresh_at session history between ≡ false

-- an IN that isn't fresh has its edge already, and its source took nothing new in between
abbrev pub DuplicateLaw : Type 0
DuplicateLaw = (session : Session) (history : List Entry) → IsLegal session history → (place : ℕ) → is_in_at history place ≡ true
    → is_fresh_at session history place ≡ false → IsKnown session history place
