-- Which lists of records a session may open with, and the list of a session. This project's own rule.
use Rattle.std.specs.Prelude.{ℕ, ◌+◌, ◌≡◌, ◌≤◌, max, true, List, Some, length, count_by, Contains}
use Rattle.std.specs.FinMap as finite_map
use Rattle.pass_entry.specs.declared.entry.Entry.{Entry}
use Rattle.pass_entry.specs.declared.objects.Kind.{Kind}
use Rattle.pass_entry.specs.declared.objects.Node.{Node}
use Rattle.pass_entry.specs.declared.record.Record.{Record}
use Rattle.pass_entry.specs.declared.record.Record.TheVariants as log
use Rattle.pass_plain.specs.Sessions.{Session, is_opened, opening_version}
use Rattle.pass_plain.specs.Sound.{IsSound}
use Rattle.pass_plain.specs.Versions.{version_after}
use Rattle.pass_plain.specs.Records.{list_of}
use Rattle.pass_plain.specs.Registries.{Exists, is_limited, count_of_kind, opening_registry}
use Rattle.pass_plain.specs.WellLogged.{IsWellLogged, is_known, kind_of, current_of, last_name_of, ceiling_of, has_kind}

-- the records before a session are accepted, and the session begins with what they say: their numbers and versions are from 1,
-- each object of its start is one of theirs with its current version, and the numbers up to their ceiling, as those of their
-- processes and pipes, are not given again
pub record Opens (before : List Record) (session : Session) : Type 0 where
  pub sound : IsSound session
  pub logged : IsWellLogged before
  pub objects : (object : ℕ) (k : Kind) → Contains before (log.Object object k) → 1 ≤ object
  pub sources : (target source : Node) → Contains before (log.Input target source) → 1 ≤ source.version
  pub ceiling : ceiling_of before ≤ session.start.ceiling
  pub current : (object : ℕ) → is_opened session.start object ≡ true → (is_known before object ≡ true) × (opening_version session.start object ≡ current_of before object)

-- the session's start is all that the records before it say: the ceiling, the kinds, the names, and no fewer files and app
-- objects
pub record Continues (before : List Record) (session : Session) : Type 0 where
  pub opens : Opens before session
  pub ceiling : session.start.ceiling ≡ ceiling_of before
  pub kinds : (object : ℕ) (k : Kind) → Exists (opening_registry session.start) object k → kind_of before object ≡ Some k
  pub counts : (k : Kind) → is_limited k ≡ true → count_by (has_kind k) before ≤ count_of_kind k (opening_registry session.start)
  pub names : (object : ℕ) (name : List ℕ) → last_name_of before object ≡ name → 1 ≤ length name
      → finite_map.get (opening_registry session.start).names name ≡ Some object

-- the list of a session, whose ceiling leaves a number for each object that it may make
abbrev pub session_list : List Record → Session → List Entry → List Record
session_list before session history = list_of before (session.start.ceiling + session.objects) session history

-- a version that its object had before the session
abbrev pub IsOpened : List Record → Node → Type 0
IsOpened before node = (is_known before node.pnode ≡ true) × (1 ≤ node.version) × (node.version ≤ current_of before node.pnode)

-- a version that its object has had, before the session or in it
abbrev pub IsVersionOf : List Record → Session → List Entry → Node → Type 0
IsVersionOf before session history node =
    (1 ≤ node.version) × (node.version ≤ max (current_of before node.pnode) (version_after session history node.pnode))
