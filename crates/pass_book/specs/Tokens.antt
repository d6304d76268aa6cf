-- What contracts see of the book and of its tokens, and what these keep between two calls.
use Rattle.std.specs.Prelude.{◌≡◌, ℕ, ◌<◌, ◌≤◌, List, [], ◌∷◌, Option, length}
use mathlib.Core.List.{IsPrefix}
use Rattle.atomic_table.specs.Table.{Me}
use Rattle.atomic_table.specs.Seated.{TableId}
use Rattle.pass_entry.specs.declared.entry.Entry.{Entry}
use Rattle.pass_entry.specs.declared.record.Record.{Record}
use Rattle.pass_plain.specs.Sessions.{Session}
use Rattle.pass_plain.specs.Legal.{IsLegal}
use Rattle.pass_plain.specs.Sound.{IsSound}
use Rattle.pass_book.specs.declared.view.Role.TheVariants.{Book, Vault, Claim, Note}
use Rattle.pass_book.specs.declared.view.Name.{Name}
use Rattle.pass_book.specs.declared.view.VaultSync.{VaultSync}
use Rattle.pass_book.specs.declared.view.View.{View}
use Rattle.pass_book.specs.Names.{name, Agrees, Listed}
use Rattle.pass_book.specs.Syncs.{durable, IsRising, AreNumbered}
use Rattle.pass_book.specs.Views.{session_in, plain, spent, holding, longer}

-- which book it is, and with what its session was opened
pub record BookId : Type 0 where
  pub table : TableId
  pub session : Session

-- the session is sound, the history legal, and along the list of syncs no number falls
unfoldable pub IsPast : Session → List Entry → List VaultSync → Type 0
IsPast session history syncs = IsSound session × IsLegal session history × IsRising syncs

-- the same of the vault: so many entries as its list says are in its history, and each file of a sync has its number there
pub record IsVaultPast (session : Session) (history : List Entry) (syncs : List VaultSync) : Type 0 where
  pub past : IsPast session history syncs
  pub within : durable syncs ≤ length history
  pub numbered : AreNumbered session history syncs

-- a name, what its holder has seen, and of a line how often it looked and how long the history was then
pub record Sighted : Type 0 where
  pub book : BookId
  pub name : Name
  pub seen : List Entry
  pub syncs : List VaultSync
  pub looks : ℕ
  pub looked : ℕ

-- the right to make entries as one process
pub record LineState : Type 0 where
  pub book : BookId
  pub who : ℕ
  pub seen : List Entry
  pub syncs : List VaultSync
  pub looks : ℕ
  pub looked : ℕ

-- the right to end one process
pub record LastState : Type 0 where
  pub book : BookId
  pub what : ℕ
  pub seen : List Entry
  pub syncs : List VaultSync

-- the right to make entries on one object, with what lies beside it
pub record DeskState : Type 0 where
  pub book : BookId
  pub what : ℕ
  pub seen : List Entry
  pub syncs : List VaultSync
  pub line : Option LineState
  pub last : Option LastState

-- what the book or the vault had seen
pub record NoteState : Type 0 where
  pub book : BookId
  pub seen : List Entry
  pub syncs : List VaultSync

-- places that are kept free for a call, with what the call brings to its entries
pub record ClaimState : Type 0 where
  pub book : BookId
  pub unused : ℕ
  pub line : Option LineState
  pub last : Option LastState
  pub slip : List Record

-- places that are kept free
pub record TallyState : Type 0 where
  pub book : BookId
  pub unused : ℕ

-- the book: its history, what it has seen of the vault's list, how many entries it may have, how many places are claimed, and before
-- which place the records of entries were shed
pub record BookState : Type 0 where
  pub book : BookId
  pub history : List Entry
  pub syncs : List VaultSync
  pub places : ℕ
  pub claimed : ℕ
  pub kept : ℕ

-- the vault's seat: what it has seen of the history, and the list of syncs
pub record VaultState : Type 0 where
  pub book : BookId
  pub seen : List Entry
  pub syncs : List VaultSync

-- after a meeting a holder has seen the longer of both histories and of both lists: all of what was seen on each side, and no
-- more of what is the affair of its name
pub record HasMet (a : Name) (seen : List Entry) (syncs : List VaultSync) (others : List Entry) (other_syncs : List VaultSync) (new_seen : List Entry) (new_syncs : List VaultSync) : Type 0 where
  pub history : new_seen ≡ longer seen others
  pub list : new_syncs ≡ longer syncs other_syncs
  pub begins : IsPrefix seen new_seen
  pub told : IsPrefix others new_seen
  pub listed : IsPrefix syncs new_syncs
  pub told_listed : IsPrefix other_syncs new_syncs
  pub agrees : Agrees a seen new_seen
  pub complete : Listed a syncs new_syncs

-- Views and values

abbrev pub id_of : TableId → View → BookId
id_of t v = record { table = t; session = session_in v.opened }

-- the view that lies alone in a badge
abbrev pub view_in : List View → View
view_in [] = spent
view_in (v ∷ vs) = v

abbrev pub sighted : TableId → List View → Sighted
sighted t vs = let v = view_in vs in record { book = id_of t v; name = v.name; seen = v.seen; syncs = v.syncs; looks = v.looks; looked = v.looked }

abbrev pub noted_of : TableId → List View → NoteState
noted_of t vs = let v = view_in vs in record { book = id_of t v; seen = v.seen; syncs = v.syncs }

abbrev pub line_of : Sighted → LineState
line_of s = record { book = s.book; who = s.name.number; seen = s.seen; syncs = s.syncs; looks = s.looks; looked = s.looked }

abbrev pub last_of : Sighted → LastState
last_of s = record { book = s.book; what = s.name.number; seen = s.seen; syncs = s.syncs }

abbrev pub desk_of : Sighted → Option LineState → Option LastState → DeskState
desk_of s line last = record { book = s.book; what = s.name.number; seen = s.seen; syncs = s.syncs; line = line; last = last }

abbrev pub tally_of : TableId → List View → ℕ → TallyState
tally_of t vs n = record { book = id_of t (view_in vs); unused = n }

abbrev pub claim_with : TallyState → Option LineState → Option LastState → List Record → ClaimState
claim_with t line last slip = record { book = t.book; unused = t.unused; line = line; last = last; slip = slip }

-- the view of a holder between two calls
abbrev pub held_view : View → View
held_view v = holding v.name v.opened v.seen v.syncs v.looks v.looked

-- a seat that waits in a badge
pub record IsSeat (id table : TableId) (vs : List View) : Type 0 where
  pub one : vs ≡ view_in vs ∷ []
  pub held : view_in vs ≡ held_view (view_in vs)
  pub same : id ≡ table
  pub words : 1 < table.words
  pub unlike : ¬ ((view_in vs).name ≡ name Book 0)
  pub past : IsPast (session_in (view_in vs).opened) (view_in vs).seen (view_in vs).syncs

-- a note of a history
pub record IsNote (vs : List View) : Type 0 where
  pub one : vs ≡ plain (name Note 0) (view_in vs).opened (view_in vs).seen (view_in vs).syncs ∷ []
  pub past : IsPast (session_in (view_in vs).opened) (view_in vs).seen (view_in vs).syncs

-- a claim of some places
pub record IsClaim (vs : List View) (n : ℕ) : Type 0 where
  pub one : vs ≡ view_in vs ∷ []
  pub named : (view_in vs).name ≡ name Claim 0
  pub listed : (view_in vs).syncs ≡ []
  pub claimed : (view_in vs).claimed ≡ n

-- the seat of the book or of the vault, at its table
pub record At (a : Name) (table seat : TableId) (v : View) : Type 0 where
  pub same : seat ≡ table
  pub words : 1 < table.words
  pub named : v.name ≡ a

-- what the book keeps between two calls
pub record IsOpen (table seat : TableId) (me : Me ℕ View) (entries : List Entry) (total : ℕ) : Type 0 where
  pub at : At (name Book 0) table seat me.0
  pub seen : me.0.seen ≡ entries
  pub claimed : me.0.claimed ≡ 0
  pub pool : me.0.pool ≡ total
  pub empty : me.1 ≡ []
  pub past : IsPast (session_in me.0.opened) entries me.0.syncs

-- and the vault's seat
pub record IsVaultSeat (table seat : TableId) (me : Me ℕ View) : Type 0 where
  pub at : At (name Vault 0) table seat me.0
  pub told : me.0.told ≡ []
  pub told_syncs : me.0.told_syncs ≡ []
  pub away : me.0.away ≡ []
  pub empty : me.1 ≡ []
  pub past : IsVaultPast (session_in me.0.opened) me.0.seen me.0.syncs
