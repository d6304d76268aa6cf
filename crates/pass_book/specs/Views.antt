-- The rule of the table, and what its steps do to views.
use Rattle.std.specs.Prelude.{◌≡◌, ℕ, ◌+◌, ◌-◌, ◌≤◌, List, [], ◌∷◌, ◌++◌, length, cond, ltb}
use mathlib.Core.Option.{some}
use mathlib.Core.List.{IsPrefix}
use lib.ListN.{get_elem?}
use Rattle.atomic_table.specs.Table.{Step, Me}
use Rattle.pass_entry.specs.declared.entry.Entry.{Entry}
use Rattle.pass_plain.specs.Sessions.{Session}
use Rattle.pass_plain.specs.Legal.{IsLegal, session_of}
use Rattle.pass_book.specs.declared.rule.TableOpening.{TableOpening}
use Rattle.pass_book.specs.declared.view.Role.TheVariants.{Book, Desk, Vault, Claim, Note, Spent}
use Rattle.pass_book.specs.declared.view.Name.{Name}
use Rattle.pass_book.specs.declared.view.VaultSync.{VaultSync}
use Rattle.pass_book.specs.declared.view.Opened.{Opened}
use Rattle.pass_book.specs.declared.view.Folded.{Folded}
use Rattle.pass_book.specs.declared.view.View.{View}
use Rattle.pass_book.specs.Names.{name, Among, without, IsOne, Agrees, Listed}
use Rattle.pass_book.specs.Nothing.{nothing_opened}
use Rattle.pass_book.specs.Syncs.{durable, IsRising, IsBacked, AreNumbered}

abbrev pub session_in : Opened → Session
session_in o = session_of o.start o.objects

abbrev pub opened_by : TableOpening → Opened
opened_by k = record { start = k.start.value; objects = k.objects }

-- what came back began the history and the list, and had all entries that are its affair
pub record Part (h : List Entry) (ss : List VaultSync) (f : Folded) : Type 0 where
  pub begins : IsPrefix f.seen h
  pub agrees : Agrees f.name f.seen h
  pub listed : IsPrefix f.syncs ss

abbrev pub part_of : View → Folded
part_of v = record { name = v.name; seen = v.seen; syncs = v.syncs }

abbrev pub all_folded : List Entry → List VaultSync → List Folded → Type 0
all_folded h ss [] = Unit {0}
all_folded h ss (f ∷ fs) = Part h ss f × all_folded h ss fs

-- a desk that has come back is in the book, and had seen all syncs of its file
abbrev pub all_listed : List VaultSync → List Name → List Folded → Type 0
all_listed ss away [] = Unit {0}
all_listed ss away (f ∷ fs) = ((o : ℕ) → f.name ≡ name Desk o → (¬ Among (name Desk o) away) × Listed (name Desk o) f.syncs ss) × all_listed ss away fs

abbrev pub longer : {A : Type 0} → List A → List A → List A
longer xs ys = cond (ltb (length xs) (length ys)) ys xs

-- what the vault's view has to do with the book's, with the list of syncs and with the desks that it has
pub record IsVault (book : View) (all : List VaultSync) (lent : List Name) (v : View) : Type 0 where
  pub named : v.name ≡ name Vault 0
  pub has : v.away ≡ lent
  pub within : durable all ≤ length v.seen
  pub numbered : AreNumbered (session_in book.opened) v.seen all
  -- it has seen the entries of the desks that it has
  pub agrees : (a : Name) → Among a lent → Agrees a (longer v.seen v.told) book.seen

-- what a view has to do with the book's, with the vault's list and with the desks that the vault has
pub record Fits (book : View) (all : List VaultSync) (lent : List Name) (v : View) : Type 0 where
  pub opened : ¬ (v.name.role ≡ Spent) → v.opened ≡ book.opened
  -- it has seen a beginning of the history, with all entries that are its affair
  pub begins : IsPrefix v.seen book.seen
  pub told : IsPrefix v.told book.seen
  pub agrees : Agrees v.name v.seen book.seen
  -- and a beginning of the list, with all syncs that are its affair
  pub listed : IsPrefix v.syncs all
  pub told_listed : IsPrefix v.told_syncs all
  pub complete : Listed v.name v.syncs all
  -- neither the book nor the vault has its name
  pub away : IsOne v.name.role → Among v.name book.away
  pub free : IsOne v.name.role → ¬ Among v.name lent
  pub vault : v.name.role ≡ Vault → IsVault book all lent v

-- the places that all views claim
abbrev pub claims : List View → ℕ
claims [] = 0
claims (v ∷ vs) = v.claimed + claims vs

pub record KeptAs (opened : Opened) (words : List ℕ) (views : List View) (seat : ℕ) (book : View) (all : List VaultSync) (lent : List Name) : Type 0 where
  -- there is one book, and its history is legal
  pub there : get_elem? views seat ≡ some book
  pub is_book : book.name ≡ name Book 0
  pub from : book.opened ≡ opened
  pub legal : IsLegal (session_in opened) book.seen
  -- what each view has seen, and that two seats have two names
  pub fits : (i : ℕ) (v : View) → get_elem? views i ≡ some v → Fits book all lent v
  pub once : (i j : ℕ) (v w : View) → get_elem? views i ≡ some v → get_elem? views j ≡ some w → IsOne v.name.role → v.name ≡ w.name → i ≡ j
  pub folded : all_folded book.seen book.syncs book.folded
  pub desks : all_listed all book.away book.folded
  -- word 0 never changes, word 1 is the number of durable entries by the vault's list, along which no number falls
  pub words_are : words ≡ 0 ∷ durable all ∷ []
  pub rising : IsRising all
  pub durable_within : durable all ≤ length book.seen
  pub no_vault : ¬ Among (name Vault 0) book.away → (all ≡ []) × (lent ≡ [])
  pub lent_away : (a : Name) → Among a lent → IsOne a.role × Among a book.away
  -- the book has seen all syncs of a file whose desk it has
  pub home : (o : ℕ) → ¬ Among (name Desk o) book.away → Listed (name Desk o) book.syncs all
  -- what is said to be kept is durable
  pub backed : IsBacked (session_in opened) book.seen book.syncs
  -- the book knows how many places are claimed
  pub pool : claims views ≡ book.pool

abbrev pub Kept : Opened → List ℕ → List View → Type 0
Kept opened words views = (seat : ℕ) × (book : View) × (all : List VaultSync) × (lent : List Name) × KeptAs opened words views seat book all lent

-- a view with nothing but a name, a history and a list
abbrev pub plain : Name → Opened → List Entry → List VaultSync → View
plain a opened seen syncs = record { name = a; opened = opened; seen = seen; syncs = syncs; told = []; told_syncs = []; away = []; folded = []; claimed = 0; pool = 0; looks = 0; looked = 0 }

abbrev pub book_view : Opened → List Entry → List VaultSync → List Name → List Folded → ℕ → ℕ → View
book_view opened seen syncs away folded claimed pool = record { name = name Book 0; opened = opened; seen = seen; syncs = syncs; told = []; told_syncs = []; away = away; folded = folded; claimed = claimed; pool = pool; looks = 0; looked = 0 }

abbrev pub first_view : Opened → View
first_view opened = book_view opened [] [] (name Book 0 ∷ []) [] 0 0

abbrev pub spent : View
spent = plain (name Spent 0) nothing_opened [] []

-- a name leaves the book; a line is given how often it has looked
abbrev pub leaving : Name → View → View
leaving a v = record { name = v.name; opened = v.opened; seen = v.seen; syncs = v.syncs; told = []; told_syncs = []; away = a ∷ v.away; folded = []; claimed = v.claimed; pool = v.pool; looks = 0; looked = 0 }

abbrev pub left : Name → ℕ → View → View
left a looks v = record { name = a; opened = v.opened; seen = v.seen; syncs = v.syncs; told = []; told_syncs = []; away = []; folded = []; claimed = 0; pool = 0; looks = looks; looked = length v.seen }

-- the desk of the entry's object leaves the book with the entry, which takes a claimed place
abbrev pub writing : Entry → View → View
writing e v = record { name = v.name; opened = v.opened; seen = v.seen ++ e ∷ []; syncs = v.syncs; told = []; told_syncs = []; away = name Desk e.what ∷ v.away; folded = []; claimed = v.claimed - 1; pool = v.pool - 1; looks = 0; looked = 0 }

abbrev pub written : Entry → View → View
written e v = plain (name Desk e.what) v.opened (v.seen ++ e ∷ []) v.syncs

-- a note of the history and the list
abbrev pub noted : View → View
noted v = plain (name Note 0) v.opened v.seen v.syncs

-- a note of the list alone
abbrev pub list_noted : View → View
list_noted v = plain (name Note 0) v.opened [] v.syncs

-- places are claimed
abbrev pub claiming : ℕ → View → View
claiming n v = record { name = v.name; opened = v.opened; seen = v.seen; syncs = v.syncs; told = v.told; told_syncs = v.told_syncs; away = v.away; folded = v.folded; claimed = 0; pool = v.pool + n; looks = v.looks; looked = v.looked }

abbrev pub claim_of : ℕ → View → View
claim_of n v = record { name = name Claim 0; opened = v.opened; seen = []; syncs = []; told = []; told_syncs = []; away = []; folded = []; claimed = v.claimed + n; pool = 0; looks = v.looks; looked = v.looked }

-- a name comes back to the book, which also keeps what it had itself
abbrev pub folding : View → View → View
folding v w = record { name = v.name; opened = v.opened; seen = v.seen; syncs = longer v.syncs w.syncs; told = []; told_syncs = []; away = without w.name v.away; folded = part_of w ∷ part_of v ∷ v.folded; claimed = v.claimed + w.claimed; pool = v.pool; looks = 0; looked = 0 }

-- a view is told of another's history and list
abbrev pub hearing : View → View → View
hearing v w = record { name = v.name; opened = v.opened; seen = v.seen; syncs = v.syncs; told = w.seen; told_syncs = w.syncs; away = v.away; folded = v.folded; claimed = v.claimed + w.claimed; pool = v.pool; looks = v.looks; looked = v.looked }

-- what was told is taken in
abbrev pub met : View → View
met v = record { name = v.name; opened = v.opened; seen = longer v.seen v.told; syncs = longer v.syncs v.told_syncs; told = []; told_syncs = []; away = v.away; folded = v.folded; claimed = v.claimed; pool = v.pool; looks = v.looks; looked = v.looked }

pub record IsMet (v w : View) : Type 0 where
  pub begins : IsPrefix v.seen w.seen
  pub told : IsPrefix v.told w.seen
  pub listed : IsPrefix v.syncs w.syncs
  pub told_listed : IsPrefix v.told_syncs w.syncs
  pub rising : IsRising w.syncs
  pub agrees : Agrees v.name v.seen w.seen
  pub complete : Listed v.name v.syncs w.syncs

abbrev pub Meets : Step ℕ → Me ℕ View → ℕ → Me ℕ View → Type 0
Meets s me n new = (new ≡ (met me.0, me.1)) × IsMet me.0 (met me.0)

-- the book learns how what came back stands to its history
abbrev pub Learns : Step ℕ → Me ℕ View → ℕ → Me ℕ View → Type 0
Learns s me n new = (new ≡ me) × IsLegal (session_in me.0.opened) me.0.seen × all_folded me.0.seen me.0.syncs me.0.folded × all_listed me.0.syncs me.0.away me.0.folded × (durable me.0.syncs ≤ length me.0.seen) × (me.0.claimed ≤ me.0.pool) × IsRising me.0.syncs × IsBacked (session_in me.0.opened) me.0.seen me.0.syncs

-- a desk goes to the vault, with what it has seen
abbrev pub lending : View → View → View
lending v w = record { name = v.name; opened = v.opened; seen = v.seen; syncs = v.syncs; told = w.seen; told_syncs = w.syncs; away = w.name ∷ v.away; folded = v.folded; claimed = v.claimed + w.claimed; pool = v.pool; looks = v.looks; looked = v.looked }

-- and leaves it again, with what the vault has seen
abbrev pub returning : Name → View → View
returning a v = record { name = v.name; opened = v.opened; seen = v.seen; syncs = v.syncs; told = v.told; told_syncs = v.told_syncs; away = without a v.away; folded = v.folded; claimed = v.claimed; pool = v.pool; looks = v.looks; looked = v.looked }

abbrev pub returned : Name → View → View
returned a v = plain a v.opened v.seen v.syncs

-- the vault notes a sync
abbrev pub syncing : VaultSync → View → View
syncing s v = record { name = v.name; opened = v.opened; seen = v.seen; syncs = v.syncs ++ s ∷ []; told = v.told; told_syncs = v.told_syncs; away = v.away; folded = v.folded; claimed = v.claimed; pool = v.pool; looks = v.looks; looked = v.looked }

abbrev pub Synced : VaultSync → Step ℕ → Me ℕ View → ℕ → Me ℕ View → Type 0
Synced y s me n new = new ≡ (syncing y me.0, me.1)

-- a line reads how much is durable
abbrev pub Reads : Step ℕ → Me ℕ View → ℕ → Me ℕ View → Type 0
Reads s me n new = (new ≡ me) × (durable me.0.syncs ≤ n)

-- claimed places that came back are free again
abbrev pub freeing : View → View
freeing v = record { name = v.name; opened = v.opened; seen = v.seen; syncs = v.syncs; told = v.told; told_syncs = v.told_syncs; away = v.away; folded = []; claimed = 0; pool = v.pool - v.claimed; looks = v.looks; looked = v.looked }

abbrev pub Frees : Step ℕ → Me ℕ View → ℕ → Me ℕ View → Type 0
Frees s me n new = (new ≡ (freeing me.0, me.1)) × (me.0.claimed ≤ me.0.pool)

-- a view as its holder has it between two steps
abbrev pub holding : Name → Opened → List Entry → List VaultSync → ℕ → ℕ → View
holding a opened seen syncs looks looked = record { name = a; opened = opened; seen = seen; syncs = syncs; told = []; told_syncs = []; away = []; folded = []; claimed = 0; pool = 0; looks = looks; looked = looked }
