-- The names of seats, and which entries and syncs are the affair of a name's holder.
use Rattle.std.specs.Prelude.{◌≡◌, ℕ, ◌==◌, ◌&&◌, Bool, true, false, not, List, [], ◌∷◌, ◌⊎◌, filter}
use Rattle.std.specs.Option.{option_map_or}
use Rattle.pass_entry.specs.declared.entry.Entry.{Entry}
use Rattle.pass_entry.specs.declared.entry.Act.{Act}
use Rattle.pass_entry.specs.declared.entry.Act.TheVariants as act
use Rattle.pass_book.specs.declared.view.Role.{Role}
use Rattle.pass_book.specs.declared.view.Role.TheVariants.{Book, Desk, Line, Last, Vault, Claim, Note, Spent}
use Rattle.pass_book.specs.declared.view.Name.{Name}
use Rattle.pass_book.specs.declared.view.VaultSync.{VaultSync}

-- the desk, the line or the last of this number, or another seat; a process has one strand, 0
abbrev pub name : Role → ℕ → Name
name r n = record { role = r; number = n; strand = 0 }

abbrev pub code : Role → ℕ
code Book = 0
code Desk = 1
code Line = 2
code Last = 3
code Vault = 4
code Claim = 5
code Note = 6
code Spent = 7

abbrev pub same : Name → Name → Bool
same a b = (code a.role == code b.role) && (a.number == b.number) && (a.strand == b.strand)

abbrev pub Among : Name → List Name → Type 0
Among a [] = ⊥
Among a (b ∷ bs) = (b ≡ a) ⊎ Among a bs

abbrev pub without : Name → List Name → List Name
without a bs = filter (λ (b : Name). not (same a b)) bs

-- at most one seat has such a name
abbrev pub IsOne : Role → Type 0
IsOne Book = Unit {0}
IsOne Desk = Unit {0}
IsOne Line = Unit {0}
IsOne Last = Unit {0}
IsOne Vault = Unit {0}
IsOne Claim = ⊥
IsOne Note = ⊥
IsOne Spent = ⊥

abbrev pub is_finish : Act → Bool
is_finish act.Finish = true
is_finish _ = false

-- whether the entry is one that only the holder of this name makes: a desk's are those on its object, a line's those by its
-- process, a last's is the end of its process
abbrev pub touches_as : Role → ℕ → Entry → Bool
touches_as Book n e = false
touches_as Desk n e = e.what == n
touches_as Line n e = e.who == n
touches_as Last n e = is_finish e.act && (e.what == n)
touches_as Vault n e = false
touches_as Claim n e = false
touches_as Note n e = false
touches_as Spent n e = false

abbrev pub touches : Name → Entry → Bool
touches a e = (a.strand == 0) && touches_as a.role a.number e

-- the holder of a name has seen all such entries
abbrev pub Agrees : Name → List Entry → List Entry → Type 0
Agrees a seen history = filter (touches a) seen ≡ filter (touches a) history

-- no entry of these ends the process
abbrev pub NoneEnds : ℕ → List Entry → Type 0
NoneEnds n seen = filter (touches (name Last n)) seen ≡ []

-- whether the sync is one that the holder of this name has to have seen: the vault all of them, a file's desk those of the file
abbrev pub concerns_as : Role → ℕ → VaultSync → Bool
concerns_as Book n s = false
concerns_as Desk n s = option_map_or (λ f. f.pnode == n) s.file false
concerns_as Line n s = false
concerns_as Last n s = false
concerns_as Vault n s = true
concerns_as Claim n s = false
concerns_as Note n s = false
concerns_as Spent n s = false

abbrev pub concerns : Name → VaultSync → Bool
concerns a s = (a.strand == 0) && concerns_as a.role a.number s

-- the holder of a name has seen all such syncs
abbrev pub Listed : Name → List VaultSync → List VaultSync → Type 0
Listed a mine all = filter (concerns a) mine ≡ filter (concerns a) all
