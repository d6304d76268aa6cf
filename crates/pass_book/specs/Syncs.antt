-- The vault's list of syncs, and the entries that it backs.
use Rattle.std.specs.Prelude.{◌≡◌, ℕ, ◌<◌, ◌≤◌, Bool, true, false, List, [], ◌∷◌, Option, Some, None, map, slice_get, take}
use Rattle.pass_entry.specs.declared.entry.Entry.{Entry}
use Rattle.pass_entry.specs.declared.entry.Act.TheVariants as act
use Rattle.pass_book.specs.declared.view.FileMark.{FileMark}
use Rattle.pass_book.specs.declared.view.VaultSync.{VaultSync}
use Rattle.pass_plain.specs.Sessions.{Session}
use Rattle.pass_book.specs.Numbers.{IsFileNumber}

-- the last number of durable entries, where k was before
abbrev pub durable_from : ℕ → List VaultSync → ℕ
durable_from k [] = k
durable_from k (s ∷ ss) = durable_from s.entries ss

abbrev pub durable : List VaultSync → ℕ
durable ss = durable_from 0 ss

-- the last number of device calls, where c was before
abbrev pub called_from : ℕ → List VaultSync → ℕ
called_from c [] = c
called_from c (s ∷ ss) = called_from s.calls ss

abbrev pub called : List VaultSync → ℕ
called ss = called_from 0 ss

-- the places of blocks that are given with their bytes
abbrev pub numbers_of : List (ℕ × List ℕ) → List ℕ
numbers_of blocks = map (λ b. b.0) blocks

-- of a staging these places; of a sync none
abbrev pub staged_as : Bool → List (ℕ × List ℕ) → Option (List ℕ)
staged_as true blocks = Some (numbers_of blocks)
staged_as false blocks = None

-- neither number falls
abbrev pub rising_from : ℕ → ℕ → List VaultSync → Type 0
rising_from c k [] = Unit {0}
rising_from c k (s ∷ ss) = (c ≤ s.calls) × (k ≤ s.entries) × rising_from s.calls s.entries ss

abbrev pub IsRising : List VaultSync → Type 0
IsRising ss = rising_from 0 0 ss

-- a sync with more than p entries and at most q, which is no staging
abbrev pub IsBetween : ℕ → ℕ → VaultSync → Type 0
IsBetween p q s = (s.staged ≡ None) × (p < s.entries) × (s.entries ≤ q)

abbrev pub HasSync : ℕ → ℕ → List VaultSync → Type 0
HasSync p q ss = (i : ℕ) × (s : VaultSync) × (slice_get ss i ≡ Some s) × IsBetween p q s

-- the same for the data of the file of a number
abbrev pub HasFileSync : ℕ → ℕ → ℕ → List VaultSync → Type 0
HasFileSync number p q ss = (i : ℕ) × (s : VaultSync) × (f : FileMark) × (slice_get ss i ≡ Some s) × (s.file ≡ Some f) × (f.number ≡ number) × IsBetween p q s

-- where the entry is a `Kept`, whose call has its `Keep` at place p after the entries of `seen`: there is a sync with more than p
-- entries and at most q, and where the object is a file, such a sync for its number
abbrev pub Backs : Session → List Entry → ℕ → List VaultSync → Entry → Type 0
Backs session seen q ss e = (fd p : ℕ) (k : Entry) → e.act ≡ act.Kept fd → slice_get seen p ≡ Some k → k.who ≡ e.who → k.number ≡ e.number → k.act ≡ act.Keep
    → HasSync p q ss × ((number : ℕ) → IsFileNumber session (take p seen) k.what number → HasFileSync number p q ss)

-- each entry that says that something was kept has its syncs
abbrev pub IsBacked : Session → List Entry → List VaultSync → Type 0
IsBacked session history ss = (q : ℕ) (e : Entry) → slice_get history q ≡ Some e → Backs session (take q history) q ss e

-- each file of a sync has its number after the history
abbrev pub AreNumbered : Session → List Entry → List VaultSync → Type 0
AreNumbered session history ss = (i : ℕ) (s : VaultSync) (f : FileMark) → slice_get ss i ≡ Some s → s.file ≡ Some f → IsFileNumber session history f.pnode f.number
