-- What a book is opened with.
use Rattle.std.specs.Prelude.{◌≡◌, ℕ, ◌+◌, ◌<◌, ◌≤◌, List, [], ◌∷◌, ◌++◌, ◌⊎◌, Option, Some, None, map}
use Rattle.std.specs.List.{range_with_len}
use Rattle.pass_plain.specs.declared.start.Start.{Start}
use Rattle.pass_book.specs.declared.view.Role.TheVariants.{Book, Vault}
use Rattle.pass_book.specs.declared.view.Name.{Name}
use Rattle.pass_book.specs.Names.{Among}
use Rattle.pass_book.specs.Tokens.{BookId, LineState, LastState, DeskState}

-- tokens that have seen nothing
abbrev pub fresh_line : BookId → ℕ → LineState
fresh_line book who = record { book = book; who = who; seen = []; syncs = []; looks = 0; looked = 0 }

abbrev pub fresh_last : BookId → ℕ → LastState
fresh_last book what = record { book = book; what = what; seen = []; syncs = [] }

abbrev pub fresh_desk : BookId → ℕ → Option LineState → Option LastState → DeskState
fresh_desk book what line last = record { book = book; what = what; seen = []; syncs = []; line = line; last = last }

-- the registry's desk has the line of number 0, which begins the session
abbrev pub registry_desk : BookId → DeskState
registry_desk book = fresh_desk book 0 (Some (fresh_line book 0)) None

-- an object of the opening is no process
abbrev pub known_desk : BookId → ℕ → DeskState
known_desk book what = fresh_desk book what None None

-- one that the session may make can be a process
abbrev pub new_desk : BookId → ℕ → DeskState
new_desk book what = fresh_desk book what (Some (fresh_line book what)) (Some (fresh_last book what))

-- the objects of the opening: its files, then its app objects
abbrev pub opening_numbers : Start → List ℕ
opening_numbers start = map (λ f. f.node.pnode) start.files.items ++ map (λ n. n.pnode) start.apps.items

-- the desks of the registry, of the objects of the opening and of those that may be made
abbrev pub opening_desks : BookId → Start → ℕ → List DeskState
opening_desks book start objects =
    registry_desk book ∷ map (known_desk book) (opening_numbers start) ++ map (new_desk book) (range_with_len (start.ceiling + 1) objects)

abbrev pub IsOneOf : ℕ → List ℕ → Type 0
IsOneOf n [] = ⊥
IsOneOf n (m ∷ ms) = (m ≡ n) ⊎ IsOneOf n ms

-- no number stands twice, and each is from 1 to the last
abbrev pub AreApart : List ℕ → ℕ → Type 0
AreApart [] last = Unit {0}
AreApart (n ∷ ns) last = (1 ≤ n) × (n ≤ last) × (¬ IsOneOf n ns) × AreApart ns last

-- the name is the book's or the vault's
abbrev pub IsAlone : Name → Type 0
IsAlone a = (a.role ≡ Book) ⊎ (a.role ≡ Vault)

-- while tokens are made: each other name that is away has a number up to the last that none of these is
abbrev pub AwayApart : List Name → List ℕ → ℕ → Type 0
AwayApart away numbers last = (a : Name) → Among a away → IsAlone a ⊎ ((a.number ≤ last) × (¬ IsOneOf a.number numbers))

-- or one below this number
abbrev pub AwayBelow : List Name → ℕ → Type 0
AwayBelow away m = (a : Name) → Among a away → IsAlone a ⊎ (a.number < m)
