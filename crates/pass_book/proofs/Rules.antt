-- The rule, at the seat of the book, and lists of which nothing is looked for.
use Rattle.std.proofs.Common.{◌≡◌, ℕ, ◌<◌, ◌≤◌, Bool, true, false, cond, List, [], ◌∷◌, length, refl, sym, ap, ◌∙◌, subst, arith}
use Rattle.std.proofs.lemmas.Bool.Decides.{nat_tests}
use Rattle.std.specs.Prelude.{ltb, filter}
use mathlib.Core.Option.{none, some, some-injective}
use mathlib.Core.List.{IsPrefix}
use lib.ListN.{get_elem?}
use Rattle.atomic_table.specs.Table.{State, Step, step}
use Rattle.pass_book.specs.declared.view.VaultSync.{VaultSync}
use Rattle.pass_book.specs.declared.view.Opened.{Opened}
use Rattle.pass_book.specs.declared.view.Role.TheVariants.{Book, Vault}
use Rattle.pass_book.specs.declared.view.Name.{Name}
use Rattle.pass_book.specs.declared.view.View.{View}
use Rattle.pass_book.specs.Names.{name, IsOne, Listed}
use Rattle.pass_book.specs.Views.{KeptAs, Kept, longer}
use Rattle.pass_book.proofs.Prefixes.{prefix_whole}

-- the rule as a fact about the table
abbrev pub Rule : Opened → State ℕ View → Type 0
Rule opened s = Kept opened s.words s.views

abbrev pub book_name : Name
book_name = name Book 0

-- a step that a play does not read
abbrev pub nowhere : Step ℕ
nowhere = step 0 0 0 0 none

-- the rule, at the seat that is named as the book is
pub with_book : (opened : Opened) (words : List ℕ) (views : List View) (h : Kept opened words views) (id : ℕ) (b : View) → get_elem? views id ≡ some b → b.name ≡ book_name → KeptAs opened words views id b h.2 h.3
with_book opened words views h id b at is =
    let k = h.4 in
    let seat : id ≡ h.0 = k.once id h.0 b h.1 at k.there (subst (λ (a : Name). IsOne a.role) (sym is) tt) (is ∙ sym k.is_book) in
    let book : h.1 ≡ b = some-injective h.1 b (sym k.there ∙ ap (get_elem? views) (sym seat) ∙ at) in
    let P : ℕ → Type 0 = λ n. KeptAs opened words views n b h.2 h.3 in
    let Q : View → Type 0 = λ v. KeptAs opened words views h.0 v h.2 h.3 in
    subst P (sym seat) (subst Q book k)

-- where no sync is looked for, lists agree
pub none_concerned : {X : Type 0} (xs : List X) → filter (λ (x : X). false) xs ≡ []
none_concerned [] = refl
none_concerned (x ∷ xs) = none_concerned xs

pub every : {A : Type 0} (xs : List A) → filter (λ (a : A). true) xs ≡ xs
every [] = refl
every (x ∷ xs) = ap (λ l. x ∷ l) (every xs)

pub never : (xs ys : List VaultSync) → filter (λ (s : VaultSync). false) xs ≡ filter (λ (s : VaultSync). false) ys
never xs ys = none_concerned xs ∙ sym (none_concerned ys)

-- the vault's view has the whole list
pub whole_list : (a : Name) (mine all : List VaultSync) → a ≡ name Vault 0 → Listed a mine all → mine ≡ all
whole_list a mine all is l = let P : Name → Type 0 = λ b. Listed b mine all in let k : Listed (name Vault 0) mine all = subst P is l in sym (every mine) ∙ k ∙ every all

pub not_vault : (v : View) → v.name ≡ book_name → ¬ (v.name.role ≡ Vault)
not_vault v is e = absurd (cc (ap (λ (a : Name). a.role) is, e))

-- longer by nothing
longer_nothing_if : {A : Type 0} (xs : List A) (n : ℕ) (t : Bool) → ltb n 0 ≡ t → cond t [] xs ≡ xs
longer_nothing_if xs n true e = let l : n < 0 = grind (arith, nat_tests) in absurd (omega arith)
longer_nothing_if xs n false e = refl

pub longer_nothing : {A : Type 0} (xs : List A) → longer xs [] ≡ xs
longer_nothing xs = longer_nothing_if xs (length xs) (ltb (length xs) 0) refl

-- the longer of a list and one that it begins
longer_prefix_if : {A : Type 0} (xs ys : List A) (t : Bool) → ltb (length xs) (length ys) ≡ t → IsPrefix xs ys → cond t ys xs ≡ ys
longer_prefix_if xs ys true e p = refl
longer_prefix_if xs ys false e p = prefix_whole xs ys p (let l : length ys ≤ length xs = grind (arith, nat_tests) in omega arith)

pub longer_prefix : {A : Type 0} (xs ys : List A) → IsPrefix xs ys → longer xs ys ≡ ys
longer_prefix xs ys p = longer_prefix_if xs ys (ltb (length xs) (length ys)) refl p

-- what the vault has seen once it was told by a desk that had seen no less
pub longer_both : {A : Type 0} (xs ys us ws : List A) → xs ≡ us → ys ≡ ws → IsPrefix us ws → longer xs ys ≡ ws
longer_both {A} xs ys us ws p q pre =
    let P : List A → Type 0 = λ l. IsPrefix l ws in
    let Q : List A → Type 0 = λ l. IsPrefix xs l in longer_prefix xs ys (subst Q (sym q) (subst P (sym p) pre)) ∙ q
