-- The names that are away while a book is opened.
use Rattle.std.proofs.Common.{◌≡◌, ℕ, suc, ◌+◌, ◌<◌, ◌≤◌, List, [], ◌∷◌, ◌++◌, Some, slice_get, inl, inr, refl, ap, sym, ◌∙◌, subst, ⊎_elim, arith, length, get_or, take, append_assoc}
use Rattle.std.specs.Prelude.{map}
use Rattle.std.proofs.lemmas.List.{map-append, take_more}
use Rattle.pass_entry.specs.declared.objects.Kind.{Kind}
use Rattle.pass_entry.specs.declared.objects.Kind.TheVariants as kind
use Rattle.pass_entry.specs.declared.objects.Node.{Node}
use Rattle.pass_plain.specs.declared.start.Start.{Start}
use Rattle.pass_plain.specs.declared.start.StartFile.{StartFile}
use Rattle.pass_plain.specs.Legal.{session_of}
use Rattle.pass_plain.specs.Sound.{IsSound}
use Rattle.pass_plain.specs.Registries.{opening_registry}
use Rattle.pass_book.specs.declared.view.Role.{Role}
use Rattle.pass_book.specs.declared.view.Role.TheVariants.{Book, Desk, Line, Vault}
use Rattle.pass_book.specs.declared.view.Name.{Name}
use Rattle.pass_book.specs.Names.{name, Among}
use Rattle.pass_book.specs.Openings.{opening_numbers, IsOneOf, IsAlone, AreApart, AwayApart, AwayBelow}

-- a name of another role or number isn't away either
pub free_behind : (a b : Name) (away : List Name) → ¬ (b ≡ a) → ¬ Among a away → ¬ Among a (b ∷ away)
free_behind a b away apart none (inl e) = apart e
free_behind a b away apart none (inr h) = none h

pub below_free : (r : Role) (away : List Name) (m : ℕ) → ¬ (r ≡ Book) → ¬ (r ≡ Vault) → AwayBelow away m → ¬ Among (name r m) away
below_free r away m no_book no_vault below h =
    ⊎_elim (λ (e : IsAlone (name r m)). ⊎_elim no_book no_vault e) (λ (l : m < m). absurd (omega arith)) (below (name r m) h)

pub below_more : (a : Name) (away : List Name) (m k : ℕ) → AwayBelow away m → a.number < k → m ≤ k → AwayBelow (a ∷ away) k
below_more a away m k below l le b (inl e) = inr (subst (λ (c : Name). c.number < k) e l)
below_more a away m k below l le b (inr h) =
    ⊎_elim (λ (e : IsAlone b). inl e) (λ (x : b.number < m). inr (let y : b.number < k = omega arith in y)) (below b h)

no_zero : (ns : List ℕ) (last : ℕ) → AreApart ns last → ¬ IsOneOf 0 ns
no_zero [] last apart h = h
no_zero (n ∷ ns) last apart (inl e) = absurd (omega (arith, apart.0, e))
no_zero (n ∷ ns) last apart (inr h) = no_zero ns last apart.3 h

-- the names once the vault, the registry's desk and its line are away, before those of other numbers
pub apart_first : (numbers : List ℕ) (last : ℕ) → AreApart numbers last → AwayApart (name Line 0 ∷ name Desk 0 ∷ name Vault 0 ∷ name Book 0 ∷ []) numbers last
apart_first numbers last apart a (inl e) = inr (subst (λ (b : Name). (b.number ≤ last) × (¬ IsOneOf b.number numbers)) e ((let z : 0 ≤ last = omega arith in z), no_zero numbers last apart))
apart_first numbers last apart a (inr (inl e)) = inr (subst (λ (b : Name). (b.number ≤ last) × (¬ IsOneOf b.number numbers)) e ((let z : 0 ≤ last = omega arith in z), no_zero numbers last apart))
apart_first numbers last apart a (inr (inr (inl e))) = inl (inr (ap (λ (b : Name). b.role) (sym e)))
apart_first numbers last apart a (inr (inr (inr (inl e)))) = inl (inl (ap (λ (b : Name). b.role) (sym e)))
apart_first numbers last apart a (inr (inr (inr (inr h)))) = absurd h

desk_alone : (n : ℕ) → ¬ IsAlone (name Desk n)
desk_alone n (inl e) = absurd cc
desk_alone n (inr e) = absurd cc

pub apart_free : (n : ℕ) (ns : List ℕ) (away : List Name) (last : ℕ) → AwayApart away (n ∷ ns) last → ¬ Among (name Desk n) away
apart_free n ns away last apart h =
    ⊎_elim (desk_alone n) (λ (x : (n ≤ last) × (¬ IsOneOf n (n ∷ ns))). x.1 (inl refl)) (apart (name Desk n) h)

pub apart_more : (n : ℕ) (ns : List ℕ) (away : List Name) (last : ℕ) → AreApart (n ∷ ns) last → AwayApart away (n ∷ ns) last → AwayApart (name Desk n ∷ away) ns last
apart_more n ns away last apart old a (inl e) = inr (subst (λ (b : Name). (b.number ≤ last) × (¬ IsOneOf b.number ns)) e (apart.1, apart.2))
apart_more n ns away last apart old a (inr h) =
    ⊎_elim (λ (e : IsAlone a). inl e) (λ (x : (a.number ≤ last) × (¬ IsOneOf a.number (n ∷ ns))). inr (x.0, (λ k. x.1 (inr k)))) (old a h)

pub apart_below : (away : List Name) (last : ℕ) → AwayApart away [] last → AwayBelow away (last + 1)
apart_below away last apart a h =
    ⊎_elim (λ (e : IsAlone a). inl e) (λ (x : (a.number ≤ last) × (¬ IsOneOf a.number [])). inr (let y : a.number < last + 1 = omega (arith, x.0) in y)) (apart a h)

-- the numbers of a sound opening are apart

one_of : (os : List (ℕ × Kind)) (n : ℕ) → IsOneOf n (map (λ (o : ℕ × Kind). o.0) os) → (i : ℕ) × (o : ℕ × Kind) × (slice_get os i ≡ Some o) × (o.0 ≡ n)
one_of [] n h = absurd h
one_of (o ∷ os) n (inl e) = (0, o, refl, e)
one_of (o ∷ os) n (inr h) = let r = one_of os n h in (suc r.0, r.1, r.2, r.3)

all_apart : (os : List (ℕ × Kind)) (last : ℕ) → ((i : ℕ) (o : ℕ × Kind) → slice_get os i ≡ Some o → (1 ≤ o.0) × (o.0 ≤ last))
    → ((i j : ℕ) (a b : ℕ × Kind) → slice_get os i ≡ Some a → slice_get os j ≡ Some b → a.0 ≡ b.0 → i ≡ j) → AreApart (map (λ (o : ℕ × Kind). o.0) os) last
all_apart [] last within single = tt
all_apart (o ∷ os) last within single =
    let first = within 0 o refl in (
      first.0,
      first.1,
      (λ h. let r = one_of os o.0 h in absurd (let e : 0 ≡ suc r.0 = single 0 (suc r.0) o r.1 refl r.2 (sym r.3) in omega arith)),
      all_apart os last (λ i p at. within (suc i) p at) (λ i j a b at there same. let e : suc i ≡ suc j = single (suc i) (suc j) a b at there same in omega arith),
    )

first_of : {X : Type 0} (f : X → ℕ) (k : Kind) (xs : List X) → map (λ (o : ℕ × Kind). o.0) (map (λ x. (f x, k)) xs) ≡ map f xs
first_of f k [] = refl
first_of f k (x ∷ xs) = ap (λ ns. f x ∷ ns) (first_of f k xs)

numbers_are : (start : Start) → map (λ (o : ℕ × Kind). o.0) (opening_registry start).objects ≡ opening_numbers start
numbers_are start =
    let files = map (λ (f : StartFile). (f.node.pnode, kind.File)) start.files.items in
    let apps = map (λ (n : Node). (n.pnode, kind.App)) start.apps.items in
    map-append (λ (o : ℕ × Kind). o.0) files apps
    ∙ ap (λ ns. ns ++ map (λ (o : ℕ × Kind). o.0) apps) (first_of (λ (f : StartFile). f.node.pnode) kind.File start.files.items)
    ∙ ap (λ ns. map (λ (f : StartFile). f.node.pnode) start.files.items ++ ns) (first_of (λ (n : Node). n.pnode) kind.App start.apps.items)

pub sound_apart : (start : Start) (objects : ℕ) → IsSound (session_of start objects) → AreApart (opening_numbers start) start.ceiling
sound_apart start objects sound = subst (λ ns. AreApart ns start.ceiling) (numbers_are start) (all_apart (opening_registry start).objects start.ceiling sound.numbers sound.single)

-- One more desk

pub known_more : {D : Type 0} (f : ℕ → D) (ns : List ℕ) (i n : ℕ) (first old new : List D) (d : D) → i < length ns → n ≡ get_or ns i n → old ≡ first ++ map f (take i ns) → new ≡ old ++ d ∷ [] → d ≡ f n
    → new ≡ first ++ map f (take (i + 1) ns)
known_more f ns i n first old new d within is had pushed one =
    let more : take (i + 1) ns ≡ take i ns ++ n ∷ [] = take_more ns i n within ∙ ap (λ m. take i ns ++ m ∷ []) (sym is) in
    let all : map f (take (i + 1) ns) ≡ map f (take i ns) ++ f n ∷ [] = ap (map f) more ∙ map-append f (take i ns) (n ∷ []) in
    pushed ∙ ap (λ (ds : List _). ds ++ d ∷ []) had ∙ append_assoc first (map f (take i ns)) (d ∷ []) ∙ ap (λ x. first ++ (map f (take i ns) ++ x ∷ [])) one ∙ ap (λ ds. first ++ ds) (sym all)
