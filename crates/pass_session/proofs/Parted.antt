-- A list that is taken apart.
use Rattle.std.proofs.Common.{◌≡◌, ℕ, suc, ◌+◌, ◌-◌, List, [], ◌∷◌, ◌++◌, length, take, drop, map, refl, ap, sym, ◌∙◌, append_assoc, arith}
use Rattle.std.specs.Prelude.{Option, Some, option_to_list}
use Rattle.std.specs.List.{range_with_len}
use Rattle.std.proofs.lemmas.List.{take-append-drop, map-append, length-append, length-map}
use Rattle.std.proofs.lemmas.List.FromFn.{length-map-range_with_len}
use Rattle.pass_entry.specs.declared.objects.Node.{Node}
use Rattle.pass_plain.specs.declared.start.Start.{Start}
use Rattle.pass_plain.specs.declared.start.StartFile.{StartFile}
use Rattle.pass_book.specs.Openings.{known_desk, new_desk, opening_desks, registry_desk}
use Rattle.pass_book.specs.Tokens.{BookId, BookState, DeskState}
use Rattle.pass_session.specs.declared.ground.Desks.{Desks}
use Rattle.pass_session.specs.Layouts.{first_process}
use Rattle.pass_session.specs.Sessions.{AreDesks}

-- the last one of a list of one is taken
pub only : {X : Type 0} (all rest : List X) (n : ℕ) (o : Option X) (x : X) → n ≡ 1 → all ≡ rest ++ option_to_list o → rest ≡ take (n - 1) all → o ≡ Some x → all ≡ x ∷ []
only all rest n o x one parts rest_is is =
    parts ∙ ap (λ l. l ++ option_to_list o) (rest_is ∙ ap (λ k. take (k - 1) all) one) ∙ ap (λ o. option_to_list o) is

-- one, so many, so many, one, and the rest
pub whole : {X : Type 0} (desks files apps firsts : List X) (r f : X) (n m : ℕ) → take 1 desks ≡ r ∷ [] → files ≡ drop 1 desks → apps ≡ drop n files → firsts ≡ drop m apps → take 1 firsts ≡ f ∷ []
    → r ∷ (take n files ++ (take m apps ++ f ∷ drop 1 firsts)) ≡ desks
whole desks files apps firsts r f n m first of_files of_apps of_firsts last =
    let third : f ∷ drop 1 firsts ≡ firsts = ap (λ l. l ++ drop 1 firsts) (sym last) ∙ take-append-drop 1 firsts in
    let second : take m apps ++ f ∷ drop 1 firsts ≡ apps = ap (λ l. take m apps ++ l) (third ∙ of_firsts) ∙ take-append-drop m apps in
    let two : take n files ++ (take m apps ++ f ∷ drop 1 firsts) ≡ files = ap (λ l. take n files ++ l) (second ∙ of_apps) ∙ take-append-drop n files in
    ap (λ l. r ∷ l) (two ∙ of_files) ∙ ap (λ l. l ++ drop 1 desks) (sym first) ∙ take-append-drop 1 desks

-- how many desks an opening has
pub desks_length : (book : BookId) (start : Start) (n : ℕ) → length (opening_desks book start n) ≡ 1 + (length start.files.items + length start.apps.items) + n
desks_length book start n =
    let fs = map (λ (f : StartFile). f.node.pnode) start.files.items in
    let ns = map (λ (n : Node). n.pnode) start.apps.items in
    let news = map (new_desk book) (range_with_len (start.ceiling + 1) n) in
    let known = map (known_desk book) (fs ++ ns) in
    let joined = length-append known news in
    let all = length-map (fs ++ ns) (known_desk book) in
    let both = length-append fs ns in
    let files = length-map start.files.items (λ (f : StartFile). f.node.pnode) in
    let apps = length-map start.apps.items (λ (n : Node). n.pnode) in
    let new = length-map-range_with_len (new_desk book) (start.ceiling + 1) n in
    omega (arith, joined, all, both, files, apps, new)

-- a list in two parts in two ways, where the first ones have one length
split : {X : Type 0} (us xs vs ys : List X) → us ++ vs ≡ xs ++ ys → length us ≡ length xs → (us ≡ xs) × (vs ≡ ys)
split [] [] vs ys same long = (refl, same)
split [] (x ∷ xs) vs ys same long = absurd (omega (arith, long))
split (u ∷ us) [] vs ys same long = absurd (omega (arith, long))
split (u ∷ us) (x ∷ xs) vs ys same long =
    let head : u ≡ x = cc in
    let rest = split us xs vs ys (ap (drop 1) same) (omega (arith, long)) in
    ((λ i. head i ∷ rest.0 i), rest.1)

map_twice : {X Y Z : Type 0} (f : X → Y) (g : Y → Z) (xs : List X) → map g (map f xs) ≡ map (λ x. g (f x)) xs
map_twice f g [] = refl
map_twice f g (x ∷ xs) = ap (λ l. g (f x) ∷ l) (map_twice f g xs)

-- the desks of an opening, which may make one object more than so many
pub desks_are : (book : BookId) (d : Desks) (desks : List DeskState) (more : ℕ) → book.session.objects ≡ suc more → desks ≡ opening_desks book book.session.start book.session.objects
    → d.registry ∷ (d.files.items ++ (d.apps.items ++ d.first ∷ d.rest.items)) ≡ desks
    → length d.files.items ≡ length book.session.start.files.items → length d.apps.items ≡ length book.session.start.apps.items → AreDesks book d
desks_are book d desks more some are is files apps =
    let start = book.session.start in
    let known = known_desk book in
    let fs = map (λ (f : StartFile). f.node.pnode) start.files.items in
    let ns = map (λ (n : Node). n.pnode) start.apps.items in
    let c = first_process start in
    let news = map (new_desk book) (range_with_len (c + 1) more) in
    let all : d.registry ∷ (d.files.items ++ (d.apps.items ++ d.first ∷ d.rest.items)) ≡ registry_desk book ∷ (map known fs ++ (map known ns ++ new_desk book c ∷ news)) =
    is ∙ are ∙ ap (λ n. opening_desks book start n) some ∙ ap (λ l. registry_desk book ∷ (l ++ new_desk book c ∷ news)) (map-append known fs ns)
    ∙ ap (λ l. registry_desk book ∷ l) (append_assoc (map known fs) (map known ns) (new_desk book c ∷ news)) in
    let a = split d.files.items (map known fs) _ _ (ap (drop 1) all) (files ∙ sym (length-map _ known ∙ length-map start.files.items (λ (f : StartFile). f.node.pnode))) in
    let b = split d.apps.items (map known ns) _ _ a.1 (apps ∙ sym (length-map _ known ∙ length-map start.apps.items (λ (n : Node). n.pnode))) in
    let rest : d.rest.items ≡ news = ap (drop 1) b.1 in
    let long : length d.rest.items ≡ more = ap length rest ∙ length-map-range_with_len (new_desk book) (c + 1) more in
    record {
      registry = (let head : d.registry ≡ registry_desk book = cc in head);
      files = a.0 ∙ map_twice (λ (f : StartFile). f.node.pnode) known start.files.items;
      apps = b.0 ∙ map_twice (λ (n : Node). n.pnode) known start.apps.items;
      first = (let head : d.first ≡ new_desk book c = cc in head);
      objects = omega (arith, long, some);
      rest = rest ∙ ap (λ n. map (new_desk book) (range_with_len (c + 1) n)) (sym long);
    }

-- a book without an entry
abbrev pub fresh_with : BookId → ℕ → BookState
fresh_with book places = record { book = book; history = []; syncs = []; places = places; claimed = 0; kept = 0 }

pub fresh_book : (b : BookState) (entries : ℕ) → b ≡ fresh_with b.book entries → b ≡ fresh_with b.book b.places
fresh_book b entries is = is ∙ ap (fresh_with b.book) (sym (ap (λ (c : BookState). c.places) is))
