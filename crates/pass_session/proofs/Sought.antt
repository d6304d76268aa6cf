-- An object of an opening by its place: it is the one of its number, and a file has the number of its place.
use Rattle.std.proofs.Common.{◌≡◌, ℕ, zero, suc, ◌+◌, Bool, true, false, ◌==◌, ◌||◌, List, [], ◌∷◌, ◌++◌, length, map, refl, ap, sym, ◌∙◌, subst, arith, cond}
use Rattle.std.specs.Prelude.{Some, None, slice_get, find, is_some, option_map}
use Rattle.std.specs.Option.{option_map_or}
use Rattle.std.proofs.lemmas.Option.{slice_get-map, slice_get_within}
use Rattle.pass_entry.proofs.Lists.{same_numbers, same_itself}
use Rattle.pass_entry.specs.declared.objects.Kind.{Kind}
use Rattle.pass_entry.specs.declared.objects.Kind.TheVariants as kind
use Rattle.pass_entry.specs.declared.objects.Node.{Node}
use Rattle.pass_plain.specs.declared.start.StartFile.{StartFile}
use Rattle.pass_plain.specs.Sessions.{Session, opened_file, opened_app, is_opened, opening_version}
use Rattle.pass_plain.specs.Sound.{IsSound}
use Rattle.pass_book.specs.Numbers.{files_of, IsFileNumber}

-- what stands alone with its number is found by it
found : {X : Type 0} (key : X → ℕ) (xs : List X) (i : ℕ) (x : X) → slice_get xs i ≡ Some x → ((j : ℕ) (y : X) → slice_get xs j ≡ Some y → key y ≡ key x → j ≡ i)
    → find (λ y. key y == key x) xs ≡ Some x
found key [] i x at single = absurd (cc)
found {X} key (y ∷ ys) i x at single = by_test (key y == key x) refl i at single (found key ys)
  where
    by_test : (b : Bool) → (key y == key x) ≡ b → (i : ℕ) → slice_get (y ∷ ys) i ≡ Some x → ((j : ℕ) (z : X) → slice_get (y ∷ ys) j ≡ Some z → key z ≡ key x → j ≡ i)
        → ((i : ℕ) (x : X) → slice_get ys i ≡ Some x → ((j : ℕ) (z : X) → slice_get ys j ≡ Some z → key z ≡ key x → j ≡ i) → find (λ z. key z == key x) ys ≡ Some x)
        → cond b (Some y) (find (λ z. key z == key x) ys) ≡ Some x
    by_test true is i at single rest = subst (λ k. slice_get (y ∷ ys) k ≡ Some x) (sym (single 0 y refl (same_numbers (key y) (key x) is))) at
    by_test false is zero at single rest =
        let same : y ≡ x = cc in
        absurd (let z : true ≡ false = sym (same_itself (key x)) ∙ ap (λ (w : X). key w == key x) (sym same) ∙ is in cc)
    by_test false is (suc i) at single rest = rest i x at (λ j z there same. let e : suc j ≡ suc i = single (suc j) z there same in omega arith)

-- what has a number that none has isn't found
missed : {X : Type 0} (key : X → ℕ) (xs : List X) (n : ℕ) → ((j : ℕ) (y : X) → slice_get xs j ≡ Some y → key y ≡ n → ⊥) → find (λ y. key y == n) xs ≡ None
missed key [] n none = refl
missed {X} key (y ∷ ys) n none = by_test (key y == n) refl (missed key ys n (λ j z at same. none (suc j) z at same))
  where
    by_test : (b : Bool) → (key y == n) ≡ b → find (λ z. key z == n) ys ≡ None → cond b (Some y) (find (λ z. key z == n) ys) ≡ None
    by_test true is rest = absurd (none 0 y refl (same_numbers (key y) n is))
    by_test false is rest = rest

front : {X Y : Type 0} (f : X → Y) (xs : List X) (ys : List Y) (i : ℕ) (x : X) → slice_get xs i ≡ Some x → slice_get (map f xs ++ ys) i ≡ Some (f x)
front f [] ys i x at = absurd (cc)
front f (z ∷ xs) ys zero x at = let same : z ≡ x = cc in ap (λ w. Some (f w)) same
front f (z ∷ xs) ys (suc i) x at = front f xs ys i x at

behind : {X Y Z : Type 0} (f : X → Z) (g : Y → Z) (xs : List X) (ys : List Y) (i : ℕ) (y : Y) → slice_get ys i ≡ Some y → slice_get (map f xs ++ map g ys) (length xs + i) ≡ Some (g y)
behind f g [] ys i y at = let e : 0 + i ≡ i = omega arith in ap (slice_get (map g ys)) e ∙ slice_get-map g ys i ∙ ap (option_map g) at
behind {X} {Y} {Z} f g (x ∷ xs) ys i y at =
    let e : length (x ∷ xs) + i ≡ suc (length xs + i) = omega arith in
    ap (slice_get (f x ∷ (map f xs ++ map g ys))) e ∙ behind f g xs ys i y at

module _ (session : Session) (sound : IsSound session) where
  abbrev files : List StartFile
  files = session.start.files.items

  abbrev apps : List Node
  apps = session.start.apps.items

  abbrev of_file : StartFile → ℕ × Kind
  of_file f = (f.node.pnode, kind.File)

  abbrev of_app : Node → ℕ × Kind
  of_app n = (n.pnode, kind.App)

  pub file_found : (i : ℕ) (file : StartFile) → slice_get files i ≡ Some file → opened_file session.start file.node.pnode ≡ Some file
  file_found i file at =
      found (λ (f : StartFile). f.node.pnode) files i file at
      (λ j other there same. sound.single j i (of_file other) (of_file file) (front of_file files (map of_app apps) j other there) (front of_file files (map of_app apps) i file at) same)

  app_found : (i : ℕ) (app : Node) → slice_get apps i ≡ Some app → opened_app session.start app.pnode ≡ Some app
  app_found i app at =
      found (λ (n : Node). n.pnode) apps i app at
      (λ j other there same.
      let e = sound.single (length files + j) (length files + i) (of_app other) (of_app app) (behind of_file of_app files apps j other there) (behind of_file of_app files apps i app at) same in
      omega (arith, e))

  no_file : (i : ℕ) (app : Node) → slice_get apps i ≡ Some app → opened_file session.start app.pnode ≡ None
  no_file i app at =
      missed (λ (f : StartFile). f.node.pnode) files app.pnode
      (λ j file there same.
      let e = sound.single j (length files + i) (of_file file) (of_app app) (front of_file files (map of_app apps) j file there) (behind of_file of_app files apps i app at) same in
      let low = slice_get_within files j file there in
      absurd (omega (arith, e, low)))

  pub app_version : (i : ℕ) (app : Node) → slice_get apps i ≡ Some app → app.version ≡ opening_version session.start app.pnode
  app_version i app at =
      sym (ap (λ o. option_map_or (λ (f : StartFile). f.node.version) o (option_map_or (λ (n : Node). n.version) (opened_app session.start app.pnode) 1)) (no_file i app at)
      ∙ ap (λ o. option_map_or (λ (n : Node). n.version) o 1) (app_found i app at))

  pub app_opened : (i : ℕ) (app : Node) → slice_get apps i ≡ Some app → true ≡ is_opened session.start app.pnode
  app_opened i app at =
      sym (ap (λ o. is_some o || is_some (opened_app session.start app.pnode)) (no_file i app at) ∙ ap (λ o. is_some o) (app_found i app at))

  numbered : (fs : List StartFile) (rest : List (ℕ × Kind)) (i : ℕ) (file : StartFile) → slice_get fs i ≡ Some file → slice_get (files_of (map of_file fs ++ rest)) i ≡ Some file.node.pnode
  numbered [] rest i file at = absurd (cc)
  numbered (f ∷ fs) rest zero file at = let same : f ≡ file = cc in ap (λ (g : StartFile). Some g.node.pnode) same
  numbered (f ∷ fs) rest (suc i) file at = numbered fs rest i file at

  pub file_number : (i : ℕ) (file : StartFile) → slice_get files i ≡ Some file → IsFileNumber session [] file.node.pnode i
  file_number i file at = numbered files (map of_app apps) i file at
