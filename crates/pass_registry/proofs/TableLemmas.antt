-- A table of objects and the list of objects that it stands for.
use Rattle.std.proofs.Common.{◌≡◌, ℕ, zero, suc, ◌+◌, Bool, true, false, not, cond, ◌&&◌, List, [], ◌∷◌, ◌++◌, length, refl, ap, sym, ◌∙◌, subst, arith}
use Rattle.std.specs.Prelude.{Option, Some, None, IsSome, is_some, slice_get, find, option_map, position, nat_lt, nat_eq, ◌==◌}
use Rattle.std.specs.List.{IsDistinct, AllByRecursion, list_any, position_or_len}
use Rattle.std.specs.Map.{lookup, keys_of}
use Rattle.std.proofs.lemmas.Bool.{lt-ltb}
use Rattle.std.proofs.lemmas.Bool.Decides.{nat_tests}
use Rattle.std.proofs.lemmas.List.{map-append}
use Rattle.std.proofs.lemmas.List.Sums.{sum_by-append}
use Rattle.pass_entry.specs.declared.objects.Kind.{Kind}
use Rattle.pass_entry.specs.declared.objects.Kind.TheVariants as kind
use Rattle.pass_plain.specs.Registries.{same_kind}
use Rattle.pass_plain.proofs.Lists.{same_numbers, same_itself, some_is, or_false, turned}
use Rattle.pass_registry.specs.declared.objects.Object.{Object}
use Rattle.pass_registry.specs.declared.objects.Object.TheVariants as object
use Rattle.pass_registry.specs.Files.{files_of, number_of}
use Rattle.pass_registry.specs.Tables.{kind_of, object_of, IsTable, is_app_in, number_in, kinds_of, IsNumbered, count_in}

abbrev pub Table : Type 0
Table = List (ℕ × Object)

-- a key that is no key of the others isn't found among them
not_found : (k : ℕ) (t : Table) → AllByRecursion (λ y. nat_eq k y ≡ false) (keys_of t) → lookup (nat_eq k) t ≡ None
not_found k [] others = refl
not_found k (e ∷ t) others = ap (λ b. cond b (Some e.1) (lookup (nat_eq k) t)) others.0 ∙ not_found k t others.1

not_below : (k : ℕ) (e : ℕ × Object) (t : Table) → IsDistinct nat_eq (keys_of (e ∷ t)) → nat_eq k e.0 ≡ true → lookup (nat_eq k) t ≡ None
unfolding IsDistinct
not_below k e t distinct same = ap (λ n. lookup (nat_eq n) t) (same_numbers k e.0 same) ∙ not_found e.0 t distinct.0

below : (e : ℕ × Object) (t : Table) → IsDistinct nat_eq (keys_of (e ∷ t)) → IsDistinct nat_eq (keys_of t)
unfolding IsDistinct
below e t distinct = distinct.1

abbrev pub is_found : ℕ → Kind → List (ℕ × Kind) → Bool
is_found k x objects = is_some (find (λ o. o.0 == k && same_kind o.1 x) objects)

-- the first object of a list is passed over where its number is another one
found_next : (k : ℕ) (x : Kind) (o : ℕ × Kind) (objects : List (ℕ × Kind)) (b : Bool) → nat_eq k o.0 ≡ b
    → is_found k x (o ∷ objects) ≡ is_some (cond (b && same_kind o.1 x) (Some o) (find (λ o. o.0 == k && same_kind o.1 x) objects))
found_next k x o objects b e = ap (λ b. is_some (cond (b && same_kind o.1 x) (Some o) (find (λ o. o.0 == k && same_kind o.1 x) objects))) (turned o.0 k ∙ e)

-- a key that isn't in the table is no object's number
none_found : (k : ℕ) (x : Kind) (t : Table) → lookup (nat_eq k) t ≡ None → is_found k x (kinds_of t) ≡ false
none_found k x [] none = refl
none_found k x (e ∷ t) none = by_test (nat_eq k e.0) refl none (none_found k x t)
  where
    by_test : (b : Bool) → nat_eq k e.0 ≡ b → cond b (Some e.1) (lookup (nat_eq k) t) ≡ None → (lookup (nat_eq k) t ≡ None → is_found k x (kinds_of t) ≡ false)
        → is_found k x (kinds_of (e ∷ t)) ≡ false
    by_test true same none rest = absurd (cc)
    by_test false other none rest = found_next k x (e.0, kind_of e.1) (kinds_of t) false other ∙ rest none

abbrev pub is_app_at : Option Object → Bool
is_app_at (Some o) = is_app_in o
is_app_at None = false

same_app : (o : Object) → same_kind (kind_of o) kind.App ≡ is_app_in o
same_app object.Process = refl
same_app (object.File n) = refl
same_app object.Pipe = refl
same_app object.App = refl

-- an app object is found where the table has one
pub app_found : (k : ℕ) (t : Table) → IsDistinct nat_eq (keys_of t) → is_found k kind.App (kinds_of t) ≡ is_app_at (lookup (nat_eq k) t)
app_found k [] distinct = refl
app_found k (e ∷ t) distinct = by_test (nat_eq k e.0) refl (app_found k t (below e t distinct))
  where
    first : (a : Bool) → nat_eq k e.0 ≡ true → is_some (cond a (Some (e.0, kind_of e.1)) (find (λ o. o.0 == k && same_kind o.1 kind.App) (kinds_of t))) ≡ a
    first true same = refl
    first false same = none_found k kind.App t (not_below k e t distinct same)

    by_test : (b : Bool) → nat_eq k e.0 ≡ b → is_found k kind.App (kinds_of t) ≡ is_app_at (lookup (nat_eq k) t)
        → is_found k kind.App (kinds_of (e ∷ t)) ≡ is_app_at (cond b (Some e.1) (lookup (nat_eq k) t))
    by_test true same rest = found_next k kind.App (e.0, kind_of e.1) (kinds_of t) true same ∙ first (same_kind (kind_of e.1) kind.App) same ∙ same_app e.1
    by_test false other rest = found_next k kind.App (e.0, kind_of e.1) (kinds_of t) false other ∙ rest

lt_zero : (l : ℕ) → nat_lt 0 (suc l) ≡ true
lt_zero l = lt-ltb 0 (suc l) (omega arith)

lt_suc : (n l : ℕ) → nat_lt (suc n) (suc l) ≡ nat_lt n l
lt_suc n l = grind (arith, nat_tests)

position_at : (b : Bool) (n : ℕ) → ◌≡◌ {A = Option ℕ} (cond b (Some (suc n)) None) (option_map suc (cond b (Some n) None))
position_at true n = refl
position_at false n = refl

-- the position among one more in front
position-next : (b : Bool) (n l : ℕ) → ◌≡◌ {A = Option ℕ} (cond (nat_lt (cond (not b) (1 + n) 0) (suc l)) (Some (cond (not b) (1 + n) 0)) None)
    (cond b (Some 0) (option_map suc (cond (nat_lt n l) (Some n) None)))
position-next true n l = ap (λ b. cond b (Some 0) None) (lt_zero l)
position-next false n l =
    let e : 1 + n ≡ suc n = omega arith in
    ap (λ m. cond (nat_lt m (suc l)) (Some m) None) e ∙ ap (λ b. cond b (Some (suc n)) None) (lt_suc n l) ∙ position_at (nat_lt n l) n

position-cons : {X : Type 0} (p : X → Bool) (x : X) (xs : List X) → position p (x ∷ xs) ≡ cond (p x) (Some 0) (option_map suc (position p xs))
position-cons p x xs = position-next (p x) (position_or_len p xs) (length xs)

none_tail : (b : Bool) (o : Object) (r : Option Object) → cond b (Some o) r ≡ None → (b ≡ false) × (r ≡ None)
none_tail true o r e = absurd (cc)
none_tail false o r e = (refl, e)

-- the number among one more file in front
pub number-cons : (k q : ℕ) (objects : List (ℕ × Kind)) (b : Bool) → nat_eq k q ≡ b
    → number_of ((q, kind.File) ∷ objects) k ≡ cond b (Some 0) (option_map suc (number_of objects k))
number-cons k q objects b e =
    position-cons (λ p. p == k) q (files_of objects) ∙ ap (λ b. cond b (Some 0) (option_map suc (number_of objects k))) (turned q k ∙ e)

-- a key that isn't in the table is no file's number
no_file : (k : ℕ) (t : Table) → lookup (nat_eq k) t ≡ None → number_of (kinds_of t) k ≡ None
no_file k [] none = refl
no_file k ((q, object.File n) ∷ t) none =
    let (other, rest) = none_tail (nat_eq k q) (object.File n) (lookup (nat_eq k) t) none in
    number-cons k q (kinds_of t) false other ∙ ap (option_map suc) (no_file k t rest)
no_file k ((q, object.Process) ∷ t) none = no_file k t (none_tail (nat_eq k q) object.Process (lookup (nat_eq k) t) none).1
no_file k ((q, object.Pipe) ∷ t) none = no_file k t (none_tail (nat_eq k q) object.Pipe (lookup (nat_eq k) t) none).1
no_file k ((q, object.App) ∷ t) none = no_file k t (none_tail (nat_eq k q) object.App (lookup (nat_eq k) t) none).1

abbrev pub number_at : Option Object → Option ℕ
number_at (Some o) = number_in o
number_at None = None

shifted : (n : ℕ) (o : Option ℕ) → option_map (λ i. n + i) (option_map suc o) ≡ option_map (λ i. suc n + i) o
shifted n None = refl
shifted n (Some i) = ap (λ (m : ℕ). Some m) (let e : n + suc i ≡ suc n + i = omega arith in e)

-- a table whose first object is no file
skipped : (k n : ℕ) (e : ℕ × Object) (t : Table) → IsDistinct nat_eq (keys_of (e ∷ t)) → number_in e.1 ≡ None → (b : Bool) → nat_eq k e.0 ≡ b
    → option_map (λ i. n + i) (number_of (kinds_of t) k) ≡ number_at (lookup (nat_eq k) t)
    → option_map (λ i. n + i) (number_of (kinds_of t) k) ≡ number_at (cond b (Some e.1) (lookup (nat_eq k) t))
skipped k n e t distinct none true same rest = ap (option_map (λ i. n + i)) (no_file k t (not_below k e t distinct same)) ∙ sym none
skipped k n e t distinct none false other rest = rest

-- a table whose first object is a file
counted : (k n q : ℕ) (t : Table) (b : Bool) → nat_eq k q ≡ b → option_map (λ i. suc n + i) (number_of (kinds_of t) k) ≡ number_at (lookup (nat_eq k) t)
    → option_map (λ i. n + i) (number_of ((q, kind.File) ∷ kinds_of t) k) ≡ number_at (cond b (Some (object.File n)) (lookup (nat_eq k) t))
counted k n q t true same rest =
    ap (option_map (λ i. n + i)) (number-cons k q (kinds_of t) true same) ∙ ap (λ (m : ℕ). Some m) (let e : n + 0 ≡ n = omega arith in e)
counted k n q t false other rest =
    ap (option_map (λ i. n + i)) (number-cons k q (kinds_of t) false other) ∙ shifted n (number_of (kinds_of t) k) ∙ rest

-- a file has the number that the table has of it, where numbers go on from n
numbered_from : (k n : ℕ) (t : Table) → IsDistinct nat_eq (keys_of t) → IsNumbered n t → option_map (λ i. n + i) (number_of (kinds_of t) k) ≡ number_at (lookup (nat_eq k) t)
numbered_from k n [] distinct numbered = refl
numbered_from k n ((q, object.File m) ∷ t) distinct (is, numbered) =
    counted k n q t (nat_eq k q) refl (numbered_from k (suc n) t (below (q, object.File m) t distinct) numbered)
    ∙ ap (λ v. number_at (cond (nat_eq k q) (Some (object.File v)) (lookup (nat_eq k) t))) (sym is)
numbered_from k n ((q, object.Process) ∷ t) distinct numbered =
    skipped k n (q, object.Process) t distinct refl (nat_eq k q) refl (numbered_from k n t (below (q, object.Process) t distinct) numbered)
numbered_from k n ((q, object.Pipe) ∷ t) distinct numbered =
    skipped k n (q, object.Pipe) t distinct refl (nat_eq k q) refl (numbered_from k n t (below (q, object.Pipe) t distinct) numbered)
numbered_from k n ((q, object.App) ∷ t) distinct numbered =
    skipped k n (q, object.App) t distinct refl (nat_eq k q) refl (numbered_from k n t (below (q, object.App) t distinct) numbered)

unshifted : (o : Option ℕ) → o ≡ option_map (λ i. 0 + i) o
unshifted None = refl
unshifted (Some i) = ap (λ (m : ℕ). Some m) (let e : i ≡ 0 + i = omega arith in e)

pub numbered : (k : ℕ) (t : Table) → IsDistinct nat_eq (keys_of t) → IsNumbered 0 t → number_of (kinds_of t) k ≡ number_at (lookup (nat_eq k) t)
numbered k t distinct are = unshifted (number_of (kinds_of t) k) ∙ numbered_from k 0 t distinct are

kind_of_object : (k : Kind) (n : ℕ) → kind_of (object_of k n) ≡ k
kind_of_object kind.Process n = refl
kind_of_object kind.File n = refl
kind_of_object kind.Pipe n = refl
kind_of_object kind.App n = refl

-- one more object behind the others
pub kinds_of-push : (t : Table) (p : ℕ) (k : Kind) (n : ℕ) → kinds_of (t ++ (p, object_of k n) ∷ []) ≡ kinds_of t ++ (p, k) ∷ []
kinds_of-push t p k n =
    map-append (λ (o : ℕ × Object). (o.0, kind_of o.1)) t ((p, object_of k n) ∷ []) ∙ ap (λ x. kinds_of t ++ (p, x) ∷ []) (kind_of_object k n)

pub count_in-push : (x : Kind) (objects : List (ℕ × Kind)) (p : ℕ) (k : Kind) → count_in x (objects ++ (p, k) ∷ []) ≡ count_in x objects + cond (same_kind k x) 1 0
count_in-push x objects p k =
    let all = sum_by-append (λ (o : ℕ × Kind). cond (same_kind o.1 x) 1 0) objects ((p, k) ∷ []) in
    omega (arith, all)

numbered_one : (k : Kind) (p n m : ℕ) → m ≡ n → IsNumbered n ((p, object_of k m) ∷ [])
numbered_one kind.Process p n m is = tt
numbered_one kind.File p n m is = (is, tt)
numbered_one kind.Pipe p n m is = tt
numbered_one kind.App p n m is = tt

numbered-push : (n : ℕ) (t : Table) (p m : ℕ) (k : Kind) → IsNumbered n t → m ≡ n + count_in kind.File (kinds_of t) → IsNumbered n (t ++ (p, object_of k m) ∷ [])
numbered-push n [] p m k are is = numbered_one k p n m (omega (arith, is))
numbered-push n ((q, object.File i) ∷ t) p m k are is =
    let more : count_in kind.File (kinds_of ((q, object.File i) ∷ t)) ≡ 1 + count_in kind.File (kinds_of t) =
    sum_by-append (λ (o : ℕ × Kind). cond (same_kind o.1 kind.File) 1 0) ((q, kind.File) ∷ []) (kinds_of t) in
    (are.0, numbered-push (suc n) t p m k are.1 (omega (arith, is, more)))
numbered-push n ((q, object.Process) ∷ t) p m k are is =
    let same : count_in kind.File (kinds_of ((q, object.Process) ∷ t)) ≡ count_in kind.File (kinds_of t) = refl in
    numbered-push n t p m k are (omega (arith, is, same))
numbered-push n ((q, object.Pipe) ∷ t) p m k are is =
    let same : count_in kind.File (kinds_of ((q, object.Pipe) ∷ t)) ≡ count_in kind.File (kinds_of t) = refl in
    numbered-push n t p m k are (omega (arith, is, same))
numbered-push n ((q, object.App) ∷ t) p m k are is =
    let same : count_in kind.File (kinds_of ((q, object.App) ∷ t)) ≡ count_in kind.File (kinds_of t) = refl in
    numbered-push n t p m k are (omega (arith, is, same))

pub table-push : (t : Table) (files apps p : ℕ) (k : Kind) → IsTable t files apps
    → IsTable (t ++ (p, object_of k files) ∷ []) (files + cond (same_kind k kind.File) 1 0) (apps + cond (same_kind k kind.App) 1 0)
table-push t files apps p k table = record {
  numbered = numbered-push 0 t p files k table.numbered (let c = table.files_counted in omega (arith, c));
  files_counted = ap (λ n. n + cond (same_kind k kind.File) 1 0) table.files_counted ∙ sym (ap (count_in kind.File) (kinds_of-push t p k files) ∙ count_in-push kind.File (kinds_of t) p k);
  apps_counted = ap (λ n. n + cond (same_kind k kind.App) 1 0) table.apps_counted ∙ sym (ap (count_in kind.App) (kinds_of-push t p k files) ∙ count_in-push kind.App (kinds_of t) p k);
}

-- a number that no object has isn't in the table
pub absent : (p : ℕ) (t : Table) → list_any (λ (o : ℕ × Kind). o.0 == p) (kinds_of t) ≡ false → lookup (nat_eq p) t ≡ None
absent p [] none = refl
absent p (e ∷ t) none =
    let (other, rest) = or_false (e.0 == p) (list_any (λ (o : ℕ × Kind). o.0 == p) (kinds_of t)) none in
    ap (λ b. cond b (Some e.1) (lookup (nat_eq p) t)) (turned p e.0 ∙ other) ∙ absent p t rest

some_suc : (o : Option ℕ) → IsSome (option_map suc o) → IsSome o
some_suc None some = some
some_suc (Some n) some = some

suc_some : (o : Option ℕ) → IsSome o → IsSome (option_map suc o)
suc_some None some = some
suc_some (Some n) some = some

abbrev FileAt : List (ℕ × Kind) → ℕ → Type 0
FileAt objects file = (i : ℕ) × (slice_get objects i ≡ Some (file, kind.File))

further : (o : ℕ × Kind) (objects : List (ℕ × Kind)) (file : ℕ) → FileAt objects file → FileAt (o ∷ objects) file
further o objects file (i, at) = (suc i, at)

-- what has a number is a file of the list
pub file_at : (objects : List (ℕ × Kind)) (file : ℕ) → IsSome (number_of objects file) → FileAt objects file
file_at [] file some = absurd (cc)
file_at ((q, kind.File) ∷ objects) file some = by_test (nat_eq file q) refl (file_at objects file)
  where
    by_test : (b : Bool) → nat_eq file q ≡ b → (IsSome (number_of objects file) → FileAt objects file) → FileAt ((q, kind.File) ∷ objects) file
    by_test true same rest = (zero, ap (λ n. Some (n, kind.File)) (sym (same_numbers file q same)))
    by_test false other rest =
        further (q, kind.File) objects file (rest (some_suc (number_of objects file) (subst IsSome (number-cons file q objects false other) some)))
file_at ((q, kind.Process) ∷ objects) file some = further (q, kind.Process) objects file (file_at objects file some)
file_at ((q, kind.Pipe) ∷ objects) file some = further (q, kind.Pipe) objects file (file_at objects file some)
file_at ((q, kind.App) ∷ objects) file some = further (q, kind.App) objects file (file_at objects file some)

-- and each file of the list has one
pub at_file : (objects : List (ℕ × Kind)) (file i : ℕ) → slice_get objects i ≡ Some (file, kind.File) → IsSome (number_of objects file)
at_file [] file i at = absurd (cc)
at_file ((q, kind.File) ∷ objects) file zero at =
    let same : nat_eq file q ≡ true = ap (λ n. nat_eq file n) (ap (λ (o : ℕ × Kind). o.0) (some_is (q, kind.File) (file, kind.File) at)) ∙ same_itself file in
    subst IsSome (sym (number-cons file q objects true same)) refl
at_file ((q, kind.File) ∷ objects) file (suc i) at = by_test (nat_eq file q) refl (at_file objects file i at)
  where
    by_test : (b : Bool) → nat_eq file q ≡ b → IsSome (number_of objects file) → IsSome (number_of ((q, kind.File) ∷ objects) file)
    by_test true same some = subst IsSome (sym (number-cons file q objects true same)) refl
    by_test false other some = subst IsSome (sym (number-cons file q objects false other)) (suc_some (number_of objects file) some)
at_file ((q, kind.Process) ∷ objects) file zero at = absurd (let e : kind.Process ≡ kind.File = ap (λ (o : ℕ × Kind). o.1) (some_is (q, kind.Process) (file, kind.File) at) in cc)
at_file ((q, kind.Process) ∷ objects) file (suc i) at = at_file objects file i at
at_file ((q, kind.Pipe) ∷ objects) file zero at = absurd (let e : kind.Pipe ≡ kind.File = ap (λ (o : ℕ × Kind). o.1) (some_is (q, kind.Pipe) (file, kind.File) at) in cc)
at_file ((q, kind.Pipe) ∷ objects) file (suc i) at = at_file objects file i at
at_file ((q, kind.App) ∷ objects) file zero at = absurd (let e : kind.App ≡ kind.File = ap (λ (o : ℕ × Kind). o.1) (some_is (q, kind.App) (file, kind.File) at) in cc)
at_file ((q, kind.App) ∷ objects) file (suc i) at = at_file objects file i at
