-- What a pool has after a block was put into it, and after a file's blocks were taken out.
use Rattle.std.proofs.Common.{◌≡◌, ◌⊎◌, ◌+◌, ◌-◌, ◌<◌, ◌≤◌, ℕ, zero, suc, Bool, true, false, List, [], ◌∷◌, ◌++◌, length, take, filter, inl, inr, refl, sym, ◌∙◌, ap, arith, ⊎_elim, append_assoc}
use Rattle.std.specs.Prelude.{Option, Some, None, slice_get, cond, ◌==◌, ◌&&◌, not, nat_lt, if◌then◌else◌}
use Rattle.std.specs.Map.{lookup, remove_entry, keys_of}
use Rattle.std.specs.List.{AllByRecursion}
use Rattle.std.proofs.lemmas.List.{append-nil}
use Rattle.std.proofs.lemmas.Bool.Decides.{nat_tests}
use Rattle.std.proofs.lemmas.Map.Entries.{place_from_lookup}
use Rattle.std.proofs.lemmas.Map.Keys.{IsDistinct-head, IsDistinct-tail}
use Rattle.std.proofs.lemmas.Bool.{cases_Bool, and_parts}
use Rattle.std.proofs.lemmas.Option.{none-some}
use Rattle.pass_plain.proofs.Lists.{some_is, same_numbers, same_itself}
use Rattle.pass_pool.specs.declared.pool.FileBlock.{FileBlock}
use Rattle.pass_pool.specs.Pools.{is_block, is_there, pushed_out, AreOnce}
use Rattle.pass_vault.specs.Pooled.{Blocks, staged_in, without_file, with_block, staged_all, list_of, pushed_all, Unsyncs}
use Rattle.pass_vault.proofs.Reals.{filter_one, filter_from}
use Rattle.pass_entry.proofs.Places.{slice_get-take, filter_agrees}

abbrev pub Pair : Type 0
Pair = FileBlock × List ℕ

-- The test of a key

pub is_block_here : (number block : ℕ) → is_block number block (record { number = number; block = block }) ≡ true
is_block_here number block = ap (λ (b : Bool). b && (block == block)) (same_itself number) ∙ same_itself block

pub is_block_same : (number block : ℕ) (k : FileBlock) → is_block number block k ≡ true → (number ≡ k.number) × (block ≡ k.block)
is_block_same number block k is = let both = and_parts (number == k.number) (block == k.block) is in (same_numbers number k.number both.0, same_numbers block k.block both.1)

-- Lookups

lookup_yes : (q : FileBlock → Bool) (e : Pair) (es : List Pair) → q e.0 ≡ true → lookup q (e ∷ es) ≡ Some e.1
lookup_yes q e es is = ap (λ (b : Bool). cond b (Some e.1) (lookup q es)) is

lookup_not : (q : FileBlock → Bool) (e : Pair) (es : List Pair) → q e.0 ≡ false → lookup q (e ∷ es) ≡ lookup q es
lookup_not q e es is = ap (λ (b : Bool). cond b (Some e.1) (lookup q es)) is

-- an entry whose key passes is found, or one before it
pub found : (q : FileBlock → Bool) (es : List Pair) (i : ℕ) (p : Pair) → slice_get es i ≡ Some p → q p.0 ≡ true → lookup q es ≡ None → ⊥
found q [] i p at is none = absurd (cc)
found q (e ∷ es) zero p at is none =
    let here : q e.0 ≡ true = ap (λ (x : Pair). q x.0) (some_is e p at) ∙ is in none-some e.1 (sym none ∙ lookup_yes q e es here)
found q (e ∷ es) (suc i) p at is none =
    ⊎_elim (λ (yes_ : q e.0 ≡ true). none-some e.1 (sym none ∙ lookup_yes q e es yes_))
    (λ (not_ : q e.0 ≡ false). found q es i p at is (sym (lookup_not q e es not_) ∙ none))
    (cases_Bool (q e.0))

-- the first ones: what they lack
none_take : (q : FileBlock → Bool) (k : ℕ) (es : List Pair) → lookup q es ≡ None → lookup q (take k es) ≡ None
none_take q zero es none = refl
none_take q (suc k) [] none = refl
none_take q (suc k) (e ∷ es) none =
    ⊎_elim (λ (yes_ : q e.0 ≡ true). absurd (none-some e.1 (sym none ∙ lookup_yes q e es yes_)))
    (λ (not_ : q e.0 ≡ false). lookup_not q e (take k es) not_ ∙ none_take q k es (sym (lookup_not q e es not_) ∙ none))
    (cases_Bool (q e.0))

-- the last one, with this value and a key that passes, is all that they lack
pub record IsLast (q : FileBlock → Bool) (k : ℕ) (es : List Pair) (x : List ℕ) : Type 0 where
  pub gone : lookup q (take k es) ≡ None
  pub e : Pair
  pub at : slice_get es k ≡ Some e
  pub passes : q e.0 ≡ true
  pub value : e.1 ≡ x

some_take : (q : FileBlock → Bool) (k : ℕ) (es : List Pair) (x : List ℕ) → length es ≤ k + 1 → lookup q es ≡ Some x → (lookup q (take k es) ≡ Some x) ⊎ IsLast q k es x
some_take q zero [] x few is = absurd (none-some x is)
some_take q (suc k) [] x few is = absurd (none-some x is)
some_take q zero (e ∷ []) x few is =
    ⊎_elim (λ (yes_ : q e.0 ≡ true). inr (record { gone = refl; e = e; at = refl; passes = yes_; value = some_is e.1 x (sym (lookup_yes q e [] yes_) ∙ is) }))
    (λ (not_ : q e.0 ≡ false). absurd (none-some x (sym (lookup_not q e [] not_) ∙ is)))
    (cases_Bool (q e.0))
some_take q zero (e ∷ f ∷ es) x few is = absurd (omega (arith, few))
some_take q (suc k) (e ∷ es) x few is =
    ⊎_elim (λ (yes_ : q e.0 ≡ true). inl (lookup_yes q e (take k es) yes_ ∙ sym (lookup_yes q e es yes_) ∙ is))
    (λ (not_ : q e.0 ≡ false). ⊎_elim
    (λ (there : lookup q (take k es) ≡ Some x). inl (lookup_not q e (take k es) not_ ∙ there))
    (λ (l : IsLast q k es x). inr (record { gone = lookup_not q e (take k es) not_ ∙ l.gone; e = l.e; at = l.at; passes = l.passes; value = l.value }))
    (some_take q k es x (omega (arith, few)) (sym (lookup_not q e es not_) ∙ is)))
    (cases_Bool (q e.0))

-- Two keys

abbrev AreApart : (FileBlock → Bool) → (FileBlock → Bool) → Type 0
AreApart q t = (k : FileBlock) → q k ≡ true → t k ≡ true → ⊥

-- a removal of another key
other_removed : (q t : FileBlock → Bool) → AreApart q t → (es : List Pair) → lookup q (remove_entry t es) ≡ lookup q es
other_removed q t apart [] = refl
other_removed q t apart (e ∷ es) = by_tests (t e.0) refl (q e.0) refl (other_removed q t apart es)
  where
    by_tests : (a : Bool) → t e.0 ≡ a → (b : Bool) → q e.0 ≡ b → lookup q (remove_entry t es) ≡ lookup q es → lookup q (remove_entry t (e ∷ es)) ≡ lookup q (e ∷ es)
    by_tests true removed true passes more = absurd (apart e.0 passes removed)
    by_tests true removed false passes more = ap (λ (c : Bool). lookup q (cond c es (e ∷ remove_entry t es))) removed ∙ sym (lookup_not q e es passes)
    by_tests false removed true passes more = ap (λ (c : Bool). lookup q (cond c es (e ∷ remove_entry t es))) removed ∙ lookup_yes q e (remove_entry t es) passes ∙ sym (lookup_yes q e es passes)
    by_tests false removed false passes more = ap (λ (c : Bool). lookup q (cond c es (e ∷ remove_entry t es))) removed ∙ lookup_not q e (remove_entry t es) passes ∙ more ∙ sym (lookup_not q e es passes)

-- what is left was there
pub removed_from : (t : FileBlock → Bool) (es : List Pair) (i : ℕ) (p : Pair) → slice_get (remove_entry t es) i ≡ Some p → (j : ℕ) × (slice_get es j ≡ Some p)
removed_from t [] i p at = absurd (cc)
removed_from t (e ∷ es) i p at = by_test (t e.0) refl (λ i there. removed_from t es i p there)
  where
    at_cond : (b : Bool) → t e.0 ≡ b → slice_get (cond b es (e ∷ remove_entry t es)) i ≡ Some p
    at_cond b is = ap (λ (c : Bool). slice_get (cond c es (e ∷ remove_entry t es)) i) (sym is) ∙ at

    behind : (i : ℕ) → slice_get (e ∷ remove_entry t es) i ≡ Some p → ((i : ℕ) → slice_get (remove_entry t es) i ≡ Some p → (j : ℕ) × (slice_get es j ≡ Some p)) → (j : ℕ) × (slice_get (e ∷ es) j ≡ Some p)
    behind zero there more = (0, there)
    behind (suc i) there more = let rest = more i there in (suc rest.0, rest.1)

    by_test : (b : Bool) → t e.0 ≡ b → ((i : ℕ) → slice_get (remove_entry t es) i ≡ Some p → (j : ℕ) × (slice_get es j ≡ Some p)) → (j : ℕ) × (slice_get (e ∷ es) j ≡ Some p)
    by_test true is more = (suc i, at_cond true is)
    by_test false is more = behind i (at_cond false is) more

-- A block is put into a pool
module _ (pool : Blocks) (number : ℕ) (b : ℕ × List ℕ) where
  abbrev key : FileBlock
  key = record { number = number; block = b.0 }

  abbrev there : Bool
  there = is_there pool key

  abbrev rest : Bool → List Pair
  rest c = if c then remove_entry (is_block number b.0) pool.entries else take (pool.cap - 1) pool.entries

  -- it is there with its bytes
  pub put_here : staged_in (with_block pool number b) number b.0 ≡ Some b.1
  put_here = lookup_yes (is_block number b.0) (key, b.1) (rest there) (is_block_here number b.0)

  -- and every other pair was there
  pub put_from : (i : ℕ) (p : Pair) → slice_get (with_block pool number b).entries i ≡ Some p → (p ≡ (key, b.1)) ⊎ ((j : ℕ) × (slice_get pool.entries j ≡ Some p))
  put_from zero p at = inl (sym (some_is (key, b.1) p at))
  put_from (suc i) p at = inr (by_test there refl)
    where
      by_test : (c : Bool) → there ≡ c → (j : ℕ) × (slice_get pool.entries j ≡ Some p)
      by_test true is = removed_from (is_block number b.0) pool.entries i p (ap (λ (c : Bool). slice_get (rest c) i) (sym is) ∙ at)
      by_test false is = (i, slice_get-take (pool.cap - 1) i pool.entries p (ap (λ (c : Bool). slice_get (rest c) i) (sym is) ∙ at))

  -- Another block
  module _ (other block : ℕ) (apart : number ≡ other → b.0 ≡ block → ⊥) where
    abbrev q : FileBlock → Bool
    q = is_block other block

    q_apart : AreApart q (is_block number b.0)
    q_apart k one two = let x = is_block_same other block k one in let y = is_block_same number b.0 k two in apart (y.0 ∙ sym x.0) (y.1 ∙ sym x.1)

    not_key : q key ≡ false
    not_key = ⊎_elim (λ (yes_ : q key ≡ true). absurd (q_apart key yes_ (is_block_here number b.0))) (λ (not_ : q key ≡ false). not_) (cases_Bool (q key))

    behind_key : staged_in (with_block pool number b) other block ≡ lookup q (rest there)
    behind_key = lookup_not q (key, b.1) (rest there) not_key

    -- stays away
    pub put_none : staged_in pool other block ≡ None → staged_in (with_block pool number b) other block ≡ None
    put_none none = behind_key ∙ by_test there refl
      where
        by_test : (c : Bool) → there ≡ c → lookup q (rest there) ≡ None
        by_test true is = ap (λ (c : Bool). lookup q (rest c)) is ∙ other_removed q (is_block number b.0) q_apart pool.entries ∙ none
        by_test false is = ap (λ (c : Bool). lookup q (rest c)) is ∙ none_take q (pool.cap - 1) pool.entries none

    -- or stays, or is pushed out
    pub put_some : (x : List ℕ) → length pool.entries ≤ pool.cap → staged_in pool other block ≡ Some x
        → (staged_in (with_block pool number b) other block ≡ Some x)
        ⊎ ((staged_in (with_block pool number b) other block ≡ None) × ((e : Pair) × (pushed_out pool key ≡ Some e) × (other ≡ e.0.number) × (block ≡ e.0.block) × (e.1 ≡ x)))
    put_some x few is = by_test there refl
      where
        by_test : (c : Bool) → there ≡ c
            → (staged_in (with_block pool number b) other block ≡ Some x)
            ⊎ ((staged_in (with_block pool number b) other block ≡ None) × ((e : Pair) × (pushed_out pool key ≡ Some e) × (other ≡ e.0.number) × (block ≡ e.0.block) × (e.1 ≡ x)))
        by_test true known = inl (behind_key ∙ ap (λ (c : Bool). lookup q (rest c)) known ∙ other_removed q (is_block number b.0) q_apart pool.entries ∙ is)
        by_test false fresh = ⊎_elim
            (λ (stays : lookup q (take (pool.cap - 1) pool.entries) ≡ Some x). inl (behind_key ∙ ap (λ (c : Bool). lookup q (rest c)) fresh ∙ stays))
            (λ (l : IsLast q (pool.cap - 1) pool.entries x).
            let same = is_block_same other block l.e.0 l.passes in
            inr (
              behind_key ∙ ap (λ (c : Bool). lookup q (rest c)) fresh ∙ l.gone,
              (l.e, ap (λ (c : Bool). if c then None else slice_get pool.entries (pool.cap - 1)) fresh ∙ l.at, same.0, same.1, l.value),
            ))
            (some_take q (pool.cap - 1) pool.entries x (omega (arith, few)) is)

  -- what is pushed out was there
  pub pushed_from : (e : Pair) → pushed_out pool key ≡ Some e → (j : ℕ) × (slice_get pool.entries j ≡ Some e)
  pushed_from e is = by_test there refl
    where
      no_pair : None ≡ Some e → ⊥
      no_pair none = absurd (cc)

      by_test : (c : Bool) → there ≡ c → (j : ℕ) × (slice_get pool.entries j ≡ Some e)
      by_test true known = absurd (no_pair (sym (ap (λ (c : Bool). if c then None else slice_get pool.entries (pool.cap - 1)) known) ∙ is))
      by_test false fresh = (pool.cap - 1, sym (ap (λ (c : Bool). if c then None else slice_get pool.entries (pool.cap - 1)) fresh) ∙ is)

-- Blocks are put, one after the other
pub staged_push : (pool : Blocks) (number : ℕ) (bs : List (ℕ × List ℕ)) (b : ℕ × List ℕ) → staged_all pool number (bs ++ b ∷ []) ≡ with_block (staged_all pool number bs) number b
staged_push pool number [] b = refl
staged_push pool number (x ∷ bs) b = staged_push (with_block pool number x) number bs b

pub pushed_push : (pool : Blocks) (number : ℕ) (bs : List (ℕ × List ℕ)) (b : ℕ × List ℕ)
    → pushed_all pool number (bs ++ b ∷ []) ≡ pushed_all pool number bs ++ list_of (pushed_out (staged_all pool number bs) (record { number = number; block = b.0 }))
pushed_push pool number [] b = append-nil (list_of (pushed_out pool (record { number = number; block = b.0 })))
pushed_push pool number (x ∷ bs) b =
    ap (λ (l : List Pair). list_of (pushed_out pool (record { number = number; block = x.0 })) ++ l) (pushed_push (with_block pool number x) number bs b)
    ∙ sym (append_assoc (list_of (pushed_out pool (record { number = number; block = x.0 }))) (pushed_all (with_block pool number x) number bs)
    (list_of (pushed_out (staged_all (with_block pool number x) number bs) (record { number = number; block = b.0 }))))

-- what is unsynced, after one more
both_empty : (xs ys : List Pair) → xs ++ ys ≡ [] → (xs ≡ []) × (ys ≡ [])
both_empty [] ys is = (refl, is)
both_empty (x ∷ xs) ys is = absurd (cc)

in_either : (xs ys : List Pair) (second third : Bool) → ((xs ≡ [] → ⊥) → second ≡ true) → (second ≡ true → third ≡ true) → ((ys ≡ [] → ⊥) → third ≡ true) → (xs ++ ys ≡ [] → ⊥) → third ≡ true
in_either [] ys second third one up two some = two some
in_either (x ∷ xs) ys second third one up two some = up (one (λ (none : x ∷ xs ≡ []). absurd (cc)))

pub unsyncs_push : (pool : Blocks) (number : ℕ) (bs : List (ℕ × List ℕ)) (b : ℕ × List ℕ) (first second third : Bool) → Unsyncs (pushed_all pool number bs) first second
    → Unsyncs (list_of (pushed_out (staged_all pool number bs) (record { number = number; block = b.0 }))) second third → Unsyncs (pushed_all pool number (bs ++ b ∷ [])) first third
unsyncs_push pool number bs b first second third one two = (
  λ was. two.0 (one.0 was),
  λ none. let parts = both_empty (pushed_all pool number bs) (list_of (pushed_out (staged_all pool number bs) (record { number = number; block = b.0 }))) (sym (pushed_push pool number bs b) ∙ none) in
      two.1 parts.1 ∙ one.1 parts.0,
  λ some. in_either (pushed_all pool number bs) (list_of (pushed_out (staged_all pool number bs) (record { number = number; block = b.0 }))) second third one.2 two.0 two.2 (λ none. some (pushed_push pool number bs b ∙ none)),
)

-- The file's blocks are taken out
abbrev pub is_taken : ℕ → ℕ → FileBlock → Bool
is_taken number n k = (number == k.number) && nat_lt k.block n

-- those below a number are taken
abbrev pub without_below : ℕ → ℕ → List Pair → List Pair
without_below number n es = filter (λ (p : Pair). not (is_taken number n p.0)) es

filter_all : (f : Pair → Bool) (es : List Pair) → ((p : Pair) → f p ≡ true) → filter f es ≡ es
filter_all f [] all = refl
filter_all f (e ∷ es) all = ap (λ (b : Bool). cond b (e ∷ filter f es) (filter f es)) (all e) ∙ ap (λ (l : List Pair). e ∷ l) (filter_all f es all)

filter_two : (f g h : Pair → Bool) (es : List Pair) → ((p : Pair) → h p ≡ (g p && f p)) → filter f (filter g es) ≡ filter h es
filter_two f g h [] both = refl
filter_two f g h (e ∷ es) both = by_tests (g e) refl (f e) refl (filter_two f g h es both)
  where
    by_tests : (a : Bool) → g e ≡ a → (b : Bool) → f e ≡ b → filter f (filter g es) ≡ filter h es → filter f (filter g (e ∷ es)) ≡ filter h (e ∷ es)
    by_tests true one true two more = ap (filter f) (filter_one g e es true one) ∙ filter_one f e (filter g es) true two ∙ ap (λ (l : List Pair). e ∷ l) more
        ∙ sym (filter_one h e es true (both e ∙ ap (λ (b : Bool). b && f e) one ∙ two))
    by_tests true one false two more = ap (filter f) (filter_one g e es true one) ∙ filter_one f e (filter g es) false two ∙ more ∙ sym (filter_one h e es false (both e ∙ ap (λ (b : Bool). b && f e) one ∙ two))
    by_tests false one b two more = ap (filter f) (filter_one g e es false one) ∙ more ∙ sym (filter_one h e es false (both e ∙ ap (λ (b : Bool). b && f e) one))

abbrev same_block : FileBlock → FileBlock → Bool
same_block a b = is_block a.number a.block b

-- where a block is there once, to take it is to keep all others
removed_one : (number block : ℕ) (es : List Pair) → AreOnce es → remove_entry (is_block number block) es ≡ filter (λ (p : Pair). not (is_block number block p.0)) es
removed_one number block [] once = refl
removed_one number block (e ∷ es) once = by_test (is_block number block e.0) refl (removed_one number block es (IsDistinct-tail same_block e.0 (keys_of es) once))
  where
    others : is_block number block e.0 ≡ true → (es : List Pair) → AllByRecursion (λ y. is_block e.0.number e.0.block y ≡ false) (keys_of es) → filter (λ (p : Pair). not (is_block number block p.0)) es ≡ es
    others is [] apart = refl
    others is (x ∷ es) apart =
        let same = is_block_same number block e.0 is in
        let not_ : is_block number block x.0 ≡ false = ap (λ (n : ℕ). is_block n block x.0) same.0 ∙ ap (λ (b : ℕ). is_block e.0.number b x.0) same.1 ∙ apart.0 in
        filter_one (λ (p : Pair). not (is_block number block p.0)) x es true (ap not not_) ∙ ap (λ (l : List Pair). x ∷ l) (others is es apart.1)

    by_test : (b : Bool) → is_block number block e.0 ≡ b → remove_entry (is_block number block) es ≡ filter (λ (p : Pair). not (is_block number block p.0)) es
        → remove_entry (is_block number block) (e ∷ es) ≡ filter (λ (p : Pair). not (is_block number block p.0)) (e ∷ es)
    by_test true is more = ap (λ (c : Bool). cond c es (e ∷ remove_entry (is_block number block) es)) is
        ∙ sym (others is es (IsDistinct-head same_block e.0 (keys_of es) once)) ∙ sym (filter_one (λ (p : Pair). not (is_block number block p.0)) e es false (ap not is))
    by_test false is more = ap (λ (c : Bool). cond c es (e ∷ remove_entry (is_block number block) es)) is
        ∙ ap (λ (l : List Pair). e ∷ l) more ∙ sym (filter_one (λ (p : Pair). not (is_block number block p.0)) e es true (ap not is))

taken_more : (mine : Bool) (b n : ℕ) → not (mine && nat_lt b (n + 1)) ≡ (not (mine && nat_lt b n) && not (mine && (n == b)))
taken_more true b n = grind (arith, nat_tests)
taken_more false b n = refl

pub without_none : (number : ℕ) (es : List Pair) → without_below number 0 es ≡ es
without_none number es = filter_all (λ (p : Pair). not (is_taken number 0 p.0)) es (λ p. none_low (number == p.0.number) p.0.block)
  where
    none_low : (mine : Bool) (b : ℕ) → not (mine && nat_lt b 0) ≡ true
    none_low true b = grind (arith, nat_tests)
    none_low false b = refl

pub without_more : (number n : ℕ) (es now : List Pair) → now ≡ without_below number n es → AreOnce now → remove_entry (is_block number n) now ≡ without_below number (n + 1) es
without_more number n es now is once =
    removed_one number n now once ∙ ap (filter (λ (p : Pair). not (is_block number n p.0))) is
    ∙ filter_two (λ (p : Pair). not (is_block number n p.0)) (λ (p : Pair). not (is_taken number n p.0)) (λ (p : Pair). not (is_taken number (n + 1) p.0)) es (λ p. taken_more (number == p.0.number) p.0.block n)

pub without_all : (number n : ℕ) (es : List Pair) → ((i : ℕ) (p : Pair) → slice_get es i ≡ Some p → p.0.block < n) → without_below number n es ≡ filter (λ (p : Pair). not (number == p.0.number)) es
without_all number n es low = filter_agrees (λ (p : Pair). not (is_taken number n p.0)) (λ (p : Pair). not (number == p.0.number)) es (λ i p at. all_low (number == p.0.number) p.0.block (low i p at))
  where
    all_low : (mine : Bool) (b : ℕ) → b < n → not (mine && nat_lt b n) ≡ not mine
    all_low true b less = grind (arith, nat_tests)
    all_low false b less = refl

-- what is left was there, and is of another file
pub left_from : (number : ℕ) (pool : Blocks) (i : ℕ) (p : Pair) → slice_get (without_file number pool).entries i ≡ Some p → ((j : ℕ) × (slice_get pool.entries j ≡ Some p)) × ((number == p.0.number) ≡ false)
left_from number pool i p at = let from = filter_from (λ (p : Pair). not (number == p.0.number)) pool.entries i p at in (from.0, flip (number == p.0.number) from.1)
  where
    flip : (b : Bool) → not b ≡ true → b ≡ false
    flip true is = absurd (cc)
    flip false is = refl

-- and all of that stays
filter_lookup : (q : FileBlock → Bool) (keep : Pair → Bool) → ((e : Pair) → q e.0 ≡ true → keep e ≡ true) → (es : List Pair) → lookup q (filter keep es) ≡ lookup q es
filter_lookup q keep stays [] = refl
filter_lookup q keep stays (e ∷ es) = by_tests (keep e) refl (q e.0) refl (filter_lookup q keep stays es)
  where
    by_tests : (a : Bool) → keep e ≡ a → (b : Bool) → q e.0 ≡ b → lookup q (filter keep es) ≡ lookup q es → lookup q (filter keep (e ∷ es)) ≡ lookup q (e ∷ es)
    by_tests true one true two more = ap (lookup q) (filter_one keep e es true one) ∙ lookup_yes q e (filter keep es) two ∙ sym (lookup_yes q e es two)
    by_tests true one false two more = ap (lookup q) (filter_one keep e es true one) ∙ lookup_not q e (filter keep es) two ∙ more ∙ sym (lookup_not q e es two)
    by_tests false one true two more = absurd (cc (sym one ∙ stays e two))
    by_tests false one false two more = ap (lookup q) (filter_one keep e es false one) ∙ more ∙ sym (lookup_not q e es two)

pub left_others : (number : ℕ) (pool : Blocks) (other block : ℕ) → (number ≡ other → ⊥) → staged_in (without_file number pool) other block ≡ staged_in pool other block
left_others number pool other block apart = filter_lookup (is_block other block) (λ (p : Pair). not (number == p.0.number))
    (λ e is. let same = is_block_same other block e.0 is in by_test e.0.number (number == e.0.number) refl same.0) pool.entries
  where
    by_test : (k : ℕ) (b : Bool) → (number == k) ≡ b → other ≡ k → not b ≡ true
    by_test k true is same = absurd (apart (same_numbers number k is ∙ sym same))
    by_test k false is same = refl

-- where no block lies past a place, none is found there
pub none_past : (number n : ℕ) (pool : Blocks) → ((i : ℕ) (p : Pair) → slice_get pool.entries i ≡ Some p → p.0.block < n) → (block : ℕ) → n ≤ block → staged_in pool number block ≡ None
none_past number n pool low block high = by_found (staged_in pool number block) refl
  where
    by_found : (o : Option (List ℕ)) → staged_in pool number block ≡ o → staged_in pool number block ≡ None
    by_found None is = is
    by_found (Some x) is =
        let p = place_from_lookup (is_block number block) pool.entries x is in
        let same = is_block_same number block p.1 p.3 in
        let less = low p.0 (p.1, x) p.2 in
        absurd (omega (arith, less, high, same.1))

pub none_at_all : (number n : ℕ) (pool : Blocks) → ((i : ℕ) (p : Pair) → slice_get pool.entries i ≡ Some p → p.0.block < n) → ((b : ℕ) → b < n → staged_in pool number b ≡ None) → (b : ℕ) → staged_in pool number b ≡ None
none_at_all number n pool low before b = ⊎_elim (λ (less : b < n). before b less) (λ (high : n ≤ b). none_past number n pool low b high) (lt_or b n)
  where
    lt_or : (a c : ℕ) → (a < c) ⊎ (c ≤ a)
    lt_or a c = grind arith

-- whether something waits
pub is_waiting : (unsynced result : Bool) (number : ℕ) (pool : Blocks) → unsynced ≡ false → (result ≡ false → (block : ℕ) → staged_in pool number block ≡ None)
    → (unsynced ≡ true) ⊎ ((block : ℕ) × (bytes : List ℕ) × (staged_in pool number block ≡ Some bytes)) → result ≡ true
is_waiting unsynced true number pool synced none waits = refl
is_waiting unsynced false number pool synced none waits = absurd (⊎_elim
    (λ (un : unsynced ≡ true). not_both unsynced synced un)
    (λ (w : (block : ℕ) × (bytes : List ℕ) × (staged_in pool number block ≡ Some bytes)). none-some w.1 (sym (none refl w.0) ∙ w.2))
    waits)
  where
    not_both : (b : Bool) → b ≡ false → b ≡ true → ⊥
    not_both true one two = absurd (cc)
    not_both false one two = absurd (cc)
