-- The row of a block, one record after the other.
use Rattle.std.proofs.Common.{◌≡◌, ◌∙◌, ◌==◌, ◌&&◌, ◌+◌, ◌-◌, ◌*◌, ◌≤◌, ℕ, Bool, true, false, not, cond, List, [], ◌∷◌, ◌++◌, length, drop, refl, sym, ap, arith, append_assoc, length-append}
use Rattle.std.specs.Prelude.{Option, Some, None, nat_le, filter_map, if◌then◌else◌}
use Rattle.std.specs.List.{after_last, last_or, cons_option, prefix_len, suffix_len}
use Rattle.std.proofs.lemmas.List.{reverse-append, drop_all, drop-append-le, append-nil}
use Rattle.std.proofs.lemmas.List.Sums.{suffix_len-le-length}
use Rattle.std.proofs.lemmas.List.Elements.{filter_map-append}
use Rattle.pass_entry.specs.declared.record.Record.{Record}
use Rattle.pass_entry.specs.declared.record.Record.TheVariants as log
use Rattle.pass_plain.specs.Records.{block_size}
use Rattle.pass_range.specs.Rows.{removes, digest_in, row_of}
use Rattle.pass_range.specs.Sources.{Touch, stays, sets, goes, touch_of, touch, and_then, row_after}

module _ (p : Record → Bool) (xs : List Record) (y : Record) where
  abbrev fails : Record → Bool
  fails x = not (p x)

  suffix-push : suffix_len fails (xs ++ y ∷ []) ≡ cond (not (p y)) (1 + suffix_len fails xs) 0
  suffix-push = ap (prefix_len fails) (reverse-append xs (y ∷ []))

  after_last-here : p y ≡ true → after_last p (xs ++ y ∷ []) ≡ []
  after_last-here passes =
      let none : suffix_len fails (xs ++ y ∷ []) ≡ 0 = suffix-push ∙ ap (λ (b : Bool). cond (not b) (1 + suffix_len fails xs) 0) passes in
      ap (λ (k : ℕ). drop (length (xs ++ y ∷ []) - k) (xs ++ y ∷ [])) none ∙ drop_all (length (xs ++ y ∷ []) - 0) (xs ++ y ∷ []) (omega arith)

  after_last-more : p y ≡ false → after_last p (xs ++ y ∷ []) ≡ after_last p xs ++ y ∷ []
  after_last-more stops =
      let one : suffix_len fails (xs ++ y ∷ []) ≡ 1 + suffix_len fails xs = suffix-push ∙ ap (λ (b : Bool). cond (not b) (1 + suffix_len fails xs) 0) stops in
      let low : suffix_len fails xs ≤ length xs = suffix_len-le-length fails xs in
      let start : length (xs ++ y ∷ []) - suffix_len fails (xs ++ y ∷ []) ≡ length xs - suffix_len fails xs = omega (arith, one, low, length-append xs (y ∷ [])) in
      ap (λ (k : ℕ). drop k (xs ++ y ∷ [])) start ∙ drop-append-le (length xs - suffix_len fails xs) xs (y ∷ []) (omega arith)

last_or-push : {X : Type 0} (o : Option X) (xs : List X) (x : X) → last_or o (xs ++ x ∷ []) ≡ Some x
last_or-push o [] x = refl
last_or-push o (y ∷ xs) x = last_or-push (Some y) xs x

module _ (list : List Record) (pnode block : ℕ) where
  row-stays : (r : Record) → removes pnode block r ≡ false → digest_in pnode block r ≡ None → row_of (list ++ r ∷ []) pnode block ≡ row_of list pnode block
  row-stays r kept none =
      ap (λ (l : List Record). last_or None (filter_map (digest_in pnode block) l)) (after_last-more (removes pnode block) list r kept)
      ∙ ap (last_or None) (filter_map-append (digest_in pnode block) (after_last (removes pnode block) list) (r ∷ [])
      ∙ ap (λ (o : Option (List ℕ)). filter_map (digest_in pnode block) (after_last (removes pnode block) list) ++ cons_option o []) none
      ∙ append-nil (filter_map (digest_in pnode block) (after_last (removes pnode block) list)))

  row-goes : (r : Record) → removes pnode block r ≡ true → row_of (list ++ r ∷ []) pnode block ≡ None
  row-goes r gone = ap (λ (l : List Record). last_or None (filter_map (digest_in pnode block) l)) (after_last-here (removes pnode block) list r gone)

  row-set : (r : Record) (digest : List ℕ) → removes pnode block r ≡ false → digest_in pnode block r ≡ Some digest → row_of (list ++ r ∷ []) pnode block ≡ Some digest
  row-set r digest kept some =
      ap (λ (l : List Record). last_or None (filter_map (digest_in pnode block) l)) (after_last-more (removes pnode block) list r kept)
      ∙ ap (last_or None) (filter_map-append (digest_in pnode block) (after_last (removes pnode block) list) (r ∷ [])
      ∙ ap (λ (o : Option (List ℕ)). filter_map (digest_in pnode block) (after_last (removes pnode block) list) ++ cons_option o []) some)
      ∙ last_or-push None (filter_map (digest_in pnode block) (after_last (removes pnode block) list)) digest

-- the row after one record more
pub row-next : (list : List Record) (r : Record) (pnode block : ℕ) → row_of (list ++ r ∷ []) pnode block ≡ row_after (touch_of pnode block r) (row_of list pnode block)
row-next list (log.Size file size) pnode block = by_test ((file == pnode) && nat_le size (block * block_size)) refl
  where
    by_test : (t : Bool) → ((file == pnode) && nat_le size (block * block_size)) ≡ t → row_of (list ++ log.Size file size ∷ []) pnode block ≡ row_after (if t then goes else stays) (row_of list pnode block)
    by_test true gone = row-goes list pnode block (log.Size file size) gone
    by_test false kept = row-stays list pnode block (log.Size file size) kept refl
row-next list (log.Digest file one digest) pnode block = by_test ((file == pnode) && (one == block)) refl
  where
    by_test : (t : Bool) → ((file == pnode) && (one == block)) ≡ t → row_of (list ++ log.Digest file one digest ∷ []) pnode block ≡ row_after (if t then sets digest else stays) (row_of list pnode block)
    by_test true here = row-set list pnode block (log.Digest file one digest) digest refl (ap (λ (t : Bool). if t then Some digest else None) here)
    by_test false there = row-stays list pnode block (log.Digest file one digest) refl (ap (λ (t : Bool). if t then Some digest else None) there)
row-next list r pnode block = row-stays list pnode block r refl refl

-- touches

pub stays-then : (t : Touch) → and_then stays t ≡ t
stays-then stays = refl
stays-then (sets d) = refl
stays-then goes = refl

and_then-assoc : (a b c : Touch) → and_then (and_then a b) c ≡ and_then a (and_then b c)
and_then-assoc a b stays = refl
and_then-assoc a b (sets d) = refl
and_then-assoc a b goes = refl

pub touch-append : (p b : ℕ) (xs ys : List Record) → touch p b (xs ++ ys) ≡ and_then (touch p b xs) (touch p b ys)
touch-append p b [] ys = sym (stays-then (touch p b ys))
touch-append p b (r ∷ xs) ys = ap (and_then (touch_of p b r)) (touch-append p b xs ys) ∙ sym (and_then-assoc (touch_of p b r) (touch p b xs) (touch p b ys))

row_after-then : (a b : Touch) (old : Option (List ℕ)) → row_after (and_then a b) old ≡ row_after b (row_after a old)
row_after-then a stays old = refl
row_after-then a (sets d) old = refl
row_after-then a goes old = refl

-- the row in a longer list
pub row-append : (p b : ℕ) (xs ys : List Record) → row_of (xs ++ ys) p b ≡ row_after (touch p b ys) (row_of xs p b)
row-append p b xs [] = ap (λ (l : List Record). row_of l p b) (append-nil xs)
row-append p b xs (r ∷ ys) =
    ap (λ (l : List Record). row_of l p b) (sym (append_assoc xs (r ∷ []) ys)) ∙ row-append p b (xs ++ r ∷ []) ys
    ∙ ap (row_after (touch p b ys)) (row-next xs r p b)
    ∙ sym (row_after-then (touch_of p b r) (touch p b ys) (row_of xs p b))

-- the row of a list is what its touches leave of none
pub row-touch : (list : List Record) (p b : ℕ) → row_of list p b ≡ row_after (touch p b list) None
row-touch list p b = row-append p b [] list
