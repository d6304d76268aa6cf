-- What is written, cut or left alone is one of the outcomes of a crash.
use Rattle.std.specs.Prelude.{◌≡◌, ℕ, ◌+◌, ◌-◌, ◌≤◌, min, List, [], ◌∷◌, ◌++◌, length, take, drop, replicate, refl}
use Rattle.std.proofs.Common.{inl, inr, ⊎_elim, sym, ◌∙◌, ap, subst, arith, append_assoc, length-append, length-drop, length-take}
use Rattle.std.proofs.lemmas.List.{take_at, drop_at, take_all, take_min, take_rest, length-replicate}
use Rattle.pass_outside.specs.declared.disk.Area.{Area}
use Rattle.pass_outside.specs.declared.disk.Area.TheVariants.{Log, Store}
use Rattle.pass_outside.specs.declared.change.Change.{Change}
use Rattle.pass_outside.specs.declared.change.Change.TheVariants.{Wrote, Cut, Synced}
use Rattle.pass_outside.specs.declared.change.Event.{Event}
use Rattle.pass_outside.specs.Areas.{Image, area_of, other, with_area, written, Torn, CutBack, OnArea}
use Rattle.pass_outside.specs.History.{Past, changed, leaves, next, after_all}

head_length : (old : List ℕ) (at : ℕ) (bytes : List ℕ) → length ((take at old ++ replicate (at - length old) 0) ++ bytes) ≡ at + length bytes
head_length old at bytes =
    omega (arith, length-append (take at old ++ replicate (at - length old) 0) bytes, length-append (take at old) (replicate (at - length old) 0), length-take at old, length-replicate {A = ℕ} (at - length old) 0)

-- a write that is done
pub torn_written : (old : List ℕ) (at : ℕ) (bytes : List ℕ) → Torn at (length bytes) old (written old at bytes)
torn_written old at bytes =
    let zeros = replicate (at - length old) 0 in
    let tail = drop (at + length bytes) old in
    let head = (take at old ++ zeros) ++ bytes in
    let long : length (head ++ tail) ≡ at + length bytes + (length old - (at + length bytes)) =
    omega (arith, length-append head tail, head_length old at bytes, length-drop (at + length bytes) old) in
    record {
      front = ap (take (min at (length old))) (append_assoc (take at old ++ zeros) bytes tail ∙ append_assoc (take at old) zeros (bytes ++ tail))
          ∙ take_at (take at old) (zeros ++ (bytes ++ tail)) (min at (length old)) (length-take at old);
      back = ap (take (length old - (at + length bytes))) (drop_at head tail (at + length bytes) (head_length old at bytes))
          ∙ take_rest old (at + length bytes);
      no_shorter = omega (arith, long);
      no_longer = omega (arith, long);
    }

-- one that isn't
pub torn_none : (old : List ℕ) (at n : ℕ) → Torn at n old old
torn_none old at n = record { front = take_min at old; back = take_rest old (at + n); no_shorter = omega arith; no_longer = omega arith }

-- other bytes in its range
pub torn_filled : (old : List ℕ) (at n byte : ℕ) → Torn at n old (written old at (replicate n byte))
torn_filled old at n byte = subst (λ (k : ℕ). Torn at k old (written old at (replicate n byte))) (length-replicate {A = ℕ} n byte) (torn_written old at (replicate n byte))

-- a cut that is done
pub cut_done : (old : List ℕ) (n : ℕ) → CutBack n old (take n old)
cut_done old n = record {
  front = take_all (min n (length old)) (take n old) (omega (arith, length-take n old));
  no_shorter = omega (arith, length-take n old);
  no_longer = omega (arith, length-take n old);
}

-- one that isn't
pub cut_none : (old : List ℕ) (n : ℕ) → CutBack n old old
cut_none old n = record { front = take_min n old; no_shorter = omega arith; no_longer = omega arith }

-- other bytes in what it takes away
pub cut_filled : (old : List ℕ) (n byte : ℕ) → CutBack n old (take n old ++ replicate (length old - n) byte)
cut_filled old n byte =
    let fill = replicate (length old - n) byte in
    let long : length (take n old ++ fill) ≡ min n (length old) + (length old - n) =
    omega (arith, length-append (take n old) fill, length-take n old, length-replicate {A = ℕ} (length old - n) byte) in
    record {
      front = take_at (take n old) fill (min n (length old)) (length-take n old);
      no_shorter = omega (arith, long);
      no_longer = omega (arith, long);
    }

pub area_with : (area : Area) (bytes : List ℕ) (i : Image) → area_of area (with_area area bytes i) ≡ bytes
area_with Log bytes i = refl
area_with Store bytes i = refl

pub other_with : (area : Area) (bytes : List ℕ) (i : Image) → area_of (other area) (with_area area bytes i) ≡ area_of (other area) i
other_with Log bytes i = refl
other_with Store bytes i = refl

pub with_same : (area : Area) (i : Image) → with_area area (area_of area i) i ≡ i
with_same Log i = refl
with_same Store i = refl

pub on_area : (area : Area) (step : List ℕ → List ℕ → Type 0) (bytes : List ℕ) (i : Image) → step (area_of area i) bytes → OnArea area step i (with_area area bytes i)
on_area area step bytes i h = record { here = subst (step (area_of area i)) (sym (area_with area bytes i)) h; elsewhere = other_with area bytes i }

-- what is read after a change is one of the images
reads_next : (p : Past) (e : Event) → p.may_leave p.seen → (next p e).may_leave (next p e).seen
reads_next p e may = by_change p e.area e.change may
  where
    by_change : (p : Past) (area : Area) (change : Change) → p.may_leave p.seen → leaves p area change (with_area area (changed change (area_of area p.seen)) p.seen)
    by_change p area (Wrote at bytes) may = (p.seen, may, on_area area (Torn at (length bytes.items)) (written (area_of area p.seen) at bytes.items) p.seen (torn_written (area_of area p.seen) at bytes.items))
    by_change p area (Cut n) may = (p.seen, may, on_area area (CutBack n) (take n (area_of area p.seen)) p.seen (cut_done (area_of area p.seen) n))
    by_change p area Synced may =
        (subst p.may_leave (sym (with_same area p.seen)) may, area_with area (area_of area p.seen) p.seen)

pub reads_all : (p : Past) (es : List Event) → p.may_leave p.seen → (after_all p es).may_leave (after_all p es).seen
reads_all p [] may = may
reads_all p (e ∷ es) may = reads_all (next p e) es (reads_next p e may)

-- this moment counts since each one before
pub counts_all : (p : Past) (es : List Event) → ((t : ℕ) (c : Image) → p.may_leave c → p.left_since t c) → (t : ℕ) (c : Image) → (after_all p es).may_leave c → (after_all p es).left_since t c
counts_all p [] h = h
counts_all p (e ∷ es) h = counts_all (next p e) es (λ t c now. inr now)

-- a moment since a call is one since each call before
pub more_all : (p : Past) (es : List Event) → ((t u : ℕ) (c : Image) → t ≤ u → p.left_since u c → p.left_since t c)
    → (t u : ℕ) (c : Image) → t ≤ u → (after_all p es).left_since u c → (after_all p es).left_since t c
more_all p [] h = h
more_all p (e ∷ es) h = more_all (next p e) es (λ t u c le left. ⊎_elim (λ before. inl (omega (arith, le, before.0), h t u c le before.1)) (λ now. inr now) left)

-- one change more
pub pushed : (p : Past) (es : List Event) (e : Event) → after_all p (es ++ e ∷ []) ≡ next (after_all p es) e
pushed p [] e = refl
pushed p (d ∷ es) e = pushed (next p d) es e
