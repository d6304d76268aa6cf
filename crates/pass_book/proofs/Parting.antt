-- Records as they go into parts.
use Rattle.std.proofs.Common.{◌≡◌, ℕ, ◌+◌, ◌<◌, ◌≤◌, List, [], ◌∷◌, ◌++◌, length, ap, sym, ◌∙◌, subst, ◌⊎◌, inl, inr, arith, append_assoc, length-append}
use Rattle.std.proofs.lemmas.List.{append-nil, take-append-le, take_all}
use Rattle.std.proofs.Math.Nat.{eq-or-lt_of_le}
use Rattle.std.proofs.lemmas.List.Elements.{All-push}
use Rattle.std.proofs.lemmas.List.Sums.{sum_by-append}
use Rattle.std.proofs.lemmas.Grind.{flat_map-append}
use Rattle.pass_entry.specs.Lengths.{record_length}
use Rattle.pass_entry.specs.declared.record.Record.{Record}
use Rattle.pass_book.specs.Records.{joined, byte_length, part_bytes, IsCrowded, IsPart}
use Rattle.pass_book.specs.Parting.{PartsState, IsParted, IsGrowing}

bytes_more : (p r : List Record) → byte_length (p ++ r) ≡ byte_length p + byte_length r
bytes_more p r = sum_by-append record_length p r

crowded_more : (ps : List (List Record)) (p r : List Record) → IsCrowded (ps ++ p ∷ []) → part_bytes < byte_length p + byte_length r → IsCrowded ((ps ++ p ∷ []) ++ r ∷ [])
crowded_more [] p r few lt = (lt, tt)
crowded_more (q ∷ []) p r few lt = (few.0, (lt, tt))
crowded_more (q ∷ s ∷ ps) p r few lt = (few.0, crowded_more (s ∷ ps) p r few.1 lt)

crowded_grown : (ps : List (List Record)) (p r : List Record) → IsCrowded (ps ++ p ∷ []) → IsCrowded (ps ++ (p ++ r) ∷ [])
crowded_grown [] p r few = tt
crowded_grown (q ∷ []) p r few = (let more = bytes_more p r in let lt = few.0 in (omega (arith, more, lt), tt))
crowded_grown (q ∷ s ∷ ps) p r few = (few.0, crowded_grown (s ∷ ps) p r few.1)

pub crowded_front : (ps : List (List Record)) (p : List Record) → IsCrowded (ps ++ p ∷ []) → IsCrowded ps
crowded_front [] p few = tt
crowded_front (q ∷ []) p few = tt
crowded_front (q ∷ s ∷ ps) p few = (few.0, crowded_front (s ∷ ps) p few.1)

pub part_within : (p : PartsState) (bytes : ℕ) → IsGrowing p bytes → byte_length p.part ≤ part_bytes
part_within p bytes g = (let here = g.is in let within = g.within in omega (arith, here, within))

-- the part that grows has room
pub growing_more : (p : PartsState) (bytes : ℕ) (r : List Record) (more : ℕ) → IsGrowing p bytes → more ≡ byte_length r → bytes + more ≤ part_bytes
    → IsGrowing (record { full = p.full; part = p.part ++ r }) (bytes + more)
growing_more p bytes r more g is room = record {
  each = g.each;
  crowded = crowded_grown p.full p.part r g.crowded;
  is = (let both = bytes_more p.part r in let here = g.is in omega (arith, both, here, is));
  within = room;
}

some_bytes : (p : List Record) → 0 < byte_length p → 0 < length p
some_bytes [] lt = lt
some_bytes (r ∷ rs) lt = omega arith

-- it has no room, and another one begins
pub growing_closed : (p : PartsState) (bytes : ℕ) (r : List Record) (more : ℕ) → IsGrowing p bytes → more ≡ byte_length r → part_bytes < bytes + more → more ≤ 4194304
    → IsGrowing (record { full = p.full ++ p.part ∷ []; part = r }) more
growing_closed p bytes r more g is full within =
    let here = g.is in
    let some : 0 < length p.part = some_bytes p.part (omega (arith, here, full, within)) in
    let most : byte_length p.part ≤ part_bytes = part_within p bytes g in
    record {
      each = All-push IsPart p.full p.part g.each (some, most);
      crowded = crowded_more p.full p.part r g.crowded (omega (arith, here, is, full));
      is = is;
      within = omega (arith, within);
    }

-- The lists that are in the parts

pub joined_more : (ps : List (List Record)) (p : List Record) → joined (ps ++ p ∷ []) ≡ joined ps ++ p
joined_more ps p = flat_map-append (λ p. p) ps (p ∷ []) ∙ ap (λ rs. joined ps ++ rs) (append-nil p)

pub parted_more : (lists : List (List Record)) (p : PartsState) (r : List Record) → IsParted lists p → IsParted (lists ++ r ∷ []) (record { full = p.full; part = p.part ++ r })
parted_more lists p r is = record {
  all = joined_more lists r ∙ ap (λ rs. rs ++ r) is.all ∙ append_assoc (joined p.full) p.part r;
  whole = λ k lt.
      let at = is.whole k lt in
      let longer = length-append lists (r ∷ []) in
      let le = at.1 in
      (at.0, omega (arith, longer, le), ap joined (take-append-le at.0 lists (r ∷ []) le) ∙ at.2);
}

pub parted_closed : (lists : List (List Record)) (p : PartsState) → IsParted lists p → IsParted lists (record { full = p.full ++ p.part ∷ []; part = [] })
parted_closed lists p is =
    let longer = length-append p.full (p.part ∷ []) in
    let all : joined lists ≡ joined (p.full ++ p.part ∷ []) = is.all ∙ sym (joined_more p.full p.part) in
    record {
      all = all ∙ sym (append-nil (joined (p.full ++ p.part ∷ [])));
      whole = λ k lt.
          elim (eq-or-lt_of_le lt) [
            | inl same ↦ (length lists, omega arith, ap joined (take_all (length lists) lists (omega arith)) ∙ all ∙ ap joined (sym (take_all k (p.full ++ p.part ∷ []) (omega (arith, same)))))
            | inr below ↦
                let le : k ≤ length p.full = omega (arith, longer, below) in
                let at = is.whole k le in
                (at.0, at.1, at.2 ∙ ap joined (sym (take-append-le k p.full (p.part ∷ []) le)))
          ];
    }

-- One more entry's records

-- where they have room
pub record GoesIn (p : PartsState) (old : ℕ) (r : List Record) (more : ℕ) (q : PartsState) (new : ℕ) : Type 0 where
  pub full : q.full ≡ p.full
  pub part : q.part ≡ p.part ++ r
  pub bytes : new ≡ old + more
  pub room : old + more ≤ part_bytes

-- where they don't
pub record GoesOn (p : PartsState) (old : ℕ) (r : List Record) (more : ℕ) (q : PartsState) (new : ℕ) : Type 0 where
  pub full : q.full ≡ p.full ++ p.part ∷ []
  pub part : q.part ≡ r
  pub bytes : new ≡ more
  pub full_up : part_bytes < old + more

abbrev pub IsGrown : PartsState → ℕ → List Record → ℕ → PartsState → ℕ → Type 0
IsGrown p old r more q new = GoesIn p old r more q new ⊎ GoesOn p old r more q new

pub grown_grows : (p : PartsState) (old : ℕ) (r : List Record) (more : ℕ) (q : PartsState) (new : ℕ) → IsGrowing p old → IsGrown p old r more q new → more ≡ byte_length r → more ≤ 4194304 → IsGrowing q new
grown_grows p old r more q new g (inl goes) is few =
    let P : List (List Record) → List Record → ℕ → Type 0 = λ full part bytes. IsGrowing (record { full = full; part = part }) bytes in
    subst (λ (n : ℕ). P q.full q.part n) (sym goes.bytes) (subst (λ (rs : List Record). P q.full rs (old + more)) (sym goes.part) (subst (λ (ls : List (List Record)). P ls (p.part ++ r) (old + more)) (sym goes.full) (growing_more p old r more g is goes.room)))
grown_grows p old r more q new g (inr goes) is few =
    let P : List (List Record) → List Record → ℕ → Type 0 = λ full part bytes. IsGrowing (record { full = full; part = part }) bytes in
    subst (λ (n : ℕ). P q.full q.part n) (sym goes.bytes) (subst (λ (rs : List Record). P q.full rs more) (sym goes.part) (subst (λ (ls : List (List Record)). P ls r more) (sym goes.full) (growing_closed p old r more g is goes.full_up few)))

pub grown_parted : (lists : List (List Record)) (p : PartsState) (old : ℕ) (r : List Record) (more : ℕ) (q : PartsState) (new : ℕ) → IsParted lists p → IsGrown p old r more q new → IsParted (lists ++ r ∷ []) q
grown_parted lists p old r more q new is (inl goes) =
    let P : List (List Record) → List Record → Type 0 = λ full part. IsParted (lists ++ r ∷ []) (record { full = full; part = part }) in
    subst (P q.full) (sym goes.part) (subst (λ (ls : List (List Record)). P ls (p.part ++ r)) (sym goes.full) (parted_more lists p r is))
grown_parted lists p old r more q new is (inr goes) =
    let P : List (List Record) → List Record → Type 0 = λ full part. IsParted (lists ++ r ∷ []) (record { full = full; part = part }) in
    subst (P q.full) (sym goes.part) (subst (λ (ls : List (List Record)). P ls r) (sym goes.full) (parted_more lists (record { full = p.full ++ p.part ∷ []; part = [] }) r (parted_closed lists p is)))
