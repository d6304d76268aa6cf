-- The objects of one kind that a well logged list makes.
use Rattle.std.proofs.Common.{◌≡◌, ◌∙◌, ◌==◌, ◌||◌, ◌&&◌, ◌+◌, ◌^◌, ◌<◌, ◌≤◌, ℕ, Bool, true, false, cond, List, [], ◌∷◌, ◌++◌, length, refl, sym, ap, arith, length-append, ⊎_elim}
use Rattle.std.specs.Prelude.{Option, Some, None, nat_le, nat_lt, slice_get, count_by, filter_map, if◌then◌else◌}
use Rattle.std.specs.List.{All, cons_option}
use Rattle.std.proofs.lemmas.List.Sums.{fold-append}
use Rattle.std.proofs.lemmas.List.Elements.{filter_map-append}
use Rattle.std.proofs.lemmas.Bool.Decides.{nat_tests}
use Rattle.std.proofs.lemmas.Option.{none-some}
use Rattle.std.proofs.lemmas.List.{append-nil}
use Rattle.pass_entry.specs.declared.objects.Kind.{Kind}
use Rattle.pass_entry.specs.declared.objects.Kind.TheVariants as kind
use Rattle.pass_entry.specs.declared.record.Record.{Record}
use Rattle.pass_entry.specs.declared.record.Record.TheVariants as log
use Rattle.pass_entry.specs.declared.record.FlawReason.TheVariants as flaw
use Rattle.pass_entry.specs.Ranges.{IsInRange}
use Rattle.pass_entry.proofs.Variants.{none_of}
use Rattle.pass_entry.proofs.Places.{slice_get-last}
use Rattle.pass_plain.specs.Registries.{same_kind, is_limited}
use Rattle.pass_plain.specs.WellLogged.{kind_of, ceiling_of, has_kind, is_known, flaw_if, flaw_of, IsWellLogged}
use Rattle.pass_plain.proofs.Appends.{place_of, slice_get-append}
use Rattle.pass_plain.proofs.Lists.{true_left, or_false, not_below, same_numbers, same_itself, some_is, at_most}
use Rattle.pass_plain.proofs.Flaws.{unflawed}
use Rattle.pass_range.specs.Rows.{files_of}
use Rattle.pass_recover.specs.Starts.{apps_of}
use Rattle.pass_recover.proofs.Listed.{kept_induction, ceiling-next, kind-next}

-- the object of this kind that a record makes
abbrev pub object_made : Kind → Record → Option ℕ
object_made k (log.Object pnode other) = if same_kind other k then Some pnode else None
object_made k _ = None

abbrev pub objects_in : Kind → List Record → List ℕ
objects_in k list = filter_map (object_made k) list

pub files_in : (list : List Record) → objects_in kind.File list ≡ files_of list
files_in [] = refl
files_in (log.Object pnode k ∷ list) = ap (cons_option (if same_kind k kind.File then Some pnode else None)) (files_in list)
files_in (r ∷ list) = files_in list

pub apps_in : (list : List Record) → objects_in kind.App list ≡ apps_of list
apps_in [] = refl
apps_in (log.Object pnode k ∷ list) = ap (cons_option (if same_kind k kind.App then Some pnode else None)) (apps_in list)
apps_in (r ∷ list) = apps_in list

pub same_kind_is : (a b : Kind) → same_kind a b ≡ true → a ≡ b
same_kind_is kind.Process kind.Process h = refl
same_kind_is kind.Process b h = absurd (cc)
same_kind_is kind.File kind.File h = refl
same_kind_is kind.File b h = absurd (cc)
same_kind_is kind.Pipe kind.Pipe h = refl
same_kind_is kind.Pipe b h = absurd (cc)
same_kind_is kind.App kind.App h = refl
same_kind_is kind.App b h = absurd (cc)

-- each is an object of this kind, from 1 to the ceiling; each object of this kind is there, once; and there are as many as
-- were made, at most 1,024 where the kind is limited
pub record AreMade (k : Kind) (list : List Record) : Type 0 where
  pub each : (i p : ℕ) → slice_get (objects_in k list) i ≡ Some p → (kind_of list p ≡ Some k) × (1 ≤ p) × (p ≤ ceiling_of list)
  pub there : (p : ℕ) → kind_of list p ≡ Some k → (i : ℕ) × (slice_get (objects_in k list) i ≡ Some p)
  pub single : (i j p : ℕ) → slice_get (objects_in k list) i ≡ Some p → slice_get (objects_in k list) j ≡ Some p → i ≡ j
  pub count : length (objects_in k list) ≡ count_by (has_kind k) list
  pub few : is_limited k ≡ true → length (objects_in k list) ≤ 1024

module _ (k : Kind) (list : List Record) (r : Record) where
  objects-next : objects_in k (list ++ r ∷ []) ≡ objects_in k list ++ filter_map (object_made k) (r ∷ [])
  objects-next = filter_map-append (object_made k) list (r ∷ [])

  count-next : count_by (has_kind k) (list ++ r ∷ []) ≡ count_by (has_kind k) list + cond (has_kind k r) 1 0
  count-next = fold-append (λ (n : ℕ) (x : Record). n + cond (has_kind k x) 1 0) 0 list (r ∷ [])

  -- a record that makes none, after which the kinds are the same and the ceiling no lower
  quiet : AreMade k list → filter_map (object_made k) (r ∷ []) ≡ [] → has_kind k r ≡ false → ((p : ℕ) → kind_of (list ++ r ∷ []) p ≡ kind_of list p) → ceiling_of list ≤ ceiling_of (list ++ r ∷ []) → AreMade k (list ++ r ∷ [])
  quiet was none other kinds rises =
      let same : objects_in k (list ++ r ∷ []) ≡ objects_in k list = objects-next ∙ ap (λ (l : List ℕ). objects_in k list ++ l) none ∙ append-nil (objects_in k list) in
      let counted : count_by (has_kind k) (list ++ r ∷ []) ≡ count_by (has_kind k) list + 0 = count-next ∙ ap (λ (t : Bool). count_by (has_kind k) list + cond t 1 0) other in
      record {
        each = λ i p at.
            let m = was.each i p (sym (ap (λ (l : List ℕ). slice_get l i) same) ∙ at) in
            (kinds p ∙ m.0, m.1, omega (arith, m.2, rises));
        there = λ p is. let m = was.there p (sym (kinds p) ∙ is) in (m.0, ap (λ (l : List ℕ). slice_get l m.0) same ∙ m.1);
        single = λ i j p one two. was.single i j p (sym (ap (λ (l : List ℕ). slice_get l i) same) ∙ one) (sym (ap (λ (l : List ℕ). slice_get l j) same) ∙ two);
        count = ap length same ∙ was.count ∙ sym (omega (arith, counted));
        few = λ limit. let z = was.few limit in let y = ap length same in omega (arith, z, y);
      }

-- a new object
made_next : (k : Kind) (list : List Record) (q : ℕ) (kd : Kind) → AreMade k list → flaw_of list (log.Object q kd) ≡ None → IsInRange (log.Object q kd) → AreMade k (list ++ log.Object q kd ∷ [])
made_next k list q kd was passes fits = by_kind (same_kind kd k) refl
  where
    tests : (is_known list q ≡ false) × (flaw_if (nat_lt (ceiling_of list) q) flaw.Ceiling (flaw_if (is_limited kd && nat_le 1024 (count_by (has_kind kd) list)) flaw.Many None) ≡ None)
    tests = unflawed (is_known list q) flaw.Known (flaw_if (nat_lt (ceiling_of list) q) flaw.Ceiling (flaw_if (is_limited kd && nat_le 1024 (count_by (has_kind kd) list)) flaw.Many None)) passes

    fresh : kind_of list q ≡ None
    fresh = none_of (kind_of list q) (unflawed (is_known list q) flaw.Known (flaw_if (nat_lt (ceiling_of list) q) flaw.Ceiling (flaw_if (is_limited kd && nat_le 1024 (count_by (has_kind kd) list)) flaw.Many None)) passes).0

    more : (nat_lt (ceiling_of list) q ≡ false) × (flaw_if (is_limited kd && nat_le 1024 (count_by (has_kind kd) list)) flaw.Many None ≡ None)
    more = unflawed (nat_lt (ceiling_of list) q) flaw.Ceiling (flaw_if (is_limited kd && nat_le 1024 (count_by (has_kind kd) list)) flaw.Many None)
        (unflawed (is_known list q) flaw.Known (flaw_if (nat_lt (ceiling_of list) q) flaw.Ceiling (flaw_if (is_limited kd && nat_le 1024 (count_by (has_kind kd) list)) flaw.Many None)) passes).1

    below : q ≤ ceiling_of list
    below = not_below (ceiling_of list) q more.0

    -- an object that was there isn't the new one
    apart : (p : ℕ) (kp : Kind) → kind_of list p ≡ Some kp → (q == p) ≡ false
    apart p kp is = by_test (q == p) refl
      where
        by_test : (t : Bool) → (q == p) ≡ t → t ≡ false
        by_test true same = absurd (none-some _ (sym fresh ∙ ap (kind_of list) (same_numbers q p same) ∙ is))
        by_test false other = refl

    kinds : (p : ℕ) → kind_of (list ++ log.Object q kd ∷ []) p ≡ (if q == p then Some kd else kind_of list p)
    kinds p = kind-next list (log.Object q kd) p

    ceiling : ceiling_of (list ++ log.Object q kd ∷ []) ≡ ceiling_of list
    ceiling = ceiling-next list (log.Object q kd)

    kept : (p : ℕ) (kp : Kind) → kind_of list p ≡ Some kp → kind_of (list ++ log.Object q kd ∷ []) p ≡ Some kp
    kept p kp is = kinds p ∙ ap (λ (t : Bool). if t then Some kd else kind_of list p) (apart p kp is) ∙ is

    by_kind : (t : Bool) → same_kind kd k ≡ t → AreMade k (list ++ log.Object q kd ∷ [])
    by_kind false other =
        let none : filter_map (object_made k) (log.Object q kd ∷ []) ≡ [] = ap (λ (t : Bool). cons_option (if t then Some q else None) []) other in
        let same : objects_in k (list ++ log.Object q kd ∷ []) ≡ objects_in k list = objects-next k list (log.Object q kd) ∙ ap (λ (l : List ℕ). objects_in k list ++ l) none ∙ append-nil (objects_in k list) in
        let counted : count_by (has_kind k) (list ++ log.Object q kd ∷ []) ≡ count_by (has_kind k) list + 0 = count-next k list (log.Object q kd) ∙ ap (λ (t : Bool). count_by (has_kind k) list + cond t 1 0) other in
        record {
          each = λ i p at. let m = was.each i p (sym (ap (λ (l : List ℕ). slice_get l i) same) ∙ at) in (kept p k m.0, m.1, omega (arith, m.2, ceiling));
          there = λ p is. by_new p (q == p) refl (sym (kinds p) ∙ is) same;
          single = λ i j p one two. was.single i j p (sym (ap (λ (l : List ℕ). slice_get l i) same) ∙ one) (sym (ap (λ (l : List ℕ). slice_get l j) same) ∙ two);
          count = ap length same ∙ was.count ∙ sym (omega (arith, counted));
          few = λ limit. let z = was.few limit in let y = ap length same in omega (arith, z, y);
        }
      where
        clash : true ≡ false → ⊥
        clash e = absurd (cc)

        by_new : (p : ℕ) (t : Bool) → (q == p) ≡ t → (if t then Some kd else kind_of list p) ≡ Some k → objects_in k (list ++ log.Object q kd ∷ []) ≡ objects_in k list
            → (i : ℕ) × (slice_get (objects_in k (list ++ log.Object q kd ∷ [])) i ≡ Some p)
        by_new p true same is lists = absurd (clash (sym (itself k) ∙ ap (λ (x : Kind). same_kind x k) (sym (some_is kd k is)) ∙ other))
          where
            itself : (x : Kind) → same_kind x x ≡ true
            itself kind.Process = refl
            itself kind.File = refl
            itself kind.Pipe = refl
            itself kind.App = refl
        by_new p false apart is lists = let m = was.there p is in (m.0, ap (λ (l : List ℕ). slice_get l m.0) lists ∙ m.1)
    by_kind true same =
        let is : kd ≡ k = same_kind_is kd k same in
        let one : filter_map (object_made k) (log.Object q kd ∷ []) ≡ q ∷ [] = ap (λ (t : Bool). cons_option (if t then Some q else None) []) same in
        let lists : objects_in k (list ++ log.Object q kd ∷ []) ≡ objects_in k list ++ q ∷ [] = objects-next k list (log.Object q kd) ∙ ap (λ (l : List ℕ). objects_in k list ++ l) one in
        let counted : count_by (has_kind k) (list ++ log.Object q kd ∷ []) ≡ count_by (has_kind k) list + 1 = count-next k list (log.Object q kd) ∙ ap (λ (t : Bool). count_by (has_kind k) list + cond t 1 0) same in
        let long : length (objects_in k (list ++ log.Object q kd ∷ [])) ≡ length (objects_in k list) + 1 = ap length lists ∙ length-append (objects_in k list) (q ∷ []) in
        record {
          each = λ i p at. ⊎_elim
              (λ (old : (slice_get (objects_in k list) i ≡ Some p) × (i < length (objects_in k list))). let m = was.each i p old.0 in (kept p k m.0, m.1, omega (arith, m.2, ceiling)))
              (λ (new : (i ≡ length (objects_in k list)) × (q ≡ p)). (
                kinds p ∙ ap (λ (t : Bool). if t then Some kd else kind_of list p) (ap (λ (x : ℕ). x == p) new.1 ∙ same_itself p) ∙ ap (λ (x : Kind). Some x) is,
                (let low : 1 ≤ q = at_most 1 q (true_left (nat_le 1 q) (nat_lt q (2 ^ 48)) fits) in omega (arith, low, new.1)),
                omega (arith, below, new.1, ceiling),
              ))
              (place_of (objects_in k list) q i p (sym (ap (λ (l : List ℕ). slice_get l i) lists) ∙ at));
          there = λ p found. by_same p (q == p) refl (sym (kinds p) ∙ found) lists;
          single = λ i j p first second. ⊎_elim
              (λ (a : (slice_get (objects_in k list) i ≡ Some p) × (i < length (objects_in k list))). ⊎_elim
              (λ (b : (slice_get (objects_in k list) j ≡ Some p) × (j < length (objects_in k list))). was.single i j p a.0 b.0)
              (λ (b : (j ≡ length (objects_in k list)) × (q ≡ p)). absurd (not_old p i a.0 b.1))
              (place_of (objects_in k list) q j p (sym (ap (λ (l : List ℕ). slice_get l j) lists) ∙ second)))
              (λ (a : (i ≡ length (objects_in k list)) × (q ≡ p)). ⊎_elim
              (λ (b : (slice_get (objects_in k list) j ≡ Some p) × (j < length (objects_in k list))). absurd (not_old p j b.0 a.1))
              (λ (b : (j ≡ length (objects_in k list)) × (q ≡ p)). a.0 ∙ sym b.0)
              (place_of (objects_in k list) q j p (sym (ap (λ (l : List ℕ). slice_get l j) lists) ∙ second)))
              (place_of (objects_in k list) q i p (sym (ap (λ (l : List ℕ). slice_get l i) lists) ∙ first));
          count = long ∙ ap (λ (n : ℕ). n + 1) was.count ∙ sym counted;
          few = λ limit. let z = room (ap is_limited is ∙ limit) in let y = ap (λ (x : Kind). count_by (has_kind x) list) is in omega (arith, z, y, long, was.count);
        }
      where
        not_old : (p i : ℕ) → slice_get (objects_in k list) i ≡ Some p → q ≡ p → ⊥
        not_old p i at here = none-some _ (sym fresh ∙ ap (kind_of list) here ∙ (was.each i p at).0)

        below_limit : (n : ℕ) → nat_le 1024 n ≡ false → n < 1024
        below_limit n h = grind (arith, nat_tests, h)

        room : is_limited kd ≡ true → count_by (has_kind kd) list < 1024
        room limit =
            below_limit (count_by (has_kind kd) list)
            (sym (ap (λ (t : Bool). t && nat_le 1024 (count_by (has_kind kd) list)) limit)
            ∙ (unflawed (is_limited kd && nat_le 1024 (count_by (has_kind kd) list)) flaw.Many None more.1).0)

        by_same : (p : ℕ) (t : Bool) → (q == p) ≡ t → (if t then Some kd else kind_of list p) ≡ Some k → objects_in k (list ++ log.Object q kd ∷ []) ≡ objects_in k list ++ q ∷ []
            → (i : ℕ) × (slice_get (objects_in k (list ++ log.Object q kd ∷ [])) i ≡ Some p)
        by_same p true same found lists =
            (length (objects_in k list), ap (λ (l : List ℕ). slice_get l (length (objects_in k list))) lists ∙ slice_get-last (objects_in k list) q ∙ ap (λ (x : ℕ). Some x) (same_numbers q p same))
        by_same p false apart found lists =
            let m = was.there p found in (m.0, ap (λ (l : List ℕ). slice_get l m.0) lists ∙ slice_get-append (objects_in k list) (q ∷ []) m.0 p m.1)

made_more : (k : Kind) (list : List Record) (r : Record) → AreMade k list → flaw_of list r ≡ None → IsInRange r → AreMade k (list ++ r ∷ [])
made_more k list (log.Object q kd) was passes fits = made_next k list q kd was passes fits
made_more k list (log.Ceiling c) was passes fits =
    quiet k list (log.Ceiling c) was refl refl (λ p. kind-next list (log.Ceiling c) p)
    (let low = (unflawed (nat_le c (ceiling_of list) || nat_lt (ceiling_of list + 8192) c) flaw.Ceiling None passes).0 in
    let first = (or_false (nat_le c (ceiling_of list)) (nat_lt (ceiling_of list + 8192) c) low).0 in
    rises c (ceiling_of list) (ceiling_of (list ++ log.Ceiling c ∷ [])) first (ceiling-next list (log.Ceiling c)))
  where
    rises : (c old new : ℕ) → nat_le c old ≡ false → new ≡ c → old ≤ new
    rises c old new h is = let z : old < c = grind (arith, nat_tests, h) in omega (arith, z, is)
made_more k list r was passes fits =
    quiet k list r was refl refl (λ p. kind-next list r p) (omega (arith, ceiling-next list r))

pub are_made : (k : Kind) (list : List Record) → IsWellLogged list → All IsInRange list → AreMade k list
are_made k list logged ranges = kept_induction (AreMade k)
    (record {
      each = λ i p at. absurd (cc);
      there = λ p is. absurd (none-some _ is);
      single = λ i j p one two. absurd (cc);
      count = refl;
      few = λ limit. omega arith;
    }) (made_more k) list logged ranges
