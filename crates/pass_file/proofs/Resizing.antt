-- Which blocks get another length, and what an act touches.
use Rattle.std.proofs.Common.{◌≡◌, ◌≢◌, ◌∙◌, ℕ, ◌+◌, ◌-◌, ◌*◌, ◌/◌, ◌%◌, ◌<◌, ◌≤◌, ◌⊎◌, ⊎_elim, ◌==◌, ◌&&◌, ◌||◌, not, Bool, true, false, min, max, List, [], ◌∷◌, ◌++◌, length, take, drop, replicate, refl, ap, sym, subst, arith}
use Rattle.std.specs.Prelude.{nat_lt, nat_le, Option, Some, None, IfSome}
use Rattle.std.proofs.lemmas.List.{length-append, length-take, length-drop, length-replicate}
use Rattle.std.proofs.lemmas.Bool.{le-leb, lt-ltb, le-ltb, lt-leb}
use Rattle.pass_entry.specs.declared.entry.Act.TheVariants as act
use Rattle.pass_entry.proofs.Lists.{same_numbers, true_left, true_right, not_true, below_is, below_or, or_true, or_none, and_none, and_true, alike, different}
use Rattle.pass_plain.specs.Files.{extended, written}
use Rattle.pass_plain.specs.Records.{range_len, touches}
use Rattle.pass_plain.specs.Recording.{is_resized}
use Rattle.pass_plain.proofs.Sizes.{length-resized}
use Rattle.pass_file.specs.BlockSets.{is_among, AreBelow}
use Rattle.pass_file.specs.Touches.{is_at, is_within, nothing_at, IsTouchOf}
use Rattle.pass_file.proofs.Members.{within_none}

pub same_len : (old new : ℕ) (had : Bool) (b : ℕ) → range_len old b ≡ range_len new b → is_resized old new had b ≡ false
same_len old new had b is = ap (λ t. (had && nat_lt (b * 4096) new) && not t) (alike (range_len old b) (range_len new b) is) ∙ and_none (had && nat_lt (b * 4096) new)

past_end : (old new : ℕ) (had : Bool) (b : ℕ) → new ≤ b * 4096 → is_resized old new had b ≡ false
past_end old new had b is = ap (λ t. (had && t) && not (range_len old b == range_len new b)) (le-ltb (b * 4096) new is) ∙ (λ i. and_none had i && not (range_len old b == range_len new b))

-- what a block has that gets another length
pub resized_is : (old new : ℕ) (had : Bool) (b : ℕ) → is_resized old new had b ≡ true → (b * 4096 < new) × (range_len old b ≢ range_len new b)
resized_is old new had b is =
    let front = true_left (had && nat_lt (b * 4096) new) (not (range_len old b == range_len new b)) is in
    let less = true_right had (nat_lt (b * 4096) new) front in
    let other = not_true (range_len old b == range_len new b) (true_right (had && nat_lt (b * 4096) new) (not (range_len old b == range_len new b)) is) in
    (below_is (b * 4096) new less, λ same. let t : true ≡ false = sym (alike (range_len old b) (range_len new b) same) ∙ other in absurd (cc))

module _ (old new : ℕ) (rows : List ℕ) (below : AreBelow rows old) where
  elsewhere : (e b : ℕ) → e ≡ min old new / 4096 → e ≢ b → is_resized old new (is_among rows b) b ≡ false
  elsewhere e b at apart =
      ⊎_elim (λ (less : b < e). same_len old new (is_among rows b) b (omega (arith, at, less)))
      (λ (rest : (e < b) ⊎ (b ≡ e)).
      let more : e < b = ⊎_elim (λ (m : e < b). m) (λ (m : b ≡ e). absurd (omega (arith, m, apart))) rest in
      by more (is_among rows b) refl)
      (below_or b e)
    where
      by : e < b → (had : Bool) → is_among rows b ≡ had → is_resized old new (is_among rows b) b ≡ false
      by more true is = let low = below b is in past_end old new (is_among rows b) b (omega (arith, at, more, low))
      by more false is = ap (λ h. is_resized old new h b) is

  abbrev has_edge : Bool
  has_edge = not (old == new) && not (min old new % 4096 == 0)

  at_edge : (e : ℕ) → e ≡ min old new / 4096 → is_among rows e ≡ true → has_edge ≡ true → is_resized old new (is_among rows e) e ≡ true
  at_edge e at had test =
      let other : old ≢ new = λ same. let t : true ≡ false = sym (alike old new same) ∙ not_true (old == new) (true_left (not (old == new)) (not (min old new % 4096 == 0)) test) in absurd (cc) in
      let odd : min old new % 4096 ≢ 0 =
      λ same. let t : true ≡ false = sym (alike (min old new % 4096) 0 same) ∙ not_true (min old new % 4096 == 0) (true_right (not (old == new)) (not (min old new % 4096 == 0)) test) in absurd (cc) in
      λ i. (had i && lt-ltb (e * 4096) new (omega (arith, at, odd)) i) && not (different (range_len old e) (range_len new e) (omega (arith, at, odd, other)) i)

  no_edge : (e : ℕ) → e ≡ min old new / 4096 → is_among rows e ≡ true → has_edge ≡ false → is_resized old new (is_among rows e) e ≡ false
  no_edge e at had test = by (old == new) (min old new % 4096 == 0) refl refl test
    where
      by : (s t : Bool) → (old == new) ≡ s → (min old new % 4096 == 0) ≡ t → (not (old == new) && not (min old new % 4096 == 0)) ≡ false → is_resized old new (is_among rows e) e ≡ false
      by true t same even test = same_len old new (is_among rows e) e (ap (λ n. range_len n e) (same_numbers old new same))
      by false true same even test =
          let low = below e had in
          let zero_is = same_numbers (min old new % 4096) 0 even in
          past_end old new (is_among rows e) e (omega (arith, at, low, zero_is))
      by false false same even test = let z : true ≡ false = (λ i. not (sym same i) && not (sym even i)) ∙ test in absurd (cc)

  -- where there is an edge, below the first block that is written
  pub edge_some : (e first b : ℕ) → e ≡ min old new / 4096 → ((is_among rows e && has_edge) && nat_lt e first) ≡ true → (e == b) ≡ (is_resized old new (is_among rows b) b && nat_lt b first)
  edge_some e first b at test = by (e == b) refl
    where
      by : (t : Bool) → (e == b) ≡ t → (e == b) ≡ (is_resized old new (is_among rows b) b && nat_lt b first)
      by true same =
          let front = true_left (is_among rows e && has_edge) (nat_lt e first) test in
          let low = true_right (is_among rows e && has_edge) (nat_lt e first) test in
          let is = at_edge e at (true_left (is_among rows e) has_edge front) (true_right (is_among rows e) has_edge front) in
          same ∙ subst (λ n. true ≡ (is_resized old new (is_among rows n) n && nat_lt n first)) (same_numbers e b same) (sym (λ i. is i && low i))
      by false other =
          other
          ∙ sym (ap (λ t. t && nat_lt b first) (elsewhere e b at (λ same. let t : true ≡ false = sym (alike e b same) ∙ other in absurd (cc))))

  pub edge_none : (e first b : ℕ) → e ≡ min old new / 4096 → ((is_among rows e && has_edge) && nat_lt e first) ≡ false → false ≡ (is_resized old new (is_among rows b) b && nat_lt b first)
  edge_none e first b at test = by (e == b) refl
    where
      here : (had some low : Bool) → is_among rows e ≡ had → has_edge ≡ some → nat_lt e first ≡ low → ((is_among rows e && has_edge) && nat_lt e first) ≡ false → false ≡ (is_resized old new (is_among rows e) e && nat_lt e first)
      here false some low had test_is low_is test = sym (ap (λ h. is_resized old new h e && nat_lt e first) had)
      here true false low had test_is low_is test = sym (ap (λ t. t && nat_lt e first) (no_edge e at had test_is))
      here true true false had test_is low_is test = sym (ap (λ t. is_resized old new (is_among rows e) e && t) low_is ∙ and_none (is_resized old new (is_among rows e) e))
      here true true true had test_is low_is test = let z : true ≡ false = (λ i. (sym had i && sym test_is i) && sym low_is i) ∙ test in absurd (cc)

      by : (t : Bool) → (e == b) ≡ t → false ≡ (is_resized old new (is_among rows b) b && nat_lt b first)
      by true same = subst (λ n. false ≡ (is_resized old new (is_among rows n) n && nat_lt n first)) (same_numbers e b same) (here (is_among rows e) has_edge (nat_lt e first) refl refl refl test)
      by false other = sym (ap (λ t. t && nat_lt b first) (elsewhere e b at (λ same. let t : true ≡ false = sym (alike e b same) ∙ other in absurd (cc))))

-- Sizes

length_written : (content : List ℕ) (at : ℕ) (bytes : List ℕ) → 0 < length bytes → length (written content at bytes) ≡ max (length content) (at + length bytes)
length_written content at [] some = absurd (omega (arith, some))
length_written content at (b ∷ bytes) some =
    let front = length-take at (extended content at) in
    let wide = length-append content (replicate (at - length content) 0) in
    let zeros : length (replicate {A = ℕ} (at - length content) 0) ≡ at - length content = length-replicate (at - length content) 0 in
    let tail = length-drop (at + length (b ∷ bytes)) content in
    let all : length (written content at (b ∷ bytes)) ≡ length (take at (extended content at) ++ (b ∷ bytes)) + length (drop (at + length (b ∷ bytes)) content) =
    length-append (take at (extended content at) ++ (b ∷ bytes)) (drop (at + length (b ∷ bytes)) content) in
    let rest = length-append (take at (extended content at)) (b ∷ bytes) in
    omega (arith, front, wide, zeros, tail, all, rest)

pub empty_list : (xs : List ℕ) → (length xs == 0) ≡ true → xs ≡ []
empty_list [] is = refl
empty_list (x ∷ xs) is = let none = same_numbers (length (x ∷ xs)) 0 is in absurd (omega (arith, none))

-- What an act touches

module _ (content rows : List ℕ) (below : AreBelow rows (length content)) where
  -- nothing, where nothing is written
  pub touch_nothing : (out at : ℕ) → length content ≤ 4194304 → IsTouchOf content rows (act.Put out at []) (nothing_at (length content))
  touch_nothing out at small = record {
    sized = refl;
    limit = small;
    written = λ b. sym (within_none 1024 b);
    digested = λ b. ap (λ t. false || t) (same_len (length content) (length content) (is_among rows b) b refl) ∙ sym (ap (λ t. false || t) (within_none 1024 b));
    inside = λ b is. let z : false ≡ true = sym (within_none 1024 b) ∙ is in absurd (cc);
    few = omega arith;
    order = omega arith;
    most = omega arith;
    ordered = tt;
    still = λ none. (refl, refl);
  }

  pub touch_cut : (out size : ℕ) (edge : Option ℕ) → length content ≤ 4194304 → size ≤ 4194304
      → ((b : ℕ) → is_at edge b ≡ (is_resized (length content) size (is_among rows b) b && nat_lt b 1024)) → IfSome edge (λ e. e < 1024)
      → IsTouchOf content rows (act.Cut out size) (record { edge = edge; first = 1024; end = 1024; size = size })
  touch_cut out size edge small limit law ordered = record {
    sized = sym (length-resized content size);
    limit = limit;
    written = λ b. sym (within_none 1024 b);
    digested = λ b. digested b (is_resized (length content) size (is_among rows b) b) refl;
    inside = λ b is. (resized_is (length content) size (is_among rows b) b (digested b (is_resized (length content) size (is_among rows b) b) refl ∙ is)).0;
    few = omega arith;
    order = omega arith;
    most = omega arith;
    ordered = ordered;
    still = λ none. (gone edge none law, refl);
  }
    where
      digested : (b : ℕ) (r : Bool) → is_resized (length content) size (is_among rows b) b ≡ r → is_resized (length content) size (is_among rows b) b ≡ (is_at edge b || is_within 1024 1024 b)
      digested b true is =
          let low = (resized_is (length content) size (is_among rows b) b is).0 in
          sym (ap (λ t. is_at edge b || t) (within_none 1024 b) ∙ or_none (is_at edge b) ∙ law b
          ∙ ap (λ t. is_resized (length content) size (is_among rows b) b && t) (lt-ltb b 1024 (omega (arith, low, limit))) ∙ and_true (is_resized (length content) size (is_among rows b) b))
      digested b false is =
          sym (ap (λ t. is_at edge b || t) (within_none 1024 b) ∙ or_none (is_at edge b) ∙ law b ∙ ap (λ t. t && nat_lt b 1024) is ∙ sym is)

      gone : (edge : Option ℕ) → size ≡ 0 → ((b : ℕ) → is_at edge b ≡ (is_resized (length content) size (is_among rows b) b && nat_lt b 1024)) → edge ≡ None
      gone None none law = refl
      gone (Some e) none law =
          let is = true_left (is_resized (length content) size (is_among rows e) e) (nat_lt e 1024) (sym (law e) ∙ alike e e refl) in
          let low = (resized_is (length content) size (is_among rows e) e is).0 in
          absurd (omega (arith, low, none))

  module _ (out at : ℕ) (bytes : List ℕ) (some : 0 < length bytes) (few : length bytes ≤ 4096) (small : length content ≤ 4194304) (limit : at + length bytes ≤ 4194304)
      (edge : Option ℕ) (first end_ size : ℕ) (first_is : first ≡ at / 4096) (end_is : end_ ≡ (at + length bytes - 1) / 4096 + 1) (size_is : size ≡ max (length content) (at + length bytes))
      (law : (b : ℕ) → is_at edge b ≡ (is_resized (length content) size (is_among rows b) b && nat_lt b first)) (ordered : IfSome edge (λ e. e < first)) where
    writes : (b : ℕ) → touches at (length bytes) b ≡ is_within first end_ b
    writes b =
        ⊎_elim
        (λ (less : b < first).
        ap (λ t. (nat_lt 0 (length bytes) && nat_lt (b * 4096) (at + length bytes)) && t) (le-ltb at ((b + 1) * 4096) (omega (arith, less, first_is)))
        ∙ and_none (nat_lt 0 (length bytes) && nat_lt (b * 4096) (at + length bytes)) ∙ sym (ap (λ t. t && nat_lt b end_) (lt-leb first b less)))
        (λ (rest : (first < b) ⊎ (b ≡ first)).
        let more : first ≤ b = ⊎_elim (λ (m : first < b). omega (arith, m)) (λ (m : b ≡ first). omega (arith, m)) rest in
        ⊎_elim
        (λ (within : b < end_).
        (λ i. (lt-ltb 0 (length bytes) some i && lt-ltb (b * 4096) (at + length bytes) (omega (arith, within, end_is, some)) i) && lt-ltb at ((b + 1) * 4096) (omega (arith, more, first_is)) i)
        ∙ sym (λ i. le-leb first b more i && lt-ltb b end_ within i))
        (λ (out_of : (end_ < b) ⊎ (b ≡ end_)).
        let past : end_ ≤ b = ⊎_elim (λ (m : end_ < b). omega (arith, m)) (λ (m : b ≡ end_). omega (arith, m)) out_of in
        (λ i. (nat_lt 0 (length bytes) && le-ltb (b * 4096) (at + length bytes) (omega (arith, past, end_is, some)) i) && nat_lt at ((b + 1) * 4096))
        ∙ (λ i. and_none (nat_lt 0 (length bytes)) i && nat_lt at ((b + 1) * 4096))
        ∙ sym (ap (λ t. nat_le first b && t) (le-ltb b end_ past) ∙ and_none (nat_le first b)))
        (below_or b end_))
        (below_or b first)

    inside_written : (b : ℕ) → is_within first end_ b ≡ true → b * 4096 < size
    inside_written b is =
        let low = true_right (nat_le first b) (nat_lt b end_) is in
        let less = below_is b end_ low in
        omega (arith, less, end_is, size_is, some)

    digested : (b : ℕ) (w r : Bool) → is_within first end_ b ≡ w → is_resized (length content) size (is_among rows b) b ≡ r
        → (touches at (length bytes) b || is_resized (length content) size (is_among rows b) b) ≡ (is_at edge b || is_within first end_ b)
    digested b true r w is = ap (λ t. t || is_resized (length content) size (is_among rows b) b) (writes b ∙ w) ∙ sym (ap (λ t. is_at edge b || t) w ∙ or_true (is_at edge b))
    digested b false false w is =
        (λ i. (writes b ∙ w) i || is i) ∙ sym (ap (λ t. is_at edge b || t) w ∙ or_none (is_at edge b) ∙ law b ∙ ap (λ t. t && nat_lt b first) is)
    digested b false true w is =
        let r = resized_is (length content) size (is_among rows b) b is in
        let low = r.0 in
        let other = r.1 in
        let before : b < first =
        ⊎_elim (λ (m : b < first). m)
        (λ (rest : (first < b) ⊎ (b ≡ first)).
        let more : first ≤ b = ⊎_elim (λ (m : first < b). omega (arith, m)) (λ (m : b ≡ first). omega (arith, m)) rest in
        let less : b < end_ = omega (arith, low, other, end_is, size_is, some) in
        let z : true ≡ false = sym (λ i. le-leb first b more i && lt-ltb b end_ less i) ∙ w in absurd (cc))
        (below_or b first) in
        (λ i. (writes b ∙ w) i || is i)
        ∙ sym (ap (λ t. is_at edge b || t) w ∙ or_none (is_at edge b) ∙ law b ∙ (λ i. is i && lt-ltb b first before i))

    inside : (b : ℕ) (w : Bool) → is_within first end_ b ≡ w → (is_at edge b || is_within first end_ b) ≡ true → b * 4096 < size
    inside b true w is = inside_written b w
    inside b false w is =
        let at_it = sym (law b) ∙ sym (or_none (is_at edge b)) ∙ ap (λ t. is_at edge b || t) (sym w) ∙ is in
        (resized_is (length content) size (is_among rows b) b (true_left (is_resized (length content) size (is_among rows b) b) (nat_lt b first) at_it)).0

    pub touch_write : IsTouchOf content rows (act.Put out at bytes) (record { edge = edge; first = first; end = end_; size = size })
    touch_write = record {
      sized = size_is ∙ sym (length_written content at bytes some);
      limit = omega (arith, size_is, small, limit);
      written = writes;
      digested = λ b. digested b (is_within first end_ b) (is_resized (length content) size (is_among rows b) b) refl refl;
      inside = λ b is. inside b (is_within first end_ b) refl is;
      few = omega (arith, first_is, end_is, few);
      order = omega (arith, first_is, end_is, some);
      most = omega (arith, end_is, limit, some);
      ordered = ordered;
      still = λ none. absurd (omega (arith, none, some));
    }
