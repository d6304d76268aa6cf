-- What a change makes of the rows and of the dirty blocks, as flags.
use Rattle.std.proofs.Common.{◌≡◌, ◌∙◌, ℕ, zero, suc, ◌+◌, ◌*◌, ◌<◌, ◌≤◌, ◌==◌, ◌&&◌, ◌||◌, Bool, true, false, List, [], ◌∷◌, ◌++◌, length, get_or, refl, ap, sym, arith, subst, append_assoc}
use Rattle.std.specs.Prelude.{nat_lt, nat_le, Option, Some, None, IfSome, if◌then◌else◌}
use Rattle.std.proofs.lemmas.List.FromFn.{fill_by_all, length-map-range_with_len, get_or-map-range_with_len}
use Rattle.std.proofs.lemmas.Bool.{le-leb, lt-ltb, lt-leb}
use Rattle.pass_entry.specs.declared.entry.Act.{Act}
use Rattle.pass_entry.specs.declared.entry.Act.TheVariants as act
use Rattle.pass_entry.specs.declared.record.Record.{Record}
use Rattle.pass_entry.specs.declared.record.Record.TheVariants as log
use Rattle.pass_entry.proofs.Lists.{any_at, true_right, same_numbers, below_is, not_below, or_true, and_none, and_true}
use Rattle.pass_plain.specs.Files.{file_act}
use Rattle.pass_plain.specs.Records.{row_act, is_written}
use Rattle.pass_plain.specs.Recording.{block_count, flags, is_change, is_digested_by, digests_by, content_by}
use Rattle.pass_plain.proofs.Digests.{flag_at}
use Rattle.pass_plain.specs.Sound.{IsSoundFile}
use Rattle.pass_plain.specs.declared.start.StartFile.{StartFile}
use Rattle.pass_plain.proofs.Sizes.{no_shorter, length-resized}
use Rattle.pass_range.specs.Rows.{range}
use Rattle.pass_clean.specs.Blocks.{AreListed}
use Rattle.pass_file.specs.declared.touched.Touched.{Touched}
use Rattle.pass_file.specs.BlockSets.{BlockSetView, is_among, IsRising, AreBelow}
use Rattle.pass_table.specs.Tables.{BlocksView}
use Rattle.pass_file.specs.FileViews.{AreSet, IsFileState, dirty_by, end_of}
use Rattle.pass_file.specs.Touches.{is_at, is_within, is_touched, nothing_at, IsTouchOf, digests_at}
use Rattle.pass_file.proofs.Members.{within_none}
use Rattle.pass_file.proofs.Resizing.{touch_nothing}
use Rattle.pass_file.proofs.Ranges.{digests_touched}

-- Flags

pub flags_agree : (f g : ℕ → Bool) (n : ℕ) → ((b : ℕ) → b < n → f b ≡ g b) → flags f n ≡ flags g n
flags_agree f g n same =
    fill_by_all g (flags f n) n false (length-map-range_with_len f 0 n)
    (λ k below. get_or-map-range_with_len f 0 n k k false below (let z : 0 + k ≡ k = omega arith in z) ∙ same k below)

pub flag_is : (f had : ℕ → Bool) (n b : ℕ) → flags f n ≡ flags had n → b < n → f b ≡ had b
flag_is f had n b is low = sym (get_or-map-range_with_len f 0 n b b false low (let z : 0 + b ≡ b = omega arith in z)) ∙ flag_at had (flags f n) n b false is low

pub set_of : (blocks : List ℕ) (size : ℕ) → IsRising blocks → AreBelow blocks size → size ≤ 4194304 → AreSet (flags (is_among blocks) block_count) blocks
unfolding block_count
set_of blocks size rising below small = record { rising = rising; are = λ b. by 1024 b (omega arith) }
  where
    by : (n b : ℕ) → n ≡ 1024 → is_among blocks b ≡ get_or (flags (is_among blocks) n) b false
    by n b is = here n b is (nat_lt b n) refl
      where
        past : (n b : ℕ) → n ≤ b → get_or (flags (is_among blocks) n) b false ≡ false
        past n b le = none (flags (is_among blocks) n) b (let l = length-map-range_with_len (is_among blocks) 0 n in omega (arith, l, le))
          where
            none : (xs : List Bool) (k : ℕ) → length xs ≤ k → get_or xs k false ≡ false
            none [] k le = refl
            none (x ∷ xs) zero le = absurd (omega (arith, le))
            none (x ∷ xs) (suc k) le = none xs k (omega (arith, le))

        not_among : (b n : ℕ) (t : Bool) → n ≡ 1024 → n ≤ b → is_among blocks b ≡ t → is_among blocks b ≡ false
        not_among b n true is le among = let low = below b among in absurd (omega (arith, low, small, le, is))
        not_among b n false is le among = among

        here : (n b : ℕ) → n ≡ 1024 → (t : Bool) → nat_lt b n ≡ t → is_among blocks b ≡ get_or (flags (is_among blocks) n) b false
        here n b is true t = sym (get_or-map-range_with_len (is_among blocks) 0 n b b false (below_is b n t) (let z : 0 + b ≡ b = omega arith in z))
        here n b is false t =
            let le = not_below b n t in
            not_among b n (is_among blocks b) is le refl ∙ sym (past n b le)

-- Rows

row_now : (had w l : Bool) → (had ≡ true → l ≡ true) → (w || (had && l)) ≡ (had || w)
row_now true true l kept = refl
row_now true false l kept = kept refl
row_now false true l kept = refl
row_now false false l kept = refl

module _ (content rows : List ℕ) (a : Act) (t : Touched) (below : AreBelow rows (length content)) (is : IsTouchOf content rows a t) (change : is_change a ≡ true) where
  abbrev low : ℕ → Bool
  low b = nat_lt (b * 4096) t.size

  written_longer : (b : ℕ) → (c : Act) → c ≡ a → is_change c ≡ true → (is_within t.first t.end b || (is_among rows b && low b)) ≡ row_act b (is_among rows b) c
  written_longer b (act.Put out at bytes) same ch =
      row_now (is_among rows b) (is_within t.first t.end b) (low b)
      (λ among.
      let less = below b among in
      let size = is.sized ∙ ap (λ c. length (file_act content c)) (sym same) in
      let grows = no_shorter content at bytes in
      lt-ltb (b * 4096) t.size (omega (arith, less, size, grows)))
      ∙ ap (λ w. is_among rows b || w) (sym (is.written b) ∙ ap (λ c. is_written c b) (sym same))
  written_longer b (act.Cut out size) same ch =
      ap (λ w. w || (is_among rows b && low b)) (sym (is.written b) ∙ ap (λ c. is_written c b) (sym same))
      ∙ ap (λ n. is_among rows b && nat_lt (b * 4096) n) (is.sized ∙ ap (λ c. length (file_act content c)) (sym same) ∙ length-resized content size)
  written_longer b _ same ch = absurd (cc)

  pub row_turned : (had : ℕ → Bool) (new : List ℕ) → flags (is_among rows) block_count ≡ flags had block_count
      → ((b : ℕ) → is_among new b ≡ (is_within t.first t.end b || (is_among rows b && low b))) → flags (is_among new) block_count ≡ flags (λ b. row_act b (had b) a) block_count
  row_turned had new had_is now =
      flags_agree (is_among new) (λ b. row_act b (had b) a) block_count
      (λ b within. now b ∙ written_longer b a refl change ∙ ap (λ h. row_act b h a) (flag_is (is_among rows) had block_count b had_is within))

  dirty_at : (b : ℕ) (had was : Bool) → is_digested_by (length content) t.size had a b ≡ is_touched t b → (is_touched t b || (was && low b)) ≡ dirty_by (length content) t.size had a b was
  unfolding dirty_by
  dirty_at b had was digested = by (is_touched t b) (low b) was refl refl ∙ sym (ap (λ d. if d then true else if is_change a && nat_le t.size (b * 4096) then false else was) digested)
    where
      by : (d l w : Bool) → is_touched t b ≡ d → low b ≡ l → (is_touched t b || (w && low b)) ≡ (if is_touched t b then true else if is_change a && nat_le t.size (b * 4096) then false else w)
      by true l w d_is l_is = (λ i. d_is i || (w && low b)) ∙ sym (ap (λ d. if d then true else if is_change a && nat_le t.size (b * 4096) then false else w) d_is)
      by false true w d_is l_is =
          let less : nat_le t.size (b * 4096) ≡ false = lt-leb t.size (b * 4096) (let z : b * 4096 < t.size = below_is (b * 4096) t.size l_is in z) in
          (λ i. d_is i || (w && l_is i)) ∙ and_true w ∙ sym (λ i. if d_is i then true else if change i && less i then false else w)
      by false false w d_is l_is =
          let more : nat_le t.size (b * 4096) ≡ true = le-leb t.size (b * 4096) (not_below (b * 4096) t.size l_is) in
          (λ i. d_is i || (w && l_is i)) ∙ and_none w ∙ sym (λ i. if d_is i then true else if change i && more i then false else w)

  pub dirty_turned : (had was : ℕ → Bool) (dirty new : List ℕ) → flags (is_among rows) block_count ≡ flags had block_count → flags (is_among dirty) block_count ≡ flags was block_count
      → ((b : ℕ) → is_among new b ≡ (is_touched t b || (is_among dirty b && low b)))
      → flags (is_among new) block_count ≡ flags (λ b. dirty_by (length content) (length (file_act content a)) (had b) a b (was b)) block_count
  dirty_turned had was dirty new had_is was_is now =
      flags_agree (is_among new) (λ b. dirty_by (length content) (length (file_act content a)) (had b) a b (was b)) block_count
      (λ b within.
      now b ∙ ap (λ w. is_touched t b || (w && low b)) (flag_is (is_among dirty) was block_count b was_is within)
      ∙ dirty_at b (had b) (was b) (ap (λ h. is_digested_by (length content) t.size h a b) (sym (flag_is (is_among rows) had block_count b had_is within)) ∙ is.digested b)
      ∙ ap (λ n. dirty_by (length content) n (had b) a b (was b)) is.sized)

  pub rows_below : (new : List ℕ) (size : ℕ) → size ≡ length (file_act content a) → ((b : ℕ) → is_among new b ≡ (is_within t.first t.end b || (is_among rows b && low b))) → AreBelow new size
  rows_below new size size_is now b among = by (is_within t.first t.end b) refl
    where
      sized : t.size ≡ size
      sized = is.sized ∙ sym size_is

      by : (w : Bool) → is_within t.first t.end b ≡ w → b * 4096 < size
      by true w = let z = is.inside b (ap (λ d. is_at t.edge b || d) w ∙ or_true (is_at t.edge b)) in omega (arith, z, sized)
      by false w =
          let both = ap (λ d. d || (is_among rows b && low b)) (sym w) ∙ sym (now b) ∙ among in
          let z = below_is (b * 4096) t.size (true_right (is_among rows b) (low b) both) in omega (arith, z, sized)

  pub dirty_below : (dirty new : List ℕ) (size : ℕ) → size ≡ length (file_act content a) → ((b : ℕ) → is_among new b ≡ (is_touched t b || (is_among dirty b && low b))) → AreBelow new size
  dirty_below dirty new size size_is now b among = by (is_touched t b) refl
    where
      sized : t.size ≡ size
      sized = is.sized ∙ sym size_is

      by : (w : Bool) → is_touched t b ≡ w → b * 4096 < size
      by true w = let z = is.inside b w in omega (arith, z, sized)
      by false w =
          let both = ap (λ d. d || (is_among dirty b && low b)) (sym w) ∙ sym (now b) ∙ among in
          let z = below_is (b * 4096) t.size (true_right (is_among dirty b) (low b) both) in omega (arith, z, sized)

  pub state_after : (bytes : BlocksView) (new_rows new_dirty : BlockSetView) (dirty : List ℕ) → bytes.bytes ≡ file_act content a
      → ((b : ℕ) → is_among new_rows.blocks b ≡ (is_within t.first t.end b || (is_among rows b && low b)))
      → ((b : ℕ) → is_among new_dirty.blocks b ≡ (is_touched t b || (is_among dirty b && low b)))
      → IsFileState bytes new_rows new_dirty 0
  state_after bytes new_rows new_dirty dirty new rows_now dirty_now =
      let size = ap length new in
      let sized = is.sized in
      let limit = is.limit in
      record {
        covered = omega arith;
        limit = omega arith;
        small = omega (arith, size, sized, limit);
        places = λ some. absurd (omega (arith, some));
        rows_below = rows_below new_rows.blocks (length bytes.bytes) size rows_now;
        dirty_below = dirty_below dirty new_dirty.blocks (length bytes.bytes) size dirty_now;
      }

  pub digests_recorded : (file : ℕ) (had : ℕ → Bool) → flags (is_among rows) block_count ≡ flags had block_count
      → digests_at file (file_act content a) t ≡ digests_by file (length content) (file_act content a) had a block_count
  unfolding block_count
  digests_recorded file had had_is =
      sym
      (digests_touched file (length content) (file_act content a) had a block_count t
      (λ b within.
      ap (λ n. is_digested_by (length content) n (had b) a b) (sym is.sized)
      ∙ ap (λ h. is_digested_by (length content) t.size h a b) (sym (flag_is (is_among rows) had block_count b had_is within)) ∙ is.digested b)
      is.order is.most is.ordered)

  pub list_recorded : (file own : ℕ) (old : List Record) (new : List ℕ) (had : ℕ → Bool) → file ≡ own → new ≡ file_act content a → flags (is_among rows) block_count ≡ flags had block_count
      → (old ++ log.Size file t.size ∷ []) ++ digests_at file new t ≡ old ++ content_by own content had a block_count
  list_recorded file own old new had file_is new_is had_is =
      append_assoc old (log.Size file t.size ∷ []) (digests_at file new t)
      ∙ (λ k. old ++ log.Size (file_is k) (is.sized k) ∷ digests_at (file_is k) (new_is k) t)
      ∙ ap (λ xs. old ++ log.Size own (length (file_act content a)) ∷ xs) (digests_recorded own had had_is)

-- Where nothing is written, nothing turns

kept_below : (xs : List ℕ) (size b : ℕ) → AreBelow xs size → is_among xs b ≡ (is_among xs b && nat_lt (b * 4096) size)
kept_below xs size b below = by (is_among xs b) refl
  where
    by : (t : Bool) → is_among xs b ≡ t → is_among xs b ≡ (is_among xs b && nat_lt (b * 4096) size)
    by true is = is ∙ sym (λ i. is i && lt-ltb (b * 4096) size (below b is) i)
    by false is = is ∙ sym (ap (λ t. t && nat_lt (b * 4096) size) is)

module _ (content rows : List ℕ) (out at : ℕ) (bytes : List ℕ) (none : bytes ≡ []) (small : length content ≤ 4194304) (below : AreBelow rows (length content)) where
  still_rows : (had : ℕ → Bool) → flags (is_among rows) block_count ≡ flags had block_count → flags (is_among rows) block_count ≡ flags (λ b. row_act b (had b) (act.Put out at [])) block_count
  still_rows had had_is =
      row_turned content rows (act.Put out at []) (nothing_at (length content)) below (touch_nothing content rows below out at small) refl had rows had_is
      (λ b. kept_below rows (length content) b below ∙ sym (ap (λ w. w || (is_among rows b && nat_lt (b * 4096) (length content))) (within_none 1024 b)))

  pub rows_still : (had : ℕ → Bool) → flags (is_among rows) block_count ≡ flags had block_count → flags (is_among rows) block_count ≡ flags (λ b. row_act b (had b) (act.Put out at bytes)) block_count
  rows_still had had_is =
      subst (λ (bs : List ℕ). flags (is_among rows) block_count ≡ flags (λ b. row_act b (had b) (act.Put out at bs)) block_count) (sym none) (still_rows had had_is)

  still_dirty : (had was : ℕ → Bool) (dirty : List ℕ) → AreBelow dirty (length content) → flags (is_among rows) block_count ≡ flags had block_count → flags (is_among dirty) block_count ≡ flags was block_count
      → flags (is_among dirty) block_count ≡ flags (λ b. dirty_by (length content) (length content) (had b) (act.Put out at []) b (was b)) block_count
  still_dirty had was dirty dirty_is_below had_is was_is =
      dirty_turned content rows (act.Put out at []) (nothing_at (length content)) below (touch_nothing content rows below out at small) refl had was dirty dirty had_is was_is
      (λ b. kept_below dirty (length content) b dirty_is_below ∙ sym (ap (λ w. w || (is_among dirty b && nat_lt (b * 4096) (length content))) (within_none 1024 b)))

  pub dirty_still : (had was : ℕ → Bool) (dirty : List ℕ) → AreBelow dirty (length content) → flags (is_among rows) block_count ≡ flags had block_count → flags (is_among dirty) block_count ≡ flags was block_count
      → flags (is_among dirty) block_count ≡ flags (λ b. dirty_by (length content) (length content) (had b) (act.Put out at bytes) b (was b)) block_count
  dirty_still had was dirty dirty_is_below had_is was_is =
      subst (λ (bs : List ℕ). flags (is_among dirty) block_count ≡ flags (λ b. dirty_by (length content) (length content) (had b) (act.Put out at bs) b (was b)) block_count) (sym none)
      (still_dirty had was dirty dirty_is_below had_is was_is)

-- There is room for what is touched
module _ (content rows : List ℕ) (a : Act) (t : Touched) (is : IsTouchOf content rows a t) (room mine its : ℕ) (reach : end_of a ≤ room) (places : 0 < room → (2 ≤ mine) × (3 ≤ its)) where
  by_room : (P : Type 0) → (0 < room → P) → (end_of a ≡ 0 → P) → P
  by_room P some none = here (nat_lt 0 room) refl
    where
      here : (b : Bool) → nat_lt 0 room ≡ b → P
      here true b = some (below_is 0 room b)
      here false b = none (let z = not_below 0 room b in omega (arith, z, reach))

  pub rows_room : t.end ≤ t.first + mine
  rows_room = by_room (t.end ≤ t.first + mine) (λ some. let few = is.few in let p = (places some).0 in omega (arith, few, p)) (λ none. let e = (is.still none).1 in omega (arith, e))

  pub dirty_room : t.end ≤ t.first + its
  dirty_room = by_room (t.end ≤ t.first + its) (λ some. let few = is.few in let p = (places some).1 in omega (arith, few, p)) (λ none. let e = (is.still none).1 in omega (arith, e))

  pub edge_room : IfSome t.edge (λ _. t.end + 1 ≤ t.first + its)
  edge_room = by_room (IfSome t.edge (λ _. t.end + 1 ≤ t.first + its))
      (λ some. any t.edge (let few = is.few in let p = (places some).1 in omega (arith, few, p)))
      (λ none. subst (λ (o : Option ℕ). IfSome o (λ _. t.end + 1 ≤ t.first + its)) (sym (is.still none).0) tt)
    where
      any : (o : Option ℕ) → t.end + 1 ≤ t.first + its → IfSome o (λ _. t.end + 1 ≤ t.first + its)
      any None p = tt
      any (Some e) p = p

-- Rows of an opening

pub opened_below : (file : StartFile) → IsSoundFile file → AreBelow file.rows.items (length file.bytes.items)
opened_below file sound b among =
    let at = any_at (λ r. r == b) file.rows.items among in
    let low = sound.within at.0 at.1 at.2 in
    let same = same_numbers at.1 b at.3 in
    let size = sound.sized in
    omega (arith, low, same, size)

-- The same blocks by another test

pub listed_same : (p q : ℕ → Bool) (content own : List ℕ) (n : ℕ) (xs : List (ℕ × List ℕ)) → content ≡ own → ((b : ℕ) → b < n → p b ≡ q b) → AreListed p content n xs → AreListed q own n xs
listed_same p q content own n xs same agree are = record {
  each = λ i x at. let e = are.each i x at in (e.0, sym (agree x.0 e.0) ∙ e.1, e.2 ∙ ap (range x.0) same);
  all = λ b low is. are.all b low (agree b low ∙ is);
  rising = are.rising;
}
