-- A batch of frames behind the closed gate of a log, which then opens.
use Rattle.std.proofs.Common.{◌≡◌, ◌⊎◌, ℕ, suc, ◌+◌, ◌-◌, ◌<◌, ◌≤◌, ◌^◌, min, List, [], ◌∷◌, ◌++◌, length, get_or, map, take, drop, replicate, Result, Ok, Err, IsOk, IsErr, IsTrue, inl, inr, ⊎_elim, refl, sym, ◌∙◌, ap, subst, arith, append_assoc, length-append, length-drop, take-append-drop}
use Rattle.std.specs.Int.{w32, to_be_bytes}
use Rattle.std.proofs.lemmas.Bool.{cases_eq}
use Rattle.std.proofs.lemmas.List.{append-nil, take_at, drop_at, take_all, drop_more, map-append}
use Rattle.pass_outside.specs.declared.disk.Area.TheVariants as areas
use Rattle.pass_outside.specs.Areas.{Image, OnArea, Torn, written}
use Rattle.pass_outside.specs.Moments.{Moment, IsAtEnd, IsDeviceRun, Adds, AfterStep, Follows}
use Rattle.pass_outside.specs.Runs.{adds_nothing, adds_weaker, adds_both}
use Rattle.pass_log.specs.declared.log.Log.{Log}
use Rattle.pass_log.specs.Frames.{Frames, frames_of, longest, staged, IsFront, Rests}
use Rattle.pass_log.specs.Log.{Stands}
use Rattle.pass_log.proofs.Append.{at_end_or, length-written, behind, settled_failed}
use Rattle.pass_log.proofs.Crash.{image_rests, found}
use Rattle.pass_log.proofs.Scan.{front_append, front_frame}
use Rattle.pass_leaf.specs.declared.fault.OldFault.{OldFault}
use Rattle.pass_leaf.specs.declared.tail.Tail.{Tail}
use Rattle.pass_leaf.specs.Leaves.{Leaf, leaf_bytes}
use Rattle.pass_leaf.specs.Contents.{AreLeaves}
use Rattle.pass_leaf.specs.Archives.{IsArchive}
use Rattle.pass_leaf.specs.Gatherings.{frames_size}
use Rattle.pass_leaf.specs.Reads.{log_of, EndsThere, IsBatch, IsGathered}
use Rattle.pass_leaf.specs.Open.{IsOneOf, HasAppended}

-- bytes with a gate at a place
module _ (front : List ℕ) (gate : ℕ) (back bytes : List ℕ) (is : bytes ≡ front ++ gate ∷ back) where
  gate_size : length bytes ≡ length front + suc (length back)
  gate_size = ap length is ∙ length-append front (gate ∷ back)

  gate_front : take (length front) bytes ≡ front
  gate_front = ap (take (length front)) is ∙ take_at front (gate ∷ back) (length front) refl

  with_gate : bytes ≡ (front ++ gate ∷ []) ++ back
  with_gate = is ∙ sym (append_assoc front (gate ∷ []) back)

  long : length (front ++ gate ∷ []) ≡ length front + 1
  long = length-append front (gate ∷ [])

  gate_stays : take (length front + 1) bytes ≡ front ++ gate ∷ []
  gate_stays = ap (take (length front + 1)) with_gate ∙ take_at (front ++ gate ∷ []) back (length front + 1) long

  gate_back : drop (length front + 1) bytes ≡ back
  gate_back = ap (drop (length front + 1)) with_gate ∙ drop_at (front ++ gate ∷ []) back (length front + 1) long

  -- each outcome of a write of the gate
  torn_gate : (c : List ℕ) → Torn (length front) 1 bytes c → c ≡ front ++ get_or c (length front) 0 ∷ back
  torn_gate c torn =
      let n = length front in
      let whole : min n (length bytes) ≡ n = omega (arith, gate_size) in
      let same : length c ≡ length bytes = omega (arith, gate_size, torn.no_shorter, torn.no_longer) in
      let first : take n c ≡ front = ap (λ (k : ℕ). take k c) (sym whole) ∙ torn.front ∙ gate_front in
      let all : take (length bytes - (n + 1)) (drop (n + 1) c) ≡ drop (n + 1) c = take_all (length bytes - (n + 1)) (drop (n + 1) c) (omega (arith, length-drop (n + 1) c, same)) in
      let last : drop (n + 1) c ≡ back = sym all ∙ torn.back ∙ gate_back in
      sym (take-append-drop n c)
      ∙ ap (λ (l : List ℕ). l ++ drop n c) first
      ∙ ap (λ (l : List ℕ). front ++ l) (drop_more c n 0 (omega (arith, same, gate_size)))
      ∙ ap (λ (l : List ℕ). front ++ get_or c n 0 ∷ l) last

  written_gate : (g : ℕ) → written bytes (length front) (g ∷ []) ≡ front ++ g ∷ back
  written_gate g =
      let none : length front - length bytes ≡ 0 = omega (arith, gate_size) in
      ap (λ (l : List ℕ). (l ++ replicate (length front - length bytes) 0) ++ (g ∷ []) ++ drop (length front + 1) bytes) gate_front
      ∙ ap (λ (n : ℕ). (front ++ replicate n 0) ++ (g ∷ []) ++ drop (length front + 1) bytes) none
      ∙ ap (λ (l : List ℕ). l ++ (g ∷ []) ++ drop (length front + 1) bytes) (append-nil front)
      ∙ append_assoc front (g ∷ []) (drop (length front + 1) bytes)
      ∙ ap (λ (l : List ℕ). front ++ g ∷ l) gate_back

  written_back : (new : List ℕ) → written bytes (length front + 1) new ≡ front ++ gate ∷ (new ++ drop (length front + 1 + length new) bytes)
  written_back new =
      let none : length front + 1 - length bytes ≡ 0 = omega (arith, gate_size) in
      let left = drop (length front + 1 + length new) bytes in
      ap (λ (l : List ℕ). (l ++ replicate (length front + 1 - length bytes) 0) ++ new ++ left) gate_stays
      ∙ ap (λ (n : ℕ). ((front ++ gate ∷ []) ++ replicate n 0) ++ new ++ left) none
      ∙ ap (λ (l : List ℕ). l ++ new ++ left) (append-nil (front ++ gate ∷ []))
      ∙ append_assoc (front ++ gate ∷ []) new left
      ∙ append_assoc front (gate ∷ []) (new ++ left)

-- a log at rest, behind whose frames these come, given as the bytes that the first write has
module _ (log : Log) (old : Moment) (s : Stands log old) (bytes : List ℕ) (fs : List (List ℕ)) (body : List ℕ) (is : bytes ≡ body ++ 0 ∷ []) (passes : IsFront (1 ∷ body) fs)
    (room : log.end + length bytes < 2 ^ 39) where
  -- they count once the gate is open
  opened : (tail c : List ℕ) → c ≡ s.rests.front ++ 1 ∷ (bytes ++ tail) → Rests (s.list ++ fs) (log.end + length bytes) c
  opened tail c at = record {
    front = s.rests.front ++ (1 ∷ body);
    gate = 0;
    tail = tail;
    is =
        at ∙ ap (λ (l : List ℕ). s.rests.front ++ 1 ∷ (l ++ tail)) is ∙ ap (λ (l : List ℕ). s.rests.front ++ 1 ∷ l) (append_assoc body (0 ∷ []) tail)
        ∙ sym (append_assoc s.rests.front (1 ∷ body) (0 ∷ tail));
    shut = omega arith;
    passes = front_append s.rests.front (1 ∷ body) s.list fs s.rests.passes passes;
    place = length-append s.rests.front (1 ∷ body) ∙ omega (arith, s.rests.place, ap length is, length-append body (0 ∷ []));
  }

  within : log.end + 1 ≤ length old.seen.log
  within = omega (arith, ap length s.rests.is, length-append s.rests.front (s.rests.gate ∷ s.rests.tail), s.rests.place)

  module _ (mid : Moment) (done : mid.seen.log ≡ written old.seen.log (log.end + 1) bytes) where
    left : List ℕ
    left = drop (length s.rests.front + 1 + length bytes) old.seen.log

    mid_is : mid.seen.log ≡ s.rests.front ++ s.rests.gate ∷ (bytes ++ left)
    unfolding left
    mid_is = done ∙ ap (λ (n : ℕ). written old.seen.log (n + 1) bytes) (sym s.rests.place) ∙ written_back s.rests.front s.rests.gate s.rests.tail old.seen.log s.rests.is bytes

    mid_fits : length mid.seen.log ≤ longest
    mid_fits = omega (arith, ap length done, length-written old.seen.log (log.end + 1) bytes within, s.fits, room)

    -- a crash while the gate is written leaves the old frames, or the new ones too
    at_gate : ((c : Image) → mid.may_leave c → c.log ≡ mid.seen.log) → (c : Image) → AfterStep (OnArea areas.Log (Torn log.end 1)) mid c
        → (frames_of c.log ≡ found s.list log.end) ⊎ (frames_of c.log ≡ found (s.list ++ fs) (log.end + length bytes))
    at_gate durable c after =
        let torn : Torn log.end 1 mid.seen.log c.log = subst (λ (l : List ℕ). Torn log.end 1 l c.log) (durable after.0 after.1) after.2.here in
        let n = length s.rests.front in
        let here : Torn n 1 mid.seen.log c.log = subst (λ (k : ℕ). Torn k 1 mid.seen.log c.log) (sym s.rests.place) torn in
        let parts = torn_gate s.rests.front s.rests.gate (bytes ++ left) mid.seen.log mid_is c.log here in
        let some : n + 1 ≤ length mid.seen.log = omega (arith, ap length mid_is, length-append s.rests.front (s.rests.gate ∷ (bytes ++ left))) in
        let fits : length c.log ≤ longest = omega (arith, here.no_longer, mid_fits, some) in
        elim (cases_eq (get_or c.log n 0) 1) [
          | inl one ↦ inr (image_rests (s.list ++ fs) (log.end + length bytes) c.log (opened left c.log (parts ∙ ap (λ (k : ℕ). s.rests.front ++ k ∷ (bytes ++ left)) one)) fits)
          | inr shut ↦ inl (image_rests s.list log.end c.log
              (record { front = s.rests.front; gate = get_or c.log n 0; tail = bytes ++ left; is = parts; shut = shut; passes = s.rests.passes; place = s.rests.place }) fits)
        ]

    -- the gate is open, and all of it on the disk
    stands_again : (new : Moment) → new.seen.log ≡ written mid.seen.log log.end (1 ∷ []) → ((c : Image) → new.may_leave c → c.log ≡ new.seen.log) → Stands (record { end = log.end + length bytes; opened = log.opened }) new
    stands_again new open_now only =
        let n = length s.rests.front in
        let some : n + 1 ≤ length mid.seen.log = omega (arith, ap length mid_is, length-append s.rests.front (s.rests.gate ∷ (bytes ++ left))) in
        let parts : new.seen.log ≡ s.rests.front ++ 1 ∷ (bytes ++ left) =
        open_now ∙ ap (λ (k : ℕ). written mid.seen.log k (1 ∷ [])) (sym s.rests.place) ∙ written_gate s.rests.front s.rests.gate (bytes ++ left) mid.seen.log mid_is 1 in
        record {
          list = s.list ++ fs;
          rests = opened left new.seen.log parts;
          fits = omega (arith, ap length open_now, length-written mid.seen.log log.end (1 ∷ []) (omega (arith, some, s.rests.place)), mid_fits, some, s.rests.place);
          only = only;
        }

-- archives

abbrev list_of : Result Frames ℕ → List (List ℕ)
list_of (Ok r) = r.list
list_of (Err e) = []

-- after a failure nothing is known of the area
ends_failed : {T E : Type 0} (tail : Tail) (leaves : List Leaf) (old mid new : Moment) (r : Result T E) (P : Image → Type 0) → EndsThere tail leaves old → old.faults ≤ mid.faults → IsDeviceRun mid new r P → IsErr r
    → EndsThere tail leaves new
ends_failed tail leaves old mid new r P ends rose run failed = record {
  settled = settled_failed (log_of tail) old mid new r P ends.settled rose run failed;
  place = ends.place;
  reads = λ tells same not_end. ⊎_elim (λ more. absurd (omega (arith, more, same, ends.settled.opened, rose))) (λ ended. absurd (not_end ended)) (run.err failed);
}

module _ (old : Moment) (tail : Tail) (leaves gathered : List Leaf) (bytes : List ℕ) (ends : EndsThere tail leaves old) (b : IsBatch bytes gathered) (are : AreLeaves (leaves ++ gathered))
    (healthy : old.faults ≤ tail.opened) (room : tail.end + length bytes < 2 ^ 39) where
  abbrev all : List Leaf
  all = leaves ++ gathered

  abbrev fs : List (List ℕ)
  fs = map leaf_bytes gathered

  same : old.faults ≡ tail.opened
  same = omega (arith, healthy, ends.settled.opened)

  module _ (tells : IsTrue old.tells) (alive : IsAtEnd old → ⊥) where
    stands : Stands (log_of tail) old
    stands = ends.settled.stands tells same alive

    is : IsArchive old.seen.log leaves tail.end
    is = ends.reads tells same alive

    old_image : frames_of old.seen.log ≡ found stands.list tail.end
    old_image = image_rests stands.list tail.end old.seen.log stands.rests stands.fits

    list_is : stands.list ++ fs ≡ map leaf_bytes all
    list_is =
        let one : stands.list ≡ map leaf_bytes leaves = ap list_of (sym old_image ∙ is.frames) in
        ap (λ (l : List (List ℕ)). l ++ fs) one ∙ sym (map-append leaf_bytes leaves gathered)

    as_before : (log : List ℕ) → frames_of log ≡ frames_of old.seen.log → IsArchive log leaves tail.end
    as_before log was = record { frames = was ∙ is.frames; are = is.are }

    grown : (log : List ℕ) → frames_of log ≡ found (stands.list ++ fs) (tail.end + length bytes) → IsArchive log all (tail.end + length bytes)
    grown log found_all = record { frames = found_all ∙ ap (λ (l : List (List ℕ)). found l (tail.end + length bytes)) list_is; are = are }

    first_leaves : (c : Image) → AfterStep (OnArea areas.Log (Torn (tail.end + 1) (length bytes))) old c → IsOneOf leaves all c.log
    first_leaves c x = (tail.end, inl (as_before c.log (behind (log_of tail) old stands bytes room c x).frames))

    either : (log : List ℕ) → (frames_of log ≡ found stands.list tail.end) ⊎ (frames_of log ≡ found (stands.list ++ fs) (tail.end + length bytes)) → IsOneOf leaves all log
    either log (inl was) = (tail.end, inl (as_before log (was ∙ sym old_image)))
    either log (inr more) = (tail.end + length bytes, inr (grown log more))

  -- the first write failed
  pub first_failed : {T U E : Type 0} (new : Moment) (r : Result U E) (e : OldFault) → (IsAtEnd old → new ≡ old) → Follows (OnArea areas.Log (Torn (tail.end + 1) (length bytes))) old new
      → IsDeviceRun old new r (AfterStep (OnArea areas.Log (Torn (tail.end + 1) (length bytes))) old) → IsErr r → HasAppended {T = T} old new tail tail leaves gathered (Err e)
  first_failed {T} new r e ended follows run failed = record {
    ends = tt;
    stays = ends_failed tail leaves old old new r _ ends (omega arith) run failed;
    acknowledged = tt;
    any_moment = λ tells. elim (at_end_or old) [
      | inl end ↦ subst (λ (m : Moment). Adds old m (λ c. IsOneOf leaves all c.log)) (sym (ended end)) (adds_nothing old (λ c. IsOneOf leaves all c.log))
      | inr alive ↦ adds_weaker (λ c. IsOneOf leaves all c.log) old new run.adds (first_leaves tells alive)
    ];
    crash = λ tells known c may. elim (at_end_or old) [
      | inl end ↦ (tail.end, inl (known c (subst (λ (m : Moment). m.may_leave c) (ended end) may)))
      | inr alive ↦ first_leaves tells alive c (follows c may)
    ];
  }

  module _ {U E : Type 0} (mid new : Moment) (r : Result U E) (s : Result U E) (done : IsTrue old.tells → mid.seen.log ≡ written old.seen.log (tail.end + 1) bytes)
      (durable : (c : Image) → mid.may_leave c → c.log ≡ mid.seen.log) (first : IsDeviceRun old mid r (AfterStep (OnArea areas.Log (Torn (tail.end + 1) (length bytes))) old)) (went : IsOk r)
      (follows : Follows (OnArea areas.Log (Torn tail.end 1)) mid new) (then : IsDeviceRun mid new s (AfterStep (OnArea areas.Log (Torn tail.end 1)) mid)) where
    alive : IsAtEnd old → ⊥
    alive = (first.ok went).1

    gate_leaves : IsTrue old.tells → (c : Image) → AfterStep (OnArea areas.Log (Torn tail.end 1)) mid c → IsOneOf leaves all c.log
    gate_leaves tells c x = either tells alive c.log (at_gate (log_of tail) old (stands tells alive) bytes fs b.body b.is b.passes room mid (done tells) durable c x)

    moments : IsTrue old.tells → Adds old new (λ c. IsOneOf leaves all c.log)
    moments tells = adds_both (λ c. IsOneOf leaves all c.log) old mid new first.adds then.adds (first_leaves tells alive) (gate_leaves tells)

    crashes : IsTrue old.tells → (c : Image) → new.may_leave c → IsOneOf leaves all c.log
    crashes tells c may = gate_leaves tells c (follows c may)

    -- the gate's write failed
    pub second_failed : {T : Type 0} (e : OldFault) → IsErr s → HasAppended {T = T} old new tail tail leaves gathered (Err e)
    second_failed {T} e failed = record {
      ends = tt;
      stays = ends_failed tail leaves old mid new s _ ends (omega (arith, (first.ok went).0)) then failed;
      acknowledged = tt;
      any_moment = moments;
      crash = λ tells known. crashes tells;
    }

    -- both are done
    module _ (next : Tail) (end : next.end ≡ tail.end + length bytes) (opened_is : next.opened ≡ tail.opened) (open_now : IsTrue old.tells → new.seen.log ≡ written mid.seen.log tail.end (1 ∷ []))
        (only : (c : Image) → new.may_leave c → c.log ≡ new.seen.log) where
      again : IsTrue old.tells → Stands (record { end = tail.end + length bytes; opened = tail.opened }) new
      again tells = stands_again (log_of tail) old (stands tells alive) bytes fs b.body b.is b.passes room mid (done tells) new (open_now tells) only

      new_is : IsTrue old.tells → IsArchive new.seen.log all (tail.end + length bytes)
      unfolding again stands_again
      new_is tells = grown tells alive new.seen.log (image_rests ((stands tells alive).list ++ fs) (tail.end + length bytes) new.seen.log (again tells).rests (again tells).fits)

      pub both_done : {T : Type 0} (x : T) → HasAppended old new tail next leaves gathered (Ok x)
      both_done {T} x = record {
        ends = record {
          settled = record {
            opened = omega (arith, opened_is, ends.settled.opened, first.rises, then.rises);
            stands = λ tells same not_end.
                let told : IsTrue old.tells = sym first.tells ∙ (sym then.tells ∙ tells) in
                subst (λ (l : Log). Stands l new) (λ i. record { end = sym end i; opened = sym opened_is i }) (again told);
          };
          place = omega (arith, end, room);
          reads = λ tells same not_end.
              let told : IsTrue old.tells = sym first.tells ∙ (sym then.tells ∙ tells) in
              subst (IsArchive new.seen.log all) (sym end) (new_is told);
        };
        stays = tt;
        acknowledged = λ tells c may. subst (IsArchive c.log all) (sym end) (subst (λ (l : List ℕ). IsArchive l all (tail.end + length bytes)) (sym (only c may)) (new_is tells));
        any_moment = moments;
        crash = λ tells known. crashes tells;
      }

-- the bytes of frames

pub length-staged : (b : List ℕ) → length (staged b) ≡ length b + 5
length-staged b =
    let four : length (to_be_bytes w32 (length b)) ≡ 4 = refl in
    omega (arith, four, length-append (to_be_bytes w32 (length b) ++ b) (0 ∷ []), length-append (to_be_bytes w32 (length b)) b)

pub frames_size-append : (xs ys : List Leaf) → frames_size (xs ++ ys) ≡ frames_size xs + frames_size ys
frames_size-append [] ys = omega arith
frames_size-append (x ∷ xs) ys = omega (arith, frames_size-append xs ys)

-- the frame of one leaf, and one more behind those of others
module _ (leaf : Leaf) (frame : List ℕ) (is : frame ≡ staged (leaf_bytes leaf)) (fits : length (leaf_bytes leaf) < 2 ^ 32) where
  pub batch_first : IsBatch frame (leaf ∷ [])
  batch_first = record {
    body = to_be_bytes w32 (length (leaf_bytes leaf)) ++ leaf_bytes leaf;
    is = is;
    passes = front_frame (leaf_bytes leaf) fits;
    size = ap length is ∙ length-staged (leaf_bytes leaf) ∙ omega arith;
  }

  pub batch_more : (old new : List ℕ) (gathered : List Leaf) → IsBatch old gathered → new ≡ take (length old - 1) (old ++ frame) ++ (1 ∷ []) ++ drop (length old - 1 + 1) (old ++ frame) → IsBatch new (gathered ++ leaf ∷ [])
  batch_more old new gathered b put =
      let one = to_be_bytes w32 (length (leaf_bytes leaf)) ++ leaf_bytes leaf in
      let last : length old ≡ length b.body + 1 = ap length b.is ∙ length-append b.body (0 ∷ []) in
      let parts : old ++ frame ≡ b.body ++ 0 ∷ frame = ap (λ (l : List ℕ). l ++ frame) b.is ∙ append_assoc b.body (0 ∷ []) frame in
      let front : take (length old - 1) (old ++ frame) ≡ b.body = ap (take (length old - 1)) parts ∙ take_at b.body (0 ∷ frame) (length old - 1) (omega (arith, last)) in
      let back : drop (length old - 1 + 1) (old ++ frame) ≡ frame =
      ap (drop (length old - 1 + 1)) (parts ∙ sym (append_assoc b.body (0 ∷ []) frame)) ∙ drop_at (b.body ++ 0 ∷ []) frame (length old - 1 + 1) (omega (arith, last, length-append b.body (0 ∷ []))) in
      let new_is : new ≡ (b.body ++ 1 ∷ one) ++ 0 ∷ [] =
      put
      ∙ ap (λ (l : List ℕ). l ++ (1 ∷ []) ++ drop (length old - 1 + 1) (old ++ frame)) front
      ∙ ap (λ (l : List ℕ). b.body ++ (1 ∷ []) ++ l) (back ∙ is)
      ∙ append_assoc b.body (1 ∷ []) (one ++ 0 ∷ [])
      ∙ sym (append_assoc b.body (1 ∷ one) (0 ∷ [])) in
      record {
        body = b.body ++ 1 ∷ one;
        is = new_is;
        passes = subst (IsFront (1 ∷ b.body ++ 1 ∷ one)) (sym (map-append leaf_bytes gathered (leaf ∷ [])))
            (front_append (1 ∷ b.body) (1 ∷ one) (map leaf_bytes gathered) (leaf_bytes leaf ∷ []) b.passes (front_frame (leaf_bytes leaf) fits));
        size = omega (
          arith,
          ap length new_is,
          length-append (b.body ++ 1 ∷ one) (0 ∷ []),
          length-append b.body (1 ∷ one),
          last,
          b.size,
          frames_size-append gathered (leaf ∷ []),
          ap length is,
          length-append one (0 ∷ []),
          length-staged (leaf_bytes leaf),
        );
      }

  -- whether or not others are gathered
  pub batch_on : (old new : List ℕ) (gathered : List Leaf) → IsGathered old gathered → (length old ≡ 0 → new ≡ old ++ frame)
      → (0 < length old → new ≡ take (length old - 1) (old ++ frame) ++ (1 ∷ []) ++ drop (length old - 1 + 1) (old ++ frame)) → IsBatch new (gathered ++ leaf ∷ [])
  batch_on old new gathered (inl (none, no_leaves)) alone behind =
      let one : new ≡ frame = alone (ap length none) ∙ ap (λ (l : List ℕ). l ++ frame) none in
      subst (λ (l : List ℕ). IsBatch l (gathered ++ leaf ∷ [])) (sym one) (subst (λ (l : List Leaf). IsBatch frame (l ++ leaf ∷ [])) (sym no_leaves) batch_first)
  batch_on old new gathered (inr b) alone behind = batch_more old new gathered b (behind (omega (arith, ap length b.is, length-append b.body (0 ∷ []))))
