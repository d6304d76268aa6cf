-- The two steps of an append: the frame behind the closed gate, and the gate.
use Rattle.std.proofs.Common.{◌≡◌, ◌⊎◌, ℕ, suc, ◌+◌, ◌-◌, ◌<◌, ◌≤◌, ◌^◌, max, List, [], ◌∷◌, ◌++◌, length, take, drop, replicate, IsTrue, Result, IsErr, inl, inr, ⊎_elim, refl, sym, ◌∙◌, ap, subst, arith, length-append, length-drop, length-take}
use Rattle.std.specs.Int.{w32, to_be_bytes}
use Rattle.std.proofs.lemmas.Bool.{cases_eq}
use Rattle.std.proofs.lemmas.List.{length-replicate, take_at}
use Rattle.pass_outside.specs.declared.disk.Area.TheVariants as areas
use Rattle.pass_outside.specs.Areas.{Image, OnArea, Torn, written}
use Rattle.pass_outside.specs.Moments.{Moment, IsAtEnd, IsDeviceRun, Adds, AfterStep, Follows}
use Rattle.pass_outside.specs.Runs.{adds_nothing, adds_weaker, adds_both, adds_steps, follows_both, follows_weaker}
use Rattle.pass_log.specs.declared.log.Log.{Log}
use Rattle.pass_log.specs.Frames.{frames_of, longest, with_frame, staged, Rests}
use Rattle.pass_log.specs.Log.{Stands, IsSettled, IsStaged, batch_of, standing, HasSame, HasOneMore, IsBeforeOrAfter, SameStore, LeavesStore}
use Rattle.pass_log.proofs.Crash.{image_rests, torn_behind, behind_bytes, written_behind, written_front, torn_gate, written_gate, written_bytes, Ready, found, IsEither}

pub at_end_or : (m : Moment) → IsAtEnd m ⊎ (IsAtEnd m → ⊥)
at_end_or m = elim (cases_eq m.calls 18446744073709551615) [
  | inl is ↦ inl (inl is)
  | inr below ↦ elim (cases_eq m.faults 18446744073709551615) [ inl is ↦ inl (inr is) | inr none ↦ inr (λ h. ⊎_elim below none h) ]
]

pub length-written : (old : List ℕ) (at : ℕ) (bytes : List ℕ) → at ≤ length old → length (written old at bytes) ≡ max (length old) (at + length bytes)
length-written old at bytes within =
    let tail = drop (at + length bytes) old in
    let head = take at old ++ replicate (at - length old) 0 in
    omega (
      arith,
      within,
      length-append (head ++ bytes) tail,
      length-append head bytes,
      length-append (take at old) (replicate (at - length old) 0),
      length-take at old,
      length-replicate {A = ℕ} (at - length old) 0,
      length-drop (at + length bytes) old,
    )

-- how a frame stands in a log
pub standing_staged : (b : List ℕ) → standing (staged b) ≡ 1 ∷ (to_be_bytes w32 (length b) ++ b)
standing_staged b =
    let head = to_be_bytes w32 (length b) in
    ap (λ (l : List ℕ). 1 ∷ l) (take_at (head ++ b) (0 ∷ []) (length (staged b) - 1) (omega (arith, length-append (head ++ b) (0 ∷ []))))

module _ (log : Log) (old : Moment) (s : Stands log old) (frame : List ℕ) (room : log.end + length frame < 2 ^ 39) where
  within : log.end + 1 ≤ length old.seen.log
  within = let long : length old.seen.log ≡ length s.rests.front + suc (length s.rests.tail) = ap length s.rests.is ∙ length-append s.rests.front (s.rests.gate ∷ s.rests.tail) in
      omega (arith, long, s.rests.place)

  pub old_image : frames_of old.seen.log ≡ found s.list log.end
  old_image = image_rests s.list log.end old.seen.log s.rests s.fits

  -- a crash while the frame is written leaves the old frames
  pub behind : (c : Image) → AfterStep (OnArea areas.Log (Torn (log.end + 1) (length frame))) old c → HasSame log.end old.seen.log c.log
  behind c after =
      let torn : Torn (log.end + 1) (length frame) old.seen.log c.log = subst (λ (l : List ℕ). Torn (log.end + 1) (length frame) l c.log) (s.only after.0 after.1) after.2.here in
      let fits : length c.log ≤ longest = omega (arith, torn.no_longer, s.fits, room) in
      record {
        frames = image_rests s.list log.end c.log (torn_behind s.list log.end old.seen.log s.rests (length frame) c.log torn) fits ∙ sym old_image;
        bytes = behind_bytes s.list log.end old.seen.log s.rests (length frame) c.log torn;
      }

  module _ (mid : Moment) (is : IsStaged frame) (done : mid.seen.log ≡ written old.seen.log (log.end + 1) frame) (durable : (c : Image) → mid.may_leave c → c.log ≡ mid.seen.log) where
    ready : Ready s.list log.end (batch_of frame) mid.seen.log
    ready = subst (Ready s.list log.end (batch_of frame)) (ap (written old.seen.log (log.end + 1)) (sym is.is) ∙ sym done)
        (written_behind s.list log.end (batch_of frame) old.seen.log s.rests)

    mid_fits : length mid.seen.log ≤ longest
    mid_fits = omega (arith, ap length done, length-written old.seen.log (log.end + 1) frame within, s.fits, room)

    size : length frame ≡ 5 + length (batch_of frame)
    size =
        let batch = batch_of frame in
        let head = to_be_bytes w32 (length batch) in
        let four : length head ≡ 4 = refl in
        omega (arith, ap length is.is, four, length-append (head ++ batch) (0 ∷ []), length-append head batch)

    longer : log.end + 2 ≤ length mid.seen.log
    longer = omega (arith, ap length done, length-written old.seen.log (log.end + 1) frame within, size)

    same_front : take log.end mid.seen.log ≡ take log.end old.seen.log
    same_front = ap (take log.end) (done ∙ ap (written old.seen.log (log.end + 1)) is.is) ∙ written_front s.list log.end (batch_of frame) old.seen.log s.rests is.fits

    same_end : log.end + length frame ≡ log.end + 5 + length (batch_of frame)
    same_end = omega (arith, size)

    -- bytes that have the frame behind those of the middle have it behind the old ones
    more_bytes : (bytes : List ℕ) → take (log.end + 5 + length (batch_of frame)) bytes ≡ take log.end mid.seen.log ++ (1 ∷ to_be_bytes w32 (length (batch_of frame)) ++ batch_of frame)
        → take (log.end + length frame) bytes ≡ take log.end old.seen.log ++ standing frame
    more_bytes bytes more =
        ap (λ (n : ℕ). take n bytes) same_end ∙ more ∙ ap (λ (l : List ℕ). l ++ (1 ∷ to_be_bytes w32 (length (batch_of frame)) ++ batch_of frame)) same_front
        ∙ ap (λ (l : List ℕ). take log.end old.seen.log ++ l) (sym (ap standing is.is ∙ standing_staged (batch_of frame)))

    either : (bytes : List ℕ) → length bytes ≤ longest → IsEither s.list log.end (batch_of frame) is.fits mid.seen.log ready bytes → IsBeforeOrAfter frame log.end old.seen.log bytes
    either bytes fits (inl (r, same)) = inl (record { frames = image_rests s.list log.end bytes r fits ∙ sym old_image; bytes = same ∙ same_front })
    either bytes fits (inr (r, more)) = inr (record {
      frames = image_rests (s.list ++ batch_of frame ∷ []) (log.end + 5 + length (batch_of frame)) bytes r fits ∙ ap (with_frame (batch_of frame)) (sym old_image);
      bytes = more_bytes bytes more;
    })

    -- a crash while the gate is written leaves the old frames, or the new one too
    pub at_gate : (c : Image) → AfterStep (OnArea areas.Log (Torn log.end 1)) mid c → IsBeforeOrAfter frame log.end old.seen.log c.log
    at_gate c after =
        let torn : Torn log.end 1 mid.seen.log c.log = subst (λ (l : List ℕ). Torn log.end 1 l c.log) (durable after.0 after.1) after.2.here in
        let fits : length c.log ≤ longest = omega (arith, torn.no_longer, mid_fits, longer) in
        either c.log fits (torn_gate s.list log.end (batch_of frame) is.fits mid.seen.log ready c.log torn)

    -- the gate is open, and all of it on the disk
    pub stands_again : (new : Moment) → new.seen.log ≡ written mid.seen.log log.end (1 ∷ []) → ((c : Image) → new.may_leave c → c.log ≡ new.seen.log)
        → Stands (record log { end = log.end + length frame }) new
    stands_again new open_now only =
        let ends : log.end + 5 + length (batch_of frame) ≡ log.end + length frame = omega (arith, size) in
        record {
          list = s.list ++ batch_of frame ∷ [];
          rests = subst (λ (n : ℕ). Rests (s.list ++ batch_of frame ∷ []) n new.seen.log) ends
              (subst (Rests (s.list ++ batch_of frame ∷ []) (log.end + 5 + length (batch_of frame))) (sym open_now) (written_gate s.list log.end (batch_of frame) is.fits mid.seen.log ready));
          fits = omega (arith, ap length open_now, length-written mid.seen.log log.end (1 ∷ []) (omega (arith, longer)), mid_fits, longer);
          only = only;
        }

    pub new_image : (new : Moment) → new.seen.log ≡ written mid.seen.log log.end (1 ∷ []) → ((c : Image) → new.may_leave c → c.log ≡ new.seen.log)
        → (c : Image) → new.may_leave c → frames_of c.log ≡ with_frame (batch_of frame) (frames_of old.seen.log)
    unfolding stands_again
    new_image new open_now only c may =
        let t = stands_again new open_now only in
        let ends : log.end + length frame ≡ log.end + 5 + length (batch_of frame) = omega (arith, size) in
        ap frames_of (only c may) ∙ image_rests t.list (log.end + length frame) new.seen.log t.rests t.fits
        ∙ ap (found t.list) ends ∙ ap (with_frame (batch_of frame)) (sym old_image)

    pub new_bytes : (new : Moment) → new.seen.log ≡ written mid.seen.log log.end (1 ∷ []) → take (log.end + length frame) new.seen.log ≡ take log.end old.seen.log ++ standing frame
    new_bytes new open_now = more_bytes new.seen.log (ap (take (log.end + 5 + length (batch_of frame))) open_now ∙ written_bytes s.list log.end (batch_of frame) is.fits mid.seen.log ready)

    pub new_reads : (new : Moment) → new.seen.log ≡ written mid.seen.log log.end (1 ∷ []) → ((c : Image) → new.may_leave c → c.log ≡ new.seen.log)
        → frames_of new.seen.log ≡ with_frame (batch_of frame) (frames_of old.seen.log)
    unfolding stands_again
    new_reads new open_now only =
        let t = stands_again new open_now only in
        let ends : log.end + length frame ≡ log.end + 5 + length (batch_of frame) = omega (arith, size) in
        image_rests t.list (log.end + length frame) new.seen.log t.rests t.fits ∙ ap (found t.list) ends ∙ ap (with_frame (batch_of frame)) (sym old_image)

-- the first step, whatever the counts are
pub staged_moments : (log : Log) (old mid : Moment) (frame : List ℕ) → IsSettled log old → old.faults ≤ log.opened → log.end + length frame < 2 ^ 39 → IsTrue old.tells
    → (IsAtEnd old → mid ≡ old) → Adds old mid (AfterStep (OnArea areas.Log (Torn (log.end + 1) (length frame))) old) → Adds old mid (λ c. HasSame log.end old.seen.log c.log)
staged_moments log old mid frame settled healthy room tells stands adds = elim (at_end_or old) [
  | inl ended ↦ subst (λ (m : Moment). Adds old m (λ c. HasSame log.end old.seen.log c.log)) (sym (stands ended)) (adds_nothing old (λ c. HasSame log.end old.seen.log c.log))
  | inr before_end ↦
      let s = settled.stands tells (omega (arith, settled.opened, healthy)) before_end in
      adds_weaker (λ c. HasSame log.end old.seen.log c.log) old mid adds (behind log old s frame room)
]

-- after a failure nothing is known of the area
pub settled_failed : {T E : Type 0} (log : Log) (old mid new : Moment) (r : Result T E) (P : Image → Type 0) → IsSettled log old → old.faults ≤ mid.faults → IsDeviceRun mid new r P → IsErr r → IsSettled log new
settled_failed log old mid new r P settled rose run failed = record {
  opened = omega (arith, settled.opened, rose, run.rises);
  stands = λ tells same not_end. ⊎_elim (λ more. absurd (omega (arith, more, same, settled.opened, rose))) (λ ended. absurd (not_end ended)) (run.err failed);
}

-- both steps, the second one done or not
pub both_moments : (log : Log) (old mid new : Moment) (frame : List ℕ) (s : Stands log old) → log.end + length frame < 2 ^ 39 → IsStaged frame
    → mid.seen.log ≡ written old.seen.log (log.end + 1) frame → ((c : Image) → mid.may_leave c → c.log ≡ mid.seen.log)
    → Adds old mid (AfterStep (OnArea areas.Log (Torn (log.end + 1) (length frame))) old) → Adds mid new (AfterStep (OnArea areas.Log (Torn log.end 1)) mid)
    → Adds old new (λ c. IsBeforeOrAfter frame log.end old.seen.log c.log)
both_moments log old mid new frame s room is done durable first second =
    adds_both (λ c. IsBeforeOrAfter frame log.end old.seen.log c.log) old mid new first second
    (λ c x. inl (behind log old s frame room c x)) (at_gate log old s frame room mid is done durable)

-- a step of the log area leaves the store area
pub store_one : (old new : Moment) (step : List ℕ → List ℕ → Type 0) → (IsTrue old.tells → SameStore old.seen new.seen) → Follows (OnArea areas.Log step) old new
    → Adds old new (AfterStep (OnArea areas.Log step) old) → LeavesStore old new
store_one old new step reads crash adds = record {
  reads = reads;
  at_once = follows_weaker (OnArea areas.Log step) SameStore old new (λ a b x. x.elsewhere) crash;
  moments = adds_weaker (AfterStep SameStore old) old new adds (λ i x. (x.0, x.1, x.2.elsewhere));
}

-- and so do both steps
pub store_both : (old mid new : Moment) (step next : List ℕ → List ℕ → Type 0) → mid.tells ≡ old.tells
    → (IsTrue old.tells → SameStore old.seen mid.seen) → (IsTrue mid.tells → SameStore mid.seen new.seen)
    → Follows (OnArea areas.Log step) old mid → Follows (OnArea areas.Log next) mid new
    → Adds old mid (AfterStep (OnArea areas.Log step) old) → Adds mid new (AfterStep (OnArea areas.Log next) mid) → LeavesStore old new
store_both old mid new step next same first_reads then_reads first then adds adds_then =
    let one = store_one old mid step first_reads first adds in
    let two = store_one mid new next then_reads then adds_then in
    record {
      reads = λ told. two.reads (subst IsTrue (sym same) told) ∙ one.reads told;
      at_once = follows_both SameStore old mid new (λ a b c x y. y ∙ x) one.at_once two.at_once;
      moments = adds_steps SameStore old mid new (λ a b c x y. y ∙ x) one.at_once one.moments two.moments;
    }

pub batch_staged : (b : List ℕ) → batch_of (staged b) ≡ b
batch_staged b =
    let four : length (to_be_bytes w32 (length b)) ≡ 4 = refl in
    let size : length (staged b) ≡ length b + 5 = omega (arith, four, length-append (to_be_bytes w32 (length b) ++ b) (0 ∷ []), length-append (to_be_bytes w32 (length b)) b) in
    take_at b (0 ∷ []) (length (staged b) - 5) (omega (arith, size))

-- the store area stays while frames are appended
pub leaves_none : (m : Moment) → LeavesStore m m
leaves_none m = record { reads = λ told. refl; at_once = λ c may. (c, may, refl); moments = adds_nothing m (AfterStep SameStore m) }

pub leaves_more : (old mid new : Moment) → mid.tells ≡ old.tells → LeavesStore old mid → LeavesStore mid new → LeavesStore old new
leaves_more old mid new tells one two = record {
  reads = λ told. two.reads (subst IsTrue (sym tells) told) ∙ one.reads told;
  at_once = follows_both SameStore old mid new same_two one.at_once two.at_once;
  moments = adds_steps SameStore old mid new same_two one.at_once one.moments two.moments;
}
  where
    same_two : (a b c : Image) → SameStore a b → SameStore b c → SameStore a c
    same_two a b c first second = second ∙ first
