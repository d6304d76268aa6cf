-- Frames are staged and appended, one behind the other.
use Rattle.std.proofs.Common.{◌≡◌, ◌⊎◌, ℕ, zero, suc, ◌+◌, ◌<◌, ◌≤◌, List, [], ◌∷◌, ◌++◌, length, take, drop, get_or, IsTrue, ⊎_elim, refl, sym, ◌∙◌, ap, subst, arith, Vec, length-append, ◌^◌}
use Rattle.std.proofs.lemmas.List.{map-append, take_more, drop_more}
use Rattle.std.proofs.lemmas.List.Elements.{All-get_or}
use Rattle.std.proofs.lemmas.List.Sums.{sum_by_push, sum_by-append}
use Rattle.std.specs.Int.{w32, to_be_bytes}
use Rattle.std.specs.List.{All}
use Rattle.pass_entry.specs.Ranges.{IsInRange}
use Rattle.pass_log.specs.Frames.{staged}
use Rattle.std.specs.declared.alloc.Global.{Global}
use Rattle.pass_entry.specs.declared.record.Record.{Record}
use Rattle.pass_outside.specs.Areas.{Image}
use Rattle.pass_outside.specs.Moments.{Moment, IsAtEnd, Adds, AfterStep, Follows}
use Rattle.pass_log.specs.declared.log.Log.{Log}
use Rattle.pass_log.specs.Log.{IsSettled, IsFrameOf, SameStore}
use Rattle.pass_log.specs.Records.{image_of, with_batch, IsOldOrBoth, spellings}
use Rattle.pass_log.proofs.Append.{at_end_or}
use Rattle.pass_keep.specs.Kept.{Story, IsStory, Noted, IsKept, AreParts}
use Rattle.pass_keep.specs.Parts.{lists_of, frames_length, bytes_length, AreFrames, KeepsMore, KeepsStill}
use Rattle.pass_keep.proofs.Keeping.{frame_failed, frame_done, more_without_records, kept_fewer}

-- Staging

frames_push : (parts : List (List Record)) (frames : List (Vec ℕ Global)) (part : List Record) (frame : Vec ℕ Global) → AreFrames parts frames → IsFrameOf part frame.items
    → AreFrames (parts ++ part ∷ []) (frames ++ frame ∷ [])
frames_push [] [] part frame are is = (is, tt)
frames_push (p ∷ parts) (f ∷ frames) part frame are is = (are.0, frames_push parts frames part frame are.1 is)
frames_push [] (f ∷ frames) part frame are is = absurd are
frames_push (p ∷ parts) [] part frame are is = absurd are

pub staged_more : (parts : List (Vec Record Global)) (i : ℕ) (part : Vec Record Global) → i < length parts → (frames : List (Vec ℕ Global)) (frame : Vec ℕ Global)
    → AreFrames (lists_of (take i parts)) frames → IsFrameOf (get_or parts i part).items frame.items → AreFrames (lists_of (take (i + 1) parts)) (frames ++ frame ∷ [])
staged_more parts i part low frames frame are is =
    let one = get_or parts i part in
    let longer : lists_of (take (i + 1) parts) ≡ lists_of (take i parts) ++ one.items ∷ [] =
    ap lists_of (take_more parts i part low) ∙ map-append (λ (p : Vec Record Global). p.items) (take i parts) (one ∷ []) in
    subst (λ (l : List (List Record)). AreFrames l (frames ++ frame ∷ [])) (sym longer) (frames_push (lists_of (take i parts)) frames one.items frame are is)

pub length_more : (parts : List (Vec Record Global)) (i : ℕ) (part : Vec Record Global) → i < length parts → (frames : List (Vec ℕ Global)) (frame : Vec ℕ Global)
    → bytes_length frames ≡ frames_length (take i parts) → length frame.items ≡ 5 + length (spellings (get_or parts i part).items)
    → bytes_length (frames ++ frame ∷ []) ≡ frames_length (take (i + 1) parts)
length_more parts i part low frames frame same is =
    sum_by_push (λ (f : Vec ℕ Global). length f.items) frames frame
    ∙ (let z : bytes_length frames + length frame.items ≡ frames_length (take i parts) + (5 + length (spellings (get_or parts i part).items)) = omega (arith, same, is) in z)
    ∙ sym (sum_by_push (λ (p : Vec Record Global). 5 + length (spellings p.items)) (take i parts) (get_or parts i part))
    ∙ ap frames_length (sym (take_more parts i part low))

pub staged_length : (batch : List ℕ) → length (staged batch) ≡ 5 + length batch
staged_length batch =
    let head = to_be_bytes w32 (length batch) in
    let four : length head ≡ 4 = refl in
    omega (arith, four, length-append (head ++ batch) (0 ∷ []), length-append head batch)

pub frame_of : (parts : List (Vec Record Global)) (i : ℕ) (part : Vec Record Global) → i < length parts → All (λ p. All IsInRange p.items) parts → All (λ p. length (spellings p.items) < 2 ^ 32) parts
    → (frame : Vec ℕ Global) → frame.items ≡ staged (spellings (get_or parts i part).items)
    → IsFrameOf (get_or parts i part).items frame.items × (length frame.items ≡ 5 + length (spellings (get_or parts i part).items))
frame_of parts i part low ranges sizes frame is = (
  record { in_range = All-get_or (λ p. All IsInRange p.items) parts i part low ranges; fits = All-get_or (λ p. length (spellings p.items) < 2 ^ 32) parts i part low sizes; is = is },
  ap length is ∙ staged_length (spellings (get_or parts i part).items),
)

-- Appending

frame_at : (parts : List (List Record)) (frames : List (Vec ℕ Global)) (i : ℕ) (v : Vec ℕ Global) → i < length frames → AreFrames parts frames
    → IsFrameOf (get_or parts i []) (get_or frames i v).items × (i < length parts)
frame_at [] [] i v low are = absurd (omega (arith, low))
frame_at (p ∷ parts) (f ∷ frames) zero v low are = (are.0, omega arith)
frame_at (p ∷ parts) (f ∷ frames) (suc i) v low are = let more = frame_at parts frames i v (omega (arith, low)) are.1 in (more.0, omega (arith, more.1))
frame_at [] (f ∷ frames) i v low are = absurd are
frame_at (p ∷ parts) [] i v low are = absurd are

drop_parts : (parts : List (List Record)) (frames : List (Vec ℕ Global)) (i : ℕ) (v : Vec ℕ Global) → i < length frames → AreFrames parts frames
    → IsFrameOf (get_or parts i []) (get_or frames i v).items × (drop i parts ≡ get_or parts i [] ∷ drop (i + 1) parts)
drop_parts parts frames i v low are = let both = frame_at parts frames i v low are in (both.0, drop_more parts i [] both.1)

none_left : (parts : List (List Record)) (frames : List (Vec ℕ Global)) (i : ℕ) → length frames ≤ i → AreFrames parts frames → drop i parts ≡ []
none_left [] [] zero high are = refl
none_left [] [] (suc i) high are = refl
none_left (p ∷ parts) (f ∷ frames) zero high are = absurd (omega (arith, high))
none_left (p ∷ parts) (f ∷ frames) (suc i) high are = none_left parts frames i (omega (arith, high)) are.1
none_left [] (f ∷ frames) i high are = absurd are
none_left (p ∷ parts) [] i high are = absurd are

-- what is kept while frames are left
pub record IsPartly (s : Story) (noted : List Noted) (durable upto : ℕ) (parts : List (List Record)) (m : Moment) (log : Log) : Type 0 where
  pub upto_here : ℕ
  pub le : durable ≤ upto_here
  pub kept : IsKept s m log upto_here noted
  pub rest : AreParts s upto_here upto parts

abbrev pub KeepsPartly : List (Vec ℕ Global) → Moment → Log → ℕ → Moment → Log → Type 0
KeepsPartly frames old log i m log_mid = (s : Story) (noted : List Noted) (durable upto : ℕ) (parts : List (List Record)) → IsStory s → IsKept s old log durable noted
    → upto ≤ length s.history → AreParts s durable upto parts → AreFrames parts frames → IsPartly s noted durable upto (drop i parts) m log_mid

-- what the log says of a frame that it appended, or didn't
module _ (frames : List (Vec ℕ Global)) (old mid new : Moment) (first log log_new : Log) (i : ℕ) (v : Vec ℕ Global) (low : i < length frames)
    (partly : KeepsPartly frames old first i mid log) (counts : (c : Image) → mid.may_leave c → mid.left_since mid.calls c) (less : (t u : ℕ) (c : Image) → t ≤ u → new.left_since u c → new.left_since t c)
    (tells : new.tells ≡ mid.tells) (store : Adds mid new (AfterStep SameStore mid)) (settled : IsSettled log_new new)
    (any : (batch : List Record) → IsFrameOf batch (get_or frames i v).items → IsTrue mid.tells → Adds mid new (λ c. IsOldOrBoth batch (image_of mid.seen.log) (image_of c.log))) where
  pub partly_more : mid.faults ≡ log.opened → (IsAtEnd mid → ⊥)
      → ((batch : List Record) → IsFrameOf batch (get_or frames i v).items → IsTrue mid.tells → image_of new.seen.log ≡ with_batch batch (image_of mid.seen.log))
      → ((batch : List Record) → IsFrameOf batch (get_or frames i v).items → IsTrue mid.tells → (c : Image) → new.may_leave c → image_of c.log ≡ with_batch batch (image_of mid.seen.log))
      → Follows SameStore mid new → ((c : Image) → new.left_since new.calls c → new.may_leave c) → KeepsPartly frames old first (i + 1) new log_new
  partly_more healthy going reads acknowledged follows present = λ s noted durable upto parts is kept within cut are.
      let p = partly s noted durable upto parts is kept within cut are in
      let here = drop_parts parts frames i v low are in
      let batch = get_or parts i [] in
      let rest = subst (AreParts s p.upto_here upto) here.1 p.rest in
      record {
        upto_here = rest.0;
        le = omega (arith, p.le, rest.1);
        kept = frame_done s is mid log p.upto_here noted p.kept counts batch rest.0 rest.1 (omega (arith, rest.2, within)) rest.3
            new tells less (any batch here.0) store healthy going log_new settled (reads batch here.0) (acknowledged batch here.0) follows present;
        rest = rest.4;
      }

  pub partly_failed : log_new ≡ log → mid.faults ≤ log.opened → (IsAtEnd mid → new ≡ mid) → ((mid.faults < new.faults) ⊎ IsAtEnd new) → KeepsStill frames old first new log_new
  partly_failed same healthy stands bad = λ s noted durable upto parts is kept within cut are.
      let p = partly s noted durable upto parts is kept within cut are in
      let here = drop_parts parts frames i v low are in
      let batch = get_or parts i [] in
      let rest = subst (AreParts s p.upto_here upto) here.1 p.rest in
      let opened : log.opened ≤ mid.faults = p.kept.settled.opened in
      let even : mid.faults ≡ log.opened = omega (arith, healthy, opened) in
      let settled_log : IsSettled log new = subst (λ (l : Log). IsSettled l new) same settled in
      let after : IsKept s new log p.upto_here noted = ⊎_elim
      (λ ended. subst (λ (m : Moment). IsKept s m log p.upto_here noted) (sym (stands ended)) p.kept)
      (λ going. frame_failed s is mid log p.upto_here noted p.kept counts batch rest.0 rest.1 (omega (arith, rest.2, within)) rest.3 new tells less (any batch here.0) store even going settled_log bad)
      (at_end_or mid) in
      let fewer = kept_fewer s old new log durable p.upto_here noted kept.past p.le
      (λ same_faults going. ⊎_elim (λ rose. omega (arith, rose, same_faults, even)) (λ ended. going ended) bad) after in
      subst (λ (l : Log). IsKept s new l durable noted) (sym same) fewer

-- all frames are appended
pub partly_all : (frames : List (Vec ℕ Global)) (old new : Moment) (first log : Log) (i : ℕ) → length frames ≤ i → KeepsPartly frames old first i new log → KeepsMore frames old first new log
partly_all frames old new first log i high partly = λ s noted durable upto parts is kept within cut are.
    let p = partly s noted durable upto parts is kept within cut are in
    let rest = subst (AreParts s p.upto_here upto) (none_left parts frames i high are) p.rest in
    more_without_records s is new log p.upto_here noted p.kept upto rest.0 within rest.1

-- the end of the log when a frame more is appended
pub place_more : (frames : List (Vec ℕ Global)) (i : ℕ) (v : Vec ℕ Global) → i < length frames → (before after all : ℕ) → before + bytes_length (drop i frames) ≡ all
    → after ≡ before + length (get_or frames i v).items → after + bytes_length (drop (i + 1) frames) ≡ all
place_more frames i v low before after all was is =
    let rest : bytes_length (drop i frames) ≡ 0 + length (get_or frames i v).items + bytes_length (drop (i + 1) frames) =
    ap bytes_length (drop_more frames i v low) ∙ sum_by-append (λ (f : Vec ℕ Global). length f.items) (get_or frames i v ∷ []) (drop (i + 1) frames) in
    omega (arith, was, is, rest)
