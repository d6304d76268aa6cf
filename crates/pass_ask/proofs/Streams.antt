-- How a stream is followed, and what is judged of it.
use Rattle.std.proofs.Common.{◌≡◌, ◌⊎◌, ℕ, ◌<◌, ◌≤◌, Bool, true, false, List, [], ◌++◌, length, take, drop, refl, sym, ◌∙◌, ap, subst, inl, inr, ⊎_elim, arith, append_assoc, length-append}
use Rattle.std.specs.Prelude.{◌≢◌, IsTrue, Result, Ok, Err, IsErrAnd, IsOk, OnOk}
use Rattle.std.proofs.lemmas.Grind.{common_steps}
use Rattle.std.proofs.lemmas.List.{take-append-le}
use Rattle.pass_entry.specs.declared.record.Record.{Record}
use Rattle.pass_log.specs.declared.fault.LogFault.{LogFault}
use Rattle.pass_log.specs.Log.{LeavesStore}
use Rattle.pass_log.specs.Records.{Held, image_in, image_of}
use Rattle.pass_log.proofs.Crash.{image_long}
use Rattle.pass_log.proofs.Append.{leaves_more, leaves_none}
use Rattle.pass_outside.specs.Areas.{Image}
use Rattle.pass_outside.specs.Faults.{HasRisen, HasStayed}
use Rattle.pass_outside.specs.Moments.{Moment, Adds, IsAtEnd, IsDeviceWork}
use Rattle.pass_outside.specs.Runs.{adds_both, adds_nothing, adds_weaker, not_both}
use Rattle.pass_plain.specs.WellLogged.{IsWellLogged}
use Rattle.pass_recover.specs.Faults.{LogHas}
use Rattle.pass_status.specs.declared.status.Status.{Status}
use Rattle.pass_status.specs.declared.status.Status.TheVariants as status
use Rattle.pass_standby.specs.declared.fault.StandbyFault.{StandbyFault}
use Rattle.pass_standby.specs.declared.fault.StandbyFault.TheVariants as faults
use Rattle.pass_standby.specs.declared.standby.Fate.TheVariants as fates
use Rattle.pass_standby.specs.Logs.{end_of, HoldsStill, IsGoodLog, IsUnopened}
use Rattle.pass_standby.specs.Sending.{HoldsLogged}
use Rattle.pass_standby.specs.Standing.{Standing, Spoils, Leaves, Reads, HasEnded, log_to, told_of}
use Rattle.pass_standby.specs.Streams.{Told, HasFrames, HasSomeFrames, bytes_with, followed, told_from}
use Rattle.pass_standby.proofs.Carried.{bytes_none, bytes_then}
use Rattle.pass_standby.proofs.Coming.{followed-append}
use Rattle.pass_standby.proofs.Feeding.{some_behind, spoils_behind}
use Rattle.pass_standby.proofs.Keeping.{work_none, work_then}
use Rattle.pass_standby.proofs.Unopened.{not_good}
use Rattle.pass_ask.specs.Follows.{Comes, DoesTo, GoesOn, HasCome, HasFed, HasFollowed, HasMore, HasSomeMore, IsFirstBad, IsFollowJudged, IsFollowedOn, IsOfDevice, IsToldOf, OfRead, OfStream, Refuses, place_line, status_of_standby, with_stream}
use Rattle.pass_ask.specs.declared.following.Refusal.{Refusal}
use Rattle.pass_ask.specs.declared.following.Refusal.TheVariants as refusal

-- Nothing more came.
module _ {D : Type 0} (view : D → Moment) (s : Standing D) where
  pub goes_none : s.fate ≡ fates.Going → Leaves (view s.disk) s.list s.at → GoesOn view s [] s
  goes_none going leaves = record {
    going = going;
    told = refl;
    leaves = leaves;
    area = λ tells. sym (bytes_none (log_to (view s.disk) s.at) (told_of s) (s.begun ++ []) (told_of s) refl);
  }

  pub does_none : {F : Type 0} → (F → ⊥) → DoesTo view s [] s F
  does_none {F} never = record {
    moments = λ tells. adds_nothing (view s.disk) (λ c. HasSomeFrames (log_to (view s.disk) s.at) (told_of s) [] c.log);
    store = leaves_none (view s.disk);
    work = work_none (view s.disk) never;
  }

-- A piece was handed to a standby.
module _ {D : Type 0} (view : D → Moment) (old new : Standing D) (piece : List ℕ) where
  pub refuses : (fault : StandbyFault) → HasEnded view old piece new fault → Refuses view old piece new fault
  refuses (faults.BadStream at) h = (h.1, h.2, h.3, h.4)
  refuses faults.DiskFault h = tt
  refuses faults.NoMemory h = tt
  refuses (faults.BadLog at) h = h
  refuses (faults.Closed at) h = h

  of_device : (A : Type 0) (fault : StandbyFault) → IsOfDevice {A = A} (Err (refusal.Refused fault)) → fault ≡ faults.DiskFault
  of_device A faults.DiskFault is = refl
  of_device A (faults.BadLog at) is = absurd is
  of_device A (faults.BadStream at) is = absurd is
  of_device A (faults.Closed at) is = absurd is
  of_device A faults.NoMemory is = absurd is

  -- what it did to the disk
  pub does_piece : {X A : Type 0} (r : Result X StandbyFault) (answer : Result A Refusal)
      → (IsTrue (view old.disk).tells → Adds (view old.disk) (view new.disk) (λ c. HasSomeFrames (log_to (view old.disk) old.at) (told_of old) piece c.log)) → LeavesStore (view old.disk) (view new.disk)
      → IsDeviceWork (view old.disk) (view new.disk) (r ≡ Err faults.DiskFault) → (IsOfDevice answer → r ≡ Err faults.DiskFault) → (r ≡ Err faults.DiskFault → IsOfDevice answer)
      → DoesTo view old piece new (IsOfDevice answer)
  does_piece {X} {A} r answer moments store work there back = record {
    moments = moments;
    store = store;
    work = record { tells = work.tells; rises = work.rises; later = work.later; fault = λ is. work.fault (there is); no_fault = λ none. work.no_fault (λ is. none (back is)) };
  }

  pub device_there : {X : Type 0} (A : Type 0) (r : Result X StandbyFault) (fault : StandbyFault) → r ≡ Err fault → IsOfDevice {A = A} (Err (refusal.Refused fault)) → r ≡ Err faults.DiskFault
  device_there {X} A r fault is of = is ∙ ap (λ (e : StandbyFault). Err e) (of_device A fault of)

  pub device_back : {X : Type 0} (A : Type 0) (r : Result X StandbyFault) (fault : StandbyFault) → r ≡ Err fault → r ≡ Err faults.DiskFault → IsOfDevice {A = A} (Err (refusal.Refused fault))
  device_back {X} A r fault is disk = subst (λ (f : StandbyFault). IsOfDevice {A = A} (Err (refusal.Refused f))) (sym same) tt
    where
      same : fault ≡ faults.DiskFault
      same = err_is (sym is ∙ disk)
        where
          err_is : ◌≡◌ {A = Result X StandbyFault} (Err fault) (Err faults.DiskFault) → fault ≡ faults.DiskFault
          err_is e = cc

-- A piece of a source that a standby refused. Its answer may be of any type.
pub piece_refused : {D : Type 0} (A : Type 0) (view : D → Moment) (tells : Bool) (left rest : List ℕ) (old new : Standing D) (before after : ℕ) (piece : List ℕ) (r : Result ℕ StandbyFault)
    → (IsTrue tells → left ≡ piece ++ rest) → HasStayed before after
    → (IsTrue (view old.disk).tells → Adds (view old.disk) (view new.disk) (λ c. HasSomeFrames (log_to (view old.disk) old.at) (told_of old) piece c.log)) → LeavesStore (view old.disk) (view new.disk)
    → IsDeviceWork (view old.disk) (view new.disk) (r ≡ Err faults.DiskFault) → (fault : StandbyFault) → r ≡ Err fault → HasEnded view old piece new fault
    → HasFed {A = A} view tells left rest old new before after (Err (refusal.Refused fault))
piece_refused {D} A view tells left rest old new before after piece r parts stayed moments store work fault is ended =
    let answer : Result A Refusal = Err (refusal.Refused fault) in (
      piece,
      parts,
      (refuses view old new piece fault ended, stayed),
      does_piece view old new piece r answer moments store work (device_there view old new piece A r fault is) (device_back view old new piece A r fault is),
    )

-- the bytes that a source gave and the rest are what it had left
pub given_parts : (left rest old new : List ℕ) (n : ℕ) → n ≤ length left → new ≡ take n left ++ drop n old → rest ≡ drop n left → left ≡ take n new ++ rest
given_parts left rest old new n within moved is = grind (arith, common_steps)

-- More came behind bytes that no refusal had.
module _ {D : Type 0} (view : D → Moment) (old mid new : Standing D) (front rest : List ℕ) (first : GoesOn view old front mid) (did : DoesTo view old front mid ⊥) where
  told_behind : followed (told_of mid) rest ≡ followed (told_of old) (front ++ rest)
  told_behind = ap (λ (t : Told). followed t rest) first.told ∙ sym (followed-append (told_of old) front rest)

  abbrev kept : List ℕ
  kept = log_to (view old.disk) old.at

  none_bad : (followed (told_of old) front).bad ≡ false
  none_bad = ap (λ (t : Told). t.bad) (sym first.told)

  -- what was kept in between
  kept_mid : IsTrue (view mid.disk).tells → bytes_with (log_to (view mid.disk) mid.at) (told_of mid) rest ≡ bytes_with kept (told_of old) (front ++ rest)
  kept_mid tells =
      ap (λ (l : List ℕ). bytes_with l (told_of mid) rest) (first.area tells) ∙ ap (λ (t : Told). bytes_with (bytes_with kept (told_of old) front) t rest) first.told
      ∙ bytes_then kept (told_of old) front rest refl none_bad

  pub goes_then : (view new.disk).tells ≡ (view mid.disk).tells → GoesOn view mid rest new → GoesOn view old (front ++ rest) new
  goes_then same then = record {
    going = then.going;
    told = then.told ∙ told_behind;
    leaves = then.leaves;
    area = λ tells. then.area tells ∙ kept_mid (subst IsTrue same tells);
  }

  some_front : (log : List ℕ) → HasSomeFrames kept (told_of old) front log → HasSomeFrames kept (told_of old) (front ++ rest) log
  some_front log h =
      let n = h.0 in
      let within : n ≤ length (front ++ rest) = omega (arith, h.1, length-append front rest) in
      (n, within, subst (λ (l : List ℕ). HasFrames (followed (told_of old) l) (bytes_with kept (told_of old) l) log) (sym (take-append-le n front rest h.1)) h.2)

  some_rest : (log : List ℕ) → IsTrue (view mid.disk).tells → HasSomeFrames (log_to (view mid.disk) mid.at) (told_of mid) rest log → HasSomeFrames kept (told_of old) (front ++ rest) log
  some_rest log tells x =
      some_behind (told_of old) front rest refl none_bad kept log (subst (λ (t : Told). HasSomeFrames (bytes_with kept (told_of old) front) t rest log) first.told
      (subst (λ (l : List ℕ). HasSomeFrames l (told_of mid) rest log) (first.area tells) x))

  pub does_then : {F : Type 0} → DoesTo view mid rest new F → DoesTo view old (front ++ rest) new F
  does_then {F} then = record {
    moments = λ tells.
        let tells_mid : IsTrue (view mid.disk).tells = subst IsTrue (sym did.work.tells) tells in
        adds_both (λ c. HasSomeFrames kept (told_of old) (front ++ rest) c.log) (view old.disk) (view mid.disk) (view new.disk)
        (did.moments tells) (then.moments tells_mid) (λ c x. some_front c.log x) (λ c x. some_rest c.log tells_mid x);
    store = leaves_more (view old.disk) (view mid.disk) (view new.disk) did.work.tells did.store then.store;
    work = work_then (view old.disk) (view mid.disk) (view new.disk) did.work (λ never. never) then.work;
  }

  refuses_then : (view new.disk).tells ≡ (view mid.disk).tells → (fault : StandbyFault) → Refuses view mid rest new fault → Refuses view old (front ++ rest) new fault
  refuses_then same (faults.BadStream at) h = (
    h.0,
    spoils_behind (told_of old) front rest new.list new.at (subst (λ (t : Told). Spoils t rest new.list new.at) first.told h.1),
    h.2,
    λ tells. h.3 tells ∙ kept_mid (subst IsTrue same tells),
  )
  refuses_then same faults.DiskFault h = tt
  refuses_then same faults.NoMemory h = tt
  refuses_then same (faults.BadLog at) h = h
  refuses_then same (faults.Closed at) h = h

  stayed_as : (before between after : ℕ) → between ≡ before → HasStayed between after → HasStayed before after
  stayed_as before between after is h = subst (λ n. HasStayed n after) is h

  pub comes_then : {A : Type 0} (before between after : ℕ) (answer : Result A Refusal) → between ≡ before → (view new.disk).tells ≡ (view mid.disk).tells
      → Comes view mid rest new between after answer → Comes view old (front ++ rest) new before after answer
  comes_then {A} before between after (Ok x) is same h = (goes_then same h.0, stayed_as before between after is h.1)
  comes_then {A} before between after (Err refusal.ReadFault) is same h = (goes_then same h.0, subst (λ n. HasRisen n after) is h.1)
  comes_then {A} before between after (Err (refusal.Refused fault)) is same h = (refuses_then same fault h.0, stayed_as before between after is h.1)

-- the same where a source gave them
pub fed_then : {D A : Type 0} (view : D → Moment) (tells : Bool) (left between_left rest : List ℕ) (old mid new : Standing D) (before between after : ℕ) (answer : Result A Refusal)
    → (bytes : List ℕ) × (IsTrue tells → left ≡ bytes ++ between_left) × GoesOn view old bytes mid × DoesTo view old bytes mid ⊥ × (between ≡ before)
    → HasFed view tells between_left rest mid new between after answer → HasFed view tells left rest old new before after answer
fed_then view tells left between_left rest old mid new before between after answer (bytes, parts, goes, did, same) (more, others, comes, does) = (
  bytes ++ more,
  λ told. parts told ∙ ap (λ (l : List ℕ). bytes ++ l) (others told) ∙ sym (append_assoc bytes more rest),
  comes_then view old mid new bytes more goes did before between after answer same does.work.tells comes,
  does_then view old mid new bytes more goes did does,
)

-- the same where no refusal came
pub fed_on : {D : Type 0} (view : D → Moment) (tells : Bool) (left between_left rest : List ℕ) (old mid new : Standing D) (before between after : ℕ)
    → (bytes : List ℕ) × (IsTrue tells → left ≡ bytes ++ between_left) × GoesOn view old bytes mid × DoesTo view old bytes mid ⊥ × (between ≡ before)
    → (more : List ℕ) × (IsTrue tells → between_left ≡ more ++ rest) × (GoesOn view mid more new × HasStayed between after) × DoesTo view mid more new ⊥
    → (bytes : List ℕ) × (IsTrue tells → left ≡ bytes ++ rest) × (GoesOn view old bytes new × HasStayed before after) × DoesTo view old bytes new ⊥
fed_on view tells left between_left rest old mid new before between after (bytes, parts, goes, did, same) (more, others, (on, stayed), does) = (
  bytes ++ more,
  λ told. parts told ∙ ap (λ (l : List ℕ). bytes ++ l) (others told) ∙ sym (append_assoc bytes more rest),
  (goes_then view old mid new bytes more goes did does.work.tells on, subst (λ (n : ℕ). HasStayed n after) same stayed),
  does_then view old mid new bytes more goes did does,
)

-- the same refusal, handed on
pub fed_err : {D A B : Type 0} (view : D → Moment) (tells : Bool) (left rest : List ℕ) (old new : Standing D) (before after : ℕ) (r : Result A Refusal) (s : Result B Refusal) (why : Refusal)
    → r ≡ Err why → IsErrAnd s (λ e. e ≡ why) → HasFed view tells left rest old new before after r → HasFed view tells left rest old new before after s
fed_err view tells left rest old new before after r (Ok x) why is same fed = absurd same
fed_err {D} {A} {B} view tells left rest old new before after r (Err e) why is same fed =
    subst (λ (w : Refusal). HasFed {A = B} view tells left rest old new before after (Err w)) (sym same)
    (by why (subst (λ (x : Result A Refusal). HasFed view tells left rest old new before after x) is fed))
  where
    by : (w : Refusal) → HasFed {A = A} view tells left rest old new before after (Err w) → HasFed {A = B} view tells left rest old new before after (Err w)
    by refusal.ReadFault h = h
    by (refusal.Refused faults.DiskFault) h = h
    by (refusal.Refused (faults.BadLog at)) h = h
    by (refusal.Refused (faults.BadStream at)) h = h
    by (refusal.Refused (faults.Closed at)) h = h
    by (refusal.Refused faults.NoMemory) h = h

-- where an answer goes on, what is said of that
pub on_ok : {A : Type 0} (r : Result A Refusal) (P : Type 0) → OnOk r P → IsOk r → P
on_ok (Ok x) P said ok = said
on_ok (Err why) P said ok = absurd (cc)

-- The log with the whole frames of some bytes behind it.
pub frames_more : (log left : List ℕ) (held : Held) (bytes : List ℕ) → image_of log ≡ Ok held
    → HasFrames (followed (told_from held) bytes) (bytes_with (take held.end log) (told_from held) bytes) left → HasMore log bytes left
frames_more log left held bytes image has = record {
  image = has.image ∙ sym (ap (λ (r : Result Held LogFault). with_stream r bytes) image);
  area = λ other is. subst (λ (h : Held). take (followed (told_from h) bytes).at left ≡ bytes_with (take h.end log) (told_from h) bytes) (held_is other (sym image ∙ is)) has.bytes;
}
  where
    held_is : (other : Held) → ◌≡◌ {A = Result Held LogFault} (Ok held) (Ok other) → held ≡ other
    held_is other is = cc

-- no bytes of a stream
with_none : (r : Result Held LogFault) → with_stream r [] ≡ r
with_none (Ok held) = refl
with_none (Err fault) = refl

-- a log that stayed is one with no bytes behind it
pub still_more : (log left : List ℕ) → HoldsStill log left → HasMore log [] left
still_more log left same = record {
  image = same.image ∙ sym (with_none (image_of log));
  area = λ held is.
      let end : end_of (image_of log) ≡ held.end = ap end_of is in
      ap (λ (n : ℕ). take n left) (sym end) ∙ same.bytes ∙ ap (λ (n : ℕ). take n log) end ∙ sym (bytes_none (take held.end log) (told_from held) [] (told_from held) refl);
}

-- What is judged of a stream behind a log of well logged records.
module _ (log bytes : List ℕ) (before after : ℕ) (old new : Moment) where
  abbrev Judged : Status → Type 0
  Judged judged = IsFollowJudged log bytes before after old new judged

  -- a device call failed
  pub disk_followed : (old.faults < new.faults) ⊎ IsAtEnd new → (before < after → ⊥) → Judged (status.DiskFault old.faults new.faults)
  disk_followed failed quiet = record {
    disk_fault = λ opened now is. record {
      before = opened_is opened now is;
      after = now_is opened now is;
      risen = by opened now (opened_is opened now is) (now_is opened now is) failed;
    };
    unhidden = λ rose. refl;
    bad_log = λ at is. absurd (cc);
    unsound = (λ is. let same = is.1 in absurd (cc), λ is. absurd (is.0 old.faults new.faults refl));
    read_fault = (λ is. absurd (cc), λ is. absurd (is.0 old.faults new.faults refl));
    rose = λ more. absurd (quiet more);
    bad_stream = λ at. (λ is. absurd (cc), λ is. absurd (is.0 old.faults new.faults refl));
    done = (λ is. absurd (cc), λ is. absurd (is.0 old.faults new.faults refl));
    no_other = refl;
    stands = λ none. absurd (none old.faults new.faults refl);
  }
    where
      opened_is : (opened now : ℕ) → ◌≡◌ {A = Status} (status.DiskFault old.faults new.faults) (status.DiskFault opened now) → opened ≡ old.faults
      opened_is opened now is = cc

      now_is : (opened now : ℕ) → ◌≡◌ {A = Status} (status.DiskFault old.faults new.faults) (status.DiskFault opened now) → now ≡ new.faults
      now_is opened now is = cc

      by : (opened now : ℕ) → opened ≡ old.faults → now ≡ new.faults → (old.faults < new.faults) ⊎ IsAtEnd new → (opened < now) ⊎ IsAtEnd new
      by opened now is are (inl rose) = inl (omega (arith, is, are, rose))
      by opened now is are (inr stands) = inr stands

  module _ (still : new.faults ≡ old.faults) where
    -- the log doesn't hold well logged records
    pub log_followed : (at : ℕ) → IsFirstBad log at → (HoldsLogged log → ⊥) → (before < after → ⊥) → Judged (status.BadLog at)
    log_followed at first lost quiet = record {
      disk_fault = λ opened now is. absurd (cc);
      unhidden = λ rose. absurd (omega (arith, still, rose));
      bad_log = λ place is. subst (IsFirstBad log) (same place is) first;
      unsound = (λ is. (λ opened now fails. absurd (cc), lost), λ is. (at, refl));
      read_fault = (λ is. absurd (cc), λ is. absurd (lost is.1));
      rose = λ more. absurd (quiet more);
      bad_stream = λ place. (λ is. absurd (cc), λ is. let (held, image, logged, bad) = is.2 in absurd (lost (held, image, logged)));
      done = (λ is. absurd (cc), λ is. let (held, image, logged, fine) = is.2 in absurd (lost (held, image, logged)));
      no_other = refl;
      stands = λ none holds. absurd (lost holds);
    }
      where
        same : (place : ℕ) → ◌≡◌ {A = Status} (status.BadLog at) (status.BadLog place) → at ≡ place
        same place is = cc

    module _ (held : Held) (image : image_of log ≡ Ok held) (logged : IsWellLogged held.list) where
      abbrev Stands : Type 0
      Stands = IsTrue old.tells → (c : Image) → new.may_leave c → HasFrames (followed (told_from held) bytes) (bytes_with (take held.end log) (told_from held) bytes) c.log

      stands_so : Stands → IsTrue old.tells → (c : Image) → new.may_leave c → HasMore log bytes c.log
      stands_so leaves tells c left = frames_more log c.log held bytes image (leaves tells c left)

      -- another image of the log is the same
      same_held : (other : Held) → image_of log ≡ Ok other → held ≡ other
      same_held other holds = held_is (sym image ∙ holds)
        where
          held_is : ◌≡◌ {A = Result Held LogFault} (Ok held) (Ok other) → held ≡ other
          held_is is = cc

      same_told : (P : Told → Type 0) → OfStream log bytes P → P (followed (told_from held) bytes)
      same_told P of = let (other, holds, sound, is) = of in subst (λ (h : Held). P (followed (told_from h) bytes)) (sym (same_held other holds)) is

      not_fine : (b : Bool) → b ≡ true → b ≡ false → ⊥
      not_fine b is not = cc

      -- the source failed
      pub read_followed : HasRisen before after → (followed (told_from held) bytes).bad ≡ false → Stands → Judged status.ReadFault
      read_followed risen fine leaves = record {
        disk_fault = λ opened now is. absurd (cc);
        unhidden = λ rose. absurd (omega (arith, still, rose));
        bad_log = λ place is. absurd (cc);
        unsound = (λ is. let same = is.1 in absurd (cc), λ is. absurd (is.1 (held, image, logged)));
        read_fault = (λ is. (λ opened now fails. absurd (cc), (held, image, logged), risen), λ is. refl);
        rose = λ more. refl;
        bad_stream = λ place. (λ is. absurd (cc), λ is. absurd (is.1 risen));
        done = (λ is. absurd (cc), λ is. absurd (is.1 risen));
        no_other = refl;
        stands = λ none holds. stands_so leaves;
      }

      -- a frame of the stream is bad
      pub stream_followed : (at : ℕ) → HasStayed before after → (followed (told_from held) bytes).bad ≡ true → at ≡ (followed (told_from held) bytes).at → Stands → Judged (status.BadStream at)
      stream_followed at stayed bad at_is leaves = record {
        disk_fault = λ opened now is. absurd (cc);
        unhidden = λ rose. absurd (omega (arith, still, rose));
        bad_log = λ place is. absurd (cc);
        unsound = (λ is. let same = is.1 in absurd (cc), λ is. absurd (is.1 (held, image, logged)));
        read_fault = (λ is. absurd (cc), λ is. absurd (not_both before after stayed is.2));
        rose = λ more. absurd (omega (arith, more, stayed.0));
        bad_stream = λ place. (
          λ is. (λ opened now fails. absurd (cc), not_both before after stayed, (held, image, logged, (bad, sym (same place is) ∙ at_is))),
          λ is. ap status.BadStream (at_is ∙ sym (same_told (λ u. (u.bad ≡ true) × (place ≡ u.at)) is.2).1),
        );
        done = (λ is. absurd (cc), λ is. absurd (not_fine (followed (told_from held) bytes).bad bad (same_told (λ u. u.bad ≡ false) is.2)));
        no_other = refl;
        stands = λ none holds. stands_so leaves;
      }
        where
          same : (place : ℕ) → ◌≡◌ {A = Status} (status.BadStream at) (status.BadStream place) → at ≡ place
          same place is = cc

      -- the stream was followed to its end
      pub done_followed : HasStayed before after → (followed (told_from held) bytes).bad ≡ false → Stands → Judged status.Done
      done_followed stayed fine leaves = record {
        disk_fault = λ opened now is. absurd (cc);
        unhidden = λ rose. absurd (omega (arith, still, rose));
        bad_log = λ place is. absurd (cc);
        unsound = (λ is. let same = is.1 in absurd (cc), λ is. absurd (is.1 (held, image, logged)));
        read_fault = (λ is. absurd (cc), λ is. absurd (not_both before after stayed is.2));
        rose = λ more. absurd (omega (arith, more, stayed.0));
        bad_stream = λ place. (λ is. absurd (cc), λ is. absurd (not_fine (followed (told_from held) bytes).bad (same_told (λ u. (u.bad ≡ true) × (place ≡ u.at)) is.2).0 fine));
        done = (λ is. (λ opened now fails. absurd (cc), not_both before after stayed, (held, image, logged, fine)), λ is. refl);
        no_other = refl;
        stands = λ none holds. stands_so leaves;
      }

-- A log that doesn't hold well logged records, by its first bad frame.
pub bad_lost : (log : List ℕ) (at : ℕ) → IsFirstBad log at → HoldsLogged log → ⊥
bad_lost log at (inl (long, is)) (held, image, logged) = none held (sym (ap image_in (image_long log long)) ∙ image)
  where
    none : {e : LogFault} (h : Held) → ◌≡◌ {A = Result Held LogFault} (Err e) (Ok h) → ⊥
    none {e} h same = cc
bad_lost log at (inr (some, within, bad)) (held, image, logged) = not_good log at some within bad held image logged

-- What was opened, and what has come of it.
module _ {D : Type 0} (view : D → Moment) (tells : Bool) (left rest : List ℕ) (disk after_disk : D) (first : Standing D) (before after opened : ℕ) (judged : Status) (text : List ℕ)
    (good : IsGoodLog (view disk) first.list first.at) (none_begun : first.begun ≡ [])
    (work : IsDeviceWork (view disk) (view first.disk) ⊥)
    (moments : IsTrue (view disk).tells → Adds (view disk) (view first.disk) (λ c. (view disk).may_leave c ⊎ HoldsStill (view disk).seen.log c.log))
    (store : LeavesStore (view disk) (view first.disk))
    (first_bytes : Reads (view first.disk) first.at (log_to (view disk) first.at))
    (count : opened ≡ (view disk).faults)
    (come : HasCome view tells left rest first before after opened after_disk judged text) where
  log_told : IsTrue (view disk).tells → good.1.0 ≡ (view disk).seen.log
  log_told = good.1.1

  image : image_of good.1.0 ≡ Ok (record { list = first.list; end = first.at })
  image = good.1.2

  from : told_of first ≡ told_from (record { list = first.list; end = first.at })
  from = ap (λ (b : List ℕ). record { list = first.list; at = first.at; begun = b; bad = false }) none_begun

  first_tells : IsTrue (view disk).tells → IsTrue (view first.disk).tells
  first_tells told = subst IsTrue (sym work.tells) told

  new_tells : IsTrue (view disk).tells → IsTrue (view come.new.disk).tells
  new_tells told = subst IsTrue (sym come.fed.3.work.tells) (first_tells told)

  -- what the log had up to its end
  kept_is : IsTrue (view disk).tells → log_to (view first.disk) first.at ≡ take first.at good.1.0
  kept_is told = first_bytes (first_tells told) ∙ ap (take first.at) (sym (log_told told))

  all_kept : IsTrue (view disk).tells → bytes_with (log_to (view first.disk) first.at) (told_of first) come.fed.0
      ≡ bytes_with (take first.at good.1.0) (told_from (record { list = first.list; end = first.at })) come.fed.0
  all_kept told = ap (λ (l : List ℕ). bytes_with l (told_of first) come.fed.0) (kept_is told) ∙ ap (λ (u : Told). bytes_with (take first.at good.1.0) u come.fed.0) from

  same_faults : (view first.disk).faults ≡ (view disk).faults
  same_faults = work.no_fault (λ never. never)

  abbrev come_to : Told
  come_to = followed (told_from (record { list = first.list; end = first.at })) come.fed.0

  -- what has come, where no refusal did
  module _ (goes : GoesOn view first come.fed.0 come.new) where
    new_is : told_of come.new ≡ followed (told_from (record { list = first.list; end = first.at })) come.fed.0
    new_is = goes.told ∙ ap (λ (u : Told). followed u come.fed.0) from

    fine : (followed (told_from (record { list = first.list; end = first.at })) come.fed.0).bad ≡ false
    fine = ap (λ (u : Told). u.bad) (sym new_is)

    goes_stands : IsTrue (view disk).tells → (c : Image) → (view come.new.disk).may_leave c
        → HasFrames come_to (bytes_with (take first.at good.1.0) (told_from (record { list = first.list; end = first.at })) come.fed.0) c.log
    goes_stands told c may =
        let left = goes.leaves (new_tells told) c may in
        record {
          image = left.image ∙ ap (λ (u : Told). Ok (record { list = u.list; end = u.at })) new_is;
          bytes = ap (λ (u : Told). take u.at c.log) (sym new_is) ∙ left.bytes ∙ goes.area (new_tells told) ∙ all_kept told;
        }

  spoiled_stands : Spoils (told_of first) come.fed.0 come.new.list come.new.at → Leaves (view come.new.disk) come.new.list come.new.at
      → Reads (view come.new.disk) come.new.at (bytes_with (log_to (view first.disk) first.at) (told_of first) come.fed.0) → IsTrue (view disk).tells → (c : Image) → (view come.new.disk).may_leave c
      → HasFrames come_to (bytes_with (take first.at good.1.0) (told_from (record { list = first.list; end = first.at })) come.fed.0) c.log
  spoiled_stands spoils leaves reads told c may =
      let left = leaves (new_tells told) c may in
      let list_is : come.new.list ≡ come_to.list = spoils.list_is ∙ ap (λ (u : Told). (followed u come.fed.0).list) from in
      let at_is : come.new.at ≡ come_to.at = spoils.at_is ∙ ap (λ (u : Told). (followed u come.fed.0).at) from in
      record {
        image = left.image ∙ ap (λ (l : List Record). Ok (record { list = l; end = come.new.at })) list_is ∙ ap (λ (n : ℕ). Ok (record { list = come_to.list; end = n })) at_is;
        bytes = ap (λ (n : ℕ). take n c.log) (sym at_is) ∙ left.bytes ∙ reads (new_tells told) ∙ all_kept told;
      }

  abbrev Followed : Status → Type 0
  Followed s = HasFollowed good.1.0 come.fed.0 rest tells before after (view disk) (view come.new.disk) s text

  by_answer : (r : Result (Unit {0}) Refusal) → Comes view first come.fed.0 come.new before after r → IsDeviceWork (view first.disk) (view come.new.disk) (IsOfDevice r)
      → (IsOk r → IsTrue tells → rest ≡ []) → IsToldOf r come.new.at (length come.new.begun) opened (view come.new.disk).faults judged text → judged ≢ status.NoMemory
      → HasFollowed good.1.0 come.fed.0 rest tells before after (view disk) (view come.new.disk) judged text
  by_answer (Ok x) (goes, stayed) did end (inl (is, says)) known =
      subst (λ (s : Status). Followed s) (sym is) (record {
        by = done_followed good.1.0 come.fed.0 before after (view disk) (view come.new.disk) (did.no_fault (λ none. none) ∙ same_faults) (record { list = first.list; end = first.at }) image good.0 stayed (fine goes) (goes_stands goes);
        says = λ _. (record { list = first.list; end = first.at }, image, good.0, says ∙ ap (λ (u : Told). place_line u.at (length u.begun)) (new_is goes));
        to_end = λ _ told. end refl told;
      })
  by_answer (Ok x) comes did end (inr starved) known = absurd (known starved)
  by_answer (Err refusal.ReadFault) (goes, risen) did end is known =
      subst (λ (s : Status). Followed s) (sym is) (record {
        by = read_followed good.1.0 come.fed.0 before after (view disk) (view come.new.disk) (did.no_fault (λ none. none) ∙ same_faults) (record { list = first.list; end = first.at }) image good.0 risen (fine goes) (goes_stands goes);
        says = λ same. absurd (cc);
        to_end = λ same. absurd (cc);
      })
  by_answer (Err (refusal.Refused faults.DiskFault)) (lost, stayed) did end is known =
      subst (λ (s : Status). Followed s) (sym (is ∙ ap (λ (n : ℕ). status.DiskFault n (view come.new.disk).faults) count)) (record {
        by = disk_followed good.1.0 come.fed.0 before after (view disk) (view come.new.disk) (⊎_elim (λ more. inl (omega (arith, more, same_faults))) inr (did.fault tt)) (λ more. omega (arith, more, stayed.0));
        says = λ same. absurd (cc);
        to_end = λ same. absurd (cc);
      })
  by_answer (Err (refusal.Refused (faults.BadStream at))) ((at_is, spoils, leaves, reads), stayed) did end is known =
      subst (λ (s : Status). Followed s) (sym is) (record {
        by = stream_followed good.1.0 come.fed.0 before after (view disk) (view come.new.disk) (did.no_fault (λ none. none) ∙ same_faults) (record { list = first.list; end = first.at }) image good.0 at stayed
            (ap (λ (u : Told). (followed u come.fed.0).bad) (sym from) ∙ spoils.bad) (at_is ∙ spoils.at_is ∙ ap (λ (u : Told). (followed u come.fed.0).at) from) (spoiled_stands spoils leaves reads);
        says = λ same. absurd (cc);
        to_end = λ same. absurd (cc);
      })
  by_answer (Err (refusal.Refused (faults.BadLog at))) comes did end is known = absurd comes.0
  by_answer (Err (refusal.Refused (faults.Closed at))) comes did end is known = absurd comes.0
  by_answer (Err (refusal.Refused faults.NoMemory)) comes did end is known = absurd (known is)

  pub stream_judged : judged ≢ status.NoMemory
      → OfRead tells left rest (view disk) (λ log bytes. HasFollowed log bytes rest tells before after (view disk) (view after_disk) judged text)
  stream_judged known = (
    come.fed.0,
    come.fed.1,
    (
      good.1.0,
      log_told,
      subst (λ (d : D). HasFollowed good.1.0 come.fed.0 rest tells before after (view disk) (view d) judged text) (sym come.same)
          (by_answer come.answer come.fed.2 come.fed.3.work come.to_end (subst (λ (d : D). IsToldOf come.answer come.new.at (length come.new.begun) opened (view d).faults judged text) come.same come.told) known),
    ),
  )

  pub stream_on_disk : OfRead tells left rest (view disk) (λ log bytes. IsFollowedOn log bytes (view disk) (view after_disk))
  stream_on_disk = (
    come.fed.0,
    come.fed.1,
    (
      good.1.0,
      log_told,
      subst (λ (d : D). IsFollowedOn good.1.0 come.fed.0 (view disk) (view d)) (sym come.same) (record {
        moments = λ told. adds_both (λ c. (view disk).may_leave c ⊎ HasSomeMore good.1.0 come.fed.0 c.log) (view disk) (view first.disk) (view come.new.disk)
            (moments told) (come.fed.3.moments (first_tells told)) (λ c before_it. opened_some told c before_it) (λ c some. inr (fed_some told c.log some));
        store = leaves_more (view disk) (view first.disk) (view come.new.disk) work.tells store come.fed.3.store;
      }),
    ),
  )
    where
      opened_some : IsTrue (view disk).tells → (c : Image) → (view disk).may_leave c ⊎ HoldsStill (view disk).seen.log c.log
          → (view disk).may_leave c ⊎ HasSomeMore good.1.0 come.fed.0 c.log
      opened_some told c (inl may) = inl may
      opened_some told c (inr same) = inr (0, omega arith, subst (λ (l : List ℕ). HasMore l [] c.log) (sym (log_told told)) (still_more (view disk).seen.log c.log same))

      fed_some : IsTrue (view disk).tells → (l : List ℕ) → HasSomeFrames (log_to (view first.disk) first.at) (told_of first) come.fed.0 l → HasSomeMore good.1.0 come.fed.0 l
      fed_some told l (n, within, has) = (
        n,
        within,
        frames_more good.1.0 l (record { list = first.list; end = first.at }) (take n come.fed.0) image (subst (λ (k : List ℕ). HasFrames (followed (told_from (record { list = first.list; end = first.at })) (take n come.fed.0)) (bytes_with k (told_from (record { list = first.list; end = first.at })) (take n come.fed.0)) l) (kept_is told)
            (subst (λ (u : Told). HasFrames (followed u (take n come.fed.0)) (bytes_with (log_to (view first.disk) first.at) u (take n come.fed.0)) l) from has)),
      )

-- Nothing was opened.
module _ {D : Type 0} (view : D → Moment) (tells : Bool) (left rest : List ℕ) (disk after_disk : D) (before after opened : ℕ) (fault : StandbyFault) (judged : Status) (text : List ℕ)
    (cause : IsUnopened (view disk) fault)
    (work : IsDeviceWork (view disk) (view after_disk) (fault ≡ faults.DiskFault))
    (moments : IsTrue (view disk).tells → Adds (view disk) (view after_disk) (λ c. (view disk).may_leave c ⊎ HoldsStill (view disk).seen.log c.log))
    (store : LeavesStore (view disk) (view after_disk))
    (unread : left ≡ rest) (uncounted : after ≡ before)
    (is : judged ≡ status_of_standby (view disk).faults (view after_disk).faults fault) where
  by_fault : (f : StandbyFault) → fault ≡ f → IsUnopened (view disk) f → status_of_standby (view disk).faults (view after_disk).faults f ≢ status.NoMemory
      → LogHas (view disk) (λ log. HasFollowed log [] rest tells before after (view disk) (view after_disk) (status_of_standby (view disk).faults (view after_disk).faults f) text)
  by_fault faults.DiskFault same why known = (
    (view disk).seen.log,
    λ told. refl,
    record {
      by = disk_followed (view disk).seen.log [] before after (view disk) (view after_disk) (work.fault same) (λ more. omega (arith, more, uncounted));
      says = λ done. absurd (cc);
      to_end = λ done. absurd (cc);
    },
  )
  by_fault (faults.BadLog at) same (log, told, first) known = (
    log,
    told,
    record {
      by = log_followed log [] before after (view disk) (view after_disk) (work.no_fault (λ failed. absurd (not_disk failed))) at first (bad_lost log at first) (λ more. omega (arith, more, uncounted));
      says = λ done. absurd (cc);
      to_end = λ done. absurd (cc);
    },
  )
    where
      not_disk : fault ≡ faults.DiskFault → ⊥
      not_disk failed = let z : faults.BadLog at ≡ faults.DiskFault = sym same ∙ failed in cc
  by_fault faults.NoMemory same why known = absurd (known refl)
  by_fault (faults.BadStream at) same why known = absurd why
  by_fault (faults.Closed at) same why known = absurd why

  pub unopened_judged : judged ≢ status.NoMemory
      → OfRead tells left rest (view disk) (λ log bytes. HasFollowed log bytes rest tells before after (view disk) (view after_disk) judged text)
  unopened_judged known = (
    [],
    λ _. unread,
    subst (λ (s : Status). LogHas (view disk) (λ log. HasFollowed log [] rest tells before after (view disk) (view after_disk) s text)) (sym is)
        (by_fault fault refl cause (λ starved. known (is ∙ starved))),
  )

  pub unopened_on_disk : OfRead tells left rest (view disk) (λ log bytes. IsFollowedOn log bytes (view disk) (view after_disk))
  unopened_on_disk = (
    [],
    λ _. unread,
    (
      (view disk).seen.log,
      λ told. refl,
      record {
        moments = λ told. adds_weaker (λ c. (view disk).may_leave c ⊎ HasSomeMore (view disk).seen.log [] c.log) (view disk) (view after_disk) (moments told) (λ c some. none_more c some);
        store = store;
      },
    ),
  )
    where
      none_more : (c : Image) → (view disk).may_leave c ⊎ HoldsStill (view disk).seen.log c.log → (view disk).may_leave c ⊎ HasSomeMore (view disk).seen.log [] c.log
      none_more c (inl may) = inl may
      none_more c (inr same) = inr (0, omega arith, still_more (view disk).seen.log c.log same)

-- Nothing was done.
pub untouched_on_disk : {D : Type 0} (view : D → Moment) (tells : Bool) (left : List ℕ) (disk after : D) → after ≡ disk → OfRead tells left left (view disk) (λ log bytes. IsFollowedOn log bytes (view disk) (view after))
untouched_on_disk {D} view tells left disk after same = (
  [],
  λ told. refl,
  (
    (view disk).seen.log,
    λ told. refl,
    subst (λ (d : D). IsFollowedOn (view disk).seen.log [] (view disk) (view d)) (sym same)
        (record { moments = λ told. adds_nothing (view disk) (λ c. (view disk).may_leave c ⊎ HasSomeMore (view disk).seen.log [] c.log); store = leaves_none (view disk) }),
  ),
)
