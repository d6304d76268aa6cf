-- What is judged, from what was read and run.
use Rattle.std.proofs.Common.{◌≡◌, ℕ, List, [], ◌++◌, refl, ap, sym, ◌∙◌, subst, ◌⊎◌, inl, inr, Bool, true, false, append-nil, arith}
use Rattle.std.specs.Prelude.{◌≢◌, Option, Some, None, Ok, Err, IsTrue}
use Rattle.std.proofs.lemmas.Option.{none-some}
use Rattle.pass_outside.specs.Faults.{HasRisen}
use Rattle.pass_outside.specs.Moments.{Moment}
use Rattle.pass_recover.specs.declared.fault.OpenFault.{OpenFault}
use Rattle.pass_recover.specs.Faults.{LogHas}
use Rattle.pass_trace.specs.declared.limits.Scale.{Scale}
use Rattle.pass_trace.specs.declared.trace.Trace.{Trace}
use Rattle.pass_trace.specs.declared.trace.TraceLine.{TraceLine}
use Rattle.pass_trace.specs.declared.trace.TraceReason.{TraceReason}
use Rattle.pass_trace.specs.Traces.{trace_of, IsTraceText, IsFirstFault}
use Rattle.pass_trace.proofs.Faults.{not_text-from_fault, same_fault}
use Rattle.pass_status.specs.declared.status.Status.{Status}
use Rattle.pass_status.specs.declared.status.Status.TheVariants as status
use Rattle.pass_trace.specs.Lines.{is_too_long}
use Rattle.pass_run.specs.Stored.{session_fault, IsStoreJudged, IsEnd, IsOfDisk, IsHeldBack, IsOverStore, HasEnded}
use Rattle.pass_ask.specs.Answers.{HasFailed}
use Rattle.pass_cli.specs.Answers.{OfBytes, IsTraced, IsRefusal, IsTraceRead, IsRunJudged, Outcome, IsNothing, IsRefused, IsReplayed, IsUnwritten, HasRun, comes_before, ends_run}
use Rattle.pass_run.proofs.Moved.{alone_untouched, leaves_untouched, refused_untouched}
use Rattle.pass_trace.proofs.TooLong.{too_long_is_none, too_long_stays}
use Rattle.pass_entry.proofs.Lists.{some_is}

-- what was read of a source

-- a text that is a trace was read to its end
pub trace_read : (scale : Scale) (tells : Bool) (text left rest : List ℕ) (before after : ℕ) (trace : Trace) → ¬ HasRisen before after
    → (IsTrue tells → left ≡ text ++ rest) → (IsTrue tells → is_too_long scale text ≡ false → rest ≡ []) → IsTraceText scale text → trace.lines.items ≡ trace_of text
    → OfBytes tells left (λ bytes. IsTraceRead scale bytes before after (Ok trace))
trace_read scale tells text left rest before after trace unfailed front whole is same =
    (text, λ t. sym (front t ∙ ap (λ (r : List ℕ). text ++ r) (whole t (short (is_too_long scale text) refl)) ∙ append-nil text), (record { unfailed = unfailed; text = is }, same))
  where
    short : (long : Bool) → is_too_long scale text ≡ long → is_too_long scale text ≡ false
    short true long = absurd (too_long_is_none scale text long is)
    short false long = long

-- the first fault of what was read is that of all bytes
fault_goes : (scale : Scale) (text rest : List ℕ) (line : ℕ) (why : TraceReason) (long : Bool) → is_too_long scale text ≡ long → (is_too_long scale text ≡ false → rest ≡ []) → IsFirstFault scale text line why
    → IsFirstFault scale (text ++ rest) line why
fault_goes scale text rest line why true long none first = too_long_stays scale text rest long line why first
fault_goes scale text rest line why false short none first =
    subst (λ (t : List ℕ). IsFirstFault scale t line why) (sym (ap (λ (r : List ℕ). text ++ r) (none short) ∙ append-nil text)) first

pub fault_read : (scale : Scale) (tells : Bool) (text left rest : List ℕ) (before after line : ℕ) (why : TraceReason) → ¬ HasRisen before after
    → (IsTrue tells → left ≡ text ++ rest) → (IsTrue tells → is_too_long scale text ≡ false → rest ≡ []) → IsFirstFault scale text line why
    → OfBytes tells left (λ bytes. IsTraceRead scale bytes before after (Err (status.BadTrace line why)))
fault_read scale false text left rest before after line why unfailed front whole first = (text, λ t. absurd (cc), (unfailed, first))
fault_read scale true text left rest before after line why unfailed front whole first =
    (text ++ rest, λ t. sym (front t), (unfailed, fault_goes scale text rest line why (is_too_long scale text) refl (whole refl) first))

-- small facts

store_is : (a b : OpenFault) → status.BadStore a ≡ status.BadStore b → a ≡ b
store_is a b same = cc

opened_is : (a b opened now : ℕ) → status.DiskFault a b ≡ status.DiskFault opened now → a ≡ opened
opened_is a b opened now same = cc

now_is : (a b opened now : ℕ) → status.DiskFault a b ≡ status.DiskFault opened now → b ≡ now
now_is a b opened now same = cc

-- what is judged without a run

module _ (scale : Scale) (bytes : List ℕ) (before after : ℕ) (log : List ℕ) (m : Moment) where
  abbrev Refused : Status → Type 0
  Refused judged = IsRunJudged scale bytes before after log m m judged

  pub refusal_judged : (judged : Status) → judged ≢ status.NoMemory → IsRefusal scale bytes before after judged → Refused judged
  refusal_judged status.ReadFault known rose = record {
    read_fault = (λ is. rose, λ is. refl);
    bad_trace = λ line why. (λ is. absurd (cc), λ is. absurd (is.0 rose));
    disk_fault = λ opened now is. absurd (cc);
    unhidden = λ runs risen. absurd (runs.unfailed rose);
    bad_store = λ fault. (λ is. absurd (cc), λ is. absurd (is.0.unfailed rose));
    ended = (λ is. absurd is, λ is. absurd (is.0.unfailed rose));
    no_other = refl;
  }
  refusal_judged (status.BadTrace line why) known (unfailed, first) = record {
    read_fault = (λ is. absurd (cc), λ is. absurd (unfailed is));
    bad_trace = λ other another. (λ is. (unfailed, moved other another is), λ is. same other another is.1);
    disk_fault = λ opened now is. absurd (cc);
    unhidden = λ runs risen. absurd (not_text-from_fault scale bytes line why first runs.text);
    bad_store = λ fault. (λ is. absurd (cc), λ is. absurd (not_text-from_fault scale bytes line why first is.0.text));
    ended = (λ is. absurd is, λ is. absurd (not_text-from_fault scale bytes line why first is.0.text));
    no_other = refl;
  }
    where
      moved : (other : ℕ) (another : TraceReason) → status.BadTrace line why ≡ status.BadTrace other another → IsFirstFault scale bytes other another
      moved other another is =
          let place : line ≡ other = cc in
          let reason : why ≡ another = cc in
          subst (λ (r : TraceReason). IsFirstFault scale bytes other r) reason (subst (λ n. IsFirstFault scale bytes n why) place first)

      same : (other : ℕ) (another : TraceReason) → IsFirstFault scale bytes other another → status.BadTrace line why ≡ status.BadTrace other another
      same other another is =
          let both = same_fault scale bytes line other why another first is in
          ap (λ n. status.BadTrace n why) both.0 ∙ ap (λ (r : TraceReason). status.BadTrace other r) both.1
  refusal_judged status.NoMemory known is = absurd (known refl)
  refusal_judged _ known is = absurd is

-- the disk is as it was
pub unwritten : (m : Moment) → IsUnwritten m m
unwritten m = record { alone = alone_untouched m; since = leaves_untouched m }

pub still_unwritten : {D : Type 0} (view : D → Moment) (old new : D) → new ≡ old → IsUnwritten (view old) (view new)
still_unwritten view old new same = subst (λ d. IsUnwritten (view old) (view d)) (sym same) (unwritten (view old))

-- a refused run
pub refusal_run : (scale : Scale) {D : Type 0} (view : D → Moment) (bytes : List ℕ) (before after : ℕ) (disk : D) (out : Outcome) (judged : Status) (report : List ℕ) → judged ≢ status.NoMemory
    → IsRefusal scale bytes before after judged → IsNothing out → HasRun view scale bytes before after disk disk out judged report
refusal_run scale view bytes before after disk out judged report known refusal nothing = record {
  log = (view disk).seen.log;
  logged = λ tells. refl;
  by = refusal_judged scale bytes before after (view disk).seen.log (view disk) judged known refusal;
  untouched = λ stays. refl;
  refused = λ comes. alone;
  recorded = inl alone;
  whole = λ ends. absurd (no_end judged refusal ends);
}
  where
    no_end : (s : Status) → IsRefusal scale bytes before after s → IsEnd s → ⊥
    no_end status.Done is ends = is
    no_end status.Stuck is ends = is
    no_end _ is ends = ends

    alone : IsRefused (view disk) (view disk) judged out
    alone = refused_untouched (view disk) judged out.list out.start out.history out.syncs (no_end judged refusal) nothing

-- what is judged by a run

module _ (scale : Scale) (bytes : List ℕ) (before after : ℕ) (old new : Moment) (traced : IsTraced scale bytes before after) where
  abbrev Judged : List ℕ → Status → Type 0
  Judged log judged = IsRunJudged scale bytes before after log old new judged

  no_fault : (line : ℕ) (why : TraceReason) → IsFirstFault scale bytes line why → ⊥
  no_fault line why first = not_text-from_fault scale bytes line why first traced.text

  disk_judged : (log : List ℕ) (a b : ℕ) → HasFailed old new a b → Judged log (status.DiskFault a b)
  disk_judged log a b failed = record {
    read_fault = (λ is. absurd (cc), λ is. absurd (traced.unfailed is));
    bad_trace = λ line why. (λ is. absurd (cc), λ is. absurd (no_fault line why is.1));
    disk_fault = λ opened now is. (traced, moved opened now (opened_is a b opened now is) (now_is a b opened now is));
    unhidden = λ runs risen. ap (λ n. status.DiskFault n b) failed.before ∙ ap (λ n. status.DiskFault old.faults n) failed.after;
    bad_store = λ fault. (λ is. absurd (cc), λ is. absurd (is.1 a b refl));
    ended = (λ is. absurd is, λ is. absurd (is.1 a b refl));
    no_other = refl;
  }
    where
      moved : (opened now : ℕ) → a ≡ opened → b ≡ now → HasFailed old new opened now
      moved opened now same also = subst (λ n. HasFailed old new opened n) also (subst (λ n. HasFailed old new n b) same failed)

  store_judged : (log : List ℕ) (fault : OpenFault) → new.faults ≡ old.faults → session_fault log ≡ Some fault → Judged log (status.BadStore fault)
  store_judged log fault still has = record {
    read_fault = (λ is. absurd (cc), λ is. absurd (traced.unfailed is));
    bad_trace = λ line why. (λ is. absurd (cc), λ is. absurd (no_fault line why is.1));
    disk_fault = λ opened now is. absurd (cc);
    unhidden = λ runs risen. absurd (omega (arith, still, risen));
    bad_store = λ other. (λ is. (traced, λ opened now fails. absurd (cc), has ∙ ap Some (store_is fault other is)), λ is. ap status.BadStore (some_is fault other (sym has ∙ is.2)));
    ended = (λ is. absurd is, λ is. absurd (none-some fault (sym is.2 ∙ has)));
    no_other = refl;
  }

  end_judged : (log : List ℕ) (judged : Status) → IsEnd judged → new.faults ≡ old.faults → session_fault log ≡ None → Judged log judged
  end_judged log status.Done is still none = record {
    read_fault = (λ is. absurd (cc), λ is. absurd (traced.unfailed is));
    bad_trace = λ line why. (λ is. absurd (cc), λ is. absurd (no_fault line why is.1));
    disk_fault = λ opened now is. absurd (cc);
    unhidden = λ runs risen. absurd (omega (arith, still, risen));
    bad_store = λ other. (λ is. absurd (cc), λ is. absurd (none-some other (sym none ∙ is.2)));
    ended = (λ is. (traced, λ opened now fails. absurd (cc), none), λ is. tt);
    no_other = refl;
  }
  end_judged log status.Stuck is still none = record {
    read_fault = (λ is. absurd (cc), λ is. absurd (traced.unfailed is));
    bad_trace = λ line why. (λ is. absurd (cc), λ is. absurd (no_fault line why is.1));
    disk_fault = λ opened now is. absurd (cc);
    unhidden = λ runs risen. absurd (omega (arith, still, risen));
    bad_store = λ other. (λ is. absurd (cc), λ is. absurd (none-some other (sym none ∙ is.2)));
    ended = (λ is. (traced, λ opened now fails. absurd (cc), none), λ is. tt);
    no_other = refl;
  }
  end_judged log _ is still none = absurd is

-- what the run of a trace has answered

pub record Ran {D : Type 0} (view : D → Moment) (old new : D) (lines : List TraceLine) (out : Outcome) (judged : Status) (report : List ℕ) : Type 0 where
  pub disk_fault : (opened now : ℕ) → judged ≡ status.DiskFault opened now → HasFailed (view old) (view new) opened now
  pub no_fault : (IsOfDisk judged → ⊥) → (view new).faults ≡ (view old).faults
  pub by_log : (IsOfDisk judged → ⊥) → LogHas (view old) (λ log. IsStoreJudged (session_fault log) judged)
  pub bad_store : (fault : OpenFault) → judged ≡ status.BadStore fault → IsRefused (view old) (view new) judged out
  pub recorded : IsRefused (view old) (view new) judged out
      ⊎ (IsHeldBack (view old) (view new) lines judged out.list out.start out.history out.syncs ⊎ IsOverStore (view old).calls (view old) (view new) lines out.list out.start out.history out.syncs)
  pub ended : IsEnd judged → HasEnded (view old).calls (view old) (view new) lines out.list out.start out.history out.syncs judged report

-- and what is judged by it
module _ (scale : Scale) {D : Type 0} (view : D → Moment) (bytes : List ℕ) (before after : ℕ) (old new : D) (out : Outcome) (judged : Status) (report : List ℕ) (traced : IsTraced scale bytes before after)
    (r : Ran view old new (trace_of bytes) out judged report) where
  abbrev Goal : Type 0
  Goal = HasRun view scale bytes before after old new out judged report

  with_log : (log : List ℕ) → (IsTrue (view old).tells → log ≡ (view old).seen.log) → (s : Status) → judged ≡ s → IsRunJudged scale bytes before after log (view old) (view new) s
      → (comes_before s ≡ true → IsRefused (view old) (view new) judged out) → Goal
  with_log log logged s is by refused = record {
    log = log;
    logged = logged;
    by = subst (λ (t : Status). IsRunJudged scale bytes before after log (view old) (view new) t) (sym is) by;
    untouched = λ stops. absurd (stops traced);
    refused = λ comes. refused (sym (ap comes_before is) ∙ comes);
    recorded = r.recorded;
    whole = r.ended;
  }

  of_store : (log : List ℕ) → (IsTrue (view old).tells → log ≡ (view old).seen.log) → (view new).faults ≡ (view old).faults → (found : Option OpenFault) → session_fault log ≡ found
      → IsStoreJudged found judged → Goal
  of_store log logged still (Some fault) has is =
      with_log log logged (status.BadStore fault) is (store_judged scale bytes before after (view old) (view new) traced log fault still has) (λ comes. r.bad_store fault is)
  of_store log logged still None has (inl is) =
      with_log log logged status.Done is (end_judged scale bytes before after (view old) (view new) traced log status.Done tt still has) (λ comes. absurd (cc))
  of_store log logged still None has (inr is) =
      with_log log logged status.Stuck is (end_judged scale bytes before after (view old) (view new) traced log status.Stuck tt still has) (λ comes. absurd (cc))

  of_log : (IsOfDisk judged → ⊥) → Goal
  of_log not_disk = let (log, logged, is) = r.by_log not_disk in of_store log logged (r.no_fault not_disk) (session_fault log) refl is

  by_status : (s : Status) → judged ≡ s → Goal
  by_status (status.DiskFault a b) is =
      with_log (view old).seen.log (λ tells. refl) (status.DiskFault a b) is (disk_judged scale bytes before after (view old) (view new) traced (view old).seen.log a b (r.disk_fault a b is)) (λ comes. absurd (cc))
  by_status _ is = of_log (λ disk. subst IsOfDisk is disk)

pub ran_run : (scale : Scale) {D : Type 0} (view : D → Moment) (bytes : List ℕ) (before after : ℕ) (old new : D) (lines : List TraceLine) (out : Outcome) (judged : Status) (report : List ℕ)
    → IsTraced scale bytes before after → lines ≡ trace_of bytes → Ran view old new lines out judged report → HasRun view scale bytes before after old new out judged report
ran_run scale view bytes before after old new lines out judged report traced same ran =
    by_status scale view bytes before after old new out judged report traced (subst (λ (ls : List TraceLine). Ran view old new ls out judged report) same ran) judged refl

-- a status that a run may end with isn't one of the sink
pub no_write : (s : Status) → ends_run s ≡ true → s ≢ status.WriteFault
no_write s ends is = let z : true ≡ false = sym ends ∙ ap ends_run is in cc

-- what a replay hands out, by the status that is answered
pub replayed_as : (old : Moment) (bytes : List ℕ) (out : Outcome) (judged answered : Status) → (answered ≢ status.NoMemory → (answered ≡ judged) ⊎ (answered ≡ status.WriteFault)) → IsReplayed old bytes out judged
    → IsReplayed old bytes out answered
replayed_as old bytes out judged answered stands (inl none) = inl none
replayed_as old bytes out judged answered stands (inr r) = inr (record {
  opened = r.opened;
  opening = r.opening;
  replay = r.replay;
  whole = λ end. r.whole (at_end end (stands (λ starved. subst IsEnd starved end)));
})
  where
    at_end : IsEnd answered → (answered ≡ judged) ⊎ (answered ≡ status.WriteFault) → IsEnd judged
    at_end end (inl same) = subst IsEnd same end
    at_end end (inr failed) = absurd (subst IsEnd failed end)
