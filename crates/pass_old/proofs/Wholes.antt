-- What a run's answer says of what was kept.
use Rattle.std.proofs.Common.{◌≡◌, ◌⊎◌, ◌∙◌, ℕ, Bool, true, false, List, inl, inr, ⊎_elim, sym, ap, subst, arith}
use Rattle.std.specs.Prelude.{◌≢◌, IsTrue}
use Rattle.pass_trace.specs.declared.limits.Scale.TheVariants.{Usual}
use Rattle.pass_entry.specs.declared.entry.Entry.{Entry}
use Rattle.pass_entry.specs.declared.objects.Node.{Node}
use Rattle.pass_entry.specs.declared.record.Record.{Record}
use Rattle.pass_entry.proofs.Variants.{ok_inside}
use Rattle.pass_log.specs.Records.{Held, image_of}
use Rattle.pass_outside.specs.Areas.{Image}
use Rattle.pass_outside.specs.Moments.{Moment}
use Rattle.pass_plain.specs.declared.start.Start.{Start}
use Rattle.pass_plain.specs.Legal.{session_of, IsLegal}
use Rattle.pass_recover.specs.declared.fault.OpenFault.{OpenFault}
use Rattle.pass_recover.specs.declared.fault.OpenFault.TheVariants as store
use Rattle.pass_recover.specs.Faults.{LogHas}
use Rattle.pass_recover.specs.Starts.{IsStartOf, HasBytes}
use Rattle.pass_plain.specs.WellLogged.{ceiling_of}
use Rattle.pass_trace.specs.TraceLines.{objects_of}
use Rattle.pass_trace.specs.Traces.{trace_of}
use Rattle.pass_status.specs.declared.status.Status.{Status}
use Rattle.pass_status.specs.declared.status.Status.TheVariants as status
use Rattle.pass_status.specs.Statuses.{status_of_opening}
use Rattle.pass_run.specs.Stored.{IsEnd, IsListOf, HasEnded}
use Rattle.pass_ask.specs.Answers.{SinkSeen}
use Rattle.pass_cli.specs.Answers.{IsRefusal, Outcome, HasRun}
use Rattle.pass_leaf.specs.declared.fault.OldFault.{OldFault}
use Rattle.pass_leaf.specs.declared.fault.OldFault.TheVariants as faults
use Rattle.pass_leaf.specs.Archives.{Archive}
use Rattle.pass_past.specs.Laws.{SameToldLaw}
use Rattle.pass_old.specs.declared.status.OldStatus.{OldStatus}
use Rattle.pass_old.specs.declared.status.OldStatus.TheVariants as old_status
use Rattle.pass_old.specs.Answers.{IsRunAnswer}
use Rattle.pass_old.specs.Retracings.{IsLike}
use Rattle.pass_old.specs.Runs.{IsOpened, IsRecovered, IsNotKept, IsKept, IsSomeKept, IsKeptAs, IsHandedOut, HasNothing, IsLost, HasRunOver, IsOldRun, IsStoredStart, HasAll}
use Rattle.pass_old.specs.Statuses.{status_of_archive}

abbrev pub is_ended : OldStatus → Bool
is_ended (old_status.Same status.Done) = true
is_ended (old_status.Same status.Stuck) = true
is_ended _ = false

abbrev pub is_unlike : OldStatus → Bool
is_unlike old_status.Unlike = true
is_unlike _ = false

abbrev nothing : Node
nothing = record { pnode = 0; version = 0 }

archive_unended : (f : OldFault) → is_ended (status_of_archive f nothing) ≡ true → ⊥
archive_unended faults.DiskFault is = absurd (cc)
archive_unended (faults.Broken opened now) is = absurd (cc)
archive_unended (faults.BadFrame at) is = absurd (cc)
archive_unended faults.NoVersion is = absurd (cc)
archive_unended faults.NoMemory is = absurd (cc)

archive_like : (f : OldFault) → is_unlike (status_of_archive f nothing) ≡ true → ⊥
archive_like faults.DiskFault is = absurd (cc)
archive_like (faults.Broken opened now) is = absurd (cc)
archive_like (faults.BadFrame at) is = absurd (cc)
archive_like faults.NoVersion is = absurd (cc)
archive_like faults.NoMemory is = absurd (cc)

opening_unended : (a b : ℕ) (f : OpenFault) → is_ended (old_status.Same (status_of_opening a b f)) ≡ true → ⊥
opening_unended a b store.DiskFault is = absurd (cc)
opening_unended a b store.NoMemory is = absurd (cc)
opening_unended a b (store.BadFrame at) is = absurd (cc)
opening_unended a b (store.BadRecord place why) is = absurd (cc)
opening_unended a b (store.Flaw place reason) is = absurd (cc)

same_like : (s : Status) → is_unlike (old_status.Same s) ≡ true → ⊥
same_like s is = absurd (cc)

refused_unended : (bytes : List ℕ) (before after : ℕ) (s : Status) → IsRefusal Usual bytes before after s → is_ended (old_status.Same s) ≡ true → ⊥
refused_unended bytes before after status.Done refusal is = refusal
refused_unended bytes before after status.Stuck refusal is = refusal
refused_unended bytes before after _ refusal is = absurd (cc)

end_of : (s : Status) → is_ended (old_status.Same s) ≡ true → IsEnd s
end_of status.Done is = tt
end_of status.Stuck is = tt
end_of _ is = absurd (cc)

end_known : (s : Status) → IsEnd s → s ≢ status.NoMemory
end_known s ended starved = subst IsEnd starved ended

-- a run that is done or stuck has kept all

module _ {A : Type 0} (view : A → Moment) (archive archived : A) (first last : Archive A) (opened : IsOpened view archive first) (out : IsHandedOut view last archived)
    (list run : List Record) (start : Start) (objects : ℕ) (history : List Entry) (ended : Status) (judged : OldStatus) (is : is_ended judged ≡ true) where
  all_of : IsKept view first last start history ended judged → HasAll view archive archived start history
  all_of k = record { first = first; last = last; opened = opened; kept = k.kept; contents = k.contents; stays = k.stays; others = k.others; handed_out = out }

  not_kept : IsNotKept first last ended judged → ⊥
  not_kept n = ⊎_elim (λ (x : (judged ≡ old_status.Same ended) × (IsEnd ended → ⊥)). x.1 (end_of ended (sym (ap is_ended x.0) ∙ is)))
      (λ (x : judged ≡ old_status.Same status.NoMemory). let z : false ≡ true = sym (ap is_ended x) ∙ is in absurd (cc)) n.is

  all_kept_of : IsKeptAs view first last list run start objects history ended judged → HasAll view archive archived start history
  all_kept_of (inl n) = absurd (not_kept n)
  all_kept_of (inr (inl u)) = let z : false ≡ true = sym (ap is_ended u.is) ∙ is in absurd (cc)
  all_kept_of (inr (inr l)) = ⊎_elim all_of (λ (s : IsSomeKept view first last start history judged). absurd (archive_unended s.fault (sym (ap is_ended (s.is nothing)) ∙ is))) l.kept

module _ {D A : Type 0} (view : D → Moment) (archive_view : A → Moment) (bytes : List ℕ) (before after : ℕ) (old new : D) (archive archived : A) (start : Start) (history : List Entry) (judged : OldStatus) (report : List ℕ) (is : is_ended judged ≡ true) where
  past_opening : (first : Archive A) → IsOpened archive_view archive first
      → (HasNothing start history × IsLost view archive_view old new first archived judged) ⊎ HasRunOver view archive_view bytes before after old new first archived start history judged report
      → (s : Start) × IsStoredStart (view old) s × HasAll archive_view archive archived s history
  past_opening first opened (inl (none, lost)) = absurd (opening_unended (view old).faults (view new).faults lost.fault (sym (ap is_ended lost.is) ∙ is))
  past_opening first opened (inr r) =
      let o = r.recovered in
      (r.recovered_start, record { list = r.list; logged = o.logged; told = o.told; bytes = o.bytes }, all_kept_of archive_view archive archived first r.last opened r.archive r.list r.out.list r.recovered_start (objects_of (trace_of bytes)) history r.ended judged is r.kept)

  pub all_kept : IsOldRun view archive_view bytes before after old new archive archived start history judged report → (s : Start) × IsStoredStart (view old) s × HasAll archive_view archive archived s history
  all_kept (inl (none, r)) = absurd (refused_unended bytes before after r.refusal r.cause (sym (ap is_ended r.is) ∙ is))
  all_kept (inr (inl (none, r))) = absurd (archive_unended r.fault (sym (ap is_ended (r.is nothing)) ∙ is))
  all_kept (inr (inr p)) = past_opening p.first p.opened p.run

-- over a disk that tells, what was run is what the store told

record SaysSame (old mid : Moment) (list run : List Record) (opened start : Start) : Type 0 where
  list_is : list ≡ run
  legal : (objects : ℕ) (history : List Entry) → IsLegal (session_of opened objects) history → IsLegal (session_of start objects) history

says_same : SameToldLaw → (old mid : Moment) (list run : List Record) (opened start : Start) → IsTrue old.tells → IsRecovered old mid list start → LogHas mid (IsListOf run) → IsStartOf run opened
    → (IsTrue mid.tells → HasBytes run mid.seen.store opened) → SaysSame old mid list run opened start
says_same law old mid list run opened start tells r (bytes, read, listed) told there =
    let (first, first_read, (held, image, list_is)) = r.logged in
    let mid_tells : IsTrue mid.tells = r.tells ∙ tells in
    let same : first ≡ bytes = first_read tells ∙ ap (λ (i : Image). i.log) (sym r.reads) ∙ sym (read mid_tells) in
    let one : held ≡ listed.held = ok_inside held listed.held (sym image ∙ ap image_of same ∙ listed.image) in
    let lists : list ≡ run = sym list_is ∙ ap (λ (h : Held). h.list) one ∙ listed.list_is in
    record {
      list_is = lists;
      legal = law list old.seen.store opened start
          (subst (λ l. IsStartOf l opened) (sym lists) told)
          (subst (λ l. HasBytes l old.seen.store opened) (sym lists) (subst (λ (i : Image). HasBytes run i.store opened) r.reads (there mid_tells)))
          r.told (r.bytes tells);
    }

module _ (law : SameToldLaw) {D : Type 0} (view : D → Moment) (bytes : List ℕ) (before after : ℕ) (old mid new : D) (list : List Record) (start : Start) (out : Outcome) (history : List Entry) (ended : Status) (report : List ℕ)
    (tells : IsTrue (view old).tells) (recovered : IsRecovered (view old) (view mid) list start) (end : IsEnd ended) (history_is : out.history ≡ history) (run : HasRun view Usual bytes before after mid new out ended report) where
  abbrev Whole : Type 0
  Whole = HasEnded (view mid).calls (view mid) (view new) (trace_of bytes) out.list out.start out.history out.syncs ended report

  like_of : Whole → IsLike list out.list start (objects_of (trace_of bytes)) history
  like_of w =
      let s = says_same law (view old) (view mid) list out.list w.opened start tells recovered w.opening.logged w.opening.told w.opening.bytes in
      let n = objects_of (trace_of bytes) in
      let room = w.recorded.sound.room in
      let ceilings : w.opened.ceiling ≡ start.ceiling = w.opening.told.ceiling ∙ ap (λ l. ceiling_of l) (sym s.list_is) ∙ sym recovered.told.ceiling in
      record {
        list = s.list_is;
        sound = recovered.sound n (omega arith) (omega (arith, room, ceilings));
        legal = subst (λ (h : List Entry). IsLegal (session_of start n) h) history_is (s.legal n out.history w.recorded.run.legal);
      }

  pub is_like : IsLike list out.list start (objects_of (trace_of bytes)) history
  is_like = like_of (run.whole end)

module _ (law : SameToldLaw) {D A : Type 0} (view : D → Moment) (archive_view : A → Moment) (bytes : List ℕ) (before after : ℕ) (old new : D) (archive archived : A) (start : Start) (history : List Entry) (judged : OldStatus) (report : List ℕ)
    (tells : IsTrue (view old).tells) (is : is_unlike judged ≡ true) where
  not_unkept : {first last : Archive A} (ended : Status) → IsNotKept first last ended judged → ⊥
  not_unkept ended n = ⊎_elim (λ (x : (judged ≡ old_status.Same ended) × (IsEnd ended → ⊥)). same_like ended (sym (ap is_unlike x.0) ∙ is))
      (λ (x : judged ≡ old_status.Same status.NoMemory). same_like status.NoMemory (sym (ap is_unlike x) ∙ is)) n.is

  not_like : {first last : Archive A} {s : Start} (ended : Status) → IsKept archive_view first last s history ended judged ⊎ IsSomeKept archive_view first last s history judged → ⊥
  not_like ended (inl k) = same_like ended (sym (ap is_unlike k.is) ∙ is)
  not_like ended (inr k) = archive_like k.fault (sym (ap is_unlike (k.is nothing)) ∙ is)

  by_kept : (first : Archive A) (r : HasRunOver view archive_view bytes before after old new first archived start history judged report)
      → IsKeptAs archive_view first r.last r.list r.out.list r.recovered_start (objects_of (trace_of bytes)) history r.ended judged → ⊥
  by_kept first r (inl n) = not_unkept r.ended n
  by_kept first r (inr (inl u)) =
      u.differs (is_like law view bytes before after old r.mid new r.list r.recovered_start r.out history r.ended report tells r.recovered u.ended_is r.history_is (r.run (end_known r.ended u.ended_is)))
  by_kept first r (inr (inr l)) = not_like r.ended l.kept

  behind_opening : (first : Archive A)
      → (HasNothing start history × IsLost view archive_view old new first archived judged) ⊎ HasRunOver view archive_view bytes before after old new first archived start history judged report → ⊥
  behind_opening first (inl (none, lost)) = same_like (status_of_opening (view old).faults (view new).faults lost.fault) (sym (ap is_unlike lost.is) ∙ is)
  behind_opening first (inr r) = by_kept first r r.kept

  pub never_unlike : IsOldRun view archive_view bytes before after old new archive archived start history judged report → ⊥
  never_unlike (inl (none, r)) = same_like r.refusal (sym (ap is_unlike r.is) ∙ is)
  never_unlike (inr (inl (none, r))) = archive_like r.fault (sym (ap is_unlike (r.is nothing)) ∙ is)
  never_unlike (inr (inr p)) = behind_opening p.first p.run

-- the same of what was answered

by_ended : (answered : OldStatus) → (answered ≡ old_status.Same status.Done) ⊎ (answered ≡ old_status.Same status.Stuck) → is_ended answered ≡ true
by_ended answered (inl done) = ap is_ended done
by_ended answered (inr stuck) = ap is_ended stuck

judged_ended : (answered judged : OldStatus) → is_ended answered ≡ true → (answered ≡ judged) ⊎ (answered ≡ old_status.Same status.WriteFault) → is_ended judged ≡ true
judged_ended answered judged is (inl same) = sym (ap is_ended same) ∙ is
judged_ended answered judged is (inr failed) = let z : false ≡ true = sym (ap is_ended failed) ∙ is in absurd (cc)

judged_unlike : (answered judged : OldStatus) → answered ≡ old_status.Unlike → (answered ≡ judged) ⊎ (answered ≡ old_status.Same status.WriteFault) → is_unlike judged ≡ true
judged_unlike answered judged is (inl same) = ap is_unlike (sym same ∙ is)
judged_unlike answered judged is (inr failed) = let z : old_status.Same status.WriteFault ≡ old_status.Unlike = sym failed ∙ is in absurd (cc)

known_ended : (answered : OldStatus) → is_ended answered ≡ true → answered ≢ old_status.Same status.NoMemory
known_ended answered is starved = let z : false ≡ true = sym (ap is_ended starved) ∙ is in cc

known_unlike : (answered : OldStatus) → answered ≡ old_status.Unlike → answered ≢ old_status.Same status.NoMemory
known_unlike answered is starved = let z : old_status.Same status.NoMemory ≡ old_status.Unlike = sym starved ∙ is in cc

module _ {D A : Type 0} (view : D → Moment) (archive_view : A → Moment) (bytes : List ℕ) (before after : ℕ) (sink : SinkSeen) (old new : D) (archive archived : A) (start : Start) (history : List Entry) (answered : OldStatus)
    (r : IsRunAnswer view archive_view bytes before after sink old new archive archived start history answered) where
  pub answer_kept : (answered ≡ old_status.Same status.Done) ⊎ (answered ≡ old_status.Same status.Stuck) → (s : Start) × IsStoredStart (view old) s × HasAll archive_view archive archived s history
  answer_kept ended =
      let is = by_ended answered ended in
      all_kept view archive_view bytes before after old new archive archived start history r.judged r.report (judged_ended answered r.judged is (r.written (known_ended answered is)).stands) r.by

  pub answer_like : SameToldLaw → answered ≡ old_status.Unlike → IsTrue (view old).tells → ⊥
  answer_like law is tells =
      never_unlike law view archive_view bytes before after old new archive archived start history r.judged r.report tells (judged_unlike answered r.judged is (r.written (known_unlike answered is)).stands) r.by
