-- The end of a run with its report, for which memory may be refused.
use Rattle.std.proofs.Common.{◌≡◌, ◌⊎◌, ℕ, List, [], Vec, Global, sym, ◌∙◌, subst, inl, inr, ⊎_elim}
use Rattle.std.specs.Prelude.{◌≢◌}
use Rattle.pass_outside.specs.Moments.{Moment}
use Rattle.pass_plain.specs.declared.start.Start.{Start}
use Rattle.pass_recover.specs.Faults.{LogHas}
use Rattle.pass_report.specs.Reports.{IsLegalFrom, IsRunFrom, report_of}
use Rattle.pass_plain.specs.Sessions.{Session}
use Rattle.pass_trace.specs.TraceLines.{plain_trace, session_of_trace}
use Rattle.pass_trace.specs.declared.trace.TraceLine.{TraceLine}
use Rattle.pass_run.specs.Ends.{EndsAs}
use Rattle.pass_run.specs.declared.ending.RunEnd.{RunEnd}
use Rattle.pass_run.specs.declared.order.Order.{Order}
use Rattle.pass_run.specs.Orders.{IsReplayedOver}
use Rattle.pass_status.specs.declared.status.Status.{Status}
use Rattle.pass_status.specs.declared.status.Status.TheVariants as status
use Rattle.pass_run.specs.OpenedRuns.{IsHandedOut, IsRunOver, IsReportedOver}
use Rattle.pass_run.specs.Stored.{session_fault, IsStoreJudged, IsEnd, IsOfDisk, IsRefusedOpening, IsHeldBack, IsOverStore, IsUnopened, HasEnded}

module _ {D : Type 0} (view : D → Moment) (old : Moment) (lines : List TraceLine) (order : Order) (e : RunEnd D) (over : IsRunOver view old lines order e) where
  -- a run that came to its end has a legal history
  pub legal : IsEnd e.status → (session : Session) × IsLegalFrom e.start e.history.items session
  legal end =
      let h = over.ended.1 end in
      (session_of_trace h.opened lines, record { same = h.opening.outline; sound = h.recorded.sound; legal = h.recorded.run.legal })

  module _ (s : Status) (report : Vec ℕ Global) (status_is : (s ≡ e.status) ⊎ (IsEnd e.status × (s ≡ status.NoMemory)))
      (made : IsEnd s → (full : Start) → IsRunFrom e.start e.history.items lines full → report.items ≡ report_of full e.history.items lines)
      (no_report : (IsEnd s → ⊥) → report.items ≡ []) where
    kept : s ≢ status.NoMemory → s ≡ e.status
    kept some = ⊎_elim (λ same. same) (λ (starved : IsEnd e.status × (s ≡ status.NoMemory)). absurd (some starved.1)) status_is

    of_disk : (opened now : ℕ) → s ≡ status.DiskFault opened now → e.status ≡ status.DiskFault opened now
    of_disk opened now is = sym (kept (λ starved. let z : status.NoMemory ≡ status.DiskFault opened now = sym starved ∙ is in cc)) ∙ is

    quiet : s ≡ e.status → (IsOfDisk s → ⊥) → IsOfDisk e.status → ⊥
    quiet same other is = other (subst IsOfDisk (sym same) is)

    refused : s ≡ e.status → IsRefusedOpening old (view e.disk) e.status e.list.items e.start e.history.items e.syncs.items
        → IsRefusedOpening old (view e.disk) s e.list.items e.start e.history.items e.syncs.items
    refused same is = subst (λ (t : Status). IsRefusedOpening old (view e.disk) t e.list.items e.start e.history.items e.syncs.items) (sym same) is

    held : s ≡ e.status → IsHeldBack old (view e.disk) lines e.status e.list.items e.start e.history.items e.syncs.items
        → IsHeldBack old (view e.disk) lines s e.list.items e.start e.history.items e.syncs.items
    held same is = subst (λ (t : Status). IsHeldBack old (view e.disk) lines t e.list.items e.start e.history.items e.syncs.items) (sym same) is

    same_unless : {A : Type 0} → (IsEnd e.status → ⊥) → (s ≡ e.status → A) → A
    same_unless unended by = ⊎_elim by (λ (starved : IsEnd e.status × (s ≡ status.NoMemory)). absurd (unended starved.0)) status_is

    abbrev Out : Type 0
    Out = IsHandedOut old (view e.disk) lines (record e { status = s; report = report })

    recorded : Out
    recorded = ⊎_elim
        (λ (is : IsRefusedOpening old (view e.disk) e.status e.list.items e.start e.history.items e.syncs.items). same_unless {A = Out} is.unended (λ same. inl (refused same is)))
        (⊎_elim (λ (is : IsHeldBack old (view e.disk) lines e.status e.list.items e.start e.history.items e.syncs.items). same_unless {A = Out} is.unended (λ same. inr (inl (held same is))))
        (λ (is : IsOverStore old.calls old (view e.disk) lines e.list.items e.start e.history.items e.syncs.items). inr (inr is))) over.recorded

    ended : IsEnd s → HasEnded old.calls old (view e.disk) lines e.list.items e.start e.history.items e.syncs.items s report.items
    ended end =
        let same = kept (λ starved. subst IsEnd starved end) in
        let h = over.ended.1 (subst IsEnd same end) in
        record {
          opened = h.opened;
          opening = h.opening;
          recorded = h.recorded;
          reported = record {
            ends = subst (EndsAs (session_of_trace h.opened lines) (plain_trace lines) e.history.items) (sym same) h.reported.ends;
            report = made end h.opened (record { same = h.opening.outline; sound = h.recorded.sound; run = h.recorded.run });
          };
          stored = h.stored;
          settled = h.settled;
          numbered = h.numbered;
        }

    pub reported_over : IsReportedOver view old lines order (record e { status = s; report = report })
    reported_over = record {
      disk_fault = λ opened now is. over.disk_fault opened now (of_disk opened now is);
      no_fault = λ some other. let same = kept some in over.no_fault (λ starved. some (same ∙ starved)) (quiet same other);
      judged = λ some other.
          let same = kept some in
          subst (λ (t : Status). LogHas old (λ bytes. IsStoreJudged (session_fault bytes) t)) (sym same) (over.judged (λ starved. some (same ∙ starved)) (quiet same other));
      bad_store = λ fault is.
          let same = kept (λ starved. let z : status.NoMemory ≡ status.BadStore fault = sym starved ∙ is in cc) in
          refused same (over.bad_store fault (sym same ∙ is));
      recorded = recorded;
      backed = over.backed;
      ended = ended;
      no_report = no_report;
      replayed = λ is. ⊎_elim (λ (none : IsUnopened e.list.items e.start e.history.items e.syncs.items). inl none)
          (λ (r : IsReplayedOver old lines e.list.items e.start e.history.items e.status). inr (record {
            opened = r.opened;
            opening = r.opening;
            replay = r.replay;
            whole = λ end. r.whole (subst IsEnd (kept (λ starved. subst IsEnd starved end)) end);
          })) (over.replayed is);
      later = over.later;
    }
