-- A session that wasn't opened, or in which no entry was made.
use Rattle.std.proofs.Common.{◌≡◌, ◌≢◌, ◌<◌, ℕ, List, [], ap, sym, ◌∙◌, subst, inl, inr, ⊎_elim, arith}
use Rattle.std.specs.Prelude.{Option}
use Rattle.pass_keep.specs.Kept.{IsBegun}
use Rattle.pass_outside.specs.Moments.{Moment, IsAtEnd}
use Rattle.pass_recover.specs.declared.fault.OpenFault.{OpenFault}
use Rattle.pass_recover.specs.declared.fault.OpenFault.TheVariants as store
use Rattle.pass_session.specs.Judgements.{IsOfStore}
use Rattle.pass_session.specs.Openings.{IsUntouched}
use Rattle.pass_session.specs.Openings as sessions
use Rattle.pass_session.specs.Sessions.{OpenedView, HasSession, HasRefused}
use Rattle.pass_trace.specs.TraceLines.{objects_of}
use Rattle.pass_trace.specs.declared.trace.TraceLine.{TraceLine}
use Rattle.pass_vault.specs.Vaulted.{Vaulted}
use Rattle.pass_vault.specs.Vaulted as vaults
use Rattle.pass_run.specs.declared.ending.RunEnd.{RunEnd}
use Rattle.pass_run.specs.declared.order.Order.{Order}
use Rattle.pass_status.specs.declared.status.Status.TheVariants as status
use Rattle.pass_run.specs.OpenedRuns.{IsRunOver}
use Rattle.pass_status.specs.Statuses.{status_of_opening}
use Rattle.pass_run.specs.Stored.{IsStoreJudged, IsEnd, IsOfDisk, IsUnopened, IsLater, HasBegun, IsRefusedOpening}
use Rattle.pass_run.proofs.Moved.{none_backed}

abbrev pub IsNone : {D : Type 0} → RunEnd D → Type 0
IsNone e = IsUnopened e.list.items e.start e.history.items e.syncs.items × (e.report.items ≡ [])

module _ {D : Type 0} (view : D → Moment) (old : Moment) (lines : List TraceLine) (order : Order) (e : RunEnd D) (none : IsNone e) where
  -- want of memory, before the first entry
  pub held_back : e.status ≡ status.NoMemory → HasBegun old (view e.disk) (objects_of lines) → IsLater old (view e.disk) → IsRunOver view old lines order e
  held_back is begun later = record {
    disk_fault = λ opened now also. absurd (let z : status.NoMemory ≡ status.DiskFault opened now = sym is ∙ also in cc);
    no_fault = λ other. absurd (other is);
    judged = λ other. absurd (other is);
    bad_store = λ fault also. absurd (let z : status.NoMemory ≡ status.BadStore fault = sym is ∙ also in cc);
    recorded = inr (inl (record { unended = λ end. subst IsEnd is end; nothing = none.0; begun = begun }));
    backed = none_backed e.history.items e.syncs.items none.0.no_history;
    ended = ([], λ end. absurd (subst IsEnd is end));
    silent = none.1;
    replayed = λ is. inl none.0;
    later = later;
  }

  module _ (fault : OpenFault) (opened now : ℕ) (before : opened ≡ old.faults) (after : now ≡ (view e.disk).faults) (is : e.status ≡ status_of_opening opened now fault)
      (refused : HasRefused view old (objects_of lines) (fault, e.disk)) where
    unended : IsEnd e.status → ⊥
    unended end = no_end fault (subst IsEnd is end)
      where
        no_end : (f : OpenFault) → IsEnd (status_of_opening opened now f) → ⊥
        no_end store.DiskFault end = end
        no_end store.NoMemory end = end
        no_end (store.BadFrame at) end = end
        no_end (store.BadRecord place why) end = end
        no_end (store.Flaw place reason) end = end

    of_store : e.status ≢ status.NoMemory → (IsOfDisk e.status → ⊥) → IsOfStore fault
    of_store some quiet = by_fault fault is
      where
        by_fault : (f : OpenFault) → e.status ≡ status_of_opening opened now f → IsOfStore f
        by_fault store.DiskFault same = absurd (quiet (subst IsOfDisk (sym same) tt))
        by_fault store.NoMemory same = absurd (some same)
        by_fault (store.BadFrame at) same = tt
        by_fault (store.BadRecord place why) same = tt
        by_fault (store.Flaw place reason) same = tt

    its_own : IsOfStore fault → e.status ≡ status.BadStore fault
    its_own own = by_fault fault is own
      where
        by_fault : (f : OpenFault) → e.status ≡ status_of_opening opened now f → IsOfStore f → e.status ≡ status.BadStore f
        by_fault store.DiskFault same own = absurd own
        by_fault store.NoMemory same own = absurd own
        by_fault (store.BadFrame at) same own = same
        by_fault (store.BadRecord place why) same own = same
        by_fault (store.Flaw place reason) same own = same

    of_disk : (first found : ℕ) → e.status ≡ status.DiskFault first found → (fault ≡ store.DiskFault) × (opened ≡ first) × (now ≡ found)
    of_disk first found also = by_fault fault is
      where
        by_fault : (f : OpenFault) → e.status ≡ status_of_opening opened now f → (f ≡ store.DiskFault) × (opened ≡ first) × (now ≡ found)
        by_fault store.DiskFault same = let z : status.DiskFault opened now ≡ status.DiskFault first found = sym same ∙ also in (cc, cc, cc)
        by_fault store.NoMemory same = absurd (let z : status.NoMemory ≡ status.DiskFault first found = sym same ∙ also in cc)
        by_fault (store.BadFrame at) same = absurd (let z : status.BadStore (store.BadFrame at) ≡ status.DiskFault first found = sym same ∙ also in cc)
        by_fault (store.BadRecord place why) same = absurd (let z : status.BadStore (store.BadRecord place why) ≡ status.DiskFault first found = sym same ∙ also in cc)
        by_fault (store.Flaw place reason) same = absurd (let z : status.BadStore (store.Flaw place reason) ≡ status.DiskFault first found = sym same ∙ also in cc)

    quiet_fault : (IsOfDisk e.status → ⊥) → fault ≢ store.DiskFault
    quiet_fault quiet failed = quiet (subst IsOfDisk (sym (is ∙ ap (status_of_opening opened now) failed)) tt)

    refusal : IsUntouched old (view e.disk) fault → IsRefusedOpening old (view e.disk) e.status e.list.items e.start e.history.items e.syncs.items
    refusal untouched = record { unended = unended; nothing = none.0; alone = untouched.alone; since = untouched.since; reads = λ quiet. untouched.reads (quiet_fault quiet) }

    pub refused_run : IsRunOver view old lines order e
    refused_run = record {
      disk_fault = λ first found also.
          let (failed, same, counted) = of_disk first found also in (
            sym same ∙ before,
            sym counted ∙ after,
            ⊎_elim (λ (rose : old.faults < (view e.disk).faults). inl (omega (arith, rose, same, before, counted, after))) (λ (end : IsAtEnd (view e.disk)). inr end) (refused.disk_fault failed),
          );
      no_fault = λ some quiet. refused.healthy (of_store some quiet);
      judged = λ some quiet.
          let own = of_store some quiet in
          let (bytes, read, found) = refused.judged own in
          (bytes, read, subst (λ (o : Option OpenFault). IsStoreJudged o e.status) (sym found) (its_own own));
      bad_store = λ f also. refusal (refused.bad_store (of_store (λ starved. let z : status.BadStore f ≡ status.NoMemory = sym also ∙ starved in cc) (λ quiet. subst IsOfDisk also quiet)));
      recorded = ⊎_elim (λ (untouched : IsUntouched old (view e.disk) fault). inl (refusal untouched))
          (λ (begun : HasBegun old (view e.disk) (objects_of lines)). inr (inl (record { unended = unended; nothing = none.0; begun = begun }))) refused.left;
      backed = none_backed e.history.items e.syncs.items none.0.no_history;
      ended = ([], λ end. absurd (unended end));
      silent = none.1;
      replayed = λ is. inl none.0;
      later = refused.later;
    }

-- a session that was opened and has no entry
pub begun_alone : {D : Type 0} (view : D → Moment) (old : Moment) (objects entries : ℕ) (o : OpenedView D) → HasSession view old objects entries o → HasBegun old (view o.vault.disk) objects
begun_alone view old objects entries o is = record {
  list = o.vault.before;
  start = o.vault.book.session.start;
  opening = is.opening;
  begun = subst (λ s. IsBegun s (view o.vault.disk)) same is.begun;
}
  where
    same : vaults.story_of o.vault ≡ sessions.story_of old o.vault.before o.vault.book.session.start objects
    same = λ i. record {
      before = o.vault.before;
      ceiling = (ap (λ (v : Vaulted _). v.ceiling) is.vault) i;
      session = record { start = o.vault.book.session.start; objects = is.objects_are i };
      history = (ap (λ (v : Vaulted _). v.seen) is.vault) i;
      start = (ap (λ (v : Vaulted _). v.since) is.vault) i;
      store = (ap (λ (v : Vaulted _). v.store) is.vault) i;
    }
