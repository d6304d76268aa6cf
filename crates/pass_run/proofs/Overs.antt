-- What a run over an opened session hands out, whose store was closed.
use Rattle.std.proofs.Common.{◌≡◌, ◌≢◌, ◌⊎◌, ◌<◌, ◌+◌, ◌∷◌, ℕ, Bool, List, [], length, refl, ap, sym, ◌∙◌, subst, inl, inr, ⊎_elim, arith, length-append}
use Rattle.std.specs.Prelude.{Option, None, Result, Ok, Err, IfOk, IfErr, OnOk}
use mathlib.Core.List.{IsPrefix}
use Rattle.pass_answer.specs.declared.answer.CallEnd.{CallEnd}
use Rattle.pass_answer.specs.declared.answer.CallEnd.TheVariants as ends
use Rattle.pass_entry.specs.declared.entry.Entry.{Entry}
use Rattle.pass_entry.specs.declared.entry.Synced.{Synced}
use Rattle.pass_entry.specs.declared.record.Record.{Record}
use Rattle.pass_graph.specs.Lawful.{GraphLaw, VersionRecordLaw, InputRecordLaw}
use Rattle.pass_graph.specs.Openings.{Continues}
use Rattle.pass_keep.specs.Kept.{Story}
use Rattle.pass_outside.specs.Moments.{Moment, IsAtEnd}
use Rattle.pass_plain.specs.declared.start.Start.{Start}
use Rattle.pass_plain.specs.Sessions.{Session}
use Rattle.pass_plain.specs.Sound.{IsSound}
use Rattle.pass_plain.specs.Runs.{IsRun}
use Rattle.pass_recover.specs.declared.fault.OpenFault.{OpenFault}
use Rattle.pass_recover.specs.Faults.{LogHas}
use Rattle.pass_replay.specs.Making.{first_entry}
use Rattle.pass_plain.specs.Outlines.{SameButBytes}
use Rattle.pass_report.specs.Reports.{report_of}
use Rattle.pass_safe.specs.Safes.{IsLost}
use Rattle.pass_session.specs.Sessions.{OpenedView, HasSession}
use Rattle.pass_store.specs.Closings.{story_at, IsClosed, IsSettled, IsUnsettled}
use Rattle.pass_store.proofs.Closing.{backed_by}
use Rattle.pass_safe.specs.Grounds.{Ground, HasGoneOn, ground_of}
use Rattle.pass_trace.specs.TraceLines.{objects_of, plain_trace, session_of_trace}
use Rattle.pass_trace.specs.declared.trace.TraceLine.{TraceLine}
use Rattle.pass_walk.specs.declared.ends.Last.{Last}
use Rattle.pass_walk.specs.declared.ends.Last.TheVariants as lasts
use Rattle.pass_walk.specs.Runs.{IsRanTo}
use Rattle.pass_vault.specs.Vaulted.{Vaulted}
use Rattle.pass_vault.specs.declared.vault.Receipt.{Receipt}
use Rattle.pass_book.specs.Tokens.{BookId}
use Rattle.pass_run.specs.Closing.{status_of}
use Rattle.pass_run.specs.Ends.{EndsAs}
use Rattle.pass_order.specs.Replayed.{IsReplayedTo}
use Rattle.pass_replay.specs.Orders.{IsReplay, due}
use Rattle.pass_run.specs.declared.ending.RunEnd.{RunEnd}
use Rattle.pass_run.specs.declared.order.Order.{Order}
use Rattle.pass_run.specs.declared.order.Order.TheVariants as orders
use Rattle.pass_run.specs.Orders.{IsReplayedOver}
use Rattle.pass_status.specs.declared.status.Status.{Status}
use Rattle.pass_status.specs.declared.status.Status.TheVariants as status
use Rattle.pass_run.specs.OpenedRuns.{IsRunOver}
use Rattle.pass_run.specs.Stored.{session_fault, IsBare, IsStoreJudged, IsEnd, IsOfDisk, IsOpening, IsLater, IsStored, IsSettledRun, HasRecorded, IsOverStore, HasEnded, story_of}
use Rattle.pass_run.proofs.Numbered.{numbered}
use Rattle.pass_run.proofs.Recorded.{is_stored, is_settled, has_recorded}

-- Which status it is

-- what a status says of how the processes ended and how the store was settled
abbrev IsOfEnd : Last → Result Receipt CallEnd → Status → Type 0
IsOfEnd last settled s = (receipt : Receipt) × (settled ≡ Ok receipt) × ((s ≡ status.Done) × (last ≡ lasts.Done) ⊎ (s ≡ status.Stuck) × (last ≡ lasts.Stuck))

of_end : (now : ℕ) (last : Last) (settled : Result Receipt CallEnd) (s : Status) → s ≡ status_of now last settled → IsEnd s → IsOfEnd last settled s
of_end now lasts.Done (Ok receipt) s is end = (receipt, refl, inl (is, refl))
of_end now lasts.Stuck (Ok receipt) s is end = (receipt, refl, inr (is, refl))
of_end now (lasts.Failed cause) (Ok receipt) s is end = absurd (subst IsEnd is end)
of_end now last (Err (ends.DiskFault opened found)) s is end = absurd (subst IsEnd is end)
of_end now last (Err (ends.Fault f)) s is end = absurd (subst IsEnd is end)
of_end now last (Err ends.Again) s is end = absurd (subst IsEnd is end)
of_end now last (Err (ends.Full left need)) s is end = absurd (subst IsEnd is end)
of_end now last (Err ends.NoMemory) s is end = absurd (subst IsEnd is end)

abbrev IsOfFault : ℕ → Result Receipt CallEnd → ℕ → ℕ → Type 0
IsOfFault now settled opened counted = (found : ℕ) × (settled ≡ Err (ends.DiskFault opened found)) × (now ≡ counted)

of_disk : (now : ℕ) (last : Last) (settled : Result Receipt CallEnd) (opened counted : ℕ) → status_of now last settled ≡ status.DiskFault opened counted → IsOfFault now settled opened counted
of_disk now lasts.Done (Ok receipt) opened counted is = absurd (cc)
of_disk now lasts.Stuck (Ok receipt) opened counted is = absurd (cc)
of_disk now (lasts.Failed cause) (Ok receipt) opened counted is = absurd (cc)
of_disk now last (Err (ends.DiskFault first found)) opened counted is =
    let same : first ≡ opened = cc in
    (found, ap (λ n. Err (ends.DiskFault n found)) same, cc)
of_disk now last (Err (ends.Fault f)) opened counted is = absurd (cc)
of_disk now last (Err ends.Again) opened counted is = absurd (cc)
of_disk now last (Err (ends.Full left need)) opened counted is = absurd (cc)
of_disk now last (Err ends.NoMemory) opened counted is = absurd (cc)

-- it is the end of a run, a fault of the disk, or want of memory
not_bad : (now : ℕ) (last : Last) (settled : Result Receipt CallEnd) (fault : OpenFault) → status_of now last settled ≡ status.BadStore fault → ⊥
not_bad now lasts.Done (Ok receipt) fault is = absurd (cc)
not_bad now lasts.Stuck (Ok receipt) fault is = absurd (cc)
not_bad now (lasts.Failed cause) (Ok receipt) fault is = absurd (cc)
not_bad now last (Err (ends.DiskFault first found)) fault is = absurd (cc)
not_bad now last (Err (ends.Fault f)) fault is = absurd (cc)
not_bad now last (Err ends.Again) fault is = absurd (cc)
not_bad now last (Err (ends.Full left need)) fault is = absurd (cc)
not_bad now last (Err ends.NoMemory) fault is = absurd (cc)

quiet_end : (now : ℕ) (last : Last) (settled : Result Receipt CallEnd) (s : Status) → s ≡ status_of now last settled → s ≢ status.NoMemory → (IsOfDisk s → ⊥) → IsEnd s
quiet_end now lasts.Done (Ok receipt) s is some quiet = subst IsEnd (sym is) tt
quiet_end now lasts.Stuck (Ok receipt) s is some quiet = subst IsEnd (sym is) tt
quiet_end now (lasts.Failed cause) (Ok receipt) s is some quiet = absurd (some is)
quiet_end now last (Err (ends.DiskFault first found)) s is some quiet = absurd (quiet (subst IsOfDisk (sym is) tt))
quiet_end now last (Err (ends.Fault f)) s is some quiet = absurd (some is)
quiet_end now last (Err ends.Again) s is some quiet = absurd (some is)
quiet_end now last (Err (ends.Full left need)) s is some quiet = absurd (some is)
quiet_end now last (Err ends.NoMemory) s is some quiet = absurd (some is)

-- a history in which something was entered
some_entry : (first : Entry) (history : List Entry) → IsPrefix (first ∷ []) history → 0 < length history
some_entry first history begins = let (rest, is) = begins in let size = ap length is in let parts = length-append (first ∷ []) rest in omega (arith, size, parts)

-- What a closed store gives

module _ {D : Type 0} (view : D → Moment) (old : Moment) (lines : List TraceLine) (entries : ℕ) (o : OpenedView D) (session : HasSession view old (objects_of lines) entries o)
    (book : BookId) (book_is : o.vault.book ≡ book) (ground : Ground) (ground_is : ground_of o.vault ≡ ground) where
  abbrev start : Start
  start = o.vault.book.session.start

  abbrev list : List Record
  list = o.vault.before

  session_is : book.session ≡ session_of_trace start lines
  session_is = sym (ap (λ (b : BookId). b.session) book_is) ∙ (λ i. record { start = start; objects = session.objects_are i })

  abbrev story : List Entry → Story
  story history = story_of old.calls old.seen.store list start lines history

  story_is : (history : List Entry) → story_at book ground history ≡ story history
  story_is history = λ i. record {
    before = (sym (ap (λ (g : Ground). g.before) ground_is)) i;
    ceiling = (sym (ap (λ (g : Ground). g.ceiling) ground_is) ∙ ap (λ (v : Vaulted D). v.ceiling) session.vault) i;
    session = session_is i;
    history = history;
    start = (sym (ap (λ (g : Ground). g.since) ground_is) ∙ ap (λ (v : Vaulted D). v.since) session.vault) i;
    store = (sym (ap (λ (g : Ground). g.store) ground_is) ∙ ap (λ (v : Vaulted D). v.store) session.vault) i;
  }

  opened_is : ground.opened ≡ old.faults
  opened_is = sym (ap (λ (g : Ground). g.opened) ground_is) ∙ ap (λ (v : Vaulted D). v.opened) session.vault

  since_is : ground.since ≡ old.calls + 2
  since_is = sym (ap (λ (g : Ground). g.since) ground_is) ∙ ap (λ (v : Vaulted D). v.since) session.vault

  -- the disk goes on from where it was found
  pub gone_on_so : (tells : Bool) → (view o.vault.disk).tells ≡ tells → HasGoneOn tells ground.opened (view o.vault.disk)
  gone_on_so tells told = record { told = told; faults = let healthy = session.healthy in omega (arith, opened_is, healthy) }

  pub later_by : (tells : Bool) → (view o.vault.disk).tells ≡ tells → (m : Moment) (history : List Entry) (ready : ℕ) (syncs : List Synced) → HasGoneOn tells ground.opened m
      → IsClosed (story_at book ground history) ready m syncs → IsLater old m
  later_by tells told m history ready syncs gone closed = record {
    tells = gone.told ∙ sym told ∙ session.later.tells;
    faults = let low = gone.faults in omega (arith, low, opened_is);
    calls = let earlier = closed.begun.earlier in omega (arith, earlier, since_is);
  }

  continues : Continues list (session_of_trace start lines)
  continues = subst (λ (s : Session). Continues list s) (ap (λ (b : BookId). b.session) book_is ∙ session_is) session.continues

  sound : IsSound (session_of_trace start lines)
  sound = subst IsSound (ap (λ (b : BookId). b.session) book_is ∙ session_is) session.sound

  judged_end : (s : Status) → (s ≡ status.Done) ⊎ (s ≡ status.Stuck) → LogHas old (λ bytes. IsStoreJudged (session_fault bytes) s)
  judged_end s is =
      let (bytes, read, listed) = session.opening.logged in
      (bytes, read, subst (λ (o : Option OpenFault). IsStoreJudged o s) (sym listed.unfaulted) is)

  -- the run that it handed out
  module _ (e : RunEnd D) (last : Last) (settled : Result Receipt CallEnd) (status_is : e.status ≡ status_of (view e.disk).faults last settled)
      (silent : e.report.items ≡ []) (list_is : e.list.items ≡ ground.before) (same : SameButBytes e.start book.session.start) (bare : IsBare e.start)
      (closed : IsClosed (story_at book ground e.history.items) ground.ready (view e.disk) e.syncs.items)
      (later : IsLater old (view e.disk)) (laws : GraphLaw × VersionRecordLaw × InputRecordLaw) (ran : IsRanTo book.session (plain_trace lines) e.history.items last)
      (order : Order) (replayed : order ≡ orders.Lines → IsReplayedTo book.session (plain_trace lines) e.history.items last) where
    list_too : e.list.items ≡ list
    list_too = list_is ∙ sym (ap (λ (g : Ground). g.before) ground_is)

    run : IsRun (session_of_trace start lines) (plain_trace lines) e.history.items
    run = subst (λ (s : Session). IsRun s (plain_trace lines) e.history.items) session_is ran.run

    outline : SameButBytes e.start start
    outline = subst (λ (b : BookId). SameButBytes e.start b.session.start) (sym book_is) same

    is_opening : IsOpening old e.list.items e.start start
    is_opening = subst (λ (l : List Record). IsOpening old l e.start start) (sym list_too) (record {
      logged = session.opening.logged;
      told = session.opening.told;
      files = session.opening.files;
      bytes = session.opening.bytes;
      outline = outline;
      bare = bare;
    })

    recorded : HasRecorded e.list.items start lines e.history.items
    recorded = subst (λ (l : List Record). HasRecorded l start lines e.history.items) (sym list_too) (has_recorded list start lines e.history.items sound continues laws run)

    story_same : story_at book ground e.history.items ≡ story_of old.calls old.seen.store e.list.items start lines e.history.items
    story_same = story_is e.history.items ∙ ap (λ (l : List Record). story_of old.calls old.seen.store l start lines e.history.items) (sym list_too)

    stored : IsStored (story_of old.calls old.seen.store e.list.items start lines e.history.items) (view e.disk) e.syncs.items
    stored = subst (λ (s : Story). IsStored s (view e.disk) e.syncs.items) story_same (is_stored (story_at book ground e.history.items) ground.ready (view e.disk) e.syncs.items closed)

    over : IsOverStore old.calls old (view e.disk) lines e.list.items e.start e.history.items e.syncs.items
    over = record { opened = start; opening = is_opening; some = some_entry (first_entry book.session) e.history.items ran.has.starts; recorded = recorded; stored = stored; numbered = numbered (session_of_trace start lines) e.history.items run.legal }

    -- a replay
    in_order : order ≡ orders.Lines → IsReplayedOver old lines e.list.items e.start e.history.items e.status
    in_order is = record {
      opened = start;
      opening = is_opening;
      replay = subst (λ (s : Session). IsReplay s (plain_trace lines) e.history.items) session_is (replayed is).replay;
      whole = λ end.
          let (receipt, ok, by) = of_end (view e.disk).faults last settled e.status status_is end in
          subst (λ (s : Session). due s (plain_trace lines) e.history.items ≡ None) session_is
          ((replayed is).whole (⊎_elim (λ (d : (e.status ≡ status.Done) × (last ≡ lasts.Done)). inl d.1) (λ (s : (e.status ≡ status.Stuck) × (last ≡ lasts.Stuck)). inr s.1) by));
    }

    -- a fault of the disk
    module _ (refused : IfErr settled (IsUnsettled ground.opened (view e.disk))) where
      lost : (opened counted : ℕ) → e.status ≡ status.DiskFault opened counted → (opened ≡ old.faults) × (counted ≡ (view e.disk).faults) × ((opened < counted) ⊎ IsAtEnd (view e.disk))
      lost opened counted also =
          let (found, failed, now) = of_disk (view e.disk).faults last settled opened counted (sym status_is ∙ also) in
          let fault : IsLost (view e.disk) ground.opened (record { opened = opened; found = found }) = subst (λ (r : Result Receipt CallEnd). IfErr r (IsUnsettled ground.opened (view e.disk))) failed refused in (
            fault.first ∙ opened_is,
            sym now,
            ⊎_elim (λ (rose : opened < found). inl (omega (arith, rose, fault.last, now))) (λ (end : IsAtEnd (view e.disk)). inr end) fault.above,
          )

      -- all of it
      module _ (whole : IfOk settled (IsSettled (story_at book ground e.history.items) (view e.disk) e.syncs.items)) (healthy : OnOk settled ((view e.disk).faults ≡ ground.opened)) where
        its_end : IsEnd e.status → IsOfEnd last settled e.status
        its_end end = of_end (view e.disk).faults last settled e.status status_is end

        which : IsEnd e.status → (e.status ≡ status.Done) ⊎ (e.status ≡ status.Stuck)
        which end = let (receipt, ok, by) = its_end end in ⊎_elim (λ (d : (e.status ≡ status.Done) × (last ≡ lasts.Done)). inl d.0) (λ (s : (e.status ≡ status.Stuck) × (last ≡ lasts.Stuck)). inr s.0) by

        ends_as : IsEnd e.status → EndsAs (session_of_trace start lines) (plain_trace lines) e.history.items e.status
        ends_as end =
            let (receipt, ok, by) = its_end end in
            subst (λ (s : Session). EndsAs s (plain_trace lines) e.history.items e.status) session_is
            (⊎_elim (λ (d : (e.status ≡ status.Done) × (last ≡ lasts.Done)). subst (EndsAs book.session (plain_trace lines) e.history.items) (sym d.0) (ran.done d.1))
            (λ (s : (e.status ≡ status.Stuck) × (last ≡ lasts.Stuck)). subst (EndsAs book.session (plain_trace lines) e.history.items) (sym s.0) (ran.stuck s.1)) by)

        settled_run : IsEnd e.status → IsSettledRun (story_of old.calls old.seen.store e.list.items start lines e.history.items) (view e.disk) e.syncs.items
        settled_run end =
            let (receipt, ok, by) = its_end end in
            subst (λ (s : Story). IsSettledRun s (view e.disk) e.syncs.items) story_same
            (is_settled (story_at book ground e.history.items) (view e.disk) e.syncs.items receipt
            (subst (λ (r : Result Receipt CallEnd). IfOk r (IsSettled (story_at book ground e.history.items) (view e.disk) e.syncs.items)) ok whole))

        ended : IsEnd e.status → HasEnded old.calls old (view e.disk) lines e.list.items e.start e.history.items e.syncs.items e.status (report_of start e.history.items lines)
        ended end = record {
          opened = start;
          opening = is_opening;
          recorded = recorded;
          reported = record { ends = ends_as end; report = refl };
          stored = stored;
          settled = settled_run end;
          numbered = numbered (session_of_trace start lines) e.history.items run.legal;
        }

        fine : IsEnd e.status → (view e.disk).faults ≡ old.faults
        fine end =
            let (receipt, ok, by) = its_end end in
            subst (λ (r : Result Receipt CallEnd). OnOk r ((view e.disk).faults ≡ ground.opened)) ok healthy ∙ opened_is

        quiet : e.status ≢ status.NoMemory → (IsOfDisk e.status → ⊥) → IsEnd e.status
        quiet some other = quiet_end (view e.disk).faults last settled e.status status_is some other

        pub over_run : IsRunOver view old lines order e
        over_run = record {
          disk_fault = lost;
          no_fault = λ some other. fine (quiet some other);
          judged = λ some other. judged_end e.status (which (quiet some other));
          bad_store = λ fault also. absurd (not_bad (view e.disk).faults last settled fault (sym status_is ∙ also));
          recorded = inr (inr over);
          backed = backed_by (story_at book ground e.history.items) ground.ready (view e.disk) e.syncs.items closed;
          ended = (report_of start e.history.items lines, ended);
          silent = silent;
          replayed = λ is. inr (in_order is);
          later = later;
        }
