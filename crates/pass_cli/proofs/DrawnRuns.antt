-- What the run of a drawn trace is, from the run of its text.
use Rattle.std.proofs.Common.{◌≡◌, ◌≤◌, ℕ, List, true, false, refl, sym, subst, arith, ⊎_elim}
use Rattle.std.specs.Prelude.{◌≢◌, ◌↔◌, None}
use Rattle.pass_gen.specs.Generated.{generated}
use Rattle.pass_outside.specs.Faults.{HasRisen}
use Rattle.pass_outside.specs.Moments.{Moment}
use Rattle.pass_run.specs.Ends.{EndsAs}
use Rattle.pass_run.specs.Stored.{session_fault, IsEnd, HasEnded}
use Rattle.pass_status.specs.declared.status.Status.{Status}
use Rattle.pass_status.specs.declared.status.Status.TheVariants as status
use Rattle.pass_trace.specs.declared.limits.Scale.TheVariants.{Long}
use Rattle.pass_trace.specs.TraceLines.{session_of_trace, plain_trace}
use Rattle.pass_trace.specs.Traces.{trace_of}
use Rattle.pass_trace.specs.declared.trace.TraceLine.{TraceLine}
use Rattle.pass_trace.specs.declared.trace.TraceReason.{TraceReason}
use Rattle.pass_trace.proofs.Faults.{not_text-from_fault}
use Rattle.pass_drawn.specs.Lawful.{NeverStuckLaw}
use Rattle.pass_ask.specs.Answers.{IsNoDiskFault}
use Rattle.pass_cli.specs.Answers.{Outcome, HasRun, IsTraced, ends_run}
use Rattle.pass_cli.specs.Drawn.{HasDrawn, IsTold, drawn_bytes, ends_drawn}

-- a count of 0 that stays doesn't rise
pub still : ¬ (HasRisen 0 0)
still rose = ⊎_elim (λ less. omega (arith, less)) (λ at_end. let z = at_end.0 in omega (arith, z)) rose

-- which statuses are left, where no source can fail, the text is that of a trace, and nothing is stuck
ends_so : (s : Status) → ends_run s ≡ true → s ≢ status.ReadFault → ((line : ℕ) (reason : TraceReason) → s ≢ status.BadTrace line reason) → s ≢ status.Stuck → ends_drawn s ≡ true
ends_so status.Done ends read trace stuck = refl
ends_so (status.DiskFault opened now) ends read trace stuck = refl
ends_so (status.BadStore fault) ends read trace stuck = refl
ends_so status.ReadFault ends read trace stuck = absurd (read refl)
ends_so (status.BadTrace line reason) ends read trace stuck = absurd (trace line reason refl)
ends_so status.Stuck ends read trace stuck = absurd (stuck refl)
ends_so _ ends read trace stuck = let z : false ≡ true = ends in absurd (cc)

only_done : (s : Status) → ends_drawn s ≡ true → IsEnd s → s ≡ status.Done
only_done status.Done ends is = refl
only_done status.Stuck ends is = let z : false ≡ true = ends in absurd (cc)
only_done _ ends is = absurd is

module _ {D : Type 0} (view : D → Moment) (number lines : ℕ) (least : 15 ≤ lines) (old new : D) (out : Outcome) (judged : Status) (report : List ℕ)
    (run : HasRun view Long (drawn_bytes number lines) 0 0 old new out judged report) (same : generated number lines ≡ trace_of (drawn_bytes number lines)) (never : NeverStuckLaw)
    (traced : IsTraced Long (drawn_bytes number lines) 0 0) where
  ended : IsEnd judged → HasEnded (view old).calls (view old) (view new) (generated number lines) out.list out.start out.history out.syncs judged report
  ended end = subst (λ (ls : List TraceLine). HasEnded (view old).calls (view old) (view new) ls out.list out.start out.history out.syncs judged report) (sym same) (run.whole end)

  never_stuck : judged ≢ status.Stuck
  never_stuck is =
      let e = ended (subst IsEnd (sym is) tt) in
      let session = session_of_trace e.opened (generated number lines) in
      never session number lines out.history (omega arith) e.recorded.run
      (subst (λ (s : Status). EndsAs session (plain_trace (generated number lines)) out.history s) is e.reported.ends)

  ends : ends_drawn judged ≡ true
  ends = ends_so judged run.by.no_other (λ is. still (run.by.read_fault.0 is))
      (λ line reason is. not_text-from_fault Long (drawn_bytes number lines) line reason ((run.by.bad_trace line reason).0 is).1 traced.text) never_stuck

  done_exactly : judged ≡ status.Done ↔ (IsNoDiskFault judged × (session_fault run.log ≡ None))
  done_exactly = (
    λ is. let e = run.by.ended.0 (subst IsEnd (sym is) tt) in (e.1, e.2),
    λ is. only_done judged ends (run.by.ended.1 (traced, is.0, is.1)),
  )

  pub drawn_run : (text : List ℕ) → (judged ≡ status.Done → IsTold number lines out.history text) → HasDrawn view number lines old new out judged text
  drawn_run text told = record {
    report = report;
    by = run;
    traced = traced;
    ends = ends;
    done = done_exactly;
    told = λ done. let e = ended (subst IsEnd (sym done) tt) in (told done).counted (session_of_trace e.opened (generated number lines)) e.recorded.run;
    fresh = λ done no_files no_apps.
        let e = ended (subst IsEnd (sym done) tt) in
        (told done).fresh out.start e.opened least (record {
          same = e.opening.outline;
          no_files = no_files;
          no_apps = no_apps;
          run = e.recorded.run;
          closed = subst (λ (s : Status). EndsAs (session_of_trace e.opened (generated number lines)) (plain_trace (generated number lines)) out.history s) done e.reported.ends;
        });
  }
