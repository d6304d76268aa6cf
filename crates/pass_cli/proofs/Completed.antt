-- A run of which nothing fails comes to its end.
use Rattle.std.proofs.Common.{◌≡◌, ◌∙◌, ℕ, List, refl, sym, ap, subst, arith, ⊎_elim}
use Rattle.std.specs.Prelude.{◌≢◌, ◌++◌, None, IsTrue}
use Rattle.pass_outside.specs.Moments.{Moment, IsAtEnd}
use Rattle.pass_trace.specs.declared.limits.Scale.{Scale}
use Rattle.pass_status.specs.declared.status.Status.{Status}
use Rattle.pass_status.specs.declared.status.Status.TheVariants as status
use Rattle.pass_run.specs.Stored.{session_fault, IsEnd}
use Rattle.pass_ask.specs.Answers.{SinkSeen, IsNoDiskFault, text_with}
use Rattle.pass_cli.specs.Answers.{Outcome, SourceSeen, IsTraced, IsAnswer}

-- what is written of a run that came to its end is its report
report_of_end : (s : Status) (report : List ℕ) → IsEnd s → text_with s report ≡ report
report_of_end status.Done report is = refl
report_of_end status.Stuck report is = refl
report_of_end _ report is = absurd is

module _ {D : Type 0} (view : D → Moment) (scale : Scale) (source : SourceSeen) (sink : SinkSeen) (old new : D) (out : Outcome) (answered : Status)
    (a : IsAnswer view scale source sink old new out answered) (traced : IsTraced scale a.bytes source.before source.after)
    (same : (view new).faults ≡ (view old).faults) (more : ¬ (IsAtEnd (view new))) (clean : session_fault a.by.log ≡ None) (taken : answered ≢ status.WriteFault) where
  no_fault : IsNoDiskFault a.judged
  no_fault opened now is =
      let f = (a.by.by.disk_fault opened now is).1 in
      ⊎_elim (λ risen. let b = f.before in let n = f.after in omega (arith, risen, b, n, same)) (λ at_end. more at_end) f.risen

  judged_so : IsEnd a.judged
  judged_so = a.by.by.ended.1 (traced, no_fault, clean)

  answered_so : answered ≡ a.judged
  answered_so = ⊎_elim (λ is. is) (λ is. absurd (taken is)) a.stands

  pub ends : IsEnd answered
  ends = subst IsEnd (sym answered_so) judged_so

  pub writes : IsTrue sink.tells → sink.after ≡ sink.before ++ a.report
  writes told = a.whole taken told ∙ ap (λ (text : List ℕ). sink.before ++ text) (report_of_end a.judged a.report judged_so)
