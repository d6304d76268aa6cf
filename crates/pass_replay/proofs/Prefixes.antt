-- Each beginning of a run is a run so far.
use Rattle.std.proofs.Common.{◌≡◌, ◌≤◌, ◌+◌, ◌-◌, ℕ, zero, suc, List, [], ◌∷◌, length, take, ap, sym, ◌∙◌, subst, refl, arith}
use Rattle.std.specs.Prelude.{Some, slice_get}
use Rattle.pass_entry.specs.declared.entry.Entry.{Entry}
use Rattle.pass_entry.proofs.Places.{take_one_more}
use Rattle.pass_plain.specs.Sessions.{Session}
use Rattle.pass_plain.specs.Traces.{Line}
use Rattle.pass_plain.specs.Runs.{IsRun}
use Rattle.pass_plain.proofs.Counts.{first_law}
use Rattle.pass_plain.proofs.Lists.{is_place}
use Rattle.pass_replay.specs.Lines.{AreLinesBehind}
use Rattle.pass_replay.specs.Making.{IsRunSoFar, first_entry}
use Rattle.pass_replay.specs.Starts.{HasRoom}
use Rattle.pass_replay.proofs.Agreeing.{same_first}
use Rattle.pass_replay.proofs.RunSteps.{call_at, counted, follows, has, is_next, next_is}
use Rattle.pass_replay.proofs.SoFar.{so_far_after}
use Rattle.pass_replay.proofs.Started.{has_started}

module _ (session : Session) (trace : List Line) (behind : AreLinesBehind [] trace) (room : HasRoom session trace) (history : List Entry) (run : IsRun session trace history) where
  first_is : (e : Entry) → slice_get history 0 ≡ Some e → first_entry session ≡ e
  first_is e at =
      same_first session (first_entry session) e (first_law session (omega (arith, room)) 0 (first_entry session) refl) (run.legal 0 e at)

  one_more : (n : ℕ) (e : Entry) → slice_get history n ≡ Some e → 1 ≤ n → IsRunSoFar session trace (take n history) → IsRunSoFar session trace (take (suc n) history)
  one_more n e at some so_far =
      let (process, begun) = so_far.run.traced e.who (has session trace behind history run n e at some) in
      let (call, line) = call_at session trace behind history run n e at some process begun in
      let low = counted session trace behind history run n e at some in
      let number : e.number ≡ e.number - 1 + 1 = omega (arith, low) in
      subst (λ h. IsRunSoFar session trace h) (sym (take_one_more history n e at))
      (so_far_after session trace behind (take n history) so_far process e.who (e.number - 1) call begun line
      (next_is session trace behind history run n e at some ∙ number) e (follows session trace behind history run n e at some)
      (is_next session trace behind history run n e at some process (e.number - 1) call number begun line))

  pub so_far_at : (n : ℕ) → 1 ≤ n → n ≤ length history → IsRunSoFar session trace (take n history)
  so_far_at zero some short = absurd (omega arith)
  so_far_at (suc zero) some short =
      let (e, at) = is_place history 0 short in
      subst (λ h. IsRunSoFar session trace h) (ap (λ e. e ∷ []) (first_is e at) ∙ sym (take_one_more history 0 e at)) (has_started session trace room)
  so_far_at (suc (suc n)) some short =
      let (e, at) = is_place history (suc n) short in
      one_more (suc n) e at (omega arith) (so_far_at (suc n) (omega arith) (omega (arith, short)))
