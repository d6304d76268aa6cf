-- A process between two calls: it has looked, or has made a call.
use Rattle.std.proofs.Common.{◌≡◌, ℕ, ◌<◌, ◌≤◌, ◌^◌, length, ap, sym, ◌∙◌, subst, false}
use Rattle.std.specs.Prelude.{Option, None, Result, Ok, Err}
use Rattle.pass_entry.specs.declared.entry.CallFault.{CallFault}
use Rattle.pass_plain.specs.declared.request.Request.{Request}
use Rattle.pass_plain.specs.Calls.{name_of}
use Rattle.pass_plain.specs.Places.{left_for, need_of}
use Rattle.pass_plain.specs.Sessions.{Session}
use Rattle.pass_book.specs.declared.claim.Full.{Full}
use Rattle.pass_hold.specs.Callers.{CallerState, moved_on}
use Rattle.pass_hold.specs.Callings.{HasLooked}
use Rattle.pass_proc.specs.Procs.{ProcView, IsCallerOf, proc_with}
use Rattle.pass_proc.specs.UnderWay.{IsWay}
use Rattle.pass_proc.specs.Views.{ProcessView}
use Rattle.pass_proc.specs.declared.way.Way.{Way}
use Rattle.pass_proc.proofs.Steps.{still, way_looked}
use Rattle.pass_answer.specs.Answers.{Answers, Stepped, resumes}
use Rattle.pass_answer.specs.Endings.{answer_of}
use Rattle.pass_answer.specs.declared.answer.Moved.{Moved}
use Rattle.pass_answer.specs.declared.answer.CallEnd.{CallEnd}
use Rattle.pass_answer.specs.declared.answer.CallEnd.TheVariants as ends
use Rattle.pass_answer.proofs.Wrapping.{moved, faulted, full}

module _ (session : Session) (p : ProcessView) (n : ℕ) (c : CallerState) (way : Option Way) (is : IsCallerOf session p n c × IsWay session p.who n c.seen p.state way) (d : CallerState)
    (same : d ≡ moved_on c d.seen d.syncs c.held) (looked : HasLooked session c.who c.seen d.seen) where
  -- it is as it was, and a write under way stays so
  pub looked_on : length d.seen ≤ 2 ^ 32 → IsCallerOf session p n d × IsWay session p.who n d.seen p.state way
  looked_on few = (
    still session p n c is.0 d c.held same looked few,
    way_looked session p.who n c.seen d.seen p.state way (subst (λ w. HasLooked session w c.seen d.seen) is.0.of_who looked) is.1,
  )

  -- it found too few places
  pub full_ends : (places : ℕ) (old : ProcView) → proc_with p n c way ≡ old → (r : Request) (need : ℕ) (f : Full) → resumes old.way r ≡ false → need ≡ need_of (name_of r)
      → (f.need ≡ need) × (f.left < need) × (f.left ≡ left_for places d.seen c.who) → (end : CallEnd) → end ≡ ends.Full f.left f.need
      → Answers session places old (proc_with p n d way) r (Err end)
  full_ends places old view r need f new needs is_full end told =
      subst (λ (v : ProcView). Answers session places v (proc_with p n d way) r (Err end)) view
      (subst (λ (e : CallEnd). Answers session places (proc_with p n c way) (proc_with p n d way) r (Err e)) (sym told)
      (full session places p n c d way is.0 r need f (ap (λ (v : ProcView). resumes v.way r) view ∙ new) needs same looked is_full))

-- a call that is not the write under way ends as its steps do. q, m and e are the process, its number and its caller after it
module _ (session : Session) (places : ℕ) (p : ProcessView) (n : ℕ) (c : CallerState) (way : Option Way) (old : ProcView) (view : proc_with p n c way ≡ old) (r : Request)
    (new : (w : Option Way) → resumes w r ≡ false) (q : ProcessView) (m : ℕ) (e : CallerState) (who : q.who ≡ p.who) where
  by_steps : (steps : Result Moved CallFault) → Stepped session p.who c.seen e.seen q.state r steps → Answers session places (proc_with p n c way) (proc_with q m e None) r (answer_of steps)
  by_steps (Ok moved_to) is = moved session places (proc_with p n c way) r (new way) q m e who moved_to is
  by_steps (Err f) is = faulted session places (proc_with p n c way) r (new way) q m e who f is

  pub steps_end : (d : CallerState) → d ≡ c → (steps : Result Moved CallFault) → Stepped session p.who d.seen e.seen q.state r steps → (end : Result Moved CallEnd) → end ≡ answer_of steps
      → Answers session places old (proc_with q m e None) r end
  steps_end d same steps is end told =
      subst (λ (v : ProcView). Answers session places v (proc_with q m e None) r end) view
      (subst (λ (a : Result Moved CallEnd). Answers session places (proc_with p n c way) (proc_with q m e None) r a) (sym told)
      (by_steps steps (subst (λ (x : CallerState). Stepped session p.who x.seen e.seen q.state r steps) same is)))
