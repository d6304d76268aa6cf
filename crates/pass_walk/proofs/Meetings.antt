-- Processes that come to one history.
use Rattle.std.proofs.Common.{◌≡◌, ◌<◌, ◌≤◌, ℕ, List, [], length, take, refl, ap, sym, ◌∙◌, subst, arith, true, false, ◌==◌}
use Rattle.std.specs.Prelude.{Some, slice_get}
use Rattle.std.specs.List.{list_any}
use Rattle.std.proofs.lemmas.List.{take-append-le}
use mathlib.Core.List.{IsPrefix}
use Rattle.pass_entry.specs.declared.entry.Entry.{Entry}
use Rattle.pass_entry.proofs.Places.{within_front}
use Rattle.pass_plain.specs.Lawful.{AgreeBy}
use Rattle.pass_plain.specs.Legal.{IsLegal, ends_call, is_over}
use Rattle.pass_plain.specs.Processes.{has_begun}
use Rattle.pass_plain.specs.Sessions.{Session}
use Rattle.pass_plain.specs.Traces.{Line, calls_of}
use Rattle.pass_plain.proofs.TwoPrefixes.{SameCaller, caller_agrees, none_later}
use Rattle.pass_plain.proofs.Lists.{same_itself, some_is}
use Rattle.pass_hold.specs.Goings.{Goes, HasNotAnswered, LookLaw, StillLaw, UnansweredLaw}
use Rattle.pass_proc.specs.Procs.{ProcView}
use Rattle.pass_progress.specs.Progress.{IsBetween, LookedLaw, UnderWayLaw}
use Rattle.pass_replay.specs.Lines.{AreLinesBehind}
use Rattle.pass_replay.specs.Members.{IsLineStep, MakesSteps}
use Rattle.pass_answer.specs.Lives.{HasMet}
use Rattle.pass_walk.specs.declared.walker.Living.{Living}
use Rattle.pass_walk.specs.declared.walker.Ended.{Ended as EndedProcess}
use Rattle.pass_walk.specs.Meetings.{HasComeOn, HasSeenMore}
use Rattle.pass_walk.specs.Walkers.{IsEndedOf, IsLivingOf}
use Rattle.pass_walk.proofs.Placed.{call_at}
use Rattle.pass_walk.proofs.Walks.{request, stayed}

-- a living process that looks
pub come_on : {J : Type 0} (session : Session) (trace : List Line) → StillLaw → LookLaw → UnansweredLaw → UnderWayLaw → LookedLaw → AreLinesBehind [] trace → (l : Living J) → IsLivingOf session trace l → IsBetween session l.proc
    → (p : ProcView) → HasMet session l.proc p → HasComeOn session trace l (record l { proc = p })
come_on session trace still_law look_law unmade_law under_way_law looked_law behind l is between p met =
    let next = call_at trace l.process is.done l.line is.line in
    let r = request session trace behind l is next.0 next.1 in
    let may = is.goes next.0 next.1 in
    let who : p.who ≡ l.proc.who = ap (λ (p : ProcView). p.who) met.same in
    let way : p.way ≡ l.proc.way = ap (λ (p : ProcView). p.way) met.same in
    let goes : Goes session l.proc.who r l.proc.seen p.seen =
    look_law session l.proc.who r l.proc.seen l.proc.seen p.seen (still_law session l.proc.who r l.proc.seen is.legal is.local.makes.begun) met.looked in
    let has : HasNotAnswered l.proc.who r l.proc.seen p.seen =
    unmade_law session l.proc.who r l.proc.seen p.seen met.looked is.local.makes.begun is.local.living (under_way_law session l.proc r between may) in
    record {
      living = stayed session trace behind l is next.0 next.1 p who goes has (looked_law session l.proc p r between met.looked who way may);
      process = refl;
      line = refl;
      who = who;
      looked = met.looked;
    }

-- a process that has made no more entries
module _ (session : Session) (who : ℕ) (old new : List Entry) (legal : IsLegal session new) (begins : IsPrefix old new) (agrees : AgreeBy who old new) where
  none : list_any (λ (e : Entry). e.who == who) begins.0 ≡ false
  none = none_later (λ (e : Entry). e.who == who) old begins.0 new begins.1 agrees

  -- each entry by it stands where it had seen it
  own_early : (n : ℕ) (e : Entry) → slice_get new n ≡ Some e → e.who ≡ who → (n < length old) × (slice_get old n ≡ Some e)
  own_early n e at by = within_front (λ (e : Entry). e.who == who) old begins.0 new n e begins.1 none at (ap (λ w. w == who) by ∙ same_itself who)

  pub own_none : (n : ℕ) (e : Entry) → slice_get new n ≡ Some e → length old ≤ n → e.who ≡ who → ⊥
  own_none n e at later by = let z = (own_early n e at by).0 in omega (arith, z, later)

  same : has_begun old who ≡ true → SameCaller old new who
  same begun = subst (λ h. SameCaller old h who) begins.1 (caller_agrees session old begins.0 who (subst (λ h. IsLegal session h) (sym begins.1) legal) begun none)

  makes_still : (trace : List Line) (process : ℕ) → MakesSteps trace process who old → MakesSteps trace process who new
  makes_still trace process makes = record {
    begun = (same makes.begun).begun;
    steps = λ n e at by.
        let (early, there) = own_early n e at by in
        subst (λ h. IsLineStep trace process who h e) (sym (ap (λ h. take n h) (sym begins.1) ∙ take-append-le n old begins.0 (omega (arith, early)))) (makes.steps n e there by);
  }

  over_still : has_begun old who ≡ true → (n : ℕ) → is_over new who n ≡ is_over old who n
  over_still begun n = (λ i. ends_call ((same begun).before n i) ((same begun).calls n i))

-- one that has ended is of the run still
pub seen_more : {J : Type 0} (session : Session) (trace : List Line) (e f : EndedProcess J) → IsEndedOf trace e → HasSeenMore session e f → IsEndedOf trace f
seen_more session trace e f is more = record {
  makes = subst (λ (x : ℕ × ℕ). MakesSteps trace x.0 x.1 f.trail.seen) (λ i. (sym more.process i, sym more.who i))
      (makes_still session e.trail.who e.trail.seen f.trail.seen more.legal more.begins more.agrees trace e.process is.makes);
  over = ap (λ w. is_over f.trail.seen w (length (calls_of trace f.process))) more.who ∙ ap (λ p. is_over f.trail.seen e.trail.who (length (calls_of trace p))) more.process
      ∙ over_still session e.trail.who e.trail.seen f.trail.seen more.legal more.begins more.agrees is.makes.begun (length (calls_of trace e.process)) ∙ is.over;
  met = λ count h. some_is (length f.trail.seen) count (sym more.met ∙ h);
}
