-- What a task knows of its process.
use Rattle.std.proofs.Common.{◌≡◌, ◌<◌, ◌==◌, ◌∙◌, ℕ, List, length, refl, ap, sym, subst, inl, inr, true, false, arith}
use Rattle.std.specs.Prelude.{Option, Some, None, Bool, slice_get}
use Rattle.pass_plain.specs.Sessions.{Session}
use Rattle.pass_trace.specs.TraceLines.{plain_trace}
use Rattle.pass_sched.specs.declared.task.Turn.{Turn}
use Rattle.pass_sched.specs.Turns.{Rises}
use Rattle.pass_trace.specs.declared.trace.TraceLine.{TraceLine}
use Rattle.pass_replay.specs.Members.{Waits}
use Rattle.pass_plain.proofs.Lists.{is_place, some_is, different}
use Rattle.pass_walk.specs.declared.walker.Living.{Living}
use Rattle.pass_walk.specs.declared.walker.Walker.{Walker}
use Rattle.pass_walk.specs.declared.walker.Walker.TheVariants as walker
use Rattle.pass_walk.specs.Causes.{IsCauseOf}
use Rattle.pass_turns.specs.Tasks.{task_of}
use Rattle.pass_turns.specs.Turners.{HasLiving, IsKnown, IsStill, TurnerState}
use Rattle.pass_walk.specs.Walkers.{IsWalkerOf, member_of, left_member}
use Rattle.pass_walk.proofs.LeftLemmas.{left_at_some}
use Rattle.pass_entry.proofs.Places.{Contains-at}

pub known : {J : Type 0} (session : Session) (places : ℕ) (lines : List TraceLine) (w : Walker J) (turns : ℕ) (last : Option Turn) (waits : Bool) → IsWalkerOf session places (plain_trace lines) w → IsKnown session places (task_of lines w turns last waits)
known session places lines (walker.Living l) turns last waits is = record {
  makes = is.local.makes;
  ended = λ h. absurd (let z : false ≡ true = h in cc);
  through = λ h. (let z = left_at_some (plain_trace lines) l.process l.line in absurd (omega (arith, z, h)));
  living = λ h. is.local.living;
  cause = λ c h. absurd (let z : None ≡ Some c = h in cc);
}
known session places lines (walker.Ended e) turns last waits is = record {
  makes = is.makes;
  ended = λ h. is.over;
  through = λ h. refl;
  living = λ h. absurd (let z : true ≡ false = h in cc);
  cause = λ c h. absurd (let z : None ≡ Some c = h in cc);
}
known session places lines (walker.Left l) turns last waits is = record {
  makes = is.makes;
  ended = λ h. absurd (let z : false ≡ true = h in cc);
  through = λ h. (let z = is.some in absurd (omega (arith, z, h)));
  living = λ h. is.living;
  cause = λ c h. subst (λ c. IsCauseOf session places (plain_trace lines) (left_member l) c) (some_is l.cause c h) is.cause;
}
known session places lines walker.Gone turns last waits is = absurd is

-- a living process that waits, and has seen as much
pub still_walker : {J : Type 0} (count : ℕ) (session : Session) (lines : List TraceLine) (w : Walker J) (turns : ℕ) (last : Option Turn) (waits : Bool) (l : Living J) → w ≡ walker.Living l
    → (waits ≡ true → Waits session (plain_trace lines) (member_of w)) → waits ≡ true → length l.proc.seen ≡ count → IsStill session count (task_of lines w turns last waits)
still_walker count session lines w turns last waits l is fact so size = record {
  ended = λ h. absurd (let z : false ≡ true = ap (λ w. (member_of w).ended) (sym is) ∙ h in cc);
  living = λ h. ap (λ w. length (member_of w).seen) is ∙ size;
  waits = λ h. fact so;
}

pub rises_some : (a b : ℕ) → Rises a b → false ≡ (b == 0)
rises_some a b (inl less) = sym (different b 0 (λ z. omega (arith, z, less)))
rises_some a b (inr top) = sym (different b 0 (λ z. let y = top.1 in omega (arith, z, y)))

-- the task at that place lives
pub some_living : (tasks : List TurnerState) (place : ℕ) → place < length tasks → ((t : TurnerState) → slice_get tasks place ≡ Some t → (t.ended ≡ false) × (t.cause ≡ None)) → HasLiving tasks
some_living tasks place within lives =
    let (t, at) = is_place tasks place within in
    record { one = t; among = Contains-at tasks place t at; lives = (lives t at).0 }
