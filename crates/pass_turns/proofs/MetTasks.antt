-- Tasks whose processes have met.
use Rattle.std.proofs.Common.{◌≡◌, ◌≤◌, ℕ, List, length, refl, ap, sym, ◌∙◌, subst, arith, inl, inr, Bool, true, false}
use Rattle.std.specs.Prelude.{Option, Some, None}
use Rattle.pass_plain.specs.Sessions.{Session}
use Rattle.pass_sched.specs.declared.task.Turn.{Turn}
use Rattle.pass_trace.specs.TraceLines.{plain_trace}
use Rattle.pass_trace.specs.declared.trace.TraceLine.{TraceLine}
use Rattle.pass_walk.specs.declared.walker.Living.{Living}
use Rattle.pass_walk.specs.declared.walker.Ended.{Ended as EndedProcess}
use Rattle.pass_walk.specs.declared.walker.Walker.{Walker}
use Rattle.pass_walk.specs.declared.walker.Walker.TheVariants as walker
use Rattle.pass_walk.specs.Lefts.{left_at}
use Rattle.pass_walk.specs.Meetings.{HaveMet}
use Rattle.pass_turns.specs.Meetings.{IsLater}
use Rattle.pass_turns.specs.Tasks.{task_of}
use Rattle.pass_walk.specs.Walkers.{IsWalkerOf, cause_of, member_of}
use Rattle.pass_walk.proofs.Meetings.{seen_more}
use Rattle.pass_turns.proofs.Meetings.{later_same, turned_more}

pub record HaveMetSo {J : Type 0} (session : Session) (places : ℕ) (lines others : List TraceLine) (v w : Walker J) (r : Walker J × Walker J) : Type 0 where
  pub first_is : IsWalkerOf session places (plain_trace lines) r.0
  pub second_is : IsWalkerOf session places (plain_trace others) r.1
  pub first : (turns : ℕ) (last : Option Turn) (waits : Bool) → IsLater (task_of lines v turns last waits) (task_of lines r.0 turns last false)
  pub second : (turns : ℕ) (last : Option Turn) (waits : Bool) → IsLater (task_of others w turns last waits) (task_of others r.1 turns last false)
  pub met : (member_of v).ended ≡ false → cause_of v ≡ None → (member_of r.1).ended ≡ true → length (member_of r.1).seen ≤ length (member_of r.0).seen

module _ {J : Type 0} (session : Session) (places : ℕ) (lines others : List TraceLine) where
  stays : (ls : List TraceLine) (v : Walker J) (turns : ℕ) (last : Option Turn) (waits : Bool) → IsLater (task_of ls v turns last waits) (task_of ls v turns last false)
  stays ls v turns last waits =
      let same = later_same (task_of ls v turns last waits) in
      record {
        turned = record {
          lines = refl;
          process = refl;
          who = refl;
          begins = same.turned.begins;
          new_tasks = same.turned.new_tasks;
          births = same.turned.births;
        };
        ended = refl;
        left = refl;
        cause = refl;
      }

  apart : (v w : Walker J) (r : Walker J × Walker J) → r ≡ (v, w) → IsWalkerOf session places (plain_trace lines) v → IsWalkerOf session places (plain_trace others) w
      → ((member_of v).ended ≡ false → cause_of v ≡ None → (member_of w).ended ≡ true → length (member_of w).seen ≤ length (member_of v).seen) → HaveMetSo session places lines others v w r
  apart v w r same is_v is_w met = subst (λ r. HaveMetSo session places lines others v w r) (sym same) (record {
    first_is = is_v;
    second_is = is_w;
    first = stays lines v;
    second = stays others w;
    met = met;
  })

  together : (l : Living J) (e : EndedProcess J) (r : Walker J × Walker J) → HaveMet session (plain_trace lines) (walker.Living l) (walker.Ended e) r → IsWalkerOf session places (plain_trace lines) (walker.Living l) → IsWalkerOf session places (plain_trace others) (walker.Ended e)
      → HaveMetSo session places lines others (walker.Living l) (walker.Ended e) r
  together l e r (m, f, same, inl (first, second, less)) is_l is_e =
      apart (walker.Living l) (walker.Ended e) r (same ∙ (λ i. (walker.Living (first i), walker.Ended (second i)))) is_l is_e (λ lives no_cause ended. less)
  together l e r (m, f, same, inr (on, more, one)) is_l is_e = subst (λ r. HaveMetSo session places lines others (walker.Living l) (walker.Ended e) r) (sym same) (record {
    first_is = on.living;
    second_is = seen_more session (plain_trace others) e f is_e more;
    first = λ turns last waits. record {
      turned = turned_more session (task_of lines (walker.Living l) turns last waits) (task_of lines (walker.Living m) turns last false) refl on.process on.who on.looked.legal on.looked.begins (sym on.looked.own);
      ended = refl;
      left = ap (λ p. left_at (plain_trace lines) p m.line) on.process ∙ ap (λ o. left_at (plain_trace lines) l.process o) on.line;
      cause = refl;
    };
    second = λ turns last waits. record {
      turned = turned_more session (task_of others (walker.Ended e) turns last waits) (task_of others (walker.Ended f) turns last false) refl more.process more.who more.legal more.begins more.agrees;
      ended = refl;
      left = refl;
      cause = refl;
    };
    met = λ lives no_cause ended. (let z = ap length one in omega (arith, z));
  })

  pub met_so : (v w : Walker J) (r : Walker J × Walker J) → HaveMet session (plain_trace lines) v w r → IsWalkerOf session places (plain_trace lines) v → IsWalkerOf session places (plain_trace others) w → HaveMetSo session places lines others v w r
  met_so (walker.Living l) (walker.Ended e) r met is_v is_w = together l e r met is_v is_w
  met_so (walker.Living l) (walker.Living m) r met is_v is_w = apart (walker.Living l) (walker.Living m) r met is_v is_w (λ a b c. absurd (let z : false ≡ true = c in cc))
  met_so (walker.Living l) (walker.Left m) r met is_v is_w = apart (walker.Living l) (walker.Left m) r met is_v is_w (λ a b c. absurd (let z : false ≡ true = c in cc))
  met_so (walker.Living l) walker.Gone r met is_v is_w = absurd is_w
  met_so (walker.Ended e) w r met is_v is_w = apart (walker.Ended e) w r met is_v is_w (λ a b c. absurd (let z : true ≡ false = a in cc))
  met_so (walker.Left l) w r met is_v is_w = apart (walker.Left l) w r met is_v is_w (λ a b c. absurd (let z : Some l.cause ≡ None = b in cc))
  met_so walker.Gone w r met is_v is_w = absurd is_v
