-- No call is due exactly where no process can move.
use Rattle.std.proofs.Common.{◌≡◌, ◌≤◌, ◌+◌, ◌-◌, ℕ, List, length, refl, ap, sym, ◌∙◌, subst, arith, ◌⊎◌, inl, inr, true, not}
use Rattle.std.specs.Prelude.{Option, Some, None, slice_get}
use Rattle.std.specs.Option.{option_map_or}
use Rattle.std.proofs.lemmas.Option.{slice_get_within}
use Rattle.pass_entry.specs.declared.entry.Entry.{Entry}
use Rattle.pass_entry.proofs.Places.{Contains-at}
use Rattle.pass_plain.specs.Sessions.{Session}
use Rattle.pass_plain.specs.Legal.{is_over, last_number}
use Rattle.pass_plain.specs.Traces.{Line, fork_as, calls_of}
use Rattle.pass_plain.specs.Runs.{IsOfTrace, IsRun, first, forked_by, next_number}
use Rattle.pass_plain.proofs.Lists.{not_false}
use Rattle.pass_replay.specs.Ends.{NoneCanMove, NoneOpen}
use Rattle.pass_replay.specs.Orders.{EndLaw, Place, StillLaw, due, places_in_order}
use Rattle.pass_replay.proofs.Begun.{begun_or_forked}
use Rattle.pass_replay.proofs.DueCalls.{due_ready, moves_ready, none_ready, ready_moves}
use Rattle.pass_replay.proofs.NextCalls.{calls_length, over_within}
use Rattle.pass_replay.proofs.Stuck.{next_behind, next_some}
use Rattle.pass_replay.proofs.TextPlaces.{call_in, in_at}

none_moves : (session : Session) (trace : List Line) (history : List Entry) → due session trace history ≡ None → NoneCanMove session trace history
none_moves session trace history none process can =
    let number : ℕ = next_number history can.who in
    let some : 1 ≤ number = next_some (last_number history can.who) (is_over history can.who (last_number history can.who)) in
    let again : number - 1 + 1 ≡ number = omega (arith, some) in
    let (k, at) = in_at (places_in_order trace) (process, number - 1 + 1)
    (call_in trace process (number - 1) can.call (begun_or_forked session trace history process can.who can.begun) can.next) in
    none_ready session trace history k (process, number) none (at ∙ ap (λ n. Some (process, n)) again) (moves_ready session trace history process can)

none_due : (session : Session) (trace : List Line) (history : List Entry) → NoneCanMove session trace history → due session trace history ≡ None
none_due session trace history still = at_test (due session trace history) refl
  where
    at_test : (o : Option Place) → due session trace history ≡ o → due session trace history ≡ None
    at_test None is = is
    at_test (Some c) is = absurd (still c.0 (ready_moves session trace history c (due_ready session trace history c is).0).0)

pub still_law : StillLaw
still_law session trace history = (none_moves session trace history, none_due session trace history)

-- who can move is open
open_moves : (session : Session) (trace : List Line) (history : List Entry) → IsRun session trace history → NoneOpen session trace history → NoneCanMove session trace history
open_moves session trace history run none process can =
    let closed = none process (of_trace process (begun_or_forked session trace history process can.who can.begun)) in
    let over : is_over history can.who (length (calls_of trace process)) ≡ true =
    not_false (is_over history can.who (length (calls_of trace process)))
    (ap (λ o. option_map_or (λ who. not (is_over history who (length (calls_of trace process)))) o true) (sym can.begun) ∙ closed) in
    let least = over_within session history can.who (length (calls_of trace process)) run.legal over in
    let most = run.last process can.who can.begun in
    let last : last_number history can.who ≡ length (calls_of trace process) = omega (arith, least, most) in
    let ends : is_over history can.who (last_number history can.who) ≡ true = ap (λ n. is_over history can.who n) last ∙ over in
    let size = calls_length trace process in
    let number = next_behind (last_number history can.who) (is_over history can.who (last_number history can.who)) ends (omega (arith, last, size)) in
    let within = slice_get_within (calls_of trace process) (next_number history can.who - 1) can.call can.next in
    omega (arith, within, number, last)
  where
    of_trace : (p : ℕ) → (p ≡ 1) ⊎ ((k : ℕ) × (l : Line) × (slice_get trace k ≡ Some l) × (l.call ≡ fork_as p)) → IsOfTrace trace p
    of_trace p born = elim born [
      | inl is_first ↦ subst (λ p. IsOfTrace trace p) (sym is_first) first
      | inr forked ↦ forked_by forked.1 p (Contains-at trace forked.0 forked.1 forked.2) forked.3
    ]

pub end_law : EndLaw
end_law session trace history run none = none_due session trace history (open_moves session trace history run none)
