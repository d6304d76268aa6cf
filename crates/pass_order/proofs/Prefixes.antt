-- Beginnings of histories, and what they keep of one process.
use Rattle.std.proofs.Common.{◌≡◌, ◌<◌, ◌≤◌, ◌+◌, ℕ, List, length, refl, ap, arith, ◌∙◌, Bool, true, false, ◌==◌, cond}
use Rattle.std.specs.Prelude.{Some, slice_get}
use mathlib.Core.List.{IsPrefix}
use Rattle.pass_entry.specs.declared.entry.Entry.{Entry}
use Rattle.pass_entry.proofs.Places.{within_front}
use Rattle.pass_plain.specs.Lawful.{AgreeBy}
use Rattle.pass_plain.specs.Legal.{is_over, last_number}
use Rattle.pass_plain.specs.Runs.{next_number}
use Rattle.pass_plain.proofs.Lists.{same_itself, same_numbers}
use Rattle.pass_plain.proofs.TwoPrefixes.{none_later}
use Rattle.pass_book.proofs.Prefixes.{between}

-- an entry by who has made no more since
pub own_early : (who : ℕ) (old new : List Entry) → IsPrefix old new → AgreeBy who old new → (n : ℕ) (e : Entry) → slice_get new n ≡ Some e → e.who ≡ who → (n < length old) × (slice_get old n ≡ Some e)
own_early who old new begins agrees n e at by =
    within_front (λ (e : Entry). e.who == who) old begins.0 new n e begins.1 (none_later (λ (e : Entry). e.who == who) old begins.0 new begins.1 agrees) at (ap (λ w. w == who) by ∙ same_itself who)

-- what holds up to a later history holds up to one between
pub agree_between : (who : ℕ) (a b c : List Entry) → IsPrefix a b → IsPrefix b c → AgreeBy who a c → AgreeBy who a b
agree_between who a b c f g agrees = between (λ (e : Entry). e.who == who) a b c f g agrees

-- The number of a process's next call

least_by : (none over : Bool) (last : ℕ) → (last == 0) ≡ none → last ≤ cond none 1 (cond over (last + 1) last)
least_by true over last t = (let z = same_numbers last 0 t in omega (arith, z))
least_by false true last t = omega arith
least_by false false last t = omega arith

pub next_least : (history : List Entry) (who : ℕ) → last_number history who ≤ next_number history who
next_least history who = least_by (last_number history who == 0) (is_over history who (last_number history who)) (last_number history who) refl
