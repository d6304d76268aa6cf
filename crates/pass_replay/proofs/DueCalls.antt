-- The call that is due in a replay.
use Rattle.std.proofs.Common.{◌≡◌, ◌-◌, ℕ, List, [], ◌∷◌, length, filter, refl, ap, sym, ◌∙◌, Bool, true, false, ◌==◌}
use Rattle.std.specs.Prelude.{Option, Some, None, find, is_some, slice_get}
use Rattle.std.specs.Option.{option_map_or, option_or}
use Rattle.pass_entry.specs.declared.entry.Entry.{Entry}
use Rattle.pass_plain.specs.Histories.{call_entries}
use Rattle.pass_plain.specs.Sessions.{Session}
use Rattle.pass_plain.specs.Calls.{Step}
use Rattle.pass_plain.specs.Replies.{reply_to}
use Rattle.pass_plain.specs.Traces.{Line, calls_of}
use Rattle.pass_plain.specs.Runs.{CanMove, next_number, pnode_of_process, steps_at}
use Rattle.pass_entry.proofs.Places.{found_at}
use Rattle.pass_entry.proofs.Variants.{some_of}
use Rattle.pass_plain.proofs.Lists.{alike, both_true, filtered, in_filtered, same_numbers, true_left, true_right}
use Rattle.pass_replay.specs.Orders.{Place, places_in_order, is_step_ready, is_ready_by, is_ready, is_last, due}

-- what a test of something that may be missing says
pub passes : {X : Type 0} (test : X → Bool) (o : Option X) → option_map_or test o false ≡ true → (x : X) × (o ≡ Some x) × (test x ≡ true)
passes test None is = absurd (let z : false ≡ true = is in cc)
passes test (Some x) is = (x, refl, is)

pub passes_at : {X : Type 0} (test : X → Bool) (o : Option X) (x : X) → o ≡ Some x → test x ≡ true → option_map_or test o false ≡ true
passes_at test o x is has = ap (λ o. option_map_or test o false) is ∙ has

-- who stands at a call that is ready can move
pub ready_moves : (session : Session) (trace : List Line) (history : List Entry) (c : Place) → is_ready session trace history c ≡ true
    → (can : CanMove session trace history c.0) × (next_number history can.who ≡ c.1)
ready_moves session trace history c ready =
    let (who, begun, by) = passes (is_ready_by session trace history c) (pnode_of_process session trace history c.0) ready in
    let number : next_number history who ≡ c.1 = same_numbers (next_number history who) c.1 (true_left _ _ by) in
    let (call, line, test) = passes (is_step_ready session trace history who c.1) (slice_get (calls_of trace c.0) (c.1 - 1)) (true_right (next_number history who == c.1) _ by) in
    let (step, stands, some) = passes (λ (s : Step). is_some (reply_to session history s.0 s.1)) (slice_get (steps_at session trace history who c.1 call) (length (call_entries history who c.1))) test in
    let (reply, is) = some_of (reply_to session history step.0 step.1) some in (
      record {
        who = who;
        begun = begun;
        call = call;
        next = ap (λ n. slice_get (calls_of trace c.0) (n - 1)) number ∙ line;
        step = step;
        stands = ap (λ n. slice_get (steps_at session trace history who n call) (length (call_entries history who n))) number ∙ stands;
        reply = reply;
        ready = is;
      },
      number,
    )

-- and who can move stands at a call that is ready
pub moves_ready : (session : Session) (trace : List Line) (history : List Entry) (process : ℕ) (can : CanMove session trace history process)
    → is_ready session trace history (process, next_number history can.who) ≡ true
moves_ready session trace history process can =
    let number : ℕ = next_number history can.who in
    passes_at (is_ready_by session trace history (process, number)) (pnode_of_process session trace history process) can.who can.begun
    (both_true (number == number) (option_map_or (is_step_ready session trace history can.who number) (slice_get (calls_of trace process) (number - 1)) false) (alike number number refl)
    (passes_at (is_step_ready session trace history can.who number) (slice_get (calls_of trace process) (number - 1)) can.call can.next
    (passes_at (λ (s : Step). is_some (reply_to session history s.0 s.1)) (slice_get (steps_at session trace history can.who number can.call) (length (call_entries history can.who number))) can.step can.stands
    (ap (λ o. is_some o) can.ready))))

-- What is due is one of those that are ready

pub first_or : {X : Type 0} (p : X → Bool) (xs : List X) (x : X) → option_or (find p xs) (slice_get xs 0) ≡ Some x → (k : ℕ) × (slice_get xs k ≡ Some x)
first_or {X = X} p xs x is = at_test (find p xs) refl is
  where
    at_test : (o : Option X) → find p xs ≡ o → option_or o (slice_get xs 0) ≡ Some x → (k : ℕ) × (slice_get xs k ≡ Some x)
    at_test None t is = (0, is)
    at_test (Some y) t is = found_at p xs x (t ∙ is)

pub none_or : {X : Type 0} (p : X → Bool) (xs : List X) → option_or (find p xs) (slice_get xs 0) ≡ None → xs ≡ []
none_or p [] is = refl
none_or {X = X} p (x ∷ xs) is = at_test (find p (x ∷ xs)) is
  where
    at_test : (o : Option X) → option_or o (Some x) ≡ None → x ∷ xs ≡ []
    at_test None is = absurd (cc)
    at_test (Some y) is = absurd (cc)

-- the call that is due is ready
pub due_ready : (session : Session) (trace : List Line) (history : List Entry) (c : Place) → due session trace history ≡ Some c
    → (is_ready session trace history c ≡ true) × (k : ℕ) × (slice_get (places_in_order trace) k ≡ Some c)
due_ready session trace history c is =
    let (k, at) = first_or (is_last session trace history) (filter (is_ready session trace history) (places_in_order trace)) c is in
    filtered (is_ready session trace history) (places_in_order trace) k c at

-- where none is due, no call of the text is ready
pub none_ready : (session : Session) (trace : List Line) (history : List Entry) (k : ℕ) (c : Place) → due session trace history ≡ None
    → slice_get (places_in_order trace) k ≡ Some c → is_ready session trace history c ≡ true → ⊥
none_ready session trace history k c none at ready =
    let empty = none_or (is_last session trace history) (filter (is_ready session trace history) (places_in_order trace)) none in
    let (j, there) = in_filtered (is_ready session trace history) (places_in_order trace) k c at ready in
    let z : None ≡ Some c = ap (λ (xs : List Place). slice_get xs j) (sym empty) ∙ there in cc
