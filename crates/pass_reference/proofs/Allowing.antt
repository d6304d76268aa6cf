-- Whether a caller may make an entry, from what is kept of it.
use Rattle.std.proofs.Common.{◌≡◌, ◌<◌, ◌+◌, ℕ, zero, suc, List, [], refl, ap, sym, ◌∙◌, subst, arith, inl, inr, Bool, true, false, ◌&&◌, ◌||◌, not, ◌==◌, cond, ◌↔◌, IsTrue}
use Rattle.std.specs.Prelude.{Option, Some}
use Rattle.std.proofs.lemmas.Bool.Decides.{nat_tests}
use Rattle.pass_entry.specs.declared.entry.Entry.{Entry}
use Rattle.pass_entry.specs.declared.entry.Act.{Act}
use Rattle.pass_entry.specs.declared.entry.Act.TheVariants as act
use Rattle.pass_entry.specs.declared.entry.Reply.{Reply}
use Rattle.pass_plain.specs.Sessions.{Session}
use Rattle.pass_plain.specs.Replies.{reply_to}
use Rattle.pass_plain.specs.Histories.{call_entries}
use Rattle.pass_plain.specs.Processes.{Process, has_begun, has_ended}
use Rattle.pass_plain.specs.Calls.{Made, Step, act_on}
use Rattle.pass_plain.specs.Legal.{MayFollow, IsNextStep, CallerAllows, before_call, last_number, goes_on, ends_call, leaves_call, is_over, may_be_left, may_act, is_next_number, is_start, is_empty}
use Rattle.pass_plain.specs.States.{Call, IsLastCall, IsLawful}
use Rattle.pass_reference.specs.States.{call_of, IsCaller, may_go, AsksFew}
use Rattle.pass_reference.specs.declared.callers.Caller.{Caller}
use Rattle.pass_plain.proofs.Lists.{true_left, true_right, same_numbers, same_itself, not_true}
use Rattle.pass_plain.proofs.Calling.{numbered, goes_on-cases}
use Rattle.pass_plain.proofs.Playing.{before_new, no_calls}
use Rattle.pass_plain.proofs.Rows.{Row}
use Rattle.pass_plain.proofs.TwoPrefixes.{row_of_next}

-- where there is no call it does not matter how it stands
no_call : (number : ℕ) (a b c d : Bool) → goes_on number 0 a b ≡ goes_on number 0 c d
no_call number a b c d = refl

number_if : (history : List Entry) (who number : ℕ) (call : Call) → IsLastCall history who call → (last : ℕ) → call.number ≡ last
    → goes_on number last (ends_call call.before call.made) (leaves_call call.before call.made)
    ≡ goes_on number last (is_over history who last) (may_be_left history who last)
number_if history who number call is zero e = refl
number_if history who number call is (suc n) e =
    let some : 0 < call.number = omega (arith, e) in
    let before : call.before ≡ before_call history who (suc n) = is.before some ∙ ap (λ k. before_call history who k) e in
    let made : call.made ≡ call_entries history who (suc n) = is.made some ∙ ap (λ k. call_entries history who k) e in
    λ i. goes_on number (suc n) (ends_call (before i) (made i)) (leaves_call (before i) (made i))

next_number_is : (history : List Entry) (who number : ℕ) (call : Call) → IsLastCall history who call
    → goes_on number call.number (ends_call call.before call.made) (leaves_call call.before call.made)
    ≡ goes_on number (last_number history who) (is_over history who (last_number history who)) (may_be_left history who (last_number history who))
next_number_is history who number call is =
    number_if history who number call is call.number refl
    ∙ ap (λ last. goes_on number last (is_over history who last) (may_be_left history who last)) is.number

-- a caller other than the outside may act exactly where what is kept of it says so
pub may_go_is : (history : List Entry) (e : Entry) (c : Caller) → IsCaller history e.who c → is_start e.call ≡ false
    → may_go c.begun c.state (call_of c.call) e.number ≡ may_act history e
may_go_is history e c is other =
    (λ i. is.begun i && not (is.state i).ended && next_number_is history e.who e.number (call_of c.call) is.call i)
    ∙ sym (ap (λ b. cond b (is_empty history && e.who == 0 && e.number == 0) (has_begun history e.who && not (has_ended history e.who) && is_next_number history e)) other)

-- in a call that goes on, the state before it and its entries are those that are kept
pub in_last : (history : List Entry) (e : Entry) (c : Caller) → IsCaller history e.who c → (e.number == c.call.number) ≡ true
    → may_go c.begun c.state (call_of c.call) e.number ≡ true
    → (c.call.before ≡ before_call history e.who e.number) × (c.call.made.items ≡ call_entries history e.who e.number)
in_last history e c is same may =
    let call = call_of c.call in
    let goes = true_right (c.begun && not c.state.ended) _ may in
    let n : e.number ≡ c.call.number = same_numbers _ _ same in
    let first = ap (λ b. cond b (not (call.number == 0) && not (ends_call call.before call.made)) (e.number == call.number + 1 && (call.number == 0 || ends_call call.before call.made || leaves_call call.before call.made))) (sym same) ∙ goes in
    let none = not_true (call.number == 0) (true_left (not (call.number == 0)) (not (ends_call call.before call.made)) first) in
    let some : 0 < c.call.number = grind (arith, nat_tests) in
    (is.call.before some ∙ ap (λ k. before_call history e.who k) (sym n), is.call.made some ∙ ap (λ k. call_entries history e.who k) (sym n))

-- at a new call they are the state after the history, and none
pub at_new : (history : List Entry) (e : Entry) (c : Caller) → IsLawful history → IsCaller history e.who c → (e.number == c.call.number) ≡ false
    → may_go c.begun c.state (call_of c.call) e.number ≡ true
    → (c.state ≡ before_call history e.who e.number) × ([] ≡ call_entries history e.who e.number)
at_new history e c (session, sound, legal) is other may =
    let call = call_of c.call in
    let goes = true_right (c.begun && not c.state.ended) _ may in
    let next : e.number ≡ c.call.number + 1 = elim (goes_on-cases e.number c.call.number _ _ goes) [
      | inl a ↦ absurd (let z : true ≡ false = sym (ap (λ n. n == c.call.number) a.0 ∙ same_itself c.call.number) ∙ other in cc)
      | inr a ↦ a.0
    ] in
    let last = is.call.number in
    let none : call_entries history e.who e.number ≡ [] =
    no_calls history e.who e.number (λ i f at w k.
    let b = (numbered session history legal).below i f at in
    let s = ap (λ w. last_number history w) w in
    omega (arith, b, s, k, last, next)) in
    (is.state ∙ sym (before_new history e.who e.number none), sym none)

pub decided : (history : List Entry) (e : Entry) (b : Bool) (p : Process) (made : Made) → may_act history e ≡ true
    → p ≡ before_call history e.who e.number → made ≡ call_entries history e.who e.number
    → (IsTrue b ↔ IsNextStep e.who p made e.call (act_on e.what e.act)) → (IsTrue b ↔ CallerAllows history e)
decided history e b p made acts before entries is = (
  λ t. record { acts = acts; step = subst (λ made. IsNextStep e.who (before_call history e.who e.number) made e.call (e.what, e.act)) entries (subst (λ p. IsNextStep e.who p made e.call (e.what, e.act)) before (is.0 t)) },
  λ allows. is.1 (subst (λ p. IsNextStep e.who p made e.call (e.what, e.act)) (sym before) (subst (λ made. IsNextStep e.who (before_call history e.who e.number) made e.call (e.what, e.act)) (sym entries) allows.step)),
)

pub not_allowed : (history : List Entry) (e : Entry) (b : Bool) → b ≡ false → may_act history e ≡ false → (IsTrue b ↔ CallerAllows history e)
not_allowed history e b is never = (λ t. absurd (let z : true ≡ false = sym t ∙ is in cc), λ allows. absurd (let z : true ≡ false = sym allows.acts ∙ never in cc))

few_of_row : (who : ℕ) (p : Process) (made : Made) (steps : List Step) (k what : ℕ) (a : Act) → Row who p made steps k what a → AsksFew a
few_of_row who p made steps k what (act.Give at len) r = r.1
few_of_row who p made steps k what (act.Take len) r = r.1
few_of_row who p made steps k what _ r = tt

pub asks_few : (history : List Entry) (e : Entry) → CallerAllows history e → AsksFew e.act
asks_few history e allows =
    few_of_row e.who (before_call history e.who e.number) (call_entries history e.who e.number) _ _ e.what e.act
    (row_of_next e.who (before_call history e.who e.number) (call_entries history e.who e.number) e.call (e.what, e.act) allows.step)

-- an entry with a reply may come next exactly where that is the answer of its object
pub judged : (session : Session) (history : List Entry) (e : Entry) (o : Option Reply) → CallerAllows history e → o ≡ reply_to session history e.what e.act
    → (r : Reply) → (o ≡ Some r) ↔ MayFollow session history (record e { reply = r })
judged session history e o allows same r =
    (λ is. record { replied = sym same ∙ is; acts = allows.acts; step = allows.step }, λ may. same ∙ may.replied)
