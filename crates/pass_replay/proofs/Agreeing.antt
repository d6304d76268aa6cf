-- Two replays of a trace have the same entries.
use Rattle.std.proofs.Common.{◌≡◌, ◌≤◌, ◌+◌, ◌-◌, ℕ, zero, suc, List, [], ◌∷◌, ◌++◌, length, take, refl, ap, sym, ◌∙◌, subst, arith, inl, inr, true, false, ◌==◌}
use Rattle.std.specs.Prelude.{Some, None, slice_get}
use Rattle.std.proofs.lemmas.List.{take_all}
use Rattle.pass_entry.specs.declared.entry.Act.TheVariants as act
use Rattle.pass_entry.specs.declared.entry.CallName.TheVariants as call_name
use Rattle.pass_entry.specs.declared.entry.Entry.{Entry}
use Rattle.pass_entry.specs.declared.objects.Kind.TheVariants as kind
use Rattle.pass_entry.proofs.Places.{take_one_more}
use Rattle.pass_plain.specs.declared.request.Request.{Request}
use Rattle.pass_plain.specs.declared.request.Request.TheVariants as requests
use Rattle.pass_plain.specs.Histories.{call_entries}
use Rattle.pass_plain.specs.Sessions.{Session}
use Rattle.pass_plain.specs.Replies.{reply_to}
use Rattle.pass_plain.specs.Calls.{Step, call_steps, name_of}
use Rattle.pass_plain.specs.Legal.{MayFollow, before_call}
use Rattle.pass_plain.specs.Traces.{Line, LineCall, calls_of}
use Rattle.pass_plain.specs.Runs.{pnode_of_process, request_at}
use Rattle.pass_plain.proofs.Calling.{acts-cases, step_next}
use Rattle.pass_plain.proofs.Lists.{is_place, le_or_above, same_numbers, some_is, true_left, true_right}
use Rattle.pass_plain.proofs.OtherCalls.{start_named}
use Rattle.pass_replay.specs.Lines.{AreLinesBehind}
use Rattle.pass_replay.specs.Making.{IsNextEntry}
use Rattle.pass_replay.specs.Orders.{AgreeLaw, IsReplay, IsWholeReplay, OneReplayLaw, Place, due, is_entry_of}
use Rattle.pass_replay.proofs.DueCalls.{passes}
use Rattle.pass_replay.proofs.RunSteps.{call_at, counted, follows, is_next}

same_entry : (e f : Entry) → e.who ≡ f.who → e.number ≡ f.number → e.call ≡ f.call → e.what ≡ f.what → e.act ≡ f.act → e.reply ≡ f.reply → e ≡ f
same_entry e f who number call what a reply = λ i. record { who = who i; number = number i; call = call i; what = what i; act = a i; reply = reply i }

-- The first entry of a history

start_of : (r : Request) → name_of r ≡ call_name.Start → r ≡ requests.Start
start_of requests.Start is = refl
start_of _ is = absurd (cc)

only_step : (s t : Step) (k : ℕ) → slice_get (s ∷ []) k ≡ Some t → s ≡ t
only_step s t zero at = some_is s t at
only_step s t (suc k) at = absurd (cc)

pub record IsFirst (e : Entry) : Type 0 where
  pub who : e.who ≡ 0
  pub number : e.number ≡ 0
  pub call : e.call ≡ call_name.Start
  pub what : e.what ≡ 0
  pub makes : e.act ≡ act.Mint kind.Process

pub first_is : (session : Session) (e : Entry) → MayFollow session [] e → IsFirst e
first_is session e follows = elim (acts-cases [] e follows.acts) [
  | inr goes ↦ absurd (let z : false ≡ true = goes.1 in cc)
  | inl start ↦
      let named : e.call ≡ call_name.Start = start_named e.call start.0 in
      let made = call_entries [] e.who e.number in
      let p = before_call [] e.who e.number in
      let at = step_next e.who p made (call_steps e.who p made follows.step.request) (e.what, e.act) follows.step.steps in
      let only : slice_get ((0, act.Mint kind.Process) ∷ []) (length made) ≡ Some (e.what, e.act) =
      subst (λ (r : Request). slice_get (call_steps e.who p made r) (length made) ≡ Some (e.what, e.act)) (start_of follows.step.request (follows.step.named ∙ named)) at in
      let step = only_step (0, act.Mint kind.Process) (e.what, e.act) (length made) only in
      record { who = start.2; number = start.3; call = named; what = sym (ap (λ (s : Step). s.0) step); makes = sym (ap (λ (s : Step). s.1) step) }
]

pub same_first : (session : Session) (e f : Entry) → MayFollow session [] e → MayFollow session [] f → e ≡ f
same_first session e f one other =
    let a = first_is session e one in
    let b = first_is session f other in
    let what : e.what ≡ f.what = a.what ∙ sym b.what in
    let makes : e.act ≡ f.act = a.makes ∙ sym b.makes in
    same_entry e f (a.who ∙ sym b.who) (a.number ∙ sym b.number) (a.call ∙ sym b.call) what makes
    (some_is e.reply f.reply (sym one.replied ∙ (λ i. reply_to session [] (what i) (makes i)) ∙ other.replied))

-- Who makes an entry

pub entry_by : (session : Session) (trace : List Line) (history : List Entry) (e : Entry) (c : Place) → is_entry_of session trace history e c ≡ true
    → (e.number ≡ c.1) × (pnode_of_process session trace history c.0 ≡ Some e.who)
entry_by session trace history e c is =
    let (who, begun, same) = passes (λ who. e.who == who) (pnode_of_process session trace history c.0) (true_right (e.number == c.1) _ is) in
    (same_numbers e.number c.1 (true_left _ _ is), begun ∙ ap (λ w. Some w) (sym (same_numbers e.who who same)))

-- the step of a call, seen from the call
abbrev IsStepOf : Session → List Line → Place → LineCall → List Entry → ℕ → Entry → Type 0
IsStepOf session trace c call history who e =
    IsNextEntry who (c.1 - 1 + 1) (request_at session trace history who (c.1 - 1 + 1) call) (before_call history who (c.1 - 1 + 1)) (call_entries history who (c.1 - 1 + 1)) e

module _ (session : Session) (trace : List Line) (behind : AreLinesBehind [] trace) where
  -- an entry of a replay is the next step of the call that was due
  pub record IsDueAt (history : List Entry) (c : Place) (e : Entry) : Type 0 where
    pub call : LineCall
    pub line : slice_get (calls_of trace c.0) (c.1 - 1) ≡ Some call
    pub is : IsStepOf session trace c call history e.who e
    pub number : e.number ≡ c.1
    pub begun : pnode_of_process session trace history c.0 ≡ Some e.who
    pub follows : MayFollow session history e

  pub due_at : (history : List Entry) → IsReplay session trace history → (i : ℕ) (e : Entry) → slice_get history i ≡ Some e → 1 ≤ i → (c : Place)
      → is_entry_of session trace (take i history) e c ≡ true → IsDueAt (take i history) c e
  due_at history replay i e at some c of =
      let (number, begun) = entry_by session trace (take i history) e c of in
      let low = counted session trace behind history replay.run i e at some in
      let again : e.number ≡ c.1 - 1 + 1 = omega (arith, number, low) in
      let (call, there) = call_at session trace behind history replay.run i e at some c.0 begun in
      let line : slice_get (calls_of trace c.0) (c.1 - 1) ≡ Some call = ap (λ n. slice_get (calls_of trace c.0) (n - 1)) (sym number) ∙ there in
      record {
        call = call;
        line = line;
        is = is_next session trace behind history replay.run i e at some c.0 (c.1 - 1) call again begun line;
        number = number;
        begun = begun;
        follows = follows session trace behind history replay.run i e at some;
      }

  same_due : (history : List Entry) (c : Place) (e f : Entry) → IsDueAt history c e → IsDueAt history c f → e ≡ f
  same_due history c e f a b =
      let who : e.who ≡ f.who = some_is e.who f.who (sym a.begun ∙ b.begun) in
      let call : a.call ≡ b.call = some_is a.call b.call (sym a.line ∙ b.line) in
      let also : IsStepOf session trace c a.call history e.who f = subst (λ (x : LineCall × ℕ). IsStepOf session trace c x.0 history x.1 f) (λ i. ((sym call) i, (sym who) i)) b.is in
      let step : ◌≡◌ {A = Step} (e.what, e.act) (f.what, f.act) = some_is (e.what, e.act) (f.what, f.act) (sym a.is.step ∙ also.step) in
      same_entry e f who (a.number ∙ sym b.number) (a.is.call ∙ sym also.call) (ap (λ (s : Step). s.0) step) (ap (λ (s : Step). s.1) step)
      (some_is e.reply f.reply (sym a.follows.replied ∙ ap (λ (s : Step). reply_to session history s.0 s.1) step ∙ b.follows.replied))

  module _ (one : List Entry) (other : List Entry) (first : IsReplay session trace one) (second : IsReplay session trace other) where
    same_at : (n : ℕ) (e f : Entry) → slice_get one n ≡ Some e → slice_get other n ≡ Some f → take n one ≡ take n other → e ≡ f
    same_at zero e f at also same = same_first session e f (first.run.legal 0 e at) (second.run.legal 0 f also)
    same_at (suc n) e f at also same =
        let (c, due_c, of_c) = first.order (suc n) e (omega arith) at in
        let (d, due_d, of_d) = second.order (suc n) f (omega arith) also in
        let both : c ≡ d = some_is c d (sym due_c ∙ ap (λ h. due session trace h) same ∙ due_d) in
        let a = due_at one first (suc n) e at (omega arith) c of_c in
        let b = due_at other second (suc n) f also (omega arith) d of_d in
        same_due (take (suc n) one) c e f a (subst (λ (x : List Entry × Place). IsDueAt x.0 x.1 f) (λ i. ((sym same) i, (sym both) i)) b)

    pub agree : (n : ℕ) → n ≤ length one → n ≤ length other → take n one ≡ take n other
    agree zero le too = refl
    agree (suc n) le too =
        let (e, at) = is_place one n (omega (arith, le)) in
        let (f, also) = is_place other n (omega (arith, too)) in
        let same = agree n (omega (arith, le)) (omega (arith, too)) in
        take_one_more one n e at ∙ ap (λ h. h ++ e ∷ []) same ∙ ap (λ x. take n other ++ x ∷ []) (same_at n e f at also same) ∙ sym (take_one_more other n f also)

pub agree_law : AgreeLaw
agree_law session trace one other behind first second shorter =
    sym (take_all (length one) one (omega arith)) ∙ agree session trace behind one other first second (length one) (omega arith) shorter

-- a whole replay isn't shorter than another one
longest : (session : Session) (trace : List Line) (one other : List Entry) → AreLinesBehind [] trace → IsWholeReplay session trace one → IsReplay session trace other → length other ≤ length one
longest session trace one other behind whole second = elim (le_or_above (length other) (length one)) [
  | inl short ↦ short
  | inr more ↦
      let (e, at) = is_place other (length one) more in
      let (c, due_c, of_c) = second.order (length one) e (let z = whole.begun in omega (arith, z)) at in
      let same : one ≡ take (length one) other = agree_law session trace one other behind whole.replay second (omega (arith, more)) in
      absurd (let z : None ≡ Some c = sym whole.whole ∙ ap (λ h. due session trace h) same ∙ due_c in cc)
]

pub one_replay_law : OneReplayLaw
one_replay_law session trace one other behind first second =
    let less = longest session trace one other behind first second.replay in
    let more = longest session trace other one behind second first.replay in
    agree_law session trace one other behind first.replay second.replay more
    ∙ take_all (length one) other less
