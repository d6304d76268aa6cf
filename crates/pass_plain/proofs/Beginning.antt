-- A process begins once.
use Rattle.std.proofs.Common.{◌≡◌, ◌+◌, ℕ, zero, suc, List, [], ◌∷◌, length, take, refl, ap, sym, ◌∙◌, subst, arith, ◌⊎◌, inl, inr, true, false, ◌==◌}
use Rattle.std.specs.Prelude.{Some, None, slice_get}
use Rattle.std.specs.Option.{option_map_or}
use Rattle.std.specs.List.{enumerate_from}
use Rattle.std.proofs.lemmas.Option.{slice_get_within}
use Rattle.pass_entry.specs.declared.entry.Entry.{Entry}
use Rattle.pass_entry.specs.declared.entry.Act.{Act}
use Rattle.pass_entry.specs.declared.entry.Act.TheVariants as act
use Rattle.pass_entry.specs.declared.entry.Reply.{Reply}
use Rattle.pass_entry.specs.declared.entry.Reply.TheVariants as answer
use Rattle.pass_entry.specs.declared.entry.CallName.{CallName}
use Rattle.pass_entry.specs.declared.entry.CallName.TheVariants as call
use Rattle.pass_entry.specs.declared.objects.Kind.{Kind}
use Rattle.pass_entry.specs.declared.objects.Kind.TheVariants as kind
use Rattle.pass_entry.proofs.Places.{slice_get-take}
use Rattle.pass_plain.specs.Histories.{is_fault, pnode_of, made_kind, made_object, is_of_call, call_entries}
use Rattle.pass_plain.specs.Sessions.{Session}
use Rattle.pass_plain.specs.Processes.{Held, begins, has_begun}
use Rattle.pass_plain.specs.Registries.{registry_after, next_pnode}
use Rattle.pass_plain.specs.Calls.{Step, act_on, name_of, call_steps}
use Rattle.pass_plain.specs.declared.request.Request.{Request}
use Rattle.pass_plain.specs.declared.request.Request.TheVariants as requests
use Rattle.pass_plain.specs.Legal.{IsLegal, MayFollow, before_call, is_start}
use Rattle.pass_plain.proofs.Lists.{some_is, both_true, same_itself, same_numbers, in_filtered, in_enumerated, any_at}
use Rattle.pass_plain.proofs.Rows.{Row, row_of_step}
use Rattle.pass_plain.proofs.Calling.{legal_take, row, made_step, steps_by, step_next, step_made, acts-cases}
use Rattle.pass_plain.proofs.Making.{made_reply, made_once}

-- an entry of the history is one of its call's
pub in_call : (history : List Entry) (i : ℕ) (f : Entry) (who number : ℕ) → slice_get history i ≡ Some f → f.who ≡ who → f.number ≡ number
    → (j : ℕ) × (slice_get (call_entries history who number) j ≡ Some (i, f))
in_call history i f who number at w n =
    in_filtered (λ s. is_of_call who number s.1) (enumerate_from 0 history) i (i, f)
    (in_enumerated 0 history i f at ∙ ap (λ m. Some (m, f)) (let z : 0 + i ≡ i = omega arith in z))
    (both_true (f.who == who) (f.number == number) (ap (λ x. x == who) w ∙ same_itself who) (ap (λ x. x == number) n ∙ same_itself number))

start_of : (r : Request) → name_of r ≡ call.Start → r ≡ requests.Start
start_of requests.Start e = refl
start_of _ e = absurd (cc)

one_step : (s t : Step) (k : ℕ) → slice_get (s ∷ []) k ≡ Some t → s ≡ t
one_step s t zero e = some_is _ _ e
one_step s t (suc k) e = absurd (cc)

-- the entry of `Start` makes a process
pub start_mints : (session : Session) (history : List Entry) (e : Entry) → MayFollow session history e → e.call ≡ call.Start → e.act ≡ act.Mint kind.Process
start_mints session history e next is =
    let made = call_entries history e.who e.number in
    let p = before_call history e.who e.number in
    let at = step_next e.who p made (call_steps e.who p made next.step.request) (e.what, e.act) next.step.steps in
    let only = subst (λ r. slice_get (call_steps e.who p made r) (length made) ≡ Some (act_on e.what e.act)) (start_of next.step.request (next.step.named ∙ is)) at in
    sym (ap (λ (s : Step). s.1) (one_step (act_on 0 (act.Mint kind.Process)) (act_on e.what e.act) (length made) only))

-- an act that makes an object, and is no fault, has made the pnode of its reply
object_of : (a : Act) (y : Reply) (n : ℕ) (k : Kind) → made_kind a ≡ Some k → y ≡ answer.Made n → made_object a y ≡ Some (pnode_of y)
object_of a y n k is e = ap (λ y. made_object a y) e ∙ ap (λ o. option_map_or (λ k. Some n) o None) is ∙ ap (λ y. Some (pnode_of y)) (sym e)

pub mint_answer : (session : Session) (history : List Entry) (i : ℕ) (f : Entry) (k : Kind) → IsLegal session history → slice_get history i ≡ Some f
    → made_kind f.act ≡ Some k → is_fault f.reply ≡ false → made_object f.act f.reply ≡ Some (pnode_of f.reply)
mint_answer session history i f k legal at is done =
    object_of f.act f.reply (next_pnode session (registry_after session (take i history))) k is (made_reply session (take i history) f.what f.act f.reply (legal i f at).replied done k is)

-- the entry that made a process
pub record IsMaker (history : List Entry) (object : ℕ) : Type 0 where
  pub place : ℕ
  pub maker : Entry
  pub stands : slice_get history place ≡ Some maker
  pub makes : made_object maker.act maker.reply ≡ Some object
  pub mints : maker.act ≡ act.Mint kind.Process

-- a child was made by the call by which it is born
pub born_of : (session : Session) (history : List Entry) (e : Entry) (out : ℕ) (descriptors : Held) → IsLegal session history → MayFollow session history e → e.act ≡ act.Born out descriptors
    → (m : IsMaker history e.what) × (m.maker.who ≡ e.who) × (m.maker.number ≡ e.number) × (m.maker.call ≡ e.call)
born_of session history e out descriptors legal next is =
    let made = call_entries history e.who e.number in
    let p = before_call history e.who e.number in
    let steps = steps_by session history e legal next in
    let r = subst (λ a. Row e.who p made steps (length made) e.what a) is (row session history e legal next) in
    let (m, found, stands, what, same, done, who, number, called) = made_step session history e legal next 0 (act_on 0 (act.Mint kind.Process)) (let b = r.1 in omega (arith, b)) r.5 in
    let child : e.what ≡ pnode_of m.1.reply = r.0 ∙ ap (λ o. option_map_or (λ (s : ℕ × Entry). pnode_of s.1.reply) o 0) found in
    let makes = mint_answer session history m.0 m.1 kind.Process legal stands (ap made_kind same) done in
    (record { place = m.0; maker = m.1; stands = stands; makes = makes ∙ ap (λ n. Some n) (sym child); mints = same }, who, number, called)

pub begins-cases : (object : ℕ) (c : CallName) (a : Act) (what : ℕ) (y : Reply) → begins object c a what y ≡ true
    → ((c ≡ call.Start) × (y ≡ answer.Made object)) ⊎ ((out : ℕ) × (descriptors : Held) × (a ≡ act.Born out descriptors) × (what ≡ object))
begins-cases object call.Start a what (answer.Made n) h = inl (refl, ap (λ n. answer.Made n) (same_numbers n object h))
begins-cases object call.Start a what _ h = absurd (cc)
begins-cases object _ (act.Born out descriptors) what y h = inr (out, descriptors, refl, same_numbers what object h)
begins-cases object _ _ what y h = absurd (cc)

-- the maker of a process that has begun, and how it began
abbrev Begun : Session → List Entry → ℕ → Type 0
Begun session history object =
    (m : IsMaker history object) × ((m.maker.call ≡ call.Start) ⊎ ((i : ℕ) × (f : Entry) × (out : ℕ) × (descriptors : Held) × (slice_get history i ≡ Some f)
    × (f.act ≡ act.Born out descriptors) × (f.who ≡ m.maker.who) × (f.number ≡ m.maker.number)))

pub begun_by : (session : Session) (history : List Entry) (object : ℕ) → IsLegal session history → has_begun history object ≡ true → Begun session history object
begun_by session history object legal begun =
    let (i, f, at, by) = any_at (λ e. begins object e.call e.act e.what e.reply) history begun in
    elim (begins-cases object f.call f.act f.what f.reply by) [
      | inl s ↦
          let mint = start_mints session (take i history) f (legal i f at) s.0 in
          (record { place = i; maker = f; stands = at; makes = object_of f.act f.reply object kind.Process (ap made_kind mint) s.1 ∙ ap (λ y. Some (pnode_of y)) s.1; mints = mint }, inl s.0)
      | inr b ↦
          let (m, who, number, called) = born_of session (take i history) f b.0 b.1 (legal_take session history i legal) (legal i f at) b.2 in (
            record { place = m.place; maker = m.maker; stands = slice_get-take i m.place history m.maker m.stands; makes = m.makes ∙ ap (λ n. Some n) b.3; mints = m.mints },
            inr (i, f, b.0, b.1, at, b.2, sym who, sym number),
          )
    ]

-- a process that has begun is not born
pub no_rebirth : {C : Type 0} (session : Session) (history : List Entry) (e : Entry) (out : ℕ) (descriptors : Held) → IsLegal session history → MayFollow session history e
    → e.act ≡ act.Born out descriptors → has_begun history e.what ≡ true → C
no_rebirth session history e out descriptors legal next is begun =
    let (m, who, number, called) = born_of session history e out descriptors legal next is in
    let (g, how) = begun_by session history e.what legal begun in
    let place : g.place ≡ m.place = made_once session history g.place m.place g.maker m.maker e.what legal g.stands m.stands g.makes m.makes in
    let same : g.maker ≡ m.maker = some_is _ _ (sym g.stands ∙ ap (λ n. slice_get history n) place ∙ m.stands) in
    let made = call_entries history e.who e.number in
    let p = before_call history e.who e.number in
    let steps = steps_by session history e legal next in
    elim how [
      | inl s ↦ elim (acts-cases history e next.acts) [
        | inl a ↦ absurd (let z : slice_get [] m.place ≡ Some m.maker = ap (λ h. slice_get h m.place) (sym a.1) ∙ m.stands in cc)
        | inr a ↦ absurd (let z : false ≡ true = sym a.0 ∙ ap is_start (sym called ∙ ap (λ (f : Entry). f.call) (sym same) ∙ s) in cc)
      ]
      | inr b ↦
          let (i, f, o, ds, at, born, by, its) = b in
          let (j, found) = in_call history i f e.who e.number at (by ∙ ap (λ (f : Entry). f.who) same ∙ who) (its ∙ ap (λ (f : Entry). f.number) same ∙ number) in
          let step = step_made made steps (e.what, e.act) next.step.steps j (i, f) found in
          let r = subst (λ a. Row e.who p made steps j f.what a) born (row_of_step e.who p made next.step.request next.step.within j (f.what, f.act) step) in
          let last = slice_get_within steps (length made) (e.what, e.act) (step_next e.who p made steps (e.what, e.act) next.step.steps) in
          let short = slice_get_within made j (i, f) found in
          let end = r.2 in
          absurd (omega (arith, last, short, end))
    ]
