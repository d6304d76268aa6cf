-- What the calls of a history cost at most, each by how many entries it has made.
use Rattle.std.proofs.Common.{◌≡◌, ◌∙◌, ◌==◌, ◌+◌, ◌*◌, ◌<◌, ◌≤◌, ℕ, zero, suc, Bool, true, false, cond, ◌⊎◌, min, List, [], ◌∷◌, ◌++◌, length, refl, ap, arith, inl, inr, length-append}
use Rattle.std.specs.Prelude.{Some, slice_get}
use Rattle.std.proofs.lemmas.Option.{slice_get_within}
use Rattle.pass_entry.specs.declared.entry.Entry.{Entry}
use Rattle.pass_entry.specs.declared.entry.Act.TheVariants as act
use Rattle.pass_entry.specs.declared.entry.CallName.TheVariants as call
use Rattle.pass_entry.specs.declared.objects.Descriptor.{Descriptor}
use Rattle.pass_entry.proofs.Places.{slice_get-last}
use Rattle.pass_plain.specs.declared.request.Request.{Request}
use Rattle.pass_plain.specs.declared.request.Request.TheVariants as requests
use Rattle.pass_plain.specs.Histories.{is_of_call, call_entries}
use Rattle.pass_plain.specs.Sessions.{Session}
use Rattle.pass_plain.specs.Sound.{IsSound}
use Rattle.pass_plain.specs.Processes.{Process}
use Rattle.pass_plain.specs.Calls.{Made, Step, act_on, name_of, call_steps, end_of, pipe_descriptors, place_at, pnode_at}
use Rattle.pass_plain.specs.Legal.{IsLegal, MayFollow, before_call, is_start}
use Rattle.pass_plain.specs.Records.{records_of, entry_records}
use Rattle.pass_plain.proofs.Lists.{some_is, both_true, same_itself, all_at}
use Rattle.pass_plain.proofs.Appends.{slice_get-append}
use Rattle.pass_plain.proofs.Calling.{legal_induction, call_entries-append, step_next, acts-cases}
use Rattle.pass_plain.proofs.Counts.{step_count_law}
use Rattle.pass_plain.proofs.OtherCalls.{most_is}
use Rattle.pass_range.proofs.Changing.{records-next}
use Rattle.pass_bounds.proofs.Arguments.{texts, pipe_steps}
use Rattle.pass_bounds.proofs.Images.{spellings-append}
use Rattle.pass_bounds.proofs.Lengths.{size, is_small, entry_size, small_entry}

-- the place of an entry in its call

-- a step is one of the first three, or small
abbrev IsEarly : ℕ → Step → Type 0
IsEarly k s = (k < 3) ⊎ (is_small s.1 ≡ true)

early : (who : ℕ) (p : Process) (made : Made) (r : Request) (k : ℕ) (s : Step) → slice_get (call_steps who p made r) k ≡ Some s → IsEarly k s
early who p made requests.Fork k s at =
    let join : Descriptor → Step = λ d. act_on d.pnode (act.Join (end_of d.mode)) in
    all_at IsEarly (call_steps who p made requests.Fork)
    (inl (omega arith), (inl (omega arith), pipe_steps IsEarly join (λ k d. inr refl) 2 (pipe_descriptors p) (act_on (pnode_at made 0) (act.Born (place_at made 1) p.descriptors)) (λ k. inr refl))) k s at
early who p made requests.Exit k s at =
    let leave : Descriptor → Step = λ d. act_on d.pnode (act.Leave (end_of d.mode)) in
    all_at IsEarly (call_steps who p made requests.Exit) (pipe_steps IsEarly leave (λ k d. inr refl) 0 (pipe_descriptors p) (act_on who act.Finish) (λ k. inr refl)) k s at
early who p made r k s at =
    let within = slice_get_within (call_steps who p made r) k s at in
    let few = step_count_law who p made r in
    inl (omega (arith, within, few))

module _ (session : Session) (history : List Entry) (e : Entry) (next : MayFollow session history e) where
  abbrev steps : List Step
  steps = call_steps e.who (before_call history e.who e.number) (call_entries history e.who e.number) next.step.request

  here : slice_get steps (length (call_entries history e.who e.number)) ≡ Some (e.what, e.act)
  here = step_next e.who (before_call history e.who e.number) (call_entries history e.who e.number) steps (e.what, e.act) next.step.steps

  entry_early : IsEarly (length (call_entries history e.who e.number)) (e.what, e.act)
  entry_early = early e.who (before_call history e.who e.number) (call_entries history e.who e.number) next.step.request (length (call_entries history e.who e.number)) (e.what, e.act) here

  entry_few : length (call_entries history e.who e.number) < 67
  entry_few =
      let within = slice_get_within steps (length (call_entries history e.who e.number)) (e.what, e.act) here in
      let few = step_count_law e.who (before_call history e.who e.number) (call_entries history e.who e.number) next.step.request in
      let most = most_is (name_of next.step.request) in
      omega (arith, within, few, most)

-- calls by their processes and numbers

abbrev pub Calls : Type 0
Calls = List (ℕ × ℕ)

-- the call of each entry, but of the first one, is among them
abbrev pub AreCalled : List Entry → Calls → Type 0
AreCalled history calls = (i : ℕ) (e : Entry) → slice_get history i ≡ Some e → is_start e.call ≡ false → (j : ℕ) × (slice_get calls j ≡ Some (e.who, e.number))

abbrev charged : (ℕ → ℕ) → List Entry → Calls → ℕ
charged weight history [] = 0
charged weight history (c ∷ calls) = weight (length (call_entries history c.0 c.1)) + charged weight history calls

module _ (weight : ℕ → ℕ) (rises : (n : ℕ) → weight n ≤ weight (n + 1)) (history : List Entry) (e : Entry) where
  abbrev longer : List Entry
  longer = history ++ e ∷ []

  call-one : (who number : ℕ) → weight (length (call_entries history who number)) ≤ weight (length (call_entries longer who number))
  call-one who number = by_test (is_of_call who number e) (ap length (call_entries-append history e who number))
    where
      by_test : (b : Bool) → length (call_entries longer who number) ≡ length (call_entries history who number ++ cond b ((length history, e) ∷ []) [])
          → weight (length (call_entries history who number)) ≤ weight (length (call_entries longer who number))
      by_test true is =
          let more : length (call_entries longer who number) ≡ length (call_entries history who number) + 1 = is ∙ length-append (call_entries history who number) ((length history, e) ∷ []) in
          let same = ap weight more in
          let up = rises (length (call_entries history who number)) in
          omega (arith, same, up)
      by_test false is =
          let none : length (call_entries longer who number) ≡ length (call_entries history who number) = is ∙ (let z = length-append (call_entries history who number) [] in omega (arith, z)) in
          let same = ap weight none in omega (arith, same)

  charged-le : (calls : Calls) → charged weight history calls ≤ charged weight longer calls
  charged-le [] = omega arith
  charged-le (c ∷ calls) = let a = call-one c.0 c.1 in let b = charged-le calls in omega (arith, a, b)

  own-call : length (call_entries longer e.who e.number) ≡ length (call_entries history e.who e.number) + 1
  own-call =
      ap length (call_entries-append history e e.who e.number)
      ∙ ap (λ b. length (call_entries history e.who e.number ++ cond b ((length history, e) ∷ []) [])) (both_true (e.who == e.who) (e.number == e.number) (same_itself e.who) (same_itself e.number))
      ∙ length-append (call_entries history e.who e.number) ((length history, e) ∷ [])

  charged-more : (calls : Calls) (j : ℕ) → slice_get calls j ≡ Some (e.who, e.number)
      → charged weight history calls + weight (length (call_entries history e.who e.number) + 1) ≤ charged weight longer calls + weight (length (call_entries history e.who e.number))
  charged-more [] j at = absurd (cc)
  charged-more (c ∷ calls) zero at =
      let same : c ≡ (e.who, e.number) = some_is c (e.who, e.number) at in
      let old = ap (λ (c : ℕ × ℕ). weight (length (call_entries history c.0 c.1))) same in
      let new = ap (λ (c : ℕ × ℕ). weight (length (call_entries longer c.0 c.1))) same ∙ ap weight own-call in
      let rest = charged-le calls in
      omega (arith, old, new, rest)
  charged-more (c ∷ calls) (suc j) at = let a = call-one c.0 c.1 in let b = charged-more calls j at in omega (arith, a, b)

-- what is counted of a history, of which the first entry costs little, and each other one what its call is charged for it
module _ (session : Session) (sound : IsSound session) (weight : ℕ → ℕ) (rises : (n : ℕ) → weight n ≤ weight (n + 1)) (cost : List Entry → ℕ) (first : ℕ) (nothing : cost [] ≡ 0)
    (each : (history : List Entry) (e : Entry) → MayFollow session history e → cost (history ++ e ∷ []) ≤ cost history + first)
    (own : (history : List Entry) (e : Entry) → MayFollow session history e
    → cost (history ++ e ∷ []) + weight (length (call_entries history e.who e.number)) ≤ cost history + weight (length (call_entries history e.who e.number) + 1)) (calls : Calls) where
  pub spent : (history : List Entry) → IsLegal session history → AreCalled history calls → cost history ≤ first + charged weight history calls
  spent = legal_induction session (λ h. AreCalled h calls → cost h ≤ first + charged weight h calls) (λ called. omega (arith, nothing)) more
    where
      more : (history : List Entry) (e : Entry) → IsLegal session history → (AreCalled history calls → cost history ≤ first + charged weight history calls) → MayFollow session history e
          → AreCalled (history ++ e ∷ []) calls → cost (history ++ e ∷ []) ≤ first + charged weight (history ++ e ∷ []) calls
      more history e legal was next called = elim (acts-cases history e next.acts) [
        | inl begin ↦
            let none : cost history ≡ 0 = ap cost begin.1 ∙ nothing in
            let here = each history e next in
            omega (arith, none, here)
        | inr on ↦
            let (j, at) = called (length history) e (slice_get-last history e) on.0 in
            let before = was (λ i f at. called i f (slice_get-append history (e ∷ []) i f at)) in
            let here = own history e next in
            let paid = charged-more weight rises history e calls j at in
            omega (arith, before, here, paid)
      ]

-- entries and bytes

abbrev entry_weight : ℕ → ℕ
entry_weight n = min n 67

abbrev byte_weight : ℕ → ℕ
byte_weight n = 1376 * min n 3 + 50 * min n 67

charged-most : (weight : ℕ → ℕ) (most : ℕ) → ((n : ℕ) → weight n ≤ most) → (history : List Entry) (calls : Calls) → charged weight history calls ≤ most * length calls
charged-most weight most below history [] = omega arith
charged-most weight most below history (c ∷ calls) =
    let here = below (length (call_entries history c.0 c.1)) in
    let rest = charged-most weight most below history calls in
    let times = more_times most (length calls) in
    omega (arith, here, rest, times)
  where
    more_times : (a b : ℕ) → a * suc b ≡ a * b + a
    more_times a b = omega arith

module _ (session : Session) (sound : IsSound session) (history : List Entry) (legal : IsLegal session history) (calls : Calls) (called : AreCalled history calls) where
  -- a call has at most 67 entries
  pub entries_spent : length history ≤ 1 + 67 * length calls
  entries_spent =
      let spending = spent session sound entry_weight (λ n. omega arith) (λ h. length h) 1 refl
      (λ h e next. let z = length-append h (e ∷ []) in omega (arith, z))
      (λ h e next. let few = entry_few session h e next in let z = length-append h (e ∷ []) in omega (arith, few, z)) calls history legal called in
      let most = charged-most entry_weight 67 (λ n. omega arith) history calls in
      omega (arith, spending, most)

  -- and they have at most 7,478 bytes of records
  pub bytes_spent : size (records_of session history) ≤ 1376 + 7478 * length calls
  bytes_spent =
      let spending = spent session sound byte_weight (λ n. omega arith) (λ h. size (records_of session h)) 1376 refl each own calls history legal called in
      let most = charged-most byte_weight 7478 (λ n. omega arith) history calls in
      omega (arith, spending, most)
    where
      whole : (h : List Entry) (e : Entry) → size (records_of session (h ++ e ∷ [])) ≡ size (records_of session h) + size (entry_records session h e)
      whole h e = ap size (records-next session h e) ∙ spellings-append (records_of session h) (entry_records session h e)

      each : (h : List Entry) (e : Entry) → MayFollow session h e → size (records_of session (h ++ e ∷ [])) ≤ size (records_of session h) + 1376
      each h e next = let a = whole h e in let b = entry_size session sound h e (texts session h e next) in omega (arith, a, b)

      own : (h : List Entry) (e : Entry) → MayFollow session h e
          → size (records_of session (h ++ e ∷ [])) + byte_weight (length (call_entries h e.who e.number)) ≤ size (records_of session h) + byte_weight (length (call_entries h e.who e.number) + 1)
      own h e next = elim (entry_early session h e next) [
        | inl front ↦ let a = whole h e in let b = entry_size session sound h e (texts session h e next) in omega (arith, a, b, front)
        | inr small ↦
            let a = whole h e in
            let b = small_entry session sound h e (texts session h e next) small in
            let few = entry_few session h e next in
            omega (arith, a, b, few)
      ]
