-- A run whose calls were made in tries, each the first of the text that was ready, is a replay.
use Rattle.std.proofs.Common.{◌≡◌, ◌<◌, ◌≤◌, ◌+◌, ◌-◌, ℕ, zero, suc, List, [], ◌∷◌, ◌++◌, length, take, filter, refl, ap, sym, ◌∙◌, subst, arith, inl, inr, Bool, true, false, ◌==◌, append_assoc, length-append}
use Rattle.std.specs.Prelude.{Option, Some, None, drop, find, slice_get, if◌then◌else◌}
use Rattle.std.specs.Option.{option_map_or, option_or}
use Rattle.std.proofs.lemmas.Bool.{cases_lt, false_from_ne_true}
use Rattle.std.proofs.lemmas.List.{length-take, take-append-drop, take-append-le, take_all, take-take}
use Rattle.std.proofs.lemmas.Option.{slice_get_within}
use mathlib.Core.List.{IsPrefix}
use Rattle.pass_entry.specs.declared.entry.Entry.{Entry}
use Rattle.pass_entry.proofs.Places.{parted, slice_get-take, within_front}
use Rattle.pass_plain.specs.Sessions.{Session}
use Rattle.pass_plain.specs.Legal.{IsLegal, is_over, last_number}
use Rattle.pass_plain.specs.Traces.{Line, LineCall, lines_of}
use Rattle.pass_plain.specs.Runs.{Begun, IsRun, begun_after, begun_by_call, next_number, pnode_in, pnode_of_process}
use Rattle.pass_plain.proofs.Calling.{acts-cases, legal_take}
use Rattle.pass_plain.proofs.Lists.{alike, below_or, both_true, filtered, in_filtered, in_take, is_place, same_itself, some_is, within_take}
use Rattle.pass_plain.proofs.TwoPrefixes.{none_later}
use Rattle.pass_replay.specs.Lines.{AreLinesBehind}
use Rattle.pass_replay.specs.Making.{IsRunSoFar}
use Rattle.pass_replay.specs.Members.{HasMember, KnowsChildren, Member, Waits}
use Rattle.pass_replay.specs.Orders.{AreDue, Place, due, is_entry_of, is_last, is_ready, places_in_order}
use Rattle.pass_replay.specs.Replays.{HasRun}
use Rattle.pass_replay.specs.Tries.{AreTries, IsMadeIn, TriesLaw, Try, number_of}
use Rattle.pass_replay.proofs.Agreeing.{entry_by, first_is}
use Rattle.pass_replay.proofs.Begun.{child_has_begun}
use Rattle.pass_replay.proofs.DueCalls.{passes, passes_at, ready_moves}
use Rattle.pass_replay.proofs.InLine.{entry_ready, filter_over, first_same, found_parts, next_not_over}
use Rattle.pass_replay.proofs.NextCalls.{earlier_over}
use Rattle.pass_replay.proofs.Prefixes.{so_far_at}
use Rattle.pass_replay.proofs.Replaying.{at_one, from, run_law}
use Rattle.pass_replay.proofs.RunSteps.{at_behind}
use Rattle.pass_replay.proofs.Staying.{pnode_stays}
use Rattle.pass_replay.proofs.Stuck.{next_some}

-- The last entry's call, where it is ready, is due

find_some : {X : Type 0} (p : X → Bool) (ys : List X) (x : X) (j : ℕ) → slice_get ys j ≡ Some x → p x ≡ true → find p ys ≡ None → ⊥
find_some p [] x j there is none = absurd (cc)
find_some {X = X} p (y ∷ ys) x j there is none = if_passes j there (p y) refl none (λ j at rest. find_some p ys x j at is rest)
  where
    if_passes : (j : ℕ) → slice_get (y ∷ ys) j ≡ Some x → (b : Bool) → p y ≡ b → find p (y ∷ ys) ≡ None → ((j : ℕ) → slice_get ys j ≡ Some x → find p ys ≡ None → ⊥) → ⊥
    if_passes j there true t none later = let z : Some y ≡ None = ap (λ b. if b then Some y else find p ys) (sym t) ∙ none in cc
    if_passes zero there false t none later = let z : true ≡ false = sym is ∙ ap p (sym (some_is y x there)) ∙ t in cc
    if_passes (suc j) there false t none later = later j there (ap (λ b. if b then Some y else find p ys) (sym t) ∙ none)

found_same : {X : Type 0} (p : X → Bool) (xs : List X) (x : X) (k : ℕ) → slice_get xs k ≡ Some x → p x ≡ true → ((j : ℕ) (y : X) → slice_get xs j ≡ Some y → p y ≡ true → y ≡ x)
    → option_or (find p xs) (slice_get xs 0) ≡ Some x
found_same {X = X} p xs x k at is same = at_test (find p xs) refl
  where
    at_test : (o : Option X) → find p xs ≡ o → option_or (find p xs) (slice_get xs 0) ≡ Some x
    at_test None none = absurd (find_some p xs x k at is none)
    at_test (Some y) some =
        let f = found_parts p xs y some in
        ap (λ o. option_or o (slice_get xs 0)) some ∙ ap (λ z. Some z) (same (length f.front) y (ap (λ zs. slice_get zs (length f.front)) f.parts ∙ at_behind f.front y f.back) f.passes_test)

-- Who waits isn't ready

pub waits_unready : (session : Session) (trace : List Line) (behind : AreLinesBehind [] trace) (history : List Entry) (so_far : IsRunSoFar session trace history) (process who number : ℕ)
    → pnode_of_process session trace history process ≡ Some who → Waits session trace (record { process = process; who = who; seen = history; ended = false })
    → is_ready session trace history (process, number) ≡ true → ⊥
waits_unready session trace behind history so_far process who number begun waits ready =
    let (can, next) = ready_moves session trace history (process, number) ready in
    let same : can.who ≡ who = some_is can.who who (sym can.begun ∙ begun) in
    let waiting : Waits session trace (record { process = process; who = can.who; seen = history; ended = false }) =
    subst (λ (w : ℕ). Waits session trace (record { process = process; who = w; seen = history; ended = false })) (sym same) waits in
    let done : ℕ = next_number history can.who - 1 in
    let counted : next_number history can.who ≡ done + 1 = (let z = next_some (last_number history can.who) (is_over history can.who (last_number history can.who)) in omega (arith, z)) in
    let pnode : ℕ → ℕ = λ process. option_map_or (λ pnode. pnode) (pnode_of_process session trace history process) 0 in
    let knows : KnowsChildren trace history process can.who done pnode = λ k child l early at_line forks.
    ap (λ o. option_map_or (λ pnode. pnode) o 0)
    (child_has_begun session trace history process k child can.who l behind at_line forks can.begun
    (earlier_over session trace behind history so_far process can.who done can.call can.begun can.next counted (k + 1) (omega arith) (omega (arith, early)))) in
    let never = waiting can.call can.next pnode knows can.step can.stands in
    let z : Some can.reply ≡ None = sym can.ready ∙ never in cc

-- nobody has begun in the empty history
none_in : (before ls : List Line) → begun_after [] [] before ls ≡ []
none_in before [] = refl
none_in before (l ∷ ls) = ap (λ (b : Begun). begun_after [] b (before ++ l ∷ []) ls) (nobody l.call) ∙ none_in (before ++ l ∷ []) ls
  where
    nobody : (call : LineCall) → begun_by_call [] None (length (lines_of before l.process) + 1) call ≡ []
    nobody call = refl

none_begun : (session : Session) (trace : List Line) (process who : ℕ) → pnode_of_process session trace [] process ≡ Some who → ⊥
none_begun session trace process who begun = let z : None ≡ Some who = ap (λ (b : Begun). pnode_in b process) (sym (none_in [] trace)) ∙ begun in cc

-- The tries of a run

module _ (session : Session) (trace : List Line) (members : List Member) (history : List Entry) (tries : List Try) (ran : HasRun session trace members history)
    (are : AreTries session trace members tries) where
  run : IsRun session trace history
  run = run_law session trace members history ran

  so_far : (n : ℕ) → 1 ≤ n → n ≤ length history → IsRunSoFar session trace (take n history)
  so_far = so_far_at session trace ran.ordered ran.room history run

  -- each has seen a beginning of the history
  seen : (i : ℕ) (t : Try) → slice_get tries i ≡ Some t → IsPrefix t.after history
  seen i t at =
      let by = (are.each i t at).1 in
      let (more, is) = by.begins in
      let (rest, whole) = ran.told.begins by.member by.among in
      (more ++ rest, sym (append_assoc t.after more rest) ∙ ap (λ h. h ++ rest) is ∙ whole)

  after_is : (i : ℕ) (t : Try) → slice_get tries i ≡ Some t → t.after ≡ take (length t.after) history
  after_is i t at =
      let (rest, is) = seen i t at in
      sym (take_all (length t.after) t.after (omega arith)) ∙ sym (take-append-le (length t.after) t.after rest (omega arith)) ∙ ap (λ h. take (length t.after) h) is

  after_short : (i : ℕ) (t : Try) → slice_get tries i ≡ Some t → length t.after ≤ length history
  after_short i t at = let (rest, is) = seen i t at in let size = length-append t.after rest in let total = ap length is in omega (arith, size, total)

  grows : (i : ℕ) (t : Try) → slice_get tries i ≡ Some t → length t.before ≤ length t.after
  grows i t at = let (rest, is) = (are.each i t at).0.more in let size = length-append t.before rest in let total = ap length is in omega (arith, size, total)

  before_is : (i : ℕ) (t : Try) → slice_get tries i ≡ Some t → t.before ≡ take (length t.before) history
  before_is i t at =
      let (rest, is) = (are.each i t at).0.more in
      let le = grows i t at in
      sym (take_all (length t.before) t.before (omega arith)) ∙ sym (take-append-le (length t.before) t.before rest (omega arith)) ∙ ap (λ h. take (length t.before) h) (is ∙ after_is i t at)
      ∙ take-take (length t.before) (length t.after) history le

  before_some : (i : ℕ) (t : Try) → slice_get tries i ≡ Some t → 1 ≤ length t.before
  before_some i t at = not_empty t.before (are.each i t at).0.begun
    where
      not_empty : (h : List Entry) → pnode_of_process session trace h t.process ≡ Some t.who → 1 ≤ length h
      not_empty [] begun = absurd (none_begun session trace t.process t.who begun)
      not_empty (e ∷ es) begun = omega arith

  -- a later one begins where each earlier one ended, or behind that
  rises : (d i : ℕ) (t u : Try) → slice_get tries i ≡ Some t → slice_get tries (i + 1 + d) ≡ Some u → length t.after ≤ length u.before
  rises zero i t u at later =
      let (rest, is) = are.chain i t u at (ap (λ n. slice_get tries n) (let z : i + 1 ≡ i + 1 + 0 = omega arith in z) ∙ later) in
      let size = length-append t.after rest in let total = ap length is in omega (arith, size, total)
  rises (suc d) i t u at later =
      let short = slice_get_within tries (i + 1 + suc d) u later in
      let (v, between) = is_place tries (i + 1 + d) (omega (arith, short)) in
      let first = rises d i t v at between in
      let (rest, is) = are.chain (i + 1 + d) v u between (ap (λ n. slice_get tries n) (let z : i + 1 + d + 1 ≡ i + 1 + suc d = omega arith in z) ∙ later) in
      let size = length-append v.after rest in
      let total = ap length is in
      let more = grows (i + 1 + d) v between in
      omega (arith, first, size, total, more)

  in_turn : (i j : ℕ) (t u : Try) → i < j → slice_get tries i ≡ Some t → slice_get tries j ≡ Some u → length t.after ≤ length u.before
  in_turn i j t u less at later = rises (j - i - 1) i t u at (ap (λ n. slice_get tries n) (let z : i + 1 + (j - i - 1) ≡ j = omega (arith, less) in z) ∙ later)

  -- each entry but the first was made in a try
  made : (n : ℕ) (e : Entry) → slice_get history n ≡ Some e → 1 ≤ n → IsMadeIn tries n e
  made n e stands some =
      let short = slice_get_within history n e stands in
      let at = from session trace members history ran n (at_one session trace members history ran) some (omega (arith, short)) in
      elim (acts-cases (take n history) e (ran.told.legal n e stands).acts) [
        | inl start ↦ let size = length-take n history in let none = ap length start.1 in absurd (omega (arith, size, none, some, short))
        | inr acts ↦
            let (p, begun) = at.so_far.run.traced e.who acts.1 in
            let has : HasMember members p e.who = at.known p e.who begun in
            let m = has.member in
            let parts = (ran.told.begins m has.among).1 in
            let (more, mine) = within_front (λ (f : Entry). f.who == m.who) m.seen (ran.told.begins m has.among).0 history n e parts
            (none_later (λ (e : Entry). e.who == m.who) m.seen (ran.told.begins m has.among).0 history parts (ran.told.agrees m has.among)) stands
            (ap (λ w. w == m.who) (sym has.is) ∙ same_itself m.who) in
            are.own m has.among n e mine (sym has.is)
      ]

  -- two tries in which one entry was made are one
  one_try : (n : ℕ) (e : Entry) (i : ℕ) (t : Try) → slice_get tries i ≡ Some t → length t.before ≤ n → n < length t.after → (m : IsMadeIn tries n e) → m.made_in ≡ t
  one_try n e i t at low high m = elim (below_or m.place i) [
    | inl less ↦ let z = in_turn m.place i m.made_in t less m.stands at in let a = m.upto in absurd (omega (arith, z, a, low))
    | inr rest ↦ elim rest [
      | inl more ↦ let z = in_turn i m.place t m.made_in more at m.stands in let a = m.from in absurd (omega (arith, z, a, high))
      | inr same ↦ some_is m.made_in t (sym m.stands ∙ ap (λ n. slice_get tries n) same ∙ at)
    ]
  ]

  -- between a try and a later one no entry was made, where those between them made none
  no_gap : (i j : ℕ) (t u : Try) → i < j → slice_get tries i ≡ Some t → slice_get tries j ≡ Some u → ((k : ℕ) (v : Try) → i < k → k < j → slice_get tries k ≡ Some v → length v.after ≤ length v.before)
      → length t.after ≡ length u.before
  no_gap i j t u less at later still = elim (cases_lt (length t.after) (length u.before)) [
    | inr le ↦ let z = in_turn i j t u less at later in omega (arith, z, le)
    | inl gap ↦
        let high = grows j u later in
        let whole = after_short j u later in
        let low = before_some i t at in
        let up = grows i t at in
        let (e, stands) = is_place history (length t.after) (omega (arith, gap, high, whole)) in
        let m = made (length t.after) e stands (omega (arith, low, up)) in
        let from_is = m.from in
        let upto_is = m.upto in
        elim (below_or m.place i) [
          | inl before ↦ let z = in_turn m.place i m.made_in t before m.stands at in absurd (omega (arith, z, upto_is, up))
          | inr rest ↦ elim rest [
            | inr same ↦ let z = ap (λ (x : Try). length x.after) (some_is m.made_in t (sym m.stands ∙ ap (λ n. slice_get tries n) same ∙ at)) in absurd (omega (arith, z, upto_is))
            | inl behind_it ↦ elim (below_or m.place j) [
              | inl between ↦ let z = still m.place m.made_in behind_it between m.stands in absurd (omega (arith, z, from_is, upto_is))
              | inr end ↦ elim end [
                | inl beyond ↦ let z = in_turn j m.place u m.made_in beyond later m.stands in absurd (omega (arith, z, from_is, gap, high))
                | inr same ↦ let z = ap (λ (x : Try). length x.before) (some_is m.made_in u (sym m.stands ∙ ap (λ n. slice_get tries n) same ∙ later)) in absurd (omega (arith, z, from_is, gap))
              ]
            ]
          ]
        ]
  ]

  -- The entry at a place, and the try in which it was made

  module _ (n : ℕ) (e : Entry) (stands : slice_get history n ≡ Some e) (some : 1 ≤ n) where
    abbrev past : List Entry
    past = take n history

    short : n < length history
    short = slice_get_within history n e stands

    past_size : length past ≡ n
    past_size = let size = length-take n history in let less = short in omega (arith, size, less)

    now : IsRunSoFar session trace past
    now = let less = short in so_far n some (omega (arith, less))

    m : IsMadeIn tries n e
    m = made n e stands some

    abbrev t : Try
    t = m.made_in

    abbrev c : Place
    c = (t.process, number_of t)

    -- the process of a try is in the past what it was before
    begun_at : (i : ℕ) (u : Try) → slice_get tries i ≡ Some u → length u.before ≤ n → pnode_of_process session trace past u.process ≡ Some u.who
    begun_at i u at low =
        let parts : past ≡ take (length u.before) history ++ drop (length u.before) past =
        sym (take-append-drop (length u.before) past) ∙ ap (λ h. h ++ drop (length u.before) past) (take-take (length u.before) n history low) in
        let split : past ≡ u.before ++ drop (length u.before) past = parts ∙ ap (λ h. h ++ drop (length u.before) past) (sym (before_is i u at)) in
        let size = before_some i u at in
        ap (λ h. pnode_of_process session trace h u.process) split
        ∙ pnode_stays session trace u.before (drop (length u.before) past) u.process u.who ran.ordered (subst (λ h. IsLegal session h) split (legal_take session history n run.legal)) (omega (arith, size))
        (are.each i u at).0.begun

    begun : pnode_of_process session trace past t.process ≡ Some t.who
    begun = begun_at m.place t m.stands m.from

    of_call : is_entry_of session trace past e c ≡ true
    of_call =
        both_true (e.number == number_of t) (option_map_or (λ who. e.who == who) (pnode_of_process session trace past t.process) false) (alike e.number (number_of t) m.counted)
        (passes_at (λ who. e.who == who) (pnode_of_process session trace past t.process) t.who begun (alike e.who t.who m.by))

    ready : is_ready session trace past c ≡ true
    ready = entry_ready session trace ran.ordered history run n e stands some c of_call

    abbrev readies : List Place
    readies = filter (is_ready session trace past) (places_in_order trace)

    -- what is known of a ready call by which the last entry is
    pub record IsLastReady (q : Place) : Type 0 where
      pub entry : Entry
      pub last_at : slice_get history (n - 1) ≡ Some entry
      pub counted : entry.number ≡ q.1
      pub by : pnode_of_process session trace past q.0 ≡ Some entry.who
      pub later : 1 ≤ n - 1

    last_ready : (q : Place) → is_ready session trace past q ≡ true → is_last session trace past q ≡ true → IsLastReady q
    last_ready q is last =
        let size = past_size in
        let (f, at, of) = passes (λ f. is_entry_of session trace past f q) (slice_get past (length past - 1)) last in
        let there : slice_get history (n - 1) ≡ Some f = slice_get-take n (n - 1) history f (ap (λ k. slice_get past k) (let z : n - 1 ≡ length past - 1 = omega (arith, size) in z) ∙ at) in
        let (number, by) = entry_by session trace past f q of in
        let (can, next) = ready_moves session trace past q is in
        let low = next_some (last_number past can.who) (is_over past can.who (last_number past can.who)) in
        record { entry = f; last_at = there; counted = number; by = by; later = behind_first (n - 1) f there (omega (arith, low, next, number)) }
      where
        behind_first : (k : ℕ) (f : Entry) → slice_get history k ≡ Some f → 1 ≤ f.number → 1 ≤ k
        behind_first zero f at low = let none = (first_is session f (run.legal 0 f at)).number in absurd (omega (arith, none, low))
        behind_first (suc k) f at low = omega arith

    -- the try goes on
    within : length t.before < n → (q : Place) → is_ready session trace past q ≡ true → is_last session trace past q ≡ true → q ≡ c
    within inside q is last =
        let l = last_ready q is last in
        let low = m.upto in
        let other = made (n - 1) l.entry l.last_at l.later in
        let one : other.made_in ≡ t = one_try (n - 1) l.entry m.place t m.stands (omega (arith, inside)) (omega (arith, low, inside)) other in
        let who : l.entry.who ≡ t.who = other.by ∙ ap (λ (x : Try). x.who) one in
        let number : l.entry.number ≡ number_of t = other.counted ∙ ap (λ (x : Try). number_of x) one in
        let process : q.0 ≡ t.process = now.single q.0 t.process t.who (l.by ∙ ap (λ w. Some w) who) begun in
        λ i. (process i, (sym l.counted ∙ number) i)

    is_the_last : length t.before < n → is_last session trace past c ≡ true
    is_the_last inside =
        let size = past_size in
        let less = short in
        let low = m.upto in
        let start = before_some m.place t m.stands in
        let (f, at) = is_place history (n - 1) (omega (arith, less)) in
        let other = made (n - 1) f at (omega (arith, inside, start)) in
        let one : other.made_in ≡ t = one_try (n - 1) f m.place t m.stands (omega (arith, inside)) (omega (arith, low, inside)) other in
        let who : f.who ≡ t.who = other.by ∙ ap (λ (x : Try). x.who) one in
        let number : f.number ≡ number_of t = other.counted ∙ ap (λ (x : Try). number_of x) one in
        let here : slice_get past (length past - 1) ≡ Some f =
        ap (λ k. slice_get past k) (let z : length past - 1 ≡ n - 1 = omega (arith, size) in z) ∙ in_take (n - 1) n history f (omega (arith, some)) at in
        passes_at (λ f. is_entry_of session trace past f c) (slice_get past (length past - 1)) f here
        (both_true (f.number == number_of t) (option_map_or (λ who. f.who == who) (pnode_of_process session trace past t.process) false) (alike f.number (number_of t) number)
        (passes_at (λ who. f.who == who) (pnode_of_process session trace past t.process) t.who begun (alike f.who t.who who)))

    -- the try begins: the call that made the last entry isn't ready
    rested : n ≡ length t.before → (q : Place) → is_ready session trace past q ≡ true → is_last session trace past q ≡ true → ⊥
    rested start q is last =
        let l = last_ready q is last in
        let other = made (n - 1) l.entry l.last_at l.later in
        let u = other.made_in in
        let low = other.from in
        let high = other.upto in
        elim (below_or other.place m.place) [
          | inr rest ↦ elim rest [
            | inl beyond ↦ let z = in_turn m.place other.place t u beyond m.stands other.stands in let y = m.upto in absurd (omega (arith, z, y, low))
            | inr same ↦ let z = ap (λ (x : Try). length x.before) (some_is u t (sym other.stands ∙ ap (λ k. slice_get tries k) same ∙ m.stands)) in absurd (omega (arith, z, low, start, some))
          ]
          | inl earlier ↦
              let z = in_turn other.place m.place u t earlier other.stands m.stands in
              let ends : length u.after ≡ n = omega (arith, z, high, start) in
              let after : u.after ≡ past = after_is other.place u other.stands ∙ ap (λ k. take k history) ends in
              let inside = slice_get_within tries m.place t m.stands in
              elim (are.rests other.place u other.stands (omega (arith, earlier, inside))) [
                | inl over ↦
                    let (can, next) = ready_moves session trace past q is in
                    let who : can.who ≡ u.who = some_is can.who u.who (sym can.begun ∙ l.by ∙ ap (λ w. Some w) other.by) in
                    let number : next_number past can.who ≡ number_of u = next ∙ sym l.counted ∙ other.counted in
                    next_not_over session past can.who (legal_take session history n run.legal)
                    (ap (λ k. is_over past can.who k) number ∙ ap (λ w. is_over past w (number_of u)) who ∙ ap (λ h. is_over h u.who (number_of u)) (sym after) ∙ over)
                | inr waits ↦
                    let u_begun : pnode_of_process session trace past u.process ≡ Some u.who = begun_at other.place u other.stands (let y = grows other.place u other.stands in omega (arith, z, start, y)) in
                    let process : q.0 ≡ u.process = now.single q.0 u.process u.who (l.by ∙ ap (λ w. Some w) other.by) u_begun in
                    waits_unready session trace ran.ordered past now u.process u.who q.1 u_begun
                    (subst (λ h. Waits session trace (record { process = u.process; who = u.who; seen = h; ended = false })) after waits)
                    (ap (λ p. is_ready session trace past (p, q.1)) (sym process) ∙ is)
              ]
        ]

    -- and no call before it in the text is
    unready : n ≡ length t.before → (j k : ℕ) (d : Place) → slice_get (places_in_order trace) k ≡ Some c → slice_get (places_in_order trace) j ≡ Some d → j < k → is_ready session trace past d ≡ true → ⊥
    unready start j k d at_c at_d less is =
        let (can, next) = ready_moves session trace past d is in
        let before : t.before ≡ past = before_is m.place t m.stands ∙ ap (λ x. take x history) (sym start) in
        let inside = m.upto in
        let w = are.first m.place t m.stands (omega (arith, inside, start)) j k d can.who at_c at_d less
        (ap (λ h. pnode_of_process session trace h d.0) before ∙ can.begun) (ap (λ h. next_number h can.who) before ∙ next) in
        let ends : length w.tried.after ≡ n = no_gap w.place m.place w.tried t w.earlier w.stands m.stands w.still ∙ sym start in
        let after : w.tried.after ≡ past = after_is w.place w.tried w.stands ∙ ap (λ x. take x history) ends in
        waits_unready session trace ran.ordered past now d.0 can.who d.1 can.begun
        (subst (λ h. Waits session trace (record { process = d.0; who = can.who; seen = h; ended = false })) after w.waits) is

    is_due : due session trace past ≡ Some c
    is_due = elim (cases_lt (length t.before) n) [
      | inl inside ↦
          let (k, at) = are.placed m.place t m.stands in
          let (j, there) = in_filtered (is_ready session trace past) (places_in_order trace) k c at ready in
          found_same (is_last session trace past) readies c j there (is_the_last inside)
          (λ j q at_q last. within inside q (filtered (is_ready session trace past) (places_in_order trace) j q at_q).0 last)
      | inr le ↦
          let low = m.from in
          let start : n ≡ length t.before = omega (arith, le, low) in
          let (k, at) = are.placed m.place t m.stands in
          let front : slice_get readies 0 ≡ Some c =
          ap (λ ps. slice_get (filter (is_ready session trace past) ps) 0) (parted (places_in_order trace) k c at)
          ∙ filter_over (is_ready session trace past) (take k (places_in_order trace)) (drop (suc k) (places_in_order trace)) c
          (λ j d at_d. false_from_ne_true (is_ready session trace past d) (λ is.
          unready start j k d at (slice_get-take k j (places_in_order trace) d at_d) (within_take k j (places_in_order trace) d at_d) is)) ready in
          first_same (is_last session trace past) readies c front
          (λ j q at_q last. absurd (rested start q (filtered (is_ready session trace past) (places_in_order trace) j q at_q).0 last))
    ]

  pub are_due : AreDue session trace history
  are_due n e some stands = (c n e stands some, is_due n e stands some, of_call n e stands some)

pub tries_law : TriesLaw
tries_law session trace members history tries ran are =
    record { run = run_law session trace members history ran; order = are_due session trace members history tries ran are }
