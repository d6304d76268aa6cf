-- What one more entry changes in the places that processes hold: its caller's share alone, and a child's that it begins.
use Rattle.std.proofs.Common.{◌≡◌, ℕ, ◌+◌, ◌-◌, ◌<◌, ◌≤◌, List, [], ◌∷◌, ◌++◌, length, refl, ap, sym, ◌∙◌, subst, arith, ◌⊎◌, inl, inr, Bool, true, false, ◌||◌, ◌&&◌, not, ◌==◌, cond, length-append}
use Rattle.std.specs.Prelude.{Some, slice_get, sum_by, count_by, if◌then◌else◌}
use Rattle.std.specs.Option.{option_map_or}
use Rattle.std.specs.List.{list_any, cons_option}
use Rattle.std.proofs.lemmas.List.Sums.{sum_by-cons, sum_by-append, sum_by_push}
use Rattle.std.proofs.lemmas.List.Elements.{filter_map-append}
use Rattle.std.proofs.lemmas.Bool.Decides.{nat_tests}
use Rattle.pass_entry.specs.declared.entry.Entry.{Entry}
use Rattle.pass_entry.specs.declared.entry.Act.{Act}
use Rattle.pass_entry.specs.declared.entry.Act.TheVariants as act
use Rattle.pass_entry.specs.declared.entry.CallName.{CallName}
use Rattle.pass_entry.specs.declared.entry.CallName.TheVariants as call
use Rattle.pass_entry.specs.declared.objects.Kind.TheVariants as kind
use Rattle.pass_entry.specs.declared.entry.Reply.{Reply}
use Rattle.pass_entry.specs.declared.entry.Reply.TheVariants as answer
use Rattle.pass_entry.proofs.Places.{slice_get-last}
use Rattle.pass_plain.specs.Histories.{is_fault, is_of_call, call_entries}
use Rattle.pass_plain.specs.Sessions.{Session}
use Rattle.pass_plain.specs.Processes.{Process, Held, new_process, process_after, process_act, begins, has_begun, has_ended}
use Rattle.pass_plain.specs.Calls.{Made, Step, is_last}
use Rattle.pass_plain.specs.Legal.{IsLegal, MayFollow, is_start, before_call, is_over, may_be_left, last_number, ends_call, leaves_call}
use Rattle.pass_plain.specs.Places.{begun_by, begun_in, processes_of, is_exit, need_of, exit_places, call_places, share, held_places, freed_places, keeps, exit_step}
use Rattle.pass_plain.specs.PlaceLaws.{FirstPlacesLaw, ShareLaw, HeldLaw, LivingPlacesLaw, BirthPlacesLaw, EndPlacesLaw}
use Rattle.pass_plain.proofs.Lists.{same_numbers, same_itself, both_true, or_false, or_none, true_left, any_at}
use Rattle.pass_plain.proofs.Appends.{legal-push, place_of}
use Rattle.pass_plain.proofs.Rows.{Row}
use Rattle.std.proofs.lemmas.List.Folds.{list_any-append}
use Rattle.pass_plain.proofs.Beginning.{no_rebirth}
use Rattle.pass_plain.proofs.Calling.{legal_induction, acts-cases, row, last_number-append, call_entries-append}
use Rattle.pass_plain.proofs.TwoPrefixes.{process-append, SameCaller, caller_step}
use Rattle.pass_plain.proofs.Playing.{before_hit, who_begun, zero_not, no_calls}
use Rattle.pass_plain.proofs.LastCalls.{begun_next}
use Rattle.pass_plain.proofs.Summing.{once_sums, stands_counted}

-- Each process that has begun stands once among the processes

processes-append : (h : List Entry) (e : Entry) → processes_of (h ++ e ∷ []) ≡ processes_of h ++ begun_in e
processes-append h e = filter_map-append (λ (e : Entry). begun_by e.call e.act e.what e.reply) h (e ∷ [])

counted_one : (n q : ℕ) → count_by (λ x. x == q) (n ∷ []) ≡ cond (n == q) 1 0
counted_one n q = let c = sum_by-cons (λ x. cond (x == q) 1 0) n [] in omega (arith, c)

abbrev Once : List Entry → Type 0
Once h = (q : ℕ) → count_by (λ x. x == q) (processes_of h) ≡ cond (has_begun h q) 1 0

started : (name : CallName) (a : Act) (what : ℕ) (reply : Reply) → is_start name ≡ true
    → (q : ℕ) → count_by (λ x. x == q) (cons_option (begun_by name a what reply) []) ≡ cond (begins q name a what reply || false) 1 0
started call.Start a what (answer.Made n) s q = counted_one n q ∙ ap (λ b. cond b 1 0) (sym (or_none (n == q)))
started call.Start a what _ s q = refl
started _ a what reply s q = absurd (cc)

new_counted : (name : CallName) (a : Act) (what : ℕ) (reply : Reply) (q : ℕ) → is_start name ≡ false
    → count_by (λ x. x == q) (cons_option (begun_by name a what reply) []) ≡ cond (begins q name a what reply) 1 0
new_counted call.Start a what reply q s = absurd (cc)
new_counted _ (act.Born out descriptors) what reply q s = counted_one what q
new_counted _ _ what reply q s = refl

-- who begins by an entry is born by it
born_by : (name : CallName) (a : Act) (what : ℕ) (reply : Reply) (q : ℕ) → is_start name ≡ false → begins q name a what reply ≡ true
    → (out : ℕ) × (descriptors : _) × (a ≡ act.Born out descriptors) × (what ≡ q)
born_by call.Start a what reply q s b = absurd (cc)
born_by _ (act.Born out descriptors) what reply q s b = (out, descriptors, refl, same_numbers what q b)
born_by _ _ what reply q s b = absurd (cc)

once_next : (session : Session) (h : List Entry) (e : Entry) → IsLegal session h → Once h → MayFollow session h e → Once (h ++ e ∷ [])
once_next session h e legal once next = elim (acts-cases h e next.acts) [
  | inl s ↦ subst (λ h. Once (h ++ e ∷ [])) (sym s.1) (started e.call e.act e.what e.reply s.0)
  | inr a ↦ λ q. added q (once q) a.0 (has_begun h q) refl (begins q e.call e.act e.what e.reply) refl
]
  where
    added : (q : ℕ) → count_by (λ x. x == q) (processes_of h) ≡ cond (has_begun h q) 1 0 → is_start e.call ≡ false
        → (b : Bool) → has_begun h q ≡ b → (c : Bool) → begins q e.call e.act e.what e.reply ≡ c
        → count_by (λ x. x == q) (processes_of (h ++ e ∷ [])) ≡ cond (has_begun (h ++ e ∷ []) q) 1 0
    added q is ordinary b begun c born =
        let whole = ap (λ ps. count_by (λ x. x == q) ps) (processes-append h e) ∙ sum_by-append (λ x. cond (x == q) 1 0) (processes_of h) (begun_in e) in
        let new = new_counted e.call e.act e.what e.reply q ordinary ∙ ap (λ b. cond b 1 0) born in
        let old = is ∙ ap (λ b. cond b 1 0) begun in
        let goal : ◌≡◌ {A = ℕ} (cond (has_begun (h ++ e ∷ []) q) 1 0) (cond (b || c) 1 0) = ap (λ b. cond b 1 0) (begun_next h e q ∙ (λ i. begun i || born i)) in
        let z : ◌≡◌ {A = ℕ} (cond b 1 0 + cond c 1 0) (cond (b || c) 1 0) = by_both b c begun born in
        omega (arith, whole, new, old, goal, z)
      where
        by_both : (b c : Bool) → has_begun h q ≡ b → begins q e.call e.act e.what e.reply ≡ c → ◌≡◌ {A = ℕ} (cond b 1 0 + cond c 1 0) (cond (b || c) 1 0)
        by_both true true begun born =
            let (out, ds, is, same) = born_by e.call e.act e.what e.reply q ordinary born in
            no_rebirth session h e out ds legal next is (ap (λ w. has_begun h w) same ∙ begun)
        by_both true false begun born = refl
        by_both false true begun born = refl
        by_both false false begun born = refl

pub begun_once : (session : Session) (h : List Entry) → IsLegal session h → Once h
begun_once session = legal_induction session Once (λ q. refl) (λ h e legal once next. once_next session h e legal once next)

-- What a caller's prefix tells

abbrev places_in : Bool → Made → ℕ
places_in over made = if over then 0 else option_map_or (λ s. need_of s.1.call - length made) (slice_get made 0) 0

over_same : (xs ys : List Entry) (who : ℕ) → SameCaller xs ys who → is_over ys who (last_number ys who) ≡ is_over xs who (last_number xs who)
over_same xs ys who s = ap (λ n. is_over ys who n) s.last ∙ (λ i. ends_call (s.before (last_number xs who) i) (s.calls (last_number xs who) i))

pub call_same : (xs ys : List Entry) (who : ℕ) → SameCaller xs ys who → call_places ys who ≡ call_places xs who
call_same xs ys who s =
    let made : call_entries ys who (last_number ys who) ≡ call_entries xs who (last_number xs who) = ap (λ n. call_entries ys who n) s.last ∙ s.calls (last_number xs who) in
    λ i. places_in (over_same xs ys who s i) (made i)

pub freed_same : (xs ys : List Entry) (who : ℕ) → SameCaller xs ys who → freed_places ys who ≡ freed_places xs who
freed_same xs ys who s =
    let left : may_be_left ys who (last_number ys who) ≡ may_be_left xs who (last_number xs who) =
    ap (λ n. may_be_left ys who n) s.last ∙ (λ i. leaves_call (s.before (last_number xs who) i) (s.calls (last_number xs who) i)) in
    λ i. if left i then call_same xs ys who s i else 0

-- the entries of a process's exit
abbrev exits : ℕ → Entry → ℕ
exits who e = cond (e.who == who && is_exit e.call) 1 0

no_exits : (who : ℕ) (later : List Entry) → list_any (λ (e : Entry). e.who == who) later ≡ false → sum_by (exits who) later ≡ 0
no_exits who [] none = refl
no_exits who (e ∷ later) none =
    let (other, rest) = or_false (e.who == who) (list_any (λ (e : Entry). e.who == who) later) none in
    let here : exits who e ≡ 0 = ap (λ b. cond (b && is_exit e.call) 1 0) other in
    let r = no_exits who later rest in
    let c = sum_by-cons (exits who) e later in
    omega (arith, here, r, c)

pub exit_same : (seen later : List Entry) (who : ℕ) → list_any (λ (e : Entry). e.who == who) later ≡ false → exit_places (seen ++ later) who ≡ exit_places seen who
exit_same seen later who none =
    let a = sum_by-append (exits who) seen later in
    let z = no_exits who later none in
    let n : count_by (λ (e : Entry). e.who == who && is_exit e.call) (seen ++ later) ≡ count_by (λ (e : Entry). e.who == who && is_exit e.call) seen = omega (arith, a, z) in
    ap (λ n. 65 - n) n

-- who has ended has made an entry
pub ended_by : (session : Session) (h : List Entry) → IsLegal session h → (q : ℕ) → has_ended h q ≡ true → list_any (λ (e : Entry). e.who == q) h ≡ true
ended_by session = legal_induction session (λ h. (q : ℕ) → has_ended h q ≡ true → list_any (λ (e : Entry). e.who == q) h ≡ true) (λ q ended. absurd (cc))
    (λ h e legal by next q ended. list_any-append (λ (e : Entry). e.who == q) h (e ∷ []) ∙ one session h e legal next q (by q) ended)
  where
    or_true : (b : Bool) → b || true ≡ true
    or_true true = refl
    or_true false = refl

    finish_own : (who : ℕ) (p : Process) (made : Made) (steps : List Step) (k what : ℕ) (a : Act) → Row who p made steps k what a → (a ≡ act.Finish) → what ≡ who
    finish_own who p made steps k what act.Finish r is = r.0
    finish_own who p made steps k what _ r is = absurd (cc)

    ends_if : (past : List Entry) (p : Process) (a : Act) → (process_act past p a).ended ≡ true → (p.ended ≡ true) ⊎ (a ≡ act.Finish)
    ends_if past p act.Finish ended = inr refl
    ends_if past p _ ended = inl ended

    one : (session : Session) (h : List Entry) (e : Entry) → IsLegal session h → MayFollow session h e → (q : ℕ) → (has_ended h q ≡ true → list_any (λ (e : Entry). e.who == q) h ≡ true)
        → has_ended (h ++ e ∷ []) q ≡ true → (list_any (λ (e : Entry). e.who == q) h || list_any (λ (e : Entry). e.who == q) (e ∷ [])) ≡ true
    one session h e legal next q by ended = at_own (e.what == q && not (is_fault e.reply)) refl (sym (ap (λ (p : Process). p.ended) (process-append h e q)) ∙ ended)
      where
        front : has_ended h q ≡ true → (list_any (λ (e : Entry). e.who == q) h || list_any (λ (e : Entry). e.who == q) (e ∷ [])) ≡ true
        front was = ap (λ b. b || list_any (λ (e : Entry). e.who == q) (e ∷ [])) (by was)

        at_own : (b : Bool) → (e.what == q && not (is_fault e.reply)) ≡ b → (cond b (process_act h (process_after h q) e.act) (process_after h q)).ended ≡ true
            → (list_any (λ (e : Entry). e.who == q) h || list_any (λ (e : Entry). e.who == q) (e ∷ [])) ≡ true
        at_own false t is = front is
        at_own true t is = elim (ends_if h (process_after h q) e.act is) [
          | inl was ↦ front was
          | inr f ↦
              let own : e.what ≡ e.who = finish_own e.who (before_call h e.who e.number) (call_entries h e.who e.number) _ _ e.what e.act (row session h e legal next) f in
              let mine : (e.who == q) ≡ true = ap (λ w. w == q) (sym own) ∙ true_left (e.what == q) (not (is_fault e.reply)) t in
              ap (λ b. list_any (λ (e : Entry). e.who == q) h || (b || false)) mine ∙ or_true (list_any (λ (e : Entry). e.who == q) h)
        ]

-- What one more entry changes

module _ (session : Session) (h : List Entry) (e : Entry) (legal : IsLegal session h) (next : MayFollow session h e) where
  abbrev after : List Entry
  after = h ++ e ∷ []

  exits-append : (who : ℕ) → count_by (λ (e : Entry). e.who == who && is_exit e.call) after ≡ count_by (λ (e : Entry). e.who == who && is_exit e.call) h + exits who e
  exits-append who = sum_by_push (exits who) h e

  pub others_share : (q : ℕ) → (e.who == q) ≡ false → has_begun h q ≡ true → share after q ≡ share h q
  others_share q other begun =
      let s = caller_step session h e q legal next other begun in
      let ended : has_ended after q ≡ has_ended h q = ap (λ (p : Process). p.ended) s.process in
      let exit : exit_places after q ≡ exit_places h q = exit_same h (e ∷ []) q (ap (λ b. b || false) other) in
      λ i. if ended i then 0 else exit i + call_same h after q s i

  abbrev before : Process
  before = before_call h e.who e.number

  abbrev made : Made
  made = call_entries h e.who e.number

  abbrev it : ℕ × Entry
  it = (length h, e)

  own_call : is_of_call e.who e.number e ≡ true
  own_call = both_true (e.who == e.who) (e.number == e.number) (same_itself e.who) (same_itself e.number)

  pub call_next : call_places after e.who ≡ keeps h e
  call_next =
      let last : last_number after e.who ≡ e.number = last_number-append h e e.who ∙ ap (λ b. cond b e.number (last_number h e.who)) (same_itself e.who) in
      let calls : call_entries after e.who e.number ≡ made ++ it ∷ [] = call_entries-append h e e.who e.number ∙ ap (λ b. made ++ cond b (it ∷ []) []) own_call in
      let was : before_call after e.who e.number ≡ before = ap (λ h. process_after h e.who) (before_hit (is_of_call e.who e.number) h e own_call) in
      ap (λ n. places_in (is_over after e.who n) (call_entries after e.who n)) last
      ∙ (λ i. places_in (ends_call (was i) (calls i)) (calls i))
      ∙ by_first made next.step.called
    where
      ends : (m : Made) → ends_call before (m ++ it ∷ []) ≡ is_last before e
      ends m =
          let longer = length-append m (it ∷ []) in
          ap (λ n. option_map_or (λ (s : ℕ × Entry). is_last before s.1) (slice_get (m ++ it ∷ []) n) false) (let z : length (m ++ it ∷ []) - 1 ≡ length m = omega (arith, longer) in z)
          ∙ ap (λ o. option_map_or (λ (s : ℕ × Entry). is_last before s.1) o false) (slice_get-last m it)

      by_first : (m : Made) → ((j : ℕ) (s : ℕ × Entry) → slice_get m j ≡ Some s → s.1.call ≡ e.call)
          → places_in (ends_call before (m ++ it ∷ [])) (m ++ it ∷ []) ≡ (if is_last before e then 0 else need_of e.call - (length m + 1))
      by_first [] called = ap (λ b. if b then 0 else need_of e.call - 1) (ends [])
      by_first (s ∷ m) called =
          let longer : length (s ∷ m ++ it ∷ []) ≡ length (s ∷ m) + 1 = length-append (s ∷ m) (it ∷ []) in
          (λ i. if ends (s ∷ m) i then 0 else need_of (called 0 s refl i) - longer i)

  -- The law: an entry changes its caller's share, and begins a child's

  pub share_law : is_start e.call ≡ false → held_places after + share h e.who ≡ held_places h + share after e.who + sum_by (share after) (begun_in e)
  share_law ordinary = elim (acts-cases h e next.acts) [
    | inl s ↦ absurd (let z : true ≡ false = sym s.0 ∙ ordinary in cc)
    | inr a ↦
        let o = begun_once session h legal in
        let moved = once_sums (share after) (share h) e.who (processes_of h) (o e.who ∙ ap (λ b. cond b 1 0) a.1) (λ k q at other. others_share q (turned q other) (listed q (o q) (stands_counted (processes_of h) k q at) (has_begun h q) refl)) in
        let now = ap (λ ps. sum_by (share after) ps) (processes-append h e) ∙ sum_by-append (share after) (processes_of h) (begun_in e) in
        omega (arith, moved, now)
  ]
    where
      turned : (q : ℕ) → (q == e.who) ≡ false → (e.who == q) ≡ false
      turned q other = grind (arith, nat_tests)

      nothing : 0 < 0 → ⊥
      nothing low = omega (arith, low)

      listed : (q : ℕ) → count_by (λ x. x == q) (processes_of h) ≡ cond (has_begun h q) 1 0 → 0 < count_by (λ x. x == q) (processes_of h) → (b : Bool) → has_begun h q ≡ b → has_begun h q ≡ true
      listed q is some true t = t
      listed q is some false t = let z : ◌≡◌ {A = ℕ} (cond (has_begun h q) 1 0) 0 = ap (λ b. cond b 1 0) t in let none : 0 < 0 = omega (arith, is, some, z) in absurd (nothing none)

  ordinary_call : has_begun h e.who ≡ true → is_start e.call ≡ false
  ordinary_call begun = elim (acts-cases h e next.acts) [
    | inl s ↦ absurd (let z : false ≡ true = sym (ap (λ h. has_begun h e.who) s.1) ∙ begun in cc)
    | inr a ↦ a.0
  ]

  share_was : has_ended h e.who ≡ false → share h e.who ≡ exit_places h e.who + call_places h e.who
  share_was lives = ap (λ b. if b then 0 else exit_places h e.who + call_places h e.who) lives

  -- what is held is at least its caller's share
  pub share_low : is_start e.call ≡ false → share h e.who ≤ held_places h
  share_low ordinary = elim (acts-cases h e next.acts) [
    | inl s ↦ absurd (let z : true ≡ false = sym s.0 ∙ ordinary in cc)
    | inr a ↦
        let other : ℕ → ℕ = λ q. cond (q == e.who) 0 (share h q) in
        let moved = once_sums other (share h) e.who (processes_of h) (begun_once session h legal e.who ∙ ap (λ b. cond b 1 0) a.1) (λ k q at apart. ap (λ b. cond b 0 (share h q)) apart) in
        let none : other e.who ≡ 0 = ap (λ b. cond b 0 (share h e.who)) (same_itself e.who) in
        omega (arith, moved, none)
  ]

  pub held_enough : has_begun h e.who ≡ true → has_ended h e.who ≡ false → exit_places h e.who + call_places h e.who ≤ held_places h
  held_enough begun lives =
      let low = share_low (ordinary_call begun) in
      let was = share_was lives in
      omega (arith, low, was)

  -- an entry of a living process that is neither its end nor a child's beginning

  pub lives_on : (¬ (e.act ≡ act.Finish)) → has_ended h e.who ≡ false → has_ended after e.who ≡ false
  lives_on goes lives = ap (λ (p : Process). p.ended) (process-append h e e.who) ∙ if_own (e.what == e.who && not (is_fault e.reply)) ∙ lives
    where
      same : (p : Process) (a : Act) → (¬ (a ≡ act.Finish)) → (process_act h p a).ended ≡ p.ended
      same p act.Finish goes = absurd (goes refl)
      same p _ goes = refl

      if_own : (b : Bool) → (cond b (process_act h (process_after h e.who) e.act) (process_after h e.who)).ended ≡ has_ended h e.who
      if_own true = same (process_after h e.who) e.act goes
      if_own false = refl

  exit_next : (own : ℕ) → own + exit_step e.call ≡ exit_places h e.who → exit_places after e.who ≡ own
  exit_next own is =
      let one : exits e.who e ≡ exit_step e.call = ap (λ b. cond b 1 0) (ap (λ b. b && is_exit e.call) (same_itself e.who)) in
      let a = exits-append e.who in
      omega (arith, is, one, a)

  none_born : is_start e.call ≡ false → ((out : ℕ) (descriptors : Held) → ¬ (e.act ≡ act.Born out descriptors)) → begun_in e ≡ []
  none_born ordinary unborn = by_parts e.call e.act ordinary unborn
    where
      by_parts : (name : CallName) (a : Act) → is_start name ≡ false → ((out : ℕ) (descriptors : Held) → ¬ (a ≡ act.Born out descriptors))
          → cons_option (begun_by name a e.what e.reply) [] ≡ []
      by_parts call.Start a s unborn = absurd (cc)
      by_parts _ (act.Born out descriptors) s unborn = absurd (unborn out descriptors refl)
      by_parts _ _ s unborn = refl

  none_new : is_start e.call ≡ false → ((out : ℕ) (descriptors : Held) → ¬ (e.act ≡ act.Born out descriptors)) → sum_by (share after) (begun_in e) ≡ 0
  none_new start unborn = ap (λ ps. sum_by (share after) ps) (none_born start unborn)

  pub living_law : has_begun h e.who ≡ true → has_ended h e.who ≡ false → (¬ (e.act ≡ act.Finish)) → ((out : ℕ) (descriptors : Held) → ¬ (e.act ≡ act.Born out descriptors))
      → (own : ℕ) → own + exit_step e.call ≡ exit_places h e.who
      → (held_places after + (exit_places h e.who + call_places h e.who) ≡ held_places h + (own + keeps h e)) × (exit_places after e.who ≡ own)
  living_law begun lives goes unborn own is =
      let start = ordinary_call begun in
      let law = share_law start in
      let none = none_new start unborn in
      let was = share_was lives in
      let now : share after e.who ≡ exit_places after e.who + call_places after e.who = ap (λ b. if b then 0 else exit_places after e.who + call_places after e.who) (lives_on goes lives) in
      let exit = exit_next own is in
      (omega (arith, law, none, was, now, exit, call_next), exit)

  -- its end
  pub ended_law : has_begun h e.who ≡ true → has_ended h e.who ≡ false → e.act ≡ act.Finish → e.what ≡ e.who → is_fault e.reply ≡ false
      → held_places after + (exit_places h e.who + call_places h e.who) ≡ held_places h
  ended_law begun lives is own done =
      let start = ordinary_call begun in
      let law = share_law start in
      let none = none_new start (λ out ds born. other out ds (sym is ∙ born)) in
      let was = share_was lives in
      let ended : has_ended after e.who ≡ true = ap (λ (p : Process). p.ended) (process-append h e e.who
      ∙ ap (λ b. cond b (process_act h (process_after h e.who) e.act) (process_after h e.who)) (both_true (e.what == e.who) (not (is_fault e.reply)) (ap (λ w. w == e.who) own ∙ same_itself e.who) (ap not done))
      ∙ ap (λ a. process_act h (process_after h e.who) a) is) in
      let now : share after e.who ≡ 0 = ap (λ b. if b then 0 else exit_places after e.who + call_places after e.who) ended in
      omega (arith, law, none, was, now)
    where
      other : (out : ℕ) (descriptors : Held) → ¬ (◌≡◌ {A = Act} act.Finish (act.Born out descriptors))
      other out ds e = absurd (cc)

  -- a child's beginning

  born_new : (name : CallName) (out : ℕ) (descriptors : Held) → is_start name ≡ false → cons_option (begun_by name (act.Born out descriptors) e.what e.reply) [] ≡ e.what ∷ []
  born_new call.Start out ds s = absurd (cc)
  born_new _ out ds s = refl

  module _ (out : ℕ) (descriptors : Held) (born : e.act ≡ act.Born out descriptors) (begun : has_begun h e.who ≡ true) (lives : has_ended h e.who ≡ false) where
    start : is_start e.call ≡ false
    start = ordinary_call begun

    abbrev child : ℕ
    child = e.what

    unbegun : has_begun h child ≡ false
    unbegun = by_test (has_begun h child) refl
      where
        by_test : (b : Bool) → has_begun h child ≡ b → has_begun h child ≡ false
        by_test true t = no_rebirth session h e out descriptors legal next born t
        by_test false t = t

    begins_now : has_begun after child ≡ true
    begins_now = begun_next h e child ∙ ap (λ b. has_begun h child || b) (by_name e.call start) ∙ or_true (has_begun h child)
      where
        of_act : (name : CallName) → is_start name ≡ false → begins child name (act.Born out descriptors) child e.reply ≡ true
        of_act call.Start s = absurd (cc)
        of_act _ s = same_itself child

        by_name : (name : CallName) → is_start name ≡ false → begins child name e.act child e.reply ≡ true
        by_name name s = ap (λ a. begins child name a child e.reply) born ∙ of_act name s

        or_true : (b : Bool) → b || true ≡ true
        or_true true = refl
        or_true false = refl

    legal_now : IsLegal session after
    legal_now = legal-push session h e legal next

    -- nothing in the history is by it
    no_child : (i : ℕ) (f : Entry) → slice_get after i ≡ Some f → f.who ≡ child → ⊥
    no_child i f at is = elim (place_of h e i f at) [
      | inl l ↦ elim (who_begun session h i f legal l.0) [
        | inl z ↦ zero_not session after legal_now (ap (λ w. has_begun after w) (sym z ∙ is) ∙ begins_now)
        | inr b ↦ absurd (let z : true ≡ false = sym b ∙ ap (λ w. has_begun h w) is ∙ unbegun in cc)
      ]
      | inr r ↦ absurd (let z : true ≡ false = sym begun ∙ ap (λ w. has_begun h w) (ap (λ (f : Entry). f.who) r.1 ∙ is) ∙ unbegun in cc)
    ]

    none_by : list_any (λ (f : Entry). f.who == child) after ≡ false
    none_by = by_test (list_any (λ (f : Entry). f.who == child) after) refl
      where
        by_test : (b : Bool) → list_any (λ (f : Entry). f.who == child) after ≡ b → list_any (λ (f : Entry). f.who == child) after ≡ false
        by_test true t = let (i, f, at, pass) = any_at (λ (f : Entry). f.who == child) after t in absurd (no_child i f at (same_numbers f.who child pass))
        by_test false t = t

    pub child_exit : exit_places after child ≡ 65
    child_exit = let z = no_exits child after none_by in ap (λ n. 65 - n) z

    pub child_call : call_places after child ≡ 0
    child_call =
        let none = no_calls after child (last_number after child) (λ i f at w n. no_child i f at w) in
        (λ i. places_in (is_over after child (last_number after child)) (none i)) ∙ either (is_over after child (last_number after child))
      where
        either : (b : Bool) → ◌≡◌ {A = ℕ} (if b then 0 else 0) 0
        either true = refl
        either false = refl

    pub child_lives : has_ended after child ≡ false
    child_lives = by_test (has_ended after child) refl
      where
        by_test : (b : Bool) → has_ended after child ≡ b → has_ended after child ≡ false
        by_test true t = absurd (let z : true ≡ false = sym (ended_by session after legal_now child t) ∙ none_by in cc)
        by_test false t = t

    pub child_begun : has_begun after child ≡ true
    child_begun = begins_now

    pub born_law : is_exit e.call ≡ false → (held_places after + call_places h e.who ≡ held_places h + keeps h e + 65) × (exit_places after e.who ≡ exit_places h e.who)
    born_law other =
        let law = share_law start in
        let new : begun_in e ≡ child ∷ [] = ap (λ a. cons_option (begun_by e.call a e.what e.reply) []) born ∙ born_new e.call out descriptors start in
        let one = ap (λ ps. sum_by (share after) ps) new in
        let sum = sum_by-cons (share after) child [] in
        let its : share after child ≡ 65 = ap (λ b. if b then 0 else exit_places after child + call_places after child) child_lives ∙ (λ i. child_exit i + child_call i) in
        let was = share_was lives in
        let goes : (¬ (e.act ≡ act.Finish)) = λ f. unlike (sym born ∙ f) in
        let now : share after e.who ≡ exit_places after e.who + call_places after e.who = ap (λ b. if b then 0 else exit_places after e.who + call_places after e.who) (lives_on goes lives) in
        let exit : exit_places after e.who ≡ exit_places h e.who = exit_next (exit_places h e.who) (let z : exit_step e.call ≡ 0 = ap (λ b. if b then 1 else 0) other in omega (arith, z)) in
        (omega (arith, law, one, sum, its, was, now, exit, call_next), exit)
      where
        unlike : ◌≡◌ {A = Act} (act.Born out descriptors) act.Finish → ⊥
        unlike e = absurd (cc)

-- The first process

module _ (n : ℕ) (real : 1 ≤ n) where
  abbrev first : Entry
  first = record { who = 0; number = 0; call = call.Start; what = 0; act = act.Mint kind.Process; reply = answer.Made n }

  abbrev only : List Entry
  only = first ∷ []

  apart : (0 == n) ≡ false
  apart = grind (arith, nat_tests, real)

  lives : has_ended only n ≡ false
  lives = ap (λ (b : Bool). (cond (b && true) (process_act [] new_process (act.Mint kind.Process)) new_process).ended) apart

  exit : exit_places only n ≡ 65
  exit = ap (λ b. 65 - (0 + cond (b && false) 1 0)) apart

  last : last_number only n ≡ 0
  last = ap (λ b. cond b 0 0) apart

  none : call_entries only n 0 ≡ []
  none = ap (λ b. cond (b && (0 == 0)) ((0, first) ∷ []) []) apart

  nothing : (b : Bool) → ◌≡◌ {A = ℕ} (if b then 0 else 0) 0
  nothing true = refl
  nothing false = refl

  call_held : call_places only n ≡ 0
  call_held = ap (λ m. places_in (is_over only n m) (call_entries only n m)) last ∙ (λ i. places_in (is_over only n 0) (none i)) ∙ nothing (is_over only n 0)

  first_held : held_places only ≡ 65
  first_held =
      let here : share only n ≡ 65 = ap (λ b. if b then 0 else exit_places only n + call_places only n) lives ∙ (λ i. exit i + call_held i) in
      let one = sum_by-cons (share only) n [] in
      omega (arith, here, one)

pub first_places_law : FirstPlacesLaw
first_places_law n real = first_held n real

pub share_holds : ShareLaw
share_holds session h e legal next = share_law session h e legal next

pub held_law : HeldLaw
held_law session h e l = held_enough session h e l.legal l.next l.begun l.lives

pub living_places_law : LivingPlacesLaw
living_places_law session h e l = living_law session h e l.legal l.next l.begun l.lives

pub birth_places_law : BirthPlacesLaw
birth_places_law session h e out descriptors l born = born_law session h e l.legal l.next out descriptors born l.begun l.lives

pub end_places_law : EndPlacesLaw
end_places_law session h e l = ended_law session h e l.legal l.next l.begun l.lives
