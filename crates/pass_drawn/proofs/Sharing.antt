-- On a fresh store each process of a drawn trace holds the shared file at each of its calls but the first one's first.
use Rattle.std.proofs.Common.{◌≡◌, ◌<◌, ◌≤◌, ◌+◌, ℕ, zero, suc, List, [], ◌∷◌, length, take, codes, refl, ap, sym, ◌∙◌, subst, arith, inl, inr, Bool, true, false, not, ◌||◌, ◌==◌, cond}
use Rattle.std.specs.Prelude.{Some, slice_get}
use Rattle.std.specs.List.{list_any, position_or_len}
use Rattle.std.proofs.lemmas.List.{length-take}
use Rattle.std.proofs.lemmas.Option.{slice_get_within}
use Rattle.pass_entry.specs.declared.entry.Entry.{Entry}
use Rattle.pass_entry.specs.declared.entry.Act.{Act}
use Rattle.pass_entry.specs.declared.entry.Act.TheVariants as act
use Rattle.pass_entry.specs.declared.entry.CallName.{CallName}
use Rattle.pass_entry.specs.declared.entry.CallName.TheVariants as call_name
use Rattle.pass_entry.specs.declared.entry.Reply.{Reply}
use Rattle.pass_entry.specs.declared.entry.Reply.TheVariants as answer
use Rattle.pass_entry.specs.declared.objects.Kind.TheVariants as kind
use Rattle.pass_entry.proofs.Places.{slice_get-take, take_one_more}
use Rattle.pass_plain.specs.declared.request.Request.TheVariants as requests
use Rattle.pass_plain.specs.Histories.{call_entries, is_fault, is_of_call}
use Rattle.pass_plain.specs.Sessions.{Session}
use Rattle.pass_plain.specs.Replies.{reply_to}
use Rattle.pass_plain.specs.Processes.{Process, Held, process_after, begins, has_begun, has_ended}
use Rattle.pass_plain.specs.Calls.{call_steps}
use Rattle.pass_plain.specs.Legal.{is_start, before_call, last_number}
use Rattle.pass_plain.specs.Traces.{Line, given, fork_as, calls_of}
use Rattle.pass_plain.specs.Runs.{IsRun, request_at, steps_at}
use Rattle.pass_plain.proofs.Lists.{some_is, same_numbers, same_itself, both_true, true_left, true_right, is_place, any_at, any_of, in_take, within_take, below_or, alike}
use Rattle.pass_plain.proofs.Beginning.{in_call, begins-cases}
use Rattle.pass_plain.proofs.Calling.{acts-cases, legal_take, numbered, next_number, row, steps_by}
use Rattle.pass_plain.proofs.Rows.{Row, row_of_step}
use Rattle.pass_replay.specs.Ends.{NoneOpen}
use Rattle.pass_replay.proofs.Births.{fork_call}
use Rattle.pass_replay.proofs.NextCalls.{any_call}
use Rattle.pass_replay.proofs.StepKinds.{is_born, kind_of}
use Rattle.pass_drawn.specs.Runs.{drawn_trace}
use Rattle.pass_drawn.proofs.Calls.{called, call_step, start_acts, tame}
use Rattle.pass_drawn.proofs.Counting.{some_entry, pnode, is_first, single}
use Rattle.pass_drawn.proofs.Created.{created}
use Rattle.pass_drawn.proofs.Firsts.{first_entry}
use Rattle.pass_drawn.proofs.Opened.{HasShared, Opens, Keeps, keeps_next}
use Rattle.pass_drawn.proofs.Tracing.{IsChilds, call_drawn, ruled}
use Rattle.pass_drawn.proofs.Turns.{creat_call}

-- the first place at which an element passes
pub record IsFirstPlace {X : Type 0} (p : X → Bool) (xs : List X) : Type 0 where
  pub item : X
  pub stands : slice_get xs (position_or_len p xs) ≡ Some item
  pub passes : p item ≡ true
  pub before : (k : ℕ) (z : X) → k < position_or_len p xs → slice_get xs k ≡ Some z → p z ≡ false

first_place_if : {X : Type 0} (p : X → Bool) (x : X) (xs : List X) → (list_any p xs ≡ true → IsFirstPlace p xs) → list_any p (x ∷ xs) ≡ true → (b : Bool) → p x ≡ b → IsFirstPlace p (x ∷ xs)
first_place_if p x xs later some true t =
    let zero_is : position_or_len p (x ∷ xs) ≡ 0 = ap (λ b. cond (not b) (1 + position_or_len p xs) 0) t in
    record { item = x; stands = ap (λ n. slice_get (x ∷ xs) n) zero_is; passes = t; before = λ k z less at. absurd (omega (arith, less, zero_is)) }
first_place_if {X = X} p x xs later some false t =
    let next : position_or_len p (x ∷ xs) ≡ suc (position_or_len p xs) =
    ap (λ b. cond (not b) (1 + position_or_len p xs) 0) t ∙ (let z : 1 + position_or_len p xs ≡ suc (position_or_len p xs) = omega arith in z) in
    let f = later (sym (ap (λ b. b || list_any p xs) t) ∙ some) in
    record {
      item = f.item;
      stands = ap (λ n. slice_get (x ∷ xs) n) next ∙ f.stands;
      passes = f.passes;
      before = λ k z less at. earlier f k z (omega (arith, less, next)) at;
    }
  where
    earlier : IsFirstPlace p xs → (k : ℕ) (z : X) → k < suc (position_or_len p xs) → slice_get (x ∷ xs) k ≡ Some z → p z ≡ false
    earlier f zero z less at = ap p (sym (some_is x z at)) ∙ t
    earlier f (suc k) z less at = f.before k z (omega (arith, less)) at

first_place : {X : Type 0} (p : X → Bool) (xs : List X) → list_any p xs ≡ true → IsFirstPlace p xs
first_place p [] some = absurd (cc)
first_place p (x ∷ xs) some = first_place_if p x xs (λ more. first_place p xs more) some (p x) refl

born_begins : (object : ℕ) (c : CallName) (out : ℕ) (descriptors : Held) (what : ℕ) (reply : Reply) → is_start c ≡ false → begins object c (act.Born out descriptors) what reply ≡ (what == object)
born_begins object call_name.Start out descriptors what reply other = absurd (cc)
born_begins object _ out descriptors what reply other = refl

mint_opens : (a : Act) → a ≡ act.Mint kind.Process → Opens a → ⊥
mint_opens a is opens = let z : Opens (act.Mint kind.Process) = subst Opens is opens in z

module _ (session : Session) (number lines : ℕ) (history : List Entry) (run : IsRun session (drawn_trace number lines) history) (some_object : 1 ≤ session.objects)
    (closed : NoneOpen session (drawn_trace number lines) history)
    (no_files : session.start.files.items ≡ []) (no_apps : session.start.apps.items ≡ []) (room : 2 ≤ session.objects) where
  abbrev trace : List Line
  trace = drawn_trace number lines

  abbrev first_who : ℕ
  first_who = session.start.ceiling + 1

  first_is : pnode session number lines history run some_object closed 1 ≡ Some first_who
  first_is = is_first session number lines history run some_object closed

  begun_later : (i n who : ℕ) → i ≤ n → has_begun (take i history) who ≡ true → has_begun (take n history) who ≡ true
  begun_later i n who le has =
      let (j, g, at, by) = any_at (λ e. begins who e.call e.act e.what e.reply) (take i history) has in
      let within = within_take i j history g at in
      any_of (λ e. begins who e.call e.act e.what e.reply) (take n history) j g (in_take j n history g (omega (arith, within, le)) (slice_get-take i j history g at)) by

  -- who comes to hold the file has begun
  opener_begun : (n i : ℕ) (f : Entry) → slice_get (take n history) i ≡ Some f → Opens f.act → has_begun (take n history) f.what ≡ true
  opener_begun n i f at opens = at_test (is_start f.call) refl
    where
      there : slice_get history i ≡ Some f
      there = slice_get-take n i history f at

      by_act : (a : Act) → f.act ≡ a → Opens a → is_start f.call ≡ false → has_begun (take n history) f.what ≡ true
      by_act (act.Attach fd d) is opens other =
          let r = subst (λ a. Row f.who (before_call (take i history) f.who f.number) (call_entries (take i history) f.who f.number) (steps_by session (take i history) f (legal_take session history i run.legal) (run.legal i f there)) (length (call_entries (take i history) f.who f.number)) f.what a) is
          (row session (take i history) f (legal_take session history i run.legal) (run.legal i f there)) in
          let within = within_take n i history f at in
          elim (acts-cases (take i history) f (run.legal i f there).acts) [
            | inl start ↦ absurd (let z : true ≡ false = sym start.0 ∙ other in cc)
            | inr acts ↦ begun_later i n f.what (omega (arith, within)) (ap (λ w. has_begun (take i history) w) r.0 ∙ acts.1)
          ]
      by_act (act.Born out descriptors) is opens other =
          any_of (λ e. begins f.what e.call e.act e.what e.reply) (take n history) i f at
          (ap (λ a. begins f.what f.call a f.what f.reply) is ∙ born_begins f.what f.call out descriptors f.what f.reply other ∙ same_itself f.what)
      by_act _ is opens other = absurd opens

      at_test : (b : Bool) → is_start f.call ≡ b → has_begun (take n history) f.what ≡ true
      at_test true t = absurd (mint_opens f.act (start_acts session number lines history run i f there t) opens)
      at_test false t = by_act f.act refl opens t

  keeps : (n : ℕ) → n ≤ length history → Keeps (take n history)
  keeps zero short = λ i f who at on opens done has. absurd (cc)
  keeps (suc n) short =
      let (e, at) = is_place history n (omega (arith, short)) in
      subst Keeps (sym (take_one_more history n e at))
      (keeps_next session (take n history) e (legal_take session history n run.legal) (run.legal n e at) (tame session number lines history run n e at) (λ i f there opens. opener_begun n i f there opens) (keeps n (omega (arith, short))))

  -- a process has come to hold the file before a place
  pub record IsOpener (who place : ℕ) : Type 0 where
    pub at : ℕ
    pub entry : Entry
    pub stands : slice_get history at ≡ Some entry
    pub earlier : at < place
    pub on : entry.what ≡ who
    pub opens : Opens entry.act
    pub done : is_fault entry.reply ≡ false

  -- who makes an entry has begun and lives
  pub acting : (j : ℕ) (g : Entry) → slice_get history j ≡ Some g → 1 ≤ g.number → (has_begun (take j history) g.who ≡ true) × (has_ended (take j history) g.who ≡ false)
  acting j g at some = elim (acts-cases (take j history) g (run.legal j g at).acts) [
    | inl start ↦ absurd (let z = start.3 in omega (arith, z, some))
    | inr acts ↦ (acts.1, acts.2)
  ]

  -- then it holds it at each later entry of its own
  pub shared_at : (who j : ℕ) (g : Entry) → slice_get history j ≡ Some g → g.who ≡ who → 1 ≤ g.number → IsOpener who j → HasShared (process_after (take j history) who).descriptors
  shared_at who j g at by some o =
      let (begun, alive) = acting j g at some in
      let within = slice_get_within history j g at in
      elim (keeps j (omega (arith, within)) o.at o.entry who (in_take o.at j history o.entry o.earlier o.stands) o.on o.opens o.done (ap (λ w. has_begun (take j history) w) (sym by) ∙ begun)) [
        | inr has ↦ has
        | inl ended ↦ absurd (let z : true ≡ false = sym ended ∙ ap (λ w. has_ended (take j history) w) (sym by) ∙ alive in cc)
      ]

  -- the numbers of a process's calls rise
  pub ordered : (i j : ℕ) (f g : Entry) → slice_get history i ≡ Some f → slice_get history j ≡ Some g → f.who ≡ g.who → f.number < g.number → i < j
  ordered i j f g at_f at_g same less = elim (below_or i j) [
    | inl l ↦ l
    | inr r ↦ elim r [
      | inr equal_places ↦ absurd (
          let one : f ≡ g = some_is f g (sym at_f ∙ ap (λ n. slice_get history n) equal_places ∙ at_g) in
          let n = ap (λ (e : Entry). e.number) one in
          omega (arith, n, less))
      | inl later ↦ absurd (
          let below = (numbered session (take i history) (legal_take session history i run.legal)).below j g (in_take j i history g later at_g) in
          let least = (next_number session (take i history) f (run.legal i f at_f)).0 in
          let w = ap (λ w. last_number (take i history) w) same in
          omega (arith, below, least, w, less))
    ]
  ]

  -- the first entry of a call
  pub record IsCallStart (who n : ℕ) : Type 0 where
    pub place : ℕ
    pub entry : Entry
    pub stands : slice_get history place ≡ Some entry
    pub by : entry.who ≡ who
    pub numbered_as : entry.number ≡ n
    pub state : before_call history who n ≡ process_after (take place history) who
    pub before : (k : ℕ) (z : Entry) → k < place → slice_get history k ≡ Some z → z.who ≡ who → z.number ≡ n → ⊥

  pub call_start : (who n i : ℕ) (f : Entry) → slice_get history i ≡ Some f → f.who ≡ who → f.number ≡ n → IsCallStart who n
  call_start who n i f at by its =
      let s = first_place (is_of_call who n) history (any_of (is_of_call who n) history i f at (both_true (f.who == who) (f.number == n) (alike f.who who by) (alike f.number n its))) in
      record {
        place = position_or_len (is_of_call who n) history;
        entry = s.item;
        stands = s.stands;
        by = same_numbers s.item.who who (true_left (s.item.who == who) (s.item.number == n) s.passes);
        numbered_as = same_numbers s.item.number n (true_right (s.item.who == who) (s.item.number == n) s.passes);
        state = refl;
        before = λ k z less there w m. let a : true ≡ false = sym (both_true (z.who == who) (z.number == n) (alike z.who who w) (alike z.number n m)) ∙ s.before k z less there in cc;
      }

  -- the first process holds the file before each call but its first one
  first_shared : (n i : ℕ) (f : Entry) → slice_get history i ≡ Some f → f.who ≡ first_who → f.number ≡ n → 2 ≤ n → HasShared (before_call history first_who n).descriptors
  first_shared n i f at by its least =
      let c = created session number lines history run some_object closed no_files no_apps room in
      let s = call_start first_who n i f at by its in
      let one = c.numbered in
      let its_number = s.numbered_as in
      let earlier = ordered c.place s.place c.entry s.entry c.stands s.stands (c.by ∙ sym s.by) (omega (arith, one, its_number, least)) in
      subst (λ (p : Process). HasShared p.descriptors) (sym s.state)
      (shared_at first_who s.place s.entry s.stands s.by (omega (arith, its_number, least))
      (record { at = c.place; entry = c.entry; stands = c.stands; earlier = earlier; on = c.on; opens = subst Opens (sym c.attaches) (refl, c.shared); done = c.done }))

  -- so each child gets it
  born_shared : (i : ℕ) (f : Entry) (out : ℕ) (descriptors : Held) → slice_get history i ≡ Some f → f.act ≡ act.Born out descriptors → is_start f.call ≡ false → HasShared descriptors
  born_shared i f out descriptors at born other =
      let c = called session number lines history run i f at other in
      let (j, there) = in_call history i f f.who (c.done + 1) at refl c.counted in
      let step = call_step session number lines history run c.process f.who c.done c.call c.begun c.stands j (i, f) there in
      let p = before_call history f.who (c.done + 1) in
      let made = call_entries history f.who (c.done + 1) in
      let c_done = c.done in
      let forks = (kind_of f.who p made (request_at session trace history f.who (c.done + 1) c.call) j (f.what, f.act) step).born (ap is_born born) in
      let (q, fork) = fork_call _ p.last_read c.call (any_call trace c.process c.done c.call (ruled number lines) c.stands) forks in
      let first_one : c.process ≡ 1 = elim (call_drawn number lines c.process c.done c.call c.stands) [
        | inr exit ↦ absurd (let z : fork_as q ≡ given requests.Exit = sym fork ∙ exit in cc)
        | inl drawn ↦ elim drawn [ inl one ↦ one.0 | inr child ↦ absurd (subst IsChilds fork child.2) ]
      ] in
      let who_is : f.who ≡ first_who = some_is f.who first_who (sym c.begun ∙ ap (pnode session number lines history run some_object closed) first_one ∙ first_is) in
      let later : 1 ≤ c.done = not_creat c.done (ap (λ p. slice_get (calls_of trace p) c.done) (sym first_one) ∙ c.stands ∙ ap (λ c. Some c) fork) in
      let counted = c.counted in
      let has : HasShared p.descriptors = subst (λ w. HasShared (before_call history w (c.done + 1)).descriptors) (sym who_is) (first_shared (c.done + 1) i f at who_is counted (omega (arith, later))) in
      let step_fork : slice_get (call_steps f.who p made requests.Fork) j ≡ Some (f.what, f.act) = ap (λ c. slice_get (steps_at session trace history f.who (c_done + 1) c) j) (sym fork) ∙ step in
      let r = subst (λ a. Row f.who p made (call_steps f.who p made requests.Fork) j f.what a) born (row_of_step f.who p made requests.Fork refl j (f.what, f.act) step_fork) in
      subst HasShared (sym r.4) has
    where
      not_creat : {q : ℕ} (k : ℕ) → slice_get (calls_of trace 1) k ≡ Some (fork_as q) → 1 ≤ k
      not_creat {q} zero stands = absurd (let z : given (requests.Creat 3 (codes "shared")) ≡ fork_as q = some_is (given (requests.Creat 3 (codes "shared"))) (fork_as q) (sym (creat_call number lines) ∙ stands) in cc)
      not_creat (suc k) stands = omega arith

  -- a child holds the file at each of its entries
  pub child_opener : (q who j : ℕ) (g : Entry) → 2 ≤ q → pnode session number lines history run some_object closed q ≡ Some who → slice_get history j ≡ Some g → g.who ≡ who → 1 ≤ g.number → IsOpener who j
  child_opener q who j g least begun at by some =
      let has : has_begun (take j history) who ≡ true = ap (λ w. has_begun (take j history) w) (sym by) ∙ (acting j g at some).0 in
      let (i, f, there, begins_it) = any_at (λ e. begins who e.call e.act e.what e.reply) (take j history) has in
      let within = within_take j i history f there in
      let stands = slice_get-take j i history f there in
      elim (begins-cases who f.call f.act f.what f.reply begins_it) [
        | inl start ↦ absurd (not_first i f stands start.0 start.1)
        | inr born ↦
            let is : f.act ≡ act.Born born.0 born.1 = born.2 in
            let other = at_test i f stands born.0 born.1 is (is_start f.call) refl in
            let replied = (run.legal i f stands).replied in
            record {
              at = i;
              entry = f;
              stands = stands;
              earlier = within;
              on = born.3;
              opens = subst Opens (sym is) (born_shared i f born.0 born.1 stands is other);
              done = ap is_fault (sym (some_is answer.Done f.reply (ap (λ a. reply_to session (take i history) f.what a) (sym is) ∙ replied)));
            }
      ]
    where
      at_test : (i : ℕ) (f : Entry) → slice_get history i ≡ Some f → (out : ℕ) (descriptors : Held) → f.act ≡ act.Born out descriptors → (b : Bool) → is_start f.call ≡ b → is_start f.call ≡ false
      at_test i f stands out descriptors is false t = t
      at_test i f stands out descriptors is true t = absurd (let z : act.Mint kind.Process ≡ act.Born out descriptors = sym (start_acts session number lines history run i f stands t) ∙ is in cc)

      -- the first process's entry begins no other
      not_first : (i : ℕ) (f : Entry) → slice_get history i ≡ Some f → f.call ≡ call_name.Start → f.reply ≡ answer.Made who → ⊥
      not_first i f stands named made = elim (acts-cases (take i history) f (run.legal i f stands).acts) [
        | inr acts ↦ (let z : true ≡ false = ap is_start (sym named) ∙ acts.0 in cc)
        | inl start ↦
            let first = first_entry session history some_object run.legal (some_entry session trace history closed) in
            let size : length (take i history) ≡ 0 = ap length start.1 in
            let within = slice_get_within history i f stands in
            let counted = length-take i history in
            let zero_is : i ≡ 0 = omega (arith, size, within, counted) in
            let same : first.entry ≡ f = some_is first.entry f (sym first.stands ∙ ap (λ n. slice_get history n) (sym zero_is) ∙ stands) in
            let reply : answer.Made first_who ≡ answer.Made who = sym first.reply ∙ ap (λ (e : Entry). e.reply) same ∙ made in
            let who_is : first_who ≡ who = cc (reply) in
            let one = single session number lines history run some_object closed q 1 who begun (first_is ∙ ap (λ w. Some w) who_is) in
            omega (arith, one, least)
      ]

  -- and before each of its calls
  pub child_shared : (q who n i : ℕ) (f : Entry) → 2 ≤ q → pnode session number lines history run some_object closed q ≡ Some who → slice_get history i ≡ Some f → f.who ≡ who → f.number ≡ n → 1 ≤ n
      → HasShared (before_call history who n).descriptors
  child_shared q who n i f least begun at by its some =
      let s = call_start who n i f at by its in
      let its_number = s.numbered_as in
      subst (λ (p : Process). HasShared p.descriptors) (sym s.state)
      (shared_at who s.place s.entry s.stands s.by (omega (arith, its_number, some)) (child_opener q who s.place s.entry least begun s.stands s.by (omega (arith, its_number, some))))
