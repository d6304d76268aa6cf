-- On a fresh store the first process of a drawn trace makes the file, and holds it open at descriptor 3.
use Rattle.std.proofs.Common.{◌≡◌, ◌<◌, ◌≤◌, ◌+◌, ◌-◌, ℕ, zero, suc, List, [], ◌∷◌, ◌++◌, length, take, codes, refl, ap, sym, ◌∙◌, subst, arith, inl, inr, Bool, true, false, not, ◌||◌, ◌&&◌, ◌==◌, cond}
use Rattle.std.specs.Prelude.{Some, None, is_some, slice_get, filter, filter_map, nat_le, map}
use Rattle.std.specs.Option.{option_map_or}
use Rattle.std.specs.List.{before_first, enumerate_from}
use Rattle.std.specs.FinMap as finite_map
use Rattle.std.specs.Ordering.{nat_cmp}
use Rattle.std.specs.Cmp.Lexicographic.{slice_cmp}
use Rattle.std.proofs.lemmas.Bool.Decides.{nat_tests}
use Rattle.std.proofs.lemmas.Option.{slice_get_within}
use Rattle.pass_entry.specs.declared.entry.Entry.{Entry}
use Rattle.pass_entry.specs.declared.entry.Act.TheVariants as act
use Rattle.pass_entry.specs.declared.entry.Ask.TheVariants as ask
use Rattle.pass_entry.specs.declared.entry.CallFault.TheVariants as fault
use Rattle.pass_entry.specs.declared.entry.CallName.TheVariants as call_name
use Rattle.pass_entry.specs.declared.entry.Reply.{Reply}
use Rattle.pass_entry.specs.declared.entry.Reply.TheVariants as answer
use Rattle.pass_entry.specs.declared.objects.Descriptor.{Descriptor}
use Rattle.pass_entry.specs.declared.objects.Kind.TheVariants as kind
use Rattle.pass_entry.specs.declared.objects.Mode.TheVariants as mode
use Rattle.pass_entry.specs.declared.objects.Node.{Node}
use Rattle.pass_plain.specs.declared.start.Start.{Start}
use Rattle.pass_plain.specs.declared.start.StartFile.{StartFile}
use Rattle.pass_plain.specs.declared.request.Request.TheVariants as requests
use Rattle.pass_plain.specs.Histories.{call_entries, is_fault, is_of_call}
use Rattle.pass_plain.specs.Sessions.{Session}
use Rattle.pass_plain.specs.Registries.{Registry, registry_after, registry_act, opening_registry, named_file, next_pnode, count_of_kind, Names}
use Rattle.pass_plain.specs.Replies.{reply_to, minted}
use Rattle.pass_plain.specs.Processes.{Process, new_process, process_act, process_after, begins, has_begun, faults_if}
use Rattle.pass_plain.specs.Calls.{Step, Made, act_on, call_steps, is_last, is_last_act, pnode_at}
use Rattle.pass_plain.specs.Legal.{is_start, before_call, last_number, step_of}
use Rattle.pass_plain.specs.Traces.{Line, LineCall, given}
use Rattle.pass_plain.specs.Runs.{IsRun, steps_at}
use Rattle.pass_plain.proofs.Lists.{some_is, same_numbers, any_at, alike}
use Rattle.pass_plain.proofs.Calling.{acts-cases, next_number, of_call}
use Rattle.pass_plain.proofs.TwoPrefixes.{first_hit, first_miss}
use Rattle.pass_replay.specs.Ends.{NoneOpen}
use Rattle.pass_drawn.specs.Runs.{drawn_trace}
use Rattle.pass_drawn.proofs.Acts.{IsShared}
use Rattle.pass_drawn.proofs.Answered.{last_entry, entry_named}
use Rattle.pass_drawn.proofs.Calls.{called, call_step}
use Rattle.pass_drawn.proofs.Counting.{some_entry, pnode, is_first}
use Rattle.pass_drawn.proofs.Firsts.{IsFirstEntry, first_entry}
use Rattle.pass_drawn.proofs.Turns.{creat_call}

-- a list with two elements
two_parts : {X : Type 0} (xs : List X) → 1 < length xs → (a : X) × (b : X) × (rest : List X) × (xs ≡ a ∷ b ∷ rest)
two_parts [] more = absurd (omega (arith, more))
two_parts (a ∷ []) more = absurd (omega (arith, more))
two_parts (a ∷ b ∷ rest) more = (a, b, rest, refl)

-- a registry with no file, in which at most one object was made
record IsNew (r : Registry) : Type 0 where
  names : r.names ≡ finite_map.empty
  few : r.made ≤ 1
  files : count_of_kind kind.File r ≡ 0

new_opening : (start : Start) → start.files.items ≡ [] → start.apps.items ≡ [] → opening_registry start ≡ record { names = finite_map.empty; objects = []; made = 0 }
new_opening start files apps = (λ i. record {
  names = finite_map.from_entries (filter_map named_file (files i));
  objects = map (λ (f : StartFile). (f.node.pnode, kind.File)) (files i) ++ map (λ (n : Node). (n.pnode, kind.App)) (apps i);
  made = 0;
})

new_if : (b : Bool) (reply : Reply) → IsNew (cond b (registry_act (record { names = finite_map.empty; objects = []; made = 0 }) (act.Mint kind.Process) reply) (record { names = finite_map.empty; objects = []; made = 0 }))
new_if true reply = record { names = refl; few = omega arith; files = refl }
new_if false reply = record { names = refl; few = omega arith; files = refl }

binds : (session : Session) (r : Registry) (name : List ℕ) → IsNew r → 2 ≤ session.objects
    → (cond (finite_map.contains_key r.names name) (answer.Fault fault.Exists) (minted session r kind.File)) ≡ answer.Made (next_pnode session r)
binds session r name new room =
    let few = new.few in
    let none : nat_le session.objects r.made ≡ false = grind (arith, nat_tests, few, room) in
    let files : nat_le 1024 (count_of_kind kind.File r) ≡ false = ap (nat_le 1024) new.files in
    ap (λ (names : Names). cond (finite_map.contains_key names name) (answer.Fault fault.Exists) (minted session r kind.File)) new.names
    ∙ ap (λ o. cond (is_some o) (answer.Fault fault.Exists) (minted session r kind.File)) (finite_map.get-empty (slice_cmp nat_cmp) name)
    ∙ ap (λ b. cond (b || nat_le 1024 (count_of_kind kind.File r)) (answer.Fault fault.TooMany) (answer.Made (next_pnode session r))) none
    ∙ ap (λ b. cond b (answer.Fault fault.TooMany) (answer.Made (next_pnode session r))) files

unchanged : (b : Bool) (p : Process) → cond b (process_act [] p (act.Mint kind.Process)) p ≡ p
unchanged true p = refl
unchanged false p = refl

module _ (session : Session) (number lines : ℕ) (history : List Entry) (run : IsRun session (drawn_trace number lines) history) (some_object : 1 ≤ session.objects)
    (closed : NoneOpen session (drawn_trace number lines) history)
    (no_files : session.start.files.items ≡ []) (no_apps : session.start.apps.items ≡ []) (room : 2 ≤ session.objects) where
  abbrev trace : List Line
  trace = drawn_trace number lines

  abbrev who : ℕ
  who = session.start.ceiling + 1

  start : IsFirstEntry session history
  start = first_entry session history some_object run.legal (some_entry session trace history closed)

  first_is : pnode session number lines history run some_object closed 1 ≡ Some who
  first_is = is_first session number lines history run some_object closed

  abbrev call : LineCall
  call = given (requests.Creat 3 (codes "shared"))

  abbrev made : Made
  made = call_entries history who 1

  abbrev state : Process
  state = before_call history who 1

  more : 1 < length history
  more =
      let (m, at, last) = last_entry session number lines history run some_object closed 1 who 0 call first_is (creat_call number lines) in
      let (there, by, its) = of_call history who 1 (length made - 1) m at in
      behind m.0 m.1 there its
    where
      behind : (place : ℕ) (e : Entry) → slice_get history place ≡ Some e → e.number ≡ 1 → 1 < length history
      behind zero e there its =
          let same = some_is start.entry e (sym start.stands ∙ there) in
          let zero_is = start.number in
          let n = ap (λ (e : Entry). e.number) same in
          absurd (omega (arith, zero_is, n, its))
      behind (suc place) e there its = let within = slice_get_within history (suc place) e there in omega (arith, within)

  -- the second entry of the history
  record IsSecond : Type 0 where
    entry : Entry
    rest : List Entry
    whole : history ≡ start.entry ∷ entry ∷ rest
    by : entry.who ≡ who
    numbered : entry.number ≡ 1

  second : IsSecond
  second =
      let (a, b, rest, parts) = two_parts history more in
      let same : a ≡ start.entry = some_is a start.entry (ap (λ h. slice_get h 0) (sym parts) ∙ start.stands) in
      let whole : history ≡ start.entry ∷ b ∷ rest = parts ∙ ap (λ a. a ∷ b ∷ rest) same in
      let at : slice_get history 1 ≡ Some b = ap (λ h. slice_get h 1) whole in
      let front : take 1 history ≡ start.entry ∷ [] = ap (λ h. take 1 h) whole in
      let follows = run.legal 1 b at in
      elim (acts-cases (take 1 history) b follows.acts) [
        | inl empty ↦ absurd (let z : 1 ≡ 0 = ap length (sym front ∙ empty.1) in omega (arith, z))
        | inr acts ↦
            let begun : has_begun (start.entry ∷ []) b.who ≡ true = ap (λ h. has_begun h b.who) (sym front) ∙ acts.1 in
            let by : b.who ≡ who = only_first b.who begun in
            let ordinary : is_start b.call ≡ false = acts.0 in
            let c = called session number lines history run 1 b at ordinary in
            let counted = c.counted in
            let (least, most) = next_number session (take 1 history) b follows in
            let none : last_number (take 1 history) b.who ≡ 0 = ap (λ h. last_number h b.who) front ∙ zero_if (start.entry.who == b.who) in
            record { entry = b; rest = rest; whole = whole; by = by; numbered = omega (arith, counted, most, none) }
      ]
    where
      zero_if : (b : Bool) → cond b start.entry.number 0 ≡ 0
      zero_if true = start.number
      zero_if false = refl

      only_first : (w : ℕ) → has_begun (start.entry ∷ []) w ≡ true → w ≡ who
      only_first w begun =
          let (i, f, at, by) = any_at (λ e. begins w e.call e.act e.what e.reply) (start.entry ∷ []) begun in
          let same : start.entry ≡ f = single_at i f at in
          let here : begins w start.entry.call start.entry.act start.entry.what start.entry.reply ≡ true = ap (λ (f : Entry). begins w f.call f.act f.what f.reply) same ∙ by in
          let started : begins w call_name.Start start.entry.act start.entry.what (answer.Made who) ≡ true =
          ap (λ c. begins w c start.entry.act start.entry.what (answer.Made who)) (sym start.start) ∙ ap (λ y. begins w start.entry.call start.entry.act start.entry.what y) (sym start.reply) ∙ here in
          sym (same_numbers who w started)
        where
          single_at : (i : ℕ) (f : Entry) → slice_get (start.entry ∷ []) i ≡ Some f → start.entry ≡ f
          single_at zero f at = some_is start.entry f at
          single_at (suc i) f at = absurd (cc)

  abbrev entry : Entry
  entry = second.entry

  other_call : is_of_call who 1 start.entry ≡ false
  other_call = ap (λ n. start.entry.who == who && n == 1) start.number ∙ none (start.entry.who == who)
    where
      none : (b : Bool) → b && false ≡ false
      none true = refl
      none false = refl

  own_call : is_of_call who 1 entry ≡ true
  own_call = ap (λ b. b && entry.number == 1) (alike entry.who who second.by) ∙ alike entry.number 1 second.numbered

  first_of_call : slice_get made 0 ≡ Some (1, entry)
  first_of_call =
      let later = filter (λ (s : ℕ × Entry). is_of_call who 1 s.1) (enumerate_from 2 second.rest) in
      ap (λ h. slice_get (call_entries h who 1) 0) second.whole
      ∙ ap (λ b. slice_get (cond b ((0, start.entry) ∷ cond (is_of_call who 1 entry) ((1, entry) ∷ later) later) (cond (is_of_call who 1 entry) ((1, entry) ∷ later) later)) 0) other_call
      ∙ ap (λ b. slice_get (cond b ((1, entry) ∷ later) later) 0) own_call

  front_is : before_first (is_of_call who 1) history ≡ start.entry ∷ []
  front_is =
      ap (before_first (is_of_call who 1)) second.whole ∙ first_miss (is_of_call who 1) start.entry (entry ∷ second.rest) other_call
      ∙ ap (λ h. start.entry ∷ h) (first_hit (is_of_call who 1) entry second.rest own_call)

  state_is : state ≡ new_process
  state_is =
      ap (λ h. process_after h who) front_is
      ∙ ap (λ a. cond (start.entry.what == who && not (is_fault start.entry.reply)) (process_act [] new_process a) new_process) start.mints
      ∙ unchanged (start.entry.what == who && not (is_fault start.entry.reply)) new_process

  abbrev descriptor : Descriptor
  descriptor = record { pnode = pnode_at made 0; kind = kind.File; mode = mode.Both; offset = 0 }

  abbrev own_steps : List Step
  own_steps = act_on 0 (act.Bind (codes "shared")) ∷ act_on who (act.Attach 3 descriptor) ∷ []

  steps_are : steps_at session trace history who 1 call ≡ own_steps
  steps_are =
      ap (λ (p : Process). call_steps who p made (requests.Creat 3 (codes "shared"))) state_is
      ∙ ap (λ o. option_map_or (λ a. act_on who (act.Deny a) ∷ []) (option_map_or (λ f. Some (ask.Free 3)) (faults_if (is_some o) fault.FdTaken None) None) own_steps) (finite_map.get-empty nat_cmp 3)

  step_is : (j : ℕ) (m : ℕ × Entry) → slice_get made j ≡ Some m → slice_get own_steps j ≡ Some (step_of m)
  step_is j m at = ap (λ ss. slice_get ss j) (sym steps_are) ∙ call_step session number lines history run 1 who 0 call first_is (creat_call number lines) j m at

  -- the name is free, and there is room
  bound : is_fault entry.reply ≡ false
  bound =
      let at : slice_get history 1 ≡ Some entry = ap (λ h. slice_get h 1) second.whole in
      let is : act_on 0 (act.Bind (codes "shared")) ≡ step_of (1, entry) = some_is (act_on 0 (act.Bind (codes "shared"))) (step_of (1, entry)) (step_is 0 (1, entry) first_of_call) in
      let follows = run.legal 1 entry at in
      let r = registry_after session (start.entry ∷ []) in
      let new : IsNew r =
      subst IsNew (sym (ap (λ (r : Registry). cond (start.entry.what == 0 && not (is_fault start.entry.reply)) (registry_act r start.entry.act start.entry.reply) r) (new_opening session.start no_files no_apps)
      ∙ ap (λ a. cond (start.entry.what == 0 && not (is_fault start.entry.reply)) (registry_act (record { names = finite_map.empty; objects = []; made = 0 }) a start.entry.reply) (record { names = finite_map.empty; objects = []; made = 0 })) start.mints))
      (new_if (start.entry.what == 0 && not (is_fault start.entry.reply)) start.entry.reply) in
      let replied : reply_to session (start.entry ∷ []) 0 (act.Bind (codes "shared")) ≡ Some entry.reply =
      ap (λ (h : List Entry). reply_to session h 0 (act.Bind (codes "shared"))) (sym (ap (λ h. take 1 h) second.whole))
      ∙ ap (λ (s : Step). reply_to session (take 1 history) s.0 s.1) is ∙ follows.replied in
      ap is_fault (sym (some_is _ entry.reply replied) ∙ binds session r (codes "shared") new room)

  -- so it holds the file
  pub record IsCreated : Type 0 where
    pub place : ℕ
    pub entry : Entry
    pub stands : slice_get history place ≡ Some entry
    pub by : entry.who ≡ session.start.ceiling + 1
    pub numbered : entry.number ≡ 1
    pub on : entry.what ≡ session.start.ceiling + 1
    pub held : Descriptor
    pub attaches : entry.act ≡ act.Attach 3 held
    pub shared : IsShared held
    pub done : is_fault entry.reply ≡ false

  pub created : IsCreated
  created =
      let (m, at, last) = last_entry session number lines history run some_object closed 1 who 0 call first_is (creat_call number lines) in
      at_step (length made - 1) m at last (step_is (length made - 1) m at)
    where
      at_step : (j : ℕ) (m : ℕ × Entry) → slice_get made j ≡ Some m → is_last state m.1 ≡ true → slice_get own_steps j ≡ Some (step_of m) → IsCreated
      at_step zero m at last is =
          let same : (1, entry) ≡ m = some_is (1, entry) m (sym first_of_call ∙ at) in
          let named = entry_named session number lines history run some_object closed 1 who 0 call first_is (creat_call number lines) 0 m at in
          let binds : act.Bind (codes "shared") ≡ m.1.act = ap (λ (s : Step). s.1) (some_is (act_on 0 (act.Bind (codes "shared"))) (step_of m) is) in
          absurd (
          let z : false ≡ true = ap (λ a. is_last_act state call_name.Creat a) binds ∙ ap (λ c. is_last_act state c m.1.act) (sym named)
          ∙ ap (λ b. b || is_last_act state m.1.call m.1.act) (sym (ap (λ (m : ℕ × Entry). is_fault m.1.reply) (sym same) ∙ bound)) ∙ last in cc)
      at_step (suc zero) m at last is =
          let (there, by, its) = of_call history who 1 1 m at in
          let attaches : act_on who (act.Attach 3 descriptor) ≡ step_of m = some_is (act_on who (act.Attach 3 descriptor)) (step_of m) is in
          let replied = (run.legal m.0 m.1 there).replied in
          record {
            place = m.0;
            entry = m.1;
            stands = there;
            by = by;
            numbered = its;
            on = ap (λ (s : Step). s.0) (sym attaches);
            held = descriptor;
            attaches = ap (λ (s : Step). s.1) (sym attaches);
            shared = (refl, refl);
            done = ap is_fault (sym (some_is answer.Done m.1.reply (ap (λ (s : Step). reply_to session (take m.0 history) s.0 s.1) attaches ∙ replied)));
          }
      at_step (suc (suc j)) m at last is = absurd (cc)
