-- The entries of a run of a drawn trace: to which calls they belong, and that they open files alone.
use Rattle.std.proofs.Common.{◌≡◌, ◌≤◌, ◌+◌, ◌-◌, ℕ, zero, suc, List, [], ◌∷◌, length, take, refl, ap, sym, ◌∙◌, subst, arith, ◌⊎◌, inl, inr, Bool, true, false, not, ◌&&◌, ◌==◌, cond}
use Rattle.std.specs.Prelude.{Option, Some, None, option_map, slice_get}
use Rattle.std.specs.Option.{option_map_or}
use Rattle.std.specs.List.{position_or_len}
use Rattle.std.specs.FinMap as finite_map
use Rattle.std.specs.Ordering.{nat_cmp}
use Rattle.std.proofs.lemmas.Bool.{cases_lt}
use Rattle.std.proofs.lemmas.List.{length-take, take-take}
use Rattle.std.proofs.lemmas.List.Sums.{prefix_len-le-length}
use Rattle.std.proofs.lemmas.Option.{slice_get-map}
use Rattle.pass_entry.specs.declared.entry.Entry.{Entry}
use Rattle.pass_entry.specs.declared.entry.Act.{Act}
use Rattle.pass_entry.specs.declared.entry.Act.TheVariants as act
use Rattle.pass_entry.specs.declared.entry.Ask.{Ask}
use Rattle.pass_entry.specs.declared.objects.Descriptor.{Descriptor}
use Rattle.pass_entry.specs.declared.objects.Kind.TheVariants as kind
use Rattle.pass_entry.proofs.Places.{slice_get-take, take_one_more}
use Rattle.pass_plain.specs.declared.request.Request.{Request}
use Rattle.pass_plain.specs.Histories.{call_entries, is_fault, is_of_call, bytes_at}
use Rattle.pass_plain.specs.Sessions.{Session}
use Rattle.pass_plain.specs.Registries.{same_kind}
use Rattle.pass_plain.specs.Processes.{Process, Held, new_process, process_act, process_after, changed_at, risen, has_begun, is_file}
use Rattle.pass_plain.specs.Calls.{Step, Made, act_on, call_steps, steps_of, refused_ask, descriptor_at}
use Rattle.pass_plain.specs.Legal.{IsLegal, MayFollow, is_start, before_call, step_of}
use Rattle.pass_plain.specs.Traces.{Line, LineCall, name_of_call, calls_of}
use Rattle.pass_plain.specs.Runs.{IsRun, pnode_of_process, steps_at}
use Rattle.pass_plain.proofs.Lists.{some_is, is_place}
use Rattle.pass_plain.proofs.Beginning.{in_call, start_mints}
use Rattle.pass_plain.proofs.Calling.{acts-cases, legal_take, numbered, row, steps_by}
use Rattle.pass_plain.proofs.Holding.{inserted}
use Rattle.pass_plain.proofs.Playing.{who_begun, zero_not}
use Rattle.pass_plain.proofs.Rows.{Row, Holds}
use Rattle.pass_plain.proofs.TwoPrefixes.{process-append}
use Rattle.pass_plain.proofs.OtherCalls.{goes_some, start_named}
use Rattle.pass_replay.specs.Lines.{AreLinesBehind}
use Rattle.pass_drawn.specs.Runs.{drawn_trace}
use Rattle.pass_drawn.proofs.Acts.{IsTame, steps_tame}
use Rattle.pass_drawn.proofs.Tracing.{call_drawn, ruled}

-- a call's first step is its refusal or its own
pub first_step : (who : ℕ) (p : Process) (made : Made) (r : Request) (s : Step) → slice_get (call_steps who p made r) 0 ≡ Some s
    → ((a : Ask) × (act_on who (act.Deny a) ≡ s)) ⊎ (slice_get (steps_of who p made r) 0 ≡ Some s)
first_step who p made r s at = at_refusal (refused_ask p r) at
  where
    at_refusal : (o : Option Ask) → slice_get (option_map_or (λ a. (who, act.Deny a) ∷ []) o (steps_of who p made r)) 0 ≡ Some s
        → ((a : Ask) × (act_on who (act.Deny a) ≡ s)) ⊎ (slice_get (steps_of who p made r) 0 ≡ Some s)
    at_refusal None at = inr at
    at_refusal (Some a) at = inl (a, some_is (act_on who (act.Deny a)) s at)

-- the descriptors are of files
abbrev AreFiles : Held → Type 0
AreFiles held = (fd : ℕ) (d : Descriptor) → finite_map.get held fd ≡ Some d → d.kind ≡ kind.File

files_inserted : (held : Held) (fd : ℕ) (v : Descriptor) → v.kind ≡ kind.File → AreFiles held → AreFiles (finite_map.insert held fd v)
files_inserted held fd v file all q d at = elim (inserted held fd q v d at) [
  | inl here ↦ ap (λ (d : Descriptor). d.kind) (sym here.1) ∙ file
  | inr old ↦ all q d old
]

files_changed : (held : Held) (fd : ℕ) (change : Descriptor → Descriptor) → ((d : Descriptor) → (change d).kind ≡ d.kind) → AreFiles held → AreFiles (changed_at held fd change)
files_changed held fd change keeps all = at_held (finite_map.get held fd) refl
  where
    at_held : (o : Option Descriptor) → finite_map.get held fd ≡ o → AreFiles (option_map_or (λ d. finite_map.insert held fd (change d)) o held)
    at_held None t = all
    at_held (Some d) t = files_inserted held fd (change d) (keeps d ∙ all fd d t) all

none_held : (fd : ℕ) (d : Descriptor) → finite_map.get new_process.descriptors fd ≡ Some d → ⊥
none_held fd d held = let z : None ≡ Some d = sym (finite_map.get-empty nat_cmp fd) ∙ held in cc

-- an act of the trace leaves them so, where a birth gives such ones
files_kept : (past : List Entry) (p : Process) (a : Act) → IsTame a → AreFiles p.descriptors → ((out : ℕ) (descriptors : Held) → a ≡ act.Born out descriptors → AreFiles descriptors)
    → AreFiles (process_act past p a).descriptors
files_kept past p (act.Attach fd d) tame all born = files_inserted p.descriptors fd d tame.1.0 all
files_kept past p (act.AttachPipe reader writer pnode) tame all born = absurd tame
files_kept past p (act.Detach fd) tame all born = absurd tame
files_kept past p (act.Seek fd at) tame all born = files_changed p.descriptors fd (λ d. record d { offset = at }) (λ d. refl) all
files_kept past p (act.Show fd len) tame all born = files_changed p.descriptors fd (risen len) (λ d. refl) all
files_kept past p (act.Born out descriptors) tame all born = born out descriptors refl
files_kept past p (act.Gain out fd) tame all born = files_changed p.descriptors fd (risen (length (bytes_at past out))) (λ d. refl) all
files_kept past p act.Finish tame all born = λ fd d held. absurd (none_held fd d held)
files_kept past p _ tame all born = all

either_state : (b : Bool) (p q : Process) → AreFiles p.descriptors → AreFiles q.descriptors → AreFiles (cond b q p).descriptors
either_state true p q at_p at_q = at_q
either_state false p q at_p at_q = at_p

module _ (session : Session) (number lines : ℕ) (history : List Entry) (run : IsRun session (drawn_trace number lines) history) where
  abbrev pub trace : List Line
  trace = drawn_trace number lines

  abbrev pub pnode : ℕ → Option ℕ
  pnode process = pnode_of_process session trace history process

  pub behind : AreLinesBehind [] trace
  behind = ruled number lines

  -- an entry belongs to a call of a process of the trace
  pub record IsCalled (e : Entry) : Type 0 where
    pub process : ℕ
    pub done : ℕ
    pub call : LineCall
    pub begun : pnode process ≡ Some e.who
    pub stands : slice_get (calls_of trace process) done ≡ Some call
    pub counted : e.number ≡ done + 1

  -- so does each but the one that starts the session
  pub called : (i : ℕ) (e : Entry) → slice_get history i ≡ Some e → is_start e.call ≡ false → IsCalled e
  called i e at ordinary = elim (acts-cases (take i history) e (run.legal i e at).acts) [
    | inl start ↦ absurd (let z : true ≡ false = sym start.0 ∙ ordinary in cc)
    | inr acts ↦
        let has : has_begun history e.who ≡ true = elim (who_begun session history i e run.legal at) [
          | inl none ↦ absurd (zero_not session (take i history) (legal_take session history i run.legal) (ap (λ w. has_begun (take i history) w) (sym none) ∙ acts.1))
          | inr begun ↦ begun
        ] in
        let (p, begun) = run.traced e.who has in
        let some = goes_some e.number _ _ _ acts.3 in
        let below = (numbered session history run.legal).below i e at in
        let last = run.last p e.who begun in
        let (call, stands) = is_place (calls_of trace p) (e.number - 1) (omega (arith, some, below, last)) in
        record { process = p; done = e.number - 1; call = call; begun = begun; stands = stands; counted = omega (arith, some) }
  ]

  pub call_named : (i : ℕ) (e : Entry) → slice_get history i ≡ Some e → (c : IsCalled e) → e.call ≡ name_of_call c.call
  call_named i e at c =
      let (j, there) = in_call history i e e.who (c.done + 1) at refl c.counted in
      run.named c.process e.who c.done c.call c.begun c.stands j (i, e) there

  -- the step of each entry of a call
  pub call_step : (process who k : ℕ) (call : LineCall) → pnode process ≡ Some who → slice_get (calls_of trace process) k ≡ Some call → (j : ℕ) (m : ℕ × Entry)
      → slice_get (call_entries history who (k + 1)) j ≡ Some m → slice_get (steps_at session trace history who (k + 1) call) j ≡ Some (step_of m)
  call_step process who k call begun stands j m at =
      let made = call_entries history who (k + 1) in
      slice_get-take (length made) j (steps_at session trace history who (k + 1) call) (step_of m)
      (ap (λ (xs : List Step). slice_get xs j) (sym (run.lines process who k call begun stands)) ∙ slice_get-map step_of made j ∙ ap (λ o. option_map step_of o) at)

  -- the entry that starts the session makes a process
  pub start_acts : (i : ℕ) (e : Entry) → slice_get history i ≡ Some e → is_start e.call ≡ true → e.act ≡ act.Mint kind.Process
  start_acts i e at start = start_mints session (take i history) e (run.legal i e at) (start_named e.call start)

  -- each act is one of a drawn trace
  pub tame : (i : ℕ) (e : Entry) → slice_get history i ≡ Some e → IsTame e.act
  tame i e at = at_test (is_start e.call) refl
    where
      at_test : (b : Bool) → is_start e.call ≡ b → IsTame e.act
      at_test true t = subst IsTame (sym (start_acts i e at t)) tt
      at_test false t =
          let c = called i e at t in
          let (j, there) = in_call history i e e.who (c.done + 1) at refl c.counted in
          let step = call_step c.process e.who c.done c.call c.begun c.stands j (i, e) there in
          steps_tame e.who (before_call history e.who (c.done + 1)) (call_entries history e.who (c.done + 1)) _ (before_call history e.who (c.done + 1)).last_read c.process c.call
          (call_drawn number lines c.process c.done c.call c.stands) j (e.what, e.act) step

  -- after each beginning of the history each process holds descriptors of files alone
  abbrev AreFilesUpTo : ℕ → Type 0
  AreFilesUpTo n = (m who : ℕ) → m ≤ n → AreFiles (process_after (take m history) who).descriptors

  one_more : (n : ℕ) (e : Entry) → slice_get history n ≡ Some e → AreFilesUpTo n → (who : ℕ) → AreFiles (process_after (take (suc n) history) who).descriptors
  one_more n e at all who =
      subst (λ (p : Process). AreFiles p.descriptors) (sym (ap (λ h. process_after h who) (take_one_more history n e at) ∙ process-append past e who))
      (either_state (e.what == who && not (is_fault e.reply)) p (process_act past p e.act) own (files_kept past p e.act (tame n e at) own (λ out descriptors born.
      let r = subst (λ a. Row e.who (before_call past e.who e.number) (call_entries past e.who e.number) (steps_by session past e legal follows) (length (call_entries past e.who e.number)) e.what a) born
      (row session past e legal follows) in
      subst AreFiles (sym r.4) (before e.who e.number))))
    where
      past : List Entry
      past = take n history

      p : Process
      p = process_after past who

      own : AreFiles p.descriptors
      own = all n who (omega arith)

      legal : IsLegal session past
      legal = legal_take session history n run.legal

      follows : MayFollow session past e
      follows = run.legal n e at

      before : (w k : ℕ) → AreFiles (before_call past w k).descriptors
      before w k =
          let place = position_or_len (is_of_call w k) past in
          let within = prefix_len-le-length (λ e. not (is_of_call w k e)) past in
          let size = length-take n history in
          subst (λ h. AreFiles (process_after h w).descriptors) (sym (take-take place n history (omega (arith, within, size)))) (all place w (omega (arith, within, size)))

  files_up_to : (n : ℕ) → n ≤ length history → AreFilesUpTo n
  files_up_to zero short m who le = subst (λ m. AreFiles (process_after (take m history) who).descriptors) (let z : 0 ≡ m = omega (arith, le) in z) (λ fd d held. absurd (none_held fd d held))
  files_up_to (suc n) short m who le = elim (cases_lt m (suc n)) [
    | inl less ↦ files_up_to n (omega (arith, short)) m who (omega (arith, less))
    | inr most ↦
        let (e, at) = is_place history n (omega (arith, short)) in
        subst (λ m. AreFiles (process_after (take m history) who).descriptors) (let z : suc n ≡ m = omega (arith, le, most) in z) (one_more n e at (files_up_to n (omega (arith, short))) who)
  ]

  -- so a process holds no descriptor of a pipe
  pub holds_none : (who n fd : ℕ) → Holds (before_call history who n) fd → is_file (descriptor_at (before_call history who n) fd) ≡ false → ⊥
  holds_none who n fd held no_file =
      let place = position_or_len (is_of_call who n) history in
      let within = prefix_len-le-length (λ e. not (is_of_call who n e)) history in
      let file = files_up_to place within place who (omega arith) fd (descriptor_at (before_call history who n) fd) held in
      let z : true ≡ false = ap (λ k. same_kind k kind.File) (sym file) ∙ no_file in cc
