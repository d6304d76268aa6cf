-- What is kept of the states of objects after one more entry.
use Rattle.std.proofs.Common.{◌≡◌, ◌≢◌, ℕ, List, [], ◌∷◌, ◌++◌, length, refl, ap, sym, ◌∙◌, subst, arith, Bool, true, false, cond, not, ◌&&◌, ◌||◌, ◌==◌, length-append}
use Rattle.std.proofs.Common.{inl, inr, Vec, Global}
use Rattle.std.specs.Prelude.{Option, Some, None, IfSome, if◌then◌else◌, Result, Ok, Err, IfOk, IsTrue, ◌↔◌}
use Rattle.std.specs.declared.alloc.AllocError.{AllocError}
use Rattle.std.specs.Option.{MatchOption}
use Rattle.std.specs.Ordering.{nat_cmp}
use Rattle.std.specs.BTreeMap.{get}
use Rattle.pass_entry.specs.declared.entry.Entry.{Entry}
use Rattle.pass_entry.specs.declared.entry.Act.{Act}
use Rattle.pass_entry.specs.declared.entry.Act.TheVariants as act
use Rattle.pass_entry.specs.declared.entry.CallName.TheVariants as call
use Rattle.pass_entry.specs.declared.entry.Reply.{Reply}
use Rattle.pass_entry.specs.declared.entry.Reply.TheVariants as answer
use Rattle.pass_plain.specs.Histories.{is_own, is_fault, own_step, is_made, pnode_of}
use Rattle.pass_plain.specs.Sessions.{Session, opening_bytes}
use Rattle.pass_plain.specs.Recording.{bytes_after}
use Rattle.pass_plain.specs.Pipes.{Pipe, pipe_act, pipe_after, new_pipe}
use Rattle.pass_plain.specs.Processes.{Process, Held, changes_process, process_act, process_after, begins, has_begun}
use Rattle.pass_plain.specs.Replies.{reply_to}
use Rattle.pass_plain.specs.Registries.{registry_act}
use Rattle.pass_plain.specs.Legal.{CallerAllows, is_start, last_number}
use Rattle.pass_plain.specs.States.{registry_of, noted, Call, IsBlank, IsLawful}
use Rattle.pass_reference.specs.States.{pipe_step, call_of, IsRegistry, IsPipe, IsCaller}
use Rattle.pass_reference.specs.Cache.{IsCached, ChangesAt, is_pipe_change, other_process, IsCachedFile, IsCachedPipe, IsCachedCaller}
use Rattle.pass_plain.specs.declared.start.Start.{Start}
use Rattle.pass_plain.specs.declared.registry.RegistryState.{RegistryState}
use Rattle.pass_reference.specs.declared.pipe.PipeState.{PipeState}
use Rattle.pass_reference.specs.declared.callers.Caller.{Caller}
use Rattle.pass_reference.specs.declared.cache.Cached.{Cached}
use Rattle.pass_plain.proofs.Lists.{same_numbers, same_itself, some_is, different}
use Rattle.pass_plain.proofs.Replays.{state_after-append, own_step-other}
use Rattle.pass_plain.proofs.Calling.{last_number-append}
use Rattle.pass_plain.proofs.Beginning.{begins-cases}
use Rattle.pass_plain.proofs.Appends.{legal-last}
use Rattle.pass_plain.proofs.LastCalls.{begun_next}
use Rattle.pass_plain.proofs.TwoPrefixes.{process-append}
use Rattle.pass_plain.proofs.KeptFiles.{Leaves, other_leaves}
use Rattle.pass_reference.proofs.States.{registry_next, caller_next}

pub changes_then : {X : Type 0} (object : ℕ) (a b c : Cached X) → ChangesAt object a b → ChangesAt object b c → ChangesAt object a c
changes_then object a b c first second = record {
  others = λ q apart. second.others q apart ∙ first.others q apart;
  whole = λ w. first.whole (second.whole w);
}

module _ {X : Type 0} (began began' : ℕ → Type 0) (is is' : ℕ → X → Type 0) where
  carried_at : (w v : Bool) (q : ℕ) → (w ≡ true → v ≡ true) → (began q → began' q) → ((x : X) → is q x → is' q x)
      → (o : Option X) → MatchOption o (v ≡ true → began q) (is q) → MatchOption o (w ≡ true → began' q) (is' q)
  carried_at w v q whole none some None kept = λ t. none (kept (whole t))
  carried_at w v q whole none some (Some x) kept = some x kept

  -- an object at which the table has not changed
  pub carried : (old new : Cached X) (q : ℕ) → get nat_cmp new.states q ≡ get nat_cmp old.states q → (new.whole ≡ true → old.whole ≡ true)
      → (began q → began' q) → ((x : X) → is q x → is' q x) → IsCached began is old q → IsCached began' is' new q
  carried old new q same whole none some kept =
      subst (λ (o : Option X). MatchOption o (new.whole ≡ true → began' q) (is' q)) (sym same) (carried_at new.whole old.whole q whole none some (get nat_cmp old.states q) kept)

  -- a table that has changed at one object
  pub carried_but : (old new : Cached X) (object : ℕ) → ChangesAt object old new → ((q : ℕ) → IsCached began is old q)
      → ((q : ℕ) → object ≢ q → began q → began' q) → ((q : ℕ) → object ≢ q → (x : X) → is q x → is' q x)
      → IsCached began' is' new object → (q : ℕ) → IsCached began' is' new q
  carried_but old new object changes all none some here q = at (object == q) refl
    where
      apart : (object == q) ≡ false → object ≢ q
      apart t same = let z : true ≡ false = sym (same_itself object) ∙ ap (λ k. object == k) same ∙ t in cc

      at : (b : Bool) → (object == q) ≡ b → IsCached began' is' new q
      at true t = subst (λ k. IsCached began' is' new k) (same_numbers object q t) here
      at false t = carried old new q (changes.others q (apart t)) changes.whole (none q (apart t)) (some q (apart t)) (all q)

  -- a table that has changed at one object and then at another
  pub carried_twice : (old mid new : Cached X) (a b : ℕ) → ChangesAt a old mid → ChangesAt b mid new → b ≢ a → ((q : ℕ) → IsCached began is old q)
      → ((q : ℕ) → a ≢ q → b ≢ q → began q → began' q) → ((q : ℕ) → a ≢ q → b ≢ q → (x : X) → is q x → is' q x)
      → IsCached began' is' mid a → IsCached began' is' new b → (q : ℕ) → IsCached began' is' new q
  carried_twice old mid new a b first second two all none some one other q = at (b == q) refl (a == q) refl
    where
      apart : (k : ℕ) → (k == q) ≡ false → k ≢ q
      apart k t same = let z : true ≡ false = sym (same_itself k) ∙ ap (λ m. k == m) same ∙ t in cc

      at : (c : Bool) → (b == q) ≡ c → (d : Bool) → (a == q) ≡ d → IsCached began' is' new q
      at true t d u = subst (λ k. IsCached began' is' new k) (same_numbers b q t) other
      at false t true u =
          subst (λ k. IsCached began' is' new k) (same_numbers a q u)
          (subst (λ (o : Option X). MatchOption o (new.whole ≡ true → began' a) (is' a)) (sym (second.others a two)) (kept_on (get nat_cmp mid.states a) one))
        where
          kept_on : (o : Option X) → MatchOption o (mid.whole ≡ true → began' a) (is' a) → MatchOption o (new.whole ≡ true → began' a) (is' a)
          kept_on None kept = λ w. kept (second.whole w)
          kept_on (Some x) kept = kept
      at false t false u =
          carried old new q (second.others q (apart b t) ∙ first.others q (apart a u)) (λ w. first.whole (second.whole w))
          (none q (apart a u) (apart b t)) (some q (apart a u) (apart b t)) (all q)

module _ {X : Type 0} (began : ℕ → Type 0) (is : ℕ → X → Type 0) (new : Cached X) (object : ℕ) where
  lost_at : (w : Bool) → w ≡ false → w ≡ true → began object
  lost_at w f t = absurd (let z : true ≡ false = sym t ∙ f in cc)

  kept_at : (state : X) → is object state → (o : Option X) → MatchOption o (new.whole ≡ false) (λ x. x ≡ state) → MatchOption o (new.whole ≡ true → began object) (is object)
  kept_at state holds None lost = lost_at new.whole lost
  kept_at state holds (Some x) same = subst (λ x. is object x) (sym same) holds

  -- what was kept, or lost
  pub cached_kept : (state : X) → is object state → MatchOption (get nat_cmp new.states object) (new.whole ≡ false) (λ x. x ≡ state) → IsCached began is new object
  cached_kept state holds kept = kept_at state holds (get nat_cmp new.states object) kept

  pub cached_lost : get nat_cmp new.states object ≡ None → new.whole ≡ false → IsCached began is new object
  cached_lost none lost = subst (λ (o : Option X). MatchOption o (new.whole ≡ true → began object) (is object)) (sym none) (lost_at new.whole lost)

-- the registry after an entry on another object
pub registry_other : (start : Start) (history : List Entry) (e : Entry) (o : Option RegistryState) → is_own 0 e ≡ false → IfSome o (IsRegistry start history) → IfSome o (IsRegistry start (history ++ e ∷ []))
registry_other start history e None other is = tt
registry_other start history e (Some r) other is =
    registry_next start history e r r is (sym (ap (λ b. cond b (registry_act (registry_of r) e.act e.reply) (registry_of r)) other)) (omega arith)

-- pipes
module _ (history : List Entry) (e : Entry) (object : ℕ) where
  stays_if : (b : Bool) (p : Pipe) → pipe_act p e.act ≡ p → cond b (pipe_act p e.act) p ≡ p
  stays_if true p same = same
  stays_if false p same = refl

  pipe_stays : ((p : Pipe) → pipe_step object p e ≡ p) → pipe_after (history ++ e ∷ []) object ≡ pipe_after history object
  pipe_stays same = state_after-append (λ past pipe e. pipe_act pipe e.act) object new_pipe history e ∙ same (pipe_after history object)

  step_other : object ≢ e.what → (p : Pipe) → pipe_step object p e ≡ p
  step_other apart p = ap (λ b. cond (b && not (is_fault e.reply)) (pipe_act p e.act) p) (different e.what object (λ same. apart (sym same)))

  quiet_pipe : (a : Act) (p : Pipe) → is_pipe_change a ≡ false → pipe_act p a ≡ p
  quiet_pipe (act.Take len) p quiet = absurd (cc)
  quiet_pipe (act.Push out bytes) p quiet = absurd (cc)
  quiet_pipe (act.Join end) p quiet = absurd (cc)
  quiet_pipe (act.Leave end) p quiet = absurd (cc)
  quiet_pipe _ p quiet = refl

  step_quiet : is_pipe_change e.act ≡ false → (p : Pipe) → pipe_step object p e ≡ p
  step_quiet quiet p = stays_if (is_own object e) p (quiet_pipe e.act p quiet)

  longer_pipe : ((p : Pipe) → pipe_step object p e ≡ p) → (p : PipeState) → IsPipe history object p → IsPipe (history ++ e ∷ []) object p
  longer_pipe same p is = record {
    after = is.after ∙ sym (pipe_stays same);
    readers = omega (arith, is.readers, length-append history (e ∷ []));
    writers = omega (arith, is.writers, length-append history (e ∷ []));
  }

  pub pipe_other : e.what ≢ object → (p : PipeState) → IsPipe history object p → IsPipe (history ++ e ∷ []) object p
  pipe_other apart = longer_pipe (step_other (λ same. apart (sym same)))

  pub pipe_quiet : is_pipe_change e.act ≡ false → (p : PipeState) → IsPipe history object p → IsPipe (history ++ e ∷ []) object p
  pipe_quiet quiet = longer_pipe (step_quiet quiet)

  pub new_pipe_other : e.what ≢ object → pipe_after history object ≡ new_pipe → pipe_after (history ++ e ∷ []) object ≡ new_pipe
  new_pipe_other apart new = pipe_stays (step_other (λ same. apart (sym same))) ∙ new

  pub new_pipe_quiet : is_pipe_change e.act ≡ false → pipe_after history object ≡ new_pipe → pipe_after (history ++ e ∷ []) object ≡ new_pipe
  new_pipe_quiet quiet new = pipe_stays (step_quiet quiet) ∙ new

-- processes
quiet_process : (past : List Entry) (p : Process) (a : Act) → changes_process a ≡ false → process_act past p a ≡ p
quiet_process past p (act.Attach fd d) quiet = absurd (cc)
quiet_process past p (act.AttachPipe reader writer pnode) quiet = absurd (cc)
quiet_process past p (act.Detach fd) quiet = absurd (cc)
quiet_process past p (act.Seek fd at) quiet = absurd (cc)
quiet_process past p (act.Show fd len) quiet = absurd (cc)
quiet_process past p (act.Spawn child) quiet = absurd (cc)
quiet_process past p (act.Born out descriptors) quiet = absurd (cc)
quiet_process past p (act.Gain out fd) quiet = absurd (cc)
quiet_process past p (act.Exec out name args) quiet = absurd (cc)
quiet_process past p (act.Gather out child) quiet = absurd (cc)
quiet_process past p (act.Release child) quiet = absurd (cc)
quiet_process past p act.Finish quiet = absurd (cc)
quiet_process past p _ quiet = refl

-- what changes a process makes no object
makes_nothing : (session : Session) (history : List Entry) (what k : ℕ) (a : Act) (y : Reply) → changes_process a ≡ true → reply_to session history what a ≡ Some y → is_made k y ≡ false
makes_nothing session history what k (act.Attach fd d) y change e = ap (is_made k) (sym (some_is _ _ e))
makes_nothing session history what k (act.AttachPipe reader writer pnode) y change e = ap (is_made k) (sym (some_is _ _ e))
makes_nothing session history what k (act.Detach fd) y change e = ap (is_made k) (sym (some_is _ _ e))
makes_nothing session history what k (act.Seek fd at) y change e = ap (is_made k) (sym (some_is _ _ e))
makes_nothing session history what k (act.Show fd len) y change e = ap (is_made k) (sym (some_is _ _ e))
makes_nothing session history what k (act.Spawn child) y change e = ap (is_made k) (sym (some_is _ _ e))
makes_nothing session history what k (act.Born out descriptors) y change e = ap (is_made k) (sym (some_is _ _ e))
makes_nothing session history what k (act.Gain out fd) y change e = ap (is_made k) (sym (some_is _ _ e))
makes_nothing session history what k (act.Exec out name args) y change e = ap (is_made k) (sym (some_is _ _ e))
makes_nothing session history what k (act.Gather out child) y change e = ap (is_made k) (sym (some_is _ _ e))
makes_nothing session history what k (act.Release child) y change e = ap (is_made k) (sym (some_is _ _ e))
makes_nothing session history what k act.Finish y change e = ap (is_made k) (sym (some_is _ _ e))
makes_nothing session history what k _ y change e = absurd (cc)

-- another process than the caller and the one that an entry may change besides
module _ (session : Session) (history : List Entry) (e : Entry) (k : ℕ) (replied : reply_to session history e.what e.act ≡ Some e.reply)
    (not_caller : e.who ≢ k) (not_other : other_process e ≢ k) where
  started : (b : Bool) → changes_process e.act ≡ b → e.call ≡ call.Start → e.reply ≡ answer.Made k → ⊥
  started true t start made =
      let z : true ≡ false = sym (same_itself k) ∙ ap (is_made k) (sym made) ∙ makes_nothing session history e.what k e.act e.reply t replied in cc
  started false t start made =
      not_other (ap (λ b. if b then e.what else if is_start e.call then pnode_of e.reply else e.who) t
      ∙ ap (λ c. if is_start c then pnode_of e.reply else e.who) start ∙ ap pnode_of made)

  born : (out : ℕ) (descriptors : Held) → e.act ≡ act.Born out descriptors → e.what ≡ k → ⊥
  born out descriptors is here =
      not_other (ap (λ a. if changes_process a then e.what else if is_start e.call then pnode_of e.reply else e.who) is ∙ here)

  never : begins k e.call e.act e.what e.reply ≡ true → ⊥
  never t = elim (begins-cases k e.call e.act e.what e.reply t) [
    | inl s ↦ started (changes_process e.act) refl s.0 s.1
    | inr b ↦ born b.0 b.1 b.2 b.3
  ]

  begins_not : begins k e.call e.act e.what e.reply ≡ false
  begins_not = at (begins k e.call e.act e.what e.reply) refl
    where
      at : (b : Bool) → begins k e.call e.act e.what e.reply ≡ b → begins k e.call e.act e.what e.reply ≡ false
      at true t = absurd (never t)
      at false t = t

  state_left : (p : Process) → own_step (λ past p e. process_act past p e.act) k history p e ≡ p
  state_left p = at (changes_process e.act) refl
    where
      same_if : (b : Bool) → process_act history p e.act ≡ p → cond b (process_act history p e.act) p ≡ p
      same_if true same = same
      same_if false same = refl

      at : (b : Bool) → changes_process e.act ≡ b → own_step (λ past p e. process_act past p e.act) k history p e ≡ p
      at true t =
          own_step-other (λ past p e. process_act past p e.act) k history p e
          (different e.what k (λ same. not_other (ap (λ b. if b then e.what else if is_start e.call then pnode_of e.reply else e.who) t ∙ same)))
      at false t = same_if (is_own k e) (quiet_process history p e.act t)

  call_left : (call : Call) (p : Process) (n : ℕ) → noted call p n k e ≡ call
  call_left call p n = ap (λ b. cond b (cond (e.number == call.number) (record call { made = call.made ++ (n, e) ∷ [] }) (record { number = e.number; before = p; made = (n, e) ∷ [] })) call) (different e.who k not_caller)

  or_same : (b : Bool) → (b || begins k e.call e.act e.what e.reply) ≡ b
  or_same true = refl
  or_same false = begins_not

  pub caller_left : IsLawful (history ++ e ∷ []) → (c : Caller) → IsCaller history k c → IsCaller (history ++ e ∷ []) k c
  caller_left lawful c is = caller_next history e k lawful c c is (sym (or_same c.begun)) (sym (state_left c.state)) (sym (call_left (call_of c.call) c.state (length history)))

  pub blank_left : IsBlank history k → IsBlank (history ++ e ∷ []) k
  blank_left is = record {
    begun = begun_next history e k ∙ or_same (has_begun history k) ∙ is.begun;
    state = process-append history e k ∙ state_left (process_after history k) ∙ is.state;
    number = last_number-append history e k ∙ ap (λ b. cond b e.number (last_number history k)) (different e.who k not_caller) ∙ is.number;
  }

-- files
abbrev File : Type 0
File = Vec ℕ Global

module _ (start : Start) (history : List Entry) (e : Entry) where
  file_began : List Entry → ℕ → Type 0
  file_began h object = bytes_after start h object ≡ opening_bytes start object

  file_is : List Entry → ℕ → File → Type 0
  file_is h object content = content.items ≡ bytes_after start h object

  -- an entry that leaves all files
  pub files_left : (kept : Cached File) → ((object : ℕ) → Leaves start history e object) → ((object : ℕ) → IsCachedFile start history kept object)
      → (object : ℕ) → IsCachedFile start (history ++ e ∷ []) kept object
  unfolding file_began file_is
  files_left kept leaves all = λ object.
      carried (file_began history) (file_began (history ++ e ∷ [])) (file_is history) (file_is (history ++ e ∷ [])) kept kept object refl (λ w. w)
      (λ none. (leaves object).bytes ∙ none) (λ content is. is ∙ sym (leaves object).bytes) (all object)

  -- an entry that changes its own file
  pub files_changed : (old new : Cached File) → ChangesAt e.what old new → ((object : ℕ) → IsCachedFile start history old object)
      → IsCachedFile start (history ++ e ∷ []) new e.what → (object : ℕ) → IsCachedFile start (history ++ e ∷ []) new object
  unfolding file_began file_is
  files_changed old new changes all here =
      let leaves : (object : ℕ) → e.what ≢ object → Leaves start history e object = λ object apart. other_leaves start history e object (different e.what object apart) in
      carried_but (file_began history) (file_began (history ++ e ∷ [])) (file_is history) (file_is (history ++ e ∷ [])) old new e.what changes all
      (λ object apart none. (leaves object apart).bytes ∙ none) (λ object apart content is. is ∙ sym (leaves object apart).bytes) here

  pub file_kept : (new : Cached File) (content : File) → content.items ≡ bytes_after start (history ++ e ∷ []) e.what
      → MatchOption (get nat_cmp new.states e.what) (new.whole ≡ false) (λ x. x ≡ content) → IsCachedFile start (history ++ e ∷ []) new e.what
  unfolding file_began file_is
  file_kept new content is kept = cached_kept (file_began (history ++ e ∷ [])) (file_is (history ++ e ∷ [])) new e.what content is kept

  pub file_lost : (new : Cached File) → get nat_cmp new.states e.what ≡ None → new.whole ≡ false → IsCachedFile start (history ++ e ∷ []) new e.what
  unfolding file_began file_is
  file_lost new none lost = cached_lost (file_began (history ++ e ∷ [])) (file_is (history ++ e ∷ [])) new e.what none lost

-- pipes of a table
module _ (history : List Entry) (e : Entry) where
  pipe_began : List Entry → ℕ → Type 0
  pipe_began h object = pipe_after h object ≡ new_pipe

  pub pipes_left : (kept : Cached PipeState) → is_pipe_change e.act ≡ false → ((object : ℕ) → IsCachedPipe history kept object)
      → (object : ℕ) → IsCachedPipe (history ++ e ∷ []) kept object
  unfolding pipe_began
  pipes_left kept quiet all = λ object.
      carried (pipe_began history) (pipe_began (history ++ e ∷ [])) (IsPipe history) (IsPipe (history ++ e ∷ [])) kept kept object refl (λ w. w)
      (new_pipe_quiet history e object quiet) (pipe_quiet history e object quiet) (all object)

  pub pipes_changed : (old new : Cached PipeState) → ChangesAt e.what old new → ((object : ℕ) → IsCachedPipe history old object)
      → IsCachedPipe (history ++ e ∷ []) new e.what → (object : ℕ) → IsCachedPipe (history ++ e ∷ []) new object
  unfolding pipe_began
  pipes_changed old new changes all here =
      carried_but (pipe_began history) (pipe_began (history ++ e ∷ [])) (IsPipe history) (IsPipe (history ++ e ∷ [])) old new e.what changes all
      (λ object apart. new_pipe_other history e object apart) (λ object apart. pipe_other history e object apart) here

  pub pipe_kept : (new : Cached PipeState) (p : PipeState) → IsPipe (history ++ e ∷ []) e.what p
      → MatchOption (get nat_cmp new.states e.what) (new.whole ≡ false) (λ x. x ≡ p) → IsCachedPipe (history ++ e ∷ []) new e.what
  unfolding pipe_began
  pipe_kept new p is kept = cached_kept (pipe_began (history ++ e ∷ [])) (IsPipe (history ++ e ∷ [])) new e.what p is kept

  pub pipe_lost : (new : Cached PipeState) → get nat_cmp new.states e.what ≡ None → new.whole ≡ false → IsCachedPipe (history ++ e ∷ []) new e.what
  unfolding pipe_began
  pipe_lost new none lost = cached_lost (pipe_began (history ++ e ∷ [])) (IsPipe (history ++ e ∷ [])) new e.what none lost

-- processes of a table, in a lawful history with one more entry
module _ (history : List Entry) (e : Entry) (lawful : IsLawful (history ++ e ∷ [])) where
  replied : reply_to lawful.0 history e.what e.act ≡ Some e.reply
  replied = (legal-last lawful.0 history e lawful.2).replied

  -- the caller and the other process are noted
  pub callers_noted : (old mid new : Cached Caller) → ChangesAt e.who old mid → ChangesAt (other_process e) mid new → other_process e ≢ e.who
      → ((who : ℕ) → IsCachedCaller history old who) → IsCachedCaller (history ++ e ∷ []) mid e.who → IsCachedCaller (history ++ e ∷ []) new (other_process e)
      → (who : ℕ) → IsCachedCaller (history ++ e ∷ []) new who
  callers_noted old mid new first second two all one other =
      carried_twice (IsBlank history) (IsBlank (history ++ e ∷ [])) (IsCaller history) (IsCaller (history ++ e ∷ [])) old mid new e.who (other_process e) first second two all
      (λ who apart aside. blank_left lawful.0 history e who replied apart aside) (λ who apart aside. caller_left lawful.0 history e who replied apart aside lawful) one other

  -- the caller is the only process that the entry may change
  pub caller_noted : (old new : Cached Caller) → ChangesAt e.who old new → other_process e ≡ e.who → ((who : ℕ) → IsCachedCaller history old who)
      → IsCachedCaller (history ++ e ∷ []) new e.who → (who : ℕ) → IsCachedCaller (history ++ e ∷ []) new who
  caller_noted old new changes one all here =
      carried_but (IsBlank history) (IsBlank (history ++ e ∷ [])) (IsCaller history) (IsCaller (history ++ e ∷ [])) old new e.who changes all
      (λ who apart. blank_left lawful.0 history e who replied apart (λ same. apart (sym one ∙ same)))
      (λ who apart. caller_left lawful.0 history e who replied apart (λ same. apart (sym one ∙ same)) lawful) here

-- a process of which a state is kept
pub caller_at : (history : List Entry) (kept : Cached Caller) (who : ℕ) (c : Caller) → IsCachedCaller history kept who → Some c ≡ get nat_cmp kept.states who → IsCaller history who c
caller_at history kept who c is at =
    let some : MatchOption (Some c) (kept.whole ≡ true → IsBlank history who) (IsCaller history who) =
    subst (λ (o : Option Caller). MatchOption o (kept.whole ≡ true → IsBlank history who) (IsCaller history who)) (sym at) is in some

pub allowed_if : (history : List Entry) (e : Entry) (c : Caller) (r : Result Bool AllocError) → IsLawful history → IsCaller history e.who c
    → IfOk r (λ b. (history : List Entry) → IsLawful history → IsCaller history e.who c → IsTrue b ↔ CallerAllows history e) → IfOk r (λ b. IsTrue b ↔ CallerAllows history e)
allowed_if history e c (Ok b) lawful is allows = allows history lawful is
allowed_if history e c (Err f) lawful is allows = tt
