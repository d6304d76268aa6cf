-- The first two steps of a fork.
use Rattle.std.proofs.Common.{◌≡◌, ℕ, ◌+◌, ◌-◌, ◌≤◌, ◌^◌, List, [], ◌∷◌, length, refl, ap, sym, ◌∙◌, subst, arith, Bool, true, false, ◌||◌}
use Rattle.std.specs.Prelude.{Some, None, slice_get, if◌then◌else◌}
use Rattle.std.specs.FinSet as finite_set
use Rattle.pass_entry.specs.declared.entry.Act.TheVariants as act
use Rattle.pass_entry.specs.declared.entry.CallFault.{CallFault}
use Rattle.pass_entry.specs.declared.entry.CallName.TheVariants as calls
use Rattle.pass_entry.specs.declared.entry.Entry.{Entry}
use Rattle.pass_entry.specs.declared.entry.Reply.{Reply}
use Rattle.pass_entry.specs.declared.entry.Reply.TheVariants as answer
use Rattle.pass_entry.specs.declared.objects.Kind.TheVariants as kind
use Rattle.pass_plain.specs.declared.request.Request.{Request}
use Rattle.pass_plain.specs.declared.request.Request.TheVariants as requests
use Rattle.pass_plain.specs.Calls.{Made, pipe_descriptors, refused_ask}
use Rattle.pass_plain.specs.Histories.{is_fault}
use Rattle.pass_plain.specs.Places.{kept_by}
use Rattle.pass_plain.specs.Processes.{Process, process_after}
use Rattle.pass_plain.specs.Sessions.{Session}
use Rattle.pass_plain.specs.Versions.{nodes_of}
use Rattle.pass_hold.specs.Callers.{CallerState}
use Rattle.pass_hold.specs.Callings.{IsEntered, IsGoing, IsIdle, HasGone}
use Rattle.pass_hold.specs.Entering.{MayEnter}
use Rattle.pass_hold.proofs.Callings.{begins_call, more, call_made, idle_again}
use Rattle.pass_proc.specs.Acts.{own_entry}
use Rattle.pass_proc.specs.CallEnds.{HasReplied}
use Rattle.pass_proc.specs.Procs.{IsCallerOf}
use Rattle.pass_proc.specs.Views.{ProcessView}
use Rattle.pass_registry.specs.Desks.{on_registry}
use Rattle.pass_answer.proofs.ObjectSteps.{place_is}
use Rattle.pass_answer.proofs.Steps.{not_asked, next_may, gone_by, gone_own}
use Rattle.pass_lives.specs.Forks.{ForkingView, IsForking}

-- a process that has reserved memory and seen to its places is the same
pub begins : {session : Session} {p : ProcessView} {n : ℕ} {c : CallerState} → IsCallerOf session p n c → (q : ProcessView) → q ≡ record p { lineage = q.lineage; spare = q.spare; room = q.room } → (d : CallerState) → d ≡ c
    → IsCallerOf session q n d
begins {session} {p} {n} {c} is q reserved d same =
    subst (λ (x : CallerState). IsCallerOf session q n x) (sym same)
    (subst (λ (v : ProcessView). IsCallerOf session v n c) (sym reserved) (record { of_who = is.of_who; own = is.own; idle = is.idle; few = is.few }))

-- `asker` stands for the process in the entries on the registry
module _ {session : Session} {seen : List Entry} {who n : ℕ} {p : Process} (idle : IsIdle session seen who n p) where
  abbrev r : Request
  r = requests.Fork

  fine : refused_ask p r ≡ None
  fine = not_asked p r refl

  going : IsGoing session seen seen who (n + 1) r p [] p
  going = begins_call session seen who n p r idle

  abbrev minting : Reply → Entry
  minting reply = on_registry who (n + 1) calls.Fork (act.Mint kind.Process) reply

  pub mint_may : {asker : ℕ} → asker ≡ who → (reply : Reply) → MayEnter seen (on_registry asker (n + 1) calls.Fork (act.Mint kind.Process) reply) (kept_by reply 131)
  mint_may of reply =
      subst (λ w. MayEnter seen (on_registry w (n + 1) calls.Fork (act.Mint kind.Process) reply) (kept_by reply 131)) (sym of)
      (next_may session seen seen who (n + 1) r p [] p fine 0 (act.Mint kind.Process) refl reply refl refl going (kept_by reply 131) (by_fault (is_fault reply)))
    where
      by_fault : (b : Bool) → ◌≡◌ {A = ℕ} (if b then 0 else 131) (if b || false then 0 else 132 - (0 + 1))
      by_fault true = refl
      by_fault false = refl

  module _ {desk after : List Entry} {asker : ℕ} (of : asker ≡ who) (reply : Reply) (by : IsEntered session seen desk after (on_registry asker (n + 1) calls.Fork (act.Mint kind.Process) reply)) where
    minted : IsEntered session seen desk after (minting reply)
    minted = subst (λ w. IsEntered session seen desk after (on_registry w (n + 1) calls.Fork (act.Mint kind.Process) reply)) of by

    abbrev one : Made
    one = (length minted.past, minting reply) ∷ []

    gone : HasGone session seen after who (n + 1) r p one p
    gone = gone_by session seen seen who (n + 1) r p [] p fine 0 (act.Mint kind.Process) refl reply desk after going minted refl

  -- the registry refuses it
  module _ {desk after : List Entry} {asker : ℕ} (of : asker ≡ who) (f : CallFault) (by : IsEntered session seen desk after (on_registry asker (n + 1) calls.Fork (act.Mint kind.Process) (answer.Fault f))) where
    pub fork_faulted : HasReplied session who seen after r (answer.Fault f)
    fork_faulted = record {
      made = one of (answer.Fault f) by;
      call = call_made session seen after who (n + 1) r p (one of (answer.Fault f) by) p (gone of (answer.Fault f) by) refl;
      last = refl;
    }

    pub faulted_idle : IsIdle session after who (n + 1) p
    faulted_idle = idle_again session seen after who (n + 1) r p (one of (answer.Fault f) by) p (gone of (answer.Fault f) by) refl idle.lives

  -- the child has its number
  module _ {desk after : List Entry} {asker : ℕ} (of : asker ≡ who) (child : ℕ) (by : IsEntered session seen desk after (on_registry asker (n + 1) calls.Fork (act.Mint kind.Process) (answer.Made child))) where
    abbrev m : ℕ × Entry
    m = (length (minted of (answer.Made child) by).past, minting (answer.Made child))

    on : IsGoing session seen after who (n + 1) r p (m ∷ []) p
    on = more session seen after who (n + 1) r p (m ∷ []) p (gone of (answer.Made child) by) refl idle.lives

    abbrev spawning : Entry
    spawning = own_entry who (n + 1) calls.Fork (act.Spawn child) answer.Done

    pub spawn_may : MayEnter after spawning 130
    spawn_may = next_may session seen after who (n + 1) r p (m ∷ []) p fine who (act.Spawn child) refl answer.Done refl refl on 130 refl

    -- its first two entries are made: `q` and `c` are the process and its caller then
    module _ (c : CallerState) {own : List Entry} (out : ℕ) (last : out + 1 ≡ length c.seen) (spawned : IsEntered session after own c.seen spawning) where
      abbrev now : Process
      now = record p { children = finite_set.insert p.children child }

      abbrev two : Made
      two = m ∷ (length spawned.past, spawning) ∷ []

      gone_two : HasGone session seen c.seen who (n + 1) r p two now
      gone_two = gone_own session seen after who (n + 1) r p (m ∷ []) p fine who (act.Spawn child) refl answer.Done own c.seen on spawned refl refl

      pub forking : (q : ProcessView) → q.who ≡ who → q.state ≡ now → c.who ≡ who → c.own ≡ 65 → length c.seen ≤ 2 ^ 32
          → (k : ForkingView) → k.before ≡ seen → k.child ≡ child → k.descriptors ≡ p.descriptors → k.rest ≡ pipe_descriptors p → k.out ≡ out → slice_get (nodes_of session c.seen) out ≡ Some k.source
          → IsForking session (n + 1) q c k
      forking q its state of_who kept few k before its_child held rest at source = record {
        first = m;
        second = (length spawned.past, spawning);
        joins = [];
        gone = subst (λ (b : List Entry). HasGone session b c.seen q.who (n + 1) r (process_after b q.who) two q.state) (sym before)
            (subst (λ (s : Process). HasGone session seen c.seen q.who (n + 1) r (process_after seen q.who) two s) (sym state)
            (subst (λ (w : ℕ). HasGone session seen c.seen w (n + 1) r (process_after seen w) two now) (sym its)
            (subst (λ (s : Process). HasGone session seen c.seen who (n + 1) r s two now) (sym idle.state) gone_two)));
        goes = refl;
        lives = ap (λ (s : Process). s.ended) state ∙ idle.lives;
        child = sym its_child;
        out = place_is session after own c.seen spawning spawned out last ∙ sym at;
        source = ap (λ n. slice_get (nodes_of session c.seen) n) at ∙ source;
        within = omega (arith, at, last);
        joined = [];
        pipes = ap (λ (s : Process). pipe_descriptors s) was ∙ sym rest;
        count = refl;
        held = ap (λ (s : Process). s.descriptors) was ∙ sym held;
        holds = ap (λ (s : Process). s.descriptors) state ∙ sym held;
        of_who = of_who ∙ sym its;
        own = kept;
        few = few;
      }
        where
          was : process_after k.before q.who ≡ p
          was = ap (λ b. process_after b q.who) before ∙ ap (λ w. process_after seen w) its ∙ idle.state
