-- What the steps of every call need.
use Rattle.std.proofs.Common.{◌≡◌, ℕ, ◌+◌, ◌-◌, ◌<◌, ◌≤◌, ◌^◌, List, [], length, ap, sym, ◌∙◌, subst, arith, Bool, true, false, cond, ◌==◌, ◌&&◌, not, refl, Fits, w64, length-append, ◌∷◌, ◌++◌, append_assoc}
use Rattle.std.specs.Prelude.{Option, Some, None, slice_get, take}
use Rattle.std.proofs.lemmas.Bool.Decides.{nat_tests}
use Rattle.std.proofs.lemmas.List.{append-nil, take-append-le}
use Rattle.pass_entry.specs.declared.entry.Entry.{Entry}
use Rattle.pass_plain.specs.declared.request.Request.{Request}
use Rattle.pass_plain.specs.declared.request.Request.TheVariants as requests
use Rattle.pass_plain.specs.Calls.{is_fd}
use Rattle.pass_plain.specs.Histories.{is_fault, own_step}
use Rattle.pass_plain.specs.Places.{call_places, freed_places, left_for}
use Rattle.pass_plain.specs.Processes.{Process, process_act, process_after}
use Rattle.pass_plain.specs.Sessions.{Session}
use Rattle.pass_plain.specs.Versions.{nodes_of, node_at_entry}
use Rattle.pass_plain.proofs.Versioned.{nodes_of-append, length-nodes_of, short_get}
use Rattle.pass_book.specs.declared.claim.Full.{Full}
use Rattle.pass_hold.specs.Callers.{CallerState, moved_on}
use Rattle.pass_hold.specs.Callings.{IsIdle, IsGoing, HasLooked}
use Rattle.pass_hold.proofs.Callings.{begins_call, idle_looked, idle_frees, number_few, going_looked}
use Rattle.pass_proc.specs.CallEnds.{HasTooFew}
use Rattle.pass_proc.specs.Procs.{IsCallerOf}
use Rattle.pass_proc.specs.UnderWay.{IsUnderWay, IsWay, show_entry}
use Rattle.pass_proc.specs.Views.{ProcessView}
use Rattle.pass_proc.specs.declared.way.Way.{Way}

-- an act that changes no process
pub unchanged : (who : ℕ) (past : List Entry) (p : Process) (e : Entry) → process_act past p e.act ≡ p → own_step (λ past p e. process_act past p e.act) who past p e ≡ p
unchanged who past p e same = at_test (e.what == who && not (is_fault e.reply))
  where
    at_test : (b : Bool) → cond b (process_act past p e.act) p ≡ p
    at_test true = same
    at_test false = refl

pub low_fd : (fd : ℕ) → fd < 64 → is_fd fd ≡ true
low_fd fd low = grind (arith, nat_tests)

-- the call is begun
pub begun : (session : Session) (seen : List Entry) (who number : ℕ) (p : Process) (r : Request) → IsIdle session seen who (number - 1) p → 0 < number → IsGoing session seen seen who number r p [] p
begun session seen who number p r idle some =
    subst (λ n. IsGoing session seen seen who n r p [] p) (let z : number - 1 + 1 ≡ number = omega (arith, some) in z) (begins_call session seen who (number - 1) p r idle)

-- A process between two calls

module _ (session : Session) (p : ProcessView) (n : ℕ) (c : CallerState) (is : IsCallerOf session p n c) where
  pub number_fits : Fits w64 (n + 1)
  number_fits = let few = number_few session c.seen p.who n p.state is.idle in let short = is.few in omega (arith, few, short)

  pub idle_before : (d : CallerState) → d ≡ c → IsIdle session d.seen p.who (n + 1 - 1) p.state
  idle_before d same = subst (λ (c : CallerState). IsIdle session c.seen p.who (n + 1 - 1) p.state) (sym same)
      (subst (λ m. IsIdle session c.seen p.who m p.state) (let z : n ≡ n + 1 - 1 = omega arith in z) is.idle)

  -- a new call frees the places of the one that it leaves
  pub frees : call_places c.seen c.who ≡ freed_places c.seen c.who
  frees = subst (λ w. call_places c.seen w ≡ freed_places c.seen w) (sym is.of_who) (idle_frees session c.seen p.who n p.state is.idle)

  -- it has looked
  pub still : (d : CallerState) (k : ℕ) → d ≡ moved_on c d.seen d.syncs k → HasLooked session c.who c.seen d.seen → length d.seen ≤ 2 ^ 32 → IsCallerOf session p n d
  still d k same looked few = record {
    of_who = ap (λ (c : CallerState). c.who) same ∙ is.of_who;
    own = ap (λ (c : CallerState). c.own) same ∙ is.own;
    idle = idle_looked session c.seen d.seen p.who n p.state is.idle (subst (λ w. HasLooked session w c.seen d.seen) is.of_who looked);
    few = few;
  }

  -- it found too few places
  pub too_few : (places need : ℕ) (d : CallerState) (full : Full) → HasLooked session c.who c.seen d.seen
      → (full.need ≡ need) × (full.left < need) × (full.left ≡ left_for places d.seen c.who) → HasTooFew session places p.who c.seen d.seen need full
  too_few places need d full looked is_full =
      subst (λ w. HasTooFew session places w c.seen d.seen need full) is.of_who (record { looked = looked; needs = is_full.0; fewer = is_full.1; left = is_full.2 })

-- the node of an entry stays as the history grows
pub node_stays : (session : Session) (seen later : List Entry) (place : ℕ) → place < length seen → slice_get (nodes_of session (seen ++ later)) place ≡ slice_get (nodes_of session seen) place
node_stays session seen [] place low = ap (λ h. slice_get (nodes_of session h) place) (append-nil seen)
node_stays session seen (e ∷ later) place low =
    let longer = length-append seen (e ∷ []) in
    let nodes = length-nodes_of session seen in
    ap (λ h. slice_get (nodes_of session h) place) (sym (append_assoc seen (e ∷ []) later))
    ∙ node_stays session (seen ++ e ∷ []) later place (omega (arith, low, longer))
    ∙ ap (λ ns. slice_get ns place) (nodes_of-append session seen e)
    ∙ short_get (nodes_of session seen) (node_at_entry session seen (nodes_of session seen) e ∷ []) place (omega (arith, low, nodes))

-- A write that is under way stays so

pub way_looked : (session : Session) (who number : ℕ) (seen after : List Entry) (now : Process) (o : Option Way) → HasLooked session who seen after → IsWay session who number seen now o → IsWay session who number after now o
way_looked session who number seen after now None looked is = tt
way_looked session who number seen after now (Some w) looked is =
    let low = is.within in
    let later = looked.begins.0 in
    let whole = looked.begins.1 in
    let before : take w.out after ≡ take w.out seen = ap (λ h. take w.out h) (sym whole) ∙ take-append-le w.out seen later (omega (arith, low)) in
    let longer = sym (ap length whole) ∙ length-append seen later in
    subst (λ h. IsUnderWay session who number h after now w) (sym before) (record {
      going = going_looked session (take w.out seen) seen after who number (requests.Write w.fd w.bytes) (process_after (take w.out seen) who) ((w.out, show_entry who number w) ∷ []) now is.going looked;
      free = is.free;
      low = is.low;
      few = is.few;
      held = is.held;
      pipe = is.pipe;
      within = omega (arith, longer, low);
      source = ap (λ h. slice_get (nodes_of session h) w.out) (sym whole) ∙ node_stays session seen later w.out low ∙ is.source;
      holds = is.holds;
    })
