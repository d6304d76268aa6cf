-- A process that ends, and one that has ended.
use Rattle.std.proofs.Common.{◌≡◌, ℕ, ◌+◌, List, [], ◌∷◌, length, refl, ap, sym, ◌∙◌, subst, arith, Bool, true, false, ◌==◌, length-append}
use Rattle.std.specs.Prelude.{Some, None, slice_get, if◌then◌else◌}
use Rattle.std.specs.List.{list_any}
use mathlib.Core.List.{IsPrefix}
use Rattle.pass_entry.specs.declared.entry.Act.TheVariants as act
use Rattle.pass_entry.specs.declared.entry.CallName.TheVariants as calls
use Rattle.pass_entry.specs.declared.entry.Entry.{Entry}
use Rattle.pass_entry.specs.declared.entry.Reply.TheVariants as answer
use Rattle.pass_plain.specs.Lawful.{AgreeOn}
use Rattle.pass_plain.specs.Legal.{IsLegal, ObjectAllows}
use Rattle.pass_plain.specs.Lineages.{used}
use Rattle.pass_plain.specs.Processes.{Process, new_process, process_act, process_after, has_ended}
use Rattle.pass_plain.specs.Sessions.{Session}
use Rattle.pass_plain.specs.Versions.{nodes_of}
use Rattle.pass_plain.proofs.Awaits.{ended_more}
use Rattle.pass_plain.proofs.Lists.{same_itself}
use Rattle.pass_plain.proofs.Replays.{own_step-own}
use Rattle.pass_plain.proofs.TwoPrefixes.{none_later}
use Rattle.pass_version.specs.States.{IsStateAfter}
use Rattle.pass_hold.specs.Callings.{IsEntered}
use Rattle.pass_hold.proofs.Objects.{lineage_stays, object_after, marks, stays, node_there}
use Rattle.pass_proc.specs.Acts.{own_entry}
use Rattle.pass_proc.specs.Ends.{EndedView, HasEnded, end_entry, reap_entry}
use Rattle.pass_proc.specs.Views.{ProcessView, IsProcess}
use Rattle.pass_proc.proofs.Steps.{unchanged}

-- a process that has ended lives no more

-- it is as it was where more was seen, but no entry on it
pub ended_seen : (session : Session) (p : EndedView) (history : List Entry) → HasEnded session p → IsPrefix p.seen history → AgreeOn p.who p.seen history → IsLegal session history
    → HasEnded session (record p { seen = history })
ended_seen session p history is (later, whole) agrees legal =
    let quiet = none_later (λ (f : Entry). f.what == p.who) p.seen later history whole agrees in
    record {
      ended = subst (λ h. has_ended h p.who ≡ true) whole (ended_more p.seen later p.who is.ended);
      node = is.node;
      lineage = subst (λ h. IsStateAfter session h p.lineage) whole
          (lineage_stays session p.seen later p.lineage (subst (λ h. IsLegal session h) (sym whole) legal)
          (subst (λ o. list_any (λ (f : Entry). f.what == o) later ≡ false) (sym is.node) quiet) is.lineage);
    }

pub living_before : (h l : List Entry) (o : ℕ) → IsPrefix h l → has_ended l o ≡ false → has_ended h o ≡ false
living_before h l o (later, whole) lives = by_test (has_ended h o) refl
  where
    by_test : (b : Bool) → has_ended h o ≡ b → has_ended h o ≡ false
    by_test true is = absurd (let z : true ≡ false = sym (ended_more h later o is) ∙ ap (λ h. has_ended h o) whole ∙ lives in cc)
    by_test false is = is

-- its parent waits for it

pub reap_ready : (session : Session) (seen : List Entry) (who number what : ℕ) → has_ended seen what ≡ true → ObjectAllows session seen (reap_entry who number what)
reap_ready session seen who number what ended = ap (λ b. if b then Some answer.Done else None) ended

module _ (session : Session) (line after : List Entry) (p : EndedView) (is : HasEnded session p) (who number : ℕ) (entered : IsEntered session line p.seen after (reap_entry who number p.who)) where
  abbrev e : Entry
  e = reap_entry who number p.who

  pub reaped : HasEnded session (record p { seen = after; lineage = used p.lineage })
  reaped = record {
    ended = ap (λ (p : Process). p.ended) (object_after session line p.seen after e entered (λ past p e. process_act past p e.act) new_process
        ∙ unchanged p.who entered.past (process_after p.seen p.who) e refl) ∙ is.ended;
    node = is.node;
    lineage = marks session line p.seen after e entered p.lineage is.node is.lineage refl;
  }

  pub reaped_node : (place : ℕ) → place + 1 ≡ length after → slice_get (nodes_of session after) place ≡ Some p.lineage.node
  reaped_node place at =
      let longer = ap length entered.whole ∙ length-append entered.past (e ∷ []) in
      ap (λ n. slice_get (nodes_of session after) n) (let z : place ≡ length entered.past = omega (arith, longer, at) in z)
      ∙ node_there session line p.seen after e entered (used p.lineage) is.node reaped.lineage

-- its parent waits for it, and takes nothing

pub end_ready : (session : Session) (seen : List Entry) (who number what : ℕ) → has_ended seen what ≡ true → ObjectAllows session seen (end_entry who number what)
end_ready session seen who number what ended = ap (λ b. if b then Some answer.Done else None) ended

pub end_shown : (session : Session) (line after : List Entry) (p : EndedView) → HasEnded session p → (who number : ℕ) → IsEntered session line p.seen after (end_entry who number p.who)
    → HasEnded session (record p { seen = after })
end_shown session line after p is who number entered =
    let e = end_entry who number p.who in
    record {
      ended = ap (λ (p : Process). p.ended) (object_after session line p.seen after e entered (λ past p e. process_act past p e.act) new_process
          ∙ unchanged p.who entered.past (process_after p.seen p.who) e refl) ∙ is.ended;
      node = is.node;
      lineage = stays session line p.seen after e entered p.lineage is.node is.lineage refl refl refl;
    }

-- it ends

pub ended_now : (session : Session) (line after : List Entry) (number : ℕ) (p : ProcessView) → IsProcess session p → IsEntered session line p.seen after (own_entry p.who number calls.Exit act.Finish answer.Done)
    → HasEnded session (record { who = p.who; seen = after; lineage = p.lineage })
ended_now session line after number p is entered =
    let e = own_entry p.who number calls.Exit act.Finish answer.Done in
    record {
      ended = ap (λ (p : Process). p.ended) (object_after session line p.seen after e entered (λ past p e. process_act past p e.act) new_process
          ∙ own_step-own (λ past p e. process_act past p e.act) p.who entered.past (process_after p.seen p.who) e (same_itself p.who) refl);
      node = is.node;
      lineage = stays session line p.seen after e entered p.lineage is.node is.lineage refl refl refl;
    }
