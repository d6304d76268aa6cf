-- A child just born.
use Rattle.std.proofs.Common.{◌≡◌, ℕ, ◌+◌, ◌≤◌, ◌^◌, List, [], ◌∷◌, ◌++◌, length, refl, ap, sym, ◌∙◌, subst, arith, Bool, true, false, ◌&&◌, not, ◌==◌, inl, inr}
use Rattle.std.specs.Prelude.{Some, slice_get, if◌then◌else◌}
use Rattle.std.specs.Ordering.{nat_cmp}
use Rattle.std.specs.FinSet.{len-empty}
use Rattle.pass_entry.specs.declared.entry.Entry.{Entry}
use Rattle.pass_entry.specs.declared.objects.Node.{Node}
use Rattle.pass_entry.specs.declared.record.Record.TheVariants as log
use Rattle.pass_plain.specs.Legal.{IsLegal, last_number}
use Rattle.pass_plain.specs.Lineages.{Lineage, IsAlike, with_source}
use Rattle.pass_plain.specs.Processes.{Held, new_process, process_act, process_after, has_begun, has_ended}
use Rattle.pass_plain.specs.Recorded.{entry_records_by, is_freeze_by, node_by}
use Rattle.pass_plain.specs.Sessions.{Session, is_opened, opened_file, opened_app, opening_version}
use Rattle.pass_plain.specs.Versions.{nodes_of, source_in}
use Rattle.pass_plain.proofs.Appends.{legal-push, place_of}
use Rattle.pass_plain.proofs.Beginning.{no_rebirth}
use Rattle.pass_plain.proofs.HeldPlaces.{child_begun}
use Rattle.pass_plain.proofs.Lists.{same_itself, true_left, true_right}
use Rattle.pass_plain.proofs.Playing.{who_begun, zero_not}
use Rattle.pass_plain.proofs.Replays.{own_step-own}
use Rattle.pass_plain.proofs.OtherCalls.{last_none}
use Rattle.pass_plain.proofs.LastNodes.{begins_at}
use Rattle.pass_version.specs.States.{VersionState, IsStateAfter}
use Rattle.pass_version.specs.declared.versions.Taken.TheVariants as taken
use Rattle.pass_version.proofs.OneObject.{opening_law, alike_state}
use Rattle.pass_hold.specs.Callers.{CallerState}
use Rattle.pass_hold.specs.Callings.{IsEntered, IsIdle}
use Rattle.pass_hold.proofs.Objects.{object_after, takes}
use Rattle.pass_hold.specs.Slips.{taken_records}
use Rattle.pass_proc.specs.Births.{birth_entry, first_lineage}
use Rattle.pass_proc.specs.Procs.{IsCallerOf}
use Rattle.pass_proc.specs.Views.{IsProcess, process_of}

pub opened_is : (session : Session) (child : ℕ) → is_opened session.start child ≡ false → IsStateAfter session [] (first_lineage child)
opened_is session child new =
    let version : opening_version session.start child ≡ 1 = begins_at (opened_file session.start child) (opened_app session.start child) new in
    subst (λ (m : Bool). IsStateAfter session [] (record { node = record { pnode = child; version = 1 }; marked = m; sources = [] })) new
    (subst (λ n. IsStateAfter session [] (record { node = record { pnode = child; version = n }; marked = is_opened session.start child; sources = [] })) version (opening_law session child))

-- Its records

module _ (session : Session) (line : List Entry) (who number child out : ℕ) (ds : Held) (new : is_opened session.start child ≡ false) (source : Node)
    (from : source_in (nodes_of session line) (birth_entry who number child out ds) ≡ Some source) where
  abbrev b : Entry
  b = birth_entry who number child out ds

  freeze : is_freeze_by session [] (Some source) b ≡ false
  freeze = ap (λ t. t && (opening_version session.start child == opening_version session.start child)) new

  node : node_by session [] (Some source) b ≡ record { pnode = child; version = 1 }
  node =
      let version : opening_version session.start child ≡ 1 = begins_at (opened_file session.start child) (opened_app session.start child) new in
      λ i. record { pnode = child; version = if freeze i then version i + 1 else version i }

  pub birth_slip : (now : Lineage) → IsAlike now (with_source (first_lineage child) source) → taken_records taken.Linked now.node source [] ≡ entry_records_by session [] (source_in (nodes_of session line) b) b
  birth_slip now alike =
      (λ i. log.Input ((alike.node ∙ sym node) i) source ∷ [])
      ∙ sym (λ i. ((if freeze i then log.Version (node_by session [] (Some source) b) ∷ [] else []) ++ log.Input (node_by session [] (Some source) b) source ∷ []) ++ [])
      ∙ ap (λ o. entry_records_by session [] o b) (sym from)

-- Its state

module _ (session : Session) (line after : List Entry) (who number child out : ℕ) (ds : Held) (entered : IsEntered session line [] after (birth_entry who number child out ds)) (new : is_opened session.start child ≡ false) where
  abbrev e : Entry
  e = birth_entry who number child out ds

  abbrev h : List Entry
  h = entered.past

  begun : has_begun h who ≡ true
  begun = true_left (has_begun h who) (not (has_ended h who)) (true_left (has_begun h who && not (has_ended h who)) _ entered.follows.acts)

  lives : has_ended h who ≡ false
  lives = off (has_ended h who) (true_right (has_begun h who) (not (has_ended h who)) (true_left (has_begun h who && not (has_ended h who)) _ entered.follows.acts))
    where
      off : (b : Bool) → not b ≡ true → b ≡ false
      off true is = absurd (cc)
      off false is = refl

  legal_now : IsLegal session after
  legal_now = subst (λ h. IsLegal session h) (sym entered.whole) (legal-push session h e entered.legal entered.follows)

  child_now : has_begun after child ≡ true
  child_now = ap (λ h. has_begun h child) entered.whole ∙ child_begun session h e entered.legal entered.follows out ds refl begun lives

  unbegun : has_begun h child ≡ true → ⊥
  unbegun is = no_rebirth session h e out ds entered.legal entered.follows refl is

  no_child : (i : ℕ) (f : Entry) → slice_get (h ++ e ∷ []) i ≡ Some f → f.who ≡ child → ⊥
  no_child i f at is = elim (place_of h e i f at) [
    | inl l ↦ elim (who_begun session h i f entered.legal l.0) [
      | inl z ↦ zero_not session after legal_now (ap (λ w. has_begun after w) (sym z ∙ is) ∙ child_now)
      | inr b ↦ unbegun (ap (λ w. has_begun h w) (sym is) ∙ b)
    ]
    | inr r ↦ unbegun (ap (λ w. has_begun h w) (sym (ap (λ (f : Entry). f.who) r.1 ∙ is)) ∙ begun)
  ]

  state_born : process_after after child ≡ record new_process { descriptors = ds }
  state_born =
      object_after session line [] after e entered (λ past p e. process_act past p e.act) new_process
      ∙ own_step-own (λ past p e. process_act past p e.act) child h new_process e (same_itself child) refl

  idle_born : IsIdle session after child 0 (record new_process { descriptors = ds })
  idle_born = record {
    legal = legal_now;
    begun = child_now;
    lives = refl;
    state = state_born;
    last = ap (λ h. last_number h child) entered.whole ∙ last_none (h ++ e ∷ []) child no_child;
    ready = inl refl;
  }

  pub born_caller : length after ≤ 2 ^ 32 → (v : VersionState) (c : CallerState) → c.who ≡ child → c.own ≡ 65 → c.seen ≡ after
      → IsCallerOf session (process_of child after (record { state = record new_process { descriptors = ds }; room = 0 }) v) 0 c
  born_caller few v c its own seen = record {
    of_who = its;
    own = own;
    idle = subst (λ h. IsIdle session h child 0 (record new_process { descriptors = ds })) (sym seen) idle_born;
    few = subst (λ (h : List Entry). length h ≤ 2 ^ 32) (sym seen) few;
  }

  module _ (source : Node) (from : source_in (nodes_of session line) e ≡ Some source) where
    pub born_process : length after ≤ 2 ^ 32 → (v : VersionState) → IsAlike v.lineage (with_source (first_lineage child) source)
        → IsProcess session (process_of child after (record { state = record new_process { descriptors = ds }; room = 0 }) v)
    born_process few v alike = record {
      state = state_born;
      node = ap (λ (n : Node). n.pnode) alike.node;
      lineage = alike_state session after v.lineage (with_source (first_lineage child) source) alike (takes session line [] after e entered (first_lineage child) source refl (opened_is session child new) from refl);
      sources = (let none = len-empty nat_cmp in omega (arith, none));
      few = few;
    }
