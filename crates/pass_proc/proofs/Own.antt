-- A process after one more entry of its own on itself.
use Rattle.std.proofs.Common.{◌≡◌, ℕ, ◌+◌, ◌-◌, ◌<◌, ◌≤◌, ◌^◌, List, [], ◌∷◌, ◌++◌, length, refl, ap, sym, ◌∙◌, subst, arith, Bool, true, false, ◌&&◌, ◌||◌, not, cond, length-append}
use Rattle.std.specs.Prelude.{Option, Some, None, slice_get, if◌then◌else◌}
use Rattle.std.specs.Option.{option_map_or}
use Rattle.std.specs.Cmp.{nat_cmp_total}
use Rattle.std.specs.Ordering.{nat_cmp}
use Rattle.std.specs.FinSet.{FinSet, contains, insert, len, len-insert, len-remove, remove}
use Rattle.pass_entry.specs.declared.entry.Entry.{Entry}
use Rattle.pass_entry.specs.declared.entry.Act.{Act}
use Rattle.pass_entry.specs.declared.entry.Act.TheVariants as act
use Rattle.pass_entry.specs.declared.entry.Reply.TheVariants as answer
use Rattle.pass_entry.specs.declared.objects.Node.{Node}
use Rattle.pass_entry.specs.declared.record.Record.TheVariants as log
use Rattle.pass_plain.specs.Histories.{is_fault, uses, out_of}
use Rattle.pass_plain.specs.Legal.{IsLegal}
use Rattle.pass_plain.specs.Lineages.{used}
use Rattle.pass_plain.specs.Processes.{Process, new_process, process_act, process_after, Gains, OffsetsFit}
use Rattle.pass_plain.specs.Recorded.{entry_records_by, act_records_by, version_records_by, is_fresh_by, is_freeze_by, node_by, repeats}
use Rattle.pass_plain.specs.Sessions.{Session}
use Rattle.pass_plain.specs.Sound.{IsSound}
use Rattle.pass_plain.specs.Versions.{nodes_of, is_exec, always_freezes, marked_after}
use Rattle.pass_plain.proofs.Lists.{same_itself}
use Rattle.pass_plain.proofs.LastCalls.{offsets_fit}
use Rattle.pass_plain.proofs.Replays.{own_step-own}
use Rattle.pass_plain.proofs.LastNodes.{versions_low}
use Rattle.pass_version.specs.States.{IsStateAfter}
use Rattle.pass_hold.specs.Callings.{IsEntered}
use Rattle.pass_hold.proofs.Objects.{object_after, stays, marks, node_there}
use Rattle.pass_proc.specs.Acts.{is_quiet, is_use, room_needed}
use Rattle.pass_proc.specs.Views.{ProcessView, IsProcess}

-- What the acts are

-- no act by which the process takes from a source or begins a version
pub record IsPlain (a : Act) : Type 1 where
  pub alone : out_of a ≡ None
  pub steady : always_freezes a ≡ false
  pub gains : (past : List Entry) (bytes : List ℕ) → Gains past a bytes
  pub still : (past : List Entry) (p : Process) → process_act past p a ≡ process_act [] p a
  pub lists : (session : Session) (desk : List Entry) (source : Option Node) (e : Entry) (node : Node) → act_records_by session desk source e node a ≡ version_records_by session desk source e node ++ []
  pub children : (p : Process) → len (process_act [] p a).children ≤ len p.children + room_needed a

low_itself : (n : ℕ) → n ≤ n + 0
low_itself n = omega arith

remove_low : (s : FinSet nat_cmp) (k : ℕ) → len (remove s k) ≤ len s + 0
remove_low s k = let e = len-remove nat_cmp_total s k in by_test (contains s k) e
  where
    by_test : (b : Bool) → len (remove s k) ≡ cond b (len s - 1) (len s) → len (remove s k) ≤ len s + 0
    by_test true e = omega (arith, e)
    by_test false e = omega (arith, e)

pub quiet_plain : (a : Act) → is_quiet a ≡ true → IsPlain a
quiet_plain (act.Attach fd d) is = record { alone = refl; steady = refl; gains = λ h b. tt; still = λ h p. refl; lists = λ s d o e n. refl; children = λ p. low_itself (len p.children) }
quiet_plain (act.AttachPipe r w n) is = record { alone = refl; steady = refl; gains = λ h b. tt; still = λ h p. refl; lists = λ s d o e n. refl; children = λ p. low_itself (len p.children) }
quiet_plain (act.Detach fd) is = record { alone = refl; steady = refl; gains = λ h b. tt; still = λ h p. refl; lists = λ s d o e n. refl; children = λ p. low_itself (len p.children) }
quiet_plain (act.Seek fd at) is = record { alone = refl; steady = refl; gains = λ h b. tt; still = λ h p. refl; lists = λ s d o e n. refl; children = λ p. low_itself (len p.children) }
quiet_plain (act.Release child) is = record { alone = refl; steady = refl; gains = λ h b. tt; still = λ h p. refl; lists = λ s d o e n. refl; children = λ p. remove_low p.children child }
quiet_plain (act.Kept fd) is = record { alone = refl; steady = refl; gains = λ h b. tt; still = λ h p. refl; lists = λ s d o e n. refl; children = λ p. low_itself (len p.children) }
quiet_plain _ is = absurd (cc)

pub quiet_idle : (a : Act) → is_quiet a ≡ true → uses a ≡ false
quiet_idle (act.Attach fd d) is = refl
quiet_idle (act.AttachPipe r w n) is = refl
quiet_idle (act.Detach fd) is = refl
quiet_idle (act.Seek fd at) is = refl
quiet_idle (act.Release child) is = refl
quiet_idle (act.Kept fd) is = refl
quiet_idle _ is = absurd (cc)

pub quiet_room : (a : Act) → is_quiet a ≡ true → room_needed a ≡ 0
quiet_room (act.Attach fd d) is = refl
quiet_room (act.AttachPipe r w n) is = refl
quiet_room (act.Detach fd) is = refl
quiet_room (act.Seek fd at) is = refl
quiet_room (act.Release child) is = refl
quiet_room (act.Kept fd) is = refl
quiet_room _ is = absurd (cc)

insert_low : (s : FinSet nat_cmp) (k : ℕ) → len (insert s k) ≤ len s + 1
insert_low s k = let e = len-insert nat_cmp_total s k in by_test (contains s k) e
  where
    by_test : (b : Bool) → len (insert s k) ≡ cond b (len s) (len s + 1) → len (insert s k) ≤ len s + 1
    by_test true e = omega (arith, e)
    by_test false e = omega (arith, e)

pub use_plain : (a : Act) → is_use a ≡ true → IsPlain a
use_plain (act.Show fd n) is = record { alone = refl; steady = refl; gains = λ h b. tt; still = λ h p. refl; lists = λ s d o e n. refl; children = λ p. low_itself (len p.children) }
use_plain (act.Spawn child) is = record { alone = refl; steady = refl; gains = λ h b. tt; still = λ h p. refl; lists = λ s d o e n. refl; children = λ p. insert_low p.children child }
use_plain _ is = absurd (cc)

pub use_uses : (a : Act) → is_use a ≡ true → uses a ≡ true
use_uses (act.Show fd n) is = refl
use_uses (act.Spawn child) is = refl
use_uses _ is = absurd (cc)

-- It has no records
module _ (session : Session) (desk : List Entry) (source : Option Node) (e : Entry) (done : e.reply ≡ answer.Done) (plain : IsPlain e.act) where
  is_fine : is_fault e.reply ≡ false
  is_fine = ap is_fault done

  abbrev node : Node
  node = node_by session desk source e

  unfresh : is_fresh_by session desk source e ≡ false
  unfresh =
      ap (λ b. option_map_or (λ out. true) (if b then None else out_of e.act) false && (is_exec e.act || not (repeats session desk e.what source))) is_fine
      ∙ ap (λ o. option_map_or (λ out. true) o false && (is_exec e.act || not (repeats session desk e.what source))) plain.alone

  unfrozen : is_freeze_by session desk source e ≡ false
  unfrozen =
      ap (λ b. not b && (always_freezes e.act || (is_fresh_by session desk source e && marked_after session desk e.what))) is_fine
      ∙ ap (λ b. b || (is_fresh_by session desk source e && marked_after session desk e.what)) plain.steady
      ∙ ap (λ b. b && marked_after session desk e.what) unfresh

  pub no_records : [] ≡ entry_records_by session desk source e
  no_records = sym (
      ap (λ b. if b then [] else act_records_by session desk source e node e.act) is_fine
      ∙ plain.lists session desk source e node
      ∙ (λ i. ((if unfrozen i then log.Version node ∷ [] else []) ++ (if unfresh i then option_map_or (λ s. log.Input node s ∷ []) source [] else [])) ++ []))

pub fitting : (session : Session) (p : ProcessView) → IsProcess session p → IsSound session → IsLegal session p.seen → OffsetsFit p.state.descriptors
fitting session p is sound legal = subst (λ (s : Process). OffsetsFit s.descriptors) is.state (offsets_fit p.seen p.who (session, sound, legal))

pub version_short : (session : Session) (p : ProcessView) → IsProcess session p → IsSound session → IsLegal session p.seen → p.lineage.node.version < 2 ^ 62
version_short session p is sound legal =
    let low = versions_low session sound p.seen legal p.lineage.node.pnode in
    let same = ap (λ (n : Node). n.version) is.lineage.node in
    let few = is.few in
    omega (arith, low, same, few)

pub version_low : (session : Session) (p : ProcessView) → IsProcess session p → IsSound session → IsLegal session p.seen → p.lineage.node.version < 2 ^ 63
version_low session p is sound legal = let low = version_short session p is sound legal in omega (arith, low)

-- What it is afterwards
module _ (session : Session) (line after : List Entry) (p : ProcessView) (is : IsProcess session p) (e : Entry) (done : e.reply ≡ answer.Done) (own : e.what ≡ p.who)
    (entered : IsEntered session line p.seen after e) where
  fine : is_fault e.reply ≡ false
  fine = ap is_fault done

  here : p.lineage.node.pnode ≡ e.what
  here = is.node ∙ sym own

  pub state_now : process_after after p.who ≡ process_act entered.past p.state e.act
  state_now = subst (λ o. process_after after o ≡ process_act entered.past p.state e.act) own
      (object_after session line p.seen after e entered (λ past p e. process_act past p e.act) new_process
      ∙ own_step-own (λ past p e. process_act past p e.act) e.what entered.past (process_after p.seen e.what) e (same_itself e.what) fine
      ∙ ap (λ s. process_act entered.past s e.act) (ap (λ o. process_after p.seen o) own ∙ is.state))

  pub quiet_now : is_quiet e.act ≡ true → length after ≤ 2 ^ 32 → (room : ℕ) → IsProcess session (record p { seen = after; state = process_act [] p.state e.act; room = room })
  quiet_now quiet few room =
      let plain = quiet_plain e.act quiet in
      record {
        state = state_now ∙ plain.still entered.past p.state;
        node = is.node;
        lineage = stays session line p.seen after e entered p.lineage here is.lineage
            (ap (λ b. b && not (is_fault e.reply)) (quiet_idle e.act quiet))
            (ap (λ b. b && not (is_fault e.reply)) plain.steady)
            (ap (λ b. if b then None else out_of e.act) fine ∙ plain.alone);
        sources = (let low = plain.children p.state in let none = quiet_room e.act quiet in let was = is.sources in omega (arith, low, none, was));
        few = few;
      }

  used_after : is_use e.act ≡ true → IsStateAfter session after (used p.lineage)
  used_after is_used = marks session line p.seen after e entered p.lineage here is.lineage ((λ i. use_uses e.act is_used i && not (fine i)))

  pub use_now : is_use e.act ≡ true → length after ≤ 2 ^ 32 → len p.state.children + room_needed e.act ≤ p.spare → (room : ℕ)
      → IsProcess session (record p { seen = after; state = process_act [] p.state e.act; lineage = used p.lineage; room = room })
  use_now is_used few sources room =
      let plain = use_plain e.act is_used in
      record {
        state = state_now ∙ plain.still entered.past p.state;
        node = is.node;
        lineage = used_after is_used;
        sources = (let low = plain.children p.state in omega (arith, low, sources));
        few = few;
      }

  pub use_node : is_use e.act ≡ true → (place : ℕ) → place + 1 ≡ length after → slice_get (nodes_of session after) place ≡ Some p.lineage.node
  use_node is_used place at =
      let longer = ap length entered.whole ∙ length-append entered.past (e ∷ []) in
      ap (λ n. slice_get (nodes_of session after) n) (let z : place ≡ length entered.past = omega (arith, longer, at) in z)
      ∙ node_there session line p.seen after e entered (used p.lineage) here (used_after is_used)
