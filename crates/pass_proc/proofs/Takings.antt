-- A process after an entry by which it takes from a source.
use Rattle.std.proofs.Common.{◌≡◌, ℕ, zero, suc, ◌+◌, ◌-◌, ◌<◌, ◌≤◌, ◌^◌, List, [], ◌∷◌, ◌++◌, length, refl, ap, sym, ◌∙◌, subst, arith, Bool, true, false, ◌&&◌, ◌||◌, not, cond}
use Rattle.std.specs.Prelude.{Option, Some, None, slice_get, if◌then◌else◌}
use Rattle.std.specs.Option.{option_map_or}
use Rattle.std.proofs.lemmas.Option.{slice_get_within}
use Rattle.std.specs.Cmp.{nat_cmp_total}
use Rattle.std.specs.Ordering.{nat_cmp}
use Rattle.std.specs.FinSet.{FinSet, contains, remove, len, contains-empty, empty_of_len, len-remove}
use Rattle.pass_entry.specs.declared.entry.Entry.{Entry}
use Rattle.pass_entry.specs.declared.entry.Act.{Act}
use Rattle.pass_entry.specs.declared.entry.Act.TheVariants as act
use Rattle.pass_entry.specs.declared.entry.Reply.TheVariants as answer
use Rattle.pass_entry.specs.declared.objects.Node.{Node}
use Rattle.pass_entry.specs.declared.record.Record.TheVariants as log
use Rattle.pass_entry.proofs.Lists.{some_is}
use Rattle.pass_plain.specs.Histories.{is_fault, out_of, bytes_at, bytes_of}
use Rattle.pass_plain.specs.Lineages.{Lineage, IsAlike, has, linked, frozen, with_source}
use Rattle.pass_plain.specs.Processes.{Process, process_act, changed_at, risen}
use Rattle.pass_plain.specs.Recorded.{entry_records_by, act_records_by, is_fresh_by, is_freeze_by, node_by, repeats, version_records_by}
use Rattle.pass_plain.specs.Sessions.{Session}
use Rattle.pass_plain.specs.Versions.{nodes_of, source_in, is_exec, always_freezes, version_after, marked_after}
use Rattle.pass_plain.proofs.Versioned.{length-nodes_of, short_get}
use Rattle.pass_version.specs.declared.versions.Taken.{Taken}
use Rattle.pass_version.specs.declared.versions.Taken.TheVariants as taken
use Rattle.pass_version.proofs.OneObject.{alike_state}
use Rattle.pass_hold.specs.Callings.{IsEntered}
use Rattle.pass_hold.proofs.Objects.{takes, repeats_has}
use Rattle.pass_hold.specs.Slips.{taken_records}
use Rattle.pass_proc.specs.Acts.{is_taking, room_needed}
use Rattle.pass_proc.specs.Views.{ProcessView, IsProcess}
use Rattle.pass_proc.proofs.Own.{state_now}

-- What the acts are

pub record IsTake (a : Act) : Type 1 where
  pub from : option_map_or (λ out. true) (out_of a) false ≡ true
  pub no_exec : is_exec a ≡ false
  pub steady : always_freezes a ≡ false
  pub roomless : room_needed a ≡ 0
  pub lists : (session : Session) (desk : List Entry) (source : Option Node) (e : Entry) (node : Node) → act_records_by session desk source e node a ≡ version_records_by session desk source e node ++ []
  pub children : (past : List Entry) (p : Process) → (process_act past p a).children ≡ (process_act [] p a).children
  pub later : (past seen : List Entry) (p : Process) (out : ℕ) → out_of a ≡ Some out → bytes_at past out ≡ bytes_at seen out → process_act past p a ≡ process_act seen p a

abbrev with_bytes : Process → ℕ → List ℕ → Process
with_bytes p fd bytes = record p { descriptors = changed_at p.descriptors fd (risen (length bytes)); last_read = bytes }

gained : (past seen : List Entry) (p : Process) (out fd : ℕ) → bytes_at past out ≡ bytes_at seen out → process_act past p (act.Gain out fd) ≡ process_act seen p (act.Gain out fd)
gained past seen p out fd same = ap (λ bytes. with_bytes p fd bytes) same

pub take_of : (a : Act) → is_taking a ≡ true → IsTake a
take_of (act.Gain out fd) is = record {
  from = refl;
  no_exec = refl;
  steady = refl;
  roomless = refl;
  lists = λ s d o e n. refl;
  children = λ h p. refl;
  later = λ past seen p k at same. gained past seen p out fd (subst (λ k. bytes_at past k ≡ bytes_at seen k) (sym (some_is out k at)) same);
}
take_of (act.Gather out child) is = record {
  from = refl;
  no_exec = refl;
  steady = refl;
  roomless = refl;
  lists = λ s d o e n. refl;
  children = λ h p. refl;
  later = λ past seen p k at same. refl;
}
take_of _ is = absurd (cc)

-- a child that stands there leaves a place
pub removed_low : (s : FinSet nat_cmp) (k n : ℕ) → contains s k ≡ true → len s ≤ n → len (remove s k) < n
removed_low s k n there low =
    let gone = len-remove nat_cmp_total s k ∙ ap (λ b. cond b (len s - 1) (len s)) there in
    let some = at_least (len s) refl in
    omega (arith, gone, low, some)
  where
    at_least : (m : ℕ) → len s ≡ m → 1 ≤ len s
    at_least zero none = absurd (let z : false ≡ true = sym (contains-empty nat_cmp k) ∙ ap (λ s. contains s k) (sym (empty_of_len s none)) ∙ there in cc)
    at_least (suc m) is = omega (arith, is)

-- Its records

linked_node : (l : Lineage) (s : Node) → (linked l s).node ≡ record { pnode = l.node.pnode; version = if not (has l s) && l.marked then l.node.version + 1 else l.node.version }
linked_node l s = by_tests (has l s) l.marked
  where
    by_tests : (h m : Bool) → (if h then l else if m then with_source (frozen l) s else with_source l s).node ≡ record { pnode = l.node.pnode; version = if not h && m then l.node.version + 1 else l.node.version }
    by_tests true m = refl
    by_tests false true = refl
    by_tests false false = refl

by_taken : (h m : Bool) (n s : Node)
    → taken_records (if h then taken.Dropped else if m then taken.FrozenAndLinked else taken.Linked) n s [] ≡ ((if not h && m then log.Version n ∷ [] else []) ++ (if not h then log.Input n s ∷ [] else [])) ++ []
by_taken true m n s = refl
by_taken false true n s = refl
by_taken false false n s = refl

at_place : (nodes : List Node) (o : Option ℕ) (source : Node) → option_map_or (λ out. slice_get nodes out) o None ≡ Some source → (k : ℕ) × (o ≡ Some k) × (slice_get nodes k ≡ Some source)
at_place nodes None source is = absurd (cc)
at_place nodes (Some k) source is = (k, refl, is)

module _ (session : Session) (line : List Entry) (p : ProcessView) (e : Entry) (source : Node)
    (is : IsProcess session p) (act : is_taking e.act ≡ true) (done : e.reply ≡ answer.Done) (own : e.what ≡ p.who) (from : source_in (nodes_of session line) e ≡ Some source) where
  abbrev desk : List Entry
  desk = p.seen

  fine : is_fault e.reply ≡ false
  fine = ap is_fault done

  here : p.lineage.node.pnode ≡ e.what
  here = is.node ∙ sym own

  c : IsTake e.act
  c = take_of e.act act

  fresh : is_fresh_by session desk (Some source) e ≡ not (has p.lineage source)
  fresh =
      ap (λ b. option_map_or (λ out. true) (if b then None else out_of e.act) false && (is_exec e.act || not (repeats session desk e.what (Some source)))) fine
      ∙ ap (λ b. b && (is_exec e.act || not (repeats session desk e.what (Some source)))) c.from
      ∙ ap (λ b. b || not (repeats session desk e.what (Some source))) c.no_exec
      ∙ ap not (repeats_has session desk e.what source p.lineage here is.lineage)

  freeze : is_freeze_by session desk (Some source) e ≡ not (has p.lineage source) && p.lineage.marked
  freeze =
      ap (λ b. not b && (always_freezes e.act || (is_fresh_by session desk (Some source) e && marked_after session desk e.what))) fine
      ∙ ap (λ b. b || (is_fresh_by session desk (Some source) e && marked_after session desk e.what)) c.steady
      ∙ ap (λ b. b && marked_after session desk e.what) fresh
      ∙ ap (λ b. not (has p.lineage source) && b) (ap (λ o. marked_after session desk o) (sym here) ∙ sym is.lineage.marked)

  node : node_by session desk (Some source) e ≡ (linked p.lineage source).node
  node =
      let version : version_after session desk e.what ≡ p.lineage.node.version = ap (λ o. version_after session desk o) (sym here) ∙ sym (ap (λ (n : Node). n.version) is.lineage.node) in
      (λ i. record { pnode = sym here i; version = if freeze i then version i + 1 else version i }) ∙ sym (linked_node p.lineage source)

  pub slip_is : (t : Taken) (now : Lineage) → t ≡ (if has p.lineage source then taken.Dropped else if p.lineage.marked then taken.FrozenAndLinked else taken.Linked)
      → IsAlike now (linked p.lineage source) → taken_records t now.node source [] ≡ entry_records_by session desk (source_in (nodes_of session line) e) e
  slip_is t now took alike =
      let n = node_by session desk (Some source) e in
      (λ i. taken_records (took i) ((alike.node ∙ sym node) i) source [])
      ∙ by_taken (has p.lineage source) p.lineage.marked n source
      ∙ sym (λ i. ((if freeze i then log.Version n ∷ [] else []) ++ (if fresh i then log.Input n source ∷ [] else [])) ++ [])
      ∙ sym (c.lists session desk (Some source) e n)
      ∙ ap (λ b. if b then [] else act_records_by session desk (Some source) e n e.act) (sym fine)
      ∙ ap (λ o. entry_records_by session desk o e) (sym from)

  module _ (after : List Entry) (entered : IsEntered session line desk after e) where
    acts_same : process_act entered.past p.state e.act ≡ process_act line p.state e.act
    acts_same =
        let (k, out, at) = at_place (nodes_of session line) (out_of e.act) source (ap (λ b. option_map_or (λ out. slice_get (nodes_of session line) out) (if b then None else out_of e.act) None) (sym fine) ∙ from) in
        let low = slice_get_within (nodes_of session line) k source at in
        let count = length-nodes_of session line in
        let same : slice_get entered.past k ≡ slice_get line k = ap (λ h. slice_get h k) (sym entered.line_begins.1) ∙ short_get line entered.line_begins.0 k (omega (arith, low, count)) in
        c.later entered.past line p.state k out (ap (λ o. option_map_or (λ (e : Entry). bytes_of e.reply) o []) same)

    pub taken_now : (now : Lineage) → IsAlike now (linked p.lineage source) → length after ≤ 2 ^ 32 → len (process_act [] p.state e.act).children < p.spare → (spare : ℕ) → spare ≡ p.spare - 1
        → IsProcess session (record p { seen = after; state = process_act line p.state e.act; lineage = now; spare = spare })
    taken_now now alike few low spare less = record {
      state = state_now session line after p is e done own entered ∙ acts_same;
      node = ap (λ (n : Node). n.pnode) (alike.node ∙ sym node) ∙ own;
      lineage = alike_state session after now (linked p.lineage source) alike (takes session line desk after e entered p.lineage source here is.lineage from c.no_exec);
      sources = (let same = ap len (c.children line p.state) in omega (arith, same, low, less));
      few = few;
    }
