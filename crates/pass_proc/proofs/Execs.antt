-- A process after it has run a program.
use Rattle.std.proofs.Common.{◌≡◌, ℕ, ◌+◌, ◌-◌, ◌<◌, ◌≤◌, ◌^◌, List, [], length, refl, ap, sym, ◌∙◌, subst, arith, true, false, ◌==◌}
use Rattle.std.specs.Prelude.{Some}
use Rattle.std.specs.List.{list_any}
use Rattle.std.specs.FinSet.{len}
use Rattle.pass_entry.specs.declared.entry.Act.TheVariants as act
use Rattle.pass_entry.specs.declared.entry.CallName.TheVariants as calls
use Rattle.pass_entry.specs.declared.entry.Entry.{Entry}
use Rattle.pass_entry.specs.declared.entry.Reply.TheVariants as answer
use Rattle.pass_entry.specs.declared.objects.Node.{Node}
use Rattle.pass_entry.specs.declared.record.Record.{Record}
use Rattle.pass_plain.specs.Legal.{IsLegal}
use Rattle.pass_plain.specs.Lineages.{Lineage, IsAlike, frozen, with_source}
use Rattle.pass_plain.specs.Processes.{Process}
use Rattle.pass_plain.specs.Recorded.{entry_records_by, node_by}
use Rattle.pass_plain.specs.Sessions.{Session}
use Rattle.pass_plain.specs.Versions.{nodes_of, source_in, is_exec, version_after}
use Rattle.pass_plain.proofs.TwoPrefixes.{none_later}
use Rattle.pass_plain.proofs.Versioned.{version_law}
use Rattle.pass_version.specs.States.{IsStateAfter}
use Rattle.pass_version.specs.declared.versions.Taken.TheVariants as taken
use Rattle.pass_version.proofs.OneObject.{step_law, alike_state}
use Rattle.pass_hold.specs.Callings.{IsEntered}
use Rattle.pass_hold.proofs.Objects.{lineage_stays}
use Rattle.pass_hold.specs.Slips.{taken_records}
use Rattle.pass_proc.specs.Acts.{own_entry}
use Rattle.pass_proc.specs.Execs.{program_records}
use Rattle.pass_proc.specs.Views.{ProcessView, IsProcess}
use Rattle.pass_proc.proofs.Own.{state_now}

-- an exec freezes once, and takes from its program
execs : (session : Session) (line desk after : List Entry) (e : Entry) → IsEntered session line desk after e → (l : Lineage) (source : Node) → l.node.pnode ≡ e.what → IsStateAfter session desk l
    → source_in (nodes_of session line) e ≡ Some source → is_exec e.act ≡ true → IsStateAfter session after (with_source (frozen l) source)
execs session line desk after e entered l source own is from exec =
    let later = entered.desk_begins.0 in
    let whole = entered.desk_begins.1 in
    let quiet = none_later (λ (f : Entry). f.what == e.what) desk later entered.past whole entered.desk_agrees in
    let before : IsStateAfter session entered.past l =
    subst (λ h. IsStateAfter session h l) whole
    (lineage_stays session desk later l (subst (λ h. IsLegal session h) (sym whole) entered.legal) (subst (λ o. list_any (λ (f : Entry). f.what == o) later ≡ false) (sym own) quiet) is) in
    let (version, mark, source_is, repeated) = version_law session entered.past desk line e entered.legal entered.follows entered.desk_begins entered.desk_agrees entered.line_begins entered.line_agrees in
    subst (λ h. IsStateAfter session h (with_source (frozen l) source)) (sym entered.whole) ((step_law session entered.past e l entered.legal entered.follows (sym own) before).execs source (source_is ∙ from) exec)

module _ (session : Session) (line : List Entry) (p : ProcessView) (number out : ℕ) (name args : List ℕ) (source : Node) (is : IsProcess session p)
    (from : source_in (nodes_of session line) (own_entry p.who number calls.Exec (act.Exec out name args) answer.Done) ≡ Some source) where
  abbrev e : Entry
  e = own_entry p.who number calls.Exec (act.Exec out name args) answer.Done

  node : node_by session p.seen (Some source) e ≡ (frozen p.lineage).node
  node =
      let version : version_after session p.seen p.who ≡ p.lineage.node.version = ap (λ o. version_after session p.seen o) (sym is.node) ∙ sym (ap (λ (n : Node). n.version) is.lineage.node) in
      λ i. record { pnode = sym is.node i; version = version i + 1 }

  pub exec_slip : (now : Lineage) → IsAlike now (with_source (frozen p.lineage) source) → (rs : List Record) → rs ≡ program_records (frozen p.lineage).node name args
      → taken_records taken.FrozenAndLinked now.node source rs ≡ entry_records_by session p.seen (source_in (nodes_of session line) e) e
  exec_slip now alike rs is_rs =
      (λ i. taken_records taken.FrozenAndLinked ((alike.node ∙ sym node) i) source ((is_rs ∙ ap (λ n. program_records n name args) (sym node)) i))
      ∙ ap (λ o. entry_records_by session p.seen o e) (sym from)

  pub exec_now : (after : List Entry) → IsEntered session line p.seen after e → (now : Lineage) → IsAlike now (with_source (frozen p.lineage) source) → length after ≤ 2 ^ 32
      → len p.state.children < p.spare → (spare : ℕ) → spare ≡ p.spare - 1 → IsProcess session (record p { seen = after; state = record p.state { last_read = [] }; lineage = now; spare = spare })
  exec_now after entered now alike few low spare less = record {
    state = state_now session line after p is e refl refl entered;
    node = ap (λ (n : Node). n.pnode) alike.node ∙ is.node;
    lineage = alike_state session after now (with_source (frozen p.lineage) source) alike (execs session line p.seen after e entered p.lineage source is.node is.lineage from refl);
    sources = omega (arith, low, less);
    few = few;
  }

abbrev pub seen_as : ℕ → List Entry → Process → Lineage → ℕ → ℕ → ProcessView
seen_as who seen state lineage spare room = record { who = who; seen = seen; state = state; lineage = lineage; spare = spare; room = room }
