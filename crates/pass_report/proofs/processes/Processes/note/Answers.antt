use Rattle.std.proofs.Common.{◌≡◌, List, Bool, ap, sym, subst, ◌∙◌}
use Rattle.std.specs.Bool.{OnFalse}
use Rattle.pass_entry.specs.declared.entry.Entry.{Entry}
use Rattle.pass_report.proofs.Answering.{on_then3}
use Rattle.pass_plain.specs.Processes.{Process, OffsetsFit, process_act}
use Rattle.pass_plain.proofs.LastCalls.{numbers_below, offsets_fit}
use Rattle.pass_report.proofs.Lasting.{changed_processes, idle_processes, faulted_processes}
use Rattle.pass_report.proofs.processes.Processes.note.Goals as goal

pub returns-then-is_fault : goal.returns-then-is_fault
returns-then-is_fault c = faulted_processes c.args.past.now c.args.entry.now c.args.self.now (sym c.is_fault.ensures ∙ c.if-is_fault.true) c.requires.states

pub returns-then-not-changes_process : goal.returns-then-not-changes_process
returns-then-not-changes_process c = idle_processes c.args.past.now c.args.entry.now c.args.self.now (sym c.is_fault.ensures ∙ c.if-is_fault.false) c.requires.states
    (let Q : Bool → Type 0 = λ b. OnFalse b ((past : List Entry) (p : Process) → process_act past p c.args.entry.now.act ≡ p) in subst Q c.if-not-changes_process.true c.changes_process.ensures.kept)

pub apply-requires-clause-offsets : goal.apply-requires-clause-offsets
apply-requires-clause-offsets c =
    let past = c.args.past.now in
    let what = c.args.entry.now.what in
    let known = c.requires.known in
    subst (λ (p : Process). OffsetsFit p.descriptors) (sym (c.in_ok-meet.ensures.same what ∙ c.requires.states what))
    (offsets_fit past what (known.0, known.1, known.2))

pub apply-requires-clause-numbers : goal.apply-requires-clause-numbers
apply-requires-clause-numbers c =
    let known = c.requires.known in
    numbers_below known.0 c.args.past.now c.args.entry.now known.2 known.3

pub returns : goal.returns
returns c = on_then3 c.apply.result _ _ _ c.apply.ensures.own c.apply.ensures.others (λ own others.
    let what = c.args.entry.now.what in
    changed_processes c.args.past.now c.args.entry.now c.args.self.now c.apply.new.self (sym c.is_fault.ensures ∙ c.if-is_fault.false) c.requires.states
    (own ∙ ap (λ s. process_act c.args.past.now s c.args.entry.now.act) (c.in_ok-meet.ensures.same what))
    (λ who other. others who other ∙ c.in_ok-meet.ensures.same who))
