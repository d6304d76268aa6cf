use Rattle.std.proofs.Common.{◌≡◌, ℕ, ap, sym, ◌∙◌, subst, refl, List, []}
use Rattle.pass_entry.specs.declared.entry.Entry.{Entry}
use Rattle.pass_entry.specs.declared.objects.Node.{Node}
use Rattle.pass_entry.specs.declared.record.Record.{Record}
use Rattle.pass_plain.specs.Processes.{Held, new_process}
use Rattle.pass_plain.specs.Recorded.{entry_records_by}
use Rattle.pass_plain.specs.Sessions.{Session}
use Rattle.pass_plain.specs.Versions.{nodes_of, source_in}
use Rattle.pass_version.specs.States.{VersionState}
use Rattle.pass_book.specs.Tokens.{DeskState}
use Rattle.pass_hold.specs.Callers.{CallerState}
use Rattle.pass_hold.specs.Callings.{IsEntered}
use Rattle.pass_proc.specs.Births.{birth_entry}
use Rattle.pass_proc.specs.Procs.{IsCallerOf}
use Rattle.pass_proc.specs.Views.{ProcessView, IsProcess, process_of}
use Rattle.pass_proc.proofs.Births.{birth_slip, born_process, born_caller}
use Rattle.pass_proc.proofs.proc.Proc.born.Goals as goal

abbrev child_view : ℕ → List Entry → Held → VersionState → ProcessView
child_view n h ds v = process_of n h (record { state = record new_process { descriptors = ds }; room = 0 }) v

view_is : (n child : ℕ) (h after : List Entry) (d ds : Held) (v : VersionState) → n ≡ child → h ≡ after → d ≡ ds → child_view n h d v ≡ child_view child after ds v
view_is n child h after d ds v whats seen held = λ i. child_view (whats i) (seen i) (held i) v

entered_is : (S : Session) (line after h : List Entry) (who number out n child : ℕ) (d ds : Held) → h ≡ [] → n ≡ child → d ≡ ds
    → IsEntered S line h after (birth_entry who number n out d) → IsEntered S line [] after (birth_entry who number child out ds)
entered_is S line after h who number out n child d ds none whats given entered =
    subst (λ d. IsEntered S line [] after (birth_entry who number child out d)) given
    (subst (λ n. IsEntered S line [] after (birth_entry who number n out d)) whats
    (subst (λ h. IsEntered S line h after (birth_entry who number n out d)) none entered))

abbrev slip_of : Session → List Entry → ℕ → ℕ → ℕ → List Entry → ℕ → Held → List Record
slip_of S line who number out h child ds = entry_records_by S h (source_in (nodes_of S line) (birth_entry who number child out ds)) (birth_entry who number child out ds)

pub born-born-requires-clause-born : goal.born-born-requires-clause-born
born-born-requires-clause-born g c = (c.args.out, c.linked-versions.result.2, refl)

pub born-born-requires-clause-slip : goal.born-born-requires-clause-slip
born-born-requires-clause-slip g c =
    let S = g.J.Whose.book.session in
    let a = c.args in
    let l = c.linked-versions.ensures in
    let child : c.current-child.result.pnode ≡ a.room.child = ap (λ (n : Node). n.pnode) (c.current-child.ensures ∙ l.version.node) in
    let seen : c.parted-desk.result.0.seen ≡ [] = ap (λ (d : DeskState). d.seen) c.parted-desk.ensures.desk in
    let given : c.linked-versions.result.2 ≡ a.room.descriptors = l.descriptors.0 in
    l.slip
    ∙ birth_slip S a.parent.now.seen a.who a.number a.room.child a.out a.room.descriptors c.requires.new a.source.now c.requires.source c.linked-versions.result.0.lineage l.version
    ∙ sym (λ i. slip_of S a.parent.now.seen a.who a.number a.out (seen i) (child i) (given i))

pub begin-requires-clause-process : goal.begin-requires-clause-process
begin-requires-clause-process g c =
    let S = g.J.Whose.book.session in
    let a = c.args in
    let l = c.linked-versions.ensures in
    let e = c.born-born.ensures in
    let line = a.parent.now.seen in
    let after = c.born-born.new.self.seen in
    let child : c.current-child.result.pnode ≡ a.room.child = ap (λ (n : Node). n.pnode) (c.current-child.ensures ∙ l.version.node) in
    let desk = c.parted-desk.ensures.desk in
    let entered = entered_is S line after c.parted-desk.result.0.seen a.who a.number a.out c.current-child.result.pnode a.room.child c.linked-versions.result.2 a.room.descriptors
    (ap (λ (d : DeskState). d.seen) desk) child l.descriptors.0 e.entry.entered in
    let is = born_process S line after a.who a.number a.room.child a.out a.room.descriptors entered c.requires.new a.source.now c.requires.source e.entry.few c.linked-versions.result.0 l.version in
    let same = view_is c.born-born.new.desk.what a.room.child c.born-born.new.desk.seen after c.linked-versions.result.3 a.room.descriptors c.linked-versions.result.0
    (ap (λ (d : DeskState). d.what) e.desk ∙ ap (λ (d : DeskState). d.what) desk ∙ child) (ap (λ (d : DeskState). d.seen) e.desk) l.descriptors.1 in
    subst (λ (p : ProcessView). IsProcess S p) (sym same) is

pub begin-requires-clause-caller : goal.begin-requires-clause-caller
begin-requires-clause-caller g c =
    let S = g.J.Whose.book.session in
    let a = c.args in
    let l = c.linked-versions.ensures in
    let e = c.born-born.ensures in
    let line = a.parent.now.seen in
    let after = c.born-born.new.self.seen in
    let child : c.current-child.result.pnode ≡ a.room.child = ap (λ (n : Node). n.pnode) (c.current-child.ensures ∙ l.version.node) in
    let desk = c.parted-desk.ensures.desk in
    let entered = entered_is S line after c.parted-desk.result.0.seen a.who a.number a.out c.current-child.result.pnode a.room.child c.linked-versions.result.2 a.room.descriptors
    (ap (λ (d : DeskState). d.seen) desk) child l.descriptors.0 e.entry.entered in
    let caller : CallerState = c.born-born.result.1 in
    let is = born_caller S line after a.who a.number a.room.child a.out a.room.descriptors entered c.requires.new e.entry.few c.linked-versions.result.0 caller (e.child.0 ∙ child) e.places.0 e.child.1 in
    let same = view_is c.born-born.new.desk.what a.room.child c.born-born.new.desk.seen after c.linked-versions.result.3 a.room.descriptors c.linked-versions.result.0
    (ap (λ (d : DeskState). d.what) e.desk ∙ ap (λ (d : DeskState). d.what) desk ∙ child) (ap (λ (d : DeskState). d.seen) e.desk) l.descriptors.1 in
    subst (λ (p : ProcessView). IsCallerOf S p 0 caller) (sym same) is
