use Rattle.std.proofs.Common.{ℕ, ◌∙◌, List, map, IsTrue, refl, sym, ap, subst}
use Rattle.std.specs.Prelude.{IsErr}
use Rattle.pass_outside.specs.Runs.{adds_both}
use Rattle.pass_entry.specs.declared.record.Record.{Record}
use Rattle.pass_outside.specs.Areas.{Image}
use Rattle.pass_graph.specs.Logged.{Summarizes}
use Rattle.pass_plain.specs.declared.start.Start.{Start}
use Rattle.pass_plain.specs.WellLogged.{IsWellLogged}
use Rattle.pass_range.specs.Tables.{IsTableOf}
use Rattle.pass_recover.specs.Starts.{apps_of, current_node}
use Rattle.pass_recover.specs.Fills.{AreFilled, AreRead}
use Rattle.pass_recover.proofs.Opened.{start_of, bytes_of, unmatched_of}
use Rattle.pass_recover.proofs.Settled.{leaves_read, read_on}
use Rattle.pass_recover.proofs.Sounding.{tells_files, sound, continues}
use Rattle.pass_recover.proofs.opening.recover.Goals as goal

pub returns-clause-start : goal.returns-clause-start
returns-clause-start g c =
    let list : List Record = c.in-Ok.image.list.items in
    let start : Start = record { ceiling = c.ceiling.result; files = c.in_ok-files.field-0.files; apps = c.in_ok-current_apps.field-0 } in
    let table = c.in_ok-table.table in
    let is = subst (λ (l : List Record). IsTableOf l table) c.deref-2.ensures.value c.in_ok-table.ensures in
    let filled = subst (λ (l : List Record). AreFilled l table.rows.items start.files.items) c.deref-3.ensures.value c.in_ok-files.ensures.files in
    start_of list table is start.files.items filled start refl (c.ceiling.ensures list (subst (λ (l : List Record). Summarizes c.in_ok-logged.logged l) c.deref.ensures.value c.in_ok-logged.ensures.says))
    (c.in_ok-current_apps.ensures ∙ ap (λ (l : List Record). map (current_node l) (apps_of l)) c.deref-4.ensures.value)

pub returns-clause-bytes : goal.returns-clause-bytes
returns-clause-bytes g c = λ told.
    let list : List Record = c.in-Ok.image.list.items in
    let start : Start = record { ceiling = c.ceiling.result; files = c.in_ok-files.field-0.files; apps = c.in_ok-current_apps.field-0 } in
    let table = c.in_ok-table.table in
    let is = subst (λ (l : List Record). IsTableOf l table) c.deref-2.ensures.value c.in_ok-table.ensures in
    let filled = subst (λ (l : List Record). AreFilled l table.rows.items start.files.items) c.deref-3.ensures.value c.in_ok-files.ensures.files in
    let read =
    subst (λ (i : Image). AreRead list table.rows.items i.store start.files.items) (c.read_image.ensures.content ∙ c.in_ok-settle.ensures.content)
    (subst (λ (l : List Record). AreRead l table.rows.items (g.D.Disk.view c.read_image.new.disk).seen.store start.files.items) c.deref-3.ensures.value
    (c.in_ok-files.ensures.bytes (subst IsTrue (sym (c.read_image.ensures.work.tells ∙ c.settle.ensures.run.tells)) told))) in
    bytes_of list table is start.files.items filled (g.D.Disk.view c.args.disk.now).seen.store read start refl

pub returns-clause-unmatched : goal.returns-clause-unmatched
returns-clause-unmatched g c = λ told.
    let list : List Record = c.in-Ok.image.list.items in
    let files = c.in_ok-files.field-0.files.items in
    let table = c.in_ok-table.table in
    let is = subst (λ (l : List Record). IsTableOf l table) c.deref-2.ensures.value c.in_ok-table.ensures in
    let filled = subst (λ (l : List Record). AreFilled l table.rows.items files) c.deref-3.ensures.value c.in_ok-files.ensures.files in
    let read =
    subst (λ (i : Image). AreRead list table.rows.items i.store files) (c.read_image.ensures.content ∙ c.in_ok-settle.ensures.content)
    (subst (λ (l : List Record). AreRead l table.rows.items (g.D.Disk.view c.read_image.new.disk).seen.store files) c.deref-3.ensures.value
    (c.in_ok-files.ensures.bytes (subst IsTrue (sym (c.read_image.ensures.work.tells ∙ c.settle.ensures.run.tells)) told))) in
    unmatched_of list table is files filled (g.D.Disk.view c.args.disk.now).seen.store read c.in_ok-files.field-0.unmatched.items c.in_ok-files.ensures.unmatched

pub returns-clause-tells_files : goal.returns-clause-tells_files
returns-clause-tells_files g c =
    let start : Start = record { ceiling = c.ceiling.result; files = c.in_ok-files.field-0.files; apps = c.in_ok-current_apps.field-0 } in
    tells_files c.in-Ok.image.list.items start (returns-clause-start g c) (subst IsWellLogged c.deref.ensures.value c.in_ok-logged.ensures.ok) c.in-Ok.ensures.in_range

pub returns-clause-sound : goal.returns-clause-sound
returns-clause-sound g c =
    let start : Start = record { ceiling = c.ceiling.result; files = c.in_ok-files.field-0.files; apps = c.in_ok-current_apps.field-0 } in
    sound c.in-Ok.image.list.items start (returns-clause-start g c) (subst IsWellLogged c.deref.ensures.value c.in_ok-logged.ensures.ok) c.in-Ok.ensures.in_range

pub returns-clause-continues : goal.returns-clause-continues
returns-clause-continues g c =
    let start : Start = record { ceiling = c.ceiling.result; files = c.in_ok-files.field-0.files; apps = c.in_ok-current_apps.field-0 } in
    continues c.in-Ok.image.list.items start (returns-clause-start g c) (subst IsWellLogged c.deref.ensures.value c.in_ok-logged.ensures.ok) c.in-Ok.ensures.in_range

pub returns-in_err-files-clause-run : goal.returns-in_err-files-clause-run
returns-in_err-files-clause-run g c =
    let old = g.D.Disk.view c.args.disk.now in
    adds_both old.may_leave old (g.D.Disk.view c.read_image.new.disk) (g.D.Disk.view c.read_files.new.disk)
    (adds_both old.may_leave old (g.D.Disk.view c.settle.new.disk) (g.D.Disk.view c.read_image.new.disk) c.settle.ensures.run.adds c.read_image.ensures.run (λ i x. x) (λ i x. c.settle.ensures.crash i x))
    c.read_files.ensures.run (λ i x. x) (λ i x. c.settle.ensures.crash i (c.read_image.ensures.crash i x))

pub returns-in_err-current_apps-clause-run : goal.returns-in_err-current_apps-clause-run
returns-in_err-current_apps-clause-run g c =
    let old = g.D.Disk.view c.args.disk.now in
    adds_both old.may_leave old (g.D.Disk.view c.read_image.new.disk) (g.D.Disk.view c.read_files.new.disk)
    (adds_both old.may_leave old (g.D.Disk.view c.settle.new.disk) (g.D.Disk.view c.read_image.new.disk) c.settle.ensures.run.adds c.read_image.ensures.run (λ i x. x) (λ i x. c.settle.ensures.crash i x))
    c.read_files.ensures.run (λ i x. x) (λ i x. c.settle.ensures.crash i (c.read_image.ensures.crash i x))

pub returns-clause-run : goal.returns-clause-run
returns-clause-run g c =
    let old = g.D.Disk.view c.args.disk.now in
    adds_both old.may_leave old (g.D.Disk.view c.read_image.new.disk) (g.D.Disk.view c.read_files.new.disk)
    (adds_both old.may_leave old (g.D.Disk.view c.settle.new.disk) (g.D.Disk.view c.read_image.new.disk) c.settle.ensures.run.adds c.read_image.ensures.run (λ i x. x) (λ i x. c.settle.ensures.crash i x))
    c.read_files.ensures.run (λ i x. x) (λ i x. c.settle.ensures.crash i (c.read_image.ensures.crash i x))

pub returns-clause-no_fault : goal.returns-clause-no_fault
returns-clause-no_fault g c = λ never. c.in_ok-files.ensures.no_fault (λ err. absurd (cc (err))) ∙ c.in-Ok.ensures.work.no_fault (λ err. absurd (cc (err))) ∙ (c.in_ok-settle.ensures.run.ok refl).0

pub returns-in_err-settle-clause-since : goal.returns-in_err-settle-clause-since
returns-in_err-settle-clause-since g c = λ synced. absurd (c.settle.ensures.early (subst IsErr (sym c.in_err-settle.was) refl) synced)

pub returns-in-Err-clause-since : goal.returns-in-Err-clause-since
returns-in-Err-clause-since g c =
    let s = c.in_ok-settle.ensures in
    leaves_read (g.D.Disk.view c.args.disk.now) (g.D.Disk.view c.settle.new.disk) (g.D.Disk.view c.read_image.new.disk) s.two s.content s.durable s.since c.read_image.ensures.run

pub returns-in_err-logged-clause-since : goal.returns-in_err-logged-clause-since
returns-in_err-logged-clause-since g c =
    let s = c.in_ok-settle.ensures in
    leaves_read (g.D.Disk.view c.args.disk.now) (g.D.Disk.view c.settle.new.disk) (g.D.Disk.view c.read_image.new.disk) s.two s.content s.durable s.since c.read_image.ensures.run

pub returns-in_err-table-clause-since : goal.returns-in_err-table-clause-since
returns-in_err-table-clause-since g c =
    let s = c.in_ok-settle.ensures in
    leaves_read (g.D.Disk.view c.args.disk.now) (g.D.Disk.view c.settle.new.disk) (g.D.Disk.view c.read_image.new.disk) s.two s.content s.durable s.since c.read_image.ensures.run

pub returns-in_err-files-clause-since : goal.returns-in_err-files-clause-since
returns-in_err-files-clause-since g c =
    let s = c.in_ok-settle.ensures in
    read_on (g.D.Disk.view c.args.disk.now) (g.D.Disk.view c.settle.new.disk) (g.D.Disk.view c.read_image.new.disk) (g.D.Disk.view c.read_files.new.disk) s.two s.content s.durable s.since
    c.read_image.ensures.crash c.read_image.ensures.run c.read_files.ensures.run

pub returns-in_err-current_apps-clause-since : goal.returns-in_err-current_apps-clause-since
returns-in_err-current_apps-clause-since g c =
    let s = c.in_ok-settle.ensures in
    read_on (g.D.Disk.view c.args.disk.now) (g.D.Disk.view c.settle.new.disk) (g.D.Disk.view c.read_image.new.disk) (g.D.Disk.view c.read_files.new.disk) s.two s.content s.durable s.since
    c.read_image.ensures.crash c.read_image.ensures.run c.read_files.ensures.run

pub returns-clause-since : goal.returns-clause-since
returns-clause-since g c =
    let s = c.in_ok-settle.ensures in
    read_on (g.D.Disk.view c.args.disk.now) (g.D.Disk.view c.settle.new.disk) (g.D.Disk.view c.read_image.new.disk) (g.D.Disk.view c.read_files.new.disk) s.two s.content s.durable s.since
    c.read_image.ensures.crash c.read_image.ensures.run c.read_files.ensures.run
