use Rattle.std.proofs.Common.{◌≡◌, ap, length}
use Rattle.std.proofs.lemmas.Result.{IfOk-at_ok}
use Rattle.pass_vault.specs.declared.vault.Receipt.{Receipt}
use Rattle.pass_safe.specs.Commits.{saved_to}
use Rattle.pass_safe.proofs.Lent.{saved_of, file_saved_of}
use Rattle.pass_safe.proofs.saving.save.Goals as goal

pub returns-in-Ok-clause-saved : goal.returns-in-Ok-clause-saved
returns-in-Ok-clause-saved g c =
    let v = c.args.safe.now.vault in
    let w = c.save-file.new.self.vault in
    let file = c.args.file in
    let r = c.in-Ok.receipt in
    let e = c.save-file.ensures in
    let all = IfOk-at_ok (λ (r : Receipt). r ≡ record { calls = (g.D.Disk.view w.disk).calls; entries = length file.seen }) c.in-Ok.is e.receipt in
    saved_of g.J.Whose.book v w file r c.note-told.result
    (IfOk-at_ok (λ (r : Receipt). w ≡ saved_to v w file.what file.number r) c.in-Ok.is e.done) c.requires.seen
    (ap (λ (r : Receipt). r.entries) all) c.note-told.ensures.note c.durable-durable.ensures.sound

pub returns-in-Ok-clause-of_file : goal.returns-in-Ok-clause-of_file
returns-in-Ok-clause-of_file g c =
    let v = c.args.safe.now.vault in
    let w = c.save-file.new.self.vault in
    let file = c.args.file in
    let r = c.in-Ok.receipt in
    let e = c.save-file.ensures in
    let all = IfOk-at_ok (λ (r : Receipt). r ≡ record { calls = (g.D.Disk.view w.disk).calls; entries = length file.seen }) c.in-Ok.is e.receipt in
    file_saved_of g.J.Whose.book v w file r c.note-told.result
    (IfOk-at_ok (λ (r : Receipt). w ≡ saved_to v w file.what file.number r) c.in-Ok.is e.done) c.requires.seen
    (ap (λ (r : Receipt). r.entries) all) c.note-told.ensures.note
