use Rattle.std.proofs.Common.{◌∙◌, refl, sym, ap, subst}
use Rattle.std.specs.Prelude.{IsTrue, List}
use Rattle.pass_entry.specs.declared.record.Record.{Record}
use Rattle.pass_graph.specs.Logged.{Summarizes}
use Rattle.pass_log.specs.LogImage.{held_in}
use Rattle.pass_outside.specs.Areas.{Image}
use Rattle.pass_outside.specs.Runs.{adds_both}
use Rattle.pass_plain.specs.WellLogged.{IsWellLogged}
use Rattle.pass_ask.proofs.opening.read_log.Goals as goal

pub returns-clause-read : goal.returns-clause-read
returns-clause-read g c =
    let (bytes, told, read) = c.in-Ok.ensures.image in (
      bytes,
      λ tells. told (subst IsTrue (sym c.sync_both.ensures.run.tells) tells) ∙ ap (λ (i : Image). i.log) c.in_ok-sync_both.ensures.content,
      record { held = held_in c.in-Ok.image; image = read.holds; list_is = refl; logged = subst IsWellLogged c.deref.ensures.value c.in_ok-logged.ensures.ok },
    )

pub returns-clause-says : goal.returns-clause-says
returns-clause-says g c = subst (λ (l : List Record). Summarizes c.in_ok-logged.logged l) c.deref.ensures.value c.in_ok-logged.ensures.says

pub returns-clause-crash : goal.returns-clause-crash
returns-clause-crash g c = λ i left. c.sync_both.ensures.crash i (c.read_image.ensures.crash i left)

pub returns-clause-run : goal.returns-clause-run
returns-clause-run g c =
    let old = g.D.Disk.view c.args.disk.now in
    adds_both old.may_leave old (g.D.Disk.view c.sync_both.new.disk) (g.D.Disk.view c.read_image.new.disk) c.sync_both.ensures.run.adds c.read_image.ensures.run
    (λ i x. x) (λ i x. c.sync_both.ensures.crash i x)
