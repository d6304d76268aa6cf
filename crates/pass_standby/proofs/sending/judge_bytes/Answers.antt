use Rattle.std.proofs.Common.{List, refl, ap, subst}
use Rattle.std.proofs.lemmas.Result.{err_from_is_err_and}
use Rattle.pass_entry.specs.declared.record.Record.{Record}
use Rattle.pass_graph.specs.Check.{IsFlawOf}
use Rattle.pass_log.specs.LogImage.{held_in}
use Rattle.pass_outside.specs.Areas.{Image}
use Rattle.pass_outside.specs.Memory.{memory_view}
use Rattle.pass_plain.specs.WellLogged.{IsWellLogged}
use Rattle.pass_standby.proofs.Withheld.{image_held, flaw_faults}
use Rattle.pass_standby.proofs.sending.judge_bytes.Goals as goal

pub returns-in_err-read-clause-fault : goal.returns-in_err-read-clause-fault
returns-in_err-read-clause-fault c =
    let (bytes, told, image) = c.in-Ok.ensures.image in
    let p = err_from_is_err_and c.from_residual-in_err-read.result c.from_residual-in_err-read.ensures.1 in
    rw (p.1, p.2) (flaw_faults c.args.bytes.items (held_in c.in-Ok.image) c.in_err-read.field-0.0
    (image_held (memory_view c.in_ok-disk.disk).seen c.args.bytes.items bytes (held_in c.in-Ok.image) (ap (λ (i : Image). i.log) c.in_ok-disk.ensures.seen) (told refl) image.holds)
    (subst (λ (l : List Record). IsFlawOf l c.in_err-read.field-0.0) c.deref.ensures.value c.in_err-read.ensures.flaw))

pub returns-clause-ok : goal.returns-clause-ok
returns-clause-ok c =
    let (bytes, told, image) = c.in-Ok.ensures.image in (
      held_in c.in-Ok.image,
      image_held (memory_view c.in_ok-disk.disk).seen c.args.bytes.items bytes (held_in c.in-Ok.image) (ap (λ (i : Image). i.log) c.in_ok-disk.ensures.seen) (told refl) image.holds,
      subst IsWellLogged c.deref.ensures.value c.in_ok-read.ensures.ok,
    )
