use Rattle.std.proofs.Common.{sym, subst}
use Rattle.std.specs.Prelude.{List}
use Rattle.pass_entry.specs.declared.record.Record.{Record}
use Rattle.pass_recover.specs.Faults.{LogHas}
use Rattle.pass_ask.specs.Asked.{IsLogOf}
use Rattle.pass_ask.proofs.Answering.{logged_of}
use Rattle.pass_ask.proofs.opening.open_index.Goals as goal

pub of-requires-clause-logged : goal.of-requires-clause-logged
of-requires-clause-logged g c = logged_of (g.D.Disk.view c.args.disk.now) c.in_ok-log.log.list.items c.in_ok-log.ensures.read

pub returns-clause-read : goal.returns-clause-read
returns-clause-read g c =
    subst (λ (l : List Record). LogHas (g.D.Disk.view c.args.disk.now) (λ bytes. IsLogOf bytes l)) (sym c.in_ok-index.ensures) c.in_ok-log.ensures.read
