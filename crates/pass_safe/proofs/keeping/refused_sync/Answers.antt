use Rattle.std.proofs.Common.{refl, subst, sym}
use Rattle.pass_plain.specs.declared.request.Request.TheVariants as requests
use Rattle.pass_proc.proofs.Steps.{low_fd}
use Rattle.pass_safe.specs.Syncings.{IsNoDiskFault}
use Rattle.pass_safe.proofs.Ends.{refused_fault, refused_full}
use Rattle.pass_safe.proofs.keeping.refused_sync.Goals as goal

pub refuse-requires-clause-some : goal.refuse-requires-clause-some
refuse-requires-clause-some g c = record { request = requests.Sync c.args.fd; named = refl; asked = refl; within = low_fd c.args.fd c.requires.fd }

pub returns-in-Ok-clause-call : goal.returns-in-Ok-clause-call
returns-in-Ok-clause-call g c =
    let e = c.in-Ok.ensures in
    refused_fault g.J.Whose.book.session g.J.Whose.places c.args.proc.now c.refuse.new.proc c.args.fd c.args.fault (e.call (requests.Sync c.args.fd) refl refl (low_fd c.args.fd c.requires.fd)) e.counted.1 e.same.0 c.from.result c.from.ensures

pub returns-in-Err-clause-call : goal.returns-in-Err-clause-call
returns-in-Err-clause-call g c =
    let e = c.in-Err.ensures in
    refused_full g.J.Whose.book.session g.J.Whose.places c.args.proc.now c.refuse.new.proc c.args.fd c.in-Err.full e.full.0 e.full.1 e.full.2 e.looks e.same c.from-in-Err.result c.from-in-Err.ensures

pub returns-in-Ok-clause-no_disk : goal.returns-in-Ok-clause-no_disk
returns-in-Ok-clause-no_disk g c = subst IsNoDiskFault (sym c.from.ensures) tt

pub returns-in-Err-clause-no_disk : goal.returns-in-Err-clause-no_disk
returns-in-Err-clause-no_disk g c = subst IsNoDiskFault (sym c.from-in-Err.ensures) tt
