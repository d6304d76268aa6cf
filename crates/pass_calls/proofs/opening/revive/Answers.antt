use Rattle.std.proofs.Common.{refl}
use Rattle.pass_plain.specs.declared.request.Request.TheVariants as requests
use Rattle.pass_proc.proofs.Steps.{low_fd}
use Rattle.pass_calls.proofs.opening.revive.Goals as goal

pub refused-requires-clause-refused : goal.refused-requires-clause-refused
refused-requires-clause-refused g c = (c.in-Err.ensures.fault c.in-Err.fault).0 refl

pub refused-requires-clause-some : goal.refused-requires-clause-some
refused-requires-clause-some g c = record { request = requests.Revive c.args.fd c.args.pnode; named = refl; asked = refl; within = low_fd c.args.fd c.requires.fd }
