use Rattle.std.proofs.Common.{refl, ap, ◌&&◌, not}
use Rattle.pass_entry.specs.declared.objects.Mode.TheVariants as mode
use Rattle.pass_plain.specs.Processes.{same_mode}
use Rattle.pass_entry.specs.Texts.{is_name}
use Rattle.pass_plain.specs.declared.request.Request.TheVariants as requests
use Rattle.pass_plain.specs.Calls.{is_fd}
use Rattle.pass_plain.proofs.Lists.{both_true}
use Rattle.pass_proc.proofs.Steps.{low_fd}
use Rattle.pass_calls.proofs.opening.open_name.Goals as goal

pub refused-requires-clause-refused : goal.refused-requires-clause-refused
refused-requires-clause-refused g c = (c.in-Err.ensures.fault c.in-Err.fault).0 refl

pub refused-requires-clause-some : goal.refused-requires-clause-some
refused-requires-clause-some g c = record { request = requests.OpenName c.args.fd c.args.name.now c.args.mode; named = refl; asked = refl; within = both_true (is_fd c.args.fd && is_name c.args.name.now) (not (same_mode c.args.mode mode.App)) (both_true (is_fd c.args.fd) (is_name c.args.name.now) (low_fd c.args.fd c.requires.fd) c.requires.name) (ap not c.requires.mode) }
