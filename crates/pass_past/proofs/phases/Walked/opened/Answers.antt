use Rattle.pass_plain.specs.Legal.{session_of}
use Rattle.std.proofs.Common.{refl}
use Rattle.pass_past.proofs.phases.Walked.opened.Goals as goal

pub returns : goal.returns
returns c = record {
  trail = c.new-2.ensures c.args.start.now (session_of c.args.start.now 0) (record { ceiling = refl; files = refl; apps = refl });
  recording = c.in_ok-recording.ensures;
  files = c.in_ok-files.ensures c.args.start.now c.in_ok-recording.ensures;
}
