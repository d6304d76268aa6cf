use Rattle.pass_plain.specs.Legal.{session_of}
use Rattle.pass_plain.proofs.Appends.{legal-push}
use Rattle.pass_reference.proofs.cache.StateCache.note.Goals as goal

pub note_callers-requires-clause-lawful : goal.note_callers-requires-clause-lawful
note_callers-requires-clause-lawful c =
    let session = session_of c.args.start.now c.args.objects in
    (session, c.requires.state.sound, legal-push session c.args.history.now c.args.e.now c.requires.state.legal c.requires.next)

pub returns : goal.returns
returns c =
    let session = session_of c.args.start.now c.args.objects in
    record {
      legal = legal-push session c.args.history.now c.args.e.now c.requires.state.legal c.requires.next;
      sound = c.requires.state.sound;
      kept = record {
        registry = c.note_registry.ensures;
        files = c.note_file.ensures;
        pipes = c.note_pipe.ensures;
        callers = c.note_callers.ensures;
      };
    }
