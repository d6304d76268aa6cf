use Rattle.std.proofs.Common.{[], ◌∷◌, ◌++◌, length, take, ap, sym, refl, subst, ◌∙◌, arith}
use Rattle.std.proofs.lemmas.Option.{slice_get_read}
use Rattle.pass_plain.proofs.Calling.{legal_take}
use Rattle.pass_report.specs.Trails.{IsTrail}
use Rattle.pass_report.specs.CallTables.{IsCallTable}
use Rattle.pass_report.specs.Kinds.{AreKinds}
use Rattle.pass_report.specs.Callers.{AreProcesses}
use Rattle.pass_report.specs.Logging.{IsLogged}
use Rattle.pass_report.proofs.Answering.{on_then}
use Rattle.pass_report.proofs.Advancing.{answered_next, follows, next_of, one_further}
use Rattle.pass_report.proofs.recorder.Recorder.note.Goals as goal

pub note-requires : goal.note-requires
note-requires c =
    let history = c.args.history.now in
    let place = c.args.place in
    let at = slice_get_read history (length history) place c.index-history-place.result refl c.requires.within c.index-history-place.is in
    let (session, from, passed) = c.requires.known in
    (session, take place history, next_of c.args.start.now session history from (omega arith) place c.index-history-place.result at, passed.trail)

pub note-requires-4-clause-known : goal.note-requires-4-clause-known
note-requires-4-clause-known c =
    let history = c.args.history.now in
    let place = c.args.place in
    let at = slice_get_read history (length history) place c.index-history-place.result refl c.requires.within c.index-history-place.is in
    let (session, from, passed) = c.requires.known in
    (session, from.sound, legal_take session history place from.legal, follows session history from.legal place c.index-history-place.result at)

pub note-requires-5 : goal.note-requires-5
note-requires-5 c =
    let start = c.args.start.now in
    let history = c.args.history.now in
    let place = c.args.place in
    let e = c.index-history-place.result in
    let at = slice_get_read history (length history) place e refl c.requires.within c.index-history-place.is in
    let (session, from, passed) = c.requires.known in
    let next = next_of start session history from (omega arith) place e at in
    let turned = (c.in_ok-turn.ensures session (take place history) next passed.trail).1 in
    (session, take place history, next, turned, passed.logged)

pub returns : goal.returns
returns c = on_then c.note-5.result _ _ c.note-5.ensures (λ logged. λ session from passed.
    let start = c.args.start.now in
    let history = c.args.history.now in
    let place = c.args.place in
    let past = take place history in
    let e = c.index-history-place.result in
    let at = slice_get_read history (length history) place e refl c.requires.within c.index-history-place.is in
    let next = next_of start session history from (omega arith) place e at in
    let more = one_further session history from.legal place e at in
    let (trail, turned) = c.in_ok-turn.ensures session past next passed.trail in
    let ends = c.ends_call-ended.ensures session past next.legal next.next passed.processes in
    record {
      trail = subst (λ h. IsTrail start session h c.note.new.self) (sym more) trail;
      calls = subst (λ h. IsCallTable h c.note-2.new.self) (sym more) (c.in_ok-note.ensures past ends passed.calls);
      kinds = subst (λ h. AreKinds start session h c.note-3.new.self) (sym more) (c.in_ok-note-2.ensures start session past next passed.kinds);
      processes = subst (λ h. AreProcesses h c.note-4.new.self) (sym more) c.in_ok-note-3.ensures;
      logged = subst (λ h. IsLogged start session h c.note-5.new.self) (sym more) (logged session past next turned passed.logged);
      answered =
          c.in_ok-push.ensures.items
          ∙ ap (λ b. c.args.self.now.answered.items ++ b ∷ []) c.is_answered.ensures
          ∙ answered_next session history from.legal place e at c.args.self.now.answered.items passed.answered c.ends_call-ended.result ends;
    })
