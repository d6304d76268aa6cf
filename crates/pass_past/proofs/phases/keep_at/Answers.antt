use Rattle.std.proofs.Common.{◌≡◌, ◌<◌, ◌+◌, ◌^◌, ◌++◌, ◌∷◌, [], ℕ, List, length, take, refl, sym, subst, arith}
use Rattle.std.specs.Prelude.{Some, slice_get}
use Rattle.std.proofs.lemmas.Option.{slice_get_read}
use Rattle.pass_entry.specs.declared.entry.Entry.{Entry}
use Rattle.pass_entry.specs.declared.objects.Node.{Node}
use Rattle.pass_plain.specs.declared.start.Start.{Start}
use Rattle.pass_plain.specs.declared.nodes.VersionStep.{VersionStep}
use Rattle.pass_plain.specs.Legal.{IsLegal, session_of}
use Rattle.pass_plain.specs.Sound.{IsSound}
use Rattle.pass_plain.specs.Recording.{IsRecording}
use Rattle.pass_report.specs.Passing.{IsNext}
use Rattle.pass_report.specs.Reports.{IsLegalFrom}
use Rattle.pass_report.proofs.Advancing.{next_of, one_further}
use Rattle.pass_leaf.specs.declared.fault.OldFault.TheVariants as faults
use Rattle.pass_leaf.specs.Keeping.{FileVersion}
use Rattle.pass_report.specs.declared.trail.Trail.{Trail}
use Rattle.pass_past.specs.Pasts.{ended_by, ended_versions}
use Rattle.pass_report.specs.Trails.{IsTrail, IsTurn}
use Rattle.pass_past.specs.Walks.{AreFiles, IsEnding}
use Rattle.pass_past.specs.Keepings.{Begins, IsKeeping, IsHalted}
use Rattle.pass_past.proofs.Goings.{ended_take, kept_stops, begins_itself}
use Rattle.pass_past.proofs.phases.keep_at.Goals as goal

-- the entry at a place may come next in a session with this very start
next_at : (start : Start) (objects : ℕ) (history : List Entry) → IsSound (session_of start objects) → IsLegal (session_of start objects) history → length history < 2 ^ 57
    → (place : ℕ) (e : Entry) → slice_get history place ≡ Some e → IsNext start (session_of start objects) (take place history) e
next_at start objects history sound legal short place e at =
    let from : IsLegalFrom start history (session_of start objects) = record { same = record { ceiling = refl; files = refl; apps = refl }; sound = sound; legal = legal } in
    next_of start (session_of start objects) history from short place e at

-- the number of objects that a session may make is nothing to its trail
trail_of : (start : Start) (a b : ℕ) (history : List Entry) (t : Trail) → IsTrail start (session_of start a) history t → IsTrail start (session_of start b) history t
trail_of start a b history t is = record { nodes = is.nodes; alike = is.alike }

turn_of : (start : Start) (a b : ℕ) (past : List Entry) (e : Entry) (turn : VersionStep) → IsTurn (session_of start a) past e turn → IsTurn (session_of start b) past e turn
turn_of start a b past e turn is = record { node = is.node; freezes = is.freezes; source = is.source }

-- the versions with those of one entry more
more_begin : (start : Start) (history : List Entry) (place : ℕ) (e : Entry) (done : List FileVersion) → take (place + 1) history ≡ take place history ++ e ∷ []
    → Begins (done ++ ended_versions (session_of start 0) (take place history)) (done ++ ended_versions (session_of start 0) (take (place + 1) history))
more_begin start history place e done more = (ended_by (session_of start 0) (take place history) e, sym (ended_take (session_of start 0) history place e done more))

pub note-requires : goal.note-requires
note-requires g c =
    let history = c.args.history.now in
    let place = c.args.place in
    let e = c.index-history-place.result in
    let at = slice_get_read history (length history) place e refl c.requires.place c.index-history-place.is in
    let (objects, sound, legal) = c.requires.legal in
    (session_of c.args.start.now objects, take place history, next_at c.args.start.now objects history sound legal (omega arith) place e at, trail_of c.args.start.now 0 objects (take place history) c.args.walked.now.trail c.requires.walked.trail)

pub record-requires-clause-step : goal.record-requires-clause-step
record-requires-clause-step g c =
    let start = c.args.start.now in
    let history = c.args.history.now in
    let place = c.args.place in
    let e = c.index-history-place.result in
    let at = slice_get_read history (length history) place e refl c.requires.place c.index-history-place.is in
    let (objects, sound, legal) = c.requires.legal in
    let trail = trail_of start 0 objects (take place history) c.args.walked.now.trail c.requires.walked.trail in
    let turned = (c.in-Ok.ensures (session_of start objects) (take place history) (next_at start objects history sound legal (omega arith) place e at) trail).1 in
    record { node = turned.node; freezes = turned.freezes; source = turned.source }

pub returns-in-Err-clause-stopped : goal.returns-in-Err-clause-stopped
returns-in-Err-clause-stopped g c = λ first done h.
    let start = c.args.start.now in
    let history = c.args.history.now in
    let place = c.args.place in
    let e = c.index-history-place.result in
    let at = slice_get_read history (length history) place e refl c.requires.place c.index-history-place.is in
    let (objects, sound, legal) = c.requires.legal in
    let more = one_further (session_of start objects) history legal place e at in
    kept_stops g.A.Disk.view first (done ++ ended_versions (session_of start 0) (take place history)) (done ++ ended_versions (session_of start 0) (take (place + 1) history)) c.args.old.now faults.NoMemory h
    (more_begin start history place e done more) refl

pub returns-in-Err-keep_ended_by-clause-stopped : goal.returns-in-Err-keep_ended_by-clause-stopped
returns-in-Err-keep_ended_by-clause-stopped g c = λ first done h.
    let start = c.args.start.now in
    let history = c.args.history.now in
    let place = c.args.place in
    let e = c.index-history-place.result in
    let at = slice_get_read history (length history) place e refl c.requires.place c.index-history-place.is in
    let (objects, sound, legal) = c.requires.legal in
    let more = one_further (session_of start objects) history legal place e at in
    let walked = c.requires.walked in
    let trail = trail_of start 0 objects (take place history) c.args.walked.now.trail walked.trail in
    let turned = (c.in-Ok.ensures (session_of start objects) (take place history) (next_at start objects history sound legal (omega arith) place e at) trail).1 in
    let node : Node = record { pnode = e.what; version = c.version.result } in
    let ending : IsEnding start (take place history) c.args.walked.now.recording c.args.walked.now.files node c.in-Ok.turn.freezes e =
    record { recorded = walked.recording; files_are = walked.files; object = refl; version = c.version.ensures (session_of start 0) (take place history) walked.trail; freeze = turned.freezes } in
    subst (λ (l : List FileVersion). IsHalted g.A.Disk.view first l c.keep_ended_by.new.old c.in-Err-keep_ended_by.fault) (ended_take (session_of start 0) history place e done more)
    (c.in-Err-keep_ended_by.ensures.stopped first (done ++ ended_versions (session_of start 0) (take place history)) (take place history) e ending h)

pub returns-in-Err-record-clause-stopped : goal.returns-in-Err-record-clause-stopped
returns-in-Err-record-clause-stopped g c = λ first done h.
    let start = c.args.start.now in
    let history = c.args.history.now in
    let place = c.args.place in
    let e = c.index-history-place.result in
    let at = slice_get_read history (length history) place e refl c.requires.place c.index-history-place.is in
    let (objects, sound, legal) = c.requires.legal in
    let more = one_further (session_of start objects) history legal place e at in
    let walked = c.requires.walked in
    let trail = trail_of start 0 objects (take place history) c.args.walked.now.trail walked.trail in
    let turned = (c.in-Ok.ensures (session_of start objects) (take place history) (next_at start objects history sound legal (omega arith) place e at) trail).1 in
    let node : Node = record { pnode = e.what; version = c.version.result } in
    let ending : IsEnding start (take place history) c.args.walked.now.recording c.args.walked.now.files node c.in-Ok.turn.freezes e =
    record { recorded = walked.recording; files_are = walked.files; object = refl; version = c.version.ensures (session_of start 0) (take place history) walked.trail; freeze = turned.freezes } in
    let all = done ++ ended_versions (session_of start 0) (take (place + 1) history) in
    let kept : IsKeeping g.A.Disk.view first all c.keep_ended_by.new.old =
    subst (λ (l : List FileVersion). IsKeeping g.A.Disk.view first l c.keep_ended_by.new.old) (ended_take (session_of start 0) history place e done more)
    (c.in_default.ensures.kept first (done ++ ended_versions (session_of start 0) (take place history)) (take place history) e ending h) in
    kept_stops g.A.Disk.view first all all c.keep_ended_by.new.old faults.NoMemory kept (begins_itself all) refl

pub returns-in-Ok-record-clause-kept : goal.returns-in-Ok-record-clause-kept
returns-in-Ok-record-clause-kept g c = λ first done h.
    let start = c.args.start.now in
    let history = c.args.history.now in
    let place = c.args.place in
    let e = c.index-history-place.result in
    let at = slice_get_read history (length history) place e refl c.requires.place c.index-history-place.is in
    let (objects, sound, legal) = c.requires.legal in
    let more = one_further (session_of start objects) history legal place e at in
    let walked = c.requires.walked in
    let trail = trail_of start 0 objects (take place history) c.args.walked.now.trail walked.trail in
    let turned = (c.in-Ok.ensures (session_of start objects) (take place history) (next_at start objects history sound legal (omega arith) place e at) trail).1 in
    let node : Node = record { pnode = e.what; version = c.version.result } in
    let ending : IsEnding start (take place history) c.args.walked.now.recording c.args.walked.now.files node c.in-Ok.turn.freezes e =
    record { recorded = walked.recording; files_are = walked.files; object = refl; version = c.version.ensures (session_of start 0) (take place history) walked.trail; freeze = turned.freezes } in
    subst (λ (l : List FileVersion). IsKeeping g.A.Disk.view first l c.keep_ended_by.new.old) (ended_take (session_of start 0) history place e done more)
    (c.in_default.ensures.kept first (done ++ ended_versions (session_of start 0) (take place history)) (take place history) e ending h)

pub returns-in-Ok-record-clause-walked : goal.returns-in-Ok-record-clause-walked
returns-in-Ok-record-clause-walked g c =
    let start = c.args.start.now in
    let history = c.args.history.now in
    let place = c.args.place in
    let e = c.index-history-place.result in
    let at = slice_get_read history (length history) place e refl c.requires.place c.index-history-place.is in
    let (objects, sound, legal) = c.requires.legal in
    let more = one_further (session_of start objects) history legal place e at in
    let before = trail_of start 0 objects (take place history) c.args.walked.now.trail c.requires.walked.trail in
    let after = (c.in-Ok.ensures (session_of start objects) (take place history) (next_at start objects history sound legal (omega arith) place e at) before).0 in
    let trail = trail_of start objects 0 (take place history ++ e ∷ []) c.note.new.self after in
    let new = c.record.new.self in
    record {
      trail = subst (λ (h : List Entry). IsTrail start (session_of start 0) h new.trail) (sym more)
          (subst (λ (t : Trail). IsTrail start (session_of start 0) (take place history ++ e ∷ []) t) (sym c.record.ensures.trail) trail);
      recording = subst (λ (h : List Entry). IsRecording start h new.recording) (sym more) c.in-Ok-record.ensures.recording;
      files = subst (λ (h : List Entry). AreFiles start h new.files) (sym more) c.in-Ok-record.ensures.files;
    }
