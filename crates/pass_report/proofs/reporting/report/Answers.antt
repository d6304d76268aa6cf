use Rattle.std.proofs.Common.{◌≡◌, ◌++◌, ◌∷◌, [], List, length, map, take, ap, subst, ◌∙◌, arith}
use Rattle.std.specs.Prelude.{flat_map, codes, if◌then◌else◌}
use Rattle.std.specs.Fmt.{decimal}
use Rattle.std.proofs.lemmas.List.{take_all}
use Rattle.pass_entry.specs.declared.entry.Entry.{Entry}
use Rattle.pass_plain.specs.Sessions.{Session}
use Rattle.pass_plain.specs.Versions.{nodes_of}
use Rattle.pass_plain.specs.Traces.{Line}
use Rattle.pass_plain.specs.Runs.{IsRun, pnode_in, first_begun}
use Rattle.pass_trace.specs.declared.trace.TraceLine.{TraceLine}
use Rattle.pass_trace.specs.TraceLines.{plain_trace, session_of_trace}
use Rattle.pass_report.specs.Answered.{lines_to}
use Rattle.pass_report.specs.Reports.{IsLegalFrom, edge_line, is_answered, object_line}
use Rattle.pass_report.proofs.Advancing.{lines_before}
use Rattle.pass_report.specs.Trails.{IsTrail}
use Rattle.pass_report.specs.CallTables.{IsCallTable}
use Rattle.pass_report.specs.Kinds.{AreKinds}
use Rattle.pass_report.specs.Logging.{IsLogged}
use Rattle.pass_report.specs.Recorders.{entry_line}
use Rattle.pass_report.specs.Standings.{HasLooked}
use Rattle.pass_report.proofs.Finishing.{waiting_is, stuck_is, short_zip}
use Rattle.pass_report.proofs.reporting.report.Goals as goal

pub returns : goal.returns
returns g c = λ full told.
    let start = c.args.start.now in
    let history = c.args.history.now in
    let lines = c.args.trace.now.lines.items in
    let session : Session = session_of_trace full lines in
    let trace : List Line = plain_trace lines in
    let from : IsLegalFrom start history session = record { same = told.same; sound = told.sound; legal = told.run.legal } in
    let passed = c.in_ok-recorder.ensures session from in
    let all : take (length history) history ≡ history = take_all (length history) history (omega arith) in
    let r = c.in_ok-recorder.recorder in
    let trail = subst (λ h. IsTrail start session h r.trail) all passed.trail in
    let table = subst (λ h. IsCallTable h r.calls) all passed.calls in
    let kinds = subst (λ h. AreKinds start session h r.kinds) all passed.kinds in
    let logged = subst (λ h. IsLogged start session h r.logged) all passed.logged in
    let Looked : List TraceLine → Type 0 = λ ls. (session : Session) (history : List Entry) → IsRun session (plain_trace ls) history → IsCallTable history r.calls
    → c.first_process-first.result ≡ pnode_in (first_begun session history) 1 → HasLooked session (plain_trace ls) history (plain_trace ls) c.in_ok-standing.standing in
    let first = c.first_process-first.ensures session told.same.ceiling in
    let looked = (subst Looked c.deref.ensures.value c.in_ok-standing.ensures.looked) session history told.run table first in
    let marked = passed.answered ∙ ap (map (is_answered history)) all in
    let calls =
    c.in_ok-text.ensures
    ∙ (λ i. lines_to history (c.nodes.ensures i) (c.as_slice.ensures.value i) (length history))
    ∙ (λ i. lines_to history (trail.nodes i) (marked i) (length history))
    ∙ lines_before session history (length history) (omega arith) ∙ ap (flat_map (entry_line history (nodes_of session history))) (short_zip history (nodes_of session history)) in
    let objects = c.in_ok-write_objects.ensures session history kinds trail in
    let waiting = waiting_is session trace history r.calls told.run table c.in_ok-standing.standing looked in
    let stuck = c.is_stuck-stuck.ensures ∙ stuck_is session trace history r.calls told.run table c.in_ok-standing.standing looked in
    let t1 = c.in_ok-write_edges.ensures ∙ (λ i. calls i ++ flat_map edge_line (logged.edges i)) in
    let t2 = objects ∙ (λ i. t1 i ++ flat_map (object_line session history) (kinds.touched i)) in
    let t3 = c.in_ok-write_standing.ensures ∙ (λ i. t2 i ++ waiting i) in
    let t4 = c.in_ok-write_end.ensures ∙ (λ i. t3 i
    ++ (codes "end " ++ (if stuck i then codes "stuck " else codes "done ") ++ decimal (length history) ++ codes " entries " ++ decimal (logged.count i) ++ codes " records" ++ 10 ∷ [])) in
    ap (λ v. v.items) c.into_bytes.ensures.value ∙ t4
