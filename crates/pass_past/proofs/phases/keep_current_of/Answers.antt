use Rattle.std.proofs.Common.{◌≡◌, ◌++◌, ◌∷◌, [], List, subst}
use Rattle.std.proofs.lemmas.Result.{on_ok_weaker}
use Rattle.pass_plain.specs.Legal.{session_of}
use Rattle.pass_leaf.specs.Keeping.{FileVersion}
use Rattle.pass_past.specs.Pasts.{version_of}
use Rattle.pass_past.specs.Keepings.{IsKeeping, IsHalted}
use Rattle.pass_past.proofs.Goings.{err_weaker}
use Rattle.pass_past.proofs.phases.keep_current_of.Goals as goal

pub returns-clause-kept : goal.returns-clause-kept
returns-clause-kept g c = on_ok_weaker c.keep_next.result (λ kept. λ first done history is h.
    let version = c.version.ensures (session_of c.args.start.now 0) history is.trail in
    let bytes = c.content.ensures history is.recording in
    let one : ◌≡◌ {A = List FileVersion} (record { node = record { pnode = c.args.file; version = c.version.result }; bytes = c.content.result.now } ∷ []) (version_of (session_of c.args.start.now 0) history c.args.file ∷ []) =
    λ i. record { node = record { pnode = c.args.file; version = version i }; bytes = bytes i } ∷ [] in
    subst (λ (l : List FileVersion). IsKeeping g.A.Disk.view first (done ++ l) c.keep_next.new.old) one (kept first done h)) c.keep_next.ensures.kept

pub returns-clause-stopped : goal.returns-clause-stopped
returns-clause-stopped g c = err_weaker c.keep_next.result _ _ (λ fault stopped. λ first done history is h.
    let version = c.version.ensures (session_of c.args.start.now 0) history is.trail in
    let bytes = c.content.ensures history is.recording in
    let one : ◌≡◌ {A = List FileVersion} (record { node = record { pnode = c.args.file; version = c.version.result }; bytes = c.content.result.now } ∷ []) (version_of (session_of c.args.start.now 0) history c.args.file ∷ []) =
    λ i. record { node = record { pnode = c.args.file; version = version i }; bytes = bytes i } ∷ [] in
    subst (λ (l : List FileVersion). IsHalted g.A.Disk.view first (done ++ l) c.keep_next.new.old fault) one (stopped first done h)) c.keep_next.ensures.stopped
