use Rattle.std.proofs.Common.{◌++◌, ℕ, List, map, refl, ◌∙◌, subst}
use Rattle.std.proofs.lemmas.Result.{on_ok_weaker}
use Rattle.pass_plain.specs.Legal.{session_of}
use Rattle.pass_leaf.specs.declared.fault.OldFault.TheVariants as faults
use Rattle.pass_past.specs.Pasts.{version_of, current_versions}
use Rattle.pass_past.specs.Keepings.{IsKeeping, IsHalted}
use Rattle.pass_past.proofs.Goings.{kept_stops, begins_more, err_weaker}
use Rattle.pass_past.proofs.phases.keep_current.Goals as goal

pub returns-in-Err-clause-stopped : goal.returns-in-Err-clause-stopped
returns-in-Err-clause-stopped g c = λ first done history is h.
    kept_stops g.A.Disk.view first done (done ++ current_versions (session_of c.args.start.now 0) history) c.args.old.now faults.NoMemory h (begins_more done (current_versions (session_of c.args.start.now 0) history)) refl

pub returns-clause-kept : goal.returns-clause-kept
returns-clause-kept g c = on_ok_weaker c.keep_files.result (λ kept. λ first done history is h.
    let files = c.deref.ensures.value ∙ c.in-Ok.ensures ∙ is.files in
    subst (λ (l : List ℕ). IsKeeping g.A.Disk.view first (done ++ map (version_of (session_of c.args.start.now 0) history) l) c.keep_files.new.old) files (kept first done history is h)) c.keep_files.ensures.kept

pub returns-clause-stopped : goal.returns-clause-stopped
returns-clause-stopped g c = err_weaker c.keep_files.result _ _ (λ fault stopped. λ first done history is h.
    let files = c.deref.ensures.value ∙ c.in-Ok.ensures ∙ is.files in
    subst (λ (l : List ℕ). IsHalted g.A.Disk.view first (done ++ map (version_of (session_of c.args.start.now 0) history) l) c.keep_files.new.old fault) files (stopped first done history is h)) c.keep_files.ensures.stopped
