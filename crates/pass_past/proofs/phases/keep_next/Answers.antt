use Rattle.std.proofs.Common.{refl, ◌++◌, ◌∷◌, []}
use Rattle.pass_leaf.specs.declared.fault.OldFault.TheVariants as faults
use Rattle.pass_leaf.specs.Keeping.{FileVersion}
use Rattle.pass_past.proofs.Goings.{one_kept, one_stopped, kept_stops, begins_more}
use Rattle.pass_past.proofs.phases.keep_next.Goals as goal

pub returns-then-not-may_be_kept-clause-stopped : goal.returns-then-not-may_be_kept-clause-stopped
returns-then-not-may_be_kept-clause-stopped g c = λ first done h.
    let v : FileVersion = record { node = c.args.node; bytes = c.args.bytes.now } in
    kept_stops g.A.Disk.view first done (done ++ v ∷ []) c.args.old.now faults.NoMemory h (begins_more done (v ∷ [])) refl

pub returns-in-Ok-clause-kept : goal.returns-in-Ok-clause-kept
returns-in-Ok-clause-kept g c = λ first done h.
    one_kept g.A.Disk.view first done c.args.old.now c.keep.new.self (record { node = c.args.node; bytes = c.args.bytes.now }) c.in-Ok._kept h c.in-Ok.ensures.moved

pub returns-in-Err-clause-stopped : goal.returns-in-Err-clause-stopped
returns-in-Err-clause-stopped g c = λ first done h.
    let e = c.in-Err.ensures in
    one_stopped g.A.Disk.view first done c.args.old.now c.keep.new.self (record { node = c.args.node; bytes = c.args.bytes.now }) c.in-Err.fault h e.moved (e.unbroken h.healthy)
