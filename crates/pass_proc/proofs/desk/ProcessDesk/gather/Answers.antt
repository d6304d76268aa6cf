use Rattle.std.proofs.Common.{◌≡◌, ◌≤◌, refl, subst, Bool, true, false}
use Rattle.std.specs.Prelude.{None, not}
use Rattle.std.specs.FinSet.{len, contains}
use Rattle.pass_entry.specs.declared.entry.CallFault.TheVariants as fault
use Rattle.pass_plain.specs.Processes.{faults_if}
use Rattle.pass_proc.specs.Views.{ProcessView}
use Rattle.pass_proc.proofs.Takings.{removed_low}
use Rattle.pass_proc.proofs.desk.ProcessDesk.gather.Goals as goal

stands : (b : Bool) → faults_if (not b) fault.NoChild None ≡ None → b ≡ true
stands true is = refl
stands false is = absurd (cc)

pub enter_taking-requires-clause-sources : goal.enter_taking-requires-clause-sources
enter_taking-requires-clause-sources g c =
    let sources = c.self.invariant.2.sources in
    let child = stands (contains c.args.self.now.state.children c.args.child) c.requires.child in
    removed_low c.args.self.now.state.children c.args.child c.args.self.now.spare child (subst (λ (p : ProcessView). len p.state.children ≤ p.spare) c.self.view_is sources)
