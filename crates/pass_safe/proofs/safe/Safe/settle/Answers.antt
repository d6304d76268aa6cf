use Rattle.std.proofs.Common.{subst}
use Rattle.std.specs.Prelude.{IfOk, IsSome, OnOk, ◌↔◌}
use mathlib.Core.List.{IsPrefix}
use Rattle.pass_safe.specs.Safes.{SafeView}
use Rattle.pass_safe.specs.Settled.{HasUnwritten, IsClean}
use Rattle.pass_safe.proofs.safe.Safe.settle.Goals as goal

pub returns-clause-dirty : goal.returns-clause-dirty
returns-clause-dirty g c =
    let step = c.settle_file-file in
    subst (λ (s : SafeView _). IfOk step.result.1 (λ r. IsSome r ↔ HasUnwritten g.J.Whose.book.session c.args.file s.vault)) c.self.view_is step.ensures.dirty

pub returns-clause-clean : goal.returns-clause-clean
returns-clause-clean g c =
    let step = c.settle_file-file in
    subst (λ (s : SafeView _). OnOk step.result.1 (IsPrefix c.args.file.syncs s.vault.syncs → IsClean g.J.Whose.book.session step.new.vault.seen step.new.vault.syncs c.args.file.what)) c.self.view_is step.ensures.clean
