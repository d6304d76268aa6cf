use Rattle.std.proofs.Common.{◌≡◌, ◌≤◌, ap, sym, subst, arith, length}
use Rattle.std.specs.Prelude.{IfOk}
use Rattle.std.proofs.lemmas.Result.{IfOk-weaker}
use Rattle.pass_book.proofs.Prefixes.{prefix_length}
use Rattle.pass_vault.specs.declared.vault.Receipt.{Receipt}
use Rattle.pass_file.specs.Desks.{FileDeskView}
use Rattle.pass_safe.specs.Syncings.{IsFileSaved}
use Rattle.pass_safe.specs.declared.saving.Saved.{Saved}
use Rattle.pass_safe.proofs.saving.share.Goals as goal

pub returns-clause-of_file : goal.returns-clause-of_file
returns-clause-of_file g c =
    subst (λ (f : FileDeskView). IfOk c.save.result.1 (λ (s : Saved). IsFileSaved f.what f.number s)) (sym c.save.ensures.file) c.save.ensures.of_file

pub returns-clause-entries : goal.returns-clause-entries
returns-clause-entries g c =
    let longer = prefix_length c.args.file.seen c.show-file.result.seen c.show-file.ensures.begins in
    IfOk-weaker c.save.result.1 (λ (s : Saved). s.receipt ≡ record { calls = (g.D.Disk.view c.save.new.safe.vault.disk).calls; entries = length c.show-file.result.seen }) (λ (s : Saved). length c.args.file.seen ≤ s.receipt.entries) (λ s same. let all = ap (λ (r : Receipt). r.entries) same in omega (arith, all, longer)) c.save.ensures.receipt
