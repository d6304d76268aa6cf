use Rattle.std.proofs.Common.{drop}
use Rattle.json.specs.Tree.{json_tokens}
use Rattle.pass_files.specs.Texts.{told_object}
use Rattle.pass_files.specs.declared.told.Told.{Told}
use Rattle.pass_view.proofs.Adding.{Comes}
use Rattle.pass_files.proofs.output.write_all.Given as goal

abbrev pub invariant-loop-told : goal.invariant-loop-told
invariant-loop-told l = Comes (λ (t : Told). json_tokens (told_object t)) l.initial.out l.all l.out (drop l.told-index l.all)
