use Rattle.std.proofs.Common.{◌∙◌, [], ℕ, List, ap}
use Rattle.std.specs.Prelude.{fold, flat_map}
use Rattle.std.specs.Ordering.{nat_cmp}
use Rattle.std.specs.BTreeSet.{insert_key}
use Rattle.pass_past.specs.Pasts.{file_number, file_numbers}
use Rattle.pass_past.proofs.contents.opened_files.Goals as goal

pub returns : goal.returns
returns c = λ start recorded.
    c.in_ok-add_files.ensures ∙ ap (λ (l : List ℕ). fold (insert_key nat_cmp) l (flat_map file_number c.objects.result.now)) c.new-files.ensures.empty
    ∙ ap file_numbers (c.objects.ensures start [] recorded)
