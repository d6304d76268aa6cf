use Rattle.std.proofs.Common.{◌∙◌, ℕ, List, sym, ap}
use Rattle.pass_leaf.specs.Contents.{laid, last_content}
use Rattle.pass_prune.proofs.walking.take_next.Goals as goal

pub returns-clause-content : goal.returns-clause-content
returns-clause-content c = λ all past more next are.
    c.in_ok-lay.ensures ∙ ap (λ (l : List ℕ). laid l c.args.leaf.now) (c.take_last-content.ensures.content all past more c.args.leaf.now (sym c.file_of.ensures) next are ∙ ap (last_content past) c.file_of.ensures)
