use Rattle.std.proofs.Common.{◌≡◌, true, false, ◌||◌, ◌∙◌, sym, ap}
use Rattle.std.specs.List.{list_any}
use Rattle.pass_plain.specs.Versions.{same_node}
use Rattle.pass_plain.specs.WellLogged.{has_source}
use Rattle.pass_graph.proofs.logged.Logged.is_source.Goals as goal

pub returns-then-contains : goal.returns-then-contains
returns-then-contains c = λ list s.
    let known : list_any (has_source c.args.target.now) list ≡ true = sym (s.sources c.args.target.now) ∙ sym c.contains.ensures ∙ c.if-contains.true in
    c.if-contains.true ∙ sym (ap (λ b. b || same_node c.args.target.now c.args.source.now) known)

pub returns-else-contains : goal.returns-else-contains
returns-else-contains c = λ list s.
    let known : list_any (has_source c.args.target.now) list ≡ false = sym (s.sources c.args.target.now) ∙ sym c.contains.ensures ∙ c.if-contains.false in
    c.eq.ensures ∙ sym (ap (λ b. b || same_node c.args.target.now c.args.source.now) known)
