use Rattle.std.proofs.Common.{◌≡◌, ◌∙◌, false, sym, ap}
use Rattle.std.specs.Prelude.{is_some}
use Rattle.std.specs.HashMap.{get}
use Rattle.pass_plain.specs.Versions.{same_node}
use Rattle.pass_files.specs.Data.{first_look}
use Rattle.pass_files.proofs.Rows.{first_put}
use Rattle.pass_files.proofs.flows.note_first.Goals as goal

pub returns-in_ok-insert : goal.returns-in_ok-insert
returns-in_ok-insert c = λ n.
    let absent : is_some (get same_node c.args.firsts.now c.in-Input.target) ≡ false = sym c.contains_key.ensures ∙ c.if-not-contains_key.true in
    c.in_ok-insert.ensures.updates.0 n ∙ first_put (get same_node c.args.firsts.now) c.in-Input.target c.in-Input.source n absent
    ∙ ap (first_look n (get same_node c.args.firsts.now n)) (sym c.in-Input.is)
