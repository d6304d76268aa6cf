use Rattle.std.proofs.Common.{◌∙◌}
use Rattle.std.proofs.lemmas.Result.{err_from_is_err_and}
use Rattle.pass_graph.proofs.Adding.{name_held, name_added}
use Rattle.pass_graph.proofs.logged.Logged.add_name.Goals as goal

pub returns-clause-ok : goal.returns-clause-ok
returns-clause-ok c = λ list s fine.
    name_added c.args.self.now list s c.args.pnode c.args.name.now fine c.insert.new.self c.in_ok-key.key (c.in_ok-key.ensures.items ∙ c.as_bytes.ensures.bytes) c.in_ok-insert.ensures.updates
    c.insert-2.new.self c.in_ok-own.own c.in_ok-own.ensures.cases c.in_ok-insert-2.ensures.updates.0

pub returns-in_err-insert-2-clause-err : goal.returns-in_err-insert-2-clause-err
returns-in_err-insert-2-clause-err c =
    let p = err_from_is_err_and c.from_residual-in_err-insert-2.result c.from_residual-in_err-insert-2.ensures.1 in
    rw p.1 (λ list s fine. name_held c.args.self.now list s c.args.pnode c.args.name.now fine c.insert.new.self c.in_ok-key.key (c.in_ok-key.ensures.items ∙ c.as_bytes.ensures.bytes) c.in_ok-insert.ensures.updates
    c.insert-2.new.self c.in_err-insert-2.ensures.err)
