use Rattle.std.proofs.Common.{◌<◌, arith}
use Rattle.std.specs.HashSet.{spare}
use Rattle.std.proofs.lemmas.Result.{err_from_is_err_and}
use Rattle.pass_graph.proofs.Adding.{input_added, sources_reserved}
use Rattle.pass_graph.proofs.logged.Logged.add_input.Goals as goal
use Rattle.pass_entry.proofs.Variants.{on_ok}

pub returns-in_err-insert-clause-err : goal.returns-in_err-insert-clause-err
returns-in_err-insert-clause-err c =
    let p = err_from_is_err_and c.from_residual-in_err-insert.result c.from_residual-in_err-insert.ensures.1 in
    rw p.1 (λ list s. sources_reserved c.args.self.now list s c.reserve.new.self c.insert.new.self c.reserve.ensures.keys.2 c.in_err-insert.ensures.err)

pub returns-clause-ok : goal.returns-clause-ok
returns-clause-ok c = λ list s fine.
    let room : 0 < spare c.reserve.new.self = omega (arith, c.in_ok-reserve.ensures.ok) in
    let put = on_ok c.insert-2.result (c.insert-2.ensures.succeeds room) c.insert-2.ensures.updates in
    input_added c.args.self.now list s c.args.target.now c.args.source.now c.reserve.new.self c.insert-2.new.self c.insert.new.self
    c.reserve.ensures.keys.2 put.0 c.in_ok-insert.ensures.updates.0
