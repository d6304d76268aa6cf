use Rattle.pass_graph.proofs.logged.Logged.add.Goals as goal

pub returns-in-Object-clause-ok : goal.returns-in-Object-clause-ok
returns-in-Object-clause-ok c = rw (c.in-Object.is, ← c.pnode.view_is) c.add_object.ensures.ok

pub returns-in-Name-clause-ok : goal.returns-in-Name-clause-ok
returns-in-Name-clause-ok c = rw (c.in-Name.is, ← c.pnode-in-Name.view_is) c.add_name.ensures.ok

pub returns-in-Name-clause-err : goal.returns-in-Name-clause-err
returns-in-Name-clause-err c = rw (c.in-Name.is, ← c.pnode-in-Name.view_is) c.add_name.ensures.err

pub returns-in-Input-clause-ok : goal.returns-in-Input-clause-ok
returns-in-Input-clause-ok c = rw c.in-Input.is c.add_input.ensures.ok
