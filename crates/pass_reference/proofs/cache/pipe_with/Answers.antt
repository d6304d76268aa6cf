use Rattle.pass_entry.specs.declared.entry.Entry.{Entry}
use Rattle.pass_reference.proofs.States.{pipe_next}
use Rattle.pass_reference.proofs.cache.pipe_with.Goals as goal

pub returns-clause-pipe : goal.returns-clause-pipe
returns-clause-pipe c =
    let e : Entry = c.args.e.now in
    pipe_next c.args.history.now e e.what c.in_ok-pipe.pipe c.follow.new.self c.in_ok-pipe.ensures.pipe c.in_ok-follow.ensures.ok c.in_ok-follow.ensures.readers c.in_ok-follow.ensures.writers
