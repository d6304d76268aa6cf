use Rattle.std.proofs.Common.{sym, ◌∙◌}
use Rattle.pass_entry.specs.declared.entry.Entry.{Entry}
use Rattle.pass_reference.proofs.Caching.{changes_then, pipes_left, pipes_changed, pipe_kept, pipe_lost}
use Rattle.pass_reference.proofs.cache.note_pipe.Goals as goal

pub returns-in-Ok : goal.returns-in-Ok
returns-in-Ok c =
    let history = c.args.history.now in
    let e : Entry = c.args.e.now in
    pipes_changed history e c.args.kept.now c.keep.new.self
    (changes_then e.what c.args.kept.now c.pipe_with.new.kept c.keep.new.self c.in-Ok.ensures.at c.keep.ensures.at) c.requires
    (pipe_kept history e c.keep.new.self c.in-Ok.pipe c.in-Ok.ensures.pipe c.keep.ensures.here)

pub returns-in-Err : goal.returns-in-Err
returns-in-Err c =
    let history = c.args.history.now in
    let e : Entry = c.args.e.now in
    pipes_changed history e c.args.kept.now c.lose.new.self
    (changes_then e.what c.args.kept.now c.pipe_with.new.kept c.lose.new.self c.in-Err.ensures.at c.lose.ensures.at) c.requires
    (pipe_lost history e c.lose.new.self c.lose.ensures.here c.lose.ensures.whole)

pub returns-else-is_pipe_change : goal.returns-else-is_pipe_change
returns-else-is_pipe_change c =
    pipes_left c.args.history.now c.args.e.now c.args.kept.now (sym c.is_pipe_change.ensures ∙ c.if-is_pipe_change.false) c.requires
