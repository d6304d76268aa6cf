use Rattle.pass_plain.specs.declared.records.Recording.{Recording}
use Rattle.pass_plain.proofs.Walking.{recorded}
use Rattle.pass_plain.proofs.records.Recording.note.Goals as goal

pub returns : goal.returns
returns c =
    let s : Recording = record { registry = c.follow.new.self; files = c.add_entry.new.files; list = c.add_entry.new.list } in
    recorded c.args.start.now c.args.history.now c.args.e.now c.args.self.now s c.requires.recording c.in_ok-follow.ensures.ok c.in_ok-follow.ensures.made
    c.in_ok-add_entry.ensures.files c.in_ok-add_entry.ensures.list
