use Rattle.std.proofs.Common.{◌∙◌, sym}
use Rattle.pass_file.proofs.Members.{among_by_place}
use Rattle.pass_file.proofs.set.is_there.Goals as goal

pub returns-clause-among : goal.returns-clause-among
returns-clause-among c = c.stands_at.ensures ∙ sym (among_by_place c.args.blocks.now c.requires.rising c.args.block c.args.place c.requires.place)
