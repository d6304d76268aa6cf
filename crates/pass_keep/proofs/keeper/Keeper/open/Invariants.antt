use Rattle.pass_keep.proofs.keeper.Keeper.open.Given as goal

abbrev pub ghost-begin : goal.ghost-begin
ghost-begin g a = g.story
