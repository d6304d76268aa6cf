use Rattle.std.proofs.Common.{sym, ◌∙◌}
use Rattle.pass_reference.proofs.Caching.{registry_other}
use Rattle.pass_reference.proofs.cache.note_registry.Goals as goal

pub returns-else-is_own : goal.returns-else-is_own
returns-else-is_own c = registry_other c.args.start.now c.args.history.now c.args.e.now c.args.kept.now (sym c.is_own.ensures ∙ c.if-is_own.false) c.requires
