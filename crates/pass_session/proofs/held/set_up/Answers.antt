use Rattle.std.proofs.Common.{ap, ◌∙◌}
use Rattle.pass_book.specs.Tokens.{BookId}
use Rattle.pass_registry.specs.States.{opened}
use Rattle.pass_session.proofs.held.set_up.Goals as goal

pub begin-begun-requires-clause-registry : goal.begin-begun-requires-clause-registry
begin-begun-requires-clause-registry g c = c.requires.ground.registry ∙ ap (λ (b : BookId). opened b.session.start b.session.objects) c.requires.book.0
