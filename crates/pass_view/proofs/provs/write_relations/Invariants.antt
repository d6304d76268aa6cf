use Rattle.std.proofs.Common.{drop}
use Rattle.pass_view.specs.Provs.{related, tokens_of}
use Rattle.pass_view.specs.declared.picture.Link.{Link}
use Rattle.pass_view.proofs.Adding.{Comes}
use Rattle.pass_view.proofs.provs.write_relations.Given as goal

abbrev pub invariant-loop-link : goal.invariant-loop-link
invariant-loop-link l = Comes (λ (s : Link). tokens_of (related l.relation s)) l.initial.out l.edges l.out (drop l.link-index l.edges)
