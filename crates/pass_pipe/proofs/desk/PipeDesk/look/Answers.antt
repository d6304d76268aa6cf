use Rattle.std.proofs.Common.{ap, sym, ◌∙◌, arith, ◌≤◌, ◌^◌, length}
use Rattle.pass_plain.specs.Pipes.{pipe_after}
use Rattle.pass_book.specs.Tokens.{DeskState}
use Rattle.pass_flow.specs.Flows.{ObjectView}
use Rattle.pass_flow.proofs.Seeing.{versioned_seen}
use Rattle.pass_pipe.proofs.Piping.{pipe_seen}
use Rattle.pass_pipe.proofs.desk.PipeDesk.look.Goals as goal

pub invariant_of-self : goal.invariant_of-self
invariant_of-self g c =
    let d = c.self.inside.desk in
    let n = c.show.ensures in
    let h = c.args.shelf.now.history in
    let few : length h ≤ 2 ^ 32 = let z = n.few in omega (arith, z) in (
      versioned_seen g.J.Whose.book d c.show.new.desk c.self.inside.versions h c.show.new.self.syncs c.self.invariant.0 n.object.0 n.object.1 n.legal few n.desk,
      c.self.invariant.1 ∙ sym (pipe_seen d.seen h d.what n.object.0 n.object.1) ∙ sym (ap (λ (d : DeskState). pipe_after d.seen d.what) n.desk),
    )

pub returns-clause-same : goal.returns-clause-same
returns-clause-same g c =
    let d = c.self.inside.desk in
    let n = c.show.ensures in
    ap (λ (d : DeskState). pipe_after d.seen d.what) n.desk ∙ pipe_seen d.seen c.args.shelf.now.history d.what n.object.0 n.object.1
    ∙ ap (λ (v : ObjectView). pipe_after v.seen v.what) c.self.view_is
