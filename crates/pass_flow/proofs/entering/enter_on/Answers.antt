use Rattle.std.proofs.Common.{ap, sym, ◌∙◌, subst}
use Rattle.std.specs.Prelude.{Some}
use Rattle.pass_entry.specs.declared.objects.Node.{Node}
use Rattle.pass_plain.specs.Legal.{IsLegal}
use Rattle.pass_plain.specs.Sound.{IsSound}
use Rattle.pass_book.specs.Tokens.{BookId}
use Rattle.pass_flow.proofs.Versioning.{version_low, slip_is, versioned_after, node_at, no_finish, no_birth, no_kept}
use Rattle.pass_flow.proofs.entering.enter_on.Goals as goal

pub slip_by-slip-requires-clause-version : goal.slip_by-slip-requires-clause-version
slip_by-slip-requires-clause-version g c =
    let book = c.requires.object.of_book in
    version_low g.J.Whose.book c.args.desk.now c.args.versions.now c.requires.object
    (subst (λ (b : BookId). IsSound b.session) book c.seen.ensures.sound) (subst (λ (b : BookId). IsLegal b.session c.args.desk.now.seen) book c.seen.ensures.legal)

pub enter-place-requires-clause-last : goal.enter-place-requires-clause-last
enter-place-requires-clause-last g c = no_finish c.args.entry.act c.requires.act

pub enter-place-requires-clause-born : goal.enter-place-requires-clause-born
enter-place-requires-clause-born g c = no_birth c.args.entry.act c.requires.act

pub enter-place-requires-clause-kept : goal.enter-place-requires-clause-kept
enter-place-requires-clause-kept g c = λ fd p k at stands who number act. absurd (no_kept c.args.entry.act c.requires.act fd at)

pub enter-place-requires-clause-slip : goal.enter-place-requires-clause-slip
enter-place-requires-clause-slip g c =
    c.slip_by-slip.ensures.slip
    ∙ slip_is g.J.Whose.book c.args.caller.now.seen c.args.desk.now c.args.versions.now c.args.entry c.args.source c.requires.object c.requires.what c.requires.act c.requires.source c.requires.given c.args.rest.items c.requires.rest

pub returns-clause-at : goal.returns-clause-at
returns-clause-at g c = record {
  place = c.enter-place.ensures.place;
  node = node_at g.J.Whose.book c.args.caller.now.seen c.args.desk.now c.args.versions.now c.args.entry c.args.source c.requires.object c.requires.what c.requires.act c.requires.source c.requires.given
      c.enter-place.new.self.seen c.enter-place.ensures.entry.entered c.slip_by-slip.new.versions c.slip_by-slip.ensures.lineage c.enter-place.result c.enter-place.ensures.place
      ∙ ap (λ (n : Node). Some n) (sym c.current.ensures);
}

pub returns-clause-object : goal.returns-clause-object
returns-clause-object g c =
    versioned_after g.J.Whose.book c.args.caller.now.seen c.args.desk.now c.args.versions.now c.args.entry c.args.source c.requires.object c.requires.what c.requires.act c.requires.source c.requires.given
    c.enter-place.new.self.seen c.enter-place.ensures.entry.entered c.slip_by-slip.new.versions c.slip_by-slip.ensures.lineage c.enter-place.new.desk c.enter-place.new.self.syncs c.enter-place.ensures.desk c.enter-place.ensures.entry.few
