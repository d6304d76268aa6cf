use Rattle.std.proofs.Common.{◌-◌, length, ap, sym, ◌∙◌, arith}
use Rattle.pass_book.specs.Openings.{opening_desks}
use Rattle.pass_plain.specs.Sessions.{Session}
use Rattle.pass_registry.specs.States.{opened}
use Rattle.pass_session.proofs.Parted.{desks_are, desks_length, fresh_book}
use Rattle.pass_session.proofs.ground.Ground.new.Goals as goal

pub parted-requires : goal.parted-requires
parted-requires c =
    let start = c.args.start.now in
    let long = desks_length c.in_ok-book.book.book start c.args.objects in
    let same = ap length c.in_ok-book.ensures.desks in
    let some = c.requires.sound.some in
    omega (arith, long, same, some)

pub returns-clause-ground : goal.returns-clause-ground
returns-clause-ground c =
    let start = c.args.start.now in
    let book = c.in_ok-book.book.book in
    let session = c.in_ok-book.ensures.session in
    let some = c.requires.sound.some in
    record {
      book = fresh_book c.in_ok-book.book c.args.entries c.in_ok-book.ensures.book;
      desks = desks_are book c.in_ok-desks.desks c.in_ok-book.desks.items (c.args.objects - 1) (ap (λ (s : Session). s.objects) session ∙ omega (arith, some))
          (c.in_ok-book.ensures.desks ∙ ap (λ (s : Session). opening_desks book s.start s.objects) (sym session)) c.in_ok-desks.ensures.whole
          (c.in_ok-desks.ensures.files ∙ ap (λ (s : Session). length s.start.files.items) (sym session))
          (c.in_ok-desks.ensures.apps ∙ ap (λ (s : Session). length s.start.apps.items) (sym session));
      registry = c.in_ok-registry.ensures ∙ ap (λ (s : Session). opened s.start s.objects) (sym session);
      slip = (c.in_ok-slip.ensures.items, (let one = c.in_ok-slip.ensures.exact in omega (arith, one)));
    }
