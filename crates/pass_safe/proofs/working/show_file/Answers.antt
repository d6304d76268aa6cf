use Rattle.std.proofs.Common.{ap, sym, ◌∙◌, arith, length}
use Rattle.pass_book.specs.Tokens.{NoteState}
use Rattle.pass_book.proofs.Prefixes.{prefix_length}
use Rattle.pass_file.specs.Desks.{FileDeskView}
use Rattle.pass_safe.proofs.Fitting.{met_shorter}
use Rattle.pass_safe.proofs.Lent.{met_back}
use Rattle.pass_safe.proofs.working.show_file.Goals as goal

pub back-requires-clause-seen : goal.back-requires-clause-seen
back-requires-clause-seen g c =
    let f = c.lend-lent.result.0 in
    let d = c.lend-lent.result.1 in
    let e = c.lend-lent.ensures in
    let n = c.note-told.result in
    met_back f d n.seen n.syncs c.meet.new.self.seen c.meet.new.self.syncs (ap (λ (v : FileDeskView). v.what) e.file ∙ sym e.desk.1) (ap (λ (v : FileDeskView). v.seen) e.file ∙ sym e.desk.2) c.meet.ensures.met

pub returns-clause-file : goal.returns-clause-file
returns-clause-file g c =
    let e = c.lend-lent.ensures in
    let n = c.note-told.result in
    let note = ap (λ (n : NoteState). n.seen) c.note-told.ensures.note in
    let low = c.requires.below in
    let within = c.durable-durable.ensures.within in
    let mine = ap length e.desk.2 in
    let theirs = ap length note in
    let seen = met_shorter c.lend-lent.result.1.seen n.seen c.meet.new.self.seen (omega (arith, low, within, mine, theirs)) c.meet.ensures.met.told c.meet.ensures.met.history ∙ note in
    let list = ap (λ (v : FileDeskView). v.syncs) c.back.ensures in
    c.back.ensures ∙ (λ i. record { what = (e.file i).what; number = (e.file i).number; seen = seen i; syncs = sym list i; spare = (e.file i).spare; room = (e.file i).room })

pub returns-clause-list : goal.returns-clause-list
returns-clause-list g c = λ begins.
    let e = c.lend-lent.ensures in
    let n = c.note-told.result in
    let note = ap (λ (n : NoteState). n.syncs) c.note-told.ensures.note in
    let low = prefix_length c.args.file.syncs c.args.vault.now.syncs begins in
    let mine = ap length e.desk.3 in
    let theirs = ap length note in
    ap (λ (v : FileDeskView). v.syncs) c.back.ensures
    ∙ met_shorter c.lend-lent.result.1.syncs n.syncs c.meet.new.self.syncs (omega (arith, low, mine, theirs)) c.meet.ensures.met.told_listed c.meet.ensures.met.list ∙ note
