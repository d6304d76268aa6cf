use Rattle.std.proofs.Common.{◌≡◌, ap, sym, ◌∙◌, subst}
use Rattle.pass_entry.specs.declared.entry.Entry.{Entry}
use Rattle.pass_plain.specs.Files.{file_act, file_after}
use Rattle.pass_book.specs.Numbers.{IsFileNumber}
use Rattle.pass_book.specs.Tokens.{DeskState}
use Rattle.pass_flow.specs.Entering.{IsVersioned, rest_records}
use Rattle.pass_file.specs.Desks.{IsFileAfter, FileDeskView, versions_of}
use Rattle.pass_file.specs.FileViews.{FileView}
use Rattle.pass_file.proofs.Dirtier.{file_now, number_entered}
use Rattle.pass_file.proofs.desk.FileDesk.enter.Goals as goal

pub enter_version-requires-clause-object : goal.enter_version-requires-clause-object
enter_version-requires-clause-object g c =
    subst (λ (f : FileView). IsVersioned g.J.Whose.book c.self.inside.desk (versions_of f)) (sym c.turn.ensures.state) c.self.invariant.version

pub enter_version-requires-clause-rest : goal.enter_version-requires-clause-rest
enter_version-requires-clause-rest g c = subst (λ (v : FileDeskView). c.args.rest.items ≡ rest_records g.J.Whose.book.session v.seen c.args.entry) (sym c.self.view_is) c.requires.rest

pub invariant_of-self : goal.invariant_of-self
invariant_of-self g c =
    let S = g.J.Whose.book.session in
    let old = c.self.inside.desk in
    let now = c.enter_version.new.desk in
    let e : Entry = c.args.entry in
    let f : FileView = c.self.inside.state in
    let n = c.enter_version.ensures in
    let i = c.self.invariant in
    let same : e.what ≡ old.what = c.requires.what ∙ sym (ap (λ (v : FileDeskView). v.what) c.self.view_is) in
    let was = subst (λ o. IsFileAfter S old.seen old.syncs o f) (sym same) i.content in
    let d : now ≡ record old { seen = c.enter_version.new.caller.seen; syncs = c.enter_version.new.caller.syncs } = n.desk in
    let t = c.turn.ensures in
    let g1 : FileView = c.turn.new.state in
    let last : FileView = c.enter_version.new.state in
    let turned = file_now S c.args.caller.now.seen old.seen c.enter_version.new.caller.seen e n.entry.entered old.syncs c.enter_version.new.caller.syncs n.listed n.rising n.durable c.requires.fine f g1 was
    (ap (λ (f : FileView). f.bytes) t.state) t.rows t.dirty in
    record {
      version = n.object;
      content = subst (λ o. IsFileAfter S now.seen now.syncs o last) (same ∙ sym (ap (λ (d : DeskState). d.what) d))
          (subst (λ (d : DeskState). IsFileAfter S d.seen d.syncs e.what last) (sym d)
          (subst (λ (f : FileView). IsFileAfter S c.enter_version.new.caller.seen c.enter_version.new.caller.syncs e.what f) (sym n.state)
          (record { bytes = turned.bytes; rows = turned.rows; dirty = turned.dirty })));
      number = subst (λ (d : DeskState). IsFileNumber S d.seen d.what c.self.inside.number) (sym d)
          (number_entered S c.args.caller.now.seen old.seen c.enter_version.new.caller.seen e old.what c.self.inside.number n.entry.entered i.number);
    }

pub returns-clause-content : goal.returns-clause-content
returns-clause-content g c =
    let S = g.J.Whose.book.session in
    let old : DeskState = c.self.inside.desk in
    let e : Entry = c.args.entry in
    let f : FileView = c.self.inside.state in
    let n = c.enter_version.ensures in
    let t = c.turn.ensures in
    let h = c.enter_version.new.caller.seen in
    let same : e.what ≡ old.what = c.requires.what ∙ sym (ap (λ (v : FileDeskView). v.what) c.self.view_is) in
    let was = subst (λ o. IsFileAfter S old.seen old.syncs o f) (sym same) c.self.invariant.content in
    let turned = file_now S c.args.caller.now.seen old.seen h e n.entry.entered old.syncs c.enter_version.new.caller.syncs n.listed n.rising n.durable c.requires.fine f c.turn.new.state was
    (ap (λ (f : FileView). f.bytes) t.state) t.rows t.dirty in
    let moved : file_after S h e.what ≡ file_act (file_after S old.seen e.what) e.act =
    sym turned.bytes ∙ ap (λ (f : FileView). f.bytes) t.state ∙ ap (λ bytes. file_act bytes e.act) was.bytes in
    subst (λ (v : FileDeskView). file_after S c.enter_version.new.desk.seen c.enter_version.new.desk.what ≡ file_act (file_after S v.seen v.what) e.act) c.self.view_is
    (subst (λ (d : DeskState). file_after S d.seen d.what ≡ file_act (file_after S old.seen old.what) e.act) (sym n.desk)
    (subst (λ o. file_after S h o ≡ file_act (file_after S old.seen o) e.act) same moved))
