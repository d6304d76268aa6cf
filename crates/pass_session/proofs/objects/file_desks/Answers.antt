use Rattle.std.proofs.Common.{◌≡◌, ◌+◌, List, ◌∷◌, [], length, drop, get_or, map, refl, ap, sym, ◌∙◌, arith}
use Rattle.std.specs.Prelude.{Some, slice_get, option_to_list}
use Rattle.std.specs.Vec.Iter.{into_iter_items}
use Rattle.std.proofs.lemmas.Grind.{drop_more_same}
use Rattle.std.proofs.lemmas.List.{length-append}
use Rattle.std.proofs.lemmas.Option.{slice_get_within}
use Rattle.pass_book.specs.Openings.{known_desk}
use Rattle.pass_plain.specs.declared.start.Start.{Start}
use Rattle.pass_plain.specs.declared.start.StartFile.{StartFile}
use Rattle.pass_plain.specs.Outlines.{outline}
use Rattle.pass_session.specs.Layouts.{file_view}
use Rattle.pass_session.proofs.Bared.{outlines-set, cleared-set, behind-set, written_over, same_length}
use Rattle.pass_session.proofs.Laying.{head, head_place, head_desk, head_file, files_end}
use Rattle.pass_session.proofs.objects.file_desks.Goals as goal

pub open_file-requires-clause-file : goal.open_file-requires-clause-file
open_file-requires-clause-file g c =
    let xs : List StartFile = c.loop-file.file-items in
    let ys : List StartFile = c.args.start.now.files.items in
    let i = c.loop-file.file-index in
    let d = c.file-item.result in
    let long = c.loop-file.auto.file-items in
    let test = c.loop-file-test.true in
    let top = head xs ys i d (omega (arith, test, long)) c.file-item.is c.loop-file.invariant.same in
    let len = c.len-number.ensures in
    let made = c.loop-file.made.ok.0 in
    let count = c.loop-file.invariant.count in
    let number : c.len-number.result ≡ i = omega (arith, len, made, count) in
    ap (λ (s : Start). slice_get s.files.items c.len-number.result) (sym c.requires.start) ∙ ap (slice_get ys) number ∙ head_place ys i d (drop (i + 1) ys) top ∙ ap (λ f. Some f) c.file-item.is

pub loop-file-preserved : goal.loop-file-preserved
loop-file-preserved g c =
    let xs : List StartFile = c.loop-file.file-items in
    let ys : List StartFile = c.args.start.now.files.items in
    let i = c.loop-file.file-index in
    let d = c.file-item.result in
    let k = c.loop-file.invariant in
    let long = c.loop-file.auto.file-items in
    let test = c.loop-file-test.true in
    let top = head xs ys i d (omega (arith, test, long)) c.file-item.is k.same in
    let len = c.len-number.ensures in
    let made = c.loop-file.made.ok.0 in
    let count = k.count in
    let number : c.len-number.result ≡ i = omega (arith, len, made, count) in
    let file = c.open_file.new.file in
    let opened = c.in_ok-open_file.ensures in
    let pushed = c.in_ok-push.ensures.items in
    let one = ap (λ o. length (option_to_list o)) c.in-Some.is in
    let went = c.next.ensures.len in
    let left = k.left in
    let grown = ap length pushed in
    let more = length-append c.loop-file.made.items (c.in_ok-open_file.field-0 ∷ []) in
    record {
      made = head_file ys i d c.loop-file.made.items c.push.new.self.items c.in_ok-open_file.field-0 top k.made pushed (opened.made ∙ ap (λ n. file_view n (get_or xs i d)) number ∙ ap (file_view i) (sym c.file-item.is));
      count = omega (arith, grown, more, count);
      desks = (head_desk (λ (f : StartFile). known_desk g.J.Whose.book f.node.pnode) (drop i ys) d (drop (i + 1) ys) (into_iter_items c.loop-file.desks) (into_iter_items c.next.new.self) c.next.result c.in-Some.desk
          top k.desks c.next.ensures.items c.in-Some.is).1;
      left = omega (arith, one, went, left);
      same = behind-set xs i file ∙ drop_more_same xs ys i k.same;
      outlines = outlines-set xs i file d opened.outline ∙ k.outlines;
      cleared = cleared-set xs i file opened.bare k.cleared;
    }

pub returns-clause-made : goal.returns-clause-made
returns-clause-made g c =
    let xs : List StartFile = c.loop-file.file-items in
    let ys : List StartFile = c.args.start.now.files.items in
    let past = c.loop-file-test.false in
    let auto = c.loop-file.auto.file-items in
    let long = same_length xs ys c.loop-file.invariant.outlines in
    files_end ys c.loop-file.file-index c.loop-file.made.items (omega (arith, past, auto, long)) c.loop-file.invariant.made

pub returns-clause-outline : goal.returns-clause-outline
returns-clause-outline g c =
    let xs : List StartFile = c.loop-file.file-items in
    let ys : List StartFile = c.args.start.now.files.items in
    let whole = written_over xs ys c.args.start.now.files.len c.args.start.now.files.ok.0 (same_length xs ys c.loop-file.invariant.outlines) in
    record { ceiling = refl; files = ap (map outline) whole ∙ c.loop-file.invariant.outlines; apps = refl }

pub returns-clause-bare : goal.returns-clause-bare
returns-clause-bare g c = λ i file at.
    let xs : List StartFile = c.loop-file.file-items in
    let ys : List StartFile = c.args.start.now.files.items in
    let whole = written_over xs ys c.args.start.now.files.len c.args.start.now.files.ok.0 (same_length xs ys c.loop-file.invariant.outlines) in
    let there : slice_get xs i ≡ Some file = ap (λ (l : List StartFile). slice_get l i) (sym whole) ∙ at in
    let within = slice_get_within xs i file there in
    let past = c.loop-file-test.false in
    let auto = c.loop-file.auto.file-items in
    c.loop-file.invariant.cleared i file (omega (arith, within, past, auto)) there
