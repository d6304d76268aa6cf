use Rattle.std.proofs.Common.{ℕ, ◌≡◌, ◌∙◌, ◌+◌, ◌++◌, ◌∷◌, [], List, length, take, ap, sym, refl, arith}
use Rattle.std.proofs.lemmas.Option.{slice_get_read}
use Rattle.pass_entry.specs.declared.record.Record.{Record}
use Rattle.pass_plain.proofs.Replays.{take-next}
use Rattle.std.specs.Prelude.{Option}
use Rattle.std.specs.Ordering.{nat_cmp}
use Rattle.std.specs.BTreeMap.{get}
use Rattle.pass_range.specs.declared.table.TableFile.{TableFile}
use Rattle.pass_range.specs.Rows.{files_of}
use Rattle.pass_range.specs.Tables.{file_of, file_look, file_more}
use Rattle.pass_range.proofs.Numbers.{quiet, few_files, files-more, file_of-next}
use Rattle.pass_range.proofs.Logged.{unflawed_at, logged_take}
use Rattle.pass_range.proofs.table.files_of.Goals as goal

pub note_file-requires : goal.note_file-requires
note_file-requires c =
    omega (arith, c.loop-one.invariant.len, few_files (take c.loop-one.one-index c.args.list.now) (logged_take c.args.list.now c.requires c.loop-one.one-index))

pub loop-one-preserved : goal.loop-one-preserved
loop-one-preserved c =
    let list = c.args.list.now in
    let i = c.loop-one.one-index in
    let r = c.one-item.result in
    let inv = c.loop-one.invariant in
    let e = c.in_ok-note_file.ensures in
    let more : take (i + 1) list ≡ take i list ++ r ∷ [] = take-next list i r c.loop-one-test.true c.one-item.is in
    let calm = quiet (take i list) (logged_take list c.requires i) in
    let passes = unflawed_at [] list c.requires i r (slice_get_read list (length list) i r refl c.loop-one-test.true c.one-item.is) in
    record {
      len = e.len ∙ ap (λ (n : ℕ). n + file_more c.loop-one.files r) inv.len ∙ sym (ap (λ (l : List Record). length (files_of l)) more ∙ files-more (take i list) r c.loop-one.files calm passes inv.files);
      files = λ pnode. e.files pnode ∙ ap (λ (n : ℕ). file_look n pnode (get nat_cmp c.loop-one.files pnode) r) inv.len ∙ ap (λ (o : Option TableFile). file_look (length (files_of (take i list))) pnode o r) (inv.files pnode)
          ∙ sym (ap (λ (l : List Record). file_of l pnode) more ∙ file_of-next (take i list) r calm passes pnode);
    }
