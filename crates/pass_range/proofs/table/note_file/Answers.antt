use Rattle.std.proofs.Common.{ℕ, ◌≡◌, ◌∙◌, ◌+◌, ap, sym, refl, rules}
use Rattle.std.specs.Prelude.{Option, Some, None, is_some, is_none, if◌then◌else◌}
use Rattle.std.specs.BTreeMap.{get, btree_map_len}
use Rattle.std.specs.Ordering.{nat_cmp}
use Rattle.pass_entry.specs.declared.objects.Kind.TheVariants as kind
use Rattle.pass_entry.specs.declared.record.Record.{Record}
use Rattle.pass_entry.specs.declared.record.Record.TheVariants as log
use Rattle.pass_range.specs.declared.table.TableFile.{TableFile}
use Rattle.pass_range.specs.Tables.{file_more}
use Rattle.pass_range.proofs.table.note_file.Goals as goal

one_more : (o : Option TableFile) → ◌≡◌ {A = ℕ} (if is_some o then 0 else 1) (if is_none o then 1 else 0)
one_more None = refl
one_more (Some file) = refl

pub returns-in_ok-insert-in-Object-default-File-clause-len : goal.returns-in_ok-insert-in-Object-default-File-clause-len
returns-in_ok-insert-in-Object-default-File-clause-len c =
    let files = c.args.files.now in
    let made : c.args.one.now ≡ log.Object c.in-Object-default-File.pnode kind.File = (search rules) in
    let e = c.in_ok-insert-in-Object-default-File.ensures in
    e.len
    ∙ ap (λ (o : Option TableFile). btree_map_len files + (if is_some o then 0 else 1)) e.old
    ∙ ap (λ (n : ℕ). btree_map_len files + n) (one_more (get nat_cmp files c.in-Object-default-File.pnode))
    ∙ ap (λ (r : Record). btree_map_len files + file_more files r) (sym made)
