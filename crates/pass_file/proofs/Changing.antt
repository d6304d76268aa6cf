-- The records of an entry that changes a file.
use Rattle.std.proofs.Common.{◌≡◌, ℕ, List, refl, sym, ◌∙◌}
use Rattle.pass_entry.specs.declared.entry.Act.{Act}
use Rattle.pass_entry.specs.declared.entry.Entry.{Entry}
use Rattle.pass_plain.specs.Files.{file_after}
use Rattle.pass_plain.specs.Recording.{block_count, content_by}
use Rattle.pass_plain.specs.Records.{has_row}
use Rattle.pass_plain.specs.Sessions.{Session}
use Rattle.pass_book.specs.declared.view.VaultSync.{VaultSync}
use Rattle.pass_file.specs.Desks.{IsFileAfter, change_records}
use Rattle.pass_file.specs.FileViews.{FileView}

records_are : (session : Session) (seen : List Entry) (what : ℕ) (a : Act) → change_records session seen what a ≡ content_by what (file_after session seen what) (has_row session seen what) a block_count
unfolding block_count
records_are session seen what a = refl

-- they are made by the file's own bytes and digests
pub made_by : (session : Session) (seen : List Entry) (syncs : List VaultSync) (what : ℕ) (f : FileView) (a : Act) → IsFileAfter session seen syncs what f → f.lineage.node.pnode ≡ what
    → content_by f.lineage.node.pnode f.bytes (has_row session seen what) a block_count ≡ change_records session seen what a
made_by session seen syncs what f a is own = (λ i. content_by (own i) (is.bytes i) (has_row session seen what) a block_count) ∙ sym (records_are session seen what a)
