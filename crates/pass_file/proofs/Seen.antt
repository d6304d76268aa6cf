-- A file whose desk sees more, and a file whose data was made durable.
use Rattle.std.proofs.Common.{◌≡◌, ℕ, ◌≤◌, ◌^◌, length, refl, sym, ◌∙◌, subst, false, ◌==◌}
use Rattle.std.specs.Prelude.{Some}
use Rattle.std.specs.List.{list_any}
use mathlib.Core.List.{IsPrefix}
use Rattle.pass_entry.specs.declared.entry.Entry.{Entry}
use Rattle.pass_plain.specs.Lawful.{AgreeOn}
use Rattle.pass_plain.specs.Legal.{IsLegal}
use Rattle.pass_plain.specs.Recording.{block_count, flags}
use Rattle.pass_plain.proofs.TwoPrefixes.{none_later}
use Rattle.pass_version.specs.States.{IsStateAfter, VersionState}
use Rattle.pass_book.specs.Names.{name, Listed}
use Rattle.pass_book.specs.Numbers.{IsFileNumber}
use Rattle.pass_book.specs.Tokens.{BookId, DeskState}
use Rattle.pass_book.specs.declared.view.Role.TheVariants as role
use Rattle.pass_book.proofs.Backed.{number_stays}
use Rattle.pass_hold.proofs.Objects.{lineage_stays}
use Rattle.pass_flow.specs.Entering.{IsVersioned}
use Rattle.pass_file.specs.Desks.{IsFile, IsFileAfter, IsSyncedLast}
use Rattle.pass_file.specs.FileViews.{FileView}
use Rattle.pass_file.proofs.Dirtier.{file_seen, file_cleaned}

pub version_seen : (book : BookId) (d now : DeskState) (v : VersionState) → IsVersioned book d v → now.book ≡ book → now.what ≡ d.what → IsPrefix d.seen now.seen → AgreeOn d.what d.seen now.seen
    → IsLegal book.session now.seen → length now.seen ≤ 2 ^ 32 → IsVersioned book now v
version_seen book d now v is of what begins agrees legal few = record {
  of_book = of;
  node = is.node ∙ sym what;
  lineage = subst (λ h. IsStateAfter book.session h v.lineage) begins.1
      (lineage_stays book.session d.seen begins.0 v.lineage (subst (λ h. IsLegal book.session h) (sym begins.1) legal)
      (subst (λ o. list_any (λ (g : Entry). g.what == o) begins.0 ≡ false) (sym is.node) (none_later (λ (g : Entry). g.what == d.what) d.seen begins.0 now.seen begins.1 agrees)) is.lineage);
  few = few;
}

-- a file whose desk sees more of the history, and all that is of the file
pub file_later : (book : BookId) (d now : DeskState) (n : ℕ) (f : FileView) → IsFile book d n f → now.book ≡ book → now.what ≡ d.what → IsPrefix d.seen now.seen → AgreeOn d.what d.seen now.seen
    → Listed (name role.Desk d.what) d.syncs now.syncs → IsLegal book.session now.seen → length now.seen ≤ 2 ^ 32 → IsFile book now n f
file_later book d now n f is of what begins agrees listed legal few = record {
  version = version_seen book d now (record { lineage = f.lineage; spare = f.spare }) is.version of what begins agrees legal few;
  content = subst (λ o. IsFileAfter book.session now.seen now.syncs o f) (sym what) (file_seen book.session d.seen now.seen d.syncs now.syncs d.what f is.content begins agrees listed);
  number = subst (λ o. IsFileNumber book.session now.seen o n) (sym what) (number_stays book.session d.seen now.seen d.what n begins is.number);
}

-- and then a sync of all that it has seen, which leaves no block dirty
pub file_synced : (book : BookId) (d now : DeskState) (n : ℕ) (f : FileView) → IsFile book d n f → now.book ≡ book → now.what ≡ d.what → IsPrefix d.seen now.seen → AgreeOn d.what d.seen now.seen
    → IsSyncedLast d.what n now.seen d.syncs now.syncs → IsLegal book.session now.seen → length now.seen ≤ 2 ^ 32 → IsFile book now n (record f { dirty = flags (λ _. false) block_count })
file_synced book d now n f is of what begins agrees s legal few =
    let mid : DeskState = record now { syncs = s.before } in
    let later = file_later book d mid n f is of what begins agrees s.listed legal few in
    let g : FileView = record f { dirty = flags (λ _. false) block_count } in
    let mark = s.file ∙ (λ i. Some (record { pnode = sym what i; number = n })) in
    record {
      version = record { of_book = of; node = later.version.node; lineage = later.version.lineage; few = few };
      content = subst (λ ss. IsFileAfter book.session now.seen ss now.what g) (sym s.list) (file_cleaned book.session now.seen s.before s.sync n now.what f g later.content mark s.whole s.all refl refl refl);
      number = later.number;
    }
