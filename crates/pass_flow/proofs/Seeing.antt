-- An object of which more was seen, but no entry on it.
use Rattle.std.proofs.Common.{◌≡◌, ℕ, ◌≤◌, ◌^◌, List, ◌++◌, length, ap, sym, ◌∙◌, subst, Bool, false, ◌==◌}
use Rattle.std.specs.List.{list_any}
use mathlib.Core.List.{IsPrefix}
use Rattle.pass_entry.specs.declared.entry.Entry.{Entry}
use Rattle.pass_plain.specs.Lawful.{AgreeOn}
use Rattle.pass_plain.specs.Legal.{IsLegal}
use Rattle.pass_plain.proofs.TwoPrefixes.{none_later}
use Rattle.pass_version.specs.States.{VersionState, IsStateAfter}
use Rattle.pass_book.specs.declared.view.VaultSync.{VaultSync}
use Rattle.pass_book.specs.Tokens.{BookId, DeskState}
use Rattle.pass_hold.proofs.Objects.{lineage_stays}
use Rattle.pass_flow.specs.Entering.{IsVersioned}

pub versioned_seen : (book : BookId) (d n : DeskState) (v : VersionState) (history : List Entry) (syncs : List VaultSync) → IsVersioned book d v
    → IsPrefix d.seen history → AgreeOn d.what d.seen history → IsLegal book.session history → length history ≤ 2 ^ 32 → n ≡ record d { seen = history; syncs = syncs } → IsVersioned book n v
versioned_seen book d n v history syncs is begins agrees legal few at =
    let quiet = none_later (λ (f : Entry). f.what == d.what) d.seen begins.0 history begins.1 agrees in
    let stays : IsStateAfter book.session history v.lineage =
    subst (λ h. IsStateAfter book.session h v.lineage) begins.1
    (lineage_stays book.session d.seen begins.0 v.lineage (subst (λ h. IsLegal book.session h) (sym begins.1) legal)
    (subst (λ o. list_any (λ (f : Entry). f.what == o) begins.0 ≡ false) (sym is.node) quiet) is.lineage) in
    let made : IsVersioned book (record d { seen = history; syncs = syncs }) v = record { of_book = is.of_book; node = is.node; lineage = stays; few = few } in
    subst (λ (m : DeskState). IsVersioned book m v) (sym at) made
