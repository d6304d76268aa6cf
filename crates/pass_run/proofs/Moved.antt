-- What stands of a disk that nothing was written to, and of a history without entries.
use Rattle.std.proofs.Common.{◌≡◌, List, [], length, refl, ap, inl, arith}
use Rattle.std.proofs.lemmas.Option.{slice_get_within}
use Rattle.pass_entry.specs.declared.entry.Entry.{Entry}
use Rattle.pass_entry.specs.declared.entry.Synced.{Synced}
use Rattle.pass_entry.specs.declared.record.Record.{Record}
use Rattle.pass_outside.specs.Moments.{Moment}
use Rattle.pass_plain.specs.declared.start.Start.{Start}
use Rattle.pass_status.specs.declared.status.Status.{Status}
use Rattle.pass_run.specs.Stored.{IsEnd, IsUnopened, IsLeftAlone, LeavesRead, IsRefusedOpening, IsBackedBy}

pub alone_untouched : (m : Moment) → IsLeftAlone m m
alone_untouched m = record { crash = λ c left. left; adds = record { later = omega arith; nothing_else = λ t c le left. inl left } }

-- no sync has come
pub leaves_untouched : (m : Moment) → LeavesRead m m
leaves_untouched m = λ synced. let two = synced.0 in absurd (omega (arith, two))

pub refused_untouched : (m : Moment) (ended : Status) (list : List Record) (start : Start) (history : List Entry) (syncs : List Synced) → (IsEnd ended → ⊥)
    → IsUnopened list start history syncs → IsRefusedOpening m m ended list start history syncs
refused_untouched m ended list start history syncs unended nothing = record { unended = unended; nothing = nothing; alone = alone_untouched m; since = leaves_untouched m; reads = λ quiet. refl }

pub none_backed : (history : List Entry) (syncs : List Synced) → history ≡ [] → IsBackedBy history syncs
none_backed history syncs none = λ p q call.
    let within = slice_get_within history q call.kept call.told in
    let size : length history ≡ 0 = ap length none in
    absurd (omega (arith, within, size))
