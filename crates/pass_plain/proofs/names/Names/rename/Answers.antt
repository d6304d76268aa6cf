use Rattle.std.proofs.Common.{◌≡◌, ◌∙◌, ap, ℕ}
use Rattle.std.specs.Prelude.{Option, Some}
use Rattle.std.specs.Option.{option_map_or}
use Rattle.std.specs.FinMap.{FinMap, get, remove, insert}
use Rattle.std.specs.Ordering.{nat_cmp}
use Rattle.std.specs.Cmp.Lexicographic.{slice_cmp}
use Rattle.pass_plain.proofs.NameMaps.{insert_removed}
use Rattle.pass_plain.proofs.names.Names.rename.Goals as goal

pub returns-in_ok-insert : goal.returns-in_ok-insert
returns-in_ok-insert c =
    let m = c.args.self.now in
    let from = c.args.from.now in
    let to = c.args.to.now in
    let file = c.in-Some.file in
    let has : Some file ≡ get m from = c.in-Some.ensures in
    c.in_ok-insert.ensures
    ∙ ap (λ n. insert c.remove-in-Some.new.self n file) c.in_ok-name.ensures.cases
    ∙ ap (λ (n : FinMap (slice_cmp nat_cmp) ℕ). insert n to file) (c.remove-in-Some.ensures ∙ ap (λ (n : FinMap (slice_cmp nat_cmp) ℕ). remove n to) c.remove.ensures)
    ∙ insert_removed (remove m from) to file
    ∙ ap (λ (o : Option ℕ). option_map_or (λ file. insert (remove m from) to file) o m) has
