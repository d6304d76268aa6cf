use Rattle.std.proofs.Common.{ℕ, ◌≡◌, ◌≤◌, ◌<◌, ◌+◌, ◌-◌, sym, ap, subst, refl, List, drop, length, arith}
use Rattle.std.specs.HashSet.{contains}
use Rattle.std.specs.List.{list_any}
use Rattle.std.proofs.lemmas.List.{drop_all}
use Rattle.std.proofs.lemmas.Option.{slice_get_read}
use Rattle.pass_entry.specs.declared.record.Record.{Record}
use Rattle.pass_entry.proofs.Places.{drop_known}
use Rattle.pass_plain.specs.Versions.{same_node}
use Rattle.pass_files.proofs.Passes.{AreBack, all_back, none_back, pass_back}
use Rattle.pass_files.proofs.flows.flowing_back.Goals as goal

pub loop-place-init : goal.loop-place-init
loop-place-init c =
    let xs : List Record = c.args.records.now in
    subst (λ l. AreBack xs l c.args.first.now (contains same_node c.new-found.result)) (sym (drop_all (length xs) xs (omega arith)))
    (none_back xs c.args.first.now (contains same_node c.new-found.result) (λ n. ap (λ ks. list_any (same_node n) ks) c.new-found.ensures.empty))

pub loop-place-preserved : goal.loop-place-preserved
loop-place-preserved c =
    let xs : List Record = c.args.records.now in
    let place : ℕ = c.loop-place.place in
    let some : 1 ≤ place = omega (arith, c.loop-place-test.true) in
    let within : place - 1 < length xs = omega (arith, some, c.loop-place.auto.place) in
    let r : Record = c.index-records-place.result in
    let same : place ≡ place - 1 + 1 = omega (arith, some) in
    pass_back xs (place - 1) r c.args.first.now (contains same_node c.loop-place.found) (contains same_node c.go_back.new.found) c.requires.logged
    (slice_get_read xs (length xs) (place - 1) r refl within c.index-records-place.is) (drop_known xs (place - 1) r within c.index-records-place.is)
    (c.in_ok-go_back.ensures xs c.requires.flows) (subst (λ n. AreBack xs (drop n xs) c.args.first.now (contains same_node c.loop-place.found)) same c.loop-place.invariant)

pub returns : goal.returns
returns c =
    let xs : List Record = c.args.records.now in
    let none : c.loop-place.place ≡ 0 = omega (arith, c.loop-place-test.false) in
    all_back xs c.args.first.now (contains same_node c.loop-place.found) (subst (λ n. AreBack xs (drop n xs) c.args.first.now (contains same_node c.loop-place.found)) none c.loop-place.invariant)
