use Rattle.std.proofs.Common.{ℕ, ◌≡◌, ◌+◌, ◌∙◌, refl, sym, ap, subst, List, [], ◌∷◌, ◌++◌, take, length, arith}
use Rattle.std.specs.HashSet.{contains}
use Rattle.std.specs.List.{list_any}
use Rattle.std.proofs.lemmas.List.{take_all, take_more}
use Rattle.std.proofs.lemmas.Option.{slice_get_read}
use Rattle.pass_entry.specs.declared.record.Record.{Record}
use Rattle.pass_plain.specs.Versions.{same_node}
use Rattle.pass_files.proofs.Passes.{AreOn, all_on, none_on, pass_on}
use Rattle.pass_files.proofs.flows.flowing_on.Goals as goal

pub loop-one-init : goal.loop-one-init
loop-one-init c = none_on c.args.records.now c.args.first.now (contains same_node c.new-found.result) (λ n. ap (λ ks. list_any (same_node n) ks) c.new-found.ensures.empty)

pub loop-one-preserved : goal.loop-one-preserved
loop-one-preserved c =
    let xs : List Record = c.args.records.now in
    let k : ℕ = c.loop-one.one-index in
    let r : Record = c.one-item.result in
    let front : take (k + 1) xs ≡ take k xs ++ r ∷ [] = take_more xs k r c.loop-one-test.true ∙ ap (λ x. take k xs ++ x ∷ []) (sym c.one-item.is) in
    pass_on xs k r c.args.first.now (contains same_node c.loop-one.found) (contains same_node c.go_on.new.found) c.requires.logged (slice_get_read xs (length xs) k r refl c.loop-one-test.true c.one-item.is) front
    (c.in_ok-go_on.ensures xs c.requires.flows) c.loop-one.invariant

pub returns : goal.returns
returns c =
    let xs : List Record = c.args.records.now in
    all_on xs c.args.first.now (contains same_node c.loop-one.found) (subst (λ l. AreOn xs l c.args.first.now (contains same_node c.loop-one.found)) (take_all c.loop-one.one-index xs (omega (arith, c.loop-one-test.false))) c.loop-one.invariant)
