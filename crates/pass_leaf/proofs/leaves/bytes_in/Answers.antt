use Rattle.std.proofs.Common.{rules, ◌≡◌, true, false, [], refl}
use Rattle.std.specs.List.{list_any}
use Rattle.pass_leaf.specs.Contents.{is_of}
use Rattle.pass_leaf.proofs.Lists.{none_has, some_has}
use Rattle.pass_leaf.proofs.leaves.bytes_in.Goals as goal

pub returns-then-not-has_leaf-clause-none : goal.returns-then-not-has_leaf-clause-none
returns-then-not-has_leaf-clause-none c =
    let leaves = c.args.leaves.now in
    let node = c.args.node.now in
    let none : list_any (is_of node) leaves ≡ false = search rules in
    (λ _. none_has [] leaves node none, λ _. refl)

pub returns-in-Err-clause-none : goal.returns-in-Err-clause-none
returns-in-Err-clause-none c =
    let leaves = c.args.leaves.now in
    let node = c.args.node.now in
    let some : list_any (is_of node) leaves ≡ true = search rules in
    (λ err. absurd (cc err), λ none. absurd (some_has [] leaves node some none))
