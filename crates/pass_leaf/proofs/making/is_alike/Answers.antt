use Rattle.std.proofs.Common.{rules, ◌≡◌, ◌&&◌, ◌∙◌, min, length, take, drop}
use Rattle.std.specs.Prelude.{bytes_eq, ◌==◌}
use Rattle.std.specs.List.{list_all}
use Rattle.pass_leaf.proofs.Alike.{alike_parts}
use Rattle.pass_leaf.proofs.making.is_alike.Goals as goal

pub returns : goal.returns
returns c =
    let a = c.args.old.now in
    let b = c.args.new.now in
    let n = c.min-both.result in
    let is : n ≡ min (length a) (length b) = search rules in
    let same : c.is_same-same.result ≡ bytes_eq (take n a) (take n b) = search rules in
    let zero : c.is_zero-zero.result ≡ list_all (λ y. y == 0) (drop n a) = search rules in
    let also : c.is_zero-also_zero.result ≡ list_all (λ y. y == 0) (drop n b) = search rules in
    (λ i. (same i && zero i) && also i) ∙ alike_parts a b n is
