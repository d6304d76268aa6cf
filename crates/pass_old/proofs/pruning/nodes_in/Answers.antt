use Rattle.std.proofs.Common.{◌≡◌, ◌∷◌, [], ap, refl, List, subst, rules, tests}
use Rattle.std.specs.Prelude.{IfOk, Option, map, string_bytes}
use Rattle.std.specs.List.{cons_option, filter_map}
use Rattle.std.proofs.lemmas.Iterator.{items_from_collect, YieldsList-from_slice}
use Rattle.std.proofs.lemmas.Iterator.Consumers.{YieldsList-from_filter_map}
use Rattle.pass_ask.specs.Numbers.{node_in}
use Rattle.pass_old.proofs.pruning.nodes_in.Goals as goal

through : {X Y Z : Type 0} (g : X → Y) (h : Y → Option Z) (xs : List X) → filter_map (λ x. h (g x)) xs ≡ filter_map h (map g xs)
through g h [] = refl
through g h (x ∷ xs) = ap (cons_option (h (g x))) (through g h xs)

pub returns : goal.returns
returns c =
    subst (λ (ns : List _). IfOk c.collect.result (λ nodes. nodes.items ≡ ns)) (through string_bytes node_in c.args.words.now)
    (items_from_collect c.collect.result c.collect.ensures.ran
    (YieldsList-from_filter_map _ (λ w. node_in (string_bytes w)) (YieldsList-from_slice c.args.words.now cc) refl (λ x r q k. search (rules, tests))))
