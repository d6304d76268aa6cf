use Rattle.std.proofs.Common.{◌≡◌, ◌∙◌, sym, rules, tests}
use Rattle.std.specs.Prelude.{is_some, string_bytes}
use Rattle.std.specs.List.{list_all}
use Rattle.std.proofs.lemmas.Iterator.{YieldsList-from_slice}
use Rattle.std.proofs.lemmas.Iterator.Search.{all_from_yields_List}
use Rattle.std.proofs.lemmas.List.Folds.{list_all-map}
use Rattle.pass_ask.specs.Numbers.{node_in}
use Rattle.pass_old.proofs.pruning.are_nodes.Goals as goal

pub returns : goal.returns
returns c =
    let each : c.all.result ≡ list_all (λ w. is_some (node_in (string_bytes w))) c.args.words.now =
    all_from_yields_List (λ w. is_some (node_in (string_bytes w))) _ _ c.all.result c.all.ensures.ran (YieldsList-from_slice c.args.words.now cc) (λ x b q k. search (rules, tests)) in
    each ∙ sym (list_all-map (λ w. is_some (node_in w)) string_bytes c.args.words.now)
