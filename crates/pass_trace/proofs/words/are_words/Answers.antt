use Rattle.std.proofs.Common.{◌≡◌, ◌∙◌, sym, rules, tests}
use Rattle.std.specs.List.{list_all}
use Rattle.std.proofs.lemmas.Iterator.{YieldsList-from_slice}
use Rattle.std.proofs.lemmas.Iterator.Search.{all_from_yields_List}
use Rattle.std.proofs.lemmas.List.Folds.{list_all-map}
use Rattle.pass_trace.specs.Words.{is_word}
use Rattle.pass_trace.proofs.words.are_words.Goals as goal

pub returns : goal.returns
returns c =
    let each : c.all.result ≡ list_all (λ w. is_word w.now) c.args.words.now =
    all_from_yields_List (λ w. is_word w.now) _ _ c.all.result c.all.ensures.ran (YieldsList-from_slice c.args.words.now cc) (λ x b q k. search (rules, tests)) in
    each ∙ sym (list_all-map is_word (λ w. w.now) c.args.words.now)
