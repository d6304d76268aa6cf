use Rattle.std.proofs.Common.{◌≡◌, ◌∙◌, ℕ, List, [], refl, sym, ap}
use Rattle.std.specs.Prelude.{Vec, flat_map}
use Rattle.std.specs.declared.alloc.Global.{Global}
use Rattle.pass_leaf.specs.Leaves.{Leaf}
use Rattle.pass_old.specs.declared.words.LogQuestion.TheVariants.{Named}
use Rattle.pass_old.specs.Listings.{version_lines}
use Rattle.pass_old.proofs.Consulted.{both_done, both_starved, both_nameless, none_there, not_named, named_told, some_there}
use Rattle.pass_old.proofs.consulting.named.Goals as goal

pub returns-then-is_empty : goal.returns-then-is_empty
returns-then-is_empty c =
    let files : List ℕ = c.by_name-files.result.now in
    let none : files ≡ [] = none_there files (sym c.is_empty.ensures ∙ c.if-is_empty.true) in
    both_nameless c.args.index.now c.args.leaves.now (Named c.args.name.now) c.nameless.result.status c.nameless.result.text.items c.nameless.ensures
    (not_named c.args.index.now c.args.name.now files c.by_name-files.ensures none)

pub returns-in-Ok : goal.returns-in-Ok
returns-in-Ok c =
    let files : List ℕ = c.by_name-files.result.now in
    let some : files ≡ [] → ⊥ = some_there files (sym c.is_empty.ensures ∙ c.if-is_empty.false) in
    let lines : List ℕ = flat_map (version_lines c.args.leaves.now) files in
    both_done c.args.index.now c.args.leaves.now (Named c.args.name.now) c.done.result.status c.done.result.text.items lines c.done.ensures.status
    (c.done.ensures.text ∙ ap (λ (v : Vec ℕ Global). v.items) c.into_bytes.ensures.value ∙ c.in-Ok.ensures ∙ ap (λ (l : List Leaf). flat_map (version_lines l) files) c.list.ensures.list)
    (named_told c.args.index.now c.args.leaves.now c.args.name.now files lines c.by_name-files.ensures some refl)

pub returns-in-Err : goal.returns-in-Err
returns-in-Err c = both_starved c.args.index.now c.args.leaves.now (Named c.args.name.now) c.refused.result.status c.refused.result.text.items c.refused.ensures.status
