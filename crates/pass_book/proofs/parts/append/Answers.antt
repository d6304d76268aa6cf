use Rattle.std.proofs.Common.{rules, ◌≡◌, [], ◌∷◌, ◌++◌, List, Result, OnOk, Ok, Err, ap, ◌∙◌, append_assoc}
use Rattle.std.specs.List.{AppendsClones, each_same}
use Rattle.std.specs.declared.alloc.AllocError.{AllocError}
use Rattle.pass_entry.specs.declared.record.Record.{Record}
use Rattle.std.specs.Option.{option_map_or}
use Rattle.pass_entry.specs.declared.record.Record.TheVariants as log
use Rattle.pass_book.proofs.parts.append.Goals.{in-Some+in_ok-push, in_default, in-Some-input+in_ok-push-2, in_default-input}
use Rattle.pass_book.proofs.parts.append.Goals as goal

-- clones of records are the records
appended : (r : Result (Unit {0}) AllocError) (old new more all : List Record) → old ++ more ≡ all → OnOk r (AppendsClones (λ a b. b ≡ a) old new more) → OnOk r (new ≡ all)
appended (Ok u) old new more all is clones = clones.1 ∙ ap (λ rs. old ++ rs) (each_same _ _ clones.2) ∙ is
appended (Err e) old new more all is clones = clones

version : (c : goal.After-extend_from_slice) → c.match-slip.part.items ≡ c.args.part.now.items ++ option_map_or (λ n. log.Version n ∷ []) c.slip.inside.version []
version c =
    elim c.match-slip.branch [
      | in-Some+in_ok-push w ↦ search rules
      | in_default w ↦ search rules
    ]

input : (c : goal.After-extend_from_slice) → c.match-slip-2.part.items ≡ c.match-slip.part.items ++ option_map_or (λ i. log.Input i.0 i.1 ∷ []) c.slip.inside.input []
input c =
    elim c.match-slip-2.branch [
      | in-Some-input+in_ok-push-2 w ↦ search rules
      | in_default-input w ↦ search rules
    ]

pub returns : goal.returns
returns c =
    let v = option_map_or (λ n. log.Version n ∷ []) c.slip.inside.version [] in
    let i = option_map_or (λ i. log.Input i.0 i.1 ∷ []) c.slip.inside.input [] in
    let view : v ++ i ++ c.slip.inside.rest.items ≡ c.args.slip.now = c.slip.view_is in
    let mine = input c ∙ ap (λ rs. rs ++ i) (version c) in
    let behind = ap (λ rs. rs ++ c.slip.inside.rest.items) (mine ∙ append_assoc c.args.part.now.items v i) ∙ append_assoc c.args.part.now.items (v ++ i) c.slip.inside.rest.items in
    let all = ap (λ rs. c.match-slip-2.part.items ++ rs) c.deref.ensures.value ∙ behind ∙ ap (λ rs. c.args.part.now.items ++ rs) view in
    appended _ _ _ _ _ all c.extend_from_slice.ensures.items
