use Rattle.std.proofs.Common.{◌∙◌, ◌++◌, ◌<◌, ap, sym, take, arith, length, List, ℕ, [], ◌∷◌}
use Rattle.std.specs.Prelude.{filter_map, Option, option_map}
use Rattle.std.proofs.lemmas.List.Elements.{filter_map-append}
use Rattle.std.specs.List.{cons_option}
use Rattle.std.proofs.lemmas.List.{append-nil}
use Rattle.pass_plain.specs.Registries.{named_file}
use Rattle.pass_plain.proofs.Replays.{take-next}
use Rattle.pass_plain.proofs.names.Names.of_files.Goals as goal
use Rattle.pass_plain.proofs.names.Names.of_files.Goals.{in-Some+in_ok-clone-in-Some+in_ok-push_back-in-Some, in-None}

pub loop-file-preserved : goal.loop-file-preserved
loop-file-preserved c =
    let files = c.args.files.now in
    let i = c.loop-file.file-index in
    let file = c.file-item.result in
    let within : i < length files = omega arith in
    let next = ap (filter_map named_file) (take-next files i file within c.file-item.is) ∙ filter_map-append named_file (take i files) _ in
    let more = λ (o : Option (List ℕ)). filter_map named_file (take i files) ++ cons_option (option_map (λ name. (name, file.node.pnode)) o) [] in
    elim c.match-file.branch [
      | in-Some+in_ok-clone-in-Some+in_ok-push_back-in-Some w ↦
          ap (λ v. v.items) w.log-is ∙ w.in_ok-push_back-in-Some.ensures.items
          ∙ (λ j. c.loop-file.invariant j ++ (w.in_ok-clone-in-Some.ensures.cases j, file.node.pnode) ∷ [])
          ∙ sym (next ∙ ap more w.in-Some.is)
      | in-None w ↦ ap (λ v. v.items) w.log-is ∙ c.loop-file.invariant ∙ sym (next ∙ ap more w.in-None.is ∙ append-nil _)
    ]
