use Rattle.std.proofs.Common.{◌≡◌, ◌++◌, ◌∷◌, [], ◌∙◌, ℕ, List, length, drop, ap, arith, length-append}
use Rattle.std.specs.Prelude.{fold, flat_map}
use Rattle.std.specs.Ordering.{nat_cmp}
use Rattle.std.specs.BTreeSet.{insert_key}
use Rattle.std.proofs.lemmas.Result.{on_ok_weaker}
use Rattle.std.proofs.lemmas.List.{take_rest}
use Rattle.pass_entry.specs.declared.objects.Kind.{Kind}
use Rattle.pass_plain.specs.Legal.{session_of}
use Rattle.pass_plain.specs.Registries.{registry_after}
use Rattle.pass_past.specs.Pasts.{file_number}
use Rattle.pass_past.proofs.Growing.{objects_more, more_files}
use Rattle.pass_past.proofs.phases.Walked.record.Goals as goal

pub returns-clause-files : goal.returns-clause-files
returns-clause-files c =
    let start = c.args.start.now in
    let past = c.args.past.now in
    let e = c.args.entry.now in
    let old = (registry_after (session_of start 0) past).objects in
    let new = (registry_after (session_of start 0) (past ++ e ∷ [])).objects in
    let before : c.objects-known.result.now ≡ old = c.objects-known.ensures start past c.requires.recording in
    let after : c.objects.result.now ≡ new = c.objects.ensures start (past ++ e ∷ []) c.in_ok-note.ensures in
    on_ok_weaker c.add_files.result (λ put.
    more_files old new c.add_files.new.files.keys (objects_more (session_of start 0) past e)
    (put ∙ ap (λ (l : List (ℕ × Kind)). fold (insert_key nat_cmp) c.args.self.now.files.keys (flat_map file_number l)) (take_rest c.objects.result.now (length c.objects-known.result.now))
    ∙ (λ i. fold (insert_key nat_cmp) (c.requires.files i) (flat_map file_number (drop (length (before i)) (after i)))))) c.add_files.ensures

pub slice_bounds-add_files-count : goal.slice_bounds-add_files-count
slice_bounds-add_files-count c =
    let start = c.args.start.now in
    let past = c.args.past.now in
    let e = c.args.entry.now in
    let old = (registry_after (session_of start 0) past).objects in
    let new = (registry_after (session_of start 0) (past ++ e ∷ [])).objects in
    let before : c.objects-known.result.now ≡ old = c.objects-known.ensures start past c.requires.recording in
    let after : c.objects.result.now ≡ new = c.objects.ensures start (past ++ e ∷ []) c.in_ok-note.ensures in
    let more = objects_more (session_of start 0) past e in
    omega (arith, ap length before, ap length after, ap length more.1, length-append old more.0)

pub slice_bounds-add_files-start : goal.slice_bounds-add_files-start
slice_bounds-add_files-start c =
    let start = c.args.start.now in
    let past = c.args.past.now in
    let e = c.args.entry.now in
    let old = (registry_after (session_of start 0) past).objects in
    let new = (registry_after (session_of start 0) (past ++ e ∷ [])).objects in
    let before : c.objects-known.result.now ≡ old = c.objects-known.ensures start past c.requires.recording in
    let after : c.objects.result.now ≡ new = c.objects.ensures start (past ++ e ∷ []) c.in_ok-note.ensures in
    let more = objects_more (session_of start 0) past e in
    omega (arith, ap length before, ap length after, ap length more.1, length-append old more.0)
