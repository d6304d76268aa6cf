use Rattle.std.proofs.Common.{◌≡◌, ◌<◌, ◌+◌, ◌∷◌, [], ◌++◌, ℕ, List, length, take, get_or, sym, ◌∙◌, ap, append-nil}
use Rattle.std.specs.Prelude.{fold, flat_map}
use Rattle.std.specs.Ordering.{nat_cmp}
use Rattle.std.specs.BTreeSet.{insert_key}
use Rattle.std.proofs.lemmas.List.{take_more}
use Rattle.std.proofs.lemmas.List.Concat.{flat_map-append}
use Rattle.std.proofs.lemmas.List.Sums.{fold-append}
use Rattle.pass_entry.specs.declared.objects.Kind.{Kind}
use Rattle.pass_past.specs.Pasts.{file_number}
use Rattle.pass_past.proofs.contents.add_files.Goals as goal

one_more : (objects : List (ℕ × Kind)) (i : ℕ) (o : ℕ × Kind) (keys old new : List ℕ) → i < length objects → o ≡ get_or objects i o → old ≡ fold (insert_key nat_cmp) keys (flat_map file_number (take i objects))
    → new ≡ fold (insert_key nat_cmp) old (file_number o) → new ≡ fold (insert_key nat_cmp) keys (flat_map file_number (take (i + 1) objects))
one_more objects i o keys old new low at was put =
    put ∙ ap (λ (l : List ℕ). fold (insert_key nat_cmp) l (file_number o)) was
    ∙ sym (fold-append (insert_key nat_cmp) keys (flat_map file_number (take i objects)) (file_number o))
    ∙ ap (fold (insert_key nat_cmp) keys)
    (ap (λ (l : List ℕ). flat_map file_number (take i objects) ++ l) (sym (append-nil (file_number o))) ∙ sym (flat_map-append file_number (take i objects) (o ∷ []))
    ∙ ap (flat_map file_number) (ap (λ (x : ℕ × Kind). take i objects ++ x ∷ []) at ∙ sym (take_more objects i o low)))

pub loop-object-preserved : goal.loop-object-preserved
loop-object-preserved c =
    one_more c.args.objects.now c.loop-object.object-index c.object-item.result c.args.files.now.keys c.loop-object.files.keys c.add_file.new.files.keys
    c.loop-object-test.true c.object-item.is c.loop-object.invariant c.in_ok-add_file.ensures
