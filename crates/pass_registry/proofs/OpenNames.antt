-- The names with which a session begins.
use Rattle.std.proofs.Common.{◌≡◌, ℕ, zero, suc, ◌+◌, ◌<◌, Bool, true, false, cond, List, [], ◌∷◌, ◌++◌, length, get_or, take, refl, ap, sym, ◌∙◌, arith}
use Rattle.std.specs.Prelude.{Option, Some, None, filter_map, slice_get, option_map}
use Rattle.std.specs.List.{cons_option}
use Rattle.std.specs.Ordering.{nat_cmp, eq_by_cmp}
use Rattle.std.specs.Cmp.Lexicographic.{slice_cmp, nat_list_cmp_total}
use Rattle.std.specs.FinMap.{find, put}
use Rattle.std.specs.FinMap.Entries.{find-put, find-append}
use Rattle.std.proofs.lemmas.Option.{slice_get_read}
use Rattle.std.proofs.lemmas.List.Elements.{filter_map-append}
use Rattle.pass_plain.specs.declared.start.StartFile.{StartFile}
use Rattle.pass_plain.specs.Registries.{named_file}
use Rattle.pass_plain.proofs.Lists.{within_take}
use Rattle.pass_plain.proofs.NameMaps.{same_texts}
use Rattle.pass_plain.proofs.Replays.{take-next}
use Rattle.pass_registry.specs.Places.{Entries, IsNamedOnce}
use Rattle.pass_entry.proofs.Places.{slice_get-take}

-- some file of the list has the name
abbrev pub HasName : List ℕ → List StartFile → Type 0
HasName name files = (j : ℕ) × (f : StartFile) × (slice_get files j ≡ Some f) × (f.name ≡ Some name)

later : (name : List ℕ) (f : StartFile) (fs : List StartFile) → HasName name fs → HasName name (f ∷ fs)
later name f fs (j, g, at, named) = (suc j, g, at, named)

-- a name that is found among those of the first file and of the others
named_next : (name : List ℕ) (f : StartFile) (fs : List StartFile) (v : ℕ) (o : Option (List ℕ)) → f.name ≡ o
    → (find (slice_cmp nat_cmp) name (filter_map named_file fs) ≡ Some v → HasName name fs)
    → find (slice_cmp nat_cmp) name (cons_option (option_map (λ n. (n, f.node.pnode)) o) (filter_map named_file fs)) ≡ Some v → HasName name (f ∷ fs)
named_next name f fs v None named rest found = later name f fs (rest found)
named_next name f fs v (Some n) named rest found = by_test (eq_by_cmp (slice_cmp nat_cmp) name n) refl found
  where
    by_test : (b : Bool) → eq_by_cmp (slice_cmp nat_cmp) name n ≡ b → cond b (Some f.node.pnode) (find (slice_cmp nat_cmp) name (filter_map named_file fs)) ≡ Some v
        → HasName name (f ∷ fs)
    by_test true same found = (zero, f, refl, named ∙ ap (λ (m : List ℕ). Some m) (sym (same_texts name n same)))
    by_test false other found = later name f fs (rest found)

pub named_in : (name : List ℕ) (fs : List StartFile) (v : ℕ) → find (slice_cmp nat_cmp) name (filter_map named_file fs) ≡ Some v → HasName name fs
named_in name [] v found = absurd (cc)
named_in name (f ∷ fs) v found = named_next name f fs v f.name refl (named_in name fs v) found

-- the name of a file isn't one of those before it
pub free_name : (files : List StartFile) (i : ℕ) (file : StartFile) (name : List ℕ) → IsNamedOnce files → i < length files → file ≡ get_or files i file
    → file.name ≡ Some name → find (slice_cmp nat_cmp) name (filter_map named_file (take i files)) ≡ None
free_name files i file name once within is named = by_answer (find (slice_cmp nat_cmp) name (filter_map named_file (take i files))) refl
  where
    by_answer : (o : Option ℕ) → find (slice_cmp nat_cmp) name (filter_map named_file (take i files)) ≡ o → o ≡ None
    by_answer None e = refl
    by_answer (Some v) e =
        let (j, f, at, has) = named_in name (take i files) v e in
        let below : j < i = within_take i j files f at in
        let same : j ≡ i = once j i f file name (slice_get-take i j files f at) (slice_get_read files (length files) i file refl within is) has named in
        absurd (omega (arith, below, same))

abbrev names_of : List StartFile → Entries
names_of files = filter_map named_file files

-- one more file
pub names-next : (files : List StartFile) (i : ℕ) (file : StartFile) → i < length files → file ≡ get_or files i file
    → filter_map named_file (take (i + 1) files) ≡ filter_map named_file (take i files) ++ cons_option (option_map (λ n. (n, file.node.pnode)) file.name) []
names-next files i file within is = ap names_of (take-next files i file within is) ∙ filter_map-append named_file (take i files) (file ∷ [])

-- what is found after the name of one more file was put in
pub found_next : (q : List ℕ) (name : List ℕ) (v : ℕ) (es more : Entries) → find (slice_cmp nat_cmp) name more ≡ None
    → find (slice_cmp nat_cmp) q es ≡ find (slice_cmp nat_cmp) q more
    → find (slice_cmp nat_cmp) q (put (slice_cmp nat_cmp) name v es) ≡ find (slice_cmp nat_cmp) q (more ++ (name, v) ∷ [])
found_next q name v es more free same =
    find-put (slice_cmp nat_cmp) nat_list_cmp_total q name v es ∙ ap (cond (eq_by_cmp (slice_cmp nat_cmp) q name) (Some v)) same
    ∙ sym (find-append (slice_cmp nat_cmp) nat_list_cmp_total more name v q free)
