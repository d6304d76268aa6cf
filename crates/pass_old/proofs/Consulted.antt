-- What an archive and a log answer.
use Rattle.std.proofs.Common.{◌≡◌, ◌∙◌, ◌+◌, ◌<◌, ◌==◌, ◌≤◌, ◌++◌, ℕ, true, false, List, [], ◌∷◌, length, take, get_or, refl, sym, ap, subst, arith, append-nil}
use Rattle.std.specs.Prelude.{◌≢◌, Contains, flat_map}
use Rattle.std.specs.Ordering.{nat_cmp}
use Rattle.std.proofs.lemmas.List.{take_all, take_more}
use Rattle.std.proofs.lemmas.List.Concat.{flat_map-append}
use Rattle.pass_entry.proofs.Lists.{same_numbers}
use Rattle.pass_entry.specs.declared.record.Record.{Record}
use Rattle.pass_waldo.specs.Lookups.{AreAll}
use Rattle.pass_files.specs.Spelling.{no_node}
use Rattle.pass_status.specs.declared.status.Status.TheVariants as status
use Rattle.pass_leaf.specs.Leaves.{Leaf}
use Rattle.pass_old.specs.declared.status.OldStatus.{OldStatus}
use Rattle.pass_old.specs.declared.status.OldStatus.TheVariants as old_status
use Rattle.pass_old.specs.declared.words.LogQuestion.{LogQuestion}
use Rattle.pass_old.specs.declared.words.LogQuestion.TheVariants.{Named}
use Rattle.pass_old.specs.Consults.{HasHad, IsToldOfBoth, IsNameless, IsToldBothAs, is_same}
use Rattle.pass_old.specs.Listings.{version_lines}

module _ (list : List Record) (leaves : List Leaf) (q : LogQuestion) (s : OldStatus) (text : List ℕ) where
  pub both_done : (t : List ℕ) → s ≡ old_status.Same status.Done → text ≡ t → IsToldOfBoth list leaves q t → IsToldBothAs q s text list leaves
  both_done t done same is =
      subst (λ (x : OldStatus). IsToldBothAs q x text list leaves) (sym done) (subst (λ (l : List ℕ). IsToldOfBoth list leaves q l) (sym same) is)

  pub both_starved : s ≡ old_status.Same status.NoMemory → IsToldBothAs q s text list leaves
  both_starved is = subst (λ (x : OldStatus). IsToldBothAs q x text list leaves) (sym is) tt

  pub both_nameless : s ≡ old_status.Same (status.NoObject no_node) → IsNameless list q → IsToldBothAs q s text list leaves
  both_nameless is none = subst (λ (x : OldStatus). IsToldBothAs q x text list leaves) (sym is) (refl, none)

  -- such a question isn't refused by the sink
  pub both_unwritten : IsToldBothAs q s text list leaves → s ≢ old_status.Same status.WriteFault
  both_unwritten is e = subst (λ (x : OldStatus). IsToldBothAs q x text list leaves) e is

-- nor by the archive, nor for a run
pub both_same : (list : List Record) (leaves : List Leaf) (q : LogQuestion) (s : OldStatus) (text : List ℕ) → IsToldBothAs q s text list leaves → is_same s ≡ true
both_same list leaves q (old_status.Same s) text is = refl
both_same list leaves q _ text is = absurd is

pub same_not_archive : (s : OldStatus) → is_same s ≡ true → s ≢ old_status.ArchiveFault
same_not_archive s same is = let z : false ≡ true = sym (ap is_same is) ∙ same in cc

pub same_not_unlike : (s : OldStatus) → is_same s ≡ true → s ≢ old_status.Unlike
same_not_unlike s same is = let z : false ≡ true = sym (ap is_same is) ∙ same in cc

-- by a name

pub none_there : (files : List ℕ) → (length files == 0) ≡ true → files ≡ []
none_there [] is = refl
none_there (file ∷ files) is = let none = same_numbers (length (file ∷ files)) 0 is in absurd (omega (arith, none))

pub some_there : (files : List ℕ) → (length files == 0) ≡ false → files ≡ [] → ⊥
some_there [] is none = cc is
some_there (file ∷ files) is none = let z : length (file ∷ files) ≡ 0 = ap length none in omega (arith, z)

pub not_named : (list : List Record) (name : List ℕ) (files : List ℕ) → AreAll nat_cmp files (HasHad list name) → files ≡ [] → IsNameless list (Named name)
not_named list name files all none file had = absurd (nothing (subst (λ (l : List ℕ). Contains l file) none ((all.all file).1 had)))
  where
    nothing : Contains {X = ℕ} [] file → ⊥
    nothing (i, within, at) = omega (arith, within)

some_named : (list : List Record) (name : List ℕ) (files : List ℕ) → AreAll nat_cmp files (HasHad list name) → (files ≡ [] → ⊥) → (file : ℕ) × HasHad list name file
some_named list name [] all some = absurd (some refl)
some_named list name (file ∷ files) all some = (file, (all.all file).0 (0, omega arith, refl))

pub named_told : (list : List Record) (leaves : List Leaf) (name : List ℕ) (files text : List ℕ) → AreAll nat_cmp files (HasHad list name) → (files ≡ [] → ⊥) → text ≡ flat_map (version_lines leaves) files
    → IsToldOfBoth list leaves (Named name) text
named_told list leaves name files text all some lines = (some_named list name files all some, record { files = files; all = all; lines = lines })

-- the lines of files, one after the other

pub next_file : (leaves : List Leaf) (files : List ℕ) (i file : ℕ) (old new lines : List ℕ) → i < length files → file ≡ get_or files i file → old ≡ flat_map (version_lines leaves) (take i files)
    → lines ≡ version_lines leaves file → new ≡ old ++ lines → new ≡ flat_map (version_lines leaves) (take (i + 1) files)
next_file leaves files i file old new lines within at was is grown =
    let more : take (i + 1) files ≡ take i files ++ file ∷ [] = take_more files i file within ∙ ap (λ (f : ℕ). take i files ++ f ∷ []) (sym at) in
    grown ∙ ap (λ (t : List ℕ). old ++ t) (is ∙ sym (append-nil (version_lines leaves file)))
    ∙ ap (λ (t : List ℕ). t ++ flat_map (version_lines leaves) (file ∷ [])) was
    ∙ sym (flat_map-append (version_lines leaves) (take i files) (file ∷ [])) ∙ ap (flat_map (version_lines leaves)) (sym more)

pub all_files : (leaves : List Leaf) (files : List ℕ) (i : ℕ) (text : List ℕ) → length files ≤ i → text ≡ flat_map (version_lines leaves) (take i files) → text ≡ flat_map (version_lines leaves) files
all_files leaves files i text last is = is ∙ ap (flat_map (version_lines leaves)) (take_all i files last)
