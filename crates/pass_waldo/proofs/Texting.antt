-- What texts name after one row was written.
use Rattle.std.proofs.Common.{ℕ, ◌≡◌, Bool, true, false, refl, sym, ap, ◌∙◌, List, [], cond}
use Rattle.std.specs.Prelude.{Option, Some, None, is_some, bytes_eq, if◌then◌else◌}
use Rattle.std.specs.Option.{option_map_or}
use Rattle.std.specs.Cmp.Lexicographic.{nat_list_eq_equiv}
use Rattle.std.specs.Map.{KeepsOthers}
use Rattle.std.specs.HashMap.{HashMap, get_by, UpdatesBy}
use Rattle.std.specs.declared.hash.FoldHasher.{FoldHasher}
use Rattle.std.specs.declared.hash.BuildHasherDefault.{BuildHasherDefault}
use Rattle.std.specs.declared.vec.Vec.{Vec}
use Rattle.std.specs.declared.alloc.Global.{Global}
use Rattle.std.proofs.lemmas.Slice.Eq.{bytes_eq-Decides}
use Rattle.pass_entry.specs.declared.objects.Node.{Node}
use Rattle.pass_waldo.specs.declared.texts.Texts.{Texts}
use Rattle.pass_waldo.specs.declared.texts.Row.{Row}
use Rattle.pass_waldo.specs.Texts.{is_text, files_named, values_of, NameTheSame}
use Rattle.pass_graph.proofs.Adding.{same_key}

-- the text's row is now this one, and every other row is as before
pub text_written : {X : Type 0} (old new : HashMap (Vec ℕ Global) X (BuildHasherDefault FoldHasher)) (name : List ℕ) (w : X) → UpdatesBy same_key (is_text name) old new (Some w)
    → (n : List ℕ) → get_by (is_text n) new ≡ cond (bytes_eq name n) (Some w) (get_by (is_text n) old)
unfolding KeepsOthers
text_written {X} old new name w updates n = at_test (bytes_eq name n) refl
  where
    at_test : (b : Bool) → bytes_eq name n ≡ b → get_by (is_text n) new ≡ cond b (Some w) (get_by (is_text n) old)
    at_test true same = ap (λ x. get_by (is_text x) new) (sym ((bytes_eq-Decides name n).0 same)) ∙ updates.1
    at_test false differ =
        updates.3 (is_text n) (λ x y passes. nat_list_eq_equiv.congr n x.items y.items passes)
        (λ k passes. nat_list_eq_equiv.symm n k.items ∙ sym (nat_list_eq_equiv.congr name k.items n passes) ∙ differ)

module _ (old new : Texts) (name : List ℕ) (had row : Row) (was : Some had ≡ get_by (is_text name) old.rows) (updates : UpdatesBy same_key (is_text name) old.rows new.rows (Some row)) where
  -- what a row and the written one have alike, all texts have alike
  stays : {X : Type 0} (f : Row → X) (none : X) → f row ≡ f had → (n : List ℕ) → option_map_or f (get_by (is_text n) new.rows) none ≡ option_map_or f (get_by (is_text n) old.rows) none
  stays f none same n = ap (λ o. option_map_or f o none) (text_written old.rows new.rows name row updates n) ∙ at_test (bytes_eq name n) refl
    where
      at_test : (b : Bool) → bytes_eq name n ≡ b → option_map_or f (cond b (Some row) (get_by (is_text n) old.rows)) none ≡ option_map_or f (get_by (is_text n) old.rows) none
      at_test true is = same ∙ ap (λ o. option_map_or f o none) (was ∙ ap (λ x. get_by (is_text x) old.rows) ((bytes_eq-Decides name n).0 is))
      at_test false is = refl

  -- what a row has changed, its text alone has changed
  changes : {X : Type 0} (f : Row → X) (none : X) (to : X → X) → f row ≡ to (f had) → (n : List ℕ)
      → option_map_or f (get_by (is_text n) new.rows) none ≡ (if bytes_eq name n then to (option_map_or f (get_by (is_text n) old.rows) none) else option_map_or f (get_by (is_text n) old.rows) none)
  changes f none to is n = ap (λ o. option_map_or f o none) (text_written old.rows new.rows name row updates n) ∙ at_test (bytes_eq name n) refl
    where
      at_test : (b : Bool) → bytes_eq name n ≡ b → option_map_or f (cond b (Some row) (get_by (is_text n) old.rows)) none
          ≡ (if b then to (option_map_or f (get_by (is_text n) old.rows) none) else option_map_or f (get_by (is_text n) old.rows) none)
      at_test true same = is ∙ ap (λ o. to (option_map_or f o none)) (was ∙ ap (λ x. get_by (is_text x) old.rows) ((bytes_eq-Decides name n).0 same))
      at_test false differ = refl

  pub files_stay : row.files.items ≡ had.files.items → (n : List ℕ) → files_named new n ≡ files_named old n
  files_stay same = stays (λ r. r.files.items) [] same

  pub values_stay : row.values.items ≡ had.values.items → (n : List ℕ) → values_of new n ≡ values_of old n
  values_stay same = stays (λ r. r.values.items) [] same

  pub rows_stay : row.files.items ≡ had.files.items → row.values.items ≡ had.values.items → NameTheSame old new
  rows_stay f v = record { files = files_stay f; values = values_stay v }

  pub files_change : (to : List ℕ → List ℕ) → row.files.items ≡ to had.files.items → (n : List ℕ) → files_named new n ≡ (if bytes_eq name n then to (files_named old n) else files_named old n)
  files_change to is = changes (λ r. r.files.items) [] to is

  pub values_change : (to : List (Node × List ℕ) → List (Node × List ℕ)) → row.values.items ≡ to had.values.items → (n : List ℕ) → values_of new n ≡ (if bytes_eq name n then to (values_of old n) else values_of old n)
  values_change to is = changes (λ r. r.values.items) [] to is

-- a text without a row gets an empty one
module _ (old new : Texts) (name : List ℕ) (row : Row) (lacks : is_some (get_by (is_text name) old.rows) ≡ false) (updates : UpdatesBy same_key (is_text name) old.rows new.rows (Some row)) where
  none_at : (o : Option Row) → is_some o ≡ false → o ≡ None
  none_at None h = refl
  none_at (Some r) h = absurd (cc)

  empty : {X : Type 0} (f : Row → X) (none : X) → f row ≡ none → (n : List ℕ) → option_map_or f (get_by (is_text n) new.rows) none ≡ option_map_or f (get_by (is_text n) old.rows) none
  empty f none is_none n = ap (λ o. option_map_or f o none) (text_written old.rows new.rows name row updates n) ∙ at_test (bytes_eq name n) refl
    where
      at_test : (b : Bool) → bytes_eq name n ≡ b → option_map_or f (cond b (Some row) (get_by (is_text n) old.rows)) none ≡ option_map_or f (get_by (is_text n) old.rows) none
      at_test true is = is_none ∙ ap (λ o. option_map_or f o none) (sym (none_at (get_by (is_text name) old.rows) lacks) ∙ ap (λ x. get_by (is_text x) old.rows) ((bytes_eq-Decides name n).0 is))
      at_test false is = refl

  pub row_made : row.files.items ≡ [] → row.values.items ≡ [] → NameTheSame old new
  row_made f v = record { files = empty (λ r. r.files.items) [] f; values = empty (λ r. r.values.items) [] v }
