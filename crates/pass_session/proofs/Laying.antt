-- One step of laying out what a session begins with: a list is made of the views of another one, desk by desk.
use Rattle.std.proofs.Common.{◌≡◌, ℕ, zero, suc, ◌+◌, ◌<◌, ◌≤◌, List, [], ◌∷◌, ◌++◌, length, get_or, map, drop, ap, sym, ◌∙◌, append_assoc, arith}
use Rattle.std.specs.Prelude.{Option, Some, option_to_list, slice_get}
use Rattle.std.specs.List.{range_with_len}
use Rattle.std.proofs.lemmas.List.FromFn.{get_or-range_with_len, length-range_with_len}
use Rattle.std.proofs.lemmas.List.{append-nil, drop_all}
use Rattle.std.proofs.lemmas.Grind.{drop_more_same}
use Rattle.std.proofs.lemmas.Option.{slice_get-get_or}
use Rattle.pass_book.specs.declared.view.VaultSync.{VaultSync}
use Rattle.pass_flow.specs.Flows.{ObjectView}
use Rattle.pass_plain.specs.declared.start.StartFile.{StartFile}
use Rattle.pass_file.specs.Desks.{FileDeskView}
use Rattle.pass_session.specs.Layouts.{file_view, file_views}
use Rattle.pass_entry.proofs.Places.{drop_known}

-- the next desk is that of the next one
pub next_desk : {X D : Type 0} (f : X → D) (xs : List X) (i : ℕ) (x : X) (old new : List D) (o : Option D) (d : D) → i < length xs → x ≡ get_or xs i x
    → old ≡ map f (drop i xs) → old ≡ option_to_list o ++ new → o ≡ Some d → (d ≡ f x) × (new ≡ map f (drop (i + 1) xs))
next_desk f xs i x old new o d within is had split some =
    let all : d ∷ new ≡ f x ∷ map f (drop (i + 1) xs) = ap (λ o. option_to_list o ++ new) (sym some) ∙ sym split ∙ had ∙ ap (map f) (drop_known xs i x within is) in
    ((let head : d ≡ f x = cc in head), ap (drop 1) all)

one_more : {V : Type 0} (made new rest : List V) (v w : V) → new ≡ made ++ v ∷ [] → v ≡ w → new ++ rest ≡ made ++ w ∷ rest
one_more made new rest v w pushed is = ap (λ l. l ++ rest) (pushed ∙ ap (λ u. made ++ u ∷ []) is) ∙ append_assoc made (w ∷ []) rest

pub view_step : {X V : Type 0} (f : X → V) (xs : List X) (i : ℕ) (x : X) (made new : List V) (v : V) → i < length xs → x ≡ get_or xs i x
    → made ++ map f (drop i xs) ≡ map f xs → new ≡ made ++ v ∷ [] → v ≡ f x → new ++ map f (drop (i + 1) xs) ≡ map f xs
view_step f xs i x made new v within is had pushed view =
    one_more made new (map f (drop (i + 1) xs)) v (f x) pushed view ∙ ap (λ l. made ++ map f l) (sym (drop_known xs i x within is)) ∙ had

pub number_step : (xs : List ℕ) (i x : ℕ) (made new : List ℕ) (v : ℕ) → i < length xs → x ≡ get_or xs i x → made ++ drop i xs ≡ xs → new ≡ made ++ v ∷ [] → v ≡ x
    → new ++ drop (i + 1) xs ≡ xs
number_step xs i x made new v within is had pushed view =
    one_more made new (drop (i + 1) xs) v x pushed view ∙ ap (λ l. made ++ l) (sym (drop_known xs i x within is)) ∙ had

-- at the end
pub views_end : {X V : Type 0} (f : X → V) (xs : List X) (i : ℕ) (made : List V) → length xs ≤ i → made ++ map f (drop i xs) ≡ map f xs → made ≡ map f xs
views_end f xs i made past had = sym (append-nil made) ∙ ap (λ l. made ++ map f l) (sym (drop_all i xs past)) ∙ had

pub numbers_end : (xs : List ℕ) (i : ℕ) (made : List ℕ) → length xs ≤ i → made ++ drop i xs ≡ xs → made ≡ xs
numbers_end xs i made past had = sym (append-nil made) ∙ ap (λ l. made ++ l) (sym (drop_all i xs past)) ∙ had

pub files_end : (files : List StartFile) (i : ℕ) (made : List FileDeskView) → length files ≤ i → made ++ file_views i (drop i files) ≡ file_views 0 files → made ≡ file_views 0 files
files_end files i made past had = sym (append-nil made) ∙ ap (λ l. made ++ file_views i l) (sym (drop_all i files past)) ∙ had

-- an app object with these syncs
abbrev pub app_with : ℕ → List VaultSync → ObjectView
app_with what syncs = record { what = what; seen = []; syncs = syncs; spare = 0 }

pub at_place : {X : Type 0} (xs ys : List X) (i : ℕ) (x : X) → i < length xs → x ≡ get_or xs i x → xs ≡ ys → slice_get ys i ≡ Some x
at_place xs ys i x within is same = ap (λ l. slice_get l i) (sym same) ∙ slice_get-get_or xs i x within ∙ ap (λ y. Some y) (sym is)

-- A list that has been changed in front of a place

pub head : {X : Type 0} (xs ys : List X) (i : ℕ) (x : X) → i < length xs → x ≡ get_or xs i x → drop i xs ≡ drop i ys → drop i ys ≡ x ∷ drop (i + 1) ys
head xs ys i x within is same = sym same ∙ drop_known xs i x within is ∙ ap (λ l. x ∷ l) (drop_more_same xs ys i same)

pub head_place : {X : Type 0} (ys : List X) (i : ℕ) (x : X) (rest : List X) → drop i ys ≡ x ∷ rest → slice_get ys i ≡ Some x
head_place ys zero x rest is = ap (λ l. slice_get l 0) is
head_place [] (suc i) x rest is = absurd (cc)
head_place (y ∷ ys) (suc i) x rest is = head_place ys i x rest is

pub head_desk : {X D : Type 0} (f : X → D) (ys : List X) (x : X) (rest : List X) (old new : List D) (o : Option D) (d : D) → ys ≡ x ∷ rest → old ≡ map f ys → old ≡ option_to_list o ++ new → o ≡ Some d
    → (d ≡ f x) × (new ≡ map f rest)
head_desk f ys x rest old new o d is had split some =
    let all : d ∷ new ≡ f x ∷ map f rest = ap (λ o. option_to_list o ++ new) (sym some) ∙ sym split ∙ had ∙ ap (map f) is in
    ((let head : d ≡ f x = cc in head), ap (drop 1) all)

pub head_file : (files : List StartFile) (i : ℕ) (file : StartFile) (made new : List FileDeskView) (v : FileDeskView) → drop i files ≡ file ∷ drop (i + 1) files
    → made ++ file_views i (drop i files) ≡ file_views 0 files → new ≡ made ++ v ∷ [] → v ≡ file_view i file → new ++ file_views (i + 1) (drop (i + 1) files) ≡ file_views 0 files
head_file files i file made new v is had pushed view =
    let one : i + 1 ≡ suc i = omega arith in
    ap (λ n. new ++ file_views n (drop (i + 1) files)) one
    ∙ one_more made new (file_views (suc i) (drop (i + 1) files)) v (file_view i file) pushed view
    ∙ ap (λ l. made ++ file_views i l) (sym is) ∙ had

-- the numbers from the first on

module _ (first count i : ℕ) (within : i < count) where
  abbrev numbers : List ℕ
  numbers = range_with_len first count

  inside : i < length numbers
  inside = let long = length-range_with_len first count in omega (arith, long, within)

  here : first + i ≡ get_or numbers i (first + i)
  here = sym (get_or-range_with_len first count i (first + i) within)

  pub range_desk : {D : Type 0} (f : ℕ → D) (old new : List D) (o : Option D) (d : D) → old ≡ map f (drop i numbers) → old ≡ option_to_list o ++ new → o ≡ Some d
      → (d ≡ f (first + i)) × (new ≡ map f (drop (i + 1) numbers))
  range_desk f old new o d had split some = next_desk f numbers i (first + i) old new o d inside here had split some

  pub range_made : (made new : List ℕ) (v : ℕ) → made ++ drop i numbers ≡ numbers → new ≡ made ++ v ∷ [] → v ≡ first + i → new ++ drop (i + 1) numbers ≡ numbers
  range_made made new v had pushed is = number_step numbers i (first + i) made new v inside here had pushed is

pub range_end : (first count i : ℕ) (made : List ℕ) → count ≤ i → made ++ drop i (range_with_len first count) ≡ range_with_len first count → made ≡ range_with_len first count
range_end first count i made past had =
    numbers_end (range_with_len first count) i made (let long = length-range_with_len first count in omega (arith, long, past)) had
