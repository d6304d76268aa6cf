-- The map of a list of names, and the list without one of them.
use Rattle.std.proofs.Common.{◌≡◌, ℕ, List, [], ◌∷◌, refl, ap, sym, ◌∙◌, Bool, true, false, not, cond, length, arith}
use Rattle.std.specs.Prelude.{filter, Option, Some, None}
use Rattle.std.specs.List.{items_where_true}
use Rattle.std.specs.List.Retain.{ReturnsInTurn, IsFiltered}
use Rattle.std.specs.FinMap.{FinMap, get, find, from_entries, remove, insert, get-from_entries, get-remove, get-insert, same_map, slice_cmp-IsAntisymmetric, nat_cmp-IsAntisymmetric}
use Rattle.std.specs.Ordering.{nat_cmp, eq_by_cmp}
use Rattle.std.specs.Cmp.Lexicographic.{slice_cmp, nat_list_cmp_total}
use Rattle.pass_entry.proofs.Lists.{is_equal}

abbrev same : List ℕ → List ℕ → Bool
same a b = eq_by_cmp (slice_cmp nat_cmp) a b

pub same_texts : (a b : List ℕ) → same a b ≡ true → a ≡ b
same_texts a b e = slice_cmp-IsAntisymmetric nat_cmp-IsAntisymmetric a b (is_equal (slice_cmp nat_cmp a b) e)

abbrev pub Entries : Type 0
Entries = List (List ℕ × ℕ)

abbrev pub without : List ℕ → Entries → Entries
without name es = filter (λ (e : List ℕ × ℕ). not (same name e.0)) es

find_kept : (q name key : List ℕ) (v : ℕ) (es : Entries) → find (slice_cmp nat_cmp) q (without name es) ≡ cond (same q name) None (find (slice_cmp nat_cmp) q es)
    → (a b c : Bool) → same name key ≡ a → same q key ≡ b → same q name ≡ c
    → find (slice_cmp nat_cmp) q (cond (not a) ((key, v) ∷ without name es) (without name es)) ≡ cond c None (cond b (Some v) (find (slice_cmp nat_cmp) q es))
find_kept q name key v es ih true true true a b c = ih ∙ ap (λ t. cond t None (find (slice_cmp nat_cmp) q es)) c
find_kept q name key v es ih true false false a b c = ih ∙ ap (λ t. cond t None (find (slice_cmp nat_cmp) q es)) c
find_kept q name key v es ih true true false a b c =
    absurd (let e = same_texts name key a in let z : true ≡ false = sym b ∙ ap (λ k. same q k) (sym e) ∙ c in cc)
find_kept q name key v es ih true false true a b c =
    absurd (let e = same_texts name key a in let z : false ≡ true = sym b ∙ ap (λ k. same q k) (sym e) ∙ c in cc)
find_kept q name key v es ih false true true a b c =
    absurd (let e = same_texts q key b in let f = same_texts q name c in let z : true ≡ false = sym b ∙ ap (λ n. same n key) f ∙ a in cc)
find_kept q name key v es ih false true false a b c = ap (λ t. cond t (Some v) (find (slice_cmp nat_cmp) q (without name es))) b
find_kept q name key v es ih false false c a b t =
    ap (λ t. cond t (Some v) (find (slice_cmp nat_cmp) q (without name es))) b ∙ ih ∙ ap (λ t. cond t None (find (slice_cmp nat_cmp) q es)) t

none_if : (b : Bool) → ◌≡◌ {A = Option ℕ} None (cond b None None)
none_if true = refl
none_if false = refl

find_without : (q name : List ℕ) (es : Entries) → find (slice_cmp nat_cmp) q (without name es) ≡ cond (same q name) None (find (slice_cmp nat_cmp) q es)
find_without q name [] = none_if (same q name)
find_without q name (e ∷ es) = find_kept q name e.0 e.1 es (find_without q name es) (same name e.0) (same q e.0) (same q name) refl refl refl

-- the list without a name's entries has the map without the name
pub map_without : (name : List ℕ) (es : Entries) → from_entries {R = slice_cmp nat_cmp} (without name es) ≡ remove (from_entries es) name
map_without name es =
    same_map nat_list_cmp_total (slice_cmp-IsAntisymmetric nat_cmp-IsAntisymmetric) _ _
    (λ q. get-from_entries nat_list_cmp_total (without name es) q ∙ find_without q name es
    ∙ ap (cond (same q name) None) (sym (get-from_entries nat_list_cmp_total es q))
    ∙ sym (get-remove nat_list_cmp_total (from_entries es) name q))

twice : (m : FinMap (slice_cmp nat_cmp) ℕ) (name q : List ℕ) (v : ℕ) (b : Bool) → same q name ≡ b
    → cond b (Some v) (cond b None (get m q)) ≡ cond b (Some v) (get m q)
twice m name q v true e = refl
twice m name q v false e = refl

-- a name is put in the same way whether it was taken out before or not
pub insert_removed : (m : FinMap (slice_cmp nat_cmp) ℕ) (name : List ℕ) (v : ℕ) → insert (remove m name) name v ≡ insert m name v
insert_removed m name v =
    same_map nat_list_cmp_total (slice_cmp-IsAntisymmetric nat_cmp-IsAntisymmetric) _ _
    (λ q. get-insert nat_list_cmp_total (remove m name) name v q ∙ ap (cond (same q name) (Some v)) (get-remove nat_list_cmp_total m name q)
    ∙ twice m name q v (same q name) refl ∙ sym (get-insert nat_list_cmp_total m name v q))

picked : {X P : Type 0} (R : P → X → Bool → P → Type 0) (I : P → Type 0) (test : X → Bool)
    → ((p : P) (x : X) (b : Bool) (q : P) → I p → R p x b q → (b ≡ test x) × I q) → (p q : P) (bs : List Bool) (xs : List X) → I p
    → length bs ≡ length xs → ReturnsInTurn R p bs xs q → items_where_true bs xs ≡ filter test xs
picked R I test says p q [] [] i len turn = refl
picked R I test says p q [] (x ∷ xs) i len turn = absurd (omega arith)
picked R I test says p q (b ∷ bs) [] i len turn = absurd turn
picked R I test says p q (true ∷ bs) (x ∷ xs) i len (j, answer, turn) =
    let (e, k) = says p x true j i answer in
    ap (λ ys. x ∷ ys) (picked R I test says j q bs xs k (omega arith) turn) ∙ ap (λ b. cond b (x ∷ filter test xs) (filter test xs)) e
picked R I test says p q (false ∷ bs) (x ∷ xs) i len (j, answer, turn) =
    let (e, k) = says p x false j i answer in
    picked R I test says j q bs xs k (omega arith) turn ∙ ap (λ b. cond b (x ∷ filter test xs) (filter test xs)) e

-- a test that answers the same whatever it was asked before leaves the elements that pass it
pub filter_kept : {X P : Type 0} (R : P → X → Bool → P → Type 0) (I : P → Type 0) (test : X → Bool)
    → ((p : P) (x : X) (b : Bool) (q : P) → I p → R p x b q → (b ≡ test x) × I q) → (p : P) (xs ys : List X) → I p → IsFiltered R p xs ys → ys ≡ filter test xs
filter_kept R I test says p xs ys i (bs, q, len, turn, kept) = kept ∙ picked R I test says p q bs xs i len turn
