-- Ascending entries and the map that they stand for.
use Rattle.std.proofs.Common.{◌≡◌, ℕ, ◌+◌, ◌≤◌, Bool, true, false, not, cond, List, length, refl, ap, sym, ◌∙◌, arith}
use Rattle.std.specs.Prelude.{Option, Some, None, is_some, T}
use Rattle.std.specs.Option.{option_map_or}
use Rattle.std.specs.Ordering.{nat_cmp, eq_by_cmp, is_eq}
use Rattle.std.specs.Cmp.{tied_itself}
use Rattle.std.specs.Cmp.Lexicographic.{slice_cmp, nat_list_cmp_total}
use Rattle.std.specs.FinMap.{get, find, put, remove, insert, get-from_entries, get-insert, get-remove, same_map, slice_cmp-IsAntisymmetric, nat_cmp-IsAntisymmetric}
use Rattle.std.specs.FinMap.Entries.{is_sorted-put, is_sorted-where_key, find-put, length-put, length_without}
use Rattle.std.proofs.lemmas.Float.{T_from_true}
use Rattle.pass_plain.specs.Registries.{Names, renamed}
use Rattle.pass_plain.proofs.NameMaps.{map_without, insert_removed, same_texts}
use Rattle.pass_registry.specs.Outcomes.{displaced}
use Rattle.pass_registry.specs.Places.{Entries, IsAscending, map_of, without}

is_true : (b : Bool) → T b → b ≡ true
is_true true t = refl
is_true false t = absurd t

-- what is found among entries is what their map has
pub found_is : (name : List ℕ) (es : Entries) → find (slice_cmp nat_cmp) name es ≡ get (map_of es) name
found_is name es = sym (get-from_entries nat_list_cmp_total es name)

pub ascending_put : (name : List ℕ) (file : ℕ) (es : Entries) → IsAscending es → IsAscending (put (slice_cmp nat_cmp) name file es)
ascending_put name file es ascending = is_true _ (is_sorted-put (slice_cmp nat_cmp) nat_list_cmp_total name file es (T_from_true _ ascending))

pub ascending_without : (name : List ℕ) (es : Entries) → IsAscending es → IsAscending (without name es)
ascending_without name es ascending = is_true _ (is_sorted-where_key (slice_cmp nat_cmp) (λ x. not (eq_by_cmp (slice_cmp nat_cmp) name x)) es (T_from_true _ ascending))

pub map_put : (name : List ℕ) (file : ℕ) (es : Entries) → map_of (put (slice_cmp nat_cmp) name file es) ≡ insert (map_of es) name file
map_put name file es =
    same_map nat_list_cmp_total (slice_cmp-IsAntisymmetric nat_cmp-IsAntisymmetric) _ _
    (λ q. get-from_entries nat_list_cmp_total (put (slice_cmp nat_cmp) name file es) q ∙ find-put (slice_cmp nat_cmp) nat_list_cmp_total q name file es
    ∙ ap (cond (eq_by_cmp (slice_cmp nat_cmp) q name) (Some file)) (found_is q es) ∙ sym (get-insert nat_list_cmp_total (map_of es) name file q))

pub get_removed : (m : Names) (name : List ℕ) → get (remove m name) name ≡ None
get_removed m name = get-remove nat_list_cmp_total m name name ∙ ap (λ r. cond (is_eq r) None (get m name)) (tied_itself nat_list_cmp_total name)

-- a name that was taken out isn't there
pub free_without : (name : List ℕ) (es : Entries) → find (slice_cmp nat_cmp) name (without name es) ≡ None
free_without name es = found_is name (without name es) ∙ ap (λ (m : Names). get m name) (map_without name es) ∙ get_removed (map_of es) name

counted : (b : Bool) (a n : ℕ) → cond b n (n + 1) ≡ a → b ≡ false → a ≡ n + 1
counted true a n e f = absurd (cc)
counted false a n e f = sym e

-- a new name makes the entries one longer
pub longer : (name : List ℕ) (file : ℕ) (es : Entries) → IsAscending es → find (slice_cmp nat_cmp) name es ≡ None → length (put (slice_cmp nat_cmp) name file es) ≡ length es + 1
longer name file es ascending free =
    counted _ _ _ (sym (length-put (slice_cmp nat_cmp) nat_list_cmp_total name file es (T_from_true _ ascending))) (ap is_some free)

fewer_or_same : (b : Bool) (a n : ℕ) → cond b 1 0 + a ≡ n → a ≤ n
fewer_or_same true a n e = omega arith
fewer_or_same false a n e = omega arith

one_fewer : (b : Bool) (a n : ℕ) → cond b 1 0 + a ≡ n → b ≡ true → a + 1 ≡ n
one_fewer true a n e t = omega arith
one_fewer false a n e t = absurd (cc)

pub no_longer : (name : List ℕ) (es : Entries) → IsAscending es → length (without name es) ≤ length es
no_longer name es ascending = fewer_or_same _ _ _ (length_without (slice_cmp nat_cmp) nat_list_cmp_total name es (T_from_true _ ascending))

-- a name that goes makes them one shorter
pub shorter : (name : List ℕ) (file : ℕ) (es : Entries) → IsAscending es → find (slice_cmp nat_cmp) name es ≡ Some file → length (without name es) + 1 ≡ length es
shorter name file es ascending found = one_fewer _ _ _ (length_without (slice_cmp nat_cmp) nat_list_cmp_total name es (T_from_true _ ascending)) (ap is_some found)

-- the name goes, then the other one, and then that one gets the file
pub map_renamed : (from to : List ℕ) (file : ℕ) (es : Entries) → get (map_of es) from ≡ Some file
    → map_of (put (slice_cmp nat_cmp) to file (without to (without from es))) ≡ renamed (map_of es) from to
map_renamed from to file es has =
    map_put to file (without to (without from es))
    ∙ ap (λ (m : Names). insert m to file) (map_without to (without from es) ∙ ap (λ (m : Names). remove m to) (map_without from es))
    ∙ insert_removed (remove (map_of es) from) to file
    ∙ ap (λ (o : Option ℕ). option_map_or (λ f. insert (remove (map_of es) from) to f) o (map_of es)) (sym has)

pub found_displaced : (from to : List ℕ) (es : Entries) → find (slice_cmp nat_cmp) to (without from es) ≡ displaced (map_of es) from to
found_displaced from to es = found_is to (without from es) ∙ ap (λ (m : Names). get m to) (map_without from es)

-- a name that has the file already
pub insert_same : (m : Names) (name : List ℕ) (file : ℕ) → get m name ≡ Some file → insert m name file ≡ m
insert_same m name file has =
    same_map nat_list_cmp_total (slice_cmp-IsAntisymmetric nat_cmp-IsAntisymmetric) _ _
    (λ q. get-insert nat_list_cmp_total m name file q ∙ by_test q (eq_by_cmp (slice_cmp nat_cmp) q name) refl)
  where
    by_test : (q : List ℕ) (b : Bool) → eq_by_cmp (slice_cmp nat_cmp) q name ≡ b → cond b (Some file) (get m q) ≡ get m q
    by_test q true e = sym has ∙ ap (get m) (sym (same_texts q name e))
    by_test q false e = refl

-- a file that gets its own name again
pub renamed_same : (m : Names) (name : List ℕ) (file : ℕ) → get m name ≡ Some file → renamed m name name ≡ m
renamed_same m name file has =
    ap (λ (o : Option ℕ). option_map_or (λ f. insert (remove m name) name f) o m) has ∙ insert_removed m name file ∙ insert_same m name file has

-- a name that isn't there
pub remove_free : (m : Names) (name : List ℕ) → get m name ≡ None → remove m name ≡ m
remove_free m name free =
    same_map nat_list_cmp_total (slice_cmp-IsAntisymmetric nat_cmp-IsAntisymmetric) _ _
    (λ q. get-remove nat_list_cmp_total m name q ∙ by_test q (eq_by_cmp (slice_cmp nat_cmp) q name) refl)
  where
    by_test : (q : List ℕ) (b : Bool) → eq_by_cmp (slice_cmp nat_cmp) q name ≡ b → cond b None (get m q) ≡ get m q
    by_test q true e = sym free ∙ ap (get m) (sym (same_texts q name e))
    by_test q false e = refl
