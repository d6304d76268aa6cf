-- The files of a list, one record after the other.
use Rattle.std.proofs.Common.{◌≡◌, ◌∙◌, ◌==◌, ◌&&◌, ◌+◌, ◌<◌, ◌≤◌, ℕ, Bool, true, false, not, cond, List, [], ◌∷◌, ◌++◌, length, refl, sym, ap, arith, length-append}
use Rattle.std.specs.Prelude.{Option, Some, None, is_some, is_none, option_map, nat_le, nat_lt, count_by, filter_map, if◌then◌else◌}
use Rattle.std.specs.List.{position_from, cons_option}
use Rattle.std.specs.Ordering.{nat_cmp}
use Rattle.std.specs.BTreeMap.{BTreeMap, get}
use Rattle.std.proofs.lemmas.List.Sums.{fold-append}
use Rattle.std.proofs.lemmas.List.Elements.{filter_map-append}
use Rattle.pass_entry.specs.declared.objects.Kind.{Kind}
use Rattle.pass_entry.specs.declared.objects.Kind.TheVariants as kind
use Rattle.pass_entry.specs.declared.record.Record.{Record}
use Rattle.pass_entry.specs.declared.record.Record.TheVariants as log
use Rattle.pass_entry.specs.declared.record.FlawReason.TheVariants as flaw
use Rattle.pass_plain.specs.Registries.{same_kind, is_limited}
use Rattle.pass_plain.specs.WellLogged.{kind_look, kind_of, size_look, size_of, has_kind, is_known, is_file_of, ceiling_of, flaw_if, flaw_of, IsWellLogged}
use Rattle.pass_plain.proofs.Lists.{not_false, same_numbers, same_itself}
use Rattle.pass_plain.proofs.Flaws.{unflawed}
use Rattle.std.proofs.lemmas.Bool.Decides.{nat_tests}
use Rattle.std.proofs.lemmas.List.{append-nil}
use Rattle.pass_range.specs.declared.table.TableFile.{TableFile}
use Rattle.pass_range.specs.Rows.{file_made, files_of, number_of}
use Rattle.pass_range.specs.Tables.{file_of, file_look, file_more, with_size}
use Rattle.pass_range.proofs.Logged.{logged_induction, position_left, position_right}

-- nothing is said of an object that no record makes
abbrev pub IsQuiet : List Record → Type 0
IsQuiet list = (pnode : ℕ) → is_known list pnode ≡ false → (number_of list pnode ≡ None) × (size_of list pnode ≡ 0)

module _ (list : List Record) (r : Record) where
  pub size-next : (pnode : ℕ) → size_of (list ++ r ∷ []) pnode ≡ size_look pnode (size_of list pnode) r
  size-next pnode = fold-append (size_look pnode) 0 list (r ∷ [])

  pub kind-next : (pnode : ℕ) → kind_of (list ++ r ∷ []) pnode ≡ kind_look pnode (kind_of list pnode) r
  kind-next pnode = fold-append (kind_look pnode) None list (r ∷ [])

  pub files-next : files_of (list ++ r ∷ []) ≡ files_of list ++ filter_map file_made (r ∷ [])
  files-next = filter_map-append file_made list (r ∷ [])

  -- a record that makes no file
  pub number-other : (pnode : ℕ) → filter_map file_made (r ∷ []) ≡ [] → number_of (list ++ r ∷ []) pnode ≡ number_of list pnode
  number-other pnode none = ap (position_from (λ file. file == pnode) 0) (files-next ∙ ap (λ (l : List ℕ). files_of list ++ l) none ∙ append-nil (files_of list))

  -- one that makes another file
  pub number-apart : (pnode made : ℕ) → filter_map file_made (r ∷ []) ≡ made ∷ [] → (made == pnode) ≡ false → number_of (list ++ r ∷ []) pnode ≡ number_of list pnode
  number-apart pnode made makes apart =
      ap (position_from (λ file. file == pnode) 0) (files-next ∙ ap (λ (l : List ℕ). files_of list ++ l) makes) ∙ by_place (number_of list pnode) refl
    where
      by_place : (o : Option ℕ) → number_of list pnode ≡ o → position_from (λ file. file == pnode) 0 (files_of list ++ made ∷ []) ≡ o
      by_place (Some n) is = position_left (λ file. file == pnode) 0 (files_of list) (made ∷ []) n is
      by_place None is = position_right (λ file. file == pnode) 0 (files_of list) (made ∷ []) is ∙ ap (λ (t : Bool). cond t (Some (0 + length (files_of list))) None) apart

  -- one that makes this file, which none made before
  pub number-here : (pnode : ℕ) → filter_map file_made (r ∷ []) ≡ pnode ∷ [] → number_of list pnode ≡ None → number_of (list ++ r ∷ []) pnode ≡ Some (length (files_of list))
  number-here pnode makes none =
      ap (position_from (λ file. file == pnode) 0) (files-next ∙ ap (λ (l : List ℕ). files_of list ++ l) makes)
      ∙ position_right (λ file. file == pnode) 0 (files_of list) (pnode ∷ []) none
      ∙ ap (λ (t : Bool). cond t (Some (0 + length (files_of list))) None) (same_itself pnode)
      ∙ ap (λ (n : ℕ). Some n) (let z : 0 + length (files_of list) ≡ length (files_of list) = omega arith in z)

-- the object of a record that passes its tests
known_size : (list : List Record) (pnode size : ℕ) → flaw_of list (log.Size pnode size) ≡ None → is_known list pnode ≡ true
known_size list pnode size passes =
    not_false (is_known list pnode) (unflawed (not (is_known list pnode)) flaw.Unknown (flaw_if (not (is_file_of list pnode)) flaw.Kind None) passes).0

pub new_object : (list : List Record) (pnode : ℕ) (k : Kind) → flaw_of list (log.Object pnode k) ≡ None → is_known list pnode ≡ false
new_object list pnode k passes =
    (unflawed (is_known list pnode) flaw.Known (flaw_if (nat_lt (ceiling_of list) pnode) flaw.Ceiling (flaw_if (is_limited k && nat_le 1024 (count_by (has_kind k) list)) flaw.Many None)) passes).0

-- fewer files than the most were made before a file
pub few_before : (list : List Record) (pnode : ℕ) → flaw_of list (log.Object pnode kind.File) ≡ None → count_by (has_kind kind.File) list < 1024
few_before list pnode passes =
    let rest = (unflawed (is_known list pnode) flaw.Known (flaw_if (nat_lt (ceiling_of list) pnode) flaw.Ceiling (flaw_if (nat_le 1024 (count_by (has_kind kind.File) list)) flaw.Many None)) passes).1 in
    let last = (unflawed (nat_lt (ceiling_of list) pnode) flaw.Ceiling (flaw_if (nat_le 1024 (count_by (has_kind kind.File) list)) flaw.Many None) rest).1 in
    few (count_by (has_kind kind.File) list) (unflawed (nat_le 1024 (count_by (has_kind kind.File) list)) flaw.Many None last).0
  where
    few : (n : ℕ) → nat_le 1024 n ≡ false → n < 1024
    few n h = grind (arith, nat_tests)

pub quiet_next : (list : List Record) (r : Record) → IsQuiet list → flaw_of list r ≡ None → IsQuiet (list ++ r ∷ [])
quiet_next list (log.Object made k) quiet passes = λ pnode unknown. by_test pnode (made == pnode) refl (ap is_some (sym (kind-next list (log.Object made k) pnode)) ∙ unknown)
  where
    by_kind : (pnode : ℕ) → (made == pnode) ≡ false → (t : Bool) → same_kind k kind.File ≡ t → number_of (list ++ log.Object made k ∷ []) pnode ≡ number_of list pnode
    by_kind pnode apart true file = number-apart list (log.Object made k) pnode made (ap (λ (t : Bool). cons_option (if t then Some made else None) []) file) apart
    by_kind pnode apart false file = number-other list (log.Object made k) pnode (ap (λ (t : Bool). cons_option (if t then Some made else None) []) file)

    by_test : (pnode : ℕ) (t : Bool) → (made == pnode) ≡ t → is_some (if t then Some k else kind_of list pnode) ≡ false
        → (number_of (list ++ log.Object made k ∷ []) pnode ≡ None) × (size_of (list ++ log.Object made k ∷ []) pnode ≡ 0)
    by_test pnode true same unknown = absurd (cc)
    by_test pnode false apart unknown = (by_kind pnode apart (same_kind k kind.File) refl ∙ (quiet pnode unknown).0, size-next list (log.Object made k) pnode ∙ (quiet pnode unknown).1)
quiet_next list (log.Size one size) quiet passes = λ pnode unknown.
    let before : is_known list pnode ≡ false = ap is_some (sym (kind-next list (log.Size one size) pnode)) ∙ unknown in
    (number-other list (log.Size one size) pnode refl ∙ (quiet pnode before).0, size-next list (log.Size one size) pnode ∙ by_test pnode (one == pnode) refl before)
  where
    by_test : (pnode : ℕ) (t : Bool) → (one == pnode) ≡ t → is_known list pnode ≡ false → (if t then size else size_of list pnode) ≡ 0
    by_test pnode true same before = absurd (clash (sym (known_size list one size passes) ∙ ap (is_known list) (same_numbers one pnode same) ∙ before))
      where
        clash : true ≡ false → ⊥
        clash e = absurd (cc)
    by_test pnode false apart before = (quiet pnode before).1
quiet_next list r quiet passes = λ pnode unknown.
    let before : is_known list pnode ≡ false = ap is_some (sym (kind-next list r pnode)) ∙ unknown in
    (number-other list r pnode refl ∙ (quiet pnode before).0, size-next list r pnode ∙ (quiet pnode before).1)

-- of a well logged list
pub quiet : (list : List Record) → IsWellLogged list → IsQuiet list
quiet list logged = logged_induction IsQuiet (λ pnode unknown. (refl, refl)) quiet_next list logged

-- a file with this number and size
abbrev file_at : Option ℕ → ℕ → Option TableFile
file_at o size = option_map (λ n. record { number = n; size = size }) o

-- a file of the list after one record more
pub file_of-next : (list : List Record) (r : Record) → IsQuiet list → flaw_of list r ≡ None → (pnode : ℕ) → file_of (list ++ r ∷ []) pnode ≡ file_look (length (files_of list)) pnode (file_of list pnode) r
file_of-next list (log.Object made k) quiet passes pnode = by_tests (same_kind k kind.File) (made == pnode) refl refl
  where
    sized : size_of (list ++ log.Object made k ∷ []) pnode ≡ size_of list pnode
    sized = size-next list (log.Object made k) pnode

    by_tests : (s t : Bool) → same_kind k kind.File ≡ s → (made == pnode) ≡ t
        → file_of (list ++ log.Object made k ∷ []) pnode ≡ (if s && t then Some (record { number = length (files_of list); size = 0 }) else file_of list pnode)
    by_tests true true file same =
        let here : made ≡ pnode = same_numbers made pnode same in
        let none = quiet pnode (ap (is_known list) (sym here) ∙ new_object list made k passes) in
        ap (λ (o : Option ℕ). file_at o (size_of (list ++ log.Object made k ∷ []) pnode))
        (number-here list (log.Object made k) pnode (ap (λ (t : Bool). cons_option (if t then Some made else None) []) file ∙ ap (λ (i : ℕ). i ∷ []) here) none.0)
        ∙ ap (λ (n : ℕ). file_at (Some (length (files_of list))) n) (sized ∙ none.1)
    by_tests true false file apart =
        ap (λ (o : Option ℕ). file_at o (size_of (list ++ log.Object made k ∷ []) pnode))
        (number-apart list (log.Object made k) pnode made (ap (λ (t : Bool). cons_option (if t then Some made else None) []) file) apart)
        ∙ ap (λ (n : ℕ). file_at (number_of list pnode) n) sized
    by_tests false t file any =
        ap (λ (o : Option ℕ). file_at o (size_of (list ++ log.Object made k ∷ []) pnode))
        (number-other list (log.Object made k) pnode (ap (λ (t : Bool). cons_option (if t then Some made else None) []) file))
        ∙ ap (λ (n : ℕ). file_at (number_of list pnode) n) sized
file_of-next list (log.Size one size) quiet passes pnode =
    ap (λ (o : Option ℕ). option_map (λ n. record { number = n; size = size_of (list ++ log.Size one size ∷ []) pnode }) o) (number-other list (log.Size one size) pnode refl)
    ∙ ap (λ (s : ℕ). option_map (λ n. record { number = n; size = s }) (number_of list pnode)) (size-next list (log.Size one size) pnode) ∙ by_test (one == pnode) (number_of list pnode)
  where
    by_test : (t : Bool) (o : Option ℕ) → option_map (λ n. record { number = n; size = if t then size else size_of list pnode }) o
        ≡ (if t then option_map (with_size size) (option_map (λ n. record { number = n; size = size_of list pnode }) o) else option_map (λ n. record { number = n; size = size_of list pnode }) o)
    by_test true None = refl
    by_test true (Some n) = refl
    by_test false o = refl
file_of-next list r quiet passes pnode =
    ap (λ (o : Option ℕ). option_map (λ n. record { number = n; size = size_of (list ++ r ∷ []) pnode }) o) (number-other list r pnode refl)
    ∙ ap (λ (s : ℕ). option_map (λ n. record { number = n; size = s }) (number_of list pnode)) (size-next list r pnode)

-- how many files there are after one record more
pub files-more : (list : List Record) (r : Record) (files : BTreeMap ℕ TableFile) → IsQuiet list → flaw_of list r ≡ None → ((pnode : ℕ) → get nat_cmp files pnode ≡ file_of list pnode)
    → length (files_of (list ++ r ∷ [])) ≡ length (files_of list) + file_more files r
files-more list (log.Object made k) files quiet passes look =
    let none : get nat_cmp files made ≡ None = look made ∙ ap (λ (o : Option ℕ). file_at o (size_of list made)) (quiet made (new_object list made k passes)).0 in
    ap length (files-next list (log.Object made k)) ∙ length-append (files_of list) (filter_map file_made (log.Object made k ∷ []))
    ∙ ap (λ (n : ℕ). length (files_of list) + n) (by_test (same_kind k kind.File) (get nat_cmp files made) none)
  where
    by_test : (t : Bool) (o : Option TableFile) → o ≡ None → length (cons_option (if t then Some made else None) []) ≡ (if t && is_none o then 1 else 0)
    by_test true None none = refl
    by_test true (Some file) none = absurd (cc)
    by_test false o none = refl
files-more list r files quiet passes look = ap length (files-next list r) ∙ length-append (files_of list) []

-- a well logged list has at most 1,024 files
abbrev IsFew : List Record → Type 0
IsFew list = (length (files_of list) ≡ count_by (has_kind kind.File) list) × (length (files_of list) ≤ 1024)

pub few_files : (list : List Record) → IsWellLogged list → length (files_of list) ≤ 1024
few_files list logged = (logged_induction IsFew (refl, omega arith) more list logged).1
  where
    counted : (list : List Record) (r : Record) → count_by (has_kind kind.File) (list ++ r ∷ []) ≡ count_by (has_kind kind.File) list + cond (has_kind kind.File r) 1 0
    counted list r = fold-append (λ (n : ℕ) (x : Record). n + cond (has_kind kind.File x) 1 0) 0 list (r ∷ [])

    by_kind : (list : List Record) (made : ℕ) (k : Kind) → IsFew list → flaw_of list (log.Object made k) ≡ None
        → length (files_of (list ++ log.Object made k ∷ [])) ≡ length (files_of list) + length (filter_map file_made (log.Object made k ∷ []))
        → count_by (has_kind kind.File) (list ++ log.Object made k ∷ []) ≡ count_by (has_kind kind.File) list + cond (same_kind k kind.File) 1 0
        → IsFew (list ++ log.Object made k ∷ [])
    by_kind list made kind.File few passes long count = (omega (arith, long, count, few.0), omega (arith, long, few_before list made passes, few.0))
    by_kind list made k few passes long count = (omega (arith, long, count, few.0), omega (arith, long, few.1))

    more : (list : List Record) (r : Record) → IsFew list → flaw_of list r ≡ None → IsFew (list ++ r ∷ [])
    more list (log.Object made k) few passes =
        by_kind list made k few passes (ap length (files-next list (log.Object made k)) ∙ length-append (files_of list) (filter_map file_made (log.Object made k ∷ []))) (counted list (log.Object made k))
    more list r few passes =
        let long = ap length (files-next list r) ∙ length-append (files_of list) [] in
        (omega (arith, long, counted list r, few.0), omega (arith, long, few.1))
