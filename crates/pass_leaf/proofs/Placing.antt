-- Where files have their leaves, and what these make.
use Rattle.std.proofs.Common.{◌≡◌, ◌∙◌, ◌==◌, ◌<◌, ◌≤◌, ◌+◌, ◌-◌, ◌++◌, ℕ, zero, suc, Bool, true, false, List, [], ◌∷◌, length, take, drop, get_or, refl, sym, ap, subst, arith, append_assoc, append-nil, length-append, take-append-drop}
use Rattle.std.specs.declared.alloc.Global.{Global}
use Rattle.std.specs.Prelude.{Vec, Option, Some, None, IfSome, fold, slice_get, if◌then◌else◌}
use Rattle.std.specs.Option.{option_map_or}
use Rattle.std.specs.BTreeMap.{BTreeMap}
use Rattle.std.proofs.lemmas.List.{take_all}
use Rattle.std.proofs.lemmas.List.Sums.{fold_more}
use Rattle.std.proofs.lemmas.Option.{get_or_from_slice_get, slice_get_read, slice_get-get_or, slice_get_within}
use Rattle.pass_entry.proofs.Lists.{same_numbers, some_is}
use Rattle.pass_entry.proofs.Places.{slice_get-last}
use Rattle.pass_plain.proofs.Appends.{slice_get-append}
use Rattle.pass_leaf.specs.Leaves.{Leaf}
use Rattle.pass_leaf.specs.Contents.{laid, last_content, last_version}
use Rattle.pass_leaf.specs.Places.{places_from, places_of, laid_at, ArePlaces, places_at}

-- the places of a file's leaves with one leaf more
pushed : (a b : Bool) (k n : ℕ) (old new : List ℕ) → new ≡ (if b then old ++ n ∷ [] else old) → (if a then k ∷ new else new) ≡ (if b then (if a then k ∷ old else old) ++ n ∷ [] else (if a then k ∷ old else old))
pushed true true k n old new is = ap (λ (l : List ℕ). k ∷ l) is
pushed true false k n old new is = ap (λ (l : List ℕ). k ∷ l) is
pushed false true k n old new is = is
pushed false false k n old new is = is

places_from-push : (k : ℕ) (leaves : List Leaf) (leaf : Leaf) (pnode : ℕ) → places_from k (leaves ++ leaf ∷ []) pnode ≡ (if leaf.node.pnode == pnode then places_from k leaves pnode ++ (k + length leaves) ∷ [] else places_from k leaves pnode)
places_from-push k [] leaf pnode =
    let same : k ≡ k + 0 = omega arith in
    ap (λ (n : ℕ). if leaf.node.pnode == pnode then n ∷ [] else []) same
places_from-push k (one ∷ leaves) leaf pnode =
    let after : List ℕ = places_from (k + 1) leaves pnode in
    let same : (k + 1) + length leaves ≡ k + length (one ∷ leaves) = omega arith in
    pushed (one.node.pnode == pnode) (leaf.node.pnode == pnode) k (k + length (one ∷ leaves)) after (places_from (k + 1) (leaves ++ leaf ∷ []) pnode)
    (places_from-push (k + 1) leaves leaf pnode ∙ ap (λ (n : ℕ). if leaf.node.pnode == pnode then after ++ n ∷ [] else after) same)

pub places-push : (leaves : List Leaf) (leaf : Leaf) (pnode : ℕ) → places_of (leaves ++ leaf ∷ []) pnode ≡ (if leaf.node.pnode == pnode then places_of leaves pnode ++ length leaves ∷ [] else places_of leaves pnode)
places-push leaves leaf pnode =
    let same : 0 + length leaves ≡ length leaves = omega arith in
    places_from-push 0 leaves leaf pnode ∙ ap (λ (n : ℕ). if leaf.node.pnode == pnode then places_of leaves pnode ++ n ∷ [] else places_of leaves pnode) same

-- What is made of a file's leaves one after the other is made of those at its places.
module _ {B : Type 0} (make : B → Leaf → B) where
  abbrev of_file : ℕ → B → Leaf → B
  of_file pnode old leaf = if leaf.node.pnode == pnode then make old leaf else old

  abbrev at_place : List Leaf → B → ℕ → B
  at_place leaves old place = option_map_or (make old) (slice_get leaves place) old

  made_if : (b : Bool) (all leaves : List Leaf) (leaf : Leaf) (k pnode : ℕ) (old : B) (places : List ℕ) → slice_get all k ≡ Some leaf → ((now : B) → fold (at_place all) now places ≡ fold (of_file pnode) now leaves)
      → fold (at_place all) old (if b then k ∷ places else places) ≡ fold (of_file pnode) (if b then make old leaf else old) leaves
  made_if true all leaves leaf k pnode old places at rest = ap (λ (o : Option Leaf). fold (at_place all) (option_map_or (make old) o old) places) at ∙ rest (make old leaf)
  made_if false all leaves leaf k pnode old places at rest = rest old

  made_from : (front leaves more : List Leaf) (pnode : ℕ) (old : B) → fold (at_place (front ++ (leaves ++ more))) old (places_from (length front) leaves pnode) ≡ fold (of_file pnode) old leaves
  made_from front [] more pnode old = refl
  made_from front (leaf ∷ leaves) more pnode old =
      let all : List Leaf = front ++ leaf ∷ (leaves ++ more) in
      let same : (front ++ leaf ∷ []) ++ (leaves ++ more) ≡ all = append_assoc front (leaf ∷ []) (leaves ++ more) in
      let next : length (front ++ leaf ∷ []) ≡ length front + 1 = length-append front (leaf ∷ []) in
      made_if (leaf.node.pnode == pnode) all leaves leaf (length front) pnode old (places_from (length front + 1) leaves pnode)
      (ap (λ (l : List Leaf). slice_get l (length front)) (sym same) ∙ slice_get-append (front ++ leaf ∷ []) (leaves ++ more) (length front) leaf (slice_get-last front leaf))
      (λ now. ap (λ (l : List Leaf). fold (at_place l) now (places_from (length front + 1) leaves pnode)) (sym same)
      ∙ ap (λ (n : ℕ). fold (at_place ((front ++ leaf ∷ []) ++ (leaves ++ more))) now (places_from n leaves pnode)) (sym next)
      ∙ made_from (front ++ leaf ∷ []) leaves more pnode now)

  made_by : (leaves : List Leaf) (pnode : ℕ) (old : B) → fold (at_place leaves) old (places_of leaves pnode) ≡ fold (of_file pnode) old leaves
  made_by leaves pnode old = ap (λ (l : List Leaf). fold (at_place l) old (places_of leaves pnode)) (sym (append-nil leaves)) ∙ made_from [] leaves [] pnode old

laid_front : (leaves more : List Leaf) (pnode : ℕ) → fold (laid_at (leaves ++ more)) [] (places_of leaves pnode) ≡ last_content leaves pnode
laid_front leaves more pnode = made_from laid [] leaves more pnode []

pub laid_all : (leaves : List Leaf) (pnode : ℕ) → fold (laid_at leaves) [] (places_of leaves pnode) ≡ last_content leaves pnode
laid_all leaves pnode = made_by laid leaves pnode []

-- the leaf at a place of a file
place_if : (b : Bool) (first k at : ℕ) (places : List ℕ) (P : ℕ → Type 0) → (b ≡ true → P first) → ((j : ℕ) → slice_get places j ≡ Some at → P at) → slice_get (if b then first ∷ places else places) k ≡ Some at → P at
place_if true first zero at places P here rest there = subst P (some_is first at there) (here refl)
place_if true first (suc k) at places P here rest there = rest k there
place_if false first k at places P here rest there = rest k there

abbrev IsOf : List Leaf → ℕ → ℕ → Type 0
IsOf all pnode at = (leaf : Leaf) × (slice_get all at ≡ Some leaf) × (leaf.node.pnode ≡ pnode)

place_from : (front leaves : List Leaf) (pnode k at : ℕ) → slice_get (places_from (length front) leaves pnode) k ≡ Some at → IsOf (front ++ leaves) pnode at
place_from front [] pnode k at there = absurd (cc)
place_from front (leaf ∷ leaves) pnode k at there =
    let all : List Leaf = front ++ leaf ∷ leaves in
    let same : (front ++ leaf ∷ []) ++ leaves ≡ all = append_assoc front (leaf ∷ []) leaves in
    let next : length (front ++ leaf ∷ []) ≡ length front + 1 = length-append front (leaf ∷ []) in
    place_if (leaf.node.pnode == pnode) (length front) k at (places_from (length front + 1) leaves pnode) (IsOf all pnode)
    (λ is. (leaf, ap (λ (l : List Leaf). slice_get l (length front)) (sym same) ∙ slice_get-append (front ++ leaf ∷ []) leaves (length front) leaf (slice_get-last front leaf), same_numbers leaf.node.pnode pnode is))
    (λ j is. subst (λ (l : List Leaf). IsOf l pnode at) same (place_from (front ++ leaf ∷ []) leaves pnode j at (ap (λ (n : ℕ). slice_get (places_from n leaves pnode) j) next ∙ is))) there

module _ (leaves : List Leaf) (pnode k : ℕ) (within : k < length (places_of leaves pnode)) where
  abbrev at : ℕ
  at = get_or (places_of leaves pnode) k 0

  pub place_is : (leaf : Leaf) × (slice_get leaves at ≡ Some leaf) × (leaf.node.pnode ≡ pnode)
  place_is = place_from [] leaves pnode k at (slice_get-get_or (places_of leaves pnode) k 0 within)

  pub place_within : at < length leaves
  place_within = slice_get_within leaves at place_is.0 place_is.1

  -- that is read there
  module _ (leaf : Leaf) (is : leaf ≡ get_or leaves at leaf) where
    pub there_is : slice_get leaves at ≡ Some leaf
    there_is = slice_get_read leaves (length leaves) at leaf refl place_within is

    pub file_is : leaf.node.pnode ≡ pnode
    file_is = ap (λ (l : Leaf). l.node.pnode) (some_is leaf place_is.0 (sym there_is ∙ place_is.1)) ∙ place_is.2

-- the last one has the file's last version
abbrev pub version_of : Option Leaf → ℕ
version_of o = option_map_or (λ (l : Leaf). l.node.version) o 0

newest : ℕ → Leaf → ℕ
newest old leaf = leaf.node.version

pub version_is : (leaves : List Leaf) (pnode place : ℕ) → slice_get (places_of leaves pnode) (length (places_of leaves pnode) - 1) ≡ Some place → version_of (slice_get leaves place) ≡ last_version leaves pnode
unfolding newest
version_is leaves pnode place last =
    let places : List ℕ = places_of leaves pnode in
    let k : ℕ = length places - 1 in
    let within : k < length places = slice_get_within places k place last in
    let at : slice_get leaves (get_or places k 0) ≡ Some (place_is leaves pnode k within).0 = (place_is leaves pnode k within).1 in
    let before : ℕ = fold (at_place newest leaves) 0 (take k places) in
    ap (λ (p : ℕ). version_of (slice_get leaves p)) (sym (get_or_from_slice_get places k place 0 last))
    ∙ ap version_of at
    ∙ sym (ap (λ (o : Option Leaf). option_map_or (λ (l : Leaf). l.node.version) o before) at)
    ∙ sym (fold_more (at_place newest leaves) 0 places k 0 within)
    ∙ ap (fold (at_place newest leaves) 0) (take_all (k + 1) places (omega (arith, within)))
    ∙ made_by newest leaves pnode 0

pub no_version : (leaves : List Leaf) (pnode : ℕ) → slice_get (places_of leaves pnode) (length (places_of leaves pnode) - 1) ≡ None → 0 ≡ last_version leaves pnode
unfolding newest
no_version leaves pnode none = by (places_of leaves pnode) refl none
  where
    by : (places : List ℕ) → places_of leaves pnode ≡ places → slice_get places (length places - 1) ≡ None → 0 ≡ last_version leaves pnode
    by [] is none = ap (fold (at_place newest leaves) 0) (sym is) ∙ made_by newest leaves pnode 0
    by (x ∷ xs) is none = let z : Some (get_or (x ∷ xs) (length (x ∷ xs) - 1) 0) ≡ None = sym (slice_get-get_or (x ∷ xs) (length (x ∷ xs) - 1) 0 (omega arith)) ∙ none in absurd (cc z)

-- the places that are in front of one
first_if : (b : Bool) (first k : ℕ) (places : List ℕ) → ((j : ℕ) → j < length places → first + 1 ≤ get_or places j 0) → k < length (if b then first ∷ places else places) → first ≤ get_or (if b then first ∷ places else places) k 0
first_if true first zero places rest within = omega arith
first_if true first (suc k) places rest within = let above : first + 1 ≤ get_or places k 0 = rest k (omega (arith, within)) in omega (arith, above)
first_if false first k places rest within = let above : first + 1 ≤ get_or places k 0 = rest k within in omega (arith, above)

from_first : (first : ℕ) (leaves : List Leaf) (pnode k : ℕ) → k < length (places_from first leaves pnode) → first ≤ get_or (places_from first leaves pnode) k 0
from_first first [] pnode k within = absurd (omega (arith, within))
from_first first (leaf ∷ leaves) pnode k within = first_if (leaf.node.pnode == pnode) first k (places_from (first + 1) leaves pnode) (λ j less. from_first (first + 1) leaves pnode j less) within

-- so many of the places are in front of a bound, and the next one isn't
abbrev IsCutAt : List ℕ → ℕ → ℕ → Type 0
IsCutAt places count bound = (count ≤ length places) × ((k : ℕ) → count ≡ k + 1 → get_or places k 0 < bound) × IfSome (slice_get places count) (λ at. bound ≤ at)

cut_if : (b : Bool) (first bound count : ℕ) (places front : List ℕ) → first < bound → IsCutAt (if b then first ∷ places else places) count bound → ((c : ℕ) → IsCutAt places c bound → take c places ≡ front)
    → take count (if b then first ∷ places else places) ≡ (if b then first ∷ front else front)
cut_if true first bound zero places front less cut rest = absurd (omega (arith, less, cut.2))
cut_if true first bound (suc c) places front less cut rest = ap (λ (l : List ℕ). first ∷ l) (rest c (omega (arith, cut.0), λ k is. cut.1 (suc k) (omega (arith, is)), cut.2))
cut_if false first bound count places front less cut rest = rest count cut

cut_from : (n first bound : ℕ) (leaves : List Leaf) (pnode count : ℕ) → bound ≡ first + n → IsCutAt (places_from first leaves pnode) count bound → take count (places_from first leaves pnode) ≡ places_from first (take n leaves) pnode
cut_from zero first bound leaves pnode zero is cut = refl
cut_from zero first bound leaves pnode (suc c) is cut =
    let less : get_or (places_from first leaves pnode) c 0 < bound = cut.1 c (omega arith) in
    absurd (omega (arith, is, less, from_first first leaves pnode c (omega (arith, cut.0))))
cut_from (suc n) first bound [] pnode count is cut = take_all count [] (omega arith)
cut_from (suc n) first bound (leaf ∷ leaves) pnode count is cut =
    cut_if (leaf.node.pnode == pnode) first bound count (places_from (first + 1) leaves pnode) (places_from (first + 1) (take n leaves) pnode) (omega (arith, is)) cut
    (λ c rest. cut_from n (first + 1) bound leaves pnode c (omega (arith, is)) rest)

-- the leaves of a file up to a place make its content there
pub cut_is : (leaves : List Leaf) (pnode count bound : ℕ) → count ≤ length (places_of leaves pnode) → ((k : ℕ) → count ≡ k + 1 → get_or (places_of leaves pnode) k 0 < bound) → IfSome (slice_get (places_of leaves pnode) count) (λ at. bound ≤ at)
    → fold (laid_at leaves) [] (take count (places_of leaves pnode)) ≡ last_content (take bound leaves) pnode
cut_is leaves pnode count bound few up past =
    ap (fold (laid_at leaves) []) (cut_from bound 0 bound leaves pnode count (omega arith) (few, up, past))
    ∙ ap (λ (l : List Leaf). fold (laid_at l) [] (places_of (take bound leaves) pnode)) (sym (take-append-drop bound leaves))
    ∙ laid_front (take bound leaves) (drop bound leaves) pnode

-- a table behind one leaf more
pub placed_more : (leaves : List Leaf) (leaf : Leaf) (old new : BTreeMap ℕ (Vec ℕ Global)) → ArePlaces leaves old → ((p : ℕ) → places_at new p ≡ (if leaf.node.pnode == p then places_at old p ++ length leaves ∷ [] else places_at old p)) → ArePlaces (leaves ++ leaf ∷ []) new
placed_more leaves leaf old new are noted p = noted p ∙ ap (λ (l : List ℕ). if leaf.node.pnode == p then l ++ length leaves ∷ [] else l) (are p) ∙ sym (places-push leaves leaf p)
