-- The ceiling and the versions of a well logged list rise with its length.
use Rattle.std.proofs.Common.{ℕ, ◌≡◌, ◌≤◌, ◌+◌, ◌*◌, ◌==◌, Bool, true, false, ◌||◌, refl, ap, ◌∙◌, List, [], ◌∷◌, ◌++◌, arith}
use Rattle.std.specs.Prelude.{None, nat_lt, nat_le, if◌then◌else◌}
use Rattle.std.proofs.lemmas.List.Sums.{sum_by_push}
use Rattle.pass_entry.specs.declared.record.Record.{Record}
use Rattle.pass_entry.specs.declared.record.Record.TheVariants as log
use Rattle.pass_entry.specs.declared.record.FlawReason.TheVariants as flaw
use Rattle.pass_entry.specs.Lengths.{record_length}
use Rattle.pass_plain.specs.WellLogged.{version_look, current_of, ceiling_look, ceiling_of, flaw_of}
use Rattle.pass_plain.proofs.Lists.{or_false, not_below, same_numbers}
use Rattle.pass_plain.proofs.Flaws.{unflawed}
use Rattle.pass_graph.specs.Bounds.{records_length, CeilingLengthLaw, VersionLengthLaw, CeilingRoomLaw, VersionRoomLaw}
use Rattle.pass_graph.proofs.Accepting.{current_more, ceiling_more}
use Rattle.pass_graph.proofs.Ranking.{good_version, logged_induction}

-- what holds of a list's ceiling and length
abbrev IsLow : List Record → Type 0
IsLow list = 9 * ceiling_of list ≤ 8192 * records_length list

module _ (list : List Record) (r : Record) (low : IsLow list) where
  abbrev more : List Record
  more = list ++ r ∷ []

  longer : records_length more ≡ records_length list + record_length r
  longer = sum_by_push record_length list r

  stays : ceiling_look (ceiling_of list) r ≡ ceiling_of list → IsLow more
  stays same = let c = ceiling_more list r ∙ same in let l = longer in omega (arith, c, l)

low_next : (list : List Record) (r : Record) → IsLow list → flaw_of list r ≡ None → IsLow (list ++ r ∷ [])
low_next list (log.Ceiling p) low fine =
    let tests = (unflawed (nat_le p (ceiling_of list) || nat_lt (ceiling_of list + 8192) p) flaw.Ceiling None fine).0 in
    let few : p ≤ ceiling_of list + 8192 = not_below (ceiling_of list + 8192) p (or_false (nat_le p (ceiling_of list)) _ tests).1 in
    let c : ceiling_of (list ++ log.Ceiling p ∷ []) ≡ p = ceiling_more list (log.Ceiling p) in
    let l : records_length (list ++ log.Ceiling p ∷ []) ≡ records_length list + 9 = longer list (log.Ceiling p) low in
    omega (arith, few, c, l, low)
low_next list (log.Object p k) low fine = stays list (log.Object p k) low refl
low_next list (log.Name p name) low fine = stays list (log.Name p name) low refl
low_next list (log.Attr n attr value) low fine = stays list (log.Attr n attr value) low refl
low_next list (log.Input t n) low fine = stays list (log.Input t n) low refl
low_next list (log.Version n) low fine = stays list (log.Version n) low refl
low_next list (log.Size p size) low fine = stays list (log.Size p size) low refl
low_next list (log.Digest p block sum) low fine = stays list (log.Digest p block sum) low refl

pub ceiling_length_law : CeilingLengthLaw
ceiling_length_law list logged = logged_induction IsLow low_next [] list (omega arith) logged

-- what holds of an object's version and the list's length
abbrev IsYoung : ℕ → List Record → Type 0
IsYoung o list = 17 * current_of list o ≤ 17 + records_length list

module _ (o : ℕ) where
  unchanged : (list : List Record) (r : Record) → IsYoung o list → version_look o (current_of list o) r ≡ current_of list o → IsYoung o (list ++ r ∷ [])
  unchanged list r young same = let c = current_more list r o ∙ same in let l = sum_by_push record_length list r in omega (arith, c, l, young)

  young_next : (list : List Record) (r : Record) → IsYoung o list → flaw_of list r ≡ None → IsYoung o (list ++ r ∷ [])
  young_next list (log.Version n) young fine = at_test (n.pnode == o) refl
    where
      at_test : (b : Bool) → (n.pnode == o) ≡ b → IsYoung o (list ++ log.Version n ∷ [])
      at_test true same =
          let c : current_of (list ++ log.Version n ∷ []) o ≡ n.version = current_more list (log.Version n) o ∙ ap (λ b. if b then n.version else current_of list o) same in
          let l : records_length (list ++ log.Version n ∷ []) ≡ records_length list + 17 = sum_by_push record_length list (log.Version n) in
          let v : n.version ≡ current_of list o + 1 = good_version list n fine ∙ ap (λ p. current_of list p + 1) (same_numbers n.pnode o same) in
          omega (arith, c, l, v, young)
      at_test false other = unchanged list (log.Version n) young (ap (λ b. if b then n.version else current_of list o) other)
  young_next list (log.Object p k) young fine = unchanged list (log.Object p k) young refl
  young_next list (log.Name p name) young fine = unchanged list (log.Name p name) young refl
  young_next list (log.Attr n attr value) young fine = unchanged list (log.Attr n attr value) young refl
  young_next list (log.Input t n) young fine = unchanged list (log.Input t n) young refl
  young_next list (log.Size p size) young fine = unchanged list (log.Size p size) young refl
  young_next list (log.Digest p block sum) young fine = unchanged list (log.Digest p block sum) young refl
  young_next list (log.Ceiling p) young fine = unchanged list (log.Ceiling p) young refl

pub version_length_law : VersionLengthLaw
version_length_law list logged o = logged_induction (IsYoung o) (young_next o) [] list (omega arith) logged

pub ceiling_room_law : CeilingRoomLaw
ceiling_room_law list logged short = let c = ceiling_length_law list logged in omega (arith, c, short)

pub version_room_law : VersionRoomLaw
version_room_law list logged short o = let v = version_length_law list logged o in omega (arith, v, short)
