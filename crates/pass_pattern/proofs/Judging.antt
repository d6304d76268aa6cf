-- What a text is that was read up to a place.
use Rattle.std.proofs.Common.{ℕ, ◌≡◌, ◌≤◌, ◌<◌, ◌+◌, true, false, ◌⊎◌, inl, inr, refl, sym, ap, ◌∙◌, subst, List, [], ◌∷◌, ◌++◌, length, take, drop, get_or, arith}
use Rattle.std.specs.Prelude.{Option, Some, None, Ok, Err}
use Rattle.std.proofs.lemmas.Grind.{get_or_default_zero}
use Rattle.std.proofs.lemmas.List.{append-nil, take_all, take-take, take-append-drop, length-take-le}
use Rattle.pass_plain.proofs.Lists.{some_is, at_most, below_or, le_or_above}
use Rattle.pass_plain.proofs.Replays.{take-next}
use Rattle.pass_pattern.specs.declared.reader.Mark.TheVariants as mark
use Rattle.pass_pattern.specs.declared.fault.PatternFault.TheVariants as fault
use Rattle.pass_pattern.specs.declared.reader.Reader.{Reader}
use Rattle.pass_pattern.specs.declared.reader.Refusal.{Refusal}
use Rattle.pass_pattern.specs.declared.reader.Refusal.TheVariants.{Bad, Deep, NoMemory}
use Rattle.pass_pattern.specs.Marks.{mark_of}
use Rattle.pass_pattern.specs.Patterns.{Shape}
use Rattle.pass_pattern.specs.Grammar.{IsText, IsPattern, IsBeginning, IsDeep, IsLong, IsBad, open_from}
use Rattle.pass_pattern.specs.Grammar.Binding.{alt}
use Rattle.pass_pattern.specs.Reading.{Level, State, state, fresh, begun, read_byte, pattern_of, is_full, state_of, fault_of, IsReadOn, IsFinished}
use Rattle.pass_pattern.specs.Reading.Last.{Nothing}
use Rattle.pass_pattern.proofs.Running.{and_on, run, runs_on, stopped, front_run}
use Rattle.pass_pattern.proofs.Accepting.{accepts}
use Rattle.pass_pattern.proofs.Standing.{stands, has_text, begins_so}
use Rattle.pass_pattern.proofs.Opening.{open_behind, ReadsTo, reads_to, refuses, too_many}

abbrev pub first : State
first = state Nothing fresh []

-- so far no more than 64 parentheses were open
abbrev pub AreShallow : List ℕ → ℕ → Type 0
AreShallow text at = (size : ℕ) (t : State) → size ≤ at → run first (take size text) ≡ Some t → length t.outer ≤ 64

-- the reader has read the text up to the place
pub record HasRead (text : List ℕ) (at : ℕ) (t : State) : Type 0 where
  pub is : run first (take at text) ≡ Some t
  pub shallow : AreShallow text at

not_some : {X : Type 0} (x : X) → ◌≡◌ {A = Option X} (Some x) None → ⊥
not_some x is = cc

take_part : (text : List ℕ) (small large : ℕ) → small ≤ large → take large text ≡ take small text ++ drop small (take large text)
take_part text small large low = sym (take-append-drop small (take large text)) ∙ ap (λ xs. xs ++ drop small (take large text)) (take-take small large text low)

-- no pattern begins with more than what stands before a dead end
dead : (text : List ℕ) (at size : ℕ) → run first (take at text) ≡ None → at ≤ size → ¬ (IsBeginning (take size text))
dead text at size none low b =
    let a = accepts b.is.is in
    let z : run first (take size text ++ b.rest) ≡ None =
    ap (λ xs. run first (xs ++ b.rest)) (take_part text at size low) ∙ stopped first (take at text ++ drop at (take size text)) b.rest (stopped first (take at text) (drop at (take size text)) none) in
    not_some a.behind (sym a.is ∙ z)

pattern_begins : (text : List ℕ) → IsPattern text → IsBeginning text
pattern_begins text p = record { rest = []; is = subst IsPattern (sym (append-nil text)) p }

-- what began is not too deep
shallow_open : (text : List ℕ) (size : ℕ) (t : State) → run first (take size text) ≡ Some t → length t.outer ≤ 64 → ¬ (64 < open_from false 0 (take size text))
shallow_open text size t is low deep = let many = open_behind t (take size text) is in omega (arith, many, low, deep)

-- a byte that no pattern has there
pub bad_byte : (text : List ℕ) (at byte : ℕ) (t : State) → length text ≤ 255 → HasRead text at t → at < length text → byte ≡ get_or text at byte → read_byte t byte ≡ None → IsBad text at
bad_byte text at byte t short has within is refused =
    record {
      short = λ long. at_long long;
      none = λ p. over (length text) (omega (arith, within)) (subst IsBeginning (sym (take_all (length text) text (omega arith))) (pattern_begins text p));
      within = omega (arith, within);
      begins = begins_so t (take at text) front_short (stands t (take at text) has.is);
      longest = λ size low up b. over size low b;
    }
  where
    front_short : length (take at text) ≤ 255
    front_short = let size = length-take-le at text (omega (arith, within)) in omega (arith, size, short, within)

    stop : run first (take (at + 1) text) ≡ None
    stop = ap (run first) (take-next text at byte within is) ∙ runs_on first t (take at text) (byte ∷ []) None has.is (ap (λ o. and_on o (λ u. Some u)) refused)

    over : (size : ℕ) → at < size → ¬ (IsBeginning (take size text))
    over size low b = dead text (at + 1) size stop (omega (arith, low)) b

    at_deep : (d : IsDeep text) → (d.size ≤ at) ⊎ (at < d.size) → ⊥
    at_deep d (inl low) =
        let (u, so) = front_run first t (take d.size text) (drop d.size (take at text)) (ap (run first) (sym (take_part text d.size at low)) ∙ has.is) in
        shallow_open text d.size u so (has.shallow d.size u low so) d.deep
    at_deep d (inr over_it) = over d.size over_it d.begins

    at_long : IsLong text → ⊥
    at_long (inl more) = omega (arith, short, more)
    at_long (inr d) = at_deep d (le_or_above d.size at)

-- one parenthesis more than may be open
pub deep_byte : (text : List ℕ) (at byte : ℕ) (level : Level) (outer : List Level) → length text ≤ 255 → HasRead text at (state Nothing level outer) → at < length text → byte ≡ get_or text at byte
    → mark_of byte ≡ mark.Open → is_full outer ≡ true → IsLong text
deep_byte text at byte level outer short has within is opens full =
    inr (record {
      size = at + 1;
      begins = begins_so behind (take (at + 1) text) front_short (stands behind (take (at + 1) text) on);
      deep = let many = open_behind behind (take (at + 1) text) on in let least : 64 ≤ length outer = at_most 64 (length outer) full in omega (arith, many, least);
    })
  where
    behind : State
    behind = state Nothing fresh (level ∷ outer)

    on : run first (take (at + 1) text) ≡ Some behind
    on = ap (run first) (take-next text at byte within is)
        ∙ runs_on first (state Nothing level outer) (take at text) (byte ∷ []) (Some behind) has.is (ap (λ m. and_on (begun level outer m) (λ u. Some u)) opens)

    front_short : length (take (at + 1) text) ≤ 255
    front_short = let size = length-take-le (at + 1) text (omega (arith, within)) in omega (arith, size, short, within)

byte_at : (text : List ℕ) (at : ℕ) → at < length text → get_or text at 0 ≡ get_or text at (get_or text at 0)
byte_at text at within = sym (get_or_default_zero text at (get_or text at 0) within)

same_place : (a b : ℕ) → fault.Bad a ≡ fault.Bad b → a ≡ b
same_place a b is = cc

-- one more byte is read
pub more_read : (text : List ℕ) (at : ℕ) (s : State) (reader : Reader) → HasRead text at s → at < length text → IsReadOn s (get_or text at 0) (Ok reader) → HasRead text (at + 1) (state_of reader)
more_read text at s reader has within read = record { is = on; shallow = λ size t low is. at_size size t is (below_or size (at + 1)) low }
  where
    to : ReadsTo s.last s.level s.outer (get_or text at 0) (state_of reader)
    to = reads_to s.last s.level s.outer (get_or text at 0) reader read

    on : run first (take (at + 1) text) ≡ Some (state_of reader)
    on = ap (run first) (take-next text at (get_or text at 0) within (byte_at text at within))
        ∙ runs_on first s (take at text) (get_or text at 0 ∷ []) (Some (state_of reader)) has.is (ap (λ o. and_on o (λ u. Some u)) to.is)

    at_size : (size : ℕ) (t : State) → run first (take size text) ≡ Some t → (size < at + 1) ⊎ ((at + 1 < size) ⊎ (size ≡ at + 1)) → size ≤ at + 1 → length t.outer ≤ 64
    at_size size t is (inl less) low = has.shallow size t (omega (arith, less)) is
    at_size size t is (inr (inl over)) low = absurd (omega (arith, over, low))
    at_size size t is (inr (inr same)) low =
        let so : state_of reader ≡ t = some_is (state_of reader) t (sym on ∙ ap (λ n. run first (take n text)) (sym same) ∙ is) in
        subst (λ (u : State). length u.outer ≤ 64) so (to.low (has.shallow at s (omega arith) has.is))

-- what a refusal says of the text
pub refused_long : (text : List ℕ) (at : ℕ) (s : State) (refusal : Refusal) → length text ≤ 255 → HasRead text at s → at < length text → IsReadOn s (get_or text at 0) (Err refusal) → fault_of refusal at ≡ fault.Long → IsLong text
refused_long text at s Bad short has within read is = absurd (let z : fault.Bad at ≡ fault.Long = is in cc)
refused_long text at s NoMemory short has within read is = absurd (let z : fault.NoMemory ≡ fault.Long = is in cc)
refused_long text at s Deep short has within read is =
    let many = too_many s.last s.level s.outer (get_or text at 0) read in
    deep_byte text at (get_or text at 0) s.level s.outer short (subst (λ l. HasRead text at (state l s.level s.outer)) many.starts has) within (byte_at text at within) many.opens many.full

pub refused_bad : (text : List ℕ) (at : ℕ) (s : State) (refusal : Refusal) → length text ≤ 255 → HasRead text at s → at < length text → IsReadOn s (get_or text at 0) (Err refusal)
    → (place : ℕ) → fault_of refusal at ≡ fault.Bad place → IsBad text place
refused_bad text at s Deep short has within read place is = absurd (let z : fault.Long ≡ fault.Bad place = is in cc)
refused_bad text at s NoMemory short has within read place is = absurd (let z : fault.NoMemory ≡ fault.Bad place = is in cc)
refused_bad text at s Bad short has within read place is =
    subst (IsBad text) (same_place at place is) (bad_byte text at (get_or text at 0) s short has within (byte_at text at within) (refuses s.last s.level s.outer (get_or text at 0) read))

-- the text is read to its end
module _ (text : List ℕ) (t : State) (short : length text ≤ 255) (has : HasRead text (length text) t) where
  all_read : run first text ≡ Some t
  all_read = ap (run first) (sym (take_all (length text) text (omega arith))) ∙ has.is

  not_long : ¬ (IsLong text)
  not_long (inl more) = omega (arith, short, more)
  not_long (inr d) = at_deep d (le_or_above d.size (length text))
    where
      at_size : (d : IsDeep text) (size : ℕ) → size ≤ length text → take d.size text ≡ take size text → ⊥
      at_size d size low same =
          let (u, so) = front_run first t (take size text) (drop size (take (length text) text)) (ap (run first) (sym (take_part text size (length text) low)) ∙ has.is) in
          shallow_open text size u so (has.shallow size u low so) (subst (λ xs. 64 < open_from false 0 xs) same d.deep)

      at_deep : (d : IsDeep text) → (d.size ≤ length text) ⊎ (length text < d.size) → ⊥
      at_deep d (inl low) = at_size d d.size low refl
      at_deep d (inr over) = at_size d (length text) (omega arith) (take_all d.size text (omega (arith, over)) ∙ sym (take_all (length text) text (omega arith)))

  pub read_pattern : (p : Shape) → pattern_of t ≡ Some p → IsText alt p text × ¬ (IsLong text)
  read_pattern p is = (has_text t text p (stands t text all_read) is, not_long)

  pub bad_end : pattern_of t ≡ None → IsBad text (length text)
  bad_end none = record {
    short = not_long;
    none = λ p.
        let a = accepts p.is in
        let same : a.behind ≡ t = some_is a.behind t (sym a.is ∙ all_read) in
        not_some p.shape (sym a.whole ∙ ap pattern_of same ∙ none);
    within = omega arith;
    begins = begins_so t (take (length text) text) (subst (λ xs. length xs ≤ 255) (sym (take_all (length text) text (omega arith))) short) (stands t (take (length text) text) has.is);
    longest = λ size low up b. absurd (omega (arith, low, up));
  }

-- the text has ended where no pattern ends
pub ended_bad : (text : List ℕ) (t : State) (refusal : Refusal) → length text ≤ 255 → HasRead text (length text) t → IsFinished t (Err refusal)
    → (place : ℕ) → fault_of refusal (length text) ≡ fault.Bad place → IsBad text place
ended_bad text t Deep short has none place is = absurd none
ended_bad text t NoMemory short has none place is = absurd (let z : fault.NoMemory ≡ fault.Bad place = is in cc)
ended_bad text t Bad short has none place is = subst (IsBad text) (same_place (length text) place is) (bad_end text t short has none)
