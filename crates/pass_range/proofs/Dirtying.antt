-- A block was dirtied last by the entry that its row comes from.
use Rattle.std.proofs.Common.{◌≡◌, ◌∙◌, ℕ, ◌*◌, ◌<◌, ◌==◌, ◌&&◌, ◌||◌, not, Bool, true, false, List, [], ◌∷◌, ◌++◌, length, refl, ap, sym, subst, arith, append_assoc, length-append}
use Rattle.std.proofs.lemmas.List.{append-nil}
use Rattle.std.specs.Prelude.{Option, Some, None, nat_le, nat_lt, if◌then◌else◌}
use Rattle.std.proofs.lemmas.Bool.Decides.{nat_tests}
use Rattle.std.proofs.lemmas.Bool.{and_right}
use Rattle.md5.specs.Md5.{md5}
use Rattle.pass_entry.specs.declared.entry.Entry.{Entry}
use Rattle.pass_entry.specs.declared.entry.Act.{Act}
use Rattle.pass_entry.specs.declared.entry.Act.TheVariants as act
use Rattle.pass_plain.specs.Histories.{is_fault, own_step, replay}
use Rattle.pass_plain.specs.Files.{file_after, file_act}
use Rattle.pass_plain.specs.Records.{block_size, range_len, has_row, is_written, is_digested, entry_records}
use Rattle.pass_plain.specs.Recording.{is_change}
use Rattle.pass_plain.specs.Sessions.{Session}
use Rattle.pass_plain.proofs.Lists.{same_itself, some_is}
use Rattle.pass_plain.proofs.Replays.{state_after-append}
use Rattle.pass_range.specs.Rows.{range}
use Rattle.pass_range.specs.Sources.{Touch, stays, sets, goes, touch, source_after, row_source}
use Rattle.pass_range.proofs.Digested.{is_change as is_range_change, content_touch, entry_touch}
use Rattle.pass_range.specs.Dirtied.{dirties, ends_before, dirty_act, dirtied_at, SourceLaw, DirtiedLaw, BelowLaw}

same_change : (a : Act) → is_range_change a ≡ is_change a
same_change (act.Put out at bytes) = refl
same_change (act.Cut out size) = refl
same_change _ = refl

-- an act that changes no content gives no digest
pub quiet_act : (had begins : Bool) (old : List ℕ) (block : ℕ) (a : Act) → is_change a ≡ false
    → (is_written a block || (had && nat_lt (block * block_size) (length (file_act old a)) && not (range_len (length old) block == range_len (length (file_act old a)) block))) ≡ false
quiet_act had begins old block (act.Put out at bytes) is = absurd (cc)
quiet_act had begins old block (act.Cut out size) is = absurd (cc)
quiet_act had begins old block _ is = and_right (had && nat_lt (block * block_size) (length old)) (not (range_len (length old) block == range_len (length old) block)) (ap not (same_itself (range_len (length old) block)))

pub quiet : (session : Session) (past : List Entry) (e : Entry) (block : ℕ) → is_change e.act ≡ false → is_digested session past e block ≡ false
quiet session past e block is = quiet_act (has_row session past e.what block) true (file_after session past e.what) block e.act is

module _ (session : Session) (file block : ℕ) (low : block < 1024) where
  within : nat_lt block 1024 ≡ true
  within = grind (arith, nat_tests)

  by_tests : (fault own change lower digested over : Bool) (digest : List ℕ) (place : ℕ) (at : Option ℕ) → lower ≡ true → (change ≡ false → digested ≡ false)
      → source_after (if (not fault && change) && own then (if lower && digested then sets digest else if over then goes else stays) else stays) place at
      ≡ (if own && not fault then (if digested then Some place else if change && over then None else at) else at)
  by_tests fault own change false digested over digest place at is none = absurd (cc)
  by_tests true true change true digested over digest place at is none = refl
  by_tests true false change true digested over digest place at is none = refl
  by_tests false true true true true over digest place at is none = refl
  by_tests false true true true false true digest place at is none = refl
  by_tests false true true true false false digest place at is none = refl
  by_tests false true false true true over digest place at is none = absurd (let z = none refl in cc)
  by_tests false true false true false over digest place at is none = refl
  by_tests false false true true digested over digest place at is none = refl
  by_tests false false false true digested over digest place at is none = refl

  step_is : (past : List Entry) (at : Option ℕ) (e : Entry)
      → source_after (touch file block (entry_records session past e)) (length past) at ≡ own_step (λ past at e. dirty_act session past block at e) file past at e
  step_is past at e =
      ap (λ (t : Touch). source_after t (length past) at) (entry_touch file block session past e)
      ∙ ap (λ (b : Bool). source_after (if (not (is_fault e.reply) && b) && (e.what == file) then content_touch session past e block else stays) (length past) at) (same_change e.act)
      ∙ by_tests (is_fault e.reply) (e.what == file) (is_change e.act) (nat_lt block 1024) (is_digested session past e block)
      (nat_le (length (file_act (file_after session past e.what) e.act)) (block * block_size)) (md5 (range block (file_act (file_after session past e.what) e.act))) (length past) at within (quiet session past e block)

pub source_law : SourceLaw
source_law session history file block low =
    ap (λ (step : List Entry → Option ℕ → Entry → Option ℕ). replay step [] None history) (λ i past at e. step_is session file block low past at e i)

pub dirtied_law : DirtiedLaw
dirtied_law session history e file block = state_after-append (λ past at e. dirty_act session past block at e) file None history e

abbrev IsBelow : List Entry → Option ℕ → Type 0
IsBelow past o = (at : ℕ) → o ≡ Some at → at < length past

below_more : (past : List Entry) (e : Entry) (o : Option ℕ) → IsBelow past o → IsBelow (past ++ e ∷ []) o
below_more past e o is at here = let low = is at here in omega (arith, low, length-append past (e ∷ []))

module _ (session : Session) (file block : ℕ) where
  below_step : (past : List Entry) (o : Option ℕ) (e : Entry) → IsBelow past o → IsBelow (past ++ e ∷ []) (own_step (λ past at e. dirty_act session past block at e) file past o e)
  below_step past o e is = by_tests (e.what == file && not (is_fault e.reply)) (dirties session past e block) (ends_before session past e block)
    where
      by_tests : (own dirty gone : Bool) → IsBelow (past ++ e ∷ []) (if own then (if dirty then Some (length past) else if gone then None else o) else o)
      by_tests true true gone = λ at here. let same = some_is (length past) at here in omega (arith, same, length-append past (e ∷ []))
      by_tests true false true = λ at here. absurd (cc)
      by_tests true false false = below_more past e o is
      by_tests false dirty gone = below_more past e o is

  below_all : (past : List Entry) (o : Option ℕ) (later : List Entry) → IsBelow past o → IsBelow (past ++ later) (replay (own_step (λ past at e. dirty_act session past block at e) file) past o later)
  below_all past o [] is = subst (λ h. IsBelow h o) (sym (append-nil past)) is
  below_all past o (e ∷ later) is =
      subst (λ h. IsBelow h (replay (own_step (λ past at e. dirty_act session past block at e) file) (past ++ e ∷ []) (own_step (λ past at e. dirty_act session past block at e) file past o e) later))
      (append_assoc past (e ∷ []) later)
      (below_all (past ++ e ∷ []) (own_step (λ past at e. dirty_act session past block at e) file past o e) later (below_step past o e is))

pub below_law : BelowLaw
below_law session history file block at here = below_all session file block [] None history (λ at none. absurd (cc)) at here
