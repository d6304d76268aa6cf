-- Blocks that are clean, and stay so.
use Rattle.std.proofs.Common.{◌≡◌, ◌∙◌, ◌==◌, ◌⊎◌, inl, inr, ℕ, ◌<◌, ◌≤◌, max, Bool, true, false, List, [], ◌∷◌, ◌++◌, length, refl, sym, ap, subst, arith, if◌then◌else◌, ◌&&◌}
use Rattle.std.specs.Prelude.{Option, Some, None, nat_le}
use Rattle.std.specs.Option.{option_map_or}
use Rattle.std.proofs.lemmas.Bool.Decides.{nat_tests}
use mathlib.Core.List.{IsPrefix}
use Rattle.pass_entry.specs.Limits.{block_count}
use Rattle.pass_entry.specs.declared.entry.Entry.{Entry}
use Rattle.pass_plain.specs.Sessions.{Session}
use Rattle.pass_book.specs.Names.{name, concerns}
use Rattle.pass_book.specs.declared.view.Role.TheVariants as role
use Rattle.pass_book.specs.declared.view.VaultSync.{VaultSync}
use Rattle.pass_book.proofs.Prefixes.{prefix_none}
use Rattle.pass_clean.specs.Blocks.{AreDirty, IsGiven}
use Rattle.pass_clean.specs.Cleaned.{cleaned, covers, is_dirty, is_dirty_from}
use Rattle.pass_range.specs.Dirtied.{dirty_act, dirtied_at}
use Rattle.pass_file.proofs.Dirtier.{still}
use Rattle.pass_file.specs.Desks.{FileDeskView}
use Rattle.pass_vault.specs.Vaulted.{HasWaiting, Vaulted}
use Rattle.pass_safe.specs.Settled.{HasDirty, HasUnwritten, IsClean, UntouchedLaw}

-- more syncs clean no less
cleaned_more : (file block : ℕ) (ss more : List VaultSync) → cleaned file block ss ≤ cleaned file block (ss ++ more)
cleaned_more file block [] more = omega arith
cleaned_more file block (s ∷ ss) more = higher (if concerns (name role.Desk file) s && covers block s then s.entries else 0) (cleaned_more file block ss more)
  where
    higher : (m : ℕ) → cleaned file block ss ≤ cleaned file block (ss ++ more) → max m (cleaned file block ss) ≤ max m (cleaned file block (ss ++ more))
    higher m low = omega (arith, low)

-- a block that is clean stays so by more syncs
pub still_clean : (session : Session) (history : List Entry) (ss us : List VaultSync) (file block : ℕ) → IsPrefix ss us → is_dirty session history ss file block ≡ false → is_dirty session history us file block ≡ false
still_clean session history ss us file block more clean =
    subst (λ (l : List VaultSync). is_dirty session history l file block ≡ false) more.1 (by_place (dirtied_at session history file block) clean)
  where
    by_place : (o : Option ℕ) → option_map_or (is_dirty_from (cleaned file block ss)) o false ≡ false → option_map_or (is_dirty_from (cleaned file block (ss ++ more.0))) o false ≡ false
    by_place None is = refl
    by_place (Some at) is = higher (cleaned file block ss) (cleaned file block (ss ++ more.0)) (cleaned_more file block ss more.0) is
      where
        higher : (c d : ℕ) → c ≤ d → nat_le c at ≡ false → nat_le d at ≡ false
        higher c d low is = grind (arith, nat_tests)

given_none : (block : ℕ) (blocks : List (ℕ × List ℕ)) → length blocks ≡ 0 → IsGiven blocks block → ⊥
given_none block [] none given = let z = given.is in absurd (cc)
given_none block (x ∷ xs) none given = absurd (cc)

module _ (session : Session) (history : List Entry) (ss : List VaultSync) (file : ℕ) where
  -- where no block is listed none is dirty
  pub none_dirty : (blocks : List (ℕ × List ℕ)) → AreDirty session history ss file blocks → length blocks ≡ 0 → IsClean session history ss file
  unfolding AreDirty
  none_dirty blocks dirty none = λ block low. at_test block low (is_dirty session history ss file block) refl
    where
      at_test : (block : ℕ) → block < block_count → (t : Bool) → is_dirty session history ss file block ≡ t → t ≡ false
      at_test block low false is = refl
      at_test block low true is = absurd (given_none block blocks none (dirty.all block low is))

  -- where some are, those are
  pub some_dirty : (blocks : List (ℕ × List ℕ)) → AreDirty session history ss file blocks → (length blocks ≡ 0 → ⊥) → HasDirty session history ss file
  unfolding AreDirty
  some_dirty [] dirty some = absurd (some refl)
  some_dirty (x ∷ xs) dirty some = let d = dirty.each 0 x refl in (x.0, d.0, d.1)

  -- it isn't both
  pub clean_not_dirty : IsClean session history ss file → HasDirty session history ss file → ⊥
  clean_not_dirty clean (block, low, is) = let z : true ≡ false = sym is ∙ clean block low in absurd (cc)

-- nothing is to be written of a file where none of its blocks is dirty and none waits
pub none_unwritten : {D P : Type 0} (session : Session) (f : FileDeskView) (v : Vaulted D) → IsClean session f.seen f.syncs f.what → (HasWaiting v f.number → ⊥) → HasUnwritten session f v → P
none_unwritten session f v clean none (inl dirty) = absurd (clean_not_dirty session f.seen f.syncs f.what clean dirty)
none_unwritten session f v clean none (inr waits) = absurd (none waits)

pub some_unwritten : {D T : Type 0} (session : Session) (f : FileDeskView) (v : Vaulted D) → (T → HasDirty session f.seen f.syncs f.what) → T ⊎ HasWaiting v f.number → HasUnwritten session f v
some_unwritten session f v dirty (inl some) = inl (dirty some)
some_unwritten session f v dirty (inr waits) = inr waits

-- a file that is clean stays so by more syncs
pub stays_clean : (session : Session) (history : List Entry) (ss us : List VaultSync) (file : ℕ) → IsPrefix ss us → IsClean session history ss file → IsClean session history us file
stays_clean session history ss us file more clean = λ block low. still_clean session history ss us file block more (clean block low)

-- no block is dirty of a file on which no entry is
pub untouched_law : UntouchedLaw
untouched_law session history syncs file block none =
    ap (λ (o : Option ℕ). option_map_or (is_dirty_from (cleaned file block syncs)) o false)
    (still (λ past at e. dirty_act session past block at e) None file [] history (prefix_none history) none)

-- a list is empty or not
pub not_zero : (n : ℕ) → (n == 0) ≡ false → n ≡ 0 → ⊥
not_zero n is none = grind (arith, nat_tests)
