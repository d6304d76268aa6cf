-- The blocks that a file's syncs leave dirty are those that the disk's keeper asks for.
use Rattle.std.proofs.Common.{◌≡◌, ◌∙◌, ◌==◌, ◌<◌, ◌≤◌, ℕ, zero, suc, max, if◌then◌else◌, Bool, true, false, List, [], ◌∷◌, length, map, inr, refl, sym, ap, subst, arith}
use Rattle.std.specs.Prelude.{Option, Some, None, slice_get, ◌&&◌, take}
use Rattle.std.specs.Option.{option_map_or}
use Rattle.std.specs.List.{All, list_any}
use Rattle.std.proofs.lemmas.Bool.Decides.{nat_tests}
use Rattle.std.proofs.lemmas.Option.{get_or_from_slice_get, slice_get_within}
use Rattle.pass_plain.proofs.Lists.{same_numbers, same_itself, some_is}
use Rattle.pass_book.specs.declared.view.FileMark.{FileMark}
use Rattle.pass_book.specs.declared.view.VaultSync.{VaultSync}
use Rattle.pass_book.specs.Numbers.{IsFileNumber}
use Rattle.pass_book.specs.Syncs.{AreNumbered}
use Rattle.pass_range.specs.Rows.{number_of}
use Rattle.pass_keep.specs.declared.block.Block.{Block}
use Rattle.pass_keep.specs.Kept.{Story, IsStory, Noted, covered, list_to}
use Rattle.pass_keep.specs.Dirty.{IsDirty, IsAscending}
use Rattle.pass_keep.proofs.Stories.{number_known}
use Rattle.pass_vault.specs.Vaulted.{is_number, noted_of, real_syncs}
use Rattle.pass_vault.proofs.Reals.{real_unstaged, real_numbered, cleaned_real}
use Rattle.pass_range.specs.Dirtied.{dirtied_at}
use Rattle.pass_clean.specs.Cleaned.{covers, cleaned, is_dirty_from, is_dirty}
use Rattle.pass_clean.specs.Blocks.{IsRisingBy}
use Rattle.pass_range.proofs.Dirtying.{source_law}
use Rattle.pass_vault.specs.Vaults.{opening}
use Rattle.pass_vault.specs.Blocks.{pair_of, AreBlocks}
use Rattle.pass_vault.proofs.Numbering.{number_same, number_to}

-- Syncs

abbrev concerns_mark : Option FileMark → ℕ → Bool
concerns_mark o file = option_map_or (λ (f : FileMark). f.pnode == file) o false

-- two marks of one history have the same number exactly where they have the same file
mark_same : (s : Story) → IsStory s → (f g number file : ℕ) → IsFileNumber s.session s.history f g → IsFileNumber s.session s.history file number → (g == number) ≡ (f == file)
mark_same s is f g number file one two = by_test (g == number) refl (f == file) refl
  where
    by_test : (t : Bool) → (g == number) ≡ t → (u : Bool) → (f == file) ≡ u → t ≡ u
    by_test true a true b = refl
    by_test false a false b = refl
    by_test true a false b =
        let same : g ≡ number = same_numbers g number a in
        let files : f ≡ file = some_is f file (sym one ∙ ap (slice_get _) same ∙ two) in
        absurd (cc (sym b ∙ ap (λ (q : ℕ). q == file) files ∙ same_itself file))
    by_test false a true b =
        let same : f ≡ file = same_numbers f file b in
        let numbers : g ≡ number = some_is g number (sym (number_to s is f g one) ∙ ap (number_of (list_to s (length s.history))) same ∙ number_to s is file number two) in
        absurd (cc (sym a ∙ ap (λ (q : ℕ). q == number) numbers ∙ same_itself number))

-- what syncs cover of a file's number is what they clean of each of its blocks, where none is a staging
covered_cleaned : (s : Story) → IsStory s → (file number block : ℕ) → IsFileNumber s.session s.history file number → (ss : List VaultSync) → AreNumbered s.session s.history ss
    → All (λ s. s.staged ≡ None) ss → covered (map noted_of ss) number ≡ cleaned file block ss
covered_cleaned s is file number block at [] numbered unstaged = refl
covered_cleaned s is file number block at (x ∷ ss) numbered unstaged =
    let more = covered_cleaned s is file number block at ss (λ i y f there mark. numbered (suc i) y f there mark) (λ i d less. unstaged (suc i) d (omega (arith, less))) in
    by_mark x.file refl more
  where
    always : (b : Bool) → b && true ≡ b
    always true = refl
    always false = refl

    whole : covers block x ≡ true
    whole = ap (λ (o : Option (List ℕ)). option_map_or (λ blocks. list_any (λ b. b == block) blocks) o true) (unstaged zero x (omega arith))

    each : cleaned file block (x ∷ ss) ≡ max (if concerns_mark x.file file then x.entries else 0) (cleaned file block ss)
    each =
        ap (λ (b : Bool). max (if concerns_mark x.file file && b then x.entries else 0) (cleaned file block ss)) whole
        ∙ ap (λ (b : Bool). max (if b then x.entries else 0) (cleaned file block ss)) (always (concerns_mark x.file file))

    by_mark : (m : Option FileMark) → x.file ≡ m → covered (map noted_of ss) number ≡ cleaned file block ss → covered (map noted_of (x ∷ ss)) number ≡ cleaned file block (x ∷ ss)
    by_mark None mark more =
        ap (λ (o : Option FileMark). max (if is_number o number then x.entries else 0) (covered (map noted_of ss) number)) mark
        ∙ ap (max 0) more
        ∙ sym (each ∙ ap (λ (o : Option FileMark). max (if concerns_mark o file then x.entries else 0) (cleaned file block ss)) mark)
    by_mark (Some f) mark more =
        let same = mark_same s is f.pnode f.number number file (numbered 0 x f refl mark) at in
        ap (λ (o : Option FileMark). max (if is_number o number then x.entries else 0) (covered (map noted_of ss) number)) mark
        ∙ ap (λ (b : Bool). max (if b then x.entries else 0) (covered (map noted_of ss) number)) same
        ∙ ap (max (if f.pnode == file then x.entries else 0)) more
        ∙ sym (each ∙ ap (λ (o : Option FileMark). max (if concerns_mark o file then x.entries else 0) (cleaned file block ss)) mark)

-- with the mark that the disk has from its opening
pub covered_all : (s : Story) → IsStory s → (ready file number block : ℕ) → IsFileNumber s.session s.history file number → (ss : List VaultSync) → AreNumbered s.session s.history ss
    → All (λ s. s.staged ≡ None) ss → covered (opening ready ∷ map noted_of ss) number ≡ cleaned file block ss
covered_all s is ready file number block at ss numbered unstaged = let z = covered_cleaned s is file number block at ss numbered unstaged in omega (arith, z)

-- Blocks

-- one of some blocks, and the pair that was given for it
block_pair : (xs : List Block) (i : ℕ) (x : Block) → slice_get xs i ≡ Some x → slice_get (map pair_of xs) i ≡ Some (pair_of x)
block_pair [] i x at = absurd (cc)
block_pair (y ∷ xs) zero x at = ap (λ (b : Block). Some (pair_of b)) (some_is y x at)
block_pair (y ∷ xs) (suc i) x at = block_pair xs i x at

pair_block : (xs : List Block) (i : ℕ) (g : ℕ × List ℕ) → slice_get (map pair_of xs) i ≡ Some g → (x : Block) × (slice_get xs i ≡ Some x) × (pair_of x ≡ g)
pair_block [] i g at = absurd (cc)
pair_block (y ∷ xs) zero g at = (y, refl, some_is (pair_of y) g at)
pair_block (y ∷ xs) (suc i) g at = pair_block xs i g at

pub number_at : (number : ℕ) (xs : List Block) (i : ℕ) (x : Block) → All (λ x. x.number ≡ number) xs → slice_get xs i ≡ Some x → x.number ≡ number
number_at number xs i x all at = ap (λ (b : Block). b.number) (sym (get_or_from_slice_get xs i x x at)) ∙ all i x (slice_get_within xs i x at)

dirty_true : (clean : ℕ) (o : Option ℕ) → option_map_or (is_dirty_from clean) o false ≡ true → (at : ℕ) × (o ≡ Some at) × (clean ≤ at)
dirty_true clean None is = absurd (cc)
dirty_true clean (Some at) is = (at, refl, grind (arith, nat_tests))

module _ (number : ℕ) (given : List (ℕ × List ℕ)) (blocks : List Block) (are : AreBlocks number given blocks) where
  pub given_at : (i : ℕ) (x : Block) → slice_get blocks i ≡ Some x → slice_get given i ≡ Some (pair_of x)
  given_at i x at = subst (λ (l : List (ℕ × List ℕ)). slice_get l i ≡ Some (pair_of x)) are.pairs (block_pair blocks i x at)

  pub block_at : (i : ℕ) (g : ℕ × List ℕ) → slice_get given i ≡ Some g → (x : Block) × (slice_get blocks i ≡ Some x) × (pair_of x ≡ g)
  block_at i g at = pair_block blocks i g (subst (λ (l : List (ℕ × List ℕ)). slice_get l i ≡ Some g) (sym are.pairs) at)

  pub blocks_ascend : IsRisingBy given → IsAscending blocks
  blocks_ascend rising = λ i j x y less one two.
      inr (number_at number blocks i x are.of_file one ∙ sym (number_at number blocks j y are.of_file two), rising i j (pair_of x) (pair_of y) less (given_at i x one) (given_at j y two))

-- A block that is dirty by the syncs and stagings that a file's desk has seen is so on the disk
module _ (s : Story) (is : IsStory s) (file number : ℕ) (at_number : IsFileNumber s.session s.history file number) (ready n : ℕ) (within : n ≤ length s.history) (ss : List VaultSync)
    (numbered : AreNumbered s.session s.history ss) (own : List VaultSync) (same : (block : ℕ) → cleaned file block own ≡ cleaned file block ss) where
  abbrev noted : List Noted
  noted = opening ready ∷ map noted_of (real_syncs ss)

  pub covered_less : (block : ℕ) → covered noted number ≤ cleaned file block ss
  covered_less block =
      let all = covered_all s is ready file number block at_number (real_syncs ss) (real_numbered s.session s.history ss numbered) (real_unstaged ss) in
      let less = cleaned_real file block ss in omega (arith, all, less)

  pub to_dirty : (block : ℕ) → block < 1024 → is_dirty s.session (take n s.history) own file block ≡ true → (d : IsDirty s noted n number block) × (d.pnode ≡ file)
  to_dirty block low test =
      let (at, from, later) = dirty_true (cleaned file block own) (dirtied_at s.session (take n s.history) file block) test in
      let known = number_known s is n file block at (source_law s.session (take n s.history) file block low ∙ from) in
      let one = number_same s is n file number known.0 within at_number known.1 in
      let below = covered_less block in
      (record { pnode = file; numbered = known.1 ∙ ap (λ (i : ℕ). Some i) one; limited = low; at = at; dirtied = from; uncovered = omega (arith, later, same block, below) }, refl)

  -- and one that is clean by these is clean by all
  pub to_clean : (block : ℕ) → is_dirty s.session (take n s.history) own file block ≡ false → is_dirty s.session (take n s.history) ss file block ≡ false
  to_clean block test = ap (λ (c : ℕ). option_map_or (is_dirty_from c) (dirtied_at s.session (take n s.history) file block) false) (sym (same block)) ∙ test
