-- What a sync of a file writes: the blocks that are dirty by the list, and those that wait in the pool.
use Rattle.std.proofs.Common.{◌≡◌, ◌⊎◌, ◌<◌, ◌≤◌, ℕ, zero, suc, Bool, true, false, List, [], ◌∷◌, ◌++◌, length, IsTrue, inl, inr, ⊎_elim, refl, sym, ◌∙◌, ap, subst, arith}
use Rattle.std.specs.Prelude.{Option, Some, None, slice_get, cond, ◌==◌}
use Rattle.std.proofs.lemmas.Map.Entries.{place_from_lookup}
use Rattle.std.proofs.lemmas.Option.{none-some}
use Rattle.pass_outside.specs.Areas.{Image}
use Rattle.pass_outside.specs.Moments.{Moment}
use Rattle.pass_plain.proofs.Lists.{some_is, same_numbers, same_itself}
use Rattle.pass_range.specs.Places.{place, Holds}
use Rattle.pass_range.specs.Rows.{number_of}
use Rattle.pass_clean.specs.Blocks.{IsGiven, IsRisingBy}
use Rattle.pass_keep.specs.declared.block.Block.{Block}
use Rattle.pass_keep.specs.Kept.{Story, IsStory, Noted, list_to, range_to}
use Rattle.pass_keep.specs.Dirty.{IsDirty, IsFree, HasBlock, IsElsewhere, AreWritten, AreThere, AreSized}
use Rattle.pass_keep.proofs.Stories.{number_later, number_one}
use Rattle.pass_keep.proofs.Writing.{dirty_free, range_short}
use Rattle.pass_vault.specs.Blocks.{pair_of, AreBlocks}
use Rattle.pass_vault.specs.Pooled.{Blocks, staged_in, given_in, else_staged, bytes_for, one_of, written_below, to_write}
use Rattle.pass_vault.specs.Waiting.{IsLanded, IsWell, IsWaiting}
use Rattle.pass_vault.proofs.Cleaning.{given_at, block_at, number_at}
use Rattle.pass_vault.proofs.Pooling.{is_block_same}

-- Lists that are made block by block

-- an element of a list with at most one more behind it
split_at : (xs : List (ℕ × List ℕ)) (n : ℕ) (o : Option (List ℕ)) (i : ℕ) (g : ℕ × List ℕ) → slice_get (xs ++ one_of n o) i ≡ Some g
    → (slice_get xs i ≡ Some g) ⊎ ((i ≡ length xs) × (g.0 ≡ n) × (o ≡ Some g.1))
split_at [] n None i g at = absurd (cc)
split_at [] n (Some bytes) zero g at = let same = some_is (n, bytes) g at in inr (refl, ap (λ (p : ℕ × List ℕ). p.0) (sym same), ap (λ (p : ℕ × List ℕ). Some p.1) same)
split_at [] n (Some bytes) (suc i) g at = absurd (cc)
split_at (x ∷ xs) n o zero g at = inl at
split_at (x ∷ xs) n o (suc i) g at = ⊎_elim (λ there. inl there) (λ last. inr (ap (λ (k : ℕ). suc k) last.0, last.1, last.2)) (split_at xs n o i g at)

in_front : (xs ys : List (ℕ × List ℕ)) (i : ℕ) (g : ℕ × List ℕ) → slice_get xs i ≡ Some g → slice_get (xs ++ ys) i ≡ Some g
in_front [] ys i g at = absurd (cc)
in_front (x ∷ xs) ys zero g at = at
in_front (x ∷ xs) ys (suc i) g at = in_front xs ys i g at

at_end : (xs : List (ℕ × List ℕ)) (n : ℕ) (bytes : List ℕ) → slice_get (xs ++ one_of n (Some bytes)) (length xs) ≡ Some (n, bytes)
at_end [] n bytes = refl
at_end (x ∷ xs) n bytes = at_end xs n bytes

pub place_low : (xs : List (ℕ × List ℕ)) (i : ℕ) (g : ℕ × List ℕ) → slice_get xs i ≡ Some g → i < length xs
place_low [] i g at = absurd (cc)
place_low (x ∷ xs) zero g at = omega arith
place_low (x ∷ xs) (suc i) g at = let low = place_low xs i g at in omega (arith, low)

module _ (pool : Blocks) (number : ℕ) (given : List (ℕ × List ℕ)) where
  pub below_from : (n i : ℕ) (g : ℕ × List ℕ) → slice_get (written_below pool number given n) i ≡ Some g → (g.0 < n) × (bytes_for pool number given g.0 ≡ Some g.1)
  below_from zero i g at = absurd (cc)
  below_from (suc n) i g at = ⊎_elim
      (λ (there : slice_get (written_below pool number given n) i ≡ Some g). let both = below_from n i g there in (omega (arith, both.0), both.1))
      (λ (last : (i ≡ length (written_below pool number given n)) × (g.0 ≡ n) × (bytes_for pool number given n ≡ Some g.1)).
      (omega (arith, last.1), ap (bytes_for pool number given) last.1 ∙ last.2))
      (split_at (written_below pool number given n) n (bytes_for pool number given n) i g at)

  pub below_all : (n block : ℕ) (bytes : List ℕ) → block < n → bytes_for pool number given block ≡ Some bytes → (i : ℕ) × (slice_get (written_below pool number given n) i ≡ Some (block, bytes))
  below_all zero block bytes low is = absurd (omega (arith, low))
  below_all (suc n) block bytes low is = ⊎_elim
      (λ (less : block < n). let rest = below_all n block bytes less is in
      (rest.0, in_front (written_below pool number given n) (one_of n (bytes_for pool number given n)) rest.0 (block, bytes) rest.1))
      (λ (same : block ≡ n). (
        length (written_below pool number given n),
        ap (λ (o : Option (List ℕ)). slice_get (written_below pool number given n ++ one_of n o) (length (written_below pool number given n))) (ap (bytes_for pool number given) (sym same) ∙ is)
            ∙ at_end (written_below pool number given n) n bytes
            ∙ ap (λ (k : ℕ). Some (k, bytes)) (sym same),
      ))
      (less_or block n low)
    where
      less_or : (a b : ℕ) → a < suc b → (a < b) ⊎ (a ≡ b)
      less_or a b low = grind (arith, low)

  pub below_rising : (n : ℕ) → IsRisingBy (written_below pool number given n)
  below_rising zero i j x y less one two = absurd (cc)
  below_rising (suc n) i j x y less one two = ⊎_elim
      (λ (b : slice_get (written_below pool number given n) j ≡ Some y). ⊎_elim
      (λ (a : slice_get (written_below pool number given n) i ≡ Some x). below_rising n i j x y less a b)
      (λ last. let low = place_low (written_below pool number given n) j y b in absurd (omega (arith, less, low, last.0)))
      (split_at (written_below pool number given n) n (bytes_for pool number given n) i x one))
      (λ last. ⊎_elim
      (λ (a : slice_get (written_below pool number given n) i ≡ Some x). let low = (below_from n i x a).0 in omega (arith, low, last.1))
      (λ first. absurd (omega (arith, less, first.0, last.0)))
      (split_at (written_below pool number given n) n (bytes_for pool number given n) i x one))
      (split_at (written_below pool number given n) n (bytes_for pool number given n) j y two)

  pub written_rising : IsRisingBy (to_write pool number given)
  unfolding to_write
  written_rising = below_rising 1024

-- Given blocks

pub given_found : (given : List (ℕ × List ℕ)) (block i : ℕ) (x : ℕ × List ℕ) → slice_get given i ≡ Some x → x.0 ≡ block → given_in given block ≡ None → ⊥
given_found [] block i x at same none = absurd (cc)
given_found (g ∷ given) block i x at same none = by_test (g.0 == block) refl i at (λ i there gone. given_found given block i x there same gone)
  where
    by_test : (b : Bool) → (g.0 == block) ≡ b → (i : ℕ) → slice_get (g ∷ given) i ≡ Some x → ((i : ℕ) → slice_get given i ≡ Some x → given_in given block ≡ None → ⊥) → ⊥
    by_test true is i at more = none-some g.1 (sym none ∙ ap (λ (c : Bool). cond c (Some g.1) (given_in given block)) is)
    by_test false is zero at more =
        let here : g.0 ≡ block = ap (λ (p : ℕ × List ℕ). p.0) (some_is g x at) ∙ same in absurd (cc (sym is ∙ ap (λ (k : ℕ). k == block) here ∙ same_itself block))
    by_test false is (suc i) at more = more i at (sym (ap (λ (c : Bool). cond c (Some g.1) (given_in given block)) is) ∙ none)

no_place : (xs : List Block) (i : ℕ) (x : Block) → slice_get xs i ≡ Some x → length xs ≡ 0 → ⊥
no_place [] i x at none = absurd (cc)
no_place (y ∷ xs) i x at none = omega (arith, none)

module _ (s : Story) (is : IsStory s) (noted : List Noted) (n : ℕ) (within : n ≤ length s.history) (number file : ℕ) (at_number : number_of (list_to s (length s.history)) file ≡ Some number)
    (pool : Blocks) (given : List (ℕ × List ℕ)) (blocks : List Block) (are : AreBlocks number (to_write pool number given) blocks)
    (to_dirty : (block : ℕ) → IsGiven given block → IsDirty s noted n number block) (own : (i : ℕ) (x : ℕ × List ℕ) → slice_get given i ≡ Some x → x.1 ≡ range_to s n file x.0)
    (Clean : ℕ → ℕ → Type 0) (clean : (block : ℕ) → IsDirty s noted n number block → given_in given block ≡ None → Clean file block)
    (m : Moment) (unsynced : Bool) (since opened : ℕ) (old : IsWaiting s noted n m pool unsynced since opened Clean) where
  -- a dirty block of this number is the file's
  its_file : (block : ℕ) (d : IsDirty s noted n number block) → d.pnode ≡ file
  its_file block d = number_one s (length s.history) file d.pnode number at_number (number_later s n (length s.history) d.pnode number within d.numbered)

  written_from : (i : ℕ) (g : ℕ × List ℕ) → slice_get (to_write pool number given) i ≡ Some g → (g.0 < 1024) × (bytes_for pool number given g.0 ≡ Some g.1)
  unfolding to_write
  written_from i g at = below_from pool number given 1024 i g at

  written_all : (block : ℕ) (bytes : List ℕ) → block < 1024 → bytes_for pool number given block ≡ Some bytes → (i : ℕ) × (slice_get (to_write pool number given) i ≡ Some (block, bytes))
  unfolding to_write
  written_all block bytes low at = below_all pool number given 1024 block bytes low at

  free_at : (block : ℕ) (bytes : List ℕ) → bytes_for pool number given block ≡ Some bytes → IsFree s noted n number block
  free_at block bytes at = by_given (given_in given block) refl
    where
      by_given : (o : Option (List ℕ)) → given_in given block ≡ o → IsFree s noted n number block
      by_given (Some x) got =
          let p = place_from_lookup (λ (b : ℕ). b == block) given x got in
          dirty_free s noted n number block (to_dirty block (record { i = p.0; x = (p.1, x); is = p.2; same = same_numbers p.1 block p.3 }))
      by_given None not_given =
          let waits : staged_in pool number block ≡ Some bytes = ap (λ (o : Option (List ℕ)). else_staged o (staged_in pool number block)) (sym not_given) ∙ at in
          let p = place_from_lookup _ pool.entries bytes waits in
          let same = is_block_same number block p.1 p.3 in
          let was = old.pooled p.0 (p.1, bytes) p.2 in
          subst (λ (k : ℕ). IsFree s noted n k block) (sym same.0) (subst (IsFree s noted n p.1.number) (sym same.1) was.free)

  pub each_free : (i : ℕ) (x : Block) → slice_get blocks i ≡ Some x → IsFree s noted n x.number x.block
  each_free i x at =
      let g = written_from i (pair_of x) (given_at number (to_write pool number given) blocks are i x at) in
      subst (λ (k : ℕ). IsFree s noted n k x.block) (sym (number_at number blocks i x are.of_file at)) (free_at x.block x.bytes.now g.1)

  short_at : (block : ℕ) (bytes : List ℕ) → bytes_for pool number given block ≡ Some bytes → length bytes ≤ 4096
  short_at block bytes at = by_given (given_in given block) refl
    where
      by_given : (o : Option (List ℕ)) → given_in given block ≡ o → length bytes ≤ 4096
      by_given (Some x) got =
          let p = place_from_lookup (λ (b : ℕ). b == block) given x got in
          let same : x ≡ bytes = some_is x bytes (sym (ap (λ (o : Option (List ℕ)). else_staged o (staged_in pool number block)) got) ∙ at) in
          let its = ap length (own p.0 (p.1, x) p.2) in
          let short = range_short s noted n file p.1 in omega (arith, ap length same, its, short)
      by_given None not_given =
          let waits : staged_in pool number block ≡ Some bytes = ap (λ (o : Option (List ℕ)). else_staged o (staged_in pool number block)) (sym not_given) ∙ at in
          let p = place_from_lookup _ pool.entries bytes waits in
          let was = old.pooled p.0 (p.1, bytes) p.2 in
          let its = ap length was.bytes in
          let short = range_short s noted was.free.count was.free.pnode p.1.block in omega (arith, its, short)

  pub all_sized : AreSized blocks
  all_sized i x at = let g = written_from i (pair_of x) (given_at number (to_write pool number given) blocks are i x at) in (g.0, short_at x.block x.bytes.now g.1)

  is_written : (block : ℕ) (bytes : List ℕ) → block < 1024 → bytes_for pool number given block ≡ Some bytes → HasBlock blocks number block bytes
  is_written block bytes low at =
      let w = written_all block bytes low at in
      let x = block_at number (to_write pool number given) blocks are w.0 (block, bytes) w.1 in
      record { i = w.0; x = x.0; is = x.1; of_file = number_at number blocks w.0 x.0 are.of_file x.1; at_block = ap (λ (p : ℕ × List ℕ). p.0) x.2; same = ap (λ (p : ℕ × List ℕ). p.1) x.2 }

  -- where no device call has failed since something was written
  module _ (well : IsWell m unsynced opened) where
    all_of : (block : ℕ) (d : IsDirty s noted n number block)
        → HasBlock blocks number block (range_to s n d.pnode block) ⊎ (IsElsewhere blocks number block × (IsTrue m.tells → Holds (place number block) (range_to s n d.pnode block) m.seen.store))
    all_of block d = by_given (given_in given block) refl
      where
        by_given : (o : Option (List ℕ)) → given_in given block ≡ o
            → HasBlock blocks number block (range_to s n d.pnode block) ⊎ (IsElsewhere blocks number block × (IsTrue m.tells → Holds (place number block) (range_to s n d.pnode block) m.seen.store))
        by_given (Some x) got =
            let p = place_from_lookup (λ (b : ℕ). b == block) given x got in
            let bytes : x ≡ range_to s n d.pnode block =
            own p.0 (p.1, x) p.2 ∙ ap (range_to s n file) (same_numbers p.1 block p.3) ∙ ap (λ (q : ℕ). range_to s n q block) (sym (its_file block d)) in
            inl (subst (HasBlock blocks number block) bytes (is_written block x d.limited (ap (λ (o : Option (List ℕ)). else_staged o (staged_in pool number block)) got)))
        by_given None not_given =
            let waits : bytes_for pool number given block ≡ staged_in pool number block = ap (λ (o : Option (List ℕ)). else_staged o (staged_in pool number block)) not_given in
            ⊎_elim
            (λ (there : staged_in pool number block ≡ Some (range_to s n d.pnode block)). inl (is_written block (range_to s n d.pnode block) d.limited (waits ∙ there)))
            (λ gone. inr (
              λ i x at of_file at_block.
                  let g = written_from i (pair_of x) (given_at number (to_write pool number given) blocks are i x at) in
                  none-some x.bytes.now (sym gone.0 ∙ sym waits ∙ ap (bytes_for pool number given) (sym at_block) ∙ g.1),
              gone.1.seen,
            ))
            (old.handled well number block d (subst (λ (f : ℕ). Clean f block) (sym (its_file block d)) (clean block d not_given)))

    -- all dirty blocks of the file are written, or were
    pub all_written : (files : ℕ → Bool) → ((k : ℕ) → files k ≡ true → number ≡ k) → IsTrue m.tells → AreWritten s noted n files blocks m.seen.store
    all_written files mine told = record {
      each = each_free;
      all = λ k block reached d.
          let same = mine k reached in
          subst (λ (q : ℕ). (e : IsDirty s noted n q block) → HasBlock blocks q block (range_to s n e.pnode block) ⊎ (IsElsewhere blocks q block × Holds (place q block) (range_to s n e.pnode block) m.seen.store)) same
          (λ e. ⊎_elim (λ h. inl h) (λ h. inr (h.0, h.1 told)) (all_of block e)) d;
    }

    -- where there is nothing to write they were
    landed_of : length blocks ≡ 0 → (block : ℕ) (d : IsDirty s noted n number block) → IsLanded m unsynced since number block (range_to s n d.pnode block)
    landed_of empty block d = by_given (given_in given block) refl
      where
        no_block : (bytes : List ℕ) → bytes_for pool number given block ≡ Some bytes → ⊥
        no_block bytes at = let h = is_written block bytes d.limited at in no_place blocks h.i h.x h.is empty

        by_given : (o : Option (List ℕ)) → given_in given block ≡ o → IsLanded m unsynced since number block (range_to s n d.pnode block)
        by_given (Some x) got = absurd (no_block x (ap (λ (o : Option (List ℕ)). else_staged o (staged_in pool number block)) got))
        by_given None not_given =
            let waits : bytes_for pool number given block ≡ staged_in pool number block = ap (λ (o : Option (List ℕ)). else_staged o (staged_in pool number block)) not_given in
            ⊎_elim
            (λ (there : staged_in pool number block ≡ Some (range_to s n d.pnode block)). absurd (no_block (range_to s n d.pnode block) (waits ∙ there)))
            (λ gone. gone.1)
            (old.handled well number block d (subst (λ (f : ℕ). Clean f block) (sym (its_file block d)) (clean block d not_given)))

    pub all_landed : (files : ℕ → Bool) → ((k : ℕ) → files k ≡ true → number ≡ k) → length blocks ≡ 0 → unsynced ≡ false → IsTrue m.tells → (c : Image) → m.left_since since c → AreThere s noted n files c.store
    all_landed files mine empty synced told c left = λ k block reached d.
        let same = mine k reached in
        subst (λ (q : ℕ). (e : IsDirty s noted n q block) → Holds (place q block) (range_to s n e.pnode block) c.store) same (λ e. (landed_of empty block e).each synced told c left) d
