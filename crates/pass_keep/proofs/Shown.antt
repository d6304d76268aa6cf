-- The laws of a keeper's images, each as it is stated.
use Rattle.std.proofs.Common.{◌≡◌, ◌⊎◌, ℕ, zero, suc, ◌<◌, ◌≤◌, List, [], ◌∷◌, ◌++◌, length, IsTrue, true, Some, refl, sym, subst, arith}
use Rattle.std.specs.Prelude.{slice_get}
use Rattle.pass_entry.specs.declared.entry.Entry.{Entry}
use Rattle.pass_entry.specs.declared.entry.Synced.{Synced}
use Rattle.pass_outside.specs.Areas.{Image}
use Rattle.pass_outside.specs.Moments.{Moment}
use Rattle.pass_plain.proofs.Lists.{some_is}
use Rattle.pass_range.specs.Places.{place, Holds}
use Rattle.pass_range.specs.Rows.{number_of, IsUnmatched}
use Rattle.pass_keep.specs.declared.keeper.Keeper.{Keeper}
use Rattle.pass_keep.specs.Kept.{IsStory, Noted, HasRecords, IsLeft, Every, IsKeptSince, IsKept, bound_of, covered, list_to, source_to, range_to, synced_of, AreRising, AreTimed}
use Rattle.pass_keep.specs.Keepers.{Past, IsKeeper}
use Rattle.pass_keep.specs.Longer.{with_entries, past_with}
use Rattle.pass_keep.proofs.Keeping.{mapped_all, every_each}
use Rattle.pass_keep.proofs.Imaging.{range_matched, settled, kept_longer}

every_at : (P : Noted → Type 0) (xs : List Noted) → Every P xs → (i : ℕ) (x : Noted) → slice_get xs i ≡ Some x → P x
every_at P [] h i x is = absurd (cc)
every_at P (y ∷ xs) h zero x is = subst P (some_is y x is) h.0
every_at P (y ∷ xs) h (suc i) x is = every_at P xs h.1 i x is

every_from : (P : Noted → Type 0) (xs : List Noted) → ((i : ℕ) (x : Noted) → slice_get xs i ≡ Some x → P x) → Every P xs
every_from P [] h = tt
every_from P (x ∷ xs) h = (h 0 x refl, every_from P xs (λ i y is. h (suc i) y is))

module _ {D : Type 0} (view : D → Moment) (past : Past) (k : Keeper D) (keeper : IsKeeper view past k) where
  pub since_shown : IsTrue (view k.disk).tells → (i : ℕ) (x : Noted) → slice_get past.noted i ≡ Some x → (c : Image) → (view k.disk).left_since x.calls c → IsLeft past.story x.entries (bound_of x) c
  since_shown told i x is c since = (every_at (IsKeptSince past.story (view k.disk) k.durable) past.noted keeper.kept.past i x is).each told c since

  pub matched_shown : IsTrue (view k.disk).tells → (i : ℕ) (x : Noted) → slice_get past.noted i ≡ Some x → (c : Image) → (view k.disk).left_since x.calls c
      → (n : ℕ) → n ≤ length past.story.history → HasRecords (list_to past.story n) c.log
      → (p b number at : ℕ) → x.files number ≡ true → number_of (list_to past.story n) p ≡ Some number → source_to past.story n p b ≡ Some at → at < x.entries
      → Holds (place number b) (range_to past.story n p b) c.store × (IsUnmatched (list_to past.story n) c.store p b → ⊥)
  matched_shown told i x is c since n within records p b number at reached numbered from low =
      range_matched past.story keeper.story (view k.disk) k.durable x (every_at (IsKeptSince past.story (view k.disk) k.durable) past.noted keeper.kept.past i x is) told c since n within records p b number at reached numbered from low

  pub settled_shown : ((t u : ℕ) (c : Image) → t ≤ u → (view k.disk).left_since u c → (view k.disk).left_since t c) → IsTrue (view k.disk).tells
      → (front : List Noted) (last : Noted) → past.noted ≡ front ++ last ∷ [] → last.entries ≡ length past.story.history
      → ((i : ℕ) (x : Noted) → slice_get past.noted i ≡ Some x → x.calls ≤ last.calls)
      → ((p b number at : ℕ) → source_to past.story (length past.story.history) p b ≡ Some at → number_of (list_to past.story (length past.story.history)) p ≡ Some number
      → (at < covered past.noted number) ⊎ ((c : Image) → (view k.disk).left_since last.calls c → Holds (place number b) (range_to past.story (length past.story.history) p b) c.store))
      → (c : Image) → (view k.disk).left_since last.calls c
      → HasRecords (list_to past.story (length past.story.history)) c.log
      × ((p b at : ℕ) → source_to past.story (length past.story.history) p b ≡ Some at → IsUnmatched (list_to past.story (length past.story.history)) c.store p b → ⊥)
  settled_shown less told front last split whole ordered clean c since =
      settled past.story keeper.story (view k.disk) k.log k.durable front last (subst (IsKept past.story (view k.disk) k.log k.durable) split keeper.kept) told less whole
      (subst (Every (λ x. x.calls ≤ last.calls)) split (every_from (λ x. x.calls ≤ last.calls) past.noted ordered))
      (λ p b number at from numbered.
      subst (λ (l : List Noted). (at < covered l number) ⊎ ((c : Image) → (view k.disk).left_since last.calls c → Holds (place number b) (range_to past.story (length past.story.history) p b) c.store)) split (clean p b number at from numbered)) c since

  pub timed_shown : AreTimed (view k.disk) (length past.story.history) k.syncs.items
  timed_shown =
      let low = λ (P : Synced → Type 0) (more : (x : Noted) → IsKeptSince past.story (view k.disk) k.durable x → P (synced_of x)).
      subst (λ (l : List Synced). (i : ℕ) (y : Synced) → slice_get l i ≡ Some y → P y) (sym keeper.syncs)
      (mapped_all P past.noted (every_each (IsKeptSince past.story (view k.disk) k.durable) (λ x. P (synced_of x)) more past.noted keeper.kept.past)) in
      record {
        earlier = low (λ y. y.calls ≤ (view k.disk).calls) (λ x h. h.earlier);
        within = low (λ y. y.entries ≤ length past.story.history) (λ x h. omega (arith, h.fewer, keeper.kept.within));
        rising = subst AreRising (sym keeper.syncs) keeper.kept.rising;
      }

  pub longer_shown : (more : List Entry) → IsStory (with_entries past.story more) → IsKeeper view (past_with past more) k
  longer_shown more is = record { story = is; kept = kept_longer past.story more (view k.disk) k.log k.durable past.noted keeper.kept; syncs = keeper.syncs }
