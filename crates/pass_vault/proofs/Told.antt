-- What a vault says of images, each as it is stated.
use Rattle.std.proofs.Common.{◌≡◌, ◌⊎◌, ◌<◌, ◌≤◌, ℕ, zero, suc, Bool, true, false, List, [], ◌∷◌, ◌++◌, length, map, take, IsTrue, Some, inl, inr, ⊎_elim, refl, sym, ◌∙◌, ap, subst, arith}
use Rattle.std.specs.Prelude.{Option, None, slice_get, is_some, ◌&&◌}
use Rattle.std.specs.List.{All}
use Rattle.std.specs.Map.{lookup}
use Rattle.std.proofs.lemmas.List.{map-append, take_all}
use Rattle.std.proofs.lemmas.Option.{get_or_from_slice_get}
use Rattle.pass_entry.specs.declared.entry.Entry.{Entry}
use Rattle.pass_entry.specs.declared.entry.Synced.{Synced}
use Rattle.pass_outside.specs.Areas.{Image}
use Rattle.pass_outside.specs.Moments.{Moment}
use Rattle.pass_plain.proofs.Lists.{some_is, same_itself}
use Rattle.pass_plain.proofs.Replays.{le_or_ge}
use Rattle.pass_range.specs.Places.{place, Holds}
use Rattle.pass_range.specs.Rows.{number_of, IsUnmatched}
use Rattle.pass_range.proofs.Dirtying.{source_law}
use Rattle.pass_book.specs.declared.view.FileMark.{FileMark}
use Rattle.pass_book.specs.declared.view.VaultSync.{VaultSync}
use Rattle.pass_book.specs.Numbers.{IsFileNumber}
use Rattle.pass_book.specs.Syncs.{called, durable, IsRising, rising_from, AreNumbered}
use Rattle.pass_book.proofs.Backed.{durable_last}
use Rattle.pass_pool.specs.declared.pool.FileBlock.{FileBlock}
use Rattle.pass_pool.specs.Pools.{is_block}
use Rattle.pass_clean.specs.Cleaned.{is_dirty}
use Rattle.pass_keep.specs.declared.keeper.Keeper.{Keeper}
use Rattle.pass_keep.specs.Kept.{Story, IsStory, Noted, Every, IsKeptSince, HasRecords, IsLeft, AreTimed, synced_of, bound_of, covered, list_to, source_to, range_to}
use Rattle.pass_keep.specs.Dirty.{IsDirty}
use Rattle.pass_keep.specs.Keepers.{disk_of, durable_of}
use Rattle.pass_keep.proofs.Keeping.{bound_some}
use Rattle.pass_keep.proofs.Stories.{number_known, number_later, row_set, source_earlier, source_below, matched}
use Rattle.pass_keep.proofs.Shown.{since_shown, matched_shown, settled_shown, timed_shown}
use Rattle.pass_vault.specs.Pooled.{staged_in}
use Rattle.pass_vault.specs.Vaulted.{Vaulted, story_of, is_number, noted_of, is_real, real_syncs, is_data, data_syncs}
use Rattle.pass_vault.specs.Vaults.{opening, past_of, handed_of, IsVault}
use Rattle.pass_vault.specs.Waiting.{IsWaiting}
use Rattle.pass_vault.proofs.Handing.{handed_each}
use Rattle.pass_vault.proofs.Holding.{called_last}
use Rattle.pass_vault.proofs.Numbering.{number_same, number_from}
use Rattle.pass_vault.proofs.Reals.{filter_from, real_rising, called_data, data_last}

noted_at : (ss : List VaultSync) (i : ℕ) (x : VaultSync) → slice_get ss i ≡ Some x → slice_get (map noted_of ss) i ≡ Some (noted_of x)
noted_at [] i x at = absurd (cc)
noted_at (s ∷ ss) zero x at = ap (λ (y : VaultSync). Some (noted_of y)) (some_is s x at)
noted_at (s ∷ ss) (suc i) x at = noted_at ss i x at

sync_at : (ss : List VaultSync) (i : ℕ) (x : Noted) → slice_get (map noted_of ss) i ≡ Some x → (y : VaultSync) × (slice_get ss i ≡ Some y) × (noted_of y ≡ x)
sync_at [] i x at = absurd (cc)
sync_at (s ∷ ss) zero x at = (s, refl, some_is (noted_of s) x at)
sync_at (s ∷ ss) (suc i) x at = sync_at ss i x at

fewer_at : (s : Story) (m : Moment) (d : ℕ) (ss : List VaultSync) (i : ℕ) (x : VaultSync) → Every (IsKeptSince s m d) (map noted_of ss) → slice_get ss i ≡ Some x → x.entries ≤ d
fewer_at s m d [] i x all at = absurd (cc)
fewer_at s m d (y ∷ ss) zero x all at = let same = ap (λ (z : VaultSync). z.entries) (some_is y x at) in omega (arith, same, all.0.fewer)
fewer_at s m d (y ∷ ss) (suc i) x all at = fewer_at s m d ss i x all.1 at

pub late_at : (ready : ℕ) (ss : List VaultSync) (i : ℕ) (x : VaultSync) → All (λ s. ready ≤ s.calls) ss → slice_get ss i ≡ Some x → ready ≤ x.calls
late_at ready ss i x all at =
    let same = ap (λ (z : VaultSync). z.calls) (get_or_from_slice_get ss i x x at) in let low = all i x (within_list ss i x at) in omega (arith, same, low)
  where
    within_list : (ss : List VaultSync) (i : ℕ) (x : VaultSync) → slice_get ss i ≡ Some x → i < length ss
    within_list [] i x at = absurd (cc)
    within_list (y ∷ ss) zero x at = omega arith
    within_list (y ∷ ss) (suc i) x at = let low = within_list ss i x at in omega (arith, low)

-- along the list the calls rise to the last one's
rising_last : (c k : ℕ) (front : List VaultSync) (last : VaultSync) → rising_from c k (front ++ last ∷ []) → (i : ℕ) (x : VaultSync) → slice_get (front ++ last ∷ []) i ≡ Some x → (c ≤ last.calls) × (x.calls ≤ last.calls)
rising_last c k [] last up zero x at = (up.0, let same = ap (λ (s : VaultSync). s.calls) (some_is last x at) in omega (arith, same))
rising_last c k [] last up (suc i) x at = absurd (cc)
rising_last c k (s ∷ front) last up zero x at =
    let rest = rising_last s.calls s.entries front last up.2 (length front) last (at_end front) in
    let same = ap (λ (s : VaultSync). s.calls) (some_is s x at) in
    (omega (arith, up.0, rest.0), omega (arith, rest.0, same))
  where
    at_end : (xs : List VaultSync) → slice_get (xs ++ last ∷ []) (length xs) ≡ Some last
    at_end [] = refl
    at_end (y ∷ ys) = at_end ys
rising_last c k (s ∷ front) last up (suc i) x at =
    let rest = rising_last s.calls s.entries front last up.2 i x at in (omega (arith, up.0, rest.0), rest.1)

timed_rest : (m : Moment) (n : ℕ) (x : Synced) (xs : List Synced) → AreTimed m n (x ∷ xs) → AreTimed m n xs
timed_rest m n x xs are = record {
  earlier = λ i y at. are.earlier (suc i) y at;
  within = λ i y at. are.within (suc i) y at;
  rising = λ i j y z less one two. are.rising (suc i) (suc j) y z (omega (arith, less)) one two;
}

-- the syncs behind the opening's
pub timed_told : {D : Type 0} (view : D → Moment) (v : Vaulted D) (k : Keeper D) → IsVault view v k → AreTimed (view (disk_of k)) (length v.seen) (map handed_of (real_syncs v.syncs))
timed_told view v k is =
    subst (AreTimed (view (disk_of k)) (length v.seen)) (handed_each (real_syncs v.syncs))
    (timed_rest (view (disk_of k)) (length v.seen) (synced_of (opening v.ready)) (map synced_of (map noted_of (real_syncs v.syncs)))
    (subst (AreTimed (view (disk_of k)) (length v.seen)) is.keeper.syncs (timed_shown view (past_of v) k is.keeper)))

module _ {D : Type 0} (view : D → Moment) (v : Vaulted D) (k : Keeper D) (is : IsVault view v k) (told : IsTrue (view (disk_of k)).tells) where
  abbrev s : Story
  s = story_of v

  story : IsStory s
  story = is.keeper.story

  pub opened_told : (c : Image) → (view (disk_of k)).left_since v.ready c → IsLeft s 0 (λ _. 0) c
  opened_told c left = since_shown view (past_of v) k is.keeper told 0 (opening v.ready) refl c left

  pub since_told : (i : ℕ) (x : VaultSync) → slice_get (real_syncs v.syncs) i ≡ Some x → (c : Image) → (view (disk_of k)).left_since x.calls c → IsLeft s x.entries (bound_of (noted_of x)) c
  since_told i x at c left = since_shown view (past_of v) k is.keeper told (suc i) (noted_of x) (noted_at (real_syncs v.syncs) i x at) c left

  module _ (numbered : AreNumbered v.book.session v.seen (real_syncs v.syncs)) where
    pub matched_told : (i : ℕ) (x : VaultSync) (f : FileMark) → slice_get (real_syncs v.syncs) i ≡ Some x → x.file ≡ Some f → (c : Image) → (view (disk_of k)).left_since x.calls c
        → (n : ℕ) → n ≤ length v.seen → HasRecords (list_to s n) c.log → (block at : ℕ) → source_to s n f.pnode block ≡ Some at → at < x.entries
        → Holds (place f.number block) (range_to s n f.pnode block) c.store × (IsUnmatched (list_to s n) c.store f.pnode block → ⊥)
    matched_told i x f at mark c left n within records block from source low =
        let known = number_known s story n f.pnode block from source in
        let same : known.0 ≡ f.number = number_same s story n f.pnode f.number known.0 within (numbered i x f at mark) known.1 in
        let reached : is_number x.file f.number ≡ true = ap (λ o. is_number o f.number) mark ∙ same_itself f.number in
        matched_shown view (past_of v) k is.keeper told (suc i) (noted_of x) (noted_at (real_syncs v.syncs) i x at) c left n within records f.pnode block f.number from reached
        (known.1 ∙ ap (λ (m : ℕ). Some m) same) source low

    pub written_told : (i : ℕ) (x : VaultSync) (f : FileMark) → slice_get (real_syncs v.syncs) i ≡ Some x → x.file ≡ Some f → (c : Image) → (view (disk_of k)).left_since x.calls c
        → (n : ℕ) → n ≤ length v.seen → HasRecords (list_to s n) c.log → (block at : ℕ) → source_to s x.entries f.pnode block ≡ Some at → source_to s n f.pnode block ≡ Some at
        → Holds (place f.number block) (range_to s x.entries f.pnode block) c.store × (IsUnmatched (list_to s n) c.store f.pnode block → ⊥)
    written_told i x f at mark c left n within records block from then_ source =
        let few = fewer_at s (view (disk_of k)) (durable_of k) (real_syncs v.syncs) i x is.keeper.kept.past.1 at in
        let whole : x.entries ≤ length v.seen = omega (arith, few, is.keeper.kept.within) in
        let low = source_below s x.entries f.pnode block from whole then_ in
        let both = matched_told i x f at mark c left n within records block from source low in
        let same : range_to s n f.pnode block ≡ range_to s x.entries f.pnode block =
        ⊎_elim
        (λ (le : n ≤ x.entries). sym (source_earlier s x.entries n f.pnode block from whole then_ (source_below s n f.pnode block from within source) le).1)
        (λ (le : x.entries ≤ n). (source_earlier s n x.entries f.pnode block from within source low le).1)
        (le_or_ge n x.entries) in
        (subst (λ (l : List ℕ). Holds (place f.number block) l c.store) same both.0, both.1)

  -- a block that is clean after the durable entries and doesn't wait is covered, or it was written
  module _ (synced : v.unsynced ≡ false) (n : ℕ) (all : durable v.syncs ≡ n) where
    abbrev noted : List Noted
    noted = opening v.ready ∷ map noted_of (real_syncs v.syncs)

    row_landed : (p number block at : ℕ) → source_to s n p block ≡ Some at → number_of (list_to s n) p ≡ Some number → is_dirty v.book.session (take n v.seen) v.syncs p block ≡ false
        → staged_in v.pool number block ≡ None
        → (at < covered noted number) ⊎ ((c : Image) → (view (disk_of k)).left_since (called (data_syncs v.syncs)) c → Holds (place number block) (range_to s n p block) c.store)
    row_landed p number block at source known test none = ⊎_elim
        (λ (low : at < covered noted number). inl low)
        (λ (high : covered noted number ≤ at).
        let limited : block < 1024 = (row_set s n p block at source).limited in
        let d : IsDirty s noted n number block = record {
          pnode = p;
          numbered = known;
          limited = limited;
          at = at;
          dirtied = sym (source_law s.session (take n s.history) p block limited) ∙ source;
          uncovered = high;
        } in
        let waiting = subst (λ (m : ℕ). IsWaiting s noted m (view (disk_of k)) v.pool v.unsynced (called (data_syncs v.syncs)) v.opened (λ f b. is_dirty v.book.session (take m v.seen) v.syncs f b ≡ false)) all is.waiting in
        ⊎_elim
        (λ (there : staged_in v.pool number block ≡ Some (range_to s n p block)). absurd (no_bytes (range_to s n p block) (sym none ∙ there)))
        (λ gone. inr (λ c left. gone.1.each synced told c left))
        (waiting.handled (λ un. absurd (cc (sym synced ∙ un))) number block d test))
        (lt_or at (covered noted number))
      where
        lt_or : (a b : ℕ) → (a < b) ⊎ (b ≤ a)
        lt_or a b = grind arith

        no_bytes : (x : List ℕ) → None ≡ Some x → ⊥
        no_bytes x e = absurd (cc)

  pub settled_told : ((t u : ℕ) (c : Image) → t ≤ u → (view (disk_of k)).left_since u c → (view (disk_of k)).left_since t c) → IsRising v.syncs
      → (front : List VaultSync) (last : VaultSync) → real_syncs v.syncs ≡ front ++ last ∷ [] → last.entries ≡ length v.seen
      → ((file block : ℕ) → block < 1024 → is_dirty v.book.session v.seen v.syncs file block ≡ false) → v.pool.entries ≡ [] → v.unsynced ≡ false
      → (c : Image) → (view (disk_of k)).left_since last.calls c
      → HasRecords (list_to s (length v.seen)) c.log
      × ((file block at : ℕ) → source_to s (length v.seen) file block ≡ Some at → IsUnmatched (list_to s (length v.seen)) c.store file block → ⊥)
  settled_told less up front last split whole clean empty synced c left =
      let noted_is : (past_of v).noted ≡ (opening v.ready ∷ map noted_of front) ++ noted_of last ∷ [] =
      ap (λ (ss : List VaultSync). opening v.ready ∷ map noted_of ss) split ∙ ap (λ (l : List Noted). opening v.ready ∷ l) (map-append noted_of front (last ∷ [])) in
      let all : durable v.syncs ≡ length v.seen = sym is.counted ∙ ap durable split ∙ durable_last front last ∙ whole in
      let calls : called (real_syncs v.syncs) ≡ last.calls = ap called split ∙ called_last 0 front last in
      let since : called (data_syncs v.syncs) ≤ last.calls = let low = called_data v.syncs up in omega (arith, low, calls) in
      settled_shown view (past_of v) k is.keeper less told (opening v.ready ∷ map noted_of front) (noted_of last) noted_is whole ordered
      (λ p block number at source known.
      let limited : block < 1024 = (row_set s (length v.seen) p block at source).limited in
      let test = ap (λ (h : List Entry). is_dirty v.book.session h v.syncs p block) (take_all (length v.seen) v.seen (omega arith)) ∙ clean p block limited in
      ⊎_elim (λ low. inl low) (λ held. inr (λ i from. held i (less (called (data_syncs v.syncs)) last.calls i since from)))
      (row_landed synced (length v.seen) all p number block at source known test (ap (λ (es : List (FileBlock × List ℕ)). lookup (is_block number block) es) empty)))
      c left
    where
      last_at : (xs : List VaultSync) → slice_get (xs ++ last ∷ []) (length xs) ≡ Some last
      last_at [] = refl
      last_at (y ∷ ys) = last_at ys

      ordered : (i : ℕ) (x : Noted) → slice_get (opening v.ready ∷ map noted_of (real_syncs v.syncs)) i ≡ Some x → x.calls ≤ last.calls
      ordered zero x at =
          let same = ap (λ (y : Noted). y.calls) (some_is (opening v.ready) x at) in
          let late = late_at v.ready (real_syncs v.syncs) (length front) last is.late (ap (λ (ss : List VaultSync). slice_get ss (length front)) split ∙ last_at front) in
          omega (arith, same, late)
      ordered (suc i) x at =
          let y = sync_at (real_syncs v.syncs) i x at in
          let low = (rising_last 0 0 front last (subst IsRising split (real_rising v.syncs up)) i y.0 (ap (λ (ss : List VaultSync). slice_get ss i) (sym split) ∙ y.1)).1 in
          let same = ap (λ (z : Noted). z.calls) y.2 in omega (arith, low, same)

  -- the sync that covers an entry, and where it stands
  covering : (number at : ℕ) (xs : List Noted) → at < covered xs number → (i : ℕ) × (x : Noted) × (slice_get xs i ≡ Some x) × (at < bound_of x number)
  covering number at [] low = absurd (omega (arith, low))
  covering number at (x ∷ xs) low = ⊎_elim
      (λ (here : at < bound_of x number). (0, x, refl, here))
      (λ (none : bound_of x number ≤ at). let rest = covering number at xs (omega (arith, low, none)) in (suc rest.0, rest.1, rest.2, rest.3))
      (lt_or at (bound_of x number))
    where
      lt_or : (a b : ℕ) → (a < b) ⊎ (b ≤ a)
      lt_or a b = grind arith

  -- it is a sync of a file's data
  marked : (y : VaultSync) (number : ℕ) → is_real y ≡ true → is_number y.file number ≡ true → is_data y ≡ true
  marked y number real_ has = by_case y.file refl
    where
      by_case : (o : Option FileMark) → y.file ≡ o → is_data y ≡ true
      by_case None mark = absurd (cc (sym has ∙ ap (λ (o : Option FileMark). is_number o number) mark))
      by_case (Some f) mark = ap (λ (b : Bool). b && is_some y.file) real_ ∙ ap is_some mark

  module _ (less : (t u : ℕ) (c : Image) → t ≤ u → (view (disk_of k)).left_since u c → (view (disk_of k)).left_since t c) (up : IsRising v.syncs) where
    covered_matched : (c : Image) → (view (disk_of k)).left_since (called (data_syncs v.syncs)) c → (n : ℕ) → n ≤ length v.seen → HasRecords (list_to s n) c.log
        → (p number block at : ℕ) → number_of (list_to s n) p ≡ Some number → source_to s n p block ≡ Some at → at < covered (past_of v).noted number
        → Holds (place number block) (range_to s n p block) c.store × (IsUnmatched (list_to s n) c.store p block → ⊥)
    covered_matched c left n within records p number block at known source low =
        let x = covering number at (past_of v).noted low in by_place x.0 x.1 x.2 (bound_some x.1 number at x.3)
      where
        by_place : (i : ℕ) (x : Noted) → slice_get (past_of v).noted i ≡ Some x → (x.files number ≡ true) × (at < x.entries)
            → Holds (place number block) (range_to s n p block) c.store × (IsUnmatched (list_to s n) c.store p block → ⊥)
        by_place zero x here reached = absurd (cc (ap (λ (z : Noted). z.files number) (some_is (opening v.ready) x here) ∙ reached.0))
        by_place (suc i) x here reached =
            let y = sync_at (real_syncs v.syncs) i x here in
            let from = filter_from is_real v.syncs i y.0 y.1 in
            let has : is_number y.0.file number ≡ true = ap (λ (z : Noted). z.files number) y.2 ∙ reached.0 in
            let late = data_last v.syncs up from.0.0 y.0 from.0.1 (marked y.0 number from.1 has) in
            let calls = ap (λ (z : Noted). z.calls) y.2 in
            matched_shown view (past_of v) k is.keeper told (suc i) x here c (less x.calls (called (data_syncs v.syncs)) c (omega (arith, late, calls)) left) n within records p block number at reached.0 known source reached.1

    pub landed_told : v.unsynced ≡ false → (file number block at : ℕ) → IsFileNumber v.book.session v.seen file number
        → is_dirty v.book.session (take (durable v.syncs) v.seen) v.syncs file block ≡ false → staged_in v.pool number block ≡ None → source_to s (durable v.syncs) file block ≡ Some at
        → (c : Image) → (view (disk_of k)).left_since (called (data_syncs v.syncs)) c → (n : ℕ) → n ≤ length v.seen → HasRecords (list_to s n) c.log → source_to s n file block ≡ Some at
        → Holds (place number block) (range_to s (durable v.syncs) file block) c.store × (IsUnmatched (list_to s n) c.store file block → ⊥)
    landed_told synced file number block at at_number test none then_ c left n within records source =
        let few : durable v.syncs ≤ length v.seen = let low = is.keeper.kept.within in omega (arith, low, is.durable) in
        let known = number_known s story (durable v.syncs) file block at then_ in
        let one = number_same s story (durable v.syncs) file number known.0 few at_number known.1 in
        let known_n = number_known s story n file block at source in
        let one_n = number_same s story n file number known_n.0 within at_number known_n.1 in
        let numbered_n : number_of (list_to s n) file ≡ Some number = known_n.1 ∙ ap (λ (m : ℕ). Some m) one_n in
        let below = source_below s (durable v.syncs) file block at few then_ in
        let below_n = source_below s n file block at within source in
        let same : range_to s n file block ≡ range_to s (durable v.syncs) file block =
        ⊎_elim
        (λ (le : n ≤ durable v.syncs). sym (source_earlier s (durable v.syncs) n file block at few then_ below_n le).1)
        (λ (le : durable v.syncs ≤ n). (source_earlier s n (durable v.syncs) file block at within source below le).1)
        (le_or_ge n (durable v.syncs)) in
        ⊎_elim
        (λ (low : at < covered (past_of v).noted number).
        let both = covered_matched c left n within records file number block at numbered_n source low in (subst (λ (l : List ℕ). Holds (place number block) l c.store) same both.0, both.1))
        (λ (held : (c : Image) → (view (disk_of k)).left_since (called (data_syncs v.syncs)) c → Holds (place number block) (range_to s (durable v.syncs) file block) c.store).
        let h = held c left in
        (h, matched s story n file block at number source numbered_n c.store (subst (λ (l : List ℕ). Holds (place number block) l c.store) (sym same) h)))
        (row_landed synced (durable v.syncs) refl file number block at then_ (known.1 ∙ ap (λ (m : ℕ). Some m) one) test none)

-- what waits is of files that the vault knows
pub pooled_told : {D : Type 0} (view : D → Moment) (v : Vaulted D) (k : Keeper D) → IsVault view v k → (i : ℕ) (p : FileBlock × List ℕ) → slice_get v.pool.entries i ≡ Some p
    → (p.0.block < 1024) × ((file : ℕ) × IsFileNumber v.book.session v.seen file p.0.number)
pooled_told view v k is i p at =
    let s = story_of v in
    let free = (is.waiting.pooled i p at).free in
    let low = is.keeper.kept.within in
    let up : free.count ≤ length v.seen = omega (arith, free.within, low, is.durable) in
    ((row_set s free.count free.pnode p.0.block free.at free.source).limited, (free.pnode, number_from s is.keeper.story free.pnode p.0.number (number_later s free.count (length v.seen) free.pnode p.0.number up free.numbered)))
