-- What a flush and a file's sync leave a vault, from what its disk's keeper says.
use Rattle.std.proofs.Common.{◌≡◌, ◌⊎◌, ◌+◌, ◌*◌, ◌<◌, ◌≤◌, ℕ, Bool, true, false, List, [], ◌∷◌, ◌++◌, length, take, Some, inl, refl, sym, ◌∙◌, ap, subst, ⊎_elim, arith, Vec, length-take}
use Rattle.std.specs.Prelude.{None, slice_get, not, ◌==◌, ◌&&◌}
use Rattle.std.specs.List.{All}
use Rattle.std.specs.declared.alloc.Global.{Global}
use mathlib.Core.List.{IsPrefix}
use Rattle.pass_entry.specs.declared.entry.Entry.{Entry}
use Rattle.pass_entry.specs.declared.record.Record.{Record}
use Rattle.pass_outside.specs.Areas.{Image}
use Rattle.pass_outside.specs.Moments.{Moment, IsAtEnd}
use Rattle.pass_log.specs.Log.{log_end, log_opened, LeavesStore}
use Rattle.pass_log.specs.Records.{spellings}
use Rattle.pass_bounds.specs.Lawful.{LengthLaw}
use Rattle.pass_plain.specs.Legal.{IsLegal}
use Rattle.pass_plain.proofs.Lists.{same_numbers, same_itself}
use Rattle.pass_range.specs.Rows.{number_of}
use Rattle.pass_book.specs.declared.view.Role.TheVariants as role
use Rattle.pass_book.specs.declared.view.VaultSync.{VaultSync}
use Rattle.pass_book.specs.Names.{name, concerns, Listed}
use Rattle.pass_book.specs.Numbers.{IsFileNumber}
use Rattle.pass_book.specs.Syncs.{called, durable, IsRising, AreNumbered}
use Rattle.pass_book.specs.Tokens.{VaultState}
use Rattle.pass_book.specs.Views.{longer}
use Rattle.pass_book.proofs.Backed.{number_stays, durable_last}
use Rattle.pass_book.proofs.Badges.{longer_has}
use Rattle.pass_book.proofs.Prefixes.{prefix_length}
use Rattle.pass_clean.specs.Blocks.{AreDirty, IsGiven}
use Rattle.pass_clean.specs.Cleaned.{covers, cleaned, is_dirty}
use Rattle.pass_clean.proofs.Cleaning.{listed_law, durable_law}
use Rattle.pass_keep.specs.declared.block.Block.{Block}
use Rattle.pass_keep.specs.declared.keeper.Keeper.{Keeper}
use Rattle.pass_keep.specs.Kept.{Story, Noted, covered, list_to, range_to, records_to, AreParts}
use Rattle.pass_keep.specs.Dirty.{IsDirty, IsFree, AreSized, AreWritten, AreThere, IsAscending}
use Rattle.pass_keep.specs.Parts.{bytes_length, AreFrames}
use Rattle.pass_keep.specs.Keepers.{with_sync, no_file, disk_of, log_of, durable_of, IsKeeper, GoesOn, KeptFlushed, KeptUnflushed, KeptUnsynced}
use Rattle.pass_keep.proofs.Keeping.{covered-push}
use Rattle.pass_vault.specs.declared.opening.Opening.{Opening}
use Rattle.pass_vault.specs.declared.unwritten.Unwritten.{Unwritten}
use Rattle.pass_vault.specs.Blocks.{AreBlocks, AreSomeDirty}
use Rattle.pass_vault.specs.Pooled.{given_in, to_write, without_file}
use Rattle.pass_vault.specs.Rooms.{most_entries, first_place, last_place, IsRoomy}
use Rattle.pass_vault.specs.Saves.{KeptSaved, Lands, Done, IsStaging, IsToStage, AreToStage, IsStageable, Stages, StagesNone}
use Rattle.pass_vault.specs.Vaulted.{story_of, story_with, noted_of, is_real, is_data, data_syncs, flushed, file_synced, file_staged}
use Rattle.pass_vault.specs.Vaults.{past_of, valued, IsVault, Listed as IsListed}
use Rattle.pass_vault.specs.Waiting.{IsPooled, IsWell, IsWaiting}
use Rattle.pass_vault.proofs.Cleaning.{blocks_ascend, to_dirty, to_clean}
use Rattle.pass_vault.proofs.Gathering.{given_found, written_rising, each_free, all_sized, all_written, all_landed}
use Rattle.pass_vault.proofs.Holding.{real_called, vault_ready, called_last, roomy_on, vault_noted, vault_same}
use Rattle.pass_vault.proofs.Longer.{front, vault_longer, parts_longer}
use Rattle.pass_vault.proofs.Numbering.{number_to}
use Rattle.pass_vault.proofs.Pooling.{left_from, left_others}
use Rattle.pass_vault.proofs.Reals.{filter_push, filter_skip, called_data}
use Rattle.pass_vault.proofs.Rooms.{frames_fit, entries_fit, append_fits, append_room, append_bounded}
use Rattle.pass_vault.proofs.Putting.{staged_clean}
use Rattle.pass_vault.proofs.Waiting.{cleaned_other, waiting_weaker, waiting_on, waiting_synced}

-- the longer of a list and itself
pub longer_self : (xs : List Entry) → longer xs xs ≡ xs
longer_self xs = longer_has (λ ys. ys ≡ xs) xs xs refl refl

module _ {D : Type 0} (view : D → Moment) (k : Keeper D) (seat : VaultState) (o : Opening D) (u : Unwritten) (is : IsVault view (valued view k seat o u) k)
    (seen : List Entry) (begins : IsPrefix seat.seen seen) (legal : IsLegal seat.book.session seen) where
  -- the seat that has seen more
  abbrev more : VaultState
  more = record seat { seen = seen }

  pub met : IsVault view (valued view k more o u) k
  met = vault_longer view (valued view k seat o u) k is seen begins legal

  -- A flush
  module _ (new : Keeper D) (note : List Entry) (told : IsPrefix note seen) (from : durable seat.syncs ≤ length note) (frames : List (Vec ℕ Global))
      (parts : (parts : List (List Record)) × AreParts (story_with (valued view k seat o u) note) (durable seat.syncs) (length note) parts × AreFrames parts frames × All (λ part. 0 < length part) parts)
      (upto : ℕ) (all : upto ≡ length note) (few : length note ≤ most_entries) (law : LengthLaw) where
    within : upto ≤ length seen
    within = let longer = prefix_length note seen told in omega (arith, all, longer)

    abbrev s : Story
    s = story_of (valued view k more o u)

    cut : AreParts s (durable_of k) upto parts.0
    cut =
        let there = parts_longer (valued view k seat o u) (valued view k more o u) note seen refl told (length note) (omega arith) parts.0 (durable seat.syncs) from parts.1 in
        subst (λ (n : ℕ). AreParts s n upto parts.0) (sym is.durable)
        (subst (λ (n : ℕ). AreParts s (durable seat.syncs) n parts.0) (sym all) there)

    fits : bytes_length frames + 2 * length (spellings (records_to s (durable_of k))) ≤ 2 * length (spellings (records_to s upto))
    fits = frames_fit s (durable_of k) upto parts.0 frames cut parts.2 parts.3

    records : length (spellings (records_to s upto)) ≤ 1376 * upto
    records = entries_fit law s met.keeper.story upto within

    entries : upto ≤ most_entries
    entries = omega (arith, all, few)

    pub flush_fits : log_end (log_of k) + bytes_length frames < 549755813888
    flush_fits =
        append_fits (view (disk_of k)) (log_end (log_of k)) 0 (bytes_length frames) (length (spellings (records_to s (durable_of k)))) (length (spellings (records_to s upto))) upto fits entries records met.roomy.bounded

    -- what its append says
    module _ (healthy : (view (disk_of k)).faults ≤ log_opened (log_of k)) (goes : GoesOn (view (disk_of k)) (view (disk_of new))) (opened : log_opened (log_of new) ≡ log_opened (log_of k))
        (place : log_end (log_of new) ≤ log_end (log_of k) + bytes_length frames) (stands : IsAtEnd (view (disk_of k)) → log_of new ≡ log_of k) where
      was_room : (IsAtEnd (view (disk_of k)) → ⊥) → log_end (log_of k) ≤ first_place + 2 * length (spellings (records_to s (durable_of k)))
      was_room going = subst (λ (n : ℕ). log_end (log_of k) ≤ first_place + 2 * length (spellings (records_to s n))) (sym is.durable) (met.roomy.room healthy going)

      bounded : log_end (log_of new) ≤ last_place
      bounded =
          append_bounded (view (disk_of k)) (log_end (log_of k)) (log_end (log_of new)) (bytes_length frames) (length (spellings (records_to s (durable_of k)))) (length (spellings (records_to s upto))) upto
          fits entries records met.roomy.bounded was_room place (λ ended. ap log_end (stands ended))

      module _ (store : LeavesStore (view (disk_of k)) (view (disk_of new)))
          (counts : (t : ℕ) (c : Image) → t ≤ (view (disk_of k)).calls → (view (disk_of k)).may_leave c → (view (disk_of k)).left_since t c) (rising : IsRising seat.syncs) where
        abbrev since : ℕ
        since = called (data_syncs seat.syncs)

        since_le : since ≤ (view (disk_of k)).calls
        since_le = let low = real_called view (valued view k seat o u) k is in let less = called_data seat.syncs rising in omega (arith, low, less)

        clean_low : (f b : ℕ) → cleaned f b seat.syncs ≤ durable seat.syncs
        clean_low f b = durable_law f b seat.syncs rising

        -- an image of the run, or one from before it
        shown : (c : Image) → (view (disk_of new)).left_since since c → (d : Image) × (view (disk_of k)).left_since since d × (c.store ≡ d.store)
        shown c left = ⊎_elim (λ old. (c, old, refl)) (λ from. (from.0, counts since from.0 since_le from.1, from.2)) (store.moments.nothing_else since c since_le left)

        low_all : durable seat.syncs ≤ length seen
        low_all = let low = met.keeper.kept.within in omega (arith, low, is.durable)

        abbrev noted : List Noted
        noted = (past_of (valued view k more o u)).noted

        pub flush_lost : KeptUnflushed view frames upto k new → durable_of new ≡ durable_of k → (((view (disk_of k)).faults < (view (disk_of new)).faults) ⊎ IsAtEnd (view (disk_of new)))
            → IsVault view (valued view new more o u) new
        flush_lost kept number bad = record {
          keeper = kept (past_of (valued view k more o u)) parts.0 met.keeper within cut parts.2;
          durable = number ∙ is.durable;
          counted = is.counted;
          late = is.late;
          timely = omega (arith, is.timely, goes.2);
          waiting = subst (λ (n : ℕ). IsWaiting s noted (durable seat.syncs) (view (disk_of new)) u.pool u.unsynced since n (IsListed (valued view k more o u))) (sym opened)
              (waiting_on s met.keeper.story noted noted (durable seat.syncs) (durable seat.syncs) (omega arith) low_all (λ n. refl) seat.syncs seat.syncs (λ f b. refl) clean_low
              (view (disk_of k)) (view (disk_of new)) u.pool u.unsynced since since (log_opened (log_of k)) met.waiting goes.0 goes.1 goes.3 store (λ told c left. shown c left));
          roomy = record {
            bounded = bounded;
            room = λ still going. let first : log_opened (log_of k) ≤ (view (disk_of k)).faults = is.keeper.kept.settled.opened in
                absurd (⊎_elim (λ rose. omega (arith, rose, still, opened, first)) going bad);
          };
        }

        pub flush_kept : KeptFlushed view frames upto k new → durable_of new ≡ upto → (next : VaultState) → next ≡ record more { syncs = seat.syncs ++ flushed (view (disk_of new)).calls upto ∷ [] }
            → IsVault view (valued view new next o u) new
        flush_kept kept number next is_next =
            let keeper = kept (past_of (valued view k more o u)) parts.0 met.keeper within cut parts.2 in
            let y : VaultSync = flushed (view (disk_of new)).calls upto in
            let ready = vault_ready view (valued view k seat o u) k is in
            let last : durable (seat.syncs ++ y ∷ []) ≡ upto = durable_last seat.syncs y in
            let low = λ (going : IsAtEnd (view (disk_of new)) → ⊥).
            append_room (view (disk_of k)) (log_end (log_of k)) (log_end (log_of new)) (bytes_length frames) (length (spellings (records_to s (durable_of k)))) (length (spellings (records_to s upto))) upto
            fits entries records met.roomy.bounded was_room place (λ ended. going (goes.3 ended)) in
            let roomy : IsRoomy (view (disk_of new)) (valued view new (record more { syncs = seat.syncs ++ y ∷ [] }) o u) = record {
              bounded = bounded;
              room = λ still going. subst (λ (n : ℕ). log_end (log_of new) ≤ first_place + 2 * length (spellings (records_to s n))) (sym last) (low going);
            } in
            let waiting = subst (λ (n : ℕ). IsWaiting s (noted ++ noted_of y ∷ []) upto (view (disk_of new)) u.pool u.unsynced since n (λ f b. is_dirty seat.book.session (take upto seen) (seat.syncs ++ y ∷ []) f b ≡ false)) (sym opened)
            (waiting_on s met.keeper.story noted (noted ++ noted_of y ∷ []) (durable seat.syncs) upto (omega (arith, from, all)) within
            (λ n. covered_none n) seat.syncs (seat.syncs ++ y ∷ []) (λ f b. cleaned_other f b seat.syncs y refl) clean_low
            (view (disk_of k)) (view (disk_of new)) u.pool u.unsynced since since (log_opened (log_of k)) met.waiting goes.0 goes.1 goes.3 store (λ told c left. shown c left)) in
            vault_noted view k new more next o u u y no_file since is_next keeper refl number is.late (omega (arith, ready, goes.2)) refl (omega arith) (ap called (filter_skip is_data seat.syncs y refl)) waiting roomy
          where
            covered_none : (n : ℕ) → covered (noted ++ noted_of (flushed (view (disk_of new)).calls upto) ∷ []) n ≡ covered noted n
            covered_none n = let push = covered-push noted (noted_of (flushed (view (disk_of new)).calls upto)) n in omega (arith, push)

  -- A file's desk
  module _ (file number : ℕ) (mine : List Entry) (at_number : IsFileNumber seat.book.session mine file number) (has : IsPrefix mine seen) (own : List VaultSync) (listed : Listed (name role.Desk file) own seat.syncs)
      (numbered : AreNumbered seat.book.session seen seat.syncs) where
    abbrev files : ℕ → Bool
    files m = number == m

    pub file_number : IsFileNumber seat.book.session seen file number
    file_number = number_stays seat.book.session mine seen file number has at_number

    abbrev t : Story
    t = story_of (valued view k more o u)

    abbrev waits : List Noted
    waits = (past_of (valued view k more o u)).noted

    abbrev n : ℕ
    n = durable seat.syncs

    low_n : n ≤ length seen
    low_n = let low = met.keeper.kept.within in omega (arith, low, is.durable)

    same_front : take n seat.seen ≡ take n seen
    same_front = let low = is.keeper.kept.within in sym (front seat.seen seen n begins (omega (arith, low, is.durable)))

    same_clean : (block : ℕ) → cleaned file block own ≡ cleaned file block seat.syncs
    same_clean block = listed_law file block own seat.syncs listed

    number_is : number_of (list_to t (length seen)) file ≡ Some number
    number_is = number_to t met.keeper.story file number file_number

    file_dirty : (block : ℕ) → block < 1024 → is_dirty seat.book.session (take n seen) own file block ≡ true → (d : IsDirty t waits n number block) × (d.pnode ≡ file)
    file_dirty = to_dirty t met.keeper.story file number file_number o.ready n low_n seat.syncs numbered own same_clean

    file_clean : (block : ℕ) → is_dirty seat.book.session (take n seen) own file block ≡ false → is_dirty seat.book.session (take n seen) seat.syncs file block ≡ false
    file_clean = to_clean t met.keeper.story file number file_number o.ready n low_n seat.syncs numbered own same_clean

    -- Its blocks are written
    module _ (blocks : List Block) (given : List (ℕ × List ℕ)) (are : AreBlocks number (to_write u.pool number given) blocks) (before : AreDirty seat.book.session (take n seat.seen) own file given) where
      listing : AreDirty seat.book.session (take n seen) own file given
      listing = subst (λ (h : List Entry). AreDirty seat.book.session h own file given) same_front before

      given_dirty : (block : ℕ) → IsGiven given block → IsDirty t waits n number block
      unfolding AreDirty
      given_dirty block g = let e = listing.each g.i g.x g.is in subst (IsDirty t waits n number) g.same (file_dirty g.x.0 e.0 e.1).0

      given_bytes : (i : ℕ) (x : ℕ × List ℕ) → slice_get given i ≡ Some x → x.1 ≡ range_to t n file x.0
      unfolding AreDirty
      given_bytes i x at = (listing.each i x at).2

      given_clean : (block : ℕ) → IsDirty t waits n number block → given_in given block ≡ None → is_dirty seat.book.session (take n seen) seat.syncs file block ≡ false
      unfolding AreDirty
      given_clean block d none = by_test (is_dirty seat.book.session (take n seen) own file block) refl
        where
          by_test : (b : Bool) → is_dirty seat.book.session (take n seen) own file block ≡ b → is_dirty seat.book.session (take n seen) seat.syncs file block ≡ false
          by_test true test = let g = listing.all block d.limited test in absurd (given_found given block g.i g.x g.is g.same none)
          by_test false test = file_clean block test

      abbrev data_since : ℕ
      data_since = called (data_syncs seat.syncs)

      each_place_free : (i : ℕ) (x : Block) → slice_get blocks i ≡ Some x → IsFree t waits n x.number x.block
      each_place_free = each_free t met.keeper.story waits n low_n number file number_is u.pool given blocks are given_dirty given_bytes (IsListed (valued view k more o u)) given_clean
          (view (disk_of k)) u.unsynced data_since (log_opened (log_of k)) met.waiting

      pub file_sized : AreSized blocks
      file_sized = all_sized t met.keeper.story waits n low_n number file number_is u.pool given blocks are given_dirty given_bytes (IsListed (valued view k more o u)) given_clean
          (view (disk_of k)) u.unsynced data_since (log_opened (log_of k)) met.waiting

      pub file_ascends : IsAscending blocks
      file_ascends = blocks_ascend number (to_write u.pool number given) blocks are (written_rising u.pool number given)

      module _ (new : Keeper D) (goes : GoesOn (view (disk_of k)) (view (disk_of new))) (log : log_of new ≡ log_of k) (same : durable_of new ≡ durable_of k) where
        pub file_lost : KeptUnsynced view blocks k new → (((view (disk_of k)).faults < (view (disk_of new)).faults) ⊎ IsAtEnd (view (disk_of new)))
            → IsVault view (valued view new more o (record { pool = u.pool; unsynced = true })) new
        file_lost kept bad =
            let count : durable_of new ≡ n = same ∙ is.durable in
            let first : log_opened (log_of k) ≤ (view (disk_of k)).faults = is.keeper.kept.settled.opened in
            let opened = ap log_opened log in
            vault_same view k new more o u (record { pool = u.pool; unsynced = true }) met log goes same (IsListed (valued view k more o u))
            (record {
              keeper = kept (past_of (valued view k more o u)) met.keeper (λ told i x at. subst (λ (m : ℕ). IsFree t waits m x.number x.block) (sym is.durable) (each_place_free i x at));
              waiting = record {
                pooled = λ i p at. subst (λ (m : ℕ). IsPooled t waits m p) (sym count) (met.waiting.pooled i p at);
                handled = λ well. let w = well refl in absurd (⊎_elim (λ rose. omega (arith, rose, w.0, opened, first)) w.1 bad);
              };
            }) seat.syncs refl refl refl (omega (arith, is.timely, goes.2)) (λ f b test. test)

        pub file_kept : KeptSaved view u.unsynced blocks k new → Lands view u.unsynced blocks k new → IsRising seat.syncs → IsWell (view (disk_of k)) u.unsynced (log_opened (log_of k))
            → ((c : Image) → (view (disk_of k)).may_leave c → (view (disk_of k)).left_since data_since c) → (next : VaultState)
            → next ≡ record more { syncs = seat.syncs ++ file_synced file number (view (disk_of new)).calls n ∷ [] } → IsVault view (valued view new next o (record { pool = without_file number u.pool; unsynced = false })) new
        file_kept kept lands rising well counts next is_next =
            let y : VaultSync = file_synced file number (view (disk_of new)).calls n in
            let ready = vault_ready view (valued view k seat o u) k is in
            let since_le : data_since ≤ (view (disk_of k)).calls = let low = real_called view (valued view k seat o u) k is in let less = called_data seat.syncs rising in omega (arith, low, less) in
            let written = all_written t met.keeper.story waits n low_n number file number_is u.pool given blocks are given_dirty given_bytes (IsListed (valued view k more o u)) given_clean
            (view (disk_of k)) u.unsynced data_since (log_opened (log_of k)) met.waiting well files reached in
            let landed = all_landed t met.keeper.story waits n low_n number file number_is u.pool given blocks are given_dirty given_bytes (IsListed (valued view k more o u)) given_clean
            (view (disk_of k)) u.unsynced data_since (log_opened (log_of k)) met.waiting well files reached in
            let keeper = subst (λ (m : ℕ). IsKeeper view (with_sync (past_of (valued view k more o u)) (view (disk_of new)).calls m files) new) is.durable
            (kept (past_of (valued view k more o u)) files met.keeper
            (λ told. subst (λ (m : ℕ). AreWritten t waits m files blocks (view (disk_of k)).seen.store) (sym is.durable) (written told))
            (λ empty synced told c may. subst (λ (m : ℕ). AreThere t waits m files c.store) (sym is.durable) (landed empty synced told c (counts c may)))) in
            let last : durable (seat.syncs ++ y ∷ []) ≡ n = durable_last seat.syncs y in
            let waiting = subst (λ (m : ℕ). IsWaiting t (waits ++ noted_of y ∷ []) n (view (disk_of new)) (without_file number u.pool) false (view (disk_of new)).calls m
            (λ f b. is_dirty seat.book.session (take n seen) (seat.syncs ++ y ∷ []) f b ≡ false)) (sym (ap log_opened log))
            (waiting_synced t met.keeper.story waits n low_n number file (view (disk_of new)).calls number_is (noted_of y) refl (λ m. refl) seat.syncs y apart
            (view (disk_of k)) u.pool (without_file number u.pool) u.unsynced data_since (log_opened (log_of k)) met.waiting
            (λ i p at. let from = left_from number u.pool i p at in (from.0, λ mine low. absurd (cc (sym from.1 ∙ ap (λ (q : ℕ). number == q) (sym mine) ∙ same_itself number))))
            (λ m block other. left_others number u.pool m block other)
            (view (disk_of new)) goes.0 well (λ m block bytes other low short was. lands number data_since m block bytes are.of_file since_le other low short was)) in
            vault_noted view k new more next o u (record { pool = without_file number u.pool; unsynced = false }) y files (view (disk_of new)).calls is_next keeper refl (same ∙ is.durable) is.late
            (omega (arith, ready, goes.2)) refl (omega arith) (ap called (filter_push is_data seat.syncs y refl) ∙ called_last 0 (data_syncs seat.syncs) y) waiting
            (roomy_on view k new more o u (record { pool = without_file number u.pool; unsynced = false }) (seat.syncs ++ y ∷ []) log goes last met.roomy)
          where
            reached : (m : ℕ) → files m ≡ true → number ≡ m
            reached m is_true = same_numbers number m is_true

            apart : (f block : ℕ) → (f ≡ file → ⊥) → concerns (name role.Desk f) (file_synced file number (view (disk_of new)).calls n) && covers block (file_synced file number (view (disk_of new)).calls n) ≡ false
            apart f block other = by_test (file == f) refl
              where
                by_test : (b : Bool) → (file == f) ≡ b → (file == f) && true ≡ false
                by_test true test = absurd (other (sym (same_numbers file f test)))
                by_test false test = ap (λ (b : Bool). b && true) test

    -- Some of its blocks are staged
    module _ (blocks : List (ℕ × List ℕ)) (before : AreSomeDirty seat.book.session (take n seat.seen) own file blocks) where
      abbrev clean : ℕ → ℕ → Bool
      clean f b = not (is_dirty seat.book.session (take n seen) seat.syncs f b)

      abbrev staged_since : ℕ
      staged_since = called (data_syncs seat.syncs)

      within_k : durable_of k ≤ length seen
      within_k = met.keeper.kept.within

      to_stage : AreToStage t waits (durable_of k) number file blocks
      to_stage i x at =
          let e = (subst (λ (h : List Entry). AreSomeDirty seat.book.session h own file blocks) same_front before).each i x at in
          let d = file_dirty x.0 e.0 e.1 in
          subst (λ (m : ℕ). IsToStage t waits m number file x) (sym is.durable) (record { dirty = d.0; of_file = d.1; bytes = e.2 ∙ ap (λ (q : ℕ). range_to t n q x.0) (sym d.1) })

      begun : IsStaging view (past_of (valued view k more o u)) staged_since k u (Done clean file [])
      begun = record {
        keeper = met.keeper;
        waiting = waiting_weaker t waits (durable_of k) (view (disk_of k)) u.pool u.unsynced staged_since (log_opened (log_of k)) (IsListed (valued view k more o u)) (Done clean file []) fewer
            (subst (λ (m : ℕ). IsWaiting t waits m (view (disk_of k)) u.pool u.unsynced staged_since (log_opened (log_of k)) (IsListed (valued view k more o u))) (sym is.durable) met.waiting);
      }
        where
          not_true : (b : Bool) → not b ≡ true → b ≡ false
          not_true true is_true = absurd (cc)
          not_true false is_true = refl

          none : (block : ℕ) → IsGiven [] block → ⊥
          none block g = absurd (cc g.is)

          fewer : (f block : ℕ) → Done clean file [] f block → is_dirty seat.book.session (take n seen) seat.syncs f block ≡ false
          fewer f block done = ⊎_elim (λ (c : clean f block ≡ true). not_true (is_dirty seat.book.session (take n seen) seat.syncs f block) c) (λ (g : (f ≡ file) × IsGiven [] block). absurd (none block g.1)) done

      pub staging_known : IsStageable view k u number blocks
      staging_known = (past_of (valued view k more o u), staged_since, clean, file, [], within_k, begun, to_stage)

      module _ (new : Keeper D) (w : Unwritten) (log : log_of new ≡ log_of k) (goes : GoesOn (view (disk_of k)) (view (disk_of new))) (count : durable_of new ≡ durable_of k) where
        pub staged_lost : StagesNone view number blocks k u new w → IsVault view (valued view new more o w) new
        staged_lost none = vault_same view k new more o u w met log goes count (Done clean file []) (none (past_of (valued view k more o u)) staged_since clean file [] within_k begun to_stage)
            seat.syncs refl refl refl (omega (arith, is.timely, goes.2)) (λ f b test. inl (ap not test))

        pub staged_kept : Stages view number blocks k u new w → (next : VaultState) → next ≡ record more { syncs = seat.syncs ++ file_staged file number (view (disk_of new)).calls n blocks ∷ [] }
            → IsVault view (valued view new next o w) new
        staged_kept all next is_next =
            let y : VaultSync = file_staged file number (view (disk_of new)).calls n blocks in
            subst (λ (s : VaultState). IsVault view (valued view new s o w) new) (sym is_next)
            (vault_same view k new more o u w met log goes count (Done clean file blocks) (all (past_of (valued view k more o u)) staged_since clean file [] within_k begun to_stage)
            (seat.syncs ++ y ∷ []) (filter_skip is_real seat.syncs y refl) (filter_skip is_data seat.syncs y refl) (durable_last seat.syncs y) (let last = called_last 0 seat.syncs y in omega (arith, last))
            (λ f b test. staged_clean seat.book.session (take n seen) seat.syncs file number (view (disk_of new)).calls n blocks (omega (arith, length-take n seen)) f b test))
