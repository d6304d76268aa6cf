-- A vault after a sync or a staging, from what its disk's keeper says.
use Rattle.std.proofs.Common.{◌≡◌, ◌+◌, ◌*◌, ◌≤◌, ℕ, zero, suc, Bool, true, false, List, [], ◌∷◌, ◌++◌, length, map, take, refl, sym, ◌∙◌, ap, subst, arith}
use Rattle.std.specs.List.{All}
use Rattle.std.proofs.lemmas.List.{map-append}
use Rattle.std.proofs.lemmas.List.Elements.{All-append}
use Rattle.lru.specs.LruCache.{lru_cache}
use Rattle.pass_outside.specs.Moments.{Moment}
use Rattle.pass_book.specs.declared.view.VaultSync.{VaultSync}
use Rattle.pass_book.specs.Syncs.{durable, called, called_from}
use Rattle.pass_book.specs.Tokens.{VaultState}
use Rattle.pass_book.proofs.Backed.{durable_last}
use Rattle.pass_clean.specs.Cleaned.{is_dirty}
use Rattle.pass_keep.specs.declared.keeper.Keeper.{Keeper}
use Rattle.pass_keep.specs.Kept.{Story, Noted, Every, IsKeptSince, records_to}
use Rattle.pass_log.specs.declared.log.Log.{Log}
use Rattle.pass_log.specs.Log.{log_end, log_opened}
use Rattle.pass_log.specs.Records.{spellings}
use Rattle.pass_keep.specs.Keepers.{Past, with_sync, no_file, disk_of, log_of, durable_of, IsKeeper, GoesOn, KeptStill, KeptClean}
use Rattle.pass_keep.proofs.Stories.{source_below}
use Rattle.pass_keep.proofs.Writing.{dirty_source}
use Rattle.pass_vault.specs.declared.opening.Opening.{Opening}
use Rattle.pass_vault.specs.declared.unwritten.Unwritten.{Unwritten}
use Rattle.pass_vault.specs.Pooled.{Blocks, pool_capacity}
use Rattle.pass_vault.specs.Vaulted.{Vaulted, story_of, noted_of, is_real, real_syncs, data_syncs}
use Rattle.pass_vault.specs.Rooms.{first_place, last_place, IsRoomy}
use Rattle.pass_vault.specs.Saves.{IsStaging}
use Rattle.pass_vault.specs.Vaults.{opening, past_of, valued, Listed, IsVault}
use Rattle.pass_vault.specs.Waiting.{IsWaiting}
use Rattle.pass_vault.proofs.Reals.{filter_push}
use Rattle.pass_vault.proofs.Waiting.{waiting_weaker}

-- no sync has more calls than the disk
called_le : (s : Story) (m : Moment) (d c : ℕ) (ss : List VaultSync) → c ≤ m.calls → Every (IsKeptSince s m d) (map noted_of ss) → called_from c ss ≤ m.calls
called_le s m d c [] le all = le
called_le s m d c (x ∷ ss) le all = called_le s m d x.calls ss all.0.earlier all.1

pub real_called : {D : Type 0} (view : D → Moment) (v : Vaulted D) (k : Keeper D) → IsVault view v k → called (real_syncs v.syncs) ≤ (view (disk_of k)).calls
real_called view v k is = called_le _ (view (disk_of k)) (durable_of k) 0 (real_syncs v.syncs) (omega arith) is.keeper.kept.past.1

-- and as many as when it was opened
pub vault_ready : {D : Type 0} (view : D → Moment) (v : Vaulted D) (k : Keeper D) → IsVault view v k → v.ready ≤ (view (disk_of k)).calls
vault_ready view v k is = is.keeper.kept.past.0.earlier

only_one : {n : ℕ} (y : VaultSync) → n ≤ y.calls → All (λ s. n ≤ s.calls) (y ∷ [])
only_one y low zero d less = low
only_one y low (suc i) d less = absurd (omega (arith, less))

pub called_last : (c : ℕ) (ss : List VaultSync) (y : VaultSync) → called_from c (ss ++ y ∷ []) ≡ y.calls
called_last c [] y = refl
called_last c (s ∷ ss) y = called_last s.calls ss y

abbrev past_at : Story → List Noted → Past
past_at s xs = record { story = s; noted = xs }

-- while the log stands so does its room
pub roomy_on : {D : Type 0} (view : D → Moment) (k new : Keeper D) (seat : VaultState) (o : Opening D) (u w : Unwritten) (ss : List VaultSync) → log_of new ≡ log_of k → GoesOn (view (disk_of k)) (view (disk_of new))
    → durable ss ≡ durable seat.syncs → IsRoomy (view (disk_of k)) (valued view k seat o u) → IsRoomy (view (disk_of new)) (valued view new (record seat { syncs = ss }) o w)
roomy_on view k new seat o u w ss log goes same roomy =
    let s = story_of (valued view k seat o u) in
    record {
      bounded = subst (λ (l : Log). log_end l ≤ last_place) (sym log) roomy.bounded;
      room = λ healthy going.
          let opened = ap log_opened log in
          let low = roomy.room (omega (arith, healthy, opened, goes.1)) (λ ended. going (goes.3 ended)) in
          subst (λ (l : Log). log_end l ≤ first_place + 2 * length (spellings (records_to s (durable ss)))) (sym log)
          (subst (λ (n : ℕ). log_end (log_of k) ≤ first_place + 2 * length (spellings (records_to s n))) (sym same) low);
    }

-- one sync more
pub vault_noted : {D : Type 0} (view : D → Moment) (k new : Keeper D) (seat next : VaultState) (o : Opening D) (u w : Unwritten) (y : VaultSync) (files : ℕ → Bool) (since : ℕ)
    → next ≡ record seat { syncs = seat.syncs ++ y ∷ [] } → IsKeeper view (with_sync (past_of (valued view k seat o u)) y.calls y.entries files) new
    → noted_of y ≡ record { calls = y.calls; entries = y.entries; files = files } → durable_of new ≡ y.entries → All (λ s. o.ready ≤ s.calls) (real_syncs seat.syncs) → o.ready ≤ y.calls
    → is_real y ≡ true → y.calls ≤ (view (disk_of new)).calls → called (data_syncs (seat.syncs ++ y ∷ [])) ≡ since
    → IsWaiting (story_of (valued view new seat o w)) ((opening o.ready ∷ map noted_of (real_syncs seat.syncs)) ++ noted_of y ∷ []) y.entries (view (disk_of new)) w.pool w.unsynced since (log_opened (log_of new))
    (λ f b. is_dirty seat.book.session (take y.entries seat.seen) (seat.syncs ++ y ∷ []) f b ≡ false)
    → IsRoomy (view (disk_of new)) (valued view new (record seat { syncs = seat.syncs ++ y ∷ [] }) o w)
    → IsVault view (valued view new next o w) new
vault_noted view k new seat next o u w y files since is keeper same number late low real_ timely last_data waiting roomy =
    let before = opening o.ready ∷ map noted_of (real_syncs seat.syncs) in
    let push = filter_push is_real seat.syncs y real_ in
    let list : before ++ noted_of y ∷ [] ≡ opening o.ready ∷ map noted_of (real_syncs (seat.syncs ++ y ∷ [])) =
    ap (λ (l : List Noted). opening o.ready ∷ l) (sym (map-append noted_of (real_syncs seat.syncs) (y ∷ []))) ∙ ap (λ (l : List VaultSync). opening o.ready ∷ map noted_of l) (sym push) in
    let noted : before ++ record { calls = y.calls; entries = y.entries; files = files } ∷ [] ≡ opening o.ready ∷ map noted_of (real_syncs (seat.syncs ++ y ∷ [])) =
    ap (λ (x : Noted). before ++ x ∷ []) (sym same) ∙ list in
    let last : durable (seat.syncs ++ y ∷ []) ≡ y.entries = durable_last seat.syncs y in
    subst (λ (s : VaultState). IsVault view (valued view new s o w) new) (sym is)
    (record {
      keeper = subst (λ (l : List Noted). IsKeeper view (past_at (past_of (valued view k seat o u)).story l) new) noted keeper;
      durable = number ∙ sym last;
      counted = ap durable push ∙ durable_last (real_syncs seat.syncs) y ∙ sym last;
      late = subst (All (λ s. o.ready ≤ s.calls)) (sym push) (All-append (λ s. o.ready ≤ s.calls) (real_syncs seat.syncs) (y ∷ []) late (only_one y low));
      timely = let z = called_last 0 seat.syncs y in omega (arith, z, timely);
      waiting =
          subst (λ (l : List Noted). IsWaiting (story_of (valued view new seat o w)) l (durable (seat.syncs ++ y ∷ [])) (view (disk_of new)) w.pool w.unsynced (called (data_syncs (seat.syncs ++ y ∷ []))) (log_opened (log_of new))
          (λ f b. is_dirty seat.book.session (take (durable (seat.syncs ++ y ∷ [])) seat.seen) (seat.syncs ++ y ∷ []) f b ≡ false)) list
          (subst (λ (c : ℕ). IsWaiting (story_of (valued view new seat o w)) (before ++ noted_of y ∷ []) (durable (seat.syncs ++ y ∷ [])) (view (disk_of new)) w.pool w.unsynced c (log_opened (log_of new))
          (λ f b. is_dirty seat.book.session (take (durable (seat.syncs ++ y ∷ [])) seat.seen) (seat.syncs ++ y ∷ []) f b ≡ false)) (sym last_data)
          (subst (λ (n : ℕ). IsWaiting (story_of (valued view new seat o w)) (before ++ noted_of y ∷ []) n (view (disk_of new)) w.pool w.unsynced since (log_opened (log_of new))
          (λ f b. is_dirty seat.book.session (take n seat.seen) (seat.syncs ++ y ∷ []) f b ≡ false)) (sym last) waiting));
      roomy = roomy;
    })

-- A list whose syncs are the same: stagings may be added
module _ {D : Type 0} (view : D → Moment) (k new : Keeper D) (seat : VaultState) (o : Opening D) (u w : Unwritten) (is : IsVault view (valued view k seat o u) k) (log : log_of new ≡ log_of k)
    (goes : GoesOn (view (disk_of k)) (view (disk_of new))) (number : durable_of new ≡ durable_of k) (Clean : ℕ → ℕ → Type 0)
    (staging : IsStaging view (past_of (valued view k seat o u)) (called (data_syncs seat.syncs)) new w Clean) where
  pub vault_same : (ss : List VaultSync) → real_syncs ss ≡ real_syncs seat.syncs → data_syncs ss ≡ data_syncs seat.syncs → durable ss ≡ durable seat.syncs → called ss ≤ (view (disk_of new)).calls
      → ((f b : ℕ) → is_dirty seat.book.session (take (durable seat.syncs) seat.seen) ss f b ≡ false → Clean f b) → IsVault view (valued view new (record seat { syncs = ss }) o w) new
  vault_same ss real_ data_ same timely clean =
      let count : durable_of new ≡ durable ss = number ∙ is.durable ∙ sym same in
      let s = story_of (valued view k seat o u) in
      let first = waiting_weaker s (past_of (valued view k seat o u)).noted (durable_of new) (view (disk_of new)) w.pool w.unsynced (called (data_syncs seat.syncs)) (log_opened (log_of new)) Clean
      (λ f b. is_dirty seat.book.session (take (durable ss) seat.seen) ss f b ≡ false)
      (λ f b test. clean f b (ap (λ (n : ℕ). is_dirty seat.book.session (take n seat.seen) ss f b) (sym same) ∙ test)) staging.waiting in
      record {
        keeper = subst (λ (l : List VaultSync). IsKeeper view (past_at s (opening o.ready ∷ map noted_of l)) new) (sym real_) staging.keeper;
        durable = count;
        counted = ap durable real_ ∙ is.counted ∙ sym same;
        late = subst (All (λ s. o.ready ≤ s.calls)) (sym real_) is.late;
        timely = timely;
        waiting =
            subst (λ (l : List VaultSync). IsWaiting s (opening o.ready ∷ map noted_of l) (durable ss) (view (disk_of new)) w.pool w.unsynced (called (data_syncs ss)) (log_opened (log_of new))
            (λ f b. is_dirty seat.book.session (take (durable ss) seat.seen) ss f b ≡ false)) (sym real_)
            (subst (λ (l : List VaultSync). IsWaiting s (past_of (valued view k seat o u)).noted (durable ss) (view (disk_of new)) w.pool w.unsynced (called l) (log_opened (log_of new))
            (λ f b. is_dirty seat.book.session (take (durable ss) seat.seen) ss f b ≡ false)) (sym data_)
            (subst (λ (n : ℕ). IsWaiting s (past_of (valued view k seat o u)).noted n (view (disk_of new)) w.pool w.unsynced (called (data_syncs seat.syncs)) (log_opened (log_of new))
            (λ f b. is_dirty seat.book.session (take (durable ss) seat.seen) ss f b ≡ false)) count first));
        roomy = roomy_on view k new seat o u w ss log goes same is.roomy;
      }

-- a keeper that took memory keeps what it kept
pub vault_still : {D : Type 0} (view : D → Moment) (k new : Keeper D) (seat : VaultState) (o : Opening D) (u : Unwritten) → IsVault view (valued view k seat o u) k → KeptStill view k new
    → disk_of new ≡ disk_of k → log_of new ≡ log_of k → durable_of new ≡ durable_of k → IsVault view (valued view new seat o u) new
vault_still view k new seat o u is kept disk log number =
    vault_same view k new seat o u u is log (subst (λ d. GoesOn (view (disk_of k)) (view d)) (sym disk) (refl, omega arith, omega arith, λ ended. ended)) number (Listed (valued view k seat o u))
    (record {
      keeper = kept (past_of (valued view k seat o u)) is.keeper;
      waiting =
          subst (λ d. IsWaiting (story_of (valued view k seat o u)) (past_of (valued view k seat o u)).noted (durable_of new) (view d) u.pool u.unsynced (called (data_syncs seat.syncs)) (log_opened (log_of new)) (Listed (valued view k seat o u))) (sym disk)
          (subst (λ (l : Log). IsWaiting (story_of (valued view k seat o u)) (past_of (valued view k seat o u)).noted (durable_of new) (view (disk_of k)) u.pool u.unsynced (called (data_syncs seat.syncs)) (log_opened l) (Listed (valued view k seat o u))) (sym log)
          (subst (λ (n : ℕ). IsWaiting (story_of (valued view k seat o u)) (past_of (valued view k seat o u)).noted n (view (disk_of k)) u.pool u.unsynced (called (data_syncs seat.syncs)) (log_opened (log_of k)) (Listed (valued view k seat o u)))
          (sym (number ∙ is.durable)) is.waiting));
    }) seat.syncs refl refl refl (let same = ap (λ d. (view d).calls) disk in omega (arith, same, is.timely)) (λ f b test. test)

-- as it is opened
abbrev mark : ℕ → ℕ → Noted
mark calls entries = record { calls = calls; entries = entries; files = no_file }

abbrev nothing : Unwritten
nothing = record { pool = lru_cache [] pool_capacity; unsynced = false }

none_waits : (s : Story) (noted : List Noted) (m : Moment) (since opened : ℕ) (Clean : ℕ → ℕ → Type 0) → IsWaiting s noted 0 m (lru_cache [] pool_capacity) false since opened Clean
none_waits s noted m since opened Clean = record {
  pooled = λ i p at. absurd (cc);
  handled = λ well number block d clean. let low = source_below s 0 d.pnode block d.at (omega arith) (dirty_source s noted 0 number block d) in absurd (omega (arith, low));
}

pub vault_opened : {D : Type 0} (view : D → Moment) (k new : Keeper D) (seat : VaultState) (o : Opening D) (pool : Blocks) → pool ≡ lru_cache [] pool_capacity → seat.syncs ≡ []
    → IsKeeper view (past_at (story_of (valued view k seat o nothing)) []) k → durable_of k ≡ 0
    → KeptClean view k new → o.ready ≡ (view (disk_of new)).calls → durable_of new ≡ durable_of k → log_end (log_of new) ≤ first_place
    → IsVault view (valued view new seat o (record { pool = pool; unsynced = false })) new
vault_opened view k new seat o pool empty fresh keeper none kept ready same place =
    let s = story_of (valued view k seat o nothing) in
    let noted = kept (past_at s []) no_file keeper (λ told c may number block reached dirty. absurd (cc reached)) in
    let first : mark (view (disk_of new)).calls (durable_of k) ∷ [] ≡ opening o.ready ∷ map noted_of (real_syncs seat.syncs) =
    ap (λ (n : ℕ). mark n (durable_of k) ∷ []) (sym ready) ∙ ap (λ (n : ℕ). mark o.ready n ∷ []) none ∙ ap (λ (ss : List VaultSync). opening o.ready ∷ map noted_of (real_syncs ss)) (sym fresh) in
    subst (λ (p : Blocks). IsVault view (valued view new seat o (record { pool = p; unsynced = false })) new) (sym empty)
    (record {
      keeper = subst (λ (l : List Noted). IsKeeper view (past_at s l) new) first noted;
      durable = same ∙ none ∙ ap durable (sym fresh);
      counted = ap (λ (ss : List VaultSync). durable (real_syncs ss)) fresh ∙ ap durable (sym fresh);
      late = subst (λ (ss : List VaultSync). All (λ y. o.ready ≤ y.calls) (real_syncs ss)) (sym fresh) (λ i d less. absurd (omega (arith, less)));
      timely = let z = ap called fresh in omega (arith, z);
      waiting = subst (λ (n : ℕ). IsWaiting s (opening o.ready ∷ map noted_of (real_syncs seat.syncs)) n (view (disk_of new)) (lru_cache [] pool_capacity) false (called (data_syncs seat.syncs)) (log_opened (log_of new))
          (Listed (valued view new seat o nothing))) (ap durable (sym fresh))
          (none_waits s (opening o.ready ∷ map noted_of (real_syncs seat.syncs)) (view (disk_of new)) (called (data_syncs seat.syncs)) (log_opened (log_of new)) (Listed (valued view new seat o nothing)));
      roomy = record { bounded = omega (arith, place); room = λ healthy going. omega (arith, place) };
    })
