-- Files whose dirty blocks become durable one after the other.
use Rattle.std.proofs.Common.{◌≡◌, ◌∙◌, inl, inr, ℕ, ◌<◌, Bool, true, false, List, [], ◌∷◌, ◌++◌, length, refl, sym, ap, subst, arith}
use Rattle.std.specs.Prelude.{IfSome, Option, Some, None, get_or, slice_get}
use Rattle.std.specs.List.{All}
use Rattle.std.proofs.lemmas.List.Elements.{All-append, All-cons, All-nil}
use Rattle.std.proofs.lemmas.Option.{get_or_from_slice_get, slice_get_within}
use mathlib.Core.List.{IsPrefix}
use Rattle.pass_entry.specs.Limits.{block_count}
use Rattle.pass_entry.specs.declared.entry.Entry.{Entry}
use Rattle.pass_entry.proofs.Places.{slice_get-last}
use Rattle.pass_plain.specs.Legal.{IsLegal}
use Rattle.pass_plain.specs.Sessions.{Session}
use Rattle.pass_plain.specs.Sound.{IsSound}
use Rattle.pass_book.proofs.Backed.{durable_last}
use Rattle.pass_book.proofs.Prefixes.{prefix_self}
use Rattle.pass_book.specs.Syncs.{called, durable}
use Rattle.pass_book.specs.declared.view.VaultSync.{VaultSync}
use Rattle.pass_clean.specs.Cleaned.{is_dirty}
use Rattle.pass_file.specs.Desks.{FileDeskView}
use Rattle.pass_vault.specs.Vaulted.{Vaulted, file_synced, flushed, real_syncs}
use Rattle.pass_vault.specs.declared.vault.Receipt.{Receipt}
use Rattle.pass_safe.specs.Commits.{flushed_to, saved_to, unsaved_to}
use Rattle.pass_safe.specs.Syncings.{HasReceipt}
use Rattle.pass_safe.specs.Settled.{AreAll, AreSettled, EndsWith, HasSettled, IsAmong, IsClean, IsDurable, settled_to}
use Rattle.pass_safe.proofs.Clean.{stays_clean, untouched_law}
use Rattle.pass_safe.proofs.Lent.{some_flushed, some_real}
use Rattle.pass_safe.proofs.Owned.{owner_law}

-- one more sync is more of the list
pub grown : (ss us : List VaultSync) (s : VaultSync) → us ≡ ss ++ s ∷ [] → IsPrefix ss us
grown ss us s is = (s ∷ [], sym is)

-- a settle's answer tells whether a sync of the file came
abbrev pub settled_by : FileDeskView → List VaultSync → Option Receipt → List VaultSync
settled_by f ss None = ss
settled_by f ss (Some r) = ss ++ file_synced f.what f.number r.calls r.entries ∷ []

pub syncs_of : {D : Type 0} (v w : Vaulted D) (f : FileDeskView) (o : Option Receipt) → w ≡ settled_to v w f.what f.number o → w.syncs ≡ settled_by f v.syncs o
syncs_of v w f None is = ap (λ (v : Vaulted _). v.syncs) is
syncs_of v w f (Some r) is = ap (λ (v : Vaulted _). v.syncs) is

pub settled_seen : {D : Type 0} (v w : Vaulted D) (f : FileDeskView) (o : Option Receipt) → w ≡ settled_to v w f.what f.number o → w.seen ≡ v.seen
settled_seen v w f None is = ap (λ (v : Vaulted _). v.seen) is
settled_seen v w f (Some r) is = ap (λ (v : Vaulted _). v.seen) is

-- by its fields that may have changed
pub settled_same : {D : Type 0} (v w : Vaulted D) (f : FileDeskView) (o : Option Receipt) → w ≡ settled_to v w f.what f.number o → w ≡ record v { disk = w.disk; pool = w.pool; unsynced = w.unsynced; syncs = w.syncs }
settled_same v w f None is =
    let pool = ap (λ (v : Vaulted _). v.pool) is in
    let unsynced = ap (λ (v : Vaulted _). v.unsynced) is in
    let syncs = ap (λ (v : Vaulted _). v.syncs) is in
    is ∙ (λ i. record v { disk = w.disk; pool = sym pool i; unsynced = sym unsynced i; syncs = sym syncs i })
settled_same v w f (Some r) is =
    let pool = ap (λ (v : Vaulted _). v.pool) is in
    let unsynced = ap (λ (v : Vaulted _). v.unsynced) is in
    let syncs = ap (λ (v : Vaulted _). v.syncs) is in
    is ∙ (λ i. record v { disk = w.disk; pool = sym pool i; unsynced = sym unsynced i; syncs = sym syncs i })

pub unsaved_same : {D : Type 0} (v w : Vaulted D) → w ≡ unsaved_to v w → w ≡ record v { disk = w.disk; pool = w.pool; unsynced = w.unsynced; syncs = w.syncs }
unsaved_same v w is =
    let pool = ap (λ (v : Vaulted _). v.pool) is in
    let syncs = ap (λ (v : Vaulted _). v.syncs) is in
    is ∙ (λ i. record v { disk = w.disk; pool = sym pool i; unsynced = w.unsynced; syncs = sym syncs i })

-- After a flush of what the file had seen

module _ {D : Type 0} (v m w : Vaulted D) (f : FileDeskView) (calls : ℕ) (flush : m ≡ flushed_to v m f.seen calls) where
  pub saved_after : (r : Receipt) → w ≡ saved_to m w f.what f.number r → w ≡ saved_to (flushed_to v w f.seen calls) w f.what f.number r
  saved_after r is =
      let place = ap (λ (v : Vaulted D). v.place) is in
      is ∙ (λ i. saved_to (record (flush i) { place = sym place i }) w f.what f.number r)

  pub unsaved_after : w ≡ unsaved_to m w → w ≡ unsaved_to (flushed_to v w f.seen calls) w
  unsaved_after is =
      let place = ap (λ (v : Vaulted D). v.place) is in
      is ∙ (λ i. unsaved_to (record (flush i) { place = sym place i }) w)

  settled_after : (o : Option Receipt) → w ≡ settled_to m w f.what f.number o → w ≡ settled_to (flushed_to v w f.seen calls) w f.what f.number o
  settled_after None is =
      let place = ap (λ (v : Vaulted D). v.place) is in
      is ∙ (λ i. settled_to (record (flush i) { place = sym place i }) w f.what f.number None)
  settled_after (Some r) is = saved_after r is

  pub has_settled : (o : Option Receipt) → w ≡ settled_to m w f.what f.number o → HasSettled f v w o
  has_settled o is = record { calls = calls; vault = settled_after o is }

-- one file by its answer
pub one_settled : (n : ℕ) (f : FileDeskView) (old new : List VaultSync) (o : Option Receipt) → new ≡ settled_by f old o → IfSome o (λ r. r.entries ≡ n) → AreSettled n (f ∷ []) old new
one_settled n f old new None is all = inl is
one_settled n f old new (Some r) is all = inr (r.calls, is ∙ ap (λ k. old ++ file_synced f.what f.number r.calls k ∷ []) all)

pub one_grown : (f : FileDeskView) (old new : List VaultSync) (o : Option Receipt) → new ≡ settled_by f old o → IsPrefix old new
one_grown f old new None is = subst (λ (ss : List VaultSync). IsPrefix old ss) (sym is) (prefix_self old)
one_grown f old new (Some r) is = grown old new (file_synced f.what f.number r.calls r.entries) is

-- and another one behind them
pub more_settled : (n : ℕ) (files : List FileDeskView) (f : FileDeskView) (old mid new : List VaultSync) → AreSettled n files old mid → AreSettled n (f ∷ []) mid new → AreSettled n (files ++ f ∷ []) old new
more_settled n [] f old mid new are is = subst (λ (ss : List VaultSync). AreSettled n (f ∷ []) ss new) are is
more_settled n (g ∷ files) f old mid new are is = elim are [
  | inl a ↦ inl (more_settled n files f old mid new a is)
  | inr a ↦ inr (a.0, more_settled n files f (old ++ file_synced g.what g.number a.0 n ∷ []) mid new a.1 is)
]

-- the last sync has all entries
pub settled_durable : (n : ℕ) (files : List FileDeskView) (old new : List VaultSync) → AreSettled n files old new → durable old ≡ n → durable new ≡ n
settled_durable n [] old new are all = ap durable are ∙ all
settled_durable n (f ∷ files) old new are all = elim are [
  | inl a ↦ settled_durable n files old new a all
  | inr a ↦ settled_durable n files (old ++ file_synced f.what f.number a.0 n ∷ []) new a.1 (durable_last old (file_synced f.what f.number a.0 n))
]

-- a list that is not empty has a last sync
pub ends : (ss : List VaultSync) → 0 < length ss → EndsWith (called ss) (durable ss) ss
ends [] some = absurd (omega (arith, some))
ends (s ∷ []) some = record { front = []; last = s; list = refl; called = refl; has = refl }
ends (s ∷ t ∷ ss) some =
    let e = ends (t ∷ ss) (omega arith) in
    record { front = s ∷ e.front; last = e.last; list = ap (λ us. s ∷ us) e.list; called = e.called; has = e.has }

-- files that are clean stay so by more syncs, and so does one more
pub more_clean : (session : Session) (history : List Entry) (ss us : List VaultSync) (files : List FileDeskView) (f : FileDeskView) → IsPrefix ss us → All (λ f. IsClean session history ss f.what) files → IsClean session history us f.what
    → All (λ f. IsClean session history us f.what) (files ++ f ∷ [])
more_clean session history ss us files f more all one =
    All-append (λ (f : FileDeskView). IsClean session history us f.what) files (f ∷ []) (λ i d low. stays_clean session history ss us (get_or files i d).what more (all i d low))
    (All-cons (λ (f : FileDeskView). IsClean session history us f.what) f [] one (All-nil (λ (f : FileDeskView). IsClean session history us f.what)))

-- where all files are clean no block is dirty
pub settled_all : (session : Session) → IsSound session → (history : List Entry) → IsLegal session history → (syncs : List VaultSync) (files : List FileDeskView) → AreAll session history files
    → All (λ f. IsClean session history syncs f.what) files → (file block : ℕ) → block < block_count → is_dirty session history syncs file block ≡ false
settled_all session sound history legal syncs files all clean file block low = at_test (is_dirty session history syncs file block) refl
  where
    at : (a : IsAmong file files) → IsClean session history syncs a.f.what
    at a = subst (λ (f : FileDeskView). IsClean session history syncs f.what) (get_or_from_slice_get files a.i a.f a.f a.is) (clean a.i a.f (slice_get_within files a.i a.f a.is))

    by_file : IsAmong file files → is_dirty session history syncs file block ≡ false
    by_file a = subst (λ (o : ℕ). is_dirty session history syncs o block ≡ false) a.same (at a block low)

    at_test : (t : Bool) → is_dirty session history syncs file block ≡ t → is_dirty session history syncs file block ≡ false
    at_test false is = is
    at_test true is = elim (all file (owner_law session sound history legal syncs file block is).0 (owner_law session sound history legal syncs file block is).1) [
      | inl a ↦ by_file a
      | inr none ↦ untouched_law session history syncs file block none
    ]

-- by what a settle has come to, of a file that has seen so many entries
module _ {D : Type 0} (n : ℕ) (f g : FileDeskView) (v w : Vaulted D) (what : g.what ≡ f.what) (number : g.number ≡ f.number) where
  settled_as : (o : Option Receipt) → w.syncs ≡ settled_by g v.syncs o → w.syncs ≡ settled_by f v.syncs o
  settled_as None is = is
  settled_as (Some r) is = is ∙ (λ i. v.syncs ++ file_synced (what i) (number i) r.calls r.entries ∷ [])

  pub settled_one : (o : Option Receipt) (calls : ℕ) → length g.seen ≡ n → w ≡ settled_to v w g.what g.number o → IfSome o (λ r. r ≡ record { calls = calls; entries = length g.seen }) → AreSettled n (f ∷ []) v.syncs w.syncs
  settled_one None calls long is all = one_settled n f v.syncs w.syncs None (settled_as None (syncs_of v w g None is)) tt
  settled_one (Some r) calls long is all = one_settled n f v.syncs w.syncs (Some r) (settled_as (Some r) (syncs_of v w g (Some r) is)) (ap (λ (r : Receipt). r.entries) all ∙ long)

  pub grown_one : (o : Option Receipt) → w ≡ settled_to v w g.what g.number o → IsPrefix v.syncs w.syncs
  grown_one o is = one_grown f v.syncs w.syncs o (settled_as o (syncs_of v w g o is))

-- after a flush of the whole history
module _ {D : Type 0} (history : List Entry) (files : List FileDeskView) (v m w : Vaulted D) (calls : ℕ) (flush : m ≡ flushed_to v m history calls) where
  noted : m.syncs ≡ v.syncs ++ flushed calls (length history) ∷ []
  noted = ap (λ (v : Vaulted D). v.syncs) flush

  pub some_synced_since : IsPrefix m.syncs w.syncs → 0 < length (real_syncs w.syncs)
  some_synced_since more = some_real m.syncs w.syncs more (some_flushed v m history calls flush)

  pub all_durable : w ≡ record m { disk = w.disk; pool = w.pool; unsynced = w.unsynced; syncs = w.syncs } → IsPrefix m.syncs w.syncs → AreSettled (length history) files m.syncs w.syncs
      → durable (real_syncs w.syncs) ≡ durable w.syncs → (r : Receipt) → r ≡ record { calls = called (real_syncs w.syncs); entries = durable (real_syncs w.syncs) } → IsDurable history files v w r
  all_durable same more are counted r is =
      let e = ends (real_syncs w.syncs) (some_synced_since more) in
      let called_is = ap (λ (r : Receipt). r.calls) is in
      let has_is = ap (λ (r : Receipt). r.entries) is in
      record {
        seen = ap (λ (v : Vaulted D). v.seen) same ∙ ap (λ (v : Vaulted D). v.seen) flush;
        calls = calls;
        order = subst (λ (ss : List VaultSync). AreSettled (length history) files ss w.syncs) noted are;
        last = record { front = e.front; last = e.last; list = e.list; called = e.called ∙ sym called_is; has = e.has ∙ sym has_is };
        all = has_is ∙ counted ∙ settled_durable (length history) files m.syncs w.syncs are (ap durable noted ∙ durable_last v.syncs (flushed calls (length history)));
      }

-- the sync of a settled file stands in the vault's list
pub receipt_of : {D : Type 0} (v w : Vaulted D) (f : FileDeskView) (r : Receipt) (calls : ℕ) → f.seen ≡ v.seen → w ≡ saved_to v w f.what f.number r
    → r ≡ record { calls = calls; entries = length f.seen } → HasReceipt w r
receipt_of {D} v w f r calls seen done is = record {
  within = let all = ap (λ (r : Receipt). r.entries) is in let same = ap length (ap (λ (u : Vaulted D). u.seen) done ∙ sym seen) in omega (arith, all, same);
  synced = record {
    i = length v.syncs;
    s = file_synced f.what f.number r.calls r.entries;
    is = ap (λ (u : Vaulted D). slice_get u.syncs (length v.syncs)) done ∙ slice_get-last v.syncs (file_synced f.what f.number r.calls r.entries);
    whole = refl;
    called = refl;
    has = refl;
  };
}
