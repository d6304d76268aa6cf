-- What is left of a store that was closed.
use Rattle.std.proofs.Common.{◌≡◌, ◌<◌, ◌≤◌, ◌+◌, ℕ, zero, suc, Bool, List, [], ◌∷◌, ◌++◌, false, true, length, map, take, drop, refl, ap, sym, ◌∙◌, subst, ⊎_elim, arith, length-append}
use Rattle.std.specs.Prelude.{IsTrue, Option, Some, None, ◌&&◌, cond, is_some, slice_get}
use Rattle.std.specs.Option.{option_map, option_map_or}
use Rattle.std.specs.Map.{lookup}
use Rattle.std.proofs.lemmas.Bool.{cases_lt}
use Rattle.std.proofs.lemmas.List.{map-append, take_all, take-append-drop, take-take}
use Rattle.std.proofs.lemmas.Option.{slice_get-map, slice_get_within}
use Rattle.std.proofs.lemmas.List.Elements.{All-append, All-cons, All-nil}
use Rattle.std.specs.List.{All}
use mathlib.Core.List.{IsPrefix}
use Rattle.pass_entry.specs.Limits.{block_count}
use Rattle.pass_entry.specs.declared.entry.Entry.{Entry}
use Rattle.pass_entry.specs.declared.entry.Synced.{Synced}
use Rattle.pass_entry.proofs.Lists.{in_take}
use Rattle.pass_entry.proofs.Places.{slice_get-last}
use Rattle.pass_outside.specs.Areas.{Image}
use Rattle.pass_outside.specs.Moments.{Moment}
use Rattle.pass_plain.proofs.Lists.{some_is}
use Rattle.pass_range.specs.Places.{place, Holds}
use Rattle.pass_range.specs.Rows.{IsUnmatched}
use Rattle.pass_range.proofs.Proved.{row_proved}
use Rattle.pass_plain.specs.Sessions.{Session}
use Rattle.pass_book.specs.Numbers.{IsFileNumber}
use Rattle.pass_book.specs.Syncs.{called, called_from, durable, AreNumbered, IsBacked}
use Rattle.pass_book.proofs.Backed.{durable_last, number_stays}
use Rattle.pass_book.specs.Tokens.{BookId}
use Rattle.pass_book.specs.Views.{longer}
use Rattle.pass_book.proofs.Rules.{longer_both}
use Rattle.pass_book.specs.declared.view.FileMark.{FileMark}
use Rattle.pass_book.specs.declared.view.VaultSync.{VaultSync}
use Rattle.pass_clean.specs.Cleaned.{is_dirty}
use Rattle.pass_pool.specs.declared.pool.FileBlock.{FileBlock}
use Rattle.pass_pool.specs.Pools.{is_block}
use Rattle.pass_keep.specs.Kept.{Story, list_to, source_to, range_to, AreOlder, AreRising, AreTimed, HasRecords, IsBegun, IsLeft, bound_of}
use Rattle.pass_vault.specs.Pooled.{staged_in}
use Rattle.pass_vault.specs.Vaulted.{Vaulted, data_syncs, is_real, noted_of, real_syncs, story_of}
use Rattle.pass_vault.specs.Vaults.{handed_of}
use Rattle.pass_vault.specs.declared.vault.Receipt.{Receipt}
use Rattle.pass_vault.proofs.Reals.{real_numbered}
use Rattle.pass_safe.specs.Settled.{EndsWith}
use Rattle.pass_proc.specs.Ends.{TrailView}
use Rattle.pass_store.specs.Closings.{AreFilesKept, IsBackedBy, IsClosed, IsSettled, IsTold, KeepsData, story_at, synced_as}
use Rattle.pass_safe.specs.Grounds.{Ground, ground_of}

-- a sync of a list that is no staging is among those of the list without its stagings
into_real : (ss : List VaultSync) (i : ℕ) (x : VaultSync) → slice_get ss i ≡ Some x → x.staged ≡ None → (j : ℕ) × (slice_get (real_syncs ss) j ≡ Some x)
into_real [] i x at whole = absurd (cc)
into_real (s ∷ ss) zero x at whole = let same : s ≡ x = some_is s x at in (0, ap (λ (b : Bool). slice_get (cond b (s ∷ real_syncs ss) (real_syncs ss)) 0) (ap is_real same ∙ ap (λ (o : Option (List ℕ)). option_map_or (λ blocks. false) o true) whole) ∙ ap (λ (s : VaultSync). Some s) same)
into_real (s ∷ ss) (suc i) x at whole = by_test (is_real s) (into_real ss i x at whole)
  where
    by_test : (b : Bool) → (j : ℕ) × (slice_get (real_syncs ss) j ≡ Some x) → (j : ℕ) × (slice_get (cond b (s ∷ real_syncs ss) (real_syncs ss)) j ≡ Some x)
    by_test true rest = (suc rest.0, rest.1)
    by_test false rest = rest

-- what a list backs, the list without its stagings does
real_backed : (session : Session) (history : List Entry) (ss : List VaultSync) → IsBacked session history ss → IsBacked session history (real_syncs ss)
real_backed session history ss backed = λ q e at fd p k kept there who number keeps.
    let has = backed q e at fd p k kept there who number keeps in
    let one = has.0 in
    let real = into_real ss one.0 one.1 one.2 one.3.0 in (
      (real.0, one.1, real.1, one.3),
      λ n is.
          let (i, x, f, stands, mark, of_file, between) = has.1 n is in
          let also = into_real ss i x stands between.0 in
          (also.0, x, f, also.1, mark, of_file, between),
    )

-- the syncs of a store that was closed back its history
pub backed_by : (s : Story) (ready : ℕ) (m : Moment) (syncs : List Synced) → IsClosed s ready m syncs → IsBackedBy s.history syncs
backed_by s ready m syncs closed = λ p q call.
    let has = (closed.kept q call.kept call.told call.fd p call.keep call.ends (in_take p q s.history call.keep call.later call.asked) call.own call.call call.begins).0 in
    record {
      i = has.0;
      x = handed_of has.1;
      is = ap (λ (ys : List Synced). slice_get ys has.0) closed.handed ∙ slice_get-map handed_of closed.all has.0 ∙ ap (option_map handed_of) has.2;
      above = has.3.1;
      within = has.3.2;
    }

-- and each of which an entry on a file tells keeps its data
pub files_kept : (s : Story) (ready : ℕ) (m : Moment) (syncs : List Synced) → IsClosed s ready m syncs → AreFilesKept s m syncs
files_kept s ready m syncs closed = λ p q number call numbered.
    let before : take p (take q s.history) ≡ take p s.history = take-take p q s.history (let low = call.later in omega (arith, low)) in
    let backs = closed.kept q call.kept call.told call.fd p call.keep call.ends (in_take p q s.history call.keep call.later call.asked) call.own call.call call.begins in
    let (i, x, f, stands, mark, of_file, between) = backs.1 number (subst (λ (h : List Entry). IsFileNumber s.session h call.keep.what number) (sym before) numbered) in
    let here : IsFileNumber s.session s.history call.keep.what number = number_stays s.session (take p s.history) s.history call.keep.what number (drop p s.history, take-append-drop p s.history) numbered in
    let named : IsFileNumber s.session s.history f.pnode number = subst (λ (n : ℕ). IsFileNumber s.session s.history f.pnode n) of_file (closed.numbered i x f stands mark) in
    let same : f ≡ record { pnode = call.keep.what; number = number } = λ j. record { pnode = some_is f.pnode call.keep.what (sym named ∙ here) j; number = of_file j } in
    record {
      sync = record {
        i = i;
        x = handed_of x;
        is = ap (λ (ys : List Synced). slice_get ys i) closed.handed ∙ slice_get-map handed_of closed.all i ∙ ap (option_map handed_of) stands;
        above = between.1;
        within = between.2;
      };
      keeps = subst (KeepsData s m (handed_of x)) same (closed.matched i x f stands mark);
    }

-- along a list that rises no sync is later than the last one
rises_to : (ss front : List VaultSync) (last : VaultSync) → ss ≡ front ++ last ∷ [] → AreRising (map handed_of ss) → (j : ℕ) (x : VaultSync) → slice_get ss j ≡ Some x → x.calls ≤ last.calls
rises_to ss front last list up j x at =
    let within = slice_get_within ss j x at in
    let long : length ss ≡ length front + 1 = ap length list ∙ length-append front (last ∷ []) in
    let end : slice_get ss (length front) ≡ Some last = ap (λ (ys : List VaultSync). slice_get ys (length front)) list ∙ slice_get-last front last in
    ⊎_elim
    (λ (low : j < length front). (up j (length front) (handed_of x) (handed_of last) low (handed_at j x at) (handed_at (length front) last end)).0)
    (λ (high : length front ≤ j).
    let here : j ≡ length front = omega (arith, within, long, high) in
    let same = ap (λ (y : VaultSync). y.calls) (some_is x last (sym at ∙ ap (slice_get ss) here ∙ end)) in omega (arith, same))
    (cases_lt j (length front))
  where
    handed_at : (i : ℕ) (y : VaultSync) → slice_get ss i ≡ Some y → slice_get (map handed_of ss) i ≡ Some (handed_of y)
    handed_at i y there = slice_get-map handed_of ss i ∙ ap (option_map handed_of) there

-- nor is the last of those of files' data
data_by : (n : ℕ) (ss : List VaultSync) (c : ℕ) → c ≤ n → ((j : ℕ) (x : VaultSync) → slice_get (real_syncs ss) j ≡ Some x → x.calls ≤ n) → called_from c (data_syncs ss) ≤ n
data_by n [] c low each = low
data_by n (s ∷ ss) c low each = by_tests (is_real s) (is_some s.file) each (λ d le more. data_by n ss d le more)
  where
    by_tests : (r f : Bool) → ((j : ℕ) (x : VaultSync) → slice_get (cond r (s ∷ real_syncs ss) (real_syncs ss)) j ≡ Some x → x.calls ≤ n)
        → ((d : ℕ) → d ≤ n → ((j : ℕ) (x : VaultSync) → slice_get (real_syncs ss) j ≡ Some x → x.calls ≤ n) → called_from d (data_syncs ss) ≤ n)
        → called_from c (cond (r && f) (s ∷ data_syncs ss) (data_syncs ss)) ≤ n
    by_tests true true all rest = rest s.calls (all 0 s refl) (λ j x at. all (suc j) x at)
    by_tests true false all rest = rest c low (λ j x at. all (suc j) x at)
    by_tests false f all rest = rest c low all

-- a vault that has seen the whole history is of the store's session
module _ {D : Type 0} (v : Vaulted D) (book : BookId) (ground : Ground) (history : List Entry) (of_book : v.book ≡ book) (of_ground : ground_of v ≡ ground) (whole : v.seen ≡ history) where
  story_is : story_of v ≡ story_at book ground history
  story_is = λ i. record { before = (of_ground i).before; ceiling = (of_ground i).ceiling; session = (of_book i).session; history = whole i; start = (of_ground i).since; store = (of_ground i).store }

  -- what stands on its disk
  pub closes : (m : Moment) → IsBegun (story_of v) m → v.ready ≤ m.calls → ((i : ℕ) (x : VaultSync) → slice_get (real_syncs v.syncs) i ≡ Some x → v.ready ≤ x.calls)
      → (IsTrue m.tells → (c : Image) → m.left_since v.ready c → IsLeft (story_of v) 0 (λ number. 0) c)
      → (IsTrue m.tells → (i : ℕ) (x : VaultSync) → slice_get (real_syncs v.syncs) i ≡ Some x → (c : Image) → m.left_since x.calls c → IsLeft (story_of v) x.entries (bound_of (noted_of x)) c)
      → (IsTrue m.tells → (i : ℕ) (x : VaultSync) (f : FileMark) → slice_get (real_syncs v.syncs) i ≡ Some x → x.file ≡ Some f → (c : Image) → m.left_since x.calls c
      → (n : ℕ) → n ≤ length v.seen → HasRecords (list_to (story_of v) n) c.log → (block at : ℕ) → source_to (story_of v) n f.pnode block ≡ Some at → at < x.entries
      → Holds (place f.number block) (range_to (story_of v) n f.pnode block) c.store × (IsUnmatched (list_to (story_of v) n) c.store f.pnode block → ⊥))
      → AreTimed m (length v.seen) (map handed_of (real_syncs v.syncs)) → IsBacked book.session history v.syncs → AreNumbered v.book.session v.seen v.syncs
      → (syncs : List Synced) → syncs ≡ map handed_of (real_syncs v.syncs) → IsClosed (story_at book ground history) ground.ready m syncs
  closes m begun early late opened since matched timed backed numbered syncs handed =
      let ready : v.ready ≡ ground.ready = ap (λ (g : Ground). g.ready) of_ground in
      subst (λ (s : Story). IsClosed s ground.ready m syncs) story_is
      (record {
        begun = begun;
        early = subst (λ (n : ℕ). n ≤ m.calls) ready early;
        opened = subst (λ (n : ℕ). IsTrue m.tells → (c : Image) → m.left_since n c → IsLeft (story_of v) 0 (λ number. 0) c) ready opened;
        all = real_syncs v.syncs;
        handed = handed;
        late = subst (λ (n : ℕ). (i : ℕ) (x : VaultSync) → slice_get (real_syncs v.syncs) i ≡ Some x → n ≤ x.calls) ready late;
        since = since;
        matched = λ i x f at mark tells. matched tells i x f at mark;
        numbered = real_numbered v.book.session v.seen v.syncs numbered;
        timed = subst (AreTimed m (length v.seen)) (sym handed) timed;
        kept = subst (λ (h : List Entry). IsBacked v.book.session h (real_syncs v.syncs)) (sym whole)
            (subst (λ (b : BookId). IsBacked b.session history (real_syncs v.syncs)) (sym of_book) (real_backed book.session history v.syncs backed));
      })

  -- a block that is clean after the first d entries and doesn't wait is on the disk since the last sync of data
  abbrev pub IsLanded : Moment → ℕ → Type 0
  IsLanded m d = (file number block at : ℕ) → IsFileNumber v.book.session v.seen file number → is_dirty v.book.session (take d v.seen) v.syncs file block ≡ false → staged_in v.pool number block ≡ None
      → source_to (story_of v) d file block ≡ Some at → (c : Image) → m.left_since (called (data_syncs v.syncs)) c → (n : ℕ) → n ≤ length v.seen → HasRecords (list_to (story_of v) n) c.log
      → source_to (story_of v) n file block ≡ Some at
      → Holds (place number block) (range_to (story_of v) d file block) c.store × (IsUnmatched (list_to (story_of v) n) c.store file block → ⊥)

  -- where its last sync has all entries, and no block is dirty
  pub settles : (m : Moment) → ((t u : ℕ) (c : Image) → t ≤ u → m.left_since u c → m.left_since t c) → AreTimed m (length v.seen) (map handed_of (real_syncs v.syncs))
      → durable (real_syncs v.syncs) ≡ durable v.syncs → (IsTrue m.tells → v.unsynced ≡ false → IsLanded m (durable v.syncs))
      → (IsTrue m.tells → (i : ℕ) (x : VaultSync) → slice_get (real_syncs v.syncs) i ≡ Some x → (c : Image) → m.left_since x.calls c → IsLeft (story_of v) x.entries (bound_of (noted_of x)) c)
      → (IsTrue m.tells → (front : List VaultSync) (last : VaultSync) → real_syncs v.syncs ≡ front ++ last ∷ [] → last.entries ≡ length v.seen
      → ((file block : ℕ) → block < block_count → is_dirty v.book.session v.seen v.syncs file block ≡ false)
      → v.pool.entries ≡ [] → v.unsynced ≡ false → (c : Image) → m.left_since last.calls c
      → HasRecords (list_to (story_of v) (length v.seen)) c.log
      × ((file block at : ℕ) → source_to (story_of v) (length v.seen) file block ≡ Some at → IsUnmatched (list_to (story_of v) (length v.seen)) c.store file block → ⊥))
      → (syncs : List Synced) → syncs ≡ map handed_of (real_syncs v.syncs)
      → (r : Receipt) → EndsWith r.calls r.entries (real_syncs v.syncs) → r.entries ≡ length history → (v.pool.entries ≡ []) × (v.unsynced ≡ false)
      → ((file block : ℕ) → block < block_count → is_dirty book.session history v.syncs file block ≡ false)
      → IsSettled (story_at book ground history) m syncs r
  settles m less timed counted landed since settled syncs handed r ends all written clean =
      let long : r.entries ≡ length v.seen = all ∙ ap length (sym whole) in
      let here : ends.last.entries ≡ length v.seen = ends.has ∙ long in
      let cleaned : (file block : ℕ) → block < block_count → is_dirty v.book.session v.seen v.syncs file block ≡ false =
      subst (λ (h : List Entry). (file block : ℕ) → block < block_count → is_dirty v.book.session h v.syncs file block ≡ false) (sym whole)
      (subst (λ (b : BookId). (file block : ℕ) → block < block_count → is_dirty b.session history v.syncs file block ≡ false) (sym of_book) clean) in
      let at : slice_get (real_syncs v.syncs) (length ends.front) ≡ Some ends.last = ap (λ (ss : List VaultSync). slice_get ss (length ends.front)) ends.list ∙ slice_get-last ends.front ends.last in
      let last_is : handed_of ends.last ≡ synced_as r = λ i. record { calls = ends.called i; entries = ends.has i } in
      let durable_is : durable v.syncs ≡ length v.seen = sym counted ∙ ap durable ends.list ∙ durable_last ends.front ends.last ∙ here in
      let limited : (block file from : ℕ) → source_to (story_of v) (length v.seen) file block ≡ Some from → block < block_count =
      λ block file from source. (row_proved v.before v.ceiling v.book.session (take (length v.seen) v.seen) file block from source).limited in
      let told : IsTrue m.tells → (c : Image) → m.left_since r.calls c → HasRecords (list_to (story_of v) (length v.seen)) c.log
      × ((file block at : ℕ) → source_to (story_of v) (length v.seen) file block ≡ Some at → IsUnmatched (list_to (story_of v) (length v.seen)) c.store file block → ⊥) =
      λ tells c left. settled tells ends.front ends.last ends.list here cleaned written.0 written.1 c (subst (λ (n : ℕ). m.left_since n c) (sym ends.called) left) in
      subst (λ (s : Story). IsSettled s m syncs r) story_is
      (record {
        front = map handed_of ends.front;
        are = handed ∙ ap (map handed_of) ends.list ∙ map-append handed_of ends.front (ends.last ∷ []) ∙ ap (λ (x : Synced). map handed_of ends.front ++ x ∷ []) last_is;
        whole = long;
        records = λ tells c left. (told tells c left).0;
        matched = λ tells c left. (told tells c left).1;
        held = λ f numbered tells c left block from source low.
            let on_disk = subst (IsLanded m) durable_is (landed tells written.1) in
            let dirty = ap (λ (h : List Entry). is_dirty v.book.session h v.syncs f.pnode block) (take_all (length v.seen) v.seen (omega arith)) ∙ cleaned f.pnode block (limited block f.pnode from source) in
            let earlier : called (data_syncs v.syncs) ≤ r.calls = let le = data_by ends.last.calls v.syncs 0 (omega arith) (rises_to (real_syncs v.syncs) ends.front ends.last ends.list timed.rising) in let same = ends.called in omega (arith, le, same) in
            on_disk f.pnode f.number block from numbered dirty (ap (λ (es : List (FileBlock × List ℕ)). lookup (is_block f.number block) es) written.0) source c (less (called (data_syncs v.syncs)) r.calls c earlier left)
            (length v.seen) (omega arith) (told tells c left).0 source;
        older = λ tells c left.
            let one = since tells (length ends.front) ends.last at c (subst (λ (n : ℕ). m.left_since n c) (sym ends.called) left) in
            let enough = one.enough in
            let within = one.within in
            let count : one.count ≡ length v.seen = omega (arith, enough, within, here) in
            subst (λ (n : ℕ). AreOlder (story_of v) n c.store) count one.older;
      })

-- a vault that meets a note of the whole history has seen all of it
pub meets_whole : (seen new others history : List Entry) → new ≡ longer seen others → others ≡ history → IsPrefix seen history → new ≡ history
meets_whole seen new others history met told begins = met ∙ longer_both seen others seen history refl told begins

-- one trail more was told
pub told_more : (history : List Entry) (trails : List TrailView) (t : TrailView) → All (IsTold history) trails → IsTold history t → All (IsTold history) (trails ++ t ∷ [])
told_more history trails t all one = All-append (IsTold history) trails (t ∷ []) all (All-cons (IsTold history) t [] one (All-nil (IsTold history)))
