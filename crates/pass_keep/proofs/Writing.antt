-- Blocks are written: what that leaves of what was kept.
use Rattle.std.proofs.Common.{◌≡◌, ◌⊎◌, ℕ, zero, suc, ◌+◌, ◌*◌, ◌<◌, ◌≤◌, List, [], ◌∷◌, ◌++◌, length, take, drop, IsTrue, IsOk, IsErr, Bool, true, Some, Result, Ok, Err, inl, inr, ⊎_elim, refl, sym, ◌∙◌, ap, subst, arith, length-take}
use Rattle.std.specs.Prelude.{slice_get, None, is_some}
use Rattle.std.proofs.lemmas.Option.{slice_get_within}
use Rattle.pass_outside.specs.declared.disk.Area.TheVariants as areas
use Rattle.pass_outside.specs.Areas.{Image, OnArea, Torn, written}
use Rattle.pass_outside.specs.Moments.{Moment, IsAtEnd, IsDeviceCall, IsDeviceRun, Adds, AfterStep, Follows}
use Rattle.pass_outside.specs.Runs.{adds_nothing, adds_weaker, adds_steps, follows_both}
use Rattle.pass_plain.specs.Files.{file_after}
use Rattle.pass_plain.proofs.Lists.{some_is}
use Rattle.pass_log.specs.declared.log.Log.{Log}
use Rattle.pass_log.specs.Elsewhere.{settled_beside}
use Rattle.pass_range.specs.Places.{place, stands_there, Holds, IsApart}
use Rattle.pass_range.specs.Rows.{row_of, number_of}
use Rattle.pass_range.proofs.Dirtying.{source_law}
use Rattle.pass_range.proofs.Apart.{torn_apart, holds_written, places_apart}
use Rattle.pass_keep.specs.declared.block.Block.{Block}
use Rattle.pass_keep.specs.Kept.{Story, IsStory, list_to, source_to, range_to, HasRecords, IsLeft, Noted, covered, IsKept}
use Rattle.pass_keep.specs.Dirty.{IsDirty, AreDirty, IsFree, HasBlock, IsElsewhere, AreWritten, AreThere, IsAscending, AreSized, IsApartFrom, AreHeld, Beside, IsWriting}
use Rattle.pass_keep.proofs.Older.{older_limited, older_at}
use Rattle.pass_keep.proofs.Stories.{number_later, number_one, source_earlier, source_below, number_known, row_set}
use Rattle.pass_keep.proofs.Keeping.{covered_le, covered-push, bound_some, every_on, present_on, begun_on}

-- Beside

pub beside_none : (xs : List Block) (c : Image) → Beside xs c c
beside_none xs c = record { log = refl; stays = λ at bytes apart h. h }

beside_two : (xs : List Block) (a b c : Image) → Beside xs a b → Beside xs b c → Beside xs a c
beside_two xs a b c first then_ = record { log = then_.log ∙ first.log; stays = λ at bytes apart h. then_.stays at bytes apart (first.stays at bytes apart h) }

-- a write of one of the blocks
pub beside_torn : (xs : List Block) (i : ℕ) (x : Block) → slice_get xs i ≡ Some x → (d c : Image) → OnArea areas.Store (Torn (place x.number x.block) (length x.bytes.now)) d c → Beside xs d c
beside_torn xs i x is d c on = record {
  log = on.elsewhere;
  stays = λ at bytes apart holds. torn_apart (place x.number x.block) (length x.bytes.now) d.store c.store on.here at bytes (apart i x is) holds;
}

pub writing_none : (xs : List Block) (m : Moment) → IsWriting xs m m 0
writing_none xs m = record {
  tells = refl;
  faults = refl;
  calls = omega arith;
  beside = λ c may. (c, may, beside_none xs c);
  adds = adds_nothing m (AfterStep (Beside xs) m);
  log = λ told. refl;
  held = λ told j y low is. absurd (omega (arith, low));
  seen = λ told. beside_none xs m.seen;
}

-- two of the blocks lie apart
pub two_apart : (xs : List Block) → IsAscending xs → AreSized xs → (i j : ℕ) (x y : Block) → j < i → slice_get xs i ≡ Some x → slice_get xs j ≡ Some y
    → IsApart (place y.number y.block) (length y.bytes.now) (place x.number x.block) (length x.bytes.now)
two_apart xs up sized i j x y low is other =
    let one = sized i x is in
    let two = sized j y other in
    places_apart y.number y.block x.number x.block (length y.bytes.now) (length x.bytes.now) two.0 one.0
    (λ same equal. ⊎_elim (λ (less : y.number < x.number). omega (arith, less, same)) (λ (both : (y.number ≡ x.number) × (y.block < x.block)). omega (arith, both.1, equal)) (up j i y x low other is))
    two.1 one.1

module _ (xs : List Block) (old mid new : Moment) (i : ℕ) (x : Block) (is : slice_get xs i ≡ Some x) (writing : IsWriting xs old mid i)
    (follows : Follows (OnArea areas.Store (Torn (place x.number x.block) (length x.bytes.now))) mid new) where
  follows_one : Follows (Beside xs) mid new
  follows_one = λ c may. let from = follows c may in (from.0, from.1, beside_torn xs i x is from.0 c from.2)

  pub follows_more : Follows (Beside xs) old new
  follows_more = follows_both (Beside xs) old mid new (beside_two xs) writing.beside follows_one

  adds_more : Adds mid new new.may_leave → Adds old new (AfterStep (Beside xs) old)
  adds_more adds = adds_steps (Beside xs) old mid new (beside_two xs) writing.beside writing.adds (adds_weaker (AfterStep (Beside xs) mid) mid new adds follows_one)

  -- one block more
  pub writing_more : {T E : Type 0} (r : Result T E) → IsAscending xs → AreSized xs → IsOk r → IsDeviceCall mid new r
      → (IsTrue mid.tells → OnArea areas.Store (Torn (place x.number x.block) (length x.bytes.now)) mid.seen new.seen)
      → (IsTrue mid.tells → new.seen.store ≡ written mid.seen.store (place x.number x.block) x.bytes.now) → IsWriting xs old new (i + 1)
  writing_more r up sized went call content done = record {
    tells = call.tells ∙ writing.tells;
    faults = (call.ok went).0 ∙ writing.faults;
    calls = let one = call.one_more (call.ok went).1 in omega (arith, one, writing.calls);
    beside = follows_more;
    adds = adds_more call.adds;
    log = λ told. (content (subst IsTrue (sym writing.tells) told)).elsewhere ∙ writing.log told;
    seen = λ told. beside_two xs old.seen mid.seen new.seen (writing.seen told) (beside_torn xs i x is mid.seen new.seen (content (subst IsTrue (sym writing.tells) told)));
    held = λ told j y low other.
        let told_mid : IsTrue mid.tells = subst IsTrue (sym writing.tells) told in
        ⊎_elim
        (λ (before : j < i). torn_apart (place x.number x.block) (length x.bytes.now) mid.seen.store new.seen.store (content told_mid).here (place y.number y.block) y.bytes.now
        (two_apart xs up sized i j x y before is other) (writing.held told j y before other))
        (λ (here : j ≡ i).
        let same : x ≡ y = some_is x y (sym is ∙ ap (slice_get xs) (sym here) ∙ other) in
        subst (λ (b : Block). Holds (place b.number b.block) b.bytes.now new.seen.store) same
        (subst (Holds (place x.number x.block) x.bytes.now) (sym (done told_mid)) (holds_written mid.seen.store (place x.number x.block) x.bytes.now)))
        (below_or_at j i low);
  }
    where
      below_or_at : (j i : ℕ) → j < i + 1 → (j < i) ⊎ (j ≡ i)
      below_or_at j i low = grind (arith, low)

  -- or a write that failed, at which the run ends
  pub writing_failed : {T E U F : Type 0} (r : Result T E) (e : E) (u : Result U F) → IsDeviceCall mid new r → r ≡ Err e → IsErr u → (IsAtEnd old → mid ≡ old)
      → IsDeviceRun old new u (AfterStep (Beside xs) old)
  writing_failed r e u call was failed stands = record {
    tells = call.tells ∙ writing.tells;
    rises = omega (arith, call.rises, writing.faults);
    ok = λ went. absurd (not_both u went failed);
    err = λ h. ⊎_elim (λ more. inl (omega (arith, more, writing.faults)))
        (λ stood. inr (⊎_elim (λ a. inl (omega (arith, a, stood.1))) (λ b. inr (omega (arith, b, stood.2))) stood.0)) (call.err (subst IsErr (sym was) refl));
    adds = adds_more call.adds;
  }
    where
      not_both : {T E : Type 0} (r : Result T E) → IsOk r → IsErr r → ⊥
      not_both {T} {E} (Ok x) went failed = absurd (cc failed)
      not_both {T} {E} (Err e) went failed = absurd (cc went)

-- Dirty blocks

-- the row of a dirty block comes from the entry that made it so
pub dirty_source : (s : Story) (xs : List Noted) (n number block : ℕ) (d : IsDirty s xs n number block) → source_to s n d.pnode block ≡ Some d.at
dirty_source s xs n number block d = source_law s.session (take n s.history) d.pnode block d.limited ∙ d.dirtied

module _ (s : Story) (xs : List Noted) (n : ℕ) where
  -- the place of a dirty block is free
  pub dirty_free : (number block : ℕ) → IsDirty s xs n number block → IsFree s xs n number block
  dirty_free number block d =
      record { count = n; within = omega arith; pnode = d.pnode; numbered = d.numbered; at = d.at; source = dirty_source s xs n number block d; uncovered = d.uncovered }

  pub range_short : (p b : ℕ) → length (range_to s n p b) ≤ 4096
  range_short p b = omega (arith, length-take 4096 (drop (b * 4096) (file_after s.session (take n s.history) p)))

  -- dirty blocks are no larger than blocks
  pub sized : (files : ℕ → Bool) (blocks : List Block) → AreDirty s xs n files blocks → AreSized blocks
  sized files blocks given = λ i x at. let d = given.each i x at in
      (d.0.limited, omega (arith, ap length d.1, range_short d.0.pnode x.block))

  -- all dirty blocks of some files with their bytes
  pub dirty_written : (files : ℕ → Bool) (blocks : List Block) (store : List ℕ) → AreDirty s xs n files blocks → AreWritten s xs n files blocks store
  dirty_written files blocks store given = record {
    each = λ i x at. dirty_free x.number x.block (given.each i x at).0;
    all = λ number block reached d.
        let a = given.all number block reached d in
        let e = given.each a.i a.x a.is in
        let file : e.0.pnode ≡ d.pnode = number_one s n d.pnode e.0.pnode number d.numbered (e.0.numbered ∙ ap (λ (i : ℕ). Some i) a.of_file) in
        inl (record {
          i = a.i;
          x = a.x;
          is = a.is;
          of_file = a.of_file;
          at_block = a.at_block;
          same = e.1 ∙ ap (λ (q : ℕ). range_to s n q a.x.block) file ∙ ap (range_to s n d.pnode) a.at_block;
        });
  }

-- once the blocks are written, each dirty block of the files is there
pub all_there : (s : Story) (xs : List Noted) (n : ℕ) (files : ℕ → Bool) (blocks : List Block) (old : List ℕ) → AreSized blocks → AreWritten s xs n files blocks old → (store : List ℕ)
    → AreHeld blocks (length blocks) store → ((at : ℕ) (bytes : List ℕ) → IsApartFrom blocks at (length bytes) → Holds at bytes old → Holds at bytes store) → AreThere s xs n files store
all_there s xs n files blocks old sized given store held stays = λ number block reached d. ⊎_elim
    (λ (h : HasBlock blocks number block (range_to s n d.pnode block)).
    subst (λ (l : List ℕ). Holds (place number block) l store) h.same
    (subst (λ (q : ℕ). Holds (place number q) h.x.bytes.now store) h.at_block
    (subst (λ (q : ℕ). Holds (place q h.x.block) h.x.bytes.now store) h.of_file (held h.i h.x (slice_get_within blocks h.i h.x h.is) h.is))))
    (λ (e : IsElsewhere blocks number block × Holds (place number block) (range_to s n d.pnode block) old).
    stays (place number block) (range_to s n d.pnode block)
    (λ i x at. let size = sized i x at in
    places_apart number block x.number x.block (length (range_to s n d.pnode block)) (length x.bytes.now) d.limited size.0
    (λ same_file same_block. e.0 i x at (sym same_file) (sym same_block)) (range_short s xs n d.pnode block) size.1)
    e.1)
    (given.all number block reached d)

module _ (s : Story) (is : IsStory s) (xs : List Noted) (durable : ℕ) (within : durable ≤ length s.history) (bounded : (number : ℕ) → covered xs number ≤ durable) where
  module _ (blocks : List Block) (sized_ : AreSized blocks) (free : (i : ℕ) (x : Block) → slice_get blocks i ≡ Some x → IsFree s xs durable x.number x.block) where
    -- what is kept lies apart from them
    apart_from : (n p b number k : ℕ) → durable ≤ n → n ≤ length s.history → source_to s n p b ≡ Some k → number_of (list_to s n) p ≡ Some number → k < covered xs number
        → (len : ℕ) → len ≤ 4096 → IsApartFrom blocks (place number b) len
    apart_from n p b number k le le_all from numbered low len few = λ i x at.
        let f = free i x at in
        let size = sized_ i x at in
        let up : f.count ≤ n = omega (arith, f.within, le) in
        places_apart number b x.number x.block len (length x.bytes.now) (row_set s n p b k from).limited size.0
        (λ same_file same_block.
        let file : p ≡ f.pnode = number_one s n f.pnode p x.number (number_later s f.count n f.pnode x.number up f.numbered) (numbered ∙ ap (λ (i : ℕ). Some i) same_file) in
        let low_there : k < covered xs x.number = subst (λ (i : ℕ). k < covered xs i) same_file low in
        let below : f.at < f.count = source_below s f.count f.pnode x.block f.at (omega (arith, up, le_all)) f.source in
        let early = (source_earlier s n f.count p b k le_all from (omega (arith, low_there, f.uncovered, below)) up).0 in
        let there : source_to s f.count f.pnode x.block ≡ Some k =
        ap (λ (q : ℕ). source_to s f.count q x.block) (sym file) ∙ ap (source_to s f.count p) (sym same_block) ∙ early in
        let at_is : f.at ≡ k = some_is f.at k (sym f.source ∙ there) in
        omega (arith, f.uncovered, at_is, low_there))
        few size.1

    -- and so does what stood there before the session
    older_apart : (n p b number : ℕ) → durable ≤ n → n ≤ length s.history → is_some (row_of (list_to s n) p b) ≡ true → source_to s n p b ≡ None → number_of (list_to s n) p ≡ Some number
        → (len : ℕ) → len ≤ 4096 → IsApartFrom blocks (place number b) len
    older_apart n p b number le le_all row none numbered len few = λ i x at.
        let f = free i x at in
        let size = sized_ i x at in
        let up : f.count ≤ n = omega (arith, f.within, le) in
        places_apart number b x.number x.block len (length x.bytes.now) (older_limited s is n p b row) size.0
        (λ same_file same_block.
        let file : p ≡ f.pnode = number_one s n f.pnode p x.number (number_later s f.count n f.pnode x.number up f.numbered) (numbered ∙ ap (λ (i : ℕ). Some i) same_file) in
        let quiet : source_to s f.count p b ≡ None = (older_at s is n f.count p b up row none).1 in
        let there : source_to s f.count f.pnode x.block ≡ None =
        ap (λ (q : ℕ). source_to s f.count q x.block) (sym file) ∙ ap (source_to s f.count p) (sym same_block) ∙ quiet in
        no_source f.at (sym there ∙ f.source))
        few size.1
      where
        no_source : (k : ℕ) → None ≡ Some k → ⊥
        no_source k e = absurd (cc)

    -- it stays beside them
    pub beside_left : (d c : Image) → Beside blocks d c → IsLeft s durable (covered xs) d → IsLeft s durable (covered xs) c
    beside_left d c beside left = record {
      count = left.count;
      enough = left.enough;
      within = left.within;
      records = subst (HasRecords (list_to s left.count)) (sym beside.log) left.records;
      kept = λ p b number k from numbered low.
          beside.stays (place number b) (range_to s left.count p b)
          (apart_from left.count p b number k left.enough left.within from numbered low (length (range_to s left.count p b)) (range_short s xs left.count p b))
          (left.kept p b number k from numbered low);
      older = λ p b number row none numbered.
          beside.stays (place number b) (stands_there (place number b) s.store)
          (older_apart left.count p b number left.enough left.within row none numbered (length (stands_there (place number b) s.store))
          (omega (arith, length-take 4096 (drop (place number b) s.store))))
          (left.older p b number row none numbered);
    }

  -- a range that no sync covered is that of a dirty block
  now_held : (files : ℕ → Bool) (n p b number k : ℕ) → durable ≤ n → n ≤ length s.history → source_to s n p b ≡ Some k → number_of (list_to s n) p ≡ Some number
      → covered xs number ≤ k → files number ≡ true → k < durable → (store : List ℕ) → AreThere s xs durable files store → Holds (place number b) (range_to s n p b) store
  now_held files n p b number k le le_all from numbered uncovered reached low store there =
      let both = source_earlier s n durable p b k le_all from low le in
      let known = number_known s is durable p b k both.0 in
      let same : known.0 ≡ number = some_is known.0 number (sym (number_later s durable n p known.0 le known.1) ∙ numbered) in
      let numbered_there : number_of (list_to s durable) p ≡ Some number = known.1 ∙ ap (λ (i : ℕ). Some i) same in
      let limited : b < 1024 = (row_set s durable p b k both.0).limited in
      let dirtied = sym (source_law s.session (take durable s.history) p b limited) ∙ both.0 in
      let dirty : IsDirty s xs durable number b = record { pnode = p; numbered = numbered_there; limited = limited; at = k; dirtied = dirtied; uncovered = uncovered } in
      subst (λ (l : List ℕ). Holds (place number b) l store) (sym both.1) (there number b reached dirty)

  -- and with these there, all ranges of their files are kept
  pub held_left : (files : ℕ → Bool) (calls : ℕ) (c : Image) → IsLeft s durable (covered xs) c → AreThere s xs durable files c.store
      → IsLeft s durable (covered (xs ++ record { calls = calls; entries = durable; files = files } ∷ [])) c
  held_left files calls c left there =
      let x : Noted = record { calls = calls; entries = durable; files = files } in
      record {
        count = left.count;
        enough = left.enough;
        within = left.within;
        records = left.records;
        kept = λ p b number k from numbered low. ⊎_elim
            (λ (old : k < covered xs number). left.kept p b number k from numbered old)
            (λ (new : covered xs number ≤ k).
            let reached = bound_some x number k (omega (arith, low, new, covered-push xs x number)) in
            now_held files left.count p b number k left.enough left.within from numbered new reached.0 reached.1 c.store there)
            (lt_or k (covered xs number));
        older = left.older;
      }
    where
      lt_or : (a b : ℕ) → (a < b) ⊎ (b ≤ a)
      lt_or a b = grind arith

-- writes to free places, whatever came of them
pub wrote : {T E : Type 0} (s : Story) → IsStory s → (m new : Moment) (log : Log) (durable : ℕ) (xs : List Noted) (blocks : List Block) (r : Result T E) → IsKept s m log durable xs
    → AreSized blocks → (IsTrue m.tells → (i : ℕ) (x : Block) → slice_get blocks i ≡ Some x → IsFree s xs durable x.number x.block)
    → ((c : Image) → m.may_leave c → m.left_since m.calls c) → ((t u : ℕ) (c : Image) → t ≤ u → new.left_since u c → new.left_since t c)
    → IsDeviceRun m new r (AfterStep (Beside blocks) m) → Follows (Beside blocks) m new → (IsTrue m.tells → new.seen.log ≡ m.seen.log) → (IsAtEnd m → new ≡ m) → IsKept s new log durable xs
wrote s is m new log durable xs blocks r kept sized_ free counts less run follows same_log stands =
    let bounded : (number : ℕ) → covered xs number ≤ durable = λ number. covered_le s m durable xs number kept.past in
    let left : IsTrue m.tells → (c : Image) → AfterStep (Beside blocks) m c → IsLeft s durable (covered xs) c =
    λ told c x. beside_left s is xs durable kept.within bounded blocks sized_ (free told) x.0 c x.2 (kept.present told x.0 (counts x.0 x.1)) in
    record {
      settled = settled_beside log m new kept.settled run.rises run.tells same_log (λ c may. let from = follows c may in (from.0, from.1, from.2.log)) stands;
      within = kept.within;
      rising = kept.rising;
      begun = begun_on s m new (AfterStep (Beside blocks) m) run.tells (λ told. run.adds) run.adds.later durable (covered xs) left kept.begun;
      reads = λ told same going.
          let told_old : IsTrue m.tells = sym run.tells ∙ told in
          let before : IsAtEnd m → ⊥ = λ ended. going (subst IsAtEnd (sym (stands ended)) ended) in
          subst (HasRecords (list_to s durable)) (sym (same_log told_old)) (kept.reads told_old (omega (arith, same, kept.settled.opened, run.rises)) before);
      present = present_on s m new (AfterStep (Beside blocks) m) run.tells (λ told. run.adds) run.adds.later durable (covered xs) left less kept.present;
      past = every_on s m new (AfterStep (Beside blocks) m) run.tells (λ told. run.adds) run.adds.later durable (covered xs) left durable (omega arith) xs (λ number. omega arith) kept.past;
    }

-- one write
pub one_sized : (x : Block) → (x.block < 1024) × (length x.bytes.now ≤ 4096) → AreSized (x ∷ [])
one_sized x size = at_each
  where
    at_each : AreSized (x ∷ [])
    at_each zero y is = subst (λ (b : Block). (b.block < 1024) × (length b.bytes.now ≤ 4096)) (some_is x y is) size
    at_each (suc i) y is = absurd (cc)

module _ (x : Block) (old new : Moment) (sized_ : AreSized (x ∷ [])) (follows : Follows (OnArea areas.Store (Torn (place x.number x.block) (length x.bytes.now))) old new) where
  alone : IsAscending (x ∷ [])
  alone zero j y z less one two = absurd (none_behind j z less two)
    where
      none_behind : (j : ℕ) (z : Block) → 0 < j → slice_get (x ∷ []) j ≡ Some z → ⊥
      none_behind zero z less is = omega (arith, less)
      none_behind (suc j) z less is = absurd (cc)
  alone (suc i) j y z less one two = absurd (cc)

  pub one_follows : Follows (Beside (x ∷ [])) old new
  one_follows = follows_more (x ∷ []) old old new 0 x refl (writing_none (x ∷ []) old) follows

  pub one_run : {T E : Type 0} (r : Result T E) → IsDeviceCall old new r → IsDeviceRun old new r (AfterStep (Beside (x ∷ [])) old)
  one_run r call = record {
    tells = call.tells;
    rises = call.rises;
    ok = call.ok;
    err = λ failed. ⊎_elim (λ more. inl more)
        (λ stood. inr (⊎_elim (λ a. inl (omega (arith, a, stood.1))) (λ b. inr (omega (arith, b, stood.2))) stood.0)) (call.err failed);
    adds = adds_weaker (AfterStep (Beside (x ∷ [])) old) old new call.adds one_follows;
  }

  pub one_written : {T E : Type 0} (r : Result T E) → IsOk r → IsDeviceCall old new r
      → (IsTrue old.tells → OnArea areas.Store (Torn (place x.number x.block) (length x.bytes.now)) old.seen new.seen)
      → (IsTrue old.tells → new.seen.store ≡ written old.seen.store (place x.number x.block) x.bytes.now) → IsWriting (x ∷ []) old new 1
  one_written r went call content done = writing_more (x ∷ []) old old new 0 x refl (writing_none (x ∷ []) old) follows r alone sized_ went call content done

-- the sync behind the blocks
module _ (xs : List Block) (old mid new : Moment) (n : ℕ) (writing : IsWriting xs old mid n) (crash : (c : Image) → new.may_leave c → mid.may_leave c) where
  pub synced_follows : Follows (Beside xs) old new
  synced_follows = λ c may. writing.beside c (crash c may)

  pub synced_run : {T E : Type 0} (r : Result T E) → IsDeviceCall mid new r → (IsAtEnd old → mid ≡ old) → IsDeviceRun old new r (AfterStep (Beside xs) old)
  synced_run r call stands = record {
    tells = call.tells ∙ writing.tells;
    rises = omega (arith, call.rises, writing.faults);
    ok = λ went. ((call.ok went).0 ∙ writing.faults, λ ended. (call.ok went).1 (subst IsAtEnd (sym (stands ended)) ended));
    err = λ failed. ⊎_elim (λ more. inl (omega (arith, more, writing.faults)))
        (λ stood. inr (⊎_elim (λ a. inl (omega (arith, a, stood.1))) (λ b. inr (omega (arith, b, stood.2))) stood.0)) (call.err failed);
    adds = adds_steps (Beside xs) old mid new (beside_two xs) writing.beside writing.adds
        (adds_weaker (AfterStep (Beside xs) mid) mid new call.adds (λ c may. (c, crash c may, beside_none xs c)));
  }

  pub synced_seen : new.seen ≡ mid.seen → IsTrue old.tells → Beside xs old.seen new.seen
  synced_seen same told = subst (Beside xs old.seen) (sym same) (writing.seen told)

  pub synced_held : length xs ≤ n → ((c : Image) → new.may_leave c → c.store ≡ new.seen.store) → new.seen ≡ mid.seen → IsTrue old.tells → (c : Image) → new.may_leave c → AreHeld xs (length xs) c.store
  synced_held whole durable same told c may = λ j y low is.
      subst (Holds (place y.number y.block) y.bytes.now) (sym (durable c may ∙ ap (λ (i : Image). i.store) same)) (writing.held told j y (omega (arith, low, whole)) is)
