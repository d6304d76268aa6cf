-- What waits to be written stays so while the vault goes on.
use Rattle.std.proofs.Common.{◌≡◌, ◌⊎◌, ◌<◌, ◌≤◌, ℕ, zero, suc, Bool, true, false, max, List, [], ◌∷◌, ◌++◌, length, take, IsTrue, inl, inr, ⊎_elim, refl, sym, ◌∙◌, ap, subst, arith}
use Rattle.std.specs.Prelude.{Option, Some, None, slice_get, ◌==◌, ◌&&◌, if◌then◌else◌}
use Rattle.std.specs.Option.{option_map_or}
use Rattle.std.specs.List.{All}
use Rattle.std.proofs.lemmas.Bool.Decides.{nat_tests}
use Rattle.pass_entry.specs.declared.entry.Entry.{Entry}
use Rattle.pass_outside.specs.Areas.{Image}
use Rattle.pass_outside.specs.Moments.{Moment, IsAtEnd}
use Rattle.pass_plain.specs.Files.{file_after}
use Rattle.pass_plain.specs.Records.{list_of}
use Rattle.pass_plain.proofs.Lists.{some_is, same_numbers, same_itself}
use Rattle.pass_log.specs.Log.{LeavesStore}
use Rattle.pass_range.specs.Places.{place, Holds, IsApart}
use Rattle.pass_range.specs.Rows.{range, number_of}
use Rattle.pass_range.specs.Sources.{row_source}
use Rattle.pass_range.specs.Dirtied.{dirtied_at}
use Rattle.pass_range.proofs.Apart.{places_apart}
use Rattle.pass_range.proofs.Dirtying.{source_law}
use Rattle.pass_book.specs.declared.view.VaultSync.{VaultSync}
use Rattle.pass_book.specs.declared.view.Role.TheVariants as role
use Rattle.pass_book.specs.Names.{name, concerns}
use Rattle.pass_clean.specs.Cleaned.{covers, cleaned, is_dirty, is_dirty_from}
use Rattle.pass_pool.specs.declared.pool.FileBlock.{FileBlock}
use Rattle.pass_pool.specs.Pools.{is_block, pushed_out}
use Rattle.pass_keep.specs.declared.block.Block.{Block}
use Rattle.pass_keep.specs.Kept.{Story, IsStory, Noted, bound_of, covered, list_to, range_to}
use Rattle.pass_keep.specs.Dirty.{IsDirty, IsFree, AreSized, Beside, IsApartFrom}
use Rattle.pass_keep.specs.Longer.{with_entries}
use Rattle.pass_keep.proofs.Stories.{number_later, number_one, number_known, row_set, source_earlier, source_below}
use Rattle.pass_keep.proofs.Keeping.{covered-push}
use Rattle.pass_vault.proofs.Cleaning.{number_at}
use Rattle.pass_keep.proofs.Writing.{dirty_source, range_short}
use Rattle.pass_vault.specs.Pooled.{Blocks, staged_in, with_block}
use Rattle.pass_vault.specs.Waiting.{IsPooled, IsLanded, IsHandled, IsWell, IsWaiting}
use Rattle.pass_vault.proofs.Pooling.{Pair, found, is_block_here, put_here, put_from, put_none, put_some, pushed_from}

-- where fewer blocks are clean
pub waiting_weaker : (s : Story) (noted : List Noted) (n : ℕ) (m : Moment) (pool : Blocks) (unsynced : Bool) (since opened : ℕ) (Clean Less : ℕ → ℕ → Type 0) → ((f block : ℕ) → Less f block → Clean f block)
    → IsWaiting s noted n m pool unsynced since opened Clean → IsWaiting s noted n m pool unsynced since opened Less
waiting_weaker s noted n m pool unsynced since opened Clean Less fewer old = record { pooled = old.pooled; handled = λ well number block d clean. old.handled well number block d (fewer d.pnode block clean) }

-- A block that is clean by a list

pub clean_below : (clean : ℕ) (o : Option ℕ) (at : ℕ) → o ≡ Some at → option_map_or (is_dirty_from clean) o false ≡ false → at < clean
clean_below clean None at is test = absurd (cc)
clean_below clean (Some k) at is test = let same = some_is k at is in let low : k < clean = grind (arith, nat_tests) in omega (arith, same, low)

pub below_clean : (clean : ℕ) (o : Option ℕ) (at : ℕ) → o ≡ Some at → at < clean → option_map_or (is_dirty_from clean) o false ≡ false
below_clean clean None at is low = refl
below_clean clean (Some k) at is low = let same = some_is k at is in let less : k < clean = omega (arith, same, low) in grind (arith, nat_tests)

module _ (s : Story) (is : IsStory s) (noted : List Noted) (n : ℕ) (within : n ≤ length s.history) where
  -- dirty blocks of one number and place are of one file
  pub one_file : (number other block more : ℕ) (d : IsDirty s noted n number block) (e : IsDirty s noted n other more) → other ≡ number → e.pnode ≡ d.pnode
  one_file number other block more d e same = number_one s n d.pnode e.pnode number d.numbered (e.numbered ∙ ap (λ (i : ℕ). Some i) same)

  free_limited : (number block : ℕ) → IsFree s noted n number block → block < 1024
  free_limited number block f = (row_set s f.count f.pnode block f.at f.source).limited

  free_short : (number block : ℕ) (f : IsFree s noted n number block) → length (range_to s f.count f.pnode block) ≤ 4096
  free_short number block f = range_short s noted f.count f.pnode block

  -- A block is put into the pool
  module _ (m : Moment) (pool : Blocks) (unsynced : Bool) (since opened : ℕ) (Clean More : ℕ → ℕ → Type 0) (old : IsWaiting s noted n m pool unsynced since opened Clean)
      (number : ℕ) (b : ℕ × List ℕ) (d : IsDirty s noted n number b.0) (bytes : b.1 ≡ range_to s n d.pnode b.0) (few : length pool.entries ≤ pool.cap)
      (more : (f block : ℕ) → More f block → Clean f block ⊎ ((f ≡ d.pnode) × (block ≡ b.0))) where
    abbrev key : FileBlock
    key = record { number = number; block = b.0 }

    abbrev next : Blocks
    next = with_block pool number b

    pooled_head : IsPooled s noted n (key, b.1)
    pooled_head = record {
      free = record { count = n; within = omega arith; pnode = d.pnode; numbered = d.numbered; at = d.at; source = dirty_source s noted n number b.0 d; uncovered = d.uncovered };
      bytes = bytes;
    }

    pub put_pooled : (i : ℕ) (p : Pair) → slice_get next.entries i ≡ Some p → IsPooled s noted n p
    put_pooled i p at = ⊎_elim
        (λ (same : p ≡ (key, b.1)). subst (IsPooled s noted n) (sym same) pooled_head)
        (λ (old_ : (j : ℕ) × (slice_get pool.entries j ≡ Some p)). old.pooled old_.0 p old_.1)
        (put_from pool number b i p at)

    -- the block itself is there
    here : (other block : ℕ) (e : IsDirty s noted n other block) → number ≡ other → b.0 ≡ block → staged_in next other block ≡ Some (range_to s n e.pnode block)
    here other block e same_number same_block =
        let file = one_file number other b.0 block d e (sym same_number) in
        sym (ap (λ (q : ℕ). staged_in next q b.0) same_number ∙ ap (λ (q : ℕ). staged_in next other q) same_block)
        ∙ put_here pool number b
        ∙ ap (λ (l : List ℕ). Some l) (bytes ∙ ap (λ (q : ℕ). range_to s n q b.0) (sym file) ∙ ap (range_to s n e.pnode) same_block)

    -- another one was clean before
    still_clean : (other block : ℕ) (e : IsDirty s noted n other block) → (number ≡ other → b.0 ≡ block → ⊥) → More e.pnode block → Clean e.pnode block
    still_clean other block e apart m_ = ⊎_elim (λ (c : Clean e.pnode block). c)
        (λ (same : (e.pnode ≡ d.pnode) × (block ≡ b.0)).
        let numbers : number ≡ other = some_is number other (sym d.numbered ∙ ap (number_of (list_to s n)) (sym same.0) ∙ e.numbered) in
        absurd (apart numbers (sym same.1)))
        (more e.pnode block m_)

    which : (other block : ℕ) → ((number ≡ other) × (b.0 ≡ block)) ⊎ (number ≡ other → b.0 ≡ block → ⊥)
    which other block = by_tests (number == other) refl (b.0 == block) refl
      where
        by_tests : (x : Bool) → (number == other) ≡ x → (y : Bool) → (b.0 == block) ≡ y → ((number ≡ other) × (b.0 ≡ block)) ⊎ (number ≡ other → b.0 ≡ block → ⊥)
        by_tests true p true q = inl (same_numbers number other p, same_numbers b.0 block q)
        by_tests true p false q = inr (λ one two. let z = ap (λ (k : ℕ). b.0 == k) two in absurd (cc (sym q ∙ sym z ∙ same_itself b.0)))
        by_tests false p y q = inr (λ one two. let z = ap (λ (k : ℕ). number == k) one in absurd (cc (sym p ∙ sym z ∙ same_itself number)))

    -- nothing is pushed out
    pub put_kept : pushed_out pool key ≡ None → IsWaiting s noted n m next unsynced since opened More
    put_kept none = record {
      pooled = put_pooled;
      handled = λ well other block e m_. ⊎_elim
          (λ same. inl (here other block e same.0 same.1))
          (λ apart. ⊎_elim
          (λ (there : staged_in pool other block ≡ Some (range_to s n e.pnode block)). ⊎_elim
          (λ stays. inl stays)
          (λ gone. absurd (no_pair gone.1.0 (sym none ∙ gone.1.1)))
          (put_some pool number b other block apart (range_to s n e.pnode block) few there))
          (λ landed. inr (put_none pool number b other block apart landed.0, landed.1))
          (old.handled well other block e (still_clean other block e apart m_)))
          (which other block);
    }
      where
        no_pair : (p : Pair) → None ≡ Some p → ⊥
        no_pair p e = absurd (cc)

    -- a block is, and is written
    module _ (out : Pair) (pushed : pushed_out pool key ≡ Some out) (x : Block) (of_file : x.number ≡ out.0.number) (at_block : x.block ≡ out.0.block) (its : x.bytes.now ≡ out.1)
        (new : Moment) (tells : new.tells ≡ m.tells) (rises : m.faults ≤ new.faults) (ends : IsAtEnd m → IsAtEnd new) where
      its_place : (j : ℕ) × (slice_get pool.entries j ≡ Some out)
      its_place = pushed_from pool number b out pushed

      its_pooled : IsPooled s noted n out
      its_pooled = old.pooled its_place.0 out its_place.1

      pub pushed_free : IsFree s noted n x.number x.block
      pushed_free = subst (λ (q : ℕ). IsFree s noted n q x.block) (sym of_file) (subst (IsFree s noted n out.0.number) (sym at_block) its_pooled.free)

      pub pushed_sized : (x.block < 1024) × (length x.bytes.now ≤ 4096)
      pushed_sized = (
        free_limited x.number x.block pushed_free,
        let short = free_short out.0.number out.0.block its_pooled.free in omega (arith, short, ap length its, ap length its_pooled.bytes),
      )

      -- its place is apart from those of blocks that aren't in the pool
      apart_from : (other block : ℕ) (e : IsDirty s noted n other block) → staged_in pool other block ≡ None → IsApartFrom (x ∷ []) (place other block) (length (range_to s n e.pnode block))
      apart_from other block e none zero y at =
          subst (λ (z : Block). IsApart (place other block) (length (range_to s n e.pnode block)) (place z.number z.block) (length z.bytes.now)) (some_is x y at)
          (places_apart other block x.number x.block (length (range_to s n e.pnode block)) (length x.bytes.now) e.limited pushed_sized.0
          (λ same_file same_block. found (is_block other block) pool.entries its_place.0 out its_place.1
          (subst (λ (q : ℕ). is_block q block out.0 ≡ true) (sym (same_file ∙ of_file)) (subst (λ (q : ℕ). is_block out.0.number q out.0 ≡ true) (sym (same_block ∙ at_block)) (is_block_here out.0.number out.0.block))) none)
          (range_short s noted n e.pnode block) pushed_sized.1)
      apart_from other block e none (suc i) y at = absurd (cc)

      pub put_pushed : (IsTrue m.tells → Holds (place x.number x.block) x.bytes.now new.seen.store) → (IsTrue m.tells → Beside (x ∷ []) m.seen new.seen) → IsWaiting s noted n new next true since opened More
      put_pushed held beside = record {
        pooled = put_pooled;
        handled = λ well other block e m_.
            let old_well : IsWell m unsynced opened = λ is_true. let w = well refl in (omega (arith, w.0, rises), λ ended. w.1 (ends ended)) in ⊎_elim
            (λ same. inl (here other block e same.0 same.1))
            (λ apart. ⊎_elim
            (λ (there : staged_in pool other block ≡ Some (range_to s n e.pnode block)). ⊎_elim
            (λ stays. inl stays)
            (λ gone. inr (gone.0, landed other block e (written_there other block e gone.1)))
            (put_some pool number b other block apart (range_to s n e.pnode block) few there))
            (λ was. inr (
              put_none pool number b other block apart was.0,
              landed other block e (λ told. (beside told).stays (place other block) (range_to s n e.pnode block) (apart_from other block e was.0) (was.1.seen told)),
            ))
            (old.handled old_well other block e (still_clean other block e apart m_)))
            (which other block);
      }
        where
          landed : (other block : ℕ) (e : IsDirty s noted n other block) → (IsTrue m.tells → Holds (place other block) (range_to s n e.pnode block) new.seen.store)
              → IsLanded new true since other block (range_to s n e.pnode block)
          landed other block e holds = record { seen = λ told. holds (subst IsTrue tells told); each = λ not_so told c left. absurd (cc not_so) }

          written_there : (other block : ℕ) (e : IsDirty s noted n other block) → ((p : Pair) × (pushed_out pool key ≡ Some p) × (other ≡ p.0.number) × (block ≡ p.0.block) × (p.1 ≡ range_to s n e.pnode block))
              → IsTrue m.tells → Holds (place other block) (range_to s n e.pnode block) new.seen.store
          written_there other block e gone told =
              let same : out ≡ gone.0 = some_is out gone.0 (sym pushed ∙ gone.1) in
              let file : x.number ≡ other = of_file ∙ ap (λ (p : Pair). p.0.number) same ∙ sym gone.2 in
              let at : x.block ≡ block = at_block ∙ ap (λ (p : Pair). p.0.block) same ∙ sym gone.3 in
              let what : x.bytes.now ≡ range_to s n e.pnode block = its ∙ ap (λ (p : Pair). p.1) same ∙ gone.4 in
              subst (λ (l : List ℕ). Holds (place other block) l new.seen.store) what
              (subst (λ (q : ℕ). Holds (place other q) x.bytes.now new.seen.store) at (subst (λ (q : ℕ). Holds (place q x.block) x.bytes.now new.seen.store) file (held told)))

      -- or its write failed: nothing is said of the store area
      pub put_lost : (new.faults ≤ opened → (IsAtEnd new → ⊥) → ⊥) → IsWaiting s noted n new next true since opened More
      put_lost bad = record { pooled = put_pooled; handled = λ well. let w = well refl in absurd (bad w.0 w.1) }

-- the bytes that landed, after frames of the log or none
landed_on : (m new : Moment) (unsynced : Bool) (since then_ number block : ℕ) (bytes : List ℕ) → new.tells ≡ m.tells → LeavesStore m new
    → (IsTrue m.tells → (c : Image) → new.left_since then_ c → (d : Image) × m.left_since since d × (c.store ≡ d.store)) → IsLanded m unsynced since number block bytes → IsLanded new unsynced then_ number block bytes
landed_on m new unsynced since then_ number block bytes tells store shown was = record {
  seen = λ told. let old_told = subst IsTrue tells told in subst (Holds (place number block) bytes) (sym (store.reads old_told)) (was.seen old_told);
  each = λ synced told c left. let old_told = subst IsTrue tells told in let from = shown old_told c left in
      subst (Holds (place number block) bytes) (sym from.2) (was.each synced old_told from.0 from.1);
}

module _ (s : Story) (is : IsStory s) (noted later : List Noted) (n upto : ℕ) (up : n ≤ upto) (within : upto ≤ length s.history) (same : (number : ℕ) → covered later number ≡ covered noted number)
    (syncs list : List VaultSync) (alike : (file block : ℕ) → cleaned file block list ≡ cleaned file block syncs) (low : (file block : ℕ) → cleaned file block syncs ≤ n) where
  free_on : (number block : ℕ) → IsFree s noted n number block → IsFree s later upto number block
  free_on number block f = record {
    count = f.count;
    within = omega (arith, f.within, up);
    pnode = f.pnode;
    numbered = f.numbered;
    at = f.at;
    source = f.source;
    uncovered = omega (arith, f.uncovered, same number);
  }

  -- more entries are durable: what is clean by the list was so before
  pub waiting_on : (m new : Moment) (pool : Blocks) (unsynced : Bool) (since then_ opened : ℕ) → IsWaiting s noted n m pool unsynced since opened (λ f b. is_dirty s.session (take n s.history) syncs f b ≡ false)
      → new.tells ≡ m.tells → m.faults ≤ new.faults → (IsAtEnd m → IsAtEnd new) → LeavesStore m new
      → (IsTrue m.tells → (c : Image) → new.left_since then_ c → (d : Image) × m.left_since since d × (c.store ≡ d.store))
      → IsWaiting s later upto new pool unsynced then_ opened (λ f b. is_dirty s.session (take upto s.history) list f b ≡ false)
  unfolding free_on
  waiting_on m new pool unsynced since then_ opened old tells rises ends store shown = record {
    pooled = λ i p at. let was = old.pooled i p at in record { free = free_on p.0.number p.0.block was.free; bytes = was.bytes };
    handled = λ well number block d clean.
        let old_well : IsWell m unsynced opened = λ un. let w = well un in (omega (arith, w.0, rises), λ ended. w.1 (ends ended)) in
        let below : d.at < cleaned d.pnode block list = clean_below (cleaned d.pnode block list) (dirtied_at s.session (take upto s.history) d.pnode block) d.at d.dirtied clean in
        let early : d.at < n = omega (arith, below, alike d.pnode block, low d.pnode block) in
        let both = source_earlier s upto n d.pnode block d.at within (dirty_source s later upto number block d) early up in
        let dirtied : dirtied_at s.session (take n s.history) d.pnode block ≡ Some d.at = sym (source_law s.session (take n s.history) d.pnode block d.limited) ∙ both.0 in
        let known = number_known s is n d.pnode block d.at both.0 in
        let one : known.0 ≡ number = some_is known.0 number (sym (number_later s n upto d.pnode known.0 up known.1) ∙ d.numbered) in
        let e : IsDirty s noted n number block =
        record { pnode = d.pnode; numbered = known.1 ∙ ap (λ (i : ℕ). Some i) one; limited = d.limited; at = d.at; dirtied = dirtied; uncovered = omega (arith, d.uncovered, same number) } in
        let was = old.handled old_well number block e
        (below_clean (cleaned d.pnode block syncs) (dirtied_at s.session (take n s.history) d.pnode block) d.at dirtied (omega (arith, below, alike d.pnode block))) in
        subst (IsHandled new pool unsynced then_ number block) (sym both.1)
        (⊎_elim (λ there. inl there) (λ gone. inr (gone.0, landed_on m new unsynced since then_ number block (range_to s n d.pnode block) tells store shown gone.1)) was);
  }

-- A longer history
module _ (s : Story) (more : List Entry) (noted : List Noted) (n : ℕ) (front : (q : ℕ) → q ≤ n → take q (s.history ++ more) ≡ take q s.history) where
  abbrev t : Story
  t = with_entries s more

  list_same : (q : ℕ) → q ≤ n → list_to t q ≡ list_to s q
  list_same q le = ap (λ (h : List Entry). list_of s.before s.ceiling s.session h) (front q le)

  free_longer : (number block : ℕ) → IsFree s noted n number block → IsFree t noted n number block
  free_longer number block f = record {
    count = f.count;
    within = f.within;
    pnode = f.pnode;
    numbered = ap (λ l. number_of l f.pnode) (list_same f.count f.within) ∙ f.numbered;
    at = f.at;
    source = ap (λ (h : List Entry). row_source s.session h f.pnode block) (front f.count f.within) ∙ f.source;
    uncovered = f.uncovered;
  }

  pub waiting_longer : (m : Moment) (pool : Blocks) (unsynced : Bool) (since opened : ℕ) (syncs : List VaultSync)
      → IsWaiting s noted n m pool unsynced since opened (λ f b. is_dirty s.session (take n s.history) syncs f b ≡ false)
      → IsWaiting t noted n m pool unsynced since opened (λ f b. is_dirty t.session (take n t.history) syncs f b ≡ false)
  unfolding free_longer
  waiting_longer m pool unsynced since opened syncs old = record {
    pooled = λ i p at.
        let was = old.pooled i p at in
        record {
          free = free_longer p.0.number p.0.block was.free;
          bytes = was.bytes ∙ sym (ap (λ (h : List Entry). range p.0.block (file_after s.session h was.free.pnode)) (front was.free.count was.free.within));
        };
    handled = λ well number block d clean.
        let whole = front n (omega arith) in
        let e : IsDirty s noted n number block = record {
          pnode = d.pnode;
          numbered = ap (λ l. number_of l d.pnode) (sym (list_same n (omega arith))) ∙ d.numbered;
          limited = d.limited;
          at = d.at;
          dirtied = ap (λ (h : List Entry). dirtied_at s.session h d.pnode block) (sym whole) ∙ d.dirtied;
          uncovered = d.uncovered;
        } in
        subst (λ (h : List Entry). IsHandled m pool unsynced since number block (range block (file_after s.session h d.pnode))) (sym whole)
        (old.handled well number block e (ap (λ (h : List Entry). is_dirty s.session h syncs d.pnode block) (sym whole) ∙ clean));
  }

-- A file's sync
pub cleaned_other : (f : ℕ) (block : ℕ) (ss : List VaultSync) (y : VaultSync) → concerns (name role.Desk f) y && covers block y ≡ false → cleaned f block (ss ++ y ∷ []) ≡ cleaned f block ss
cleaned_other f block [] y not_ = ap (λ (b : Bool). max (if b then y.entries else 0) 0) not_
cleaned_other f block (s ∷ ss) y not_ = ap (max (if concerns (name role.Desk f) s && covers block s then s.entries else 0)) (cleaned_other f block ss y not_)

module _ (s : Story) (is : IsStory s) (noted : List Noted) (n : ℕ) (within : n ≤ length s.history) (number file calls : ℕ) (at_number : number_of (list_to s (length s.history)) file ≡ Some number)
    (x : Noted) (entries : x.entries ≡ n) (files : (k : ℕ) → x.files k ≡ (number == k)) (syncs : List VaultSync) (y : VaultSync) (concerned : (f block : ℕ) → (f ≡ file → ⊥) → concerns (name role.Desk f) y && covers block y ≡ false) where
  abbrev after : List Noted
  after = noted ++ x ∷ []

  -- what is dirty then is of another file, and was dirty
  other_dirty : (k block : ℕ) (d : IsDirty s after n k block) → (number ≡ k → ⊥) × IsDirty s noted n k block
  other_dirty k block d =
      let less = source_below s n d.pnode block d.at within (dirty_source s after n k block d) in
      let push = covered-push noted x k in (
        λ same. let reached : bound_of x k ≡ n = ap (λ (b : Bool). if b then x.entries else 0) (files k ∙ ap (λ (q : ℕ). number == q) (sym same) ∙ same_itself number) ∙ entries in
            omega (arith, d.uncovered, push, reached, less),
        record { pnode = d.pnode; numbered = d.numbered; limited = d.limited; at = d.at; dirtied = d.dirtied; uncovered = omega (arith, d.uncovered, push) },
      )

  module _ (m : Moment) (pool next : Blocks) (unsynced : Bool) (since opened : ℕ) (old : IsWaiting s noted n m pool unsynced since opened (λ f b. is_dirty s.session (take n s.history) syncs f b ≡ false))
      (kept : (i : ℕ) (p : Pair) → slice_get next.entries i ≡ Some p → ((j : ℕ) × (slice_get pool.entries j ≡ Some p)) × (number ≡ p.0.number → p.0.block < 1024 → ⊥))
      (others : (k block : ℕ) → (number ≡ k → ⊥) → staged_in next k block ≡ staged_in pool k block) where
    pooled_after : (i : ℕ) (p : Pair) → slice_get next.entries i ≡ Some p → IsPooled s after n p
    pooled_after i p at =
        let k = kept i p at in
        let was = old.pooled k.0.0 p k.0.1 in
        let limited = free_limited s is noted n within p.0.number p.0.block was.free in
        let none : bound_of x p.0.number ≡ 0 = by_test (number == p.0.number) refl limited k.1 in
        record {
          free = record {
            count = was.free.count;
            within = was.free.within;
            pnode = was.free.pnode;
            numbered = was.free.numbered;
            at = was.free.at;
            source = was.free.source;
            uncovered = let push = covered-push noted x p.0.number in let u = was.free.uncovered in omega (arith, push, none, u);
          };
          bytes = was.bytes;
        }
      where
        by_test : (b : Bool) → (number == p.0.number) ≡ b → p.0.block < 1024 → (number ≡ p.0.number → p.0.block < 1024 → ⊥) → bound_of x p.0.number ≡ 0
        by_test true same low not_ = absurd (not_ (same_numbers number p.0.number same) low)
        by_test false same low not_ = ap (λ (b : Bool). if b then x.entries else 0) (files p.0.number ∙ same)

    pub waiting_synced : (new : Moment) → new.tells ≡ m.tells → IsWell m unsynced opened
        → ((k block : ℕ) (bytes : List ℕ) → (number ≡ k → ⊥) → block < 1024 → length bytes ≤ 4096 → IsLanded m unsynced since k block bytes → IsLanded new false new.calls k block bytes)
        → IsWaiting s after n new next false new.calls opened (λ f b. is_dirty s.session (take n s.history) (syncs ++ y ∷ []) f b ≡ false)
    unfolding other_dirty
    waiting_synced new tells well lands = record {
      pooled = pooled_after;
      handled = λ _ k block d clean.
          let (apart, e) = other_dirty k block d in
          let not_file : d.pnode ≡ file → ⊥ = λ same. apart (some_is number k (sym at_number ∙ ap (number_of (list_to s (length s.history))) (sym same) ∙ number_later s n (length s.history) d.pnode k within d.numbered)) in
          let same = cleaned_other d.pnode block syncs y (concerned d.pnode block not_file) in
          let was = old.handled well k block e (ap (λ (c : ℕ). option_map_or (is_dirty_from c) (dirtied_at s.session (take n s.history) d.pnode block) false) (sym same) ∙ clean) in
          ⊎_elim (λ there. inl (others k block apart ∙ there))
          (λ gone. inr (others k block apart ∙ gone.0, lands k block (range_to s n d.pnode block) apart d.limited (range_short s noted n d.pnode block) gone.1)) was;
    }

-- the landed bytes, after other blocks were written and the store area was synced
pub lands_beside : (m new : Moment) (blocks : List Block) (number : ℕ) → All (λ x. x.number ≡ number) blocks → AreSized blocks → new.tells ≡ m.tells
    → (IsTrue m.tells → Beside blocks m.seen new.seen) → ((c : Image) → new.left_since new.calls c → c.store ≡ new.seen.store)
    → (unsynced : Bool) (since k block : ℕ) (bytes : List ℕ) → (number ≡ k → ⊥) → block < 1024 → length bytes ≤ 4096 → IsLanded m unsynced since k block bytes → IsLanded new false new.calls k block bytes
lands_beside m new blocks number own size tells beside whole unsynced since k block bytes apart low short was =
    let there : IsTrue m.tells → Holds (place k block) bytes new.seen.store = λ told. (beside told).stays (place k block) bytes
    (λ i x at. let sized = size i x at in
    places_apart k block x.number x.block (length bytes) (length x.bytes.now) low sized.0 (λ same_file same_block. apart (sym (same_file ∙ number_at number blocks i x own at))) short sized.1) (was.seen told) in
    record {
      seen = λ told. there (subst IsTrue tells told);
      each = λ _ told c left. subst (Holds (place k block) bytes) (sym (whole c left)) (there (subst IsTrue tells told));
    }

-- or with no device call
pub lands_idle : (m : Moment) (since k block : ℕ) (bytes : List ℕ) → since ≤ m.calls → ((t u : ℕ) (c : Image) → t ≤ u → m.left_since u c → m.left_since t c)
    → IsLanded m false since k block bytes → IsLanded m false m.calls k block bytes
lands_idle m since k block bytes low less was = record { seen = was.seen; each = λ same told c left. was.each same told c (less since m.calls c low left) }
