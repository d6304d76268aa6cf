-- What a frame more, or a run of calls that leaves the log alone, leaves of what was kept.
use Rattle.std.proofs.Common.{◌≡◌, ◌⊎◌, ℕ, zero, suc, ◌+◌, ◌<◌, ◌≤◌, max, if◌then◌else◌, List, [], ◌∷◌, ◌++◌, length, map, IsTrue, Bool, true, false, Some, Result, Ok, Err, inl, inr, ⊎_elim, refl, sym, ◌∙◌, ap, subst, arith, append_assoc, length-append}
use Rattle.std.specs.Prelude.{slice_get}
use Rattle.std.proofs.lemmas.List.{append-nil, nil_from_length, map-append}
use Rattle.pass_entry.specs.declared.entry.Synced.{Synced}
use Rattle.pass_entry.specs.declared.record.Record.{Record}
use Rattle.pass_plain.specs.Ceilings.{raised}
use Rattle.pass_outside.specs.Areas.{Image}
use Rattle.pass_outside.specs.Moments.{Moment, IsAtEnd, Adds, AfterStep, Follows}
use Rattle.pass_plain.proofs.Appends.{place_of}
use Rattle.pass_plain.proofs.Lists.{some_is}
use Rattle.pass_plain.proofs.Replays.{le_or_ge}
use Rattle.pass_log.specs.declared.fault.LogFault.{LogFault}
use Rattle.pass_log.specs.declared.log.Log.{Log}
use Rattle.pass_log.specs.Records.{Held, image_of, with_batch, IsOldOrBoth, spellings}
use Rattle.pass_log.specs.Log.{IsSettled, SameStore}
use Rattle.pass_range.specs.Places.{place, Holds}
use Rattle.pass_range.specs.Rows.{number_of}
use Rattle.pass_keep.specs.Kept.{Story, IsStory, records_to, list_to, source_to, HasRecords, AreKept, IsLeft, IsBegun, Noted, bound_of, covered, Every, IsKeptSince, IsKept, AreOlder, AreRising, synced_of}
use Rattle.pass_keep.proofs.Older.{older_same, older_more}
use Rattle.pass_keep.proofs.Stories.{records_more, number_later, source_earlier, source_same, list_same, number_known, source_below}

-- Bounds

pub bound_le : (x : Noted) (number : ℕ) → bound_of x number ≤ x.entries
bound_le x number = by_test (x.files number)
  where
    by_test : (t : Bool) → (if t then x.entries else 0) ≤ x.entries
    by_test true = omega arith
    by_test false = omega arith

-- a sync covers what it does of the files that it is for
pub bound_some : (x : Noted) (number k : ℕ) → k < bound_of x number → (x.files number ≡ true) × (k < x.entries)
bound_some x number k low = by_test (x.files number) refl low
  where
    by_test : (t : Bool) → x.files number ≡ t → k < (if t then x.entries else 0) → (x.files number ≡ true) × (k < x.entries)
    by_test true is low = (is, low)
    by_test false is low = absurd (omega (arith, low))

pub bound_same : (x : Noted) (number k : ℕ) → x.files number ≡ true → k < x.entries → k < bound_of x number
bound_same x number k is low = subst (λ (t : Bool). k < (if t then x.entries else 0)) (sym is) low

pub covered-push : (xs : List Noted) (x : Noted) (number : ℕ) → covered (xs ++ x ∷ []) number ≡ max (covered xs number) (bound_of x number)
covered-push [] x number = omega arith
covered-push (y ∷ xs) x number = omega (arith, covered-push xs x number)

pub covered_le : (s : Story) (m : Moment) (durable : ℕ) (xs : List Noted) (number : ℕ) → Every (IsKeptSince s m durable) xs → covered xs number ≤ durable
covered_le s m durable [] number h = omega arith
covered_le s m durable (x ∷ xs) number h = omega (arith, bound_le x number, h.0.fewer, covered_le s m durable xs number h.1)

pub every_push : (P : Noted → Type 0) (xs : List Noted) (x : Noted) → Every P xs → P x → Every P (xs ++ x ∷ [])
every_push P [] x h p = (p, tt)
every_push P (y ∷ xs) x h p = (h.0, every_push P xs x h.1 p)

pub every_each : (P Q : Noted → Type 0) → ((x : Noted) → P x → Q x) → (xs : List Noted) → Every P xs → Every Q xs
every_each P Q more [] h = tt
every_each P Q more (x ∷ xs) h = (more x h.0, every_each P Q more xs h.1)

-- Syncs as they are handed out

pub mapped_all : (P : Synced → Type 0) (xs : List Noted) → Every (λ x. P (synced_of x)) xs → (i : ℕ) (y : Synced) → slice_get (map synced_of xs) i ≡ Some y → P y
mapped_all P [] h i y is = absurd (cc)
mapped_all P (x ∷ xs) h zero y is = subst P (some_is (synced_of x) y is) h.0
mapped_all P (x ∷ xs) h (suc i) y is = mapped_all P xs h.1 i y is

rising_push : (xs : List Synced) (x : Synced) → AreRising xs → ((i : ℕ) (y : Synced) → slice_get xs i ≡ Some y → (y.calls ≤ x.calls) × (y.entries ≤ x.entries)) → AreRising (xs ++ x ∷ [])
rising_push xs x rising low = λ i j a b less one two. ⊎_elim
    (λ (second : (slice_get xs j ≡ Some b) × (j < length xs)). ⊎_elim
    (λ (first : (slice_get xs i ≡ Some a) × (i < length xs)). rising i j a b less first.0 second.0)
    (λ (first : (i ≡ length xs) × (x ≡ a)). absurd (omega (arith, first.0, second.1, less)))
    (place_of xs x i a one))
    (λ (second : (j ≡ length xs) × (x ≡ b)). ⊎_elim
    (λ (first : (slice_get xs i ≡ Some a) × (i < length xs)). subst (λ (z : Synced). (a.calls ≤ z.calls) × (a.entries ≤ z.entries)) second.1 (low i a first.0))
    (λ (first : (i ≡ length xs) × (x ≡ a)). absurd (omega (arith, first.0, second.0, less)))
    (place_of xs x i a one))
    (place_of xs x j b two)

pub left_weaker : (s : Story) (a b : ℕ) (f g : ℕ → ℕ) (c : Image) → b ≤ a → ((number : ℕ) → g number ≤ f number) → IsLeft s a f c → IsLeft s b g c
left_weaker s a b f g c le low left = record {
  count = left.count;
  enough = omega (arith, le, left.enough);
  within = left.within;
  records = left.records;
  kept = λ p block number k from numbered below. left.kept p block number k from numbered (omega (arith, below, low number));
  older = left.older;
}

-- what a run adds has both properties
pub adds_and : (P Q : Image → Type 0) (old new : Moment) → Adds old new P → Adds old new Q → Adds old new (λ c. P c × Q c)
adds_and P Q old new one two = record {
  later = one.later;
  nothing_else = λ t c le since. ⊎_elim inl (λ a. ⊎_elim inl (λ b. inr (a, b)) (two.nothing_else t c le since)) (one.nothing_else t c le since);
}

-- A run of calls: each image that it adds has what was kept.
module _ (s : Story) (old new : Moment) (P : Image → Type 0) (tells : new.tells ≡ old.tells) (adds : IsTrue old.tells → Adds old new P) (later : old.calls ≤ new.calls)
    (durable : ℕ) (bound : ℕ → ℕ) (left : IsTrue old.tells → (c : Image) → P c → IsLeft s durable bound c) where
  since_on : (x : Noted) (more : ℕ) → durable ≤ more → ((number : ℕ) → bound_of x number ≤ bound number) → IsKeptSince s old durable x → IsKeptSince s new more x
  since_on x more le low kept = record {
    earlier = omega (arith, kept.earlier, later);
    fewer = omega (arith, kept.fewer, le);
    each = λ told c since.
        let told_old : IsTrue old.tells = sym tells ∙ told in
        ⊎_elim (λ before. kept.each told_old c before) (λ added. left_weaker s durable x.entries bound (bound_of x) c kept.fewer low (left told_old c added))
        ((adds told_old).nothing_else x.calls c kept.earlier since);
  }

  pub every_on : (more : ℕ) → durable ≤ more → (xs : List Noted) → ((number : ℕ) → covered xs number ≤ bound number) → Every (IsKeptSince s old durable) xs → Every (IsKeptSince s new more) xs
  every_on more le [] low h = tt
  every_on more le (x ∷ xs) low h = (since_on x more le (λ number. omega (arith, low number)) h.0, every_on more le xs (λ number. omega (arith, low number)) h.1)

  pub present_on : ((t u : ℕ) (c : Image) → t ≤ u → new.left_since u c → new.left_since t c) → (IsTrue old.tells → (c : Image) → old.left_since old.calls c → IsLeft s durable bound c)
      → IsTrue new.tells → (c : Image) → new.left_since new.calls c → IsLeft s durable bound c
  present_on less was told c since =
      let told_old : IsTrue old.tells = sym tells ∙ told in
      ⊎_elim (λ before. was told_old c before) (λ added. left told_old c added)
      ((adds told_old).nothing_else old.calls c (omega arith) (less old.calls new.calls c later since))

  pub begun_on : IsBegun s old → IsBegun s new
  begun_on begun = record {
    earlier = omega (arith, begun.earlier, later);
    each = λ told c since.
        let told_old : IsTrue old.tells = sym tells ∙ told in
        ⊎_elim (λ before. begun.each told_old c before) (λ added. inr (left_weaker s durable 0 bound (λ number. 0) c (omega arith) (λ number. omega arith) (left told_old c added)))
        ((adds told_old).nothing_else s.start c begun.earlier since);
  }

-- a sync is noted
pub noted_more : (s : Story) (m : Moment) (log : Log) (durable : ℕ) (xs : List Noted) (files : ℕ → Bool) → IsKept s m log durable xs
    → (IsTrue m.tells → (c : Image) → m.left_since m.calls c → IsLeft s durable (covered (xs ++ record { calls = m.calls; entries = durable; files = files } ∷ [])) c)
    → IsKept s m log durable (xs ++ record { calls = m.calls; entries = durable; files = files } ∷ [])
noted_more s m log durable xs files kept present =
    let x : Noted = record { calls = m.calls; entries = durable; files = files } in
    record {
      settled = kept.settled;
      within = kept.within;
      reads = kept.reads;
      present = present;
      begun = kept.begun;
      rising = subst AreRising (sym (map-append synced_of xs (x ∷ []))) (rising_push (map synced_of xs) (synced_of x) kept.rising
          (mapped_all (λ y. (y.calls ≤ m.calls) × (y.entries ≤ durable)) xs (every_each (IsKeptSince s m durable) (λ y. (y.calls ≤ m.calls) × (y.entries ≤ durable)) (λ y h. (h.earlier, h.fewer)) xs kept.past)));
      past = every_push (IsKeptSince s m durable) xs x kept.past (record {
        earlier = omega arith;
        fewer = omega arith;
        each = λ told c since. left_weaker s durable durable (covered (xs ++ x ∷ [])) (bound_of x) c (omega arith) (λ number. omega (arith, covered-push xs x number)) (present told c since);
      });
    }

-- one for no file
pub noted_alone : (s : Story) (m : Moment) (log : Log) (durable : ℕ) (xs : List Noted) → IsKept s m log durable xs
    → IsKept s m log durable (xs ++ record { calls = m.calls; entries = durable; files = λ number. false } ∷ [])
noted_alone s m log durable xs kept =
    let x : Noted = record { calls = m.calls; entries = durable; files = λ number. false } in
    noted_more s m log durable xs (λ number. false) kept
    (λ told c since. left_weaker s durable durable (covered xs) (covered (xs ++ x ∷ [])) c (omega arith) (λ number. omega (arith, covered-push xs x number)) (kept.present told c since))

-- Prefixes of a log

list_in : Result Held LogFault → List Record
list_in (Ok found) = found.list
list_in (Err e) = []

pub one_list : (xs ys : List Record) (log : List ℕ) → HasRecords xs log → HasRecords ys log → xs ≡ ys
unfolding list_in
one_list xs ys log one two = ap list_in (sym one.is ∙ two.is)

-- two prefixes of one log have the same rows and ranges
pub kept_same : (s : Story) (n q : ℕ) (log : List ℕ) → HasRecords (list_to s n) log → HasRecords (list_to s q) log → q ≤ n → n ≤ length s.history
    → (bound : ℕ → ℕ) (store : List ℕ) → AreKept s n bound store → AreKept s q bound store
kept_same s n q log one two le within bound store kept = λ p b number k from numbered low.
    let lists : list_to s n ≡ list_to s q = one_list (list_to s n) (list_to s q) log one two in
    let from_n : source_to s n p b ≡ Some k = source_same s q n p b le within lists ∙ from in
    let numbered_n : number_of (list_to s n) p ≡ Some number = ap (λ (l : List Record). number_of l p) lists ∙ numbered in
    let below : k < q = source_below s q p b k (omega (arith, le, within)) from in
    subst (λ (l : List ℕ). Holds (place number b) l store) (source_earlier s n q p b k within from_n below le).1 (kept p b number k from_n numbered_n low)

-- and what was kept of the first entries is kept of more
pub kept_more : (s : Story) → IsStory s → (n q : ℕ) → q ≤ n → n ≤ length s.history → (bound : ℕ → ℕ) → ((number : ℕ) → bound number ≤ q) → (store : List ℕ)
    → AreKept s q bound store → AreKept s n bound store
kept_more s is n q le within bound low store kept = λ p b number k from numbered below.
    let before : k < q = omega (arith, below, low number) in
    let both = source_earlier s n q p b k within from before le in
    let known = number_known s is q p b k both.0 in
    let same : known.0 ≡ number = some_is known.0 number (sym (number_later s q n p known.0 le known.1) ∙ numbered) in
    let numbered_q : number_of (list_to s q) p ≡ Some number = known.1 ∙ ap (λ (i : ℕ). Some i) same in
    subst (λ (l : List ℕ). Holds (place number b) l store) (sym both.1) (kept p b number k both.0 numbered_q below)

pub records_same : (list : List Record) (old new : List ℕ) → image_of new ≡ image_of old → HasRecords list old → HasRecords list new
records_same list old new same has = record { place = has.place; is = same ∙ has.is }

-- one frame more
pub records_after : (s : Story) (n upto : ℕ) (batch : List Record) (old new : List ℕ) → records_to s upto ≡ records_to s n ++ batch
    → image_of new ≡ with_batch batch (image_of old) → HasRecords (list_to s n) old → HasRecords (list_to s upto) new
records_after s n upto batch old new records same has =
    let lists : list_to s n ++ batch ≡ list_to s upto =
    append_assoc (raised s.before s.ceiling) (records_to s n) batch ∙ ap (λ (l : List Record). raised s.before s.ceiling ++ l) (sym records) in
    record {
      place = has.place + 5 + length (spellings batch);
      is = same ∙ ap (with_batch batch) has.is ∙ ap (λ (l : List Record). held_at l (has.place + 5 + length (spellings batch))) lists;
    }
  where
    held_at : List Record → ℕ → Result Held LogFault
    held_at l n = Ok (record { list = l; end = n })

-- A frame of the records of more entries
module _ (s : Story) (is : IsStory s) (m : Moment) (log : Log) (durable : ℕ) (xs : List Noted) (kept : IsKept s m log durable xs) (counts : (c : Image) → m.may_leave c → m.left_since m.calls c)
    (batch : List Record) (upto : ℕ) (later : durable ≤ upto) (within : upto ≤ length s.history) (records : records_to s upto ≡ records_to s durable ++ batch) where
  bounded : (number : ℕ) → covered xs number ≤ durable
  bounded number = covered_le s m durable xs number kept.past

  module _ (told : IsTrue m.tells) (healthy : m.faults ≡ log.opened) (going : IsAtEnd m → ⊥) where
    reads : HasRecords (list_to s durable) m.seen.log
    reads = kept.reads told healthy going

    stores : (d : Image) → m.may_leave d → AreKept s durable (covered xs) d.store
    stores d may =
        let left = kept.present told d (counts d may) in
        let only : image_of d.log ≡ image_of m.seen.log = ap image_of ((kept.settled.stands told healthy going).only d may) in
        kept_same s left.count durable d.log left.records (records_same (list_to s durable) m.seen.log d.log only reads) left.enough left.within (covered xs) d.store left.kept

    olders : (d : Image) → m.may_leave d → AreOlder s durable d.store
    olders d may =
        let left = kept.present told d (counts d may) in
        let only : image_of d.log ≡ image_of m.seen.log = ap image_of ((kept.settled.stands told healthy going).only d may) in
        let lists : list_to s left.count ≡ list_to s durable =
        one_list (list_to s left.count) (list_to s durable) d.log left.records (records_same (list_to s durable) m.seen.log d.log only reads) in
        older_same s left.count durable lists left.enough left.within d.store left.older

    before_left : (c : Image) → AfterStep SameStore m c → image_of c.log ≡ image_of m.seen.log → IsLeft s durable (covered xs) c
    before_left c from same = record {
      count = durable;
      enough = omega arith;
      within = kept.within;
      records = records_same (list_to s durable) m.seen.log c.log same reads;
      kept = subst (AreKept s durable (covered xs)) (sym from.2) (stores from.0 from.1);
      older = subst (AreOlder s durable) (sym from.2) (olders from.0 from.1);
    }

    after_left : (c : Image) → AfterStep SameStore m c → image_of c.log ≡ with_batch batch (image_of m.seen.log) → IsLeft s upto (covered xs) c
    after_left c from same = record {
      count = upto;
      enough = omega arith;
      within = within;
      records = records_after s durable upto batch m.seen.log c.log records same reads;
      kept = kept_more s is upto durable later within (covered xs) bounded c.store (subst (AreKept s durable (covered xs)) (sym from.2) (stores from.0 from.1));
      older = older_more s is upto durable later c.store (subst (AreOlder s durable) (sym from.2) (olders from.0 from.1));
    }

    either_left : (c : Image) → IsOldOrBoth batch (image_of m.seen.log) (image_of c.log) × AfterStep SameStore m c → IsLeft s durable (covered xs) c
    either_left c x = ⊎_elim (λ same. before_left c x.1 same)
        (λ after. left_weaker s upto durable (covered xs) (covered xs) c later (λ number. omega arith) (after_left c x.1 after)) x.0

  -- what the log's call says
  module _ (new : Moment) (tells : new.tells ≡ m.tells) (less : (t u : ℕ) (c : Image) → t ≤ u → new.left_since u c → new.left_since t c)
      (any : IsTrue m.tells → Adds m new (λ c. IsOldOrBoth batch (image_of m.seen.log) (image_of c.log))) (store : Adds m new (AfterStep SameStore m))
      (healthy : m.faults ≡ log.opened) (going : IsAtEnd m → ⊥) where
    abbrev Made : Image → Type 0
    Made c = IsOldOrBoth batch (image_of m.seen.log) (image_of c.log) × AfterStep SameStore m c

    both : IsTrue m.tells → Adds m new Made
    both told = adds_and (λ c. IsOldOrBoth batch (image_of m.seen.log) (image_of c.log)) (AfterStep SameStore m) m new (any told) store

    pub frame_failed : IsSettled log new → ((m.faults < new.faults) ⊎ IsAtEnd new) → IsKept s new log durable xs
    frame_failed settled bad = record {
      settled = settled;
      within = kept.within;
      rising = kept.rising;
      begun = begun_on s m new Made tells both store.later durable (covered xs) (λ told c x. either_left told healthy going c x) kept.begun;
      reads = λ told same not_end. ⊎_elim (λ rose. absurd (omega (arith, rose, same, healthy))) (λ ended. absurd (not_end ended)) bad;
      present = present_on s m new Made tells both store.later durable (covered xs) (λ told c x. either_left told healthy going c x) less kept.present;
      past = every_on s m new Made tells both store.later durable (covered xs) (λ told c x. either_left told healthy going c x) durable (omega arith) xs (λ number. omega arith) kept.past;
    }

    pub frame_done : (log_new : Log) → IsSettled log_new new → (IsTrue m.tells → image_of new.seen.log ≡ with_batch batch (image_of m.seen.log))
        → (IsTrue m.tells → (c : Image) → new.may_leave c → image_of c.log ≡ with_batch batch (image_of m.seen.log)) → Follows SameStore m new
        → ((c : Image) → new.left_since new.calls c → new.may_leave c) → IsKept s new log_new upto xs
    frame_done log_new settled_new reads_new acknowledged follows present = record {
      settled = settled_new;
      within = within;
      rising = kept.rising;
      begun = begun_on s m new Made tells both store.later durable (covered xs) (λ told c x. either_left told healthy going c x) kept.begun;
      reads = λ told same not_end. let told_old : IsTrue m.tells = sym tells ∙ told in
          records_after s durable upto batch m.seen.log new.seen.log records (reads_new told_old) (reads told_old healthy going);
      present = λ told c since. let told_old : IsTrue m.tells = sym tells ∙ told in let may = present c since in
          after_left told_old healthy going c (follows c may) (acknowledged told_old c may);
      past = every_on s m new Made tells both store.later durable (covered xs) (λ told c x. either_left told healthy going c x) upto later xs (λ number. omega arith) kept.past;
    }

-- no call: more entries are durable, which have no records
pub more_without_records : (s : Story) → IsStory s → (m : Moment) (log : Log) (durable : ℕ) (xs : List Noted) → IsKept s m log durable xs → (upto : ℕ) → durable ≤ upto → upto ≤ length s.history
    → records_to s upto ≡ records_to s durable → IsKept s m log upto xs
more_without_records s is m log durable xs kept upto later within records =
    record {
      settled = kept.settled;
      within = within;
      rising = kept.rising;
      begun = kept.begun;
      reads = λ told same going. subst (λ (l : List Record). HasRecords l m.seen.log) (sym (list_same s durable upto records)) (kept.reads told same going);
      present = λ told c since. longer c (kept.present told c since);
      past = every_on s m m (λ c. ⊥) refl (λ told. record { later = omega arith; nothing_else = λ t c le x. inl x }) (omega arith) durable (covered xs) (λ told c none. absurd none) upto later xs (λ number. omega arith) kept.past;
    }
  where
    longer : (c : Image) → IsLeft s durable (covered xs) c → IsLeft s upto (covered xs) c
    longer c left = ⊎_elim
        (λ (le : upto ≤ left.count). record { count = left.count; enough = le; within = left.within; records = left.records; kept = left.kept; older = left.older })
        (λ (le : left.count ≤ upto).
        let one = records_more s left.count upto le in
        let two = records_more s durable left.count left.enough in
        let none : one.0 ≡ [] = nil_from_length one.0 (omega (arith, ap length one.1, ap length two.1, ap length records, length-append (records_to s left.count) one.0, length-append (records_to s durable) two.0)) in
        let same : records_to s upto ≡ records_to s left.count = one.1 ∙ ap (λ (l : List Record). records_to s left.count ++ l) none ∙ append-nil (records_to s left.count) in
        record {
          count = upto;
          enough = omega arith;
          within = within;
          records = subst (λ (l : List Record). HasRecords l c.log) (sym (list_same s left.count upto same)) left.records;
          kept = kept_more s is upto left.count le within (covered xs) (λ number. omega (arith, covered_le s m durable xs number kept.past, left.enough)) c.store left.kept;
          older = older_more s is upto left.count le c.store left.older;
        })
        (le_or_ge upto left.count)

fewer_entries : (s : Story) (old new : Moment) (durable mid : ℕ) (xs : List Noted) → Every (IsKeptSince s old durable) xs → Every (IsKeptSince s new mid) xs → Every (IsKeptSince s new durable) xs
fewer_entries s old new durable mid [] one two = tt
fewer_entries s old new durable mid (x ∷ xs) one two =
    (record { earlier = two.0.earlier; fewer = one.0.fewer; each = two.0.each }, fewer_entries s old new durable mid xs one.1 two.1)

-- after a fault it does no harm to count fewer entries as durable
pub kept_fewer : (s : Story) (old new : Moment) (log : Log) (durable mid : ℕ) (xs : List Noted) → Every (IsKeptSince s old durable) xs → durable ≤ mid
    → (new.faults ≡ log.opened → (IsAtEnd new → ⊥) → ⊥) → IsKept s new log mid xs → IsKept s new log durable xs
kept_fewer s old new log durable mid xs was le bad kept = record {
  settled = kept.settled;
  within = omega (arith, le, kept.within);
  reads = λ told same going. absurd (bad same going);
  present = λ told c since. left_weaker s mid durable (covered xs) (covered xs) c le (λ number. omega arith) (kept.present told c since);
  past = fewer_entries s old new durable mid xs was kept.past;
  rising = kept.rising;
  begun = kept.begun;
}
