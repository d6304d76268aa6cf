-- What follows for each image that a crash leaves from what is kept.
use Rattle.std.proofs.Common.{◌≡◌, ◌⊎◌, ℕ, ◌<◌, ◌≤◌, List, [], ◌∷◌, ◌++◌, length, take, IsTrue, true, Some, inl, inr, ⊎_elim, sym, ◌∙◌, ap, subst, arith, length-append}
use Rattle.std.specs.Prelude.{slice_get, is_some}
use Rattle.std.proofs.lemmas.List.{take-append-le}
use Rattle.pass_entry.specs.declared.entry.Entry.{Entry}
use Rattle.pass_entry.specs.declared.record.Record.{Record}
use Rattle.pass_plain.specs.Records.{list_of}
use Rattle.pass_outside.specs.Areas.{Image}
use Rattle.pass_outside.specs.Moments.{Moment}
use Rattle.pass_plain.proofs.Replays.{le_or_ge}
use Rattle.pass_log.specs.declared.log.Log.{Log}
use Rattle.pass_range.specs.Places.{place, Holds}
use Rattle.pass_range.specs.Rows.{range, row_of, number_of, IsUnmatched}
use Rattle.pass_range.specs.Sources.{row_source}
use Rattle.pass_plain.specs.Files.{file_after}
use Rattle.pass_keep.specs.Kept.{Story, IsStory, list_to, source_to, range_to, HasRecords, AreKept, IsLeft, Noted, bound_of, covered, Every, IsKeptSince, IsKept}
use Rattle.pass_keep.proofs.Stories.{number_known, matched}
use Rattle.pass_keep.proofs.Keeping.{kept_same, kept_more, bound_le, bound_some, bound_same}

-- whatever number of entries the image is read as
left_any : (s : Story) → IsStory s → (least : ℕ) (bound : ℕ → ℕ) (c : Image) → IsLeft s least bound c → ((number : ℕ) → bound number ≤ least)
    → (n : ℕ) → n ≤ length s.history → HasRecords (list_to s n) c.log → AreKept s n bound c.store
left_any s is least bound c left low n within records = ⊎_elim
    (λ (le : n ≤ left.count). kept_same s left.count n c.log left.records records le left.within bound c.store left.kept)
    (λ (le : left.count ≤ n). kept_more s is n left.count le within bound (λ number. omega (arith, low number, left.enough)) c.store left.kept)
    (le_or_ge n left.count)

-- Since a sync: each range of its files whose row comes from an entry below it is matched, and has the bytes of the
-- image's entries.
pub range_matched : (s : Story) → IsStory s → (m : Moment) (durable : ℕ) (x : Noted) → IsKeptSince s m durable x → IsTrue m.tells
    → (c : Image) → m.left_since x.calls c → (n : ℕ) → n ≤ length s.history → HasRecords (list_to s n) c.log
    → (p b number k : ℕ) → x.files number ≡ true → number_of (list_to s n) p ≡ Some number → source_to s n p b ≡ Some k → k < x.entries
    → Holds (place number b) (range_to s n p b) c.store × (IsUnmatched (list_to s n) c.store p b → ⊥)
range_matched s is m durable x kept told c since n within records p b number k reached numbered from low =
    let all = left_any s is x.entries (bound_of x) c (kept.each told c since) (bound_le x) n within records in
    let held = all p b number k from numbered (bound_same x number k reached low) in
    (held, matched s is n p b k number from numbered c.store held)

-- the sync that covers an entry
module _ (P : Noted → Type 0) (number k : ℕ) where
  covering : (xs : List Noted) → k < covered xs number → Every P xs → (x : Noted) × P x × (k < bound_of x number)
  covering [] low all = absurd (omega (arith, low))
  covering (x ∷ xs) low all = ⊎_elim
      (λ (here : k < bound_of x number). (x, all.0, here))
      (λ (none : bound_of x number ≤ k). covering xs (omega (arith, low, none)) all.1)
      (lt_or k (bound_of x number))
    where
      lt_or : (a b : ℕ) → (a < b) ⊎ (b ≤ a)
      lt_or a b = grind arith

every_both : (P Q : Noted → Type 0) → (xs : List Noted) → Every P xs → Every Q xs → Every (λ x. P x × Q x) xs
every_both P Q [] h k = tt
every_both P Q (x ∷ xs) h k = ((h.0, k.0), every_both P Q xs h.1 k.1)

last_of : (P : Noted → Type 0) (xs : List Noted) (x : Noted) → Every P (xs ++ x ∷ []) → P x
last_of P [] x h = h.0
last_of P (y ∷ xs) x h = last_of P xs x h.1

-- Settled: at the last sync all entries are durable, and no block is dirty behind it. Since then each crash leaves all
-- entries, and no range whose row comes from one of them is unmatched.
pub settled : (s : Story) → IsStory s → (m : Moment) (log : Log) (durable : ℕ) (front : List Noted) (last : Noted) → IsKept s m log durable (front ++ last ∷ []) → IsTrue m.tells
    → ((t u : ℕ) (c : Image) → t ≤ u → m.left_since u c → m.left_since t c) → last.entries ≡ length s.history → Every (λ x. x.calls ≤ last.calls) (front ++ last ∷ [])
    → ((p b number k : ℕ) → source_to s (length s.history) p b ≡ Some k → number_of (list_to s (length s.history)) p ≡ Some number
    → (k < covered (front ++ last ∷ []) number) ⊎ ((c : Image) → m.left_since last.calls c → Holds (place number b) (range_to s (length s.history) p b) c.store))
    → (c : Image) → m.left_since last.calls c
    → HasRecords (list_to s (length s.history)) c.log
    × ((p b k : ℕ) → source_to s (length s.history) p b ≡ Some k → IsUnmatched (list_to s (length s.history)) c.store p b → ⊥)
settled s is m log durable front last kept told less whole ordered clean c since =
    let last_kept = last_of (IsKeptSince s m durable) front last kept.past in
    let left = last_kept.each told c since in
    let all : left.count ≡ length s.history = omega (arith, left.enough, left.within, whole) in
    let records : HasRecords (list_to s (length s.history)) c.log = subst (λ (n : ℕ). HasRecords (list_to s n) c.log) all left.records in (
      records,
      λ p b k from unmatched.
          let known = number_known s is (length s.history) p b k from in ⊎_elim
          (λ (low : k < covered (front ++ last ∷ []) known.0).
          let x = covering (λ y. IsKeptSince s m durable y × (y.calls ≤ last.calls)) known.0 k (front ++ last ∷ []) low
          (every_both (IsKeptSince s m durable) (λ y. y.calls ≤ last.calls) (front ++ last ∷ []) kept.past ordered) in
          let reached = bound_some x.0 known.0 k x.2 in
          (range_matched s is m durable x.0 x.1.0 told c (less x.0.calls last.calls c x.1.1 since) (length s.history) (omega arith) records p b known.0 k reached.0 known.1 from reached.1).1 unmatched)
          (λ (held : (c : Image) → m.left_since last.calls c → Holds (place known.0 b) (range_to s (length s.history) p b) c.store).
          matched s is (length s.history) p b k known.0 from known.1 c.store (held c since) unmatched)
          (clean p b known.0 k from known.1),
    )

-- A longer history: what is kept of a session is kept of it with more entries.
module _ (s : Story) (more : List Entry) where
  abbrev longer : Story
  longer = record s { history = s.history ++ more }

  front : (n : ℕ) → n ≤ length s.history → take n (s.history ++ more) ≡ take n s.history
  front n within = take-append-le n s.history more within

  list_front : (n : ℕ) → n ≤ length s.history → list_to longer n ≡ list_to s n
  list_front n within = ap (λ (h : List Entry). list_of s.before s.ceiling s.session h) (front n within)

  source_front : (n p b : ℕ) → n ≤ length s.history → source_to longer n p b ≡ source_to s n p b
  source_front n p b within = ap (λ (h : List Entry). row_source s.session h p b) (front n within)

  range_front : (n p b : ℕ) → n ≤ length s.history → range_to longer n p b ≡ range_to s n p b
  range_front n p b within = ap (λ (h : List Entry). range b (file_after s.session h p)) (front n within)

  left_longer : (least : ℕ) (bound : ℕ → ℕ) (c : Image) → IsLeft s least bound c → IsLeft longer least bound c
  left_longer least bound c left = record {
    count = left.count;
    enough = left.enough;
    within = omega (arith, left.within, length-append s.history more);
    records = subst (λ (l : List Record). HasRecords l c.log) (sym (list_front left.count left.within)) left.records;
    kept = λ p b number k from numbered low.
        subst (λ (l : List ℕ). Holds (place number b) l c.store) (sym (range_front left.count p b left.within))
        (left.kept p b number k (sym (source_front left.count p b left.within) ∙ from)
        (ap (λ (l : List Record). number_of l p) (sym (list_front left.count left.within)) ∙ numbered) low);
    older = λ p b number row none numbered.
        left.older p b number (ap (λ (l : List Record). is_some (row_of l p b)) (sym (list_front left.count left.within)) ∙ row)
        (sym (source_front left.count p b left.within) ∙ none) (ap (λ (l : List Record). number_of l p) (sym (list_front left.count left.within)) ∙ numbered);
  }

  every_longer : (m : Moment) (durable : ℕ) (xs : List Noted) → Every (IsKeptSince s m durable) xs → Every (IsKeptSince longer m durable) xs
  every_longer m durable [] h = tt
  every_longer m durable (x ∷ xs) h =
      (record { earlier = h.0.earlier; fewer = h.0.fewer; each = λ told c since. left_longer x.entries (bound_of x) c (h.0.each told c since) }, every_longer m durable xs h.1)

  pub kept_longer : (m : Moment) (log : Log) (durable : ℕ) (xs : List Noted) → IsKept s m log durable xs → IsKept longer m log durable xs
  kept_longer m log durable xs kept = record {
    settled = kept.settled;
    within = omega (arith, kept.within, length-append s.history more);
    reads = λ told healthy going. subst (λ (l : List Record). HasRecords l m.seen.log) (sym (list_front durable kept.within)) (kept.reads told healthy going);
    present = λ told c since. left_longer durable (covered xs) c (kept.present told c since);
    past = every_longer m durable xs kept.past;
    rising = kept.rising;
    begun = record {
      earlier = kept.begun.earlier;
      each = λ told c since. ⊎_elim (λ before. inl (record { records = before.records; store = before.store })) (λ left. inr (left_longer 0 (λ number. 0) c left)) (kept.begun.each told c since);
    };
  }
