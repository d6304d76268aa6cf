-- A session begins on a disk.
use Rattle.std.proofs.Common.{◌≡◌, ℕ, ◌+◌, ◌≤◌, List, [], length, IsTrue, Result, Ok, inl, inr, ⊎_elim, sym, ◌∙◌, ap, arith}
use Rattle.pass_entry.specs.declared.record.Record.{Record}
use Rattle.std.proofs.lemmas.List.{append-nil}
use Rattle.pass_plain.specs.WellLogged.{ceiling_of}
use Rattle.pass_plain.specs.Ceilings.{ceilings_between, raised}
use Rattle.pass_outside.specs.Areas.{Image}
use Rattle.pass_outside.specs.Moments.{Moment, Adds, AfterStep, Follows}
use Rattle.pass_log.specs.declared.log.Log.{Log}
use Rattle.pass_log.specs.declared.fault.LogFault.{LogFault}
use Rattle.pass_log.specs.declared.image.LogImage.{LogImage}
use Rattle.pass_log.specs.LogImage.{IsRead}
use Rattle.pass_log.specs.Records.{Held, image_of, with_batch, IsOldOrBoth, spellings}
use Rattle.pass_log.specs.Log.{IsSettled, SameStore}
use Rattle.pass_keep.specs.Kept.{Story, list_to, HasRecords, IsLeft, IsBefore, IsUnwritten, IsBegun, IsKept}
use Rattle.pass_keep.proofs.Older.{older_first}
use Rattle.pass_keep.proofs.Keeping.{adds_and, records_same}

-- what was read of the log
pub has_before : (s : Story) (m : Moment) (image : LogImage) → IsRead m image → s.before ≡ image.list.items → IsTrue m.tells → HasRecords s.before m.seen.log
has_before s m image read before told = record {
  place = image.end;
  is = ap image_of (sym (read.1 told)) ∙ read.2.holds ∙ ap (λ (l : List Record). held_at l image.end) (sym before);
}
  where
    held_at : List Record → ℕ → Result Held LogFault
    held_at l n = Ok (record { list = l; end = n })

-- those that raise the ceiling
abbrev pub raises : Story → List Record
raises s = ceilings_between (ceiling_of s.before) s.ceiling

-- the records before, and these behind them
with_raises : (s : Story) (old new : List ℕ) → HasRecords s.before old → image_of new ≡ with_batch (raises s) (image_of old) → HasRecords (list_to s 0) new
with_raises s old new has after = record {
  place = has.place + 5 + length (spellings (raises s));
  is = after ∙ ap (with_batch (raises s)) has.is ∙ ap (λ (l : List Record). held_at l (has.place + 5 + length (spellings (raises s)))) (sym (append-nil (raised s.before s.ceiling)));
}
  where
    held_at : List Record → ℕ → Result Held LogFault
    held_at l n = Ok (record { list = l; end = n })

left_none : (s : Story) (bound : ℕ → ℕ) → ((number : ℕ) → bound number ≡ 0) → (c : Image) → HasRecords (list_to s 0) c.log → c.store ≡ s.store → IsLeft s 0 bound c
left_none s bound none c has same = record {
  count = 0;
  enough = omega arith;
  within = omega arith;
  records = has;
  kept = λ p b number k from numbered low. absurd (omega (arith, low, none number));
  older = older_first s 0 c.store same;
}

module _ (s : Story) (old mid : Moment) (start : s.start ≤ old.calls) (before : IsTrue old.tells → HasRecords s.before old.seen.log) (unwritten : IsUnwritten s old)
    (counts : (c : Image) → old.may_leave c → old.left_since s.start c) (tells : mid.tells ≡ old.tells) (adds : IsTrue old.tells → Adds old mid (λ c. image_of c.log ≡ image_of old.seen.log))
    (stores : Adds old mid (AfterStep SameStore old)) (follows : Follows SameStore old mid) where
  -- an image from before the session's first call, after steps that leave its store area
  stood : IsTrue old.tells → (c : Image) → AfterStep SameStore old c → c.store ≡ s.store
  stood told c from = from.2 ∙ (unwritten told from.0 (counts from.0 from.1)).1

  still : IsTrue old.tells → (c : Image) → mid.left_since s.start c → IsBefore s c
  still told c left = ⊎_elim
      (λ was. let both = unwritten told c was in record { records = records_same s.before old.seen.log c.log (ap image_of both.0) (before told); store = both.1 })
      (λ made. record { records = records_same s.before old.seen.log c.log made.0 (before told); store = stood told c made.1 })
      ((adds_and (λ c. image_of c.log ≡ image_of old.seen.log) (AfterStep SameStore old) old mid (adds told) stores).nothing_else s.start c start left)

  pub begun_open : IsBegun s mid
  begun_open = record { earlier = omega (arith, start, stores.later); each = λ told c left. inl (still (sym tells ∙ told) c left) }

  module _ (same : IsTrue old.tells → image_of mid.seen.log ≡ image_of old.seen.log) (new : Moment) (tells_new : new.tells ≡ mid.tells)
      (any : IsTrue mid.tells → Adds mid new (λ c. IsOldOrBoth (raises s) (image_of mid.seen.log) (image_of c.log)))
      (stores_new : Adds mid new (AfterStep SameStore mid)) (follows_new : Follows SameStore mid new) where
    has_mid : IsTrue old.tells → HasRecords s.before mid.seen.log
    has_mid told = records_same s.before old.seen.log mid.seen.log (same told) (before told)

    stood_mid : IsTrue old.tells → (c : Image) → AfterStep SameStore mid c → c.store ≡ s.store
    stood_mid told c from = from.2 ∙ stood told from.0 (follows from.0 from.1)

    pub begun_append : IsBegun s new
    begun_append = record {
      earlier = omega (arith, start, stores.later, stores_new.later);
      each = λ told c left.
          let told_mid : IsTrue mid.tells = sym tells_new ∙ told in
          let told_old : IsTrue old.tells = sym tells ∙ told_mid in
          ⊎_elim (λ was. inl (still told_old c was))
          (λ made. ⊎_elim
          (λ as_before. inl (record { records = records_same s.before mid.seen.log c.log as_before (has_mid told_old); store = stood_mid told_old c made.1 }))
          (λ after. inr (left_none s (λ number. 0) (λ number. omega arith) c (with_raises s mid.seen.log c.log (has_mid told_old) after) (stood_mid told_old c made.1))) made.0)
          ((adds_and (λ c. IsOldOrBoth (raises s) (image_of mid.seen.log) (image_of c.log)) (AfterStep SameStore mid) mid new (any told_mid) stores_new).nothing_else
          s.start c (omega (arith, start, stores.later)) left);
    }

    pub kept_begun : (log_new : Log) → IsSettled log_new new → (IsTrue mid.tells → image_of new.seen.log ≡ with_batch (raises s) (image_of mid.seen.log))
        → (IsTrue mid.tells → (c : Image) → new.may_leave c → image_of c.log ≡ with_batch (raises s) (image_of mid.seen.log))
        → ((c : Image) → new.left_since new.calls c → new.may_leave c) → IsKept s new log_new 0 []
    kept_begun log_new settled reads acknowledged present = record {
      settled = settled;
      within = omega arith;
      reads = λ told healthy going. let told_mid : IsTrue mid.tells = sym tells_new ∙ told in
          with_raises s mid.seen.log new.seen.log (has_mid (sym tells ∙ told_mid)) (reads told_mid);
      present = λ told c left.
          let told_mid : IsTrue mid.tells = sym tells_new ∙ told in
          let told_old : IsTrue old.tells = sym tells ∙ told_mid in
          let may = present c left in
          left_none s (λ number. 0) (λ number. omega arith) c (with_raises s mid.seen.log c.log (has_mid told_old) (acknowledged told_mid c may)) (stood_mid told_old c (follows_new c may));
      past = tt;
      rising = λ i j x y less one two. absurd (cc);
      begun = begun_append;
    }
