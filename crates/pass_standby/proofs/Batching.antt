-- How the records of a frame are read and judged one after another.
use Rattle.std.proofs.Common.{◌≡◌, ℕ, ◌+◌, ◌<◌, List, [], ◌∷◌, ◌++◌, length, drop, Result, Ok, Err, refl, sym, ◌∙◌, ap, subst, arith, append_assoc, length-append}
use Rattle.std.specs.Prelude.{true, is_some, Option, Some, None}
use Rattle.std.specs.Option.{option_map_or}
use Rattle.std.specs.List.{All}
use Rattle.std.proofs.lemmas.List.{append-nil}
use Rattle.std.proofs.lemmas.List.Elements.{All-push}
use Rattle.pass_entry.specs.declared.record.Record.{Record}
use Rattle.pass_entry.specs.declared.record.FlawReason.{FlawReason}
use Rattle.pass_entry.specs.Lengths.{record_length}
use Rattle.pass_entry.specs.Ranges.{IsInRange}
use Rattle.pass_entry.proofs.Variants.{no_first}
use Rattle.pass_graph.specs.declared.logged.Logged.{Logged}
use Rattle.pass_graph.specs.Logged.{Summarizes}
use Rattle.pass_graph.proofs.Accepting.{fine_one, fine-append}
use Rattle.pass_log.specs.declared.fault.LogFault.{LogFault}
use Rattle.pass_log.specs.Records.{joined, records_in, spellings}
use Rattle.pass_log.proofs.Reading.{joined_joined, record_found, no_record}
use Rattle.pass_plain.specs.WellLogged.{flaw_of, first_flaw_after}
use Rattle.pass_record.specs.declared.fault.RecordFault.{RecordFault}
use Rattle.pass_record.specs.declared.fault.RecordFault.TheVariants as why_is
use Rattle.pass_record.specs.Faults as records
use Rattle.pass_record.specs.Reading.{record_at}
use Rattle.pass_record.specs.Spelling.{spelling, StandsAtFront}
use Rattle.pass_standby.specs.declared.batch.BatchFault.{BatchFault}
use Rattle.pass_standby.specs.declared.batch.BatchFault.TheVariants as batches
use Rattle.pass_standby.specs.Streams.{unflawed, batch_in}

-- records behind others that have no flaw
pub flaw-append : (list xs ys : List Record) → first_flaw_after list xs ≡ None → first_flaw_after list (xs ++ ys) ≡ first_flaw_after (list ++ xs) ys
flaw-append list [] ys none = ap (λ (l : List Record). first_flaw_after l ys) (sym (append-nil list))
flaw-append list (x ∷ xs) ys none =
    let parts = no_first (λ (reason : FlawReason). (length list, reason)) (flaw_of list x) (first_flaw_after (list ++ x ∷ []) xs) none in
    ap (λ (o : Option FlawReason). option_map_or (λ reason. Some (length list, reason)) o (first_flaw_after (list ++ x ∷ []) (xs ++ ys))) parts.0
    ∙ flaw-append (list ++ x ∷ []) xs ys parts.1
    ∙ ap (λ (l : List Record). first_flaw_after l ys) (append_assoc list (x ∷ []) xs)

spellings-append : (xs ys : List Record) → spellings (xs ++ ys) ≡ spellings xs ++ spellings ys
spellings-append [] ys = refl
spellings-append (x ∷ xs) ys = ap (λ (l : List ℕ). spelling x ++ l) (spellings-append xs ys) ∙ sym (append_assoc (spelling x) (spellings xs) (spellings ys))

-- what was read of a frame so far
pub record IsReading (before : List Record) (frame rest : List ℕ) (old new : List Record) (judge : Logged) : Type 0 where
  pub batch : List Record
  pub told : records_in 0 (length before) frame ≡ joined batch (records_in 0 (length before + length batch) rest)
  pub fine : first_flaw_after before batch ≡ None
  pub put : new ≡ old ++ batch
  pub says : Summarizes judge (before ++ batch)
  pub spelled : frame ≡ spellings batch ++ rest
  pub in_range : All IsInRange batch

module _ (before : List Record) (frame rest : List ℕ) (old new : List Record) (judge : Logged) (r : IsReading before frame rest old new judge) (one : Record) (len : ℕ)
    (some : 0 < len) (more : 0 < length rest) (long : len ≡ record_length one) (stands : StandsAtFront one rest) (is : record_at rest ≡ Ok (one, drop len rest)) where
  one_more : records_in 0 (length before) frame ≡ joined (r.batch ++ one ∷ []) (records_in 0 (length before + length r.batch + 1) (drop len rest))
  one_more = r.told ∙ ap (joined r.batch) (record_found (length before + length r.batch) len rest (drop len rest) one some more long is)
      ∙ joined_joined r.batch (one ∷ []) (records_in 0 (length before + length r.batch + 1) (drop len rest))

  -- one record more without a flaw
  pub reading_more : (after : Logged) → flaw_of (before ++ r.batch) one ≡ None → Summarizes after (before ++ r.batch ++ one ∷ []) → (pushed : List Record) → pushed ≡ new ++ one ∷ []
      → IsReading before frame (drop len rest) old pushed after
  reading_more after fine says pushed put = record {
    batch = r.batch ++ one ∷ [];
    told = one_more ∙ ap (λ (n : ℕ). joined (r.batch ++ one ∷ []) (records_in 0 n (drop len rest))) (omega (arith, length-append r.batch (one ∷ [])));
    fine = fine-append before r.batch (one ∷ []) r.fine (fine_one (before ++ r.batch) one fine);
    put = put ∙ ap (λ (l : List Record). l ++ one ∷ []) r.put ∙ append_assoc old r.batch (one ∷ []);
    says = subst (Summarizes after) (append_assoc before r.batch (one ∷ [])) says;
    spelled = r.spelled ∙ ap (λ (l : List ℕ). spellings r.batch ++ l) (stands.spelled ∙ ap (λ (n : ℕ). spelling one ++ drop n rest) (sym long))
        ∙ sym (append_assoc (spellings r.batch) (spelling one) (drop len rest))
        ∙ ap (λ (l : List ℕ). l ++ drop len rest) (sym (spellings-append r.batch (one ∷ []) ∙ ap (λ (l : List ℕ). spellings r.batch ++ l) (append-nil (spelling one))));
    in_range = All-push IsInRange r.batch one r.in_range stands.in_range;
  }

  -- or with one
  pub reading_flaw : (o : Option FlawReason) → is_some o ≡ true → o ≡ flaw_of (before ++ r.batch) one → batch_in before frame ≡ None
  reading_flaw None some_is flaw = absurd (cc some_is)
  reading_flaw (Some reason) some_is flaw = ap (unflawed before) one_more ∙ by_case (records_in 0 (length before + length r.batch + 1) (drop len rest))
    where
      by_case : (x : Result (List Record) LogFault) → unflawed before (joined (r.batch ++ one ∷ []) x) ≡ None
      by_case (Err e) = refl
      by_case (Ok ys) =
          ap (λ o. option_map_or (λ flaw. None) o (Some ((r.batch ++ one ∷ []) ++ ys)))
          (ap (first_flaw_after before) (append_assoc r.batch (one ∷ []) ys) ∙ flaw-append before r.batch (one ∷ ys) r.fine
          ∙ ap (λ (o : Option FlawReason). option_map_or (λ reason. Some (length (before ++ r.batch), reason)) o (first_flaw_after (before ++ r.batch ++ one ∷ []) ys)) (sym flaw))

-- no record stands at the front of the rest
pub reading_bad : (before : List Record) (frame rest : List ℕ) (old new : List Record) (judge : Logged) → IsReading before frame rest old new judge → (why : RecordFault) (e : BatchFault)
    → 0 < length rest → records.Fails {Y = Record × List ℕ} why (record_at rest) → (why ≡ why_is.NoMemory → e ≡ batches.NoMemory) → e ≡ batches.Bad → batch_in before frame ≡ None
reading_bad before frame rest old new judge r why e more fails memory is = by_case why fails memory
  where
    bad : (w : RecordFault) → record_at rest ≡ Err w → batch_in before frame ≡ None
    bad w at = ap (unflawed before) (r.told ∙ ap (joined r.batch) (no_record (length before + length r.batch) rest w more at))

    by_case : (w : RecordFault) → records.Fails {Y = Record × List ℕ} w (record_at rest) → (w ≡ why_is.NoMemory → e ≡ batches.NoMemory) → batch_in before frame ≡ None
    by_case why_is.Short x m = bad why_is.Short x
    by_case why_is.Tag x m = bad why_is.Tag x
    by_case why_is.Value x m = bad why_is.Value x
    by_case why_is.NoMemory x m = absurd (cc (m refl, is))
