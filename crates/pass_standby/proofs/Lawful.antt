-- The laws of a stream.
use Rattle.std.proofs.Common.{◌≡◌, ℕ, ◌≤◌, Bool, true, false, List, [], ◌∷◌, ◌++◌, drop, refl, sym, ◌∙◌, ap, arith, append_assoc}
use Rattle.std.specs.Prelude.{Option, Some, None, if◌then◌else◌}
use Rattle.std.specs.Option.{option_map_or}
use Rattle.std.proofs.lemmas.List.{append-nil}
use Rattle.pass_entry.specs.declared.record.Record.{Record}
use Rattle.pass_plain.specs.WellLogged.{IsWellLogged}
use Rattle.pass_standby.specs.declared.frame.Judgement.{Judgement}
use Rattle.pass_standby.specs.declared.frame.Judgement.TheVariants.{Begun, Bad, Whole}
use Rattle.pass_standby.specs.Streams.{head, judgement, batch_in, Told, spoiled, with_batch, judged, arrived, followed}
use Rattle.pass_standby.specs.Laws.{GrowsLaw, LoggedLaw}
use Rattle.pass_standby.proofs.Keeping.{logged_with}

-- what came later has the records from before, and is no earlier
record Grows (t u : Told) : Type 0 where
  more : List Record
  list : u.list ≡ t.list ++ more
  at : t.at ≤ u.at

grows_none : (t u : Told) → u.list ≡ t.list → u.at ≡ t.at → Grows t u
grows_none t u list at = record { more = []; list = list ∙ sym (append-nil t.list); at = omega (arith, at) }

grows_both : (t u v : Told) → Grows t u → Grows u v → Grows t v
grows_both t u v a b = record {
  more = a.more ++ b.more;
  list = b.list ∙ ap (λ (l : List Record). l ++ b.more) a.list ∙ append_assoc t.list a.more b.more;
  at = omega (arith, a.at, b.at);
}

judged_on : (t : Told) (frame : List ℕ) (j : Judgement) → Grows t (judged t frame j)
judged_on t frame Begun = grows_none t (record t { begun = frame }) refl refl
judged_on t frame Bad = grows_none t (spoiled t frame) refl refl
judged_on t frame Whole = by_case (batch_in t.list (drop head frame))
  where
    by_case : (o : Option (List Record)) → Grows t (option_map_or (with_batch t frame) o (spoiled t frame))
    by_case None = grows_none t (spoiled t frame) refl refl
    by_case (Some batch) = record { more = batch; list = refl; at = omega arith }

arrived_on : (t : Told) (byte : ℕ) → Grows t (arrived t byte)
arrived_on t byte = by_case t.bad
  where
    by_case : (b : Bool) → Grows t (if b then t else judged t (t.begun ++ byte ∷ []) (judgement t.at (t.begun ++ byte ∷ [])))
    by_case true = grows_none t t refl refl
    by_case false = judged_on t (t.begun ++ byte ∷ []) (judgement t.at (t.begun ++ byte ∷ []))

followed_on : (t : Told) (bytes : List ℕ) → Grows t (followed t bytes)
followed_on t [] = grows_none t t refl refl
followed_on t (x ∷ bytes) = grows_both t (arrived t x) (followed (arrived t x) bytes) (arrived_on t x) (followed_on (arrived t x) bytes)

pub grows : GrowsLaw
grows t bytes = let g = followed_on t bytes in ((g.more, g.list), g.at)

judged_logged : (t : Told) (frame : List ℕ) (j : Judgement) → IsWellLogged t.list → IsWellLogged (judged t frame j).list
judged_logged t frame Begun logged = logged
judged_logged t frame Bad logged = logged
judged_logged t frame Whole logged = by_case (batch_in t.list (drop head frame)) refl
  where
    by_case : (o : Option (List Record)) → batch_in t.list (drop head frame) ≡ o → IsWellLogged (option_map_or (with_batch t frame) o (spoiled t frame)).list
    by_case None is = logged
    by_case (Some batch) is = logged_with t.list (drop head frame) batch is logged

arrived_logged : (t : Told) (byte : ℕ) → IsWellLogged t.list → IsWellLogged (arrived t byte).list
arrived_logged t byte logged = by_case t.bad
  where
    by_case : (b : Bool) → IsWellLogged (if b then t else judged t (t.begun ++ byte ∷ []) (judgement t.at (t.begun ++ byte ∷ []))).list
    by_case true = logged
    by_case false = judged_logged t (t.begun ++ byte ∷ []) (judgement t.at (t.begun ++ byte ∷ [])) logged

pub stays_logged : LoggedLaw
stays_logged t [] logged = logged
stays_logged t (x ∷ bytes) logged = stays_logged (arrived t x) bytes (arrived_logged t x logged)
