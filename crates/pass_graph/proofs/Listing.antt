-- The records of a session list its freezes and its fresh INs.
use Rattle.std.proofs.Common.{ℕ, ◌≡◌, ◌<◌, Bool, true, false, not, ◌||◌, List, length, take, refl, ap, sym, ◌∙◌, subst, arith}
use Rattle.std.specs.Prelude.{Option, Some, None, slice_get, option_and_then, Contains}
use Rattle.std.specs.Option.{option_map_or}
use Rattle.std.proofs.lemmas.List.{take_all}
use Rattle.std.proofs.lemmas.Option.{slice_get_within}
use Rattle.pass_entry.specs.declared.entry.Entry.{Entry}
use Rattle.pass_entry.specs.declared.objects.Node.{Node}
use Rattle.pass_entry.specs.declared.record.Record.TheVariants as log
use Rattle.pass_plain.specs.Sessions.{Session, opening_version}
use Rattle.pass_plain.specs.Legal.{IsLegal}
use Rattle.pass_plain.specs.Versions.{nodes_of, source_in, is_in, is_exec, is_repeated, is_fresh, is_freeze}
use Rattle.pass_plain.specs.Records.{records_of, entry_records}
use Rattle.pass_plain.proofs.Lists.{true_left, some_is}
use Rattle.pass_graph.specs.Places.{node_at, source_at, is_in_at, is_fresh_at, is_freeze_at}
use Rattle.pass_graph.specs.Lawful.{VersionRecordLaw, InputRecordLaw}
use Rattle.pass_graph.proofs.Standing.{now, node_stands}
use Rattle.pass_graph.proofs.Telling.{in_at, IsInAt, takes_from, takes_past, in_is, fresh_is, freeze_is}
use Rattle.pass_graph.proofs.Recording.{recorded, stands_recorded, version_recorded, input_recorded, record_version, record_input}

-- an entry stands where something is true of it
stands_there : (f : Entry → Bool) (o : Option Entry) → option_map_or f o false ≡ true → (e : Entry) × (o ≡ Some e)
stands_there f None h = absurd (cc)
stands_there f (Some e) h = (e, refl)

module _ (session : Session) (history : List Entry) (legal : IsLegal session history) where
  whole : take (length history) history ≡ history
  whole = take_all (length history) history (omega arith)

  abbrev fits : (k : ℕ) (e : Entry) → slice_get history k ≡ Some e → opening_version session.start e.what ≡ opening_version session.start e.what
  fits = λ k e at. refl

  -- an IN takes from the node that is known before it
  source_same : (k : ℕ) (e : Entry) → slice_get history k ≡ Some e → is_in_at history k ≡ true → source_in (nodes_of session (take k history)) e ≡ source_at session history k
  source_same k e at here =
      let within : k < length history = slice_get_within history k e at in
      let i : IsInAt history k = in_at session history legal k within here in
      let same : i.entry ≡ e = some_is _ _ (sym i.stands ∙ at) in
      ap (λ f. source_in (nodes_of session (take k history)) f) (sym same) ∙ takes_past session history legal (opening_version session.start) fits k k i (omega (arith, within)) (omega arith)
      ∙ sym (takes_from session history legal (opening_version session.start) fits k i) ∙ sym (ap (option_and_then (source_in (nodes_of session history))) i.stands)

  in_here : (k : ℕ) (e : Entry) → slice_get history k ≡ Some e → is_fresh session (take k history) (nodes_of session (take k history)) e ≡ true → is_in_at history k ≡ true
  in_here k e at fresh = in_is session history k e at ∙ true_left (is_in e) (is_exec e.act || not (is_repeated session (take k history) (nodes_of session (take k history)) e)) fresh

  version_there : (n : Node) → Contains (records_of session history) (log.Version n) → (k : ℕ) × (is_freeze_at session history k ≡ true) × (node_at session history k ≡ Some n)
  version_there n h =
      let (k, e, within, at, there) = recorded session history (length history) (omega arith) (log.Version n) (subst (λ xs. Contains (records_of session xs) (log.Version n)) (sym whole) h) in
      let (moved, made) = version_recorded session (take k history) e n there in
      (k, freeze_is session history k e at ∙ moved, node_stands session history k e at ∙ ap (λ m. Some m) made)

  there_version : (n : Node) (k : ℕ) → is_freeze_at session history k ≡ true → node_at session history k ≡ Some n → Contains (records_of session history) (log.Version n)
  there_version n k moved stands =
      let (e, at) = stands_there (is_freeze session (take k history) (nodes_of session (take k history))) (slice_get history k) moved in
      let made : now session history k e ≡ n = some_is _ _ (sym (node_stands session history k e at) ∙ stands) in
      let there = record_version session (take k history) e (sym (freeze_is session history k e at) ∙ moved) in
      subst (λ xs. Contains (records_of session xs) (log.Version n)) whole
      (stands_recorded session history (length history) (omega arith) (log.Version n) k e (slice_get_within history k e at) at (subst (λ m. Contains (entry_records session (take k history) e) (log.Version m)) made there))

  input_there : (t s : Node) → Contains (records_of session history) (log.Input t s) → (k : ℕ) × (is_fresh_at session history k ≡ true) × (node_at session history k ≡ Some t) × (source_at session history k ≡ Some s)
  input_there t s h =
      let (k, e, within, at, there) = recorded session history (length history) (omega arith) (log.Input t s) (subst (λ xs. Contains (records_of session xs) (log.Input t s)) (sym whole) h) in
      let (new, made, given) = input_recorded session (take k history) e t s there in
      (k, fresh_is session history k e at ∙ new, node_stands session history k e at ∙ ap (λ m. Some m) made, sym (source_same k e at (in_here k e at new)) ∙ given)

  there_input : (t s : Node) (k : ℕ) → is_fresh_at session history k ≡ true → node_at session history k ≡ Some t → source_at session history k ≡ Some s → Contains (records_of session history) (log.Input t s)
  there_input t s k new stands from =
      let (e, at) = stands_there (is_fresh session (take k history) (nodes_of session (take k history))) (slice_get history k) new in
      let fresh : is_fresh session (take k history) (nodes_of session (take k history)) e ≡ true = sym (fresh_is session history k e at) ∙ new in
      let made : now session history k e ≡ t = some_is _ _ (sym (node_stands session history k e at) ∙ stands) in
      let there = record_input session (take k history) e s fresh (source_same k e at (in_here k e at fresh) ∙ from) in
      subst (λ xs. Contains (records_of session xs) (log.Input t s)) whole
      (stands_recorded session history (length history) (omega arith) (log.Input t s) k e (slice_get_within history k e at) at (subst (λ m. Contains (entry_records session (take k history) e) (log.Input m s)) made there))

pub version_record_law : VersionRecordLaw
version_record_law session history legal n = (
  (λ h. version_there session history legal n h),
  (λ w. there_version session history legal n w.0 w.1 w.2),
)

pub input_record_law : InputRecordLaw
input_record_law session history legal t s = (
  (λ h. input_there session history legal t s h),
  (λ w. there_input session history legal t s w.0 w.1 w.2 w.3),
)
