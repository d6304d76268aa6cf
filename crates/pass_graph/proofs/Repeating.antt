-- An IN that is not fresh has its edge already.
use Rattle.std.proofs.Common.{ℕ, ◌≡◌, ◌≤◌, ◌<◌, suc, true, false, List, length, refl, ap, sym, ◌∙◌, arith}
use native.Mathlib.Decide.{ℕ_discrete}
use Rattle.std.specs.Prelude.{Option, Some, None, slice_get, option_and_then, option_map}
use Rattle.std.specs.Option.{option_map_or}
use Rattle.std.proofs.lemmas.Option.{slice_get_within}
use Rattle.pass_entry.specs.declared.entry.Entry.{Entry}
use Rattle.pass_entry.specs.declared.objects.Node.{Node}
use Rattle.pass_plain.specs.Sessions.{Session, opening_version}
use Rattle.pass_plain.specs.Legal.{IsLegal}
use Rattle.pass_plain.specs.Versions.{nodes_of, source_in, is_in}
use Rattle.pass_graph.specs.Places.{out_at, source_at, is_in_at, is_fresh_at, object_at}
use Rattle.pass_graph.specs.Lawful.{IsKnown, DuplicateLaw}
use Rattle.pass_graph.proofs.Stories.{Story, IsStory, First, first}
use Rattle.pass_graph.proofs.Keeping.{still_between}
use Rattle.pass_graph.proofs.Standing.{version_at}
use Rattle.pass_graph.proofs.Telling.{what_at, named_at, told, is_told, in_at, IsInAt, takes_from, what_is, named_is}
use Rattle.pass_graph.proofs.Edging.{input_stands}
use Rattle.pass_graph.proofs.Joining.{is_node}

-- an IN stands within the history
pub in_within : (history : List Entry) (k : ℕ) → is_in_at history k ≡ true → k < length history
in_within history k is = by_entry (slice_get history k) refl is
  where
    by_entry : (o : Option Entry) → slice_get history k ≡ o → option_map_or is_in o false ≡ true → k < length history
    by_entry None at is = absurd (cc)
    by_entry (Some e) at is = slice_get_within history k e at

pub object_is : (history : List Entry) (k o : ℕ) → object_at history k ≡ Some o → what_at history k ≡ o
object_is history k o = by_entry (slice_get history k)
  where
    by_entry : (e : Option Entry) → option_map (λ e. e.what) e ≡ Some o → option_map_or (λ (e : Entry). e.what) e 0 ≡ o
    by_entry None h = absurd (cc)
    by_entry (Some e) h = cc

module _ (session : Session) (history : List Entry) (legal : IsLegal session history) where
  abbrev begins : ℕ → ℕ
  begins = opening_version session.start

  abbrev version : ℕ → ℕ → ℕ
  version = version_at (opening_version session.start) session history

  abbrev s : Story
  s = told (opening_version session.start) (λ o. 0) session history

  abbrev fits : (k : ℕ) (e : Entry) → slice_get history k ≡ Some e → opening_version session.start e.what ≡ opening_version session.start e.what
  fits = λ k e at. refl

  pub is : IsStory s
  is = is_told session history legal begins fits (λ o. 0)

  -- the node that an IN takes from
  pub source_is : (k : ℕ) → k < length history → is_in_at history k ≡ true → source_at session history k ≡ Some (record { pnode = what_at history (named_at history k); version = version (what_at history (named_at history k)) (named_at history k) })
  source_is k within here =
      let i : IsInAt history k = in_at session history legal k within here in
      let named = i.named in
      let object : i.source.what ≡ what_at history (named_at history k) = sym (what_is session history i.out i.source i.source_stands) ∙ ap (what_at history) (sym named) in
      let level : version i.source.what i.out ≡ version (what_at history (named_at history k)) (named_at history k) = ap (λ o. version o i.out) object ∙ ap (version (what_at history (named_at history k))) (sym named) in
      ap (option_and_then (source_in (nodes_of session history))) i.stands ∙ takes_from session history legal begins fits k i ∙ (λ j. Some (record { pnode = object j; version = level j }))

  pub names_out : (k : ℕ) → k < length history → is_in_at history k ≡ true → out_at history k ≡ Some (named_at history k)
  names_out k within here =
      let i : IsInAt history k = in_at session history legal k within here in
      (named_is session history k i.entry i.stands i.out i.names).0 ∙ ap (λ o. Some o) (sym i.named)

  known : (k : ℕ) → is_in_at history k ≡ true → is_fresh_at session history k ≡ false → IsKnown session history k
  known k here stale =
      let within : k < length history = in_within history k here in
      let o : ℕ = what_at history k in
      let x : ℕ = what_at history (named_at history k) in
      let w : ℕ = version x (named_at history k) in
      let f : First s k o (version o (suc k)) x w = first s is k o x within here refl refl in
      let before : f.place < k = apart f.place f.below f.fresh in
      let within_f : f.place < length history = omega (arith, before, within) in
      let target : Node = record { pnode = o; version = version o (suc k) } in
      let source : Node = record { pnode = x; version = w } in
      let (short, used) = is.flows k within here in
      let (short_f, used_f) = is.flows f.place within_f f.is_in in
      let object : what_at history (named_at history f.place) ≡ x = f.source in
      let level : version (what_at history (named_at history f.place)) (named_at history f.place) ≡ w = ap (λ o. version o (named_at history f.place)) object ∙ f.source_version in
      record {
        first = f.place;
        stands = before;
        fresh = f.fresh;
        target = target;
        source = source;
        first_target = is_node session history legal begins (λ o. 0) fits f.place o (version o (suc k)) within_f f.what f.version;
        same_target = is_node session history legal begins (λ o. 0) fits k o (version o (suc k)) within refl refl;
        first_source = source_is f.place within_f f.is_in ∙ (λ j. Some (record { pnode = object j; version = level j }));
        same_source = source_is k within here;
        edge = input_stands session history legal begins fits target source f.place k before (omega (arith, within)) f.fresh f.what f.version f.source f.source_version;
        first_out = named_at history f.place;
        out = named_at history k;
        first_names = names_out f.place within_f f.is_in;
        names = names_out k within here;
        unchanged = λ between lies on.
            still_between s is x (named_at history f.place) (named_at history k) between (omega (arith, short_f, within_f)) (omega (arith, short, within)) used_f used f.source refl f.source_version lies (object_is history between x on);
      }
    where
      apart : (j : ℕ) → j ≤ k → is_fresh_at session history j ≡ true → j < k
      apart j le new = elim (ℕ_discrete j k) [
        | yes same ↦ absurd (let z : true ≡ false = sym new ∙ ap (is_fresh_at session history) same ∙ stale in cc)
        | no other ↦ omega (arith, le, other)
      ]

pub duplicate_law : DuplicateLaw
duplicate_law session history legal place here stale = known session history legal place here stale
