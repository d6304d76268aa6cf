-- How far a search has come, and what it has found in the end.
use Rattle.std.proofs.Common.{ℕ, ◌≡◌, ◌≤◌, ◌<◌, ◌+◌, ◌*◌, ◌==◌, true, false, ◌⊎◌, inl, inr, refl, sym, ap, ◌∙◌, subst, List, [], length, get_or, arith}
use Rattle.std.specs.Prelude.{Some, slice_get, Contains}
use Rattle.std.specs.List.{IsDistinct}
use Rattle.std.proofs.lemmas.Map.Keys.{apart_from_distinct}
use Rattle.std.proofs.lemmas.Option.{slice_get_within, get_or_from_slice_get}
use Rattle.pass_entry.specs.declared.objects.Node.{Node}
use Rattle.pass_entry.specs.declared.record.Record.{Record}
use Rattle.pass_entry.proofs.Places.{Contains-place, Contains-at}
use Rattle.pass_plain.specs.Versions.{same_node}
use Rattle.pass_plain.proofs.Lists.{below_or, is_place, same_itself, both_true}
use Rattle.pass_graph.proofs.Noding.{same_node_equiv}
use Rattle.pass_query.specs.Answers.{HasAllLeaving}
use Rattle.pass_query.proofs.Elements.{one_value}
use Rattle.pass_pattern.specs.declared.code.Instruction.{Instruction}
use Rattle.pass_pattern.specs.declared.search.Visit.{Visit}
use Rattle.pass_pattern.specs.Codes.{edges_in}
use Rattle.pass_pattern.specs.Visits.{same_visit, Adds, Leads, Runs, Comes, AreVisits, IsCounted}
use Rattle.pass_pattern.specs.Visits.Runs.{here, on}
use Rattle.pass_pattern.proofs.Joining.{comes_on}
use Rattle.pass_pattern.proofs.Visiting.{front_there}
use Rattle.pass_pattern.proofs.Looking.{HasOnce, IsLooked, none_looked, more_looked, bounded, comes_reach}

same_visit_itself : (x : Visit) → same_visit x x ≡ true
same_visit_itself x = both_true (same_node x.node x.node) (x.place == x.place) (same_node_equiv.refl x.node) (same_itself x.place)

-- visits without repeats
pub once_from : (visits : List Visit) → IsDistinct same_visit visits → HasOnce visits
once_from visits distinct j k x at there = at_order (below_or j k)
  where
    never : (i l : ℕ) → slice_get visits i ≡ Some x → slice_get visits l ≡ Some x → i < l → ⊥
    never i l early later low =
        let apart : same_visit (get_or visits i x) (get_or visits l x) ≡ false = apart_from_distinct same_visit visits i l x distinct low (slice_get_within visits l x later) in
        let same : same_visit x x ≡ false = ap (λ y. same_visit y x) (sym (get_or_from_slice_get visits i x x early)) ∙ ap (same_visit (get_or visits i x)) (sym (get_or_from_slice_get visits l x x later)) ∙ apart in
        let z : true ≡ false = sym (same_visit_itself x) ∙ same in cc

    at_order : (j < k) ⊎ ((k < j) ⊎ (j ≡ k)) → j ≡ k
    at_order (inl low) = absurd (never j k at there low)
    at_order (inr (inl low)) = absurd (never k j there at low)
    at_order (inr (inr same)) = same

-- a search from the first visit has gone on from those before the next place, with these steps
pub record HasCome (list : List Record) (code : List Instruction) (first : Visit) (visits : List Visit) (next start taken : ℕ) : Type 0 where
  pub there : Contains visits first
  pub sound : (x : Visit) → Contains visits x → Comes list code first x
  pub closed : (k : ℕ) (x y : Visit) → k < next → slice_get visits k ≡ Some x → Leads list code x y → Contains visits y
  pub within : next ≤ length visits
  pub looked : IsLooked list code visits next start taken

module _ (list : List Record) (code : List Instruction) (first : Visit) where
  pub begun : (visits : List Visit) (start : ℕ) → Adds (λ y. y ≡ first) [] visits → HasCome list code first visits 0 start start
  begun visits start adds = record {
    there = adds.whole first refl;
    sound = λ x there. only x (adds.sound x there);
    closed = λ k x y low at leads. absurd (omega (arith, low));
    within = omega arith;
    looked = none_looked list code visits start;
  }
    where
      only : (x : Visit) → Contains [] x ⊎ (x ≡ first) → Comes list code first x
      only x (inl (k, within, is)) = absurd (omega (arith, within))
      only x (inr same) = subst (Comes list code first) (sym same) (0, here)

  -- the next visit
  pub come_on : (old new : List Visit) (next start taken now : ℕ) (x : Visit) → HasCome list code first old next start taken → HasOnce old → slice_get old next ≡ Some x
      → IsCounted list code x taken now → Adds (Leads list code x) old new → HasCome list code first new (next + 1) start now
  come_on old new next start taken now x so once at counted adds = record {
    there = front_there old new adds.front first so.there;
    sound = λ y there. at_sound y (adds.sound y there);
    closed = λ k y z low found leads. at_place k y z found leads (below_or k next) low;
    within = let low = slice_get_within new next x (adds.front next x at) in omega (arith, low);
    looked = more_looked list code old new next start taken now x so.looked once at counted adds.front;
  }
    where
      at_sound : (y : Visit) → Contains old y ⊎ Leads list code x y → Comes list code first y
      at_sound y (inl there) = so.sound y there
      at_sound y (inr leads) = comes_on list code (so.sound x (Contains-at old next x at)) (1, on leads here)

      was_there : (k : ℕ) (y : Visit) → k < next → slice_get new k ≡ Some y → slice_get old k ≡ Some y
      was_there k y low found =
          let (z, was) = is_place old k (let m = so.within in omega (arith, low, m)) in
          was ∙ ap (λ v. Some v) (one_value new k z y (adds.front k z was) found)

      at_place : (k : ℕ) (y z : Visit) → slice_get new k ≡ Some y → Leads list code y z → (k < next) ⊎ ((next < k) ⊎ (k ≡ next)) → k < next + 1 → Contains new z
      at_place k y z found leads (inl low) up = front_there old new adds.front z (so.closed k y z low (was_there k y low found) leads)
      at_place k y z found leads (inr (inl over)) up = absurd (omega (arith, over, up))
      at_place k y z found leads (inr (inr same)) up =
          let is : y ≡ x = one_value new next y x (ap (slice_get new) (sym same) ∙ found) (adds.front next x at) in
          adds.whole z (subst (λ v. Leads list code v z) is leads)

  -- the steps so far
  pub steps_so_far : (visits : List Visit) (next start taken : ℕ) → HasCome list code first visits next start taken → (edges : List (Node × Node)) → HasAllLeaving list first.node edges
      → taken ≤ start + edges_in code * length edges
  steps_so_far visits next start taken so edges all =
      bounded list code visits next start taken first.node edges so.looked (λ x there. let (count, runs) = so.sound x there in comes_reach list code runs) all

  -- and those of a visit from which no more was added
  pub steps_cut_off : (visits : List Visit) (next start taken now : ℕ) (x : Visit) → HasCome list code first visits next start taken → HasOnce visits → slice_get visits next ≡ Some x
      → IsCounted list code x taken now → (edges : List (Node × Node)) → HasAllLeaving list first.node edges → now ≤ start + edges_in code * length edges
  steps_cut_off visits next start taken now x so once at counted edges all =
      bounded list code visits (next + 1) start now first.node edges (more_looked list code visits visits next start taken now x so.looked once at counted (λ k y found. found))
      (λ y there. let (count, runs) = so.sound y there in comes_reach list code runs) all

  -- in the end the visits are all
  pub all_come : (visits : List Visit) (next start taken : ℕ) → HasCome list code first visits next start taken → length visits ≤ next → AreVisits list code first visits
  all_come visits next start taken so whole x = (so.sound x, λ (count, runs). along runs so.there)
    where
      on_from : (y z : Visit) → Contains visits y → Leads list code y z → Contains visits z
      on_from y z there leads =
          let (k, at) = Contains-place visits y there in
          so.closed k y z (let low = slice_get_within visits k y at in omega (arith, low, whole)) at leads

      along : {count : ℕ} {y z : Visit} → Runs list code count y z → Contains visits y → Contains visits z
      along here there = there
      along (on {x = y} {y = m} leads rest) there = along rest (on_from y m there leads)
