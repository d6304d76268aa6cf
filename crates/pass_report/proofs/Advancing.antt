-- A pass over a history, one entry further.
use Rattle.std.proofs.Common.{◌≡◌, ◌+◌, ◌<◌, ◌≤◌, ◌^◌, ◌==◌, ℕ, zero, suc, List, [], ◌∷◌, ◌++◌, length, take, drop, map, refl, ap, sym, ◌∙◌, Bool, true, false, ◌&&◌, ◌||◌, not, arith}
use Rattle.std.specs.Prelude.{Some, flat_map, option_map, slice_get, zip, if◌then◌else◌}
use Rattle.std.specs.Option.{option_map_or}
use Rattle.std.specs.List.{list_any, before_first}
use Rattle.std.proofs.lemmas.List.{length-take, take-append-drop, append-nil}
use Rattle.std.proofs.lemmas.List.Folds.{list_any-append}
use Rattle.std.proofs.lemmas.List.Concat.{flat_map-append}
use Rattle.std.proofs.lemmas.List.{map-append}
use Rattle.std.proofs.lemmas.Option.{slice_get-map, slice_get_within}
use Rattle.pass_entry.specs.declared.entry.Entry.{Entry}
use Rattle.pass_entry.specs.declared.objects.Node.{Node}
use Rattle.pass_plain.specs.declared.start.Start.{Start}
use Rattle.pass_plain.specs.Histories.{is_of_call}
use Rattle.pass_plain.specs.Sessions.{Session}
use Rattle.pass_plain.specs.Processes.{process_after}
use Rattle.pass_plain.specs.Calls.{is_last}
use Rattle.pass_plain.specs.Legal.{IsLegal, MayFollow, before_call, is_start}
use Rattle.pass_plain.specs.Versions.{nodes_of}
use Rattle.pass_plain.proofs.Lists.{same_itself}
use Rattle.pass_plain.proofs.Calling.{legal_take}
use Rattle.pass_plain.proofs.Playing.{before_hit}
use Rattle.pass_plain.proofs.Versioned.{length-nodes_of}
use Rattle.pass_plain.proofs.OtherCalls.{before_more}
use Rattle.pass_report.specs.Reports.{IsLegalFrom, is_answered}
use Rattle.pass_entry.proofs.Lists.{is_place}
use Rattle.pass_entry.proofs.Places.{take_one_more, zip_at}
use Rattle.pass_report.specs.Passing.{IsNext}
use Rattle.pass_report.specs.Answered.{known_line, line_at, line_if, lines_to}
use Rattle.pass_report.specs.Recorders.{entry_line}

-- the entry at a place
module _ (session : Session) (history : List Entry) (legal : IsLegal session history) (place : ℕ) (e : Entry) (at : slice_get history place ≡ Some e) where
  abbrev past : List Entry
  past = take place history

  within : place < length history
  within = slice_get_within history place e at

  past_length : length past ≡ place
  past_length = let t = length-take place history in let w = within in omega (arith, t, w)

  pub one_further : take (place + 1) history ≡ past ++ e ∷ []
  one_further = ap (λ n. take n history) (let z : place + 1 ≡ suc place = omega arith in z) ∙ take_one_more history place e at

  whole : (past ++ e ∷ []) ++ drop (suc place) history ≡ history
  whole = ap (λ xs. xs ++ drop (suc place) history) (sym (take_one_more history place e at)) ∙ take-append-drop (suc place) history

  pub follows : MayFollow session past e
  follows = legal place e at

  same_before : before_call history e.who e.number ≡ before_call past e.who e.number
  same_before =
      let p : Entry → Bool = is_of_call e.who e.number in
      let hit : p e ≡ true = ap (λ b. b && e.number == e.number) (same_itself e.who) ∙ same_itself e.number in
      ap (λ h. process_after (before_first p h) e.who) (sym whole)
      ∙ ap (λ h. process_after h e.who) (before_more p (past ++ e ∷ []) (drop (suc place) history) (list_any-append p past (e ∷ []) ∙ last_hit (list_any p past) (p e) hit) ∙ before_hit p past e hit)
    where
      last_hit : (a b : Bool) → b ≡ true → a || (b || false) ≡ true
      last_hit true b is = refl
      last_hit false true is = refl
      last_hit false false is = absurd (cc)

  same_answered : is_answered history e ≡ (not (is_start e.call) && is_last (before_call past e.who e.number) e)
  same_answered = ap (λ p. not (is_start e.call) && is_last p e) same_before

  -- one more entry that ends a call or not
  pub answered_next : (marks : List Bool) → marks ≡ map (is_answered history) past → (ended : Bool) → ended ≡ is_last (before_call past e.who e.number) e
      → marks ++ (not (is_start e.call) && ended) ∷ [] ≡ map (is_answered history) (take (place + 1) history)
  answered_next marks are ended ends =
      ap (λ ms. ms ++ (not (is_start e.call) && ended) ∷ []) are
      ∙ ap (λ b. map (is_answered history) past ++ b ∷ []) (ap (λ b. not (is_start e.call) && b) ends ∙ sym same_answered)
      ∙ sym (ap (map (is_answered history)) one_further ∙ map-append (is_answered history) past (e ∷ []))

-- the lines that are written are those of the answered calls
module _ (session : Session) (history : List Entry) where
  abbrev nodes : List Node
  nodes = nodes_of session history

  abbrev marks : List Bool
  marks = map (is_answered history) history

  abbrev pairs : List (Entry × Node)
  pairs = zip history nodes

  entry_at : (place : ℕ) (e : Entry) (n : Node) → slice_get history place ≡ Some e → slice_get nodes place ≡ Some n → line_at history nodes marks place ≡ entry_line history nodes (e, n)
  entry_at place e n at there =
      ap (λ b. if b then known_line history nodes place else []) (ap (λ o. option_map_or (λ mark. mark) o false) (slice_get-map (is_answered history) history place ∙ ap (option_map (is_answered history)) at))
      ∙ ap (λ line. if is_answered history e then line else []) (ap (λ o. line_if history nodes o (slice_get nodes place)) at ∙ ap (λ o. line_if history nodes (Some e) o) there)

  pub lines_before : (place : ℕ) → place ≤ length history → lines_to history nodes marks place ≡ flat_map (entry_line history nodes) (take place pairs)
  lines_before zero low = refl
  lines_before (suc place) low =
      let (e, at) = is_place history place (omega arith) in
      let many = length-nodes_of session history in
      let (n, there) = is_place nodes place (omega (arith, many, low)) in
      ap (λ text. text ++ line_at history nodes marks place) (lines_before place (omega arith))
      ∙ ap (λ line. flat_map (entry_line history nodes) (take place pairs) ++ line) (entry_at place e n at there ∙ sym (append-nil (entry_line history nodes (e, n))))
      ∙ sym (ap (flat_map (entry_line history nodes)) (take_one_more pairs place (e, n) (zip_at history nodes place e n at there)) ∙ flat_map-append (entry_line history nodes) (take place pairs) ((e, n) ∷ []))

pub next_of : (start : Start) (session : Session) (history : List Entry) → IsLegalFrom start history session → length history < 2 ^ 57
    → (place : ℕ) (e : Entry) → slice_get history place ≡ Some e → IsNext start session (take place history) e
next_of start session history from short place e at = record {
  same = from.same;
  sound = from.sound;
  legal = legal_take session history place from.legal;
  next = follows session history from.legal place e at;
  short = let l = length-take place history in omega (arith, l, short);
}
