-- The edges of a history's records, and the ranks of its nodes, by its places.
use Rattle.std.proofs.Common.{◌≡◌, ◌<◌, ◌≤◌, ◌+◌, ◌-◌, ℕ, zero, suc, max, List, length, take, refl, ap, sym, ◌∙◌, subst, arith, ◌⊎◌, inl, inr, Bool, true, false, not, ◌||◌, ◌&&◌, ◌==◌, cond}
use Rattle.std.specs.Prelude.{Option, Some, slice_get, Contains}
use Rattle.std.specs.Option.{option_map_or}
use Rattle.std.specs.List.{position_or_len, range_with_len}
use Rattle.std.proofs.lemmas.List.{take_all}
use Rattle.pass_entry.specs.declared.entry.Entry.{Entry}
use Rattle.pass_entry.specs.declared.objects.Node.{Node}
use Rattle.pass_entry.specs.declared.record.Record.TheVariants as log
use Rattle.std.proofs.lemmas.Option.{slice_get_within}
use Rattle.std.proofs.lemmas.Bool.{or_cases}
use Rattle.pass_plain.specs.Sessions.{Session, is_opened, opening_version}
use Rattle.pass_plain.specs.Legal.{IsLegal}
use Rattle.pass_plain.specs.Versions.{same_node, nodes_of, source_in, is_used, node_in, version_in}
use Rattle.pass_plain.specs.Records.{records_of, entry_records}
use Rattle.pass_plain.specs.Graphs.{IsEdge}
use Rattle.pass_plain.specs.Graphs.IsEdge.{input as by_input, version as by_version}
use Rattle.pass_plain.proofs.Lists.{true_left, true_right, both_true, same_itself, is_place, le_or_above, some_is}
use Rattle.pass_graph.specs.Places.{is_out_at, is_fresh_at, is_freeze_at}
use Rattle.pass_graph.specs.Ranks.{has_node, next_version, closes, rank_of}
use Rattle.pass_graph.proofs.Stories.{IsStory, IsBegun, mono}
use Rattle.pass_graph.proofs.Falling.{Edge, Ends, IsRank}
use Rattle.pass_graph.proofs.Falling.Edge.{took, froze}
use Rattle.pass_graph.proofs.Standing.{version_at, now, node_stands, version_own, version_past}
use Rattle.pass_graph.proofs.Telling.{what_at, named_at, told, is_told, in_at, IsInAt, takes_past, fresh_freezes, same_parts, parts_same, what_is, fresh_is, freeze_is}
use Rattle.pass_graph.proofs.Recording.{recorded, stands_recorded, version_recorded, input_recorded, record_version, record_input}

-- the first place of a range that passes

first_below : (p : ℕ → Bool) (a n k : ℕ) → k < n → p (a + k) ≡ true → position_or_len p (range_with_len a n) ≤ k
first_below p a zero k short is = absurd (omega (arith, short))
first_below p a (suc n) k short is = at_test (p a) refl (λ j below passes. first_below p (a + 1) n j below passes)
  where
    rest : ℕ
    rest = position_or_len p (range_with_len (a + 1) n)

    at_test : (b : Bool) → p a ≡ b → ((j : ℕ) → j < n → p (a + 1 + j) ≡ true → rest ≤ j) → cond (not b) (1 + rest) 0 ≤ k
    at_test true t later = omega arith
    at_test false t later = elim (le_or_above 1 k) [
      | inr none ↦ absurd (let z : true ≡ false = sym is ∙ ap p (let e : a + k ≡ a = omega (arith, none) in e) ∙ t in cc)
      | inl some ↦
          let j : ℕ = k - 1 in
          let low : rest ≤ j = later j (omega (arith, short, some)) (ap p (let e : a + 1 + j ≡ a + k = omega (arith, some) in e) ∙ is) in
          omega (arith, low, some)
    ]

first_passes : (p : ℕ → Bool) (a n : ℕ) → (position_or_len p (range_with_len a n) ≡ n) ⊎ ((position_or_len p (range_with_len a n) < n) × (p (a + position_or_len p (range_with_len a n)) ≡ true))
first_passes p a zero = inl refl
first_passes p a (suc n) = at_test (p a) refl (first_passes p (a + 1) n)
  where
    rest : ℕ
    rest = position_or_len p (range_with_len (a + 1) n)

    at_test : (b : Bool) → p a ≡ b → ((rest ≡ n) ⊎ ((rest < n) × (p (a + 1 + rest) ≡ true)))
        → (cond (not b) (1 + rest) 0 ≡ suc n) ⊎ ((cond (not b) (1 + rest) 0 < suc n) × (p (a + cond (not b) (1 + rest) 0) ≡ true))
    at_test true t later = inr (omega arith, ap p (let e : a + 0 ≡ a = omega arith in e) ∙ t)
    at_test false t later = elim later [
      | inl all ↦ inl (omega (arith, all))
      | inr some ↦ inr (let z = some.0 in omega (arith, z), ap p (let e : a + (1 + rest) ≡ a + 1 + rest = omega arith in e) ∙ some.1)
    ]

module _ (session : Session) (history : List Entry) (legal : IsLegal session history) where
  module _ (first : ℕ → ℕ) (fits : (k : ℕ) (e : Entry) → slice_get history k ≡ Some e → first e.what ≡ opening_version session.start e.what) where
    abbrev version : ℕ → ℕ → ℕ
    version = version_at first session history

    whole : take (length history) history ≡ history
    whole = take_all (length history) history (omega arith)

    -- the version of the node that an entry makes
    made_version : (k : ℕ) (e : Entry) (a : Node) → slice_get history k ≡ Some e → now session history k e ≡ a → (what_at history k ≡ a.pnode) × (version a.pnode (suc k) ≡ a.version)
    made_version k e a at is =
        let same : e.what ≡ a.pnode = ap (λ (n : Node). n.pnode) is in
        (what_is session history k e at ∙ same, ap (λ o. version o (suc k)) (sym same) ∙ version_own session history first k e at ∙ ap (λ (n : Node). n.version) is)

    is_made : (k : ℕ) (e : Entry) (a : Node) → slice_get history k ≡ Some e → what_at history k ≡ a.pnode → version a.pnode (suc k) ≡ a.version → now session history k e ≡ a
    is_made k e a at is level =
        let same : e.what ≡ a.pnode = sym (what_is session history k e at) ∙ is in
        let high : (now session history k e).version ≡ a.version = sym (version_own session history first k e at) ∙ ap (λ o. version o (suc k)) same ∙ level in
        λ i. record { pnode = same i; version = high i }

    -- an Input is that of a fresh IN
    pub took_at : (a b : Node) (k : ℕ) (e : Entry) → slice_get history k ≡ Some e → Contains (entry_records session (take k history) e) (log.Input a b)
        → (is_fresh_at session history k ≡ true) × (what_at history k ≡ a.pnode) × (version a.pnode (suc k) ≡ a.version) × (what_at history (named_at history k) ≡ b.pnode) × (version b.pnode (named_at history k) ≡ b.version)
    took_at a b k e at there =
        let within : k < length history = slice_get_within history k e at in
        let (fresh, made, given) = input_recorded session (take k history) e a b there in
        let (object, level) = made_version k e a at made in
        let new : is_fresh_at session history k ≡ true = fresh_is session history k e at ∙ fresh in
        let i : IsInAt history k = in_at session history legal k within ((is_told session history legal first fits (λ o. 0)).news k within new) in
        let same_entry : i.entry ≡ e = some_entry _ _ (sym i.stands ∙ at) in
        let from : record { pnode = i.source.what; version = version i.source.what i.out } ≡ b =
        some_is _ _ (sym (takes_past session history legal first fits k k i (omega (arith, within)) (omega arith)) ∙ ap (λ f. source_in (nodes_of session (take k history)) f) same_entry ∙ given) in
        let source : i.source.what ≡ b.pnode = ap (λ (n : Node). n.pnode) from in (
          new,
          object,
          level,
          ap (what_at history) i.named ∙ what_is session history i.out i.source i.source_stands ∙ source,
          ap (version b.pnode) i.named ∙ ap (λ o. version o i.out) (sym source) ∙ ap (λ (n : Node). n.version) from,
        )
      where
        some_entry : (a b : Entry) → ◌≡◌ {A = Option Entry} (Some a) (Some b) → a ≡ b
        some_entry a b e = cc

    pub to_edge : (opened : ℕ → ℕ) (a b : Node) → IsEdge (records_of session history) a b → Edge (told first opened session history) a b
    to_edge opened a b (by_input h) =
        let (k, e, within, at, there) = recorded session history (length history) (omega arith) (log.Input a b) (subst (λ xs. Contains (records_of session xs) (log.Input a b)) (sym whole) h) in
        let (new, object, level, object_b, level_b) = took_at a b k e at there in
        took k within new object level object_b level_b
    to_edge opened a b (by_version h same next) =
        let (k, e, within, at, there) = recorded session history (length history) (omega arith) (log.Version a) (subst (λ xs. Contains (records_of session xs) (log.Version a)) (sym whole) h) in
        let (freezes, made) = version_recorded session (take k history) e a there in
        let (object, level) = made_version k e a at made in
        let moved : is_freeze_at session history k ≡ true = freeze_is session history k e at ∙ freezes in
        let raised = (is_told session history legal first fits opened).moves k a.pnode within object moved in
        froze k within moved object level (object ∙ sym same) (ap (λ o. version o k) same ∙ (let z : version a.pnode k ≡ b.version = omega (arith, raised, level, next) in z))

    -- a fresh IN has its Input among the records of each beginning in which it stands
    pub input_stands : (a b : Node) (k n : ℕ) → k < n → n ≤ length history → is_fresh_at session history k ≡ true → what_at history k ≡ a.pnode → version a.pnode (suc k) ≡ a.version
        → what_at history (named_at history k) ≡ b.pnode → version b.pnode (named_at history k) ≡ b.version → Contains (records_of session (take n history)) (log.Input a b)
    input_stands a b k n short most new object level object_b level_b =
        let within : k < length history = omega (arith, short, most) in
        let i : IsInAt history k = in_at session history legal k within ((is_told session history legal first fits (λ o. 0)).news k within new) in
        let made : now session history k i.entry ≡ a = is_made k i.entry a i.stands object level in
        let source : i.source.what ≡ b.pnode = sym (what_is session history i.out i.source i.source_stands) ∙ ap (what_at history) (sym i.named) ∙ object_b in
        let high : version i.source.what i.out ≡ b.version = ap (λ o. version o i.out) source ∙ ap (version b.pnode) (sym i.named) ∙ level_b in
        let given : source_in (nodes_of session (take k history)) i.entry ≡ Some b = takes_past session history legal first fits k k i (omega (arith, within)) (omega arith) ∙ (λ j. Some (record { pnode = source j; version = high j })) in
        let there = record_input session (take k history) i.entry b (sym (fresh_is session history k i.entry i.stands) ∙ new) given in
        stands_recorded session history n most (log.Input a b) k i.entry short i.stands (subst (λ n. Contains (entry_records session (take k history) i.entry) (log.Input n b)) made there)

    pub of_edge : (opened : ℕ → ℕ) (a b : Node) → Edge (told first opened session history) a b → IsEdge (records_of session history) a b
    of_edge opened a b (took k within new object level object_b level_b) =
        by_input (subst (λ xs. Contains (records_of session xs) (log.Input a b)) whole (input_stands a b k (length history) within (omega arith) new object level object_b level_b))
    of_edge opened a b (froze k within moved object level object_b level_b) =
        let (e, at) = is_place history k within in
        let made : now session history k e ≡ a = is_made k e a at object level in
        let there = record_version session (take k history) e (sym (freeze_is session history k e at) ∙ moved) in
        let same : b.pnode ≡ a.pnode = sym object_b ∙ object in
        let raised = (is_told session history legal first fits opened).moves k a.pnode within object moved in
        let low : version a.pnode k ≡ b.version = ap (λ o. version o k) (sym same) ∙ level_b in
        by_version (subst (λ xs. Contains (records_of session xs) (log.Version a)) whole
        (stands_recorded session history (length history) (omega arith) (log.Version a) k e within at (subst (λ n. Contains (entry_records session (take k history) e) (log.Version n)) made there)))
        same (omega (arith, raised, level, low))

    -- ranks

    node_is : (k : ℕ) (e : Entry) (a : Node) → slice_get history k ≡ Some e → has_node session history a k ≡ same_node (now session history k e) a
    node_is k e a at = ap (λ o. option_map_or (λ n. same_node n a) o false) (node_stands session history k e at)

    closes_ends : (opened : ℕ → ℕ) (a : Node) (k : ℕ) → k < length history → closes session history a k ≡ true → Ends (told first opened session history) a k
    closes_ends opened a k within is =
        let (e, at) = is_place history k within in
        let s : IsStory (told first opened session history) = is_told session history legal first fits opened in
        elim (or_cases (is_out_at history k && has_node session history a k) _ is) [
          | inl out ↦
              let uses : is_out_at history k ≡ true = true_left _ _ out in
              let (object, level) = same_parts (now session history k e) a (sym (node_is k e a at) ∙ true_right (is_out_at history k) _ out) in
              let here : what_at history k ≡ a.pnode = what_is session history k e at ∙ object in
              let after : version a.pnode (suc k) ≡ a.version = ap (λ o. version o (suc k)) (sym object) ∙ version_own session history first k e at ∙ level in
              record { below = within; what = here; version = sym (s.keeps k a.pnode within here (s.outs k within uses).0) ∙ after; how = inl uses }
          | inr freeze ↦
              let moved : is_freeze_at session history k ≡ true = true_left _ _ freeze in
              let (object, level) = same_parts (now session history k e) (next_version a) (sym (node_is k e (next_version a) at) ∙ true_right (is_freeze_at session history k) _ freeze) in
              let here : what_at history k ≡ a.pnode = what_is session history k e at ∙ object in
              let after : version a.pnode (suc k) ≡ a.version + 1 = ap (λ o. version o (suc k)) (sym object) ∙ version_own session history first k e at ∙ level in
              let raised = s.moves k a.pnode within here moved in
              record { below = within; what = here; version = omega (arith, after, raised); how = inr moved }
        ]

    ends_closes : (opened : ℕ → ℕ) (a : Node) (k : ℕ) → Ends (told first opened session history) a k → closes session history a k ≡ true
    ends_closes opened a k ends =
        let (e, at) = is_place history k ends.below in
        let s : IsStory (told first opened session history) = is_told session history legal first fits opened in
        let object : e.what ≡ a.pnode = sym (what_is session history k e at) ∙ ends.what in
        let own : version a.pnode (suc k) ≡ (now session history k e).version = ap (λ o. version o (suc k)) (sym object) ∙ version_own session history first k e at in
        elim ends.how [
          | inl out ↦
              let kept = s.keeps k a.pnode ends.below ends.what (s.outs k ends.below out).0 in
              let same : same_node (now session history k e) a ≡ true = parts_same (now session history k e) a object (sym own ∙ kept ∙ ends.version) in
              ap (λ b. b || (is_freeze_at session history k && has_node session history (next_version a) k)) (both_true _ _ out (node_is k e a at ∙ same))
          | inr moved ↦
              let raised = s.moves k a.pnode ends.below ends.what moved in
              let now_is = ends.version in
              let same : same_node (now session history k e) (next_version a) ≡ true = parts_same (now session history k e) (next_version a) object (let z : (now session history k e).version ≡ a.version + 1 = omega (arith, own, raised, now_is) in z) in
              or_right (is_out_at history k && has_node session history a k) _ (both_true _ _ moved (node_is k e (next_version a) at ∙ same))
        ]
      where
        or_right : (a b : Bool) → b ≡ true → a || b ≡ true
        or_right true b h = refl
        or_right false b h = h

    pub is_rank : (opened : ℕ → ℕ) (a : Node) → IsRank (told first opened session history) a (rank_of session history a)
    is_rank opened a = record {
      upper = λ k ends. first_below (closes session history a) 0 (length history) k ends.below (ap (closes session history a) (let z : 0 + k ≡ k = omega arith in z) ∙ ends_closes opened a k ends);
      lower = λ m le least. elim (first_passes (closes session history a) 0 (length history)) [
        | inl all ↦ omega (arith, all, le)
        | inr some ↦
            let r : ℕ = rank_of session history a in
            let short = some.0 in
            least r (closes_ends opened a r short (ap (closes session history a) (let z : r ≡ 0 + r = omega arith in z) ∙ some.1))
      ];
    }

-- the history of a session that begins with the opening's versions
pub is_begun : (session : Session) (history : List Entry) (legal : IsLegal session history) (opened : ℕ → ℕ)
    → (fits : (k : ℕ) (e : Entry) → slice_get history k ≡ Some e → max 1 (opened e.what) ≡ opening_version session.start e.what)
    → ((k : ℕ) (e : Entry) → slice_get history k ≡ Some e → 1 ≤ opened e.what → is_opened session.start e.what ≡ true)
    → IsBegun (told (λ o. max 1 (opened o)) opened session history)
is_begun session history legal opened fits known = record {
  start = λ o. refl;
  opens = λ k o within fresh is level. opens k o within fresh is level;
}
  where
    first : ℕ → ℕ
    first = λ o. max 1 (opened o)

    opens : (k o : ℕ) → k < length history → is_fresh_at session history k ≡ true → what_at history k ≡ o → version_at (λ o. max 1 (opened o)) session history o k ≡ opened o → is_freeze_at session history k ≡ true
    opens k o within fresh is level =
        let (e, at) = is_place history k within in
        let same : e.what ≡ o = sym (what_is session history k e at) ∙ is in
        let low : version_at (λ o. max 1 (opened o)) session history o 0 ≤ version_at (λ o. max 1 (opened o)) session history o k =
        mono (told (λ o. max 1 (opened o)) opened session history) (is_told session history legal (λ o. max 1 (opened o)) fits opened) o 0 k (omega arith) (omega (arith, within)) in
        let some : 1 ≤ opened o = omega (arith, level, low) in
        let is_old : is_opened session.start e.what ≡ true = known k e at (subst (λ o. 1 ≤ opened o) (sym same) some) in
        let begins : opening_version session.start e.what ≡ opened e.what = sym (fits k e at) ∙ (let z : 1 ≤ opened e.what = subst (λ o. 1 ≤ opened o) (sym same) some in let y : max 1 (opened e.what) ≡ opened e.what = omega (arith, z) in y) in
        let here : version_in session (nodes_of session (take k history)) e.what ≡ opening_version session.start e.what =
        sym (version_past session history (λ o. max 1 (opened o)) k e.what (omega (arith, within)) (fits k e at)) ∙ ap (λ o. version_at (λ o. max 1 (opened o)) session history o k) same ∙ level ∙ ap opened (sym same) ∙ sym begins in
        fresh_freezes session history legal (λ o. max 1 (opened o)) fits k e at fresh
        (or_right (is_used (take k history) (nodes_of session (take k history)) (node_in session (nodes_of session (take k history)) e.what)) _
        (both_true _ _ is_old (ap (λ v. v == opening_version session.start e.what) here ∙ same_itself (opening_version session.start e.what))))
      where
        or_right : (a b : Bool) → b ≡ true → a || b ≡ true
        or_right true b h = refl
        or_right false b h = h
