-- Chains of flows and origins by the places of a history.
use Rattle.std.proofs.Common.{◌≡◌, ◌<◌, ◌≤◌, ℕ, suc, List, length, refl, ap, sym, ◌∙◌, subst, arith, inl, inr, true, false}
use Rattle.std.specs.Prelude.{Option, Some, None, slice_get, option_map, option_and_then}
use Rattle.std.specs.Option.{option_map_or}
use Rattle.std.proofs.lemmas.Option.{slice_get_within}
use Rattle.pass_entry.specs.declared.entry.Entry.{Entry}
use Rattle.pass_entry.specs.declared.objects.Node.{Node}
use Rattle.pass_entry.specs.declared.record.Record.{Record}
use Rattle.pass_plain.specs.Histories.{source_place}
use Rattle.pass_plain.specs.Sessions.{Session, opening_version}
use Rattle.pass_plain.specs.Legal.{IsLegal}
use Rattle.pass_plain.specs.Versions.{nodes_of}
use Rattle.pass_plain.specs.Flows.{IsFlow, Chain}
use Rattle.pass_plain.specs.Flows.Chain.{one as chain_one, more as chain_more}
use Rattle.pass_plain.specs.Graphs.{HasPath}
use Rattle.pass_plain.specs.Joined.{IsOrigin, IsJoined}
use Rattle.pass_plain.specs.Joined.IsJoined.{earlier as by_earlier, used as by_used, opened as by_opened, used_opened as by_used_opened}
use Rattle.pass_plain.proofs.Lists.{is_place, some_is}
use Rattle.pass_graph.specs.Places.{is_in_at}
use Rattle.pass_graph.proofs.Stories.{Story, IsStory}
use Rattle.pass_graph.proofs.Flowing.{Flows, Reaches}
use Rattle.pass_graph.proofs.Flowing.Flows.{one, more}
use Rattle.pass_graph.proofs.Flowing.Reaches.{earlier, past, flowed}
use Rattle.pass_graph.proofs.Standing.{version_at, now, node_stands, version_own}
use Rattle.pass_graph.proofs.Telling.{what_at, named_at, told, is_told, in_at, IsInAt, what_is, in_is, named_is}

object_of : (o : Option Entry) (n : ℕ) → option_map (λ e. e.what) o ≡ Some n → (e : Entry) × (o ≡ Some e) × (e.what ≡ n)
object_of None n h = absurd (cc)
object_of (Some e) n h = (e, refl, cc)

given_out : (o : Option Entry) (out : ℕ) → option_and_then source_place o ≡ Some out → (e : Entry) × (o ≡ Some e) × (source_place e ≡ Some out)
given_out None out h = absurd (cc)
given_out (Some e) out h = (e, refl, h)

-- a chain with one more flow behind it
behind : {history : List Entry} {source out middle into again target last : ℕ} → Chain history source out middle into → into < again → IsFlow history middle again target last
    → Chain history source out target last
behind (chain_one f) short g = chain_more f short (chain_one g)
behind (chain_more f early rest) short g = chain_more f early (behind rest short g)

-- its first flow, and its last place
begins_with : {history : List Entry} {source out target last : ℕ} → Chain history source out target last → (middle : ℕ) × (into : ℕ) × IsFlow history source out middle into
begins_with (chain_one f) = (_, _, f)
begins_with (chain_more f early rest) = (_, _, f)

-- the flow of an IN, by places
pub record IsFlowAt (history : List Entry) (source out target into : ℕ) : Type 0 where
  pub within : into < length history
  pub is_in : is_in_at history into ≡ true
  pub named : named_at history into ≡ out
  pub source_is : what_at history out ≡ source
  pub target_is : what_at history into ≡ target

module _ (session : Session) (history : List Entry) (legal : IsLegal session history) where
  pub flow_at : {source out target into : ℕ} → IsFlow history source out target into → IsFlowAt history source out target into
  flow_at {source} {out} {target} {into} f =
      let (e, at, names) = given_out (slice_get history into) out f.taken in
      let (g, at_g, object) = object_of (slice_get history into) target f.reached in
      let (s, at_s, from) = object_of (slice_get history out) source f.given in
      record {
        within = slice_get_within history into e at;
        is_in = in_is session history into e at ∙ ap (λ o. option_map_or (λ out. true) o false) names;
        named = (named_is session history into e at out names).1;
        source_is = what_is session history out s at_s ∙ from;
        target_is = what_is session history into g at_g ∙ object;
      }

  pub at_flow : (k : ℕ) → k < length history → is_in_at history k ≡ true → IsFlow history (what_at history (named_at history k)) (named_at history k) (what_at history k) k
  at_flow k within is =
      let i : IsInAt history k = in_at session history legal k within is in
      let named = i.named in
      record {
        given =
            ap (λ o. option_map (λ e. e.what) (slice_get history o)) named ∙ ap (option_map (λ e. e.what)) i.source_stands
            ∙ ap (λ n. Some n) (sym (what_is session history i.out i.source i.source_stands) ∙ ap (what_at history) (sym named));
        reached = ap (option_map (λ e. e.what)) i.stands ∙ ap (λ n. Some n) (sym (what_is session history k i.entry i.stands));
        taken = ap (option_and_then source_place) i.stands ∙ i.names ∙ ap (λ o. Some o) (sym named);
      }

  module _ (first opened : ℕ → ℕ) (fits : (k : ℕ) (e : Entry) → slice_get history k ≡ Some e → first e.what ≡ opening_version session.start e.what) where
    abbrev s : Story
    s = told first opened session history

    abbrev version : ℕ → ℕ → ℕ
    version = version_at first session history

    node_is : (k : ℕ) (n : Node) → slice_get (nodes_of session history) k ≡ Some n → k < length history → (what_at history k ≡ n.pnode) × (version n.pnode (suc k) ≡ n.version)
    node_is k n at within =
        let (e, stands) = is_place history k within in
        let same : now session history k e ≡ n = some_is _ _ (sym (node_stands session history k e stands) ∙ at) in
        let object : e.what ≡ n.pnode = ap (λ (n : Node). n.pnode) same in
        (what_is session history k e stands ∙ object, ap (λ o. version o (suc k)) (sym object) ∙ version_own session history first k e stands ∙ ap (λ (n : Node). n.version) same)

    pub is_node : (k o v : ℕ) → k < length history → what_at history k ≡ o → version o (suc k) ≡ v → slice_get (nodes_of session history) k ≡ Some (record { pnode = o; version = v })
    is_node k o v within is level =
        let (e, stands) = is_place history k within in
        let object : e.what ≡ o = sym (what_is session history k e stands) ∙ is in
        let high : (now session history k e).version ≡ v = sym (version_own session history first k e stands) ∙ ap (λ o. version o (suc k)) object ∙ level in
        node_stands session history k e stands ∙ (λ i. Some (record { pnode = object i; version = high i }))

    -- an OUT has the version before it
    pub out_version : (k : ℕ) → k < length history → is_in_at history k ≡ true → (o : ℕ) → what_at history (named_at history k) ≡ o → version o (suc (named_at history k)) ≡ version o (named_at history k)
    out_version k within is o from =
        let t : IsStory s = is_told session history legal first fits opened in
        let (short, used) = t.flows k within is in
        t.keeps (named_at history k) o (omega (arith, short, within)) from (t.outs (named_at history k) (omega (arith, short, within)) used).0

    joined_to : {p w j again middle target last : ℕ} → Flows s p w j → Chain history middle again target last → what_at history j ≡ middle → j < again → Flows s p w last
    joined_to {p} {w} {j} {again} {middle} {target} {last} c (chain_one f) same short =
        let g = flow_at f in
        more j last c g.within g.is_in (same ∙ sym g.source_is ∙ ap (what_at history) (sym g.named)) (let z = g.named in omega (arith, short, z))
    joined_to {p} {w} {j} {again} {middle} c (chain_more {middle = next} {into = into} f early rest) same short =
        let g = flow_at f in
        joined_to (more j into c g.within g.is_in (same ∙ sym g.source_is ∙ ap (what_at history) (sym g.named)) (let z = g.named in omega (arith, short, z))) rest g.target_is early

    pub to_flows : {source out target last : ℕ} (w : ℕ) → version source out ≡ w → Chain history source out target last → Flows s source w last
    to_flows {source} {out} {target} {last} w level (chain_one f) =
        let g = flow_at f in one last g.within g.is_in (ap (what_at history) g.named ∙ g.source_is) (ap (version source) g.named ∙ level)
    to_flows {source} {out} w level (chain_more {into = into} f early rest) =
        let g = flow_at f in
        joined_to (one into g.within g.is_in (ap (what_at history) g.named ∙ g.source_is) (ap (version source) g.named ∙ level)) rest g.target_is early

    -- the chain of flows that end at a place
    record Ending (p w k : ℕ) : Type 0 where
      out : ℕ
      chain : Chain history p out (what_at history k) k
      used : slice_get (nodes_of session history) out ≡ Some (record { pnode = p; version = w })

    of_flows : {p w k : ℕ} → Flows s p w k → Ending p w k
    of_flows {p} {w} (one k within is from level) =
        let t : IsStory s = is_told session history legal first fits opened in
        let (short, marks) = t.flows k within is in
        record {
          out = named_at history k;
          chain = subst (λ o. Chain history o (named_at history k) (what_at history k) k) from (chain_one (at_flow k within is));
          used = is_node (named_at history k) p w (omega (arith, short, within)) from (out_version k within is p from ∙ level);
        }
    of_flows {p} {w} (more j k c within is same early) =
        let rest = of_flows c in
        record {
          out = rest.out;
          chain = behind rest.chain early (subst (λ o. IsFlow history o (named_at history k) (what_at history k) k) (sym same) (at_flow k within is));
          used = rest.used;
        }

    flows_within : {p w k : ℕ} → Flows s p w k → k < length history
    flows_within (one k within is from level) = within
    flows_within (more j k c within is same early) = within

    -- origins

    pub from_origin : (t b : Node) → IsOrigin session history t b → (k : ℕ) × Flows s b.pnode b.version k × (what_at history k ≡ t.pnode) × (version t.pnode (suc k) ≤ t.version)
    from_origin t b o =
        let (middle, into, f) = begins_with o.chain in
        let g = flow_at f in
        let first_out : named_at history into ≡ o.out = g.named in
        let story : IsStory s = is_told session history legal first fits opened in
        let before : (named_at history into < into) × _ = story.flows into g.within g.is_in in
        let (from, level) = node_is o.out b o.used (let y = before.0 in let z = g.within in omega (arith, first_out, y, z)) in
        let kept : version b.pnode (suc (named_at history into)) ≡ version b.pnode (named_at history into) = out_version into g.within g.is_in b.pnode (ap (what_at history) first_out ∙ from) in
        let c : Flows s b.pnode b.version o.into = to_flows b.version (ap (version b.pnode) (sym first_out) ∙ sym kept ∙ ap (λ n. version b.pnode (suc n)) first_out ∙ level) o.chain in
        let (here, at) = node_is o.into (record { pnode = t.pnode; version = o.version }) o.reached (flows_within c) in
        (o.into, c, here, (let z = o.no_later in omega (arith, at, z)))

    pub to_origin : (t b : Node) (k : ℕ) → Flows s b.pnode b.version k → what_at history k ≡ t.pnode → version t.pnode (suc k) ≤ t.version → IsOrigin session history t b
    to_origin t b k c is low =
        let e = of_flows c in
        record {
          out = e.out;
          into = k;
          chain = subst (λ o. Chain history b.pnode e.out o k) is e.chain;
          used = e.used;
          version = version t.pnode (suc k);
          reached = is_node k t.pnode (version t.pnode (suc k)) (flows_within c) is refl;
          no_later = low;
        }

    pub to_reaches : (before : List Record) (a b : Node) → IsJoined session history before a b → Reaches s before a b
    to_reaches before a b (by_earlier same less) = earlier same less
    to_reaches before a b (by_used o origin same le) =
        let (k, c, is, low) = from_origin a o origin in flowed o k c is low (inl (same, le))
    to_reaches before a b (by_opened w same le path) = past (w.version, le, subst (λ n. HasPath before (record { pnode = n; version = w.version }) b) same path)
    to_reaches before a b (by_used_opened o w origin same le path) =
        let (k, c, is, low) = from_origin a o origin in
        flowed o k c is low (inr (w.version, le, subst (λ n. HasPath before (record { pnode = n; version = w.version }) b) same path))

    pub to_joined : (before : List Record) (a b : Node) → Reaches s before a b → IsJoined session history before a b
    to_joined before a b (earlier same less) = by_earlier same less
    to_joined before a b (past back) = by_opened (record { pnode = a.pnode; version = back.0 }) refl back.1 back.2
    to_joined before a b (flowed o k c is low alt) = elim alt [
      | inl up ↦ by_used o (to_origin a o k c is low) up.0 up.1
      | inr back ↦ by_used_opened o (record { pnode = o.pnode; version = back.0 }) (to_origin a o k c is low) refl back.1 back.2
    ]
