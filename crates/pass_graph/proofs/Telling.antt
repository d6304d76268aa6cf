-- A legal history is a story.
use Rattle.std.proofs.Common.{◌≡◌, ◌≢◌, ◌<◌, ◌≤◌, ℕ, suc, List, length, take, refl, ap, sym, ◌∙◌, arith, inl, inr, Bool, true, false, not, ◌||◌, ◌&&◌, ◌==◌}
use Rattle.std.specs.Prelude.{Option, Some, None, slice_get, zip, option_and_then, if◌then◌else◌}
use Rattle.std.specs.Option.{option_map_or}
use Rattle.std.proofs.lemmas.Bool.Decides.{nat_tests}
use Rattle.std.proofs.lemmas.Bool.{or_right, or_left}
use Rattle.pass_entry.specs.declared.entry.Entry.{Entry}
use Rattle.pass_entry.specs.declared.entry.Act.{Act}
use Rattle.pass_entry.specs.declared.entry.Act.TheVariants as act
use Rattle.pass_entry.specs.declared.objects.Node.{Node}
use Rattle.pass_entry.proofs.Places.{slice_get-take, zip_at}
use Rattle.pass_entry.proofs.Variants.{none_if}
use Rattle.pass_plain.specs.Histories.{is_fault, is_out, uses, out_of, source_place}
use Rattle.pass_plain.specs.Sessions.{Session, opening_version}
use Rattle.pass_plain.specs.Legal.{IsLegal}
use Rattle.pass_plain.specs.Versions.{same_node, same_source, version_in, node_in, nodes_of, source_in, is_in, is_exec, always_freezes, is_used, is_marked, is_repeated, is_fresh, is_freeze}
use Rattle.pass_plain.proofs.Lists.{true_left, true_right, both_true, not_false, same_numbers, same_itself, is_place, any_at, any_of, in_take, within_take, some_is}
use Rattle.pass_plain.proofs.Versioned.{zip_left}
use Rattle.pass_plain.proofs.Sources.{source_law}
use Rattle.pass_plain.proofs.Lineages.{exec_or_none}
use Rattle.pass_graph.specs.Places.{out_at, is_out_at, is_in_at, is_fresh_at, is_freeze_at}
use Rattle.pass_graph.proofs.Stories.{Story, Taken, IsStory}
use Rattle.pass_graph.proofs.Standing.{zip_right, version_at, nodes-take, now, node_stands, version_same, version_own, version_past, version_kept, version_moved}

-- the object of the entry at a place, and the place that it names, 0 where there is none
abbrev pub what_at : List Entry → ℕ → ℕ
what_at history k = option_map_or (λ (e : Entry). e.what) (slice_get history k) 0

abbrev pub named_at : List Entry → ℕ → ℕ
named_at history k = option_map_or (λ out. out) (out_at history k) 0

abbrev pub told : (ℕ → ℕ) → (ℕ → ℕ) → Session → List Entry → Story
told first opened session history = record {
  size = length history;
  opened = opened;
  what = what_at history;
  out = named_at history;
  is_out = is_out_at history;
  is_in = is_in_at history;
  fresh = is_fresh_at session history;
  freezes = is_freeze_at session history;
  version = version_at first session history;
}

uses_alone : (a : Act) → uses a ≡ true → (always_freezes a ≡ false) × (out_of a ≡ None)
uses_alone (act.Show fd len) used = (refl, refl)
uses_alone (act.Spawn child) used = (refl, refl)
uses_alone act.Reap used = (refl, refl)
uses_alone (act.Give at len) used = (refl, refl)
uses_alone act.Load used = (refl, refl)
uses_alone (act.Take len) used = (refl, refl)
uses_alone act.Cite used = (refl, refl)
uses_alone _ used = absurd (cc)

pub given_some : (o : Option ℕ) → option_map_or (λ out. true) o false ≡ true → (out : ℕ) × (o ≡ Some out)
given_some None h = absurd (cc)
given_some (Some out) h = (out, refl)

pub no_fault : (b : Bool) (o : Option ℕ) (out : ℕ) → (if b then None else o) ≡ Some out → (b ≡ false) × (o ≡ Some out)
no_fault true o out h = absurd (cc)
no_fault false o out h = (refl, h)

-- the numbers of nodes that are the same
pub same_parts : (a b : Node) → same_node a b ≡ true → (a.pnode ≡ b.pnode) × (a.version ≡ b.version)
same_parts a b h = (same_numbers _ _ (true_left (a.pnode == b.pnode) (a.version == b.version) h), same_numbers _ _ (true_right (a.pnode == b.pnode) (a.version == b.version) h))

pub parts_same : (a b : Node) → a.pnode ≡ b.pnode → a.version ≡ b.version → same_node a b ≡ true
parts_same a b p q = both_true _ _ (ap (λ n. n == b.pnode) p ∙ same_itself b.pnode) (ap (λ n. n == b.version) q ∙ same_itself b.version)

pub same_given : (o p : Option Node) → same_source o p ≡ true → (a : Node) × (b : Node) × (o ≡ Some a) × (p ≡ Some b) × (same_node a b ≡ true)
same_given None p h = absurd (cc)
same_given (Some a) None h = absurd (cc)
same_given (Some a) (Some b) h = (a, b, refl, refl, h)

pub given_place : (nodes : List Node) (o : Option ℕ) (a : Node) → option_map_or (λ out. slice_get nodes out) o None ≡ Some a → (out : ℕ) × (o ≡ Some out) × (slice_get nodes out ≡ Some a)
given_place nodes None a h = absurd (cc)
given_place nodes (Some out) a h = (out, refl, h)

module _ (session : Session) (history : List Entry) (k : ℕ) (e : Entry) (at : slice_get history k ≡ Some e) where
  pub what_is : what_at history k ≡ e.what
  what_is = ap (λ o. option_map_or (λ (e : Entry). e.what) o 0) at

  pub out_is : is_out_at history k ≡ is_out e
  out_is = ap (λ o. option_map_or is_out o false) at

  pub in_is : is_in_at history k ≡ is_in e
  in_is = ap (λ o. option_map_or is_in o false) at

  pub fresh_is : is_fresh_at session history k ≡ is_fresh session (take k history) (nodes_of session (take k history)) e
  fresh_is = ap (λ o. option_map_or (is_fresh session (take k history) (nodes_of session (take k history))) o false) at

  pub freeze_is : is_freeze_at session history k ≡ is_freeze session (take k history) (nodes_of session (take k history)) e
  freeze_is = ap (λ o. option_map_or (is_freeze session (take k history) (nodes_of session (take k history))) o false) at

  pub named_is : (out : ℕ) → source_place e ≡ Some out → (out_at history k ≡ Some out) × (named_at history k ≡ out)
  named_is out names =
      let here : out_at history k ≡ Some out = ap (λ o. option_and_then source_place o) at ∙ names in
      (here, ap (λ o. option_map_or (λ out. out) o 0) here)

-- an IN stands at a place
pub record IsInAt (history : List Entry) (k : ℕ) : Type 0 where
  pub entry : Entry
  pub out : ℕ
  pub source : Entry
  pub stands : slice_get history k ≡ Some entry
  pub names : source_place entry ≡ Some out
  pub named : named_at history k ≡ out
  pub before : out < k
  pub source_stands : slice_get history out ≡ Some source
  pub is_out : is_out source ≡ true

module _ (session : Session) (history : List Entry) (legal : IsLegal session history) where
  pub in_at : (k : ℕ) → k < length history → is_in_at history k ≡ true → IsInAt history k
  in_at k within is =
      let (e, at) = is_place history k within in
      let (out, names) = given_some (source_place e) (sym (in_is session history k e at) ∙ is) in
      let (short, given) = source_law session history legal k e out at names in
      record {
        entry = e;
        out = out;
        source = given.source;
        stands = at;
        names = names;
        named = (named_is session history k e at out names).1;
        before = short;
        source_stands = given.stands;
        is_out = given.gives;
      }

  -- an OUT does not freeze, and is no IN
  pub out_rests : (k : ℕ) (e : Entry) → slice_get history k ≡ Some e → is_out e ≡ true
      → (is_freeze session (take k history) (nodes_of session (take k history)) e ≡ false) × (is_in e ≡ false)
  out_rests k e at is =
      let (never, none) = uses_alone e.act (true_left (uses e.act) (not (is_fault e.reply)) is) in
      let nodes : List Node = nodes_of session (take k history) in
      let idle : is_in e ≡ false = ap (λ o. option_map_or (λ out. true) o false) (none_if (is_fault e.reply) (out_of e.act) none) in (
        ap (λ b. not (is_fault e.reply) && (b || (is_fresh session (take k history) nodes e && is_marked session (take k history) nodes e.what))) never
            ∙ ap (λ b. not (is_fault e.reply) && ((b && (is_exec e.act || not (is_repeated session (take k history) nodes e))) && is_marked session (take k history) nodes e.what)) idle
            ∙ nothing (is_fault e.reply),
        idle,
      )
    where
      nothing : (b : Bool) → not b && false ≡ false
      nothing true = refl
      nothing false = refl

  module _ (first : ℕ → ℕ) (fits : (k : ℕ) (e : Entry) → slice_get history k ≡ Some e → first e.what ≡ opening_version session.start e.what) where
    abbrev version : ℕ → ℕ → ℕ
    version = version_at first session history

    -- the node of an OUT is its object with the version before it
    pub out_node : (q : ℕ) (f : Entry) → slice_get history q ≡ Some f → is_out f ≡ true
        → slice_get (nodes_of session history) q ≡ Some (record { pnode = f.what; version = version f.what q })
    out_node q f at is =
        let own = version_own session history first q f at in
        let kept = version_kept session history first q f at (fits q f at) (out_rests q f at is).0 in
        node_stands session history q f at ∙ (λ i. Some (record { pnode = f.what; version = (sym own ∙ kept) i }))

    -- an IN takes from the object of its OUT with the version there
    pub takes_from : (k : ℕ) (i : IsInAt history k) → source_in (nodes_of session history) i.entry ≡ Some (record { pnode = i.source.what; version = version i.source.what i.out })
    takes_from k i =
        ap (λ o. option_map_or (λ out. slice_get (nodes_of session history) out) o None) i.names ∙ out_node i.out i.source i.source_stands i.is_out

    pub past_node : (k q : ℕ) (n : Node) → k ≤ length history → q < k → slice_get (nodes_of session history) q ≡ Some n → slice_get (nodes_of session (take k history)) q ≡ Some n
    past_node k q n le short at = ap (λ ns. slice_get ns q) (nodes-take session history k le) ∙ in_take q k (nodes_of session history) n short at

    pub takes_past : (k j : ℕ) (i : IsInAt history j) → k ≤ length history → j ≤ k → source_in (nodes_of session (take k history)) i.entry ≡ Some (record { pnode = i.source.what; version = version i.source.what i.out })
    takes_past k j i le short =
        ap (λ o. option_map_or (λ out. slice_get (nodes_of session (take k history)) out) o None) i.names
        ∙ past_node k i.out _ le (omega (arith, i.before)) (out_node i.out i.source i.source_stands i.is_out)

    -- the version of an object is used where an OUT stands at it
    pub used_since : (k j o : ℕ) (f : Entry) → k ≤ length history → first o ≡ opening_version session.start o → slice_get history j ≡ Some f → j < k → is_out f ≡ true → f.what ≡ o → version o j ≡ version o k
        → is_marked session (take k history) (nodes_of session (take k history)) o ≡ true
    used_since k j o f within begins at_j short is same level =
        let nodes : List Node = nodes_of session (take k history) in
        let target : Node = node_in session nodes o in
        let n : Node = record { pnode = f.what; version = version f.what j } in
        let past : version o k ≡ version_in session nodes o = version_past session history first k o within begins in
        or_left (is_used (take k history) nodes target) _
        (any_of (λ (s : Entry × Node). is_out s.0 && same_node s.1 target) (zip (take k history) nodes) j (f, n)
        (zip_at (take k history) nodes j f n (in_take j k history f short at_j) (past_node k j n within short (out_node j f at_j is)))
        (both_true _ _ is (parts_same n target same (ap (λ o. version o j) same ∙ level ∙ past))))

    pub fresh_freezes : (k : ℕ) (e : Entry) → slice_get history k ≡ Some e → is_fresh_at session history k ≡ true
        → is_marked session (take k history) (nodes_of session (take k history)) e.what ≡ true → is_freeze_at session history k ≡ true
    fresh_freezes k e at fresh marked =
        let nodes : List Node = nodes_of session (take k history) in
        let new : is_fresh session (take k history) nodes e ≡ true = sym (fresh_is session history k e at) ∙ fresh in
        let (out, names) = given_some (source_place e) (true_left (is_in e) (is_exec e.act || not (is_repeated session (take k history) nodes e)) new) in
        freeze_is session history k e at
        ∙ both_true _ _ (ap not (no_fault (is_fault e.reply) (out_of e.act) out names).0) (or_right (always_freezes e.act) _ (both_true _ _ new marked))

    pub is_told : (opened : ℕ → ℕ) → IsStory (told first opened session history)
    is_told opened = record {
      same = λ k o within other.
          let (e, at) = is_place history k within in
          version_same session history first k o e at (let z : e.what ≢ o = λ q. other (what_is session history k e at ∙ q) in grind (arith, nat_tests));
      keeps = λ k o within is kept.
          let (e, at) = is_place history k within in
          let same : e.what ≡ o = sym (what_is session history k e at) ∙ is in
          ap (λ o. version o (suc k)) (sym same) ∙ version_kept session history first k e at (fits k e at) (sym (freeze_is session history k e at) ∙ kept) ∙ ap (λ o. version o k) same;
      moves = λ k o within is moved.
          let (e, at) = is_place history k within in
          let same : e.what ≡ o = sym (what_is session history k e at) ∙ is in
          ap (λ o. version o (suc k)) (sym same) ∙ version_moved session history first k e at (fits k e at) (sym (freeze_is session history k e at) ∙ moved) ∙ ap (λ o. suc (version o k)) same;
      outs = λ k within is.
          let (e, at) = is_place history k within in
          let (rests, idle) = out_rests k e at (sym (out_is session history k e at) ∙ is) in
          (freeze_is session history k e at ∙ rests, in_is session history k e at ∙ idle);
      flows = λ k within is.
          let i = in_at k within is in
          (let z = i.named in let y = i.before in omega (arith, z, y), ap (is_out_at history) i.named ∙ out_is session history i.out i.source i.source_stands ∙ i.is_out);
      news = λ k within fresh.
          let (e, at) = is_place history k within in
          in_is session history k e at ∙ true_left (is_in e) _ (sym (fresh_is session history k e at) ∙ fresh);
      marks = λ k j o within fresh is short out is_j level.
          let (e, at) = is_place history k within in
          let (f, at_j) = is_place history j (omega (arith, short, within)) in
          let same : e.what ≡ o = sym (what_is session history k e at) ∙ is in
          let same_j : f.what ≡ o = sym (what_is session history j f at_j) ∙ is_j in
          fresh_freezes k e at fresh (used_since k j e.what f (omega (arith, within)) (fits k e at) at_j short (sym (out_is session history j f at_j) ∙ out) (same_j ∙ sym same)
          (ap (λ o. version o j) same ∙ level ∙ ap (λ o. version o k) (sym same)));
      repeats = λ k o x within is old is_o is_x. repeat k o x within is old is_o is_x;
    }
      where
        repeat : (k o x : ℕ) → k < length history → is_in_at history k ≡ true → is_fresh_at session history k ≡ false → what_at history k ≡ o → what_at history (named_at history k) ≡ x
            → (is_freeze_at session history k ≡ false) × Taken (told first opened session history) k o (version o k) x (version x (named_at history k))
        repeat k o x within is old is_o is_x =
            let i : IsInAt history k = in_at k within is in
            let e : Entry = i.entry in
            let nodes : List Node = nodes_of session (take k history) in
            let past : List Entry = take k history in
            let same : e.what ≡ o = sym (what_is session history k e i.stands) ∙ is_o in
            let here : is_in e ≡ true = sym (in_is session history k e i.stands) ∙ is in
            let stale : is_fresh session past nodes e ≡ false = sym (fresh_is session history k e i.stands) ∙ old in
            let (never, again) = not_new (is_in e) (is_exec e.act) (is_repeated session past nodes e) here stale in
            let steady : always_freezes e.act ≡ false = no_freeze (always_freezes e.act) refl in
            let rests : is_freeze_at session history k ≡ false = freeze_is session history k e i.stands
            ∙ ap (λ b. not (is_fault e.reply) && (b || (is_fresh session past nodes e && is_marked session past nodes e.what))) steady
            ∙ ap (λ b. not (is_fault e.reply) && (b && is_marked session past nodes e.what)) stale ∙ nothing (is_fault e.reply) in
            let (j, s, at_s, passes) = any_at (λ (s : Entry × Node). same_node s.1 (node_in session nodes e.what) && same_source (source_in nodes s.0) (source_in nodes e)) (zip past nodes) again in
            let at_past : slice_get past j ≡ Some s.0 = zip_left past nodes j s at_s in
            let at_j : slice_get history j ≡ Some s.0 = slice_get-take k j history s.0 at_past in
            let short : j < k = within_take k j history s.0 at_past in
            let node_j : slice_get nodes j ≡ Some s.1 = zip_right past nodes j s at_s in
            let is_now : now session history j s.0 ≡ s.1 = some_is _ _ (sym (past_node k j _ (omega (arith, within)) short (node_stands session history j s.0 at_j)) ∙ node_j) in
            let (object, level) = same_parts s.1 (node_in session nodes e.what) (true_left _ _ passes) in
            let object_j : s.0.what ≡ e.what = ap (λ (n : Node). n.pnode) is_now ∙ object in
            let (a, b, is_a, is_b, alike) = same_given (source_in nodes s.0) (source_in nodes e) (true_right (same_node s.1 (node_in session nodes e.what)) _ passes) in
            let (out, names, found) = given_place nodes (source_place s.0) a is_a in
            let ij : IsInAt history j = in_at j (omega (arith, short, within)) (in_is session history j s.0 at_j ∙ ap (λ o. option_map_or (λ out. true) o false) names) in
            let same_entry : ij.entry ≡ s.0 = some_entry _ _ (sym ij.stands ∙ at_j) in
            let from_j : record { pnode = ij.source.what; version = version ij.source.what ij.out } ≡ a = some_is _ _ (sym (takes_past k j ij (omega (arith, within)) (omega (arith, short))) ∙ ap (λ f. source_in nodes f) same_entry ∙ is_a) in
            let from_k : record { pnode = i.source.what; version = version i.source.what i.out } ≡ b = some_is _ _ (sym (takes_past k k i (omega (arith, within)) (omega arith)) ∙ is_b) in
            let (alike_object, alike_version) = same_parts a b alike in
            let source_k : i.source.what ≡ x = sym (what_is session history i.out i.source i.source_stands) ∙ ap (what_at history) (sym i.named) ∙ is_x in
            let source_j : ij.source.what ≡ x = ap (λ (n : Node). n.pnode) from_j ∙ alike_object ∙ sym (ap (λ (n : Node). n.pnode) from_k) ∙ source_k in
            let level_j : version ij.source.what ij.out ≡ version i.source.what i.out = ap (λ (n : Node). n.version) from_j ∙ alike_version ∙ sym (ap (λ (n : Node). n.version) from_k) in (
              rests,
              record {
                place = j;
                below = short;
                is_in = in_is session history j s.0 at_j ∙ ap (λ o. option_map_or (λ out. true) o false) names;
                what = what_is session history j s.0 at_j ∙ object_j ∙ same;
                version =
                    ap (λ o. version o (suc j)) (sym (object_j ∙ same)) ∙ version_own session history first j s.0 at_j ∙ ap (λ (n : Node). n.version) is_now ∙ level
                    ∙ sym (version_past session history first k e.what (omega (arith, within)) (fits k e i.stands)) ∙ ap (λ o. version o k) same;
                source = ap (what_at history) ij.named ∙ what_is session history ij.out ij.source ij.source_stands ∙ source_j;
                source_version =
                    ap (version x) ij.named ∙ ap (λ o. version o ij.out) (sym source_j) ∙ level_j ∙ ap (λ o. version o i.out) source_k ∙ ap (version x) (sym i.named);
              },
            )
          where
            not_new : (here exec again : Bool) → here ≡ true → here && (exec || not again) ≡ false → (exec ≡ false) × (again ≡ true)
            not_new true false again h f = (refl, not_false again f)
            not_new true true again h f = absurd (cc)
            not_new false exec again h f = absurd (cc)

            nothing : (b : Bool) → not b && false ≡ false
            nothing true = refl
            nothing false = refl

            some_entry : (a b : Entry) → ◌≡◌ {A = Option Entry} (Some a) (Some b) → a ≡ b
            some_entry a b e = cc

            no_freeze : (b : Bool) → always_freezes (in_at k within is).entry.act ≡ b → always_freezes (in_at k within is).entry.act ≡ false
            no_freeze false t = t
            no_freeze true t =
                let i : IsInAt history k = in_at k within is in
                let e : Entry = i.entry in
                let stale : is_fresh session (take k history) (nodes_of session (take k history)) e ≡ false = sym (fresh_is session history k e i.stands) ∙ old in
                let (never, again) = not_new (is_in e) (is_exec e.act) (is_repeated session (take k history) (nodes_of session (take k history)) e) (sym (in_is session history k e i.stands) ∙ is) stale in
                elim (exec_or_none e.act t) [
                  | inl exec ↦ absurd (let z : true ≡ false = sym exec ∙ never in cc)
                  | inr none ↦ absurd (let z : None ≡ Some i.out = sym none ∙ (no_fault (is_fault e.reply) (out_of e.act) i.out i.names).1 in cc)
                ]
