-- The records of an entry may stand after those of the entries before it.
use Rattle.std.proofs.Common.{ℕ, ◌≡◌, ◌≤◌, ◌<◌, ◌+◌, ◌==◌, suc, max, Bool, true, false, not, ◌||◌, ◌&&◌, ◌⊎◌, inl, inr, refl, sym, ap, ◌∙◌, subst, List, [], ◌∷◌, ◌++◌, length, take, arith, cond}
use native.Mathlib.Decide.{ℕ_discrete}
use Rattle.std.specs.Prelude.{Option, Some, None, slice_get, option_map, option_and_then, Contains, if◌then◌else◌}
use Rattle.std.specs.Option.{option_map_or}
use Rattle.std.specs.FinMap as finite_map
use Rattle.std.proofs.lemmas.List.Elements.{Contains-append_cases, Contains-push_cases}
use Rattle.std.proofs.lemmas.Option.{slice_get_within, get_or_from_slice_get}
use Rattle.std.proofs.lemmas.Bool.{cases_Bool}
use Rattle.std.proofs.lemmas.List.{take-take}
use Rattle.pass_entry.specs.declared.entry.Entry.{Entry}
use Rattle.pass_entry.specs.declared.entry.Act.{Act}
use Rattle.pass_entry.specs.declared.entry.Act.TheVariants as act
use Rattle.pass_entry.specs.declared.entry.Reply.{Reply}
use Rattle.pass_entry.specs.declared.entry.Reply.TheVariants as answer
use Rattle.pass_entry.specs.declared.entry.CallFault.{CallFault}
use Rattle.pass_entry.specs.declared.entry.CallFault.TheVariants as fault
use Rattle.pass_entry.specs.declared.objects.Kind.{Kind}
use Rattle.pass_entry.specs.declared.objects.Kind.TheVariants as kind
use Rattle.pass_entry.specs.declared.objects.Node.{Node}
use Rattle.pass_entry.specs.declared.record.Record.{Record}
use Rattle.pass_entry.specs.declared.record.Record.TheVariants as log
use Rattle.pass_entry.proofs.Places.{take_one_more}
use Rattle.pass_entry.proofs.Variants.{some_of}
use Rattle.pass_plain.specs.Histories.{is_fault, uses, out_of, own_step, call_entries}
use Rattle.pass_plain.specs.Sessions.{Session, opening_version}
use Rattle.pass_plain.specs.Registries.{Registry, Exists, registry_after, registry_act, is_full, next_pnode}
use Rattle.pass_plain.specs.Processes.{Process}
use Rattle.pass_plain.specs.Calls.{Made, Step}
use Rattle.pass_plain.specs.Replies.{reply_to, minted, done_if}
use Rattle.pass_plain.specs.Legal.{IsLegal, MayFollow, before_call}
use Rattle.pass_plain.specs.Lawful.{is_registry_act}
use Rattle.pass_plain.specs.Versions.{same_node, nodes_of, source_in, always_freezes, is_exec, is_marked, is_repeated, is_fresh, is_freeze}
use Rattle.pass_plain.specs.Graphs.IsEdge.{input as by_input}
use Rattle.pass_plain.specs.Records.{entry_records, act_records, version_records, extra_records, file_named}
use Rattle.pass_plain.specs.WellLogged.{has_source, is_input}
use Rattle.pass_plain.proofs.Lists.{true_left, true_right, some_is, is_place}
use Rattle.pass_plain.proofs.Replays.{own_step-own, own_step-other, own_step-fault}
use Rattle.pass_plain.proofs.Rows.{Row}
use Rattle.pass_plain.proofs.Calling.{legal_take, row}
use Rattle.pass_plain.proofs.Making.{registry-append, made_reply, stocked}
use Rattle.pass_plain.proofs.Holding.{objects_stay_take}
use Rattle.pass_plain.proofs.Objects.{object_law}
use Rattle.pass_graph.specs.Openings.{Opens, session_list}
use Rattle.pass_graph.specs.Places.{object_at, source_at, is_fresh_at, is_freeze_at}
use Rattle.pass_graph.proofs.Stories.{Story, IsStory, mono, is_later}
use Rattle.pass_graph.proofs.Falling.{after_taking}
use Rattle.pass_graph.proofs.Standing.{version_at, now, version_own, version_step}
use Rattle.pass_graph.proofs.Telling.{what_at, named_at, told, in_at, IsInAt, takes_from, takes_past, same_parts, what_is, in_is, fresh_is, freeze_is}
use Rattle.pass_graph.proofs.Recording.{recorded}
use Rattle.pass_graph.proofs.Edging.{took_at}
use Rattle.pass_graph.proofs.Logging.{opened_by}
use Rattle.pass_graph.proofs.Opening.{fits}
use Rattle.pass_graph.proofs.Wording.{no_freeze, words_law}
use Rattle.pass_graph.proofs.Proved.{of_either, is, begun, opening}
use Rattle.pass_graph.proofs.Accepting.{IsTold, fine_one, none_any, version_told, version_fine, input_told, input_fine, attr_told, attr_fine}
use Rattle.pass_graph.proofs.Naming.{Stepped, stepped-append, nothing_stepped, mint_step, bind_step, unbind_step, move_step}
use Rattle.pass_graph.proofs.Contents.{extra_step}

-- an OUT is on no registry
out_object : (a : Act) → uses a ≡ true → is_registry_act a ≡ false
out_object (act.Bind name) is = absurd (cc)
out_object (act.Find name) is = absurd (cc)
out_object (act.Move old new) is = absurd (cc)
out_object (act.Unbind name) is = absurd (cc)
out_object (act.Mint k) is = absurd (cc)
out_object (act.Known n) is = absurd (cc)
out_object _ is = refl

-- an act on the registry makes no version
pub registry_rests : (a : Act) → is_registry_act a ≡ true → (always_freezes a ≡ false) × (out_of a ≡ None)
registry_rests (act.Bind name) is = (refl, refl)
registry_rests (act.Find name) is = (refl, refl)
registry_rests (act.Move old new) is = (refl, refl)
registry_rests (act.Unbind name) is = (refl, refl)
registry_rests (act.Mint k) is = (refl, refl)
registry_rests (act.Known n) is = (refl, refl)
registry_rests _ is = absurd (cc)

pub registry_extra : (session : Session) (past : List Entry) (e : Entry) (n : Node) (a : Act) → is_registry_act a ≡ true → extra_records session past e n a ≡ []
registry_extra session past e n (act.Bind name) is = refl
registry_extra session past e n (act.Find name) is = refl
registry_extra session past e n (act.Move old new) is = refl
registry_extra session past e n (act.Unbind name) is = refl
registry_extra session past e n (act.Mint k) is = refl
registry_extra session past e n (act.Known n') is = refl
registry_extra session past e n _ is = absurd (cc)

-- an act changes the registry only where it is on the registry
changes_or_zero : (who : ℕ) (p : Process) (made : Made) (steps : List Step) (k what : ℕ) (a : Act) (r : Registry) (y : Reply) → Row who p made steps k what a → (what ≡ 0) ⊎ (registry_act r a y ≡ r)
changes_or_zero who p made steps k what (act.Bind name) r y on = inl on
changes_or_zero who p made steps k what (act.Move old new) r y on = inl on
changes_or_zero who p made steps k what (act.Unbind name) r y on = inl on
changes_or_zero who p made steps k what (act.Mint kd) r y on = inl on
changes_or_zero who p made steps k what _ r y on = inr refl

-- replies that are no faults

room_if : (b : Bool) (y z : Reply) → cond b (answer.Fault fault.TooMany) y ≡ z → is_fault z ≡ false → b ≡ false
room_if true y z e fine = absurd (let n : true ≡ false = ap is_fault e ∙ fine in cc)
room_if false y z e fine = refl

free_if : (b : Bool) (y z : Reply) → cond b (answer.Fault fault.Exists) y ≡ z → is_fault z ≡ false → (b ≡ false) × (y ≡ z)
free_if true y z e fine = absurd (let n : true ≡ false = ap is_fault e ∙ fine in cc)
free_if false y z e fine = (refl, e)

done_is : (b : Bool) (f : CallFault) (z : Reply) → done_if b f ≡ z → is_fault z ≡ false → b ≡ true
done_is true f z e fine = refl
done_is false f z e fine = absurd (let n : true ≡ false = ap is_fault e ∙ fine in cc)

module _ (before : List Record) (session : Session) (history : List Entry) (opens : Opens before session) (legal : IsLegal session history) where
  abbrev opened : ℕ → ℕ
  opened = opened_by before

  abbrev first : ℕ → ℕ
  first = λ o. max 1 (opened_by before o)

  abbrev s : Story
  s = told first opened session history

  abbrev version : ℕ → ℕ → ℕ
  version = version_at first session history

  abbrev begins : (k : ℕ) (e : Entry) → slice_get history k ≡ Some e → first e.what ≡ opening_version session.start e.what
  begins = fits before session opens history legal

  h : IsStory s
  h = is before session history opens legal

  abbrev listed : ℕ → List Record
  listed k = session_list before session (take k history)

  -- an Input that stands before an entry is one of the opening, or of an earlier fresh IN
  input_before : (k : ℕ) (a b : Node) → k ≤ length history → Contains (listed k) (log.Input a b)
      → Contains before (log.Input a b)
      ⊎ ((j : ℕ) × (j < k) × (is_fresh_at session history j ≡ true) × (what_at history j ≡ a.pnode) × (version a.pnode (suc j) ≡ a.version) × (what_at history (named_at history j) ≡ b.pnode) × (version b.pnode (named_at history j) ≡ b.version))
  input_before k a b le there = elim (of_either before session (take k history) (log.Input a b) (λ c z. cc) there) [
    | inl l ↦ inl l
    | inr own ↦
        let (j, f, short, at, put) = recorded session history k le (log.Input a b) own in
        let (new, object, level, object_b, level_b) = took_at session history legal first begins a b j f at put in
        inr (j, short, new, object, level, object_b, level_b)
  ]

  module _ (k : ℕ) (e : Entry) (at : slice_get history k ≡ Some e) where
    abbrev past : List Entry
    past = take k history

    abbrev nodes : List Node
    nodes = nodes_of session (take k history)

    abbrev n : Node
    n = now session history k e

    abbrev r : Registry
    r = registry_after session (take k history)

    abbrev after : ℕ → ℕ
    after = λ o. version o (suc k)

    within : k < length history
    within = slice_get_within history k e at

    legal_past : IsLegal session past
    legal_past = legal_take session history k legal

    next : MayFollow session past e
    next = legal k e at

    object : what_at history k ≡ n.pnode
    object = what_is session history k e at

    level : version n.pnode (suc k) ≡ n.version
    level = version_own session history first k e at

    before_now : n.pnode ≡ e.what
    before_now = refl

    new_at : is_fresh session past nodes e ≡ true → is_fresh_at session history k ≡ true
    new_at fresh = fresh_is session history k e at ∙ fresh

    above_opening : is_fresh_at session history k ≡ true → opened n.pnode < n.version
    above_opening fresh = let z = is_later s h (begun before session history opens legal) k n.pnode within fresh object in let y = level in omega (arith, z, y)

    -- an OUT that stands before the entry is not at the entry's node
    not_before : is_fresh_at session history k ≡ true → (j : ℕ) → j < k → is_fresh_at session history j ≡ true → what_at history (named_at history j) ≡ n.pnode → version n.pnode (named_at history j) ≡ n.version → ⊥
    not_before fresh j short new_j object_b level_b =
        let here = within in
        let (out_short, out_is) = h.flows j (omega (arith, short, here)) (h.news j (omega (arith, short, here)) new_j) in
        let late = after_taking s h n k within fresh object level (named_at history j) (record { below = omega (arith, out_short, short, here); what = object_b; version = level_b; how = inl out_is }) in
        omega (arith, late, out_short, short)

    unnamed : is_fresh_at session history k ≡ true → (a : Node) → Contains (listed k) (log.Input a n) → ⊥
    unnamed fresh a there = elim (input_before k a n (let z = within in omega (arith, z)) there) [
      | inl l ↦ let z = above_opening fresh in let y = ((opening before session history opens legal).ends a n (by_input l)).1.1 in omega (arith, z, y)
      | inr m ↦ let (j, short, new_j, object_a, level_a, object_b, level_b) = m in not_before fresh j short new_j object_b level_b
    ]

    own_source : is_fresh_at session history k ≡ true → IsInAt history k
    own_source fresh = in_at session history legal k within (h.news k within fresh)

    same_own : (fresh : is_fresh_at session history k ≡ true) → (own_source fresh).entry ≡ e
    same_own fresh = some_is _ _ (sym (own_source fresh).stands ∙ at)

    -- the node from which the entry takes
    source_node : (src : Node) (fresh : is_fresh_at session history k ≡ true) → source_in nodes e ≡ Some src
        → (what_at history (named_at history k) ≡ src.pnode) × (version src.pnode (named_at history k) ≡ src.version) × (source_at session history k ≡ Some src)
    source_node src fresh given =
        let i = own_source fresh in
        let same = same_own fresh in
        let here = within in
        let pair : record { pnode = i.source.what; version = version i.source.what i.out } ≡ src =
        some_is _ _ (sym (takes_past session history legal first begins k k i (omega (arith, here)) (omega arith)) ∙ ap (λ f. source_in nodes f) same ∙ given) in
        let from : i.source.what ≡ src.pnode = ap (λ (m : Node). m.pnode) pair in (
          ap (what_at history) i.named ∙ what_is session history i.out i.source i.source_stands ∙ from,
          ap (version src.pnode) i.named ∙ ap (λ o. version o i.out) (sym from) ∙ ap (λ (m : Node). m.version) pair,
          ap (option_and_then (source_in (nodes_of session history))) i.stands ∙ takes_from session history legal first begins k i ∙ ap (λ m. Some m) pair,
        )

    apart : (src : Node) → is_fresh_at session history k ≡ true → source_in nodes e ≡ Some src → same_node n src ≡ false
    apart src fresh given = by_test (same_node n src) refl
      where
        by_test : (b : Bool) → same_node n src ≡ b → same_node n src ≡ false
        by_test false t = t
        by_test true t =
            let (from, high, whole) = source_node src fresh given in
            let (same, alike) = same_parts n src t in
            let here = within in
            let (out_short, out_is) = h.flows k within (h.news k within fresh) in
            let own : version n.pnode (named_at history k) ≡ n.version = ap (λ o. version o (named_at history k)) same ∙ high ∙ sym alike in
            let late = after_taking s h n k within fresh object level (named_at history k) (record { below = omega (arith, out_short, here); what = from ∙ sym same; version = own; how = inl out_is }) in
            absurd (omega (arith, late, out_short))

    -- the edge is none of those before
    once : (src : Node) → is_fresh_at session history k ≡ true → source_in nodes e ≡ Some src → Contains (listed k) (log.Input n src) → ⊥
    once src fresh given there = elim (input_before k n src (let z = within in omega (arith, z)) there) [
      | inl l ↦ let z = above_opening fresh in let y = ((opening before session history opens legal).ends n src (by_input l)).0.1 in omega (arith, z, y)
      | inr m ↦ let (j, short, new_j, object_a, level_a, object_b, level_b) = m in earlier j short new_j object_a level_a object_b level_b
    ]
      where
        earlier : (j : ℕ) → j < k → is_fresh_at session history j ≡ true → what_at history j ≡ n.pnode → version n.pnode (suc j) ≡ n.version → what_at history (named_at history j) ≡ src.pnode → version src.pnode (named_at history j) ≡ src.version → ⊥
        earlier j short new_j object_a level_a object_b level_b =
            let here = within in
            let own = level in
            let within_j : j < length history = omega (arith, short, here) in
            let rise : version n.pnode (suc j) ≤ version n.pnode k = mono s h n.pnode (suc j) k short (omega (arith, here)) in
            elim (cases_Bool (is_freeze_at session history k)) [
              | inl moved ↦ let z = h.moves k n.pnode within object moved in omega (arith, z, own, level_a, rise)
              | inr kept ↦
                  let z = h.keeps k n.pnode within object kept in
                  let same : version n.pnode (suc j) ≡ version n.pnode k = level_a ∙ sym own ∙ z in
                  let i : IsInAt history j = in_at session history legal j within_j (h.news j within_j new_j) in
                  let from : i.source.what ≡ src.pnode = sym (what_is session history i.out i.source i.source_stands) ∙ ap (what_at history) (sym i.named) ∙ object_b in
                  let high : version i.source.what i.out ≡ src.version = ap (λ o. version o i.out) from ∙ ap (version src.pnode) (sym i.named) ∙ level_b in
                  let from_j : source_at session history j ≡ Some src = ap (option_and_then (source_in (nodes_of session history))) i.stands ∙ takes_from session history legal first begins j i ∙ (λ x. Some (record { pnode = from x; version = high x })) in
                  let w = words_law session history legal k e at in
                  let (is_in_k, why) = w.fresh.0 fresh in
                  elim why [
                    | inl exec ↦
                        let fine : is_fault e.reply ≡ false = no_fault_in (is_fault e.reply) (out_of e.act) (sym (in_is session history k e at) ∙ is_in_k) in
                        let z : true ≡ false = sym (w.freezes.1 (fine, inr (inl exec))) ∙ kept in cc
                    | inr never ↦ never src (source_node src fresh given).2 (record {
                      into = j;
                      stands = short;
                      is_in = h.news j within_j new_j;
                      on = on_object j within_j object_a;
                      from = from_j;
                      since = λ f jf fk on_f. no_freeze s h n.pnode (suc j) k f (omega (arith, here)) same jf fk (object_of f (omega (arith, fk, here)) on_f);
                    })
                  ]
            ]
          where
            no_fault_in : (b : Bool) (o : Option ℕ) → option_map_or (λ out. true) (if b then None else o) false ≡ true → b ≡ false
            no_fault_in true o z = absurd (cc)
            no_fault_in false o z = refl

            on_object : (j : ℕ) → j < length history → what_at history j ≡ n.pnode → object_at history j ≡ Some n.pnode
            on_object j short same =
                let (f, at_f) = is_place history j short in
                ap (option_map (λ (e : Entry). e.what)) at_f ∙ ap (λ o. Some o) (sym (what_is session history j f at_f) ∙ same)

            object_of : (f : ℕ) → f < length history → object_at history f ≡ Some n.pnode → what_at history f ≡ n.pnode
            object_of f short on =
                let (g, at_g) = is_place history f short in
                what_is session history f g at_g ∙ some_is _ _ (sym (ap (option_map (λ (e : Entry). e.what)) at_g) ∙ on)

    -- the object of the source exists
    source_exists : (src : Node) → is_fresh_at session history k ≡ true → source_in nodes e ≡ Some src → (j : Kind) × Exists r src.pnode j
    source_exists src fresh given =
        let i = own_source fresh in
        let here = within in
        let front : List Entry = take i.out history in
        let legal_front : IsLegal session front = legal_take session history i.out legal in
        let from : i.source.what ≡ src.pnode = sym (what_is session history i.out i.source i.source_stands) ∙ ap (what_at history) (sym i.named) ∙ (source_node src fresh given).0 in
        elim (object_law session opens.sound front i.source legal_front (legal i.out i.source i.source_stands)) [
          | inl z ↦ absurd (let y : true ≡ false = sym z.0 ∙ out_object i.source.act (true_left (uses i.source.act) (not (is_fault i.source.reply)) i.is_out) in cc)
          | inr m ↦
              let shorter : take i.out past ≡ front = let y = i.before in take-take i.out k history (omega (arith, y)) in
              let has : Exists (registry_after session (take i.out past)) i.source.what m.0 = subst (λ x. Exists (registry_after session x) i.source.what m.0) (sym shorter) m.1 in
              (m.0, subst (λ o. Exists r o m.0) from (objects_stay_take session past i.out i.source.what m.0 has))
        ]

    module _ (t : IsTold session (listed k) r (λ o. version o k)) where
      -- the list after the entry's Version, where it freezes
      abbrev versions : List Record
      versions = if is_freeze session past nodes e then log.Version n ∷ [] else []

      abbrev inputs : List Record
      inputs = if is_fresh session past nodes e then option_map_or (λ source. log.Input n source ∷ []) (source_in nodes e) [] else []

      still : is_freeze session past nodes e ≡ false → (o : ℕ) → version o k ≡ version o (suc k)
      still kept o = elim (ℕ_discrete (what_at history k) o) [
        | yes on ↦ sym (h.keeps k o within on (freeze_is session history k e at ∙ kept))
        | no off ↦ sym (h.same k o within off)
      ]

      same_told : ((o : ℕ) → version o k ≡ version o (suc k)) → IsTold session (listed k) r after
      same_told same = record { known = t.known; bound = t.bound; ceiling = t.ceiling; counts = t.counts; names = t.names; current = λ o. t.current o ∙ same o }

      versions_step : (j : Kind) → Exists r e.what j → Stepped session (listed k) r after versions
      versions_step j has = by_freeze (is_freeze session past nodes e) refl
        where
          by_freeze : (b : Bool) → is_freeze session past nodes e ≡ b → Stepped session (listed k) r after (if b then log.Version n ∷ [] else [])
          by_freeze true moved =
              let raised = h.moves k n.pnode within object (freeze_is session history k e at ∙ moved) in
              let own = level in (
                fine_one (listed k) (log.Version n) (version_fine session (listed k) r (λ o. version o k) t n j has (omega (arith, raised, own))),
                version_told session (listed k) r (λ o. version o k) t n after (λ o. sym (version_step session history first k o e at)),
              )
          by_freeze false kept = nothing_stepped session (listed k) r after (same_told (still kept))

      only_inputs : (a b : Node) → Contains (listed k ++ versions) (log.Input a b) → Contains (listed k) (log.Input a b)
      only_inputs a b there = elim (Contains-append_cases (listed k) versions (log.Input a b) there) [ inl l ↦ l | inr m ↦ absurd (by_freeze (is_freeze session past nodes e) m) ]
        where
          by_freeze : (f : Bool) → Contains (if f then log.Version n ∷ [] else []) (log.Input a b) → ⊥
          by_freeze true m = elim (Contains-push_cases [] (log.Version n) (log.Input a b) m) [ inl z ↦ let y = z.1 in omega (arith, y) | inr z ↦ cc ]
          by_freeze false m = let y = m.1 in omega (arith, y)

      inputs_step : (j : Kind) → Exists r e.what j → IsTold session (listed k ++ versions) r after → Stepped session (listed k ++ versions) r after inputs
      inputs_step j has t1 = by_fresh (is_fresh session past nodes e) refl
        where
          by_source : is_fresh session past nodes e ≡ true → (o : Option Node) → source_in nodes e ≡ o → Stepped session (listed k ++ versions) r after (option_map_or (λ source. log.Input n source ∷ []) o [])
          by_source fresh None given = nothing_stepped session (listed k ++ versions) r after t1
          by_source fresh (Some src) given =
              let new : is_fresh_at session history k ≡ true = new_at fresh in
              let (from, high, whole) = source_node src new given in
              let (i, there) = source_exists src new given in
              let (out_short, out_is) = h.flows k within (h.news k within new) in
              let here = within in
              let rise : version src.pnode (named_at history k) ≤ version src.pnode (suc k) = mono s h src.pnode (named_at history k) (suc k) (omega (arith, out_short)) (omega (arith, here)) in
              let free = none_any (has_source n) (listed k ++ versions) (λ i x at_x passes. free_of i x at_x passes new) in
              let alone = none_any (is_input n src) (listed k ++ versions) (λ i x at_x passes. once_of src i x at_x passes new given) in (
                fine_one (listed k ++ versions) (log.Input n src)
                    (input_fine session (listed k ++ versions) r after t1 n src j i has there (omega (arith, rise, high)) (sym level) free (apart src new given) alone),
                input_told session (listed k ++ versions) r after t1 n src,
              )
            where
              placed : (xs : List Record) (i : ℕ) (x : Record) → slice_get xs i ≡ Some x → Contains xs x
              placed xs i x at_x = (i, slice_get_within xs i x at_x, get_or_from_slice_get xs i x x at_x)

              same_is : (a b : Node) → same_node a b ≡ true → a ≡ b
              same_is a b q = let (p, v) = same_parts a b q in λ i. record { pnode = p i; version = v i }

              free_of : (i : ℕ) (x : Record) → slice_get (listed k ++ versions) i ≡ Some x → has_source n x ≡ true → is_fresh_at session history k ≡ true → ⊥
              free_of i (log.Input a b) at_x passes new =
                  unnamed new a (subst (λ m. Contains (listed k) (log.Input a m)) (same_is b n passes) (only_inputs a b (placed (listed k ++ versions) i (log.Input a b) at_x)))
              free_of i _ at_x passes new = cc

              once_of : (src : Node) (i : ℕ) (x : Record) → slice_get (listed k ++ versions) i ≡ Some x → is_input n src x ≡ true → is_fresh_at session history k ≡ true → source_in nodes e ≡ Some src → ⊥
              once_of src i (log.Input a b) at_x passes new given =
                  once src new given (subst (λ m. Contains (listed k) (log.Input m src)) (same_is a n (true_left (same_node a n) _ passes))
                  (subst (λ m. Contains (listed k) (log.Input a m)) (same_is b src (true_right (same_node a n) _ passes)) (only_inputs a b (placed (listed k ++ versions) i (log.Input a b) at_x))))
              once_of src i _ at_x passes new given = cc

          by_fresh : (b : Bool) → is_fresh session past nodes e ≡ b → Stepped session (listed k ++ versions) r after (if b then option_map_or (λ source. log.Input n source ∷ []) (source_in nodes e) [] else [])
          by_fresh false stale = nothing_stepped session (listed k ++ versions) r after t1
          by_fresh true fresh = by_source fresh (source_in nodes e) refl

      -- the records of an entry that makes versions
      flow_step : Stepped session (listed k) r after (version_records session past e n ++ extra_records session past e n e.act)
      flow_step = elim (object_law session opens.sound past e legal_past next) [
        | inl z ↦
            let (steady, none) = registry_rests e.act z.0 in
            let stale : is_fresh session past nodes e ≡ false = ap (λ o. option_map_or (λ out. true) o false && (is_exec e.act || not (is_repeated session past nodes e))) (not_named (is_fault e.reply) (out_of e.act) none) in
            let kept : is_freeze session past nodes e ≡ false =
            ap (λ b. not (is_fault e.reply) && (b || (is_fresh session past nodes e && is_marked session past nodes e.what))) steady
            ∙ ap (λ b. not (is_fault e.reply) && (b && is_marked session past nodes e.what)) stale ∙ nothing (is_fault e.reply) in
            let empty : version_records session past e n ++ extra_records session past e n e.act ≡ [] =
            ap (λ b. ((if b then log.Version n ∷ [] else []) ++ inputs) ++ extra_records session past e n e.act) kept
            ∙ ap (λ b. (if b then option_map_or (λ source. log.Input n source ∷ []) (source_in nodes e) [] else []) ++ extra_records session past e n e.act) stale
            ∙ registry_extra session past e n e.act z.0 in
            subst (Stepped session (listed k) r after) (sym empty) (nothing_stepped session (listed k) r after (same_told (still kept)))
        | inr m ↦
            let one = versions_step m.0 m.1 in
            let two = inputs_step m.0 m.1 one.1 in
            let both = stepped-append session (listed k) r r after after versions inputs one two in
            stepped-append session (listed k) r r after after (versions ++ inputs) (extra_records session past e n e.act) both
            (extra_step session past e (listed k ++ (versions ++ inputs)) r after both.1 n m.0 e.act before_now m.1 m.2 (sym level))
      ]
        where
          not_named : (b : Bool) (o : Option ℕ) → o ≡ None → (if b then None else o) ≡ None
          not_named true o z = refl
          not_named false o z = z

          nothing : (b : Bool) → not b && false ≡ false
          nothing true = refl
          nothing false = refl

      rests_at : (a : Act) → e.act ≡ a → is_registry_act a ≡ true → IsTold session (listed k) r after
      rests_at a same registry =
          let (steady, none) = registry_rests a registry in
          same_told (still (
          ap (λ b. not (is_fault e.reply) && (b || (is_fresh session past nodes e && is_marked session past nodes e.what))) (ap always_freezes same ∙ steady)
          ∙ ap (λ o. not (is_fault e.reply) && ((option_map_or (λ out. true) o false && (is_exec e.act || not (is_repeated session past nodes e))) && is_marked session past nodes e.what)) (not_named (is_fault e.reply) (out_of e.act) (ap out_of same ∙ none))
          ∙ nothing (is_fault e.reply)
          ))
        where
          not_named : (b : Bool) (o : Option ℕ) → o ≡ None → (if b then None else o) ≡ None
          not_named true o z = refl
          not_named false o z = z

          nothing : (b : Bool) → not b && false ≡ false
          nothing true = refl
          nothing false = refl

      reply_is : (a : Act) → e.act ≡ a → reply_to session past e.what a ≡ Some e.reply
      reply_is a same = ap (λ a. reply_to session past e.what a) (sym same) ∙ next.replied

      act_step : is_fault e.reply ≡ false → (a : Act) → e.act ≡ a → Stepped session (listed k) (registry_act r a e.reply) after (act_records session past e n a)
      act_step fine (act.Bind name) same =
          let reply = some_is _ _ (reply_is (act.Bind name) same) in
          let (free, given) = free_if (finite_map.contains_key r.names name) (minted session r kind.File) e.reply reply fine in
          bind_step session (listed k) r after (rests_at (act.Bind name) same refl) name e.reply
          (made_reply session past e.what (act.Bind name) e.reply (reply_is (act.Bind name) same) fine kind.File refl) (room_if (is_full session r kind.File) (answer.Made (next_pnode session r)) e.reply given fine) free
      act_step fine (act.Mint kd) same =
          mint_step session (listed k) r after (rests_at (act.Mint kd) same refl) kd e.reply
          (made_reply session past e.what (act.Mint kd) e.reply (reply_is (act.Mint kd) same) fine kd refl)
          (room_if (is_full session r kd) (answer.Made (next_pnode session r)) e.reply (some_is _ _ (reply_is (act.Mint kd) same)) fine)
      act_step fine (act.Move old new) same =
          let (f, got) = some_of (finite_map.get r.names old) (done_is (finite_map.contains_key r.names old) fault.NoEntry e.reply (some_is _ _ (reply_is (act.Move old new) same)) fine) in
          move_step session (listed k) r after (rests_at (act.Move old new) same refl) old new f got (stocked session opens.sound past legal_past).named
      act_step fine (act.Unbind name) same =
          let (f, got) = some_of (finite_map.get r.names name) (done_is (finite_map.contains_key r.names name) fault.NoEntry e.reply (some_is _ _ (reply_is (act.Unbind name) same)) fine) in
          let named : file_named r.names name ≡ f = ap (λ o. option_map_or (λ file. file) o 0) got in
          subst (λ m. Stepped session (listed k) (registry_act r (act.Unbind name) e.reply) after (log.Name m [] ∷ [])) (sym named)
          (unbind_step session (listed k) r after (rests_at (act.Unbind name) same refl) name f got ((stocked session opens.sound past legal_past).named name f got))
      act_step fine (act.Tag attr value) same = elim (object_law session opens.sound past e legal_past next) [
        | inl z ↦ absurd (let y : true ≡ false = sym z.0 ∙ ap is_registry_act same in cc)
        | inr m ↦
            let t1 = same_told (still (tag_rests same)) in
            (fine_one (listed k) (log.Attr n attr value) (attr_fine session (listed k) r after t1 n attr value m.0 m.1 (sym level)), attr_told session (listed k) r after t1 n attr value)
      ]
        where
          tag_rests : e.act ≡ act.Tag attr value → is_freeze session past nodes e ≡ false
          tag_rests same =
              ap (λ b. not (is_fault e.reply) && (b || (is_fresh session past nodes e && is_marked session past nodes e.what))) (ap always_freezes same)
              ∙ ap (λ o. not (is_fault e.reply) && ((option_map_or (λ out. true) o false && (is_exec e.act || not (is_repeated session past nodes e))) && is_marked session past nodes e.what)) (not_named (is_fault e.reply) (out_of e.act) (ap out_of same))
              ∙ nothing (is_fault e.reply)
            where
              not_named : (b : Bool) (o : Option ℕ) → o ≡ None → (if b then None else o) ≡ None
              not_named true o z = refl
              not_named false o z = z

              nothing : (b : Bool) → not b && false ≡ false
              nothing true = refl
              nothing false = refl
      act_step fine a same = subst (λ x. Stepped session (listed k) r after (version_records session past e n ++ extra_records session past e n x)) same flow_step

      registry_next : registry_after session (take (suc k) history) ≡ own_step (λ past r e. registry_act r e.act e.reply) 0 past r e
      registry_next = ap (λ x. registry_after session x) (take_one_more history k e at) ∙ registry-append session past e

      -- the records of the entry may stand, and the list then tells of the history with the entry
      pub entry_step : Stepped session (listed k) (registry_after session (take (suc k) history)) after (entry_records session past e)
      entry_step = by_fault (is_fault e.reply) refl
        where
          changed : is_fault e.reply ≡ false → registry_after session (take (suc k) history) ≡ registry_act r e.act e.reply
          changed fine =
              elim (changes_or_zero e.who (before_call past e.who e.number) (call_entries past e.who e.number) _ _ e.what e.act r e.reply (row session past e legal_past next)) [
                | inl zero_is ↦ registry_next ∙ own_step-own (λ past r e. registry_act r e.act e.reply) 0 past r e (ap (λ w. w == 0) zero_is) fine
                | inr same ↦ by_object (e.what == 0) refl same
              ]
            where
              by_object : (b : Bool) → (e.what == 0) ≡ b → registry_act r e.act e.reply ≡ r → registry_after session (take (suc k) history) ≡ registry_act r e.act e.reply
              by_object true own same = registry_next ∙ own_step-own (λ past r e. registry_act r e.act e.reply) 0 past r e own fine
              by_object false other same = registry_next ∙ own_step-other (λ past r e. registry_act r e.act e.reply) 0 past r e other ∙ sym same

          by_fault : (b : Bool) → is_fault e.reply ≡ b → Stepped session (listed k) (registry_after session (take (suc k) history)) after (if b then [] else act_records session past e n e.act)
          by_fault true failed =
              let same : registry_after session (take (suc k) history) ≡ r = registry_next ∙ own_step-fault (λ past r e. registry_act r e.act e.reply) 0 past r e failed in
              let kept : is_freeze session past nodes e ≡ false = ap (λ b. not b && (always_freezes e.act || (is_fresh session past nodes e && is_marked session past nodes e.what))) failed in
              nothing_stepped session (listed k) (registry_after session (take (suc k) history)) after (subst (λ x. IsTold session (listed k) x after) (sym same) (same_told (still kept)))
          by_fault false fine = subst (λ x. Stepped session (listed k) x after (act_records session past e n e.act)) (sym (changed fine)) (act_step fine e.act refl)
