-- Each entry changes the version, the mark and the sources of its own object as its act says.
use Rattle.std.proofs.Common.{◌≡◌, ◌<◌, ◌≤◌, ◌+◌, ℕ, suc, List, [], ◌∷◌, ◌++◌, length, refl, ap, sym, ◌∙◌, subst, arith, Bool, true, false, not, ◌||◌, ◌&&◌, ◌==◌, ◌⊎◌, inl, inr}
use Rattle.std.specs.Prelude.{Option, Some, None, slice_get, zip, filter_map, if◌then◌else◌}
use Rattle.std.specs.Option.{option_map_or}
use Rattle.std.specs.List.{list_any, cons_option}
use Rattle.std.proofs.lemmas.List.Elements.{filter_map-append}
use Rattle.std.proofs.lemmas.Bool.Decides.{nat_tests}
use Rattle.std.proofs.lemmas.List.Sums.{fold-append}
use Rattle.std.proofs.lemmas.List.Folds.{list_any-append}
use Rattle.std.proofs.lemmas.Option.{slice_get_within}
use Rattle.pass_entry.specs.declared.entry.Entry.{Entry}
use Rattle.pass_entry.specs.declared.entry.Act.{Act}
use Rattle.pass_entry.specs.declared.entry.Act.TheVariants as act
use Rattle.pass_entry.specs.declared.objects.Node.{Node}
use Rattle.pass_plain.specs.Histories.{is_out, source_place, is_fault, uses, out_of}
use Rattle.pass_plain.specs.Sessions.{Session, is_opened, opening_version}
use Rattle.pass_plain.specs.Legal.{IsLegal, MayFollow}
use Rattle.pass_plain.specs.Versions.{same_node, version_in, is_used, source_in, same_source, nodes_of, node_at_entry, version_after, marked_after, is_repeated, is_exec, always_freezes, is_fresh, is_freeze}
use Rattle.pass_plain.specs.Lineages.{Lineage, has, IsAlike, lineage_after, used, frozen, with_source, linked, lineage_act, is_fresh_act, is_freeze_act, LineageLaw}
use Rattle.pass_plain.proofs.Lists.{or_false, same_itself, same_numbers, both_true, true_left, true_right, not_true, is_place, or_true, or_none, and_none, and_true}
use Rattle.pass_plain.proofs.Calling.{legal_induction}
use Rattle.pass_plain.proofs.Sources.{source_law, names_source, source_of}
use Rattle.pass_plain.proofs.Versioned.{nodes_of-append, length-nodes_of, zip-append, zip_left, short_get, version_agrees, mark_agrees}

pub same_node-sym : (a b : Node) → same_node a b ≡ same_node b a
same_node-sym a b = grind (arith, nat_tests)

pub same_node-self : (a : Node) → same_node a a ≡ true
same_node-self a = grind (arith, nat_tests)

-- two nodes with other objects, or with other versions, are not the same
other_object : (a b : Node) → (a.pnode == b.pnode) ≡ false → same_node a b ≡ false
other_object a b other = ap (λ x. x && a.version == b.version) other

other_version : (a b : Node) → (a.version == b.version) ≡ false → same_node a b ≡ false
other_version a b other = grind (arith, nat_tests)

-- the items that do not pass give nothing
none_given : {X Y : Type 0} (p : X → Bool) (f : X → Option Y) (xs : List X) → list_any p xs ≡ false → filter_map (λ x. if p x then f x else None) xs ≡ []
none_given p f [] none = refl
none_given p f (x ∷ xs) none =
    let (first, rest) = or_false (p x) (list_any p xs) none in
    ap (λ b. cons_option (if b then f x else None) (filter_map (λ x. if p x then f x else None) xs)) first ∙ none_given p f xs rest

same_given : {X Y : Type 0} (f g : X → Option Y) (xs : List X) → ((i : ℕ) (x : X) → slice_get xs i ≡ Some x → f x ≡ g x) → filter_map f xs ≡ filter_map g xs
same_given f g [] same = refl
same_given f g (x ∷ xs) same =
    ap (λ o. cons_option o (filter_map f xs)) (same 0 x refl) ∙ ap (cons_option (g x)) (same_given f g xs (λ i y at. same (suc i) y at))

-- a node stands among those that the items give exactly where an item that passes gives it
pub any_given : {X : Type 0} (p : X → Bool) (f : X → Option Node) (node : Node) (xs : List X)
    → list_any (same_node node) (filter_map (λ x. if p x then f x else None) xs) ≡ list_any (λ x. p x && same_source (f x) (Some node)) xs
any_given p f node [] = refl
any_given {X = X} p f node (x ∷ xs) = at_test (p x) (f x) ∙ ap (λ b. (p x && same_source (f x) (Some node)) || b) (any_given p f node xs)
  where
    rest : List Node
    rest = filter_map (λ x. if p x then f x else None) xs

    at_test : (b : Bool) (o : Option Node) → list_any (same_node node) (cons_option (if b then o else None) rest) ≡ (b && same_source o (Some node)) || list_any (same_node node) rest
    at_test false o = refl
    at_test true None = refl
    at_test true (Some m) = ap (λ b. b || list_any (same_node node) rest) (same_node-sym node m)

module _ (session : Session) (history : List Entry) (e : Entry) where
  abbrev nodes : List Node
  nodes = nodes_of session history

  abbrev now : Node
  now = node_at_entry session history nodes e

  abbrev more : List Entry
  more = history ++ e ∷ []

  version_next : (object : ℕ) → version_after session more object ≡ (if e.what == object then now.version else version_after session history object)
  version_next object =
      ap (λ ns. version_in session ns object) (nodes_of-append session history e)
      ∙ fold-append (λ v (n : Node). if n.pnode == object then n.version else v) (opening_version session.start object) nodes (now ∷ [])

  version_own : version_after session more e.what ≡ now.version
  version_own = version_next e.what ∙ ap (λ b. if b then now.version else version_after session history e.what) (same_itself e.what)

  version_other : (object : ℕ) → (e.what == object) ≡ false → version_after session more object ≡ version_after session history object
  version_other object other = version_next object ∙ ap (λ b. if b then now.version else version_after session history object) other

  zip_next : zip more (nodes_of session more) ≡ zip history nodes ++ (e, now) ∷ []
  zip_next = ap (λ ns. zip more ns) (nodes_of-append session history e) ∙ zip-append history (e ∷ []) nodes (now ∷ []) (sym (length-nodes_of session history))

  any_next : (p : Entry × Node → Bool) → list_any p (zip more (nodes_of session more)) ≡ list_any p (zip history nodes) || p (e, now)
  any_next p =
      ap (list_any p) zip_next ∙ list_any-append p (zip history nodes) ((e, now) ∷ [])
      ∙ ap (λ b. list_any p (zip history nodes) || b) (or_none (p (e, now)))

  now_frozen : is_freeze session history nodes e ≡ true → now.version ≡ version_after session history e.what + 1
  now_frozen freezes = ap (λ b. if b then version_after session history e.what + 1 else version_after session history e.what) freezes

  now_kept : is_freeze session history nodes e ≡ false → now.version ≡ version_after session history e.what
  now_kept kept = ap (λ b. if b then version_after session history e.what + 1 else version_after session history e.what) kept

  now_least : version_after session history e.what ≤ now.version
  now_least = at_freeze (is_freeze session history nodes e) refl
    where
      at_freeze : (b : Bool) → is_freeze session history nodes e ≡ b → version_after session history e.what ≤ now.version
      at_freeze true freezes = let z = now_frozen freezes in omega (arith, z)
      at_freeze false kept = let z = now_kept kept in omega (arith, z)

  rises : (object : ℕ) → version_after session history object ≤ version_after session more object
  rises object = at_object (e.what == object) refl
    where
      at_object : (b : Bool) → (e.what == object) ≡ b → version_after session history object ≤ version_after session more object
      at_object false other = let z = version_other object other in omega (arith, z)
      at_object true own =
          let same : e.what ≡ object = same_numbers e.what object own in
          subst (λ o. version_after session history o ≤ version_after session more o) same (let z = version_own in let y = now_least in omega (arith, z, y))

-- no entry has a node above its object's version
abbrev IsBelow : Session → List Entry → Type 0
IsBelow session history = (object v : ℕ) → version_after session history object < v
    → list_any (λ (s : Entry × Node). same_node s.1 (record { pnode = object; version = v })) (zip history (nodes_of session history)) ≡ false

below : (session : Session) (history : List Entry) → IsLegal session history → IsBelow session history
below session = legal_induction session (IsBelow session) (λ object v above. refl) (λ history e legal low next object v above.
    let node : Node = record { pnode = object; version = v } in
    let r = rises session history e object in
    any_next session history e (λ s. same_node s.1 node)
    ∙ ap (λ b. b || same_node (now session history e) node) (low object v (omega (arith, above, r)))
    ∙ apart session history e object v above (e.what == object) refl)
  where
    apart : (session : Session) (history : List Entry) (e : Entry) (object v : ℕ) → version_after session (history ++ e ∷ []) object < v
        → (b : Bool) → (e.what == object) ≡ b → same_node (now session history e) (record { pnode = object; version = v }) ≡ false
    apart session history e object v above false other = other_object (now session history e) (record { pnode = object; version = v }) other
    apart session history e object v above true own =
        let same : e.what ≡ object = same_numbers e.what object own in
        let high : version_after session (history ++ e ∷ []) e.what < v = subst (λ o. version_after session (history ++ e ∷ []) o < v) (sym same) above in
        let z = version_own session history e in
        other_version (now session history e) (record { pnode = object; version = v }) (let y : (now session history e).version < v = omega (arith, high, z) in grind (arith, nat_tests))

-- no version is below the one with which its object began
opening_low : (session : Session) (object : ℕ) (history : List Entry) → IsLegal session history → opening_version session.start object ≤ version_after session history object
opening_low session object = legal_induction session (λ h. opening_version session.start object ≤ version_after session h object) (omega arith)
    (λ history e legal low next. let r = rises session history e object in omega (arith, low, r))

or_turned : (a b c : Bool) → (a || b) || c ≡ (a || c) || b
or_turned true b c = refl
or_turned false true true = refl
or_turned false true false = refl
or_turned false false true = refl
or_turned false false false = refl

or_never : (a b : Bool) → a || (b && false) ≡ a
or_never true b = refl
or_never false true = refl
or_never false false = refl

none_both : {X : Type 0} (p q : X → Bool) (xs : List X) → list_any q xs ≡ false → list_any (λ x. p x && q x) xs ≡ false
none_both p q [] none = refl
none_both p q (x ∷ xs) none =
    let (first, rest) = or_false (q x) (list_any q xs) none in
    ap (λ b. (p x && b) || list_any (λ x. p x && q x) xs) first ∙ ap (λ b. b || list_any (λ x. p x && q x) xs) (and_none (p x)) ∙ none_both p q xs rest

-- how an act changes a lineage, read by three tests
abbrev generic : Lineage → Option Node → Bool → Bool → Lineage
generic l source freezes is_use = if freezes then option_map_or (with_source (frozen l)) source (frozen l) else if is_use then used l else option_map_or (linked l) source l

is_generic : (l : Lineage) (source : Option Node) (a : Act) → (out_of a ≡ None → source ≡ None) → lineage_act l source a ≡ generic l source (always_freezes a) (uses a)
is_generic l source act.Freeze none = ap (λ o. option_map_or (with_source (frozen l)) o (frozen l)) (sym (none refl))
is_generic l source _ none = refl

-- an act that uses its object takes from nothing and does not freeze it
only_used : (a : Act) → uses a ≡ true → (out_of a ≡ None) × (always_freezes a ≡ false)
only_used (act.Show fd len) used_so = (refl, refl)
only_used (act.Spawn child) used_so = (refl, refl)
only_used act.Reap used_so = (refl, refl)
only_used (act.Give at len) used_so = (refl, refl)
only_used act.Load used_so = (refl, refl)
only_used (act.Take len) used_so = (refl, refl)
only_used act.Cite used_so = (refl, refl)
only_used _ used_so = absurd (cc)

-- an act that always freezes is an exec, or takes from nothing
pub exec_or_none : (a : Act) → always_freezes a ≡ true → (is_exec a ≡ true) ⊎ (out_of a ≡ None)
exec_or_none act.Freeze freezes = inr refl
exec_or_none (act.Exec out name args) freezes = inl refl
exec_or_none _ freezes = absurd (cc)

module _ (session : Session) (history : List Entry) (e : Entry) (legal : IsLegal session history) (next : MayFollow session history e) where
  abbrev seen : List Node
  seen = nodes_of session history

  abbrev old : Lineage
  old = lineage_after session history e.what

  abbrev source : Option Node
  source = source_in seen e

  out_before : (out : ℕ) → source_place e ≡ Some out → out < length history
  out_before out names =
      let g = names_source session history e out legal next (source_of e out (is_fault e.reply) refl names) in
      slice_get_within history out g.source g.stands

  -- an entry that stands in the history takes from the same node when one more node is known
  same_source_in : (f : Entry) → ((out : ℕ) → source_place f ≡ Some out → out < length history) → (o : Option ℕ) → source_place f ≡ o
      → source_in (nodes_of session (history ++ e ∷ [])) f ≡ source_in seen f
  same_source_in f before None t =
      ap (λ o. option_map_or (λ out. slice_get (nodes_of session (history ++ e ∷ [])) out) o None) t ∙ sym (ap (λ o. option_map_or (λ out. slice_get seen out) o None) t)
  same_source_in f before (Some out) t =
      let n = length-nodes_of session history in
      let b = before out t in
      ap (λ o. option_map_or (λ out. slice_get (nodes_of session (history ++ e ∷ [])) out) o None) t
      ∙ ap (λ ns. slice_get ns out) (nodes_of-append session history e)
      ∙ short_get seen (now session history e ∷ []) out (omega (arith, n, b))
      ∙ sym (ap (λ o. option_map_or (λ out. slice_get seen out) o None) t)

  earlier_source : (i : ℕ) (s : Entry × Node) → slice_get (zip history seen) i ≡ Some s → source_in (nodes_of session (history ++ e ∷ [])) s.0 ≡ source_in seen s.0
  earlier_source i s at =
      let stands = zip_left history seen i s at in
      same_source_in s.0 (λ out names. let before = (source_law session history legal i s.0 out stands names).0 in let within = slice_get_within history i s.0 stands in omega (arith, before, within)) (source_place s.0) refl

  -- what an object's version has taken from after the entry: `node` is its node
  taken_next : (node : Node) → filter_map (λ (s : Entry × Node). if same_node s.1 node then source_in (nodes_of session (history ++ e ∷ [])) s.0 else None) (zip (history ++ e ∷ []) (nodes_of session (history ++ e ∷ [])))
      ≡ filter_map (λ (s : Entry × Node). if same_node s.1 node then source_in seen s.0 else None) (zip history seen)
      ++ filter_map (λ (s : Entry × Node). if same_node s.1 node then source_in seen s.0 else None) ((e, now session history e) ∷ [])
  taken_next node =
      let wide : Entry × Node → Option Node = λ s. if same_node s.1 node then source_in (nodes_of session (history ++ e ∷ [])) s.0 else None in
      let narrow : Entry × Node → Option Node = λ s. if same_node s.1 node then source_in seen s.0 else None in
      ap (filter_map wide) (zip_next session history e) ∙ filter_map-append wide (zip history seen) ((e, now session history e) ∷ [])
      ∙ ap (λ xs. xs ++ filter_map wide ((e, now session history e) ∷ [])) (same_given wide narrow (zip history seen) (λ i s at. ap (λ o. if same_node s.1 node then o else None) (earlier_source i s at)))
      ∙ ap (λ o. filter_map narrow (zip history seen) ++ cons_option (if same_node (now session history e) node then o else None) []) (same_source_in e out_before (source_place e) refl)

  abbrev own_node : ℕ → Node
  own_node v = record { pnode = e.what; version = v }

  abbrev before : ℕ
  before = version_after session history e.what

  -- the mark of a version of the entry's object after the entry
  mark_next : (v : ℕ) → same_node (now session history e) (own_node v) ≡ true → version_after session (history ++ e ∷ []) e.what ≡ v
      → marked_after session (history ++ e ∷ []) e.what
      ≡ (list_any (λ (s : Entry × Node). is_out s.0 && same_node s.1 (own_node v)) (zip history seen) || is_out e) || (is_opened session.start e.what && v == opening_version session.start e.what)
  mark_next v same is =
      let opened : ℕ → Bool = λ v. is_opened session.start e.what && v == opening_version session.start e.what in
      ap (λ v. is_used (history ++ e ∷ []) (nodes_of session (history ++ e ∷ [])) (own_node v) || opened v) is
      ∙ ap (λ b. b || opened v)
      (any_next session history e (λ s. is_out s.0 && same_node s.1 (own_node v))
      ∙ ap (λ b. list_any (λ (s : Entry × Node). is_out s.0 && same_node s.1 (own_node v)) (zip history seen) || (is_out e && b)) same
      ∙ ap (λ b. list_any (λ (s : Entry × Node). is_out s.0 && same_node s.1 (own_node v)) (zip history seen) || b) (and_true (is_out e)))

  -- what a version of the entry's object has taken from after the entry
  has_next : (v : ℕ) → same_node (now session history e) (own_node v) ≡ true → version_after session (history ++ e ∷ []) e.what ≡ v → (node : Node)
      → has (lineage_after session (history ++ e ∷ []) e.what) node
      ≡ list_any (same_node node) (filter_map (λ (s : Entry × Node). if same_node s.1 (own_node v) then source_in seen s.0 else None) (zip history seen))
      || list_any (same_node node) (cons_option source [])
  has_next v same is node =
      let narrow : Entry × Node → Option Node = λ s. if same_node s.1 (own_node v) then source_in seen s.0 else None in
      ap (λ v. list_any (same_node node) (filter_map (λ (s : Entry × Node). if same_node s.1 (own_node v) then source_in (nodes_of session (history ++ e ∷ [])) s.0 else None) (zip (history ++ e ∷ []) (nodes_of session (history ++ e ∷ []))))) is
      ∙ ap (list_any (same_node node)) (taken_next (own_node v))
      ∙ list_any-append (same_node node) (filter_map narrow (zip history seen)) (filter_map narrow ((e, now session history e) ∷ []))
      ∙ ap (λ b. list_any (same_node node) (filter_map narrow (zip history seen)) || list_any (same_node node) (cons_option (if b then source else None) [])) same

  -- where the entry does not freeze, its object has the same version
  kept : is_freeze session history seen e ≡ false → IsAlike (lineage_after session (history ++ e ∷ []) e.what) (record { node = old.node; marked = old.marked || is_out e; sources = old.sources ++ cons_option source [] })
  kept none =
      let same_version : (now session history e).version ≡ before = now_kept session history e none in
      let is : version_after session (history ++ e ∷ []) e.what ≡ before = version_own session history e ∙ same_version in
      let same : same_node (now session history e) (own_node before) ≡ true = both_true _ _ (same_itself e.what) (ap (λ v. v == before) same_version ∙ same_itself before) in
      record {
        node = ap own_node is;
        marked = mark_next before same is ∙ or_turned _ (is_out e) _;
        sources = λ node. has_next before same is node ∙ sym (list_any-append (same_node node) old.sources (cons_option source []));
      }

  -- where it freezes, its object has the next one, which only the entry has used or has taken from
  moved : is_freeze session history seen e ≡ true → IsAlike (lineage_after session (history ++ e ∷ []) e.what) (record { node = own_node (before + 1); marked = is_out e; sources = cons_option source [] })
  moved freezes =
      let next_version : (now session history e).version ≡ before + 1 = now_frozen session history e freezes in
      let is : version_after session (history ++ e ∷ []) e.what ≡ before + 1 = version_own session history e ∙ next_version in
      let same : same_node (now session history e) (own_node (before + 1)) ≡ true = both_true _ _ (same_itself e.what) (ap (λ v. v == before + 1) next_version ∙ same_itself (before + 1)) in
      let none : list_any (λ (s : Entry × Node). same_node s.1 (own_node (before + 1))) (zip history seen) ≡ false = below session history legal e.what (before + 1) (omega arith) in
      let low = opening_low session e.what history legal in
      let later : (before + 1 == opening_version session.start e.what) ≡ false = let z : opening_version session.start e.what < before + 1 = omega (arith, low) in grind (arith, nat_tests) in
      record {
        node = ap own_node is;
        marked = mark_next (before + 1) same is
            ∙ ap (λ b. (b || is_out e) || (is_opened session.start e.what && before + 1 == opening_version session.start e.what)) (none_both (λ (s : Entry × Node). is_out s.0) (λ (s : Entry × Node). same_node s.1 (own_node (before + 1))) (zip history seen) none)
            ∙ ap (λ b. is_out e || (is_opened session.start e.what && b)) later ∙ or_never (is_out e) (is_opened session.start e.what);
        sources = λ node. has_next (before + 1) same is node
            ∙ ap (λ ns. list_any (same_node node) ns || list_any (same_node node) (cons_option source []))
            (none_given (λ (s : Entry × Node). same_node s.1 (own_node (before + 1))) (λ s. source_in seen s.0) (zip history seen) none);
      }

fresh_none : (l : Lineage) (a : Act) → out_of a ≡ None → is_fresh_act l None a ≡ false
fresh_none l (act.Exec out name args) none = absurd (cc)
fresh_none l _ none = refl

fresh_some : (l : Lineage) (s : Node) (a : Act) → is_fresh_act l (Some s) a ≡ is_exec a || not (has l s)
fresh_some l s (act.Exec out name args) = refl
fresh_some l s _ = refl

freeze_some : (l : Lineage) (o : Option Node) (a : Act) → is_freeze_act l o a ≡ always_freezes a || (is_fresh_act l o a && l.marked)
freeze_some l o act.Freeze = refl
freeze_some l o (act.Exec out name args) = refl
freeze_some l o _ = refl

freeze_new : (l : Lineage) (s : Node) (a : Act) → always_freezes a ≡ false → is_freeze_act l (Some s) a ≡ not (has l s) && l.marked
freeze_new l s act.Freeze steady = absurd (cc)
freeze_new l s (act.Exec out name args) steady = absurd (cc)
freeze_new l s _ steady = refl

-- a later version that takes from what is given
frozen_given : (l : Lineage) (o : Option Node) → IsAlike (record { node = (frozen l).node; marked = false; sources = cons_option o [] }) (option_map_or (with_source (frozen l)) o (frozen l))
frozen_given l None = record { node = refl; marked = refl; sources = λ node. refl }
frozen_given l (Some s) = record { node = refl; marked = refl; sources = λ node. refl }

-- a node that stands among the sources already changes nothing when it stands there once more
known_again : (l : Lineage) (s node : Node) → has l s ≡ true → has l node || (same_node node s || false) ≡ has l node
known_again l s node known = at_test (same_node node s) refl
  where
    at_test : (b : Bool) → same_node node s ≡ b → has l node || (b || false) ≡ has l node
    at_test false other = or_none (has l node)
    at_test true same = ap (λ b. b || (true || false)) (here same) ∙ sym (here same)
      where
        here : same_node node s ≡ true → has l node ≡ true
        here same =
            let a : node.pnode ≡ s.pnode = same_numbers _ _ (true_left (node.pnode == s.pnode) (node.version == s.version) same) in
            let b : node.version ≡ s.version = same_numbers _ _ (true_right (node.pnode == s.pnode) (node.version == s.version) same) in
            let equal : node ≡ s = λ i. record { pnode = a i; version = b i } in
            ap (λ (n : Node). has l n) equal ∙ known

or_swapped : (a b : Bool) → a || (b || false) ≡ b || a
or_swapped true true = refl
or_swapped true false = refl
or_swapped false true = refl
or_swapped false false = refl

has-append : (l : Lineage) (node : Node) (more : List Node) → list_any (same_node node) (l.sources ++ more) ≡ has l node || list_any (same_node node) more
has-append l node more = list_any-append (same_node node) l.sources more

-- the lineage where an entry that takes from a node does not freeze its object
kept_linked : (l : Lineage) (s : Node) (known : Bool) → has l s ≡ known → not known && l.marked ≡ false
    → IsAlike (record { node = l.node; marked = l.marked || false; sources = l.sources ++ s ∷ [] }) (linked l s)
kept_linked l s true known free =
    subst (IsAlike (record { node = l.node; marked = l.marked || false; sources = l.sources ++ s ∷ [] })) (ap (λ b. if b then l else if l.marked then with_source (frozen l) s else with_source l s) (sym known))
    (record { node = refl; marked = or_none l.marked; sources = λ node. has-append l node (s ∷ []) ∙ known_again l s node known })
kept_linked l s false known free =
    subst (IsAlike (record { node = l.node; marked = l.marked || false; sources = l.sources ++ s ∷ [] }))
    (ap (λ b. if b then with_source (frozen l) s else with_source l s) (sym free) ∙ ap (λ b. if b then l else if l.marked then with_source (frozen l) s else with_source l s) (sym known))
    (record { node = refl; marked = or_none l.marked; sources = λ node. has-append l node (s ∷ []) ∙ or_swapped (has l node) (same_node node s) })

-- and where it does
moved_linked : (l : Lineage) (s : Node) → not (has l s) && l.marked ≡ true → with_source (frozen l) s ≡ linked l s
moved_linked l s freezes =
    ap (λ b. if b then with_source (frozen l) s else with_source l s) (sym (true_right (not (has l s)) l.marked freezes))
    ∙ ap (λ b. if b then l else if l.marked then with_source (frozen l) s else with_source l s) (sym (not_true (has l s) (true_left (not (has l s)) l.marked freezes)))

module _ (session : Session) (history : List Entry) (e : Entry) (legal : IsLegal session history) (next : MayFollow session history e) where
  abbrev l : Lineage
  l = lineage_after session history e.what

  abbrev given : Option Node
  given = source_in (nodes_of session history) e

  -- an IN takes from a node
  given_node : (out : ℕ) → source_place e ≡ Some out → (s : Node) × (given ≡ Some s)
  given_node out names =
      let b = out_before session history e legal next out names in
      let n = length-nodes_of session history in
      let (s, at) = is_place (nodes_of session history) out (omega (arith, b, n)) in
      (s, ap (λ o. option_map_or (λ out. slice_get (nodes_of session history) out) o None) names ∙ at)

  nothing_given : source_place e ≡ None → given ≡ None
  nothing_given names = ap (λ o. option_map_or (λ out. slice_get (nodes_of session history) out) o None) names

  repeated_is : (s : Node) → given ≡ Some s → is_repeated session history (nodes_of session history) e ≡ has l s
  repeated_is s is =
      ap (λ o. list_any (λ (m : Entry × Node). same_node m.1 l.node && same_source (source_in (nodes_of session history) m.0) o) (zip history (nodes_of session history))) is
      ∙ sym (any_given (λ (m : Entry × Node). same_node m.1 l.node) (λ m. source_in (nodes_of session history) m.0) s (zip history (nodes_of session history)))

  as_act : is_fault e.reply ≡ false → source_place e ≡ out_of e.act
  as_act fine = ap (λ b. if b then None else out_of e.act) fine

  fresh_is : is_fault e.reply ≡ false → (o : Option ℕ) → source_place e ≡ o → is_fresh session history (nodes_of session history) e ≡ is_fresh_act l given e.act
  fresh_is fine None names =
      ap (λ o. option_map_or (λ out. true) o false && (is_exec e.act || not (is_repeated session history (nodes_of session history) e))) names
      ∙ sym (ap (λ o. is_fresh_act l o e.act) (nothing_given names) ∙ fresh_none l e.act (sym (as_act fine) ∙ names))
  fresh_is fine (Some out) names =
      let (s, is) = given_node out names in
      ap (λ o. option_map_or (λ out. true) o false && (is_exec e.act || not (is_repeated session history (nodes_of session history) e))) names
      ∙ ap (λ b. is_exec e.act || not b) (repeated_is s is)
      ∙ sym (ap (λ o. is_fresh_act l o e.act) is ∙ fresh_some l s e.act)

  freeze_is : is_fault e.reply ≡ false → is_freeze session history (nodes_of session history) e ≡ is_freeze_act l given e.act
  freeze_is fine =
      ap (λ b. not b && (always_freezes e.act || (is_fresh session history (nodes_of session history) e && l.marked))) fine
      ∙ ap (λ b. always_freezes e.act || (b && l.marked)) (fresh_is fine (source_place e) refl)
      ∙ sym (freeze_some l given e.act)

  abbrev after : Lineage
  after = lineage_after session (history ++ e ∷ []) e.what

  -- an act that always freezes
  always : is_fault e.reply ≡ false → always_freezes e.act ≡ true → IsAlike after (lineage_act l given e.act)
  always fine freezes =
      let moves = moved session history e legal next (freeze_is fine ∙ freeze_some l given e.act ∙ ap (λ b. b || (is_fresh_act l given e.act && l.marked)) freezes) in
      let idle = not_out (uses e.act) refl in
      subst (IsAlike after) (sym (is_generic l given e.act (λ none. nothing_given (as_act fine ∙ none)) ∙ ap (λ b. generic l given b (uses e.act)) freezes))
      (record {
        node = moves.node ∙ (frozen_given l given).node;
        marked = moves.marked ∙ ap (λ b. b && not (is_fault e.reply)) idle ∙ (frozen_given l given).marked;
        sources = λ node. moves.sources node ∙ (frozen_given l given).sources node;
      })
    where
      not_out : (b : Bool) → uses e.act ≡ b → uses e.act ≡ false
      not_out false is = is
      not_out true is = absurd (let z : true ≡ false = sym freezes ∙ (only_used e.act is).1 in cc)

  -- an act that uses its object
  use_only : is_fault e.reply ≡ false → uses e.act ≡ true → IsAlike after (lineage_act l given e.act)
  use_only fine is =
      let (nothing, steady) = only_used e.act is in
      let none : given ≡ None = nothing_given (as_act fine ∙ nothing) in
      let stays = kept session history e legal next (freeze_is fine ∙ freeze_some l given e.act ∙ ap (λ b. b || (is_fresh_act l given e.act && l.marked)) steady
      ∙ ap (λ b. b && l.marked) (ap (λ o. is_fresh_act l o e.act) none ∙ fresh_none l e.act nothing)) in
      subst (IsAlike after) (sym (is_generic l given e.act (λ none. nothing_given (as_act fine ∙ none)) ∙ ap (λ b. generic l given b (uses e.act)) steady ∙ ap (λ b. generic l given false b) is))
      (record {
        node = stays.node;
        marked = stays.marked ∙ ap (λ b. l.marked || (b && not (is_fault e.reply))) is ∙ ap (λ b. l.marked || (true && not b)) fine ∙ or_true l.marked;
        sources = λ node. stays.sources node ∙ ap (λ o. list_any (same_node node) (l.sources ++ cons_option o [])) none ∙ has-append l node [] ∙ or_none (has l node);
      })

  -- where the entry neither uses nor freezes its object by itself, and takes from nothing
  idle_entry : uses e.act && not (is_fault e.reply) ≡ false → given ≡ None → is_freeze session history (nodes_of session history) e ≡ false → IsAlike after l
  idle_entry idle none steady =
      let stays = kept session history e legal next steady in
      record {
        node = stays.node;
        marked = stays.marked ∙ ap (λ b. l.marked || b) idle ∙ or_none l.marked;
        sources = λ node. stays.sources node ∙ ap (λ o. list_any (same_node node) (l.sources ++ cons_option o [])) none ∙ has-append l node [] ∙ or_none (has l node);
      }

  -- where it takes from a node
  takes : is_fault e.reply ≡ false → uses e.act ≡ false → always_freezes e.act ≡ false → (s : Node) → given ≡ Some s
      → (b : Bool) → not (has l s) && l.marked ≡ b → IsAlike after (linked l s)
  takes fine idle steady s is true freezes =
      let moves = moved session history e legal next (freeze_is fine ∙ ap (λ o. is_freeze_act l o e.act) is ∙ freeze_new l s e.act steady ∙ freezes) in
      subst (IsAlike after) (moved_linked l s freezes)
      (record {
        node = moves.node;
        marked = moves.marked ∙ ap (λ b. b && not (is_fault e.reply)) idle;
        sources = λ node. moves.sources node ∙ ap (λ o. list_any (same_node node) (cons_option o [])) is;
      })
  takes fine idle steady s is false free =
      let stays = kept session history e legal next (freeze_is fine ∙ ap (λ o. is_freeze_act l o e.act) is ∙ freeze_new l s e.act steady ∙ free) in
      let alike = kept_linked l s (has l s) refl free in
      record {
        node = stays.node ∙ alike.node;
        marked = stays.marked ∙ ap (λ b. l.marked || (b && not (is_fault e.reply))) idle ∙ alike.marked;
        sources = λ node. stays.sources node ∙ ap (λ o. list_any (same_node node) (l.sources ++ cons_option o [])) is ∙ alike.sources node;
      }

  other_act : is_fault e.reply ≡ false → uses e.act ≡ false → always_freezes e.act ≡ false → (o : Option ℕ) → source_place e ≡ o → IsAlike after (lineage_act l given e.act)
  other_act fine idle steady None names =
      let none = nothing_given names in
      let nothing : out_of e.act ≡ None = sym (as_act fine) ∙ names in
      subst (IsAlike after) (sym (is_generic l given e.act (λ none. nothing_given (as_act fine ∙ none)) ∙ ap (λ b. generic l given b (uses e.act)) steady ∙ ap (λ b. generic l given false b) idle
      ∙ ap (λ o. option_map_or (linked l) o l) none))
      (idle_entry (ap (λ b. b && not (is_fault e.reply)) idle) none
      (freeze_is fine ∙ freeze_some l given e.act ∙ ap (λ b. b || (is_fresh_act l given e.act && l.marked)) steady
      ∙ ap (λ b. b && l.marked) (ap (λ o. is_fresh_act l o e.act) none ∙ fresh_none l e.act nothing)))
  other_act fine idle steady (Some out) names =
      let (s, is) = given_node out names in
      subst (IsAlike after) (sym (is_generic l given e.act (λ none. nothing_given (as_act fine ∙ none)) ∙ ap (λ b. generic l given b (uses e.act)) steady ∙ ap (λ b. generic l given false b) idle
      ∙ ap (λ o. option_map_or (linked l) o l) is))
      (takes fine idle steady s is (not (has l s) && l.marked) refl)

  by_tests : is_fault e.reply ≡ false → (z u : Bool) → always_freezes e.act ≡ z → uses e.act ≡ u → IsAlike after (lineage_act l given e.act)
  by_tests fine true u freezes is = always fine freezes
  by_tests fine false true steady is = use_only fine is
  by_tests fine false false steady idle = other_act fine idle steady (source_place e) refl

  -- a fault changes nothing
  unmoved : is_fault e.reply ≡ true → IsAlike after l
  unmoved refused =
      idle_entry (ap (λ b. uses e.act && not b) refused ∙ and_none (uses e.act)) (nothing_given (ap (λ b. if b then None else out_of e.act) refused))
      (ap (λ b. not b && (always_freezes e.act || (is_fresh session history (nodes_of session history) e && l.marked))) refused)

  -- another object's lineage stays
  unmoved_other : (object : ℕ) → (e.what == object) ≡ false → IsAlike (lineage_after session (history ++ e ∷ []) object) (lineage_after session history object)
  unmoved_other object other =
      let none : list_any (λ (f : Entry). f.what == object) (e ∷ []) ≡ false = ap (λ b. b || false) other in
      let version = version_agrees session history (e ∷ []) object none in
      record {
        node = ap (λ v. record { pnode = object; version = v }) version;
        marked = mark_agrees session history (e ∷ []) object none;
        sources = λ node. other_sources object other version node;
      }
    where
      other_sources : (object : ℕ) → (e.what == object) ≡ false → version_after session (history ++ e ∷ []) object ≡ version_after session history object → (node : Node)
          → has (lineage_after session (history ++ e ∷ []) object) node ≡ has (lineage_after session history object) node
      other_sources object other version node =
          let own : ℕ → Node = λ v. record { pnode = object; version = v } in
          ap (λ v. list_any (same_node node) (filter_map (λ (s : Entry × Node). if same_node s.1 (own v) then source_in (nodes_of session (history ++ e ∷ [])) s.0 else None) (zip (history ++ e ∷ []) (nodes_of session (history ++ e ∷ []))))) version
          ∙ ap (list_any (same_node node)) (taken_next session history e legal next (own (version_after session history object)))
          ∙ ap (λ b. list_any (same_node node) (filter_map (λ (s : Entry × Node). if same_node s.1 (own (version_after session history object)) then source_in (nodes_of session history) s.0 else None) (zip history (nodes_of session history)) ++ cons_option (if b then given else None) []))
          (other_object (now session history e) (own (version_after session history object)) other)
          ∙ has-append (lineage_after session history object) node [] ∙ or_none _

pub lineage_law : LineageLaw
lineage_law session history e legal next = record {
  moves = λ fine. by_tests session history e legal next fine (always_freezes e.act) (uses e.act) refl refl;
  fresh = λ fine. fresh_is session history e legal next fine (source_place e) refl;
  freezes = freeze_is session history e legal next;
  stays = unmoved session history e legal next;
  others = unmoved_other session history e legal next;
}
