-- Which records make edges: the Version of each freeze and the Input of each fresh IN.
use Rattle.std.proofs.Common.{◌≡◌, ◌<◌, ◌≤◌, ℕ, zero, suc, List, [], ◌∷◌, ◌++◌, length, take, map, refl, ap, sym, ◌∙◌, subst, arith, ◌⊎◌, inl, inr, Bool, true, false, not, ◌||◌}
use Rattle.std.specs.Prelude.{Option, Some, None, slice_get, filter, Contains, if◌then◌else◌, codes, bytes_eq}
use Rattle.std.specs.Option.{option_map_or}
use Rattle.std.specs.List.{range_with_len}
use Rattle.std.specs.FinMap as finite_map
use Rattle.std.proofs.lemmas.List.Elements.{Contains-append_left, Contains-append_right, Contains-append_cases, Contains-push, Contains-push_cases}
use Rattle.std.proofs.lemmas.Bool.{or_cases}
use Rattle.pass_entry.specs.declared.entry.Entry.{Entry}
use Rattle.pass_entry.specs.declared.entry.Act.{Act}
use Rattle.pass_entry.specs.declared.entry.Act.TheVariants as act
use Rattle.pass_entry.specs.declared.objects.Node.{Node}
use Rattle.pass_entry.specs.declared.objects.Kind.TheVariants as kind
use Rattle.pass_entry.specs.declared.record.Record.{Record}
use Rattle.pass_entry.specs.declared.record.Record.TheVariants as log
use Rattle.pass_entry.proofs.Places.{take_one_more}
use Rattle.pass_plain.specs.Histories.{is_fault, pnode_of, out_of, source_place}
use Rattle.pass_plain.specs.Sessions.{Session}
use Rattle.pass_plain.specs.Files.{file_after, file_act}
use Rattle.pass_plain.specs.Registries.{registry_after, Names}
use Rattle.pass_plain.specs.Versions.{nodes_of, node_at_entry, source_in, always_freezes, is_in, is_exec, is_marked, is_repeated, is_fresh, is_freeze}
use Rattle.pass_plain.specs.Records.{records_of, entry_records, act_records, version_records, extra_records, content_records, digest_of, is_digested, args_records, lost_name, file_named, move_records}
use Rattle.pass_plain.proofs.Lists.{true_left, true_right, is_place, below_or}
use Rattle.pass_plain.proofs.Replays.{replay-append}
use Rattle.pass_graph.proofs.Telling.{no_fault}
use Rattle.pass_graph.proofs.Logging.{input_parts}

-- the records of a history are those of its entries

module _ (session : Session) (history : List Entry) where
  pub records-suc : (n : ℕ) (e : Entry) → slice_get history n ≡ Some e
      → records_of session (take (suc n) history) ≡ records_of session (take n history) ++ entry_records session (take n history) e
  records-suc n e at =
      ap (λ h. records_of session h) (take_one_more history n e at)
      ∙ replay-append (λ past list e. list ++ entry_records session past e) [] [] (take n history) e

  pub recorded : (n : ℕ) → n ≤ length history → (r : Record) → Contains (records_of session (take n history)) r
      → (k : ℕ) × (e : Entry) × (k < n) × (slice_get history k ≡ Some e) × Contains (entry_records session (take k history) e) r
  recorded zero le r h = absurd (let z = h.1 in omega (arith, z))
  recorded (suc n) le r h =
      let (e, at) = is_place history n (omega (arith, le)) in
      elim (Contains-append_cases (records_of session (take n history)) (entry_records session (take n history) e) r (subst (λ xs. Contains xs r) (records-suc n e at) h)) [
        | inl l ↦ let (k, f, below, stands, there) = recorded n (omega (arith, le)) r l in (k, f, omega (arith, below), stands, there)
        | inr here ↦ (n, e, omega arith, at, here)
      ]

  pub stands_recorded : (n : ℕ) → n ≤ length history → (r : Record) (k : ℕ) (e : Entry) → k < n → slice_get history k ≡ Some e
      → Contains (entry_records session (take k history) e) r → Contains (records_of session (take n history)) r
  stands_recorded zero le r k e short at h = absurd (omega (arith, short))
  stands_recorded (suc n) le r k e short at h =
      let (f, at_n) = is_place history n (omega (arith, le)) in
      subst (λ xs. Contains xs r) (sym (records-suc n f at_n)) (elim (below_or k n) [
        | inl l ↦ Contains-append_left (records_of session (take n history)) _ r (stands_recorded n (omega (arith, le)) r k e l at h)
        | inr q ↦ elim q [
          | inl past ↦ absurd (omega (arith, short, past))
          | inr same ↦
              let same_entry : e ≡ f = some_entry _ _ (sym at ∙ ap (slice_get history) same ∙ at_n) in
              Contains-append_right (records_of session (take n history)) _ r
              (subst (λ f. Contains (entry_records session (take n history) f) r) same_entry (subst (λ m. Contains (entry_records session (take m history) e) r) same h))
        ]
      ])
    where
      some_entry : (a b : Entry) → ◌≡◌ {A = Option Entry} (Some a) (Some b) → a ≡ b
      some_entry a b e = cc

-- records that make no edge

abbrev makes_edge : Record → Bool
makes_edge (log.Input target source) = true
makes_edge (log.Version node) = true
makes_edge _ = false

abbrev Quiet : List Record → Type 0
Quiet xs = (r : Record) → makes_edge r ≡ true → Contains xs r → ⊥

quiet_none : Quiet []
quiet_none r is h = absurd (let z = h.1 in omega (arith, z))

pub quiet-append : (xs ys : List Record) → Quiet xs → Quiet ys → Quiet (xs ++ ys)
quiet-append xs ys p q r is h = elim (Contains-append_cases xs ys r h) [ inl l ↦ p r is l | inr m ↦ q r is m ]

quiet_one : (x : Record) → makes_edge x ≡ false → Quiet (x ∷ [])
quiet_one x not_so r is h = elim (Contains-push_cases [] x r h) [
  | inl l ↦ quiet_none r is l
  | inr same ↦ absurd (let z : true ≡ false = sym is ∙ ap makes_edge (sym same) ∙ not_so in cc)
]

quiet_cons : (x : Record) (xs : List Record) → makes_edge x ≡ false → Quiet xs → Quiet (x ∷ xs)
quiet_cons x xs not_so rest = quiet-append (x ∷ []) xs (quiet_one x not_so) rest

quiet_if : (b : Bool) (xs ys : List Record) → Quiet xs → Quiet ys → Quiet (if b then xs else ys)
quiet_if true xs ys p q = p
quiet_if false xs ys p q = q

quiet_map : {X : Type 0} (f : X → Record) → ((x : X) → makes_edge (f x) ≡ false) → (xs : List X) → Quiet (map f xs)
quiet_map f not_so [] = quiet_none
quiet_map f not_so (x ∷ xs) = quiet_cons (f x) (map f xs) (not_so x) (quiet_map f not_so xs)

quiet_given : {X : Type 0} (f : X → Record) → ((x : X) → makes_edge (f x) ≡ false) → (o : Option X) → Quiet (option_map_or (λ x. f x ∷ []) o [])
quiet_given f not_so None = quiet_none
quiet_given f not_so (Some x) = quiet_one (f x) (not_so x)

quiet_move : (names : Names) (old new : List ℕ) → Quiet (move_records names old new)
quiet_move names old new =
    quiet_if (bytes_eq old new) [] (lost_name names new ++ log.Name (file_named names old) new ∷ []) quiet_none
    (quiet-append (lost_name names new) (log.Name (file_named names old) new ∷ []) (quiet_given (λ file. log.Name file []) (λ file. refl) (finite_map.get names new)) (quiet_one _ refl))

pub quiet_args : (node : Node) (args : List ℕ) → Quiet (args_records node args)
quiet_args node [] = quiet_none
quiet_args node (b ∷ args) = quiet_one _ refl

pub quiet_content : (session : Session) (past : List Entry) (e : Entry) → Quiet (content_records session past e)
quiet_content session past e =
    let new : List ℕ = file_act (file_after session past e.what) e.act in
    quiet_cons (log.Size e.what (length new)) _ refl (quiet_map (digest_of e.what new) (λ block. refl) (filter (is_digested session past e) (range_with_len 0 1024)))

pub quiet_extra : (session : Session) (past : List Entry) (e : Entry) (node : Node) (a : Act) → Quiet (extra_records session past e node a)
quiet_extra session past e node (act.Put out at bytes) = quiet_content session past e
quiet_extra session past e node (act.Cut out size) = quiet_content session past e
quiet_extra session past e node (act.Exec out name args) = quiet_cons (log.Attr node (codes "EXE") name) (args_records node args) refl (quiet_args node args)
quiet_extra session past e node _ = quiet_none

only_versions : (session : Session) (past : List Entry) (e : Entry) (node : Node) (a : Act) (r : Record) → makes_edge r ≡ true
    → Contains (act_records session past e node a) r → Contains (version_records session past e node) r
only_versions session past e node (act.Bind name) r is h = absurd (quiet_cons (log.Object (pnode_of e.reply) kind.File) (log.Name (pnode_of e.reply) name ∷ []) refl (quiet_one (log.Name (pnode_of e.reply) name) refl) r is h)
only_versions session past e node (act.Mint k) r is h = absurd (quiet_one (log.Object (pnode_of e.reply) k) refl r is h)
only_versions session past e node (act.Move old new) r is h = absurd (quiet_move (registry_after session past).names old new r is h)
only_versions session past e node (act.Unbind name) r is h = absurd (quiet_one (log.Name (file_named (registry_after session past).names name) []) refl r is h)
only_versions session past e node (act.Tag attr value) r is h = absurd (quiet_one (log.Attr node attr value) refl r is h)
only_versions session past e node a r is h = elim (Contains-append_cases (version_records session past e node) (extra_records session past e node a) r h) [
  | inl l ↦ l
  | inr x ↦ absurd (quiet_extra session past e node a r is x)
]

-- the act has the records of a version
as_version : (session : Session) (past : List Entry) (e : Entry) (node : Node) (a : Act) → (always_freezes a ≡ true) ⊎ ((out : ℕ) × (out_of a ≡ Some out))
    → act_records session past e node a ≡ version_records session past e node ++ extra_records session past e node a
as_version session past e node (act.Bind name) h = elim h [ inl z ↦ absurd (cc) | inr o ↦ absurd (let z = o.1 in cc) ]
as_version session past e node (act.Mint k) h = elim h [ inl z ↦ absurd (cc) | inr o ↦ absurd (let z = o.1 in cc) ]
as_version session past e node (act.Move old new) h = elim h [ inl z ↦ absurd (cc) | inr o ↦ absurd (let z = o.1 in cc) ]
as_version session past e node (act.Unbind name) h = elim h [ inl z ↦ absurd (cc) | inr o ↦ absurd (let z = o.1 in cc) ]
as_version session past e node (act.Tag attr value) h = elim h [ inl z ↦ absurd (cc) | inr o ↦ absurd (let z = o.1 in cc) ]
as_version session past e node _ h = refl

-- the records of a version, by whether the entry freezes, whether it is fresh, and its source
abbrev put : Bool → Bool → Node → Option Node → List Record
put freezes fresh node source =
    (if freezes then log.Version node ∷ [] else []) ++ (if fresh then option_map_or (λ s. log.Input node s ∷ []) source [] else [])

in_freeze : (f : Bool) (node : Node) (r : Record) → Contains (if f then log.Version node ∷ [] else []) r → (f ≡ true) × (log.Version node ≡ r)
in_freeze true node r h = elim (Contains-push_cases [] (log.Version node) r h) [ inl l ↦ absurd (let z = l.1 in omega (arith, z)) | inr same ↦ (refl, same) ]
in_freeze false node r h = absurd (let z = h.1 in omega (arith, z))

in_fresh : (g : Bool) (node : Node) (o : Option Node) (r : Record) → Contains (if g then option_map_or (λ s. log.Input node s ∷ []) o [] else []) r
    → (g ≡ true) × (s : Node) × (o ≡ Some s) × (log.Input node s ≡ r)
in_fresh true node None r h = absurd (let z = h.1 in omega (arith, z))
in_fresh true node (Some s) r h = elim (Contains-push_cases [] (log.Input node s) r h) [ inl l ↦ absurd (let z = l.1 in omega (arith, z)) | inr same ↦ (refl, s, refl, same) ]
in_fresh false node o r h = absurd (let z = h.1 in omega (arith, z))

same_version : (a b : Node) → log.Version a ≡ log.Version b → a ≡ b
same_version a b e = cc

module _ (session : Session) (past : List Entry) (e : Entry) where
  abbrev nodes : List Node
  nodes = nodes_of session past

  abbrev node : Node
  node = node_at_entry session past nodes e

  unfault : (b : Bool) (xs : List Record) (r : Record) → Contains (if b then [] else xs) r → Contains xs r
  unfault true xs r h = absurd (let z = h.1 in omega (arith, z))
  unfault false xs r h = h

  among : (r : Record) → makes_edge r ≡ true → Contains (entry_records session past e) r
      → Contains (put (is_freeze session past nodes e) (is_fresh session past nodes e) node (source_in nodes e)) r
  among r is h = only_versions session past e node e.act r is (unfault (is_fault e.reply) (act_records session past e node e.act) r h)

  pub version_recorded : (a : Node) → Contains (entry_records session past e) (log.Version a) → (is_freeze session past nodes e ≡ true) × (node ≡ a)
  version_recorded a h =
      elim (Contains-append_cases (if is_freeze session past nodes e then log.Version node ∷ [] else []) _ (log.Version a) (among (log.Version a) refl h)) [
        | inl l ↦ let (f, same) = in_freeze (is_freeze session past nodes e) node (log.Version a) l in (f, same_version node a same)
        | inr m ↦ let (g, s, given, same) = in_fresh (is_fresh session past nodes e) node (source_in nodes e) (log.Version a) m in absurd (cc)
      ]

  pub input_recorded : (a b : Node) → Contains (entry_records session past e) (log.Input a b) → (is_fresh session past nodes e ≡ true) × (node ≡ a) × (source_in nodes e ≡ Some b)
  input_recorded a b h =
      elim (Contains-append_cases (if is_freeze session past nodes e then log.Version node ∷ [] else []) _ (log.Input a b) (among (log.Input a b) refl h)) [
        | inl l ↦ let (f, same) = in_freeze (is_freeze session past nodes e) node (log.Input a b) l in absurd (cc)
        | inr m ↦
            let (g, s, given, same) = in_fresh (is_fresh session past nodes e) node (source_in nodes e) (log.Input a b) m in
            let (target, source) = input_parts node s a b same in
            (g, target, given ∙ ap (λ s. Some s) source)
      ]

  -- an entry that freezes or is fresh is no fault, and has the records of its version
  whole : (is_fault e.reply ≡ false) → (always_freezes e.act ≡ true) ⊎ ((out : ℕ) × (out_of e.act ≡ Some out)) → (r : Record)
      → Contains (put (is_freeze session past nodes e) (is_fresh session past nodes e) node (source_in nodes e)) r → Contains (entry_records session past e) r
  whole fine acts r h =
      subst (λ xs. Contains xs r) (sym (ap (λ b. if b then [] else act_records session past e node e.act) fine ∙ as_version session past e node e.act acts))
      (Contains-append_left (version_records session past e node) (extra_records session past e node e.act) r h)

  fresh_acts : is_fresh session past nodes e ≡ true → (is_fault e.reply ≡ false) × (out : ℕ) × (out_of e.act ≡ Some out)
  fresh_acts fresh = named (source_place e) refl (true_left (is_in e) (is_exec e.act || not (is_repeated session past nodes e)) fresh)
    where
      named : (o : Option ℕ) → source_place e ≡ o → option_map_or (λ out. true) o false ≡ true → (is_fault e.reply ≡ false) × (out : ℕ) × (out_of e.act ≡ Some out)
      named None is h = absurd (cc)
      named (Some out) is h = let (fine, names) = no_fault (is_fault e.reply) (out_of e.act) out is in (fine, out, names)

  pub record_version : is_freeze session past nodes e ≡ true → Contains (entry_records session past e) (log.Version node)
  record_version freezes =
      let fine : is_fault e.reply ≡ false = not_so (is_fault e.reply) (true_left (not (is_fault e.reply)) _ freezes) in
      let acts : (always_freezes e.act ≡ true) ⊎ ((out : ℕ) × (out_of e.act ≡ Some out)) =
      elim (or_cases (always_freezes e.act) _ (true_right (not (is_fault e.reply)) _ freezes)) [
        | inl always ↦ inl always
        | inr both ↦ let (none, out, names) = fresh_acts (true_left (is_fresh session past nodes e) (is_marked session past nodes e.what) both) in inr (out, names)
      ] in
      whole fine acts (log.Version node)
      (Contains-append_left (if is_freeze session past nodes e then log.Version node ∷ [] else []) _ (log.Version node)
      (subst (λ b. Contains (if b then log.Version node ∷ [] else []) (log.Version node)) (sym freezes) (Contains-push [] (log.Version node))))
    where
      not_so : (b : Bool) → not b ≡ true → b ≡ false
      not_so true h = absurd (cc)
      not_so false h = refl

  pub record_input : (s : Node) → is_fresh session past nodes e ≡ true → source_in nodes e ≡ Some s → Contains (entry_records session past e) (log.Input node s)
  record_input s fresh given =
      let (fine, out, names) = fresh_acts fresh in
      whole fine (inr (out, names)) (log.Input node s)
      (Contains-append_right (if is_freeze session past nodes e then log.Version node ∷ [] else []) _ (log.Input node s)
      (subst (λ b. Contains (if b then option_map_or (λ s. log.Input node s ∷ []) (source_in nodes e) [] else []) (log.Input node s)) (sym fresh)
      (subst (λ o. Contains (option_map_or (λ s. log.Input node s ∷ []) o []) (log.Input node s)) (sym given) (Contains-push [] (log.Input node s)))))
