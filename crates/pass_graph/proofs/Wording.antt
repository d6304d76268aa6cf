-- What the definitions of versions, marks and freezes compute is what the words say.
use Rattle.std.proofs.Common.{ℕ, ◌≡◌, ◌≤◌, ◌<◌, ◌+◌, ◌==◌, zero, suc, Bool, true, false, not, ◌&&◌, ◌||◌, List, length, take, refl, ap, sym, ◌∙◌, ◌⊎◌, inl, inr, arith, ne_eqb}
use native.Mathlib.Decide.{ℕ_discrete}
use Rattle.std.specs.Prelude.{Option, Some, None, slice_get, zip, option_map, option_and_then, if◌then◌else◌}
use Rattle.std.specs.Option.{option_map_or}
use Rattle.std.proofs.lemmas.Option.{slice_get_within}
use Rattle.std.proofs.lemmas.Bool.{or_right, cases_Bool, or_cases}
use Rattle.pass_entry.specs.declared.entry.Entry.{Entry}
use Rattle.pass_entry.specs.declared.entry.Act.{Act}
use Rattle.pass_entry.specs.declared.entry.Act.TheVariants as act
use Rattle.pass_entry.specs.declared.objects.Node.{Node}
use Rattle.pass_entry.proofs.Places.{slice_get-take, zip_at}
use Rattle.pass_plain.specs.Histories.{is_fault, is_out, source_place}
use Rattle.pass_plain.specs.Sessions.{Session, is_opened, opening_version}
use Rattle.pass_plain.specs.Legal.{IsLegal}
use Rattle.pass_plain.specs.Versions.{same_node, same_source, node_in, version_in, nodes_of, source_in, is_in, is_exec, always_freezes, is_used, is_marked, is_repeated, is_fresh, version_after, marked_after}
use Rattle.pass_plain.proofs.Lists.{true_left, true_right, both_true, not_true, same_numbers, same_itself, is_place, any_at, any_of, in_take, within_take}
use Rattle.pass_plain.proofs.Versioned.{zip_left}
use Rattle.pass_graph.specs.Places.{object_at, source_at, is_out_at, is_in_at, is_fresh_at, is_freeze_at}
use Rattle.pass_graph.specs.Words.{freezes_at, count_freezes, NoFreezeBetween, IsMarkedBefore, HasTaken, IsInWords, WordsLaw}
use Rattle.pass_graph.proofs.Stories.{Story, Taken, IsStory, mono, le_split}
use Rattle.pass_graph.proofs.Standing.{zip_right, version_at, now, node_stands, version_past}
use Rattle.pass_graph.proofs.Telling.{takes_from, what_at, named_at, told, in_at, IsInAt, past_node, takes_past, used_since, same_parts, parts_same, what_is, out_is, in_is, fresh_is, freeze_is}
use Rattle.pass_graph.proofs.Joining.{is_node}
use Rattle.pass_graph.proofs.Repeating.{object_is, is, source_is}

-- an object has one version from place a to place b where it has no freeze there
stays_same : (s : Story) → IsStory s → (o a b : ℕ) → a ≤ b → b ≤ s.size → ((f : ℕ) → a ≤ f → f < b → s.what f ≡ o → s.freezes f ≡ false) → s.version o a ≡ s.version o b
stays_same s h o a zero le most none = ap (s.version o) (let z : a ≡ 0 = omega (arith, le) in z)
stays_same s h o a (suc b) le most none =
    elim (le_split a b le) [
      | inl same ↦ ap (s.version o) same
      | inr below ↦
          let rest : s.version o a ≡ s.version o b = stays_same s h o a b below (omega (arith, most)) (λ f al fb on. none f al (omega (arith, fb)) on) in
          elim (ℕ_discrete (s.what b) o) [
            | yes on ↦ rest ∙ sym (h.keeps b o (omega (arith, most)) on (none b below (omega arith) on))
            | no off ↦ rest ∙ sym (h.same b o (omega (arith, most)) off)
          ]
    ]

pub no_freeze : (s : Story) → IsStory s → (o a b f : ℕ) → b ≤ s.size → s.version o a ≡ s.version o b → a ≤ f → f < b → s.what f ≡ o → s.freezes f ≡ false
no_freeze s h o a b f most same al fb on =
    elim (cases_Bool (s.freezes f)) [
      | inr kept ↦ kept
      | inl moved ↦
          let before : s.version o a ≤ s.version o f = mono s h o a f al (omega (arith, fb, most)) in
          let after : s.version o (suc f) ≤ s.version o b = mono s h o (suc f) b fb most in
          let raised = h.moves f o (omega (arith, fb, most)) on moved in
          absurd (omega (arith, same, before, after, raised))
    ]

always_is : (a : Act) → always_freezes a ≡ true → (a ≡ act.Freeze) ⊎ (is_exec a ≡ true)
always_is act.Freeze h = inl refl
always_is (act.Exec out name args) h = inr refl
always_is _ h = absurd (cc)

exec_always : (a : Act) → is_exec a ≡ true → always_freezes a ≡ true
exec_always (act.Exec out name args) h = refl
exec_always _ h = absurd (cc)

module _ (session : Session) (history : List Entry) (legal : IsLegal session history) where
  abbrev begins : ℕ → ℕ
  begins = opening_version session.start

  abbrev version : ℕ → ℕ → ℕ
  version = version_at (opening_version session.start) session history

  abbrev s : Story
  s = told (opening_version session.start) (λ o. 0) session history

  abbrev fits : (k : ℕ) (e : Entry) → slice_get history k ≡ Some e → opening_version session.start e.what ≡ opening_version session.start e.what
  fits = λ k e at. refl

  h : IsStory s
  h = is session history legal

  after_is : (k o : ℕ) → k ≤ length history → version o k ≡ version_after session (take k history) o
  after_is k o le = version_past session history begins k o le refl

  is_object : (k o : ℕ) → k < length history → what_at history k ≡ o → object_at history k ≡ Some o
  is_object k o within on =
      let (e, at) = is_place history k within in
      ap (option_map (λ e. e.what)) at ∙ ap (λ n. Some n) (sym (what_is session history k e at) ∙ on)

  frozen_is : (k o : ℕ) → k < length history → freezes_at session history o k ≡ (is_freeze_at session history k && what_at history k == o)
  frozen_is k o within =
      ap (λ x. is_freeze_at session history k && option_map_or (λ p. p == o) x false) (is_object k (what_at history k) within refl)

  count : (k o : ℕ) → k ≤ length history → version o k ≡ opening_version session.start o + count_freezes session history o k
  count zero o le = let z : version o 0 ≡ opening_version session.start o + 0 = omega arith in z
  count (suc k) o le =
      let rest : version o k ≡ opening_version session.start o + count_freezes session history o k = count k o (omega (arith, le)) in
      let is = frozen_is k o (omega (arith, le)) in
      let low : ℕ = count_freezes session history o k in
      elim (ℕ_discrete (what_at history k) o) [
        | no off ↦
            let t : freezes_at session history o k ≡ false = is ∙ ap (λ b. is_freeze_at session history k && b) (ne_eqb (what_at history k) o off) ∙ nothing (is_freeze_at session history k) in
            let z : count_freezes session history o (suc k) ≡ low = ap (λ b. if b then suc low else low) t in
            let y = h.same k o (omega (arith, le)) off in
            omega (arith, rest, z, y)
        | yes on ↦
            let same : (what_at history k == o) ≡ true = ap (λ n. n == o) on ∙ same_itself o in
            elim (cases_Bool (is_freeze_at session history k)) [
              | inl moved ↦
                  let t : freezes_at session history o k ≡ true = is ∙ both_true _ _ moved same in
                  let z : count_freezes session history o (suc k) ≡ suc low = ap (λ b. if b then suc low else low) t in
                  let y = h.moves k o (omega (arith, le)) on moved in
                  omega (arith, rest, z, y)
              | inr kept ↦
                  let t : freezes_at session history o k ≡ false = is ∙ ap (λ b. b && what_at history k == o) kept in
                  let z : count_freezes session history o (suc k) ≡ low = ap (λ b. if b then suc low else low) t in
                  let y = h.keeps k o (omega (arith, le)) on kept in
                  omega (arith, rest, z, y)
            ]
      ]
    where
      nothing : (b : Bool) → b && false ≡ false
      nothing true = refl
      nothing false = refl

  out_in : (k : ℕ) → is_out_at history k ≡ true → k < length history
  out_in k here = by_entry (slice_get history k) refl here
    where
      by_entry : (o : Option Entry) → slice_get history k ≡ o → option_map_or is_out o false ≡ true → k < length history
      by_entry None at t = absurd (cc)
      by_entry (Some e) at t = slice_get_within history k e at

  -- marks

  marked_word : (k o : ℕ) → k ≤ length history → marked_after session (take k history) o ≡ true → IsMarkedBefore session history o k
  marked_word k o le here =
      let nodes : List Node = nodes_of session (take k history) in
      let level : version o k ≡ version_in session nodes o = after_is k o le in
      elim (or_cases (is_used (take k history) nodes (node_in session nodes o)) _ here) [
        | inl used ↦
            let (j, p, at, passes) = any_at (λ (p : Entry × Node). is_out p.0 && same_node p.1 (node_in session nodes o)) (zip (take k history) nodes) used in
            let at_past : slice_get (take k history) j ≡ Some p.0 = zip_left (take k history) nodes j p at in
            let at_j : slice_get history j ≡ Some p.0 = slice_get-take k j history p.0 at_past in
            let short : j < k = within_take k j history p.0 at_past in
            let within : j < length history = omega (arith, short, le) in
            let is_now : now session history j p.0 ≡ p.1 = some_node _ _ (sym (past_node session history legal begins fits k j _ le short (node_stands session history j p.0 at_j)) ∙ zip_right (take k history) nodes j p at) in
            let (object, high) = same_parts p.1 (node_in session nodes o) (true_right (is_out p.0) _ passes) in
            let on : what_at history j ≡ o = what_is session history j p.0 at_j ∙ ap (λ (n : Node). n.pnode) is_now ∙ object in
            let out : is_out_at history j ≡ true = out_is session history j p.0 at_j ∙ true_left (is_out p.0) _ passes in
            let stood = is_node session history legal begins (λ o. 0) fits j o (version o (suc j)) within on refl in
            let same_now : record { pnode = o; version = version o (suc j) } ≡ now session history j p.0 = some_node _ _ (sym stood ∙ node_stands session history j p.0 at_j) in
            let after : version o (suc j) ≡ version o k = ap (λ (n : Node). n.version) same_now ∙ ap (λ (n : Node). n.version) is_now ∙ high ∙ sym level in
            inl (record {
              out = j;
              stands = short;
              is_out = out;
              on = is_object j o within on;
              since = λ f jf fk on_f. no_freeze s h o (suc j) k f le after jf fk (object_is history f o on_f);
            })
        | inr old ↦
            let same : version o 0 ≡ version o k = sym (level ∙ same_numbers _ _ (true_right (is_opened session.start o) _ old)) in
            inr (true_left (is_opened session.start o) _ old, λ f fk on_f. no_freeze s h o 0 k f le same (omega arith) fk (object_is history f o on_f))
      ]
    where
      some_node : (a b : Node) → ◌≡◌ {A = Option Node} (Some a) (Some b) → a ≡ b
      some_node a b e = cc

  word_marked : (k o : ℕ) → k ≤ length history → IsMarkedBefore session history o k → marked_after session (take k history) o ≡ true
  word_marked k o le (inl used) =
      let j : ℕ = used.out in
      let within : j < length history = out_in j used.is_out in
      let (f, at) = is_place history j within in
      let on : what_at history j ≡ o = object_is history j o used.on in
      let rests : is_freeze_at session history j ≡ false = (h.outs j within used.is_out).0 in
      let same : version o j ≡ version o k = stays_same s h o j k (let z = used.stands in omega (arith, z)) le (λ f jf fk on_f. at_or_after j f jf fk rests used.since on_f) in
      used_since session history legal begins fits k j o f le refl at used.stands (sym (out_is session history j f at) ∙ used.is_out) (sym (what_is session history j f at) ∙ on) same
    where
      at_or_after : (j f : ℕ) → j ≤ f → f < k → is_freeze_at session history j ≡ false → NoFreezeBetween session history o j k → what_at history f ≡ o → is_freeze_at session history f ≡ false
      at_or_after j f jf fk rests since on_f = elim (ℕ_discrete j f) [
        | yes same ↦ ap (is_freeze_at session history) (sym same) ∙ rests
        | no other ↦ since f (omega (arith, jf, other)) fk (is_object f o (omega (arith, fk, le)) on_f)
      ]
  word_marked k o le (inr old) =
      let nodes : List Node = nodes_of session (take k history) in
      let same : version o 0 ≡ version o k = stays_same s h o 0 k (omega arith) le (λ f zf fk on_f. old.1 f fk (is_object f o (omega (arith, fk, le)) on_f)) in
      or_right (is_used (take k history) nodes (node_in session nodes o)) _
      (both_true _ _ old.0 (ap (λ v. v == opening_version session.start o) (sym (same ∙ after_is k o le)) ∙ same_itself (opening_version session.start o)))

  -- earlier INs

  taken_word : (k : ℕ) (e : Entry) → slice_get history k ≡ Some e → is_in_at history k ≡ true → is_fresh_at session history k ≡ false
      → (source : Node) × (source_at session history k ≡ Some source) × HasTaken session history e.what k source
  taken_word k e at here stale =
      let within : k < length history = slice_get_within history k e at in
      let x : ℕ = what_at history (named_at history k) in
      let w : ℕ = version x (named_at history k) in
      let t : Taken s k e.what (version e.what k) x w = (h.repeats k e.what x within here stale (what_is session history k e at) refl).1 in
      let short = t.below in
      let within_j : t.place < length history = omega (arith, short, within) in
      let object : what_at history (named_at history t.place) ≡ x = t.source in
      let level : version (what_at history (named_at history t.place)) (named_at history t.place) ≡ w = ap (λ o. version o (named_at history t.place)) object ∙ t.source_version in (
        record { pnode = x; version = w },
        source_is session history legal k within here,
        record {
          into = t.place;
          stands = short;
          is_in = t.is_in;
          on = is_object t.place e.what within_j t.what;
          from = source_is session history legal t.place within_j t.is_in ∙ (λ j. Some (record { pnode = object j; version = level j }));
          since = λ f jf fk on_f. no_freeze s h e.what (suc t.place) k f (omega (arith, within)) t.version jf fk (object_is history f e.what on_f);
        },
      )

  word_taken : (k : ℕ) (e : Entry) (source : Node) → slice_get history k ≡ Some e → is_in_at history k ≡ true → source_at session history k ≡ Some source → HasTaken session history e.what k source
      → is_repeated session (take k history) (nodes_of session (take k history)) e ≡ true
  word_taken k e source at here from t =
      let within : k < length history = slice_get_within history k e at in
      let nodes : List Node = nodes_of session (take k history) in
      let o : ℕ = e.what in
      let j : ℕ = t.into in
      let short = t.stands in
      let within_j : j < length history = omega (arith, short, within) in
      let i : IsInAt history k = in_at session history legal k within here in
      let ij : IsInAt history j = in_at session history legal j within_j t.is_in in
      let on : what_at history j ≡ o = object_is history j o t.on in
      let same : version o (suc j) ≡ version o k = stays_same s h o (suc j) k short (omega (arith, within)) (λ f jf fk on_f. t.since f jf fk (is_object f o (omega (arith, fk, within)) on_f)) in
      let level : version o (suc j) ≡ version_in session nodes o = same ∙ after_is k o (omega (arith, within)) in
      let n : Node = record { pnode = o; version = version o (suc j) } in
      let stood = is_node session history legal begins (λ o. 0) fits j o (version o (suc j)) within_j on refl in
      let from_k : source_in nodes e ≡ Some source = past_source k k i (omega (arith, within)) (omega arith) e at source from in
      let from_j : source_in nodes ij.entry ≡ Some source = past_source k j ij (omega (arith, within)) (omega (arith, short)) ij.entry ij.stands source t.from in
      any_of (λ (p : Entry × Node). same_node p.1 (node_in session nodes o) && same_source (source_in nodes p.0) (source_in nodes e)) (zip (take k history) nodes) j (ij.entry, n)
      (zip_at (take k history) nodes j ij.entry n (in_take j k history ij.entry short ij.stands) (past_node session history legal begins fits k j n (omega (arith, within)) short stood))
      (both_true _ _ (parts_same n (node_in session nodes o) refl level)
      (ap (λ a. same_source a (source_in nodes e)) from_j ∙ ap (λ b. same_source (Some source) b) from_k ∙ parts_same source source refl refl))
    where
      some_node : (a b : Node) → ◌≡◌ {A = Option Node} (Some a) (Some b) → a ≡ b
      some_node a b e = cc

      some_entry : (a b : Entry) → ◌≡◌ {A = Option Entry} (Some a) (Some b) → a ≡ b
      some_entry a b e = cc

      -- what the IN at a place takes from is known before place k
      past_source : (k j : ℕ) (i : IsInAt history j) → k ≤ length history → j ≤ k → (f : Entry) → slice_get history j ≡ Some f → (source : Node) → source_at session history j ≡ Some source
          → source_in (nodes_of session (take k history)) f ≡ Some source
      past_source k j i le short f at source from =
          let same : i.entry ≡ f = some_entry _ _ (sym i.stands ∙ at) in
          let whole = takes_past session history legal begins fits (length history) j i (omega arith) (omega (arith, short, le)) in
          let here = takes_past session history legal begins fits k j i le short in
          let all : source_in (nodes_of session history) i.entry ≡ Some source = ap (λ e. source_in (nodes_of session history) e) same ∙ sym (ap (option_and_then (source_in (nodes_of session history))) at) ∙ from in
          ap (λ e. source_in (nodes_of session (take k history)) e) (sym same) ∙ here ∙ sym (source_all j i (omega (arith, short, le))) ∙ all
        where
          source_all : (j : ℕ) (i : IsInAt history j) → j ≤ length history → source_in (nodes_of session history) i.entry ≡ Some (record { pnode = i.source.what; version = version i.source.what i.out })
          source_all j i le = takes_from session history legal begins fits j i

  in_words : (k : ℕ) (e : Entry) → slice_get history k ≡ Some e → IsInWords session history k e
  in_words k e at =
      let within : k < length history = slice_get_within history k e at in
      let past : List Entry = take k history in
      let nodes : List Node = nodes_of session past in
      record {
        version = λ o. sym (after_is (suc k) o (omega (arith, within))) ∙ count (suc k) o (omega (arith, within));
        node = is_node session history legal begins (λ o. 0) fits k e.what (version_after session (take (suc k) history) e.what) within (what_is session history k e at) (after_is (suc k) e.what (omega (arith, within)));
        source = λ out names.
            ap (option_and_then (source_in (nodes_of session history))) at
            ∙ ap (λ o. option_map_or (λ out. slice_get (nodes_of session history) out) o None) (sym (ap (option_and_then source_place) at) ∙ names);
        marked = λ o. ((λ t. marked_word k o (omega (arith, within)) t), (λ w. word_marked k o (omega (arith, within)) w));
        fresh = (
          (λ t.
              let new : is_fresh session past nodes e ≡ true = sym (fresh_is session history k e at) ∙ t in
              let here : is_in_at history k ≡ true = in_is session history k e at ∙ true_left (is_in e) _ new in (
                here,
                elim (or_cases (is_exec e.act) _ (true_right (is_in e) _ new)) [
                  | inl exec ↦ inl exec
                  | inr once ↦ inr (λ source from taken.
                      let again = word_taken k e source at here from taken in
                      let z : true ≡ false = sym again ∙ not_true _ once in cc)
                ],
              )),
          (λ w. elim (cases_Bool (is_fresh_at session history k)) [
            | inl new ↦ new
            | inr stale ↦ elim w.1 [
              | inl exec ↦
                  fresh_is session history k e at
                  ∙ both_true _ _ (sym (in_is session history k e at) ∙ w.0) (ap (λ b. b || not (is_repeated session past nodes e)) exec)
              | inr never ↦ let (source, from, taken) = taken_word k e at w.0 stale in absurd (never source from taken)
            ]
          ]),
        );
        freezes = (
          (λ t.
              let moved = sym (freeze_is session history k e at) ∙ t in (
                not_true _ (true_left (not (is_fault e.reply)) _ moved),
                elim (or_cases (always_freezes e.act) _ (true_right (not (is_fault e.reply)) _ moved)) [
                  | inl always ↦ elim (always_is e.act always) [ inl f ↦ inl f | inr x ↦ inr (inl x) ]
                  | inr both ↦ inr (inr (
                    fresh_is session history k e at ∙ true_left (is_fresh session past nodes e) _ both,
                    marked_word k e.what (omega (arith, within)) (true_right (is_fresh session past nodes e) _ both),
                  ))
                ],
              )),
          (λ w.
              freeze_is session history k e at
              ∙ both_true _ _ (ap not w.0) (elim w.1 [
                | inl f ↦ ap (λ b. b || (is_fresh session past nodes e && is_marked session past nodes e.what)) (ap always_freezes f)
                | inr r ↦ elim r [
                  | inl exec ↦ ap (λ b. b || (is_fresh session past nodes e && is_marked session past nodes e.what)) (exec_always e.act exec)
                  | inr both ↦ or_right (always_freezes e.act) _ (both_true _ _ (sym (fresh_is session history k e at) ∙ both.0) (word_marked k e.what (omega (arith, within)) both.1))
                ]
              ])),
        );
      }

pub words_law : WordsLaw
words_law session history legal place e at = in_words session history legal place e at
