-- The laws.
use Rattle.std.proofs.Common.{ℕ, ◌≡◌, ◌+◌, ◌==◌, ◌||◌, ◌∙◌, sym, max, Bool, true, false, ◌⊎◌, inl, inr, refl, ap, List, [], arith}
use Rattle.std.specs.Prelude.{Some, slice_get, find, is_some, Contains, if◌then◌else◌}
use Rattle.std.proofs.lemmas.List.Elements.{Contains-append_left, Contains-append_right, Contains-append_cases}
use Rattle.pass_entry.specs.declared.entry.Entry.{Entry}
use Rattle.pass_entry.specs.declared.objects.Node.{Node}
use Rattle.pass_entry.specs.declared.record.Record.{Record}
use Rattle.pass_entry.specs.declared.record.Record.TheVariants as log
use Rattle.pass_plain.specs.declared.start.StartFile.{StartFile}
use Rattle.pass_plain.specs.Sessions.{Session, is_opened, opening_version}
use Rattle.pass_plain.specs.Legal.{IsLegal}
use Rattle.pass_plain.specs.Records.{records_of}
use Rattle.pass_plain.specs.Graphs.{IsEdge, HasPath}
use Rattle.pass_plain.specs.Graphs.HasPath.{edge, step}
use Rattle.pass_plain.specs.Graphs.IsEdge.{input as by_input, version as by_version}
use Rattle.pass_plain.specs.WellLogged.{is_known, current_of, ceiling_of}
use Rattle.pass_plain.specs.Ceilings.{ceilings_between, raised}
use Rattle.pass_plain.proofs.Raising.{raised_only}
use Rattle.pass_graph.specs.Openings.{Opens, session_list, IsOpened}
use Rattle.pass_graph.specs.Ranks.{rank_of}
use Rattle.pass_graph.specs.Lawful.{RankLaw, OpeningLaw, AcyclicLaw, ChainLaw, PathLaw, IsFaithful, GraphLaw, OwnGraphLaw, FirstOpeningLaw}
use Rattle.pass_graph.proofs.Stories.{Story, IsStory, IsBegun}
use Rattle.pass_graph.proofs.Falling.{Edge, Within, IsOpening, falls, is_new, acyclic}
use Rattle.pass_graph.proofs.Flowing.{chain_gives_path, path_gives_chain}
use Rattle.pass_graph.proofs.Telling.{told, is_told}
use Rattle.pass_graph.proofs.Edging.{to_edge, of_edge, is_rank, is_begun}
use Rattle.pass_graph.proofs.Joining.{to_reaches, to_joined}
use Rattle.pass_graph.proofs.Logging.{opened_by, is_opening}
use Rattle.pass_graph.proofs.Opening.{fits, known_start, last_version}

pub rank_law : RankLaw
rank_law session history legal a b e =
    let first : ℕ → ℕ = opening_version session.start in
    let same : (k : ℕ) (e : Entry) → slice_get history k ≡ Some e → first e.what ≡ opening_version session.start e.what = λ k e at. refl in
    let opened : ℕ → ℕ = λ o. 0 in
    falls (told first opened session history) (is_told session history legal first same opened) a b (to_edge session history legal first same opened a b e)
    (rank_of session history a) (rank_of session history b) (is_rank session history legal first same opened a) (is_rank session history legal first same opened b)

-- the edges of a session's list are those of the records before it, and its own

module _ (before : List Record) (session : Session) (history : List Entry) where
  abbrev front : List Record
  front = raised before (session.start.ceiling + session.objects)

  -- a record that is no ceiling is one of those before the session, or one of its own
  pub of_either : (r : Record) → ((c : ℕ) → log.Ceiling c ≡ r → ⊥) → Contains (session_list before session history) r → Contains before r ⊎ Contains (records_of session history) r
  of_either r other h = elim (Contains-append_cases front (records_of session history) r h) [
    | inl l ↦ inl (raised_only before (session.start.ceiling + session.objects) r other l)
    | inr m ↦ inr m
  ]

  of_before : (r : Record) → Contains before r → Contains (session_list before session history) r
  of_before r l =
      Contains-append_left front (records_of session history) r (Contains-append_left before (ceilings_between (ceiling_of before) (session.start.ceiling + session.objects)) r l)

  split : (a b : Node) → IsEdge (session_list before session history) a b → IsEdge before a b ⊎ IsEdge (records_of session history) a b
  split a b (by_input h) = elim (of_either (log.Input a b) (λ c z. cc) h) [ inl l ↦ inl (by_input l) | inr m ↦ inr (by_input m) ]
  split a b (by_version h same next) = elim (of_either (log.Version a) (λ c z. cc) h) [ inl l ↦ inl (by_version l same next) | inr m ↦ inr (by_version m same next) ]

  from_before : (a b : Node) → IsEdge before a b → IsEdge (session_list before session history) a b
  from_before a b (by_input h) = by_input (of_before (log.Input a b) h)
  from_before a b (by_version h same next) = by_version (of_before (log.Version a) h) same next

  from_own : (a b : Node) → IsEdge (records_of session history) a b → IsEdge (session_list before session history) a b
  from_own a b (by_input h) = by_input (Contains-append_right front (records_of session history) (log.Input a b) h)
  from_own a b (by_version h same next) = by_version (Contains-append_right front (records_of session history) (log.Version a) h) same next

module _ (before : List Record) (session : Session) (history : List Entry) (opens : Opens before session) (legal : IsLegal session history) where
  abbrev opened : ℕ → ℕ
  opened = opened_by before

  abbrev first : ℕ → ℕ
  first = λ o. max 1 (opened_by before o)

  abbrev story : Story
  story = told first opened session history

  abbrev begins : (k : ℕ) (e : Entry) → slice_get history k ≡ Some e → first e.what ≡ opening_version session.start e.what
  begins = fits before session opens history legal

  pub is : IsStory story
  is = is_told session history legal first begins opened

  pub begun : IsBegun story
  begun = is_begun session history legal opened begins (known_start before session opens history legal)

  pub opening : IsOpening opened before
  opening = is_opening before opens.logged opens.sources

  splits : (a b : Node) → IsEdge (session_list before session history) a b → IsEdge before a b ⊎ Edge story a b
  splits a b e = elim (split before session history a b e) [ inl l ↦ inl l | inr m ↦ inr (to_edge session history legal first begins opened a b m) ]

  holds : ((a b : Node) → IsEdge before a b → IsEdge (session_list before session history) a b) × ((a b : Node) → Edge story a b → IsEdge (session_list before session history) a b)
  holds = (from_before before session history, λ a b e. from_own before session history a b (of_edge session history legal first begins opened a b e))

  within_is : (a : Node) → Within opened a → IsOpened before a
  within_is a w = at_known (is_known before a.pnode) refl
    where
      at_known : (b : Bool) → is_known before a.pnode ≡ b → IsOpened before a
      at_known true known = let z : opened_by before a.pnode ≡ current_of before a.pnode = ap (λ b. if b then current_of before a.pnode else 0) known in let y = w.1 in (known, w.0, omega (arith, z, y))
      at_known false none = absurd (let z : opened_by before a.pnode ≡ 0 = ap (λ b. if b then current_of before a.pnode else 0) none in let y = w.1 in let x = w.0 in omega (arith, z, y, x))

  opening_edge : (a b : Node) → IsEdge (session_list before session history) a b → IsOpened before a → IsOpened before b
  opening_edge a b e (known, some, most) = elim (splits a b e) [
    | inl l ↦ within_is b (opening.ends a b l).1
    | inr m ↦
        let z = is_new story is begun a b m in
        let y : opened_by before a.pnode ≡ current_of before a.pnode = ap (λ b. if b then current_of before a.pnode else 0) known in
        absurd (omega (arith, z, y, most))
  ]

pub opening_law : OpeningLaw
opening_law before session history opens legal a b e old = opening_edge before session history opens legal a b e old

pub acyclic_law : AcyclicLaw
acyclic_law before session history opens legal =
    acyclic (story before session history opens legal) (is before session history opens legal) (begun before session history opens legal) before (session_list before session history)
    (opening before session history opens legal) (splits before session history opens legal) (rank_of session history)
    (is_rank session history legal (first before session history opens legal) (begins before session history opens legal) (opened_by before))

pub chain_law : ChainLaw
chain_law before session history opens legal a b (one, most) some joined =
    chain_gives_path (story before session history opens legal) (is before session history opens legal) (begun before session history opens legal) before (session_list before session history)
    (opening before session history opens legal) (holds before session history opens legal) a b (last_version before session opens history legal a.pnode a.version most) some
    (to_reaches session history legal (first before session history opens legal) (opened_by before) (begins before session history opens legal) before a b joined)

pub path_law : PathLaw
path_law before session history opens legal a b path =
    to_joined session history legal (first before session history opens legal) (opened_by before) (begins before session history opens legal) before a b
    (path_gives_chain (story before session history opens legal) (is before session history opens legal) (begun before session history opens legal) before (session_list before session history)
    (opening before session history opens legal) (splits before session history opens legal) path)

pub graph_law : GraphLaw
graph_law before session history opens legal = record {
  acyclic = acyclic_law before session history opens legal;
  joined = λ a b had some. ((λ path. path_law before session history opens legal a b path), (λ joined. chain_law before session history opens legal a b had some joined));
}

-- without records before it, the edges of a session's list are its own
own_edge : (session : Session) (history : List Entry) (a b : Node) → IsEdge (session_list [] session history) a b → IsEdge (records_of session history) a b
own_edge session history a b e = elim (split [] session history a b e) [ inl l ↦ absurd (none a b l) | inr m ↦ m ]
  where
    none : (a b : Node) → IsEdge [] a b → ⊥
    none a b (by_input h) = let z = h.1 in omega (arith, z)
    none a b (by_version h same next) = let z = h.1 in omega (arith, z)

along : (list more : List Record) → ((a b : Node) → IsEdge list a b → IsEdge more a b) → {a b : Node} → HasPath list a b → HasPath more a b
along list more has {a} {b} (edge e) = edge (has a b e)
along list more has {a} (step {b = m} e p) = step (has a m e) (along list more has p)

pub own_graph_law : OwnGraphLaw
own_graph_law session history opens legal =
    let g : IsFaithful (session_list [] session history) [] session history = graph_law [] session history opens legal in
    let narrow : (a b : Node) → IsEdge (session_list [] session history) a b → IsEdge (records_of session history) a b = own_edge session history in
    let widen : (a b : Node) → IsEdge (records_of session history) a b → IsEdge (session_list [] session history) a b = from_own [] session history in
    record {
      acyclic = λ a p. g.acyclic a (along (records_of session history) (session_list [] session history) widen p);
      joined = λ a b had some. (
        (λ p. (g.joined a b had some).0 (along (records_of session history) (session_list [] session history) widen p)),
        (λ j. along (session_list [] session history) (records_of session history) narrow ((g.joined a b had some).1 j)),
      );
    }

-- nothing is of an empty start
none_opened : (session : Session) → session.start.files.items ≡ [] → session.start.apps.items ≡ [] → (o : ℕ) → is_opened session.start o ≡ false
none_opened session no_files no_apps o =
    ap (λ files. is_some (find (λ (f : StartFile). f.node.pnode == o) files) || is_some (find (λ (n : Node). n.pnode == o) session.start.apps.items)) no_files
    ∙ ap (λ apps. is_some (find (λ (n : Node). n.pnode == o) apps)) no_apps

pub first_opening_law : FirstOpeningLaw
first_opening_law session sound no_files no_apps = record {
  sound = sound;
  logged = refl;
  objects = λ object k h. absurd (let z = h.1 in omega (arith, z));
  sources = λ target source h. absurd (let z = h.1 in omega (arith, z));
  ceiling = omega arith;
  current = λ object is. absurd (let z : true ≡ false = sym is ∙ none_opened session no_files no_apps object in cc);
}
