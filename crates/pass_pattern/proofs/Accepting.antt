-- Each text of a pattern is read to its end, and gives the pattern.
use Rattle.std.proofs.Common.{ℕ, ◌≡◌, ◌==◌, suc, true, false, refl, sym, ap, ◌∙◌, List, [], ◌∷◌, ◌++◌, arith, append_assoc}
use Rattle.std.specs.Prelude.{Option, Some, None, codes, Contains, option_map, if◌then◌else◌}
use Rattle.std.specs.List.{list_all}
use Rattle.std.proofs.lemmas.List.{append-nil}
use Rattle.std.proofs.lemmas.Bool.{false_from_ne_true}
use Rattle.std.proofs.lemmas.Option.{none-some}
use Rattle.pass_entry.specs.Texts.{IsName, is_name, is_name_byte, is_name_length}
use Rattle.pass_plain.proofs.Lists.{some_is, true_left, true_right, same_numbers}
use Rattle.pass_pattern.specs.declared.pattern.EdgeTest.{EdgeTest}
use Rattle.pass_pattern.specs.declared.pattern.EdgeTest.TheVariants.{Other, Same, Any}
use Rattle.pass_pattern.specs.Patterns.{Shape}
use Rattle.pass_pattern.specs.Patterns.Shape.{One, Then, Or, Many}
use Rattle.pass_pattern.specs.Grammar.{letter, Binding, IsText, OnePatternLaw}
use Rattle.pass_pattern.specs.Grammar.Binding.{alt, seq, rep, atom}
use Rattle.pass_pattern.specs.Grammar.IsText.{plain, named, group, once, star, only, then_on, alone, or_else}
use Rattle.pass_pattern.specs.Reading.{Last, Level, State, state, fresh, joined_shape, whole_shape, step_of, pattern_of}
use Rattle.pass_pattern.specs.Reading.Last.{Nothing, Letter, Name, Atom, Starred}
use Rattle.pass_pattern.proofs.Running.{and_on, run, runs_on}

abbrev with_steps : Option Shape → Option Shape → Level
with_steps alternatives steps = record { alternatives = alternatives; steps = steps }

-- the step that was read last, if a star may come behind it
abbrev atom_of : Last → Option Shape
atom_of (Letter edge) = Some (One edge None)
atom_of (Atom q) = Some q
atom_of _ = None

record ReadsAtom (p : Shape) (text : List ℕ) (level : Level) (outer : List Level) : Type 0 where
  last : Last
  is : run (state Nothing level outer) text ≡ Some (state last level outer)
  at : atom_of last ≡ Some p

record ReadsStep (p : Shape) (text : List ℕ) (level : Level) (outer : List Level) : Type 0 where
  last : Last
  is : run (state Nothing level outer) text ≡ Some (state last level outer)
  at : step_of last ≡ Some p

record ReadsSteps (p : Shape) (text : List ℕ) (alternatives : Option Shape) (outer : List Level) : Type 0 where
  last : Last
  steps : Option Shape
  step : Shape
  is : run (state Nothing (with_steps alternatives None) outer) text ≡ Some (state last (with_steps alternatives steps) outer)
  at : step_of last ≡ Some step
  whole : joined_shape steps step ≡ p

record ReadsAll (p : Shape) (text : List ℕ) (outer : List Level) : Type 0 where
  last : Last
  level : Level
  step : Shape
  is : run (state Nothing fresh outer) text ≡ Some (state last level outer)
  at : step_of last ≡ Some step
  whole : whole_shape level step ≡ p

-- a part of a pattern is read wherever it may stand
abbrev Reads : Binding → Shape → List ℕ → Type 0
Reads atom p text = (level : Level) (outer : List Level) → ReadsAtom p text level outer
Reads rep p text = (level : Level) (outer : List Level) → ReadsStep p text level outer
Reads seq p text = (alternatives : Option Shape) (outer : List Level) → ReadsSteps p text alternatives outer
Reads alt p text = (outer : List Level) → ReadsAll p text outer

read_plain : (edge : EdgeTest) (level : Level) (outer : List Level) → run (state Nothing level outer) (letter edge) ≡ Some (state (Letter edge) level outer)
read_plain Other level outer = refl
read_plain Same level outer = refl
read_plain Any level outer = refl

read_brace : (edge : EdgeTest) (level : Level) (outer : List Level) → run (state Nothing level outer) (letter edge ++ codes "{") ≡ Some (state (Name edge []) level outer)
read_brace Other level outer = refl
read_brace Same level outer = refl
read_brace Any level outer = refl

-- the bytes of a name
read_bytes : (edge : EdgeTest) (level : Level) (outer : List Level) (before bytes : List ℕ) → list_all is_name_byte bytes ≡ true → ¬ (Contains bytes 125)
    → run (state (Name edge before) level outer) bytes ≡ Some (state (Name edge (before ++ bytes)) level outer)
read_bytes edge level outer before [] all none = ap (λ xs. Some (state (Name edge xs) level outer)) (sym (append-nil before))
read_bytes edge level outer before (byte ∷ bytes) all none =
    ap (λ b. and_on (if b then (if is_name before then Some (state (Atom (One edge (Some before))) level outer) else None) else (if is_name_byte byte then Some (state (Name edge (before ++ byte ∷ [])) level outer) else None)) (λ t. run t bytes)) no_brace
    ∙ ap (λ b. and_on (if b then Some (state (Name edge (before ++ byte ∷ [])) level outer) else None) (λ t. run t bytes)) (true_left (is_name_byte byte) (list_all is_name_byte bytes) all)
    ∙ read_bytes edge level outer (before ++ byte ∷ []) bytes (true_right (is_name_byte byte) (list_all is_name_byte bytes) all) (λ (k, within, is). none (suc k, omega (arith, within), is))
    ∙ ap (λ xs. Some (state (Name edge xs) level outer)) (append_assoc before (byte ∷ []) bytes)
  where
    no_brace : (byte == 125) ≡ false
    no_brace = false_from_ne_true (byte == 125) (λ same. none (0, omega arith, same_numbers byte 125 same))

read_named : (edge : EdgeTest) (name : List ℕ) → IsName name → ¬ (Contains name 125) → Reads atom (One edge (Some name)) (letter edge ++ codes "{" ++ name ++ codes "}")
read_named edge name fine none level outer = record {
  last = Atom (One edge (Some name));
  is =
      runs_on (state Nothing level outer) (state (Name edge name) level outer) (letter edge ++ codes "{" ++ name) (codes "}") (Some (state (Atom (One edge (Some name))) level outer))
      (runs_on (state Nothing level outer) (state (Name edge []) level outer) (letter edge ++ codes "{") name (Some (state (Name edge name) level outer)) (read_brace edge level outer)
      (read_bytes edge level outer [] name (true_right (is_name_length name) (list_all is_name_byte name) fine) none))
      (ap (λ b. and_on (if b then Some (state (Atom (One edge (Some name))) level outer) else None) (λ t. Some t)) fine);
  at = refl;
}

-- behind a step that may have a star it comes
read_star : (last : Last) (p : Shape) (level : Level) (outer : List Level) → atom_of last ≡ Some p → run (state last level outer) (codes "*") ≡ Some (state (Starred (Many p)) level outer)
read_star Nothing p level outer at = absurd (none-some p at)
read_star (Letter edge) p level outer at = ap (λ q. Some (state (Starred (Many q)) level outer)) (some_is (One edge None) p at)
read_star (Name edge name) p level outer at = absurd (none-some p at)
read_star (Atom q) p level outer at = ap (λ q. Some (state (Starred (Many q)) level outer)) (some_is q p at)
read_star (Starred q) p level outer at = absurd (none-some p at)

-- behind a whole step comes a slash, a bar or a parenthesis
read_slash : (last : Last) (p : Shape) (level : Level) (outer : List Level) → step_of last ≡ Some p
    → run (state last level outer) (codes "/") ≡ Some (state Nothing (with_steps level.alternatives (Some (joined_shape level.steps p))) outer)
read_slash Nothing p level outer at = absurd (none-some p at)
read_slash (Letter edge) p level outer at = ap (λ q. Some (state Nothing (with_steps level.alternatives (Some (joined_shape level.steps q))) outer)) (some_is (One edge None) p at)
read_slash (Name edge name) p level outer at = absurd (none-some p at)
read_slash (Atom q) p level outer at = ap (λ q. Some (state Nothing (with_steps level.alternatives (Some (joined_shape level.steps q))) outer)) (some_is q p at)
read_slash (Starred q) p level outer at = ap (λ q. Some (state Nothing (with_steps level.alternatives (Some (joined_shape level.steps q))) outer)) (some_is q p at)

read_bar : (last : Last) (p : Shape) (level : Level) (outer : List Level) → step_of last ≡ Some p
    → run (state last level outer) (codes "|") ≡ Some (state Nothing (with_steps (Some (whole_shape level p)) None) outer)
read_bar Nothing p level outer at = absurd (none-some p at)
read_bar (Letter edge) p level outer at = ap (λ q. Some (state Nothing (with_steps (Some (whole_shape level q)) None) outer)) (some_is (One edge None) p at)
read_bar (Name edge name) p level outer at = absurd (none-some p at)
read_bar (Atom q) p level outer at = ap (λ q. Some (state Nothing (with_steps (Some (whole_shape level q)) None) outer)) (some_is q p at)
read_bar (Starred q) p level outer at = ap (λ q. Some (state Nothing (with_steps (Some (whole_shape level q)) None) outer)) (some_is q p at)

read_close : (last : Last) (p : Shape) (level above : Level) (outer : List Level) → step_of last ≡ Some p
    → run (state last level (above ∷ outer)) (codes ")") ≡ Some (state (Atom (whole_shape level p)) above outer)
read_close Nothing p level above outer at = absurd (none-some p at)
read_close (Letter edge) p level above outer at = ap (λ q. Some (state (Atom (whole_shape level q)) above outer)) (some_is (One edge None) p at)
read_close (Name edge name) p level above outer at = absurd (none-some p at)
read_close (Atom q) p level above outer at = ap (λ q. Some (state (Atom (whole_shape level q)) above outer)) (some_is q p at)
read_close (Starred q) p level above outer at = ap (λ q. Some (state (Atom (whole_shape level q)) above outer)) (some_is q p at)

atom_step : (last : Last) (p : Shape) → atom_of last ≡ Some p → step_of last ≡ Some p
atom_step Nothing p at = absurd (none-some p at)
atom_step (Letter edge) p at = at
atom_step (Name edge name) p at = absurd (none-some p at)
atom_step (Atom q) p at = at
atom_step (Starred q) p at = absurd (none-some p at)

read_group : (p : Shape) (text : List ℕ) → Reads alt p text → Reads atom p (codes "(" ++ text ++ codes ")")
read_group p text reads level outer =
    let r = reads (level ∷ outer) in
    record {
      last = Atom p;
      is =
          runs_on (state Nothing level outer) (state r.last r.level (level ∷ outer)) (codes "(" ++ text) (codes ")") (Some (state (Atom p) level outer)) r.is
          (read_close r.last r.step r.level level outer r.at ∙ ap (λ q. Some (state (Atom q) level outer)) r.whole);
      at = refl;
    }

read_many : (p : Shape) (text : List ℕ) → Reads atom p text → Reads rep (Many p) (text ++ codes "*")
read_many p text reads level outer =
    let r = reads level outer in
    record {
      last = Starred (Many p);
      is = runs_on (state Nothing level outer) (state r.last level outer) text (codes "*") (Some (state (Starred (Many p)) level outer)) r.is (read_star r.last p level outer r.at);
      at = refl;
    }

read_once : (p : Shape) (text : List ℕ) → Reads atom p text → Reads rep p text
read_once p text reads level outer = let r = reads level outer in record { last = r.last; is = r.is; at = atom_step r.last p r.at }

read_only : (p : Shape) (text : List ℕ) → Reads rep p text → Reads seq p text
read_only p text reads alternatives outer =
    let r = reads (with_steps alternatives None) outer in
    record { last = r.last; steps = None; step = p; is = r.is; at = r.at; whole = refl }

read_then : (p q : Shape) (text rest : List ℕ) → Reads seq p text → Reads rep q rest → Reads seq (Then p q) (text ++ codes "/" ++ rest)
read_then p q text rest reads more alternatives outer =
    let r = reads alternatives outer in
    let s = more (with_steps alternatives (Some p)) outer in
    let slash : run (state r.last (with_steps alternatives r.steps) outer) (codes "/") ≡ Some (state Nothing (with_steps alternatives (Some p)) outer) =
    read_slash r.last r.step (with_steps alternatives r.steps) outer r.at ∙ ap (λ x. Some (state Nothing (with_steps alternatives (Some x)) outer)) r.whole in
    record {
      last = s.last;
      steps = Some p;
      step = q;
      is =
          runs_on (state Nothing (with_steps alternatives None) outer) (state Nothing (with_steps alternatives (Some p)) outer) (text ++ codes "/") rest (Some (state s.last (with_steps alternatives (Some p)) outer))
          (runs_on (state Nothing (with_steps alternatives None) outer) (state r.last (with_steps alternatives r.steps) outer) text (codes "/") (Some (state Nothing (with_steps alternatives (Some p)) outer)) r.is slash)
          s.is;
      at = s.at;
      whole = refl;
    }

read_alone : (p : Shape) (text : List ℕ) → Reads seq p text → Reads alt p text
read_alone p text reads outer =
    let r = reads None outer in
    record { last = r.last; level = with_steps None r.steps; step = r.step; is = r.is; at = r.at; whole = r.whole }

read_or : (p q : Shape) (text rest : List ℕ) → Reads alt p text → Reads seq q rest → Reads alt (Or p q) (text ++ codes "|" ++ rest)
read_or p q text rest reads more outer =
    let r = reads outer in
    let s = more (Some p) outer in
    let bar : run (state r.last r.level outer) (codes "|") ≡ Some (state Nothing (with_steps (Some p) None) outer) =
    read_bar r.last r.step r.level outer r.at ∙ ap (λ x. Some (state Nothing (with_steps (Some x) None) outer)) r.whole in
    record {
      last = s.last;
      level = with_steps (Some p) s.steps;
      step = s.step;
      is =
          runs_on (state Nothing fresh outer) (state Nothing (with_steps (Some p) None) outer) (text ++ codes "|") rest (Some (state s.last (with_steps (Some p) s.steps) outer))
          (runs_on (state Nothing fresh outer) (state r.last r.level outer) text (codes "|") (Some (state Nothing (with_steps (Some p) None) outer)) r.is bar)
          s.is;
      at = s.at;
      whole = ap (Or p) s.whole;
    }

reads : {binding : Binding} {p : Shape} {text : List ℕ} → IsText binding p text → Reads binding p text
reads (plain edge) = λ level outer. record { last = Letter edge; is = read_plain edge level outer; at = refl }
reads (named edge name fine none) = read_named edge name fine none
reads (group {p = p} {text = text} inner) = read_group p text (reads inner)
reads (once {p = p} {text = text} inner) = read_once p text (reads inner)
reads (star {p = p} {text = text} inner) = read_many p text (reads inner)
reads (only {p = p} {text = text} inner) = read_only p text (reads inner)
reads (then_on {p = p} {q = q} {text = text} {rest = rest} first second) = read_then p q text rest (reads first) (reads second)
reads (alone {p = p} {text = text} inner) = read_alone p text (reads inner)
reads (or_else {p = p} {q = q} {text = text} {rest = rest} first second) = read_or p q text rest (reads first) (reads second)

-- what is read of the text of a pattern
pub record IsRead (p : Shape) (text : List ℕ) : Type 0 where
  pub behind : State
  pub is : run (state Nothing fresh []) text ≡ Some behind
  pub whole : pattern_of behind ≡ Some p

pub accepts : {p : Shape} {text : List ℕ} → IsText alt p text → IsRead p text
accepts {p = p} {text = text} has =
    let r : ReadsAll p text [] = reads has [] in
    record {
      behind = state r.last r.level [];
      is = r.is;
      whole = ap (option_map (whole_shape r.level)) r.at ∙ ap (λ q. Some q) r.whole;
    }

pub one_pattern_law : OnePatternLaw
one_pattern_law p q text is also =
    let a = accepts is in
    let b = accepts also in
    some_is p q (sym a.whole ∙ ap pattern_of (some_is a.behind b.behind (sym a.is ∙ b.is)) ∙ b.whole)
