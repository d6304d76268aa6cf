-- What was read up to a place stands in the text, and can be completed to the text of a pattern.
use Rattle.std.proofs.Common.{ℕ, ◌≡◌, ◌≤◌, ◌==◌, Bool, true, false, ◌⊎◌, inl, inr, ◌&&◌, refl, sym, ap, ◌∙◌, subst, List, [], ◌∷◌, ◌++◌, length, arith, append_assoc, length-append}
use Rattle.std.specs.Prelude.{Option, Some, None, codes, Contains, option_map, nat_le, if◌then◌else◌}
use Rattle.std.specs.List.{list_all}
use Rattle.std.proofs.lemmas.Bool.Decides.{nat_tests}
use Rattle.std.proofs.lemmas.List.{append-nil}
use Rattle.std.proofs.lemmas.List.Elements.{Contains-push_cases}
use Rattle.std.proofs.lemmas.List.Folds.{list_all-append}
use Rattle.std.proofs.lemmas.Option.{none-some}
use Rattle.pass_entry.specs.Limits.{name_limit}
use Rattle.pass_entry.specs.Texts.{IsName, is_name, is_name_byte, is_name_length}
use Rattle.pass_plain.proofs.Lists.{some_is, both_true, same_numbers}
use Rattle.pass_pattern.specs.declared.pattern.EdgeTest.{EdgeTest}
use Rattle.pass_pattern.specs.declared.pattern.EdgeTest.TheVariants as test
use Rattle.pass_pattern.specs.declared.reader.Mark.{Mark}
use Rattle.pass_pattern.specs.declared.reader.Mark.TheVariants as mark
use Rattle.pass_pattern.specs.Marks.{mark_of}
use Rattle.pass_pattern.specs.Patterns.{Shape}
use Rattle.pass_pattern.specs.Patterns.Shape.{One, Many}
use Rattle.pass_pattern.specs.Grammar.{letter, Binding, IsText, IsPattern, IsBeginning}
use Rattle.pass_pattern.specs.Grammar.Binding.{alt, seq, rep, atom}
use Rattle.pass_pattern.specs.Grammar.IsText.{plain, named, group, once, star, only, then_on, alone, or_else}
use Rattle.pass_pattern.specs.Reading.{Last, Level, State, state, fresh, joined_shape, either_shape, whole_shape, begun, behind_step, behind_atom, behind_letter, in_name, read_on, read_byte, step_of, pattern_of}
use Rattle.pass_pattern.specs.Reading.Last.{Nothing, Letter, Name, Atom, Starred}
use Rattle.pass_pattern.proofs.Running.{and_on, run}

-- the bytes that a mark is
abbrev pub Means : Mark → ℕ → Type 0
Means (mark.Letter edge) byte = byte ∷ [] ≡ letter edge
Means mark.Brace byte = byte ≡ 123
Means mark.Star byte = byte ≡ 42
Means mark.Slash byte = byte ≡ 47
Means mark.Bar byte = byte ≡ 124
Means mark.Open byte = byte ≡ 40
Means mark.Close byte = byte ≡ 41
Means mark.Other byte = Unit {0}

means : (byte : ℕ) (i v e br st sl ba op cl : Bool)
    → (i ≡ true → byte ≡ 105) → (v ≡ true → byte ≡ 118) → (e ≡ true → byte ≡ 101) → (br ≡ true → byte ≡ 123) → (st ≡ true → byte ≡ 42)
    → (sl ≡ true → byte ≡ 47) → (ba ≡ true → byte ≡ 124) → (op ≡ true → byte ≡ 40) → (cl ≡ true → byte ≡ 41)
    → Means (if i then mark.Letter test.Other else if v then mark.Letter test.Same else if e then mark.Letter test.Any else if br then mark.Brace else if st then mark.Star
    else if sl then mark.Slash else if ba then mark.Bar else if op then mark.Open else if cl then mark.Close else mark.Other) byte
means byte true v e br st sl ba op cl is_i is_v is_e is_br is_st is_sl is_ba is_op is_cl = ap (λ b. b ∷ []) (is_i refl)
means byte false true e br st sl ba op cl is_i is_v is_e is_br is_st is_sl is_ba is_op is_cl = ap (λ b. b ∷ []) (is_v refl)
means byte false false true br st sl ba op cl is_i is_v is_e is_br is_st is_sl is_ba is_op is_cl = ap (λ b. b ∷ []) (is_e refl)
means byte false false false true st sl ba op cl is_i is_v is_e is_br is_st is_sl is_ba is_op is_cl = is_br refl
means byte false false false false true sl ba op cl is_i is_v is_e is_br is_st is_sl is_ba is_op is_cl = is_st refl
means byte false false false false false true ba op cl is_i is_v is_e is_br is_st is_sl is_ba is_op is_cl = is_sl refl
means byte false false false false false false true op cl is_i is_v is_e is_br is_st is_sl is_ba is_op is_cl = is_ba refl
means byte false false false false false false false true cl is_i is_v is_e is_br is_st is_sl is_ba is_op is_cl = is_op refl
means byte false false false false false false false false true is_i is_v is_e is_br is_st is_sl is_ba is_op is_cl = is_cl refl
means byte false false false false false false false false false is_i is_v is_e is_br is_st is_sl is_ba is_op is_cl = tt

pub mark_means : (byte : ℕ) → Means (mark_of byte) byte
mark_means byte =
    means byte (byte == 105) (byte == 118) (byte == 101) (byte == 123) (byte == 42) (byte == 47) (byte == 124) (byte == 40) (byte == 41)
    (same_numbers byte 105) (same_numbers byte 118) (same_numbers byte 101) (same_numbers byte 123) (same_numbers byte 42)
    (same_numbers byte 47) (same_numbers byte 124) (same_numbers byte 40) (same_numbers byte 41)

-- the text ends with that of the shape, behind a text with the property
pub record Ends (B : List ℕ → Type 0) (binding : Binding) (p : Shape) (text : List ℕ) : Type 0 where
  front : List ℕ
  own : List ℕ
  begins : B front
  has : IsText binding p own
  is : text ≡ front ++ own

-- and with a mark
pub record Marked (B : List ℕ → Type 0) (binding : Binding) (p : Shape) (end : List ℕ) (text : List ℕ) : Type 0 where
  body : List ℕ
  ends : Ends B binding p body
  is : text ≡ body ++ end

abbrev pub Alternatives : (List ℕ → Type 0) → Option Shape → List ℕ → Type 0
Alternatives B None text = B text
Alternatives B (Some p) text = Marked B alt p (codes "|") text

abbrev pub Steps : (List ℕ → Type 0) → Option Shape → Option Shape → List ℕ → Type 0
Steps B alternatives None text = Alternatives B alternatives text
Steps B alternatives (Some p) text = Marked (Alternatives B alternatives) seq p (codes "/") text

pub record Opened (B : List ℕ → Type 0) (text : List ℕ) : Type 0 where
  front : List ℕ
  begins : B front
  is : text ≡ front ++ codes "("

-- the text ends just within the innermost parenthesis
abbrev pub Begins : List Level → List ℕ → Type 0
Begins [] text = text ≡ []
Begins (level ∷ outer) text = Opened (Steps (Begins outer) level.alternatives level.steps) text

-- where a step must come
abbrev pub Within : Level → List Level → List ℕ → Type 0
Within level outer text = Steps (Begins outer) level.alternatives level.steps text

pub record Lettered (B : List ℕ → Type 0) (edge : EdgeTest) (text : List ℕ) : Type 0 where
  front : List ℕ
  begins : B front
  is : text ≡ front ++ letter edge

pub record Naming (B : List ℕ → Type 0) (edge : EdgeTest) (name : List ℕ) (text : List ℕ) : Type 0 where
  front : List ℕ
  begins : B front
  is : text ≡ front ++ (letter edge ++ codes "{" ++ name)
  fine : list_all is_name_byte name ≡ true
  none : ¬ (Contains name 125)

abbrev pub Stands : Last → Level → List Level → List ℕ → Type 0
Stands Nothing level outer text = Within level outer text
Stands (Letter edge) level outer text = Lettered (Within level outer) edge text
Stands (Name edge name) level outer text = Naming (Within level outer) edge name text
Stands (Atom p) level outer text = Ends (Within level outer) atom p text
Stands (Starred p) level outer text = Ends (Within level outer) rep p text

abbrev pub StandsAt : State → List ℕ → Type 0
StandsAt s text = Stands s.last s.level s.outer text

regroup : (front own end more : List ℕ) → ((front ++ own) ++ end) ++ more ≡ front ++ ((own ++ end) ++ more)
regroup front own end more = simp append_assoc

steps_end : (B : List ℕ → Type 0) (alternatives steps : Option Shape) (step : Shape) (text : List ℕ) → Ends (Steps B alternatives steps) rep step text
    → Ends (Alternatives B alternatives) seq (joined_shape steps step) text
steps_end B alternatives None step text e = record { front = e.front; own = e.own; begins = e.begins; has = only e.has; is = e.is }
steps_end B alternatives (Some steps) step text e =
    let m : Marked (Alternatives B alternatives) seq steps (codes "/") e.front = e.begins in
    let d = m.ends in
    record {
      front = d.front;
      own = (d.own ++ codes "/") ++ e.own;
      begins = d.begins;
      has = then_on d.has e.has;
      is = e.is ∙ ap (λ x. x ++ e.own) (m.is ∙ ap (λ x. x ++ codes "/") d.is) ∙ regroup d.front d.own (codes "/") e.own;
    }

alternatives_end : (B : List ℕ → Type 0) (alternatives : Option Shape) (last : Shape) (text : List ℕ) → Ends (Alternatives B alternatives) seq last text
    → Ends B alt (either_shape alternatives last) text
alternatives_end B None last text e = record { front = e.front; own = e.own; begins = e.begins; has = alone e.has; is = e.is }
alternatives_end B (Some alternatives) last text e =
    let m : Marked B alt alternatives (codes "|") e.front = e.begins in
    let d = m.ends in
    record {
      front = d.front;
      own = (d.own ++ codes "|") ++ e.own;
      begins = d.begins;
      has = or_else d.has e.has;
      is = e.is ∙ ap (λ x. x ++ e.own) (m.is ∙ ap (λ x. x ++ codes "|") d.is) ∙ regroup d.front d.own (codes "|") e.own;
    }

-- all of a level, of which the step is the last
whole_end : (level : Level) (outer : List Level) (step : Shape) (text : List ℕ) → Ends (Within level outer) rep step text → Ends (Begins outer) alt (whole_shape level step) text
whole_end level outer step text e =
    alternatives_end (Begins outer) level.alternatives (joined_shape level.steps step) text (steps_end (Begins outer) level.alternatives level.steps step text e)

once_end : (B : List ℕ → Type 0) (p : Shape) (text : List ℕ) → Ends B atom p text → Ends B rep p text
once_end B p text e = record { front = e.front; own = e.own; begins = e.begins; has = once e.has; is = e.is }

lettered_end : (B : List ℕ → Type 0) (edge : EdgeTest) (text : List ℕ) → Lettered B edge text → Ends B atom (One edge None) text
lettered_end B edge text l = record { front = l.front; own = letter edge; begins = l.begins; has = plain edge; is = l.is }

-- the step that was read last
step_end : (last : Last) (level : Level) (outer : List Level) (text : List ℕ) (step : Shape) → Stands last level outer text → step_of last ≡ Some step
    → Ends (Within level outer) rep step text
step_end Nothing level outer text step s is = absurd (none-some step is)
step_end (Letter edge) level outer text step s is =
    subst (λ p. Ends (Within level outer) rep p text) (some_is (One edge None) step is) (once_end (Within level outer) (One edge None) text (lettered_end (Within level outer) edge text s))
step_end (Name edge name) level outer text step s is = absurd (none-some step is)
step_end (Atom p) level outer text step s is = subst (λ p. Ends (Within level outer) rep p text) (some_is p step is) (once_end (Within level outer) p text s)
step_end (Starred p) level outer text step s is = subst (λ p. Ends (Within level outer) rep p text) (some_is p step is) s

-- a parenthesis closes all of a level
grouped : (level above : Level) (outer : List Level) (step : Shape) (text : List ℕ) → Ends (Within level (above ∷ outer)) rep step text
    → Ends (Within above outer) atom (whole_shape level step) (text ++ codes ")")
grouped level above outer step text e =
    let w = whole_end level (above ∷ outer) step text e in
    let o : Opened (Within above outer) w.front = w.begins in
    record {
      front = o.front;
      own = (codes "(" ++ w.own) ++ codes ")";
      begins = o.begins;
      has = group w.has;
      is = ap (λ x. x ++ codes ")") (w.is ∙ ap (λ x. x ++ w.own) o.is) ∙ closing o.front w.own;
    }
  where
    closing : (front own : List ℕ) → ((front ++ codes "(") ++ own) ++ codes ")" ≡ front ++ ((codes "(" ++ own) ++ codes ")")
    closing front own = simp append_assoc

at_state : (t u : State) (text : List ℕ) → ◌≡◌ {A = Option State} (Some t) (Some u) → StandsAt t text → StandsAt u text
at_state t u text same s = subst (λ x. StandsAt x text) (some_is t u same) s

one_more : (text : List ℕ) (byte other : ℕ) → byte ≡ other → text ++ byte ∷ [] ≡ text ++ other ∷ []
one_more text byte other is = ap (λ b. text ++ b ∷ []) is

-- behind a whole step
on_step : (step : Shape) (level : Level) (outer : List Level) (text : List ℕ) (byte : ℕ) (m : Mark) (t : State) → Means m byte → Ends (Within level outer) rep step text
    → behind_step step level outer m ≡ Some t → StandsAt t (text ++ byte ∷ [])
on_step step level outer text byte mark.Slash t is e to =
    at_state (state Nothing (record { alternatives = level.alternatives; steps = Some (joined_shape level.steps step) }) outer) t (text ++ byte ∷ []) to
    (record { body = text; ends = steps_end (Begins outer) level.alternatives level.steps step text e; is = one_more text byte 47 is })
on_step step level outer text byte mark.Bar t is e to =
    at_state (state Nothing (record { alternatives = Some (whole_shape level step); steps = None }) outer) t (text ++ byte ∷ []) to
    (record { body = text; ends = whole_end level outer step text e; is = one_more text byte 124 is })
on_step step level [] text byte mark.Close t is e to = absurd (none-some t to)
on_step step level (above ∷ outer) text byte mark.Close t is e to =
    at_state (state (Atom (whole_shape level step)) above outer) t (text ++ byte ∷ []) to
    (subst (Ends (Within above outer) atom (whole_shape level step)) (sym (one_more text byte 41 is)) (grouped level above outer step text e))
on_step step level outer text byte (mark.Letter edge) t is e to = absurd (none-some t to)
on_step step level outer text byte mark.Brace t is e to = absurd (none-some t to)
on_step step level outer text byte mark.Star t is e to = absurd (none-some t to)
on_step step level outer text byte mark.Open t is e to = absurd (none-some t to)
on_step step level outer text byte mark.Other t is e to = absurd (none-some t to)

-- behind a step to which a star may come
on_atom : (p : Shape) (level : Level) (outer : List Level) (text : List ℕ) (byte : ℕ) (m : Mark) (t : State) → Means m byte → Ends (Within level outer) atom p text
    → behind_atom p level outer m ≡ Some t → StandsAt t (text ++ byte ∷ [])
on_atom p level outer text byte mark.Star t is e to =
    at_state (state (Starred (Many p)) level outer) t (text ++ byte ∷ []) to
    (record {
      front = e.front;
      own = e.own ++ codes "*";
      begins = e.begins;
      has = star e.has;
      is = one_more text byte 42 is ∙ ap (λ x. x ++ codes "*") e.is ∙ append_assoc e.front e.own (codes "*");
    })
on_atom p level outer text byte mark.Slash t is e to = on_step p level outer text byte mark.Slash t is (once_end (Within level outer) p text e) to
on_atom p level outer text byte mark.Bar t is e to = on_step p level outer text byte mark.Bar t is (once_end (Within level outer) p text e) to
on_atom p level outer text byte mark.Close t is e to = on_step p level outer text byte mark.Close t is (once_end (Within level outer) p text e) to
on_atom p level outer text byte (mark.Letter edge) t is e to = absurd (none-some t to)
on_atom p level outer text byte mark.Brace t is e to = absurd (none-some t to)
on_atom p level outer text byte mark.Open t is e to = absurd (none-some t to)
on_atom p level outer text byte mark.Other t is e to = absurd (none-some t to)

no_byte : (byte : ℕ) → ¬ (Contains [] byte)
no_byte byte (k, within, is) = omega (arith, within)

on_letter : (edge : EdgeTest) (level : Level) (outer : List Level) (text : List ℕ) (byte : ℕ) (m : Mark) (t : State) → Means m byte → Lettered (Within level outer) edge text
    → behind_letter edge level outer m ≡ Some t → StandsAt t (text ++ byte ∷ [])
on_letter edge level outer text byte mark.Brace t is l to =
    at_state (state (Name edge []) level outer) t (text ++ byte ∷ []) to
    (record {
      front = l.front;
      begins = l.begins;
      is = one_more text byte 123 is ∙ ap (λ x. x ++ codes "{") l.is ∙ append_assoc l.front (letter edge) (codes "{") ∙ ap (λ x. l.front ++ x) (sym (append-nil (letter edge ++ codes "{")));
      fine = refl;
      none = no_byte 125;
    })
on_letter edge level outer text byte mark.Star t is l to = on_atom (One edge None) level outer text byte mark.Star t is (lettered_end (Within level outer) edge text l) to
on_letter edge level outer text byte mark.Slash t is l to = on_atom (One edge None) level outer text byte mark.Slash t is (lettered_end (Within level outer) edge text l) to
on_letter edge level outer text byte mark.Bar t is l to = on_atom (One edge None) level outer text byte mark.Bar t is (lettered_end (Within level outer) edge text l) to
on_letter edge level outer text byte mark.Close t is l to = on_atom (One edge None) level outer text byte mark.Close t is (lettered_end (Within level outer) edge text l) to
on_letter edge level outer text byte (mark.Letter e) t is l to = absurd (none-some t to)
on_letter edge level outer text byte mark.Open t is l to = absurd (none-some t to)
on_letter edge level outer text byte mark.Other t is l to = absurd (none-some t to)

-- in a name
on_name : (edge : EdgeTest) (name : List ℕ) (level : Level) (outer : List Level) (text : List ℕ) (byte : ℕ) (t : State) → Naming (Within level outer) edge name text
    → in_name edge name level outer byte ≡ Some t → StandsAt t (text ++ byte ∷ [])
on_name edge name level outer text byte t n to = at_end (byte == 125) refl (is_name name) refl (is_name_byte byte) refl to
  where
    finished : byte ≡ 125 → is_name name ≡ true → Ends (Within level outer) atom (One edge (Some name)) (text ++ byte ∷ [])
    finished is fine = record {
      front = n.front;
      own = (letter edge ++ codes "{" ++ name) ++ codes "}";
      begins = n.begins;
      has = named edge name fine n.none;
      is = one_more text byte 125 is ∙ ap (λ x. x ++ codes "}") n.is ∙ append_assoc n.front (letter edge ++ codes "{" ++ name) (codes "}");
    }

    longer : (byte == 125) ≡ false → is_name_byte byte ≡ true → Naming (Within level outer) edge (name ++ byte ∷ []) (text ++ byte ∷ [])
    longer no_brace good = record {
      front = n.front;
      begins = n.begins;
      is = ap (λ x. x ++ byte ∷ []) n.is ∙ append_assoc n.front (letter edge ++ codes "{" ++ name) (byte ∷ []) ∙ ap (λ x. n.front ++ x) (append_assoc (letter edge ++ codes "{") name (byte ∷ []));
      fine = list_all-append is_name_byte name (byte ∷ []) ∙ both_true (list_all is_name_byte name) (is_name_byte byte && true) n.fine (both_true (is_name_byte byte) true good refl);
      none = λ there. at_last (Contains-push_cases name byte 125 there);
    }
      where
        at_last : Contains name 125 ⊎ (byte ≡ 125) → ⊥
        at_last (inl there) = n.none there
        at_last (inr same) = let z : true ≡ false = ap (λ b. b == 125) (sym same) ∙ no_brace in cc

    at_end : (brace : Bool) → (byte == 125) ≡ brace → (whole : Bool) → is_name name ≡ whole → (good : Bool) → is_name_byte byte ≡ good
        → (if brace then (if whole then Some (state (Atom (One edge (Some name))) level outer) else None) else (if good then Some (state (Name edge (name ++ byte ∷ [])) level outer) else None)) ≡ Some t
        → StandsAt t (text ++ byte ∷ [])
    at_end true is true fine good rest to = at_state (state (Atom (One edge (Some name))) level outer) t (text ++ byte ∷ []) to (finished (same_numbers byte 125 is) fine)
    at_end true is false fine good rest to = absurd (none-some t to)
    at_end false is whole fine true rest to = at_state (state (Name edge (name ++ byte ∷ [])) level outer) t (text ++ byte ∷ []) to (longer is rest)
    at_end false is whole fine false rest to = absurd (none-some t to)

-- where a step must come
on_start : (level : Level) (outer : List Level) (text : List ℕ) (byte : ℕ) (m : Mark) (t : State) → Means m byte → Within level outer text
    → begun level outer m ≡ Some t → StandsAt t (text ++ byte ∷ [])
on_start level outer text byte (mark.Letter edge) t is w to =
    at_state (state (Letter edge) level outer) t (text ++ byte ∷ []) to (record { front = text; begins = w; is = ap (λ x. text ++ x) is })
on_start level outer text byte mark.Open t is w to =
    at_state (state Nothing fresh (level ∷ outer)) t (text ++ byte ∷ []) to (record { front = text; begins = w; is = one_more text byte 40 is })
on_start level outer text byte mark.Brace t is w to = absurd (none-some t to)
on_start level outer text byte mark.Star t is w to = absurd (none-some t to)
on_start level outer text byte mark.Slash t is w to = absurd (none-some t to)
on_start level outer text byte mark.Bar t is w to = absurd (none-some t to)
on_start level outer text byte mark.Close t is w to = absurd (none-some t to)
on_start level outer text byte mark.Other t is w to = absurd (none-some t to)

on_byte : (last : Last) (level : Level) (outer : List Level) (text : List ℕ) (byte : ℕ) (t : State) → Stands last level outer text → read_on last level outer byte ≡ Some t
    → StandsAt t (text ++ byte ∷ [])
on_byte Nothing level outer text byte t s to = on_start level outer text byte (mark_of byte) t (mark_means byte) s to
on_byte (Letter edge) level outer text byte t s to = on_letter edge level outer text byte (mark_of byte) t (mark_means byte) s to
on_byte (Name edge name) level outer text byte t s to = on_name edge name level outer text byte t s to
on_byte (Atom p) level outer text byte t s to = on_atom p level outer text byte (mark_of byte) t (mark_means byte) s to
on_byte (Starred p) level outer text byte t s to = on_step p level outer text byte (mark_of byte) t (mark_means byte) s to

stands_on : (s t : State) (before text : List ℕ) → StandsAt s before → run s text ≡ Some t → StandsAt t (before ++ text)
stands_on s t before [] stands is = subst (StandsAt t) (sym (append-nil before)) (at_state s t before is stands)
stands_on s t before (byte ∷ text) stands is =
    at_next (read_byte s byte) (λ u to rest. subst (StandsAt t) (append_assoc before (byte ∷ []) text) (stands_on u t (before ++ byte ∷ []) text (on_byte s.last s.level s.outer before byte u stands to) rest)) refl is
  where
    at_next : (next : Option State) → ((u : State) → read_byte s byte ≡ Some u → run u text ≡ Some t → StandsAt t (before ++ byte ∷ text)) → read_byte s byte ≡ next
        → and_on next (λ u. run u text) ≡ Some t → StandsAt t (before ++ byte ∷ text)
    at_next (Some u) go to rest = go u to rest
    at_next None go to rest = absurd (none-some t rest)

-- what was read of a text stands in it
pub stands : (t : State) (text : List ℕ) → run (state Nothing fresh []) text ≡ Some t → StandsAt t text
stands t text is = stands_on (state Nothing fresh []) t [] text refl is

-- a pattern that was read has the text
pub has_text : (t : State) (text : List ℕ) (p : Shape) → StandsAt t text → pattern_of t ≡ Some p → IsText alt p text
has_text t text p stands is = at_outer t.outer stands is
  where
    at_step : (o : Option Shape) → step_of t.last ≡ o → Stands t.last t.level [] text → option_map (whole_shape t.level) o ≡ Some p → IsText alt p text
    at_step None none s so = absurd (none-some p so)
    at_step (Some step) at s so =
        let w = whole_end t.level [] step text (step_end t.last t.level [] text step s at) in
        let own : w.own ≡ text = ap (λ x. x ++ w.own) (sym w.begins) ∙ sym w.is in
        subst (IsText alt p) own (subst (λ q. IsText alt q w.own) (some_is (whole_shape t.level step) p so) w.has)

    at_outer : (outer : List Level) → Stands t.last t.level outer text → pattern_of (state t.last t.level outer) ≡ Some p → IsText alt p text
    at_outer [] s so = at_step (step_of t.last) refl s so
    at_outer (level ∷ outer) s so = absurd (none-some p so)

front_of : (text more : List ℕ) → IsBeginning (text ++ more) → IsBeginning text
front_of text more b = record { rest = more ++ b.rest; is = subst IsPattern (append_assoc text more b.rest) b.is }

-- behind a whole step the open parentheses may be closed
closes : (outer : List Level) (level : Level) (step : Shape) (text : List ℕ) → Ends (Within level outer) rep step text → IsBeginning text
closes [] level step text e =
    let w = whole_end level [] step text e in
    let own : w.own ≡ text ++ [] = ap (λ x. x ++ w.own) (sym w.begins) ∙ sym w.is ∙ sym (append-nil text) in
    record { rest = []; is = record { shape = whole_shape level step; is = subst (IsText alt (whole_shape level step)) own w.has } }
closes (above ∷ outer) level step text e =
    front_of text (codes ")") (closes outer above (whole_shape level step) (text ++ codes ")")
    (once_end (Within above outer) (whole_shape level step) (text ++ codes ")") (grouped level above outer step text e)))

named_long : (n : ℕ) → 1 ≤ n → n ≤ 255 → (nat_le 1 n && nat_le n name_limit) ≡ true
named_long n least most = grind (arith, nat_tests)

-- a name that is begun may be ended
name_ends : (name : List ℕ) → length name ≤ 254 → list_all is_name_byte name ≡ true → IsName (name ++ 97 ∷ [])
name_ends name short fine =
    let size = length-append name (97 ∷ []) in
    both_true (is_name_length (name ++ 97 ∷ [])) (list_all is_name_byte (name ++ 97 ∷ [])) (named_long (length (name ++ 97 ∷ [])) (omega (arith, size)) (omega (arith, size, short)))
    (list_all-append is_name_byte name (97 ∷ []) ∙ both_true (list_all is_name_byte name) true fine refl)

no_brace_behind : (name : List ℕ) → ¬ (Contains name 125) → ¬ (Contains (name ++ 97 ∷ []) 125)
no_brace_behind name none there = at_last (Contains-push_cases name 97 125 there)
  where
    at_last : Contains name 125 ⊎ ◌≡◌ {A = ℕ} 97 125 → ⊥
    at_last (inl before) = none before
    at_last (inr same) = omega (arith, same)

begins_at : (last : Last) (level : Level) (outer : List Level) (text : List ℕ) → length text ≤ 255 → Stands last level outer text → IsBeginning text
begins_at Nothing level outer text short s =
    front_of text (letter test.Any) (closes outer level (One test.Any None) (text ++ letter test.Any)
    (record { front = text; own = letter test.Any; begins = s; has = once (plain test.Any); is = refl }))
begins_at (Letter edge) level outer text short s = closes outer level (One edge None) text (step_end (Letter edge) level outer text (One edge None) s refl)
begins_at (Atom p) level outer text short s = closes outer level p text (step_end (Atom p) level outer text p s refl)
begins_at (Starred p) level outer text short s = closes outer level p text s
begins_at (Name edge name) level outer text short s =
    front_of text (97 ∷ codes "}") (closes outer level (One edge (Some (name ++ 97 ∷ []))) (text ++ 97 ∷ codes "}")
    (record {
      front = s.front;
      own = letter edge ++ codes "{" ++ (name ++ 97 ∷ []) ++ codes "}";
      begins = s.begins;
      has = once (named edge (name ++ 97 ∷ []) (name_ends name room s.fine) (no_brace_behind name s.none));
      is = ap (λ x. x ++ 97 ∷ codes "}") s.is ∙ ending s.front (letter edge) name;
    }))
  where
    ending : (front start name : List ℕ) → (front ++ (start ++ codes "{" ++ name)) ++ 97 ∷ codes "}" ≡ front ++ (start ++ codes "{" ++ (name ++ 97 ∷ []) ++ codes "}")
    ending front start name = simp append_assoc

    room : length name ≤ 254
    room =
        let all = ap length s.is ∙ length-append s.front (letter edge ++ codes "{" ++ name) in
        let own = length-append (letter edge ++ codes "{") name in
        let brace = length-append (letter edge) (codes "{") in
        omega (arith, short, all, own, brace)

-- some pattern begins with what was read
pub begins_so : (t : State) (text : List ℕ) → length text ≤ 255 → StandsAt t text → IsBeginning text
begins_so t text short stands = begins_at t.last t.level t.outer text short stands
