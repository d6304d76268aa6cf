-- Fields one behind another, of which a value is made.
use Rattle.std.proofs.Common.{◌≡◌, ℕ, List, ◌++◌, Result, Ok, refl, ap, subst, ◌∙◌, append_assoc}
use Rattle.pass_record.specs.declared.fault.RecordFault.{RecordFault}
use Rattle.pass_record.specs.Faults.{Extends}
use Rattle.pass_record.specs.Fields.{◌>>=◌}
use Rattle.pass_record.specs.Spelling.{AreBytes}
use Rattle.pass_record.proofs.Parts.{bind_ok, ok_is, Extends-bind, Takes, Takes-then, IsField}

abbrev pub Reader : Type 0 → Type 0
Reader A = List ℕ → Result (A × List ℕ) RecordFault

-- ---- one field

abbrev pub one_at : {A X : Type 0} → Reader A → (A → X) → Reader X
one_at p make bytes = p bytes >>= λ a. Ok (make a.0, a.1)

-- what was read of one field
pub record OneRead {A X : Type 0} (spelled : A → List ℕ) (Fits : A → Type 0) (make : A → X) (bytes : List ℕ) (x : X) (rest : List ℕ) : Type 0 where
  pub a : A
  pub made : make a ≡ x
  pub fits : Fits a
  pub taken : Takes bytes (spelled a) rest

pub one_takes : {A X : Type 0} {p : Reader A} {pb : A → List ℕ} {P : A → Type 0} (pf : IsField p pb P) (make : A → X) (bytes : List ℕ) (x : X) (rest : List ℕ)
    → AreBytes bytes → one_at p make bytes ≡ Ok (x, rest) → OneRead pb P make bytes x rest
one_takes {A = A} {X = X} {p = p} {pb = pb} {P = P} pf make bytes x rest fits e =
    let a = bind_ok (p bytes) (λ (a : A × List ℕ). Ok (make a.0, a.1)) (x, rest) e in
    let t = pf.takes bytes a.0.0 a.0.1 fits a.1 in
    let same = ok_is (make a.0.0, a.0.1) (x, rest) a.2 in
    let rest-is : a.0.1 ≡ rest = ap (λ (y : X × List ℕ). y.1) same in
    record { a = a.0.0; made = ap (λ (y : X × List ℕ). y.0) same; fits = t.1; taken = subst (Takes bytes (pb a.0.0)) rest-is t.0 }

pub one_again : {A X : Type 0} {p : Reader A} {pb : A → List ℕ} {P : A → Type 0} (pf : IsField p pb P) (make : A → X) (a : A) (rest : List ℕ)
    → P a → one_at p make (pb a ++ rest) ≡ Ok (make a, rest)
one_again pf make a rest fits = rw (pf.again a rest fits) refl

pub one_stays : {A X : Type 0} {p : Reader A} {pb : A → List ℕ} {P : A → Type 0} (pf : IsField p pb P) (make : A → X) (bytes more : List ℕ)
    → Extends (one_at p make bytes) more (one_at p make (bytes ++ more))
one_stays {A = A} {p = p} pf make bytes more =
    Extends-bind (p bytes) (p (bytes ++ more)) more (λ (a : A × List ℕ). Ok (make a.0, a.1)) (pf.stays bytes more) (λ a rest. refl)

-- ---- two fields

abbrev pub two_at : {A B X : Type 0} → Reader A → Reader B → (A → B → X) → Reader X
two_at p q make bytes = p bytes >>= λ a. q a.1 >>= λ b. Ok (make a.0 b.0, b.1)

pub record TwoRead {A B X : Type 0} (pb : A → List ℕ) (P : A → Type 0) (qb : B → List ℕ) (Q : B → Type 0) (make : A → B → X) (bytes : List ℕ) (x : X) (rest : List ℕ) : Type 0 where
  pub a : A
  pub b : B
  pub made : make a b ≡ x
  pub a_fits : P a
  pub b_fits : Q b
  pub taken : Takes bytes (pb a ++ qb b) rest

pub two_takes : {A B X : Type 0} {p : Reader A} {pb : A → List ℕ} {P : A → Type 0} {q : Reader B} {qb : B → List ℕ} {Q : B → Type 0} (pf : IsField p pb P) (qf : IsField q qb Q)
    (make : A → B → X) (bytes : List ℕ) (x : X) (rest : List ℕ) → AreBytes bytes → two_at p q make bytes ≡ Ok (x, rest) → TwoRead pb P qb Q make bytes x rest
two_takes {A = A} {B = B} {X = X} {p = p} {pb = pb} {P = P} {q = q} {qb = qb} {Q = Q} pf qf make bytes x rest fits e =
    let a = bind_ok (p bytes) (λ (a : A × List ℕ). q a.1 >>= λ (b : B × List ℕ). Ok (make a.0 b.0, b.1)) (x, rest) e in
    let t = pf.takes bytes a.0.0 a.0.1 fits a.1 in
    let second = one_takes qf (make a.0.0) a.0.1 x rest t.0.rest_fits a.2 in
    record { a = a.0.0; b = second.a; made = second.made; a_fits = t.1; b_fits = second.fits; taken = Takes-then bytes (pb a.0.0) a.0.1 (qb second.a) rest t.0 second.taken }

pub two_again : {A B X : Type 0} {p : Reader A} {pb : A → List ℕ} {P : A → Type 0} {q : Reader B} {qb : B → List ℕ} {Q : B → Type 0} (pf : IsField p pb P) (qf : IsField q qb Q)
    (make : A → B → X) (a : A) (b : B) (rest : List ℕ) → P a → Q b → two_at p q make ((pb a ++ qb b) ++ rest) ≡ Ok (make a b, rest)
two_again {p = p} {pb = pb} {q = q} {qb = qb} pf qf make a b rest a_fits b_fits =
    ap (two_at p q make) (append_assoc (pb a) (qb b) rest) ∙ rw (pf.again a (qb b ++ rest) a_fits) (one_again qf (make a) b rest b_fits)

pub two_stays : {A B X : Type 0} {p : Reader A} {pb : A → List ℕ} {P : A → Type 0} {q : Reader B} {qb : B → List ℕ} {Q : B → Type 0} (pf : IsField p pb P) (qf : IsField q qb Q)
    (make : A → B → X) (bytes more : List ℕ) → Extends (two_at p q make bytes) more (two_at p q make (bytes ++ more))
two_stays {A = A} {B = B} {p = p} {q = q} pf qf make bytes more =
    Extends-bind (p bytes) (p (bytes ++ more)) more (λ (a : A × List ℕ). q a.1 >>= λ (b : B × List ℕ). Ok (make a.0 b.0, b.1)) (pf.stays bytes more) (λ a rest. one_stays qf (make a) rest more)

-- ---- three fields

abbrev pub three_at : {A B C X : Type 0} → Reader A → Reader B → Reader C → (A → B → C → X) → Reader X
three_at p q r make bytes = p bytes >>= λ a. q a.1 >>= λ b. r b.1 >>= λ c. Ok (make a.0 b.0 c.0, c.1)

pub record ThreeRead {A B C X : Type 0} (pb : A → List ℕ) (P : A → Type 0) (qb : B → List ℕ) (Q : B → Type 0) (rb : C → List ℕ) (R : C → Type 0) (make : A → B → C → X)
    (bytes : List ℕ) (x : X) (rest : List ℕ) : Type 0 where
  pub a : A
  pub b : B
  pub c : C
  pub made : make a b c ≡ x
  pub a_fits : P a
  pub b_fits : Q b
  pub c_fits : R c
  pub taken : Takes bytes (pb a ++ (qb b ++ rb c)) rest

pub three_takes : {A B C X : Type 0} {p : Reader A} {pb : A → List ℕ} {P : A → Type 0} {q : Reader B} {qb : B → List ℕ} {Q : B → Type 0} {r : Reader C} {rb : C → List ℕ} {R : C → Type 0}
    (pf : IsField p pb P) (qf : IsField q qb Q) (rf : IsField r rb R) (make : A → B → C → X) (bytes : List ℕ) (x : X) (rest : List ℕ)
    → AreBytes bytes → three_at p q r make bytes ≡ Ok (x, rest) → ThreeRead pb P qb Q rb R make bytes x rest
three_takes {A = A} {B = B} {C = C} {X = X} {p = p} {pb = pb} {P = P} {q = q} {qb = qb} {Q = Q} {r = r} {rb = rb} {R = R} pf qf rf make bytes x rest fits e =
    let a = bind_ok (p bytes) (λ (a : A × List ℕ). q a.1 >>= λ (b : B × List ℕ). r b.1 >>= λ (c : C × List ℕ). Ok (make a.0 b.0 c.0, c.1)) (x, rest) e in
    let t = pf.takes bytes a.0.0 a.0.1 fits a.1 in
    let others = two_takes qf rf (make a.0.0) a.0.1 x rest t.0.rest_fits a.2 in
    record {
      a = a.0.0;
      b = others.a;
      c = others.b;
      made = others.made;
      a_fits = t.1;
      b_fits = others.a_fits;
      c_fits = others.b_fits;
      taken = Takes-then bytes (pb a.0.0) a.0.1 (qb others.a ++ rb others.b) rest t.0 others.taken;
    }

pub three_again : {A B C X : Type 0} {p : Reader A} {pb : A → List ℕ} {P : A → Type 0} {q : Reader B} {qb : B → List ℕ} {Q : B → Type 0} {r : Reader C} {rb : C → List ℕ} {R : C → Type 0}
    (pf : IsField p pb P) (qf : IsField q qb Q) (rf : IsField r rb R) (make : A → B → C → X) (a : A) (b : B) (c : C) (rest : List ℕ)
    → P a → Q b → R c → three_at p q r make ((pb a ++ (qb b ++ rb c)) ++ rest) ≡ Ok (make a b c, rest)
three_again {p = p} {pb = pb} {q = q} {qb = qb} {r = r} {rb = rb} pf qf rf make a b c rest a_fits b_fits c_fits =
    ap (three_at p q r make) (append_assoc (pb a) (qb b ++ rb c) rest) ∙ rw (pf.again a ((qb b ++ rb c) ++ rest) a_fits) (two_again qf rf (make a) b c rest b_fits c_fits)

pub three_stays : {A B C X : Type 0} {p : Reader A} {pb : A → List ℕ} {P : A → Type 0} {q : Reader B} {qb : B → List ℕ} {Q : B → Type 0} {r : Reader C} {rb : C → List ℕ} {R : C → Type 0}
    (pf : IsField p pb P) (qf : IsField q qb Q) (rf : IsField r rb R) (make : A → B → C → X) (bytes more : List ℕ) → Extends (three_at p q r make bytes) more (three_at p q r make (bytes ++ more))
three_stays {A = A} {B = B} {C = C} {p = p} {q = q} {r = r} pf qf rf make bytes more =
    Extends-bind (p bytes) (p (bytes ++ more)) more (λ (a : A × List ℕ). q a.1 >>= λ (b : B × List ℕ). r b.1 >>= λ (c : C × List ℕ). Ok (make a.0 b.0 c.0, c.1)) (pf.stays bytes more)
    (λ a rest. two_stays qf rf (make a) rest more)
