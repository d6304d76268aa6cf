-- A node that the graph lacks, told on.
use Rattle.std.proofs.Common.{◌≡◌, ◌∙◌, sym, ap}
use Rattle.std.specs.Prelude.{◌↔◌, Result, Ok, Err, IsErrAnd}
use Rattle.pass_entry.specs.declared.objects.Node.{Node}
use Rattle.pass_query.specs.declared.fault.QueryFault.{QueryFault}
use Rattle.pass_query.specs.declared.fault.QueryFault.TheVariants.{NoObject, NoMemory}

-- exactly the nodes of P are told to be lacking
abbrev pub Lacks : {A : Type 0} → Result A QueryFault → (Node → Type 0) → Type 0
Lacks answer P = (n : Node) → (answer ≡ Err (NoObject n)) ↔ P n

-- the same fault is told on
pub lacking_both : {A B : Type 0} (first : Result A QueryFault) (last : Result B QueryFault) (why : QueryFault) (P : Node → Type 0) → first ≡ Err why → IsErrAnd last (λ e. e ≡ why)
    → Lacks first P → Lacks last P
lacking_both first (Ok answer) why P is same each n = absurd same
lacking_both {A} {B} first (Err e) why P is same each n = (λ told. (each n).0 (is ∙ ap Err (sym same ∙ of_last told)), λ holds. ap Err (same ∙ of_first (sym is ∙ (each n).1 holds)))
  where
    of_last : ◌≡◌ {A = Result B QueryFault} (Err e) (Err (NoObject n)) → e ≡ NoObject n
    of_last told = cc

    of_first : ◌≡◌ {A = Result A QueryFault} (Err why) (Err (NoObject n)) → why ≡ NoObject n
    of_first told = cc

-- none was lacking, and none is told
pub lacking_none : {A B : Type 0} (first : Result A QueryFault) (last : Result B QueryFault) (answer : A) (P : Node → Type 0) → first ≡ Ok answer
    → ((n : Node) → last ≡ Err (NoObject n) → ⊥) → Lacks first P → Lacks last P
lacking_none {A} {B} first last answer P is quiet each n =
    (λ told. absurd (quiet n told), λ holds. absurd (let z : ◌≡◌ {A = Result A QueryFault} (Ok answer) (Err (NoObject n)) = sym is ∙ (each n).1 holds in cc))

-- want of memory tells none
pub starved_lacks : {B : Type 0} (last : Result B QueryFault) → IsErrAnd last (λ e. e ≡ NoMemory) → (n : Node) → last ≡ Err (NoObject n) → ⊥
starved_lacks (Ok answer) starved n told = starved
starved_lacks {B} (Err e) starved n told = let z : NoMemory ≡ NoObject n = sym starved ∙ of_last told in cc
  where
    of_last : ◌≡◌ {A = Result B QueryFault} (Err e) (Err (NoObject n)) → e ≡ NoObject n
    of_last same = cc

pub ok_lacks : {B : Type 0} (answer : B) (n : Node) → ◌≡◌ {A = Result B QueryFault} (Ok answer) (Err (NoObject n)) → ⊥
ok_lacks answer n told = cc
