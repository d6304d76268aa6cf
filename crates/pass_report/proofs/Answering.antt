-- Facts about an answer, from its clauses.
use Rattle.std.proofs.Common.{◌≡◌, refl, subst}
use Rattle.std.specs.Prelude.{Result, Ok, Err, IfOk, OnOk}

-- what follows of each value follows of the answer
pub if_each : {T E : Type 0} (r : Result T E) (Q : T → Type 0) → ((x : T) → r ≡ Ok x → Q x) → IfOk r Q
if_each (Ok x) Q each = each x refl
if_each (Err e) Q each = tt

pub if_at : {T E : Type 0} (r : Result T E) (P : T → Type 0) → IfOk r P → (x : T) → r ≡ Ok x → P x
if_at {T} {E} r P all x is = let Q : Result T E → Type 0 = λ r. IfOk r P in subst Q is all

pub on_at : {T E : Type 0} (r : Result T E) (P : Type 0) → OnOk r P → (x : T) → r ≡ Ok x → P
on_at {T} {E} r P all x is = let Q : Result T E → Type 0 = λ r. OnOk r P in subst Q is all

-- where the answer is Ok, one fact follows from another
pub on_then : {T E : Type 0} (r : Result T E) (P Q : Type 0) → OnOk r P → (P → Q) → OnOk r Q
on_then (Ok x) P Q p f = f p
on_then (Err e) P Q p f = tt

pub on_then3 : {T E : Type 0} (r : Result T E) (P Q R : Type 0) → OnOk r P → OnOk r Q → (P → Q → R) → OnOk r R
on_then3 (Ok x) P Q R p q f = f p q
on_then3 (Err e) P Q R p q f = tt
