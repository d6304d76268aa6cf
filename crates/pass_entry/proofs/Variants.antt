-- Options and results of which one knows which they are.
use Rattle.std.proofs.Common.{◌≡◌, refl, Bool, true, false, cond}
use Rattle.std.specs.Prelude.{Option, Some, None, is_some, Result, Ok, Err, IsOk, OnOk, OnErr, if◌then◌else◌}
use Rattle.std.specs.Option.{option_map_or}

pub none_of : {X : Type 0} (o : Option X) → is_some o ≡ false → o ≡ None
none_of None none = refl
none_of (Some x) none = absurd (cc)

pub some_of : {X : Type 0} (o : Option X) → is_some o ≡ true → (x : X) × (o ≡ Some x)
some_of None some = absurd (cc)
some_of (Some x) some = (x, refl)

pub none_if : {X : Type 0} (b : Bool) (o : Option X) → o ≡ None → (if b then None else o) ≡ None
none_if true o none = refl
none_if false o none = none

-- where the first of several reasons isn't there
pub no_first : {X Y : Type 0} (f : X → Y) (o : Option X) (rest : Option Y) → option_map_or (λ x. Some (f x)) o rest ≡ None → (o ≡ None) × (rest ≡ None)
no_first f None rest none = (refl, none)
no_first f (Some x) rest none = absurd (cc)

pub ok_inside : {T E : Type 0} (x y : T) → ◌≡◌ {A = Result T E} (Ok x) (Ok y) → x ≡ y
ok_inside x y same = cc

pub err_inside : {T E : Type 0} (e f : E) → ◌≡◌ {A = Result T E} (Err e) (Err f) → e ≡ f
err_inside e f same = cc

pub ok_not_err : {T E : Type 0} (x : T) (e : E) → ◌≡◌ {A = Result T E} (Ok x) (Err e) → ⊥
ok_not_err x e same = absurd (cc)

pub guard_ok : {T E : Type 0} (b : Bool) (x y : T) (e : E) → cond b (Ok x) (Err e) ≡ Ok y → (b ≡ true) × (x ≡ y)
guard_ok true x y e is = (refl, cc)
guard_ok false x y e is = absurd (cc)

-- what holds where a call succeeds, and where it fails
pub on_ok : {T E P : Type 0} (r : Result T E) → IsOk r → OnOk r P → P
on_ok (Ok x) ok p = p
on_ok (Err e) ok p = absurd (cc)

pub ok_always : {T E : Type 0} (r : Result T E) (P : Type 0) → P → OnOk r P
ok_always (Ok x) P p = p
ok_always (Err e) P p = tt

pub err_always : {T E : Type 0} (r : Result T E) (P : Type 0) → P → OnErr r P
err_always (Ok x) P p = tt
err_always (Err e) P p = p

pub on_each_ok : {T E : Type 0} (r : Result T E) (P : Type 0) → ((x : T) → r ≡ Ok x → P) → OnOk r P
on_each_ok (Ok x) P each = each x refl
on_each_ok (Err e) P each = tt

pub on_both : {T E P Q R : Type 0} (r : Result T E) → (P → Q → R) → OnOk r P → OnOk r Q → OnOk r R
on_both (Ok x) f p q = f p q
on_both (Err e) f p q = tt
