use Rattle.std.proofs.Common.{◌≡◌, ap, ◌∙◌, Bool, true, false, List, [], ◌∷◌, refl, ◌||◌, cond}
use Rattle.std.specs.Prelude.{Some, find, is_some, ◌==◌, ◌&&◌, ℕ}
use Rattle.std.specs.List.{list_any}
use Rattle.pass_entry.specs.declared.objects.Kind.{Kind}
use Rattle.pass_entry.specs.declared.objects.Kind.TheVariants as kind
use Rattle.pass_plain.specs.Registries.{same_kind}
use Rattle.pass_reference.proofs.registry.is_app.Goals as goal

found_if : {X : Type 0} (p : X → Bool) (x : X) (xs : List X) → list_any p xs ≡ is_some (find p xs) → (b : Bool) → b || list_any p xs ≡ is_some (cond b (Some x) (find p xs))
found_if p x xs e true = refl
found_if p x xs e false = e

-- some element passes exactly where the first that passes is found
is_found : {X : Type 0} (p : X → Bool) (xs : List X) → list_any p xs ≡ is_some (find p xs)
is_found p [] = refl
is_found p (x ∷ xs) = found_if p x xs (is_found p xs) (p x)

pub returns : goal.returns
returns c =
    c.has_app.ensures ∙ ap (list_any _) c.deref.ensures.value
    ∙ is_found (λ (o : ℕ × Kind). o.0 == c.args.pnode && same_kind o.1 kind.App) c.args.registry.now.objects.items
