-- One program header more.
use Rattle.std.proofs.Common.{ℕ, suc, ◌≡◌, ◌∙◌, ◌+◌, Bool, List, ap, sym}
use Rattle.std.specs.Prelude.{Some}
use Rattle.std.proofs.lemmas.Bool.{cond-false, ne_eqb}
use Rattle.pass_loader.specs.Elf.{by_type, field, loader_in, path_of}

pub loader_in_more : (wide : Bool) (bytes : List ℕ) (at size n type : ℕ) → Some type ≡ field 4 bytes at → (type ≡ 3 → ⊥) → loader_in wide bytes at size (suc n) ≡ loader_in wide bytes (at + size) size n
loader_in_more wide bytes at size n type is other =
    sym (ap (λ found. by_type found (path_of wide bytes at) (loader_in wide bytes (at + size) size n)) is) ∙ cond-false _ _ _ (ne_eqb type 3 other)
