-- A text that is written piece by piece.
use Rattle.std.proofs.Common.{◌≡◌, ℕ, ◌+◌, ◌-◌, List, ◌++◌, take, drop, sym}
use Rattle.std.proofs.lemmas.List.{take-append-drop}
use Rattle.pass_status.specs.Writing.{IsPartOfText}

pub is_part : (text old new : List ℕ) (n : ℕ) → new ≡ old ++ take n text → IsPartOfText text old new
is_part text old new n taken = record { wrote = take n text; rest = drop n text; parts = sym (take-append-drop n text); taken = taken }
