-- Records on their way into parts.
use Rattle.std.specs.Prelude.{◌≡◌, ℕ, ◌≤◌, List, [], ◌∷◌, ◌++◌, All, length, map, take, Vec}
use Rattle.std.specs.declared.alloc.Global.{Global}
use Rattle.pass_entry.specs.declared.record.Record.{Record}
use Rattle.pass_book.specs.Records.{joined, byte_length, part_bytes, IsCrowded, IsPart}

abbrev pub lists_of : List (Vec Record Global) → List (List Record)
lists_of parts = map (λ p. p.items) parts

-- the parts that are full, and the one that grows
pub record PartsState : Type 0 where
  pub full : List (List Record)
  pub part : List Record

-- the lists of records are in the parts, in order, and each full part ends where a list does
pub record IsParted (lists : List (List Record)) (p : PartsState) : Type 0 where
  pub all : joined lists ≡ joined p.full ++ p.part
  pub whole : (k : ℕ) → k ≤ length p.full → (n : ℕ) × (n ≤ length lists) × (joined (take n lists) ≡ joined (take k p.full))

-- what may stand in parts: `bytes` is what the one that grows has
pub record IsGrowing (p : PartsState) (bytes : ℕ) : Type 0 where
  pub each : All IsPart p.full
  pub crowded : IsCrowded (p.full ++ p.part ∷ [])
  pub is : bytes ≡ byte_length p.part
  pub within : bytes ≤ part_bytes
