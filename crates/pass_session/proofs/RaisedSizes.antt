-- How many bytes the frame has that raises a ceiling.
use Rattle.std.proofs.Common.{◌≡◌, ◌≤◌, ◌+◌, ◌*◌, ◌++◌, ℕ, zero, suc, ◌∷◌, [], length, length-append, refl, arith}
use Rattle.pass_entry.specs.declared.record.Record.TheVariants as log
use Rattle.pass_record.specs.Spelling.{spelling}
use Rattle.pass_log.specs.Records.{spellings, frame_length}
use Rattle.pass_keep.specs.Kept.{ceilings_length}
use Rattle.pass_plain.specs.Ceilings.{ceiling_step, most_objects, steps_from, steps_below, ceilings_between}

ceiling_size : (c : ℕ) → length (spelling (log.Ceiling c)) ≡ 9
unfolding spelling
ceiling_size c = refl

steps_size : (n from to : ℕ) → length (spellings (steps_from n from ++ log.Ceiling to ∷ [])) ≡ 9 * (n + 1)
steps_size zero from to = let one = length-append (spelling (log.Ceiling to)) [] in let size = ceiling_size to in omega (arith, one, size)
steps_size (suc n) from to =
    let next = from + ceiling_step in
    let first = length-append (spelling (log.Ceiling next)) (spellings (steps_from n next ++ log.Ceiling to ∷ [])) in
    let size = ceiling_size next in
    let rest = steps_size n next to in
    omega (arith, first, size, rest)

pub raised_size : (from to : ℕ) → to ≤ from + most_objects → frame_length (ceilings_between from to) ≤ ceilings_length
unfolding ceilings_between
raised_size from to near =
    let size = steps_size (steps_below from to) from to in
    let few : steps_below from to ≤ 7 = omega (arith, near) in
    omega (arith, size, few)
