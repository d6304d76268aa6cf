-- The first entry of a session.
use Rattle.std.proofs.Common.{ℕ, [], refl}
use Rattle.pass_plain.specs.declared.request.Request.TheVariants as requests
use Rattle.pass_plain.specs.Legal.{CallerAllows}
use Rattle.pass_registry.specs.Desks.{first_entry}

-- the outside may begin an empty history
pub start_allows : (n : ℕ) → CallerAllows [] (first_entry n)
start_allows n = record { acts = refl; step = record { request = requests.Start; named = refl; within = refl; called = λ j s at. absurd (cc); steps = refl } }
