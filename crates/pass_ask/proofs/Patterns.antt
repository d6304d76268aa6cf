-- Why a text is no pattern.
use Rattle.std.proofs.Common.{◌≡◌, ◌<◌, refl, ap, List, ℕ, arith}
use Rattle.pass_pattern.specs.Grammar.{IsBad}
use Rattle.pass_pattern.specs.Patterns.{Shape}
use Rattle.pass_pattern.specs.declared.fault.PatternFault.{PatternFault}
use Rattle.pass_pattern.specs.declared.fault.PatternFault.TheVariants.{Long, Bad, NoMemory}
use Rattle.pass_ask.specs.Matches.{IsOfShape, IsPatternFault}

one_place : (text : List ℕ) (one other : ℕ) → IsBad text one → IsBad text other → (one < other → ⊥) → (other < one → ⊥) → other ≡ one
one_place text one other bad also below above = omega (arith, below, above)

-- it has one reason
pub same_fault : (text : List ℕ) (one other : PatternFault) → IsPatternFault text one → IsPatternFault text other → other ≡ one
same_fault text Long Long has also = refl
same_fault text Long (Bad at) has also = absurd (also.short has)
same_fault text (Bad at) Long has also = absurd (has.short also)
same_fault text (Bad at) (Bad place) has also =
    ap Bad (one_place text at place has also (λ less. has.longest place less also.within also.begins) (λ less. also.longest at less has.within has.begins))
same_fault text NoMemory other has also = absurd has
same_fault text Long NoMemory has also = absurd also
same_fault text (Bad at) NoMemory has also = absurd also

-- and none where it is one
pub no_fault : (text : List ℕ) (shape : Shape) → IsOfShape text shape → (why : PatternFault) → IsPatternFault text why → ⊥
no_fault text shape is Long has = is.1 has
no_fault text shape is (Bad at) has = has.none (record { shape = shape; is = is.0 })
no_fault text shape is NoMemory has = has
