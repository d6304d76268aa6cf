-- How a call may fail to begin.
use Rattle.pass_answer.specs.declared.answer.CallEnd.{CallEnd}
use Rattle.pass_answer.specs.declared.answer.CallEnd.TheVariants as ends

-- the end tells of too few places
abbrev pub TellsOfPlaces : CallEnd → Type 0
TellsOfPlaces (ends.Full left need) = Unit {0}
TellsOfPlaces _ = ⊥
