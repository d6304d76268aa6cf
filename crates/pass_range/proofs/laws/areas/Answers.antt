use Rattle.pass_range.proofs.laws.areas.Goals as goal
use Rattle.pass_range.proofs.Proved.{places_proved, write_proved, held_proved, matched_proved, stands_proved}

pub returns-clause-places : goal.returns-clause-places
returns-clause-places c = places_proved

pub returns-clause-writes : goal.returns-clause-writes
returns-clause-writes c = write_proved

pub returns-clause-held : goal.returns-clause-held
returns-clause-held c = held_proved

pub returns-clause-matched : goal.returns-clause-matched
returns-clause-matched c = matched_proved

pub returns-clause-stands : goal.returns-clause-stands
returns-clause-stands c = stands_proved
