use Rattle.pass_plain.proofs.laws.places.Goals as goal
use Rattle.pass_plain.proofs.HeldPlaces.{first_places_law, share_holds, held_law, living_places_law, birth_places_law, end_places_law}

pub returns-clause-first : goal.returns-clause-first
returns-clause-first c = first_places_law

pub returns-clause-share : goal.returns-clause-share
returns-clause-share c = share_holds

pub returns-clause-held : goal.returns-clause-held
returns-clause-held c = held_law

pub returns-clause-living : goal.returns-clause-living
returns-clause-living c = living_places_law

pub returns-clause-birth : goal.returns-clause-birth
returns-clause-birth c = birth_places_law

pub returns-clause-end : goal.returns-clause-end
returns-clause-end c = end_places_law
