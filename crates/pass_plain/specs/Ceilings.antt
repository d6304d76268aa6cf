-- The ceilings that a session puts on the record. A record raises the ceiling by at most 8,192. This project's own rule.
use Rattle.std.specs.Prelude.{ℕ, zero, suc, ◌+◌, ◌-◌, ◌/◌, ◌^◌, ◌≡◌, ◌≤◌, ◌<◌, List, [], ◌∷◌, ◌++◌, length}
use Rattle.std.specs.List.{All}
use Rattle.pass_entry.specs.Ranges.{IsInRange}
use Rattle.pass_entry.specs.declared.record.Record.{Record}
use Rattle.pass_entry.specs.declared.record.Record.TheVariants as log
use Rattle.pass_plain.specs.WellLogged.{IsWellLogged, ceiling_of}

-- how far one record raises the ceiling at most
abbrev pub ceiling_step : ℕ
ceiling_step = 8192

-- how many objects a session makes at most
abbrev pub most_objects : ℕ
most_objects = 65536

-- so many ceilings above this one, each a step above the one before
abbrev pub steps_from : ℕ → ℕ → List Record
steps_from zero ceiling = []
steps_from (suc n) ceiling = log.Ceiling (ceiling + ceiling_step) ∷ steps_from n (ceiling + ceiling_step)

-- how many steps there are above a ceiling and below another one
abbrev pub steps_below : ℕ → ℕ → ℕ
steps_below from to = (to - from - 1) / ceiling_step

-- the records that raise one ceiling to another: the steps between them, and the other one
unfoldable pub ceilings_between : ℕ → ℕ → List Record
ceilings_between from to = steps_from (steps_below from to) from ++ log.Ceiling to ∷ []

-- the records before a session, and those that raise their ceiling to the session's
abbrev pub raised : List Record → ℕ → List Record
raised before ceiling = before ++ ceilings_between (ceiling_of before) ceiling

-- a list stays well logged when its ceiling is raised, however far
abbrev pub RaisedLaw : Type 0
RaisedLaw = (list : List Record) → IsWellLogged list → (ceiling : ℕ) → ceiling_of list < ceiling
    → IsWellLogged (raised list ceiling) × (ceiling_of (raised list ceiling) ≡ ceiling)

-- one record does where one record may
abbrev pub OneCeilingLaw : Type 0
OneCeilingLaw = (from to : ℕ) → to ≤ from + ceiling_step → ceilings_between from to ≡ log.Ceiling to ∷ []

-- no session needs more than eight
abbrev pub FewCeilingsLaw : Type 0
FewCeilingsLaw = (from to : ℕ) → to ≤ from + most_objects → length (ceilings_between from to) ≤ 8

-- each has bytes in the log
abbrev pub CeilingRangeLaw : Type 0
CeilingRangeLaw = (from to : ℕ) → from < to → to < 2 ^ 48 → All IsInRange (ceilings_between from to)
