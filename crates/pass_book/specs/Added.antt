-- What a desk and a line show of the next entry.
use Rattle.std.specs.Prelude.{◌≡◌, List}
use mathlib.Core.List.{IsPrefix}
use Rattle.pass_entry.specs.declared.entry.Entry.{Entry}
use Rattle.pass_plain.specs.Sessions.{Session}
use Rattle.pass_plain.specs.Legal.{IsLegal, ObjectAllows, CallerAllows, MayFollow}
use Rattle.pass_plain.specs.Lawful.{AgreeOn, AgreeBy}
use Rattle.pass_plain.specs.Records.{entry_records}
use Rattle.pass_plain.specs.Recorded.{entry_records_by}
use Rattle.pass_plain.specs.Versions.{nodes_of, source_in}

-- what one who has seen the entries of `desk` and one who has seen those of `line` show of an entry holds of each legal history that begins
-- with both, has no more entries on the entry's object than the first and no more by its caller than the second: there the
-- entry may come next, and has these records
abbrev pub AddLaw : Type 0
AddLaw = (session : Session) (history desk line : List Entry) (e : Entry) → IsLegal session history
    → IsPrefix desk history → AgreeOn e.what desk history → IsPrefix line history → AgreeBy e.who line history
    → ObjectAllows session desk e → CallerAllows line e
    → MayFollow session history e × (entry_records session history e ≡ entry_records_by session desk (source_in (nodes_of session line) e) e)
