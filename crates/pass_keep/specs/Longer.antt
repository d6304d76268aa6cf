-- A session that has gone on (this project's own rule).
use Rattle.std.specs.Prelude.{List, ◌++◌}
use Rattle.pass_entry.specs.declared.entry.Entry.{Entry}
use Rattle.pass_keep.specs.Kept.{Story}
use Rattle.pass_keep.specs.Keepers.{Past}

-- with more entries behind its history
abbrev pub with_entries : Story → List Entry → Story
with_entries s more = record s { history = s.history ++ more }

abbrev pub past_with : Past → List Entry → Past
past_with past more = record past { story = with_entries past.story more }
