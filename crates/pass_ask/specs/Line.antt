-- The command line of the program, as the command of the kit's crate `clap`: which words it takes, and what it makes of them,
-- is that crate's definition.
use Rattle.std.specs.Prelude.{true, Some, codes}
use Rattle.clap.specs.Simple.{App, on_top, new_app, new_rule, with_rule}
use Rattle.clap.specs.Walk.{Rule}
use Rattle.clap.specs.declared.builder.action.ArgAction.TheVariants.{Set, Append, SetTrue}

-- --json
abbrev pub json_rule : Rule
json_rule = record (new_rule (codes "json")) { long = Some (codes "json"); action = Some SetTrue }

-- --replay
abbrev pub replay_rule : Rule
replay_rule = record (new_rule (codes "replay")) { long = Some (codes "replay"); action = Some SetTrue }

-- --long
abbrev pub long_rule : Rule
long_rule = record (new_rule (codes "long")) { long = Some (codes "long"); action = Some SetTrue }

-- --workers N
abbrev pub workers_rule : Rule
workers_rule = record (new_rule (codes "workers")) { long = Some (codes "workers"); action = Some Set }

-- --names, --data, --plain
abbrev pub names_rule : Rule
names_rule = record (new_rule (codes "names")) { long = Some (codes "names"); action = Some SetTrue }

abbrev pub data_rule : Rule
data_rule = record (new_rule (codes "data")) { long = Some (codes "data"); action = Some SetTrue }

abbrev pub plain_rule : Rule
plain_rule = record (new_rule (codes "plain")) { long = Some (codes "plain"); action = Some SetTrue }

-- COMMAND
abbrev pub command_rule : Rule
command_rule = record (new_rule (codes "command")) { required = true }

-- WORD, any number of times
abbrev pub words_rule : Rule
words_rule = record (new_rule (codes "word")) { action = Some Append }

-- no flags for help and version, and no program's name before the words
abbrev pub bare_line : App
bare_line = on_top (λ s. record s { no_binary_name = true; disable_help_flag = true; disable_version_flag = true }) (new_app (codes "passd"))

-- with the flags of questions about names
abbrev pub telling_line : App → App
telling_line line = with_rule (with_rule (with_rule line names_rule) data_rule) plain_rule

unfoldable pub command_line : App
command_line = with_rule (with_rule (telling_line (with_rule (with_rule (with_rule (with_rule bare_line json_rule) replay_rule) long_rule) workers_rule)) command_rule) words_rule
