-- What the fields of a trace's lines may be. All ranges and lengths are this project's own.
use Rattle.std.specs.Prelude.{◌≡◌, ℕ, ◌-◌, ◌≤◌, true, List, length}
use Rattle.std.specs.List.{list_all, join_with_byte}
use Rattle.hex.specs.Hex.{IsBytes}
use Rattle.pass_entry.specs.Limits.{number_limit, transfer_limit}
use Rattle.pass_entry.specs.Texts.{IsName, IsLine}
use Rattle.pass_entry.specs.declared.objects.Mode as entry
use Rattle.pass_entry.specs.declared.objects.Mode.TheVariants as mode
use Rattle.pass_trace.specs.declared.trace.Command.{Command}
use Rattle.pass_trace.specs.declared.trace.Command.TheVariants as command
use Rattle.pass_trace.specs.declared.trace.Payload.{Payload}
use Rattle.pass_trace.specs.declared.trace.Payload.TheVariants.{Given, Last}
use Rattle.pass_trace.specs.declared.trace.TraceLine.{TraceLine}
use Rattle.pass_trace.specs.declared.limits.Scale.{Scale}
use Rattle.pass_trace.specs.Limits.{last_process, greatest_offset}
use Rattle.pass_trace.specs.Words.{is_word}

-- bytes to write are as many as one call may write
abbrev pub IsPayload : Payload → Type 0
IsPayload (Given bytes) = (length bytes ≤ transfer_limit) × IsBytes bytes
IsPayload Last = Unit {0}

-- an app object's mode is none of an open
abbrev pub IsMode : entry.Mode → Type 0
IsMode mode.App = ⊥
IsMode _ = Unit {0}

-- the arguments are a line of text, made of words
pub record IsArgs (args : List ℕ) : Type 0 where
  pub line : IsLine args
  pub words : (ws : List (List ℕ)) × (list_all is_word ws ≡ true) × (args ≡ join_with_byte 32 ws)

-- each field of the command is in its range
abbrev pub IsGood : Scale → Command → Type 0
IsGood scale (command.Creat fd name) = (fd ≤ 63) × IsName name
IsGood scale (command.Open fd name mode) = (fd ≤ 63) × IsName name × IsMode mode
IsGood scale (command.Close fd) = fd ≤ 63
IsGood scale (command.Read fd len) = (fd ≤ 63) × (1 ≤ len) × (len ≤ transfer_limit)
IsGood scale (command.Write fd payload) = (fd ≤ 63) × IsPayload payload
IsGood scale (command.Seek fd off) = (fd ≤ 63) × (off ≤ greatest_offset)
IsGood scale (command.Truncate fd size) = (fd ≤ 63) × (size ≤ greatest_offset)
IsGood scale (command.Pipe reader writer) = (reader ≤ 63) × (writer ≤ 63)
IsGood scale (command.Fork child) = (1 ≤ child) × (child ≤ last_process scale)
IsGood scale (command.Exec name args) = IsName name × IsArgs args
IsGood scale (command.Wait child) = (1 ≤ child) × (child ≤ last_process scale)
IsGood scale (command.Await child) = (1 ≤ child) × (child ≤ last_process scale)
IsGood scale (command.Rename from to) = IsName from × IsName to
IsGood scale (command.Unlink name) = IsName name
IsGood scale (command.MkObj fd) = fd ≤ 63
IsGood scale (command.Revive fd pnode) = (fd ≤ 63) × (1 ≤ pnode) × (pnode ≤ number_limit - 1)
IsGood scale (command.Freeze fd) = fd ≤ 63
IsGood scale (command.Disclose target source) = (target ≤ 63) × (source ≤ 63)
IsGood scale (command.Tag fd attr value) = (fd ≤ 63) × IsName attr × IsName value
IsGood scale (command.Sync fd) = fd ≤ 63

-- so is each field of the line; its number is free
pub record IsGoodLine (scale : Scale) (line : TraceLine) : Type 0 where
  pub from : 1 ≤ line.process
  pub to : line.process ≤ last_process scale
  pub command : IsGood scale line.command
