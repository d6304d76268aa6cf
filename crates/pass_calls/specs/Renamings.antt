-- The calls that change the names of files alone: what each asks of the registry.
use Rattle.pass_entry.specs.declared.entry.Act.{Act}
use Rattle.pass_entry.specs.declared.entry.Act.TheVariants as act
use Rattle.pass_plain.specs.declared.request.Request.{Request}
use Rattle.pass_plain.specs.declared.request.Request.TheVariants as requests
use Rattle.pass_calls.specs.declared.renaming.Change.{Change}
use Rattle.pass_calls.specs.declared.renaming.Change.TheVariants as change

abbrev pub request_of_change : Change → Request
request_of_change (change.Move room) = requests.Rename room.from room.to
request_of_change (change.Unbind room) = requests.Unlink room

abbrev pub act_of_change : Change → Act
act_of_change (change.Move room) = act.Move room.from room.to
act_of_change (change.Unbind room) = act.Unbind room
