-- The forms of the words behind each call of a trace. The table is this project's own.
use Rattle.std.specs.Prelude.{List, [], ◌∷◌, Option, Some, None}
use Rattle.pass_entry.specs.declared.entry.CallName.{CallName}
use Rattle.pass_entry.specs.declared.entry.CallName.TheVariants as call
use Rattle.pass_trace.specs.declared.call.Form as form
use Rattle.pass_trace.specs.declared.call.Form.TheVariants.{Number, Name, Mode, Payload, Rest}

-- The forms of the words behind a call. No line says that the store starts or that a process ends: a process ends behind its
-- last line.
abbrev pub forms_of : CallName → Option (List form.Form)
forms_of call.Start = None
forms_of call.Creat = Some (Number ∷ Name ∷ [])
forms_of call.OpenName = Some (Number ∷ Name ∷ Mode ∷ [])
forms_of call.CloseFd = Some (Number ∷ [])
forms_of call.Read = Some (Number ∷ Number ∷ [])
forms_of call.Write = Some (Number ∷ Payload ∷ [])
forms_of call.Seek = Some (Number ∷ Number ∷ [])
forms_of call.Truncate = Some (Number ∷ Number ∷ [])
forms_of call.MakePipe = Some (Number ∷ Number ∷ [])
forms_of call.Fork = Some (Number ∷ [])
forms_of call.Exec = Some (Name ∷ Rest ∷ [])
forms_of call.WaitChild = Some (Number ∷ [])
forms_of call.Await = Some (Number ∷ [])
forms_of call.Exit = None
forms_of call.Rename = Some (Name ∷ Name ∷ [])
forms_of call.Unlink = Some (Name ∷ [])
forms_of call.MakeObj = Some (Number ∷ [])
forms_of call.Revive = Some (Number ∷ Number ∷ [])
forms_of call.FreezeObj = Some (Number ∷ [])
forms_of call.Disclose = Some (Number ∷ Number ∷ [])
forms_of call.TagObj = Some (Number ∷ Name ∷ Name ∷ [])
forms_of call.Sync = Some (Number ∷ [])
