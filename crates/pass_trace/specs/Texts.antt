-- How a trace is written. All rules here are this project's own.
use Rattle.std.specs.Prelude.{ℕ, ◌+◌, List, [], ◌∷◌, ◌++◌, codes, decimal}
use Rattle.std.specs.List.{flat_map}
use Rattle.hex.specs.Hex.{encode_lower}
use Rattle.pass_entry.specs.Words.{call_word}
use Rattle.pass_entry.specs.declared.entry.CallName.TheVariants as call
use Rattle.pass_entry.specs.declared.objects.Mode as entry
use Rattle.pass_entry.specs.declared.objects.Mode.TheVariants as mode
use Rattle.pass_trace.specs.declared.trace.Command.{Command}
use Rattle.pass_trace.specs.declared.trace.Command.TheVariants.{Creat, Open, Close, Read, Write, Seek, Truncate, Pipe, Fork, Exec, Wait, Await, Rename, Unlink, MkObj, Revive, Freeze, Disclose, Tag, Sync}
use Rattle.pass_trace.specs.declared.trace.Payload.{Payload}
use Rattle.pass_trace.specs.declared.trace.Payload.TheVariants.{Given, Last}
use Rattle.pass_trace.specs.declared.trace.TraceLine.{TraceLine}

-- each word behind a space
abbrev pub spaced : List (List ℕ) → List ℕ
spaced words = flat_map (λ word. 32 ∷ word) words

-- bytes are written in base 16
abbrev pub payload_word : Payload → List ℕ
payload_word (Given bytes) = codes "x:" ++ encode_lower bytes
payload_word Last = codes "buf"

-- an app object's mode stands in no trace that was read; its word is none of a trace
abbrev pub mode_word : entry.Mode → List ℕ
mode_word mode.Read = codes "r"
mode_word mode.Write = codes "w"
mode_word mode.Both = codes "rw"
mode_word mode.App = codes "app"

-- the arguments stand behind one space, where there are any
abbrev pub args_words : List ℕ → List (List ℕ)
args_words [] = []
args_words (b ∷ bs) = (b ∷ bs) ∷ []

-- the words of a command, the call first
abbrev pub command_words : Command → List (List ℕ)
command_words (Creat fd name) = call_word call.Creat ∷ decimal fd ∷ name ∷ []
command_words (Open fd name mode) = call_word call.OpenName ∷ decimal fd ∷ name ∷ mode_word mode ∷ []
command_words (Close fd) = call_word call.CloseFd ∷ decimal fd ∷ []
command_words (Read fd len) = call_word call.Read ∷ decimal fd ∷ decimal len ∷ []
command_words (Write fd payload) = call_word call.Write ∷ decimal fd ∷ payload_word payload ∷ []
command_words (Seek fd off) = call_word call.Seek ∷ decimal fd ∷ decimal off ∷ []
command_words (Truncate fd size) = call_word call.Truncate ∷ decimal fd ∷ decimal size ∷ []
command_words (Pipe reader writer) = call_word call.MakePipe ∷ decimal reader ∷ decimal writer ∷ []
command_words (Fork child) = call_word call.Fork ∷ decimal child ∷ []
command_words (Exec name args) = call_word call.Exec ∷ name ∷ args_words args
command_words (Wait child) = call_word call.WaitChild ∷ decimal child ∷ []
command_words (Await child) = call_word call.Await ∷ decimal child ∷ []
command_words (Rename from to) = call_word call.Rename ∷ from ∷ to ∷ []
command_words (Unlink name) = call_word call.Unlink ∷ name ∷ []
command_words (MkObj fd) = call_word call.MakeObj ∷ decimal fd ∷ []
command_words (Revive fd pnode) = call_word call.Revive ∷ decimal fd ∷ decimal pnode ∷ []
command_words (Freeze fd) = call_word call.FreezeObj ∷ decimal fd ∷ []
command_words (Disclose target source) = call_word call.Disclose ∷ decimal target ∷ decimal source ∷ []
command_words (Tag fd attr value) = call_word call.TagObj ∷ decimal fd ∷ attr ∷ value ∷ []
command_words (Sync fd) = call_word call.Sync ∷ decimal fd ∷ []

-- the process, and behind it each word of the command
abbrev pub line_text : TraceLine → List ℕ
line_text line = decimal line.process ++ spaced (command_words line.command)

-- the lines in order, each with LF at its end
abbrev pub text_of : List TraceLine → List ℕ
text_of lines = flat_map (λ line. line_text line ++ 10 ∷ []) lines

-- the lines, numbered anew from this number on
abbrev pub renumbered_from : ℕ → List TraceLine → List TraceLine
renumbered_from number [] = []
renumbered_from number (line ∷ lines) = record { number = number; process = line.process; command = line.command } ∷ renumbered_from (number + 1) lines
