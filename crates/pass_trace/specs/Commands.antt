-- What the words behind a call stand for. The ranges and lengths are this project's own.
use Rattle.std.specs.Prelude.{ℕ, ◌-◌, ◌&&◌, nat_le, List, [], length, take, drop, replicate, slice_index, slice_index_or, codes, if◌then◌else◌, Result, Ok, Err}
use Rattle.std.specs.List.{join_with_byte}
use Rattle.hex.specs.Hex.{decode_of, decode_sized}
use Rattle.hex.specs.declared.error.FromHexError.{FromHexError}
use Rattle.pass_entry.specs.Limits.{number_limit, transfer_limit}
use Rattle.pass_entry.specs.Texts.{is_name, is_line}
use Rattle.pass_entry.specs.declared.entry.CallName.{CallName}
use Rattle.pass_entry.specs.declared.entry.CallName.TheVariants as call
use Rattle.pass_entry.specs.declared.objects.Mode as entry
use Rattle.pass_entry.specs.declared.objects.Mode.TheVariants as mode
use Rattle.pass_trace.specs.declared.trace.Command.{Command}
use Rattle.pass_trace.specs.declared.trace.Command.TheVariants as command
use Rattle.pass_trace.specs.declared.trace.Payload.{Payload}
use Rattle.pass_trace.specs.declared.trace.Payload.TheVariants.{Given, Last}
use Rattle.pass_trace.specs.declared.trace.TraceReason.{TraceReason}
use Rattle.pass_trace.specs.declared.trace.TraceReason.TheVariants as reason
use Rattle.pass_trace.specs.declared.limits.Scale.{Scale}
use Rattle.pass_trace.specs.Limits.{greatest_offset, last_process}
use Rattle.pass_trace.specs.Words.{is_text, value_of}

infixl 10 ◌>>=◌
-- the first step that has a reason ends the reading
abbrev pub ◌>>=◌ : {A B : Type 0} → Result A TraceReason → (A → Result B TraceReason) → Result B TraceReason
Ok x >>= f = f x
Err r >>= f = Err r

-- the word at a place behind the call, from 0
abbrev pub word_at : List (List ℕ) → ℕ → List ℕ
word_at words k = slice_index_or words k []

-- a number from low to high
unfoldable pub number_in : ℕ → ℕ → List ℕ → Result ℕ TraceReason
number_in low high word = if nat_le low (value_of word) && nat_le (value_of word) high then Ok (value_of word) else Err reason.Number

-- the number of a process of the trace
abbrev pub process_of : Scale → List ℕ → Result ℕ TraceReason
process_of scale word = number_in 1 (last_process scale) word

-- the number of a descriptor, 0 to 63
abbrev pub fd_of : List ℕ → Result ℕ TraceReason
fd_of word = number_in 0 63 word

-- a name, attribute or value: behind the test of forms only its length can be at fault
unfoldable pub name_of : List ℕ → Result (List ℕ) TraceReason
name_of word = if is_name word then Ok word else Err reason.Length

-- r, w, or else rw
unfoldable pub mode_of : List ℕ → entry.Mode
mode_of word = if is_text word (codes "r") then mode.Read else if is_text word (codes "w") then mode.Write else mode.Both

-- bytes to write, as many as one call may
abbrev pub given : List ℕ → Result Payload TraceReason
given bytes = if nat_le (length bytes) transfer_limit then Ok (Given bytes) else Err reason.Length

-- the bytes that pairs of digits write; behind the test of forms they do
abbrev pub decoded : Result (List ℕ) FromHexError → Result (List ℕ) TraceReason
decoded (Ok bytes) = Ok bytes
decoded (Err fault) = Err reason.Form

-- N:HH is the byte of HH, N times
unfoldable pub repeated_of : List ℕ → Result Payload TraceReason
repeated_of bytes = do
  count ← number_in 0 transfer_limit (take (length bytes - 3) bytes)
  byte ← decoded (decode_sized (drop (length bytes - 2) bytes) 1)
  given (replicate count (slice_index byte 0))

-- the bytes behind x: in base 16
unfoldable pub hex_of : List ℕ → Result Payload TraceReason
hex_of digits = do
  bytes ← decoded (decode_of digits)
  given bytes

-- the payload that DATA says
unfoldable pub payload_of : List ℕ → Result Payload TraceReason
payload_of word =
    if is_text word (codes "buf") then Ok Last
    else if is_text (take 2 word) (codes "t:") then given (drop 2 word)
    else if is_text (take 2 word) (codes "x:") then hex_of (drop 2 word)
    else if is_text (take 2 word) (codes "r:") then repeated_of (drop 2 word)
    else Err reason.Form

-- words joined by single spaces, no longer than a line of text
unfoldable pub args_of : List (List ℕ) → Result (List ℕ) TraceReason
args_of words = if is_line (join_with_byte 32 words) then Ok (join_with_byte 32 words) else Err reason.Length

-- creat FD NAME
unfoldable pub creat_of : List (List ℕ) → Result Command TraceReason
creat_of words = do
  fd ← fd_of (word_at words 0)
  name ← name_of (word_at words 1)
  Ok (command.Creat fd name)

-- open FD NAME MODE
unfoldable pub open_of : List (List ℕ) → Result Command TraceReason
open_of words = do
  fd ← fd_of (word_at words 0)
  name ← name_of (word_at words 1)
  Ok (command.Open fd name (mode_of (word_at words 2)))

-- close FD
unfoldable pub close_of : List (List ℕ) → Result Command TraceReason
close_of words = do
  fd ← fd_of (word_at words 0)
  Ok (command.Close fd)

-- read FD LEN, of at least one byte
unfoldable pub read_of : List (List ℕ) → Result Command TraceReason
read_of words = do
  fd ← fd_of (word_at words 0)
  len ← number_in 1 transfer_limit (word_at words 1)
  Ok (command.Read fd len)

-- write FD DATA
unfoldable pub write_of : List (List ℕ) → Result Command TraceReason
write_of words = do
  fd ← fd_of (word_at words 0)
  payload ← payload_of (word_at words 1)
  Ok (command.Write fd payload)

-- seek FD OFF
unfoldable pub seek_of : List (List ℕ) → Result Command TraceReason
seek_of words = do
  fd ← fd_of (word_at words 0)
  off ← number_in 0 greatest_offset (word_at words 1)
  Ok (command.Seek fd off)

-- truncate FD SIZE
unfoldable pub truncate_of : List (List ℕ) → Result Command TraceReason
truncate_of words = do
  fd ← fd_of (word_at words 0)
  size ← number_in 0 greatest_offset (word_at words 1)
  Ok (command.Truncate fd size)

-- pipe FD FD, the reader first
unfoldable pub pipe_of : List (List ℕ) → Result Command TraceReason
pipe_of words = do
  reader ← fd_of (word_at words 0)
  writer ← fd_of (word_at words 1)
  Ok (command.Pipe reader writer)

-- fork Q, a process of the trace
unfoldable pub fork_of : Scale → List (List ℕ) → Result Command TraceReason
fork_of scale words = do
  child ← process_of scale (word_at words 0)
  Ok (command.Fork child)

-- exec NAME and any number of words
unfoldable pub exec_of : List (List ℕ) → Result Command TraceReason
exec_of words = do
  name ← name_of (word_at words 0)
  args ← args_of (drop 1 words)
  Ok (command.Exec name args)

-- wait Q, a process of the trace
unfoldable pub wait_of : Scale → List (List ℕ) → Result Command TraceReason
wait_of scale words = do
  child ← process_of scale (word_at words 0)
  Ok (command.Wait child)

-- await Q, a process of the trace
unfoldable pub await_of : Scale → List (List ℕ) → Result Command TraceReason
await_of scale words = do
  child ← process_of scale (word_at words 0)
  Ok (command.Await child)

-- rename NAME NAME
unfoldable pub rename_of : List (List ℕ) → Result Command TraceReason
rename_of words = do
  from ← name_of (word_at words 0)
  to ← name_of (word_at words 1)
  Ok (command.Rename from to)

-- unlink NAME
unfoldable pub unlink_of : List (List ℕ) → Result Command TraceReason
unlink_of words = do
  name ← name_of (word_at words 0)
  Ok (command.Unlink name)

-- mkobj FD
unfoldable pub mkobj_of : List (List ℕ) → Result Command TraceReason
mkobj_of words = do
  fd ← fd_of (word_at words 0)
  Ok (command.MkObj fd)

-- revive FD PNODE, a number that a record can have
unfoldable pub revive_of : List (List ℕ) → Result Command TraceReason
revive_of words = do
  fd ← fd_of (word_at words 0)
  pnode ← number_in 1 (number_limit - 1) (word_at words 1)
  Ok (command.Revive fd pnode)

-- freeze FD
unfoldable pub freeze_of : List (List ℕ) → Result Command TraceReason
freeze_of words = do
  fd ← fd_of (word_at words 0)
  Ok (command.Freeze fd)

-- disclose FD FD, the target first
unfoldable pub disclose_of : List (List ℕ) → Result Command TraceReason
disclose_of words = do
  target ← fd_of (word_at words 0)
  source ← fd_of (word_at words 1)
  Ok (command.Disclose target source)

-- tag FD ATTR VALUE
unfoldable pub tag_of : List (List ℕ) → Result Command TraceReason
tag_of words = do
  fd ← fd_of (word_at words 0)
  attr ← name_of (word_at words 1)
  value ← name_of (word_at words 2)
  Ok (command.Tag fd attr value)

-- sync FD
unfoldable pub sync_of : List (List ℕ) → Result Command TraceReason
sync_of words = do
  fd ← fd_of (word_at words 0)
  Ok (command.Sync fd)

-- The command of a call and the words behind it, which have their forms, or the first reason why it is none.
-- In each row the numbers stand before the names, so a number outside its range comes before a length.
abbrev pub command_of : Scale → CallName → List (List ℕ) → Result Command TraceReason
command_of scale call.Start words = Err reason.Form
command_of scale call.Creat words = creat_of words
command_of scale call.OpenName words = open_of words
command_of scale call.CloseFd words = close_of words
command_of scale call.Read words = read_of words
command_of scale call.Write words = write_of words
command_of scale call.Seek words = seek_of words
command_of scale call.Truncate words = truncate_of words
command_of scale call.MakePipe words = pipe_of words
command_of scale call.Fork words = fork_of scale words
command_of scale call.Exec words = exec_of words
command_of scale call.WaitChild words = wait_of scale words
command_of scale call.Await words = await_of scale words
command_of scale call.Exit words = Err reason.Form
command_of scale call.Rename words = rename_of words
command_of scale call.Unlink words = unlink_of words
command_of scale call.MakeObj words = mkobj_of words
command_of scale call.Revive words = revive_of words
command_of scale call.FreezeObj words = freeze_of words
command_of scale call.Disclose words = disclose_of words
command_of scale call.TagObj words = tag_of words
command_of scale call.Sync words = sync_of words
