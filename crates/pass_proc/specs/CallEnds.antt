-- How a call of a process ends that is refused.
use Rattle.std.specs.Prelude.{◌≡◌, ℕ, ◌-◌, ◌<◌, true, List, Option, Some, length, option_map, slice_get}
use Rattle.pass_entry.specs.declared.entry.Ask.{Ask}
use Rattle.pass_entry.specs.declared.entry.CallName.{CallName}
use Rattle.pass_entry.specs.declared.entry.Entry.{Entry}
use Rattle.pass_entry.specs.declared.entry.Reply.{Reply}
use Rattle.pass_plain.specs.declared.request.Request.{Request}
use Rattle.pass_plain.specs.Calls.{Made, name_of, ask_of, is_within}
use Rattle.pass_plain.specs.Places.{left_for}
use Rattle.pass_plain.specs.Sessions.{Session}
use Rattle.pass_book.specs.declared.claim.Full.{Full}
use Rattle.pass_hold.specs.Callings.{IsCallMade, HasLooked}

abbrev pub last_reply : Made → Option Reply
last_reply made = option_map (λ s. s.1.reply) (slice_get made (length made - 1))

-- the call was made, and its last entry is this reply
pub record HasReplied (session : Session) (who : ℕ) (before after : List Entry) (r : Request) (reply : Reply) : Type 0 where
  pub made : Made
  pub call : IsCallMade session who before after r made
  pub last : last_reply made ≡ Some reply

-- some call of this name asks this of its process
pub record Asks (name : CallName) (a : Ask) : Type 0 where
  pub request : Request
  pub named : name_of request ≡ name
  pub asked : ask_of request ≡ Some a
  pub within : is_within request ≡ true

-- the process looked, and what it saw leaves fewer places than the call needs
pub record HasTooFew (session : Session) (places who : ℕ) (before after : List Entry) (need : ℕ) (full : Full) : Type 0 where
  pub looked : HasLooked session who before after
  pub needs : full.need ≡ need
  pub fewer : full.left < need
  pub left : full.left ≡ left_for places after who
