-- What the files of a folder are taken for (this project's own rule).
use Rattle.std.specs.Prelude.{ℕ, Bool, List, [], ◌∷◌, Option, Some, None, ◌==◌, if◌then◌else◌}
use Rattle.std.specs.List.{list_all}
use Rattle.pass_host.specs.declared.front.Found.{Found}
use Rattle.pass_host.specs.declared.front.Found.TheVariants.{Nothing, Store, Other}
use Rattle.pass_host.specs.declared.note.Note.{Note}
use Rattle.pass_host.specs.declared.note.Note.TheVariants.{NoStore, OtherLog}

-- these bytes spell no length above 0
abbrev pub are_zero : List ℕ → Bool
are_zero bytes = list_all (λ byte. byte == 0) bytes

-- a store's where the folder is marked
abbrev pub marked_or : Found → Bool → Found
marked_or found marked = if marked then Store else found

-- a store's but where the length is 0: no run writes a frame without bytes
abbrev pub unless_zero : Bool → Found
unless_zero is_zero = if is_zero then Other else Store

-- A store's log begins with an open gate and a length. In a folder that is marked its first gate may still be closed.
abbrev pub found_behind : Bool → ℕ → List ℕ → Found
found_behind marked gate length = if gate == 0 then marked_or Other marked else if gate == 1 then unless_zero (are_zero length) else Other

-- what the first bytes of a log say of the folder
abbrev pub found_at : Bool → List ℕ → Found
found_at marked [] = marked_or Nothing marked
found_at marked (gate ∷ length) = found_behind marked gate length

-- what a holder that only reads should know
abbrev pub note_of : Found → Option Note
note_of Nothing = Some NoStore
note_of Store = None
note_of Other = Some OtherLog
