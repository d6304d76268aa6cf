-- How one more entry changes the places that processes hold.
use Rattle.std.specs.Prelude.{ℕ, ◌≡◌, ◌+◌, ◌≤◌, true, false, List, [], ◌∷◌, ◌++◌, sum_by}
use Rattle.pass_entry.specs.declared.entry.Entry.{Entry}
use Rattle.pass_entry.specs.declared.entry.Act.TheVariants as act
use Rattle.pass_entry.specs.declared.entry.CallName.TheVariants as call
use Rattle.pass_entry.specs.declared.entry.Reply.TheVariants as answer
use Rattle.pass_entry.specs.declared.objects.Kind.TheVariants as kind
use Rattle.pass_plain.specs.Histories.{is_fault}
use Rattle.pass_plain.specs.Sessions.{Session}
use Rattle.pass_plain.specs.Processes.{Held, has_begun, has_ended}
use Rattle.pass_plain.specs.Legal.{IsLegal, MayFollow, is_start}
use Rattle.pass_plain.specs.Places.{begun_in, call_places, exit_places, exit_step, held_places, is_exit, keeps, share}

-- an entry of a process that has begun and not ended
pub record IsOfLiving (session : Session) (history : List Entry) (e : Entry) : Type 0 where
  pub legal : IsLegal session history
  pub next : MayFollow session history e
  pub begun : has_begun history e.who ≡ true
  pub lives : has_ended history e.who ≡ false

-- the session's first process keeps the places of its exit
abbrev pub FirstPlacesLaw : Type 0
FirstPlacesLaw = (n : ℕ) → 1 ≤ n
    → held_places (record { who = 0; number = 0; call = call.Start; what = 0; act = act.Mint kind.Process; reply = answer.Made n } ∷ []) ≡ 65

-- an entry changes what its caller holds, and adds what a process that it begins holds
abbrev pub ShareLaw : Type 0
ShareLaw = (session : Session) (history : List Entry) (e : Entry) → IsLegal session history → MayFollow session history e → is_start e.call ≡ false
    → held_places (history ++ e ∷ []) + share history e.who
    ≡ held_places history + share (history ++ e ∷ []) e.who + sum_by (share (history ++ e ∷ [])) (begun_in e)

-- no process that has begun is counted without its share
abbrev pub HeldLaw : Type 0
HeldLaw = (session : Session) (history : List Entry) (e : Entry) → IsOfLiving session history e
    → exit_places history e.who + call_places history e.who ≤ held_places history

-- an entry that is neither the end of its process nor a child's birth: `own` places are left for the exit, and the call keeps its own
abbrev pub LivingPlacesLaw : Type 0
LivingPlacesLaw = (session : Session) (history : List Entry) (e : Entry) → IsOfLiving session history e
    → (¬ (e.act ≡ act.Finish)) → ((out : ℕ) (descriptors : Held) → ¬ (e.act ≡ act.Born out descriptors))
    → (own : ℕ) → own + exit_step e.call ≡ exit_places history e.who
    → (held_places (history ++ e ∷ []) + (exit_places history e.who + call_places history e.who) ≡ held_places history + (own + keeps history e))
    × (exit_places (history ++ e ∷ []) e.who ≡ own)

-- a child's birth: the child has the places of its exit
abbrev pub BirthPlacesLaw : Type 0
BirthPlacesLaw = (session : Session) (history : List Entry) (e : Entry) (out : ℕ) (descriptors : Held) → IsOfLiving session history e
    → e.act ≡ act.Born out descriptors → is_exit e.call ≡ false
    → (held_places (history ++ e ∷ []) + call_places history e.who ≡ held_places history + keeps history e + 65)
    × (exit_places (history ++ e ∷ []) e.who ≡ exit_places history e.who)

-- the end of a process frees all that it held
abbrev pub EndPlacesLaw : Type 0
EndPlacesLaw = (session : Session) (history : List Entry) (e : Entry) → IsOfLiving session history e
    → e.act ≡ act.Finish → e.what ≡ e.who → is_fault e.reply ≡ false
    → held_places (history ++ e ∷ []) + (exit_places history e.who + call_places history e.who) ≡ held_places history
