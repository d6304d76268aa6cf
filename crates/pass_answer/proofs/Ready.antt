-- A call that finds too few places, and whose first step is ready.
use Rattle.std.proofs.Common.{◌≡◌, ap, sym, ◌∙◌, subst, [], ◌∷◌, refl}
use Rattle.std.specs.Prelude.{◌≢◌, Option, Some, None, Err, slice_get}
use Rattle.std.specs.Option.{option_map_or}
use Rattle.pass_entry.proofs.Lists.{some_is}
use Rattle.pass_entry.specs.declared.entry.Act.TheVariants as act
use Rattle.pass_entry.specs.declared.entry.Ask.{Ask}
use Rattle.pass_entry.specs.declared.entry.CallFault.{CallFault}
use Rattle.pass_plain.specs.declared.request.Request.{Request}
use Rattle.pass_plain.specs.Calls.{Step, ask_of, call_steps, refused_ask, steps_of}
use Rattle.pass_plain.specs.Processes.{refusal}
use Rattle.pass_plain.specs.Replies.{reply_to}
use Rattle.pass_plain.specs.Sessions.{Session}
use Rattle.pass_proc.specs.Procs.{ProcView}
use Rattle.pass_answer.specs.Ready.{IsReadyIfFull}
use Rattle.pass_answer.specs.declared.answer.CallEnd.{CallEnd}
use Rattle.pass_answer.specs.declared.answer.CallEnd.TheVariants as ends

pub is_there : {A : Type 0} (o : Option A) (x : A) → o ≡ Some x → o ≢ None
is_there o x is none = absurd (let z : Some x ≡ None = sym is ∙ none in cc)

-- its first step is this one, which is ready
pub ready_at : (session : Session) (old new : ProcView) (r : Request) (s : Step) → slice_get (call_steps old.who old.state [] r) 0 ≡ Some s → reply_to session new.seen s.0 s.1 ≢ None
    → (end : CallEnd) → IsReadyIfFull session old new r (Err end)
ready_at session old new r s first ready (ends.Full left need) = λ step at none. ready (subst (λ (t : Step). reply_to session new.seen t.0 t.1 ≡ None) (some_is step s (sym at ∙ first)) none)
ready_at session old new r s first ready (ends.Fault f) = tt
ready_at session old new r s first ready ends.Again = tt
ready_at session old new r s first ready (ends.DiskFault opened now) = tt
ready_at session old new r s first ready ends.NoMemory = tt

-- a call that its process refuses never waits
pub refusal_ready : (session : Session) (old new : ProcView) (r : Request) (a : Ask) (f : CallFault) → ask_of r ≡ Some a → refusal old.state a ≡ Some f → (end : CallEnd)
    → IsReadyIfFull session old new r (Err end)
refusal_ready session old new r a f asked refused =
    let first : refused_ask old.state r ≡ Some a =
    ap (λ o. option_map_or (λ a. option_map_or (λ f. Some a) (refusal old.state a) None) o None) asked
    ∙ ap (λ (o : Option CallFault). option_map_or (λ f. Some a) o None) refused in
    ready_at session old new r (old.who, act.Deny a)
    (ap (λ o. slice_get (option_map_or (λ a. (old.who, act.Deny a) ∷ []) o (steps_of old.who old.state [] r)) 0) first)
    (λ none. absurd (cc))
