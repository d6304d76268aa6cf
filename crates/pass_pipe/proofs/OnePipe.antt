-- The state of a pipe after one more entry, and the order of its bytes.
use Rattle.std.proofs.Common.{◌≡◌, ℕ, Bool, true, false, not, ◌&&◌, List, [], ◌∷◌, ◌++◌, refl, ap, sym, ◌∙◌, cond, take, drop, append_assoc}
use Rattle.std.specs.Prelude.{Some, None, ◌==◌}
use Rattle.std.proofs.lemmas.Grind.{flat_map-append}
use Rattle.std.proofs.lemmas.List.{take-append-drop, append-nil}
use Rattle.pass_entry.specs.declared.entry.Entry.{Entry}
use Rattle.pass_entry.specs.declared.entry.Act.{Act}
use Rattle.pass_entry.specs.declared.entry.Act.TheVariants as act
use Rattle.pass_entry.specs.declared.objects.End.TheVariants as end
use Rattle.pass_entry.specs.declared.entry.Reply.{Reply}
use Rattle.pass_entry.specs.declared.entry.Reply.TheVariants as answer
use Rattle.pass_plain.specs.Histories.{is_fault, is_own, bytes_of}
use Rattle.pass_plain.specs.Sessions.{Session}
use Rattle.pass_plain.specs.Legal.{MayFollow}
use Rattle.pass_plain.specs.Replies.{reply_to}
use Rattle.pass_plain.specs.Pipes.{Pipe, new_pipe, pipe_act, pipe_after}
use Rattle.pass_plain.proofs.Lists.{same_numbers, same_itself, some_is}
use Rattle.pass_plain.proofs.Replays.{state_after-append, own_step-own, own_step-other, own_step-fault}
use Rattle.pass_plain.proofs.Calling.{legal_induction}
use Rattle.pass_pipe.specs.OnePipe.{StepLaw, FaultLaw, OthersLaw, OrderLaw, put_in, taken_out, written, was_read}

pub step_law : StepLaw
step_law history e done =
    state_after-append (λ past pipe e. pipe_act pipe e.act) e.what new_pipe history e
    ∙ own_step-own (λ past pipe e. pipe_act pipe e.act) e.what history (pipe_after history e.what) e (same_itself e.what) done

pub fault_law : FaultLaw
fault_law history e pipe fault =
    state_after-append (λ past pipe e. pipe_act pipe e.act) pipe new_pipe history e
    ∙ own_step-fault (λ past pipe e. pipe_act pipe e.act) pipe history (pipe_after history pipe) e fault

pub others_law : OthersLaw
others_law history e pipe other =
    state_after-append (λ past pipe e. pipe_act pipe e.act) pipe new_pipe history e
    ∙ own_step-other (λ past pipe e. pipe_act pipe e.act) pipe history (pipe_after history pipe) e other

-- a reply of a pipe to a reader is the first bytes
first_bytes : (pipe : Pipe) (len : ℕ) (r : Reply) (b : Bool) → cond b None (Some (answer.Took (take len pipe.bytes))) ≡ Some r → bytes_of r ≡ take len pipe.bytes
first_bytes pipe len r true e = absurd (cc)
first_bytes pipe len r false e = ap bytes_of (sym (some_is _ _ e))

-- an act on a pipe takes its bytes from the front and puts those that are new behind the others
moved : (session : Session) (history : List Entry) (pipe : ℕ) (a : Act) (r : Reply) → reply_to session history pipe a ≡ Some r
    → taken_out a r ++ (pipe_act (pipe_after history pipe) a).bytes ≡ (pipe_after history pipe).bytes ++ put_in a
moved session history pipe (act.Take len) r replied =
    ap (λ front. front ++ drop len (pipe_after history pipe).bytes) (first_bytes (pipe_after history pipe) len r _ replied)
    ∙ take-append-drop len (pipe_after history pipe).bytes ∙ sym (append-nil _)
moved session history pipe (act.Push out bytes) r replied = refl
moved session history pipe (act.Join end.Reader) r replied = sym (append-nil _)
moved session history pipe (act.Join end.Writer) r replied = sym (append-nil _)
moved session history pipe (act.Leave end.Reader) r replied = sym (append-nil _)
moved session history pipe (act.Leave end.Writer) r replied = sym (append-nil _)
moved session history pipe _ r replied = sym (append-nil _)

-- one more entry takes its bytes from the front and puts those that are new behind the others
entry_moved : (session : Session) (history : List Entry) (e : Entry) (pipe : ℕ) → MayFollow session history e
    → (own fault : Bool) → (e.what == pipe) ≡ own → is_fault e.reply ≡ fault
    → cond (own && not fault) (taken_out e.act e.reply) [] ++ (pipe_after (history ++ e ∷ []) pipe).bytes
    ≡ (pipe_after history pipe).bytes ++ cond (own && not fault) (put_in e.act) []
entry_moved session history e pipe next true false own done =
    let here : e.what ≡ pipe = same_numbers e.what pipe own in
    let replied : reply_to session history pipe e.act ≡ Some e.reply = ap (λ o. reply_to session history o e.act) (sym here) ∙ next.replied in
    let step : pipe_after (history ++ e ∷ []) pipe ≡ pipe_act (pipe_after history pipe) e.act =
    ap (λ o. pipe_after (history ++ e ∷ []) o) (sym here) ∙ step_law history e done ∙ ap (λ o. pipe_act (pipe_after history o) e.act) here in
    ap (λ (p : Pipe). taken_out e.act e.reply ++ p.bytes) step ∙ moved session history pipe e.act e.reply replied
entry_moved session history e pipe next true true own fault =
    ap (λ (p : Pipe). p.bytes) (fault_law history e pipe fault) ∙ sym (append-nil _)
entry_moved session history e pipe next false fault other f =
    ap (λ (p : Pipe). p.bytes) (others_law history e pipe other) ∙ sym (append-nil _)

joined : (out took left bytes all new : List ℕ) → out ++ bytes ≡ all → took ++ left ≡ bytes ++ new
    → (out ++ (took ++ [])) ++ left ≡ all ++ (new ++ [])
joined out took left bytes all new before step =
    ap (λ xs. (out ++ xs) ++ left) (append-nil took) ∙ append_assoc out took left ∙ ap (λ xs. out ++ xs) step
    ∙ sym (append_assoc out bytes new) ∙ ap (λ xs. xs ++ new) before ∙ ap (λ xs. all ++ xs) (sym (append-nil new))

pub order_law : OrderLaw
order_law session history pipe legal =
    legal_induction session (λ h. was_read pipe h ++ (pipe_after h pipe).bytes ≡ written pipe h) refl
    (λ h e lawful before next.
    ap (λ xs. xs ++ (pipe_after (h ++ e ∷ []) pipe).bytes) (flat_map-append (λ e. cond (is_own pipe e) (taken_out e.act e.reply) []) h (e ∷ []))
    ∙ joined (was_read pipe h) (cond (is_own pipe e) (taken_out e.act e.reply) []) (pipe_after (h ++ e ∷ []) pipe).bytes
    (pipe_after h pipe).bytes (written pipe h) (cond (is_own pipe e) (put_in e.act) []) before
    (entry_moved session h e pipe next (e.what == pipe) (is_fault e.reply) refl refl)
    ∙ sym (flat_map-append (λ e. cond (is_own pipe e) (put_in e.act) []) h (e ∷ [])))
    history legal
