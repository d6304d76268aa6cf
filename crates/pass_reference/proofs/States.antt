-- The states of objects after one more entry.
use Rattle.std.proofs.Common.{◌≡◌, ◌≤◌, ◌<◌, ◌+◌, ℕ, List, [], ◌∷◌, ◌++◌, length, take, refl, ap, sym, ◌∙◌, subst, arith, cond, ◌||◌, length-append, get_or}
use Rattle.std.specs.Prelude.{Result, Ok, Err, OnOk}
use Rattle.std.specs.declared.alloc.AllocError.{AllocError}
use Rattle.pass_entry.specs.declared.entry.Entry.{Entry}
use Rattle.pass_plain.specs.Histories.{is_own, own_step}
use Rattle.pass_plain.specs.Files.{file_act}
use Rattle.pass_plain.specs.Pipes.{Pipe, pipe_act, new_pipe}
use Rattle.pass_plain.specs.Processes.{Process, process_act, process_after, begins, OffsetsFit, AllBelow64}
use Rattle.pass_plain.specs.Registries.{Registry, registry_act, opening_registry}
use Rattle.pass_plain.specs.Sessions.{opening_bytes}
use Rattle.pass_plain.specs.Recording.{bytes_after}
use Rattle.pass_plain.specs.States.{registry_of, registry_step, noted, Call, IsLastCall, IsBlank, IsLawful}
use Rattle.pass_reference.specs.States.{pipe_of, pipe_step, call_of, IsRegistry, IsPipe, IsCaller}
use Rattle.pass_plain.specs.declared.start.Start.{Start}
use Rattle.pass_plain.specs.declared.registry.RegistryState.{RegistryState}
use Rattle.pass_reference.specs.declared.pipe.PipeState.{PipeState}
use Rattle.pass_reference.specs.declared.callers.Caller.{Caller}
use Rattle.pass_plain.proofs.Replays.{state_after-append, take-next}
use Rattle.pass_plain.proofs.Calling.{legal_take}
use Rattle.pass_plain.proofs.LastCalls.{noted_is, begun_next, offsets_fit, numbers_below}
use Rattle.pass_plain.proofs.Appends.{legal-front, legal-last}
use Rattle.pass_plain.proofs.TwoPrefixes.{process-append}

pub registry_next : (start : Start) (history : List Entry) (e : Entry) (r s : RegistryState) → IsRegistry start history r
    → registry_of s ≡ registry_step (registry_of r) e → s.made ≤ r.made + 1 → IsRegistry start (history ++ e ∷ []) s
registry_next start history e r s is next made = record {
  after = next ∙ ap (λ (r : Registry). registry_step r e) is.after ∙ sym (state_after-append (λ past r e. registry_act r e.act e.reply) 0 (opening_registry start) history e);
  made = omega (arith, made, is.made, length-append history (e ∷ []));
}

pub pipe_next : (history : List Entry) (e : Entry) (object : ℕ) (p q : PipeState) → IsPipe history object p
    → pipe_of q ≡ pipe_step object (pipe_of p) e → q.readers ≤ p.readers + 1 → q.writers ≤ p.writers + 1 → IsPipe (history ++ e ∷ []) object q
pipe_next history e object p q is next readers writers = record {
  after = next ∙ ap (λ (p : Pipe). pipe_step object p e) is.after ∙ sym (state_after-append (λ past pipe e. pipe_act pipe e.act) object new_pipe history e);
  readers = omega (arith, readers, is.readers, length-append history (e ∷ []));
  writers = omega (arith, writers, is.writers, length-append history (e ∷ []));
}

pub bytes_next : (start : Start) (history : List Entry) (e : Entry) (object : ℕ)
    → bytes_after start (history ++ e ∷ []) object ≡ cond (is_own object e) (file_act (bytes_after start history object) e.act) (bytes_after start history object)
bytes_next start history e object = state_after-append (λ past content e. file_act content e.act) object (opening_bytes start object) history e

-- a process after one more entry of a lawful history
module _ (history : List Entry) (e : Entry) (who : ℕ) (lawful : IsLawful (history ++ e ∷ [])) where
  pub legal_before : IsLawful history
  legal_before = (lawful.0, lawful.1, legal-front lawful.0 history e lawful.2)

  pub offsets_before : OffsetsFit (process_after history who).descriptors
  offsets_before = offsets_fit history who legal_before

  pub below_before : AllBelow64 e.act
  unfolding legal_before
  below_before = numbers_below lawful.0 history e legal_before.2 (legal-last lawful.0 history e lawful.2)

  pub caller_next : (c d : Caller) → IsCaller history who c
      → d.begun ≡ (c.begun || begins who e.call e.act e.what e.reply)
      → d.state ≡ own_step (λ past p e. process_act past p e.act) who history c.state e
      → call_of d.call ≡ noted (call_of c.call) c.state (length history) who e
      → IsCaller (history ++ e ∷ []) who d
  unfolding legal_before
  caller_next c d is begun state call = record {
    begun = begun ∙ ap (λ b. b || begins who e.call e.act e.what e.reply) is.begun ∙ sym (begun_next history e who);
    state = state ∙ ap (λ (p : Process). own_step {S = Process} (λ past p e. process_act past p e.act) who history p e) is.state ∙ sym (process-append history e who);
    call = subst (λ (k : Call). IsLastCall (history ++ e ∷ []) who k) (sym (call ∙ ap (λ (p : Process). noted (call_of c.call) p (length history) who e) is.state))
        (noted_is lawful.0 history e legal_before.2 (legal-last lawful.0 history e lawful.2) who (call_of c.call) is.call);
  }

pub lawful_next : (history : List Entry) (i : ℕ) (e : Entry) → IsLawful history → i < length history → e ≡ get_or history i e → IsLawful (take i history ++ e ∷ [])
lawful_next history i e lawful within is =
    subst (λ (h : List Entry). IsLawful h) (take-next history i e within is) (lawful.0, lawful.1, legal_take lawful.0 history (i + 1) lawful.2)

pub blank : (who : ℕ) → IsBlank [] who
blank who = record { begun = refl; state = refl; number = refl }

-- the same where the last change may be refused
pub caller_next_if : (history : List Entry) (e : Entry) (who : ℕ) (lawful : IsLawful (history ++ e ∷ [])) (c d : Caller) (r : Result (Unit {0}) AllocError) → IsCaller history who c
    → d.begun ≡ (c.begun || begins who e.call e.act e.what e.reply)
    → OnOk r (d.state ≡ own_step (λ past p e. process_act past p e.act) who history c.state e)
    → call_of d.call ≡ noted (call_of c.call) c.state (length history) who e
    → OnOk r (IsCaller (history ++ e ∷ []) who d)
caller_next_if history e who lawful c d (Ok u) is begun state call = caller_next history e who lawful c d is begun state call
caller_next_if history e who lawful c d (Err f) is begun state call = tt
