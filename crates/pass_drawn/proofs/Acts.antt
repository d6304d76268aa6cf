-- The acts by which the calls of a drawn trace change a process.
use Rattle.std.proofs.Common.{◌≡◌, ℕ, suc, List, [], ◌∷◌, map, refl, sym, subst, ◌⊎◌, inl, inr, Bool, true, false}
use Rattle.std.specs.Prelude.{Option, Some, None, slice_get, if◌then◌else◌}
use Rattle.std.specs.Option.{option_map_or}
use Rattle.pass_entry.specs.declared.entry.Act.{Act}
use Rattle.pass_entry.specs.declared.entry.Act.TheVariants as act
use Rattle.pass_entry.specs.declared.entry.Ask.{Ask}
use Rattle.pass_entry.specs.declared.objects.Descriptor.{Descriptor}
use Rattle.pass_entry.specs.declared.objects.Kind.TheVariants as kind
use Rattle.pass_entry.specs.declared.objects.Mode.TheVariants as mode
use Rattle.pass_plain.specs.declared.request.Request.TheVariants as requests
use Rattle.pass_plain.specs.Processes.{Process, is_file}
use Rattle.pass_plain.specs.Calls.{Step, Made, act_on, call_steps, steps_of, refused_ask, descriptor_at, pipe_descriptors, end_of, pnode_at, place_at}
use Rattle.pass_plain.specs.Traces.{LineCall, given, write_last, fork_as, wait_for, await_for, request_of}
use Rattle.pass_plain.proofs.Lists.{AllFrom, all_at, all-append, all-map}
use Rattle.pass_drawn.proofs.Tracing.{IsFirsts, IsChilds, IsDrawn}

-- the file as its maker holds it
abbrev pub IsShared : Descriptor → Type 0
IsShared d = (d.kind ≡ kind.File) × (d.mode ≡ mode.Both)

-- acts of a drawn trace
abbrev pub IsTame : Act → Type 0
IsTame (act.Attach fd d) = (fd ≡ 3) × IsShared d
IsTame (act.AttachPipe reader writer pnode) = ⊥
IsTame (act.Detach fd) = ⊥
IsTame _ = Unit {0}

tame_each : (step : Descriptor → Step) → ((d : Descriptor) → IsTame (step d).1) → (n : ℕ) (ds : List Descriptor) → AllFrom (λ k (d : Descriptor). IsTame (step d).1) n ds
tame_each step each n [] = tt
tame_each step each n (d ∷ ds) = (each d, tame_each step each (suc n) ds)

abbrev AreTame : List Step → Type 0
AreTame steps = AllFrom (λ k (s : Step). IsTame s.1) 0 steps

reading_tame : (b : Bool) (at len : ℕ) → IsTame (if b then act.Give at len else act.Take len)
reading_tame true at len = tt
reading_tame false at len = tt

writing_tame : (b : Bool) (out at : ℕ) (bytes : List ℕ) → IsTame (if b then act.Put out at bytes else act.Push out bytes)
writing_tame true out at bytes = tt
writing_tame false out at bytes = tt

exit_tame : (who : ℕ) (p : Process) (made : Made) → AreTame (steps_of who p made requests.Exit)
exit_tame who p made =
    let leave : Descriptor → Step = λ d. act_on d.pnode (act.Leave (end_of d.mode)) in
    all-append (λ k (s : Step). IsTame s.1) 0 (map leave (pipe_descriptors p)) (act_on who act.Finish ∷ [])
    (all-map (λ k (s : Step). IsTame s.1) leave 0 (pipe_descriptors p) (tame_each leave (λ d. tt) 0 (pipe_descriptors p))) (tt, tt)

fork_tame : (who : ℕ) (p : Process) (made : Made) → AreTame (steps_of who p made requests.Fork)
fork_tame who p made =
    let join : Descriptor → Step = λ d. act_on d.pnode (act.Join (end_of d.mode)) in (
      tt,
      (
        tt,
        all-append (λ k (s : Step). IsTame s.1) 2 (map join (pipe_descriptors p)) (act_on (pnode_at made 0) (act.Born (place_at made 1) p.descriptors) ∷ [])
            (all-map (λ k (s : Step). IsTame s.1) join 2 (pipe_descriptors p) (tame_each join (λ d. tt) 2 (pipe_descriptors p))) (tt, tt),
      ),
    )

firsts_tame : (who : ℕ) (p : Process) (made : Made) (pnode : ℕ → ℕ) (last : List ℕ) (call : LineCall) → IsFirsts call → AreTame (steps_of who p made (request_of pnode last call))
firsts_tame who p made pnode last (given (requests.Creat fd name)) is = (tt, ((is.0, (refl, refl)), tt))
firsts_tame who p made pnode last (given _) is = absurd is
firsts_tame who p made pnode last (write_last fd) is = absurd is
firsts_tame who p made pnode last (fork_as child) is = fork_tame who p made
firsts_tame who p made pnode last (wait_for child) is = (tt, (tt, tt))
firsts_tame who p made pnode last (await_for child) is = absurd is

childs_tame : (who : ℕ) (p : Process) (made : Made) (pnode : ℕ → ℕ) (last : List ℕ) (call : LineCall) → IsChilds call → AreTame (steps_of who p made (request_of pnode last call))
childs_tame who p made pnode last (given (requests.Seek fd at)) is = (tt, tt)
childs_tame who p made pnode last (given (requests.Read fd len)) is = (reading_tame (is_file (descriptor_at p fd)) (descriptor_at p fd).offset len, (tt, tt))
childs_tame who p made pnode last (given (requests.Write fd bytes)) is = (tt, (writing_tame (is_file (descriptor_at p fd)) (place_at made 0) (descriptor_at p fd).offset bytes, tt))
childs_tame who p made pnode last (given _) is = absurd is
childs_tame who p made pnode last (write_last fd) is = absurd is
childs_tame who p made pnode last (fork_as child) is = absurd is
childs_tame who p made pnode last (wait_for child) is = absurd is
childs_tame who p made pnode last (await_for child) is = absurd is

own_tame : (who : ℕ) (p : Process) (made : Made) (pnode : ℕ → ℕ) (last : List ℕ) (process : ℕ) (call : LineCall) → IsDrawn process call ⊎ (call ≡ given requests.Exit)
    → AreTame (steps_of who p made (request_of pnode last call))
own_tame who p made pnode last process call (inl (inl first)) = firsts_tame who p made pnode last call first.1
own_tame who p made pnode last process call (inl (inr other)) = childs_tame who p made pnode last call other.2
own_tame who p made pnode last process call (inr exit) = subst (λ c. AreTame (steps_of who p made (request_of pnode last c))) (sym exit) (exit_tame who p made)

tame_if : (who : ℕ) (o : Option Ask) (steps : List Step) → AreTame steps → AreTame (option_map_or (λ a. act_on who (act.Deny a) ∷ []) o steps)
tame_if who None steps tame = tame
tame_if who (Some a) steps tame = (tt, tt)

-- the steps of the trace's calls are such acts
pub steps_tame : (who : ℕ) (p : Process) (made : Made) (pnode : ℕ → ℕ) (last : List ℕ) (process : ℕ) (call : LineCall) → IsDrawn process call ⊎ (call ≡ given requests.Exit)
    → (k : ℕ) (s : Step) → slice_get (call_steps who p made (request_of pnode last call)) k ≡ Some s → IsTame s.1
steps_tame who p made pnode last process call is k s at =
    all_at (λ k (s : Step). IsTame s.1) (call_steps who p made (request_of pnode last call))
    (tame_if who (refused_ask p (request_of pnode last call)) (steps_of who p made (request_of pnode last call)) (own_tame who p made pnode last process call is)) k s at
