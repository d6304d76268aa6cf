-- Which calls bear a child.
use Rattle.std.proofs.Common.{◌≡◌, ◌<◌, ℕ, zero, suc, List, [], ◌∷◌, ◌++◌, length, map, take, refl, ap, sym, ◌∙◌, subst, arith, Bool, true, false}
use Rattle.std.specs.Prelude.{Option, Some, None, drop, slice_get, if◌then◌else◌}
use Rattle.std.specs.Option.{option_map_or}
use Rattle.std.proofs.lemmas.List.{take-append-drop}
use Rattle.pass_entry.specs.declared.entry.Act.{Act}
use Rattle.pass_entry.specs.declared.entry.Act.TheVariants as act
use Rattle.pass_entry.specs.declared.entry.Ask.{Ask}
use Rattle.pass_entry.specs.declared.objects.Descriptor.{Descriptor}
use Rattle.pass_plain.specs.declared.request.Request.{Request}
use Rattle.pass_plain.specs.declared.request.Request.TheVariants as requests
use Rattle.pass_plain.specs.Calls.{act_on, Made, Step, call_steps, descriptor_at, end_of, pipe_descriptors, place_at, pnode_at, refused_ask, steps_of}
use Rattle.pass_plain.specs.Histories.{call_entries}
use Rattle.pass_plain.specs.Legal.{before_call}
use Rattle.pass_plain.specs.Processes.{Held, Process, is_pipe}
use Rattle.pass_plain.specs.Runs.{next_number}
use Rattle.pass_plain.proofs.Calling.{legal_take, row, steps_by}
use Rattle.pass_plain.proofs.Lists.{some_is}
use Rattle.pass_plain.proofs.Rows.{Row}
use Rattle.pass_progress.specs.Progress.{BirthLaw}
use Rattle.pass_progress.proofs.Positions.{calls_begin}

-- the act of a step
act_is : (s : Step) (what : ℕ) (a : Act) → Some s ≡ Some (what, a) → s.1 ≡ a
act_is s what a e = ap (λ (s : Step). s.1) (some_is s (what, a) e)

-- the steps of an exit bear none
exit_bears_none : (who k what out : ℕ) (held : Held) (ds : List Descriptor) → slice_get (map (λ (d : Descriptor). act_on d.pnode (act.Leave (end_of d.mode))) ds ++ (who, act.Finish) ∷ []) k ≡ Some (what, act.Born out held) → ⊥
exit_bears_none who zero what out held [] e = absurd (let z : act.Finish ≡ act.Born out held = act_is (who, act.Finish) what (act.Born out held) e in cc)
exit_bears_none who (suc k) what out held [] e = absurd (cc)
exit_bears_none who zero what out held (d ∷ ds) e = absurd (let z : act.Leave (end_of d.mode) ≡ act.Born out held = act_is (d.pnode, act.Leave (end_of d.mode)) what (act.Born out held) e in cc)
exit_bears_none who (suc k) what out held (d ∷ ds) e = exit_bears_none who k what out held ds e

close_bears_none : (b : Bool) (s : Step) (k what out : ℕ) (held : Held) → slice_get (if b then s ∷ [] else []) (suc k) ≡ Some (what, act.Born out held) → ⊥
close_bears_none true s k what out held e = absurd (cc)
close_bears_none false s k what out held e = absurd (cc)

-- a step behind the second that bears a child is of a fork
of_fork : (who : ℕ) (p : Process) (made : Made) (r : Request) (k what out : ℕ) (held : Held) → slice_get (steps_of who p made r) (suc (suc k)) ≡ Some (what, act.Born out held) → r ≡ requests.Fork
of_fork who p made requests.Fork k what out held e = refl
of_fork who p made (requests.CloseFd fd) k what out held e = absurd (close_bears_none (is_pipe (descriptor_at p fd)) _ k what out held e)
of_fork who p made requests.Exit k what out held e = absurd (exit_bears_none who (suc (suc k)) what out held (pipe_descriptors p) e)
of_fork who p made (requests.Exec name args) zero what out held e =
    absurd (let z : act.Exec (place_at made 1) name args ≡ act.Born out held = act_is (who, act.Exec (place_at made 1) name args) what (act.Born out held) e in cc)
of_fork who p made (requests.Exec name args) (suc k) what out held e = absurd (cc)
of_fork who p made _ k what out held e = absurd (cc)

born_of : (who : ℕ) (p : Process) (made : Made) (r : Request) (o : Option Ask) → refused_ask p r ≡ o → (k what out : ℕ) (held : Held)
    → slice_get (option_map_or (λ a. (who, act.Deny a) ∷ []) o (steps_of who p made r)) (suc (suc k)) ≡ Some (what, act.Born out held) → r ≡ requests.Fork
born_of who p made r None t k what out held e = of_fork who p made r k what out held e
born_of who p made r (Some a) t k what out held e = absurd (cc)

born_step : (who : ℕ) (p : Process) (made : Made) (r : Request) (k what out : ℕ) (held : Held) → 1 < k → slice_get (call_steps who p made r) k ≡ Some (what, act.Born out held) → r ≡ requests.Fork
born_step who p made r zero what out held less e = absurd (omega (arith, less))
born_step who p made r (suc zero) what out held less e = absurd (omega (arith, less))
born_step who p made r (suc (suc k)) what out held less e = born_of who p made r (refused_ask p r) refl k what out held e

-- the first entries tell the same in a longer call
pnode_front : (made rest : Made) → 1 < length made → pnode_at (made ++ rest) 0 ≡ pnode_at made 0
pnode_front [] rest some = absurd (omega (arith, some))
pnode_front (m ∷ made) rest some = refl

born_row : (who : ℕ) (p : Process) (made : Made) (steps : List Step) (k what : ℕ) (a : Act) (out : ℕ) (held : Held) → a ≡ act.Born out held → Row who p made steps k what a
    → (what ≡ pnode_at made 0) × (1 < k)
born_row who p made steps k what a out held is r = let here = subst (λ a. Row who p made steps k what a) is r in (here.0, here.1)

pub birth_law : BirthLaw
birth_law session who r old new goes n e out held at le by is =
    let number = next_number old who in
    let h = take n new in
    let made = call_entries h who number in
    let step = goes.steps n e at by le in
    let front = legal_take session new n goes.legal in
    let next = goes.legal n e at in
    let same : call_entries h e.who e.number ≡ made = (λ i. call_entries h (step.by i) (step.counted i)) in
    let (what_is, some) = subst (λ (m : Made). (e.what ≡ pnode_at m 0) × (1 < length m)) same
    (born_row e.who (before_call h e.who e.number) (call_entries h e.who e.number) (steps_by session h e front next) (length (call_entries h e.who e.number)) e.what e.act out held is (row session h e front next)) in
    let fork = born_step who (before_call old who number) made r (length made) e.what out held some (step.step ∙ ap (λ a. Some (e.what, a)) is) in
    let (rest, whole) = calls_begin h (drop n new) who number in (
      fork,
      what_is ∙ sym (pnode_front made rest some) ∙ ap (λ (m : Made). pnode_at m 0) (whole ∙ ap (λ h. call_entries h who number) (take-append-drop n new)),
    )
