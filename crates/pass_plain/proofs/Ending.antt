-- An act is the last of its call exactly at the end of the call's steps.
use Rattle.std.proofs.Common.{◌≡◌, ◌<◌, ◌≤◌, ◌+◌, ℕ, suc, List, [], ◌∷◌, ◌++◌, length, map, refl, ap, sym, ◌∙◌, arith, Bool, true, false, ◌||◌, not, ◌==◌, length-append}
use Rattle.std.specs.Prelude.{Option, Some, None, if◌then◌else◌}
use Rattle.std.specs.Option.{option_map_or}
use Rattle.std.proofs.lemmas.List.{length-map}
use Rattle.std.proofs.lemmas.Bool.Decides.{nat_tests}
use Rattle.pass_entry.specs.declared.entry.Act.TheVariants as act
use Rattle.pass_entry.specs.declared.entry.Ask.{Ask}
use Rattle.pass_entry.specs.declared.entry.CallName.{CallName}
use Rattle.pass_entry.specs.declared.entry.CallName.TheVariants as call
use Rattle.pass_entry.specs.declared.objects.Descriptor.{Descriptor}
use Rattle.pass_plain.specs.Histories.{is_fault, call_entries}
use Rattle.pass_plain.specs.Processes.{Process, is_file, is_pipe}
use Rattle.pass_plain.specs.Calls.{act_on, name_of, Made, Step, call_steps, steps_of, refused_ask, descriptor_at, end_of, pipe_descriptors, place_at, pnode_at, is_last_act}
use Rattle.pass_plain.specs.declared.request.Request.{Request}
use Rattle.pass_plain.specs.declared.request.Request.TheVariants as requests
use Rattle.pass_plain.specs.Legal.{before_call}
use Rattle.pass_plain.specs.Lawful.{StepEndLaw, EndLaw}
use Rattle.pass_plain.proofs.Lists.{AllFrom, all_at, all-append, all-map, alike}
use Rattle.pass_plain.proofs.Calling.{step_next}

apart : (a b : ℕ) → a < b → (a == b) ≡ false
apart a b h = grind (arith, nat_tests)

all_bounded : {X : Type 0} (Q : ℕ → X → Type 0) (most n : ℕ) (xs : List X) → n + length xs ≤ most → ((k : ℕ) (x : X) → k < most → Q k x) → AllFrom Q n xs
all_bounded Q most n [] fits each = tt
all_bounded Q most n (x ∷ xs) fits each = (each n x (omega (arith, fits)), all_bounded Q most (suc n) xs (omega (arith, fits)) each)

abbrev Ends : Process → CallName → List Step → Type 0
Ends p name steps = AllFrom (λ k s. is_last_act p name s.1 ≡ (suc k == length steps)) 0 steps

close_ends : (who : ℕ) (p : Process) (fd : ℕ) (b : Bool) → is_pipe (descriptor_at p fd) ≡ b
    → Ends p call.CloseFd (act_on who (act.Detach fd) ∷ (if b then act_on (descriptor_at p fd).pnode (act.Leave (end_of (descriptor_at p fd).mode)) ∷ [] else []))
close_ends who p fd true pipe = (ap not pipe, (refl, tt))
close_ends who p fd false pipe = (ap not pipe, tt)

read_ends : (who what at len out fd : ℕ) (p : Process) (b : Bool) → Ends p call.Read (act_on what (if b then act.Give at len else act.Take len) ∷ act_on who (act.Gain out fd) ∷ [])
read_ends who what at len out fd p true = (refl, (refl, tt))
read_ends who what at len out fd p false = (refl, (refl, tt))

write_ends : (who what at len out fd : ℕ) (bytes : List ℕ) (p : Process) (b : Bool)
    → Ends p call.Write (act_on who (act.Show fd len) ∷ act_on what (if b then act.Put out at bytes else act.Push out bytes) ∷ [])
write_ends who what at len out fd bytes p true = (refl, (refl, tt))
write_ends who what at len out fd bytes p false = (refl, (refl, tt))

-- steps of one list and then one more, of which only that one is last
tail_ends : (p : Process) (name : CallName) (n : ℕ) (ds : List Descriptor) (step : Descriptor → Step) (last : Step) (size : ℕ) → size ≡ n + length ds + 1
    → ((d : Descriptor) → is_last_act p name (step d).1 ≡ false) → is_last_act p name last.1 ≡ true
    → AllFrom (λ k s. is_last_act p name s.1 ≡ (suc k == size)) n (map step ds ++ last ∷ [])
tail_ends p name n ds step last size is before end =
    all-append (λ k s. is_last_act p name s.1 ≡ (suc k == size)) n (map step ds) (last ∷ [])
    (all-map (λ k s. is_last_act p name s.1 ≡ (suc k == size)) step n ds
    (all_bounded (λ k d. is_last_act p name (step d).1 ≡ (suc k == size)) (n + length ds) n ds (omega arith) (λ k d short. before d ∙ sym (apart (suc k) size (omega (arith, short, is))))))
    (end ∙ sym (alike (suc (length (map step ds) + n)) size (let m = length-map ds step in omega (arith, m, is))), tt)

ends_of : (who : ℕ) (p : Process) (made : Made) (r : Request) → Ends p (name_of r) (steps_of who p made r)
ends_of who p made requests.Start = (refl, tt)
ends_of who p made (requests.Creat fd name) = (refl, (refl, tt))
ends_of who p made (requests.OpenName fd name m) = (refl, (refl, tt))
ends_of who p made (requests.CloseFd fd) = close_ends who p fd (is_pipe (descriptor_at p fd)) refl
ends_of who p made (requests.Read fd len) = read_ends who (descriptor_at p fd).pnode (descriptor_at p fd).offset len (place_at made 0) fd p (is_file (descriptor_at p fd))
ends_of who p made (requests.Write fd bytes) = write_ends who (descriptor_at p fd).pnode (descriptor_at p fd).offset (length bytes) (place_at made 0) fd bytes p (is_file (descriptor_at p fd))
ends_of who p made (requests.Seek fd at) = (refl, tt)
ends_of who p made (requests.Truncate fd size) = (refl, (refl, tt))
ends_of who p made (requests.MakePipe reader writer) = (refl, (refl, tt))
ends_of who p made requests.Fork =
    let join : Descriptor → Step = λ d. act_on d.pnode (act.Join (end_of d.mode)) in
    let born : Step = act_on (pnode_at made 0) (act.Born (place_at made 1) p.descriptors) in
    let size : length (steps_of who p made requests.Fork) ≡ 2 + length (pipe_descriptors p) + 1 =
    let a = length-append (map join (pipe_descriptors p)) (born ∷ []) in let b = length-map (pipe_descriptors p) join in omega (arith, a, b) in (
      sym (apart 1 (length (steps_of who p made requests.Fork)) (omega (arith, size))),
      (
        sym (apart 2 (length (steps_of who p made requests.Fork)) (omega (arith, size))),
        tail_ends p call.Fork 2 (pipe_descriptors p) join born (length (steps_of who p made requests.Fork)) size (λ d. refl) refl,
      ),
    )
ends_of who p made (requests.Exec name args) = (refl, (refl, (refl, tt)))
ends_of who p made (requests.WaitChild child) = (refl, (refl, tt))
ends_of who p made (requests.Await child) = (refl, (refl, tt))
ends_of who p made requests.Exit =
    let leave : Descriptor → Step = λ d. act_on d.pnode (act.Leave (end_of d.mode)) in
    let finish : Step = act_on who act.Finish in
    let size : length (steps_of who p made requests.Exit) ≡ 0 + length (pipe_descriptors p) + 1 =
    let a = length-append (map leave (pipe_descriptors p)) (finish ∷ []) in let b = length-map (pipe_descriptors p) leave in omega (arith, a, b) in
    tail_ends p call.Exit 0 (pipe_descriptors p) leave finish (length (steps_of who p made requests.Exit)) size (λ d. refl) refl
ends_of who p made (requests.Rename from to) = (refl, tt)
ends_of who p made (requests.Unlink name) = (refl, tt)
ends_of who p made (requests.MakeObj fd) = (refl, (refl, tt))
ends_of who p made (requests.Revive fd pnode) = (refl, (refl, tt))
ends_of who p made (requests.FreezeObj fd) = (refl, tt)
ends_of who p made (requests.Disclose target source) = (refl, (refl, tt))
ends_of who p made (requests.TagObj fd attr value) = (refl, tt)
ends_of who p made (requests.Sync fd) = (refl, (refl, tt))

-- a refused call has the one step, which is its last
denied_ends : (who : ℕ) (p : Process) (a : Ask) (r : Request) → refused_ask p r ≡ Some a → is_last_act p (name_of r) (act.Deny a) ≡ true
denied_ends who p a requests.Start e = absurd (cc)
denied_ends who p a requests.Fork e = absurd (cc)
denied_ends who p a (requests.Exec name args) e = absurd (cc)
denied_ends who p a requests.Exit e = absurd (cc)
denied_ends who p a (requests.Rename from to) e = absurd (cc)
denied_ends who p a (requests.Unlink name) e = absurd (cc)
denied_ends who p a _ e = refl

ends_at : (who : ℕ) (p : Process) (made : Made) (r : Request) (o : Option Ask) → refused_ask p r ≡ o → Ends p (name_of r) (option_map_or (λ a. act_on who (act.Deny a) ∷ []) o (steps_of who p made r))
ends_at who p made r None e = ends_of who p made r
ends_at who p made r (Some a) e = (denied_ends who p a r e, tt)

pub step_end_law : StepEndLaw
step_end_law who p made r k s at = all_at (λ k s. is_last_act p (name_of r) s.1 ≡ (suc k == length (call_steps who p made r))) (call_steps who p made r) (ends_at who p made r (refused_ask p r) refl) k s at

pub end_law : EndLaw
end_law session history e next =
    let p = before_call history e.who e.number in
    let made = call_entries history e.who e.number in
    let steps = call_steps e.who p made next.step.request in
    ap (λ b. is_fault e.reply || b)
    (ap (λ name. is_last_act p name e.act) (sym next.step.named)
    ∙ step_end_law e.who p made next.step.request (length made) (e.what, e.act) (step_next e.who p made steps (e.what, e.act) next.step.steps)
    ∙ ap (λ n. n == length steps) (let z : suc (length made) ≡ length made + 1 = omega arith in z))
