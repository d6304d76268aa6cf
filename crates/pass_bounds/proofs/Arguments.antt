-- What the limits of a call's arguments say of the texts and bytes of its acts.
use Rattle.std.proofs.Common.{◌≡◌, ◌+◌, ◌≤◌, ℕ, suc, Bool, true, false, ◌&&◌, List, [], ◌∷◌, ◌++◌, length, map}
use Rattle.std.specs.Prelude.{Option, Some, None, nat_le, if◌then◌else◌}
use Rattle.std.specs.Option.{option_map_or}
use Rattle.pass_entry.specs.Texts.{is_line, is_name}
use Rattle.pass_entry.specs.declared.entry.Act.{Act}
use Rattle.pass_entry.specs.declared.entry.Act.TheVariants as act
use Rattle.pass_entry.specs.declared.entry.Ask.{Ask}
use Rattle.pass_entry.specs.declared.entry.Entry.{Entry}
use Rattle.pass_entry.specs.declared.objects.Descriptor.{Descriptor}
use Rattle.pass_plain.specs.declared.request.Request.{Request}
use Rattle.pass_plain.specs.declared.request.Request.TheVariants as requests
use Rattle.pass_plain.specs.Sessions.{Session}
use Rattle.pass_plain.specs.Processes.{Process, is_file, is_pipe}
use Rattle.pass_plain.specs.Calls.{Made, Step, act_on, is_fd, is_within, call_steps, steps_of, refused_ask, descriptor_at, end_of, pipe_descriptors, place_at, pnode_at}
use Rattle.pass_plain.specs.Legal.{MayFollow, before_call}
use Rattle.pass_plain.specs.Histories.{call_entries}
use Rattle.pass_plain.proofs.Lists.{true_left, true_right, at_most, AllFrom, all_at, all-append, all-map}
use Rattle.pass_plain.proofs.Calling.{step_next}

-- the texts of an act that its records have are within their limits, and a write has at most 4,096 bytes
abbrev pub HasTexts : Act → Type 0
HasTexts (act.Bind name) = is_name name ≡ true
HasTexts (act.Move from to) = is_name to ≡ true
HasTexts (act.Exec out name args) = (is_name name ≡ true) × (is_line args ≡ true)
HasTexts (act.Tag attr value) = (is_name attr ≡ true) × (is_name value ≡ true)
HasTexts (act.Put out at bytes) = length bytes ≤ 4096
HasTexts _ = Unit {0}

abbrev HasStep : ℕ → Step → Type 0
HasStep k s = HasTexts s.1

every : {X : Type 0} (P : ℕ → X → Type 0) → ((k : ℕ) (x : X) → P k x) → (n : ℕ) (xs : List X) → AllFrom P n xs
every P each n [] = tt
every P each n (x ∷ xs) = (each n x, every P each (suc n) xs)

close_texts : (who : ℕ) (fd : ℕ) (d : Descriptor) (b : Bool) → AllFrom HasStep 0 (act_on who (act.Detach fd) ∷ (if b then act_on d.pnode (act.Leave (end_of d.mode)) ∷ [] else []))
close_texts who fd d true = (tt, (tt, tt))
close_texts who fd d false = (tt, tt)

read_texts : (who out fd at len n : ℕ) (b : Bool) → AllFrom HasStep 0 (act_on n (if b then act.Give at len else act.Take len) ∷ act_on who (act.Gain out fd) ∷ [])
read_texts who out fd at len n true = (tt, (tt, tt))
read_texts who out fd at len n false = (tt, (tt, tt))

write_texts : (who out fd at len n : ℕ) (bytes : List ℕ) → length bytes ≤ 4096 → (b : Bool) → AllFrom HasStep 0 (act_on who (act.Show fd len) ∷ act_on n (if b then act.Put out at bytes else act.Push out bytes) ∷ [])
write_texts who out fd at len n bytes short true = (tt, (short, tt))
write_texts who out fd at len n bytes short false = (tt, (tt, tt))

-- what holds of the steps for each pipe descriptor, and of the last step
pub pipe_steps : (P : ℕ → Step → Type 0) (step : Descriptor → Step) → ((k : ℕ) (d : Descriptor) → P k (step d)) → (n : ℕ) (held : List Descriptor) (last : Step) → ((k : ℕ) → P k last)
    → AllFrom P n (map step held ++ last ∷ [])
pipe_steps P step each n held last here = all-append P n (map step held) (last ∷ []) (all-map P step n held (every (λ k d. P k (step d)) each n held)) (here (length (map step held) + n), tt)

steps_texts : (who : ℕ) (p : Process) (made : Made) (r : Request) → is_within r ≡ true → AllFrom HasStep 0 (steps_of who p made r)
steps_texts who p made requests.Start within = (tt, tt)
steps_texts who p made (requests.Creat fd name) within = (true_right (is_fd fd) (is_name name) within, (tt, tt))
steps_texts who p made (requests.OpenName fd name m) within = (tt, (tt, tt))
steps_texts who p made (requests.CloseFd fd) within = close_texts who fd (descriptor_at p fd) (is_pipe (descriptor_at p fd))
steps_texts who p made (requests.Read fd len) within = read_texts who (place_at made 0) fd (descriptor_at p fd).offset len (descriptor_at p fd).pnode (is_file (descriptor_at p fd))
steps_texts who p made (requests.Write fd bytes) within =
    write_texts who (place_at made 0) fd (descriptor_at p fd).offset (length bytes) (descriptor_at p fd).pnode bytes (at_most (length bytes) 4096 (true_right (is_fd fd) (nat_le (length bytes) 4096) within)) (is_file (descriptor_at p fd))
steps_texts who p made (requests.Seek fd at) within = (tt, tt)
steps_texts who p made (requests.Truncate fd size) within = (tt, (tt, tt))
steps_texts who p made (requests.MakePipe reader writer) within = (tt, (tt, tt))
steps_texts who p made requests.Fork within =
    (tt, (tt, pipe_steps HasStep (λ d. act_on d.pnode (act.Join (end_of d.mode))) (λ k d. tt) 2 (pipe_descriptors p) (act_on (pnode_at made 0) (act.Born (place_at made 1) p.descriptors)) (λ k. tt)))
steps_texts who p made (requests.Exec name args) within = (tt, (tt, ((true_left (is_name name) (is_line args) within, true_right (is_name name) (is_line args) within), tt)))
steps_texts who p made (requests.WaitChild child) within = (tt, (tt, tt))
steps_texts who p made (requests.Await child) within = (tt, (tt, tt))
steps_texts who p made requests.Exit within = pipe_steps HasStep (λ d. act_on d.pnode (act.Leave (end_of d.mode))) (λ k d. tt) 0 (pipe_descriptors p) (act_on who act.Finish) (λ k. tt)
steps_texts who p made (requests.Rename from to) within = (true_right (is_name from) (is_name to) within, tt)
steps_texts who p made (requests.Unlink name) within = (tt, tt)
steps_texts who p made (requests.MakeObj fd) within = (tt, (tt, tt))
steps_texts who p made (requests.Revive fd pnode) within = (tt, (tt, tt))
steps_texts who p made (requests.FreezeObj fd) within = (tt, tt)
steps_texts who p made (requests.Disclose target source) within = (tt, (tt, tt))
steps_texts who p made (requests.TagObj fd attr value) within =
    ((true_right (is_fd fd) (is_name attr) (true_left (is_fd fd && is_name attr) (is_name value) within), true_right (is_fd fd && is_name attr) (is_name value) within), tt)
steps_texts who p made (requests.Sync fd) within = (tt, (tt, tt))

call_texts : (who : ℕ) (p : Process) (made : Made) (r : Request) → is_within r ≡ true → (o : Option Ask) → AllFrom HasStep 0 (option_map_or (λ a. act_on who (act.Deny a) ∷ []) o (steps_of who p made r))
call_texts who p made r within None = steps_texts who p made r within
call_texts who p made r within (Some a) = (tt, tt)

-- the act of an entry that may come next has its texts
pub texts : (session : Session) (history : List Entry) (e : Entry) → MayFollow session history e → HasTexts e.act
texts session history e next =
    let p = before_call history e.who e.number in
    let made = call_entries history e.who e.number in
    let r = next.step.request in
    all_at HasStep (call_steps e.who p made r) (call_texts e.who p made r next.step.within (refused_ask p r)) (length made) (e.what, e.act)
    (step_next e.who p made (call_steps e.who p made r) (e.what, e.act) next.step.steps)
