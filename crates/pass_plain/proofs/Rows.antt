-- What each step of a call rests on: the table of steps, read by the act.
use Rattle.std.proofs.Common.{◌≡◌, ◌<◌, ◌≤◌, ◌+◌, ℕ, suc, List, [], ◌∷◌, ◌++◌, length, map, refl, ap, sym, ◌∙◌, subst, arith, ◌⊎◌, inl, inr, Bool, true, false, ◌||◌, ◌&&◌, not, cond}
use Rattle.std.specs.Prelude.{Option, Some, None, slice_get, filter, filter_map, is_some, nat_lt, if◌then◌else◌}
use Rattle.std.specs.Option.{option_map_or}
use Rattle.std.specs.List.{range_with_len, cons_option}
use Rattle.std.proofs.lemmas.List.{length-append}
use Rattle.std.specs.FinMap as finite_map
use Rattle.std.specs.FinSet as finite_set
use Rattle.pass_entry.specs.declared.entry.Act.{Act}
use Rattle.pass_entry.specs.declared.entry.Act.TheVariants as act
use Rattle.pass_entry.specs.declared.entry.Ask.{Ask}
use Rattle.pass_entry.specs.declared.entry.Ask.TheVariants as ask
use Rattle.pass_entry.specs.declared.entry.CallFault.{CallFault}
use Rattle.pass_entry.specs.declared.entry.CallFault.TheVariants as fault
use Rattle.pass_entry.specs.declared.objects.Kind.TheVariants as kind
use Rattle.pass_entry.specs.declared.objects.Mode.TheVariants as mode
use Rattle.pass_entry.specs.declared.objects.Descriptor.{Descriptor}
use Rattle.pass_entry.specs.Limits.{transfer_limit}
use Rattle.pass_plain.specs.Processes.{Process, refusal, is_held, is_file, is_pipe, is_app, same_mode, file_limit, at_held, faults_if}
use Rattle.pass_plain.specs.Calls.{ask_of, act_on, is_within, Made, Step, call_steps, steps_of, refused_ask, is_fd, descriptor_at, no_descriptor, end_of, pipe_descriptors, place_at, pnode_at}
use Rattle.pass_plain.specs.declared.request.Request.{Request}
use Rattle.pass_plain.specs.declared.request.Request.TheVariants as requests
use Rattle.pass_plain.proofs.Lists.{some_is, true_left, true_right, not_false, or_false, below_is, not_below, at_most, AllFrom, all_at, all-append, all-map, all-more}

-- the process holds the descriptor
abbrev pub Holds : Process → ℕ → Type 0
Holds p fd = finite_map.get p.descriptors fd ≡ Some (descriptor_at p fd)

-- what the first step of an opening call says of its descriptor
abbrev pub Opens : Made → Descriptor → Act → Type 0
Opens made d (act.Bind name) = (d.kind ≡ kind.File) × (d.pnode ≡ pnode_at made 0)
Opens made d (act.Find name) = (d.kind ≡ kind.File) × (d.pnode ≡ pnode_at made 0)
Opens made d (act.Mint k) = (d.kind ≡ kind.App) × (k ≡ kind.App) × (d.pnode ≡ pnode_at made 0)
Opens made d (act.Known n) = (d.kind ≡ kind.App) × (d.pnode ≡ n)
Opens made d _ = ⊥

-- what the step `k` of a call, an act on `what`, rests on. `steps` are all steps of the call, `p` is the state of the caller before it
abbrev pub Row : ℕ → Process → Made → List Step → ℕ → ℕ → Act → Type 0
Row who p made steps k what (act.Bind name) = what ≡ 0
Row who p made steps k what (act.Find name) = what ≡ 0
Row who p made steps k what (act.Move from to) = what ≡ 0
Row who p made steps k what (act.Unbind name) = what ≡ 0
Row who p made steps k what (act.Mint kd) = what ≡ 0
Row who p made steps k what (act.Known n) = what ≡ 0
Row who p made steps k what (act.Deny a) = (what ≡ who) × (k ≡ 0) × (f : CallFault) × (refusal p a ≡ Some f)
Row who p made steps k what (act.Attach fd d) =
    (what ≡ who) × (k ≡ 1) × (fd < 64) × (d.offset ≡ 0) × (s : Step) × (slice_get steps 0 ≡ Some s) × Opens made d s.1
Row who p made steps k what (act.AttachPipe reader writer n) =
    (what ≡ who) × (k ≡ 1) × (reader < 64) × (writer < 64) × (n ≡ pnode_at made 0) × (slice_get steps 0 ≡ Some (act_on 0 (act.Mint kind.Pipe)))
Row who p made steps k what (act.Detach fd) = (what ≡ who) × (k ≡ 0) × (fd < 64) × Holds p fd
Row who p made steps k what (act.Seek fd at) =
    (what ≡ who) × (k ≡ 0) × (fd < 64) × Holds p fd × (is_file (descriptor_at p fd) ≡ true) × (at ≤ file_limit)
Row who p made steps k what (act.Show fd len) =
    (what ≡ who) × (k ≡ 0) × (fd < 64) × Holds p fd × ((len ≡ 0) ⊎ (is_file (descriptor_at p fd) ≡ true → (descriptor_at p fd).offset + len ≤ file_limit))
Row who p made steps k what (act.Spawn child) =
    (what ≡ who) × (k ≡ 1) × (child ≡ pnode_at made 0) × (slice_get steps 0 ≡ Some (act_on 0 (act.Mint kind.Process)))
Row who p made steps k what (act.Born out descriptors) =
    (what ≡ pnode_at made 0) × (1 < k) × (suc k ≡ length steps) × (out ≡ place_at made 1) × (descriptors ≡ p.descriptors)
    × (slice_get steps 0 ≡ Some (act_on 0 (act.Mint kind.Process))) × (slice_get steps 1 ≡ Some (act_on who (act.Spawn (pnode_at made 0))))
Row who p made steps k what (act.Gain out fd) =
    (what ≡ who) × (k ≡ 1) × (fd < 64) × (out ≡ place_at made 0) × Holds p fd × (len : ℕ)
    × (slice_get steps 0 ≡ Some (act_on (descriptor_at p fd).pnode (if is_file (descriptor_at p fd) then act.Give (descriptor_at p fd).offset len else act.Take len)))
Row who p made steps k what (act.Exec out name args) =
    (what ≡ who) × (k ≡ 2) × (out ≡ place_at made 1) × (slice_get steps 1 ≡ Some (act_on (pnode_at made 0) act.Load))
Row who p made steps k what act.Reap = (k ≡ 0) × (finite_set.contains p.children what ≡ true)
Row who p made steps k what (act.Gather out child) =
    (what ≡ who) × (k ≡ 1) × (out ≡ place_at made 0) × (slice_get steps 0 ≡ Some (act_on child act.Reap))
Row who p made steps k what act.Ended = (k ≡ 0) × (finite_set.contains p.children what ≡ true)
Row who p made steps k what (act.Release child) = (what ≡ who) × (k ≡ 1) × (slice_get steps 0 ≡ Some (act_on child act.Ended))
Row who p made steps k what act.Finish = (what ≡ who) × (suc k ≡ length steps)
Row who p made steps k what (act.Kept fd) = what ≡ who
Row who p made steps k what (act.Give at len) =
    (k ≡ 0) × (len ≤ transfer_limit) × (fd : ℕ) × Holds p fd × (what ≡ (descriptor_at p fd).pnode) × (is_file (descriptor_at p fd) ≡ true) × (at ≡ (descriptor_at p fd).offset)
Row who p made steps k what (act.Put out at bytes) =
    (k ≡ 1) × (out ≡ place_at made 0) × (at + length bytes ≤ file_limit) × (fd : ℕ) × Holds p fd × (what ≡ (descriptor_at p fd).pnode)
    × (is_file (descriptor_at p fd) ≡ true) × (slice_get steps 0 ≡ Some (act_on who (act.Show fd (length bytes))))
Row who p made steps k what (act.Cut out size) =
    (k ≡ 1) × (out ≡ place_at made 0) × (size ≤ file_limit) × (fd : ℕ) × Holds p fd × (what ≡ (descriptor_at p fd).pnode)
    × (is_file (descriptor_at p fd) ≡ true) × (slice_get steps 0 ≡ Some (act_on who (act.Show fd 0)))
Row who p made steps k what act.Load = (k ≡ 1) × (what ≡ pnode_at made 0) × (name : List ℕ) × (slice_get steps 0 ≡ Some (act_on 0 (act.Find name)))
Row who p made steps k what (act.Take len) =
    (k ≡ 0) × (len ≤ transfer_limit) × (fd : ℕ) × Holds p fd × (what ≡ (descriptor_at p fd).pnode) × (is_file (descriptor_at p fd) ≡ false) × (is_app (descriptor_at p fd) ≡ false)
Row who p made steps k what (act.Push out bytes) =
    (k ≡ 1) × (out ≡ place_at made 0) × (fd : ℕ) × Holds p fd × (what ≡ (descriptor_at p fd).pnode)
    × (is_file (descriptor_at p fd) ≡ false) × (is_app (descriptor_at p fd) ≡ false) × (slice_get steps 0 ≡ Some (act_on who (act.Show fd (length bytes))))
Row who p made steps k what (act.Join e) =
    (d : Descriptor) × (fd : ℕ) × (finite_map.get p.descriptors fd ≡ Some d) × (what ≡ d.pnode) × (is_pipe d ≡ true) × (e ≡ end_of d.mode)
Row who p made steps k what (act.Leave e) =
    (d : Descriptor) × (fd : ℕ) × (finite_map.get p.descriptors fd ≡ Some d) × (what ≡ d.pnode) × (is_pipe d ≡ true) × (e ≡ end_of d.mode)
Row who p made steps k what act.Freeze = (k ≡ 0) × (fd : ℕ) × Holds p fd × (what ≡ (descriptor_at p fd).pnode)
Row who p made steps k what act.Cite = (k ≡ 0) × (fd : ℕ) × Holds p fd × (what ≡ (descriptor_at p fd).pnode)
Row who p made steps k what (act.Told out) =
    (k ≡ 1) × (out ≡ place_at made 0) × (fd : ℕ) × Holds p fd × (what ≡ (descriptor_at p fd).pnode) × (source : ℕ) × (slice_get steps 0 ≡ Some (act_on source act.Cite))
Row who p made steps k what (act.Tag attr value) = (k ≡ 0) × (fd : ℕ) × Holds p fd × (what ≡ (descriptor_at p fd).pnode)
Row who p made steps k what act.Keep = (k ≡ 0) × (fd : ℕ) × Holds p fd × (what ≡ (descriptor_at p fd).pnode)

abbrev pub IsRow : ℕ → Process → Made → List Step → ℕ → Step → Type 0
IsRow who p made steps k s = Row who p made steps k s.0 s.1

-- from the answers of the refusals

if_fault : (b : Bool) (f : CallFault) (next : Option CallFault) → faults_if b f next ≡ None → (b ≡ false) × (next ≡ None)
if_fault true f next h = absurd (cc)
if_fault false f next h = (refl, h)

holds_of : (p : Process) (fd : ℕ) (o : Option Descriptor) → finite_map.get p.descriptors fd ≡ o → is_some o ≡ true → Holds p fd
holds_of p fd None e h = absurd (cc)
holds_of p fd (Some d) e h = e ∙ ap (λ d. Some d) (sym (ap (λ o. option_map_or (λ d. d) o no_descriptor) e))

pub holds : (p : Process) (fd : ℕ) → is_held p fd ≡ true → Holds p fd
holds p fd h = holds_of p fd (finite_map.get p.descriptors fd) refl h

judged_of : (p : Process) (fd : ℕ) (judge : Descriptor → Option CallFault) (o : Option Descriptor) → finite_map.get p.descriptors fd ≡ o
    → option_map_or judge o (Some fault.BadFd) ≡ None → Holds p fd × (judge (descriptor_at p fd) ≡ None)
judged_of p fd judge None e h = absurd (cc)
judged_of p fd judge (Some d) e h =
    (holds_of p fd (Some d) e refl, ap judge (ap (λ o. option_map_or (λ d. d) o no_descriptor) e) ∙ h)

judged : (p : Process) (fd : ℕ) (judge : Descriptor → Option CallFault) → at_held p fd judge ≡ None → Holds p fd × (judge (descriptor_at p fd) ≡ None)
judged p fd judge h = judged_of p fd judge (finite_map.get p.descriptors fd) refl h

pub not_refused : (o : Option CallFault) (a : Ask) → option_map_or (λ f. Some a) o None ≡ None → o ≡ None
not_refused None a h = refl
not_refused (Some f) a h = absurd (cc)

held_allowed : (p : Process) (fd : ℕ) → refused_ask p (requests.FreezeObj fd) ≡ None → Holds p fd
held_allowed p fd h = holds p fd (not_false (is_held p fd) (if_fault _ _ _ (not_refused (refusal p (ask.Held fd)) (ask.Held fd) h)).0)

two_allowed : (p : Process) (a b : ℕ) → refused_ask p (requests.Disclose a b) ≡ None → Holds p a × Holds p b
two_allowed p a b h =
    let both = not_false (is_held p a && is_held p b) (if_fault _ _ _ (not_refused (refusal p (ask.HeldTwo a b)) (ask.HeldTwo a b) h)).0 in
    (holds p a (true_left _ _ both), holds p b (true_right (is_held p a) _ both))

read_allowed : (p : Process) (fd len : ℕ) → refused_ask p (requests.Read fd len) ≡ None → Holds p fd × (is_app (descriptor_at p fd) ≡ false)
read_allowed p fd len h =
    let (held, fine) = judged p fd (λ d. faults_if (is_app d || same_mode d.mode mode.Write) fault.BadMode None) (not_refused (refusal p (ask.ToRead fd)) (ask.ToRead fd) h) in
    (held, (or_false _ _ (if_fault _ _ _ fine).0).0)

below_of : (b : Bool) (n m : ℕ) → b && nat_lt n m ≡ false → b ≡ true → m ≤ n
below_of true n m h e = not_below n m h
below_of false n m h e = absurd (cc)

write_allowed : (p : Process) (fd : ℕ) (bytes : List ℕ) → refused_ask p (requests.Write fd bytes) ≡ None
    → Holds p fd × (is_app (descriptor_at p fd) ≡ false) × (is_file (descriptor_at p fd) ≡ true → (descriptor_at p fd).offset + length bytes ≤ file_limit)
write_allowed p fd bytes h =
    let (held, fine) = judged p fd (λ d.
    faults_if (is_app d || same_mode d.mode mode.Read) fault.BadMode
    (faults_if (is_file d && nat_lt file_limit (d.offset + length bytes)) fault.TooBig None))
    (not_refused (refusal p (ask.ToWrite fd (length bytes))) (ask.ToWrite fd (length bytes)) h) in
    let (first, second) = if_fault _ _ _ fine in
    (held, (or_false _ _ first).0, λ f. below_of (is_file (descriptor_at p fd)) file_limit ((descriptor_at p fd).offset + length bytes) (if_fault _ _ _ second).0 f)

cut_allowed : (p : Process) (fd size : ℕ) → refused_ask p (requests.Truncate fd size) ≡ None
    → Holds p fd × (is_file (descriptor_at p fd) ≡ true) × (size ≤ file_limit)
cut_allowed p fd size h =
    let (held, fine) = judged p fd (λ d.
    faults_if (not (is_file d) || same_mode d.mode mode.Read) fault.BadMode (faults_if (nat_lt file_limit size) fault.TooBig None))
    (not_refused (refusal p (ask.ToCut fd size)) (ask.ToCut fd size) h) in
    let (first, second) = if_fault _ _ _ fine in
    (held, not_false _ (or_false _ _ first).0, not_below file_limit size (if_fault _ _ _ second).0)

seek_allowed : (p : Process) (fd at : ℕ) → refused_ask p (requests.Seek fd at) ≡ None
    → Holds p fd × (is_file (descriptor_at p fd) ≡ true) × (at ≤ file_limit)
seek_allowed p fd at h =
    let (held, fine) = judged p fd (λ d.
    faults_if (not (is_file d)) fault.BadMode (faults_if (nat_lt file_limit at) fault.TooBig None))
    (not_refused (refusal p (ask.ToSeek fd at)) (ask.ToSeek fd at) h) in
    let (first, second) = if_fault _ _ _ fine in
    (held, not_false _ first, not_below file_limit at (if_fault _ _ _ second).0)

child_allowed : (p : Process) (child : ℕ) → refused_ask p (requests.WaitChild child) ≡ None → finite_set.contains p.children child ≡ true
child_allowed p child h = not_false _ (if_fault _ _ _ (not_refused (refusal p (ask.Child child)) (ask.Child child) h)).0

-- the pipe descriptors of a process
abbrev FromPipes : (ℕ → Option Descriptor) → ℕ → Descriptor → Type 0
FromPipes held k d = (fd : ℕ) × (held fd ≡ Some d) × (is_pipe d ≡ true)

from_test : (held : ℕ → Option Descriptor) (n fd : ℕ) (d : Descriptor) (rest : List Descriptor) → held fd ≡ Some d
    → ((n : ℕ) → AllFrom (FromPipes held) n (filter is_pipe rest)) → (b : Bool) → is_pipe d ≡ b
    → AllFrom (FromPipes held) n (cond b (d ∷ filter is_pipe rest) (filter is_pipe rest))
from_test held n fd d rest e later true pass = ((fd, e, pass), later (suc n))
from_test held n fd d rest e later false pass = later n

from_some : (held : ℕ → Option Descriptor) (n fd : ℕ) (o : Option Descriptor) (rest : List Descriptor) → held fd ≡ o
    → ((n : ℕ) → AllFrom (FromPipes held) n (filter is_pipe rest)) → AllFrom (FromPipes held) n (filter is_pipe (cons_option o rest))
from_some held n fd None rest e later = later n
from_some held n fd (Some d) rest e later = from_test held n fd d rest e later (is_pipe d) refl

from_pipes : (held : ℕ → Option Descriptor) (numbers : List ℕ) (n : ℕ) → AllFrom (FromPipes held) n (filter is_pipe (filter_map held numbers))
from_pipes held [] n = tt
from_pipes held (fd ∷ numbers) n = from_some held n fd (held fd) (filter_map held numbers) refl (λ n. from_pipes held numbers n)

abbrev pub AreRows : ℕ → Process → Made → List Step → Type 0
AreRows who p made steps = AllFrom (IsRow who p made steps) 0 steps

pub fd_of : (fd : ℕ) → is_fd fd ≡ true → fd < 64
fd_of fd h = below_is fd 64 h

close_rows : (who : ℕ) (p : Process) (made : Made) (fd : ℕ) → fd < 64 → Holds p fd → (b : Bool) → is_pipe (descriptor_at p fd) ≡ b
    → AreRows who p made (act_on who (act.Detach fd) ∷ (if b then act_on (descriptor_at p fd).pnode (act.Leave (end_of (descriptor_at p fd).mode)) ∷ [] else []))
close_rows who p made fd within held true pipe = ((refl, refl, within, held), ((descriptor_at p fd, fd, held, refl, pipe, refl), tt))
close_rows who p made fd within held false pipe = ((refl, refl, within, held), tt)

abbrev reading : Process → ℕ → ℕ → Bool → Step
reading p fd len b = act_on (descriptor_at p fd).pnode (if b then act.Give (descriptor_at p fd).offset len else act.Take len)

read_rows : (who : ℕ) (p : Process) (made : Made) (fd len : ℕ) → fd < 64 → len ≤ transfer_limit → Holds p fd → is_app (descriptor_at p fd) ≡ false
    → (b : Bool) → is_file (descriptor_at p fd) ≡ b → AreRows who p made (reading p fd len b ∷ act_on who (act.Gain (place_at made 0) fd) ∷ [])
read_rows who p made fd len within short held object true file =
    ((refl, short, fd, held, refl, file, refl), ((refl, refl, within, refl, held, len, ap (λ b. Some (reading p fd len b)) (sym file)), tt))
read_rows who p made fd len within short held object false file =
    ((refl, short, fd, held, refl, file, object), ((refl, refl, within, refl, held, len, ap (λ b. Some (reading p fd len b)) (sym file)), tt))

write_rows : (who : ℕ) (p : Process) (made : Made) (fd : ℕ) (bytes : List ℕ) → fd < 64 → Holds p fd → is_app (descriptor_at p fd) ≡ false
    → (is_file (descriptor_at p fd) ≡ true → (descriptor_at p fd).offset + length bytes ≤ file_limit) → (b : Bool) → is_file (descriptor_at p fd) ≡ b
    → AreRows who p made (act_on who (act.Show fd (length bytes))
    ∷ act_on (descriptor_at p fd).pnode (if b then act.Put (place_at made 0) (descriptor_at p fd).offset bytes else act.Push (place_at made 0) bytes) ∷ [])
write_rows who p made fd bytes within held object fits true file =
    ((refl, refl, within, held, inr fits), ((refl, refl, fits file, fd, held, refl, file, refl), tt))
write_rows who p made fd bytes within held object fits false file =
    ((refl, refl, within, held, inr fits), ((refl, refl, fd, held, refl, file, object, refl), tt))

-- the steps of a fork before the child is born, and of an exit before its end
fork_rows : (who : ℕ) (p : Process) (made : Made) (joins : List Descriptor) → AllFrom (FromPipes (finite_map.get p.descriptors)) 2 joins
    → AreRows who p made (act_on 0 (act.Mint kind.Process) ∷ act_on who (act.Spawn (pnode_at made 0))
    ∷ (map (λ d. act_on d.pnode (act.Join (end_of d.mode))) joins ++ act_on (pnode_at made 0) (act.Born (place_at made 1) p.descriptors) ∷ []))
fork_rows who p made joins from =
    let join : Descriptor → Step = λ d. act_on d.pnode (act.Join (end_of d.mode)) in
    let born : Step = act_on (pnode_at made 0) (act.Born (place_at made 1) p.descriptors) in
    let steps : List Step = act_on 0 (act.Mint kind.Process) ∷ act_on who (act.Spawn (pnode_at made 0)) ∷ (map join joins ++ born ∷ []) in (
      refl,
      (
        (refl, refl, refl, refl),
        all-append (IsRow who p made steps) 2 (map join joins) (born ∷ [])
            (all-map (IsRow who p made steps) join 2 joins
            (all-more (FromPipes (finite_map.get p.descriptors)) (λ k d. IsRow who p made steps k (join d)) (λ k d f. (d, f.0, f.1, refl, f.2, refl)) 2 joins from))
            ((refl, omega arith, omega (arith, length-append (map join joins) (born ∷ [])), refl, refl, refl, refl), tt),
      ),
    )

exit_rows : (who : ℕ) (p : Process) (made : Made) (leaving : List Descriptor) → AllFrom (FromPipes (finite_map.get p.descriptors)) 0 leaving
    → AreRows who p made (map (λ d. act_on d.pnode (act.Leave (end_of d.mode))) leaving ++ act_on who act.Finish ∷ [])
exit_rows who p made leaving from =
    let leave : Descriptor → Step = λ d. act_on d.pnode (act.Leave (end_of d.mode)) in
    let finish : Step = act_on who act.Finish in
    let steps : List Step = map leave leaving ++ finish ∷ [] in
    all-append (IsRow who p made steps) 0 (map leave leaving) (finish ∷ [])
    (all-map (IsRow who p made steps) leave 0 leaving
    (all-more (FromPipes (finite_map.get p.descriptors)) (λ k d. IsRow who p made steps k (leave d)) (λ k d f. (d, f.0, f.1, refl, f.2, refl)) 0 leaving from))
    ((refl, omega (arith, length-append (map leave leaving) (finish ∷ []))), tt)

rows_of : (who : ℕ) (p : Process) (made : Made) (r : Request) → is_within r ≡ true → refused_ask p r ≡ None → AreRows who p made (steps_of who p made r)
rows_of who p made requests.Start within fine = (refl, tt)
rows_of who p made (requests.Creat fd name) within fine =
    (refl, ((refl, refl, fd_of fd (true_left _ _ within), refl, act_on 0 (act.Bind name), refl, (refl, refl)), tt))
rows_of who p made (requests.OpenName fd name m) within fine =
    (refl, ((refl, refl, fd_of fd (true_left _ _ (true_left _ _ within)), refl, act_on 0 (act.Find name), refl, (refl, refl)), tt))
rows_of who p made (requests.CloseFd fd) within fine = close_rows who p made fd (fd_of fd within) (held_allowed p fd fine) (is_pipe (descriptor_at p fd)) refl
rows_of who p made (requests.Read fd len) within fine =
    let (held, object) = read_allowed p fd len fine in
    read_rows who p made fd len (fd_of fd (true_left _ _ (true_left _ _ within))) (at_most len transfer_limit (true_right _ _ within)) held object (is_file (descriptor_at p fd)) refl
rows_of who p made (requests.Write fd bytes) within fine =
    let (held, object, fits) = write_allowed p fd bytes fine in
    write_rows who p made fd bytes (fd_of fd (true_left _ _ within)) held object fits (is_file (descriptor_at p fd)) refl
rows_of who p made (requests.Seek fd at) within fine =
    let (held, file, fits) = seek_allowed p fd at fine in ((refl, refl, fd_of fd within, held, file, fits), tt)
rows_of who p made (requests.Truncate fd size) within fine =
    let (held, file, fits) = cut_allowed p fd size fine in
    ((refl, refl, fd_of fd within, held, inl refl), ((refl, refl, fits, fd, held, refl, file, refl), tt))
rows_of who p made (requests.MakePipe reader writer) within fine =
    (refl, ((refl, refl, fd_of reader (true_left _ _ within), fd_of writer (true_right _ _ within), refl, refl), tt))
rows_of who p made requests.Fork within fine = fork_rows who p made (pipe_descriptors p) (from_pipes (finite_map.get p.descriptors) (range_with_len 0 64) 2)
rows_of who p made (requests.Exec name args) within fine = (refl, ((refl, refl, name, refl), ((refl, refl, refl, refl), tt)))
rows_of who p made (requests.WaitChild child) within fine = ((refl, child_allowed p child fine), ((refl, refl, refl, refl), tt))
rows_of who p made (requests.Await child) within fine = ((refl, child_allowed p child fine), ((refl, refl, refl), tt))
rows_of who p made requests.Exit within fine = exit_rows who p made (pipe_descriptors p) (from_pipes (finite_map.get p.descriptors) (range_with_len 0 64) 0)
rows_of who p made (requests.Rename from to) within fine = (refl, tt)
rows_of who p made (requests.Unlink name) within fine = (refl, tt)
rows_of who p made (requests.MakeObj fd) within fine = (refl, ((refl, refl, fd_of fd within, refl, act_on 0 (act.Mint kind.App), refl, (refl, refl, refl)), tt))
rows_of who p made (requests.Revive fd pnode) within fine = (refl, ((refl, refl, fd_of fd within, refl, act_on 0 (act.Known pnode), refl, (refl, refl)), tt))
rows_of who p made (requests.FreezeObj fd) within fine = ((refl, fd, held_allowed p fd fine, refl), tt)
rows_of who p made (requests.Disclose target source) within fine =
    let (to, from) = two_allowed p target source fine in
    ((refl, source, from, refl), ((refl, refl, target, to, refl, (descriptor_at p source).pnode, refl), tt))
rows_of who p made (requests.TagObj fd attr value) within fine = ((refl, fd, held_allowed p fd fine, refl), tt)
rows_of who p made (requests.Sync fd) within fine = ((refl, fd, held_allowed p fd fine, refl), (refl, tt))

refused_why : (p : Process) (b a : Ask) (o : Option CallFault) → refusal p b ≡ o → option_map_or (λ f. Some b) o None ≡ Some a → (f : CallFault) × (refusal p a ≡ Some f)
refused_why p b a None t e = absurd (cc)
refused_why p b a (Some f) t e = (f, ap (refusal p) (sym (some_is b a e)) ∙ t)

refused_by : (p : Process) (r : Request) (a : Ask) (o : Option Ask) → option_map_or (λ b. option_map_or (λ f. Some b) (refusal p b) None) o None ≡ Some a → (f : CallFault) × (refusal p a ≡ Some f)
refused_by p r a None e = absurd (cc)
refused_by p r a (Some b) e = refused_why p b a (refusal p b) refl e

rows_at : (who : ℕ) (p : Process) (made : Made) (r : Request) → is_within r ≡ true → (o : Option Ask) → refused_ask p r ≡ o → AreRows who p made (call_steps who p made r)
rows_at who p made r within None e = subst (λ steps. AreRows who p made steps) (ap (λ o. option_map_or (λ a. act_on who (act.Deny a) ∷ []) o (steps_of who p made r)) (sym e)) (rows_of who p made r within e)
rows_at who p made r within (Some a) e = subst (λ steps. AreRows who p made steps) (ap (λ o. option_map_or (λ a. act_on who (act.Deny a) ∷ []) o (steps_of who p made r)) (sym e)) (let (f, why) = refused_by p r a (ask_of r) e in ((refl, refl, f, why), tt))

-- each step of a call rests on what the table says of its act
pub row_of_step : (who : ℕ) (p : Process) (made : Made) (r : Request) → is_within r ≡ true → (k : ℕ) (s : Step) → slice_get (call_steps who p made r) k ≡ Some s
    → Row who p made (call_steps who p made r) k s.0 s.1
row_of_step who p made r within k s at = all_at (IsRow who p made (call_steps who p made r)) (call_steps who p made r) (rows_at who p made r within (refused_ask p r) refl) k s at
