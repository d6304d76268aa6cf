-- How many bytes, ends and steps there are.
use Rattle.std.proofs.Common.{◌≡◌, ◌≤◌, ◌+◌, ◌-◌, ℕ, List, [], ◌∷◌, ◌++◌, length, take, map, refl, ap, sym, ◌∙◌, subst, arith, Bool, true, false, ◌||◌, ◌&&◌, not, ◌==◌, cond, length-append}
use Rattle.std.specs.Prelude.{Option, Some, None, slice_get, drop, filter, filter_map, nat_lt, nat_le, if◌then◌else◌}
use Rattle.std.specs.Option.{option_map_or}
use Rattle.std.specs.List.{range_with_len}
use Rattle.std.specs.FinMap as finite_map
use Rattle.std.proofs.lemmas.List.{length-take, length-drop, length-map}
use Rattle.std.proofs.lemmas.Bool.Decides.{nat_tests}
use Rattle.pass_entry.specs.declared.entry.Entry.{Entry}
use Rattle.pass_entry.specs.declared.entry.Act.{Act}
use Rattle.pass_entry.specs.declared.entry.Act.TheVariants as act
use Rattle.pass_entry.specs.declared.entry.Ask.{Ask}
use Rattle.pass_entry.specs.declared.entry.Reply.{Reply}
use Rattle.pass_entry.specs.declared.entry.Reply.TheVariants as answer
use Rattle.pass_entry.specs.declared.entry.CallFault.TheVariants as fault
use Rattle.pass_entry.specs.declared.entry.CallFault.{CallFault}
use Rattle.pass_entry.specs.declared.entry.CallName.{CallName}
use Rattle.pass_entry.specs.declared.entry.CallName.TheVariants as call
use Rattle.pass_entry.specs.declared.objects.Kind.{Kind}
use Rattle.pass_entry.specs.declared.objects.Kind.TheVariants as kind
use Rattle.pass_entry.specs.declared.objects.End.TheVariants as end
use Rattle.pass_entry.specs.declared.objects.Descriptor.{Descriptor}
use Rattle.pass_entry.specs.Limits.{transfer_limit}
use Rattle.pass_entry.proofs.Places.{mapped_fewer}
use Rattle.pass_plain.specs.Histories.{is_fault, own_step, call_entries, bytes_of, bytes_at}
use Rattle.pass_plain.specs.Sessions.{Session}
use Rattle.pass_plain.specs.Registries.{Registry, registry_after, is_full, next_pnode}
use Rattle.pass_plain.specs.Files.{file_after}
use Rattle.pass_plain.specs.Pipes.{Pipe, pipe_after, pipe_act, new_pipe}
use Rattle.pass_plain.specs.Processes.{Process, process_after, has_ended, process_act, is_pipe, refusal}
use Rattle.pass_plain.specs.Replies.{reply_to, pushed, pipe_capacity, minted, found, done_if, is_app_object}
use Rattle.pass_plain.specs.Calls.{Made, Step, act_on, name_of, steps_of, refused_ask, pipe_descriptors, descriptor_at, end_of, place_at, pnode_at}
use Rattle.pass_plain.specs.declared.request.Request.{Request}
use Rattle.pass_plain.specs.declared.request.Request.TheVariants as requests
use Rattle.pass_plain.specs.Legal.{IsLegal, MayFollow, before_call}
use Rattle.pass_plain.specs.Lawful.{PipeLaw, ReadLaw, StepCountLaw, FirstLaw, most_steps}
use Rattle.pass_plain.proofs.Lists.{some_is}
use Rattle.pass_plain.proofs.Appends.{legal-push}
use Rattle.pass_plain.proofs.Replays.{state_after-append}
use Rattle.pass_plain.proofs.Rows.{Row}
use Rattle.pass_plain.proofs.Calling.{legal_induction, legal_take, row, steps_by}
use Rattle.pass_plain.proofs.TwoPrefixes.{process-append}

-- pipes

abbrev Fits : Pipe → ℕ → Type 0
Fits pipe n = (length pipe.bytes ≤ pipe_capacity) × (pipe.readers ≤ n) × (pipe.writers ≤ n)

room_if : (b c : Bool) (pipe : Pipe) (len : ℕ) (y : Reply) → nat_lt (pipe_capacity - length pipe.bytes) len ≡ c
    → cond b (Some (answer.Fault fault.BrokenPipe)) (cond c None (Some answer.Done)) ≡ Some y → is_fault y ≡ false → len ≤ pipe_capacity - length pipe.bytes
room_if true c pipe len y t e done = absurd (let z : true ≡ false = ap is_fault (some_is _ _ e) ∙ done in cc)
room_if false true pipe len y t e done = absurd (cc)
room_if false false pipe len y t e done = not_less (pipe_capacity - length pipe.bytes) len t
  where
    not_less : (a b : ℕ) → nat_lt a b ≡ false → b ≤ a
    not_less a b h = grind (arith, nat_tests)

room : (pipe : Pipe) (len : ℕ) (y : Reply) → pushed pipe len ≡ Some y → is_fault y ≡ false → len ≤ pipe_capacity - length pipe.bytes
room pipe len y e done = room_if (pipe.readers == 0) (nat_lt (pipe_capacity - length pipe.bytes) len) pipe len y refl e done

pipe_fits : (session : Session) (history : List Entry) (what : ℕ) (a : Act) (y : Reply) (n : ℕ) → reply_to session history what a ≡ Some y → is_fault y ≡ false
    → Fits (pipe_after history what) n → Fits (pipe_act (pipe_after history what) a) (n + 1)
pipe_fits session history what (act.Take len) y n e done f =
    (let d = length-drop len (pipe_after history what).bytes in let z = f.0 in omega (arith, d, z), let z = f.1 in omega (arith, z), let z = f.2 in omega (arith, z))
pipe_fits session history what (act.Push out bytes) y n e done f =
    let r = room (pipe_after history what) (length bytes) y e done in
    let a = length-append (pipe_after history what).bytes bytes in
    (let z = f.0 in omega (arith, r, a, z), let z = f.1 in omega (arith, z), let z = f.2 in omega (arith, z))
pipe_fits session history what (act.Join end.Reader) y n e done f = (f.0, let z = f.1 in omega (arith, z), let z = f.2 in omega (arith, z))
pipe_fits session history what (act.Join end.Writer) y n e done f = (f.0, let z = f.1 in omega (arith, z), let z = f.2 in omega (arith, z))
pipe_fits session history what (act.Leave end.Reader) y n e done f = (f.0, let z = f.1 in omega (arith, z), let z = f.2 in omega (arith, z))
pipe_fits session history what (act.Leave end.Writer) y n e done f = (f.0, let z = f.1 in omega (arith, z), let z = f.2 in omega (arith, z))
pipe_fits session history what _ y n e done f = (f.0, let z = f.1 in omega (arith, z), let z = f.2 in omega (arith, z))

pipe_fits_if : (session : Session) (history : List Entry) (e : Entry) (object n : ℕ) (a b : Bool) → (e.what == object) ≡ a → is_fault e.reply ≡ b → MayFollow session history e
    → Fits (pipe_after history object) n → Fits (cond (a && not b) (pipe_act (pipe_after history object) e.act) (pipe_after history object)) (n + 1)
pipe_fits_if session history e object n true false t done next f =
    let same : e.what ≡ object = grind (arith, nat_tests) in
    pipe_fits session history object e.act e.reply n (ap (λ w. reply_to session history w e.act) (sym same) ∙ next.replied) done f
pipe_fits_if session history e object n true true t done next f = (f.0, let z = f.1 in omega (arith, z), let z = f.2 in omega (arith, z))
pipe_fits_if session history e object n false b t done next f = (f.0, let z = f.1 in omega (arith, z), let z = f.2 in omega (arith, z))

pub pipe_law : PipeLaw
pipe_law session = legal_induction session (λ h. (object : ℕ) → Fits (pipe_after h object) (length h + 1)) (λ object. (omega arith, omega arith, omega arith)) (λ history e legal all next object.
    subst (λ (p : Pipe). Fits p (length (history ++ e ∷ []) + 1)) (sym (state_after-append (λ past pipe e. pipe_act pipe e.act) object new_pipe history e))
    (subst (λ n. Fits (own_step (λ past pipe e. pipe_act pipe e.act) object history (pipe_after history object) e) n)
    (let z = length-append history (e ∷ []) in let w : length history + 1 + 1 ≡ length (history ++ e ∷ []) + 1 = omega (arith, z) in w)
    (pipe_fits_if session history e object (length history + 1) (e.what == object) (is_fault e.reply) refl refl next (all object))))

-- what an entry gives

taken_short : (b : Bool) (pipe : Pipe) (len : ℕ) (y : Reply) → cond b None (Some (answer.Took (take len pipe.bytes))) ≡ Some y → len ≤ transfer_limit → length (bytes_of y) ≤ transfer_limit
taken_short true pipe len y e short = absurd (cc)
taken_short false pipe len y e short = let t = length-take len pipe.bytes in let z = ap (λ y. length (bytes_of y)) (some_is _ _ e) in omega (arith, t, z, short)

none_given : (y z : Reply) → y ≡ z → bytes_of y ≡ [] → length (bytes_of z) ≤ transfer_limit
none_given y z e n = let a = ap (λ y. length (bytes_of y)) (sym e) in let b = ap length n in omega (arith, a, b)

quiet_if : (b : Bool) (x y : Reply) → bytes_of x ≡ [] → bytes_of y ≡ [] → bytes_of (cond b x y) ≡ []
quiet_if true x y p q = p
quiet_if false x y p q = q

quiet_minted : (session : Session) (r : Registry) (k : Kind) → bytes_of (minted session r k) ≡ []
quiet_minted session r k = quiet_if (is_full session r k) (answer.Fault fault.TooMany) (answer.Made (next_pnode session r)) refl refl

quiet_done : (b : Bool) (f : CallFault) → bytes_of (done_if b f) ≡ []
quiet_done true f = refl
quiet_done false f = refl

quiet_known : (b : Bool) (n : ℕ) → bytes_of (if b then answer.Made n else answer.Fault fault.NoObject) ≡ []
quiet_known true n = refl
quiet_known false n = refl

quiet_found : (o : Option ℕ) → bytes_of (found o) ≡ []
quiet_found (Some n) = refl
quiet_found None = refl

quiet_pushed : (pipe : Pipe) (len : ℕ) (b c : Bool) (y : Reply) → cond b (Some (answer.Fault fault.BrokenPipe)) (cond c None (Some answer.Done)) ≡ Some y → length (bytes_of y) ≤ transfer_limit
quiet_pushed pipe len true c y e = none_given (answer.Fault fault.BrokenPipe) y (some_is _ _ e) refl
quiet_pushed pipe len false true y e = absurd (cc)
quiet_pushed pipe len false false y e = none_given answer.Done y (some_is _ _ e) refl

quiet_reaped : (b : Bool) (y : Reply) → cond b (Some answer.Done) None ≡ Some y → length (bytes_of y) ≤ transfer_limit
quiet_reaped true y e = none_given answer.Done y (some_is _ _ e) refl
quiet_reaped false y e = absurd (cc)

quiet_denied : (o : Option CallFault) → bytes_of (option_map_or (λ f. answer.Fault f) o answer.Done) ≡ []
quiet_denied (Some f) = refl
quiet_denied None = refl

given_short : (session : Session) (history : List Entry) (who : ℕ) (p : Process) (made : Made) (steps : List Step) (k what : ℕ) (a : Act) (y : Reply) → Row who p made steps k what a → reply_to session history what a ≡ Some y
    → length (bytes_of y) ≤ transfer_limit
given_short session history who p made steps k what (act.Give at len) y r e =
    let t = length-take len (drop at (file_after session history what)) in let z = ap (λ y. length (bytes_of y)) (some_is _ _ e) in let s = r.1 in omega (arith, t, z, s)
given_short session history who p made steps k what (act.Take len) y r e = taken_short (length (pipe_after history what).bytes == 0 && nat_lt 0 (pipe_after history what).writers) (pipe_after history what) len y e r.1
given_short session history who p made steps k what (act.Bind name) y r e = none_given _ y (some_is _ _ e) (quiet_if (finite_map.contains_key (registry_after session history).names name) (answer.Fault fault.Exists) (minted session (registry_after session history) kind.File) refl (quiet_minted session (registry_after session history) kind.File))
given_short session history who p made steps k what (act.Find name) y r e = none_given _ y (some_is _ _ e) (quiet_found (finite_map.get (registry_after session history).names name))
given_short session history who p made steps k what (act.Move from to) y r e = none_given _ y (some_is _ _ e) (quiet_done (finite_map.contains_key (registry_after session history).names from) fault.NoEntry)
given_short session history who p made steps k what (act.Unbind name) y r e = none_given _ y (some_is _ _ e) (quiet_done (finite_map.contains_key (registry_after session history).names name) fault.NoEntry)
given_short session history who p made steps k what (act.Mint kd) y r e = none_given _ y (some_is _ _ e) (quiet_minted session (registry_after session history) kd)
given_short session history who p made steps k what (act.Known n) y r e = none_given _ y (some_is _ _ e) (quiet_known (is_app_object (registry_after session history) n) n)
given_short session history who p made steps k what (act.Deny ask) y r e = none_given _ y (some_is _ _ e) (quiet_denied (refusal (process_after history what) ask))
given_short session history who p made steps k what (act.Push out bytes) y r e = quiet_pushed (pipe_after history what) (length bytes) ((pipe_after history what).readers == 0) (nat_lt (pipe_capacity - length (pipe_after history what).bytes) (length bytes)) y e
given_short session history who p made steps k what act.Reap y r e = quiet_reaped (has_ended history what) y e
given_short session history who p made steps k what act.Ended y r e = quiet_reaped (has_ended history what) y e
given_short session history who p made steps k what _ y r e = none_given answer.Done y (some_is _ _ e) refl

gives_short : (session : Session) (history : List Entry) → IsLegal session history → (i : ℕ) (e : Entry) → slice_get history i ≡ Some e → length (bytes_of e.reply) ≤ transfer_limit
gives_short session history legal i e at =
    let past = take i history in
    let front = legal_take session history i legal in
    let next = legal i e at in
    given_short session past e.who (before_call past e.who e.number) (call_entries past e.who e.number) (steps_by session past e front next) (length (call_entries past e.who e.number)) e.what e.act e.reply (row session past e front next) next.replied

bytes_short : (history : List Entry) (out : ℕ) (o : Option Entry) → slice_get history out ≡ o → ((e : Entry) → slice_get history out ≡ Some e → length (bytes_of e.reply) ≤ transfer_limit) → length (bytes_at history out) ≤ transfer_limit
bytes_short history out None t each = let z : length (bytes_at history out) ≡ 0 = ap (λ o. length (option_map_or (λ (e : Entry). bytes_of e.reply) o [])) t in omega (arith, z)
bytes_short history out (Some e) t each =
    let z : length (bytes_at history out) ≡ length (bytes_of e.reply) = ap (λ o. length (option_map_or (λ (e : Entry). bytes_of e.reply) o [])) t in let b = each e t in omega (arith, z, b)

read_short : (history : List Entry) (p : Process) (a : Act) → ((out : ℕ) → length (bytes_at history out) ≤ transfer_limit) → length p.last_read ≤ transfer_limit → length (process_act history p a).last_read ≤ transfer_limit
read_short history p (act.Gain out fd) short b = short out
read_short history p (act.Exec out name args) short b = omega arith
read_short history p _ short b = b

last_if : (b : Bool) (x p : Process) → length x.last_read ≤ transfer_limit → length p.last_read ≤ transfer_limit → length (cond b x p).last_read ≤ transfer_limit
last_if true x p a b = a
last_if false x p a b = b

pub read_law : ReadLaw
read_law session history legal = (
  gives_short session history legal,
  legal_induction session (λ h. (who : ℕ) → length (process_after h who).last_read ≤ transfer_limit) (λ who. omega arith) (λ history e legal all next who.
      subst (λ (p : Process). length p.last_read ≤ transfer_limit) (sym (process-append history e who))
      (last_if (e.what == who && not (is_fault e.reply)) (process_act history (process_after history who) e.act) (process_after history who)
      (read_short history (process_after history who) e.act (λ out. bytes_short history out (slice_get history out) refl (λ f at. gives_short session history legal out f at)) (all who)) (all who)))
      history legal,
)

-- the steps of a call

filtered_fewer : {X : Type 0} (p : X → Bool) (xs : List X) → length (filter p xs) ≤ length xs
filtered_fewer p [] = omega arith
filtered_fewer p (x ∷ xs) = at_test (p x) (filtered_fewer p xs)
  where
    at_test : (b : Bool) → length (filter p xs) ≤ length xs → length (cond b (x ∷ filter p xs) (filter p xs)) ≤ length (x ∷ xs)
    at_test true l = omega (arith, l)
    at_test false l = omega (arith, l)

pipes_few : (held : ℕ → Option Descriptor) (numbers : List ℕ) → length (filter is_pipe (filter_map held numbers)) ≤ length numbers
pipes_few held numbers = let a = filtered_fewer is_pipe (filter_map held numbers) in let b = mapped_fewer held numbers in omega (arith, a, b)

pub few_pipes : (p : Process) → length (pipe_descriptors p) ≤ 64
few_pipes p = pipes_few (finite_map.get p.descriptors) (range_with_len 0 64)

close_few : (s t : Step) (b : Bool) → length (s ∷ (if b then t ∷ [] else [])) ≤ 3
close_few s t true = omega arith
close_few s t false = omega arith

steps_few : (who : ℕ) (p : Process) (made : Made) (r : Request) → length (steps_of who p made r) ≤ most_steps (name_of r)
steps_few who p made requests.Start = omega arith
steps_few who p made (requests.Creat fd name) = omega arith
steps_few who p made (requests.OpenName fd name m) = omega arith
steps_few who p made (requests.CloseFd fd) = close_few (act_on who (act.Detach fd)) (act_on (descriptor_at p fd).pnode (act.Leave (end_of (descriptor_at p fd).mode))) (is_pipe (descriptor_at p fd))
steps_few who p made (requests.Read fd len) = omega arith
steps_few who p made (requests.Write fd bytes) = omega arith
steps_few who p made (requests.Seek fd at) = omega arith
steps_few who p made (requests.Truncate fd size) = omega arith
steps_few who p made (requests.MakePipe reader writer) = omega arith
steps_few who p made requests.Fork =
    let join : Descriptor → Step = λ d. act_on d.pnode (act.Join (end_of d.mode)) in
    let born : Step = act_on (pnode_at made 0) (act.Born (place_at made 1) p.descriptors) in
    let a = length-append (map join (pipe_descriptors p)) (born ∷ []) in let b = length-map (pipe_descriptors p) join in let c = few_pipes p in omega (arith, a, b, c)
steps_few who p made (requests.Exec name args) = omega arith
steps_few who p made (requests.WaitChild child) = omega arith
steps_few who p made (requests.Await child) = omega arith
steps_few who p made requests.Exit =
    let leave : Descriptor → Step = λ d. act_on d.pnode (act.Leave (end_of d.mode)) in
    let a = length-append (map leave (pipe_descriptors p)) (act_on who act.Finish ∷ []) in let b = length-map (pipe_descriptors p) leave in let c = few_pipes p in omega (arith, a, b, c)
steps_few who p made (requests.Rename from to) = omega arith
steps_few who p made (requests.Unlink name) = omega arith
steps_few who p made (requests.MakeObj fd) = omega arith
steps_few who p made (requests.Revive fd pnode) = omega arith
steps_few who p made (requests.FreezeObj fd) = omega arith
steps_few who p made (requests.Disclose target source) = omega arith
steps_few who p made (requests.TagObj fd attr value) = omega arith
steps_few who p made (requests.Sync fd) = omega arith

one_few : (name : CallName) → 1 ≤ most_steps name
one_few call.Fork = omega arith
one_few call.Exit = omega arith
one_few _ = omega arith

count_at : (who : ℕ) (p : Process) (made : Made) (r : Request) (o : Option Ask) → length (option_map_or (λ a. act_on who (act.Deny a) ∷ []) o (steps_of who p made r)) ≤ most_steps (name_of r)
count_at who p made r None = steps_few who p made r
count_at who p made r (Some a) = one_few (name_of r)

pub step_count_law : StepCountLaw
step_count_law who p made r = count_at who p made r (refused_ask p r)

-- the first entry of a session

not_full : (objects : ℕ) → 1 ≤ objects → nat_le objects 0 ≡ false
not_full objects h = grind (arith, nat_tests)

start_reply : (session : Session) → 1 ≤ session.objects → reply_to session [] 0 (act.Mint kind.Process) ≡ Some (answer.Made (session.start.ceiling + 1))
start_reply session h =
    ap (λ b. Some (if b || false then answer.Fault fault.TooMany else answer.Made (session.start.ceiling + 0 + 1))) (not_full session.objects h)
    ∙ ap (λ n. Some (answer.Made n)) (let z : session.start.ceiling + 0 + 1 ≡ session.start.ceiling + 1 = omega arith in z)

abbrev first_entry : Session → Entry
first_entry session = record { who = 0; number = 0; call = call.Start; what = 0; act = act.Mint kind.Process; reply = answer.Made (session.start.ceiling + 1) }

pub first_follows : (session : Session) → 1 ≤ session.objects → MayFollow session [] (first_entry session)
first_follows session h = record {
  replied = start_reply session h;
  acts = refl;
  step = record { request = requests.Start; named = refl; within = refl; called = λ j s at. absurd (cc); steps = refl };
}

pub first_law : FirstLaw
first_law session h = legal-push session [] (first_entry session) (λ i e at. absurd (cc)) (first_follows session h)
