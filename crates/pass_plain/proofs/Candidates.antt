-- A step may come next in a call exactly where it is the call's refusal, or where the call that the steps show makes it.
use Rattle.std.proofs.Common.{◌≡◌, ◌<◌, ◌≤◌, ◌+◌, ℕ, suc, List, [], ◌∷◌, ◌++◌, length, map, take, refl, ap, sym, ◌∙◌, subst, arith, ◌⊎◌, inl, inr, Bool, true, false, ◌||◌, ◌&&◌, not, ◌==◌, length-append}
use Rattle.std.proofs.lemmas.List.{length-replicate, length-map, length-take}
use Rattle.std.proofs.lemmas.Bool.Decides.{nat_tests}
use Rattle.std.specs.Prelude.{Option, Some, None, is_some, slice_get, nat_le, nat_lt, replicate, if◌then◌else◌}
use Rattle.std.specs.Option.{option_map_or}
use Rattle.std.specs.List.{list_all}
use Rattle.std.specs.FinMap as finite_map
use Rattle.pass_entry.specs.declared.entry.Entry.{Entry}
use Rattle.pass_entry.specs.declared.entry.Act.{Act}
use Rattle.pass_entry.specs.declared.entry.Act.TheVariants as act
use Rattle.pass_entry.specs.declared.entry.Ask.{Ask}
use Rattle.pass_entry.specs.declared.entry.Ask.TheVariants as ask
use Rattle.pass_entry.specs.declared.entry.CallFault.{CallFault}
use Rattle.pass_entry.specs.declared.entry.CallFault.TheVariants as fault
use Rattle.pass_entry.specs.declared.entry.CallName.{CallName}
use Rattle.pass_entry.specs.declared.entry.CallName.TheVariants as call
use Rattle.pass_entry.specs.declared.objects.Descriptor.{Descriptor}
use Rattle.pass_entry.specs.declared.objects.Kind.TheVariants as kind
use Rattle.pass_entry.specs.declared.objects.Mode.{Mode}
use Rattle.pass_entry.specs.declared.objects.Mode.TheVariants as mode
use Rattle.pass_entry.specs.Texts.{is_name, is_line}
use Rattle.pass_entry.specs.Limits.{transfer_limit}
use Rattle.pass_plain.specs.Processes.{Process, refusal, is_file, same_mode, faults_if, file_limit}
use Rattle.pass_plain.specs.Calls.{act_on, name_of, is_within, is_fd, ask_of, Made, Step, call_steps, steps_of, refused_ask, descriptor_at, pnode_at}
use Rattle.pass_plain.specs.declared.request.Request.{Request}
use Rattle.pass_plain.specs.declared.request.Request.TheVariants as requests
use Rattle.pass_plain.specs.Legal.{IsNextStep, step_of}
use Rattle.pass_plain.specs.NextSteps.{asks, denies, first_object, first_act, bytes_shown, size_shown, shown, shown_creat, shown_open, shown_read, shown_write, shown_seek, shown_exec, shown_rename, shown_unlink, shown_revive, shown_tag, seconds, Fits, FitsSome, AreOfCall}
use Rattle.pass_plain.proofs.Lists.{true_left, true_right, both_true, same_numbers, same_itself, some_is, at_most}
use Rattle.pass_plain.proofs.Calling.{step_next, step_made}
use Rattle.pass_plain.proofs.Rows.{not_refused, fd_of}

-- the steps that begin with those of the entries, and go on with one more
pub front_of : (made : Made) (steps : List Step) (next : Step)
    → ((j : ℕ) (m : ℕ × Entry) → slice_get made j ≡ Some m → slice_get steps j ≡ Some (step_of m))
    → slice_get steps (length made) ≡ Some next → take (length made + 1) steps ≡ map step_of made ++ next ∷ []
front_of [] [] next each last = absurd (cc)
front_of [] (s ∷ steps) next each last = ap (λ s. s ∷ []) (some_is s next last)
front_of (m ∷ made) [] next each last = absurd (let e = each 0 m refl in cc)
front_of (m ∷ made) (s ∷ steps) next each last =
    ap (λ n. take n (s ∷ steps)) (let z : length (m ∷ made) + 1 ≡ suc (length made + 1) = omega arith in z)
    ∙ (λ i. some_is s (step_of m) (each 0 m refl) i ∷ front_of made steps next (λ j n at. each (suc j) n at) last i)

-- what a call asks

asked : (r : Request) (a : Ask) → is_within r ≡ true → ask_of r ≡ Some a → asks (name_of r) a ≡ true
asked requests.Start a within e = absurd (cc)
asked (requests.Creat fd name) a within e = subst (λ a. asks call.Creat a ≡ true) (some_is _ _ e) (true_left _ _ within)
asked (requests.OpenName fd name m) a within e = subst (λ a. asks call.OpenName a ≡ true) (some_is _ _ e) (true_left _ _ (true_left _ _ within))
asked (requests.CloseFd fd) a within e = subst (λ a. asks call.CloseFd a ≡ true) (some_is _ _ e) within
asked (requests.Read fd len) a within e = subst (λ a. asks call.Read a ≡ true) (some_is _ _ e) (true_left _ _ (true_left _ _ within))
asked (requests.Write fd bytes) a within e = subst (λ a. asks call.Write a ≡ true) (some_is _ _ e) within
asked (requests.Seek fd at) a within e = subst (λ a. asks call.Seek a ≡ true) (some_is _ _ e) within
asked (requests.Truncate fd size) a within e = subst (λ a. asks call.Truncate a ≡ true) (some_is _ _ e) within
asked (requests.MakePipe reader writer) a within e = subst (λ a. asks call.MakePipe a ≡ true) (some_is _ _ e) within
asked requests.Fork a within e = absurd (cc)
asked (requests.Exec name args) a within e = absurd (cc)
asked (requests.WaitChild child) a within e = subst (λ a. asks call.WaitChild a ≡ true) (some_is _ _ e) refl
asked (requests.Await child) a within e = subst (λ a. asks call.Await a ≡ true) (some_is _ _ e) refl
asked requests.Exit a within e = absurd (cc)
asked (requests.Rename from to) a within e = absurd (cc)
asked (requests.Unlink name) a within e = absurd (cc)
asked (requests.MakeObj fd) a within e = subst (λ a. asks call.MakeObj a ≡ true) (some_is _ _ e) within
asked (requests.Revive fd pnode) a within e = subst (λ a. asks call.Revive a ≡ true) (some_is _ _ e) within
asked (requests.FreezeObj fd) a within e = subst (λ a. asks call.FreezeObj a ≡ true) (some_is _ _ e) within
asked (requests.Disclose target source) a within e = subst (λ a. asks call.Disclose a ≡ true) (some_is _ _ e) within
asked (requests.TagObj fd attr value) a within e = subst (λ a. asks call.TagObj a ≡ true) (some_is _ _ e) (true_left _ _ (true_left _ _ within))
asked (requests.Sync fd) a within e = subst (λ a. asks call.Sync a ≡ true) (some_is _ _ e) within

abbrev Asking : CallName → Ask → Type 0
Asking name a = (r : Request) × (name_of r ≡ name) × (is_within r ≡ true) × (ask_of r ≡ Some a)

-- `!` is a name
any_name : List ℕ
any_name = 33 ∷ []

asking : (name : CallName) (a : Ask) → asks name a ≡ true → Asking name a
asking call.Creat (ask.Free fd) h = (requests.Creat fd (33 ∷ []), refl, both_true _ _ h refl, refl)
asking call.OpenName (ask.Free fd) h = (requests.OpenName fd (33 ∷ []) mode.Read, refl, both_true _ _ (both_true _ _ h refl) refl, refl)
asking call.CloseFd (ask.Held fd) h = (requests.CloseFd fd, refl, h, refl)
asking call.Read (ask.ToRead fd) h = (requests.Read fd 1, refl, both_true _ _ (both_true _ _ h refl) refl, refl)
asking call.Write (ask.ToWrite fd len) h =
    let size = length-replicate len 0 in
    (requests.Write fd (replicate len 0), refl, both_true _ _ (true_left _ _ h) (ap (λ n. nat_le n transfer_limit) size ∙ true_right (is_fd fd) _ h), ap (λ n. Some (ask.ToWrite fd n)) size)
asking call.Seek (ask.ToSeek fd at) h = (requests.Seek fd at, refl, h, refl)
asking call.Truncate (ask.ToCut fd size) h = (requests.Truncate fd size, refl, h, refl)
asking call.MakePipe (ask.FreeTwo first second) h = (requests.MakePipe first second, refl, h, refl)
asking call.WaitChild (ask.Child pnode) h = (requests.WaitChild pnode, refl, refl, refl)
asking call.Await (ask.Child pnode) h = (requests.Await pnode, refl, refl, refl)
asking call.MakeObj (ask.Free fd) h = (requests.MakeObj fd, refl, h, refl)
asking call.Revive (ask.Free fd) h = (requests.Revive fd 0, refl, h, refl)
asking call.FreezeObj (ask.Held fd) h = (requests.FreezeObj fd, refl, h, refl)
asking call.Disclose (ask.HeldTwo first second) h = (requests.Disclose first second, refl, h, refl)
asking call.TagObj (ask.Held fd) h = (requests.TagObj fd (33 ∷ []) (33 ∷ []), refl, both_true _ _ (both_true _ _ h refl) refl, refl)
asking call.Sync (ask.Held fd) h = (requests.Sync fd, refl, h, refl)
asking _ _ h = absurd (cc)

-- a refused call

refused_at : (p : Process) (b a : Ask) (o : Option CallFault) → refusal p b ≡ o → option_map_or (λ f. Some b) o None ≡ Some a
    → (◌≡◌ {A = Option Ask} (Some b) (Some a)) × (is_some (refusal p a) ≡ true)
refused_at p b a None is e = absurd (cc)
refused_at p b a (Some f) is e = (e, ap (λ a. is_some (refusal p a)) (sym (some_is b a e)) ∙ ap is_some is)

refused_of : (p : Process) (o : Option Ask) (a : Ask) → option_map_or (λ b. option_map_or (λ f. Some b) (refusal p b) None) o None ≡ Some a
    → (o ≡ Some a) × (is_some (refusal p a) ≡ true)
refused_of p None a e = absurd (cc)
refused_of p (Some b) a e = refused_at p b a (refusal p b) refl e

of_refusal : (p : Process) (a : Ask) (o : Option CallFault) → refusal p a ≡ o → is_some o ≡ true → option_map_or (λ f. Some a) (refusal p a) None ≡ Some a
of_refusal p a None e h = absurd (cc)
of_refusal p a (Some f) e h = ap (λ o. option_map_or (λ f. Some a) o None) e

refused_when : (p : Process) (r : Request) (a : Ask) → ask_of r ≡ Some a → is_some (refusal p a) ≡ true → refused_ask p r ≡ Some a
refused_when p r a e h =
    ap (λ o. option_map_or (λ b. option_map_or (λ f. Some b) (refusal p b) None) o None) e ∙ of_refusal p a (refusal p a) refl h

refused_steps : (who : ℕ) (p : Process) (made : Made) (r : Request) (a : Ask) → refused_ask p r ≡ Some a → call_steps who p made r ≡ act_on who (act.Deny a) ∷ []
refused_steps who p made r a e = ap (λ o. option_map_or (λ a. act_on who (act.Deny a) ∷ []) o (steps_of who p made r)) e

own_steps : (who : ℕ) (p : Process) (made : Made) (r : Request) → refused_ask p r ≡ None → call_steps who p made r ≡ steps_of who p made r
own_steps who p made r e = ap (λ o. option_map_or (λ a. act_on who (act.Deny a) ∷ []) o (steps_of who p made r)) e

-- a call of one step has made nothing before it
only_step : (made : Made) (s next : Step) → take (length made + 1) (s ∷ []) ≡ map step_of made ++ next ∷ [] → (made ≡ []) × (s ≡ next)
only_step [] s next e = (refl, cc)
only_step (m ∷ made) s next e =
    let a = ap length e in let b = length-take (length (m ∷ made) + 1) (s ∷ []) in
    let c = length-append (map step_of (m ∷ made)) (next ∷ []) in let d = length-map (m ∷ made) step_of in
    absurd (omega (arith, a, b, c, d))

abbrev Follows : ℕ → Process → Made → Request → Step → Type 0
Follows who p made r next = take (length made + 1) (call_steps who p made r) ≡ map step_of made ++ next ∷ []

denied : (who : ℕ) (p : Process) (made : Made) (r : Request) (next : Step) (a : Ask) → is_within r ≡ true → refused_ask p r ≡ Some a → Follows who p made r next
    → (made ≡ []) × (denies who p (name_of r) next.0 next.1 ≡ true)
denied who p made r next a within e steps =
    let (none, same) = only_step made (act_on who (act.Deny a)) next (ap (take (length made + 1)) (sym (refused_steps who p made r a e)) ∙ steps) in
    let (asks_it, refused) = refused_of p (ask_of r) a e in
    (none, subst (λ (s : Step). denies who p (name_of r) s.0 s.1 ≡ true) same (both_true _ _ (both_true _ _ (same_itself who) (asked r a within asks_it)) refused))

pub denial-sound : (who : ℕ) (p : Process) (name : CallName) (what : ℕ) (a : Act) → denies who p name what a ≡ true → IsNextStep who p [] name (what, a)
denial-sound who p name what (act.Deny a) h =
    let front = true_left (what == who && asks name a) _ h in
    let own : what ≡ who = same_numbers what who (true_left (what == who) _ front) in
    let (r, named, within, asks_it) = asking name a (true_right (what == who) _ front) in
    let refused = refused_when p r a asks_it (true_right (what == who && asks name a) _ h) in
    record {
      request = r;
      named = named;
      within = within;
      called = λ j s at. absurd (cc);
      steps = ap (take 1) (refused_steps who p [] r a refused) ∙ ap (λ o. act_on o (act.Deny a) ∷ []) (sym own);
    }
denial-sound who p name what _ h = absurd (cc)

-- the call that the steps show has the name

named_creat : (first : Act) (a : ℕ) (r : Request) → shown_creat first a ≡ Some r → name_of r ≡ call.Creat
named_creat (act.Bind name) a r e = ap name_of (sym (some_is _ _ e))
named_creat _ a r e = absurd (cc)

named_open : (first last : Act) (a : ℕ) (r : Request) → shown_open first last a ≡ Some r → name_of r ≡ call.OpenName
named_open (act.Find name) last a r e = ap name_of (sym (some_is _ _ e))
named_open _ last a r e = absurd (cc)

named_read : (first : Act) (a : ℕ) (r : Request) → shown_read first a ≡ Some r → name_of r ≡ call.Read
named_read (act.Give at len) a r e = ap name_of (sym (some_is _ _ e))
named_read (act.Take len) a r e = ap name_of (sym (some_is _ _ e))
named_read _ a r e = absurd (cc)

named_write : (first last : Act) (a : ℕ) (r : Request) → shown_write first last a ≡ Some r → name_of r ≡ call.Write
named_write (act.Show fd len) last a r e = ap name_of (sym (some_is _ _ e))
named_write _ last a r e = absurd (cc)

named_seek : (first : Act) (a : ℕ) (r : Request) → shown_seek first a ≡ Some r → name_of r ≡ call.Seek
named_seek (act.Seek fd at) a r e = ap name_of (sym (some_is _ _ e))
named_seek _ a r e = absurd (cc)

named_exec : (first last : Act) (r : Request) → shown_exec first last ≡ Some r → name_of r ≡ call.Exec
named_exec (act.Find name) last r e = ap name_of (sym (some_is _ _ e))
named_exec _ last r e = absurd (cc)

named_rename : (first : Act) (r : Request) → shown_rename first ≡ Some r → name_of r ≡ call.Rename
named_rename (act.Move from to) r e = ap name_of (sym (some_is _ _ e))
named_rename _ r e = absurd (cc)

named_unlink : (first : Act) (r : Request) → shown_unlink first ≡ Some r → name_of r ≡ call.Unlink
named_unlink (act.Unbind name) r e = ap name_of (sym (some_is _ _ e))
named_unlink _ r e = absurd (cc)

named_revive : (first : Act) (a : ℕ) (r : Request) → shown_revive first a ≡ Some r → name_of r ≡ call.Revive
named_revive (act.Known pnode) a r e = ap name_of (sym (some_is _ _ e))
named_revive _ a r e = absurd (cc)

named_tag : (first : Act) (a : ℕ) (r : Request) → shown_tag first a ≡ Some r → name_of r ≡ call.TagObj
named_tag (act.Tag attr value) a r e = ap name_of (sym (some_is _ _ e))
named_tag _ a r e = absurd (cc)

named : (name : CallName) (what : ℕ) (first last : Act) (a b : ℕ) (r : Request) → shown name what first last a b ≡ Some r → name_of r ≡ name
named call.Start what first last a b r e = ap name_of (sym (some_is _ _ e))
named call.Creat what first last a b r e = named_creat first a r e
named call.OpenName what first last a b r e = named_open first last a r e
named call.CloseFd what first last a b r e = ap name_of (sym (some_is _ _ e))
named call.Read what first last a b r e = named_read first a r e
named call.Write what first last a b r e = named_write first last a r e
named call.Seek what first last a b r e = named_seek first a r e
named call.Truncate what first last a b r e = ap name_of (sym (some_is _ _ e))
named call.MakePipe what first last a b r e = ap name_of (sym (some_is _ _ e))
named call.Fork what first last a b r e = ap name_of (sym (some_is _ _ e))
named call.Exec what first last a b r e = named_exec first last r e
named call.WaitChild what first last a b r e = ap name_of (sym (some_is _ _ e))
named call.Await what first last a b r e = ap name_of (sym (some_is _ _ e))
named call.Exit what first last a b r e = ap name_of (sym (some_is _ _ e))
named call.Rename what first last a b r e = named_rename first r e
named call.Unlink what first last a b r e = named_unlink first r e
named call.MakeObj what first last a b r e = ap name_of (sym (some_is _ _ e))
named call.Revive what first last a b r e = named_revive first a r e
named call.FreezeObj what first last a b r e = ap name_of (sym (some_is _ _ e))
named call.Disclose what first last a b r e = ap name_of (sym (some_is _ _ e))
named call.TagObj what first last a b r e = named_tag first a r e
named call.Sync what first last a b r e = ap name_of (sym (some_is _ _ e))

pub fits-sound : (who : ℕ) (p : Process) (made : Made) (name : CallName) (next : Step) → AreOfCall made name → FitsSome who p made name next → IsNextStep who p made name next
fits-sound who p made name next called fits =
    let fit : Fits who p made name next fits.0 fits.2.0 = fits.2.2 in
    record {
      request = fit.request;
      named = named name (first_object made next.0) (first_act made next.1) next.1 fits.0 fits.2.0 fit.request fit.is_shown;
      within = fit.begins.within;
      called = called;
      steps = fit.begins.steps;
    }

-- of a call that is not refused: its first step is the first that it shows, its next one stands after those made, and after the last there is none
first_at : (who : ℕ) (p : Process) (made : Made) (steps : List Step) (next : Step) → take (length made + 1) steps ≡ map step_of made ++ next ∷ []
    → slice_get steps 0 ≡ Some (act_on (first_object made next.0) (first_act made next.1))
first_at who p [] steps next e = step_next who p [] steps next e
first_at who p (m ∷ made) steps next e = step_made (m ∷ made) steps next e 0 m refl

module _ (who : ℕ) (p : Process) (made : Made) (next : Step) (r : Request) (fine : refused_ask p r ≡ None) (steps : take (length made + 1) (call_steps who p made r) ≡ map step_of made ++ next ∷ []) where
  own : take (length made + 1) (steps_of who p made r) ≡ map step_of made ++ next ∷ []
  own = ap (take (length made + 1)) (sym (own_steps who p made r fine)) ∙ steps

  first_own : (s : Step) → slice_get (steps_of who p made r) 0 ≡ Some s → (first_object made next.0 ≡ s.0) × (first_act made next.1 ≡ s.1)
  first_own s at =
      let same : act_on (first_object made next.0) (first_act made next.1) ≡ s = some_is _ _ (sym (first_at who p made (steps_of who p made r) next own) ∙ at) in
      (ap (λ (s : Step). s.0) same, ap (λ (s : Step). s.1) same)

  next_own : (s : Step) → slice_get (steps_of who p made r) (length made) ≡ Some s → next ≡ s
  next_own s at = some_is _ _ (sym (step_next who p made (steps_of who p made r) next own) ∙ at)

  past_own : slice_get (steps_of who p made r) (length made) ≡ None → ⊥
  past_own at = let both : ◌≡◌ {A = Option Step} None (Some next) = sym at ∙ step_next who p made (steps_of who p made r) next own in cc

-- the call itself is shown
fits_own : (who : ℕ) (p : Process) (made : Made) (next : Step) (r : Request) (a b : ℕ) → a < 64 → b < seconds (name_of r) → is_within r ≡ true → Follows who p made r next
    → shown (name_of r) (first_object made next.0) (first_act made next.1) next.1 a b ≡ Some r → FitsSome who p made (name_of r) next
fits_own who p made next r a b short below within steps is_shown =
    (a, short, (b, below, record { request = r; is_shown = is_shown; begins = record { within = within; steps = steps } }))

-- .. for each call: the arguments that its first steps do not tell are open

-- the steps that are shown are the same steps of another call
fits_other : (who : ℕ) (p : Process) (made : Made) (next : Step) (r s : Request) (a b : ℕ) → a < 64 → b < seconds (name_of r) → is_within s ≡ true
    → take (length made + 1) (call_steps who p made s) ≡ take (length made + 1) (call_steps who p made r) → Follows who p made r next
    → shown (name_of r) (first_object made next.0) (first_act made next.1) next.1 a b ≡ Some s → FitsSome who p made (name_of r) next
fits_other who p made next r s a b short below within same steps is_shown =
    (a, short, (b, below, record { request = s; is_shown = is_shown; begins = record { within = within; steps = same ∙ steps } }))

below_one : 0 < 1
below_one = omega arith

open_next : (who : ℕ) (p : Process) (made : Made) (next : Step) (fd : ℕ) (name : List ℕ) (m : Mode) → is_within (requests.OpenName fd name m) ≡ true
    → refused_ask p (requests.OpenName fd name m) ≡ None → Follows who p made (requests.OpenName fd name m) next → FitsSome who p made call.OpenName next
open_next who p [] next fd name m within fine steps =
    let (what, first) = first_own who p [] next (requests.OpenName fd name m) fine steps (act_on 0 (act.Find name)) refl in
    fits_other who p [] next (requests.OpenName fd name m) (requests.OpenName fd name mode.Read) fd 0 (fd_of fd (true_left _ _ (true_left _ _ within))) below_one
    (both_true _ _ (true_left _ _ within) refl)
    (ap (take 1) (own_steps who p [] (requests.OpenName fd name mode.Read) fine) ∙ sym (ap (take 1) (own_steps who p [] (requests.OpenName fd name m) fine)))
    steps (ap (λ f. shown_open f f fd) first)
open_next who p (n ∷ []) next fd name m within fine steps =
    let (what, first) = first_own who p (n ∷ []) next (requests.OpenName fd name m) fine steps (act_on 0 (act.Find name)) refl in
    let second = next_own who p (n ∷ []) next (requests.OpenName fd name m) fine steps (act_on who (act.Attach fd (record { pnode = pnode_at (n ∷ []) 0; kind = kind.File; mode = m; offset = 0 }))) refl in
    fits_own who p (n ∷ []) next (requests.OpenName fd name m) fd 0 (fd_of fd (true_left _ _ (true_left _ _ within))) below_one within steps
    (ap (λ f. shown_open f next.1 fd) first ∙ ap (λ (s : Step). shown_open (act.Find name) s.1 fd) second)
open_next who p (n ∷ o ∷ made) next fd name m within fine steps = absurd (past_own who p (n ∷ o ∷ made) next (requests.OpenName fd name m) fine steps refl)

bytes_of_put : (b : Bool) (out at len : ℕ) (bytes : List ℕ) → bytes_shown len (if b then act.Put out at bytes else act.Push out bytes) ≡ bytes
bytes_of_put true out at len bytes = refl
bytes_of_put false out at len bytes = refl

-- a write by as many zero bytes shows the same at first
zero_bytes : (bytes : List ℕ) → nat_le (length bytes) transfer_limit ≡ true → (fd : ℕ) → bytes_shown (length bytes) (act.Show fd (length bytes)) ≡ replicate (length bytes) 0
zero_bytes bytes short fd = ap (λ b. if b then replicate (length bytes) 0 else []) short

write_next : (who : ℕ) (p : Process) (made : Made) (next : Step) (fd : ℕ) (bytes : List ℕ) → is_within (requests.Write fd bytes) ≡ true
    → refused_ask p (requests.Write fd bytes) ≡ None → Follows who p made (requests.Write fd bytes) next → FitsSome who p made call.Write next
write_next who p [] next fd bytes within fine steps =
    let (what, first) = first_own who p [] next (requests.Write fd bytes) fine steps (act_on who (act.Show fd (length bytes))) refl in
    let zeros : List ℕ = replicate (length bytes) 0 in
    let size : length zeros ≡ length bytes = length-replicate (length bytes) 0 in
    let short : nat_le (length bytes) transfer_limit ≡ true = true_right (is_fd fd) _ within in
    let allowed : refused_ask p (requests.Write fd zeros) ≡ None = ap (λ n. option_map_or (λ f. Some (ask.ToWrite fd n)) (refusal p (ask.ToWrite fd n)) None) size ∙ fine in
    fits_other who p [] next (requests.Write fd bytes) (requests.Write fd zeros) fd 0 (fd_of fd (true_left _ _ within)) below_one
    (both_true _ _ (true_left _ _ within) (ap (λ n. nat_le n transfer_limit) size ∙ short))
    (ap (take 1) (own_steps who p [] (requests.Write fd zeros) allowed) ∙ ap (λ n. act_on who (act.Show fd n) ∷ []) size
    ∙ sym (ap (take 1) (own_steps who p [] (requests.Write fd bytes) fine)))
    steps (ap (λ f. shown_write f f fd) first ∙ ap (λ bytes. Some (requests.Write fd bytes)) (zero_bytes bytes short fd))
write_next who p (n ∷ []) next fd bytes within fine steps =
    let (what, first) = first_own who p (n ∷ []) next (requests.Write fd bytes) fine steps (act_on who (act.Show fd (length bytes))) refl in
    let second = next_own who p (n ∷ []) next (requests.Write fd bytes) fine steps (act_on (descriptor_at p fd).pnode (if is_file (descriptor_at p fd) then act.Put n.0 (descriptor_at p fd).offset bytes else act.Push n.0 bytes)) refl in
    fits_own who p (n ∷ []) next (requests.Write fd bytes) fd 0 (fd_of fd (true_left _ _ within)) below_one within steps
    (ap (λ f. shown_write f next.1 fd) first ∙ ap (λ (s : Step). Some (requests.Write fd (bytes_shown (length bytes) s.1))) second
    ∙ ap (λ bytes. Some (requests.Write fd bytes)) (bytes_of_put (is_file (descriptor_at p fd)) n.0 (descriptor_at p fd).offset (length bytes) bytes))
write_next who p (n ∷ o ∷ made) next fd bytes within fine steps = absurd (past_own who p (n ∷ o ∷ made) next (requests.Write fd bytes) fine steps refl)

-- where a file may be cut to some size, it may be cut to 0

abbrev judged_cut : ℕ → Descriptor → Option CallFault
judged_cut size d = faults_if (not (is_file d) || same_mode d.mode mode.Read) fault.BadMode (faults_if (nat_lt file_limit size) fault.TooBig None)

cut_test : (b : Bool) (size : ℕ) → faults_if b fault.BadMode (faults_if (nat_lt file_limit size) fault.TooBig None) ≡ None
    → faults_if b fault.BadMode (faults_if (nat_lt file_limit 0) fault.TooBig None) ≡ None
cut_test true size e = absurd (cc)
cut_test false size e = refl

cut_held : (o : Option Descriptor) (size : ℕ) → option_map_or (judged_cut size) o (Some fault.BadFd) ≡ None → option_map_or (judged_cut 0) o (Some fault.BadFd) ≡ None
cut_held None size e = absurd (cc)
cut_held (Some d) size e = cut_test (not (is_file d) || same_mode d.mode mode.Read) size e

cut_zero : (p : Process) (fd size : ℕ) → refused_ask p (requests.Truncate fd size) ≡ None → refused_ask p (requests.Truncate fd 0) ≡ None
cut_zero p fd size e =
    ap (λ o. option_map_or (λ f. Some (ask.ToCut fd 0)) o None)
    (cut_held (finite_map.get p.descriptors fd) size (not_refused (refusal p (ask.ToCut fd size)) (ask.ToCut fd size) e))

cut_next : (who : ℕ) (p : Process) (made : Made) (next : Step) (fd size : ℕ) → is_within (requests.Truncate fd size) ≡ true
    → refused_ask p (requests.Truncate fd size) ≡ None → Follows who p made (requests.Truncate fd size) next → FitsSome who p made call.Truncate next
cut_next who p [] next fd size within fine steps =
    let first = next_own who p [] next (requests.Truncate fd size) fine steps (act_on who (act.Show fd 0)) refl in
    fits_other who p [] next (requests.Truncate fd size) (requests.Truncate fd 0) fd 0 (fd_of fd within) below_one within
    (ap (take 1) (own_steps who p [] (requests.Truncate fd 0) (cut_zero p fd size fine)) ∙ sym (ap (take 1) (own_steps who p [] (requests.Truncate fd size) fine)))
    steps (ap (λ (s : Step). Some (requests.Truncate fd (size_shown s.1))) first)
cut_next who p (n ∷ []) next fd size within fine steps =
    let second = next_own who p (n ∷ []) next (requests.Truncate fd size) fine steps (act_on (descriptor_at p fd).pnode (act.Cut n.0 size)) refl in
    fits_own who p (n ∷ []) next (requests.Truncate fd size) fd 0 (fd_of fd within) below_one within steps
    (ap (λ (s : Step). Some (requests.Truncate fd (size_shown s.1))) second)
cut_next who p (n ∷ o ∷ made) next fd size within fine steps = absurd (past_own who p (n ∷ o ∷ made) next (requests.Truncate fd size) fine steps refl)

-- a name is a line

line_byte : (b : ℕ) → nat_le 33 b && nat_le b 126 ≡ true → nat_le 32 b && nat_le b 126 ≡ true
line_byte b h = both_true _ _ (wider (at_most 33 b (true_left _ _ h))) (true_right (nat_le 33 b) _ h)
  where
    wider : 33 ≤ b → nat_le 32 b ≡ true
    wider le = grind (arith, nat_tests)

line_bytes : (bytes : List ℕ) → list_all (λ b. nat_le 33 b && nat_le b 126) bytes ≡ true → list_all (λ b. nat_le 32 b && nat_le b 126) bytes ≡ true
line_bytes [] h = refl
line_bytes (b ∷ bytes) h =
    both_true _ _ (line_byte b (true_left (nat_le 33 b && nat_le b 126) _ h)) (line_bytes bytes (true_right (nat_le 33 b && nat_le b 126) _ h))

name_line : (bytes : List ℕ) → is_name bytes ≡ true → is_line bytes ≡ true
name_line bytes h =
    both_true _ _ (shorter (at_most (length bytes) 255 (true_right (nat_le 1 (length bytes)) _ (true_left (nat_le 1 (length bytes) && nat_le (length bytes) 255) _ h))))
    (line_bytes bytes (true_right (nat_le 1 (length bytes) && nat_le (length bytes) 255) _ h))
  where
    shorter : length bytes ≤ 255 → nat_le (length bytes) 1024 ≡ true
    shorter le = grind (arith, nat_tests)

exec_next : (who : ℕ) (p : Process) (made : Made) (next : Step) (name args : List ℕ) → is_within (requests.Exec name args) ≡ true
    → Follows who p made (requests.Exec name args) next → FitsSome who p made call.Exec next
exec_next who p [] next name args within steps =
    let (what, first) = first_own who p [] next (requests.Exec name args) refl steps (act_on 0 (act.Find name)) refl in
    fits_other who p [] next (requests.Exec name args) (requests.Exec name name) 0 0 (omega arith) below_one
    (both_true _ _ (true_left _ _ within) (name_line name (true_left _ _ within))) refl steps (ap (λ f. shown_exec f f) first)
exec_next who p (n ∷ []) next name args within steps =
    let (what, first) = first_own who p (n ∷ []) next (requests.Exec name args) refl steps (act_on 0 (act.Find name)) refl in
    let second = next_own who p (n ∷ []) next (requests.Exec name args) refl steps (act_on (pnode_at (n ∷ []) 0) act.Load) refl in
    fits_other who p (n ∷ []) next (requests.Exec name args) (requests.Exec name name) 0 0 (omega arith) below_one
    (both_true _ _ (true_left _ _ within) (name_line name (true_left _ _ within))) refl steps
    (ap (λ f. shown_exec f next.1) first ∙ ap (λ (s : Step). shown_exec (act.Find name) s.1) second)
exec_next who p (n ∷ o ∷ []) next name args within steps =
    let (what, first) = first_own who p (n ∷ o ∷ []) next (requests.Exec name args) refl steps (act_on 0 (act.Find name)) refl in
    let third = next_own who p (n ∷ o ∷ []) next (requests.Exec name args) refl steps (act_on who (act.Exec o.0 name args)) refl in
    fits_own who p (n ∷ o ∷ []) next (requests.Exec name args) 0 0 (omega arith) below_one within steps
    (ap (λ f. shown_exec f next.1) first ∙ ap (λ (s : Step). shown_exec (act.Find name) s.1) third)
exec_next who p (n ∷ o ∷ q ∷ made) next name args within steps = absurd (past_own who p (n ∷ o ∷ q ∷ made) next (requests.Exec name args) refl steps refl)

read_is : (b : Bool) (fd at len : ℕ) → shown_read (if b then act.Give at len else act.Take len) fd ≡ Some (requests.Read fd len)
read_is true fd at len = refl
read_is false fd at len = refl

-- a call that is not refused: its steps show it, or a call that makes the same steps so far
own_next : (who : ℕ) (p : Process) (made : Made) (next : Step) (r : Request) → is_within r ≡ true → refused_ask p r ≡ None → Follows who p made r next → FitsSome who p made (name_of r) next
own_next who p made next requests.Start within fine steps = fits_own who p made next requests.Start 0 0 (omega arith) below_one within steps refl
own_next who p made next (requests.Creat fd name) within fine steps =
    let (what, first) = first_own who p made next (requests.Creat fd name) fine steps (act_on 0 (act.Bind name)) refl in
    fits_own who p made next (requests.Creat fd name) fd 0 (fd_of fd (true_left _ _ within)) below_one within steps (ap (λ f. shown_creat f fd) first)
own_next who p made next (requests.OpenName fd name m) within fine steps = open_next who p made next fd name m within fine steps
own_next who p made next (requests.CloseFd fd) within fine steps = fits_own who p made next (requests.CloseFd fd) fd 0 (fd_of fd within) below_one within steps refl
own_next who p made next (requests.Read fd len) within fine steps =
    let (what, first) = first_own who p made next (requests.Read fd len) fine steps (act_on (descriptor_at p fd).pnode (if is_file (descriptor_at p fd) then act.Give (descriptor_at p fd).offset len else act.Take len)) refl in
    fits_own who p made next (requests.Read fd len) fd 0 (fd_of fd (true_left _ _ (true_left _ _ within))) below_one within steps
    (ap (λ f. shown_read f fd) first ∙ read_is (is_file (descriptor_at p fd)) fd (descriptor_at p fd).offset len)
own_next who p made next (requests.Write fd bytes) within fine steps = write_next who p made next fd bytes within fine steps
own_next who p made next (requests.Seek fd at) within fine steps =
    let (what, first) = first_own who p made next (requests.Seek fd at) fine steps (act_on who (act.Seek fd at)) refl in
    fits_own who p made next (requests.Seek fd at) fd 0 (fd_of fd within) below_one within steps (ap (λ f. shown_seek f fd) first)
own_next who p made next (requests.Truncate fd size) within fine steps = cut_next who p made next fd size within fine steps
own_next who p made next (requests.MakePipe reader writer) within fine steps =
    fits_own who p made next (requests.MakePipe reader writer) reader writer (fd_of reader (true_left _ _ within)) (fd_of writer (true_right (is_fd reader) _ within)) within steps refl
own_next who p made next requests.Fork within fine steps = fits_own who p made next requests.Fork 0 0 (omega arith) below_one within steps refl
own_next who p made next (requests.Exec name args) within fine steps = exec_next who p made next name args within steps
own_next who p made next (requests.WaitChild child) within fine steps =
    let (what, first) = first_own who p made next (requests.WaitChild child) fine steps (act_on child act.Reap) refl in
    fits_own who p made next (requests.WaitChild child) 0 0 (omega arith) below_one within steps (ap (λ w. Some (requests.WaitChild w)) what)
own_next who p made next (requests.Await child) within fine steps =
    let (what, first) = first_own who p made next (requests.Await child) fine steps (act_on child act.Ended) refl in
    fits_own who p made next (requests.Await child) 0 0 (omega arith) below_one within steps (ap (λ w. Some (requests.Await w)) what)
own_next who p made next requests.Exit within fine steps = fits_own who p made next requests.Exit 0 0 (omega arith) below_one within steps refl
own_next who p made next (requests.Rename from to) within fine steps =
    let (what, first) = first_own who p made next (requests.Rename from to) fine steps (act_on 0 (act.Move from to)) refl in
    fits_own who p made next (requests.Rename from to) 0 0 (omega arith) below_one within steps (ap shown_rename first)
own_next who p made next (requests.Unlink name) within fine steps =
    let (what, first) = first_own who p made next (requests.Unlink name) fine steps (act_on 0 (act.Unbind name)) refl in
    fits_own who p made next (requests.Unlink name) 0 0 (omega arith) below_one within steps (ap shown_unlink first)
own_next who p made next (requests.MakeObj fd) within fine steps = fits_own who p made next (requests.MakeObj fd) fd 0 (fd_of fd within) below_one within steps refl
own_next who p made next (requests.Revive fd pnode) within fine steps =
    let (what, first) = first_own who p made next (requests.Revive fd pnode) fine steps (act_on 0 (act.Known pnode)) refl in
    fits_own who p made next (requests.Revive fd pnode) fd 0 (fd_of fd within) below_one within steps (ap (λ f. shown_revive f fd) first)
own_next who p made next (requests.FreezeObj fd) within fine steps = fits_own who p made next (requests.FreezeObj fd) fd 0 (fd_of fd within) below_one within steps refl
own_next who p made next (requests.Disclose target source) within fine steps =
    fits_own who p made next (requests.Disclose target source) target source (fd_of target (true_left _ _ within)) (fd_of source (true_right (is_fd target) _ within)) within steps refl
own_next who p made next (requests.TagObj fd attr value) within fine steps =
    let (what, first) = first_own who p made next (requests.TagObj fd attr value) fine steps (act_on (descriptor_at p fd).pnode (act.Tag attr value)) refl in
    fits_own who p made next (requests.TagObj fd attr value) fd 0 (fd_of fd (true_left _ _ (true_left _ _ within))) below_one within steps (ap (λ f. shown_tag f fd) first)
own_next who p made next (requests.Sync fd) within fine steps = fits_own who p made next (requests.Sync fd) fd 0 (fd_of fd within) below_one within steps refl

abbrev Answered : ℕ → Process → Made → CallName → Step → Type 0
Answered who p made name next = ((made ≡ []) × (denies who p name next.0 next.1 ≡ true)) ⊎ FitsSome who p made name next

answered : (who : ℕ) (p : Process) (made : Made) (next : Step) (r : Request) (o : Option Ask) → refused_ask p r ≡ o → is_within r ≡ true → Follows who p made r next → Answered who p made (name_of r) next
answered who p made next r None e within steps = inr (own_next who p made next r within e steps)
answered who p made next r (Some a) e within steps = inl (denied who p made r next a within e steps)

-- a step that may come next is the call's refusal, or fits the call that the steps show
pub next-complete : (who : ℕ) (p : Process) (made : Made) (name : CallName) (next : Step) → IsNextStep who p made name next → Answered who p made name next
next-complete who p made name next n =
    subst (λ name. Answered who p made name next) n.named (answered who p made next n.request (refused_ask p n.request) refl n.within n.steps)

-- what the tests say together

pub at_refusal : (who : ℕ) (p : Process) (made : Made) (name : CallName) (next : Step) → made ≡ [] → denies who p name next.0 next.1 ≡ true → IsNextStep who p made name next
at_refusal who p made name next none denied_it = subst (λ (made : Made). IsNextStep who p made name next) (sym none) (denial-sound who p name next.0 next.1 denied_it)

pub no_refusal : (who : ℕ) (p : Process) (made : Made) (name : CallName) (next : Step)
    → ((made ≡ []) × (denies who p name next.0 next.1 ≡ true) → ⊥) → IsNextStep who p made name next → FitsSome who p made name next
no_refusal who p made name next none n = elim (next-complete who p made name next n) [ inl it ↦ absurd (none it) | inr fits ↦ fits ]
