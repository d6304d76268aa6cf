-- On a fresh store each write of a drawn trace goes through: its process has sought before, near the file's begin.
use Rattle.std.proofs.Common.{◌≡◌, ◌<◌, ◌≤◌, ◌+◌, ◌-◌, ℕ, zero, suc, List, [], ◌∷◌, ◌++◌, length, take, refl, ap, sym, ◌∙◌, subst, arith, inl, inr, true, false, not, ◌||◌, ◌&&◌, ◌==◌, cond}
use Rattle.std.specs.Prelude.{Option, Some, None, slice_get, drop, nat_lt, if◌then◌else◌}
use Rattle.std.specs.Option.{option_map_or}
use Rattle.std.specs.List.{list_any}
use Rattle.std.specs.FinMap as finite_map
use Rattle.std.specs.Cmp.{nat_cmp_total, unsigned_tied}
use Rattle.std.proofs.lemmas.Bool.Decides.{nat_tests}
use Rattle.std.proofs.lemmas.List.{take-append-drop, length-take, take-take}
use Rattle.std.proofs.lemmas.Option.{slice_get_within}
use Rattle.std.proofs.lemmas.Bool.{false_from_ne_true}
use Rattle.pass_entry.specs.declared.entry.Entry.{Entry}
use Rattle.pass_entry.specs.declared.entry.Act.TheVariants as act
use Rattle.pass_entry.specs.declared.entry.Ask.{Ask}
use Rattle.pass_entry.specs.declared.entry.Ask.TheVariants as ask
use Rattle.pass_entry.specs.declared.entry.CallFault.{CallFault}
use Rattle.pass_entry.specs.declared.entry.CallFault.TheVariants as fault
use Rattle.pass_entry.specs.declared.entry.CallName.TheVariants as call_name
use Rattle.pass_entry.specs.declared.entry.Reply.TheVariants as answer
use Rattle.pass_entry.specs.declared.objects.Descriptor.{Descriptor}
use Rattle.pass_entry.specs.declared.objects.Kind.{Kind}
use Rattle.pass_entry.specs.declared.objects.Kind.TheVariants as kind
use Rattle.pass_entry.specs.declared.objects.Mode.{Mode}
use Rattle.pass_entry.specs.declared.objects.Mode.TheVariants as mode
use Rattle.pass_entry.proofs.Places.{slice_get-take, take_one_more, slice_get-right}
use Rattle.pass_plain.specs.declared.request.Request.TheVariants as requests
use Rattle.pass_plain.specs.Histories.{call_entries, is_fault}
use Rattle.pass_plain.specs.Sessions.{Session}
use Rattle.pass_plain.specs.Registries.{same_kind}
use Rattle.pass_plain.specs.Replies.{reply_to}
use Rattle.pass_plain.specs.Processes.{Process, Held, file_limit, process_act, process_after, changed_at, has_begun, faults_if, same_mode, is_file}
use Rattle.pass_plain.specs.Calls.{Step, act_on, call_steps, refused_ask, descriptor_at, no_descriptor, place_at, is_last, is_last_act}
use Rattle.pass_plain.specs.Legal.{IsLegal, before_call, step_of}
use Rattle.pass_plain.specs.Traces.{Line, LineCall, given, calls_of}
use Rattle.pass_plain.specs.Runs.{IsRun}
use Rattle.pass_plain.proofs.Lists.{some_is, both_true, same_numbers, any_at, within_take, below_or, alike}
use Rattle.pass_plain.proofs.Beginning.{in_call}
use Rattle.pass_plain.proofs.Calling.{legal_take, of_call}
use Rattle.pass_plain.proofs.TwoPrefixes.{process-append, caller_agrees, begun_more}
use Rattle.pass_replay.specs.Ends.{NoneOpen}
use Rattle.pass_drawn.specs.Runs.{drawn_trace}
use Rattle.pass_drawn.proofs.Answered.{last_entry, entry_named}
use Rattle.pass_drawn.proofs.Counting.{pnode}
use Rattle.pass_drawn.proofs.Calls.{call_step}
use Rattle.pass_drawn.proofs.Acts.{IsShared}
use Rattle.pass_drawn.proofs.Opened.{HasShared}
use Rattle.pass_drawn.proofs.Sharing.{IsCallStart, call_start, ordered, acting, shared_at, child_opener, child_shared}
use Rattle.pass_drawn.proofs.Turns.{seek_before}

-- what a process that holds the file refuses

seeks_fine : (at : ℕ) → at < 65536 → nat_lt file_limit at ≡ false
seeks_fine at near = grind (arith, nat_tests)

seek_allowed : (p : Process) (at : ℕ) → HasShared p.descriptors → at < 65536 → refused_ask p (requests.Seek 3 at) ≡ None
seek_allowed p at (d, held, shared) near =
    ap (λ o. option_map_or (λ f. Some (ask.ToSeek 3 at)) (option_map_or (λ d. faults_if (not (is_file d)) fault.BadMode (faults_if (nat_lt file_limit at) fault.TooBig None)) o (Some fault.BadFd)) None) held
    ∙ ap (λ k. option_map_or (λ f. Some (ask.ToSeek 3 at)) (faults_if (not (same_kind k kind.File)) fault.BadMode (faults_if (nat_lt file_limit at) fault.TooBig None)) None) shared.0
    ∙ ap (λ b. option_map_or (λ f. Some (ask.ToSeek 3 at)) (faults_if b fault.TooBig None) None) (seeks_fine at near)

writes_fine : (at len : ℕ) → at < 65536 → len ≤ 4096 → nat_lt file_limit (at + len) ≡ false
writes_fine at len near short = grind (arith, nat_tests)

abbrev judged : Kind → Mode → ℕ → ℕ → Option CallFault
judged k m at len =
    faults_if (same_kind k kind.App || same_mode m mode.Read) fault.BadMode (faults_if (same_kind k kind.File && nat_lt file_limit (at + len)) fault.TooBig None)

write_allowed : (p : Process) (bytes : List ℕ) (d : Descriptor) → finite_map.get p.descriptors 3 ≡ Some d → IsShared d → d.offset < 65536 → length bytes ≤ 4096 → refused_ask p (requests.Write 3 bytes) ≡ None
write_allowed p bytes d held shared near short =
    ap (λ o. option_map_or (λ f. Some (ask.ToWrite 3 (length bytes))) (option_map_or (λ (d : Descriptor). judged d.kind d.mode d.offset (length bytes)) o (Some fault.BadFd)) None) held
    ∙ (λ i. option_map_or (λ f. Some (ask.ToWrite 3 (length bytes))) (judged (shared.0 i) (shared.1 i) d.offset (length bytes)) None)
    ∙ ap (λ b. option_map_or (λ f. Some (ask.ToWrite 3 (length bytes))) (faults_if b fault.TooBig None) None) (writes_fine d.offset (length bytes) near short)

steps_if : (who : ℕ) (steps : List Step) (o : Option Ask) → o ≡ None → option_map_or (λ a. act_on who (act.Deny a) ∷ []) o steps ≡ steps
steps_if who steps None is = refl
steps_if who steps (Some a) is = absurd (cc)

-- a seek puts the descriptor there
sought : (held : Held) (at : ℕ) → HasShared held → (d : Descriptor) × (finite_map.get (changed_at held 3 (λ d. record d { offset = at })) 3 ≡ Some d) × IsShared d × (d.offset ≡ at)
sought held at (d, is, shared) =
    let there : Descriptor = record d { offset = at } in (
      there,
      ap (λ o. finite_map.get (option_map_or (λ (d : Descriptor). finite_map.insert held 3 (record d { offset = at })) o held) 3) is ∙ finite_map.get-insert nat_cmp_total held 3 there 3
          ∙ ap (λ b. cond b (Some there) (finite_map.get held 3)) (unsigned_tied 3 3),
      shared,
      refl,
    )

module _ (session : Session) (number lines : ℕ) (history : List Entry) (run : IsRun session (drawn_trace number lines) history) (some_object : 1 ≤ session.objects)
    (closed : NoneOpen session (drawn_trace number lines) history)
    (no_files : session.start.files.items ≡ []) (no_apps : session.start.apps.items ≡ []) (room : 2 ≤ session.objects)
    (q who : ℕ) (least : 2 ≤ q) (begun : pnode session number lines history run some_object closed q ≡ Some who) where
  abbrev trace : List Line
  trace = drawn_trace number lines

  -- the one entry of a seek
  record IsSought (j at : ℕ) : Type 0 where
    place : ℕ
    entry : Entry
    stands : slice_get history place ≡ Some entry
    by : entry.who ≡ who
    numbered : entry.number ≡ j + 1
    on : entry.what ≡ who
    seeks : entry.act ≡ act.Seek 3 at
    done : is_fault entry.reply ≡ false
    only : (i : ℕ) (f : Entry) → slice_get history i ≡ Some f → f.who ≡ who → f.number ≡ j + 1 → i ≡ place

  seek_entry : (j at : ℕ) → slice_get (calls_of trace q) j ≡ Some (given (requests.Seek 3 at)) → at < 65536 → IsSought j at
  seek_entry j at stands near =
      let call : LineCall = given (requests.Seek 3 at) in
      let made = call_entries history who (j + 1) in
      let p = before_call history who (j + 1) in
      let (m, there, last) = last_entry session number lines history run some_object closed q who j call begun stands in
      let (found, by, its) = of_call history who (j + 1) (length made - 1) m there in
      let has = child_shared session number lines history run some_object closed no_files no_apps room q who (j + 1) m.0 m.1 least begun found by its (omega arith) in
      let steps : call_steps who p made (requests.Seek 3 at) ≡ act_on who (act.Seek 3 at) ∷ [] = steps_if who (act_on who (act.Seek 3 at) ∷ []) (refused_ask p (requests.Seek 3 at)) (seek_allowed p at has near) in
      let step_at : (k : ℕ) (n : ℕ × Entry) → slice_get made k ≡ Some n → slice_get (act_on who (act.Seek 3 at) ∷ []) k ≡ Some (step_of n) = λ k n here.
      ap (λ ss. slice_get ss k) (sym steps) ∙ call_step session number lines history run q who j call begun stands k n here in
      let is : act_on who (act.Seek 3 at) ≡ step_of m = only_step (act_on who (act.Seek 3 at)) (step_of m) (length made - 1) (step_at (length made - 1) m there) in
      let replied = (run.legal m.0 m.1 found).replied in
      record {
        place = m.0;
        entry = m.1;
        stands = found;
        by = by;
        numbered = its;
        on = ap (λ (s : Step). s.0) (sym is);
        seeks = ap (λ (s : Step). s.1) (sym is);
        done = ap is_fault (sym (some_is answer.Done m.1.reply (ap (λ (s : Step). reply_to session (take m.0 history) s.0 s.1) is ∙ replied)));
        only = λ i f here w n.
            let (k, in_made) = in_call history i f who (j + 1) here w n in
            let zero_k = within_one (act_on who (act.Seek 3 at)) (step_of (i, f)) k (step_at k (i, f) in_made) in
            let zero_m = within_one (act_on who (act.Seek 3 at)) (step_of m) (length made - 1) (step_at (length made - 1) m there) in
            let same : (i, f) ≡ m = some_is (i, f) m (sym in_made ∙ ap (λ k. slice_get made k) (zero_k ∙ sym zero_m) ∙ there) in
            ap (λ (m : ℕ × Entry). m.0) same;
      }
    where
      within_one : (s t : Step) (k : ℕ) → slice_get (s ∷ []) k ≡ Some t → k ≡ 0
      within_one s t zero at = refl
      within_one s t (suc k) at = absurd (cc)

      only_step : (s t : Step) (k : ℕ) → slice_get (s ∷ []) k ≡ Some t → s ≡ t
      only_step s t zero at = some_is s t at
      only_step s t (suc k) at = absurd (cc)

  -- the state right behind it
  behind_seek : (j at : ℕ) (s : IsSought j at) → (d : Descriptor) × (finite_map.get (process_after (take (suc s.place) history) who).descriptors 3 ≡ Some d) × IsShared d × (d.offset ≡ at)
  behind_seek j at s =
      let numbered = s.numbered in
      let has = shared_at session number lines history run some_object closed no_files no_apps room who s.place s.entry s.stands s.by (omega (arith, numbered))
      (child_opener session number lines history run some_object closed no_files no_apps room q who s.place s.entry least begun s.stands s.by (omega (arith, numbered))) in
      let past = take s.place history in
      let p = process_after past who in
      let own : (s.entry.what == who && not (is_fault s.entry.reply)) ≡ true = both_true (s.entry.what == who) (not (is_fault s.entry.reply)) (alike s.entry.what who s.on) (ap not s.done) in
      let state : process_after (take (suc s.place) history) who ≡ process_act past p (act.Seek 3 at) =
      ap (λ h. process_after h who) (take_one_more history s.place s.entry s.stands) ∙ process-append past s.entry who
      ∙ ap (λ b. cond b (process_act past p s.entry.act) p) own ∙ ap (λ a. process_act past p a) s.seeks in
      let (d, is, shared, there) = sought p.descriptors at has in
      (d, ap (λ (p : Process). finite_map.get p.descriptors 3) state ∙ is, shared, there)

  -- before the call behind it
  behind : (j at : ℕ) → slice_get (calls_of trace q) j ≡ Some (given (requests.Seek 3 at)) → at < 65536 → (i : ℕ) (f : Entry) → slice_get history i ≡ Some f → f.who ≡ who → f.number ≡ j + 1 + 1
      → (d : Descriptor) × (finite_map.get (before_call history who (j + 1 + 1)).descriptors 3 ≡ Some d) × IsShared d × (d.offset ≡ at)
  behind j at stands near i f here w n =
      let s = seek_entry j at stands near in
      let c = call_start session number lines history run some_object closed no_files no_apps room who (j + 1 + 1) i f here w n in
      let numbered = s.numbered in
      let its_number = c.numbered_as in
      let before : s.place < c.place = ordered session number lines history run some_object closed no_files no_apps room s.place c.place s.entry c.entry s.stands c.stands (s.by ∙ sym c.by) (omega (arith, numbered, its_number)) in
      let seen = take (suc s.place) history in
      let whole = take c.place history in
      let later = drop (suc s.place) whole in
      let front : take (suc s.place) whole ≡ seen = take-take (suc s.place) c.place history (omega (arith, before)) in
      let parts : seen ++ later ≡ whole = ap (λ xs. xs ++ later) (sym front) ∙ take-append-drop (suc s.place) whole in
      let none : list_any (λ (e : Entry). e.who == who) later ≡ false = false_from_ne_true (list_any (λ (e : Entry). e.who == who) later) (λ some. quiet s c parts front some) in
      let has : has_begun seen who ≡ true = seen_begun s in
      let same = (caller_agrees session seen later who (subst (λ h. IsLegal session h) (sym parts) (legal_take session history c.place run.legal)) has none).process in
      let (d, is, shared, there) = behind_seek j at s in
      (d, ap (λ (p : Process). finite_map.get p.descriptors 3) (c.state ∙ ap (λ h. process_after h who) (sym parts) ∙ same) ∙ is, shared, there)
    where
      seen_begun : (s : IsSought j at) → has_begun (take (suc s.place) history) who ≡ true
      seen_begun s =
          let numbered = s.numbered in
          let has = (acting session number lines history run some_object closed no_files no_apps room s.place s.entry s.stands (omega (arith, numbered))).0 in
          ap (λ h. has_begun h who) (take_one_more history s.place s.entry s.stands)
          ∙ begun_more (take s.place history) s.entry who (ap (λ w. has_begun (take s.place history) w) (sym s.by) ∙ has)

      quiet : (s : IsSought j at) (c : IsCallStart session number lines history run some_object closed no_files no_apps room who (j + 1 + 1))
          → take (suc s.place) history ++ drop (suc s.place) (take c.place history) ≡ take c.place history → take (suc s.place) (take c.place history) ≡ take (suc s.place) history
          → list_any (λ (e : Entry). e.who == who) (drop (suc s.place) (take c.place history)) ≡ true → ⊥
      quiet s c parts front some =
          let (k, g, there, pass) = any_at (λ (e : Entry). e.who == who) (drop (suc s.place) (take c.place history)) some in
          let by : g.who ≡ who = same_numbers g.who who pass in
          let seen = take (suc s.place) history in
          let size : length seen ≡ suc s.place = (let a = length-take (suc s.place) history in let b = slice_get_within history s.place s.entry s.stands in omega (arith, a, b)) in
          let place = length seen + k in
          let in_whole : slice_get (take c.place history) place ≡ Some g = ap (λ h. slice_get h place) (sym parts) ∙ slice_get-right seen (drop (suc s.place) (take c.place history)) k g there in
          let less = within_take c.place place history g in_whole in
          let stands_g = slice_get-take c.place place history g in_whole in
          let numbered = s.numbered in
          let its_number = c.numbered_as in
          elim (below_or g.number (j + 1)) [
            | inl under ↦
                let z = ordered session number lines history run some_object closed no_files no_apps room place s.place g s.entry stands_g s.stands (by ∙ sym s.by) (omega (arith, under, numbered)) in
                omega (arith, z, size)
            | inr r ↦ elim r [
              | inr equal_number ↦ (let z = s.only place g stands_g by equal_number in omega (arith, z, size))
              | inl over ↦ elim (below_or g.number (j + 1 + 1)) [
                | inl middle ↦ omega (arith, over, middle)
                | inr t ↦ elim t [
                  | inr its ↦ c.before place g less stands_g by its
                  | inl above ↦
                      let z = ordered session number lines history run some_object closed no_files no_apps room c.place place c.entry g c.stands stands_g (c.by ∙ sym by) (omega (arith, above, its_number)) in
                      omega (arith, z, less)
                ]
              ]
            ]
          ]

  -- the entry by which a write puts its bytes into the file
  pub record IsPut (k : ℕ) (bytes : List ℕ) (m : ℕ × Entry) : Type 0 where
    pub out : ℕ
    pub offset : ℕ
    pub puts : m.1.act ≡ act.Put out offset bytes
    pub done : is_fault m.1.reply ≡ false

  pub written : (k : ℕ) (bytes : List ℕ) → slice_get (calls_of trace q) k ≡ Some (given (requests.Write 3 bytes)) → length bytes ≤ 4096 → (m : ℕ × Entry)
      → slice_get (call_entries history who (k + 1)) (length (call_entries history who (k + 1)) - 1) ≡ Some m → is_last (before_call history who (k + 1)) m.1 ≡ true → IsPut k bytes m
  written k bytes stands short m at last =
      let (j, place, same, sought_at, near) = seek_before number lines q k 3 bytes least stands in
      let number_is : j + 1 + 1 ≡ k + 1 = omega (arith, same) in
      let made = call_entries history who (k + 1) in
      let (found, by, its) = of_call history who (k + 1) (length made - 1) m at in
      let (d, held, shared, there) = behind j place sought_at near m.0 m.1 found by (its ∙ sym number_is) in
      let p = before_call history who (k + 1) in
      let held_now : finite_map.get p.descriptors 3 ≡ Some d = ap (λ n. finite_map.get (before_call history who n).descriptors 3) (sym number_is) ∙ held in
      let fine = write_allowed p bytes d held_now shared (omega (arith, there, near)) short in
      let file : is_file (descriptor_at p 3) ≡ true = ap (λ o. is_file (option_map_or (λ d. d) o no_descriptor)) held_now ∙ ap (λ k. same_kind k kind.File) shared.0 in
      let own : List Step = act_on who (act.Show 3 (length bytes)) ∷ act_on (descriptor_at p 3).pnode (act.Put (place_at made 0) (descriptor_at p 3).offset bytes) ∷ [] in
      let steps : call_steps who p made (requests.Write 3 bytes) ≡ own =
      steps_if who (act_on who (act.Show 3 (length bytes))
      ∷ act_on (descriptor_at p 3).pnode (if is_file (descriptor_at p 3) then act.Put (place_at made 0) (descriptor_at p 3).offset bytes else act.Push (place_at made 0) bytes) ∷ [])
      (refused_ask p (requests.Write 3 bytes)) fine
      ∙ ap (λ b. act_on who (act.Show 3 (length bytes)) ∷ act_on (descriptor_at p 3).pnode (if b then act.Put (place_at made 0) (descriptor_at p 3).offset bytes else act.Push (place_at made 0) bytes) ∷ []) file in
      let step = ap (λ ss. slice_get ss (length made - 1)) (sym steps) ∙ call_step session number lines history run q who k (given (requests.Write 3 bytes)) begun stands (length made - 1) m at in
      let named = entry_named session number lines history run some_object closed q who k (given (requests.Write 3 bytes)) begun stands (length made - 1) m at in
      let replied = (run.legal m.0 m.1 found).replied in
      at_step (place_at made 0) (descriptor_at p 3).pnode (descriptor_at p 3).offset (length made - 1) step named replied
    where
      at_step : (out pnode offset n : ℕ) → slice_get (act_on who (act.Show 3 (length bytes)) ∷ act_on pnode (act.Put out offset bytes) ∷ []) n ≡ Some (step_of m) → m.1.call ≡ call_name.Write
          → reply_to session (take m.0 history) m.1.what m.1.act ≡ Some m.1.reply → IsPut k bytes m
      at_step out pnode offset zero step named replied =
          let is : act_on who (act.Show 3 (length bytes)) ≡ step_of m = some_is (act_on who (act.Show 3 (length bytes))) (step_of m) step in
          let done : answer.Done ≡ m.1.reply = some_is answer.Done m.1.reply (ap (λ (s : Step). reply_to session (take m.0 history) s.0 s.1) is ∙ replied) in
          let p = before_call history who (k + 1) in
          absurd (
          let z : false ≡ true = ap (λ (s : Step). is_last_act p call_name.Write s.1) is ∙ ap (λ c. is_last_act p c m.1.act) (sym named)
          ∙ ap (λ y. is_fault y || is_last_act p m.1.call m.1.act) done ∙ last in cc)
      at_step out pnode offset (suc zero) step named replied =
          let is : act_on pnode (act.Put out offset bytes) ≡ step_of m = some_is (act_on pnode (act.Put out offset bytes)) (step_of m) step in
          record {
            out = out;
            offset = offset;
            puts = ap (λ (s : Step). s.1) (sym is);
            done = ap is_fault (sym (some_is answer.Done m.1.reply (ap (λ (s : Step). reply_to session (take m.0 history) s.0 s.1) is ∙ replied)));
          }
      at_step out pnode offset (suc (suc n)) step named replied = absurd (cc)
