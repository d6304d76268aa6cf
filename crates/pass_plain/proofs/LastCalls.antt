-- A process's last call, and what it is judged by, after one more entry of a legal history.
use Rattle.std.proofs.Common.{◌≡◌, ◌<◌, ℕ, List, [], ◌∷◌, ◌++◌, length, refl, ap, sym, ◌∙◌, subst, arith, ◌⊎◌, inl, inr, Bool, true, false, ◌&&◌, ◌||◌, ◌==◌, cond}
use Rattle.std.specs.Prelude.{Option, Some, None, IfSome, fold, ◌^◌, if◌then◌else◌}
use Rattle.std.specs.List.{list_any, before_first}
use Rattle.std.proofs.lemmas.Bool.Decides.{nat_tests}
use Rattle.std.proofs.lemmas.List.Folds.{list_any-append}
use Rattle.std.specs.FinMap as finite_map
use Rattle.std.proofs.lemmas.Bool.{or_right}
use Rattle.std.proofs.lemmas.List.{append-nil}
use Rattle.pass_entry.specs.declared.objects.Descriptor.{Descriptor}
use Rattle.pass_plain.specs.Registries.{Registry, registry_after}
use Rattle.pass_plain.specs.Lawful.{IsGoodDescriptor}
use Rattle.pass_plain.proofs.Holding.{good_processes}
use Rattle.pass_entry.specs.declared.entry.Entry.{Entry}
use Rattle.pass_entry.specs.declared.entry.Act.{Act}
use Rattle.pass_entry.specs.declared.entry.Act.TheVariants as act
use Rattle.pass_plain.specs.Histories.{is_of_call, call_entries}
use Rattle.pass_plain.specs.Sessions.{Session}
use Rattle.pass_plain.specs.Processes.{Process, process_after, begins, has_begun, is_file, AllBelow64, OffsetsFit}
use Rattle.pass_plain.specs.Calls.{Made, Step}
use Rattle.pass_plain.specs.Legal.{IsLegal, MayFollow, before_call, last_number}
use Rattle.pass_plain.specs.States.{Call, noted, IsLastCall, IsLawful}
use Rattle.pass_plain.proofs.Lists.{both_true, same_itself, same_numbers}
use Rattle.pass_plain.proofs.Calling.{last_if, numbered, next_number, last_number-append, call_entries-append, row}
use Rattle.pass_plain.proofs.TwoPrefixes.{first_hit, first_miss}
use Rattle.pass_plain.proofs.Playing.{before_hit, before_new, no_calls}
use Rattle.pass_plain.proofs.Rows.{Row}

kept_if : {X : Type 0} (p : X → Bool) (x : X) (xs : List X) (y : X) → (list_any p xs ≡ true → before_first p (xs ++ y ∷ []) ≡ before_first p xs)
    → (b : Bool) → p x ≡ b → b || list_any p xs ≡ true → before_first p (x ∷ xs ++ y ∷ []) ≡ before_first p (x ∷ xs)
kept_if p x xs y later true t any = first_hit p x (xs ++ y ∷ []) t ∙ sym (first_hit p x xs t)
kept_if p x xs y later false t any = first_miss p x (xs ++ y ∷ []) t ∙ ap (λ zs. x ∷ zs) (later any) ∙ sym (first_miss p x xs t)

-- what stands before the first element that passes is the same in a longer list
pub before_kept : {X : Type 0} (p : X → Bool) (xs : List X) (y : X) → list_any p xs ≡ true → before_first p (xs ++ y ∷ []) ≡ before_first p xs
before_kept p [] y any = absurd (cc)
before_kept p (x ∷ xs) y any = kept_if p x xs y (before_kept p xs y) (p x) refl any

abbrev number_by : ℕ → ℕ → Entry → ℕ
number_by who n e = if e.who == who then e.number else n

abbrev Called : ℕ → List Entry → ℕ → Type 0
Called who es n = (fold (number_by who) n es ≡ n) ⊎ (list_any (is_of_call who (fold (number_by who) n es)) es ≡ true)

called_if : (who n : ℕ) (e : Entry) (es : List Entry) → ((m : ℕ) → Called who es m) → (b : Bool) → (e.who == who) ≡ b → Called who (e ∷ es) n
called_if who n e es later false t =
    let same : number_by who n e ≡ n = ap (λ b. cond b e.number n) t in
    elim (later (number_by who n e)) [
      | inl l ↦ inl (l ∙ same)
      | inr r ↦ inr (or_right (is_of_call who (fold (number_by who) (number_by who n e) es) e) _ r)
    ]
called_if who n e es later true t =
    let own : number_by who n e ≡ e.number = ap (λ b. cond b e.number n) t in
    elim (later (number_by who n e)) [
      | inl l ↦ inr (ap (λ k. is_of_call who k e || list_any (is_of_call who k) es) (l ∙ own) ∙ ap (λ b. b || list_any (is_of_call who e.number) es) (both_true (e.who == who) (e.number == e.number) t (same_itself e.number)))
      | inr r ↦ inr (or_right (is_of_call who (fold (number_by who) (number_by who n e) es) e) _ r)
    ]

called_from : (who : ℕ) (es : List Entry) (n : ℕ) → Called who es n
called_from who [] n = inl refl
called_from who (e ∷ es) n = called_if who n e es (called_from who es) (e.who == who) refl

-- the last call has an entry
last_called : (history : List Entry) (who : ℕ) → 0 < last_number history who → list_any (is_of_call who (last_number history who)) history ≡ true
last_called history who some = elim (called_from who history 0) [ inl l ↦ absurd (omega (arith, l, some)) | inr r ↦ r ]

before_same : (history : List Entry) (e : Entry) (who number : ℕ) → 0 < number → number ≡ last_number history who
    → before_call (history ++ e ∷ []) who number ≡ before_call history who number
before_same history e who number some last =
    let any : list_any (is_of_call who number) history ≡ true = ap (λ n. list_any (is_of_call who n) history) last ∙ last_called history who (subst (λ n. 0 < n) last some) in
    ap (λ h. process_after h who) (before_kept (is_of_call who number) history e any)

entries_grown : (history : List Entry) (e : Entry) (who number : ℕ) (b : Bool) → is_of_call who number e ≡ b
    → call_entries (history ++ e ∷ []) who number ≡ call_entries history who number ++ cond b ((length history, e) ∷ []) []
entries_grown history e who number b t = call_entries-append history e who number ∙ ap (λ b. call_entries history who number ++ cond b ((length history, e) ∷ []) []) t

module _ (session : Session) (history : List Entry) (e : Entry) (legal : IsLegal session history) (next : MayFollow session history e) (who : ℕ) (call : Call) where
  by_other : (e.who == who) ≡ false → IsLastCall history who call → IsLastCall (history ++ e ∷ []) who call
  by_other t is = record {
    number = is.number ∙ sym (last_if history e who false t);
    before = λ some. is.before some ∙ sym (before_same history e who call.number some is.number);
    made = λ some. is.made some ∙ sym (entries_grown history e who call.number false (ap (λ b. b && e.number == call.number) t) ∙ append-nil _);
  }

  goes_on : (e.who == who) ≡ true → (e.number == call.number) ≡ true → IsLastCall history who call
      → IsLastCall (history ++ e ∷ []) who (record call { made = call.made ++ (length history, e) ∷ [] })
  goes_on t n is = record {
    number = sym (last_if history e who true t ∙ same_numbers _ _ n);
    before = λ some. is.before some ∙ sym (before_same history e who call.number some is.number);
    made = λ some. ap (λ made. made ++ (length history, e) ∷ []) (is.made some) ∙ sym (entries_grown history e who call.number true (both_true _ _ t n));
  }

  begins_next : (e.who == who) ≡ true → (e.number == call.number) ≡ false → IsLastCall history who call
      → IsLastCall (history ++ e ∷ []) who (record { number = e.number; before = process_after history who; made = (length history, e) ∷ [] })
  begins_next t n is =
      let by : e.who ≡ who = same_numbers _ _ t in
      let (least, most) = next_number session history e next in
      let last : last_number history e.who ≡ call.number = ap (λ w. last_number history w) by ∙ sym is.number in
      let above : last_number history who < e.number = grind (arith, nat_tests, least, last, n, is.number) in
      let below = (numbered session history legal).below in
      let none : call_entries history who e.number ≡ [] =
      no_calls history who e.number (λ i f at w k. let b = below i f at in let s = ap (λ w. last_number history w) w in omega (arith, b, s, k, above)) in
      let pass = both_true (e.who == who) (e.number == e.number) t (same_itself e.number) in
      record {
        number = sym (last_if history e who true t);
        before = λ some. sym (ap (λ h. process_after h who) (before_hit (is_of_call who e.number) history e pass) ∙ before_new history who e.number none);
        made = λ some. sym (entries_grown history e who e.number true pass ∙ ap (λ made. made ++ (length history, e) ∷ []) none);
      }

  -- the last call after one more entry
  pub noted_is : IsLastCall history who call → IsLastCall (history ++ e ∷ []) who (noted call (process_after history who) (length history) who e)
  noted_is is = at_who (e.who == who) refl (e.number == call.number) refl
    where
      at_who : (b : Bool) → (e.who == who) ≡ b → (d : Bool) → (e.number == call.number) ≡ d
          → IsLastCall (history ++ e ∷ []) who (cond b (cond d (record call { made = call.made ++ (length history, e) ∷ [] })
          (record { number = e.number; before = process_after history who; made = (length history, e) ∷ [] })) call)
      at_who true t true n = goes_on t n is
      at_who true t false n = begins_next t n is
      at_who false t d n = by_other t is

-- a process has begun, after one more entry
pub begun_next : (history : List Entry) (e : Entry) (who : ℕ) → has_begun (history ++ e ∷ []) who ≡ (has_begun history who || begins who e.call e.act e.what e.reply)
begun_next history e who = list_any-append (λ e. begins who e.call e.act e.what e.reply) history (e ∷ []) ∙ ap (λ b. has_begun history who || b) (or_none (begins who e.call e.act e.what e.reply))
  where
    or_none : (b : Bool) → b || false ≡ b
    or_none true = refl
    or_none false = refl

below_of_row : (who : ℕ) (p : Process) (made : Made) (steps : List Step) (k what : ℕ) (a : Act) → Row who p made steps k what a → AllBelow64 a
below_of_row who p made steps k what (act.Attach fd d) r = r.2
below_of_row who p made steps k what (act.AttachPipe reader writer n) r = (r.2, r.3)
below_of_row who p made steps k what (act.Seek fd at) r = r.2
below_of_row who p made steps k what (act.Show fd len) r = r.2
below_of_row who p made steps k what (act.Gain out fd) r = r.2
below_of_row who p made steps k what _ r = tt

-- an entry that may come next names descriptors below 64
pub numbers_below : (session : Session) (history : List Entry) (e : Entry) → IsLegal session history → MayFollow session history e → AllBelow64 e.act
numbers_below session history e legal next =
    below_of_row e.who (before_call history e.who e.number) (call_entries history e.who e.number) _ _ e.what e.act (row session history e legal next)

offset_fits : (r : Registry) (fd : ℕ) (d : Descriptor) → IsGoodDescriptor r fd d → (b : Bool) → is_file d ≡ b → d.offset < 2 ^ 63
offset_fits r fd d good true t = let o = good.in_file t in omega (arith, o)
offset_fits r fd d good false t = let o = good.elsewhere t in omega (arith, o)

fits_if : (p : Process) (fd : ℕ) → ((d : Descriptor) → finite_map.get p.descriptors fd ≡ Some d → d.offset < 2 ^ 63) → (o : Option Descriptor) → finite_map.get p.descriptors fd ≡ o
    → IfSome o (λ d. d.offset < 2 ^ 63)
fits_if p fd fits None e = tt
fits_if p fd fits (Some d) e = fits d e

-- the offsets of a process leave room for one more transfer
pub offsets_fit : (history : List Entry) (who : ℕ) → IsLawful history → OffsetsFit (process_after history who).descriptors
offsets_fit history who (session, sound, legal) = λ fd.
    let p = process_after history who in
    let good = good_processes session sound history legal who in
    fits_if p fd (λ d at. offset_fits (registry_after session history) fd d (good.held fd d at) (is_file d) refl) (finite_map.get p.descriptors fd) refl
