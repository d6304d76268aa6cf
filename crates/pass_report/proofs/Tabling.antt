-- The calls of a history after one more entry.
use Rattle.std.proofs.Common.{◌≡◌, ◌==◌, ◌<◌, ◌≤◌, ℕ, List, [], ◌∷◌, ◌++◌, length, refl, ap, sym, ◌∙◌, Bool, true, false, ◌||◌, ◌&&◌, cond, arith, inl, inr}
use Rattle.std.specs.Prelude.{Some, None, is_some, slice_get, nat_lt, if◌then◌else◌}
use Rattle.std.specs.Option.{option_map_or}
use Rattle.std.specs.Ordering.{nat_cmp, is_eq}
use Rattle.std.specs.Cmp.{unsigned_tied}
use Rattle.pass_report.specs.declared.calls.LastCall.{LastCall}
use Rattle.std.specs.BTreeMap.{BTreeMap, get, Updates}
use Rattle.std.proofs.lemmas.List.{length-append, append-nil}
use Rattle.std.proofs.lemmas.Bool.Decides.{nat_tests}
use Rattle.std.proofs.lemmas.Map.Lookups.{exact_pairs, exact_unsigned}
use Rattle.pass_entry.specs.declared.entry.Entry.{Entry}
use Rattle.pass_plain.specs.Histories.{is_of_call, call_entries, pnode_of}
use Rattle.pass_plain.specs.Sessions.{Session}
use Rattle.pass_plain.specs.Processes.{process_after, has_begun, begins}
use Rattle.pass_plain.specs.Calls.{Made, is_last}
use Rattle.pass_plain.specs.Legal.{IsLegal, MayFollow, before_call, last_number, is_over, ends_call}
use Rattle.pass_plain.specs.Traces.{Line}
use Rattle.pass_plain.specs.Runs.{IsRun}
use Rattle.pass_plain.proofs.Lists.{some_is, true_left, true_right, same_numbers, same_itself, below_is, not_below, is_equal}
use Rattle.pass_plain.proofs.Calling.{call_entries-append, last_number-append, legal_induction, acts-cases, numbered}
use Rattle.pass_plain.proofs.LastCalls.{begun_next}
use Rattle.pass_plain.proofs.Playing.{before_hit, no_calls}
use Rattle.pass_plain.proofs.OtherCalls.{other_over, ends_last}
use Rattle.pass_report.specs.declared.calls.Calls.{Calls}
use Rattle.pass_report.specs.CallTables.{makes_process, call_cmp, number_in, ended_in, child_in, IsCallTable}

same_call : (a b : ℕ × ℕ) → is_eq (call_cmp a b) ≡ true → a ≡ b
same_call a b e = exact_pairs nat_cmp nat_cmp exact_unsigned exact_unsigned a b (is_equal (call_cmp a b) e)

-- a key that was free
module _ (m n : BTreeMap (ℕ × ℕ) ℕ) (key : ℕ × ℕ) (v : ℕ) (updates : Updates call_cmp m n key (Some v)) where
  pub kept_at : is_some (get call_cmp m key) ≡ false → (q : ℕ × ℕ) (child : ℕ) → get call_cmp m q ≡ Some child → get call_cmp n q ≡ Some child
  kept_at free q child at = updates.0 q ∙ by_test (is_eq (call_cmp key q)) refl
    where
      by_test : (b : Bool) → is_eq (call_cmp key q) ≡ b → cond b (Some v) (get call_cmp m q) ≡ Some child
      by_test true is = absurd (let z : false ≡ true = sym free ∙ ap (λ q. is_some (get call_cmp m q)) (same_call key q is) ∙ ap is_some at in cc)
      by_test false is = at

  pub other_at : (q : ℕ × ℕ) → (key.0 == q.0 && key.1 == q.1) ≡ false → get call_cmp n q ≡ get call_cmp m q
  other_at q other = updates.0 q ∙ by_test (is_eq (call_cmp key q)) refl
    where
      by_test : (b : Bool) → is_eq (call_cmp key q) ≡ b → cond b (Some v) (get call_cmp m q) ≡ get call_cmp m q
      by_test true is =
          let same = same_call key q is in
          absurd (let z : true ≡ false = sym (itself q) ∙ ap (λ k. k.0 == q.0 && k.1 == q.1) (sym same) ∙ other in cc)
        where
          itself : (q : ℕ × ℕ) → (q.0 == q.0 && q.1 == q.1) ≡ true
          itself q = ap (λ b. b && q.1 == q.1) (same_itself q.0) ∙ same_itself q.1
      by_test false is = refl

-- the value at a key of a map to which a value was given
at_number : {X Y : Type 0} (m n : BTreeMap ℕ X) (k : ℕ) (v : X) → Updates nat_cmp m n k (Some v) → (f : X → Y) (d : Y) (q : ℕ)
    → option_map_or f (get nat_cmp n q) d ≡ (if k == q then f v else option_map_or f (get nat_cmp m q) d)
at_number {X} {Y} m n k v updates f d q =
    ap (λ o. option_map_or f o d) (updates.0 q) ∙ by_test (is_eq (nat_cmp k q))
    ∙ ap (λ b. if b then f v else option_map_or f (get nat_cmp m q) d) (unsigned_tied k q)
  where
    by_test : (b : Bool) → option_map_or f (cond b (Some v) (get nat_cmp m q)) d ≡ (if b then f v else option_map_or f (get nat_cmp m q) d)
    by_test true = refl
    by_test false = refl

-- the calls of a history with one more entry

pub over_own : (past : List Entry) (e : Entry) → is_over (past ++ e ∷ []) e.who e.number ≡ is_last (before_call past e.who e.number) e
over_own past e =
    let hit : is_of_call e.who e.number e ≡ true = ap (λ b. b && e.number == e.number) (same_itself e.who) ∙ same_itself e.number in
    ap (λ h. ends_call (process_after h e.who) (call_entries (past ++ e ∷ []) e.who e.number)) (before_hit (is_of_call e.who e.number) past e hit)
    ∙ ap (ends_call (before_call past e.who e.number))
    (call_entries-append past e e.who e.number ∙ ap (λ b. call_entries past e.who e.number ++ cond b ((length past, e) ∷ []) []) hit)
    ∙ ends_last (before_call past e.who e.number) (call_entries past e.who e.number) (length past, e)

module _ (past : List Entry) (e : Entry) (c d : Calls) (ended : Bool) where
  abbrev call : LastCall
  call = record { number = e.number; ended = ended }

  module _ (updates : Updates nat_cmp c.last d.last e.who (Some call)) (ends : ended ≡ is_last (before_call past e.who e.number) e)
      (made : makes_process e.act ≡ true → child_in c e.who e.number ≡ None → child_in d e.who e.number ≡ Some (pnode_of e.reply))
      (kept : (who number child : ℕ) → child_in c who number ≡ Some child → child_in d who number ≡ Some child)
      (others : (who number : ℕ) → is_of_call who number e ≡ false → child_in d who number ≡ child_in c who number)
      (table : IsCallTable past c) where
    numbers : (who : ℕ) → number_in d who ≡ last_number (past ++ e ∷ []) who
    numbers who =
        at_number c.last d.last e.who call updates (λ l. l.number) 0 who
        ∙ ap (λ n. if e.who == who then e.number else n) (table.number who) ∙ sym (last_number-append past e who)

    over : (who : ℕ) (b : Bool) → (e.who == who) ≡ b → (if e.who == who then ended else ended_in c who) ≡ is_over (past ++ e ∷ []) who (last_number (past ++ e ∷ []) who)
    over who true is =
        let same = same_numbers e.who who is in
        let last : last_number (past ++ e ∷ []) who ≡ e.number = last_number-append past e who ∙ ap (λ b. if b then e.number else last_number past who) is in
        ap (λ b. if b then ended else ended_in c who) is ∙ ends ∙ sym (over_own past e)
        ∙ ap (λ w. is_over (past ++ e ∷ []) w e.number) same ∙ sym (ap (is_over (past ++ e ∷ []) who) last)
    over who false is =
        let last : last_number (past ++ e ∷ []) who ≡ last_number past who = last_number-append past e who ∙ ap (λ b. if b then e.number else last_number past who) is in
        ap (λ b. if b then ended else ended_in c who) is ∙ table.ended who
        ∙ sym (other_over past e who (last_number past who) (ap (λ b. b && e.number == last_number past who) is))
        ∙ sym (ap (is_over (past ++ e ∷ []) who) last)

    first_child : (who number : ℕ) (s : ℕ × Entry) (b : Bool) → is_of_call who number e ≡ b → slice_get (call_entries (past ++ e ∷ []) who number) 0 ≡ Some s
        → makes_process s.1.act ≡ true → child_in d who number ≡ Some (pnode_of s.1.reply)
    first_child who number s false other at makes =
        let same : call_entries (past ++ e ∷ []) who number ≡ call_entries past who number =
        call_entries-append past e who number ∙ ap (λ b. call_entries past who number ++ cond b ((length past, e) ∷ []) []) other ∙ append-nil (call_entries past who number) in
        others who number other ∙ table.child who number s (sym (ap (λ xs. slice_get xs 0) same) ∙ at) makes
    first_child who number s true own at makes =
        let same : call_entries (past ++ e ∷ []) who number ≡ call_entries past who number ++ (length past, e) ∷ [] =
        call_entries-append past e who number ∙ ap (λ b. call_entries past who number ++ cond b ((length past, e) ∷ []) []) own in
        by_entries (call_entries past who number) refl (sym (ap (λ xs. slice_get xs 0) same) ∙ at)
      where
        by_entries : (xs : Made) → call_entries past who number ≡ xs → slice_get (call_entries past who number ++ (length past, e) ∷ []) 0 ≡ Some s → child_in d who number ≡ Some (pnode_of s.1.reply)
        by_entries [] none at =
            let by = same_numbers e.who who (true_left (e.who == who) (e.number == number) own) in
            let its = same_numbers e.number number (true_right (e.who == who) (e.number == number) own) in
            let is : e ≡ s.1 = entry_of (ap (λ xs. slice_get (xs ++ (length past, e) ∷ []) 0) (sym none) ∙ at) in
            let free : child_in c e.who e.number ≡ None = ap (λ w. child_in c w e.number) by ∙ ap (child_in c who) its ∙ table.none who number none in
            let new = made (ap (λ (f : Entry). makes_process f.act) is ∙ makes) free in
            sym (ap (λ w. child_in d w e.number) by ∙ ap (child_in d who) its) ∙ new ∙ ap (λ (f : Entry). Some (pnode_of f.reply)) is
          where
            entry_of : Some (length past, e) ≡ Some s → e ≡ s.1
            entry_of eq = let first : ℕ × Entry = (length past, e) in ap (λ (p : ℕ × Entry). p.1) (some_is first s eq)
        by_entries (x ∷ xs) first at =
            kept who number (pnode_of s.1.reply) (table.child who number s
            (ap (λ ys. slice_get ys 0) first ∙ (let z : Some x ≡ Some s = ap (λ ys. slice_get (ys ++ (length past, e) ∷ []) 0) (sym first) ∙ at in z)) makes)

    free_child : (who number : ℕ) (b : Bool) → is_of_call who number e ≡ b → call_entries (past ++ e ∷ []) who number ≡ [] → child_in d who number ≡ None
    free_child who number false other none =
        let same : call_entries (past ++ e ∷ []) who number ≡ call_entries past who number =
        call_entries-append past e who number ∙ ap (λ b. call_entries past who number ++ cond b ((length past, e) ∷ []) []) other ∙ append-nil (call_entries past who number) in
        others who number other ∙ table.none who number (sym same ∙ none)
    free_child who number true own none =
        let same : call_entries (past ++ e ∷ []) who number ≡ call_entries past who number ++ (length past, e) ∷ [] =
        call_entries-append past e who number ∙ ap (λ b. call_entries past who number ++ cond b ((length past, e) ∷ []) []) own in
        let longer = ap length (sym same ∙ none) in
        let more = length-append (call_entries past who number) ((length past, e) ∷ []) in
        absurd (omega (arith, longer, more))

    pub table_next : IsCallTable (past ++ e ∷ []) d
    table_next = record {
      number = numbers;
      ended = λ who. at_number c.last d.last e.who call updates (λ l. l.ended) false who ∙ over who (e.who == who) refl;
      child = λ who number s at makes. first_child who number s (is_of_call who number e) refl at makes;
      none = λ who number none. free_child who number (is_of_call who number e) refl none;
    }

-- a process that has made a call has begun
pub begun_of_calls : (session : Session) (history : List Entry) → IsLegal session history → (who : ℕ) → 1 ≤ last_number history who → has_begun history who ≡ true
begun_of_calls session = legal_induction session (λ history. (who : ℕ) → 1 ≤ last_number history who → has_begun history who ≡ true)
    (λ who least. absurd (omega (arith, least)))
    (λ history e legal begun next who least. by_caller history e next who (begun who) (e.who == who) refl least)
  where
    either : (a b : Bool) → a ≡ true → a || b ≡ true
    either true b is = refl
    either false b is = absurd (cc)

    by_caller : (history : List Entry) (e : Entry) → MayFollow session history e → (who : ℕ) → (1 ≤ last_number history who → has_begun history who ≡ true)
        → (b : Bool) → (e.who == who) ≡ b → 1 ≤ last_number (history ++ e ∷ []) who → has_begun (history ++ e ∷ []) who ≡ true
    by_caller history e next who before true is least =
        let by = same_numbers e.who who is in
        let last : last_number (history ++ e ∷ []) who ≡ e.number = last_number-append history e who ∙ ap (λ b. if b then e.number else last_number history who) is in
        begun_next history e who ∙ elim (acts-cases history e next.acts) [
          | inl s ↦ let number = s.3 in absurd (omega (arith, least, last, number))
          | inr p ↦ either (has_begun history who) (begins who e.call e.act e.what e.reply) (ap (has_begun history) (sym by) ∙ p.1)
        ]
    by_caller history e next who before false is least =
        let last : last_number (history ++ e ∷ []) who ≡ last_number history who = last_number-append history e who ∙ ap (λ b. if b then e.number else last_number history who) is in
        begun_next history e who ∙ either (has_begun history who) (begins who e.call e.act e.what e.reply) (before (omega (arith, least, last)))

-- no entry has a later number
over_later : (session : Session) (history : List Entry) → IsLegal session history → (who number : ℕ) → last_number history who < number → is_over history who number ≡ false
over_later session history legal who number later =
    ap (ends_call (before_call history who number)) (no_calls history who number (λ i f at by its.
    let below = (numbered session history legal).below i f at in
    let same = ap (last_number history) by in
    omega (arith, below, its, later, same)))

-- in a run all calls but the last one have ended
pub over_by : (session : Session) (trace : List Line) (history : List Entry) (c : Calls) → IsRun session trace history → IsCallTable history c
    → (who number : ℕ) → 1 ≤ number → (nat_lt number (number_in c who) || number == number_in c who && ended_in c who) ≡ is_over history who number
over_by session trace history c run table who number least =
    (λ i. nat_lt number (table.number who i) || number == table.number who i && table.ended who i)
    ∙ by_last (nat_lt number (last_number history who)) refl (number == last_number history who) refl
  where
    by_last : (a : Bool) → nat_lt number (last_number history who) ≡ a → (b : Bool) → (number == last_number history who) ≡ b
        → (nat_lt number (last_number history who) || number == last_number history who && is_over history who (last_number history who)) ≡ is_over history who number
    by_last true before b is =
        let below = below_is number (last_number history who) before in
        let whole = run.whole who number (begun_of_calls session history run.legal who (omega (arith, below, least))) least below in
        ap (λ a. a || (number == last_number history who && is_over history who (last_number history who))) before ∙ sym whole
    by_last false after true is =
        let same = same_numbers number (last_number history who) is in
        ap (λ a. a || (number == last_number history who && is_over history who (last_number history who))) after
        ∙ ap (λ b. b && is_over history who (last_number history who)) is ∙ ap (is_over history who) (sym same)
    by_last false after false is =
        let above = not_below number (last_number history who) after in
        let apart : last_number history who < number = grind (arith, nat_tests, above, is) in
        ap (λ a. a || (number == last_number history who && is_over history who (last_number history who))) after
        ∙ ap (λ b. b && is_over history who (last_number history who)) is ∙ sym (over_later session history run.legal who number apart)
