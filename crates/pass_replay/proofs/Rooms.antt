-- What one more entry of a run takes of the room that is left.
use Rattle.std.proofs.Common.{◌≡◌, ◌<◌, ◌≤◌, ◌+◌, ℕ, List, [], ◌∷◌, ◌++◌, length, refl, ap, sym, ◌∙◌, subst, arith, inl, inr, Bool, true, false, not, ◌&&◌, ◌==◌, cond, length-append}
use Rattle.std.specs.Prelude.{Option, Some, None, is_some, slice_get}
use Rattle.std.specs.Option.{option_map_or}
use Rattle.pass_entry.specs.declared.entry.Entry.{Entry}
use Rattle.pass_entry.specs.declared.entry.Act.{Act}
use Rattle.pass_entry.specs.declared.entry.Act.TheVariants as act
use Rattle.pass_entry.specs.declared.entry.Reply.{Reply}
use Rattle.pass_plain.specs.declared.request.Request.{Request}
use Rattle.pass_plain.specs.Histories.{is_fault, is_of_call, call_entries, made_kind}
use Rattle.pass_plain.specs.Sessions.{Session}
use Rattle.pass_plain.specs.Registries.{Registry, registry_after, registry_act}
use Rattle.pass_plain.specs.Processes.{Process}
use Rattle.pass_plain.specs.Calls.{Made, name_of}
use Rattle.pass_plain.specs.Legal.{MayFollow, before_call}
use Rattle.pass_plain.specs.Traces.{Line, LineCall, calls_of}
use Rattle.pass_plain.specs.Runs.{pnode_of_process, next_number, request_at}
use Rattle.pass_plain.proofs.Lists.{same_numbers, alike, different, of_both}
use Rattle.pass_plain.proofs.Counts.{step_count_law}
use Rattle.pass_plain.proofs.Making.{registry-append}
use Rattle.pass_plain.proofs.OtherCalls.{most_is, other_entries}
use Rattle.pass_replay.specs.Lines.{AreLinesBehind}
use Rattle.pass_replay.specs.Making.{IsRunSoFar, IsNextEntry, entries_made, creates_call, creating_left}
use Rattle.pass_replay.proofs.Sums.{sum-le, sum-less}
use Rattle.pass_replay.proofs.NextCalls.{call_cases, is_left}
use Rattle.pass_replay.proofs.Entries.{own_entries}
use Rattle.pass_replay.proofs.Births.{creating_call, own, kind_is, any, mono}

-- how an act counts the objects made

counts_act : (r : Registry) (a : Act) (y : Reply) → is_some (made_kind a) ≡ false → (registry_act r a y).made ≡ r.made
counts_act r (act.Bind name) y none = absurd (cc)
counts_act r (act.Mint k) y none = absurd (cc)
counts_act r _ y none = refl

counts_more : (r : Registry) (a : Act) (y : Reply) → (registry_act r a y).made ≤ r.made + 1
counts_more r (act.Bind name) y = omega arith
counts_more r (act.Mint k) y = omega arith
counts_more r _ y = omega arith

-- what a line counts while its call has no entry, where it creates
abbrev counted : Bool → ℕ → ℕ
counted creating entries = cond (creating && entries == 0) 1 0

counted_le : (creating : Bool) (entries more : ℕ) → entries ≤ more → (b : Bool) → (more == 0) ≡ b → counted creating more ≤ counted creating entries
counted_le true entries more le true t = let z : entries ≡ 0 = (let y = same_numbers more 0 t in omega (arith, y, le)) in
    let a : counted true entries ≡ 1 = ap (λ b. cond b 1 0) (alike entries 0 z) in
    let b : counted true more ≡ 1 = ap (λ b. cond b 1 0) t in
    omega (arith, a, b)
counted_le true entries more le false t = let b : counted true more ≡ 0 = ap (λ b. cond b 1 0) t in omega (arith, b)
counted_le false entries more le b t = omega arith

module _ (session : Session) (trace : List Line) (behind : AreLinesBehind [] trace) (history : List Entry) (so_far : IsRunSoFar session trace history)
    (process who done : ℕ) (call : LineCall) (begun : pnode_of_process session trace history process ≡ Some who)
    (stands : slice_get (calls_of trace process) done ≡ Some call) (next : next_number history who ≡ done + 1)
    (e : Entry) (follows : MayFollow session history e)
    (is : IsNextEntry who (done + 1) (request_at session trace history who (done + 1) call) (before_call history who (done + 1)) (call_entries history who (done + 1)) e) where
  abbrev request : Request
  request = request_at session trace history who (done + 1) call

  abbrev made : Made
  made = call_entries history who (done + 1)

  abbrev state : Process
  state = before_call history who (done + 1)

  abbrev longer : List Entry
  longer = history ++ e ∷ []

  longer_calls : (w n : ℕ) → length (call_entries history w n) ≤ length (call_entries longer w n)
  longer_calls w n = at_test (is_of_call w n e) refl
    where
      at_test : (b : Bool) → is_of_call w n e ≡ b → length (call_entries history w n) ≤ length (call_entries longer w n)
      at_test true t = let z = ap length (own_entries history e w n t) in let y = length-append (call_entries history w n) ((length history, e) ∷ []) in omega (arith, z, y)
      at_test false t = let z = ap length (other_entries history e w n t) in omega (arith, z)

  -- no call has fewer entries
  pub entries_more : (p n : ℕ) → entries_made session trace history p n ≤ entries_made session trace longer p n
  entries_more p n = at_pnode (pnode_of_process session trace history p) refl
    where
      at_pnode : (o : Option ℕ) → pnode_of_process session trace history p ≡ o → entries_made session trace history p n ≤ entries_made session trace longer p n
      at_pnode None at = let z : entries_made session trace history p n ≡ 0 = ap (λ o. option_map_or (λ w. length (call_entries history w n)) o 0) at in omega (arith, z)
      at_pnode (Some w) at =
          let a : entries_made session trace history p n ≡ length (call_entries history w n) = ap (λ o. option_map_or (λ w. length (call_entries history w n)) o 0) at in
          let b : entries_made session trace longer p n ≡ length (call_entries longer w n) =
          ap (λ o. option_map_or (λ w. length (call_entries longer w n)) o 0) (mono session trace behind history so_far process who done call begun stands next e follows is p w at) in
          let more = longer_calls w n in
          omega (arith, a, b, more)

  -- the entry's own call has one more
  pub entries_before : entries_made session trace history process (done + 1) ≡ length made
  entries_before = ap (λ o. option_map_or (λ w. length (call_entries history w (done + 1))) o 0) begun

  pub entries_after : entries_made session trace longer process (done + 1) ≡ length made + 1
  entries_after =
      ap (λ o. option_map_or (λ w. length (call_entries longer w (done + 1))) o 0) (mono session trace behind history so_far process who done call begun stands next e follows is process who begun)
      ∙ ap length (own_entries history e who (done + 1) (own session trace behind history so_far process who done call begun stands next e follows is))
      ∙ length-append made ((length history, e) ∷ [])

  pub few : length made < 67
  few =
      let left = is_left session trace behind history so_far process who done call begun stands next in
      let count = step_count_law who state made request in
      let most = most_is (name_of request) in
      omega (arith, left, count, most)

  -- there is still room

  none_more : (p n : ℕ) (c : LineCall) → counted (creates_call c) (entries_made session trace longer p n) ≤ counted (creates_call c) (entries_made session trace history p n)
  none_more p n c = counted_le (creates_call c) (entries_made session trace history p n) (entries_made session trace longer p n) (entries_more p n) (entries_made session trace longer p n == 0) refl

  left_no_more : creating_left session trace longer ≤ creating_left session trace history
  left_no_more = sum-le (λ p n c. counted (creates_call c) (entries_made session trace longer p n)) (λ p n c. counted (creates_call c) (entries_made session trace history p n)) [] trace none_more

  left_less : is_some (made_kind e.act) ≡ true → creating_left session trace longer + 1 ≤ creating_left session trace history
  left_less makes =
      let (first, creating) = (kind_is session trace behind history so_far process who done call begun stands next e follows is).makes makes in
      let creates = creating_call _ state.last_read call (any session trace behind history so_far process who done call begun stands next e follows is) creating in
      elim (call_cases trace process done call stands) [
        | inr exit ↦ absurd (let z : false ≡ true = ap creates_call (sym exit.0) ∙ creates in cc)
        | inl l ↦
            let a : counted (creates_call l.0.call) (entries_made session trace history process (done + 1)) ≡ 1 =
            ap (λ c. counted (creates_call c) (entries_made session trace history process (done + 1))) l.2 ∙ ap (λ b. counted b (entries_made session trace history process (done + 1))) creates
            ∙ ap (λ b. cond b 1 0) (alike (entries_made session trace history process (done + 1)) 0 (entries_before ∙ first)) in
            let b : counted (creates_call l.0.call) (entries_made session trace longer process (done + 1)) ≡ 0 =
            ap (λ c. counted (creates_call c) (entries_made session trace longer process (done + 1))) l.2 ∙ ap (λ b. counted b (entries_made session trace longer process (done + 1))) creates
            ∙ ap (λ b. cond b 1 0) (different (entries_made session trace longer process (done + 1)) 0 (λ z. omega (arith, entries_after, z))) in
            let lines = sum-less (λ p n c. counted (creates_call c) (entries_made session trace longer p n)) (λ p n c. counted (creates_call c) (entries_made session trace history p n)) 1 trace process done l.0 l.1
            none_more (omega (arith, a, b)) in
            omega (arith, lines)
      ]

  pub room_after : (registry_after session longer).made + creating_left session trace longer ≤ session.objects
  room_after = subst (λ (r : Registry). r.made + creating_left session trace longer ≤ session.objects) (sym (registry-append session history e)) (at_test (is_some (made_kind e.act)) refl)
    where
      r : Registry
      r = registry_after session history

      at_test : (b : Bool) → is_some (made_kind e.act) ≡ b
          → (cond (e.what == 0 && not (is_fault e.reply)) (registry_act r e.act e.reply) r).made + creating_left session trace longer ≤ session.objects
      at_test true makes =
          let less = left_less makes in
          let room = so_far.room in
          let more = counts_more r e.act e.reply in
          of_both (λ s. s.made + creating_left session trace longer ≤ session.objects) (e.what == 0 && not (is_fault e.reply)) (registry_act r e.act e.reply) r
          (omega (arith, less, room, more)) (omega (arith, less, room))
      at_test false none =
          let less = left_no_more in
          let room = so_far.room in
          let same = counts_act r e.act e.reply none in
          of_both (λ s. s.made + creating_left session trace longer ≤ session.objects) (e.what == 0 && not (is_fault e.reply)) (registry_act r e.act e.reply) r
          (omega (arith, less, room, same)) (omega (arith, less, room))
