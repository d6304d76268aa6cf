-- A run of a trace never needs more places than those of its lines.
use Rattle.std.proofs.Common.{◌≡◌, ◌≢◌, ◌<◌, ◌≤◌, ◌+◌, ◌-◌, ℕ, zero, suc, List, [], ◌∷◌, ◌++◌, length, refl, ap, sym, ◌∙◌, subst, arith, ◌⊎◌, inl, inr, Bool, true, false, ◌&&◌, ◌==◌, cond, length-append}
use Rattle.std.specs.Prelude.{Some, None, slice_get, count_by, sum_by}
use Rattle.std.specs.Option.{option_map_or}
use Rattle.std.specs.List.{cons_option}
use Rattle.std.proofs.lemmas.Option.{slice_get_within}
use Rattle.std.proofs.lemmas.List.Sums.{sum_by-cons, sum_by_push}
use Rattle.std.proofs.lemmas.Bool.{or_right, and_right}
use Rattle.pass_entry.specs.declared.entry.Entry.{Entry}
use Rattle.pass_entry.specs.declared.entry.Act.{Act}
use Rattle.pass_entry.specs.declared.entry.Act.TheVariants as act
use Rattle.pass_entry.specs.declared.entry.CallName.{CallName}
use Rattle.pass_entry.specs.declared.entry.CallName.TheVariants as call_name
use Rattle.pass_entry.specs.declared.entry.Reply.{Reply}
use Rattle.pass_plain.specs.declared.request.Request.{Request}
use Rattle.pass_plain.specs.declared.request.Request.TheVariants as requests
use Rattle.pass_plain.specs.Histories.{is_fault, call_entries}
use Rattle.pass_plain.specs.Sessions.{Session}
use Rattle.pass_plain.specs.Processes.{Process, Held, has_begun, has_ended}
use Rattle.pass_plain.specs.Places.{begun_by, begun_in, is_exit, need_of, exit_places, call_places, share, held_places}
use Rattle.pass_plain.specs.Calls.{Made, name_of, is_last, is_last_act}
use Rattle.pass_plain.specs.Lawful.{most_steps}
use Rattle.pass_plain.specs.Legal.{MayFollow, before_call, is_over, is_start}
use Rattle.pass_plain.specs.Traces.{Line, LineCall, given, write_last, fork_as, wait_for, await_for, name_of_call, lines_of, calls_of}
use Rattle.pass_plain.specs.Runs.{pnode_of_process, next_number, request_at}
use Rattle.pass_plain.proofs.Lists.{some_is, same_numbers, is_place, true_left, alike, different}
use Rattle.pass_plain.proofs.Counts.{step_count_law}
use Rattle.pass_plain.proofs.HeldPlaces.{share_law, call_next, child_exit, child_call, first_places_law}
use Rattle.pass_plain.proofs.Playing.{no_calls}
use Rattle.pass_plain.proofs.OtherCalls.{other_entries}
use Rattle.pass_replay.specs.Lines.{is_given, IsLineCall, AreLinesBehind}
use Rattle.pass_replay.specs.Making.{IsRunSoFar, IsNextEntry, first_entry, entries_made, sum_lines}
use Rattle.pass_replay.specs.Needs.{need_of_line, places_of}
use Rattle.pass_replay.proofs.Sums.{NoneMore, sum-le, sum-less}
use Rattle.pass_replay.proofs.NextCalls.{call_cases, calls_length, is_left, is_ordinary, lives, named, none_above, numbered_as, line_behind}
use Rattle.pass_replay.proofs.Entries.{own_entries, made_or_not}
use Rattle.pass_replay.proofs.Births.{own, any, back, born_entry, fork_call, kind_is, no_entries, silent}
use Rattle.pass_replay.proofs.Lives.{apart_if}
use Rattle.pass_replay.proofs.StepKinds.{is_born}
use Rattle.pass_replay.proofs.Rooms.{entries_more, entries_before, entries_after, few}
use Rattle.pass_replay.proofs.Started.{only_first}

-- what the lines need whose calls have made no entry
abbrev unmade : Session → List Line → List Entry → ℕ
unmade session trace history = sum_lines (λ process number call. cond (entries_made session trace history process number == 0) (need_of_line call) 0) [] trace

-- what was made, what is held, and what the other lines need is no more than the places of the trace; and what a process has made of its
-- exit are its entries of that call
pub record Fits (session : Session) (trace : List Line) (history : List Entry) : Type 0 where
  pub fits : length history + held_places history + unmade session trace history ≤ places_of trace
  pub exits : (p w : ℕ) → pnode_of_process session trace history p ≡ Some w
      → count_by (λ (e : Entry). e.who == w && is_exit e.call) history ≡ length (call_entries history w (length (calls_of trace p)))

-- whom an entry begins: nobody, or a child that is born by it
begun_or : (c : CallName) (a : Act) (what : ℕ) (y : Reply) → is_start c ≡ false
    → (cons_option (begun_by c a what y) [] ≡ []) ⊎ ((out : ℕ) × (descriptors : Held) × (a ≡ act.Born out descriptors) × (cons_option (begun_by c a what y) [] ≡ what ∷ []))
begun_or call_name.Start a what y ordinary = absurd (cc)
begun_or _ (act.Born out descriptors) what y ordinary = inr (out, descriptors, refl, refl)
begun_or _ _ what y ordinary = inl refl

-- a line's call has another name than exit
given_not_exit : (r : Request) → is_given r ≡ true → is_exit (name_of r) ≡ false
given_not_exit requests.Start is = absurd (cc)
given_not_exit requests.Exit is = absurd (cc)
given_not_exit _ is = refl

line_no_exit : (call : LineCall) → IsLineCall call → is_exit (name_of_call call) ≡ false
line_no_exit (given r) line = given_not_exit r line.0
line_no_exit (write_last fd) line = refl
line_no_exit (fork_as child) line = refl
line_no_exit (wait_for child) line = refl
line_no_exit (await_for child) line = refl

most_need : (c : CallName) → is_exit c ≡ false → most_steps c ≤ need_of c
most_need call_name.Exit h = absurd (cc)
most_need call_name.Fork h = omega arith
most_need _ h = omega arith

if_le : (b : Bool) (n m : ℕ) → n ≤ m → cond b 0 n ≤ m
if_le true n m h = omega arith
if_le false n m h = h

zero_if : (b : Bool) (n : ℕ) → b ≡ true → cond b 0 n ≡ 0
zero_if true n h = refl
zero_if false n h = absurd (cc)

-- a process holds no more than for its exit and its call
share_at_most : (history : List Entry) (p : ℕ) → share history p ≤ exit_places history p + call_places history p
share_at_most history p = at (has_ended history p)
  where
    at : (b : Bool) → cond b 0 (exit_places history p + call_places history p) ≤ exit_places history p + call_places history p
    at true = omega arith
    at false = omega arith

-- the entries of a process's exit, with one more entry
exits-push : (w : ℕ) (history : List Entry) (e : Entry) → count_by (λ (e : Entry). e.who == w && is_exit e.call) (history ++ e ∷ [])
    ≡ count_by (λ (e : Entry). e.who == w && is_exit e.call) history + cond (e.who == w && is_exit e.call) 1 0
exits-push w history e = sum_by_push (λ (e : Entry). cond (e.who == w && is_exit e.call) 1 0) history e

exits-none : (w : ℕ) (history : List Entry) (e : Entry) → e.who == w && is_exit e.call ≡ false
    → count_by (λ (e : Entry). e.who == w && is_exit e.call) (history ++ e ∷ []) ≡ count_by (λ (e : Entry). e.who == w && is_exit e.call) history
exits-none w history e none = let a = exits-push w history e in let b = ap {B = ℕ} (λ b. cond b 1 0) none in omega (arith, a, b)

module _ (session : Session) (trace : List Line) (behind : AreLinesBehind [] trace) (history : List Entry) (so_far : IsRunSoFar session trace history)
    (process who done : ℕ) (call : LineCall) (begun : pnode_of_process session trace history process ≡ Some who)
    (stands : slice_get (calls_of trace process) done ≡ Some call) (next : next_number history who ≡ done + 1)
    (e : Entry) (follows : MayFollow session history e)
    (is : IsNextEntry who (done + 1) (request_at session trace history who (done + 1) call) (before_call history who (done + 1)) (call_entries history who (done + 1)) e)
    (fit : Fits session trace history) where
  abbrev made : Made
  made = call_entries history who (done + 1)

  abbrev state : Process
  state = before_call history who (done + 1)

  abbrev longer : List Entry
  longer = history ++ e ∷ []

  abbrev need : ℕ
  need = need_of_line call

  abbrev request : Request
  request = request_at session trace history who (done + 1) call

  name_is : e.call ≡ name_of_call call
  name_is = is.call ∙ named session trace behind history so_far process who done call begun stands next

  one_longer : length longer ≡ length history + 1
  one_longer = length-append history (e ∷ [])

  -- what its call holds, before the entry and after it

  held_before : (m : ℕ × Entry) → slice_get made 0 ≡ Some m → call_places history who ≡ need - length made
  held_before m at = elim (numbered_as history who done next) [
    | inl last ↦
        let none = none_above session history who (done + 1) so_far.run.legal (let z = last.0 in omega (arith, z)) in
        absurd (let z : None ≡ Some m = ap (λ (m : Made). slice_get m 0) (sym none) ∙ at in cc)
    | inr on ↦
        ap (λ n. cond (is_over history who n) 0 (option_map_or (λ (s : ℕ × Entry). need_of s.1.call - length (call_entries history who n)) (slice_get (call_entries history who n) 0) 0)) on.0
        ∙ ap (λ b. cond b 0 (option_map_or (λ (s : ℕ × Entry). need_of s.1.call - length made) (slice_get made 0) 0)) on.1
        ∙ ap (λ o. option_map_or (λ (s : ℕ × Entry). need_of s.1.call - length made) o 0) at
        ∙ ap (λ c. need_of c - length made) (so_far.run.named process who done call begun stands 0 m at)
  ]

  held_after : call_places longer who ≡ cond (is_last state e) 0 (need - (length made + 1))
  held_after =
      ap (λ w. call_places longer w) (sym is.by) ∙ call_next session history e so_far.run.legal follows
      ∙ (λ i. cond (is_last (before_call history (is.by i) (is.counted i)) e) 0 (need_of (name_is i) - (length (call_entries history (is.by i) (is.counted i)) + 1)))

  after_at_most : call_places longer who ≤ need - (length made + 1)
  after_at_most = (let a = held_after in let b = if_le (is_last state e) (need - (length made + 1)) (need - (length made + 1)) (omega arith) in omega (arith, a, b))

  -- the lines that have made nothing

  none_more : NoneMore (λ p n c. cond (entries_made session trace longer p n == 0) (need_of_line c) 0) (λ p n c. cond (entries_made session trace history p n == 0) (need_of_line c) 0)
  none_more p n c = at (entries_made session trace longer p n == 0) refl
    where
      at : (b : Bool) → (entries_made session trace longer p n == 0) ≡ b → cond b (need_of_line c) 0 ≤ cond (entries_made session trace history p n == 0) (need_of_line c) 0
      at false t = omega arith
      at true t =
          let more = entries_more session trace behind history so_far process who done call begun stands next e follows is p n in
          let none : entries_made session trace history p n ≡ 0 = (let z = same_numbers (entries_made session trace longer p n) 0 t in omega (arith, more, z)) in
          (let z = ap (λ b. cond b (need_of_line c) 0) (alike (entries_made session trace history p n) 0 none) in omega (arith, z))

  unmade_less : unmade session trace longer ≤ unmade session trace history
  unmade_less = sum-le _ _ [] trace none_more

  unmade_first : (l : Line) → slice_get (lines_of trace process) done ≡ Some l → l.call ≡ call → made ≡ [] → unmade session trace longer + need ≤ unmade session trace history
  unmade_first l at same none =
      sum-less (λ p n c. cond (entries_made session trace longer p n == 0) (need_of_line c) 0) (λ p n c. cond (entries_made session trace history p n == 0) (need_of_line c) 0) need trace process done l at none_more
      (let before = entries_before session trace behind history so_far process who done call begun stands next e follows is in
      let after = entries_after session trace behind history so_far process who done call begun stands next e follows is in
      let size = ap length none in
      let a = ap (λ b. cond b (need_of_line l.call) 0) (different (entries_made session trace longer process (done + 1)) 0 (λ z. omega (arith, after, z))) in
      let b = ap (λ b. cond b (need_of_line l.call) 0) (alike (entries_made session trace history process (done + 1)) 0 (before ∙ size)) in
      let c = ap need_of_line same in
      omega (arith, a, b, c))

  -- the caller pays for its entry, and for what it begins

  abbrev Pays : ℕ → Type 0
  Pays more = 1 + more + (exit_places longer who + call_places longer who) + unmade session trace longer ≤ exit_places history who + call_places history who + unmade session trace history

  exit_same : is_exit e.call ≡ false → exit_places longer who ≡ exit_places history who
  exit_same other = ap (λ n. 65 - n) (exits-none who history e (and_right (e.who == who) (is_exit e.call) other))

  few_made : is_exit e.call ≡ false → length made < need
  few_made other =
      let left = is_left session trace behind history so_far process who done call begun stands next in
      let count = step_count_law who state made request in
      let most : most_steps (name_of request) ≤ need_of (name_of request) = most_need (name_of request) (ap is_exit (sym is.call) ∙ other) in
      let same : need_of (name_of request) ≡ need = ap need_of (named session trace behind history so_far process who done call begun stands next) in
      omega (arith, left, count, most, same)

  line_pays : (l : Line) → slice_get (lines_of trace process) done ≡ Some l → l.call ≡ call → Pays 0
  line_pays l at same =
      let other : is_exit e.call ≡ false = ap is_exit name_is ∙ line_no_exit call (subst (λ c. IsLineCall c) same (line_behind trace process done l behind at).1.within) in
      let exits = exit_same other in
      let fewer = few_made other in
      let most = after_at_most in
      elim (made_or_not made) [
        | inl none ↦ (let less = unmade_first l at same none in let size = ap length none in omega (arith, exits, fewer, most, less, size))
        | inr some ↦ (let less = unmade_less in let held = held_before some.0 some.1 in omega (arith, exits, fewer, most, less, held))
      ]

  exit_pays : call ≡ given requests.Exit → done ≡ length (lines_of trace process) → Pays 0
  exit_pays exit last =
      let name : e.call ≡ call_name.Exit = name_is ∙ ap name_of_call exit in
      let number : length (calls_of trace process) ≡ done + 1 = (let z = calls_length trace process in omega (arith, z, last)) in
      let counted : count_by (λ (e : Entry). e.who == who && is_exit e.call) history ≡ length made = fit.exits process who begun ∙ ap (λ n. length (call_entries history who n)) number in
      let mine : ◌≡◌ {A = ℕ} (cond (e.who == who && is_exit e.call) 1 0) 1 = ap (λ b. cond (b && is_exit e.call) 1 0) (alike e.who who is.by) ∙ ap (λ c. cond (is_exit c) 1 0) name in
      let push = exits-push who history e in
      let one : count_by (λ (e : Entry). e.who == who && is_exit e.call) longer ≡ length made + 1 = omega (arith, push, counted, mine) in
      let left = is_left session trace behind history so_far process who done call begun stands next in
      let count = step_count_law who state made request in
      let most : most_steps (name_of request) ≡ 65 = ap most_steps (sym is.call ∙ name) in
      let a = ap (λ n. 65 - n) counted in
      let b = ap (λ n. 65 - n) one in
      let none : need ≡ 0 = ap need_of_line exit in
      let held = after_at_most in
      let less = unmade_less in
      omega (arith, left, count, most, a, b, none, held, less)

  pays : Pays 0
  pays = elim (call_cases trace process done call stands) [ inl l ↦ line_pays l.0 l.1 l.2 | inr exit ↦ exit_pays exit.0 exit.1 ]

  -- what all hold

  ordinary : is_start e.call ≡ false
  ordinary = ap is_start is.call ∙ is_ordinary session trace behind history so_far process who done call begun stands next

  moved : held_places longer + share history e.who ≡ held_places history + share longer e.who + sum_by (share longer) (begun_in e)
  moved = share_law session history e so_far.run.legal follows ordinary

  share_now : share history e.who ≡ exit_places history who + call_places history who
  share_now = ap (λ w. share history w) is.by ∙ ap (λ b. cond b 0 (exit_places history who + call_places history who)) (lives session trace behind history so_far process who done call begun stands next)

  share_then : share longer e.who ≤ exit_places longer who + call_places longer who
  share_then = (let a = ap (λ w. share longer w) is.by in let b = share_at_most longer who in omega (arith, a, b))

  fits_plain : begun_in e ≡ [] → length longer + held_places longer + unmade session trace longer ≤ places_of trace
  fits_plain none =
      let nobody : sum_by (share longer) (begun_in e) ≡ 0 = ap (λ ps. sum_by (share longer) ps) none in
      let before = fit.fits in
      omega (arith, moved, nobody, share_now, share_then, one_longer, before, pays)

  module _ (out : ℕ) (descriptors : Held) (born : e.act ≡ act.Born out descriptors) where
    has_begun_now : has_begun history e.who ≡ true
    has_begun_now = ap (λ w. has_begun history w) is.by ∙ so_far.begun process who begun

    lives_now : has_ended history e.who ≡ false
    lives_now = ap (λ w. has_ended history w) is.by ∙ lives session trace behind history so_far process who done call begun stands next

    the_fork : (q : ℕ) × (call ≡ fork_as q)
    the_fork = fork_call _ state.last_read call (any session trace behind history so_far process who done call begun stands next e follows is) ((kind_is session trace behind history so_far process who done call begun stands next e follows is).born (ap is_born born))

    fork_name : e.call ≡ call_name.Fork
    fork_name = name_is ∙ ap name_of_call the_fork.1

    ends : is_last state e ≡ true
    ends = or_right (is_fault e.reply) _ (ap (λ c. is_last_act state c e.act) fork_name ∙ ap (λ a. is_last_act state call_name.Fork a) born)

    -- the child holds what its exit needs
    child_holds : share longer e.what ≤ 65
    child_holds =
        let a = share_at_most longer e.what in
        let b = child_exit session history e so_far.run.legal follows out descriptors born has_begun_now lives_now in
        let c = child_call session history e so_far.run.legal follows out descriptors born has_begun_now lives_now in
        omega (arith, a, b, c)

    fork_pays : Pays 65
    fork_pays =
        let some = (born_entry session trace behind history so_far process who done call begun stands next e follows is the_fork.0 the_fork.1 ends).1 in
        let (m, at) = is_place made 0 some in
        let held = held_before m at in
        let now = held_after in
        let none = zero_if (is_last state e) (need - (length made + 1)) ends in
        let exits = exit_same (ap is_exit fork_name) in
        let less = unmade_less in
        let need_is : need ≡ 132 = ap need_of_line the_fork.1 in
        let short = few session trace behind history so_far process who done call begun stands next e follows is in
        omega (arith, held, now, none, exits, less, need_is, short)

    fits_birth : begun_in e ≡ e.what ∷ [] → length longer + held_places longer + unmade session trace longer ≤ places_of trace
    fits_birth some =
        let child = ap (λ ps. sum_by (share longer) ps) some ∙ sum_by-cons (share longer) e.what [] in
        let before = fit.fits in
        omega (arith, moved, child, child_holds, share_now, share_then, one_longer, before, fork_pays)

  -- the entries of exits

  exits_then : (p w : ℕ) → pnode_of_process session trace longer p ≡ Some w → count_by (λ (e : Entry). e.who == w && is_exit e.call) longer ≡ length (call_entries longer w (length (calls_of trace p)))
  exits_then p w at = elim (back session trace behind history so_far process who done call begun stands next e follows is p w at) [
    | inr new ↦
        count_none (λ (e : Entry). e.who == w && is_exit e.call) longer (λ i f there passes. silent session trace behind history so_far process who done call begun stands next e follows is p w new i f there (same_numbers f.who w (true_left (f.who == w) (is_exit f.call) passes)))
        ∙ ap length (sym (no_entries session trace behind history so_far process who done call begun stands next e follows is p w (length (calls_of trace p)) new))
    | inl old ↦ at_test old (w == who) refl
  ]
    where
      count_none : (t : Entry → Bool) (es : List Entry) → ((i : ℕ) (f : Entry) → slice_get es i ≡ Some f → t f ≡ true → ⊥) → count_by t es ≡ 0
      count_none t [] never = refl
      count_none t (f ∷ es) never = sum_by-cons (λ x. cond (t x) 1 0) f es ∙ here (t f) refl ∙ count_none t es (λ i g at passes. never (suc i) g at passes)
        where
          here : (b : Bool) → t f ≡ b → cond b 1 0 + count_by t es ≡ count_by t es
          here true passes = absurd (never 0 f refl passes)
          here false passes = omega arith

      mine : call ≡ given requests.Exit → done ≡ length (lines_of trace process)
          → count_by (λ (e : Entry). e.who == who && is_exit e.call) longer ≡ length (call_entries longer who (length (calls_of trace process)))
      mine exit last =
          let number : length (calls_of trace process) ≡ done + 1 = (let z = calls_length trace process in omega (arith, z, last)) in
          let push = exits-push who history e in
          let here : ◌≡◌ {A = ℕ} (cond (e.who == who && is_exit e.call) 1 0) 1 = ap (λ b. cond (b && is_exit e.call) 1 0) (alike e.who who is.by) ∙ ap (λ c. cond (is_exit c) 1 0) (name_is ∙ ap name_of_call exit) in
          let before = fit.exits process who begun ∙ ap (λ n. length (call_entries history who n)) number in
          let after = ap (λ n. length (call_entries longer who n)) number ∙ ap length (own_entries history e who (done + 1) (own session trace behind history so_far process who done call begun stands next e follows is)) ∙ length-append made ((length history, e) ∷ []) in
          omega (arith, push, here, before, after)

      line : (l : Line) → slice_get (lines_of trace process) done ≡ Some l → l.call ≡ call
          → count_by (λ (e : Entry). e.who == who && is_exit e.call) longer ≡ length (call_entries longer who (length (calls_of trace process)))
      line l there same =
          let other : is_exit e.call ≡ false = ap is_exit name_is ∙ line_no_exit call (subst (λ c. IsLineCall c) same (line_behind trace process done l behind there).1.within) in
          let within = slice_get_within (lines_of trace process) done l there in
          let size = calls_length trace process in
          exits-none who history e (and_right (e.who == who) (is_exit e.call) other) ∙ fit.exits process who begun
          ∙ ap length (sym (other_entries history e who (length (calls_of trace process)) (apart_if session trace behind history so_far process who done call begun stands next e follows is who (length (calls_of trace process)) (inr (λ z. omega (arith, z, within, size))))))

      at_test : pnode_of_process session trace history p ≡ Some w → (b : Bool) → (w == who) ≡ b
          → count_by (λ (e : Entry). e.who == w && is_exit e.call) longer ≡ length (call_entries longer w (length (calls_of trace p)))
      at_test old true t =
          let same = same_numbers w who t in
          let one : p ≡ process = so_far.single p process who (old ∙ ap (λ w. Some w) same) begun in
          subst (λ (x : ℕ × ℕ). count_by (λ (e : Entry). e.who == x.1 && is_exit e.call) longer ≡ length (call_entries longer x.1 (length (calls_of trace x.0)))) (λ i. (sym one i, sym same i))
          (elim (call_cases trace process done call stands) [ inl l ↦ line l.0 l.1 l.2 | inr exit ↦ mine exit.0 exit.1 ])
      at_test old false t =
          let other : w ≢ who = λ same. let z : true ≡ false = sym (alike w who same) ∙ t in cc in
          exits-none w history e (ap (λ b. b && is_exit e.call) (different e.who w (λ same. other (sym same ∙ is.by)))) ∙ fit.exits p w old
          ∙ ap length (sym (other_entries history e w (length (calls_of trace p)) (apart_if session trace behind history so_far process who done call begun stands next e follows is w (length (calls_of trace p)) (inl other))))

  -- it fits with one more entry
  pub fits_after : Fits session trace longer
  fits_after = elim (begun_or e.call e.act e.what e.reply ordinary) [
    | inl none ↦ record { fits = fits_plain none; exits = exits_then }
    | inr birth ↦ record { fits = fits_birth birth.0 birth.1 birth.2 birth.3; exits = exits_then }
  ]

-- a session that has just begun
pub fits_first : (session : Session) (trace : List Line) → Fits session trace (first_entry session ∷ [])
fits_first session trace = record {
  fits =
      let held = first_places_law (session.start.ceiling + 1) (omega arith) in
      let all = sum-le (λ p n c. cond (entries_made session trace (first_entry session ∷ []) p n == 0) (need_of_line c) 0) (λ p n c. need_of_line c) [] trace
      (λ p n c. at_most (entries_made session trace (first_entry session ∷ []) p n == 0) (need_of_line c)) in
      omega (arith, held, all);
  exits = λ p w at. quiet w ∙ ap length (sym (none_of p w at));
}
  where
    at_most : (b : Bool) (n : ℕ) → cond b n 0 ≤ n
    at_most true n = omega arith
    at_most false n = omega arith

    only_zero : (i : ℕ) (f : Entry) → slice_get (first_entry session ∷ []) i ≡ Some f → 0 ≡ f.who
    only_zero zero f at = ap (λ (f : Entry). f.who) (some_is _ f at)
    only_zero (suc i) f at = absurd (cc)

    none_of : (p w : ℕ) → pnode_of_process session trace (first_entry session ∷ []) p ≡ Some w → call_entries (first_entry session ∷ []) w (length (calls_of trace p)) ≡ []
    none_of p w at =
        let first = (only_first session trace p w at).1 in
        no_calls (first_entry session ∷ []) w (length (calls_of trace p)) (λ i f there by its. let z = only_zero i f there in omega (arith, z, by, first))

    quiet : (w : ℕ) → count_by (λ (e : Entry). e.who == w && is_exit e.call) (first_entry session ∷ []) ≡ 0
    quiet w = sum_by-cons (λ (e : Entry). cond (e.who == w && is_exit e.call) 1 0) (first_entry session) [] ∙ ap (λ b. cond b 1 0 + 0) (and_right (0 == w) false refl)
