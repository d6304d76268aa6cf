-- Where no member of a run goes on, none of its processes can move.
use Rattle.std.proofs.Common.{◌≡◌, ◌≤◌, ◌+◌, ◌-◌, ℕ, zero, suc, List, [], ◌∷◌, length, take, refl, ap, sym, ◌∙◌, subst, arith, inl, inr, Bool, true, false, not, ◌==◌}
use Rattle.std.specs.Prelude.{Some, None, slice_get, Contains, if◌then◌else◌}
use Rattle.std.specs.Option.{option_map_or}
use Rattle.std.proofs.lemmas.Bool.{cases_lt}
use Rattle.std.proofs.lemmas.Option.{slice_get_within}
use Rattle.pass_entry.specs.declared.entry.Entry.{Entry}
use Rattle.pass_entry.proofs.Places.{within_front, Contains-at}
use Rattle.pass_plain.specs.Sessions.{Session}
use Rattle.pass_plain.specs.Processes.{Process, has_begun, has_ended}
use Rattle.pass_plain.specs.Legal.{is_over, last_number}
use Rattle.pass_plain.specs.Traces.{Line, calls_of}
use Rattle.pass_plain.specs.Runs.{IsOfTrace, first, forked_by, next_number, pnode_of_process}
use Rattle.pass_plain.proofs.Lists.{same_itself, is_place, different}
use Rattle.pass_plain.proofs.Calling.{acts-cases}
use Rattle.pass_plain.proofs.TwoPrefixes.{none_later, SameCaller}
use Rattle.pass_replay.specs.Ends.{NoneCanMove, IsStuck}
use Rattle.pass_replay.specs.Making.{IsRunSoFar}
use Rattle.pass_replay.specs.Members.{KnowsChildren, Member, HasMember, Waits, AreStill}
use Rattle.pass_replay.specs.Replays.{HasRun}
use Rattle.pass_replay.proofs.Parts.{whole_is}
use Rattle.pass_replay.proofs.Begun.{begun_or_forked, child_has_begun}
use Rattle.pass_replay.proofs.NextCalls.{earlier_over, over_within, calls_length}
use Rattle.pass_replay.proofs.Replaying.{from, at_one, so_far, known, same, over_same}

-- the next number is at least 1
next_if : (last : ℕ) (over none : Bool) → (last == 0) ≡ none → 1 ≤ (if none then 1 else if over then last + 1 else last)
next_if last over true t = omega arith
next_if last true false t = omega arith
next_if zero false false t = absurd (let z : true ≡ false = t in cc)
next_if (suc last) false false t = omega arith

pub next_some : (last : ℕ) (over : Bool) → 1 ≤ (if last == 0 then 1 else if over then last + 1 else last)
next_some last over = next_if last over (last == 0) refl

-- behind the last call there is none
pub next_behind : (last : ℕ) (over : Bool) → over ≡ true → 1 ≤ last → (if last == 0 then 1 else if over then last + 1 else last) ≡ last + 1
next_behind last over is some =
    ap (λ none. if none then 1 else if over then last + 1 else last) (different last 0 (λ z. omega (arith, z, some)))
    ∙ ap (λ b. if b then last + 1 else last) is

module _ (session : Session) (trace : List Line) (members : List Member) (history : List Entry) (count : ℕ) (ran : HasRun session trace members history)
    (halts : AreStill session trace members count) where
  run : IsRunSoFar session trace history
  run = so_far session trace members history ran

  there : (q w : ℕ) → pnode_of_process session trace history q ≡ Some w → HasMember members q w
  there = known session trace members history ran

  alike_of : (m : Member) → Contains members m → SameCaller m.seen history m.who
  alike_of = same session trace members history ran

  at_most : (m : Member) → Contains members m → (b : Bool) → m.ended ≡ b → length m.seen ≤ count
  at_most m is true e = halts.fewer m is e
  at_most m is false e = (let z = halts.alike m is e in omega (arith, z))

  some : 1 ≤ count
  some = at_least halts.one.seen (ran.made.make halts.one halts.among).begun (halts.alike halts.one halts.among halts.lives)
    where
      at_least : (seen : List Entry) → has_begun seen halts.one.who ≡ true → length seen ≡ count → 1 ≤ count
      at_least [] has size = absurd (cc)
      at_least (e ∷ es) has size = omega (arith, size)

  -- nobody has made an entry behind what those that live have seen
  none_behind : (e : Entry) → slice_get history count ≡ Some e → ⊥
  none_behind e stands =
      let short = slice_get_within history count e stands in
      let at = from session trace members history ran count (at_one session trace members history ran) some (omega (arith, short)) in
      elim (acts-cases (take count history) e (ran.told.legal count e stands).acts) [
        | inl start ↦ let a = at.so_far.some in let b = ap length start.1 in omega (arith, a, b)
        | inr acts ↦
            let (p, begun) = at.so_far.run.traced e.who acts.1 in
            let has = at.known p e.who begun in
            let m = has.member in
            let parts = (ran.told.begins m has.among).1 in
            let (more, mine) = within_front (λ (f : Entry). f.who == m.who) m.seen (ran.told.begins m has.among).0 history count e parts
            (none_later (λ (e : Entry). e.who == m.who) m.seen (ran.told.begins m has.among).0 history parts (ran.told.agrees m has.among)) stands
            (ap (λ w. w == m.who) (sym has.is) ∙ same_itself m.who) in
            let most = at_most m has.among m.ended refl in
            omega (arith, more, most)
      ]

  ends_there : length history ≤ count
  ends_there = elim (cases_lt count (length history)) [
    | inr le ↦ le
    | inl more ↦ let (e, stands) = is_place history count more in absurd (none_behind e stands)
  ]

  whole_seen : (m : Member) → Contains members m → m.ended ≡ false → m.seen ≡ history
  whole_seen m is alive = whole_is m.seen (ran.told.begins m is).0 history (ran.told.begins m is).1 (let z = halts.alike m is alive in let y = ends_there in omega (arith, z, y))

  calls_some : (p : ℕ) → 1 ≤ length (calls_of trace p)
  calls_some p = (let z = calls_length trace p in omega (arith, z))

  still : NoneCanMove session trace history
  still process can = at_test has.member.ended refl
    where
      has : HasMember members process can.who
      has = there process can.who can.begun

      over : has.member.ended ≡ true → is_over history can.who (length (calls_of trace process)) ≡ true
      over e =
          ap (λ w. is_over history w (length (calls_of trace process))) (sym has.is) ∙ ap (λ p. is_over history has.member.who (length (calls_of trace p))) (sym has.number)
          ∙ over_same session trace members history ran has.member has.among (length (calls_of trace has.member.process)) ∙ ran.made.ended has.member has.among e

      at_test : (b : Bool) → has.member.ended ≡ b → ⊥
      at_test true e =
          let least = over_within session history can.who (length (calls_of trace process)) run.run.legal (over e) in
          let most = run.run.last process can.who can.begun in
          let last : last_number history can.who ≡ length (calls_of trace process) = omega (arith, least, most) in
          let ends : is_over history can.who (last_number history can.who) ≡ true = ap (λ n. is_over history can.who n) last ∙ over e in
          let size = calls_some process in
          let number = next_behind (last_number history can.who) (is_over history can.who (last_number history can.who)) ends (omega (arith, last, size)) in
          let within = slice_get_within (calls_of trace process) (next_number history can.who - 1) can.call can.next in
          omega (arith, within, number, last)
      at_test false e =
          let seen = whole_seen has.member has.among e in
          let waiting : Waits session trace (record { process = process; who = can.who; seen = history; ended = false }) =
          subst (λ (x : ℕ × ℕ × List Entry). Waits session trace (record { process = x.0; who = x.1; seen = x.2; ended = false })) (λ i. (has.number i, has.is i, seen i))
          (halts.waits has.member has.among e) in
          let done : ℕ = next_number history can.who - 1 in
          let number : next_number history can.who ≡ done + 1 = (let z = next_some (last_number history can.who) (is_over history can.who (last_number history can.who)) in omega (arith, z)) in
          let pnode : ℕ → ℕ = λ process. option_map_or (λ pnode. pnode) (pnode_of_process session trace history process) 0 in
          let knows : KnowsChildren trace history process can.who done pnode = λ k child l early at_line forks.
          ap (λ o. option_map_or (λ pnode. pnode) o 0)
          (child_has_begun session trace history process k child can.who l ran.ordered at_line forks can.begun
          (earlier_over session trace ran.ordered history run process can.who done can.call can.begun can.next number (k + 1) (omega arith) (omega (arith, early)))) in
          let never = waiting can.call can.next pnode knows can.step can.stands in
          let z : Some can.reply ≡ None = sym can.ready ∙ never in cc

  pub stuck : IsStuck session trace history
  stuck =
      let (p, at) = run.run.traced halts.one.who (alike_of halts.one halts.among).begun in
      let alive : has_ended history halts.one.who ≡ false = ap (λ (p : Process). p.ended) (alike_of halts.one halts.among).process ∙ ran.made.living halts.one halts.among halts.lives in
      record {
        begun = run.some;
        process = p;
        of_trace = elim (begun_or_forked session trace history p halts.one.who at) [
          | inl is_first ↦ subst (λ p. IsOfTrace trace p) (sym is_first) first
          | inr forked ↦ forked_by forked.1 p (Contains-at trace forked.0 forked.1 forked.2) forked.3
        ];
        waits = ap (λ o. option_map_or (λ w. not (is_over history w (length (calls_of trace p)))) o true) at ∙ ap not (sym (run.ended p halts.one.who at) ∙ alive);
        still = still;
      }
