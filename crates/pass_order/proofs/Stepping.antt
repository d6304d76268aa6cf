-- Where the processes stand after one has taken a turn.
use Rattle.std.proofs.Common.{◌≡◌, ◌≢◌, ◌<◌, ◌≤◌, ◌+◌, ◌*◌, ℕ, zero, suc, List, [], ◌∷◌, ◌++◌, length, refl, ap, sym, ◌∙◌, subst, arith, ◌⊎◌, inl, inr, Bool, true, false, ◌==◌, cond, IsPermutation, length-append}
use Rattle.std.specs.Prelude.{Option, Some, None, Contains, slice_get, slice_set, take}
use Rattle.std.proofs.lemmas.Option.{slice_get_within}
use Rattle.std.proofs.lemmas.List.Sorted.{Contains-permutation, IsPermutation-sym}
use Rattle.pass_entry.proofs.Lists.{alike, different}
use Rattle.pass_entry.proofs.Places.{in_either, slice_get-last}
use Rattle.pass_plain.specs.Legal.{is_over}
use Rattle.pass_plain.specs.Runs.{next_number}
use Rattle.pass_plain.specs.Sessions.{Session}
use Rattle.pass_plain.specs.Traces.{Line, lines_of}
use Rattle.pass_plain.proofs.Appends.{slice_get-append}
use Rattle.pass_plain.proofs.Lists.{below_or, is_place, some_is}
use Rattle.pass_plain.proofs.OtherCalls.{last_none}
use Rattle.pass_replay.specs.Lines.{IsLineAt}
use Rattle.pass_replay.specs.Members.{Waits}
use Rattle.pass_replay.specs.Tries.{Try}
use Rattle.pass_sched.specs.declared.task.Turn.{Turn}
use Rattle.pass_sched.specs.declared.task.Turn.TheVariants as turn
use Rattle.pass_walk.specs.declared.walker.Left.{Left as LeftProcess}
use Rattle.pass_walk.specs.declared.walker.Living.{Living}
use Rattle.pass_walk.specs.declared.walker.Walker.{Walker}
use Rattle.pass_walk.specs.declared.walker.Walker.TheVariants as walker
use Rattle.pass_walk.specs.declared.walker.Went.{Went}
use Rattle.pass_walk.specs.Walkers.{HasWent, IsKid, IsKidIfAny, IsLivingOf, IsWalkerOf, member_of}
use Rattle.pass_order.specs.declared.standing.Standing.{Standing}
use Rattle.pass_order.specs.Queues.{IsLate, IsRanked, count_living, kid_standings, kid_walkers, lives_at, next_rank, next_standings, place_of, standing_at}
use Rattle.pass_order.specs.Ranks.{IsRank, rank_of}
use Rattle.pass_order.proofs.Meeting.{AreMore, living_is}
use Rattle.pass_order.proofs.Placing.{at_append, at_cons, at_permuted, contains_both, contains_left, contains_nil, contains_only, contains_right, count_kid, counts_at, lives_here, lives_new, lives_other, lives_past, living_there, none_there, one_at}
use Rattle.pass_order.proofs.Turned.{here_settled, kid_settled, on_settled}

zero_if : (b : Bool) → ◌≡◌ {A = ℕ} 0 (cond b 0 0)
zero_if true = refl
zero_if false = refl

only_at : (place : ℕ) (s : Standing) → standing_at place (s ∷ []) ≡ cond (s.place == place) 1 0
only_at place s = let z = at_cons place s [] in let none : standing_at place [] ≡ 0 = refl in omega (arith, z, none)

next_at : {J : Type 0} (now : Walker J) (answer : Turn) (s : Standing) (place i : ℕ) → standing_at i (next_standings now answer s place) ≡ cond (s.place == i) (count_living now) 0
next_at (walker.Living l) answer s place i = only_at i (record { rank = next_rank answer l.line s.rank place; place = s.place; seen = length l.proc.seen })
next_at (walker.Ended e) answer s place i = zero_if (s.place == i)
next_at (walker.Left l) answer s place i = zero_if (s.place == i)
next_at walker.Gone answer s place i = zero_if (s.place == i)

kid_at : {J : Type 0} (kid : Option (Living J)) (at place i : ℕ) → standing_at i (kid_standings kid at place) ≡ cond (at == i) (count_kid kid) 0
kid_at (Some k) at place i = only_at i (record { rank = rank_of k.line (3 * place + 3); place = at; seen = 0 })
kid_at None at place i = zero_if (at == i)

line_count : (trace : List Line) (process d e : ℕ) (o : Option ℕ) → IsLineAt trace process d o → IsLineAt trace process e o → d ≡ e
line_count trace process d e (Some place) (l, at, own, count) (k, at_k, own_k, count_k) = sym count ∙ count_k
line_count trace process d e None count other = sym count ∙ other

module _ {J : Type 0} (session : Session) (places : ℕ) (trace : List Line) (ws met : List (Walker J)) (more : AreMore session trace ws met) (same_size : length met ≡ length ws) (s : Standing) (l m : Living J)
    (at : slice_get ws s.place ≡ Some (walker.Living l)) (at_met : slice_get met s.place ≡ Some (walker.Living m)) (living : IsLivingOf session trace m) (w : Went J) (went : HasWent session places trace m w)
    (due late : List Standing) (counted : (i : ℕ) → standing_at i ((s ∷ due) ++ late) ≡ lives_at ws i) (ranked : (u : Standing) → Contains ((s ∷ due) ++ late) u → IsRanked trace ws u) where
  abbrev pub after : List (Walker J)
  after = slice_set met s.place w.walker ++ kid_walkers w.kid

  abbrev pub place : ℕ
  place = place_of m.line

  inside : s.place < length met
  inside = slice_get_within met s.place (walker.Living m) at_met

  counts : (i : ℕ) → one_at i s + standing_at i due + standing_at i late ≡ lives_at ws i
  counts i = let a = at_append i (s ∷ due) late in let b = at_cons i s due in let c = counted i in omega (arith, a, b, c)

  -- nobody else stands for it
  alone : standing_at s.place due + standing_at s.place late ≡ 0
  alone = let a = counts s.place in let b = living_there ws s.place (walker.Living l) at in let c = ap {B = ℕ} (λ b. cond b 1 0) (alike s.place s.place refl) in omega (arith, a, b, c)

  lives_met : (i : ℕ) → i < length met → lives_at met i ≡ lives_at ws i
  lives_met i within =
      let (v, at_v) = is_place met i within in
      let (u, at_u, is) = more.from i v at_v in
      living_there met i v at_v ∙ is.counts ∙ sym (living_there ws i u at_u)

  module _ (due_now late_now : List Standing) (perm : IsPermutation (kid_standings w.kid (length met) place ++ due) due_now) (late_is : late_now ≡ late ++ next_standings w.walker w.answer s place) where
    sum_now : (i : ℕ) → standing_at i (due_now ++ late_now) ≡ cond (length met == i) (count_kid w.kid) 0 + standing_at i due + (standing_at i late + cond (s.place == i) (count_living w.walker) 0)
    sum_now i =
        let a = at_append i due_now late_now in
        let b = at_permuted i (kid_standings w.kid (length met) place ++ due) due_now perm in
        let c = at_append i (kid_standings w.kid (length met) place) due in
        let d = kid_at w.kid (length met) place i in
        let e = ap (λ xs. standing_at i xs) late_is in
        let f = at_append i late (next_standings w.walker w.answer s place) in
        let h = next_at w.walker w.answer s place i in
        omega (arith, a, b, c, d, e, f, h)

    pub counted_now : (i : ℕ) → standing_at i (due_now ++ late_now) ≡ lives_at after i
    counted_now i = elim (below_or i s.place) [
      | inl less ↦ apart (λ same. omega (arith, less, same))
      | inr rest ↦ elim rest [
        | inl above ↦ apart (λ same. omega (arith, above, same))
        | inr same ↦
            subst (λ i. standing_at i (due_now ++ late_now) ≡ lives_at after i) (sym same)
            (let a = sum_now s.place in
            let b = alone in
            let c = ap (λ b. cond b (count_kid w.kid) 0) (different (length met) s.place (λ is. let z = inside in omega (arith, is, z))) in
            let d = ap (λ b. cond b (count_living w.walker) 0) (alike s.place s.place refl) in
            let e = lives_here met s.place w.walker w.kid inside in
            omega (arith, a, b, c, d, e))
      ]
    ]
      where
        apart : i ≢ s.place → standing_at i (due_now ++ late_now) ≡ lives_at after i
        apart ne =
            let a = sum_now i in
            let b = counts i in
            let c = ap {B = ℕ} (λ b. cond b 1 0) (different s.place i (λ is. ne (sym is))) in
            let d = ap (λ b. cond b (count_living w.walker) 0) (different s.place i (λ is. ne (sym is))) in
            elim (below_or i (length met)) [
              | inl within ↦
                  let e = ap (λ b. cond b (count_kid w.kid) 0) (different (length met) i (λ is. omega (arith, is, within))) in
                  let f = lives_other met s.place w.walker w.kid inside i ne within in
                  let h = lives_met i within in
                  omega (arith, a, b, c, d, e, f, h)
              | inr rest ↦ elim rest [
                | inl past ↦
                    let e = ap (λ b. cond b (count_kid w.kid) 0) (different (length met) i (λ is. omega (arith, is, past))) in
                    let f = lives_past met s.place w.walker w.kid inside i past in
                    let z = same_size in
                    let h = none_there ws i (omega (arith, past, z)) in
                    omega (arith, a, b, c, d, e, f, h)
                | inr same ↦
                    let e = ap (λ b. cond b (count_kid w.kid) 0) (alike (length met) i (sym same)) in
                    let f = ap (λ i. lives_at after i) same ∙ lives_new met s.place w.walker w.kid inside in
                    let z = same_size in
                    let h = none_there ws i (omega (arith, same, z)) in
                    omega (arith, a, b, c, d, e, f, h)
              ]
            ]

    -- Their ranks

    -- another one stands as before
    pub still_there : (u : Standing) → Contains due u ⊎ Contains late u
        → (n : Living J) × (k : Living J) × (slice_get ws u.place ≡ Some (walker.Living k)) × (slice_get after u.place ≡ Some (walker.Living n)) × (n.process ≡ k.process) × (n.proc.who ≡ k.proc.who)
        × (next_number n.proc.seen n.proc.who ≡ next_number k.proc.seen k.proc.who) × IsRank trace (k.process, next_number k.proc.seen k.proc.who) u.rank
    still_there u among =
        let r = ranked u (elim among [
          | inl h ↦ contains_left (s ∷ due) late u (contains_right (s ∷ []) due u h)
          | inr h ↦ contains_right (s ∷ due) late u h
        ]) in
        let some : 1 ≤ standing_at u.place due + standing_at u.place late = elim among [
          | inl h ↦ (let z = counts_at due u h in omega (arith, z))
          | inr h ↦ (let z = counts_at late u h in omega (arith, z))
        ] in
        let ne : u.place ≢ s.place = λ same. (let z = alone in let y = ap (λ i. standing_at i due + standing_at i late) same in omega (arith, some, z, y)) in
        let (v, at_v, is) = more.on u.place (walker.Living r.living) r.stands in
        let (n, v_is, process, who, next, begins) = is.lives r.living refl in (
          n,
          r.living,
          r.stands,
          on_settled met s.place w.walker w.kid u.place (walker.Living n) ne (at_v ∙ ap (λ (v : Walker J). Some v) v_is),
          process,
          who,
          next,
          r.rank,
        )

    -- the one that has taken its turn
    its_rank : (n : Living J) → w.walker ≡ walker.Living n → IsRank trace (m.process, next_number m.proc.seen m.proc.who) s.rank
        → IsRank trace (n.process, next_number n.proc.seen n.proc.who) (next_rank w.answer n.line s.rank place)
    its_rank n is rank = by_answer w.answer refl
      where
        living_now : IsLivingOf session trace n
        living_now = subst (λ (w : Walker J). IsWalkerOf session places trace w) is went.walker

        process : n.process ≡ m.process
        process = ap (λ (w : Walker J). (member_of w).process) (sym is) ∙ went.process

        who : n.proc.who ≡ m.proc.who
        who = ap (λ (w : Walker J). (member_of w).who) (sym is) ∙ went.who

        moved_rank : w.answer ≡ turn.Moved → (o b : Option ℕ) → n.line ≡ o → m.line ≡ b → IsRank trace (n.process, next_number n.proc.seen n.proc.who) (rank_of o (3 * place_of b + 2))
        moved_rank moved (Some q) b line before =
            let (its, there, own, count) = subst (λ (o : Option ℕ). IsLineAt trace n.process living_now.done o) line living_now.line in
            inl (record { place = q; its = its; stands = there; own = own; count = ap (λ k. k + 1) count ∙ sym living_now.local.next; is = refl })
        moved_rank moved None (Some r) line before =
            let lines : length (lines_of trace n.process) ≡ living_now.done = subst (λ (o : Option ℕ). IsLineAt trace n.process living_now.done o) line living_now.line in
            let (its, there, own, count) = subst (λ (o : Option ℕ). IsLineAt trace m.process living.done o) before living.line in
            let one = ap (λ who. next_number n.proc.seen who) who in
            let next = went.next n is moved in
            let a = living_now.local.next in
            let b = living.local.next in
            let c = ap (λ p. length (lines_of (take r trace) p)) process in
            inr (inl (record { place = r; its = its; stands = there; own = own ∙ sym process; last = omega (arith, lines, one, next, a, b, c, count); behind = omega (arith, lines, a); is = refl }))
        moved_rank moved None None line before =
            let lines : length (lines_of trace m.process) ≡ living.done = subst (λ (o : Option ℕ). IsLineAt trace m.process living.done o) before living.line in
            let now : length (lines_of trace n.process) ≡ living_now.done = subst (λ (o : Option ℕ). IsLineAt trace n.process living_now.done o) line living_now.line in
            let one = ap (λ who. next_number n.proc.seen who) who in
            let next = went.next n is moved in
            let a = living_now.local.next in
            let b = living.local.next in
            let c = ap (λ p. length (lines_of trace p)) process in
            absurd (omega (arith, lines, now, one, next, a, b, c))

        by_answer : (a : Turn) → w.answer ≡ a → IsRank trace (n.process, next_number n.proc.seen n.proc.who) (next_rank w.answer n.line s.rank place)
        by_answer turn.Moved answer =
            subst (λ (a : Turn). IsRank trace (n.process, next_number n.proc.seen n.proc.who) (next_rank a n.line s.rank place)) (sym answer) (moved_rank answer n.line m.line refl refl)
        by_answer turn.Waiting answer =
            let line = went.line n is answer in
            let there : IsLineAt trace m.process living_now.done m.line = subst (λ (o : Option ℕ). IsLineAt trace m.process living_now.done o) line (subst (λ p. IsLineAt trace p living_now.done n.line) process living_now.line) in
            let done : living_now.done ≡ living.done = line_count trace m.process living_now.done living.done m.line there living.line in
            let next : next_number n.proc.seen n.proc.who ≡ next_number m.proc.seen m.proc.who = living_now.local.next ∙ ap (λ k. k + 1) done ∙ sym living.local.next in
            subst (λ (a : Turn). IsRank trace (n.process, next_number n.proc.seen n.proc.who) (next_rank a n.line s.rank place)) (sym answer)
            (subst (λ (c : ℕ × ℕ). IsRank trace c s.rank) (λ i. (sym process i, sym next i)) rank)
        by_answer turn.Ended answer = absurd (went.goes_on answer)
        by_answer turn.Failed answer = let (x, left) = went.fails answer in absurd (not_both x (sym is ∙ left))
          where
            not_both : (x : LeftProcess J) → ◌≡◌ {A = Walker J} (walker.Living n) (walker.Left x) → ⊥
            not_both x e = cc

    -- the child
    kid_rank : (k : Living J) → w.kid ≡ Some k → IsRank trace (k.process, next_number k.proc.seen k.proc.who) (rank_of k.line (3 * place + 3))
    kid_rank k is = by_line k.line refl
      where
        kid_is : IsKid session trace k
        kid_is = subst (λ (o : Option (Living J)). IsKidIfAny session trace o) is went.kid

        first : next_number k.proc.seen k.proc.who ≡ 1
        first = ap (λ last. cond (last == 0) 1 (cond (is_over k.proc.seen k.proc.who last) (last + 1) last)) (last_none k.proc.seen k.proc.who kid_is.silent)

        by_line : (o : Option ℕ) → k.line ≡ o → IsRank trace (k.process, next_number k.proc.seen k.proc.who) (rank_of o (3 * place + 3))
        by_line (Some q) line =
            let (its, there, own, count) = subst (λ (o : Option ℕ). IsLineAt trace k.process kid_is.living.done o) line kid_is.living.line in
            inl (record { place = q; its = its; stands = there; own = own; count = ap (λ k. k + 1) count ∙ sym kid_is.living.local.next; is = refl })
        by_line None line =
            let lines : length (lines_of trace k.process) ≡ kid_is.living.done = subst (λ (o : Option ℕ). IsLineAt trace k.process kid_is.living.done o) line kid_is.living.line in
            let next = kid_is.living.local.next in
            let one = first in
            let f = went.forks k is in
            inr (inr (inr (record {
              place = f.place;
              its = f.its;
              stands = f.stands;
              forks = f.forks;
              none = omega (arith, lines, next, one);
              only = first;
              is = ap (λ (o : Option ℕ). 3 * place_of o + 3) f.is;
            })))

    pub ranked_now : IsRank trace (m.process, next_number m.proc.seen m.proc.who) s.rank → (u : Standing) → Contains (due_now ++ late_now) u → IsRanked trace after u
    ranked_now rank u h = elim (contains_both due_now late_now u h) [
      | inl in_due ↦ elim (contains_both (kid_standings w.kid (length met) place) due u (Contains-permutation due_now (kid_standings w.kid (length met) place ++ due) u
          (IsPermutation-sym (kid_standings w.kid (length met) place ++ due) due_now perm) in_due)) [
            | inl new ↦ of_kid w.kid refl new
            | inr old ↦ as_before (inl old)
          ]
      | inr in_late ↦ elim (contains_both late (next_standings w.walker w.answer s place) u (subst (λ xs. Contains xs u) late_is in_late)) [
        | inl old ↦ as_before (inr old)
        | inr new ↦ of_next w.walker refl new
      ]
    ]
      where
        as_before : Contains due u ⊎ Contains late u → IsRanked trace after u
        as_before among =
            let (n, k, at_k, at_n, process, who, next, its) = still_there u among in
            record { living = n; stands = at_n; rank = subst (λ (c : ℕ × ℕ). IsRank trace c u.rank) (λ i. (sym process i, sym next i)) its }

        of_kid : (o : Option (Living J)) → w.kid ≡ o → Contains (kid_standings o (length met) place) u → IsRanked trace after u
        of_kid None is new = absurd (contains_nil u new)
        of_kid (Some k) is new =
            subst (λ u. IsRanked trace after u) (contains_only (record { rank = rank_of k.line (3 * place + 3); place = length met; seen = 0 }) u new)
            (record { living = k; stands = kid_settled met s.place w.walker w.kid k is; rank = kid_rank k is })

        of_next : (now : Walker J) → w.walker ≡ now → Contains (next_standings now w.answer s place) u → IsRanked trace after u
        of_next (walker.Living n) is new =
            subst (λ u. IsRanked trace after u) (contains_only (record { rank = next_rank w.answer n.line s.rank place; place = s.place; seen = length n.proc.seen }) u new)
            (record { living = n; stands = here_settled met s.place w.walker w.kid inside ∙ ap (λ (w : Walker J). Some w) is; rank = its_rank n is rank })
        of_next (walker.Ended e) is new = absurd (contains_nil u new)
        of_next (walker.Left x) is new = absurd (contains_nil u new)
        of_next walker.Gone is new = absurd (contains_nil u new)

    -- where the turn made no entry, those that waited wait, and it waits with them
    module _ (tries : List Try) (waiting : (u : Standing) → Contains late u → IsLate session trace ws tries u) (t : Try) (process : t.process ≡ m.process) (who : t.who ≡ m.proc.who) (ends : t.after ≡ (member_of w.walker).seen)
        (still : length t.after ≤ length t.before) (answer : w.answer ≡ turn.Waiting) where
      size : length (tries ++ t ∷ []) ≡ length tries + 1
      size = length-append tries (t ∷ [])

      pub waiting_now : (u : Standing) → Contains late_now u → IsLate session trace after (tries ++ t ∷ []) u
      waiting_now u h = elim (contains_both late (next_standings w.walker w.answer s place) u (subst (λ xs. Contains xs u) late_is h)) [
        | inl old ↦ as_before old
        | inr new ↦ of_next w.walker refl new
      ]
        where
          as_before : Contains late u → IsLate session trace after (tries ++ t ∷ []) u
          as_before old =
              let (n, k, at_k, at_n, its, pnode, next, r) = still_there u (inr old) in
              let is = waiting u old in
              let one : is.living ≡ k = living_is is.living k (some_is (walker.Living is.living) (walker.Living k) (sym is.stands ∙ at_k)) in
              let p : is.living.process ≡ n.process = ap (λ (l : Living J). l.process) one ∙ sym its in
              let q : is.living.proc.who ≡ n.proc.who = ap (λ (l : Living J). l.proc.who) one ∙ sym pnode in
              let v = is.waited in
              record {
                living = n;
                stands = at_n;
                waited = record {
                  place = v.place;
                  earlier = (let z = size in let y = v.earlier in omega (arith, z, y));
                  tried = v.tried;
                  stands = slice_get-append tries (t ∷ []) v.place v.tried v.stands;
                  of = v.of ∙ p;
                  by = v.by ∙ q;
                  waits = subst (λ (x : ℕ × ℕ). Waits session trace (record { process = x.0; who = x.1; seen = v.tried.after; ended = false })) (λ i. (p i, q i)) v.waits;
                  still = λ k x low high at_x. elim (in_either tries (t ∷ []) k x at_x) [
                    | inl front ↦ v.still k x low (slice_get_within tries k x front) front
                    | inr back ↦ subst (λ (x : Try). length x.after ≤ length x.before) (only back.0 x back.2) still
                  ];
                };
                counted = is.counted;
              }
            where
              only : (j : ℕ) (x : Try) → slice_get (t ∷ []) j ≡ Some x → t ≡ x
              only zero x at_x = some_is t x at_x
              only (suc j) x at_x = absurd (cc)

          of_next : (now : Walker J) → w.walker ≡ now → Contains (next_standings now w.answer s place) u → IsLate session trace after (tries ++ t ∷ []) u
          of_next (walker.Living n) is new =
              let p : n.process ≡ m.process = ap (λ (w : Walker J). (member_of w).process) (sym is) ∙ went.process in
              let q : n.proc.who ≡ m.proc.who = ap (λ (w : Walker J). (member_of w).who) (sym is) ∙ went.who in
              let seen : t.after ≡ n.proc.seen = ends ∙ ap (λ (w : Walker J). (member_of w).seen) is in
              let waits : Waits session trace (member_of (walker.Living n)) = subst (λ (w : Walker J). Waits session trace (member_of w)) is (went.waits answer) in
              subst (λ u. IsLate session trace after (tries ++ t ∷ []) u) (contains_only (record { rank = next_rank w.answer n.line s.rank place; place = s.place; seen = length n.proc.seen }) u new) (record {
                living = n;
                stands = here_settled met s.place w.walker w.kid inside ∙ ap (λ (w : Walker J). Some w) is;
                waited = record {
                  place = length tries;
                  earlier = (let z = size in omega (arith, z));
                  tried = t;
                  stands = slice_get-last tries t;
                  of = process ∙ sym p;
                  by = who ∙ sym q;
                  waits = subst (λ h. Waits session trace (record { process = n.process; who = n.proc.who; seen = h; ended = false })) (sym seen) waits;
                  still = λ k x low high at_x. absurd (let z = size in omega (arith, low, high, z));
                };
                counted = ap length seen;
              })
          of_next (walker.Ended e) is new = absurd (contains_nil u new)
          of_next (walker.Left x) is new = absurd (contains_nil u new)
          of_next walker.Gone is new = absurd (contains_nil u new)
