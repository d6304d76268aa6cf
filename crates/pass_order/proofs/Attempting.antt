-- What the try of a call makes of the queue.
use Rattle.std.proofs.Common.{◌≡◌, ◌≢◌, ◌<◌, ◌≤◌, ◌+◌, ℕ, zero, suc, List, [], ◌∷◌, ◌++◌, length, refl, ap, sym, ◌∙◌, subst, arith, ◌⊎◌, inl, inr, Bool, true, false, ◌==◌, cond, IsPermutation, append-nil}
use Rattle.std.specs.Prelude.{Option, Some, Contains, slice_get, slice_set}
use Rattle.std.proofs.lemmas.Option.{slice_get_within}
use Rattle.std.proofs.lemmas.List.Sorted.{Contains-permutation, IsPermutation-sym}
use Rattle.pass_entry.specs.declared.entry.Entry.{Entry}
use Rattle.pass_entry.proofs.Lists.{different, same_numbers}
use Rattle.pass_plain.specs.Runs.{next_number}
use Rattle.pass_plain.specs.Sessions.{Session}
use Rattle.pass_plain.specs.Traces.{Line}
use Rattle.pass_plain.proofs.Lists.{some_is}
use Rattle.pass_replay.specs.Lines.{AreLinesBehind}
use Rattle.pass_replay.specs.Tries.{HasRested, HasWaited, Try}
use Rattle.pass_sched.specs.declared.task.Turn.{Turn}
use Rattle.pass_sched.specs.declared.task.Turn.TheVariants as turn
use Rattle.pass_walk.specs.declared.ends.Cause.{Cause}
use Rattle.pass_walk.specs.declared.walker.Left.{Left as LeftProcess}
use Rattle.pass_walk.specs.declared.walker.Living.{Living}
use Rattle.pass_walk.specs.declared.walker.Walker.{Walker}
use Rattle.pass_walk.specs.declared.walker.Walker.TheVariants as walker
use Rattle.pass_walk.specs.declared.walker.Went.{Went}
use Rattle.pass_walk.specs.Walkers.{HasWent, IsKidIfAny, IsWalkerOf, cause_of, member_of}
use Rattle.pass_walk.proofs.Among.{contains}
use Rattle.pass_order.specs.declared.queue.Tried.{Tried}
use Rattle.pass_order.specs.declared.queue.Tried.TheVariants as tries_to
use Rattle.pass_order.specs.declared.standing.Standing.{Standing}
use Rattle.pass_order.specs.Queues.{AreTriesBy, AreWalkers, HasJoined, HasLeft, IsGoing, IsQueue, IsRanked, IsStopped, count_living, kid_standings, kid_walkers, lives_at, next_standings, place_of, standing_at, tried_of, waits_if}
use Rattle.pass_order.specs.Ranks.{IsRank}
use Rattle.pass_order.proofs.Meeting.{AreMore, IsMore, are_more, behind_now, length_set, living_is, met_here, set_twice, size, tries_met, upto_seen, walkers_met}
use Rattle.pass_order.proofs.Placing.{at_append, at_cons, at_permuted, contains_left, contains_nil, contains_right, living_there, some_at}
use Rattle.pass_order.proofs.Stepping.{counted_now, ranked_now, waiting_now}
use Rattle.pass_order.proofs.Turned.{attempt, going_is, has_rested, here_settled, of_settled, rested_after, tries_after, walkers_after}

-- What the try comes to

failed_left : {J : Type 0} (w : Walker J) (answer : Turn) (before : ℕ) (cause : Cause) → tried_of w answer before ≡ tries_to.Failed cause → cause_of w ≡ Some cause
failed_left (walker.Left l) answer before cause is = cause_is l.cause cause is
  where
    cause_is : (c d : Cause) → ◌≡◌ {A = Tried} (tries_to.Failed c) (tries_to.Failed d) → Some c ≡ Some d
    cause_is c d e = cc
failed_left (walker.Living l) answer before cause is = absurd (never answer (length l.proc.seen == before) is)
  where
    never : (answer : Turn) (b : Bool) → waits_if answer b ≡ tries_to.Failed cause → ⊥
    never turn.Waiting true is = cc
    never turn.Waiting false is = cc
    never turn.Moved b is = cc
    never turn.Ended b is = cc
    never turn.Failed b is = cc
failed_left (walker.Ended e) answer before cause is = absurd (cc)
failed_left walker.Gone answer before cause is = absurd (cc)

waits_still : {J : Type 0} (w : Walker J) (answer : Turn) (before : ℕ) → tried_of w answer before ≡ tries_to.Waits → (answer ≡ turn.Waiting) × (length (member_of w).seen ≡ before)
waits_still (walker.Living l) answer before is = by_answer answer (length l.proc.seen == before) refl is
  where
    by_answer : (answer : Turn) (b : Bool) → (length l.proc.seen == before) ≡ b → waits_if answer b ≡ tries_to.Waits → (answer ≡ turn.Waiting) × (length l.proc.seen ≡ before)
    by_answer turn.Waiting true t is = (refl, same_numbers (length l.proc.seen) before t)
    by_answer turn.Waiting false t is = absurd (cc)
    by_answer turn.Moved b t is = absurd (cc)
    by_answer turn.Ended b t is = absurd (cc)
    by_answer turn.Failed b t is = absurd (cc)
waits_still (walker.Left l) answer before is = absurd (cc)
waits_still (walker.Ended e) answer before is = absurd (cc)
waits_still walker.Gone answer before is = absurd (cc)

-- where it isn't left, the turn did not fail
sound : {J : Type 0} (w : Went J) → (w.answer ≡ turn.Failed → (l : LeftProcess J) × (w.walker ≡ walker.Left l)) → (before : ℕ) → ((cause : Cause) → tried_of w.walker w.answer before ≢ tries_to.Failed cause) → w.answer ≢ turn.Failed
sound w fails before never is = let (l, left) = fails is in never l.cause (ap (λ (x : Walker _). tried_of x w.answer before) left)

-- one that has seen more stands before the same call, and has waited as before
rank_on : {J : Type 0} (trace : List Line) (l n k : Living J) (rank : ℕ) → n.process ≡ l.process → next_number n.proc.seen n.proc.who ≡ next_number l.proc.seen l.proc.who → n ≡ k
    → IsRank trace (l.process, next_number l.proc.seen l.proc.who) rank → IsRank trace (k.process, next_number k.proc.seen k.proc.who) rank
rank_on trace l n k rank process next one r =
    subst (λ (n : Living _). IsRank trace (n.process, next_number n.proc.seen n.proc.who) rank) one (subst (λ (c : ℕ × ℕ). IsRank trace c rank) (λ i. (sym process i, sym next i)) r)

waited_on : {J : Type 0} (session : Session) (trace : List Line) (tries : List Try) (i : ℕ) (l n k : Living J) → n.process ≡ l.process → n.proc.who ≡ l.proc.who → n ≡ k
    → HasWaited session trace tries i l.process l.proc.who → HasWaited session trace tries i k.process k.proc.who
waited_on session trace tries i l n k process who one waited =
    subst (λ (n : Living _). HasWaited session trace tries i n.process n.proc.who) one
    (subst (λ (x : ℕ × ℕ). HasWaited session trace tries i x.0 x.1) (λ j. (sym process j, sym who j)) waited)

module _ {J : Type 0} (session : Session) (places : ℕ) (trace : List Line) (ordered : AreLinesBehind [] trace) (ws : List (Walker J)) (s : Standing) (due late : List Standing) (last : ℕ) (upto : List Entry) (tries : List Try)
    (queued : IsQueue session trace ws (s ∷ due) late last upto tries) (least : (u : Standing) → Contains due u → s.rank ≤ u.rank) (l m : Living J) (z y : Walker J) (at : slice_get ws s.place ≡ Some (walker.Living l))
    (last_at : slice_get (slice_set ws s.place walker.Gone) last ≡ Some z) (joined : HasJoined session trace l z m y) (w : Went J) (went : HasWent session places trace m w) where
  abbrev between : List (Walker J)
  between = slice_set (slice_set ws s.place walker.Gone) last y

  abbrev met : List (Walker J)
  met = slice_set between s.place (walker.Living m)

  abbrev after : List (Walker J)
  after = slice_set met s.place w.walker ++ kid_walkers w.kid

  more : AreMore session trace ws met
  more = are_more session trace ws queued.going s.place last l m z y at last_at joined

  pub at_met : slice_get met s.place ≡ Some (walker.Living m)
  at_met = met_here session trace ws queued.going s.place last l m z y at last_at joined

  pub goes : (i : ℕ) (v : Walker J) → slice_get met i ≡ Some v → IsGoing session trace v
  goes i v at_v = let (u, at_u, is) = more.from i v at_v in is.going (queued.going i u at_u)

  same_size : length met ≡ length ws
  same_size = length_set between s.place (walker.Living m) ∙ size session trace ws queued.going s.place last l m z y at last_at joined

  run : AreWalkers trace (session.start.ceiling + 1) met
  run = walkers_met session trace ws met more (session.start.ceiling + 1) queued.run

  tried : AreTriesBy session trace met m.proc.seen tries
  tried = tries_met session trace ws met more upto m.proc.seen tries queued.tried
      (upto_seen session trace ws queued.going s.place last l m z y at last_at joined upto queued.last_at) (goes s.place (walker.Living m) at_met).legal
      (behind_now session trace ws queued.going s.place last l m z y at last_at joined upto queued.last_at queued.tried.behind)

  -- its rank
  rank_of_it : IsRank trace (m.process, next_number m.proc.seen m.proc.who) s.rank
  rank_of_it =
      let r = queued.ranked s (contains_left (s ∷ due) late s (contains_left (s ∷ []) due s (contains (s ∷ []) s (inl refl)))) in
      let (v, at_v, is) = more.on s.place (walker.Living r.living) r.stands in
      let (n, v_is, process, who, next, begins) = is.lives r.living refl in
      let one : n ≡ m = living_is n m (some_is (walker.Living n) (walker.Living m) (ap (λ (v : Walker J). Some v) (sym v_is) ∙ sym at_v ∙ at_met)) in
      rank_on trace r.living n m s.rank process next one r.rank

  ahead : (i : ℕ) (k : Living J) → slice_get met i ≡ Some (walker.Living k) → i ≢ s.place
      → HasWaited session trace tries (length tries) k.process k.proc.who ⊎ ((r : ℕ) × IsRank trace (k.process, next_number k.proc.seen k.proc.who) r × (s.rank ≤ r))
  ahead i k at_k ne =
      let (u, at_u, is) = more.from i (walker.Living k) at_k in
      let a = queued.counted i in
      let b = at_append i (s ∷ due) late in
      let c = at_cons i s due in
      let d = ap {B = ℕ} (λ b. cond b 1 0) (different s.place i (λ same. ne (sym same))) in
      let e = living_there ws i u at_u in
      let f : 1 ≡ count_living u = is.counts in
      some_of u at_u is (omega (arith, a, b, c, d, e, f))
    where
      some_of : (u : Walker J) → slice_get ws i ≡ Some u → IsMore session trace u (walker.Living k) → standing_at i due + standing_at i late ≡ 1
          → HasWaited session trace tries (length tries) k.process k.proc.who ⊎ ((r : ℕ) × IsRank trace (k.process, next_number k.proc.seen k.proc.who) r × (s.rank ≤ r))
      some_of u at_u is total = by_count (standing_at i due) refl
        where
          by_count : (n : ℕ) → standing_at i due ≡ n → HasWaited session trace tries (length tries) k.process k.proc.who ⊎ ((r : ℕ) × IsRank trace (k.process, next_number k.proc.seen k.proc.who) r × (s.rank ≤ r))
          by_count zero none =
              let (v, there, place) = some_at i late (omega (arith, total, none)) in
              let late_one = queued.waiting v there in
              let u_is : u ≡ walker.Living late_one.living = some_is u (walker.Living late_one.living) (sym at_u ∙ ap (λ i. slice_get ws i) (sym place) ∙ late_one.stands) in
              let (n, k_is, process, who, next, begins) = is.lives late_one.living u_is in
              let one : n ≡ k = living_is n k (sym k_is) in
              inl (waited_on session trace tries (length tries) late_one.living n k process who one late_one.waited)
          by_count (suc c) some =
              let (v, there, place) = some_at i due (omega (arith, some)) in
              let r = queued.ranked v (contains_left (s ∷ due) late v (contains_right (s ∷ []) due v there)) in
              let u_is : u ≡ walker.Living r.living = some_is u (walker.Living r.living) (sym at_u ∙ ap (λ i. slice_get ws i) (sym place) ∙ r.stands) in
              let (n, k_is, process, who, next, begins) = is.lives r.living u_is in
              let one : n ≡ k = living_is n k (sym k_is) in
              inr (
                v.rank,
                rank_on trace r.living n k v.rank process next one r.rank,
                least v there,
              )

  abbrev pub its_try : Try
  its_try = attempt session places trace ordered met goes s.place m at_met w went

  tried_now : AreTriesBy session trace after (member_of w.walker).seen (tries ++ its_try ∷ [])
  tried_now = tries_after session places trace ordered met goes s.place m at_met w went run tries s.rank rank_of_it ahead tried queued.rested went.legal

  run_now : AreWalkers trace (session.start.ceiling + 1) after
  run_now = walkers_after session places trace ordered met goes s.place m at_met w went (session.start.ceiling + 1) run

  inside : s.place < length met
  inside = slice_get_within met s.place (walker.Living m) at_met

  here : slice_get after s.place ≡ Some w.walker
  here = here_settled met s.place w.walker w.kid inside

  each_now : IsWalkerOf session places trace w.walker → (i : ℕ) (x : Walker J) → slice_get after i ≡ Some x → IsWalkerOf session places trace x
  each_now is i x at_x = elim (of_settled met s.place w.walker w.kid i x at_x) [
    | inl own ↦ subst (λ (x : Walker J). IsWalkerOf session places trace x) own.1 is
    | inr rest ↦ elim rest [
      | inl other ↦ going_is session places trace x (goes i x other.1)
      | inr new ↦
          let (k, kid, x_is, place) = new in
          subst (λ (x : Walker J). IsWalkerOf session places trace x) x_is (subst (λ (o : Option (Living J)). IsKidIfAny session trace o) kid went.kid).living
    ]
  ]

  -- the walkers as they are at the end of the try
  module _ (now : List (Walker J)) (now_is : now ≡ slice_set between s.place w.walker ++ kid_walkers w.kid) where
    same_now : after ≡ now
    same_now = ap (λ (ws : List (Walker J)). ws ++ kid_walkers w.kid) (set_twice between s.place (walker.Living m) w.walker) ∙ sym now_is

    pub stopped_now : IsStopped session places trace now
    stopped_now = subst (λ ws. IsStopped session places trace ws) same_now (record {
      upto = (member_of w.walker).seen;
      tries = tries ++ its_try ∷ [];
      last_at = (s.place, w.walker, here, refl);
      each = each_now went.walker;
      run = run_now;
      tried = tried_now;
    })

    pub left_now : (cause : Cause) → tried_of w.walker w.answer (length m.proc.seen) ≡ tries_to.Failed cause → HasLeft now cause
    left_now cause is = subst (λ ws. HasLeft ws cause) same_now (record { place = s.place; its = w.walker; stands = here; is = failed_left w.walker w.answer (length m.proc.seen) cause is })

    module _ (due_now late_now : List Standing) (perm : IsPermutation (kid_standings w.kid (length between) (place_of m.line) ++ due) due_now) (late_is : late_now ≡ late ++ next_standings w.walker w.answer s (place_of m.line)) where
      perm_met : IsPermutation (kid_standings w.kid (length met) (place_of m.line) ++ due) due_now
      perm_met = subst (λ n. IsPermutation (kid_standings w.kid n (place_of m.line) ++ due) due_now) (sym (length_set between s.place (walker.Living m))) perm

      counted : (i : ℕ) → standing_at i (due_now ++ late_now) ≡ lives_at after i
      counted =
          counted_now session places trace ws met more same_size s l m at at_met (goes s.place (walker.Living m) at_met) w went due late queued.counted queued.ranked due_now late_now perm_met late_is

      ranked : (u : Standing) → Contains (due_now ++ late_now) u → IsRanked trace after u
      ranked =
          ranked_now session places trace ws met more same_size s l m at at_met (goes s.place (walker.Living m) at_met) w went due late queued.counted queued.ranked due_now late_now perm_met late_is rank_of_it

      -- none was left
      module _ (never : (cause : Cause) → tried_of w.walker w.answer (length m.proc.seen) ≢ tries_to.Failed cause) where
        going : (i : ℕ) (x : Walker J) → slice_get after i ≡ Some x → IsGoing session trace x
        going i x at_x = elim (of_settled met s.place w.walker w.kid i x at_x) [
          | inl own ↦ subst (λ (x : Walker J). IsGoing session trace x) own.1 (not_left w.walker went.walker (λ x is. never x.cause (ap (λ (x : Walker J). tried_of x w.answer (length m.proc.seen)) is)))
          | inr rest ↦ elim rest [
            | inl other ↦ goes i x other.1
            | inr new ↦
                let (k, kid, x_is, place) = new in
                subst (λ (x : Walker J). IsGoing session trace x) x_is (subst (λ (o : Option (Living J)). IsKidIfAny session trace o) kid went.kid).living
          ]
        ]
          where
            not_left : (x : Walker J) → IsWalkerOf session places trace x → ((k : LeftProcess J) → x ≢ walker.Left k) → IsGoing session trace x
            not_left (walker.Living k) is apart = is
            not_left (walker.Ended e) is apart = is
            not_left (walker.Left k) is apart = absurd (apart k refl)
            not_left walker.Gone is apart = absurd is

        rested : (i : ℕ) (t : Try) → slice_get (tries ++ its_try ∷ []) i ≡ Some t → HasRested session trace t
        rested =
            rested_after session places trace ordered met goes s.place m at_met w went run tries s.rank rank_of_it ahead queued.rested
            (has_rested session places trace ordered met goes s.place m at_met w went (sound w went.fails (length m.proc.seen) never))

        -- all are due again
        pub again_now : (all : List Standing) → IsPermutation (due_now ++ late_now) all → IsQueue session trace now all [] s.place (member_of w.walker).seen (tries ++ its_try ∷ [])
        again_now all same = subst (λ ws. IsQueue session trace ws all [] s.place (member_of w.walker).seen (tries ++ its_try ∷ [])) same_now (record {
          going = going;
          run = run_now;
          last_at = (w.walker, here, refl);
          counted = λ i. ap (λ xs. standing_at i xs) (append-nil all) ∙ at_permuted i (due_now ++ late_now) all same ∙ counted i;
          ranked = λ u h. ranked u (Contains-permutation all (due_now ++ late_now) u (IsPermutation-sym (due_now ++ late_now) all same) (subst (λ xs. Contains xs u) (append-nil all) h));
          waiting = λ u h. absurd (contains_nil u h);
          tried = tried_now;
          rested = rested;
        })

      -- it waits with those that wait
      pub waits_now : tried_of w.walker w.answer (length m.proc.seen) ≡ tries_to.Waits → IsQueue session trace now due_now late_now s.place (member_of w.walker).seen (tries ++ its_try ∷ [])
      waits_now is =
          let (answer, size) = waits_still w.walker w.answer (length m.proc.seen) is in
          let never : (cause : Cause) → tried_of w.walker w.answer (length m.proc.seen) ≢ tries_to.Failed cause = λ cause failed. not_both cause (sym is ∙ failed) in
          subst (λ ws. IsQueue session trace ws due_now late_now s.place (member_of w.walker).seen (tries ++ its_try ∷ [])) same_now (record {
            going = going never;
            run = run_now;
            last_at = (w.walker, here, refl);
            counted = counted;
            ranked = ranked;
            waiting = waiting_now session places trace ws met more same_size s l m at at_met (goes s.place (walker.Living m) at_met) w went due late queued.counted queued.ranked due_now late_now perm_met late_is
                tries queued.waiting its_try refl refl refl (let z = size in let y : length its_try.after ≤ length its_try.before = omega (arith, z) in y) answer;
            tried = tried_now;
            rested = rested never;
          })
        where
          not_both : (cause : Cause) → ◌≡◌ {A = Tried} tries_to.Waits (tries_to.Failed cause) → ⊥
          not_both cause e = cc

-- all that waited are due
pub begun_again : {J : Type 0} (session : Session) (trace : List Line) (ws : List (Walker J)) (due late all : List Standing) (last : ℕ) (upto : List Entry) (tries : List Try) → IsQueue session trace ws due late last upto tries
    → IsPermutation (due ++ late) all → IsQueue session trace ws all [] last upto tries
begun_again session trace ws due late all last upto tries q same = record {
  going = q.going;
  run = q.run;
  last_at = q.last_at;
  counted = λ i. ap (λ xs. standing_at i xs) (append-nil all) ∙ at_permuted i (due ++ late) all same ∙ q.counted i;
  ranked = λ u h. q.ranked u (Contains-permutation all (due ++ late) u (IsPermutation-sym (due ++ late) all same) (subst (λ xs. Contains xs u) (append-nil all) h));
  waiting = λ u h. absurd (contains_nil u h);
  tried = q.tried;
  rested = q.rested;
}
