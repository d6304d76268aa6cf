-- What the calls of a run in the order of the text have made of it at its end.
use Rattle.std.proofs.Common.{◌≡◌, ◌≤◌, ◌+◌, ℕ, List, [], ◌∷◌, length, map, refl, ap, sym, ◌∙◌, subst}
use Rattle.std.specs.Prelude.{Some, slice_get}
use mathlib.Core.List.{IsPrefix}
use Rattle.pass_entry.specs.declared.entry.Entry.{Entry}
use Rattle.pass_entry.proofs.Places.{Contains-at}
use Rattle.pass_plain.specs.Lawful.{AgreeBy}
use Rattle.pass_plain.specs.Sessions.{Session}
use Rattle.pass_plain.specs.Traces.{Line}
use Rattle.pass_plain.proofs.Lists.{some_is}
use Rattle.pass_proc.specs.Ends.{TrailView}
use Rattle.pass_replay.specs.Lines.{AreLinesBehind}
use Rattle.pass_replay.specs.Members.{AreStill, Member, Waits}
use Rattle.pass_replay.specs.Starts.{HasRoom}
use Rattle.pass_replay.specs.Tries.{AreTries, TriesLaw}
use Rattle.pass_walk.specs.declared.ends.Cause.{Cause}
use Rattle.pass_walk.specs.declared.ends.Last.{Last}
use Rattle.pass_walk.specs.declared.walker.Walker.{Walker}
use Rattle.pass_walk.specs.declared.walker.Walker.TheVariants as walker
use Rattle.pass_walk.specs.Causes.{IsCauseOf}
use Rattle.pass_walk.specs.Runs.{IsRanBy, IsTold, trail_of}
use Rattle.pass_walk.specs.Walkers.{IsWalkerOf, cause_of, member_of}
use Rattle.pass_order.specs.Queues.{IsHalted, IsPlayed, IsStopped}
use Rattle.pass_order.specs.Replayed.{IsReplayedBy}
use Rattle.pass_order.proofs.Prefixes.{agree_between}
use Rattle.pass_order.proofs.Turned.{are_members, has_run, its_walker, map_get, members_of}
use Rattle.std.proofs.lemmas.List.Elements.{All-contains}

-- the cause of one that was left
cause_there : {J : Type 0} (session : Session) (places : ℕ) (trace : List Line) (w : Walker J) (cause : Cause) → IsWalkerOf session places trace w → cause_of w ≡ Some cause → IsCauseOf session places trace (member_of w) cause
cause_there session places trace (walker.Left l) cause is at = subst (λ c. IsCauseOf session places trace (member_of (walker.Left l)) c) (some_is l.cause cause at) is.cause
cause_there session places trace (walker.Living l) cause is at = absurd (cc)
cause_there session places trace (walker.Ended e) cause is at = absurd (cc)
cause_there session places trace walker.Gone cause is at = absurd (cc)

module _ {J : Type 0} (session : Session) (places : ℕ) (trace : List Line) (ws : List (Walker J)) (stopped : IsStopped session places trace ws) where
  abbrev pub trails : List TrailView
  trails = map (λ w. trail_of (member_of w)) ws

  upto_behind : (history : List Entry) → IsTold history trails → (i : ℕ) (w : Walker J) → slice_get ws i ≡ Some w → IsPrefix (member_of w).seen history × AgreeBy (member_of w).who (member_of w).seen history
  upto_behind history told i w at =
      All-contains (λ (t : TrailView). IsPrefix t.seen history × AgreeBy t.who t.seen history) trails (trail_of (member_of w)) told
      (Contains-at trails i (trail_of (member_of w)) (map_get (λ w. trail_of (member_of w)) ws i w at))

  -- one of them has seen all that was tried
  module _ (tries_law : TriesLaw) (ordered : AreLinesBehind [] trace) where
    last : (i : ℕ) × (w : Walker J) × (slice_get ws i ≡ Some w) × ((member_of w).seen ≡ stopped.upto)
    last = stopped.last_at

    are_tries : (history : List Entry) → HasRoom session trace → IsTold history trails → AreTries session trace (members_of ws) stopped.tries
    are_tries history room told =
        let are = stopped.tried in
        let begins : IsPrefix stopped.upto history = subst (λ h. IsPrefix h history) last.3 (upto_behind history told last.0 last.1 last.2).0 in
        record {
          each = λ i t at. let (began, seen) = are.each i t at in (
            began,
            record {
              member = member_of last.1;
              among = Contains-at (members_of ws) last.0 (member_of last.1) (map_get (λ w. member_of w) ws last.0 last.1 last.2);
              begins = subst (λ h. IsPrefix t.after h) (sym last.3) seen;
            },
          );
          chain = are.chain;
          own = λ m h n e at_n by.
              let (i, w, at, is) = its_walker session places trace ws stopped.each m h in
              are.own i w at n e (ap (λ (m : Member). slice_get m.seen n) is ∙ at_n) (by ∙ ap (λ (m : Member). m.who) (sym is));
          rests = are.rests;
          placed = are.placed;
          first = are.first room (λ i w at. agree_between (member_of w).who (member_of w).seen stopped.upto history (are.behind i w at) begins (upto_behind history told i w at).1);
        }

    -- the history is a beginning of the replay
    pub replayed : IsReplayedBy session trace trails
    replayed history room legal told =
        tries_law session trace (members_of ws) history stopped.tries
        (has_run session places trace ws stopped.each stopped.run history ordered room legal (λ i w at. (upto_behind history told i w at).0) (λ i w at. (upto_behind history told i w at).1))
        (are_tries history room told)

-- how it ended
module _ {J : Type 0} (session : Session) (places : ℕ) (trace : List Line) (ws : List (Walker J)) (last : Last) (played : IsPlayed session places trace ws last) where
  halted : (count : ℕ) → IsHalted session trace ws count → AreStill session trace (members_of ws) count
  halted count h = record {
    one = member_of (walker.Living h.one);
    among = Contains-at (members_of ws) h.place (member_of (walker.Living h.one)) (map_get (λ w. member_of w) ws h.place (walker.Living h.one) h.stands);
    lives = refl;
    alike = λ m is lives.
        let (i, w, at, same) = its_walker session places trace ws played.stopped.each m is in
        ap (λ (m : Member). length m.seen) (sym same) ∙ (h.each i w at).living (ap (λ (m : Member). m.ended) same ∙ lives);
    waits = λ m is lives.
        let (i, w, at, same) = its_walker session places trace ws played.stopped.each m is in
        subst (λ m. Waits session trace m) same (h.waits i w at (ap (λ (m : Member). m.ended) same ∙ lives));
    fewer = λ m is ended.
        let (i, w, at, same) = its_walker session places trace ws played.stopped.each m is in
        subst (λ (m : Member). length m.seen ≤ count) same ((h.each i w at).ended (ap (λ (m : Member). m.ended) same ∙ ended));
  }

  pub ran_by : (trail_views : List TrailView) → trail_views ≡ map (λ w. trail_of (member_of w)) ws → IsRanBy session places trace trail_views last
  ran_by trail_views are = record {
    members = members_of ws;
    trails_are = are ∙ map_twice ws;
    made = are_members session places trace ws played.stopped.each (session.start.ceiling + 1) played.stopped.run;
    done = λ is m h.
        let (i, w, at, same) = its_walker session places trace ws played.stopped.each m h in
        ap (λ (m : Member). m.ended) (sym same) ∙ played.done is i w at;
    stuck = λ is. let (count, h) = played.stuck is in (count, halted count h);
    failed = λ cause is seen.
        let left = played.failed cause is seen in
        record {
          one = member_of left.its;
          among = Contains-at (members_of ws) left.place (member_of left.its) (map_get (λ w. member_of w) ws left.place left.its left.stands);
          is = cause_there session places trace left.its cause (played.stopped.each left.place left.its left.stands) left.is;
        };
  }
    where
      map_twice : (ws : List (Walker J)) → map (λ w. trail_of (member_of w)) ws ≡ map trail_of (members_of ws)
      map_twice [] = refl
      map_twice (w ∷ ws) = ap (λ ts. trail_of (member_of w) ∷ ts) (map_twice ws)
