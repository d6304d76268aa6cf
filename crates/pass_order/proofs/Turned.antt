-- The processes of a run after one has taken a turn.
use Rattle.std.proofs.Common.{◌≡◌, ◌≢◌, ◌<◌, ◌≤◌, ◌+◌, ℕ, zero, suc, List, [], ◌∷◌, ◌++◌, length, map, refl, ap, sym, ◌∙◌, subst, arith, ◌⊎◌, inl, inr, true, false, length-append}
use Rattle.std.specs.Prelude.{Option, Some, None, Contains, option_map, slice_get, slice_set}
use Rattle.std.proofs.lemmas.Bool.{cases_lt}
use Rattle.std.proofs.lemmas.Option.{slice_get-map, slice_get_within}
use mathlib.Core.List.{IsPrefix}
use Rattle.pass_entry.specs.declared.entry.Entry.{Entry}
use Rattle.pass_entry.specs.declared.entry.Act.TheVariants as act
use Rattle.pass_entry.proofs.Places.{Contains-at, Contains-place, in_either, mapped, set_here, slice_get-last}
use Rattle.pass_plain.specs.Legal.{IsLegal, is_over}
use Rattle.pass_plain.specs.Lawful.{AgreeBy}
use Rattle.pass_plain.specs.Processes.{Held, has_ended}
use Rattle.pass_plain.specs.Runs.{next_number, pnode_of_process}
use Rattle.pass_plain.specs.Sessions.{Session}
use Rattle.pass_plain.specs.Traces.{Line, calls_of, lines_of}
use Rattle.pass_plain.proofs.Appends.{slice_get-append}
use Rattle.pass_plain.proofs.Lists.{below_or, is_place, slice_get-front, some_is}
use Rattle.pass_book.proofs.Prefixes.{prefix_length, prefix_self, prefix_trans}
use Rattle.pass_hold.proofs.Goings.{number_same}
use Rattle.pass_replay.specs.Lines.{AreLinesBehind}
use Rattle.pass_replay.specs.Members.{AreMembers, HasChildren, HasMember, MakesSteps, Member, Waits}
use Rattle.pass_replay.specs.Orders.{Place, places_in_order}
use Rattle.pass_replay.specs.Replays.{HasRun}
use Rattle.pass_replay.specs.Starts.{HasRoom}
use Rattle.pass_replay.specs.Tries.{HasRested, HasWaited, IsFirstTried, IsMadeIn, IsTry, Try, number_of}
use Rattle.pass_replay.proofs.Begun.{begun_or_forked}
use Rattle.pass_replay.proofs.InLine.{next_not_over}
use Rattle.pass_replay.proofs.NextCalls.{calls_length, over_within}
use Rattle.pass_replay.proofs.Replaying.{known, over_same, same}
use Rattle.pass_replay.proofs.TextPlaces.{call_in, in_at}
use Rattle.pass_sched.specs.declared.task.Turn.{Turn}
use Rattle.pass_sched.specs.declared.task.Turn.TheVariants as turn
use Rattle.pass_walk.specs.declared.walker.Living.{Living}
use Rattle.pass_walk.specs.declared.walker.Walker.{Walker}
use Rattle.pass_walk.specs.declared.walker.Walker.TheVariants as walker
use Rattle.pass_walk.specs.declared.walker.Went.{Went}
use Rattle.pass_walk.specs.Walkers.{HasWent, IsBornBy, IsKid, IsKidIfAny, IsLivingOf, IsWalkerOf, member_of}
use Rattle.pass_walk.proofs.Handing.{begins_with_first}
use Rattle.pass_walk.proofs.Linked.{set_other}
use Rattle.pass_walk.proofs.Walks.{some_seen}
use Rattle.pass_order.specs.Queues.{AreTold, AreTriesBy, AreWalkers, HasWalker, IsBirthIn, IsGoing, kid_walkers}
use Rattle.pass_order.specs.Ranks.{IsRank}
use Rattle.pass_order.proofs.Meeting.{length_set, of_set}
use Rattle.pass_order.proofs.Prefixes.{agree_between, next_least}
use Rattle.pass_order.proofs.TextRanks.{ranks_rise, within_calls}

-- The members of the run

pub map_get : {X Y : Type 0} (f : X → Y) (xs : List X) (k : ℕ) (x : X) → slice_get xs k ≡ Some x → slice_get (map f xs) k ≡ Some (f x)
map_get f xs k x at = slice_get-map f xs k ∙ ap (λ o. option_map f o) at

-- what is known of one
pub record IsGood (trace : List Line) (m : Member) : Type 0 where
  pub makes : MakesSteps trace m.process m.who m.seen
  pub ended : m.ended ≡ true → is_over m.seen m.who (length (calls_of trace m.process)) ≡ true
  pub living : m.ended ≡ false → has_ended m.seen m.who ≡ false

pub good : {J : Type 0} (session : Session) (places : ℕ) (trace : List Line) (w : Walker J) → IsWalkerOf session places trace w → IsGood trace (member_of w)
good session places trace (walker.Living l) is = record { makes = is.local.makes; ended = λ h. absurd (let z : false ≡ true = h in cc); living = λ h. is.local.living }
good session places trace (walker.Ended e) is = record { makes = is.makes; ended = λ h. is.over; living = λ h. absurd (let z : true ≡ false = h in cc) }
good session places trace (walker.Left l) is = record { makes = is.makes; ended = λ h. absurd (let z : false ≡ true = h in cc); living = λ h. is.living }
good session places trace walker.Gone is = absurd is

pub going_is : {J : Type 0} (session : Session) (places : ℕ) (trace : List Line) (w : Walker J) → IsGoing session trace w → IsWalkerOf session places trace w
going_is session places trace (walker.Living l) is = is
going_is session places trace (walker.Ended e) is = is
going_is session places trace (walker.Left l) is = absurd is
going_is session places trace walker.Gone is = absurd is

abbrev pub members_of : {J : Type 0} → List (Walker J) → List Member
members_of ws = map (λ w. member_of w) ws

module _ {J : Type 0} (session : Session) (places : ℕ) (trace : List Line) (ws : List (Walker J)) (each : (i : ℕ) (w : Walker J) → slice_get ws i ≡ Some w → IsWalkerOf session places trace w) where
  pub its_walker : (m : Member) → Contains (members_of ws) m → (i : ℕ) × (w : Walker J) × (slice_get ws i ≡ Some w) × (member_of w ≡ m)
  its_walker m h = let (i, at) = Contains-place (members_of ws) m h in let (w, at_w, is) = mapped (λ w. member_of w) ws i m at in (i, w, at_w, is)

  pub has_member : (process who : ℕ) → HasWalker ws process who → HasMember (members_of ws) process who
  has_member process who has = record {
    member = member_of has.its;
    among = Contains-at (members_of ws) has.place (member_of has.its) (map_get (λ w. member_of w) ws has.place has.its has.stands);
    number = has.number;
    is = has.is;
  }

  good_member : (m : Member) → Contains (members_of ws) m → IsGood trace m
  good_member m h = let (i, w, at, is) = its_walker m h in subst (λ m. IsGood trace m) is (good session places trace w (each i w at))

  pub are_members : (first : ℕ) → AreWalkers trace first ws → AreMembers first trace (members_of ws)
  are_members first run = record {
    first_is = has_member 1 first run.first_is;
    make = λ m h. (good_member m h).makes;
    bear = λ m h.
        let (i, w, at, is) = its_walker m h in
        subst (λ m. HasChildren trace (members_of ws) m) is
        (λ n e out descriptors at_n by born.
        let b = run.bears i w at n e out descriptors at_n by born in
        record { number = b.number; child = b.child; counted = b.counted; forks = b.forks; there = has_member b.child e.what b.there });
    ended = λ m h. (good_member m h).ended;
    living = λ m h. (good_member m h).living;
  }

  -- where a history is told of by them, they have run the trace
  pub has_run : (first_is : AreWalkers trace (session.start.ceiling + 1) ws) (history : List Entry) → AreLinesBehind [] trace → HasRoom session trace → IsLegal session history
      → ((i : ℕ) (w : Walker J) → slice_get ws i ≡ Some w → IsPrefix (member_of w).seen history) → AreTold ws history → HasRun session trace (members_of ws) history
  has_run run history ordered room legal begins told = record {
    ordered = ordered;
    room = room;
    starts =
        let first = run.first_is in
        let some = some_seen (member_of first.its).seen (member_of first.its).who (good session places trace first.its (each first.place first.its first.stands)).makes.begun in
        let longer = prefix_length (member_of first.its).seen history (begins first.place first.its first.stands) in
        begins_with_first session (omega (arith, room)) history legal (omega (arith, some, longer));
    made = are_members (session.start.ceiling + 1) run;
    told = record {
      legal = legal;
      begins = λ m h. let (i, w, at, is) = its_walker m h in subst (λ (m : Member). IsPrefix m.seen history) is (begins i w at);
      agrees = λ m h. let (i, w, at, is) = its_walker m h in subst (λ (m : Member). AgreeBy m.who m.seen history) is (told i w at);
    };
  }

-- After a turn

module _ {J : Type 0} (ws : List (Walker J)) (p : ℕ) (now : Walker J) (kid : Option (Living J)) where
  abbrev pub settled : List (Walker J)
  settled = slice_set ws p now ++ kid_walkers kid

  pub of_settled : (i : ℕ) (x : Walker J) → slice_get settled i ≡ Some x → ((i ≡ p) × (now ≡ x)) ⊎ (((i ≢ p) × (slice_get ws i ≡ Some x)) ⊎ ((k : Living J) × (kid ≡ Some k) × (walker.Living k ≡ x) × (i ≡ length ws)))
  of_settled i x at = elim (in_either (slice_set ws p now) (kid_walkers kid) i x at) [
    | inl front ↦ elim (of_set ws p i now x front) [ inl here ↦ inl here | inr other ↦ inr (inl other) ]
    | inr back ↦ by_kid kid back.0 back.2 (back.1 ∙ ap (λ n. n + back.0) (length_set ws p now))
  ]
    where
      by_kid : (kid : Option (Living J)) (j : ℕ) → slice_get (kid_walkers kid) j ≡ Some x → i ≡ length ws + j
          → ((i ≡ p) × (now ≡ x)) ⊎ (((i ≢ p) × (slice_get ws i ≡ Some x)) ⊎ ((k : Living J) × (kid ≡ Some k) × (walker.Living k ≡ x) × (i ≡ length ws)))
      by_kid None j at is = absurd (cc)
      by_kid (Some k) zero at is = inr (inr (k, refl, some_is (walker.Living k) x at, (let z : i ≡ length ws = omega (arith, is) in z)))
      by_kid (Some k) (suc j) at is = absurd (cc)

  pub on_settled : (i : ℕ) (x : Walker J) → i ≢ p → slice_get ws i ≡ Some x → slice_get settled i ≡ Some x
  on_settled i x apart at = slice_get-append (slice_set ws p now) (kid_walkers kid) i x (set_other ws p i now apart ∙ at)

  pub here_settled : p < length ws → slice_get settled p ≡ Some now
  here_settled within = slice_get-append (slice_set ws p now) (kid_walkers kid) p now (set_here ws p now within)

  pub kid_settled : (k : Living J) → kid ≡ Some k → slice_get settled (length ws) ≡ Some (walker.Living k)
  kid_settled k is =
      ap (λ (o : Option (Living J)). slice_get (slice_set ws p now ++ kid_walkers o) (length ws)) is
      ∙ ap (λ n. slice_get (slice_set ws p now ++ walker.Living k ∷ []) n) (sym (length_set ws p now)) ∙ slice_get-last (slice_set ws p now) (walker.Living k)

module _ {J : Type 0} (session : Session) (places : ℕ) (trace : List Line) (ordered : AreLinesBehind [] trace) (ws : List (Walker J)) (goes : (i : ℕ) (w : Walker J) → slice_get ws i ≡ Some w → IsGoing session trace w) (p : ℕ) (m : Living J)
    (at : slice_get ws p ≡ Some (walker.Living m)) (w : Went J) (went : HasWent session places trace m w) where
  abbrev pub after : List (Walker J)
  after = slice_set ws p w.walker ++ kid_walkers w.kid

  abbrev pub attempt : Try
  attempt = record { process = m.process; who = m.proc.who; before = m.proc.seen; after = (member_of w.walker).seen }

  inside : p < length ws
  inside = slice_get_within ws p (walker.Living m) at

  living : IsLivingOf session trace m
  living = goes p (walker.Living m) at

  kid_is : (k : Living J) → w.kid ≡ Some k → IsKid session trace k
  kid_is k is = subst (λ (o : Option (Living J)). IsKidIfAny session trace o) is went.kid

  has_after : (process who : ℕ) → HasWalker ws process who → HasWalker after process who
  has_after process who has = elim (below_or has.place p) [
    | inl less ↦ apart (λ same. omega (arith, less, same))
    | inr rest ↦ elim rest [
      | inl more ↦ apart (λ same. omega (arith, more, same))
      | inr same ↦
          let one : has.its ≡ walker.Living m = some_is has.its (walker.Living m) (sym has.stands ∙ ap (λ k. slice_get ws k) same ∙ at) in
          record {
            place = p;
            its = w.walker;
            stands = here_settled ws p w.walker w.kid inside;
            number = went.process ∙ ap (λ (w : Walker J). (member_of w).process) (sym one) ∙ has.number;
            is = went.who ∙ ap (λ (w : Walker J). (member_of w).who) (sym one) ∙ has.is;
          }
    ]
  ]
    where
      apart : has.place ≢ p → HasWalker after process who
      apart ne = record { place = has.place; its = has.its; stands = on_settled ws p w.walker w.kid has.place has.its ne has.stands; number = has.number; is = has.is }

  birth_on : (process : ℕ) (e : Entry) → IsBirthIn trace ws process e → IsBirthIn trace after process e
  birth_on process e b = record { number = b.number; child = b.child; counted = b.counted; forks = b.forks; there = has_after b.child e.what b.there }

  born_now : (e : Entry) → IsBornBy trace m.process e w.kid → IsBirthIn trace after m.process e
  born_now e born = by_kid w.kid refl born
    where
      by_kid : (o : Option (Living J)) → w.kid ≡ o → IsBornBy trace m.process e o → IsBirthIn trace after m.process e
      by_kid None is born = absurd born
      by_kid (Some k) is born = record {
        number = born.number;
        child = k.process;
        counted = born.counted;
        forks = born.forks;
        there = record { place = length ws; its = walker.Living k; stands = kid_settled ws p w.walker w.kid k is; number = refl; is = born.is };
      }

  -- an entry that had been seen before
  seen_before : (n : ℕ) (e : Entry) → slice_get (member_of w.walker).seen n ≡ Some e → n < length m.proc.seen → slice_get m.proc.seen n ≡ Some e
  seen_before n e at_n early = slice_get-front m.proc.seen went.begins.0 n e early (ap (λ h. slice_get h n) went.begins.1 ∙ at_n)

  pub walkers_after : (first : ℕ) → AreWalkers trace first ws → AreWalkers trace first after
  walkers_after first run = record {
    first_is = has_after 1 first run.first_is;
    bears = λ i x at_x n e out descriptors at_n by born. elim (of_settled ws p w.walker w.kid i x at_x) [
      | inl here ↦
          subst (λ (x : Walker J). IsBirthIn trace after (member_of x).process e) here.1
          (subst (λ q. IsBirthIn trace after q e) (sym went.process)
          (its n e out descriptors (ap (λ (x : Walker J). slice_get (member_of x).seen n) here.1 ∙ at_n) (by ∙ ap (λ (x : Walker J). (member_of x).who) (sym here.1) ∙ went.who) born))
      | inr rest ↦ elim rest [
        | inl other ↦ birth_on (member_of x).process e (run.bears i x other.1 n e out descriptors at_n by born)
        | inr new ↦
            let (k, is, x_is, place) = new in
            absurd ((kid_is k is).silent n e (ap (λ (x : Walker J). slice_get (member_of x).seen n) x_is ∙ at_n) (by ∙ ap (λ (x : Walker J). (member_of x).who) (sym x_is)))
      ]
    ];
  }
    where
      its : (n : ℕ) (e : Entry) (out : ℕ) (descriptors : Held) → slice_get (member_of w.walker).seen n ≡ Some e → e.who ≡ m.proc.who → e.act ≡ act.Born out descriptors → IsBirthIn trace after m.process e
      its n e out descriptors at_n by born = elim (cases_lt n (length m.proc.seen)) [
        | inl early ↦ birth_on m.process e (run.bears p (walker.Living m) at n e out descriptors (seen_before n e at_n early) by born)
        | inr late ↦ born_now e (went.births n e out descriptors at_n late by born)
      ]

  -- The tries

  tried_more : (tries : List Try) (n : ℕ) (e : Entry) → IsMadeIn tries n e → IsMadeIn (tries ++ attempt ∷ []) n e
  tried_more tries n e made = record {
    place = made.place;
    made_in = made.made_in;
    stands = slice_get-append tries (attempt ∷ []) made.place made.made_in made.stands;
    by = made.by;
    counted = made.counted;
    from = made.from;
    upto = made.upto;
  }

  waited_more : (tries : List Try) (i process who : ℕ) → i ≤ length tries → HasWaited session trace tries i process who → HasWaited session trace (tries ++ attempt ∷ []) i process who
  waited_more tries i process who within h = record {
    place = h.place;
    earlier = h.earlier;
    tried = h.tried;
    stands = slice_get-append tries (attempt ∷ []) h.place h.tried h.stands;
    of = h.of;
    by = h.by;
    waits = h.waits;
    still = λ k t low high at_k. h.still k t low high (slice_get-front tries (attempt ∷ []) k t (let x = high in let y = within in omega (arith, x, y)) at_k);
  }

  pub its_place : (k : ℕ) × (slice_get (places_in_order trace) k ≡ Some (m.process, number_of attempt))
  its_place =
      let (call, stands) = is_place (calls_of trace m.process) living.done living.local.within in
      let (k, there) = in_at (places_in_order trace) (m.process, living.done + 1) (call_in trace m.process living.done call (begun_or_forked session trace m.proc.seen m.process m.proc.who living.right) stands) in
      (k, there ∙ ap (λ n. Some (m.process, n)) (sym living.local.next))

  -- each process before it in the text that stands there has waited, or is of a higher rank
  abbrev pub Ahead : List Try → ℕ → Type 0
  Ahead tries rank = (i : ℕ) (l : Living J) → slice_get ws i ≡ Some (walker.Living l) → i ≢ p
      → HasWaited session trace tries (length tries) l.process l.proc.who ⊎ ((r : ℕ) × IsRank trace (l.process, next_number l.proc.seen l.proc.who) r × (rank ≤ r))

  module _ (run : AreWalkers trace (session.start.ceiling + 1) ws) (tries : List Try) (rank : ℕ) (its_rank : IsRank trace (m.process, next_number m.proc.seen m.proc.who) rank) (ahead : Ahead tries rank) where
    by_walker : (told : AreTold ws m.proc.seen) → (behind : (i : ℕ) (w : Walker J) → slice_get ws i ≡ Some w → IsPrefix (member_of w).seen m.proc.seen) → HasRoom session trace
        → (j k : ℕ) (c : Place) → slice_get (places_in_order trace) k ≡ Some (m.process, number_of attempt) → slice_get (places_in_order trace) j ≡ Some c → j < k
        → (i : ℕ) (x : Walker J) → slice_get ws i ≡ Some x → (member_of x).process ≡ c.0 → next_number m.proc.seen (member_of x).who ≡ c.1
        → HasWaited session trace tries (length tries) (member_of x).process (member_of x).who
    by_walker told behind room j k c at_t at_c less i (walker.Living l) at_x process number =
        let ran = has_run session places trace ws (λ i w at_w. going_is session places trace w (goes i w at_w)) run m.proc.seen ordered room living.legal behind told in
        let among = Contains-at (members_of ws) i (member_of (walker.Living l)) (map_get (λ w. member_of w) ws i (walker.Living l) at_x) in
        let next = number_same l.proc.seen m.proc.seen l.proc.who (same session trace (members_of ws) m.proc.seen ran (member_of (walker.Living l)) among) in
        let c_is : ◌≡◌ {A = Place} (l.process, next_number l.proc.seen l.proc.who) c = (λ i. (process i, (sym next ∙ number) i)) in
        let lower : (r : ℕ) → IsRank trace (l.process, next_number l.proc.seen l.proc.who) r → r < rank =
        (λ r is. ranks_rise trace ordered j k c (m.process, number_of attempt) r rank less at_c at_t (subst (λ (c : Place). IsRank trace c r) c_is is) its_rank) in
        let ne : i ≢ p = (λ same.
        let one : walker.Living l ≡ walker.Living m = some_is (walker.Living l) (walker.Living m) (sym at_x ∙ ap (λ k. slice_get ws k) same ∙ at) in
        let l_is : l ≡ m = cc (one) in
        let z = lower rank (subst (λ (l : Living J). IsRank trace (l.process, next_number l.proc.seen l.proc.who) rank) (sym l_is) its_rank) in
        omega (arith, z)) in
        elim (ahead i l at_x ne) [
          | inl waited ↦ waited
          | inr high ↦ (let z = lower high.0 high.1 in let y = high.2 in absurd (omega (arith, z, y)))
        ]
    by_walker told behind room j k c at_t at_c less i (walker.Ended e) at_x process number =
        let ran = has_run session places trace ws (λ i w at_w. going_is session places trace w (goes i w at_w)) run m.proc.seen ordered room living.legal behind told in
        let among = Contains-at (members_of ws) i (member_of (walker.Ended e)) (map_get (λ w. member_of w) ws i (walker.Ended e) at_x) in
        let over = over_same session trace (members_of ws) m.proc.seen ran (member_of (walker.Ended e)) among (length (calls_of trace e.process)) ∙ (goes i (walker.Ended e) at_x).over in
        let low = over_within session m.proc.seen e.trail.who (length (calls_of trace e.process)) living.legal over in
        let least = next_least m.proc.seen e.trail.who in
        let most = within_calls trace ordered j c at_c in
        let size = calls_length trace e.process in
        let lines = ap (λ q. length (lines_of trace q)) process in
        let whole : length (calls_of trace e.process) ≡ next_number m.proc.seen e.trail.who = omega (arith, low, least, most, size, lines, number) in
        absurd (next_not_over session m.proc.seen e.trail.who living.legal (ap (λ n. is_over m.proc.seen e.trail.who n) (sym whole) ∙ over))
    by_walker told behind room j k c at_t at_c less i (walker.Left x) at_x process number = absurd (goes i (walker.Left x) at_x)
    by_walker told behind room j k c at_t at_c less i walker.Gone at_x process number = absurd (goes i walker.Gone at_x)

    first_tried : AreTold ws m.proc.seen → ((i : ℕ) (w : Walker J) → slice_get ws i ≡ Some w → IsPrefix (member_of w).seen m.proc.seen) → HasRoom session trace → IsFirstTried session trace tries (length tries) attempt
    first_tried told behind room j k c who at_t at_c less begun stands =
        let ran = has_run session places trace ws (λ i w at_w. going_is session places trace w (goes i w at_w)) run m.proc.seen ordered room living.legal behind told in
        let has = known session trace (members_of ws) m.proc.seen ran c.0 who begun in
        let (i, x, at_x, is) = its_walker session places trace ws (λ i w at_w. going_is session places trace w (goes i w at_w)) has.member has.among in
        let process : (member_of x).process ≡ c.0 = ap (λ (m : Member). m.process) is ∙ has.number in
        let its_who : (member_of x).who ≡ who = ap (λ (m : Member). m.who) is ∙ has.is in
        subst (λ (y : ℕ × ℕ). HasWaited session trace tries (length tries) y.0 y.1) (λ i. (process i, its_who i))
        (by_walker told behind room j k c at_t at_c less i x at_x process (ap (λ who. next_number m.proc.seen who) its_who ∙ stands))

    pub tries_after : AreTriesBy session trace ws m.proc.seen tries → ((i : ℕ) (t : Try) → slice_get tries i ≡ Some t → HasRested session trace t)
        → IsLegal session (member_of w.walker).seen → AreTriesBy session trace after (member_of w.walker).seen (tries ++ attempt ∷ [])
    tries_after are rested legal = record {
      legal = legal;
      behind = λ i x at_x. elim (of_settled ws p w.walker w.kid i x at_x) [
        | inl here ↦ subst (λ (x : Walker J). IsPrefix (member_of x).seen (member_of w.walker).seen) here.1 (prefix_self (member_of w.walker).seen)
        | inr rest ↦ elim rest [
          | inl other ↦ prefix_trans (member_of x).seen m.proc.seen (member_of w.walker).seen (are.behind i x other.1) went.begins
          | inr new ↦
              let (k, is, x_is, place) = new in
              subst (λ (x : Walker J). IsPrefix (member_of x).seen (member_of w.walker).seen) x_is
              (subst (λ h. IsPrefix h (member_of w.walker).seen) (sym (went.shares k is)) (prefix_self (member_of w.walker).seen))
        ]
      ];
      each = λ i t at_t. elim (of_tries i t at_t) [
        | inl old ↦ let (began, seen) = are.each i t old in (began, prefix_trans t.after m.proc.seen (member_of w.walker).seen seen went.begins)
        | inr new ↦
            subst (λ (t : Try). IsTry session trace t × IsPrefix t.after (member_of w.walker).seen) new.1 (record { begun = living.right; more = went.begins }, prefix_self (member_of w.walker).seen)
      ];
      chain = λ i t u at_t at_u. elim (of_tries (i + 1) u at_u) [
        | inl old ↦ are.chain i t u (slice_get-front tries (attempt ∷ []) i t (let z = slice_get_within tries (i + 1) u old in omega (arith, z)) at_t) old
        | inr new ↦
            let old : slice_get tries i ≡ Some t = slice_get-front tries (attempt ∷ []) i t (let z = new.0 in omega (arith, z)) at_t in
            subst (λ (u : Try). IsPrefix t.after u.before) new.1 (are.each i t old).1
      ];
      own = λ i x at_x n e at_n by. elim (of_settled ws p w.walker w.kid i x at_x) [
        | inl here ↦ its_own n e (ap (λ (x : Walker J). slice_get (member_of x).seen n) here.1 ∙ at_n) (by ∙ ap (λ (x : Walker J). (member_of x).who) (sym here.1) ∙ went.who)
        | inr rest ↦ elim rest [
          | inl other ↦ tried_more tries n e (are.own i x other.1 n e at_n by)
          | inr new ↦
              let (k, is, x_is, place) = new in
              absurd ((kid_is k is).silent n e (ap (λ (x : Walker J). slice_get (member_of x).seen n) x_is ∙ at_n) (by ∙ ap (λ (x : Walker J). (member_of x).who) (sym x_is)))
        ]
      ];
      rests = λ i t at_t more. rested i t (slice_get-front tries (attempt ∷ []) i t (let z = size in omega (arith, z, more)) at_t);
      placed = λ i t at_t. elim (of_tries i t at_t) [
        | inl old ↦ are.placed i t old
        | inr new ↦ subst (λ (t : Try). (k : ℕ) × (slice_get (places_in_order trace) k ≡ Some (t.process, number_of t))) new.1 its_place
      ];
      first = λ room told i t at_t made. elim (of_tries i t at_t) [
        | inl old ↦ λ j k c who at_k at_j less begun stands.
            waited_more tries i c.0 who (let z = slice_get_within tries i t old in omega (arith, z)) (are.first room (told_before told) i t old made j k c who at_k at_j less begun stands)
        | inr new ↦ λ j k c who at_k at_j less begun stands.
            let t_is : attempt ≡ t = new.1 in
            subst (λ n. HasWaited session trace (tries ++ attempt ∷ []) n c.0 who) (sym new.0)
            (waited_more tries (length tries) c.0 who (omega arith)
            (first_tried (told_before told) are.behind room j k c who (ap (λ (t : Try). slice_get (places_in_order trace) k) t_is ∙ at_k ∙ ap (λ (t : Try). Some (t.process, number_of t)) (sym t_is)) at_j less
            (ap (λ (t : Try). pnode_of_process session trace t.before c.0) t_is ∙ begun) (ap (λ (t : Try). next_number t.before who) t_is ∙ stands)))
      ];
    }
      where
        size : length (tries ++ attempt ∷ []) ≡ length tries + 1
        size = length-append tries (attempt ∷ [])

        of_tries : (i : ℕ) (t : Try) → slice_get (tries ++ attempt ∷ []) i ≡ Some t → (slice_get tries i ≡ Some t) ⊎ ((i ≡ length tries) × (attempt ≡ t))
        of_tries i t at_t = elim (in_either tries (attempt ∷ []) i t at_t) [
          | inl old ↦ inl old
          | inr back ↦ inr (only back.0 back.1 back.2)
        ]
          where
            only : (j : ℕ) → i ≡ length tries + j → slice_get (attempt ∷ []) j ≡ Some t → (i ≡ length tries) × (attempt ≡ t)
            only zero is at_j = ((let z : i ≡ length tries = omega (arith, is) in z), some_is attempt t at_j)
            only (suc j) is at_j = absurd (cc)

        its_own : (n : ℕ) (e : Entry) → slice_get (member_of w.walker).seen n ≡ Some e → e.who ≡ m.proc.who → IsMadeIn (tries ++ attempt ∷ []) n e
        its_own n e at_n by = elim (cases_lt n (length m.proc.seen)) [
          | inl early ↦ tried_more tries n e (are.own p (walker.Living m) at n e (seen_before n e at_n early) by)
          | inr late ↦ record {
            place = length tries;
            made_in = attempt;
            stands = slice_get-last tries attempt;
            by = by;
            counted = went.counts n e at_n late by;
            from = late;
            upto = slice_get_within (member_of w.walker).seen n e at_n;
          }
        ]

        told_before : AreTold after (member_of w.walker).seen → AreTold ws m.proc.seen
        told_before told i x at_x = elim (below_or i p) [
          | inl less ↦ apart (λ same. omega (arith, less, same))
          | inr rest ↦ elim rest [
            | inl more ↦ apart (λ same. omega (arith, more, same))
            | inr same ↦
                let one : walker.Living m ≡ x = some_is (walker.Living m) x (sym at ∙ ap (λ k. slice_get ws k) (sym same) ∙ at_x) in
                subst (λ (x : Walker J). AgreeBy (member_of x).who (member_of x).seen m.proc.seen) one refl
          ]
        ]
          where
            apart : i ≢ p → AgreeBy (member_of x).who (member_of x).seen m.proc.seen
            apart ne = agree_between (member_of x).who (member_of x).seen m.proc.seen (member_of w.walker).seen (are.behind i x at_x) went.begins (told i x (on_settled ws p w.walker w.kid i x ne at_x))

    -- the new try came to rest, unless its process was left
    pub rested_after : ((i : ℕ) (t : Try) → slice_get tries i ≡ Some t → HasRested session trace t) → HasRested session trace attempt → (i : ℕ) (t : Try) → slice_get (tries ++ attempt ∷ []) i ≡ Some t → HasRested session trace t
    rested_after rested its i t at_t = elim (in_either tries (attempt ∷ []) i t at_t) [
      | inl old ↦ rested i t old
      | inr back ↦ subst (λ t. HasRested session trace t) (only back.0 back.2) its
    ]
      where
        only : (j : ℕ) → slice_get (attempt ∷ []) j ≡ Some t → attempt ≡ t
        only zero at_j = some_is attempt t at_j
        only (suc j) at_j = absurd (cc)

  -- a turn that doesn't fail rests
  pub has_rested : w.answer ≢ turn.Failed → HasRested session trace attempt
  has_rested sound = by_answer w.answer refl
    where
      by_answer : (a : Turn) → w.answer ≡ a → HasRested session trace attempt
      by_answer turn.Moved is = inl (went.over is)
      by_answer turn.Waiting is =
          inr (subst (λ (x : ℕ × ℕ). Waits session trace (record { process = x.0; who = x.1; seen = (member_of w.walker).seen; ended = false })) (λ i. (went.process i, went.who i)) (went.waits is))
      by_answer turn.Ended is = absurd (went.goes_on is)
      by_answer turn.Failed is = absurd (sound is)
