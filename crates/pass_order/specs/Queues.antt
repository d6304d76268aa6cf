-- The processes of a run in the order of the text. This project's own rule.
use Rattle.pass_replay.specs.Members.{Waits}
use Rattle.std.specs.Prelude.{ℕ, Bool, true, false, ◌+◌, ◌*◌, ◌==◌, ◌≡◌, ◌≤◌, ◌<◌, List, [], ◌∷◌, ◌++◌, Option, Some, None, Contains, IsPermutation, length, max, slice_get, slice_set, sum_by, vec_capacity, vec_len, if◌then◌else◌}
use Rattle.std.specs.BinaryHeap.{IsHeap, heap_capacity, heap_items, heap_len}
use Rattle.std.specs.Option.{option_map_or}
use Rattle.std.specs.Ordering.{flip_args, nat_cmp, on}
use Rattle.std.specs.declared.cmp.Ordering.{Ordering}
use mathlib.Core.List.{IsPrefix}
use Rattle.pass_entry.specs.declared.entry.Entry.{Entry}
use Rattle.pass_entry.specs.declared.entry.Act.TheVariants as act
use Rattle.pass_plain.specs.Lawful.{AgreeBy}
use Rattle.pass_plain.specs.Legal.{IsLegal}
use Rattle.pass_plain.specs.Processes.{Held}
use Rattle.pass_plain.specs.Runs.{next_number}
use Rattle.pass_plain.specs.Sessions.{Session}
use Rattle.pass_plain.specs.Traces.{Line, calls_of, fork_as}
use Rattle.pass_replay.specs.Orders.{places_in_order}
use Rattle.pass_replay.specs.Starts.{HasRoom}
use Rattle.pass_replay.specs.Tries.{HasRested, HasWaited, IsFirstTried, IsMadeIn, IsTry, Try, number_of}
use Rattle.pass_sched.specs.declared.task.Turn.{Turn}
use Rattle.pass_sched.specs.declared.task.Turn.TheVariants as turn
use Rattle.pass_walk.specs.declared.ends.Cause.{Cause}
use Rattle.pass_walk.specs.declared.ends.Last.{Last}
use Rattle.pass_walk.specs.declared.ends.Last.TheVariants as lasts
use Rattle.pass_walk.specs.declared.walker.Ended.{Ended as EndedProcess}
use Rattle.pass_walk.specs.declared.walker.Living.{Living}
use Rattle.pass_walk.specs.declared.walker.Walker.{Walker}
use Rattle.pass_walk.specs.declared.walker.Walker.TheVariants as walker
use Rattle.pass_walk.specs.declared.walker.Went.{Went}
use Rattle.pass_walk.specs.Causes.{IsSeen}
use Rattle.pass_walk.specs.Meetings.{HasComeOn, HasSeenMore}
use Rattle.pass_walk.specs.Walkers.{IsEndedOf, IsLivingOf, IsWalkerOf, cause_of, left_of, member_of}
use Rattle.pass_order.specs.declared.queue.Queue.{Queue}
use Rattle.pass_order.specs.declared.queue.Tried.{Tried}
use Rattle.pass_order.specs.declared.queue.Tried.TheVariants as tries_to
use Rattle.pass_order.specs.declared.standing.Standing.{Standing}
use Rattle.pass_order.specs.Ranks.{IsRank, rank_of}

-- The processes

-- a process that lives or has made its exit
abbrev pub IsGoing : {J : Type 0} → Session → List Line → Walker J → Type 0
IsGoing session trace (walker.Living l) = IsLivingOf session trace l
IsGoing session trace (walker.Ended e) = IsEndedOf trace e
IsGoing session trace _ = ⊥

abbrev pub IsGoingOrGone : {J : Type 0} → Session → List Line → Walker J → Type 0
IsGoingOrGone session trace (walker.Living l) = IsLivingOf session trace l
IsGoingOrGone session trace (walker.Ended e) = IsEndedOf trace e
IsGoingOrGone session trace walker.Gone = Unit {0}
IsGoingOrGone session trace (walker.Left l) = ⊥

abbrev pub IsThere : {J : Type 0} → Walker J → Type 0
IsThere walker.Gone = ⊥
IsThere _ = Unit {0}

-- one of them has this number in the trace and this pnode
pub record HasWalker {J : Type 0} (walkers : List (Walker J)) (process who : ℕ) : Type 0 where
  pub place : ℕ
  pub its : Walker J
  pub stands : slice_get walkers place ≡ Some its
  pub number : (member_of its).process ≡ process
  pub is : (member_of its).who ≡ who

-- the entry bears one of them, by the fork of a line
pub record IsBirthIn {J : Type 0} (trace : List Line) (walkers : List (Walker J)) (process : ℕ) (e : Entry) : Type 0 where
  pub number : ℕ
  pub child : ℕ
  pub counted : e.number ≡ number + 1
  pub forks : slice_get (calls_of trace process) number ≡ Some (fork_as child)
  pub there : HasWalker walkers child e.what

-- the processes of one run: the first one is there, and each child that was borne
pub record AreWalkers {J : Type 0} (trace : List Line) (first : ℕ) (walkers : List (Walker J)) : Type 0 where
  pub first_is : HasWalker walkers 1 first
  pub bears : (i : ℕ) (w : Walker J) → slice_get walkers i ≡ Some w → (n : ℕ) (e : Entry) (out : ℕ) (descriptors : Held) → slice_get (member_of w).seen n ≡ Some e
      → e.who ≡ (member_of w).who → e.act ≡ act.Born out descriptors → IsBirthIn trace walkers (member_of w).process e

-- a history goes on from what each has seen, by no entry of it
abbrev pub AreTold : {J : Type 0} → List (Walker J) → List Entry → Type 0
AreTold walkers history = (i : ℕ) (w : Walker _) → slice_get walkers i ≡ Some w → AgreeBy (member_of w).who (member_of w).seen history

-- Tries one after the other, by these processes, of which one has seen this and none more. Where nobody else has made an entry, the calls before the one
-- that made entries had been tried, and wait.
pub record AreTriesBy {J : Type 0} (session : Session) (trace : List Line) (walkers : List (Walker J)) (upto : List Entry) (tries : List Try) : Type 0 where
  pub legal : IsLegal session upto
  pub behind : (i : ℕ) (w : Walker J) → slice_get walkers i ≡ Some w → IsPrefix (member_of w).seen upto
  pub each : (i : ℕ) (t : Try) → slice_get tries i ≡ Some t → IsTry session trace t × IsPrefix t.after upto
  pub chain : (i : ℕ) (t u : Try) → slice_get tries i ≡ Some t → slice_get tries (i + 1) ≡ Some u → IsPrefix t.after u.before
  pub own : (i : ℕ) (w : Walker J) → slice_get walkers i ≡ Some w → (n : ℕ) (e : Entry) → slice_get (member_of w).seen n ≡ Some e → e.who ≡ (member_of w).who → IsMadeIn tries n e
  pub rests : (i : ℕ) (t : Try) → slice_get tries i ≡ Some t → i + 1 < length tries → HasRested session trace t
  pub placed : (i : ℕ) (t : Try) → slice_get tries i ≡ Some t → (k : ℕ) × (slice_get (places_in_order trace) k ≡ Some (t.process, number_of t))
  pub first : HasRoom session trace → AreTold walkers upto → (i : ℕ) (t : Try) → slice_get tries i ≡ Some t → length t.before < length t.after → IsFirstTried session trace tries i t

-- Where they stand

-- the least rank is at the top
abbrev pub rank_order : Standing → Standing → Ordering
rank_order = flip_args (on (λ (s : Standing). s.rank) nat_cmp)

-- how many of these stand for the process at a place
abbrev pub standing_at : ℕ → List Standing → ℕ
standing_at place standings = sum_by (λ (s : Standing). if s.place == place then 1 else 0) standings

abbrev pub count_living : {J : Type 0} → Walker J → ℕ
count_living (walker.Living l) = 1
count_living _ = 0

abbrev pub lives_at : {J : Type 0} → List (Walker J) → ℕ → ℕ
lives_at walkers place = option_map_or (λ w. count_living w) (slice_get walkers place) 0

-- it stands for a living process, before a call of this rank
pub record IsRanked {J : Type 0} (trace : List Line) (walkers : List (Walker J)) (s : Standing) : Type 0 where
  pub living : Living J
  pub stands : slice_get walkers s.place ≡ Some (walker.Living living)
  pub rank : IsRank trace (living.process, next_number living.proc.seen living.proc.who) s.rank

-- its process was tried since the last entry, and waits
pub record IsLate {J : Type 0} (session : Session) (trace : List Line) (walkers : List (Walker J)) (tries : List Try) (s : Standing) : Type 0 where
  pub living : Living J
  pub stands : slice_get walkers s.place ≡ Some (walker.Living living)
  pub waited : HasWaited session trace tries (length tries) living.process living.proc.who
  pub counted : length waited.tried.after ≡ s.seen

-- the processes, of which each living one stands once among those that are due and those that wait
pub record IsQueue {J : Type 0} (session : Session) (trace : List Line) (walkers : List (Walker J)) (due late : List Standing) (last : ℕ) (upto : List Entry) (tries : List Try) : Type 0 where
  pub going : (i : ℕ) (w : Walker J) → slice_get walkers i ≡ Some w → IsGoing session trace w
  pub run : AreWalkers trace (session.start.ceiling + 1) walkers
  pub last_at : (w : Walker J) × (slice_get walkers last ≡ Some w) × ((member_of w).seen ≡ upto)
  pub counted : (place : ℕ) → standing_at place (due ++ late) ≡ lives_at walkers place
  pub ranked : (s : Standing) → Contains (due ++ late) s → IsRanked trace walkers s
  pub waiting : (s : Standing) → Contains late s → IsLate session trace walkers tries s
  pub tried : AreTriesBy session trace walkers upto tries
  pub rested : (i : ℕ) (t : Try) → slice_get tries i ≡ Some t → HasRested session trace t

-- how many processes can come of one, itself with them
abbrev pub room_of : {J : Type 0} → List Line → Walker J → ℕ
room_of trace w = max 1 (left_of trace w)

abbrev pub room_in : {J : Type 0} → List Line → List (Walker J) → ℕ
room_in trace walkers = sum_by (λ w. room_of trace w) walkers

pub record IsRoomy {J : Type 0} (trace : List Line) (queue : Queue J) : Type 0 where
  pub walkers : room_in trace queue.walkers.items ≤ vec_capacity queue.walkers
  pub due : room_in trace queue.walkers.items ≤ heap_capacity queue.due
  pub late : room_in trace queue.walkers.items ≤ vec_capacity queue.late
  pub few : heap_len queue.due + vec_len queue.late ≤ length queue.walkers.items

-- a queue of a run that goes on
pub record IsSet {J : Type 0} (session : Session) (trace : List Line) (queue : Queue J) : Type 0 where
  pub upto : List Entry
  pub tries : List Try
  pub queued : IsQueue session trace queue.walkers.items (heap_items queue.due) queue.late.items queue.last upto tries
  pub heap : IsHeap rank_order (heap_items queue.due)
  pub roomy : IsRoomy trace queue

-- .. of which one was taken out that was due, the first of them by its rank
pub record IsTaken {J : Type 0} (session : Session) (trace : List Line) (s : Standing) (queue : Queue J) : Type 0 where
  pub upto : List Entry
  pub tries : List Try
  pub queued : IsQueue session trace queue.walkers.items (s ∷ heap_items queue.due) queue.late.items queue.last upto tries
  pub least : (u : Standing) → Contains (heap_items queue.due) u → s.rank ≤ u.rank
  pub heap : IsHeap rank_order (heap_items queue.due)
  pub walkers : room_in trace queue.walkers.items ≤ vec_capacity queue.walkers
  pub due : room_in trace queue.walkers.items ≤ heap_capacity queue.due
  pub late : room_in trace queue.walkers.items ≤ vec_capacity queue.late
  pub few : heap_len queue.due + 1 + vec_len queue.late ≤ length queue.walkers.items

-- of one that goes on no more
pub record IsStopped {J : Type 0} (session : Session) (places : ℕ) (trace : List Line) (walkers : List (Walker J)) : Type 0 where
  pub upto : List Entry
  pub tries : List Try
  pub last_at : (i : ℕ) × (w : Walker J) × (slice_get walkers i ≡ Some w) × ((member_of w).seen ≡ upto)
  pub each : (i : ℕ) (w : Walker J) → slice_get walkers i ≡ Some w → IsWalkerOf session places trace w
  pub run : AreWalkers trace (session.start.ceiling + 1) walkers
  pub tried : AreTriesBy session trace walkers upto tries

-- one was left for this cause
pub record HasLeft {J : Type 0} (walkers : List (Walker J)) (cause : Cause) : Type 0 where
  pub place : ℕ
  pub its : Walker J
  pub stands : slice_get walkers place ≡ Some its
  pub is : cause_of its ≡ Some cause

-- What a try does

abbrev pub waits_if : Turn → Bool → Tried
waits_if turn.Waiting true = tries_to.Waits
waits_if _ _ = tries_to.Made

-- what the try of a call comes to, before which its process had seen so much
abbrev pub tried_of : {J : Type 0} → Walker J → Turn → ℕ → Tried
tried_of (walker.Left l) answer before = tries_to.Failed l.cause
tried_of (walker.Living l) answer before = waits_if answer (length l.proc.seen == before)
tried_of (walker.Ended e) answer before = tries_to.Made
tried_of walker.Gone answer before = tries_to.Made

-- where a process stands behind the line at this place
abbrev pub next_rank : Turn → Option ℕ → ℕ → ℕ → ℕ
next_rank turn.Moved line rank place = rank_of line (3 * place + 2)
next_rank _ line rank place = rank

-- the place of the line at which a process was
abbrev pub place_of : Option ℕ → ℕ
place_of (Some place) = place
place_of None = 0

abbrev pub list_of : Option Standing → List Standing
list_of (Some s) = s ∷ []
list_of None = []

abbrev pub next_standings : {J : Type 0} → Walker J → Turn → Standing → ℕ → List Standing
next_standings (walker.Living l) answer s place = record { rank = next_rank answer l.line s.rank place; place = s.place; seen = length l.proc.seen } ∷ []
next_standings (walker.Ended e) answer s place = []
next_standings (walker.Left l) answer s place = []
next_standings walker.Gone answer s place = []

abbrev pub kid_walkers : {J : Type 0} → Option (Living J) → List (Walker J)
kid_walkers (Some kid) = walker.Living kid ∷ []
kid_walkers None = []

abbrev pub kid_standings : {J : Type 0} → Option (Living J) → ℕ → ℕ → List Standing
kid_standings (Some kid) at place = record { rank = rank_of kid.line (3 * place + 3); place = at; seen = 0 } ∷ []
kid_standings None at place = []

pub record IsAdded {J : Type 0} (living : Living J) (rank : ℕ) (old new : Queue J) : Type 0 where
  pub walkers : new.walkers.items ≡ old.walkers.items ++ walker.Living living ∷ []
  pub due : IsPermutation (record { rank = rank; place = length old.walkers.items; seen = 0 } ∷ heap_items old.due) (heap_items new.due)
  pub heap : IsHeap rank_order (heap_items old.due) → IsHeap rank_order (heap_items new.due)
  pub count : heap_len new.due ≡ heap_len old.due + 1
  pub late : (new.late.items ≡ old.late.items) × (vec_len new.late ≡ vec_len old.late)
  pub last : new.last ≡ old.last
  pub room : (vec_capacity old.walkers ≤ vec_capacity new.walkers) × (heap_capacity old.due ≤ heap_capacity new.due) × (vec_capacity old.late ≤ vec_capacity new.late)

-- the child, if any, is there, which the line at a place forks
pub record IsKidAdded {J : Type 0} (kid : Option (Living J)) (place : ℕ) (old new : Queue J) : Type 0 where
  pub walkers : new.walkers.items ≡ old.walkers.items ++ kid_walkers kid
  pub due : IsPermutation (kid_standings kid (length old.walkers.items) place ++ heap_items old.due) (heap_items new.due)
  pub heap : IsHeap rank_order (heap_items old.due) → IsHeap rank_order (heap_items new.due)
  pub count : heap_len new.due ≡ heap_len old.due + length (kid_walkers kid)
  pub late : (new.late.items ≡ old.late.items) × (vec_len new.late ≡ vec_len old.late)
  pub last : new.last ≡ old.last
  pub room : (vec_capacity old.walkers ≤ vec_capacity new.walkers) × (heap_capacity old.due ≤ heap_capacity new.due) × (vec_capacity old.late ≤ vec_capacity new.late)

-- the process at a place is as its turn left it, and its child is there
pub record IsSettled {J : Type 0} (s : Standing) (place : ℕ) (went : Went J) (old new : Queue J) : Type 0 where
  pub walkers : new.walkers.items ≡ slice_set old.walkers.items s.place went.walker ++ kid_walkers went.kid
  pub due : IsPermutation (kid_standings went.kid (length old.walkers.items) place ++ heap_items old.due) (heap_items new.due)
  pub heap : IsHeap rank_order (heap_items old.due) → IsHeap rank_order (heap_items new.due)
  pub late : new.late.items ≡ old.late.items ++ next_standings went.walker went.answer s place
  pub last : new.last ≡ old.last
  pub count : heap_len new.due + vec_len new.late ≡ heap_len old.due + vec_len old.late + length (next_standings went.walker went.answer s place) + length (kid_walkers went.kid)
  pub room : (vec_capacity old.walkers ≤ vec_capacity new.walkers) × (heap_capacity old.due ≤ heap_capacity new.due) × (vec_capacity old.late ≤ vec_capacity new.late)

-- all that waited are due
pub record HasBegunAgain {J : Type 0} (old new : Queue J) : Type 0 where
  pub walkers : (new.walkers.items ≡ old.walkers.items) × (vec_capacity old.walkers ≤ vec_capacity new.walkers)
  pub due : IsPermutation (heap_items old.due ++ old.late.items) (heap_items new.due)
  pub heap : IsHeap rank_order (heap_items old.due) → IsHeap rank_order (heap_items new.due)
  pub late : (new.late.items ≡ []) × (vec_len new.late ≡ 0)
  pub last : new.last ≡ old.last
  pub count : heap_len new.due ≡ heap_len old.due + vec_len old.late
  pub room : (heap_capacity old.due ≤ heap_capacity new.due) × (vec_capacity old.late ≤ vec_capacity new.late)

-- a living process has come to one history with the one that was tried last, unless it is that one
abbrev pub HasJoined : {J : Type 0} → Session → List Line → Living J → Walker J → Living J → Walker J → Type 0
HasJoined session trace l (walker.Living o) m z = (p : Living _) × (z ≡ walker.Living p) × HasComeOn session trace l m × HasComeOn session trace o p × (p.proc.seen ≡ m.proc.seen)
HasJoined session trace l (walker.Ended e) m z =
    (f : EndedProcess _) × (z ≡ walker.Ended f) × HasComeOn session trace l m × HasSeenMore session e f × (f.trail.seen ≡ m.proc.seen)
HasJoined session trace l walker.Gone m z = (z ≡ walker.Gone) × (m ≡ l)
HasJoined session trace l (walker.Left x) m z = ⊥

-- the queue after a try
abbrev pub IsAfterTry : {J : Type 0} → Session → ℕ → List Line → Tried → Queue J → Type 0
IsAfterTry session places trace (tries_to.Failed cause) queue = IsStopped session places trace queue.walkers.items × HasLeft queue.walkers.items cause
IsAfterTry session places trace tries_to.Nothing queue = IsSet session trace queue × (heap_items queue.due ≡ [])
IsAfterTry session places trace tries_to.Made queue = IsSet session trace queue
IsAfterTry session places trace tries_to.Waits queue = IsSet session trace queue

-- it has ended, and seen no more, or it lives, and has seen as much
pub record IsStillWith {J : Type 0} (count : ℕ) (w : Walker J) : Type 0 where
  pub ended : (member_of w).ended ≡ true → length (member_of w).seen ≤ count
  pub living : (member_of w).ended ≡ false → length (member_of w).seen ≡ count

-- none goes on, and some live
pub record AreAllStill {J : Type 0} (walkers : List (Walker J)) (late : List Standing) (count : ℕ) : Type 0 where
  pub one : Living J
  pub place : ℕ
  pub stands : slice_get walkers place ≡ Some (walker.Living one)
  pub each : (i : ℕ) (w : Walker J) → slice_get walkers i ≡ Some w → IsStillWith count w
  pub tried : (i : ℕ) (s : Standing) → slice_get late i ≡ Some s → s.seen ≡ count

-- one lives, and each that lives has seen as much, and waits
pub record IsHalted {J : Type 0} (session : Session) (trace : List Line) (walkers : List (Walker J)) (count : ℕ) : Type 0 where
  pub one : Living J
  pub place : ℕ
  pub stands : slice_get walkers place ≡ Some (walker.Living one)
  pub each : (i : ℕ) (w : Walker J) → slice_get walkers i ≡ Some w → IsStillWith count w
  pub waits : (i : ℕ) (w : Walker J) → slice_get walkers i ≡ Some w → (member_of w).ended ≡ false → Waits session trace (member_of w)

-- What the calls have made of the processes

pub record IsPlayed {J : Type 0} (session : Session) (places : ℕ) (trace : List Line) (walkers : List (Walker J)) (last : Last) : Type 0 where
  pub stopped : IsStopped session places trace walkers
  pub done : last ≡ lasts.Done → (i : ℕ) (w : Walker J) → slice_get walkers i ≡ Some w → (member_of w).ended ≡ true
  pub stuck : last ≡ lasts.Stuck → (count : ℕ) × IsHalted session trace walkers count
  pub failed : (cause : Cause) → last ≡ lasts.Failed cause → IsSeen cause → HasLeft walkers cause

-- the run ended by a cause from outside of its history
abbrev pub HasFailedUnseen : Last → Type 0
HasFailedUnseen last = (cause : Cause) × (last ≡ lasts.Failed cause) × (IsSeen cause → ⊥)

-- behind a try: a queue that goes on, or what the calls have made of the processes
abbrev pub GoesOnOrEnds : {J : Type 0} → Session → ℕ → List Line → Option Last → Queue J → Type 0
GoesOnOrEnds session places trace None queue = IsSet session trace queue
GoesOnOrEnds session places trace (Some last) queue = IsPlayed session places trace queue.walkers.items last
