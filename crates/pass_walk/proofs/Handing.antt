-- What a store's history at the end makes of a run.
use Rattle.std.proofs.Common.{◌≡◌, ◌≢◌, ◌<◌, ◌≤◌, ◌+◌, ℕ, List, [], ◌∷◌, map, refl, ap, sym, ◌∙◌, subst, true, false, Bool, ◌&&◌, ◌==◌, cond, Some, length, length-append, arith}
use Rattle.std.specs.Prelude.{slice_get, Contains}
use Rattle.std.proofs.lemmas.List.Elements.{All-contains}
use mathlib.Core.List.{IsPrefix}
use Rattle.pass_entry.specs.declared.entry.Act.TheVariants as act
use Rattle.pass_entry.specs.declared.entry.CallName.TheVariants as call_name
use Rattle.pass_entry.specs.declared.entry.Entry.{Entry}
use Rattle.pass_entry.specs.declared.entry.Reply.TheVariants as answer
use Rattle.pass_entry.specs.declared.objects.Kind.TheVariants as kind
use Rattle.pass_plain.specs.declared.request.Request.{Request}
use Rattle.pass_plain.specs.declared.request.Request.TheVariants as requests
use Rattle.pass_plain.specs.Calls.{Step, call_steps, name_of}
use Rattle.pass_plain.specs.Replies.{reply_to}
use Rattle.pass_plain.proofs.Calling.{step_next}
use Rattle.pass_plain.proofs.Lists.{some_is, same_numbers, true_left, true_right}
use Rattle.pass_walk.proofs.Walks.{some_seen}
use Rattle.pass_plain.specs.Lawful.{AgreeBy}
use Rattle.pass_plain.specs.Legal.{IsLegal, MayFollow, before_call, is_next_number, is_start, may_act}
use Rattle.pass_plain.specs.Sessions.{Session}
use Rattle.pass_plain.proofs.Appends.{slice_get-append}
use Rattle.pass_plain.proofs.Counts.{first_follows}
use Rattle.pass_plain.proofs.OtherCalls.{start_named}
use Rattle.pass_trace.specs.TraceLines.{plain_trace}
use Rattle.pass_trace.specs.Rules.{count_created}
use Rattle.pass_trace.specs.declared.trace.TraceLine.{TraceLine}
use Rattle.pass_proc.specs.Ends.{TrailView}
use Rattle.pass_replay.specs.Lines.{AreLinesBehind}
use Rattle.pass_replay.specs.Making.{first_entry}
use Rattle.pass_replay.specs.Members.{Member}
use Rattle.pass_replay.specs.Needs.{places_of}
use Rattle.pass_replay.specs.Replays.{HasRun, RunLaw, DoneLaw, StuckLaw, ForkLaw, PlacesLaw}
use Rattle.pass_replay.specs.Starts.{RoomLaw}
use Rattle.pass_walk.specs.declared.ends.Last.{Last}
use Rattle.pass_walk.specs.declared.ends.Last.TheVariants as lasts
use Rattle.pass_walk.specs.declared.ends.Cause.TheVariants as causes
use Rattle.pass_walk.specs.Runs.{IsRanBy, IsRanTo, IsTold, trail_of}
use Rattle.pass_walk.proofs.Among.{among, contains, to_map}

-- The first entry of a history

start_of : (r : Request) → name_of r ≡ call_name.Start → r ≡ requests.Start
start_of requests.Start e = refl
start_of _ e = absurd (cc)

-- it is of a call of the outside
may_begin : (e : Entry) → may_act [] e ≡ true → (e.call ≡ call_name.Start) × (e.who ≡ 0) × (e.number ≡ 0)
may_begin e may = at (is_start e.call) refl may
  where
    at : (b : Bool) → is_start e.call ≡ b → may_act [] e ≡ true → (e.call ≡ call_name.Start) × (e.who ≡ 0) × (e.number ≡ 0)
    at true t may =
        let both : (true && e.who == 0) && e.number == 0 ≡ true = ap (λ b. cond b ((true && e.who == 0) && e.number == 0) (false && is_next_number [] e)) (sym t) ∙ may in
        (start_named e.call t, same_numbers e.who 0 (true_right true (e.who == 0) (true_left (true && e.who == 0) (e.number == 0) both)), same_numbers e.number 0 (true_right (true && e.who == 0) (e.number == 0) both))
    at false t may = absurd (let z : false ≡ true = ap (λ b. cond b ((true && e.who == 0) && e.number == 0) (false && is_next_number [] e)) (sym t) ∙ may in cc)

first_step : (session : Session) (e : Entry) → MayFollow session [] e → e.call ≡ call_name.Start → ◌≡◌ {A = Step} (0, act.Mint kind.Process) (e.what, e.act)
first_step session e next is =
    some_is {A = Step} (0, act.Mint kind.Process) (e.what, e.act)
    (subst (λ r. slice_get (call_steps e.who (before_call [] e.who e.number) [] r) 0 ≡ Some (e.what, e.act)) (start_of next.step.request (next.step.named ∙ is))
    (step_next e.who (before_call [] e.who e.number) [] (call_steps e.who (before_call [] e.who e.number) [] next.step.request) (e.what, e.act) next.step.steps))

first_is : (session : Session) (e : Entry) → 1 ≤ session.objects → MayFollow session [] e → first_entry session ≡ e
first_is session e some next =
    let (call, who, number) = may_begin e next.acts in
    let step = first_step session e next call in
    let reply : answer.Made (session.start.ceiling + 1) ≡ e.reply =
    some_is _ _ (sym (first_follows session some).replied ∙ ap (λ (s : Step). reply_to session [] s.0 s.1) step ∙ next.replied) in
    λ i. record { who = sym who i; number = sym number i; call = sym call i; what = (step i).0; act = (step i).1; reply = reply i }

pub begins_with_first : (session : Session) → 1 ≤ session.objects → (history : List Entry) → IsLegal session history → 0 < length history → IsPrefix (first_entry session ∷ []) history
begins_with_first session some [] legal none = absurd (omega (arith, none))
begins_with_first session some (e ∷ es) legal has = (es, ap (λ (x : Entry). x ∷ es) (first_is session e some (legal 0 e refl)))

module _ (run_law : RunLaw) (done_law : DoneLaw) (stuck_law : StuckLaw) (fork_law : ForkLaw) (places_law : PlacesLaw) (room_law : RoomLaw)
    (session : Session) (places : ℕ) (lines : List TraceLine) (trails : List TrailView) (last : Last) (history : List Entry) (ordered : AreLinesBehind [] (plain_trace lines))
    (objects : session.objects ≡ 1 + count_created lines) (enough : places_of (plain_trace lines) ≤ places) (ran : IsRanBy session places (plain_trace lines) trails last)
    (legal : IsLegal session history) (told : IsTold history trails) where
  told_of : (m : Member) → Contains ran.members m → IsPrefix m.seen history × AgreeBy m.who m.seen history
  told_of m h =
      All-contains (λ (t : TrailView). IsPrefix t.seen history × AgreeBy t.who t.seen history) (map trail_of ran.members) (trail_of m) (subst (λ ts. IsTold history ts) ran.trails_are told)
      (contains (map trail_of ran.members) (trail_of m) (to_map trail_of ran.members m (among ran.members m h)))

  starts : IsPrefix (first_entry session ∷ []) history
  starts =
      let first = ran.made.first_is in
      let seen = some_seen first.member.seen first.member.who (ran.made.make first.member first.among).begun in
      let begins = (told_of first.member first.among).0 in
      let size = ap length (sym begins.1) ∙ length-append first.member.seen begins.0 in
      begins_with_first session (omega (arith, objects)) history legal (omega (arith, size, seen))

  has_run : HasRun session (plain_trace lines) ran.members history
  has_run = record {
    ordered = ordered;
    room = room_law session lines objects;
    starts = starts;
    made = ran.made;
    told = record { legal = legal; begins = λ m h. (told_of m h).0; agrees = λ m h. (told_of m h).1 };
  }

  no_lack : last ≢ lasts.Failed causes.TooFewPlaces
  no_lack failed =
      let some = ran.failed causes.TooFewPlaces failed tt in
      let lack = some.is in
      let left = places_law session (plain_trace lines) ran.members history has_run places enough some.one some.among lack.right lack.done lack.call lack.stands lack.none in
      let few = lack.lacks in
      omega (arith, left, few)

  none_refused : last ≢ lasts.Failed causes.Refused
  none_refused failed =
      let some = ran.failed causes.Refused failed tt in
      let refused = some.is in
      let begins = (told_of some.one some.among).0 in
      let at : slice_get history refused.place ≡ Some refused.entry = ap (λ h. slice_get h refused.place) (sym begins.1) ∙ slice_get-append some.one.seen begins.0 refused.place refused.entry refused.stands in
      let z : true ≡ false = sym refused.fault ∙ fork_law session (plain_trace lines) ran.members history has_run refused.place refused.entry at refused.forks in cc

  pub ran_to : IsRanTo session (plain_trace lines) history last
  ran_to = record {
    members = ran.members;
    has = has_run;
    run = run_law session (plain_trace lines) ran.members history has_run;
    done = λ done. done_law session (plain_trace lines) ran.members history has_run (ran.done done);
    stuck = λ stuck. let (count, still) = ran.stuck stuck in stuck_law session (plain_trace lines) ran.members history count has_run still;
    enough = no_lack;
    forked = none_refused;
  }
