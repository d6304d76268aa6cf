-- A process between two calls, and the call that it may make.
use Rattle.std.proofs.Common.{◌≡◌, ◌≢◌, ◌+◌, ℕ, List, [], ◌∷◌, refl, ap, sym, ◌∙◌, subst, arith, inl, inr, Bool, true, false, ◌&&◌, not, ◌==◌, cond}
use Rattle.std.specs.Prelude.{Option, Some, None, take, if◌then◌else◌}
use mathlib.Core.List.{IsPrefix}
use Rattle.pass_entry.specs.declared.entry.Entry.{Entry}
use Rattle.pass_plain.specs.declared.request.Request.{Request}
use Rattle.pass_plain.specs.declared.request.Request.TheVariants as requests
use Rattle.pass_plain.specs.CallLaws.{IsBegun}
use Rattle.pass_plain.specs.Calls.{Made, name_of}
use Rattle.pass_plain.specs.Histories.{call_entries, is_fault}
use Rattle.pass_plain.specs.Legal.{before_call, is_over, last_number, may_be_left}
use Rattle.pass_plain.specs.NextSteps.{AreOfCall}
use Rattle.pass_plain.specs.Processes.{Process, process_after, process_act}
use Rattle.pass_plain.specs.Runs.{next_number}
use Rattle.pass_plain.specs.Sessions.{Session}
use Rattle.pass_plain.proofs.Calling.{goes_on-cases, numbered}
use Rattle.pass_plain.proofs.Playing.{all_played, before_new, played}
use Rattle.pass_plain.proofs.TwoPrefixes.{SameCaller}
use Rattle.pass_book.proofs.Prefixes.{prefix_self}
use Rattle.pass_hold.specs.Callings.{IsIdle, IsInCall, HasLooked}
use Rattle.pass_hold.specs.Goings.{IsUnderWay as HasSteps}
use Rattle.pass_hold.proofs.Callings.{no_zero, none_yet}
use Rattle.pass_hold.proofs.Goings.{number_same, same_caller}
use Rattle.pass_proc.specs.Procs.{ProcView, is_way}
use Rattle.pass_proc.specs.UnderWay.{IsUnderWay, IsWay, show_entry}
use Rattle.pass_proc.specs.declared.way.Way.{Way}
use Rattle.pass_answer.specs.Answers.{begins_at, resumes}
use Rattle.pass_answer.proofs.Waiting.{goes_on_at, way_bytes, way_fd}
use Rattle.pass_answer.proofs.Wrapping.{begins_now}
use Rattle.pass_progress.specs.Progress.{IsBetween, IsAtRest, MayGoOn, UnderWayLaw, LastReadLaw, LookedLaw, NewbornLaw}
use Rattle.pass_progress.proofs.Positions.{next_of_last}

-- the call began behind `before`, or begins behind it, and has made first steps of the request
pub record IsBeginning (session : Session) (old : ProcView) (r : Request) (before : List Entry) : Type 0 where
  pub from : IsPrefix before old.seen
  pub next : next_number old.seen old.who ≡ last_number before old.who + 1
  pub was : before_call old.seen old.who (next_number old.seen old.who) ≡ process_after before old.who
  pub under : HasSteps old.seen old.who r
  pub named : AreOfCall (call_entries old.seen old.who (next_number old.seen old.who)) (name_of r)
  pub read : old.state.last_read ≡ (before_call old.seen old.who (next_number old.seen old.who)).last_read

module _ (session : Session) (old : ProcView) (r : Request) (between : IsBetween session old) where
  -- a new call
  pub at_rest : IsAtRest old → IsBeginning session old r old.seen
  at_rest rest =
      let idle = between.idle in
      let none : call_entries old.seen old.who (next_number old.seen old.who) ≡ [] = ap (λ n. call_entries old.seen old.who n) rest ∙ none_yet session old.seen old.who (last_number old.seen old.who) idle.legal refl in
      let was = before_new old.seen old.who (next_number old.seen old.who) none in
      record {
        from = prefix_self old.seen;
        next = rest;
        was = was;
        under = subst (λ (m : Made). IsBegun old.who (before_call old.seen old.who (next_number old.seen old.who)) m r) (sym none) refl;
        named = subst (λ (m : Made). AreOfCall m (name_of r)) (sym none) (λ j s at. absurd (cc));
        read = ap (λ (p : Process). p.last_read) (sym idle.state ∙ sym was);
      }

-- a write that is under way
module _ (session : Session) (who number : ℕ) (seen : List Entry) (now : Process) (idle : IsIdle session seen who number now) (w : Way) (way : IsUnderWay session who number (take w.out seen) seen now w) where
  in_call : IsInCall session (take w.out seen) seen who number (requests.Write w.fd w.bytes) (process_after (take w.out seen) who) ((w.out, show_entry who number w) ∷ []) now
  in_call = way.going.is

  some : number ≢ 0
  some none = let counted = in_call.counted in omega (arith, counted, none)

  not_over : is_over seen who (last_number seen who) ≡ false
  not_over = elim (goes_on-cases number (last_number seen who) (is_over seen who (last_number seen who)) (may_be_left seen who (last_number seen who)) way.going.goes) [
    | inl l ↦ l.1
    | inr m ↦ absurd (let z = m.0 in let last = idle.last in omega (arith, z, last))
  ]

  pub next_is : next_number seen who ≡ number
  next_is = next_of_last seen who number (sym idle.last) some not_over

  show_keeps : (b : Bool) (p : Process) → (cond b (process_act (take w.out seen) p (show_entry who number w).act) p).last_read ≡ p.last_read
  show_keeps true p = refl
  show_keeps false p = refl

  read_before : now.last_read ≡ (process_after (take w.out seen) who).last_read
  read_before =
      let e = show_entry who number w in
      let last : last_number seen who ≡ number = idle.last in
      let is : process_after seen who ≡ played seen who ((w.out, e) ∷ []) (process_after (take w.out seen) who) =
      all_played session seen idle.legal who idle.begun
      ∙ ap (λ n. played seen who (call_entries seen who n) (before_call seen who n)) last
      ∙ (λ i. played seen who (in_call.made_is i) (in_call.before_is i)) in
      ap (λ (p : Process). p.last_read) (sym idle.state ∙ is) ∙ show_keeps (who == who && not (is_fault e.reply)) (process_after (take w.out seen) who)

module _ (session : Session) (old : ProcView) (between : IsBetween session old) where
  goes_on : (w : Way) → IsUnderWay session old.who old.number (take w.out old.seen) old.seen old.state w → IsBeginning session old (requests.Write w.fd w.bytes) (take w.out old.seen)
  goes_on w way =
      let idle = between.idle in
      let is = way.going.is in
      let next = next_is session old.who old.number old.seen old.state idle w way in
      let was : before_call old.seen old.who (next_number old.seen old.who) ≡ process_after (take w.out old.seen) old.who = ap (λ n. before_call old.seen old.who n) next ∙ is.before_is in
      let made : call_entries old.seen old.who (next_number old.seen old.who) ≡ (w.out, show_entry old.who old.number w) ∷ [] = ap (λ n. call_entries old.seen old.who n) next ∙ is.made_is in
      record {
        from = is.begins;
        next = next ∙ is.counted;
        was = was;
        under = subst (λ (p : Process). IsBegun old.who p (call_entries old.seen old.who (next_number old.seen old.who)) (requests.Write w.fd w.bytes)) (sym was)
            (subst (λ (m : Made). IsBegun old.who (process_after (take w.out old.seen) old.who) m (requests.Write w.fd w.bytes)) (sym made) is.begun_as);
        named = subst (λ (m : Made). AreOfCall m (name_of (requests.Write w.fd w.bytes))) (sym made) is.named;
        read = read_before session old.who old.number old.seen old.state idle w way ∙ ap (λ (p : Process). p.last_read) (sym was);
      }

  by_way : (fd : ℕ) (bytes : List ℕ) (o : Option Way) → old.way ≡ o → is_way o fd bytes ≡ true → IsWay session old.who old.number old.seen old.state o
      → IsBeginning session old (requests.Write fd bytes) (begins_at old (requests.Write fd bytes))
  by_way fd bytes None its is way = absurd (cc)
  by_way fd bytes (Some w) its is way =
      subst (λ h. IsBeginning session old (requests.Write fd bytes) h) (sym (goes_on_at old w fd bytes its (ap (λ o. is_way o fd bytes) its ∙ is)))
      (subst (λ (b : List ℕ). IsBeginning session old (requests.Write fd b) (take w.out old.seen)) (way_bytes w fd bytes is)
      (subst (λ n. IsBeginning session old (requests.Write n w.bytes) (take w.out old.seen)) (way_fd w fd bytes is) (goes_on w way)))

  by_request : (r : Request) → resumes old.way r ≡ true → IsBeginning session old r (begins_at old r)
  by_request (requests.Write fd bytes) is = by_way fd bytes old.way refl is between.way
  by_request _ is = absurd (cc)

  -- where a call begins that the process may make
  pub beginning : (r : Request) → MayGoOn old r → IsBeginning session old r (begins_at old r)
  beginning r may = at_test (resumes old.way r) refl
    where
      at_test : (b : Bool) → resumes old.way r ≡ b → IsBeginning session old r (begins_at old r)
      at_test true t = by_request r t
      at_test false t = elim may [
        | inl rest ↦ subst (λ h. IsBeginning session old r h) (sym (begins_now old r t)) (at_rest session old r between rest)
        | inr on ↦ absurd (let z : true ≡ false = sym on ∙ t in cc)
      ]

pub under_way_law : UnderWayLaw
under_way_law session p r between may = (beginning session p between r may).under

pub last_read_law : LastReadLaw
last_read_law session p r between may = (beginning session p between r may).read

-- a write is under way: the process is in its last call
pub in_last : (session : Session) (p : ProcView) (fd : ℕ) (bytes : List ℕ) → IsBetween session p → is_way p.way fd bytes ≡ true → next_number p.seen p.who ≡ last_number p.seen p.who
in_last session p fd bytes between is = at_way p.way is between.way
  where
    at_way : (o : Option Way) → is_way o fd bytes ≡ true → IsWay session p.who p.number p.seen p.state o → next_number p.seen p.who ≡ last_number p.seen p.who
    at_way None is way = absurd (cc)
    at_way (Some w) is way = next_is session p.who p.number p.seen p.state between.idle w way ∙ sym between.idle.last

-- whoever looks
pub looked_same : (session : Session) (old : ProcView) (after : List Entry) → IsBetween session old → HasLooked session old.who old.seen after → SameCaller old.seen after old.who
looked_same session old after between l = same_caller session old.who old.seen after between.idle.begun l.legal l.begins (sym l.own)

pub looked_law : LookedLaw
looked_law session old new r between l who way may = elim may [
  | inr on ↦ inr (ap (λ (o : Option Way). resumes o r) way ∙ on)
  | inl rest ↦
      let same = looked_same session old new.seen between l in
      inl (subst (λ w. next_number new.seen w ≡ last_number new.seen w + 1) (sym who) (number_same old.seen new.seen old.who same ∙ rest ∙ ap (λ n. n + 1) (sym same.last)))
]

pub newborn_law : NewbornLaw
newborn_law session p between none =
    let idle = between.idle in (
      record {
        legal = idle.legal;
        begun = idle.begun;
        living = ap (λ (q : Process). q.ended) idle.state ∙ idle.lives;
        silent = λ n e at by.
            let low = (numbered session p.seen idle.legal).below n e at in
            let of_who = ap (λ w. last_number p.seen w) by in
            let last = idle.last in
            no_zero session p.seen p.who n e idle.legal idle.begun at by (let z : e.number ≡ 0 = omega (arith, low, of_who, last, none) in z);
      },
      at_zero (last_number p.seen p.who) (idle.last ∙ none) (is_over p.seen p.who (last_number p.seen p.who)),
    )
  where
    at_zero : (last : ℕ) → last ≡ 0 → (over : Bool) → (if last == 0 then 1 else if over then last + 1 else last) ≡ last + 1
    at_zero last is over = ap (λ n. if n == 0 then 1 else if over then n + 1 else n) is ∙ ap (λ n. n + 1) (sym is)
