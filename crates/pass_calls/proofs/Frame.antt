-- A call from its beginning to its end, while its process is taken apart.
use Rattle.std.proofs.Common.{◌≡◌, ℕ, ◌+◌, ◌-◌, ◌<◌, ◌≤◌, ◌^◌, length, ap, sym, ◌∙◌, subst, arith, false}
use Rattle.std.specs.Prelude.{Option, None, Result, Ok, Err, IfErr, IsErrAnd}
use Rattle.std.specs.FinMap as finite_map
use Rattle.pass_entry.specs.declared.entry.Ask.{Ask}
use Rattle.pass_entry.specs.declared.entry.CallFault.{CallFault}
use Rattle.pass_entry.specs.declared.entry.Reply.TheVariants as answer
use Rattle.pass_plain.specs.declared.request.Request.{Request}
use Rattle.pass_plain.specs.Places.{call_places}
use Rattle.pass_plain.specs.Processes.{refusal}
use Rattle.pass_plain.specs.Sessions.{Session}
use Rattle.pass_book.specs.Tokens.{BookState}
use Rattle.pass_hold.specs.Callers.{CallerState, moved_on}
use Rattle.pass_hold.specs.Callings.{IsIdle}
use Rattle.pass_hold.specs.Places.{HasRoom}
use Rattle.pass_proc.specs.CallEnds.{HasReplied}
use Rattle.pass_proc.specs.Procs.{IsCallerOf, ProcView, proc_with}
use Rattle.pass_proc.specs.Views.{ProcessView}
use Rattle.pass_proc.specs.declared.way.Way.{Way}
use Rattle.pass_answer.specs.Answers.{Answers, HasMoved, resumes}
use Rattle.pass_answer.specs.declared.answer.CallEnd.{CallEnd}
use Rattle.pass_answer.specs.declared.answer.CallEnd.TheVariants as ends
use Rattle.pass_answer.specs.declared.answer.Moved.{Moved}
use Rattle.pass_answer.proofs.Wrapping.{faulted, moved}

-- a process and its caller as the call of this number begins; contracts see the process as `old`
pub record IsOpen (session : Session) (p : ProcessView) (c : CallerState) (old : ProcView) (number : ℕ) : Type 0 where
  pub was : ℕ
  pub way : Option Way
  pub view : proc_with p was c way ≡ old
  pub last : was ≡ number - 1
  pub who : c.who ≡ p.who
  pub own : c.own ≡ 65
  pub idle : IsIdle session c.seen p.who (number - 1) p.state
  pub some : 0 < number

pub opened : (session : Session) (p : ProcessView) (n : ℕ) (c : CallerState) (way : Option Way) → IsCallerOf session p n c → (old : ProcView) → proc_with p n c way ≡ old
    → (number : ℕ) → number ≡ old.number + 1 → IsOpen session p c old number
opened session p n c way is old view number next =
    let its = ap (λ (v : ProcView). v.number) view in
    let own : n ≡ number - 1 = omega (arith, its, next) in
    record {
      was = n;
      way = way;
      view = view;
      last = own;
      who = is.of_who;
      own = is.own;
      idle = subst (λ m. IsIdle session c.seen p.who m p.state) own is.idle;
      some = omega (arith, next);
    }

module _ {session : Session} {p : ProcessView} {c : CallerState} {old : ProcView} {number : ℕ} (o : IsOpen session p c old number) where
  -- it has reserved memory
  pub ready : (q : ProcessView) → q ≡ record p { lineage = q.lineage; spare = q.spare; room = q.room } → IsOpen session q c old number
  ready q same =
      subst (λ (v : ProcessView). IsOpen session v c old number) (sym same)
      (record { was = o.was; way = o.way; view = o.view; last = o.last; who = o.who; own = o.own; idle = o.idle; some = o.some })

  -- what it refuses, and what it holds
  pub asks : (a : Ask) → refusal p.state a ≡ refusal old.state a
  asks a = ap (λ (v : ProcView). refusal v.state a) o.view

  pub holds : (fd : ℕ) → finite_map.get p.state.descriptors fd ≡ finite_map.get old.state.descriptors fd
  holds fd = ap (λ (v : ProcView). finite_map.get v.state.descriptors fd) o.view

  -- its caller holds the places that were counted
  pub has_room : c.held ≡ call_places c.seen c.who → (shelf : BookState) → HasRoom shelf (call_places old.seen old.who) 3 → HasRoom shelf c.held 3
  has_room held shelf room =
      subst (λ h. HasRoom shelf h 3)
      (sym (held ∙ ap (λ w. call_places c.seen w) o.who ∙ ap (λ (v : ProcView). call_places v.seen v.who) o.view)) room

  -- its entries are made: `q` and `e` are the process and its caller then
  module _ (q : ProcessView) (e : CallerState) (who : q.who ≡ p.who) where
    pub rests : (e.who ≡ c.who) × (e.own ≡ c.own) → IsIdle session e.seen q.who number q.state → length e.seen ≤ 2 ^ 32 → IsCallerOf session q number e
    rests same idle few = record { of_who = same.0 ∙ o.who ∙ sym who; own = same.1 ∙ o.own; idle = idle; few = few }

    module _ (places : ℕ) (r : Request) (new : resumes old.way r ≡ false) where
      pub answers : (m : Moved) → HasMoved session p.who c.seen e.seen q.state r m → Answers session places old (proc_with q number e None) r (Ok m)
      answers m is =
          subst (λ (v : ProcView). resumes v.way r ≡ false → Answers session places v (proc_with q number e None) r (Ok m)) o.view
          (λ fresh. moved session places (proc_with p o.was c o.way) r fresh q number e who m is) new

      pub replies : (f : CallFault) → HasReplied session p.who c.seen e.seen r (answer.Fault f) → Answers session places old (proc_with q number e None) r (Err (ends.Fault f))
      replies f is =
          subst (λ (v : ProcView). resumes v.way r ≡ false → Answers session places v (proc_with q number e None) r (Err (ends.Fault f))) o.view
          (λ fresh. faulted session places (proc_with p o.was c o.way) r fresh q number e who f is) new

-- entries leave a caller who it is and its places for its exit

pub once : (c d : CallerState) (k : ℕ) → d ≡ moved_on c d.seen d.syncs k → (d.who ≡ c.who) × (d.own ≡ c.own)
once c d k same = (ap (λ (c : CallerState). c.who) same, ap (λ (c : CallerState). c.own) same)

pub later : (c d e : CallerState) (k : ℕ) → (d.who ≡ c.who) × (d.own ≡ c.own) → e ≡ moved_on d e.seen e.syncs k → (e.who ≡ c.who) × (e.own ≡ c.own)
later c d e k before same = let now = once d e k same in (now.0 ∙ before.0, now.1 ∙ before.1)

pub twice : (c d e : CallerState) (j k : ℕ) → d ≡ moved_on c d.seen d.syncs j → e ≡ moved_on d e.seen e.syncs k → (e.who ≡ c.who) × (e.own ≡ c.own)
twice c d e j k first second = later c d e k (once c d j first) second

pub one_left : (c d : CallerState) (k : ℕ) → d ≡ moved_on c d.seen d.syncs (k + 1) → 0 < d.held
one_left c d k same = let held = ap (λ (c : CallerState). c.held) same in omega (arith, held)

pub less_room : (shelf : BookState) (held : ℕ) → HasRoom shelf held 3 → HasRoom shelf held 1
less_room shelf held room = λ low. let all = room (omega (arith, low)) in omega (arith, all)

-- a call that could not begin
pub over : (session : Session) (places : ℕ) (old new : ProcView) (r : Request) (result : Result Moved CallEnd) (end : CallEnd) → IsErrAnd result (λ e. e ≡ end) → Answers session places old new r (Err end)
    → Answers session places old new r result
over session places old new r (Ok m) end is full = absurd is
over session places old new r (Err e) end is full = subst (λ (x : CallEnd). Answers session places old new r (Err x)) (sym is) full

pub passed : {T : Type 0} (result : Result T CallEnd) (end : CallEnd) (P : CallEnd → Type 0) → IsErrAnd result (λ e. e ≡ end) → P end → IfErr result P
passed (Ok x) end P is holds = absurd is
passed (Err e) end P is holds = subst P (sym is) holds
