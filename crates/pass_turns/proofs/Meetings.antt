-- Tasks whose processes come to one history.
use Rattle.std.proofs.Common.{◌≡◌, ℕ, zero, suc, List, [], ◌∷◌, ◌++◌, length, refl, ap, sym, ◌∙◌, subst, arith, sum_by, inl, inr, All}
use Rattle.std.specs.Prelude.{Some, slice_get, slice_set, max}
use Rattle.std.proofs.lemmas.Bool.{cases_lt}
use Rattle.std.proofs.lemmas.List.Elements.{All-cons, All-contains, All-head, All-nil, All-tail}
use Rattle.std.proofs.lemmas.List.Sums.{sum_by-cons}
use mathlib.Core.List.{IsPrefix}
use Rattle.pass_entry.specs.declared.entry.Entry.{Entry}
use Rattle.pass_plain.specs.Lawful.{AgreeBy}
use Rattle.pass_plain.specs.Legal.{IsLegal}
use Rattle.pass_plain.specs.Sessions.{Session}
use Rattle.pass_plain.specs.Traces.{Line}
use Rattle.pass_plain.proofs.Lists.{slice_get-front}
use Rattle.pass_trace.specs.TraceLines.{plain_trace}
use Rattle.pass_trace.specs.declared.trace.TraceLine.{TraceLine}
use Rattle.pass_walk.proofs.Among.{Among, among, contains, all_of}
use Rattle.pass_walk.proofs.Meetings.{own_none}
use Rattle.pass_turns.specs.Meetings.{AreLater, IsLater}
use Rattle.pass_turns.specs.Tasks.{task_room}
use Rattle.pass_turns.specs.Turners.{AreTasks, HasTask, IsBirthAmong, IsNewTask, Turned, TurnerState}
use Rattle.pass_turns.proofs.Passing.{turned_not, turned_twice}

pub turned_more : (session : Session) (old new : TurnerState) → new.lines ≡ old.lines → new.process ≡ old.process → new.who ≡ old.who → IsLegal session new.seen → IsPrefix old.seen new.seen → AgreeBy old.who old.seen new.seen → Turned old [] new
turned_more session old new lines process who legal begins agrees = record {
  lines = lines;
  process = process;
  who = who;
  begins = begins;
  new_tasks = All-nil (IsNewTask old.lines);
  births = λ n e out descriptors at later by born. absurd (own_none session old.who old.seen new.seen legal begins agrees n e at later by);
}

pub later_same : (t : TurnerState) → IsLater t t
later_same t = record { turned = turned_not t; ended = refl; left = refl; cause = refl }

pub later_twice : (a b c : TurnerState) → IsLater a b → IsLater b c → IsLater a c
later_twice a b c f s = record { turned = turned_twice a b c [] [] f.turned s.turned; ended = s.ended ∙ f.ended; left = s.left ∙ f.left; cause = s.cause ∙ f.cause }

pub are_later_same : (ts : List TurnerState) → AreLater ts ts
are_later_same [] = tt
are_later_same (t ∷ ts) = (later_same t, are_later_same ts)

-- one more of them is later
pub are_later_set : (ts us : List TurnerState) (i : ℕ) (v : TurnerState) → AreLater ts us → ((u : TurnerState) → slice_get us i ≡ Some u → IsLater u v) → AreLater ts (slice_set us i v)
are_later_set [] [] i v are is = tt
are_later_set [] (u ∷ us) i v are is = absurd are
are_later_set (t ∷ ts) [] i v are is = absurd are
are_later_set (t ∷ ts) (u ∷ us) zero v (one, are) is = (later_twice t u v one (is u refl), are)
are_later_set (t ∷ ts) (u ∷ us) (suc i) v (one, are) is = (one, are_later_set ts us i v are is)

later_of : (ts us : List TurnerState) → AreLater ts us → (t : TurnerState) → Among t ts → (u : TurnerState) × Among u us × IsLater t u
later_of [] us are t there = absurd there
later_of (x ∷ ts) [] are t there = absurd are
later_of (x ∷ ts) (u ∷ us) (one, are) t (inl same) = (u, inl refl, subst (λ x. IsLater x u) same one)
later_of (x ∷ ts) (u ∷ us) (one, are) t (inr rest) = let (v, there, is) = later_of ts us are t rest in (v, inr there, is)

earlier_of : (ts us : List TurnerState) → AreLater ts us → (u : TurnerState) → Among u us → (t : TurnerState) × Among t ts × IsLater t u
earlier_of [] [] are u there = absurd there
earlier_of [] (x ∷ us) are u there = absurd are
earlier_of (t ∷ ts) [] are u there = absurd there
earlier_of (t ∷ ts) (x ∷ us) (one, are) u (inl same) = (t, inl refl, subst (λ x. IsLater t x) same one)
earlier_of (t ∷ ts) (x ∷ us) (one, are) u (inr rest) = let (v, there, is) = earlier_of ts us are u rest in (v, inr there, is)

-- with as much left
pub later_none : (ts us : List TurnerState) → AreLater ts us → All (λ (t : TurnerState). t.left ≡ 0) ts → All (λ (t : TurnerState). t.left ≡ 0) us
later_none [] [] are left = left
later_none [] (u ∷ us) are left = absurd are
later_none (t ∷ ts) [] are left = absurd are
later_none (t ∷ ts) (u ∷ us) (one, are) left =
    All-cons (λ (t : TurnerState). t.left ≡ 0) u us (one.left ∙ All-head (λ (t : TurnerState). t.left ≡ 0) t ts left) (later_none ts us are (All-tail (λ (t : TurnerState). t.left ≡ 0) t ts left))

-- those behind them, too
pub are_later_both : (ts us vs ws : List TurnerState) → AreLater ts us → AreLater vs ws → AreLater (ts ++ vs) (us ++ ws)
are_later_both [] [] vs ws are more = more
are_later_both [] (u ∷ us) vs ws are more = absurd are
are_later_both (t ∷ ts) [] vs ws are more = absurd are
are_later_both (t ∷ ts) (u ∷ us) vs ws (one, are) more = (one, are_later_both ts us vs ws are more)

pub later_room : (ts us : List TurnerState) → AreLater ts us → sum_by task_room us ≡ sum_by task_room ts
later_room [] [] are = refl
later_room [] (u ∷ us) are = absurd are
later_room (t ∷ ts) [] are = absurd are
later_room (t ∷ ts) (u ∷ us) (one, are) =
    (let a = sum_by-cons task_room t ts in let b = sum_by-cons task_room u us in let c = later_room ts us are in let d = ap (λ n. max 1 n) one.left in omega (arith, a, b, c, d))

module _ (tasks others : List TurnerState) (are : AreLater tasks others) where
  has_on : (q w : ℕ) → HasTask tasks q w → HasTask others q w
  has_on q w has =
      let (u, there, later) = later_of tasks others are has.task (among tasks has.task has.among) in
      record { task = u; among = contains others u there; number = later.turned.process ∙ has.number; is = later.turned.who ∙ has.is }

  -- they are the tasks of the run still
  pub tasks_met : (lines : List TraceLine) (number : ℕ) → AreTasks lines number tasks → AreTasks lines number others
  tasks_met lines number given = record {
    first_is = has_on 1 number given.first_is;
    each = all_of (λ t. t.lines ≡ lines) others (λ u h.
        let (t, there, later) = earlier_of tasks others are u (among others u h) in later.turned.lines ∙ All-contains (λ t. t.lines ≡ lines) tasks t given.each (contains tasks t there));
    bears = λ u h n e out descriptors at_n by born.
        let (t, there, later) = earlier_of tasks others are u (among others u h) in
        elim (cases_lt n (length t.seen)) [
          | inl early ↦
              let b = given.bears t (contains tasks t there) n e out descriptors (slice_get-front t.seen later.turned.begins.0 n e early (ap (λ h. slice_get h n) later.turned.begins.1 ∙ at_n)) (by ∙ later.turned.who) born in
              subst (λ p. IsBirthAmong (plain_trace lines) others p e) (sym later.turned.process)
              (record { number = b.number; child = b.child; counted = b.counted; forks = b.forks; there = has_on b.child e.what b.there })
          | inr late ↦ absurd (nobody (plain_trace t.lines) t.process e (later.turned.births n e out descriptors at_n late (by ∙ later.turned.who) born))
        ];
  }
    where
      nobody : (trace : List Line) (process : ℕ) (e : Entry) → IsBirthAmong trace [] process e → ⊥
      nobody trace process e b = among [] b.there.task b.there.among
