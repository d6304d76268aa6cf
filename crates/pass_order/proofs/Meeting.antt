-- Processes that have seen more, and made no more.
use Rattle.std.proofs.Common.{◌≡◌, ◌≢◌, ◌<◌, ℕ, List, [], ◌∷◌, length, refl, ap, sym, ◌∙◌, subst, arith, ◌⊎◌, inl, inr, true, false, zero, suc, ◌==◌}
use Rattle.std.specs.Prelude.{Some, slice_get, slice_set}
use Rattle.std.proofs.lemmas.Option.{slice_get_within}
pub use Rattle.std.proofs.lemmas.List.{length-set as length_set, set-set as set_twice}
use mathlib.Core.List.{IsPrefix}
use Rattle.pass_entry.specs.declared.entry.Entry.{Entry}
use Rattle.pass_entry.proofs.Places.{set_here}
use Rattle.pass_plain.specs.Lawful.{AgreeBy}
use Rattle.pass_plain.specs.Legal.{IsLegal}
use Rattle.pass_plain.specs.Runs.{next_number}
use Rattle.pass_plain.specs.Sessions.{Session}
use Rattle.pass_plain.specs.Traces.{Line}
use Rattle.pass_plain.proofs.Lists.{below_or, is_place, some_is}
use Rattle.pass_plain.proofs.TwoPrefixes.{SameCaller, caller_agrees, none_later}
use Rattle.pass_book.proofs.Prefixes.{prefix_self, prefix_trans}
use Rattle.pass_hold.proofs.Goings.{number_same}
use Rattle.pass_replay.specs.Tries.{Try}
use Rattle.pass_walk.specs.declared.walker.Ended.{Ended as EndedProcess}
use Rattle.pass_walk.specs.declared.walker.Living.{Living}
use Rattle.pass_walk.specs.declared.walker.Walker.{Walker}
use Rattle.pass_walk.specs.declared.walker.Walker.TheVariants as walker
use Rattle.pass_walk.specs.Lefts.{left_at}
use Rattle.pass_walk.specs.Meetings.{HasComeOn, HasSeenMore}
use Rattle.pass_walk.specs.Walkers.{IsLivingOf, left_of, member_of}
use Rattle.pass_walk.proofs.Linked.{set_other}
use Rattle.pass_walk.proofs.Meetings.{seen_more}
use Rattle.pass_order.specs.Queues.{AreTold, AreTriesBy, AreWalkers, HasJoined, HasWalker, IsBirthIn, IsGoing, count_living}
use Rattle.pass_order.proofs.Prefixes.{agree_between, own_early}

pub living_is : {J : Type 0} (l k : Living J) → ◌≡◌ {A = Walker J} (walker.Living l) (walker.Living k) → l ≡ k
living_is l k e = cc

pub record IsMore {J : Type 0} (session : Session) (trace : List Line) (w v : Walker J) : Type 0 where
  pub process : (member_of v).process ≡ (member_of w).process
  pub who : (member_of v).who ≡ (member_of w).who
  pub begins : IsPrefix (member_of w).seen (member_of v).seen
  pub agrees : AgreeBy (member_of w).who (member_of w).seen (member_of v).seen
  pub going : IsGoing session trace w → IsGoing session trace v
  pub lives : (l : Living J) → w ≡ walker.Living l
      → (m : Living J) × (v ≡ walker.Living m) × (m.process ≡ l.process) × (m.proc.who ≡ l.proc.who) × (next_number m.proc.seen m.proc.who ≡ next_number l.proc.seen l.proc.who) × IsPrefix l.proc.seen m.proc.seen
  pub left : left_of trace v ≡ left_of trace w
  pub counts : count_living v ≡ count_living w

module _ {J : Type 0} (session : Session) (trace : List Line) where
  pub more_self : (w : Walker J) → IsMore session trace w w
  more_self w = record {
    process = refl;
    who = refl;
    begins = prefix_self (member_of w).seen;
    agrees = refl;
    going = λ is. is;
    lives = λ l is. (l, is, refl, refl, refl, prefix_self l.proc.seen);
    left = refl;
    counts = refl;
  }

  pub more_living : (l m : Living J) → IsLivingOf session trace l → HasComeOn session trace l m → IsMore session trace (walker.Living l) (walker.Living m)
  more_living l m is on =
      let same : SameCaller l.proc.seen m.proc.seen l.proc.who =
      subst (λ h. SameCaller l.proc.seen h l.proc.who) on.looked.begins.1
      (caller_agrees session l.proc.seen on.looked.begins.0 l.proc.who (subst (λ h. IsLegal session h) (sym on.looked.begins.1) on.looked.legal) is.local.makes.begun
      (none_later (λ (e : Entry). e.who == l.proc.who) l.proc.seen on.looked.begins.0 m.proc.seen on.looked.begins.1 (sym on.looked.own))) in
      record {
        process = on.process;
        who = on.who;
        begins = on.looked.begins;
        agrees = sym on.looked.own;
        going = λ is. on.living;
        lives = λ k at.
            let one : l ≡ k = living_is l k at in (
              m,
              refl,
              on.process ∙ ap (λ (l : Living J). l.process) one,
              on.who ∙ ap (λ (l : Living J). l.proc.who) one,
              ap (λ w. next_number m.proc.seen w) on.who ∙ number_same l.proc.seen m.proc.seen l.proc.who same ∙ ap (λ (l : Living J). next_number l.proc.seen l.proc.who) one,
              subst (λ (l : Living J). IsPrefix l.proc.seen m.proc.seen) one on.looked.begins,
            );
        left = (λ i. left_at trace (on.process i) (on.line i));
        counts = refl;
      }

  pub more_ended : (e f : EndedProcess J) → HasSeenMore session e f → IsMore session trace (walker.Ended e) (walker.Ended f)
  more_ended e f more = record {
    process = more.process;
    who = more.who;
    begins = more.begins;
    agrees = more.agrees;
    going = λ is. seen_more session trace e f is more;
    lives = λ l at. absurd (let z : true ≡ false = ap (λ (w : Walker J). (member_of w).ended) at in cc);
    left = refl;
    counts = refl;
  }

-- each has seen more
pub record AreMore {J : Type 0} (session : Session) (trace : List Line) (ws vs : List (Walker J)) : Type 0 where
  pub on : (i : ℕ) (w : Walker J) → slice_get ws i ≡ Some w → (v : Walker J) × (slice_get vs i ≡ Some v) × IsMore session trace w v
  pub from : (i : ℕ) (v : Walker J) → slice_get vs i ≡ Some v → (w : Walker J) × (slice_get ws i ≡ Some w) × IsMore session trace w v

module _ {J : Type 0} (session : Session) (trace : List Line) (ws vs : List (Walker J)) (more : AreMore session trace ws vs) where
  has_on : (process who : ℕ) → HasWalker ws process who → HasWalker vs process who
  has_on process who has =
      let (v, at, m) = more.on has.place has.its has.stands in
      record { place = has.place; its = v; stands = at; number = m.process ∙ has.number; is = m.who ∙ has.is }

  -- they are those of the run still
  pub walkers_met : (first : ℕ) → AreWalkers trace first ws → AreWalkers trace first vs
  walkers_met first are = record {
    first_is = has_on 1 first are.first_is;
    bears = λ i v at n e out descriptors at_n by born.
        let (w, at_w, m) = more.from i v at in
        let (early, there) = own_early (member_of w).who (member_of w).seen (member_of v).seen m.begins m.agrees n e at_n (by ∙ m.who) in
        let b = are.bears i w at_w n e out descriptors there (by ∙ m.who) born in
        subst (λ p. IsBirthIn trace vs p e) (sym m.process)
        (record { number = b.number; child = b.child; counted = b.counted; forks = b.forks; there = has_on b.child e.what b.there });
  }

  -- and were tried as before
  pub tries_met : (upto now : List Entry) (tries : List Try) → AreTriesBy session trace ws upto tries → IsPrefix upto now → IsLegal session now
      → ((i : ℕ) (v : Walker J) → slice_get vs i ≡ Some v → IsPrefix (member_of v).seen now) → AreTriesBy session trace vs now tries
  tries_met upto now tries are begins legal behind = record {
    legal = legal;
    behind = behind;
    each = λ i t at. let (began, seen) = are.each i t at in (began, prefix_trans t.after upto now seen begins);
    chain = are.chain;
    own = λ i v at n e at_n by.
        let (w, at_w, m) = more.from i v at in
        let (early, there) = own_early (member_of w).who (member_of w).seen (member_of v).seen m.begins m.agrees n e at_n (by ∙ m.who) in
        are.own i w at_w n e there (by ∙ m.who);
    rests = are.rests;
    placed = are.placed;
    first = λ room told. are.first room (told_before told);
  }
    where
      told_before : AreTold vs now → AreTold ws upto
      told_before told i w at =
          let (v, at_v, m) = more.on i w at in
          agree_between (member_of w).who (member_of w).seen upto now (are.behind i w at) begins
          (m.agrees ∙ subst (λ (who : ℕ). AgreeBy who (member_of v).seen now) m.who (told i v at_v))

-- The one that is to be tried meets the one that was tried last

-- an element of a list in which one was changed
pub of_set : {X : Type 0} (xs : List X) (p i : ℕ) (x y : X) → slice_get (slice_set xs p x) i ≡ Some y → ((i ≡ p) × (x ≡ y)) ⊎ ((i ≢ p) × (slice_get xs i ≡ Some y))
of_set [] p i x y at = absurd (cc)
of_set (z ∷ xs) zero zero x y at = inl (refl, some_is x y at)
of_set (z ∷ xs) zero (suc i) x y at = inr (λ same. omega (arith, same), at)
of_set (z ∷ xs) (suc p) zero x y at = inr (λ same. omega (arith, same), at)
of_set (z ∷ xs) (suc p) (suc i) x y at = elim (of_set xs p i x y at) [
  | inl here ↦ inl (ap suc here.0, here.1)
  | inr there ↦ inr (λ same. there.0 (omega (arith, same)), there.1)
]

-- what a meeting makes of the two
pub record HaveSeen {J : Type 0} (session : Session) (trace : List Line) (p q : ℕ) (l m : Living J) (z y : Walker J) : Type 0 where
  pub own : IsMore session trace (walker.Living l) (walker.Living m)
  pub other : ((q ≡ p) × (m ≡ l)) ⊎ ((q ≢ p) × IsMore session trace z y × ((member_of y).seen ≡ m.proc.seen))

module _ {J : Type 0} (session : Session) (trace : List Line) (ws : List (Walker J)) (goes : (i : ℕ) (w : Walker J) → slice_get ws i ≡ Some w → IsGoing session trace w) (p q : ℕ) (l m : Living J) (z y : Walker J)
    (at : slice_get ws p ≡ Some (walker.Living l)) (last : slice_get (slice_set ws p walker.Gone) q ≡ Some z) (joined : HasJoined session trace l z m y) where
  abbrev pub between : List (Walker J)
  between = slice_set (slice_set ws p walker.Gone) q y

  abbrev pub met : List (Walker J)
  met = slice_set between p (walker.Living m)

  within : p < length ws
  within = slice_get_within ws p (walker.Living l) at

  pub size : length between ≡ length ws
  size = length_set (slice_set ws p walker.Gone) q y ∙ length_set ws p walker.Gone

  apart_by : (z : Walker J) → IsGoing session trace z → HasJoined session trace l z m y → (q ≢ p) → HaveSeen session trace p q l m z y
  apart_by (walker.Living o) is (n, y_is, on, its, seen) apart = record {
    own = more_living session trace l m (goes p (walker.Living l) at) on;
    other = inr (apart, subst (λ (y : Walker J). IsMore session trace (walker.Living o) y) (sym y_is) (more_living session trace o n is its), ap (λ (y : Walker J). (member_of y).seen) y_is ∙ seen);
  }
  apart_by (walker.Ended e) is (f, y_is, on, its, seen) apart = record {
    own = more_living session trace l m (goes p (walker.Living l) at) on;
    other = inr (apart, subst (λ (y : Walker J). IsMore session trace (walker.Ended e) y) (sym y_is) (more_ended session trace e f its), ap (λ (y : Walker J). (member_of y).seen) y_is ∙ seen);
  }
  apart_by (walker.Left x) is joined apart = absurd is
  apart_by walker.Gone is joined apart = absurd is

  same_by : q ≡ p → HaveSeen session trace p q l m z y
  same_by same =
      let gone : z ≡ walker.Gone = some_is z walker.Gone (sym last ∙ ap (λ k. slice_get (slice_set ws p walker.Gone) k) same ∙ set_here ws p walker.Gone within) in
      let (y_is, one) = subst (λ (z : Walker J). HasJoined session trace l z m y) gone joined in
      record { own = subst (λ (m : Living J). IsMore session trace (walker.Living l) (walker.Living m)) (sym one) (more_self session trace (walker.Living l)); other = inl (same, one) }

  last_there : q ≢ p → slice_get ws q ≡ Some z
  last_there apart = sym (set_other ws p q walker.Gone apart) ∙ last

  pub have_seen : HaveSeen session trace p q l m z y
  have_seen = elim (below_or q p) [
    | inl less ↦ (let apart : q ≢ p = λ same. omega (arith, less, same) in apart_by z (goes q z (last_there apart)) joined apart)
    | inr rest ↦ elim rest [
      | inl more ↦ (let apart : q ≢ p = λ same. omega (arith, more, same) in apart_by z (goes q z (last_there apart)) joined apart)
      | inr same ↦ same_by same
    ]
  ]

  pub met_here : slice_get met p ≡ Some (walker.Living m)
  met_here = set_here between p (walker.Living m) (let a = size in let b = within in omega (arith, a, b))

  pub from_met : (i : ℕ) (v : Walker J) → slice_get met i ≡ Some v → (w : Walker J) × (slice_get ws i ≡ Some w) × IsMore session trace w v
  from_met i v at_v = elim (of_set between p i (walker.Living m) v at_v) [
    | inl here ↦ (walker.Living l, ap (λ k. slice_get ws k) here.0 ∙ at, subst (λ (v : Walker J). IsMore session trace (walker.Living l) v) here.1 have_seen.own)
    | inr there ↦ elim (of_set (slice_set ws p walker.Gone) q i y v there.1) [
      | inl its ↦ elim have_seen.other [
        | inl same ↦ absurd (there.0 (its.0 ∙ same.0))
        | inr other ↦ (z, ap (λ k. slice_get ws k) its.0 ∙ last_there other.0, subst (λ (v : Walker J). IsMore session trace z v) its.1 other.1)
      ]
      | inr rest ↦ (v, sym (set_other ws p i walker.Gone there.0) ∙ rest.1, more_self session trace v)
    ]
  ]

  pub on_met : (i : ℕ) (w : Walker J) → slice_get ws i ≡ Some w → (v : Walker J) × (slice_get met i ≡ Some v) × IsMore session trace w v
  on_met i w at_w =
      let inside = slice_get_within ws i w at_w in
      let a = length_set between p (walker.Living m) in
      let b = size in
      let (v, at_v) = is_place met i (omega (arith, inside, a, b)) in
      let (u, at_u, more) = from_met i v at_v in
      (v, at_v, subst (λ (u : Walker J). IsMore session trace u v) (some_is u w (sym at_u ∙ at_w)) more)

  pub are_more : AreMore session trace ws met
  are_more = record { on = on_met; from = from_met }

  module _ (upto : List Entry) (upto_is : (w : Walker J) × (slice_get ws q ≡ Some w) × ((member_of w).seen ≡ upto)) where
    -- what had been seen
    pub upto_seen : IsPrefix upto m.proc.seen
    upto_seen = elim have_seen.other [
      | inl same ↦
          let one : upto_is.0 ≡ walker.Living l = some_is upto_is.0 (walker.Living l) (sym upto_is.1 ∙ ap (λ k. slice_get ws k) same.0 ∙ at) in
          subst (λ h. IsPrefix h m.proc.seen) (sym (ap (λ (w : Walker J). (member_of w).seen) one) ∙ upto_is.2) have_seen.own.begins
      | inr other ↦
          let one : upto_is.0 ≡ z = some_is upto_is.0 z (sym upto_is.1 ∙ last_there other.0) in
          subst (λ h. IsPrefix h m.proc.seen) (sym (ap (λ (w : Walker J). (member_of w).seen) one) ∙ upto_is.2)
          (subst (λ h. IsPrefix (member_of z).seen h) other.2 other.1.begins)
    ]

    -- none has seen more
    pub behind_now : ((i : ℕ) (w : Walker J) → slice_get ws i ≡ Some w → IsPrefix (member_of w).seen upto) → (i : ℕ) (v : Walker J) → slice_get met i ≡ Some v → IsPrefix (member_of v).seen m.proc.seen
    behind_now behind i v at_v = elim (of_set between p i (walker.Living m) v at_v) [
      | inl here ↦ subst (λ (v : Walker J). IsPrefix (member_of v).seen m.proc.seen) here.1 (prefix_self m.proc.seen)
      | inr there ↦ elim (of_set (slice_set ws p walker.Gone) q i y v there.1) [
        | inl its ↦ elim have_seen.other [
          | inl same ↦ absurd (there.0 (its.0 ∙ same.0))
          | inr other ↦ subst (λ (v : Walker J). IsPrefix (member_of v).seen m.proc.seen) its.1 (subst (λ h. IsPrefix h m.proc.seen) (sym other.2) (prefix_self m.proc.seen))
        ]
        | inr rest ↦ prefix_trans (member_of v).seen upto m.proc.seen (behind i v (sym (set_other ws p i walker.Gone there.0) ∙ rest.1)) upto_seen
      ]
    ]
