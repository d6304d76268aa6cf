-- A seat that looks keeps the rule, and what it is told holds.
use Rattle.std.proofs.Common.{◌≡◌, ◌≢◌, ℕ, ◌≤◌, ◌-◌, List, [], ◌∷◌, set, refl, sym, ap, ◌∙◌, subst, ⊎_elim, arith, le_trans}
use Rattle.std.specs.Prelude.{slice_index}
use mathlib.Core.Option.{some}
use lib.ListN.{get_elem?}
use Rattle.atomic_table.specs.Table.{State, Me, keeps, Allows}
use Rattle.atomic_table.proofs.Lists.{at_set, set_here, set_else, set_again}
use Rattle.pass_entry.specs.declared.entry.Entry.{Entry}
use Rattle.pass_plain.specs.Legal.{IsLegal}
use Rattle.pass_book.specs.declared.view.VaultSync.{VaultSync}
use Rattle.pass_book.specs.declared.view.Opened.{Opened}
use Rattle.pass_book.specs.declared.view.Name.{Name}
use Rattle.pass_book.specs.declared.view.View.{View}
use Rattle.pass_book.specs.declared.view.Folded.{Folded}
use Rattle.pass_book.specs.declared.view.Role.TheVariants.{Desk}
use mathlib.Core.List.{IsPrefix}
use Rattle.pass_book.specs.Names.{name, IsOne, Agrees}
use Rattle.pass_book.specs.Syncs.{durable, IsBacked}
use Rattle.pass_book.specs.Views.{session_in, all_folded, all_listed, Fits, KeptAs, Kept, met, Meets, Learns, Reads, freeing, Frees}
use Rattle.pass_book.proofs.Prefixes.{prefix_none, prefix_length}
use Rattle.pass_book.proofs.Affairs.{agrees_between, listed_between, agrees_on, listed_on}
use Rattle.pass_book.proofs.Backed.{durable_begins, rising_begins, numbered_longer}
use Rattle.pass_book.proofs.Lookups.{at_within}
use Rattle.pass_book.proofs.Lists.{claims_changed, claimed_at_most, longer_of}
use Rattle.pass_book.proofs.Rules.{Rule, book_name, nowhere, with_book, not_vault, longer_nothing}
use Rattle.pass_book.proofs.Joining.{elsewhere}

-- a load of word 0 or 1 leaves the words
pub same_words : (words : List ℕ) (d : ℕ) → words ≡ 0 ∷ d ∷ [] → set words 0 (slice_index words 0) ≡ 0 ∷ d ∷ []
same_words words d e = let P : List ℕ → Type 0 = λ w. set w 0 (slice_index w 0) ≡ 0 ∷ d ∷ [] in subst P (sym e) refl

same_words_1 : (words : List ℕ) (d : ℕ) → words ≡ 0 ∷ d ∷ [] → set words 1 (slice_index words 1) ≡ 0 ∷ d ∷ []
same_words_1 words d e = let P : List ℕ → Type 0 = λ w. set w 1 (slice_index w 1) ≡ 0 ∷ d ∷ [] in subst P (sym e) refl

-- two seats of one name are one, after a change that keeps the name
pub set_once : (opened : Opened) (words : List ℕ) (views : List View) (all : List VaultSync) (lent : List Name) (seat : ℕ) (book : View) (k : KeptAs opened words views seat book all lent) (id : ℕ) (v l : View) → get_elem? views id ≡ some v → l.name ≡ v.name
    → (i j : ℕ) (a b : View) → get_elem? (set views id l) i ≡ some a → get_elem? (set views id l) j ≡ some b → IsOne a.name.role → a.name ≡ b.name → i ≡ j
set_once opened words views all lent seat book k id v l at named i j a b p q one names =
    let x = was i a p in
    let y = was j b q in
    k.once i j x.0 y.0 x.1 y.1 (subst (λ (n : Name). IsOne n.role) (sym x.2) one) (x.2 ∙ names ∙ sym y.2)
  where
    was : (n : ℕ) (u : View) → get_elem? (set views id l) n ≡ some u → (o : View) × (get_elem? views n ≡ some o) × (o.name ≡ u.name)
    was n u e =
        ⊎_elim
        (λ (t : (n ≡ id) × (l ≡ u)). (v, (subst (λ m. get_elem? views m ≡ some v) (sym t.0) at), sym named ∙ ap (λ (y : View). y.name) t.1))
        (λ (t : (n ≢ id) × (get_elem? views n ≡ some u)). (u, t.1, refl))
        (at_set views id n l u e)

-- a seat other than the book's takes in what it was told, and learns how it stands to what it had seen
pub takes : (opened : Opened) (slots id : ℕ) (me : Me ℕ View) → ¬ (me.0.name ≡ book_name) → Allows (Rule opened) slots id me 0 (λ n. n) (Meets nowhere me)
takes opened slots id me unlike s h len at bound =
    let k = h.4 in
    let v = me.0 in
    let b = h.1 in
    let all = h.2 in
    let lent = h.3 in
    let l = met v in
    let f = k.fits id v at in
    let seen = longer_of v.seen v.told b.seen f.begins f.told in
    let list = longer_of v.syncs v.told_syncs all f.listed f.told_listed in
    let mine : Fits b all lent l = record {
      opened = f.opened;
      begins = seen.2;
      told = prefix_none b.seen;
      listed = list.2;
      told_listed = prefix_none all;
      agrees = agrees_on v.name v.seen l.seen b.seen seen.0 seen.2 f.agrees;
      complete = listed_on v.name v.syncs l.syncs all list.0 list.2 f.complete;
      away = f.away;
      free = f.free;
      vault = (λ e. let x = f.vault e in record {
        named = x.named;
        has = x.has;
        within = le_trans x.within (prefix_length v.seen l.seen seen.0);
        numbered = numbered_longer (session_in b.opened) v.seen l.seen all seen.0 x.numbered;
        agrees = (λ a among. subst (λ (xs : List Entry). Agrees a xs b.seen) (sym (longer_nothing l.seen)) (x.agrees a among));
      });
    } in (
      l,
      keeps,
      tt,
      (
        h.0,
        b,
        all,
        lent,
        record {
          there = set_else s.views id h.0 l (elsewhere opened s.words s.views all lent h.0 b k id v at unlike) ∙ k.there;
          is_book = k.is_book;
          from = k.from;
          legal = k.legal;
          fits = (λ j u e. ⊎_elim (λ (t : (j ≡ id) × (l ≡ u)). subst (Fits b all lent) t.1 mine) (λ (t : (j ≢ id) × (get_elem? s.views j ≡ some u)). k.fits j u t.1) (at_set s.views id j l u e));
          once = set_once opened s.words s.views all lent h.0 b k id v l at refl;
          folded = k.folded;
          desks = k.desks;
          words_are = same_words s.words (durable all) k.words_are;
          rising = k.rising;
          durable_within = k.durable_within;
          no_vault = k.no_vault;
          lent_away = k.lent_away;
          home = k.home;
          backed = k.backed;
          pool = claims_changed s.views id v l b.pool b.pool at k.pool (omega arith);
        },
      ),
      (
        refl,
        record {
          begins = seen.0;
          told = seen.1;
          listed = list.0;
          told_listed = list.1;
          rising = rising_begins l.syncs all list.2 k.rising;
          agrees = agrees_between v.name v.seen l.seen b.seen seen.0 seen.2 f.agrees;
          complete = listed_between v.name v.syncs l.syncs all list.0 list.2 f.complete;
        },
      ),
    )

-- the state is as it was
unchanged : (opened : Opened) (s : State ℕ View) (i id : ℕ) (v : View) → set s.words i (slice_index s.words i) ≡ s.words → get_elem? s.views id ≡ some v → Rule opened s → Kept opened (set s.words i (slice_index s.words i)) (set s.views id v)
unchanged opened s i id v words at h =
    let P : List ℕ → Type 0 = λ w. Kept opened w (set s.views id v) in
    let Q : List View → Type 0 = λ vs. Kept opened s.words vs in
    subst P (sym words) (subst Q (sym (set_again s.views id v at)) h)

-- what a desk had seen of the whole list it had seen of the book's
desks_told : (h : List Entry) (ss all : List VaultSync) (away : List Name) (fs : List Folded) → IsPrefix ss all → all_folded h ss fs → all_listed all away fs → all_listed ss away fs
desks_told h ss all away [] p a l = tt
desks_told h ss all away (f ∷ fs) p a l =
    (λ o names. let (home, mine) = l.0 o names in (home, listed_between (name Desk o) f.syncs ss all a.0.listed p mine), desks_told h ss all away fs p a.1 l.1)

-- the book learns how what came back stands to its history
pub learns : (opened : Opened) (slots id : ℕ) (me : Me ℕ View) → me.0.name ≡ book_name → Allows (Rule opened) slots id me 0 (λ n. n) (Learns nowhere me)
learns opened slots id me is s h len at bound =
    let k = with_book opened s.words s.views h id me.0 at is in (
      me.0,
      keeps,
      tt,
      unchanged opened s 0 id me.0 (same_words s.words (durable h.2) k.words_are ∙ sym k.words_are) at h,
      (refl, subst (λ (o : Opened). IsLegal (session_in o) me.0.seen) (sym k.from) k.legal, k.folded, desks_told me.0.seen me.0.syncs h.2 me.0.away me.0.folded (k.fits id me.0 at).listed k.folded k.desks, le_trans (durable_begins me.0.syncs h.2 (k.fits id me.0 at).listed k.rising) k.durable_within, claimed_at_most s.views id me.0 me.0.pool at k.pool, rising_begins me.0.syncs h.2 (k.fits id me.0 at).listed k.rising, subst (λ (o : Opened). IsBacked (session_in o) me.0.seen me.0.syncs) (sym k.from) k.backed),
    )

-- whoever reads word 1 finds at least the last number that it knows
pub reads : (opened : Opened) (slots id : ℕ) (me : Me ℕ View) → Allows (Rule opened) slots id me 1 (λ n. n) (Reads nowhere me)
reads opened slots id me s h len at bound =
    let k = h.4 in
    let found : slice_index s.words 1 ≡ durable h.2 = let P : List ℕ → Type 0 = λ w. slice_index w 1 ≡ durable h.2 in subst P (sym k.words_are) refl in (
      me.0,
      keeps,
      tt,
      unchanged opened s 1 id me.0 (same_words_1 s.words (durable h.2) k.words_are ∙ sym k.words_are) at h,
      (refl, subst (λ n. durable me.0.syncs ≤ n) (sym found) (durable_begins me.0.syncs h.2 (k.fits id me.0 at).listed k.rising)),
    )

-- claimed places that came back are free again
pub frees : (opened : Opened) (slots id : ℕ) (me : Me ℕ View) → me.0.name ≡ book_name → Allows (Rule opened) slots id me 0 (λ n. n) (Frees nowhere me)
frees opened slots id me is s h len at bound =
    let b = me.0 in
    let k = with_book opened s.words s.views h id b at is in
    let all = h.2 in
    let lent = h.3 in
    let f = k.fits id b at in
    let l = freeing b in
    let within = claimed_at_most s.views id b b.pool at k.pool in
    let keep : (u : View) → Fits b all lent u → Fits l all lent u = λ u g. record { opened = g.opened; begins = g.begins; told = g.told; listed = g.listed; told_listed = g.told_listed; agrees = g.agrees; complete = g.complete; away = g.away; free = g.free; vault = (λ e. let v = g.vault e in record { named = v.named; has = v.has; within = v.within; numbered = v.numbered; agrees = v.agrees }) } in
    let mine : Fits l all lent l = record { opened = (λ _. refl); begins = f.begins; told = f.told; listed = f.listed; told_listed = f.told_listed; agrees = f.agrees; complete = f.complete; away = f.away; free = f.free; vault = (λ e. absurd (not_vault b is e)) } in (
      l,
      keeps,
      tt,
      (
        id,
        l,
        all,
        lent,
        record {
          there = set_here s.views id l (at_within s.views id b at);
          is_book = is;
          from = k.from;
          legal = k.legal;
          fits = (λ j u e. ⊎_elim (λ (t : (j ≡ id) × (l ≡ u)). subst (Fits l all lent) t.1 mine) (λ (t : (j ≢ id) × (get_elem? s.views j ≡ some u)). keep u (k.fits j u t.1)) (at_set s.views id j l u e));
          once = set_once opened s.words s.views all lent id b k id b l at refl;
          folded = tt;
          desks = tt;
          words_are = same_words s.words (durable all) k.words_are;
          rising = k.rising;
          durable_within = k.durable_within;
          no_vault = k.no_vault;
          lent_away = k.lent_away;
          home = k.home;
          backed = k.backed;
          pool = claims_changed s.views id b l b.pool (b.pool - b.claimed) at k.pool (omega arith);
        },
      ),
      (refl, within),
    )
