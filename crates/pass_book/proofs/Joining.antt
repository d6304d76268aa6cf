-- A seat that takes in another one keeps the rule: a name that comes back to the book, a note that is told.
use Rattle.std.proofs.Common.{◌≡◌, ◌≢◌, ◌⊎◌, ℕ, List, [], ◌∷◌, set, refl, sym, ap, ◌∙◌, subst, inl, inr, ⊎_elim, arith}
use mathlib.Core.Option.{some, some-injective}
use mathlib.Core.List.{IsPrefix}
use lib.ListN.{get_elem?}
use Rattle.atomic_table.specs.Table.{Joins}
use Rattle.atomic_table.proofs.Lists.{set_here, set_else}
use Rattle.pass_entry.specs.declared.entry.Entry.{Entry}
use Rattle.pass_book.specs.declared.view.VaultSync.{VaultSync}
use Rattle.pass_book.specs.declared.view.Opened.{Opened}
use Rattle.pass_book.specs.declared.view.Role.TheVariants.{Desk, Vault}
use Rattle.pass_book.specs.declared.view.Name.{Name}
use Rattle.pass_book.specs.declared.view.Folded.{Folded}
use Rattle.pass_book.specs.declared.view.View.{View}
use Rattle.pass_book.specs.Names.{name, Among, without, IsOne, Agrees, Listed}
use Rattle.pass_book.specs.Views.{session_in, all_folded, all_listed, Fits, KeptAs, longer, spent, folding, hearing}
use Rattle.pass_book.proofs.Prefixes.{prefix_self, prefix_trans, prefix_none}
use Rattle.pass_book.proofs.Affairs.{agrees_on, listed_on}
use Rattle.pass_book.proofs.Backed.{still_backed}
use Rattle.pass_book.proofs.Lookups.{among_without, among_less, gone, is_or_not, at_within}
use Rattle.pass_book.proofs.Lists.{Joined, used, gained, alone, joined, before_join, claims_joined, longer_of}
use Rattle.pass_book.proofs.Rules.{Rule, book_name, with_book, never, not_vault, longer_nothing, none_concerned}

pub joined_once : (opened : Opened) (words : List ℕ) (views : List View) (all : List VaultSync) (lent : List Name) (seat : ℕ) (book : View) (k : KeptAs opened words views seat book all lent)
    → (id : ℕ) (v l : View) → get_elem? views id ≡ some v → l.name ≡ v.name → (other : ℕ) (x : View) → ¬ IsOne x.name.role
    → (i j : ℕ) (a b : View) → Joined views id l other x i a → Joined views id l other x j b → IsOne a.name.role → a.name ≡ b.name → i ≡ j
joined_once opened words views all lent seat book k id v l at named other x nameless i j a b p q one names =
    let one' : IsOne b.name.role = subst (λ (y : Name). IsOne y.role) names one in
    ⊎_elim
    (λ (y : (o : View) × (get_elem? views i ≡ some o) × (o.name ≡ a.name)).
    ⊎_elim
    (λ (z : (o : View) × (get_elem? views j ≡ some o) × (o.name ≡ b.name)). k.once i j y.0 z.0 y.1 z.1 (subst (λ (n : Name). IsOne n.role) (sym y.2) one) (y.2 ∙ names ∙ sym z.2))
    (λ (z : x ≡ b). absurd (nameless (subst (λ (u : View). IsOne u.name.role) (sym z) one')))
    (was j b q))
    (λ (y : x ≡ a). absurd (nameless (subst (λ (u : View). IsOne u.name.role) (sym y) one)))
    (was i a p)
  where
    was : (n : ℕ) (u : View) → Joined views id l other x n u → ((o : View) × (get_elem? views n ≡ some o) × (o.name ≡ u.name)) ⊎ (x ≡ u)
    was n u (used e is) = inr is
    was n u (gained ne e is) = inl (v, (subst (λ m. get_elem? views m ≡ some v) (sym e) at), sym named ∙ ap (λ (y : View). y.name) is)
    was n u (alone ne nd old) = inl (u, old, refl)

pub join_fits : (b l x : View) (all : List VaultSync) (lent : List Name) (views : List View) (id other : ℕ) → ((j : ℕ) (u : View) → j ≢ other → j ≢ id → get_elem? views j ≡ some u → Fits b all lent u)
    → Fits b all lent l → Fits b all lent x → (j : ℕ) (u : View) → Joined views id l other x j u → Fits b all lent u
join_fits b l x all lent views id other old mine new j u (used e same) = subst (Fits b all lent) same new
join_fits b l x all lent views id other old mine new j u (gained ne e same) = subst (Fits b all lent) same mine
join_fits b l x all lent views id other old mine new j u (alone ne nd there) = old j u ne nd there

pub spent_fits : (b : View) (all : List VaultSync) (lent : List Name) → Fits b all lent spent
spent_fits b all lent = record {
  opened = (λ live. absurd (live refl));
  begins = prefix_none b.seen;
  told = prefix_none b.seen;
  listed = prefix_none all;
  told_listed = prefix_none all;
  agrees = sym (none_concerned b.seen);
  complete = never [] all;
  away = (λ one. absurd one);
  free = (λ one. absurd one);
  vault = (λ e. absurd cc);
}

folded_longer : (h : List Entry) (xs ys : List VaultSync) (fs : List Folded) → IsPrefix xs ys → all_folded h xs fs → all_folded h ys fs
folded_longer h xs ys [] p a = tt
folded_longer h xs ys (f ∷ fs) p a = (record { begins = a.0.begins; agrees = a.0.agrees; listed = prefix_trans f.syncs xs ys a.0.listed p }, folded_longer h xs ys fs p a.1)

-- the desks that are back stay so
pub desks_kept : (ss tt' : List VaultSync) (away less : List Name) (fs : List Folded) → ((o : ℕ) → ¬ Among (name Desk o) away → ¬ Among (name Desk o) less)
    → ((o : ℕ) (mine : List VaultSync) → ¬ Among (name Desk o) away → Listed (name Desk o) mine ss → Listed (name Desk o) mine tt') → all_listed ss away fs → all_listed tt' less fs
desks_kept ss tt' away less [] fewer more l = tt
desks_kept ss tt' away less (f ∷ fs) fewer more l =
    (λ o names. let (home, mine) = l.0 o names in (fewer o home, more o f.syncs home mine), desks_kept ss tt' away less fs fewer more l.1)

-- a name comes back to the book
pub folds : (opened : Opened) (id : ℕ) (b : View) (other : ℕ) (w : View) → b.name ≡ book_name → ¬ (w.name ≡ name Vault 0) → Joins (Rule opened) id b other w (folding b w) spent
folds opened id b other w is no_vault s h at apart there0 =
    let k = with_book opened s.words s.views h id b at is in
    let views = s.views in
    let all = h.2 in
    let lent = h.3 in
    let l = folding b w in
    let there = before_join views id other l w apart there0 in
    let f = k.fits id b at in
    let g = k.fits other w there in
    let both = longer_of b.syncs w.syncs all f.listed g.listed in
    let not_here : ¬ (b.name ≡ w.name) = λ e. apart (sym (k.once id other b w at there (subst (λ (a : Name). IsOne a.role) (sym is) tt) e)) in
    let stays : (a : Name) → ¬ (a ≡ w.name) → Among a b.away → Among a l.away = λ a ne among. among_without w.name b.away a ne among in
    let others : (j : ℕ) (u : View) → j ≢ other → j ≢ id → get_elem? views j ≡ some u → Fits l all lent u = λ j u ne nd old.
    let x = k.fits j u old in record {
      opened = x.opened;
      begins = x.begins;
      told = x.told;
      listed = x.listed;
      told_listed = x.told_listed;
      agrees = x.agrees;
      complete = x.complete;
      away = (λ one. stays u.name (λ names. ne (k.once j other u w old there one names)) (x.away one));
      free = x.free;
      vault = (λ e. let v = x.vault e in record { named = v.named; has = v.has; within = v.within; numbered = v.numbered; agrees = v.agrees });
    } in
    let mine : Fits l all lent l = record {
      opened = (λ _. refl);
      begins = f.begins;
      told = prefix_none b.seen;
      listed = both.2;
      told_listed = prefix_none all;
      agrees = f.agrees;
      complete = let P : Name → Type 0 = λ a. Listed a l.syncs all in subst P (sym is) (never l.syncs all);
      away = (λ one. stays b.name not_here (f.away one));
      free = f.free;
      vault = (λ e. absurd (not_vault b is e));
    } in (
      id,
      l,
      all,
      lent,
      record {
        there = set_else (set views id l) other id spent (λ e. apart (sym e)) ∙ set_here views id l (at_within views id b at);
        is_book = is;
        from = k.from;
        legal = k.legal;
        fits = (λ j u e. join_fits l l spent all lent views id other others mine (spent_fits l all lent) j u (joined views id l other spent j u e));
        once = (λ i j v u p q. joined_once opened s.words views all lent id b k id b l at refl other spent (λ x. x) i j v u (joined views id l other spent i v p) (joined views id l other spent j u q));
        folded = (
          record { begins = g.begins; agrees = g.agrees; listed = both.1 },
          (record { begins = prefix_self b.seen; agrees = refl; listed = both.0 }, folded_longer b.seen b.syncs l.syncs b.folded both.0 k.folded),
        );
        desks = (
          λ o names. (subst (λ (a : Name). ¬ Among (name Desk o) (without a b.away)) (sym names) (gone (name Desk o) b.away), subst (λ (a : Name). Listed a w.syncs all) names g.complete),
          (λ o names. absurd (cc (ap (λ (a : Name). a.role) is, ap (λ (a : Name). a.role) names)), desks_kept all all b.away l.away b.folded (λ o none among. none (among_less w.name b.away (name Desk o) among)) (λ o ss none mine. mine) k.desks),
        );
        words_are = k.words_are;
        rising = k.rising;
        durable_within = k.durable_within;
        no_vault = (λ gone'. k.no_vault (λ among. gone' (stays (name Vault 0) (λ e. no_vault (sym e)) among)));
        lent_away = (λ a among. let x = k.lent_away a among in (x.0, stays a (λ e. g.free (subst (λ (n : Name). IsOne n.role) e x.0) (subst (λ (n : Name). Among n lent) e among)) x.1));
        home = (λ o none.
            ⊎_elim
            (λ (same : name Desk o ≡ w.name). listed_on (name Desk o) w.syncs l.syncs all both.1 both.2 (let P : Name → Type 0 = λ a. Listed a w.syncs all in subst P (sym same) g.complete))
            (λ (ne : ¬ (name Desk o ≡ w.name)). listed_on (name Desk o) b.syncs l.syncs all both.0 both.2 (k.home o (λ among. none (stays (name Desk o) ne among))))
            (is_or_not (name Desk o) w.name));
        backed = still_backed (session_in opened) b.seen b.syncs l.syncs both.0 k.backed;
        pool = claims_joined views id other b w l spent b.pool b.pool at apart there0 k.pool (omega arith);
      },
    )

-- the book's seat is another one
pub elsewhere : (opened : Opened) (words : List ℕ) (views : List View) (all : List VaultSync) (lent : List Name) (seat : ℕ) (book : View) (k : KeptAs opened words views seat book all lent) (id : ℕ) (v : View) → get_elem? views id ≡ some v → ¬ (v.name ≡ book_name) → seat ≢ id
elsewhere opened words views all lent seat book k id v at unlike e = unlike (ap (λ (y : View). y.name) (some-injective v book (sym at ∙ ap (get_elem? views) (sym e) ∙ k.there)) ∙ k.is_book)

-- a seat other than the book's is told of a note
pub hears : (opened : Opened) (id : ℕ) (v : View) (other : ℕ) (w : View) → ¬ (v.name ≡ book_name) → ¬ (w.name ≡ book_name) → v.told ≡ [] → Joins (Rule opened) id v other w (hearing v w) spent
hears opened id v other w unlike nor quiet s h at apart there0 =
    let k = h.4 in
    let views = s.views in
    let b = h.1 in
    let all = h.2 in
    let lent = h.3 in
    let l = hearing v w in
    let there = before_join views id other l w apart there0 in
    let f = k.fits id v at in
    let g = k.fits other w there in
    let both = longer_of v.seen w.seen b.seen f.begins g.begins in
    let mine : Fits b all lent l = record {
      opened = f.opened;
      begins = f.begins;
      told = g.begins;
      listed = f.listed;
      told_listed = g.listed;
      agrees = f.agrees;
      complete = f.complete;
      away = f.away;
      free = f.free;
      vault = (λ e. let x = f.vault e in record {
        named = x.named;
        has = x.has;
        within = x.within;
        numbered = x.numbered;
        agrees = (λ a among. agrees_on a v.seen (longer v.seen w.seen) b.seen both.0 both.2 (subst (λ (xs : List Entry). Agrees a xs b.seen) (ap (longer v.seen) quiet ∙ longer_nothing v.seen) (x.agrees a among)));
      });
    } in (
      h.0,
      b,
      all,
      lent,
      record {
        there = set_else (set views id l) other h.0 spent (elsewhere opened s.words views all lent h.0 b k other w there nor) ∙ set_else views id h.0 l (elsewhere opened s.words views all lent h.0 b k id v at unlike) ∙ k.there;
        is_book = k.is_book;
        from = k.from;
        legal = k.legal;
        fits = (λ j u e. join_fits b l spent all lent views id other (λ i x ne nd old. k.fits i x old) mine (spent_fits b all lent) j u (joined views id l other spent j u e));
        once = (λ i j x u p q. joined_once opened s.words views all lent h.0 b k id v l at refl other spent (λ x. x) i j x u (joined views id l other spent i x p) (joined views id l other spent j u q));
        folded = k.folded;
        desks = k.desks;
        words_are = k.words_are;
        rising = k.rising;
        durable_within = k.durable_within;
        no_vault = k.no_vault;
        lent_away = k.lent_away;
        home = k.home;
        backed = k.backed;
        pool = claims_joined views id other v w l spent b.pool b.pool at apart there0 k.pool (omega arith);
      },
    )
