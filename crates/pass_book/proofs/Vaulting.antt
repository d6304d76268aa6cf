-- What the vault does keeps the rule: it notes a sync, takes a desk and gives it back.
use Rattle.std.proofs.Common.{◌≡◌, ◌≢◌, ℕ, ◌≤◌, true, List, [], ◌∷◌, ◌++◌, length, set, max, refl, sym, ap, ◌∙◌, subst, ⊎_elim, arith}
use Rattle.std.specs.Prelude.{slice_index, Some}
use Rattle.std.proofs.lemmas.Bool.{false_from_ne_true}
use mathlib.Core.Option.{some}
use lib.ListN.{get_elem?}
use Rattle.atomic_table.specs.Table.{Me, keeps, Allows, Splits, Joins}
use Rattle.atomic_table.proofs.Lists.{at_set, at_longer, set_else}
use Rattle.pass_entry.specs.declared.entry.Entry.{Entry}
use Rattle.pass_book.specs.declared.view.VaultSync.{VaultSync}
use Rattle.pass_book.specs.declared.view.FileMark.{FileMark}
use Rattle.pass_book.specs.declared.view.Opened.{Opened}
use Rattle.pass_book.specs.declared.view.Role.{Role}
use Rattle.pass_book.specs.declared.view.Role.TheVariants.{Desk, Vault, Spent}
use Rattle.pass_book.specs.declared.view.Name.{Name}
use Rattle.pass_book.specs.declared.view.View.{View}
use Rattle.pass_book.specs.Names.{name, Among, without, IsOne, Agrees, concerns}
use Rattle.pass_book.specs.Numbers.{IsFileNumber}
use Rattle.pass_book.specs.Syncs.{durable, called_from}
use Rattle.pass_book.specs.Views.{session_in, Fits, KeptAs, Kept, longer, spent, lending, returning, returned, syncing, Synced}
use Rattle.pass_book.proofs.Prefixes.{prefix_self, prefix_none, prefix_more, prefix_length}
use Rattle.pass_book.proofs.Affairs.{listed_more, agrees_on}
use Rattle.pass_book.proofs.Backed.{durable_last, rising_more, numbered_more}
use Rattle.pass_book.proofs.Lookups.{gone, among_less, concerned}
use Rattle.pass_book.proofs.Lists.{Came, came, changed, stood, whence, joined, before_join, claims_changed, claims_split, claims_joined, longer_of}
use Rattle.pass_book.proofs.Rules.{Rule, book_name, nowhere, whole_list, longer_nothing}
use Rattle.pass_book.proofs.Splitting.{split_once}
use Rattle.pass_book.proofs.Joining.{joined_once, join_fits, spent_fits, elsewhere, desks_kept}
use Rattle.pass_book.proofs.Loading.{set_once}

-- the rule, with the vault's view in place of the list and of the desks that it has
with_vault : (opened : Opened) (words : List ℕ) (views : List View) (h : Kept opened words views) (id : ℕ) (v : View) → get_elem? views id ≡ some v → v.name ≡ name Vault 0 → KeptAs opened words views h.0 h.1 v.syncs v.away
with_vault opened words views h id v at is =
    let f = h.4.fits id v at in
    let whole : v.syncs ≡ h.2 = whole_list v.name v.syncs h.2 is f.complete in
    let has : v.away ≡ h.3 = (f.vault (ap (λ (a : Name). a.role) is)).has in
    let P : List VaultSync → Type 0 = λ ss. KeptAs opened words views h.0 h.1 ss h.3 in
    let Q : List Name → Type 0 = λ ns. KeptAs opened words views h.0 h.1 v.syncs ns in
    subst Q (sym has) (subst P (sym whole) h.4)

vault_one : (a : Name) → a ≡ name Vault 0 → IsOne a.role
vault_one a is = let P : Name → Type 0 = λ b. IsOne b.role in subst P (sym is) tt

pub vault_unlike : (v : View) → v.name ≡ name Vault 0 → ¬ (v.name ≡ book_name)
vault_unlike v is e = absurd (cc (ap (λ (a : Name). a.role) (sym is ∙ e)))

risen_words : (words : List ℕ) (d n : ℕ) → words ≡ 0 ∷ d ∷ [] → d ≤ n → set words 1 (max (slice_index words 1) n) ≡ 0 ∷ n ∷ []
risen_words words d n e le =
    let P : List ℕ → Type 0 = λ w. set w 1 (max (slice_index w 1) n) ≡ 0 ∷ n ∷ [] in
    let m : max d n ≡ n = omega arith in subst P (sym e) (ap (λ (x : ℕ). 0 ∷ x ∷ []) m)

-- the vault notes a sync: one of a file, only while it has the file's desk
pub syncs : (opened : Opened) (slots id : ℕ) (me : Me ℕ View) (y : VaultSync) → me.0.name ≡ name Vault 0 → called_from 0 me.0.syncs ≤ y.calls → durable me.0.syncs ≤ y.entries → y.entries ≤ length me.0.seen
    → ((f : FileMark) → y.file ≡ Some f → Among (name Desk f.pnode) me.0.away × IsFileNumber (session_in me.0.opened) me.0.seen f.pnode f.number) → Allows (Rule opened) slots id me 1 (λ n. max n y.entries) (Synced y nowhere me)
syncs opened slots id me y is calls entries within has s h len at bound =
    let v = me.0 in
    let k = with_vault opened s.words s.views h id v at is in
    let b = h.1 in
    let all = v.syncs ++ y ∷ [] in
    let lent = v.away in
    let l = syncing y v in
    let f = k.fits id v at in
    let x = f.vault (ap (λ (a : Name). a.role) is) in
    let last : durable all ≡ y.entries = durable_last v.syncs y in
    let away : Among (name Vault 0) b.away = subst (λ (a : Name). Among a b.away) is (f.away (vault_one v.name is)) in
    let of_desk : (a : Name) → concerns a y ≡ true → ¬ (a.role ≡ Vault) → Among a lent = λ a t nv. ⊎_elim (λ (e : a.role ≡ Vault). absurd (nv e)) (λ (e : (g : FileMark) × (y.file ≡ Some g) × (a ≡ name Desk g.pnode)). subst (λ (n : Name). Among n lent) (sym e.2) (has e.0 e.1).0) (concerned a y t) in
    let live : ¬ (v.name.role ≡ Spent) = λ e. absurd (cc (ap (λ (n : Name). n.role) is, e)) in
    let marked : (g : FileMark) → y.file ≡ Some g → IsFileNumber (session_in b.opened) v.seen g.pnode g.number = λ g e. subst (λ (o : Opened). IsFileNumber (session_in o) v.seen g.pnode g.number) (f.opened live) (has g e).1 in
    let mine : Fits b all lent l = record {
      opened = f.opened;
      begins = f.begins;
      told = f.told;
      listed = prefix_self all;
      told_listed = prefix_more v.told_syncs v.syncs (y ∷ []) f.told_listed;
      agrees = f.agrees;
      complete = refl;
      away = f.away;
      free = f.free;
      vault = (λ e. record { named = x.named; has = x.has; within = subst (λ n. n ≤ length v.seen) (sym last) within; numbered = numbered_more (session_in b.opened) v.seen v.syncs y x.numbered marked; agrees = x.agrees });
    } in
    let others : (j : ℕ) (u : View) → j ≢ id → get_elem? s.views j ≡ some u → Fits b all lent u = λ j u ne old.
    let g = k.fits j u old in
    let no : ¬ (u.name.role ≡ Vault) = λ e. ne (k.once j id u v old at (vault_one u.name (g.vault e).named) ((g.vault e).named ∙ sym is)) in record {
      opened = g.opened;
      begins = g.begins;
      told = g.told;
      listed = prefix_more u.syncs v.syncs (y ∷ []) g.listed;
      told_listed = prefix_more u.told_syncs v.syncs (y ∷ []) g.told_listed;
      agrees = g.agrees;
      complete = listed_more u.name u.syncs v.syncs y g.complete (false_from_ne_true (concerns u.name y) (λ t. let a = of_desk u.name t no in g.free (k.lent_away u.name a).0 a));
      away = g.away;
      free = g.free;
      vault = (λ e. absurd (no e));
    } in (
      l,
      keeps,
      tt,
      (
        h.0,
        b,
        all,
        lent,
        record {
          there = set_else s.views id h.0 l (elsewhere opened s.words s.views v.syncs lent h.0 b k id v at (vault_unlike v is)) ∙ k.there;
          is_book = k.is_book;
          from = k.from;
          legal = k.legal;
          fits = (λ j u e. ⊎_elim (λ (t : (j ≡ id) × (l ≡ u)). subst (Fits b all lent) t.1 mine) (λ (t : (j ≢ id) × (get_elem? s.views j ≡ some u)). others j u t.0 t.1) (at_set s.views id j l u e));
          once = set_once opened s.words s.views v.syncs lent h.0 b k id v l at refl;
          folded = k.folded;
          desks = desks_kept v.syncs all b.away b.away b.folded (λ o none. none) (λ o ss none mine. listed_more (name Desk o) ss v.syncs y mine (false_from_ne_true (concerns (name Desk o) y) (λ t. none (k.lent_away (name Desk o) (of_desk (name Desk o) t (λ e. absurd cc))).1))) k.desks;
          words_are = risen_words s.words (durable v.syncs) y.entries k.words_are entries ∙ ap (λ (n : ℕ). 0 ∷ n ∷ []) (sym last);
          rising = rising_more v.syncs y k.rising calls entries;
          durable_within = (let short = prefix_length v.seen b.seen f.begins in omega (arith, last, within, short));
          no_vault = (λ none. absurd (none away));
          lent_away = k.lent_away;
          home = (λ o none. listed_more (name Desk o) b.syncs v.syncs y (k.home o none) (false_from_ne_true (concerns (name Desk o) y) (λ t. none (k.lent_away (name Desk o) (of_desk (name Desk o) t (λ e. absurd cc))).1)));
          backed = k.backed;
          pool = claims_changed s.views id v l b.pool b.pool at k.pool (omega arith);
        },
      ),
      refl,
    )

-- the same, where the step has a name of its own for the number of entries
pub syncs_at : (opened : Opened) (slots id : ℕ) (me : Me ℕ View) (y : VaultSync) (n : ℕ) → y.entries ≡ n → me.0.name ≡ name Vault 0 → called_from 0 me.0.syncs ≤ y.calls → durable me.0.syncs ≤ n → n ≤ length me.0.seen
    → ((f : FileMark) → y.file ≡ Some f → Among (name Desk f.pnode) me.0.away × IsFileNumber (session_in me.0.opened) me.0.seen f.pnode f.number) → Allows (Rule opened) slots id me 1 (λ m. max m n) (Synced y nowhere me)
syncs_at opened slots id me y n same is calls entries within has =
    let P : ℕ → Type 0 = λ k. Allows (Rule opened) slots id me 1 (λ m. max m k) (Synced y nowhere me) in
    subst P same (syncs opened slots id me y is calls (subst (λ k. durable me.0.syncs ≤ k) (sym same) entries) (subst (λ k. k ≤ length me.0.seen) (sym same) within) has)

-- a desk goes to the vault
pub lends : (opened : Opened) (id : ℕ) (v : View) (other : ℕ) (w : View) → v.name ≡ name Vault 0 → w.name.role ≡ Desk → v.told ≡ [] → Joins (Rule opened) id v other w (lending v w) spent
lends opened id v other w is desk quiet s h at apart there0 =
    let k = with_vault opened s.words s.views h id v at is in
    let views = s.views in
    let b = h.1 in
    let all = v.syncs in
    let lent = w.name ∷ v.away in
    let l = lending v w in
    let there = before_join views id other l w apart there0 in
    let f = k.fits id v at in
    let g = k.fits other w there in
    let x = f.vault (ap (λ (a : Name). a.role) is) in
    let one : IsOne w.name.role = let P : Role → Type 0 = λ n. IsOne n in subst P (sym desk) tt in
    let away : Among (name Vault 0) b.away = subst (λ (a : Name). Among a b.away) is (f.away (vault_one v.name is)) in
    let both = longer_of v.seen w.seen b.seen f.begins g.begins in
    let unlike : (j : ℕ) (u : View) → j ≢ other → get_elem? views j ≡ some u → IsOne u.name.role → ¬ (w.name ≡ u.name) = λ j u ne old o e. ne (k.once j other u w old there o (sym e)) in
    let freed : (j : ℕ) (u : View) → j ≢ other → get_elem? views j ≡ some u → IsOne u.name.role → ¬ Among u.name lent = λ j u ne old o among.
    ⊎_elim (λ (e : w.name ≡ u.name). unlike j u ne old o e) (λ (e : Among u.name v.away). (k.fits j u old).free o e) among in
    let mine : Fits b all lent l = record {
      opened = f.opened;
      begins = f.begins;
      told = g.begins;
      listed = f.listed;
      told_listed = g.listed;
      agrees = f.agrees;
      complete = f.complete;
      away = f.away;
      free = freed id v (λ e. apart (sym e)) at;
      vault = (λ e. record {
        named = x.named;
        has = refl;
        within = x.within;
        numbered = x.numbered;
        agrees = (λ a among.
            ⊎_elim
            (λ (same : w.name ≡ a). agrees_on a w.seen (longer v.seen w.seen) b.seen both.1 both.2 (let P : Name → Type 0 = λ n. Agrees n w.seen b.seen in subst P same g.agrees))
            (λ (old : Among a v.away). agrees_on a v.seen (longer v.seen w.seen) b.seen both.0 both.2 (subst (λ (xs : List Entry). Agrees a xs b.seen) (ap (longer v.seen) quiet ∙ longer_nothing v.seen) (x.agrees a old)))
            among);
      });
    } in
    let others : (j : ℕ) (u : View) → j ≢ other → j ≢ id → get_elem? views j ≡ some u → Fits b all lent u = λ j u ne nd old.
    let y = k.fits j u old in
    let no : ¬ (u.name.role ≡ Vault) = λ e. nd (k.once j id u v old at (vault_one u.name (y.vault e).named) ((y.vault e).named ∙ sym is)) in record {
      opened = y.opened;
      begins = y.begins;
      told = y.told;
      listed = y.listed;
      told_listed = y.told_listed;
      agrees = y.agrees;
      complete = y.complete;
      away = y.away;
      free = freed j u ne old;
      vault = (λ e. absurd (no e));
    } in (
      h.0,
      b,
      all,
      lent,
      record {
        there = set_else (set views id l) other h.0 spent (elsewhere opened s.words views v.syncs v.away h.0 b k other w there (λ e. absurd (cc (ap (λ (a : Name). a.role) e, desk)))) ∙ set_else views id h.0 l (elsewhere opened s.words views v.syncs v.away h.0 b k id v at (vault_unlike v is)) ∙ k.there;
        is_book = k.is_book;
        from = k.from;
        legal = k.legal;
        fits = (λ j u e. join_fits b l spent all lent views id other others mine (spent_fits b all lent) j u (joined views id l other spent j u e));
        once = (λ i j y u p q. joined_once opened s.words views v.syncs v.away h.0 b k id v l at refl other spent (λ z. z) i j y u (joined views id l other spent i y p) (joined views id l other spent j u q));
        folded = k.folded;
        desks = k.desks;
        words_are = k.words_are;
        rising = k.rising;
        durable_within = k.durable_within;
        no_vault = (λ none. absurd (none away));
        lent_away = (λ a among. ⊎_elim (λ (e : w.name ≡ a). let P : Name → Type 0 = λ n. IsOne n.role × Among n b.away in subst P e (one, g.away one)) (λ (e : Among a v.away). k.lent_away a e) among);
        home = k.home;
        backed = k.backed;
        pool = claims_joined views id other v w l spent b.pool b.pool at apart there0 k.pool (omega arith);
      },
    )

-- and leaves it again, with the vault's history and list
pub returns : (opened : Opened) (a : Name) (id : ℕ) (v : View) → v.name ≡ name Vault 0 → a.role ≡ Desk → Among a v.away → v.told ≡ [] → Splits (Rule opened) id v (returning a v) (returned a v)
returns opened a id v is desk has quiet s h at =
    let k = with_vault opened s.words s.views h id v at is in
    let views = s.views in
    let b = h.1 in
    let all = v.syncs in
    let lent = without a v.away in
    let l = returning a v in
    let r = returned a v in
    let f = k.fits id v at in
    let x = f.vault (ap (λ (n : Name). n.role) is) in
    let away : Among (name Vault 0) b.away = subst (λ (n : Name). Among n b.away) is (f.away (vault_one v.name is)) in
    let freed : (n : Name) → ¬ Among n v.away → ¬ Among n lent = λ n none among. none (among_less a v.away n among) in
    let live : ¬ (v.name.role ≡ Spent) = λ e. absurd (cc (ap (λ (n : Name). n.role) is, e)) in
    let mine : Fits b all lent l = record {
      opened = f.opened;
      begins = f.begins;
      told = f.told;
      listed = f.listed;
      told_listed = f.told_listed;
      agrees = f.agrees;
      complete = f.complete;
      away = f.away;
      free = (λ one. freed v.name (f.free one));
      vault = (λ e. record { named = x.named; has = refl; within = x.within; numbered = x.numbered; agrees = (λ n among. x.agrees n (among_less a v.away n among)) });
    } in
    let new : Fits b all lent r = record {
      opened = (λ _. f.opened live);
      begins = f.begins;
      told = prefix_none b.seen;
      listed = prefix_self all;
      told_listed = prefix_none all;
      agrees = subst (λ (xs : List Entry). Agrees a xs b.seen) (ap (longer v.seen) quiet ∙ longer_nothing v.seen) (x.agrees a has);
      complete = refl;
      away = (λ one. (k.lent_away a has).1);
      free = (λ one among. gone a v.away among);
      vault = (λ e. absurd (cc (e, desk)));
    } in
    let others : (j : ℕ) (u : View) → j ≢ id → get_elem? views j ≡ some u → Fits b all lent u = λ j u nd old.
    let y = k.fits j u old in
    let no : ¬ (u.name.role ≡ Vault) = λ e. nd (k.once j id u v old at (vault_one u.name (y.vault e).named) ((y.vault e).named ∙ sym is)) in record {
      opened = y.opened;
      begins = y.begins;
      told = y.told;
      listed = y.listed;
      told_listed = y.told_listed;
      agrees = y.agrees;
      complete = y.complete;
      away = y.away;
      free = (λ one. freed u.name (y.free one));
      vault = (λ e. absurd (no e));
    } in (
      h.0,
      b,
      all,
      lent,
      record {
        there = at_longer (set views id l) (r ∷ []) h.0 b (set_else views id h.0 l (elsewhere opened s.words views v.syncs v.away h.0 b k id v at (vault_unlike v is)) ∙ k.there);
        is_book = k.is_book;
        from = k.from;
        legal = k.legal;
        fits = (λ j u e. return_fits b l r all lent views id others mine new j u (whence views id l r j u e));
        once = split_once opened s.words views id v v.syncs v.away h.0 b k at l r refl
            (λ one j u old e. (k.fits j u old).free (subst (λ (n : Name). IsOne n.role) e one) (subst (λ (n : Name). Among n v.away) e has));
        folded = k.folded;
        desks = k.desks;
        words_are = k.words_are;
        rising = k.rising;
        durable_within = k.durable_within;
        no_vault = (λ none. absurd (none away));
        lent_away = (λ n among. k.lent_away n (among_less a v.away n among));
        home = k.home;
        backed = k.backed;
        pool = claims_split views id v l r b.pool b.pool at k.pool (omega arith);
      },
    )
  where
    return_fits : (b l r : View) (all : List VaultSync) (lent : List Name) (views : List View) (id : ℕ) → ((j : ℕ) (u : View) → j ≢ id → get_elem? views j ≡ some u → Fits b all lent u) → Fits b all lent l → Fits b all lent r → (j : ℕ) (u : View) → Came views id l r j u → Fits b all lent u
    return_fits b l r all lent views id old mine new j u (came e same) = subst (Fits b all lent) same new
    return_fits b l r all lent views id old mine new j u (changed e same) = subst (Fits b all lent) same mine
    return_fits b l r all lent views id old mine new j u (stood ne there) = old j u ne there
