-- A seat whose view is cut in two keeps the rule: a name that leaves the book, an entry, a note, a claim.
use Rattle.std.proofs.Common.{◌≡◌, ◌⊎◌, ℕ, ◌<◌, ◌≤◌, ◌+◌, ◌-◌, true, false, true≢false, List, [], ◌∷◌, ◌++◌, length, set, refl, sym, ap, ◌∙◌, subst, inl, inr, ⊎_elim, arith, eq-eqb, length-append}
use Rattle.std.specs.Prelude.{filter}
use Rattle.std.proofs.lemmas.Bool.{false_from_ne_true}
use mathlib.Core.Option.{some}
use mathlib.Core.List.{IsPrefix}
use lib.ListN.{get_elem?}
use Rattle.atomic_table.specs.Table.{Splits}
use Rattle.atomic_table.proofs.Lists.{at_longer, set_here, set_again}
use Rattle.pass_entry.specs.declared.entry.Entry.{Entry}
use Rattle.pass_plain.specs.Legal.{MayFollow}
use Rattle.pass_plain.proofs.Appends.{legal-push}
use Rattle.pass_book.specs.declared.view.VaultSync.{VaultSync}
use Rattle.pass_book.specs.declared.view.Opened.{Opened}
use Rattle.pass_book.specs.declared.view.Role.{Role}
use Rattle.pass_book.specs.declared.view.Role.TheVariants.{Book, Desk, Line, Last, Vault, Claim, Note, Spent}
use Rattle.pass_book.specs.declared.view.Name.{Name}
use Rattle.pass_book.specs.declared.view.View.{View}
use Rattle.pass_book.specs.Names.{name, Among, IsOne, touches, Listed}
use Rattle.pass_book.specs.Syncs.{durable, Backs}
use Rattle.pass_book.specs.Views.{session_in, Fits, KeptAs, longer, leaving, left, writing, written, plain, noted, list_noted, claiming, claim_of}
use Rattle.pass_book.proofs.Prefixes.{prefix_self, prefix_none, prefix_more, prefix_whole}
use Rattle.pass_book.proofs.Affairs.{agrees_more}
use Rattle.pass_book.proofs.Backed.{backed_more, none_numbered}
use Rattle.pass_book.proofs.Lookups.{at_within, touched_one}
use Rattle.pass_book.proofs.Lists.{Came, came, changed, stood, whence, claims_split, claimed_at_most}
use Rattle.pass_book.proofs.Rules.{Rule, book_name, with_book, never, not_vault, none_concerned}

-- Names after a split

old_names : (opened : Opened) (words : List ℕ) (views : List View) (id : ℕ) (b : View) (all : List VaultSync) (lent : List Name) (seat : ℕ) (book : View) → KeptAs opened words views seat book all lent
    → get_elem? views id ≡ some b → (l r : View) → l.name ≡ b.name
    → (j : ℕ) (u : View) → Came views id l r j u → ((j ≡ length views) × (r ≡ u)) ⊎ ((v : View) × (get_elem? views j ≡ some v) × (v.name ≡ u.name))
old_names opened words views id b all lent seat book k at l r named j u (came e same) = inl (e, same)
old_names opened words views id b all lent seat book k at l r named j u (changed e same) = inr (b, (subst (λ n. get_elem? views n ≡ some b) (sym e) at), sym named ∙ ap (λ (v : View). v.name) same)
old_names opened words views id b all lent seat book k at l r named j u (stood ne old) = inr (u, old, refl)

pub split_once : (opened : Opened) (words : List ℕ) (views : List View) (id : ℕ) (b : View) (all : List VaultSync) (lent : List Name) (seat : ℕ) (book : View) (k : KeptAs opened words views seat book all lent)
    → get_elem? views id ≡ some b → (l r : View) → l.name ≡ b.name → (IsOne r.name.role → (j : ℕ) (v : View) → get_elem? views j ≡ some v → ¬ (r.name ≡ v.name))
    → (i j : ℕ) (v w : View) → get_elem? (set views id l ++ r ∷ []) i ≡ some v → get_elem? (set views id l ++ r ∷ []) j ≡ some w → IsOne v.name.role → v.name ≡ w.name → i ≡ j
split_once opened words views id b all lent seat book k at l r named fresh i j v w p q one names =
    let x0 = old_names opened words views id b all lent seat book k at l r named i v (whence views id l r i v p) in
    let y0 = old_names opened words views id b all lent seat book k at l r named j w (whence views id l r j w q) in
    ⊎_elim
    (λ (x : (i ≡ length views) × (r ≡ v)).
    ⊎_elim
    (λ (y : (j ≡ length views) × (r ≡ w)). x.0 ∙ sym y.0)
    (λ (y : (o : View) × (get_elem? views j ≡ some o) × (o.name ≡ w.name)).
    absurd (fresh (subst (λ (u : View). IsOne u.name.role) (sym x.1) one) j y.0 y.1 (ap (λ (u : View). u.name) x.1 ∙ names ∙ sym y.2)))
    y0)
    (λ (x : (o : View) × (get_elem? views i ≡ some o) × (o.name ≡ v.name)).
    ⊎_elim
    (λ (y : (j ≡ length views) × (r ≡ w)).
    absurd (fresh (subst (λ (u : View). IsOne u.name.role) (sym y.1) (subst (λ (a : Name). IsOne a.role) names one)) i x.0 x.1 (ap (λ (u : View). u.name) y.1 ∙ sym names ∙ sym x.2)))
    (λ (y : (o : View) × (get_elem? views j ≡ some o) × (o.name ≡ w.name)). k.once i j x.0 y.0 x.1 y.1 (subst (λ (a : Name). IsOne a.role) (sym x.2) one) (x.2 ∙ names ∙ sym y.2))
    y0)
    x0

-- a name that is not away is no view's
pub fresh_name : (opened : Opened) (words : List ℕ) (views : List View) (all : List VaultSync) (lent : List Name) (seat : ℕ) (book : View) (k : KeptAs opened words views seat book all lent) (r : View)
    → (IsOne r.name.role → ¬ Among r.name book.away) → IsOne r.name.role → (j : ℕ) (v : View) → get_elem? views j ≡ some v → ¬ (r.name ≡ v.name)
fresh_name opened words views all lent seat book k r home one j v there e =
    home one (subst (λ (a : Name). Among a book.away) (sym e) ((k.fits j v there).away (subst (λ (a : Name). IsOne a.role) e one)))

-- what all views fit after a split
pub split_fits : (b l r : View) (all : List VaultSync) (lent : List Name) (views : List View) (id : ℕ) → ((u : View) → Fits b all lent u → Fits l all lent u) → ((j : ℕ) (u : View) → get_elem? views j ≡ some u → Fits b all lent u)
    → Fits l all lent l → Fits l all lent r → (j : ℕ) (u : View) → Came views id l r j u → Fits l all lent u
split_fits b l r all lent views id keep old mine new j u (came e same) = subst (Fits l all lent) same new
split_fits b l r all lent views id keep old mine new j u (changed e same) = subst (Fits l all lent) same mine
split_fits b l r all lent views id keep old mine new j u (stood ne there) = keep u (old j u there)

-- the list that a name leaves the book with is complete
complete_as : (k : Role) (n : ℕ) (mine all : List VaultSync) → (k ≡ Vault → all ≡ []) → IsPrefix mine all → (k ≡ Desk → Listed (name Desk n) mine all) → Listed (name k n) mine all
complete_as Book n mine all v p d = never mine all
complete_as Desk n mine all v p d = d refl
complete_as Line n mine all v p d = never mine all
complete_as Last n mine all v p d = never mine all
complete_as Vault n mine all v p d = let same : mine ≡ all = prefix_whole mine all p (let e : length all ≡ 0 = ap length (v refl) in omega arith) in ap (filter (λ (s : VaultSync). true)) same
complete_as Claim n mine all v p d = never mine all
complete_as Note n mine all v p d = never mine all
complete_as Spent n mine all v p d = never mine all

none_among : (a : Name) (lent : List Name) → lent ≡ [] → ¬ Among a lent
none_among a lent e h = let P : List Name → Type 0 = λ l. Among a l in subst P e h

-- a name leaves the book
pub leaves : (opened : Opened) (o : Role) (n looks id : ℕ) (b : View) → b.name ≡ book_name → (o ≡ Vault → n ≡ 0) → ¬ Among (name o n) b.away → Splits (Rule opened) id b (leaving (name o n) b) (left (name o n) looks b)
leaves opened o n looks id b is vault home s h at =
    let a = name o n in
    let named : o ≡ Vault → a ≡ name Vault 0 = λ e i. name (e i) (vault e i) in
    let k = with_book opened s.words s.views h id b at is in
    let all = h.2 in
    let lent = h.3 in
    let f = k.fits id b at in
    let l = leaving a b in
    let r = left a looks b in
    let no : o ≡ Vault → (all ≡ []) × (lent ≡ []) = λ e. k.no_vault (subst (λ (m : Name). ¬ Among m b.away) (named e) home) in
    let mine : Fits l all lent l = record {
      opened = (λ _. refl);
      begins = prefix_self b.seen;
      told = prefix_none b.seen;
      listed = f.listed;
      told_listed = prefix_none all;
      agrees = refl;
      complete = f.complete;
      away = (λ one. inr (f.away one));
      free = f.free;
      vault = (λ e. absurd (not_vault b is e));
    } in
    let new : Fits l all lent r = record {
      opened = (λ _. refl);
      begins = prefix_self b.seen;
      told = prefix_none b.seen;
      listed = f.listed;
      told_listed = prefix_none all;
      agrees = refl;
      complete = complete_as o n b.syncs all (λ e. (no e).0) f.listed (λ e. k.home n (subst (λ (m : Name). ¬ Among m b.away) (λ i. name (e i) n) home));
      away = (λ one. inl refl);
      free = (λ one among. home (k.lent_away a among).1);
      vault = (λ e. record {
        named = named e;
        has = sym (no e).1;
        within = (let z : durable all ≡ 0 = ap durable (no e).0 in omega arith);
        numbered = none_numbered (session_in b.opened) b.seen all (no e).0;
        agrees = (λ m among. absurd (none_among m lent (no e).1 among));
      });
    } in (
      id,
      l,
      all,
      lent,
      record {
        there = at_longer (set s.views id l) (r ∷ []) id l (set_here s.views id l (at_within s.views id b at));
        is_book = is;
        from = k.from;
        legal = k.legal;
        fits = (λ j u e. split_fits b l r all lent s.views id
            (λ u g. record { opened = g.opened; begins = g.begins; told = g.told; listed = g.listed; told_listed = g.told_listed; agrees = g.agrees; complete = g.complete; away = (λ one. inr (g.away one)); free = g.free; vault = (λ e. let v = g.vault e in record { named = v.named; has = v.has; within = v.within; numbered = v.numbered; agrees = v.agrees }) })
            k.fits mine new j u (whence s.views id l r j u e));
        once = split_once opened s.words s.views id b all lent id b k at l r refl (fresh_name opened s.words s.views all lent id b k r (λ _. home));
        folded = tt;
        desks = tt;
        words_are = k.words_are;
        rising = k.rising;
        durable_within = k.durable_within;
        no_vault = (λ none. k.no_vault (λ among. none (inr among)));
        lent_away = (λ n among. let x = k.lent_away n among in (x.0, inr x.1));
        home = (λ o none. k.home o (λ among. none (inr among)));
        backed = k.backed;
        pool = claims_split s.views id b l r b.pool b.pool at k.pool (omega arith);
      },
    )

self_touched : (e : Entry) → touches (name Desk e.what) e ≡ true
self_touched e = eq-eqb e.what e.what refl

-- an entry is written, and its object's desk leaves the book
pub writes : (opened : Opened) (e : Entry) (id : ℕ) (b : View) → b.name ≡ book_name → ((a : Name) → Among a b.away → touches a e ≡ false) → MayFollow (session_in b.opened) b.seen e
    → Backs (session_in b.opened) b.seen (length b.seen) b.syncs e → 0 < b.claimed → Splits (Rule opened) id b (writing e b) (written e b)
writes opened e id b is apart may kept some_place s h at =
    let k = with_book opened s.words s.views h id b at is in
    let all = h.2 in
    let lent = h.3 in
    let f = k.fits id b at in
    let l = writing e b in
    let r = written e b in
    let seen = b.seen ++ e ∷ [] in
    let desk = name Desk e.what in
    let home : ¬ Among desk b.away = λ among. true≢false (sym (self_touched e) ∙ apart desk among) in
    let within : b.claimed ≤ b.pool = claimed_at_most s.views id b b.pool at k.pool in
    let mine : Fits l all lent l = record {
      opened = (λ _. refl);
      begins = prefix_self seen;
      told = prefix_none seen;
      listed = f.listed;
      told_listed = prefix_none all;
      agrees = refl;
      complete = f.complete;
      away = (λ one. inr (f.away one));
      free = f.free;
      vault = (λ v. absurd (not_vault b is v));
    } in
    let new : Fits l all lent r = record {
      opened = (λ _. refl);
      begins = prefix_self seen;
      told = prefix_none seen;
      listed = f.listed;
      told_listed = prefix_none all;
      agrees = refl;
      complete = k.home e.what home;
      away = (λ one. inl refl);
      free = (λ one among. home (k.lent_away desk among).1);
      vault = (λ v. absurd cc);
    } in
    let untouched : (a : Name) → (IsOne a.role → Among a b.away) → touches a e ≡ false = λ a away. false_from_ne_true (touches a e) (λ t. true≢false (sym t ∙ apart a (away (touched_one a e t)))) in (
      id,
      l,
      all,
      lent,
      record {
        there = at_longer (set s.views id l) (r ∷ []) id l (set_here s.views id l (at_within s.views id b at));
        is_book = is;
        from = k.from;
        legal = legal-push (session_in opened) b.seen e k.legal (subst (λ (o : Opened). MayFollow (session_in o) b.seen e) k.from may);
        fits = (λ j u p. split_fits b l r all lent s.views id
            (λ u g. record {
              opened = g.opened;
              begins = prefix_more u.seen b.seen (e ∷ []) g.begins;
              told = prefix_more u.told b.seen (e ∷ []) g.told;
              listed = g.listed;
              told_listed = g.told_listed;
              agrees = agrees_more u.name u.seen b.seen e g.agrees (untouched u.name g.away);
              complete = g.complete;
              away = (λ one. inr (g.away one));
              free = g.free;
              vault = (λ x. let v = g.vault x in record {
                named = v.named;
                has = v.has;
                within = v.within;
                numbered = v.numbered;
                agrees = (λ a among. agrees_more a (longer u.seen u.told) b.seen e (v.agrees a among) (untouched a (λ _. (k.lent_away a among).1)));
              });
            })
            k.fits mine new j u (whence s.views id l r j u p));
        once = split_once opened s.words s.views id b all lent id b k at l r refl (fresh_name opened s.words s.views all lent id b k r (λ _. home));
        folded = tt;
        desks = tt;
        words_are = k.words_are;
        rising = k.rising;
        durable_within = (let more = length-append b.seen (e ∷ []) in let old = k.durable_within in omega (arith, more, old));
        no_vault = (λ none. k.no_vault (λ among. none (inr among)));
        lent_away = (λ n among. let x = k.lent_away n among in (x.0, inr x.1));
        home = (λ o none. k.home o (λ among. none (inr among)));
        backed = backed_more (session_in opened) b.seen e b.syncs k.backed (subst (λ (o : Opened). Backs (session_in o) b.seen (length b.seen) b.syncs e) k.from kept);
        pool = claims_split s.views id b l r b.pool (b.pool - 1) at k.pool (omega arith);
      },
    )

-- a note of what a seat has seen, or of less
notes_of : (opened : Opened) (id : ℕ) (v : View) (xs : List Entry) → ((h : List Entry) → IsPrefix v.seen h → IsPrefix xs h) → ¬ (v.name.role ≡ Spent)
    → Splits (Rule opened) id v v (plain (name Note 0) v.opened xs v.syncs)
notes_of opened id v xs less live s h at =
    let k = h.4 in
    let f = k.fits id v at in
    let b = h.1 in
    let all = h.2 in
    let lent = h.3 in
    let r = plain (name Note 0) v.opened xs v.syncs in
    let new : Fits b all lent r = record {
      opened = (λ _. f.opened live);
      begins = less b.seen f.begins;
      told = prefix_none b.seen;
      listed = f.listed;
      told_listed = prefix_none all;
      agrees = nothing_touched r.seen b.seen;
      complete = never v.syncs all;
      away = (λ one. absurd one);
      free = (λ one. absurd one);
      vault = (λ e. absurd cc);
    } in (
      h.0,
      b,
      all,
      lent,
      record {
        there = at_longer (set s.views id v) (r ∷ []) h.0 b (ap (λ (l : List View). get_elem? l h.0) (set_again s.views id v at) ∙ k.there);
        is_book = k.is_book;
        from = k.from;
        legal = k.legal;
        fits = (λ j u p. note_fits b v r all lent s.views id k.fits (k.fits id v at) new j u (whence s.views id v r j u p));
        once = split_once opened s.words s.views id v all lent h.0 b k at v r refl (λ one. absurd one);
        folded = k.folded;
        desks = k.desks;
        words_are = k.words_are;
        rising = k.rising;
        durable_within = k.durable_within;
        no_vault = k.no_vault;
        lent_away = k.lent_away;
        home = k.home;
        backed = k.backed;
        pool = claims_split s.views id v v r b.pool b.pool at k.pool (omega arith);
      },
    )
  where
    nothing_touched : (xs ys : List Entry) → filter (λ (e : Entry). false) xs ≡ filter (λ (e : Entry). false) ys
    nothing_touched xs ys = none_concerned xs ∙ sym (none_concerned ys)

    note_fits : (b v r : View) (all : List VaultSync) (lent : List Name) (views : List View) (id : ℕ) → ((j : ℕ) (u : View) → get_elem? views j ≡ some u → Fits b all lent u) → Fits b all lent v → Fits b all lent r → (j : ℕ) (u : View) → Came views id v r j u → Fits b all lent u
    note_fits b v r all lent views id old mine new j u (came e same) = subst (Fits b all lent) same new
    note_fits b v r all lent views id old mine new j u (changed e same) = subst (Fits b all lent) same mine
    note_fits b v r all lent views id old mine new j u (stood ne there) = old j u there

pub notes : (opened : Opened) (id : ℕ) (v : View) → ¬ (v.name.role ≡ Spent) → Splits (Rule opened) id v v (noted v)
notes opened id v live = notes_of opened id v v.seen (λ h p. p) live

-- a note of the list alone
pub notes_list : (opened : Opened) (id : ℕ) (v : View) → ¬ (v.name.role ≡ Spent) → Splits (Rule opened) id v v (list_noted v)
notes_list opened id v live = notes_of opened id v [] (λ h p. prefix_none h) live

-- places are claimed, or those that came back go on
pub claims_more : (opened : Opened) (n id : ℕ) (b : View) → b.name ≡ book_name → Splits (Rule opened) id b (claiming n b) (claim_of n b)
claims_more opened n id b is s h at =
    let k = with_book opened s.words s.views h id b at is in
    let all = h.2 in
    let lent = h.3 in
    let f = k.fits id b at in
    let l = claiming n b in
    let r = claim_of n b in
    let keep : (u : View) → Fits b all lent u → Fits l all lent u = λ u g. record { opened = g.opened; begins = g.begins; told = g.told; listed = g.listed; told_listed = g.told_listed; agrees = g.agrees; complete = g.complete; away = g.away; free = g.free; vault = (λ e. let v = g.vault e in record { named = v.named; has = v.has; within = v.within; numbered = v.numbered; agrees = v.agrees }) } in
    let mine : Fits l all lent l = record { opened = (λ _. refl); begins = f.begins; told = f.told; listed = f.listed; told_listed = f.told_listed; agrees = f.agrees; complete = f.complete; away = f.away; free = f.free; vault = (λ e. absurd (not_vault b is e)) } in
    let new : Fits l all lent r = record {
      opened = (λ _. refl);
      begins = prefix_none b.seen;
      told = prefix_none b.seen;
      listed = prefix_none all;
      told_listed = prefix_none all;
      agrees = sym (none_concerned b.seen);
      complete = never [] all;
      away = (λ one. absurd one);
      free = (λ one. absurd one);
      vault = (λ e. absurd cc);
    } in (
      id,
      l,
      all,
      lent,
      record {
        there = at_longer (set s.views id l) (r ∷ []) id l (set_here s.views id l (at_within s.views id b at));
        is_book = is;
        from = k.from;
        legal = k.legal;
        fits = (λ j u p. split_fits b l r all lent s.views id keep k.fits mine new j u (whence s.views id l r j u p));
        once = split_once opened s.words s.views id b all lent id b k at l r refl (λ one. absurd one);
        folded = k.folded;
        desks = k.desks;
        words_are = k.words_are;
        rising = k.rising;
        durable_within = k.durable_within;
        no_vault = k.no_vault;
        lent_away = k.lent_away;
        home = k.home;
        backed = k.backed;
        pool = claims_split s.views id b l r b.pool (b.pool + n) at k.pool (omega arith);
      },
    )
