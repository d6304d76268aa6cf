-- A seat that comes out of a badge.
use Rattle.std.proofs.lemmas.Bool.Decides.{nat_tests}
use Rattle.std.proofs.Common.{◌≡◌, ℕ, ◌<◌, ◌≤◌, Bool, true, false, cond, List, [], ◌∷◌, ◌++◌, length, refl, sym, ap, ◌∙◌, subst, arith, max}
use Rattle.std.specs.Prelude.{ltb}
use Rattle.atomic_table.specs.Seated.{TableId}
use Rattle.pass_entry.specs.declared.entry.Entry.{Entry}
use Rattle.pass_entry.proofs.Lists.{of_both}
use Rattle.pass_plain.specs.Sessions.{Session}
use Rattle.pass_book.specs.declared.view.VaultSync.{VaultSync}
use Rattle.pass_book.specs.declared.view.Opened.{Opened}
use Rattle.pass_book.specs.declared.view.Role.TheVariants.{Book, Desk, Line, Note}
use Rattle.pass_book.specs.declared.view.Name.{Name}
use Rattle.pass_book.specs.declared.view.View.{View}
use Rattle.pass_book.specs.Names.{name}
use Rattle.pass_book.specs.Views.{session_in, holding, plain, hearing, met, longer}
use Rattle.pass_book.specs.Tokens.{IsPast, IsSeat, IsNote, view_in, held_view}
use Rattle.pass_plain.specs.Legal.{IsLegal, MayFollow}
use Rattle.pass_plain.specs.Sound.{IsSound}
use Rattle.pass_plain.proofs.Appends.{legal-push}
use Rattle.pass_book.specs.Syncs.{IsRising}

-- the view that a badge had
pub view_of : (vs ws : List View) (v w : View) → vs ≡ ws → vs ≡ v ∷ [] → ws ≡ w ∷ [] → v ≡ w
view_of vs ws v w e p q = cc

pub unlike_of : (v w : View) → v ≡ w → ¬ (w.name ≡ name Book 0) → ¬ (v.name ≡ name Book 0)
unlike_of v w e n names = n (sym (ap (λ (x : View). x.name) e) ∙ names)

pub note_unlike : ¬ (name Note 0 ≡ name Book 0)
note_unlike e = absurd (cc (ap (λ (a : Name). a.role) e))

longest_if : {A : Type 0} (xs ys : List A) (t : Bool) → ltb (length xs) (length ys) ≡ t → length (cond t ys xs) ≡ max (length xs) (length ys)
longest_if xs ys true e = let l : length xs < length ys = grind (arith, nat_tests) in omega arith
longest_if xs ys false e = let l : length ys ≤ length xs = grind (arith, nat_tests) in omega arith

pub length-longer : {A : Type 0} (xs ys : List A) → length (longer xs ys) ≡ max (length xs) (length ys)
length-longer xs ys = longest_if xs ys (ltb (length xs) (length ys)) refl

pub desk_unlike : (n : ℕ) → ¬ (name Desk n ≡ name Book 0)
desk_unlike n e = absurd (cc (ap (λ (a : Name). a.role) e))

pub line_unlike : (n : ℕ) → ¬ (name Line n ≡ name Book 0)
line_unlike n e = absurd (cc (ap (λ (a : Name). a.role) e))

-- what holds of both holds of the longer
pub longer_has : {A : Type 0} (P : List A → Type 0) (xs ys : List A) → P xs → P ys → P (longer xs ys)
longer_has P xs ys p q = of_both P (ltb (length xs) (length ys)) ys xs q p

pub past_longer : (session : Session) (xs ys : List Entry) (ss us : List VaultSync) → IsPast session xs ss → IsPast session ys us → IsPast session (longer xs ys) (longer ss us)
unfolding IsPast
past_longer session xs ys ss us p q = (p.0, longer_has (λ h. IsLegal session h) xs ys p.1 q.1, longer_has IsRising ss us p.2 q.2)

pub past_sound : (session : Session) (h : List Entry) (ss : List VaultSync) → IsPast session h ss → IsSound session
unfolding IsPast
past_sound session h ss p = p.0

pub past_legal : (session : Session) (h : List Entry) (ss : List VaultSync) → IsPast session h ss → IsLegal session h
unfolding IsPast
past_legal session h ss p = p.1

pub past_rising : (session : Session) (h : List Entry) (ss : List VaultSync) → IsPast session h ss → IsRising ss
unfolding IsPast
past_rising session h ss p = p.2

pub past_begins : (session : Session) → IsSound session → IsPast session [] []
unfolding IsPast
past_begins session sound = (sound, (λ i e at. absurd cc), tt)

pub past_more : (session : Session) (h : List Entry) (e : Entry) (ss us : List VaultSync) → IsPast session h ss → MayFollow session h e → IsRising us → IsPast session (h ++ e ∷ []) us
unfolding IsPast
past_more session h e ss us p next rising = (p.0, legal-push session h e p.1 next, rising)

pub past_listed : (session : Session) (h : List Entry) (ss us : List VaultSync) → IsPast session h ss → IsRising us → IsPast session h us
unfolding IsPast
past_listed session h ss us p rising = (p.0, p.1, rising)

-- a badge with a quiet view is a seat
pub is_seat : (id table : TableId) (vs : List View) (x : View) → vs ≡ x ∷ [] → id ≡ table → 1 < table.words → x ≡ held_view x → ¬ (x.name ≡ name Book 0) → IsPast (session_in x.opened) x.seen x.syncs → IsSeat id table vs
is_seat id table vs x e same words held unlike past =
    let P : List View → Type 0 = λ us. IsSeat id table us in subst P (sym e) (record { one = refl; held = held; same = same; words = words; unlike = unlike; past = past })

pub is_held : (id table : TableId) (vs : List View) (a : Name) (o : Opened) (seen : List Entry) (ss : List VaultSync) (looks looked : ℕ) → vs ≡ holding a o seen ss looks looked ∷ [] → id ≡ table → 1 < table.words → ¬ (a ≡ name Book 0)
    → IsPast (session_in o) seen ss → IsSeat id table vs
is_held id table vs a o seen ss looks looked e same words unlike past = is_seat id table vs (holding a o seen ss looks looked) e same words refl unlike past

-- after a meeting it is one again
met_quiet : (v w : View) → v ≡ held_view v → w ≡ plain (name Note 0) w.opened w.seen w.syncs → met (hearing v w) ≡ held_view (met (hearing v w))
met_quiet v w p q = ap (λ (y : View). met (hearing y w)) p ∙ ap (λ (y : View). met (hearing (held_view v) y)) q

met_past : (v w : View) → IsPast (session_in v.opened) v.seen v.syncs → IsPast (session_in w.opened) w.seen w.syncs → session_in w.opened ≡ session_in v.opened
    → IsPast (session_in v.opened) (longer v.seen w.seen) (longer v.syncs w.syncs)
met_past v w p q same = past_longer (session_in v.opened) v.seen w.seen v.syncs w.syncs p (subst (λ (s : Session). IsPast s w.seen w.syncs) same q)

pub record IsMetSeat (id table : TableId) (v w : View) (vs : List View) : Type 0 where
  pub seat : IsSeat id table vs
  pub long : (view_in vs).seen ≡ longer v.seen w.seen
  pub past : IsPast (session_in (view_in vs).opened) (view_in vs).seen (view_in vs).syncs

pub met_seat : (id old table : TableId) (us ws : List View) (x : View) (vs : List View) → vs ≡ x ∷ [] → x ≡ met (hearing (view_in us) (view_in ws)) → id ≡ table → IsSeat old table us → IsNote ws
    → session_in (view_in ws).opened ≡ session_in (view_in us).opened → IsMetSeat id table (view_in us) (view_in ws) vs
met_seat id old table us ws x vs e is same seat note session =
    let v = view_in us in
    let w = view_in ws in
    let m = met (hearing v w) in
    let whole : vs ≡ m ∷ [] = e ∙ ap (λ (y : View). y ∷ []) is in
    let noted : w ≡ plain (name Note 0) w.opened w.seen w.syncs = ap view_in note.one in
    let past = met_past v w seat.past note.past session in
    record {
      seat = is_seat id table vs m whole same seat.words (met_quiet v w seat.held noted) seat.unlike past;
      long = ap (λ (ys : List View). (view_in ys).seen) whole;
      past = subst (λ (ys : List View). IsPast (session_in (view_in ys).opened) (view_in ys).seen (view_in ys).syncs) (sym whole) past;
    }

pub past_unlisted : (session : Session) (h : List Entry) (ss : List VaultSync) → IsPast session h ss → IsPast session h []
unfolding IsPast
past_unlisted session h ss p = (p.0, p.1, tt)

-- the list alone
pub past_list : (session : Session) (h : List Entry) (ss : List VaultSync) → IsPast session h ss → IsPast session [] ss
unfolding IsPast
past_list session h ss p = (p.0, (λ i e at. absurd cc), p.2)
