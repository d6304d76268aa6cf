-- What an entry needs, from what came back to the book.
use Rattle.std.proofs.Common.{◌≡◌, ◌⊎◌, ℕ, false, List, ◌∷◌, length, ap, subst, inl, inr, ⊎_elim}
use Rattle.std.proofs.lemmas.Bool.{false_from_ne_true}
use Rattle.pass_entry.specs.declared.entry.Entry.{Entry}
use Rattle.pass_entry.specs.declared.entry.Act.TheVariants as act
use Rattle.pass_plain.specs.Sessions.{Session}
use Rattle.pass_plain.specs.Legal.{IsLegal, ObjectAllows, CallerAllows, MayFollow}
use Rattle.pass_plain.proofs.TwoPrefixes.{two_prefix_law}
use Rattle.pass_book.specs.declared.view.VaultSync.{VaultSync}
use Rattle.pass_book.specs.Added.{AddLaw}
use Rattle.pass_plain.proofs.RecordedBy.{record_law}
use Rattle.pass_book.specs.declared.view.Role.TheVariants.{Desk, Line, Last}
use Rattle.pass_book.specs.declared.view.Name.{Name}
use Rattle.pass_book.specs.declared.view.View.{View}
use Rattle.pass_book.specs.Names.{name, Among, without, touches, Agrees}
use Rattle.pass_book.specs.Syncs.{Backs}
use Rattle.pass_book.specs.Views.{Part, part_of}
use Rattle.pass_book.proofs.Backed.{backs_whole}
use Rattle.pass_book.proofs.Lookups.{gone, among_less, touched_name}

-- once the desk of its object, the line of its caller and where it ends its process that one's last are back, an entry is the affair of no name that is away
pub free_to_write : (base : List Name) (c : Name) (e : Entry) → (e.act ≡ act.Finish → ¬ Among (name Last e.what) base) → (a : Name) → Among a (without (name Line e.who) (without (name Desk e.what) (without c base))) → touches a e ≡ false
free_to_write base c e last a h =
    let d = name Desk e.what in
    let l = name Line e.who in
    let bs = without c base in
    false_from_ne_true (touches a e) (λ t.
    ⊎_elim
    (λ (x : a ≡ d). gone d bs (subst (λ (n : Name). Among n (without d bs)) x (among_less l (without d bs) a h)))
    (λ (y : (a ≡ l) ⊎ ((e.act ≡ act.Finish) × (a ≡ name Last e.what))).
    ⊎_elim
    (λ (x : a ≡ l). gone l (without d bs) (subst (λ (n : Name). Among n (without l (without d bs))) x h))
    (λ (x : (e.act ≡ act.Finish) × (a ≡ name Last e.what)). last x.0 (subst (λ (n : Name). Among n base) x.1 (among_less c base a (among_less d bs a (among_less l (without d bs) a h)))))
    y)
    (touched_name a e t))

-- then the line may leave again
pub free_to_leave : (away : List Name) (o p : ℕ) → ¬ Among (name Line p) (name Desk o ∷ without (name Line p) away)
free_to_leave away o p (inl e) = absurd (cc (ap (λ (a : Name). a.role) e))
free_to_leave away o p (inr h) = gone (name Line p) away h

pub may_write : (session : Session) (h : List Entry) (ss : List VaultSync) (d l : View) (e : Entry) → IsLegal session h
    → Part h ss (part_of d) → Part h ss (part_of l)
    → d.name ≡ name Desk e.what → l.name ≡ name Line e.who → ObjectAllows session d.seen e → CallerAllows l.seen e → MayFollow session h e
may_write session h ss d l e legal dp lp dn ln object caller =
    let P : Name → Type 0 = λ a. Agrees a d.seen h in
    let Q : Name → Type 0 = λ a. Agrees a l.seen h in
    two_prefix_law session h d.seen l.seen e legal dp.begins (subst P dn dp.agrees) lp.begins (subst Q ln lp.agrees) object caller

pub kept_write : (session : Session) (h : List Entry) (ss : List VaultSync) (l : View) (e : Entry) → Part h ss (part_of l)
    → l.name ≡ name Line e.who → Backs session l.seen (length l.seen) l.syncs e → Backs session h (length h) ss e
kept_write session h ss l e p named b =
    let Q : Name → Type 0 = λ a. Agrees a l.seen h in backs_whole session l.seen h l.syncs ss e p.begins (subst Q named p.agrees) p.listed b

pub add_law : AddLaw
add_law session h desk line e legal d on l by object caller =
    let next = two_prefix_law session h desk line e legal d on l by object caller in (next, record_law session h desk line e legal next d on l by)
