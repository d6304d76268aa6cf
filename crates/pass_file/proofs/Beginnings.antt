-- A file before any entry on it.
use Rattle.std.proofs.Common.{◌≡◌, ℕ, suc, ◌≤◌, ◌^◌, List, [], ◌∷◌, length, refl, ap, sym, ◌∙◌, subst, arith, Bool, true, false, ◌==◌, ◌||◌}
use Rattle.std.specs.Prelude.{Option, Some, None, slice_get, find, is_some, if◌then◌else◌}
use Rattle.std.specs.Option.{option_map_or}
use Rattle.pass_entry.specs.declared.objects.Node.{Node}
use Rattle.pass_plain.specs.Lawful.{AgreeOn}
use Rattle.pass_plain.specs.Legal.{IsLegal}
use Rattle.pass_plain.specs.Lineages.{Lineage}
use Rattle.pass_plain.specs.Recording.{block_count, flags}
use Rattle.pass_plain.specs.Sessions.{Session, opened_file, opened_app, is_opened, opening_version}
use Rattle.pass_plain.specs.Sound.{IsSound, IsSoundFile}
use Rattle.pass_plain.specs.declared.start.StartFile.{StartFile}
use Rattle.pass_plain.proofs.Lists.{same_numbers}
use Rattle.pass_version.specs.States.{IsStateAfter}
use Rattle.pass_version.proofs.OneObject.{opening_law}
use Rattle.pass_book.specs.Numbers.{IsFileNumber}
use Rattle.pass_book.specs.Tokens.{BookId, DeskState}
use Rattle.pass_file.specs.Desks.{IsFile, IsFileAfter}
use Rattle.pass_file.specs.FileViews.{FileView, is_among, opened, clean_file}
use Rattle.pass_file.proofs.Dirtier.{file_seen}
use Rattle.pass_file.proofs.Seen.{version_seen}

-- what was found stands there, and passes
found : {X : Type 0} (p : X → Bool) (xs : List X) (x : X) → find p xs ≡ Some x → (i : ℕ) × (slice_get xs i ≡ Some x) × (p x ≡ true)
found p [] x e = absurd (cc)
found {X} p (y ∷ ys) x e = by_test (p y) refl e (found p ys x)
  where
    by_test : (b : Bool) → p y ≡ b → (if b then Some y else find p ys) ≡ Some x → (find p ys ≡ Some x → (i : ℕ) × (slice_get ys i ≡ Some x) × (p x ≡ true))
        → (i : ℕ) × (slice_get (y ∷ ys) i ≡ Some x) × (p x ≡ true)
    by_test true is e rest = (0, e, ap (λ (o : Option X). option_map_or p o (p y)) (sym e) ∙ is)
    by_test false is e rest = let (i, at, passes) = rest e in (suc i, at, passes)

pub sound_file : (session : Session) (what : ℕ) (file : StartFile) → IsSound session → opened_file session.start what ≡ Some file → IsSoundFile file
sound_file session what file sound at = let (i, place, is) = found (λ (f : StartFile). f.node.pnode == what) session.start.files.items file at in sound.files i file place

-- a file of the opening
pub file_opened : (book : BookId) (d : DeskState) (n : ℕ) (file : StartFile) → d.book ≡ book → d.seen ≡ [] → opened_file book.session.start d.what ≡ Some file
    → IsFileNumber book.session [] d.what n → IsFile book d n (opened file true)
file_opened book d n file of none at number = record {
  version = record {
    of_book = of;
    node = own;
    lineage = subst (λ h. IsStateAfter book.session h (opened file true).lineage) (sym none)
        (subst (λ l. IsStateAfter book.session [] l) (λ i. record { node = record { pnode = sym own i; version = ap version_in at i }; marked = ap marked_in at i; sources = [] }) (opening_law book.session d.what));
    few = let size = ap length none in omega (arith, size);
  };
  content = subst (λ h. IsFileAfter book.session h d.syncs d.what (opened file true)) (sym none) (record {
    bytes = ap (λ o. option_map_or (λ (f : StartFile). f.bytes.items) o []) (sym at);
    rows = ap (λ o. flags (is_among (option_map_or (λ (f : StartFile). f.rows.items) o [])) block_count) (sym at);
    dirty = refl;
  });
  number = subst (λ h. IsFileNumber book.session h d.what n) (sym none) number;
}
  where
    own : file.node.pnode ≡ d.what
    own = let (i, place, is) = found (λ (f : StartFile). f.node.pnode == d.what) book.session.start.files.items file at in same_numbers file.node.pnode d.what is

    version_in : Option StartFile → ℕ
    version_in o = option_map_or (λ (f : StartFile). f.node.version) o (option_map_or (λ (n : Node). n.version) (opened_app book.session.start d.what) 1)

    marked_in : Option StartFile → Bool
    marked_in o = is_some o || is_some (opened_app book.session.start d.what)

-- a file that was made in the session
abbrev pub new_file : ℕ → FileView
new_file what = clean_file [] (λ _. false) (record { node = record { pnode = what; version = 1 }; marked = false; sources = [] })

pub file_made : (book : BookId) (d : DeskState) (n : ℕ) → d.book ≡ book → is_opened book.session.start d.what ≡ false → IsLegal book.session d.seen → AgreeOn d.what [] d.seen
    → IsFileNumber book.session d.seen d.what n → length d.seen ≤ 2 ^ 32
    → IsFile book d n (new_file d.what)
file_made book d n of new legal idle number few = record {
  version = version_seen book before d (record { lineage = lineage; spare = 0 }) (record {
    of_book = of;
    node = refl;
    lineage = subst (λ l. IsStateAfter book.session [] l) (λ i. record { node = record { pnode = d.what; version = version i }; marked = new i; sources = [] }) (opening_law book.session d.what);
    few = omega arith;
  }) of refl (d.seen, refl) idle legal few;
  content = file_seen book.session [] d.seen d.syncs d.syncs d.what (clean_file [] (λ _. false) lineage) (record {
    bytes = ap (λ o. option_map_or (λ (f : StartFile). f.bytes.items) o []) (sym none.0);
    rows = ap (λ o. flags (is_among (option_map_or (λ (f : StartFile). f.rows.items) o [])) block_count) (sym none.0);
    dirty = refl;
  }) (d.seen, refl) idle refl;
  number = number;
}
  where
    before : DeskState
    before = record d { seen = [] }

    lineage : Lineage
    lineage = record { node = record { pnode = d.what; version = 1 }; marked = false; sources = [] }

    both : (f : Option StartFile) (a : Option Node) → is_some f || is_some a ≡ false → (f ≡ None) × (a ≡ None)
    both (Some f) a is = absurd (cc)
    both None (Some a) is = absurd (cc)
    both None None is = (refl, refl)

    none : (opened_file book.session.start d.what ≡ None) × (opened_app book.session.start d.what ≡ None)
    none = both (opened_file book.session.start d.what) (opened_app book.session.start d.what) new

    version : opening_version book.session.start d.what ≡ 1
    version = λ i. option_map_or (λ (f : StartFile). f.node.version) (none.0 i) (option_map_or (λ (n : Node). n.version) (none.1 i) 1)
