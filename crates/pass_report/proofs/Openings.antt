-- What two starts that differ in the bytes of their files have in common, and the versions of a sound one.
use Rattle.std.proofs.Common.{◌≡◌, ◌==◌, ℕ, List, [], ◌∷◌, ◌++◌, length, ◌∙◌, ap, sym, refl, Bool, true, false, ◌||◌, map}
use Rattle.std.specs.Prelude.{Option, Some, None, find, filter_map, is_some, option_map, if◌then◌else◌}
use Rattle.std.specs.Option.{option_map_or}
use Rattle.std.specs.List.{cons_option}
use Rattle.std.specs.FinMap as finite_map
use Rattle.pass_entry.specs.declared.objects.Kind.{Kind}
use Rattle.pass_entry.specs.declared.objects.Kind.TheVariants as kind
use Rattle.pass_entry.specs.declared.objects.Node.{Node}
use Rattle.pass_entry.proofs.Places.{found_at}
use Rattle.pass_plain.specs.declared.start.Start.{Start}
use Rattle.pass_plain.specs.declared.start.StartFile.{StartFile}
use Rattle.pass_plain.specs.Sessions.{Session, opened_file, opened_app, opening_version, is_opened, opening_size, opening_rows, opening_bytes}
use Rattle.pass_plain.specs.Sound.{IsSound}
use Rattle.pass_plain.specs.Registries.{named_file, opening_registry}
use Rattle.pass_plain.specs.Outlines.{outline, SameButBytes}

abbrev pub Outline : Type 0
Outline = Node × Option (List ℕ) × ℕ × List ℕ

-- the first item that passes, seen through a function
found_through : {X Y Z : Type 0} (g : X → Y) (q : Y → Bool) (h : Y → Z) (d : Z) (xs : List X)
    → option_map_or (λ x. h (g x)) (find (λ x. q (g x)) xs) d ≡ option_map_or h (find q (map g xs)) d
found_through g q h d [] = refl
found_through {X = X} {Y = Y} {Z = Z} g q h d (x ∷ xs) = by_test (q (g x)) (found_through g q h d xs)
  where
    by_test : (b : Bool) → ◌≡◌ {A = Z} (option_map_or (λ (x : X). h (g x)) (find (λ x. q (g x)) xs) d) (option_map_or h (find q (map g xs)) d)
        → option_map_or (λ (x : X). h (g x)) (if b then Some x else find (λ x. q (g x)) xs) d ≡ option_map_or h (if b then Some (g x) else find q (map g xs)) d
    by_test true rest = refl
    by_test false rest = rest

filtered_through : {X Y Z : Type 0} (g : X → Y) (h : Y → Option Z) (xs : List X) → filter_map (λ x. h (g x)) xs ≡ filter_map h (map g xs)
filtered_through g h [] = refl
filtered_through g h (x ∷ xs) = ap (cons_option (h (g x))) (filtered_through g h xs)

mapped_through : {X Y Z : Type 0} (g : X → Y) (h : Y → Z) (xs : List X) → map (λ x. h (g x)) xs ≡ map h (map g xs)
mapped_through g h [] = refl
mapped_through g h (x ∷ xs) = ap (λ zs. h (g x) ∷ zs) (mapped_through g h xs)

module _ (a b : Start) (same : SameButBytes a b) where
  pub same_file : {Z : Type 0} (h : Outline → Z) (d : Z) (o : ℕ)
      → option_map_or (λ f. h (outline f)) (opened_file a o) d ≡ option_map_or (λ f. h (outline f)) (opened_file b o) d
  same_file h d o =
      found_through outline (λ t. t.0.pnode == o) h d a.files.items
      ∙ ap (λ ts. option_map_or h (find (λ (t : Outline). t.0.pnode == o) ts) d) same.files
      ∙ sym (found_through outline (λ t. t.0.pnode == o) h d b.files.items)

  same_app : (o : ℕ) → opened_app a o ≡ opened_app b o
  same_app o = ap (λ ns. find (λ (n : Node). n.pnode == o) ns) same.apps

  pub same_version : (o : ℕ) → opening_version a o ≡ opening_version b o
  same_version o =
      same_file (λ t. t.0.version) (option_map_or (λ n. n.version) (opened_app a o) 1) o
      ∙ ap (λ app. option_map_or (λ f. f.node.version) (opened_file b o) (option_map_or (λ (n : Node). n.version) app 1)) (same_app o)

  some_file : (o : ℕ) → is_some (opened_file a o) ≡ is_some (opened_file b o)
  some_file o = tested (opened_file a o) ∙ same_file (λ t. true) false o ∙ sym (tested (opened_file b o))
    where
      tested : (o : Option StartFile) → is_some o ≡ option_map_or (λ f. true) o false
      tested None = refl
      tested (Some f) = refl

  pub same_opened : (o : ℕ) → is_opened a o ≡ is_opened b o
  same_opened o = λ i. some_file o i || is_some (same_app o i)

  pub same_size : (o : ℕ) → opening_size a o ≡ opening_size b o
  same_size = same_file (λ t. t.2) 0

  pub same_rows : (o : ℕ) → opening_rows a o ≡ opening_rows b o
  same_rows = same_file (λ t. t.3) []

  abbrev named_outline : Outline → Option (List ℕ × ℕ)
  named_outline t = option_map (λ name. (name, t.0.pnode)) t.1

  abbrev kind_outline : Outline → ℕ × Kind
  kind_outline t = (t.0.pnode, kind.File)

  pub same_registry : opening_registry a ≡ opening_registry b
  same_registry = λ i. record {
    names = finite_map.from_entries (named_files i);
    objects = file_objects i ++ map {B = ℕ × Kind} (λ (n : Node). (n.pnode, kind.App)) (same.apps i);
    made = 0;
  }
    where
      named_files : filter_map named_file a.files.items ≡ filter_map named_file b.files.items
      named_files =
          filtered_through outline named_outline a.files.items ∙ ap (filter_map named_outline) same.files ∙ sym (filtered_through outline named_outline b.files.items)

      file_objects : map {B = ℕ × Kind} (λ (f : StartFile). (f.node.pnode, kind.File)) a.files.items ≡ map {B = ℕ × Kind} (λ (f : StartFile). (f.node.pnode, kind.File)) b.files.items
      file_objects =
          mapped_through outline kind_outline a.files.items ∙ ap (map kind_outline) same.files ∙ sym (mapped_through outline kind_outline b.files.items)

-- the size of an opened file is that of its bytes
pub opening_sized : (session : Session) → IsSound session → (o : ℕ) → opening_size session.start o ≡ length (opening_bytes session.start o)
opening_sized session sound o = by_file (opened_file session.start o) refl
  where
    by_file : (f : Option StartFile) → opened_file session.start o ≡ f → option_map_or (λ f. f.size) f 0 ≡ length (option_map_or (λ f. f.bytes.items) f [])
    by_file (Some f) is = let (i, place) = found_at (λ (f : StartFile). f.node.pnode == o) session.start.files.items f is in (sound.files i f place).sized
    by_file None is = refl
