-- The first process of a session.
use Rattle.std.proofs.Common.{◌≡◌, ℕ, suc, ◌+◌, ◌<◌, ◌≤◌, List, [], ◌∷◌, ◌++◌, map, refl, ap, sym, ◌∙◌, subst, arith, Bool, false, ◌||◌, ◌==◌, cond}
use Rattle.std.specs.Prelude.{Option, Some, find, is_some, slice_get}
use Rattle.std.specs.Ordering.{nat_cmp}
use Rattle.std.specs.FinSet.{len-empty}
use Rattle.std.proofs.lemmas.Bool.Decides.{nat_tests}
use Rattle.pass_entry.specs.declared.entry.Entry.{Entry}
use Rattle.pass_entry.specs.declared.objects.Kind.{Kind}
use Rattle.pass_entry.specs.declared.objects.Kind.TheVariants as kind
use Rattle.pass_entry.specs.declared.objects.Node.{Node}
use Rattle.pass_plain.specs.declared.start.StartFile.{StartFile}
use Rattle.pass_plain.specs.Legal.{IsLegal}
use Rattle.pass_plain.specs.Processes.{Held, new_process}
use Rattle.pass_plain.specs.Sessions.{Session, is_opened}
use Rattle.pass_plain.specs.Sound.{IsSound}
use Rattle.pass_plain.proofs.Making.{making}
use Rattle.pass_version.specs.States.{VersionState}
use Rattle.pass_proc.specs.Births.{first_lineage, start_entry}
use Rattle.pass_proc.specs.Views.{ProcessView, IsProcess, process_of}
use Rattle.pass_proc.proofs.Births.{opened_is}

-- A number above the ceiling is of no object of the opening

other : (a n c : ℕ) → a ≤ c → c < n → (a == n) ≡ false
other a n c low high = grind (arith, nat_tests)

passes : {X : Type 0} (b : Bool) (x : X) (o : Option X) → b ≡ false → is_some o ≡ false → is_some (cond b (Some x) o) ≡ false
passes b x o off none = ap (λ b. is_some (cond b (Some x) o)) off ∙ none

no_app : (apps : List Node) (n c : ℕ) → c < n
    → ((i : ℕ) (o : ℕ × Kind) → slice_get {X = ℕ × Kind} (map (λ (a : Node). (a.pnode, kind.App)) apps) i ≡ Some o → (1 ≤ o.0) × (o.0 ≤ c))
    → is_some (find (λ (a : Node). a.pnode == n) apps) ≡ false
no_app [] n c high low = refl
no_app (a ∷ apps) n c high low =
    passes (a.pnode == n) a (find (λ (a : Node). a.pnode == n) apps) (other a.pnode n c (low 0 (a.pnode, kind.App) refl).1 high) (no_app apps n c high (λ i o at. low (suc i) o at))

no_object : (files : List StartFile) (apps : List Node) (n c : ℕ) → c < n
    → ((i : ℕ) (o : ℕ × Kind) → slice_get {X = ℕ × Kind} (map (λ (f : StartFile). (f.node.pnode, kind.File)) files ++ map (λ (a : Node). (a.pnode, kind.App)) apps) i ≡ Some o → (1 ≤ o.0) × (o.0 ≤ c))
    → is_some (find (λ (f : StartFile). f.node.pnode == n) files) || is_some (find (λ (a : Node). a.pnode == n) apps) ≡ false
no_object [] apps n c high low = no_app apps n c high low
no_object (f ∷ files) apps n c high low =
    ap (λ b. is_some (cond b (Some f) (find (λ (f : StartFile). f.node.pnode == n) files)) || is_some (find (λ (a : Node). a.pnode == n) apps)) (other f.node.pnode n c (low 0 (f.node.pnode, kind.File) refl).1 high)
    ∙ no_object files apps n c high (λ i o at. low (suc i) o at)

pub unopened : (session : Session) (n : ℕ) → IsSound session → session.start.ceiling < n → is_opened session.start n ≡ false
unopened session n sound high = no_object session.start.files.items session.start.apps.items n session.start.ceiling high sound.numbers

abbrev new_view : ℕ → ProcessView
new_view n = record { who = n; seen = []; state = new_process; lineage = first_lineage n; spare = 0; room = 0 }

new_is : (session : Session) (n : ℕ) → is_opened session.start n ≡ false → IsProcess session (new_view n)
new_is session n new = record {
  state = refl;
  node = refl;
  lineage = opened_is session n new;
  sources = (let none = len-empty nat_cmp in omega (arith, none));
  few = omega arith;
}

-- the first process has the number behind the ceiling
pub first_number : (session : Session) (n : ℕ) → IsLegal session (start_entry n ∷ []) → n ≡ session.start.ceiling + 1
first_number session n legal =
    let by = (making session [] (start_entry n) n (λ i e at. absurd (cc)) (legal 0 (start_entry n) refl) refl).is_next in omega (arith, by)

-- a process of which nothing was seen
pub first_process : (session : Session) (n : ℕ) → IsSound session → IsLegal session (start_entry n ∷ []) → (what : ℕ) (seen : List Entry) (ds : Held) (v : VersionState)
    → what ≡ n → seen ≡ [] → ds ≡ new_process.descriptors → v ≡ record { lineage = first_lineage n; spare = 0 }
    → IsProcess session (process_of what seen (record { state = record new_process { descriptors = ds }; room = 0 }) v)
first_process session n sound legal what seen ds v whats none empty first =
    let number = first_number session n legal in
    let same : process_of what seen (record { state = record new_process { descriptors = ds }; room = 0 }) v ≡ new_view n =
    λ i. process_of (whats i) (none i) (record { state = record new_process { descriptors = empty i }; room = 0 }) (first i) in
    subst (λ (p : ProcessView). IsProcess session p) (sym same) (new_is session n (unopened session n sound (omega (arith, number))))
