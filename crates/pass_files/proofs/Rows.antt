-- Rows of tables, with one more record.
use Rattle.std.proofs.Common.{ℕ, ◌≡◌, ◌==◌, ◌∙◌, Bool, true, false, ◌&&◌, ◌||◌, refl, sym, ap, cond, List}
use Rattle.std.specs.Prelude.{Option, Some, None, is_some, if◌then◌else◌}
use Rattle.pass_entry.specs.declared.objects.Node.{Node}
use Rattle.pass_entry.specs.declared.objects.Kind.{Kind}
use Rattle.pass_entry.specs.declared.record.Record.{Record}
use Rattle.pass_entry.specs.declared.record.Record.TheVariants as log
use Rattle.pass_plain.specs.Versions.{same_node}
use Rattle.pass_plain.specs.WellLogged.{kind_look}
use Rattle.pass_plain.proofs.Lists.{same_numbers}
use Rattle.pass_graph.proofs.Noding.{same_node_is}
use Rattle.pass_files.specs.Data.{first_look, gives_program}
use Rattle.pass_files.specs.Told.{naming_look, ran_look}
use Rattle.pass_files.specs.declared.facts.Naming.{Naming}
use Rattle.pass_files.specs.declared.facts.Ran.{Ran}

-- what is put over what was put or taken out before
pub put_over : {V : Type 0} (b : Bool) (one other old : V) → cond b one (cond b other old) ≡ cond b one old
put_over true one other old = refl
put_over false one other old = refl

-- a row that is made of itself
pub row_made : {V : Type 0} (old : ℕ → Option V) (f : Option V → Option V) (p o : ℕ) → cond (p == o) (f (old p)) (old o) ≡ (if p == o then f (old o) else old o)
row_made {V} old f p o = at_test (p == o) refl
  where
    at_test : (b : Bool) → (p == o) ≡ b → cond b (f (old p)) (old o) ≡ (if b then f (old o) else old o)
    at_test true is = ap (λ q. f (old q)) (same_numbers p o is)
    at_test false is = refl

pub node_row_made : {V : Type 0} (old : Node → Option V) (f : Option V → Option V) (m n : Node) → (if same_node m n then f (old m) else old n) ≡ (if same_node m n then f (old n) else old n)
node_row_made {V} old f m n = at_test (same_node m n) refl
  where
    at_test : (b : Bool) → same_node m n ≡ b → (if b then f (old m) else old n) ≡ (if b then f (old n) else old n)
    at_test true is = ap (λ q. f (old q)) (same_node_is m n is)
    at_test false is = refl

-- the first source stays, and is put where none is there
abbrev first_by : Bool → Node → Option Node → Option Node
first_by b source (Some first) = Some first
first_by b source None = if b then Some source else None

first_is : (target source n : Node) (old : Option Node) → first_look n old (log.Input target source) ≡ first_by (same_node target n) source old
first_is target source n (Some first) = refl
first_is target source n None = refl

kept_by : (b : Bool) (source : Node) (old : Option Node) → (b ≡ true → is_some old ≡ true) → old ≡ first_by b source old
kept_by b source (Some first) has = refl
kept_by true source None has = absurd (let z = has refl in cc)
kept_by false source None has = refl

put_by : (b : Bool) (source : Node) (old : Option Node) → (b ≡ true → is_some old ≡ false) → cond b (Some source) old ≡ first_by b source old
put_by true source (Some first) none = absurd (let z = none refl in cc)
put_by false source (Some first) none = refl
put_by b source None none = at_test b
  where
    at_test : (t : Bool) → cond t (Some source) None ≡ (if t then Some source else None)
    at_test true = refl
    at_test false = refl

pub first_kept : (old : Node → Option Node) (target source n : Node) → is_some (old target) ≡ true → old n ≡ first_look n (old n) (log.Input target source)
first_kept old target source n has =
    kept_by (same_node target n) source (old n) (λ is. ap (λ m. is_some (old m)) (sym (same_node_is target n is)) ∙ has) ∙ sym (first_is target source n (old n))

pub first_put : (old : Node → Option Node) (target source n : Node) → is_some (old target) ≡ false → cond (same_node target n) (Some source) (old n) ≡ first_look n (old n) (log.Input target source)
first_put old target source n none =
    put_by (same_node target n) source (old n) (λ is. ap (λ m. is_some (old m)) (sym (same_node_is target n is)) ∙ none) ∙ sym (first_is target source n (old n))

pub first_other : (r : Record) (n : Node) (old : Option Node) → ((target source : Node) → r ≡ log.Input target source → ⊥) → old ≡ first_look n old r
first_other r n (Some first) other = refl
first_other (log.Input target source) n None other = absurd (other target source refl)
first_other _ n None other = refl

-- what is put into a set
pub added_is : (b old : Bool) → cond b true old ≡ (old || b)
added_is true true = refl
added_is true false = refl
added_is false true = refl
added_is false false = refl

pub added_where : (b test old : Bool) → test ≡ true → cond b true old ≡ (old || (b && test))
added_where true test true is = refl
added_where true test false is = sym is
added_where false test true is = refl
added_where false test false is = refl

pub kept_where : (b test old : Bool) → test ≡ false → old ≡ (old || (b && test))
kept_where b test true is = refl
kept_where true test false is = sym is
kept_where false test false is = refl

-- records that say nothing of a table

pub no_program : (r : Record) (n : Node) (old : Bool) → ((node : Node) (attr value : List ℕ) → r ≡ log.Attr node attr value → ⊥) → old ≡ (old || gives_program n r)
no_program (log.Attr node attr value) n old other = absurd (other node attr value refl)
no_program _ n true other = refl
no_program _ n false other = refl

pub no_kind : (r : Record) (o : ℕ) (old : Option Kind) → ((pnode : ℕ) (k : Kind) → r ≡ log.Object pnode k → ⊥) → old ≡ kind_look o old r
no_kind (log.Object pnode k) o old other = absurd (other pnode k refl)
no_kind _ o old other = refl

pub no_name : (r : Record) (o : ℕ) (old : Option Naming) → ((pnode : ℕ) (name : List ℕ) → r ≡ log.Name pnode name → ⊥) → old ≡ naming_look o old r
no_name (log.Name pnode name) o old other = absurd (other pnode name refl)
no_name _ o old other = refl

pub no_run : (r : Record) (n : Node) (old : Node → Option Ran) → ((node : Node) → r ≡ log.Version node → ⊥) → ((node : Node) (attr value : List ℕ) → r ≡ log.Attr node attr value → ⊥)
    → old n ≡ ran_look old r n
no_run (log.Version node) n old other another = absurd (other node refl)
no_run (log.Attr node attr value) n old other another = absurd (another node attr value refl)
no_run _ n old other another = refl
