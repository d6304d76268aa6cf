-- How one entry turns its object's lineage.
use Rattle.std.proofs.Common.{◌≡◌, ap, sym, refl, subst, Bool, true, false, ◌&&◌, not}
use Rattle.std.specs.Prelude.{Option, Some, None, if◌then◌else◌}
use Rattle.pass_entry.specs.declared.entry.Act.{Act}
use Rattle.pass_entry.specs.declared.entry.Act.TheVariants as act
use Rattle.pass_entry.specs.declared.objects.Node.{Node}
use Rattle.pass_plain.specs.Histories.{uses, out_of}
use Rattle.pass_plain.specs.Lineages.{Lineage, IsAlike, is_fresh_act, is_freeze_act}

-- an act that names no node has none that it takes anew
pub none_fresh : (l : Lineage) (source : Option Node) (a : Act) → source ≡ None → None ≡ (if is_fresh_act l source a then source else None)
none_fresh l source a none =
    subst (λ s. None ≡ (if is_fresh_act l s a then s else None)) (sym none) (by_test (is_fresh_act l None a))
  where
    by_test : (b : Bool) → ◌≡◌ {A = Option Node} None (if b then None else None)
    by_test true = refl
    by_test false = refl

-- an act that uses its object names no place, and freezes nothing
pub use_names : (a : Act) → uses a ≡ true → out_of a ≡ None
use_names (act.Show fd len) is = refl
use_names (act.Spawn child) is = refl
use_names act.Reap is = refl
use_names (act.Give at len) is = refl
use_names act.Load is = refl
use_names (act.Take len) is = refl
use_names act.Cite is = refl
use_names _ is = absurd (cc)

pub use_freezes : (l : Lineage) (source : Option Node) (a : Act) → uses a ≡ true → source ≡ None → false ≡ is_freeze_act l source a
use_freezes l source a is none = subst (λ s. false ≡ is_freeze_act l s a) (sym none) (of_none a is)
  where
    of_none : (a : Act) → uses a ≡ true → false ≡ is_freeze_act l None a
    of_none (act.Show fd len) is = refl
    of_none (act.Spawn child) is = refl
    of_none act.Reap is = refl
    of_none (act.Give at len) is = refl
    of_none act.Load is = refl
    of_none (act.Take len) is = refl
    of_none act.Cite is = refl
    of_none _ is = absurd (cc)

pub fresh_alike : (l m : Lineage) (source : Option Node) (a : Act) → IsAlike l m → is_fresh_act l source a ≡ is_fresh_act m source a
fresh_alike l m source (act.Exec out name args) alike = refl
fresh_alike l m (Some s) _ alike = ap not (alike.sources s)
fresh_alike l m None _ alike = refl

pub freeze_alike : (l m : Lineage) (source : Option Node) (a : Act) → IsAlike l m → is_freeze_act l source a ≡ is_freeze_act m source a
freeze_alike l m source act.Freeze alike = refl
freeze_alike l m source (act.Exec out name args) alike = refl
freeze_alike l m (Some s) _ alike = λ i. not (alike.sources s i) && alike.marked i
freeze_alike l m None _ alike = refl
