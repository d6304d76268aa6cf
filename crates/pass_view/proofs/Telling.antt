-- What the tables tell of an object.
use Rattle.std.proofs.Common.{ℕ, ◌≡◌, true, false, refl, sym, ap, List}
use Rattle.std.specs.Prelude.{Option, Some, None, option_map, is_some}
use Rattle.std.specs.Option.{option_map_or}
use Rattle.pass_entry.specs.declared.objects.Kind.{Kind}
use Rattle.pass_entry.specs.declared.objects.Kind.TheVariants as kind
use Rattle.pass_entry.specs.declared.record.Record.{Record}
use Rattle.pass_plain.specs.Registries.{same_kind}
use Rattle.pass_plain.specs.WellLogged.{kind_of, current_of, size_of, is_known}
use Rattle.pass_graph.specs.Logged.{told}
use Rattle.pass_graph.specs.declared.logged.Told.{Told}
use Rattle.pass_plain.proofs.Lists.{some_is}
use Rattle.pass_view.specs.Facts.{is_process}

module _ (list : List Record) (object : ℕ) where
  abbrev with_kind : Kind → Told
  with_kind k = record { kind = k; version = current_of list object; size = size_of list object }

  there : (o : Option Kind) (t : Told) → Some t ≡ option_map with_kind o → o ≡ Some t.kind
  there (Some k) t is = ap (λ (x : Told). Some x.kind) (some_is (with_kind k) t (sym is))
  there None t is = absurd (cc)

  pub kind_told : (t : Told) → Some t ≡ told list object → kind_of list object ≡ Some t.kind
  kind_told t is = there (kind_of list object) t is

  nowhere : (o : Option Kind) → None ≡ option_map with_kind o → is_some o ≡ true → ⊥
  nowhere (Some k) is some = absurd (cc)
  nowhere None is some = cc

  pub not_told : None ≡ told list object → is_known list object ≡ true → ⊥
  not_told is known = nowhere (kind_of list object) is known

  pub process_told : (t : Told) → Some t ≡ told list object → is_process list object ≡ same_kind t.kind kind.Process
  process_told t is = ap (λ o. option_map_or (λ k. same_kind k kind.Process) o false) (kind_told t is)

  not_there : (o : Option Kind) → None ≡ option_map with_kind o → option_map_or (λ k. same_kind k kind.Process) o false ≡ false
  not_there (Some k) is = absurd (cc)
  not_there None is = refl

  pub no_process : None ≡ told list object → is_process list object ≡ false
  no_process is = not_there (kind_of list object) is
