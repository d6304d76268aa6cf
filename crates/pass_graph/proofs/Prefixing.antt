-- The list of each prefix of a session is well logged.
use Rattle.std.proofs.Common.{ℕ, ◌≡◌, ◌≤◌, ◌+◌, zero, suc, max, Bool, true, false, refl, sym, ap, ◌∙◌, subst, List, [], ◌∷◌, ◌++◌, length, take, map, arith, append_assoc}
use Rattle.std.specs.Prelude.{Some, None, is_some, slice_get, count_by, if◌then◌else◌}
use Rattle.std.proofs.lemmas.List.{append-nil, take_all}
use Rattle.pass_entry.specs.declared.entry.Entry.{Entry}
use Rattle.pass_entry.specs.declared.objects.Kind.{Kind}
use Rattle.pass_entry.specs.declared.record.Record.{Record}
use Rattle.pass_entry.specs.declared.record.Record.TheVariants as log
use Rattle.pass_entry.specs.declared.objects.Node.{Node}
use Rattle.pass_entry.specs.declared.objects.Kind.TheVariants as kind
use Rattle.pass_plain.specs.declared.start.StartFile.{StartFile}
use Rattle.pass_plain.specs.Sessions.{Session}
use Rattle.pass_plain.specs.Registries.{registry_after, opening_registry}
use Rattle.pass_plain.specs.Legal.{IsLegal}
use Rattle.pass_plain.specs.Records.{records_of, entry_records}
use Rattle.pass_plain.specs.WellLogged.{is_known, kind_of, current_of, last_name_of, ceiling_of, has_kind}
use Rattle.pass_plain.specs.Ceilings.{raised}
use Rattle.pass_plain.proofs.Lists.{is_place}
use Rattle.pass_plain.proofs.Calling.{legal_take}
use Rattle.pass_plain.proofs.Raising.{over_ceilings, raised_law}
use Rattle.pass_graph.specs.Openings.{Continues, session_list}
use Rattle.pass_graph.specs.Lawful.{PrefixLaw, FirstStartLaw}
use Rattle.pass_graph.proofs.Standing.{version_at}
use Rattle.pass_graph.proofs.Recording.{records-suc}
use Rattle.pass_graph.proofs.Logging.{opened_by, current_low, are_numbered}
use Rattle.pass_graph.proofs.Accepting.{AreFine, IsTold, fine-append, kind_more, current_more, name_more, count_more}
use Rattle.pass_graph.proofs.Naming.{Stepped}
use Rattle.pass_graph.proofs.Prolonging.{entry_step}
use Rattle.pass_graph.proofs.Proved.{first_opening_law}

-- a list says of each object what another one says
record SaysSame (list before : List Record) : Type 0 where
  kinds : (o : ℕ) → kind_of list o ≡ kind_of before o
  currents : (o : ℕ) → current_of list o ≡ current_of before o
  names : (o : ℕ) → last_name_of list o ≡ last_name_of before o
  counts : (k : Kind) → count_by (has_kind k) list ≡ count_by (has_kind k) before

same_raised : (before : List Record) (ceiling : ℕ) → SaysSame (raised before ceiling) before
same_raised before ceiling =
    over_ceilings (λ list. SaysSame list before) same_next before ceiling (record { kinds = λ o. refl; currents = λ o. refl; names = λ o. refl; counts = λ k. refl })
  where
    same_next : (list : List Record) (c : ℕ) → SaysSame list before → SaysSame (list ++ log.Ceiling c ∷ []) before
    same_next list c same = record {
      kinds = λ o. kind_more list (log.Ceiling c) o ∙ same.kinds o;
      currents = λ o. current_more list (log.Ceiling c) o ∙ same.currents o;
      names = λ o. name_more list (log.Ceiling c) o ∙ same.names o;
      counts = λ k. let a = count_more list (log.Ceiling c) k in let b = same.counts k in omega (arith, a, b);
    }

module _ (before : List Record) (session : Session) (history : List Entry) (all : Continues before session) (legal : IsLegal session history) where
  abbrev version : ℕ → ℕ → ℕ
  version = version_at (λ o. max 1 (opened_by before o)) session history

  abbrev listed : ℕ → List Record
  listed k = session_list before session (take k history)

  abbrev front : List Record
  front = raised before (session.start.ceiling + session.objects)

  says : SaysSame front before
  says = same_raised before (session.start.ceiling + session.objects)

  front_fine : AreFine [] front × (ceiling_of front ≡ session.start.ceiling + session.objects)
  front_fine =
      let low = all.ceiling in
      let some = all.opens.sound.some in
      raised_law before all.opens.logged (session.start.ceiling + session.objects) (omega (arith, low, some))

  first_told : IsTold session front (opening_registry session.start) (λ o. version o 0)
  first_told = record {
    known = λ o k has. says.kinds o ∙ all.kinds o k has;
    bound = λ o is.
        let low = (are_numbered before all.opens.logged o (sym (ap is_some (says.kinds o)) ∙ is)).1 in
        let most = all.opens.ceiling in
        let z : o ≤ session.start.ceiling = omega (arith, low, most) in
        omega (arith, z);
    ceiling = front_fine.1;
    counts = λ k limited. let a = says.counts k in let b = all.counts k limited in omega (arith, a, b);
    names = λ o name is some. all.names o name (sym (says.names o) ∙ is) some;
    current = λ o. says.currents o ∙ at_known o (is_known before o) refl;
  }
    where
      at_known : (o : ℕ) (b : Bool) → is_known before o ≡ b → current_of before o ≡ max 1 (opened_by before o)
      at_known o true is =
          let z : opened_by before o ≡ current_of before o = ap (λ b. if b then current_of before o else 0) is in
          let low = (current_low before all.opens.logged all.opens.sources o).0 in omega (arith, z, low)
      at_known o false is =
          let z : opened_by before o ≡ 0 = ap (λ b. if b then current_of before o else 0) is in
          let one = (current_low before all.opens.logged all.opens.sources o).1 is in omega (arith, z, one)

  abbrev Stands : ℕ → Type 0
  Stands k = AreFine [] (listed k) × IsTold session (listed k) (registry_after session (take k history)) (λ o. version o k)

  stands : (k : ℕ) → k ≤ length history → Stands k
  stands zero le =
      let same : front ≡ listed zero = sym (append-nil front) in
      (subst (AreFine []) same front_fine.0, subst (λ l. IsTold session l (opening_registry session.start) (λ o. version o 0)) same first_told)
  stands (suc k) le =
      let (fine, told) = stands k (omega (arith, le)) in
      let (e, at) = is_place history k (omega (arith, le)) in
      let step : Stepped session (listed k) (registry_after session (take (suc k) history)) (λ o. version o (suc k)) (entry_records session (take k history) e) = entry_step before session history all.opens legal k e at told in
      let whole : listed k ++ entry_records session (take k history) e ≡ listed (suc k) =
      append_assoc front (records_of session (take k history)) (entry_records session (take k history) e)
      ∙ ap (λ rs. front ++ rs) (sym (records-suc session history k e at)) in (
        subst (AreFine []) whole (fine-append [] (listed k) (entry_records session (take k history) e) fine step.0),
        subst (λ l. IsTold session l (registry_after session (take (suc k) history)) (λ o. version o (suc k))) whole step.1,
      )

  well_logged : AreFine [] (session_list before session history)
  well_logged = subst (λ h. AreFine [] (session_list before session h)) (take_all (length history) history (omega arith)) (stands (length history) (omega arith)).0

pub prefix_law : PrefixLaw
prefix_law before session history all legal k = well_logged before session (take k history) all (legal_take session history k legal)

pub first_start_law : FirstStartLaw
first_start_law session sound no_files no_apps zero_is = record {
  opens = first_opening_law session sound no_files no_apps;
  ceiling = zero_is;
  kinds = λ o k has. absurd (let z : None ≡ Some (o, k) = sym (ap (λ (xs : List (ℕ × Kind)). slice_get xs has.0) none) ∙ has.1 in cc);
  counts = λ k limited. omega arith;
  names = λ o name is some. absurd (let z : 0 ≡ length name = ap length is in omega (arith, z, some));
}
  where
    none : (opening_registry session.start).objects ≡ []
    none = ap (λ files. map (λ (f : StartFile). (f.node.pnode, kind.File)) files ++ map (λ (n : Node). (n.pnode, kind.App)) session.start.apps.items) no_files
        ∙ ap (λ apps. map (λ (n : Node). (n.pnode, kind.App)) apps) no_apps
