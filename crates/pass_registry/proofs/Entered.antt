-- The registry after one more entry on it.
use Rattle.std.proofs.Common.{◌≡◌, ℕ, ◌+◌, Bool, true, false, not, cond, List, [], ◌∷◌, ◌++◌, length, get_or, refl, ap, sym, ◌∙◌, arith}
use Rattle.std.specs.Prelude.{Option, Some, None, Result, Ok, Err, OnOk, OnErr, IfOk, IfSome, is_some, slice_get, nat_le, ◌==◌, if◌then◌else◌, bytes_eq}
use Rattle.std.specs.Option.{ok_or, option_map_or}
use Rattle.std.specs.List.{list_any}
use Rattle.std.specs.Cmp.Lexicographic.{nat_list_cmp_total, nat_list_eq_equiv}
use Rattle.std.specs.FinMap as finite_map
use Rattle.std.specs.FinMap.{get-remove}
use Rattle.std.proofs.lemmas.List.Quantifiers.{position-Some}
use Rattle.std.proofs.lemmas.Option.{slice_get-get_or}
use Rattle.std.proofs.lemmas.Map.Text.{is_eq-slice_cmp}
use Rattle.std.proofs.lemmas.Bool.{leb-false}
use mathlib.Core.List.{IsPrefix}
use Rattle.pass_entry.specs.declared.entry.Act.{Act}
use Rattle.pass_entry.specs.declared.entry.Act.TheVariants as act
use Rattle.pass_entry.specs.declared.entry.CallFault.{CallFault}
use Rattle.pass_entry.specs.declared.entry.CallFault.TheVariants as fault
use Rattle.pass_entry.specs.declared.entry.CallName.{CallName}
use Rattle.pass_entry.specs.declared.entry.Entry.{Entry}
use Rattle.pass_entry.specs.declared.entry.Reply.{Reply}
use Rattle.pass_entry.specs.declared.entry.Reply.TheVariants as answer
use Rattle.pass_entry.specs.declared.objects.Kind.{Kind}
use Rattle.pass_entry.specs.declared.objects.Kind.TheVariants as kind
use Rattle.pass_entry.specs.declared.record.Record.{Record}
use Rattle.pass_entry.specs.declared.record.Record.TheVariants as log
use Rattle.pass_entry.proofs.Places.{slice_get-last}
use Rattle.pass_plain.specs.Histories.{is_fault}
use Rattle.pass_plain.specs.Sessions.{Session}
use Rattle.pass_plain.specs.Records.{move_records as plain_records, lost_name, file_named}
use Rattle.pass_plain.specs.Registries.{Registry, Names, registry_act, registry_after, opening_registry}
use Rattle.pass_plain.specs.States.{registry_step}
use Rattle.pass_plain.specs.Lawful.{AgreeOn}
use Rattle.pass_plain.proofs.Lists.{same_numbers, or_false}
use Rattle.pass_plain.proofs.Appends.{state_after-agrees}
use Rattle.pass_plain.proofs.TwoPrefixes.{none_later}
use Rattle.pass_hold.specs.Callings.{IsEntered}
use Rattle.pass_hold.proofs.Objects.{object_after}
use Rattle.pass_registry.specs.Desks.{on_registry, IsMade}
use Rattle.pass_registry.specs.Files.{files_of, number_of}
use Rattle.pass_registry.specs.Listed.{lost_by, move_records}
use Rattle.pass_registry.specs.Outcomes.{displaced, minted, reply_done, reply_made}
use Rattle.pass_registry.specs.States.{RegistryState, IsOf, is_full, next_pnode, with_act}

module _ (session : Session) (line seen after : List Entry) (who number : ℕ) (call : CallName) (a : Act) (r : Reply) (entered : IsEntered session line seen after (on_registry who number call a r)) where
  pub registry_entered : registry_after session after ≡ registry_step (registry_after session seen) (on_registry who number call a r)
  registry_entered =
      object_after session line seen after (on_registry who number call a r) entered (λ past r e. registry_act r e.act e.reply) (opening_registry session.start)

  -- where the registry in hand has made the step
  pub registry_now : (old new : RegistryState) (now : List Entry) → now ≡ after → registry_after session seen ≡ old.registry
      → registry_step old.registry (on_registry who number call a r) ≡ new.registry → registry_after session now ≡ new.registry
  registry_now old new now same was step =
      ap (λ (h : List Entry). registry_after session h) same ∙ registry_entered ∙ ap (λ (s : Registry). registry_step s (on_registry who number call a r)) was ∙ step

-- no entry on the registry is new
pub registry_shown : (session : Session) (seen h : List Entry) → IsPrefix seen h → AgreeOn 0 seen h → registry_after session h ≡ registry_after session seen
registry_shown session seen h begins agrees =
    ap (λ (h : List Entry). registry_after session h) (sym begins.1)
    ∙ state_after-agrees (λ past r e. registry_act r e.act e.reply) 0 (opening_registry session.start) seen begins.0 (none_later (λ (f : Entry). f.what == 0) seen begins.0 h begins.1 agrees)

-- an act that leaves the registry, whatever the answer
pub look_step : (old : Registry) (who number : ℕ) (call : CallName) (a : Act) (r : Reply) → registry_act old a r ≡ old → registry_step old (on_registry who number call a r) ≡ old
look_step old who number call a r same = at_fault (not (is_fault r))
  where
    at_fault : (b : Bool) → (if b then registry_act old a r else old) ≡ old
    at_fault true = same
    at_fault false = refl

module _ (old new : RegistryState) (who number : ℕ) (call : CallName) (a : Act) where
  -- by an answer that is a number or a fault
  pub made_step : (room : ℕ) (r : Result ℕ CallFault) → OnOk r (new ≡ record (with_act old a (reply_made r)) { room = room }) → OnErr r (new ≡ old)
      → registry_step old.registry (on_registry who number call a (reply_made r)) ≡ new.registry
  made_step room (Ok pnode) ok err = sym (ap (λ (s : RegistryState). s.registry) ok)
  made_step room (Err f) ok err = sym (ap (λ (s : RegistryState). s.registry) err)

  -- by one that says no more than that it was done
  pub done_step : {T : Type 0} (r : Result T CallFault) → OnOk r (new ≡ with_act old a answer.Done) → OnErr r (new ≡ old)
      → registry_step old.registry (on_registry who number call a (reply_done r)) ≡ new.registry
  done_step (Ok x) ok err = sym (ap (λ (s : RegistryState). s.registry) ok)
  done_step (Err f) ok err = sym (ap (λ (s : RegistryState). s.registry) err)

module _ (session : Session) (old new : RegistryState) (of : IsOf session old) where
  pub made_of : (a : Act) (room : ℕ) (r : Result ℕ CallFault) → OnOk r (new ≡ record (with_act old a (reply_made r)) { room = room }) → OnErr r (new ≡ old) → IsOf session new
  made_of a room (Ok pnode) ok err = (of.0 ∙ sym (ap (λ (s : RegistryState). s.ceiling) ok), of.1 ∙ sym (ap (λ (s : RegistryState). s.limit) ok))
  made_of a room (Err f) ok err = (of.0 ∙ sym (ap (λ (s : RegistryState). s.ceiling) err), of.1 ∙ sym (ap (λ (s : RegistryState). s.limit) err))

  pub done_of : {T : Type 0} (a : Act) (r : Result T CallFault) → OnOk r (new ≡ with_act old a answer.Done) → OnErr r (new ≡ old) → IsOf session new
  done_of a (Ok x) ok err = (of.0 ∙ sym (ap (λ (s : RegistryState). s.ceiling) ok), of.1 ∙ sym (ap (λ (s : RegistryState). s.limit) ok))
  done_of a (Err f) ok err = (of.0 ∙ sym (ap (λ (s : RegistryState). s.ceiling) err), of.1 ∙ sym (ap (λ (s : RegistryState). s.limit) err))

-- A new object

given : (b : Bool) (p n : ℕ) (f : CallFault) → ◌≡◌ {A = Result ℕ CallFault} (Ok p) (if b then Err f else Ok n) → (b ≡ false) × (p ≡ n)
given true p n f e = absurd (cc)
given false p n f e = (refl, ap (λ (r : Result ℕ CallFault). number_in r) e)
  where
    number_in : Result ℕ CallFault → ℕ
    number_in (Ok p) = p
    number_in (Err f) = 0

module _ (session : Session) (seen after : List Entry) (old new : RegistryState) (of : IsOf session old) (was : registry_after session seen ≡ old.registry)
    (is : registry_after session after ≡ new.registry) (k : Kind) where
  pub is_made : (r : Result ℕ CallFault) → r ≡ minted old k → IfOk r (λ p. list_any (λ o. o.0 == p) old.registry.objects ≡ false)
      → IfOk r (λ p. new.registry.objects ≡ old.registry.objects ++ (p, k) ∷ []) → IfOk r (λ p. IsMade session seen after p k)
  is_made (Err f) minted single grown = tt
  is_made (Ok p) minted single grown =
      let (room, number) = given (is_full old k) p (next_pnode old) fault.TooMany minted in
      let low = leb-false old.limit old.registry.made (or_false (nat_le old.limit old.registry.made) _ room).0 in
      record {
        next = number ∙ (λ i. (sym of.0) i + (sym was i).made + 1);
        within = (let n : p ≡ old.ceiling + old.registry.made + 1 = number in let c = of.0 in let o = of.1 in omega (arith, n, c, o, low));
        single = ap (λ (s : Registry). list_any (λ o. o.0 == p) s.objects) was ∙ single;
        has = (
          length old.registry.objects,
          ap (λ (s : Registry). slice_get s.objects (length old.registry.objects)) is
              ∙ ap (λ (os : List (ℕ × Kind)). slice_get os (length old.registry.objects)) grown ∙ slice_get-last old.registry.objects (p, k),
        );
      }

  -- where a name was looked for first
  pub is_bound : (b : Bool) (r : Result ℕ CallFault) → r ≡ (if b then Err fault.Exists else minted old k) → IfOk r (λ p. list_any (λ o. o.0 == p) old.registry.objects ≡ false)
      → IfOk r (λ p. new.registry.objects ≡ old.registry.objects ++ (p, k) ∷ []) → IfOk r (λ p. IsMade session seen after p k)
  is_bound true (Ok p) e single grown = absurd (cc)
  is_bound true (Err f) e single grown = tt
  is_bound false r e single grown = is_made r e single grown

pub mint_grows : (old new : RegistryState) (k : Kind) (r : Result ℕ CallFault) → OnOk r (new ≡ with_act old (act.Mint k) (reply_made r))
    → IfOk r (λ p. new.registry.objects ≡ old.registry.objects ++ (p, k) ∷ [])
mint_grows old new k (Ok p) ok = ap (λ (s : RegistryState). s.registry.objects) ok
mint_grows old new k (Err f) ok = tt

pub bind_grows : (old new : RegistryState) (name : List ℕ) (room : ℕ) (r : Result ℕ CallFault) → OnOk r (new ≡ record (with_act old (act.Bind name) (reply_made r)) { room = room })
    → IfOk r (λ p. new.registry.objects ≡ old.registry.objects ++ (p, kind.File) ∷ [])
bind_grows old new name room (Ok p) ok = ap (λ (s : RegistryState). s.registry.objects) ok
bind_grows old new name room (Err f) ok = tt

-- A renaming

-- another name is as it was when one goes
other_stays : (names : Names) (from to : List ℕ) → bytes_eq from to ≡ false → displaced names from to ≡ finite_map.get names to
other_stays names from to other =
    get-remove nat_list_cmp_total names from to
    ∙ ap (λ b. cond b None (finite_map.get names to)) (is_eq-slice_cmp to from ∙ nat_list_eq_equiv.symm to from ∙ other)

module _ (names : Names) (from to : List ℕ) where
  moved_file : (file : ℕ) → finite_map.get names from ≡ Some file → move_records (Ok file) (displaced names from to) from to ≡ plain_records names from to
  moved_file file has = at_test (bytes_eq from to) refl
    where
      lost : Option ℕ → List Record
      lost o = option_map_or (λ other. log.Name other [] ∷ []) o []

      at_test : (b : Bool) → bytes_eq from to ≡ b
          → (if b then [] else lost (displaced names from to) ++ log.Name file to ∷ []) ≡ (if b then [] else lost_name names to ++ log.Name (file_named names from) to ∷ [])
      at_test true e = refl
      at_test false e = λ i. lost (other_stays names from to e i) ++ log.Name (option_map_or (λ (f : ℕ). f) (sym has i) 0) to ∷ []

  -- the records of a renaming are those of the definitions
  pub moved_records : (file : Result ℕ CallFault) (r : Result (Option ℕ) CallFault) → file ≡ ok_or (finite_map.get names from) fault.NoEntry
      → r ≡ (if finite_map.contains_key names from then Ok (displaced names from to) else Err fault.NoEntry)
      → move_records file (lost_by r) from to ≡ (if is_fault (reply_done r) then [] else plain_records names from to)
  moved_records file r found answer = by_name (finite_map.get names from) refl
    where
      by_name : (o : Option ℕ) → finite_map.get names from ≡ o → move_records file (lost_by r) from to ≡ (if is_fault (reply_done r) then [] else plain_records names from to)
      by_name (Some f) has =
          let is : file ≡ Ok f = found ∙ ap (λ (o : Option ℕ). ok_or o fault.NoEntry) has in
          let done : r ≡ Ok (displaced names from to) = answer ∙ ap (λ (o : Option ℕ). if is_some o then Ok (displaced names from to) else Err fault.NoEntry) has in
          (λ i. move_records (is i) (lost_by (done i)) from to) ∙ moved_file f has ∙ sym (ap (λ (r : Result (Option ℕ) CallFault). if is_fault (reply_done r) then [] else plain_records names from to) done)
      by_name None none =
          let is : file ≡ Err fault.NoEntry = found ∙ ap (λ (o : Option ℕ). ok_or o fault.NoEntry) none in
          let done : r ≡ Err fault.NoEntry = answer ∙ ap (λ (o : Option ℕ). if is_some o then Ok (displaced names from to) else Err fault.NoEntry) none in
          (λ i. move_records (is i) (lost_by r) from to) ∙ sym (ap (λ (r : Result (Option ℕ) CallFault). if is_fault (reply_done r) then [] else plain_records names from to) done)

-- The number of a file

pub number_found : (objects : List (ℕ × Kind)) (file : ℕ) (o : Option ℕ) → o ≡ number_of objects file → IfSome o (λ n. slice_get (files_of objects) n ≡ Some file)
number_found objects file None is = tt
number_found objects file (Some n) is =
    let (within, same, first) = position-Some (λ (p : ℕ). p == file) (files_of objects) n file (sym is) in
    slice_get-get_or (files_of objects) n file within ∙ ap (λ (p : ℕ). Some p) (same_numbers (get_or (files_of objects) n file) file same)
