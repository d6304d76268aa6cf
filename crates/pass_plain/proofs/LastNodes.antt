-- An object's node after a history: the node of its last entry, and how high its versions are.
use Rattle.std.proofs.Common.{◌≡◌, ◌<◌, ◌+◌, ◌^◌, ◌==◌, ℕ, suc, List, [], ◌∷◌, ◌++◌, length, refl, ap, sym, ◌∙◌, arith, Bool, true, false, ◌||◌, append_assoc, append-nil, length-append}
use Rattle.std.specs.Prelude.{Option, Some, None, find, is_some, if◌then◌else◌}
use Rattle.std.specs.Option.{option_map_or}
use Rattle.std.proofs.lemmas.List.Sums.{fold-append}
use Rattle.pass_entry.specs.declared.entry.Entry.{Entry}
use Rattle.pass_entry.specs.declared.objects.Node.{Node}
use Rattle.pass_entry.proofs.Places.{found_at}
use Rattle.pass_plain.specs.declared.start.StartFile.{StartFile}
use Rattle.pass_plain.specs.Sessions.{Session, opened_file, opened_app, opening_version}
use Rattle.pass_plain.specs.Sound.{IsSound}
use Rattle.pass_plain.specs.Legal.{IsLegal, MayFollow}
use Rattle.pass_plain.specs.Versions.{version_in, node_in, nodes_of, node_at_entry, version_after, is_freeze}
use Rattle.pass_plain.proofs.Lists.{same_numbers, same_itself}
use Rattle.pass_plain.proofs.Calling.{legal_induction}
use Rattle.pass_plain.proofs.Versioned.{nodes_of-append}
use Rattle.pass_plain.proofs.Lineages.{lineage_law}

-- the node of an object's last entry is the object's
pub node_in-last : (session : Session) (nodes : List Node) (object : ℕ) (n : Node) → n.pnode ≡ object → node_in session (nodes ++ n ∷ []) object ≡ n
node_in-last session nodes object n same =
    let step : ℕ → Node → ℕ = λ v m. if m.pnode == object then m.version else v in
    let last : version_in session (nodes ++ n ∷ []) object ≡ n.version =
    fold-append step (opening_version session.start object) nodes (n ∷ []) ∙ ap (λ b. if b then n.version else version_in session nodes object) (ap (λ o. n.pnode == o) (sym same) ∙ same_itself n.pnode) in
    λ i. record { pnode = sym same i; version = last i }

pub node_in-entry : (session : Session) (past : List Entry) (e : Entry)
    → node_in session (nodes_of session (past ++ e ∷ [])) e.what ≡ node_at_entry session past (nodes_of session past) e
node_in-entry session past e =
    ap (λ ns. node_in session ns e.what) (nodes_of-append session past e)
    ∙ node_in-last session (nodes_of session past) e.what (node_at_entry session past (nodes_of session past) e) refl

-- the nodes of later entries stand behind those of the earlier ones
pub nodes_more : (session : Session) (seen later : List Entry) → (more : List Node) × (nodes_of session (seen ++ later) ≡ nodes_of session seen ++ more)
nodes_more session seen [] = ([], ap (λ h. nodes_of session h) (append-nil seen) ∙ sym (append-nil (nodes_of session seen)))
nodes_more session seen (e ∷ later) =
    let n : Node = node_at_entry session seen (nodes_of session seen) e in
    let rest : (more : List Node) × (nodes_of session ((seen ++ e ∷ []) ++ later) ≡ nodes_of session (seen ++ e ∷ []) ++ more) = nodes_more session (seen ++ e ∷ []) later in (
      n ∷ rest.0,
      ap (λ h. nodes_of session h) (sym (append_assoc seen (e ∷ []) later)) ∙ rest.1 ∙ ap (λ ns. ns ++ rest.0) (nodes_of-append session seen e)
          ∙ append_assoc (nodes_of session seen) (n ∷ []) rest.0,
    )

-- an object that is not of the opening begins with version 1
pub begins_at : (f : Option StartFile) (n : Option Node) → is_some f || is_some n ≡ false → option_map_or (λ (f : StartFile). f.node.version) f (option_map_or (λ (n : Node). n.version) n 1) ≡ 1
begins_at (Some f) n none = absurd (cc)
begins_at None (Some n) none = absurd (cc)
begins_at None None none = refl

-- a version of the opening is one that a record can have
pub opening_low : (session : Session) → IsSound session → (o : ℕ) → opening_version session.start o < 2 ^ 48
opening_low session sound o = by_file (opened_file session.start o) refl (opened_app session.start o) refl
  where
    by_file : (f : Option StartFile) → opened_file session.start o ≡ f → (n : Option Node) → opened_app session.start o ≡ n
        → option_map_or (λ f. f.node.version) f (option_map_or (λ n. n.version) n 1) < 2 ^ 48
    by_file (Some f) is n at = let (i, place) = found_at (λ (f : StartFile). f.node.pnode == o) session.start.files.items f is in (sound.files i f place).version.1
    by_file None is (Some n) at = let (i, place) = found_at (λ (n : Node). n.pnode == o) session.start.apps.items n at in (sound.apps i n place).1
    by_file None is None at = omega arith

-- each entry raises the version of its object by at most one
pub versions_low : (session : Session) → IsSound session → (history : List Entry) → IsLegal session history → (o : ℕ) → version_after session history o < 2 ^ 48 + length history
versions_low session sound = legal_induction session (λ history. (o : ℕ) → version_after session history o < 2 ^ 48 + length history)
    (λ o. let low = opening_low session sound o in omega (arith, low))
    (λ history e legal low next o. raised history e legal next o (low o) (e.what == o) refl)
  where
    one_more : (b : Bool) (v n : ℕ) → v < n → (if b then v + 1 else v) < n + 1
    one_more true v n low = omega arith
    one_more false v n low = omega arith

    raised : (history : List Entry) (e : Entry) → IsLegal session history → MayFollow session history e → (o : ℕ) → version_after session history o < 2 ^ 48 + length history
        → (b : Bool) → (e.what == o) ≡ b → version_after session (history ++ e ∷ []) o < 2 ^ 48 + length (history ++ e ∷ [])
    raised history e legal next o low true is =
        let here : e.what ≡ o = same_numbers e.what o is in
        let longer = length-append history (e ∷ []) in
        let moved = ap (λ (n : Node). n.version) (node_in-entry session history e) in
        let there = ap (λ o. version_after session (history ++ e ∷ []) o) here in
        let from = ap (λ o. version_after session history o) here in
        let more = one_more (is_freeze session history (nodes_of session history) e) (version_after session history e.what) (2 ^ 48 + length history) (omega (arith, low, from)) in
        omega (arith, longer, moved, there, more)
    raised history e legal next o low false is =
        let kept = ap (λ (n : Node). n.version) ((lineage_law session history e legal next).others o is).node in
        let longer = length-append history (e ∷ []) in
        omega (arith, kept, longer, low)
