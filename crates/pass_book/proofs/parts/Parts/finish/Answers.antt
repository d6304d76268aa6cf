use Rattle.std.proofs.Common.{rules, ◌≡◌, [], ◌∷◌, ◌++◌, All, length, List, ◌<◌, subst, sym, ap, ◌∙◌, ◌⊎◌, inl, inr, Vec, Global}
use Rattle.std.proofs.lemmas.List.{map-append, nil_from_length}
use Rattle.std.proofs.lemmas.List.Elements.{All-push}
use Rattle.pass_entry.specs.declared.record.Record.{Record}
use Rattle.pass_book.specs.Records.{IsCrowded, IsPart}
use Rattle.pass_book.specs.Parting.{PartsState, IsParted, IsGrowing, lists_of}
use Rattle.pass_book.proofs.Parting.{parted_closed, crowded_front, part_within}
use Rattle.pass_book.proofs.parts.Parts.finish.Goals as goal
use Rattle.pass_book.proofs.parts.Parts.finish.Goals.{then-not-is_empty+in_ok-push, else-not-is_empty}

-- the parts without and with the one that grew
closed : (c : goal.Joined-drop) → ((lists_of c.if-not-is_empty.full.items ≡ c.args.self.full ++ c.args.self.part ∷ []) × (0 < length c.args.self.part)) ⊎ ((lists_of c.if-not-is_empty.full.items ≡ c.args.self.full) × (c.args.self.part ≡ []))
closed c =
    let full = ap (λ (p : PartsState). p.full) c.self.view_is in
    let part = ap (λ (p : PartsState). p.part) c.self.view_is in
    elim c.if-not-is_empty.branch [
      | then-not-is_empty+in_ok-push w ↦
          let some : 0 < length c.self.inside.part.items = search rules in
          let more = map-append (λ (p : Vec Record Global). p.items) c.self.inside.full.items (c.self.inside.part ∷ []) in
          inl (
            ap (λ v. lists_of v.items) w.full-is ∙ ap lists_of w.in_ok-push.ensures.items ∙ more ∙ ap (λ ls. ls ++ c.self.inside.part.items ∷ []) full
                ∙ ap (λ rs. c.args.self.full ++ rs ∷ []) part,
            subst (λ (rs : List Record). 0 < length rs) part some,
          )
      | else-not-is_empty w ↦
          let zero : length c.self.inside.part.items ≡ 0 = search rules in
          let none = nil_from_length c.self.inside.part.items zero in
          inr (ap (λ v. lists_of v.items) w.full-is ∙ full, sym part ∙ none)
    ]

growing : (c : goal.Joined-drop) → IsGrowing c.args.self c.self.inside.bytes
growing c = subst (λ (p : PartsState). IsGrowing p c.self.inside.bytes) c.self.view_is c.self.invariant

pub returns-clause-parted : goal.returns-clause-parted
returns-clause-parted c lists is =
    elim (closed c) [
      | inl l ↦ subst (λ (ls : List (List Record)). IsParted lists (record { full = ls; part = [] })) (sym l.0) (parted_closed lists c.args.self is)
      | inr r ↦ subst (λ (ls : List (List Record)). IsParted lists (record { full = ls; part = [] })) (sym r.0) (subst (λ (rs : List Record). IsParted lists (record { full = c.args.self.full; part = rs })) r.1 is)
    ]

pub returns-clause-each : goal.returns-clause-each
returns-clause-each c =
    elim (closed c) [
      | inl l ↦ subst (λ (ls : List (List Record)). All IsPart ls) (sym l.0) (All-push IsPart c.args.self.full c.args.self.part (growing c).each (l.1, part_within c.args.self _ (growing c)))
      | inr r ↦ subst (λ (ls : List (List Record)). All IsPart ls) (sym r.0) (growing c).each
    ]

pub returns-clause-crowded : goal.returns-clause-crowded
returns-clause-crowded c =
    elim (closed c) [
      | inl l ↦ subst IsCrowded (sym l.0) (growing c).crowded
      | inr r ↦ subst IsCrowded (sym r.0) (crowded_front c.args.self.full c.args.self.part (growing c).crowded)
    ]
