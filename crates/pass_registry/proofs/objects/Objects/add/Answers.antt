use Rattle.std.proofs.Common.{◌≡◌, ◌<◌, ◌+◌, ◌-◌, ℕ, [], ◌∷◌, ◌++◌, ap, sym, ◌∙◌, subst, cond, arith, nat_eq, false}
use Rattle.std.specs.List.{list_any}
use Rattle.std.specs.Prelude.{◌==◌, IsOk, None}
use Rattle.std.specs.HashMap.{spare, get}
use Rattle.indexmap.proofs.CallerLemmas.{insert_entry-new}
use Rattle.pass_entry.specs.declared.objects.Kind.{Kind}
use Rattle.pass_entry.specs.declared.objects.Kind.TheVariants as kind
use Rattle.pass_entry.proofs.Variants.{on_ok}
use Rattle.pass_plain.specs.Registries.{same_kind}
use Rattle.pass_registry.specs.declared.objects.Objects.TheInside.{Inside}
use Rattle.pass_registry.specs.Tables.{ObjectState, IsTable, kinds_of, object_of}
use Rattle.pass_registry.proofs.TableLemmas.{Table, kinds_of-push, table-push, absent}
use Rattle.pass_registry.proofs.objects.Objects.add.Goals as goal
use Rattle.pass_registry.proofs.objects.Objects.add.Goals.{in-File, in-App, in-Process, in-Pipe}

add_none : (n : ℕ) → n ≡ n + 0
add_none n = omega arith

-- what the counts are once the kind was counted
record IsCounted (before after : Inside) (k : Kind) : Type 0 where
  table : after.table ≡ before.table
  files : after.files ≡ before.files + cond (same_kind k kind.File) 1 0
  apps : after.apps ≡ before.apps + cond (same_kind k kind.App) 1 0
  room : after.room ≡ before.room - 1

counted_file : (before after : Inside) (k : Kind) → k ≡ kind.File
    → after ≡ record { table = before.table; files = before.files + 1; apps = before.apps; room = before.room - 1 } → IsCounted before after k
counted_file before after k is made = record {
  table = ap (λ (s : Inside). s.table) made;
  files = ap (λ (s : Inside). s.files) made ∙ ap (λ x. before.files + cond (same_kind x kind.File) 1 0) (sym is);
  apps = ap (λ (s : Inside). s.apps) made ∙ add_none before.apps ∙ ap (λ x. before.apps + cond (same_kind x kind.App) 1 0) (sym is);
  room = ap (λ (s : Inside). s.room) made;
}

counted_app : (before after : Inside) (k : Kind) → k ≡ kind.App
    → after ≡ record { table = before.table; files = before.files; apps = before.apps + 1; room = before.room - 1 } → IsCounted before after k
counted_app before after k is made = record {
  table = ap (λ (s : Inside). s.table) made;
  files = ap (λ (s : Inside). s.files) made ∙ add_none before.files ∙ ap (λ x. before.files + cond (same_kind x kind.File) 1 0) (sym is);
  apps = ap (λ (s : Inside). s.apps) made ∙ ap (λ x. before.apps + cond (same_kind x kind.App) 1 0) (sym is);
  room = ap (λ (s : Inside). s.room) made;
}

uncounted : (before after : Inside) (k : Kind) → same_kind k kind.File ≡ false → same_kind k kind.App ≡ false
    → after ≡ record { table = before.table; files = before.files; apps = before.apps; room = before.room - 1 } → IsCounted before after k
uncounted before after k no_file no_app made = record {
  table = ap (λ (s : Inside). s.table) made;
  files = ap (λ (s : Inside). s.files) made ∙ add_none before.files ∙ ap (λ b. before.files + cond b 1 0) (sym no_file);
  apps = ap (λ (s : Inside). s.apps) made ∙ add_none before.apps ∙ ap (λ b. before.apps + cond b 1 0) (sym no_app);
  room = ap (λ (s : Inside). s.room) made;
}

counts : (c : goal.After-insert) → IsCounted c.self.inside c.match-kind.self-inside c.args.kind
counts c = elim c.match-kind.branch [
  | in-File w ↦ counted_file c.self.inside c.match-kind.self-inside c.args.kind w.in-File.is w.self-inside-is
  | in-App w ↦ counted_app c.self.inside c.match-kind.self-inside c.args.kind w.in-App.is w.self-inside-is
  | in-Process w ↦ uncounted c.self.inside c.match-kind.self-inside c.args.kind (ap (λ x. same_kind x kind.File) w.in-Process.is) (ap (λ x. same_kind x kind.App) w.in-Process.is) w.self-inside-is
  | in-Pipe w ↦ uncounted c.self.inside c.match-kind.self-inside c.args.kind (ap (λ x. same_kind x kind.File) w.in-Pipe.is) (ap (λ x. same_kind x kind.App) w.in-Pipe.is) w.self-inside-is
]

-- there is room for the object
roomy : (c : goal.After-insert) → IsOk c.insert.result
roomy c =
    let same : c.self.inside.room ≡ c.args.self.now.room = ap (λ (s : ObjectState). s.room) c.self.view_is in
    let kept : spare c.match-kind.self-inside.table ≡ spare c.self.inside.table = ap (λ t. spare t) (counts c).table in
    let room : 0 < spare c.match-kind.self-inside.table = let r = c.requires.room in let w = c.self.invariant.2 in omega (arith, same, kept, r, w) in
    c.insert.ensures.succeeds room

-- the new object stands behind the others
pushed : (c : goal.After-insert) → c.insert.new.self.entries ≡ c.self.inside.table.entries ++ (c.args.pnode, object_of c.args.kind c.self.inside.files) ∷ []
pushed c =
    let single = ap (λ (s : ObjectState). list_any (λ (o : ℕ × Kind). o.0 == c.args.pnode) s.objects) c.self.view_is ∙ c.requires.single in
    let none : get nat_eq c.match-kind.self-inside.table c.args.pnode ≡ None =
    ap (λ t. get nat_eq t c.args.pnode) (counts c).table ∙ absent c.args.pnode c.self.inside.table.entries single in
    on_ok c.insert.result (roomy c) c.insert.ensures.entries
    ∙ insert_entry-new nat_eq c.match-kind.self-inside.table c.args.pnode c.of-object.result none
    ∙ (λ i. ((counts c).table i).entries ++ (c.args.pnode, c.of-object.ensures i) ∷ [])

pub invariant_of-self : goal.invariant_of-self
invariant_of-self c =
    let counted = counts c in
    let before = c.self.inside in
    let pushed_table = table-push before.table.entries before.files before.apps c.args.pnode c.args.kind c.self.invariant.0 in
    let kept : spare c.match-kind.self-inside.table ≡ spare before.table = ap (λ t. spare t) counted.table in (
      subst (λ (t : Table). IsTable t c.match-kind.self-inside.files c.match-kind.self-inside.apps) (sym (pushed c))
          (subst (λ (f : ℕ). IsTable (before.table.entries ++ (c.args.pnode, object_of c.args.kind before.files) ∷ []) f c.match-kind.self-inside.apps) (sym counted.files)
          (subst (λ (a : ℕ). IsTable (before.table.entries ++ (c.args.pnode, object_of c.args.kind before.files) ∷ []) (before.files + cond (same_kind c.args.kind kind.File) 1 0) a)
          (sym counted.apps) pushed_table)),
      c.insert.ensures.unique,
      (let r = c.requires.room in let w = c.self.invariant.2 in let s = c.insert.ensures.spare in let room = counted.room in
          let same : before.room ≡ c.args.self.now.room = ap (λ (s : ObjectState). s.room) c.self.view_is in
          omega (arith, r, w, s, kept, room, same)),
    )

pub returns : goal.returns
returns c =
    let after : ObjectState → ObjectState = λ s. record { objects = s.objects ++ (c.args.pnode, c.args.kind) ∷ []; room = s.room - 1 } in
    (λ i. record {
      objects = (ap kinds_of (pushed c) ∙ kinds_of-push c.self.inside.table.entries c.args.pnode c.args.kind c.self.inside.files) i;
      room = (counts c).room i;
    }) ∙ ap after c.self.view_is
