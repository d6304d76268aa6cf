use Rattle.std.proofs.Common.{◌≡◌, ◌∙◌, ◌*◌, rules, ℕ, Bool, true, false, cond, List, refl, sym, ap, subst}
use Rattle.std.specs.Prelude.{Option, None, Some, nat_le, if◌then◌else◌}
use Rattle.std.specs.Cmp.{unsigned_tied}
use Rattle.std.specs.Ordering.{eq_by_cmp, nat_cmp}
use Rattle.std.specs.BTreeMap.{get}
use Rattle.std.proofs.lemmas.Result.{on_ok_weaker}
use Rattle.pass_audit.specs.Courses.{IsNext}
use Rattle.pass_audit.specs.declared.state.State.{State}
use Rattle.pass_audit.specs.declared.steps.Step.{Step}
use Rattle.pass_audit.proofs.state.State.note.Goals as goal

pub returns-in-Made-clause-next : goal.returns-in-Made-clause-next
returns-in-Made-clause-next c =
    let old : State = c.args.self.now in
    let new : State = record old { is_file = c.in-Made.is_file } in
    subst (λ (s : Step). IsNext old s new) (sym c.in-Made.is) (record { is_file = refl; version = refl; size = refl; rows = λ block. refl })

pub returns-in-Version-clause-next : goal.returns-in-Version-clause-next
returns-in-Version-clause-next c =
    let old : State = c.args.self.now in
    let new : State = record old { version = c.in-Version.version } in
    subst (λ (s : Step). IsNext old s new) (sym c.in-Version.is) (record { is_file = refl; version = refl; size = refl; rows = λ block. refl })

pub returns-in_ok-gone-in-Size-clause-next : goal.returns-in_ok-gone-in-Size-clause-next
returns-in_ok-gone-in-Size-clause-next c =
    let old : State = c.args.self.now in
    let new : State = record old { size = c.in-Size.size; rows = c.cut.new.rows } in
    let next : IsNext old c.args.step.now new = subst (λ (s : Step). IsNext old s new) (sym c.in-Size.is) (record { is_file = refl; version = refl; size = refl; rows = c.in_ok-gone-in-Size.ensures.left }) in
    on_ok_weaker c.doubt_rows.result (λ _. next) c.doubt_rows.ensures

-- a block that lost no row has the same
same_row : (t : Bool) (old lost new : Option (List ℕ)) → new ≡ (if t then None else old) → lost ≡ (if t then old else None) → lost ≡ None → new ≡ old
same_row true old lost new left is none = left ∙ sym none ∙ is
same_row false old lost new left is none = left

pub returns-in_ok-gone-in-Size-clause-doubted : goal.returns-in_ok-gone-in-Size-clause-doubted
returns-in_ok-gone-in-Size-clause-doubted c =
    let rows = c.args.self.now.rows in
    let e = c.in_ok-gone-in-Size.ensures in
    on_ok_weaker c.doubt_rows.result (λ put b out.
    let d = put b out in
    (d.0, same_row (nat_le c.in-Size.size (b * 4096)) (get nat_cmp rows b) (get nat_cmp c.in_ok-gone-in-Size.gone b) (get nat_cmp c.cut.new.rows b) (e.left b) (e.gone b) d.1))
    c.doubt_rows.ensures

pub returns-in_ok-insert-in-Digest-clause-next : goal.returns-in_ok-insert-in-Digest-clause-next
returns-in_ok-insert-in-Digest-clause-next c =
    let old : State = c.args.self.now in
    let new : State = record old { rows = c.insert.new.self } in
    let from : c.from.result ≡ c.in-Digest.block = search rules in
    let next : IsNext old c.args.step.now new =
    subst (λ (s : Step). IsNext old s new) (sym c.in-Digest.is)
    (record {
      is_file = refl;
      version = refl;
      size = refl;
      rows = λ q. c.in_ok-insert-in-Digest.ensures.updates.0 q
          ∙ ap (λ (n : ℕ). cond (eq_by_cmp nat_cmp n q) (Some c.in-Digest.md5) (get nat_cmp old.rows q)) from
          ∙ ap (λ (b : Bool). cond b (Some c.in-Digest.md5) (get nat_cmp old.rows q)) (unsigned_tied c.in-Digest.block q);
    }) in
    on_ok_weaker c.doubt.result (λ _. next) c.doubt.ensures

pub returns-in_ok-insert-in-Digest-clause-doubted : goal.returns-in_ok-insert-in-Digest-clause-doubted
returns-in_ok-insert-in-Digest-clause-doubted c =
    let rows = c.args.self.now.rows in
    let from : c.from.result ≡ c.in-Digest.block = search rules in
    let again : c.from-in-Digest.result ≡ c.in-Digest.block = search rules in
    on_ok_weaker c.doubt.result (λ put q out.
    let d = put q out in (
      d.0,
      c.in_ok-insert-in-Digest.ensures.updates.0 q
          ∙ ap (λ (n : ℕ). cond (eq_by_cmp nat_cmp n q) (Some c.in-Digest.md5) (get nat_cmp rows q)) (from ∙ sym again)
          ∙ ap (λ (b : Bool). cond b (Some c.in-Digest.md5) (get nat_cmp rows q)) (unsigned_tied c.from-in-Digest.result q ∙ d.1),
    ))
    c.doubt.ensures
