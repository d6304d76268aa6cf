use Rattle.std.proofs.Common.{◌≡◌, ◌+◌, ℕ, cond, ap, sym, ◌∙◌}
use Rattle.std.specs.Prelude.{None}
use Rattle.pass_entry.specs.declared.entry.Entry.{Entry}
use Rattle.pass_entry.specs.declared.objects.Node.{Node}
use Rattle.pass_plain.specs.Legal.{session_of}
use Rattle.pass_plain.specs.Versions.{version_in, is_fresh, is_freeze}
use Rattle.pass_plain.specs.Recording.{is_fresh_at, is_freeze_at}
use Rattle.pass_reference.proofs.nodes.version_step.Goals as goal
use Rattle.pass_reference.proofs.nodes.version_step.Goals.{then-freezes, else-freezes, then-fresh, else-fresh}

pub returns : goal.returns
returns c =
    let start = c.args.start.now in
    let history = c.args.history.now in
    let nodes = c.args.nodes.now in
    let e : Entry = c.args.e.now in
    let version : c.version_in-version.result ≡ version_in (session_of start 0) nodes e.what = c.version_in-version.ensures in
    let here : ℕ → Node = λ v. record { pnode = e.what; version = v } in
    let fresh : c.is_fresh-fresh.result ≡ is_fresh (session_of start 0) history nodes e =
    c.is_fresh-fresh.ensures ∙ (λ i. is_fresh_at history nodes (here (version i)) (c.source_in-source.ensures i) e) in
    let freezes : c.is_freeze-freezes.result ≡ is_freeze (session_of start 0) history nodes e =
    c.is_freeze-freezes.ensures ∙ (λ i. is_freeze_at start history nodes (here (version i)) (fresh i) e) in
    let next : c.if-freezes.result ≡ cond c.is_freeze-freezes.result (c.version_in-version.result + 1) c.version_in-version.result =
    elim c.if-freezes.branch [
      | then-freezes w ↦ w.result-is ∙ ap (λ b. cond b (c.version_in-version.result + 1) c.version_in-version.result) (sym w.if-freezes.true)
      | else-freezes w ↦ w.result-is ∙ ap (λ b. cond b (c.version_in-version.result + 1) c.version_in-version.result) (sym w.if-freezes.false)
    ] in
    let taken : c.if-fresh.result ≡ cond c.is_fresh-fresh.result c.source_in-source.result None =
    elim c.if-fresh.branch [
      | then-fresh w ↦ w.result-is ∙ ap (λ b. cond b c.source_in-source.result None) (sym w.if-fresh.true)
      | else-fresh w ↦ w.result-is ∙ ap (λ b. cond b c.source_in-source.result None) (sym w.if-fresh.false)
    ] in
    record {
      node = ap here next ∙ (λ i. here (cond (freezes i) (version i + 1) (version i)));
      freezes = freezes;
      source = taken ∙ (λ i. cond (fresh i) (c.source_in-source.ensures i) None);
    }
