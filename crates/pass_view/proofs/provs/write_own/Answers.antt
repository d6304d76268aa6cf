use Rattle.std.proofs.Common.{sym}
use Rattle.std.proofs.lemmas.List.Concat.{flat_map-append}
use Rattle.std.proofs.lemmas.Result.{on_ok_weaker}
use Rattle.pass_view.specs.Provs.{member_tokens, name_members, own_members, system_members, tokens_of}
use Rattle.pass_view.specs.declared.picture.Shown.{Shown}
use Rattle.pass_view.proofs.Adding.{both, same_added}
use Rattle.pass_view.proofs.provs.write_own.Goals as goal

pub returns : goal.returns
returns c = on_ok_weaker c.write_system.result (λ wrote.
    let shown : Shown = c.args.shown.now in
    same_added c.args.out.now c.write_system.new.out _ (tokens_of (own_members shown)) (sym (flat_map-append member_tokens (name_members shown.name) (system_members shown.is_system)))
    (both c.args.out.now c.write_own_name.new.out c.write_system.new.out (tokens_of (name_members shown.name)) (tokens_of (system_members shown.is_system)) c.in_ok-write_own_name.ensures wrote)) c.write_system.ensures
