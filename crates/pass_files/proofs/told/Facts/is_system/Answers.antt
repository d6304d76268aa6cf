use Rattle.std.proofs.Common.{◌∙◌, ap, sym}
use Rattle.std.specs.Option.{option_copied}
use Rattle.std.specs.Prelude.{Some, None}
use Rattle.pass_view.specs.Facts.{is_system_name}
use Rattle.pass_files.proofs.Called.{systems_are}
use Rattle.pass_files.proofs.told.Facts.is_system.Goals as goal

pub returns-in-Some : goal.returns-in-Some
returns-in-Some c = λ list are.
    c.is_system_name.ensures ∙ ap is_system_name c.as_bytes.ensures.bytes
    ∙ systems_are list c.args.pnode (Some c.in-Some.naming.now) (sym (ap option_copied c.in-Some.is) ∙ c.get.ensures.value ∙ are.names c.args.pnode)

pub returns-in-None : goal.returns-in-None
returns-in-None c = λ list are.
    systems_are list c.args.pnode None (sym (ap option_copied c.in-None.is) ∙ c.get.ensures.value ∙ are.names c.args.pnode)
