use Rattle.std.proofs.Common.{ℕ, ◌≡◌, sym, subst, List}
use Rattle.std.specs.Prelude.{IfOk}
use Rattle.pass_view.specs.Dots.{picture}
use Rattle.pass_view.specs.Texts.{text_in}
use Rattle.pass_view.specs.declared.texts.Form.{Form}
use Rattle.pass_view.proofs.texts.written.Goals as goal

pub returns-in-Dot : goal.returns-in-Dot
returns-in-Dot c = subst (λ (form : Form). IfOk c.dot.result (λ v. v.items ≡ text_in form c.args.view)) (sym c.in-Dot.is) c.dot.ensures

pub returns-in-Plain : goal.returns-in-Plain
returns-in-Plain c = subst (λ (form : Form). IfOk c.dot-in-Plain.result (λ v. v.items ≡ text_in form c.args.view)) (sym c.in-Plain.is)
    (subst (λ (text : List ℕ). IfOk c.dot-in-Plain.result (λ v. v.items ≡ text)) (λ i. picture (c.plain.ensures.nodes i) (c.plain.ensures.edges i)) c.dot-in-Plain.ensures)

pub returns-in-Prov : goal.returns-in-Prov
returns-in-Prov c = subst (λ (form : Form). IfOk c.prov.result (λ v. v.items ≡ text_in form c.args.view)) (sym c.in-Prov.is) c.prov.ensures
