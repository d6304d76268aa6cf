use Rattle.std.proofs.Common.{◌≡◌, ◌∙◌, refl, sym, ap}
use Rattle.std.specs.Prelude.{ℕ, List, None}
use Rattle.std.proofs.lemmas.Result.{on_ok_weaker}
use Rattle.pass_entry.specs.declared.record.Record.{Record}
use Rattle.pass_entry.specs.declared.record.Record.TheVariants as log
use Rattle.pass_waldo.specs.Lookups.{value_in}
use Rattle.pass_waldo.proofs.Indexing.{name_added, value_added, texts_stay}
use Rattle.pass_waldo.proofs.texts.Texts.note.Goals as goal

-- other records give no attribute
quiet : (r : Record) (attr : List ℕ) → ((n : _) (a v : List ℕ) → r ≡ log.Attr n a v → ⊥) → value_in attr r ≡ None
quiet (log.Attr n a v) attr other = absurd (other n a v refl)
quiet _ attr other = refl

pub returns-in-Name : goal.returns-in-Name
returns-in-Name c = on_ok_weaker c.add_file.result (λ files list are.
    name_added list c.args.one.now c.in-Name.pnode c.as_bytes.result.now (c.in-Name.is ∙ ap (log.Name c.in-Name.pnode) (sym c.as_bytes.ensures.bytes)) c.args.self.now c.add_file.new.self files c.add_file.ensures.values are) c.add_file.ensures.files

pub returns-in-Attr : goal.returns-in-Attr
returns-in-Attr c = on_ok_weaker c.add_value.result (λ values list are.
    value_added list c.args.one.now c.in-Attr.node c.as_bytes-in-Attr.result.now c.in-Attr.value
    (c.in-Attr.is ∙ ap (λ attr. log.Attr c.in-Attr.node attr c.in-Attr.value) (sym c.as_bytes-in-Attr.ensures.bytes)) c.args.self.now c.add_value.new.self values c.add_value.ensures.files are) c.add_value.ensures.values

pub returns-in_default : goal.returns-in_default
returns-in_default c = λ list are.
    texts_stay list c.args.one.now (λ p name is. c.in_default.not-Name p name is) (λ attr. quiet c.args.one.now attr (λ n a v is. c.in_default.not-Attr n a v is)) c.args.self.now are
