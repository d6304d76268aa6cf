-- The patterns that questions give. This project's own rule.
use Rattle.std.specs.Prelude.{ℕ, List}
use Rattle.pass_entry.specs.declared.objects.Node.{Node}
use Rattle.pass_entry.specs.declared.record.Record.{Record}
use Rattle.pass_pattern.specs.Answers.{IsMatchText}
use Rattle.pass_pattern.specs.Grammar.{IsBad, IsLong, IsText}
use Rattle.pass_pattern.specs.Grammar.Binding.{alt}
use Rattle.pass_pattern.specs.Patterns.{Shape}
use Rattle.pass_pattern.specs.declared.fault.PatternFault.{PatternFault}
use Rattle.pass_pattern.specs.declared.fault.PatternFault.TheVariants.{Long, Bad, NoMemory}
use Rattle.pass_query.specs.declared.question.Form.{Form}

-- the text is that of a pattern of this shape, and not too long
abbrev pub IsOfShape : List ℕ → Shape → Type 0
IsOfShape text shape = IsText alt shape text × ¬ (IsLong text)

-- why the text is no pattern
abbrev pub IsPatternFault : List ℕ → PatternFault → Type 0
IsPatternFault text Long = IsLong text
IsPatternFault text (Bad at) = IsBad text at
IsPatternFault text NoMemory = ⊥

-- the text of the nodes to which paths of the pattern's shape lead
abbrev pub IsMatched : List Record → List ℕ → Node → Form → List ℕ → Type 0
IsMatched list pattern from form text = (shape : Shape) × IsOfShape pattern shape × IsMatchText list shape from form text
