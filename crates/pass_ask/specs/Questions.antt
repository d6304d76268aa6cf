-- Many questions at once: each line of a text asks one, by the words that ask it alone. This project's own rule.
use Rattle.std.specs.Prelude.{ℕ, ◌≡◌, ◌≢◌, ◌⊎◌, ◌↔◌, ◌<◌, Bool, IsTrue, List, [], ◌∷◌, ◌++◌, Option, Some, None, Result, Ok, Err, IsOk, IsSomeAnd, codes, map, option_and_then, if◌then◌else◌}
use Rattle.std.specs.Str.Lossy.{utf8_lossy}
use Rattle.pass_entry.specs.declared.record.Record.{Record}
use Rattle.pass_outside.specs.Faults.{HasRisen, HasStayed}
use Rattle.pass_outside.specs.Moments.{Moment}
use Rattle.pass_recover.specs.declared.fault.OpenFault.{OpenFault}
use Rattle.pass_status.specs.declared.status.Status.{Status}
use Rattle.pass_status.specs.declared.status.Status.TheVariants as status
use Rattle.pass_status.specs.Statuses.{status_text}
use Rattle.pass_status.specs.Stores.{store_fault}
use Rattle.pass_status.specs.Writing.{IsPartOfText}
use Rattle.pass_trace.specs.Lines.{lines_of, words_of}
use Rattle.pass_ask.specs.Answers.{SinkSeen, IsNoDiskFault, HasFailed, text_with}
use Rattle.pass_ask.specs.Asked.{HasPatternFault, IsAnswered, IsAnswerTo, IsAskJudged, IsPut}
use Rattle.pass_ask.specs.Words.{Text, question_of}
use Rattle.pass_ask.specs.declared.questions.Stop.{Stop}
use Rattle.pass_ask.specs.declared.questions.Stop.TheVariants as stop
use Rattle.pass_ask.specs.declared.words.Question.{Question}
use Rattle.pass_ask.specs.declared.words.Question.TheVariants.{Check, Graph, Match, Send}

-- What a line asks

-- the question, where it is one to the graph
abbrev pub to_graph : Question → Option Question
to_graph Check = None
to_graph (Graph q) = Some (Graph q)
to_graph (Match from pattern form) = Some (Match from pattern form)
to_graph (Send from) = None

-- `--json` stands before the words of each line where it is given for all, so that no `--` in a line can hide it
abbrev pub words_before : Bool → List Text
words_before json = if json then codes "--json" ∷ [] else []

-- words as the program would be given them; bytes that aren't UTF-8 are read as U+FFFD
abbrev pub words_with : Bool → List (List ℕ) → List Text
words_with json words = words_before json ++ map utf8_lossy words

abbrev pub line_words : Bool → List ℕ → List Text
line_words json line = words_with json (words_of line)

-- the question that a line asks of the graph
abbrev pub line_question : Bool → List ℕ → Option Question
line_question json line = option_and_then to_graph (question_of (line_words json line))

-- What is answered

-- What a question alone writes, over a log of these bytes and where no device call fails: its answer, or the text of the status that
-- refuses it.
pub record IsAnswerText (asked : Option Question) (m : Moment) (bytes : List ℕ) (text : List ℕ) : Type 0 where
  pub judged : Status
  pub by : IsAskJudged asked m m bytes judged
  pub quiet : IsNoDiskFault judged
  pub answer : judged ≡ status.Done → IsSomeAnd asked (λ q. IsAnswerTo q m bytes text)
  pub refusal : judged ≢ status.Done → text ≡ status_text judged

-- the text is that of an answer to each line, one behind the other
abbrev pub InTurn : (List ℕ → List ℕ → Type 0) → List (List ℕ) → List ℕ → Type 0
InTurn Answers [] text = text ≡ []
InTurn Answers (line ∷ lines) text = (first : List ℕ) × (rest : List ℕ) × Answers line first × InTurn Answers lines rest × (text ≡ first ++ rest)

-- the text is what the questions of these lines write, each alone
abbrev pub AreAnswers : Bool → Moment → List ℕ → List (List ℕ) → List ℕ → Type 0
AreAnswers json m bytes lines text = InTurn (λ line. IsAnswerText (line_question json line) m bytes) lines text

-- these are the first of some lines, and that is what their questions write
pub record AreBegun (json : Bool) (m : Moment) (bytes : List ℕ) (lines : List (List ℕ)) (text : List ℕ) : Type 0 where
  pub first : List (List ℕ)
  pub left : List (List ℕ)
  pub parts : lines ≡ first ++ left
  pub answers : AreAnswers json m bytes first text

-- What is judged of questions as a whole: the source's faults come first, then the device's, then the log's. A question that can't be
-- answered is no fault: it is told in its place.
pub record AreJudged (before after : ℕ) (old new : Moment) (bytes : List ℕ) (judged : Status) : Type 0 where
  pub read_fault : judged ≡ status.ReadFault ↔ HasRisen before after
  pub disk_fault : (opened now : ℕ) → judged ≡ status.DiskFault opened now → (¬ HasRisen before after) × HasFailed old new opened now
  -- and wherever the count rose
  pub unhidden : old.faults < new.faults → judged ≡ status.DiskFault old.faults new.faults
  pub bad_store : (fault : OpenFault) → judged ≡ status.BadStore fault ↔ ((¬ HasRisen before after) × IsNoDiskFault judged × (store_fault bytes ≡ Some fault))
  pub done : judged ≡ status.Done ↔ ((¬ HasRisen before after) × IsNoDiskFault judged × (store_fault bytes ≡ None))
  -- what the disk reads is as it was
  pub reads : IsNoDiskFault judged → new.seen ≡ old.seen

-- What stands behind the answer to lines, other than want of memory: the bytes of the log area, where the disk tells them; the status
-- that was judged, which is the answer unless the sink failed; and the text, which the sink took
pub record AreGiven (json : Bool) (lines : List (List ℕ)) (before after : ℕ) (old new : Moment) (sink : SinkSeen) (answered : Status) : Type 0 where
  pub bytes : List ℕ
  pub told : IsTrue old.tells → bytes ≡ old.seen.log
  pub judged : Status
  pub by : AreJudged before after old new bytes judged
  pub text : List ℕ
  pub answers : judged ≡ status.Done → answered ≢ status.WriteFault → AreAnswers json old bytes lines text
  -- a sink that failed was given the answers to the first lines
  pub begun : judged ≡ status.Done → answered ≡ status.WriteFault → AreBegun json old bytes lines text
  pub refusal : judged ≢ status.Done → text ≡ status_text judged
  pub stands : (answered ≡ judged) ⊎ (answered ≡ status.WriteFault)
  pub whole : answered ≢ status.WriteFault → IsTrue sink.tells → sink.after ≡ sink.before ++ text
  pub part : answered ≡ status.WriteFault → IsTrue sink.tells → IsPartOfText text sink.before sink.after

-- the answer to the lines of a source, which is read to its end unless it fails
pub record AreAsked (json : Bool) (tells : Bool) (left rest : List ℕ) (before after : ℕ) (old new : Moment) (sink : SinkSeen) (answered : Status) : Type 0 where
  pub lines : List ℕ
  pub read : IsTrue tells → ¬ HasRisen before after → (left ≡ lines) × (rest ≡ [])
  pub given : AreGiven json (lines_of lines) before after old new sink answered

-- Where memory was refused, the answers to some first lines were written.
pub record AreStarved (json : Bool) (lines : List (List ℕ)) (old : Moment) (sink : SinkSeen) : Type 0 where
  pub bytes : List ℕ
  pub told : IsTrue old.tells → bytes ≡ old.seen.log
  pub text : List ℕ
  pub begun : AreBegun json old bytes lines text
  pub whole : IsTrue sink.tells → sink.after ≡ sink.before ++ text

-- and these are lines of the source
pub record AreCut (json : Bool) (tells : Bool) (left : List ℕ) (old : Moment) (sink : SinkSeen) : Type 0 where
  pub lines : List ℕ
  pub read : IsTrue tells → left ≡ lines
  pub starved : AreStarved json (lines_of lines) old sink

-- How it goes

-- what is judged of a question over an index of these records, and the text of Done
abbrev pub IsToldOver : List Record → Option Question → Status → List ℕ → Type 0
IsToldOver list asked status.NoMemory text = Unit {0}
IsToldOver list asked status.BadWords text = asked ≡ None
IsToldOver list asked (status.BadPattern why) text = IsSomeAnd asked (λ q. HasPatternFault q why)
IsToldOver list asked judged text = IsSomeAnd asked (λ q. IsPut (Some q) × IsAnswered list q judged text)

-- what is written of that
pub record IsTold (list : List Record) (asked : Option Question) (text : List ℕ) : Type 0 where
  pub judged : Status
  pub known : judged ≢ status.NoMemory
  pub answer : List ℕ
  pub over : IsToldOver list asked judged answer
  pub is : text ≡ text_with judged answer

-- a sink took the whole text, or a beginning where it failed
abbrev pub Takes : {A : Type 0} → Bool → List ℕ → List ℕ → List ℕ → Result A Stop → Type 0
Takes tells before after text (Err stop.WriteFault) = IsTrue tells → IsPartOfText text before after
Takes tells before after text _ = IsTrue tells → after ≡ before ++ text

-- what the sink took of a text like this; nothing where memory was refused
abbrev pub IsTakenOf : {A : Type 0} → (List ℕ → Type 0) → Bool → List ℕ → List ℕ → Result A Stop → Type 0
IsTakenOf Says tells before after (Err stop.NoMemory) = IsTrue tells → after ≡ before
IsTakenOf Says tells before after result = (text : List ℕ) × Says text × Takes tells before after text result

-- the count of the sink's faults rose exactly where it failed
abbrev pub Counts : {A : Type 0} → ℕ → ℕ → Result A Stop → Type 0
Counts old new (Ok x) = HasStayed old new
Counts old new (Err stop.WriteFault) = HasRisen old new
Counts old new (Err stop.NoMemory) = new ≡ old

-- the status of that
abbrev pub stop_status : {A : Type 0} → Result A Stop → Status
stop_status (Ok x) = status.Done
stop_status (Err stop.WriteFault) = status.WriteFault
stop_status (Err stop.NoMemory) = status.NoMemory

-- what came of the lines: the first of them, or all, were answered, and the sink took what was written of these
pub record HaveCome {A : Type 0} (json : Bool) (list : List Record) (lines : List (List ℕ)) (tells : Bool) (before after : List ℕ) (result : Result A Stop) : Type 0 where
  pub first : List (List ℕ)
  pub left : List (List ℕ)
  pub parts : lines ≡ first ++ left
  pub all : IsOk result → left ≡ []
  pub text : List ℕ
  pub told : InTurn (λ line. IsTold list (line_question json line)) first text
  pub takes : Takes tells before after text result
