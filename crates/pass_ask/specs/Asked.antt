-- What a question about a store is answered, and what is written. This project's own rule.
use Rattle.std.specs.Prelude.{ℕ, ◌≡◌, ◌≢◌, ◌⊎◌, ◌↔◌, ◌<◌, IsTrue, List, ◌++◌, Option, Some, None, Result, Ok, Err, IsSomeAnd}
use Rattle.std.specs.declared.alloc.Global.{Global}
use Rattle.std.specs.declared.vec.Vec.{Vec}
use Rattle.pass_entry.specs.declared.objects.Node.{Node}
use Rattle.pass_entry.specs.declared.record.Record.{Record}
use Rattle.pass_log.specs.Records.{Held, image_of}
use Rattle.pass_outside.specs.Moments.{Moment}
use Rattle.pass_plain.specs.WellLogged.{IsWellLogged}
use Rattle.pass_graph.specs.ListRanks.{HasNode}
use Rattle.pass_pattern.specs.declared.fault.PatternFault.{PatternFault}
use Rattle.pass_recover.specs.declared.fault.OpenFault.{OpenFault}
use Rattle.pass_standby.specs.Sending.{IsPlace, IsSent}
use Rattle.pass_status.specs.declared.status.Status.{Status}
use Rattle.pass_status.specs.declared.status.Status.TheVariants as status
use Rattle.pass_status.specs.Statuses.{status_text}
use Rattle.pass_status.specs.Stores.{store_fault}
use Rattle.pass_status.specs.Writing.{IsPartOfText}
use Rattle.pass_ask.specs.Answers.{SinkSeen, IsNoDiskFault, HasFailed}
use Rattle.pass_ask.specs.Checks.{IsCheckText}
use Rattle.pass_ask.specs.GraphAnswers.{IsGraphText, IsMissing}
use Rattle.pass_ask.specs.Matches.{IsMatched, IsPatternFault}
use Rattle.pass_query.specs.declared.fault.QueryFault.{QueryFault}
use Rattle.pass_query.specs.declared.fault.QueryFault.TheVariants as query
use Rattle.pass_ask.specs.declared.words.Question.{Question}
use Rattle.pass_ask.specs.declared.words.Question.TheVariants.{Check, Graph, Match, Send}

-- the text with which the graph of the records answers
abbrev pub IsGraphAnswer : List Record → Question → List ℕ → Type 0
IsGraphAnswer list Check text = ⊥
IsGraphAnswer list (Graph q) text = IsGraphText list q text
IsGraphAnswer list (Match from pattern form) text = IsMatched list pattern from form text
IsGraphAnswer list (Send from) text = ⊥

-- the question is about this node, the first one given that the graph of the records hasn't
abbrev pub IsLacking : List Record → Question → Node → Type 0
IsLacking list Check node = ⊥
IsLacking list (Graph q) node = IsMissing list q node
IsLacking list (Match from pattern form) node = (node ≡ from) × ¬ (HasNode list from)
IsLacking list (Send from) node = ⊥

-- the text that answers a question, for a log area with these bytes
abbrev pub IsAnswerTo : Question → Moment → List ℕ → List ℕ → Type 0
IsAnswerTo Check old bytes text = IsCheckText old bytes text
IsAnswerTo (Send from) old bytes text = IsSent bytes from text
IsAnswerTo q old bytes text = (held : Held) × (image_of bytes ≡ Ok held) × IsGraphAnswer held.list q text

-- the graph of the log lacks this node of the question
abbrev pub IsUnknown : Question → List ℕ → Node → Type 0
IsUnknown q bytes node = (held : Held) × (image_of bytes ≡ Ok held) × IsLacking held.list q node

-- the question gives this place, at which no frame of the log stands, nor does the log end there
abbrev pub IsNowhere : Question → List ℕ → ℕ → Type 0
IsNowhere (Send from) bytes place = (place ≡ from) × ¬ (IsPlace bytes from)
IsNowhere _ bytes place = ⊥

-- the log has what the question gives
pub record HasGiven (q : Question) (bytes : List ℕ) : Type 0 where
  pub node : (node : Node) → ¬ (IsUnknown q bytes node)
  pub place : (place : ℕ) → ¬ (IsNowhere q bytes place)

-- why what the question gives as a pattern is none
abbrev pub HasPatternFault : Question → PatternFault → Type 0
HasPatternFault (Match from pattern form) fault = IsPatternFault pattern fault
HasPatternFault _ fault = ⊥

-- the words ask a question, and a pattern that it gives is one
abbrev pub IsPut : Option Question → Type 0
IsPut asked = IsSomeAnd asked (λ q. (fault : PatternFault) → ¬ (HasPatternFault q fault))

-- the log has no fault
abbrev pub IsSoundLog : List ℕ → Status → Type 0
IsSoundLog bytes judged = IsNoDiskFault judged × (store_fault bytes ≡ None)

-- What is judged by the question that the words ask, the disk before and after, and the bytes of its log area. The words come
-- first, then the question's pattern, the device's faults, what the log has, and then the nodes or the place of the question.
pub record IsAskJudged (asked : Option Question) (old new : Moment) (bytes : List ℕ) (judged : Status) : Type 0 where
  pub bad_words : judged ≡ status.BadWords ↔ (asked ≡ None)
  pub bad_pattern : (fault : PatternFault) → judged ≡ status.BadPattern fault ↔ IsSomeAnd asked (λ q. HasPatternFault q fault)
  pub disk_fault : (opened now : ℕ) → judged ≡ status.DiskFault opened now → IsPut asked × HasFailed old new opened now
  -- and wherever the count rose
  pub unhidden : IsPut asked → old.faults < new.faults → judged ≡ status.DiskFault old.faults new.faults
  pub bad_store : (fault : OpenFault) → judged ≡ status.BadStore fault ↔ (IsPut asked × IsNoDiskFault judged × (store_fault bytes ≡ Some fault))
  pub no_object : (node : Node) → judged ≡ status.NoObject node ↔ (IsPut asked × IsSoundLog bytes judged × IsSomeAnd asked (λ q. IsUnknown q bytes node))
  pub no_frame : (place : ℕ) → judged ≡ status.NoFrame place ↔ (IsPut asked × IsSoundLog bytes judged × IsSomeAnd asked (λ q. IsNowhere q bytes place))
  pub done : judged ≡ status.Done ↔ (IsPut asked × IsSoundLog bytes judged × IsSomeAnd asked (λ q. HasGiven q bytes))
  -- what the disk reads is as it was
  pub reads : IsNoDiskFault judged → new.seen ≡ old.seen

-- What stands behind an answer other than want of memory: the bytes of the log area, where the disk tells them; the status
-- that was judged by them, which is the answer unless the sink failed; and its text, which the sink took
pub record IsAsked (asked : Option Question) (old new : Moment) (sink : SinkSeen) (answered : Status) : Type 0 where
  pub bytes : List ℕ
  pub told : IsTrue old.tells → bytes ≡ old.seen.log
  pub judged : Status
  pub by : IsAskJudged asked old new bytes judged
  pub text : List ℕ
  pub answer : judged ≡ status.Done → IsSomeAnd asked (λ q. IsAnswerTo q old bytes text)
  pub refusal : judged ≢ status.Done → text ≡ status_text judged
  pub stands : (answered ≡ judged) ⊎ (answered ≡ status.WriteFault)
  pub whole : answered ≢ status.WriteFault → IsTrue sink.tells → sink.after ≡ sink.before ++ text
  pub part : answered ≡ status.WriteFault → IsTrue sink.tells → IsPartOfText text sink.before sink.after

-- the records are those of a log area with these bytes, and well logged
pub record IsLogOf (bytes : List ℕ) (list : List Record) : Type 0 where
  pub held : Held
  pub image : image_of bytes ≡ Ok held
  pub list_is : held.list ≡ list
  pub logged : IsWellLogged list

-- what is judged of a question to the graph of records, and its text
abbrev pub IsAnswered : List Record → Question → Status → List ℕ → Type 0
IsAnswered list q status.Done text = ((n : Node) → ¬ (IsLacking list q n)) × IsGraphAnswer list q text
IsAnswered list q (status.NoObject node) text = IsLacking list q node × ((n : Node) → IsLacking list q n → n ≡ node)
IsAnswered list q status.NoMemory text = Unit {0}
IsAnswered list q _ text = ⊥

-- the status and the text of what was answered
abbrev pub IsGiven : Result (Vec ℕ Global) QueryFault → Status → List ℕ → Type 0
IsGiven (Ok answer) judged text = (judged ≡ status.Done) × (text ≡ answer.items)
IsGiven (Err (query.NoObject node)) judged text = judged ≡ status.NoObject node
IsGiven (Err query.NoMemory) judged text = judged ≡ status.NoMemory

-- the status that refuses the text of a pattern
abbrev pub IsPatternStatus : List ℕ → Status → Type 0
IsPatternStatus text (status.BadPattern fault) = IsPatternFault text fault
IsPatternStatus text status.NoMemory = Unit {0}
IsPatternStatus text _ = ⊥

-- a question was read, or bad words, unless memory was refused
abbrev pub IsQuestionRead : Result Question Status → Type 0
IsQuestionRead (Ok question) = Unit {0}
IsQuestionRead (Err status.BadWords) = Unit {0}
IsQuestionRead (Err status.NoMemory) = Unit {0}
IsQuestionRead (Err _) = ⊥

abbrev pub asked_in : Result Question Status → Option Question
asked_in (Ok question) = Some question
asked_in (Err judged) = None
