-- Lines that are answered in their order.
use Rattle.std.proofs.Common.{ℕ, ◌≡◌, ◌∙◌, ◌<◌, refl, sym, ap, subst, Bool, false, List, [], ◌∷◌, ◌++◌, append_assoc, append-nil, ◌⊎◌, inl, inr, arith}
use Rattle.std.specs.Prelude.{◌≢◌, ◌↔◌, Option, Some, None, Result, Ok, Err, IsTrue, option_and_then, option_map, if◌then◌else◌}
use Rattle.pass_entry.specs.declared.objects.Node.{Node}
use Rattle.pass_entry.specs.declared.record.Record.{Record}
use Rattle.pass_outside.specs.Faults.{HasRisen, HasStayed}
use Rattle.pass_outside.specs.Moments.{Moment, IsAtEnd}
use Rattle.pass_plain.specs.WellLogged.{IsWellLogged}
use Rattle.pass_query.specs.declared.question.Form.{Form}
use Rattle.pass_recover.specs.declared.fault.OpenFault.{OpenFault}
use Rattle.pass_recover.specs.declared.fault.OpenFault.TheVariants.{DiskFault, BadFrame, BadRecord, Flaw, NoMemory}
use Rattle.pass_recover.specs.Faults.{IsCauseOf, LogHas}
use Rattle.pass_status.specs.declared.status.Status.{Status}
use Rattle.pass_status.specs.declared.status.Status.TheVariants as status
use Rattle.pass_status.specs.Statuses.{status_of_opening, status_text}
use Rattle.pass_status.specs.Stores.{image_fault, store_fault}
use Rattle.pass_status.specs.Writing.{IsPartOfText}
use Rattle.pass_trace.specs.Lines.{lines_of}
use Rattle.pass_ask.specs.Answers.{SinkSeen, is_reported, text_with}
use Rattle.pass_ask.specs.Asked.{IsAnswered, IsAskJudged, IsLogOf, IsPatternStatus, IsPut}
use Rattle.pass_ask.specs.Questions.{AreAnswers, AreAsked, AreCut, AreGiven, AreStarved, AreJudged, Counts, HaveCome, InTurn, IsAnswerText, IsTakenOf, IsTold, IsToldOver, line_question, stop_status, to_graph}
use Rattle.pass_ask.specs.Words.{Reads}
use Rattle.pass_ask.specs.declared.questions.Stop.{Stop}
use Rattle.pass_ask.specs.declared.questions.Stop.TheVariants as stop
use Rattle.pass_ask.specs.declared.words.Question.{Question}
use Rattle.pass_ask.specs.declared.words.Question.TheVariants.{Match}
use Rattle.pass_ask.proofs.Answering.{answered_by, pattern_judged, words_judged}
use Rattle.pass_ask.proofs.Written.{stands_as}

-- Texts

pub turn_more : (P : List ℕ → List ℕ → Type 0) (lines : List (List ℕ)) (line text more : List ℕ) → InTurn P lines text → P line more → InTurn P (lines ++ line ∷ []) (text ++ more)
turn_more P [] line text more none is = (more, [], is, refl, ap (λ t. t ++ more) none ∙ sym (append-nil more))
turn_more P (l ∷ lines) line text more (first, rest, one, others, parts) is =
    (first, rest ++ more, one, turn_more P lines line rest more others is, ap (λ t. t ++ more) parts ∙ append_assoc first rest more)

pub turn_by : (P Q : List ℕ → List ℕ → Type 0) → ((line text : List ℕ) → P line text → Q line text) → (lines : List (List ℕ)) (text : List ℕ) → InTurn P lines text → InTurn Q lines text
turn_by P Q by [] text none = none
turn_by P Q by (line ∷ lines) text (first, rest, one, others, parts) = (first, rest, by line first one, turn_by P Q by lines rest others, parts)

-- What is judged of a line

pub over_question : (list : List Record) (q : Question) (judged : Status) (text : List ℕ) → IsPut (Some q) → IsAnswered list q judged text → IsToldOver list (Some q) judged text
over_question list q status.Done text put is = (put, is)
over_question list q (status.NoObject node) text put is = (put, is)
over_question list q status.NoMemory text put is = tt
over_question list q _ text put is = absurd is

-- a pattern that was refused
pub over_pattern : (list : List Record) (from : Node) (pattern : List ℕ) (form : Form) (text : List ℕ) (judged : Status) → IsPatternStatus pattern judged → IsToldOver list (Some (Match from pattern form)) judged text
over_pattern list from pattern form text (status.BadPattern why) is = is
over_pattern list from pattern form text status.NoMemory is = tt
over_pattern list from pattern form text _ is = absurd is

-- the question to the graph of a line that was read
pub asks_so : (r : Result Question Status) (asked : Option Question) → Reads r asked → (q read : Question) → r ≡ Ok read → read ≡ q → option_and_then to_graph asked ≡ to_graph q
asks_so r asked reads q read is same = ap (option_and_then to_graph) (subst (λ (x : Result Question Status). Reads x asked) (is ∙ ap (λ x. Ok x) same) reads)

-- a line whose words are refused
module _ (r : Result Question Status) (asked : Option Question) (reads : Reads r asked) (s : Status) where
  pub over_refused : (list : List Record) (text : List ℕ) → r ≡ Err s → IsToldOver list (option_and_then to_graph asked) s text
  over_refused list text is = by s (subst (λ (x : Result Question Status). Reads x asked) is reads)
    where
      by : (t : Status) → Reads {X = Question} (Err t) asked → IsToldOver list (option_and_then to_graph asked) t text
      by status.BadWords none = ap (option_and_then to_graph) none
      by status.NoMemory none = tt
      by _ none = absurd none

  pub refused_unwritten : r ≡ Err s → s ≢ status.WriteFault
  refused_unwritten is = by s (subst (λ (x : Result Question Status). Reads x asked) is reads)
    where
      by : (t : Status) → Reads {X = Question} (Err t) asked → t ≢ status.WriteFault
      by status.BadWords none same = absurd (cc)
      by status.NoMemory none same = absurd (cc)
      by _ none same = absurd none

-- what is written of a line is what its question alone writes
module _ (list : List Record) (m : Moment) (bytes : List ℕ) (of : IsLogOf bytes list) where
  answer_text : (asked : Option Question) (s : Status) (answer : List ℕ) → s ≢ status.NoMemory → IsToldOver list asked s answer → IsAnswerText asked m bytes (text_with s answer)
  answer_text asked status.BadWords answer known none = record {
    judged = status.BadWords;
    by = subst (λ (a : Option Question). IsAskJudged a m m bytes status.BadWords) (sym none) (words_judged m bytes);
    quiet = λ opened now is. absurd (cc);
    answer = λ is. absurd (cc);
    refusal = λ other. refl;
  }
  answer_text (Some q) (status.BadPattern why) answer known has = record {
    judged = status.BadPattern why;
    by = pattern_judged q m bytes why has;
    quiet = λ opened now is. absurd (cc);
    answer = λ is. absurd (cc);
    refusal = λ other. refl;
  }
  answer_text (Some q) status.Done answer known (put, is) =
      let by = answered_by q put m m bytes list status.Done answer of refl refl known is in record {
        judged = status.Done;
        by = by.0;
        quiet = λ opened now is. absurd (cc);
        answer = by.1;
        refusal = λ other. absurd (other refl);
      }
  answer_text (Some q) (status.NoObject node) answer known (put, is) =
      let by = answered_by q put m m bytes list (status.NoObject node) answer of refl refl known is in record {
        judged = status.NoObject node;
        by = by.0;
        quiet = λ opened now is. absurd (cc);
        answer = λ done. absurd (cc);
        refusal = λ other. refl;
      }
  answer_text asked status.NoMemory answer known told = absurd (known refl)
  answer_text (Some q) _ answer known told = absurd told.1
  answer_text None _ answer known told = absurd told

  pub told_text : (asked : Option Question) (text : List ℕ) → IsTold list asked text → IsAnswerText asked m bytes text
  told_text asked text told = subst (IsAnswerText asked m bytes) (sym told.is) (answer_text asked told.judged told.answer told.known told.over)

all_answered : (json : Bool) (m : Moment) (bytes : List ℕ) (list : List Record) → IsLogOf bytes list → (lines : List (List ℕ)) (text : List ℕ) → InTurn (λ line. IsTold list (line_question json line)) lines text
    → AreAnswers json m bytes lines text
all_answered json m bytes list of lines text = turn_by (λ line. IsTold list (line_question json line)) (λ line. IsAnswerText (line_question json line) m bytes)
    (λ line text is. told_text list m bytes of (line_question json line) text is) lines text

-- What a sink took

pub taken_of : {A : Type 0} (P Q : List ℕ → Type 0) (tells : Bool) (before after : List ℕ) (r : Result A Stop) → ((text : List ℕ) → P text → Q text) → IsTakenOf P tells before after r → IsTakenOf Q tells before after r
taken_of P Q tells before after (Ok x) by (text, is, took) = (text, by text is, took)
taken_of P Q tells before after (Err stop.WriteFault) by (text, is, took) = (text, by text is, took)
taken_of P Q tells before after (Err stop.NoMemory) by took = took

-- some first lines were answered, and the rest is left
pub record Going (json : Bool) (list : List Record) (lines rest : List (List ℕ)) (tells : Bool) (before after : List ℕ) : Type 0 where
  pub first : List (List ℕ)
  pub parts : lines ≡ first ++ rest
  pub text : List ℕ
  pub told : InTurn (λ line. IsTold list (line_question json line)) first text
  pub took : IsTrue tells → after ≡ before ++ text

module _ (json : Bool) (list : List Record) (lines : List (List ℕ)) (tells : Bool) (before : List ℕ) where
  -- before the first line
  pub goes_first : {A : Type 0} (after : List ℕ) (r : Result A Stop) (x : A) → r ≡ Ok x → IsTakenOf (λ text. (status.Done ≢ status.NoMemory) × (text ≡ [])) tells before after r
      → Going json list lines lines tells before after
  goes_first after (Ok y) x ok (text, is, took) = record { first = []; parts = refl; text = []; told = refl; took = λ told. took told ∙ ap (λ t. before ++ t) is.1 }
  goes_first after (Err why) x ok took = absurd (cc)

  -- or the sink failed there
  stopped_first : {B : Type 0} (A : Type 0) (after : List ℕ) (why : Stop) → IsTakenOf {A = A} (λ text. (status.Done ≢ status.NoMemory) × (text ≡ [])) tells before after (Err why) → HaveCome {A = B} json list lines tells before after (Err why)
  stopped_first A after stop.WriteFault (text, is, took) = record {
    first = [];
    left = lines;
    parts = refl;
    all = λ ok. absurd (cc);
    text = [];
    told = refl;
    takes = subst (λ t. IsTrue tells → IsPartOfText t before after) is.1 took;
  }
  stopped_first A after stop.NoMemory took = record {
    first = [];
    left = lines;
    parts = refl;
    all = λ ok. absurd (cc);
    text = [];
    told = refl;
    takes = λ told. took told ∙ sym (append-nil before);
  }

  pub stops_first : {A B : Type 0} (after : List ℕ) (r : Result A Stop) (why : Stop) → r ≡ Err why → IsTakenOf (λ text. (status.Done ≢ status.NoMemory) × (text ≡ [])) tells before after r
      → HaveCome {A = B} json list lines tells before after (Err why)
  stops_first {A} after r why is took =
      stopped_first A after why (subst (λ (x : Result A Stop). IsTakenOf (λ text. (status.Done ≢ status.NoMemory) × (text ≡ [])) tells before after x) is took)

  module _ (line : List ℕ) (rest : List (List ℕ)) (after : List ℕ) (going : Going json list lines (line ∷ rest) tells before after) where
    longer : lines ≡ (going.first ++ line ∷ []) ++ rest
    longer = going.parts ∙ sym (append_assoc going.first (line ∷ []) rest)

    -- one more line
    pub goes_on : {A : Type 0} (new : List ℕ) (r : Result A Stop) (x : A) → r ≡ Ok x → IsTakenOf (IsTold list (line_question json line)) tells after new r → Going json list lines rest tells before new
    goes_on new (Ok y) x ok (more, is, took) = record {
      first = going.first ++ line ∷ [];
      parts = longer;
      text = going.text ++ more;
      told = turn_more (λ l. IsTold list (line_question json l)) going.first line going.text more going.told is;
      took = λ told. took told ∙ ap (λ t. t ++ more) (going.took told) ∙ append_assoc before going.text more;
    }
    goes_on new (Err why) x ok took = absurd (cc)

    -- or it stops there
    stopped : {B : Type 0} (A : Type 0) (new : List ℕ) (why : Stop) → IsTakenOf {A = A} (IsTold list (line_question json line)) tells after new (Err why) → HaveCome {A = B} json list lines tells before new (Err why)
    stopped A new stop.WriteFault (more, is, took) = record {
      first = going.first ++ line ∷ [];
      left = rest;
      parts = longer;
      all = λ ok. absurd (cc);
      text = going.text ++ more;
      told = turn_more (λ l. IsTold list (line_question json l)) going.first line going.text more going.told is;
      takes = λ told. let part = took told in record {
        wrote = going.text ++ part.wrote;
        rest = part.rest;
        parts = ap (λ t. going.text ++ t) part.parts ∙ sym (append_assoc going.text part.wrote part.rest);
        taken = part.taken ∙ ap (λ t. t ++ part.wrote) (going.took told) ∙ append_assoc before going.text part.wrote;
      };
    }
    stopped A new stop.NoMemory took = record {
      first = going.first;
      left = line ∷ rest;
      parts = going.parts;
      all = λ ok. absurd (cc);
      text = going.text;
      told = going.told;
      takes = λ told. took told ∙ going.took told;
    }

    pub stops : {A B : Type 0} (new : List ℕ) (r : Result A Stop) (why : Stop) → r ≡ Err why → IsTakenOf (IsTold list (line_question json line)) tells after new r
        → HaveCome {A = B} json list lines tells before new (Err why)
    stops {A} new r why is took = stopped A new why (subst (λ (x : Result A Stop). IsTakenOf (IsTold list (line_question json line)) tells after new x) is took)

  -- no line is left
  pub all_come : {A : Type 0} (x : A) (after : List ℕ) → Going json list lines [] tells before after → HaveCome {A = A} json list lines tells before after (Ok x)
  all_come x after going = record { first = going.first; left = []; parts = going.parts; all = λ ok. refl; text = going.text; told = going.told; takes = going.took }

-- Counts

pub counts_on : {A : Type 0} (old mid new : ℕ) (r : Result A Stop) → HasStayed old mid → Counts mid new r → Counts old new r
counts_on old mid new (Ok x) stayed more = (more.0 ∙ stayed.0, stayed.1)
counts_on old mid new (Err stop.WriteFault) stayed more = subst (λ n. HasRisen n new) stayed.0 more
counts_on old mid new (Err stop.NoMemory) stayed more = more ∙ stayed.0

pub counts_stop : {A : Type 0} (old new : ℕ) (r : Result A Stop) (why : Stop) → r ≡ Err why → Counts old new r → Counts {A = A} old new (Err why)
counts_stop old new r why is counts = subst (Counts old new) is counts

pub counts_stayed : {A : Type 0} (old new : ℕ) (r : Result A Stop) (x : A) → r ≡ Ok x → Counts old new r → HasStayed old new
counts_stayed old new (Ok y) x ok stayed = stayed
counts_stayed old new (Err why) x ok stayed = absurd (cc)

pub stayed_not_risen : (old new : ℕ) → HasStayed old new → HasRisen old new → ⊥
stayed_not_risen old new stayed (inl rose) = omega (arith, stayed.0, rose)
stayed_not_risen old new stayed (inr at_end) = stayed.1 at_end.0

pub stop_counts : {A : Type 0} (old new : ℕ) (r : Result A Stop) (answered : Status) → answered ≡ stop_status r → Counts old new r → answered ≢ status.NoMemory → (answered ≡ status.WriteFault ↔ HasRisen old new)
stop_counts old new r answered is counts known = subst (λ s. s ≡ status.WriteFault ↔ HasRisen old new) (sym is) (by r counts (λ starved. known (is ∙ starved)))
  where
    by : {A : Type 0} (x : Result A Stop) → Counts old new x → stop_status x ≢ status.NoMemory → (stop_status x ≡ status.WriteFault ↔ HasRisen old new)
    by (Ok x) stayed known = (λ is. absurd (cc), λ rose. absurd (stayed_not_risen old new stayed rose))
    by (Err stop.WriteFault) rose known = (λ is. rose, λ is. refl)
    by (Err stop.NoMemory) any known = absurd (known refl)

-- where memory was refused the sink didn't fail
pub stop_unfailed : {A : Type 0} (old new : ℕ) (r : Result A Stop) (answered : Status) → answered ≡ stop_status r → Counts old new r → answered ≡ status.NoMemory → new ≡ old
stop_unfailed old new r answered is counts starved = by r counts (sym is ∙ starved)
  where
    by : {A : Type 0} (x : Result A Stop) → Counts old new x → stop_status x ≡ status.NoMemory → new ≡ old
    by (Ok y) stayed refused = stayed.0
    by (Err stop.WriteFault) rose refused = absurd (cc)
    by (Err stop.NoMemory) same refused = same

-- Refusals

-- what the sink took of a status that refuses
pub record IsRefusal (judged : Status) (sink : SinkSeen) (answered : Status) : Type 0 where
  pub stands : (answered ≡ judged) ⊎ (answered ≡ status.WriteFault)
  pub whole : answered ≢ status.WriteFault → IsTrue sink.tells → sink.after ≡ sink.before ++ status_text judged
  pub part : answered ≡ status.WriteFault → IsTrue sink.tells → IsPartOfText (status_text judged) sink.before sink.after

pub refusal_given : (json : Bool) (lines : List (List ℕ)) (read now : ℕ) (old new : Moment) (bytes : List ℕ) → (IsTrue old.tells → bytes ≡ old.seen.log) → (judged : Status) → AreJudged read now old new bytes judged
    → (sink : SinkSeen) (answered : Status) → judged ≢ status.Done → IsRefusal judged sink answered → AreGiven json lines read now old new sink answered
refusal_given json lines read now old new bytes told judged by sink answered other given = record {
  bytes = bytes;
  told = told;
  judged = judged;
  by = by;
  text = status_text judged;
  answers = λ done. absurd (other done);
  begun = λ done. absurd (other done);
  refusal = λ is. refl;
  stands = given.stands;
  whole = given.whole;
  part = given.part;
}

-- the status of a store that didn't open is none with a report
unreported : (opened now : ℕ) (fault : OpenFault) → is_reported (status_of_opening opened now fault) ≡ false
unreported opened now DiskFault = refl
unreported opened now NoMemory = refl
unreported opened now (BadFrame at) = refl
unreported opened now (BadRecord place why) = refl
unreported opened now (Flaw place reason) = refl

-- what was written of such a status
pub refusal_of : (judged answered : Status) (tells : Bool) (before after : List ℕ) (opened now : ℕ) (fault : OpenFault) → answered ≢ status.NoMemory → judged ≡ status_of_opening opened now fault
    → (answered ≡ judged) ⊎ ((answered ≡ status.WriteFault) ⊎ (answered ≡ status.NoMemory)) → (answered ≢ status.WriteFault → IsTrue tells → after ≡ before ++ text_with judged [])
    → (answered ≡ status.WriteFault → IsTrue tells → IsPartOfText (text_with judged []) before after) → IsRefusal judged (record { tells = tells; before = before; after = after }) answered
refusal_of judged answered tells before after opened now fault known is stands whole part =
    let own : text_with judged [] ≡ status_text judged = ap (λ (b : Bool). if b then [] else status_text judged) (ap is_reported is ∙ unreported opened now fault) in
    record {
      stands = stands_as answered judged known stands;
      whole = λ other told. whole other told ∙ ap (λ t. before ++ t) own;
      part = λ failed told. subst (λ t. IsPartOfText t before after) own (part failed told);
    }

-- no line was answered
pub none_starved : (json : Bool) (lines : List (List ℕ)) (old : Moment) (tells : Bool) (before after : List ℕ) → after ≡ before → AreStarved json lines old (record { tells = tells; before = before; after = after })
none_starved json lines old tells before after same = record {
  bytes = old.seen.log;
  told = λ told. refl;
  text = [];
  begun = record { first = []; left = lines; parts = refl; answers = refl };
  whole = λ told. same ∙ sym (append-nil before);
}

pub none_cut : (json : Bool) (source : Bool) (left : List ℕ) (old : Moment) (tells : Bool) (before after : List ℕ) → after ≡ before → AreCut json source left old (record { tells = tells; before = before; after = after })
none_cut json source left old tells before after same = record { lines = left; read = λ told. refl; starved = none_starved json (lines_of left) old tells before after same }

-- a source that failed
pub read_given : (m : Moment) (bytes : List ℕ) (read now : ℕ) → HasRisen read now → AreJudged read now m m bytes status.ReadFault
read_given m bytes read now rose = record {
  read_fault = (λ is. rose, λ is. refl);
  disk_fault = λ opened after is. absurd (cc);
  unhidden = λ more. absurd (omega (arith, more));
  bad_store = λ fault. (λ is. absurd (cc), λ is. absurd (is.0 rose));
  done = (λ is. absurd (cc), λ is. absurd (is.0 rose));
  reads = λ others. refl;
}

-- where memory was refused, the lines before it were answered
starved_by : {A : Type 0} (json : Bool) (lines : List (List ℕ)) (old : Moment) (list : List Record) (tells : Bool) (before after : List ℕ) (bytes : List ℕ) → (IsTrue old.tells → bytes ≡ old.seen.log)
    → IsLogOf bytes list → (r : Result A Stop) → HaveCome json list lines tells before after r → stop_status r ≡ status.NoMemory → AreStarved json lines old (record { tells = tells; before = before; after = after })
starved_by json lines old list tells before after bytes told of (Ok x) come is = absurd (cc)
starved_by json lines old list tells before after bytes told of (Err stop.WriteFault) come is = absurd (cc)
starved_by json lines old list tells before after bytes told of (Err stop.NoMemory) come is = record {
  bytes = bytes;
  told = told;
  text = come.text;
  begun = record { first = come.first; left = come.left; parts = come.parts; answers = all_answered json old bytes list of come.first come.text come.told };
  whole = come.takes;
}

pub come_starved : {A : Type 0} (json : Bool) (lines : List (List ℕ)) (old : Moment) (list : List Record) (tells : Bool) (before after : List ℕ) (r : Result A Stop) (answered : Status) → answered ≡ stop_status r
    → LogHas old (λ bytes. IsLogOf bytes list) → HaveCome json list lines tells before after r → answered ≡ status.NoMemory → AreStarved json lines old (record { tells = tells; before = before; after = after })
come_starved json lines old list tells before after r answered is (bytes, told, of) come starved = starved_by json lines old list tells before after bytes told of r come (sym is ∙ starved)

-- The whole

module _ (json : Bool) (lines : List (List ℕ)) (read now : ℕ) (quiet : HasRisen read now → ⊥) (old new : Moment) where
  module _ (bytes : List ℕ) (still : new.faults ≡ old.faults) (same_seen : new.seen ≡ old.seen) where
    -- a log without a fault
    done_given : store_fault bytes ≡ None → AreJudged read now old new bytes status.Done
    done_given none = record {
      read_fault = (λ is. absurd (cc), λ rose. absurd (quiet rose));
      disk_fault = λ opened after is. absurd (cc);
      unhidden = λ rose. absurd (omega (arith, still, rose));
      bad_store = λ fault. (λ is. absurd (cc), λ is. absurd (no_fault fault (sym none ∙ is.2)));
      done = (λ is. (quiet, (λ opened after fails. absurd (cc)), none), λ is. refl);
      reads = λ others. same_seen;
    }
      where
        no_fault : (fault : OpenFault) → ◌≡◌ {A = Option OpenFault} None (Some fault) → ⊥
        no_fault fault is = cc

    -- and one with a fault
    store_given : (fault : OpenFault) → store_fault bytes ≡ Some fault → AreJudged read now old new bytes (status.BadStore fault)
    store_given fault has = record {
      read_fault = (λ is. absurd (cc), λ rose. absurd (quiet rose));
      disk_fault = λ opened after is. absurd (cc);
      unhidden = λ rose. absurd (omega (arith, still, rose));
      bad_store = λ other. (λ is. (quiet, (λ opened after fails. absurd (cc)), has ∙ ap Some (same other is)), λ is. only other (sym has ∙ is.2));
      done = (λ is. absurd (cc), λ is. absurd (none (sym has ∙ is.2)));
      reads = λ others. same_seen;
    }
      where
        same : (other : OpenFault) → ◌≡◌ {A = Status} (status.BadStore fault) (status.BadStore other) → fault ≡ other
        same other is = cc

        only : (other : OpenFault) → ◌≡◌ {A = Option OpenFault} (Some fault) (Some other) → ◌≡◌ {A = Status} (status.BadStore fault) (status.BadStore other)
        only other is = cc

        none : ◌≡◌ {A = Option OpenFault} (Some fault) None → ⊥
        none is = cc

  -- a device call failed
  disk_given : (bytes : List ℕ) → (old.faults < new.faults) ⊎ IsAtEnd new → AreJudged read now old new bytes (status.DiskFault old.faults new.faults)
  disk_given bytes failed = record {
    read_fault = (λ is. absurd (cc), λ rose. absurd (quiet rose));
    disk_fault = λ opened after is. (
      quiet,
      record { before = opened_is opened after is; after = now_is opened after is; risen = by opened after (opened_is opened after is) (now_is opened after is) failed },
    );
    unhidden = λ rose. refl;
    bad_store = λ fault. (λ is. absurd (cc), λ is. absurd (is.1 old.faults new.faults refl));
    done = (λ is. absurd (cc), λ is. absurd (is.1 old.faults new.faults refl));
    reads = λ others. absurd (others old.faults new.faults refl);
  }
    where
      opened_is : (opened after : ℕ) → ◌≡◌ {A = Status} (status.DiskFault old.faults new.faults) (status.DiskFault opened after) → opened ≡ old.faults
      opened_is opened after is = cc

      now_is : (opened after : ℕ) → ◌≡◌ {A = Status} (status.DiskFault old.faults new.faults) (status.DiskFault opened after) → after ≡ new.faults
      now_is opened after is = cc

      by : (opened after : ℕ) → opened ≡ old.faults → after ≡ new.faults → (old.faults < new.faults) ⊎ IsAtEnd new → (opened < after) ⊎ IsAtEnd new
      by opened after is are (inl rose) = inl (omega (arith, is, are, rose))
      by opened after is are (inr stands) = inr stands

  -- what the sink was given of an index that was read
  module _ (list : List Record) (tells : Bool) (before after : List ℕ) (bytes : List ℕ) (told : IsTrue old.tells → bytes ≡ old.seen.log) (of : IsLogOf bytes list) (still : new.faults ≡ old.faults)
      (same : new.seen ≡ old.seen) where
    abbrev seen : SinkSeen
    seen = record { tells = tells; before = before; after = after }

    no_fault_in : store_fault bytes ≡ None
    no_fault_in = ap image_fault of.image ∙ ap (option_map (λ flaw. Flaw flaw.0 flaw.1)) (subst IsWellLogged (sym of.list_is) of.logged)

    come_by : {A : Type 0} (r : Result A Stop) → HaveCome json list lines tells before after r → stop_status r ≢ status.NoMemory → AreGiven json lines read now old new seen (stop_status r)
    come_by (Ok x) come known = record {
      bytes = bytes;
      told = told;
      judged = status.Done;
      by = done_given bytes still same no_fault_in;
      text = come.text;
      answers = λ done taken. subst (λ ls. AreAnswers json old bytes ls come.text) (sym (come.parts ∙ ap (λ l. come.first ++ l) (come.all refl) ∙ append-nil come.first)) (all_answered json old bytes list of come.first come.text come.told);
      begun = λ done failed. absurd (cc);
      refusal = λ other. absurd (other refl);
      stands = inl refl;
      whole = λ taken tells. come.takes tells;
      part = λ failed. absurd (cc);
    }
    come_by (Err stop.WriteFault) come known = record {
      bytes = bytes;
      told = told;
      judged = status.Done;
      by = done_given bytes still same no_fault_in;
      text = come.text;
      answers = λ done taken. absurd (taken refl);
      begun = λ done failed. record { first = come.first; left = come.left; parts = come.parts; answers = all_answered json old bytes list of come.first come.text come.told };
      refusal = λ other. absurd (other refl);
      stands = inr refl;
      whole = λ taken. absurd (taken refl);
      part = λ failed tells. come.takes tells;
    }
    come_by (Err stop.NoMemory) come known = absurd (known refl)

  pub come_given : {A : Type 0} (list : List Record) (tells : Bool) (before after : List ℕ) (r : Result A Stop) (answered : Status) → answered ≡ stop_status r → LogHas old (λ bytes. IsLogOf bytes list)
      → new.faults ≡ old.faults → new.seen ≡ old.seen → HaveCome json list lines tells before after r → answered ≢ status.NoMemory
      → AreGiven json lines read now old new (record { tells = tells; before = before; after = after }) answered
  come_given list tells before after r answered is (bytes, told, of) still same come known =
      subst (AreGiven json lines read now old new (record { tells = tells; before = before; after = after })) (sym is)
      (come_by list tells before after bytes told of still same r come (λ starved. known (is ∙ starved)))

  -- and of a store that didn't open
  pub fault_given : (fault : OpenFault) (judged answered : Status) (sink : SinkSeen) → judged ≡ status_of_opening old.faults new.faults fault → judged ≢ status.NoMemory → IsCauseOf old new fault
      → ((fault ≡ DiskFault → ⊥) → new.faults ≡ old.faults) → ((fault ≡ DiskFault → ⊥) → new.seen ≡ old.seen) → IsRefusal judged sink answered → AreGiven json lines read now old new sink answered
  fault_given fault judged answered sink is known cause still reads given =
      by fault (λ starved. known (is ∙ starved)) cause still reads (subst (λ s. IsRefusal s sink answered) is given)
    where
      by : (f : OpenFault) → status_of_opening old.faults new.faults f ≢ status.NoMemory → IsCauseOf old new f → ((f ≡ DiskFault → ⊥) → new.faults ≡ old.faults) → ((f ≡ DiskFault → ⊥) → new.seen ≡ old.seen)
          → IsRefusal (status_of_opening old.faults new.faults f) sink answered → AreGiven json lines read now old new sink answered
      by DiskFault known cause still reads given = refusal_given json lines read now old new old.seen.log (λ tells. refl) (status.DiskFault old.faults new.faults) (disk_given old.seen.log cause) sink answered (λ is. absurd (cc)) given
      by (BadFrame at) known (bytes, told, has) still reads given =
          refusal_given json lines read now old new bytes told (status.BadStore (BadFrame at)) (store_given bytes (still (λ other. absurd (cc))) (reads (λ other. absurd (cc))) (BadFrame at) (ap image_fault has)) sink answered (λ is. absurd (cc)) given
      by (BadRecord place why) known (bytes, told, has) still reads given =
          refusal_given json lines read now old new bytes told (status.BadStore (BadRecord place why)) (store_given bytes (still (λ other. absurd (cc))) (reads (λ other. absurd (cc))) (BadRecord place why) (ap image_fault has)) sink answered (λ is. absurd (cc)) given
      by (Flaw place reason) known (bytes, told, (held, has, flaw)) still reads given =
          refusal_given json lines read now old new bytes told (status.BadStore (Flaw place reason))
          (store_given bytes (still (λ other. absurd (cc))) (reads (λ other. absurd (cc))) (Flaw place reason) (ap image_fault has ∙ ap (option_map (λ one. Flaw one.0 one.1)) flaw)) sink answered
          (λ is. absurd (cc)) given
      by NoMemory known cause still reads given = absurd (known refl)

-- a source that failed, before the store was opened
pub read_refused : (json source : Bool) (left rest : List ℕ) (read now : ℕ) → HasRisen read now → (m : Moment) (tells : Bool) (before after : List ℕ) (answered : Status) → answered ≢ status.NoMemory
    → (answered ≡ status.ReadFault) ⊎ ((answered ≡ status.WriteFault) ⊎ (answered ≡ status.NoMemory)) → (answered ≢ status.WriteFault → IsTrue tells → after ≡ before ++ status_text status.ReadFault)
    → (answered ≡ status.WriteFault → IsTrue tells → IsPartOfText (status_text status.ReadFault) before after)
    → AreAsked json source left rest read now m m (record { tells = tells; before = before; after = after }) answered
read_refused json source left rest read now rose m tells before after answered known stands whole part = record {
  lines = [];
  read = λ told quiet. absurd (quiet rose);
  given = refusal_given json [] read now m m m.seen.log (λ told. refl) status.ReadFault (read_given m m.seen.log read now rose) (record { tells = tells; before = before; after = after }) answered (λ is. absurd (cc))
      (record { stands = stands_as answered status.ReadFault known stands; whole = whole; part = part });
}
