-- What is judged of a question.
use Rattle.std.proofs.Common.{ℕ, ◌≡◌, ◌<◌, refl, sym, ap, ◌∙◌, subst, List, ◌⊎◌, inl, inr, arith}
use Rattle.std.specs.Prelude.{◌≢◌, ◌↔◌, Option, Some, None, Result, Ok, Err, option_map, IfOk, IsSomeAnd, IsTrue}
use Rattle.std.specs.declared.alloc.Global.{Global}
use Rattle.std.specs.declared.vec.Vec.{Vec}
use Rattle.pass_entry.specs.declared.objects.Node.{Node}
use Rattle.pass_entry.specs.declared.record.Record.{Record}
use Rattle.pass_log.specs.declared.fault.LogFault.{LogFault}
use Rattle.pass_log.specs.Records.{Held, image_of}
use Rattle.pass_outside.specs.Moments.{Moment, IsAtEnd}
use Rattle.pass_plain.specs.WellLogged.{first_flaw, IsWellLogged}
use Rattle.pass_pattern.specs.Answers.{IsMatchText}
use Rattle.pass_pattern.specs.Patterns.{Shape}
use Rattle.pass_pattern.specs.declared.fault.PatternFault.{PatternFault}
use Rattle.pass_query.specs.declared.fault.QueryFault.{QueryFault}
use Rattle.pass_query.specs.declared.fault.QueryFault.TheVariants as query
use Rattle.pass_query.specs.declared.question.Form.{Form}
use Rattle.pass_range.specs.Tables.{AreUnmatched}
use Rattle.pass_range.specs.declared.range.Range.{Range}
use Rattle.pass_recover.specs.declared.fault.OpenFault.{OpenFault}
use Rattle.pass_recover.specs.declared.fault.OpenFault.TheVariants.{DiskFault, BadFrame, BadRecord, Flaw, NoMemory}
use Rattle.pass_recover.specs.Faults.{LogHas, IsCauseOf}
use Rattle.pass_standby.specs.Sending.{HoldsLogged, IsPlace, IsSent}
use Rattle.pass_status.specs.declared.status.Status.{Status}
use Rattle.pass_status.specs.declared.status.Status.TheVariants as status
use Rattle.pass_status.specs.Statuses.{status_of_opening}
use Rattle.pass_status.specs.Stores.{store_fault, image_fault}
use Rattle.pass_ask.specs.Answers.{IsNoDiskFault, is_reported}
use Rattle.pass_ask.specs.Checks.{check_text}
use Rattle.pass_ask.specs.Asked.{IsAskJudged, IsAnswered, IsAnswerTo, IsGiven, IsGraphAnswer, IsLacking, IsLogOf, IsPatternStatus, IsPut, IsQuestionRead, IsNowhere, IsUnknown, HasGiven, HasPatternFault, asked_in}
use Rattle.pass_ask.specs.Matches.{IsOfShape}
use Rattle.pass_ask.proofs.Patterns.{same_fault}
use Rattle.pass_ask.specs.declared.words.Question.{Question}
use Rattle.pass_ask.specs.declared.words.Question.TheVariants.{Check, Graph, Match, Send}

-- where no device call failed, it is judged as if none had been made
pub at_once : (asked : Option Question) (old new : Moment) (bytes : List ℕ) (judged : Status) → IsNoDiskFault judged → IsAskJudged asked old new bytes judged → IsAskJudged asked old old bytes judged
at_once asked old new bytes judged quiet by = record {
  bad_words = by.bad_words;
  bad_pattern = by.bad_pattern;
  disk_fault = λ opened now is. absurd (quiet opened now is);
  unhidden = λ put rose. absurd (omega (arith, rose));
  bad_store = by.bad_store;
  no_object = by.no_object;
  no_frame = by.no_frame;
  done = by.done;
  reads = λ quiet. refl;
}

-- words that ask nothing
pub words_judged : (m : Moment) (bytes : List ℕ) → IsAskJudged None m m bytes status.BadWords
words_judged m bytes = record {
  bad_words = (λ is. refl, λ is. refl);
  bad_pattern = λ fault. (λ is. absurd (cc), λ is. absurd is);
  disk_fault = λ opened now is. absurd (cc);
  unhidden = λ asked rose. absurd asked;
  bad_store = λ fault. (λ is. absurd (cc), λ is. absurd is.0);
  no_object = λ node. (λ is. absurd (cc), λ is. absurd is.0);
  no_frame = λ place. (λ is. absurd (cc), λ is. absurd is.0);
  done = (λ is. absurd (cc), λ is. absurd is.0);
  reads = λ quiet. refl;
}

-- a text is no pattern for one reason
one_fault : (q : Question) (one other : PatternFault) → HasPatternFault q one → HasPatternFault q other → other ≡ one
one_fault Check one other has also = absurd has
one_fault (Graph q) one other has also = absurd has
one_fault (Match from text form) one other has also = same_fault text one other has also
one_fault (Send from) one other has also = absurd has

-- a question that gives nodes gives no place
no_place : (q : Question) (bytes : List ℕ) (node : Node) (place : ℕ) → IsUnknown q bytes node → IsNowhere q bytes place → ⊥
no_place Check bytes node place unknown is = is
no_place (Graph q) bytes node place unknown is = is
no_place (Match from text form) bytes node place unknown is = is
no_place (Send from) bytes node place unknown is = unknown.2

-- nor does one that the graph answers
answered_place : (list : List Record) (q : Question) (text bytes : List ℕ) (place : ℕ) → IsGraphAnswer list q text → IsNowhere q bytes place → ⊥
answered_place list Check text bytes place says is = is
answered_place list (Graph q) text bytes place says is = is
answered_place list (Match from pattern form) text bytes place says is = is
answered_place list (Send from) text bytes place says is = says

-- the place that is given is one
same_place : (q : Question) (bytes : List ℕ) (one other : ℕ) → IsNowhere q bytes one → IsNowhere q bytes other → other ≡ one
same_place Check bytes one other is also = absurd is
same_place (Graph q) bytes one other is also = absurd is
same_place (Match from text form) bytes one other is also = absurd is
same_place (Send from) bytes one other is also = also.0 ∙ sym is.0

-- a pattern that is none
module _ (q : Question) (m : Moment) (bytes : List ℕ) (why : PatternFault) (has : HasPatternFault q why) where
  lost : IsPut (Some q) → ⊥
  lost put = put why has

  pub pattern_judged : IsAskJudged (Some q) m m bytes (status.BadPattern why)
  pattern_judged = record {
    bad_words = (λ is. absurd (cc), λ none. absurd (some_none none));
    bad_pattern = λ fault. (λ is. subst (HasPatternFault q) (same fault is) has, λ is. ap status.BadPattern (sym (one_fault q why fault has is)));
    disk_fault = λ opened now is. absurd (cc);
    unhidden = λ put rose. absurd (lost put);
    bad_store = λ fault. (λ is. absurd (cc), λ is. absurd (lost is.0));
    no_object = λ node. (λ is. absurd (cc), λ is. absurd (lost is.0));
    no_frame = λ place. (λ is. absurd (cc), λ is. absurd (lost is.0));
    done = (λ is. absurd (cc), λ is. absurd (lost is.0));
    reads = λ quiet. refl;
  }
    where
      some_none : ◌≡◌ {A = Option Question} (Some q) None → ⊥
      some_none is = cc

      same : (fault : PatternFault) → ◌≡◌ {A = Status} (status.BadPattern why) (status.BadPattern fault) → why ≡ fault
      same fault is = cc

module _ (q : Question) (put : IsPut (Some q)) (old new : Moment) (bytes : List ℕ) where
  abbrev Judged : Status → Type 0
  Judged judged = IsAskJudged (Some q) old new bytes judged

  asks : ◌≡◌ {A = Option Question} (Some q) None → ⊥
  asks is = cc

  -- a device call failed
  pub disk_judged : (old.faults < new.faults) ⊎ IsAtEnd new → Judged (status.DiskFault old.faults new.faults)
  disk_judged failed = record {
    bad_words = (λ is. absurd (cc), λ none. absurd (asks none));
    bad_pattern = λ why. (λ is. absurd (cc), λ is. absurd (put why is));
    disk_fault = λ opened now is. (
      put,
      record {
        before = opened_is opened now is;
        after = now_is opened now is;
        risen = by opened now (opened_is opened now is) (now_is opened now is) failed;
      },
    );
    unhidden = λ asked rose. refl;
    bad_store = λ fault. (λ is. absurd (cc), λ is. absurd (is.1 old.faults new.faults refl));
    no_object = λ node. (λ is. absurd (cc), λ is. absurd (is.1.0 old.faults new.faults refl));
    no_frame = λ place. (λ is. absurd (cc), λ is. absurd (is.1.0 old.faults new.faults refl));
    done = (λ is. absurd (cc), λ is. absurd (is.1.0 old.faults new.faults refl));
    reads = λ quiet. absurd (quiet old.faults new.faults refl);
  }
    where
      opened_is : (opened now : ℕ) → ◌≡◌ {A = Status} (status.DiskFault old.faults new.faults) (status.DiskFault opened now) → opened ≡ old.faults
      opened_is opened now is = cc

      now_is : (opened now : ℕ) → ◌≡◌ {A = Status} (status.DiskFault old.faults new.faults) (status.DiskFault opened now) → now ≡ new.faults
      now_is opened now is = cc

      by : (opened now : ℕ) → opened ≡ old.faults → now ≡ new.faults → (old.faults < new.faults) ⊎ IsAtEnd new → (opened < now) ⊎ IsAtEnd new
      by opened now is are (inl rose) = inl (omega (arith, is, are, rose))
      by opened now is are (inr stands) = inr stands

  module _ (still : new.faults ≡ old.faults) (same_seen : new.seen ≡ old.seen) where
    -- the log has a fault
    pub store_judged : (fault : OpenFault) → store_fault bytes ≡ Some fault → Judged (status.BadStore fault)
    store_judged fault has = record {
      bad_words = (λ is. absurd (cc), λ none. absurd (asks none));
      bad_pattern = λ why. (λ is. absurd (cc), λ is. absurd (put why is));
      disk_fault = λ opened now is. absurd (cc);
      unhidden = λ asked rose. absurd (omega (arith, still, rose));
      bad_store = λ other. (λ is. (put, λ opened now fails. absurd (cc), has ∙ ap Some (same other is)), λ is. only other (sym has ∙ is.2));
      no_object = λ node. (λ is. absurd (cc), λ is. absurd (none (sym has ∙ is.1.1)));
      no_frame = λ place. (λ is. absurd (cc), λ is. absurd (none (sym has ∙ is.1.1)));
      done = (λ is. absurd (cc), λ is. absurd (none (sym has ∙ is.1.1)));
      reads = λ quiet. same_seen;
    }
      where
        same : (other : OpenFault) → ◌≡◌ {A = Status} (status.BadStore fault) (status.BadStore other) → fault ≡ other
        same other is = cc

        only : (other : OpenFault) → ◌≡◌ {A = Option OpenFault} (Some fault) (Some other) → ◌≡◌ {A = Status} (status.BadStore fault) (status.BadStore other)
        only other is = cc

        none : ◌≡◌ {A = Option OpenFault} (Some fault) None → ⊥
        none is = cc

    module _ (held : Held) (holds : image_of bytes ≡ Ok held) (sound : first_flaw held.list ≡ None) where
      none : store_fault bytes ≡ None
      none = ap image_fault holds ∙ ap (option_map (λ flaw. Flaw flaw.0 flaw.1)) sound

      some : (fault : OpenFault) → ◌≡◌ {A = Option OpenFault} None (Some fault) → ⊥
      some fault is = cc

      -- it has none, and what the question gives
      pub done_judged : HasGiven q bytes → Judged status.Done
      done_judged given = record {
        bad_words = (λ is. absurd (cc), λ none. absurd (asks none));
        bad_pattern = λ why. (λ is. absurd (cc), λ is. absurd (put why is));
        disk_fault = λ opened now is. absurd (cc);
        unhidden = λ asked rose. absurd (omega (arith, still, rose));
        bad_store = λ fault. (λ is. absurd (cc), λ is. absurd (some fault (sym none ∙ is.2)));
        no_object = λ node. (λ is. absurd (cc), λ is. absurd (given.node node is.2));
        no_frame = λ place. (λ is. absurd (cc), λ is. absurd (given.place place is.2));
        done = (λ is. (put, (λ opened now fails. absurd (cc), none), given), λ is. refl);
        reads = λ quiet. same_seen;
      }

      -- it has none, and lacks a node of the question
      pub object_judged : (node : Node) → IsUnknown q bytes node → ((other : Node) → IsUnknown q bytes other → other ≡ node) → Judged (status.NoObject node)
      object_judged node unknown alone = record {
        bad_words = (λ is. absurd (cc), λ none. absurd (asks none));
        bad_pattern = λ why. (λ is. absurd (cc), λ is. absurd (put why is));
        disk_fault = λ opened now is. absurd (cc);
        unhidden = λ asked rose. absurd (omega (arith, still, rose));
        bad_store = λ fault. (λ is. absurd (cc), λ is. absurd (some fault (sym none ∙ is.2)));
        no_object = λ other. (λ is. (put, (λ opened now fails. absurd (cc), none), subst (λ n. IsUnknown q bytes n) (same other is) unknown), λ is. ap status.NoObject (sym (alone other is.2)));
        no_frame = λ place. (λ is. absurd (cc), λ is. absurd (no_place q bytes node place unknown is.2));
        done = (λ is. absurd (cc), λ is. absurd (is.2.node node unknown));
        reads = λ quiet. same_seen;
      }
        where
          same : (other : Node) → ◌≡◌ {A = Status} (status.NoObject node) (status.NoObject other) → node ≡ other
          same other is = cc

      -- it has none, and no frame at the question's place
      pub place_judged : (place : ℕ) → IsNowhere q bytes place → Judged (status.NoFrame place)
      place_judged place nowhere = record {
        bad_words = (λ is. absurd (cc), λ none. absurd (asks none));
        bad_pattern = λ why. (λ is. absurd (cc), λ is. absurd (put why is));
        disk_fault = λ opened now is. absurd (cc);
        unhidden = λ asked rose. absurd (omega (arith, still, rose));
        bad_store = λ fault. (λ is. absurd (cc), λ is. absurd (some fault (sym none ∙ is.2)));
        no_object = λ node. (λ is. absurd (cc), λ is. absurd (no_place q bytes node place is.2 nowhere));
        no_frame = λ other. (λ is. (put, (λ opened now fails. absurd (cc), none), subst (λ n. IsNowhere q bytes n) (same other is) nowhere), λ is. ap status.NoFrame (sym (same_place q bytes place other nowhere is.2)));
        done = (λ is. absurd (cc), λ is. absurd (is.2.place place nowhere));
        reads = λ quiet. same_seen;
      }
        where
          same : (other : ℕ) → ◌≡◌ {A = Status} (status.NoFrame place) (status.NoFrame other) → place ≡ other
          same other is = cc

-- what is judged of a store by a question, and the text where it is answered
abbrev pub Judges : Question → Moment → Moment → Status → List ℕ → Type 0
Judges q old new judged text =
    LogHas old (λ bytes. IsAskJudged (Some q) old new bytes judged × (judged ≡ status.Done → IsAnswerTo q old bytes text))

-- the question is the one that was asked
pub for_question : (asked : Option Question) (q : Question) (old new : Moment) (judged : Status) (text : List ℕ) → asked ≡ Some q → Judges q old new judged text
    → LogHas old (λ bytes. IsAskJudged asked old new bytes judged × (judged ≡ status.Done → IsSomeAnd asked (λ p. IsAnswerTo p old bytes text)))
for_question asked q old new judged text is (bytes, told, (by, says)) = (
  bytes,
  told,
  (
    subst (λ (a : Option Question). IsAskJudged a old new bytes judged) (sym is) by,
    λ done. subst (λ (a : Option Question). IsSomeAnd a (λ p. IsAnswerTo p old bytes text)) (sym is) (says done),
  ),
)

-- words that were refused
pub refused_judges : (question : Result Question Status) (s : Status) (m : Moment) (text : List ℕ) → question ≡ Err s → IsQuestionRead question → s ≢ status.NoMemory
    → LogHas m (λ bytes. IsAskJudged (asked_in question) m m bytes s × (s ≡ status.Done → IsSomeAnd (asked_in question) (λ q. IsAnswerTo q m bytes text)))
refused_judges question s m text is read known =
    subst (λ (r : Result Question Status). LogHas m (λ bytes. IsAskJudged (asked_in r) m m bytes s × (s ≡ status.Done → IsSomeAnd (asked_in r) (λ q. IsAnswerTo q m bytes text)))) (sym is)
    (by s (subst IsQuestionRead is read) known)
  where
    by : (t : Status) → IsQuestionRead (Err t) → t ≢ status.NoMemory → LogHas m (λ bytes. IsAskJudged None m m bytes t × (t ≡ status.Done → ⊥))
    by status.BadWords read known = (m.seen.log, λ tells. refl, (words_judged m m.seen.log, λ done. absurd (cc)))
    by status.NoMemory read known = absurd (known refl)
    by _ read known = absurd read

pub pattern_reports : (text : List ℕ) (s : Status) → IsPatternStatus text s → IsTrue (is_reported s) → s ≡ status.Done
pattern_reports text (status.BadPattern why) is reported = absurd (cc)
pattern_reports text status.NoMemory is reported = absurd (cc)
pattern_reports text _ is reported = absurd is

pub pattern_writes : (text : List ℕ) (s : Status) → IsPatternStatus text s → s ≢ status.WriteFault
pattern_writes text (status.BadPattern why) is same = absurd (cc)
pattern_writes text status.NoMemory is same = absurd (cc)
pattern_writes text _ is same = absurd is

-- a pattern that was refused
pub pattern_judges : (from : Node) (text : List ℕ) (form : Form) (m : Moment) (judged : Status) (out : List ℕ) → IsPatternStatus text judged → judged ≢ status.NoMemory
    → Judges (Match from text form) m m judged out
pattern_judges from text form m (status.BadPattern why) out is known =
    (m.seen.log, λ tells. refl, (pattern_judged (Match from text form) m m.seen.log why is, λ done. absurd (cc)))
pattern_judges from text form m status.NoMemory out is known = absurd (known refl)
pattern_judges from text form m _ out is known = absurd is

pub refused_reports : (s : Status) → IsQuestionRead (Err s) → IsTrue (is_reported s) → s ≡ status.Done
refused_reports status.BadWords read is = absurd (cc)
refused_reports status.NoMemory read is = absurd (cc)
refused_reports _ read is = absurd read

pub refused_writes : (s : Status) → IsQuestionRead (Err s) → s ≢ status.WriteFault
refused_writes status.BadWords read is = absurd (cc)
refused_writes status.NoMemory read is = absurd (cc)
refused_writes _ read is = absurd read

-- what the graph of a log answers is the answer of the log
answer_to : (q : Question) (old : Moment) (bytes text : List ℕ) (held : Held) → image_of bytes ≡ Ok held → IsGraphAnswer held.list q text → IsAnswerTo q old bytes text
answer_to Check old bytes text held is says = absurd says
answer_to (Graph q) old bytes text held is says = (held, is, says)
answer_to (Match from pattern form) old bytes text held is says = (held, is, says)
answer_to (Send from) old bytes text held is says = absurd says

-- a log that was read, and what its graph answers
module _ (q : Question) (put : IsPut (Some q)) (old new : Moment) (bytes : List ℕ) (list : List Record) where
  pub answered_by : (judged : Status) (text : List ℕ) → IsLogOf bytes list → new.faults ≡ old.faults → new.seen ≡ old.seen → judged ≢ status.NoMemory → IsAnswered list q judged text
      → IsAskJudged (Some q) old new bytes judged × (judged ≡ status.Done → IsAnswerTo q old bytes text)
  answered_by judged text of still same known answered = by judged known answered
    where
      sound : first_flaw of.held.list ≡ None
      sound = subst IsWellLogged (sym of.list_is) of.logged

      same_held : (other : Held) → image_of bytes ≡ Ok other → of.held ≡ other
      same_held other holds = held_is (sym of.image ∙ holds)
        where
          held_is : ◌≡◌ {A = Result Held LogFault} (Ok of.held) (Ok other) → of.held ≡ other
          held_is is = cc

      -- a node that this log hasn't is one that the graph hasn't
      absent : (node : Node) → IsUnknown q bytes node → IsLacking list q node
      absent node (other, holds, is) = subst (λ l. IsLacking l q node) of.list_is (subst (λ (h : Held). IsLacking h.list q node) (sym (same_held other holds)) is)

      unknown : (node : Node) → IsLacking list q node → IsUnknown q bytes node
      unknown node is = (of.held, of.image, subst (λ l. IsLacking l q node) (sym of.list_is) is)

      by : (s : Status) → s ≢ status.NoMemory → IsAnswered list q s text → IsAskJudged (Some q) old new bytes s × (s ≡ status.Done → IsAnswerTo q old bytes text)
      by status.Done known (none, says) = (
        done_judged q put old new bytes still same of.held of.image sound (record { node = λ node is. none node (absent node is); place = λ place is. answered_place list q text bytes place says is }),
        λ done. answer_to q old bytes text of.held of.image (subst (λ l. IsGraphAnswer l q text) (sym of.list_is) says),
      )
      by (status.NoObject node) known (is, alone) = (
        object_judged q put old new bytes still same of.held of.image sound node (unknown node is) (λ other also. alone other (absent other also)),
        λ done. absurd (cc),
      )
      by status.NoMemory known is = absurd (known refl)
      by _ known is = absurd is

pub answered_judges : (q : Question) → IsPut (Some q) → (old new : Moment) (list : List Record) (judged : Status) (text : List ℕ) → LogHas old (λ bytes. IsLogOf bytes list)
    → new.faults ≡ old.faults → new.seen ≡ old.seen → judged ≢ status.NoMemory → IsAnswered list q judged text → Judges q old new judged text
answered_judges q put old new list judged text (bytes, told, of) still same known answered =
    (bytes, told, answered_by q put old new bytes list judged text of still same known answered)

-- its records are well logged
pub logged_of : (m : Moment) (list : List Record) → LogHas m (λ bytes. IsLogOf bytes list) → IsWellLogged list
logged_of m list (bytes, told, of) = of.logged

-- a store that was surveyed, and what is said of its records and ranges
pub surveyed_judges : (old new : Moment) (list said : List Record) (unmatched told : List Range) (judged : Status) (text : List ℕ) → LogHas old (λ bytes. IsLogOf bytes list)
    → (IsTrue old.tells → AreUnmatched list old.seen.store unmatched) → new.faults ≡ old.faults → new.seen ≡ old.seen → judged ≢ status.NoMemory → said ≡ list → told ≡ unmatched
    → ((judged ≡ status.Done) × (text ≡ check_text said told)) ⊎ (judged ≡ status.NoMemory) → Judges Check old new judged text
surveyed_judges old new list said unmatched told judged text read found still same known said_is told_is (inr starved) = absurd (known starved)
surveyed_judges old new list said unmatched told judged text (bytes, tells, of) found still same known said_is told_is (inl (done, is)) = (
  bytes,
  tells,
  (
    subst (λ (s : Status). IsAskJudged (Some Check) old new bytes s) (sym done)
        (done_judged Check (λ why is. is) old new bytes still same of.held of.image (subst IsWellLogged (sym of.list_is) of.logged)
        (record { node = λ node unknown. unknown.2; place = λ place is. is })),
    λ judged. (
      of.held,
      of.image,
      (
        unmatched,
        subst (λ l. IsTrue old.tells → AreUnmatched l old.seen.store unmatched) (sym of.list_is) found,
        is ∙ ap (λ l. check_text l told) (said_is ∙ sym of.list_is) ∙ ap (λ u. check_text of.held.list u) told_is,
      ),
    ),
  ),
)

-- the nodes that a pattern of the text's shape joins
pub matched_answer : (list : List Record) (text : List ℕ) (shape : Shape) (from : Node) (form : Form) (answer : Result (Vec ℕ Global) QueryFault) → IsOfShape text shape
    → IfOk answer (λ v. IsMatchText list shape from form v.items) → IfOk answer (λ v. IsGraphAnswer list (Match from text form) v.items)
matched_answer list text shape from form (Ok v) is says = (shape, is, says)
matched_answer list text shape from form (Err why) is says = says

-- what was given, where it is what the graph answers, or that it lacks a node
pub given_answered : (list : List Record) (q : Question) (answer : Result (Vec ℕ Global) QueryFault) (judged : Status) (text : List ℕ) → IsGiven answer judged text
    → IfOk answer (λ v. IsGraphAnswer list q v.items) → ((n : Node) → (answer ≡ Err (query.NoObject n)) ↔ IsLacking list q n) → IsAnswered list q judged text
given_answered list q (Ok v) judged text (is, same) says absent =
    subst (λ (s : Status). IsAnswered list q s text) (sym is) (λ n lacks. let z : ◌≡◌ {A = Result (Vec ℕ Global) QueryFault} (Ok v) (Err (query.NoObject n)) = (absent n).1 lacks in cc, subst (λ t. IsGraphAnswer list q t) (sym same) says)
given_answered list q (Err (query.NoObject node)) judged text is says absent =
    subst (λ (s : Status). IsAnswered list q s text) (sym is) ((absent node).0 refl, λ n lacks. let z : ◌≡◌ {A = Result (Vec ℕ Global) QueryFault} (Err (query.NoObject node)) (Err (query.NoObject n)) = (absent n).1 lacks in cc)
given_answered list q (Err query.NoMemory) judged text is says absent = subst (λ (s : Status). IsAnswered list q s text) (sym is) tt

-- a store that didn't open
pub fault_judges : (q : Question) → IsPut (Some q) → (old new : Moment) (fault : OpenFault) (judged : Status) (text : List ℕ) → judged ≡ status_of_opening old.faults new.faults fault → judged ≢ status.NoMemory
    → IsCauseOf old new fault → ((fault ≡ DiskFault → ⊥) → new.faults ≡ old.faults) → ((fault ≡ DiskFault → ⊥) → new.seen ≡ old.seen) → Judges q old new judged text
fault_judges q put old new fault judged text is known cause still reads =
    subst (λ (s : Status). Judges q old new s text) (sym is) (by fault (λ starved. known (is ∙ starved)) cause still reads)
  where
    by : (f : OpenFault) → status_of_opening old.faults new.faults f ≢ status.NoMemory → IsCauseOf old new f → ((f ≡ DiskFault → ⊥) → new.faults ≡ old.faults)
        → ((f ≡ DiskFault → ⊥) → new.seen ≡ old.seen) → Judges q old new (status_of_opening old.faults new.faults f) text
    by DiskFault known cause still reads = (old.seen.log, λ tells. refl, (disk_judged q put old new old.seen.log cause, λ done. absurd (cc)))
    by (BadFrame at) known (bytes, told, has) still reads =
        (bytes, told, (store_judged q put old new bytes (still (λ other. absurd (cc))) (reads (λ other. absurd (cc))) (BadFrame at) (ap image_fault has), λ done. absurd (cc)))
    by (BadRecord place why) known (bytes, told, has) still reads =
        (bytes, told, (store_judged q put old new bytes (still (λ other. absurd (cc))) (reads (λ other. absurd (cc))) (BadRecord place why) (ap image_fault has), λ done. absurd (cc)))
    by (Flaw place reason) known (bytes, told, (held, has, flaw)) still reads = (
      bytes,
      told,
      (
        store_judged q put old new bytes (still (λ other. absurd (cc))) (reads (λ other. absurd (cc))) (Flaw place reason)
            (ap image_fault has ∙ ap (option_map (λ one. Flaw one.0 one.1)) flaw),
        λ done. absurd (cc),
      ),
    )
    by NoMemory known cause still reads = absurd (known refl)

-- a log that was sent
pub sent_judges : (from : ℕ) (old new : Moment) (text : List ℕ) → LogHas old (λ bytes. HoldsLogged bytes × IsSent bytes from text) → new.faults ≡ old.faults → new.seen ≡ old.seen
    → Judges (Send from) old new status.Done text
sent_judges from old new text (bytes, told, ((held, image, logged), sent)) still same = (
  bytes,
  told,
  (
    done_judged (Send from) (λ why is. is) old new bytes still same held image logged
        (record { node = λ node unknown. unknown.2; place = λ place is. is.1 (sent.frames, sent.found, sent.place) }),
    λ done. sent,
  ),
)

-- a log with no frame at that place, which isn't its end either
pub unplaced_judges : (from : ℕ) (old new : Moment) (judged : Status) (text : List ℕ) → judged ≡ status.NoFrame from → LogHas old (λ bytes. HoldsLogged bytes × (IsPlace bytes from → ⊥))
    → new.faults ≡ old.faults → new.seen ≡ old.seen → Judges (Send from) old new judged text
unplaced_judges from old new judged text is (bytes, told, ((held, image, logged), nowhere)) still same = (
  bytes,
  told,
  (
    subst (λ (s : Status). IsAskJudged (Some (Send from)) old new bytes s) (sym is)
        (place_judged (Send from) (λ why none. none) old new bytes still same held image logged from (refl, nowhere)),
    λ done. let z : status.NoFrame from ≡ status.Done = sym is ∙ done in absurd (cc),
  ),
)
