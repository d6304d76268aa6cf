-- What the command of the words is, from what was read of them.
use Rattle.std.proofs.Common.{◌≡◌, ◌∙◌, true, false, refl, sym, ap, subst, List, ℕ}
use Rattle.std.specs.Prelude.{◌≢◌, Bool, Option, Some, None, Result, Ok, Err, IsTrue, is_some, option_and_then}
use Rattle.std.specs.Option.{option_map_or}
use Rattle.pass_status.specs.declared.status.Status.{Status}
use Rattle.pass_status.specs.declared.status.Status.TheVariants as status
use Rattle.pass_trace.specs.declared.limits.Scale.{Scale}
use Rattle.pass_trace.specs.declared.limits.Scale.TheVariants.{Usual}
use Rattle.pass_ask.specs.Asked.{IsPut, IsQuestionRead, asked_in}
use Rattle.pass_ask.specs.Words.{Reads, Text, asks_lines, command_of, drawn_by, drawn_of, is_gen, is_replay, is_replay_command, is_follow, is_follow_command, is_run, is_run_command, lines_asked, lines_by, question_in, question_of, scale_in, scale_of}
use Rattle.pass_ask.specs.declared.words.Command.{Command}
use Rattle.pass_ask.specs.declared.words.Command.TheVariants.{Run, Replay, Gen, Ask, Questions, Follow}
use Rattle.pass_ask.specs.declared.words.Question.{Question}

-- what stands in a value that was read
pub ok_same : {A : Type 0} (r : Result A Status) (a b : A) → r ≡ Ok a → a ≡ b → r ≡ Ok b
ok_same r a b is same = is ∙ ap (λ x. Ok x) same

module _ (words : List Text) (r : Result Command Status) (read : Reads r (command_of words)) where
  pub runs : (scale : Scale) (workers : ℕ) → r ≡ Ok (Run scale workers) → IsTrue (is_run words)
  runs scale workers is = ap (λ (o : Option Command). option_map_or is_run_command o false) (subst (λ (x : Result Command Status). Reads x (command_of words)) is read)

  -- how large a trace these words run
  pub runs_at : (c : Command) → r ≡ Ok c → scale_of words ≡ scale_in c
  runs_at c is = ap (λ (o : Option Command). option_map_or scale_in o Usual) (subst (λ (x : Result Command Status). Reads x (command_of words)) is read)

  -- which words these are not
  pub not_run : (c : Option Command) → command_of words ≡ c → option_map_or is_run_command c false ≡ false → ¬ (IsTrue (is_run words))
  not_run c named other runs = let z : true ≡ false = sym runs ∙ ap (λ (o : Option Command). option_map_or is_run_command o false) named ∙ other in cc

  pub not_follow : (c : Option Command) → command_of words ≡ c → option_map_or is_follow_command c false ≡ false → ¬ (IsTrue (is_follow words))
  not_follow c named other follows = let z : true ≡ false = sym follows ∙ ap (λ (o : Option Command). option_map_or is_follow_command o false) named ∙ other in cc

  -- what these words draw
  pub draws_so : (c : Command) → r ≡ Ok c → drawn_of words ≡ drawn_by c
  draws_so c is = ap (λ (o : Option Command). option_and_then drawn_by o) (subst (λ (x : Result Command Status). Reads x (command_of words)) is read)

  pub draws : (workers number lines : ℕ) → r ≡ Ok (Gen workers number lines) → (¬ (IsTrue (is_run words))) × IsTrue (is_gen words) × ¬ (IsTrue (is_follow words))
  draws workers number lines is =
      let named : command_of words ≡ Some (Gen workers number lines) = subst (λ (x : Result Command Status). Reads x (command_of words)) is read in
      (not_run (Some (Gen workers number lines)) named refl, ap is_some (draws_so (Gen workers number lines) is), not_follow (Some (Gen workers number lines)) named refl)

  pub refuses_drawn : (s : Status) → r ≡ Err s → s ≢ status.NoMemory → drawn_of words ≡ None
  refuses_drawn s is known = by s (subst (λ (x : Result Command Status). Reads x (command_of words)) is read) known
    where
      by : (t : Status) → Reads {X = Command} (Err t) (command_of words) → t ≢ status.NoMemory → drawn_of words ≡ None
      by status.BadWords none known = ap (λ (o : Option Command). option_and_then drawn_by o) none
      by status.NoMemory none known = absurd (known refl)
      by _ none known = absurd none

  -- whether these words ask for many questions
  pub lines_as : (c : Command) → r ≡ Ok c → lines_asked words ≡ lines_by c
  lines_as c is = ap (λ (o : Option Command). option_and_then lines_by o) (subst (λ (x : Result Command Status). Reads x (command_of words)) is read)

  pub refuses_lines : (s : Status) → r ≡ Err s → s ≢ status.NoMemory → lines_asked words ≡ None
  refuses_lines s is known = by s (subst (λ (x : Result Command Status). Reads x (command_of words)) is read) known
    where
      by : (t : Status) → Reads {X = Command} (Err t) (command_of words) → t ≢ status.NoMemory → lines_asked words ≡ None
      by status.BadWords none known = ap (λ (o : Option Command). option_and_then lines_by o) none
      by status.NoMemory none known = absurd (known refl)
      by _ none known = absurd none

  -- many questions are no other command
  pub asks_many : (json : Bool) → r ≡ Ok (Questions json) → (¬ (IsTrue (is_run words))) × (¬ (IsTrue (is_follow words))) × (IsTrue (asks_lines words)) × (drawn_of words ≡ None)
  asks_many json is =
      let named : command_of words ≡ Some (Questions json) = subst (λ (x : Result Command Status). Reads x (command_of words)) is read in
      (not_run (Some (Questions json)) named refl, not_follow (Some (Questions json)) named refl, ap is_some (lines_as (Questions json) is), draws_so (Questions json) is)

  pub runs_only : (scale : Scale) (workers : ℕ) → r ≡ Ok (Run scale workers) → ¬ (IsTrue (is_follow words))
  runs_only scale workers is = not_follow (Some (Run scale workers)) (subst (λ (x : Result Command Status). Reads x (command_of words)) is read) refl

  -- a run in the order of the lines is a run
  pub replays : (scale : Scale) → r ≡ Ok (Replay scale) → IsTrue (is_run words) × ¬ (IsTrue (is_follow words))
  replays scale is =
      let named : command_of words ≡ Some (Replay scale) = subst (λ (x : Result Command Status). Reads x (command_of words)) is read in
      (ap (λ (o : Option Command). option_map_or is_run_command o false) named, not_follow (Some (Replay scale)) named refl)

  -- and no other command is one
  pub not_replay : (c : Command) → r ≡ Ok c → is_replay_command c ≡ false → ¬ (IsTrue (is_replay words))
  not_replay c is other replays =
      let named : command_of words ≡ Some c = subst (λ (x : Result Command Status). Reads x (command_of words)) is read in
      let z : true ≡ false = sym replays ∙ ap (λ (o : Option Command). option_map_or is_replay_command o false) named ∙ other in cc

  pub follows : r ≡ Ok Follow → IsTrue (is_follow words) × ¬ (IsTrue (is_run words))
  follows is =
      let named : command_of words ≡ Some Follow = subst (λ (x : Result Command Status). Reads x (command_of words)) is read in
      (ap (λ (o : Option Command). option_map_or is_follow_command o false) named, not_run (Some Follow) named refl)

  pub asks : (q : Question) → r ≡ Ok (Ask q) → (¬ (IsTrue (is_run words))) × (question_of words ≡ Some q) × ¬ (IsTrue (is_follow words))
  asks q is =
      let named : command_of words ≡ Some (Ask q) = subst (λ (x : Result Command Status). Reads x (command_of words)) is read in (
        not_run (Some (Ask q)) named refl,
        ap (λ (o : Option Command). option_and_then question_in o) named,
        not_follow (Some (Ask q)) named refl,
      )

  pub refuses : (s : Status) → r ≡ Err s → s ≢ status.NoMemory → (¬ (IsTrue (is_run words))) × (question_of words ≡ None) × ¬ (IsTrue (is_follow words))
  refuses s is known = by s (subst (λ (x : Result Command Status). Reads x (command_of words)) is read) known
    where
      by : (t : Status) → Reads {X = Command} (Err t) (command_of words) → t ≢ status.NoMemory → (¬ (IsTrue (is_run words))) × (question_of words ≡ None) × ¬ (IsTrue (is_follow words))
      by status.BadWords none known = (not_run None none refl, ap (λ (o : Option Command). option_and_then question_in o) none, not_follow None none refl)
      by status.NoMemory none known = absurd (known refl)
      by _ none known = absurd none

  pub refusal_read : (s : Status) → r ≡ Err s → IsQuestionRead (Err s)
  refusal_read s is = by s (subst (λ (x : Result Command Status). Reads x (command_of words)) is read)
    where
      by : (t : Status) → Reads {X = Command} (Err t) (command_of words) → IsQuestionRead (Err t)
      by status.BadWords none = tt
      by status.NoMemory none = tt
      by _ none = absurd none

-- the question that was read
module _ (r : Result Question Status) (asked : Option Question) (read : Reads r asked) where
  pub question_read : IsQuestionRead r
  question_read = by r read
    where
      by : (x : Result Question Status) → Reads x asked → IsQuestionRead x
      by (Ok q) is = tt
      by (Err status.BadWords) is = tt
      by (Err status.NoMemory) is = tt
      by (Err _) is = absurd is

  pub same_asked : (r ≡ Err status.NoMemory → ⊥) → asked_in r ≡ asked
  same_asked known = by r read known
    where
      by : (x : Result Question Status) → Reads x asked → (x ≡ Err status.NoMemory → ⊥) → asked_in x ≡ asked
      by (Ok q) is known = sym is
      by (Err status.BadWords) is known = sym is
      by (Err status.NoMemory) is known = absurd (known refl)
      by (Err _) is known = absurd is

  pub not_put : (IsPut asked → ⊥) → IsPut (asked_in r) → ⊥
  not_put lost = by r read
    where
      by : (x : Result Question Status) → Reads x asked → IsPut (asked_in x) → ⊥
      by (Ok q) is put = lost (subst IsPut (sym is) put)
      by (Err s) is put = put
