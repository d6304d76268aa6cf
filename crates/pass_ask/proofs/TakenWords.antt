-- The words that the command line takes.
use Rattle.std.proofs.Common.{◌≡◌, ◌∙◌, true, false, refl, sym, ap, subst, List, [], ◌∷◌, ◌⊎◌, inl, inr}
use Rattle.std.specs.Prelude.{Option, Some, None, Result, Ok, Err, option_and_then, option_map, unwrap_or, codes, map, if◌then◌else◌}
use Rattle.std.specs.Borrow.{Bor}
use Rattle.clap.specs.Faults.{fault_of, is_simple_and_free}
use Rattle.clap.specs.Kinds.{FailsBy, HasKind, IsAmong, Kinds}
use Rattle.clap.specs.Matches.{found_of}
use Rattle.clap.specs.Simple.{App, HasMatchesOf, is_simple, matches_of}
use Rattle.clap.specs.Values.{kind_of}
use Rattle.clap.specs.Walk.{Row, all_of, first_of, rows_of}
use Rattle.clap.specs.declared.error.Error.{Error}
use Rattle.clap.specs.declared.error.kind.ErrorKind.{ErrorKind}
use Rattle.clap.specs.declared.error.kind.ErrorKind.TheVariants.{OutOfMemory}
use Rattle.clap.specs.declared.parser.matches.ArgMatches.{ArgMatches}
use Rattle.clap.proofs.OnLiterals.{clap_on_literals}
use Rattle.pass_status.specs.declared.status.Status.{Status}
use Rattle.pass_status.specs.declared.status.Status.TheVariants as status
use Rattle.pass_ask.specs.Line.{command_line}
use Rattle.pass_ask.specs.Words.{Reads, Text, command_by, command_found, command_of, flags_in, is_set, taken, told_found, told_in, unless_fault}
use Rattle.pass_ask.specs.Telling.{tells}
use Rattle.pass_ask.specs.declared.telling.Flags.{Flags}
use Rattle.pass_ask.specs.declared.words.Command.{Command}

abbrev pub text_in : Option (Bor Text) → Option Text
text_in o = option_map (λ s. s.now) o

abbrev pub texts_in : Option (Bor (List (Bor Text))) → Option (List Text)
texts_in o = option_map (λ s. map (λ v. v.now) s.now) o

line_is_free : is_simple_and_free command_line ≡ true
unfolding clap_on_literals command_line
line_is_free = refl

line_is_simple : is_simple command_line ≡ true
unfolding clap_on_literals command_line
line_is_simple = refl

ok_fails : (kinds : Kinds) (r : Result ArgMatches Error) (m : ArgMatches) → r ≡ Ok m → FailsBy kinds r → kinds ≡ []
ok_fails kinds r m is fails = subst (λ (x : Result ArgMatches Error). FailsBy kinds x) is fails

err_fails : (kinds : Kinds) (r : Result ArgMatches Error) (e : Error) → r ≡ Err e → FailsBy kinds r → HasKind kinds e
err_fails kinds r e is fails = subst (λ (x : Result ArgMatches Error). FailsBy kinds x) is fails

-- words that are taken name the command that is found
pub taken_words : (app : App) (words : List Text) (r : Result ArgMatches Error) (m : ArgMatches) → app ≡ command_line → r ≡ Ok m
    → (is_simple_and_free app ≡ true → FailsBy (fault_of app words) r) → HasMatchesOf app words m → command_of words ≡ taken (rows_of (found_of m))
unfolding command_of
taken_words app words r m is ok fails has =
    let none : fault_of command_line words ≡ [] = ap (λ (a : App). fault_of a words) (sym is) ∙ ok_fails (fault_of app words) r m ok (fails (ap is_simple_and_free is ∙ line_is_free)) in
    let rows : rows_of (found_of m) ≡ matches_of command_line words = (has (ap is_simple is ∙ line_is_simple)).0 ∙ ap (λ (a : App). matches_of a words) is in
    ap (λ (kinds : Kinds). unless_fault kinds (taken (matches_of command_line words))) none ∙ ap taken (sym rows)

none_taken : {X : Type 0} (kinds : Kinds) (k : ErrorKind) (found : Option X) → IsAmong k kinds → unless_fault kinds found ≡ None
none_taken [] k found among = absurd among
none_taken (x ∷ xs) k found among = refl

-- words that aren't name none, unless memory was refused
pub refused_words : (app : App) (words : List Text) (r : Result ArgMatches Error) (e : Error) (s : Status) → app ≡ command_line → r ≡ Err e
    → (is_simple_and_free app ≡ true → FailsBy (fault_of app words) r) → (s ≡ status.NoMemory) ⊎ (s ≡ status.BadWords) → (kind_of e ≡ OutOfMemory → s ≡ status.NoMemory)
    → Reads {X = Command} (Err s) (command_of words)
unfolding command_of
refused_words app words r e s is err fails only memory =
    by (err_fails (fault_of app words) r e err (fails (ap is_simple_and_free is ∙ line_is_free))) only
  where
    to : (t : Status) → s ≡ t → Reads {X = Command} (Err t) (command_of words) → Reads {X = Command} (Err s) (command_of words)
    to t same holds = subst (λ (u : Status). Reads {X = Command} (Err u) (command_of words)) (sym same) holds

    by : HasKind (fault_of app words) e → (s ≡ status.NoMemory) ⊎ (s ≡ status.BadWords) → Reads {X = Command} (Err s) (command_of words)
    by kind (inl starved) = to status.NoMemory starved tt
    by (inl starved) (inr bad) = to status.NoMemory (memory starved) tt
    by (inr among) (inr bad) = to status.BadWords bad
        (ap (λ (a : App). unless_fault (fault_of a words) (taken (matches_of command_line words))) (sym is)
        ∙ none_taken (fault_of app words) (kind_of e) (taken (matches_of command_line words)) among)

abbrev found_by : Option Text → Option Text → Option Text → Option Text → Option Text → List Text → Option Command
found_by replay long json workers name words = option_and_then (λ n. command_by (is_set replay) (is_set long) (is_set json) workers n words) name

-- what was found, by what each option and word gave
pub found_as : (rows : List Row) (replay long json workers name : Option Text) (words : List Text) → first_of (codes "replay") rows ≡ replay → first_of (codes "long") rows ≡ long
    → first_of (codes "json") rows ≡ json → first_of (codes "workers") rows ≡ workers → first_of (codes "command") rows ≡ name → unwrap_or (all_of (codes "word") rows) [] ≡ words
    → command_found rows ≡ option_and_then (λ n. command_by (is_set replay) (is_set long) (is_set json) workers n words) name
found_as rows replay long json workers name words r l a b c d =
    ap (λ r. found_by r (first_of (codes "long") rows) (first_of (codes "json") rows) (first_of (codes "workers") rows) (first_of (codes "command") rows) (unwrap_or (all_of (codes "word") rows) [])) r
    ∙ ap (λ l. found_by replay l (first_of (codes "json") rows) (first_of (codes "workers") rows) (first_of (codes "command") rows) (unwrap_or (all_of (codes "word") rows) [])) l
    ∙ ap (λ j. found_by replay long j (first_of (codes "workers") rows) (first_of (codes "command") rows) (unwrap_or (all_of (codes "word") rows) [])) a
    ∙ ap (λ w. found_by replay long json w (first_of (codes "command") rows) (unwrap_or (all_of (codes "word") rows) [])) b
    ∙ ap (λ n. found_by replay long json workers n (unwrap_or (all_of (codes "word") rows) [])) c
    ∙ ap (λ ws. found_by replay long json workers name ws) d

abbrev told_by : Option Text → Option Text → Option Text → Option Text → Flags → Text → List Text → Option Command
told_by replay long json workers flags name words = told_in (is_set replay) (is_set long) (is_set json) workers flags name words

-- the same of a question about names
pub told_as : (rows : List Row) (replay long json workers : Option Text) (flags : Flags) (name : Text) (words : List Text) → first_of (codes "replay") rows ≡ replay → first_of (codes "long") rows ≡ long
    → first_of (codes "json") rows ≡ json → first_of (codes "workers") rows ≡ workers → flags_in rows ≡ flags → unwrap_or (all_of (codes "word") rows) [] ≡ words
    → told_found rows name ≡ told_in (is_set replay) (is_set long) (is_set json) workers flags name words
told_as rows replay long json workers flags name words r l a b c d =
    ap (λ r. told_by r (first_of (codes "long") rows) (first_of (codes "json") rows) (first_of (codes "workers") rows) (flags_in rows) name (unwrap_or (all_of (codes "word") rows) [])) r
    ∙ ap (λ l. told_by replay l (first_of (codes "json") rows) (first_of (codes "workers") rows) (flags_in rows) name (unwrap_or (all_of (codes "word") rows) [])) l
    ∙ ap (λ j. told_by replay long j (first_of (codes "workers") rows) (flags_in rows) name (unwrap_or (all_of (codes "word") rows) [])) a
    ∙ ap (λ w. told_by replay long json w (flags_in rows) name (unwrap_or (all_of (codes "word") rows) [])) b
    ∙ ap (λ f. told_by replay long json workers f name (unwrap_or (all_of (codes "word") rows) [])) c
    ∙ ap (λ ws. told_by replay long json workers flags name ws) d

abbrev taken_by : List Row → Option Text → Option Command
taken_by rows name = option_and_then (λ n. if tells (flags_in rows) n then told_found rows n else command_found rows) name

-- what is taken, by the name of the command and by whether it asks for names
pub taken_none : (rows : List Row) → first_of (codes "command") rows ≡ None → taken rows ≡ None
taken_none rows is = ap (taken_by rows) is

pub taken_told : (rows : List Row) (name : Text) → first_of (codes "command") rows ≡ Some name → tells (flags_in rows) name ≡ true → taken rows ≡ told_found rows name
taken_told rows name is asks = ap (taken_by rows) is ∙ ap (λ b. if b then told_found rows name else command_found rows) asks

pub taken_other : (rows : List Row) (name : Text) → first_of (codes "command") rows ≡ Some name → tells (flags_in rows) name ≡ false → taken rows ≡ command_found rows
taken_other rows name is asks = ap (taken_by rows) is ∙ ap (λ b. if b then told_found rows name else command_found rows) asks

abbrev flags_by : Option Text → Option Text → Option Text → Flags
flags_by names flows plain = record { names = is_set names; flows = is_set flows; plain = is_set plain }

-- the flags, by what each gave
pub flags_as : (rows : List Row) (names flows plain : Option Text) → first_of (codes "names") rows ≡ names → first_of (codes "data") rows ≡ flows → first_of (codes "plain") rows ≡ plain
    → flags_in rows ≡ flags_by names flows plain
flags_as rows names flows plain a b c =
    ap (λ n. flags_by n (first_of (codes "data") rows) (first_of (codes "plain") rows)) a
    ∙ ap (λ f. flags_by names f (first_of (codes "plain") rows)) b ∙ ap (flags_by names flows) c
