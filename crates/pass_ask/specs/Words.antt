-- The table of commands: which words name which command. This project's own rule.
use Rattle.std.specs.Prelude.{ℕ, ◌≡◌, ◌≤◌, ◌||◌, Bool, true, false, List, [], ◌∷◌, Option, Some, None, Result, Ok, Err, is_some, option_map, option_and_then, unwrap_or, codes, if◌then◌else◌}
use Rattle.std.specs.Option.{option_map_or}
use Rattle.clap.specs.Faults.{fault_of}
use Rattle.clap.specs.Kinds.{Kinds}
use Rattle.clap.specs.Simple.{matches_of}
use Rattle.clap.specs.Walk.{Row, all_of, first_of}
use Rattle.pass_entry.specs.declared.objects.Node.{Node}
use Rattle.pass_entry.specs.Texts.{is_name}
use Rattle.pass_query.specs.declared.question.Form.{Form}
use Rattle.pass_query.specs.declared.question.Form.TheVariants.{Lines, Json}
use Rattle.pass_query.specs.declared.question.Query.{Query}
use Rattle.pass_query.specs.declared.question.Query.TheVariants.{Ancestors, Descendants, Path, Named}
use Rattle.pass_status.specs.declared.status.Status.{Status}
use Rattle.pass_status.specs.declared.status.Status.TheVariants as status
use Rattle.pass_trace.specs.declared.limits.Scale.{Scale}
use Rattle.pass_trace.specs.declared.limits.Scale.TheVariants.{Usual, Long}
use Rattle.pass_trace.specs.Limits.{most_lines}
use Rattle.pass_trace.specs.Words.{is_text}
use Rattle.pass_ask.specs.Line.{command_line}
use Rattle.pass_ask.specs.Numbers.{number_in, node_in, seed_in}
use Rattle.pass_ask.specs.Telling.{inquiry_in, tells}
use Rattle.pass_ask.specs.declared.telling.Flags.{Flags}
use Rattle.pass_ask.specs.declared.words.Command.{Command}
use Rattle.pass_ask.specs.declared.words.Command.TheVariants.{Run, Replay, Gen, Ask, Questions, Follow}
use Rattle.pass_ask.specs.declared.words.GraphQuestion.{GraphQuestion}
use Rattle.pass_ask.specs.declared.words.GraphQuestion.TheVariants.{Lineage, Recipe, Told}
use Rattle.pass_ask.specs.declared.words.Question.{Question}
use Rattle.pass_ask.specs.declared.words.Question.TheVariants.{Check, Graph, Match, Send}

abbrev pub Text : Type 0
Text = List ℕ

-- how many workers take the turns: from 1 to 64, and 4 where nothing is said
abbrev pub workers_in : Option Text → Option ℕ
workers_in None = Some 4
workers_in (Some word) = number_in 1 64 word

-- how large a trace is, by whether --long is given
abbrev pub scale_by : Bool → Scale
scale_by true = Long
scale_by false = Usual

-- run, --workers N
abbrev pub run_in : Scale → Bool → Option Text → List Text → Option Command
run_in scale false workers [] = option_map (Run scale) (workers_in workers)
run_in _ _ _ _ = None

abbrev pub gen_of : Option ℕ → Option ℕ → Option ℕ → Option Command
gen_of (Some workers) (Some number) (Some lines) = Some (Gen workers number lines)
gen_of _ _ _ = None

-- gen NUMBER LINES, --workers N: a trace has 15 lines, and up to as many as its scale allows
abbrev pub gen_in : Scale → Bool → Option Text → List Text → Option Command
gen_in scale false workers (number ∷ lines ∷ []) = gen_of (workers_in workers) (seed_in number) (number_in 15 (most_lines scale) lines)
gen_in _ _ _ _ = None

-- check, questions and follow, which take no further word
abbrev pub alone_in : Command → Bool → Option Text → List Text → Option Command
alone_in command false None [] = Some command
alone_in _ _ _ _ = None

abbrev pub name_in : Text → Option Text
name_in word = if is_name word then Some word else None

-- ancestors NODE, descendants NODE, named NAME
abbrev pub query_on : Text → Text → Option Query
query_on name word =
    if is_text name (codes "ancestors") then option_map Ancestors (node_in word)
    else if is_text name (codes "descendants") then option_map Descendants (node_in word)
    else if is_text name (codes "named") then option_map Named (name_in word)
    else None

abbrev pub path_of : Option Node → Option Node → Option Query
path_of (Some from) (Some to) = Some (Path from to)
path_of _ _ = None

-- path NODE NODE
abbrev pub path_on : Text → Text → Text → Option Query
path_on name from to = if is_text name (codes "path") then path_of (node_in from) (node_in to) else None

abbrev pub query_in : Text → List Text → Option Query
query_in name (word ∷ []) = query_on name word
query_in name (from ∷ to ∷ []) = path_on name from to
query_in _ _ = None

abbrev pub form_of : Bool → Form
form_of true = Json
form_of false = Lines

-- recipe NODE
abbrev pub recipe_in : Bool → List Text → Option GraphQuestion
recipe_in false (word ∷ []) = option_map Recipe (node_in word)
recipe_in _ _ = None

abbrev pub match_of : Form → Text → Option Node → Option Question
match_of form text (Some from) = Some (Match from text form)
match_of form text None = None

-- match NODE PATTERN, whose pattern isn't judged yet
abbrev pub match_in : Bool → List Text → Option Question
match_in json (node ∷ text ∷ []) = match_of (form_of json) text (node_in node)
match_in _ _ = None

-- the greatest number that is written with 19 digits
abbrev pub last_place : ℕ
last_place = 9999999999999999999

-- send FROM
abbrev pub send_in : Bool → List Text → Option Question
send_in false (word ∷ []) = option_map Send (number_in 0 last_place word)
send_in _ _ = None

-- a question to the graph
abbrev pub graph_in : Bool → Text → List Text → Option GraphQuestion
graph_in json name words =
    if is_text name (codes "recipe") then recipe_in json words
    else option_map (λ query. Lineage query (form_of json)) (query_in name words)

-- run --replay, which goes with nothing else but --long
abbrev pub replay_in : Scale → Bool → Option Text → Text → List Text → Option Command
replay_in scale json workers name words = if is_text name (codes "run") then alone_in (Replay scale) json workers words else None

-- The command without --replay by whether --long and --json are given, what --workers gives, COMMAND and its words. --long and --workers
-- go with run and gen alone, --json with the queries and with many of them.
abbrev pub command_in : Bool → Bool → Option Text → Text → List Text → Option Command
command_in long json workers name words =
    if is_text name (codes "run") then run_in (scale_by long) json workers words
    else if is_text name (codes "gen") then gen_in (scale_by long) json workers words
    else if long then None
    else if is_text name (codes "check") then alone_in (Ask Check) json workers words
    else if is_text name (codes "questions") then alone_in (Questions json) false workers words
    else if is_text name (codes "follow") then alone_in Follow json workers words
    else if is_some workers then None
    else if is_text name (codes "send") then option_map Ask (send_in json words)
    else if is_text name (codes "match") then option_map Ask (match_in json words)
    else option_map (λ q. Ask (Graph q)) (graph_in json name words)

-- the command by whether --replay and --long are given
abbrev pub command_by : Bool → Bool → Bool → Option Text → Text → List Text → Option Command
command_by true long json workers name words = replay_in (scale_by long) json workers name words
command_by false long json workers name words = command_in long json workers name words

-- a flag that was given has the value true
abbrev pub is_set : Option Text → Bool
is_set value = option_map_or (λ text. is_text text (codes "true")) value false

-- what the command line found
abbrev pub command_found : List Row → Option Command
command_found rows = option_and_then (λ name. command_by (is_set (first_of (codes "replay") rows)) (is_set (first_of (codes "long") rows)) (is_set (first_of (codes "json") rows)) (first_of (codes "workers") rows) name
    (unwrap_or (all_of (codes "word") rows) [])) (first_of (codes "command") rows)

abbrev pub unless_fault : {X : Type 0} → Kinds → Option X → Option X
unless_fault [] found = found
unless_fault (kind ∷ kinds) found = None

-- the flags of questions about names
abbrev pub flags_in : List Row → Flags
flags_in rows = record { names = is_set (first_of (codes "names") rows); flows = is_set (first_of (codes "data") rows); plain = is_set (first_of (codes "plain") rows) }

-- a question about names, with which --replay, --long and --workers don't go
abbrev pub told_in : Bool → Bool → Bool → Option Text → Flags → Text → List Text → Option Command
told_in replay long json workers flags name words = if replay || (long || is_some workers) then None else option_map (λ q. Ask (Graph (Told q (form_of json)))) (inquiry_in flags name words)

abbrev pub told_found : List Row → Text → Option Command
told_found rows name = told_in (is_set (first_of (codes "replay") rows)) (is_set (first_of (codes "long") rows)) (is_set (first_of (codes "json") rows)) (first_of (codes "workers") rows) (flags_in rows) name (unwrap_or (all_of (codes "word") rows) [])

-- what the command line found, where it may ask about names
abbrev pub taken : List Row → Option Command
taken rows = option_and_then (λ name. if tells (flags_in rows) name then told_found rows name else command_found rows) (first_of (codes "command") rows)

-- the command of the words, where the command line takes them and they are in the table
unfoldable pub command_of : List Text → Option Command
command_of words = unless_fault (fault_of command_line words) (taken (matches_of command_line words))

abbrev pub is_replay_command : Command → Bool
is_replay_command (Replay scale) = true
is_replay_command _ = false

-- the words are those of run --replay
abbrev pub is_replay : List Text → Bool
is_replay words = option_map_or is_replay_command (command_of words) false

abbrev pub is_run_command : Command → Bool
is_run_command (Run scale workers) = true
is_run_command (Replay scale) = true
is_run_command _ = false

-- the words are those of run, in whatever order
abbrev pub is_run : List Text → Bool
is_run words = option_map_or is_run_command (command_of words) false

abbrev pub scale_in : Command → Scale
scale_in (Run scale workers) = scale
scale_in (Replay scale) = scale
scale_in _ = Usual

-- how large a trace the words run
abbrev pub scale_of : List Text → Scale
scale_of words = option_map_or scale_in (command_of words) Usual

-- what a command draws: a number and how many lines
abbrev pub drawn_by : Command → Option (ℕ × ℕ)
drawn_by (Gen workers number lines) = Some (number, lines)
drawn_by _ = None

-- the words are those of gen, with this number and so many lines
abbrev pub drawn_of : List Text → Option (ℕ × ℕ)
drawn_of words = option_and_then drawn_by (command_of words)

abbrev pub is_gen : List Text → Bool
is_gen words = is_some (drawn_of words)

abbrev pub is_follow_command : Command → Bool
is_follow_command Follow = true
is_follow_command _ = false

-- the words are those of follow
abbrev pub is_follow : List Text → Bool
is_follow words = option_map_or is_follow_command (command_of words) false

abbrev pub lines_by : Command → Option Bool
lines_by (Questions json) = Some json
lines_by _ = None

-- the words are those of questions, and whether each is asked with --json
abbrev pub lines_asked : List Text → Option Bool
lines_asked words = option_and_then lines_by (command_of words)

abbrev pub asks_lines : List Text → Bool
asks_lines words = is_some (lines_asked words)

abbrev pub is_writing : Command → Bool
is_writing (Ask question) = false
is_writing (Questions json) = false
is_writing _ = true

-- the words are those of a command that writes to the store: run, gen or follow
abbrev pub writes : List Text → Bool
writes words = option_map_or is_writing (command_of words) false

abbrev pub question_in : Command → Option Question
question_in (Ask question) = Some question
question_in _ = None

-- the question that the words ask
abbrev pub question_of : List Text → Option Question
question_of words = option_and_then question_in (command_of words)

-- what was read, or that the words are bad ones, unless memory was refused
abbrev pub Reads : {X : Type 0} → Result X Status → Option X → Type 0
Reads (Ok x) read = read ≡ Some x
Reads (Err status.BadWords) read = read ≡ None
Reads (Err status.NoMemory) read = Unit {0}
Reads (Err _) read = ⊥

abbrev pub HasWorkers : Command → Type 0
HasWorkers (Run scale workers) = (1 ≤ workers) × (workers ≤ 64)
HasWorkers (Gen workers number lines) = (1 ≤ workers) × (workers ≤ 64) × (15 ≤ lines) × (lines ≤ most_lines Long)
HasWorkers _ = Unit {0}
