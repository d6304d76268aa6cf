-- What the words asked for.
use Rattle.std.proofs.Common.{◌≡◌, ◌∙◌, ◌<◌, ◌≤◌, ◌==◌, ◌&&◌, ℕ, Bool, true, false, List, length, [], ◌∷◌, refl, sym, ap, subst, arith}
use Rattle.std.specs.Prelude.{Option, Some, None, Result, Ok, Err, IfOk, String, codes, get_or, map, nat_le, option_map, string_bytes, if◌then◌else◌}
use Rattle.std.specs.declared.alloc.Global.{Global}
use Rattle.std.specs.declared.alloc.AllocError.{AllocError}
use Rattle.std.proofs.lemmas.Bool.Decides.{nat_tests}
use Rattle.pass_entry.specs.declared.objects.Node.{Node}
use Rattle.pass_entry.specs.Texts.{is_name}
use Rattle.pass_files.specs.declared.spelled.Spelled.{Spelled}
use Rattle.pass_trace.specs.Words.{is_number, is_text, value_of}
use Rattle.pass_ask.specs.Numbers.{number_in, node_in, last_number}
use Rattle.pass_ask.specs.Telling.{spelled_in}
use Rattle.pass_entry.proofs.Lists.{some_is}
use Rattle.pass_old.specs.declared.words.OldCommand.{OldCommand}
use Rattle.pass_old.specs.declared.words.OldCommand.TheVariants.{Run, Ask, Consult, Tar}
use Rattle.pass_old.specs.declared.words.OldQuestion.{OldQuestion}
use Rattle.pass_old.specs.declared.words.OldQuestion.TheVariants.{Cat, Versions, Diff}
use Rattle.pass_old.specs.declared.words.LogQuestion.{LogQuestion}
use Rattle.pass_old.specs.declared.words.LogQuestion.TheVariants.{Named, Check}
use Rattle.pass_old.specs.Words.{IsNamed, called, command_of, diff_of, file_of, is_run, named_of}

pub is_command : (read asked : Option OldCommand) (found is : OldCommand) → read ≡ asked → read ≡ Some found → found ≡ is → asked ≡ Some is
is_command read asked found is same some one = sym same ∙ some ∙ ap (λ (c : OldCommand). Some c) one

-- a command that asks by a name is no run and no question to the archive alone
pub named_not_run : (asked : Option OldCommand) (n : ℕ) → IsNamed asked → asked ≡ Some (Run n) → ⊥
named_not_run asked n named is = subst IsNamed is named

pub named_not_asked : (asked : Option OldCommand) (q : OldQuestion) → IsNamed asked → asked ≡ Some (Ask q) → ⊥
named_not_asked asked q named is = subst IsNamed is named

pub named_not_none : (asked : Option OldCommand) → IsNamed asked → asked ≡ None → ⊥
named_not_none asked named is = subst IsNamed is named

pub none_asked : (asked : Option OldCommand) (c : OldCommand) → asked ≡ Some c → asked ≡ None → ⊥
none_asked asked c some none = let z : ◌≡◌ {A = Option OldCommand} None (Some c) = sym none ∙ some in cc

pub other_asked : (asked : Option OldCommand) (a b : OldCommand) → (a ≡ b → ⊥) → asked ≡ Some a → asked ≡ Some b → ⊥
other_asked asked a b differs first second = differs (some_is a b (sym first ∙ second))

pub run_ask : (workers : ℕ) (question : OldQuestion) → Run workers ≡ Ask question → ⊥
run_ask workers question is = cc

pub run_consult : (workers : ℕ) (question : LogQuestion) → Run workers ≡ Consult question → ⊥
run_consult workers question is = cc

pub ask_consult : (question : OldQuestion) (other : LogQuestion) → Ask question ≡ Consult other → ⊥
ask_consult question other is = cc

pub run_tar : (workers : ℕ) (node : Spelled) → Run workers ≡ Tar node → ⊥
run_tar workers node is = cc

pub ask_tar : (question : OldQuestion) (node : Spelled) → Ask question ≡ Tar node → ⊥
ask_tar question node is = cc

pub consult_tar : (question : LogQuestion) (node : Spelled) → Consult question ≡ Tar node → ⊥
consult_tar question node is = cc

pub one_question : (asked : Option OldCommand) (one other : OldQuestion) → asked ≡ Some (Ask one) → asked ≡ Some (Ask other) → one ≡ other
one_question asked one other first second = let z : Ask one ≡ Ask other = some_is (Ask one) (Ask other) (sym first ∙ second) in cc

pub one_consulted : (asked : Option OldCommand) (one other : LogQuestion) → asked ≡ Some (Consult one) → asked ≡ Some (Consult other) → one ≡ other
one_consulted asked one other first second = let z : Consult one ≡ Consult other = some_is (Consult one) (Consult other) (sym first ∙ second) in cc

pub one_tar : (asked : Option OldCommand) (one other : Spelled) → asked ≡ Some (Tar one) → asked ≡ Some (Tar other) → one ≡ other
one_tar asked one other first second = let z : Tar one ≡ Tar other = some_is (Tar one) (Tar other) (sym first ∙ second) in cc

-- how many workers a command names

no_ask : (asked : OldQuestion) (n : ℕ) → Some (Ask asked) ≡ Some (Run n) → ⊥
no_ask asked n is = let z : Ask asked ≡ Run n = some_is (Ask asked) (Run n) is in cc

one_run : (m n : ℕ) → Some (Run m) ≡ Some (Run n) → m ≡ n
one_run m n is = let z : Run m ≡ Run n = some_is (Run m) (Run n) is in cc

no_run : (n : ℕ) → ◌≡◌ {A = Option OldCommand} None (Some (Run n)) → ⊥
no_run n is = cc is

ranged : (a b c : Bool) (v n : ℕ) → (if a && (b && c) then Some v else None) ≡ Some n → (b ≡ true) × (c ≡ true) × (v ≡ n)
ranged true true true v n is = (refl, refl, some_is v n is)
ranged true true false v n is = absurd (cc is)
ranged true false c v n is = absurd (cc is)
ranged false b c v n is = absurd (cc is)

least : (m n : ℕ) → nat_le m n ≡ true → m ≤ n
least m n is = grind (arith, nat_tests)

in_range : (low high : ℕ) (word : List ℕ) (n : ℕ) → number_in low high word ≡ Some n → (low ≤ n) × (n ≤ high)
in_range low high word n is =
    let r = ranged (is_number word) (nat_le low (value_of word)) (nat_le (value_of word) high) (value_of word) n is in
    (omega (arith, least low (value_of word) r.0, r.2), omega (arith, least (value_of word) high r.1, r.2))

no_consult : (asked : LogQuestion) (n : ℕ) → Some (Consult asked) ≡ Some (Run n) → ⊥
no_consult asked n is = let z : Consult asked ≡ Run n = some_is (Consult asked) (Run n) is in cc

alone_in : (a b : Bool) (n : ℕ) → (if a then Some (Run 4) else if b then Some (Consult Check) else None) ≡ Some (Run n) → (1 ≤ n) × (n ≤ 64)
alone_in true b n is = (omega (arith, one_run 4 n is), omega (arith, one_run 4 n is))
alone_in false true n is = absurd (no_consult Check n is)
alone_in false false n is = absurd (no_run n is)

cat_in : (node : Option Node) (n : ℕ) → option_map (λ node. Ask (Cat node)) node ≡ Some (Run n) → ⊥
cat_in None n is = no_run n is
cat_in (Some node) n is = no_ask (Cat node) n is

named_in : (b : Bool) (name : List ℕ) (n : ℕ) → (if b then Some (Consult (Named name)) else None) ≡ Some (Run n) → ⊥
named_in true name n is = no_consult (Named name) n is
named_in false name n is = no_run n is

versions_in : (file : Option ℕ) (word : List ℕ) (n : ℕ) → file_of file word ≡ Some (Run n) → ⊥
versions_in None word n is = named_in (is_name (called word)) (called word) n is
versions_in (Some file) word n is = no_ask (Versions file) n is

tar_in : (node : Option Spelled) (n : ℕ) → option_map Tar node ≡ Some (Run n) → ⊥
tar_in None n is = no_run n is
tar_in (Some node) n is = let z : Tar node ≡ Run n = some_is (Tar node) (Run n) is in cc

asks_one : (a b c : Bool) (node : Option Node) (file : Option ℕ) (word : List ℕ) (came : Option Spelled) (n : ℕ)
    → (if a then option_map (λ node. Ask (Cat node)) node else if b then file_of file word else if c then option_map Tar came else None) ≡ Some (Run n) → ⊥
asks_one true b c asked file word came n is = cat_in asked n is
asks_one false true c asked file word came n is = versions_in file word n is
asks_one false false true asked file word came n is = tar_in came n is
asks_one false false false asked file word came n is = no_run n is

two_nodes : (b : Bool) (from to : Node) (n : ℕ) → (if b then Some (Ask (Diff from to)) else None) ≡ Some (Run n) → ⊥
two_nodes true from to n is = no_ask (Diff from to) n is
two_nodes false from to n is = no_run n is

diff_in : (from to : Option Node) (n : ℕ) → diff_of from to ≡ Some (Run n) → ⊥
diff_in None to n is = no_run n is
diff_in (Some from) None n is = no_run n is
diff_in (Some from) (Some to) n is = two_nodes (from.pnode == to.pnode) from to n is

given_in : (word : List ℕ) (found : Option ℕ) (n : ℕ) → number_in 1 64 word ≡ found → option_map Run found ≡ Some (Run n) → (1 ≤ n) × (n ≤ 64)
given_in word None n found is = absurd (no_run n is)
given_in word (Some m) n found is =
    let within = in_range 1 64 word m found in
    (omega (arith, within.0, one_run m n is), omega (arith, within.1, one_run m n is))

with_two : (a b c : Bool) (from to : Option Node) (word : List ℕ) (n : ℕ) → (if a then diff_of from to else if b then (if c then option_map Run (number_in 1 64 word) else None) else None) ≡ Some (Run n) → (1 ≤ n) × (n ≤ 64)
with_two true b c from to word n is = absurd (diff_in from to n is)
with_two false true true from to word n is = given_in word (number_in 1 64 word) n refl is
with_two false true false from to word n is = absurd (no_run n is)
with_two false false c from to word n is = absurd (no_run n is)

pub workers_in : (words : List (List ℕ)) (n : ℕ) → command_of words ≡ Some (Run n) → (1 ≤ n) × (n ≤ 64)
workers_in [] n is = absurd (no_run n is)
workers_in (name ∷ []) n is = alone_in (is_text name (codes "run")) (is_text name (codes "check")) n is
workers_in (name ∷ word ∷ []) n is = absurd (asks_one (is_text name (codes "cat")) (is_text name (codes "versions")) (is_text name (codes "tar")) (node_in word) (number_in 1 last_number word) word (spelled_in word) n is)
workers_in (name ∷ first ∷ second ∷ []) n is = with_two (is_text name (codes "diff")) (is_text name (codes "run")) (is_text first (codes "--workers")) (node_in first) (node_in second) second n is
workers_in (name ∷ first ∷ second ∷ third ∷ words) n is = absurd (no_run n is)

-- no command has four words or more
pub no_command : (words : List (List ℕ)) → 4 ≤ length words → command_of words ≡ None
no_command [] some = absurd (omega (arith, some))
no_command (name ∷ []) some = absurd (omega (arith, some))
no_command (name ∷ first ∷ []) some = absurd (omega (arith, some))
no_command (name ∷ first ∷ second ∷ []) some = absurd (omega (arith, some))
no_command (name ∷ first ∷ second ∷ third ∷ words) some = refl

-- what was read

pub workers_read : (read : Result (Option OldCommand) AllocError) (words : List (List ℕ)) → IfOk read (λ command. command ≡ command_of words) → (n : ℕ) → IfOk read (λ command. command ≡ Some (Run n) → (1 ≤ n) × (n ≤ 64))
workers_read (Ok command) words is n = λ run. workers_in words n (sym is ∙ run)
workers_read (Err e) words is n = tt

-- a name for which memory was refused

pub is_named : (name : List ℕ) → is_name name ≡ true → IsNamed (named_of name)
is_named name is = subst (λ (b : Bool). IsNamed (if b then Some (Consult (Named name)) else None)) (sym is) tt

-- which commands write

pub writes_one : (a b : Bool) → is_run (if a then Some (Run 4) else if b then Some (Consult Check) else None) ≡ a
writes_one true b = refl
writes_one false true = refl
writes_one false false = refl

named_writes : (b : Bool) (name : List ℕ) → is_run (if b then Some (Consult (Named name)) else None) ≡ false
named_writes true name = refl
named_writes false name = refl

file_writes : (file : Option ℕ) (word : List ℕ) → is_run (file_of file word) ≡ false
file_writes (Some file) word = refl
file_writes None word = named_writes (is_name (called word)) (called word)

node_writes : (node : Option Node) → is_run (option_map (λ node. Ask (Cat node)) node) ≡ false
node_writes (Some node) = refl
node_writes None = refl

tar_writes : (node : Option Spelled) → is_run (option_map Tar node) ≡ false
tar_writes (Some node) = refl
tar_writes None = refl

two_write : (a b c : Bool) (node : Option Node) (file : Option ℕ) (word : List ℕ) (came : Option Spelled)
    → is_run (if a then option_map (λ node. Ask (Cat node)) node else if b then file_of file word else if c then option_map Tar came else None) ≡ false
two_write true b c asked file word came = node_writes asked
two_write false true c asked file word came = file_writes file word
two_write false false true asked file word came = tar_writes came
two_write false false false asked file word came = refl

pub writes_two : (words : List (List ℕ)) → 2 ≤ length words → length words < 3 → is_run (command_of words) ≡ false
writes_two [] some few = absurd (omega (arith, some))
writes_two (name ∷ []) some few = absurd (omega (arith, some))
writes_two (name ∷ word ∷ []) some few = two_write (is_text name (codes "cat")) (is_text name (codes "versions")) (is_text name (codes "tar")) (node_in word) (number_in 1 last_number word) word (spelled_in word)
writes_two (name ∷ word ∷ other ∷ words) some few = absurd (omega (arith, few))

pub writes_more : (words : List (List ℕ)) → 4 ≤ length words → is_run (command_of words) ≡ false
writes_more words some = ap is_run (no_command words some)

-- the bytes of two words
pub two_words : (words : List (String Global)) (name word : String Global) → 2 ≤ length words → length words < 3 → name ≡ get_or words 0 name → word ≡ get_or words 1 word
    → map string_bytes words ≡ string_bytes name ∷ string_bytes word ∷ []
two_words [] name word some few first second = absurd (omega (arith, some))
two_words (a ∷ []) name word some few first second = absurd (omega (arith, some))
two_words (a ∷ b ∷ []) name word some few first second = λ i. string_bytes (sym first i) ∷ string_bytes (sym second i) ∷ []
two_words (a ∷ b ∷ other ∷ words) name word some few first second = absurd (omega (arith, few))
