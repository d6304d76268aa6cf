-- As many parentheses are open behind a text as there are levels outside.
use Rattle.std.proofs.Common.{ℕ, ◌≡◌, ◌≤◌, ◌+◌, ◌-◌, ◌==◌, Bool, true, false, not, refl, ap, ◌∙◌, subst, List, [], ◌∷◌, ◌++◌, length, arith}
use Rattle.std.specs.Prelude.{Option, Some, None, Ok, Err, nat_le, if◌then◌else◌}
use Rattle.std.proofs.lemmas.Bool.Decides.{nat_tests}
use Rattle.std.proofs.lemmas.Option.{none-some}
use Rattle.pass_entry.specs.Texts.{is_name, is_name_byte}
use Rattle.pass_plain.proofs.Lists.{some_is}
use Rattle.pass_pattern.specs.declared.pattern.EdgeTest.{EdgeTest}
use Rattle.pass_pattern.specs.declared.reader.Mark.{Mark}
use Rattle.pass_pattern.specs.declared.reader.Mark.TheVariants as mark
use Rattle.pass_pattern.specs.declared.reader.Reader.{Reader}
use Rattle.pass_pattern.specs.declared.reader.Refusal.TheVariants.{Bad, Deep}
use Rattle.pass_pattern.specs.Marks.{mark_of}
use Rattle.pass_pattern.specs.Patterns.{Shape}
use Rattle.pass_pattern.specs.Patterns.Shape.{One, Many}
use Rattle.pass_pattern.specs.Grammar.{opened, is_brace, open_from}
use Rattle.pass_pattern.specs.Reading.{Last, Level, State, state, fresh, joined_shape, whole_shape, begun, behind_step, behind_atom, behind_letter, in_name, read_on, read_byte, state_of, is_full, IsReadFrom}
use Rattle.pass_pattern.specs.Reading.Last.{Nothing, Letter, Name, Atom, Starred}
use Rattle.pass_pattern.proofs.Running.{and_on, run}

abbrev pub is_named : Last → Bool
is_named (Name edge name) = true
is_named _ = false

-- the state counts what the mark opens
record Counts (brace : Bool) (depth : ℕ) (t : State) : Type 0 where
  named : brace ≡ is_named t.last
  many : depth ≡ length t.outer

counts_at : (brace : Bool) (depth : ℕ) (s t : State) → ◌≡◌ {A = Option State} (Some s) (Some t) → Counts brace depth s → Counts brace depth t
counts_at brace depth s t same c = subst (Counts brace depth) (some_is s t same) c

on_step : (step : Shape) (level : Level) (outer : List Level) (m : Mark) (t : State) → behind_step step level outer m ≡ Some t → Counts (is_brace m) (opened m (length outer)) t
on_step step level outer mark.Slash t to =
    counts_at false (length outer) (state Nothing (record { alternatives = level.alternatives; steps = Some (joined_shape level.steps step) }) outer) t to (record { named = refl; many = refl })
on_step step level outer mark.Bar t to =
    counts_at false (length outer) (state Nothing (record { alternatives = Some (whole_shape level step); steps = None }) outer) t to (record { named = refl; many = refl })
on_step step level [] mark.Close t to = absurd (none-some t to)
on_step step level (above ∷ outer) mark.Close t to =
    counts_at false (length (above ∷ outer) - 1) (state (Atom (whole_shape level step)) above outer) t to (record { named = refl; many = omega arith })
on_step step level outer (mark.Letter edge) t to = absurd (none-some t to)
on_step step level outer mark.Brace t to = absurd (none-some t to)
on_step step level outer mark.Star t to = absurd (none-some t to)
on_step step level outer mark.Open t to = absurd (none-some t to)
on_step step level outer mark.Other t to = absurd (none-some t to)

on_atom : (p : Shape) (level : Level) (outer : List Level) (m : Mark) (t : State) → behind_atom p level outer m ≡ Some t → Counts (is_brace m) (opened m (length outer)) t
on_atom p level outer mark.Star t to = counts_at false (length outer) (state (Starred (Many p)) level outer) t to (record { named = refl; many = refl })
on_atom p level outer mark.Slash t to = on_step p level outer mark.Slash t to
on_atom p level outer mark.Bar t to = on_step p level outer mark.Bar t to
on_atom p level outer mark.Close t to = on_step p level outer mark.Close t to
on_atom p level outer (mark.Letter edge) t to = absurd (none-some t to)
on_atom p level outer mark.Brace t to = absurd (none-some t to)
on_atom p level outer mark.Open t to = absurd (none-some t to)
on_atom p level outer mark.Other t to = absurd (none-some t to)

on_letter : (edge : EdgeTest) (level : Level) (outer : List Level) (m : Mark) (t : State) → behind_letter edge level outer m ≡ Some t → Counts (is_brace m) (opened m (length outer)) t
on_letter edge level outer mark.Brace t to = counts_at true (length outer) (state (Name edge []) level outer) t to (record { named = refl; many = refl })
on_letter edge level outer mark.Star t to = on_atom (One edge None) level outer mark.Star t to
on_letter edge level outer mark.Slash t to = on_atom (One edge None) level outer mark.Slash t to
on_letter edge level outer mark.Bar t to = on_atom (One edge None) level outer mark.Bar t to
on_letter edge level outer mark.Close t to = on_atom (One edge None) level outer mark.Close t to
on_letter edge level outer (mark.Letter e) t to = absurd (none-some t to)
on_letter edge level outer mark.Open t to = absurd (none-some t to)
on_letter edge level outer mark.Other t to = absurd (none-some t to)

on_start : (level : Level) (outer : List Level) (m : Mark) (t : State) → begun level outer m ≡ Some t → Counts (is_brace m) (opened m (length outer)) t
on_start level outer (mark.Letter edge) t to = counts_at false (length outer) (state (Letter edge) level outer) t to (record { named = refl; many = refl })
on_start level outer mark.Open t to = counts_at false (length outer + 1) (state Nothing fresh (level ∷ outer)) t to (record { named = refl; many = omega arith })
on_start level outer mark.Brace t to = absurd (none-some t to)
on_start level outer mark.Star t to = absurd (none-some t to)
on_start level outer mark.Slash t to = absurd (none-some t to)
on_start level outer mark.Bar t to = absurd (none-some t to)
on_start level outer mark.Close t to = absurd (none-some t to)
on_start level outer mark.Other t to = absurd (none-some t to)

on_name : (edge : EdgeTest) (name : List ℕ) (level : Level) (outer : List Level) (byte : ℕ) (t : State) → in_name edge name level outer byte ≡ Some t → Counts (not (byte == 125)) (length outer) t
on_name edge name level outer byte t to = at_end (byte == 125) (is_name name) (is_name_byte byte) to
  where
    at_end : (brace whole good : Bool)
        → (if brace then (if whole then Some (state (Atom (One edge (Some name))) level outer) else None) else (if good then Some (state (Name edge (name ++ byte ∷ [])) level outer) else None)) ≡ Some t
        → Counts (not brace) (length outer) t
    at_end true true good to = counts_at false (length outer) (state (Atom (One edge (Some name))) level outer) t to (record { named = refl; many = refl })
    at_end true false good to = absurd (none-some t to)
    at_end false whole true to = counts_at true (length outer) (state (Name edge (name ++ byte ∷ [])) level outer) t to (record { named = refl; many = refl })
    at_end false whole false to = absurd (none-some t to)

counted : (brace : Bool) (depth : ℕ) (t : State) (rest : List ℕ) → Counts brace depth t → open_from brace depth rest ≡ open_from (is_named t.last) (length t.outer) rest
counted brace depth t rest c = ap (λ b. open_from b depth rest) c.named ∙ ap (λ n. open_from (is_named t.last) n rest) c.many

-- one more byte
on_byte : (last : Last) (level : Level) (outer : List Level) (byte : ℕ) (rest : List ℕ) (t : State) → read_on last level outer byte ≡ Some t
    → open_from (is_named last) (length outer) (byte ∷ rest) ≡ open_from (is_named t.last) (length t.outer) rest
on_byte Nothing level outer byte rest t to = counted (is_brace (mark_of byte)) (opened (mark_of byte) (length outer)) t rest (on_start level outer (mark_of byte) t to)
on_byte (Letter edge) level outer byte rest t to = counted (is_brace (mark_of byte)) (opened (mark_of byte) (length outer)) t rest (on_letter edge level outer (mark_of byte) t to)
on_byte (Name edge name) level outer byte rest t to = counted (not (byte == 125)) (length outer) t rest (on_name edge name level outer byte t to)
on_byte (Atom p) level outer byte rest t to = counted (is_brace (mark_of byte)) (opened (mark_of byte) (length outer)) t rest (on_atom p level outer (mark_of byte) t to)
on_byte (Starred p) level outer byte rest t to = counted (is_brace (mark_of byte)) (opened (mark_of byte) (length outer)) t rest (on_step p level outer (mark_of byte) t to)

-- No more than 64 are open where none was opened beyond them.
low_after : (brace : Bool) (depth : ℕ) (t : State) → Counts brace depth t → depth ≤ 64 → length t.outer ≤ 64
low_after brace depth t c low = let many = c.many in omega (arith, many, low)

shallow_step : (step : Shape) (level : Level) (outer : List Level) (m : Mark) (t : State) → behind_step step level outer m ≡ Some t → length outer ≤ 64 → length t.outer ≤ 64
shallow_step step level outer mark.Slash t to low = low_after false (length outer) t (on_step step level outer mark.Slash t to) low
shallow_step step level outer mark.Bar t to low = low_after false (length outer) t (on_step step level outer mark.Bar t to) low
shallow_step step level outer mark.Close t to low = low_after false (length outer - 1) t (on_step step level outer mark.Close t to) (omega (arith, low))
shallow_step step level outer (mark.Letter edge) t to low = absurd (none-some t to)
shallow_step step level outer mark.Brace t to low = absurd (none-some t to)
shallow_step step level outer mark.Star t to low = absurd (none-some t to)
shallow_step step level outer mark.Open t to low = absurd (none-some t to)
shallow_step step level outer mark.Other t to low = absurd (none-some t to)

shallow_atom : (p : Shape) (level : Level) (outer : List Level) (m : Mark) (t : State) → behind_atom p level outer m ≡ Some t → length outer ≤ 64 → length t.outer ≤ 64
shallow_atom p level outer mark.Star t to low = low_after false (length outer) t (on_atom p level outer mark.Star t to) low
shallow_atom p level outer mark.Slash t to low = shallow_step p level outer mark.Slash t to low
shallow_atom p level outer mark.Bar t to low = shallow_step p level outer mark.Bar t to low
shallow_atom p level outer mark.Close t to low = shallow_step p level outer mark.Close t to low
shallow_atom p level outer (mark.Letter edge) t to low = absurd (none-some t to)
shallow_atom p level outer mark.Brace t to low = absurd (none-some t to)
shallow_atom p level outer mark.Open t to low = absurd (none-some t to)
shallow_atom p level outer mark.Other t to low = absurd (none-some t to)

shallow_letter : (edge : EdgeTest) (level : Level) (outer : List Level) (m : Mark) (t : State) → behind_letter edge level outer m ≡ Some t → length outer ≤ 64 → length t.outer ≤ 64
shallow_letter edge level outer mark.Brace t to low = low_after true (length outer) t (on_letter edge level outer mark.Brace t to) low
shallow_letter edge level outer mark.Star t to low = shallow_atom (One edge None) level outer mark.Star t to low
shallow_letter edge level outer mark.Slash t to low = shallow_atom (One edge None) level outer mark.Slash t to low
shallow_letter edge level outer mark.Bar t to low = shallow_atom (One edge None) level outer mark.Bar t to low
shallow_letter edge level outer mark.Close t to low = shallow_atom (One edge None) level outer mark.Close t to low
shallow_letter edge level outer (mark.Letter e) t to low = absurd (none-some t to)
shallow_letter edge level outer mark.Open t to low = absurd (none-some t to)
shallow_letter edge level outer mark.Other t to low = absurd (none-some t to)

not_full : (n : ℕ) → nat_le 64 n ≡ false → n + 1 ≤ 64
not_full n is = grind (arith, nat_tests)

shallow_start : (level : Level) (outer : List Level) (m : Mark) (t : State) → begun level outer m ≡ Some t → (m ≡ mark.Open → is_full outer ≡ false) → length outer ≤ 64 → length t.outer ≤ 64
shallow_start level outer (mark.Letter edge) t to room low = low_after false (length outer) t (on_start level outer (mark.Letter edge) t to) low
shallow_start level outer mark.Open t to room low = low_after false (length outer + 1) t (on_start level outer mark.Open t to) (not_full (length outer) (room refl))
shallow_start level outer mark.Brace t to room low = absurd (none-some t to)
shallow_start level outer mark.Star t to room low = absurd (none-some t to)
shallow_start level outer mark.Slash t to room low = absurd (none-some t to)
shallow_start level outer mark.Bar t to room low = absurd (none-some t to)
shallow_start level outer mark.Close t to room low = absurd (none-some t to)
shallow_start level outer mark.Other t to room low = absurd (none-some t to)

-- what a reader has read on
pub record ReadsTo (last : Last) (level : Level) (outer : List Level) (byte : ℕ) (t : State) : Type 0 where
  pub is : read_on last level outer byte ≡ Some t
  pub low : length outer ≤ 64 → length t.outer ≤ 64

pub reads_to : (last : Last) (level : Level) (outer : List Level) (byte : ℕ) (reader : Reader) → IsReadFrom last level outer byte (Ok reader) → ReadsTo last level outer byte (state_of reader)
reads_to Nothing level outer byte reader read = record { is = read.0; low = shallow_start level outer (mark_of byte) (state_of reader) read.0 read.1 }
reads_to (Letter edge) level outer byte reader read = record { is = read; low = shallow_letter edge level outer (mark_of byte) (state_of reader) read }
reads_to (Name edge name) level outer byte reader read = record { is = read; low = low_after (not (byte == 125)) (length outer) (state_of reader) (on_name edge name level outer byte (state_of reader) read) }
reads_to (Atom p) level outer byte reader read = record { is = read; low = shallow_atom p level outer (mark_of byte) (state_of reader) read }
reads_to (Starred p) level outer byte reader read = record { is = read; low = shallow_step p level outer (mark_of byte) (state_of reader) read }

-- what it refused
pub refuses : (last : Last) (level : Level) (outer : List Level) (byte : ℕ) → IsReadFrom last level outer byte (Err Bad) → read_on last level outer byte ≡ None
refuses Nothing level outer byte none = none
refuses (Letter edge) level outer byte none = none
refuses (Name edge name) level outer byte none = none
refuses (Atom p) level outer byte none = none
refuses (Starred p) level outer byte none = none

-- where one parenthesis was too many
pub record IsTooMany (last : Last) (outer : List Level) (m : Mark) : Type 0 where
  pub starts : last ≡ Nothing
  pub opens : m ≡ mark.Open
  pub full : is_full outer ≡ true

pub too_many : (last : Last) (level : Level) (outer : List Level) (byte : ℕ) → IsReadFrom last level outer byte (Err Deep) → IsTooMany last outer (mark_of byte)
too_many Nothing level outer byte deep = record { starts = refl; opens = deep.0; full = deep.1 }
too_many (Letter edge) level outer byte deep = absurd deep
too_many (Name edge name) level outer byte deep = absurd deep
too_many (Atom p) level outer byte deep = absurd deep
too_many (Starred p) level outer byte deep = absurd deep

open_run : (s t : State) (text : List ℕ) → run s text ≡ Some t → open_from (is_named s.last) (length s.outer) text ≡ length t.outer
open_run s t [] is = ap (λ (u : State). length u.outer) (some_is s t is)
open_run s t (byte ∷ text) is =
    at_next (read_byte s byte) refl (λ u to rest. on_byte s.last s.level s.outer byte text u to ∙ open_run u t text rest) is
  where
    at_next : (next : Option State) → read_byte s byte ≡ next → ((u : State) → read_byte s byte ≡ Some u → run u text ≡ Some t → open_from (is_named s.last) (length s.outer) (byte ∷ text) ≡ length t.outer)
        → and_on next (λ u. run u text) ≡ Some t → open_from (is_named s.last) (length s.outer) (byte ∷ text) ≡ length t.outer
    at_next (Some u) to go rest = go u to rest
    at_next None to go rest = absurd (none-some t rest)

-- what was read leaves so many open
pub open_behind : (t : State) (text : List ℕ) → run (state Nothing fresh []) text ≡ Some t → open_from false 0 text ≡ length t.outer
open_behind t text is = open_run (state Nothing fresh []) t text is
