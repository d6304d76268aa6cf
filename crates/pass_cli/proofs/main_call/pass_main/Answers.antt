use Rattle.std.proofs.Common.{◌≡◌, ◌⊎◌, ◌∙◌, refl, sym, ap, subst, inl}
use Rattle.std.specs.Prelude.{ℕ, Bool, Option, Some, None, Err, map, string_bytes}
use Rattle.pass_plain.proofs.Lists.{some_is}
use Rattle.pass_trace.specs.declared.limits.Scale.{Scale}
use Rattle.pass_cli.specs.Answers.{IsAnswer, IsReadInTime, IsUnrecorded, IsRecorded, outcome_of}
use Rattle.pass_cli.specs.Drawn.{IsGenAnswer, drawn_bytes}
use Rattle.pass_ask.specs.Asked.{IsAsked, IsPut}
use Rattle.pass_ask.specs.Questions.{AreAsked, AreCut}
use Rattle.pass_ask.specs.declared.words.Question.{Question}
use Rattle.pass_ask.specs.declared.words.Command.TheVariants.{Run, Replay, Gen, Ask, Questions, Follow}
use Rattle.pass_ask.proofs.Commands.{asks, asks_many, draws, draws_so, follows, lines_as, not_replay, ok_same, refusal_read, refuses, refuses_drawn, refuses_lines, replays, runs, runs_at, runs_only}
use Rattle.pass_cli.proofs.Judging.{still_unwritten}
use Rattle.pass_ask.proofs.Streams.{untouched_on_disk}
use Rattle.pass_ask.proofs.Turns.{none_cut}
use Rattle.pass_cli.proofs.main_call.pass_main.Goals as goal

-- words that draw nothing
nothing_drawn : (o : Option (ℕ × ℕ)) (n l : ℕ) → o ≡ None → o ≡ Some (n, l) → ⊥
nothing_drawn o n l none some = let z : ◌≡◌ {A = Option (ℕ × ℕ)} None (Some (n, l)) = sym none ∙ some in cc

-- or don't ask for many questions
no_lines : (o : Option Bool) (json : Bool) → o ≡ None → o ≡ Some json → ⊥
no_lines o json none some = let z : ◌≡◌ {A = Option Bool} None (Some json) = sym none ∙ some in cc

-- or ask for them in one of two ways
lines_same : (o : Option Bool) (a b : Bool) → o ≡ Some a → o ≡ Some b → (P : Bool → Type 0) → P a → P b
lines_same o a b one other P p = subst P (some_is {A = Bool} a b (sym one ∙ other)) p

pub returns-in-Ok-Run-clause-asked : goal.returns-in-Ok-Run-clause-asked
returns-in-Ok-Run-clause-asked g c = λ other. absurd (other (runs (map string_bytes c.args.words.now) c.read_words.result c.read_words.ensures.command c.in-Ok-Run.scale c.in-Ok-Run.workers (ok_same c.read_words.result c.in-Ok-Run.field-0 (Run c.in-Ok-Run.scale c.in-Ok-Run.workers) c.in-Ok-Run.is c.in-Ok-Run.field-0-is)))

pub returns-in-Ok-Run-clause-unrecorded : goal.returns-in-Ok-Run-clause-unrecorded
returns-in-Ok-Run-clause-unrecorded g c = λ other. absurd (other (runs (map string_bytes c.args.words.now) c.read_words.result c.read_words.ensures.command c.in-Ok-Run.scale c.in-Ok-Run.workers (ok_same c.read_words.result c.in-Ok-Run.field-0 (Run c.in-Ok-Run.scale c.in-Ok-Run.workers) c.in-Ok-Run.is c.in-Ok-Run.field-0-is)))

pub returns-in-Ok-Run-clause-alone : goal.returns-in-Ok-Run-clause-alone
returns-in-Ok-Run-clause-alone g c = λ other. absurd (other (runs (map string_bytes c.args.words.now) c.read_words.result c.read_words.ensures.command c.in-Ok-Run.scale c.in-Ok-Run.workers (ok_same c.read_words.result c.in-Ok-Run.field-0 (Run c.in-Ok-Run.scale c.in-Ok-Run.workers) c.in-Ok-Run.is c.in-Ok-Run.field-0-is)))

pub returns-in-Ok-Run-clause-unopened : goal.returns-in-Ok-Run-clause-unopened
returns-in-Ok-Run-clause-unopened g c = λ other. absurd (other (runs (map string_bytes c.args.words.now) c.read_words.result c.read_words.ensures.command c.in-Ok-Run.scale c.in-Ok-Run.workers (ok_same c.read_words.result c.in-Ok-Run.field-0 (Run c.in-Ok-Run.scale c.in-Ok-Run.workers) c.in-Ok-Run.is c.in-Ok-Run.field-0-is)))

pub returns-in-Ok-Run-clause-unread : goal.returns-in-Ok-Run-clause-unread
returns-in-Ok-Run-clause-unread g c = λ other. absurd (other (runs (map string_bytes c.args.words.now) c.read_words.result c.read_words.ensures.command c.in-Ok-Run.scale c.in-Ok-Run.workers (ok_same c.read_words.result c.in-Ok-Run.field-0 (Run c.in-Ok-Run.scale c.in-Ok-Run.workers) c.in-Ok-Run.is c.in-Ok-Run.field-0-is)))

pub returns-in-Ok-Ask-clause-run : goal.returns-in-Ok-Ask-clause-run
returns-in-Ok-Ask-clause-run g c = λ run. absurd ((asks (map string_bytes c.args.words.now) c.read_words.result c.read_words.ensures.command c.in-Ok-Ask.question (ok_same c.read_words.result c.in-Ok-Ask.field-0 (Ask c.in-Ok-Ask.question) c.in-Ok-Ask.is c.in-Ok-Ask.field-0-is)).0 run)

pub returns-in-Ok-Ask-clause-recorded : goal.returns-in-Ok-Ask-clause-recorded
returns-in-Ok-Ask-clause-recorded g c = λ run. absurd ((asks (map string_bytes c.args.words.now) c.read_words.result c.read_words.ensures.command c.in-Ok-Ask.question (ok_same c.read_words.result c.in-Ok-Ask.field-0 (Ask c.in-Ok-Ask.question) c.in-Ok-Ask.is c.in-Ok-Ask.field-0-is)).0 run)

pub returns-in-Ok-Ask-clause-stops : goal.returns-in-Ok-Ask-clause-stops
returns-in-Ok-Ask-clause-stops g c = λ tells run. absurd ((asks (map string_bytes c.args.words.now) c.read_words.result c.read_words.ensures.command c.in-Ok-Ask.question (ok_same c.read_words.result c.in-Ok-Ask.field-0 (Ask c.in-Ok-Ask.question) c.in-Ok-Ask.is c.in-Ok-Ask.field-0-is)).0 run)

pub returns-in-Ok-Ask-clause-asked : goal.returns-in-Ok-Ask-clause-asked
returns-in-Ok-Ask-clause-asked g c = λ other plain undrawn single known.
    let words = map string_bytes c.args.words.now in
    subst (λ (asked : Option Question). IsAsked asked (g.D.Disk.view c.args.disk) (g.D.Disk.view c.answered.result.disk)
    (record { tells = g.K.Sink.tells; before = g.K.Sink.taken c.args.sink.now; after = g.K.Sink.taken c.answered.new.sink }) c.answered.result.status)
    (sym (asks words c.read_words.result c.read_words.ensures.command c.in-Ok-Ask.question (ok_same c.read_words.result c.in-Ok-Ask.field-0 (Ask c.in-Ok-Ask.question) c.in-Ok-Ask.is c.in-Ok-Ask.field-0-is)).1)
    (c.answered.ensures.answer known)

pub returns-in-Ok-Ask-clause-unopened : goal.returns-in-Ok-Ask-clause-unopened
returns-in-Ok-Ask-clause-unopened g c = λ other plain undrawn single lost.
    let words = map string_bytes c.args.words.now in
    let asked = (asks words c.read_words.result c.read_words.ensures.command c.in-Ok-Ask.question (ok_same c.read_words.result c.in-Ok-Ask.field-0 (Ask c.in-Ok-Ask.question) c.in-Ok-Ask.is c.in-Ok-Ask.field-0-is)).1 in
    c.answered.ensures.unopened (λ put. lost (subst IsPut (sym asked) put))

pub answered-requires-in-Err : goal.answered-requires-in-Err
answered-requires-in-Err g c = refusal_read (map string_bytes c.args.words.now) c.read_words.result c.read_words.ensures.command c.in-Err.status c.in-Err.is

pub returns-in-Err-clause-run : goal.returns-in-Err-clause-run
returns-in-Err-clause-run g c = λ run known.
    absurd ((refuses (map string_bytes c.args.words.now) c.read_words.result c.read_words.ensures.command c.in-Err.status c.in-Err.is (λ starved. known (c.answered-in-Err.ensures.starved (ap Err starved)))).0 run)

pub returns-in-Err-clause-recorded : goal.returns-in-Err-clause-recorded
returns-in-Err-clause-recorded g c = λ run.
    let same = c.answered-in-Err.ensures.unopened (λ put. put) in
    (g.S.Source.left c.args.source.now, λ tells. refl, inl (c.answered-in-Err.ensures.nothing, inl (still_unwritten g.D.Disk.view c.args.disk c.answered-in-Err.result.disk same)))

pub returns-in-Err-clause-stops : goal.returns-in-Err-clause-stops
returns-in-Err-clause-stops g c = λ tells run known.
    absurd ((refuses (map string_bytes c.args.words.now) c.read_words.result c.read_words.ensures.command c.in-Err.status c.in-Err.is (λ starved. known (c.answered-in-Err.ensures.starved (ap Err starved)))).0 run)

pub returns-in-Err-clause-asked : goal.returns-in-Err-clause-asked
returns-in-Err-clause-asked g c = λ other plain undrawn single known.
    let words = map string_bytes c.args.words.now in
    subst (λ (asked : Option Question). IsAsked asked (g.D.Disk.view c.args.disk) (g.D.Disk.view c.answered-in-Err.result.disk)
    (record { tells = g.K.Sink.tells; before = g.K.Sink.taken c.args.sink.now; after = g.K.Sink.taken c.answered-in-Err.new.sink }) c.answered-in-Err.result.status)
    (sym (refuses words c.read_words.result c.read_words.ensures.command c.in-Err.status c.in-Err.is (λ starved. known (c.answered-in-Err.ensures.starved (ap Err starved)))).1)
    (c.answered-in-Err.ensures.answer known)

pub returns-in-Err-clause-unopened : goal.returns-in-Err-clause-unopened
returns-in-Err-clause-unopened g c = λ other plain undrawn single lost. c.answered-in-Err.ensures.unopened (λ put. put)

pub returns-in-Ok-Run-clause-follow : goal.returns-in-Ok-Run-clause-follow
returns-in-Ok-Run-clause-follow g c = λ is. absurd (runs_only (map string_bytes c.args.words.now) c.read_words.result c.read_words.ensures.command c.in-Ok-Run.scale c.in-Ok-Run.workers (ok_same c.read_words.result c.in-Ok-Run.field-0 (Run c.in-Ok-Run.scale c.in-Ok-Run.workers) c.in-Ok-Run.is c.in-Ok-Run.field-0-is) is)

pub returns-in-Ok-Ask-clause-follow : goal.returns-in-Ok-Ask-clause-follow
returns-in-Ok-Ask-clause-follow g c = λ is. absurd ((asks (map string_bytes c.args.words.now) c.read_words.result c.read_words.ensures.command c.in-Ok-Ask.question (ok_same c.read_words.result c.in-Ok-Ask.field-0 (Ask c.in-Ok-Ask.question) c.in-Ok-Ask.is c.in-Ok-Ask.field-0-is)).2 is)

pub returns-in-Ok-Run-clause-followed : goal.returns-in-Ok-Run-clause-followed
returns-in-Ok-Run-clause-followed g c = λ is. absurd (runs_only (map string_bytes c.args.words.now) c.read_words.result c.read_words.ensures.command c.in-Ok-Run.scale c.in-Ok-Run.workers (ok_same c.read_words.result c.in-Ok-Run.field-0 (Run c.in-Ok-Run.scale c.in-Ok-Run.workers) c.in-Ok-Run.is c.in-Ok-Run.field-0-is) is)

pub returns-in-Ok-Ask-clause-followed : goal.returns-in-Ok-Ask-clause-followed
returns-in-Ok-Ask-clause-followed g c = λ is. absurd ((asks (map string_bytes c.args.words.now) c.read_words.result c.read_words.ensures.command c.in-Ok-Ask.question (ok_same c.read_words.result c.in-Ok-Ask.field-0 (Ask c.in-Ok-Ask.question) c.in-Ok-Ask.is c.in-Ok-Ask.field-0-is)).2 is)

pub returns-in-Err-clause-follow : goal.returns-in-Err-clause-follow
returns-in-Err-clause-follow g c = λ is known.
    absurd ((refuses (map string_bytes c.args.words.now) c.read_words.result c.read_words.ensures.command c.in-Err.status c.in-Err.is (λ starved. known (c.answered-in-Err.ensures.starved (ap Err starved)))).2 is)

pub returns-in-Err-clause-followed : goal.returns-in-Err-clause-followed
returns-in-Err-clause-followed g c = λ is.
    untouched_on_disk g.D.Disk.view g.S.Source.tells (g.S.Source.left c.args.source.now) c.args.disk c.answered-in-Err.result.disk (c.answered-in-Err.ensures.unopened (λ put. put))

pub returns-in-Ok-Replay-clause-asked : goal.returns-in-Ok-Replay-clause-asked
returns-in-Ok-Replay-clause-asked g c = λ other. absurd (other (replays (map string_bytes c.args.words.now) c.read_words.result c.read_words.ensures.command c.in-Ok-Replay.scale (ok_same c.read_words.result c.in-Ok-Replay.field-0 (Replay c.in-Ok-Replay.scale) c.in-Ok-Replay.is c.in-Ok-Replay.field-0-is)).0)

pub returns-in-Ok-Replay-clause-unrecorded : goal.returns-in-Ok-Replay-clause-unrecorded
returns-in-Ok-Replay-clause-unrecorded g c = λ other. absurd (other (replays (map string_bytes c.args.words.now) c.read_words.result c.read_words.ensures.command c.in-Ok-Replay.scale (ok_same c.read_words.result c.in-Ok-Replay.field-0 (Replay c.in-Ok-Replay.scale) c.in-Ok-Replay.is c.in-Ok-Replay.field-0-is)).0)

pub returns-in-Ok-Replay-clause-alone : goal.returns-in-Ok-Replay-clause-alone
returns-in-Ok-Replay-clause-alone g c = λ other. absurd (other (replays (map string_bytes c.args.words.now) c.read_words.result c.read_words.ensures.command c.in-Ok-Replay.scale (ok_same c.read_words.result c.in-Ok-Replay.field-0 (Replay c.in-Ok-Replay.scale) c.in-Ok-Replay.is c.in-Ok-Replay.field-0-is)).0)

pub returns-in-Ok-Replay-clause-unopened : goal.returns-in-Ok-Replay-clause-unopened
returns-in-Ok-Replay-clause-unopened g c = λ other. absurd (other (replays (map string_bytes c.args.words.now) c.read_words.result c.read_words.ensures.command c.in-Ok-Replay.scale (ok_same c.read_words.result c.in-Ok-Replay.field-0 (Replay c.in-Ok-Replay.scale) c.in-Ok-Replay.is c.in-Ok-Replay.field-0-is)).0)

pub returns-in-Ok-Replay-clause-unread : goal.returns-in-Ok-Replay-clause-unread
returns-in-Ok-Replay-clause-unread g c = λ other. absurd (other (replays (map string_bytes c.args.words.now) c.read_words.result c.read_words.ensures.command c.in-Ok-Replay.scale (ok_same c.read_words.result c.in-Ok-Replay.field-0 (Replay c.in-Ok-Replay.scale) c.in-Ok-Replay.is c.in-Ok-Replay.field-0-is)).0)

pub returns-in-Ok-Replay-clause-follow : goal.returns-in-Ok-Replay-clause-follow
returns-in-Ok-Replay-clause-follow g c = λ is. absurd ((replays (map string_bytes c.args.words.now) c.read_words.result c.read_words.ensures.command c.in-Ok-Replay.scale (ok_same c.read_words.result c.in-Ok-Replay.field-0 (Replay c.in-Ok-Replay.scale) c.in-Ok-Replay.is c.in-Ok-Replay.field-0-is)).1 is)

pub returns-in-Ok-Replay-clause-followed : goal.returns-in-Ok-Replay-clause-followed
returns-in-Ok-Replay-clause-followed g c = λ is. absurd ((replays (map string_bytes c.args.words.now) c.read_words.result c.read_words.ensures.command c.in-Ok-Replay.scale (ok_same c.read_words.result c.in-Ok-Replay.field-0 (Replay c.in-Ok-Replay.scale) c.in-Ok-Replay.is c.in-Ok-Replay.field-0-is)).1 is)

pub returns-in-Ok-Replay-clause-drawn : goal.returns-in-Ok-Replay-clause-drawn
returns-in-Ok-Replay-clause-drawn g c = λ number lines is. absurd (nothing_drawn _ number lines (draws_so (map string_bytes c.args.words.now) c.read_words.result c.read_words.ensures.command (Replay c.in-Ok-Replay.scale) (ok_same c.read_words.result c.in-Ok-Replay.field-0 (Replay c.in-Ok-Replay.scale) c.in-Ok-Replay.is c.in-Ok-Replay.field-0-is)) is)

pub returns-in-Ok-Replay-clause-drawn_recorded : goal.returns-in-Ok-Replay-clause-drawn_recorded
returns-in-Ok-Replay-clause-drawn_recorded g c = λ number lines is. absurd (nothing_drawn _ number lines (draws_so (map string_bytes c.args.words.now) c.read_words.result c.read_words.ensures.command (Replay c.in-Ok-Replay.scale) (ok_same c.read_words.result c.in-Ok-Replay.field-0 (Replay c.in-Ok-Replay.scale) c.in-Ok-Replay.is c.in-Ok-Replay.field-0-is)) is)

pub returns-in-Ok-Follow-clause-run : goal.returns-in-Ok-Follow-clause-run
returns-in-Ok-Follow-clause-run g c = λ run. absurd ((follows (map string_bytes c.args.words.now) c.read_words.result c.read_words.ensures.command (ok_same c.read_words.result c.in-Ok-Follow.field-0 Follow c.in-Ok-Follow.is c.in-Ok-Follow.field-0-is)).1 run)

pub returns-in-Ok-Follow-clause-recorded : goal.returns-in-Ok-Follow-clause-recorded
returns-in-Ok-Follow-clause-recorded g c = λ run. absurd ((follows (map string_bytes c.args.words.now) c.read_words.result c.read_words.ensures.command (ok_same c.read_words.result c.in-Ok-Follow.field-0 Follow c.in-Ok-Follow.is c.in-Ok-Follow.field-0-is)).1 run)

pub returns-in-Ok-Follow-clause-stops : goal.returns-in-Ok-Follow-clause-stops
returns-in-Ok-Follow-clause-stops g c = λ tells run. absurd ((follows (map string_bytes c.args.words.now) c.read_words.result c.read_words.ensures.command (ok_same c.read_words.result c.in-Ok-Follow.field-0 Follow c.in-Ok-Follow.is c.in-Ok-Follow.field-0-is)).1 run)

pub returns-in-Ok-Follow-clause-asked : goal.returns-in-Ok-Follow-clause-asked
returns-in-Ok-Follow-clause-asked g c = λ other plain. absurd (plain (follows (map string_bytes c.args.words.now) c.read_words.result c.read_words.ensures.command (ok_same c.read_words.result c.in-Ok-Follow.field-0 Follow c.in-Ok-Follow.is c.in-Ok-Follow.field-0-is)).0)

pub returns-in-Ok-Follow-clause-alone : goal.returns-in-Ok-Follow-clause-alone
returns-in-Ok-Follow-clause-alone g c = λ other plain. absurd (plain (follows (map string_bytes c.args.words.now) c.read_words.result c.read_words.ensures.command (ok_same c.read_words.result c.in-Ok-Follow.field-0 Follow c.in-Ok-Follow.is c.in-Ok-Follow.field-0-is)).0)

pub returns-in-Ok-Follow-clause-unopened : goal.returns-in-Ok-Follow-clause-unopened
returns-in-Ok-Follow-clause-unopened g c = λ other plain. absurd (plain (follows (map string_bytes c.args.words.now) c.read_words.result c.read_words.ensures.command (ok_same c.read_words.result c.in-Ok-Follow.field-0 Follow c.in-Ok-Follow.is c.in-Ok-Follow.field-0-is)).0)

pub returns-in-Ok-Follow-clause-unread : goal.returns-in-Ok-Follow-clause-unread
returns-in-Ok-Follow-clause-unread g c = λ other plain. absurd (plain (follows (map string_bytes c.args.words.now) c.read_words.result c.read_words.ensures.command (ok_same c.read_words.result c.in-Ok-Follow.field-0 Follow c.in-Ok-Follow.is c.in-Ok-Follow.field-0-is)).0)

pub returns-in-Ok-Run-clause-drawn : goal.returns-in-Ok-Run-clause-drawn
returns-in-Ok-Run-clause-drawn g c = λ number lines is. absurd (nothing_drawn _ number lines (draws_so (map string_bytes c.args.words.now) c.read_words.result c.read_words.ensures.command (Run c.in-Ok-Run.scale c.in-Ok-Run.workers) (ok_same c.read_words.result c.in-Ok-Run.field-0 (Run c.in-Ok-Run.scale c.in-Ok-Run.workers) c.in-Ok-Run.is c.in-Ok-Run.field-0-is)) is)

pub returns-in-Ok-Run-clause-drawn_recorded : goal.returns-in-Ok-Run-clause-drawn_recorded
returns-in-Ok-Run-clause-drawn_recorded g c = λ number lines is. absurd (nothing_drawn _ number lines (draws_so (map string_bytes c.args.words.now) c.read_words.result c.read_words.ensures.command (Run c.in-Ok-Run.scale c.in-Ok-Run.workers) (ok_same c.read_words.result c.in-Ok-Run.field-0 (Run c.in-Ok-Run.scale c.in-Ok-Run.workers) c.in-Ok-Run.is c.in-Ok-Run.field-0-is)) is)

pub returns-in-Ok-Ask-clause-drawn : goal.returns-in-Ok-Ask-clause-drawn
returns-in-Ok-Ask-clause-drawn g c = λ number lines is. absurd (nothing_drawn _ number lines (draws_so (map string_bytes c.args.words.now) c.read_words.result c.read_words.ensures.command (Ask c.in-Ok-Ask.question) (ok_same c.read_words.result c.in-Ok-Ask.field-0 (Ask c.in-Ok-Ask.question) c.in-Ok-Ask.is c.in-Ok-Ask.field-0-is)) is)

pub returns-in-Ok-Ask-clause-drawn_recorded : goal.returns-in-Ok-Ask-clause-drawn_recorded
returns-in-Ok-Ask-clause-drawn_recorded g c = λ number lines is. absurd (nothing_drawn _ number lines (draws_so (map string_bytes c.args.words.now) c.read_words.result c.read_words.ensures.command (Ask c.in-Ok-Ask.question) (ok_same c.read_words.result c.in-Ok-Ask.field-0 (Ask c.in-Ok-Ask.question) c.in-Ok-Ask.is c.in-Ok-Ask.field-0-is)) is)

pub returns-in-Ok-Follow-clause-drawn : goal.returns-in-Ok-Follow-clause-drawn
returns-in-Ok-Follow-clause-drawn g c = λ number lines is. absurd (nothing_drawn _ number lines (draws_so (map string_bytes c.args.words.now) c.read_words.result c.read_words.ensures.command Follow (ok_same c.read_words.result c.in-Ok-Follow.field-0 Follow c.in-Ok-Follow.is c.in-Ok-Follow.field-0-is)) is)

pub returns-in-Ok-Follow-clause-drawn_recorded : goal.returns-in-Ok-Follow-clause-drawn_recorded
returns-in-Ok-Follow-clause-drawn_recorded g c = λ number lines is. absurd (nothing_drawn _ number lines (draws_so (map string_bytes c.args.words.now) c.read_words.result c.read_words.ensures.command Follow (ok_same c.read_words.result c.in-Ok-Follow.field-0 Follow c.in-Ok-Follow.is c.in-Ok-Follow.field-0-is)) is)

pub returns-in-Err-clause-drawn : goal.returns-in-Err-clause-drawn
returns-in-Err-clause-drawn g c = λ number lines is known.
    absurd (nothing_drawn _ number lines (refuses_drawn (map string_bytes c.args.words.now) c.read_words.result c.read_words.ensures.command c.in-Err.status c.in-Err.is (λ starved. known (c.answered-in-Err.ensures.starved (ap Err starved)))) is)

pub returns-in-Err-clause-drawn_recorded : goal.returns-in-Err-clause-drawn_recorded
returns-in-Err-clause-drawn_recorded g c = λ number lines is.
    let same = c.answered-in-Err.ensures.unopened (λ put. put) in
    inl (c.answered-in-Err.ensures.nothing, inl (still_unwritten g.D.Disk.view c.args.disk c.answered-in-Err.result.disk same))

pub returns-in-Ok-Gen-clause-run : goal.returns-in-Ok-Gen-clause-run
returns-in-Ok-Gen-clause-run g c = λ run. absurd ((draws (map string_bytes c.args.words.now) c.read_words.result c.read_words.ensures.command c.in-Ok-Gen.workers c.in-Ok-Gen.number c.in-Ok-Gen.lines (ok_same c.read_words.result c.in-Ok-Gen.field-0 (Gen c.in-Ok-Gen.workers c.in-Ok-Gen.number c.in-Ok-Gen.lines) c.in-Ok-Gen.is c.in-Ok-Gen.field-0-is)).0 run)

pub returns-in-Ok-Gen-clause-recorded : goal.returns-in-Ok-Gen-clause-recorded
returns-in-Ok-Gen-clause-recorded g c = λ run. absurd ((draws (map string_bytes c.args.words.now) c.read_words.result c.read_words.ensures.command c.in-Ok-Gen.workers c.in-Ok-Gen.number c.in-Ok-Gen.lines (ok_same c.read_words.result c.in-Ok-Gen.field-0 (Gen c.in-Ok-Gen.workers c.in-Ok-Gen.number c.in-Ok-Gen.lines) c.in-Ok-Gen.is c.in-Ok-Gen.field-0-is)).0 run)

pub returns-in-Ok-Gen-clause-stops : goal.returns-in-Ok-Gen-clause-stops
returns-in-Ok-Gen-clause-stops g c = λ tells run. absurd ((draws (map string_bytes c.args.words.now) c.read_words.result c.read_words.ensures.command c.in-Ok-Gen.workers c.in-Ok-Gen.number c.in-Ok-Gen.lines (ok_same c.read_words.result c.in-Ok-Gen.field-0 (Gen c.in-Ok-Gen.workers c.in-Ok-Gen.number c.in-Ok-Gen.lines) c.in-Ok-Gen.is c.in-Ok-Gen.field-0-is)).0 run)

pub returns-in-Ok-Gen-clause-follow : goal.returns-in-Ok-Gen-clause-follow
returns-in-Ok-Gen-clause-follow g c = λ is. absurd ((draws (map string_bytes c.args.words.now) c.read_words.result c.read_words.ensures.command c.in-Ok-Gen.workers c.in-Ok-Gen.number c.in-Ok-Gen.lines (ok_same c.read_words.result c.in-Ok-Gen.field-0 (Gen c.in-Ok-Gen.workers c.in-Ok-Gen.number c.in-Ok-Gen.lines) c.in-Ok-Gen.is c.in-Ok-Gen.field-0-is)).2 is)

pub returns-in-Ok-Gen-clause-followed : goal.returns-in-Ok-Gen-clause-followed
returns-in-Ok-Gen-clause-followed g c = λ is. absurd ((draws (map string_bytes c.args.words.now) c.read_words.result c.read_words.ensures.command c.in-Ok-Gen.workers c.in-Ok-Gen.number c.in-Ok-Gen.lines (ok_same c.read_words.result c.in-Ok-Gen.field-0 (Gen c.in-Ok-Gen.workers c.in-Ok-Gen.number c.in-Ok-Gen.lines) c.in-Ok-Gen.is c.in-Ok-Gen.field-0-is)).2 is)

pub returns-in-Ok-Gen-clause-asked : goal.returns-in-Ok-Gen-clause-asked
returns-in-Ok-Gen-clause-asked g c = λ other plain undrawn. absurd (undrawn (draws (map string_bytes c.args.words.now) c.read_words.result c.read_words.ensures.command c.in-Ok-Gen.workers c.in-Ok-Gen.number c.in-Ok-Gen.lines (ok_same c.read_words.result c.in-Ok-Gen.field-0 (Gen c.in-Ok-Gen.workers c.in-Ok-Gen.number c.in-Ok-Gen.lines) c.in-Ok-Gen.is c.in-Ok-Gen.field-0-is)).1)

pub returns-in-Ok-Gen-clause-alone : goal.returns-in-Ok-Gen-clause-alone
returns-in-Ok-Gen-clause-alone g c = λ other plain undrawn. absurd (undrawn (draws (map string_bytes c.args.words.now) c.read_words.result c.read_words.ensures.command c.in-Ok-Gen.workers c.in-Ok-Gen.number c.in-Ok-Gen.lines (ok_same c.read_words.result c.in-Ok-Gen.field-0 (Gen c.in-Ok-Gen.workers c.in-Ok-Gen.number c.in-Ok-Gen.lines) c.in-Ok-Gen.is c.in-Ok-Gen.field-0-is)).1)

pub returns-in-Ok-Gen-clause-unopened : goal.returns-in-Ok-Gen-clause-unopened
returns-in-Ok-Gen-clause-unopened g c = λ other plain undrawn. absurd (undrawn (draws (map string_bytes c.args.words.now) c.read_words.result c.read_words.ensures.command c.in-Ok-Gen.workers c.in-Ok-Gen.number c.in-Ok-Gen.lines (ok_same c.read_words.result c.in-Ok-Gen.field-0 (Gen c.in-Ok-Gen.workers c.in-Ok-Gen.number c.in-Ok-Gen.lines) c.in-Ok-Gen.is c.in-Ok-Gen.field-0-is)).1)

pub returns-in-Ok-Gen-clause-unrecorded : goal.returns-in-Ok-Gen-clause-unrecorded
returns-in-Ok-Gen-clause-unrecorded g c = λ other undrawn. absurd (undrawn (draws (map string_bytes c.args.words.now) c.read_words.result c.read_words.ensures.command c.in-Ok-Gen.workers c.in-Ok-Gen.number c.in-Ok-Gen.lines (ok_same c.read_words.result c.in-Ok-Gen.field-0 (Gen c.in-Ok-Gen.workers c.in-Ok-Gen.number c.in-Ok-Gen.lines) c.in-Ok-Gen.is c.in-Ok-Gen.field-0-is)).1)

-- the two numbers are those that were read
drawn_same : (o : Option (ℕ × ℕ)) (a b n l : ℕ) → o ≡ Some (a, b) → o ≡ Some (n, l) → (P : ℕ → ℕ → Type 0) → P a b → P n l
drawn_same o a b n l one other P p =
    let same : ◌≡◌ {A = ℕ × ℕ} (a, b) (n, l) = some_is {A = ℕ × ℕ} (a, b) (n, l) (sym one ∙ other) in subst (λ (x : ℕ × ℕ). P x.0 x.1) same p

pub returns-in-Ok-Gen-clause-drawn : goal.returns-in-Ok-Gen-clause-drawn
returns-in-Ok-Gen-clause-drawn g c = λ number lines is known.
    drawn_same _ c.in-Ok-Gen.number c.in-Ok-Gen.lines number lines (draws_so (map string_bytes c.args.words.now) c.read_words.result c.read_words.ensures.command (Gen c.in-Ok-Gen.workers c.in-Ok-Gen.number c.in-Ok-Gen.lines) (ok_same c.read_words.result c.in-Ok-Gen.field-0 (Gen c.in-Ok-Gen.workers c.in-Ok-Gen.number c.in-Ok-Gen.lines) c.in-Ok-Gen.is c.in-Ok-Gen.field-0-is)) is
    (λ n l. IsGenAnswer g.D.Disk.view n l (record { tells = g.K.Sink.tells; before = g.K.Sink.taken c.args.sink.now; after = g.K.Sink.taken c.gen_words.new.sink }) c.args.disk c.gen_words.result.disk (outcome_of c.gen_words.result) c.gen_words.result.status)
    (c.gen_words.ensures.drawn known)

pub returns-in-Ok-Gen-clause-drawn_recorded : goal.returns-in-Ok-Gen-clause-drawn_recorded
returns-in-Ok-Gen-clause-drawn_recorded g c = λ number lines is.
    let old = g.D.Disk.view c.args.disk in
    let new = g.D.Disk.view c.gen_words.result.disk in
    drawn_same _ c.in-Ok-Gen.number c.in-Ok-Gen.lines number lines (draws_so (map string_bytes c.args.words.now) c.read_words.result c.read_words.ensures.command (Gen c.in-Ok-Gen.workers c.in-Ok-Gen.number c.in-Ok-Gen.lines) (ok_same c.read_words.result c.in-Ok-Gen.field-0 (Gen c.in-Ok-Gen.workers c.in-Ok-Gen.number c.in-Ok-Gen.lines) c.in-Ok-Gen.is c.in-Ok-Gen.field-0-is)) is
    (λ n l. IsUnrecorded old new (drawn_bytes n l) (outcome_of c.gen_words.result) ⊎ IsRecorded old new (drawn_bytes n l) (outcome_of c.gen_words.result))
    c.gen_words.ensures.recorded

pub returns-in-Ok-Run-clause-replayed : goal.returns-in-Ok-Run-clause-replayed
returns-in-Ok-Run-clause-replayed g c = λ is. absurd (not_replay (map string_bytes c.args.words.now) c.read_words.result c.read_words.ensures.command (Run c.in-Ok-Run.scale c.in-Ok-Run.workers) (ok_same c.read_words.result c.in-Ok-Run.field-0 (Run c.in-Ok-Run.scale c.in-Ok-Run.workers) c.in-Ok-Run.is c.in-Ok-Run.field-0-is) refl is)

pub returns-in-Ok-Gen-clause-replayed : goal.returns-in-Ok-Gen-clause-replayed
returns-in-Ok-Gen-clause-replayed g c = λ is. absurd (not_replay (map string_bytes c.args.words.now) c.read_words.result c.read_words.ensures.command (Gen c.in-Ok-Gen.workers c.in-Ok-Gen.number c.in-Ok-Gen.lines) (ok_same c.read_words.result c.in-Ok-Gen.field-0 (Gen c.in-Ok-Gen.workers c.in-Ok-Gen.number c.in-Ok-Gen.lines) c.in-Ok-Gen.is c.in-Ok-Gen.field-0-is) refl is)

pub returns-in-Ok-Ask-clause-replayed : goal.returns-in-Ok-Ask-clause-replayed
returns-in-Ok-Ask-clause-replayed g c = λ is. absurd (not_replay (map string_bytes c.args.words.now) c.read_words.result c.read_words.ensures.command (Ask c.in-Ok-Ask.question) (ok_same c.read_words.result c.in-Ok-Ask.field-0 (Ask c.in-Ok-Ask.question) c.in-Ok-Ask.is c.in-Ok-Ask.field-0-is) refl is)

pub returns-in-Ok-Follow-clause-replayed : goal.returns-in-Ok-Follow-clause-replayed
returns-in-Ok-Follow-clause-replayed g c = λ is. absurd (not_replay (map string_bytes c.args.words.now) c.read_words.result c.read_words.ensures.command Follow (ok_same c.read_words.result c.in-Ok-Follow.field-0 Follow c.in-Ok-Follow.is c.in-Ok-Follow.field-0-is) refl is)

pub returns-in-Err-clause-replayed : goal.returns-in-Err-clause-replayed
returns-in-Err-clause-replayed g c = λ is. (g.S.Source.left c.args.source.now, λ tells. refl, inl c.answered-in-Err.ensures.nothing)

pub returns-in-Ok-Run-clause-questions : goal.returns-in-Ok-Run-clause-questions
returns-in-Ok-Run-clause-questions g c = λ json is. absurd (no_lines _ json (lines_as (map string_bytes c.args.words.now) c.read_words.result c.read_words.ensures.command (Run c.in-Ok-Run.scale c.in-Ok-Run.workers) (ok_same c.read_words.result c.in-Ok-Run.field-0 (Run c.in-Ok-Run.scale c.in-Ok-Run.workers) c.in-Ok-Run.is c.in-Ok-Run.field-0-is)) is)

pub returns-in-Ok-Run-clause-cut : goal.returns-in-Ok-Run-clause-cut
returns-in-Ok-Run-clause-cut g c = λ json is. absurd (no_lines _ json (lines_as (map string_bytes c.args.words.now) c.read_words.result c.read_words.ensures.command (Run c.in-Ok-Run.scale c.in-Ok-Run.workers) (ok_same c.read_words.result c.in-Ok-Run.field-0 (Run c.in-Ok-Run.scale c.in-Ok-Run.workers) c.in-Ok-Run.is c.in-Ok-Run.field-0-is)) is)

pub returns-in-Ok-Replay-clause-questions : goal.returns-in-Ok-Replay-clause-questions
returns-in-Ok-Replay-clause-questions g c = λ json is. absurd (no_lines _ json (lines_as (map string_bytes c.args.words.now) c.read_words.result c.read_words.ensures.command (Replay c.in-Ok-Replay.scale) (ok_same c.read_words.result c.in-Ok-Replay.field-0 (Replay c.in-Ok-Replay.scale) c.in-Ok-Replay.is c.in-Ok-Replay.field-0-is)) is)

pub returns-in-Ok-Replay-clause-cut : goal.returns-in-Ok-Replay-clause-cut
returns-in-Ok-Replay-clause-cut g c = λ json is. absurd (no_lines _ json (lines_as (map string_bytes c.args.words.now) c.read_words.result c.read_words.ensures.command (Replay c.in-Ok-Replay.scale) (ok_same c.read_words.result c.in-Ok-Replay.field-0 (Replay c.in-Ok-Replay.scale) c.in-Ok-Replay.is c.in-Ok-Replay.field-0-is)) is)

pub returns-in-Ok-Gen-clause-questions : goal.returns-in-Ok-Gen-clause-questions
returns-in-Ok-Gen-clause-questions g c = λ json is. absurd (no_lines _ json (lines_as (map string_bytes c.args.words.now) c.read_words.result c.read_words.ensures.command (Gen c.in-Ok-Gen.workers c.in-Ok-Gen.number c.in-Ok-Gen.lines) (ok_same c.read_words.result c.in-Ok-Gen.field-0 (Gen c.in-Ok-Gen.workers c.in-Ok-Gen.number c.in-Ok-Gen.lines) c.in-Ok-Gen.is c.in-Ok-Gen.field-0-is)) is)

pub returns-in-Ok-Gen-clause-cut : goal.returns-in-Ok-Gen-clause-cut
returns-in-Ok-Gen-clause-cut g c = λ json is. absurd (no_lines _ json (lines_as (map string_bytes c.args.words.now) c.read_words.result c.read_words.ensures.command (Gen c.in-Ok-Gen.workers c.in-Ok-Gen.number c.in-Ok-Gen.lines) (ok_same c.read_words.result c.in-Ok-Gen.field-0 (Gen c.in-Ok-Gen.workers c.in-Ok-Gen.number c.in-Ok-Gen.lines) c.in-Ok-Gen.is c.in-Ok-Gen.field-0-is)) is)

pub returns-in-Ok-Ask-clause-questions : goal.returns-in-Ok-Ask-clause-questions
returns-in-Ok-Ask-clause-questions g c = λ json is. absurd (no_lines _ json (lines_as (map string_bytes c.args.words.now) c.read_words.result c.read_words.ensures.command (Ask c.in-Ok-Ask.question) (ok_same c.read_words.result c.in-Ok-Ask.field-0 (Ask c.in-Ok-Ask.question) c.in-Ok-Ask.is c.in-Ok-Ask.field-0-is)) is)

pub returns-in-Ok-Ask-clause-cut : goal.returns-in-Ok-Ask-clause-cut
returns-in-Ok-Ask-clause-cut g c = λ json is. absurd (no_lines _ json (lines_as (map string_bytes c.args.words.now) c.read_words.result c.read_words.ensures.command (Ask c.in-Ok-Ask.question) (ok_same c.read_words.result c.in-Ok-Ask.field-0 (Ask c.in-Ok-Ask.question) c.in-Ok-Ask.is c.in-Ok-Ask.field-0-is)) is)

pub returns-in-Ok-Follow-clause-questions : goal.returns-in-Ok-Follow-clause-questions
returns-in-Ok-Follow-clause-questions g c = λ json is. absurd (no_lines _ json (lines_as (map string_bytes c.args.words.now) c.read_words.result c.read_words.ensures.command Follow (ok_same c.read_words.result c.in-Ok-Follow.field-0 Follow c.in-Ok-Follow.is c.in-Ok-Follow.field-0-is)) is)

pub returns-in-Ok-Follow-clause-cut : goal.returns-in-Ok-Follow-clause-cut
returns-in-Ok-Follow-clause-cut g c = λ json is. absurd (no_lines _ json (lines_as (map string_bytes c.args.words.now) c.read_words.result c.read_words.ensures.command Follow (ok_same c.read_words.result c.in-Ok-Follow.field-0 Follow c.in-Ok-Follow.is c.in-Ok-Follow.field-0-is)) is)

pub returns-in-Ok-Questions-clause-run : goal.returns-in-Ok-Questions-clause-run
returns-in-Ok-Questions-clause-run g c = λ run. absurd ((asks_many (map string_bytes c.args.words.now) c.read_words.result c.read_words.ensures.command c.in-Ok-Questions.json (ok_same c.read_words.result c.in-Ok-Questions.field-0 (Questions c.in-Ok-Questions.json) c.in-Ok-Questions.is c.in-Ok-Questions.field-0-is)).0 run)

pub returns-in-Ok-Questions-clause-recorded : goal.returns-in-Ok-Questions-clause-recorded
returns-in-Ok-Questions-clause-recorded g c = λ run. absurd ((asks_many (map string_bytes c.args.words.now) c.read_words.result c.read_words.ensures.command c.in-Ok-Questions.json (ok_same c.read_words.result c.in-Ok-Questions.field-0 (Questions c.in-Ok-Questions.json) c.in-Ok-Questions.is c.in-Ok-Questions.field-0-is)).0 run)

pub returns-in-Ok-Questions-clause-replayed : goal.returns-in-Ok-Questions-clause-replayed
returns-in-Ok-Questions-clause-replayed g c = λ is. absurd (not_replay (map string_bytes c.args.words.now) c.read_words.result c.read_words.ensures.command (Questions c.in-Ok-Questions.json) (ok_same c.read_words.result c.in-Ok-Questions.field-0 (Questions c.in-Ok-Questions.json) c.in-Ok-Questions.is c.in-Ok-Questions.field-0-is) refl is)

pub returns-in-Ok-Questions-clause-follow : goal.returns-in-Ok-Questions-clause-follow
returns-in-Ok-Questions-clause-follow g c = λ is. absurd ((asks_many (map string_bytes c.args.words.now) c.read_words.result c.read_words.ensures.command c.in-Ok-Questions.json (ok_same c.read_words.result c.in-Ok-Questions.field-0 (Questions c.in-Ok-Questions.json) c.in-Ok-Questions.is c.in-Ok-Questions.field-0-is)).1 is)

pub returns-in-Ok-Questions-clause-followed : goal.returns-in-Ok-Questions-clause-followed
returns-in-Ok-Questions-clause-followed g c = λ is. absurd ((asks_many (map string_bytes c.args.words.now) c.read_words.result c.read_words.ensures.command c.in-Ok-Questions.json (ok_same c.read_words.result c.in-Ok-Questions.field-0 (Questions c.in-Ok-Questions.json) c.in-Ok-Questions.is c.in-Ok-Questions.field-0-is)).1 is)

pub returns-in-Ok-Questions-clause-drawn : goal.returns-in-Ok-Questions-clause-drawn
returns-in-Ok-Questions-clause-drawn g c = λ number lines is. absurd (nothing_drawn _ number lines (asks_many (map string_bytes c.args.words.now) c.read_words.result c.read_words.ensures.command c.in-Ok-Questions.json (ok_same c.read_words.result c.in-Ok-Questions.field-0 (Questions c.in-Ok-Questions.json) c.in-Ok-Questions.is c.in-Ok-Questions.field-0-is)).3 is)

pub returns-in-Ok-Questions-clause-drawn_recorded : goal.returns-in-Ok-Questions-clause-drawn_recorded
returns-in-Ok-Questions-clause-drawn_recorded g c = λ number lines is. absurd (nothing_drawn _ number lines (asks_many (map string_bytes c.args.words.now) c.read_words.result c.read_words.ensures.command c.in-Ok-Questions.json (ok_same c.read_words.result c.in-Ok-Questions.field-0 (Questions c.in-Ok-Questions.json) c.in-Ok-Questions.is c.in-Ok-Questions.field-0-is)).3 is)

pub returns-in-Ok-Questions-clause-asked : goal.returns-in-Ok-Questions-clause-asked
returns-in-Ok-Questions-clause-asked g c = λ other plain undrawn single. absurd (single (asks_many (map string_bytes c.args.words.now) c.read_words.result c.read_words.ensures.command c.in-Ok-Questions.json (ok_same c.read_words.result c.in-Ok-Questions.field-0 (Questions c.in-Ok-Questions.json) c.in-Ok-Questions.is c.in-Ok-Questions.field-0-is)).2)

pub returns-in-Ok-Questions-clause-unopened : goal.returns-in-Ok-Questions-clause-unopened
returns-in-Ok-Questions-clause-unopened g c = λ other plain undrawn single. absurd (single (asks_many (map string_bytes c.args.words.now) c.read_words.result c.read_words.ensures.command c.in-Ok-Questions.json (ok_same c.read_words.result c.in-Ok-Questions.field-0 (Questions c.in-Ok-Questions.json) c.in-Ok-Questions.is c.in-Ok-Questions.field-0-is)).2)

pub returns-in-Ok-Questions-clause-unread : goal.returns-in-Ok-Questions-clause-unread
returns-in-Ok-Questions-clause-unread g c = λ other plain single. absurd (single (asks_many (map string_bytes c.args.words.now) c.read_words.result c.read_words.ensures.command c.in-Ok-Questions.json (ok_same c.read_words.result c.in-Ok-Questions.field-0 (Questions c.in-Ok-Questions.json) c.in-Ok-Questions.is c.in-Ok-Questions.field-0-is)).2)

pub returns-in-Ok-Questions-clause-untaken : goal.returns-in-Ok-Questions-clause-untaken
returns-in-Ok-Questions-clause-untaken g c = λ single. absurd (single (asks_many (map string_bytes c.args.words.now) c.read_words.result c.read_words.ensures.command c.in-Ok-Questions.json (ok_same c.read_words.result c.in-Ok-Questions.field-0 (Questions c.in-Ok-Questions.json) c.in-Ok-Questions.is c.in-Ok-Questions.field-0-is)).2)

pub returns-in-Ok-Questions-clause-stops : goal.returns-in-Ok-Questions-clause-stops
returns-in-Ok-Questions-clause-stops g c = λ tells run. absurd ((asks_many (map string_bytes c.args.words.now) c.read_words.result c.read_words.ensures.command c.in-Ok-Questions.json (ok_same c.read_words.result c.in-Ok-Questions.field-0 (Questions c.in-Ok-Questions.json) c.in-Ok-Questions.is c.in-Ok-Questions.field-0-is)).0 run)

pub returns-in-Ok-Questions-clause-questions : goal.returns-in-Ok-Questions-clause-questions
returns-in-Ok-Questions-clause-questions g c = λ json is known.
    lines_same _ c.in-Ok-Questions.json json (lines_as (map string_bytes c.args.words.now) c.read_words.result c.read_words.ensures.command (Questions c.in-Ok-Questions.json) (ok_same c.read_words.result c.in-Ok-Questions.field-0 (Questions c.in-Ok-Questions.json) c.in-Ok-Questions.is c.in-Ok-Questions.field-0-is)) is
    (λ j. AreAsked j g.S.Source.tells (g.S.Source.left c.args.source.now) (g.S.Source.left c.lines_words.new.source) (g.S.Source.fault_count c.args.source.now) (g.S.Source.fault_count c.lines_words.new.source)
    (g.D.Disk.view c.args.disk) (g.D.Disk.view c.lines_words.result.disk) (record { tells = g.K.Sink.tells; before = g.K.Sink.taken c.args.sink.now; after = g.K.Sink.taken c.lines_words.new.sink }) c.lines_words.result.status) (c.lines_words.ensures.answer known)

pub returns-in-Ok-Questions-clause-cut : goal.returns-in-Ok-Questions-clause-cut
returns-in-Ok-Questions-clause-cut g c = λ json is starved.
    lines_same _ c.in-Ok-Questions.json json (lines_as (map string_bytes c.args.words.now) c.read_words.result c.read_words.ensures.command (Questions c.in-Ok-Questions.json) (ok_same c.read_words.result c.in-Ok-Questions.field-0 (Questions c.in-Ok-Questions.json) c.in-Ok-Questions.is c.in-Ok-Questions.field-0-is)) is
    (λ j. AreCut j g.S.Source.tells (g.S.Source.left c.args.source.now) (g.D.Disk.view c.args.disk) (record { tells = g.K.Sink.tells; before = g.K.Sink.taken c.args.sink.now; after = g.K.Sink.taken c.lines_words.new.sink })) (c.lines_words.ensures.starved starved)

pub returns-in-Err-clause-questions : goal.returns-in-Err-clause-questions
returns-in-Err-clause-questions g c = λ json is known.
    absurd (no_lines _ json (refuses_lines (map string_bytes c.args.words.now) c.read_words.result c.read_words.ensures.command c.in-Err.status c.in-Err.is (λ starved. known (c.answered-in-Err.ensures.starved (ap Err starved)))) is)

pub returns-in-Err-clause-cut : goal.returns-in-Err-clause-cut
returns-in-Err-clause-cut g c = λ json is starved.
    none_cut json g.S.Source.tells (g.S.Source.left c.args.source.now) (g.D.Disk.view c.args.disk) g.K.Sink.tells (g.K.Sink.taken c.args.sink.now) (g.K.Sink.taken c.answered-in-Err.new.sink)
    (ap g.K.Sink.taken (c.answered-in-Err.ensures.untaken starved))

pub returns-in-Ok-Run-clause-unfailed : goal.returns-in-Ok-Run-clause-unfailed
returns-in-Ok-Run-clause-unfailed g c = λ starved. ap g.K.Sink.fault_count (c.run_words.ensures.untaken starved)

pub returns-in-Ok-Replay-clause-unfailed : goal.returns-in-Ok-Replay-clause-unfailed
returns-in-Ok-Replay-clause-unfailed g c = λ starved. ap g.K.Sink.fault_count (c.run_words-in-Ok-Replay.ensures.untaken starved)

pub returns-in-Ok-Gen-clause-unfailed : goal.returns-in-Ok-Gen-clause-unfailed
returns-in-Ok-Gen-clause-unfailed g c = λ starved. ap g.K.Sink.fault_count (c.gen_words.ensures.untaken starved)

pub returns-in-Ok-Ask-clause-unfailed : goal.returns-in-Ok-Ask-clause-unfailed
returns-in-Ok-Ask-clause-unfailed g c = λ starved. ap g.K.Sink.fault_count (c.answered.ensures.untaken starved)

pub returns-in-Ok-Follow-clause-unfailed : goal.returns-in-Ok-Follow-clause-unfailed
returns-in-Ok-Follow-clause-unfailed g c = λ starved. ap g.K.Sink.fault_count (c.follow_words.ensures.untaken starved)

pub returns-in-Err-clause-unfailed : goal.returns-in-Err-clause-unfailed
returns-in-Err-clause-unfailed g c = λ starved. ap g.K.Sink.fault_count (c.answered-in-Err.ensures.untaken starved)

pub returns-in-Ok-Run-clause-run : goal.returns-in-Ok-Run-clause-run
returns-in-Ok-Run-clause-run g c = λ run known.
    subst (λ (scale : Scale). IsAnswer g.D.Disk.view scale
    (record { tells = g.S.Source.tells; left = g.S.Source.left c.args.source.now; before = g.S.Source.fault_count c.args.source.now; after = g.S.Source.fault_count c.run_words.new.source })
    (record { tells = g.K.Sink.tells; before = g.K.Sink.taken c.args.sink.now; after = g.K.Sink.taken c.run_words.new.sink }) c.args.disk c.run_words.result.disk (outcome_of c.run_words.result) c.run_words.result.status)
    (sym (runs_at (map string_bytes c.args.words.now) c.read_words.result c.read_words.ensures.command (Run c.in-Ok-Run.scale c.in-Ok-Run.workers) (ok_same c.read_words.result c.in-Ok-Run.field-0 (Run c.in-Ok-Run.scale c.in-Ok-Run.workers) c.in-Ok-Run.is c.in-Ok-Run.field-0-is)))
    (c.run_words.ensures.run known)

pub returns-in-Ok-Run-clause-stops : goal.returns-in-Ok-Run-clause-stops
returns-in-Ok-Run-clause-stops g c = λ tells run known unfailed.
    subst (λ (scale : Scale). IsReadInTime scale (g.S.Source.left c.args.source.now) (g.S.Source.left c.run_words.new.source))
    (sym (runs_at (map string_bytes c.args.words.now) c.read_words.result c.read_words.ensures.command (Run c.in-Ok-Run.scale c.in-Ok-Run.workers) (ok_same c.read_words.result c.in-Ok-Run.field-0 (Run c.in-Ok-Run.scale c.in-Ok-Run.workers) c.in-Ok-Run.is c.in-Ok-Run.field-0-is)))
    (c.run_words.ensures.stops tells known unfailed)

pub returns-in-Ok-Replay-clause-run : goal.returns-in-Ok-Replay-clause-run
returns-in-Ok-Replay-clause-run g c = λ run known.
    subst (λ (scale : Scale). IsAnswer g.D.Disk.view scale
    (record { tells = g.S.Source.tells; left = g.S.Source.left c.args.source.now; before = g.S.Source.fault_count c.args.source.now; after = g.S.Source.fault_count c.run_words-in-Ok-Replay.new.source })
    (record { tells = g.K.Sink.tells; before = g.K.Sink.taken c.args.sink.now; after = g.K.Sink.taken c.run_words-in-Ok-Replay.new.sink }) c.args.disk c.run_words-in-Ok-Replay.result.disk (outcome_of c.run_words-in-Ok-Replay.result) c.run_words-in-Ok-Replay.result.status)
    (sym (runs_at (map string_bytes c.args.words.now) c.read_words.result c.read_words.ensures.command (Replay c.in-Ok-Replay.scale) (ok_same c.read_words.result c.in-Ok-Replay.field-0 (Replay c.in-Ok-Replay.scale) c.in-Ok-Replay.is c.in-Ok-Replay.field-0-is)))
    (c.run_words-in-Ok-Replay.ensures.run known)

pub returns-in-Ok-Replay-clause-stops : goal.returns-in-Ok-Replay-clause-stops
returns-in-Ok-Replay-clause-stops g c = λ tells run known unfailed.
    subst (λ (scale : Scale). IsReadInTime scale (g.S.Source.left c.args.source.now) (g.S.Source.left c.run_words-in-Ok-Replay.new.source))
    (sym (runs_at (map string_bytes c.args.words.now) c.read_words.result c.read_words.ensures.command (Replay c.in-Ok-Replay.scale) (ok_same c.read_words.result c.in-Ok-Replay.field-0 (Replay c.in-Ok-Replay.scale) c.in-Ok-Replay.is c.in-Ok-Replay.field-0-is)))
    (c.run_words-in-Ok-Replay.ensures.stops tells known unfailed)
