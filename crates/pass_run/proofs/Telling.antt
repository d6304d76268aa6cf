-- What the processes of a run had seen makes the store's history a run of the trace.
use Rattle.std.proofs.Common.{◌≡◌, ℕ, List, ap, sym, ◌∙◌, arith}
use Rattle.std.specs.List.{All}
use Rattle.std.proofs.lemmas.List.Elements.{All-weaker}
use mathlib.Core.List.{IsPrefix}
use Rattle.pass_entry.specs.declared.entry.Entry.{Entry}
use Rattle.pass_outside.specs.Moments.{Moment}
use Rattle.pass_plain.specs.Lawful.{AgreeBy}
use Rattle.pass_plain.specs.Legal.{IsLegal}
use Rattle.pass_book.specs.Tokens.{BookId}
use Rattle.pass_proc.specs.Ends.{TrailView}
use Rattle.pass_replay.specs.Needs.{places_of}
use Rattle.pass_session.specs.Sessions.{OpenedView, HasSession}
use Rattle.pass_store.specs.Closings.{IsTold}
use Rattle.pass_trace.specs.TraceLines.{objects_of, plain_trace}
use Rattle.pass_trace.specs.declared.trace.TraceLine.{TraceLine}
use Rattle.pass_walk.specs.declared.ends.Last.{Last}
use Rattle.pass_walk.specs.Runs.{IsRanBy, IsRanTo, RanLaw}
use Rattle.pass_order.specs.Replayed.{IsReplayedBy, IsReplayedTo, ReplayedLaw}
use Rattle.pass_run.specs.Ends.{IsTrace}
use Rattle.pass_run.proofs.Ruled.{ruled}

told : (history : List Entry) (trails : List TrailView) → All (IsTold history) trails → All (λ (t : TrailView). IsPrefix t.seen history × AgreeBy t.who t.seen history) trails
told history trails all = All-weaker (IsTold history) (λ (t : TrailView). IsPrefix t.seen history × AgreeBy t.who t.seen history) (λ t is. (is.begins, is.agrees)) trails all

pub has_ran : {D : Type 0} (view : D → Moment) (old : Moment) (lines : List TraceLine) (o : OpenedView D) → RanLaw → IsTrace lines
    → HasSession view old (objects_of lines) (places_of (plain_trace lines)) o → (book : BookId) → o.vault.book ≡ book → (places : ℕ) → o.places ≡ places → (trails : List TrailView) (last : Last) (history : List Entry)
    → IsRanBy book.session places (plain_trace lines) trails last → IsLegal book.session history → All (IsTold history) trails → IsRanTo book.session (plain_trace lines) history last
has_ran view old lines o law trace session book book_is places places_are trails last history by legal all =
    law book.session places lines trails last history (ruled lines trace) (sym (ap (λ (b : BookId). b.session.objects) book_is) ∙ session.objects_are)
    (let entries = session.places in omega (arith, entries, places_are)) by legal (told history trails all)

-- and the replay of the trace, where they were made in the order of its lines
pub has_replayed : {D : Type 0} (view : D → Moment) (old : Moment) (lines : List TraceLine) (o : OpenedView D) → ReplayedLaw
    → HasSession view old (objects_of lines) (places_of (plain_trace lines)) o → (book : BookId) → o.vault.book ≡ book → (trails : List TrailView) (last : Last) (history : List Entry)
    → IsReplayedBy book.session (plain_trace lines) trails → IsLegal book.session history → All (IsTold history) trails → IsRanTo book.session (plain_trace lines) history last
    → IsReplayedTo book.session (plain_trace lines) history last
has_replayed view old lines o law session book book_is trails last history by legal all ran =
    law book.session lines trails last history (sym (ap (λ (b : BookId). b.session.objects) book_is) ∙ session.objects_are) by legal (told history trails all) ran
