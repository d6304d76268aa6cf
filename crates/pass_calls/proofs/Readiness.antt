-- A call that finds too few places, and whose process looks once more.
use Rattle.std.proofs.Common.{◌≡◌, ℕ, ◌+◌, ap, sym, ◌∙◌, subst, arith, length, List}
use Rattle.std.specs.Prelude.{Err}
use Rattle.pass_entry.specs.declared.entry.Entry.{Entry}
use Rattle.pass_plain.specs.declared.request.Request.{Request}
use Rattle.pass_plain.specs.Places.{left_for}
use Rattle.pass_plain.specs.Sessions.{Session}
use Rattle.pass_hold.specs.Callings.{HasLooked}
use Rattle.pass_proc.specs.Procs.{ProcView}
use Rattle.pass_answer.specs.Answers.{Answers, IsFull}
use Rattle.pass_answer.specs.declared.answer.CallEnd.{CallEnd}
use Rattle.pass_answer.specs.declared.answer.CallEnd.TheVariants as ends
use Rattle.pass_calls.specs.Beginnings.{TellsOfPlaces}

-- the process has looked once more, and found the same
module _ (session : Session) (places : ℕ) (old mid new : ProcView) (r : Request)
    (same : new ≡ record mid { seen = new.seen; syncs = new.syncs; looks = mid.looks + 1; looked = length new.seen }) (seen : new.seen ≡ mid.seen) where
  more : new.looks ≡ mid.looks + 1
  more = ap (λ (v : ProcView). v.looks) same

  full_again : (left need : ℕ) → IsFull session places old mid r left need → IsFull session places old new r left need
  full_again left need is =
      let before = is.only.rose in
      record {
        only = record {
          looked = subst (λ (h : List Entry). HasLooked session old.who old.seen h) (sym seen) is.only.looked;
          rose = omega (arith, more, before);
          stays = same ∙ ap (λ (v : ProcView). record v { seen = new.seen; syncs = new.syncs; looks = mid.looks + 1; looked = length new.seen }) is.only.stays
              ∙ ap (λ n. record old { seen = new.seen; syncs = new.syncs; looks = n; looked = length new.seen }) (sym more);
        };
        anew = is.anew;
        needs = is.needs;
        fewer = is.fewer;
        leaves = subst (λ (h : List Entry). left ≡ left_for places h old.who) (sym seen) is.leaves;
      }

  pub still_full : (end : CallEnd) → TellsOfPlaces end → Answers session places old mid r (Err end) → Answers session places old new r (Err end)
  still_full (ends.Full left need) only is = full_again left need is
  still_full (ends.Fault f) only is = absurd only
  still_full ends.Again only is = absurd only
  still_full (ends.DiskFault opened now) only is = absurd only
  still_full ends.NoMemory only is = absurd only
