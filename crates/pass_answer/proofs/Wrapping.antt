-- How a call on a process between two calls answers by its steps.
use Rattle.std.proofs.Common.{◌≡◌, ℕ, ◌+◌, ◌<◌, ap, sym, ◌∙◌, subst, arith, refl, false}
use Rattle.std.specs.Prelude.{Option, None, Ok, Err, if◌then◌else◌, take}
use Rattle.std.specs.Option.{option_map_or}
use Rattle.pass_entry.specs.declared.entry.CallFault.{CallFault}
use Rattle.pass_entry.specs.declared.entry.Reply.TheVariants as answer
use Rattle.pass_plain.specs.declared.request.Request.{Request}
use Rattle.pass_plain.specs.Calls.{name_of}
use Rattle.pass_plain.specs.Places.{left_for, need_of}
use Rattle.pass_plain.specs.Sessions.{Session}
use Rattle.pass_book.specs.declared.claim.Full.{Full}
use Rattle.pass_hold.specs.Callers.{CallerState, moved_on}
use Rattle.pass_hold.specs.Callings.{HasLooked}
use Rattle.pass_proc.specs.CallEnds.{HasReplied}
use Rattle.pass_proc.specs.Procs.{ProcView, IsCallerOf, proc_with}
use Rattle.pass_proc.specs.Views.{ProcessView}
use Rattle.pass_proc.specs.declared.way.Way.{Way}
use Rattle.pass_answer.specs.Answers.{Answers, HasMoved, begins_at, resumes}
use Rattle.pass_answer.specs.declared.answer.Moved.{Moved}
use Rattle.pass_answer.specs.declared.answer.CallEnd.TheVariants as ends

pub begins_now : (old : ProcView) (r : Request) → resumes old.way r ≡ false → begins_at old r ≡ old.seen
begins_now old r new = ap (λ b. if b then option_map_or (λ (w : Way). take w.out old.seen) old.way old.seen else old.seen) new

module _ (session : Session) (places : ℕ) (old : ProcView) (r : Request) (new : resumes old.way r ≡ false) (p : ProcessView) (n : ℕ) (c : CallerState) (who : p.who ≡ old.who) where
  -- it went through
  pub moved : (m : Moved) → HasMoved session old.who old.seen c.seen p.state r m → Answers session places old (proc_with p n c None) r (Ok m)
  moved m is = (
    subst (λ h. HasMoved session old.who h c.seen p.state r m) (sym (begins_now old r new)) is,
    record { who = who; grows = is.call.begins; way = refl },
  )

  -- its last entry is a fault
  pub faulted : (f : CallFault) → HasReplied session old.who old.seen c.seen r (answer.Fault f) → Answers session places old (proc_with p n c None) r (Err (ends.Fault f))
  faulted f is = (
    subst (λ h. HasReplied session old.who h c.seen r (answer.Fault f)) (sym (begins_now old r new)) is,
    record { who = who; grows = is.call.begins; way = refl },
  )

-- it found too few places
module _ (session : Session) (places : ℕ) (p : ProcessView) (n : ℕ) (c d : CallerState) (way : Option Way) (is : IsCallerOf session p n c) where
  pub full : (r : Request) (need : ℕ) (f : Full) → resumes way r ≡ false → need ≡ need_of (name_of r) → d ≡ moved_on c d.seen d.syncs c.held → HasLooked session c.who c.seen d.seen
      → (f.need ≡ need) × (f.left < need) × (f.left ≡ left_for places d.seen c.who)
      → Answers session places (proc_with p n c way) (proc_with p n d way) r (Err (ends.Full f.left f.need))
  full r need f new needs same looked is_full =
      let low = is_full.1 in
      let told = is_full.0 in
      record {
        only = record {
          looked = subst (λ w. HasLooked session w c.seen d.seen) is.of_who looked;
          rose = let more : d.looks ≡ c.looks + 1 = ap (λ (c : CallerState). c.looks) same in omega (arith, more);
          stays = ap (λ l. record (proc_with p n d way) { looked = l }) (ap (λ (c : CallerState). c.looked) same);
        };
        anew = new;
        needs = told ∙ needs;
        fewer = omega (arith, low, told);
        leaves = is_full.2 ∙ ap (λ w. left_for places d.seen w) is.of_who;
      }
