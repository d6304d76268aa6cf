-- The steps of a sync.
use Rattle.std.proofs.Common.{◌≡◌, ℕ, zero, suc, ◌+◌, ◌-◌, ◌<◌, ◌≤◌, List, [], ◌∷◌, ◌++◌, length, refl, ap, sym, ◌∙◌, subst, arith, ◌==◌}
use Rattle.std.specs.Prelude.{Option, Some, None, slice_get, take, drop}
use Rattle.std.specs.FinMap as finite_map
use Rattle.std.proofs.lemmas.List.{take-append-drop}
use mathlib.Core.List.{IsPrefix}
use Rattle.pass_entry.specs.declared.entry.Act.TheVariants as act
use Rattle.pass_entry.specs.declared.entry.Ask.TheVariants as ask
use Rattle.pass_entry.specs.declared.entry.Entry.{Entry}
use Rattle.pass_entry.specs.declared.entry.Reply.TheVariants as answer
use Rattle.pass_entry.specs.declared.objects.Descriptor.{Descriptor}
use Rattle.pass_plain.specs.declared.request.Request.{Request}
use Rattle.pass_plain.specs.declared.request.Request.TheVariants as requests
use Rattle.pass_plain.specs.Calls.{Made, Step, refused_ask, steps_of, descriptor_at}
use Rattle.pass_plain.specs.Legal.{IsLegal}
use Rattle.pass_plain.specs.Places.{call_places}
use Rattle.pass_plain.specs.Processes.{Process, refusal}
use Rattle.pass_plain.specs.Sessions.{Session}
use Rattle.pass_plain.proofs.Beginning.{in_call}
use Rattle.pass_plain.proofs.Lists.{some_is}
use Rattle.pass_plain.proofs.TwoPrefixes.{none_later, SameCaller, caller_agrees}
use Rattle.pass_book.specs.Syncs.{Backs}
use Rattle.pass_book.specs.Numbers.{IsFileNumber}
use Rattle.pass_book.specs.declared.view.VaultSync.{VaultSync}
use Rattle.pass_book.proofs.Backed.{number_stays}
use Rattle.pass_book.proofs.Prefixes.{prefix_trans}
use Rattle.pass_hold.specs.Callings.{IsEntered, IsIdle, IsGoing, HasGone, HasLooked}
use Rattle.pass_hold.specs.Entering.{MayEnter}
use Rattle.pass_hold.proofs.Callings.{call_made, idle_again, more, left_idle, held_going}
use Rattle.pass_flow.specs.Flows.{keep_entry}
use Rattle.pass_proc.proofs.Steps.{begun, low_fd}
use Rattle.pass_answer.specs.Answers.{HasMoved}
use Rattle.pass_answer.specs.declared.answer.Moved.TheVariants as moved
use Rattle.pass_answer.proofs.Naming.{one_held, its_object}
use Rattle.pass_answer.proofs.ObjectSteps.{place_is}
use Rattle.pass_answer.proofs.Steps.{not_refused, next_may, gone_by}
use Rattle.pass_safe.specs.Syncings.{IsKeeping, kept_entry}
use Rattle.pass_answer.specs.Syncs.{BacksFile, HasSynced}

-- Who looks in a call goes on with it

pub gone_looked : (session : Session) (before seen after : List Entry) (who number : ℕ) (r : Request) (p : Process) (made : Made) (now : Process) → HasGone session before seen who number r p made now
    → HasLooked session who seen after → HasGone session before after who number r p made now
gone_looked session before seen after who number r p made now gone l =
    let is = gone.is in
    let later = l.begins.0 in
    let whole = l.begins.1 in
    let same : SameCaller seen after who =
    subst (λ h. SameCaller seen h who) whole
    (caller_agrees session seen later who (subst (λ h. IsLegal session h) (sym whole) l.legal) is.begun
    (none_later (λ (f : Entry). f.who == who) seen later after whole (sym l.own))) in
    record {
      is = record {
        legal = l.legal;
        begun = same.begun;
        state = same.process ∙ is.state;
        begins = prefix_trans before seen after is.begins l.begins;
        own = l.own ∙ is.own;
        was = is.was;
        counted = is.counted;
        before_is = same.before number ∙ is.before_is;
        made_is = same.calls number ∙ is.made_is;
        begun_as = is.begun_as;
        named = is.named;
      };
      last = same.last ∙ gone.last;
    }

-- The first entry

abbrev kept_at : ℕ → Option Step
kept_at o = Some (o, act.Keep)

module _ (session : Session) (seen : List Entry) (who number : ℕ) (p : Process) (fd what : ℕ)
    (idle : IsIdle session seen who (number - 1) p) (some : 0 < number) (free : refusal p (ask.Held fd) ≡ None) (low : fd < 64)
    (named : (d : Descriptor) → finite_map.get p.descriptors fd ≡ Some d → what ≡ d.pnode) where
  fine : refused_ask p (requests.Sync fd) ≡ None
  fine = not_refused p (requests.Sync fd) (ask.Held fd) refl free

  pub its_what : (descriptor_at p fd).pnode ≡ what
  its_what = its_object p fd what (one_held p fd free) named

  first_step : slice_get (steps_of who p [] (requests.Sync fd)) 0 ≡ Some (what, act.Keep)
  first_step = ap kept_at its_what

  pub keep_may : MayEnter seen (keep_entry who number what) 2
  keep_may = next_may session seen seen who number (requests.Sync fd) p [] p fine what act.Keep first_step answer.Done refl (low_fd fd low) (begun session seen who number p (requests.Sync fd) idle some) 2 refl

  pub first_kept : (desk after : List Entry) (place : ℕ) → place + 1 ≡ length after → IsEntered session seen desk after (keep_entry who number what) → IsKeeping session who number seen after fd what p place
  first_kept desk after place at entered =
      let here = place_is session seen desk after (keep_entry who number what) entered place at in
      record {
        gone = subst (λ n. HasGone session seen after who number (requests.Sync fd) p ((n, keep_entry who number what) ∷ []) p) here
            (gone_by session seen seen who number (requests.Sync fd) p [] p fine what act.Keep first_step answer.Done desk after (begun session seen who number p (requests.Sync fd) idle some) entered refl);
        lives = idle.lives;
        low = low;
        free = free;
        object = its_what;
      }

-- From then on

module _ (session : Session) (who number : ℕ) (before seen : List Entry) (fd what : ℕ) (p : Process) (place : ℕ) (kept : IsKeeping session who number before seen fd what p place) where
  abbrev r : Request
  r = requests.Sync fd

  abbrev one : Made
  one = (place, keep_entry who number what) ∷ []

  pub keeping_looked : (after : List Entry) → HasLooked session who seen after → IsKeeping session who number before after fd what p place
  keeping_looked after l = record { gone = gone_looked session before seen after who number r p one p kept.gone l; lives = kept.lives; low = kept.low; free = kept.free; object = kept.object }

  pub keeping_idle : IsIdle session seen who number p
  keeping_idle = left_idle session before seen who number r p one p kept.gone refl kept.lives

  -- it holds places for its last entry
  pub keeping_holds : 0 < call_places seen who
  keeping_holds = let two = held_going session before seen who number r p (place, keep_entry who number what) [] p kept.gone.is kept.gone.last refl in omega (arith, two)

  its_fine : refused_ask p r ≡ None
  its_fine = not_refused p r (ask.Held fd) refl kept.free

  going : IsGoing session before seen who number r p one p
  going = more session before seen who number r p one p kept.gone refl kept.lives

  pub kept_may : MayEnter seen (kept_entry who number fd) 0
  kept_may = next_may session before seen who number r p one p its_fine who (act.Kept fd) refl answer.Done refl (low_fd fd kept.low) going 0 refl

  -- the first entry of the call is the one
  only : (n : ℕ) (k : Entry) → slice_get seen n ≡ Some k → k.who ≡ who → k.number ≡ number → (n ≡ place) × (k ≡ keep_entry who number what)
  only n k at by counted =
      let found = in_call seen n k who number at by counted in
      in_one found.0 (subst (λ (m : Made). slice_get m found.0 ≡ Some (n, k)) kept.gone.is.made_is found.1)
    where
      in_one : (j : ℕ) → slice_get one j ≡ Some (n, k) → (n ≡ place) × (k ≡ keep_entry who number what)
      in_one zero is = let z : (place, keep_entry who number what) ≡ (n, k) = some_is _ _ is in (sym (ap (λ (m : ℕ × Entry). m.0) z), sym (ap (λ (m : ℕ × Entry). m.1) z))
      in_one (suc j) is = absurd (cc)

  -- there is a sync above it, and one of the file's data where the object is a file
  pub kept_backs : (calls entries : ℕ) (ss : List VaultSync) → HasSynced calls entries ss → place < entries → entries ≤ length seen → BacksFile session seen what calls entries ss
      → Backs session seen (length seen) ss (kept_entry who number fd)
  kept_backs calls entries ss synced above within file = λ fd n k is at by counted keep.
      let (there, same) = only n k at by counted in
      let has = synced.has in (
        (synced.i, synced.s, synced.is, (synced.whole, omega (arith, there, above, has), omega (arith, within, has))),
        λ m also.
            let mine = subst (λ o. IsFileNumber session (take n seen) o m) (ap (λ (e : Entry). e.what) same) also in
            let (i, s, f, here, mark, equal, whole, timed, all) = file m (number_stays session (take n seen) seen what m (front n seen) mine) in
            (i, s, f, here, mark, equal, (whole, omega (arith, there, above, all), omega (arith, within, all))),
      )
    where
      front : (n : ℕ) (xs : List Entry) → IsPrefix (take n xs) xs
      front n xs = (drop n xs, take-append-drop n xs)

  module _ (own later : List Entry) (done : IsEntered session seen own later (kept_entry who number fd)) where
    abbrev two : Made
    two = one ++ (length done.past, kept_entry who number fd) ∷ []

    gone_on : HasGone session before later who number r p two p
    gone_on = gone_by session before seen who number r p one p its_fine who (act.Kept fd) refl answer.Done own later going done refl

    pub synced_idle : IsIdle session later who number p
    synced_idle = idle_again session before later who number r p two p gone_on refl kept.lives

    pub synced_moved : (calls entries : ℕ) → place < entries → HasMoved session who before later p r (moved.Synced calls entries)
    synced_moved calls entries above = record {
      made = two;
      call = call_made session before later who number r p two p gone_on refl;
      reply = answer.Done;
      last = refl;
      fine = refl;
      tells = above;
    }
