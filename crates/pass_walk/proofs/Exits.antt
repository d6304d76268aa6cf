-- A turn by the exit of a process.
use Rattle.std.proofs.Common.{◌≡◌, ℕ, List, [], length, map, refl, ap, sym, ◌∙◌, subst, arith, inl, inr, true, false}
use Rattle.std.specs.Prelude.{Option, Some, None, slice_get}
use Rattle.std.proofs.lemmas.List.{length-map}
use Rattle.pass_plain.specs.declared.request.Request.TheVariants as requests
use Rattle.pass_plain.specs.Legal.{is_over}
use Rattle.pass_plain.specs.Sessions.{Session}
use Rattle.pass_plain.specs.Traces.{Line, given, lines_of, calls_of}
use Rattle.pass_answer.specs.Lives.{HasExited}
use Rattle.pass_proc.specs.Ends.{TrailView}
use Rattle.pass_progress.specs.Progress.{BirthLaw, ExitLaw, IsAtRest, IsBetween}
use Rattle.pass_replay.specs.Lines.{AreLinesBehind, IsLineAt}
use Rattle.pass_replay.specs.Members.{MakesSteps}
use Rattle.pass_replay.proofs.NextCalls.{calls_length}
use Rattle.pass_sched.specs.declared.task.Turn.TheVariants as turn
use Rattle.pass_walk.specs.declared.walker.Living.{Living}
use Rattle.pass_walk.specs.declared.walker.Walker.{Walker}
use Rattle.pass_walk.specs.declared.walker.Walker.TheVariants as walker
use Rattle.pass_walk.specs.Lefts.{left_at}
use Rattle.pass_walk.specs.Walkers.{HasWent, IsLivingOf, member_of, pnode_among}
use Rattle.pass_walk.proofs.Locals as locals
use Rattle.pass_walk.proofs.Walks.{goes_counts, may_go_on, no_kid}
use Rattle.pass_entry.proofs.Places.{slice_get-last}

module _ {J : Type 0} (session : Session) (places : ℕ) (trace : List Line) (behind : AreLinesBehind [] trace) (l : Living J) (is : IsLivingOf session trace l) (line : l.line ≡ None) where
  count : length (lines_of trace l.process) ≡ is.done
  count = subst (λ (o : Option ℕ). IsLineAt trace l.process is.done o) line is.line

  exit_stands : slice_get (calls_of trace l.process) is.done ≡ Some (given requests.Exit)
  exit_stands =
      ap (λ n. slice_get (calls_of trace l.process) n) (sym count ∙ sym (length-map (lines_of trace l.process) (λ (l : Line). l.call)))
      ∙ slice_get-last (map (λ (l : Line). l.call) (lines_of trace l.process)) (given requests.Exit)

  -- it is in no call
  at_rest : IsAtRest l.proc
  at_rest = elim (may_go_on session trace behind l is (given requests.Exit) exit_stands) [ inl rest ↦ rest | inr resumes ↦ absurd (let z : false ≡ true = resumes in cc) ]

  pub exited : BirthLaw → ExitLaw → IsBetween session l.proc → (trail : TrailView) (place : ℕ) → HasExited session l.proc trail.seen place → trail.who ≡ l.proc.who
      → HasWent session places trace l (record { walker = walker.Ended (record { process = l.process; trail = trail; met = None }); answer = turn.Moved; kid = None })
  exited birth_law exit_law between trail place ends who =
      let (goes, over, ended) = exit_law session l.proc trail.seen ends.replied.made between at_rest ends.replied.call in
      let makes = locals.makes_new session trace behind l.process l.proc.who l.proc.seen trail.seen is.done (pnode_among l.children) (given requests.Exit) is.local exit_stands goes in
      record {
        walker = record {
          makes = subst (λ w. MakesSteps trace l.process w trail.seen) (sym who) makes;
          over = ap (λ w. is_over trail.seen w (length (calls_of trace l.process))) who
              ∙ ap (λ n. is_over trail.seen l.proc.who n) (let a = calls_length trace l.process in let b = count in let c = is.local.next in omega (arith, a, b, c)) ∙ over;
          met = λ count h. absurd (let z : None ≡ Some count = h in cc);
        };
        process = refl;
        who = who;
        begins = goes.begins;
        kid = tt;
        births = λ n e out descriptors at later by born.
            let (forks, what) = birth_law session l.proc.who requests.Exit l.proc.seen trail.seen goes n e out descriptors at later by born in
            absurd (let z : requests.Exit ≡ requests.Fork = forks in cc);
        moved = λ h. ap (λ o. left_at trace l.process o) (sym line);
        stayed = λ h. absurd (h refl);
        goes_on = λ h. let z : turn.Moved ≡ turn.Ended = h in cc;
        waits = λ h. absurd (let z : turn.Moved ≡ turn.Waiting = h in cc);
        fails = λ h. absurd (let z : turn.Moved ≡ turn.Failed = h in cc);
        legal = goes.legal;
        counts = goes_counts session l.proc.who requests.Exit l.proc.seen trail.seen goes;
        over = λ h. over;
        next = λ k is h. absurd (let z : true ≡ false = ap (λ (w : Walker J). (member_of w).ended) is in cc);
        line = λ k is h. absurd (let z : turn.Moved ≡ turn.Waiting = h in cc);
        shares = λ kid h. absurd (no_kid kid h);
        forks = λ kid h. absurd (no_kid kid h);
      }
