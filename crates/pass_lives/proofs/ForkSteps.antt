-- The steps of a fork on the pipes of its process, and its last one.
use Rattle.std.proofs.Common.{◌≡◌, ℕ, ◌+◌, ◌-◌, ◌≤◌, ◌^◌, List, [], ◌∷◌, ◌++◌, length, refl, ap, sym, ◌∙◌, subst, arith, true, false, append_assoc, append-nil, length-append}
use Rattle.std.specs.Prelude.{Option, Some, None, Ok, drop, map, option_map, slice_get}
use mathlib.Core.List.{IsPrefix}
use Rattle.pass_entry.specs.declared.entry.Act.{Act}
use Rattle.pass_entry.specs.declared.entry.Act.TheVariants as act
use Rattle.pass_entry.specs.declared.entry.Entry.{Entry}
use Rattle.pass_entry.specs.declared.entry.Reply.TheVariants as answer
use Rattle.pass_entry.specs.declared.objects.Descriptor.{Descriptor}
use Rattle.pass_entry.specs.declared.objects.End.{End}
use Rattle.pass_plain.specs.declared.request.Request.{Request}
use Rattle.pass_plain.specs.declared.request.Request.TheVariants as requests
use Rattle.pass_plain.specs.Calls.{Made, Step, act_on, end_of, pipe_descriptors, pnode_at, refused_ask, steps_of}
use Rattle.pass_plain.specs.Histories.{pnode_of}
use Rattle.pass_plain.specs.Legal.{ends_call}
use Rattle.pass_plain.specs.Places.{call_places}
use Rattle.pass_plain.specs.Processes.{Held, Process, new_process, process_after}
use Rattle.pass_plain.specs.Sessions.{Session}
use Rattle.pass_plain.specs.Versions.{nodes_of, source_in}
use Rattle.pass_plain.proofs.Counts.{few_pipes}
use Rattle.pass_hold.specs.Callers.{CallerState, moved_on}
use Rattle.pass_hold.specs.Callings.{IsCallMade, IsEntered, IsGoing, HasGone, made_by}
use Rattle.pass_hold.specs.Entering.{MayEnter}
use Rattle.pass_hold.proofs.Callings.{entry_of, more, call_made, idle_again, held_going}
use Rattle.pass_pipe.specs.Desks.{join_entry}
use Rattle.pass_proc.specs.Births.{birth_entry}
use Rattle.pass_proc.specs.Procs.{IsCallerOf, ProcView, proc_with}
use Rattle.pass_proc.specs.Views.{ProcessView}
use Rattle.pass_proc.proofs.Steps.{node_stays}
use Rattle.pass_answer.specs.Answers.{Answers}
use Rattle.pass_answer.specs.declared.answer.Moved.TheVariants as moved
use Rattle.pass_answer.proofs.Steps.{not_asked, next_may, gone_by}
use Rattle.pass_lives.specs.Forks.{ForkingView, IsForking}
use Rattle.pass_answer.specs.Lives.{IsChild}
use Rattle.pass_lives.proofs.PipeLists.{at_end, first_is, none_is, next_in, last_in, ends_with}

abbrev joining : Descriptor → Step
joining d = act_on d.pnode (act.Join (end_of d.mode))

-- a fork as its parts tell it
pub told_by : {session : Session} {number : ℕ} {p : ProcessView} {c : CallerState} {f k : ForkingView} → IsForking session number p c f → k ≡ f → IsForking session number p c k
told_by {session} {number} {p} {c} is same = subst (λ (v : ForkingView). IsForking session number p c v) (sym same) is

module _ {session : Session} {number : ℕ} {p : ProcessView} {c : CallerState} {k : ForkingView} (is : IsForking session number p c k) where
  abbrev r : Request
  r = requests.Fork

  abbrev was : Process
  was = process_after k.before p.who

  abbrev made : Made
  made = is.first ∷ is.second ∷ is.joins

  fine : refused_ask was r ≡ None
  fine = not_asked was r refl

  on : IsGoing session k.before c.seen p.who number r was made p.state
  on = more session k.before c.seen p.who number r was made p.state is.gone is.goes is.lives

  abbrev bearing : Step
  bearing = act_on (pnode_of is.first.1.reply) (act.Born is.second.0 was.descriptors)

  few_joins : length is.joins ≤ 64
  few_joins =
      let all = few_pipes was in
      let parts = ap length is.pipes in
      let both = length-append is.joined k.rest in
      let count = is.count in
      omega (arith, all, parts, both, count)

  -- what the process holds of its call's places
  places : call_places c.seen p.who ≡ 132 - length made
  places = held_going session k.before c.seen p.who number r was is.first (is.second ∷ is.joins) p.state is.gone.is is.gone.last is.goes

  pub fork_held : (held : ℕ) → held ≡ call_places c.seen c.who → 66 ≤ held
  fork_held held its =
      let few = few_joins in
      let has = its ∙ ap (λ w. call_places c.seen w) is.of_who ∙ places in
      omega (arith, few, has)

  -- The next pipe. `by` stands for the process in the entry that is made, and `side` for the pipe's end

  module _ {d : Descriptor} (next : slice_get k.rest 0 ≡ Some d) {what : ℕ} (its : what ≡ d.pnode) {by : ℕ} (of : by ≡ p.who) {side : End} (end_is : side ≡ end_of d.mode) where
    rest_is : k.rest ≡ d ∷ drop 1 k.rest
    rest_is = first_is k.rest d next

    abbrev joins_end : Act
    joins_end = act.Join (end_of d.mode)

    abbrev on_what : ℕ → Option Step
    on_what o = Some (o, joins_end)

    at : slice_get (steps_of p.who was made r) (length made) ≡ Some (what, joins_end)
    at =
        ap (λ n. slice_get (map joining (pipe_descriptors was) ++ bearing ∷ []) n) is.count
        ∙ ap (λ ds. slice_get (map joining ds ++ bearing ∷ []) (length is.joined)) (is.pipes ∙ ap (λ ds. is.joined ++ ds) rest_is)
        ∙ next_in joining is.joined (drop 1 k.rest) d bearing
        ∙ ap on_what (sym its)

    abbrev joined : Entry
    joined = join_entry by number what side

    same : entry_of p.who number r what joins_end answer.Done ≡ joined
    same = ap (λ w. join_entry w number what (end_of d.mode)) (sym of) ∙ ap (λ x. join_entry by number what x) (sym end_is)

    pub join_may : (held keep : ℕ) → held ≡ call_places c.seen c.who → keep ≡ held - 1 → MayEnter c.seen joined keep
    join_may held keep its_held one_less =
        subst (λ e. MayEnter c.seen e keep) same (next_may session k.before c.seen p.who number r was made p.state fine what joins_end at answer.Done refl refl on keep kept)
      where
        kept : keep ≡ 132 - (length made + 1)
        kept = let has = its_held ∙ ap (λ w. call_places c.seen w) is.of_who ∙ places in omega (arith, has, one_less)

    module _ {desk : List Entry} (keep : ℕ) (e : CallerState) (on_it : e ≡ moved_on c e.seen e.syncs keep) (entered : IsEntered session c.seen desk e.seen joined) where
      entry_made : IsEntered session c.seen desk e.seen (entry_of p.who number r what joins_end answer.Done)
      entry_made = subst (λ f. IsEntered session c.seen desk e.seen f) (sym same) entered

      abbrev m : ℕ × Entry
      m = (length entry_made.past, entry_of p.who number r what joins_end answer.Done)

      abbrev later : List Entry
      later = entry_made.line_begins.0 ++ m.1 ∷ []

      later_is : c.seen ++ later ≡ e.seen
      later_is = sym (append_assoc c.seen entry_made.line_begins.0 (m.1 ∷ [])) ∙ ap (λ h. h ++ m.1 ∷ []) entry_made.line_begins.1 ∙ sym entry_made.whole

      pub joined_on : length e.seen ≤ 2 ^ 32 → (n : ForkingView) → n ≡ record k { rest = drop 1 k.rest } → IsForking session number p e n
      joined_on few n view = subst (λ (v : ForkingView). IsForking session number p e v) (sym view) (record {
        first = is.first;
        second = is.second;
        joins = is.joins ++ m ∷ [];
        gone = gone_by session k.before c.seen p.who number r was made p.state fine what joins_end at answer.Done desk e.seen on entry_made refl;
        goes = ends_with was made m false refl;
        lives = is.lives;
        child = is.child;
        out = is.out;
        source = ap (λ (h : List Entry). slice_get (nodes_of session h) k.out) (sym later_is) ∙ node_stays session c.seen later k.out is.within ∙ is.source;
        within = (
            let longer = ap length later_is in
            let parts = length-append c.seen later in
            let low = is.within in
            omega (arith, longer, parts, low)
            );
        joined = is.joined ++ d ∷ [];
        pipes = is.pipes ∙ ap (λ ds. is.joined ++ ds) rest_is ∙ sym (append_assoc is.joined (d ∷ []) (drop 1 k.rest));
        count = (
            let joins = length-append is.joins (m ∷ []) in
            let pipes = length-append is.joined (d ∷ []) in
            let count = is.count in
            omega (arith, joins, pipes, count)
            );
        held = is.held;
        holds = is.holds;
        of_who = ap (λ (c : CallerState). c.who) on_it ∙ is.of_who;
        own = ap (λ (c : CallerState). c.own) on_it ∙ is.own;
        few = few;
      })

  -- The child begins

  module _ (all : slice_get k.rest 0 ≡ None) {by : ℕ} (of : by ≡ p.who) where
    done : pipe_descriptors was ≡ is.joined
    done = is.pipes ∙ ap (λ ds. is.joined ++ ds) (none_is k.rest all) ∙ append-nil is.joined

    abbrev bears : Act
    bears = act.Born k.out k.descriptors

    abbrev step : ℕ → ℕ → Held → Option Step
    step child out held = Some (child, act.Born out held)

    born_at : slice_get (steps_of p.who was made r) (length made) ≡ Some (k.child, bears)
    born_at =
        ap (λ n. slice_get (map joining (pipe_descriptors was) ++ bearing ∷ []) n) is.count
        ∙ ap (λ ds. slice_get (map joining ds ++ bearing ∷ []) (length is.joined)) done
        ∙ last_in joining is.joined bearing
        ∙ (λ i. step (is.child i) (is.out i) (is.held i))

    abbrev born : Entry
    born = birth_entry by number k.child k.out k.descriptors

    same_birth : entry_of p.who number r k.child bears answer.Done ≡ born
    same_birth = ap (λ w. birth_entry w number k.child k.out k.descriptors) (sym of)

    pub born_may : MayEnter c.seen born 0
    born_may = subst (λ e. MayEnter c.seen e 0) same_birth (next_may session k.before c.seen p.who number r was made p.state fine k.child bears born_at answer.Done refl refl on 0 refl)

    pub born_source : source_in (nodes_of session c.seen) born ≡ Some k.source
    born_source = is.source

    module _ (e : CallerState) (on_it : e ≡ moved_on c e.seen e.syncs 0) (entered : IsEntered session c.seen [] e.seen born) where
      entry_born : IsEntered session c.seen [] e.seen (entry_of p.who number r k.child bears answer.Done)
      entry_born = subst (λ f. IsEntered session c.seen [] e.seen f) (sym same_birth) entered

      abbrev b : ℕ × Entry
      b = (length entry_born.past, entry_of p.who number r k.child bears answer.Done)

      abbrev whole : Made
      whole = is.first ∷ is.second ∷ (is.joins ++ b ∷ [])

      gone : HasGone session k.before e.seen p.who number r was whole p.state
      gone = gone_by session k.before c.seen p.who number r was made p.state fine k.child bears born_at answer.Done [] e.seen on entry_born
          (ap (λ (ds : Held). record p.state { descriptors = ds }) (sym is.holds))

      over : ends_call was whole ≡ true
      over = ends_with was made b true refl

      pub forked : (total : ℕ) (old : ProcView) → old.who ≡ p.who → old.seen ≡ k.before → Answers session total old (proc_with p number e None) r (Ok moved.Done)
      forked total old its sees = (
        record {
          made = whole;
          call = subst (λ (w : ℕ). IsCallMade session w old.seen e.seen r whole) (sym its)
              (subst (λ (h : List Entry). IsCallMade session p.who h e.seen r whole) (sym sees) (call_made session k.before e.seen p.who number r was whole p.state gone over));
          reply = answer.Done;
          last = ap (λ (o : Option (ℕ × Entry)). option_map (λ s. s.1.reply) o) (at_end made b);
          fine = refl;
          tells = tt;
        },
        record { who = sym its; grows = subst (λ (h : List Entry). IsPrefix h e.seen) (sym sees) gone.is.begins; way = refl },
      )

      pub parent_on : length e.seen ≤ 2 ^ 32 → IsCallerOf session p number e
      parent_on few = record {
        of_who = ap (λ (c : CallerState). c.who) on_it ∙ is.of_who;
        own = ap (λ (c : CallerState). c.own) on_it ∙ is.own;
        idle = idle_again session k.before e.seen p.who number r was whole p.state gone over is.lives;
        few = few;
      }

      pub child_is : (child : ProcView) → child.who ≡ k.child → child.number ≡ 0 → made_by child.who child.seen ≡ [] → child.way ≡ None → child.seen ≡ e.seen → child.state ≡ record new_process { descriptors = k.descriptors }
          → IsChild (proc_with p number e None) child
      child_is child its no_call no_entry no_way sees holds = record {
        named = ap (λ (es : Made). pnode_at es 0) gone.is.made_is ∙ is.child ∙ sym its;
        seen = sees;
        number = no_call;
        none = no_entry;
        way = no_way;
        state = holds ∙ ap (λ (ds : Held). record new_process { descriptors = ds }) (sym is.holds);
      }
