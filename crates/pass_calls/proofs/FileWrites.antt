-- The steps of a write to a file.
use Rattle.std.proofs.Common.{◌≡◌, ℕ, ◌+◌, ◌-◌, ◌<◌, ◌≤◌, List, [], ◌∷◌, length, refl, ap, sym, ◌∙◌, arith, true}
use Rattle.std.specs.Prelude.{None, Some, slice_get, nat_le, if◌then◌else◌}
use Rattle.std.specs.Option.{option_map_or}
use Rattle.std.specs.FinMap as finite_map
use Rattle.std.proofs.lemmas.Bool.Decides.{nat_tests}
use Rattle.pass_entry.specs.Limits.{transfer_limit}
use Rattle.pass_entry.specs.declared.entry.Act.TheVariants as act
use Rattle.pass_entry.specs.declared.entry.Ask.TheVariants as ask
use Rattle.pass_entry.specs.declared.entry.Entry.{Entry}
use Rattle.pass_entry.specs.declared.entry.Reply.TheVariants as answer
use Rattle.pass_entry.specs.declared.objects.Descriptor.{Descriptor}
use Rattle.pass_entry.specs.declared.objects.Node.{Node}
use Rattle.pass_plain.specs.declared.request.Request.{Request}
use Rattle.pass_plain.specs.declared.request.Request.TheVariants as requests
use Rattle.pass_plain.specs.Calls.{is_fd, is_within, no_descriptor, refused_ask, steps_of}
use Rattle.pass_plain.specs.Processes.{Process, is_file, refusal}
use Rattle.pass_plain.specs.Sessions.{Session}
use Rattle.pass_plain.specs.Versions.{nodes_of}
use Rattle.pass_plain.proofs.Lists.{both_true}
use Rattle.pass_hold.specs.Callings.{IsEntered, IsIdle}
use Rattle.pass_hold.specs.Entering.{MayEnter}
use Rattle.pass_hold.proofs.Callings.{entry_of}
use Rattle.pass_proc.proofs.Steps.{low_fd}
use Rattle.pass_answer.specs.Answers.{HasMoved}
use Rattle.pass_answer.specs.declared.answer.Moved.TheVariants as moved
use Rattle.pass_answer.proofs.Steps.{not_refused}
use Rattle.pass_calls.proofs.Shown.{both_idle, both_made, node_at, show_may, shown, take_may}

module _ (session : Session) (seen : List Entry) (who number : ℕ) (p : Process) (fd : ℕ) (bytes : List ℕ) (idle : IsIdle session seen who (number - 1) p) (some : 0 < number)
    (free : refusal p (ask.ToWrite fd (length bytes)) ≡ None) (low : fd < 64) (few : length bytes ≤ transfer_limit) where
  abbrev r : Request
  r = requests.Write fd bytes

  fine : refused_ask p r ≡ None
  fine = not_refused p r (ask.ToWrite fd (length bytes)) refl free

  within : is_within r ≡ true
  within = let a : nat_le (length bytes) transfer_limit ≡ true = grind (arith, nat_tests) in both_true (is_fd fd) (nat_le (length bytes) transfer_limit) (low_fd fd low) a

  abbrev e : Entry
  e = entry_of who number r who (act.Show fd (length bytes)) answer.Done

  pub first_may : MayEnter seen e 2
  first_may = show_may session seen who number r p idle some fine refl within refl fd (length bytes) refl refl

  module _ (d : Descriptor) (held : finite_map.get p.descriptors fd ≡ Some d) (file : is_file d ≡ true) (what : ℕ) (object : what ≡ d.pnode)
      (desk after : List Entry) (out : ℕ) (at : out + 1 ≡ length after) (entered : IsEntered session seen desk after e) where
    takes : slice_get (steps_of who p ((out, e) ∷ []) r) 1 ≡ Some (what, act.Put out d.offset bytes)
    takes =
        ap (λ o. let d = option_map_or (λ d. d) o no_descriptor in Some (d.pnode, if is_file d then act.Put out d.offset bytes else act.Push out bytes)) held
        ∙ ap (λ b. Some (d.pnode, if b then act.Put out d.offset bytes else act.Push out bytes)) file
        ∙ ap (λ n. Some (n, act.Put out d.offset bytes)) (sym object)

    abbrev f : Entry
    f = entry_of who number r what (act.Put out d.offset bytes) answer.Done

    pub put_may : MayEnter after f 0
    put_may = take_may session seen who number r p idle some fine refl within refl fd (length bytes) refl refl desk after out at entered what (act.Put out d.offset bytes) takes refl

    module _ (own later : List Entry) (put : IsEntered session after own later f) where
      pub put_made : (to : Node) → slice_get (nodes_of session later) (length later - 1) ≡ Some to → HasMoved session who seen later (shown p fd (length bytes)) r (moved.Wrote (length bytes) to)
      put_made to node = record {
        made = _;
        call = both_made session seen who number r p idle some fine refl within refl fd (length bytes) refl refl desk after out at entered what (act.Put out d.offset bytes) takes refl own later put refl;
        reply = answer.Done;
        last = refl;
        fine = refl;
        tells = (
          refl,
          node_at session seen who number r p idle some fine refl within refl fd (length bytes) refl refl desk after out at entered what (act.Put out d.offset bytes) takes refl own later put refl to node,
        );
      }

      pub put_idle : IsIdle session later who number (shown p fd (length bytes))
      put_idle = both_idle session seen who number r p idle some fine refl within refl fd (length bytes) refl refl desk after out at entered what (act.Put out d.offset bytes) takes refl own later put refl
