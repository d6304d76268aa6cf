-- A refusal is a fault of the caller's own state. And why an entry of a call has to carry its call's name.
use Rattle.std.proofs.Common.{◌≡◌, ◌+◌, ℕ, [], ◌∷◌, ◌++◌, length, take, map, refl, ap, sym, ◌∙◌, subst, true, ◌&&◌}
use Rattle.std.specs.Prelude.{Some, None}
use Rattle.std.specs.Option.{option_map_or}
use Rattle.std.proofs.lemmas.List.{nil_from_length}
use Rattle.pass_entry.specs.declared.entry.Entry.{Entry}
use Rattle.pass_entry.specs.declared.entry.Act.TheVariants as act
use Rattle.pass_entry.specs.declared.entry.CallName.{CallName}
use Rattle.pass_entry.specs.declared.entry.CallName.TheVariants as call
use Rattle.pass_entry.specs.declared.entry.Reply.TheVariants as answer
use Rattle.pass_plain.specs.Histories.{call_entries}
use Rattle.pass_plain.specs.Processes.{Process, process_after, refusal}
use Rattle.pass_plain.specs.Replies.{reply_to}
use Rattle.pass_plain.specs.Calls.{Made, Step, act_on, name_of, is_within, is_fd, call_steps, steps_of, refused_ask, descriptor_at}
use Rattle.pass_plain.specs.declared.request.Request.{Request}
use Rattle.pass_plain.specs.declared.request.Request.TheVariants as requests
use Rattle.pass_plain.specs.Legal.{before_call, step_of}
use Rattle.pass_plain.specs.Lawful.{DenyLaw}
use Rattle.pass_plain.proofs.Lists.{some_is}
use Rattle.pass_plain.proofs.Rows.{Row}
use Rattle.pass_plain.proofs.Calling.{row, steps_by}
use Rattle.pass_plain.proofs.Playing.{before_new}

pub deny_law : DenyLaw
deny_law session history e a legal next is =
    let made = call_entries history e.who e.number in
    let r = subst (λ a. Row e.who (before_call history e.who e.number) made (steps_by session history e legal next) (length made) e.what a) is (row session history e legal next) in
    let now : process_after history e.who ≡ before_call history e.who e.number = sym (before_new history e.who e.number (nil_from_length made r.1)) in
    let why : refusal (process_after history e.who) a ≡ Some r.2 = ap (λ (p : Process). refusal p a) now ∙ r.3 in
    let reply : Some (option_map_or (λ f. answer.Fault f) (refusal (process_after history e.what) a) answer.Done) ≡ Some e.reply =
    ap (λ a. reply_to session history e.what a) (sym is) ∙ next.replied in (
      r.2,
      why,
      sym (some_is _ _ reply) ∙ ap (λ w. option_map_or (λ f. answer.Fault f) (refusal (process_after history w) a) answer.Done) r.0
          ∙ ap (λ o. option_map_or (λ f. answer.Fault f) o answer.Done) why,
    )

-- the next step as it was first drafted, which asks nothing of the names in the entries before
record LooseStep (who : ℕ) (p : Process) (made : Made) (name : CallName) (next : Step) : Type 0 where
  request : Request
  named : name_of request ≡ name
  within : is_within request ≡ true
  steps : take (length made + 1) (call_steps who p made request) ≡ map step_of made ++ next ∷ []

-- it let a write of no bytes go on as a truncate
loose_mixes : (who : ℕ) (p : Process) (fd size place number : ℕ) → is_fd fd ≡ true → refused_ask p (requests.Write fd []) ≡ None → refused_ask p (requests.Truncate fd size) ≡ None
    → LooseStep who p [] call.Write (act_on who (act.Show fd 0))
    × LooseStep who p ((place, record { who = who; number = number; call = call.Write; what = who; act = act.Show fd 0; reply = answer.Done }) ∷ []) call.Truncate
    (act_on (descriptor_at p fd).pnode (act.Cut place size))
loose_mixes who p fd size place number within first second =
    let shown : ℕ × Entry = (place, record { who = who; number = number; call = call.Write; what = who; act = act.Show fd 0; reply = answer.Done }) in (
      record {
        request = requests.Write fd [];
        named = refl;
        within = ap (λ b. b && true) within;
        steps = ap (λ o. take 1 (option_map_or (λ a. act_on who (act.Deny a) ∷ []) o (steps_of who p [] (requests.Write fd [])))) first;
      },
      record {
        request = requests.Truncate fd size;
        named = refl;
        within = within;
        steps = ap (λ o. take 2 (option_map_or (λ a. act_on who (act.Deny a) ∷ []) o (steps_of who p (shown ∷ []) (requests.Truncate fd size)))) second;
      },
    )
