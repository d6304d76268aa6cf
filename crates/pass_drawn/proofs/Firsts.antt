-- The first entry of a session, by which its first process begins.
use Rattle.std.proofs.Common.{◌≡◌, ◌<◌, ◌≤◌, ◌+◌, List, [], length, refl, ap, sym, ◌∙◌, arith, inl, inr, true, false}
use Rattle.std.specs.Prelude.{Some, slice_get}
use Rattle.pass_entry.specs.declared.entry.Entry.{Entry}
use Rattle.pass_entry.specs.declared.entry.Act.TheVariants as act
use Rattle.pass_entry.specs.declared.entry.CallFault.TheVariants as fault
use Rattle.pass_entry.specs.declared.entry.CallName.TheVariants as call_name
use Rattle.pass_entry.specs.declared.entry.Reply.TheVariants as answer
use Rattle.pass_entry.specs.declared.objects.Kind.TheVariants as kind
use Rattle.pass_plain.specs.Histories.{made_object}
use Rattle.pass_plain.specs.Sessions.{Session}
use Rattle.pass_plain.specs.Registries.{registry_after}
use Rattle.pass_plain.specs.Replies.{reply_to}
use Rattle.pass_plain.specs.Processes.{begins, has_begun}
use Rattle.pass_plain.specs.Legal.{IsLegal, MayFollow}
use Rattle.pass_plain.proofs.Lists.{some_is, is_place, any_of, alike}
use Rattle.pass_plain.proofs.Beginning.{start_mints}
use Rattle.pass_plain.proofs.Calling.{acts-cases}
use Rattle.pass_plain.proofs.OtherCalls.{start_named}
use Rattle.pass_replay.proofs.Births.{mints as first_minted}

-- it makes the first process
pub record IsFirstEntry (session : Session) (history : List Entry) : Type 0 where
  pub entry : Entry
  pub stands : slice_get history 0 ≡ Some entry
  pub number : entry.number ≡ 0
  pub start : entry.call ≡ call_name.Start
  pub mints : entry.act ≡ act.Mint kind.Process
  pub makes : made_object entry.act entry.reply ≡ Some (session.start.ceiling + 1)
  pub reply : entry.reply ≡ answer.Made (session.start.ceiling + 1)

pub first_entry : (session : Session) (history : List Entry) → 1 ≤ session.objects → IsLegal session history → 0 < length history → IsFirstEntry session history
first_entry session history some_object legal some =
    let (e, at) = is_place history 0 some in
    let follows : MayFollow session [] e = legal 0 e at in
    elim (acts-cases [] e follows.acts) [
      | inr acts ↦ absurd (let z : false ≡ true = acts.1 in cc)
      | inl start ↦
          let named = start_named e.call start.0 in
          let mints = start_mints session [] e follows named in
          let reply : e.reply ≡ answer.Made (session.start.ceiling + 1) =
          sym (some_is _ _ (ap (λ a. reply_to session [] e.what a) (sym mints) ∙ follows.replied)) ∙ first_minted session (registry_after session []) (omega (arith, some_object))
          ∙ ap (λ n. answer.Made n) (let z : session.start.ceiling + 0 + 1 ≡ session.start.ceiling + 1 = omega arith in z) in
          record {
            entry = e;
            stands = at;
            number = start.3;
            start = named;
            mints = mints;
            makes = ap (λ a. made_object a e.reply) mints ∙ ap (λ y. made_object (act.Mint kind.Process) y) reply;
            reply = reply;
          }
    ]

pub first_begins : (session : Session) (history : List Entry) → 1 ≤ session.objects → IsLegal session history → 0 < length history → has_begun history (session.start.ceiling + 1) ≡ true
first_begins session history some_object legal some =
    let f = first_entry session history some_object legal some in
    any_of (λ e. begins (session.start.ceiling + 1) e.call e.act e.what e.reply) history 0 f.entry f.stands
    (ap (λ c. begins (session.start.ceiling + 1) c f.entry.act f.entry.what f.entry.reply) f.start
    ∙ ap (λ y. begins (session.start.ceiling + 1) call_name.Start f.entry.act f.entry.what y) f.reply
    ∙ alike (session.start.ceiling + 1) (session.start.ceiling + 1) refl)
