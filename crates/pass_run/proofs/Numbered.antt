-- The numbers that a history gives out.
use Rattle.std.proofs.Common.{◌≡◌, ◌<◌, ◌≤◌, ◌+◌, ℕ, Bool, true, false, cond, List, take, refl, ap, sym, ◌∙◌, arith, ◌||◌}
use Rattle.std.specs.Prelude.{Some, nat_le, slice_get}
use Rattle.std.specs.FinMap as finite_map
use Rattle.std.proofs.lemmas.Bool.Decides.{nat_tests}
use Rattle.pass_entry.specs.declared.entry.Act.{Act}
use Rattle.pass_entry.specs.declared.entry.Act.TheVariants as act
use Rattle.pass_entry.specs.declared.entry.CallFault.TheVariants as fault
use Rattle.pass_entry.specs.declared.entry.Entry.{Entry}
use Rattle.pass_entry.specs.declared.entry.Reply.TheVariants as answer
use Rattle.pass_entry.specs.declared.objects.Kind.{Kind}
use Rattle.pass_entry.specs.declared.objects.Kind.TheVariants as kind
use Rattle.pass_plain.specs.Histories.{made_object}
use Rattle.pass_plain.specs.Legal.{IsLegal}
use Rattle.pass_plain.specs.Registries.{Registry, registry_after, is_full, next_pnode}
use Rattle.pass_plain.specs.Replies.{minted, reply_to}
use Rattle.pass_plain.specs.Sessions.{Session}
use Rattle.pass_plain.proofs.Calling.{legal_take}
use Rattle.pass_plain.proofs.Lists.{some_is}
use Rattle.pass_plain.proofs.Making.{making, bound_if}

not_full : (session : Session) (r : Registry) (b : Bool) (n : ℕ) → cond b (answer.Fault fault.TooMany) (answer.Made (next_pnode session r)) ≡ answer.Made n → b ≡ false
not_full session r true n e = absurd (cc)
not_full session r false n e = refl

room_left : (objects made : ℕ) (other : Bool) → (nat_le objects made || other) ≡ false → made < objects
room_left objects made other none = by_test (nat_le objects made) refl none
  where
    by_test : (b : Bool) → nat_le objects made ≡ b → (b || other) ≡ false → made < objects
    by_test true is none = absurd (cc)
    by_test false is none = grind (arith, nat_tests, is)

minted_room : (session : Session) (r : Registry) (k : Kind) (n : ℕ) → minted session r k ≡ answer.Made n → r.made < session.objects
minted_room session r k n e = room_left session.objects r.made _ (not_full session r (is_full session r k) n e)

next_room : (session : Session) (history : List Entry) (what n : ℕ) (a : Act) → reply_to session history what a ≡ Some (answer.Made n) → made_object a (answer.Made n) ≡ Some n
    → (registry_after session history).made < session.objects
next_room session history what n (act.Bind name) e h =
    minted_room session (registry_after session history) kind.File n
    (bound_if (finite_map.contains_key (registry_after session history).names name) (minted session (registry_after session history) kind.File) n (some_is _ _ e))
next_room session history what n (act.Mint k) e h = minted_room session (registry_after session history) k n (some_is _ _ e)
next_room session history what n _ e h = absurd (cc)

-- they lie above the opening's ceiling, and as far as the session may make objects
pub numbered : (session : Session) (history : List Entry) → IsLegal session history → (i n : ℕ) (e : Entry) → slice_get history i ≡ Some e → made_object e.act e.reply ≡ Some n
    → (session.start.ceiling < n) × (n ≤ session.start.ceiling + session.objects)
numbered session history legal i n e at makes =
    let next = legal i e at in
    let by = making session (take i history) e n (legal_take session history i legal) next makes in
    let room = next_room session (take i history) e.what n e.act (next.replied ∙ ap (λ y. Some y) by.given) (ap (λ y. made_object e.act y) (sym by.given) ∙ makes) in
    (omega (arith, by.is_next), omega (arith, by.is_next, room))
