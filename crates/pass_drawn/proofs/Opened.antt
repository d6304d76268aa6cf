-- Each process of a drawn trace that holds the shared file holds it until it ends.
use Rattle.std.proofs.Common.{◌≡◌, ℕ, List, [], ◌∷◌, ◌++◌, length, refl, ap, sym, ◌∙◌, subst, ◌⊎◌, inl, inr, Bool, true, false, not, ◌&&◌, ◌==◌, cond}
use Rattle.std.specs.Prelude.{Option, Some, None, slice_get}
use Rattle.std.specs.Option.{option_map_or}
use Rattle.std.specs.FinMap as finite_map
use Rattle.std.specs.Ordering.{nat_cmp, eq_by_cmp}
use Rattle.std.specs.Cmp.{nat_cmp_total, unsigned_tied}
use Rattle.pass_entry.specs.declared.entry.Entry.{Entry}
use Rattle.pass_entry.specs.declared.entry.Act.{Act}
use Rattle.pass_entry.specs.declared.entry.Act.TheVariants as act
use Rattle.pass_entry.specs.declared.objects.Descriptor.{Descriptor}
use Rattle.pass_plain.specs.Histories.{is_fault, bytes_at}
use Rattle.pass_plain.specs.Sessions.{Session}
use Rattle.pass_plain.specs.Processes.{Process, Held, process_act, process_after, has_begun, has_ended, changed_at, risen}
use Rattle.pass_plain.specs.Legal.{IsLegal, MayFollow}
use Rattle.pass_plain.proofs.Lists.{some_is, both_true, same_itself, same_numbers, true_left}
use Rattle.pass_plain.proofs.Appends.{place_of}
use Rattle.pass_plain.proofs.Bounds.{begin_law}
use Rattle.pass_plain.proofs.Holding.{inserted}
use Rattle.pass_plain.proofs.TwoPrefixes.{process-append}
use Rattle.pass_drawn.proofs.Acts.{IsShared, IsTame}
use Rattle.pass_drawn.proofs.Moves.{ended_more}

-- the shared file at descriptor 3
abbrev pub HasShared : Held → Type 0
HasShared held = (d : Descriptor) × (finite_map.get held 3 ≡ Some d) × IsShared d

-- acts by which a process comes to hold it
abbrev pub Opens : Act → Type 0
Opens (act.Attach fd d) = (fd ≡ 3) × IsShared d
Opens (act.Born out descriptors) = HasShared descriptors
Opens _ = ⊥

-- they keep it

shared_inserted : (held : Held) (fd : ℕ) (v : Descriptor) → (fd ≡ 3 → IsShared v) → HasShared held → HasShared (finite_map.insert held fd v)
shared_inserted held fd v fine has = at_key (eq_by_cmp nat_cmp 3 fd) refl (finite_map.get-insert nat_cmp_total held fd v 3)
  where
    at_key : (b : Bool) → eq_by_cmp nat_cmp 3 fd ≡ b → finite_map.get (finite_map.insert held fd v) 3 ≡ cond b (Some v) (finite_map.get held 3) → HasShared (finite_map.insert held fd v)
    at_key true t is = elim (inserted held fd 3 v v is) [
      | inl here ↦ (v, is, fine (sym here.0))
      | inr old ↦ (v, is, subst IsShared (some_is has.0 v (sym has.1 ∙ old)) has.2)
    ]
    at_key false t is = (has.0, is ∙ has.1, has.2)

shared_changed : (held : Held) (fd : ℕ) (change : Descriptor → Descriptor) → ((d : Descriptor) → IsShared d → IsShared (change d)) → HasShared held → HasShared (changed_at held fd change)
shared_changed held fd change keeps has = at_held (finite_map.get held fd) refl
  where
    at_held : (o : Option Descriptor) → finite_map.get held fd ≡ o → HasShared (option_map_or (λ d. finite_map.insert held fd (change d)) o held)
    at_held None t = has
    at_held (Some d) t = shared_inserted held fd (change d) (λ here. keeps d (subst IsShared (some_is has.0 d (sym has.1 ∙ ap (λ n. finite_map.get held n) (sym here) ∙ t)) has.2)) has

-- an act leaves it, ends the process, or begins one
kept : (past : List Entry) (p : Process) (a : Act) → IsTame a → HasShared p.descriptors
    → ((process_act past p a).ended ≡ true) ⊎ (HasShared (process_act past p a).descriptors ⊎ ((out : ℕ) × (descriptors : Held) × (a ≡ act.Born out descriptors)))
kept past p (act.Attach fd d) tame has = inr (inl (shared_inserted p.descriptors fd d (λ here. tame.1) has))
kept past p (act.AttachPipe reader writer pnode) tame has = absurd tame
kept past p (act.Detach fd) tame has = absurd tame
kept past p (act.Seek fd at) tame has = inr (inl (shared_changed p.descriptors fd (λ d. record d { offset = at }) (λ d is. is) has))
kept past p (act.Show fd len) tame has = inr (inl (shared_changed p.descriptors fd (risen len) (λ d is. is) has))
kept past p (act.Born out descriptors) tame has = inr (inr (out, descriptors, refl))
kept past p (act.Gain out fd) tame has = inr (inl (shared_changed p.descriptors fd (risen (length (bytes_at past out))) (λ d is. is) has))
kept past p act.Finish tame has = inl refl
kept past p _ tame has = inr (inl has)

opened : (past : List Entry) (p : Process) (a : Act) → Opens a → HasShared (process_act past p a).descriptors
opened past p (act.Attach fd d) opens = (
  d,
  finite_map.get-insert nat_cmp_total p.descriptors fd d 3 ∙ ap (λ n. cond (eq_by_cmp nat_cmp 3 n) (Some d) (finite_map.get p.descriptors 3)) opens.0
      ∙ ap (λ b. cond b (Some d) (finite_map.get p.descriptors 3)) (unsigned_tied 3 3),
  opens.1,
)
opened past p (act.Born out descriptors) opens = opens
opened past p _ opens = absurd opens

-- who has come to hold it, holds it or has ended
abbrev pub Keeps : List Entry → Type 0
Keeps h = (i : ℕ) (f : Entry) (who : ℕ) → slice_get h i ≡ Some f → f.what ≡ who → Opens f.act → is_fault f.reply ≡ false → has_begun h who ≡ true
    → (has_ended h who ≡ true) ⊎ HasShared (process_after h who).descriptors

-- that goes on with each entry by such an act
pub keeps_next : (session : Session) (h : List Entry) (e : Entry) → IsLegal session h → MayFollow session h e → IsTame e.act
    → ((i : ℕ) (f : Entry) → slice_get h i ≡ Some f → Opens f.act → has_begun h f.what ≡ true) → Keeps h → Keeps (h ++ e ∷ [])
keeps_next session h e legal next tame begun keeps i f who at on opens done has = elim (place_of h e i f at) [
  | inr r ↦
      let same : e ≡ f = r.1 in
      let own : (e.what == who && not (is_fault e.reply)) ≡ true = (λ j. (same j).what == who && not (is_fault (same j).reply)) ∙ ap (λ b. f.what == who && not b) done ∙ ap (λ w. w == who && true) on ∙ yes_itself in
      inr (subst (λ (p : Process). HasShared p.descriptors) (sym (process-append h e who ∙ ap (λ b. cond b (process_act h (process_after h who) e.act) (process_after h who)) own))
      (opened h (process_after h who) e.act (subst Opens (ap (λ (e : Entry). e.act) (sym same)) opens)))
  | inl l ↦
      let was : has_begun h who ≡ true = ap (λ w. has_begun h w) (sym on) ∙ begun i f l.0 opens in
      elim (keeps i f who l.0 on opens done was) [
        | inl ended ↦ inl (ended_more h e who ended)
        | inr shared ↦ later was shared (e.what == who && not (is_fault e.reply)) refl
      ]
]
  where
    yes_itself : (who == who && true) ≡ true
    yes_itself = both_true (who == who) true (same_itself who) refl

    later : has_begun h who ≡ true → HasShared (process_after h who).descriptors → (b : Bool) → (e.what == who && not (is_fault e.reply)) ≡ b
        → (has_ended (h ++ e ∷ []) who ≡ true) ⊎ HasShared (process_after (h ++ e ∷ []) who).descriptors
    later was shared false t =
        inr (subst (λ (p : Process). HasShared p.descriptors) (sym (process-append h e who ∙ ap (λ b. cond b (process_act h (process_after h who) e.act) (process_after h who)) t)) shared)
    later was shared true t =
        let now_is = process-append h e who ∙ ap (λ b. cond b (process_act h (process_after h who) e.act) (process_after h who)) t in
        elim (kept h (process_after h who) e.act tame shared) [
          | inl ended ↦ inl (ap (λ (p : Process). p.ended) now_is ∙ ended)
          | inr r ↦ elim r [
            | inl still ↦ inr (subst (λ (p : Process). HasShared p.descriptors) (sym now_is) still)
            | inr born ↦
                let on : e.what ≡ who = same_numbers e.what who (true_left (e.what == who) (not (is_fault e.reply)) t) in
                absurd (begin_law session h e born.0 born.1 legal next born.2 (ap (λ w. has_begun h w) on ∙ was))
          ]
        ]
