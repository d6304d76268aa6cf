-- A process that no entry ends has not ended.
use Rattle.std.proofs.Common.{◌≡◌, ◌==◌, ◌&&◌, ℕ, Bool, true, false, true≢false, cond, not, List, [], ◌∷◌, ◌++◌, refl, sym, ap, ◌∙◌}
use Rattle.std.specs.Prelude.{filter}
use Rattle.pass_entry.specs.declared.entry.Entry.{Entry}
use Rattle.pass_entry.specs.declared.entry.Act.{Act}
use Rattle.pass_entry.specs.declared.entry.Act.TheVariants as act
use Rattle.pass_plain.specs.Histories.{replay, own_step, is_fault}
use Rattle.pass_plain.specs.Processes.{Process, process_act, has_ended, new_process}
use Rattle.pass_book.specs.Names.{is_finish, NoneEnds}

-- no other act ends it
act_leaves : (past : List Entry) (p : Process) (a : Act) → is_finish a ≡ false → (process_act past p a).ended ≡ p.ended
act_leaves past p act.Finish is = absurd (true≢false is)
act_leaves past p _ is = refl

step_leaves : (past : List Entry) (p : Process) (e : Entry) (n : ℕ) (own ends : Bool) → (e.what == n) ≡ own → is_finish e.act ≡ ends → (ends && own) ≡ false
    → (own_step (λ past p e. process_act past p e.act) n past p e).ended ≡ p.ended
step_leaves past p e n true true here is apart = absurd (true≢false apart)
step_leaves past p e n true false here is apart = done (is_fault e.reply) ∙ refl
  where
    done : (b : Bool) → (cond ((e.what == n) && not b) (process_act past p e.act) p).ended ≡ p.ended
    done true = ap (λ own. (cond (own && not true) (process_act past p e.act) p).ended) here
    done false = ap (λ own. (cond (own && not false) (process_act past p e.act) p).ended) here ∙ act_leaves past p e.act is
step_leaves past p e n false ends here is apart = ap (λ own. (cond (own && not (is_fault e.reply)) (process_act past p e.act) p).ended) here

replay_leaves : (past : List Entry) (p : Process) (h : List Entry) (n : ℕ) → NoneEnds n h → (replay (own_step (λ past p e. process_act past p e.act) n) past p h).ended ≡ p.ended
replay_leaves past p [] n none = refl
replay_leaves past p (e ∷ h) n none =
    by_test (is_finish e.act && (e.what == n)) refl (λ rest. replay_leaves (past ++ e ∷ []) (own_step (λ past p e. process_act past p e.act) n past p e) h n rest)
  where
    by_test : (b : Bool) → (is_finish e.act && (e.what == n)) ≡ b
        → (NoneEnds n h → (replay (own_step (λ past p e. process_act past p e.act) n) (past ++ e ∷ []) (own_step (λ past p e. process_act past p e.act) n past p e) h).ended ≡ (own_step (λ past p e. process_act past p e.act) n past p e).ended)
        → (replay (own_step (λ past p e. process_act past p e.act) n) (past ++ e ∷ []) (own_step (λ past p e. process_act past p e.act) n past p e) h).ended ≡ p.ended
    by_test true is rest = absurd (let z : e ∷ filter (λ e. is_finish e.act && (e.what == n)) h ≡ [] = sym (ap (λ b. cond b (e ∷ filter (λ e. is_finish e.act && (e.what == n)) h) (filter (λ e. is_finish e.act && (e.what == n)) h)) is) ∙ none in cc)
    by_test false is rest =
        rest (sym (ap (λ b. cond b (e ∷ filter (λ e. is_finish e.act && (e.what == n)) h) (filter (λ e. is_finish e.act && (e.what == n)) h)) is) ∙ none)
        ∙ step_leaves past p e n (e.what == n) (is_finish e.act) refl refl is

pub lives : (h : List Entry) (n : ℕ) → NoneEnds n h → has_ended h n ≡ false
lives h n none = replay_leaves [] new_process h n none
