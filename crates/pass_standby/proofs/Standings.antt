-- What is known of a standby.
use Rattle.std.proofs.Common.{◌≡◌, ◌⊎◌, List, [], ℕ, IsTrue, ⊎_elim, sym, subst}
use Rattle.pass_log.specs.Log.{log_end}
use Rattle.pass_outside.specs.Moments.{Moment, Adds}
use Rattle.pass_standby.specs.declared.following.Following.{Following}
use Rattle.pass_standby.specs.declared.standby.Fate.{Fate}
use Rattle.pass_standby.specs.declared.standby.Fate.TheVariants as fates
use Rattle.pass_standby.specs.Streams.{IsBegun, HasSomeFrames}
use Rattle.pass_standby.specs.Standing.{Standing, told_of, told_so_far, seen_as, log_to, Leaves, IsFollowing, IsStanding}
use Rattle.pass_standby.proofs.Feeding.{begun_none}

-- one that begins
pub standing_begun : {D : Type 0} (view : D → Moment) (f : Following D) → IsFollowing view f → f.begun.items ≡ [] → IsStanding view f fates.Going
standing_begun view f kept none = record {
  following = λ _. (kept, subst (IsBegun (log_end f.log)) (sym none) (begun_none (log_end f.log)));
  leaves = λ bad. absurd (cc bad);
}

-- what each crash leaves of it
pub standing_leaves : {D : Type 0} (view : D → Moment) (f : Following D) (fate : Fate) (s : Standing D) → seen_as f fate ≡ s → IsStanding view f fate → (s.fate ≡ fates.Going) ⊎ (s.fate ≡ fates.Bad)
    → Leaves (view f.disk) s.list s.at
standing_leaves {D} view f fate s is standing which =
    subst (λ (x : Standing D). (x.fate ≡ fates.Going) ⊎ (x.fate ≡ fates.Bad) → Leaves (view f.disk) x.list x.at) is
    (λ either. ⊎_elim (λ going. (standing.following going).0.leaves) (λ bad. standing.leaves bad) either) which

-- the moments of what it is made of are its own
pub standing_moments : {D : Type 0} (view : D → Moment) (f : Following D) (fate : Fate) (s : Standing D) (new : D) (piece : List ℕ) → seen_as f fate ≡ s
    → (IsTrue (view f.disk).tells → Adds (view f.disk) (view new) (λ c. HasSomeFrames (log_to (view f.disk) (log_end f.log)) (told_so_far f) piece c.log))
    → IsTrue (view s.disk).tells → Adds (view s.disk) (view new) (λ c. HasSomeFrames (log_to (view s.disk) s.at) (told_of s) piece c.log)
standing_moments {D} view f fate s new piece is any =
    subst (λ (x : Standing D). IsTrue (view x.disk).tells → Adds (view x.disk) (view new) (λ c. HasSomeFrames (log_to (view x.disk) x.at) (told_of x) piece c.log)) is any
