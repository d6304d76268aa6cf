-- What a staging leaves of a vault.
use Rattle.std.proofs.Common.{◌≡◌, ◌∙◌, ℕ, List, sym, ap}
use Rattle.pass_vault.specs.Vaulted.{Vaulted}
use Rattle.pass_safe.specs.Commits.{left_by_staging, staged_to, unstaged_to}

pub staged_left : {D : Type 0} (v w : Vaulted D) (what number calls entries : ℕ) (blocks : List (ℕ × List ℕ)) → w ≡ staged_to v w what number calls entries blocks → w ≡ left_by_staging v w
staged_left v w what number calls entries blocks is =
    let seen = ap (λ (v : Vaulted _). v.seen) is in
    let place = ap (λ (v : Vaulted _). v.place) is in
    let pool = ap (λ (v : Vaulted _). v.pool) is in
    let syncs = ap (λ (v : Vaulted _). v.syncs) is in
    is ∙ (λ i. record v { seen = sym seen i; disk = w.disk; place = sym place i; pool = sym pool i; unsynced = w.unsynced; syncs = sym syncs i })

pub unstaged_left : {D : Type 0} (v w : Vaulted D) → w ≡ unstaged_to v w → w ≡ left_by_staging v w
unstaged_left v w is =
    let seen = ap (λ (v : Vaulted _). v.seen) is in
    let place = ap (λ (v : Vaulted _). v.place) is in
    let syncs = ap (λ (v : Vaulted _). v.syncs) is in
    is ∙ (λ i. record v { seen = sym seen i; disk = w.disk; place = sym place i; pool = w.pool; unsynced = w.unsynced; syncs = sym syncs i })
