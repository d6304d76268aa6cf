-- A desk that meets the vault.
use Rattle.std.proofs.Common.{◌≡◌, ◌≤◌, ℕ, Bool, cond, not, List, [], ◌∷◌, ◌++◌, Some, length, sym, ap, ◌∙◌, subst, le_trans}
use Rattle.atomic_table.specs.Table.{Me}
use Rattle.atomic_table.specs.Seated.{TableId}
use Rattle.pass_plain.specs.Sessions.{Session}
use Rattle.pass_plain.specs.Legal.{IsLegal}
use mathlib.Core.List.{IsPrefix}
use Rattle.pass_entry.specs.declared.entry.Entry.{Entry}
use Rattle.pass_book.specs.declared.view.Role.TheVariants.{Vault}
use Rattle.pass_book.specs.declared.view.Name.{Name}
use Rattle.pass_book.specs.declared.view.VaultSync.{VaultSync}
use Rattle.pass_book.specs.declared.view.View.{View}
use Rattle.pass_book.specs.declared.view.FileMark.{FileMark}
use Rattle.pass_book.specs.declared.view.Opened.{Opened}
use Rattle.pass_book.specs.Names.{name, Agrees, Listed, without}
use Rattle.pass_book.specs.Numbers.{IsFileNumber}
use Rattle.pass_book.specs.Syncs.{called, durable}
use Rattle.pass_book.specs.Views.{session_in, longer, noted, hearing, lending, met, IsMet, syncing}
use Rattle.pass_book.specs.Tokens.{HasMet, IsPast, IsVaultPast, IsVaultSeat}
use Rattle.pass_book.proofs.Prefixes.{prefix_self, prefix_trans, prefix_length}
use Rattle.pass_book.proofs.Backed.{durable_last, rising_more, numbered_longer, numbered_more}
use Rattle.pass_book.proofs.Badges.{longer_has, past_legal}
use Rattle.pass_book.proofs.Lookups.{same_self}
use Rattle.pass_book.proofs.Rules.{whole_list, longer_prefix}

-- a meeting doesn't change the vault's list
pub whole_again : (v w : View) → v.name ≡ name Vault 0 → IsMet v w → w.syncs ≡ v.syncs
whole_again v w is m = sym (whole_list v.name v.syncs w.syncs is m.complete)

-- a desk that was told of what the vault has seen, and then went to the vault, has met the vault
pub met_twice : (v d : View) → v.name ≡ name Vault 0 → IsMet (hearing d (noted v)) (met (hearing d (noted v))) → IsMet (lending v (met (hearing d (noted v)))) (met (lending v (met (hearing d (noted v)))))
    → HasMet d.name d.seen d.syncs v.seen v.syncs (met (lending v (met (hearing d (noted v))))).seen v.syncs
met_twice v d is first second =
    let e = met (hearing d (noted v)) in
    let w = met (lending v e) in
    let seen : w.seen ≡ e.seen = longer_prefix v.seen e.seen first.told in
    let list : w.syncs ≡ v.syncs = whole_again (lending v e) w is second in
    let within : IsPrefix e.syncs v.syncs = subst (IsPrefix e.syncs) list second.told_listed in
    let mine : IsPrefix d.syncs v.syncs = prefix_trans d.syncs e.syncs v.syncs first.listed within in
    let same : e.syncs ≡ v.syncs = longer_prefix d.syncs v.syncs mine in
    record {
      history = seen;
      list = sym same;
      begins = subst (IsPrefix d.seen) (sym seen) first.begins;
      told = subst (IsPrefix v.seen) (sym seen) first.told;
      listed = mine;
      told_listed = prefix_self v.syncs;
      agrees = subst (Agrees d.name d.seen) (sym seen) first.agrees;
      complete = subst (Listed d.name d.syncs) same first.complete;
    }

-- What the vault keeps

vault_grows : (session : Session) (xs ys : List Entry) (ss : List VaultSync) → IsVaultPast session xs ss → IsPrefix xs ys → IsLegal session ys → IsVaultPast session ys ss
unfolding IsPast
vault_grows session xs ys ss p pre legal = record {
  past = (p.past.0, legal, p.past.2);
  within = le_trans p.within (prefix_length xs ys pre);
  numbered = numbered_longer session xs ys ss pre p.numbered;
}

vault_lists : (session : Session) (xs : List Entry) (ss : List VaultSync) (y : VaultSync) → IsVaultPast session xs ss → called ss ≤ y.calls → durable ss ≤ y.entries → y.entries ≤ length xs
    → ((f : FileMark) → y.file ≡ Some f → IsFileNumber session xs f.pnode f.number) → IsVaultPast session xs (ss ++ y ∷ [])
unfolding IsPast
vault_lists session xs ss y p calls entries within marked = record {
  past = (p.past.0, p.past.1, rising_more ss y p.past.2 calls entries);
  within = subst (λ n. n ≤ length xs) (sym (durable_last ss y)) within;
  numbered = numbered_more session xs ss y p.numbered marked;
}

-- the vault's view after it has seen more
pub past_grown : (v x : View) → IsVaultPast (session_in v.opened) v.seen v.syncs → x.opened ≡ v.opened → IsPrefix v.seen x.seen → IsLegal (session_in v.opened) x.seen → x.syncs ≡ v.syncs
    → IsVaultPast (session_in x.opened) x.seen x.syncs
past_grown v x p opened pre legal list =
    let P : Opened → List VaultSync → Type 0 = λ o ss. IsVaultPast (session_in o) x.seen ss in
    subst (λ (o : Opened). P o x.syncs) (sym opened) (subst (P v.opened) (sym list) (vault_grows (session_in v.opened) v.seen x.seen v.syncs p pre legal))

-- and after it has noted a sync
pub past_noted : (v x : View) (y : VaultSync) → IsVaultPast (session_in v.opened) v.seen v.syncs → x ≡ syncing y v → called v.syncs ≤ y.calls → durable v.syncs ≤ y.entries → y.entries ≤ length v.seen
    → ((f : FileMark) → y.file ≡ Some f → IsFileNumber (session_in v.opened) v.seen f.pnode f.number) → IsVaultPast (session_in x.opened) x.seen x.syncs
past_noted v x y p is calls entries within marked =
    subst (λ (z : View). IsVaultPast (session_in z.opened) z.seen z.syncs) (sym is) (vault_lists (session_in v.opened) v.seen v.syncs y p calls entries within marked)

pub vault_now : (table seat next : TableId) (me new : Me ℕ View) → IsVaultSeat table seat me → next ≡ seat → new.0.name ≡ me.0.name → new.1 ≡ me.1 → new.0.told ≡ [] → new.0.told_syncs ≡ [] → new.0.away ≡ []
    → IsVaultPast (session_in new.0.opened) new.0.seen new.0.syncs → IsVaultSeat table next new
vault_now table seat next me new i same named slots told told_syncs away past = record {
  at = record { same = same ∙ i.at.same; words = i.at.words; named = named ∙ i.at.named };
  told = told;
  told_syncs = told_syncs;
  away = away;
  empty = slots ∙ i.empty;
  past = past;
}

pub without_self : (a : Name) → without a (a ∷ []) ≡ []
without_self a = ap (λ (t : Bool). cond (not t) (a ∷ []) []) (same_self a)

-- the longer of two legal histories is legal
pub legal_longer : (session : Session) (xs ys : List Entry) → IsLegal session xs → IsLegal session ys → IsLegal session (longer xs ys)
legal_longer session xs ys p q = longer_has (λ h. IsLegal session h) xs ys p q

-- the vault's view once it has a desk
pub past_taken : (v t d : View) → IsVaultPast (session_in v.opened) v.seen v.syncs → t.opened ≡ v.opened → t.syncs ≡ v.syncs → HasMet d.name d.seen d.syncs v.seen v.syncs t.seen t.syncs
    → IsLegal (session_in v.opened) d.seen → IsVaultPast (session_in t.opened) t.seen t.syncs
past_taken v t d p opened list met legal =
    let both = legal_longer (session_in v.opened) d.seen v.seen legal (past_legal (session_in v.opened) v.seen v.syncs p.past) in
    past_grown v t p opened met.told (subst (λ xs. IsLegal (session_in v.opened) xs) (sym met.history) both) list
