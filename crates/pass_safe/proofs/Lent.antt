-- A file whose desk goes to the vault and comes back.
use Rattle.std.proofs.Common.{◌≡◌, ◌∙◌, ℕ, suc, ◌<◌, ◌≤◌, true, List, [], ◌∷◌, ◌++◌, length, refl, sym, ap, subst, arith, length-append}
use Rattle.std.specs.Prelude.{Some, None, Result, Ok, Err, OnOk, OnErr, slice_get}
use Rattle.std.specs.List.{All}
use Rattle.std.proofs.lemmas.List.Elements.{All-head, All-tail, filter-append}
use mathlib.Core.List.{IsPrefix}
use Rattle.pass_entry.specs.declared.entry.Entry.{Entry}
use Rattle.pass_entry.proofs.Places.{slice_get-last}
use Rattle.pass_plain.specs.Lawful.{AgreeOn}
use Rattle.pass_plain.specs.Sound.{IsSound}
use Rattle.pass_book.specs.Names.{name}
use Rattle.pass_book.specs.Syncs.{called, durable}
use Rattle.pass_book.proofs.Backed.{durable_last}
use Rattle.pass_book.specs.Tokens.{BookId, DeskState, HasMet, NoteState}
use Rattle.pass_book.specs.Views.{longer}
use Rattle.pass_book.specs.declared.view.Role.TheVariants as role
use Rattle.pass_book.specs.declared.view.VaultSync.{VaultSync}
use Rattle.pass_book.proofs.Prefixes.{prefix_self}
use Rattle.pass_vault.specs.Vaulted.{Vaulted, file_synced, flushed, is_real, real_syncs}
use Rattle.pass_vault.proofs.Reals.{filter_push, real_from, real_unstaged}
use Rattle.pass_vault.proofs.Keeping.{longer_self}
use Rattle.pass_vault.specs.declared.vault.Receipt.{Receipt}
use Rattle.pass_vault.proofs.Holding.{called_last}
use Rattle.pass_file.specs.Desks.{FileDeskView}
use Rattle.pass_safe.specs.Commits.{flushed_to, saved_to}
use Rattle.pass_safe.specs.Syncings.{HasReceipt, IsFileSaved, IsSaved}
use Rattle.pass_answer.specs.Syncs.{HasSynced}

-- both had seen one history
pub seen_back : (file vault : List Entry) (d : DeskState) (syncs new_syncs : List VaultSync) (seen : List Entry) → file ≡ vault → d.seen ≡ file → HasMet (name role.Desk d.what) d.seen d.syncs vault syncs seen new_syncs → seen ≡ file
seen_back file vault d syncs new_syncs seen same mine met = met.history ∙ (λ i. longer (mine i) (sym same i)) ∙ longer_self file

-- who has seen the same has seen a beginning, with all that is of the object
pub begins_back : (what : ℕ) (xs ys : List Entry) → ys ≡ xs → IsPrefix xs ys × AgreeOn what xs ys
begins_back what xs ys same = subst (λ (h : List Entry). IsPrefix xs h × AgreeOn what xs h) (sym same) (prefix_self xs, refl)

-- who has met somebody's note
pub met_back : (f : FileDeskView) (d : DeskState) (others : List Entry) (other_syncs : List VaultSync) (seen : List Entry) (syncs : List VaultSync) → f.what ≡ d.what → f.seen ≡ d.seen
    → HasMet (name role.Desk d.what) d.seen d.syncs others other_syncs seen syncs → IsPrefix f.seen seen × AgreeOn f.what f.seen seen
met_back f d others other_syncs seen syncs what same met =
    subst (λ (h : List Entry). IsPrefix h seen × AgreeOn f.what h seen) (sym same) (subst (λ (o : ℕ). IsPrefix d.seen seen × AgreeOn o d.seen seen) (sym what) (met.begins, met.agrees))

-- What a sync of a file's data has come to

module _ {D : Type 0} (book : BookId) (v w : Vaulted D) (file : FileDeskView) (r : Receipt) (told : NoteState)
    (done : w ≡ saved_to v w file.what file.number r) (seen : file.seen ≡ v.seen) (all : r.entries ≡ length file.seen)
    (note : told ≡ record { book = book; seen = w.seen; syncs = w.syncs }) where
  abbrev last : VaultSync
  last = file_synced file.what file.number r.calls r.entries

  there : slice_get told.syncs (length v.syncs) ≡ Some last
  there = ap (λ (ss : List VaultSync). slice_get ss (length v.syncs)) (ap (λ (n : NoteState). n.syncs) note ∙ ap (λ (v : Vaulted D). v.syncs) done) ∙ slice_get-last v.syncs last

  told_seen : told.seen ≡ file.seen
  told_seen = ap (λ (n : NoteState). n.seen) note ∙ ap (λ (v : Vaulted D). v.seen) done ∙ sym seen

  pub saved_of : IsSound book.session → IsSaved book file.seen (record { receipt = r; told = told })
  saved_of sound = record {
    sound = sound;
    of_book = ap (λ (n : NoteState). n.book) note;
    begins = subst (λ (h : List Entry). IsPrefix file.seen h) (sym told_seen) (prefix_self file.seen);
    within = let same = ap length told_seen in omega (arith, same, all);
    synced = record { i = length v.syncs; s = last; is = there; whole = refl; called = refl; has = refl };
  }

  pub file_saved_of : IsFileSaved file.what file.number (record { receipt = r; told = told })
  file_saved_of = record { i = length v.syncs; sync = last; is = there; mark = refl; whole = refl; called = refl; has = refl }

-- What a flush has come to

-- a sync that is no staging is one more of those
real_push : (ss : List VaultSync) (s : VaultSync) → is_real s ≡ true → real_syncs (ss ++ s ∷ []) ≡ real_syncs ss ++ s ∷ []
real_push ss s is = filter_push is_real ss s is

some_synced : (ss us : List VaultSync) (s : VaultSync) → us ≡ ss ++ s ∷ [] → 0 < length us
some_synced ss us s is = let longer = ap length is ∙ length-append ss (s ∷ []) in omega (arith, longer)

pub some_flushed : {D : Type 0} (v w : Vaulted D) (seen : List Entry) (calls : ℕ) → w ≡ flushed_to v w seen calls → 0 < length (real_syncs w.syncs)
some_flushed v w seen calls done =
    some_synced (real_syncs v.syncs) (real_syncs w.syncs) (flushed calls (length seen)) (ap (λ (v : Vaulted _). real_syncs v.syncs) done ∙ real_push v.syncs (flushed calls (length seen)) refl)

-- a list with syncs has some that are no stagings
pub some_real : (ss us : List VaultSync) → IsPrefix ss us → 0 < length (real_syncs ss) → 0 < length (real_syncs us)
some_real ss us more some =
    subst (λ (l : List VaultSync). 0 < length (real_syncs l)) more.1
    (let longer = ap length (filter-append is_real ss more.0) ∙ length-append (real_syncs ss) (real_syncs more.0) in omega (arith, some, longer))

module _ {D : Type 0} (v w : Vaulted D) (seen : List Entry) (calls : ℕ) (done : w ≡ flushed_to v w seen calls) (r : Receipt) (is : r ≡ record { calls = called (real_syncs w.syncs); entries = durable (real_syncs w.syncs) }) where
  noted : w.syncs ≡ v.syncs ++ flushed calls (length seen) ∷ []
  noted = ap (λ (v : Vaulted D). v.syncs) done

  pub flushed_calls : r.calls ≡ calls
  flushed_calls =
      ap (λ (r : Receipt). r.calls) is ∙ ap (λ (ss : List VaultSync). called (real_syncs ss)) noted ∙ ap called (real_push v.syncs (flushed calls (length seen)) refl)
      ∙ called_last 0 (real_syncs v.syncs) (flushed calls (length seen))

  pub flushed_entries : r.entries ≡ length seen
  flushed_entries =
      ap (λ (r : Receipt). r.entries) is ∙ ap (λ (ss : List VaultSync). durable (real_syncs ss)) noted ∙ ap durable (real_push v.syncs (flushed calls (length seen)) refl)
      ∙ durable_last (real_syncs v.syncs) (flushed calls (length seen))

  pub flushed_receipt : r ≡ record { calls = calls; entries = length seen }
  flushed_receipt = λ i. record { calls = flushed_calls i; entries = flushed_entries i }

  pub flushed_done : w ≡ flushed_to v w seen r.calls
  flushed_done = done ∙ (λ i. flushed_to v w seen (sym flushed_calls i))

-- which is a sync of what its holder has seen
pub entries_saved : {D : Type 0} (book : BookId) (v w : Vaulted D) (seen : List Entry) (r : Receipt) (told : NoteState) → IsSound book.session → w ≡ flushed_to v w seen r.calls → r.entries ≡ length seen
    → told ≡ record { book = book; seen = w.seen; syncs = w.syncs } → IsSaved book seen (record { receipt = r; told = told })
entries_saved book v w seen r told sound done all note =
    let s = flushed r.calls (length seen) in
    let here : told.seen ≡ seen = ap (λ (n : NoteState). n.seen) note ∙ ap (λ (v : Vaulted _). v.seen) done in
    let long = ap length here in
    record {
      sound = sound;
      of_book = ap (λ (n : NoteState). n.book) note;
      begins = subst (λ (h : List Entry). IsPrefix seen h) (sym here) (prefix_self seen);
      within = omega (arith, long, all);
      synced = record {
        i = length v.syncs;
        s = s;
        is = ap (λ (ss : List VaultSync). slice_get ss (length v.syncs)) (ap (λ (n : NoteState). n.syncs) note ∙ ap (λ (v : Vaulted _). v.syncs) done) ∙ slice_get-last v.syncs s;
        whole = refl;
        called = refl;
        has = sym all;
      };
    }

-- The last sync of a list

last_synced : (ss : List VaultSync) → 0 < length ss → All (λ s. s.staged ≡ None) ss → HasSynced (called ss) (durable ss) ss
last_synced [] some all = absurd (omega (arith, some))
last_synced (s ∷ []) some all = record { i = 0; s = s; is = refl; whole = All-head (λ (s : VaultSync). s.staged ≡ None) s [] all; called = refl; has = refl }
last_synced (s ∷ t ∷ ss) some all =
    let e = last_synced (t ∷ ss) (omega arith) (All-tail (λ (s : VaultSync). s.staged ≡ None) s (t ∷ ss) all) in
    record { i = suc e.i; s = e.s; is = e.is; whole = e.whole; called = e.called; has = e.has }

durable_some : (ss : List VaultSync) → 0 < durable ss → 0 < length ss
durable_some [] more = absurd (omega (arith, more))
durable_some (s ∷ ss) more = omega arith

pub some_durable : (ss : List VaultSync) → durable (real_syncs ss) ≡ durable ss → 0 < durable ss → 0 < length (real_syncs ss)
some_durable ss counted more = durable_some (real_syncs ss) (omega (arith, counted, more))

-- which stands in the whole list
real_synced : (calls entries : ℕ) (ss : List VaultSync) → HasSynced calls entries (real_syncs ss) → HasSynced calls entries ss
real_synced calls entries ss has = let from = real_from ss has.i has.s has.is in record { i = from.0; s = has.s; is = from.1; whole = has.whole; called = has.called; has = has.has }

-- which another one made
pub shared_saved : {D : Type 0} (book : BookId) (v : Vaulted D) (r : Receipt) (told : NoteState) → IsSound book.session → 0 < durable v.syncs → durable v.syncs ≤ length v.seen → durable (real_syncs v.syncs) ≡ durable v.syncs
    → r ≡ record { calls = called (real_syncs v.syncs); entries = durable (real_syncs v.syncs) } → told ≡ record { book = book; seen = v.seen; syncs = v.syncs } → IsSaved book v.seen (record { receipt = r; told = told })
shared_saved book v r told sound some within counted is note =
    let e = real_synced (called (real_syncs v.syncs)) (durable (real_syncs v.syncs)) v.syncs (last_synced (real_syncs v.syncs) (some_durable v.syncs counted some) (real_unstaged v.syncs)) in
    let here : told.seen ≡ v.seen = ap (λ (n : NoteState). n.seen) note in
    let long = ap length here in
    let all : r.entries ≡ durable v.syncs = ap (λ (r : Receipt). r.entries) is ∙ counted in
    record {
      sound = sound;
      of_book = ap (λ (n : NoteState). n.book) note;
      begins = subst (λ (h : List Entry). IsPrefix v.seen h) (sym here) (prefix_self v.seen);
      within = omega (arith, long, all, within);
      synced = record {
        i = e.i;
        s = e.s;
        is = ap (λ (ss : List VaultSync). slice_get ss e.i) (ap (λ (n : NoteState). n.syncs) note) ∙ e.is;
        whole = e.whole;
        called = e.called ∙ sym (ap (λ (r : Receipt). r.calls) is);
        has = e.has ∙ counted ∙ sym all;
      };
    }

-- by an answer

pub ok_on : {A E P : Type 0} (r : Result A E) (x : A) → r ≡ Ok x → OnOk r P → P
ok_on {A} {E} {P} r x is all = subst (λ (o : Result A E). OnOk o P) is all

pub err_on : {A E P : Type 0} (r : Result A E) (e : E) → r ≡ Err e → OnErr r P → P
err_on {A} {E} {P} r e is all = subst (λ (o : Result A E). OnErr o P) is all

-- a receipt of the vault, with the vault's note
pub told_saved : {D : Type 0} (book : BookId) (v : Vaulted D) (r : Receipt) (told : NoteState) → IsSound book.session → told ≡ record { book = book; seen = v.seen; syncs = v.syncs } → HasReceipt v r
    → IsSaved book v.seen (record { receipt = r; told = told })
told_saved book v r told sound note has = record {
  sound = sound;
  of_book = ap (λ (n : NoteState). n.book) note;
  begins = subst (λ (h : List Entry). IsPrefix v.seen h) (sym (ap (λ (n : NoteState). n.seen) note)) (prefix_self v.seen);
  within = let all = ap (λ (n : NoteState). length n.seen) note in let most = has.within in omega (arith, all, most);
  synced = subst (λ (ss : List VaultSync). HasSynced r.calls r.entries ss) (sym (ap (λ (n : NoteState). n.syncs) note)) has.synced;
}
