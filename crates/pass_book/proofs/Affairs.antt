-- Whose affair an entry or a sync is, and lists that grow.
use Rattle.std.proofs.Common.{◌≡◌, false, List, [], ◌∷◌, ◌++◌, sym, ◌∙◌}
use mathlib.Core.List.{IsPrefix}
use Rattle.pass_entry.specs.declared.entry.Entry.{Entry}
use Rattle.pass_book.specs.declared.view.Name.{Name}
use Rattle.pass_book.specs.declared.view.VaultSync.{VaultSync}
use Rattle.pass_book.specs.Names.{touches, Agrees, concerns, Listed}
use Rattle.pass_book.proofs.Prefixes.{between, filter_miss}

-- an entry that isn't its affair changes nothing
pub agrees_more : (a : Name) (seen h : List Entry) (e : Entry) → Agrees a seen h → touches a e ≡ false → Agrees a seen (h ++ e ∷ [])
agrees_more a seen h e same off = same ∙ sym (filter_miss (touches a) h e off)

pub agrees_between : (a : Name) (seen w h : List Entry) → IsPrefix seen w → IsPrefix w h → Agrees a seen h → Agrees a seen w
agrees_between a seen w h p q same = between (touches a) seen w h p q same

pub listed_more : (a : Name) (mine all : List VaultSync) (s : VaultSync) → Listed a mine all → concerns a s ≡ false → Listed a mine (all ++ s ∷ [])
listed_more a mine all s same off = same ∙ sym (filter_miss (concerns a) all s off)

pub listed_between : (a : Name) (mine w all : List VaultSync) → IsPrefix mine w → IsPrefix w all → Listed a mine all → Listed a mine w
listed_between a mine w all p q same = between (concerns a) mine w all p q same

-- the same name has no less in a longer list
pub agrees_on : (a : Name) (mine w h : List Entry) → IsPrefix mine w → IsPrefix w h → Agrees a mine h → Agrees a w h
agrees_on a mine w h p q l = sym (agrees_between a mine w h p q l) ∙ l

pub listed_on : (a : Name) (mine w all : List VaultSync) → IsPrefix mine w → IsPrefix w all → Listed a mine all → Listed a w all
listed_on a mine w all p q l = sym (listed_between a mine w all p q l) ∙ l
