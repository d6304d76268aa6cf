-- The tables with one more record.
use Rattle.std.proofs.Common.{ℕ, ◌≡◌, ◌==◌, ◌+◌, suc, Bool, true, false, refl, sym, ap, ◌∙◌, List, [], ◌∷◌, ◌++◌, cond, length, arith}
use Rattle.std.specs.Prelude.{Option, Some, None, nat_eq, if◌then◌else◌}
use Rattle.std.specs.List.{cons_option, filter_map}
use Rattle.std.specs.Option.{option_map_or}
use Rattle.std.specs.HashMap.{get}
use Rattle.std.specs.declared.vec.Vec.{Vec}
use Rattle.std.specs.declared.alloc.Global.{Global}
use Rattle.std.proofs.lemmas.List.Elements.{filter_map-append}
use Rattle.std.proofs.lemmas.List.{append-nil}
use Rattle.std.proofs.lemmas.List.Sums.{fold-append}
use Rattle.pass_entry.specs.declared.objects.Node.{Node}
use Rattle.pass_entry.specs.declared.record.Record.{Record}
use Rattle.pass_entry.specs.declared.record.Record.TheVariants as log
use Rattle.pass_plain.specs.Versions.{same_node}
use Rattle.pass_plain.proofs.Lists.{same_numbers}
use Rattle.pass_graph.specs.Logged.{Summarizes}
use Rattle.pass_graph.proofs.Noding.{same_node_is}
use Rattle.pass_view.specs.Facts.{AreFacts, AreTags, given, given_look, tag_in, tags_of}
use Rattle.pass_view.specs.declared.facts.Facts.{Facts}
use Rattle.pass_view.specs.declared.tags.Tags.{Tags}

abbrev Tag : Type 0
Tag = List ℕ × List ℕ

-- a row that is new has the one attribute
pub row_added : (old new : Tags) (node : Node) (one : Tag) (row : Vec Tag Global) → get same_node old.rows node ≡ None → row.items ≡ one ∷ []
    → ((n : Node) → get same_node new.rows n ≡ cond (same_node node n) (Some row) (get same_node old.rows n))
    → (n : Node) → tags_of new n ≡ (if same_node node n then tags_of old n ++ one ∷ [] else tags_of old n)
row_added old new node one row none has writes n = ap (λ o. option_map_or (λ (v : Vec Tag Global). v.items) o []) (writes n) ∙ at_test (same_node node n) refl
  where
    at_test : (b : Bool) → same_node node n ≡ b
        → option_map_or (λ (v : Vec Tag Global). v.items) (cond b (Some row) (get same_node old.rows n)) [] ≡ (if b then tags_of old n ++ one ∷ [] else tags_of old n)
    at_test true same =
        has ∙ ap (λ o. option_map_or (λ (v : Vec Tag Global). v.items) o [] ++ one ∷ []) (sym (ap (get same_node old.rows) (sym (same_node_is node n same)) ∙ none))
    at_test false apart = refl

-- a name that isn't empty takes the place of the one before, the empty one doesn't
pub name_stays : (p o : ℕ) (name : List ℕ) (old : Option (List ℕ)) → (length name == 0) ≡ true → old ≡ (if p == o then given name old else old)
name_stays p o [] old empty = at_test (p == o)
  where
    at_test : (b : Bool) → old ≡ (if b then old else old)
    at_test true = refl
    at_test false = refl
name_stays p o (b ∷ name) old empty = let none : suc (length name) ≡ 0 = same_numbers (length (b ∷ name)) 0 empty in absurd (omega (arith, none))

pub name_put : (p o : ℕ) (name : List ℕ) (old : Option (List ℕ)) → (length name == 0) ≡ false → cond (p == o) (Some name) old ≡ (if p == o then given name old else old)
name_put p o [] old some = absurd (cc)
name_put p o (b ∷ name) old some = refl

abbrev name_at : Facts → ℕ → Option (List ℕ)
name_at facts o = get nat_eq facts.names o

module _ (list : List Record) (old new : Tags) where
  -- one more record adds to each node the attribute that it gives
  noted : (r : Record) → ((n : Node) → tags_of new n ≡ tags_of old n ++ filter_map (tag_in n) (r ∷ [])) → AreTags list old → AreTags (list ++ r ∷ []) new
  noted r tags are n = tags n ∙ ap (λ xs. xs ++ filter_map (tag_in n) (r ∷ [])) (are n) ∙ sym (filter_map-append (tag_in n) list (r ∷ []))

  one_more : (node : Node) (attr value : List ℕ) (n : Node) → tags_of new n ≡ (if same_node node n then tags_of old n ++ (attr, value) ∷ [] else tags_of old n)
      → tags_of new n ≡ tags_of old n ++ filter_map (tag_in n) (log.Attr node attr value ∷ [])
  one_more node attr value n is = is ∙ at_test (same_node node n)
    where
      at_test : (b : Bool) → (if b then tags_of old n ++ (attr, value) ∷ [] else tags_of old n) ≡ tags_of old n ++ cons_option (if b then Some (attr, value) else None) []
      at_test true = refl
      at_test false = sym (append-nil (tags_of old n))

  pub tag_noted : (node : Node) (attr value : List ℕ) → ((n : Node) → tags_of new n ≡ (if same_node node n then tags_of old n ++ (attr, value) ∷ [] else tags_of old n))
      → AreTags list old → AreTags (list ++ log.Attr node attr value ∷ []) new
  tag_noted node attr value tags are = noted (log.Attr node attr value) (λ n. one_more node attr value n (tags n)) are

quiet : (r : Record) → ((n : Node) (attr value : List ℕ) → r ≡ log.Attr n attr value → ⊥) → (n : Node) → tag_in n r ≡ None
quiet (log.Attr m attr value) other n = absurd (other m attr value refl)
quiet _ other n = refl

-- a record that gives no attribute
pub none_noted : (list : List Record) (tags : Tags) (r : Record) → ((n : Node) (attr value : List ℕ) → r ≡ log.Attr n attr value → ⊥) → AreTags list tags → AreTags (list ++ r ∷ []) tags
none_noted list tags r other are = noted list tags tags r (λ n. sym (ap (λ o. tags_of tags n ++ cons_option o []) (quiet r other n) ∙ append-nil (tags_of tags n))) are

module _ (list : List Record) (old new : Facts) where
  named : (r : Record) → Summarizes new.logged (list ++ r ∷ []) → AreTags (list ++ r ∷ []) new.tags → ((o : ℕ) → name_at new o ≡ given_look o (name_at old o) r)
      → AreFacts list old → AreFacts (list ++ r ∷ []) new
  named r logged tags names are = record {
    logged = logged;
    names = λ o. names o ∙ ap (λ n. given_look o n r) (are.names o) ∙ sym (fold-append (given_look o) None list (r ∷ []));
    tags = tags;
  }

  pub name_noted : (pnode : ℕ) (name : List ℕ) → Summarizes new.logged (list ++ log.Name pnode name ∷ []) → AreTags (list ++ log.Name pnode name ∷ []) new.tags
      → ((o : ℕ) → name_at new o ≡ (if pnode == o then given name (name_at old o) else name_at old o)) → AreFacts list old → AreFacts (list ++ log.Name pnode name ∷ []) new
  name_noted pnode name logged tags names are = named (log.Name pnode name) logged tags names are

  unnamed : (r : Record) → ((pnode : ℕ) (name : List ℕ) → r ≡ log.Name pnode name → ⊥) → (o : ℕ) (last : Option (List ℕ)) → given_look o last r ≡ last
  unnamed (log.Name pnode name) other o last = absurd (other pnode name refl)
  unnamed _ other o last = refl

  -- a record that gives no name
  pub other_noted : (r : Record) → ((pnode : ℕ) (name : List ℕ) → r ≡ log.Name pnode name → ⊥) → Summarizes new.logged (list ++ r ∷ []) → AreTags (list ++ r ∷ []) new.tags
      → ((o : ℕ) → name_at new o ≡ name_at old o) → AreFacts list old → AreFacts (list ++ r ∷ []) new
  other_noted r other logged tags names are = named r logged tags (λ o. names o ∙ sym (unnamed r other o (name_at old o))) are
