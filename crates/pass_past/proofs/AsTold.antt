-- Two starts of which one list tells, with the bytes of one store area, allow the same histories.
use Rattle.std.proofs.Common.{◌≡◌, ◌∙◌, ◌<◌, ◌≤◌, ◌+◌, ◌-◌, ◌*◌, ◌==◌, ℕ, zero, suc, Bool, true, false, List, [], ◌∷◌, ◌++◌, length, take, drop, map, get_or, cond, refl, sym, ap, subst, arith, ⊎_elim}
use Rattle.std.specs.Prelude.{Option, Some, None, is_some, find, filter_map, option_map, slice_get, if◌then◌else◌}
use Rattle.std.specs.Option.{option_map_or}
use Rattle.std.specs.List.{cons_option}
use Rattle.std.specs.FinMap as finite_map
use Rattle.std.proofs.lemmas.Bool.{cases_lt}
use Rattle.std.proofs.lemmas.Grind.{same_number_lists}
use Rattle.std.proofs.lemmas.List.{get_or-take, get_or-drop}
use Rattle.pass_entry.specs.declared.entry.Act.{Act}
use Rattle.pass_entry.specs.declared.entry.Act.TheVariants as act
use Rattle.pass_entry.specs.declared.entry.CallFault.TheVariants as fault
use Rattle.pass_entry.specs.declared.entry.Entry.{Entry}
use Rattle.pass_entry.specs.declared.entry.Reply.TheVariants as answer
use Rattle.pass_entry.specs.declared.objects.Kind.{Kind}
use Rattle.pass_entry.specs.declared.objects.Kind.TheVariants as kind
use Rattle.pass_entry.specs.declared.objects.Node.{Node}
use Rattle.pass_entry.specs.declared.record.Record.{Record}
use Rattle.pass_entry.proofs.Lists.{some_is}
use Rattle.pass_graph.specs.Logged.{name_in}
use Rattle.pass_plain.specs.declared.start.Start.{Start}
use Rattle.pass_plain.specs.declared.start.StartFile.{StartFile}
use Rattle.pass_plain.specs.Files.{file_act, file_after}
use Rattle.pass_plain.specs.Histories.{state_after}
use Rattle.pass_plain.specs.Legal.{IsLegal, session_of}
use Rattle.pass_plain.specs.Records.{range_len}
use Rattle.pass_plain.specs.Registries.{Registry, opening_registry, registry_act, registry_after, named_file, is_full}
use Rattle.pass_plain.specs.Replies.{reply_to, minted, found, done_if, is_app_object}
use Rattle.pass_plain.specs.Sessions.{opening_bytes}
use Rattle.pass_plain.specs.WellLogged.{last_name_of, size_of}
use Rattle.pass_range.specs.Lawful.{IsZero}
use Rattle.pass_range.specs.Places.{place, found_there}
use Rattle.pass_range.specs.Rows.{range, row_of}
use Rattle.pass_recover.proofs.Elements.{in_mapped}
use Rattle.pass_recover.specs.Starts.{IsStartOf, HasBytes}
use Rattle.pass_past.specs.Laws.{SameToldLaw}

-- one content

block_of : (k : ℕ) → (block : ℕ) × (block * 4096 ≤ k) × (k < (block + 1) * 4096)
block_of zero = (0, (omega arith), (omega arith))
block_of (suc k) =
    let (block, low, high) = block_of k in
    ⊎_elim
    (λ (same : suc k < (block + 1) * 4096). (block, (omega (arith, low)), same))
    (λ (over : (block + 1) * 4096 ≤ suc k). (block + 1, over, (omega (arith, high))))
    (cases_lt (suc k) ((block + 1) * 4096))

in_range : (block : ℕ) (bytes : List ℕ) (at : ℕ) → block * 4096 ≤ at → at < (block + 1) * 4096 → get_or (range block bytes) (at - block * 4096) 0 ≡ get_or bytes at 0
in_range block bytes at low high =
    get_or-take 4096 (drop (block * 4096) bytes) (at - block * 4096) 0 (omega (arith, low, high)) ∙ get_or-drop (block * 4096) bytes (at - block * 4096) 0
    ∙ ap (λ (k : ℕ). get_or bytes k 0) (let z : block * 4096 + (at - block * 4096) ≡ at = omega (arith, low) in z)

-- what the list and the area say of the bytes of the file that stands at a place
record IsContent (list : List Record) (area : List ℕ) (number pnode : ℕ) (bytes : List ℕ) : Type 0 where
  sized : length bytes ≡ size_of list pnode
  ranges : (block : ℕ) → is_some (row_of list pnode block) ≡ true → range block bytes ≡ found_there (place number block) (range_len (size_of list pnode) block) area
  zeros : (block : ℕ) → row_of list pnode block ≡ None → IsZero block bytes

one_content : (list : List Record) (area : List ℕ) (number pnode : ℕ) (one other : List ℕ) → IsContent list area number pnode one → IsContent list area number pnode other → one ≡ other
one_content list area number pnode one other a b = same_number_lists one other (a.sized ∙ sym b.sized) (λ k low. at_block k (block_of k))
  where
    at_block : (k : ℕ) → (block : ℕ) × (block * 4096 ≤ k) × (k < (block + 1) * 4096) → get_or one k 0 ≡ get_or other k 0
    at_block k (block, low, high) = by_row (row_of list pnode block) refl
      where
        by_row : (o : Option (List ℕ)) → row_of list pnode block ≡ o → get_or one k 0 ≡ get_or other k 0
        by_row None none = a.zeros block none k low high ∙ sym (b.zeros block none k low high)
        by_row (Some digest) some =
            let row = ap is_some some in
            sym (in_range block one k low high)
            ∙ ap (λ (l : List ℕ). get_or l (k - block * 4096) 0) (a.ranges block row ∙ sym (b.ranges block row))
            ∙ in_range block other k low high

-- the same files

record IsTwin (f g : StartFile) : Type 0 where
  pnode : f.node.pnode ≡ g.node.pnode
  name : f.name ≡ g.name
  bytes : f.bytes.items ≡ g.bytes.items

abbrev AreTwins : List StartFile → List StartFile → Type 0
AreTwins [] [] = Unit {0}
AreTwins (f ∷ fs) (g ∷ gs) = IsTwin f g × AreTwins fs gs
AreTwins _ _ = ⊥

abbrev number_of_file : StartFile → ℕ
number_of_file f = f.node.pnode

twins : (fs gs : List StartFile) → map number_of_file fs ≡ map number_of_file gs
    → ((i : ℕ) (f g : StartFile) → slice_get fs i ≡ Some f → slice_get gs i ≡ Some g → IsTwin f g) → AreTwins fs gs
twins [] [] same each = tt
twins [] (g ∷ gs) same each = absurd (omega (arith, ap length same))
twins (f ∷ fs) [] same each = absurd (omega (arith, ap length same))
twins (f ∷ fs) (g ∷ gs) same each = (each 0 f g refl refl, twins fs gs (ap (drop 1) same) (λ i x y at there. each (suc i) x y at there))

same_names : (fs gs : List StartFile) → AreTwins fs gs → filter_map named_file fs ≡ filter_map named_file gs
same_names [] [] are = refl
same_names [] (g ∷ gs) are = absurd are
same_names (f ∷ fs) [] are = absurd are
same_names (f ∷ fs) (g ∷ gs) are =
    let rest = same_names fs gs are.1 in
    (λ i. cons_option (option_map (λ name. (name, are.0.pnode i)) (are.0.name i)) (rest i))

abbrev of_file : StartFile → ℕ × Kind
of_file f = (f.node.pnode, kind.File)

abbrev of_app : Node → ℕ × Kind
of_app n = (n.pnode, kind.App)

same_objects : (fs gs : List StartFile) → AreTwins fs gs → map of_file fs ≡ map of_file gs
same_objects [] [] are = refl
same_objects [] (g ∷ gs) are = absurd are
same_objects (f ∷ fs) [] are = absurd are
same_objects (f ∷ fs) (g ∷ gs) are =
    let rest = same_objects fs gs are.1 in
    (λ i. (are.0.pnode i, kind.File) ∷ rest i)

same_bytes : (o : ℕ) (fs gs : List StartFile) → AreTwins fs gs
    → option_map_or (λ (f : StartFile). f.bytes.items) (find (λ (f : StartFile). f.node.pnode == o) fs) [] ≡ option_map_or (λ (f : StartFile). f.bytes.items) (find (λ (f : StartFile). f.node.pnode == o) gs) []
same_bytes o [] [] are = refl
same_bytes o [] (g ∷ gs) are = absurd are
same_bytes o (f ∷ fs) [] are = absurd are
same_bytes o (f ∷ fs) (g ∷ gs) are =
    at_test (f.node.pnode == o) (same_bytes o fs gs are.1)
    ∙ ap (λ (n : ℕ). option_map_or (λ (x : StartFile). x.bytes.items) (cond (n == o) (Some g) (find (λ (x : StartFile). x.node.pnode == o) gs)) []) are.0.pnode
  where
    at_test : (b : Bool)
        → option_map_or (λ (x : StartFile). x.bytes.items) (find (λ (x : StartFile). x.node.pnode == o) fs) [] ≡ option_map_or (λ (x : StartFile). x.bytes.items) (find (λ (x : StartFile). x.node.pnode == o) gs) []
        → option_map_or (λ (x : StartFile). x.bytes.items) (cond b (Some f) (find (λ (x : StartFile). x.node.pnode == o) fs)) []
        ≡ option_map_or (λ (x : StartFile). x.bytes.items) (cond b (Some g) (find (λ (x : StartFile). x.node.pnode == o) gs)) []
    at_test true rest = are.0.bytes
    at_test false rest = rest

-- what a history asks of a start

record SayTheSame (a b : Start) : Type 0 where
  ceiling : a.ceiling ≡ b.ceiling
  registry : opening_registry a ≡ opening_registry b
  bytes : (o : ℕ) → opening_bytes a o ≡ opening_bytes b o

module _ (a b : Start) (objects : ℕ) (same : SayTheSame a b) where
  same_registry : (history : List Entry) → registry_after (session_of a objects) history ≡ registry_after (session_of b objects) history
  same_registry history = ap (λ (r : Registry). state_after (λ past r e. registry_act r e.act e.reply) 0 r history) same.registry

  same_content : (history : List Entry) (o : ℕ) → file_after (session_of a objects) history o ≡ file_after (session_of b objects) history o
  same_content history o = ap (λ (c : List ℕ). state_after (λ past content e. file_act content e.act) o c history) (same.bytes o)

  same_minted : (r : Registry) (k : Kind) → minted (session_of a objects) r k ≡ minted (session_of b objects) r k
  same_minted r k = ap (λ (c : ℕ). if is_full (session_of a objects) r k then answer.Fault fault.TooMany else answer.Made (c + r.made + 1)) same.ceiling

  same_reply : (history : List Entry) (what : ℕ) (x : Act) → reply_to (session_of a objects) history what x ≡ reply_to (session_of b objects) history what x
  same_reply history what (act.Bind name) =
      ap (λ (r : Registry). Some (if finite_map.contains_key r.names name then answer.Fault fault.Exists else minted (session_of a objects) r kind.File)) (same_registry history)
      ∙ ap (λ m. Some (if finite_map.contains_key (registry_after (session_of b objects) history).names name then answer.Fault fault.Exists else m)) (same_minted (registry_after (session_of b objects) history) kind.File)
  same_reply history what (act.Find name) = ap (λ (r : Registry). Some (found (finite_map.get r.names name))) (same_registry history)
  same_reply history what (act.Move from to) = ap (λ (r : Registry). Some (done_if (finite_map.contains_key r.names from) fault.NoEntry)) (same_registry history)
  same_reply history what (act.Unbind name) = ap (λ (r : Registry). Some (done_if (finite_map.contains_key r.names name) fault.NoEntry)) (same_registry history)
  same_reply history what (act.Mint k) =
      ap (λ (r : Registry). Some (minted (session_of a objects) r k)) (same_registry history) ∙ ap (λ m. Some m) (same_minted (registry_after (session_of b objects) history) k)
  same_reply history what (act.Known pnode) = ap (λ (r : Registry). Some (if is_app_object r pnode then answer.Made pnode else answer.Fault fault.NoObject)) (same_registry history)
  same_reply history what (act.Give at len) = ap (λ (c : List ℕ). Some (answer.Took (take len (drop at c)))) (same_content history what)
  same_reply history what _ = refl

  same_legal : (history : List Entry) → IsLegal (session_of a objects) history → IsLegal (session_of b objects) history
  same_legal history legal i e at =
      let m = legal i e at in
      record { replied = sym (same_reply (take i history) e.what e.act) ∙ m.replied; acts = m.acts; step = m.step }

-- and what the list and the area say of it

module _ (list : List Record) (area : List ℕ) (a b : Start) (first : IsStartOf list a) (first_bytes : HasBytes list area a) (second : IsStartOf list b) (second_bytes : HasBytes list area b) where
  content : (s : Start) → IsStartOf list s → HasBytes list area s → (i : ℕ) (f : StartFile) → slice_get s.files.items i ≡ Some f → IsContent list area i f.node.pnode f.bytes.items
  content s told bytes i f at =
      let e = told.each i f at in
      record { sized = e.sized ∙ e.size; ranges = λ block row. bytes i f at block row; zeros = e.zero }

  numbers : map number_of_file a.files.items ≡ map number_of_file b.files.items
  numbers = first.files ∙ sym second.files

  twin : (i : ℕ) (f g : StartFile) → slice_get a.files.items i ≡ Some f → slice_get b.files.items i ≡ Some g → IsTwin f g
  twin i f g at there =
      let same : f.node.pnode ≡ g.node.pnode =
      some_is f.node.pnode g.node.pnode (sym (in_mapped number_of_file a.files.items i f at) ∙ ap (λ l. slice_get l i) numbers ∙ in_mapped number_of_file b.files.items i g there) in
      let mine = first.each i f at in
      let yours = second.each i g there in
      record {
        pnode = same;
        name = mine.name ∙ ap (λ n. name_in (last_name_of list n)) same ∙ sym yours.name;
        bytes = one_content list area i g.node.pnode f.bytes.items g.bytes.items (moved f g i same (content a first first_bytes i f at)) (content b second second_bytes i g there);
      }
    where
      moved : (f g : StartFile) (i : ℕ) → f.node.pnode ≡ g.node.pnode → IsContent list area i f.node.pnode f.bytes.items → IsContent list area i g.node.pnode f.bytes.items
      moved f g i same is = subst (λ n. IsContent list area i n f.bytes.items) same is

  say_the_same : SayTheSame a b
  say_the_same =
      let are = twins a.files.items b.files.items numbers twin in
      let names = same_names a.files.items b.files.items are in
      let objects = same_objects a.files.items b.files.items are in
      let apps = first.apps ∙ sym second.apps in
      record {
        ceiling = first.ceiling ∙ sym second.ceiling;
        registry = (λ i. record { names = finite_map.from_entries (names i); objects = objects i ++ map of_app (apps i); made = 0 });
        bytes = λ o. same_bytes o a.files.items b.files.items are;
      }

pub same_told : SameToldLaw
same_told list area a b first first_bytes second second_bytes objects history legal = same_legal a b objects (say_the_same list area a b first first_bytes second second_bytes) history legal
