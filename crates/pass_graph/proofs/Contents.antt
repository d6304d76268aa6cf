-- The records of a file's content, and those that follow an exec, may stand.
use Rattle.std.proofs.Common.{ℕ, ◌≡◌, ◌<◌, ◌+◌, ◌-◌, ◌*◌, Bool, true, false, ◌&&◌, inl, inr, refl, sym, ap, ◌∙◌, subst, List, [], ◌∷◌, ◌++◌, length, map, arith, cond}
use Rattle.std.specs.Prelude.{filter, nat_lt, codes}
use Rattle.std.specs.List.{range_with_len}
use Rattle.std.proofs.lemmas.Bool.{or_cases}
use Rattle.pass_entry.specs.declared.entry.Entry.{Entry}
use Rattle.pass_entry.specs.declared.entry.Act.{Act}
use Rattle.pass_entry.specs.declared.entry.Act.TheVariants as act
use Rattle.pass_entry.specs.declared.objects.Node.{Node}
use Rattle.pass_entry.specs.declared.objects.Kind.{Kind}
use Rattle.pass_entry.specs.declared.objects.Kind.TheVariants as kind
use Rattle.pass_entry.specs.declared.record.Record.{Record}
use Rattle.pass_entry.specs.declared.record.Record.TheVariants as log
use Rattle.pass_plain.specs.Sessions.{Session}
use Rattle.pass_plain.specs.Files.{file_after, file_act}
use Rattle.pass_plain.specs.Registries.{Registry, Exists}
use Rattle.pass_plain.specs.Lawful.{suits}
use Rattle.pass_plain.specs.Records.{extra_records, content_records, digest_of, is_digested, is_written, has_row, args_records}
use Rattle.pass_plain.specs.WellLogged.{size_of}
use Rattle.pass_plain.proofs.Lists.{true_left, true_right, below_is, same_itself}
use Rattle.pass_plain.proofs.Sizes.{written_begins}
use Rattle.pass_plain.proofs.Objects.{file_kind}
use Rattle.pass_graph.proofs.Accepting.{IsTold, fine_one, size_more, size_told, size_fine, digest_told, digest_fine, attr_told, attr_fine}
use Rattle.pass_graph.proofs.Naming.{Stepped, stepped-append, nothing_stepped}

digested_low : (session : Session) (past : List Entry) (e : Entry) (block : ℕ) → is_digested session past e block ≡ true → block * 4096 < length (file_act (file_after session past e.what) e.act)
digested_low session past e block is =
    let old : List ℕ = file_after session past e.what in
    let new : List ℕ = file_act old e.act in
    elim (or_cases (is_written e.act block) _ is) [
      | inl wrote ↦ written_begins e.act old block wrote
      | inr had ↦ below_is _ _ (true_right (has_row session past e.what block) (nat_lt (block * 4096) (length new)) (true_left (has_row session past e.what block && nat_lt (block * 4096) (length new)) _ had))
    ]

-- digests of blocks that begin below the end, with these sums
module _ (session : Session) (r : Registry) (version : ℕ → ℕ) (o size : ℕ) (sum : ℕ → List ℕ) (has : Exists r o kind.File) (p : ℕ → Bool) (low : (block : ℕ) → p block ≡ true → block * 4096 < size) where
  digests : (blocks : List ℕ) (list : List Record) → IsTold session list r version → size_of list o ≡ size → Stepped session list r version (map (λ block. log.Digest o block (sum block)) (filter p blocks))
  digests [] list t is = nothing_stepped session list r version t
  digests (block ∷ blocks) list t is = at_test (p block) refl (λ list t is. digests blocks list t is)
    where
      at_test : (b : Bool) → p block ≡ b → ((list : List Record) → IsTold session list r version → size_of list o ≡ size → Stepped session list r version (map (λ block. log.Digest o block (sum block)) (filter p blocks)))
          → Stepped session list r version (map (λ block. log.Digest o block (sum block)) (cond b (block ∷ filter p blocks) (filter p blocks)))
      at_test false passes later = later list t is
      at_test true passes later =
          let x : Record = log.Digest o block (sum block) in
          let told : IsTold session (list ++ x ∷ []) r version = digest_told session list r version t o block (sum block) in
          stepped-append session list r r version version (x ∷ []) (map (λ block. log.Digest o block (sum block)) (filter p blocks))
          (fine_one list x (digest_fine session list r version t o block (sum block) has (let z = low block passes in omega (arith, z, is))), told)
          (later (list ++ x ∷ []) told (size_more list x o ∙ is))

module _ (session : Session) (past : List Entry) (e : Entry) (list : List Record) (r : Registry) (version : ℕ → ℕ) (t : IsTold session list r version) where
  content_step : Exists r e.what kind.File → Stepped session list r version (content_records session past e)
  content_step has =
      let new : List ℕ = file_act (file_after session past e.what) e.act in
      let x : Record = log.Size e.what (length new) in
      let told : IsTold session (list ++ x ∷ []) r version = size_told session list r version t e.what (length new) in
      stepped-append session list r r version version (x ∷ []) (map (digest_of e.what new) (filter (is_digested session past e) (range_with_len 0 1024)))
      (fine_one list x (size_fine session list r version t e.what (length new) has), told)
      (digests session r version e.what (length new) _ has (is_digested session past e) (digested_low session past e) (range_with_len 0 1024) (list ++ x ∷ []) told
      (size_more list x e.what ∙ ap (λ b. cond b (length new) (size_of list e.what)) (same_itself e.what)))

  args_step : (n : Node) (k : Kind) (args : List ℕ) → Exists r n.pnode k → n.version ≡ version n.pnode → Stepped session list r version (args_records n args)
  args_step n k [] has level = nothing_stepped session list r version t
  args_step n k (b ∷ args) has level =
      (fine_one list (log.Attr n (codes "ARGV") (b ∷ args)) (attr_fine session list r version t n (codes "ARGV") (b ∷ args) k has level), attr_told session list r version t n (codes "ARGV") (b ∷ args))

-- what follows the records of an IN
pub extra_step : (session : Session) (past : List Entry) (e : Entry) (list : List Record) (r : Registry) (version : ℕ → ℕ) → IsTold session list r version
    → (n : Node) (k : Kind) (a : Act) → n.pnode ≡ e.what → Exists r e.what k → suits a k ≡ true → n.version ≡ version n.pnode → Stepped session list r version (extra_records session past e n a)
extra_step session past e list r version t n k (act.Put out at bytes) same has fits level = content_step session past e list r version t (subst (Exists r e.what) (file_kind k fits) has)
extra_step session past e list r version t n k (act.Cut out size) same has fits level = content_step session past e list r version t (subst (Exists r e.what) (file_kind k fits) has)
extra_step session past e list r version t n k (act.Exec out name args) same has fits level =
    let there : Exists r n.pnode k = subst (λ o. Exists r o k) (sym same) has in
    let x : Record = log.Attr n (codes "EXE") name in
    let told : IsTold session (list ++ x ∷ []) r version = attr_told session list r version t n (codes "EXE") name in
    stepped-append session list r r version version (x ∷ []) (args_records n args)
    (fine_one list x (attr_fine session list r version t n (codes "EXE") name k there level), told)
    (args_step session past e (list ++ x ∷ []) r version told n k args there level)
extra_step session past e list r version t n k _ same has fits level = nothing_stepped session list r version t
