-- The tokens of what is told of nodes, of one part behind the other.
use Rattle.std.proofs.Common.{◌≡◌, sym, ap, ◌∙◌, List, [], ◌∷◌, ◌++◌, append_assoc}
use Rattle.std.specs.Prelude.{codes}
use Rattle.std.proofs.lemmas.List.Concat.{flat_map-append}
use Rattle.json.specs.Token.{Token, begin_object, end_object}
use Rattle.json.specs.Tree.{json_tokens}
use Rattle.pass_entry.specs.Words.{node_text}
use Rattle.pass_view.specs.Provs.{member_tokens, text_at, tokens_of}
use Rattle.pass_view.proofs.Members.{members_are}
use Rattle.pass_files.specs.Texts.{kind_members, members_in, title_members, told_object}
use Rattle.pass_files.specs.declared.told.Told.{Told}

-- the tokens of what is told of a node, part by part
pub told_tokens : (told : Told) → begin_object ∷ (member_tokens (text_at (codes "node") (node_text told.node)) ++ (tokens_of (kind_members told.kind) ++ (tokens_of (title_members told.title) ++ end_object ∷ []))) ≡ json_tokens (told_object told)
told_tokens told =
    let node : List Token = member_tokens (text_at (codes "node") (node_text told.node)) in
    let kinds : List Token = tokens_of (kind_members told.kind) in
    let titles : List Token = tokens_of (title_members told.title) in
    ap (λ (ts : List Token). begin_object ∷ ts) (sym (members_are (members_in told)
    ∙ ap (λ (ts : List Token). (node ++ ts) ++ end_object ∷ []) (flat_map-append member_tokens (kind_members told.kind) (title_members told.title))
    ∙ append_assoc node (kinds ++ titles) (end_object ∷ []) ∙ ap (λ (ts : List Token). node ++ ts) (append_assoc kinds titles (end_object ∷ []))))
