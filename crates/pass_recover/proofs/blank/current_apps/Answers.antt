use Rattle.std.proofs.Common.{ℕ, ◌≡◌, ◌∙◌, ◌+◌, Vec, Global, ◌++◌, ◌∷◌, [], List, take, map, ap, sym}
use Rattle.std.specs.Prelude.{Option, filter_map}
use Rattle.std.specs.List.{cons_option}
use Rattle.std.proofs.lemmas.List.{map-append, append-nil}
use Rattle.std.proofs.lemmas.List.Elements.{filter_map-append}
use Rattle.pass_entry.specs.declared.objects.Node.{Node}
use Rattle.pass_plain.specs.WellLogged.{current_of}
use Rattle.pass_plain.proofs.Replays.{take-next}
use Rattle.pass_recover.specs.Starts.{apps_of, app_made, current_node}
use Rattle.pass_recover.proofs.blank.current_apps.Goals as goal
use Rattle.pass_recover.proofs.blank.current_apps.Goals.{in-Some+in_ok-push, in_default}

pub loop-one-preserved : goal.loop-one-preserved
loop-one-preserved c =
    let list = c.args.list.now in
    let i = c.loop-one.one-index in
    let r = c.one-item.result in
    let next : apps_of (take (i + 1) list) ≡ apps_of (take i list) ++ filter_map app_made (r ∷ []) =
    ap apps_of (take-next list i r c.loop-one-test.true c.one-item.is) ∙ filter_map-append app_made (take i list) (r ∷ []) in
    elim c.match-made_app.branch [
      | in-Some+in_ok-push w ↦
          let pnode = w.in-Some.pnode in
          let version : w.version.result ≡ current_of list pnode = w.version.ensures list c.requires in
          ap (λ (v : Vec Node Global). v.items) w.apps-is ∙ w.in_ok-push.ensures.items
          ∙ ap (λ (l : List Node). l ++ record { pnode = pnode; version = w.version.result } ∷ []) c.loop-one.invariant
          ∙ ap (λ (n : ℕ). map (current_node list) (apps_of (take i list)) ++ record { pnode = pnode; version = n } ∷ []) version
          ∙ sym (ap (map (current_node list)) (next ∙ ap (λ (o : Option ℕ). apps_of (take i list) ++ cons_option o []) (sym c.made_app.ensures ∙ w.in-Some.is))
          ∙ map-append (current_node list) (apps_of (take i list)) (pnode ∷ []))
      | in_default w ↦
          ap (λ (v : Vec Node Global). v.items) w.apps-is ∙ c.loop-one.invariant
          ∙ sym (ap (map (current_node list)) (next ∙ ap (λ (o : Option ℕ). apps_of (take i list) ++ cons_option o []) (sym c.made_app.ensures ∙ w.in_default.is) ∙ append-nil (apps_of (take i list))))
    ]
