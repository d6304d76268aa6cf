use Rattle.std.proofs.Common.{◌≡◌, ◌↔◌, ◌++◌, ◌∷◌, [], sym, subst, List, ◌∙◌, ap}
use Rattle.std.specs.Prelude.{Option, Some, None}
use Rattle.std.proofs.lemmas.List.{same_from_push}
use Rattle.pass_entry.specs.declared.entry.Entry.{Entry}
use Rattle.pass_entry.specs.declared.entry.Reply.{Reply}
use Rattle.pass_plain.specs.Legal.{MayFollow, Past, session_of}
use Rattle.pass_reference.proofs.reference.Plain.step.Goals as goal

pub note-requires-clause-next : goal.note-requires-clause-next
note-requires-clause-next c =
    let s = c.self.inside in
    let e : Entry = record c.args.entry.now { reply = c.in-Some.reply } in
    let past = c.in-Some-split_last.past.now in
    let last : Entry = c.in-Some-split_last.last.now in
    let may = subst (λ (h : List Entry). MayFollow (session_of s.start.now s.objects) h e) c.deref.ensures.value ((c.in_ok-answer.ensures c.in-Some.reply).0 c.in-Some.is) in
    let whole : s.history.items ++ e ∷ [] ≡ past ++ last ∷ [] =
    sym (c.deref-in-Some.ensures.value ∙ c.in_ok-push-in-Some.ensures.items ∙ ap (λ (f : Entry). s.history.items ++ f ∷ []) c.in_ok-copy-in-Some.ensures) ∙ c.in-Some-split_last.ensures.cases.0 in
    let same = same_from_push s.history.items past e last whole in
    subst (λ (h : List Entry). MayFollow (session_of s.start.now s.objects) h last) same.0 (subst (λ (f : Entry). MayFollow (session_of s.start.now s.objects) s.history.items f) same.1 may)

pub returns-in-None-clause-answer : goal.returns-in-None-clause-answer
returns-in-None-clause-answer c = λ r.
    let s = c.self.inside in
    let e : Entry = record c.args.entry.now { reply = r } in
    let answered = subst (λ (o : Option Reply). (o ≡ Some r) ↔ MayFollow (session_of s.start.now s.objects) c.deref.result.now e) c.in-None.is (c.in_ok-answer.ensures r) in
    let inside = subst (λ (h : List Entry). (◌≡◌ {A = Option Reply} None (Some r)) ↔ MayFollow (session_of s.start.now s.objects) h e) c.deref.ensures.value answered in
    subst (λ (v : Past). (◌≡◌ {A = Option Reply} None (Some r)) ↔ MayFollow v.session v.history e) c.self.view_is inside

pub returns-after-split_last-clause-answer : goal.returns-after-split_last-clause-answer
returns-after-split_last-clause-answer c = λ r.
    let s = c.self.inside in
    let e : Entry = record c.args.entry.now { reply = r } in
    let answered = subst (λ (o : Option Reply). (o ≡ Some r) ↔ MayFollow (session_of s.start.now s.objects) c.deref.result.now e) c.in-Some.is (c.in_ok-answer.ensures r) in
    let inside = subst (λ (h : List Entry). (Some c.in-Some.reply ≡ Some r) ↔ MayFollow (session_of s.start.now s.objects) h e) c.deref.ensures.value answered in
    subst (λ (v : Past). (Some c.in-Some.reply ≡ Some r) ↔ MayFollow v.session v.history e) c.self.view_is inside
