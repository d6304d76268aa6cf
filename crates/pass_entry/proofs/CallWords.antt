-- What the table of words answers is the call whose word it is.
use Rattle.std.proofs.Common.{◌≡◌, Bool, true, false, cond, List, [], ◌∷◌, ℕ, nat_eq, refl, ap, sym, ◌∙◌}
use Rattle.std.specs.Prelude.{Option, Some, find}
use Rattle.std.specs.Cmp.Lexicographic.{pointwise, same_text}
use Rattle.pass_entry.specs.declared.entry.CallName.{CallName}
use Rattle.pass_entry.specs.declared.entry.CallName.TheVariants as call
use Rattle.pass_entry.specs.Words.{call_word, call_names, call_of, IsCallOf}

first_or_later : {X : Type 0} (p : X → Bool) (x y : X) (rest : Option X) (b : Bool) → p y ≡ b → (rest ≡ Some x → p x ≡ true) → cond b (Some y) rest ≡ Some x → p x ≡ true
first_or_later p x y rest true first later is = cc
first_or_later p x y rest false first later is = later is

found-passes : {X : Type 0} (p : X → Bool) (xs : List X) (x : X) → find p xs ≡ Some x → p x ≡ true
found-passes p [] x is = absurd (cc)
found-passes p (y ∷ xs) x is = first_or_later p x y (find p xs) (p y) refl (found-passes p xs x) is

pub call_of-call_word : (name : CallName) → call_of (call_word name) ≡ Some name
call_of-call_word call.Start = refl
call_of-call_word call.Creat = refl
call_of-call_word call.OpenName = refl
call_of-call_word call.CloseFd = refl
call_of-call_word call.Read = refl
call_of-call_word call.Write = refl
call_of-call_word call.Seek = refl
call_of-call_word call.Truncate = refl
call_of-call_word call.MakePipe = refl
call_of-call_word call.Fork = refl
call_of-call_word call.Exec = refl
call_of-call_word call.WaitChild = refl
call_of-call_word call.Await = refl
call_of-call_word call.Exit = refl
call_of-call_word call.Rename = refl
call_of-call_word call.Unlink = refl
call_of-call_word call.MakeObj = refl
call_of-call_word call.Revive = refl
call_of-call_word call.FreezeObj = refl
call_of-call_word call.Disclose = refl
call_of-call_word call.TagObj = refl
call_of-call_word call.Sync = refl

pub call_of-exact : (word : List ℕ) (answer : Option CallName) → answer ≡ call_of word → IsCallOf word answer
call_of-exact word answer found name = (
  λ is. same_text (call_word name) word (sym (found-passes (λ c. pointwise nat_eq (call_word c) word) call_names name (sym found ∙ is))),
  λ is. found ∙ ap call_of (sym is) ∙ call_of-call_word name,
)
