-- The steps of a call while it goes on.
use Rattle.std.proofs.Common.{◌≡◌, ◌+◌, ℕ, suc, List, [], ◌∷◌, ◌++◌, length, map, take, refl, ap, sym, ◌∙◌, arith, length-append}
use Rattle.std.proofs.lemmas.List.{map-append}
use Rattle.std.proofs.lemmas.Option.{slice_get-map}
use Rattle.std.specs.Prelude.{Option, Some, None, slice_get, option_map}
use Rattle.std.specs.Option.{option_map_or}
use Rattle.pass_entry.specs.declared.entry.Entry.{Entry}
use Rattle.pass_entry.specs.declared.entry.Act.TheVariants as act
use Rattle.pass_entry.specs.declared.entry.Ask.{Ask}
use Rattle.pass_entry.proofs.Places.{slice_get-take}
use Rattle.pass_plain.specs.Processes.{Process}
use Rattle.pass_plain.specs.Calls.{act_on, Made, Step, call_steps, steps_of, refused_ask, pipe_descriptors, end_of, pnode_at, place_at}
use Rattle.pass_plain.specs.declared.request.Request.{Request}
use Rattle.pass_plain.specs.declared.request.Request.TheVariants as requests
use Rattle.pass_plain.specs.Legal.{step_of}
use Rattle.pass_plain.specs.CallLaws.{NextStepLaw, BegunLaw, StepNumberLaw}
use Rattle.pass_plain.proofs.Candidates.{front_of}

pub next_step_law : NextStepLaw
next_step_law who p made r s within called begun at =
    record {
      request = r;
      named = refl;
      within = within;
      called = called;
      steps = front_of made (call_steps who p made r) s (λ j m seen.
          slice_get-take (length made) j (call_steps who p made r) (step_of m)
          (ap (λ xs. slice_get xs j) (sym begun) ∙ slice_get-map step_of made j ∙ ap (λ o. option_map step_of o) seen)) at;
    }

lifted : (n who : ℕ) (o : Option Ask) (xs ys : List Step) → take n xs ≡ take n ys
    → take n (option_map_or (λ a. act_on who (act.Deny a) ∷ []) o xs) ≡ take n (option_map_or (λ a. act_on who (act.Deny a) ∷ []) o ys)
lifted n who None xs ys e = e
lifted n who (Some a) xs ys e = refl

none_first : (who : ℕ) (p : Process) (m : ℕ × Entry) (r : Request) → take 1 (steps_of who p (m ∷ []) r) ≡ take 1 (steps_of who p [] r)
none_first who p m requests.Start = refl
none_first who p m _ = refl

one_first : (who : ℕ) (p : Process) (n m : ℕ × Entry) (r : Request) → take 2 (steps_of who p (n ∷ m ∷ []) r) ≡ take 2 (steps_of who p (n ∷ []) r)
one_first who p n m requests.Start = refl
one_first who p n m _ = refl

two_first : (who : ℕ) (p : Process) (n o : ℕ × Entry) (made more : Made) (r : Request) → steps_of who p (n ∷ o ∷ made) r ≡ steps_of who p (n ∷ o ∷ more) r
two_first who p n o made more _ = refl

-- the steps up to the next one are the same once it is made
pub steps_stay : (who : ℕ) (p : Process) (made : Made) (m : ℕ × Entry) (r : Request)
    → take (length made + 1) (call_steps who p (made ++ m ∷ []) r) ≡ take (length made + 1) (call_steps who p made r)
steps_stay who p [] m r = lifted 1 who (refused_ask p r) _ _ (none_first who p m r)
steps_stay who p (n ∷ []) m r = lifted 2 who (refused_ask p r) _ _ (one_first who p n m r)
steps_stay who p (n ∷ o ∷ made) m r =
    lifted (length (n ∷ o ∷ made) + 1) who (refused_ask p r) _ _
    (ap (take (length (n ∷ o ∷ made) + 1)) (two_first who p n o (made ++ m ∷ []) made r))

pub begun_law : BegunLaw
begun_law who p made r place e begun at =
    let m : ℕ × Entry = (place, e) in
    let front = front_of made (call_steps who p made r) (step_of m) (λ j m seen.
    slice_get-take (length made) j (call_steps who p made r) (step_of m)
    (ap (λ xs. slice_get xs j) (sym begun) ∙ slice_get-map step_of made j ∙ ap (λ o. option_map step_of o) seen)) at in
    map-append step_of made (m ∷ []) ∙ sym front ∙ sym (steps_stay who p made m r)
    ∙ ap (λ n. take n (call_steps who p (made ++ m ∷ []) r)) (let z : length made + 1 ≡ length (made ++ m ∷ []) = omega (arith, length-append made (m ∷ [])) in z)

fork_number : (joins : List Step) (a b : Step) → length (joins ++ a ∷ []) ≡ length (joins ++ b ∷ [])
fork_number joins a b = omega (arith, length-append joins (a ∷ []), length-append joins (b ∷ []))

number : (who : ℕ) (p : Process) (made more : Made) (r : Request) → length (steps_of who p made r) ≡ length (steps_of who p more r)
number who p made more requests.Fork =
    let joins : List Step = map (λ d. act_on d.pnode (act.Join (end_of d.mode))) (pipe_descriptors p) in
    let born : Made → Step = λ made. act_on (pnode_at made 0) (act.Born (place_at made 1) p.descriptors) in
    ap (λ n. suc (suc n)) (fork_number joins (born made) (born more))
number who p made more _ = refl

numbered_as : (who : ℕ) (o : Option Ask) (xs ys : List Step) → length xs ≡ length ys
    → length (option_map_or (λ a. act_on who (act.Deny a) ∷ []) o xs) ≡ length (option_map_or (λ a. act_on who (act.Deny a) ∷ []) o ys)
numbered_as who None xs ys e = e
numbered_as who (Some a) xs ys e = refl

pub step_number_law : StepNumberLaw
step_number_law who p made more r = numbered_as who (refused_ask p r) _ _ (number who p made more r)
