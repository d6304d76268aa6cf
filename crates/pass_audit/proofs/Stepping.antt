-- What a list says of a file, by the file's own steps.
use Rattle.std.proofs.Common.{◌≡◌, ◌∙◌, ◌==◌, ◌&&◌, ◌*◌, ◌++◌, ℕ, Bool, true, false, not, cond, List, [], ◌∷◌, refl, sym, ap, append_assoc, append-nil}
use Rattle.std.specs.Prelude.{Option, Some, None, fold, nat_le, nat_lt, if◌then◌else◌}
use Rattle.std.specs.List.{before_first, cons_option}
use Rattle.std.specs.Option.{option_map_or}
use Rattle.std.proofs.lemmas.List.Sums.{take_while-cons}
use Rattle.pass_entry.specs.declared.objects.Kind.{Kind}
use Rattle.pass_entry.specs.declared.objects.Kind.TheVariants as kind
use Rattle.pass_entry.specs.declared.objects.Node.{Node}
use Rattle.pass_entry.specs.declared.record.Record.{Record}
use Rattle.pass_entry.specs.declared.record.Record.TheVariants as log
use Rattle.pass_entry.specs.Limits.{block_size}
use Rattle.pass_plain.specs.Registries.{same_kind}
use Rattle.pass_plain.specs.WellLogged.{kind_look, is_file_of, version_look, current_of, size_look, size_of}
use Rattle.pass_range.specs.Rows.{row_of}
use Rattle.pass_range.specs.Sources.{stays, sets, goes, touch_of, row_after}
use Rattle.pass_range.proofs.LastRows.{row-next}
use Rattle.pass_audit.specs.Audits.{begins_later}
use Rattle.pass_audit.specs.Courses.{own_step, own_steps, is_later, file_step, version_step, size_step, row_step}
use Rattle.pass_audit.specs.declared.steps.Step.{Step}
use Rattle.pass_audit.specs.declared.steps.Step.TheVariants.{Made, Version, Size, Digest}

-- a fold over records, each of which counts by what it says of the file
own_fold : {X Y : Type 0} (file : ℕ) (look : X → Record → X) (step : Y → Step → Y) (h : X → Y)
    → ((x : X) (r : Record) → h (look x r) ≡ option_map_or (step (h x)) (own_step file r) (h x))
    → (x : X) (list : List Record) → h (fold look x list) ≡ fold step (h x) (own_steps file list)
own_fold file look step h agrees x [] = refl
own_fold file look step h agrees x (r ∷ list) =
    own_fold file look step h agrees (look x r) list ∙ ap (λ y. fold step y (own_steps file list)) (agrees x r) ∙ by (own_step file r)
  where
    by : (o : Option Step) → fold step (option_map_or (step (h x)) o (h x)) (own_steps file list) ≡ fold step (h x) (cons_option o (own_steps file list))
    by None = refl
    by (Some s) = refl

-- a step that changes nothing, and one that does
idle : {Y : Type 0} (step : Y → Step → Y) (y : Y) (s : Step) → step y s ≡ y → (b : Bool) → y ≡ option_map_or (step y) (if b then Some s else None) y
idle step y s same true = sym same
idle step y s same false = refl

moved : {Y : Type 0} (step : Y → Step → Y) (y z : Y) (s : Step) → step y s ≡ z → (b : Bool) → (if b then z else y) ≡ option_map_or (step y) (if b then Some s else None) y
moved step y z s same true = sym same
moved step y z s same false = refl

abbrev is_known_file : Option Kind → Bool
is_known_file known = option_map_or (λ k. same_kind k kind.File) known false

module _ (file : ℕ) where
  file_agrees : (known : Option Kind) (r : Record) → is_known_file (kind_look file known r) ≡ option_map_or (file_step (is_known_file known)) (own_step file r) (is_known_file known)
  file_agrees known (log.Object pnode k) = by (pnode == file)
    where
      by : (b : Bool) → is_known_file (if b then Some k else known) ≡ option_map_or (file_step (is_known_file known)) (if b then Some (Made (same_kind k kind.File)) else None) (is_known_file known)
      by true = refl
      by false = refl
  file_agrees known (log.Version node) = idle file_step (is_known_file known) (Version node.version) refl (node.pnode == file)
  file_agrees known (log.Size pnode size) = idle file_step (is_known_file known) (Size size) refl (pnode == file)
  file_agrees known (log.Digest pnode block md5) = idle file_step (is_known_file known) (Digest block md5) refl (pnode == file)
  file_agrees known _ = refl

  version_agrees : (v : ℕ) (r : Record) → version_look file v r ≡ option_map_or (version_step v) (own_step file r) v
  version_agrees v (log.Version node) = moved version_step v node.version (Version node.version) refl (node.pnode == file)
  version_agrees v (log.Object pnode k) = idle version_step v (Made (same_kind k kind.File)) refl (pnode == file)
  version_agrees v (log.Size pnode size) = idle version_step v (Size size) refl (pnode == file)
  version_agrees v (log.Digest pnode block md5) = idle version_step v (Digest block md5) refl (pnode == file)
  version_agrees v _ = refl

  size_agrees : (n : ℕ) (r : Record) → size_look file n r ≡ option_map_or (size_step n) (own_step file r) n
  size_agrees n (log.Size pnode size) = moved size_step n size (Size size) refl (pnode == file)
  size_agrees n (log.Object pnode k) = idle size_step n (Made (same_kind k kind.File)) refl (pnode == file)
  size_agrees n (log.Version node) = idle size_step n (Version node.version) refl (node.pnode == file)
  size_agrees n (log.Digest pnode block md5) = idle size_step n (Digest block md5) refl (pnode == file)
  size_agrees n _ = refl

  module _ (block : ℕ) where
    abbrev row_look : Option (List ℕ) → Record → Option (List ℕ)
    row_look row r = row_after (touch_of file block r) row

    row_agrees : (row : Option (List ℕ)) (r : Record) → row_look row r ≡ option_map_or (row_step block row) (own_step file r) row
    row_agrees row (log.Size pnode size) =
        by (pnode == file) (nat_le size (block * block_size)) ∙ moved (row_step block) row (if nat_le size (block * block_size) then None else row) (Size size) refl (pnode == file)
      where
        by : (b d : Bool) → row_after (if b && d then goes else stays) row ≡ (if b then (if d then None else row) else row)
        by true true = refl
        by true false = refl
        by false d = refl
    row_agrees row (log.Digest pnode one md5) =
        by (pnode == file) (one == block) ∙ moved (row_step block) row (if one == block then Some md5 else row) (Digest one md5) refl (pnode == file)
      where
        by : (b d : Bool) → row_after (if b && d then sets md5 else stays) row ≡ (if b then (if d then Some md5 else row) else row)
        by true true = refl
        by true false = refl
        by false d = refl
    row_agrees row (log.Object pnode k) = idle (row_step block) row (Made (same_kind k kind.File)) refl (pnode == file)
    row_agrees row (log.Version node) = idle (row_step block) row (Version node.version) refl (node.pnode == file)
    row_agrees row _ = refl

    row_fold : (xs ys : List Record) → row_of (xs ++ ys) file block ≡ fold row_look (row_of xs file block) ys
    row_fold xs [] = ap (λ (l : List Record). row_of l file block) (append-nil xs)
    row_fold xs (r ∷ ys) =
        ap (λ (l : List Record). row_of l file block) (sym (append_assoc xs (r ∷ []) ys)) ∙ row_fold (xs ++ r ∷ []) ys
        ∙ ap (λ (o : Option (List ℕ)). fold row_look o ys) (row-next xs r file block)

  pub own_file : (list : List Record) → is_file_of list file ≡ fold file_step false (own_steps file list)
  own_file list = own_fold file (kind_look file) file_step is_known_file file_agrees None list

  pub own_version : (list : List Record) → current_of list file ≡ fold version_step 1 (own_steps file list)
  own_version list = own_fold file (version_look file) version_step (λ v. v) version_agrees 1 list

  pub own_size : (list : List Record) → size_of list file ≡ fold size_step 0 (own_steps file list)
  own_size list = own_fold file (size_look file) size_step (λ n. n) size_agrees 0 list

  pub own_row : (list : List Record) (block : ℕ) → row_of list file block ≡ fold (row_step block) None (own_steps file list)
  own_row list block = row_fold block [] list ∙ own_fold file (row_look block) (row_step block) (λ o. o) (row_agrees block) None list

-- the steps before a later version are those of the log as the version ended
module _ (node : Node) (before own : List Step) (rest : before ≡ before_first (is_later node.version) own) where
  abbrev goes_on : Step → Bool
  goes_on s = not (is_later node.version s)

  stepped : (s : Step) → is_later node.version s ≡ false → (b : Bool) → cons_option (if b then Some s else None) before ≡ before_first (is_later node.version) (cons_option (if b then Some s else None) own)
  stepped s calm false = rest
  stepped s calm true =
      ap (λ xs. s ∷ xs) rest ∙ sym (take_while-cons goes_on s own ∙ ap (λ c. cond (not c) (s ∷ before_first (is_later node.version) own) []) calm)

  first_before : (r : Record) → cond (not (begins_later node r)) (cons_option (own_step node.pnode r) before) [] ≡ before_first (is_later node.version) (cons_option (own_step node.pnode r) own)
  first_before (log.Version next) = by (next.pnode == node.pnode)
    where
      by : (b : Bool) → cond (not (b && nat_lt node.version next.version)) (cons_option (if b then Some (Version next.version) else None) before) []
          ≡ before_first (is_later node.version) (cons_option (if b then Some (Version next.version) else None) own)
      by false = rest
      by true = ap (λ xs. cond (not (nat_lt node.version next.version)) (Version next.version ∷ xs) []) rest ∙ sym (take_while-cons goes_on (Version next.version) own)
  first_before (log.Object pnode k) = stepped (Made (same_kind k kind.File)) refl (pnode == node.pnode)
  first_before (log.Size pnode size) = stepped (Size size) refl (pnode == node.pnode)
  first_before (log.Digest pnode block md5) = stepped (Digest block md5) refl (pnode == node.pnode)
  first_before _ = rest

pub own_before : (node : Node) (list : List Record) → own_steps node.pnode (before_first (begins_later node) list) ≡ before_first (is_later node.version) (own_steps node.pnode list)
own_before node [] = refl
own_before node (r ∷ list) =
    ap (own_steps node.pnode) (take_while-cons (λ r. not (begins_later node r)) r list) ∙ by (not (begins_later node r))
    ∙ first_before node (own_steps node.pnode (before_first (begins_later node) list)) (own_steps node.pnode list) (own_before node list) r
  where
    by : (b : Bool) → own_steps node.pnode (cond b (r ∷ before_first (begins_later node) list) []) ≡ cond b (cons_option (own_step node.pnode r) (own_steps node.pnode (before_first (begins_later node) list))) []
    by true = refl
    by false = refl
