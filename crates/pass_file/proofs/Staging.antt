-- A file some blocks of which were staged.
use Rattle.std.proofs.Common.{◌≡◌, ◌∙◌, ℕ, ◌≤◌, ◌^◌, ◌+◌, ◌==◌, ◌&&◌, ◌||◌, Bool, true, false, List, [], ◌∷◌, ◌++◌, length, take, refl, sym, ap, subst}
use Rattle.std.specs.Prelude.{Some, not}
use Rattle.std.specs.List.{list_any}
use Rattle.std.proofs.lemmas.List.{map-append}
use Rattle.std.proofs.lemmas.List.Folds.{list_any-append}
use mathlib.Core.List.{IsPrefix}
use Rattle.pass_plain.specs.Lawful.{AgreeOn}
use Rattle.pass_plain.specs.Legal.{IsLegal}
use Rattle.pass_plain.specs.Recording.{block_count, flags}
use Rattle.pass_book.specs.Syncs.{numbers_of}
use Rattle.pass_book.specs.Tokens.{BookId, DeskState}
use Rattle.pass_clean.specs.Cleaned.{is_dirty}
use Rattle.pass_clean.proofs.Cleaning.{staged_law}
use Rattle.pass_file.specs.Desks.{IsFile, IsFileAfter, IsStagedLast}
use Rattle.pass_file.specs.FileViews.{FileView}
use Rattle.pass_file.proofs.Seen.{file_later}
use Rattle.pass_file.proofs.Turning.{flags_agree}

-- One block more is clean

among_more : (block : ℕ) (blocks : List (ℕ × List ℕ)) (i : ℕ) (x : ℕ × List ℕ) → numbers_of (take (i + 1) blocks) ≡ numbers_of (take i blocks) ++ x.0 ∷ []
    → list_any (λ b. b == block) (numbers_of (take (i + 1) blocks)) ≡ (list_any (λ b. b == block) (numbers_of (take i blocks)) || (x.0 == block))
among_more block blocks i x more =
    ap (list_any (λ b. b == block)) more ∙ list_any-append (λ b. b == block) (numbers_of (take i blocks)) (x.0 ∷ []) ∙ ap (λ t. list_any (λ b. b == block) (numbers_of (take i blocks)) || t) (last (x.0 == block))
  where
    last : (t : Bool) → (t || false) ≡ t
    last true = refl
    last false = refl

neither : (was among here : Bool) → ((was && not among) && not here) ≡ (was && not (among || here))
neither true true here = refl
neither true false here = refl
neither false true here = refl
neither false false here = refl

pub one_clean : (was : ℕ → Bool) (blocks : List (ℕ × List ℕ)) (i : ℕ) (x : ℕ × List ℕ) → take (i + 1) blocks ≡ take i blocks ++ x ∷ []
    → flags (λ b. (was b && not (list_any (λ n. n == b) (numbers_of (take i blocks)))) && not (x.0 == b)) block_count
    ≡ flags (λ b. was b && not (list_any (λ n. n == b) (numbers_of (take (i + 1) blocks)))) block_count
one_clean was blocks i x more =
    flags_agree (λ b. (was b && not (list_any (λ n. n == b) (numbers_of (take i blocks)))) && not (x.0 == b)) (λ b. was b && not (list_any (λ n. n == b) (numbers_of (take (i + 1) blocks)))) block_count
    (λ b low.
    neither (was b) (list_any (λ n. n == b) (numbers_of (take i blocks))) (x.0 == b)
    ∙ ap (λ t. was b && not t) (sym (among_more b blocks i x (ap numbers_of more ∙ map-append (λ (b : ℕ × List ℕ). b.0) (take i blocks) (x ∷ [])))))

-- A file whose desk sees more of the history, and then a staging of some blocks with all that it has seen

pub file_staged : (book : BookId) (d now : DeskState) (n : ℕ) (f : FileView) (blocks : List ℕ) (dirty : List Bool) → IsFile book d n f → now.book ≡ book → now.what ≡ d.what → IsPrefix d.seen now.seen
    → AgreeOn d.what d.seen now.seen → IsStagedLast d.what n blocks now.seen d.syncs now.syncs → IsLegal book.session now.seen → length now.seen ≤ 2 ^ 32
    → ((was : ℕ → Bool) → f.dirty ≡ flags was block_count → dirty ≡ flags (λ block. was block && not (list_any (λ b. b == block) blocks)) block_count)
    → IsFile book now n (record f { dirty = dirty })
file_staged book d now n f blocks dirty is of what begins agrees s legal few cleaned =
    let mid : DeskState = record now { syncs = s.before } in
    let later = file_later book d mid n f is of what begins agrees s.listed legal few in
    let g : FileView = record f { dirty = dirty } in
    let mark = s.file ∙ (λ i. Some (record { pnode = sym what i; number = n })) in
    let content : IsFileAfter book.session now.seen (s.before ++ s.sync ∷ []) now.what g = record {
      bytes = later.content.bytes;
      rows = later.content.rows;
      dirty = cleaned (is_dirty book.session now.seen s.before now.what) later.content.dirty
          ∙ ap (λ (was : ℕ → Bool). flags was block_count) (λ i block. sym (staged_law book.session now.seen s.before s.sync n now.what block blocks mark s.these s.all) i);
    } in
    record {
      version = record { of_book = of; node = later.version.node; lineage = later.version.lineage; few = few };
      content = subst (λ ss. IsFileAfter book.session now.seen ss now.what g) (sym s.list) content;
      number = later.number;
    }
