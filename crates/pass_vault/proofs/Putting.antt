-- What a staging leaves of what waits.
use Rattle.std.proofs.Common.{◌≡◌, ◌⊎◌, ◌<◌, ◌≤◌, ℕ, zero, suc, Bool, true, false, List, [], ◌∷◌, ◌++◌, ◌+◌, length, take, drop, get_or, IsTrue, Some, inl, inr, ⊎_elim, refl, sym, ◌∙◌, ap, subst, arith, append_assoc}
use Rattle.std.specs.Prelude.{None, slice_get, not, ◌==◌, ◌&&◌, ◌||◌}
use Rattle.std.specs.List.{list_any}
use Rattle.std.specs.Option.{option_map_or}
use Rattle.std.proofs.lemmas.List.{length-append, take-append-drop, take_more, drop_more}
use Rattle.pass_entry.specs.declared.entry.Entry.{Entry}
use Rattle.pass_outside.specs.Moments.{Moment, IsAtEnd}
use Rattle.pass_plain.specs.Sessions.{Session}
use Rattle.pass_plain.proofs.Lists.{some_is, same_numbers}
use Rattle.pass_range.specs.Dirtied.{dirtied_at}
use Rattle.pass_range.specs.Places.{place, Holds}
use Rattle.pass_log.specs.Log.{log_opened}
use Rattle.pass_book.specs.declared.view.Role.TheVariants as role
use Rattle.pass_book.specs.declared.view.VaultSync.{VaultSync}
use Rattle.pass_book.specs.Names.{name, concerns}
use Rattle.pass_book.specs.Syncs.{numbers_of}
use Rattle.pass_clean.specs.Blocks.{IsGiven, AreDirty}
use Rattle.pass_clean.specs.Cleaned.{covers, is_dirty, is_dirty_from}
use Rattle.pass_clean.proofs.Cleaning.{staged_law}
use Rattle.pass_pool.specs.declared.pool.FileBlock.{FileBlock}
use Rattle.pass_pool.specs.Pools.{pushed_out}
use Rattle.pass_keep.specs.declared.block.Block.{Block}
use Rattle.pass_keep.specs.declared.keeper.Keeper.{Keeper}
use Rattle.pass_keep.specs.Kept.{Story, Noted}
use Rattle.pass_keep.specs.Dirty.{IsFree, Beside}
use Rattle.pass_keep.specs.Keepers.{Past, disk_of, log_of, durable_of, GoesOn, Made, KeptUnsynced}
use Rattle.pass_vault.specs.declared.unwritten.Unwritten.{Unwritten}
use Rattle.pass_vault.specs.Blocks.{SomeDirtyLaw}
use Rattle.pass_vault.specs.Pooled.{Blocks, with_block, staged_all, list_of, pushed_all, Unsyncs}
use Rattle.pass_vault.specs.Saves.{Done, IsStaging, IsToStage, AreToStage, IsStageable, Stages, StagesNone}
use Rattle.pass_vault.specs.Vaulted.{file_staged}
use Rattle.pass_vault.specs.Waiting.{IsWaiting}
use Rattle.pass_vault.proofs.Pooling.{staged_push, pushed_push, unsyncs_push}
use Rattle.pass_vault.proofs.Waiting.{waiting_weaker, put_kept, put_pushed, put_lost, pushed_free, pushed_sized, cleaned_other}

-- Blocks that were given

given_front : (xs ys : List (ℕ × List ℕ)) (block i : ℕ) (x : ℕ × List ℕ) → slice_get xs i ≡ Some x → x.0 ≡ block → IsGiven (xs ++ ys) block
given_front [] ys block i x at same = absurd (cc)
given_front (y ∷ xs) ys block zero x at same = record { i = 0; x = x; is = at; same = same }
given_front (y ∷ xs) ys block (suc i) x at same = let g = given_front xs ys block i x at same in record { i = suc g.i; x = g.x; is = g.is; same = g.same }

given_split : (xs : List (ℕ × List ℕ)) (b : ℕ × List ℕ) (block i : ℕ) (x : ℕ × List ℕ) → slice_get (xs ++ b ∷ []) i ≡ Some x → x.0 ≡ block → IsGiven xs block ⊎ (block ≡ b.0)
given_split [] b block zero x at same = inr (sym same ∙ ap (λ (p : ℕ × List ℕ). p.0) (sym (some_is b x at)))
given_split [] b block (suc i) x at same = absurd (cc)
given_split (y ∷ xs) b block zero x at same = inl (record { i = 0; x = x; is = at; same = same })
given_split (y ∷ xs) b block (suc i) x at same =
    ⊎_elim (λ (g : IsGiven xs block). inl (record { i = suc g.i; x = g.x; is = g.is; same = g.same })) (λ last. inr last) (given_split xs b block i x at same)

given_any : (block : ℕ) (xs : List (ℕ × List ℕ)) → list_any (λ b. b == block) (numbers_of xs) ≡ true → IsGiven xs block
given_any block [] any = absurd (cc)
given_any block (x ∷ xs) any = by_test (x.0 == block) refl (λ rest. given_any block xs rest)
  where
    by_test : (b : Bool) → (x.0 == block) ≡ b → (list_any (λ b. b == block) (numbers_of xs) ≡ true → IsGiven xs block) → IsGiven (x ∷ xs) block
    by_test true is more = record { i = 0; x = x; is = refl; same = same_numbers x.0 block is }
    by_test false is more =
        let g = more (sym (ap (λ (b : Bool). b || list_any (λ (n : ℕ). n == block) (numbers_of xs)) is) ∙ any) in record { i = suc g.i; x = g.x; is = g.is; same = g.same }

-- One block

done_more : (clean : ℕ → ℕ → Bool) (file : ℕ) (staged : List (ℕ × List ℕ)) (b : ℕ × List ℕ) (f block : ℕ) → Done clean file (staged ++ b ∷ []) f block → Done clean file staged f block ⊎ ((f ≡ file) × (block ≡ b.0))
done_more clean file staged b f block more = ⊎_elim
    (λ (c : clean f block ≡ true). inl (inl c))
    (λ (g : (f ≡ file) × IsGiven (staged ++ b ∷ []) block). ⊎_elim (λ (old : IsGiven staged block). inl (inr (g.0, old))) (λ last. inr (g.0, last)) (given_split staged b block g.1.i g.1.x g.1.is g.1.same))
    more

done_less : (clean : ℕ → ℕ → Bool) (file : ℕ) (staged more : List (ℕ × List ℕ)) (f block : ℕ) → Done clean file staged f block → Done clean file (staged ++ more) f block
done_less clean file staged more f block old = ⊎_elim
    (λ (c : clean f block ≡ true). inl c)
    (λ (g : (f ≡ file) × IsGiven staged block). inr (g.0, given_front staged more block g.1.i g.1.x g.1.is g.1.same))
    old

module _ {D : Type 0} (view : D → Moment) (k : Keeper D) (u : Unwritten) (number : ℕ) (b : ℕ × List ℕ) (few : length u.pool.entries ≤ u.pool.cap) where
  abbrev key : FileBlock
  key = record { number = number; block = b.0 }

  abbrev next : Blocks
  next = with_block u.pool number b

  abbrev m : Moment
  m = view (disk_of k)

  abbrev opened : ℕ
  opened = log_opened (log_of k)

  -- nothing is pushed out
  pub stages_kept : pushed_out u.pool key ≡ None → Stages view number (b ∷ []) k u k (record { pool = next; unsynced = u.unsynced })
  stages_kept none = λ past since clean file staged within st to.
      let t = to 0 b refl in
      record {
        keeper = st.keeper;
        waiting = put_kept past.story st.keeper.story past.noted (durable_of k) within m u.pool u.unsynced since opened (Done clean file staged) (Done clean file (staged ++ b ∷ [])) st.waiting number b t.dirty t.bytes few
            (λ f block more. ⊎_elim (λ old. inl old) (λ last. inr (last.0 ∙ sym t.of_file, last.1)) (done_more clean file staged b f block more)) none;
      }

  -- a block is, and is written
  module _ (out : FileBlock × List ℕ) (pushed : pushed_out u.pool key ≡ Some out) (x : Block) (of_file : x.number ≡ out.0.number) (at_block : x.block ≡ out.0.block) (its : x.bytes.now ≡ out.1) where
    pub out_sized : IsStageable view k u number (b ∷ []) → (x.block < 1024) × (length x.bytes.now ≤ 4096)
    out_sized known =
        let (past, since, clean, file, staged, within, st, to) = known in
        let t = to 0 b refl in
        pushed_sized past.story st.keeper.story past.noted (durable_of k) within m u.pool u.unsynced since opened (Done clean file staged) (Done clean file (staged ++ b ∷ [])) st.waiting number b t.dirty t.bytes few
        (λ f block more. ⊎_elim (λ old. inl old) (λ last. inr (last.0 ∙ sym t.of_file, last.1)) (done_more clean file staged b f block more)) out pushed x of_file at_block its
        m refl (omega arith) (λ ended. ended)

    module _ (new : Keeper D) (kept : KeptUnsynced view (x ∷ []) k new) (goes : GoesOn m (view (disk_of new))) (log : log_of new ≡ log_of k) (count : durable_of new ≡ durable_of k) where
      its_free : (past : Past) (since : ℕ) (clean : ℕ → ℕ → Bool) (file : ℕ) (staged : List (ℕ × List ℕ)) → durable_of k ≤ length past.story.history → IsStaging view past since k u (Done clean file staged)
          → AreToStage past.story past.noted (durable_of k) number file (b ∷ []) → (i : ℕ) (y : Block) → slice_get (x ∷ []) i ≡ Some y → IsFree past.story past.noted (durable_of k) y.number y.block
      its_free past since clean file staged within st to zero y at =
          let t = to 0 b refl in
          subst (λ (z : Block). IsFree past.story past.noted (durable_of k) z.number z.block) (some_is x y at)
          (pushed_free past.story st.keeper.story past.noted (durable_of k) within m u.pool u.unsynced since opened (Done clean file staged) (Done clean file (staged ++ b ∷ [])) st.waiting number b t.dirty t.bytes few
          (λ f block more. ⊎_elim (λ old. inl old) (λ last. inr (last.0 ∙ sym t.of_file, last.1)) (done_more clean file staged b f block more)) out pushed x of_file at_block its
          m refl (omega arith) (λ ended. ended))
      its_free past since clean file staged within st to (suc i) y at = absurd (cc)

      -- the same of the keeper after it
      moved : (past : Past) (since : ℕ) (pool : Blocks) (Clean : ℕ → ℕ → Type 0) → IsWaiting past.story past.noted (durable_of k) (view (disk_of new)) pool true since opened Clean
          → IsWaiting past.story past.noted (durable_of new) (view (disk_of new)) pool true since (log_opened (log_of new)) Clean
      moved past since pool Clean waiting =
          subst (λ (o : ℕ). IsWaiting past.story past.noted (durable_of new) (view (disk_of new)) pool true since o Clean) (sym (ap log_opened log))
          (subst (λ (n : ℕ). IsWaiting past.story past.noted n (view (disk_of new)) pool true since opened Clean) (sym count) waiting)

      pub stages_pushed : (IsTrue m.tells → Holds (place x.number x.block) x.bytes.now (view (disk_of new)).seen.store) → (IsTrue m.tells → Beside (x ∷ []) m.seen (view (disk_of new)).seen)
          → Stages view number (b ∷ []) k u new (record { pool = next; unsynced = true })
      stages_pushed held beside = λ past since clean file staged within st to.
          let t = to 0 b refl in
          record {
            keeper = kept past st.keeper (λ told i y at. its_free past since clean file staged within st to i y at);
            waiting = moved past since next (Done clean file (staged ++ b ∷ []))
                (put_pushed past.story st.keeper.story past.noted (durable_of k) within m u.pool u.unsynced since opened (Done clean file staged) (Done clean file (staged ++ b ∷ [])) st.waiting number b t.dirty t.bytes few
                (λ f block more. ⊎_elim (λ old. inl old) (λ last. inr (last.0 ∙ sym t.of_file, last.1)) (done_more clean file staged b f block more)) out pushed x of_file at_block its
                (view (disk_of new)) goes.0 goes.1 goes.3 held beside);
          }

      pub stages_lost : ((m.faults < (view (disk_of new)).faults) ⊎ IsAtEnd (view (disk_of new))) → StagesNone view number (b ∷ []) k u new (record { pool = next; unsynced = true })
      stages_lost bad = λ past since clean file staged within st to.
          let t = to 0 b refl in
          let first : opened ≤ m.faults = st.keeper.kept.settled.opened in
          record {
            keeper = kept past st.keeper (λ told i y at. its_free past since clean file staged within st to i y at);
            waiting = moved past since next (Done clean file staged)
                (put_lost past.story st.keeper.story past.noted (durable_of k) within m u.pool u.unsynced since opened (Done clean file staged) (Done clean file staged) st.waiting number b t.dirty t.bytes few
                (λ f block more. inl more) out pushed x of_file at_block its (view (disk_of new)) goes.0 goes.1 goes.3
                (λ healthy going. ⊎_elim (λ rose. omega (arith, rose, healthy, first)) going bad));
          }

-- Some blocks

to_front : (s : Story) (noted : List Noted) (n number file : ℕ) (xs ys : List (ℕ × List ℕ)) → AreToStage s noted n number file (xs ++ ys) → AreToStage s noted n number file xs
to_front s noted n number file xs ys to i x at = to i x (in_front xs i at)
  where
    in_front : (xs : List (ℕ × List ℕ)) (i : ℕ) → slice_get xs i ≡ Some x → slice_get (xs ++ ys) i ≡ Some x
    in_front [] i at = absurd (cc)
    in_front (z ∷ xs) zero at = at
    in_front (z ∷ xs) (suc i) at = in_front xs i at

to_last : (s : Story) (noted : List Noted) (n number file : ℕ) (xs : List (ℕ × List ℕ)) (b : ℕ × List ℕ) (ys : List (ℕ × List ℕ)) → AreToStage s noted n number file (xs ++ b ∷ ys) → AreToStage s noted n number file (b ∷ [])
to_last s noted n number file xs b ys to zero x at = subst (IsToStage s noted n number file) (some_is b x at) (to (length xs) b (here xs))
  where
    here : (xs : List (ℕ × List ℕ)) → slice_get (xs ++ b ∷ ys) (length xs) ≡ Some b
    here [] = refl
    here (z ∷ xs) = here xs
to_last s noted n number file xs b ys to (suc i) x at = absurd (cc)

module _ {D : Type 0} (view : D → Moment) (number : ℕ) (k : Keeper D) (u : Unwritten) where
  -- after some of them, somebody knows for which session the next one is staged
  module _ (xs : List (ℕ × List ℕ)) (b : ℕ × List ℕ) (ys : List (ℕ × List ℕ)) (mid : Keeper D) (v : Unwritten) (first : Stages view number xs k u mid v) (count : durable_of mid ≡ durable_of k) where
    to_mid : (past : Past) (file : ℕ) → AreToStage past.story past.noted (durable_of k) number file (xs ++ b ∷ ys) → AreToStage past.story past.noted (durable_of mid) number file (b ∷ [])
    to_mid past file to = subst (λ (n : ℕ). AreToStage past.story past.noted n number file (b ∷ [])) (sym count) (to_last past.story past.noted (durable_of k) number file xs b ys to)

    pub stageable_next : IsStageable view k u number (xs ++ b ∷ ys) → IsStageable view mid v number (b ∷ [])
    stageable_next known =
        let (past, since, clean, file, staged, within, st, to) = known in
        (past, since, clean, file, staged ++ xs, omega (arith, within, count), first past since clean file staged within st (to_front past.story past.noted (durable_of k) number file xs (b ∷ ys) to), to_mid past file to)

    -- one more
    pub stages_more : (new : Keeper D) (w : Unwritten) → Stages view number (b ∷ []) mid v new w → ys ≡ [] → Stages view number (xs ++ b ∷ ys) k u new w
    stages_more new w second last = λ past since clean file staged within st to.
        let was = first past since clean file staged within st (to_front past.story past.noted (durable_of k) number file xs (b ∷ ys) to) in
        let both : (staged ++ xs) ++ b ∷ [] ≡ staged ++ (xs ++ b ∷ ys) = append_assoc staged xs (b ∷ []) ∙ ap (λ (l : List (ℕ × List ℕ)). staged ++ (xs ++ b ∷ l)) (sym last) in
        subst (λ (l : List (ℕ × List ℕ)). IsStaging view past since new w (Done clean file l)) both
        (second past since clean file (staged ++ xs) (omega (arith, within, count)) was (to_mid past file to))

    -- or it failed
    pub stages_failed : (new : Keeper D) (w : Unwritten) → StagesNone view number (b ∷ []) mid v new w → StagesNone view number (xs ++ b ∷ ys) k u new w
    stages_failed new w second = λ past since clean file staged within st to.
        let was = first past since clean file staged within st (to_front past.story past.noted (durable_of k) number file xs (b ∷ ys) to) in
        let after = second past since clean file (staged ++ xs) (omega (arith, within, count)) was (to_mid past file to) in
        record {
          keeper = after.keeper;
          waiting = waiting_weaker past.story past.noted (durable_of new) (view (disk_of new)) w.pool w.unsynced since (log_opened (log_of new)) (Done clean file (staged ++ xs)) (Done clean file staged) (done_less clean file staged xs) after.waiting;
        }

  pub stages_still : (xs ys : List (ℕ × List ℕ)) (mid : Keeper D) (v : Unwritten) → Stages view number xs k u mid v → StagesNone view number (xs ++ ys) k u mid v
  stages_still xs ys mid v first = λ past since clean file staged within st to.
      let was = first past since clean file staged within st (to_front past.story past.noted (durable_of k) number file xs ys to) in
      record {
        keeper = was.keeper;
        waiting = waiting_weaker past.story past.noted (durable_of mid) (view (disk_of mid)) v.pool v.unsynced since (log_opened (log_of mid)) (Done clean file (staged ++ xs)) (Done clean file staged) (done_less clean file staged xs) was.waiting;
      }

-- A loop over the blocks, at the place i
module _ {D : Type 0} (view : D → Moment) (number : ℕ) (k : Keeper D) (u : Unwritten) (xs : List (ℕ × List ℕ)) (i : ℕ) (mid : Keeper D) (v : Unwritten) (first : Stages view number (take i xs) k u mid v) where
  -- no further block
  pub loop_still : StagesNone view number xs k u mid v
  loop_still = subst (λ (l : List (ℕ × List ℕ)). StagesNone view number l k u mid v) (take-append-drop i xs) (stages_still view number k u (take i xs) (drop i xs) mid v first)

  module _ (d : ℕ × List ℕ) (less : i < length xs) (count : durable_of mid ≡ durable_of k) where
    abbrev one : ℕ × List ℕ
    one = get_or xs i d

    split : take i xs ++ one ∷ drop (i + 1) xs ≡ xs
    split = ap (λ (l : List (ℕ × List ℕ)). take i xs ++ l) (sym (drop_more xs i d less)) ∙ take-append-drop i xs

    pub loop_known : IsStageable view k u number xs → IsStageable view mid v number (one ∷ [])
    loop_known known = stageable_next view number k u (take i xs) one (drop (i + 1) xs) mid v first count (subst (IsStageable view k u number) (sym split) known)

    pub loop_more : (new : Keeper D) (w : Unwritten) → Stages view number (one ∷ []) mid v new w → Stages view number (take (i + 1) xs) k u new w
    loop_more new w second = subst (λ (l : List (ℕ × List ℕ)). Stages view number l k u new w) (sym (take_more xs i d less)) (stages_more view number k u (take i xs) one [] mid v first count new w second refl)

    pub loop_failed : (new : Keeper D) (w : Unwritten) → StagesNone view number (one ∷ []) mid v new w → StagesNone view number xs k u new w
    loop_failed new w second = subst (λ (l : List (ℕ × List ℕ)). StagesNone view number l k u new w) split (stages_failed view number k u (take i xs) one (drop (i + 1) xs) mid v first count new w second)

-- what the loop counts
pub goes_more : (a b e : Moment) → GoesOn a b → GoesOn b e → GoesOn a e
goes_more a b e first second = (second.0 ∙ first.0, omega (arith, first.1, second.1), omega (arith, first.2, second.2), λ ended. second.3 (first.3 ended))

module _ (pool : Blocks) (number : ℕ) (xs : List (ℕ × List ℕ)) (i : ℕ) (d one : ℕ × List ℕ) (less : i < length xs) (same : get_or xs i d ≡ one) (mid : Blocks) (was : mid ≡ staged_all pool number (take i xs)) where
  list_more : take (i + 1) xs ≡ take i xs ++ one ∷ []
  list_more = take_more xs i d less ∙ ap (λ (b : ℕ × List ℕ). take i xs ++ b ∷ []) same

  abbrev out : Blocks → List (FileBlock × List ℕ)
  out p = list_of (pushed_out p (record { number = number; block = one.0 }))

  pub pool_more : (new : Blocks) → new ≡ with_block mid number one → new ≡ staged_all pool number (take (i + 1) xs)
  pool_more new is = is ∙ ap (λ (p : Blocks). with_block p number one) was ∙ sym (staged_push pool number (take i xs) one) ∙ ap (staged_all pool number) (sym list_more)

  pub unsyncs_more : (first second third : Bool) → Unsyncs (pushed_all pool number (take i xs)) first second → Unsyncs (out mid) second third → Unsyncs (pushed_all pool number (take (i + 1) xs)) first third
  unsyncs_more first second third before after =
      subst (λ (l : List (ℕ × List ℕ)). Unsyncs (pushed_all pool number l) first third) (sym list_more)
      (unsyncs_push pool number (take i xs) one first second third before (subst (λ (p : Blocks). Unsyncs (out p) second third) was after))

  pub made_more : (a b e : Moment) → Made (length (pushed_all pool number (take i xs))) a b → Made (length (out mid)) b e → Made (length (pushed_all pool number (take (i + 1) xs))) a e
  made_more a b e first second =
      let count : length (pushed_all pool number (take (i + 1) xs)) ≡ length (pushed_all pool number (take i xs)) + length (out mid) =
      ap (λ (l : List (ℕ × List ℕ)). length (pushed_all pool number l)) list_more ∙ ap length (pushed_push pool number (take i xs) one)
      ∙ length-append (pushed_all pool number (take i xs)) (out (staged_all pool number (take i xs)))
      ∙ ap (λ (p : Blocks). length (pushed_all pool number (take i xs)) + length (out p)) (sym was) in
      (omega (arith, first.0, second.0, count), second.1 ∙ first.1)

-- What a staging cleans

pub staged_clean : (session : Session) (history : List Entry) (ss : List VaultSync) (file number calls entries : ℕ) (blocks : List (ℕ × List ℕ)) → length history ≤ entries → (f block : ℕ)
    → is_dirty session history (ss ++ file_staged file number calls entries blocks ∷ []) f block ≡ false → Done (λ f block. not (is_dirty session history ss f block)) file blocks f block
staged_clean session history ss file number calls entries blocks all f block test = by_file (file == f) refl
  where
    still_clean : is_dirty session history ss f block ≡ false → not (is_dirty session history ss f block) ≡ true
    still_clean is = ap not is

    by_both : (a b : Bool) → is_dirty session history ss f block ≡ a → list_any (λ n. n == block) (numbers_of blocks) ≡ b → (a && not b) ≡ false → f ≡ file → Done (λ f block. not (is_dirty session history ss f block)) file blocks f block
    by_both false b one two is same = inl (still_clean one)
    by_both true true one two is same = inr (same, given_any block blocks two)
    by_both true false one two is same = absurd (cc)

    by_file : (b : Bool) → (file == f) ≡ b → Done (λ f block. not (is_dirty session history ss f block)) file blocks f block
    by_file true is =
        let same = same_numbers file f is in
        let law = staged_law session history ss (file_staged file number calls entries blocks) number file block (numbers_of blocks) refl refl all in
        let at_file = ap (λ (q : ℕ). is_dirty session history (ss ++ file_staged file number calls entries blocks ∷ []) q block) same ∙ test in
        let own : is_dirty session history ss f block ≡ is_dirty session history ss file block = ap (λ (q : ℕ). is_dirty session history ss q block) (sym same) in
        by_both (is_dirty session history ss file block) (list_any (λ n. n == block) (numbers_of blocks)) own refl (sym law ∙ at_file) (sym same)
    by_file false is =
        let y = file_staged file number calls entries blocks in
        let apart : concerns (name role.Desk f) y && covers block y ≡ false = ap (λ (b : Bool). b && covers block y) is in
        inl (still_clean (ap (λ (c : ℕ). option_map_or (is_dirty_from c) (dirtied_at session history f block) false) (sym (cleaned_other f block ss y apart)) ∙ test))

-- the first of all dirty blocks are some of them
pub some_dirty_law : SomeDirtyLaw
unfolding AreDirty
some_dirty_law session history syncs file blocks n are = record {
  each = λ i x at. are.each i x (there n blocks i x at);
  rising = λ i j x y less one two. are.rising i j x y less (there n blocks i x one) (there n blocks j y two);
}
  where
    there : (n : ℕ) (xs : List (ℕ × List ℕ)) (i : ℕ) (x : ℕ × List ℕ) → slice_get (take n xs) i ≡ Some x → slice_get xs i ≡ Some x
    there zero xs i x at = absurd (cc)
    there (suc n) [] i x at = absurd (cc)
    there (suc n) (y ∷ xs) zero x at = at
    there (suc n) (y ∷ xs) (suc i) x at = there n xs i x at
