use Rattle.std.proofs.Common.{◌≡◌, ◌∙◌, ◌+◌, ◌-◌, ◌++◌, ◌∷◌, [], ℕ, map, ap, sym, arith, append_assoc}
use Rattle.std.specs.List.{range_with_len}
use Rattle.std.proofs.lemmas.List.FromFn.{map-range_with_len_more}
use Rattle.std.proofs.lemmas.List.{append-nil}
use Rattle.pass_entry.specs.declared.record.Record.{Record}
use Rattle.pass_plain.specs.Files.{file_act}
use Rattle.pass_plain.specs.Records.{digest_of}
use Rattle.pass_file.proofs.digests.add_all.Goals as goal

pub loop-block-init : goal.loop-block-init
loop-block-init c = record {
  from = omega arith;
  list = sym
      (ap (λ n. c.args.list.now.items ++ map (digest_of c.args.file (file_act c.args.content.now.bytes c.args.act.now)) (range_with_len c.args.first n)) (let z : c.args.first - c.args.first ≡ 0 = omega arith in z)
      ∙ append-nil c.args.list.now.items);
  few = omega arith;
  room = omega arith;
}

pub push_reserved-requires : goal.push_reserved-requires
push_reserved-requires c =
    let i = c.loop-block.invariant in
    let few = i.few in
    let room = i.room in
    let enough = c.requires.room in
    let test = c.loop-block-test.true in
    let from = i.from in
    omega (arith, few, room, enough, test, from)

pub loop-block-preserved : goal.loop-block-preserved
loop-block-preserved c =
    let a = c.args in
    let i = c.loop-block.invariant in
    let block = c.loop-block.block in
    let f : ℕ → Record = digest_of a.file (file_act a.content.now.bytes a.act.now) in
    let from = i.from in
    let few = i.few in
    let room = i.room in
    let len = c.push_reserved.ensures.len in
    let capacity = c.push_reserved.ensures.capacity in
    record {
      from = omega (arith, from);
      list = c.push_reserved.ensures.items
          ∙ (λ k. i.list k ++ c.digest_after.ensures k ∷ [])
          ∙ append_assoc a.list.now.items (map f (range_with_len a.first (block - a.first))) (f block ∷ [])
          ∙ ap (λ xs. a.list.now.items ++ xs)
          (sym (map-range_with_len_more f a.first (block - a.first) block (omega (arith, from))) ∙ ap (λ n. map f (range_with_len a.first n)) (let z : block - a.first + 1 ≡ block + 1 - a.first = omega (arith, from) in z));
      few = omega (arith, few, len);
      room = omega (arith, room, capacity);
    }

pub returns : goal.returns
returns c =
    let a = c.args in
    let order = c.requires.order in
    let last : c.loop-block.block ≡ a.end = omega (arith, c.loop-block-test.false, c.loop-block.auto.block-end, order) in
    c.loop-block.invariant.list ∙ ap (λ n. a.list.now.items ++ map (digest_of a.file (file_act a.content.now.bytes a.act.now)) (range_with_len a.first (n - a.first))) last
