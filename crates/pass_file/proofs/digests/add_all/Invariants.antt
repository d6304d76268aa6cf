use Rattle.std.proofs.Common.{◌≡◌, ◌+◌, ◌-◌, ◌≤◌, ◌++◌, map, vec_len, vec_capacity}
use Rattle.std.specs.List.{range_with_len}
use Rattle.pass_plain.specs.Files.{file_act}
use Rattle.pass_plain.specs.Records.{digest_of}
use Rattle.pass_file.proofs.digests.add_all.Given as goal

abbrev pub invariant-loop-block : goal.invariant-loop-block
invariant-loop-block l = record {
  from : l.first ≤ l.block;
  list : l.list.items ≡ l.fn.list.items ++ map (digest_of l.file (file_act l.content.bytes l.act)) (range_with_len l.first (l.block - l.first));
  few : vec_len l.list + l.first ≤ vec_len l.fn.list + l.block;
  room : vec_capacity l.fn.list ≤ vec_capacity l.list;
}
