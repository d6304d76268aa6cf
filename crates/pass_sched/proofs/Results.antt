-- What an answer that came has.
use Rattle.std.proofs.Common.{Result, Ok, Err, IsOk, OnOk}

pub ok_then : {X E : Type 0} (r : Result X E) (P : Type 0) → IsOk r → OnOk r P → P
ok_then (Ok x) P ok h = h
ok_then (Err e) P ok h = cc
