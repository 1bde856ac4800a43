-- The size of a struct's first field.
use Rattle.std.proofs.Common.{rules, ◌+◌, ◌<◌, ℕ}
use prog.Memory.{up}

pub first-field : (a b c d e n x y z m : ℕ) → up a (up b (up c (up d (e + n) + x) + y) + z) < m → n < m
first-field a b c d e n x y z m h = search rules
