-- What the answer of `rewrite` stands for: number and length.
-- Assumes nothing.
use Rattle.std.specs.Prelude.{ℕ, Result, Ok, Err}
use Rattle.wire.specs.declared.reader.fault.Fault.{Fault}
use Rattle.wire.specs.Reader.Gives.{number_of}

-- the specification's number: 0, or that of the question that is answered no
abbrev pub number_told : Result ℕ Fault → ℕ
number_told (Ok n) = 0
number_told (Err e) = number_of e

-- how many bytes were written
abbrev pub length_told : Result ℕ Fault → ℕ
length_told (Ok n) = n
length_told (Err e) = 0
