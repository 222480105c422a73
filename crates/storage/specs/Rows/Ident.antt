-- An identifier: 32 bytes, as four words in the code and as one number here, the first byte the highest.
-- Assumes nothing.
use Rattle.std.specs.Prelude.{ℕ, ◌+◌, ◌*◌, ◌^◌}
use Rattle.storage.specs.declared.rows.id.Id.{Id}

-- the number of the four words, the first the highest
abbrev pub id_of : Id → ℕ
id_of i = ((i.w0 * 2 ^ 64 + i.w1) * 2 ^ 64 + i.w2) * 2 ^ 64 + i.w3
