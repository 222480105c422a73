-- The definition, computed on two contents of BLAKE3's own test vectors, whose byte i is i % 251: the empty one, and 1,025 bytes, which
-- are a whole chunk, a chunk of one byte and their parent. Assumes nothing.
use Rattle.std.proofs.Common.{◌≡◌, refl, List, [], ◌∷◌, ℕ, zero, suc, ◌+◌, ◌%◌}
use Rattle.storage.specs.Rows.Digits.{le_nat, le_bytes, be_from}
use Rattle.blake3.specs.Blake3 as B

-- n bytes, counted from i
pub counted : ℕ → ℕ → List ℕ
counted zero i = []
counted (suc n) i = i % 251 ∷ counted n (i + 1)

pub of-0 : B.identifier [] ≡ 0xaf1349b9f5f9a1a6a0404dea36dcc9499bcb25c9adc112b7cc9a93cae41f3262
unfolding B.blake3 B.identifier B.bytes_of B.hash_words B.tree_of B.parent_of B.chunk_of B.chain B.words_of B.compressed B.xors B.iv B.rounds B.columns_of B.diagonals_of B.g B.stored B.quarter B.half B.rotated B.sum le_nat le_bytes be_from counted
of-0 = refl

pub of-1025 : B.identifier (counted 1025 0) ≡ 0xd00278ae47eb27b34faecf67b4fe263f82d5412916c1ffd97c8cb7fb814b8444
unfolding B.blake3 B.identifier B.bytes_of B.hash_words B.tree_of B.parent_of B.chunk_of B.chain B.words_of B.compressed B.xors B.iv B.rounds B.columns_of B.diagonals_of B.g B.stored B.quarter B.half B.rotated B.sum le_nat le_bytes be_from counted
of-1025 = refl
