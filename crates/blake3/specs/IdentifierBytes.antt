-- The identifier is the 32 bytes of the hash.
-- Assumes nothing.
use Rattle.std.specs.Prelude.{ℕ, ◌≡◌, List, length}
use Rattle.storage.specs.Rows.Digits.{be_bytes}
use Rattle.blake3.specs.Blake3.{blake3, identifier}

pub record IdentifierBytes : Type 0 where
  pub long : (content : List ℕ) → length (blake3 content) ≡ 32
  -- its 32 bytes, the first one highest, are those of the hash
  pub bytes : (content : List ℕ) → be_bytes 32 (identifier content) ≡ blake3 content
