-- "A broadcast event with byte 1 is turned down … Such a broadcast answers 23": it is answered of these bytes, and of no others.
-- Assumes nothing.
use Rattle.std.specs.Prelude.{ℕ, ◌<◌, ◌^◌, ◌≡◌, List, [], ◌∷◌, ◌++◌, length}
use Rattle.postcard.specs.Message.{content_bytes}
use Rattle.postcard.specs.Decode.{faulty, decode_event}
use Rattle.postcard.specs.Wide.{Bytes}

-- the bytes are those of a Neighbors broadcast: "1 has length, content, byte … 1 Neighbors", and nothing behind it
pub record IsRetired (bytes : List ℕ) : Type 0 where
  pub content : List ℕ
  pub short : length content < 2 ^ 64
  pub same : bytes ≡ 1 ∷ content_bytes content ++ (1 ∷ [])

pub record RetiredIsExact : Type 0 where
  pub answered : (bytes : List ℕ) → IsRetired bytes → decode_event bytes ≡ faulty 23
  pub no_other : (bytes : List ℕ) → Bytes bytes → decode_event bytes ≡ faulty 23 → IsRetired bytes
