-- A kind byte: read, and then asked whether it is known.
-- Assumes nothing.
use Rattle.std.proofs.Common.{◌≡◌, ℕ, List, [], ◌∷◌, ◌≤◌, ◌<◌, drop, refl, if◌then◌else◌, ltb, lt-ltb, le-ltb}
use Rattle.postcard.specs.Number.{Read, got, fault, ◌then◌, read_kind}
use Rattle.postcard.specs.Decode.{delivery_kind, message_kind}
use Rattle.wire.specs.Reader.Gives.{read_byte}

pub kind_by_byte : (kinds : ℕ) (bytes : List ℕ) → read_kind kinds bytes ≡ (read_byte bytes then λ b rest. if ltb b kinds then got b rest else fault 8)
unfolding read_kind read_byte
kind_by_byte kinds [] = refl
kind_by_byte kinds (b ∷ bytes) = refl

module _ {A : Type 0} where
  -- the bytes end before the kind
  pub kind_end : (kinds n : ℕ) (bytes : List ℕ) (f : ℕ → List ℕ → Read A) → read_byte bytes ≡ fault n → (read_kind kinds bytes then f) ≡ fault n
  kind_end kinds n bytes f h = rw (kind_by_byte kinds bytes, h) refl

  -- a known kind
  pub kind_known : (kinds b : ℕ) (bytes rest : List ℕ) (f : ℕ → List ℕ → Read A) → read_byte bytes ≡ got b rest → b < kinds → (read_kind kinds bytes then f) ≡ f b rest
  kind_known kinds b bytes rest f h k = rw (kind_by_byte kinds bytes, h, lt-ltb b kinds k) refl

  -- an unknown kind
  pub kind_unknown : (kinds b : ℕ) (bytes rest : List ℕ) (f : ℕ → List ℕ → Read A) → read_byte bytes ≡ got b rest → kinds ≤ b → (read_kind kinds bytes then f) ≡ fault 8
  kind_unknown kinds b bytes rest f h k = rw (kind_by_byte kinds bytes, h, le-ltb b kinds k) refl

pub delivery_unknown : (b : ℕ) (rest : List ℕ) → 2 ≤ b → delivery_kind b rest ≡ fault 8
unfolding delivery_kind
delivery_unknown b rest h = rw (le-ltb b 2 h) refl

pub message_unknown : (b : ℕ) (rest : List ℕ) → 4 ≤ b → message_kind b rest ≡ fault 8
unfolding message_kind
message_unknown b rest h = rw (le-ltb b 4 h) refl

-- behind the byte
pub drop_byte : (b : ℕ) (bytes rest : List ℕ) → read_byte bytes ≡ got b rest → drop 1 bytes ≡ rest
unfolding read_byte
drop_byte b [] rest h = cc
drop_byte b (x ∷ xs) rest h = cc
