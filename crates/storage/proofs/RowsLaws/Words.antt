-- What a turn of a loop that stores a number does: one more byte of it is written.
-- Assumes nothing.
use Rattle.std.proofs.Common.{◌≡◌, sym, ap, ◌∙◌, List, ℕ, ◌+◌, ◌/◌, ◌%◌, ◌^◌, ◌<◌, arith, length, set}
use Rattle.storage.specs.Rows.Part.{put}
use Rattle.storage.specs.Rows.Digits.{le_bytes}
use Rattle.storage.proofs.RowsLaws.Parts.{put-snoc}
use Rattle.storage.proofs.RowsLaws.Digits.{le_bytes-snoc, length-le_bytes, div-more}

pub le_write : (b₀ b : List ℕ) (at i v w : ℕ) → at + i < length b₀ → b ≡ put at (le_bytes i v) b₀ → w ≡ v / 256 ^ i
    → set b (at + i) (w % 256) ≡ put at (le_bytes (i + 1) v) b₀
le_write b₀ b at i v w l e g =
    rw (e, g) (put-snoc at (at + i) (le_bytes i v) (v / 256 ^ i % 256) b₀ (omega (arith, length-le_bytes i v)) l
    ∙ ap (λ (t : List ℕ). put at t b₀) (sym (le_bytes-snoc i v)))

pub div-next : (n m v w : ℕ) → m ≡ n + 1 → w ≡ v / 256 ^ n → w / 256 ≡ v / 256 ^ m
div-next n m v w e g = rw (e, g) (div-more n v)
