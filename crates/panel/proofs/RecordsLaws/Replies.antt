-- A reply: there is room for it, and its pieces one after the other.
-- Assumes nothing.
use Rattle.std.proofs.Common.{ℕ, ◌+◌, ◌≤◌, ◌≡◌, refl, true, false, List, [], ◌∷◌, arith, length, take, drop, length-append, length-take-le}
use lib.Seq.{take-append_seam}
use Rattle.storage.specs.Rows.Part.{put}
use Rattle.postcard.specs.Number.{number_bytes, number_length}
use Rattle.postcard.specs.Output.{FitsAt, Wrote}
use Rattle.postcard.proofs.Lengths.{number-few}
use Rattle.std.specs.Bool.{◌==◌}
use Rattle.std.proofs.lemmas.Bool.{eqb-true}
use Rattle.panel.specs.Records.Running.{answer_bytes, closing, end_bytes}

-- what was put at the start stands there
pub put_first : (bytes out : List ℕ) → take (length bytes) (put 0 bytes out) ≡ bytes
unfolding put
put_first bytes out = take-append_seam bytes (drop (length bytes) out)

pub wrote-first : {bytes before after : List ℕ} {r : ℕ} → Wrote bytes before 0 after r → take r after ≡ bytes
wrote-first {bytes} {before} w =
    let e : 0 + length bytes ≡ length bytes = omega arith in
    rw (w.out, w.place, e) (put_first bytes before)

-- a byte and a number take eleven bytes at most
pub answer-few : (number : ℕ) (actions : List ℕ) → length (answer_bytes number actions) ≤ 11 + length actions
unfolding answer_bytes number_length
answer-few number actions = omega (arith, length-append (number_bytes (length actions)) actions, number-few (length actions))

-- the actions are the first `n` bytes of the output
module _ (number n : ℕ) (out reply : List ℕ) (h : length reply ≡ 40971) (in-out : n ≤ length out) (few : n ≤ 40960) where
  actions-long : length (take n out) ≡ n
  actions-long = length-take-le n out in-out

  pub answer-room : FitsAt (answer_bytes number (take n out)) 0 reply
  answer-room = record { fits = omega (arith, answer-few number (take n out), actions-long) }

-- the end of the input: where no byte is unread nothing is written, else the end
pub closing-empty : (unread : List ℕ) → (length unread == 0) ≡ true → closing unread ≡ []
unfolding closing
closing-empty [] h = refl
closing-empty (b ∷ bytes) h = absurd (omega (arith, eqb-true (length (b ∷ bytes)) 0 h))

pub closing-cut : (unread : List ℕ) → (length unread == 0) ≡ false → closing unread ≡ 7 ∷ 0 ∷ []
unfolding closing end_bytes
closing-cut [] h = absurd cc
closing-cut (b ∷ bytes) h = refl
