-- What the caller of `rewrite` finds.
-- Assumes nothing.
use Rattle.std.proofs.Common.{◌≡◌, ℕ, ◌≤◌, ◌<◌, List, [], length, refl, arith, le-leb}
use borrow.Author.Tests.{lt-leb}
use Rattle.postcard.specs.Message.{Message, message_bytes}
use Rattle.postcard.specs.Decode.{decoded, faulty, meaning, read_message}
use Rattle.postcard.specs.Output.{Wrote}
use Rattle.postcard.specs.Rewrite.{rewrite_of, rewrite}
use Rattle.postcard.specs.Told.{Leaves, fitted}
use Rattle.postcard.specs.Wide.{Bytes}
use Rattle.postcard.proofs.DecodeBack.{message-short, ended-all}

-- a message that was read is no longer in its shortest form
pub meant-short : (bytes : List ℕ) (m : Message) → Bytes bytes → meaning bytes ≡ decoded m → length (message_bytes m) ≤ length bytes
unfolding meaning
meant-short bytes m w e = omega (arith, (message-short bytes m [] w (ended-all (read_message bytes) m e)).shorter)

pub finds-refused : (bytes before : List ℕ) (n : ℕ) → meaning bytes ≡ faulty n → Leaves (rewrite bytes (length before)) before before n 0
unfolding rewrite rewrite_of
finds-refused bytes before n e = rw e (refl, refl, refl)

pub finds-short : (bytes before : List ℕ) (m : Message) (size : ℕ) → meaning bytes ≡ decoded m → size ≡ length (message_bytes m) → length before < size → Leaves (rewrite bytes (length before)) before before 14 0
unfolding rewrite rewrite_of fitted
finds-short bytes before m size e q h = rw e (rw (lt-leb (length (message_bytes m)) (length before) (omega (arith, q, h))) (refl, refl, refl))

pub finds-wrote : (bytes before after : List ℕ) (m : Message) (size end : ℕ) → meaning bytes ≡ decoded m → size ≡ length (message_bytes m) → size ≤ length before → Wrote (message_bytes m) before 0 after end →
    Leaves (rewrite bytes (length before)) before after 0 end
unfolding rewrite rewrite_of fitted
finds-wrote bytes before after m size end e q h w =
    rw e (rw (le-leb (length (message_bytes m)) (length before) (omega (arith, q, h))) (refl, omega (arith, w.place), omega (arith, q, h), w.out))
