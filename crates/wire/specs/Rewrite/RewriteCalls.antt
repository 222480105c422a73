-- "The shortest form", of the bytes that calls of `plumtree_rewrite` leave: what `OneSpelling` (`postcard`) says of the definitions, said of every call that meets the contract.
-- Assumes nothing.
use Rattle.std.specs.Prelude.{ℕ, ◌≤◌, ◌≡◌, List, length, take}
use Rattle.storage.specs.Lists.Base.{Exactly}
use Rattle.postcard.specs.Message.{Message}
use Rattle.postcard.specs.Decode.{decoded, meaning}
use Rattle.postcard.specs.Wide.{Bytes}
use Rattle.postcard.specs.Told.{Leaves}
use Rattle.postcard.specs.Rewrite.{rewrite, ShortestForm}

-- the promise of `plumtree_rewrite`, upon this message and this buffer: what it leaves, its number and its length
abbrev pub Rewrites : List ℕ → List ℕ → List ℕ → ℕ → ℕ → Type 0
Rewrites message before after number output_length = Leaves (rewrite message (length before)) before after number output_length

-- what the request says, of every message, buffer and call
pub record RewriteCalls : Type 0 where
  -- "reads any message the reader takes": into a buffer as long as the message it is answered 0
  pub taken : (message before after : List ℕ) (m : Message) (number output_length : ℕ) → Bytes message → meaning message ≡ decoded m → length message ≤ length before → Rewrites message before after number output_length → number ≡ 0
  -- so 14 is not answered there, whether or not the bytes are a message
  pub enough : (message before after : List ℕ) (number output_length : ℕ) → Bytes message → length message ≤ length before → Rewrites message before after number output_length → number ≡ 14 → ⊥
  -- "writes its shortest form into a lent buffer": answered 0, the bytes that it wrote are that form
  pub shortest : (message before after : List ℕ) (output_length : ℕ) → Bytes message → Rewrites message before after 0 output_length → ShortestForm message (take output_length after)
  -- "Rewriting twice gives the first result": a second call, upon the bytes that the first wrote
  pub twice : (message before after before' after' : List ℕ) (output_length number output_length' : ℕ) → Bytes message → Rewrites message before after 0 output_length → output_length ≤ length before' → Rewrites (take output_length after) before' after' number output_length' →
      (number ≡ 0) × (take output_length' after' ≡ take output_length after)
  -- "two messages rewrite to equal bytes exactly when they have the same meaning"
  pub same : (one before after other before' after' : List ℕ) (output_length output_length' : ℕ) → Bytes one → Bytes other → Rewrites one before after 0 output_length → Rewrites other before' after' 0 output_length' → Exactly (take output_length after ≡ take output_length' after') (meaning one ≡ meaning other)
