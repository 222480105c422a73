-- What calls of `plumtree_rewrite` leave (`rewrite-calls`): `one-spelling` carried from what is told to the bytes in the buffer.
-- Assumes nothing.
use Rattle.std.proofs.Common.{ℕ, ◌≤◌, ◌≡◌, refl, sym, ap, ◌∙◌, subst, true, List, arith, length, take}
use Rattle.storage.specs.Lists.Base.{Exactly}
use Rattle.storage.proofs.ListsLaws.MapLaws.{true≢}
use Rattle.storage.specs.Rows.Part.{part, put}
use Rattle.storage.proofs.RowsLaws.Parts.{part-put}
use Rattle.postcard.specs.Message.{Message}
use Rattle.postcard.specs.Decode.{Decoded, decoded, faulty, meaning}
use Rattle.postcard.specs.Wide.{Bytes}
use Rattle.postcard.specs.Told.{Told, refused, told, Leaves}
use Rattle.postcard.specs.Rewrite.{rewrite, ShortestForm}
use Rattle.postcard.proofs.DecodeFaults.{fault_of, message-faults}
use Rattle.postcard.proofs.OneSpelling.{one-spelling}
use Rattle.wire.specs.Rewrite.RewriteCalls.{Rewrites, RewriteCalls}

-- the bytes at the start of the buffer are those that were put there
left : (out before : List ℕ) → length out ≤ length before → take (length out) (put 0 out before) ≡ out
unfolding part
left out before l = part-put 0 (length out) out before refl (omega arith)

-- an answered-zero call: what it was told, which now stands at the buffer's start
record AnsweredZero (message before after : List ℕ) (long : ℕ) : Type 0 where
  pub out : List ℕ
  pub tells : rewrite message (length before) ≡ told out
  pub bytes : take long after ≡ out
  pub size : long ≡ length out

no-number-0 : (message : List ℕ) (room : ℕ) → rewrite message room ≡ refused 0 → ⊥
no-number-0 message room e = true≢ (one-spelling.questions message room 0 e)

answered-zero : (message before after : List ℕ) (long : ℕ) → Rewrites message before after 0 long → AnsweredZero message before after long
answered-zero message before after long c = by_answer (rewrite message (length before)) refl c
  where
    by_answer : (t : Told) → rewrite message (length before) ≡ t → Leaves t before after 0 long → AnsweredZero message before after long
    by_answer (refused n) e c = let z : ⊥ = no-number-0 message (length before) (e ∙ ap refused (sym c.0)) in absurd z
    by_answer (told out) e c =
        record {
          out = out;
          tells = e;
          bytes = rw c.1 (rw c.3 (left out before c.2));
          size = c.1;
        }

call-enough : (message before after : List ℕ) (number long : ℕ) → Bytes message → length message ≤ length before → Rewrites message before after number long → number ≡ 14 → ⊥
call-enough message before after number long y l c e = by-meaning (meaning message) refl
  where
    by-meaning : (x : Decoded Message) → meaning message ≡ x → ⊥
    by-meaning (decoded m) h =
        let f = subst (λ (t : Told). Leaves t before after number long) (one-spelling.taken message m (length before) y h l) c in
        omega (arith, f.0, e)
    by-meaning (faulty n) h =
        let f = subst (λ (t : Told). Leaves t before after number long) (one-spelling.faults message n (length before) h) c in
        let z : n ≡ 14 = sym f.0 ∙ e in
        true≢ (subst (λ (x : Decoded Message). fault_of x ≡ true) (h ∙ ap faulty z) (message-faults message))

call-taken : (message before after : List ℕ) (m : Message) (number long : ℕ) → Bytes message → meaning message ≡ decoded m → length message ≤ length before → Rewrites message before after number long → number ≡ 0
call-taken message before after m number long y h l c =
    let f = subst (λ (t : Told). Leaves t before after number long) (one-spelling.taken message m (length before) y h l) c in
    f.0

call-shortest : (message before after : List ℕ) (long : ℕ) → Bytes message → Rewrites message before after 0 long → ShortestForm message (take long after)
call-shortest message before after long y c =
    let a = answered-zero message before after long c in
    subst (λ (out : List ℕ). ShortestForm message out) (sym a.bytes) (one-spelling.shortest message (length before) a.out y a.tells)

call-twice : (message before after before' after' : List ℕ) (long number long' : ℕ) → Bytes message → Rewrites message before after 0 long → long ≤ length before' → Rewrites (take long after) before' after' number long' →
    (number ≡ 0) × (take long' after' ≡ take long after)
call-twice message before after before' after' long number long' y c l d =
    let a = answered-zero message before after long c in
    let t = one-spelling.twice message (length before) a.out (length before') y a.tells (omega (arith, a.size, l)) in
    let e : rewrite (take long after) (length before') ≡ told a.out = ap (λ (m : List ℕ). rewrite m (length before')) a.bytes ∙ t in
    let f = subst (λ (x : Told). Leaves x before' after' number long') e d in
    (f.0, rw f.1 (rw f.3 (left a.out before' f.2)) ∙ sym a.bytes)

call_same : (one before after other before' after' : List ℕ) (long long' : ℕ) → Bytes one → Bytes other → Rewrites one before after 0 long → Rewrites other before' after' 0 long' → Exactly (take long after ≡ take long' after') (meaning one ≡ meaning other)
call_same one before after other before' after' long long' y z c d =
    let a = answered-zero one before after long c in
    let b = answered-zero other before' after' long' d in
    let e = one-spelling.same one other (length before) (length before') a.out b.out y z a.tells b.tells in
    record {
      only_when = λ s. e.only_when (sym a.bytes ∙ s ∙ b.bytes);
      when = λ m. a.bytes ∙ e.when m ∙ sym b.bytes;
    }

pub rewrite-calls : RewriteCalls
rewrite-calls = record { enough = call-enough; taken = call-taken; shortest = call-shortest; twice = call-twice; same = call_same }
