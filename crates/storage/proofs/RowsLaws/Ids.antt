-- An identifier as four words, and its bytes; the order of the words is that of the numbers.
-- Assumes nothing.
use Rattle.std.proofs.Common.{◌≡◌, refl, sym, ap, ◌∙◌, ◌⊎◌, inl, inr, Bool, true, false, List, ◌++◌, ℕ, zero, suc, ◌+◌, ◌*◌, ◌/◌, ◌%◌, ◌^◌, ◌≤◌, ◌<◌, mul_assoc, pow-suc, eq-or-lt_of_le, arith, length, ltb-true, ltb-false, ltb, Ordering, Less, Equal, Greater}
use lib.Arith.{digits_div, digits_lt}
use Rattle.storage.specs.Rows.Part.{part, put}
use Rattle.storage.specs.Rows.Digits.{be_nat, be_bytes}
use Rattle.std.proofs.lemmas.Bool.{true≢false}
use Rattle.std.specs.Ordering.{MatchOrdering, is_le, nat_cmp}
use Rattle.std.specs.Cmp.{ranks}
use Rattle.storage.proofs.RowsLaws.Parts.{part-add, length_part, put-put-next}
use Rattle.storage.proofs.RowsLaws.Digits.{be_from-append, be_from-high, be_bytes-add, length-be_bytes}

-- k bytes and a word after them
pub word_after : (at k : ℕ) (b : List ℕ) → at + k + 8 ≤ length b → be_nat (part at (k + 8) b) ≡ be_nat (part at k b) * 2 ^ 64 + be_nat (part (at + k) 8 b)
word_after at k b h =
    ap be_nat (part-add at k 8 b)
    ∙ be_from-append 0 (part at k b) (part (at + k) 8 b)
    ∙ be_from-high (be_nat (part at k b)) (part (at + k) 8 b)
    ∙ ap (λ (n : ℕ). be_nat (part at k b) * 256 ^ n + be_nat (part (at + k) 8 b)) (length_part (at + k) 8 b h)

-- the low k bytes do not see what stands above them
pub be_bytes-low : (k q r : ℕ) → be_bytes k (q * 256 ^ k + r) ≡ be_bytes k r
unfolding be_bytes
be_bytes-low zero q r = refl
be_bytes-low (suc k) q r =
    let e : q * 256 ^ suc k ≡ q * 256 ^ k * 256 = ap (λ (n : ℕ). q * n) (pow-suc 256 k) ∙ sym (mul_assoc q (256 ^ k) 256) in
    let d : (q * 256 ^ suc k + r) / 256 ≡ q * 256 ^ k + r / 256 = omega arith in
    let m : (q * 256 ^ suc k + r) % 256 ≡ r % 256 = omega arith in
    rw (d, m, be_bytes-low k q (r / 256))

-- m bytes and a word after them
pub bytes_after : (m q w : ℕ) → w < 2 ^ 64 → be_bytes (m + 8) (q * 2 ^ 64 + w) ≡ be_bytes m q ++ be_bytes 8 w
bytes_after m q w h = be_bytes-add m 8 (q * 2 ^ 64 + w) ∙ (λ k. be_bytes m (digits_div q h k) ++ be_bytes-low 8 q w k)

-- the four words that are read are the identifier's
pub read-id : (b : List ℕ) (at w0 w1 w2 w3 : ℕ) → at + 32 ≤ length b
    → w0 ≡ be_nat (part at 8 b) → w1 ≡ be_nat (part (at + 8) 8 b) → w2 ≡ be_nat (part (at + 16) 8 b) → w3 ≡ be_nat (part (at + 24) 8 b)
    → ((w0 * 2 ^ 64 + w1) * 2 ^ 64 + w2) * 2 ^ 64 + w3 ≡ be_nat (part at 32 b)
read-id b at w0 w1 w2 w3 h e0 e1 e2 e3 =
    rw (e0, e1, e2, e3, ← word_after at 8 b (omega arith), ← word_after at 16 b (omega arith)) (sym (word_after at 24 b (omega arith)))

-- the four words that are written are the identifier's bytes
pub write-id : (b : List ℕ) (at w0 w1 w2 w3 : ℕ) → at + 32 ≤ length b → w1 < 2 ^ 64 → w2 < 2 ^ 64 → w3 < 2 ^ 64
    → put (at + 24) (be_bytes 8 w3) (put (at + 16) (be_bytes 8 w2) (put (at + 8) (be_bytes 8 w1) (put at (be_bytes 8 w0) b)))
    ≡ put at (be_bytes 32 (((w0 * 2 ^ 64 + w1) * 2 ^ 64 + w2) * 2 ^ 64 + w3)) b
write-id b at w0 w1 w2 w3 h l1 l2 l3 =
    let two : ℕ = w0 * 2 ^ 64 + w1 in
    let three : ℕ = two * 2 ^ 64 + w2 in
    ap (λ (t : List ℕ). put (at + 24) (be_bytes 8 w3) (put (at + 16) (be_bytes 8 w2) t)) (next 8 w0 w1 l1 (omega arith))
    ∙ ap (λ (t : List ℕ). put (at + 24) (be_bytes 8 w3) t) (next 16 two w2 l2 (omega arith))
    ∙ next 24 three w3 l3 (omega arith)
  where
    next : (m q w : ℕ) → w < 2 ^ 64 → at + m + 8 ≤ length b → put (at + m) (be_bytes 8 w) (put at (be_bytes m q) b) ≡ put at (be_bytes (m + 8) (q * 2 ^ 64 + w)) b
    next m q w l f =
        put-put-next at (at + m) (be_bytes m q) (be_bytes 8 w) b (omega (arith, length-be_bytes m q)) (omega (arith, length-be_bytes 8 w))
        ∙ ap (λ (t : List ℕ). put at t b) (sym (bytes_after m q w l))

-- a number of four words, and its order by the first word that differs
abbrev pub four : ℕ → ℕ → ℕ → ℕ → ℕ
four w0 w1 w2 w3 = ((w0 * 2 ^ 64 + w1) * 2 ^ 64 + w2) * 2 ^ 64 + w3

pub id-lt : (w0 w1 w2 w3 : ℕ) → w0 < 2 ^ 64 → w1 < 2 ^ 64 → w2 < 2 ^ 64 → w3 < 2 ^ 64 → four w0 w1 w2 w3 < 256 ^ 32
id-lt w0 w1 w2 w3 h0 h1 h2 h3 = digits_lt (digits_lt (digits_lt h0 h1) h2) h3

-- of two numbers, which is below which
pub tri : (a b : ℕ) → (a < b) ⊎ ((a ≡ b) ⊎ (b < a))
tri a b = go (ltb a b) refl
  where
    else-go : (b ≡ a) ⊎ (b < a) → (a < b) ⊎ ((a ≡ b) ⊎ (b < a))
    else-go (inl e) = inr (inl (sym e))
    else-go (inr h) = inr (inr h)

    go : (t : Bool) → ltb a b ≡ t → (a < b) ⊎ ((a ≡ b) ⊎ (b < a))
    go true e = inl (ltb-true a b e)
    go false e = else-go (eq-or-lt_of_le (ltb-false a b e))

-- what a `<=` that is false says; `le_from_is_le` has the other
pub le_false : (x y : ℕ) → is_le (nat_cmp x y) ≡ false → y < x
le_false x y = go (nat_cmp x y) (ranks x y)
  where
    go : (o : Ordering) → MatchOrdering o (x < y) (x ≡ y) (y < x) → is_le o ≡ false → y < x
    go Less h e = absurd (true≢false e)
    go Equal h e = absurd (true≢false e)
    go Greater h e = h
