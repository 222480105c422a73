-- G where the message words are added to a first: of the sums, with the words zero.
-- Assumes nothing.
use Rattle.std.proofs.Common.{◌≡◌, ℕ, ◌+◌, ◌%◌, ◌^◌, ◌<◌, [], ◌∷◌, slice_index, bit_xor, refl, sym, ap, ◌∙◌, add-zero, arith}
use native.Mathlib.Nat.{mod-add-mod}
use Rattle.blake3.specs.Blake3.{Four, sum, rotated, half, quarter}
use Rattle.blake3.proofs.LaneLemmas.{below_four}

-- what is added last may be added before
sum-before : (a b x : ℕ) → sum (sum a x) b ≡ sum (sum a b) x
unfolding sum
sum-before a b x =
    let e : a + x + b ≡ a + b + x = omega arith in
    mod-add-mod (a + x) (2 ^ 32) b ∙ ap (λ (n : ℕ). n % 2 ^ 32) e ∙ sym (mod-add-mod (a + b) (2 ^ 32) x)

sum-zero : (a b : ℕ) → sum (sum a b) 0 ≡ sum a b
unfolding sum
sum-zero a b = mod-add-mod (a + b) (2 ^ 32) 0 ∙ ap (λ (n : ℕ). n % 2 ^ 32) (add-zero (a + b))

-- the sum of the second half, of a, x, y, b and the new b
sum-second : (a b x y c : ℕ) → sum (sum (sum (sum a x) y) b) c ≡ sum (sum (sum (sum a b) x) c) y
sum-second a b x y c =
    ap (λ (n : ℕ). sum n c) (sum-before (sum a x) b y)
    ∙ sum-before (sum (sum a x) b) c y
    ∙ ap (λ (n : ℕ). sum (sum n c) y) (sum-before a b x)

-- four words 0
pub no_words : (j : ℕ) → j < 4 → slice_index (0 ∷ 0 ∷ 0 ∷ 0 ∷ []) j ≡ 0
no_words = below_four (λ j. slice_index (0 ∷ 0 ∷ 0 ∷ 0 ∷ []) j ≡ 0) refl refl refl refl

-- what half of G does once a has its sum
abbrev after_sum : ℕ → ℕ → Four → Four
after_sum k j v =
    let d : ℕ = rotated (bit_xor v.d v.a) k in
    let c : ℕ = sum v.c d in record { a = v.a; b = rotated (bit_xor v.b c) j; c = c; d = d }

-- q with another a
abbrev pub of_sum : ℕ → Four → Four
of_sum a q = record { a = a; b = q.b; c = q.c; d = q.d }

-- the first half, of the sum of a and x
pub first-half : (x : ℕ) (q : Four) → half 16 12 0 (of_sum (sum q.a x) q) ≡ half 16 12 x q
unfolding half
first-half x q =
    ap (λ (a : ℕ). after_sum 16 12 (of_sum a q)) (sum-zero (sum q.a x) q.b ∙ sum-before q.a q.b x)

-- G, of the sums of a and x, and of a, x, y and b
pub g-of-sums : (x y : ℕ) (q : Four) → half 8 7 0 (of_sum (sum (sum (sum q.a x) y) q.b) (half 16 12 x q)) ≡ quarter x y q
unfolding quarter half
g-of-sums x y q =
    let p : Four = half 16 12 x q in
    ap (λ (a : ℕ). after_sum 8 7 (of_sum a p))
    (sum-zero (sum (sum (sum q.a x) y) q.b) p.b ∙ sum-second q.a q.b x y p.b)
