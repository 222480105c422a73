-- Numbers as bytes, at every width: the round trips, the bounds, and the steps that a loop takes.
-- Assumes nothing.
use Rattle.std.proofs.Common.{◌≡◌, refl, sym, ap, ◌∙◌, List, [], ◌∷◌, ◌++◌, append_assoc, append-nil, ℕ, zero, suc, ◌+◌, ◌*◌, ◌/◌, ◌%◌, ◌^◌, ◌≤◌, ◌<◌, zero-add, add-zero, mul-one, mul_comm, mul_assoc, pow-suc, div-one, add-mul, add_comm, mul-le-mul_right, add-suc, add-one, arith, length, get_or, take, drop, get_or-drop, subst, length-append}
use native.Mathlib.Nat.{div-div-eq-div-mul}
use lib.Arith.{digits_div}
use lib.Dec.{lit<}
use Rattle.storage.specs.Rows.Part.{part}
use Rattle.storage.specs.Rows.Digits.{le_nat, le_bytes, be_from, be_nat, be_bytes}

-- every element is a byte
abbrev pub Bytes : List ℕ → Type 0
Bytes bs = (i : ℕ) → get_or bs i 0 < 256

-- a part of bytes is bytes
bytes_take : (k : ℕ) (l : List ℕ) → Bytes l → Bytes (take k l)
bytes_take zero l h i = lit< tt
bytes_take (suc k) [] h i = lit< tt
bytes_take (suc k) (x ∷ xs) h zero = h 0
bytes_take (suc k) (x ∷ xs) h (suc i) = bytes_take k xs (λ j. h (suc j)) i

pub part_bytes : (a k : ℕ) (b : List ℕ) → Bytes b → Bytes (part a k b)
unfolding part
part_bytes a k b h = bytes_take k (drop a b) (λ i. subst (λ (n : ℕ). n < 256) (sym (get_or-drop a b i 0)) (h (a + i)))

pub length-le_bytes : (k v : ℕ) → length (le_bytes k v) ≡ k
unfolding le_bytes
length-le_bytes zero v = refl
length-le_bytes (suc k) v = ap suc (length-le_bytes k (v / 256))

pub length-be_bytes : (k v : ℕ) → length (be_bytes k v) ≡ k
unfolding be_bytes
length-be_bytes zero v = refl
length-be_bytes (suc k) v = length-append (be_bytes k (v / 256)) (v % 256 ∷ []) ∙ ap (λ (n : ℕ). n + 1) (length-be_bytes k (v / 256)) ∙ add-one k

-- 256 ^ suc k, as omega reads it
pub pow_step : (k : ℕ) → 256 ^ suc k ≡ 256 * 256 ^ k
pow_step k = pow-suc 256 k ∙ mul_comm (256 ^ k) 256

-- the two round trips, little endian
pub le_nat-le_bytes : (k v : ℕ) → v < 256 ^ k → le_nat (le_bytes k v) ≡ v
unfolding le_nat le_bytes
le_nat-le_bytes zero v h = omega arith
le_nat-le_bytes (suc k) v h = omega (arith, le_nat-le_bytes k (v / 256) (omega (arith, pow_step k)), pow_step k)

-- a number that is read from k bytes of one is in their width
pub le_nat-below : (k v : ℕ) → le_nat (le_bytes k v) < 256 ^ k
unfolding le_nat le_bytes
le_nat-below zero v = omega arith
le_nat-below (suc k) v = omega (arith, le_nat-below k (v / 256), pow_step k)

pub le_bytes-le_nat : (bs : List ℕ) → Bytes bs → le_bytes (length bs) (le_nat bs) ≡ bs
unfolding le_nat le_bytes
le_bytes-le_nat [] h = refl
le_bytes-le_nat (b ∷ bs) h =
    let l : b < 256 = h 0 in
    let m : (b + 256 * le_nat bs) % 256 ≡ b = omega arith in
    let d : (b + 256 * le_nat bs) / 256 ≡ le_nat bs = omega arith in
    rw (m, d) (ap (λ (l : List ℕ). b ∷ l) (le_bytes-le_nat bs (λ i. h (suc i))))

-- one more byte at the end of the big-endian list
pub be_from-append : (n : ℕ) (xs ys : List ℕ) → be_from n (xs ++ ys) ≡ be_from (be_from n xs) ys
unfolding be_from
be_from-append n [] ys = refl
be_from-append n (x ∷ xs) ys = be_from-append (n * 256 + x) xs ys

pub be_from-snoc : (n : ℕ) (xs : List ℕ) (x : ℕ) → be_from n (xs ++ (x ∷ [])) ≡ be_from n xs * 256 + x
unfolding be_from
be_from-snoc n xs x = be_from-append n xs (x ∷ [])

-- what stands before counts 256 ^ the rest's length
pub be_from-high : (n : ℕ) (xs : List ℕ) → be_from n xs ≡ n * 256 ^ length xs + be_nat xs
unfolding be_from
be_from-high n [] = omega (arith, mul-one n)
be_from-high n (x ∷ xs) =
    let p : ℕ = 256 ^ length xs in
    let e : n * 256 ^ suc (length xs) ≡ n * 256 * p = ap (λ (m : ℕ). n * m) (pow_step (length xs)) ∙ sym (mul_assoc n 256 p) in
    omega (arith, be_from-high (n * 256 + x) xs, be_from-high (0 * 256 + x) xs, e, add-mul (n * 256) x p)

-- the bound of a number of k bytes
pub be_nat-lt : (bs : List ℕ) → Bytes bs → be_nat bs < 256 ^ length bs
unfolding be_from
be_nat-lt [] h = omega arith
be_nat-lt (b ∷ bs) h =
    let l : b < 256 = h 0 in
    let p : ℕ = 256 ^ length bs in
    let m : b * p ≤ 255 * p = mul-le-mul_right p (omega arith) in
    omega (arith, be_nat-lt bs (λ i. h (suc i)), be_from-high (0 * 256 + b) bs, pow_step (length bs), ap (λ (x : ℕ). x * p) (zero-add b))

-- the two round trips, big endian
pub be_nat-be_bytes : (k v : ℕ) → v < 256 ^ k → be_nat (be_bytes k v) ≡ v
unfolding be_bytes be_from
be_nat-be_bytes zero v h = omega arith
be_nat-be_bytes (suc k) v h =
    omega (arith, be_from-snoc 0 (be_bytes k (v / 256)) (v % 256), be_nat-be_bytes k (v / 256) (omega (arith, pow_step k)))

pub div-step : (k v : ℕ) → v / 256 / 256 ^ k ≡ v / 256 ^ suc k
div-step k v = div-div-eq-div-mul v 256 (256 ^ k) ∙ ap (λ (n : ℕ). v / n) (sym (pow_step k))

-- one more digit is gone
pub div-more : (k v : ℕ) → v / 256 ^ k / 256 ≡ v / 256 ^ (k + 1)
div-more k v = div-div-eq-div-mul v (256 ^ k) 256 ∙ ap (λ (n : ℕ). v / n) (sym (pow-suc 256 k) ∙ ap (λ (n : ℕ). 256 ^ n) (sym (add-one k)))

-- m + k bytes: the high m, and the low k
pub be_bytes-add : (m k v : ℕ) → be_bytes (m + k) v ≡ be_bytes m (v / 256 ^ k) ++ be_bytes k v
unfolding be_bytes
be_bytes-add m zero v = rw (add-zero m, div-one v) (sym (append-nil (be_bytes m v)))
be_bytes-add m (suc k) v =
    rw (add-suc m k, be_bytes-add m k (v / 256), div-step k v) (append_assoc (be_bytes m (v / 256 ^ suc k)) (be_bytes k (v / 256)) (v % 256 ∷ []))

-- the first of k + 1 bytes
pub be_bytes-cons : (k v : ℕ) → be_bytes (k + 1) v ≡ (v / 256 ^ k % 256) ∷ be_bytes k v
unfolding be_bytes
be_bytes-cons k v = ap (λ (n : ℕ). be_bytes n v) (add_comm k 1) ∙ be_bytes-add 1 k v

pub be_bytes-be_from : (n : ℕ) (bs : List ℕ) → Bytes bs → be_bytes (length bs) (be_from n bs) ≡ bs
unfolding be_from be_bytes
be_bytes-be_from n [] h = refl
be_bytes-be_from n (b ∷ bs) h =
    let v : ℕ = be_from (n * 256 + b) bs in
    let q : v / 256 ^ length bs ≡ n * 256 + b =
    ap (λ (x : ℕ). x / 256 ^ length bs) (be_from-high (n * 256 + b) bs) ∙ digits_div (n * 256 + b) (be_nat-lt bs (λ i. h (suc i))) in
    let d : v / 256 ^ length bs % 256 ≡ b = omega (arith, h 0) in
    ap (λ (k : ℕ). be_bytes k v) (sym (add-one (length bs)))
    ∙ be_bytes-cons (length bs) v
    ∙ (λ k. d k ∷ be_bytes-be_from (n * 256 + b) bs (λ i. h (suc i)) k)

-- the last of k + 1 bytes, little endian
pub le_bytes-snoc : (k v : ℕ) → le_bytes (k + 1) v ≡ le_bytes k v ++ (v / 256 ^ k % 256 ∷ [])
unfolding le_bytes
le_bytes-snoc k v = ap (λ (n : ℕ). le_bytes n v) (add-one k) ∙ go k v
  where
    go : (k v : ℕ) → le_bytes (suc k) v ≡ le_bytes k v ++ (v / 256 ^ k % 256 ∷ [])
    go zero v = rw (div-one v)
    go (suc k) v = ap (λ (l : List ℕ). v % 256 ∷ l) (go k (v / 256) ∙ ap (λ (n : ℕ). le_bytes k (v / 256) ++ (n % 256 ∷ [])) (div-step k v))
