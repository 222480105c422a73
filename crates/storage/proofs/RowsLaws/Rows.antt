-- The laws of `rows`: what a part, a put and a move of bytes are to the rows.
-- Assumes nothing.
use Rattle.std.proofs.Common.{◌≡◌, refl, sym, ap, ◌∙◌, List, [], ◌∷◌, ◌++◌, append_assoc, append-nil, ℕ, zero, suc, ◌+◌, ◌-◌, ◌*◌, ◌≤◌, ◌<◌, add-mul, suc-mul, zero-mul, zero-add, suc-add, mul-le-mul_right, one-mul, le_of_suc-le-suc, not-suc-le-zero, arith, length, take, drop, get_or, length-drop, drop_of_length-le, take-take, drop-drop, take_all, length-take-le}
use native.Mathlib.Nat.{suc-sub-suc, zero-sub, sub-zero}
use lib.Seq.{take-append-le, drop-append-le}
use Rattle.storage.specs.Rows.Part.{part, put}
use Rattle.storage.specs.Rows.Rows.{rows, opened, closed}
use Rattle.storage.proofs.RowsLaws.Parts.{drop-take, length_part, length-put, put-inside, part-snoc, put-at}

pub length-rows : (s n : ℕ) (xs : List ℕ) → length (rows s n xs) ≡ n
unfolding rows
length-rows s zero xs = refl
length-rows s (suc n) xs = ap suc (length-rows s n (drop s xs))

-- suc n rows: s bytes and the rest
row-mul : (s n : ℕ) → suc n * s ≡ s + n * s
row-mul s n = omega (arith, suc-mul n s)

pub take-rows : (s m n : ℕ) (xs : List ℕ) → m ≤ n → take m (rows s n xs) ≡ rows s m xs
unfolding rows
take-rows s zero n xs h = refl
take-rows s (suc m) zero xs h = absurd (not-suc-le-zero h)
take-rows s (suc m) (suc n) xs h = ap (λ (l : List (List ℕ)). take s xs ∷ l) (take-rows s m n (drop s xs) (le_of_suc-le-suc h))

pub drop-rows : (s i n : ℕ) (xs : List ℕ) → drop i (rows s n xs) ≡ rows s (n - i) (drop (i * s) xs)
unfolding rows
drop-rows s zero n xs = rw (sub-zero n, zero-mul s)
drop-rows s (suc i) zero xs = rw (zero-sub (suc i))
drop-rows s (suc i) (suc n) xs = rw (suc-sub-suc n i, row-mul s i) (drop-rows s i n (drop s xs) ∙ ap (rows s (n - i)) (drop-drop (i * s) s xs))

pub get_d_rows : (s n i : ℕ) (d : List ℕ) (xs : List ℕ) → i < n → get_or (rows s n xs) i d ≡ part (i * s) s xs
unfolding rows part
get_d_rows s zero i d xs h = absurd (not-suc-le-zero h)
get_d_rows s (suc n) zero d xs h = rw (zero-mul s)
get_d_rows s (suc n) (suc i) d xs h = rw (row-mul s i) (get_d_rows s n i d (drop s xs) (le_of_suc-le-suc h) ∙ ap (take s) (drop-drop (i * s) s xs))

-- the rows are those of the first n * s bytes
pub rows_take : (s n : ℕ) (xs : List ℕ) → rows s n (take (n * s) xs) ≡ rows s n xs
unfolding rows
rows_take s zero xs = refl
rows_take s (suc n) xs =
    rw (row-mul s n, drop-take s (n * s) xs, take-take s (s + n * s) xs (omega arith)) (ap (λ (l : List (List ℕ)). take s xs ∷ l) (rows_take s n (drop s xs)))

pub rows_same : (s n : ℕ) (xs ys : List ℕ) → take (n * s) xs ≡ take (n * s) ys → rows s n xs ≡ rows s n ys
rows_same s n xs ys e = sym (rows_take s n xs) ∙ ap (rows s n) e ∙ rows_take s n ys

pub rows_append : (s m k : ℕ) (ys zs : List ℕ) → length ys ≡ m * s → rows s (m + k) (ys ++ zs) ≡ rows s m ys ++ rows s k zs
unfolding rows
rows_append s zero k [] zs e = rw (zero-add k)
rows_append s zero k (y ∷ ys) zs e = absurd (omega (arith, zero-mul s))
rows_append s (suc m) k ys zs e =
    let l : s ≤ length ys = omega (arith, row-mul s m) in
    let d : length (drop s ys) ≡ m * s = omega (arith, length-drop s ys, row-mul s m) in
    rw (suc-add m k, take-append-le s ys zs l, drop-append-le s ys zs l) (ap (λ (t : List (List ℕ)). take s ys ∷ t) (rows_append s m k (drop s ys) zs d))

less-less : (n i m : ℕ) → n - i - m ≡ n - (i + m)
less-less n i m = omega arith

-- a part of whole rows
pub rows-part : (s i m n : ℕ) (xs : List ℕ) → i + m ≤ n → rows s m (part (i * s) (m * s) xs) ≡ part i m (rows s n xs)
unfolding part
rows-part s i m n xs h =
    rows_take s m (drop (i * s) xs) ∙ sym (ap (take m) (drop-rows s i n xs) ∙ take-rows s m (n - i) (drop (i * s) xs) (omega arith))

-- whole rows that are put
pub rows-put : (s i m n : ℕ) (ys xs : List ℕ) → length ys ≡ m * s → i + m ≤ n → n * s ≤ length xs → rows s n (put (i * s) ys xs) ≡ put i (rows s m ys) (rows s n xs)
unfolding put
rows-put s i m n ys xs e h l =
    let k : ℕ = n - (i + m) in
    let z : List ℕ = drop (length ys) (drop (i * s) xs) in
    let r : List (List ℕ) = rows s n xs in
    let li : i * s ≤ length xs = omega (arith, mul-le-mul_right {m = i} {n = n} s (omega arith)) in
    let top : rows s i (take (i * s) xs) ≡ take i r = rows_take s i xs ∙ sym (take-rows s i n xs (omega arith)) in
    let end : rows s k z ≡ drop (length (rows s m ys)) (drop i r) =
    sym (rw (length-rows s m ys, drop-rows s i n xs) (drop-rows s m (n - i) (drop (i * s) xs)
    ∙ (λ t. rows s (less-less n i m t) (drop (sym e t) (drop (i * s) xs))))) in
    ap (λ (j : ℕ). rows s j (put (i * s) ys xs)) (omega arith)
    ∙ rows_append s i (m + k) (take (i * s) xs) (ys ++ z) (length-take-le (i * s) xs li)
    ∙ ap (λ (t : List (List ℕ)). rows s i (take (i * s) xs) ++ t) (rows_append s m k ys z e)
    ∙ (λ t. top t ++ (rows s m ys ++ end t))

-- one row that is put
pub rows-put-one : (s i n : ℕ) (ys xs : List ℕ) → length ys ≡ s → i < n → n * s ≤ length xs → rows s n (put (i * s) ys xs) ≡ put i (ys ∷ []) (rows s n xs)
unfolding rows
rows-put-one s i n ys xs e h l =
    rows-put s i 1 n ys xs (e ∙ sym (one-mul s)) (omega arith) l ∙ ap (λ (t : List ℕ). put i (t ∷ []) (rows s n xs)) (take_all s ys (omega arith))

-- a put inside row i changes that row alone
pub rows-field : (s i n o : ℕ) (ys xs : List ℕ) → o + length ys ≤ s → i < n → n * s ≤ length xs
    → rows s n (put (i * s + o) ys xs) ≡ put i (put o ys (part (i * s) s xs) ∷ []) (rows s n xs)
rows-field s i n o ys xs f h l =
    let b : i * s + s ≤ length xs = omega (arith, suc-mul i s, mul-le-mul_right {m = suc i} {n = n} s (omega arith)) in
    let lp : length (part (i * s) s xs) ≡ s = length_part (i * s) s xs b in
    ap (rows s n) (put-inside (i * s) o s ys xs f b)
    ∙ rows-put-one s i n (put o ys (part (i * s) s xs)) xs (length-put o ys (part (i * s) s xs) (omega arith) ∙ lp) h l

-- what i of n rows take of the bytes: one product on the way to another
pub mul-split : (s n i : ℕ) → i ≤ n → i * s + (n - i) * s ≡ n * s
mul-split s n i h = sym (add-mul i (n - i) s) ∙ ap (λ (m : ℕ). m * s) (omega arith)

pub mul-more : (s n : ℕ) → (n + 1) * s ≡ n * s + s
mul-more s n = omega (arith, add-mul n 1 s, one-mul s)

pub mul-up : (s i n : ℕ) → i ≤ n → i * s ≤ n * s
mul-up s i n h = mul-le-mul_right s h

-- the end of row i is within n rows
pub row-end : (s n i : ℕ) → i < n → i * s + s ≤ n * s
row-end s n i l = omega (arith, mul-more s i, mul-up s (i + 1) n (omega arith))

module _ {A : Type 0} where
  drop-end : (n : ℕ) (l : List A) → length l ≤ n → drop n l ≡ []
  drop-end n l h = drop_of_length-le l h

  take-end : (i n : ℕ) (l : List A) → length l ≡ n → i ≤ n → part i (n - i) l ≡ drop i l
  unfolding part
  take-end i n l e h = take_all (n - i) (drop i l) (omega (arith, length-drop i l))

  -- in n + 1 elements, those from i to n moved up by one: the first n with a gap at i, which holds what was there
  pub open-list : (i n : ℕ) (d : A) (l : List A) → length l ≡ n + 1 → i ≤ n → put (i + 1) (part i (n - i) l) l ≡ take i (take n l) ++ (get_or l i d ∷ drop i (take n l))
  unfolding part put
  open-list i n d l e h =
      let m : length (take (n - i) (drop i l)) ≡ n - i = length_part i (n - i) l (omega arith) in
      let z : drop (length (take (n - i) (drop i l))) (drop (i + 1) l) ≡ [] = drop-end (length (take (n - i) (drop i l))) (drop (i + 1) l) (omega (arith, length-drop (i + 1) l)) in
      let t : take (i + 1) l ≡ take i l ++ (get_or l i d ∷ []) = part-snoc 0 i d l (omega arith) ∙ ap (λ (j : ℕ). take i l ++ (get_or l j d ∷ [])) (zero-add i) in
      let f : n ≡ i + (n - i) = omega arith in
      let r : drop i (take n l) ≡ take (n - i) (drop i l) = ap (λ (j : ℕ). drop i (take j l)) f ∙ drop-take i (n - i) l in
      (λ k. t k ++ (take (n - i) (drop i l) ++ z k))
      ∙ ap (λ (q : List A). (take i l ++ (get_or l i d ∷ [])) ++ q) (append-nil (take (n - i) (drop i l)))
      ∙ append_assoc (take i l) (get_or l i d ∷ []) (take (n - i) (drop i l))
      ∙ sym (λ k. take-take i n l h k ++ (get_or l i d ∷ r k))

  -- what stands in a gap is put over
  pub put-gap : (i : ℕ) (x y : A) (p q : List A) → length p ≡ i → put i (y ∷ []) (p ++ (x ∷ q)) ≡ p ++ (y ∷ q)
  put-gap i x y p q e = put-at i p (x ∷ []) q (y ∷ []) e refl

  -- in n elements, those from j on moved down to i
  pub close-list : (i j n : ℕ) (l m : List A) → length l ≡ n → i ≤ j → j ≤ n → length m ≡ i + (n - j) → take i m ≡ take i l → put i (part j (n - j) l) m ≡ take i l ++ drop j l
  unfolding put
  close-list i j n l m e h k f t =
      let z : drop (length (part j (n - j) l)) (drop i m) ≡ [] =
      drop-end (length (part j (n - j) l)) (drop i m) (omega (arith, length-drop i m, length_part j (n - j) l (omega arith))) in
      (λ w. t w ++ (take-end j n l e k w ++ z w)) ∙ ap (λ (q : List A). take i l ++ q) (append-nil (drop j l))

-- the rows of a slice in which a gap was opened
pub rows-opened : (s n i : ℕ) (xs : List ℕ) → i ≤ n → (n + 1) * s ≤ length xs
    → rows s (n + 1) (opened s n i xs) ≡ take i (rows s n xs) ++ (part (i * s) s xs ∷ drop i (rows s n xs))
unfolding opened
rows-opened s n i xs h l =
    let r : List (List ℕ) = rows s (n + 1) xs in
    let b : i * s + (n - i) * s ≤ length xs = omega (arith, mul-split s n i h, mul-more s n) in
    ap (λ (j : ℕ). rows s (n + 1) (put j (part (i * s) ((n - i) * s) xs) xs)) (sym (mul-more s i))
    ∙ rows-put s (i + 1) (n - i) (n + 1) (part (i * s) ((n - i) * s) xs) xs (length_part (i * s) ((n - i) * s) xs b) (omega arith) l
    ∙ ap (λ (t : List (List ℕ)). put (i + 1) t r) (rows-part s i (n - i) (n + 1) xs (omega arith))
    ∙ open-list i n [] r (length-rows s (n + 1) xs) h
    ∙ (λ k. take i (take-rows s n (n + 1) xs (omega arith) k) ++ (get_d_rows s (n + 1) i [] xs (omega arith) k ∷ drop i (take-rows s n (n + 1) xs (omega arith) k)))

-- the rows of a slice in which rows were closed
pub rows-closed : (s n i j : ℕ) (xs : List ℕ) → i ≤ j → j ≤ n → n * s ≤ length xs
    → rows s (n - (j - i)) (closed s n i j xs) ≡ take i (rows s n xs) ++ drop j (rows s n xs)
unfolding closed
rows-closed s n i j xs h k l =
    let m : ℕ = n - (j - i) in
    let b : j * s + (n - j) * s ≤ length xs = omega (arith, mul-split s n j k) in
    rows-put s i (n - j) m (part (j * s) ((n - j) * s) xs) xs (length_part (j * s) ((n - j) * s) xs b) (omega arith) (omega (arith, mul-up s m n (omega arith)))
    ∙ ap (λ (t : List (List ℕ)). put i t (rows s m xs)) (rows-part s j (n - j) n xs (omega arith))
    ∙ close-list i j n (rows s n xs) (rows s m xs) (length-rows s n xs) h k (length-rows s m xs ∙ (omega arith))
    (take-rows s i m xs (omega arith) ∙ sym (take-rows s i n xs (omega arith)))

pub length-opened : (s n i : ℕ) (xs : List ℕ) → i ≤ n → (n + 1) * s ≤ length xs → length (opened s n i xs) ≡ length xs
unfolding opened
length-opened s n i xs h l =
    let e : i * s + (n - i) * s + s ≡ (n + 1) * s = omega (arith, mul-split s n i h, mul-more s n) in
    length-put (i * s + s) (part (i * s) ((n - i) * s) xs) xs (omega (arith, length_part (i * s) ((n - i) * s) xs (omega arith)))

-- a row more at the end of j rows
pub rows-push : (s j : ℕ) (ys xs : List ℕ) → length ys ≡ s → (j + 1) * s ≤ length xs → rows s (j + 1) (put (j * s) ys xs) ≡ rows s j xs ++ (ys ∷ [])
unfolding put
rows-push s j ys xs e h =
    let r : List (List ℕ) = rows s (j + 1) xs in
    let z : drop 1 (drop j r) ≡ [] = drop-drop 1 j r ∙ drop_of_length-le r {i = j + 1} (omega (arith, length-rows s (j + 1) xs)) in
    rows-put-one s j (j + 1) ys xs e (omega arith) h ∙ (λ k. take-rows s j (j + 1) xs (omega arith) k ++ (ys ∷ z k))
