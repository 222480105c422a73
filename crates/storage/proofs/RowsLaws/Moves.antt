-- What a copy within a slice, and a write to a part that was lent, do to the bytes.
-- Assumes nothing.
use Rattle.std.proofs.Common.{◌≡◌, sym, ap, ◌∙◌, List, ◌++◌, ℕ, ◌+◌, ◌-◌, ◌≤◌, arith, length, add-zero}
use native.Mathlib.Nat.{sub-zero}
use borrow.Rule.Slice.PartMut.{put_mid}
use Rattle.storage.specs.Rows.Part.{part, put}
use Rattle.storage.proofs.RowsLaws.Parts.{length_part, loan-put, part-before, part-after, part-add, put-nil, put-put-prev, put-put-next}

module _ {A : Type 0} where
  pub lent-put : (a k : ℕ) (ys xs : List A) → length ys ≡ k → put_mid a (a + k - a) xs ys ≡ put a ys xs
  lent-put a k ys xs e = let w : a + k - a ≡ k = omega arith in ap (λ (m : ℕ). put_mid a m xs ys) w ∙ loan-put a k ys xs e

  -- the bytes i to j from `from` were copied to `to`
  abbrev pub Moved : ℕ → ℕ → ℕ → ℕ → List A → List A → Type 0
  Moved from to i j xs ys = ys ≡ put (to + i) (part (from + i) (j - i) xs) xs

  pub moved_none : (from to i : ℕ) (xs : List A) → Moved from to i i xs xs
  unfolding part
  moved_none from to i xs =
      let e : i - i ≡ 0 = omega arith in
      rw e (sym (put-nil (to + i) xs))

  module _ (from to i j k : ℕ) (xs ys zs : List A) (ij : i ≤ j) (jk : j ≤ k) (fits : from + k ≤ length xs) (room : to + k ≤ length xs) where
    joined : part (from + i) (j - i) xs ++ part (from + j) (k - j) xs ≡ part (from + i) (k - i) xs
    joined =
        let there : from + i + (j - i) ≡ from + j = omega arith in
        let many : j - i + (k - j) ≡ k - i = omega arith in
        ap (λ (n : ℕ). part (from + i) (j - i) xs ++ part n (k - j) xs) (sym there) ∙ sym (part-add (from + i) (j - i) (k - j) xs) ∙ ap (λ (n : ℕ). part (from + i) n xs) many

    -- bytes more before them, where they go up
    pub moved-before : from ≤ to → Moved from to j k xs ys → zs ≡ put (to + i) (part (from + i) (j - i) ys) ys → Moved from to i k xs zs
    moved-before h e g =
        let back : List A = part (from + j) (k - j) xs in
        let lb : length back ≡ k - j = length_part (from + j) (k - j) xs (omega arith) in
        let lf : length (part (from + i) (j - i) xs) ≡ j - i = length_part (from + i) (j - i) xs (omega arith) in
        let same : part (from + i) (j - i) ys ≡ part (from + i) (j - i) xs = ap (part (from + i) (j - i)) e ∙ part-before (from + i) (j - i) (to + j) back xs (omega arith) (omega arith) in
        g
        ∙ (λ t. put (to + i) (same t) (e t))
        ∙ put-put-prev (to + i) (to + j) (part (from + i) (j - i) xs) back xs (omega arith) (omega arith)
        ∙ ap (λ (t : List A). put (to + i) t xs) joined

    -- bytes more behind them, where they go down
    pub moved-behind : to ≤ from → Moved from to i j xs ys → zs ≡ put (to + j) (part (from + j) (k - j) ys) ys → Moved from to i k xs zs
    moved-behind h e g =
        let front : List A = part (from + i) (j - i) xs in
        let lf : length front ≡ j - i = length_part (from + i) (j - i) xs (omega arith) in
        let lb : length (part (from + j) (k - j) xs) ≡ k - j = length_part (from + j) (k - j) xs (omega arith) in
        let same : part (from + j) (k - j) ys ≡ part (from + j) (k - j) xs = ap (part (from + j) (k - j)) e ∙ part-after (from + j) (k - j) (to + i) front xs (omega arith) (omega arith) in
        g
        ∙ (λ t. put (to + j) (same t) (e t))
        ∙ put-put-next (to + i) (to + j) front (part (from + j) (k - j) xs) xs (omega arith) (omega arith)
        ∙ ap (λ (t : List A). put (to + i) t xs) joined

  -- all of them
  module _ (from to k : ℕ) (xs ys : List A) where
    whole : put (to + 0) (part (from + 0) (k - 0) xs) xs ≡ put to (part from k xs) xs
    whole = λ t. put (add-zero to t) (part (add-zero from t) (sub-zero k t) xs) xs

    pub moved-whole : Moved from to 0 k xs ys → ys ≡ put to (part from k xs) xs
    moved-whole e = e ∙ whole

    pub whole-moved : ys ≡ put to (part from k xs) xs → ys ≡ put (to + 0) (part (from + 0) (k - 0) xs) xs
    whole-moved e = e ∙ sym whole
