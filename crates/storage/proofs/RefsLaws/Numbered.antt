-- Numbers of one byte and rows beside them, read together: one of them, and one more.
-- Assumes nothing.
use Rattle.std.proofs.Common.{◌≡◌, refl, sym, ap, ◌∙◌, List, [], ◌∷◌, ◌++◌, ℕ, zero, suc, ◌+◌, ◌-◌, ◌*◌, ◌≤◌, ◌<◌, le_of_suc-le-suc, not-suc-le-zero, add-one, arith, length, take, drop, get_or, length-take-le, get_or-take, take-suc, get_or-set_same}
use Rattle.storage.specs.Rows.Part.{part, put}
use Rattle.storage.specs.Rows.Rows.{rows}
use Rattle.storage.proofs.RowsLaws.Parts.{take_put, set-put, length-put, drop-take}
use Rattle.storage.proofs.RowsLaws.Rows.{get_d_rows, length-rows, drop-rows}
use Rattle.storage.proofs.RowsLaws.Rows.{rows-push}
use Rattle.storage.specs.Refs.Numbers.{pairs, numbered}

-- a number put after the first n
pub take-put-next : (n x : ℕ) (c : List ℕ) → n < length c → take (n + 1) (put n (x ∷ []) c) ≡ take n c ++ (x ∷ [])
take-put-next n x c h =
    let l : length (put n (x ∷ []) c) ≡ length c = length-put n (x ∷ []) c (omega arith) in
    ap (λ (m : ℕ). take m (put n (x ∷ []) c)) (add-one n)
    ∙ take-suc (put n (x ∷ []) c) n 0 (omega arith)
    ∙ (λ k. take_put n n (x ∷ []) c (omega arith) (omega arith) k ++ ((ap (λ (m : List ℕ). get_or m n 0) (sym (set-put n x c h)) ∙ get_or-set_same c n x 0 h) k ∷ []))

module _ {A : Type 0} (f : ℕ → List ℕ → A) where
  pub length_pairs : (ls : List ℕ) (rs : List (List ℕ)) → length ls ≡ length rs → length (pairs f ls rs) ≡ length ls
  unfolding pairs
  length_pairs [] rs e = refl
  length_pairs (l ∷ ls) [] e = absurd (omega arith)
  length_pairs (l ∷ ls) (r ∷ rs) e = ap suc (length_pairs ls rs (omega arith))

  pub pairs-at : (ls : List ℕ) (rs : List (List ℕ)) (i : ℕ) (d : A) → i < length ls → i < length rs → get_or (pairs f ls rs) i d ≡ f (get_or ls i 0) (get_or rs i [])
  unfolding pairs
  pairs-at [] rs i d h g = absurd (not-suc-le-zero h)
  pairs-at (l ∷ ls) [] i d h g = absurd (not-suc-le-zero g)
  pairs-at (l ∷ ls) (r ∷ rs) zero d h g = refl
  pairs-at (l ∷ ls) (r ∷ rs) (suc i) d h g = pairs-at ls rs i d (le_of_suc-le-suc h) (le_of_suc-le-suc g)

  pub pairs-append : (ls ms : List ℕ) (rs ss : List (List ℕ)) → length ls ≡ length rs → pairs f (ls ++ ms) (rs ++ ss) ≡ pairs f ls rs ++ pairs f ms ss
  unfolding pairs
  pairs-append [] ms [] ss e = refl
  pairs-append [] ms (r ∷ rs) ss e = absurd (omega arith)
  pairs-append (l ∷ ls) ms [] ss e = absurd (omega arith)
  pairs-append (l ∷ ls) ms (r ∷ rs) ss e = ap (λ (t : List A). f l r ∷ t) (pairs-append ls ms rs ss (omega arith))

  module _ (s n : ℕ) (c b : List ℕ) where
    pub length-numbered : n ≤ length c → length (numbered f s n c b) ≡ n
    unfolding numbered
    length-numbered h = length_pairs (take n c) (rows s n b) (length-take-le n c h ∙ sym (length-rows s n b)) ∙ length-take-le n c h

    pub numbered-at : (i : ℕ) (d : A) → i < n → n ≤ length c → get_or (numbered f s n c b) i d ≡ f (get_or c i 0) (part (i * s) s b)
    unfolding numbered
    numbered-at i d h g =
        pairs-at (take n c) (rows s n b) i d (omega (arith, length-take-le n c g)) (omega (arith, length-rows s n b))
        ∙ (λ k. f (get_or-take n c i 0 h k) (get_d_rows s n i [] b h k))

    pub numbered-push : (x : ℕ) (row : List ℕ) → length row ≡ s → n < length c → (n + 1) * s ≤ length b
        → numbered f s (n + 1) (put n (x ∷ []) c) (put (n * s) row b) ≡ numbered f s n c b ++ (f x row ∷ [])
    unfolding numbered pairs
    numbered-push x row e h g =
        (λ k. pairs f (take-put-next n x c h k) (rows-push s n row b e g k))
        ∙ pairs-append (take n c) (x ∷ []) (rows s n b) (row ∷ []) (length-take-le n c (omega arith) ∙ sym (length-rows s n b))

  -- the same numbers and rows
  pub numbered-same : (s n : ℕ) (c d b e : List ℕ) → take n c ≡ take n d → rows s n b ≡ rows s n e → numbered f s n c b ≡ numbered f s n d e
  unfolding numbered
  numbered-same s n c d b e p q = λ k. pairs f (p k) (q k)

  pub pairs-drop : (ls : List ℕ) (rs : List (List ℕ)) → pairs f (drop 1 ls) (drop 1 rs) ≡ drop 1 (pairs f ls rs)
  unfolding pairs
  pairs-drop [] rs = refl
  pairs-drop (l ∷ []) [] = refl
  pairs-drop (l ∷ m ∷ ls) [] = refl
  pairs-drop (l ∷ ls) (r ∷ rs) = refl

  -- without the first
  pub numbered-drop : (s n : ℕ) (c b : List ℕ) → 0 < n → numbered f s (n - 1) (drop 1 c) (drop s b) ≡ drop 1 (numbered f s n c b)
  unfolding numbered
  numbered-drop s n c b h =
      let e : n ≡ 1 + (n - 1) = omega arith in
      let g : s ≡ 1 * s = omega arith in
      (λ k. pairs f (sym (drop-take 1 (n - 1) c) k) (rows s (n - 1) (drop (g k) b)))
      ∙ (λ k. pairs f (drop 1 (take (sym e k) c)) (sym (drop-rows s 1 n b) k))
      ∙ pairs-drop (take n c) (rows s n b)
