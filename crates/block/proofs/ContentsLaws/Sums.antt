-- Sums over places that name each row at most once: where such a sum is that of all rows, the rows that no place names have nothing.
-- Assumes nothing.
use Rattle.block.proofs.Words.{◌≡◌, refl, ap, ◌∙◌, true, List, [], ◌∷◌, map, ℕ, zero, suc, ◌+◌, ◌≤◌, ◌<◌, le_of_suc-le-suc, not-suc-le-zero, arith, ltb-true, eqb-true, leb-true, leb, ltb, eqb, length, drop, if◌then◌else◌, all, cases, and_left, and_right, all_head, all_tail, Ref, places, named-dropped, ExpiryRow, row_at, no_row}
use lib.Dec.{leb-zero, leb-suc-zero, leb-suc-suc, eqb-zero-suc, eqb-suc-zero, eqb-suc-suc}
use Rattle.storage.specs.Lists.Base.{sum, ascending, filter}
use Rattle.storage.specs.Refs.Refs.{left}
use Rattle.block.specs.Contents.Starts.{len_of}

-- w of the numbers below m, added
unfoldable pub sums : (ℕ → ℕ) → ℕ → ℕ
sums w zero = 0
sums w (suc m) = w 0 + sums (λ i. w (suc i)) m

-- all but one number
abbrev pub but : ℕ → (ℕ → ℕ) → ℕ → ℕ
but p w i = if eqb i p then 0 else w i

-- the numbers from d on
abbrev pub from : ℕ → (ℕ → ℕ) → ℕ → ℕ
from d w i = if leb d i then w i else 0

abbrev pub up_to : ℕ → (ℕ → ℕ) → ℕ → ℕ
up_to d w i = if leb d i then 0 else w i

pub sums-but : (w : ℕ → ℕ) (p m : ℕ) → p < m → sums (but p w) m + w p ≡ sums w m
unfolding sums
sums-but w p zero h = absurd (not-suc-le-zero h)
sums-but w zero (suc m) h =
    let e : sums (λ i. but 0 w (suc i)) m ≡ sums (λ i. w (suc i)) m = λ k. sums (λ i. if eqb-suc-zero i k then 0 else w (suc i)) m in
    omega (arith, e)
sums-but w (suc q) (suc m) h =
    let e : sums (λ i. but (suc q) w (suc i)) m ≡ sums (but q (λ i. w (suc i))) m = λ k. sums (λ i. if eqb-suc-suc i q k then 0 else w (suc i)) m in
    let f : but (suc q) w 0 ≡ w 0 = λ k. if eqb-zero-suc q k then 0 else w 0 in
    omega (arith, e, f, sums-but (λ i. w (suc i)) q m (le_of_suc-le-suc h))

-- places whose keys are above that of p are not p
but-apart : (K : ℕ → ℕ) (p : ℕ) (w : ℕ → ℕ) (ps : List ℕ) → all (ltb (K p)) (map K ps) ≡ true → sum (but p w) ps ≡ sum w ps
unfolding sum
but-apart K p w [] a = refl
but-apart K p w (q ∷ ps) a =
    let above : K p < K q = ltb-true (K p) (K q) (all_head (ltb (K p)) (K q) (map K ps) a) in
    let rest : sum (but p w) ps ≡ sum w ps = but-apart K p w ps (all_tail (ltb (K p)) (K q) (map K ps) a) in
    cases (eqb q p)
    (λ t. absurd (omega (arith, above, ap K (eqb-true q p t))))
    (λ f. rw f (omega (arith, rest)))

-- each place counts once
pub sum-once : (K : ℕ → ℕ) (m : ℕ) (w : ℕ → ℕ) (ps : List ℕ) → ascending (map K ps) ≡ true → all (λ p. ltb p m) ps ≡ true → sum w ps ≤ sums w m
unfolding sum ascending
sum-once K m w [] a b = omega arith
sum-once K m w (p ∷ ps) a b =
    let low : p < m = ltb-true p m (all_head (λ p. ltb p m) p ps b) in
    omega (
      arith,
      sum-once K m (but p w) ps (and_right (all (ltb (K p)) (map K ps)) (ascending (map K ps)) a) (all_tail (λ p. ltb p m) p ps b),
      but-apart K p w ps (and_left (all (ltb (K p)) (map K ps)) (ascending (map K ps)) a),
      sums-but w p m low,
    )

-- two parts of a sum
module _ (v u w : ℕ → ℕ) (e : (i : ℕ) → v i + u i ≡ w i) where
  sum-parts : (ps : List ℕ) → sum v ps + sum u ps ≡ sum w ps
  unfolding sum
  sum-parts [] = refl
  sum-parts (p ∷ ps) = omega (arith, e p, sum-parts ps)

pub sums-parts : (v u w : ℕ → ℕ) (e : (i : ℕ) → v i + u i ≡ w i) (m : ℕ) → sums v m + sums u m ≡ sums w m
unfolding sums
sums-parts v u w e zero = refl
sums-parts v u w e (suc m) = omega (arith, e 0, sums-parts (λ i. v (suc i)) (λ i. u (suc i)) (λ i. w (suc i)) (λ i. e (suc i)) m)

-- where the places have all that the numbers have, they have all of every part
pub sum-all : (K : ℕ → ℕ) (v u w : ℕ → ℕ) (e : (i : ℕ) → v i + u i ≡ w i) (m : ℕ) (ps : List ℕ) → ascending (map K ps) ≡ true → all (λ p. ltb p m) ps ≡ true
    → sum w ps ≡ sums w m → sum v ps ≡ sums v m
sum-all K v u w e m ps a b t = omega (arith, t, sum-parts v u w e ps, sums-parts v u w e m, sum-once K m v ps a b, sum-once K m u ps a b)

pub from-up_to : (d : ℕ) (w : ℕ → ℕ) (i : ℕ) → from d w i + up_to d w i ≡ w i
from-up_to d w i = cases (leb d i) (λ t. rw t (omega arith)) (λ f. rw f (omega arith))

-- the lengths in all rows, and in the rows from d on
pub sums-rows : (xs : List ExpiryRow) → sums (λ i. len_of (row_at xs i)) (length xs) ≡ sum len_of xs
unfolding sums sum
sums-rows [] = refl
sums-rows (x ∷ xs) = ap (λ (n : ℕ). len_of x + n) (sums-rows xs)

pub sums-drop : (d : ℕ) (xs : List ExpiryRow) → sums (from d (λ i. len_of (row_at xs i))) (length xs) ≡ sum len_of (drop d xs)
unfolding sums sum
sums-drop zero xs = (λ k. sums (λ i. if leb-zero i k then len_of (row_at xs i) else 0) (length xs)) ∙ sums-rows xs
sums-drop (suc d) [] = refl
sums-drop (suc d) (x ∷ xs) =
    let e : sums (λ i. from (suc d) (λ i. len_of (row_at (x ∷ xs) i)) (suc i)) (length xs) ≡ sums (from d (λ i. len_of (row_at xs i))) (length xs) = λ k. sums (λ i. if leb-suc-suc d i k then len_of (row_at xs i) else 0) (length xs) in
    let f : from (suc d) (λ i. len_of (row_at (x ∷ xs) i)) 0 ≡ 0 = λ k. if leb-suc-zero d k then len_of x else 0 in
    omega (arith, e, f, sums-drop d xs)

-- the lengths in the rows that the entries name which are left when the first d rows are gone
pub sum_left : (d : ℕ) (xs : List ExpiryRow) (es : List Ref) → sum (λ r. len_of (row_at (drop d xs) r.place)) (left d es) ≡ sum (from d (λ i. len_of (row_at xs i))) (places es)
unfolding left filter sum
sum_left d xs [] = refl
sum_left d xs (r ∷ es) =
    cases (leb d r.place)
    (λ t. rw t (omega (arith, sum_left d xs es, ap len_of (named-dropped no_row d r.place xs (leb-true d r.place t)))))
    (λ f. rw f (omega (arith, sum_left d xs es)))

pub sum-places : (w : ℕ → ℕ) (es : List Ref) → sum (λ r. w r.place) es ≡ sum w (places es)
unfolding sum
sum-places w [] = refl
sum-places w (r ∷ es) = ap (λ (n : ℕ). w r.place + n) (sum-places w es)
