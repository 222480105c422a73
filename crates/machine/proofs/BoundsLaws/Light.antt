-- Actions whose bytes are at most n in all, and how such lists are put together.
-- Assumes nothing.
use Rattle.machine.proofs.Words.{ℕ, ◌+◌, ◌*◌, ◌≤◌, ◌≡◌, Bool, true, false, List, [], ◌∷◌, ◌++◌, map, arith, length, if◌then◌else◌, cases, Action}
use Rattle.storage.proofs.RowsLaws.Rows.{mul-more}
use Rattle.storage.specs.Lists.Base.{filter, sum}
use Rattle.decide.specs.Lengths.{action_length}

-- sums of lengths
module _ {A : Type 0} (f : A → ℕ) where
  pub sum-append : (xs ys : List A) → sum f (xs ++ ys) ≡ sum f xs + sum f ys
  unfolding sum
  sum-append [] ys = omega arith
  sum-append (x ∷ xs) ys = omega (arith, sum-append xs ys)

  pub sum-filter : (keep : A → Bool) (xs : List A) → sum f (filter keep xs) ≤ sum f xs
  unfolding sum filter
  sum-filter keep [] = omega arith
  sum-filter keep (x ∷ xs) = cases (keep x) (λ e. rw e (omega (arith, sum-filter keep xs))) (λ e. rw e (omega (arith, sum-filter keep xs)))

-- these actions have at most n bytes
pub record Light (n : ℕ) (xs : List Action) : Type 0 where
  pub most : sum action_length xs ≤ n

pub light-none : {n : ℕ} → Light n []
unfolding sum
light-none = record { most = omega arith }

pub light-more : {m n : ℕ} {xs : List Action} → Light m xs → m ≤ n → Light n xs
light-more l h = record { most = omega (arith, l.most) }

pub light-cons : {m n : ℕ} {a : Action} {xs : List Action} → action_length a ≤ m → Light n xs → Light (m + n) (a ∷ xs)
unfolding sum
light-cons h l = record { most = omega (arith, l.most) }

pub light-one : {n : ℕ} {a : Action} → action_length a ≤ n → Light n (a ∷ [])
unfolding sum
light-one h = record { most = omega arith }

pub light-then : {m n : ℕ} {xs ys : List Action} → Light m xs → Light n ys → Light (m + n) (xs ++ ys)
light-then {m} {n} {xs} {ys} k l = record { most = omega (arith, sum-append action_length xs ys, k.most, l.most) }

pub light-if : {n : ℕ} {xs ys : List Action} (b : Bool) → Light n xs → Light n ys → Light n (if b then xs else ys)
light-if true k l = k
light-if false k l = l

-- one action of at most n bytes for each element
pub light-each : {A : Type 0} (f : A → Action) (n : ℕ) → ((x : A) → action_length (f x) ≤ n) → (xs : List A) → Light (length xs * n) (map f xs)
light-each f n h [] = light-none
light-each f n h (x ∷ xs) = light-more (light-cons (h x) (light-each f n h xs)) (omega (arith, mul-more n (length xs)))
