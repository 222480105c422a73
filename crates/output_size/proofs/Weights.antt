-- How many bytes lists of actions have.
-- Assumes nothing.
use Rattle.std.proofs.Common.{ℕ, zero, suc, ◌+◌, ◌*◌, ◌/◌, ◌≤◌, ◌<◌, ◌≡◌, refl, Bool, true, false, List, [], ◌∷◌, ◌++◌, map, arith, ltb, eqb, length, ltb-true, ltb-false, eqb-true, if◌then◌else◌}
use Rattle.storage.proofs.RowsLaws.Rows.{mul-more}
use Rattle.storage.specs.Lists.Base.{sum}
use Rattle.storage.proofs.ListsLaws.MapLaws.{cases}
use Rattle.postcard.specs.Number.{groups, number_bytes, number_length}
use Rattle.postcard.specs.Message.{Message, Timer, Action, Sent, Scheduled}
use Rattle.postcard.proofs.Lengths.{number-few}
use Rattle.decide.specs.Lengths.{message_length, timer_length, action_length}

-- numbers

groups-some : (more n : ℕ) → 1 ≤ length (groups more n)
unfolding groups
groups-some zero n = omega arith
groups-some (suc more) n = cases (ltb n 128) (λ t. rw t (omega arith)) (λ t. rw t (omega arith))

groups-one : (more n : ℕ) → n < 128 → length (groups more n) ≡ 1
unfolding groups
groups-one zero n h = refl
groups-one (suc more) n h = cases (ltb n 128) (λ t. rw t refl) (λ t. absurd (omega (arith, h, ltb-false n 128 t)))

groups-suc : (more n : ℕ) → length (groups more (suc n)) ≤ suc (length (groups more n))
unfolding groups
groups-suc zero n = omega arith
groups-suc (suc more) n =
    cases (ltb (suc n) 128)
    (λ t. rw t (omega (arith, groups-some (suc more) n)))
    (λ t. cases (ltb n 128)
    (λ u. rw (t, u) (omega (arith, groups-one more (suc n / 128) (omega (arith, ltb-true n 128 u)))))
    (λ u. cases (eqb (suc n / 128) (n / 128))
    (λ e. rw (t, u, eqb-true (suc n / 128) (n / 128) e) (omega arith))
    (λ e. let f : suc n / 128 ≡ suc (n / 128) = next (n / 128) (suc n / 128) (omega arith) (omega arith) e in rw (t, u, f) (omega (arith, groups-suc more (n / 128))))))
  where
    next : (a b : ℕ) → a ≤ b → b ≤ suc a → eqb b a ≡ false → b ≡ suc a
    next a b h k e = omega (arith, h, k, borrow.Author.Tests.eqb-false b a e)

pub number-some : (n : ℕ) → 1 ≤ number_length n
unfolding number_length number_bytes
number-some n = groups-some 9 n

pub number-one : (n : ℕ) → n < 128 → number_length n ≡ 1
unfolding number_length number_bytes
number-one n h = groups-one 9 n h

pub number-suc : (n : ℕ) → number_length (suc n) ≤ suc (number_length n)
unfolding number_length number_bytes
number-suc n = groups-suc 9 n

-- a round takes at most three bytes
pub round-few : (n : ℕ) → n ≤ 65535 → number_length n ≤ 3
unfolding number_length number_bytes groups
round-few n h =
    cases (ltb n 128) (λ t. rw t (omega arith))
    (λ t. cases (ltb (n / 128) 128) (λ u. rw (t, u) (omega arith))
    (λ u. let v : (n / 128) / 128 < 128 = omega arith in rw (t, u) (omega (arith, groups-one 7 ((n / 128) / 128) v))))

-- lists

abbrev pub weight : List Action → ℕ
weight xs = sum action_length xs

pub weight-append : (xs ys : List Action) → weight (xs ++ ys) ≡ weight xs + weight ys
unfolding sum
weight-append [] ys = omega arith
weight-append (x ∷ xs) ys = omega (arith, weight-append xs ys)

pub weight-one : (a : Action) → weight (a ∷ []) ≡ action_length a
unfolding sum
weight-one a = omega arith

pub weight-none : weight [] ≡ 0
unfolding sum
weight-none = refl

pub weight-cons : (a : Action) (xs : List Action) → weight (a ∷ xs) ≡ action_length a + weight xs
unfolding sum
weight-cons a xs = refl

-- one action of at most m bytes for each element
pub weight-each : {A : Type 0} (f : A → Action) (m : ℕ) → ((x : A) → action_length (f x) ≤ m) → (xs : List A) → weight (map f xs) ≤ length xs * m
unfolding sum
weight-each f m h [] = omega arith
weight-each f m h (x ∷ xs) = omega (arith, h x, weight-each f m h xs, mul-more m (length xs))

pub weight-if : (n : ℕ) (xs ys : List Action) (b : Bool) → weight xs ≤ n → weight ys ≤ n → weight (if b then xs else ys) ≤ n
weight-if n xs ys true h k = h
weight-if n xs ys false h k = k

-- actions

pub sent-weight : (p : ℕ) (taken : Bool) (m : Message) → action_length (Sent p taken m) ≤ 12 + message_length m
unfolding action_length
sent-weight p taken m = omega (arith, number-few p)

pub tick-weight : (delay : ℕ) (t : Timer) → timer_length t ≡ 1 → action_length (Scheduled delay t) ≤ 12
unfolding action_length
tick-weight delay t e = omega (arith, number-few delay, e)
