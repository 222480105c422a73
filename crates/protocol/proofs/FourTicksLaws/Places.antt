-- The place of an identifier in a neighbour's record: how many entries stand up to it.
-- Assumes nothing.
use Rattle.std.proofs.Common.{ℕ, zero, suc, ◌+◌, ◌≤◌, arith, ◌≡◌, refl, ap, Bool, true, false, List, [], ◌∷◌, ◌++◌, eqb, length, drop, if◌then◌else◌}
use Rattle.storage.specs.Lists.Base.{filter, any}
use Rattle.storage.proofs.ListsLaws.MapLaws.{cases, true≢}
use Rattle.storage.proofs.ListsLaws.ListLaws.{any-filter-false}
use Rattle.protocol.specs.State.{Note}

-- the entry is of this identifier
abbrev pub is_id : ℕ → Note → Bool
is_id id n = eqb n.id id

-- the place of its last entry, counted from 1; 0 where it has none
unfoldable pub last : ℕ → List Note → ℕ
last id [] = 0
last id (n ∷ ns) = if any (is_id id) (n ∷ ns) then suc (last id ns) else 0

pub last-none : (id : ℕ) (ns : List Note) → any (is_id id) ns ≡ false → last id ns ≡ 0
unfolding last
last-none id [] h = refl
last-none id (n ∷ ns) h = rw h

pub last-some : (id : ℕ) (ns : List Note) → any (is_id id) ns ≡ true → 1 ≤ last id ns
unfolding last
last-some id [] h = true≢ (unfold any in h)
last-some id (n ∷ ns) h = rw h (omega arith)

pub last-length : (id : ℕ) (ns : List Note) → last id ns ≤ length ns
unfolding last
last-length id [] = omega arith
last-length id (n ∷ ns) = cases (any (is_id id) (n ∷ ns)) (λ e. rw e (omega (arith, last-length id ns))) (λ e. rw e (omega arith))

-- others taken out
pub last-filter : (id : ℕ) (f : Note → Bool) (ns : List Note) → last id (filter f ns) ≤ last id ns
unfolding last filter
last-filter id f [] = omega arith
last-filter id f (n ∷ ns) =
    cases (any (is_id id) (n ∷ ns))
    (λ e. cases (f n)
    (λ g. rw (e, g) (cases (any (is_id id) (n ∷ filter f ns)) (λ k. rw k (omega (arith, last-filter id f ns))) (λ k. rw k (omega arith))))
    (λ g. rw (e, g) (omega (arith, last-filter id f ns))))
    (λ e. rw e (omega (arith, last-none id (filter f (n ∷ ns)) (any-filter-false (is_id id) f (n ∷ ns) e))))

any-drop : (id k : ℕ) (ns : List Note) → any (is_id id) (drop k ns) ≡ true → any (is_id id) ns ≡ true
unfolding any
any-drop id zero ns h = h
any-drop id (suc k) [] h = h
any-drop id (suc k) (n ∷ ns) h = cases (eqb n.id id) (λ e. rw e) (λ e. rw e (any-drop id k ns h))

-- the first k taken out, where it stands behind them
pub last-drop : (id k : ℕ) (ns : List Note) → any (is_id id) (drop k ns) ≡ true → last id (drop k ns) + k ≤ last id ns
unfolding last
last-drop id zero ns h = omega arith
last-drop id (suc k) [] h = true≢ (unfold any in h)
last-drop id (suc k) (n ∷ ns) h = rw (any-drop id (suc k) (n ∷ ns) h) (omega (arith, last-drop id k ns h))

-- others put behind it
pub last-append : (id : ℕ) (ns ms : List Note) → any (is_id id) ms ≡ false → last id (ns ++ ms) ≡ last id ns
unfolding last any
last-append id [] ms h = last-none id ms h
last-append id (n ∷ ns) ms h =
    cases (eqb n.id id)
    (λ e. rw e (ap suc (last-append id ns ms h)))
    (λ e. rw (e, any-none ns) (cases (any (is_id id) ns) (λ g. rw g (ap suc (last-append id ns ms h))) (λ g. rw g)))
  where
    any-none : (xs : List Note) → any (is_id id) (xs ++ ms) ≡ any (is_id id) xs
    any-none [] = h
    any-none (x ∷ xs) = cases (eqb (x.id) id) (λ e. rw e) (λ e. rw e (any-none xs))
