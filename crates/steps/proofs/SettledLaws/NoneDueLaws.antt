-- Where no row of a time cache is due, all of them are later, and an eviction leaves everything.
-- Assumes nothing.
use Rattle.steps.proofs.Words.{◌≡◌, refl, sym, ap, ◌∙◌, ℕ, suc, ◌≤◌, arith, true, ◌&&◌, List, [], ◌∷◌, length, eqb, eq-eqb, ne_eqb, leb, is_empty, true≢, cases, and_left, and_right, Cache, Expiry, State, with_cache, with_received, with_grafted}
use Rattle.time_cache.specs.TimeCache.{due, later, later_cache, expire_until, pop_all}
use Rattle.time_cache.proofs.Timely.{later-filter}
use Rattle.protocol.specs.Ticks.{evict}
use Rattle.block.specs.Caches.InBlock.{InOrder}
use Rattle.steps.specs.Settled.Then.{none_due}

later-fewer : (now : ℕ) (xs : List Expiry) → length (later now xs) ≤ length xs
unfolding later
later-fewer now [] = omega arith
later-fewer now (x ∷ xs) = cases (leb x.time now) (λ p. rw p (omega (arith, later-fewer now xs))) (λ p. rw p (omega arith))

-- as many are later as there are rows: none is due
all-later : (now : ℕ) (xs : List Expiry) → eqb (length (later now xs)) (length xs) ≡ is_empty (due now xs)
unfolding later due
all-later now [] = refl
all-later now (x ∷ xs) =
    cases (leb x.time now)
    (λ p. rw p (ne_eqb (length (later now xs)) (suc (length xs)) (λ e. omega (arith, e, later-fewer now xs))))
    (λ p. rw p (eq-eqb (suc (length xs)) (suc (length xs)) refl))

-- of a whole cache
pub tells-none : {A : Type 0} (now r n : ℕ) (c : Cache A) → InOrder c → r ≡ length (later_cache now c).expiry → n ≡ length c.expiry → eqb r n ≡ is_empty (due now c.expiry)
unfolding later_cache
tells-none now r n c o e f = (λ k. eqb ((e ∙ ap length (sym (later-filter now c.expiry o.order))) k) (f k)) ∙ all-later now c.expiry

due-none : (now : ℕ) (xs : List Expiry) → is_empty (due now xs) ≡ true → (due now xs ≡ []) × (later now xs ≡ xs)
unfolding due later
due-none now [] = λ e. (refl, refl)
due-none now (x ∷ xs) = cases (leb x.time now) (λ p. rw p (λ e. true≢ e)) (λ p. rw p (λ e. (refl, refl)))

stands : {A : Type 0} (now : ℕ) (c : Cache A) → is_empty (due now c.expiry) ≡ true → expire_until now c ≡ c
unfolding expire_until pop_all
stands now c e =
    let d = due-none now c.expiry e in
    λ k. record { entries = pop_all (d.0 k) c.entries; expiry = d.1 k }

pub none-evicted : (now : ℕ) (s : State) → none_due now s ≡ true → evict now s ≡ s
unfolding evict
none-evicted now s e =
    let a = is_empty (due now s.received.expiry) in
    let b = is_empty (due now s.cache.expiry) in
    let first = and_left (a && b) (is_empty (due now s.grafted.expiry)) e in
    let r = stands now s.received (and_left a b first) in
    let c = stands now s.cache (and_right a b first) in
    let g = stands now s.grafted (and_right (a && b) (is_empty (due now s.grafted.expiry)) e) in
    λ k. with_grafted (g k) (with_received (r k) (with_cache (c k) s))
