-- A set of links as a list: what stands in it below a number, with a link more, and how many there are.
-- Assumes nothing.
use Rattle.steps.proofs.Words.{◌≡◌, ◌-◌, ◌⊎◌, inl, inr, ℕ, zero, suc, ◌+◌, ◌*◌, ◌/◌, ◌%◌, ◌^◌, ◌<◌, ◌≤◌, refl, sym, ap, ◌∙◌, arith, Bool, true, false, List, [], ◌∷◌, ◌++◌, length, length-append, append-nil, All, eqb, if◌then◌else◌, bit_or, rules, cases}
use Rattle.std.proofs.Common.{subst}
use Rattle.std.proofs.lemmas.Nat.{mod-pow-add, field_of, ones_cat, or_comm, or_shifted, mod_low, mod_below, shr_high, pow_below, pow_pos, pow-add}
use Rattle.std.proofs.Math.Pow.{mod-mod-pow}
use Rattle.std.proofs.Math.Nat.{mod-eq_of_lt, div-eq_of_lt, mod-one}
use Rattle.storage.proofs.RowsLaws.Ids.{tri}
use Rattle.std.proofs.lemmas.List.Elements.{All-append}
use lib.Count.{ones}
use Rattle.steps.specs.LinkSets.{has_link, links_below, links_of, AllBelow}
use Rattle.steps.specs.declared.link_set.LinkSet.{LinkSet}

abbrev digit : ℕ → ℕ → ℕ
digit n k = n / 2 ^ k % 2

module _ (set : LinkSet) where
  pub below-start : links_below set 0 ≡ []
  unfolding links_below
  below-start = refl

  pub below-in : (i : ℕ) → has_link set i ≡ true → links_below set (i + 1) ≡ links_below set i ++ (i ∷ [])
  unfolding links_below
  below-in i e = ap (links_below set) (let q : i + 1 ≡ suc i = omega arith in q) ∙ ap (λ (b : Bool). links_below set i ++ (if b then i ∷ [] else [])) e

  pub below-out : (i : ℕ) → has_link set i ≡ false → links_below set (i + 1) ≡ links_below set i
  unfolding links_below
  below-out i e = ap (links_below set) (let q : i + 1 ≡ suc i = omega arith in q) ∙ ap (λ (b : Bool). links_below set i ++ (if b then i ∷ [] else [])) e ∙ append-nil (links_below set i)

  -- nor from a later one on
  pub below-wider : (n l : ℕ) → AllBelow set n → n ≤ l → AllBelow set l
  below-wider n l b q = by_place (tri n l)
    where
      by_place : (n < l) ⊎ ((n ≡ l) ⊎ (l < n)) → AllBelow set l
      by_place (inl p) = omega (arith, b, pow_below n l p)
      by_place (inr (inl p)) = subst (AllBelow set) p b
      by_place (inr (inr p)) = absurd (omega (arith, p, q))

  -- a link from n on is not in it
  pub above-none : (n l : ℕ) → AllBelow set n → n ≤ l → has_link set l ≡ false
  unfolding has_link
  above-none n l b q = ap (λ (x : ℕ). eqb (x % 2) 1) (div-eq_of_lt {n = set.0} {m = 2 ^ l} (below-wider n l b q))

  -- all stand below n
  pub below-all : (n : ℕ) → AllBelow set n → (d : ℕ) → links_below set (d + n) ≡ links_below set n
  below-all n b zero = ap (links_below set) (let q : 0 + n ≡ n = omega arith in q)
  below-all n b (suc d) =
      ap (links_below set) (let q : suc d + n ≡ d + n + 1 = omega arith in q)
      ∙ below-out (d + n) (above-none n (d + n) b (omega arith))
      ∙ below-all n b d

  pub each-below : (n : ℕ) → All (λ l. l < n) (links_below set n)
  unfolding links_below
  each-below n = each n n (omega arith)
    where
      one : (b : Bool) (i m : ℕ) → i < m → All (λ l. l < m) (if b then i ∷ [] else [])
      one true i m q = search rules
      one false i m q = search rules

      each : (i m : ℕ) → i ≤ m → All (λ l. l < m) (links_below set i)
      each zero m q = search rules
      each (suc i) m q = All-append (λ l. l < m) (links_below set i) (if has_link set i then i ∷ [] else []) (each i m (omega arith)) (one (has_link set i) i m (omega arith))

-- a digit below k is that of the number below 2 ^ k
digit-low : (n d j : ℕ) → digit n j ≡ digit (n % 2 ^ (d + 1 + j)) j
digit-low n d j = sym (ap (λ (x : ℕ). x % 2) (field_of n (d + 1) j) ∙ mod-mod-pow (n / 2 ^ j) d 1)

-- with link k behind those that are in it
module _ (set : LinkSet) (k : ℕ) (b : AllBelow set k) where
  abbrev more : LinkSet
  more = record { 0 = bit_or set.0 (2 ^ k) }

  sum-of : bit_or set.0 (2 ^ k) ≡ 1 * 2 ^ k + set.0
  sum-of = or_comm set.0 (2 ^ k) ∙ ap (λ (x : ℕ). bit_or x set.0) (let q : 2 ^ k ≡ 1 * 2 ^ k = omega arith in q) ∙ or_shifted 1 k set.0 b

  pub more-below : AllBelow more (k + 1)
  more-below = omega (arith, sum-of, b, pow-add 2 k 1)

  same-low : (j : ℕ) → j < k → has_link more j ≡ has_link set j
  unfolding has_link
  same-low j q =
      ap (λ (x : ℕ). eqb (digit x j) 1) sum-of
      ∙ ap (λ (x : ℕ). eqb x 1)
      (subst (λ (w : ℕ). digit (1 * 2 ^ k + set.0) j ≡ digit ((1 * 2 ^ k + set.0) % 2 ^ w) j) wide (digit-low (1 * 2 ^ k + set.0) (k - suc j) j)
      ∙ ap (λ (x : ℕ). digit x j) (mod_low 1 k set.0 b ∙ sym (mod-eq_of_lt {n = set.0} {m = 2 ^ k} b))
      ∙ sym (subst (λ (w : ℕ). digit set.0 j ≡ digit (set.0 % 2 ^ w) j) wide (digit-low set.0 (k - suc j) j)))
    where
      wide : k - suc j + 1 + j ≡ k
      wide = omega (arith, q)

  same-below : (j : ℕ) → j ≤ k → links_below more j ≡ links_below set j
  unfolding links_below
  same-below zero q = refl
  same-below (suc j) q = λ z. same-below j (omega arith) z ++ (if same-low j (omega arith) z then j ∷ [] else [])

  here : has_link more k ≡ true
  unfolding has_link
  here = ap (λ (x : ℕ). eqb (digit x k) 1) sum-of ∙ ap (λ (x : ℕ). eqb (x % 2) 1) (shr_high 1 k set.0 b)

  pub more-links : k < 32 → links_of more ≡ links_of set ++ (k ∷ [])
  more-links q =
      sym (ap (links_below more) (let e : (31 - k) + (k + 1) ≡ 32 = omega (arith, q) in e))
      ∙ below-all more (k + 1) more-below (31 - k)
      ∙ below-in more k here
      ∙ ap (λ (ls : List ℕ). ls ++ (k ∷ [])) (same-below k (omega arith) ∙ sym (below-all set k b (32 - k)) ∙ ap (links_below set) (let e : (32 - k) + k ≡ 32 = omega (arith, q) in e))

-- how many there are
pub count-below : (set : LinkSet) (n : ℕ) → ones (set.0 % 2 ^ n) ≡ length (links_below set n)
unfolding links_below ones has_link
count-below set zero = ap ones (mod-one set.0)
count-below set (suc n) =
    ap ones (ap (λ (x : ℕ). set.0 % 2 ^ x) (let e : suc n ≡ 1 + n = omega arith in e) ∙ mod-pow-add set.0 1 n)
    ∙ ones_cat n (set.0 / 2 ^ n % 2) (set.0 % 2 ^ n) (mod_below set.0 (2 ^ n) (pow_pos n))
    ∙ one (set.0 / 2 ^ n % 2) (omega arith) (ones (set.0 % 2 ^ n)) (links_below set n) (count-below set n)
  where
    one : (x : ℕ) → x < 2 → (c : ℕ) (ls : List ℕ) → c ≡ length ls → ones x + c ≡ length (ls ++ (if eqb x 1 then n ∷ [] else []))
    one zero q c ls e = omega (arith, e, length-append ls (if eqb 0 1 then n ∷ [] else []))
    one (suc zero) q c ls e = omega (arith, e, length-append ls (n ∷ []))
    one (suc (suc x)) q c ls e = absurd (omega (arith, q))

-- where none from n on is in it, the first n are all
pub below-of : (set : LinkSet) (n : ℕ) → AllBelow set n → n ≤ 32 → links_below set n ≡ links_of set
below-of set n b q = sym (below-all set n b (32 - n)) ∙ ap (links_below set) (let e : (32 - n) + n ≡ 32 = omega (arith, q) in e)

-- and no more than all
pub below-few : (set : LinkSet) (n : ℕ) → n ≤ 32 → length (links_below set n) ≤ length (links_of set)
below-few set n q = omega (arith, more (32 - n), ap (λ (x : ℕ). length (links_below set x)) (let e : (32 - n) + n ≡ 32 = omega (arith, q) in e))
  where
    one : (d : ℕ) → length (links_below set (d + n)) ≤ length (links_below set (d + n + 1))
    one d =
        cases (has_link set (d + n))
        (λ e. omega (arith, ap length (below-in set (d + n) e), length-append (links_below set (d + n)) ((d + n) ∷ [])))
        (λ e. omega (arith, ap length (below-out set (d + n) e)))

    more : (d : ℕ) → length (links_below set n) ≤ length (links_below set (d + n))
    more zero = omega (arith, ap (λ (x : ℕ). length (links_below set x)) (let e : 0 + n ≡ n = omega arith in e))
    more (suc d) = omega (arith, more d, one d, ap (λ (x : ℕ). length (links_below set x)) (let e : suc d + n ≡ d + n + 1 = omega arith in e))

-- no more than 32
pub few-links : (set : LinkSet) → length (links_of set) ≤ 32
unfolding links_below
few-links set = few 32
  where
    one : (b : Bool) (n : ℕ) → length (if b then n ∷ [] else []) ≤ 1
    one true n = omega arith
    one false n = omega arith

    few : (n : ℕ) → length (links_below set n) ≤ n
    few zero = omega arith
    few (suc n) = omega (arith, few n, one (has_link set n) n, length-append (links_below set n) (if has_link set n then n ∷ [] else []))

pub count-all : (set : LinkSet) → AllBelow set 32 → ones set.0 ≡ length (links_of set)
count-all set b = ap ones (sym (mod-eq_of_lt {n = set.0} {m = 2 ^ 32} b)) ∙ count-below set 32
