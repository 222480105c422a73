-- Rows whose contents stand one after the other.
-- Assumes nothing.
use Rattle.block.proofs.Words.{◌≡◌, refl, sym, ap, ◌∙◌, subst, Bool, true, eqb, eqb-true, eq-eqb, List, [], ◌∷◌, ◌++◌, map, ℕ, zero, suc, ◌+◌, ◌≤◌, ◌<◌, arith, length, take, drop, drop-drop, and_left, and_right, and_intro, le_nat, rows, take-append-le, Expiry, ExpiryRow, expiry_of, row_at, no_row, ◌⊎◌, inl, inr, tri, length-put, get_or-put-before, get_or-put-after, put-get_or-same}
use Rattle.std.proofs.Common.{length-drop}
use Rattle.storage.specs.Lists.Base.{sum}
use Rattle.std.proofs.lemmas.List.{drop-append-le}
use Rattle.storage.specs.Rows.Part.{part, put}
use Rattle.time_cache.specs.Tables.{expiry_row_of, expiry_rows}
use Rattle.block.specs.Layout.{table}
use Rattle.block.specs.View.{four_at, limits_of}
use Rattle.block.specs.Sound.{adjoin, Sound}
use Rattle.block.specs.declared.head.Head.{Head}
use Rattle.block.specs.Contents.Starts.{start_of, len_of, extent_in, first_start, RowsAdjoin, done, next, with_rest, Along, none, more, Above}
use Rattle.block.specs.Contents.CacheSteps.{cached_rows}

-- start and length in the bytes of a row
pub start-bytes : (row : List ℕ) → start_of (expiry_row_of row) ≡ four_at 40 row
unfolding expiry_row_of four_at part
start-bytes row = refl

pub len-bytes : (row : List ℕ) → len_of (expiry_row_of row) ≡ four_at 44 row
unfolding expiry_row_of four_at part
len-bytes row = ap (λ (z : List ℕ). le_nat (take 4 z)) (drop-drop 4 40 row)

-- the first of rows that adjoin, and those behind it
adjoin_first : (a : ℕ) (row : List ℕ) (behind : List (List ℕ)) (e : ℕ) → adjoin a (row ∷ behind) e ≡ true → (four_at 40 row ≡ a) × (adjoin (a + four_at 44 row) behind e ≡ true)
unfolding adjoin
adjoin_first a row behind e h =
    let here : Bool = eqb (four_at 40 row) a in
    let rest : Bool = adjoin (a + four_at 44 row) behind e in
    (eqb-true (four_at 40 row) a (and_left here rest h), and_right here rest h)

pub of-adjoin : (a : ℕ) (rs : List (List ℕ)) (e : ℕ) → adjoin a rs e ≡ true → RowsAdjoin a (map expiry_row_of rs) e
unfolding adjoin
of-adjoin a [] e h = subst (RowsAdjoin a []) (eqb-true a e h) done
of-adjoin a (row ∷ behind) e h =
    let t = adjoin_first a row behind e h in
    next (expiry_row_of row) (map expiry_row_of behind) (start-bytes row ∙ t.0)
    (subst (λ (b : ℕ). RowsAdjoin (a + b) (map expiry_row_of behind) e) (sym (len-bytes row)) (of-adjoin (a + four_at 44 row) behind e t.1))

pub to-adjoin : (a e : ℕ) (rs : List (List ℕ)) → RowsAdjoin a (map expiry_row_of rs) e → adjoin a rs e ≡ true
unfolding adjoin
to-adjoin a e [] done = eq-eqb a a refl
to-adjoin a e (row ∷ behind) (next x xs s c) =
    and_intro (eq-eqb (four_at 40 row) a (sym (start-bytes row) ∙ s))
    (to-adjoin (a + four_at 44 row) e behind (subst (λ (b : ℕ). RowsAdjoin (a + b) (map expiry_row_of behind) e) (len-bytes row) c))

pub chain-ends : {a e : ℕ} {xs : List ExpiryRow} → RowsAdjoin a xs e → a ≤ e
chain-ends done = omega arith
chain-ends (next x xs s c) = omega (arith, chain-ends c)

-- row p lies between start and end
pub chain-at : {a e : ℕ} {xs : List ExpiryRow} → RowsAdjoin a xs e → (p : ℕ) → p < length xs → (a ≤ start_of (row_at xs p)) × (start_of (row_at xs p) + len_of (row_at xs p) ≤ e)
chain-at done p h = absurd (omega arith)
chain-at (next x xs s c) zero h = (omega (arith, s), omega (arith, s, chain-ends c))
chain-at (next x xs s c) (suc p) h = let r = chain-at c p (omega arith) in (omega (arith, r.0), r.1)

pub chain-total : {a e : ℕ} {xs : List ExpiryRow} → RowsAdjoin a xs e → a + sum len_of xs ≡ e
unfolding sum
chain-total done = omega arith
chain-total (next x xs s c) = omega (arith, chain-total c)

-- the first d rows are gone
pub chain-drop : {a e : ℕ} {xs : List ExpiryRow} → RowsAdjoin a xs e → (d : ℕ) → RowsAdjoin (first_start e (drop d xs)) (drop d xs) e
chain-drop done zero = done
chain-drop done (suc d) = done
chain-drop (next {e = e} x xs s c) zero = next x xs refl (subst (λ (b : ℕ). RowsAdjoin (b + len_of x) xs e) (sym s) c)
chain-drop (next x xs s c) (suc d) = chain-drop c d

pub chain_first : {a e : ℕ} {xs : List ExpiryRow} → RowsAdjoin a xs e → first_start e xs ≡ a
chain_first done = refl
chain_first (next x xs s c) = s

chain_head : {a e : ℕ} {x : ExpiryRow} {xs : List ExpiryRow} → RowsAdjoin a (x ∷ xs) e → (start_of x ≡ a) × RowsAdjoin (a + len_of x) xs e
chain_head (next x xs s c) = (s, c)

chain-none : {a e : ℕ} → RowsAdjoin a [] e → e ≡ a
chain-none done = refl

pub chain-along : {up down a e : ℕ} {xs ys : List ExpiryRow} (a' e' : ℕ) → Along up down xs ys → RowsAdjoin a xs e → a' + down ≡ a + up → e' + down ≡ e + up → RowsAdjoin a' ys e'
chain-along a' e' none c f g = subst (λ (b : ℕ). RowsAdjoin a' [] b) (omega (arith, f, g, chain-none c)) done
chain-along {up = up} {down = down} {a = a} {e = e} a' e' (more x y xs ys t k s l r) c f g =
    let p = chain_head c in
    next {a = a'} {e = e'} y ys (omega (arith, s, p.0, f)) (chain-along {up = up} {down = down} {a = a + len_of x} {e = e} (a' + len_of y) e' r p.1 (omega (arith, l, f)) g)

-- row p of the same rows
pub along-at : {up down : ℕ} {xs ys : List ExpiryRow} → Along up down xs ys → (p : ℕ) → p < length xs
    → ((row_at ys p).time ≡ (row_at xs p).time) × ((row_at ys p).key ≡ (row_at xs p).key) × (start_of (row_at ys p) + down ≡ start_of (row_at xs p) + up) × (len_of (row_at ys p) ≡ len_of (row_at xs p))
along-at none p h = absurd (omega arith)
along-at (more x y xs ys t k s l r) zero h = (t, k, s, l)
along-at (more x y xs ys t k s l r) (suc p) h = along-at r p (omega arith)

pub along-expiry : {up down : ℕ} {xs ys : List ExpiryRow} → Along up down xs ys → map expiry_of ys ≡ map expiry_of xs
along-expiry none = refl
along-expiry (more x y xs ys t k s l r) = λ i. record { time = t i; key = k i } ∷ along-expiry r i

pub chain-above : (up down : ℕ) {a e : ℕ} {xs : List ExpiryRow} → RowsAdjoin a xs e → down ≤ a + up → e + up < 4294967296 → Above up down xs
chain-above up down c h g = record { above = λ i l. omega (arith, (chain-at c i l).0); below = λ i l. omega (arith, (chain-at c i l).1) }

-- a row ends where or before a later row starts
pub chain-order : {a e : ℕ} {xs : List ExpiryRow} → RowsAdjoin a xs e → (q p : ℕ) → q < p → p < length xs → start_of (row_at xs q) + len_of (row_at xs q) ≤ start_of (row_at xs p)
chain-order done q p h l = absurd (omega arith)
chain-order (next x xs s c) q zero h l = absurd (omega arith)
chain-order (next x xs s c) zero (suc p) h l = omega (arith, s, (chain-at c p (omega arith)).0)
chain-order (next x xs s c) (suc q) (suc p) h l = chain-order c q p (omega arith) (omega arith)

-- another length in row p, and the rows behind it moved by as much
pub chain-resize : {k old a e : ℕ} {xs : List ExpiryRow} (e' p : ℕ) (y : ExpiryRow) (ys : List ExpiryRow) → RowsAdjoin a xs e → p < length xs → Along k old (drop (suc p) xs) ys
    → start_of y ≡ start_of (row_at xs p) → len_of y ≡ k → len_of (row_at xs p) ≡ old → e' + old ≡ e + k → RowsAdjoin a (take p xs ++ (y ∷ ys)) e'
chain-resize e' p y ys done h al s l o t = absurd (omega arith)
chain-resize e' zero y ys (next {a = a} x xs sx c) h al s l o t = next {a = a} {e = e'} y ys (s ∙ sx) (chain-along (a + len_of y) e' al c (omega (arith, l, o)) t)
chain-resize e' (suc p) y ys (next {a = a} x xs sx c) h al s l o t = next {a = a} {e = e'} x (take p xs ++ (y ∷ ys)) sx (chain-resize e' p y ys c (omega arith) al s l o t)

-- a row without a content put in before row j
pub chain-gap : {a e : ℕ} {xs : List ExpiryRow} (j : ℕ) (y : ExpiryRow) → RowsAdjoin a xs e → start_of y ≡ first_start e (drop j xs) → len_of y ≡ 0 → RowsAdjoin a (take j xs ++ (y ∷ drop j xs)) e
chain-gap {a} zero y done s l = next {a = a} {e = a} y [] s (subst (λ (b : ℕ). RowsAdjoin b [] a) (omega (arith, l)) done)
chain-gap {a} (suc j) y done s l = next {a = a} {e = a} y [] s (subst (λ (b : ℕ). RowsAdjoin b [] a) (omega (arith, l)) done)
chain-gap {a} {e} zero y (next x xs sx c) s l = next {a = a} {e = e} y (x ∷ xs) (s ∙ sx) (subst (λ (b : ℕ). RowsAdjoin b (x ∷ xs) e) (omega (arith, l)) (next {a = a} {e = e} x xs sx c))
chain-gap {a} {e} (suc j) y (next x xs sx c) s l = next {a = a} {e = e} x (take j xs ++ (y ∷ drop j xs)) sx (chain-gap {a = a + len_of x} {e = e} j y c s l)

-- a row whose start went up and then down
abbrev pub Moved : ℕ → ℕ → ExpiryRow → ExpiryRow → Type 0
Moved up down x y = (expiry_of y ≡ expiry_of x) × (start_of y + down ≡ start_of x + up) × (len_of y ≡ len_of x)

along-of : (up down : ℕ) (xs ys : List ExpiryRow) → length ys ≡ length xs → ((p : ℕ) → p < length xs → Moved up down (row_at xs p) (row_at ys p)) → Along up down xs ys
along-of up down [] [] e f = none
along-of up down [] (y ∷ ys) e f = absurd (omega (arith, e))
along-of up down (x ∷ xs) [] e f = absurd (omega (arith, e))
along-of up down (x ∷ xs) (y ∷ ys) e f =
    let r = f 0 (omega arith) in
    more x y xs ys (ap (λ (t : Expiry). t.time) r.0) (ap (λ (t : Expiry). t.key) r.0) r.1 r.2 (along-of up down xs ys (omega (arith, e)) (λ p l. f (suc p) (omega arith)))

-- rows of which the first i have other starts, and the others are as they were
module _ (up down : ℕ) (xs : List ExpiryRow) where
  pub record Begun (i : ℕ) (ys : List ExpiryRow) : Type 0 where
    pub long : length ys ≡ length xs
    pub moved : (p : ℕ) → p < i → Moved up down (row_at xs p) (row_at ys p)
    pub left : (p : ℕ) → i ≤ p → row_at ys p ≡ row_at xs p

  pub begun-none : Begun 0 xs
  begun-none = record { long = refl; moved = λ p h. absurd (omega arith); left = λ p h. refl }

  pub begun-more : (i : ℕ) (ys : List ExpiryRow) (y : ExpiryRow) → Begun i ys → i < length xs → Moved up down (row_at xs i) y → Begun (i + 1) (put i (y ∷ []) ys)
  begun-more i ys y b h m = record {
    long = length-put i (y ∷ []) ys (omega (arith, b.long)) ∙ b.long;
    moved = λ p l. go p (tri p i) l;
    left = λ p l. get_or-put-after i p no_row (y ∷ []) ys (omega arith) (omega (arith, b.long)) ∙ b.left p (omega arith);
  }
    where
      go : (p : ℕ) → (p < i) ⊎ ((p ≡ i) ⊎ (i < p)) → p < i + 1 → Moved up down (row_at xs p) (row_at (put i (y ∷ []) ys) p)
      go p (inl q) l = subst (Moved up down (row_at xs p)) (sym (get_or-put-before i p no_row (y ∷ []) ys q (omega (arith, b.long)))) (b.moved p q)
      go p (inr (inl q)) l = subst (λ (n : ℕ). Moved up down (row_at xs n) (row_at (put i (y ∷ []) ys) n)) (sym q) (subst (Moved up down (row_at xs i)) (sym (put-get_or-same i y no_row ys (omega (arith, b.long)))) m)
      go p (inr (inr q)) l = absurd (omega arith)

  pub begun-all : (i : ℕ) (ys : List ExpiryRow) → Begun i ys → length xs ≤ i → Along up down xs ys
  begun-all i ys b h = along-of up down xs ys b.long (λ p l. b.moved p (omega arith))

-- start and length of a row whose bytes behind the identifier are others
module _ (bs : List ℕ) (l : length bs ≡ 8) (s n : ℕ) (e : extent_in bs ≡ (s, n)) (x : ExpiryRow) where
  pub rest-start : start_of (with_rest bs x) ≡ s
  unfolding four_at part put
  rest-start = ap le_nat (take-append-le 4 bs (drop (length bs) x.rest) (omega (arith, l))) ∙ ap (λ (p : ℕ × ℕ). p.0) e

  pub rest-len : len_of (with_rest bs x) ≡ n
  unfolding four_at part put
  rest-len =
      let z : List ℕ = drop (length bs) x.rest in
      ap (λ (y : List ℕ). le_nat (take 4 y)) (drop-append-le 4 bs z (omega (arith, l)))
      ∙ ap le_nat (take-append-le 4 (drop 4 bs) z (omega (arith, l, length-drop 4 bs)))
      ∙ ap (λ (p : ℕ × ℕ). p.1) e

-- a row starts where the one before it ends
pub chain_next : {a e : ℕ} {xs : List ExpiryRow} → RowsAdjoin a xs e → (p : ℕ) → p < length xs → first_start e (drop (suc p) xs) ≡ start_of (row_at xs p) + len_of (row_at xs p)
chain_next done p h = absurd (omega arith)
chain_next (next x xs s c) zero h = omega (arith, s, chain_first c)
chain_next (next x xs s c) (suc p) h = chain_next c p (omega arith)

-- the rows of a sound block
pub chain-of : (h : Head) (xs : List ℕ) → Sound h xs → RowsAdjoin 0 (cached_rows h xs) h.live.contents
unfolding expiry_rows
chain-of h xs sound = of-adjoin 0 (rows 48 h.live.cached_rows (table (limits_of h.limits) 5 xs)) h.live.contents sound.laid.contents
