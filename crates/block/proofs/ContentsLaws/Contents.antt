-- The message cache as rows, places and contents: contents that move with the starts of their rows, and the bytes that the entries hold.
-- Assumes nothing.
use Rattle.block.proofs.Words.{◌≡◌, refl, sym, ap, ◌∙◌, true, List, [], ◌∷◌, map, ℕ, ◌+◌, ◌≤◌, ◌<◌, arith, ltb-true, ltb, length, drop, get_or, ascending, entry, all_head, all_tail, part, put, part-part, part-put-in, length_part, Ref, ref, places, Below, get_or-map-in, ExpiryRow, row_at, entry_of, of-below, below, values_same}
use mathlib.Core.List.{map-map}
use lib.ListN.{length-map}
use Rattle.storage.specs.Lists.Base.{sum}
use Rattle.storage.specs.Refs.Refs.{left}
use Rattle.time_cache.specs.Tables.{named, cache_of}
use Rattle.block.specs.View.{half_at, content_of, cached_of}
use Rattle.block.specs.Sound.{held}
use Rattle.block.specs.Contents.Starts.{start_of, len_of, first_start, RowsAdjoin, Along}
use Rattle.block.proofs.ContentsLaws.Sums.{sums, from, up_to, sum-all, from-up_to, sums-rows, sums-drop, sum_left, sum-places}
use Rattle.block.proofs.ContentsLaws.RowsAdjoin.{along-at, along-expiry, chain-at, chain-total, chain-drop}

-- a part of what was moved
pub part_moved : (to from n b k : ℕ) (xs : List ℕ) → b + k ≤ n → from + n ≤ length xs → to + n ≤ length xs → part (to + b) k (put to (part from n xs) xs) ≡ part (from + b) k xs
part_moved to from n b k xs h f g =
    let e : length (part from n xs) ≡ n = length_part from n xs f in
    part-put-in to b k (part from n xs) xs (omega arith) (omega arith) ∙ part-part b k from n xs h

-- the places of entries name rows
pub place-low : (m : ℕ) (es : List Ref) → Below m (places es) → (i : ℕ) → i < length es → (get_or es i (ref 0 [])).place < m
place-low m es b i h =
    let q : get_or (places es) i 0 < m = b.below i (omega (arith, length-map es (λ (r : Ref). r.place))) in
    omega (arith, q, get_or-map-in (λ (r : Ref). r.place) es i 0 (ref 0 []) h)

-- other starts, and contents that stand there
module _ {up down : ℕ} {xs ys : List ExpiryRow} (s t : List ℕ) (along : Along up down xs ys)
    (same : (p : ℕ) → p < length xs → part (start_of (row_at ys p)) (len_of (row_at xs p)) t ≡ part (start_of (row_at xs p)) (len_of (row_at xs p)) s) where
  content-same : (p : ℕ) → p < length xs → content_of t (row_at ys p).rest ≡ content_of s (row_at xs p).rest
  unfolding content_of
  content-same p h = ap (λ (n : ℕ). part (start_of (row_at ys p)) n t) (along-at along p h).3 ∙ same p h

  entry-same : (r : Ref) → r.place < length xs → entry_of (cached_of t) ys r ≡ entry_of (cached_of s) xs r
  unfolding cached_of
  entry-same r h =
      let a = along-at along r.place h in
      λ k. entry (a.1 k) (record { expires = a.0 k; value = record { content = content-same r.place h k; round = half_at 0 r.own } })

  pub cache-same : (es : List Ref) → Below (length xs) (places es) → cache_of (cached_of t) es ys ≡ cache_of (cached_of s) es xs
  cache-same es b = values_same (cached_of t) (cached_of s) ys xs (along-expiry along) es (λ i h. entry-same (get_or es i (ref 0 [])) (place-low (length xs) es b i h))

-- the bytes that the entries hold are the lengths in the rows that they name
pub held-lens : {a e : ℕ} {xs : List ExpiryRow} (s : List ℕ) → RowsAdjoin a xs e → e ≤ length s → (es : List Ref) → below (length xs) (places es) ≡ true
    → held (cache_of (cached_of s) es xs).entries ≡ sum (λ r. len_of (row_at xs r.place)) es
unfolding cache_of sum cached_of content_of
held-lens s c h [] b = refl
held-lens {xs = xs} s c h (r ∷ es) b =
    let q : r.place < length xs = ltb-true r.place (length xs) (all_head (λ p. ltb p (length xs)) r.place (places es) b) in
    let l : length (part (start_of (row_at xs r.place)) (len_of (row_at xs r.place)) s) ≡ len_of (row_at xs r.place) = length_part (start_of (row_at xs r.place)) (len_of (row_at xs r.place)) s (omega (arith, (chain-at c r.place q).1)) in
    λ k. l k + held-lens s c h es (all_tail (λ p. ltb p (length xs)) r.place (places es) b) k

-- the keys, place by place
keys-places : (xs : List ExpiryRow) (es : List Ref) → named xs es ≡ map (λ p. (row_at xs p).key) (places es)
unfolding named
keys-places xs es = sym (map-map (λ (p : ℕ). (row_at xs p).key) (λ (r : Ref). r.place) es)

-- what is left when the first d rows are gone: the contents from the start of row d on
module _ {u : ℕ} {xs : List ExpiryRow} (s : List ℕ) (c : RowsAdjoin 0 xs u) (w : u ≤ length s) (es : List Ref) (b : Below (length xs) (places es)) (a : ascending (named xs es) ≡ true)
    (t : held (cache_of (cached_of s) es xs).entries ≡ u) where
  -- the entries have all that the rows have
  pub all_held : sum (λ i. len_of (row_at xs i)) (places es) ≡ sums (λ i. len_of (row_at xs i)) (length xs)
  all_held =
      let e : held (cache_of (cached_of s) es xs).entries ≡ sum (λ i. len_of (row_at xs i)) (places es) = held-lens s c w es (of-below (length xs) (places es) b) ∙ sum-places (λ i. len_of (row_at xs i)) es in
      omega (arith, e, t, chain-total c, sums-rows xs)

  pub left-held : (d : ℕ) → Below (length (drop d xs)) (places (left d es)) → first_start u (drop d xs) + held (cache_of (cached_of s) (left d es) (drop d xs)).entries ≡ u
  left-held d bd =
      let f : ℕ → ℕ = λ i. len_of (row_at xs i) in
      let cd : RowsAdjoin (first_start u (drop d xs)) (drop d xs) u = chain-drop c d in
      let h : held (cache_of (cached_of s) (left d es) (drop d xs)).entries ≡ sum (λ r. len_of (row_at (drop d xs) r.place)) (left d es) = held-lens s cd w (left d es) (of-below (length (drop d xs)) (places (left d es)) bd) in
      let g : sum (from d f) (places es) ≡ sums (from d f) (length xs) =
      sum-all (λ p. (row_at xs p).key) (from d f) (up_to d f) f (from-up_to d f) (length xs) (places es) (ap ascending (sym (keys-places xs es)) ∙ a) (of-below (length xs) (places es) b) all_held in
      omega (arith, h, sum_left d xs es, g, sums-drop d xs, chain-total cd)
