-- Starts and lengths in the rows, as bytes of their table: read, and moved in a part of the block.
-- Assumes nothing.
use Rattle.block.proofs.Words.{◌≡◌, refl, sym, ap, ◌∙◌, List, [], ◌∷◌, ◌++◌, map, append-nil, ℕ, zero, suc, ◌+◌, ◌*◌, ◌≤◌, ◌<◌, arith, lit<, length, take, drop, get_or, set, drop_of_length-le, take_all, rows, part-part, length_part, row-end, loan-put, rows-put, rows-part, length-rows, map-put, map-drop, ExpiryRow, row_at, row-at, length-expiry_rows, subst, Limits}
use Rattle.std.proofs.Common.{length-drop}
use lib.ListN.{length-map}
use Rattle.storage.specs.Rows.Part.{part, put}
use Rattle.time_cache.specs.Tables.{expiry_row_of, expiry_rows}
use Rattle.block.specs.Layout.{place, tables, table, end}
use Rattle.block.specs.View.{limits_of}
use Rattle.block.specs.Fit.{Fit}
use Rattle.block.specs.declared.head.Head.{Head}
use Rattle.block.proofs.Tables.{frame, length-table}
use Rattle.block.proofs.RowLaws.{part_in}
use Rattle.block.specs.declared.caches.contents.Extent.{Extent}
use Rattle.block.specs.Contents.Starts.{start_of, extent_in, ExtentIs, first_start, Along}
use Rattle.block.specs.Contents.CacheSteps.{Shifts}

-- the bytes behind the identifier in row i
pub rest-at : (m i : ℕ) (x : List ℕ) → i < m → m * 48 ≤ length x → (row_at (expiry_rows 48 m x) i).rest ≡ part (i * 48 + 40) 8 x
unfolding expiry_row_of part
rest-at m i x h w =
    let row : List ℕ = part (i * 48) 48 x in
    ap (λ (y : ExpiryRow). y.rest) (row-at 48 m i x h)
    ∙ sym (take_all 8 (drop 40 row) (omega (arith, length-drop 40 row, length_part (i * 48) 48 x (omega (arith, row-end 48 m i h)))))
    ∙ part-part 40 8 (i * 48) 48 x (omega arith)

-- the start of the first row from j on
pub first-drop : (u j : ℕ) (xs : List ExpiryRow) → j < length xs → first_start u (drop j xs) ≡ start_of (row_at xs j)
first-drop u j [] h = absurd (omega arith)
first-drop u zero (x ∷ xs) h = refl
first-drop u (suc j) (x ∷ xs) h = first-drop u j xs (omega arith)

pub first-none : (u j : ℕ) (xs : List ExpiryRow) → length xs ≤ j → first_start u (drop j xs) ≡ u
first-none u j xs h = ap (first_start u) (drop_of_length-le xs {i = j} h)

put-end : {A : Type 0} (a : ℕ) (ys xs : List A) → a + length ys ≡ length xs → put a ys xs ≡ take a xs ++ ys
unfolding put
put-end {A} a ys xs h =
    ap (λ (t : List A). take a xs ++ (ys ++ t)) (drop_of_length-le (drop a xs) {i = length ys} (omega (arith, length-drop a xs)))
    ∙ ap (λ (t : List A). take a xs ++ t) (append-nil ys)

part_end : {A : Type 0} (a k : ℕ) (xs : List A) → a + k ≡ length xs → part a k xs ≡ drop a xs
unfolding part
part_end a k xs h = take_all k (drop a xs) (omega (arith, length-drop a xs))

-- the rows from j on, lent as a part of the block
module _ (l : Limits) (m j n : ℕ) (xs : List ℕ) (hm : m * 48 ≤ 48 * (2 * l.C + 1)) (hj : j + n ≡ m) (long : end l ≤ length xs) where
  abbrev x : List ℕ
  x = table l 5 xs

  lx : length x ≡ 48 * (2 * l.C + 1)
  lx = length-table l 5 xs (lit< tt) long

  pub rows-lent : expiry_rows 48 n (part (place l 5 + j * 48) (n * 48) xs) ≡ drop j (expiry_rows 48 m x)
  unfolding expiry_rows
  rows-lent =
      ap (λ (z : List ℕ). map expiry_row_of (rows 48 n z)) (sym (part_in l 5 (j * 48) (n * 48) xs (lit< tt) (omega arith)))
      ∙ ap (map expiry_row_of) (rows-part 48 j n m x (omega arith) ∙ part_end j n (rows 48 m x) (omega (arith, length-rows 48 m x)))
      ∙ map-drop expiry_row_of j (rows 48 m x)

  module _ (zs : List ℕ) (lz : length zs ≡ n * 48) where
    pub table-back : tables l (put (place l 5 + j * 48) zs xs) ≡ set (tables l xs) 5 (put (j * 48) zs x)
    table-back = frame l 5 (j * 48) zs xs (lit< tt) (omega arith) long

    pub rows_back : expiry_rows 48 m (put (j * 48) zs x) ≡ take j (expiry_rows 48 m x) ++ expiry_rows 48 n zs
    unfolding expiry_rows
    rows_back =
        ap (map expiry_row_of) (rows-put 48 j n m zs x lz (omega arith) (omega (arith, lx)))
        ∙ map-put expiry_row_of j (rows 48 n zs) (rows 48 m x)
        ∙ put-end j (map expiry_row_of (rows 48 n zs)) (map expiry_row_of (rows 48 m x))
        (omega (arith, length-map (rows 48 n zs) expiry_row_of, length-rows 48 n zs, length-map (rows 48 m x) expiry_row_of, length-rows 48 m x))

-- the rows from j on, as they are lent
pub lent_rows : (h : Head) (xs : List ℕ) (j n a k : ℕ) → Fit h xs → j + n ≡ h.live.cached_rows → a ≡ place (limits_of h.limits) 5 + 48 * j → k ≡ n * 48
    → expiry_rows 48 n (take k (drop a xs)) ≡ drop j (expiry_rows 48 h.live.cached_rows (table (limits_of h.limits) 5 xs))
unfolding part
lent_rows h xs j n a k fit hj ea ek =
    let l : Limits = limits_of h.limits in
    let eb : a ≡ place l 5 + j * 48 = omega (arith, ea) in
    (λ i. expiry_rows 48 n (take (ek i) (drop (eb i) xs))) ∙ rows-lent l h.live.cached_rows j n xs (omega (arith, fit.within.cached_rows)) hj fit.long

-- the loan comes back with other starts
pub shifts : (h : Head) (xs zs : List ℕ) (j n a k up down : ℕ) → Fit h xs → j + n ≡ h.live.cached_rows → a ≡ place (limits_of h.limits) 5 + 48 * j → k ≡ n * 48 → length zs ≡ k
    → Along up down (expiry_rows 48 n (take k (drop a xs))) (expiry_rows 48 n zs)
    → Shifts h j up down xs (take a xs ++ (zs ++ drop k (drop a xs)))
shifts h xs zs j n a k up down fit hj ea ek lz e =
    let l : Limits = limits_of h.limits in
    let m : ℕ = h.live.cached_rows in
    let hm : m * 48 ≤ 48 * (2 * l.C + 1) = omega (arith, fit.within.cached_rows) in
    let b : ℕ = place l 5 + j * 48 in
    let eb : a ≡ b = omega (arith, ea) in
    let ln : length zs ≡ n * 48 = omega (arith, lz, ek) in
    let back : take a xs ++ (zs ++ drop k (drop a xs)) ≡ put b zs xs = loan-put a k zs xs lz ∙ ap (λ (p : ℕ). put p zs xs) eb in
    let ts : tables l (take a xs ++ (zs ++ drop k (drop a xs))) ≡ set (tables l xs) 5 (put (j * 48) zs (table l 5 xs)) = ap (tables l) back ∙ table-back l m j n xs hm hj fit.long zs ln in
    let t5 : table l 5 (take a xs ++ (zs ++ drop k (drop a xs))) ≡ put (j * 48) zs (table l 5 xs) = ap (λ (t : List (List ℕ)). get_or t 5 []) ts in
    record {
      later = expiry_rows 48 n zs;
      along = subst (λ (r : List ExpiryRow). Along up down r (expiry_rows 48 n zs)) (lent_rows h xs j n a k fit hj ea ek) e;
      rows = ap (expiry_rows 48 m) t5 ∙ rows_back l m j n xs hm hj fit.long zs ln;
      tables = ts ∙ ap (set (tables l xs) 5) (sym t5);
    }

-- the bytes behind the identifier of row j, read as start and length
module _ (h : Head) (xs : List ℕ) (fit : Fit h xs) (j : ℕ) where
  abbrev us : ℕ
  us = h.live.contents

  abbrev rs : List ExpiryRow
  rs = expiry_rows 48 h.live.cached_rows (table (limits_of h.limits) 5 xs)

  pub extent_read : (a k : ℕ) (e : Extent) → j < h.live.cached_rows → a ≡ place (limits_of h.limits) 5 + (48 * j + 40) → k ≡ 8 → (e.start, e.len) ≡ extent_in (take k (drop a xs)) → ExtentIs (row_at rs j) e
  unfolding part
  extent_read a k e hj ea ek r =
      let l : Limits = limits_of h.limits in
      let x : List ℕ = table l 5 xs in
      let at : place l 5 + (j * 48 + 40) ≡ a = omega (arith, ea) in
      let hm : h.live.cached_rows * 48 ≤ length x = omega (arith, fit.within.cached_rows, length-table l 5 xs (lit< tt) fit.long) in
      let rest : (row_at rs j).rest ≡ take k (drop a xs) =
      rest-at h.live.cached_rows j x hj hm ∙ part_in l 5 (j * 48 + 40) 8 xs (lit< tt) (omega (arith, hj, fit.within.cached_rows)) ∙ (λ i. take (sym ek i) (drop (at i) xs)) in
      let both : (e.start, e.len) ≡ extent_in (row_at rs j).rest = r ∙ ap extent_in (sym rest) in
      record { start = ap (λ (p : ℕ × ℕ). p.0) both; len = ap (λ (p : ℕ × ℕ). p.1) both }

  -- where row j starts
  pub first_is : (v : ℕ) → j < h.live.cached_rows → v ≡ start_of (row_at rs j) → v ≡ first_start us (drop j rs)
  first_is v hj ev = ev ∙ sym (first-drop us j rs (omega (arith, length-expiry_rows 48 h.live.cached_rows (table (limits_of h.limits) 5 xs))))

  pub first_past : h.live.cached_rows ≤ j → us ≡ first_start us (drop j rs)
  first_past hj = sym (first-none us j rs (omega (arith, length-expiry_rows 48 h.live.cached_rows (table (limits_of h.limits) 5 xs))))
