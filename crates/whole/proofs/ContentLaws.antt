-- Contents of cached messages: that they adjoin, told row by row, and that the lengths of the rows that entries name are those of the messages' contents.
-- Assumes nothing.
use Rattle.whole.proofs.Words.{◌≡◌, refl, sym, ap, ◌∙◌, subst, Bool, true, false, ◌&&◌, List, [], ◌∷◌, ◌++◌, map, ℕ, zero, suc, ◌+◌, ◌*◌, ◌≤◌, ◌<◌, add-one, arith, eq-eqb, ne_eqb, eqb, lit<, length, take, drop, get_or, drop_of_length-le, drop-cons, take-suc, le_nat, rows, part-part, get_d_rows, Ref, refs, places, expiry_row_of, row_at, limits_of, Fit, Head, length-table}
use Rattle.storage.specs.Lists.Base.{sum}
use Rattle.storage.specs.Rows.Part.{part}
use Rattle.time_cache.specs.Tables.{expiry_rows}
use Rattle.time_cache.proofs.ExpiryLaws.{row-at, length-expiry_rows}
use Rattle.protocol.specs.Whole.{content_held}
use Rattle.block.specs.View.{four_at, cached_in, state_of}
use Rattle.block.specs.Sound.{adjoin}
use Rattle.block.specs.Contents.Starts.{start_of, len_of, ExtentIs}
use Rattle.block.proofs.ContentsLaws.RowsAdjoin.{start-bytes, len-bytes, of-adjoin}
use Rattle.block.proofs.ContentsLaws.Contents.{held-lens}
use Rattle.block.proofs.ContentsLaws.Sums.{sum-places}
use Rattle.whole.specs.Held.{all_below, places_name}
use Rattle.whole.specs.Parts.{length_at, table_of}
use Rattle.block.specs.declared.caches.contents.Extent.{Extent}

-- start and length of row i, as they are read from the block
pub extent-row : (m i : ℕ) (x : List ℕ) (e : Extent) → i < m → ExtentIs (row_at (expiry_rows 48 m x) i) e → (e.start ≡ four_at 40 (get_or (rows 48 m x) i [])) × (e.len ≡ four_at 44 (get_or (rows 48 m x) i []))
extent-row m i x e l is =
    let row : get_or (rows 48 m x) i [] ≡ part (i * 48) 48 x = get_d_rows 48 m i [] x l in (
      is.start ∙ ap start_of (row-at 48 m i x l) ∙ start-bytes (part (i * 48) 48 x) ∙ sym (ap (four_at 40) row),
      is.len ∙ ap len_of (row-at 48 m i x l) ∙ len-bytes (part (i * 48) 48 x) ∙ sym (ap (four_at 44) row),
    )

module _ (rs : List (List ℕ)) (at i e start : ℕ) (l : i < length rs) (s : start ≡ four_at 40 (get_or rs i [])) where
  -- the rows from i on begin with row i
  opens : drop i rs ≡ get_or rs i [] ∷ drop (i + 1) rs
  opens = drop-cons rs i [] l ∙ ap (λ (n : ℕ). get_or rs i [] ∷ drop n rs) (sym (add-one i))

  -- a row that starts where the one before it ends
  pub adjoin-more : (len : ℕ) → start ≡ at → len ≡ four_at 44 (get_or rs i []) → adjoin (start + len) (drop (i + 1) rs) e ≡ adjoin at (drop i rs) e
  unfolding adjoin
  adjoin-more len h g =
      sym (ap (λ (t : List (List ℕ)). adjoin at t e) opens
      ∙ ap (λ (t : Bool). t && adjoin (at + four_at 44 (get_or rs i [])) (drop (i + 1) rs) e) (eq-eqb (four_at 40 (get_or rs i [])) at (sym s ∙ h))
      ∙ (λ k. adjoin (sym h k + sym g k) (drop (i + 1) rs) e))

  -- a row that starts elsewhere
  pub adjoin-not : (start ≡ at → ⊥) → adjoin at (drop i rs) e ≡ false
  unfolding adjoin
  adjoin-not h =
      ap (λ (t : List (List ℕ)). adjoin at t e) opens
      ∙ ap (λ (t : Bool). t && adjoin (at + four_at 44 (get_or rs i [])) (drop (i + 1) rs) e) (ne_eqb (four_at 40 (get_or rs i [])) at (λ q. h (s ∙ q)))

pub adjoin-end : (rs : List (List ℕ)) (at i e : ℕ) → length rs ≤ i → adjoin at (drop i rs) e ≡ eqb at e
unfolding adjoin
adjoin-end rs at i e h = ap (λ (t : List (List ℕ)). adjoin at t e) (drop_of_length-le rs {i = i} h)

-- sums over lists
module _ {A : Type 0} (f : A → ℕ) where
  sum-append : (l m : List A) → sum f (l ++ m) ≡ sum f l + sum f m
  unfolding sum
  sum-append [] m = omega arith
  sum-append (x ∷ l) m = omega (arith, sum-append l m)

  pub sum_more : (l : List A) (i : ℕ) (d : A) → i < length l → sum f (take (i + 1) l) ≡ sum f (take i l) + f (get_or l i d)
  unfolding sum
  sum_more l i d h =
      let t : take (i + 1) l ≡ take i l ++ (get_or l i d ∷ []) = ap (λ (n : ℕ). take n l) (add-one i) ∙ take-suc l i d h in
      ap (sum f) t ∙ omega (arith, sum-append (take i l) (get_or l i d ∷ []))

-- the length in a row, as the row is read
row-length : (rs : List (List ℕ)) (p : ℕ) → len_of (row_at (map expiry_row_of rs) p) ≡ length_at rs p
unfolding four_at part
row-length [] p = refl
row-length (row ∷ rs) zero = len-bytes row
row-length (row ∷ rs) (suc p) = row-length rs p

-- the contents of the cached messages
pub content-held : (h : Head) (xs : List ℕ) → Fit h xs → places_name h.live.cached_rows 4 h.live.cached (table_of h 4 xs) ≡ true
    → adjoin 0 (rows 48 h.live.cached_rows (table_of h 5 xs)) h.live.contents ≡ true
    → content_held (state_of h xs) ≡ sum (length_at (rows 48 h.live.cached_rows (table_of h 5 xs))) (places (refs 4 h.live.cached (table_of h 4 xs)))
unfolding content_held state_of cached_in expiry_rows
content-held h xs fit b a =
    let rs : List (List ℕ) = rows 48 h.live.cached_rows (table_of h 5 xs) in
    let es : List Ref = refs 4 h.live.cached (table_of h 4 xs) in
    held-lens (table_of h 6 xs) (of-adjoin 0 rs h.live.contents a) (omega (arith, fit.within.contents, length-table (limits_of h.limits) 6 xs (lit< tt) fit.long)) es
    (subst (λ (m : ℕ). all_below m (places es) ≡ true) (sym (length-expiry_rows 48 h.live.cached_rows (table_of h 5 xs))) b)
    ∙ sum-places (λ p. len_of (row_at (map expiry_row_of rs) p)) es
    ∙ (λ k. sum (λ p. row-length rs p k) (places es))
