-- What a row that is read or written is to the list of the rows' values.
-- Assumes nothing.
use Rattle.std.proofs.Common.{◌≡◌, sym, ap, ◌∙◌, List, [], ◌∷◌, ◌++◌, map, ℕ, ◌+◌, ◌-◌, ◌*◌, ◌≤◌, ◌<◌, arith, length-take-le, length, take, drop, get_or, length-drop}
use mathlib.Core.List.{map-append}
use lib.ListN.{length-map, get_or-map}
use borrow.Rule.Slice.PartMut.{put_mid}
use Rattle.std.proofs.lemmas.List.{get_or_default, drop_all}
use Rattle.storage.specs.Rows.Part.{part, put}
use Rattle.storage.specs.Rows.Rows.{rows, opened, closed}
use Rattle.storage.proofs.RowsLaws.Parts.{length_part, loan-put, put-put-prev}
use Rattle.storage.proofs.RowsLaws.Rows.{length-rows, get_d_rows, rows-put, rows-put-one, rows-part, rows-opened, rows-closed, take-rows, row-end, mul-more, mul-split, mul-up, put-gap}
use Rattle.storage.proofs.RowsLaws.Views.{map-put, map-gap, map-take, map-drop}
use Rattle.storage.specs.Tables.Listed.{listed, inserted, removed, merged}

module _ {A : Type 0} (f : List ℕ → A) (w : ℕ) where
  pub length-listed : (n : ℕ) (xs : List ℕ) → length (listed w f n xs) ≡ n
  length-listed n xs = length-map (rows w n xs) f ∙ length-rows w n xs

  pub get-listed : (n i : ℕ) (d : A) (xs : List ℕ) → i < n → get_or (listed w f n xs) i d ≡ f (part (i * w) w xs)
  get-listed n i d xs h =
      get_or_default (listed w f n xs) i d (f []) (omega (arith, length-listed n xs))
      ∙ get_or-map f (rows w n xs) i []
      ∙ ap f (get_d_rows w n i [] xs h)

  -- the first rows of more
  pub first-listed : (n k : ℕ) (xs : List ℕ) → k ≤ n → listed w f k xs ≡ take k (listed w f n xs)
  first-listed n k xs h = ap (map f) (sym (take-rows w k n xs h)) ∙ map-take f k (rows w n xs)

  -- a row that was lent, x being its width
  module _ (i x : ℕ) (v : A) (xs ys : List ℕ) (e : x ≡ w) (l : length ys ≡ length (take (i * x + x - i * x) (drop (i * x) xs))) (s : f ys ≡ v) where
    wide : i * w + w - i * w ≡ w
    wide = omega arith

    lent : i * w + w ≤ length xs → length ys ≡ w
    unfolding part
    lent h =
        l
        ∙ (λ t. length (take (i * e t + e t - i * e t) (drop (i * e t) xs)))
        ∙ ap (λ (m : ℕ). length (take m (drop (i * w) xs))) wide
        ∙ length_part (i * w) w xs h

    back : i * w + w ≤ length xs → put_mid (i * x) (i * x + x - i * x) xs ys ≡ put (i * w) ys xs
    back h =
        (λ t. put_mid (i * e t) (i * e t + e t - i * e t) xs ys)
        ∙ ap (λ (m : ℕ). put_mid (i * w) m xs ys) wide
        ∙ loan-put (i * w) w ys xs (lent h)

    pub stored : (n : ℕ) → i < n → n * w ≤ length xs → listed w f n (put_mid (i * x) (i * x + x - i * x) xs ys) ≡ put i (v ∷ []) (listed w f n xs)
    stored n h r =
        let q : i * w + w ≤ length xs = omega (arith, row-end w n i h) in
        ap (listed w f n) (back q)
        ∙ ap (map f) (rows-put-one w i n ys xs (lent q) h r)
        ∙ map-put f i (ys ∷ []) (rows w n xs)
        ∙ ap (λ (t : A). put i (t ∷ []) (listed w f n xs)) s

  -- a row that was stored behind the others
  pub pushed : (n : ℕ) (v : A) (xs ys : List ℕ) → listed w f (n + 1) ys ≡ put n (v ∷ []) (listed w f (n + 1) xs) → listed w f (n + 1) ys ≡ listed w f n xs ++ (v ∷ [])
  unfolding put
  pushed n v xs ys e =
      let all : List A = listed w f (n + 1) xs in
      let none : drop 1 (drop n all) ≡ [] = drop_all 1 (drop n all) (omega (arith, length-drop n all, length-listed (n + 1) xs)) in
      e
      ∙ ap (λ (t : List A). take n all ++ (v ∷ t)) none
      ∙ ap (λ (t : List A). t ++ (v ∷ [])) (sym (first-listed (n + 1) n xs (omega arith)))

  -- a row that was stored in a gap
  pub filled : (n i x : ℕ) (v : A) (xs gap ys : List ℕ) → x ≡ w → gap ≡ opened x n i xs → i ≤ n → (n + 1) * w ≤ length xs
      → listed w f (n + 1) ys ≡ put i (v ∷ []) (listed w f (n + 1) gap) → listed w f (n + 1) ys ≡ inserted i v (listed w f n xs)
  filled n i x v xs gap ys e g h r q =
      let p : gap ≡ opened w n i xs = g ∙ (λ t. opened (e t) n i xs) in
      let li : length (take i (listed w f n xs)) ≡ i = length-take-le i (listed w f n xs) (omega (arith, length-listed n xs)) in
      q
      ∙ ap (put i (v ∷ [])) (ap (listed w f (n + 1)) p ∙ ap (map f) (rows-opened w n i xs h r) ∙ map-gap f i (part (i * w) w xs) (rows w n xs))
      ∙ put-gap i (f (part (i * w) w xs)) v (take i (listed w f n xs)) (drop i (listed w f n xs)) li

  -- a row that was copied over another
  pub moved : (n j k x : ℕ) (d : A) (xs ys : List ℕ) → x ≡ w → ys ≡ put (k * x) (part (j * x) x xs) xs → k ≤ j → j < n → n * w ≤ length xs
      → listed w f n ys ≡ put k (get_or (listed w f n xs) j d ∷ []) (listed w f n xs)
  moved n j k x d xs ys e g h l r =
      let q : j * w + w ≤ length xs = omega (arith, row-end w n j l) in
      ap (listed w f n) (g ∙ (λ t. put (k * e t) (part (j * e t) (e t) xs) xs))
      ∙ ap (map f) (rows-put-one w k n (part (j * w) w xs) xs (length_part (j * w) w xs q) (omega arith) r)
      ∙ map-put f k (part (j * w) w xs ∷ []) (rows w n xs)
      ∙ ap (λ (t : A). put k (t ∷ []) (listed w f n xs)) (sym (get-listed n j d xs l))

  -- a row that was closed
  pub row-out : (n i x : ℕ) (xs ys : List ℕ) → x ≡ w → ys ≡ put (i * x) (part (i * x + x) ((n - 1 - i) * x) xs) xs → i < n → n * w ≤ length xs
      → listed w f (n - 1) ys ≡ removed i (listed w f n xs)
  unfolding closed
  row-out n i x xs ys e g h r =
      let a : i * x + x ≡ (i + 1) * x = sym (mul-more x i) in
      let k : n - 1 - i ≡ n - (i + 1) = omega arith in
      let c : n - 1 ≡ n - (i + 1 - i) = omega arith in
      let d : ys ≡ closed x n i (i + 1) xs = g ∙ (λ t. put (i * x) (part (a t) (k t * x) xs) xs) in
      ap (listed w f (n - 1)) (d ∙ (λ t. closed (e t) n i (i + 1) xs))
      ∙ ap (λ (t : ℕ). listed w f t (closed w n i (i + 1) xs)) c
      ∙ ap (map f) (rows-closed w n i (i + 1) xs (omega arith) (omega arith) r)
      ∙ map-append f (take i (rows w n xs)) (drop (i + 1) (rows w n xs))
      ∙ (λ t. map-take f i (rows w n xs) t ++ map-drop f (i + 1) (rows w n xs) t)

  -- rows that were moved up, and a row that was stored before them
  pub merged-rows : (m n i k x : ℕ) (v : A) (xs bs ys : List ℕ) → x ≡ w → bs ≡ put ((i + k) * x) (part (i * x) ((n - i) * x) xs) xs → i ≤ n → 0 < k → n + k ≤ m → m * w ≤ length xs
      → listed w f m ys ≡ put (i + k - 1) (v ∷ []) (listed w f m bs) → listed w f m ys ≡ merged n i k v (listed w f m xs)
  unfolding part
  merged-rows m n i k x v xs bs ys e g h p l r q =
      let all : List A = listed w f m xs in
      let b : i * w + (n - i) * w ≤ length xs = omega (arith, mul-split w n i h, mul-up w n m (omega arith)) in
      let moved : listed w f m bs ≡ put (i + k) (part i (n - i) all) all =
      ap (listed w f m) (g ∙ (λ t. put ((i + k) * e t) (part (i * e t) ((n - i) * e t) xs) xs))
      ∙ ap (map f) (rows-put w (i + k) (n - i) m (part (i * w) ((n - i) * w) xs) xs (length_part (i * w) ((n - i) * w) xs b) (omega arith) r
      ∙ ap (λ (t : List (List ℕ)). put (i + k) t (rows w m xs)) (rows-part w i (n - i) m xs (omega arith)))
      ∙ map-put f (i + k) (part i (n - i) (rows w m xs)) (rows w m xs)
      ∙ ap (λ (t : List A). put (i + k) t all) (map-take f (n - i) (drop i (rows w m xs)) ∙ ap (take (n - i)) (map-drop f i (rows w m xs))) in
      q
      ∙ ap (put (i + k - 1) (v ∷ [])) moved
      ∙ put-put-prev (i + k - 1) (i + k) (v ∷ []) (part i (n - i) all) all (omega arith) (omega (arith, length_part i (n - i) all (omega (arith, length-listed m xs)), length-listed m xs))
