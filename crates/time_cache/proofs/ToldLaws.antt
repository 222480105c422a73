-- What `write_keys` writes: one key after the other, and nothing behind them (`TellsGone`).
-- Assumes nothing.
use Rattle.std.proofs.Common.{ℕ, ◌+◌, ◌-◌, ◌≤◌, ◌<◌, min, ◌≡◌, refl, sym, ap, ◌∙◌, ◌⊎◌, inl, inr, List, [], ◌∷◌, ◌++◌, map, add-one, arith, length, get_or, set, take, drop, length-set, length-take, take-suc, take-suc-set, take_all, take-take, drop-drop, drop-set-lt}
use lib.ListN.{length-map}
use Rattle.std.proofs.lemmas.List.{map-append, take-map}
use Rattle.storage.specs.Rows.Ident.{id_of}
use Rattle.storage.specs.declared.rows.id.Id.{Id}
use Rattle.storage.proofs.RowsLaws.Ids.{tri}
use Rattle.time_cache.specs.Gone.{TellsGone}

module _ (f : ℕ → ℕ) (rows : List ℕ) where
  -- the keys of the first i rows are written, and what stands behind them is as it was
  pub record Written (xs ys : List Id) (i : ℕ) : Type 0 where
    pub long : length ys ≡ length xs
    pub first : map id_of (take i ys) ≡ map f (take i rows)
    pub behind : drop i ys ≡ drop i xs

  -- before any
  pub written-none : (xs : List Id) → Written xs xs 0
  written-none xs = record { long = refl; first = refl; behind = refl }

  further : (xs ys : List Id) (i n : ℕ) → i ≤ n → drop i ys ≡ drop i xs → drop n ys ≡ drop n xs
  further xs ys i n h e =
      let s : i + (n - i) ≡ n = omega arith in
      let at = λ (l : List Id). sym (drop-drop (n - i) i l ∙ ap (λ (k : ℕ). drop k l) s) in
      at ys ∙ ap (drop (n - i)) e ∙ sym (at xs)

  -- one more
  pub written-more : (xs ys : List Id) (i : ℕ) (k : Id) → i < length rows → i < length ys → id_of k ≡ f (get_or rows i 0) → Written xs ys i → Written xs (set ys i k) (i + 1)
  written-more xs ys i k hr hy e w = record {
    long = length-set ys i k ∙ w.long;
    first = ap (λ (n : ℕ). map id_of (take n (set ys i k))) (add-one i)
        ∙ ap (map id_of) (take-suc-set ys i k hy)
        ∙ map-append id_of (take i ys) (k ∷ [])
        ∙ ap (λ (l : List ℕ). l ++ (id_of k ∷ [])) w.first
        ∙ ap (λ (n : ℕ). map f (take i rows) ++ (n ∷ [])) e
        ∙ sym (map-append f (take i rows) (get_or rows i 0 ∷ []))
        ∙ ap (map f) (sym (take-suc rows i 0 hr))
        ∙ ap (λ (n : ℕ). map f (take n rows)) (sym (add-one i));
    behind = drop-set-lt (i + 1) ys i k (omega arith) ∙ further xs ys i (i + 1) (omega arith) w.behind;
  }

-- all that there is room for
pub written-done : (f : ℕ → ℕ) (rows : List ℕ) (xs ys : List Id) (r i : ℕ) (gone : List ℕ) → map f rows ≡ gone → r ≡ min (length rows) (length xs) → i ≡ length (take r rows) → Written f (take r rows) xs ys i → TellsGone gone xs ys
written-done f rows xs ys r i gone e hr hi w =
    let long : length gone ≡ length rows = sym (ap length e) ∙ length-map rows f in
    let ir : i ≡ r = hi ∙ length-take r rows ∙ omega (arith, hr) in
    record {
      keys = first (tri (length xs) (length rows)) long ir;
      behind = further f rows xs ys i (length gone) (omega (arith, long, ir, hr)) w.behind;
    }
  where
    written : i ≡ r → map id_of (take i ys) ≡ map f (take i rows)
    written q = w.first ∙ ap (map f) (take-take i r rows (omega (arith, q)))

    -- as many as there are
    all : length rows ≤ length xs → length gone ≡ length rows → i ≡ r → map id_of (take (length gone) ys) ≡ take (length xs) gone
    all h l q =
        let n : length gone ≡ i = omega (arith, l, q, hr) in
        ap (λ (k : ℕ). map id_of (take k ys)) n ∙ written q ∙ ap (map f) (take_all i rows (omega arith)) ∙ e ∙ sym (take_all (length xs) gone (omega arith))

    -- as many as there is room for
    some : length xs ≤ length rows → length gone ≡ length rows → i ≡ r → map id_of (take (length gone) ys) ≡ take (length xs) gone
    some h l q =
        let n : i ≡ length xs = omega (arith, q, hr) in
        ap (map id_of) (take_all (length gone) ys (omega (arith, w.long, l)) ∙ sym (take_all i ys (omega (arith, w.long, n))))
        ∙ written q
        ∙ sym (take-map f i rows)
        ∙ ap (take i) e
        ∙ ap (λ (k : ℕ). take k gone) n

    first : (length xs < length rows) ⊎ ((length xs ≡ length rows) ⊎ (length rows < length xs)) → length gone ≡ length rows → i ≡ r → map id_of (take (length gone) ys) ≡ take (length xs) gone
    first (inl h) l q = some (omega arith) l q
    first (inr (inl h)) l q = all (omega arith) l q
    first (inr (inr h)) l q = all (omega arith) l q

-- where there is nothing to tell
pub told-nothing : (gone : List ℕ) (xs : List Id) → 0 ≡ length gone → TellsGone gone xs xs
told-nothing [] xs h = record { keys = sym (take_all (length xs) [] (omega arith)); behind = refl }
told-nothing (k ∷ gone) xs h = absurd (omega arith)

-- where there is no room
pub told-no-room : (gone : List ℕ) (xs : List Id) → length xs ≡ 0 → TellsGone gone xs xs
told-no-room gone [] h = record { keys = ap (map id_of) (take_all (length gone) [] (omega arith)); behind = refl }
told-no-room gone (x ∷ xs) h = absurd (omega arith)
