-- The first elements of a list and one more: those that pass a test, and how many they are.
use Rattle.std.proofs.Common.{◌≡◌, refl, ap, ◌∙◌, Bool, true, false, List, [], ◌∷◌, ◌++◌, ℕ, suc, ◌+◌, ◌<◌, add-one, arith, length, get_or, take, take-suc, if◌then◌else◌}
use Rattle.storage.specs.Lists.Base.{filter, count}

module _ {A : Type 0} (q : A → Bool) where
  abbrev pub only : A → List A
  only x = if q x then x ∷ [] else []

  filter-snoc : (xs : List A) (x : A) → filter q (xs ++ (x ∷ [])) ≡ filter q xs ++ only x
  unfolding filter
  filter-snoc [] x = refl
  filter-snoc (y ∷ ys) x = go (q y) (filter-snoc ys x)
    where
      go : (t : Bool) → filter q (ys ++ (x ∷ [])) ≡ filter q ys ++ only x
          → (if t then y ∷ filter q (ys ++ (x ∷ [])) else filter q (ys ++ (x ∷ []))) ≡ (if t then y ∷ filter q ys else filter q ys) ++ only x
      go true e = ap (λ (l : List A). y ∷ l) e
      go false e = e

  pub filter_more : (i : ℕ) (d : A) (l : List A) → i < length l → filter q (take (i + 1) l) ≡ filter q (take i l) ++ only (get_or l i d)
  filter_more i d l h = rw (add-one i) (ap (filter q) (take-suc l i d h) ∙ filter-snoc (take i l) (get_or l i d))

  count-snoc : (xs : List A) (x : A) → count q (xs ++ (x ∷ [])) ≡ count q xs + length (only x)
  unfolding count
  count-snoc [] x = go (q x)
    where
      go : (t : Bool) → ◌≡◌ {A = ℕ} (if t then suc 0 else 0) (0 + length {A = A} (if t then x ∷ [] else []))
      go true = refl
      go false = refl
  count-snoc (y ∷ ys) x = go (q y) (count-snoc ys x)
    where
      go : (t : Bool) → count q (ys ++ (x ∷ [])) ≡ count q ys + length (only x)
          → (if t then suc (count q (ys ++ (x ∷ []))) else count q (ys ++ (x ∷ []))) ≡ (if t then suc (count q ys) else count q ys) + length (only x)
      go true e = omega (arith, e)
      go false e = e

  -- one more that the test holds of, and one that it does not hold of
  pub count-keep : (i : ℕ) (d : A) (l : List A) → i < length l → q (get_or l i d) ≡ true → count q (take (i + 1) l) ≡ count q (take i l) + 1
  count-keep i d l h e =
      rw (add-one i) (ap (count q) (take-suc l i d h) ∙ count-snoc (take i l) (get_or l i d) ∙ ap (λ (t : Bool). count q (take i l) + length {A = A} (if t then get_or l i d ∷ [] else [])) e)

  pub count-drop : (i : ℕ) (d : A) (l : List A) → i < length l → q (get_or l i d) ≡ false → count q (take (i + 1) l) ≡ count q (take i l)
  count-drop i d l h e =
      rw (add-one i) (ap (count q) (take-suc l i d h) ∙ count-snoc (take i l) (get_or l i d)
      ∙ ap (λ (t : Bool). count q (take i l) + length {A = A} (if t then get_or l i d ∷ [] else [])) e ∙ (omega arith))
