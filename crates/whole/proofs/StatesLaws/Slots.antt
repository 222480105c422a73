-- Lists of which each has a part of one length, one after the other: the rows and the blocks of an area.
-- Assumes nothing.
use Rattle.whole.proofs.Words.{◌≡◌, sym, ap, ◌∙◌, List, [], ◌∷◌, ◌++◌, ℕ, zero, suc, ◌+◌, ◌*◌, ◌≤◌, ◌<◌, zero-le, suc-le-suc, mul-zero, mul-suc, mul-le-mul_left, le_of_suc-le-suc, not-suc-le-zero, arith, length, get_or, length-append, take_at, drop_at, put_right}
use lib.Seq.{drop-append-add, drop-nil}
use Rattle.storage.specs.Lists.Base.{concat_map}
use Rattle.storage.specs.Rows.Part.{part, put}

module _ {A : Type 0} (d : A) (f : A → List ℕ) (s : ℕ) where
  -- each has a part of s bytes
  abbrev pub Sized : List A → Type 0
  Sized ks = (i : ℕ) → i < length ks → length (f (get_or ks i d)) ≡ s

  pub sized-tail : (x : A) (ks : List A) → Sized (x ∷ ks) → Sized ks
  sized-tail x ks h i l = h (suc i) (suc-le-suc l)

  pub length-parts : (ks : List A) → Sized ks → length (concat_map f ks) ≡ s * length ks
  unfolding concat_map
  length-parts [] h = sym (mul-zero s)
  length-parts (x ∷ ks) h =
      omega (arith, length-append (f x) (concat_map f ks), length-parts ks (sized-tail x ks h), h 0 (suc-le-suc zero-le), mul-suc s (length ks))

  -- the part of the one at i
  pub part-parts : (ks : List A) → Sized ks → (i : ℕ) → i < length ks → part (s * i) s (concat_map f ks) ≡ f (get_or ks i d)
  unfolding concat_map part
  part-parts [] h i l = absurd (not-suc-le-zero l)
  part-parts (x ∷ ks) h zero l = rw (mul-zero s) (take_at (f x) (concat_map f ks) s (h 0 (suc-le-suc zero-le)))
  part-parts (x ∷ ks) h (suc i) l =
      let e : s * suc i ≡ length (f x) + s * i = omega (arith, mul-suc s i, h 0 (suc-le-suc zero-le)) in
      rw (e, drop-append-add (f x) (concat_map f ks) (s * i)) (part-parts ks (sized-tail x ks h) i (le_of_suc-le-suc l))

  -- one put, at the end too, is its part put
  pub put-parts : (x : A) → length (f x) ≡ s → (ks : List A) → Sized ks → (i : ℕ) → i ≤ length ks → concat_map f (put i (x ∷ []) ks) ≡ put (s * i) (f x) (concat_map f ks)
  unfolding concat_map put
  put-parts x e [] h zero l = rw (mul-zero s) (ap (λ (t : List ℕ). f x ++ t) (sym (drop-nil (length (f x)))))
  put-parts x e [] h (suc i) l = absurd (not-suc-le-zero l)
  put-parts x e (y ∷ ks) h zero l =
      rw (mul-zero s) (ap (λ (t : List ℕ). f x ++ t) (sym (drop_at (f y) (concat_map f ks) (length (f x)) (h 0 (suc-le-suc zero-le) ∙ sym e))))
  put-parts x e (y ∷ ks) h (suc i) l =
      let m : s * suc i ≡ length (f y) + s * i = omega (arith, mul-suc s i, h 0 (suc-le-suc zero-le)) in
      ap (λ (t : List ℕ). f y ++ t) (put-parts x e ks (sized-tail y ks h) i (le_of_suc-le-suc l)) ∙ sym (put_right (s * suc i) (s * i) (f y) (f x) (concat_map f ks) m)

-- slot i of four ends within them
pub slot-end : (n i k : ℕ) → i < k → n * i + n ≤ n * k
slot-end n i k h = omega (arith, mul-suc n i, let g : n * suc i ≤ n * k = mul-le-mul_left n h in g)

pub slot-start : (n i k : ℕ) → i ≤ k → n * i ≤ n * k
slot-start n i k h = mul-le-mul_left n h
