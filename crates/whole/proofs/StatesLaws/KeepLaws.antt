-- One state more, or another under its name: where it stands, and the bytes.
-- Assumes nothing.
use Rattle.whole.proofs.Words.{Some, None, ◌≡◌, refl, sym, ap, ◌∙◌, List, [], ◌∷◌, ℕ, zero, suc, ◌+◌, ◌-◌, ◌*◌, ◌≤◌, ◌<◌, zero-le, suc-le-suc, le_of_suc-le-suc, not-suc-le-zero, zero-add, arith, eq-eqb, ne_eqb, length, get_or, replicate, length-append, length-take, length-drop, concat_map, Entry, length-put, put-comm, put-over, put-within}
use Rattle.storage.specs.Lists.Map.{lookup}
use Rattle.storage.specs.Rows.Part.{put}
use Rattle.whole.specs.States.Kept.{Kept, keep}
use Rattle.whole.specs.States.Area.{row_bytes, area_bytes}
use Rattle.whole.proofs.StatesLaws.Slots.{Sized, put-parts, slot-end, slot-start}
use Rattle.whole.proofs.StatesLaws.AreaLaws.{nobody, length-row, X, Y, lr, lb, lx, ly}

-- what each has, and the new one
pub each-put : {A : Type 0} (d : A) (P : A → Type 0) (x : A) → P x → (ks : List A) → ((j : ℕ) → j < length ks → P (get_or ks j d)) → (i : ℕ) → i ≤ length ks
    → (j : ℕ) → j < length (put i (x ∷ []) ks) → P (get_or (put i (x ∷ []) ks) j d)
unfolding put
each-put d P x p [] h zero l zero g = p
each-put d P x p [] h zero l (suc j) g = absurd (not-suc-le-zero (le_of_suc-le-suc g))
each-put d P x p [] h (suc i) l j g = absurd (not-suc-le-zero l)
each-put d P x p (k ∷ ks) h zero l zero g = p
each-put d P x p (k ∷ ks) h zero l (suc j) g = h (suc j) g
each-put d P x p (k ∷ ks) h (suc i) l zero g = h 0 (suc-le-suc zero-le)
each-put d P x p (k ∷ ks) h (suc i) l (suc j) g = each-put d P x p ks (λ j g. h (suc j) (suc-le-suc g)) i (le_of_suc-le-suc l) j (le_of_suc-le-suc g)

pub length-put-one : {A : Type 0} (x : A) (ks : List A) (i : ℕ) → i ≤ length ks → length (put i (x ∷ []) ks) ≡ i + 1 + (length ks - (i + 1))
unfolding put
length-put-one x ks i h = simp (length-append, length-take, length-drop) (omega arith)

-- i is where the name stands, or the end
module _ (name : ℕ) where
  pub record At (ks : List (Entry Kept)) (i : ℕ) : Type 0 where
    pub within : i ≤ length ks
    pub before : (j : ℕ) → j < i → (get_or ks j nobody).key ≡ name → ⊥
    pub found : i < length ks → (get_or ks i nobody).key ≡ name

  at_tail : (k : Entry Kept) (ks : List (Entry Kept)) (i : ℕ) → At (k ∷ ks) (suc i) → At ks i
  at_tail k ks i a = record {
    within = le_of_suc-le-suc a.within;
    before = λ j h. a.before (suc j) (suc-le-suc h);
    found = λ h. a.found (suc-le-suc h);
  }

  -- kept: put there
  pub keep-put : (x : Entry Kept) → x.key ≡ name → (ks : List (Entry Kept)) (i : ℕ) → At ks i → keep x ks ≡ put i (x ∷ []) ks
  unfolding keep put
  keep-put x e [] zero a = refl
  keep-put x e [] (suc i) a = absurd (not-suc-le-zero a.within)
  keep-put x e (k ∷ ks) zero a = rw (eq-eqb x.key k.key (e ∙ sym (a.found (suc-le-suc zero-le)))) refl
  keep-put x e (k ∷ ks) (suc i) a =
      rw (ne_eqb x.key k.key (λ t. a.before 0 (suc-le-suc zero-le) (sym t ∙ e))) (ap (λ (t : List (Entry Kept)). k ∷ t) (keep-put x e ks i (at_tail k ks i a)))

  pub named-there : (ks : List (Entry Kept)) (i : ℕ) → At ks i → i < length ks → lookup name ks ≡ Some (get_or ks i nobody).value
  unfolding lookup
  named-there [] i a h = absurd (not-suc-le-zero h)
  named-there (k ∷ ks) zero a h = rw (eq-eqb name k.key (sym (a.found h)))
  named-there (k ∷ ks) (suc i) a h = rw (ne_eqb name k.key (λ t. a.before 0 (suc-le-suc zero-le) (sym t))) (named-there ks i (at_tail k ks i a) (le_of_suc-le-suc h))

  pub named-not : (ks : List (Entry Kept)) → At ks (length ks) → lookup name ks ≡ None
  unfolding lookup
  named-not [] a = refl
  named-not (k ∷ ks) a = rw (ne_eqb name k.key (λ t. a.before 0 (suc-le-suc zero-le) (sym t))) (named-not ks (at_tail k ks (length ks) a))

-- the bytes: the row, the block and the number are put
module _ (n long : ℕ) (fits : 256 + n * 4 ≤ long) (ks : List (Entry Kept)) (few : length ks ≤ 4) (sized : Sized nobody (λ k. k.value.block) n ks)
    (x : Entry Kept) (size : length x.value.block ≡ n) (i : ℕ) (within : i ≤ length ks) (room : i < 4) where
  abbrev after : List (Entry Kept)
  after = put i (x ∷ []) ks

  pub few-after : length after ≤ 4
  few-after = omega (arith, length-put-one x ks i within)

  pub sized-after : Sized nobody (λ k. k.value.block) n after
  sized-after = each-put nobody (λ (k : Entry Kept). length k.value.block ≡ n) x size ks sized i within

  rows-after : concat_map row_bytes after ≡ put (26 * i) (row_bytes x) (concat_map row_bytes ks)
  rows-after = put-parts nobody row_bytes 26 x (length-row x) ks (λ j l. length-row (get_or ks j nobody)) i within

  blocks-after : concat_map (λ k. k.value.block) after ≡ put (n * i) x.value.block (concat_map (λ k. k.value.block) ks)
  blocks-after = put-parts nobody (λ k. k.value.block) n x size ks sized i within

  abbrev X₀ : List ℕ
  X₀ = X n long fits ks few sized

  abbrev Y₀ : List ℕ
  Y₀ = Y n long fits ks few sized

  abbrev X₁ : List ℕ
  X₁ = X n long fits after few-after sized-after

  abbrev Y₁ : List ℕ
  Y₁ = Y n long fits after few-after sized-after

  abbrev B₀ : List ℕ
  B₀ = concat_map (λ k. k.value.block) ks

  b0 : length B₀ ≡ n * length ks
  b0 = lb n long fits ks few sized

  start : n * i ≤ n * length ks
  start = slot-start n i (length ks) within

  finish : n * length ks ≤ n * 4
  finish = slot-start n (length ks) 4 few

  row-x : put (26 * i) (row_bytes x) X₀ ≡ X₁
  row-x =
      ap (λ (m : ℕ). put m (row_bytes x) X₀) (sym (zero-add (26 * i)))
      ∙ put-within 0 (26 * i) (row_bytes x) (concat_map row_bytes ks) (replicate long 0) (omega (arith, lr n long fits ks few sized)) (omega arith)
      ∙ ap (λ (t : List ℕ). put 0 t (replicate long 0)) (sym rows-after)

  row-y : put (26 * i) (row_bytes x) Y₀ ≡ put 256 B₀ X₁
  row-y =
      put-comm (26 * i) 256 (row_bytes x) B₀ X₀ (omega (arith, length-row x)) (omega (arith, b0, lx n long fits ks few sized, finish))
      ∙ ap (put 256 B₀) row-x

  block-y : put (256 + n * i) x.value.block (put 256 B₀ X₁) ≡ Y₁
  block-y =
      put-within 256 (n * i) x.value.block B₀ X₁ (omega (arith, b0, start)) (omega (arith, lx n long fits after few-after sized-after))
      ∙ ap (λ (t : List ℕ). put 256 t X₁) (sym blocks-after)

  long-y : length (put 256 B₀ X₁) ≡ long
  long-y = length-put 256 B₀ X₁ (omega (arith, b0, finish, lx n long fits after few-after sized-after)) ∙ lx n long fits after few-after sized-after

  pub saved-bytes : (c : ℕ) → c ≡ i + 1 + (length ks - (i + 1))
      → put 255 (c ∷ []) (put (256 + n * i) x.value.block (put (26 * i) (row_bytes x) (area_bytes long ks))) ≡ area_bytes long after
  unfolding area_bytes
  saved-bytes c e =
      let k : List ℕ = length ks ∷ [] in
      ap (λ (t : List ℕ). put 255 (c ∷ []) (put (256 + n * i) x.value.block t))
      (put-comm (26 * i) 255 (row_bytes x) k Y₀ (omega (arith, length-row x)) (omega (arith, ly n long fits ks few sized)) ∙ ap (put 255 k) row-y)
      ∙ ap (put 255 (c ∷ []))
      (sym (put-comm 255 (256 + n * i) k x.value.block (put 256 B₀ X₁) (omega arith) (omega (arith, size, long-y, slot-end n i 4 room))) ∙ ap (put 255 k) block-y)
      ∙ put-over 255 k (c ∷ []) Y₁ refl (omega (arith, ly n long fits after few-after sized-after))
      ∙ ap (λ (m : ℕ). put 255 (m ∷ []) Y₁) (e ∙ sym (length-put-one x ks i within))
