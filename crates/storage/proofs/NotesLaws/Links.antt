-- The identifiers of one link, collected along its chain.
-- Assumes nothing.
use Rattle.std.proofs.Common.{◌≡◌, refl, sym, ap, ◌∙◌, subst, ◌⊎◌, inl, inr, Bool, true, false, cond, List, ℕ, ◌+◌, ◌-◌, ◌≤◌, ◌<◌, eq-or-lt_of_le, arith, eqb, length, get_or, set, length-set, get_or-set_same, get_or-set_other, eq-eqb}
use Rattle.storage.specs.Rows.Ident.{id_of}
use Rattle.storage.specs.declared.rows.id.Id.{Id}
use Rattle.storage.specs.Buckets.{id_at, Latest, Once, OnceFor, TellsOnceFor, Differ, TellsDiffer, TooMany}
use Rattle.storage.proofs.RowsLaws.Ids.{tri}
use Rattle.storage.proofs.NotesLaws.Orders.{apart}

-- the first `count` identifiers are those of the rows from j on, below n, that have the number l, the last row first; the row before j has it too
pub record Collected (c b : List ℕ) (n l j count : ℕ) (ids : List Id) : Type 0 where
  pub row : ℕ → ℕ
  pub below : (k : ℕ) → k < count → row k < n
  pub from : (k : ℕ) → k < count → j ≤ row k
  pub link : (k : ℕ) → k < count → get_or c (row k) 0 ≡ l
  pub id : (k : ℕ) (d : Id) → k < count → id_of (get_or ids k d) ≡ id_at b (row k)
  pub falls : (k m : ℕ) → k < m → m < count → row m < row k
  pub all : (p : ℕ) → j ≤ p → p < n → get_or c p 0 ≡ l → (k : ℕ) × ((k < count) × (row k ≡ p))
  pub within : j ≤ n
  pub top : (p : ℕ) → j ≡ p + 1 → get_or c p 0 ≡ l
  pub room : count ≤ length ids

pub collected-start : (c b : List ℕ) (n l j : ℕ) (ids : List Id) → Latest (λ p. get_or c p 0) n l j → Collected c b n l j 0 ids
collected-start c b n l j ids a = record {
  row = λ k. 0;
  below = λ k h. absurd (omega arith);
  from = λ k h. absurd (omega arith);
  link = λ k h. absurd (omega arith);
  id = λ k d h. absurd (omega arith);
  falls = λ k m h g. absurd (omega arith);
  all = λ p h g e. absurd (a.gap p h g e);
  within = a.within;
  top = a.hit;
  room = omega arith;
}

-- row, but v at n
at : (ℕ → ℕ) → ℕ → ℕ → ℕ → ℕ
at row n v k = cond (eqb k n) v (row k)

at-here : (row : ℕ → ℕ) (n v : ℕ) → at row n v n ≡ v
unfolding at
at-here row n v = ap (λ (t : Bool). cond t v (row n)) (eq-eqb n n refl)

at-other : (row : ℕ → ℕ) (n v k : ℕ) → k < n → at row n v k ≡ row k
unfolding at
at-other row n v k h = ap (λ (t : Bool). cond t v (row k)) (apart (eqb k n) k n refl (λ e. omega arith))

-- what holds of v, and of the first n of row, holds of the first n + 1
each-at : (row : ℕ → ℕ) (n v : ℕ) (P : ℕ → Type 0) → P v → ((k : ℕ) → k < n → P (row k)) → (k : ℕ) → k < n + 1 → P (at row n v k)
each-at row n v P x f k h = by-k (eq-or-lt_of_le (omega arith))
  where
    by-k : (k ≡ n) ⊎ (k < n) → P (at row n v k)
    by-k (inl t) = subst (λ (m : ℕ). P (at row n v m)) (sym t) (subst P (sym (at-here row n v)) x)
    by-k (inr t) = subst P (sym (at-other row n v k t)) (f k t)

falls-at : (row : ℕ → ℕ) (n v : ℕ) → ((k : ℕ) → k < n → v < row k) → ((k m : ℕ) → k < m → m < n → row m < row k) → (k m : ℕ) → k < m → m < n + 1 → at row n v m < at row n v k
falls-at row n v under f k m h g = by-m (eq-or-lt_of_le (omega arith))
  where
    here : k < n → at row n v n < at row n v k
    here t =
        let x : at row n v n ≡ v = at-here row n v in
        let y : at row n v k ≡ row k = at-other row n v k t in
        let z : v < row k = under k t in
        omega arith

    by-m : (m ≡ n) ⊎ (m < n) → at row n v m < at row n v k
    by-m (inl t) = subst (λ (x : ℕ). at row n v x < at row n v k) (sym t) (here (omega arith))
    by-m (inr t) =
        let x : at row n v m ≡ row m = at-other row n v m t in
        let y : at row n v k ≡ row k = at-other row n v k (omega arith) in
        let z : row m < row k = f k m h t in
        omega arith

-- 256 rows of a number are collected, and there is one more
pub too-many : (c b : List ℕ) (n l j : ℕ) (ids : List Id) → Collected c b n l j 256 ids → 0 < j → TooMany c n l
too-many c b n l j ids a some = record {
  row = at a.row 256 (j - 1);
  below = each-at a.row 256 (j - 1) (λ x. x < n) (omega (arith, a.within)) a.below;
  link = each-at a.row 256 (j - 1) (λ x. get_or c x 0 ≡ l) (a.top (j - 1) (omega arith)) a.link;
  falls = falls-at a.row 256 (j - 1) (λ k h. omega (arith, a.from k h)) a.falls;
}

module _ (c b : List ℕ) (n l j count i : ℕ) (ids : List Id) (v : Id) (a : Collected c b n l j count ids) (e : id_of v ≡ id_at b (j - 1)) (some : 0 < j) (room : count < length ids) (r : Latest (λ p. get_or c p 0) (j - 1) (get_or c (j - 1) 0) i) where
  abbrev row2 : ℕ → ℕ
  row2 = at a.row count (j - 1)

  here : row2 count ≡ j - 1
  here = at-here a.row count (j - 1)

  other : (k : ℕ) → k < count → row2 k ≡ a.row k
  other k h = at-other a.row count (j - 1) k h

  this : get_or c (j - 1) 0 ≡ l
  this = a.top (j - 1) (omega arith)

  id2 : (k : ℕ) (d : Id) → k < count + 1 → id_of (get_or (set ids count v) k d) ≡ id_at b (row2 k)
  id2 k d h = by-k (eq-or-lt_of_le (omega arith))
    where
      by-k : (k ≡ count) ⊎ (k < count) → id_of (get_or (set ids count v) k d) ≡ id_at b (row2 k)
      by-k (inl t) = subst (λ (m : ℕ). id_of (get_or (set ids count v) m d) ≡ id_at b (row2 m)) (sym t) (ap id_of (get_or-set_same ids count v d room) ∙ e ∙ ap (id_at b) (sym here))
      by-k (inr t) = ap id_of (get_or-set_other ids count k v d (λ x. omega arith)) ∙ a.id k d t ∙ ap (id_at b) (sym (other k t))

  all2 : (p : ℕ) → i ≤ p → p < n → get_or c p 0 ≡ l → (k : ℕ) × ((k < count + 1) × (row2 k ≡ p))
  all2 p h g f = by-p (tri p (j - 1))
    where
      old : (k : ℕ) × ((k < count) × (a.row k ≡ p)) → (k : ℕ) × ((k < count + 1) × (row2 k ≡ p))
      old x = (x.0, (omega (arith, x.1.0), other x.0 x.1.0 ∙ x.1.1))

      by-p : (p < j - 1) ⊎ ((p ≡ j - 1) ⊎ (j - 1 < p)) → (k : ℕ) × ((k < count + 1) × (row2 k ≡ p))
      by-p (inl t) = absurd (r.gap p h t (f ∙ sym this))
      by-p (inr (inl t)) = (count, (omega arith, here ∙ sym t))
      by-p (inr (inr t)) = old (a.all p (omega arith) g f)

  pub collected-more : Collected c b n l i (count + 1) (set ids count v)
  collected-more = record {
    row = row2;
    below = each-at a.row count (j - 1) (λ x. x < n) (omega (arith, a.within)) a.below;
    from = each-at a.row count (j - 1) (λ x. i ≤ x) (omega (arith, r.within)) (λ k h. omega (arith, r.within, a.from k h));
    link = each-at a.row count (j - 1) (λ x. get_or c x 0 ≡ l) this a.link;
    id = id2;
    falls = falls-at a.row count (j - 1) (λ k h. omega (arith, a.from k h)) a.falls;
    all = all2;
    within = omega (arith, r.within, a.within);
    top = λ p h. r.hit p h ∙ this;
    room = omega (arith, length-set ids count v);
  }

module _ (c b : List ℕ) (n l count : ℕ) (ids part : List Id) (a : Collected c b n l 0 count ids) (long : length part ≡ count) (front : (k : ℕ) (d : Id) → k < count → get_or part k d ≡ get_or ids k d) where
  id-of : (k : ℕ) (d : Id) → k < count → id_of (get_or part k d) ≡ id_at b (a.row k)
  id-of k d h = ap id_of (front k d h) ∙ a.id k d h

  differ-once : Differ part → (d : Id) → OnceFor c b n l
  differ-once w d = record { once = go }
    where
      go : (p q : ℕ) → p < q → q < n → get_or c p 0 ≡ l → get_or c q 0 ≡ l → id_at b p ≡ id_at b q → ⊥
      go p q h g x y e = by-k (tri fq.0 fp.0)
        where
          fp : (k : ℕ) × ((k < count) × (a.row k ≡ p))
          fp = a.all p (omega arith) (omega arith) x

          fq : (k : ℕ) × ((k < count) × (a.row k ≡ q))
          fq = a.all q (omega arith) g y

          by-k : (fq.0 < fp.0) ⊎ ((fq.0 ≡ fp.0) ⊎ (fp.0 < fq.0)) → ⊥
          by-k (inl t) = w.differ fq.0 fp.0 d t (omega (arith, fp.1.0, long)) (id-of fq.0 d fq.1.0 ∙ ap (id_at b) fq.1.1 ∙ sym e ∙ sym (ap (id_at b) fp.1.1) ∙ sym (id-of fp.0 d fp.1.0))
          by-k (inr (inl t)) = let z : p ≡ q = sym fp.1.1 ∙ sym (ap a.row t) ∙ fq.1.1 in omega arith
          by-k (inr (inr t)) = let z : a.row fq.0 < a.row fp.0 = a.falls fp.0 fq.0 t fq.1.0 in omega (arith, fp.1.1, fq.1.1)

  once-differ : OnceFor c b n l → Differ part
  once-differ o = record {
    differ = λ i j d h g e.
        let hj : j < count = omega arith in
        let hi : i < count = omega arith in
        o.once (a.row j) (a.row i) (a.falls i j h hj) (a.below i hi) (a.link j hj) (a.link i hi) (sym (id-of j d hj) ∙ sym e ∙ id-of i d hi);
  }

  pub tells-link : (d : Id) (r : Bool) → TellsDiffer part r → TellsOnceFor c b n l r
  tells-link d true w = differ-once w d
  tells-link d false w = λ o. w (once-differ o)

-- no row has the number
pub once-none : (c b : List ℕ) (n l s : ℕ) → Latest (λ p. get_or c p 0) n l s → s ≡ 0 → OnceFor c b n l
once-none c b n l s a e = record { once = λ p q h g x y f. a.gap q (omega arith) g y }

-- the first i rows have numbers below 256
pub record Numbers (c : List ℕ) (i : ℕ) : Type 0 where
  pub number : (p : ℕ) → p < i → get_or c p 0 < 256

pub numbers-start : (c : List ℕ) → Numbers c 0
numbers-start c = record { number = λ p h. absurd (omega arith) }

pub numbers-more : (c : List ℕ) (i : ℕ) → Numbers c i → get_or c i 0 < 256 → Numbers c (i + 1)
numbers-more c i a h = record { number = λ p g. by-p p (eq-or-lt_of_le (omega arith)) }
  where
    by-p : (p : ℕ) → (p ≡ i) ⊎ (p < i) → get_or c p 0 < 256
    by-p p (inl t) = subst (λ (q : ℕ). get_or c q 0 < 256) (sym t) h
    by-p p (inr t) = a.number p t

-- the rows of each of the first l numbers stand once
pub record OnceBelow (c b : List ℕ) (n l : ℕ) : Type 0 where
  pub each : (m : ℕ) → m < l → OnceFor c b n m

pub once_below-start : (c b : List ℕ) (n : ℕ) → OnceBelow c b n 0
once_below-start c b n = record { each = λ m h. absurd (omega arith) }

pub once_below-more : (c b : List ℕ) (n l : ℕ) → OnceBelow c b n l → OnceFor c b n l → OnceBelow c b n (l + 1)
once_below-more c b n l a o = record { each = λ m h. by-m m (eq-or-lt_of_le (omega arith)) }
  where
    by-m : (m : ℕ) → (m ≡ l) ⊎ (m < l) → OnceFor c b n m
    by-m m (inl t) = subst (λ (q : ℕ). OnceFor c b n q) (sym t) o
    by-m m (inr t) = a.each m t

pub once-all : (c b : List ℕ) (n : ℕ) → Numbers c n → OnceBelow c b n 256 → Once c b n
once-all c b n s a = record { once = λ p q h g x e. (a.each (get_or c q 0) (s.number q g)).once p q h g x refl e }

pub once-for : (c b : List ℕ) (n l : ℕ) → Once c b n → OnceFor c b n l
once-for c b n l o = record { once = λ p q h g x y e. o.once p q h g (x ∙ sym y) e }
