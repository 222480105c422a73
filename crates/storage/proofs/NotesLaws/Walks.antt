-- A walk along a chain, and a row that is added to the chains.
-- Assumes nothing.
use Rattle.std.proofs.Common.{◌≡◌, refl, sym, ap, ◌∙◌, subst, ◌⊎◌, inl, inr, List, ℕ, zero, suc, ◌+◌, ◌≤◌, ◌<◌, eq-or-lt_of_le, arith, length, get_or, set, replicate, length-set, get_or-set_same, get_or-set_other}
use Rattle.std.proofs.lemmas.Nat.{mod_below}
use Rattle.storage.proofs.RowsLaws.Ids.{tri}
use Rattle.storage.specs.Buckets.{id_at, bucket_of, Latest, Chained, New, Once}

pub in-range : (m s k l : ℕ) → 1 ≤ m → bucket_of m s k l < m
in-range m s k l h = mod_below _ m h

-- the rows from j on are not the note, and the row before j is in its bucket, where h says the buckets of rows and g is the note's
pub record Walk (h : ℕ → ℕ) (g : ℕ) (c b : List ℕ) (i l k j : ℕ) : Type 0 where
  pub within : j ≤ i
  pub top : (p : ℕ) → j ≡ p + 1 → h p ≡ g
  pub done : (p : ℕ) → j ≤ p → p < i → get_or c p 0 ≡ l → id_at b p ≡ k → ⊥

-- the head of each of m buckets
pub record Heads (m : ℕ) (h : ℕ → ℕ) (i : ℕ) (head : List ℕ) : Type 0 where
  pub each : (g : ℕ) → g < m → Latest h i g (get_or head g 0)
  pub long : length head ≡ m

zeros : (n k : ℕ) → ◌≡◌ {A = ℕ} (get_or (replicate {A = ℕ} n 0) k 0) 0
zeros zero k = refl
zeros (suc n) zero = refl
zeros (suc n) (suc k) = zeros n k

pub heads-start : (m : ℕ) (h : ℕ → ℕ) (head : List ℕ) → head ≡ replicate {A = ℕ} m 0 → length head ≡ m → Heads m h 0 head
heads-start m h head e l = record {
  each = λ g _.
      let z : get_or head g 0 ≡ 0 = ap (λ (t : List ℕ). get_or t g 0) e ∙ zeros m g in
      record { within = omega arith; hit = λ p f. absurd (omega arith); gap = λ p f t. absurd (omega arith) };
  long = l;
}

module _ (m : ℕ) (f : ℕ → ℕ) (head next : List ℕ) (i h : ℕ) (a : Heads m f i head) (e : h ≡ f i) (in-m : h < m) where
  other : (g : ℕ) → g < m → (g ≡ h → ⊥) → Latest f (i + 1) g (get_or (set head h (i + 1)) g 0)
  other g l n =
      let s = a.each g l in
      subst (λ (v : ℕ). Latest f (i + 1) g v) (sym (get_or-set_other head h g (i + 1) 0 n)) (record {
        within = omega (arith, s.within);
        hit = s.hit;
        gap = λ p q t. by-p p q (eq-or-lt_of_le (omega arith));
      })
    where
      by-p : (p : ℕ) → get_or head g 0 ≤ p → (p ≡ i) ⊎ (p < i) → f p ≡ g → ⊥
      by-p p q (inl t) x = n (sym x ∙ ap f t ∙ sym e)
      by-p p q (inr t) x = (a.each g l).gap p q t x

  this : Latest f (i + 1) h (i + 1)
  this = record {
    within = omega arith;
    hit = λ p g. let t : p ≡ i = omega arith in ap f t ∙ sym e;
    gap = λ p q t. absurd (omega arith);
  }

  by-h : (g : ℕ) → g < m → (g < h) ⊎ ((g ≡ h) ⊎ (h < g)) → Latest f (i + 1) g (get_or (set head h (i + 1)) g 0)
  by-h g l (inl t) = other g l (λ x. omega arith)
  by-h g l (inr (inl t)) =
      subst (λ (v : ℕ). Latest f (i + 1) v (get_or (set head h (i + 1)) v 0)) (sym t)
      (subst (λ (v : ℕ). Latest f (i + 1) h v) (sym (get_or-set_same head h (i + 1) 0 (omega (arith, a.long)))) this)
  by-h g l (inr (inr t)) = other g l (λ x. omega arith)

  pub heads-more : Heads m f (i + 1) (set head h (i + 1))
  heads-more = record { each = λ g l. by-h g l (tri g h); long = length-set head h (i + 1) ∙ a.long }

  pub chained_more : Chained f i next → i < length next → Chained f (i + 1) (set next i (get_or head h 0))
  chained_more r l = record { each = λ q g. by-q q (eq-or-lt_of_le (omega arith)) }
    where
      by-q : (q : ℕ) → (q ≡ i) ⊎ (q < i) → Latest f q (f q) (get_or (set next i (get_or head h 0)) q 0)
      by-q q (inl t) =
          subst (λ (v : ℕ). Latest f v (f v) (get_or (set next i (get_or head h 0)) v 0)) (sym t)
          (subst (λ (v : ℕ). Latest f i (f i) v) (sym (get_or-set_same next i (get_or head h 0) 0 l))
          (subst (λ (v : ℕ). Latest f i v (get_or head h 0)) e (a.each h in-m)))
      by-q q (inr t) =
          subst (λ (v : ℕ). Latest f q (f q) v) (sym (get_or-set_other next i q (get_or head h 0) 0 (λ x. omega arith))) (r.each q t)

pub chained-start : (f : ℕ → ℕ) (next : List ℕ) → Chained f 0 next
chained-start f next = record { each = λ q h. absurd (omega arith) }

pub once-start : (c b : List ℕ) → Once c b 0
once-start c b = record { once = λ p q h g. absurd (omega arith) }

pub once_more : (c b : List ℕ) (i l k : ℕ) → Once c b i → l ≡ get_or c i 0 → k ≡ id_at b i → New c b i l k → Once c b (i + 1)
once_more c b i l k o e f n = record { once = λ p q h g. by-q p q h (eq-or-lt_of_le (omega arith)) }
  where
    by-q : (p q : ℕ) → p < q → (q ≡ i) ⊎ (q < i) → get_or c p 0 ≡ get_or c q 0 → id_at b p ≡ id_at b q → ⊥
    by-q p q h (inl t) x y = n.new p (omega arith) (x ∙ ap (λ (v : ℕ). get_or c v 0) t ∙ sym e) (y ∙ ap (id_at b) t ∙ sym f)
    by-q p q h (inr t) x y = o.once p q h t x y

pub once-not : (c b : List ℕ) (i n l k : ℕ) → i < n → l ≡ get_or c i 0 → k ≡ id_at b i → (New c b i l k → ⊥) → Once c b n → ⊥
once-not c b i n l k h e f d o = d (record { new = λ p g x y. o.once p i g h (x ∙ e) (y ∙ f) })
