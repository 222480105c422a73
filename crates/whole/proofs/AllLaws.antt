-- Tests of all elements of a list: told one by one, and put together of two tests.
-- Assumes nothing.
use Rattle.whole.proofs.Words.{◌≡◌, refl, sym, ap, ◌∙◌, Bool, true, false, ◌&&◌, List, [], ◌∷◌, ◌++◌, ℕ, suc, ◌+◌, ◌-◌, ◌*◌, ◌≤◌, ◌<◌, zero-le, suc-le-suc, add-one, arith, length, take, drop, get_or, length-drop, take-suc, take_all, cases, true≢, all-at, rows, part-part, length_part, part-between, get_d_rows, row-end}
use Rattle.storage.specs.Lists.Base.{all}
use Rattle.storage.specs.Rows.Part.{part}

pub and-true : (a : Bool) → (a && true) ≡ a
and-true true = refl
and-true false = refl

pub and_no : (a : Bool) → (a && false) ≡ false
and_no true = refl
and_no false = refl

-- four tests, those of one kind together
and-four : (a b c d : Bool) → (a && b && (c && d)) ≡ (a && c && (b && d))
and-four true true c d = refl
and-four true false true d = refl
and-four true false false d = refl
and-four false b c d = refl

module _ {A : Type 0} (f : A → Bool) where
  all_snoc : (l : List A) (x : A) → all f (l ++ (x ∷ [])) ≡ (all f l && f x)
  unfolding all
  all_snoc [] x = cases (f x) (λ p. rw p) (λ p. rw p)
  all_snoc (y ∷ l) x = cases (f y) (λ p. rw p (all_snoc l x)) (λ p. rw p)

  module _ (l : List A) (i : ℕ) (d : A) (h : i < length l) where
    more : all f (take (i + 1) l) ≡ (all f (take i l) && f (get_or l i d))
    more = ap (λ (n : ℕ). all f (take n l)) (add-one i) ∙ ap (all f) (take-suc l i d h) ∙ all_snoc (take i l) (get_or l i d)

    -- one more that passes, and one that does not
    pub all_keep : f (get_or l i d) ≡ true → all f (take (i + 1) l) ≡ all f (take i l)
    all_keep e = more ∙ ap (λ (b : Bool). all f (take i l) && b) e ∙ and-true (all f (take i l))

    pub all_drop : f (get_or l i d) ≡ false → all f (take (i + 1) l) ≡ false
    all_drop e = more ∙ ap (λ (b : Bool). all f (take i l) && b) e ∙ and_no (all f (take i l))

    pub all-not : f (get_or l i d) ≡ false → false ≡ all f l
    all-not e = cases (all f l) (λ p. true≢ (sym e ∙ all-at f d l p i h)) (λ p. sym p)

  pub all_none : (l : List A) → all f (take 0 l) ≡ true
  unfolding all
  all_none l = refl

  pub all_done : (l : List A) (i : ℕ) → length l ≤ i → all f (take i l) ≡ all f l
  all_done l i h = ap (all f) (take_all i l h)

pub cons-all : {A : Type 0} (f : A → Bool) (x : A) (l : List A) → all f (x ∷ l) ≡ (f x && all f l)
unfolding all
cons-all f x l = cases (f x) (λ p. rw p) (λ p. rw p)

-- two tests of each element are two tests of all
pub all_both : {A : Type 0} (f g h : A → Bool) (d : A) (l : List A) → ((i : ℕ) → i < length l → h (get_or l i d) ≡ (f (get_or l i d) && g (get_or l i d)))
    → all h l ≡ (all f l && all g l)
unfolding all
all_both f g h d [] e = refl
all_both f g h d (x ∷ l) e =
    let here : h x ≡ (f x && g x) = e 0 (suc-le-suc zero-le) in
    let rest : all h l ≡ (all f l && all g l) = all_both f g h d l (λ i q. e (suc i) (suc-le-suc q)) in
    cons-all h x l ∙ (λ k. here k && rest k) ∙ and-four (f x) (g x) (all f l) (all g l) ∙ sym (λ k. cons-all f x l k && cons-all g x l k)

-- the second test is another where the first passes
pub both-same : (a b c h : Bool) → h ≡ (a && b) → (a ≡ true → b ≡ c) → h ≡ (a && c)
both-same true b c h e s = e ∙ s refl
both-same false b c h e s = e

-- the last k bytes of row i, as they lie in the table
pub list_at : (s n i o k : ℕ) (b : List ℕ) → o + k ≡ s → i < n → n * s ≤ length b
    → take (i * s + o + k - (i * s + o)) (drop (i * s + o) b) ≡ drop o (get_or (rows s n b) i [])
unfolding part
list_at s n i o k b w l h =
    let lr : length (part (i * s) s b) ≡ s = length_part (i * s) s b (omega (arith, row-end s n i l)) in
    part-between (i * s + o) k b
    ∙ sym (part-part o k (i * s) s b (omega arith))
    ∙ take_all k (drop o (part (i * s) s b)) (omega (arith, length-drop o (part (i * s) s b)))
    ∙ ap (drop o) (sym (get_d_rows s n i [] b l))
