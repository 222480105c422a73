-- Laws of `any` and of truth values that the proof of the guarantee shares.
use Rattle.std.proofs.Common.{◌≡◌, refl, sym, ◌∙◌, Bool, true, false, ◌||◌, List, [], ◌∷◌, ◌++◌, ◌⊎◌, inl, inr}
use Rattle.storage.specs.Lists.Base.{any, filter}
use Rattle.storage.proofs.ListsLaws.MapLaws.{cases, true≢}

pub or_cases : (a b : Bool) → (a || b) ≡ true → (a ≡ true) ⊎ (b ≡ true)
or_cases true b h = inl refl
or_cases false b h = inr h

pub or_left : (a b : Bool) → a ≡ true → (a || b) ≡ true
or_left a b p = rw p

pub or_right : (a b : Bool) → b ≡ true → (a || b) ≡ true
or_right true b p = refl
or_right false b p = p

pub or-false-left : (a b : Bool) → (a || b) ≡ false → a ≡ false
or-false-left true b h = h
or-false-left false b h = refl

pub or-false-right : (a b : Bool) → (a || b) ≡ false → b ≡ false
or-false-right true b h = true≢ (sym h)
or-false-right false b h = h

module _ {A : Type 0} (f : A → Bool) where
  pub any-cons : (x : A) (xs : List A) → any f (x ∷ xs) ≡ (f x || any f xs)
  unfolding any
  any-cons x xs = cases (f x) (λ p. rw p) (λ p. rw p)

  pub any_append : (xs ys : List A) → any f (xs ++ ys) ≡ (any f xs || any f ys)
  unfolding any
  any_append [] ys = refl
  any_append (x ∷ xs) ys = cases (f x) (λ p. rw p) (λ p. rw p (any_append xs ys))

  pub any_left : (xs ys : List A) → any f xs ≡ true → any f (xs ++ ys) ≡ true
  any_left xs ys h = any_append xs ys ∙ or_left (any f xs) (any f ys) h

  pub any-right : (xs ys : List A) → any f ys ≡ true → any f (xs ++ ys) ≡ true
  any-right xs ys h = any_append xs ys ∙ or_right (any f xs) (any f ys) h

  pub any_none : (xs ys : List A) → any f xs ≡ false → any f ys ≡ false → any f (xs ++ ys) ≡ false
  any_none xs ys h k = any_append xs ys ∙ rw (h, k)

  pub any-none-left : (xs ys : List A) → any f (xs ++ ys) ≡ false → any f xs ≡ false
  any-none-left xs ys h = or-false-left (any f xs) (any f ys) (sym (any_append xs ys) ∙ h)

  pub any-none-right : (xs ys : List A) → any f (xs ++ ys) ≡ false → any f ys ≡ false
  any-none-right xs ys h = or-false-right (any f xs) (any f ys) (sym (any_append xs ys) ∙ h)

  -- of a list of one
  pub any-one : (x : A) → any f (x ∷ []) ≡ f x
  unfolding any
  any-one x = cases (f x) (λ p. rw p) (λ p. rw p)

  -- what passes the one test passes the other, so it stays
  pub any-filter : (g : A → Bool) → ((x : A) → f x ≡ true → g x ≡ true) → (xs : List A) → any f xs ≡ true → any f (filter g xs) ≡ true
  unfolding any filter
  any-filter g w [] h = h
  any-filter g w (x ∷ xs) h =
      cases (f x)
      (λ p. rw (w x p) (rw p))
      (λ p. cases (g x) (λ q. rw q (rw p (any-filter g w xs (rw p at h)))) (λ q. rw q (any-filter g w xs (rw p at h))))
