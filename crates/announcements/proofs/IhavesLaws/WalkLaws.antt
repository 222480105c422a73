-- A walk over the entries of an IHave: how many have been taken, and which are left.
-- Assumes nothing.
use Rattle.announcements.proofs.Words.{◌≡◌, sym, ap, ◌∙◌, List, [], ◌∷◌, ◌++◌, ℕ, ◌+◌, ◌≤◌, ◌<◌, arith, length, take, drop, length-drop, drop-drop, take-add, Ihave}

-- `rest` are those after the first i
pub record After (all rest : List Ihave) (i : ℕ) : Type 0 where
  pub left : rest ≡ drop i all

pub after_none : {all rest : List Ihave} → rest ≡ all → After all rest 0
after_none e = record { left = e }

module _ {all rest : List Ihave} {i : ℕ} (a : After all rest i) where
  pub after-end : rest ≡ [] → length all ≤ i
  after-end e = omega (arith, length-drop i all, ap length (sym a.left ∙ e))

  module _ {x : Ihave} {others : List Ihave} (e : rest ≡ x ∷ others) where
    dropped : drop (i + 1) all ≡ others
    dropped = sym (drop-drop 1 i all) ∙ ap (drop 1) (sym a.left ∙ e)

    pub after-here : drop i all ≡ x ∷ drop (i + 1) all
    after-here = sym a.left ∙ e ∙ ap (λ (l : List Ihave). x ∷ l) (sym dropped)

    pub after-taken : take (i + 1) all ≡ take i all ++ (x ∷ [])
    after-taken = take-add i 1 all ∙ ap (λ (l : List Ihave). take i all ++ take 1 l) after-here

    pub after-next : After all others (i + 1)
    after-next = record { left = sym dropped }

    pub after-below : i < length all
    after-below = omega (arith, length-drop i all, ap length (sym a.left ∙ e))

-- where the code keeps no count: what holds after some of them
pub record Walk (P : ℕ → Type 0) (all rest : List Ihave) : Type 0 where
  pub index : ℕ
  pub after : After all rest index
  pub so : P index
