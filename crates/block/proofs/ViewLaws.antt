-- The links, one after the other.
-- Assumes nothing.
use Rattle.block.proofs.Words.{◌≡◌, ℕ, suc, ◌+◌, ◌<◌, ◌≤◌, length, ap, refl, arith, get_or, List, [], ◌∷◌, drop, add-one, drop-cons, entry, Links, eager}
use Rattle.std.proofs.lemmas.List.{drop_all}
use Rattle.block.specs.View.{state_of}
use Rattle.block.specs.Sound.{Sound}
use Rattle.block.specs.declared.head.Head.{Head}
use Rattle.block.proofs.LinkLaws.{count-links}
use Rattle.block.specs.Views.{numbered_link, links_from}

module _ (l : Links) (i : ℕ) where
  pub left-none : length l ≤ i → links_from i (drop i l) ≡ []
  unfolding links_from
  left-none b = ap (links_from i) (drop_all i l b)

  pub left-more : i < length l → links_from i (drop i l) ≡ numbered_link i (get_or l i (entry 0 eager)) ∷ links_from (i + 1) (drop (i + 1) l)
  unfolding links_from
  left-more b = rw (add-one) (ap (links_from i) (drop-cons l i (entry 0 eager) b))

length-links : (i : ℕ) (l : Links) → length (links_from i l) ≡ length l
unfolding links_from
length-links i [] = refl
length-links i (e ∷ l) = ap suc (length-links (suc i) l)

pub few-links : (h : Head) (xs : List ℕ) → Sound h xs → length (links_from 0 (state_of h xs).links) ≤ 32
few-links h xs s = omega (arith, length-links 0 (state_of h xs).links, count-links h xs, s.fit.within.links, s.fit.ceilings.N)

pub links-few : (h : Head) (xs : List ℕ) → Sound h xs → length (state_of h xs).links ≤ 32
links-few h xs s = omega (arith, count-links h xs, s.fit.within.links, s.fit.ceilings.N)
