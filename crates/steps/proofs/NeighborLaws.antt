-- A neighbour that comes or goes, of the state alone.
-- Assumes nothing.
use Rattle.steps.proofs.Words.{◌≡◌, ℕ, suc, ◌+◌, ◌≤◌, ◌<◌, length, refl, sym, ap, ◌∙◌, arith, true, false, Bool, add-one, List, [], ◌∷◌, eqb, Option, Some, None, leb-true, ascending, keys, has, cases, true≢, and_left, Links, up_mark, is_neighbour, State, Consistent, sized_links, linked, Head}
use Rattle.std.specs.Option.{is_some}
use lib.ListN.{length-map}
use Rattle.storage.specs.Lists.Map.{lookup, remove}
use Rattle.time_cache.proofs.Orders.{up_of}
use Rattle.protocol.specs.Links.{link_up}
use Rattle.protocol.specs.Neighbours.{forget_peer}
use Rattle.protocol.specs.Whole.{fits, content_held}
use Rattle.decide.specs.Sizes.{sizes_of, grown}
use Rattle.decide.proofs.TableSizes.{length-insert}
use Rattle.block.specs.View.{state_of}
use Rattle.block.proofs.LinkLaws.{neighbour-here, count-links}
use Rattle.block.proofs.NeighboursLaws.Strangers.{stranger}
use Rattle.block.specs.Found.{LinkOf}

fits-links : (s : State) → fits s ≡ true → length s.links ≤ s.limits.N
unfolding fits
fits-links s h = leb-true (length s.links) s.limits.N (and_left _ _ (and_left _ _ (and_left _ _ (and_left _ _ (and_left _ _ (and_left _ _ (and_left _ _ (and_left _ _ h))))))))

-- whether a link was found
pub found-neighbour : (s : State) (p : ℕ) (o : Option ℕ) → ascending (keys s.links) ≡ true → LinkOf s p o → is_some o ≡ is_neighbour p s.links
found-neighbour s p None up e = sym e
found-neighbour s p (Some l) up a = sym (neighbour-here p l s.links (up_of (keys s.links) up) (record { within = omega (arith, a.below, length-map s.links (λ e. e.key)); same = a.peer }))

module _ (q : Bool) (p : ℕ) (s : State) (up : ascending (keys s.links) ≡ true) where
  long : length (link_up q p s.links) ≡ grown (is_neighbour p s.links) (length s.links)
  unfolding link_up
  long = length-insert p (up_mark q) s.links up

  up-sizes : sizes_of (linked (link_up q p) s) ≡ sized_links (grown (is_neighbour p s.links) (length s.links)) (sizes_of s)
  unfolding sizes_of content_held
  up-sizes = ap (λ (n : ℕ). sized_links n (sizes_of s)) long

  pub up-there : is_neighbour p s.links ≡ true → sizes_of s ≡ sizes_of (linked (link_up q p) s)
  unfolding sizes_of grown content_held
  up-there e = sym (up-sizes ∙ ap (λ (b : Bool). sized_links (grown b (length s.links)) (sizes_of s)) e)

  pub up-new : is_neighbour p s.links ≡ false → sized_links ((sizes_of s).links + 1) (sizes_of s) ≡ sizes_of (linked (link_up q p) s)
  unfolding sizes_of grown content_held
  up-new e = ap (λ (n : ℕ). sized_links n (sizes_of s)) (add-one (length s.links)) ∙ sym (up-sizes ∙ ap (λ (b : Bool). sized_links (grown b (length s.links)) (sizes_of s)) e)

  pub up-room : is_neighbour p s.links ≡ false → fits (linked (link_up q p) s) ≡ true → length s.links < s.limits.N
  unfolding grown
  up-room e h =
      let n : length (link_up q p s.links) ≡ suc (length s.links) = long ∙ ap (λ (b : Bool). grown b (length s.links)) e in
      omega (arith, n, fits-links (linked (link_up q p) s) h)

-- a stranger that goes
remove-away : (p : ℕ) (m : Links) → has p m ≡ false → remove p m ≡ m
unfolding lookup remove
remove-away p [] a = refl
remove-away p (e ∷ m) a =
    cases (eqb p e.key) (λ q. true≢ (sym a ∙ (rw q refl)))
    (λ q. rw q (ap (λ (l : Links). e ∷ l) (remove-away p m (sym (rw q refl) ∙ a))))

pub down-away : (p : ℕ) (s : State) → is_neighbour p s.links ≡ false → Consistent s → s ≡ forget_peer p s
down-away p s n c = sym (stranger p s n (remove-away p s.links n) c.core)

-- the limit on links is the header's
pub links-room : (h : Head) (xs : List ℕ) → length (state_of h xs).links < (state_of h xs).limits.N → h.live.links < h.limits.neighbours
unfolding state_of
links-room h xs q = omega (arith, count-links h xs, q)
