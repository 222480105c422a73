-- What a panel's state says of its header, a panel that is read, and a link that gets another mark.
-- Assumes nothing.
use Rattle.block.proofs.Words.{◌≡◌, ℕ, ◌<◌, length, arith, List, [], ◌∷◌, refl, sym, ap, ◌∙◌, true, not, ◌&&◌, get_or-map, set-get_or, ascending, Entry, entry, keys, insert, Here, cases, set-put, map-put, insert-here, up_of, Mark, eager, Links, is_neighbour, quiet_in, State}
use lib.ListN.{length-map}
use Rattle.protocol.specs.Links.{mark_if_there}
use Rattle.block.specs.LinkSteps.{link_at, peer_at}
use Rattle.block.specs.View.{state_of}
use Rattle.block.specs.declared.head.Head.{Head}
use Rattle.block.proofs.LinkLaws.{count-links}
use Rattle.block.specs.Panels.{state}
use Rattle.block.specs.Views.{shown}
use Rattle.block.specs.declared.panel.Panel.{Panel}
use Rattle.block.specs.declared.panel.View.{View}

pub link-below : (h : Head) (xs : List ℕ) (i : ℕ) → i < length (state_of h xs).links → i < h.live.links
link-below h xs i q = omega (arith, count-links h xs)

-- the peer of a link
pub link-key : (s : State) (i : ℕ) → peer_at s i ≡ (link_at s i).key
link-key s i = get_or-map (λ (e : Entry Mark). e.key) s.links i (entry 0 eager)

-- a panel that is read
pub same-state : (p : Panel) (v : View) → v.head.now ≡ p.head → v.block.now ≡ p.block.now → shown v ≡ state p
same-state p v e f = ap (λ (h : Head). state_of h v.block.now) e ∙ ap (state_of p.head) f

-- the peer of a link, which may get another mark
module _ (l : ℕ) (s : State) (up : ascending (keys s.links) ≡ true) (low : l < length s.links) where
  pub here : Here (keys s.links) (peer_at s l) l
  here = record { within = omega (arith, low, length-map s.links (λ e. e.key)); same = refl }

  pub same_keys : (k : Mark) → keys (mark_if_there (peer_at s l) k s.links) ≡ keys s.links
  unfolding mark_if_there
  same_keys k = cases (is_neighbour (peer_at s l) s.links && not (quiet_in (peer_at s l) s.links)) (λ n. rw n inserted) (λ n. rw n refl)
    where
      inserted : keys (insert (peer_at s l) k s.links) ≡ keys s.links
      inserted =
          ap (λ (x : Links). keys x) (insert-here (peer_at s l) k l s.links (up_of (keys s.links) up) here)
          ∙ map-put (λ (e : Entry Mark). e.key) l (entry (peer_at s l) k ∷ []) s.links
          ∙ sym (set-put l (peer_at s l) (keys s.links) here.within)
          ∙ set-get_or (keys s.links) l 0
