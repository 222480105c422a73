-- The row of a link that goes, once the link numbers are lowered.
-- Assumes nothing.
use Rattle.block.proofs.Words.{◌≡◌, refl, sym, ap, ◌∙◌, subst, List, ◌++◌, ℕ, suc, ◌-◌, ◌<◌, add-one, arith, lit<, length, take, drop, set, map-append, Range, Entry, keys, remove, removed, map-take, map-drop, up_of, Mark, Links, State, Limits, with_links}
use Rattle.storage.specs.Tables.Listed.{listed}
use Rattle.protocol.specs.Links.{link_down}
use Rattle.protocol.specs.Neighbours.{forget_peer}
use Rattle.block.specs.Layout.{span, tables}
use Rattle.block.specs.View.{limits_of, view_with, view_of, state_of, link_of, links_in}
use Rattle.block.specs.Sound.{Laid}
use Rattle.block.specs.Becomes.{Becomes}
use Rattle.block.specs.LinkSteps.{LinksAscend, peer_at}
use Rattle.block.specs.Heads.{with_link_count}
use Rattle.block.specs.declared.head.Head.{Head}
use Rattle.block.proofs.KeyPlaces.{remove-here}
use Rattle.block.proofs.Lent.{lent_at, given_back, lent-table, lent-frame, lent-long}
use Rattle.block.proofs.LinkLaws.{count-peers}
use Rattle.block.specs.Neighbours.Lowered.{LoweredLinks, without_peer}

module _ (h : Head) (xs : List ℕ) (asc : LinksAscend h xs) (i : ℕ) (hi : i < h.live.links) (low : Head) (ys : List ℕ) (w : LoweredLinks i h xs low ys)
    (r : Range ℕ) (hr : r ≡ span (limits_of low.limits) 1) (zs : List ℕ) (g : length zs ≡ length (lent_at r ys)) where
  abbrev l : Limits
  l = limits_of low.limits

  abbrev n : ℕ
  n = low.live.links

  abbrev ls : Links
  ls = (state_of h xs).links

  abbrev p : ℕ
  p = peer_at (state_of h xs) i

  module _ (s : listed 16 link_of (n - 1) zs ≡ removed i (listed 16 link_of n (lent_at r ys))) where
    links-out : links_in (n - 1) zs ≡ take i ls ++ drop (suc i) ls
    unfolding links_in
    links-out =
        s
        ∙ ap (removed i) (ap (listed 16 link_of n) (lent-table l 1 r ys (lit< tt) hr) ∙ ap (λ (t : State). t.links) w.same)
        ∙ ap (λ (j : ℕ). take i ls ++ drop j ls) (add-one i)

    peers-out : keys (links_in (n - 1) zs) ≡ without_peer i (keys ls)
    peers-out =
        ap (λ (m : Links). keys m) links-out
        ∙ map-append (λ (e : Entry Mark). e.key) (take i ls) (drop (suc i) ls)
        ∙ (λ k. map-take (λ (e : Entry Mark). e.key) i ls k ++ map-drop (λ (e : Entry Mark). e.key) (suc i) ls k)

    pub link-out : Becomes (forget_peer p) h xs (with_link_count (n - 1) low) (given_back r ys zs)
    unfolding state_of forget_peer link_down
    link-out =
        let h1 : Head = with_link_count (n - 1) low in
        let framed = lent-frame l 1 r ys (lit< tt) hr zs w.fit.long g in
        let down : links_in (n - 1) zs ≡ remove p ls = links-out ∙ sym (remove-here p i ls (up_of (keys ls) asc) (record { within = omega (arith, count-peers h xs); same = refl })) in
        record {
          state = ap (view_of h1) framed
              ∙ ap (λ (ps : List ℕ). view_with ps h1 (set (tables l ys) 1 zs)) peers-out
              ∙ (λ k. with_links (down k) (w.same k));
          sound = record {
            fit = record { ceilings = w.fit.ceilings; within = omega (arith, w.fit.within); long = omega (arith, lent-long l 1 r ys (lit< tt) hr zs w.fit.long g, w.fit.long) };
            laid = subst (Laid h1) (sym framed) (record {
              received = w.laid.received;
              cached = w.laid.cached;
              grafted = w.laid.grafted;
              contents = w.laid.contents;
              used = w.laid.used;
              grafts = w.laid.grafts;
              missing = w.laid.missing;
              queue = w.laid.queue;
              dropped = w.laid.dropped;
            });
          };
        }
