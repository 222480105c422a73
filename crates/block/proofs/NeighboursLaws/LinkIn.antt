-- The row of a link that comes in, once the link numbers are raised.
-- Assumes nothing.
use Rattle.block.proofs.Words.{◌≡◌, sym, ap, ◌∙◌, subst, List, ℕ, ◌+◌, ◌<◌, arith, lit<, length, set, Range, Entry, entry, keys, insert, Between, inserted, map-gap, insert-between, Mark, Links, State, Limits, with_links}
use Rattle.storage.specs.Tables.Listed.{listed}
use Rattle.block.specs.Layout.{span, tables}
use Rattle.block.specs.View.{limits_of, view_with, view_of, state_of, link_of, links_in}
use Rattle.block.specs.Sound.{Laid}
use Rattle.block.specs.Becomes.{Becomes}
use Rattle.block.specs.LinkSteps.{linked}
use Rattle.block.specs.Heads.{with_link_count}
use Rattle.block.specs.declared.head.Head.{Head}
use Rattle.block.proofs.Lent.{lent_at, given_back, lent-table, lent-frame, lent-long}
use Rattle.block.specs.Neighbours.Raised.{RaisedLinks, with_peer}

module _ (h : Head) (xs : List ℕ) (i p : ℕ) (m : Mark) (b : Between (keys (state_of h xs).links) p i) (q : h.live.links < h.limits.neighbours) (ys : List ℕ) (w : RaisedLinks i h xs ys)
    (r : Range ℕ) (hr : r ≡ span (limits_of h.limits) 1) (zs : List ℕ) (g : length zs ≡ length (lent_at r ys)) where
  abbrev l : Limits
  l = limits_of h.limits

  abbrev n : ℕ
  n = h.live.links

  abbrev ls : Links
  ls = (state_of h xs).links

  module _ (s : listed 16 link_of (n + 1) zs ≡ inserted i (entry p m) (listed 16 link_of n (lent_at r ys))) where
    links-with : links_in (n + 1) zs ≡ inserted i (entry p m) ls
    unfolding links_in
    links-with = s ∙ ap (inserted i (entry p m)) (ap (listed 16 link_of n) (lent-table l 1 r ys (lit< tt) hr) ∙ ap (λ (t : State). t.links) (w.same p))

    pub link-in : Becomes (linked (insert p m)) h xs (with_link_count (n + 1) h) (given_back r ys zs)
    unfolding state_of
    link-in =
        let h1 : Head = with_link_count (n + 1) h in
        let framed = lent-frame l 1 r ys (lit< tt) hr zs w.fit.long g in
        let ks : keys (links_in (n + 1) zs) ≡ with_peer i p (keys ls) = ap (λ (e : Links). keys e) links-with ∙ map-gap (λ (e : Entry Mark). e.key) i (entry p m) ls in
        let up : links_in (n + 1) zs ≡ insert p m ls = links-with ∙ sym (insert-between p m i ls b) in
        record {
          state = ap (view_of h1) framed
              ∙ ap (λ (ps : List ℕ). view_with ps h1 (set (tables l ys) 1 zs)) ks
              ∙ (λ k. with_links (up k) (w.same p k));
          sound = record {
            fit = record { ceilings = w.fit.ceilings; within = omega (arith, q, w.fit.within); long = omega (arith, lent-long l 1 r ys (lit< tt) hr zs w.fit.long g, w.fit.long) };
            laid = subst (Laid h1) (sym framed) (record {
              received = w.laid.received;
              cached = w.laid.cached;
              grafted = w.laid.grafted;
              contents = w.laid.contents;
              used = w.laid.used;
              grafts = w.laid.grafts;
              missing = w.laid.missing;
              queue = w.laid.queue;
              dropped = w.laid.dropped;
            });
          };
        }
