-- The lengths of the rows that the entries name.
use Rattle.whole.proofs.Words.{◌≡◌, refl, sym, ap, ◌∙◌, subst, true, List, ℕ, ◌+◌, ◌<◌, arith, rules, eqb, lit<, get_or, take_all, rows, Ref, refs, places, below_of, content_held, limits_of, state_of, Head}
use Rattle.storage.proofs.RefsLaws.Places.{length-places, get_or-map-in, length-refs}
use Rattle.storage.specs.Lists.Base.{sum}
use Rattle.storage.specs.Refs.Refs.{ref}
use Rattle.time_cache.specs.Tables.{refs_at}
use Rattle.time_cache.specs.Steps.{ref_at}
use Rattle.time_cache.specs.declared.cache.TimeBoundCache.{TimeBoundCache}
use Rattle.block.proofs.CachesLaws.CacheLaws.{refs-in}
use Rattle.whole.specs.Held.{places_name}
use Rattle.whole.specs.Parts.{table_of, length_at, cached_in_order}
use Rattle.whole.proofs.LentLaws.{cache-below}
use Rattle.whole.proofs.ContentLaws.{extent-row, sum_more, content-held}
use Rattle.whole.proofs.tables.Tables.contents_used.Goals as goal
use Rattle.whole.proofs.tables.Tables.contents_used.Goals.{After-place-row, Start}

-- the entries name rows
named : (h : Head) (xs : List ℕ) → cached_in_order h xs ≡ true → places_name h.live.cached_rows 4 h.live.cached (table_of h 4 xs) ≡ true
named h xs = cache-below h.live.cached_rows 4 h.live.cached (table_of h 4 xs) (state_of h xs).cache

module _ (c : After-place-row) where
  abbrev h : Head
  h = c.args.self.now.head.now

  abbrev xs : List ℕ
  xs = c.args.self.now.block.now

  abbrev es : List Ref
  es = refs 4 h.live.cached (table_of h 4 xs)

  -- the place that is read names a row
  spot : c.place-row.result ≡ get_or (places es) c.loop-entry.entry 0
  spot =
      c.place-row.ensures ∙ ap (λ (t : TimeBoundCache). (ref_at (refs_at t xs) c.loop-entry.entry).place) c.tables-cache.ensures.at
      ∙ ap (λ (z : List Ref). (ref_at z c.loop-entry.entry).place)
      (refs-in (limits_of h.limits) 4 4 h.live.cached 5 48 h.live.cached_rows xs (lit< tt) (omega (arith, c.args.self.now.fit.within.cached)) (lit< tt) (omega (arith, c.args.self.now.fit.within.cached_rows)))
      ∙ sym (get_or-map-in (λ (r : Ref). r.place) es c.loop-entry.entry 0 (ref 0 _) (omega (arith, c.loop-entry-test.true, length-refs 4 h.live.cached (table_of h 4 xs))))

  low : c.place-row.result < h.live.cached_rows
  low =
      let b = below_of h.live.cached_rows (places es) (named h xs c.requires.in_order) in
      subst (λ (p : ℕ). p < h.live.cached_rows) (sym spot) (b.below c.loop-entry.entry (omega (arith, c.loop-entry-test.true, length-places 4 h.live.cached (table_of h 4 xs))))

pub loop-entry-init : goal.loop-entry-init
unfolding sum
loop-entry-init c = (search rules, search rules, refl)

pub extent_of-extent-requires : goal.extent_of-extent-requires
extent_of-extent-requires c = record { fit = (c.args.self.now.fit, c.args.self.now.laid_out); there = low (goal.at.extent_of-extent-requires c).After-place-row }

pub overflow_add-total : goal.overflow_add-total
overflow_add-total c = omega (arith, c.loop-entry.invariant, c.extent_of-extent.type_inv, c.loop-entry-test.true, c.args.self.now.fit.within.cached, c.args.self.now.fit.ceilings.C)

pub loop-entry-preserved : goal.loop-entry-preserved
loop-entry-preserved c =
    let d = (goal.at.loop-entry-preserved c).After-place-row in
    let l = c.loop-entry in
    let x = table_of (h d) 5 (xs d) in
    let m = (h d).live.cached_rows in
    let len : c.extent_of-extent.result.len ≡ length_at (rows 48 m x) (get_or (places (es d)) l.entry 0) =
    (extent-row m c.place-row.result x c.extent_of-extent.result (low d) c.extent_of-extent.ensures).1 ∙ ap (length_at (rows 48 m x)) (spot d) in (
      omega (arith, c.loop-entry-test.true),
      omega (arith, l.invariant, c.extent_of-extent.type_inv),
      (λ k. l.invariant.2 k + len k) ∙ sym (sum_more (length_at (rows 48 m x)) (places (es d)) l.entry 0 (omega (arith, c.loop-entry-test.true, length-places 4 (h d).live.cached (table_of (h d) 4 (xs d))))),
    )

pub returns : goal.returns
returns c =
    let l = c.loop-entry in
    let h = c.args.self.now.head.now in
    let xs = c.args.self.now.block.now in
    let ps = places (refs 4 h.live.cached (table_of h 4 xs)) in
    let total = l.invariant.2 ∙ ap (sum (length_at (rows 48 h.live.cached_rows (table_of h 5 xs)))) (take_all l.entry ps (omega (arith, c.loop-entry-test.false, length-places 4 h.live.cached (table_of h 4 xs))))
    ∙ sym (content-held h xs c.args.self.now.fit (named h xs c.requires.in_order) c.requires.contents_adjoin) in
    ap (λ (n : ℕ). eqb n h.live.contents) total
