-- One cached message: its content, and its round, as the view reads them.
-- Assumes nothing.
use Rattle.block.proofs.Words.{◌≡◌, sym, ap, ◌∙◌, List, [], ℕ, ◌+◌, ◌*◌, ◌≤◌, ◌<◌, arith, lit<, length, get_or, Entry, entry, le_nat, Ref, ref, refs, places, get_or-map-in, length-refs, ref-at, Timed, ExpiryRow, expiry_rows, row_at, entry_of, ref_at, length-expiry_rows, Limits, Cached}
use lib.ListN.{length-map}
use Rattle.storage.specs.Rows.Part.{part}
use Rattle.storage.specs.Refs.Refs.{ref_of}
use Rattle.time_cache.specs.Tables.{cache_of}
use Rattle.block.specs.Layout.{place, table}
use Rattle.block.specs.View.{state_of, limits_of, half_at, content_of, cached_of, cached_in}
use Rattle.block.specs.Sound.{Sound}
use Rattle.block.specs.declared.head.Head.{Head}
use Rattle.block.proofs.Tables.{field_in}
use Rattle.block.proofs.RowLaws.{part_in}
use Rattle.block.specs.Caches.CachedReads.{cached_at, row_of}
use Rattle.block.specs.declared.caches.contents.Extent.{Extent}
use Rattle.block.specs.Contents.Starts.{start_of, len_of, ExtentIs}
use Rattle.block.proofs.CachesLaws.CacheLaws.{refs-in}
use Rattle.block.proofs.CachesLaws.CachedLaws.{count-cached}
use Rattle.block.proofs.ContentsLaws.RowsAdjoin.{chain-at, chain-of}

module _ (h : Head) (xs : List ℕ) (sound : Sound h xs) (i : ℕ) (b : i < length (state_of h xs).cache.entries) where
  abbrev l : Limits
  l = limits_of h.limits

  abbrev n : ℕ
  n = h.live.cached

  abbrev m : ℕ
  m = h.live.cached_rows

  abbrev es : List Ref
  es = refs 4 n (table l 4 xs)

  abbrev rs : List ExpiryRow
  rs = expiry_rows 48 m (table l 5 xs)

  -- the row that the entry names
  abbrev p : ℕ
  p = (ref_at es i).place

  abbrev x : ExpiryRow
  x = row_at rs p

  pub entry-below : i < n
  entry-below = omega (arith, b, count-cached h xs sound.fit)

  p-same : row_of h xs i ≡ p
  p-same = ap (λ (z : List Ref). (ref_at z i).place) (refs-in l 4 4 n 5 48 m xs (lit< tt) (omega (arith, sound.fit.within.cached)) (lit< tt) (omega (arith, sound.fit.within.cached_rows)))

  p-below : p < m
  p-below =
      let z : get_or (places es) i 0 < m = sound.laid.cached.below i (omega (arith, entry-below, length-map es (λ (r : Ref). r.place), length-refs 4 n (table l 4 xs))) in
      omega (arith, z, get_or-map-in (λ (r : Ref). r.place) es i 0 (ref 0 []) (omega (arith, entry-below, length-refs 4 n (table l 4 xs))))

  pub place-below : row_of h xs i < m
  place-below = omega (arith, p-same, p-below)

  value_in : cached_at (state_of h xs) i ≡ cached_of (table l 6 xs) (ref_at es i).own x.rest
  unfolding state_of cached_in cache_of
  value_in = ap (λ (e : Entry (Timed Cached)). e.value.value) (get_or-map-in (entry_of (cached_of (table l 6 xs)) rs) es i (entry 0 (record { expires = 0; value = record { content = []; round = 0 } })) (ref 0 []) (omega (arith, entry-below, length-refs 4 n (table l 4 xs))))

  -- start and length, read from the row that the entry names
  module _ (k : ℕ) (ek : k ≡ row_of h xs i) (e : Extent) (is : ExtentIs (row_at rs k) e) where
    same-start : e.start ≡ start_of x
    same-start = is.start ∙ (λ j. start_of (row_at rs ((ek ∙ p-same) j)))

    same-length : e.len ≡ len_of x
    same-length = is.len ∙ (λ j. len_of (row_at rs ((ek ∙ p-same) j)))

    pub content-ends : e.start + e.len ≤ h.live.contents
    content-ends = omega (arith, same-start, same-length, (chain-at (chain-of h xs sound) p (omega (arith, p-below, length-expiry_rows 48 m (table l 5 xs)))).1)

    pub content-is : (z : ℕ) → z ≡ place l 6 → part (z + e.start) e.len xs ≡ (cached_at (state_of h xs) i).content
    unfolding cached_of content_of
    content-is z ez =
        ap (λ (o : ℕ). part (o + e.start) e.len xs) ez
        ∙ sym (part_in l 6 e.start e.len xs (lit< tt) (omega (arith, content-ends, sound.fit.within.contents)))
        ∙ (λ j. part (same-start j) (same-length j) (table l 6 xs))
        ∙ sym (ap (λ (v : Cached). v.content) value_in)

  -- the round, after the place
  pub round_is : (a v : ℕ) → a ≡ place l 4 → v ≡ le_nat (part (a + 4 * i + 2) 2 xs) → v ≡ (cached_at (state_of h xs) i).round
  unfolding cached_of half_at ref_of part
  round_is a v ea ev =
      let at : a + 4 * i + 2 ≡ place l 4 + (i * 4 + 2) = omega (arith, ea) in
      let own : le_nat (part 2 2 (part (i * 4) 4 (table l 4 xs))) ≡ half_at 0 (ref_at es i).own = sym (ap (λ (r : Ref). half_at 0 r.own) (ref-at 4 n i (ref 0 []) (table l 4 xs) entry-below)) in
      ev
      ∙ ap (λ (o : ℕ). le_nat (part o 2 xs)) at
      ∙ sym (ap le_nat (field_in l 4 4 i 2 2 xs (lit< tt) (omega arith) (omega (arith, entry-below, sound.fit.within.cached))))
      ∙ own
      ∙ sym (ap (λ (v : Cached). v.round) value_in)
