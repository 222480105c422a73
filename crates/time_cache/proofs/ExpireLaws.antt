-- `expire_until`: the steps put together.
-- Assumes nothing.
use Rattle.std.proofs.Common.{◌≡◌, refl, sym, ap, ◌∙◌, subst, true, List, [], ◌∷◌, map, ℕ, ◌+◌, ◌-◌, ◌*◌, ◌≤◌, arith, ltb-true, lt-ltb, le-leb, leb-true, ltb, length, drop}
use native.Mathlib.Nat.{sub-zero}
use lib.ListN.{length-map}
use Rattle.storage.specs.Lists.Base.{filter}
use Rattle.storage.proofs.ListsLaws.ListLaws.{all_map, all-filter-imp}
use Rattle.storage.specs.Refs.Refs.{Ref, ref, places, names, lowered, left}
use Rattle.time_cache.specs.TimeCache.{Cache, expire_until, expired_keys, Timely}
use Rattle.time_cache.specs.Tables.{ExpiryRow, expiry_rows, expiry_of, Cut, ValueBytes, value_bytes, entry_of, cache_of, refs_at, rows_at, cache_at, Lies, resized, Sound}
use Rattle.time_cache.specs.Steps.{Drops, DropsEntries, Expires}
use Rattle.time_cache.specs.declared.cache.TimeBoundCache.{TimeBoundCache}
use Rattle.time_cache.proofs.Timely.{timely-expire}
use Rattle.time_cache.proofs.Removed.{expired-count}
use Rattle.time_cache.proofs.Orders.{below, below_of}
use Rattle.time_cache.proofs.TableLaws.{timely-of, expire-cut}
use Rattle.time_cache.proofs.LoanLaws.{only_same, only-both, refs-before, drop-behind}
use Rattle.time_cache.proofs.ReadLaws.{length-es, length-rs, sound-below}

-- places of the rows that are left
left_below : (k m : ℕ) (es : List Ref) → below m (places es) ≡ true → below (m - k) (places (left k es)) ≡ true
unfolding left
left_below k m es b =
    all_map (λ p. ltb p (m - k)) (λ (r : Ref). r.place) (map (lowered k) (filter (names k) es))
    ∙ all_map (λ r. ltb r.place (m - k)) (lowered k) (filter (names k) es)
    ∙ all-filter-imp (λ r. ltb r.place m) (names k) (λ r. ltb (r.place - k) (m - k))
    (λ r q h. lt-ltb (r.place - k) (m - k) (omega (arith, leb-true k r.place q, ltb-true r.place m h))) es
    (sym (all_map (λ p. ltb p m) (λ (r : Ref). r.place) es) ∙ b)

-- where no row goes, all are left
left-none : (es : List Ref) → left 0 es ≡ es
unfolding left filter
left-none [] = refl
left-none (r ∷ es) = rw (le-leb 0 r.place (omega arith)) (λ j. ref (sub-zero r.place j) r.own ∷ left-none es j)

module _ (c : TimeBoundCache) (t k : ℕ) (xs ys zs : List ℕ) (q : ℕ) (l : Lies c xs) (s : Sound c xs) (cut : Cut (cache_at c xs).expiry t k)
    (d : Drops c k xs ys) (ly : length ys ≡ length xs) (e : DropsEntries c k ys q zs) (lz : length zs ≡ length ys) where
  abbrev n : ℕ
  n = c.entries.len

  abbrev m : ℕ
  m = c.expiry.len

  abbrev a : ℕ
  a = c.entries.at

  abbrev b : ℕ
  b = c.expiry.at

  abbrev big : ℕ
  big = n * c.entries.stride

  abbrev wide : ℕ
  wide = m * c.expiry.stride

  abbrev es : List Ref
  es = refs_at c xs

  abbrev rs : List ExpiryRow
  rs = rows_at c xs

  abbrev r : TimeBoundCache
  r = resized q (m - k) c

  cut' : Cut (map expiry_of rs) t k
  unfolding cache_of
  cut' = cut

  km : k ≤ m
  km = omega (arith, cut'.within, length-map rs expiry_of, length-rs c xs)

  low : below (length rs) (places es) ≡ true
  low = sound-below c xs s

  refs-now : refs_at r zs ≡ left k es
  refs-now = e.refs ∙ ap (left k) (refs-before c.entries.stride n a b wide xs ys l.apart l.within ly d.only)

  rows-now : rows_at r zs ≡ drop k rs
  rows-now = ap (expiry_rows c.expiry.stride (m - k)) (drop-behind a big b ys zs l.apart (omega (arith, l.within)) lz e.only) ∙ d.rows

  cache-now : cache_at r zs ≡ expire_until t (cache_at c xs)
  cache-now = (λ z. cache_of value_bytes (refs-now z) (rows-now z)) ∙ expire-cut value_bytes t k es rs cut' low s.up s.order

  timely-now : Timely (cache_at r zs)
  timely-now = subst (λ (x : Cache ValueBytes). Timely x) (sym cache-now) (timely-expire t (cache_at c xs) (timely-of value_bytes es rs low s.up s.order))

  -- as many entries as rows of places
  count-of : (c : TimeBoundCache) (xs : List ℕ) → length (cache_at c xs).entries ≡ c.entries.len
  unfolding cache_of
  count-of c xs = length-map (refs_at c xs) (entry_of value_bytes (rows_at c xs)) ∙ length-es c xs

  gone : q + length (expired_keys t (cache_at c xs)) ≡ n
  gone =
      ap (λ (x : ℕ). x + length (expired_keys t (cache_at c xs))) (sym (count-of r zs) ∙ ap (λ (x : Cache ValueBytes). length x.entries) cache-now)
      ∙ expired-count t (cache_at c xs) s.up ∙ count-of c xs

  back : k ≡ m - (m - k)
  back = omega (arith, km)

  pub expires : Expires c t xs (record { cache = resized q (m - k) c; removed = n - q }) zs
  expires = record {
    sized = refl;
    count = omega (arith, e.count);
    removes = omega (arith, gone);
    cache = cache-now;
    sound = record {
      below = below_of (m - k) (places (refs_at r zs)) (ap (λ (x : List Ref). below (m - k) (places x)) refs-now ∙ ap (λ (x : ℕ). below (x - k) (places (left k es))) (sym (length-rs c xs)) ∙ left_below k (length rs) es low);
      up = timely-now.up;
      order = timely-now.order;
    };
    fewer = omega arith;
    rows = rows-now ∙ ap (λ (x : ℕ). drop x rs) back;
    refs = refs-now ∙ ap (λ (x : ℕ). left x es) back;
    only = only-both a big b wide xs ys zs l.apart l.within ly lz d.only e.only;
  }

-- where no row is due
pub expires-none : (c : TimeBoundCache) (t : ℕ) (xs : List ℕ) → Lies c xs → Sound c xs → Cut (cache_at c xs).expiry t 0
    → Expires c t xs (record { cache = resized c.entries.len c.expiry.len c; removed = 0 }) xs
expires-none c t xs l s cut =
    let n : ℕ = c.entries.len in
    let m : ℕ = c.expiry.len in
    let z : n - n ≡ 0 = omega arith in
    let d : Drops c 0 xs xs = record {
      rows = ap (λ (x : ℕ). rows_at (resized n x c) xs) (sub-zero m);
      only = only_same c.expiry.at (m * c.expiry.stride) xs l.within;
    } in
    let e : DropsEntries c 0 xs n xs = record {
      count = omega arith;
      refs = sym (left-none (refs_at c xs));
      only = only_same c.entries.at (n * c.entries.stride) xs (omega (arith, l.apart, l.within));
    } in
    subst (λ (x : ℕ). Expires c t xs (record { cache = resized n m c; removed = x }) xs) z
    (subst (λ (x : ℕ). Expires c t xs (record { cache = resized n x c; removed = n - n }) xs) (sub-zero m) (expires c t 0 xs xs xs n l s cut d refl e refl))
