-- A message put into the two tables without its content.
-- Assumes nothing.
use Rattle.block.proofs.Words.{◌≡◌, refl, sym, ap, ◌∙◌, subst, List, [], ◌∷◌, ◌++◌, ℕ, ◌+◌, ◌-◌, ◌*◌, ◌≤◌, ◌<◌, arith, lit<, length, take, drop, get_or, set, get_or_at, drop-append-add, part, put, le_nat, le_bytes, length_part, length-put, part-put, part-zero, length-le_bytes, le_nat-le_bytes, put-gap, row-end, Ref, ref, refs, places, Below, ref-at, length-refs, Cache, ExpiryRow, expiry_row, expiry_rows, row_at, no_row, cache_in, cache_at, refs_at, rows_at, ref_at, held_at, Inserts, TimeBoundCache, length-expiry_rows, put_as, length-as, own-stored, rest-stored, put-get_or-same, Limits, Cached, with_cache}
use Rattle.std.proofs.Common.{length-drop, length-take-le}
use Rattle.storage.specs.Refs.Refs.{ref_of}
use Rattle.time_cache.specs.TimeCache.{put as put_in}
use Rattle.time_cache.specs.declared.cache.Inserted.{Inserted}
use Rattle.time_cache.proofs.ViewLaws.{Fresh, fresh_start, fresh-own, fresh-rest}
use Rattle.block.specs.Layout.{place, tables, table, end}
use Rattle.block.specs.View.{state_of, limits_of, cached_in, cached_of, content_of, half_at}
use Rattle.block.specs.Fit.{Fit}
use Rattle.block.specs.Sound.{Sound, held}
use Rattle.block.specs.Becomes.{Becomes}
use Rattle.block.specs.Heads.{with_cached_counts}
use Rattle.block.specs.declared.head.Head.{Head}
use Rattle.block.proofs.Tables.{frame, length-table}
use Rattle.block.specs.TimeCaches.{cache_from, cached_cache}
use Rattle.block.specs.Caches.InBlock.{AtMost}
use Rattle.block.proofs.CachesLaws.CacheLaws.{refs-in, rows_in, frame-pair, inserted-in, count_entries, count-expiry}
use Rattle.block.proofs.CachesLaws.CachedLaws.{cached-lies}
use Rattle.block.specs.Contents.Starts.{start_of, len_of, first_start, RowsAdjoin, with_rest}
use Rattle.block.specs.Contents.CacheSteps.{message, cached_also, cached_rows, Emptied, Others}
use Rattle.block.proofs.ContentsLaws.RowsAdjoin.{chain-ends, chain-drop, chain-gap, rest-start, rest-len, chain-of}
use Rattle.block.proofs.ContentsLaws.Closing.{others-of, cached-state, cached-laid}

-- how many entries there are when a key was put in does not hang on its value
pub count-put : {A : Type 0} (k t : ℕ) (v w : A) (c : Cache A) → length (put_in k v t c).entries ≡ length (put_in k w t c).entries
count-put {A} k t v w c =
    let f : A → Unit {0} = λ _. tt in
    sym (length-as f (put_in k v t c)) ∙ ap (λ (z : Cache (Unit {0})). length z.entries) (put_as f k v t c ∙ sym (put_as f k w t c)) ∙ length-as f (put_in k w t c)

pub expiry-put : {A : Type 0} (k t : ℕ) (v w : A) (c : Cache A) → length (put_in k v t c).expiry ≡ length (put_in k w t c).expiry
unfolding put_in
expiry-put k t v w c = refl

-- the rows behind a row that was put in
drop-gap : (j : ℕ) (x : ExpiryRow) (xs : List ExpiryRow) → j ≤ length xs → drop (j + 1) (take j xs ++ (x ∷ drop j xs)) ≡ drop j xs
drop-gap j x xs h =
    let e : j + 1 ≡ length (take j xs) + 1 = omega (arith, length-take-le j xs h) in
    ap (λ (i : ℕ). drop i (take j xs ++ (x ∷ drop j xs))) e ∙ drop-append-add (take j xs) (x ∷ drop j xs) 1

module _ (h : Head) (xs : List ℕ) (sound : Sound h xs) (id round t : ℕ) (r : Inserted) (ys : List ℕ) (e : length ys ≡ length xs) (x : Inserts (cached_cache h) id t xs r ys)
    (most : AtMost (state_of h xs).limits.C (put_in id (message [] round) t (state_of h xs).cache)) where
  abbrev l : Limits
  l = limits_of h.limits

  abbrev n : ℕ
  n = h.live.cached

  abbrev m : ℕ
  m = h.live.cached_rows

  abbrev u : ℕ
  u = h.live.contents

  abbrev n' : ℕ
  n' = r.cache.entries.len

  abbrev m' : ℕ
  m' = r.cache.expiry.len

  abbrev i : ℕ
  i = r.entry

  abbrev j : ℕ
  j = r.row

  abbrev store : List ℕ
  store = table l 6 xs

  abbrev rs : List ExpiryRow
  rs = cached_rows h xs

  abbrev pub new_head : Head
  new_head = with_cached_counts n' m' u h

  abbrev c' : TimeBoundCache
  c' = cache_from l 4 4 n' 5 48 m'

  one : m' ≡ m + 1
  one = ap (λ (c : TimeBoundCache). c.expiry.len) x.sized

  sized : r.cache ≡ c'
  sized = x.sized ∙ (λ k. cache_from l 4 4 n' 5 48 (sym one k))

  wn : n * 4 ≤ 4 * (l.C + 1)
  wn = omega (arith, sound.fit.within.cached)

  wm : m * 48 ≤ 48 * (2 * l.C + 1)
  wm = omega (arith, sound.fit.within.cached_rows)

  wn' : n' * 4 ≤ 4 * (l.C + 1)
  wn' = omega (arith, x.count, sound.fit.within.cached)

  wm' : m' * 48 ≤ 48 * (2 * l.C + 1)
  wm' = omega (arith, one, sound.fit.within.cached_rows)

  pub entry_in : i < n'
  entry_in = x.entry

  pub row_in : j < m'
  row_in = omega (arith, x.row, one)

  pair : tables l ys ≡ set (set (tables l xs) 5 (table l 5 ys)) 4 (table l 4 ys)
  pair = frame-pair l 4 5 ((n + 1) * 4) ((m + 1) * 48) xs ys (lit< tt) (lit< tt) (omega arith) (omega (arith, wn, sound.fit.within.cached)) (omega (arith, sound.fit.within.cached_rows)) sound.fit.long e x.only

  -- with the bytes that stood there
  first : cache_in (cached_of store) 4 n' (table l 4 ys) 48 m' (table l 5 ys) ≡ put_in id (cached_of store (held_at r.cache i j ys).own (held_at r.cache i j ys).rest) t (cache_in (cached_of store) 4 n (table l 4 xs) 48 m (table l 5 xs))
  first =
      inserted-in l 4 4 n 5 48 m xs ys (lit< tt) wn (lit< tt) wm n' m' wn' wm' (cached_of store) id t (held_at r.cache i j ys)
      (sym (ap (λ (c : TimeBoundCache). cache_at c ys) sized) ∙ x.cache)

  hn : n' ≤ l.C
  unfolding state_of cached_in
  hn =
      let v : Cached = cached_of store (held_at r.cache i j ys).own (held_at r.cache i j ys).rest in
      omega (
        arith,
        most.entries,
        count-put id t v (message [] round) (state_of h xs).cache,
        sym (count_entries l 4 4 n' 5 48 m' ys (lit< tt) wn' (lit< tt) wm' (cached_of store)) ∙ ap (λ (c : Cache Cached). length c.entries) first,
      )

  hm : m' ≤ 2 * l.C
  unfolding state_of cached_in
  hm =
      let v : Cached = cached_of store (held_at r.cache i j ys).own (held_at r.cache i j ys).rest in
      omega (
        arith,
        most.expiry,
        expiry-put id t v (message [] round) (state_of h xs).cache,
        sym (count-expiry l 4 4 n' 5 48 m' ys (lit< tt) wn' (lit< tt) wm' (cached_of store)) ∙ ap (λ (c : Cache Cached). length c.expiry) first,
      )

  pub fit-in : Fit new_head ys
  fit-in = record { ceilings = sound.fit.ceilings; within = omega (arith, sound.fit.within, hn, hm); long = omega (arith, e, sound.fit.long) }

  lrs : length rs ≡ m
  lrs = length-expiry_rows 48 m (table l 5 xs)

  -- the row that stood there
  abbrev g : ExpiryRow
  g = expiry_row t id (row_at (rows_at r.cache ys) j).rest

  rows-now : cached_rows new_head ys ≡ take j rs ++ (g ∷ drop j rs)
  rows-now =
      sym (rows_in l 4 4 n' 5 48 m' ys (lit< tt) wn' (lit< tt) wm') ∙ sym (ap (λ (c : TimeBoundCache). rows_at c ys) sized)
      ∙ x.rows
      ∙ ap (λ (z : List ExpiryRow). take j z ++ (g ∷ drop j z)) (rows_in l 4 4 n 5 48 m xs (lit< tt) wn (lit< tt) wm)

  pub next_start : (s : ℕ) → s ≡ first_start u (drop (j + 1) (cached_rows new_head ys)) → s ≡ first_start u (drop j rs)
  next_start s es = es ∙ ap (λ (z : List ExpiryRow). first_start u (drop (j + 1) z)) rows-now ∙ ap (first_start u) (drop-gap j g rs (omega (arith, x.row, lrs)))

  pub start-few : (s : ℕ) → s ≡ first_start u (drop j rs) → s ≤ u
  start-few s es = omega (arith, es, chain-ends (chain-drop (chain-of h xs sound) j))

  -- start, length and round are stored
  module _ (s : ℕ) (es : s ≡ first_start u (drop j rs)) (hr : round < 65536) (zs : List ℕ) (emptied : Emptied new_head i j s round ys zs) where
    abbrev bs : List ℕ
    bs = emptied.bytes

    y2 : List ℕ
    y2 = put (place l 5 + (j * 48 + 40)) bs ys

    y3 : List ℕ
    y3 = put (place l 4 + (i * 4 + 2)) (le_bytes 2 round) y2

    x3 : List ℕ
    x3 = put (j * 48 + 40) bs (table l 5 ys)

    e3 : List ℕ
    e3 = put (i * 4 + 2) (le_bytes 2 round) (table l 4 ys)

    chain : RowsAdjoin 0 rs u
    chain = chain-of h xs sound

    long : end l ≤ length ys
    long = fit-in.long

    w40 : j * 48 + 40 + length bs ≤ 48 * (2 * l.C + 1)
    w40 = omega (arith, emptied.long, row_in, hm)

    w2 : i * 4 + 2 + length (le_bytes 2 round) ≤ 4 * (l.C + 1)
    w2 = omega (arith, length-le_bytes 2 round, entry_in, hn)

    l2 : length y2 ≡ length ys
    unfolding y2
    l2 = length-put (place l 5 + (j * 48 + 40)) bs ys (omega (arith, w40, long))

    l3 : length y3 ≡ length ys
    unfolding y2 y3
    l3 = length-put (place l 4 + (i * 4 + 2)) (le_bytes 2 round) y2 (omega (arith, w2, long, l2)) ∙ l2

    tables-2 : tables l y2 ≡ set (tables l ys) 5 x3
    unfolding y2 x3
    tables-2 = frame l 5 (j * 48 + 40) bs ys (lit< tt) w40 long

    four-2 : table l 4 y2 ≡ table l 4 ys
    four-2 = ap (λ (z : List (List ℕ)). get_or z 4 []) tables-2

    tables-3 : tables l y3 ≡ set (set (set (tables l xs) 6 store) 5 x3) 4 e3
    unfolding y2 y3 e3
    tables-3 =
        frame l 4 (i * 4 + 2) (le_bytes 2 round) y2 (lit< tt) w2 (omega (arith, l2, long))
        ∙ (λ k. set (tables-2 k) 4 (put (i * 4 + 2) (le_bytes 2 round) (four-2 k)))
        ∙ ap (λ (z : List (List ℕ)). set (set z 5 x3) 4 e3) pair

    five : table l 5 y3 ≡ x3
    five = ap (λ (z : List (List ℕ)). get_or z 5 []) tables-3

    four : table l 4 y3 ≡ e3
    four = ap (λ (z : List (List ℕ)). get_or z 4 []) tables-3

    -- the entry is the one that was put in
    fit_at : (zs : List ℕ) → length zs ≡ length ys → Fit new_head zs
    fit_at zs q = record { ceilings = fit-in.ceilings; within = fit-in.within; long = omega (arith, q, long) }

    fresh : Fresh (cache_at (cached_cache h) xs) id t c' y3 i j
    unfolding y2 y3
    fresh =
        let f0 : Fresh (cache_at (cached_cache h) xs) id t c' ys i j = subst (λ (c : TimeBoundCache). Fresh (cache_at (cached_cache h) xs) id t c ys i j) sized (fresh_start (cached_cache h) id t xs r ys x) in
        let f2 : Fresh (cache_at (cached_cache h) xs) id t c' y2 i j = fresh-rest (cache_at (cached_cache h) xs) id t c' ys i j f0 (cached-lies new_head ys fit-in) 0 bs (omega (arith, emptied.long)) in
        fresh-own (cache_at (cached_cache h) xs) id t c' y2 i j f2 (cached-lies new_head y2 (fit_at y2 l2)) 0 (le_bytes 2 round) (omega (arith, length-le_bytes 2 round))

    -- the row
    abbrev new : ExpiryRow
    new = with_rest bs g

    lj : length (take j rs) ≡ j
    lj = length-take-le j rs (omega (arith, x.row, lrs))

    new-len : len_of new ≡ 0
    new-len = rest-len bs emptied.long s 0 emptied.holds g

    new-start : start_of new ≡ s
    new-start = rest-start bs emptied.long s 0 emptied.holds g

    rows-3 : expiry_rows 48 m' x3 ≡ take j rs ++ (new ∷ drop j rs)
    unfolding x3
    rows-3 =
        let x1 : List ℕ = table l 5 ys in
        let a1 : row_at (expiry_rows 48 m' x1) j ≡ g = ap (λ (z : List ExpiryRow). row_at z j) rows-now ∙ get_or_at (take j rs) g (drop j rs) no_row j lj in
        rest-stored 48 m' j 0 bs x1 (omega (arith, emptied.long)) row_in (omega (arith, wm', length-table l 5 ys (lit< tt) long))
        ∙ (λ k. put j (with_rest bs (a1 k) ∷ []) (rows-now k))
        ∙ put-gap j g new (take j rs) (drop j rs) lj

    -- what the entry holds
    own-wide : (k : ℕ) (z : List ℕ) → k * 4 ≤ length z → i < k → length (ref_at (refs 4 k z) i).own ≡ 2
    unfolding ref_of
    own-wide k z w q =
        ap (λ (y : Ref). length y.own) (ref-at 4 k i (ref 0 []) z q)
        ∙ length-drop 2 (part (i * 4) 4 z)
        ∙ ap (λ (y : ℕ). y - 2) (length_part (i * 4) 4 z (omega (arith, row-end 4 k i q)))

    own_is : half_at 0 (held_at c' i j y3).own ≡ round
    unfolding half_at e3
    own_is =
        let z : List ℕ = table l 4 ys in
        let lz : length z ≡ 4 * (l.C + 1) = length-table l 4 ys (lit< tt) long in
        let own : List ℕ = (ref_at (refs 4 n' z) i).own in
        let q : refs_at c' y3 ≡ put i (ref (ref_at (refs 4 n' z) i).place (put 0 (le_bytes 2 round) own) ∷ []) (refs 4 n' z) =
        refs-in l 4 4 n' 5 48 m' y3 (lit< tt) wn' (lit< tt) wm' ∙ ap (refs 4 n') four ∙ own-stored 4 n' i 0 (le_bytes 2 round) z (omega (arith, length-le_bytes 2 round)) entry_in (omega (arith, wn', lz)) in
        ap (λ (y : List Ref). le_nat (part 0 2 (ref_at y i).own)) q
        ∙ ap (λ (y : Ref). le_nat (part 0 2 y.own)) (put-get_or-same i (ref (ref_at (refs 4 n' z) i).place (put 0 (le_bytes 2 round) own)) (ref 0 []) (refs 4 n' z) (omega (arith, entry_in, length-refs 4 n' z)))
        ∙ ap le_nat (part-put 0 2 (le_bytes 2 round) own (length-le_bytes 2 round) (omega (arith, own-wide n' z (omega (arith, wn', lz)) entry_in)))
        ∙ le_nat-le_bytes 2 round hr

    rest-is : content_of store (held_at c' i j y3).rest ≡ []
    unfolding content_of
    rest-is =
        let q : row_at (rows_at c' y3) j ≡ new =
        ap (λ (z : List ExpiryRow). row_at z j) (rows_in l 4 4 n' 5 48 m' y3 (lit< tt) wn' (lit< tt) wm' ∙ ap (expiry_rows 48 m') five ∙ rows-3)
        ∙ get_or_at (take j rs) new (drop j rs) no_row j lj in
        ap (λ (z : ExpiryRow). part (start_of z) (len_of z) store) q
        ∙ ap (λ (k : ℕ). part (start_of new) k store) new-len
        ∙ part-zero (start_of new) store

    value-is : cached_of store (held_at c' i j y3).own (held_at c' i j y3).rest ≡ message [] round
    unfolding cached_of
    value-is = λ k. record { content = rest-is k; round = own_is k }

    all : cached_in store n' e3 m' x3 ≡ put_in id (message [] round) t (state_of h xs).cache
    unfolding state_of cached_in
    all =
        (λ k. cache_in (cached_of store) 4 n' (sym four k) 48 m' (sym five k))
        ∙ inserted-in l 4 4 n 5 48 m xs y3 (lit< tt) wn (lit< tt) wm n' m' wn' wm' (cached_of store) id t (held_at c' i j y3) fresh.cache
        ∙ ap (λ (v : Cached). put_in id v t (cache_in (cached_of store) 4 n (table l 4 xs) 48 m (table l 5 xs))) value-is

    pub empty-goes : held (put_in id (message [] round) t (state_of h xs).cache).entries ≡ held (state_of h xs).cache.entries → Becomes (cached_also id [] round t) h xs new_head zs
    unfolding y2 y3 state_of
    empty-goes used =
        let others : Others h (tables l xs) = others-of h (tables l xs) sound.laid in
        let below : Below m' (places (refs 4 n' e3)) = subst (λ (z : List Ref). Below m' (places z)) (refs-in l 4 4 n' 5 48 m' y3 (lit< tt) wn' (lit< tt) wm' ∙ ap (refs 4 n') four) fresh.sound.below in
        subst (λ (z : List ℕ). Becomes (cached_also id [] round t) h xs new_head z) (sym emptied.put)
        (record {
          state = cached-state h xs y3 sound.fit others n' m' u e3 x3 store tables-3 ∙ ap (λ (c : Cache Cached). with_cache c (state_of h xs)) all;
          sound = cached-laid h xs y3 sound.fit others n' m' u e3 x3 store tables-3 (fit_at y3 l3) below
              (subst (λ (z : List ExpiryRow). RowsAdjoin 0 z u) (sym rows-3) (chain-gap j new chain (new-start ∙ es) new-len))
              (ap (λ (c : Cache Cached). held c.entries) all ∙ used ∙ sound.laid.used);
        })
