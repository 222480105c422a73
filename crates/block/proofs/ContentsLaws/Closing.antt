-- `expire_until` of the message cache: what the two tables leave to do, and the contents moved to the front of their table.
-- Assumes nothing.
use Rattle.block.proofs.Words.{◌≡◌, refl, sym, ap, ◌∙◌, subst, true, List, [], ℕ, ◌+◌, ◌-◌, ◌*◌, ◌≤◌, ◌<◌, arith, lit<, length, drop, get_or, set, ascending, part, put, rows, length_part, Ref, refs, places, Below, Cache, expire_until, ExpiryRow, row_at, named, cache_of, cache_at, refs_at, rows_at, Expires, TimeBoundCache, length-expiry_rows, keys-named, Limits, Cached, with_cache}
use Rattle.std.proofs.Common.{length-drop}
use Rattle.storage.specs.Refs.Refs.{left}
use Rattle.time_cache.specs.Tables.{expiry_rows}
use Rattle.time_cache.specs.declared.cache.Expired.{Expired}
use Rattle.block.specs.Layout.{place, tables, table, end}
use Rattle.block.specs.View.{state_of, view_of, limits_of, cached_in, cached_of}
use Rattle.block.specs.Fit.{Fit}
use Rattle.block.specs.Sound.{Laid, Sound, held}
use Rattle.block.specs.Becomes.{Becomes}
use Rattle.block.specs.Heads.{with_cached_counts}
use Rattle.block.specs.declared.head.Head.{Head}
use Rattle.block.proofs.Tables.{frame, length-table}
use Rattle.block.proofs.RowLaws.{part_in}
use Rattle.block.specs.TimeCaches.{cache_from, cached_cache}
use Rattle.block.specs.Caches.InBlock.{InOrder}
use Rattle.block.proofs.CachesLaws.CacheLaws.{refs-in, rows_in, frame-pair, expired-in}
use Rattle.block.specs.Contents.Starts.{start_of, len_of, first_start, RowsAdjoin, Along, Above}
use Rattle.block.specs.Contents.CacheSteps.{cached_left, Others, Ahead, Shifts}
use Rattle.block.proofs.ContentsLaws.RowsAdjoin.{along-at, chain-along, chain-at, chain-ends, chain-drop, chain-above, to-adjoin, chain-of}
use Rattle.block.proofs.ContentsLaws.Contents.{part_moved, cache-same, left-held}

-- the other tables, out of what is asked of all
pub others-of : (h : Head) (t : List (List ℕ)) → Laid h t → Others h t
others-of h t l = record { received = l.received; grafted = l.grafted; grafts = l.grafts; missing = l.missing; queue = l.queue; dropped = l.dropped }

-- a move within the contents, as tables
pub move-frame : (l : Limits) (to from n : ℕ) (xs : List ℕ) → to + n ≤ l.B → from + n ≤ l.B → end l ≤ length xs
    → tables l (put (place l 6 + to) (part (place l 6 + from) n xs) xs) ≡ set (tables l xs) 6 (put to (part from n (table l 6 xs)) (table l 6 xs))
move-frame l to from n xs ht hf long =
    frame l 6 to (part (place l 6 + from) n xs) xs (lit< tt) (omega (arith, length_part (place l 6 + from) n xs (omega arith))) long
    ∙ ap (λ (zs : List ℕ). set (tables l xs) 6 (put to zs (table l 6 xs))) (sym (part_in l 6 from n xs (lit< tt) hf))

-- other rows and contents
module _ (h : Head) (xs ys : List ℕ) (fit : Fit h xs) (others : Others h (tables (limits_of h.limits) xs)) (n m u : ℕ) (e x s : List ℕ) where
  abbrev lim : Limits
  lim = limits_of h.limits

  abbrev new : Head
  new = with_cached_counts n m u h

  module _ (framed : tables lim ys ≡ set (set (set (tables lim xs) 6 s) 5 x) 4 e) where
    pub cached-state : state_of new ys ≡ with_cache (cached_in s n e m x) (state_of h xs)
    unfolding state_of
    cached-state = ap (view_of new) framed

    pub cached-fit : length ys ≡ length xs → n ≤ lim.C → m ≤ 2 * lim.C → u ≤ lim.B → Fit new ys
    cached-fit len hn hm hu = record { ceilings = fit.ceilings; within = omega (arith, fit.within); long = omega (arith, len, fit.long) }

    pub cached-others : Others new (tables lim ys)
    cached-others = subst (Others new) (sym framed) (record { received = others.received; grafted = others.grafted; grafts = others.grafts; missing = others.missing; queue = others.queue; dropped = others.dropped })

    pub cached-laid : Fit new ys → Below m (places (refs 4 n e)) → RowsAdjoin 0 (expiry_rows 48 m x) u → held (cached_in s n e m x).entries ≡ u → Sound new ys
    unfolding expiry_rows
    cached-laid f b c t = record {
      fit = f;
      laid = subst (Laid new) (sym framed) (record {
        received = others.received;
        cached = b;
        grafted = others.grafted;
        contents = to-adjoin 0 u (rows 48 m x) c;
        used = t;
        grafts = others.grafts;
        missing = others.missing;
        queue = others.queue;
        dropped = others.dropped;
      });
    }

-- the contents moved to the front
module _ (h : Head) (xs : List ℕ) (ahead : Ahead h xs) where
  abbrev l : Limits
  l = limits_of h.limits

  abbrev n : ℕ
  n = h.live.cached

  abbrev m : ℕ
  m = h.live.cached_rows

  abbrev u : ℕ
  u = h.live.contents

  abbrev s : List ℕ
  s = table l 6 xs

  abbrev rs : List ExpiryRow
  rs = expiry_rows 48 m (table l 5 xs)

  abbrev a : ℕ
  a = first_start u rs

  pub close-low : a ≤ u
  close-low = chain-ends ahead.chain

  long : length s ≡ l.B
  long = length-table l 6 xs (lit< tt) ahead.fit.long

  count : length rs ≡ m
  count = length-expiry_rows 48 m (table l 5 xs)

  named-rows : Below (length rs) (places (refs 4 n (table l 4 xs)))
  named-rows = subst (λ (k : ℕ). Below k (places (refs 4 n (table l 4 xs)))) (sym count) ahead.places

  pub close-still : a ≡ 0 → Becomes (λ t. t) h xs h xs
  close-still e = record {
    state = refl;
    sound = cached-laid h xs xs ahead.fit ahead.others n m u (table l 4 xs) (table l 5 xs) s refl ahead.fit ahead.places
        (subst (λ (b : ℕ). RowsAdjoin b rs u) e ahead.chain) (omega (arith, e, ahead.used));
  }

  module _ (ys : List ℕ) (len : length ys ≡ length xs)
      (framed : tables l ys ≡ set (set (tables l xs) 6 (put 0 (part a (u - a) s) s)) 5 (table l 5 ys))
      (along : Along 0 a rs (expiry_rows 48 m (table l 5 ys))) where
    within : u ≤ l.B
    within = ahead.fit.within.contents

    moves : (p : ℕ) → p < length rs → part (start_of (row_at (expiry_rows 48 m (table l 5 ys)) p)) (len_of (row_at rs p)) (put 0 (part a (u - a) s) s) ≡ part (start_of (row_at rs p)) (len_of (row_at rs p)) s
    moves p hp =
        let b : ℕ = start_of (row_at (expiry_rows 48 m (table l 5 ys)) p) in
        let k : ℕ = len_of (row_at rs p) in
        let at = along-at along p hp in
        let c = chain-at ahead.chain p hp in
        let z : b ≡ 0 + b = omega arith in
        let t : a + b ≡ start_of (row_at rs p) = omega (arith, at.2) in
        ap (λ (q : ℕ). part q k (put 0 (part a (u - a) s) s)) z
        ∙ part_moved 0 a (u - a) b k s (omega (arith, t, c.1)) (omega (arith, close-low, within, long)) (omega (arith, close-low, within, long))
        ∙ ap (λ (q : ℕ). part q k s) t

    same : cached_in (put 0 (part a (u - a) s) s) n (table l 4 xs) m (table l 5 ys) ≡ cached_in s n (table l 4 xs) m (table l 5 xs)
    unfolding cached_in
    same = cache-same s (put 0 (part a (u - a) s) s) along moves (refs 4 n (table l 4 xs)) named-rows

    pub close-goes : Becomes (λ t. t) h xs (with_cached_counts n m (u - a) h) ys
    unfolding state_of
    close-goes = record {
      state =
          cached-state h xs ys ahead.fit ahead.others n m (u - a) (table l 4 xs) (table l 5 ys) (put 0 (part a (u - a) s) s) framed
          ∙ ap (λ (c : Cache Cached). with_cache c (state_of h xs)) same;
      sound = cached-laid h xs ys ahead.fit ahead.others n m (u - a) (table l 4 xs) (table l 5 ys) (put 0 (part a (u - a) s) s) framed
          (cached-fit h xs ys ahead.fit ahead.others n m (u - a) (table l 4 xs) (table l 5 ys) (put 0 (part a (u - a) s) s) framed len ahead.fit.within.cached ahead.fit.within.cached_rows (omega (arith, within)))
          ahead.places (chain-along 0 (u - a) along ahead.chain (omega arith) (omega (arith, close-low)))
          (ap (λ (c : Cache Cached). held c.entries) same ∙ omega (arith, ahead.used));
    }

  -- the move, and then the starts
  module _ (r e : ℕ) (ws : List ℕ) (er : r ≡ a) (ee : e ≡ place l 6) (moved : ws ≡ put e (part (e + r) (u - r) xs) xs) (len : length ws ≡ length xs) where
    tables-moved : tables l ws ≡ set (tables l xs) 6 (put 0 (part a (u - a) s) s)
    tables-moved =
        let z : e ≡ place l 6 + 0 = omega (arith, ee) in
        let y : e + r ≡ place l 6 + a = omega (arith, ee, er) in
        let w : u - r ≡ u - a = omega (arith, er) in
        ap (tables l) (moved ∙ (λ k. put (z k) (part (y k) (w k) xs) xs))
        ∙ move-frame l 0 a (u - a) xs (omega (arith, ahead.fit.within.contents)) (omega (arith, ahead.fit.within.contents, close-low)) ahead.fit.long

    rows-kept : expiry_rows 48 m (table l 5 ws) ≡ rs
    rows-kept = ap (λ (t : List (List ℕ)). expiry_rows 48 m (get_or t 5 [])) tables-moved

    pub close-fit : Fit h ws
    close-fit = record { ceilings = ahead.fit.ceilings; within = ahead.fit.within; long = omega (arith, len, ahead.fit.long) }

    pub close-above : Above 0 r (drop 0 (expiry_rows 48 m (table l 5 ws)))
    close-above = subst (Above 0 r) (sym rows-kept) (chain-above 0 r ahead.chain (omega (arith, er)) (omega (arith, ahead.fit.within.contents, ahead.fit.ceilings.B)))

    pub close-shifts : (ys : List ℕ) → length ys ≡ length ws → Shifts h 0 0 r ws ys → Becomes (λ t. t) h xs (with_cached_counts n m (u - r) h) ys
    close-shifts ys ly sh =
        let w : u - a ≡ u - r = omega (arith, er) in
        subst (λ (k : ℕ). Becomes (λ t. t) h xs (with_cached_counts n m k h) ys) w
        (close-goes ys (ly ∙ len)
        (sh.tables ∙ ap (λ (t : List (List ℕ)). set t 5 (table l 5 ys)) tables-moved)
        (subst (λ (z : List ExpiryRow). Along 0 a z (expiry_rows 48 m (table l 5 ys))) rows-kept
        (subst (Along 0 a (expiry_rows 48 m (table l 5 ws))) (sym sh.rows) (subst (λ (k : ℕ). Along 0 k (expiry_rows 48 m (table l 5 ws)) sh.later) er sh.along))))

-- what `expire_until` of the two tables leaves
pub record ExpiredAhead (h : Head) (xs : List ℕ) (t : ℕ) (g : Head) (ys : List ℕ) : Type 0 where
  pub state : state_of g ys ≡ cached_left t (state_of h xs)
  pub ahead : Ahead g ys

pub expired-ahead : (h : Head) (xs ys : List ℕ) (instant : ℕ) (r : Expired) → Sound h xs → InOrder (state_of h xs).cache → length ys ≡ length xs → Expires (cached_cache h) instant xs r ys
    → ExpiredAhead h xs instant (with_cached_counts r.cache.entries.len r.cache.expiry.len h.live.contents h) ys
unfolding cached_in state_of
expired-ahead h xs ys instant r sound o e x =
    let l : Limits = limits_of h.limits in
    let n : ℕ = h.live.cached in
    let m : ℕ = h.live.cached_rows in
    let u : ℕ = h.live.contents in
    let n' : ℕ = r.cache.entries.len in
    let m' : ℕ = r.cache.expiry.len in
    let d : ℕ = m - m' in
    let store : List ℕ = table l 6 xs in
    let others : Others h (tables l xs) = others-of h (tables l xs) sound.laid in
    let hn : n' ≤ l.C = omega (arith, x.count, sound.fit.within.cached) in
    let hm : m' ≤ 2 * l.C = omega (arith, x.fewer, sound.fit.within.cached_rows) in
    let wn : n * 4 ≤ 4 * (l.C + 1) = omega (arith, sound.fit.within.cached) in
    let wm : m * 48 ≤ 48 * (2 * l.C + 1) = omega (arith, sound.fit.within.cached_rows) in
    let wn' : n' * 4 ≤ 4 * (l.C + 1) = omega arith in
    let wm' : m' * 48 ≤ 48 * (2 * l.C + 1) = omega arith in
    let pair : tables l ys ≡ set (set (tables l xs) 5 (table l 5 ys)) 4 (table l 4 ys) = frame-pair l 4 5 (n * 4) (m * 48) xs ys (lit< tt) (lit< tt) (omega arith) wn wm sound.fit.long e x.only in
    let framed : tables l ys ≡ set (set (set (tables l xs) 6 store) 5 (table l 5 ys)) 4 (table l 4 ys) = pair in
    let six : table l 6 ys ≡ store = ap (λ (t : List (List ℕ)). get_or t 6 []) pair in
    let c' : TimeBoundCache = cache_from l 4 4 n' 5 48 m' in
    let at : cache_at c' ys ≡ expire_until instant (cache_at (cached_cache h) xs) = sym (ap (λ (c : TimeBoundCache). cache_at c ys) x.sized) ∙ x.cache in
    let es : List Ref = refs 4 n (table l 4 xs) in
    let rs : List ExpiryRow = expiry_rows 48 m (table l 5 xs) in
    let es' : refs 4 n' (table l 4 ys) ≡ left d es =
    sym (refs-in l 4 4 n' 5 48 m' ys (lit< tt) wn' (lit< tt) wm') ∙ sym (ap (λ (c : TimeBoundCache). refs_at c ys) x.sized) ∙ x.refs ∙ ap (left d) (refs-in l 4 4 n 5 48 m xs (lit< tt) wn (lit< tt) wm) in
    let rs' : expiry_rows 48 m' (table l 5 ys) ≡ drop d rs =
    sym (rows_in l 4 4 n' 5 48 m' ys (lit< tt) wn' (lit< tt) wm') ∙ sym (ap (λ (c : TimeBoundCache). rows_at c ys) x.sized) ∙ x.rows ∙ ap (drop d) (rows_in l 4 4 n 5 48 m xs (lit< tt) wn (lit< tt) wm) in
    let below : Below m' (places (refs 4 n' (table l 4 ys))) =
    subst (λ (z : List Ref). Below m' (places z)) (ap (λ (c : TimeBoundCache). refs_at c ys) x.sized ∙ refs-in l 4 4 n' 5 48 m' ys (lit< tt) wn' (lit< tt) wm')
    x.sound.below in
    let chain : RowsAdjoin 0 rs u = chain-of h xs sound in
    let lrs : length rs ≡ m = length-expiry_rows 48 m (table l 5 xs) in
    let up : ascending (named rs es) ≡ true =
    ap ascending (sym (keys-named (cached_of store) es rs)) ∙ o.up in
    let ld : length (drop d rs) ≡ m' = length-drop d rs ∙ omega (arith, lrs, x.fewer) in
    let bd : Below (length (drop d rs)) (places (left d es)) = subst (λ (z : List Ref). Below (length (drop d rs)) (places z)) es' (subst (λ (k : ℕ). Below k (places (refs 4 n' (table l 4 ys)))) (sym ld) below) in
    let bl : Below (length rs) (places es) = subst (λ (k : ℕ). Below k (places es)) (sym lrs) sound.laid.cached in
    let room : u ≤ length store = omega (arith, length-table l 6 xs (lit< tt) sound.fit.long, sound.fit.within.contents) in
    let used : first_start u (drop d rs) + held (cache_of (cached_of store) (left d es) (drop d rs)).entries ≡ u = left-held store chain room es bl up sound.laid.used d bd in
    record {
      state =
          cached-state h xs ys sound.fit others n' m' u (table l 4 ys) (table l 5 ys) store framed
          ∙ ap (λ (c : Cache Cached). with_cache c (state_of h xs))
          (expired-in l 4 4 n 5 48 m xs ys (lit< tt) wn (lit< tt) wm n' m' wn' wm' (cached_of store) instant at);
      ahead = record {
        fit = cached-fit h xs ys sound.fit others n' m' u (table l 4 ys) (table l 5 ys) store framed e hn hm sound.fit.within.contents;
        others = cached-others h xs ys sound.fit others n' m' u (table l 4 ys) (table l 5 ys) store framed;
        places = below;
        chain = subst (λ (z : List ExpiryRow). RowsAdjoin (first_start u z) z u) (sym rs') (chain-drop chain d);
        used = (λ k. first_start u (rs' k) + held (cache_of (cached_of (six k)) (es' k) (rs' k)).entries) ∙ used;
      };
    }
