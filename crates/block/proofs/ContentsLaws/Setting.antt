-- Another content in row p, out of the stores that make it, and what it is to the state.
-- Assumes nothing.
use Rattle.block.proofs.Words.{Option, Some, ◌≡◌, refl, sym, ap, ◌∙◌, subst, true, List, [], ◌∷◌, ◌++◌, ℕ, zero, suc, ◌+◌, ◌-◌, ◌*◌, ◌≤◌, ◌<◌, arith, add-one, lit<, length, take, drop, get_or, set, sum, ascending, Map, Entry, entry, keys, lookup, part, Ascending, Here, Between, length_part, Ref, ref, refs, places, Below, get_or-map-in, Timed, Cache, ExpiryRow, expiry_rows, row_at, entry_of, ref_at, up_of, length-expiry_rows, insert-here, lookup-here, lookup-between, keys-named, rest-stored, Limits, Cached, with_cache}
use lib.ListN.{length-map}
use Rattle.storage.specs.Rows.Part.{put}
use Rattle.time_cache.specs.TimeCache.{value_of, get, with_value, replace}
use Rattle.time_cache.specs.Tables.{named, cache_of}
use Rattle.block.specs.Layout.{place, tables, table}
use Rattle.block.specs.View.{state_of, limits_of, cached_in, cached_of, content_of}
use Rattle.block.specs.Fit.{Fit}
use Rattle.block.specs.Sound.{Sound, held}
use Rattle.block.specs.Becomes.{Becomes}
use Rattle.block.specs.Heads.{with_cached_counts}
use Rattle.block.specs.declared.caches.contents.Extent.{Extent}
use Rattle.block.specs.declared.head.Head.{Head}
use Rattle.block.proofs.Tables.{frame, length-table}
use Rattle.block.specs.Caches.CachedReads.{row_of}
use Rattle.block.specs.Caches.InBlock.{InOrder}
use Rattle.block.proofs.CachesLaws.CacheLaws.{refs-in}
use Rattle.block.specs.Contents.Starts.{start_of, len_of, RowsAdjoin, with_rest, ExtentPut, Along, Above}
use Rattle.block.specs.Contents.CacheSteps.{refill_with, refill, refilled, cached_rows, Others, Shifts, Resized}
use Rattle.block.proofs.ContentsLaws.RowsAdjoin.{chain-at, chain-drop, chain_next, chain-above, rest-start, rest-len, chain-of}
use Rattle.block.proofs.ContentsLaws.Contents.{place-low}
use Rattle.block.proofs.ContentsLaws.Resizing.{no_entry, sum-put, refill-set, rows_then, store_then, chain-then, expiry-then, content-new, content-kept}
use Rattle.block.proofs.ContentsLaws.Closing.{others-of, move-frame, cached-state, cached-fit, cached-laid}

take_row : (p : ℕ) (xs zs : List ExpiryRow) → p < length xs → row_at (take (suc p) xs ++ zs) p ≡ row_at xs p
take_row p [] zs h = absurd (omega arith)
take_row zero (x ∷ xs) zs h = refl
take_row (suc p) (x ∷ xs) zs h = take_row p xs zs (omega arith)

put-row : (p : ℕ) (y : ExpiryRow) (xs zs : List ExpiryRow) → p < length xs → put p (y ∷ []) (take (suc p) xs ++ zs) ≡ take p xs ++ (y ∷ zs)
unfolding put
put-row p y [] zs h = absurd (omega arith)
put-row zero y (x ∷ xs) zs h = refl
put-row (suc p) y (x ∷ xs) zs h = ap (λ (l : List ExpiryRow). x ∷ l) (put-row p y xs zs (omega arith))

-- the bytes of the entries when one has another content
pub held-refill : (content : List ℕ) (c : Cache Cached) (id i : ℕ) → ascending (keys c.entries) ≡ true → Here (keys c.entries) id i
    → held (refill id content c).entries + length (get_or c.entries i no_entry).value.value.content ≡ held c.entries + length content
unfolding get value_of refill_with replace with_value
held-refill content c id i u hd =
    let m : Map (Timed Cached) = c.entries in
    let up : Ascending (keys m) = up_of (keys m) u in
    let t : Timed Cached = (get_or m i no_entry).value in
    let v : Timed Cached = record { expires = t.expires; value = record { content = content; round = t.value.round } } in
    let look : lookup id m ≡ Some t = lookup-here id i no_entry m up hd in
    let one : refill id content c ≡ replace id v.value c = ap (λ (o : Option (Timed Cached)). refill_with id content (value_of o) c) look in
    let two : (replace id v.value c).entries ≡ put i (entry id v ∷ []) m = ap (λ (o : Option (Timed Cached)). with_value id v.value o m) look ∙ insert-here id v i m up hd in
    let f : Entry (Timed Cached) → ℕ = λ e. length e.value.value.content in
    omega (arith, ap (λ (d : Cache Cached). sum f d.entries) one, ap (sum f) two, sum-put f i (entry id v) no_entry m (omega (arith, hd.within, length-map m (λ (e : Entry (Timed Cached)). e.key))))

-- the stores, one after the other
module _ (h : Head) (xs content : List ℕ) (p : ℕ) (sound : Sound h xs) (hp : p < h.live.cached_rows)
    (room : h.live.contents + length content ≤ h.limits.content + len_of (row_at (cached_rows h xs) p)) where
  abbrev l : Limits
  l = limits_of h.limits

  abbrev m : ℕ
  m = h.live.cached_rows

  abbrev u : ℕ
  u = h.live.contents

  abbrev k : ℕ
  k = length content

  abbrev rs : List ExpiryRow
  rs = cached_rows h xs

  abbrev s : List ℕ
  s = table l 6 xs

  abbrev a : ℕ
  a = start_of (row_at rs p)

  abbrev o : ℕ
  o = len_of (row_at rs p)

  count : length rs ≡ m
  count = length-expiry_rows 48 m (table l 5 xs)

  pub chain : RowsAdjoin 0 rs u
  chain = chain-of h xs sound

  pub row_ends : a + o ≤ u
  row_ends = (chain-at chain p (omega (arith, count))).1

  pub small : k ≤ 1048576
  small = omega (arith, room, row_ends, sound.fit.ceilings.B)

  module _ (at len e : ℕ) (ea : at ≡ a) (el : len ≡ o) (ee : e ≡ place l 6) (ws : List ℕ) (moved : ws ≡ put (e + at + k) (part (e + at + len) (u - at - len) xs) xs) (lw : length ws ≡ length xs) where
    abbrev inner : List ℕ
    inner = put (a + k) (part (a + o) (u - a - o) s) s

    tables-1 : tables l ws ≡ set (tables l xs) 6 inner
    tables-1 =
        let z : e + at + k ≡ place l 6 + (a + k) = omega (arith, ee, ea) in
        let y : e + at + len ≡ place l 6 + (a + o) = omega (arith, ee, ea, el) in
        let w : u - at - len ≡ u - a - o = omega (arith, ea, el) in
        ap (tables l) (moved ∙ (λ j. put (z j) (part (y j) (w j) xs) xs))
        ∙ move-frame l (a + k) (a + o) (u - a - o) xs (omega (arith, row_ends, room)) (omega (arith, row_ends, sound.fit.within.contents)) sound.fit.long

    rows-1 : cached_rows h ws ≡ rs
    rows-1 = ap (λ (t : List (List ℕ)). expiry_rows 48 m (get_or t 5 [])) tables-1

    pub fit-1 : Fit h ws
    fit-1 = record { ceilings = sound.fit.ceilings; within = sound.fit.within; long = omega (arith, lw, sound.fit.long) }

    pub above-1 : Above k len (drop (p + 1) (cached_rows h ws))
    above-1 =
        let q : suc p ≡ p + 1 = sym (add-one p) in
        subst (λ (r : List ExpiryRow). Above k len (drop (p + 1) r)) (sym rows-1)
        (subst (λ (j : ℕ). Above k len (drop j rs)) q (chain-above k len (chain-drop chain (suc p)) (omega (arith, el, chain_next chain p (omega (arith, count)))) (omega (arith, small, sound.fit.within.contents, sound.fit.ceilings.B))))

    module _ (vs : List ℕ) (sh : Shifts h (p + 1) k len ws vs) (lv : length vs ≡ length ws) (ts : List ℕ) (wrote : ts ≡ put (e + at) content vs) (lt : length ts ≡ length vs)
        (x : Extent) (xa : x.start ≡ at) (xk : x.len ≡ k) (ys : List ℕ) (stored : ExtentPut (place l 5 + (p * 48 + 40)) x ts ys) (ly : length ys ≡ length ts) where
      abbrev bs : List ℕ
      bs = stored.bytes

      six-2 : table l 6 vs ≡ inner
      six-2 = ap (λ (t : List (List ℕ)). get_or t 6 []) (sh.tables ∙ ap (λ (t : List (List ℕ)). set t 5 (table l 5 vs)) tables-1)

      tables-2 : tables l vs ≡ set (set (tables l xs) 6 inner) 5 (table l 5 vs)
      tables-2 = sh.tables ∙ ap (λ (t : List (List ℕ)). set t 5 (table l 5 vs)) tables-1

      tables-3 : tables l ts ≡ set (set (tables l xs) 6 (put a content inner)) 5 (table l 5 vs)
      tables-3 =
          let z : e + at ≡ place l 6 + a = omega (arith, ee, ea) in
          ap (tables l) (wrote ∙ (λ j. put (z j) content vs))
          ∙ frame l 6 a content vs (lit< tt) (omega (arith, row_ends, room)) (omega (arith, lv, lw, sound.fit.long))
          ∙ (λ j. set (tables-2 j) 6 (put a content (six-2 j)))

      five-3 : table l 5 ts ≡ table l 5 vs
      five-3 = ap (λ (t : List (List ℕ)). get_or t 5 []) tables-3

      tables-4 : tables l ys ≡ set (set (tables l xs) 6 (put a content inner)) 5 (put (p * 48 + 40) bs (table l 5 vs))
      tables-4 =
          ap (tables l) stored.put
          ∙ frame l 5 (p * 48 + 40) bs ts (lit< tt) (omega (arith, stored.long, hp, sound.fit.within.cached_rows)) (omega (arith, lt, lv, lw, sound.fit.long))
          ∙ (λ j. set (tables-3 j) 5 (put (p * 48 + 40) bs (five-3 j)))

      pub resized : Resized h p content xs (with_cached_counts h.live.cached m (u - len + k) h) ys
      resized =
          let q : p + 1 ≡ suc p = add-one p in
          let rows-2 : cached_rows h vs ≡ take (suc p) rs ++ sh.later = sh.rows ∙ (λ j. take (q j) (rows-1 j) ++ sh.later) in
          let five-4 : table l 5 ys ≡ put (p * 48 + 40) bs (table l 5 vs) = ap (λ (t : List (List ℕ)). get_or t 5 []) tables-4 in
          let six-4 : table l 6 ys ≡ put a content inner = ap (λ (t : List (List ℕ)). get_or t 6 []) tables-4 in
          let room-5 : m * 48 ≤ length (table l 5 vs) = omega (arith, length-table l 5 vs (lit< tt) (omega (arith, lv, lw, sound.fit.long)), sound.fit.within.cached_rows) in
          let x-2 : row_at (cached_rows h vs) p ≡ row_at rs p = ap (λ (r : List ExpiryRow). row_at r p) rows-2 ∙ take_row p rs sh.later (omega (arith, count)) in
          record {
            head = ap (λ (j : ℕ). with_cached_counts h.live.cached m (u - j + k) h) el;
            row = with_rest bs (row_at rs p);
            expiry = refl;
            start = rest-start bs stored.long x.start x.len stored.holds (row_at rs p) ∙ xa ∙ ea;
            len = rest-len bs stored.long x.start x.len stored.holds (row_at rs p) ∙ xk;
            later = sh.later;
            along = subst (λ (r : List ExpiryRow). Along k o (drop (p + 1) r) sh.later) rows-1 (subst (λ (j : ℕ). Along k j (drop (p + 1) (cached_rows h ws)) sh.later) el sh.along);
            rows =
                ap (expiry_rows 48 m) five-4
                ∙ rest-stored 48 m p 0 bs (table l 5 vs) (omega (arith, stored.long)) hp room-5
                ∙ (λ j. put p (with_rest bs (x-2 j) ∷ []) (rows-2 j))
                ∙ put-row p (with_rest bs (row_at rs p)) rs sh.later (omega (arith, count));
            store = six-4;
            tables = tables-4 ∙ (λ j. set (set (tables l xs) 6 (sym six-4 j)) 5 (sym five-4 j));
            long = ly ∙ lt ∙ lv ∙ lw;
          }

-- what it is to the state
module _ (h : Head) (xs content : List ℕ) (id i : ℕ) (sound : Sound h xs) (order : InOrder (state_of h xs).cache) (hd : Here (keys (state_of h xs).cache.entries) id i)
    (within : held (refill id content (state_of h xs).cache).entries ≤ (state_of h xs).limits.B) where
  abbrev lim : Limits
  lim = limits_of h.limits

  abbrev nc : ℕ
  nc = h.live.cached

  abbrev mc : ℕ
  mc = h.live.cached_rows

  abbrev uc : ℕ
  uc = h.live.contents

  abbrev store : List ℕ
  store = table lim 6 xs

  abbrev es : List Ref
  es = refs 4 nc (table lim 4 xs)

  abbrev rows : List ExpiryRow
  rows = cached_rows h xs

  abbrev row : ℕ
  row = row_of h xs i

  here : Here (keys (cache_of (cached_of store) es rows).entries) id i
  unfolding state_of cached_in
  here = hd

  keys-es : keys (cache_of (cached_of store) es rows).entries ≡ named rows es
  keys-es = keys-named (cached_of store) es rows

  up : Ascending (named rows es)
  unfolding state_of cached_in
  up = up_of (named rows es) (ap ascending (sym keys-es) ∙ order.up)

  low : i < length es
  unfolding named
  low = omega (arith, here.within, ap length keys-es, length-map es (λ (r : Ref). (row_at rows r.place).key))

  lrows : length rows ≡ mc
  lrows = length-expiry_rows 48 mc (table lim 5 xs)

  names : (get_or es i (ref 0 [])).place ≡ row
  names = sym (ap (λ (z : List Ref). (ref_at z i).place) (refs-in lim 4 4 nc 5 48 mc xs (lit< tt) (omega (arith, sound.fit.within.cached)) (lit< tt) (omega (arith, sound.fit.within.cached_rows))))

  below : Below (length rows) (places es)
  below = subst (λ (j : ℕ). Below j (places es)) (sym lrows) sound.laid.cached

  pub row_low : row < mc
  row_low = omega (arith, names, place-low (length rows) es below i low, lrows)

  chained : RowsAdjoin 0 rows uc
  chained = chain-of h xs sound

  long : length store ≡ lim.B
  long = length-table lim 6 xs (lit< tt) sound.fit.long

  -- the old content is as long as the row says
  old-long : length (content_of store (row_at rows row).rest) ≡ len_of (row_at rows row)
  unfolding content_of
  old-long = length_part (start_of (row_at rows row)) (len_of (row_at rows row)) store (omega (arith, (chain-at chained row (omega (arith, row_low, lrows))).1, long, sound.fit.within.contents))

  old-at : length (get_or (state_of h xs).cache.entries i no_entry).value.value.content ≡ len_of (row_at rows row)
  unfolding state_of cached_in cache_of cached_of
  old-at =
      ap (λ (e : Entry (Timed Cached)). length e.value.value.content) (get_or-map-in (entry_of (cached_of store) rows) es i no_entry (ref 0 []) low)
      ∙ ap (λ (q : ℕ). length (content_of store (row_at rows q).rest)) names
      ∙ old-long

  room-in : held (refill id content (state_of h xs).cache).entries ≤ h.limits.content
  unfolding state_of
  room-in = within

  pub set_room : uc + length content ≤ h.limits.content + len_of (row_at rows row)
  set_room =
      let u : held (state_of h xs).cache.entries ≡ uc = unfold state_of in sound.laid.used in
      omega (arith, held-refill content (state_of h xs).cache id i order.up hd, room-in, old-at, u)

  pub set-goes : (r : Head) (ys : List ℕ) → Resized h row content xs r ys → Becomes (refilled id content) h xs r ys
  unfolding state_of cached_in cache_of
  set-goes r ys z =
      let p : ℕ = row in
      let hp : p < length rows = omega (arith, row_low, lrows) in
      let q : p + 1 ≡ suc p = add-one p in
      let len : ℕ = len_of (row_at rows p) in
      let e : ℕ = uc - len + length content in
      let along : Along (length content) len (drop (suc p) rows) z.later = subst (λ (j : ℕ). Along (length content) len (drop j rows) z.later) q z.along in
      let room : uc + length content ≤ length store + len = omega (arith, set_room, long) in
      let us : uc ≤ length store = omega (arith, long, sound.fit.within.contents) in
      let ends : len ≤ uc = omega (arith, (chain-at chained p hp).1) in
      let rows-now : cached_rows h ys ≡ rows_then store content rows uc p chained hp room us z.row z.later z.expiry z.start z.len along = z.rows in
      let x : List ℕ = table lim 5 ys in
      let t : List ℕ = table lim 6 ys in
      let others : Others h (tables lim xs) = others-of h (tables lim xs) sound.laid in
      let framed : tables lim ys ≡ set (set (set (tables lim xs) 6 t) 5 x) 4 (table lim 4 xs) = z.tables in
      let ex = expiry-then store content rows uc p chained hp room us z.row z.later z.expiry z.start z.len along in
      let kept = content-kept store content rows uc p chained hp room us z.row z.later z.expiry z.start z.len along in
      let new = content-new store content rows uc p chained hp room us z.row z.later z.expiry z.start z.len along in
      let all : cached_in t nc (table lim 4 xs) mc x ≡ refill id content (state_of h xs).cache =
      (λ j. cache_of (cached_of (z.store j)) es (rows-now j))
      ∙ refill-set store (store_then store content rows uc p chained hp room us z.row z.later z.expiry z.start z.len along) rows (rows_then store content rows uc p chained hp room us z.row z.later z.expiry z.start z.len along) es i p content low names up below ex kept new id here in
      let used : held (cached_in t nc (table lim 4 xs) mc x).entries ≡ e =
      omega (arith, ap (λ (c : Cache Cached). held c.entries) all, held-refill content (state_of h xs).cache id i order.up hd, old-at, ends, sound.laid.used) in
      subst (λ (g : Head). Becomes (refilled id content) h xs g ys) (sym z.head)
      (record {
        state =
            cached-state h xs ys sound.fit others nc mc e (table lim 4 xs) x t framed
            ∙ ap (λ (c : Cache Cached). with_cache c (state_of h xs)) all;
        sound =
            cached-laid h xs ys sound.fit others nc mc e (table lim 4 xs) x t framed
            (cached-fit h xs ys sound.fit others nc mc e (table lim 4 xs) x t framed z.long sound.fit.within.cached sound.fit.within.cached_rows (omega (arith, set_room, ends)))
            sound.laid.cached
            (subst (λ (r : List ExpiryRow). RowsAdjoin 0 r e) (sym rows-now) (chain-then store content rows uc p chained hp room us z.row z.later z.expiry z.start z.len along e (omega (arith, ends))))
            used;
      })

-- a message that is not cached
pub refill-none : (h : Head) (xs content : List ℕ) (id i : ℕ) → Sound h xs → Between (keys (state_of h xs).cache.entries) id i → Becomes (refilled id content) h xs h xs
unfolding get value_of refill_with
refill-none h xs content id i sound b = record {
  state = sym (ap (λ (o : Option (Timed Cached)). with_cache (refill_with id content (value_of o) (state_of h xs).cache) (state_of h xs)) (lookup-between id i (state_of h xs).cache.entries b));
  sound = sound;
}
