-- The received messages: their tables, and what an insert and `expire_until` do to the state.
-- Assumes nothing.
use Rattle.block.proofs.Words.{◌≡◌, sym, ap, ◌∙◌, subst, List, ℕ, ◌+◌, ◌*◌, ◌≤◌, arith, lit<, length, set, Ref, places, Below, Cache, expire_until, cache_at, Lies, FitsOneMore, OnlyTwo, values_as, held_at, Inserts, Expires, TimeBoundCache, Limits, with_received}
use Rattle.time_cache.specs.TimeCache.{put as put_in}
use Rattle.time_cache.specs.Tables.{Sound as SoundCache}
use Rattle.time_cache.specs.declared.cache.Inserted.{Inserted}
use Rattle.time_cache.specs.declared.cache.Expired.{Expired}
use Rattle.block.specs.Layout.{place, tables, table}
use Rattle.block.specs.View.{state_of, view_of, limits_of, received_in, nothing_of}
use Rattle.block.specs.Fit.{Fit}
use Rattle.block.specs.Sound.{Laid, Sound}
use Rattle.block.specs.Becomes.{Becomes}
use Rattle.block.specs.Heads.{with_received_counts}
use Rattle.block.specs.declared.head.Head.{Head}
use Rattle.block.specs.TimeCaches.{cache_from, received_cache}
use Rattle.block.specs.Caches.InBlock.{InOrder, AtMost, received_also, received_left}
use Rattle.block.specs.Caches.Standing.{StandsIn}
use Rattle.block.proofs.CachesLaws.CacheLaws.{as_value, cache-in, sound-in, refs-in, count_entries, count-expiry, frame-pair, expired-in, inserted-in}

module _ (h : Head) (xs : List ℕ) (fit : Fit h xs) where
  abbrev l : Limits
  l = limits_of h.limits

  abbrev n : ℕ
  n = h.live.received

  abbrev m : ℕ
  m = h.live.received_rows

  pub received-lies : Lies (received_cache h) xs
  received-lies = record { entry_wide = omega arith; expiry_wide = omega arith; apart = omega arith; within = omega arith; few = omega arith }

  pub received-room : FitsOneMore (received_cache h) xs
  received-room = record { entry_wide = omega arith; expiry_wide = omega arith; apart = omega arith; within = omega arith; few = omega arith }

  received_as : values_as (as_value nothing_of) (cache_at (received_cache h) xs) ≡ (state_of h xs).received
  unfolding state_of received_in
  received_as = cache-in l 2 2 n 3 40 m xs (lit< tt) (omega arith) (lit< tt) (omega arith) nothing_of

  pub count-received : length (state_of h xs).received.entries ≡ n
  unfolding state_of received_in
  count-received = count_entries l 2 2 n 3 40 m xs (lit< tt) (omega arith) (lit< tt) (omega arith) nothing_of

  pub count-received-rows : length (state_of h xs).received.expiry ≡ m
  unfolding state_of received_in
  count-received-rows = count-expiry l 2 2 n 3 40 m xs (lit< tt) (omega arith) (lit< tt) (omega arith) nothing_of

pub received-sound : (h : Head) (xs : List ℕ) → Sound h xs → InOrder (state_of h xs).received → SoundCache (received_cache h) xs
unfolding state_of received_in
received-sound h xs sound o =
    sound-in (limits_of h.limits) 2 2 h.live.received 3 40 h.live.received_rows xs (lit< tt) (omega (arith, sound.fit)) (lit< tt) (omega (arith, sound.fit)) nothing_of sound.laid.received o

-- the tables hold the state's cache
pub received_stands : (t : TimeBoundCache) (h : Head) (xs : List ℕ) → t ≡ received_cache h → Sound h xs → StandsIn t xs (state_of h xs).received
received_stands t h xs e s =
    subst (λ (u : TimeBoundCache). StandsIn u xs (state_of h xs).received) (sym e) (record { lies = received-lies h xs s.fit; room = received-room h xs s.fit; value = as_value nothing_of; same = received_as h xs s.fit; sound = received-sound h xs s })

-- other rows in the two tables
module _ (h : Head) (xs ys : List ℕ) (sound : Sound h xs) (n' m' k g : ℕ) where
  abbrev lim : Limits
  lim = limits_of h.limits

  abbrev new : Head
  new = with_received_counts n' m' h

  module _ (hk : k ≤ 2 * (lim.R + 1)) (hg : g ≤ 40 * (2 * lim.R + 1)) (e : length ys ≡ length xs) (o : OnlyTwo (place lim 2) k (place lim 3) g xs ys) where
    framed : tables lim ys ≡ set (set (tables lim xs) 3 (table lim 3 ys)) 2 (table lim 2 ys)
    framed = frame-pair lim 2 3 k g xs ys (lit< tt) (lit< tt) (omega arith) hk hg sound.fit.long e o

    pub received-state : state_of new ys ≡ with_received (received_in n' (table lim 2 ys) m' (table lim 3 ys)) (state_of h xs)
    unfolding state_of
    received-state = ap (view_of new) framed

    pub received-laid : n' ≤ lim.R → m' ≤ 2 * lim.R → SoundCache (received_cache new) ys → Sound new ys
    received-laid hn hm s = record {
      fit = record { ceilings = sound.fit.ceilings; within = omega (arith, sound.fit.within); long = omega (arith, e, sound.fit.long) };
      laid = subst (Laid new) (sym framed) (record {
        received = subst (λ (es : List Ref). Below m' (places es)) (refs-in lim 2 2 n' 3 40 m' ys (lit< tt) (omega arith) (lit< tt) (omega arith)) s.below;
        cached = sound.laid.cached;
        grafted = sound.laid.grafted;
        contents = sound.laid.contents;
        used = sound.laid.used;
        grafts = sound.laid.grafts;
        missing = sound.laid.missing;
        queue = sound.laid.queue;
        dropped = sound.laid.dropped;
      });
    }

-- `expire_until`
pub received-expired : (h : Head) (xs ys : List ℕ) (instant : ℕ) (r : Expired) → Sound h xs → length ys ≡ length xs → Expires (received_cache h) instant xs r ys
    → Becomes (received_left instant) h xs (with_received_counts r.cache.entries.len r.cache.expiry.len h) ys
unfolding received_in state_of
received-expired h xs ys instant r sound e x =
    let l : Limits = limits_of h.limits in
    let n : ℕ = h.live.received in
    let m : ℕ = h.live.received_rows in
    let n' : ℕ = r.cache.entries.len in
    let m' : ℕ = r.cache.expiry.len in
    let hn : n' ≤ l.R = omega (arith, x.count, sound.fit.within.received) in
    let hm : m' ≤ 2 * l.R = omega (arith, x.fewer, sound.fit.within.received_rows) in
    let at : cache_at (cache_from l 2 2 n' 3 40 m') ys ≡ expire_until instant (cache_at (received_cache h) xs) = sym (ap (λ (c : TimeBoundCache). cache_at c ys) x.sized) ∙ x.cache in
    record {
      state =
          received-state h xs ys sound n' m' (n * 2) (m * 40) (omega (arith, sound.fit.within)) (omega (arith, sound.fit.within)) e x.only
          ∙ ap (λ (c : Cache (Unit {0})). with_received c (state_of h xs))
          (expired-in l 2 2 n 3 40 m xs ys (lit< tt) (omega (arith, sound.fit.within)) (lit< tt) (omega (arith, sound.fit.within)) n' m' (omega arith) (omega arith) nothing_of instant at);
      sound =
          received-laid h xs ys sound n' m' (n * 2) (m * 40) (omega (arith, sound.fit.within)) (omega (arith, sound.fit.within)) e x.only hn hm
          (subst (λ (c : TimeBoundCache). SoundCache c ys) x.sized x.sound);
    }

-- an insert
pub received-inserted : (h : Head) (xs ys : List ℕ) (id expires : ℕ) (r : Inserted) → Sound h xs → length ys ≡ length xs
    → AtMost (state_of h xs).limits.R (put_in id tt expires (state_of h xs).received) → Inserts (received_cache h) id expires xs r ys
    → Becomes (received_also id expires) h xs (with_received_counts r.cache.entries.len r.cache.expiry.len h) ys
unfolding received_in state_of
received-inserted h xs ys id expires r sound e most x =
    let l : Limits = limits_of h.limits in
    let n : ℕ = h.live.received in
    let m : ℕ = h.live.received_rows in
    let n' : ℕ = r.cache.entries.len in
    let m' : ℕ = r.cache.expiry.len in
    let one : m' ≡ m + 1 = ap (λ (c : TimeBoundCache). c.expiry.len) x.sized in
    let sized : r.cache ≡ cache_from l 2 2 n' 3 40 m' = x.sized ∙ (λ k. cache_from l 2 2 n' 3 40 (sym one k)) in
    let wn : n' * 2 ≤ 2 * (l.R + 1) = omega (arith, x.count, sound.fit.within.received) in
    let wm : m' * 40 ≤ 40 * (2 * l.R + 1) = omega (arith, one, sound.fit.within.received_rows) in
    let at : cache_at (cache_from l 2 2 n' 3 40 m') ys ≡ put_in id (held_at r.cache r.entry r.row ys) expires (cache_at (received_cache h) xs) = sym (ap (λ (c : TimeBoundCache). cache_at c ys) sized) ∙ x.cache in
    let all : received_in n' (table l 2 ys) m' (table l 3 ys) ≡ put_in id tt expires (state_of h xs).received =
    inserted-in l 2 2 n 3 40 m xs ys (lit< tt) (omega (arith, sound.fit.within)) (lit< tt) (omega (arith, sound.fit.within)) n' m' wn wm nothing_of id expires (held_at r.cache r.entry r.row ys) at in
    let hn : n' ≤ l.R = omega (arith, most.entries, sym (count_entries l 2 2 n' 3 40 m' ys (lit< tt) wn (lit< tt) wm nothing_of) ∙ ap (λ (c : Cache (Unit {0})). length c.entries) all) in
    let hm : m' ≤ 2 * l.R = omega (arith, most.expiry, sym (count-expiry l 2 2 n' 3 40 m' ys (lit< tt) wn (lit< tt) wm nothing_of) ∙ ap (λ (c : Cache (Unit {0})). length c.expiry) all) in
    record {
      state =
          received-state h xs ys sound n' m' ((n + 1) * 2) ((m + 1) * 40) (omega (arith, sound.fit.within)) (omega (arith, sound.fit.within)) e x.only
          ∙ ap (λ (c : Cache (Unit {0})). with_received c (state_of h xs)) all;
      sound =
          received-laid h xs ys sound n' m' ((n + 1) * 2) ((m + 1) * 40) (omega (arith, sound.fit.within)) (omega (arith, sound.fit.within)) e x.only hn hm
          (subst (λ (c : TimeBoundCache). SoundCache c ys) sized x.sound);
    }
