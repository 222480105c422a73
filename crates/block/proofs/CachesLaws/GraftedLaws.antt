-- The grafted messages: their tables, and what `expire_until` does to the state.
-- Assumes nothing.
use Rattle.block.proofs.Words.{◌≡◌, sym, ap, ◌∙◌, subst, List, [], ◌∷◌, map, Bool, true, false, ℕ, zero, suc, ◌+◌, ◌-◌, ◌*◌, ◌≤◌, ◌<◌, arith, lit<, length, drop, set, drop-drop, if◌then◌else◌, part, Ref, ref, refs, places, Below, names, ref-at, length-refs, Cache, expire_until, cache_at, refs_at, Lies, FitsOneMore, OnlyTwo, values_as, ref_at, Expires, TimeBoundCache, Limits, Grafts, with_grafted}
use Rattle.storage.specs.Lists.Base.{filter}
use Rattle.storage.specs.Refs.Refs.{ref_of, lowered, left}
use Rattle.time_cache.specs.Tables.{Sound as SoundCache}
use Rattle.time_cache.specs.declared.cache.Expired.{Expired}
use Rattle.block.specs.Layout.{place, tables, table}
use Rattle.block.specs.View.{state_of, view_of, limits_of, grafted_in, grafts_of, peers_in}
use Rattle.block.specs.Fit.{Fit}
use Rattle.block.specs.Sound.{Numbered, AllNumbered, Laid, Sound}
use Rattle.block.specs.Becomes.{Becomes}
use Rattle.block.specs.Heads.{with_grafted_counts}
use Rattle.block.specs.declared.head.Head.{Head}
use Rattle.block.specs.TimeCaches.{cache_from, grafted_cache}
use Rattle.block.specs.Caches.InBlock.{InOrder, grafted_left}
use Rattle.block.specs.Caches.Standing.{StandsIn}
use Rattle.block.proofs.CachesLaws.CacheLaws.{as_value, cache-in, sound-in, refs-in, count_entries, count-expiry, frame-pair, expired-in}

-- the peers that link numbers stand for
abbrev pub peers_of : Head → List ℕ → List ℕ
peers_of h xs = peers_in h (tables (limits_of h.limits) xs)

-- what holds of the bytes after the place of each row
module _ (P : List ℕ → Type 0) where
  pub record EachOwn (es : List Ref) : Type 0 where
    pub each : (i : ℕ) → i < length es → P (ref_at es i).own

  each-if : (b : Bool) (k : ℕ) (e : Ref) (fs : List Ref) → P e.own → EachOwn (map (lowered k) fs) → EachOwn (map (lowered k) (if b then e ∷ fs else fs))
  each-if true k e fs p a = record { each = go }
    where
      go : (i : ℕ) → i < length (lowered k e ∷ map (lowered k) fs) → P (ref_at (lowered k e ∷ map (lowered k) fs) i).own
      go zero h = p
      go (suc i) h = a.each i (omega arith)
  each-if false k e fs p a = a

  pub each_left : (k : ℕ) (es : List Ref) → EachOwn es → EachOwn (left k es)
  unfolding left filter
  each_left k [] a = record { each = λ i h. absurd (omega arith) }
  each_left k (e ∷ es) a = each-if (names k e) k e (filter (names k) es) (a.each 0 (omega arith)) (each_left k es (record { each = λ j q. a.each (suc j) (omega arith) }))

-- the lists of link numbers, in the bytes after the place
abbrev pub Listed : ℕ → List ℕ → Type 0
Listed m own = Numbered m (drop 20 own)

module _ (m n : ℕ) (bytes : List ℕ) where
  pub own-list : (i : ℕ) → i < n → drop 20 (ref_at (refs 119 n bytes) i).own ≡ drop 22 (part (i * 119) 119 bytes)
  unfolding ref_of
  own-list i h = ap (λ (r : Ref). drop 20 r.own) (ref-at 119 n i (ref 0 []) bytes h) ∙ drop-drop 20 2 (part (i * 119) 119 bytes)

  pub to-own : AllNumbered m 22 119 n bytes → EachOwn (Listed m) (refs 119 n bytes)
  to-own a = record { each = λ i h. subst (Numbered m) (sym (own-list i (omega (arith, length-refs 119 n bytes)))) (a.each i (omega (arith, length-refs 119 n bytes))) }

  pub from-own : EachOwn (Listed m) (refs 119 n bytes) → AllNumbered m 22 119 n bytes
  from-own a = record { each = λ i h. subst (Numbered m) (own-list i h) (a.each i (omega (arith, length-refs 119 n bytes))) }

module _ (h : Head) (xs : List ℕ) (fit : Fit h xs) where
  abbrev l : Limits
  l = limits_of h.limits

  abbrev n : ℕ
  n = h.live.grafted

  abbrev m : ℕ
  m = h.live.grafted_rows

  pub grafted-lies : Lies (grafted_cache h) xs
  grafted-lies = record { entry_wide = omega arith; expiry_wide = omega arith; apart = omega arith; within = omega arith; few = omega arith }

  pub grafted-room : FitsOneMore (grafted_cache h) xs
  grafted-room = record { entry_wide = omega arith; expiry_wide = omega arith; apart = omega arith; within = omega arith; few = omega arith }

  pub grafted-as : values_as (as_value (grafts_of (peers_of h xs))) (cache_at (grafted_cache h) xs) ≡ (state_of h xs).grafted
  unfolding state_of grafted_in
  grafted-as = cache-in l 7 119 n 8 40 m xs (lit< tt) (omega arith) (lit< tt) (omega arith) (grafts_of (peers_of h xs))

  pub count-grafted : length (state_of h xs).grafted.entries ≡ n
  unfolding state_of grafted_in
  count-grafted = count_entries l 7 119 n 8 40 m xs (lit< tt) (omega arith) (lit< tt) (omega arith) (grafts_of (peers_of h xs))

  pub count-grafted-rows : length (state_of h xs).grafted.expiry ≡ m
  unfolding state_of grafted_in
  count-grafted-rows = count-expiry l 7 119 n 8 40 m xs (lit< tt) (omega arith) (lit< tt) (omega arith) (grafts_of (peers_of h xs))

pub grafted-sound : (h : Head) (xs : List ℕ) → Sound h xs → InOrder (state_of h xs).grafted → SoundCache (grafted_cache h) xs
unfolding state_of grafted_in
grafted-sound h xs sound o =
    sound-in (limits_of h.limits) 7 119 h.live.grafted 8 40 h.live.grafted_rows xs (lit< tt) (omega (arith, sound.fit)) (lit< tt) (omega (arith, sound.fit)) (grafts_of (peers_of h xs)) sound.laid.grafted o

-- the tables hold the state's cache
pub grafted_stands : (t : TimeBoundCache) (h : Head) (xs : List ℕ) → t ≡ grafted_cache h → Sound h xs → StandsIn t xs (state_of h xs).grafted
grafted_stands t h xs e s =
    subst (λ (u : TimeBoundCache). StandsIn u xs (state_of h xs).grafted) (sym e) (record { lies = grafted-lies h xs s.fit; room = grafted-room h xs s.fit; value = as_value (grafts_of (peers_of h xs)); same = grafted-as h xs s.fit; sound = grafted-sound h xs s })

-- other rows in the two tables
module _ (h : Head) (xs ys : List ℕ) (sound : Sound h xs) (n' m' k g : ℕ) where
  abbrev lim : Limits
  lim = limits_of h.limits

  abbrev new : Head
  new = with_grafted_counts n' m' h

  module _ (hk : k ≤ 119 * (lim.G + 1)) (hg : g ≤ 40 * (2 * lim.G + 1)) (e : length ys ≡ length xs) (o : OnlyTwo (place lim 7) k (place lim 8) g xs ys) where
    framed : tables lim ys ≡ set (set (tables lim xs) 8 (table lim 8 ys)) 7 (table lim 7 ys)
    framed = frame-pair lim 7 8 k g xs ys (lit< tt) (lit< tt) (omega arith) hk hg sound.fit.long e o

    pub grafted-state : state_of new ys ≡ with_grafted (grafted_in (peers_of h xs) n' (table lim 7 ys) m' (table lim 8 ys)) (state_of h xs)
    unfolding state_of
    grafted-state = ap (view_of new) framed

    pub grafted-laid : n' ≤ lim.G → m' ≤ 2 * lim.G → SoundCache (grafted_cache new) ys → EachOwn (Listed h.live.links) (refs_at (grafted_cache new) ys) → Sound new ys
    grafted-laid hn hm s a = record {
      fit = record { ceilings = sound.fit.ceilings; within = omega (arith, sound.fit.within); long = omega (arith, e, sound.fit.long) };
      laid = subst (Laid new) (sym framed) (record {
        received = sound.laid.received;
        grafted = subst (λ (es : List Ref). Below m' (places es)) (refs-in lim 7 119 n' 8 40 m' ys (lit< tt) (omega arith) (lit< tt) (omega arith)) s.below;
        cached = sound.laid.cached;
        contents = sound.laid.contents;
        used = sound.laid.used;
        grafts = from-own h.live.links n' (table lim 7 ys) (subst (EachOwn (Listed h.live.links)) (refs-in lim 7 119 n' 8 40 m' ys (lit< tt) (omega arith) (lit< tt) (omega arith)) a);
        missing = sound.laid.missing;
        queue = sound.laid.queue;
        dropped = sound.laid.dropped;
      });
    }

-- `expire_until`
pub grafted-expired : (h : Head) (xs ys : List ℕ) (instant : ℕ) (r : Expired) → Sound h xs → length ys ≡ length xs → Expires (grafted_cache h) instant xs r ys
    → Becomes (grafted_left instant) h xs (with_grafted_counts r.cache.entries.len r.cache.expiry.len h) ys
unfolding grafted_in state_of
grafted-expired h xs ys instant r sound e x =
    let l : Limits = limits_of h.limits in
    let n : ℕ = h.live.grafted in
    let m : ℕ = h.live.grafted_rows in
    let n' : ℕ = r.cache.entries.len in
    let m' : ℕ = r.cache.expiry.len in
    let hn : n' ≤ l.G = omega (arith, x.count, sound.fit.within.grafted) in
    let hm : m' ≤ 2 * l.G = omega (arith, x.fewer, sound.fit.within.grafted_rows) in
    let at : cache_at (cache_from l 7 119 n' 8 40 m') ys ≡ expire_until instant (cache_at (grafted_cache h) xs) = sym (ap (λ (c : TimeBoundCache). cache_at c ys) x.sized) ∙ x.cache in
    let old : EachOwn (Listed h.live.links) (refs_at (grafted_cache h) xs) =
    subst (EachOwn (Listed h.live.links)) (sym (refs-in l 7 119 n 8 40 m xs (lit< tt) (omega (arith, sound.fit.within)) (lit< tt) (omega (arith, sound.fit.within)))) (to-own h.live.links n (table l 7 xs) sound.laid.grafts) in
    let lists : EachOwn (Listed h.live.links) (refs_at (cache_from l 7 119 n' 8 40 m') ys) =
    subst (EachOwn (Listed h.live.links)) (sym x.refs ∙ ap (λ (c : TimeBoundCache). refs_at c ys) x.sized) (each_left (Listed h.live.links) (m - m') (refs_at (grafted_cache h) xs) old) in
    record {
      state =
          grafted-state h xs ys sound n' m' (n * 119) (m * 40) (omega (arith, sound.fit.within)) (omega (arith, sound.fit.within)) e x.only
          ∙ ap (λ (c : Cache Grafts). with_grafted c (state_of h xs))
          (expired-in l 7 119 n 8 40 m xs ys (lit< tt) (omega (arith, sound.fit.within)) (lit< tt) (omega (arith, sound.fit.within)) n' m' (omega arith) (omega arith) (grafts_of (peers_of h xs)) instant at);
      sound =
          grafted-laid h xs ys sound n' m' (n * 119) (m * 40) (omega (arith, sound.fit.within)) (omega (arith, sound.fit.within)) e x.only hn hm
          (subst (λ (c : TimeBoundCache). SoundCache c ys) x.sized x.sound) lists;
    }
