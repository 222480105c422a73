-- A new entry among the grafted messages: what the insert and the zeros after it leave, and the first peer of it.
-- Assumes nothing.
use Rattle.block.proofs.Words.{◌≡◌, refl, sym, ap, ◌∙◌, subst, ◌⊎◌, inl, inr, List, [], ◌∷◌, ◌++◌, map, ℕ, zero, suc, ◌+◌, ◌*◌, ◌^◌, ◌≤◌, ◌<◌, arith, lit<, length, take, drop, get_or, Result, Ok, Err, get_or_at, Entry, entry, keys, ascending-insert, part, length-le_bytes, le_nat-le_bytes, tri, length-put, get_d_part, get_or-put-before, get_or-put-after, Ref, ref, refs, moved, get_or-map-in, Timed, Cache, replace, ExpiryRow, expiry_row, no_row, row_at, expiry_rows, value_bytes, entry_for, refs_at, rows_at, cache_at, Lies, OnlyTwo, ref_at, held_at, Inserts, TimeBoundCache, replace-put, put-get_or-same, own-refs, own-rows, own-written, own-sound, Limits, State, Grafts, with_grafted}
use Rattle.std.proofs.Common.{length-take-le}
use lib.ListN.{length-map}
use Rattle.storage.specs.Rows.Part.{put}
use Rattle.storage.specs.Rows.Digits.{le_bytes}
use Rattle.time_cache.specs.TimeCache.{put as put_in}
use Rattle.time_cache.specs.Tables.{named, Sound as SoundCache}
use Rattle.time_cache.specs.Steps.{placed}
use Rattle.time_cache.specs.declared.cache.Inserted.{Inserted}
use Rattle.time_cache.proofs.Timely.{order-added}
use Rattle.time_cache.proofs.ReadLaws.{length-es, length-rs}
use Rattle.time_cache.proofs.BlockLaws.{sound-up}
use Rattle.time_cache.proofs.LoanLaws.{halfway, length-halfway, only-second, only-first, only-put, only_then, only-both, two-wider}
use Rattle.block.specs.Layout.{place, table}
use Rattle.block.specs.View.{state_of, limits_of, byte_at, hops_in, round_of, grafts_of, grafted_in}
use Rattle.storage.specs.Refs.Numbers.{pairs, numbered}
use Rattle.block.specs.Sound.{Sound}
use Rattle.block.specs.Becomes.{Becomes}
use Rattle.block.specs.Heads.{with_grafted_counts}
use Rattle.block.specs.HopSteps.{pushed_hop}
use Rattle.block.specs.LinkSteps.{peer_at}
use Rattle.block.specs.declared.head.Head.{Head}
use Rattle.block.proofs.LinkLaws.{count-links}
use Rattle.block.proofs.Scans.{keys-apart}
use Rattle.block.proofs.HopLaws.{pushed_long, hops-push, numbered_pushed}
use Rattle.block.specs.TimeCaches.{cache_from, grafted_cache}
use Rattle.block.specs.Caches.InBlock.{InOrder, AtMost}
use Rattle.block.specs.Caches.GraftSteps.{grafted_at, no_grafts, entered_state, EnteredAt}
use Rattle.block.proofs.CachesLaws.CacheLaws.{refs-in, rows_in, count_entries, count-expiry, inserted-in}
use Rattle.block.proofs.CachesLaws.GraftedLaws.{peers_of, EachOwn, Listed, to-own, count-grafted, grafted-state, grafted-laid}
use Rattle.block.proofs.CachesLaws.GraftLaws.{grafted-entry, graft-many, list-long, list-numbered, peers-row}
use Rattle.block.proofs.CachesLaws.GraftWrites.{peers-goes}

-- the zeros of a new entry: no `first`, no `kept`, no peer
abbrev zeros : List ℕ
zeros = le_bytes 21 0

no-grafts : (ps own rest : List ℕ) → grafts_of ps (put 0 zeros own) rest ≡ no_grafts
unfolding grafts_of put le_bytes hops_in numbered pairs
no-grafts ps own rest = refl

no-numbers : (m : ℕ) (own : List ℕ) → Listed m (put 0 zeros own)
unfolding put le_bytes
no-numbers m own = record { few = omega arith; below = record { below = λ i h. absurd (omega arith) } }

-- rows of places with one more: each is that one, or one of those that were there
module _ (P : List ℕ → Type 0) (x : Ref) where
  next-each : (m : Ref) (ms : List Ref) → EachOwn P (m ∷ ms) → EachOwn P ms
  next-each m ms a = record { each = λ i h. a.each (suc i) (omega arith) }

  gap-each : (n j : ℕ) (ms : List Ref) → EachOwn P ms → j < length (take n ms ++ (x ∷ drop n ms)) → P (ref_at (take n ms ++ (x ∷ drop n ms)) j).own ⊎ (ref_at (take n ms ++ (x ∷ drop n ms)) j ≡ x)
  gap-each zero zero ms a h = inr refl
  gap-each zero (suc j) ms a h = inl (a.each j (omega arith))
  gap-each (suc n) zero [] a h = inr refl
  gap-each (suc n) (suc j) [] a h = absurd (omega arith)
  gap-each (suc n) zero (m ∷ ms) a h = inl (a.each 0 (omega arith))
  gap-each (suc n) (suc j) (m ∷ ms) a h = gap-each n j ms (next-each m ms a) (omega arith)

  over-each : (n j : ℕ) (ms : List Ref) → EachOwn P ms → j < length (put n (x ∷ []) ms) → P (ref_at (put n (x ∷ []) ms) j).own ⊎ (ref_at (put n (x ∷ []) ms) j ≡ x)
  unfolding put
  over-each zero zero ms a h = inr refl
  over-each zero (suc j) [] a h = absurd (omega arith)
  over-each zero (suc j) (m ∷ ms) a h = inl (a.each (suc j) (omega arith))
  over-each (suc n) zero [] a h = inr refl
  over-each (suc n) (suc j) [] a h = absurd (omega arith)
  over-each (suc n) zero (m ∷ ms) a h = inl (a.each 0 (omega arith))
  over-each (suc n) (suc j) (m ∷ ms) a h = over-each n j ms (next-each m ms a) (omega arith)

  placed-each : (o : Result ℕ ℕ) (j : ℕ) (ms : List Ref) → EachOwn P ms → j < length (placed o x ms) → P (ref_at (placed o x ms) j).own ⊎ (ref_at (placed o x ms) j ≡ x)
  unfolding placed
  placed-each (Ok n) j ms a h = over-each n j ms a h
  placed-each (Err n) j ms a h = gap-each n j ms a h

moved-each : (P : List ℕ → Type 0) (k : ℕ) (es : List Ref) → EachOwn P es → EachOwn P (map (moved k) es)
moved-each P k es a = record {
  each = λ i h. subst P (sym (ap (λ (r : Ref). r.own) (get_or-map-in (moved k) es i (ref 0 []) (ref 0 []) (omega (arith, length-map es (moved k)))))) (a.each i (omega (arith, length-map es (moved k))));
}

-- other bytes of the one that was put in, where no other names its row
anew-each : (P : List ℕ → Type 0) (es : List Ref) (e : ℕ) (r : Ref) → e < length es → P r.own
    → ((j : ℕ) → j < length es → P (ref_at es j).own ⊎ (ref_at es j ≡ ref_at es e)) → ((j : ℕ) → j < length es → (j ≡ e → ⊥) → ref_at es j ≡ ref_at es e → ⊥)
    → EachOwn P (put e (r ∷ []) es)
anew-each P es e r h p either alone = record { each = λ j l. go j (omega (arith, length-put e (r ∷ []) es (omega arith))) (tri j e) }
  where
    other : (j : ℕ) → j < length es → (j ≡ e → ⊥) → P (ref_at es j).own ⊎ (ref_at es j ≡ ref_at es e) → ref_at (put e (r ∷ []) es) j ≡ ref_at es j → P (ref_at (put e (r ∷ []) es) j).own
    other j l n (inl a) s = subst (λ (z : Ref). P z.own) (sym s) a
    other j l n (inr a) s = absurd (alone j l n a)

    go : (j : ℕ) → j < length es → (j < e) ⊎ ((j ≡ e) ⊎ (e < j)) → P (ref_at (put e (r ∷ []) es) j).own
    go j l (inl a) = other j l (λ z. omega arith) (either j l) (get_or-put-before e j (ref 0 []) (r ∷ []) es a (omega arith))
    go j l (inr (inl a)) = subst (λ (n : ℕ). P (ref_at (put e (r ∷ []) es) n).own) (sym a) (subst (λ (z : Ref). P z.own) (sym (put-get_or-same e r (ref 0 []) es h)) p)
    go j l (inr (inr a)) = other j l (λ z. omega arith) (either j l) (get_or-put-after e j (ref 0 []) (r ∷ []) es (omega arith) (omega arith))

module _ (h : Head) (xs ys : List ℕ) (id expires : ℕ) (t : Inserted) (sound : Sound h xs) (len : length ys ≡ length xs)
    (most : AtMost (state_of h xs).limits.G (put_in id no_grafts expires (state_of h xs).grafted)) (v : Inserts (grafted_cache h) id expires xs t ys) where
  abbrev l : Limits
  l = limits_of h.limits

  abbrev n : ℕ
  n = h.live.grafted

  abbrev m : ℕ
  m = h.live.grafted_rows

  abbrev n' : ℕ
  n' = t.cache.entries.len

  abbrev m' : ℕ
  m' = t.cache.expiry.len

  abbrev c : TimeBoundCache
  c = cache_from l 7 119 n' 8 40 m'

  abbrev ps : List ℕ
  ps = peers_of h xs

  abbrev e : ℕ
  e = t.entry

  one : m' ≡ m + 1
  one = ap (λ (k : TimeBoundCache). k.expiry.len) v.sized

  sized : t.cache ≡ c
  sized = v.sized ∙ (λ k. cache_from l 7 119 n' 8 40 (sym one k))

  wn : n' * 119 ≤ 119 * (l.G + 1)
  wn = omega (arith, v.count, sound.fit.within.grafted)

  wm : m' * 40 ≤ 40 * (2 * l.G + 1)
  wm = omega (arith, one, sound.fit.within.grafted_rows)

  s : SoundCache c ys
  s = subst (λ (k : TimeBoundCache). SoundCache k ys) sized v.sound

  lies : Lies c ys
  lies = record { entry_wide = omega arith; expiry_wide = omega arith; apart = omega (arith, wn); within = omega (arith, wm, len, sound.fit.long); few = omega (arith, wm, sound.fit.ceilings.G) }

  abbrev es : List Ref
  es = refs_at c ys

  abbrev r : Ref
  r = ref_at es e

  abbrev x : ExpiryRow
  x = row_at (rows_at c ys) r.place

  abbrev pub zs : List ℕ
  zs = put (place l 7 + (e * 119 + (2 + 0))) zeros ys

  wide : 2 + 0 + length zeros ≤ 119
  wide = omega (arith, length-le_bytes 21 0)

  key : x.key ≡ id
  key =
      let named-row : r.place ≡ t.row = ap (λ (k : TimeBoundCache). (ref_at (refs_at k ys) e).place) (sym sized) ∙ v.names in
      let rs : List ExpiryRow = rows_at (grafted_cache h) xs in
      let at : row_at (rows_at t.cache ys) t.row ≡ expiry_row expires id (row_at (rows_at t.cache ys) t.row).rest =
      ap (λ (k : List ExpiryRow). row_at k t.row) v.rows ∙ get_or_at (take t.row rs) (expiry_row expires id (row_at (rows_at t.cache ys) t.row).rest) (drop t.row rs) no_row t.row (length-take-le t.row rs (omega (arith, v.row, length-rs (grafted_cache h) xs))) in
      (λ k. (row_at (rows_at (sym sized k) ys) (named-row k)).key) ∙ ap (λ (y : ExpiryRow). y.key) at

  zs-long : length zs ≡ length xs
  zs-long = length-put (place l 7 + (e * 119 + (2 + 0))) zeros ys (omega (arith, length-le_bytes 21 0, v.entry, wn, len, sound.fit.long)) ∙ len

  at : cache_at c zs ≡ put_in id (value_bytes (put 0 zeros r.own) x.rest) expires (cache_at (grafted_cache h) xs)
  at =
      own-written c ys s e v.entry lies 0 zeros wide
      ∙ (λ k. replace (key k) (value_bytes (put 0 zeros r.own) x.rest) ((sym (ap (λ (z : TimeBoundCache). cache_at z ys) sized) ∙ v.cache) k))
      ∙ replace-put id (held_at t.cache e t.row ys) (value_bytes (put 0 zeros r.own) x.rest) expires (cache_at (grafted_cache h) xs)

  all : grafted_in ps n' (table l 7 zs) m' (table l 8 zs) ≡ put_in id no_grafts expires (state_of h xs).grafted
  unfolding state_of grafted_in
  all =
      inserted-in l 7 119 n 8 40 m xs zs (lit< tt) (omega (arith, sound.fit.within)) (lit< tt) (omega (arith, sound.fit.within)) n' m' wn wm (grafts_of ps) id expires (value_bytes (put 0 zeros r.own) x.rest) at
      ∙ ap (λ (g : Grafts). put_in id g expires (state_of h xs).grafted) (no-grafts ps r.own x.rest)

  hn : n' ≤ l.G
  unfolding grafted_in state_of
  hn = omega (arith, most.entries, sym (count_entries l 7 119 n' 8 40 m' zs (lit< tt) wn (lit< tt) wm (grafts_of ps)) ∙ ap (λ (k : Cache Grafts). length k.entries) all)

  hm : m' ≤ 2 * l.G
  unfolding grafted_in state_of
  hm = omega (arith, most.expiry, sym (count-expiry l 7 119 n' 8 40 m' zs (lit< tt) wn (lit< tt) wm (grafts_of ps)) ∙ ap (λ (k : Cache Grafts). length k.expiry) all)

  only : OnlyTwo (place l 7) (119 * (l.G + 1)) (place l 8) (40 * (2 * l.G + 1)) xs zs
  only =
      let a : ℕ = place l 7 in
      let k : ℕ = 119 * (l.G + 1) in
      let b : ℕ = place l 8 in
      let g : ℕ = 40 * (2 * l.G + 1) in
      let w : b + g ≤ length xs = omega (arith, sound.fit.long) in
      let two : OnlyTwo a k b g xs ys = two-wider a ((n + 1) * 119) b ((m + 1) * 40) xs ys (omega (arith, sound.fit.within)) (omega (arith, sound.fit.within, sound.fit.long)) len v.only k g (omega (arith, sound.fit.within)) (omega (arith, sound.fit.within)) (omega arith) w in
      let hs : List ℕ = halfway b g xs ys in
      let lh : length hs ≡ length xs = length-halfway a k b g xs ys (omega arith) w len two in
      let put-in : OnlyTwo a k b g xs zs = only-both a k b g xs hs zs (omega arith) w lh (zs-long ∙ sym lh)
      (only-second a k b g xs ys (omega arith) w len two)
      (only_then a k hs ys zs (omega arith) (len ∙ sym lh) (zs-long ∙ sym len) (only-first a k b g xs ys (omega arith) w len two)
      (only-put a (e * 119 + (2 + 0)) k zeros ys (omega (arith, length-le_bytes 21 0, v.entry, wn)) (omega (arith, len, sound.fit.long)))) in
      put-in

  apart : (j : ℕ) → j < length es → (j ≡ e → ⊥) → ref_at es j ≡ r → ⊥
  unfolding named
  apart j hj ne same =
      let rs : List ExpiryRow = rows_at c ys in
      let name : Ref → ℕ = λ q. (row_at rs q.place).key in
      let le : length es ≡ n' = length-es c ys in
      keys-apart (named rs es) j e (sound-up c ys s) (omega (arith, length-map es name)) (omega (arith, length-map es name, v.entry)) ne
      (get_or-map-in name es j 0 (ref 0 []) hj ∙ ap name same ∙ sym (get_or-map-in name es e 0 (ref 0 []) (omega (arith, v.entry))))

  lists : EachOwn (Listed h.live.links) (refs_at c zs)
  lists =
      let P : List ℕ → Type 0 = Listed h.live.links in
      let old : EachOwn P (refs_at (grafted_cache h) xs) =
      subst (EachOwn P) (sym (refs-in l 7 119 n 8 40 m xs (lit< tt) (omega (arith, sound.fit.within)) (lit< tt) (omega (arith, sound.fit.within)))) (to-own h.live.links n (table l 7 xs) sound.laid.grafts) in
      let ms : List Ref = map (moved t.row) (refs_at (grafted_cache h) xs) in
      let same : es ≡ placed v.found r ms = ap (λ (k : TimeBoundCache). refs_at k ys) (sym sized) ∙ v.refs ∙ ap (λ (k : TimeBoundCache). placed v.found (ref_at (refs_at k ys) e) ms) sized in
      let either : (j : ℕ) → j < length es → P (ref_at es j).own ⊎ (ref_at es j ≡ r) =
      subst (λ (k : List Ref). (j : ℕ) → j < length k → P (ref_at k j).own ⊎ (ref_at k j ≡ r)) (sym same) (λ j hj. placed-each P r v.found j ms (moved-each P t.row (refs_at (grafted_cache h) xs) old) hj) in
      subst (EachOwn P) (sym (own-refs c ys s e v.entry lies 0 zeros wide))
      (anew-each P es e (ref r.place (put 0 zeros r.own)) (omega (arith, v.entry, length-es c ys)) (no-numbers h.live.links r.own) either apart)

  abbrev pub new : Head
  new = with_grafted_counts n' m' h

  pub entered-goes : Becomes (entered_state id expires) h xs new zs
  entered-goes = record {
    state = grafted-state h xs zs sound n' m' (119 * (l.G + 1)) (40 * (2 * l.G + 1)) (omega arith) (omega arith) zs-long only ∙ ap (λ (k : Cache Grafts). with_grafted k (state_of h xs)) all;
    sound = grafted-laid h xs zs sound n' m' (119 * (l.G + 1)) (40 * (2 * l.G + 1)) (omega arith) (omega arith) zs-long only hn hm (own-sound c ys s e v.entry lies 0 zeros wide) lists;
  }

  entry-in : e < length (state_of new zs).grafted.entries
  entry-in = omega (arith, v.entry, count-grafted new zs entered-goes.sound.fit)

  -- the entry in the view
  there : grafted_at (state_of new zs) e ≡ entry_for (grafts_of (peers_of new zs)) (ref r.place (put 0 zeros r.own)) x
  there =
      let k : List Ref = put e (ref r.place (put 0 zeros r.own) ∷ []) es in
      let rf : refs 119 n' (table l 7 zs) ≡ k = sym (refs-in l 7 119 n' 8 40 m' zs (lit< tt) wn (lit< tt) wm) ∙ own-refs c ys s e v.entry lies 0 zeros wide in
      let rw1 : expiry_rows 40 m' (table l 8 zs) ≡ rows_at c ys = sym (rows_in l 7 119 n' 8 40 m' zs (lit< tt) wn (lit< tt) wm) ∙ own-rows c ys s e v.entry lies 0 zeros wide in
      let mine : ref_at k e ≡ ref r.place (put 0 zeros r.own) = put-get_or-same e (ref r.place (put 0 zeros r.own)) (ref 0 []) es (omega (arith, v.entry, length-es c ys)) in
      grafted-entry new zs entered-goes.sound e entry-in
      ∙ (λ z. entry_for (grafts_of (peers_of new zs)) (ref_at (rf z) e) (row_at (rw1 z) (ref_at (rf z) e).place))
      ∙ (λ z. entry_for (grafts_of (peers_of new zs)) (mine z) (row_at (rows_at c ys) (mine z).place))

  pub entered : EnteredAt id (state_of new zs) e
  entered = record {
    below = entry-in;
    key = ap (λ (y : Entry (Timed Grafts)). y.key) there ∙ key;
    none = ap (λ (y : Entry (Timed Grafts)). y.value.value) there ∙ no-grafts (peers_of new zs) r.own x.rest;
  }

-- the first peer of a new entry
put_order : (id expires : ℕ) (g : Grafts) (c : Cache Grafts) → InOrder c → InOrder (put_in id g expires c)
unfolding put_in
put_order id expires g c o = record {
  up = ascending-insert id (record { expires = expires; value = g }) c.entries o.up;
  order = order-added (record { time = expires; key = id }) c.expiry o.order;
}

module _ (h k : Head) (xs ys : List ℕ) (id expires link rd en : ℕ) (sound : Sound k ys) (order : InOrder (state_of h xs).grafted) (same : state_of k ys ≡ entered_state id expires (state_of h xs))
    (v : EnteredAt id (state_of k ys) en) (ql : link < length (state_of h xs).links) (hr : rd < 256 ^ 2) where
  abbrev spot : ℕ
  spot = place (limits_of k.limits) 7 + 119 * en + 22

  abbrev list : List ℕ
  list = part spot 97 ys

  abbrev f : ℕ → List ℕ → Entry ℕ
  f = round_of (peers_of k ys)

  pub none_yet : get_or ys spot 0 ≡ 0
  none_yet = graft-many k ys sound en v.below ∙ ap (λ (z : Grafts). length z.peers) v.none

  order' : InOrder (state_of k ys).grafted
  order' = subst (λ (z : State). InOrder z.grafted) (sym same) (put_order id expires no_grafts (state_of h xs).grafted order)

  pub link-in : link < k.live.links
  link-in = omega (arith, ql, ap (λ (z : State). length z.links) same, count-links k ys)

  count : byte_at 0 list ≤ 0
  count = omega (arith, none_yet, first)
    where
      first : byte_at 0 list ≡ get_or ys spot 0
      first =
          let z : spot + 0 ≡ spot = omega arith in
          get_d_part spot 97 0 0 ys (omega arith) ∙ ap (λ (o : ℕ). get_or ys o 0) z

  peer : f link (le_bytes 2 rd) ≡ entry (peer_at (state_of h xs) link) rd
  unfolding round_of state_of
  peer = λ z. entry (get_or (keys (same z).links) link 0) (le_nat-le_bytes 2 rd hr z)

  pub first-goes : Becomes (λ s. with_grafted (put_in id (record { first = no_grafts.first; kept = no_grafts.kept; peers = entry (peer_at s link) rd ∷ [] }) expires s.grafted) s) h xs k (put spot (pushed_hop link rd list) ys)
  first-goes =
      let long : length list ≡ 97 = list-long k ys sound en v.below in
      let few : byte_at 0 list < 32 = omega (arith, count) in
      let go = peers-goes k ys sound order' en v.below (pushed_hop link rd list) (pushed_long list long link rd few) (numbered_pushed list long link rd few k.live.links (list-numbered k ys sound en v.below) link-in) in
      let value : hops_in f (pushed_hop link rd list) ≡ entry (peer_at (state_of h xs) link) rd ∷ [] =
      hops-push list long link rd few f
      ∙ (λ z. (sym (peers-row k ys sound en v.below) ∙ ap (λ (y : Grafts). y.peers) v.none) z ++ (peer z ∷ [])) in
      let one : Grafts = record { first = no_grafts.first; kept = no_grafts.kept; peers = entry (peer_at (state_of h xs) link) rd ∷ [] } in
      record {
        state =
            go.state
            ∙ (λ z. with_grafted (replace (v.key z) (record { first = (v.none z).first; kept = (v.none z).kept; peers = value z }) (state_of k ys).grafted) (state_of k ys))
            ∙ ap (λ (y : State). with_grafted (replace id one y.grafted) y) same
            ∙ ap (λ (y : Cache Grafts). with_grafted y (state_of h xs)) (replace-put id no_grafts one expires (state_of h xs).grafted);
        sound = go.sound;
      }
