-- A write of the senders of a grafted message, or of its list: the value that its bytes then hold, and what the write does to the state.
-- Assumes nothing.
use Rattle.block.proofs.Words.{Option, Some, None, ◌≡◌, refl, sym, ap, ◌∙◌, subst, List, [], ◌∷◌, map, ℕ, zero, suc, ◌+◌, ◌*◌, ◌≤◌, ◌<◌, arith, lit<, ltb, eqb, length, drop, take_all, Map, Entry, entry, cases, le_nat, length_part, length-put, part-put, part-part, get_d_part, part-before, drop-put, put-drop, Ref, ref, refs, ref-at, length-refs, Timed, Cache, ExpiryRow, row_at, value_bytes, refs_at, rows_at, cache_at, read_as, Lies, OnlyTwo, ref_at, TimeBoundCache, own-stored, own-written, own-sound, Limits, State, Hop, Grafts, with_grafted}
use Rattle.std.proofs.Common.{length-drop}
use Rattle.storage.specs.Lists.Map.{lookup, insert}
use Rattle.storage.specs.Rows.Part.{part, put}
use Rattle.storage.specs.Rows.Rows.{field_of}
use Rattle.storage.specs.Refs.Refs.{ref_of}
use Rattle.time_cache.specs.TimeCache.{with_value, replace}
use Rattle.time_cache.specs.Tables.{values_as, Sound as SoundCache}
use Rattle.time_cache.proofs.LoanLaws.{only_same, only-put, only-both}
use Rattle.block.specs.Layout.{place, table}
use Rattle.block.specs.View.{state_of, limits_of, half_at, flag_of, only_if, hops_in, round_of, grafts_of, grafted_in}
use Rattle.block.specs.Sound.{Numbered, Sound}
use Rattle.block.specs.Becomes.{Becomes}
use Rattle.block.specs.MissingSteps.{hop}
use Rattle.block.specs.declared.head.Head.{Head}
use Rattle.block.proofs.Tables.{length-table}
use Rattle.block.specs.TimeCaches.{grafted_cache}
use Rattle.block.specs.Caches.InBlock.{InOrder}
use Rattle.block.specs.Caches.GraftSteps.{grafted_at, grafts_at, senders_in, senders_to}
use Rattle.block.proofs.CachesLaws.CacheLaws.{as_value, cache-in, refs-in, rows_in}
use Rattle.block.proofs.CachesLaws.GraftedLaws.{peers_of, EachOwn, Listed, to-own, grafted-lies, grafted-sound, grafted-state, grafted-laid, grafted-as}
use Rattle.block.proofs.CachesLaws.GraftLaws.{entry-below, grafted-entry}

-- the first bytes of what follows a place say its senders
pub senders-front : (own : List ℕ) → senders_in (part 0 20 own) ≡ senders_in own
unfolding field_of half_at
senders-front own = λ k. (
  only_if (flag_of (get_d_part 0 20 0 0 own (omega arith) k)) (hop (le_nat (part-part 1 8 0 20 own (omega arith) k)) (le_nat (part-part 9 2 0 20 own (omega arith) k))),
  only_if (flag_of (get_d_part 0 20 11 0 own (omega arith) k)) (le_nat (part-part 12 8 0 20 own (omega arith) k)),
)

module _ (ps own rest : List ℕ) (long : length own ≡ 117) where
  abbrev old : Grafts
  old = grafts_of ps own rest

  pub list_put : (list : List ℕ) → length list ≡ 97 → drop 20 (put 20 list own) ≡ list
  unfolding part
  list_put list e =
      sym (take_all 97 (drop 20 (put 20 list own)) (omega (arith, length-drop 20 (put 20 list own), length-put 20 list own (omega arith)))) ∙ part-put 20 97 list own e (omega arith)

  pub senders-value : (bs : List ℕ) → length bs ≡ 20 → grafts_of ps (put 0 bs own) rest ≡ record { first = (senders_in bs).0; kept = (senders_in bs).1; peers = old.peers }
  unfolding grafts_of
  senders-value bs e =
      let same : senders_in (put 0 bs own) ≡ senders_in bs = sym (senders-front (put 0 bs own)) ∙ ap senders_in (part-put 0 20 bs own e (omega arith)) in
      λ z. record { first = (same z).0; kept = (same z).1; peers = hops_in (round_of ps) (drop-put 20 0 bs own (omega arith) (omega arith) z) }

  pub peers-value : (list : List ℕ) → length list ≡ 97 → grafts_of ps (put 20 list own) rest ≡ record { first = old.first; kept = old.kept; peers = hops_in (round_of ps) list }
  unfolding grafts_of
  peers-value list e =
      let same : senders_in (put 20 list own) ≡ senders_in own = sym (senders-front (put 20 list own)) ∙ ap senders_in (part-before 0 20 20 list own (omega arith) (omega arith)) ∙ senders-front own in
      λ z. record { first = (same z).0; kept = (same z).1; peers = hops_in (round_of ps) (list_put list e z) }

-- another value, read from the bytes
module _ {A B : Type 0} (f : A → B) where
  abbrev timed_as : Timed A → Timed B
  timed_as v = record { expires = v.expires; value = f v.value }

  insert-as : (k : ℕ) (v : Timed A) (m : Map (Timed A)) → map (read_as f) (insert k v m) ≡ insert k (timed_as v) (map (read_as f) m)
  unfolding insert
  insert-as k v [] = refl
  insert-as k v (e ∷ m) =
      cases (ltb k e.key) (λ p. rw p refl)
      (λ p. rw p (cases (eqb k e.key) (λ q. rw q refl) (λ q. rw q (ap (λ (l : Map (Timed B)). read_as f e ∷ l) (insert-as k v m)))))

  option_as : Option (Timed A) → Option (Timed B)
  option_as None = None
  option_as (Some a) = Some (timed_as a)

  lookup-as : (k : ℕ) (m : Map (Timed A)) → lookup k (map (read_as f) m) ≡ option_as (lookup k m)
  unfolding lookup option_as
  lookup-as k [] = refl
  lookup-as k (e ∷ m) = cases (eqb k e.key) (λ p. rw p refl) (λ p. rw p (lookup-as k m))

  value_as : (k : ℕ) (v : A) (o : Option (Timed A)) (m : Map (Timed A)) → map (read_as f) (with_value k v o m) ≡ with_value k (f v) (option_as o) (map (read_as f) m)
  unfolding with_value option_as
  value_as k v None m = refl
  value_as k v (Some t) m = insert-as k (record { expires = t.expires; value = v }) m

  pub replace-as : (k : ℕ) (v : A) (c : Cache A) → values_as f (replace k v c) ≡ replace k (f v) (values_as f c)
  unfolding values_as replace
  replace-as k v c = λ j. record {
    entries = (value_as k v (lookup k c.entries) c.entries ∙ ap (λ (o : Option (Timed B)). with_value k (f v) o (map (read_as f) c.entries)) (sym (lookup-as k c.entries))) j;
    expiry = c.expiry;
  }

-- one row of places anew
pub each-put : (P : List ℕ → Type 0) (i : ℕ) (r : Ref) (es : List Ref) → P r.own → EachOwn P es → i < length es → EachOwn P (put i (r ∷ []) es)
unfolding put
each-put P i r [] p a h = absurd (omega arith)
each-put P zero r (e ∷ es) p a h = record { each = go }
  where
    go : (j : ℕ) → j < length (r ∷ es) → P (ref_at (r ∷ es) j).own
    go zero q = p
    go (suc j) q = a.each (suc j) q
each-put P (suc i) r (e ∷ es) p a h = record { each = go (each-put P i r es p (record { each = λ j q. a.each (suc j) (omega arith) }) (omega arith)) }
  where
    go : EachOwn P (put i (r ∷ []) es) → (j : ℕ) → j < length (e ∷ put i (r ∷ []) es) → P (ref_at (e ∷ put i (r ∷ []) es) j).own
    go next zero q = a.each 0 (omega arith)
    go next (suc j) q = next.each j (omega arith)

-- bytes of grafted message i, after its place
module _ (h : Head) (xs : List ℕ) (sound : Sound h xs) (order : InOrder (state_of h xs).grafted) (i : ℕ) (there : i < length (state_of h xs).grafted.entries) (o : ℕ) (bs : List ℕ) (w : o + length bs ≤ 117) where
  abbrev l : Limits
  l = limits_of h.limits

  abbrev n : ℕ
  n = h.live.grafted

  abbrev m : ℕ
  m = h.live.grafted_rows

  abbrev c : TimeBoundCache
  c = grafted_cache h

  abbrev ps : List ℕ
  ps = peers_of h xs

  abbrev tab : List ℕ
  tab = table l 7 xs

  abbrev pub ys : List ℕ
  ys = put (place l 7 + (i * 119 + (2 + o))) bs xs

  abbrev pub r : Ref
  r = ref_at (refs_at c xs) i

  abbrev pub x : ExpiryRow
  x = row_at (rows_at c xs) r.place

  q : i < n
  q = entry-below h xs sound i there

  n-in : n * 119 ≤ 119 * (l.G + 1)
  n-in = omega (arith, sound.fit.within.grafted)

  m-in : m * 40 ≤ 40 * (2 * l.G + 1)
  m-in = omega (arith, sound.fit.within.grafted_rows)

  refs-same : refs_at c xs ≡ refs 119 n tab
  refs-same = refs-in l 7 119 n 8 40 m xs (lit< tt) n-in (lit< tt) m-in

  pub own-long : length r.own ≡ 117
  unfolding ref_of
  own-long =
      let lt : length tab ≡ 119 * (l.G + 1) = length-table l 7 xs (lit< tt) sound.fit.long in
      let row : List ℕ = part (i * 119) 119 tab in
      let lr : length row ≡ 119 = length_part (i * 119) 119 tab (omega (arith, q, n-in)) in
      ap (λ (es : List Ref). length (ref_at es i).own) refs-same ∙ ap (λ (e : Ref). length e.own) (ref-at 119 n i (ref 0 []) tab q) ∙ length-drop 2 row ∙ (omega arith)

  -- the entry in the view
  pub entry-same : grafted_at (state_of h xs) i ≡ entry x.key (record { expires = x.time; value = grafts_of ps r.own x.rest })
  entry-same =
      grafted-entry h xs sound i there
      ∙ (λ z. let e : Ref = ref_at (sym refs-same z) i in
      let y : ExpiryRow = row_at (sym (rows_in l 7 119 n 8 40 m xs (lit< tt) n-in (lit< tt) m-in) z) e.place in
      entry y.key (record { expires = y.time; value = grafts_of ps e.own y.rest }))

  ys-long : length ys ≡ length xs
  ys-long = length-put (place l 7 + (i * 119 + (2 + o))) bs xs (omega (arith, q, n-in, sound.fit.long))

  only : OnlyTwo (place l 7) (119 * (l.G + 1)) (place l 8) 0 xs ys
  only =
      only-both (place l 7) (119 * (l.G + 1)) (place l 8) 0 xs xs ys (omega arith) (omega (arith, sound.fit.long)) refl ys-long
      (only_same (place l 8) 0 xs (omega (arith, sound.fit.long)))
      (only-put (place l 7) (i * 119 + (2 + o)) (119 * (l.G + 1)) bs xs (omega (arith, q, n-in)) (omega (arith, sound.fit.long)))

  s : SoundCache c xs
  s = grafted-sound h xs sound order

  lies : Lies c xs
  lies = grafted-lies h xs sound.fit

  old-lists : EachOwn (Listed h.live.links) (refs_at c xs)
  old-lists = subst (EachOwn (Listed h.live.links)) (sym refs-same) (to-own h.live.links n tab sound.laid.grafts)

  here : i < length (refs_at c xs)
  here = omega (arith, q, length-refs 119 n (drop (place l 7) xs))

  -- a write before the list of peers leaves the list
  pub list-kept : o + length bs ≤ 20 → Listed h.live.links (put o bs r.own)
  list-kept v = subst (Numbered h.live.links) (sym (drop-put 20 o bs r.own v (omega (arith, own-long)))) (old-lists.each i here)

  lists : Listed h.live.links (put o bs r.own) → EachOwn (Listed h.live.links) (refs_at c ys)
  lists listed =
      let e : refs_at c ys ≡ put i (ref r.place (put o bs r.own) ∷ []) (refs_at c xs) =
      ap (refs 119 n) (put-drop (place l 7) (i * 119 + (2 + o)) bs xs (omega (arith, sound.fit.long)))
      ∙ own-stored 119 n i o bs (drop (place l 7) xs) (omega arith) q (omega (arith, length-drop (place l 7) xs, n-in, sound.fit.long)) in
      subst (EachOwn (Listed h.live.links)) (sym e)
      (each-put (Listed h.live.links) i (ref r.place (put o bs r.own)) (refs_at c xs) listed old-lists here)

  pub own-goes : Listed h.live.links (put o bs r.own) → (g : Grafts) → grafts_of ps (put o bs r.own) x.rest ≡ g → Becomes (λ t. with_grafted (replace (grafted_at t i).key g t.grafted) t) h xs h ys
  unfolding state_of grafted_in
  own-goes listed g e =
      let k : x.key ≡ (grafted_at (state_of h xs) i).key = sym (ap (λ (z : Entry (Timed Grafts)). z.key) entry-same) in
      let all : grafted_in ps n (table l 7 ys) m (table l 8 ys) ≡ replace (grafted_at (state_of h xs) i).key g (state_of h xs).grafted =
      sym (cache-in l 7 119 n 8 40 m ys (lit< tt) n-in (lit< tt) m-in (grafts_of ps))
      ∙ ap (values_as (as_value (grafts_of ps))) (own-written c xs s i q lies o bs (omega arith))
      ∙ replace-as (as_value (grafts_of ps)) x.key (value_bytes (put o bs r.own) x.rest) (cache_at c xs)
      ∙ (λ z. replace (k z) (e z) (grafted-as h xs sound.fit z)) in
      record {
        state = grafted-state h xs ys sound n m (119 * (l.G + 1)) 0 (omega arith) (omega arith) ys-long only ∙ ap (λ (t : Cache Grafts). with_grafted t (state_of h xs)) all;
        sound = grafted-laid h xs ys sound n m (119 * (l.G + 1)) 0 (omega arith) (omega arith) ys-long only sound.fit.within.grafted sound.fit.within.grafted_rows (own-sound c xs s i q lies o bs (omega arith)) (lists listed);
      }

-- the store of other senders
module _ (h : Head) (xs : List ℕ) (sound : Sound h xs) (order : InOrder (state_of h xs).grafted) (i : ℕ) (there : i < length (state_of h xs).grafted.entries) where
  pub senders-goes : (bs : List ℕ) (p : Option Hop × Option ℕ) → length bs ≡ 20 → senders_in bs ≡ p → Becomes (senders_to i p) h xs h (put (place (limits_of h.limits) 7 + (i * 119 + 2)) bs xs)
  senders-goes bs p long e =
      let w : 0 + length bs ≤ 117 = omega arith in
      let same : grafts_at (state_of h xs) i ≡ grafts_of (peers_of h xs) (r h xs sound order i there 0 bs w).own (x h xs sound order i there 0 bs w).rest =
      ap (λ (y : Entry (Timed Grafts)). y.value.value) (entry-same h xs sound order i there 0 bs w) in
      let go = own-goes h xs sound order i there 0 bs w (list-kept h xs sound order i there 0 bs w (omega (arith, long))) (record { first = p.0; kept = p.1; peers = (grafts_at (state_of h xs) i).peers })
      (senders-value (peers_of h xs) (r h xs sound order i there 0 bs w).own (x h xs sound order i there 0 bs w).rest (own-long h xs sound order i there 0 bs w) bs long
      ∙ (λ z. record { first = (e z).0; kept = (e z).1; peers = (sym same z).peers })) in
      record { state = go.state; sound = go.sound }

-- the store of another list of peers
module _ (h : Head) (xs : List ℕ) (sound : Sound h xs) (order : InOrder (state_of h xs).grafted) (i : ℕ) (there : i < length (state_of h xs).grafted.entries) where
  pub peers-goes : (list : List ℕ) → length list ≡ 97 → Numbered h.live.links list
      → Becomes (λ s. with_grafted (replace (grafted_at s i).key (record { first = (grafts_at s i).first; kept = (grafts_at s i).kept; peers = hops_in (round_of (peers_of h xs)) list }) s.grafted) s) h xs h (put (place (limits_of h.limits) 7 + 119 * i + 22) list xs)
  peers-goes list long numbered =
      let lim : Limits = limits_of h.limits in
      let w : 20 + length list ≤ 117 = omega arith in
      let own : List ℕ = (r h xs sound order i there 20 list w).own in
      let rest : List ℕ = (x h xs sound order i there 20 list w).rest in
      let ol : length own ≡ 117 = own-long h xs sound order i there 20 list w in
      let e : place lim 7 + 119 * i + 22 ≡ place lim 7 + (i * 119 + (2 + 20)) = omega arith in
      let g : Grafts = record { first = (grafts_at (state_of h xs) i).first; kept = (grafts_at (state_of h xs) i).kept; peers = hops_in (round_of (peers_of h xs)) list } in
      let same : grafts_at (state_of h xs) i ≡ grafts_of (peers_of h xs) own rest = ap (λ (y : Entry (Timed Grafts)). y.value.value) (entry-same h xs sound order i there 20 list w) in
      let go = own-goes h xs sound order i there 20 list w (subst (Numbered h.live.links) (sym (list_put (peers_of h xs) own rest ol list long)) numbered) g
      (peers-value (peers_of h xs) own rest ol list long ∙ (λ z. record { first = (sym same z).first; kept = (sym same z).kept; peers = hops_in (round_of (peers_of h xs)) list })) in
      let f : State → State = λ s. with_grafted (replace (grafted_at s i).key (record { first = (grafts_at s i).first; kept = (grafts_at s i).kept; peers = hops_in (round_of (peers_of h xs)) list }) s.grafted) s in
      subst (Becomes f h xs h) (ap (λ (b : ℕ). put b list xs) (sym e)) (record { state = go.state; sound = go.sound })
