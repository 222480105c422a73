-- One grafted message: its bytes as the view reads them, and what a write of its `first` or `kept` does to the state.
-- Assumes nothing.
use Rattle.block.proofs.Words.{None, ◌≡◌, sym, ap, ◌∙◌, subst, List, [], ℕ, ◌+◌, ◌*◌, ◌≤◌, ◌<◌, arith, lit<, length, take, drop, get_or, take_all, Map, Entry, entry, le_nat, length_part, part-part, get_d_part, Ref, ref, refs, get_or-map-in, length-refs, Timed, ExpiryRow, expiry_rows, entry_of, ref_at, Limits, Grafts}
use Rattle.std.proofs.Common.{length-drop, get_or-drop, get_or-take, length-take-le}
use Rattle.storage.specs.Rows.Part.{part}
use Rattle.time_cache.specs.Tables.{cache_of}
use Rattle.block.specs.Layout.{place, table}
use Rattle.block.specs.View.{state_of, limits_of, byte_at, hops_in, round_of, grafts_of, grafted_in}
use Rattle.block.specs.Sound.{Numbered, Sound}
use Rattle.block.specs.HopSteps.{HopIn}
use Rattle.block.specs.declared.head.Head.{Head}
use Rattle.block.specs.declared.hops.Hop.{Hop as LinkHop}
use Rattle.block.proofs.Tables.{length-table, field_in}
use Rattle.block.proofs.LinkLaws.{count-links}
use Rattle.block.proofs.HopLaws.{count-hops, hop-in}
use Rattle.block.specs.Caches.GraftSteps.{grafted_at, grafts_at, GraftIs}
use Rattle.block.proofs.CachesLaws.GraftedLaws.{peers_of, own-list, count-grafted}

module _ (h : Head) (xs : List ℕ) (sound : Sound h xs) (i : ℕ) (there : i < length (state_of h xs).grafted.entries) where
  abbrev l : Limits
  l = limits_of h.limits

  abbrev n : ℕ
  n = h.live.grafted

  abbrev tab : List ℕ
  tab = table l 7 xs

  abbrev ps : List ℕ
  ps = peers_of h xs

  abbrev es : List Ref
  es = refs 119 n tab

  abbrev rs : List ExpiryRow
  rs = expiry_rows 40 h.live.grafted_rows (table l 8 xs)

  abbrev row : List ℕ
  row = part (i * 119) 119 tab

  pub entry-below : i < n
  entry-below = omega (arith, there, count-grafted h xs sound.fit)

  -- where its list stands, and the list
  abbrev pub peers_place : ℕ
  peers_place = place l 7 + 119 * i + 22

  abbrev pub list : List ℕ
  list = part peers_place 97 xs

  long7 : length tab ≡ 119 * (l.G + 1)
  long7 = length-table l 7 xs (lit< tt) sound.fit.long

  row-long : length row ≡ 119
  row-long = length_part (i * 119) 119 tab (omega (arith, entry-below, long7, sound.fit.within.grafted))

  pub list-long : length list ≡ 97
  list-long = length_part peers_place 97 xs (omega (arith, entry-below, sound.fit.long, sound.fit.within.grafted))

  list-in : drop 22 row ≡ list
  unfolding part
  list-in =
      let a : place l 7 + (i * 119 + 22) ≡ peers_place = omega arith in
      sym (take_all 97 (drop 22 row) (omega (arith, length-drop 22 row, row-long)))
      ∙ field_in l 7 119 i 22 97 xs (lit< tt) (omega arith) (omega (arith, entry-below, sound.fit.within.grafted))
      ∙ ap (λ (b : ℕ). part b 97 xs) a

  pub grafted-entry : grafted_at (state_of h xs) i ≡ entry_of (grafts_of ps) rs (ref_at es i)
  unfolding state_of grafted_in cache_of
  grafted-entry = get_or-map-in (entry_of (grafts_of ps) rs) es i (entry 0 (record { expires = 0; value = record { first = None; kept = None; peers = [] } })) (ref 0 []) (omega (arith, entry-below, length-refs 119 n tab))

  pub peers-row : (grafts_at (state_of h xs) i).peers ≡ hops_in (round_of ps) list
  unfolding grafts_of
  peers-row = ap (λ (e : Entry (Timed Grafts)). e.value.value.peers) grafted-entry ∙ ap (hops_in (round_of ps)) (own-list h.live.links n tab i entry-below ∙ list-in)

  pub list-numbered : Numbered h.live.links list
  list-numbered = subst (Numbered h.live.links) list-in (sound.laid.grafts.each i entry-below)

  first_byte : byte_at 0 list ≡ get_or xs peers_place 0
  first_byte =
      let z : peers_place + 0 ≡ peers_place = omega arith in
      get_d_part peers_place 97 0 0 xs (omega arith) ∙ ap (λ (o : ℕ). get_or xs o 0) z

  pub graft-many : get_or xs peers_place 0 ≡ length (grafts_at (state_of h xs) i).peers
  graft-many = sym (ap length peers-row ∙ count-hops list list-long (round_of ps) list-numbered.few ∙ first_byte)

  pub graft-few : get_or xs peers_place 0 ≤ 32
  graft-few = omega (arith, list-numbered.few, first_byte)

  -- peer j
  pub graft-hop : (j : ℕ) (r : LinkHop) → j < length (grafts_at (state_of h xs) i).peers → HopIn peers_place j xs r → GraftIs (state_of h xs) (grafts_at (state_of h xs) i).peers j r
  unfolding state_of round_of
  graft-hop j r g e =
      let k : ℕ = byte_at 0 list in
      let jk : j < k = omega (arith, ap length peers-row, count-hops list list-long (round_of ps) list-numbered.few) in
      let few : k ≤ 32 = list-numbered.few in
      let a : peers_place + (1 + j) ≡ peers_place + 1 + j = omega arith in
      let b : peers_place + (33 + 2 * j) ≡ peers_place + 33 + 2 * j = omega arith in
      let link : get_or list (1 + j) 0 ≡ r.link = get_d_part peers_place 97 (1 + j) 0 xs (omega arith) ∙ ap (λ (o : ℕ). get_or xs o 0) a ∙ sym e.link in
      let round : le_nat (part (33 + 2 * j) 2 list) ≡ r.round.0 = ap le_nat (part-part (33 + 2 * j) 2 peers_place 97 xs (omega arith) ∙ ap (λ (o : ℕ). part o 2 xs) b) ∙ sym e.round in
      let at : get_or (take k (drop 1 list)) j 0 < h.live.links = list-numbered.below.below j (omega (arith, length-take-le k (drop 1 list) (omega (arith, length-drop 1 list, list-long)))) in
      record {
        below = omega (arith, at, get_or-take k (drop 1 list) j 0 jk, get_or-drop 1 list j 0, link, count-links h xs);
        same = ap (λ (hs : Map ℕ). get_or hs j (entry 0 0)) peers-row
            ∙ hop-in list list-long (round_of ps) j (entry 0 0) jk few
            ∙ (λ z. entry (get_or ps (link z) 0) (round z));
      }
