-- The writes of a graft, as steps of the state: a peer more, a lower round, and the known round where it is no higher.
-- Assumes nothing.
use Rattle.block.proofs.Words.{Option, Some, None, ◌≡◌, refl, sym, ap, ◌∙◌, subst, List, [], ◌∷◌, ◌++◌, ℕ, ◌+◌, ◌*◌, ◌^◌, ◌≤◌, ◌<◌, min, arith, length, take, drop, get_or, get_or-map, Map, Entry, entry, keys, lookup, insert, part, put, le_bytes, Ascending, Here, Between, le_nat-le_bytes, Timed, Cache, up_of, insert-between, insert-here, lookup-here, lookup-between, State, Grafts, with_grafted}
use lib.ListN.{length-map}
use Rattle.time_cache.specs.TimeCache.{value_of, get, put as put_in, with_value, replace}
use Rattle.protocol.specs.Control.{lower, with_graft}
use Rattle.block.specs.Layout.{place}
use Rattle.block.specs.View.{state_of, limits_of, byte_at, peer_of, round_of, hops_in}
use Rattle.block.specs.Sound.{Numbered, Sound}
use Rattle.block.specs.Becomes.{Becomes}
use Rattle.block.specs.LinkSteps.{peer_at}
use Rattle.block.specs.MissingSteps.{hop}
use Rattle.block.specs.declared.head.Head.{Head}
use Rattle.block.proofs.LinkLaws.{count-links}
use Rattle.block.proofs.HopLaws.{count-hops, hop-in}
use Rattle.block.proofs.AnnounceLaws.{insert-same, insert-long}
use Rattle.block.specs.Caches.InBlock.{AtMost}
use Rattle.block.specs.Caches.GraftSteps.{grafted_at, grafts_at, Grafting, peers_to, peers_with, no_grafts, graft_noted}
use Rattle.block.proofs.CachesLaws.GraftedLaws.{peers_of}
use Rattle.block.proofs.CachesLaws.GraftLaws.{list-long, list-numbered, peers-row}
use Rattle.block.proofs.CachesLaws.GraftWrites.{peers-goes}
use Rattle.block.specs.HopSteps.{inserted_hop, round_put}
use Rattle.block.proofs.GraftsLaws.ListWrites.{inserted-long, hops-insert, numbered-inserted, round-long, hops-round, numbered-round}
use Rattle.block.proofs.GraftsLaws.PeerLaws.{peers-up, peers-few, key-at}

-- the value that is there
replace-same : (m : Map (Timed Grafts)) (i : ℕ) (d : Entry (Timed Grafts)) → d.key ≡ 0 → Ascending (keys m) → i < length m
    → with_value (get_or m i d).key (get_or m i d).value.value (lookup (get_or m i d).key m) m ≡ m
unfolding with_value
replace-same m i d z up h =
    let k : ℕ = (get_or m i d).key in
    let here : Here (keys m) k i = record {
      within = omega (arith, length-map m (λ (e : Entry (Timed Grafts)). e.key));
      same = ap (get_or (keys m) i) (sym z) ∙ get_or-map (λ (e : Entry (Timed Grafts)). e.key) m i d;
    } in
    ap (λ (o : Option (Timed Grafts)). with_value k (get_or m i d).value.value o m) (lookup-here k i d m up here)
    ∙ insert-same k i d m up here z

module _ (h : Head) (xs : List ℕ) (sound : Sound h xs) (g : Grafting (state_of h xs)) (i : ℕ) (q : i < length (state_of h xs).grafted.entries) (link rd : ℕ) (ql : link < length (state_of h xs).links) (hr : rd < 256 ^ 2) where
  abbrev st : State
  st = state_of h xs

  abbrev peers : Map ℕ
  peers = (grafts_at st i).peers

  abbrev p : ℕ
  p = peer_at st link

  abbrev at : ℕ
  at = place (limits_of h.limits) 7 + 119 * i + 22

  abbrev list : List ℕ
  list = part at 97 xs

  abbrev f : ℕ → List ℕ → Entry ℕ
  f = round_of (peers_of h xs)

  long : length list ≡ 97
  long = list-long h xs sound i q

  num : Numbered h.live.links list
  num = list-numbered h xs sound i q

  row : peers ≡ hops_in f list
  row = peers-row h xs sound i q

  many : byte_at 0 list ≡ length peers
  many = sym (ap length row ∙ count-hops list long f num.few)

  fresh : f link (le_bytes 2 rd) ≡ entry p rd
  unfolding round_of state_of
  fresh = λ z. entry p (le_nat-le_bytes 2 rd hr z)

  -- a peer more
  pub insert-goes : (j : ℕ) → Between (keys peers) p j → Becomes (λ s. peers_to i (peers_with i (peer_at s link) rd s) s) h xs h (put at (inserted_hop j link rd list) xs)
  unfolding lower
  insert-goes j b =
      let hj : j ≤ byte_at 0 list = omega (arith, b.within, length-map peers (λ (e : Entry ℕ). e.key), many) in
      let few : byte_at 0 list < 32 = omega (arith, peers-few st g i q link j (omega (arith, count-links h xs, sound.fit.within.links, sound.fit.ceilings.N)) ql b, many) in
      let value : hops_in f (inserted_hop j link rd list) ≡ peers_with i p rd st =
      hops-insert list long j link rd hj few f
      ∙ (λ z. take j (sym row z) ++ (fresh z ∷ drop j (sym row z)))
      ∙ sym (insert-between p rd j peers b)
      ∙ ap (λ (o : Option ℕ). insert p (lower o rd) peers) (sym (lookup-between p j peers b)) in
      let go = peers-goes h xs sound g.order i q (inserted_hop j link rd list) (inserted-long list long j link rd hj few) (numbered-inserted list long j link rd hj few h.live.links num (omega (arith, ql, count-links h xs))) in
      record { state = go.state ∙ ap (λ (m : Map ℕ). peers_to i m st) value; sound = go.sound }

  module _ (j : ℕ) (here : Here (keys peers) p j) where
    there : j < length peers
    there = omega (arith, here.within, length-map peers (λ (e : Entry ℕ). e.key))

    known : ℕ
    known = (get_or peers j (entry 0 0)).value

    low : peers_with i p rd st ≡ insert p (min known rd) peers
    unfolding lower known
    low = ap (λ (o : Option ℕ). insert p (lower o rd) peers) (lookup-here p j (entry 0 0) peers (peers-up st g i q) here)

    -- a lower round
    pub lower-goes : (k : ℕ) → (get_or peers j (entry 0 0)).value ≡ k → rd < k → Becomes (λ s. peers_to i (peers_with i (peer_at s link) rd s) s) h xs h (put at (round_put j rd list) xs)
    unfolding round_of known
    lower-goes k e lt =
        let jk : j < byte_at 0 list = omega (arith, there, many) in
        let few : byte_at 0 list ≤ 32 = num.few in
        let key : peer_of (peers_of h xs) (get_or list (1 + j) 0) ≡ p =
        sym (ap (λ (y : Entry ℕ). y.key) (ap (λ (m : Map ℕ). get_or m j (entry 0 0)) row ∙ hop-in list long f j (entry 0 0) jk few)) ∙ sym (key-at st g i q j) ∙ here.same in
        let m0 : min known rd ≡ rd = omega (arith, e, lt) in
        let value : hops_in f (round_put j rd list) ≡ peers_with i p rd st =
        hops-round list long j rd jk few f
        ∙ (λ z. put j (entry (key z) (le_nat-le_bytes 2 rd hr z) ∷ []) (sym row z))
        ∙ sym (insert-here p rd j peers (peers-up st g i q) here)
        ∙ sym (low ∙ ap (λ (n : ℕ). insert p n peers) m0) in
        let go = peers-goes h xs sound g.order i q (round_put j rd list) (round-long list long j rd jk few) (numbered-round list long j rd jk few h.live.links num) in
        record { state = go.state ∙ ap (λ (m : Map ℕ). peers_to i m st) value; sound = go.sound }

    -- the known round
    pub same-goes : (k : ℕ) → (get_or peers j (entry 0 0)).value ≡ k → k ≤ rd → Becomes (λ s. peers_to i (peers_with i (peer_at s link) rd s) s) h xs h xs
    unfolding replace known
    same-goes k e le =
        let m0 : min known rd ≡ (get_or peers j (entry 0 0)).value = omega (arith, e, le) in
        let d : Entry (Timed Grafts) = entry 0 (record { expires = 0; value = record { first = None; kept = None; peers = [] } }) in
        let value : peers_with i p rd st ≡ peers = low ∙ ap (λ (n : ℕ). insert p n peers) m0 ∙ insert-same p j (entry 0 0) peers (peers-up st g i q) here refl in
        let es : Map (Timed Grafts) = st.grafted.entries in
        let back : replace (grafted_at st i).key (grafts_at st i) st.grafted ≡ st.grafted = λ z. record {
          entries = replace-same es i d refl (up_of (keys es) g.order.up) q z;
          expiry = st.grafted.expiry;
        } in
        record { state = sym (ap (λ (m : Map ℕ). peers_to i m st) value ∙ ap (λ (c : Cache Grafts). with_grafted c st) back); sound = sound }

-- the entry of an identifier that was found, and a new one
module _ (s : State) (id link rd expires j : ℕ) where
  abbrev entries : Map (Timed Grafts)
  entries = s.grafted.entries

  abbrev nothing : Entry (Timed Grafts)
  nothing = entry 0 (record { expires = 0; value = record { first = None; kept = None; peers = [] } })

  abbrev one : Grafts
  one = record { first = no_grafts.first; kept = no_grafts.kept; peers = entry (peer_at s link) rd ∷ [] }

  pub noted_here : Ascending (keys entries) → Here (keys entries) id j → peers_to j (peers_with j (peer_at s link) rd s) s ≡ graft_noted id link rd expires s
  unfolding with_graft get value_of
  noted_here up h =
      let key : (grafted_at s j).key ≡ id = sym (get_or-map (λ (e : Entry (Timed Grafts)). e.key) entries j nothing) ∙ h.same in
      let found : get id s.grafted ≡ Some (grafts_at s j) = ap value_of (lookup-here id j nothing entries up h) in
      (λ z. with_grafted (replace (key z) (record { first = (grafts_at s j).first; kept = (grafts_at s j).kept; peers = peers_with j (peer_at s link) rd s }) s.grafted) s)
      ∙ ap (λ (o : Option Grafts). with_grafted (with_graft id expires (hop (peer_at s link) rd) o s.grafted) s) (sym found)

  module _ (b : Between (keys entries) id j) where
    pub noted-new : with_grafted (put_in id one expires s.grafted) s ≡ graft_noted id link rd expires s
    unfolding with_graft get value_of
    noted-new = ap (λ (o : Option Grafts). with_grafted (with_graft id expires (hop (peer_at s link) rd) o s.grafted) s) (sym (ap value_of (lookup-between id j entries b)))

    pub new-most : (n : ℕ) → Ascending (keys entries) → AtMost n (graft_noted id link rd expires s).grafted → AtMost n (put_in id no_grafts expires s.grafted)
    unfolding put_in
    new-most n up most =
        let same : AtMost n (put_in id one expires s.grafted) = subst (λ (y : State). AtMost n y.grafted) (sym noted-new) most in
        let v : Timed Grafts = record { expires = expires; value = one } in
        let w : Timed Grafts = record { expires = expires; value = no_grafts } in
        record { entries = omega (arith, same.entries, insert-long id j v v entries up b, insert-long id j w w entries up b); expiry = same.expiry }
