-- Link numbers after a link came in stand for the same peers: one law for numbers with rows beside them, and from it queue, record, missing and grafted.
-- Assumes nothing.
use Rattle.block.proofs.Words.{◌≡◌, refl, sym, ap, ◌∙◌, subst, List, [], ◌∷◌, ◌++◌, map, ℕ, suc, ◌+◌, ◌*◌, ◌≤◌, ◌<◌, zero-le, suc-le-suc, arith, length, take, drop, get_or, drop-drop, entry, put, le_nat, be_nat, rows, length_part, part-put, part-before, drop-put, get_or-put-before, put-drop, length-rows, get_d_rows, row-end, Ref, ref, places, shifted, Below, get_or-map-in, named-shifted, shifted-le, ExpiryRow, expiry_rows, expiry_of, entry_of, row_at, Grafts}
use Rattle.std.proofs.Common.{length-drop, get_or-drop, length-take-le}
use mathlib.Core.List.{map-map}
use lib.ListN.{length-map}
use Rattle.storage.specs.Rows.Part.{part}
use Rattle.storage.specs.Rows.Rows.{field_of}
use Rattle.storage.specs.Refs.Refs.{ref_of, refs}
use Rattle.time_cache.specs.Tables.{cache_of}
use Rattle.block.specs.View.{byte_at, half_at, id_at, flag_of, only_if, peer_of, note_of, notes_in, hops_in, hop_of, hops_of, missed_of, missing_in, round_of, grafts_of, grafted_in}
use Rattle.storage.specs.Refs.Numbers.{pairs, numbered, raised}
use Rattle.block.specs.Sound.{Numbered, AllNumbered}
use Rattle.block.proofs.Each.{Each, numbered-each}
use Rattle.block.specs.Neighbours.Raised.{raised_row}

below-tail : (m l : ℕ) (ls : List ℕ) → Below m (l ∷ ls) → Below m ls
below-tail m l ls b = record { below = λ i h. b.below (suc i) (suc-le-suc h) }

-- raised numbers are below one more
pub below_raised : (i m : ℕ) (ls : List ℕ) → Below m ls → Below (m + 1) (map (shifted i) ls)
below_raised i m ls b = record {
  below = λ j h.
      let q : j < length ls = omega (arith, length-map ls (shifted i)) in
      omega (arith, get_or-map-in (shifted i) ls j 0 0 q, shifted-le i (get_or ls j 0), b.below j q);
}

pub below_more : (m k : ℕ) (ls : List ℕ) → m ≤ k → Below m ls → Below k ls
below_more m k ls h b = record { below = λ j q. omega (arith, b.below j q) }

-- the first n numbers, raised
pub take-raised : (i n : ℕ) (c : List ℕ) → n ≤ length c → take n (raised i 0 n c) ≡ map (shifted i) (take n c)
unfolding raised part
take-raised i n c h =
    part-put 0 n (map (shifted i) (take n c)) c (length-map (take n c) (shifted i) ∙ length-take-le n c h) (omega arith)

-- a row with raised numbers in its list at o
module _ (i o : ℕ) (row : List ℕ) (h : o + 1 ≤ length row) where
  abbrev ns : List ℕ
  ns = map (shifted i) (part (o + 1) (byte_at o row) row)

  pub part-raised : (a k : ℕ) → a + k ≤ o + 1 → part a k (raised_row i o row) ≡ part a k row
  unfolding raised_row raised
  part-raised a k q = part-before a k (o + 1) ns row q h

  pub byte-raised : (a : ℕ) → a ≤ o → byte_at a (raised_row i o row) ≡ byte_at a row
  unfolding raised_row raised
  byte-raised a q = get_or-put-before (o + 1) a 0 ns row (omega arith) h

-- what follows the first a bytes of a row
pub drop-raised : (i a o : ℕ) (row : List ℕ) → a ≤ length row → drop a (raised_row i (a + o) row) ≡ raised_row i o (drop a row)
unfolding raised_row raised part
drop-raised i a o row h =
    let e : a + o + 1 ≡ a + (o + 1) = omega arith in
    let d : drop (a + o + 1) row ≡ drop (o + 1) (drop a row) = ap (λ (k : ℕ). drop k row) e ∙ sym (drop-drop (o + 1) a row) in
    (λ k. drop a (put (e k) (map (shifted i) (take (sym (get_or-drop a row o 0) k) (d k))) row))
    ∙ put-drop a (o + 1) (map (shifted i) (take (byte_at o (drop a row)) (drop (o + 1) (drop a row)))) row h

module _ {A : Type 0} (f g : ℕ → List ℕ → A) (i m : ℕ) (same : (l : ℕ) (row : List ℕ) → l < m → g (shifted i l) row ≡ f l row) where
  pub pairs-raised : (ls : List ℕ) (rs : List (List ℕ)) → Below m ls → pairs g (map (shifted i) ls) rs ≡ pairs f ls rs
  unfolding pairs
  pairs-raised [] rs b = refl
  pairs-raised (l ∷ ls) [] b = refl
  pairs-raised (l ∷ ls) (r ∷ rs) b = λ k. same l r (b.below 0 (suc-le-suc zero-le)) k ∷ pairs-raised ls rs (below-tail m l ls b) k

  pub numbered-raised : (s n : ℕ) (c b : List ℕ) → n ≤ length c → Below m (take n c) → numbered g s n (raised i 0 n c) b ≡ numbered f s n c b
  unfolding numbered
  numbered-raised s n c b h d = ap (λ (ls : List ℕ). pairs g ls (rows s n b)) (take-raised i n c h) ∙ pairs-raised (take n c) (rows s n b) d

  -- a list of numbers and rounds
  pub hops-raised : (list : List ℕ) → length list ≡ 97 → Numbered m list → hops_in g (raised_row i 0 list) ≡ hops_in f list
  unfolding hops_in raised_row raised part
  hops-raised list long n =
      let k : ℕ = byte_at 0 list in
      let ns : List ℕ = map (shifted i) (take k (drop 1 list)) in
      let lc : length (drop 1 list) ≡ 96 = length-drop 1 list ∙ (omega arith) in
      let ln : length ns ≡ k = length-map (take k (drop 1 list)) (shifted i) ∙ length-take-le k (drop 1 list) (omega (arith, n.few)) in
      let c : byte_at 0 (put 1 ns list) ≡ k = get_or-put-before 1 0 0 ns list (omega arith) (omega arith) in
      (λ z. numbered g 2 (c z) (put-drop 1 0 ns list (omega arith) z) (drop-put 33 1 ns list (omega (arith, n.few)) (omega arith) z))
      ∙ numbered-raised 2 k (drop 1 list) (drop 33 list) (omega (arith, n.few)) n.below

-- the bytes after the count of a list
after-count : (i : ℕ) (list : List ℕ) → 97 ≤ length list → drop 1 (raised_row i 0 list) ≡ raised i 0 (byte_at 0 list) (drop 1 list)
unfolding raised_row raised part
after-count i list h = put-drop 1 0 (map (shifted i) (take (byte_at 0 list) (drop 1 list))) list (omega arith)

-- the list of a row has its numbers below one more
pub numbered-row : (i o m : ℕ) (row : List ℕ) → o + 97 ≤ length row → Numbered m (drop o row) → Numbered (m + 1) (drop o (raised_row i o row))
numbered-row i o m row h n =
    let list : List ℕ = drop o row in
    let z : o + 0 ≡ o = omega arith in
    let ll : 97 ≤ length list = omega (arith, length-drop o row) in
    let e : drop o (raised_row i o row) ≡ raised_row i 0 list = ap (λ (a : ℕ). drop o (raised_row i a row)) (sym z) ∙ drop-raised i o 0 row (omega arith) in
    subst (Numbered (m + 1)) (sym e) (of-list list ll n)
  where
    of-list : (list : List ℕ) → 97 ≤ length list → Numbered m list → Numbered (m + 1) (raised_row i 0 list)
    of-list list ll n =
        let c : byte_at 0 (raised_row i 0 list) ≡ byte_at 0 list = byte-raised i 0 list (omega arith) 0 (omega arith) in
        let d : drop 1 (raised_row i 0 list) ≡ raised i 0 (byte_at 0 list) (drop 1 list) = after-count i list ll in
        let lc : byte_at 0 list ≤ length (drop 1 list) = omega (arith, length-drop 1 list, n.few) in
        record {
          few = omega (arith, n.few);
          below = subst (Below (m + 1)) (sym ((λ k. take (c k) (d k)) ∙ take-raised i (byte_at 0 list) (drop 1 list) lc)) (below_raised i m (take (byte_at 0 list) (drop 1 list)) n.below);
        }

-- each row of a table with lists at o
module _ (i o s n m : ℕ) (xs : List ℕ) (wide : o + 97 ≤ s) (room : n * s ≤ length xs) (all : AllNumbered m o s n xs) where
  -- it is s bytes long, and its numbers are below m
  abbrev pub Listed : List ℕ → Type 0
  Listed row = (length row ≡ s) × Numbered m (drop o row)

  pub each-listed : Each Listed (rows s n xs)
  each-listed j h =
      let q : j < n = omega (arith, length-rows s n xs) in
      subst Listed (sym (get_d_rows s n j [] xs q)) (length_part (j * s) s xs (omega (arith, row-end s n j q)), all.each j q)

  map-listed : {A : Type 0} (f g : List ℕ → A) → ((row : List ℕ) → Listed row → g (raised_row i o row) ≡ f row) → (rs : List (List ℕ)) → Each Listed rs → map g (map (raised_row i o) rs) ≡ map f rs
  map-listed f g e [] a = refl
  map-listed f g e (r ∷ rs) a = λ k. e r (a 0 (suc-le-suc zero-le)) k ∷ map-listed f g e rs (λ j h. a (suc j) (suc-le-suc h)) k

  module _ (ys : List ℕ) (new : rows s n ys ≡ map (raised_row i o) (rows s n xs)) where
    -- a table's view, where each row is seen as before
    pub view-raised : {A : Type 0} (f g : List ℕ → A) → ((row : List ℕ) → Listed row → g (raised_row i o row) ≡ f row) → map g (rows s n ys) ≡ map f (rows s n xs)
    view-raised f g e = ap (map g) new ∙ map-listed f g e (rows s n xs) each-listed

    pub all-raised : AllNumbered (m + 1) o s n ys
    all-raised = numbered-each (m + 1) o s n ys (λ j h.
        let q : j < n = omega (arith, length-rows s n ys) in
        let l : j < length (rows s n xs) = omega (arith, length-rows s n xs) in
        let a = each-listed j l in
        subst (λ (row : List ℕ). Numbered (m + 1) (drop o row)) (sym (ap (λ (rs : List (List ℕ)). get_or rs j []) new ∙ get_or-map-in (raised_row i o) (rows s n xs) j [] [] l))
        (numbered-row i o m (get_or (rows s n xs) j []) (omega (arith, a.0)) a.1))

-- with the peer p come in at i
module _ (i p : ℕ) (ps : List ℕ) (h : i ≤ length ps) where
  abbrev pub with-p : List ℕ
  with-p = take i ps ++ (p ∷ drop i ps)

  abbrev m : ℕ
  m = length ps

  peer-raised : (l : ℕ) → l < m → peer_of with-p (shifted i l) ≡ peer_of ps l
  peer-raised l q = named-shifted 0 i l p ps h q

  note-raised : (l : ℕ) (row : List ℕ) → l < m → note_of with-p (shifted i l) row ≡ note_of ps l row
  unfolding note_of
  note-raised l row q = ap (λ (x : ℕ). record { peer = x; id = id_at 0 row; round = half_at 32 row }) (peer-raised l q)

  hop-raised : (l : ℕ) (row : List ℕ) → l < m → hop_of with-p (shifted i l) row ≡ hop_of ps l row
  unfolding hop_of
  hop-raised l row q = ap (λ (x : ℕ). record { peer = x; round = le_nat row }) (peer-raised l q)

  round-raised : (l : ℕ) (row : List ℕ) → l < m → round_of with-p (shifted i l) row ≡ round_of ps l row
  unfolding round_of
  round-raised l row q = ap (λ (x : ℕ). entry x (le_nat row)) (peer-raised l q)

  -- queue and record
  pub notes-raised : (n : ℕ) (c b : List ℕ) → n ≤ length c → Below m (take n c) → notes_in with-p n (raised i 0 n c) b ≡ notes_in ps n c b
  unfolding notes_in
  notes-raised n c b q d = numbered-raised (note_of ps) (note_of with-p) i m note-raised 34 n c b q d

  missed-raised : (row : List ℕ) → (length row ≡ 129) × Numbered m (drop 32 row) → missed_of with-p (raised_row i 32 row) ≡ missed_of ps row
  unfolding missed_of hops_of id_at
  missed-raised row l =
      let e : drop 32 (raised_row i 32 row) ≡ raised_row i 0 (drop 32 row) = drop-raised i 32 0 row (omega (arith, l.0)) in
      λ k. entry (be_nat (part-raised i 32 row (omega (arith, l.0)) 0 32 (omega arith) k))
      ((ap (hops_in (hop_of with-p)) e ∙ hops-raised (hop_of ps) (hop_of with-p) i m hop-raised (drop 32 row) (length-drop 32 row ∙ (omega (arith, l.0))) l.1) k)

  pub missing-raised : (n : ℕ) (xs ys : List ℕ) → n * 129 ≤ length xs → AllNumbered m 32 129 n xs → rows 129 n ys ≡ map (raised_row i 32) (rows 129 n xs)
      → missing_in with-p n ys ≡ missing_in ps n xs
  unfolding missing_in
  missing-raised n xs ys room all new = view-raised i 32 129 n m xs (omega arith) room all ys new (missed_of ps) (missed_of with-p) missed-raised

  grafts-raised : (own rest : List ℕ) → length own ≡ 117 → Numbered m (drop 20 own) → grafts_of with-p (raised_row i 20 own) rest ≡ grafts_of ps own rest
  unfolding grafts_of field_of half_at
  grafts-raised own rest l n =
      let q : 20 + 1 ≤ length own = omega arith in
      let e : drop 20 (raised_row i 20 own) ≡ raised_row i 0 (drop 20 own) = drop-raised i 20 0 own (omega arith) in
      λ k. record {
        first = only_if (flag_of (byte-raised i 20 own q 0 (omega arith) k)) (record { peer = le_nat (part-raised i 20 own q 1 8 (omega arith) k); round = le_nat (part-raised i 20 own q 9 2 (omega arith) k) });
        kept = only_if (flag_of (byte-raised i 20 own q 11 (omega arith) k)) (le_nat (part-raised i 20 own q 12 8 (omega arith) k));
        peers = (ap (hops_in (round_of with-p)) e ∙ hops-raised (round_of ps) (round_of with-p) i m round-raised (drop 20 own) (length-drop 20 own ∙ (omega arith)) n) k;
      }

  place-raised : (row : List ℕ) → length row ≡ 119 → ref_of (raised_row i 22 row) ≡ ref (ref_of row).place (raised_row i 20 (drop 2 row))
  unfolding ref_of
  place-raised row l = λ k. ref (le_nat (part-raised i 22 row (omega arith) 0 2 (omega arith) k)) (drop-raised i 2 20 row (omega arith) k)

  own-numbered : (row : List ℕ) → Numbered m (drop 22 row) → Numbered m (drop 20 (drop 2 row))
  own-numbered row n = subst (Numbered m) (sym (drop-drop 20 2 row)) n

  entry-raised : (es : List ExpiryRow) (row : List ℕ) → (length row ≡ 119) × Numbered m (drop 22 row)
      → entry_of (grafts_of with-p) es (ref_of (raised_row i 22 row)) ≡ entry_of (grafts_of ps) es (ref_of row)
  unfolding ref_of
  entry-raised es row l =
      let x : ExpiryRow = row_at es (le_nat (part 0 2 row)) in
      ap (λ (r : Ref). entry_of (grafts_of with-p) es r) (place-raised row l.0)
      ∙ ap (λ (g : Grafts). entry x.key (record { expires = x.time; value = g })) (grafts-raised (drop 2 row) x.rest (length-drop 2 row ∙ (omega (arith, l.0))) (own-numbered row l.1))

  module _ (n : ℕ) (xs ys : List ℕ) (room : n * 119 ≤ length xs) (all : AllNumbered m 22 119 n xs) (new : rows 119 n ys ≡ map (raised_row i 22) (rows 119 n xs)) where
    pub grafted-raised : (r : ℕ) (expiry : List ℕ) → grafted_in with-p n ys r expiry ≡ grafted_in ps n xs r expiry
    unfolding grafted_in cache_of refs
    grafted-raised r expiry =
        let es : List ExpiryRow = expiry_rows 40 r expiry in
        let e : map (entry_of (grafts_of with-p) es) (map ref_of (rows 119 n ys)) ≡ map (entry_of (grafts_of ps) es) (map ref_of (rows 119 n xs)) =
        map-map (entry_of (grafts_of with-p) es) ref_of (rows 119 n ys)
        ∙ view-raised i 22 119 n m xs (omega arith) room all ys new (λ row. entry_of (grafts_of ps) es (ref_of row)) (λ row. entry_of (grafts_of with-p) es (ref_of row)) (entry-raised es)
        ∙ sym (map-map (entry_of (grafts_of ps) es) ref_of (rows 119 n xs)) in
        λ k. record { entries = e k; expiry = map expiry_of es }

    pub places-raised : places (refs 119 n ys) ≡ places (refs 119 n xs)
    unfolding refs
    places-raised =
        map-map (λ (r : Ref). r.place) ref_of (rows 119 n ys)
        ∙ view-raised i 22 119 n m xs (omega arith) room all ys new (λ row. (ref_of row).place) (λ row. (ref_of row).place) (λ row l. ap (λ (r : Ref). r.place) (place-raised row l.0))
        ∙ sym (map-map (λ (r : Ref). r.place) ref_of (rows 119 n xs))
