-- What the tables hold after a link went: notes, missing messages, grafted messages.
-- Assumes nothing.
use Rattle.block.proofs.Words.{◌≡◌, refl, sym, ap, ◌∙◌, subst, Bool, true, false, not, List, [], ◌∷◌, map, ℕ, zero, suc, ◌+◌, ◌-◌, ◌≤◌, ◌<◌, zero-le, suc-le-suc, le_of_suc-le-suc, not-suc-le-zero, arith, eq-eqb, ne_eqb, eqb, length, take, drop, get_or, drop-drop, take-take, if◌then◌else◌, is_empty, Map, Entry, entry, le_nat, be_nat, rows, Ascending, drop-take, Ref, ref, places, Below, Timed, ExpiryRow, expiry_rows, expiry_of, entry_of, row_at, Hop, Grafts, without_announcer, without_notes, numbered, lower_all}
use Rattle.std.proofs.Common.{get_or-drop}
use mathlib.Core.List.{map-map}
use Rattle.storage.specs.Lists.Base.{filter}
use Rattle.storage.specs.Rows.Part.{part}
use Rattle.storage.specs.Refs.Refs.{ref_of, refs}
use Rattle.time_cache.specs.Tables.{cache_of}
use Rattle.protocol.specs.Neighbours.{forget_announcer, without_graft, forget_grafted}
use Rattle.block.specs.View.{byte_at, id_at, peer_of, note_of, notes_in, hops_in, hop_of, hops_of, missed_of, missing_in, round_of, grafts_of, grafted_in}
use Rattle.block.specs.Sound.{Numbered, AllNumbered}
use Rattle.block.specs.Caches.GraftSteps.{senders_in}
use Rattle.block.proofs.CachesLaws.GraftWrites.{senders-front}
use Rattle.block.proofs.Each.{Each, each-numbered, numbered-each}
use Rattle.block.specs.Neighbours.Lowered.{without_peer, Listed, listed_of, listed, lower_listed, has_announcers}
use Rattle.block.proofs.NeighboursLaws.LoweredLaws.{read_by}
use Rattle.block.proofs.NeighboursLaws.LoweredRefs.{below-lowered, length-lowered, notes-lowered, hops-lowered, rounds-lowered, places-numbered, numbered-few, numbered-read}

-- rows with at most 32 numbers each, all below m
pub data Fine : ℕ → List Listed → Type 0 where
  none : {m : ℕ} → Fine m []
  more : {m : ℕ} (r : Listed) (rs : List Listed) → r.count ≤ 32 → length r.hops ≤ r.count → Below m (places r.hops) → Fine m rs → Fine m (r ∷ rs)

places-hops : (list : List ℕ) → places (hops_in ref list) ≡ take (byte_at 0 list) (drop 1 list)
unfolding hops_in
places-hops list = places-numbered 2 (byte_at 0 list) (drop 1 list) (drop 33 list)

hops-few : (list : List ℕ) → length (hops_in ref list) ≤ byte_at 0 list
unfolding hops_in
hops-few list = numbered-few 2 (byte_at 0 list) (drop 1 list) (drop 33 list)

byte-list : (o : ℕ) (row : List ℕ) → byte_at 0 (drop o row) ≡ byte_at o row
byte-list o row = let z : o + 0 ≡ o = omega arith in get_or-drop o row 0 0 ∙ ap (λ (a : ℕ). get_or row a 0) z

-- from the bytes, and back to them
fine-rows : (m o : ℕ) (rs : List (List ℕ)) → Each (λ row. Numbered m (drop o row)) rs → Fine m (map (listed_of o) rs)
unfolding listed_of
fine-rows m o [] e = none
fine-rows m o (r ∷ rs) e =
    let n : Numbered m (drop o r) = e 0 (suc-le-suc zero-le) in
    more (listed_of o r) (map (listed_of o) rs) (omega (arith, n.few, byte-list o r)) (omega (arith, hops-few (drop o r), byte-list o r))
    (subst (Below m) (sym (places-hops (drop o r))) n.below) (fine-rows m o rs (λ j h. e (suc j) (suc-le-suc h)))

rows-fine : (m o : ℕ) (rs : List (List ℕ)) → Fine m (map (listed_of o) rs) → Each (λ row. Numbered m (drop o row)) rs
unfolding listed_of
rows-fine m o [] f j h = absurd (not-suc-le-zero h)
rows-fine m o (r ∷ rs) (more _ _ few le b f) zero h = record { few = omega (arith, byte-list o r); below = subst (Below m) (places-hops (drop o r)) b }
rows-fine m o (r ∷ rs) (more _ _ few le b f) (suc j) h = rows-fine m o rs f j (le_of_suc-le-suc h)

pub fine_of : (m o s n : ℕ) (bytes : List ℕ) → AllNumbered m o s n bytes → Fine m (listed o s n bytes)
unfolding listed
fine_of m o s n bytes a = fine-rows m o (rows s n bytes) (each-numbered m o s n bytes a)

pub of-fine : (m o s n : ℕ) (bytes : List ℕ) → Fine m (listed o s n bytes) → AllNumbered m o s n bytes
unfolding listed
of-fine m o s n bytes f = numbered-each m o s n bytes (rows-fine m o (rows s n bytes) f)

pub fine-lowered : (i m : ℕ) → i < m → (rs : List Listed) → Fine m rs → Fine (m - 1) (map (lower_listed i) rs)
fine-lowered i m h [] none = none
fine-lowered i m h (r ∷ rs) (more _ _ few le b f) =
    more (lower_listed i r) (map (lower_listed i) rs) (omega (arith, length-lowered i r.hops)) (omega arith) (below-lowered i m h r.hops b) (fine-lowered i m h rs f)

fine-step : (m : ℕ) (r : Listed) (rs : List Listed) (x : Bool) → r.count ≤ 32 → length r.hops ≤ r.count → Below m (places r.hops) → Fine m rs → Fine m (if x then r ∷ rs else rs)
fine-step m r rs true few le b f = more r rs few le b f
fine-step m r rs false few le b f = f

pub fine-filter : (m : ℕ) (q : Listed → Bool) (rs : List Listed) → Fine m rs → Fine m (filter q rs)
unfolding filter
fine-filter m q [] none = none
fine-filter m q (r ∷ rs) (more _ _ few le b f) = fine-step m r (filter q rs) (q r) few le b (fine-filter m q rs f)

-- what is read from a list, by way of its numbers and rounds
hops-read : {A : Type 0} (f : ℕ → List ℕ → A) (list : List ℕ) → hops_in f list ≡ map (read_by f) (hops_in ref list)
unfolding hops_in
hops-read f list = numbered-read f 2 (byte_at 0 list) (drop 1 list) (drop 33 list)

-- a missing message, from its row
abbrev seen_missed : List ℕ → Listed → Entry (List Hop)
seen_missed ps r = entry (be_nat (part 0 32 r.head)) (map (read_by (hop_of ps)) r.hops)

missed-seen : (ps row : List ℕ) → missed_of ps row ≡ seen_missed ps (listed_of 32 row)
unfolding missed_of hops_of id_at listed_of part
missed-seen ps row = λ k. entry (be_nat (sym (take-take 32 32 row (omega arith)) k)) (hops-read (hop_of ps) (drop 32 row) k)

map_each : {A B : Type 0} (f g : A → B) → ((x : A) → f x ≡ g x) → (xs : List A) → map f xs ≡ map g xs
map_each f g e [] = refl
map_each f g e (x ∷ xs) = λ k. e x k ∷ map_each f g e xs k

missing-seen : (ps : List ℕ) (n : ℕ) (bytes : List ℕ) → missing_in ps n bytes ≡ map (seen_missed ps) (listed 32 129 n bytes)
unfolding missing_in listed
missing-seen ps n bytes =
    map_each (missed_of ps) (λ (row : List ℕ). seen_missed ps (listed_of 32 row)) (missed-seen ps) (rows 129 n bytes) ∙ sym (map-map (seen_missed ps) (listed_of 32) (rows 129 n bytes))

-- a grafted message, from its row
abbrev seen_grafted : List ℕ → List ExpiryRow → Listed → Entry (Timed Grafts)
seen_grafted ps es r = entry (row_at es (le_nat (part 0 2 r.head))).key (record {
  expires = (row_at es (le_nat (part 0 2 r.head))).time;
  value = record {
    first = (senders_in (drop 2 r.head)).0;
    kept = (senders_in (drop 2 r.head)).1;
    peers = map (read_by (round_of ps)) r.hops;
  };
})

-- what stands before the list of a row
module _ (row : List ℕ) where
  senders-own : senders_in (drop 2 row) ≡ senders_in (drop 2 (take 22 row))
  unfolding part
  senders-own = sym (senders-front (drop 2 row)) ∙ ap senders_in (sym (drop-take 2 20 row))

  place-part : part 0 2 row ≡ part 0 2 (take 22 row)
  unfolding part
  place-part = sym (take-take 2 22 row (omega arith))

  list-own : drop 20 (drop 2 row) ≡ drop 22 row
  list-own = drop-drop 20 2 row

grafted-seen : (ps : List ℕ) (es : List ExpiryRow) (row : List ℕ) → entry_of (grafts_of ps) es (ref_of row) ≡ seen_grafted ps es (listed_of 22 row)
unfolding ref_of grafts_of listed_of
grafted-seen ps es row = λ k. entry (row_at es (le_nat (place-part row k))).key (record {
  expires = (row_at es (le_nat (place-part row k))).time;
  value = record {
    first = (senders-own row k).0;
    kept = (senders-own row k).1;
    peers = (ap (hops_in (round_of ps)) (list-own row) ∙ hops-read (round_of ps) (drop 22 row)) k;
  };
})

entries-seen : (ps : List ℕ) (es : List ExpiryRow) (n : ℕ) (bytes : List ℕ) → map (entry_of (grafts_of ps) es) (refs 119 n bytes) ≡ map (seen_grafted ps es) (listed 22 119 n bytes)
unfolding refs listed
entries-seen ps es n bytes =
    map-map (entry_of (grafts_of ps) es) ref_of (rows 119 n bytes)
    ∙ map_each (λ (row : List ℕ). entry_of (grafts_of ps) es (ref_of row)) (λ (row : List ℕ). seen_grafted ps es (listed_of 22 row)) (grafted-seen ps es) (rows 119 n bytes)
    ∙ sym (map-map (seen_grafted ps es) (listed_of 22) (rows 119 n bytes))

abbrev place_of : Listed → ℕ
place_of r = le_nat (part 0 2 r.head)

places-seen : (n : ℕ) (bytes : List ℕ) → places (refs 119 n bytes) ≡ map place_of (listed 22 119 n bytes)
unfolding refs ref_of listed listed_of
places-seen n bytes =
    map-map (λ (r : Ref). r.place) ref_of (rows 119 n bytes)
    ∙ map_each (λ (row : List ℕ). le_nat (part 0 2 row)) (λ (row : List ℕ). le_nat (part 0 2 (take 22 row))) (λ (row : List ℕ). ap le_nat (place-part row)) (rows 119 n bytes)
    ∙ sym (map-map place_of (listed_of 22) (rows 119 n bytes))

-- the places of grafted entries are as they were
pub places-lowered : (i n : ℕ) (xs ys : List ℕ) → listed 22 119 n ys ≡ map (lower_listed i) (listed 22 119 n xs) → places (refs 119 n ys) ≡ places (refs 119 n xs)
places-lowered i n xs ys e =
    places-seen n ys ∙ ap (map place_of) e ∙ map-map place_of (lower_listed i) (listed 22 119 n xs) ∙ sym (places-seen n xs)

-- an empty list has length 0
empty-length : {A B : Type 0} (f : A → B) (xs : List A) → is_empty (map f xs) ≡ eqb (length xs) 0
empty-length f [] = sym (eq-eqb 0 0 refl)
empty-length f (x ∷ xs) = sym (ne_eqb (suc (length xs)) 0 (λ e. omega (arith, e)))

-- without the peer at i
module _ (i : ℕ) (ps : List ℕ) (up : Ascending ps) (h : i < length ps) where
  abbrev p : ℕ
  p = peer_of ps i

  abbrev rest : List ℕ
  rest = without_peer i ps

  pub notes-left : (n r : ℕ) (c b d e : List ℕ) → numbered ref 34 r d e ≡ lower_all i (numbered ref 34 n c b) → Below (length ps) (take n c) → notes_in rest r d e ≡ without_notes p (notes_in ps n c b)
  unfolding notes_in
  notes-left n r c b d e l q =
      numbered-read (note_of rest) 34 r d e
      ∙ ap (map (read_by (note_of rest))) l
      ∙ notes-lowered i ps up h (numbered ref 34 n c b) (subst (Below (length ps)) (sym (places-numbered 34 n c b)) q)
      ∙ ap (without_notes p) (sym (numbered-read (note_of ps) 34 n c b))

  missed-step : (r : Listed) (rs : List Listed) (m : Map (List Hop)) (hs : List Hop) (x : Bool) → seen_missed rest (lower_listed i r) ≡ entry (be_nat (part 0 32 r.head)) hs → map (seen_missed rest) rs ≡ m
      → map (seen_missed rest) (if not x then lower_listed i r ∷ rs else rs) ≡ (if x then m else entry (be_nat (part 0 32 r.head)) hs ∷ m)
  missed-step r rs m hs true e f = f
  missed-step r rs m hs false e f = λ k. e k ∷ f k

  missed-lowered : (rs : List Listed) → Fine (length ps) rs → map (seen_missed rest) (filter has_announcers (map (lower_listed i) rs)) ≡ forget_announcer p (map (seen_missed ps) rs)
  unfolding forget_announcer filter
  missed-lowered [] none = refl
  missed-lowered (r ∷ rs) (more _ _ few le b f) =
      let hs : List Hop = without_announcer p (map (read_by (hop_of ps)) r.hops) in
      let left : map (read_by (hop_of rest)) (lower_all i r.hops) ≡ hs = hops-lowered i ps up h r.hops b in
      let z : eqb (length (lower_all i r.hops)) 0 ≡ is_empty hs = sym (empty-length (read_by (hop_of rest)) (lower_all i r.hops)) ∙ ap is_empty left in
      missed-step r (filter has_announcers (map (lower_listed i) rs)) (forget_announcer p (map (seen_missed ps) rs)) hs (eqb (length (lower_all i r.hops)) 0)
      (ap (entry (be_nat (part 0 32 r.head))) left) (missed-lowered rs f)
      ∙ ap (λ (x : Bool). if x then forget_announcer p (map (seen_missed ps) rs) else entry (be_nat (part 0 32 r.head)) hs ∷ forget_announcer p (map (seen_missed ps) rs)) z

  pub missing-left : (n r : ℕ) (xs ys : List ℕ) → listed 32 129 r ys ≡ filter has_announcers (map (lower_listed i) (listed 32 129 n xs)) → AllNumbered (length ps) 32 129 n xs
      → missing_in rest r ys ≡ forget_announcer p (missing_in ps n xs)
  missing-left n r xs ys e a =
      missing-seen rest r ys
      ∙ ap (map (seen_missed rest)) e
      ∙ missed-lowered (listed 32 129 n xs) (fine_of (length ps) 32 129 n xs a)
      ∙ ap (forget_announcer p) (sym (missing-seen ps n xs))

  grafts-lowered : (es : List ExpiryRow) (rs : List Listed) → Fine (length ps) rs → map (seen_grafted rest es) (map (lower_listed i) rs) ≡ map (without_graft p) (map (seen_grafted ps es) rs)
  unfolding without_graft
  grafts-lowered es [] none = refl
  grafts-lowered es (r ∷ rs) (more _ _ few le b f) = λ k. entry (row_at es (le_nat (part 0 2 r.head))).key (record {
    expires = (row_at es (le_nat (part 0 2 r.head))).time;
    value = record {
      first = (seen_grafted ps es r).value.value.first;
      kept = (seen_grafted ps es r).value.value.kept;
      peers = rounds-lowered i ps up h r.hops b k;
    };
  }) ∷ grafts-lowered es rs f k

  pub grafted-left : (n : ℕ) (xs ys : List ℕ) → listed 22 119 n ys ≡ map (lower_listed i) (listed 22 119 n xs) → AllNumbered (length ps) 22 119 n xs
      → (m : ℕ) (expiry : List ℕ) → grafted_in rest n ys m expiry ≡ forget_grafted p (grafted_in ps n xs m expiry)
  unfolding grafted_in cache_of forget_grafted
  grafted-left n xs ys e a m expiry =
      let es : List ExpiryRow = expiry_rows 40 m expiry in
      let w : map (entry_of (grafts_of rest) es) (refs 119 n ys) ≡ map (without_graft p) (map (entry_of (grafts_of ps) es) (refs 119 n xs)) =
      entries-seen rest es n ys
      ∙ ap (map (seen_grafted rest es)) e
      ∙ grafts-lowered es (listed 22 119 n xs) (fine_of (length ps) 22 119 n xs a)
      ∙ ap (map (without_graft p)) (sym (entries-seen ps es n xs)) in
      λ k. record { entries = w k; expiry = map expiry_of es }
