-- Another content for the message that row p has: the rows, the contents and the state.
-- Assumes nothing.
use Rattle.block.proofs.Words.{Option, Some, ◌≡◌, refl, sym, ap, ◌∙◌, subst, ◌⊎◌, inl, inr, List, [], ◌∷◌, ◌++◌, map, ℕ, zero, suc, ◌+◌, ◌-◌, ◌≤◌, ◌<◌, arith, length, take, drop, get_or, get_or-append-add, map-append, tri, get_or-append, get_or-map, get_or_at, Map, Entry, entry, keys, lookup, insert, part, Ascending, Here, part-before, part-after, part-put, length_part, length-put, Ref, ref, places, Below, get_or-map-in, Timed, Expiry, Cache, ExpiryRow, expiry_of, row_at, no_row, no_expiry, entry_of, insert-here, lookup-here, keys-named, Cached}
use Rattle.std.proofs.Common.{length-drop, get_or-take, get_or-drop, length-take-le}
use lib.ListN.{length-map}
use Rattle.storage.specs.Lists.Base.{sum}
use Rattle.storage.specs.Rows.Part.{put}
use Rattle.time_cache.specs.TimeCache.{value_of, get, with_value, replace}
use Rattle.time_cache.specs.Tables.{named, cache_of}
use Rattle.block.specs.View.{half_at, content_of, cached_of}
use Rattle.block.specs.Contents.CacheSteps.{refill_with, refill}
use Rattle.block.specs.Contents.Starts.{start_of, len_of, RowsAdjoin, Along}
use Rattle.block.proofs.ContentsLaws.RowsAdjoin.{along-at, along-expiry, chain-at, chain-order, chain-resize}
use Rattle.block.proofs.ContentsLaws.Contents.{part_moved, place-low}

-- an element of a list that was changed at i
module _ {A B : Type 0} (f g : A → B) (d : A) where
  map-changed : (i : ℕ) (y : B) (xs : List A) → i < length xs → f (get_or xs i d) ≡ y → ((j : ℕ) → (j ≡ i → ⊥) → j < length xs → f (get_or xs j d) ≡ g (get_or xs j d)) → map f xs ≡ put i (y ∷ []) (map g xs)
  unfolding put
  map-changed i y [] h e o = absurd (omega arith)
  map-changed zero y (x ∷ xs) h e o = λ k. e k ∷ rest xs (λ j l. o (suc j) (λ q. omega arith) (omega arith)) k
    where
      rest : (zs : List A) → ((j : ℕ) → j < length zs → f (get_or zs j d) ≡ g (get_or zs j d)) → map f zs ≡ map g zs
      rest [] o = refl
      rest (z ∷ zs) o = λ k. o 0 (omega arith) k ∷ rest zs (λ j l. o (suc j) (omega arith)) k
  map-changed (suc i) y (x ∷ xs) h e o = λ k. o 0 (λ q. omega arith) (omega arith) k ∷ map-changed i y xs (omega arith) e (λ j n l. o (suc j) (λ q. n (omega arith)) (omega arith)) k

pub sum-put : {A : Type 0} (f : A → ℕ) (i : ℕ) (x d : A) (m : List A) → i < length m → sum f (put i (x ∷ []) m) + f (get_or m i d) ≡ sum f m + f x
unfolding put sum
sum-put f i x d [] h = absurd (omega arith)
sum-put f zero x d (y ∷ m) h = omega arith
sum-put f (suc i) x d (y ∷ m) h = omega (arith, sum-put f i x d m (omega arith))

-- time and key of a row, out of the expiry entries
same_row : (xs ys : List ExpiryRow) → map expiry_of ys ≡ map expiry_of xs → (q : ℕ) → expiry_of (row_at ys q) ≡ expiry_of (row_at xs q)
same_row xs ys e q = sym (get_or-map expiry_of ys q no_row) ∙ ap (λ (l : List Expiry). get_or l q no_expiry) e ∙ get_or-map expiry_of xs q no_row

abbrev pub no_entry : Entry (Timed Cached)
no_entry = entry 0 (record { expires = 0; value = record { content = []; round = 0 } })

-- entry i, which names row p, has another content, and the others have theirs
module _ (s t : List ℕ) (xs ys : List ExpiryRow) (es : List Ref) (i p : ℕ) (content : List ℕ) (hi : i < length es) (np : (get_or es i (ref 0 [])).place ≡ p)
    (up : Ascending (named xs es)) (b : Below (length xs) (places es)) (ex : map expiry_of ys ≡ map expiry_of xs)
    (others : (q : ℕ) → (q ≡ p → ⊥) → q < length xs → content_of t (row_at ys q).rest ≡ content_of s (row_at xs q).rest)
    (new : content_of t (row_at ys p).rest ≡ content) where
  abbrev r : Ref
  r = get_or es i (ref 0 [])

  abbrev m : Map (Timed Cached)
  m = map (entry_of (cached_of s) xs) es

  abbrev value : Cached
  value = record { content = content; round = half_at 0 r.own }

  abbrev changed : Entry (Timed Cached)
  changed = entry (row_at xs p).key (record { expires = (row_at xs p).time; value = value })

  abbrev key_of : Ref → ℕ
  key_of r = (row_at xs r.place).key

  key-at : (j : ℕ) → j < length es → get_or (named xs es) j 0 ≡ key_of (get_or es j (ref 0 []))
  unfolding named
  key-at j h = get_or-map-in key_of es j 0 (ref 0 []) h

  -- no other entry names row p
  apart : (j : ℕ) → (j ≡ i → ⊥) → j < length es → (get_or es j (ref 0 [])).place ≡ p → ⊥
  unfolding named
  apart j n h e =
      let ln : length (named xs es) ≡ length es = length-map es key_of in
      let k : get_or (named xs es) j 0 ≡ get_or (named xs es) i 0 = key-at j h ∙ ap (λ (q : ℕ). (row_at xs q).key) (e ∙ sym np) ∙ sym (key-at i hi) in
      go (tri j i) ln k
    where
      go : (j < i) ⊎ ((j ≡ i) ⊎ (i < j)) → length (named xs es) ≡ length es → get_or (named xs es) j 0 ≡ get_or (named xs es) i 0 → ⊥
      go (inl q) ln k = omega (arith, up.up j i q (omega (arith, ln)), k)
      go (inr (inl q)) ln k = n q
      go (inr (inr q)) ln k = omega (arith, up.up i j q (omega (arith, ln)), k)

  entry_at : (z : Ref) → (z.place ≡ p → ⊥) → z.place < length xs → entry_of (cached_of t) ys z ≡ entry_of (cached_of s) xs z
  unfolding cached_of
  entry_at z n h =
      let e = same_row xs ys ex z.place in
      let c = others z.place n h in
      λ k. entry (e k).key (record { expires = (e k).time; value = record { content = c k; round = half_at 0 z.own } })

  entry_new : entry_of (cached_of t) ys r ≡ changed
  unfolding cached_of
  entry_new =
      let e = ap (λ (q : ℕ). expiry_of (row_at ys q)) np ∙ same_row xs ys ex p in
      let c = ap (λ (q : ℕ). content_of t (row_at ys q).rest) np ∙ new in
      λ k. entry (e k).key (record { expires = (e k).time; value = record { content = c k; round = half_at 0 r.own } })

  pub entries-set : map (entry_of (cached_of t) ys) es ≡ put i (changed ∷ []) m
  entries-set =
      map-changed (entry_of (cached_of t) ys) (entry_of (cached_of s) xs) (ref 0 []) i changed es hi entry_new
      (λ j n h. entry_at (get_or es j (ref 0 [])) (apart j n h) (place-low (length xs) es b j h))

  was-at : get_or m i no_entry ≡ entry_of (cached_of s) xs r
  was-at = get_or-map-in (entry_of (cached_of s) xs) es i no_entry (ref 0 []) hi

  here : Here (keys m) (row_at xs p).key i
  here = record {
    within = omega (arith, hi, length-map m (λ (e : Entry (Timed Cached)). e.key), length-map es (entry_of (cached_of s) xs));
    same = get_or-map-in (λ (e : Entry (Timed Cached)). e.key) m i 0 no_entry (omega (arith, hi, length-map es (entry_of (cached_of s) xs))) ∙ ap (λ (e : Entry (Timed Cached)). e.key) was-at ∙ ap (λ (q : ℕ). (row_at xs q).key) np;
  }

  keys-up : Ascending (keys m)
  unfolding cache_of
  keys-up = subst Ascending (sym (keys-named (cached_of s) es xs)) up

  pub replaced : cache_of (cached_of t) es ys ≡ replace (row_at xs p).key value (cache_of (cached_of s) es xs)
  unfolding cache_of replace with_value
  replaced =
      let k : ℕ = (row_at xs p).key in
      let time : (get_or m i no_entry).value.expires ≡ (row_at xs p).time = ap (λ (e : Entry (Timed Cached)). e.value.expires) was-at ∙ ap (λ (q : ℕ). (row_at xs q).time) np in
      let put-in : insert k (record { expires = (row_at xs p).time; value = value }) m ≡ put i (changed ∷ []) m = insert-here k (record { expires = (row_at xs p).time; value = value }) i m keys-up here in
      let with : with_value k value (lookup k m) m ≡ insert k (record { expires = (row_at xs p).time; value = value }) m =
      ap (λ (o : Option (Timed Cached)). with_value k value o m) (lookup-here k i no_entry m keys-up here)
      ∙ ap (λ (e : ℕ). insert k (record { expires = e; value = value }) m) time in
      λ j. record { entries = (entries-set ∙ sym put-in ∙ sym with) j; expiry = ex j }

  -- the same, by the key
  pub refill-set : (id : ℕ) → Here (keys (cache_of (cached_of s) es xs).entries) id i → cache_of (cached_of t) es ys ≡ refill id content (cache_of (cached_of s) es xs)
  unfolding cache_of get value_of refill_with cached_of
  refill-set id hd =
      let c : Cache Cached = cache_of (cached_of s) es xs in
      let got : get id c ≡ Some (get_or m i no_entry).value.value = ap value_of (lookup-here id i no_entry m keys-up hd) in
      let k : (row_at xs p).key ≡ id = sym here.same ∙ hd.same in
      let v : (get_or m i no_entry).value.value.round ≡ half_at 0 r.own = ap (λ (e : Entry (Timed Cached)). e.value.value.round) was-at in
      replaced
      ∙ (λ j. replace (k j) (record { content = content; round = sym v j }) c)
      ∙ sym (ap (λ (o : Option Cached). refill_with id content o c) got)

-- the rows and the contents when the content of row p is another
split_at : (p : ℕ) (xs : List ExpiryRow) → p < length xs → take p xs ++ (row_at xs p ∷ drop (suc p) xs) ≡ xs
split_at p [] h = absurd (omega arith)
split_at zero (x ∷ xs) h = refl
split_at (suc p) (x ∷ xs) h = ap (λ (l : List ExpiryRow). x ∷ l) (split_at p xs (omega arith))

module _ (s content : List ℕ) (xs : List ExpiryRow) (u p : ℕ) (c : RowsAdjoin 0 xs u) (hp : p < length xs)
    (room : u + length content ≤ length s + len_of (row_at xs p)) (us : u ≤ length s) (y : ExpiryRow) (zs : List ExpiryRow) (y-expiry : expiry_of y ≡ expiry_of (row_at xs p))
    (y-start : start_of y ≡ start_of (row_at xs p)) (y-len : len_of y ≡ length content) (along : Along (length content) (len_of (row_at xs p)) (drop (suc p) xs) zs) where
  abbrev x : ExpiryRow
  x = row_at xs p

  abbrev k : ℕ
  k = length content

  abbrev o : ℕ
  o = len_of x

  abbrev a : ℕ
  a = start_of x

  abbrev n : ℕ
  n = u - a - o

  abbrev pub rows_then : List ExpiryRow
  rows_then = take p xs ++ (y ∷ zs)

  abbrev inner : List ℕ
  inner = put (a + k) (part (a + o) n s) s

  abbrev pub store_then : List ℕ
  store_then = put a content inner

  ends : a + o ≤ u
  ends = (chain-at c p hp).1

  ln : length (part (a + o) n s) ≡ n
  ln = length_part (a + o) n s (omega (arith, ends, us))

  li : length inner ≡ length s
  li = length-put (a + k) (part (a + o) n s) s (omega (arith, ln, ends, room))

  lp : length (take p xs) ≡ p
  lp = length-take-le p xs (omega arith)

  pub chain-then : (e : ℕ) → e + o ≡ u + k → RowsAdjoin 0 rows_then e
  chain-then e t = chain-resize e p y zs c hp along y-start y-len refl t

  pub expiry-then : map expiry_of rows_then ≡ map expiry_of xs
  expiry-then =
      map-append expiry_of (take p xs) (y ∷ zs)
      ∙ (λ j. map expiry_of (take p xs) ++ (y-expiry j ∷ along-expiry along j))
      ∙ sym (map-append expiry_of (take p xs) (x ∷ drop (suc p) xs))
      ∙ ap (map expiry_of) (split_at p xs hp)

  row_before : (q : ℕ) → q < p → row_at rows_then q ≡ row_at xs q
  row_before q h = get_or-append (take p xs) (y ∷ zs) no_row q (omega (arith, lp)) ∙ get_or-take p xs q no_row h

  row_here : row_at rows_then p ≡ y
  row_here = get_or_at (take p xs) y zs no_row p lp

  row-after : (q : ℕ) → p < q → row_at rows_then q ≡ row_at zs (q - suc p)
  row-after q h =
      let e : q ≡ length (take p xs) + suc (q - suc p) = omega (arith, lp) in
      ap (row_at rows_then) e ∙ get_or-append-add (take p xs) (y ∷ zs) (suc (q - suc p)) no_row

  row-was : (q : ℕ) → p < q → row_at (drop (suc p) xs) (q - suc p) ≡ row_at xs q
  row-was q h =
      let e : suc p + (q - suc p) ≡ q = omega arith in
      get_or-drop (suc p) xs (q - suc p) no_row ∙ ap (row_at xs) e

  pub content-new : content_of store_then (row_at rows_then p).rest ≡ content
  unfolding content_of
  content-new =
      ap (λ (z : ExpiryRow). part (start_of z) (len_of z) store_then) row_here
      ∙ (λ j. part (y-start j) (y-len j) store_then)
      ∙ part-put a k content inner refl (omega (arith, li, room, ends))

  content-before : (q : ℕ) → q < p → content_of store_then (row_at rows_then q).rest ≡ content_of s (row_at xs q).rest
  unfolding content_of
  content-before q h =
      let z : ExpiryRow = row_at xs q in
      let f : start_of z + len_of z ≤ a = chain-order c q p h hp in
      ap (λ (v : ExpiryRow). part (start_of v) (len_of v) store_then) (row_before q h)
      ∙ part-before (start_of z) (len_of z) a content inner f (omega (arith, li, ends, us))
      ∙ part-before (start_of z) (len_of z) (a + k) (part (a + o) n s) s (omega (arith, f)) (omega (arith, room, ends))

  content-after : (q : ℕ) → p < q → q < length xs → content_of store_then (row_at rows_then q).rest ≡ content_of s (row_at xs q).rest
  unfolding content_of
  content-after q h hq =
      let z : ExpiryRow = row_at xs q in
      let v : ExpiryRow = row_at zs (q - suc p) in
      let at = along-at along (q - suc p) (omega (arith, length-drop (suc p) xs)) in
      let ws : start_of (row_at (drop (suc p) xs) (q - suc p)) ≡ start_of z = ap start_of (row-was q h) in
      let wl : len_of (row_at (drop (suc p) xs) (q - suc p)) ≡ len_of z = ap len_of (row-was q h) in
      let f : a + o ≤ start_of z = chain-order c p q h hq in
      let g : start_of z + len_of z ≤ u = (chain-at c q hq).1 in
      let b : ℕ = start_of z - (a + o) in
      let sv : start_of v ≡ a + k + b = omega (arith, at.2, ws, f) in
      let lv : len_of v ≡ len_of z = at.3 ∙ wl in
      let back : a + o + b ≡ start_of z = omega (arith, f) in
      ap (λ (r : ExpiryRow). part (start_of r) (len_of r) store_then) (row-after q h)
      ∙ (λ j. part (sv j) (lv j) store_then)
      ∙ part-after (a + k + b) (len_of z) a content inner (omega arith) (omega (arith, li, ends, us))
      ∙ part_moved (a + k) (a + o) n b (len_of z) s (omega (arith, f, g)) (omega (arith, ends, us)) (omega (arith, ends, room))
      ∙ ap (λ (r : ℕ). part r (len_of z) s) back

  pub content-kept : (q : ℕ) → (q ≡ p → ⊥) → q < length xs → content_of store_then (row_at rows_then q).rest ≡ content_of s (row_at xs q).rest
  content-kept q d hq = go (tri q p)
    where
      go : (q < p) ⊎ ((q ≡ p) ⊎ (p < q)) → content_of store_then (row_at rows_then q).rest ≡ content_of s (row_at xs q).rest
      go (inl l) = content-before q l
      go (inr (inl e)) = absurd (d e)
      go (inr (inr l)) = content-after q l hq
