-- What `expired_rows` tells: after the first j rows a mark stands for each entry that one of them took out, and the rows that did are told (`Passed`).
-- Assumes nothing.
use Rattle.std.proofs.Common.{None, if◌then◌else◌, ℕ, zero, suc, ◌+◌, ◌≤◌, ◌<◌, ◌≡◌, refl, sym, ap, subst, ◌∙◌, true, false, not, ◌⊎◌, inl, inr, List, [], ◌∷◌, ◌++◌, append-nil, map, not-suc-le-zero, add-one, arith, ne_eqb, eq-eqb, eqb, length, get_or, set, take, replicate, length-set, take-suc, get_or-set_same, get_or-set_other}
use lib.ListN.{length-map, length-replicate, get_or-map}
use Rattle.std.proofs.lemmas.List.{map-append}
use Rattle.std.proofs.lemmas.List.Elements.{All-nil, All-push}
use Rattle.storage.specs.Lists.Map.{keys, lookup, remove}
use Rattle.storage.specs.Rows.Sorted.{Ascending}
use Rattle.storage.specs.Refs.Refs.{Ref, ref}
use Rattle.storage.proofs.ListsLaws.MapLaws.{true≢, lookup-remove-same, lookup-remove-other}
use Rattle.storage.proofs.RefsLaws.Places.{get_or-map-in}
use Rattle.storage.proofs.RowsLaws.Ids.{tri}
use Rattle.storage.specs.Lists.Base.{is_empty}
use Rattle.time_cache.specs.TimeCache.{Expiry, Cache, expires_at, due, pop_all, popped, expired_keys}
use Rattle.time_cache.specs.Tables.{expiry_of, no_expiry, no_row, row_at, named, Cut, value_bytes, cache_of, refs_at, rows_at, cache_at, Sound}
use Rattle.time_cache.specs.Steps.{GotAt}
use Rattle.time_cache.specs.Gone.{key_of_row, key_of_entry, TakesAt, Passed}
use Rattle.time_cache.specs.declared.cache.TimeBoundCache.{TimeBoundCache}
use Rattle.time_cache.proofs.Orders.{up_of}
use Rattle.time_cache.proofs.Cuts.{cut_due}
use Rattle.time_cache.proofs.TableLaws.{keys-named}
use Rattle.time_cache.proofs.ReadLaws.{length-es, length-rs, count-of}
use Rattle.time_cache.proofs.Removed.{popped-count}
use Rattle.time_cache.proofs.GoneLaws.{pop_all-snoc, popped-snoc, pop-not, pop-yes, gone-or-kept, still-not}

-- what `get` found of row j's key, against the row's time
pub takes-at : (c : TimeBoundCache) (xs : List ℕ) (j : ℕ) {k i p : ℕ} → GotAt c xs k i p → k ≡ (row_at (rows_at c xs) j).key → (row_at (rows_at c xs) p).time ≡ (row_at (rows_at c xs) j).time → TakesAt c xs j i
unfolding expires_at
takes-at c xs j {k} {i} {p} g e t = record {
  entry = g.entry;
  key = ap (λ (q : ℕ). (row_at (rows_at c xs) q).key) g.names ∙ g.key ∙ e;
  time = ap (λ (q : ℕ). expires_at ((row_at (rows_at c xs) j).time) (lookup q (cache_at c xs).entries)) (sym e) ∙ ap (expires_at ((row_at (rows_at c xs) j).time)) g.value ∙ eq-eqb ((row_at (rows_at c xs) p).time) ((row_at (rows_at c xs) j).time) t;
}

pub takes-not : (c : TimeBoundCache) (xs : List ℕ) (j : ℕ) {k i p : ℕ} → GotAt c xs k i p → k ≡ (row_at (rows_at c xs) j).key → ((row_at (rows_at c xs) p).time ≡ (row_at (rows_at c xs) j).time → ⊥)
    → expires_at ((row_at (rows_at c xs) j).time) (lookup ((row_at (rows_at c xs) j).key) (cache_at c xs).entries) ≡ false
unfolding expires_at
takes-not c xs j {k} {i} {p} g e t =
    ap (λ (q : ℕ). expires_at ((row_at (rows_at c xs) j).time) (lookup q (cache_at c xs).entries)) (sym e) ∙ ap (expires_at ((row_at (rows_at c xs) j).time)) g.value ∙ ne_eqb ((row_at (rows_at c xs) p).time) ((row_at (rows_at c xs) j).time) t

pub takes-none : (c : TimeBoundCache) (xs : List ℕ) (j : ℕ) {k : ℕ} → lookup k (cache_at c xs).entries ≡ None → k ≡ (row_at (rows_at c xs) j).key
    → expires_at ((row_at (rows_at c xs) j).time) (lookup ((row_at (rows_at c xs) j).key) (cache_at c xs).entries) ≡ false
unfolding expires_at
takes-none c xs j {k} g e = ap (λ (q : ℕ). expires_at ((row_at (rows_at c xs) j).time) (lookup q (cache_at c xs).entries)) (sym e) ∙ ap (expires_at ((row_at (rows_at c xs) j).time)) g

module _ (c : TimeBoundCache) (xs gone told : List ℕ) (j : ℕ) (s : Sound c xs) (g : Passed c xs gone told j) (jm : j < c.expiry.len) where
  abbrev rows : List Expiry
  rows = (cache_at c xs).expiry

  abbrev row : Expiry
  row = expiry_of (row_at (rows_at c xs) j)

  row-is : get_or rows j no_expiry ≡ row
  unfolding cache_of
  row-is = get_or-map expiry_of (rows_at c xs) j no_row

  one-more : take (j + 1) rows ≡ take j rows ++ (row ∷ [])
  unfolding cache_of
  one-more =
      ap (λ (n : ℕ). take n rows) (add-one j)
      ∙ take-suc rows j no_expiry (omega (arith, jm, length-map (rows_at c xs) expiry_of, length-rs c xs))
      ∙ ap (λ (x : Expiry). take j rows ++ (x ∷ [])) row-is

  -- it takes nothing out
  pub passed-not : expires_at row.time (lookup row.key (pop_all (take j rows) (cache_at c xs).entries)) ≡ false → Passed c xs gone told (j + 1)
  passed-not h =
      let m = (cache_at c xs).entries in
      let e : pop_all (take (j + 1) rows) m ≡ pop_all (take j rows) m =
      ap (λ (l : List Expiry). pop_all l m) one-more ∙ pop_all-snoc (take j rows) row m ∙ pop-not row (pop_all (take j rows) m) h in
      let p : popped (take (j + 1) rows) m ≡ popped (take j rows) m =
      ap (λ (l : List Expiry). popped l m) one-more ∙ popped-snoc (take j rows) row m ∙ rw h (append-nil (popped (take j rows) m)) in
      record {
        long = g.long;
        marks = λ i l. ap (lookup (key_of_entry c xs i)) e ∙ g.marks i l;
        keys = g.keys ∙ sym p;
        rows = g.rows;
      }

  -- no entry has its key and its time
  pub passed-none : expires_at row.time (lookup row.key (cache_at c xs).entries) ≡ false → Passed c xs gone told (j + 1)
  passed-none h = passed-not (still-not row.time row.key (pop_all (take j rows) (cache_at c xs).entries) (cache_at c xs).entries (gone-or-kept row.key (take j rows) (cache_at c xs).entries) h)

  -- a row before it took the entry out
  pub passed-gone : {i : ℕ} → TakesAt c xs j i → 0 < get_or gone i 0 → Passed c xs gone told (j + 1)
  unfolding expires_at
  passed-gone {i} t z =
      let m = (cache_at c xs).entries in
      let f : eqb (get_or gone i 0) 0 ≡ false = ne_eqb (get_or gone i 0) 0 (λ q. omega arith) in
      let e : lookup row.key (pop_all (take j rows) m) ≡ None = ap (λ (k : ℕ). lookup k (pop_all (take j rows) m)) (sym t.key) ∙ g.marks i t.entry ∙ rw f in
      passed-not (ap (expires_at row.time) e)

  -- the keys of two entries differ
  key-named : (i : ℕ) → i < c.entries.len → get_or (named (rows_at c xs) (refs_at c xs)) i 0 ≡ key_of_entry c xs i
  unfolding named
  key-named i h = get_or-map-in (λ (r : Ref). (row_at (rows_at c xs) r.place).key) (refs_at c xs) i 0 (ref 0 []) (omega (arith, length-es c xs))

  long-named : length (named (rows_at c xs) (refs_at c xs)) ≡ c.entries.len
  unfolding named
  long-named = length-map (refs_at c xs) (λ (r : Ref). (row_at (rows_at c xs) r.place).key) ∙ length-es c xs

  up : Ascending (named (rows_at c xs) (refs_at c xs))
  up = subst (λ (ks : List ℕ). Ascending ks) (keys-named value_bytes (refs_at c xs) (rows_at c xs)) (up_of (keys (cache_at c xs).entries) s.up)

  apart : (p q : ℕ) → p < q → q < c.entries.len → key_of_entry c xs p < key_of_entry c xs q
  apart p q h l = omega (arith, up.up p q h (omega (arith, long-named)), key-named p (omega arith), key-named q l)

  module _ (i : ℕ) (t : TakesAt c xs j i) (z : get_or gone i 0 ≡ 0) where
    before-is : lookup row.key (pop_all (take j rows) (cache_at c xs).entries) ≡ lookup row.key (cache_at c xs).entries
    before-is =
        ap (λ (k : ℕ). lookup k (pop_all (take j rows) (cache_at c xs).entries)) (sym t.key) ∙ g.marks i t.entry
        ∙ rw (eq-eqb (get_or gone i 0) 0 z) (ap (λ (k : ℕ). lookup k (cache_at c xs).entries) t.key)

    takes : expires_at row.time (lookup row.key (pop_all (take j rows) (cache_at c xs).entries)) ≡ true
    takes = ap (expires_at row.time) before-is ∙ t.time

    then-map : pop_all (take (j + 1) rows) (cache_at c xs).entries ≡ remove row.key (pop_all (take j rows) (cache_at c xs).entries)
    then-map = ap (λ (l : List Expiry). pop_all l (cache_at c xs).entries) one-more ∙ pop_all-snoc (take j rows) row (cache_at c xs).entries ∙ pop-yes row (pop_all (take j rows) (cache_at c xs).entries) takes

    then-told : popped (take (j + 1) rows) (cache_at c xs).entries ≡ popped (take j rows) (cache_at c xs).entries ++ (row.key ∷ [])
    then-told = ap (λ (l : List Expiry). popped l (cache_at c xs).entries) one-more ∙ popped-snoc (take j rows) row (cache_at c xs).entries ∙ rw takes refl

    other : (e : ℕ) → e < c.entries.len → (e ≡ i → ⊥) → (key_of_entry c xs e ≡ row.key → ⊥)
        → lookup (key_of_entry c xs e) (remove row.key (pop_all (take j rows) (cache_at c xs).entries)) ≡ (if eqb (get_or (set gone i 1) e 0) 0 then lookup (key_of_entry c xs e) (cache_at c xs).entries else None)
    other e l q k =
        lookup-remove-other (key_of_entry c xs e) row.key (pop_all (take j rows) (cache_at c xs).entries) (ne_eqb (key_of_entry c xs e) row.key k)
        ∙ g.marks e l ∙ ap (λ (v : ℕ). if eqb v 0 then lookup (key_of_entry c xs e) (cache_at c xs).entries else None) (sym (get_or-set_other gone i e 1 0 q))

    flag : (e : ℕ) → e < c.entries.len → (e < i) ⊎ ((e ≡ i) ⊎ (i < e))
        → lookup (key_of_entry c xs e) (remove row.key (pop_all (take j rows) (cache_at c xs).entries)) ≡ (if eqb (get_or (set gone i 1) e 0) 0 then lookup (key_of_entry c xs e) (cache_at c xs).entries else None)
    flag e l (inl h) = other e l (λ q. omega arith) (λ q. omega (arith, apart e i h t.entry, t.key))
    flag e l (inr (inr h)) = other e l (λ q. omega arith) (λ q. omega (arith, apart i e h l, t.key))
    flag e l (inr (inl h)) =
        let v : get_or (set gone i 1) e 0 ≡ 1 = ap (λ (n : ℕ). get_or (set gone i 1) n 0) h ∙ get_or-set_same gone i 1 0 (omega (arith, g.long, t.entry)) in
        ap (λ (n : ℕ). lookup (key_of_entry c xs n) (remove row.key (pop_all (take j rows) (cache_at c xs).entries))) h
        ∙ ap (λ (k : ℕ). lookup k (remove row.key (pop_all (take j rows) (cache_at c xs).entries))) t.key
        ∙ lookup-remove-same row.key (pop_all (take j rows) (cache_at c xs).entries)
        ∙ sym (rw (ne_eqb (get_or (set gone i 1) e 0) 0 (λ q. omega arith)) refl)

    -- it takes the entry out
    pub passed-yes : Passed c xs (set gone i 1) (told ++ (j ∷ [])) (j + 1)
    passed-yes = record {
      long = omega (arith, g.long, length-set gone i 1);
      marks = λ e l. ap (lookup (key_of_entry c xs e)) then-map ∙ flag e l (tri e i);
      keys = map-append (key_of_row c xs) told (j ∷ []) ∙ ap (λ (ks : List ℕ). ks ++ (row.key ∷ [])) g.keys ∙ sym then-told;
      rows = All-push (λ r. r < c.expiry.len) told j g.rows jm;
    }

-- there are not more rows told than entries
pub passed-few : (c : TimeBoundCache) (xs gone told : List ℕ) (j : ℕ) → Sound c xs → Passed c xs gone told j → length told ≤ c.entries.len
passed-few c xs gone told j s g =
    omega (
      arith,
      popped-count (take j (cache_at c xs).expiry) (cache_at c xs).entries s.up,
      count-of c xs,
      ap length g.keys,
      length-map told (key_of_row c xs),
    )

pub zeros : (n i : ℕ) → ◌≡◌ {A = ℕ} (get_or (replicate {A = ℕ} n 0) i 0) 0
zeros zero i = refl
zeros (suc n) zero = refl
zeros (suc n) (suc i) = zeros n i

-- before any row
pub passed-start : (n : ℕ) (c : TimeBoundCache) (xs gone : List ℕ) → c.entries.len ≤ n → gone ≡ replicate {A = ℕ} n 0 → Passed c xs gone [] 0
unfolding pop_all popped
passed-start n c xs gone l e = record {
  long = omega (arith, ap length e, length-replicate {A = ℕ} n 0);
  marks = λ i h. rw (eq-eqb (get_or gone i 0) 0 (ap (λ (l : List ℕ). get_or l i 0) e ∙ zeros n i));
  keys = refl;
  rows = All-nil (λ r. r < c.expiry.len);
}

-- all that are due have popped
pub passed-done : (c : TimeBoundCache) (xs gone told : List ℕ) (j time : ℕ) → Passed c xs gone told j → Cut (cache_at c xs).expiry time j → map (key_of_row c xs) told ≡ expired_keys time (cache_at c xs)
unfolding expired_keys
passed-done c xs gone told j time g cut = g.keys ∙ ap (λ (l : List Expiry). popped l (cache_at c xs).entries) (sym (cut_due (cache_at c xs).expiry time j cut))

-- whether a row is due, by how many are
pub is-due : (xs : List Expiry) (t k : ℕ) → Cut xs t k → not (is_empty (due t xs)) ≡ not (eqb k 0)
is-due xs t k cut = ap (λ (l : List Expiry). not (is_empty l)) (cut_due xs t k cut) ∙ some k xs cut.within
  where
    some : (k : ℕ) (xs : List Expiry) → k ≤ length xs → not (is_empty (take k xs)) ≡ not (eqb k 0)
    some zero xs h = refl
    some (suc k) [] h = absurd (not-suc-le-zero h)
    some (suc k) (x ∷ xs) h = ap not (sym (ne_eqb (suc k) 0 (λ q. omega (arith, q))))

-- where none is due, no key leaves
pub none-due : {A : Type 0} (t : ℕ) (c : Cache A) → not (is_empty (due t c.expiry)) ≡ false → expired_keys t c ≡ []
unfolding expired_keys popped
none-due t c h = ap (λ (l : List Expiry). popped l c.entries) (empty (due t c.expiry) h)
  where
    empty : (l : List Expiry) → not (is_empty l) ≡ false → l ≡ []
    empty [] h = refl
    empty (x ∷ l) h = true≢ (sym h)
