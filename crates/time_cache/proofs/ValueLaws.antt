-- Values: the functions of a cache do not look at them, so what holds of values as bytes holds of values read from them; and what a write of a
-- value's bytes is to the cache.
-- Assumes nothing.
use Rattle.std.proofs.Common.{Option, Some, None, is_some, ◌≡◌, refl, sym, ap, ◌∙◌, List, [], ◌∷◌, map, ℕ, suc, ◌<◌, arith, eq-eqb, le-ltb, ltb, eqb, length, get_or}
use mathlib.Core.List.{map-map}
use lib.ListN.{length-map}
use Rattle.storage.specs.Lists.Map.{Map, Entry, keys, lookup, insert, remove}
use Rattle.storage.proofs.ListsLaws.MapLaws.{cases, lookup-insert-same}
use Rattle.storage.proofs.ListsLaws.ListLaws.{filter_map}
use Rattle.time_cache.specs.TimeCache.{Timed, Expiry, Cache, value_of, get, holds, put as put_in, with_value, replace, expires_at, pop, due, later, pop_all, expire_until, later_cache, popped, expired_keys}
use Rattle.time_cache.specs.Tables.{ExpiryRow, expiry_of, ValueBytes, value_bytes, entry_of, cache_of, read_as, values_as}
use Rattle.storage.specs.Refs.Refs.{Ref}

-- values that are read from the bytes
pub values-read : {A : Type 0} (value : List ℕ → List ℕ → A) (es : List Ref) (xs : List ExpiryRow) → values_as (λ h. value h.own h.rest) (cache_of value_bytes es xs) ≡ cache_of value es xs
unfolding values_as cache_of
values-read value es xs = λ j. record { entries = map-map (read_as (λ (h : ValueBytes). value h.own h.rest)) (entry_of value_bytes xs) es j; expiry = map expiry_of xs }

-- a value that may be missing
unfoldable pub option_as : {A B : Type 0} → (A → B) → Option A → Option B
option_as f None = None
option_as f (Some a) = Some (f a)

module _ {A B : Type 0} (f : A → B) where
  -- a value and its expiry
  abbrev timed_as : Timed A → Timed B
  timed_as v = record { expires = v.expires; value = f v.value }

  lookup-as : (k : ℕ) (m : Map (Timed A)) → lookup k (map (read_as f) m) ≡ option_as timed_as (lookup k m)
  unfolding lookup option_as
  lookup-as k [] = refl
  lookup-as k (e ∷ m) = cases (eqb k e.key) (λ p. rw p refl) (λ p. rw p (lookup-as k m))

  insert-as : (k : ℕ) (v : Timed A) (m : Map (Timed A)) → map (read_as f) (insert k v m) ≡ insert k (timed_as v) (map (read_as f) m)
  unfolding insert
  insert-as k v [] = refl
  insert-as k v (e ∷ m) =
      cases (ltb k e.key) (λ p. rw p refl)
      (λ p. rw p (cases (eqb k e.key) (λ q. rw q refl) (λ q. rw q (ap (λ (l : Map (Timed B)). read_as f e ∷ l) (insert-as k v m)))))

  remove-as : (k : ℕ) (m : Map (Timed A)) → map (read_as f) (remove k m) ≡ remove k (map (read_as f) m)
  unfolding remove
  remove-as k [] = refl
  remove-as k (e ∷ m) = cases (eqb k e.key) (λ p. rw p (remove-as k m)) (λ p. rw p (ap (λ (l : Map (Timed B)). read_as f e ∷ l) (remove-as k m)))

  expires-as : (t : ℕ) (o : Option (Timed A)) → expires_at t (option_as timed_as o) ≡ expires_at t o
  unfolding expires_at option_as
  expires-as t None = refl
  expires-as t (Some v) = refl

  pop-as : (x : Expiry) (m : Map (Timed A)) → map (read_as f) (pop x m) ≡ pop x (map (read_as f) m)
  unfolding pop
  pop-as x m =
      let e : expires_at x.time (lookup x.key (map (read_as f) m)) ≡ expires_at x.time (lookup x.key m) = ap (expires_at x.time) (lookup-as x.key m) ∙ expires-as x.time (lookup x.key m) in
      cases (expires_at x.time (lookup x.key m))
      (λ p. rw (e, p) (remove-as x.key m))
      (λ p. rw (e, p) refl)

  pop_all-as : (xs : List Expiry) (m : Map (Timed A)) → map (read_as f) (pop_all xs m) ≡ pop_all xs (map (read_as f) m)
  unfolding pop_all
  pop_all-as [] m = refl
  pop_all-as (x ∷ xs) m = pop_all-as xs (pop x m) ∙ ap (pop_all xs) (pop-as x m)

  is_some-as : (o : Option (Timed A)) → is_some (option_as timed_as o) ≡ is_some o
  unfolding option_as
  is_some-as None = refl
  is_some-as (Some v) = refl

  pub keys-as : (c : Cache A) → keys (values_as f c).entries ≡ keys c.entries
  unfolding values_as
  keys-as c = map-map (λ (e : Entry (Timed B)). e.key) (read_as f) c.entries

  pub holds_as : (k : ℕ) (c : Cache A) → holds k (values_as f c) ≡ holds k c
  unfolding values_as
  holds_as k c = ap is_some (lookup-as k c.entries) ∙ is_some-as (lookup k c.entries)

  value_as : (o : Option (Timed A)) → value_of (option_as timed_as o) ≡ option_as f (value_of o)
  unfolding value_of option_as
  value_as None = refl
  value_as (Some v) = refl

  pub get-as : (k : ℕ) (c : Cache A) → get k (values_as f c) ≡ option_as f (get k c)
  unfolding values_as get
  get-as k c = ap value_of (lookup-as k c.entries) ∙ value_as (lookup k c.entries)

  pub put_as : (k : ℕ) (v : A) (t : ℕ) (c : Cache A) → values_as f (put_in k v t c) ≡ put_in k (f v) t (values_as f c)
  unfolding values_as put_in
  put_as k v t c = λ j. record { entries = insert-as k (record { expires = t; value = v }) c.entries j; expiry = (put_in k v t c).expiry }

  pub expire-as : (t : ℕ) (c : Cache A) → values_as f (expire_until t c) ≡ expire_until t (values_as f c)
  unfolding values_as expire_until
  expire-as t c = λ j. record { entries = pop_all-as (due t c.expiry) c.entries j; expiry = later t c.expiry }

  popped-as : (xs : List Expiry) (m : Map (Timed A)) → popped xs (map (read_as f) m) ≡ popped xs m
  unfolding popped
  popped-as [] m = refl
  popped-as (x ∷ xs) m =
      let e : expires_at x.time (lookup x.key (map (read_as f) m)) ≡ expires_at x.time (lookup x.key m) = ap (expires_at x.time) (lookup-as x.key m) ∙ expires-as x.time (lookup x.key m) in
      let k : popped xs (pop x (map (read_as f) m)) ≡ popped xs (pop x m) = ap (popped xs) (sym (pop-as x m)) ∙ popped-as xs (pop x m) in
      rw (e, k) refl

  -- the keys that go are the same
  pub expired-as : (t : ℕ) (c : Cache A) → expired_keys t (values_as f c) ≡ expired_keys t c
  unfolding values_as expired_keys
  expired-as t c = popped-as (due t c.expiry) c.entries

  pub later-as : (t : ℕ) (c : Cache A) → values_as f (later_cache t c) ≡ later_cache t (values_as f c)
  unfolding values_as later_cache
  later-as t c = λ j. record { entries = sym (filter_map (λ (e : Entry (Timed B)). ltb t e.value.expires) (read_as f) c.entries) j; expiry = (later_cache t c).expiry }

  pub length-as : (c : Cache A) → length (values_as f c).entries ≡ length c.entries
  unfolding values_as
  length-as c = length-map c.entries (read_as f)

-- values that are read another way, and come out the same
pub values_same : {A : Type 0} (v w : List ℕ → List ℕ → A) (xs ys : List ExpiryRow) → map expiry_of xs ≡ map expiry_of ys → (es : List Ref)
    → ((i : ℕ) → i < length es → entry_of v xs (get_or es i (record { place = 0; own = [] })) ≡ entry_of w ys (get_or es i (record { place = 0; own = [] })))
    → cache_of v es xs ≡ cache_of w es ys
unfolding cache_of
values_same {A} v w xs ys e es h = λ j. record { entries = go es h j; expiry = e j }
  where
    go : (es : List Ref) → ((i : ℕ) → i < length es → entry_of v xs (get_or es i (record { place = 0; own = [] })) ≡ entry_of w ys (get_or es i (record { place = 0; own = [] })))
        → map (entry_of v xs) es ≡ map (entry_of w ys) es
    go [] h = refl
    go (r ∷ es) h = λ j. h 0 (omega arith) j ∷ go es (λ i l. h (suc i) (omega arith)) j

-- another value over one that was put in
module _ {A : Type 0} where
  insert-twice : (k : ℕ) (v w : Timed A) (m : Map (Timed A)) → insert k w (insert k v m) ≡ insert k w m
  unfolding insert
  insert-twice k v w [] = rw (le-ltb k k (omega arith), eq-eqb k k refl) refl
  insert-twice k v w (e ∷ m) =
      cases (ltb k e.key)
      (λ p. rw p (rw (le-ltb k k (omega arith), eq-eqb k k refl) refl))
      (λ p. rw p (cases (eqb k e.key)
      (λ q. rw q (rw (le-ltb k k (omega arith), eq-eqb k k refl) refl))
      (λ q. rw q (rw p (rw q (ap (λ (l : Map (Timed A)). e ∷ l) (insert-twice k v w m)))))))

  pub replace-put : (k : ℕ) (v w : A) (t : ℕ) (c : Cache A) → replace k w (put_in k v t c) ≡ put_in k w t c
  unfolding replace put_in with_value
  replace-put k v w t c =
      let a : Timed A = record { expires = t; value = v } in
      let b : Timed A = record { expires = t; value = w } in
      λ j. record {
        entries = (ap (λ (o : Option (Timed A)). with_value k w o (insert k a c.entries)) (lookup-insert-same k a c.entries) ∙ insert-twice k a b c.entries) j;
        expiry = (put_in k w t c).expiry;
      }
