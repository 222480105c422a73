-- "cache at" a round in three steps: an old content goes, the entry is put in without its content, and the content comes.
-- Assumes nothing.
use Rattle.block.proofs.Words.{Option, Some, None, ◌≡◌, refl, sym, ap, ◌∙◌, subst, true, List, [], ◌∷◌, ℕ, ◌+◌, ◌≤◌, arith, eq-eqb, le-ltb, ltb, eqb, length, ascending, Map, Entry, entry, keys, cases, lookup-insert-same, ascending-insert, Timed, Cache, replace-put, State, Cached, with_cache}
use Rattle.storage.specs.Lists.Base.{sum}
use Rattle.storage.specs.Lists.Map.{lookup, insert}
use Rattle.time_cache.specs.TimeCache.{value_of, get, put as put_in, with_value, replace}
use Rattle.time_cache.proofs.Timely.{order-added}
use Rattle.block.specs.View.{state_of}
use Rattle.block.specs.Sound.{Sound, held}
use Rattle.block.specs.declared.head.Head.{Head}
use Rattle.block.specs.Caches.InBlock.{InOrder, AtMost}
use Rattle.block.specs.Contents.CacheSteps.{message, cached_also, refill_with, refill, refilled}
use Rattle.block.proofs.ContentsLaws.Inserting.{count-put, expiry-put}

-- a value put in over another
insert-twice : {A : Type 0} (k : ℕ) (v w : A) (m : Map A) → insert k w (insert k v m) ≡ insert k w m
unfolding insert
insert-twice k v w [] = rw (le-ltb k k (omega arith), eq-eqb k k refl) refl
insert-twice {A} k v w (e ∷ m) =
    cases (ltb k e.key)
    (λ p. rw p (rw (le-ltb k k (omega arith), eq-eqb k k refl) refl))
    (λ p. rw p (cases (eqb k e.key)
    (λ q. rw q (rw (le-ltb k k (omega arith), eq-eqb k k refl) refl))
    (λ q. rw q (rw p (rw q (ap (λ (l : Map A). e ∷ l) (insert-twice k v w m)))))))

sum-insert-le : {A : Type 0} (f : Entry A → ℕ) (k : ℕ) (v : A) (m : Map A) → sum f (insert k v m) ≤ sum f m + f (entry k v)
unfolding sum insert
sum-insert-le f k v [] = omega arith
sum-insert-le f k v (e ∷ m) =
    cases (ltb k e.key) (λ p. rw p (omega arith))
    (λ p. rw p (cases (eqb k e.key) (λ q. rw q (omega arith)) (λ q. rw q (omega (arith, sum-insert-le f k v m)))))

-- the content bytes of a message that was looked up
bytes_of : Option Cached → ℕ
bytes_of None = 0
bytes_of (Some v) = length v.content

-- an entry without a content in place of one without, or of none
insert-bare : (k : ℕ) (v : Timed Cached) (m : Map (Timed Cached)) → length v.value.content ≡ 0 → bytes_of (value_of (lookup k m)) ≡ 0 → held (insert k v m) ≡ held m
unfolding insert lookup sum value_of bytes_of
insert-bare k v [] z b = omega (arith, z)
insert-bare k v (e ∷ m) z b =
    cases (ltb k e.key) (λ p. rw p (omega (arith, z)))
    (λ p. rw p (cases (eqb k e.key) (λ q. rw q (omega (arith, z, rw q at b))) (λ q. rw q (omega (arith, insert-bare k v m z (rw q at b))))))

module _ (id : ℕ) where
  -- a value put in over one that was replaced
  with-put : (v : Cached) (x : Timed Cached) (o : Option (Timed Cached)) (m : Map (Timed Cached)) → insert id x (with_value id v o m) ≡ insert id x m
  unfolding with_value
  with-put v x None m = refl
  with-put v x (Some y) m = insert-twice id (record { expires = y.expires; value = v }) x m

  put-replace : (v w : Cached) (t : ℕ) (c : Cache Cached) → put_in id w t (replace id v c) ≡ put_in id w t c
  unfolding put_in replace
  put-replace v w t c = λ j. record { entries = with-put v (record { expires = t; value = w }) (lookup id c.entries) c.entries j; expiry = (put_in id w t c).expiry }

  put-with : (content : List ℕ) (w : Cached) (t : ℕ) (o : Option Cached) (c : Cache Cached) → put_in id w t (refill_with id content o c) ≡ put_in id w t c
  unfolding refill_with
  put-with content w t None c = refl
  put-with content w t (Some v) c = put-replace (message content v.round) w t c

  pub put-refill : (content : List ℕ) (w : Cached) (t : ℕ) (c : Cache Cached) → put_in id w t (refill id content c) ≡ put_in id w t c
  put-refill content w t c = put-with content w t (get id c) c

  got-put : (v : Cached) (t : ℕ) (c : Cache Cached) → get id (put_in id v t c) ≡ Some v
  unfolding get put_in value_of
  got-put v t c = ap value_of (lookup-insert-same id (record { expires = t; value = v }) c.entries)

  pub refill-put : (content : List ℕ) (v : Cached) (t : ℕ) (c : Cache Cached) → refill id content (put_in id v t c) ≡ put_in id (message content v.round) t c
  unfolding refill_with
  refill-put content v t c =
      ap (λ (o : Option Cached). refill_with id content o (put_in id v t c)) (got-put v t c)
      ∙ replace-put id v (message content v.round) t c

  -- the three steps
  pub put_three : (content : List ℕ) (round t : ℕ) (c : Cache Cached) → refill id content (put_in id (message [] round) t (refill id [] c)) ≡ put_in id (message content round) t c
  put_three content round t c = refill-put content (message [] round) t (refill id [] c) ∙ put-refill [] (message content round) t c

  -- keys stay in order
  in-order-with : (v : Cached) (o : Option (Timed Cached)) (m : Map (Timed Cached)) → ascending (keys m) ≡ true → ascending (keys (with_value id v o m)) ≡ true
  unfolding with_value
  in-order-with v None m u = u
  in-order-with v (Some y) m u = ascending-insert id _ m u

  in-order-given : (content : List ℕ) (o : Option Cached) (c : Cache Cached) → InOrder c → InOrder (refill_with id content o c)
  unfolding refill_with replace
  in-order-given content None c i = i
  in-order-given content (Some v) c i = record { up = in-order-with (message content v.round) (lookup id c.entries) c.entries i.up; order = i.order }

  pub in-order-refill : (content : List ℕ) (c : Cache Cached) → InOrder c → InOrder (refill id content c)
  in-order-refill content c i = in-order-given content (get id c) c i

  pub in-order-put : (v : Cached) (t : ℕ) (c : Cache Cached) → InOrder c → InOrder (put_in id v t c)
  unfolding put_in
  in-order-put v t c i = record { up = ascending-insert id _ c.entries i.up; order = order-added _ c.expiry i.order }

  -- the bytes of the contents
  less-with : (r : ℕ) (o : Option (Timed Cached)) (m : Map (Timed Cached)) → held (with_value id (message [] r) o m) ≤ held m
  unfolding with_value
  less-with r None m = omega arith
  less-with r (Some y) m = omega (arith, sum-insert-le (λ e. length e.value.value.content) id (record { expires = y.expires; value = message [] r }) m)

  less-given : (o : Option Cached) (c : Cache Cached) → held (refill_with id [] o c).entries ≤ held c.entries
  unfolding refill_with replace
  less-given None c = omega arith
  less-given (Some v) c = less-with v.round (lookup id c.entries) c.entries

  pub held-less : (c : Cache Cached) → held (refill id [] c).entries ≤ held c.entries
  held-less c = less-given (get id c) c

  -- nothing is left of an old content
  bare-with : (r : ℕ) (o : Option (Timed Cached)) (m : Map (Timed Cached)) → lookup id m ≡ o → bytes_of (value_of (lookup id (with_value id (message [] r) o m))) ≡ 0
  unfolding with_value value_of bytes_of
  bare-with r None m e = ap (λ (o : Option (Timed Cached)). bytes_of (value_of o)) e
  bare-with r (Some y) m e = ap (λ (o : Option (Timed Cached)). bytes_of (value_of o)) (lookup-insert-same id (record { expires = y.expires; value = message [] r }) m)

  bare-given : (o : Option Cached) (c : Cache Cached) → get id c ≡ o → bytes_of (get id (refill_with id [] o c)) ≡ 0
  unfolding refill_with replace get bytes_of
  bare-given None c e = ap bytes_of e
  bare-given (Some v) c e = bare-with v.round (lookup id c.entries) c.entries refl

  pub held_same : (round t : ℕ) (c : Cache Cached) → held (put_in id (message [] round) t (refill id [] c)).entries ≡ held (refill id [] c).entries
  unfolding put_in get
  held_same round t c = insert-bare id (record { expires = t; value = message [] round }) (refill id [] c).entries refl (bare-given (get id c) c refl)

  pub most-refill : (n : ℕ) (content : List ℕ) (round t : ℕ) (c : Cache Cached) → AtMost n (put_in id (message content round) t c) → AtMost n (put_in id (message [] round) t (refill id [] c))
  most-refill n content round t c a =
      subst (λ (d : Cache Cached). AtMost n d) (sym (put-refill [] (message [] round) t c))
      (record {
        entries = omega (arith, a.entries, count-put id t (message content round) (message [] round) c);
        expiry = omega (arith, a.expiry, expiry-put id t (message content round) (message [] round) c);
      })

-- what the contents hold is within their limit
pub held-within : (h : Head) (xs : List ℕ) → Sound h xs → held (state_of h xs).cache.entries ≤ (state_of h xs).limits.B
unfolding state_of
held-within h xs sound = omega (arith, sound.laid.used, sound.fit.within.contents)

-- of the state, which goes to s1, s2 and s3
module _ (id : ℕ) (content : List ℕ) (round t : ℕ) (s : State) (order : InOrder s.cache) where
  pub first-room : held s.cache.entries ≤ s.limits.B → held (refill id [] s.cache).entries ≤ s.limits.B
  first-room w = omega (arith, held-less id s.cache, w)

  module _ (s1 : State) (g : s1 ≡ refilled id [] s) where
    pub order-1 : InOrder s1.cache
    order-1 = subst (λ (z : State). InOrder z.cache) (sym g) (in-order-refill id [] s.cache order)

    pub most-1 : AtMost s.limits.C (put_in id (message content round) t s.cache) → AtMost s1.limits.C (put_in id (message [] round) t s1.cache)
    most-1 m = subst (λ (z : State). AtMost z.limits.C (put_in id (message [] round) t z.cache)) (sym g) (most-refill id s.limits.C content round t s.cache m)

    pub bare-1 : held (put_in id (message [] round) t s1.cache).entries ≡ held s1.cache.entries
    bare-1 = subst (λ (z : State). held (put_in id (message [] round) t z.cache).entries ≡ held z.cache.entries) (sym g) (held_same id round t s.cache)

    module _ (s2 : State) (f : s2 ≡ cached_also id [] round t s1) where
      both : s2 ≡ cached_also id [] round t (refilled id [] s)
      both = f ∙ ap (cached_also id [] round t) g

      pub order-2 : InOrder s2.cache
      order-2 = subst (λ (z : State). InOrder z.cache) (sym f) (in-order-put id (message [] round) t s1.cache order-1)

      pub room-2 : held (put_in id (message content round) t s.cache).entries ≤ s.limits.B → held (refill id content s2.cache).entries ≤ s2.limits.B
      room-2 w =
          subst (λ (z : State). held (refill id content z.cache).entries ≤ z.limits.B) (sym both)
          (omega (arith, w, ap (λ (c : Cache Cached). held c.entries) (put_three id content round t s.cache)))

      pub also : (s3 : State) → s3 ≡ refilled id content s2 → s3 ≡ cached_also id content round t s
      also s3 e = e ∙ ap (refilled id content) both ∙ ap (λ (c : Cache Cached). with_cache c s) (put_three id content round t s.cache)
