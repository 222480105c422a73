-- Laws of `all`, `any`, `filter`, `count`, `length` and `concat_map` on lists, and of the tests of a map's entries.
use Rattle.std.proofs.Common.{Some, is_some, ℕ, suc, ◌+◌, ◌≤◌, ◌≡◌, refl, sym, ap, ◌∙◌, Bool, true, false, not, ◌&&◌, ◌||◌, List, [], ◌∷◌, ◌++◌, map, append_assoc, append-nil, arith, ltb, eqb, length, eqb-true}
use Rattle.storage.specs.Lists.Base.{all, any, filter, count, concat_map, ascending}
use Rattle.storage.specs.Lists.Map.{Map, Entry, entry, keys, lookup, insert, remove, has}
use Rattle.storage.proofs.ListsLaws.MapLaws.{cases, true≢, and_left, and_right, and_intro, all_head, all_tail, all_cons, lookup-insert-same, lookup-insert-other, lookup-remove-same, lookup-remove-other}

module _ {A : Type 0} where
  pub all-each : (f : A → Bool) → ((x : A) → f x ≡ true) → (xs : List A) → all f xs ≡ true
  unfolding all
  all-each f w [] = refl
  all-each f w (x ∷ xs) = rw (w x) (all-each f w xs)

  pub all-imp : (f g : A → Bool) → ((x : A) → f x ≡ true → g x ≡ true) → (xs : List A) → all f xs ≡ true → all g xs ≡ true
  unfolding all
  all-imp f g w [] h = refl
  all-imp f g w (x ∷ xs) h = all_cons g x xs (w x (all_head f x xs h)) (all-imp f g w xs (all_tail f x xs h))

  pub all_append : (f : A → Bool) (xs ys : List A) → all f xs ≡ true → all f ys ≡ true → all f (xs ++ ys) ≡ true
  unfolding all
  all_append f [] ys h k = k
  all_append f (x ∷ xs) ys h k = all_cons f x (xs ++ ys) (all_head f x xs h) (all_append f xs ys (all_tail f x xs h) k)

  -- what passes both tests passes the third
  pub all-filter-imp : (f g h : A → Bool) → ((x : A) → g x ≡ true → f x ≡ true → h x ≡ true) → (xs : List A) → all f xs ≡ true → all h (filter g xs) ≡ true
  unfolding all filter
  all-filter-imp f g h w [] a = refl
  all-filter-imp f g h w (x ∷ xs) a =
      cases (g x)
      (λ p. rw p (all_cons h x (filter g xs) (w x p (all_head f x xs a)) (all-filter-imp f g h w xs (all_tail f x xs a))))
      (λ p. rw p (all-filter-imp f g h w xs (all_tail f x xs a)))

  pub all_filter : (f g : A → Bool) (xs : List A) → all f xs ≡ true → all f (filter g xs) ≡ true
  all_filter f g xs a = all-filter-imp f g f (λ x p q. q) xs a

  -- nothing is taken out
  pub filter-all : (f : A → Bool) (xs : List A) → all f xs ≡ true → filter f xs ≡ xs
  unfolding all filter
  filter-all f [] h = refl
  filter-all f (x ∷ xs) h = rw (all_head f x xs h) (ap (λ (l : List A). x ∷ l) (filter-all f xs (all_tail f x xs h)))

  pub filter-append : (f : A → Bool) (xs ys : List A) → filter f (xs ++ ys) ≡ filter f xs ++ filter f ys
  unfolding filter
  filter-append f [] ys = refl
  filter-append f (x ∷ xs) ys = cases (f x) (λ t. rw t (ap (λ (l : List A). x ∷ l) (filter-append f xs ys))) (λ t. rw t (filter-append f xs ys))

  pub filter_map : {B : Type 0} (q : A → Bool) (f : B → A) (xs : List B) → filter q (map f xs) ≡ map f (filter (λ (x : B). q (f x)) xs)
  unfolding filter
  filter_map q f [] = refl
  filter_map q f (x ∷ xs) = cases (q (f x)) (λ e. rw e (ap (λ (l : List A). f x ∷ l) (filter_map q f xs))) (λ e. rw e (filter_map q f xs))

  pub length-filter : (f : A → Bool) (xs : List A) → length (filter f xs) ≡ count f xs
  unfolding filter count
  length-filter f [] = refl
  length-filter f (x ∷ xs) = cases (f x) (λ p. rw p (ap suc (length-filter f xs))) (λ p. rw p (length-filter f xs))

  pub count-append : (f : A → Bool) (xs ys : List A) → count f (xs ++ ys) ≡ count f xs + count f ys
  unfolding count
  count-append f [] ys = omega arith
  count-append f (x ∷ xs) ys = cases (f x) (λ p. rw p (omega (arith, count-append f xs ys))) (λ p. rw p (count-append f xs ys))

  pub count-filter : (f g : A → Bool) (xs : List A) → count f (filter g xs) ≤ count f xs
  unfolding count filter
  count-filter f g [] = omega arith
  count-filter f g (n ∷ ns) =
      cases (g n)
      (λ p. rw p (cases (f n) (λ q. rw q (omega (arith, count-filter f g ns))) (λ q. rw q (count-filter f g ns))))
      (λ p. rw p (cases (f n) (λ q. rw q (omega (arith, count-filter f g ns))) (λ q. rw q (count-filter f g ns))))

  pub count-length : (f : A → Bool) (xs : List A) → count f xs ≤ length xs
  unfolding count
  count-length f [] = omega arith
  count-length f (x ∷ xs) = cases (f x) (λ p. rw p (omega (arith, count-length f xs))) (λ p. rw p (omega (arith, count-length f xs)))

  -- the bytes of some and then others, and of one
  pub concat-append : (f : A → List ℕ) (xs ys : List A) → concat_map f (xs ++ ys) ≡ concat_map f xs ++ concat_map f ys
  unfolding concat_map
  concat-append f [] ys = refl
  concat-append f (x ∷ xs) ys = ap (λ (l : List ℕ). f x ++ l) (concat-append f xs ys) ∙ sym (append_assoc (f x) (concat_map f xs) (concat_map f ys))

  pub concat-one : (f : A → List ℕ) (x : A) → concat_map f (x ∷ []) ≡ f x
  unfolding concat_map
  concat-one f x = append-nil (f x)

  -- of a list without it nothing is in a part
  pub any-filter-false : (f g : A → Bool) (xs : List A) → any f xs ≡ false → any f (filter g xs) ≡ false
  unfolding any filter
  any-filter-false f g [] h = refl
  any-filter-false f g (x ∷ xs) h =
      cases (f x) (λ p. true≢ (sym (rw p at h)))
      (λ p. cases (g x) (λ q. rw q (rw p (any-filter-false f g xs (rw p at h)))) (λ q. rw q (any-filter-false f g xs (rw p at h))))

pub all_map : {A B : Type 0} (f : B → Bool) (g : A → B) (xs : List A) → all f (map g xs) ≡ all (λ x. f (g x)) xs
unfolding all
all_map f g [] = refl
all_map f g (x ∷ xs) = cases (f (g x)) (λ p. rw p (all_map f g xs)) (λ p. rw p)

module _ {A : Type 0} where
  pub all-insert-entry : (f : Entry A → Bool) (k : ℕ) (v : A) (m : Map A) → f (entry k v) ≡ true → all f m ≡ true → all f (insert k v m) ≡ true
  unfolding all insert
  all-insert-entry f k v [] p a = rw p
  all-insert-entry f k v (e ∷ m) p a =
      cases (ltb k e.key) (λ l. rw l (all_cons f (entry k v) (e ∷ m) p a))
      (λ l. cases (eqb k e.key) (λ q. rw (l, q) (all_cons f (entry k v) m p (all_tail f e m a)))
      (λ q. rw (l, q) (all_cons f e (insert k v m) (all_head f e m a) (all-insert-entry f k v m p (all_tail f e m a)))))

  pub all-remove-entry : (f : Entry A → Bool) (k : ℕ) (m : Map A) → all f m ≡ true → all f (remove k m) ≡ true
  unfolding all remove
  all-remove-entry f k [] a = refl
  all-remove-entry f k (e ∷ m) a =
      cases (eqb k e.key) (λ q. rw q (all-remove-entry f k m (all_tail f e m a)))
      (λ q. rw q (all_cons f e (remove k m) (all_head f e m a) (all-remove-entry f k m (all_tail f e m a))))

  -- what holds of all entries holds of the one at a key
  pub all_lookup : (f : Entry A → Bool) (k : ℕ) (v : A) (m : Map A) → all f m ≡ true → lookup k m ≡ Some v → f (entry k v) ≡ true
  unfolding all lookup
  all_lookup f k v [] a h = let z : false ≡ true = cc in true≢ z
  all_lookup f k v (e ∷ m) a h =
      cases (eqb k e.key)
      (λ q. let s : Some e.value ≡ Some v = rw q at h in
      let w : e.value ≡ v = cc in
      rw (eqb-true k e.key q, ← w) (all_head f e m a))
      (λ q. all_lookup f k v m (all_tail f e m a) (rw q at h))

  pub keys-filter-all : (g : ℕ → Bool) (f : Entry A → Bool) (m : Map A) → all g (keys m) ≡ true → all g (keys (filter f m)) ≡ true
  unfolding all filter
  keys-filter-all g f [] a = refl
  keys-filter-all g f (e ∷ m) a =
      cases (f e) (λ p. rw p (all_cons g e.key (keys (filter f m)) (all_head g e.key (keys m) a) (keys-filter-all g f m (all_tail g e.key (keys m) a))))
      (λ p. rw p (keys-filter-all g f m (all_tail g e.key (keys m) a)))

  pub ascending-filter : (f : Entry A → Bool) (m : Map A) → ascending (keys m) ≡ true → ascending (keys (filter f m)) ≡ true
  unfolding ascending filter
  ascending-filter f [] h = refl
  ascending-filter f (e ∷ m) h =
      cases (f e)
      (λ p. rw p (and_intro (keys-filter-all (ltb e.key) f m (and_left (all (ltb e.key) (keys m)) (ascending (keys m)) h))
      (ascending-filter f m (and_right (all (ltb e.key) (keys m)) (ascending (keys m)) h))))
      (λ p. rw p (ascending-filter f m (and_right (all (ltb e.key) (keys m)) (ascending (keys m)) h)))

  -- the keys are those of the map before
  pub keys-map : (g : Entry A → Entry A) → ((e : Entry A) → (g e).key ≡ e.key) → (m : Map A) → keys (map g m) ≡ keys m
  keys-map g w [] = refl
  keys-map g w (e ∷ m) = rw (w e, keys-map g w m)

  pub has-insert : (q p : ℕ) (v : A) (m : Map A) → has q (insert p v m) ≡ (eqb q p || has q m)
  has-insert q p v m =
      cases (eqb q p) (λ e. rw e (rw (eqb-true q p e) (ap is_some (lookup-insert-same p v m)))) (λ e. rw e (ap is_some (lookup-insert-other q p v m e)))

  pub has-remove : (q p : ℕ) (m : Map A) → has q (remove p m) ≡ (not (eqb q p) && has q m)
  has-remove q p m =
      cases (eqb q p) (λ e. rw e (rw (eqb-true q p e) (ap is_some (lookup-remove-same p m)))) (λ e. rw e (ap is_some (lookup-remove-other q p m e)))
