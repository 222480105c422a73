-- Maps and sets by what is looked up in them: two that ascend and answer each look-up alike are the same.
-- Assumes nothing.
use Rattle.announcements.proofs.Words.{◌≡◌, refl, sym, ap, ◌∙◌, subst, Bool, true, false, List, [], ◌∷◌, ℕ, arith, ltb, eqb, lt-ltb, ltb-true, ltb-false, eqb-true, eqb-false, eq-eqb, Option, Some, None, is_some, cases, and_left, and_right, true≢, Entry, Map, keys}
use Rattle.storage.specs.Lists.Base.{all, member, ascending}
use Rattle.storage.specs.Lists.Map.{lookup}
use Rattle.storage.proofs.ListsLaws.MapLaws.{all_head, all_tail, all_cons, all_above}
use Rattle.storage.proofs.ListsLaws.KeyLaws.{lookup_absent}

-- of two numbers one is below, or they are the same
by-order : {P : Type 0} (a b : ℕ) → (ltb a b ≡ true → P) → (ltb b a ≡ true → P) → (a ≡ b → P) → P
by-order a b f g h =
    cases (ltb a b) f
    (λ p. cases (eqb a b) (λ q. h (eqb-true a b q)) (λ q. g (lt-ltb b a (omega (arith, ltb-false a b p, eqb-false a b q)))))

-- what is above a number that is above another
above-both : (k j : ℕ) (ks : List ℕ) → ltb k j ≡ true → ascending (j ∷ ks) ≡ true → all (ltb k) (j ∷ ks) ≡ true
unfolding ascending
above-both k j ks l up = all_cons (ltb k) j ks l (all_above k j ks (ltb-true k j l) (and_left (all (ltb j) ks) (ascending ks) up))

some≢ : {A : Type 0} {P : Type 0} (o : Option A) (v : A) → o ≡ Some v → o ≡ None → P
some≢ o v e f = true≢ (sym (ap is_some f) ∙ ap is_some e)

module _ {A : Type 0} where
  here : (e : Entry A) (m : Map A) → lookup e.key (e ∷ m) ≡ Some e.value
  unfolding lookup
  here e m = rw (eq-eqb e.key e.key refl) refl

  other : (j : ℕ) (e : Entry A) (m : Map A) → eqb j e.key ≡ false → lookup j (e ∷ m) ≡ lookup j m
  unfolding lookup
  other j e m h = rw h refl

  none : (j : ℕ) → lookup {A = A} j [] ≡ None
  unfolding lookup
  none j = refl

  heads : (d e : Entry A) → d.key ≡ e.key → d.value ≡ e.value → d ≡ e
  heads d e k v = λ i. record { key = k i; value = v i }

  some-same : (v w : A) → Some v ≡ Some w → v ≡ w
  some-same v w e = ap (value_or v) e
    where
      value_or : A → Option A → A
      value_or d None = d
      value_or d (Some x) = x

  -- the rest of two maps that answer alike, from a key on that both have
  rest : (k : ℕ) (d e : Entry A) (m n : Map A) → d.key ≡ k → e.key ≡ k → all (ltb k) (keys m) ≡ true → all (ltb k) (keys n) ≡ true → ((j : ℕ) → lookup j (d ∷ m) ≡ lookup j (e ∷ n)) → (j : ℕ) → lookup j m ≡ lookup j n
  rest k d e m n p q u v w j =
      cases (eqb j k)
      (λ s. ap (λ (i : ℕ). lookup i m) (eqb-true j k s) ∙ lookup_absent k m u ∙ sym (lookup_absent k n v) ∙ sym (ap (λ (i : ℕ). lookup i n) (eqb-true j k s)))
      (λ s. sym (other j d m (ap (eqb j) p ∙ s)) ∙ w j ∙ other j e n (ap (eqb j) q ∙ s))

  pub same-maps : (m n : Map A) → ascending (keys m) ≡ true → ascending (keys n) ≡ true → ((j : ℕ) → lookup j m ≡ lookup j n) → m ≡ n
  same-maps [] [] u v w = refl
  same-maps [] (e ∷ n) u v w = some≢ (lookup e.key (e ∷ n)) e.value (here e n) (sym (w e.key) ∙ none e.key)
  same-maps (d ∷ m) [] u v w = some≢ (lookup d.key (d ∷ m)) d.value (here d m) (w d.key ∙ none d.key)
  same-maps (d ∷ m) (e ∷ n) u v w =
      by-order d.key e.key
      (λ l. some≢ (lookup d.key (d ∷ m)) d.value (here d m) (w d.key ∙ lookup_absent d.key (e ∷ n) (above-both d.key e.key (keys n) l v)))
      (λ l. some≢ (lookup e.key (e ∷ n)) e.value (here e n) (sym (w e.key) ∙ lookup_absent e.key (d ∷ m) (above-both e.key d.key (keys m) l u)))
      (λ k.
      let um : all (ltb d.key) (keys m) ≡ true = unfold ascending in (and_left (all (ltb d.key) (keys m)) (ascending (keys m)) u) in
      let vn : all (ltb e.key) (keys n) ≡ true = unfold ascending in (and_left (all (ltb e.key) (keys n)) (ascending (keys n)) v) in
      let um' : ascending (keys m) ≡ true = unfold ascending in (and_right (all (ltb d.key) (keys m)) (ascending (keys m)) u) in
      let vn' : ascending (keys n) ≡ true = unfold ascending in (and_right (all (ltb e.key) (keys n)) (ascending (keys n)) v) in
      let value : d.value ≡ e.value = some-same d.value e.value (sym (here d m) ∙ w d.key ∙ ap (λ (i : ℕ). lookup i (e ∷ n)) k ∙ here e n) in
      let more : m ≡ n = same-maps m n um' vn' (rest e.key d e m n k refl (subst (λ (i : ℕ). all (ltb i) (keys m) ≡ true) k um) vn w) in
      (λ i. heads d e k value i ∷ more i))

-- a number is absent from what is all above it
absent : (k : ℕ) (xs : List ℕ) → all (ltb k) xs ≡ true → member k xs ≡ false
unfolding all member
absent k [] h = refl
absent k (x ∷ xs) h =
    let p : ltb k x ≡ true = all_head (ltb k) x xs h in
    cases (eqb k x) (λ q. absurd (omega (arith, ltb-true k x p, eqb-true k x q))) (λ q. rw q (absent k xs (all_tail (ltb k) x xs h)))

here_in : (x : ℕ) (xs : List ℕ) → member x (x ∷ xs) ≡ true
unfolding member
here_in x xs = rw (eq-eqb x x refl) refl

other_in : (j x : ℕ) (xs : List ℕ) → eqb j x ≡ false → member j (x ∷ xs) ≡ member j xs
unfolding member
other_in j x xs h = rw h refl

both≢ : {P : Type 0} (b : Bool) → b ≡ true → b ≡ false → P
both≢ b e f = true≢ (sym f ∙ e)

rest_in : (k x y : ℕ) (xs ys : List ℕ) → x ≡ k → y ≡ k → all (ltb k) xs ≡ true → all (ltb k) ys ≡ true → ((j : ℕ) → member j (x ∷ xs) ≡ member j (y ∷ ys)) → (j : ℕ) → member j xs ≡ member j ys
rest_in k x y xs ys p q u v w j =
    cases (eqb j k)
    (λ s. ap (λ (i : ℕ). member i xs) (eqb-true j k s) ∙ absent k xs u ∙ sym (absent k ys v) ∙ sym (ap (λ (i : ℕ). member i ys) (eqb-true j k s)))
    (λ s. sym (other_in j x xs (ap (eqb j) p ∙ s)) ∙ w j ∙ other_in j y ys (ap (eqb j) q ∙ s))

pub same-sets : (xs ys : List ℕ) → ascending xs ≡ true → ascending ys ≡ true → ((j : ℕ) → member j xs ≡ member j ys) → xs ≡ ys
same-sets [] [] u v w = refl
same-sets [] (y ∷ ys) u v w = both≢ (member y (y ∷ ys)) (here_in y ys) (sym (w y) ∙ (unfold member in refl))
same-sets (x ∷ xs) [] u v w = both≢ (member x (x ∷ xs)) (here_in x xs) (w x ∙ (unfold member in refl))
same-sets (x ∷ xs) (y ∷ ys) u v w =
    by-order x y
    (λ l. both≢ (member x (x ∷ xs)) (here_in x xs) (w x ∙ absent x (y ∷ ys) (above-both x y ys l v)))
    (λ l. both≢ (member y (y ∷ ys)) (here_in y ys) (sym (w y) ∙ absent y (x ∷ xs) (above-both y x xs l u)))
    (λ k.
    let ux : all (ltb x) xs ≡ true = unfold ascending in (and_left (all (ltb x) xs) (ascending xs) u) in
    let vy : all (ltb y) ys ≡ true = unfold ascending in (and_left (all (ltb y) ys) (ascending ys) v) in
    let ux' : ascending xs ≡ true = unfold ascending in (and_right (all (ltb x) xs) (ascending xs) u) in
    let vy' : ascending ys ≡ true = unfold ascending in (and_right (all (ltb y) ys) (ascending ys) v) in
    let more : xs ≡ ys = same-sets xs ys ux' vy' (rest_in y x y xs ys k refl (subst (λ (i : ℕ). all (ltb i) xs ≡ true) k ux) vy w) in
    (λ i. k i ∷ more i))
