-- Two lists in which each peer has the same: their lengths, counts and tests, and what the ticks make of them.
-- Assumes nothing.
use Rattle.std.proofs.Common.{ℕ, suc, ◌-◌, ◌≤◌, ◌<◌, arith, ◌≡◌, refl, sym, ap, ◌∙◌, Bool, true, false, not, List, [], ◌∷◌, ◌++◌, ltb, eqb, length, length-append, take, drop, ltb-true, ltb-false, eqb-true, eq-eqb, if◌then◌else◌}
use lib.Seq.{take-nil, drop-nil}
use Rattle.storage.specs.Lists.Base.{is_empty, filter, count, any, all, member, ascending}
use Rattle.storage.specs.Lists.Map.{insert_key}
use Rattle.storage.proofs.ListsLaws.MapLaws.{cases, true≢, and_left, and_right, all_head, all_tail}
use Rattle.storage.proofs.ListsLaws.KeyLaws.{eqb-sym}
use Rattle.storage.proofs.ListsLaws.ListLaws.{filter-append, length-filter}
use Rattle.protocol.specs.State.{Note}
use Rattle.protocol.specs.Push.{for_peer, notes}
use Rattle.protocol.specs.Ticks.{oldest, younger, queued_peers}
use Rattle.protocol.proofs.ConsistentTables.{ascending-insert_key}
use Rattle.protocol.specs.AlikeCalls.Peerwise.{Peerwise, of_peer}
use Rattle.protocol.specs.declared.TheConstants.{DROPPED_PER_TICK}

pub eqb_refl : (n : ℕ) → eqb n n ≡ true
eqb_refl n = eq-eqb n n refl

-- two tests, in either order
pub filter-swap : {A : Type 0} (f g : A → Bool) (xs : List A) → filter f (filter g xs) ≡ filter g (filter f xs)
unfolding filter
filter-swap f g [] = refl
filter-swap {A} f g (x ∷ xs) =
    cases (f x)
    (λ a. cases (g x) (λ b. rw (a, b, a) (ap (λ (r : List A). x ∷ r) (filter-swap f g xs))) (λ b. rw (a, b) (filter-swap f g xs)))
    (λ a. cases (g x) (λ b. rw (a, b, a) (filter-swap f g xs)) (λ b. rw (a, b) (filter-swap f g xs)))

pub peerwise-refl : (xs : List Note) → Peerwise xs xs
peerwise-refl xs = record { same = λ p. refl }

pub peerwise-append : {xs ys us vs : List Note} → Peerwise xs ys → Peerwise us vs → Peerwise (xs ++ us) (ys ++ vs)
peerwise-append {xs} {ys} {us} {vs} h k = record {
  same = λ p. filter-append (for_peer p) xs us ∙ ap (λ (l : List Note). l ++ of_peer p us) (h.same p) ∙ ap (λ (l : List Note). of_peer p ys ++ l) (k.same p) ∙ sym (filter-append (for_peer p) ys vs);
}

pub peerwise-filter : {xs ys : List Note} (f : Note → Bool) → Peerwise xs ys → Peerwise (filter f xs) (filter f ys)
peerwise-filter {xs} {ys} f h = record { same = λ p. filter-swap (for_peer p) f xs ∙ ap (filter f) (h.same p) ∙ sym (filter-swap (for_peer p) f ys) }

pub peerwise-count : {xs ys : List Note} (p : ℕ) → Peerwise xs ys → count (for_peer p) xs ≡ count (for_peer p) ys
peerwise-count {xs} {ys} p h = sym (length-filter (for_peer p) xs) ∙ ap length (h.same p) ∙ length-filter (for_peer p) ys

pub any_of : (p id : ℕ) (xs : List Note) → any (notes p id) xs ≡ any (λ n. eqb n.id id) (of_peer p xs)
unfolding any filter
any_of p id [] = refl
any_of p id (n ∷ xs) = cases (eqb n.peer p) (λ e. rw (e, any_of p id xs)) (λ e. rw (e, any_of p id xs))

pub peerwise-any : {xs ys : List Note} (p id : ℕ) → Peerwise xs ys → any (notes p id) xs ≡ any (notes p id) ys
peerwise-any {xs} {ys} p id h = any_of p id xs ∙ ap (any (λ n. eqb n.id id)) (h.same p) ∙ sym (any_of p id ys)

-- a list about the peer's first entry `n`; `rest` are its other entries
record FirstOf (p : ℕ) (n : Note) (rest ys : List Note) : Type 0 where
  before : List Note
  after : List Note
  split : ys ≡ before ++ (n ∷ after)
  none : of_peer p before ≡ []
  more : of_peer p after ≡ rest

first_of : (p : ℕ) (n : Note) (rest ys : List Note) → of_peer p ys ≡ n ∷ rest → FirstOf p n rest ys
unfolding filter
first_of p n rest [] h = let z : false ≡ true = cc in true≢ z
first_of p n rest (y ∷ ys) h =
    cases (eqb y.peer p)
    (λ e. let k : y ∷ of_peer p ys ≡ n ∷ rest = rw e at h in
    let same : y ≡ n = cc in
    let others : of_peer p ys ≡ rest = cc in
    record { before = []; after = ys; split = ap (λ (m : Note). m ∷ ys) same; none = refl; more = others })
    (λ e. let k : of_peer p ys ≡ n ∷ rest = rw e at h in
    let o = first_of p n rest ys k in
    record { before = y ∷ o.before; after = o.after; split = ap (λ (l : List Note). y ∷ l) o.split; none = rw e o.none; more = o.more })

own_first : (n : Note) (xs : List Note) → of_peer n.peer (n ∷ xs) ≡ n ∷ of_peer n.peer xs
unfolding filter
own_first n xs = rw (eqb_refl n.peer)

without-first : (n : Note) (xs ys : List Note) (o : FirstOf n.peer n (of_peer n.peer xs) ys) → Peerwise (n ∷ xs) ys → Peerwise xs (o.before ++ o.after)
unfolding filter
without-first n xs ys o h = record { same = λ q. cases (eqb n.peer q) (λ e. mine q (eqb-true n.peer q e)) (λ e. other q e) }
  where
    mine : (q : ℕ) → n.peer ≡ q → of_peer q xs ≡ of_peer q (o.before ++ o.after)
    mine q e = rw (← e) (sym (filter-append (for_peer n.peer) o.before o.after ∙ ap (λ (l : List Note). l ++ of_peer n.peer o.after) o.none ∙ o.more))

    other : (q : ℕ) → eqb n.peer q ≡ false → of_peer q xs ≡ of_peer q (o.before ++ o.after)
    other q e =
        let a : of_peer q (n ∷ xs) ≡ of_peer q xs = rw e in
        let b : of_peer q (n ∷ o.after) ≡ of_peer q o.after = rw e in
        sym a ∙ h.same q ∙ ap (of_peer q) o.split ∙ filter-append (for_peer q) o.before (n ∷ o.after)
        ∙ ap (λ (l : List Note). of_peer q o.before ++ l) b ∙ sym (filter-append (for_peer q) o.before o.after)

pub peerwise-length : (xs ys : List Note) → Peerwise xs ys → length xs ≡ length ys
unfolding filter
peerwise-length [] [] h = refl
peerwise-length [] (y ∷ ys) h = let k : [] ≡ y ∷ of_peer y.peer ys = h.same y.peer ∙ own_first y ys in let z : false ≡ true = cc in true≢ z
peerwise-length (n ∷ xs) ys h =
    let o = first_of n.peer n (of_peer n.peer xs) ys (sym (h.same n.peer) ∙ own_first n xs) in
    let k = peerwise-length xs (o.before ++ o.after) (without-first n xs ys o h) in
    omega (arith, k, ap length o.split, length-append o.before (n ∷ o.after), length-append o.before o.after)

pub peerwise-empty : (xs ys : List Note) → Peerwise xs ys → is_empty xs ≡ is_empty ys
peerwise-empty [] [] h = refl
peerwise-empty [] (y ∷ ys) h = absurd (omega (arith, peerwise-length [] (y ∷ ys) h))
peerwise-empty (x ∷ xs) [] h = absurd (omega (arith, peerwise-length (x ∷ xs) [] h))
peerwise-empty (x ∷ xs) (y ∷ ys) h = refl

-- "the oldest 64 per peer"

-- of one peer the oldest are the first, as many as are left of 64
pub oldest-of : (p : ℕ) (seen ns : List Note) → of_peer p (oldest seen ns) ≡ take (DROPPED_PER_TICK - count (for_peer p) seen) (of_peer p ns)
unfolding oldest filter count
oldest-of p seen [] = sym (take-nil (DROPPED_PER_TICK - count (for_peer p) seen))
oldest-of p seen (n ∷ ns) =
    cases (eqb n.peer p)
    (λ e. let s = eqb-true n.peer p e in
    cases (ltb (count (for_peer n.peer) seen) DROPPED_PER_TICK)
    (λ l. rw (l, e) (ap (λ (r : List Note). n ∷ r) (rw e at (oldest-of p (n ∷ seen) ns)) ∙ more (ltb-true (count (for_peer p) seen) DROPPED_PER_TICK (rw s at l))))
    (λ l. rw (l, e) ((rw e at (oldest-of p (n ∷ seen) ns)) ∙ less (ltb-false (count (for_peer p) seen) DROPPED_PER_TICK (rw s at l)))))
    (λ e. cases (ltb (count (for_peer n.peer) seen) DROPPED_PER_TICK)
    (λ l. rw (l, e) (rw e at (oldest-of p (n ∷ seen) ns)))
    (λ l. rw (l, e) (rw e at (oldest-of p (n ∷ seen) ns))))
  where
    more : count (for_peer p) seen < DROPPED_PER_TICK → (n ∷ take (DROPPED_PER_TICK - suc (count (for_peer p) seen)) (of_peer p ns)) ≡ take (DROPPED_PER_TICK - count (for_peer p) seen) (n ∷ of_peer p ns)
    more l = let e : DROPPED_PER_TICK - count (for_peer p) seen ≡ suc (DROPPED_PER_TICK - suc (count (for_peer p) seen)) = omega arith in rw e

    less : DROPPED_PER_TICK ≤ count (for_peer p) seen → take (DROPPED_PER_TICK - suc (count (for_peer p) seen)) (of_peer p ns) ≡ take (DROPPED_PER_TICK - count (for_peer p) seen) (n ∷ of_peer p ns)
    less l = let e : DROPPED_PER_TICK - count (for_peer p) seen ≡ 0 = omega arith in let f : DROPPED_PER_TICK - suc (count (for_peer p) seen) ≡ 0 = omega arith in rw (e, f)

-- and the younger are the others
pub younger-of : (p : ℕ) (seen ns : List Note) → of_peer p (younger seen ns) ≡ drop (DROPPED_PER_TICK - count (for_peer p) seen) (of_peer p ns)
unfolding younger filter count
younger-of p seen [] = sym (drop-nil (DROPPED_PER_TICK - count (for_peer p) seen))
younger-of p seen (n ∷ ns) =
    cases (eqb n.peer p)
    (λ e. let s = eqb-true n.peer p e in
    cases (ltb (count (for_peer n.peer) seen) DROPPED_PER_TICK)
    (λ l. rw (l, e) ((rw e at (younger-of p (n ∷ seen) ns)) ∙ more (ltb-true (count (for_peer p) seen) DROPPED_PER_TICK (rw s at l))))
    (λ l. rw (l, e) (ap (λ (r : List Note). n ∷ r) (rw e at (younger-of p (n ∷ seen) ns)) ∙ less (ltb-false (count (for_peer p) seen) DROPPED_PER_TICK (rw s at l)))))
    (λ e. cases (ltb (count (for_peer n.peer) seen) DROPPED_PER_TICK)
    (λ l. rw (l, e) (rw e at (younger-of p (n ∷ seen) ns)))
    (λ l. rw (l, e) (rw e at (younger-of p (n ∷ seen) ns))))
  where
    more : count (for_peer p) seen < DROPPED_PER_TICK → drop (DROPPED_PER_TICK - suc (count (for_peer p) seen)) (of_peer p ns) ≡ drop (DROPPED_PER_TICK - count (for_peer p) seen) (n ∷ of_peer p ns)
    more l = let e : DROPPED_PER_TICK - count (for_peer p) seen ≡ suc (DROPPED_PER_TICK - suc (count (for_peer p) seen)) = omega arith in rw e

    less : DROPPED_PER_TICK ≤ count (for_peer p) seen → (n ∷ drop (DROPPED_PER_TICK - suc (count (for_peer p) seen)) (of_peer p ns)) ≡ drop (DROPPED_PER_TICK - count (for_peer p) seen) (n ∷ of_peer p ns)
    less l = let e : DROPPED_PER_TICK - count (for_peer p) seen ≡ 0 = omega arith in let f : DROPPED_PER_TICK - suc (count (for_peer p) seen) ≡ 0 = omega arith in rw (e, f)

pub peerwise-oldest : {xs ys : List Note} → Peerwise xs ys → Peerwise (oldest [] xs) (oldest [] ys)
peerwise-oldest {xs} {ys} h = record { same = λ p. oldest-of p [] xs ∙ ap (take (DROPPED_PER_TICK - count (for_peer p) [])) (h.same p) ∙ sym (oldest-of p [] ys) }

pub peerwise-younger : {xs ys : List Note} → Peerwise xs ys → Peerwise (younger [] xs) (younger [] ys)
peerwise-younger {xs} {ys} h = record { same = λ p. younger-of p [] xs ∙ ap (drop (DROPPED_PER_TICK - count (for_peer p) [])) (h.same p) ∙ sym (younger-of p [] ys) }

-- "peers ascending": the same peers

member-insert_key : (p k : ℕ) (xs : List ℕ) → member p (insert_key k xs) ≡ (if eqb p k then true else member p xs)
unfolding member insert_key
member-insert_key p k [] = refl
member-insert_key p k (x ∷ xs) =
    cases (ltb k x) (λ a. rw a refl)
    (λ a. cases (eqb k x)
    (λ b. rw (a, b) (let e = eqb-true k x b in rw e (cases (eqb p x) (λ c. rw c) (λ c. rw c))))
    (λ b. rw (a, b) (cases (eqb p x) (λ c. rw c (cases (eqb p k) (λ d. rw d) (λ d. rw d))) (λ c. rw c (member-insert_key p k xs)))))

-- a peer is among them when something stands for it
member-queued : (p : ℕ) (ns : List Note) → member p (queued_peers ns) ≡ not (is_empty (of_peer p ns))
unfolding queued_peers filter member
member-queued p [] = refl
member-queued p (n ∷ ns) =
    member-insert_key p n.peer (queued_peers ns)
    ∙ rw (eqb-sym p n.peer) (cases (eqb n.peer p) (λ a. rw a) (λ a. rw a (member-queued p ns)))

queued-ascending : (ns : List Note) → ascending (queued_peers ns) ≡ true
unfolding queued_peers
queued-ascending [] = unfold ascending in refl
queued-ascending (n ∷ ns) = ascending-insert_key n.peer (queued_peers ns) (queued-ascending ns)

all-member : (x y : ℕ) (ys : List ℕ) → all (ltb x) ys ≡ true → member y ys ≡ true → x < y
unfolding member
all-member x y [] a m = true≢ m
all-member x y (z ∷ ys) a m =
    cases (eqb y z) (λ e. omega (arith, ltb-true x z (all_head (ltb x) z ys a), eqb-true y z e))
    (λ e. all-member x y ys (all_tail (ltb x) z ys a) (rw e at m))

member-head : (x : ℕ) (xs : List ℕ) → member x (x ∷ xs) ≡ true
unfolding member
member-head x xs = rw (eqb_refl x)

-- two ascending lists with the same members are equal
pub same-ascending : (xs ys : List ℕ) → ascending xs ≡ true → ascending ys ≡ true → ((z : ℕ) → member z xs ≡ member z ys) → xs ≡ ys
unfolding member ascending
same-ascending [] [] a b h = refl
same-ascending [] (y ∷ ys) a b h = true≢ (h y ∙ member-head y ys)
same-ascending (x ∷ xs) [] a b h = true≢ (sym (h x) ∙ member-head x xs)
same-ascending (x ∷ xs) (y ∷ ys) a b h =
    let e : x ≡ y = omega (arith, least x y xs above-x (h y ∙ member-head y ys), least y x ys above-y (sym (h x) ∙ member-head x xs)) in
    let t : xs ≡ ys = same-ascending xs ys (and_right (all (ltb x) xs) (ascending xs) a) (and_right (all (ltb y) ys) (ascending ys) b) (λ z. rest e z) in
    rw (e, t)
  where
    above-x : all (ltb x) xs ≡ true
    above-x = and_left (all (ltb x) xs) (ascending xs) a

    above-y : all (ltb y) ys ≡ true
    above-y = and_left (all (ltb y) ys) (ascending ys) b

    least : (w z : ℕ) (ws : List ℕ) → all (ltb w) ws ≡ true → member z (w ∷ ws) ≡ true → w ≤ z
    least w z ws c m = cases (eqb z w) (λ e. omega (arith, eqb-true z w e)) (λ e. omega (arith, all-member w z ws c (rw e at m)))

    absent : (w z : ℕ) (ws : List ℕ) → all (ltb w) ws ≡ true → z ≡ w → member z ws ≡ false
    absent w z ws c s = cases (member z ws) (λ m. absurd (omega (arith, all-member w z ws c m))) (λ m. m)

    rest : x ≡ y → (z : ℕ) → member z xs ≡ member z ys
    rest e z = cases (eqb z x)
        (λ q. absent x z xs above-x (eqb-true z x q) ∙ sym (absent y z ys above-y (eqb-true z x q ∙ e)))
        (λ q. let r : eqb z y ≡ false = rw e at q in rw (q, r) at (h z))

pub peerwise-peers : {xs ys : List Note} → Peerwise xs ys → queued_peers xs ≡ queued_peers ys
peerwise-peers {xs} {ys} h =
    same-ascending (queued_peers xs) (queued_peers ys) (queued-ascending xs) (queued-ascending ys)
    (λ z. member-queued z xs ∙ ap (λ (l : List Note). not (is_empty l)) (h.same z) ∙ sym (member-queued z ys))
