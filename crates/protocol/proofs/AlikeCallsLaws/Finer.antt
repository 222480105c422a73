-- "Two blocks alike in the new way are alike in the old way": lists in the same order have each element as often.
-- Assumes nothing.
use Rattle.std.proofs.Common.{Option, Some, None, ◌≡◌, refl, sym, ap, ◌∙◌, Bool, true, ◌&&◌, List, [], ◌∷◌, eqb, eq-eqb}
use Rattle.storage.specs.Lists.Base.{filter, count}
use Rattle.storage.specs.Lists.Map.{Map, Entry}
use Rattle.storage.proofs.ListsLaws.MapLaws.{cases, and_intro}
use Rattle.storage.proofs.ListsLaws.KeyLaws.{eqb-sym}
use Rattle.storage.proofs.ListsLaws.ListLaws.{all-each}
use Rattle.time_cache.specs.TimeCache.{Cache, Timed}
use Rattle.protocol.specs.State.{State, Hop, Note}
use Rattle.protocol.specs.Whole.{whole_state}
use Rattle.protocol.specs.Alike.{same_list, same_map, same_mark, same_hop, same_note, same_notes, same_expiry, same_cache, same_settings, same_limits, same_tables, same_caches, same_flags, alike, likeness, likeness_of, alike_blocks}
use Rattle.protocol.specs.AlikeUnordered.{same_bag, same_cache_unordered, same_tables_unordered, same_caches_unordered, alike_unordered}
use Rattle.protocol.specs.AlikeCalls.AlikeFiner.{likeness_unordered, alike_blocks_unordered, AlikeFiner}
use Rattle.protocol.specs.AlikeCalls.Peerwise.{of_peer}
use Rattle.protocol.proofs.AlikeCallsLaws.Reflect.{both, Tells, tells-list, tells-hop, tells-expiry, tells-notes}

bag-counts : {A : Type 0} (same : A → A → Bool) (xs ys : List A) → ((a : A) → count (same a) xs ≡ count (same a) ys) → same_bag same xs ys ≡ true
unfolding same_bag
bag-counts same xs ys h = and_intro (all-each (λ x. eqb (count (same x) xs) (count (same x) ys)) (λ x. eq-eqb _ _ (h x)) xs) (all-each (λ y. eqb (count (same y) xs) (count (same y) ys)) (λ y. eq-eqb _ _ (h y)) ys)

bag-list : {A : Type 0} (same : A → A → Bool) → Tells same → (xs ys : List A) → same_list same xs ys ≡ true → same_bag same xs ys ≡ true
bag-list same w xs ys h = bag-counts same xs ys (λ a. ap (count (same a)) (tells-list same w xs ys h))

-- who is the same as an entry is of its peer
count-of : (n : Note) (xs : List Note) → count (same_note n) xs ≡ count (same_note n) (of_peer n.peer xs)
unfolding count filter same_note
count-of n [] = refl
count-of n (x ∷ xs) = cases (eqb x.peer n.peer) (λ e. rw e (rw (count-of n xs))) (λ e. rw (e, eqb-sym n.peer x.peer ∙ e) (count-of n xs))

bag-notes : (xs ys : List Note) → same_notes xs ys ≡ true → same_bag same_note xs ys ≡ true
bag-notes xs ys h = bag-counts same_note xs ys (λ n. count-of n xs ∙ ap (count (same_note n)) ((tells-notes xs ys h).same n.peer) ∙ sym (count-of n ys))

-- a test that passes more
list-more : {A : Type 0} (f g : A → A → Bool) → ((x y : A) → f x y ≡ true → g x y ≡ true) → (xs ys : List A) → same_list f xs ys ≡ true → same_list g xs ys ≡ true
unfolding same_list
list-more f g w [] [] h = refl
list-more f g w [] (y ∷ ys) h = h
list-more f g w (x ∷ xs) [] h = h
list-more f g w (x ∷ xs) (y ∷ ys) h = let (a, b) = both h in and_intro (w x y a) (list-more f g w xs ys b)

cache-unordered : {A : Type 0} (same : A → A → Bool) (x y : Cache A) → same_cache same x y ≡ true → same_cache_unordered same x y ≡ true
unfolding same_cache same_cache_unordered
cache-unordered {A} same x y h =
    let (a, b) = both {a = same_map {A = Timed A} (λ u v. eqb u.expires v.expires && same u.value v.value) x.entries y.entries} {b = same_list same_expiry x.expiry y.expiry} h in
    and_intro a (bag-list same_expiry tells-expiry x.expiry y.expiry b)

announcers-unordered : (m n : Map (List Hop)) → same_map (same_list same_hop) m n ≡ true → same_map (same_bag same_hop) m n ≡ true
unfolding same_map
announcers-unordered m n h = list-more (λ d e. eqb d.key e.key && same_list same_hop d.value e.value) (λ d e. eqb d.key e.key && same_bag same_hop d.value e.value) one m n h
  where
    one : (d e : Entry (List Hop)) → (eqb d.key e.key && same_list same_hop d.value e.value) ≡ true → (eqb d.key e.key && same_bag same_hop d.value e.value) ≡ true
    one d e k = let (a, b) = both {a = eqb d.key e.key} {b = same_list same_hop d.value e.value} k in and_intro a (bag-list same_hop tells-hop d.value e.value b)

tables-unordered : (s t : State) → same_tables s t ≡ true → same_tables_unordered s t ≡ true
unfolding same_tables same_tables_unordered
tables-unordered s t h =
    let (h₄, graft) = both {b = same_list eqb s.timers.graft t.timers.graft} h in
    let (h₃, missing) = both h₄ in
    let (h₂, dropped) = both h₃ in
    let (links, queue) = both {a = same_map same_mark s.links t.links} h₂ in
    and_intro (and_intro (and_intro (and_intro links (bag-notes s.queue t.queue queue)) (bag-notes s.dropped t.dropped dropped))
    (announcers-unordered s.missing t.missing missing)) graft

caches-unordered : (s t : State) → same_caches s t ≡ true → same_caches_unordered s t ≡ true
unfolding same_caches same_caches_unordered
caches-unordered s t h =
    let (h₂, c) = both h in
    let (a, b) = both h₂ in
    and_intro (and_intro (cache-unordered _ _ _ a) (cache-unordered _ _ _ b)) (cache-unordered _ _ _ c)

state-unordered : (s t : State) → alike s t ≡ true → alike_unordered s t ≡ true
unfolding alike alike_unordered
state-unordered s t h =
    let (h₄, flags) = both {b = same_flags s t} h in
    let (h₃, caches) = both h₄ in
    let (h₂, tables) = both {a = same_settings s.settings t.settings && same_limits s.limits t.limits} h₃ in
    and_intro (and_intro (and_intro h₂ (tables-unordered s t tables)) (caches-unordered s t caches)) flags

likeness-unordered : (a b : Option State) → likeness_of a b ≡ likeness true → likeness_unordered a b ≡ likeness true
unfolding likeness_of likeness_unordered
likeness-unordered None b h = h
likeness-unordered (Some s) None h = h
likeness-unordered (Some s) (Some t) h = let e : alike s t ≡ true = cc in ap likeness (state-unordered s t e)

pub alike-finer : AlikeFiner
unfolding alike_blocks alike_blocks_unordered
alike-finer = record { states = state-unordered; blocks = λ n a m b. likeness-unordered (whole_state n a) (whole_state m b) }
