-- States that differ in the interleaving alone are alike.
-- Assumes nothing.
use Rattle.std.proofs.Common.{Some, None, ◌≡◌, refl, Bool, true, false, ◌&&◌, List, [], ◌∷◌, ◌++◌, eqb}
use mathlib.Core.Bool.{beq}
use Rattle.storage.proofs.ListsLaws.MapLaws.{and_intro}
use Rattle.storage.proofs.ListsLaws.ListLaws.{all-each}
use Rattle.protocol.specs.Links.{eager, lazy, quiet}
use Rattle.protocol.specs.State.{State, Note, zero_counts}
use Rattle.protocol.specs.Run.{Run}
use Rattle.protocol.specs.Alike.{same_list, same_option, same_map, same_mark, same_hop, same_note, same_notes, same_expiry, same_grafts, same_cached, same_unit, same_cache, same_settings, same_limits, same_tables, same_caches, same_flags, alike}
use Rattle.protocol.specs.AlikeCalls.Peerwise.{Peerwise, of_peer, Like, like, LikeStates}
use Rattle.protocol.proofs.AlikeCallsLaws.PeerLaws.{eqb_refl}

-- each passes the test with itself
abbrev pub Refl : {A : Type 0} → (A → A → Bool) → Type 0
Refl {A} same = (x : A) → same x x ≡ true

pub list-refl : {A : Type 0} (same : A → A → Bool) → Refl same → Refl (same_list same)
unfolding same_list
list-refl same w [] = refl
list-refl same w (x ∷ xs) = and_intro (w x) (list-refl same w xs)

option-refl : {A : Type 0} (same : A → A → Bool) → Refl same → Refl (same_option same)
unfolding same_option
option-refl same w None = refl
option-refl same w (Some a) = w a

map_refl : {A : Type 0} (same : A → A → Bool) → Refl same → Refl (same_map same)
unfolding same_map
map_refl same w m = list-refl (λ d e. eqb d.key e.key && same d.value e.value) (λ e. and_intro (eqb_refl e.key) (w e.value)) m

mark-refl : Refl same_mark
unfolding same_mark
mark-refl eager = refl
mark-refl lazy = refl
mark-refl quiet = refl

flag-refl : Refl beq
flag-refl true = refl
flag-refl false = refl

hop-refl : Refl same_hop
unfolding same_hop
hop-refl x = and_intro (eqb_refl x.peer) (eqb_refl x.round)

pub note-refl : Refl same_note
unfolding same_note
note-refl x = and_intro (and_intro (eqb_refl x.peer) (eqb_refl x.id)) (eqb_refl x.round)

expiry-refl : Refl same_expiry
unfolding same_expiry
expiry-refl x = and_intro (eqb_refl x.time) (eqb_refl x.key)

grafts-refl : Refl same_grafts
unfolding same_grafts
grafts-refl x = and_intro (and_intro (option-refl same_hop hop-refl x.first) (option-refl eqb eqb_refl x.kept)) (map_refl eqb eqb_refl x.peers)

cached-refl : Refl same_cached
unfolding same_cached
cached-refl x = and_intro (list-refl eqb eqb_refl x.content) (eqb_refl x.round)

unit-refl : Refl same_unit
unfolding same_unit
unit-refl x = refl

cache-refl : {A : Type 0} (same : A → A → Bool) → Refl same → Refl (same_cache same)
unfolding same_cache
cache-refl same w c =
    and_intro (map_refl (λ x y. eqb x.expires y.expires && same x.value y.value) (λ x. and_intro (eqb_refl x.expires) (w x.value)) c.entries)
    (list-refl same_expiry expiry-refl c.expiry)

settings-refl : Refl same_settings
unfolding same_settings
settings-refl x = rw (eqb_refl x.graft_timeout_1, eqb_refl x.graft_timeout_2, eqb_refl x.dispatch_timeout, eqb_refl x.optimization_threshold, eqb_refl x.message_cache_retention, eqb_refl x.message_id_retention, eqb_refl x.cache_evict_interval, eqb_refl x.max_message_size, eqb_refl x.me)

limits-refl : Refl same_limits
unfolding same_limits
limits-refl x = rw (eqb_refl x.N, eqb_refl x.R, eqb_refl x.C, eqb_refl x.B, eqb_refl x.G, eqb_refl x.S, eqb_refl x.T, eqb_refl x.Q, eqb_refl x.D)

peerwise-notes : {xs ys : List Note} → Peerwise xs ys → same_notes xs ys ≡ true
unfolding same_notes
peerwise-notes {xs} {ys} h =
    all-each (λ n. same_list same_note (of_peer n.peer xs) (of_peer n.peer ys)) (λ n. rw (h.same n.peer) (list-refl same_note note-refl (of_peer n.peer ys))) (xs ++ ys)

run-alike : {a b : Run} → Like a b → alike a.state b.state ≡ true
unfolding alike same_tables same_caches same_flags
run-alike (like r q d q' d' e f) =
    let s = r.state in
    let tables = and_intro (and_intro (and_intro (and_intro (map_refl same_mark mark-refl s.links) (peerwise-notes e)) (peerwise-notes f))
    (map_refl (same_list same_hop) (list-refl same_hop hop-refl) s.missing)) (list-refl eqb eqb_refl s.timers.graft) in
    let caches = and_intro (and_intro (cache-refl same_unit unit-refl s.received) (cache-refl same_grafts grafts-refl s.grafted)) (cache-refl same_cached cached-refl s.cache) in
    let flags = and_intro (and_intro (flag-refl s.init) (flag-refl s.timers.dispatch)) (flag-refl s.timers.announce) in
    and_intro (and_intro (and_intro (and_intro (settings-refl s.settings) (limits-refl s.limits)) tables) caches) flags

-- the converse of `alike-like`
pub like-alike : (s t : State) → LikeStates s t → alike s t ≡ true
like-alike s t l = run-alike (l zero_counts [])
