-- What `alike` says when it answers yes: the parts are equal, and in queue and record each peer has the same.
-- Assumes nothing.
use Rattle.std.proofs.Common.{Option, Some, None, ℕ, ◌≡◌, refl, sym, ap, subst, ◌∙◌, Bool, true, false, ◌&&◌, List, [], ◌∷◌, ◌++◌, ◌⊎◌, inl, inr, eqb, eqb-true}
use mathlib.Core.Bool.{beq}
use mathlib.Core.List.{append-eq-nil_iff}
use Rattle.storage.specs.Lists.Base.{all, filter}
use Rattle.storage.specs.Lists.Map.{Map, Entry, entry}
use Rattle.storage.proofs.ListsLaws.MapLaws.{cases, true≢, and_left, and_right, all_head, all_tail}
use Rattle.storage.proofs.ListsLaws.ListLaws.{filter-append}
use Rattle.time_cache.specs.TimeCache.{Cache, Timed, Expiry}
use Rattle.protocol.specs.Links.{Links, eager, lazy, quiet}
use Rattle.protocol.specs.State.{State, Settings, Limits, Hop, Note, Grafts, Cached, Timers}
use Rattle.protocol.specs.Run.{begin}
use Rattle.protocol.specs.Push.{for_peer}
use Rattle.protocol.specs.Alike.{same_list, same_option, same_map, same_mark, same_hop, same_note, same_notes, same_expiry, same_grafts, same_cached, same_unit, same_cache, same_settings, same_limits, same_tables, same_caches, same_flags, alike}
use Rattle.protocol.specs.AlikeCalls.Peerwise.{Peerwise, of_peer, Like, like, LikeStates}

-- both of two tests
pub both : {a b : Bool} → (a && b) ≡ true → (a ≡ true) × (b ≡ true)
both {a} {b} h = (and_left a b h, and_right a b h)

infixl 5 ◌⊛◌
-- equal functions of equal arguments; so equal records from equal fields
◌⊛◌ : {A B : Type 0} {f g : A → B} {x y : A} → f ≡ g → x ≡ y → f x ≡ g y
◌⊛◌ {f = f} {y = y} p q = ap f q ∙ ap (λ (h : _). h y) p

-- only equal ones pass the test
abbrev pub Tells : {A : Type 0} → (A → A → Bool) → Type 0
Tells {A} same = (x y : A) → same x y ≡ true → x ≡ y

pub tells-list : {A : Type 0} (same : A → A → Bool) → Tells same → Tells (same_list same)
unfolding same_list
tells-list same w [] [] h = refl
tells-list same w [] (y ∷ ys) h = true≢ h
tells-list same w (x ∷ xs) [] h = true≢ h
tells-list same w (x ∷ xs) (y ∷ ys) h = let (a, b) = both h in ap ◌∷◌ (w x y a) ⊛ tells-list same w xs ys b

tells-option : {A : Type 0} (same : A → A → Bool) → Tells same → Tells (same_option same)
unfolding same_option
tells-option same w None None h = refl
tells-option same w None (Some b) h = true≢ h
tells-option same w (Some a) None h = true≢ h
tells-option same w (Some a) (Some b) h = ap Some (w a b h)

tells-map : {A : Type 0} (same : A → A → Bool) → Tells same → Tells (same_map same)
unfolding same_map
tells-map {A} same w m n h = tells-list (λ d e. eqb d.key e.key && same d.value e.value) one m n h
  where
    one : (d e : Entry A) → (eqb d.key e.key && same d.value e.value) ≡ true → d ≡ e
    one d e k = let (a, b) = both k in ap (entry {A = A}) (eqb-true d.key e.key a) ⊛ w d.value e.value b

tells-mark : Tells same_mark
unfolding same_mark
tells-mark eager eager h = refl
tells-mark eager lazy h = true≢ h
tells-mark eager quiet h = true≢ h
tells-mark lazy eager h = true≢ h
tells-mark lazy lazy h = refl
tells-mark lazy quiet h = true≢ h
tells-mark quiet eager h = true≢ h
tells-mark quiet lazy h = true≢ h
tells-mark quiet quiet h = refl

tells-flag : Tells beq
tells-flag true true h = refl
tells-flag true false h = true≢ h
tells-flag false true h = true≢ h
tells-flag false false h = refl

-- a record of these fields; likewise those that follow
hop : ℕ → ℕ → Hop
hop p r = record { peer = p; round = r }

pub tells-hop : Tells same_hop
unfolding same_hop hop
tells-hop x y h = let (a, b) = both h in ap hop (eqb-true x.peer y.peer a) ⊛ eqb-true x.round y.round b

note : ℕ → ℕ → ℕ → Note
note p i r = record { peer = p; id = i; round = r }

tells-note : Tells same_note
unfolding same_note note
tells-note x y h =
    let (h₂, c) = both h in
    let (a, b) = both h₂ in
    ap note (eqb-true x.peer y.peer a) ⊛ eqb-true x.id y.id b ⊛ eqb-true x.round y.round c

expiry : ℕ → ℕ → Expiry
expiry t k = record { time = t; key = k }

pub tells-expiry : Tells same_expiry
unfolding same_expiry expiry
tells-expiry x y h = let (a, b) = both h in ap expiry (eqb-true x.time y.time a) ⊛ eqb-true x.key y.key b

grafts : Option Hop → Option ℕ → Map ℕ → Grafts
grafts f k p = record { first = f; kept = k; peers = p }

tells-grafts : Tells same_grafts
unfolding same_grafts grafts
tells-grafts x y h =
    let (h₂, c) = both h in
    let (a, b) = both h₂ in
    ap grafts (tells-option same_hop tells-hop x.first y.first a) ⊛ tells-option eqb eqb-true x.kept y.kept b ⊛ tells-map eqb eqb-true x.peers y.peers c

cached : List ℕ → ℕ → Cached
cached c r = record { content = c; round = r }

tells-cached : Tells same_cached
unfolding same_cached cached
tells-cached x y h = let (a, b) = both h in ap cached (tells-list eqb eqb-true x.content y.content a) ⊛ eqb-true x.round y.round b

tells-unit : Tells same_unit
tells-unit x y h = refl

timed : {A : Type 0} → ℕ → A → Timed A
timed e v = record { expires = e; value = v }

cache : {A : Type 0} → Map (Timed A) → List Expiry → Cache A
cache m x = record { entries = m; expiry = x }

tells-cache : {A : Type 0} (same : A → A → Bool) → Tells same → Tells (same_cache same)
unfolding same_cache timed cache
tells-cache {A} same w x y h =
    let (a, b) = both h in
    ap (cache {A = A}) (tells-map (λ u v. eqb u.expires v.expires && same u.value v.value) one x.entries y.entries a) ⊛ tells-list same_expiry tells-expiry x.expiry y.expiry b
  where
    one : (u v : Timed A) → (eqb u.expires v.expires && same u.value v.value) ≡ true → u ≡ v
    one u v k = let (a, b) = both k in ap (timed {A = A}) (eqb-true u.expires v.expires a) ⊛ w u.value v.value b

-- nine numbers, compared one after the other
nine : {A : Type 0} (make : ℕ → ℕ → ℕ → ℕ → ℕ → ℕ → ℕ → ℕ → ℕ → A) (a b c d e f g i j a' b' c' d' e' f' g' i' j' : ℕ) →
    (eqb a a' && eqb b b' && eqb c c' && eqb d d' && eqb e e' && eqb f f' && eqb g g' && eqb i i' && eqb j j') ≡ true → make a b c d e f g i j ≡ make a' b' c' d' e' f' g' i' j'
nine make a b c d e f g i j a' b' c' d' e' f' g' i' j' h =
    let (h₈, t₉) = both h in
    let (h₇, t₈) = both h₈ in
    let (h₆, t₇) = both h₇ in
    let (h₅, t₆) = both h₆ in
    let (h₄, t₅) = both h₅ in
    let (h₃, t₄) = both h₄ in
    let (h₂, t₃) = both h₃ in
    let (t₁, t₂) = both h₂ in
    ap make (eqb-true a a' t₁) ⊛ eqb-true b b' t₂ ⊛ eqb-true c c' t₃ ⊛ eqb-true d d' t₄ ⊛ eqb-true e e' t₅ ⊛ eqb-true f f' t₆ ⊛ eqb-true g g' t₇ ⊛ eqb-true i i' t₈ ⊛ eqb-true j j' t₉

settings : ℕ → ℕ → ℕ → ℕ → ℕ → ℕ → ℕ → ℕ → ℕ → Settings
settings a b c d e f g i j = record { graft_timeout_1 = a; graft_timeout_2 = b; dispatch_timeout = c; optimization_threshold = d; message_cache_retention = e; message_id_retention = f; cache_evict_interval = g; max_message_size = i; me = j }

tells-settings : Tells same_settings
unfolding same_settings settings
tells-settings x y h = nine settings x.graft_timeout_1 x.graft_timeout_2 x.dispatch_timeout x.optimization_threshold x.message_cache_retention x.message_id_retention x.cache_evict_interval x.max_message_size x.me y.graft_timeout_1 y.graft_timeout_2 y.dispatch_timeout y.optimization_threshold y.message_cache_retention y.message_id_retention y.cache_evict_interval y.max_message_size y.me h

limits : ℕ → ℕ → ℕ → ℕ → ℕ → ℕ → ℕ → ℕ → ℕ → Limits
limits a b c d e f g i j = record { N = a; R = b; C = c; B = d; G = e; S = f; T = g; Q = i; D = j }

tells-limits : Tells same_limits
unfolding same_limits limits
tells-limits x y h = nine limits x.N x.R x.C x.B x.G x.S x.T x.Q x.D y.N y.R y.C y.B y.G y.S y.T y.Q y.D h

-- a test of peers that each entry's peer passes: this peer passes it, or nothing stands for it
at-peer : (p : ℕ) (f : ℕ → Bool) (ns : List Note) → all (λ n. f n.peer) ns ≡ true → (f p ≡ true) ⊎ (of_peer p ns ≡ [])
unfolding filter
at-peer p f [] h = inr refl
at-peer p f (n ∷ ns) h =
    cases (eqb n.peer p)
    (λ e. inl (rw (eqb-true n.peer p e) at (all_head (λ n. f n.peer) n ns h)))
    (λ e. rw e (at-peer p f ns (all_tail (λ n. f n.peer) n ns h)))

pub tells-notes : (xs ys : List Note) → same_notes xs ys ≡ true → Peerwise xs ys
unfolding same_notes
tells-notes xs ys h = record { same = λ p. on p (at-peer p (λ q. same_list same_note (of_peer q xs) (of_peer q ys)) (xs ++ ys) h) }
  where
    on : (p : ℕ) → (same_list same_note (of_peer p xs) (of_peer p ys) ≡ true) ⊎ (of_peer p (xs ++ ys) ≡ []) → of_peer p xs ≡ of_peer p ys
    on p (inl e) = tells-list same_note tells-note (of_peer p xs) (of_peer p ys) e
    on p (inr e) = let (a, b) = append-eq-nil_iff.0 (sym (filter-append (for_peer p) xs ys) ∙ e) in a ∙ sym b

timers : List ℕ → Bool → Bool → Timers
timers g d a = record { graft = g; dispatch = d; announce = a }

-- a state of these fields, queue and record first
state : List Note → List Note → Settings → Limits → Links → Map (List Hop) → Cache (Unit {0}) → Cache Grafts → Cache Cached → Timers → Bool → State
state q d s l k m r g c t i = record { settings = s; limits = l; links = k; queue = q; dropped = d; missing = m; received = r; grafted = g; cache = c; timers = t; init = i }

-- states that are alike differ in the interleaving alone
pub alike-like : (s t : State) → alike s t ≡ true → LikeStates s t
unfolding alike same_tables same_caches same_flags state timers
alike-like s t h =
    let (h₄, flags) = both h in
    let (h₃, caches) = both h₄ in
    let (h₂, tables) = both h₃ in
    let (set, lim) = both h₂ in
    let (t₄, graft) = both tables in
    let (t₃, missing) = both t₄ in
    let (t₂, dropped) = both t₃ in
    let (links, queue) = both t₂ in
    let (c₂, third) = both caches in
    let (first, second) = both c₂ in
    let (f₂, announce) = both flags in
    let (init, dispatch) = both f₂ in
    let e : state t.queue t.dropped s.settings s.limits s.links s.missing s.received s.grafted s.cache s.timers s.init ≡ t =
    ap (state t.queue t.dropped) (tells-settings s.settings t.settings set) ⊛ tells-limits s.limits t.limits lim ⊛ tells-map same_mark tells-mark s.links t.links links
    ⊛ tells-map (same_list same_hop) (tells-list same_hop tells-hop) s.missing t.missing missing
    ⊛ tells-cache same_unit tells-unit s.received t.received first ⊛ tells-cache same_grafts tells-grafts s.grafted t.grafted second ⊛ tells-cache same_cached tells-cached s.cache t.cache third
    ⊛ (ap timers (tells-list eqb eqb-true s.timers.graft t.timers.graft graft) ⊛ tells-flag s.timers.dispatch t.timers.dispatch dispatch ⊛ tells-flag s.timers.announce t.timers.announce announce)
    ⊛ tells-flag s.init t.init init in
    λ c rooms. subst (λ (u : State). Like (begin s c rooms) (begin u c rooms)) e
    (like (begin s c rooms) s.queue s.dropped t.queue t.dropped (tells-notes s.queue t.queue queue) (tells-notes s.dropped t.dropped dropped))
