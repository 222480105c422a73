-- What the tree is optimised by after a new Swarm message: which announcer, for which sender, the links and the actions by it.
-- Assumes nothing.
use Rattle.payloads.proofs.Words.{◌≡◌, ℕ, suc, ◌+◌, ◌-◌, ◌≤◌, ◌<◌, length, get_or, refl, sym, ap, ◌∙◌, arith, Bool, true, false, not, ◌&&◌, List, [], ◌∷◌, ◌++◌, map, drop, add-one, drop-cons, append-nil, leb, ltb, eqb, if◌then◌else◌, Option, Some, None, lt-ltb, le-ltb, le-leb, eq-eqb, ne_eqb, eqb-true, get_or-map, is_empty, once, ascending, Map, Entry, entry, keys, cases, true≢, and_left, Prune, Graft, Action, Sent, action_bytes, message_bytes, send_head, Mark, Links, eager, is_eager, is_neighbour, eager_in, add_lazy, State, Hop, with_links, with_missing, Room, neighbours, grafted_for, graft_out, kth_taken, settled, only_if, peer_at, link_at, linked, hop, missed_at, hops_at, miss_out, Head, rooms_of, LinkAt, hop_value, HopOf, AtRest, numbered_link, NumberedLink, Call, settled-as, same_links, here, same_keys}
use Rattle.std.proofs.Common.{subst}
use Rattle.std.proofs.lemmas.List.{drop_all}
use borrow.Author.Tests.{lt-leb, eqb-false}
use lib.ListN.{length-map}
use Rattle.storage.specs.Lists.Base.{concat_map}
use Rattle.storage.proofs.ListsLaws.Places.{all-at}
use Rattle.storage.proofs.ListsLaws.Branches.{if-on, if-both, if-same}
use Rattle.time_cache.proofs.Orders.{up_of}
use Rattle.postcard.proofs.Listed.{sent_head}
use Rattle.protocol.specs.Links.{add_eager}
use Rattle.protocol.specs.Whole.{announcers_whole}
use Rattle.protocol.specs.Gossips.{announcers, least_from, far_closer}
use Rattle.decide.specs.Rooms.{first_send}
use Rattle.decide.specs.ActionsAfter.{optimise_actions}
use Rattle.decide.specs.StateAfter.{forgotten_state, optimised_links, optimised_state, closed_state}
use Rattle.block.specs.View.{state_of}
use Rattle.block.specs.TimerSteps.{timer_out}
use Rattle.block.specs.declared.hops.Hop.{Hop as LinkHop}
use Rattle.block.proofs.LinkLaws.{neighbour-here, eager-here}
use Rattle.block.proofs.Scans.{keys-apart}
use Rattle.steps.specs.Rooms.{rooms_in}
use Rattle.steps.proofs.RoomsLaws.{kth-link}
use Rattle.payloads.specs.OptimizeTree.{announcer_of, least_of, nearest, wanted, best_actions, NearestAt, shortcut, ShortcutOf, ShortcutHeld, shortcut_bytes, after_shortcut, finished_state}
use Rattle.payloads.specs.declared.optimize_tree.Shortcut.{Shortcut}

-- the links with a peer eager, "unless eager"
unfoldable pub unless_eager : ℕ → Links → Links
unless_eager p l = if eager_in p l then l else add_eager p l

-- the links are optimised by the announcer that was found
unfoldable pub by_best : ℕ → Option Hop → State → State
by_best sender None s = s
by_best sender (Some b) s = linked (optimised_links sender b) s

-- the actions by the announcer that was found
unfoldable pub actions_by : List Room → ℕ → Option Hop → State → List Action
actions_by rooms sender None s = []
actions_by rooms sender (Some b) s = best_actions rooms sender b s

-- the least announcer, if it is far closer
module _ (s : State) (t round : ℕ) (ks hs : List Hop) (k : LinkHop) (same : ks ≡ hs) (there : 0 < length hs) (least : HopOf s (least_of hs) k) where
  some' : (t round : ℕ) (hs : List Hop) → 0 < length hs → nearest t round hs ≡ only_if (far_closer t round (least_of hs).round) (least_of hs)
  unfolding nearest least_of
  some' t round [] h = absurd (omega arith)
  some' t round (x ∷ hs) h = refl

  found : nearest t round ks ≡ only_if (far_closer t round k.round.0) (hop_value s k)
  found = ap (nearest t round) same ∙ some' t round hs there ∙ ap (λ (x : Hop). only_if (far_closer t round x.round) x) least.same

  pub nearest-far : k.round.0 < round → t ≤ round - k.round.0 → NearestAt s (nearest t round ks) k
  unfolding far_closer
  nearest-far l m = record { below = least.below; same = found ∙ (λ j. only_if (lt-ltb k.round.0 round l j && le-leb t (round - k.round.0) m j) (hop_value s k)) }

  pub nearest-not : round ≤ k.round.0 → nearest t round ks ≡ None
  unfolding far_closer
  nearest-not l = found ∙ ap (λ (b : Bool). only_if (b && leb t (round - k.round.0)) (hop_value s k)) (le-ltb k.round.0 round l)

  pub nearest-few : round - k.round.0 < t → nearest t round ks ≡ None
  unfolding far_closer
  nearest-few l =
      found ∙ ap (λ (b : Bool). only_if (ltb k.round.0 round && b) (hop_value s k)) (lt-leb t (round - k.round.0) l)
      ∙ cases (ltb k.round.0 round) (λ e. rw e refl) (λ e. rw e refl)

pub nearest-none : (t round : ℕ) (ks : List Hop) → ks ≡ [] → nearest t round ks ≡ None
unfolding nearest
nearest-none t round ks e = ap (nearest t round) e

-- for which sender the tree is optimised
module _ (peers : Map ℕ) (p round : ℕ) (s : State) where
  pub wanted-link : (l : ℕ) → LinkAt s p l → ascending (keys s.links) ≡ true → (o : Bool) → o ≡ graft_out (peer_at s l) round peers → wanted peers p round s ≡ not o
  wanted-link l k up o e =
      let n : is_neighbour p s.links ≡ true = neighbour-here p l s.links (up_of (keys s.links) up) (record { within = omega (arith, k.below, length-map s.links (λ e. e.key)); same = k.peer }) in
      let g : graft_out p round peers ≡ o = ap (λ (q : ℕ). graft_out q round peers) (sym k.peer) ∙ sym e in
      λ j. n j && not (g j)

  pub wanted-stranger : is_neighbour p s.links ≡ false → wanted peers p round s ≡ false
  wanted-stranger n = ap (λ (b : Bool). b && not (graft_out p round peers)) n

  -- and by what
  pub shortcut-yes : (id : ℕ) → wanted peers p round s ≡ true → shortcut peers id p round s ≡ nearest s.settings.optimization_threshold (round + 1) (announcers id s)
  unfolding shortcut
  shortcut-yes id w =
      ap (λ (b : Bool). if b then nearest s.settings.optimization_threshold (suc round) (announcers id s) else None) w
      ∙ ap (λ (n : ℕ). nearest s.settings.optimization_threshold n (announcers id s)) (sym (add-one round))

  pub shortcut-no : (id : ℕ) → wanted peers p round s ≡ false → shortcut peers id p round s ≡ None
  unfolding shortcut
  shortcut-no id w = ap (λ (b : Bool). if b then nearest s.settings.optimization_threshold (suc round) (announcers id s) else None) w

-- the links that it names are there where the links are the same
pub held-same : (s t : State) → t.links ≡ s.links → (c : Option Shortcut) → ShortcutHeld s c → ShortcutHeld t c
held-same s t links None h = tt
held-same s t links (Some c) h = subst (λ (l : Links). (c.sender < length l) × (c.announcer < length l)) (sym links) h

-- what was decided for a state is right for another of the same links, missing messages and threshold
module _ (s t : State) (links : t.links ≡ s.links) (missing : t.missing ≡ s.missing) (threshold : t.settings.optimization_threshold ≡ s.settings.optimization_threshold) where
  same-shortcut : (peers : Map ℕ) (id p round : ℕ) → shortcut peers id p round t ≡ shortcut peers id p round s
  unfolding shortcut announcers
  same-shortcut peers id p round = λ j. if is_neighbour p (links j) && not (graft_out p round peers) then nearest (threshold j) (suc round) (announcers id (with_missing (missing j) s)) else None

  pub shortcut-same : (peers : Map ℕ) (id p round : ℕ) (c : Option Shortcut) → ShortcutOf s p (shortcut peers id p round s) c → ShortcutOf t p (shortcut peers id p round t) c
  shortcut-same peers id p round None e = same-shortcut peers id p round ∙ e
  shortcut-same peers id p round (Some c) e = (
    record { below = subst (λ (l : Links). c.sender < length l) (sym links) e.0.below; peer = ap (λ (l : Links). get_or (keys l) c.sender 0) links ∙ e.0.peer },
    record {
      below = subst (λ (l : Links). c.announcer < length l) (sym links) e.1.below;
      same = same-shortcut peers id p round ∙ e.1.same ∙ ap (λ (l : Links). Some (hop (get_or (keys l) c.announcer 0) c.round.0)) (sym links);
    },
  )

-- a first event's eviction leaves them
module _ (now : ℕ) (s : State) where
  pub shortcut-settled : (peers : Map ℕ) (id p round : ℕ) (c : Option Shortcut) → ShortcutOf s p (shortcut peers id p round s) c → ShortcutOf (settled now s) p (shortcut peers id p round (settled now s)) c
  shortcut-settled = shortcut-same s (settled now s) (same_links now s) (settled-as now s (λ (u : State). u.missing) refl) (settled-as now s (λ (u : State). u.settings.optimization_threshold) refl)

  pub held-then : (c : Option Shortcut) → ShortcutHeld (settled now s) c → ShortcutHeld s c
  held-then = held-same (settled now s) s (sym (same_links now s))

-- what was decided names links that are there
pub decided-held : (s : State) (p : ℕ) (found : Option Hop) (c : Option Shortcut) → ShortcutOf s p found c → ShortcutHeld s c
decided-held s p _ None e = tt
decided-held s p _ (Some c) e = (e.0.below, e.1.below)

-- the actions of optimising
unfoldable pub optimise_on : List Room → ℕ → ℕ → ℕ → State → List Action
optimise_on rooms id sender round s = if wanted (grafted_for id s) sender round s then optimise_actions rooms sender (suc round) (announcers id s) s else []

-- the actions by what was found
module _ (rooms : List Room) (id p round : ℕ) (s : State) where
  nearest-actions : (round : ℕ) (hs : List Hop) → optimise_actions rooms p round hs s ≡ actions_by rooms p (nearest s.settings.optimization_threshold round hs) s
  unfolding optimise_actions nearest actions_by best_actions
  nearest-actions round [] = refl
  nearest-actions round (x ∷ hs) =
      sym (if-on (λ (o : Option Hop). actions_by rooms p o s) (far_closer s.settings.optimization_threshold round (least_from x hs).round) (Some (least_from x hs)) None)

  pub by-actions : optimise_on rooms id p round s ≡ actions_by rooms p (shortcut (grafted_for id s) id p round s) s
  unfolding optimise_on shortcut actions_by
  by-actions =
      if-both (wanted (grafted_for id s) p round s) (nearest-actions (suc round) (announcers id s)) refl
      ∙ sym (if-on (λ (o : Option Hop). actions_by rooms p o s) (wanted (grafted_for id s) p round s) (nearest s.settings.optimization_threshold (suc round) (announcers id s)) None)

module _ (call : Call) (id p round : ℕ) (s : State) where
  by-found : (o : Option Hop) → shortcut (grafted_for id s) id p round s ≡ o → concat_map action_bytes (actions_by (rooms_of call s) p o s) ≡ concat_map action_bytes (optimise_on (rooms_of call s) id p round s)
  by-found o e = ap (λ (o : Option Hop). concat_map action_bytes (actions_by (rooms_of call s) p o s)) (sym e) ∙ ap (concat_map action_bytes) (sym (by-actions (rooms_of call s) id p round s))

  pub optimised-bytes : (c : Option Shortcut) → ShortcutOf s p (shortcut (grafted_for id s) id p round s) c → shortcut_bytes call c s ≡ concat_map action_bytes (optimise_on (rooms_of call s) id p round s)
  unfolding best_actions actions_by concat_map
  optimised-bytes (Some c) n = ap (λ (q : ℕ). concat_map action_bytes (best_actions (rooms_of call s) q (hop_value s (announcer_of c)) s)) n.0.peer ∙ by-found (Some (hop_value s (announcer_of c))) n.1.same
  optimised-bytes None e = by-found None e

  -- a first event's eviction changes none of them
  pub shortcut-then : (now : ℕ) (c : Option Shortcut) → shortcut_bytes call c (settled now s) ≡ shortcut_bytes call c s
  unfolding best_actions rooms_in
  shortcut-then now (Some c) = settled-as now s (shortcut_bytes call (Some c)) refl
  shortcut-then now None = refl

-- the peer of a link
pub link-peer : (s : State) (i : ℕ) → (link_at s i).key ≡ peer_at s i
link-peer s i = sym (get_or-map (λ (e : Entry Mark). e.key) s.links i (entry 0 eager))

-- the links by it: the announcer's first
abbrev pub marked : Shortcut → State → State
marked c s = linked (unless_eager (peer_at s c.announcer)) s

module _ (c : Shortcut) (s : State) (up : ascending (keys s.links) ≡ true) (lp : c.sender < length s.links) (lq : c.announcer < length s.links) where
  abbrev q₁ : ℕ
  q₁ = peer_at s c.announcer

  is-eager : eager_in q₁ s.links ≡ is_eager (link_at s c.announcer).value
  is-eager = eager-here q₁ c.announcer s.links (up_of (keys s.links) up) (here c.announcer s up lq)

  pub marked-yes : is_eager (link_at s c.announcer).value ≡ true → s ≡ marked c s
  unfolding unless_eager
  marked-yes e = ap (λ (b : Bool). with_links (if b then s.links else add_eager q₁ s.links) s) (sym (is-eager ∙ e))

  pub marked-no : is_eager (link_at s c.announcer).value ≡ false → linked (add_eager q₁) s ≡ marked c s
  unfolding unless_eager
  marked-no e = ap (λ (b : Bool). with_links (if b then s.links else add_eager q₁ s.links) s) (sym (is-eager ∙ e))

  marked-keys : keys (marked c s).links ≡ keys s.links
  unfolding unless_eager add_eager
  marked-keys =
      if-on (λ (l : Links). keys l) (eager_in q₁ s.links) s.links (add_eager q₁ s.links)
      ∙ if-same (eager_in q₁ s.links) refl (same_keys c.announcer s up lq eager)

  pub marked-up : ascending (keys (marked c s).links) ≡ true
  marked-up = ap ascending marked-keys ∙ up

  pub marked-low : c.sender < length (marked c s).links
  marked-low = omega (arith, lp, ap (λ (l : List ℕ). length l) marked-keys, length-map (marked c s).links (λ e. e.key), length-map s.links (λ e. e.key))

  pub marked-then : linked (add_lazy (peer_at (marked c s) c.sender)) (marked c s) ≡ after_shortcut (Some c) s
  unfolding optimised_links unless_eager
  marked-then = ap (λ (l : List ℕ). linked (add_lazy (get_or l c.sender 0)) (marked c s)) marked-keys

-- the bytes of the actions
module _ (call : Call) (c : Shortcut) (s : State) (up : ascending (keys s.links) ≡ true) (lp : c.sender < length s.links) (lq : c.announcer < length s.links) where
  abbrev p : ℕ
  p = peer_at s c.sender

  abbrev q : ℕ
  q = peer_at s c.announcer

  abbrev R : List Room
  R = rooms_of call s

  abbrev room : ℕ → ℕ
  room i = get_or call.rooms.now.links i 0

  first : (i : ℕ) → i < length s.links → kth_taken 1 (peer_at s i) R ≡ leb 1 (room i)
  first i l = kth-link s call.peer call.rooms.now 1 i up l (omega arith)

  bytes-eager : is_eager (link_at s c.announcer).value ≡ true → shortcut_bytes call (Some c) s ≡ send_head p (leb 1 (room c.sender)) ++ message_bytes Prune
  unfolding best_actions first_send concat_map
  bytes-eager e =
      ap (λ (b : Bool). concat_map action_bytes (if b then first_send R Prune p ∷ [] else first_send R (Graft None c.round.0) q ∷ Sent p (kth_taken (if eqb p q then 2 else 1) p R) Prune ∷ [])) (is-eager c s up lp lq ∙ e)
      ∙ append-nil (action_bytes (Sent p (kth_taken 1 p R) Prune))
      ∙ sent_head p (kth_taken 1 p R) Prune
      ∙ ap (λ (b : Bool). send_head p b ++ message_bytes Prune) (first c.sender lp)

  same-test : eqb p q ≡ eqb c.sender c.announcer
  same-test =
      cases (eqb c.sender c.announcer)
      (λ e. eq-eqb p q (ap (peer_at s) (eqb-true c.sender c.announcer e)) ∙ sym e)
      (λ e. ne_eqb p q (keys-apart (keys s.links) c.sender c.announcer (up_of (keys s.links) up) (omega (arith, lp, length-map s.links (λ e. e.key))) (omega (arith, lq, length-map s.links (λ e. e.key))) (eqb-false c.sender c.announcer e)) ∙ sym e)

  kth : (b : Bool) → kth_taken (if b then 2 else 1) p R ≡ leb (if b then 2 else 1) (room c.sender)
  kth true = kth-link s call.peer call.rooms.now 2 c.sender up lp (omega arith)
  kth false = first c.sender lp

  bytes-lazy : is_eager (link_at s c.announcer).value ≡ false
      → shortcut_bytes call (Some c) s ≡ (send_head q (leb 1 (room c.announcer)) ++ message_bytes (Graft None c.round.0)) ++ (send_head p (leb (if eqb c.sender c.announcer then 2 else 1) (room c.sender)) ++ message_bytes Prune)
  unfolding best_actions first_send concat_map
  bytes-lazy e =
      ap (λ (b : Bool). concat_map action_bytes (if b then first_send R Prune p ∷ [] else first_send R (Graft None c.round.0) q ∷ Sent p (kth_taken (if eqb p q then 2 else 1) p R) Prune ∷ [])) (is-eager c s up lp lq ∙ e)
      ∙ ap (λ (l : List ℕ). action_bytes (Sent q (kth_taken 1 q R) (Graft None c.round.0)) ++ l) (append-nil (action_bytes (Sent p (kth_taken (if eqb p q then 2 else 1) p R) Prune)))
      ∙ (λ j. sent_head q (kth_taken 1 q R) (Graft None c.round.0) j ++ sent_head p (kth_taken (if eqb p q then 2 else 1) p R) Prune j)
      ∙ (λ j. (send_head q (first c.announcer lq j) ++ message_bytes (Graft None c.round.0)) ++ (send_head p (second j) ++ message_bytes Prune))
    where
      second : kth_taken (if eqb p q then 2 else 1) p R ≡ leb (if eqb c.sender c.announcer then 2 else 1) (room c.sender)
      second = kth (eqb p q) ∙ ap (λ (b : Bool). leb (if b then 2 else 1) (room c.sender)) same-test

  -- the same of what was read
  module _ (a b : NumberedLink) (ea : a ≡ numbered_link c.sender (link_at s c.sender)) (eb : b ≡ numbered_link c.announcer (link_at s c.announcer)) where
    pub sent-eager : b.eager ≡ true → (t : Bool) → t ≡ leb 1 (room c.sender) → shortcut_bytes call (Some c) s ≡ send_head a.peer t ++ message_bytes Prune
    sent-eager e t f =
        bytes-eager (ap (λ (x : NumberedLink). x.eager) (sym eb) ∙ e)
        ∙ sym (λ j. send_head ((ap (λ (x : NumberedLink). x.peer) ea ∙ link-peer s c.sender) j) (f j) ++ message_bytes Prune)

    pub sent-lazy : b.eager ≡ false → (t u : Bool) → t ≡ leb 1 (room c.announcer) → u ≡ leb (if eqb c.sender c.announcer then 2 else 1) (room c.sender)
        → shortcut_bytes call (Some c) s ≡ (send_head b.peer t ++ message_bytes (Graft None c.round.0)) ++ (send_head a.peer u ++ message_bytes Prune)
    sent-lazy e t u f g =
        bytes-lazy (ap (λ (x : NumberedLink). x.eager) (sym eb) ∙ e)
        ∙ sym (λ j. (send_head ((ap (λ (x : NumberedLink). x.peer) eb ∙ link-peer s c.announcer) j) (f j) ++ message_bytes (Graft None c.round.0))
        ++ (send_head ((ap (λ (x : NumberedLink). x.peer) ea ∙ link-peer s c.sender) j) (g j) ++ message_bytes Prune))

-- the state with the links optimised, before anything is dropped
unfoldable pub optimised_on : ℕ → ℕ → ℕ → State → State
optimised_on id sender round s = if wanted (grafted_for id s) sender round s then optimised_state sender (suc round) (announcers id s) s else s

-- the state by what was found
module _ (id p round : ℕ) (s : State) where
  nearest-state : (round : ℕ) (hs : List Hop) (s : State) → optimised_state p round hs s ≡ by_best p (nearest s.settings.optimization_threshold round hs) s
  unfolding optimised_state nearest by_best
  nearest-state round [] s = refl
  nearest-state round (x ∷ hs) s =
      sym (if-on (λ (o : Option Hop). by_best p o s) (far_closer s.settings.optimization_threshold round (least_from x hs).round) (Some (least_from x hs)) None)

  by-state : optimised_on id p round s ≡ by_best p (shortcut (grafted_for id s) id p round s) s
  unfolding optimised_on shortcut by_best
  by-state =
      if-both (wanted (grafted_for id s) p round s) (nearest-state (suc round) (announcers id s) s) refl
      ∙ sym (if-on (λ (o : Option Hop). by_best p o s) (wanted (grafted_for id s) p round s) (nearest s.settings.optimization_threshold (suc round) (announcers id s)) None)

  state-by : (c : Option Shortcut) → ShortcutOf s p (shortcut (grafted_for id s) id p round s) c → after_shortcut c s ≡ optimised_on id p round s
  unfolding by_best
  state-by (Some c) n = ap (λ (q : ℕ). linked (optimised_links q (hop_value s (announcer_of c))) s) n.0.peer ∙ ap (λ (o : Option Hop). by_best p o s) (sym n.1.same) ∙ sym by-state
  state-by None e = ap (λ (o : Option Hop). by_best p o s) (sym e) ∙ sym by-state

  -- what is dropped does not depend on the links
  forgot-then : (hs : List Hop) → forgotten_state id (optimised_state p (suc round) hs s) ≡ optimised_state p (suc round) hs (forgotten_state id s)
  unfolding optimised_state forgotten_state
  forgot-then [] = refl
  forgot-then (x ∷ hs) =
      if-on (forgotten_state id) (far_closer s.settings.optimization_threshold (suc round) (least_from x hs).round) (with_links (optimised_links p (least_from x hs) s.links) s) s

  pub finished : (c : Option Shortcut) → ShortcutOf s p (shortcut (grafted_for id s) id p round s) c → finished_state id c s ≡ closed_state id p round s
  unfolding optimised_on closed_state
  finished c n =
      ap (forgotten_state id) (state-by c n)
      ∙ if-on (forgotten_state id) (wanted (grafted_for id s) p round s) (optimised_state p (suc round) (announcers id s) s) s
      ∙ if-both (wanted (grafted_for id s) p round s) (forgot-then (announcers id s)) refl

-- what does not depend on the links is as it was
pub shortcut-only : {A : Type 0} (f : State → A) (s : State) → ((l : Links) → f (with_links l s) ≡ f s) → (c : Option Shortcut) → f (after_shortcut c s) ≡ f s
shortcut-only f s e (Some c) = e (optimised_links (peer_at s c.sender) (hop_value s (announcer_of c)) s.links)
shortcut-only f s e None = refl

pub forgotten : (id : ℕ) (s : State) → miss_out id (timer_out id s) ≡ forgotten_state id s
unfolding forgotten_state
forgotten id s = refl

-- the threshold is the header's
pub threshold-of : (h : Head) (xs : List ℕ) → (state_of h xs).settings.optimization_threshold ≡ h.settings.config.optimization_threshold.0
unfolding state_of
threshold-of h xs = refl

-- a missing message has been announced
some-there : {A : Type 0} (l : List A) → not (is_empty l) ≡ true → 0 < length l
some-there [] h = true≢ h
some-there (x ∷ l) h = omega arith

pub announced-some : (s : State) → AtRest s → (i : ℕ) → i < length s.missing → 0 < length (hops_at s i)
unfolding announcers_whole
announced-some s rest i q =
    let e : Entry (List Hop) = missed_at s i in
    some-there (hops_at s i)
    (and_left (not (is_empty e.value)) (once (map (λ x. x.peer) e.value))
    (and_left (not (is_empty e.value) && once (map (λ x. x.peer) e.value)) (neighbours s.links (map (λ x. x.peer) e.value))
    (all-at (announcers_whole s.links) (entry 0 []) s.missing rest.consistent.core.announcing i q)))

-- the least of those that are left, where the first is the least so far
pub least-begin : (hs : List Hop) → 0 < length hs → least_from (get_or hs 0 (hop 0 0)) (drop 1 hs) ≡ least_of hs
unfolding least_of
least-begin [] h = absurd (omega arith)
least-begin (x ∷ hs) h = refl

pub least-end : (b : Hop) (hs : List Hop) (j : ℕ) → length hs ≤ j → least_from b (drop j hs) ≡ b
unfolding least_from
least-end b hs j h = ap (least_from b) (drop_all j hs h)

module _ (b : Hop) (hs : List Hop) (j : ℕ) (q : j < length hs) where
  next_of : least_from b (drop j hs) ≡ (if ltb (get_or hs j (hop 0 0)).round b.round then least_from (get_or hs j (hop 0 0)) (drop (j + 1) hs) else least_from b (drop (j + 1) hs))
  unfolding least_from
  next_of =
      ap (least_from b) (drop-cons hs j (hop 0 0) q)
      ∙ sym (ap (λ (n : ℕ). if ltb (get_or hs j (hop 0 0)).round b.round then least_from (get_or hs j (hop 0 0)) (drop n hs) else least_from b (drop n hs)) (add-one j))

  pub least-closer : (get_or hs j (hop 0 0)).round < b.round → least_from (get_or hs j (hop 0 0)) (drop (j + 1) hs) ≡ least_from b (drop j hs)
  least-closer l = sym (next_of ∙ ap (λ (t : Bool). if t then least_from (get_or hs j (hop 0 0)) (drop (j + 1) hs) else least_from b (drop (j + 1) hs)) (lt-ltb (get_or hs j (hop 0 0)).round b.round l))

  pub least-further : b.round ≤ (get_or hs j (hop 0 0)).round → least_from b (drop (j + 1) hs) ≡ least_from b (drop j hs)
  least-further l = sym (next_of ∙ ap (λ (t : Bool). if t then least_from (get_or hs j (hop 0 0)) (drop (j + 1) hs) else least_from b (drop (j + 1) hs)) (le-ltb (get_or hs j (hop 0 0)).round b.round l))
