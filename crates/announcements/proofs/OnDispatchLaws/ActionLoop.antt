-- The actions of a dispatch, link by link.
-- Assumes nothing.
use Rattle.announcements.proofs.Words.{◌≡◌, refl, sym, ap, ◌∙◌, Bool, true, false, List, [], ◌∷◌, ℕ, ◌+◌, ◌≤◌, ◌<◌, add-one, arith, length, drop, drop_of_length-le, drop-cons, if◌then◌else◌, keys, later_cache, State, Note, with_init, with_received, with_grafted, with_cache, Room, per_message, queued_for, queued_peers, numbered, pieces, piece_actions, state_of, peer_at, AtRest}
use Rattle.decide.specs.Settled.{settled}
use Rattle.decide.specs.Pieces.{peer_pieces}
use Rattle.decide.specs.ActionsAfter.{dispatch_actions}
use Rattle.decide.proofs.Dispatch.{queued-ascending}
use Rattle.block.specs.declared.head.Head.{Head}
use Rattle.block.proofs.LinkLaws.{count-peers}
use Rattle.announcements.specs.QueuedRows.{held_then}
use Rattle.announcements.proofs.OnDispatchLaws.LinkPeers.{pieces-among, nothing-queued, queued-among}
use Rattle.announcements.proofs.OnDispatchLaws.SendLaws.{chunk-last, numbered-none}

-- what a first event leaves as it is
pub record Same (s t : State) : Type 0 where
  pub settings : t.settings ≡ s.settings
  pub queue : t.queue ≡ s.queue
  pub dropped : t.dropped ≡ s.dropped
  pub flag : t.timers.announce ≡ s.timers.announce

pub settled_same : (now : ℕ) (s : State) → Same s (settled now s)
unfolding settled
settled_same now s = on s.init
  where
    on : (b : Bool) → Same s (if b then s else with_init true (with_grafted (later_cache now s.grafted) (with_received (later_cache now s.received) (with_cache (later_cache now s.cache) s))))
    on true = record { settings = refl; queue = refl; dropped = refl; flag = refl }
    on false = record { settings = refl; queue = refl; dropped = refl; flag = refl }

settled-actions : (now : ℕ) (rooms : List Room) (s : State)
    → dispatch_actions rooms (settled now s) ≡ piece_actions (held_then now s) rooms s.timers.announce (pieces (queued_peers s.queue) (per_message s.settings.max_message_size) s.queue)
unfolding dispatch_actions
settled-actions now rooms s =
    let e = settled_same now s in
    λ i. piece_actions (held_then now s) rooms (e.flag i) (pieces (queued_peers (e.queue i)) (per_message (e.settings i).max_message_size) (e.queue i))

no_pieces : (k p : ℕ) (ns : List Note) → queued_for p ns ≡ [] → peer_pieces k ns p ≡ []
unfolding peer_pieces
no_pieces k p ns e = ap (numbered p 1) (chunk-last k (length ns) (queued_for p ns) (ap length e)) ∙ numbered-none p 1

module _ (h : Head) (xs : List ℕ) (rest : AtRest (state_of h xs)) where
  abbrev s : State
  s = state_of h xs

  -- all links are all peers for whom something is queued
  pub all-actions : (now : ℕ) (rooms : List Room)
      → dispatch_actions rooms (settled now s) ≡ piece_actions (held_then now s) rooms s.timers.announce (pieces (keys s.links) (per_message s.settings.max_message_size) s.queue)
  all-actions now rooms =
      settled-actions now rooms s
      ∙ ap (piece_actions (held_then now s) rooms s.timers.announce)
      (sym (pieces-among (per_message s.settings.max_message_size) s.queue (keys s.links) (queued_peers s.queue) rest.consistent.core.links_up (queued-ascending s.queue)
      (queued-among s.links s.queue rest.consistent.core.queued)
      (λ x m n. no_pieces (per_message s.settings.max_message_size) x s.queue (nothing-queued x s.queue n))))

  pub next-peer : (l : ℕ) → l < h.live.links → drop l (keys s.links) ≡ peer_at s l ∷ drop (l + 1) (keys s.links)
  next-peer l q = drop-cons (keys s.links) l 0 (omega (arith, count-peers h xs)) ∙ ap (λ (n : ℕ). peer_at s l ∷ drop n (keys s.links)) (sym (add-one l))

  pub no-peer : (l : ℕ) → h.live.links ≤ l → drop l (keys s.links) ≡ []
  no-peer l q =
      let w : length (keys s.links) ≤ l = omega (arith, count-peers h xs) in
      drop_of_length-le (keys s.links) w
