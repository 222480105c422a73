-- An announcement: what it adds by what is received, that its announcers are few, and that the state stays consistent.
-- Assumes nothing.
use Rattle.announcements.proofs.Words.{◌≡◌, refl, ◌∙◌, true, false, List, map, ℕ, ◌≤◌, ◌<◌, arith, length, ascending, keys, ascending-insert, all_map, all-insert-entry, holds, Ihave, is_neighbour, State, Hop, announcers_whole, peer_at}
use lib.ListN.{length-map}
use Rattle.time_cache.proofs.Orders.{up_of}
use Rattle.protocol.specs.Gossips.{announcers}
use Rattle.protocol.specs.Control.{add_announcer}
use Rattle.protocol.specs.Consistent.{Consistent}
use Rattle.protocol.proofs.ConsistentSteps.{core-missing}
use Rattle.protocol.proofs.ConsistentTables.{Announcers, of-announcers, announcers-add}
use Rattle.protocol.proofs.WholeKept.{known-announcers}
use Rattle.decide.specs.StateAfter.{announced_state}
use Rattle.block.specs.MissingSteps.{hop, with_announcer}
use Rattle.block.specs.TimerSteps.{timer_marked}
use Rattle.block.proofs.Few.{once-few}
use Rattle.block.proofs.LinkLaws.{neighbour-here}

-- an announcer

module _ (id : ℕ) (h : Hop) (s : State) (x : Consistent s) (near : is_neighbour h.peer s.links ≡ true) where
  adds : Announcers s.links (add_announcer h (announcers id s))
  adds =
      let k = known-announcers id s x in
      announcers-add s.links h (announcers id s) k.apiece k.near near

  -- each announces once, and is a neighbour
  pub few-announcers : length (add_announcer h (announcers id s)) ≤ length s.links
  few-announcers =
      let hs : List Hop = add_announcer h (announcers id s) in
      let few = once-few s.links (map (λ (y : Hop). y.peer) hs) adds.apiece (all_map (λ p. is_neighbour p s.links) (λ (y : Hop). y.peer) hs ∙ adds.near) in
      omega (arith, few, length-map hs (λ (y : Hop). y.peer))

  pub announced-consistent : Consistent (with_announcer id h s)
  announced-consistent = record {
    core = core-missing _ s (ascending-insert id _ s.missing x.core.missing_up)
        (all-insert-entry (announcers_whole s.links) id _ s.missing (of-announcers s.links id _ adds) x.core.announcing) x.core;
    queue_flag = x.queue_flag;
    record_flag = x.record_flag;
  }

-- an announcement, by what is received

pub announced-received : (p : ℕ) (h : Ihave) (s : State) → holds h.id s.received ≡ true → announced_state p h s ≡ s
unfolding announced_state
announced-received p h s e = rw e refl

pub announced-missing : (p : ℕ) (h : Ihave) (s : State) → holds h.id s.received ≡ false → announced_state p h s ≡ timer_marked h.id (with_announcer h.id (hop p h.round) s)
unfolding announced_state timer_marked
announced-missing p h s e = rw e refl

-- the peer of a link is a neighbour
pub link_near : (s : State) (l : ℕ) → ascending (keys s.links) ≡ true → l < length (keys s.links) → is_neighbour (peer_at s l) s.links ≡ true
link_near s l up w = neighbour-here (peer_at s l) l s.links (up_of (keys s.links) up) (record { within = w; same = refl })
