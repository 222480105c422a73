-- What the tree is optimised by after a new Swarm message, and what follows.
-- Assumes nothing.
use Rattle.std.specs.Prelude.{ℕ, suc, ◌<◌, ◌≡◌, Bool, not, ◌&&◌, List, [], ◌∷◌, eqb, length, Option, Some, None, if◌then◌else◌}
use Rattle.storage.specs.Lists.Base.{concat_map}
use Rattle.storage.specs.Lists.Map.{Map}
use Rattle.postcard.specs.Message.{Prune, Graft, Action, Sent, action_bytes}
use Rattle.protocol.specs.Links.{is_neighbour, eager_in}
use Rattle.protocol.specs.State.{State, Hop}
use Rattle.protocol.specs.Run.{Room}
use Rattle.protocol.specs.Gossips.{announcers, graft_out, least_from, far_closer}
use Rattle.decide.specs.Rooms.{kth_taken, first_send}
use Rattle.decide.specs.StateAfter.{optimised_links, forgotten_state}
use Rattle.block.specs.View.{only_if}
use Rattle.block.specs.LinkSteps.{peer_at, linked}
use Rattle.block.specs.MissingSteps.{hop}
use Rattle.block.specs.declared.hops.Hop.{Hop as LinkHop}
use Rattle.steps.specs.Calls.{rooms_of}
use Rattle.block.specs.Found.{LinkAt, hop_value}
use Rattle.steps.specs.declared.call.Call.{Call}
use Rattle.payloads.specs.declared.optimize_tree.Shortcut.{Shortcut}

-- "First announcer of least round"; what stands where there is none
unfoldable pub least_of : List Hop → Hop
least_of [] = hop 0 0
least_of (h ∷ hs) = least_from h hs

-- the least of these announcers, if it is far closer
unfoldable pub nearest : ℕ → ℕ → List Hop → Option Hop
nearest threshold round [] = None
nearest threshold round (h ∷ hs) = only_if (far_closer threshold round (least_from h hs).round) (least_from h hs)

-- the announcer that was found, by the number of its link
pub record NearestAt (s : State) (found : Option Hop) (k : LinkHop) : Type 0 where
  pub below : k.link < length s.links
  pub same : found ≡ Some (hop_value s k)

-- the same, if there is one
abbrev pub NearestOf : State → Option Hop → Option LinkHop → Type 0
NearestOf s found (Some k) = NearestAt s found k
NearestOf s found None = found ≡ None

-- "optimise as `on_gossip` says": for a neighbour sender, and no graft out to these peers
abbrev pub wanted : Map ℕ → ℕ → ℕ → State → Bool
wanted grafted sender round s = is_neighbour sender s.links && not (graft_out sender round grafted)

-- the announcer that the tree is optimised by, if it is
unfoldable pub shortcut : Map ℕ → ℕ → ℕ → ℕ → State → Option Hop
shortcut grafted id sender round s = if wanted grafted sender round s then nearest s.settings.optimization_threshold (suc round) (announcers id s) else None

-- the announcer of a shortcut
abbrev pub announcer_of : Shortcut → LinkHop
announcer_of c = record { link = c.announcer; round = c.round }

-- the same with the sender, by the numbers of their links
abbrev pub ShortcutOf : State → ℕ → Option Hop → Option Shortcut → Type 0
ShortcutOf s sender found (Some c) = LinkAt s sender c.sender × NearestAt s found (announcer_of c)
ShortcutOf s sender found None = found ≡ None

-- these links are there
abbrev pub ShortcutHeld : State → Option Shortcut → Type 0
ShortcutHeld s (Some c) = (c.sender < length s.links) × (c.announcer < length s.links)
ShortcutHeld s None = Unit {0}

-- "Graft without identifier unless eager, then sender lazy, Prune", by this announcer
unfoldable pub best_actions : List Room → ℕ → Hop → State → List Action
best_actions rooms sender b s =
    if eager_in b.peer s.links then first_send rooms Prune sender ∷ []
    else first_send rooms (Graft None b.round) b.peer ∷ Sent sender (kth_taken (if eqb sender b.peer then 2 else 1) sender rooms) Prune ∷ []

-- the actions by it
abbrev pub shortcut_bytes : Call → Option Shortcut → State → List ℕ
shortcut_bytes call (Some c) s = concat_map action_bytes (best_actions (rooms_of call s) (peer_at s c.sender) (hop_value s (announcer_of c)) s)
shortcut_bytes call None s = []

-- the state by it
abbrev pub after_shortcut : Option Shortcut → State → State
after_shortcut (Some c) s = linked (optimised_links (peer_at s c.sender) (hop_value s (announcer_of c))) s
after_shortcut None s = s

-- and with the graft-timer mark and the announcers dropped
abbrev pub finished_state : ℕ → Option Shortcut → State → State
finished_state id c s = forgotten_state id (after_shortcut c s)
