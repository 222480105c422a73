-- The specification, "Calls worked through": the starred examples, as one statement about the definitions.
-- Assumes nothing.
use Rattle.std.specs.Prelude.{ℕ, ◌≡◌, true, false, List, [], ◌∷◌, ◌++◌, length, None, replicate}
use Rattle.storage.specs.Lists.Base.{◌▷◌}
use Rattle.postcard.specs.Number.{got, number_bytes, read_round}
use Rattle.postcard.specs.Message.{Swarm, Neighbors, Gossip, Prune, Graft, IHave, DispatchLazyPush, Received, Sent, Scheduled, Emitted, message_bytes}
use Rattle.time_cache.specs.TimeCache.{holds}
use Rattle.protocol.specs.State.{fresh, zero_counts}
use Rattle.protocol.specs.Run.{Run, begin}
use Rattle.protocol.specs.Gossips.{gossip_size, cache_at, broadcast}
use Rattle.protocol.specs.Ticks.{per_message, on_evict_cache_timer}
use Rattle.protocol.specs.Control.{on_prune}
use Rattle.protocol.specs.Neighbours.{on_neighbor_up}
use Rattle.protocol.specs.Handle.{handle}
use Rattle.protocol.specs.Panel.{panel_limits, panelrun}

-- a fresh panel of the example's settings, with M
abbrev pub panel : ℕ → Run
panel M = begin (fresh (record {
  graft_timeout_1 = 80;
  graft_timeout_2 = 40;
  dispatch_timeout = 5;
  optimization_threshold = 7;
  message_cache_retention = 30000;
  message_id_retention = 90000;
  cache_evict_interval = 1000;
  max_message_size = M;
  me = 1;
}) panel_limits) zero_counts []

-- an identifier for every content: 9
abbrev pub nine : List ℕ → ℕ
nine content = 9

-- with the neighbours 2, eager, and 3, lazy, of which 3 has announced the message at a round
abbrev pub announced_at : ℕ → Run
announced_at round =
    panel 4094 ▷ on_neighbor_up false 2 ▷ on_neighbor_up false 3 ▷ on_prune 3 ▷ handle nine 0 (Received 3 (IHave (record { id = 9; round = round } ∷ [])))

-- the bytes of a content of n zeros
abbrev pub zeros : ℕ → List ℕ
zeros n = replicate n 0

-- the starred calls, and the example of `panelrun`
pub record WorkedCalls (hash : List ℕ → ℕ) : Type 0 where
  -- "Size, Swarm: 0 → 38; 127 → 165; 128 → 167. Neighbors 0 → 35"
  pub size0 : gossip_size 0 ≡ 38
  pub size127 : gossip_size 127 ≡ 165
  pub size128 : gossip_size 128 ≡ 167
  pub size_neighbors : (id : ℕ) → length (message_bytes (Gossip id [] Neighbors)) ≡ 35
  -- "M 510: content 471 is sent, 472 isn't"
  pub sent471 : (panel 510 ▷ on_neighbor_up false 2 ▷ broadcast hash 0 (zeros 471)).actions
      ≡ (Scheduled 5 DispatchLazyPush ∷ Sent 2 true (Gossip (hash (zeros 471)) (zeros 471) (Swarm 0)) ∷ [])
  pub unsent472 : (panel 510 ▷ on_neighbor_up false 2 ▷ broadcast hash 0 (zeros 472)).actions ≡ []
  -- "IHave 14 per message; M 4,094: 116"
  pub ihave510 : per_message 510 ≡ 14
  pub ihave4094 : per_message 4094 ≡ 116
  -- "Round 127: 7F; 128: 80 01; 65,535: FF FF 03"
  pub round127 : number_bytes 127 ≡ 0x7F ∷ []
  pub round128 : number_bytes 128 ≡ 0x80 ∷ 0x01 ∷ []
  pub round65535 : number_bytes 65535 ≡ 0xFF ∷ 0xFF ∷ 0x03 ∷ []
  pub read127 : read_round (0x7F ∷ []) ≡ got 127 []
  pub read128 : read_round (0x80 ∷ 0x01 ∷ []) ≡ got 128 []
  pub read65535 : read_round (0xFF ∷ 0xFF ∷ 0x03 ∷ []) ≡ got 65535 []
  -- "Threshold 7, r = 9: announcer round 3 optimises, 4 doesn't": 3 announces the message, and then it comes from 2 at round 9
  pub optimises : (announced_at 3 ▷ handle nine 0 (Received 2 (Gossip 9 [] (Swarm 9)))).actions
      ≡ (announced_at 3).actions
      ++ (Scheduled 5 DispatchLazyPush ∷ Sent 3 true (Graft None 3) ∷ Sent 2 true Prune ∷ Emitted 2 [] (Swarm 9) ∷ [])
  pub does_not : (announced_at 4 ▷ handle nine 0 (Received 2 (Gossip 9 [] (Swarm 9)))).actions
      ≡ (announced_at 4).actions ++ (Scheduled 5 DispatchLazyPush ∷ Emitted 2 [] (Swarm 9) ∷ [])
  -- "Cached at 0: evicting at 29,999 keeps, 30,000 removes; put again at 10,000, evicting at 30,000 keeps"
  pub keeps : holds 9 (panel 4094 ▷ cache_at 0 9 [] 1 ▷ on_evict_cache_timer 29999).state.cache ≡ true
  pub removes : holds 9 (panel 4094 ▷ cache_at 0 9 [] 1 ▷ on_evict_cache_timer 30000).state.cache ≡ false
  pub keeps_put_again : holds 9 (panel 4094 ▷ cache_at 0 9 [] 1 ▷ cache_at 10000 9 [] 1 ▷ on_evict_cache_timer 30000).state.cache ≡ true
  -- "Input (hexadecimal)", "Output", "the middle one scheduling EvictCache in 1,000"
  pub panelrun_example :
      panelrun hash (0x00 ∷ 0x02 ∷ 0x03 ∷ 0x02 ∷ 0x00 ∷ 0x02 ∷ 0x02 ∷ 0x01 ∷ 0x00 ∷ 0x03 ∷ 0x00 ∷ 0x05 ∷ 0x01 ∷ [])
      ≡ 0x00 ∷ 0x00 ∷ 0x00 ∷ 0x04 ∷ 0x02 ∷ 0xE8 ∷ 0x07 ∷ 0x02 ∷ 0x00 ∷ 0x00 ∷ []
