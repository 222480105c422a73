-- The specification, "Where a port goes astray", and the unstarred "65 recorded": each as a run that the definitions compute.
-- Assumes nothing.
use Rattle.std.specs.Prelude.{ℕ, zero, suc, ◌≡◌, true, false, List, [], ◌∷◌, length}
use Rattle.storage.specs.Lists.Base.{◌▷◌}
use Rattle.postcard.specs.Message.{Swarm, Gossip, IHave, DispatchLazyPush, EvictCache, AnnounceDropped, Received, Fired, Sent, Scheduled, Emitted}
use Rattle.protocol.specs.State.{fresh, zero_counts}
use Rattle.protocol.specs.Run.{Run, Room, begin}
use Rattle.protocol.specs.Push.{note_dropped}
use Rattle.protocol.specs.Gossips.{cache_at}
use Rattle.protocol.specs.Control.{on_prune}
use Rattle.protocol.specs.Neighbours.{on_neighbor_up}
use Rattle.protocol.specs.Handle.{handle}

-- an identifier for every content: 9
abbrev pub nine : List ℕ → ℕ
nine content = 9

-- panel 1 with eager neighbours 2 and 3, and itself lazy; the links take what `rooms` says
abbrev pub panel : List Room → Run
panel rooms = begin (fresh (record {
  graft_timeout_1 = 80;
  graft_timeout_2 = 40;
  dispatch_timeout = 5;
  optimization_threshold = 7;
  message_cache_retention = 30000;
  message_id_retention = 90000;
  cache_evict_interval = 1000;
  max_message_size = 4094;
  me = 1;
})
    (record { N = 8; R = 64; C = 32; B = 8192; G = 16; S = 16; T = 16; Q = 64; D = 64 })) zero_counts rooms
    ▷ on_neighbor_up false 1 ▷ on_prune 1 ▷ on_neighbor_up false 2 ▷ on_neighbor_up false 3

-- 65 recorded for peer 2, and cached
abbrev pub recorded : ℕ → Run → Run
recorded zero r = r
recorded (suc n) r = recorded n (r ▷ cache_at 0 n [] 1 ▷ note_dropped 2 (record { id = n; round = 1 } ∷ []))

-- what the definitions compute of each
pub record WhereAPortGoesAstray : Type 0 where
  -- emits at the round received, sends on at one more; notes what was handed back after all sends
  pub gossip :
      (panel (record { peer = 2; room = 0 } ∷ []) ▷ handle nine 0 (Received 4 (Gossip 9 (5 ∷ []) (Swarm 6)))).actions
      ≡ Scheduled 1000 EvictCache
      ∷ Sent 2 false (Gossip 9 (5 ∷ []) (Swarm 7)) ∷ Sent 3 true (Gossip 9 (5 ∷ []) (Swarm 7))
      ∷ Scheduled 1000 AnnounceDropped ∷ Scheduled 5 DispatchLazyPush ∷ Emitted 4 (5 ∷ []) (Swarm 6) ∷ []
  -- queues for the panel itself
  pub queued :
      (panel [] ▷ handle nine 0 (Received 4 (Gossip 9 (5 ∷ []) (Swarm 6)))).state.queue
      ≡ record { peer = 1; id = 9; round = 7 } ∷ []
  -- a stranger's IHave is counted only
  pub stranger :
      (panel [] ▷ handle nine 0 (Received 4 (IHave (record { id = 9; round = 0 } ∷ [])))).state.missing ≡ []
  pub stranger_links :
      (panel [] ▷ handle nine 0 (Received 4 (IHave (record { id = 9; round = 0 } ∷ [])))).state.links ≡ (panel []).state.links
  -- "65 recorded: the ticks move 64, then 1"
  pub ticks64 :
      length (panel [] ▷ recorded 65 ▷ handle nine 0 (Fired AnnounceDropped)).state.queue ≡ 64
  pub ticks1 :
      length (panel [] ▷ recorded 65 ▷ handle nine 0 (Fired AnnounceDropped) ▷ handle nine 0 (Fired DispatchLazyPush) ▷ handle nine 0 (Fired AnnounceDropped)).state.queue ≡ 1
