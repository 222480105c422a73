-- The numbers of the specification that definitions and code share.
-- Assumes nothing.
use Rattle.std.specs.Prelude.{◌≡◌, ◌^◌}
use Rattle.protocol.specs.declared.TheConstants.{LATEST, LAST_ROUND, MAX_DROPPED_PER_PEER, MAX_DROPPED, DROPPED_PER_TICK, ANNOUNCE_DROPPED_INTERVAL}

pub record Numbers : Type 0 where
  -- "Is now ≤ 2^62?"
  pub latest : LATEST.0 ≡ 2 ^ 62
  -- "of round 65,535"
  pub last_round : LAST_ROUND.0 ≡ 65535
  -- "At most 256 identifiers stand recorded for one neighbour, 4,096 in all."
  pub for_one_neighbour : MAX_DROPPED_PER_PEER ≡ 256
  pub in_all : MAX_DROPPED ≡ 4096
  -- "moves the oldest 64 per peer to its queue"
  pub at_a_tick : DROPPED_PER_TICK ≡ 64
  -- "schedule AnnounceDropped (1,000)"
  pub between_ticks : ANNOUNCE_DROPPED_INTERVAL.0 ≡ 1000
