-- What is read from a grafted message, and the steps on it.
-- Assumes nothing.
use Rattle.std.specs.Prelude.{ℕ, ◌<◌, ◌≡◌, true, List, [], length, get_or, Option, Some, None, option_map}
use Rattle.storage.specs.Lists.Base.{all, ascending}
use Rattle.storage.specs.Lists.Map.{Map, Entry, entry, keys, lookup, insert}
use Rattle.storage.specs.Rows.Rows.{field_of}
use Rattle.time_cache.specs.TimeCache.{Timed, get, put, replace}
use Rattle.protocol.specs.State.{State, Grafts, Hop, with_grafted}
use Rattle.protocol.specs.Whole.{grafts_whole}
use Rattle.protocol.specs.Control.{lower, with_graft}
use Rattle.block.specs.View.{byte_at, half_at, flag_of, only_if}
use Rattle.block.specs.LinkSteps.{peer_at}
use Rattle.block.specs.MissingSteps.{hop}
use Rattle.block.specs.Caches.InBlock.{InOrder}
use Rattle.block.specs.declared.hops.Hop.{Hop as LinkHop}
use Rattle.block.specs.declared.caches.grafted.FirstCopy.{FirstCopy}
use Rattle.block.specs.declared.caches.grafted.Senders.{Senders}

-- grafted message i
abbrev pub grafted_at : State → ℕ → Entry (Timed Grafts)
grafted_at s i = get_or s.grafted.entries i (entry 0 (record { expires = 0; value = record { first = None; kept = None; peers = [] } }))

-- the grafts of grafted message i
abbrev pub grafts_at : State → ℕ → Grafts
grafts_at s i = (grafted_at s i).value.value

-- the first copy and the kept peer, out of the bytes between an entry's place and its list
abbrev pub senders_in : List ℕ → Option Hop × Option ℕ
senders_in own = (only_if (flag_of (byte_at 0 own)) (hop (field_of 1 own) (half_at 9 own)), only_if (flag_of (byte_at 11 own)) (field_of 12 own))

-- peer j of the grafts, by the number of its link
pub record GraftIs (s : State) (peers : Map ℕ) (j : ℕ) (r : LinkHop) : Type 0 where
  pub below : r.link < length s.links
  pub same : get_or peers j (entry 0 0) ≡ entry (peer_at s r.link) r.round.0

-- the first copy
abbrev pub first_value : Option FirstCopy → Option Hop
first_value = option_map (λ f. hop f.sender f.round.0)

-- the senders of a grafted message
abbrev pub senders_of : Senders → Option Hop × Option ℕ
senders_of r = (first_value r.first, r.kept)

-- the grafted message i with other senders
abbrev pub senders_to : ℕ → Option Hop × Option ℕ → State → State
senders_to i p s = with_grafted (replace (grafted_at s i).key (record { first = p.0; kept = p.1; peers = (grafts_at s i).peers }) s.grafted) s

-- a part of being whole: the links ascend, the grafted messages are in order, and the peers of each ascend and are neighbours
pub record Grafting (s : State) : Type 0 where
  pub links_up : ascending (keys s.links) ≡ true
  pub order : InOrder s.grafted
  pub whole : all (grafts_whole s.links) s.grafted.entries ≡ true

-- "set a grafted entry's `first` to sender and r"
abbrev pub first_at : ℕ → ℕ → ℕ → State → State
first_at i p r s = with_grafted (replace (grafted_at s i).key (record { first = Some (record { peer = p; round = r }); kept = (grafts_at s i).kept; peers = (grafts_at s i).peers }) s.grafted) s

-- the entry's `kept` is the sender
abbrev pub kept_at : ℕ → ℕ → State → State
kept_at i p s = with_grafted (replace (grafted_at s i).key (record { first = (grafts_at s i).first; kept = Some p; peers = (grafts_at s i).peers }) s.grafted) s

-- the grafted message i with other peers
abbrev pub peers_to : ℕ → Map ℕ → State → State
peers_to i m s = with_grafted (replace (grafted_at s i).key (record { first = (grafts_at s i).first; kept = (grafts_at s i).kept; peers = m }) s.grafted) s

-- the peers of the grafted message i with a peer's round, the lower where it has one
abbrev pub peers_with : ℕ → ℕ → ℕ → State → Map ℕ
peers_with i p r s = insert p (lower (lookup p (grafts_at s i).peers) r) (grafts_at s i).peers

-- the grafts of a new entry
abbrev pub no_grafts : Grafts
no_grafts = record { first = None; kept = None; peers = [] }

-- a new entry, for which no peer is grafted yet
abbrev pub entered_state : ℕ → ℕ → State → State
entered_state id expires s = with_grafted (put id no_grafts expires s.grafted) s

-- where a new entry stands
pub record EnteredAt (id : ℕ) (s : State) (i : ℕ) : Type 0 where
  pub below : i < length s.grafted.entries
  pub key : (grafted_at s i).key ≡ id
  pub none : grafts_at s i ≡ no_grafts

-- the Graft goes into the entry of its identifier, or a new entry
abbrev pub graft_noted : ℕ → ℕ → ℕ → ℕ → State → State
graft_noted id link round expires s = with_grafted (with_graft id expires (hop (peer_at s link) round) (get id s.grafted) s.grafted) s
