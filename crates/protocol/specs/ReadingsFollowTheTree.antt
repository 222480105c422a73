-- The first half of the rule: tree links carry the reading, other links its identifier only. Of each accepted call: to whom it sends a payload, for whom it queues an identifier, and what becomes of
-- what stands queued. Links are taken as they stand before the call: a tree link is that of an eager neighbour, another link that of a lazy one.
-- Assumes nothing.
use Rattle.std.specs.Prelude.{ℕ, suc, ◌≡◌, Bool, true, false, not, ◌&&◌, List, [], ◌∷◌, ◌++◌, eqb, if◌then◌else◌, Some}
use Rattle.storage.specs.Lists.Base.{any, member}
use Rattle.storage.specs.Lists.Map.{has}
use Rattle.time_cache.specs.TimeCache.{get}
use Rattle.postcard.specs.Message.{Swarm, Message, Gossip, Prune, Graft, IHave, Event, Received, Broadcast, Action, Sent, Scheduled, Emitted, Forgotten}
use Rattle.protocol.specs.Links.{is_neighbour, eager_peers, lazy_peers}
use Rattle.protocol.specs.State.{State, Counts, Settings, Limits, Cached, created, create}
use Rattle.protocol.specs.Run.{Run}
use Rattle.protocol.specs.Push.{notes}
use Rattle.protocol.specs.Gossips.{grafted_for}
use Rattle.protocol.specs.Answer.{Call, Answer, accept}
use Rattle.protocol.specs.Calls.{state_after, run_calls}
use Rattle.protocol.specs.NoNeighbourPassedOver.{is_down, Took, took, lists, sends, taken_or_handed_back, dispatch_tick, announce_tick, fires_tick}

-- the message is a payload: a Gossip, of either delivery
unfoldable pub is_payload : Message → Bool
is_payload (Gossip id content d) = true
is_payload Prune = false
is_payload (Graft wanted round) = false
is_payload (IHave hs) = false

-- the payloads that the actions send to this peer, taken or handed back, in their order
unfoldable pub payloads_to : ℕ → List Action → List Message
payloads_to p [] = []
payloads_to p (Sent q taken m ∷ more) = if eqb q p && is_payload m then m ∷ payloads_to p more else payloads_to p more
payloads_to p (Scheduled delay t ∷ more) = payloads_to p more
payloads_to p (Emitted q content d ∷ more) = payloads_to p more
payloads_to p (Forgotten id ∷ more) = payloads_to p more

-- an announcement of the identifier: an IHave that lists it
unfoldable pub announcement_of : ℕ → Message → Bool
announcement_of id (Gossip j content d) = false
announcement_of id Prune = false
announcement_of id (Graft wanted round) = false
announcement_of id (IHave hs) = lists id hs

-- a tree link, to another panel than this one
abbrev pub tree_link : ℕ → State → Bool
tree_link p s = member p (eager_peers s.links) && not (eqb p s.settings.me)

-- another link: that of a lazy neighbour, but the one that the message came from
abbrev pub other_link : ℕ → ℕ → State → Bool
other_link from p s = member p (lazy_peers s.links) && not (eqb p from)

-- a payload that is due to this peer by an accepted call of the event `e`: `s` is the state before the call, `r` what the call made
pub data Due (hash : List ℕ → ℕ) (s : State) (e : Event) (r : Run) (p : ℕ) : Message → Type 0 where
  -- a message that the call takes in from a peer: to each tree link but the one it came from and those whose peer was asked for it by a Graft, with one hop more
  passed_on : (from id round : ℕ) (content : List ℕ) → e ≡ Received from (Gossip id content (Swarm round)) → took hash s.settings (accept e r) ≡ Some (record { id = id; from = from }) →
      tree_link p s ≡ true → eqb p from ≡ false → has p (grafted_for id r.state) ≡ false → Due hash s e r p (Gossip id content (Swarm (suc round)))
  -- a Swarm broadcast that the call takes in: to each tree link
  broadcast_by_us : (content : List ℕ) → e ≡ Broadcast content → took hash s.settings (accept e r) ≡ Some (record { id = hash content; from = s.settings.me }) →
      tree_link p s ≡ true → Due hash s e r p (Gossip (hash content) content (Swarm 0))
  -- a message that this peer, a neighbour, asks for by a Graft that names it: as it is cached, over a link of either kind
  asked_for : (id round : ℕ) (m : Cached) → e ≡ Received p (Graft (Some id) round) → is_neighbour p s.links ≡ true → get id r.state.cache ≡ Some m →
      Due hash s e r p (Gossip id m.content (Swarm m.round))

-- why an identifier stands queued for this peer after the call: it stood queued before; or the call takes the message in, and the peer's is another link than that of the tree and than the one
-- the message came from; or it stood recorded, and the call is an AnnounceDropped tick
pub data WhyQueued (hash : List ℕ → ℕ) (s : State) (e : Event) (r : Run) (p id : ℕ) : Type 0 where
  queued_before : any (notes p id) s.queue ≡ true → WhyQueued hash s e r p id
  taken_in : (from : ℕ) → took hash s.settings (accept e r) ≡ Some (record { id = id; from = from }) → other_link from p s ≡ true → WhyQueued hash s e r p id
  stood_recorded : fires_tick announce_tick e ≡ true → any (notes p id) s.dropped ≡ true → WhyQueued hash s e r p id

-- what becomes of an identifier that stands queued for this peer: it stands there after the call; or the call tells the peer down; or it is a dispatch tick, and announces it to the peer
pub data UntilAnnounced (e : Event) (r : Run) (p id : ℕ) : Type 0 where
  still_queued : any (notes p id) r.state.queue ≡ true → UntilAnnounced e r p id
  peer_down : is_down p e ≡ true → UntilAnnounced e r p id
  announced_now : fires_tick dispatch_tick e ≡ true → any (sends p (announcement_of id) taken_or_handed_back) r.actions ≡ true → UntilAnnounced e r p id

-- why an identifier is announced to this peer: the call is a dispatch tick, and it stood queued
pub record WhyAnnounced (s : State) (e : Event) (p id : ℕ) : Type 0 where
  pub ticks : fires_tick dispatch_tick e ≡ true
  pub stood_queued : any (notes p id) s.queue ≡ true

-- tree links carry the reading, other links its identifier only: of an accepted call
pub record FollowsTree (hash : List ℕ → ℕ) (s : State) (e : Event) (r : Run) : Type 0 where
  -- each payload that is sent is due: so none goes over another link unless its peer asks for it
  pub only_due : (p : ℕ) (m : Message) (before after : List Message) → payloads_to p r.actions ≡ before ++ (m ∷ after) → Due hash s e r p m
  -- each payload that is due to a peer is sent to it, once, and no other beside it: tree links carry the reading
  pub each_due : (p : ℕ) (m : Message) → Due hash s e r p m → payloads_to p r.actions ≡ m ∷ []
  -- other links its identifier: of a message that the call takes in it stands queued for each of them but the one it came from
  pub each_queued : (p : ℕ) (t : Took) → took hash s.settings (accept e r) ≡ Some t → other_link t.from p s ≡ true → any (notes p t.id) r.state.queue ≡ true
  -- and nothing else is queued
  pub only_queued : (p id : ℕ) → any (notes p id) r.state.queue ≡ true → WhyQueued hash s e r p id
  -- what stands queued stays so until the next dispatch tick announces it, or the peer goes down
  pub until_announced : (p id : ℕ) → any (notes p id) s.queue ≡ true → UntilAnnounced e r p id
  -- and nothing else is announced
  pub only_announced : (p id : ℕ) → any (sends p (announcement_of id) taken_or_handed_back) r.actions ≡ true → WhyAnnounced s e p id

-- the state that these answers leave, one after the other
unfoldable pub state_left : State → List Answer → State
state_left s [] = s
state_left s (a ∷ past) = state_left (state_after s a) past

-- each accepted call of the list follows the tree, as the calls before it left the panel
pub record TreeFollowed (hash : List ℕ → ℕ) (s : State) (past : List Answer) : Type 0 where
  pub always : (before after : List Answer) (e : Event) (r : Run) → past ≡ before ++ (accept e r ∷ after) → FollowsTree hash (state_left s before) e r

-- of every list of event calls, refused ones too, from a fresh panel
pub record ReadingsFollowTheTree (hash : List ℕ → ℕ) : Type 0 where
  pub always : (c : Settings) (l : Limits) (block_length : ℕ) (s : State) (n : Counts) → create c l block_length ≡ created s n →
      (ks : List Call) → TreeFollowed hash s (run_calls hash s n ks).answers
