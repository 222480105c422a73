-- The examples of docs/GUARANTEE.md: lists of calls, and what the definitions compute of each.
-- Assumes nothing.
use Rattle.std.specs.Prelude.{ℕ, zero, suc, ◌≡◌, ◌+◌, Bool, true, false, ◌&&◌, List, [], ◌∷◌, ◌++◌, length, drop, map, replicate, Some, None}
use Rattle.storage.specs.Lists.Base.{any}
use Rattle.storage.specs.Lists.Map.{entry}
use Rattle.postcard.specs.Number.{id_bytes}
use Rattle.postcard.specs.Message.{Swarm, Neighbors, Message, Gossip, Prune, Graft, IHave, SendGraft, DispatchLazyPush, EvictCache, AnnounceDropped, Event, Received, Broadcast, Fired, Up, Down, Action, Scheduled, Forgotten, message_bytes, event_bytes}
use Rattle.postcard.specs.Decode.{decoded, decode_event}
use Rattle.time_cache.specs.TimeCache.{Cache, empty_cache, put, holds}
use Rattle.protocol.specs.Links.{eager, eager_peers, lazy_peers}
use Rattle.protocol.specs.State.{State, Cached, Note, fresh, with_links, with_dropped, with_cache, with_announce_scheduled, with_init, zero_counts}
use Rattle.protocol.specs.Run.{Run, Room, begin}
use Rattle.protocol.specs.Push.{notes, record_full}
use Rattle.protocol.specs.Handle.{handle}
use Rattle.protocol.specs.Whole.{whole}
use Rattle.protocol.specs.Answer.{Call, Answer, refuse, accept, message_fits}
use Rattle.protocol.specs.AlikeCalls.CommissioningSheet.{number_of}
use Rattle.protocol.specs.Calls.{Ran, run_calls}
use Rattle.protocol.specs.NoNeighbourPassedOver.{took, announced, is_graft_for, carries, was_taken, was_handed_back, taken_or_handed_back, sent, dispatch_tick, announce_tick, scheduled, met_full}
use Rattle.protocol.specs.ReadingsFollowTheTree.{payloads_to, announcement_of}
use Rattle.protocol.specs.FourTicks.{by_state, on_record, off_record, on_queue}
use Rattle.protocol.specs.Notings.{Coming, comings_in}
use Rattle.protocol.specs.Screen.{told}
use Rattle.protocol.specs.Panel.{panel_settings, panel_limits}
use Rattle.protocol.specs.WorkedCalls.{nine}

-- a call at time 0, with room without bound
abbrev pub free : Event → Call
free e = record { now = 0; event = event_bytes e; rooms = []; output = 40960 }

-- a call at time 0 whose sends to 2 are handed back
abbrev pub shut : Event → Call
shut e = record { now = 0; event = event_bytes e; rooms = record { peer = 2; room = 0 } ∷ []; output = 40960 }

-- the calls upon a fresh panel 1, where every content has identifier 9
abbrev pub after : List Call → Ran
after calls = run_calls nine (fresh panel_settings panel_limits) zero_counts calls

-- which of the calls pass a test
abbrev pub which : (Answer → Bool) → List Call → List Bool
which f calls = map f (after calls).answers

-- the message as it comes from a peer, its announcement, and the same content as this panel broadcasts it
abbrev pub gossip : ℕ → Event
gossip p = Received p (Gossip 9 (7 ∷ []) (Swarm 3))

abbrev pub ihave : ℕ → Event
ihave p = Received p (IHave (record { id = 9; round = 3 } ∷ []))

abbrev pub broadcast : Event
broadcast = Broadcast (7 ∷ [])

-- the payloads that each of the calls sends to the peer
unfoldable pub sent_by : ℕ → Answer → List Message
sent_by p (refuse n) = []
sent_by p (accept e r) = payloads_to p r.actions

abbrev pub to : ℕ → List Call → List (List Message)
to p calls = map (sent_by p) (after calls).answers

-- up 2, up 3, a Prune from 3: 2 is of the tree, 3 is not; then these
abbrev pub setup : List Call → List Call
setup calls = free (Up false 2) ∷ free (Up false 3) ∷ free (Received 3 Prune) ∷ calls

-- a broadcast; and then the dispatch tick, and 3 asks for it
abbrev pub queued : List Call
queued = setup (free broadcast ∷ [])

abbrev pub tree : List Call
tree = setup (free broadcast ∷ free (Fired DispatchLazyPush) ∷ free (Received 3 (Graft (Some 9) 0)) ∷ [])

-- the message from 3
abbrev pub passed : List Call
passed = setup (free (gossip 3) ∷ [])

-- a Neighbors message from 3
abbrev pub near : List Call
near = setup (free (Received 3 (Gossip 9 (7 ∷ []) Neighbors)) ∷ [])

-- up 2, up 3, IHave from 2, the graft timer, a Prune from 2, the message from 3
abbrev pub asked : List Call
asked = free (Up false 2) ∷ free (Up false 3) ∷ free (ihave 2) ∷ free (Fired (SendGraft 9)) ∷ free (Received 2 Prune) ∷ free (gossip 3) ∷ []

-- of readings that follow the tree
pub record TreeExamples : Type 0 where
  -- the reading goes to 2 by the broadcast, to 3 by its Graft, once each
  pub tree2 : to 2 tree ≡ [] ∷ [] ∷ [] ∷ (Gossip 9 (7 ∷ []) (Swarm 0) ∷ []) ∷ [] ∷ [] ∷ []
  pub tree3 : to 3 tree ≡ [] ∷ [] ∷ [] ∷ [] ∷ [] ∷ (Gossip 9 (7 ∷ []) (Swarm 0) ∷ []) ∷ []
  -- its identifier is queued for 3 alone, and the dispatch tick announces it there
  pub queued3 : (after queued).state.queue ≡ record { peer = 3; id = 9; round = 0 } ∷ []
  pub announced3 : which (sent 3 (announcement_of 9) was_taken) tree ≡ false ∷ false ∷ false ∷ false ∷ true ∷ false ∷ []
  -- a message from 3 goes on to 2 with one hop more, and nothing of it back to 3
  pub passed2 : to 2 passed ≡ [] ∷ [] ∷ [] ∷ (Gossip 9 (7 ∷ []) (Swarm 4) ∷ []) ∷ []
  pub passed3 : to 3 passed ≡ [] ∷ [] ∷ [] ∷ [] ∷ []
  pub passed_queue : (after passed).state.queue ≡ []
  -- a Neighbors message from 3 goes on to nobody, and is queued for nobody
  pub near2 : to 2 near ≡ [] ∷ [] ∷ [] ∷ [] ∷ []
  pub near3 : to 3 near ≡ [] ∷ [] ∷ [] ∷ [] ∷ []
  pub near_queue : (after near).state.queue ≡ []
  -- 2 was asked for the message and is not pushed to; its link is none of the tree, and it is queued for
  pub asked2 : to 2 asked ≡ [] ∷ [] ∷ [] ∷ [] ∷ [] ∷ [] ∷ []
  pub asked_queue : (after asked).state.queue ≡ record { peer = 2; id = 9; round = 4 } ∷ []

-- up 2, up 3, a Prune from 3, up 2 again, down 3
abbrev pub links : List Call
links = free (Up false 2) ∷ free (Up false 3) ∷ free (Received 3 Prune) ∷ free (Up false 2) ∷ free (Down 3) ∷ []

-- up 2, the message from 2
abbrev pub came : List Call
came = free (Up false 2) ∷ free (gossip 2) ∷ []

-- up 2, up 3, IHave from 2, the graft timer, the message from 3
abbrev pub grafted : List Call
grafted = free (Up false 2) ∷ free (Up false 3) ∷ free (ihave 2) ∷ free (Fired (SendGraft 9)) ∷ free (gossip 3) ∷ []

-- up 2, a broadcast
abbrev pub taken : List Call
taken = free (Up false 2) ∷ free broadcast ∷ []

-- up 2, a broadcast that the link of 2 hands back; and then AnnounceDropped; and then DispatchLazyPush
abbrev pub back : List Call
back = free (Up false 2) ∷ shut broadcast ∷ []

abbrev pub announcing : List Call
announcing = free (Up false 2) ∷ shut broadcast ∷ free (Fired AnnounceDropped) ∷ []

abbrev pub dispatched : List Call
dispatched = free (Up false 2) ∷ shut broadcast ∷ free (Fired AnnounceDropped) ∷ free (Fired DispatchLazyPush) ∷ []

-- up 2; a saving, the broadcast that is handed back and a return, which are no members of the list; up 3
abbrev pub returned : List Call
returned = free (Up false 2) ∷ free (Up false 3) ∷ []

-- the message from 2 with its kind, its length, its delivery's kind and its round padded by a byte each
abbrev pub spelled : List ℕ
spelled = 0x00 ∷ 0x02 ∷ 0x80 ∷ 0x00 ∷ id_bytes 9 ++ (0x81 ∷ 0x00 ∷ 0x07 ∷ 0x80 ∷ 0x00 ∷ 0x83 ∷ 0x00 ∷ [])

-- up 2, up 3, the message from 2; and the same with the message so spelled
abbrev pub plain : List Call
plain = free (Up false 2) ∷ free (Up false 3) ∷ free (gossip 2) ∷ []

abbrev pub padded : List Call
padded = free (Up false 2) ∷ free (Up false 3) ∷ record { now = 0; event = spelled; rooms = []; output = 40960 } ∷ []

-- of parts 1 to 4, of a return and of two spellings of one message
pub record ListExamples : Type 0 where
  -- 2 is eager, and 3 in neither set
  pub eager2 : eager_peers (after links).state.links ≡ 2 ∷ []
  pub lazy3 : lazy_peers (after links).state.links ≡ []
  -- a: it came from there
  pub from2 : map (took nine panel_settings) (after came).answers ≡ None ∷ Some (record { id = 9; from = 2 }) ∷ []
  pub cached2 : holds 9 (after came).state.cache ≡ true
  -- b: 2 announced it in the third call and was sent a Graft in the fourth; the fifth took it in, from 3, and sent 2 nothing
  pub announced3 : which (announced 2 9) grafted ≡ false ∷ false ∷ true ∷ false ∷ false ∷ []
  pub grafted4 : which (sent 2 (is_graft_for 9) taken_or_handed_back) grafted ≡ false ∷ false ∷ false ∷ true ∷ false ∷ []
  pub took5 : map (took nine panel_settings) (after grafted).answers ≡ None ∷ None ∷ None ∷ None ∷ Some (record { id = 9; from = 3 }) ∷ []
  pub nothing5 : which (sent 2 (carries 9) taken_or_handed_back) grafted ≡ false ∷ false ∷ false ∷ false ∷ false ∷ []
  -- c: its payload was sent there and was taken
  pub payload2 : which (sent 2 (carries 9) was_taken) taken ≡ false ∷ true ∷ []
  -- f: it was handed back and stands recorded, and the record's timer was scheduled in that call
  pub back2 : which (sent 2 (carries 9) was_handed_back) back ≡ false ∷ true ∷ []
  pub recorded2 : any (notes 2 9) (after back).state.dropped ≡ true
  pub timer2 : which (scheduled announce_tick) back ≡ false ∷ true ∷ []
  -- e: it stands queued, and dispatch was scheduled
  pub queued3 : any (notes 2 9) (after announcing).state.queue ≡ true
  pub dispatch3 : which (scheduled dispatch_tick) announcing ≡ false ∷ true ∷ false ∷ []
  -- c: its announcement was taken
  pub announced4 : which (sent 2 (carries 9) was_taken) dispatched ≡ false ∷ false ∷ false ∷ true ∷ []
  pub empty4 : (after dispatched).state.queue ≡ []
  -- a return: the broadcast is no part of the list; it is not cached, and nothing stands recorded
  pub uncached : holds 9 (after returned).state.cache ≡ false
  pub nothing : (after returned).state.dropped ≡ []
  pub both : eager_peers (after returned).state.links ≡ 2 ∷ 3 ∷ []
  -- two spellings: answers, actions, counts and state are the same; it goes on to 3
  pub spellings : after padded ≡ after plain
  pub sent3 : which (sent 3 (carries 9) was_taken) padded ≡ false ∷ false ∷ true ∷ []

-- so many identifiers recorded for 2, each above 9
unfoldable pub recorded : ℕ → List Note
recorded zero = []
recorded (suc n) = record { peer = 2; id = n + 10; round = 0 } ∷ recorded n

-- panel 1 with the eager neighbours 2 and 3, room for 512 in the record, and 256 recorded for 2
abbrev pub full : State
full = with_announce_scheduled true (with_dropped (recorded 256) (with_links (entry 2 eager ∷ entry 3 eager ∷ []) (fresh panel_settings (record { N = 8; R = 64; C = 32; B = 8192; G = 16; S = 16; T = 16; Q = 64; D = 512 }))))

-- both links hand a broadcast back
abbrev pub both_shut : List Room
both_shut = record { peer = 2; room = 0 } ∷ record { peer = 3; room = 0 } ∷ []

abbrev pub full_answer : Answer
full_answer = accept broadcast (handle nine 0 broadcast (begin full zero_counts both_shut))

abbrev pub full_comings : List Coming
full_comings = comings_in nine full zero_counts both_shut 0 broadcast

-- of part 3, d: one event upon such a state
pub record MetFullExample : Type 0 where
  pub whole1 : whole full ≡ true
  -- 2 met a full record, 3 did not
  pub met2 : met_full 2 9 full_answer ≡ true
  pub met3 : met_full 3 9 full_answer ≡ false
  -- `note_dropped` came to 9 for 2, which had 256, and then to 9 for 3, which had none
  pub peers : map (λ c. c.peer) full_comings ≡ 2 ∷ 3 ∷ []
  pub ids : map (λ c. c.id) full_comings ≡ 9 ∷ 9 ∷ []
  pub was_full : map (λ c. record_full c.peer c.state.dropped) full_comings ≡ true ∷ false ∷ []

-- a Gossip of 473 zeros; from peer 2; and its bytes, with the round in this spelling
abbrev pub long_message : Message
long_message = Gossip 9 (replicate 473 0) (Swarm 0)

abbrev pub long : Event
long = Received 2 long_message

abbrev pub long_spelled : List ℕ → List ℕ
long_spelled round = 0x00 ∷ 0x02 ∷ 0x00 ∷ id_bytes 9 ++ (0xD9 ∷ 0x03 ∷ replicate 473 0 ++ (0x00 ∷ round))

-- with M 510: the message is taken in its shortest form, of 510 bytes, and not with its round padded
pub record SizeExamples : Type 0 where
  pub shortest : length (message_bytes long_message) ≡ 510
  pub read510 : decode_event (long_spelled (0x00 ∷ [])) ≡ decoded long
  pub taken510 : message_fits 510 (long_spelled (0x00 ∷ [])) long ≡ true
  pub read511 : decode_event (long_spelled (0x80 ∷ 0x00 ∷ [])) ≡ decoded long
  pub refused511 : message_fits 510 (long_spelled (0x80 ∷ 0x00 ∷ [])) long ≡ false

-- an identifier for each content: its first byte
abbrev pub first : List ℕ → ℕ
first [] = 0
first (b ∷ content) = b

-- the calls upon a fresh panel 1, with these identifiers
abbrev pub after_first : List Call → Ran
after_first calls = run_calls first (fresh panel_settings panel_limits) zero_counts calls

-- a broadcast of one byte
abbrev pub broadcast_of : ℕ → Event
broadcast_of b = Broadcast (b ∷ [])

-- up 2 by kind 5, a broadcast of 8, the dispatch tick, 2 asks for it, a broadcast of 5; and then up 2 by kind 3, a broadcast of 6
abbrev pub quiet_link : List Call
quiet_link = free (Up true 2) ∷ free (broadcast_of 8) ∷ free (Fired DispatchLazyPush) ∷ free (Received 2 (Graft (Some 8) 0)) ∷ free (broadcast_of 5) ∷ []

abbrev pub ordinary_link : List Call
ordinary_link = quiet_link ++ (free (Up false 2) ∷ free (broadcast_of 6) ∷ [])

-- of a quiet neighbour
pub record QuietExamples : Type 0 where
  -- as long as it is told quiet, 2 is sent the reading that it asks for, and no other
  pub asked2 : map (sent_by 2) (after_first ordinary_link).answers ≡ [] ∷ [] ∷ [] ∷ (Gossip 8 (8 ∷ []) (Swarm 0) ∷ []) ∷ [] ∷ [] ∷ (Gossip 6 (6 ∷ []) (Swarm 0) ∷ []) ∷ []
  -- the dispatch tick announces it there; and the next one stands queued for it
  pub announced2 : map (sent 2 (announcement_of 8) was_taken) (after_first quiet_link).answers ≡ false ∷ false ∷ true ∷ false ∷ false ∷ []
  pub queued2 : (after_first quiet_link).state.queue ≡ record { peer = 2; id = 5; round = 0 } ∷ []
  -- its Graft leaves it lazy; kind 3 makes it eager
  pub lazy2 : lazy_peers (after_first quiet_link).state.links ≡ 2 ∷ []
  pub eager2 : eager_peers (after_first ordinary_link).state.links ≡ 2 ∷ []

-- EvictCache at a time
abbrev pub evict_at : ℕ → Call
evict_at now = record { now = now; event = event_bytes (Fired EvictCache); rooms = []; output = 40960 }

-- broadcasts of 8, of 5, and of 8 again, all at time 0, which are cached for 30,000; EvictCache just before that, at it, and once more
abbrev pub greyed : List Call
greyed = free (broadcast_of 8) ∷ free (broadcast_of 5) ∷ free (broadcast_of 8) ∷ evict_at 29999 ∷ evict_at 30000 ∷ evict_at 30000 ∷ []

-- the actions of each of the calls
abbrev pub actions_of : Answer → List Action
actions_of (refuse n) = []
actions_of (accept e r) = r.actions

-- of what was forgotten
pub record ScreenExamples : Type 0 where
  -- each identifier is told by the eviction that removes it, "in order of removal", once, "before its schedule"
  pub told : map (λ a. told (actions_of a)) (after_first greyed).answers ≡ [] ∷ [] ∷ [] ∷ [] ∷ (8 ∷ 5 ∷ []) ∷ [] ∷ []
  pub before : drop 4 (map actions_of (after_first greyed).answers)
      ≡ (Forgotten 8 ∷ Forgotten 5 ∷ Scheduled 1000 EvictCache ∷ []) ∷ (Scheduled 1000 EvictCache ∷ []) ∷ []

-- so many identifiers, each above 9, cached at time 0 for 30,000
unfoldable pub cached : ℕ → Cache Cached
cached zero = empty_cache
cached (suc n) = put (n + 10) (record { content = 7 ∷ []; round = 0 }) 30000 (cached n)

-- panel 1 with the eager neighbour 2, and 256 identifiers that are cached and stand recorded for 2; that of place 256 is 10
abbrev pub waiting : State
waiting =
    with_init true (with_cache (cached 256) (with_announce_scheduled true (with_dropped (recorded 256) (with_links (entry 2 eager ∷ []) (fresh panel_settings (record { N = 8; R = 64; C = 256; B = 8192; G = 16; S = 16; T = 16; Q = 256; D = 512 }))))))

-- AnnounceDropped fires so many times
unfoldable pub ticked : ℕ → Run
ticked zero = begin waiting zero_counts []
ticked (suc n) = handle nine 0 (Fired AnnounceDropped) (ticked n)

-- after 0 to 4 ticks
abbrev pub each_tick : {A : Type 0} → (State → A) → List A
each_tick f = map (λ n. f (ticked n).state) (0 ∷ 1 ∷ 2 ∷ 3 ∷ 4 ∷ [])

-- `dispatched`, whose dispatch tick the link of 2 hands back too; and then the two ticks again
abbrev pub twice : List Call
twice = announcing ++ (shut (Fired DispatchLazyPush) ∷ free (Fired AnnounceDropped) ∷ free (Fired DispatchLazyPush) ∷ [])

-- the answers to these calls upon a fresh panel 1 with room for one in the queue: up 2, broadcasts of 8 and of 5 that the link of 2 hands back, AnnounceDropped, EvictCache at 30,000, AnnounceDropped
abbrev pub narrow : List Answer
narrow = (run_calls first (fresh panel_settings (record { N = 8; R = 64; C = 32; B = 8192; G = 16; S = 16; T = 16; Q = 1; D = 64 })) zero_counts
    (free (Up false 2) ∷ shut (broadcast_of 8) ∷ shut (broadcast_of 5) ∷ free (Fired AnnounceDropped) ∷ evict_at 30000 ∷ free (Fired AnnounceDropped) ∷ [])).answers

-- of the four ticks
pub record FourTicksExamples : Type 0 where
  -- 64 leave at each tick; the last stands until the fourth, by which it goes to the queue
  pub whole1 : whole waiting ≡ true
  pub lengths : each_tick (λ s. length s.dropped) ≡ 256 ∷ 192 ∷ 128 ∷ 64 ∷ 0 ∷ []
  pub last : each_tick (on_record 2 10) ≡ true ∷ true ∷ true ∷ true ∷ false ∷ []
  pub last_queued : each_tick (on_queue 2 10) ≡ false ∷ false ∷ false ∷ false ∷ true ∷ []
  -- put on the record by the broadcast, and off it by the tick; put there again by the dispatch tick, and off it by the next tick; each dispatch tick sends it
  pub recorded2 : which (by_state (on_record 2 9)) twice ≡ false ∷ true ∷ false ∷ true ∷ false ∷ false ∷ []
  pub queued2 : which (by_state (on_queue 2 9)) twice ≡ false ∷ false ∷ true ∷ false ∷ true ∷ false ∷ []
  pub sent2 : which (sent 2 (announcement_of 9) taken_or_handed_back) twice ≡ false ∷ false ∷ false ∷ true ∷ false ∷ true ∷ []
  pub back2 : which (sent 2 (announcement_of 9) was_handed_back) twice ≡ false ∷ false ∷ false ∷ true ∷ false ∷ false ∷ []
  -- a tick that would queue two is refused, and is none; the one behind the eviction takes both off
  pub refused4 : map number_of narrow ≡ 0 ∷ 0 ∷ 0 ∷ 13 ∷ 0 ∷ 0 ∷ []
  pub both2 : map (by_state (λ s. on_record 2 8 s && on_record 2 5 s)) narrow ≡ false ∷ false ∷ true ∷ false ∷ true ∷ false ∷ []
  pub neither2 : map (by_state (λ s. off_record 2 8 s && off_record 2 5 s)) narrow ≡ true ∷ false ∷ false ∷ false ∷ false ∷ true ∷ []

pub record GuaranteeExamples : Type 0 where
  pub tree : TreeExamples
  pub lists : ListExamples
  pub met_full : MetFullExample
  pub sizes : SizeExamples
  pub quiet : QuietExamples
  pub screen : ScreenExamples
  pub four_ticks : FourTicksExamples
