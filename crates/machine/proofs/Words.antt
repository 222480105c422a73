-- The words of the crates below that the proofs of this crate use most, passed on.
pub use Rattle.blake3.specs.Blake3.{identifier}
pub use Rattle.block.specs.Header.{Stored, head_bytes, head_in, word_at}
pub use Rattle.block.specs.LinkSteps.{linked, peer_at}
pub use Rattle.block.specs.Panels.{AtRest, Goes, state}
pub use Rattle.block.specs.Sound.{AllNumbered, Laid, Numbered, Sound, adjoin}
pub use Rattle.block.specs.View.{byte_at, limits_of, state_of, view_of}
pub use Rattle.block.specs.Views.{shown}
pub use Rattle.block.specs.declared.head.Head.{Head}
pub use Rattle.decide.specs.Settled.{settled, settled_actions, too_far_before}
pub use Rattle.decide.specs.StateAfter.{late_state, state_after}
pub use Rattle.postcard.specs.Message.{Action, AnnounceDropped, Broadcast, Delivery, DispatchLazyPush, Down, Emitted, EvictCache, Fired, Forgotten, Gossip, Graft, IHave, Ihave, Neighbors, Prune, Received, Scheduled, SendGraft, Sent, Swarm, Up, action_bytes, ihave_bytes, message_bytes}
pub use Rattle.postcard.specs.Values.{delivery_value, timer_value, wanted_value}
pub use Rattle.protocol.specs.Answer.{Outcome, accepted, answer_block, ask_of, ask_read, counts_below, counts_stay, message_fits, refused}
pub use Rattle.protocol.specs.Links.{Links, Mark, add_lazy, eager_in, is_eager, is_neighbour, link_up}
pub use Rattle.protocol.specs.Run.{Room, Run, begin}
pub use Rattle.protocol.specs.State.{Cached, Counts, Hop, Limits, Note, Settings, State, block_need, durations_in_range, limits_in_range, size_in_range, with_cache, with_grafted, with_init, with_links, with_received, zero_counts}
pub use Rattle.protocol.specs.Whole.{fits, whole, whole_state}
pub use Rattle.std.proofs.Common.{Bool, Err, IfSome, List, None, Ok, Option, Result, Some, [], ap, arith, drop, eq-eqb, eqb, false, get_or, if◌then◌else◌, is_none, is_some, le-leb, le-ltb, leb, leb-false, leb-true, length, length-append, lit<, lt-ltb, ltb, ltb-false, ltb-true, map, max, not, refl, subst, suc, sym, take, take-append-drop, true, zero, ℕ, ◌&&◌, ◌*◌, ◌++◌, ◌+◌, ◌<◌, ◌^◌, ◌||◌, ◌∙◌, ◌∷◌, ◌≡◌, ◌≤◌}
pub use Rattle.storage.proofs.ListsLaws.MapLaws.{all_cons, and_intro, and_left, and_right, cases, true≢}
pub use Rattle.storage.specs.Lists.Base.{all, any, concat_map, filter, is_empty, member}
pub use Rattle.whole.specs.Held.{all_below, counts_within, laid_out, places_name}
pub use Rattle.wire.specs.Reader.Values.{SizedBehind, event_value, ihaves_value, message_value}
pub use borrow.Author.Tests.{eqb-false, lt-leb, not-false}
