-- The links and the link room, as an eager push reads them.
-- Assumes nothing.
use Rattle.payloads.proofs.Words.{◌≡◌, ℕ, ◌≤◌, ◌<◌, List, length, arith, get_or-map, Map, Entry, entry, keys, has, member, Mark, eager, State, peer_at, link_at, state_of, Head, AtRest, links-few, Call}
use Rattle.block.specs.Sound.{Sound}
use Rattle.payloads.proofs.EagerLaws.TargetLaws.{Roomed}
use Rattle.steps.proofs.RoomsLaws.{kth-link, has-member}

pub few_links : (h : Head) (xs : List ℕ) → Sound h xs → length (state_of h xs).links ≤ 32
few_links h xs sound = links-few h xs sound

pub link_peer : (s : State) (i : ℕ) → i < length s.links → peer_at s i ≡ (link_at s i).key
link_peer s i q = get_or-map (λ (e : Entry Mark). e.key) s.links i (entry 0 eager)

pub rest-roomed : (s : State) (call : Call) → AtRest s → Roomed s call
rest-roomed s call rest = record { first = λ i q. kth-link s call.peer call.rooms.now 1 i rest.consistent.core.links_up q (omega arith) }

pub has_peer : {A : Type 0} (p : ℕ) (m : Map A) → has p m ≡ member p (keys m)
has_peer p m = has-member p m
