-- Sizes and actions of neighbour up, neighbour down and EvictCache, of the state before.
use Rattle.std.proofs.Common.{ℕ, suc, ◌≡◌, refl, sym, ap, ◌∙◌, Bool, true, not, List, [], ◌∷◌, ◌++◌, append-nil, append_assoc, length, if◌then◌else◌}
use lib.ListN.{length-map}
use Rattle.storage.specs.Lists.Base.{is_empty, count, ascending}
use Rattle.storage.specs.Lists.Map.{Map, keys}
use Rattle.protocol.specs.Links.{link_down}
use Rattle.postcard.specs.Message.{DispatchLazyPush, EvictCache, Action, Scheduled}
use Rattle.protocol.specs.State.{State, Hop, with_dispatch_scheduled}
use Rattle.protocol.specs.Run.{Run, act}
use Rattle.protocol.specs.Push.{for_peer, schedule_dispatch}
use Rattle.protocol.specs.Gossips.{update_links}
use Rattle.protocol.specs.Ticks.{on_evict_cache_timer}
use Rattle.protocol.specs.Neighbours.{on_neighbor_up, on_neighbor_down, without_announcer, forget_announcer, without_notes, without_graft, forget_grafted, forget_peer}
use Rattle.protocol.specs.Whole.{content_held}
use Rattle.decide.specs.Sizes.{sizes_of}
use Rattle.decide.proofs.SizesAfter.{down_sizes}
use Rattle.decide.specs.Settled.{forgotten_actions}
use Rattle.decide.specs.ActionsAfter.{evict_actions, dispatch_action}
use Rattle.storage.proofs.ListsLaws.MapLaws.{cases}
use Rattle.storage.proofs.ListsLaws.ListLaws.{length-filter}
use Rattle.storage.proofs.ListsLaws.Branches.{if-on, if-both, if-same}
use Rattle.decide.proofs.TableSizes.{length-remove}

-- up and down

pub up-actions : (as_quiet : Bool) (p : ℕ) (r : Run) → (on_neighbor_up as_quiet p r).actions ≡ r.actions
unfolding on_neighbor_up update_links
up-actions as_quiet p r = refl

forget-length : (p : ℕ) (m : Map (List Hop)) → length (forget_announcer p m) ≡ count (λ e. not (is_empty (without_announcer p e.value))) m
unfolding forget_announcer count
forget-length p [] = refl
forget-length p (e ∷ m) = cases (is_empty (without_announcer p e.value)) (λ q. rw q (forget-length p m)) (λ q. rw q (ap suc (forget-length p m)))

pub down-sizes : (p : ℕ) (r : Run) → ascending (keys r.state.links) ≡ true → sizes_of (on_neighbor_down p r).state ≡ down_sizes p r.state
unfolding on_neighbor_down forget_peer forget_grafted link_down without_notes sizes_of down_sizes content_held
down-sizes p r h =
    rw (
      length-remove p r.state.links h,
      forget-length p r.state.missing,
      length-filter (λ n. not (for_peer p n)) r.state.queue,
      length-filter (λ n. not (for_peer p n)) r.state.dropped,
      length-map r.state.grafted.entries (without_graft p),
    ) refl

pub down-actions : (p : ℕ) (r : Run) → (on_neighbor_down p r).actions ≡ r.actions
unfolding on_neighbor_down
down-actions p r = refl

-- EvictCache

pub evict-actions : (now : ℕ) (r : Run) → (on_evict_cache_timer now r).actions ≡ r.actions ++ evict_actions now r.state
unfolding on_evict_cache_timer act evict_actions forgotten_actions
evict-actions now r = append_assoc r.actions (forgotten_actions now r.state) (Scheduled r.state.settings.cache_evict_interval EvictCache ∷ [])

-- dispatch timer

pub dispatch-actions : (r : Run) → (schedule_dispatch r).actions ≡ r.actions ++ dispatch_action r.state
unfolding schedule_dispatch act dispatch_action
dispatch-actions r =
    if-on (λ (x : Run). x.actions) r.state.timers.dispatch _ _ ∙ if-both r.state.timers.dispatch (sym (append-nil r.actions)) refl
    ∙ sym (if-on (λ (xs : List Action). r.actions ++ xs) r.state.timers.dispatch [] (Scheduled r.state.settings.dispatch_timeout DispatchLazyPush ∷ []))

-- `schedule_dispatch` changes the flag only
pub dispatch-state : (r : Run) → (schedule_dispatch r).state ≡ (if r.state.timers.dispatch then r.state else with_dispatch_scheduled true r.state)
unfolding schedule_dispatch act
dispatch-state r = if-on (λ (x : Run). x.state) r.state.timers.dispatch _ _

pub dispatch-rooms : (r : Run) → (schedule_dispatch r).rooms ≡ r.rooms
unfolding schedule_dispatch act
dispatch-rooms r = if-on (λ (x : Run). x.rooms) r.state.timers.dispatch _ _ ∙ if-same r.state.timers.dispatch refl refl

sizes-flag : (f : Bool) (s : State) → sizes_of (with_dispatch_scheduled f s) ≡ sizes_of s
unfolding sizes_of content_held
sizes-flag f s = refl

pub dispatch-sizes : (r : Run) → sizes_of (schedule_dispatch r).state ≡ sizes_of r.state
dispatch-sizes r =
    ap sizes_of (dispatch-state r) ∙ if-on sizes_of r.state.timers.dispatch r.state (with_dispatch_scheduled true r.state) ∙ if-same r.state.timers.dispatch refl (sizes-flag true r.state)
