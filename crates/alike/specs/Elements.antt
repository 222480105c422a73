-- The lists of a state that are compared element by element, as lists of one kind of element: an expiry entry is a time and an identifier, an announcer or
-- a grafted peer a peer and a round.
-- Assumes nothing.
use Rattle.std.specs.Prelude.{ℕ, ◌<◌, Bool, ◌&&◌, List, map, eqb, length}
use Rattle.storage.specs.Lists.Map.{Entry}
use Rattle.storage.specs.Rows.Ident.{id_of}
use Rattle.time_cache.specs.TimeCache.{Expiry}
use Rattle.protocol.specs.State.{State, Hop}
use Rattle.block.specs.MissingSteps.{hops_at}
use Rattle.block.specs.Caches.GraftSteps.{grafts_at}
use Rattle.alike.specs.declared.sequences.Sequence.{Sequence}
use Rattle.alike.specs.declared.sequences.Sequence.TheVariants.{ReceivedExpiry, GraftedExpiry, CachedExpiry, Announcers, GraftedPeers}
use Rattle.alike.specs.declared.sequences.Item.{Item}

-- an element: a time or a peer, an identifier, a round; 0 for what it has not
pub record Element : Type 0 where
  pub a : ℕ
  pub id : ℕ
  pub b : ℕ

-- the same, made of its three numbers
abbrev pub element : ℕ → ℕ → ℕ → Element
element a i b = record { a = a; id = i; b = b }

-- the three numbers agree
unfoldable pub same_element : Element → Element → Bool
same_element x y = eqb x.a y.a && eqb x.id y.id && eqb x.b y.b

-- an expiry entry
abbrev pub expiry_element : Expiry → Element
expiry_element x = element x.time x.key 0

-- an announcer
abbrev pub hop_element : Hop → Element
hop_element h = element h.peer 0 h.round

-- a grafted peer
abbrev pub graft_element : Entry ℕ → Element
graft_element e = element e.key 0 e.value

-- what the code's item stands for
abbrev pub element_of : Item → Element
element_of i = element i.a (id_of i.id) i.b

-- the elements of one of the lists
abbrev pub sequence_of : Sequence → State → List Element
sequence_of ReceivedExpiry s = map expiry_element s.received.expiry
sequence_of GraftedExpiry s = map expiry_element s.grafted.expiry
sequence_of CachedExpiry s = map expiry_element s.cache.expiry
sequence_of (Announcers i) s = map hop_element (hops_at s i)
sequence_of (GraftedPeers i) s = map graft_element (grafts_at s i).peers

-- there is such a list
abbrev pub InState : Sequence → State → Type 0
InState ReceivedExpiry s = Unit {0}
InState GraftedExpiry s = Unit {0}
InState CachedExpiry s = Unit {0}
InState (Announcers i) s = i < length s.missing
InState (GraftedPeers i) s = i < length s.grafted.entries
