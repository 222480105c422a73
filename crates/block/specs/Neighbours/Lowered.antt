-- The tables and the whole block after link i went: its number is dropped wherever it stands, and those above it are one lower.
-- Assumes nothing.
use Rattle.std.specs.Prelude.{◌≡◌, Bool, not, List, ◌++◌, map, ℕ, ◌+◌, ◌-◌, ◌*◌, suc, ◌≤◌, ◌<◌, eqb, length, take, drop, get_or}
use Rattle.storage.specs.Lists.Map.{keys}
use Rattle.storage.specs.Rows.Part.{part, put}
use Rattle.storage.specs.Rows.Rows.{rows}
use Rattle.storage.specs.Refs.Refs.{Ref, ref}
use Rattle.protocol.specs.State.{State, with_missing, with_queue, with_dropped, with_grafted}
use Rattle.protocol.specs.Neighbours.{forget_announcer, without_notes, forget_grafted}
use Rattle.block.specs.Layout.{tables}
use Rattle.block.specs.View.{byte_at, hops_in, limits_of, view_with, state_of}
use Rattle.storage.specs.Refs.Numbers.{lower_all}
use Rattle.block.specs.Fit.{Fit}
use Rattle.block.specs.Sound.{Laid}
use Rattle.block.specs.Heads.{with_link_count}
use Rattle.block.specs.declared.head.Head.{Head}

-- peers without the one at i
abbrev pub without_peer : ℕ → List ℕ → List ℕ
without_peer i ps = take i ps ++ drop (suc i) ps

-- a row that ends with a list: what stands before the list, how many the list has, and its numbers with their rounds
pub record Listed : Type 0 where
  pub head : List ℕ
  pub count : ℕ
  pub hops : List Ref

-- the list of the row stands at o
unfoldable pub listed_of : ℕ → List ℕ → Listed
listed_of o row = record { head = take o row; count = byte_at o row; hops = hops_in ref (drop o row) }

-- n rows of s bytes
unfoldable pub listed : ℕ → ℕ → ℕ → List ℕ → List Listed
listed o s n bytes = map (listed_of o) (rows s n bytes)

-- the row after link i went
abbrev pub lower_listed : ℕ → Listed → Listed
lower_listed i r = record { head = r.head; count = length (lower_all i r.hops); hops = lower_all i r.hops }

-- the list of the row is not empty
abbrev pub has_announcers : Listed → Bool
has_announcers r = not (eqb r.count 0)

-- the lists at o of n rows of s bytes have at most 32 each
pub record AllFew (o s n : ℕ) (bytes : List ℕ) : Type 0 where
  pub each : (j : ℕ) → j < n → get_or bytes (j * s + o) 0 ≤ 32

-- the numbers from a to b are other ones than i
pub record NoneFrom (i a b : ℕ) (numbers : List ℕ) : Type 0 where
  pub other : (k : ℕ) → a ≤ k → k < b → get_or numbers k 0 ≡ i → ⊥

-- each of the first n missing messages has an announcer
pub record Announced (n : ℕ) (bytes : List ℕ) : Type 0 where
  pub some : (k : ℕ) → k < n → get_or bytes (k * 129 + 32) 0 ≡ 0 → ⊥

-- the m notes from j on, numbers at the start and rows at a, put where those from `to` on stand
unfoldable pub moved_notes : ℕ → ℕ → ℕ → ℕ → List ℕ → List ℕ
moved_notes a j to m bytes = put to (part j m bytes) (put (a + to * 34) (part (a + j * 34) (m * 34) bytes) bytes)

-- without a peer's announcements, notes and grafts; the links are as they were
abbrev pub without_traces : ℕ → State → State
without_traces p s =
    with_grafted (forget_grafted p s.grafted)
    (with_dropped (without_notes p s.dropped)
    (with_queue (without_notes p s.queue)
    (with_missing (forget_announcer p s.missing) s)))

-- the link numbers of the whole block are lowered: without the peer at i they stand for what they stood for, where its traces are gone, and they are below
-- one link less
pub record LoweredLinks (i : ℕ) (h : Head) (xs : List ℕ) (r : Head) (ys : List ℕ) : Type 0 where
  pub same : view_with (without_peer i (keys (state_of h xs).links)) r (tables (limits_of r.limits) ys) ≡ without_traces (get_or (keys (state_of h xs).links) i 0) (state_of h xs)
  pub links : r.live.links ≡ h.live.links
  pub fit : Fit r ys
  pub laid : Laid (with_link_count (r.live.links - 1) r) (tables (limits_of r.limits) ys)
