-- The tables and the whole block after a link came in at i: link numbers from i on are one higher.
-- Assumes nothing.
use Rattle.std.specs.Prelude.{◌≡◌, List, ◌∷◌, ◌++◌, ℕ, ◌+◌, take, drop}
use Rattle.storage.specs.Refs.Numbers.{raised}
use Rattle.storage.specs.Lists.Map.{keys}
use Rattle.block.specs.Layout.{tables}
use Rattle.block.specs.View.{byte_at, limits_of, view_with, state_of}
use Rattle.block.specs.Fit.{Fit}
use Rattle.block.specs.Sound.{Laid}
use Rattle.block.specs.Heads.{with_link_count}
use Rattle.block.specs.declared.head.Head.{Head}

-- the numbers of the list at o of a row
unfoldable pub raised_row : ℕ → ℕ → List ℕ → List ℕ
raised_row i o row = raised i (o + 1) (byte_at o row) row

-- peers, with p put in at i
abbrev pub with_peer : ℕ → ℕ → List ℕ → List ℕ
with_peer i p ps = take i ps ++ (p ∷ drop i ps)

-- the link numbers of the whole block are raised: with any peer put in at i they stand for the peers that they stood for, and they are
-- below one link more
pub record RaisedLinks (i : ℕ) (h : Head) (xs ys : List ℕ) : Type 0 where
  pub same : (p : ℕ) → view_with (with_peer i p (keys (state_of h xs).links)) h (tables (limits_of h.limits) ys) ≡ state_of h xs
  pub fit : Fit h ys
  pub laid : Laid (with_link_count (h.live.links + 1) h) (tables (limits_of h.limits) ys)
