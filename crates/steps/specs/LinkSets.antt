-- Sets of links, by their numbers.
-- Assumes nothing.
use Rattle.std.specs.Prelude.{ℕ, zero, suc, ◌/◌, ◌%◌, ◌^◌, ◌<◌, Bool, List, [], ◌∷◌, ◌++◌, eqb, if◌then◌else◌}
use Rattle.steps.specs.declared.link_set.LinkSet.{LinkSet}

-- a link is in it
unfoldable pub has_link : LinkSet → ℕ → Bool
has_link set l = eqb (set.0 / 2 ^ l % 2) 1

-- those of the first n links that are in it, ascending
unfoldable pub links_below : LinkSet → ℕ → List ℕ
links_below set zero = []
links_below set (suc n) = links_below set n ++ (if has_link set n then n ∷ [] else [])

-- those that are in it
abbrev pub links_of : LinkSet → List ℕ
links_of set = links_below set 32

-- none from this one on is in it
abbrev pub AllBelow : LinkSet → ℕ → Type 0
AllBelow set n = set.0 < 2 ^ n
