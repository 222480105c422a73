-- What a view shows, and its links one after the other.
-- Assumes nothing.
use Rattle.std.specs.Prelude.{ℕ, suc, List, [], ◌∷◌, drop}
use Rattle.storage.specs.Lists.Map.{Entry}
use Rattle.protocol.specs.Links.{Mark, Links, is_eager}
use Rattle.protocol.specs.State.{State}
use Rattle.block.specs.View.{state_of}
use Rattle.block.specs.declared.panel.View.{View}
use Rattle.block.specs.declared.links.NumberedLink.{NumberedLink}
use Rattle.block.specs.declared.links.LinkIter.{LinkIter}

-- the state that a view shows
abbrev pub shown : View → State
shown v = state_of v.head.now v.block.now

-- a link with its number
abbrev pub numbered_link : ℕ → Entry Mark → NumberedLink
numbered_link i e = record { number = i; peer = e.key; eager = is_eager e.value }

-- links, numbered from i on
unfoldable pub links_from : ℕ → Links → List NumberedLink
links_from i [] = []
links_from i (e ∷ l) = numbered_link i e ∷ links_from (suc i) l

-- what an iterator has left
unfoldable pub links_left : LinkIter → List NumberedLink
links_left it = links_from it.next (drop it.next (shown it.view).links)
