-- A lazy push.
-- Assumes nothing.
use Rattle.std.specs.Prelude.{ℕ, Bool, not, ◌&&◌, eqb}
use Rattle.storage.specs.Lists.Map.{Entry}
use Rattle.protocol.specs.Links.{Mark, is_eager}

-- "Lazy push skips only the sender": a lazy link, of another peer
abbrev pub lazy_target : ℕ → Entry Mark → Bool
lazy_target sender e = not (is_eager e.value) && not (eqb e.key sender)
