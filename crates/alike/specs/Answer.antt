-- The answer of *Alike*.
-- Assumes nothing.
use Rattle.std.specs.Prelude.{Bool, Option, Some, None}
use Rattle.protocol.specs.Alike.{Likeness, not_whole, likeness}

-- "5 for either", or yes or no
abbrev pub answered : Option Bool → Likeness
answered None = not_whole
answered (Some b) = likeness b
