-- The block that an accepted creation leaves is whole.
-- Assumes nothing.
use Rattle.std.specs.Prelude.{ℕ, ◌≡◌, ◌<◌, true, List}
use Rattle.block.specs.declared.head.Settings.{Settings}
use Rattle.block.specs.declared.head.Limits.{Limits}
use Rattle.whole.specs.Held.{whole_block}
use Rattle.whole.specs.Creation.{Creation}

-- with any settings and limits; the threshold has two bytes, as each that a caller can lend
abbrev pub CreationWhole : Type 0
CreationWhole = (c : Settings) (l : Limits) (before after : List ℕ) (answer : ℕ) → c.config.optimization_threshold.0 < 65536
    → Creation c l before after answer → answer ≡ 0 → whole_block after ≡ true
