-- `start`: the panel has had no call; its creation is not refused.
use Rattle.std.proofs.Common.{refl}
use Rattle.protocol.specs.Panel.{panel_settings, panel_limits}
use Rattle.panel.proofs.Streams.{started-new, never_refused}
use Rattle.panel.proofs.stream.start.Goals as goal

pub returns : goal.returns
unfolding panel_settings panel_limits
returns c = started-new c.in-Ok.ensures.begins refl refl

pub unreachable-requires : goal.unreachable-requires
unfolding panel_settings panel_limits
unreachable-requires c = never_refused _ _ _ _ refl refl c.told-block c.in-Err.ensures.refused
