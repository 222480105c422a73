-- `StillCached::none` meets its contract: of no row nothing is cached.
use Rattle.announcements.proofs.Words.{refl}
use Rattle.announcements.proofs.OnAnnounceDroppedTimerLaws.{none-cached}
use Rattle.announcements.proofs.on_announce_dropped_timer.StillCached.none.Goals as goal

pub returns : goal.returns
returns c s none = none-cached s _ none refl refl
