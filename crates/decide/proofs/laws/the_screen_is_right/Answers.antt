use Rattle.decide.proofs.ScreenRight.{screen-right}
use Rattle.decide.proofs.laws.the_screen_is_right.Goals as goal

pub returns : goal.returns
returns c = screen-right
