-- `may_hand_back` meets its contract.
use Rattle.announcements.proofs.Words.{arith, links-few}
use Rattle.announcements.proofs.on_dispatch_timer.noted.may_hand_back.Goals as goal

pub offset_bounds-call-link : goal.offset_bounds-call-link
offset_bounds-call-link c = let v = c.args.view.now in omega (arith, c.loop-link-test.true, c.link_count-link-end.ensures, links-few v.head.now v.block.now v.sound)

pub bounds-call-link : goal.bounds-call-link
bounds-call-link c = let v = c.args.view.now in omega (arith, c.loop-link-test.true, c.link_count-link-end.ensures, links-few v.head.now v.block.now v.sound)
