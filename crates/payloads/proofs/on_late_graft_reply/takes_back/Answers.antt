use Rattle.payloads.proofs.Words.{◌∙◌, arith, shown, links-few}
use Rattle.payloads.proofs.OnLateGraftReplyLaws.{taken-link, taken-stranger}
use Rattle.payloads.proofs.on_late_graft_reply.takes_back.Goals as goal

pub takes-requires : goal.takes-requires
takes-requires c = let v = c.args.view.now in omega (arith, c.in-Some.ensures.below, links-few v.head.now v.block.now v.sound)

pub returns-in-Some : goal.returns-in-Some
returns-in-Some c = c.takes.ensures ∙ taken-link c.args.call.now (shown c.args.view.now) c.requires.0.consistent.core.links_up c.args.peer c.in-Some.link c.in-Some.ensures

pub returns-in-None : goal.returns-in-None
returns-in-None c = c.takes_stranger.ensures ∙ taken-stranger c.args.call.now (shown c.args.view.now) c.requires.0.consistent.core.links_up c.args.peer c.in-None.ensures c.requires.1
