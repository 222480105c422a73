-- `keeps_sizes`: the steps that are left add nothing.
use Rattle.machine.proofs.StepLaws.{others-sized}
use Rattle.machine.proofs.event.keeps_sizes.Goals as goal

pub returns-in_default : goal.returns-in_default
returns-in_default c =
    let d = c.in_default in
    λ h call s x. others-sized s x call c.args.step.now d.not-NewSwarm d.not-Graft d.not-IHave d.not-Broadcast d.not-SendGraft d.not-DispatchLazyPush d.not-EvictCache d.not-AnnounceDropped
