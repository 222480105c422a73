use Rattle.std.proofs.lemmas.List.{take_rest}
use Rattle.panel.proofs.Written.{fronts-none, fronts-write}
use Rattle.panel.proofs.writing.write_on.Goals as goal

pub writes-init : goal.writes-init
writes-init g c = fronts-none _ c.args.bytes.now

pub writes-preserved : goal.writes-preserved
writes-preserved g c = fronts-write c.in_ok-n.n c.writes.invariant c.in_ok-n.ensures.bytes (take_rest c.writes.rest.now c.in_ok-n.n)
