-- `few_entries_limit_met`: the announcements are as few as the lists have room for; by what questions 10 to 13 find.
use Rattle.machine.proofs.Words.{◌∙◌, arith, ap, shown}
use Rattle.protocol.specs.State.{zero_counts}
use Rattle.machine.specs.Decided.{limit_found}
use Rattle.machine.proofs.KindsLaws.RowsLaws.{within-more}
use Rattle.machine.proofs.limit_met.few_entries_limit_met.Goals as goal

pub decide_ihave-requires : goal.decide_ihave-requires
decide_ihave-requires c = (omega arith, (omega arith, (c.requires.event.rest, ((c.announced-ihaves.ensures.few 8 c.requires.few, omega arith), (c.new-entries.ensures, c.new-order.ensures)))))

pub announced-ihaves-requires : goal.announced-ihaves-requires
announced-ihaves-requires c = within-more 8 124 c.args.event (omega arith) c.requires.few

pub returns : goal.returns
unfolding zero_counts
returns c = c.plan_limit.ensures c.args.call.now (shown c.args.view.now) ∙ ap limit_found c.event_plan.ensures.plan
