-- `send_graft_sizes` meets its contract: the mark gone, and where the message is not received what asking leaves.
use Rattle.announcements.proofs.Words.{arith, sym, ◌∙◌, ◌-◌, eqb, id_of, get, settled, sizes_value, shown}
use mir.Val.{bool_byte}
use Rattle.block.proofs.CachesLaws.GraftedLaws.{count-grafted, count-grafted-rows}
use Rattle.steps.specs.Settled.Then.{no_grafted}
use Rattle.announcements.proofs.OnSendGraftTimerLaws.{entry-there, entry-gone, marks-fewer, marks-left, missing-fewer, missing-left, sized-received, sized-nobody, sized-there, sized-new, sized-few}
use Rattle.announcements.proofs.on_send_graft_timer.send_graft_sizes.Goals as goal

pub overflow_sub-sizes : goal.overflow_sub-sizes
overflow_sub-sizes c =
    marks-fewer c.args.call.now.instant.0 (id_of c.args.id) (shown c.args.view.now) c.requires c.sizes_then-sizes.result c.sizes_then-sizes.ensures c.has_timer.result c.has_timer.ensures

pub returns-then-is_received_then : goal.returns-then-is_received_then
returns-then-is_received_then c =
    let s = shown c.args.view.now in
    let now = c.args.call.now.instant.0 in
    let i = id_of c.args.id in
    let z = c.sizes_then-sizes.result in
    let w = c.sizes_then-sizes.ensures in
    sized-received now i s c.requires (z.timers - bool_byte c.has_timer.result) (marks-left now i s c.requires z w c.has_timer.result c.has_timer.ensures) (sizes_value z) w
    (sym c.is_received_then.ensures ∙ c.if-is_received_then.true)

pub returns-in_default : goal.returns-in_default
returns-in_default c =
    let s = shown c.args.view.now in
    let now = c.args.call.now.instant.0 in
    let i = id_of c.args.id in
    let z = c.sizes_then-sizes.result in
    let w = c.sizes_then-sizes.ensures in
    sized-nobody now i s c.requires (z.timers - bool_byte c.has_timer.result) (marks-left now i s c.requires z w c.has_timer.result c.has_timer.ensures)
    (sym c.is_received_then.ensures ∙ c.if-is_received_then.false) (sizes_value z) w c.in_default.ensures

pub overflow_sub-sizes-2 : goal.overflow_sub-sizes-2
overflow_sub-sizes-2 c =
    missing-fewer c.args.call.now.instant.0 (id_of c.args.id) (shown c.args.view.now) c.requires c.sizes_then-sizes.result c.sizes_then-sizes.ensures c.in-Some.entry (eqb c.announcer_count.result 1) c.in-Some.ensures.below

pub returns-then-is_some : goal.returns-then-is_some
returns-then-is_some c =
    let s = shown c.args.view.now in
    let now = c.args.call.now.instant.0 in
    let i = id_of c.args.id in
    let z = c.sizes_then-sizes.result in
    let w = c.sizes_then-sizes.ensures in
    let n = c.announcer_count.result in
    sized-there now i s c.requires (z.timers - bool_byte c.has_timer.result) (marks-left now i s c.requires z w c.has_timer.result c.has_timer.ensures)
    (sym c.is_received_then.ensures ∙ c.if-is_received_then.false) c.in-Some.entry (z.missing - bool_byte (eqb n 1)) c.in-Some.ensures
    (missing-left now i s c.requires z w c.in-Some.entry n c.in-Some.ensures.below c.announcer_count.ensures.0) (sizes_value z) w
    (entry-there no_grafted s.grafted.entries i (get i (settled now s).grafted) c.grafted_entry_then.result c.grafted_entry_then.ensures (sym c.is_some.ensures ∙ c.if-is_some.true))

pub overflow_add-sizes : goal.overflow_add-sizes
overflow_add-sizes c =
    let v = c.args.view.now in
    let fit = v.sound.fit in
    omega (arith, (sized-few c.args.call.now.instant.0 (id_of c.args.id) (shown v) c.requires c.sizes_then-sizes.result c.sizes_then-sizes.ensures).0, count-grafted v.head.now v.block.now fit, fit.within.grafted, fit.ceilings.G)

pub overflow_add-sizes-2 : goal.overflow_add-sizes-2
overflow_add-sizes-2 c =
    let v = c.args.view.now in
    let fit = v.sound.fit in
    omega (arith, (sized-few c.args.call.now.instant.0 (id_of c.args.id) (shown v) c.requires c.sizes_then-sizes.result c.sizes_then-sizes.ensures).1, count-grafted-rows v.head.now v.block.now fit, fit.within.grafted_rows, fit.ceilings.G)

pub returns : goal.returns
returns c =
    let s = shown c.args.view.now in
    let now = c.args.call.now.instant.0 in
    let i = id_of c.args.id in
    let z = c.sizes_then-sizes.result in
    let w = c.sizes_then-sizes.ensures in
    let n = c.announcer_count.result in
    sized-new now i s c.requires (z.timers - bool_byte c.has_timer.result) (marks-left now i s c.requires z w c.has_timer.result c.has_timer.ensures)
    (sym c.is_received_then.ensures ∙ c.if-is_received_then.false) c.in-Some.entry (z.missing - bool_byte (eqb n 1)) c.in-Some.ensures
    (missing-left now i s c.requires z w c.in-Some.entry n c.in-Some.ensures.below c.announcer_count.ensures.0) (sizes_value z) w
    (entry-gone no_grafted s.grafted.entries i (get i (settled now s).grafted) c.grafted_entry_then.result c.grafted_entry_then.ensures (sym c.is_some.ensures ∙ c.if-is_some.false))
