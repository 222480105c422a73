-- The four changes one after the other.
use Rattle.block.proofs.Words.{◌≡◌, ap, ℕ, ◌-◌, get_or, arith, Range, Limits}
use Rattle.block.specs.Layout.{sizes, place, end}
use Rattle.block.specs.View.{limits_of}
use Rattle.block.proofs.NeighboursLaws.LowerSteps.{third-asks, fourth-asks, all-steps}
use Rattle.block.proofs.renumber.lower.lower_links.Goals as goal
use Rattle.block.proofs.renumber.lower.lower_links.Goals.{After-span-record_rows}

-- where queue and record stand, and in these their rows
module _ (d : After-span-record_rows) where
  abbrev l : Limits
  l = limits_of d.args.head.now.limits

  queue : d.start-queue.result ≡ place l 11
  queue = d.start-queue.ensures l d.requires.layout

  record-start : d.start-record.result ≡ place l 13
  record-start = d.start-record.ensures l d.requires.layout

  record-end : d.span-record_rows.result.end ≡ end l
  record-end = omega (arith, ap (λ (r : Range ℕ). r.end) (d.span-record_rows.ensures l d.requires.layout))

  queue-rows : d.start-queue_rows.result - d.start-queue.result ≡ get_or (sizes l) 11 0
  queue-rows = omega (arith, queue, d.start-queue_rows.ensures l d.requires.layout)

  record-rows : d.span-record_rows.result.start - d.start-record.result ≡ get_or (sizes l) 13 0
  record-rows = omega (arith, record-start, ap (λ (r : Range ℕ). r.start) (d.span-record_rows.ensures l d.requires.layout))

pub drop_in_rows-requires : goal.drop_in_rows-requires
drop_in_rows-requires c =
    let d = (goal.at.drop_in_rows-requires c).After-span-record_rows in
    let a = c.args in
    let n1 = c.drop_notes-head in
    let n2 = c.drop_notes-head-2 in
    let asks = third-asks a.head.now a.block.now c.requires.sound.0 c.requires.sound.1 a.i c.requires.there _ (queue d) (record-start d) n1.new.bytes n1.result _ n1.auto.bytes (queue-rows d) n1.ensures
    _ (record-start d) (record-end d) n2.new.bytes n2.result _ n2.auto.bytes (record-rows d) n2.ensures _ (c.span.ensures _ c.requires.layout) in
    (omega arith, asks.0, asks.1)

pub drop_announcers-head-requires : goal.drop_announcers-head-requires
drop_announcers-head-requires c =
    let d = (goal.at.drop_announcers-head-requires c).After-span-record_rows in
    let a = c.args in
    let n1 = c.drop_notes-head in
    let n2 = c.drop_notes-head-2 in
    let n3 = c.drop_in_rows in
    fourth-asks a.head.now a.block.now c.requires.sound.0 c.requires.sound.1 a.i c.requires.there _ (queue d) (record-start d) n1.new.bytes n1.result _ n1.auto.bytes (queue-rows d) n1.ensures
    _ (record-start d) (record-end d) n2.new.bytes n2.result _ n2.auto.bytes (record-rows d) n2.ensures _ (c.span.ensures _ c.requires.layout) n3.new.bytes n3.auto.bytes n3.ensures _ (c.span-2.ensures _ c.requires.layout)

pub returns : goal.returns
returns c =
    let d = (goal.at.returns c).After-span-record_rows in
    let a = c.args in
    let n1 = c.drop_notes-head in
    let n2 = c.drop_notes-head-2 in
    let n3 = c.drop_in_rows in
    let n4 = c.drop_announcers-head in
    all-steps a.head.now a.block.now c.requires.sound.0 c.requires.sound.1 a.i c.requires.there _ (queue d) (record-start d) n1.new.bytes n1.result _ n1.auto.bytes (queue-rows d) n1.ensures
    _ (record-start d) (record-end d) n2.new.bytes n2.result _ n2.auto.bytes (record-rows d) n2.ensures _ (c.span.ensures _ c.requires.layout) n3.new.bytes n3.auto.bytes n3.ensures _ (c.span-2.ensures _ c.requires.layout)
    n4.new.bytes n4.result n4.auto.bytes n4.ensures
