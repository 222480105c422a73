-- The four changes one after the other.
use Rattle.std.proofs.Common.{arith}
use Rattle.block.proofs.NeighboursLaws.RaiseSteps.{first-asks, second-asks, third-asks, fourth-asks, all-steps}
use Rattle.block.proofs.renumber.raise.raise_links.Goals as goal

pub raise_numbers-requires : goal.raise_numbers-requires
raise_numbers-requires c =
    let a = c.args in
    let q = c.start.ensures _ c.requires.sound.1 in
    (omega (arith, q, c.requires.sound.0), first-asks a.head.now a.block.now c.requires.sound.0 a.i c.requires.there _ q)

pub raise_numbers-requires-2 : goal.raise_numbers-requires-2
raise_numbers-requires-2 c =
    let a = c.args in
    let laid = c.requires.sound.1 in
    let n1 = c.raise_numbers in
    let r = c.start-2.ensures _ laid in
    (omega (arith, r, c.requires.sound.0, n1.auto.bytes), second-asks a.head.now a.block.now c.requires.sound.0 a.i c.requires.there _ (c.start.ensures _ laid) n1.new.bytes n1.ensures _ r)

pub raise_rows-requires : goal.raise_rows-requires
raise_rows-requires c =
    let a = c.args in
    let laid = c.requires.sound.1 in
    let n1 = c.raise_numbers in
    let n2 = c.raise_numbers-2 in
    let asks = third-asks a.head.now a.block.now c.requires.sound.0 a.i c.requires.there _ (c.start.ensures _ laid) n1.new.bytes n1.ensures _ (c.start-2.ensures _ laid) n2.new.bytes n2.ensures _ (c.span.ensures _ laid) in
    (omega arith, asks.0, asks.1)

pub raise_rows-requires-2 : goal.raise_rows-requires-2
raise_rows-requires-2 c =
    let a = c.args in
    let laid = c.requires.sound.1 in
    let n1 = c.raise_numbers in
    let n2 = c.raise_numbers-2 in
    let n3 = c.raise_rows in
    let asks = fourth-asks a.head.now a.block.now c.requires.sound.0 a.i c.requires.there _ (c.start.ensures _ laid) n1.new.bytes n1.ensures _ (c.start-2.ensures _ laid) n2.new.bytes n2.ensures _ (c.span.ensures _ laid) n3.new.bytes n3.auto.bytes n3.ensures _ (c.span-2.ensures _ laid) in
    (omega arith, asks.0, asks.1)

pub returns : goal.returns
returns c =
    let a = c.args in
    let laid = c.requires.sound.1 in
    let n1 = c.raise_numbers in
    let n2 = c.raise_numbers-2 in
    let n3 = c.raise_rows in
    let n4 = c.raise_rows-2 in
    all-steps a.head.now a.block.now c.requires.sound.0 a.i c.requires.there _ (c.start.ensures _ laid) n1.new.bytes n1.ensures _ (c.start-2.ensures _ laid) n2.new.bytes n2.ensures _ (c.span.ensures _ laid) n3.new.bytes n3.auto.bytes n3.ensures _ (c.span-2.ensures _ laid)
    n4.new.bytes n4.auto.bytes n4.ensures
