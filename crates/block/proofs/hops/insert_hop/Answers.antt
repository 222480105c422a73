-- `note::insert_hop` meets its contract: the moves and the stores are one put of the list with a number more.
use Rattle.block.proofs.GraftsLaws.ListWrites.{write-insert}
use Rattle.std.proofs.Common.{arith}
use Rattle.block.proofs.hops.insert_hop.Goals as goal

pub returns : goal.returns
returns c =
    let k = c.count-k in
    let a = c.args in
    write-insert a.block.now c.move_up.new.bytes c.move_up-2.new.bytes c.store_le.new.bytes a.at k.result a.j a.hop.link a.hop.round.0
    k.ensures.0 (omega (arith, c.requires.0, k.ensures.0)) (omega (arith, c.requires.1, k.ensures.0)) c.requires.3 c.move_up.ensures c.move_up-2.ensures c.store_le.ensures
