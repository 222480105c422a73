-- `ihaves`: the loop passes over the announcements one by one (`Passing`).
use Rattle.std.proofs.Common.{◌-◌, ◌+◌, arith}
use Rattle.std.proofs.lemmas.Result.{err_from_is_err_and}
use Rattle.wire.specs.Reader.Gives.{number_of}
use Rattle.postcard.specs.Values.{ihave_value}
use Rattle.wire.proofs.ReaderLaws.AnnouncedLaws.{got_there}
use Rattle.wire.proofs.ReaderLaws.IhaveLaws.{passing-more, passing-fault, passing-all}
use Rattle.wire.proofs.reader.Reader.ihaves.Goals as goal

pub returns-in_err-ihave : goal.returns-in_err-ihave
returns-in_err-ihave c =
    let p = err_from_is_err_and c.from_residual.result c.from_residual.ensures.1 in
    rw (p.1, p.2) (passing-fault c.args.self.now.rest.now c.loop.self.rest.now c.args.count (c.args.count - c.loop.counter) (number_of c.in_err-ihave.field-0.0) c.in_err-ihave.ensures (omega arith) c.loop.invariant)

pub loop-preserved : goal.loop-preserved
loop-preserved c =
    passing-more c.args.self.now.rest.now c.loop.self.rest.now c.ihave.new.self.rest.now c.args.count (c.args.count - c.loop.counter) (c.args.count - (c.loop.counter + 1)) (ihave_value c.in_ok-ihave.field-0)
    c.in_ok-ihave.ensures (omega arith) (omega arith) c.loop.invariant

pub returns : goal.returns
returns c = passing-all c.args.self.now.rest.now c.loop.self.rest.now c.args.count (c.args.count - c.loop.counter) (omega arith) c.loop.invariant

pub invariant_of-result : goal.invariant_of-result
invariant_of-result c =
    let p = passing-all c.args.self.now.rest.now c.loop.self.rest.now c.args.count (c.args.count - c.loop.counter) (omega arith) c.loop.invariant in
    record { there = got_there _ _ _ p }
