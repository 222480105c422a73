-- `in_order`: the first i times rise, and the last of them is `last`.
use Rattle.std.proofs.Common.{◌≡◌, sym, ◌∙◌, map, ◌+◌, ◌*◌, ◌≤◌, get_or, arith}
use Rattle.storage.proofs.RowsLaws.Rows.{row-end}
use Rattle.time_cache.specs.Tables.{expiry_rows, expiry_of, no_expiry}
use Rattle.time_cache.proofs.Orders.{of_rising, not-rising}
use Rattle.time_cache.proofs.ExpiryLaws.{length-expiries, expiry-time, rising-more, rising-done, rising-not}
use Rattle.time_cache.proofs.expiry.in_order.Goals as goal
use Rattle.time_cache.proofs.expiry.in_order.Goals.{After-load-time, In-loop-i}

-- the row that is read lies in the slice
room : (c : In-loop-i)
    → c.loop-i.i * c.args.stride + c.args.stride
    ≤ c.args.row_count * c.args.stride
room c = row-end c.args.stride c.args.row_count c.loop-i.i c.loop-i-test.true

-- the time that was read
was : (c : After-load-time)
    → c.load-time.result ≡ (get_or (map expiry_of (expiry_rows c.args.stride c.args.row_count c.args.bytes.now)) c.loop-i.i no_expiry).time
was c =
    c.load-time.ensures ∙ sym (expiry-time c.args.stride c.args.row_count c.loop-i.i c.args.bytes.now c.requires.0 c.loop-i-test.true)

pub returns-then-time-last : goal.returns-then-time-last
returns-then-time-last c =
    let l = c.loop-i in
    let a = c.args in
    let xs = map expiry_of (expiry_rows a.stride a.row_count a.bytes.now) in
    not-rising xs (rising-not xs l.last l.i c.load-time.result l.invariant (omega (arith, length-expiries a.stride a.row_count a.bytes.now, c.loop-i-test.true)) (was (goal.at.returns-then-time-last c).After-load-time) c.if-time-last.true)

pub loop-i-preserved : goal.loop-i-preserved
loop-i-preserved c =
    let l = c.loop-i in
    let a = c.args in
    rising-more (map expiry_of (expiry_rows a.stride a.row_count a.bytes.now)) l.last l.i c.load-time.result l.invariant (was (goal.at.loop-i-preserved c).After-load-time) (omega arith)

pub returns : goal.returns
returns c =
    let l = c.loop-i in
    let a = c.args in
    let xs = map expiry_of (expiry_rows a.stride a.row_count a.bytes.now) in
    sym (of_rising xs (rising-done xs l.last l.i l.invariant (omega (arith, length-expiries a.stride a.row_count a.bytes.now, c.loop-i-test.false))))
