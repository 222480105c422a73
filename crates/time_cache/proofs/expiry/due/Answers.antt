-- `due`: the cut lies between lo and hi. The measure is hi - lo.
use Rattle.std.proofs.Common.{◌≡◌, sym, ◌∙◌, map, ◌+◌, ◌-◌, ◌*◌, ◌/◌, ◌≤◌, ◌<◌, get_or, arith}
use Rattle.storage.proofs.RowsLaws.Rows.{row-end}
use Rattle.time_cache.specs.Tables.{expiry_rows, expiry_of, no_expiry}
use Rattle.time_cache.proofs.Orders.{rising-of}
use Rattle.time_cache.proofs.ExpiryLaws.{length-expiries, expiry-time, around-start, around-up, around-down, around-done}
use Rattle.time_cache.proofs.expiry.due.Goals as goal
use Rattle.time_cache.proofs.expiry.due.Goals.{After-load-t, In-loop-lo}

-- the row in the middle lies in the slice
inside : (c : In-loop-lo)
    → (c.loop-lo.lo + (c.loop-lo.hi - c.loop-lo.lo) / 2 < c.loop-lo.hi)
    × (c.loop-lo.lo + (c.loop-lo.hi - c.loop-lo.lo) / 2 < c.args.row_count)
inside c =
    let a = c.args in
    let l = c.loop-lo in
    (omega arith, omega (arith, l.invariant.hi-end, length-expiries a.stride a.row_count a.bytes.now))

room : (c : In-loop-lo)
    → (c.loop-lo.lo + (c.loop-lo.hi - c.loop-lo.lo) / 2) * c.args.stride + c.args.stride
    ≤ c.args.row_count * c.args.stride
room c =
    let a = c.args in
    let l = c.loop-lo in
    row-end a.stride a.row_count (l.lo + (l.hi - l.lo) / 2) (inside c).1

-- the time that was read
was : (c : After-load-t)
    → c.load-t.result ≡ (get_or (map expiry_of (expiry_rows c.args.stride c.args.row_count c.args.bytes.now)) (c.loop-lo.lo + (c.loop-lo.hi - c.loop-lo.lo) / 2) no_expiry).time
was c =
    let l = c.loop-lo in
    c.load-t.ensures ∙ sym (expiry-time c.args.stride c.args.row_count (l.lo + (l.hi - l.lo) / 2) c.args.bytes.now c.requires.0 (inside (goal.at.After-load-t c).In-loop-lo).1)

pub loop-lo-init : goal.loop-lo-init
loop-lo-init c =
    let a = c.args in
    around-start (map expiry_of (expiry_rows a.stride a.row_count a.bytes.now)) a.time.0 a.row_count (length-expiries a.stride a.row_count a.bytes.now)

pub overflow_mul-mid : goal.overflow_mul-mid
overflow_mul-mid c = omega (arith, room c)

pub load-t-requires : goal.load-t-requires
load-t-requires c = omega (arith, room c)

pub loop-lo-preserved-then-t-time : goal.loop-lo-preserved-then-t-time
loop-lo-preserved-then-t-time c =
    let l = c.loop-lo in
    let xs = map expiry_of (expiry_rows c.args.stride c.args.row_count c.args.bytes.now) in
    around-up xs c.args.time.0 l.lo l.hi (l.lo + (l.hi - l.lo) / 2) (rising-of xs c.requires.2) l.invariant (omega arith) (inside (goal.at.loop-lo-preserved-then-t-time c).In-loop-lo).0
    (omega (arith, was (goal.at.loop-lo-preserved-then-t-time c).After-load-t, c.if-t-time.true))

pub loop-lo-preserved : goal.loop-lo-preserved
loop-lo-preserved c =
    let l = c.loop-lo in
    let xs = map expiry_of (expiry_rows c.args.stride c.args.row_count c.args.bytes.now) in
    around-down xs c.args.time.0 l.lo l.hi (l.lo + (l.hi - l.lo) / 2) (rising-of xs c.requires.2) l.invariant (omega arith) (inside (goal.at.loop-lo-preserved c).In-loop-lo).0
    (omega (arith, was (goal.at.loop-lo-preserved c).After-load-t, c.if-t-time.false))

pub returns : goal.returns
returns c =
    let l = c.loop-lo in
    let a = c.args in
    around-done (map expiry_of (expiry_rows a.stride a.row_count a.bytes.now)) a.time.0 l.lo l.hi l.invariant c.loop-lo-test.false
