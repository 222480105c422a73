-- `rows_fit`: a division tells what a product, which might not fit, would.
use Rattle.std.proofs.Common.{◌+◌, ◌*◌, ◌-◌, ◌/◌, ◌≤◌, arith, leb, le-div_iff_mul-le}
use Rattle.std.proofs.lemmas.Bool.{leb-true, leb-false}
use Rattle.exports.proofs.TimeCacheCLaws.Tested.{told_as}
use Rattle.exports.proofs.time_cache_c.rows_fit.Goals as goal

pub returns-then-rows-end : goal.returns-then-rows-end
returns-then-rows-end c =
    let rows = c.args.rows in
    let most = (c.args.end - rows.at) / rows.stride in
    told_as (rows.at + rows.len * rows.stride ≤ c.args.end) (leb rows.len most)
    (λ e. omega (arith, (le-div_iff_mul-le c.requires).0 (leb-true rows.len most e), c.if-rows-end.true))
    (λ e h.
    let fits : rows.len * rows.stride ≤ c.args.end - rows.at = omega (arith, h) in
    omega (arith, (le-div_iff_mul-le c.requires).1 fits, leb-false rows.len most e))
