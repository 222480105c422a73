-- `contents::shift_starts` meets its contract: the first i rows are done, the others are as they were.
use Rattle.block.proofs.Words.{◌≡◌, refl, sym, ap, ◌∙◌, subst, List, ℕ, ◌+◌, ◌-◌, ◌*◌, ◌≤◌, ◌<◌, arith, length, take, drop, part, loan-put, expiry_of, ExpiryRow, row_at, expiry_rows, length-expiry_rows, length-put, rest-stored}
use Rattle.std.proofs.Common.{length-drop, length-take-le}
use Rattle.storage.specs.Rows.Part.{part}
use Rattle.block.specs.Contents.Starts.{start_of, len_of, extent_in, with_rest}
use Rattle.block.proofs.ContentsLaws.RowsAdjoin.{Begun, begun-none, begun-more, begun-all, rest-start, rest-len}
use Rattle.block.proofs.ContentsLaws.Shifts.{rest-at}
use Rattle.block.proofs.caches.contents.shift_starts.Goals as goal
use Rattle.block.proofs.caches.contents.shift_starts.Goals.{After-load-start, Start}

-- the row that is read is as it was
module _ (c : After-load-start) where
  abbrev s : Start
  s = (goal.at.After-load-start c).Start

  abbrev n : ℕ
  n = s.args.n

  abbrev i : ℕ
  i = c.loop-i.i

  abbrev rs : List ExpiryRow
  rs = expiry_rows 48 n s.args.rows.now

  low : i < length rs
  low = omega (arith, c.loop-i-test.true, length-expiry_rows 48 n s.args.rows.now)

  room : n * 48 ≤ length c.loop-i.rows
  room = omega (arith, s.requires.0, c.loop-i.invariant.1)

  read : (c.load-start.result.start, c.load-start.result.len) ≡ extent_in (row_at rs i).rest
  unfolding part
  read =
      let at : i * 48 + 40 + 8 - (i * 48 + 40) ≡ 8 = omega arith in
      c.load-start.ensures
      ∙ (λ k. extent_in (take (at k) (drop (i * 48 + 40) c.loop-i.rows)))
      ∙ ap extent_in (sym (rest-at n i c.loop-i.rows c.loop-i-test.true room) ∙ ap (λ (x : ExpiryRow). x.rest) (c.loop-i.invariant.0.left i (omega arith)))

  start : c.load-start.result.start ≡ start_of (row_at rs i)
  start = ap (λ (p : ℕ × ℕ). p.0) read

pub loop-i-init : goal.loop-i-init
loop-i-init c = (begun-none c.args.shift.up c.args.shift.down (expiry_rows 48 c.args.n c.args.rows.now), refl)

pub overflow_sub-start : goal.overflow_sub-start
overflow_sub-start c =
    let d = (goal.at.overflow_sub-start c).After-load-start in
    omega (arith, start d, (s d).requires.2.above (i d) (low d))

pub overflow_cast-start-in-loop-i : goal.overflow_cast-start-in-loop-i
overflow_cast-start-in-loop-i c =
    let d = (goal.at.overflow_cast-start-in-loop-i c).After-load-start in
    omega (arith, start d, (s d).requires.2.below (i d) (low d))

pub loop-i-preserved : goal.loop-i-preserved
loop-i-preserved c =
    let d = (goal.at.loop-i-preserved c).After-load-start in
    let l = c.loop-i in
    let a = (s d).args in
    let h = c.loop-i-test.true in
    let zs : List ℕ = c.store.new.bytes in
    let at : ℕ = l.i * 48 + 40 in
    let k8 : length (take (at + 8 - at) (drop at l.rows)) ≡ at + 8 - at = length-take-le (at + 8 - at) (drop at l.rows) (omega (arith, h, room d, length-drop at l.rows)) in
    let long : length zs ≡ at + 8 - at = c.store.auto.bytes ∙ k8 in
    let l8 : length zs ≡ 8 = omega (arith, long) in
    let x : ExpiryRow = row_at (expiry_rows 48 a.n l.rows) l.i in
    let same : x ≡ row_at (rs d) l.i = l.invariant.0.left l.i (omega arith) in
    let back = loan-put at (at + 8 - at) zs l.rows long in
    let rows = ap (expiry_rows 48 a.n) back ∙ rest-stored 48 a.n l.i 0 zs l.rows (omega (arith, l8)) h (room d) in
    let start-new : start_of (with_rest zs x) + a.shift.down ≡ start_of (row_at (rs d) l.i) + a.shift.up = omega (arith, rest-start zs l8 _ _ c.store.ensures x, start d, (s d).requires.2.above l.i (low d)) in
    let len-new : len_of (with_rest zs x) ≡ len_of (row_at (rs d) l.i) = rest-len zs l8 _ _ c.store.ensures x ∙ ap (λ (p : ℕ × ℕ). p.1) (read d) in (
      subst (Begun a.shift.up a.shift.down (rs d) (l.i + 1)) (sym rows) (begun-more a.shift.up a.shift.down (rs d) l.i (expiry_rows 48 a.n l.rows) (with_rest zs x) l.invariant.0 (low d) (ap expiry_of same, start-new, len-new)),
      ap length back ∙ (omega (arith, length-put at zs l.rows (omega (arith, l8, h, room d)), l.invariant.1)),
    )

pub returns : goal.returns
returns c =
    let l = c.loop-i in
    begun-all c.args.shift.up c.args.shift.down (expiry_rows 48 c.args.n c.args.rows.now) l.i (expiry_rows 48 c.args.n l.rows) l.invariant.0 (omega (arith, c.loop-i-test.false, length-expiry_rows 48 c.args.n c.args.rows.now))
