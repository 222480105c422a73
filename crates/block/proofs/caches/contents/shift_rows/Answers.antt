-- `contents::shift_rows` meets its contract: the rows are lent, and come back with other starts.
use Rattle.std.proofs.Common.{◌≡◌, sym, ◌∙◌, subst, ℕ, ◌+◌, ◌-◌, ◌*◌, ◌≤◌, arith, length, take, drop, length-drop, length-take-le}
use Rattle.block.specs.Layout.{place}
use Rattle.block.specs.View.{limits_of}
use Rattle.block.specs.Contents.Starts.{Above}
use Rattle.block.proofs.ContentsLaws.Shifts.{lent_rows, shifts}
use Rattle.block.proofs.caches.contents.shift_rows.Goals as goal
use Rattle.block.proofs.caches.contents.shift_rows.Goals.{After-start, Start}

-- what is lent
module _ (c : After-start) where
  abbrev s : Start
  s = (goal.at.After-start c).Start

  abbrev n : ℕ
  n = s.args.head.now.live.cached_rows - s.args.j

  abbrev a : ℕ
  a = c.start.result + 48 * s.args.j

  abbrev k : ℕ
  k = a + 48 * n - a

  size : k ≡ n * 48
  size = omega arith

  count : s.args.j + n ≡ s.args.head.now.live.cached_rows
  count = omega (arith, s.requires.there)

  at : a ≡ place (limits_of s.args.head.now.limits) 5 + 48 * s.args.j
  at = omega (arith, (c.start.ensures _ s.requires.fit.1))

  room : a + n * 48 ≤ length s.args.block.now
  room = omega (arith, (c.start.ensures _ s.requires.fit.1), s.requires.fit.0.long, s.requires.fit.0.within.cached_rows, count)

  long : length (take k (drop a s.args.block.now)) ≡ k
  long = length-take-le k (drop a s.args.block.now) (omega (arith, room, length-drop a s.args.block.now))

pub shift_starts-requires : goal.shift_starts-requires
shift_starts-requires c =
    let d = (goal.at.shift_starts-requires c).After-start in
    let t = s d in (
      omega (arith, long d, size d),
      t.requires.above.0,
      subst (Above t.args.shift.up t.args.shift.down) (sym (lent_rows t.args.head.now t.args.block.now t.args.j (n d) (a d) (k d) t.requires.fit.0 (count d) (at d) (size d))) t.requires.above.1,
    )

pub returns : goal.returns
returns c =
    let d = (goal.at.returns c).After-start in
    let t = s d in
    shifts t.args.head.now t.args.block.now c.shift_starts.new.rows t.args.j (n d) (a d) (k d) t.args.shift.up t.args.shift.down t.requires.fit.0 (count d) (at d) (size d)
    (c.shift_starts.auto.rows ∙ long d) c.shift_starts.ensures
