-- `contents::resize_row` meets its contract: the contents behind move, their starts with them, and content and length are stored.
use Rattle.block.proofs.Words.{refl, ℕ, ◌+◌, ◌≤◌, ◌<◌, arith, length}
use Rattle.block.proofs.ContentsLaws.Setting.{row_ends, small, fit-1, above-1, resized}
use Rattle.block.proofs.caches.contents.resize_row.Goals as goal
use Rattle.block.proofs.caches.contents.resize_row.Goals.{After-start-contents, Start}

-- what the first reads tell
module _ (d : After-start-contents) where
  abbrev s : Start
  s = (goal.at.After-start-contents d).Start

  abbrev k : ℕ
  k = length s.args.content.now

  abbrev at : ℕ
  at = d.extent_of-extent.result.start

  abbrev len : ℕ
  len = d.extent_of-extent.result.len

  abbrev e : ℕ
  e = d.start-contents.result

  ends : at + len ≤ s.args.head.now.live.contents
  ends = omega (arith, d.extent_of-extent.ensures, row_ends s.args.head.now s.args.block.now s.args.content.now s.args.place s.requires.sound.0 s.requires.there s.requires.room)

  room : s.args.head.now.live.contents + k ≤ s.args.head.now.limits.content + len
  room = omega (arith, d.extent_of-extent.ensures, s.requires.room)

  low : e ≤ 2000000
  low = omega (arith, (d.start-contents.ensures _ s.requires.sound.1), s.requires.sound.0.fit.ceilings)

  top : e + s.args.head.now.limits.content ≤ length s.args.block.now
  top = omega (arith, (d.start-contents.ensures _ s.requires.sound.1), s.requires.sound.0.fit.long)

  most : s.args.head.now.limits.content ≤ 1048576
  most = s.requires.sound.0.fit.ceilings.B

  used : s.args.head.now.live.contents ≤ s.args.head.now.limits.content
  used = s.requires.sound.0.fit.within.contents

  few : s.args.place < 1024
  few = omega (arith, s.requires.there, s.requires.sound.0.fit.within.cached_rows, s.requires.sound.0.fit.ceilings.C)

pub overflow_sub-behind : goal.overflow_sub-behind
overflow_sub-behind c = omega (arith, ends (goal.at.overflow_sub-behind c).After-start-contents)

pub overflow_sub-behind-2 : goal.overflow_sub-behind-2
overflow_sub-behind-2 c = omega (arith, ends (goal.at.overflow_sub-behind-2 c).After-start-contents)

pub overflow_add-contents : goal.overflow_add-contents
overflow_add-contents c =
    let d = (goal.at.overflow_add-contents c).After-start-contents in
    omega (arith, ends d, low d, used d, most d)

pub overflow_add-contents-2 : goal.overflow_add-contents-2
overflow_add-contents-2 c =
    let d = (goal.at.overflow_add-contents-2 c).After-start-contents in
    omega (arith, ends d, low d, used d, most d)

pub overflow_add-contents-3 : goal.overflow_add-contents-3
overflow_add-contents-3 c =
    let d = (goal.at.overflow_add-contents-3 c).After-start-contents in
    omega (arith, ends d, low d, used d, most d)

pub overflow_add-contents-4 : goal.overflow_add-contents-4
overflow_add-contents-4 c =
    let d = (goal.at.overflow_add-contents-4 c).After-start-contents in
    omega (arith, ends d, room d, low d, used d, most d)

pub move_bytes-requires : goal.move_bytes-requires
move_bytes-requires c =
    let d = (goal.at.move_bytes-requires c).After-start-contents in
    (omega (arith, ends d, used d, top d), omega (arith, ends d, room d, top d))

pub shift_rows-requires : goal.shift_rows-requires
shift_rows-requires c =
    let d = (goal.at.shift_rows-requires c).After-start-contents in
    let t = s d in
    let h = t.args.head.now in
    let xs = t.args.block.now in
    let content = t.args.content.now in
    let from = c.start-contents.ensures _ t.requires.sound.1 in record {
      fit = (fit-1 h xs content t.args.place t.requires.sound.0 t.requires.there t.requires.room (at d) (len d) (e d) c.extent_of-extent.ensures.start c.extent_of-extent.ensures.len from c.move_bytes.new.bytes c.move_bytes.ensures c.move_bytes.auto.bytes, t.requires.sound.1);
      there = omega (arith, t.requires.there);
      above = (
        small h xs content t.args.place t.requires.sound.0 t.requires.there t.requires.room,
        above-1 h xs content t.args.place t.requires.sound.0 t.requires.there t.requires.room (at d) (len d) (e d) c.extent_of-extent.ensures.start c.extent_of-extent.ensures.len from c.move_bytes.new.bytes c.move_bytes.ensures c.move_bytes.auto.bytes,
      );
    }

pub overflow_add-contents-5 : goal.overflow_add-contents-5
overflow_add-contents-5 c =
    let d = (goal.at.overflow_add-contents-5 c).After-start-contents in
    omega (arith, ends d, low d, used d, most d)

pub copy_bytes-requires : goal.copy_bytes-requires
copy_bytes-requires c =
    let d = (goal.at.copy_bytes-requires c).After-start-contents in
    omega (arith, ends d, room d, top d, c.shift_rows.auto.block, c.move_bytes.auto.bytes)

pub overflow_cast-len-2 : goal.overflow_cast-len-2
overflow_cast-len-2 c =
    let t = s (goal.at.overflow_cast-len-2 c).After-start-contents in
    omega (arith, small t.args.head.now t.args.block.now t.args.content.now t.args.place t.requires.sound.0 t.requires.there t.requires.room)

pub overflow_sub-head : goal.overflow_sub-head
overflow_sub-head c =
    omega (arith, ends (goal.at.overflow_sub-head c).After-start-contents)

pub returns : goal.returns
returns c =
    let d = (goal.at.returns c).After-start-contents in
    let t = s d in
    resized t.args.head.now t.args.block.now t.args.content.now t.args.place t.requires.sound.0 t.requires.there t.requires.room (at d) (len d) (e d) c.extent_of-extent.ensures.start c.extent_of-extent.ensures.len (c.start-contents.ensures _ t.requires.sound.1) c.move_bytes.new.bytes c.move_bytes.ensures c.move_bytes.auto.bytes
    c.shift_rows.new.block c.shift_rows.ensures c.shift_rows.auto.block c.copy_bytes.new.out c.copy_bytes.ensures c.copy_bytes.auto.out _ refl refl c.set_extent.new.block c.set_extent.ensures c.set_extent.auto.block
