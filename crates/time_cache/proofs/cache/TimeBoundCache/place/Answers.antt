-- `place`: the place at the start of an entry's row.
use Rattle.std.proofs.Common.{sym, ◌∙◌, ◌+◌, ◌*◌, ◌≤◌}
use Rattle.storage.proofs.RowsLaws.Rows.{row-end}
use Rattle.time_cache.proofs.ReadLaws.{place_of}
use Rattle.time_cache.proofs.cache.TimeBoundCache.place.Goals as goal
use Rattle.time_cache.proofs.cache.TimeBoundCache.place.Goals.{Start}

-- the row lies in the block
room : (s : Start) → s.args.i * s.args.self.entries.stride + s.args.self.entries.stride ≤ s.args.self.entries.len * s.args.self.entries.stride
room s = row-end s.args.self.entries.stride s.args.self.entries.len s.args.i s.requires.1

pub returns : goal.returns
returns c = c.load2.ensures.0 ∙ sym (place_of c.args.self c.args.block.now c.requires.0 c.args.i c.requires.1)
