-- `expires`: the time at the start of an expiry row.
use Rattle.std.proofs.Common.{sym, ◌∙◌, ◌+◌, ◌*◌, ◌≤◌}
use Rattle.storage.proofs.RowsLaws.Rows.{row-end}
use Rattle.time_cache.proofs.ReadLaws.{time-of}
use Rattle.time_cache.proofs.cache.TimeBoundCache.expires.Goals as goal
use Rattle.time_cache.proofs.cache.TimeBoundCache.expires.Goals.{Start}

-- the row lies in the block
room : (s : Start) → s.args.row * s.args.self.expiry.stride + s.args.self.expiry.stride ≤ s.args.self.expiry.len * s.args.self.expiry.stride
room s = row-end s.args.self.expiry.stride s.args.self.expiry.len s.args.row s.requires.1

pub returns : goal.returns
returns c = c.load.ensures ∙ sym (time-of c.args.self c.args.block.now c.requires.0 c.args.row c.requires.1)
