-- `key_at`: the identifier behind the time of an expiry row.
use Rattle.std.proofs.Common.{sym, ◌∙◌, ◌+◌, ◌*◌, ◌≤◌}
use Rattle.storage.proofs.RowsLaws.Rows.{row-end}
use Rattle.time_cache.proofs.ReadLaws.{key-of}
use Rattle.time_cache.proofs.cache.TimeBoundCache.key_at.Goals as goal
use Rattle.time_cache.proofs.cache.TimeBoundCache.key_at.Goals.{Start}

-- the row lies in the block
room : (s : Start) → s.args.row * s.args.self.expiry.stride + s.args.self.expiry.stride ≤ s.args.self.expiry.len * s.args.self.expiry.stride
room s = row-end s.args.self.expiry.stride s.args.self.expiry.len s.args.row s.requires.1

pub returns : goal.returns
returns c = c.load_id.ensures ∙ sym (key-of c.args.self c.args.block.now c.requires.0 c.args.row c.requires.1)
