use Rattle.storage.specs.Rows.Sorted.{key_of}
use Rattle.block.proofs.missing.MissedKeyed.key.Goals as goal

pub returns : goal.returns
unfolding key_of
returns c = c.load_id.ensures
