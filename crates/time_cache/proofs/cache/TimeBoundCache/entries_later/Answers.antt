-- `entries_later`: the entries that name no row that is due.
use Rattle.std.proofs.Common.{sym, ap, ◌∙◌}
use Rattle.storage.specs.Lists.Base.{count}
use Rattle.storage.specs.Refs.Refs.{names}
use Rattle.time_cache.proofs.BlockLaws.{refs-open}
use Rattle.time_cache.proofs.ReadLaws.{count_entries}
use Rattle.time_cache.proofs.cache.TimeBoundCache.entries_later.Goals as goal

pub returns : goal.returns
returns c =
    c.count_from.ensures
    ∙ ap (count (names c.due-due.result)) (refs-open c.args.self c.args.block.now)
    ∙ sym (count_entries c.args.self c.args.block.now c.requires.1 c.args.instant.0 c.due-due.result c.due-due.ensures)
