-- `contains_key`: what the search found.
use Rattle.std.proofs.Common.{◌≡◌, sym, ap, ◌∙◌, ℕ, Result, Ok, Err, is_ok, is_some}
use Rattle.storage.specs.Rows.Ident.{id_of}
use Rattle.storage.specs.Rows.Sorted.{FoundIs}
use Rattle.time_cache.specs.Tables.{cache_at, named, refs_at, rows_at}
use Rattle.time_cache.specs.TimeCache.{holds}
use Rattle.time_cache.proofs.ReadLaws.{found_here, found_none}
use Rattle.time_cache.proofs.cache.TimeBoundCache.contains_key.Goals as goal

pub returns : goal.returns
returns c = c.is_ok.ensures.value ∙ told c.find.result c.find.ensures
  where
    told : (r : Result ℕ ℕ) → FoundIs (named (rows_at c.args.self c.args.block.now) (refs_at c.args.self c.args.block.now)) (id_of c.args.key) r → is_ok r ≡ holds (id_of c.args.key) (cache_at c.args.self c.args.block.now)
    told (Ok i) f = sym (ap is_some (found_here c.args.self c.args.block.now c.requires.1 (id_of c.args.key) _ f))
    told (Err i) f = sym (ap is_some (found_none c.args.self c.args.block.now (id_of c.args.key) _ f))
