-- `on_evict_cache_timer` meets its contract: three steps, each of which leaves the other caches alone.
use Rattle.std.proofs.Common.{ap, ◌∙◌}
use Rattle.protocol.specs.Ticks.{evict}
use Rattle.block.specs.Caches.InBlock.{received_left, grafted_left}
use Rattle.steps.proofs.on_evict_cache_timer.on_evict_cache_timer.Goals as goal

pub returns : goal.returns
unfolding evict
returns c =
    let now = c.args.call.now.instant.0 in
    record {
      state = c.expire_grafted.ensures.state ∙ ap (grafted_left now) (c.expire_received.ensures.state ∙ ap (received_left now) c.expire_cached.ensures.state);
      loan = c.expire_grafted.ensures.loan ∙ c.expire_received.ensures.loan ∙ c.expire_cached.ensures.loan;
    }
