-- The round of the entry that the search found.
use Rattle.block.proofs.Words.{arith, ℕ, subst, Result, keys, id_of, FoundIs, Here}
use lib.ListN.{length-map}
use Rattle.block.specs.Views.{shown}
use Rattle.block.proofs.LookupLaws.{round-here, round-between}
use Rattle.block.proofs.panel.View.round_of_cached.Goals as goal
use Rattle.block.proofs.panel.View.round_of_cached.Goals.{In-Ok}

here : (c : In-Ok) → Here (keys (shown c.args.self.now).cache.entries) (id_of c.args.id) c.in-Ok.entry
here c = subst (λ (x : Result ℕ ℕ). FoundIs (keys (shown c.args.self.now).cache.entries) (id_of c.args.id) x) c.in-Ok.is c.find.ensures

pub cached_round-requires : goal.cached_round-requires
cached_round-requires c =
    omega (arith, (here (goal.at.cached_round-requires c).In-Ok).within, length-map (shown c.args.self.now).cache.entries (λ e. e.key))

pub returns-in-Ok : goal.returns-in-Ok
returns-in-Ok c =
    round-here (id_of c.args.id) (shown c.args.self.now) c.requires c.in-Ok.entry c.cached_round.result.0 c.cached_round.ensures (here (goal.at.returns-in-Ok c).In-Ok)

pub returns-in-Err : goal.returns-in-Err
returns-in-Err c =
    round-between (id_of c.args.id) (shown c.args.self.now) _
    (subst (λ (x : Result ℕ ℕ). FoundIs (keys (shown c.args.self.now).cache.entries) (id_of c.args.id) x) c.in-Err.is c.find.ensures)
