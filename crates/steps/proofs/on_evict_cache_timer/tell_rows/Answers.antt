-- `tell_rows`: one identifier after the other.
use Rattle.steps.proofs.Words.{◌≡◌, ◌<◌, ℕ, List, refl, sym, ap, ◌∙◌, map, All, concat_map, id_of, action_bytes, after, forgotten_actions, shown}
use Rattle.std.proofs.Common.{subst}
use Rattle.std.proofs.lemmas.List.Elements.{All-get_or}
use Rattle.block.specs.Caches.CachedReads.{row_id}
use Rattle.steps.proofs.ForgottenLaws.{told_from, told-all, row-same, rows-done}
use Rattle.steps.proofs.on_evict_cache_timer.tell_rows.Given.{Over}
use Rattle.steps.proofs.on_evict_cache_timer.tell_rows.Goals as goal
use Rattle.steps.proofs.on_evict_cache_timer.tell_rows.Goals.{After-as_slice-row-items}

-- what the rows tell is what the eviction tells
all : (g : Over) (c : After-as_slice-row-items g) →
    let v = c.args.view.now in
    told_from v.head.now v.block.now c.as_slice-row-items.result.now 0 ≡ concat_map action_bytes (forgotten_actions c.args.call.now.instant.0 (shown v))
all g c =
    let v = c.args.view.now in
    told-all v.head.now v.block.now c.as_slice-row-items.result.now c.args.call.now.instant.0
    (ap (map (row_id v.head.now v.block.now)) c.as_slice-row-items.ensures.value ∙ c.forgotten_rows-rows.ensures.keys)

pub loop-row-init : goal.loop-row-init
loop-row-init g c = refl

pub row_id-id-requires : goal.row_id-id-requires
row_id-id-requires g c =
    let v = c.args.view.now in
    All-get_or (λ r. r < v.head.now.live.cached_rows) c.as_slice-row-items.result.now c.loop-row.row-index 0 c.loop-row-test.true
    (subst (λ (l : List ℕ). All (λ r. r < v.head.now.live.cached_rows) l) (sym c.as_slice-row-items.ensures.value) c.forgotten_rows-rows.ensures.rows)

pub loop-row-preserved : goal.loop-row-preserved
loop-row-preserved g c =
    let v = c.args.view.now in
    row-same v.head.now v.block.now c.as_slice-row-items.result.now c.loop-row.row-index c.loop-row-test.true (id_of c.row_id-id.result) c.row_id-id.ensures _ _ _ c.loop-row.invariant c.encode.ensures

pub returns : goal.returns
returns g c =
    let v = c.args.view.now in
    let e = all g (goal.at.returns g c).After-as_slice-row-items in
    rows-done v.head.now v.block.now c.as_slice-row-items.result.now c.loop-row.row-index c.loop-row-test.false _ _ c.loop-row.invariant
    ∙ ap (λ (l : List ℕ). after l (g.S.Sink.intake c.args.out.now)) e
