-- `is_none_due`: of each time cache, whether all rows are later.
use Rattle.steps.proofs.Words.{◌≡◌, sym, ap, ◌∙◌, Bool, ◌&&◌, eqb, eq-eqb, ne_eqb, is_empty, due, State, shown}
use Rattle.block.proofs.CachesLaws.ReceivedLaws.{count-received-rows}
use Rattle.block.proofs.CachesLaws.CachedLaws.{count-cached-rows}
use Rattle.block.proofs.CachesLaws.GraftedLaws.{count-grafted-rows}
use Rattle.steps.proofs.AtRestLaws.{in_order}
use Rattle.steps.proofs.SettledLaws.NoneDueLaws.{tells-none}
use Rattle.steps.proofs.settled.is_none_due.Goals as goal

pub returns-then-rows_later-view : goal.returns-then-rows_later-view
returns-then-rows_later-view c =
    let v = c.args.view.now in
    let now = c.args.instant.0 in
    let s : State = shown v in
    let n = v.head.now.live.received_rows in
    let received : eqb c.rows_later.result n ≡ is_empty (due now s.received.expiry) =
    tells-none now c.rows_later.result n s.received (in_order s.received c.requires.consistent.core.received_on) c.rows_later.ensures (sym (count-received-rows v.head.now v.block.now v.sound.fit)) in
    ap (λ (b : Bool). b && is_empty (due now s.cache.expiry) && is_empty (due now s.grafted.expiry)) (sym (ne_eqb c.rows_later.result n c.if-rows_later-view.true) ∙ received)

pub returns-then-rows_later-view-2 : goal.returns-then-rows_later-view-2
returns-then-rows_later-view-2 c =
    let v = c.args.view.now in
    let now = c.args.instant.0 in
    let s : State = shown v in
    let n = v.head.now.live.received_rows in
    let m = v.head.now.live.cached_rows in
    let received : eqb c.rows_later.result n ≡ is_empty (due now s.received.expiry) =
    tells-none now c.rows_later.result n s.received (in_order s.received c.requires.consistent.core.received_on) c.rows_later.ensures (sym (count-received-rows v.head.now v.block.now v.sound.fit)) in
    let cached : eqb c.rows_later-2.result m ≡ is_empty (due now s.cache.expiry) =
    tells-none now c.rows_later-2.result m s.cache (in_order s.cache c.requires.consistent.core.cache_on) c.rows_later-2.ensures (sym (count-cached-rows v.head.now v.block.now v.sound.fit)) in
    λ k. (sym (eq-eqb c.rows_later.result n c.if-rows_later-view.false) ∙ received) k && (sym (ne_eqb c.rows_later-2.result m c.if-rows_later-view-2.true) ∙ cached) k && is_empty (due now s.grafted.expiry)

pub returns : goal.returns
returns c =
    let v = c.args.view.now in
    let now = c.args.instant.0 in
    let s : State = shown v in
    let n = v.head.now.live.received_rows in
    let m = v.head.now.live.cached_rows in
    let g = v.head.now.live.grafted_rows in
    let received : eqb c.rows_later.result n ≡ is_empty (due now s.received.expiry) =
    tells-none now c.rows_later.result n s.received (in_order s.received c.requires.consistent.core.received_on) c.rows_later.ensures (sym (count-received-rows v.head.now v.block.now v.sound.fit)) in
    let cached : eqb c.rows_later-2.result m ≡ is_empty (due now s.cache.expiry) =
    tells-none now c.rows_later-2.result m s.cache (in_order s.cache c.requires.consistent.core.cache_on) c.rows_later-2.ensures (sym (count-cached-rows v.head.now v.block.now v.sound.fit)) in
    let grafted : eqb c.rows_later-3.result g ≡ is_empty (due now s.grafted.expiry) =
    tells-none now c.rows_later-3.result g s.grafted (in_order s.grafted c.requires.consistent.core.grafted_on) c.rows_later-3.ensures (sym (count-grafted-rows v.head.now v.block.now v.sound.fit)) in
    λ k. (sym (eq-eqb c.rows_later.result n c.if-rows_later-view.false) ∙ received) k && (sym (eq-eqb c.rows_later-2.result m c.if-rows_later-view-2.false) ∙ cached) k && grafted k
