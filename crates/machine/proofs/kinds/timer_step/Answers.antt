-- `timer_step`: each timer has its step, with what was decided of its rows.
use Rattle.machine.proofs.Words.{◌≡◌, ℕ, sym, subst, Fired, timer_value, State}
use Rattle.postcard.specs.declared.message.Timer.{Timer}
use Rattle.machine.specs.declared.kinds.Step.{Step}
use Rattle.machine.specs.Kinds.Meaning.{Means, TimerRows}
use Rattle.machine.proofs.KindsLaws.MeaningLaws.{means-timer-graft, means-timer-dispatch, means-timer-evict, means-timer-announce}
use Rattle.machine.proofs.kinds.timer_step.Goals as goal

-- a step is the timer's if it is that of the kind that the match tells
of : {now : ℕ} {s : State} {r : Step} {t v : Timer} → t ≡ v → Means now s r (Fired (timer_value v)) → Means now s r (Fired (timer_value t))
of {now} {s} {r} e = subst (λ (v : Timer). Means now s r (Fired (timer_value v))) (sym e)

pub returns-in-SendGraft-clause-means : goal.returns-in-SendGraft-clause-means
returns-in-SendGraft-clause-means c now s core = of c.in-SendGraft.is (means-timer-graft now s core c.in-SendGraft.id)

pub returns-in-DispatchLazyPush-clause-means : goal.returns-in-DispatchLazyPush-clause-means
returns-in-DispatchLazyPush-clause-means c now s core = of c.in-DispatchLazyPush.is (means-timer-dispatch now s core c.noted.result)

pub returns-in-DispatchLazyPush-clause-decided : goal.returns-in-DispatchLazyPush-clause-decided
returns-in-DispatchLazyPush-clause-decided c call s rows = c.noted.ensures call s (subst (λ (t : Timer). TimerRows call t s c.args.rows) c.in-DispatchLazyPush.is rows)

pub returns-in-EvictCache-clause-means : goal.returns-in-EvictCache-clause-means
returns-in-EvictCache-clause-means c now s core = of c.in-EvictCache.is (means-timer-evict now s core)

pub returns-in-AnnounceDropped-clause-means : goal.returns-in-AnnounceDropped-clause-means
returns-in-AnnounceDropped-clause-means c now s core = of c.in-AnnounceDropped.is (means-timer-announce now s core c.cached.result)

pub returns-in-AnnounceDropped-clause-decided : goal.returns-in-AnnounceDropped-clause-decided
returns-in-AnnounceDropped-clause-decided c call s rows = c.cached.ensures call s (subst (λ (t : Timer). TimerRows call t s c.args.rows) c.in-AnnounceDropped.is rows)
