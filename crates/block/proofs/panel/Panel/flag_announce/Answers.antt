-- The flag stands where the record holds anything.
use Rattle.block.proofs.Words.{refl, ap, sym, ◌≡◌, arith, Bool, true, false, List, [], ◌∷◌, not, ◌||◌, length, ◌<◌, is_empty, Note, with_announce_scheduled}
use Rattle.block.specs.View.{state_of}
use Rattle.block.specs.Panels.{state}
use Rattle.block.proofs.NoteLaws.{count-dropped}
use Rattle.block.proofs.panel.Panel.flag_announce.Goals as goal

none : (ds : List Note) → length ds ≡ 0 → is_empty ds ≡ true
none [] e = refl
none (d ∷ ds) e = absurd (omega arith)

any : (ds : List Note) → 0 < length ds → is_empty ds ≡ false
any [] e = absurd (omega arith)
any (d ∷ ds) e = refl

pub returns-then-self-gt0 : goal.returns-then-self-gt0
unfolding state_of
returns-then-self-gt0 c =
    let p = c.args.self.now in
    let held = any (state p).dropped (omega (arith, count-dropped p.head p.block.now p.sound, c.if-self-gt0.true)) in
    record { state = ap (λ (b : Bool). with_announce_scheduled (not b || (state p).timers.announce) (state p)) (sym held); loan = refl }

pub returns-else-self-gt0 : goal.returns-else-self-gt0
returns-else-self-gt0 c =
    let p = c.args.self.now in
    let held = none (state p).dropped (omega (arith, count-dropped p.head p.block.now p.sound, c.if-self-gt0.false)) in
    record { state = ap (λ (b : Bool). with_announce_scheduled (not b || (state p).timers.announce) (state p)) (sym held); loan = refl }
