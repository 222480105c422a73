-- What a panel holds, what a method does to it, and what a step asks of it.
-- Assumes nothing.
use Rattle.std.specs.Prelude.{◌≡◌, true}
use Rattle.protocol.specs.State.{State}
use Rattle.protocol.specs.Whole.{fits}
use Rattle.protocol.specs.Consistent.{Consistent, Ranged}
use Rattle.block.specs.View.{state_of}
use Rattle.block.specs.declared.panel.Panel.{Panel}

-- the state that a panel holds
abbrev pub state : Panel → State
state p = state_of p.head p.block.now

-- the state goes by f, in the same block
pub record Goes (f : State → State) (p q : Panel) : Type 0 where
  pub state : state q ≡ f (state p)
  pub loan : q.block.ghost_name ≡ p.block.ghost_name

-- question 5 was answered yes, and every step since kept it so
pub record AtRest (s : State) : Type 0 where
  pub consistent : Consistent s
  pub ranged : Ranged s

-- a step that question 13 was answered yes for: the state after it is within every limit
pub record Allowed (f : State → State) (s : State) : Type 0 where
  pub rest : AtRest s
  pub fits : fits (f s) ≡ true
