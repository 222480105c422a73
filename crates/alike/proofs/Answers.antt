-- The answer, of what the two blocks hold.
-- Assumes nothing.
use Rattle.alike.proofs.Words.{◌≡◌, refl, ap, ◌∙◌, Bool, true, false, ◌&&◌, List, ℕ, ◌≤◌, leb-true, leb, length, if◌then◌else◌, Option, Some, None, State, limits_in_range, block_need, not_whole, LinksAscend}
use Rattle.storage.proofs.ListsLaws.MapLaws.{and_left, and_right, and_intro}
use Rattle.protocol.specs.Whole.{whole, long_enough, whole_state}
use Rattle.protocol.proofs.Consistent.{whole-consistent}
use Rattle.protocol.specs.Alike.{likeness_of}
use Rattle.block.specs.View.{limits_of, state_of}
use Rattle.block.specs.Layout.{tables}
use Rattle.block.specs.Header.{word_at, head_in}
use Rattle.block.specs.declared.head.Head.{Head}
use Rattle.whole.specs.Held.{has_header, has_tables, counts_within, laid_out, holds_with, held, whole_held, whole_block}
use Rattle.whole.proofs.HeldLaws.{Wholly}
use Rattle.alike.proofs.Lists.{and_no}

-- a block that is not whole
no-state : (n : ℕ) (o : Option State) → whole_held o ≡ false → whole_state n o ≡ None
unfolding whole_held whole_state
no-state n None e = refl
no-state n (Some s) e = ap (λ (b : Bool). if b then Some s else None) (and_no (long_enough n s) (whole s) e)

pub not-whole : (xs : List ℕ) → whole_block xs ≡ false → whole_state (length xs) (held xs) ≡ None
unfolding whole_block
not-whole xs e = no-state (length xs) (held xs) e

-- a whole block
module _ (xs : List ℕ) (w : Wholly xs) where
  pub has-header : 2048 ≤ length xs
  unfolding has_header
  has-header = leb-true 2048 (length xs) (and_left (leb 2048 (length xs)) (leb (word_at 24 xs) 65535) w.header)

  pub links-ascend : LinksAscend (head_in xs) xs
  links-ascend = (whole-consistent (state_of (head_in xs) xs) w.whole).core.links_up

  long : long_enough (length xs) (state_of (head_in xs) xs) ≡ true
  unfolding long_enough state_of holds_with has_tables
  long =
      let h : Head = head_in xs in
      and_right (limits_in_range (limits_of h.limits)) (leb (block_need (limits_of h.limits)) (length xs))
      (and_left (has_tables (limits_of h.limits) xs) (counts_within (limits_of h.limits) h.live)
      (and_left (has_tables (limits_of h.limits) xs && counts_within (limits_of h.limits) h.live) (laid_out h (tables (limits_of h.limits) xs)) w.holds))

  pub whole-state : whole_state (length xs) (held xs) ≡ Some (state_of (head_in xs) xs)
  unfolding whole_state
  whole-state =
      let s : State = state_of (head_in xs) xs in
      ap (whole_state (length xs)) w.state ∙ ap (λ (b : Bool). if b then Some s else None) (and_intro {a = long_enough (length xs) s} {b = whole s} long w.whole)

pub second-not : (o : Option State) → likeness_of o None ≡ not_whole
unfolding likeness_of
second-not None = refl
second-not (Some s) = refl
