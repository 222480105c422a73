-- The list of calls that a panel has had, and what holds of it.
-- Assumes nothing.
use Rattle.std.specs.Prelude.{ℕ, List, [], ◌∷◌, ◌++◌}
use Rattle.protocol.specs.State.{Counts}
use Rattle.protocol.specs.Answer.{Call}
use Rattle.block.specs.declared.head.Settings.{Settings}
use Rattle.block.specs.declared.head.Limits.{Limits}
use Rattle.output_size.specs.OutputSize.{AllBytes}
use Rattle.plumtree.specs.Calls.{Made}
use Rattle.plumtree.specs.Chain.{Seen, Chain, Guaranteed}
use Rattle.plumtree.specs.OutputSize.{size_of, EachEnough}

-- a list of event calls from a creation with these settings and limits, and what was seen of each
pub record CallList : Type 0 where
  pub settings : Settings
  pub limits : Limits
  pub calls : List Call
  pub seen : List Seen

-- "The list starts from block and counts as an accepted creation left them"
abbrev pub fresh_list : Settings → Limits → CallList
fresh_list c l = record { settings = c; limits = l; calls = []; seen = [] }

-- one call more, refused or not
abbrev pub with_call : Call → Seen → CallList → CallList
with_call k v h = record { settings = h.settings; limits = h.limits; calls = h.calls ++ (k ∷ []); seen = h.seen ++ (v ∷ []) }

-- these calls lead from an accepted creation to this block and these counts; the guarantee holds of them; each event is of bytes, and an output of `size_of` bytes was enough for each call
pub record LeadsTo (h : CallList) (block : List ℕ) (counts : Counts) : Type 0 where
  pub before : List ℕ
  pub old : Counts
  pub first : List ℕ
  pub zeroed : Counts
  pub long : ℕ
  pub made : Made h.settings h.limits before old first zeroed 0 long
  pub chain : Chain first zeroed h.calls h.seen block counts
  pub guaranteed : Guaranteed h.settings h.limits h.calls h.seen block counts
  pub bytes : AllBytes h.calls
  pub enough : EachEnough (size_of h.settings h.limits) h.calls h.seen
