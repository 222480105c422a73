-- What a record's call makes of the list of calls, what is to be written of it, and what a run that fails has written.
-- Assumes nothing.
use Rattle.std.specs.Prelude.{ℕ, ◌≡◌, Option, List, []}
use Rattle.std.specs.Io.KnownBytes.{Consumes}
use Rattle.blake3.specs.Blake3.{identifier}
use Rattle.protocol.specs.Answer.{Call, Answer, ask_whole}
use Rattle.protocol.specs.Calls.{Ran, state_after, counts_after}
use Rattle.protocol.specs.Panel.{panel_settings, panel_limits, written, panelrun}
use Rattle.block.specs.View.{settings_of, limits_of}
use Rattle.plumtree.specs.Chain.{ran_from}
use Rattle.plumtree.specs.CallList.{CallList}
use Rattle.panel.specs.Records.Running.{answer_bytes}
use Rattle.panel.specs.Writing.{AppendsFront}

-- no call yet, of the program's panel
pub record Started (h : CallList) : Type 0 where
  pub settings : settings_of h.settings ≡ panel_settings
  pub limits : limits_of h.limits ≡ panel_limits
  pub calls : h.calls ≡ []

-- the state and counts that these calls lead to
abbrev pub ran : CallList → Ran
ran h = ran_from h.settings h.limits h.calls

-- what the call is answered after these calls
abbrev pub told : CallList → Call → Answer
told h k = ask_whole identifier (ran h).state (ran h).counts k

-- this call was one more, and its answer is this number and these bytes
pub record Answered (k : Call) (before after : CallList) (number : ℕ) (bytes : List ℕ) : Type 0 where
  pub state : (ran after).state ≡ state_after (ran before).state (told before k)
  pub counts : (ran after).counts ≡ counts_after (ran before).counts (told before k)
  pub writes : answer_bytes number bytes ≡ written (told before k)

-- the same, with the bytes that are to be written: "answer byte, length, actions"
pub record Answers (k : Call) (before after : CallList) (bytes : List ℕ) : Type 0 where
  pub state : (ran after).state ≡ state_after (ran before).state (told before k)
  pub counts : (ran after).counts ≡ counts_after (ran before).counts (told before k)
  pub writes : bytes ≡ written (told before k)

-- some bytes were taken from the input, and what was added to the output is a front of what is written for these
pub record WritesFront (left left' held held' : Option (List ℕ)) : Type 0 where
  pub taken : List ℕ
  pub given : Consumes left left' taken
  pub wrote : AppendsFront held held' (panelrun identifier taken)
