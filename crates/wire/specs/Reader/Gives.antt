-- What a reader answers: a value, with the bytes after it left in the reader; or the question that is answered no, by the specification's number.
-- Assumes nothing.
use Rattle.std.specs.Prelude.{ℕ, ◌+◌, ◌*◌, ◌≡◌, List, [], ◌∷◌, Result, Ok, Err}
use Rattle.postcard.specs.Number.{Read, got, fault}
use Rattle.postcard.specs.Decode.{Decoded, decoded, faulty}
use Rattle.refusal.specs.Numbers.{number_of as number_of_refusal}
use Rattle.refusal.specs.declared.Refusal.{Refusal}
use Rattle.refusal.specs.declared.Refusal.TheVariants.{EventCut, EventMalformed, EventTooLong, NeighborsBroadcast, OutputTooShort}
use Rattle.wire.specs.declared.reader.fault.Fault.{Fault}
use Rattle.wire.specs.declared.reader.fault.Fault.TheVariants.{Ends, Form, Left, Retired, Output}

-- the question that is answered no, as a refusal and by its number
abbrev pub refusal_of : Fault → Refusal
refusal_of Ends = EventCut
refusal_of Form = EventMalformed
refusal_of Left = EventTooLong
refusal_of Retired = NeighborsBroadcast
refusal_of Output = OutputTooShort

abbrev pub number_of : Fault → ℕ
number_of f = number_of_refusal (refusal_of f)

-- `result`, its value seen by `view`, with `left` in the reader, is what the definition reads
abbrev pub Gives : {X A : Type 0} → (X → A) → Result X Fault → List ℕ → Read A → Type 0
Gives view (Ok x) left read = read ≡ got (view x) left
Gives view (Err e) left read = read ≡ fault (number_of e)

-- `result`, its value seen by `view`, is what all of the bytes are
abbrev pub Decodes : {X A : Type 0} → (X → A) → Result X Fault → Decoded A → Type 0
Decodes view (Ok x) meant = meant ≡ decoded (view x)
Decodes view (Err e) meant = meant ≡ faulty (number_of e)

-- (7) the next byte
unfoldable pub read_byte : List ℕ → Read ℕ
read_byte [] = fault 7
read_byte (b ∷ rest) = got b rest

-- a number read above lower groups that make `low`
abbrev pub raised : ℕ → ℕ → Read ℕ → Read ℕ
raised low scale (got high rest) = got (low + scale * high) rest
raised low scale (fault n) = fault n
