-- What is written of an event is read back.
-- Assumes nothing.
use Rattle.std.specs.Prelude.{◌≡◌}
use Rattle.postcard.specs.Message.{Event, event_bytes}
use Rattle.postcard.specs.Decode.{decoded, decode_event}
use Rattle.postcard.specs.Wide.{EventWide}

-- each event whose numbers are in their width
abbrev pub DecodeWritten : Type 0
DecodeWritten = (e : Event) → EventWide e → decode_event (event_bytes e) ≡ decoded e
