-- `encode_entries`: the announcements that are left complete what is to be written.
use Rattle.std.proofs.Common.{◌≡◌}
use Rattle.storage.specs.Lists.Base.{concat_map}
use Rattle.postcard.specs.Message.{ihave_bytes}
use Rattle.wire.specs.Encode.Intake.{after}
use Rattle.wire.specs.Reader.Values.{ihaves_value}
use Rattle.wire.proofs.encode.message.encode_entries.Given as goal

abbrev pub invariant-loop-ihave : goal.invariant-loop-ihave
invariant-loop-ihave g l =
    let intake = g.S.Sink.intake in
    record { same : after (concat_map ihave_bytes (ihaves_value l.ihave-iterator)) (intake l.out) ≡ after (concat_map ihave_bytes (ihaves_value l.fn.ihaves)) (intake l.initial.out) }
