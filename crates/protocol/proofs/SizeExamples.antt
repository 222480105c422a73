-- "Padded numbers", "Question 10 counts the bytes as received", computed: with M 510, a message of 510 bytes in its shortest form is taken so and not with its round padded.
-- Assumes nothing.
use Rattle.std.proofs.Common.{refl}
use Rattle.postcard.specs.Number.{groups, number_bytes, big_endian, id_bytes, from_big_endian, read_kind, kind_number, read_bytes, read_id, last_group, read_groups, read_number, read_padded, read_round}
use Rattle.postcard.specs.Message.{content_bytes, delivery_bytes, message_bytes}
use Rattle.postcard.specs.Decode.{read_padded_content, delivery_of, delivery_kind, read_delivery, message_of, message_kind, read_message, event_of, read_event, message_part, ended, unless_retired, decode_event}
use Rattle.protocol.specs.Answer.{message_fits}
use Rattle.protocol.specs.GuaranteeExamples.{SizeExamples}

pub size-examples : SizeExamples
unfolding groups number_bytes content_bytes delivery_bytes message_bytes big_endian id_bytes from_big_endian read_kind kind_number read_bytes read_id last_group read_groups read_number read_padded read_round read_padded_content delivery_of delivery_kind read_delivery message_of message_kind read_message event_of read_event message_part ended unless_retired decode_event message_fits
size-examples = record { shortest = refl; read510 = refl; taken510 = refl; read511 = refl; refused511 = refl }
