-- `sequences::size`: the number that the header has, or the count of the list.
use Rattle.alike.proofs.Words.{sym, ap, ◌∙◌, length, shown}
use lib.ListN.{length-map}
use Rattle.alike.specs.Elements.{expiry_element, sequence_of}
use Rattle.block.proofs.CachesLaws.ReceivedLaws.{count-received-rows}
use Rattle.block.proofs.CachesLaws.GraftedLaws.{count-grafted-rows}
use Rattle.block.proofs.CachesLaws.CachedLaws.{count-cached-rows}
use Rattle.alike.specs.declared.sequences.Sequence.{Sequence}
use Rattle.alike.proofs.sequences.size.Goals as goal

pub returns-in-ReceivedExpiry : goal.returns-in-ReceivedExpiry
returns-in-ReceivedExpiry c =
    let st = shown c.args.view.now in
    sym (ap (λ (q : Sequence). length (sequence_of q st)) c.in-ReceivedExpiry.is ∙ length-map st.received.expiry expiry_element ∙ count-received-rows c.args.view.now.head.now c.args.view.now.block.now c.args.view.now.sound.fit)

pub returns-in-GraftedExpiry : goal.returns-in-GraftedExpiry
returns-in-GraftedExpiry c =
    let st = shown c.args.view.now in
    sym (ap (λ (q : Sequence). length (sequence_of q st)) c.in-GraftedExpiry.is ∙ length-map st.grafted.expiry expiry_element ∙ count-grafted-rows c.args.view.now.head.now c.args.view.now.block.now c.args.view.now.sound.fit)

pub returns-in-CachedExpiry : goal.returns-in-CachedExpiry
returns-in-CachedExpiry c =
    let st = shown c.args.view.now in
    sym (ap (λ (q : Sequence). length (sequence_of q st)) c.in-CachedExpiry.is ∙ length-map st.cache.expiry expiry_element ∙ count-cached-rows c.args.view.now.head.now c.args.view.now.block.now c.args.view.now.sound.fit)
