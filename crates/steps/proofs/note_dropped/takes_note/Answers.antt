-- `takes_note`: what the scan tells, and how many the record holds.
use Rattle.steps.proofs.Words.{arith, not, sym, ap, ◌∙◌, ltb-true, ltb-false, id_of, peer_at, shown}
use Rattle.steps.proofs.RecordLaws.{takes-open, takes-peer, takes-all}
use Rattle.steps.proofs.note_dropped.takes_note.Goals as goal
use Rattle.steps.proofs.note_dropped.takes_note.Goals.{then-scan-lt-MAX_DROPPED_PER_PEER, else-scan-lt-MAX_DROPPED_PER_PEER}

pub returns-then-record_len-lt-MAX_DROPPED : goal.returns-then-record_len-lt-MAX_DROPPED
returns-then-record_len-lt-MAX_DROPPED c =
    let s = shown c.args.view.now in
    elim c.if-scan-lt-MAX_DROPPED_PER_PEER.branch [
      | then-scan-lt-MAX_DROPPED_PER_PEER w ↦
          ap not c.scan_dropped-scan.ensures.noted
          ∙ sym (takes-open (peer_at s c.args.link) (id_of c.args.id) s.dropped
          (omega (arith, w.if-scan-lt-MAX_DROPPED_PER_PEER.true, c.scan_dropped-scan.ensures.count))
          (omega (arith, ltb-true w.record_len.result 4096 (sym w.value-is ∙ c.if-record_len-lt-MAX_DROPPED.true), w.record_len.ensures.long)))
      | else-scan-lt-MAX_DROPPED_PER_PEER w ↦ absurd (omega (arith, ltb-true c.scan_dropped-scan.result.count 256 (sym w.value-is ∙ c.if-record_len-lt-MAX_DROPPED.true), w.if-scan-lt-MAX_DROPPED_PER_PEER.false))
    ]

pub returns-else-record_len-lt-MAX_DROPPED : goal.returns-else-record_len-lt-MAX_DROPPED
returns-else-record_len-lt-MAX_DROPPED c =
    let s = shown c.args.view.now in
    c.if-record_len-lt-MAX_DROPPED.false ∙ elim c.if-scan-lt-MAX_DROPPED_PER_PEER.branch [
      | then-scan-lt-MAX_DROPPED_PER_PEER w ↦
          sym (takes-all (peer_at s c.args.link) (id_of c.args.id) s.dropped
          (omega (arith, ltb-false w.record_len.result 4096 (sym w.value-is ∙ c.if-record_len-lt-MAX_DROPPED.false), w.record_len.ensures.long)))
      | else-scan-lt-MAX_DROPPED_PER_PEER w ↦
          sym (takes-peer (peer_at s c.args.link) (id_of c.args.id) s.dropped
          (omega (arith, w.if-scan-lt-MAX_DROPPED_PER_PEER.false, c.scan_dropped-scan.ensures.count)))
    ]
