-- 23 is answered exactly of a broadcast with byte 1.
use Rattle.postcard.specs.Retired.{RetiredIsExact}
use Rattle.postcard.proofs.DecodeWritten.{retired-written}
use Rattle.postcard.proofs.DecodeBack.{retired-back}

pub retired-is-exact : RetiredIsExact
retired-is-exact = record {
  answered = λ bytes r. rw r.same (retired-written r.content r.short);
  no_other = λ bytes y h. let t = retired-back bytes y h in record { content = t.content; short = t.short; same = t.same };
}
