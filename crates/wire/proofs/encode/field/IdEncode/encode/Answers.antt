use Rattle.std.proofs.Common.{◌≡◌, ◌∙◌, ap, sym, List, ℕ}
use Rattle.storage.specs.Rows.Digits.{be_bytes}
use Rattle.storage.specs.Rows.Ident.{id_of}
use Rattle.storage.proofs.RowsLaws.Parts.{put_all}
use Rattle.storage.proofs.RowsLaws.Digits.{length-be_bytes}
use Rattle.postcard.specs.Number.{id_bytes}
use Rattle.postcard.proofs.Lengths.{id-bytes}
use Rattle.wire.specs.Encode.Intake.{after}
use Rattle.wire.proofs.encode.field.IdEncode.encode.Goals as goal

pub returns : goal.returns
returns g c =
    let n = id_of c.args.self.now in
    let e : c.store_id.new.b ≡ id_bytes n = c.store_id.ensures ∙ put_all (be_bytes 32 n) _ (length-be_bytes 32 n) ∙ sym (id-bytes n) in
    c.bytes.ensures ∙ ap (λ (x : List ℕ). after x (g.S.Sink.intake c.args.out.now)) e
