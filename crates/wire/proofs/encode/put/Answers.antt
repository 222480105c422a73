use Rattle.std.proofs.Common.{◌∙◌}
use Rattle.wire.proofs.EncodeLaws.IntakeLaws.{put_is, put_place, put_name}
use Rattle.wire.proofs.encode.put.Goals as goal

pub returns : goal.returns
returns g c = record {
  out = c.out-1.given.1.1 (put_name _ _ _ _ _ _ _ c.requires.fits c.encode.ensures) ∙ put_is _ _ _ _ _ _ _ c.requires.fits c.encode.ensures;
  place = put_place _ _ _ _ _ _ _ c.requires.fits c.encode.ensures c.encode.new.out.within;
}
