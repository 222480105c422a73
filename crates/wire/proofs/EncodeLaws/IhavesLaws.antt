-- An IHave written: its beginning, then its announcements one by one.
-- Assumes nothing.
use Rattle.std.proofs.Common.{◌≡◌, ℕ, true, List, [], ◌∷◌, ◌++◌, sym, ap, ◌∙◌}
use Rattle.storage.specs.Lists.Base.{concat_map}
use Rattle.postcard.specs.Message.{Ihave, IHave, ihave_bytes, message_bytes}
use Rattle.postcard.specs.Output.{ihave_head}
use Rattle.postcard.specs.Decode.{read_ihaves, ihaves_in}
use Rattle.postcard.proofs.Listed.{ihave-listed}
use Rattle.wire.specs.Encode.Intake.{Intake, after}
use Rattle.wire.specs.Reader.Announced.{is_got}
use Rattle.wire.proofs.EncodeLaws.IntakeLaws.{after_append, after_nil}
use Rattle.wire.proofs.ReaderLaws.AnnouncedLaws.{announced_count}

-- an announcement and those after it
module _ {hs others : List Ihave} {h : Ihave} (taken : hs ≡ h ∷ others) where
  entry : concat_map ihave_bytes hs ≡ ihave_bytes h ++ concat_map ihave_bytes others
  unfolding concat_map
  entry = ap (concat_map ihave_bytes) taken

  pub entry-same : (x y z : Intake) → after (concat_map ihave_bytes hs) x ≡ z → y ≡ after (ihave_bytes h) x → after (concat_map ihave_bytes others) y ≡ z
  entry-same x y z s e =
      ap (after (concat_map ihave_bytes others)) e
      ∙ after_append (ihave_bytes h) (concat_map ihave_bytes others) x
      ∙ ap (λ (l : List ℕ). after l x) (sym entry)
      ∙ s

-- all were written
pub entries-done : (hs : List Ihave) (x z : Intake) → hs ≡ [] → after (concat_map ihave_bytes hs) x ≡ z → x ≡ z
unfolding concat_map
entries-done hs x z n s = sym (ap (λ (l : List Ihave). after (concat_map ihave_bytes l) x) n ∙ after_nil x) ∙ s

-- an IHave by its beginning and its entries
module _ (count : ℕ) (bytes : List ℕ) (there : is_got (read_ihaves count bytes) ≡ true) (x : Intake) where
  whole : message_bytes (IHave (ihaves_in (read_ihaves count bytes))) ≡ ihave_head count ++ concat_map ihave_bytes (ihaves_in (read_ihaves count bytes))
  whole = ihave-listed (ihaves_in (read_ihaves count bytes)) count (announced_count count bytes there)

  pub ihave-after : (y z : Intake) → y ≡ after (ihave_head count) x → z ≡ after (concat_map ihave_bytes (ihaves_in (read_ihaves count bytes))) y → z ≡ after (message_bytes (IHave (ihaves_in (read_ihaves count bytes)))) x
  ihave-after y z e k =
      k
      ∙ ap (after (concat_map ihave_bytes (ihaves_in (read_ihaves count bytes)))) e
      ∙ after_append (ihave_head count) (concat_map ihave_bytes (ihaves_in (read_ihaves count bytes))) x
      ∙ ap (λ (l : List ℕ). after l x) (sym whole)
