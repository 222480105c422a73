-- Bytes that are written in parts.
-- Assumes nothing.
use Rattle.payloads.proofs.Words.{◌≡◌, ℕ, List, ◌++◌, sym, ap, ◌∙◌, Intake, after, after_append}

module _ (a b whole : List ℕ) (e : whole ≡ a ++ b) (h : Intake) where
  pub after-both : (now done : Intake) → now ≡ after a h → done ≡ after b now → done ≡ after whole h
  after-both now done p q = q ∙ ap (after b) p ∙ after_append a b h ∙ ap (λ (bs : List ℕ). after bs h) (sym e)

-- in four
pub after-4 : (a b c d whole : List ℕ) → whole ≡ ((a ++ b) ++ c) ++ d → (h h1 : Intake) → h1 ≡ after a h → (h2 : Intake) → h2 ≡ after b h1 → (h3 : Intake) → h3 ≡ after c h2 → (h4 : Intake) → h4 ≡ after d h3 → h4 ≡ after whole h
after-4 a b c d whole e h h1 e1 h2 e2 h3 e3 h4 e4 =
    e4 ∙ ap (after d) (e3 ∙ ap (after c) (e2 ∙ ap (after b) e1 ∙ after_append a b h) ∙ after_append (a ++ b) c h) ∙ after_append ((a ++ b) ++ c) d h ∙ ap (λ (bs : List ℕ). after bs h) (sym e)
