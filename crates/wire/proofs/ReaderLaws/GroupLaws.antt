-- Groups of seven bits read one after the other, as the loop of `groups` does.
-- Assumes nothing.
use Rattle.std.proofs.Common.{◌≡◌, ℕ, zero, suc, ◌+◌, ◌*◌, ◌-◌, ◌^◌, ◌≤◌, ◌<◌, Bool, true, false, List, [], ◌∷◌, Result, refl, sym, ap, subst, ◌∙◌, arith, le_trans, mul-le-mul, mul-le-mul_left, mul-add, mul_assoc, add_assoc, one-mul, zero-add, lt-ltb, le-ltb, le-leb, ne_eqb}
use native.Mathlib.Nat.{pow-succ'}
use borrow.Author.Tests.{lt-leb}
use Rattle.postcard.specs.Number.{Read, got, fault, ◌then◌, last_group, read_groups}
use Rattle.wire.specs.declared.reader.fault.Fault.{Fault}
use Rattle.wire.specs.Reader.Gives.{Gives, read_byte, raised}

-- and so does one that goes on, where there is room for one more
pub more_product : (scale b : ℕ) → b < 256 → scale * (b - 128) ≤ scale * 127
more_product scale b h = mul-le-mul_left scale (omega arith)

raised-none : (r : Read ℕ) → raised 0 1 r ≡ r
raised-none (got high rest) = ap (λ (v : ℕ). got v rest) (zero-add (1 * high) ∙ one-mul high)
raised-none (fault n) = refl

suc-sub-one : (n : ℕ) → suc n - 1 ≡ n
suc-sub-one n = omega arith

-- one group more
raised-more : (low scale c : ℕ) (r : Read ℕ) → raised low scale (r then λ high rest. got (c + 128 * high) rest) ≡ raised (low + scale * c) (scale * 128) r
raised-more low scale c (got high rest) = ap (λ (v : ℕ). got v rest) (simp (mul-add, mul_assoc, add_assoc))
raised-more low scale c (fault n) = refl

-- what `last_group` answers
pub group-high : (nought : Bool) (top b low scale : ℕ) (rest : List ℕ) → top < b → raised low scale (last_group nought top b rest) ≡ fault 8
unfolding last_group
group-high nought top b low scale rest h = rw (lt-leb b top h) refl

pub group-nought : (top low scale : ℕ) (rest : List ℕ) → raised low scale (last_group false top 0 rest) ≡ fault 8
unfolding last_group
group-nought top low scale rest = rw (le-leb 0 top (omega arith)) refl

pub group-low : (nought : Bool) (top b low scale : ℕ) (rest : List ℕ) → b ≤ top → (b ≡ 0 → nought ≡ true) → raised low scale (last_group nought top b rest) ≡ got (low + scale * b) rest
unfolding last_group
group-low nought top zero low scale rest h n = rw (le-leb 0 top h, n refl) refl
group-low nought top (suc b) low scale rest h n = rw (le-leb (suc b) top h, ne_eqb (suc b) 0 (λ z. omega arith)) refl

-- where the loop stands: the groups passed make `low`, and what is left to read of `rest` is what was to be read of `bytes`
pub record Passed (bytes rest : List ℕ) (padded nought : Bool) (more left top low scale : ℕ) : Type 0 where
  pub same : raised low scale (read_groups padded nought left top rest) ≡ read_groups padded true more top bytes
  pub below : low < scale
  pub room : scale * (128 ^ left * (top + 1)) ≤ 2 ^ 64
  pub width : scale * 128 ^ left ≡ 128 ^ more

power : (k : ℕ) → 1 ≤ 128 ^ k
power zero = omega arith
power (suc k) = rw (pow-succ' 128 k) (omega (arith, power k))

two : (top : ℕ) → 0 < top → 2 ≤ top + 1
two top t = omega arith

-- what the definition reads of the next byte: the bytes end, it is the last, the last allowed, or it goes on
ends : (padded nought : Bool) (left top n : ℕ) (rest : List ℕ) → read_byte rest ≡ fault n → read_groups padded nought left top rest ≡ fault n
unfolding read_byte read_groups
ends padded nought zero top n [] h = h
ends padded nought (suc left) top n [] h = h
ends padded nought left top n (b ∷ rest) h = cc

byte_is : (b : ℕ) (rest after : List ℕ) → read_byte rest ≡ got b after → rest ≡ b ∷ after
unfolding read_byte
byte_is b [] after h = cc
byte_is b (x ∷ xs) after h = cc

short : (padded nought : Bool) (left top b : ℕ) (after : List ℕ) → 0 < left → b < 128 → read_groups padded nought left top (b ∷ after) ≡ last_group nought 127 b after
unfolding read_groups
short padded nought zero top b after l h = absurd (omega arith)
short padded nought (suc left) top b after l h = rw (lt-ltb b 128 h) refl

allowed : (padded nought : Bool) (top b : ℕ) (after : List ℕ) → read_groups padded nought 0 top (b ∷ after) ≡ last_group nought top b after
unfolding read_groups
allowed padded nought top b after = refl

step : (padded nought : Bool) (left top low scale b : ℕ) (after : List ℕ) → 0 < left → 128 ≤ b
    → raised low scale (read_groups padded nought left top (b ∷ after)) ≡ raised (low + scale * (b - 128)) (scale * 128) (read_groups padded padded (left - 1) top after)
unfolding read_groups
step padded nought zero top low scale b after l h = absurd (omega arith)
step padded nought (suc left) top low scale b after l h = rw (le-ltb b 128 h, suc-sub-one left) (raised-more low scale (b - 128) (read_groups padded padded left top after))

module _ {bytes rest : List ℕ} {padded nought : Bool} {more left top low scale : ℕ} (p : Passed bytes rest padded nought more left top low scale) where
  -- the bytes end here
  pub passed-end : (n : ℕ) → read_byte rest ≡ fault n → read_groups padded true more top bytes ≡ fault n
  passed-end n h = sym p.same ∙ ap (raised low scale) (ends padded nought left top n rest h)

  module _ (b : ℕ) (after : List ℕ) (read : read_byte rest ≡ got b after) where
    here : rest ≡ b ∷ after
    here = byte_is b rest after read

    -- what is read of all the bytes is what is read from this byte on
    from : raised low scale (read_groups padded nought left top (b ∷ after)) ≡ read_groups padded true more top bytes
    from = ap (λ (x : List ℕ). raised low scale (read_groups padded nought left top x)) (sym here) ∙ p.same

    -- the last byte
    pub passed-last : (r : Result ℕ Fault) → ((tail : List ℕ) → Gives (λ n. n) r tail (raised low scale (last_group nought 127 b tail))) → 0 < left → b < 128
        → Gives (λ n. n) r after (read_groups padded true more top bytes)
    passed-last r g l h = subst (Gives (λ n. n) r after) (ap (raised low scale) (sym (short padded nought left top b after l h)) ∙ from) (g after)

    -- the last byte allowed
    pub passed-all : (r : Result ℕ Fault) → ((tail : List ℕ) → Gives (λ n. n) r tail (raised low scale (last_group nought top b tail))) → left ≡ 0
        → Gives (λ n. n) r after (read_groups padded true more top bytes)
    passed-all r g e = subst (Gives (λ n. n) r after) (ap (raised low scale) (sym (allowed padded nought top b after) ∙ ap (λ (n : ℕ). read_groups padded nought n top (b ∷ after)) (sym e)) ∙ from) (g after)

    -- one that goes on
    pub passed-more : (next : ℕ) → 0 < left → next ≡ left - 1 → 128 ≤ b → b < 256 → Passed bytes after padded padded more next top (low + scale * (b - 128)) (scale * 128)
    passed-more next l e h u =
        let s : left ≡ suc (left - 1) = omega arith in
        rw e (record {
          same = sym (step padded nought left top low scale b after l h) ∙ from;
          below = omega (arith, p.below, more_product scale b u);
          room = rw mul_assoc (rw (s, pow-succ', mul_assoc) at p.room);
          width = rw mul_assoc (rw (s, pow-succ') at p.width);
        })

  -- room for a group that goes on
  pub room_more : 0 < left → 0 < top → scale * 256 ≤ 2 ^ 64
  room_more l t =
      let s : left ≡ suc (left - 1) = omega arith in
      let r : scale * (128 * 128 ^ (left - 1) * (top + 1)) ≤ 2 ^ 64 = rw (s, pow-succ') at p.room in
      le_trans (mul-le-mul_left scale (mul-le-mul (mul-le-mul_left 128 (power (left - 1))) (two top t))) r

  -- a number whose last group is up to 127 or `top` is in its width
  pub width-more : (n : ℕ) → 0 < left → n < scale * (127 + 1) → n < 128 ^ more * (top + 1)
  width-more n l h =
      let s : left ≡ suc (left - 1) = omega arith in
      let w : scale * (128 * 128 ^ (left - 1)) ≡ 128 ^ more = rw (s, pow-succ') at p.width in
      let m : scale * (128 * 1) ≤ scale * (128 * 128 ^ (left - 1)) = mul-le-mul_left scale (mul-le-mul_left 128 (power (left - 1))) in
      let o : 128 ^ more * 1 ≤ 128 ^ more * (top + 1) = mul-le-mul_left (128 ^ more) (omega arith) in
      omega (arith, h, w, m, o)
