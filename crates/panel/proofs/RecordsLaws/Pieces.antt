-- Reading in pieces: what is read stays so whatever bytes follow, and what a record that is cut still lacks.
-- Assumes nothing.
use Rattle.std.proofs.Common.{ℕ, zero, suc, ◌+◌, ◌*◌, ◌-◌, ◌≤◌, ◌<◌, ◌≡◌, refl, sym, ap, subst, ◌∙◌, Bool, true, false, not, ◌&&◌, List, [], ◌∷◌, ◌++◌, append_assoc, arith, leb, ltb, eqb, length, take, drop, get_or, length-append, length-drop, ltb-true, ltb-false, leb-true, leb-false, eqb-true, le-ltb, le-leb}
use lib.Seq.{take-append-le, drop-append-le, drop-append_seam}
use borrow.Author.Tests.{eqb-false}
use Rattle.storage.specs.Lists.Base.{all}
use Rattle.storage.proofs.ListsLaws.MapLaws.{cases, true≢, and_left, and_right}
use Rattle.postcard.specs.Number.{Read, got, fault, ◌then◌, groups, number_bytes, read_bytes, last_group, read_groups, read_number}
use Rattle.postcard.specs.Wide.{Bytes}
use Rattle.postcard.proofs.FieldBack.{bytes-head, bytes_back, number-back, joined, not-got, got-value, got-rest}
use Rattle.wire.specs.Reader.Gives.{number_of}
use Rattle.wire.specs.declared.reader.fault.Fault.{Fault}
use Rattle.wire.specs.declared.reader.fault.Fault.TheVariants as faults
use Rattle.protocol.specs.Answer.{Call}
use Rattle.protocol.specs.Panel.{read_lengthed, read_record}
use Rattle.panel.specs.Records.Reading.{record_call, Whole, Never, Bad, Cut, may_fit}

-- reading `r` of some bytes, and `s` of the same with `more` after them: what was read stays read, and so does every fault but 7
Stays : {A : Type 0} → List ℕ → Read A → Read A → Type 0
Stays more (got a rest) s = s ≡ got a (rest ++ more)
Stays more (fault n) s = (n ≡ 7 → ⊥) → s ≡ fault n

stays_then : {A B : Type 0} (more : List ℕ) (r s : Read A) (f : A → List ℕ → Read B) → Stays more r s → ((a : A) (rest : List ℕ) → Stays more (f a rest) (f a (rest ++ more))) → Stays more (r then f) (s then f)
unfolding Stays
stays_then more (got a rest) s f h k = rw h (k a rest)
stays_then more (fault n) s f h k = λ other. ap (λ (x : Read _). x then f) (h other)

last-stays : (first : Bool) (top b : ℕ) (rest more : List ℕ) → Stays more (last_group first top b rest) (last_group first top b (rest ++ more))
unfolding Stays last_group
last-stays first top b rest more =
    cases (leb b top)
    (λ p. cases (eqb b 0 && not first) (λ q. rw (p, q) (λ o. refl)) (λ q. rw (p, q) refl))
    (λ p. rw p (λ o. refl))

groups-stay : (first : Bool) (left top : ℕ) (bytes more : List ℕ) → Stays more (read_groups false first left top bytes) (read_groups false first left top (bytes ++ more))
unfolding Stays read_groups
groups-stay first zero top [] more = λ o. absurd (o refl)
groups-stay first zero top (b ∷ bytes) more = last-stays first top b bytes more
groups-stay first (suc left) top [] more = λ o. absurd (o refl)
groups-stay first (suc left) top (b ∷ bytes) more =
    cases (ltb b 128)
    (λ p. rw p (last-stays first 127 b bytes more))
    (λ p. rw p (stays_then more (read_groups false false left top bytes) (read_groups false false left top (bytes ++ more)) (λ high rest. got ((b - 128) + 128 * high) rest)
    (groups-stay false left top bytes more) (λ a rest. refl)))

number-stays : (bytes more : List ℕ) → Stays more (read_number bytes) (read_number (bytes ++ more))
unfolding read_number
number-stays bytes more = groups-stay true 9 1 bytes more

-- a number that was read stays
pub number-got : (bytes more : List ℕ) {n : ℕ} {rest : List ℕ} → read_number bytes ≡ got n rest → read_number (bytes ++ more) ≡ got n (rest ++ more)
unfolding Stays
number-got bytes more h = rw h at (number-stays bytes more)

-- a number that is too wide or not shortest stays so
pub number-bad : (bytes more : List ℕ) {n : ℕ} → read_number bytes ≡ fault n → (n ≡ 7 → ⊥) → read_number (bytes ++ more) ≡ fault n
unfolding Stays
number-bad bytes more h o = (rw h at (number-stays bytes more)) o

-- how many bytes are passed: at most one more than `left` by a number that was read, at most `left` by one that is cut
Short : {A : Type 0} → ℕ → List ℕ → Read A → Type 0
Short left bytes (got a rest) = length bytes ≤ length rest + suc left
Short left bytes (fault n) = n ≡ 7 → length bytes ≤ left

last-short : (first : Bool) (left top b : ℕ) (bytes : List ℕ) → Short left (b ∷ bytes) (last_group first top b bytes)
unfolding Short last_group
last-short first left top b bytes =
    cases (leb b top)
    (λ p. cases (eqb b 0 && not first) (λ q. rw (p, q) (λ e. omega arith)) (λ q. rw (p, q) (omega arith)))
    (λ p. rw p (λ e. omega arith))

more-short : (left b : ℕ) (bytes : List ℕ) (f : ℕ → ℕ) (r : Read ℕ) → Short left bytes r → Short (suc left) (b ∷ bytes) (r then λ high rest. got (f high) rest)
unfolding Short
more-short left b bytes f (got a rest) h = omega arith
more-short left b bytes f (fault n) h = λ e. let k : length bytes ≤ left = h e in omega arith

groups-short : (first : Bool) (left top : ℕ) (bytes : List ℕ) → Short left bytes (read_groups false first left top bytes)
unfolding Short read_groups
groups-short first zero top [] = λ e. omega arith
groups-short first zero top (b ∷ bytes) = last-short first zero top b bytes
groups-short first (suc left) top [] = λ e. omega arith
groups-short first (suc left) top (b ∷ bytes) =
    cases (ltb b 128)
    (λ p. rw p (last-short first (suc left) 127 b bytes))
    (λ p. rw p (more-short left b bytes (λ high. (b - 128) + 128 * high) (read_groups false false left top bytes) (groups-short false left top bytes)))

-- a number takes at most ten bytes
pub number_short : (bytes : List ℕ) {n : ℕ} {rest : List ℕ} → read_number bytes ≡ got n rest → length bytes ≤ length rest + 10
unfolding read_number Short
number_short bytes h = rw h at (groups-short true 9 1 bytes)

-- and nine when it is cut
pub cut_short : (bytes : List ℕ) → read_number bytes ≡ fault 7 → length bytes ≤ 9
unfolding read_number Short
cut_short bytes h = (rw h at (groups-short true 9 1 bytes)) refl

-- a last group is no cut
last-whole : (first : Bool) (top b : ℕ) (bytes : List ℕ) → last_group first top b bytes ≡ fault 7 → ⊥
unfolding last_group
last-whole first top b bytes h =
    cases (leb b top)
    (λ p. cases (eqb b 0 && not first) (λ q. eight (rw (p, q) at h)) (λ q. not-got (sym (rw (p, q) at h))))
    (λ p. eight (rw p at h))
  where
    eight : ◌≡◌ {A = Read ℕ} (fault 8) (fault 7) → ⊥
    eight e = let z : ◌≡◌ {A = ℕ} 8 7 = cc in omega arith

-- a cut number's groups after the first are cut too
more_cut : (f : ℕ → ℕ) (r : Read ℕ) → (r then λ high rest. got (f high) rest) ≡ fault 7 → r ≡ fault 7
more_cut f (got a rest) h = not-got (sym h)
more_cut f (fault n) h = h

-- a number that one byte 1 more completes
record Completes (first : Bool) (left top : ℕ) (bytes : List ℕ) : Type 0 where
  value : ℕ
  reads : read_groups false first left top (bytes ++ (1 ∷ [])) ≡ got value []

groups-complete : (first : Bool) (left top : ℕ) (bytes : List ℕ) → 1 ≤ top → read_groups false first left top bytes ≡ fault 7 → Completes first left top bytes
unfolding read_groups last_group
groups-complete first zero top [] h e = record { value = 1; reads = rw (le-leb 1 top h) refl }
groups-complete first zero top (b ∷ bytes) h e = absurd (last-whole first top b bytes e)
groups-complete first (suc left) top [] h e = record { value = 1; reads = refl }
groups-complete first (suc left) top (b ∷ bytes) h e =
    cases (ltb b 128)
    (λ p. absurd (last-whole first 127 b bytes (rw p at e)))
    (λ p. let k = groups-complete false left top bytes h (more_cut (λ high. (b - 128) + 128 * high) (read_groups false false left top bytes) (rw p at e)) in
    record { value = (b - 128) + 128 * k.value; reads = rw (p, k.reads) refl })

-- a number that is cut, without its first byte
record Peeled (left top b : ℕ) (bytes : List ℕ) : Type 0 where
  goes_on : 128 ≤ b
  cut : read_groups false false left top bytes ≡ fault 7

peel : (first : Bool) (left top b : ℕ) (bytes : List ℕ) → read_groups false first (suc left) top (b ∷ bytes) ≡ fault 7 → Peeled left top b bytes
unfolding read_groups
peel first left top b bytes e =
    cases (ltb b 128)
    (λ p. absurd (last-whole first 127 b bytes (rw p at e)))
    (λ p. record { goes_on = ltb-false b 128 p; cut = more_cut (λ high. (b - 128) + 128 * high) (read_groups false false left top bytes) (rw p at e) })

-- a number that was read, without its first byte
record Opened (left top b n : ℕ) (bytes rest : List ℕ) : Type 0 where
  high : ℕ
  reads : read_groups false false left top bytes ≡ got high rest
  value : n ≡ (b - 128) + 128 * high

unpeel : (first : Bool) (left top b n : ℕ) (bytes rest : List ℕ) → 128 ≤ b → read_groups false first (suc left) top (b ∷ bytes) ≡ got n rest → Opened left top b n bytes rest
unfolding read_groups
unpeel first left top b n bytes rest h e =
    let j = joined (read_groups false false left top bytes) (λ high end. got ((b - 128) + 128 * high) end) n rest (rw (le-ltb b 128 h) at e) in
    record { high = j.value; reads = j.before ∙ ap (λ (x : List ℕ). got j.value x) (got-rest j.after); value = sym (got-value j.after) }

-- "shortest": groups after the first make no 0
last_positive : (top b n : ℕ) (bytes rest : List ℕ) → last_group false top b bytes ≡ got n rest → 1 ≤ n
unfolding last_group
last_positive top b n bytes rest h =
    cases (leb b top)
    (λ p. cases (eqb b 0)
    (λ q. not-got (rw (p, q) at h))
    (λ q. let k : got b bytes ≡ got n rest = rw (p, q) at h in
    let v : b ≡ n = cc in
    let z : n ≡ 0 → ⊥ = λ e. eqb-false b 0 q (v ∙ e) in
    positive n z))
    (λ p. not-got (rw p at h))
  where
    positive : (n : ℕ) → (n ≡ 0 → ⊥) → 1 ≤ n
    positive zero z = absurd (z refl)
    positive (suc n) z = omega arith

groups-positive : (left top n : ℕ) (bytes rest : List ℕ) → read_groups false false left top bytes ≡ got n rest → 1 ≤ n
unfolding read_groups
groups-positive zero top n [] rest h = not-got h
groups-positive zero top n (b ∷ bytes) rest h = last_positive top b n bytes rest h
groups-positive (suc left) top n [] rest h = not-got h
groups-positive (suc left) top n (b ∷ bytes) rest h =
    cases (ltb b 128)
    (λ p. last_positive 127 b n bytes rest (rw p at h))
    (λ p. let o = unpeel false left top b n bytes rest (ltb-false b 128 p) h in
    omega (arith, o.value, groups-positive left top o.high bytes rest o.reads))

-- a length that is cut, and begins as none of at most 16,384 does, is larger
pub too_long : (bytes more : List ℕ) (n : ℕ) (rest : List ℕ) → read_number bytes ≡ fault 7 → may_fit bytes ≡ false → read_number (bytes ++ more) ≡ got n rest → 16384 < n
unfolding read_number may_fit
too_long [] more n rest h f e = true≢ (sym f)
too_long (a ∷ []) more n rest h f e = true≢ (sym f)
too_long (a ∷ b ∷ []) more n rest h f e =
    let p = peel true 8 1 a (b ∷ []) h in
    let q = peel false 7 1 b [] p.cut in
    let o = unpeel true 8 1 a n (b ∷ more) rest p.goes_on e in
    let u = unpeel false 7 1 b o.high more rest q.goes_on o.reads in
    let v = groups-positive 7 1 u.high more rest u.reads in
    cases (eqb a 128)
    (λ x. cases (eqb b 128)
    (λ y. true≢ (sym (rw (x, y) at f)))
    (λ y. let z : b ≡ 128 → ⊥ = eqb-false b 128 y in
    let w : 128 < b = above b q.goes_on z in
    omega (arith, o.value, u.value, v, p.goes_on)))
    (λ x. let z : a ≡ 128 → ⊥ = eqb-false a 128 x in
    let w : 128 < a = above a p.goes_on z in
    omega (arith, o.value, u.value, v, q.goes_on))
  where
    above : (k : ℕ) → 128 ≤ k → (k ≡ 128 → ⊥) → 128 < k
    above k h z = cases (ltb 128 k) (λ t. ltb-true 128 k t) (λ t. absurd (z (omega (arith, ltb-false 128 k t))))
too_long (a ∷ b ∷ c ∷ bytes) more n rest h f e =
    let p = peel true 8 1 a (b ∷ c ∷ bytes) h in
    let q = peel false 7 1 b (c ∷ bytes) p.cut in
    let r = peel false 6 1 c bytes q.cut in
    let o = unpeel true 8 1 a n (b ∷ c ∷ bytes ++ more) rest p.goes_on e in
    let u = unpeel false 7 1 b o.high (c ∷ bytes ++ more) rest q.goes_on o.reads in
    let w = unpeel false 6 1 c u.high (bytes ++ more) rest r.goes_on u.reads in
    let v = groups-positive 6 1 w.high (bytes ++ more) rest w.reads in
    omega (arith, o.value, u.value, w.value, v)

-- a number takes a byte at least
Takes : {A : Type 0} → List ℕ → Read A → Type 0
Takes bytes (got a rest) = length rest < length bytes
Takes bytes (fault n) = Unit {0}

last-takes : (first : Bool) (top b : ℕ) (bytes : List ℕ) → Takes (b ∷ bytes) (last_group first top b bytes)
unfolding Takes last_group
last-takes first top b bytes = cases (leb b top) (λ p. cases (eqb b 0 && not first) (λ q. rw (p, q) tt) (λ q. rw (p, q) (omega arith))) (λ p. rw p tt)

more-takes : (b : ℕ) (bytes : List ℕ) (f : ℕ → ℕ) (r : Read ℕ) → Takes bytes r → Takes (b ∷ bytes) (r then λ high rest. got (f high) rest)
unfolding Takes
more-takes b bytes f (got a rest) h = omega arith
more-takes b bytes f (fault n) h = tt

groups-take : (first : Bool) (left top : ℕ) (bytes : List ℕ) → Takes bytes (read_groups false first left top bytes)
unfolding Takes read_groups
groups-take first zero top [] = tt
groups-take first zero top (b ∷ bytes) = last-takes first top b bytes
groups-take first (suc left) top [] = tt
groups-take first (suc left) top (b ∷ bytes) =
    cases (ltb b 128)
    (λ p. rw p (last-takes first 127 b bytes))
    (λ p. rw p (more-takes b bytes (λ high. (b - 128) + 128 * high) (read_groups false false left top bytes) (groups-take false left top bytes)))

number-takes : (bytes : List ℕ) {n : ℕ} {rest : List ℕ} → read_number bytes ≡ got n rest → length rest < length bytes
unfolding read_number Takes
number-takes bytes h = rw h at (groups-take true 9 1 bytes)

-- as many zeros
zeros : ℕ → List ℕ
zeros zero = []
zeros (suc n) = 0 ∷ zeros n

length-zeros : (n : ℕ) → length (zeros n) ≡ n
unfolding zeros
length-zeros zero = refl
length-zeros (suc n) = ap suc (length-zeros n)

zeros-wide : (n : ℕ) → Bytes (zeros n)
unfolding zeros Bytes all
zeros-wide zero = refl
zeros-wide (suc n) = zeros-wide n

-- a length of at most 16,384 and as many bytes: what is added to bytes that begin it
record Filled (bytes : List ℕ) : Type 0 where
  more : List ℕ
  wide : Bytes more
  n : ℕ
  left : List ℕ
  reads : read_number (bytes ++ more) ≡ got n left
  small : n ≤ 16384
  enough : n ≤ length left

fill : (bytes : List ℕ) → Bytes bytes → read_number bytes ≡ fault 7 → may_fit bytes ≡ true → Filled bytes
unfolding read_number read_groups last_group may_fit Bytes all
fill [] w h f = record { more = 0 ∷ []; wide = refl; n = 0; left = []; reads = refl; small = omega arith; enough = omega arith }
fill (a ∷ []) w h f =
    let p = peel true 8 1 a [] h in
    let n : ℕ = (a - 128) + 128 * 1 in
    record {
      more = 1 ∷ zeros n;
      wide = zeros-wide n;
      n = n;
      left = zeros n;
      reads = rw (le-ltb a 128 p.goes_on) refl;
      small = omega (arith, bytes-head a [] w);
      enough = omega (arith, length-zeros n);
    }
fill (a ∷ b ∷ []) w h f =
    let p = peel true 8 1 a (b ∷ []) h in
    let q = peel false 7 1 b [] p.cut in
    let n : ℕ = (a - 128) + 128 * ((b - 128) + 128 * 1) in
    let x : a ≡ 128 = eqb-true a 128 (and_left (eqb a 128) (eqb b 128) f) in
    let y : b ≡ 128 = eqb-true b 128 (and_right (eqb a 128) (eqb b 128) f) in
    record {
      more = 1 ∷ zeros n;
      wide = zeros-wide n;
      n = n;
      left = zeros n;
      reads = rw (le-ltb a 128 p.goes_on, le-ltb b 128 q.goes_on) refl;
      small = omega arith;
      enough = omega (arith, length-zeros n);
    }
fill (a ∷ b ∷ c ∷ bytes) w h f = true≢ f

-- a time, a length of at most 16,384 and as many bytes are a record
pub record_of : (bytes : List ℕ) {t n : ℕ} {rest left : List ℕ} → read_number bytes ≡ got t rest → read_number rest ≡ got n left → n ≤ 16384 → n ≤ length left
    → read_record bytes ≡ got (record_call t (take n left)) (drop n left)
unfolding read_record read_lengthed read_bytes
record_of bytes {n} {left} e l s h = rw (e, l, le-leb n 16384 s, le-leb n (length left) h) refl

-- and nothing else is
record Parts (bytes : List ℕ) (k : Call) (end : List ℕ) : Type 0 where
  t : ℕ
  n : ℕ
  rest : List ℕ
  left : List ℕ
  time : read_number bytes ≡ got t rest
  long : read_number rest ≡ got n left
  small : n ≤ 16384
  enough : n ≤ length left
  call : record_call t (take n left) ≡ k
  after : drop n left ≡ end

parts : (bytes : List ℕ) (k : Call) (end : List ℕ) → read_record bytes ≡ got k end → Parts bytes k end
unfolding read_record read_lengthed read_bytes
parts bytes k end h =
    let j = joined (read_number bytes) _ k end h in
    let l = joined (read_number j.middle) _ k end j.after in
    cases (leb l.value 16384)
    (λ p. cases (leb l.value (length l.middle))
    (λ q. let g : got (record_call j.value (take l.value l.middle)) (drop l.value l.middle) ≡ got k end = rw (p, q) at l.after in
    record {
      t = j.value;
      n = l.value;
      rest = j.middle;
      left = l.middle;
      time = j.before;
      long = l.before;
      small = leb-true l.value 16384 p;
      enough = leb-true l.value (length l.middle) q;
      call = got-value g;
      after = got-rest g;
    })
    (λ q. not-got (rw (p, q) at l.after)))
    (λ p. not-got (rw p at l.after))

-- a record that was read stays, whatever follows
pub record-stays : (bytes more : List ℕ) {k : Call} {end : List ℕ} → read_record bytes ≡ got k end → read_record (bytes ++ more) ≡ got k (end ++ more)
record-stays bytes more {k} {end} h =
    let p = parts bytes k end h in
    let r : read_record (bytes ++ more) ≡ got (record_call p.t (take p.n (p.left ++ more))) (drop p.n (p.left ++ more))
    = record_of (bytes ++ more) (number-got bytes more p.time) (number-got p.rest more p.long) p.small (rw length-append (omega (arith, p.enough))) in
    r ∙ rw (take-append-le p.n p.left more p.enough, drop-append-le p.n p.left more p.enough, p.call, p.after) refl

-- a record takes at least two bytes
pub record-takes : (bytes : List ℕ) (k : Call) (end : List ℕ) → read_record bytes ≡ got k end → length end < length bytes
record-takes bytes k end h =
    let p = parts bytes k end h in
    omega (arith, number-takes bytes p.time, number-takes p.rest p.long, length-drop p.n p.left, ap length p.after)

-- no record: what it would be made of is not there
never-of : (bytes : List ℕ) → ((t n : ℕ) (rest left : List ℕ) → read_number bytes ≡ got t rest → read_number rest ≡ got n left → n ≤ 16384 → n ≤ length left → ⊥) → Never bytes
never-of bytes f = record { never = λ k end h. let p = parts bytes k end h in f p.t p.n p.rest p.left p.time p.long p.small p.enough }

same_rest : {r : Read ℕ} {a b : ℕ} {x y : List ℕ} → r ≡ got a x → r ≡ got b y → x ≡ y
same_rest p q = got-rest (sym p ∙ q)

same-value : {r : Read ℕ} {a b : ℕ} {x y : List ℕ} → r ≡ got a x → r ≡ got b y → a ≡ b
same-value p q = got-value (sym p ∙ q)

-- a time that is too wide or not shortest
pub bad-time : (bytes : List ℕ) (n : ℕ) → read_number bytes ≡ fault n → (n ≡ 7 → ⊥) → Bad bytes
bad-time bytes n h o = record { always = λ more. never-of (bytes ++ more) (λ t m rest left e l s k. not-got (sym (number-bad bytes more h o) ∙ e)) }

-- a length that is, behind the time
pub bad-length : (bytes : List ℕ) (t n : ℕ) (rest : List ℕ) → read_number bytes ≡ got t rest → read_number rest ≡ fault n → (n ≡ 7 → ⊥) → Bad bytes
bad-length bytes t n rest d h o = record {
  always = λ more. never-of (bytes ++ more)
      (λ u m rest' left e l s k. let q : rest' ≡ rest ++ more = same_rest e (number-got bytes more d) in
      let b : read_number (rest ++ more) ≡ got m left = rw q at l in
      not-got (sym (number-bad rest more h o) ∙ b));
}

-- a length that is cut and will be over 16,384
pub bad-fit : (bytes : List ℕ) (t : ℕ) (rest : List ℕ) → read_number bytes ≡ got t rest → read_number rest ≡ fault 7 → may_fit rest ≡ false → Bad bytes
bad-fit bytes t rest d h f = record {
  always = λ more. never-of (bytes ++ more)
      (λ u m rest' left e l s k. let q : rest' ≡ rest ++ more = same_rest e (number-got bytes more d) in
      let b : read_number (rest ++ more) ≡ got m left = rw q at l in
      omega (arith, s, too_long rest more m left h f b));
}

-- "an event over 16,384 bytes"
pub bad-event : (bytes : List ℕ) (t n : ℕ) (rest end : List ℕ) → read_number bytes ≡ got t rest → read_number rest ≡ got n end → 16384 < n → Bad bytes
bad-event bytes t n rest end d g h = record {
  always = λ more. never-of (bytes ++ more)
      (λ u m rest' left e l s k. let q : rest' ≡ rest ++ more = same_rest e (number-got bytes more d) in
      let b : read_number (rest ++ more) ≡ got m left = rw q at l in
      let v : n ≡ m = same-value (number-got rest more g) b in
      omega (arith, s, v, h));
}

-- a time that is cut
pub cut-time : (bytes : List ℕ) → read_number bytes ≡ fault 7 → Cut bytes
unfolding read_number read_groups last_group Bytes all
cut-time bytes h =
    let c = groups-complete true 9 1 bytes (omega arith) h in
    let e : read_number (bytes ++ (1 ∷ 0 ∷ [])) ≡ got c.value (0 ∷ []) = subst (λ (x : List ℕ). read_number x ≡ got c.value (0 ∷ [])) (append_assoc bytes (1 ∷ []) (0 ∷ [])) (number-got (bytes ++ (1 ∷ [])) (0 ∷ []) c.reads) in
    record {
      yet = never-of bytes (λ t n rest left e l s k. not-got (sym h ∙ e));
      more = 1 ∷ 0 ∷ [];
      wide = refl;
      call = record_call c.value [];
      rest = [];
      reads = record_of (bytes ++ (1 ∷ 0 ∷ [])) e refl (omega arith) (omega arith);
      few = omega (arith, cut_short bytes h);
    }

-- a length that is cut, and may be at most 16,384
pub cut-length : (bytes : List ℕ) (t : ℕ) (rest : List ℕ) → Bytes bytes → read_number bytes ≡ got t rest → read_number rest ≡ fault 7 → may_fit rest ≡ true → Cut bytes
cut-length bytes t rest w d h f =
    let g = fill rest (number-back bytes t rest w d).left h f in
    record {
      yet = never-of bytes
          (λ u m rest' left e l s k. let q : rest' ≡ rest = same_rest e d in
          let b : read_number rest ≡ got m left = rw q at l in
          not-got (sym h ∙ b));
      more = g.more;
      wide = g.wide;
      call = record_call t (take g.n g.left);
      rest = drop g.n g.left;
      reads = record_of (bytes ++ g.more) (number-got bytes g.more d) g.reads g.small g.enough;
      few = omega (arith, number_short bytes d, cut_short rest h);
    }

-- an event that is cut
pub cut-event : (bytes : List ℕ) (t n : ℕ) (rest end : List ℕ) → read_number bytes ≡ got t rest → read_number rest ≡ got n end → n ≤ 16384 → (k : ℕ) → read_bytes n end ≡ fault k → Cut bytes
unfolding read_bytes
cut-event bytes t n rest end d g h k c =
    let less : length end < n = cases (leb n (length end)) (λ p. not-got (sym (rw p at c))) (λ p. below-of p) in
    record {
      yet = never-of bytes
          (λ u m rest' left e l s f. let q : rest' ≡ rest = same_rest e d in
          let b : read_number rest ≡ got m left = rw q at l in
          let v : n ≡ m = same-value g b in
          let y : end ≡ left = same_rest g b in
          omega (arith, f, v, less, ap length y));
      more = zeros n;
      wide = zeros-wide n;
      call = record_call t (take n (end ++ zeros n));
      rest = drop n (end ++ zeros n);
      reads = record_of (bytes ++ zeros n) (number-got bytes (zeros n) d) (number-got rest (zeros n) g) h (rw length-append (omega (arith, length-zeros n)));
      few = omega (arith, less, number_short bytes d, number_short rest g);
    }
  where
    below-of : leb n (length end) ≡ false → length end < n
    below-of p = leb-false n (length end) p

-- a whole record: all of it stands before what is left
record Stood (bytes event after : List ℕ) : Type 0 where
  front : List ℕ
  some : 1 ≤ length front
  same : bytes ≡ front ++ after

-- a number takes a byte at least
number-some : (n : ℕ) → 1 ≤ length (number_bytes n)
unfolding number_bytes groups
number-some n = cases (ltb n 128) (λ p. rw p (omega arith)) (λ p. rw p (omega arith))

stood : (bytes event after : List ℕ) (t n : ℕ) (rest end : List ℕ) → Bytes bytes → read_number bytes ≡ got t rest → read_number rest ≡ got n end → read_bytes n end ≡ got event after → Stood bytes event after
stood bytes event after t n rest end w d g b =
    let time = number-back bytes t rest w d in
    let long = number-back rest n end time.left g in
    let parts = bytes_back n end event after long.left b in
    record {
      front = number_bytes t ++ (number_bytes n ++ event);
      some = omega (arith, number-some t, length-append (number_bytes t) (number_bytes n ++ event));
      same = time.same ∙ ap (λ (l : List ℕ). number_bytes t ++ l) (long.same ∙ ap (λ (l : List ℕ). number_bytes n ++ l) parts.same ∙ sym (append_assoc (number_bytes n) event after)) ∙ sym (append_assoc (number_bytes t) (number_bytes n ++ event) after);
    }

pub whole-inside : (bytes event after : List ℕ) (t n : ℕ) (rest end : List ℕ) → Bytes bytes → read_number bytes ≡ got t rest → read_number rest ≡ got n end → read_bytes n end ≡ got event after → length after ≤ length bytes
whole-inside bytes event after t n rest end w d g b =
    let s = stood bytes event after t n rest end w d g b in
    omega (arith, ap length s.same, length-append s.front after)

pub whole : (bytes event after : List ℕ) (t n : ℕ) (rest end : List ℕ) → Bytes bytes → read_number bytes ≡ got t rest → read_number rest ≡ got n end → n ≤ 16384 → read_bytes n end ≡ got event after
    → Whole bytes t event (length bytes - length after)
unfolding read_record read_lengthed
whole bytes event after t n rest end w d g h b =
    let s = stood bytes event after t n rest end w d g b in
    record {
      some = omega (arith, s.some, ap length s.same, length-append s.front after);
      inside = omega arith;
      reads = rw (d, g, le-leb n 16384 h, b) (ap (λ (l : List ℕ). got (record_call t event) l) (suffix s.front after bytes s.same));
    }
  where
    suffix : (front behind all : List ℕ) → all ≡ front ++ behind → behind ≡ drop (length all - length behind) all
    suffix front behind all e =
        let k : length all - length behind ≡ length front = omega (arith, ap length e, length-append front behind) in
        rw (k, e) (sym (drop-append_seam front behind))

-- what `may_fit` asks, by how many bytes there are
pub fit-short : (xs : List ℕ) → length xs < 2 → may_fit xs ≡ true
unfolding may_fit
fit-short [] h = refl
fit-short (a ∷ []) h = refl
fit-short (a ∷ b ∷ xs) h = absurd (omega arith)

pub fit-long : (xs : List ℕ) → 2 < length xs → may_fit xs ≡ false
unfolding may_fit
fit-long [] h = absurd (omega arith)
fit-long (a ∷ []) h = absurd (omega arith)
fit-long (a ∷ b ∷ []) h = absurd (omega arith)
fit-long (a ∷ b ∷ c ∷ xs) h = refl

pub fit-two : (xs : List ℕ) → length xs ≡ 2 → may_fit xs ≡ (eqb (get_or xs 0 0) 128 && eqb (get_or xs 1 0) 128)
unfolding may_fit
fit-two [] h = absurd (omega arith)
fit-two (a ∷ []) h = absurd (omega arith)
fit-two (a ∷ b ∷ []) h = refl
fit-two (a ∷ b ∷ c ∷ xs) h = absurd (omega arith)

-- another fault than that the bytes end
pub other_fault : (e : Fault) → (e ≡ faults.Ends → ⊥) → number_of e ≡ 7 → ⊥
other_fault faults.Ends h n = h refl
other_fault faults.Form h n = omega arith
other_fault faults.Left h n = omega arith
other_fault faults.Retired h n = omega arith
other_fault faults.Output h n = omega arith

-- where there is no byte, one can follow
pub bad-none : Bad [] → ⊥
unfolding read_record read_lengthed read_bytes read_number read_groups last_group
bad-none b = (b.always (0 ∷ 0 ∷ [])).never (record_call 0 []) [] refl
