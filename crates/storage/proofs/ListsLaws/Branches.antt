-- A function of an `if`, and two `if`s with equal branches.
use Rattle.std.proofs.Common.{◌≡◌, refl, Bool, true, false, if◌then◌else◌}

-- a function of a branch
pub if-on : {A B : Type 0} (f : A → B) (b : Bool) (x y : A) → f (if b then x else y) ≡ (if b then f x else f y)
if-on f true x y = refl
if-on f false x y = refl

pub if-both : {A : Type 0} (b : Bool) {x y u v : A} → x ≡ u → y ≡ v → (if b then x else y) ≡ (if b then u else v)
if-both true p q = p
if-both false p q = q

pub if-same : {A : Type 0} (b : Bool) {x y u : A} → x ≡ u → y ≡ u → (if b then x else y) ≡ u
if-same true p q = p
if-same false p q = q
