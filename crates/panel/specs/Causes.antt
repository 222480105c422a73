-- Why a run ends with an error.
-- Assumes nothing.
use Rattle.std.specs.Prelude.{ℕ, ◌≡◌, ◌≤◌, ◌^◌, ◌⊎◌, Option, List, length}
use Rattle.std.specs.IoError.{error_kind}
use Rattle.std.specs.Io.KnownBytes.{Consumes}
use Rattle.std.specs.declared.io.Error.{Error}
use Rattle.std.specs.declared.io.ErrorKind.TheVariants.{WriteZero, Other}

-- the last write or flush answered this error; or the last write took none of some bytes, and the error is of the kind WriteZero
abbrev pub WriteCause : (Error → Type 0) → Type 0 → Error → Type 0
WriteCause failed took_none e = failed e ⊎ (took_none × (error_kind e ≡ WriteZero))

-- at least 2 ^ 63 bytes were taken from the input
abbrev pub Long : Option (List ℕ) → Option (List ℕ) → Type 0
Long left left' = (taken : List ℕ) × Consumes left left' taken × (2 ^ 63 ≤ length taken)

-- the last read answered this error; or it comes from the output; or the input does not end, and the error is of the kind Other
abbrev pub Cause : (Error → Type 0) → (Error → Type 0) → Option (List ℕ) → Option (List ℕ) → Error → Type 0
Cause read write left left' e = read e ⊎ write e ⊎ (Long left left' × (error_kind e ≡ Other))
