-- The multiple up to its limit.
use Rattle.std.specs.Prelude.{ℕ, Option, None, Some, if◌then◌else◌, leb}

-- A number up to the verdict's limit, and none above.
abbrev pub within_limit : ℕ → Option ℕ
within_limit L = if leb L 1000000 then Some L else None
