-- The front of a path, and the byte behind it. Assumes nothing.
use Rattle.std.specs.Prelude.{ℕ, ◌+◌, Bool, true, false, cond, Some, None, Option, ◌==◌, nat_lt}
use Rattle.texts.specs.declared.segments.PathFront.{PathFront}

-- a slash ends a segment that has a byte, and is no slash too many; any other byte that is allowed belongs to a segment
abbrev pub extended : (ℕ → Bool) → ℕ → ℕ → PathFront → Option PathFront
extended ok most b r =
    cond (b == 47) (cond r.inside (cond (nat_lt r.slashes most) (Some (record { slashes = r.slashes + 1; inside = false })) None) None)
    (cond (ok b) (Some (record { slashes = r.slashes; inside = true })) None)
