-- What a lane makes a message of.
use Rattle.std.specs.Prelude.{ℕ, cond, eqb, ℤ, nat_abs}
use Rattle.laws.specs.Definitions.{negative}
use Rattle.iteration.specs.Value.{signed}

-- Its t, the smallest magnitude, and the two magnitudes reduced, each under the sign of all the check's
-- edges. Without the edge that reached min1: where two are as small, min2 is min1, and so it is where |t| is 128 and min1 127. That this
-- is Check's `message` is shown (Laws, reply_is).
abbrev pub replied : ℤ → ℕ → ℤ → ℤ → ℤ
replied t least m1 m2 = signed (negative t) (cond (eqb (nat_abs t) least) m2 m1)
