-- What `nearest` means.
use Rattle.std.specs.Prelude.{◌≡◌, ℕ, ◌+◌, ◌*◌, ◌/◌, ◌%◌, ◌<◌, ◌≤◌}
use Rattle.std.proofs.Common.{div-add-mod', mod-lt, arith}
use Rattle.quantise.specs.Soft.{nearest}

-- it is within a half of num / den, and of two whole numbers at a half it is the upper one
pub nearest_within : (num den : ℕ) → 0 < den → (nearest num den * den * 2 ≤ num * 2 + den) × (num * 2 < nearest num den * den * 2 + den)
nearest_within num den h =
    let whole : (num * 2 + den) / (den * 2) * (den * 2) + (num * 2 + den) % (den * 2) ≡ num * 2 + den = div-add-mod' (num * 2 + den) (den * 2) in
    let d : 0 < den * 2 = omega arith in
    let rest : (num * 2 + den) % (den * 2) < den * 2 = mod-lt (num * 2 + den) d in
    (omega arith, omega arith)
