-- The library prints a number as the definition does.
use Rattle.std.proofs.Common.{◌≡◌, sym, ap, ◌∙◌, List, [], ◌∷◌, ◌++◌, ℕ, ◌+◌, ◌%◌, ◌^◌, ◌<◌}
use Rattle.std.specs.Fmt as printed
use Rattle.std.proofs.lemmas.Fmt.{decimal_by_steps}
use Rattle.laws.specs.Decimal.{decimal_small, decimal_more}
use Rattle.laws.specs.Definitions.{decimal}

pub printed_decimal : (n : ℕ) → n < 2 ^ 64 → printed.decimal n ≡ decimal n
printed_decimal =
    decimal_by_steps (λ (n : ℕ) (ds : List ℕ). ds ≡ decimal n) (λ n h. sym (decimal_small n h))
    (λ n ds h e. ap (λ (l : List ℕ). l ++ (48 + n % 10) ∷ []) e ∙ sym (decimal_more n h))
