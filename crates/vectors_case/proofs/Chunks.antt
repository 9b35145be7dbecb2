-- A chunk of a list, alone.
use Rattle.std.proofs.Common.{◌≡◌, ℕ, zero, suc, ◌+◌, ◌-◌, ◌*◌, ◌<◌, ◌≤◌, List, [], get_or, take, drop, refl, ap, ◌∙◌, arith}
use Rattle.std.proofs.Math.Nat.{mul-zero}
use Rattle.std.proofs.lemmas.List.{drop-drop, drop-take, take-take}
use Rattle.std.specs.Int.{from_le_bytes, w32}
use Rattle.vectors_case.specs.Format.{number}
use Rattle.std.specs.Simd.{first_chunks}

pub get_or-first_chunks : (n k i : ℕ) (xs : List ℕ) → i < k → get_or (first_chunks n k xs) i [] ≡ take n (drop (n * i) xs)
get_or-first_chunks n zero i xs h = absurd (omega arith)
get_or-first_chunks n (suc k) zero xs h = rw mul-zero refl
get_or-first_chunks n (suc k) (suc i) xs h = get_or-first_chunks n k i (drop n xs) (omega arith) ∙
    ap (λ ys. take n ys) (drop-drop (n * i) n xs ∙ ap (λ j. drop j xs) (omega arith))

-- A number of the head is a number of the input.
pub number-take : (input : List ℕ) (i : ℕ) → i < 20 → number (take 80 input) i ≡ number input i
unfolding number
number-take input i h =
    let m = 80 - 4 * i in
    let whole : 80 ≡ 4 * i + m = omega arith in
    let four : 4 ≤ m = omega arith in
    ap (λ ys. from_le_bytes w32 ys) (ap (λ j. take 4 (drop (4 * i) (take j input))) whole ∙ ap (λ ys. take 4 ys) (drop-take (4 * i) m input) ∙ take-take 4 m (drop (4 * i) input) four)

-- So are the numbers that stand in a list like those of the head.
pub numbers_of : (input head xs : List ℕ) → ((i : ℕ) → i < 20 → get_or xs i 0 ≡ number head i) → head ≡ take 80 input → (i : ℕ) → i < 20 → get_or xs i 0 ≡ number input i
numbers_of input head xs same front i h = same i h ∙ rw front (number-take input i h)
