-- Each of the P = 374q checks is in exactly one run of a layered iteration, and in order.
use Rattle.std.specs.Prelude.{◌≡◌, ℕ, ◌+◌, ◌*◌, ◌/◌, ◌%◌, ◌≤◌, ◌<◌}
use Rattle.std.proofs.Common.{sym, ap, ◌∙◌, arith, div-add-mod', mod-lt, mul-le-mul_right}
use Rattle.std.proofs.Math.Decide.{dec_lt}
use Rattle.std.proofs.Math.Arith.{digits_div, digits_mod}
use Rattle.iteration.specs.Iteration.{in_run, run_size, run_count}

-- the iteration comes to check i of run j of layer l
pub record Comes (q s l j i : ℕ) : Type 0 where
  pub layer : l < q
  pub in_layer_lem : j < run_count s
  pub in_run_lem : i < run_size s j

pub record Covers (q s : ℕ) : Type 0 where
  -- every check is in a run,
  pub each : (c : ℕ) → c < 374 * q → (l : ℕ) × ((j : ℕ) × ((i : ℕ) × (Comes q s l j i × (in_run q s l j i ≡ c))))
  -- in one only, and there once;
  pub once : (l j i l' j' i' : ℕ) → Comes q s l j i → Comes q s l' j' i' → in_run q s l j i ≡ in_run q s l' j' i' → (l ≡ l') × ((j ≡ j') × (i ≡ i'))
  -- there are no others, and no run is empty.
  pub only : (l j i : ℕ) → Comes q s l j i → in_run q s l j i < 374 * q
  pub some : (j : ℕ) → j < run_count s → 0 < run_size s j
  -- A layer's checks ascend, from run to run and within a run.
  pub runs_ascend : (l j i j' i' : ℕ) → j < j' → Comes q s l j i → Comes q s l j' i' → in_run q s l j i < in_run q s l j' i'
  pub checks_ascend : (l j i i' : ℕ) → i < i' → Comes q s l j i → in_run q s l j i < in_run q s l j i'

-- two numbers of two digits
same_digits : (m x y a b : ℕ) → a < m → b < m → x * m + a ≡ y * m + b → (x ≡ y) × (a ≡ b)
same_digits m x y a b p r e = (
  sym (digits_div x p) ∙ ap (λ (n : ℕ). n / m) e ∙ digits_div y r,
  sym (digits_mod x p) ∙ ap (λ (n : ℕ). n % m) e ∙ digits_mod y r,
)

module _ (q s : ℕ) (step : 0 < s) where
  -- the runs' checks are 374, and no fewer runs are as many
  counted : (j : ℕ) → j < run_count s → j * s < 374
  counted j h =
      let d = div-add-mod' (373 + s) s in
      let z : (j + 1) * s ≤ run_count s * s = mul-le-mul_right s (omega arith) in
      omega arith

  enough : (x : ℕ) → x < 374 → x / s < run_count s
  enough x h = go (dec_lt (x / s) (run_count s))
    where
      go : Dec (x / s < run_count s) → x / s < run_count s
      go (yes k) = k
      go (no k) =
          let d = div-add-mod' (373 + s) s in
          let m = mod-lt (373 + s) step in
          let e = div-add-mod' x s in
          let z : run_count s * s ≤ x / s * s = mul-le-mul_right s (omega arith) in
          absurd (omega arith)

  below : (c : ℕ) → c < 374 * q → c / q < 374
  below c h = go (dec_lt (c / q) 374)
    where
      go : Dec (c / q < 374) → c / q < 374
      go (yes k) = k
      go (no k) =
          let d = div-add-mod' c q in
          let z : 374 * q ≤ c / q * q = mul-le-mul_right q (omega arith) in
          absurd (omega arith)

  in_order : (l x y : ℕ) → l < q → x < y → l + x * q < l + y * q
  in_order l x y h k = let z : (x + 1) * q ≤ y * q = mul-le-mul_right q (omega arith) in omega arith

  pub covers : Covers q s
  covers =
      record {
        each =
            λ c h. let x = c / q in
            let d = div-add-mod' c q in
            let e = div-add-mod' x s in (
              c % q,
              (x / s, (x % s, (record { layer = mod-lt c (omega arith); in_layer_lem = enough x (below c h); in_run_lem = omega (arith, mod-lt x step, below c h, e) }, ap (λ (y : ℕ). c % q + y * q) e ∙ (omega (arith, d))))),
            );
        once =
            λ l j i l' j' i' a b e. let f = same_digits q (j * s + i) (j' * s + i') l l' a.layer b.layer (omega arith) in
            let g = same_digits s j j' i i' (omega (arith, a.in_run_lem)) (omega (arith, b.in_run_lem)) f.0 in
            (f.1, (g.0, g.1));
        only = λ l j i a. let z : (j * s + i + 1) * q ≤ 374 * q = mul-le-mul_right q (omega (arith, a.in_run_lem)) in omega (arith, a.layer);
        some = λ j h. omega (arith, counted j h);
        runs_ascend =
            λ l j i j' i' h a b. let z : (j + 1) * s ≤ j' * s = mul-le-mul_right s (omega arith) in
            in_order l (j * s + i) (j' * s + i') a.layer (omega (arith, a.in_run_lem));
        checks_ascend = λ l j i i' h a. in_order l (j * s + i) (j * s + i') a.layer (omega arith);
      }
