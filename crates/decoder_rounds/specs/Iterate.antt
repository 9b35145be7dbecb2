-- Every lane's word has one iteration, by the schedule.
use Rattle.std.specs.Prelude.{◌≡◌, Bool, true, false, List, ℕ, ◌/◌, ◌<◌, ℤ}
use Rattle.std.proofs.Math.Path.{sym, ap}
use Rattle.std.proofs.Common.{◌∙◌, arith}
use Rattle.iteration.specs.Check.{Word}
use Rattle.iteration.specs.Iteration.{Code, sequential, layered, iteration_of}
use Rattle.simd.specs.Words.{word}
use Rattle.ldpc_shape.specs.declared.Sizes.{Sizes}
use Rattle.iteration.specs.Lists.{edges_in, code_in}
use Rattle.fixed_conflicts.specs.Prepared.{Prepared}
use Rattle.fixed_layered.specs.Layered.{Layered}

-- every lane's word has had an iteration
abbrev pub Iterates : Bool → ℕ → ℤ → ℕ → ℕ → ℕ → List ℕ → List ℤ → List ℤ → Type 0
Iterates layers step offset n p lanes lists work work' =
    (l : ℕ) → l < lanes → word n (edges_in p lists) lanes work' l ≡ iteration_of layers step offset (code_in p lists) p (word n (edges_in p lists) lanes work l)

module _ (layers : Bool) (step : ℕ) (offset offset' : ℤ) (code : Code) (p : ℕ) (x y : Word) (same : offset' ≡ offset) where
  pub by_sequence : layers ≡ false → y ≡ sequential offset' code p x → y ≡ iteration_of layers step offset code p x
  unfolding iteration_of
  by_sequence is e = e ∙ ap (λ o. sequential o code p x) same ∙ sym (ap (λ b. iteration_of b step offset code p x) is)

  pub by_layers : layers ≡ true → y ≡ layered offset' code (p / 374) step x → y ≡ iteration_of layers step offset code p x
  unfolding iteration_of
  by_layers is e = e ∙ ap (λ o. layered o code (p / 374) step x) same ∙ sym (ap (λ b. iteration_of b step offset code p x) is)

-- the layered column law, with q as the definition has it
pub layered_words : {of : Sizes} {lanes s : ℕ} {o : ℤ} {lists table : List ℕ} {a a' : List ℤ} → Prepared of lists table → Layered of.n of.p of.q lanes o s lists a a' → (l : ℕ) → l < lanes
    → word of.n (edges_in of.p lists) lanes a' l ≡ layered o (code_in of.p lists) (of.p / 374) s (word of.n (edges_in of.p lists) lanes a l)
layered_words {of} {lanes} {s} {o} {lists} {table} {a} {a'} w v l h =
    let e : of.q ≡ of.p / 374 = omega (arith, w.bounds.p_is) in
    v.words l h ∙ ap (λ (q : ℕ). layered o (code_in of.p lists) q s (word of.n (edges_in of.p lists) lanes a l)) e
