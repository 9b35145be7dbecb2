-- At most half as many errors as there are syndromes are found by a shortest register of the syndromes (`found`).
use Rattle.std.specs.Prelude.{◌≢◌, ℕ, ◌+◌, ◌≤◌, ◌<◌}
use Rattle.std.proofs.Math.Path.{sym}
use Rattle.algebra.specs.Ring.{Ring, Field}
use Rattle.algebra.specs.Roots.{Distinct}
use Rattle.algebra.specs.Register.{Shortest}
use Rattle.algebra.specs.Errors.{weight, Syndromes, length_right, found_wrong, found_right}
use Rattle.algebra.specs.Corrects.{Found}

module _ {F : Type 0} (K : Field F) where
  open K.ring use {𝟘}

  abbrev R₃ : Ring F
  R₃ = K.ring

  -- ---- n places with locators x
  module _ (n : ℕ) (x : ℕ → F) (x-nz : (p : ℕ) → p < n → x p ≢ 𝟘) (x-d : Distinct n x) where
    module _ (b k : ℕ) (s c : ℕ → F) (l : ℕ) (S : Shortest R₃ s k c l) where
      -- an error of at most half as many places as there are syndromes is found
      pub found : (ε : ℕ → F) → Syndromes K n x b k ε s → weight K n ε + weight K n ε ≤ k → Found K n x b k s c l ε
      found ε s-is enough =
          record {
            syndromes = s-is;
            count = sym (length_right K n x x-nz b k ε s s-is x-d enough c l S);
            wrong = found_wrong K n x x-nz b k ε s s-is x-d enough c l S;
            right = found_right K n x x-nz b k ε s s-is x-d enough c l S;
          }
