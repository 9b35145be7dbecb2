-- The elements of Gf with xor and `mul` are a ring; a field where every element squared suc n times is itself, and only 0 and 1 are their own
-- squares (GfChecks: by two computed checks). Pairs with a proof are compared by the logic's HLevel, which std does not hand on.
use Rattle.std.specs.Prelude.{◌≡◌, ◌⊎◌, ℕ, suc, ◌^◌, ◌<◌}
use Rattle.std.proofs.Common.{ap, ◌∙◌, arith, pow_pos}
use mathlib.Core.HLevel.{Σ_prop_discrete}
use Rattle.std.proofs.Math.Bridge.{le_prop}
use Rattle.std.proofs.Math.Decide.{ℕ_discrete}
use Rattle.std.proofs.Math.Pow.{pow-lt}
use Rattle.laws.specs.Xor.{⊕-assoc, ⊕-comm, ⊕-self, ⊕-zero, ⊕-lt}
use Rattle.laws.specs.Definitions.{◌⊕◌}
use Rattle.algebra.specs.Ring.{Ring, Field}
use Rattle.algebra.specs.RingLaws.{sqs, ones_power, fermat_inverse}
use Rattle.algebra.specs.Gf.{El, mul}
use Rattle.algebra.specs.GfLaws.{el_path, one_not_zero, mul_lt, mul_add_r, one_mul', mul_comm', mul_assoc'}

module _ (n poly : ℕ) (hp : poly < 2 ^ suc n) where
  -- 0, 1, xor and `mul`; then that the laws hold
  unfoldable pub gf_ring : Ring (El n)
  gf_ring =
      record {
        𝟘 = (0, pow_pos (suc n));
        𝟙 = (1, pow-lt {i = 0} (omega arith));
        ◌⊞◌ = λ a b. (a.0 ⊕ b.0, ⊕-lt (suc n) a.1 b.1);
        ◌⊠◌ = λ a b. (mul n poly a.0 b.0, mul_lt n poly hp a.0 b.0 b.1);
        ⊞-assoc = λ a b c. el_path (⊕-assoc a.0 b.0 c.0);
        ⊞-comm = λ a b. el_path (⊕-comm a.0 b.0);
        ⊞-zero = λ a. el_path (⊕-zero a.0);
        ⊞-self = λ a. el_path (⊕-self a.0);
        ⊠-assoc = λ a b c. el_path (mul_assoc' n poly hp a.0 b.0 c.0 a.1 b.1 c.1);
        ⊠-comm = λ a b. el_path (mul_comm' n poly hp a.0 b.0 a.1 b.1);
        ⊠-one = λ a. el_path (mul_comm' n poly hp a.0 1 a.1 (pow-lt {i = 0} (omega arith)) ∙ one_mul' n poly hp a.0);
        ⊠-dist = λ a b c. el_path (mul_add_r n poly hp a.0 b.0 c.0);
      }

  -- the inverse is a power, 2 ^ suc n - 2; that it is the inverse is a law of `Field`
  unfoldable pub gf_field : ((a : El n) → sqs gf_ring (suc n) a ≡ a) → ((a : El n) → gf_ring.◌⊠◌ a a ≡ a → (a ≡ gf_ring.𝟘) ⊎ (a ≡ gf_ring.𝟙)) → Field (El n)
  unfolding gf_ring
  gf_field fix idempotents =
      record {
        ring = gf_ring;
        inv = λ a. ones_power gf_ring n (gf_ring.◌⊠◌ a a);
        inv_law = fermat_inverse gf_ring n fix idempotents;
        one_nz = λ e. one_not_zero (ap (λ (x : El n). x.0) e);
        dec = Σ_prop_discrete (λ x. le_prop) ℕ_discrete;
      }
