-- `put`, a function changed at one place: there, elsewhere, and where nothing changes. Not here: a list changed at one place (lib.Seq, Stores).
use Rattle.std.specs.Prelude.{◌≡◌, refl, ◌≢◌, Bool, ℕ, eqb}
use Rattle.std.proofs.Common.{sym, eqb-true, eq-eqb, ne_eqb}
use Rattle.std.proofs.Math.Path.{ap}
use Rattle.std.proofs.Math.Bool.{cond}
use Rattle.laws.specs.Definitions.{put}
use Rattle.laws.specs.Choice.{by_cond}

module _ {A : Type 0} (f : ℕ → A) (u : ℕ) where
  pub put_same : (x : A) → put f u x u ≡ x
  unfolding put
  put_same x = ap (λ (b : Bool). cond b x (f u)) (eq-eqb u u refl)

  pub put_other : (x : A) (w : ℕ) → w ≢ u → put f u x w ≡ f w
  unfolding put
  put_other x w h = ap (λ (b : Bool). cond b x (f w)) (ne_eqb w u h)

  pub put_self : put f u (f u) ≡ f
  unfolding put
  put_self = λ i w. by_cond (λ x. x ≡ f w) (eqb w u) (f u) (f w) (λ e. ap f (sym (eqb-true w u e))) (λ _. refl) i
