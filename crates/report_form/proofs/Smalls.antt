-- A number with its sign, read by way of a number without.
use Rattle.std.proofs.Common.{◌≡◌, refl, sym, ap, ◌∙◌, List, ◌∷◌, ◌++◌, ℕ, suc, ◌-◌, ℤ, pos, negsuc, arith}
use Rattle.laws.specs.Definitions.{decimal, signed}
use Rattle.report_form.specs.Description.{Small}
use Rattle.report_form.specs.Form.{Found, Missing, byte}
use Rattle.report_form.specs.Forms.{numbers, not_decimal, smalls}

pub plus_found : {t u : List ℕ} {value : ℕ} {z : ℤ} → z ≡ pos value → Found (numbers 127) (λ x. x ≡ value) t u → Found smalls (λ x. x ≡ z) t u
unfolding signed
plus_found e f = record { it = pos f.it; says = ap pos f.says ∙ sym e; within = f.within; here = f.here; after = f.after }

pub plus_missing : {t : List ℕ} → Missing (byte 45) t → Missing (numbers 127) t → Missing smalls t
unfolding signed
plus_missing {t} h m = record { none = go }
  where
    go : (z : ℤ) (r : List ℕ) → Small z → smalls.Follow r → t ≡ signed z ++ r → ⊥
    go (pos v) r w f e = m.none v r w f e
    go (negsuc v) r w f e = h.none tt (decimal (suc v) ++ r) tt tt e

pub minus_found : {t u v : List ℕ} {value : ℕ} {z : ℤ} → Found (byte 45) (λ _. Unit) t u → (value ≡ 0 → ⊥) → z ≡ negsuc (value - 1) → Found (numbers 128) (λ x. x ≡ value) u v → Found smalls (λ x. x ≡ z) t v
unfolding signed
minus_found {v = v} {value} h n e f =
    let s : f.it ≡ suc (value - 1) = omega (arith, f.says) in
    record {
      it = negsuc (value - 1);
      says = sym e;
      within = omega (arith, f.within, f.says);
      here = h.here ∙ ap (λ (x : List ℕ). 45 ∷ x) f.here ∙ ap (λ (k : ℕ). 45 ∷ (decimal k ++ v)) s;
      after = f.after;
    }

pub minus_missing : {t u : List ℕ} → Found (byte 45) (λ _. Unit) t u → Missing (numbers 128) u → Missing smalls t
unfolding signed
minus_missing {t} {u} h m = record { none = go }
  where
    go : (z : ℤ) (r : List ℕ) → Small z → smalls.Follow r → t ≡ signed z ++ r → ⊥
    go (pos v) r w f e = not_decimal (45 ∷ u) v r refl (sym h.here ∙ e)
    go (negsuc v) r w f e = let p : 45 ∷ u ≡ 45 ∷ (decimal (suc v) ++ r) = sym h.here ∙ e in let q : u ≡ decimal (suc v) ++ r = cc in m.none (suc v) r (omega arith) f q

-- there is no -0
pub minus_zero : {t u v : List ℕ} {value : ℕ} → Found (byte 45) (λ _. Unit) t u → value ≡ 0 → Found (numbers 128) (λ x. x ≡ value) u v → Missing smalls t
unfolding signed
minus_zero {t} {u} {v} h z f = record { none = go }
  where
    go : (y : ℤ) (r : List ℕ) → Small y → smalls.Follow r → t ≡ signed y ++ r → ⊥
    go (pos k) r w g e = not_decimal (45 ∷ u) k r refl (sym h.here ∙ e)
    go (negsuc k) r w g e =
        let p : 45 ∷ u ≡ 45 ∷ (decimal (suc k) ++ r) = sym h.here ∙ e in
        let q : u ≡ decimal (suc k) ++ r = cc in
        let o = (numbers 128).unique (suc k) f.it r v (omega arith) f.within g f.after (sym q ∙ f.here) in
        omega (arith, o.0, f.says)
