-- Digits read one by one: the number that they spell so far.
use Rattle.std.proofs.Common.{◌≡◌, refl, sym, ap, ◌∙◌, subst, Bool, ◌&&◌, true, T, List, ◌∷◌, [], ◌++◌, append_assoc, ℕ, ◌+◌, ◌*◌, ◌<◌, get_or, leb, le-leb, arith}
use Rattle.laws.specs.Decimal.{digit, Stops, decimal_small, decimal_snoc, decimal_digits, decimal_prefix, decimal_leads, span_prefix}
use Rattle.laws.specs.Definitions.{decimal}
use Rattle.report_form.specs.Form.{Found, Missing}
use Rattle.report_form.specs.Forms.{numbers, not_decimal}

-- a text that begins with the digits of value, which is not 0
pub record Spelled (t : List ℕ) (value : ℕ) (now : List ℕ) : Type 0 where
  pub positive : 0 < value
  pub here : t ≡ decimal value ++ now

pub spelled_again : {t : List ℕ} {value : ℕ} {now : List ℕ} {d : ℕ} {after : List ℕ} → Spelled t value now → d < 10 → now ≡ (48 + d) ∷ after → Spelled t (value * 10 + d) after
spelled_again {value = value} {d = d} {after} s h e =
    record {
      positive = omega (arith, s.positive);
      here = s.here
          ∙ ap (λ (xs : List ℕ). decimal value ++ xs) e
          ∙ sym (append_assoc (decimal value) ((48 + d) ∷ []) after)
          ∙ ap (λ (xs : List ℕ). xs ++ after) (sym (decimal_snoc value d s.positive h));
    }

-- the digits are already more than the bound
pub spelled_over : {t : List ℕ} {value : ℕ} {now : List ℕ} (most : ℕ) → Spelled t value now → most < value → Missing (numbers most) t
spelled_over {value = value} {now} most s l =
    record {
      none = λ x r w f e.
          let (more, p, q) = span_prefix (decimal value) (decimal x) now r (decimal_digits value) f (sym s.here ∙ e) in
          omega (arith, decimal_prefix x value more p);
    }

-- a digit at the front is a number's first one
pub spelled_first : {t : List ℕ} {d : ℕ} {after : List ℕ} → d < 10 → t ≡ (48 + d) ∷ after → t ≡ decimal d ++ after
spelled_first {d = d} {after} h e = e ∙ ap (λ (xs : List ℕ). xs ++ after) (sym (decimal_small d h))

pub goes_on_digit : (d : ℕ) → d < 10 → digit (48 + d) ≡ true
goes_on_digit d h = ap (λ (x : Bool). x && leb (48 + d) 57) (le-leb 48 (48 + d) (omega arith)) ∙ le-leb (48 + d) 57 (omega arith)

-- a 0 with no digit behind it is the number 0
pub zero_found : {t : List ℕ} {d : ℕ} {u : List ℕ} (most : ℕ) → d ≡ 0 → t ≡ (48 + d) ∷ u → Stops u → Found (numbers most) (λ x. x ≡ 0) t u
zero_found {d = d} {u} most z e h =
    record { it = 0; says = refl; within = omega arith; here = spelled_first (omega arith) e ∙ ap (λ (k : ℕ). decimal k ++ u) z; after = h }

-- no leading zeros
pub zero_missing : {t : List ℕ} {d : ℕ} {u : List ℕ} {d' : ℕ} {v : List ℕ} (most : ℕ) → d ≡ 0 → t ≡ (48 + d) ∷ u → d' < 10 → u ≡ (48 + d') ∷ v → Missing (numbers most) t
zero_missing {t} {d} {u} {d'} {v} most o e h g =
    record {
      none = λ x r w f q.
          let l = decimal_leads x in
          let p : (48 + d) ∷ u ≡ l.first ∷ (l.others ++ r) = sym e ∙ q ∙ ap (λ (xs : List ℕ). xs ++ r) l.is in
          let a : 48 + d ≡ l.first = cc in
          let z : x ≡ 0 = l.zero_only (omega arith) in
          let b : (48 + d) ∷ u ≡ 48 ∷ r = sym e ∙ q ∙ ap (λ (k : ℕ). decimal k ++ r) z ∙ ap (λ (xs : List ℕ). xs ++ r) (decimal_small 0 (omega arith)) in
          let c : u ≡ r = cc in
          subst T (sym (goes_on_digit d' h) ∙ ap (λ (xs : List ℕ). digit (get_or xs 0 0)) (sym g ∙ c) ∙ f) tt;
    }

-- a number begins with a digit
pub digit_missing : {t : List ℕ} (most : ℕ) → Stops t → Missing (numbers most) t
digit_missing {t} most h = record { none = λ x r w f e. not_decimal t x r h e }
