-- The fields of a line, one after another: the line, or that there is none where a field is missing.
use Rattle.std.proofs.Common.{◌≡◌, refl, List, ℕ, ℤ}
use Rattle.report_form.specs.Description.{Schedule}
use Rattle.report_form.specs.Form.{Found, Missing, byte, seq, lead, lead_found, lead_none, lead_missing, seq_found, seq_none, seq_missing, via_found, via_missing}
use Rattle.report_form.specs.Forms.{numbers, smalls, schedules, wides, last_field, two_fields, three_fields, four_fields, five_fields, six_fields, seven_fields, settings_fields, settings_form, pair_fields, pair_form, pair_from, head_form}

-- ---- the settings
pub no_letter : {t : List ℕ} → Missing (byte 80) t → Missing settings_form t
no_letter m = via_missing (lead 80 seven_fields) settings_fields (lead_none 80 seven_fields m)

pub after_letter : {t u : List ℕ} → Found (byte 80) (λ _. Unit) t u → Missing seven_fields u → Missing settings_form t
after_letter h m = via_missing (lead 80 seven_fields) settings_fields (lead_missing 80 seven_fields h m)

pub after_lanes : {S : ℕ → Type 0} {t u : List ℕ} → Found (lead 9 (numbers 4)) S t u → Missing six_fields u → Missing seven_fields t
after_lanes f m = seq_missing (lead 9 (numbers 4)) six_fields (λ _ _ _ _. refl) f m

pub no_iterations : {t : List ℕ} → Missing wides t → Missing six_fields t
no_iterations m = seq_none wides five_fields (λ _ _ _ _. refl) m

pub after_iterations : {S : ℕ → Type 0} {t u : List ℕ} → Found wides S t u → Missing five_fields u → Missing six_fields t
after_iterations f m = seq_missing wides five_fields (λ _ _ _ _. refl) f m

pub no_offset : {t : List ℕ} → Missing (lead 9 smalls) t → Missing five_fields t
no_offset m = seq_none (lead 9 smalls) four_fields (λ _ _ _ _. refl) m

pub after_offset : {S : ℤ → Type 0} {t u : List ℕ} → Found (lead 9 smalls) S t u → Missing four_fields u → Missing five_fields t
after_offset f m = seq_missing (lead 9 smalls) four_fields (λ _ _ _ _. refl) f m

pub no_schedule : {t : List ℕ} → Missing (lead 9 schedules) t → Missing four_fields t
no_schedule m = seq_none (lead 9 schedules) three_fields (λ _ _ _ _. refl) m

pub after_schedule : {S : Schedule → Type 0} {t u : List ℕ} → Found (lead 9 schedules) S t u → Missing three_fields u → Missing four_fields t
after_schedule f m = seq_missing (lead 9 schedules) three_fields (λ _ _ _ _. refl) f m

pub no_rounds : {t : List ℕ} → Missing wides t → Missing three_fields t
no_rounds m = seq_none wides two_fields (λ _ _ _ _. refl) m

pub after_rounds : {S : ℕ → Type 0} {t u : List ℕ} → Found wides S t u → Missing two_fields u → Missing three_fields t
after_rounds f m = seq_missing wides two_fields (λ _ _ _ _. refl) f m

pub no_first : {t : List ℕ} → Missing wides t → Missing two_fields t
no_first m = seq_none wides last_field (λ _ _ _ _. refl) m

pub after_first : {S : ℕ → Type 0} {t u : List ℕ} → Found wides S t u → Missing last_field u → Missing two_fields t
after_first f m = seq_missing wides last_field (λ _ _ _ _. refl) f m

pub no_length : {t : List ℕ} → Missing wides t → Missing last_field t
no_length m = seq_none wides (byte 10) (λ _ _ _ _. refl) m

pub after_length : {S : ℕ → Type 0} {t u : List ℕ} → Found wides S t u → Missing (byte 10) u → Missing last_field t
after_length f m = seq_missing wides (byte 10) (λ _ _ _ _. refl) f m

pub settings_found : {lanes iterations rounds first size : ℕ} {offset : ℤ} {schedule : Schedule} {t₀ t₁ t₂ t₃ t₄ t₅ t₆ t₇ t₈ t₉ : List ℕ}
    → Found (byte 80) (λ _. Unit) t₀ t₁ → Found (lead 9 (numbers 4)) (λ x. x ≡ lanes) t₁ t₂ → Found wides (λ x. x ≡ iterations) t₂ t₃ → Found (lead 9 smalls) (λ x. x ≡ offset) t₃ t₄
    → Found (lead 9 schedules) (λ x. x ≡ schedule) t₄ t₅ → Found wides (λ x. x ≡ rounds) t₅ t₆ → Found wides (λ x. x ≡ first) t₆ t₇ → Found wides (λ x. x ≡ size) t₇ t₈
    → Found (byte 10) (λ _. Unit) t₈ t₉
    → Found settings_form (λ s. s ≡ record { lanes = lanes; iteration_limit = iterations; offset = offset; schedule = schedule; round_limit = rounds; part_first = first; part_length = size }) t₀ t₉
settings_found p a b o s r f c e =
    via_found (lead 80 seven_fields) settings_fields
    (λ x h. λ i. record { lanes = h.0 i; iteration_limit = h.1.0 i; offset = h.1.1.0 i; schedule = h.1.1.1.0 i; round_limit = h.1.1.1.1.0 i; part_first = h.1.1.1.1.1.0 i; part_length = h.1.1.1.1.1.1.0 i })
    (lead_found 80 seven_fields p
    (seq_found (lead 9 (numbers 4)) six_fields (λ _ _ _ _. refl) a
    (seq_found wides five_fields (λ _ _ _ _. refl) b
    (seq_found (lead 9 smalls) four_fields (λ _ _ _ _. refl) o
    (seq_found (lead 9 schedules) three_fields (λ _ _ _ _. refl) s
    (seq_found wides two_fields (λ _ _ _ _. refl) r (seq_found wides last_field (λ _ _ _ _. refl) f (seq_found wides (byte 10) (λ _ _ _ _. refl) c e))))))))

-- ---- a pair
pub pair_found : {position : ℕ} {value : ℤ} {t u v : List ℕ} → Found wides (λ x. x ≡ position) t u → Found (lead 9 smalls) (λ x. x ≡ value) u v → Found pair_form (λ x. x ≡ pair_from position value) t v
pair_found p z =
    via_found (seq wides (lead 9 smalls) (λ _ _ _ _. refl)) pair_fields (λ x h. λ i. pair_from (h.0 i) (h.1 i)) (seq_found wides (lead 9 smalls) (λ _ _ _ _. refl) p z)

pub no_value : {S : ℕ → Type 0} {t u : List ℕ} → Found wides S t u → Missing (lead 9 smalls) u → Missing pair_form t
no_value f m = via_missing (seq wides (lead 9 smalls) (λ _ _ _ _. refl)) pair_fields (seq_missing wides (lead 9 smalls) (λ _ _ _ _. refl) f m)

-- ---- the first line
pub head_found : {n : ℕ} {t u v w : List ℕ} → Found (byte 78) (λ _. Unit) t u → Found (lead 9 (numbers 1122)) (λ x. x ≡ n) u v → Found (byte 10) (λ _. Unit) v w
    → Found head_form (λ x. x.0 ≡ n) t w
head_found h n e =
    let f = lead_found 78 (seq (lead 9 (numbers 1122)) (byte 10) (λ _ _ _ _. refl)) h (seq_found (lead 9 (numbers 1122)) (byte 10) (λ _ _ _ _. refl) n e) in
    record { it = f.it; says = f.says.0; within = f.within; here = f.here; after = f.after }

pub no_head_letter : {t : List ℕ} → Missing (byte 78) t → Missing head_form t
no_head_letter m = lead_none 78 (seq (lead 9 (numbers 1122)) (byte 10) (λ _ _ _ _. refl)) m

pub no_head_end : {S : ℕ → Type 0} {t u v : List ℕ} → Found (byte 78) (λ _. Unit) t u → Found (lead 9 (numbers 1122)) S u v → Missing (byte 10) v → Missing head_form t
no_head_end h n m =
    lead_missing 78 (seq (lead 9 (numbers 1122)) (byte 10) (λ _ _ _ _. refl)) h (seq_missing (lead 9 (numbers 1122)) (byte 10) (λ _ _ _ _. refl) n m)
