-- The registers of the table that divides, "256 registers of three u64", each t(x) times x^192 mod g, and of the second table beside it.
use Rattle.std.specs.Prelude.{◌≡◌, List, [], ◌∷◌, ℕ, zero, suc, ◌+◌, ◌*◌, ◌/◌, ◌%◌, ◌^◌, ◌<◌, get_or}
use Rattle.std.proofs.Common.{sym, ap, ◌∙◌, not-suc-le-zero, le_of_suc-le-suc, add-zero, zero-add, add-suc, suc-add, arith}
use Rattle.laws.specs.Definitions.{rem}
use Rattle.bch_table.specs.Generator.{generator}

-- t(x) times x^e mod g, for a byte t
unfoldable pub times_power : ℕ → ℕ → ℕ
times_power e t = rem 192 generator (e + 8) (t * 2 ^ e)

-- word w of a register, the highest first
unfoldable pub word_of : ℕ → ℕ → ℕ
word_of zero r = r / 2 ^ 128
word_of (suc zero) r = r / 2 ^ 64 % 2 ^ 64
word_of (suc (suc w)) r = r % 2 ^ 64

-- the words of n registers from that of t on, one after the other
unfoldable pub table_from : ℕ → ℕ → ℕ → List ℕ
table_from e t zero = []
table_from e t (suc n) = word_of 0 (times_power e t) ∷ word_of 1 (times_power e t) ∷ word_of 2 (times_power e t) ∷ table_from e (suc t) n

-- the table: its exponent is 192
unfoldable pub byte_table : List ℕ
byte_table = table_from 192 0 256

-- the second: "entry t is t(x) times x^200 mod g"
unfoldable pub upper_table : List ℕ
upper_table = table_from 200 0 256

-- ---- what stands at each place
-- word w of the register after that of t
after_three : (t w : ℕ) → suc t * 3 + w ≡ suc (suc (suc (t * 3 + w)))
after_three t w = omega arith

at_from : (e t₀ n t w : ℕ) → t < n → w < 3 → get_or (table_from e t₀ n) (t * 3 + w) 0 ≡ word_of w (times_power e (t₀ + t))
unfolding table_from
at_from e t₀ zero t w h hw = absurd (not-suc-le-zero h)
at_from e t₀ (suc n) zero zero h hw = ap (λ (t : ℕ). word_of 0 (times_power e t)) (sym (add-zero t₀))
at_from e t₀ (suc n) zero (suc zero) h hw = ap (λ (t : ℕ). word_of 1 (times_power e t)) (sym (add-zero t₀))
at_from e t₀ (suc n) zero (suc (suc zero)) h hw = ap (λ (t : ℕ). word_of 2 (times_power e t)) (sym (add-zero t₀))
at_from e t₀ (suc n) zero (suc (suc (suc w))) h hw = absurd (not-suc-le-zero (le_of_suc-le-suc (le_of_suc-le-suc (le_of_suc-le-suc hw))))
at_from e t₀ (suc n) (suc t) w h hw =
    ap (λ (m : ℕ). get_or (table_from e t₀ (suc n)) m 0) (after_three t w) ∙ at_from e (suc t₀) n t w (le_of_suc-le-suc h) hw
    ∙ ap (λ (m : ℕ). word_of w (times_power e m)) (suc-add t₀ t ∙ sym (add-suc t₀ t))

pub entry_at : (e t w : ℕ) → t < 256 → w < 3 → get_or (table_from e 0 256) (t * 3 + w) 0 ≡ word_of w (times_power e t)
entry_at e t w ht hw = at_from e 0 256 t w ht hw ∙ ap (λ (m : ℕ). word_of w (times_power e m)) (zero-add t)
