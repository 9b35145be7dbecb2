-- Eight bits at a time. Packed: bytes read as one number, the low bits kept, and multiplied by a factor that lays them side by side on top. Spread: a byte laid down
-- eight times, and a bit kept of each.
-- Assumes nothing.
use Rattle.std.proofs.Common.{◌≡◌, refl, sym, ap, ◌∙◌, List, [], ◌∷◌, ℕ, zero, suc, ◌+◌, ◌*◌, ◌/◌, ◌%◌, ◌^◌, ◌<◌, not-suc-le-zero, le_of_suc-le-suc, add-zero, zero-add, add-suc, suc-add, mod-lt, arith, lit<, bit_and, length, get_or}
use Rattle.std.specs.Int.{w64, from_le_bytes, to_le_bytes}
use Rattle.std.proofs.lemmas.Nat.{and_block, mod_low, shr_high}
use Rattle.laws.specs.Xor.{two_pos}
use Rattle.bch_table.specs.Digits.{low_bit}
use Rattle.bch_remainder.specs.Word.{number, number_from, bits_of}
use Rattle.bch_remainder.specs.Laws.{number_lt}

-- a byte more in front of what is masked
masked_more : (n mask m b : ℕ) → b < 256 → bit_and n mask ≡ m → bit_and (n * 256 + b) (mask * 256 + 1) ≡ m * 256 + b % 2
masked_more n mask m b h e = and_block 8 n mask b 1 h (lit< tt) ∙ (λ i. e i * 256 + low_bit b i)

masked : (a b c d e f g h : ℕ) → a < 256 → b < 256 → c < 256 → d < 256 → e < 256 → f < 256 → g < 256
    → bit_and (((((((h * 256 + g) * 256 + f) * 256 + e) * 256 + d) * 256 + c) * 256 + b) * 256 + a) 0x101010101010101 ≡ ((((((h % 2 * 256 + g % 2) * 256 + f % 2) * 256 + e % 2) * 256 + d % 2) * 256 + c % 2) * 256 + b % 2) * 256 + a % 2
masked a b c d e f g h a' b' c' d' e' f' g' =
    masked_more _ _ _ a a' (masked_more _ _ _ b b' (masked_more _ _ _ c c' (masked_more _ _ _ d d' (masked_more _ _ _ e e' (masked_more _ _ _ f f' (masked_more _ _ _ g g' (low_bit h)))))))

-- the product: digits that leave on top, the bits side by side, and less than 2^56
laid : (a b c d e f g h : ℕ) → (((((((h * 256 + g) * 256 + f) * 256 + e) * 256 + d) * 256 + c) * 256 + b) * 256 + a) * 0x8040201008040201 ≡ (b * 128 + c * 32832 + d * 8405024 + e * 2151686160 + f * 550831656968 + g * 141012904183812 + h * 36099303471055874) * 2 ^ 64 + (((((((((0 * 2 + a) * 2 + b) * 2 + c) * 2 + d) * 2 + e) * 2 + f) * 2 + g) * 2 + h) * 2 ^ 56 + (a * 18049651735527937 + b * 9024825867763968 + c * 4512412933881856 + d * 2256206466908160 + e * 1128103225065472 + f * 564049465049088 + g * 281474976710656))
laid a b c d e f g h = omega arith

laid_low : (a b c d e f g : ℕ) → a < 2 → b < 2 → c < 2 → d < 2 → e < 2 → f < 2 → g < 2 → a * 18049651735527937 + b * 9024825867763968 + c * 4512412933881856 + d * 2256206466908160 + e * 1128103225065472 + f * 564049465049088 + g * 281474976710656 < 2 ^ 56
laid_low a b c d e f g a' b' c' d' e' f' g' = omega arith

-- the top eight digits of a number's lowest 64
top_digits : (n q t low : ℕ) → n ≡ q * 2 ^ 64 + (t * 2 ^ 56 + low) → t < 2 ^ 8 → low < 2 ^ 56 → n % 2 ^ 64 / 2 ^ 56 ≡ t
top_digits n q t low e ht hl =
    let fits : t * 2 ^ 56 + low < 2 ^ 64 = omega arith in
    ap (λ (m : ℕ). m / 2 ^ 56) (ap (λ (m : ℕ). m % 2 ^ 64) e ∙ mod_low q 64 _ fits) ∙ shr_high t 56 low hl

pub eight_packed : (w : List ℕ) → length w ≡ 8 → ((i : ℕ) → get_or w i 0 < 256) → bit_and (from_le_bytes w64 w) 0x101010101010101 * 0x8040201008040201 % 2 ^ 64 / 2 ^ 56 ≡ number w
unfolding number number_from
eight_packed [] long small = absurd (omega arith)
eight_packed (a ∷ []) long small = absurd (omega arith)
eight_packed (a ∷ b ∷ []) long small = absurd (omega arith)
eight_packed (a ∷ b ∷ c ∷ []) long small = absurd (omega arith)
eight_packed (a ∷ b ∷ c ∷ d ∷ []) long small = absurd (omega arith)
eight_packed (a ∷ b ∷ c ∷ d ∷ e ∷ []) long small = absurd (omega arith)
eight_packed (a ∷ b ∷ c ∷ d ∷ e ∷ f ∷ []) long small = absurd (omega arith)
eight_packed (a ∷ b ∷ c ∷ d ∷ e ∷ f ∷ g ∷ []) long small = absurd (omega arith)
eight_packed (a ∷ b ∷ c ∷ d ∷ e ∷ f ∷ g ∷ h ∷ []) long small =
    ap (λ (n : ℕ). n * 0x8040201008040201 % 2 ^ 64 / 2 ^ 56) (ap (λ (n : ℕ). bit_and n 0x101010101010101) read ∙ masked a b c d e f g h (small 0) (small 1) (small 2) (small 3) (small 4) (small 5) (small 6))
    ∙ top_digits _ _ _ _ (laid (a % 2) (b % 2) (c % 2) (d % 2) (e % 2) (f % 2) (g % 2) (h % 2)) (number_lt (a ∷ b ∷ c ∷ d ∷ e ∷ f ∷ g ∷ h ∷ []))
    (laid_low (a % 2) (b % 2) (c % 2) (d % 2) (e % 2) (f % 2) (g % 2) (mod-lt a two_pos) (mod-lt b two_pos) (mod-lt c two_pos) (mod-lt d two_pos) (mod-lt e two_pos) (mod-lt f two_pos) (mod-lt g two_pos))
  where
    read : from_le_bytes w64 (a ∷ b ∷ c ∷ d ∷ e ∷ f ∷ g ∷ h ∷ []) ≡ ((((((h * 256 + g) * 256 + f) * 256 + e) * 256 + d) * 256 + c) * 256 + b) * 256 + a
    read = omega arith
eight_packed (a ∷ b ∷ c ∷ d ∷ e ∷ f ∷ g ∷ h ∷ x ∷ w) long small = absurd (omega arith)

-- ---- spread: computed of every byte
unfoldable spread_of : ℕ → List ℕ
spread_of b = to_le_bytes w64 (bit_and (b * 0x8040201008040201 % 2 ^ 64 / 2 ^ 7) 0x101010101010101)

unfoldable made : (ℕ → List ℕ) → ℕ → ℕ → List (List ℕ)
made f t zero = []
made f t (suc n) = f t ∷ made f (suc t) n

made_at : (f : ℕ → List ℕ) (t n i : ℕ) → i < n → get_or (made f t n) i [] ≡ f (t + i)
unfolding made
made_at f t zero i h = absurd (not-suc-le-zero h)
made_at f t (suc n) zero h = ap f (sym (add-zero t))
made_at f t (suc n) (suc i) h = made_at f (suc t) n i (le_of_suc-le-suc h) ∙ ap f (suc-add t i ∙ sym (add-suc t i))

spread_all : made spread_of 0 256 ≡ made (bits_of 8) 0 256
unfolding made spread_of bits_of
spread_all = refl

pub spread_is : (b : ℕ) → b < 256 → to_le_bytes w64 (bit_and (b * 0x8040201008040201 % 2 ^ 64 / 2 ^ 7) 0x101010101010101) ≡ bits_of 8 b
unfolding spread_of
spread_is b h =
    sym (made_at spread_of 0 256 b h ∙ ap spread_of (zero-add b)) ∙ ap (λ (l : List (List ℕ)). get_or l b []) spread_all ∙ made_at (bits_of 8) 0 256 b h ∙ ap (bits_of 8) (zero-add b)
