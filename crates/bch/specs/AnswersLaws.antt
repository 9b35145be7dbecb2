-- What each test of the code shows of the entry points' answers; and that encoding gives a codeword.
--
-- In order: the tests of `parity`, `encode` and `decode` (`long_message` to `fair_word`); answer and output of a call that is refused and of one that is
-- not; the encoded bytes (`encode_codeword`).
--
-- Not here: that decoding is exact (ExactLaws); that any shortest register serves (DecodeLaws); that what `decode` promises holds (proofs/Decodes.antt).
use Rattle.std.specs.Prelude.{◌≡◌, ◌≢◌, refl, List, ◌++◌, ℕ, suc, ◌+◌, ◌-◌, ◌≤◌, ◌<◌, length, take, drop}
use Rattle.std.proofs.Math.Path.{sym}
use Rattle.std.proofs.Common.{ap, ap₂, ◌∙◌, subst, append_assoc, arith, length-append, take_at, drop_at, drop-drop}
use Rattle.std.proofs.Math.Logic.{if_pos, if_neg}
use Rattle.std.proofs.Math.Decide.{ℕ_discrete, dec_lt}
use Rattle.std.proofs.Math.Seq.{take-length}
use Rattle.laws.specs.Lists.{lent_from, back_from}
use Rattle.bch_remainder.specs.Word.{parity_of, parity_bits, Codeword}
use Rattle.bch_remainder.specs.Laws.{encoded, encoded_codeword, length_bits}
use Rattle.bch.specs.Answers.{word_refusal, message_refusal, out_if, encode_out}

-- ---- what each test of the code shows
pub long_message : (k need out : ℕ) → 65343 < k → message_refusal k need out ≡ 11
unfolding message_refusal
long_message k need out h = if_pos (dec_lt 65343 k) h 11 _

pub short_output : (k need out : ℕ) → k ≤ 65343 → out < need → message_refusal k need out ≡ 13
unfolding message_refusal
short_output k need out h g = if_neg (dec_lt 65343 k) (λ e. omega arith) 11 _ ∙ if_pos (dec_lt out need) g 13 0

pub fair_message : (k need out : ℕ) → k ≤ 65343 → need ≤ out → message_refusal k need out ≡ 0
unfolding message_refusal
fair_message k need out h g = if_neg (dec_lt 65343 k) (λ e. omega arith) 11 _ ∙ if_neg (dec_lt out need) (λ e. omega arith) 13 0

pub short_word : (n : ℕ) → n < 193 → word_refusal n ≡ 11
unfolding word_refusal
short_word n h = if_pos (dec_lt n 193) h 11 _

pub long_word : (n : ℕ) → 193 ≤ n → 65535 < n → word_refusal n ≡ 11
unfolding word_refusal
long_word n g h = if_neg (dec_lt n 193) (λ e. omega arith) 11 _ ∙ if_pos (dec_lt 65535 n) h 11 0

pub fair_word : (n : ℕ) → 193 ≤ n → n ≤ 65535 → word_refusal n ≡ 0
unfolding word_refusal
fair_word n g h = if_neg (dec_lt n 193) (λ e. omega arith) 11 _ ∙ if_neg (dec_lt 65535 n) (λ e. omega arith) 11 0

-- a word is refused by 11 alone
pub word_refused : (n : ℕ) → word_refusal n ≢ 0 → word_refusal n ≡ 11
word_refused n ne = pick (dec_lt n 193) (dec_lt 65535 n)
  where
    pick : Dec (n < 193) → Dec (65535 < n) → word_refusal n ≡ 11
    pick (yes h) d = short_word n h
    pick (no h) (yes g) = long_word n (omega arith) g
    pick (no h) (no g) = absurd (ne (fair_word n (omega arith) (omega arith)))

-- what a refused call leaves, and one that is not refused. g is the refusal's number less 1.
pub unchanged : (f g : ℕ) (new old : List ℕ) → f ≡ suc g → old ≡ out_if f new old
unfolding out_if
unchanged f g new old e = sym (if_neg (ℕ_discrete f 0) (λ z. omega arith) new old)

pub changed : (f : ℕ) (new old : List ℕ) → f ≡ 0 → new ≡ out_if f new old
unfolding out_if
changed f new old e = sym (if_pos (ℕ_discrete f 0) e new old)

-- the message copied to the front, the parity written into the rest: m ++ d ++ the tail
pub encoded_bytes : (m out copied part d : List ℕ) → copied ≡ take (length m) m ++ drop (length m) out
    → part ≡ d ++ drop 192 (take (length copied - length m) (drop (length m) copied))
    → take (length m) copied ++ (part ++ drop (length copied - length m) (drop (length m) copied)) ≡ m ++ (d ++ drop (length m + 192) out)
encoded_bytes m out copied part d e f =
    let k = length m in
    let c : copied ≡ m ++ drop k out = e ∙ ap (λ (l : List ℕ). l ++ drop k out) (take-length m) in
    let r : drop k copied ≡ drop k out = ap (drop k) c ∙ drop_at m (drop k out) k refl in
    back_from k copied part
    ∙ ap₂ (λ (x y : List ℕ). x ++ y) (ap (take k) c ∙ take_at m (drop k out) k refl)
    (f ∙ ap (λ (l : List ℕ). d ++ drop 192 l) (lent_from k copied ∙ r) ∙ ap (λ (l : List ℕ). d ++ l) (drop-drop 192 k out))

-- encoding gives a codeword: what `encode` writes, without the tail
pub encode_codeword : (m out : List ℕ) → message_refusal (length m) (length m + 192) (length out) ≡ 0 → Codeword (take (length m + 192) (encode_out m out))
unfolding encode_out
encode_codeword m out f = subst Codeword (sym front) (encoded_codeword m)
  where
    whole : out_if (message_refusal (length m) (length m + 192) (length out)) (m ++ (parity_bits (parity_of m) ++ drop (length m + 192) out)) out ≡ encoded m ++ drop (length m + 192) out
    whole = sym (changed _ (m ++ (parity_bits (parity_of m) ++ drop (length m + 192) out)) out f) ∙ sym (append_assoc m (parity_bits (parity_of m)) (drop (length m + 192) out))

    front : take (length m + 192) (encode_out m out) ≡ encoded m
    front =
        ap (take (length m + 192)) whole
        ∙ take_at (encoded m) (drop (length m + 192) out) (length m + 192) (length-append m (parity_bits (parity_of m)) ∙ ap (λ (k : ℕ). length m + k) (length_bits 192 (parity_of m)))
