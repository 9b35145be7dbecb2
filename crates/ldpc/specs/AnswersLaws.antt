-- Laws of the answers: which of two refusals `or_else` gives, and each answer's number is the refusal's.
use Rattle.std.specs.Prelude.{◌≡◌, cond, not, List, ℕ, ◌*◌, ◌≤◌, eqb, ltb, leb, length}
use Rattle.std.proofs.Common.{sym, ap, ◌∙◌, arith, eq-eqb, ne_eqb}
use Rattle.refusal.specs.Number.{number_of}
use Rattle.refusal.specs.NumberLaws.{highest, chosen_le, number_answer}
use Rattle.ldpc_shape.specs.Shape.{q_of, total, any_over, counts_mod, bad_length, code_refusal}
use Rattle.ldpc.specs.Answers.{or_else, short_of, other_of, beyond_of, new_refusal, check_refusal, parity_refusal, encode_refusal, weight_refusal, new_answer, check_answer, parity_answer, encode_answer, weight_answer}

pub or_first : (a b r : ℕ) → r ≡ a → (r ≡ 0 → ⊥) → r ≡ or_else a b
unfolding or_else
or_first a b r e ne = e ∙ sym (ap (λ t. cond t b a) (ne_eqb a 0 (λ f. ne (e ∙ f))))

pub or_next : (a b r : ℕ) → a ≡ 0 → r ≡ b → r ≡ or_else a b
unfolding or_else
or_next a b r e f = f ∙ sym (ap (λ t. cond t b a) (eq-eqb a 0 e))

-- ---- the number of each answer is the refusal's
code_le : (n : ℕ) (lens addrs : List ℕ) → code_refusal n lens addrs ≤ highest
unfolding code_refusal
code_le n lens addrs =
    chosen_le (bad_length n) 2 _ (omega arith)
    (chosen_le (leb n (374 * length lens)) 3 _ (omega arith)
    (chosen_le (any_over 128 lens) 4 _ (omega arith)
    (chosen_le (not (eqb (total lens) (length addrs))) 5 _ (omega arith)
    (chosen_le (any_over 126 (counts_mod (q_of n lens) addrs (q_of n lens))) 6 0 (omega arith) (omega arith)))))

else_le : (a b : ℕ) → a ≤ highest → b ≤ highest → or_else a b ≤ highest
unfolding or_else
else_le a b h g = chosen_le (eqb a 0) b a g h

short_le : (needed size : ℕ) → short_of needed size ≤ highest
unfolding short_of
short_le needed size = chosen_le (ltb size needed) 13 0 (omega arith) (omega arith)

other_le : (size wanted : ℕ) → other_of size wanted ≤ highest
unfolding other_of
other_le size wanted = chosen_le (eqb size wanted) 0 12 (omega arith) (omega arith)

beyond_le : (c p : ℕ) → beyond_of c p ≤ highest
unfolding beyond_of
beyond_le c p = chosen_le (leb p c) 12 0 (omega arith) (omega arith)

pub new_number : (n : ℕ) (lens addrs : List ℕ) (size : ℕ) → number_of (new_answer n lens addrs size) ≡ new_refusal n lens addrs size
unfolding new_answer new_refusal
new_number n lens addrs size = number_answer _ _ (else_le _ _ (code_le n lens addrs) (short_le _ size))

pub check_number : (n : ℕ) (lens addrs : List ℕ) (c size : ℕ) → number_of (check_answer n lens addrs c size) ≡ check_refusal n lens addrs c size
unfolding check_answer check_refusal
check_number n lens addrs c size = number_answer _ _ (else_le _ _ (code_le n lens addrs) (else_le _ _ (beyond_le c _) (short_le _ size)))

pub parity_number : (n : ℕ) (lens addrs : List ℕ) (k size : ℕ) → number_of (parity_answer n lens addrs k size) ≡ parity_refusal n lens addrs k size
unfolding parity_answer parity_refusal
parity_number n lens addrs k size = number_answer _ tt (else_le _ _ (code_le n lens addrs) (else_le _ _ (other_le k _) (short_le _ size)))

pub encode_number : (n : ℕ) (lens addrs : List ℕ) (k size : ℕ) → number_of (encode_answer n lens addrs k size) ≡ encode_refusal n lens addrs k size
unfolding encode_answer encode_refusal
encode_number n lens addrs k size = number_answer _ tt (else_le _ _ (code_le n lens addrs) (else_le _ _ (other_le k _) (short_le _ size)))

pub weight_number : (n : ℕ) (lens addrs bits : List ℕ) → number_of (weight_answer n lens addrs bits) ≡ weight_refusal n lens addrs (length bits)
unfolding weight_answer weight_refusal
weight_number n lens addrs bits = number_answer _ _ (else_le _ _ (code_le n lens addrs) (other_le (length bits) n))
