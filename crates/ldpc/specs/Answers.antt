-- What the entry points answer, and what they leave in the lent slices: the first refusal that applies, and then nothing is changed.
use Rattle.std.specs.Prelude.{cond, List, ◌++◌, ℕ, suc, ◌+◌, eqb, ltb, leb, length, drop, Result}
use Rattle.refusal.specs.Number.{answer}
use Rattle.refusal.specs.declared.Refusal.{Refusal}
use Rattle.ldpc_shape.specs.declared.Sizes.{Sizes}
use Rattle.ldpc_shape.specs.Shape.{k_of, p_of, e_of, sizes_of, code_refusal}
use Rattle.ldpc_edges.specs.Code.{check, edge_lists, parity, encode, weight}

-- ---- the refusals: 2 to 6, then 12 and 13 where they concern the call
-- a if it is a refusal, else b
unfoldable pub or_else : ℕ → ℕ → ℕ
or_else a b = cond (eqb a 0) b a

-- "a lent output or work slice is too short": `needed` of `size` numbers
unfoldable pub short_of : ℕ → ℕ → ℕ
short_of needed size = cond (ltb size needed) 13 0

-- 12, unless there are as many bytes as there should be
unfoldable pub other_of : ℕ → ℕ → ℕ
other_of size wanted = cond (eqb size wanted) 0 12

-- 12: "a check number is P or more"
unfoldable pub beyond_of : ℕ → ℕ → ℕ
beyond_of c p = cond (leb p c) 12 0

unfoldable pub new_refusal : ℕ → List ℕ → List ℕ → ℕ → ℕ
new_refusal n lens addrs size = or_else (code_refusal n lens addrs) (short_of (suc (p_of n lens) + e_of n lens addrs) size)

unfoldable pub check_refusal : ℕ → List ℕ → List ℕ → ℕ → ℕ → ℕ
check_refusal n lens addrs c size =
    or_else (code_refusal n lens addrs) (or_else (beyond_of c (p_of n lens)) (short_of (length (check n lens addrs c)) size))

-- 12: "information is not k long"
unfoldable pub parity_refusal : ℕ → List ℕ → List ℕ → ℕ → ℕ → ℕ
parity_refusal n lens addrs k size = or_else (code_refusal n lens addrs) (or_else (other_of k (k_of lens)) (short_of (p_of n lens) size))

unfoldable pub encode_refusal : ℕ → List ℕ → List ℕ → ℕ → ℕ → ℕ
encode_refusal n lens addrs k size = or_else (code_refusal n lens addrs) (or_else (other_of k (k_of lens)) (short_of n size))

-- 12: "a hard word not n"
unfoldable pub weight_refusal : ℕ → List ℕ → List ℕ → ℕ → ℕ
weight_refusal n lens addrs size = or_else (code_refusal n lens addrs) (other_of size n)

-- ---- the answers
-- for a slice of `size` numbers
unfoldable pub new_answer : ℕ → List ℕ → List ℕ → ℕ → Result Sizes Refusal
new_answer n lens addrs size = answer (new_refusal n lens addrs size) (sizes_of n lens addrs)

unfoldable pub check_answer : ℕ → List ℕ → List ℕ → ℕ → ℕ → Result ℕ Refusal
check_answer n lens addrs c size = answer (check_refusal n lens addrs c size) (length (check n lens addrs c))

-- for information of k bytes and a slice of `size` bytes
unfoldable pub parity_answer : ℕ → List ℕ → List ℕ → ℕ → ℕ → Result Unit Refusal
parity_answer n lens addrs k size = answer (parity_refusal n lens addrs k size) tt

unfoldable pub encode_answer : ℕ → List ℕ → List ℕ → ℕ → ℕ → Result Unit Refusal
encode_answer n lens addrs k size = answer (encode_refusal n lens addrs k size) tt

unfoldable pub weight_answer : ℕ → List ℕ → List ℕ → List ℕ → Result ℕ Refusal
weight_answer n lens addrs bits = answer (weight_refusal n lens addrs (length bits)) (weight n lens addrs bits)

-- ---- the slices: the result in front and the tail as it was, or all as it was
unfoldable pub in_front : ℕ → List ℕ → List ℕ → List ℕ
in_front refusal xs out = cond (eqb refusal 0) (xs ++ drop (length xs) out) out

unfoldable pub new_into : ℕ → List ℕ → List ℕ → List ℕ → List ℕ
new_into n lens addrs lists = in_front (new_refusal n lens addrs (length lists)) (edge_lists n lens addrs) lists

unfoldable pub check_into : ℕ → List ℕ → List ℕ → ℕ → List ℕ → List ℕ
check_into n lens addrs c out = in_front (check_refusal n lens addrs c (length out)) (check n lens addrs c) out

unfoldable pub parity_into : ℕ → List ℕ → List ℕ → List ℕ → List ℕ → List ℕ
parity_into n lens addrs info out = in_front (parity_refusal n lens addrs (length info) (length out)) (parity n lens addrs info) out

unfoldable pub encode_into : ℕ → List ℕ → List ℕ → List ℕ → List ℕ → List ℕ
encode_into n lens addrs info out = in_front (encode_refusal n lens addrs (length info) (length out)) (encode n lens addrs info) out
