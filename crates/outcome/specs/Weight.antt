-- A run counts unsatisfied checks on values (iteration), `ldpc::syndrome_weight` on bytes (ldpc_edges). Both counts are the same: a word's unsatisfied
-- checks are the syndrome weight of its hard decisions. So the run's checks are those that encoding meets.
use Rattle.std.proofs.Common.{◌≡◌, Bool, true, false, cond, List, [], ◌∷◌, ℤ, get_or, length, drop, sym, ap₂, ◌∙◌, append-nil, arith, add-one, get_or-take, get_or-drop, ℕ, zero, suc, ◌+◌, ◌-◌, ◌%◌, ◌≤◌, ◌<◌, eq-eqb}
use Rattle.std.proofs.Math.Path.{refl, ap}
use Rattle.laws.specs.Definitions.{negative}
use Rattle.iteration.specs.Check.{Word}
use Rattle.iteration.specs.Iteration.{Code, hard, negatives, unsatisfied, unsatisfied_count}
use Rattle.iteration.specs.Lists.{var, rows_in, code_in}
use Rattle.ldpc_shape.specs.Shape.{k_of, p_of, code_refusal}
use Rattle.ldpc_shape.proofs.Accepted.{accepted}
use Rattle.ldpc_edges.specs.Code.{check, edge_lists, encode, ones, unmet, unmets, weight}
use Rattle.ldpc_edges.proofs.Encoder.{encode_weight}
use Rattle.ldpc_edges.specs.Layout.{Laid}
use Rattle.ldpc_edges.proofs.Lists.{laid}
use Rattle.iteration.specs.ListsLaws.{start_in, degree_in}
use Rattle.iteration.specs.CodeLaws.{code_in_is}
use Rattle.iteration.specs.Code.{code_of}
use Rattle.iteration.specs.Count.{unmet_at}
use Rattle.outcome.specs.Outcome.{bits_of, unmet_of, met_of}
use Rattle.outcome.specs.Laws.{bits_at}

-- ---- a byte of the hard decisions is its value's
hard_bit : (z : ℤ) → hard z % 2 ≡ hard z
hard_bit z = at (negative z)
  where
    at : (b : Bool) → cond b 1 0 % 2 ≡ cond b 1 0
    at true = refl
    at false = refl

bit_at : (n : ℕ) (x : Word) (u : ℕ) → u < n → get_or (bits_of n x) u 0 % 2 ≡ hard (x.L u)
bit_at n x u h = ap (λ (k : ℕ). k % 2) (bits_at n x u h) ∙ hard_bit (x.L u)

-- ---- negative values from the front, as bits are counted
front : (v : ℕ → ℕ) (s d : ℕ) (L : ℕ → ℤ) → negatives v s (suc d) L ≡ hard (L (v s)) + negatives v (suc s) d L
unfolding negatives
front v s zero L = let e : s + 0 ≡ s = omega arith in omega (arith, ap (λ (k : ℕ). hard (L (v k))) e)
front v s (suc d) L = let e : s + suc d ≡ suc s + d = omega arith in omega (arith, front v s d L, ap (λ (k : ℕ). hard (L (v k))) e)

-- the bits bs are the variables of the edges from s on
ones_are : (n : ℕ) (x : Word) (v : ℕ → ℕ) (s : ℕ) (bs : List ℕ) → ((k : ℕ) → k < length bs → v (s + k) ≡ get_or bs k 0) → ((k : ℕ) → k < length bs → get_or bs k 0 < n)
    → ones (bits_of n x) bs ≡ negatives v s (length bs) x.L
unfolding ones negatives
ones_are n x v s [] at below = refl
ones_are n x v s (b ∷ bs) at below =
    let z : s + 0 ≡ s = omega arith in
    let h : v s ≡ b = sym (ap v z) ∙ at 0 (omega arith) in
    let i = ones_are n x v (suc s) bs (λ k q. let e : suc s + k ≡ s + suc k = omega arith in ap v e ∙ at (suc k) (omega arith)) (λ k q. below (suc k) (omega arith)) in
    ap₂ (λ (p q : ℕ). p + q) (bit_at n x b (below 0 (omega arith)) ∙ ap (λ (k : ℕ). hard (x.L k)) (sym h)) i ∙ sym (front v s (length bs) x.L)

module _ (n : ℕ) (lens addrs : List ℕ) (A : code_refusal n lens addrs ≡ 0) (x : Word) where
  abbrev p : ℕ
  p = p_of n lens

  abbrev lists : List ℕ
  lists = edge_lists n lens addrs

  laid_in : Laid n lens addrs lists
  laid_in = laid n lens addrs (accepted n lens addrs A) lists [] (sym (append-nil lists))

  -- check c's edge k, in the lists
  edge_at : (c k : ℕ) → c < p → k < length (check n lens addrs c) → var (rows_in p lists) (get_or lists c 0 + k) ≡ get_or (check n lens addrs c) k 0
  edge_at c k h q =
      ap (λ (m : ℕ). get_or (drop m lists) (get_or lists c 0 + k) 0) (add-one p)
      ∙ sym (get_or-drop (get_or lists c 0) (drop (suc p) lists) k 0)
      ∙ sym (get_or-take (get_or lists (c + 1) 0 - get_or lists c 0) (drop (get_or lists c 0) (drop (suc p) lists)) k 0 (omega (arith, laid_in.next c h)))
      ∙ ap (λ (l : List ℕ). get_or l k 0) (laid_in.part c h)

  check_same : (c : ℕ) → c < p → unmet n lens addrs (bits_of n x) c ≡ unmet_at (code_in p lists) x.L c
  unfolding unmet unsatisfied
  check_same c h =
      ap (λ (m : ℕ). m % 2) (ones_are n x (var (rows_in p lists)) (get_or lists c 0) (check n lens addrs c) (λ k q. edge_at c k h q) (λ k q. laid_in.below c k h q))
      ∙ (λ i. negatives (var (rows_in p lists)) (sym (start_in p lists c (omega arith)) i) (sym (degree_in p lists c (get_or lists c 0) (length (check n lens addrs c)) h refl (sym (laid_in.next c h))) i) x.L % 2)

  counts_same : (m : ℕ) → m ≤ p → unmets n lens addrs (bits_of n x) m ≡ unsatisfied_count (code_in p lists) m x.L
  unfolding unmets unsatisfied_count
  counts_same zero h = refl
  counts_same (suc m) h = omega (arith, check_same m h, counts_same m (omega arith))

  -- the syndrome weight of a word's hard decisions is how many checks its values leave unsatisfied
  pub weight_is : weight n lens addrs (bits_of n x) ≡ unmet_of (code_of n lens addrs) p x
  unfolding weight unmet_of code_of
  weight_is = counts_same p (omega arith) ∙ ap (λ (code : Code). unsatisfied_count code p x.L) (code_in_is n lens addrs lists refl)

  -- a word whose hard decisions are an encoded word meets every check
  pub encoded_met : (v : List ℕ) → length v ≡ k_of lens → bits_of n x ≡ encode n lens addrs v → met_of (code_of n lens addrs) p x ≡ true
  unfolding met_of
  encoded_met v fit e = eq-eqb (unmet_of (code_of n lens addrs) p x) 0 (sym weight_is ∙ ap (weight n lens addrs) e ∙ encode_weight n lens addrs v A fit)
