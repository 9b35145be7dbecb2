-- The ends of the lists, worked out from the counts of the addresses modulo q.
use Rattle.std.specs.Prelude.{◌≡◌, refl, cond, List, ℕ, zero, suc, ◌+◌, ◌*◌, ◌%◌, ◌≤◌, ◌<◌, eqb, get_or, set, length}
use Rattle.std.proofs.Common.{sym, ap, ◌∙◌, arith, mod-lt, add-one, get_or-set_other}
use Rattle.laws.specs.Stores.{grown}
use Rattle.ldpc_edges.proofs.Degree.{stairs_le}

-- where the list of check c ends, and that of check c + 1 begins
unfoldable pub ending : List ℕ → ℕ → ℕ → ℕ
ending r q zero = 0
ending r q (suc c) = ending r q c + (get_or r (c % q) 0 + cond (eqb c 0) 1 2)

-- every count is at most 126
abbrev pub Few : List ℕ → ℕ → Type 0
Few r q = (l : ℕ) → l < q → get_or r l 0 ≤ 126

pub ending_le : (r : List ℕ) (q : ℕ) → 0 < q → Few r q → (c : ℕ) → ending r q c ≤ 128 * c
unfolding ending
ending_le r q pos F zero = omega arith
ending_le r q pos F (suc c) = let ih = ending_le r q pos F c in omega (arith, F (c % q) (mod-lt c pos), stairs_le (eqb c 0))

-- the cursors below i are set
pub record EndsSet (r : List ℕ) (q : ℕ) (at : List ℕ) (i : ℕ) : Type 0 where
  pub set_to : (c : ℕ) → c < i → get_or at c 0 ≡ ending r q (suc c)

pub ends_again : (r : List ℕ) (q : ℕ) (at : List ℕ) (i e s : ℕ) → i < length at → s ≡ cond (eqb i 0) 1 2 → e ≡ ending r q i → EndsSet r q at i
    → EndsSet r q (set at i (e + (get_or r (i % q) 0 + s))) (i + 1)
unfolding ending
ends_again r q at i e s h f g E = record { set_to = grown 0 (λ c x. x ≡ ending r q c + (get_or r (c % q) 0 + cond (eqb c 0) 1 2)) at i _ h E.set_to (omega arith) }

pub ending_next : (r : List ℕ) (q i e s : ℕ) → s ≡ cond (eqb i 0) 1 2 → e ≡ ending r q i → e + (get_or r (i % q) 0 + s) ≡ ending r q (i + 1)
unfolding ending
ending_next r q i e s f g = sym (ap (ending r q) (add-one i) ∙ omega arith)

pub ends_last : (r : List ℕ) (q : ℕ) (at : List ℕ) (i v : ℕ) → EndsSet r q at i → EndsSet r q (set at i v) i
ends_last r q at i v E = record { set_to = λ c h. get_or-set_other at i c v 0 (λ e. omega arith) ∙ E.set_to c h }

pub ends_start : (r : List ℕ) (q : ℕ) (at : List ℕ) → EndsSet r q at 0
ends_start r q at = record { set_to = λ c h. absurd (omega arith) }

pub ending_start : (r : List ℕ) (q : ℕ) → 0 ≡ ending r q 0
unfolding ending
ending_start r q = refl
