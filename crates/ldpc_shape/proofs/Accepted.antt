-- A code that no refusal applies to is accepted, and its numbers are bounded.
use Rattle.std.specs.Prelude.{◌≡◌, refl, Bool, true, false, cond, not, ◌||◌, List, ℕ, ◌*◌, ◌%◌, ◌≤◌, eqb, ltb, leb, length}
use Rattle.std.proofs.Common.{sym, ap, subst, arith, eqb-true, ltb-false, leb-false}
use Rattle.ldpc_shape.specs.declared.Sizes.{Sizes}
use Rattle.ldpc_shape.specs.declared.Table.{Table}
use Rattle.ldpc_shape.specs.Shape.{k_of, p_of, q_of, sizes_of, total, any_over, counts_mod, bad_length, code_refusal}
use Rattle.ldpc_shape.specs.Accepted.{Accepted, n_is, p_is, q_pos, q_le, p_pos, rows_le, addrs_le, e_pos, e_le, Bounded}

pub accepted : (n : ℕ) (lens addrs : List ℕ) → code_refusal n lens addrs ≡ 0 → Accepted n lens addrs
unfolding code_refusal bad_length
accepted n lens addrs h =
    go (eqb n 0) (eqb (n % 374) 0) (ltb 44880 n) (leb n (374 * length lens)) (any_over 128 lens) (eqb (total lens) (length addrs))
    (any_over 126 (counts_mod (q_of n lens) addrs (q_of n lens))) h refl refl refl refl refl refl
  where
    go : (a b c d e f g : Bool)
        → ◌≡◌ {A = ℕ} (cond (a || (not b || c)) 2 (cond d 3 (cond e 4 (cond (not f) 5 (cond g 6 0))))) 0
        → eqb (n % 374) 0 ≡ b → ltb 44880 n ≡ c → leb n (374 * length lens) ≡ d → any_over 128 lens ≡ e → eqb (total lens) (length addrs) ≡ f
        → any_over 126 (counts_mod (q_of n lens) addrs (q_of n lens)) ≡ g → Accepted n lens addrs
    go true b c d e f g z pb pc pd pe pf pg = absurd (omega arith)
    go false false c d e f g z pb pc pd pe pf pg = absurd (omega arith)
    go false true true d e f g z pb pc pd pe pf pg = absurd (omega arith)
    go false true false true e f g z pb pc pd pe pf pg = absurd (omega arith)
    go false true false false true f g z pb pc pd pe pf pg = absurd (omega arith)
    go false true false false false false g z pb pc pd pe pf pg = absurd (omega arith)
    go false true false false false true true z pb pc pd pe pf pg = absurd (omega arith)
    go false true false false false true false z pb pc pd pe pf pg =
        record { whole = eqb-true _ 0 pb; small = ltb-false _ _ pc; rows = leb-false _ _ pd; short = pe; adds = eqb-true _ _ pf; few = pg }

pub bounded : (n : ℕ) (lens addrs : List ℕ) → code_refusal n lens addrs ≡ 0 → Bounded (sizes_of n lens addrs)
bounded n lens addrs e =
    let A = accepted n lens addrs e in
    record {
      n_is = sym (n_is n lens addrs A);
      p_is = p_is n lens addrs A;
      n_le = A.small;
      q_pos = q_pos n lens addrs A;
      q_le = q_le n lens addrs A;
      p_pos = p_pos n lens addrs A;
      p_le = omega (arith, n_is n lens addrs A);
      e_pos = e_pos n lens addrs A;
      e_le = e_le n lens addrs A;
    }

-- the same of sizes as a program has them
pub sizes_bounded : (s : Sizes) (n : ℕ) (lens addrs : List ℕ) → s ≡ sizes_of n lens addrs → code_refusal n lens addrs ≡ 0 → Bounded s
sizes_bounded s n lens addrs d e = subst Bounded (sym d) (bounded n lens addrs e)

-- a table's numbers
module _ (t : Table) where
  pub table_accepted : Accepted t.sizes.n t.lens.now t.addrs.now
  table_accepted = accepted t.sizes.n t.lens.now t.addrs.now t.accepted

  pub table_bounded : Bounded t.sizes
  table_bounded = sizes_bounded t.sizes t.sizes.n t.lens.now t.addrs.now t.numbers t.accepted

  pub table_k : t.sizes.k ≡ k_of t.lens.now
  table_k = ap (λ (z : Sizes). z.k) t.numbers

  pub table_p : t.sizes.p ≡ p_of t.sizes.n t.lens.now
  table_p = ap (λ (z : Sizes). z.p) t.numbers

  pub table_q : t.sizes.q ≡ q_of t.sizes.n t.lens.now
  table_q = ap (λ (z : Sizes). z.q) t.numbers

  pub table_rows : (length t.lens.now ≤ 120) × (total t.lens.now ≡ length t.addrs.now)
  table_rows = (omega (arith, rows_le t.sizes.n t.lens.now t.addrs.now table_accepted), table_accepted.adds)

  pub table_addrs : length t.addrs.now ≤ 15360
  table_addrs = addrs_le t.sizes.n t.lens.now t.addrs.now table_accepted
