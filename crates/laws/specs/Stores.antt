-- Stores into a list: one, one a turn of a loop, a run of them.
--
-- In order: what one store leaves (`set_at`, `set_each`); a loop that writes one element a turn, at `at i` or at i, and leaves the rest
-- (`grown_at`, `grown`, `kept`); a run of stores, std's `sets` (`sets_append`, `set_sets`).
--
-- Not here: `get_or-set_same`, `get_or-set_other`, `length-set` (std's Common), `sets-eq` (std's lemmas of List.Edits).
use Rattle.std.specs.Prelude.{◌≡◌, ◌≢◌, List, [], ◌∷◌, ◌++◌, ℕ, suc, ◌+◌, ◌≤◌, ◌<◌, length, get_or, take, drop, set}
use Rattle.std.proofs.Common.{sym, ap, ◌∙◌, subst, append_assoc, add-zero, add-suc, suc-add, zero-add, lt_irrefl, arith, below_more, length-set, length-take-le, get_or-set_same, get_or-set_other}
use Rattle.std.proofs.Math.Decide.{ℕ_discrete}
use Rattle.std.proofs.lemmas.List.{set-append_left}
use Rattle.std.proofs.lemmas.List.Edits.{sets, sets-eq}

module _ {A : Type 0} (d : A) where
  -- what was just written, at an index that equals the written one
  pub set_at : (l : List A) (i : ℕ) (x : A) (j : ℕ) → i < length l → j ≡ i → get_or (set l i x) j d ≡ x
  set_at l i x j h e = ap (λ (k : ℕ). get_or (set l i x) k d) e ∙ get_or-set_same l i x d h

  -- what holds of all that a write leaves: of what is written, and of each other place
  pub set_each : (P : ℕ → A → Type 0) (l : List A) (i : ℕ) (x : A) → i < length l → P i x → ((j : ℕ) → j ≢ i → P j (get_or l j d)) → (j : ℕ) → P j (get_or (set l i x) j d)
  set_each P l i x h new others j = go (ℕ_discrete j i)
    where
      go : Dec (j ≡ i) → P j (get_or (set l i x) j d)
      go (yes e) = subst (λ (k : ℕ). P k (get_or (set l i x) k d)) (sym e) (subst (P i) (sym (get_or-set_same l i x d h)) new)
      go (no n) = subst (P j) (sym (get_or-set_other l i j x d n)) (others j n)

  -- A loop writes one element a turn, the i-th at `at i`: what held of the first i holds of the first i + 1;
  pub grown_at : (at : ℕ → ℕ) (P : ℕ → A → Type 0) (v : List A) (i : ℕ) (x : A) → at i < length v → ((k : ℕ) → k < i → at k ≢ at i)
      → ((k : ℕ) → k < i → P k (get_or v (at k) d)) → P i x → (k : ℕ) → k < i + 1 → P k (get_or (set v (at i) x) (at k) d)
  grown_at at P v i x p far h e =
      below_more (λ (k : ℕ). P k (get_or (set v (at i) x) (at k) d)) i
      (λ k q. subst (P k) (sym (get_or-set_other v (at i) (at k) x d (far k q))) (h k q)) (subst (P i) (sym (get_or-set_same v (at i) x d p)) e)

  pub grown : (P : ℕ → A → Type 0) (v : List A) (i : ℕ) (x : A) → i < length v → ((k : ℕ) → k < i → P k (get_or v k d)) → P i x → (k : ℕ) → k < i + 1 → P k (get_or (set v i x) k d)
  grown P v i x p = grown_at (λ k. k) P v i x p (λ k q r. lt_irrefl i (subst (λ (m : ℕ). m < i) r q))

  -- and those from i + 1 on are as they were.
  pub kept : (v w : List A) (i : ℕ) (x : A) → ((k : ℕ) → i ≤ k → get_or v k d ≡ get_or w k d) → (k : ℕ) → i + 1 ≤ k → get_or (set v i x) k d ≡ get_or w k d
  kept v w i x h k q = get_or-set_other v i k x d (λ r. omega arith) ∙ h k (omega arith)

-- ---- runs of stores
module _ {A : Type 0} where
  pub sets_append : (l : List A) (i : ℕ) (xs ys : List A) → sets l i (xs ++ ys) ≡ sets (sets l i xs) (i + length xs) ys
  sets_append l i [] ys = ap (λ (k : ℕ). sets l k ys) (sym (add-zero i))
  sets_append l i (x ∷ xs) ys =
      sets_append (set l i x) (suc i) xs ys
      ∙ ap (λ (k : ℕ). sets (sets (set l i x) (suc i) xs) k ys) (suc-add i (length xs) ∙ sym (add-suc i (length xs)))

  set_behind : (xs ys : List A) (i : ℕ) (a : A) → set (xs ++ ys) (length xs + i) a ≡ xs ++ set ys i a
  set_behind [] ys i a = ap (λ (k : ℕ). set ys k a) (zero-add i)
  set_behind (x ∷ xs) ys i a = ap (λ (k : ℕ). set (x ∷ (xs ++ ys)) k a) (suc-add (length xs) i) ∙ ap (λ (l : List A). x ∷ l) (set_behind xs ys i a)

  -- a store among those stored
  pub set_sets : (l : List A) (base : ℕ) (vs : List A) (i : ℕ) (a : A) → base + length vs ≤ length l → i < length vs → set (sets l base vs) (base + i) a ≡ sets l base (set vs i a)
  set_sets l base vs i a h b =
      let k = base + length vs in
      let t : length (take base l) ≡ base = length-take-le base l (omega arith) in
      ap (λ (x : List A). set x (base + i) a) (sets-eq vs l base h ∙ append_assoc (take base l) vs (drop k l))
      ∙ ap (λ (n : ℕ). set (take base l ++ (vs ++ drop k l)) (n + i) a) (sym t)
      ∙ set_behind (take base l) (vs ++ drop k l) i a
      ∙ ap (λ (x : List A). take base l ++ x) (set-append_left vs (drop k l) i a b)
      ∙ sym (append_assoc (take base l) (set vs i a) (drop k l))
      ∙ ap (λ (n : ℕ). take base l ++ set vs i a ++ drop (base + n) l) (sym (length-set vs i a))
      ∙ sym (sets-eq (set vs i a) l base (subst (λ (n : ℕ). base + n ≤ length l) (sym (length-set vs i a)) h))
