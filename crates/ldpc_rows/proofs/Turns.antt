-- The first row and the last one of those that are left.
use Rattle.std.proofs.Common.{◌≡◌, refl, sym, ap, ap₂, ◌∙◌, List, [], ◌∷◌, ◌++◌, ℕ, ◌+◌, ◌-◌, ◌*◌, ◌≤◌, length, take, drop, suc, arith, length-take, length-drop, take_all, take-append-drop}
use Rattle.std.proofs.lemmas.List.{take-append-le, drop-append-le}
use Rattle.ldpc_shape.specs.Shape.{rows_of, total}
use Rattle.ldpc_rows.specs.Rows.{numbered}

pub no_rows : (m : ℕ) (lens addrs : List ℕ) → length lens ≡ 0 → numbered m (rows_of lens addrs) ≡ []
unfolding numbered rows_of
no_rows m [] addrs e = refl
no_rows m (l ∷ lens) addrs e = absurd (omega arith)

pub first_row : (m l : ℕ) (lens rest addrs row others : List ℕ) → lens ≡ l ∷ rest → row ≡ take l addrs → others ≡ drop l addrs
    → numbered m (rows_of lens addrs) ≡ (m, row) ∷ numbered (m + 374) (rows_of rest others)
unfolding numbered rows_of
first_row m l lens rest addrs row others e f g =
    ap (λ (ls : List ℕ). numbered m (rows_of ls addrs)) e ∙ ap₂ (λ (x y : List ℕ). (m, x) ∷ numbered (m + 374) (rows_of rest y)) (sym f) (sym g)

pub first_total : (l : ℕ) (lens rest : List ℕ) → lens ≡ l ∷ rest → total lens ≡ l + total rest
unfolding total
first_total l lens rest e = ap total e

snoc_total : (l : ℕ) (rest : List ℕ) → total (rest ++ (l ∷ [])) ≡ total rest + l
unfolding total
snoc_total l [] = omega arith
snoc_total l (x ∷ rest) = let ih = snoc_total l rest in omega arith

pub last_total : (l : ℕ) (lens rest : List ℕ) → lens ≡ rest ++ (l ∷ []) → total lens ≡ total rest + l
last_total l lens rest e = ap total e ∙ snoc_total l rest

-- the last row takes the addresses behind those of the rows before it
snoc_row : (m l : ℕ) (rest front back : List ℕ) → total rest ≡ length front → l ≡ length back
    → numbered m (rows_of (rest ++ (l ∷ [])) (front ++ back)) ≡ numbered m (rows_of rest front) ++ ((m + 374 * length rest, back) ∷ [])
unfolding numbered rows_of total
snoc_row m l [] [] back e f =
    let k : m ≡ m + 374 * 0 = omega arith in
    ap₂ (λ (x : ℕ) (y : List ℕ). (x, y) ∷ []) k (take_all l back (omega arith))
snoc_row m l [] (y ∷ front) back e f = absurd (omega arith)
snoc_row m l (x ∷ rest) front back e f =
    let h : x ≤ length front = omega arith in
    let k : m + 374 + 374 * length rest ≡ m + 374 * suc (length rest) = omega arith in
    ap₂ (λ (r s : List ℕ). (m, r) ∷ numbered (m + 374) (rows_of (rest ++ (l ∷ [])) s)) (take-append-le x front back h) (drop-append-le x front back h)
    ∙ ap (λ (z : List (ℕ × List ℕ)). (m, take x front) ∷ z) (snoc_row (m + 374) l rest (drop x front) back (omega (arith, length-drop x front)) f)
    ∙ ap (λ (z : ℕ). (m, take x front) ∷ (numbered (m + 374) (rows_of rest (drop x front)) ++ ((z, back) ∷ []))) k

pub last_row : (m l : ℕ) (lens rest addrs row others : List ℕ) → lens ≡ rest ++ (l ∷ []) → total lens ≡ length addrs
    → others ≡ take (length addrs - l) addrs → row ≡ drop (length addrs - l) addrs
    → numbered m (rows_of lens addrs) ≡ numbered m (rows_of rest others) ++ ((m + 374 * length rest, row) ∷ [])
last_row m l lens rest addrs row others e f g h =
    let t = last_total l lens rest e in
    let joined : addrs ≡ others ++ row = sym (take-append-drop (length addrs - l) addrs) ∙ ap₂ (λ (x y : List ℕ). x ++ y) (sym g) (sym h) in
    ap₂ (λ (x y : List ℕ). numbered m (rows_of x y)) e joined
    ∙ snoc_row m l rest others row (omega (arith, ap length g, length-take (length addrs - l) addrs)) (omega (arith, ap length h, length-drop (length addrs - l) addrs))
