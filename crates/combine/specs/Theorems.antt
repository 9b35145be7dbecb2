-- What holds of the combined word: "The order of dishes must not matter, and a dish of zeros must change nothing beside another. One dish of −128 gives −127."
-- In order: of any words, by the definition; then of 1 to 8 equally long words lent one after another beside their lengths (`accepted`, `written`, `lent_order`, `lent_zeros`).
use Rattle.std.specs.Prelude.{◌≡◌, refl, false, cond, not, ◌||◌, List, [], ◌∷◌, ◌++◌, map, ℕ, zero, suc, ◌*◌, ◌<◌, ◌≤◌, length, get_or, set, take, drop, replicate, flat_map, All, swap, IsPermutation, ℤ, pos, negsuc, nat_abs, ◌+ℤ◌, eqb}
use Rattle.std.proofs.Common.{sym, ap, ◌∙◌, subst, arith, length-set, length-append, get_or-set_same, get_or-set_other, eq-eqb, ⊎_elim}
use Rattle.std.proofs.lemmas.Int.{ints}
use Rattle.std.proofs.lemmas.Bool.{cases_eq}
use Rattle.std.proofs.lemmas.List.{length-map, length-replicate}
use Rattle.std.specs.List.{range_with_len}
use Rattle.std.proofs.lemmas.List.Edits.{swap_is}
use Rattle.std.proofs.lemmas.List.Elements.{All-cons}
use Rattle.std.proofs.lemmas.List.Sorted.{IsPermutation-keeps, IsPermutation-sym, IsPermutation-middle, All-permutation, length_permutation}
use Rattle.std.proofs.Math.Seq.{take-append_seam, drop-append_seam}
use Rattle.combine.specs.Combined.{words_of, sum_at, clamped, combined}
use Rattle.std.proofs.lemmas.List.FromFn.{get_or-map-range_with_len}
use Rattle.combine.specs.Answers.{first, any_other, combine_refusal, written_of, output_of}
use Rattle.combine.specs.AnswersLaws.{fair}
use Rattle.laws.specs.Lists.{replicate_at}

-- words with the same sums combine to the same
same_sums : (n : ℕ) (ws vs : List (List ℤ)) → ((i : ℕ) → sum_at ws i ≡ sum_at vs i) → combined n ws ≡ combined n vs
unfolding combined
same_sums n ws vs same = λ t. map (λ i. clamped (same i t)) (range_with_len 0 n)

-- ---- the order
-- one word exchanged for another
sum_set : (i : ℕ) (ws : List (List ℤ)) (j : ℕ) (w d : List ℤ) → j < length ws
    → sum_at (set ws j w) i +ℤ get_or (get_or ws j d) i (pos 0) ≡ sum_at ws i +ℤ get_or w i (pos 0)
unfolding sum_at
sum_set i [] j w d h = absurd (omega arith)
sum_set i (v ∷ ws) zero w d h = omega (arith, ints)
sum_set i (v ∷ ws) (suc j) w d h = let rest = sum_set i ws j w d (omega arith) in omega (arith, ints)

-- two words in each other's place
sum_swap : (i : ℕ) (ws : List (List ℤ)) (a b : ℕ) → a < length ws → b < length ws → sum_at (swap ws a b) i ≡ sum_at ws i
sum_swap i ws a b p q =
    let d : List ℤ = [] in
    let with_a = set ws a (get_or ws b d) in
    let long = length-set ws a (get_or ws b d) in
    let there : get_or with_a b d ≡ get_or ws b d =
    ⊎_elim (λ e. ap (λ n. get_or with_a n d) e ∙ get_or-set_same ws a (get_or ws b d) d p) (λ ne. get_or-set_other ws a b (get_or ws b d) d ne) (cases_eq b a) in
    let read = ap (λ w. get_or w i (pos 0)) there in
    let once = sum_set i ws a (get_or ws b d) d p in
    let twice = sum_set i with_a b (get_or ws a d) d (omega arith) in
    let same : sum_at (set with_a b (get_or ws a d)) i ≡ sum_at ws i = omega (arith, ints) in
    ap (λ l. sum_at l i) (sym (swap_is ws a b d p q)) ∙ same

-- the words in another order combine to the same
pub order : (n : ℕ) (ws vs : List (List ℤ)) → IsPermutation ws vs → combined n vs ≡ combined n ws
order n ws vs moved =
    same_sums n vs ws (λ i. IsPermutation-keeps ws (λ l. sum_at l i ≡ sum_at ws i) refl (λ l a b p q h. sum_swap i l a b p q ∙ h) vs moved)

-- ---- a word of zeros, at any place
sum_zeros : (n i : ℕ) (ws vs : List (List ℤ)) → sum_at (ws ++ replicate n (pos 0) ∷ vs) i ≡ sum_at (ws ++ vs) i
unfolding sum_at
sum_zeros n i [] vs = let none = replicate_at (pos 0) n i in omega (arith, ints)
sum_zeros n i (w ∷ ws) vs = ap (λ (z : ℤ). get_or w i (pos 0) +ℤ z) (sum_zeros n i ws vs)

pub zeros : (n : ℕ) (ws vs : List (List ℤ)) → combined n (ws ++ replicate n (pos 0) ∷ vs) ≡ combined n (ws ++ vs)
zeros n ws vs = same_sums n (ws ++ replicate n (pos 0) ∷ vs) (ws ++ vs) (λ i. sum_zeros n i ws vs)

-- ---- within ±127, and clamped once
clamped_size : (s : ℤ) → nat_abs (clamped s) ≤ 127
clamped_size s = grind (arith, ints)

-- at each place: "the exact sum of its values, clamped to ±127 a single time at the end"
pub at_place : (n : ℕ) (ws : List (List ℤ)) (i : ℕ) → i < n → get_or (combined n ws) i (pos 0) ≡ clamped (sum_at ws i)
unfolding combined
at_place n ws i h = get_or-map-range_with_len (λ j. clamped (sum_at ws j)) 0 n i i (pos 0) h (omega arith)

pub range : (n : ℕ) (ws : List (List ℤ)) (i : ℕ) → i < n → nat_abs (get_or (combined n ws) i (pos 0)) ≤ 127
range n ws i h = subst (λ (z : ℤ). nat_abs z ≤ 127) (sym (at_place n ws i h)) (clamped_size (sum_at ws i))

-- one word: −128 gives −127, and any other value of 8 bits itself
pub one_word : (n : ℕ) (w : List ℤ) (i : ℕ) → i < n → get_or (combined n (w ∷ [])) i (pos 0) ≡ clamped (get_or w i (pos 0))
unfolding sum_at
one_word n w i h = at_place n (w ∷ []) i h ∙ ap clamped alone
  where
    alone : get_or w i (pos 0) +ℤ pos 0 ≡ get_or w i (pos 0)
    alone = omega (arith, ints)

pub least : clamped (negsuc 127) ≡ negsuc 126
least = refl

pub itself : (x : ℤ) → nat_abs x ≤ 127 → clamped x ≡ x
itself x h = grind (arith, ints)

-- 100, 100 and −100 give 100; clamped after each word they would give 27
pub once : (combined 1 ((pos 100 ∷ []) ∷ (pos 100 ∷ []) ∷ (negsuc 99 ∷ []) ∷ []) ≡ pos 100 ∷ []) × (clamped (clamped (pos 100 +ℤ pos 100) +ℤ negsuc 99) ≡ pos 27)
unfolding combined sum_at
once = (refl, refl)

-- ---- what is lent: equally long words, one after another, beside their lengths
-- every word has n values
abbrev pub Long : ℕ → List (List ℤ) → Type 0
Long n ws = All (λ w. length w ≡ n) ws

abbrev pub flat : List (List ℤ) → List ℤ
flat ws = flat_map (λ w. w) ws

-- the first word's length, and the others
head_long : (n : ℕ) (w : List ℤ) (ws : List (List ℤ)) → Long n (w ∷ ws) → length w ≡ n
head_long n w ws long = long 0 [] (omega arith)

rest_long : (n : ℕ) (w : List ℤ) (ws : List (List ℤ)) → Long n (w ∷ ws) → Long n ws
rest_long n w ws long = λ k d h. long (suc k) d (omega arith)

-- equally long words, joined, are the words of the joined slice
pub words_flat : (n : ℕ) (ws : List (List ℤ)) → Long n ws → words_of n (length ws) (flat ws) ≡ ws
words_flat n [] long = refl
words_flat n (w ∷ ws) long =
    let e = head_long n w ws long in
    let front : take n (w ++ flat ws) ≡ w = ap (λ (k : ℕ). take k (w ++ flat ws)) (sym e) ∙ take-append_seam w (flat ws) in
    let rest : drop n (w ++ flat ws) ≡ flat ws = ap (λ (k : ℕ). drop k (w ++ flat ws)) (sym e) ∙ drop-append_seam w (flat ws) in
    (λ t. front t ∷ words_of n (length ws) (rest t)) ∙ ap (λ l. w ∷ l) (words_flat n ws (rest_long n w ws long))

-- their lengths: none is another than n, they add up to the slice, the first is n
long_other : (n : ℕ) (ws : List (List ℤ)) → Long n ws → any_other n (map length ws) ≡ false
unfolding any_other
long_other n [] long = refl
long_other n (w ∷ ws) long =
    ap (λ b. not b || any_other n (map length ws)) (eq-eqb (length w) n (head_long n w ws long)) ∙ long_other n ws (rest_long n w ws long)

long_length : (n : ℕ) (ws : List (List ℤ)) → Long n ws → length (map length ws) * n ≡ length (flat ws)
long_length n [] long = omega arith
long_length n (w ∷ ws) long =
    let e = head_long n w ws long in
    let rest = long_length n ws (rest_long n w ws long) in
    let both = length-append w (flat ws) in
    omega arith

long_first : (n : ℕ) (ws : List (List ℤ)) → Long n ws → 0 < length ws → first (map length ws) ≡ n
long_first n [] long some = absurd (omega arith)
long_first n (w ∷ ws) long some = head_long n w ws long

module _ (n : ℕ) (ws : List (List ℤ)) (long : Long n ws) (some : 0 < length ws) (few : length ws ≤ 8) (out : List ℤ) (room : n ≤ length out) where
  abbrev pub lengths : List ℕ
  lengths = map length ws

  many : length lengths ≡ length ws
  many = length-map ws length

  same : first lengths ≡ n
  same = long_first n ws long some

  -- the call is accepted, and their combined word is written
  pub accepted : combine_refusal lengths (length (flat ws)) (length out) ≡ 0
  accepted =
      fair lengths (length (flat ws)) (length out) (λ e. absurd (omega (arith, many, e))) (omega (arith, many, few))
      (ap (λ (k : ℕ). any_other k lengths) same ∙ long_other n ws long) (ap (λ (k : ℕ). length lengths * k) same ∙ long_length n ws long) (omega (arith, same, room))

  pub written : output_of lengths (flat ws) out ≡ combined n ws ++ drop n out
  written =
      ap (λ (f : ℕ). cond (eqb f 0) (written_of lengths (flat ws) out) out) accepted
      ∙ (λ t. combined (same t) (words_of (same t) (many t) (flat ws)) ++ drop (same t) out)
      ∙ ap (λ l. combined n l ++ drop n out) (words_flat n ws long)

-- lent in any other order they leave the same output
pub lent_order : (n : ℕ) (ws vs : List (List ℤ)) → IsPermutation ws vs → Long n ws → 0 < length ws → length ws ≤ 8 → (out : List ℤ) → n ≤ length out
    → output_of (map length vs) (flat vs) out ≡ output_of (map length ws) (flat ws) out
lent_order n ws vs moved long some few out room =
    let as_long = length_permutation ws vs moved in
    written n vs (All-permutation (λ w. length w ≡ n) ws vs moved long) (omega (arith, as_long)) (omega (arith, as_long)) out room
    ∙ ap (λ l. l ++ drop n out) (order n ws vs moved) ∙ sym (written n ws long some few out room)

-- beside one to seven words, a word of zeros at any place leaves the same output as without it
pub lent_zeros : (n : ℕ) (ws vs : List (List ℤ)) → Long n (ws ++ vs) → 0 < length (ws ++ vs) → length (ws ++ vs) ≤ 7 → (out : List ℤ) → n ≤ length out
    → output_of (map length (ws ++ replicate n (pos 0) ∷ vs)) (flat (ws ++ replicate n (pos 0) ∷ vs)) out ≡ output_of (map length (ws ++ vs)) (flat (ws ++ vs)) out
lent_zeros n ws vs long some few out room =
    written n (ws ++ none ∷ vs) long_with (omega (arith, as_long)) (omega (arith, as_long)) out room
    ∙ ap (λ l. l ++ drop n out) (zeros n ws vs) ∙ sym (written n (ws ++ vs) long some (omega arith) out room)
  where
    none : List ℤ
    none = replicate n (pos 0)

    in_front : IsPermutation (none ∷ (ws ++ vs)) (ws ++ none ∷ vs)
    in_front = IsPermutation-sym _ _ (IsPermutation-middle ws none vs)

    as_long : length (ws ++ none ∷ vs) ≡ suc (length (ws ++ vs))
    as_long = length_permutation _ _ in_front

    long_with : Long n (ws ++ none ∷ vs)
    long_with = All-permutation (λ w. length w ≡ n) _ _ in_front (All-cons (λ w. length w ≡ n) none (ws ++ vs) (length-replicate n (pos 0)) long)
