-- How long the fields and lines are, which text a state has, and lines one after another.
use Rattle.std.specs.Prelude.{◌≡◌, refl, List, [], ◌∷◌, ◌++◌, ℕ, zero, suc, ◌+◌, ◌≤◌, ◌<◌, length, Option, Some, None, IfSome}
use Rattle.std.proofs.Common.{sym, ap, ◌∙◌, append_assoc, append-nil, add-zero, add-suc, suc-add, arith, length-append}
use Rattle.laws.specs.Decimal.{decimal_length}
use Rattle.laws.specs.Definitions.{decimal}
use Rattle.decoder_plan.specs.declared.Ending.{Ending}
use Rattle.decoder_plan.specs.declared.Ending.TheVariants.{Finished, Stopped}
use Rattle.report_lines.specs.Lines.{ending_text, state_text, bch_text, first_line, result_line, result_lines}
use Rattle.report_lines.specs.declared.WordResult.{WordResult}

pub number_length : (v : ℕ) → v < 4294967296 → length (decimal v) ≤ 10
number_length v h = decimal_length 9 v (omega arith)

pub field_length : (v b : ℕ) → v < 4294967296 → length (decimal v ++ b ∷ []) ≤ 11
field_length v b h = omega (arith, length-append (decimal v) (b ∷ []), number_length v h)

pub ending_length : (ending : Ending) → length (ending_text ending ++ 9 ∷ []) ≤ 9
ending_length Finished = omega arith
ending_length Stopped = omega arith

pub state_length : (state : ℕ) → length (state_text state ++ 9 ∷ []) ≤ 8
state_length zero = omega arith
state_length (suc zero) = omega arith
state_length (suc (suc zero)) = omega arith
state_length (suc (suc (suc n))) = omega arith

pub unmet : (state : ℕ) → (state ≡ 0 → ⊥) → (state ≡ 1 → ⊥) → (state ≡ 2 → ⊥) → state_text 3 ≡ state_text state
unmet zero a b c = absurd (a refl)
unmet (suc zero) a b c = absurd (b refl)
unmet (suc (suc zero)) a b c = absurd (c refl)
unmet (suc (suc (suc n))) a b c = refl

pub bch_length : (corrected : Option ℕ) → IfSome corrected (λ c. c < 4294967296) → length (bch_text corrected ++ 9 ∷ []) ≤ 11
bch_length None h = omega arith
bch_length (Some c) h = field_length c 9 h

tabbed : (xs ys : List ℕ) → length (xs ++ 9 ∷ ys) ≡ length (xs ++ 9 ∷ []) + length ys
tabbed xs ys = omega (arith, length-append xs (9 ∷ ys), length-append xs (9 ∷ []))

-- a first line is at most 20 bytes long
pub first_line_length : (ending : Ending) (rounds : ℕ) → rounds < 4294967296 → length (first_line ending rounds) ≤ 20
first_line_length ending rounds h =
    omega (arith, tabbed (ending_text ending) (decimal rounds ++ 10 ∷ []), ending_length ending, field_length rounds 10 h)

-- a word's line is at most 63 bytes long
pub word_line_length : (word : ℕ) (r : WordResult) → word < 4294967296 → r.iterations < 4294967296 → r.unsatisfied < 4294967296 → IfSome r.corrected (λ c. c < 4294967296) → r.changed < 4294967296 → length (result_line word r) ≤ 63
word_line_length word r w i u c g =
    let last = decimal r.changed ++ 10 ∷ [] in
    let two = bch_text r.corrected ++ 9 ∷ last in
    let three = decimal r.unsatisfied ++ 9 ∷ two in
    let four = decimal r.iterations ++ 9 ∷ three in
    let five = state_text r.state ++ 9 ∷ four in
    omega (arith, tabbed (decimal word) five, field_length word 9 w, tabbed (state_text r.state) four, state_length r.state, tabbed (decimal r.iterations) three, field_length r.iterations 9 i, tabbed (decimal r.unsatisfied) two, field_length r.unsatisfied 9 u, tabbed (bch_text r.corrected) last, bch_length r.corrected c, field_length r.changed 10 g)

-- one word more
pub word_lines_snoc : (word : ℕ) (rs : List WordResult) (r : WordResult) → result_lines word (rs ++ r ∷ []) ≡ result_lines word rs ++ result_line (word + length rs) r
word_lines_snoc word [] r = append-nil (result_line word r) ∙ ap (λ (k : ℕ). result_line k r) (sym (add-zero word))
word_lines_snoc word (q ∷ rs) r =
    ap (λ (l : List ℕ). result_line word q ++ l) (word_lines_snoc (suc word) rs r)
    ∙ sym (append_assoc (result_line word q) (result_lines (suc word) rs) (result_line (suc word + length rs) r))
    ∙ ap (λ (k : ℕ). result_line word q ++ result_lines (suc word) rs ++ result_line k r) (suc-add word (length rs) ∙ sym (add-suc word (length rs)))
