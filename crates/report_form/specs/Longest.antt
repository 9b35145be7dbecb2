-- No text of the form is longer than 10,501 bytes.
use Rattle.std.specs.Prelude.{◌≡◌, List, [], ◌∷◌, ◌++◌, ℕ, suc, ◌*◌, ◌≤◌, ◌<◌, ℤ, pos, negsuc, length}
use Rattle.std.proofs.Common.{sym, ap, subst, arith, length-append}
use Rattle.laws.specs.Decimal.{decimal_length}
use Rattle.laws.specs.Definitions.{decimal, signed}
use Rattle.report_form.specs.Description.{Schedule, sequential, layered, Settings, Pair, Word, Description, All, Small, Ascending, RowWithin, ScheduleWithin, SettingsWithin, WordWithin, Within, each, line, row_line, schedule_text, settings_line, word_line, render}
use Rattle.report_form.specs.Forms.{row_form, word_form, pair_text, address}
use Rattle.report_form.specs.Unique.{row_line_lem, word_line_lem}

each_length : {A : Type 0} (P : A → Type 0) (f : A → List ℕ) (k : ℕ) → ((a : A) → P a → length (f a) ≤ k) → (xs : List A) → All P xs → length (each f xs) ≤ length xs * k
each_length P f k h [] w = omega arith
each_length P f k h (x ∷ xs) w =
    let a = h x w.0 in
    let b = each_length P f k h xs w.1 in
    simp length-append (omega arith)

small_length : (z : ℤ) → Small z → length (signed z) ≤ 4
unfolding signed
small_length (pos v) h = omega (arith, decimal_length 2 v (omega arith))
small_length (negsuc v) h = omega (arith, decimal_length 2 (suc v) (omega arith))

schedule_length : (s : Schedule) → ScheduleWithin s → length (schedule_text s) ≤ 10
schedule_length sequential h = omega arith
schedule_length (layered v) h = decimal_length 9 v (omega arith)

row_length : (row : List ℕ) → RowWithin row → length (row_line row) ≤ 26
row_length row w =
    let e = each_length (λ (a : ℕ). a ≤ 65535) address 6 (λ a h. omega (arith, decimal_length 4 a (omega arith))) row w.addresses in
    let l : length (row_form.write row) ≤ 26 = simp length-append (omega (arith, w.few)) in
    subst (λ (x : List ℕ). length x ≤ 26) (sym (row_line_lem row)) l

settings_length : (s : Settings) → SettingsWithin s → length (settings_line s) ≤ 64
settings_length s w =
    let a = decimal_length 0 s.lanes (omega (arith, w.lanes)) in
    let b = decimal_length 9 s.iteration_limit (omega (arith, w.iteration_limit)) in
    let c = small_length s.offset w.offset in
    let d = schedule_length s.schedule w.schedule in
    let e = decimal_length 9 s.round_limit (omega (arith, w.round_limit)) in
    let f = decimal_length 9 s.part_first (omega (arith, w.part_first)) in
    let g = decimal_length 9 s.part_length (omega (arith, w.part_length)) in
    simp length-append (omega arith)

pairs_length : (n least : ℕ) (ps : List Pair) → n ≤ 1122 → Ascending n least ps → length (each pair_text ps) ≤ length ps * 10
pairs_length n least [] h w = omega arith
pairs_length n least (p ∷ ps) h w =
    let a = decimal_length 3 p.position (omega (arith, w.1)) in
    let b = small_length p.value w.2 in
    let c = pairs_length n (suc p.position) ps h w.3 in
    simp length-append (omega arith)

word_length : (n : ℕ) → n ≤ 1122 → (w : Word) → WordWithin n w → length (word_line w) ≤ 647
word_length n h w v =
    let a = small_length w.default v.default in
    let b = pairs_length n 0 w.pairs h v.pairs in
    let l : length ((word_form n).write w) ≤ 647 = simp length-append (omega (arith, v.few)) in
    subst (λ (x : List ℕ). length x ≤ 647) (sym (word_line_lem n w)) l

-- a description within the limits has a text of at most 10,501 bytes
pub render_length : (d : Description) → Within d → length (render d) ≤ 10501
unfolding render
render_length d w =
    let a = decimal_length 3 d.n (omega (arith, w.n)) in
    let b = each_length RowWithin row_line 26 row_length d.rows w.rows in
    let c = settings_length d.settings w.settings in
    let e = each_length (WordWithin d.n) word_line 647 (word_length d.n w.n) d.words w.words in
    whole (decimal d.n) (each row_line d.rows) (settings_line d.settings) (each word_line d.words) a (omega (arith, w.three)) c (omega (arith, w.sixteen))
  where
    whole : (k r s t : List ℕ) → length k ≤ 4 → length r ≤ 78 → length s ≤ 64 → length t ≤ 10352 → length (line (78 ∷ []) (k ∷ []) ++ r ++ s ++ t) ≤ 10501
    whole k r s t h i j l = simp length-append (omega arith)

-- so a longer text has none: one byte more than 10,501 is enough to see that
pub too_long : (text : List ℕ) → 10501 < length text → (d : Description) → Within d → render d ≡ text → ⊥
too_long text h d w e = omega (arith, render_length d w, ap length e)
