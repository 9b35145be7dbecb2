-- The forms of the report's text: numbers, the fields of a line, the lines.
--
-- In order: numbers; the schedule; a row; the settings; pairs, and a word; all rows, all words, what follows the first line, and the first line.
use Rattle.std.specs.Prelude.{◌≡◌, refl, ◌&&◌, List, [], ◌∷◌, ◌++◌, map, ℕ, suc, ◌≤◌, ℤ, T, length, get_or}
use Rattle.std.proofs.Common.{sym, ap, ap₂, ◌∙◌, subst, arith, le-leb}
use Rattle.laws.specs.Decimal.{digit, Stops, decimal_unique, signed_unique, decimal_leads}
use Rattle.laws.specs.Definitions.{decimal, signed}
use Rattle.report_form.specs.Description.{flat, Schedule, sequential, layered, Settings, Pair, Word, All, Wide, Small, Ascending, RowWithin, ScheduleWithin, SettingsWithin, WordWithin, each, schedule_text}
use Rattle.report_form.specs.Form.{Form, byte, end, seq, StandFor, via, lead, Items, Apart, chain}

-- a number of at most `most`
abbrev pub numbers : ℕ → Form ℕ
numbers most =
    record {
      write = decimal;
      Within = λ v. v ≤ most;
      Follow = Stops;
      unique = λ a b r s _ _ p q e. decimal_unique a b r s p q e;
    }

-- a number of 8 bits with its sign
abbrev pub smalls : Form ℤ
smalls =
    record {
      write = signed;
      Within = Small;
      Follow = Stops;
      unique = λ a b r s _ _ p q e. signed_unique a b r s p q e;
    }

-- a text that does not begin with a digit begins with no number
pub not_decimal : (t : List ℕ) (n : ℕ) (r : List ℕ) → Stops t → t ≡ decimal n ++ r → ⊥
not_decimal t n r h e =
    let l = decimal_leads n in
    let p : get_or t 0 0 ≡ l.first = ap (λ (xs : List ℕ). get_or xs 0 0) (e ∙ ap (λ (xs : List ℕ). xs ++ r) l.is) in
    subst T (sym (ap₂ ◌&&◌ (le-leb 48 l.first l.low) (le-leb l.first 57 l.high)) ∙ ap digit (sym p) ∙ h) tt

pub schedule_unique : (a b : Schedule) (r s : List ℕ) → Stops r → Stops s → schedule_text a ++ r ≡ schedule_text b ++ s → (a ≡ b) × (r ≡ s)
schedule_unique sequential sequential r s p q e = let f : r ≡ s = cc in (refl, f)
schedule_unique sequential (layered n) r s p q e = absurd (not_decimal (83 ∷ r) n s refl e)
schedule_unique (layered m) sequential r s p q e = absurd (not_decimal (83 ∷ s) m r refl (sym e))
schedule_unique (layered m) (layered n) r s p q e = let (a, b) = decimal_unique m n r s p q e in (ap layered a, b)

abbrev pub schedules : Form Schedule
schedules =
    record {
      write = schedule_text;
      Within = ScheduleWithin;
      Follow = Stops;
      unique = λ a b r s _ _ p q e. schedule_unique a b r s p q e;
    }

abbrev pub address : ℕ → List ℕ
address a = 9 ∷ decimal a

abbrev pub addresses : Items ℕ
addresses = record { form = lead 9 (numbers 65535); mark = 9; body = decimal; begins = λ a. refl; goes = λ u. refl }

pub newline_apart : (r : List ℕ) → Apart addresses RowWithin (λ xs w. w.addresses) (10 ∷ r)
newline_apart r = record { other = λ e. omega arith; follow = refl }

abbrev pub row_chain : Form (List ℕ × Unit)
row_chain = chain addresses RowWithin (λ xs w. w.addresses) (byte 10) (λ b r _ _. newline_apart r)

-- a row's line
abbrev pub row_fields : StandFor (lead 82 row_chain) (List ℕ)
row_fields = record { to = λ row. (row, tt); from = λ x. x.0; from_to = λ _. refl; to_from = λ _. refl; Within = RowWithin; to_within = λ _ w. (w, tt); from_within = λ _ w. w.0 }

abbrev pub row_form : Form (List ℕ)
row_form = via (lead 82 row_chain) row_fields

-- the settings' fields, and the newline
abbrev pub wides : Form ℕ
wides = lead 9 (numbers 4294967295)

abbrev pub last_field : Form (ℕ × Unit)
last_field = seq wides (byte 10) (λ _ _ _ _. refl)

abbrev pub two_fields : Form (ℕ × (ℕ × Unit))
two_fields = seq wides last_field (λ _ _ _ _. refl)

abbrev pub three_fields : Form (ℕ × (ℕ × (ℕ × Unit)))
three_fields = seq wides two_fields (λ _ _ _ _. refl)

abbrev pub four_fields : Form (Schedule × (ℕ × (ℕ × (ℕ × Unit))))
four_fields = seq (lead 9 schedules) three_fields (λ _ _ _ _. refl)

abbrev pub five_fields : Form (ℤ × (Schedule × (ℕ × (ℕ × (ℕ × Unit)))))
five_fields = seq (lead 9 smalls) four_fields (λ _ _ _ _. refl)

abbrev pub six_fields : Form (ℕ × (ℤ × (Schedule × (ℕ × (ℕ × (ℕ × Unit))))))
six_fields = seq wides five_fields (λ _ _ _ _. refl)

abbrev pub Fields : Type 0
Fields = ℕ × (ℕ × (ℤ × (Schedule × (ℕ × (ℕ × (ℕ × Unit))))))

abbrev pub seven_fields : Form Fields
seven_fields = seq (lead 9 (numbers 4)) six_fields (λ _ _ _ _. refl)

-- the settings' line
abbrev pub settings_fields : StandFor (lead 80 seven_fields) Settings
settings_fields =
    record {
      to = λ s. (s.lanes, (s.iteration_limit, (s.offset, (s.schedule, (s.round_limit, (s.part_first, (s.part_length, tt)))))));
      from = λ x. record { lanes = x.0; iteration_limit = x.1.0; offset = x.1.1.0; schedule = x.1.1.1.0; round_limit = x.1.1.1.1.0; part_first = x.1.1.1.1.1.0; part_length = x.1.1.1.1.1.1.0 };
      from_to = λ _. refl;
      to_from = λ _. refl;
      Within = SettingsWithin;
      to_within = λ _ w. (w.lanes, (w.iteration_limit, (w.offset, (w.schedule, (w.round_limit, (w.part_first, (w.part_length, tt)))))));
      from_within = λ _ w. record { lanes = w.0; iteration_limit = w.1.0; offset = w.1.1.0; schedule = w.1.1.1.0; round_limit = w.1.1.1.1.0; part_first = w.1.1.1.1.1.0; part_length = w.1.1.1.1.1.1.0 };
    }

abbrev pub settings_form : Form Settings
settings_form = via (lead 80 seven_fields) settings_fields

-- a pair, of a position of any size: which positions are right is said of a word's list of pairs
pub record PairWithin (p : Pair) : Type 0 where
  pub position : Wide p.position
  pub value : Small p.value

abbrev pub pair_fields : StandFor (seq wides (lead 9 smalls) (λ _ _ _ _. refl)) Pair
pair_fields =
    record {
      to = λ p. (p.position, p.value);
      from = λ x. record { position = x.0; value = x.1 };
      from_to = λ _. refl;
      to_from = λ _. refl;
      Within = PairWithin;
      to_within = λ _ w. (w.position, w.value);
      from_within = λ _ w. record { position = w.0; value = w.1 };
    }

abbrev pub pair_form : Form Pair
pair_form = via (seq wides (lead 9 smalls) (λ _ _ _ _. refl)) pair_fields

abbrev pub pair_from : ℕ → ℤ → Pair
pair_from position value = record { position = position; value = value }

abbrev pub pair_text : Pair → List ℕ
pair_text p = 9 ∷ (decimal p.position ++ (9 ∷ signed p.value))

abbrev pub pairs : Items Pair
pairs = record { form = pair_form; mark = 9; body = λ p. decimal p.position ++ (9 ∷ signed p.value); begins = λ a. refl; goes = λ u. refl }

-- a word's pairs, in a word of n soft values
pub record PairsWithin (n : ℕ) (ps : List Pair) : Type 0 where
  pub rising : Ascending n 0 ps
  pub few : length ps ≤ 64
  pub all : All PairWithin ps

-- positions below 1,122 are of 32 bits
pub pairs_fine : (n least : ℕ) (ps : List Pair) → n ≤ 1122 → Ascending n least ps → All PairWithin ps
pairs_fine n least [] h w = tt
pairs_fine n least (p ∷ ps) h w = (record { position = omega (arith, w.1); value = w.2 }, pairs_fine n (suc p.position) ps h w.3)

abbrev pub pairs_within : (n : ℕ) (ps : List Pair) → PairsWithin n ps → All PairWithin ps
pairs_within n ps w = w.all

pub pairs_apart : (n : ℕ) (r : List ℕ) → Apart pairs (PairsWithin n) (pairs_within n) (10 ∷ r)
pairs_apart n r = record { other = λ e. omega arith; follow = refl }

abbrev pub pair_chain : ℕ → Form (List Pair × Unit)
pair_chain n = chain pairs (PairsWithin n) (pairs_within n) (byte 10) (λ b r _ _. pairs_apart n r)

pub pairs_stop : (ps : List Pair) (r : List ℕ) → Stops ((each pair_text ps ++ 10 ∷ []) ++ r)
pairs_stop [] r = refl
pairs_stop (p ∷ ps) r = refl

abbrev pub word_fields : ℕ → Form (ℤ × (List Pair × Unit))
word_fields n = seq (lead 9 smalls) (pair_chain n) (λ b r _ _. pairs_stop b.0 r)

-- a word's line, of n soft values
pub record LineWithin (n : ℕ) (w : Word) : Type 0 where
  pub within : WordWithin n w
  pub all : All PairWithin w.pairs

abbrev pub word_fields_stand : (n : ℕ) → StandFor (lead 87 (word_fields n)) Word
word_fields_stand n =
    record {
      to = λ w. (w.default, (w.pairs, tt));
      from = λ x. record { default = x.0; pairs = x.1.0 };
      from_to = λ _. refl;
      to_from = λ _. refl;
      Within = LineWithin n;
      to_within = λ _ w. (w.within.default, (record { rising = w.within.pairs; few = w.within.few; all = w.all }, tt));
      from_within = λ _ w. record { within = record { default = w.0; pairs = w.1.0.rising; few = w.1.0.few }; all = w.1.0.all };
    }

abbrev pub word_form : ℕ → Form Word
word_form n = via (lead 87 (word_fields n)) (word_fields_stand n)

abbrev pub rows : Items (List ℕ)
rows = record { form = row_form; mark = 82; body = λ row. each address row ++ 10 ∷ []; begins = λ a. refl; goes = λ u. tt }

pub record RowsWithin (rs : List (List ℕ)) : Type 0 where
  pub all : All RowWithin rs
  pub three : length rs ≤ 3

abbrev pub rows_within : (rs : List (List ℕ)) → RowsWithin rs → All RowWithin rs
rows_within rs w = w.all

-- the rows' lengths, and their addresses one after another
pub record RowsSo (lengths places : List ℕ) (rs : List (List ℕ)) : Type 0 where
  pub lengths_are : lengths ≡ map length rs
  pub places_are : places ≡ flat rs

abbrev pub words : ℕ → Items Word
words n =
    record {
      form = word_form n;
      mark = 87;
      body = λ w. (9 ∷ signed w.default) ++ (each pair_text w.pairs ++ 10 ∷ []);
      begins = λ a. refl;
      goes = λ u. tt;
    }

pub record WordsWithin (n : ℕ) (ws : List Word) : Type 0 where
  pub all : All (WordWithin n) ws
  pub sixteen : length ws ≤ 16
  pub short : n ≤ 1122

pub lines_fine : (n : ℕ) (ws : List Word) → n ≤ 1122 → All (WordWithin n) ws → All (LineWithin n) ws
lines_fine n [] h w = tt
lines_fine n (x ∷ xs) h w = (record { within = w.0; all = pairs_fine n 0 x.pairs h w.0.pairs }, lines_fine n xs h w.1)

abbrev pub words_within : (n : ℕ) (ws : List Word) → WordsWithin n ws → All (LineWithin n) ws
words_within n ws w = lines_fine n ws w.short w.all

pub end_apart : (n : ℕ) (r : List ℕ) → r ≡ [] → Apart (words n) (WordsWithin n) (words_within n) r
end_apart n r e = subst (Apart (words n) (WordsWithin n) (words_within n)) (sym e) (record { other = λ e. omega arith; follow = tt })

-- the words' lines, up to the text's end
abbrev pub words_form : ℕ → Form (List Word × Unit)
words_form n = chain (words n) (WordsWithin n) (words_within n) end (λ b r _ e. end_apart n r e)

abbrev pub settings_then : ℕ → Form (Settings × (List Word × Unit))
settings_then n = seq settings_form (words_form n) (λ _ _ _ _. tt)

pub settings_apart : (u : List ℕ) → Apart rows RowsWithin rows_within (80 ∷ u)
settings_apart u = record { other = λ e. omega arith; follow = tt }

abbrev pub Body : Type 0
Body = List (List ℕ) × (Settings × (List Word × Unit))

-- the lines behind the first one
abbrev pub body_form : ℕ → Form Body
body_form n = chain rows RowsWithin rows_within (settings_then n) (λ b r _ _. settings_apart _)

-- the first line
abbrev pub head_form : Form (ℕ × Unit)
head_form = lead 78 (seq (lead 9 (numbers 1122)) (byte 10) (λ _ _ _ _. refl))
