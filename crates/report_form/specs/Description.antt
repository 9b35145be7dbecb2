-- What a text asks the report for, and how it is written: the scope's "Report text". A text of the form is the rendering of a description within
-- the limits. Definitions only; Unique and Longest have the laws.
use Rattle.std.specs.Prelude.{List, [], ◌∷◌, ◌++◌, map, ℕ, suc, ◌+◌, ◌≤◌, ◌<◌, ℤ, pos, negsuc, length, set, replicate}
use Rattle.laws.specs.Definitions.{decimal, signed}

-- "`S` or step": sequential, or layered with a step
pub data Schedule : Type 0 where
  sequential : Schedule
  layered : ℕ → Schedule

-- "lanes, iterations, offset, `S` or step, round limit, first, length": iterations is the iteration limit, first and length are the BCH part's
pub record Settings : Type 0 where
  pub lanes : ℕ
  pub iteration_limit : ℕ
  pub offset : ℤ
  pub schedule : Schedule
  pub round_limit : ℕ
  pub part_first : ℕ
  pub part_length : ℕ

-- a position and the soft value there
pub record Pair : Type 0 where
  pub position : ℕ
  pub value : ℤ

-- "default soft value, then up to 64 pairs of position and value"
pub record Word : Type 0 where
  pub default : ℤ
  pub pairs : List Pair

-- "One N, any R, one P, any W, in that order"
pub record Description : Type 0 where
  pub n : ℕ
  pub rows : List (List ℕ)
  pub settings : Settings
  pub words : List Word

-- rows one after another
abbrev pub flat : List (List ℕ) → List ℕ
flat [] = []
flat (r ∷ rs) = r ++ flat rs

-- every element of a list
abbrev pub All : {A : Type 0} → (A → Type 0) → List A → Type 0
All P [] = Unit
All P (x ∷ xs) = P x × All P xs

-- "unsigned 32"
abbrev pub Wide : ℕ → Type 0
Wide v = v ≤ 4294967295

-- "signed 8"
abbrev pub Small : ℤ → Type 0
Small (pos v) = v ≤ 127
Small (negsuc v) = v ≤ 127

-- "below n, strictly ascending": each position at least the number after the one before
abbrev pub Ascending : ℕ → ℕ → List Pair → Type 0
Ascending n least [] = Unit
Ascending n least (p ∷ ps) = (least ≤ p.position) × (p.position < n) × Small p.value × Ascending n (suc p.position) ps

-- "rows of 4", "addresses are 16 bits"
pub record RowWithin (row : List ℕ) : Type 0 where
  pub addresses : All (λ (a : ℕ). a ≤ 65535) row
  pub few : length row ≤ 4

abbrev pub ScheduleWithin : Schedule → Type 0
ScheduleWithin sequential = Unit
ScheduleWithin (layered step) = Wide step

-- "4 lanes", "offset signed 8, the rest unsigned 32"
pub record SettingsWithin (s : Settings) : Type 0 where
  pub lanes : s.lanes ≤ 4
  pub iteration_limit : Wide s.iteration_limit
  pub offset : Small s.offset
  pub schedule : ScheduleWithin s.schedule
  pub round_limit : Wide s.round_limit
  pub part_first : Wide s.part_first
  pub part_length : Wide s.part_length

-- "up to 64 pairs", values signed 8
pub record WordWithin (n : ℕ) (w : Word) : Type 0 where
  pub default : Small w.default
  pub pairs : Ascending n 0 w.pairs
  pub few : length w.pairs ≤ 64

-- "At most: n 1,122, 3 rows of 4, 4 lanes, 16 words"
pub record Within (d : Description) : Type 0 where
  pub n : d.n ≤ 1122
  pub rows : All RowWithin d.rows
  pub three : length d.rows ≤ 3
  pub settings : SettingsWithin d.settings
  pub words : All (WordWithin d.n) d.words
  pub sixteen : length d.words ≤ 16

-- the texts of a list's elements, one after another
abbrev pub each : {A : Type 0} → (A → List ℕ) → List A → List ℕ
each f [] = []
each f (x ∷ xs) = f x ++ each f xs

-- "Fields are parted by tabs, every line ends in a newline": a line's first field and its other fields; 9 is a tab and 10 a newline
abbrev pub line : List ℕ → List (List ℕ) → List ℕ
line field [] = field ++ 10 ∷ []
line field (next ∷ fields) = field ++ 9 ∷ line next fields

-- "`R` addresses, a line per row (an empty row is `R` alone)"
abbrev pub row_line : List ℕ → List ℕ
row_line row = line (82 ∷ []) (map decimal row)

abbrev pub schedule_text : Schedule → List ℕ
schedule_text sequential = 83 ∷ []
schedule_text (layered step) = decimal step

-- "`P` lanes, iterations, offset, `S` or step, round limit, first, length"
abbrev pub settings_line : Settings → List ℕ
settings_line s =
    line (80 ∷ [])
    (decimal s.lanes
    ∷ decimal s.iteration_limit
    ∷ signed s.offset
    ∷ schedule_text s.schedule
    ∷ decimal s.round_limit
    ∷ decimal s.part_first
    ∷ decimal s.part_length
    ∷ [])

abbrev pub pair_fields : List Pair → List (List ℕ)
pair_fields [] = []
pair_fields (p ∷ ps) = decimal p.position ∷ signed p.value ∷ pair_fields ps

-- "`W` default soft value, then up to 64 pairs of position and value"
abbrev pub word_line : Word → List ℕ
word_line w = line (87 ∷ []) (signed w.default ∷ pair_fields w.pairs)

-- "`N` n"; "One N, any R, one P, any W, in that order"
unfoldable pub render : Description → List ℕ
render d = line (78 ∷ []) (decimal d.n ∷ []) ++ each row_line d.rows ++ settings_line d.settings ++ each word_line d.words

-- pairs stored in a list from a place on
abbrev pub stored : ℕ → List Pair → List ℤ → List ℤ
stored base [] xs = xs
stored base (p ∷ ps) xs = stored base ps (set xs (base + p.position) p.value)

-- a word's soft values: the default everywhere but at the positions of its pairs
abbrev pub soft_word : ℕ → Word → List ℤ
soft_word n w = stored 0 w.pairs (replicate n w.default)

-- the soft values of all words, one after another
abbrev pub soft_words : ℕ → List Word → List ℤ
soft_words n [] = []
soft_words n (w ∷ ws) = soft_word n w ++ soft_words n ws
