-- A row's addresses and the rows, read one by one.
use Rattle.std.proofs.Common.{◌≡◌, refl, sym, ap, ap₂, ◌∙◌, List, [], ◌∷◌, ◌++◌, append_assoc, append-nil, ℕ, suc, ◌+◌, ◌*◌, ◌≤◌, ◌<◌, length, get_or, add-one, length-append, arith}
use Rattle.std.proofs.lemmas.List.{map-append, length-map}
use Rattle.report_form.specs.Description.{RowWithin, flat}
use Rattle.report_form.specs.Accepted.{flat_few}
use Rattle.report_form.specs.Form.{Found, Missing, byte, lead, lead_none, lead_missing, via_missing, Ongoing, Hopeless, ListEnds, going_start, going_more, going_missing, chain_ends, chain_stops}
use Rattle.report_form.specs.Forms.{row_fields, numbers, addresses, newline_apart, row_chain, row_form, rows, RowsWithin, rows_within, RowsSo}
use Rattle.report_form.proofs.Lists.{list_full, length_snoc, all_snoc}

-- ---- a row

-- the addresses of a row so far, behind those of the rows before
pub record RowSo (before : List ℕ) (count : ℕ) (places row : List ℕ) : Type 0 where
  pub count_is : length row ≡ count
  pub places_are : places ≡ before ++ row

abbrev pub RowSoFar : List ℕ → ℕ → List ℕ → List ℕ → List ℕ → Type 0
RowSoFar before count places t now = Ongoing addresses RowWithin (λ xs w. w.addresses) (RowSo before count places) t now

pub row_start : (before t : List ℕ) → RowSoFar before 0 before t t
row_start before t =
    going_start addresses RowWithin (λ xs w. w.addresses) (RowSo before 0 before) t (record { addresses = tt; few = omega arith }) (record { count_is = refl; places_are = sym (append-nil before) })

pub row_again : {before places : List ℕ} {count value : ℕ} {t now next : List ℕ} → RowSoFar before count places t now → Found (lead 9 (numbers 65535)) (λ x. x ≡ value) now next → count < 4
    → RowSoFar before (count + 1) (places ++ value ∷ []) t next
row_again {before} {places} {count} {value} {t} {now} {next} o f c =
    going_more addresses RowWithin (λ xs w. w.addresses) (RowSo before count places) (RowSo before (count + 1) (places ++ value ∷ [])) (λ x. x ≡ value) t now next o f
    (record {
      addresses = all_snoc (λ (a : ℕ). a ≤ 65535) o.done f.it o.ok.addresses f.within;
      few = omega (arith, length_snoc o.done f.it, o.says.count_is);
    })
    (record {
      count_is = length_snoc o.done f.it ∙ ap suc o.says.count_is ∙ sym (add-one count);
      places_are = ap₂ (λ (l : List ℕ) (a : ℕ). l ++ a ∷ []) o.says.places_are (sym f.says) ∙ append_assoc before o.done (f.it ∷ []);
    })

pub row_room : {before places : List ℕ} {count : ℕ} {t now : List ℕ} → RowSoFar before count places t now → length places ≡ length before + count
row_room {before} o = ap length o.says.places_are ∙ length-append before o.done ∙ ap (λ (k : ℕ). length before + k) o.says.count_is

pub no_row_letter : {t : List ℕ} → Missing (byte 82) t → Missing row_form t
no_row_letter m = via_missing (lead 82 row_chain) row_fields (lead_none 82 row_chain m)

-- neither a newline nor an address
pub row_none : {before places : List ℕ} {count : ℕ} {t u now : List ℕ} → Found (byte 82) (λ _. Unit) t u → RowSoFar before count places u now → Missing (byte 10) now → Missing (lead 9 (numbers 65535)) now
    → Missing row_form t
row_none h o e m =
    via_missing (lead 82 row_chain) row_fields
    (lead_missing 82 row_chain h (chain_stops addresses RowWithin (λ xs w. w.addresses) (byte 10) (λ b r _ _. newline_apart r) o m e))

-- no newline behind the last address that may come
pub row_unended : {before places : List ℕ} {count : ℕ} {t u now : List ℕ} → Found (byte 82) (λ _. Unit) t u → RowSoFar before count places u now → 4 ≤ count → Missing (byte 10) now → Missing row_form t
row_unended {before} {places} {count} {now = now} h o e m =
    via_missing (lead 82 row_chain) row_fields
    (lead_missing 82 row_chain h
    (chain_ends addresses RowWithin (λ xs w. w.addresses) (byte 10) (λ b r _ _. newline_apart r) o
    (list_full addresses RowWithin (λ xs w. w.addresses) (RowSo before count places) 4 count (λ _ w. w.few) (λ _ s. s.count_is) now e)
    m))

-- ---- the rows

flat_snoc : (rs : List (List ℕ)) (r : List ℕ) → flat (rs ++ r ∷ []) ≡ flat rs ++ r
flat_snoc [] r = append-nil r
flat_snoc (q ∷ rs) r = ap (λ (l : List ℕ). q ++ l) (flat_snoc rs r) ∙ sym (append_assoc q (flat rs) r)

abbrev pub RowsSoFar : List ℕ → List ℕ → List ℕ → List ℕ → Type 0
RowsSoFar lengths places t now = Ongoing rows RowsWithin rows_within (RowsSo lengths places) t now

rows_count : {lengths places : List ℕ} {rs : List (List ℕ)} → RowsSo lengths places rs → length rs ≡ length lengths
rows_count {rs = rs} s = sym (ap length s.lengths_are ∙ length-map rs length)

pub rows_room : {lengths places : List ℕ} {t now : List ℕ} → RowsSoFar lengths places t now → (length lengths ≤ 3) × (length places ≤ length lengths * 4)
rows_room o =
    let c = rows_count o.says in
    (omega (arith, c, o.ok.three), omega (arith, c, ap length o.says.places_are, flat_few o.done o.ok.all))

pub rows_again : {lengths places places' : List ℕ} {size : ℕ} {t now next : List ℕ} → RowsSoFar lengths places t now
    → Found row_form (λ row. (length row ≡ size) × (places' ≡ places ++ row)) now next → length lengths < 3 → RowsSoFar (lengths ++ size ∷ []) places' t next
rows_again {lengths} {places} {places'} {size} {t} {now} {next} o f c =
    going_more rows RowsWithin rows_within (RowsSo lengths places) (RowsSo (lengths ++ size ∷ []) places') (λ row. (length row ≡ size) × (places' ≡ places ++ row)) t now next o f
    (record {
      all = all_snoc RowWithin o.done f.it o.ok.all f.within;
      three = omega (arith, length_snoc o.done f.it, rows_count o.says);
    })
    (record {
      lengths_are = ap₂ (λ (l : List ℕ) (k : ℕ). l ++ k ∷ []) o.says.lengths_are (sym f.says.0) ∙ sym (map-append length o.done (f.it ∷ []));
      places_are = f.says.1 ∙ ap (λ (l : List ℕ). l ++ f.it) o.says.places_are ∙ sym (flat_snoc o.done f.it);
    })

pub rows_none : {lengths places : List ℕ} {t now : List ℕ} → RowsSoFar lengths places t now → get_or now 0 0 ≡ 82 → Missing row_form now → Hopeless rows RowsWithin rows_within t
rows_none {lengths} {places} {t} {now} o e m = going_missing rows RowsWithin rows_within (RowsSo lengths places) t now o e m

-- three rows are all that may come
pub rows_full : {lengths places : List ℕ} (now : List ℕ) → 3 ≤ length lengths → ListEnds rows RowsWithin rows_within (RowsSo lengths places) now
rows_full {lengths} {places} now e = list_full rows RowsWithin rows_within (RowsSo lengths places) 3 (length lengths) (λ _ w. w.three) (λ _ s. rows_count s) now e
