-- The slice is filled with the code's lists.
use Rattle.std.proofs.Common.{◌≡◌, refl, sym, ap, ap₂, ◌∙◌, subst, cond, List, [], ◌++◌, ℕ, zero, suc, ◌+◌, ◌-◌, ◌%◌, ◌≤◌, ◌<◌, arith, mod-lt, eqb, length, take, drop, get_or, take-append-drop, drop_of_length-le, ext_get_or, drop-drop}
use Rattle.std.proofs.Math.Seq.{slice}
use Rattle.laws.specs.Lists.{drop_take}
use Rattle.ldpc_shape.specs.declared.Sizes.{Sizes}
use Rattle.ldpc_shape.specs.declared.Table.{Table}
use Rattle.ldpc_shape.specs.Shape.{k_of, p_of, q_of, e_of, rows_of}
use Rattle.ldpc_shape.specs.Accepted.{Accepted, p_pos, q_pos, few}
use Rattle.ldpc_shape.proofs.Accepted.{table_accepted, table_k, table_p, table_q}
use Rattle.ldpc_shape.specs.Counts.{CountsBelow}
use Rattle.ldpc_edges.specs.Code.{Edge, of_rows, meets, check, start_of, joined, row_start, rows, edge_lists}
use Rattle.ldpc_edges.proofs.Degree.{degree}
use Rattle.ldpc_edges.specs.Count.{start, to_stairs, all_edges}
use Rattle.ldpc_edges.proofs.Count.{start_le, all_check, all_inside, stairs_inside, all_start, start_of_lem}
use Rattle.ldpc_edges.proofs.Lists.{start_length, start_at}
use Rattle.ldpc_lists.specs.Build.{Lists, as_lists, put_all, put_all_append, RoomForEdges, room_later, room_then, HoldsEdges, fill, empty, Listed, listed}
use Rattle.ldpc_lists.specs.Ends.{Few, ending, EndsSet}

module _ (n : ℕ) (lens addrs : List ℕ) (A : Accepted n lens addrs) where
  counted_few : (r : List ℕ) → CountsBelow r (q_of n lens) addrs → Few r (q_of n lens)
  counted_few r C l h = omega (arith, C l h, few n lens addrs A l h)

  -- the ends are those of the definition's lists
  ending_is : (r : List ℕ) → CountsBelow r (q_of n lens) addrs → (c : ℕ) → c ≤ p_of n lens → ending r (q_of n lens) c ≡ start (all_edges n lens addrs) c
  unfolding ending start
  ending_is r C zero h = refl
  ending_is r C (suc c) h =
      ap₂ (λ (x y : ℕ). x + y) (ending_is r C c (omega arith))
      (ap (λ (z : ℕ). z + cond (eqb c 0) 1 2) (C (c % q_of n lens) (mod-lt c (q_pos n lens addrs A)))
      ∙ sym (degree n lens addrs A c h) ∙ ap length (sym (all_check n lens addrs c h)))

  -- the lists from check c on, if each check's lies at its place
  rows_from : (bits : List ℕ) → length bits ≡ e_of n lens addrs
      → ((c : ℕ) → c < p_of n lens → slice (start_of n lens addrs c) (start_of n lens addrs (suc c)) bits ≡ check n lens addrs c)
      → start_of n lens addrs (p_of n lens) ≡ e_of n lens addrs → (c d : ℕ) → c + d ≡ p_of n lens → drop (start_of n lens addrs c) bits ≡ joined n lens addrs c d
  unfolding joined start_of
  rows_from bits l f s c zero e =
      let z : c ≡ p_of n lens = omega arith in
      drop_of_length-le bits {i = start_of n lens addrs c} (omega (arith, ap (start_of n lens addrs) z))
  rows_from bits l f s c (suc d) e =
      let w : start_of n lens addrs c + length (check n lens addrs c) - start_of n lens addrs c ≡ length (check n lens addrs c) = omega arith in
      sym (take-append-drop (length (check n lens addrs c)) (drop (start_of n lens addrs c) bits))
      ∙ ap₂ (λ (x y : List ℕ). x ++ y)
      (ap (λ (z : ℕ). take z (drop (start_of n lens addrs c) bits)) (sym w)
      ∙ sym (drop_take (start_of n lens addrs c) (start_of n lens addrs c + length (check n lens addrs c)) bits) ∙ f c (omega arith))
      (drop-drop (length (check n lens addrs c)) (start_of n lens addrs c) bits ∙ rows_from bits l f s (suc c) d (omega arith))

  -- the starts at the ends, and the bits as they are lent
  module _ (r at bits : List ℕ) (C : CountsBelow r (q_of n lens) addrs) (long : length at ≡ suc (p_of n lens)) (wide : length bits ≡ e_of n lens addrs)
      (E : EndsSet r (q_of n lens) at (p_of n lens)) (L : get_or at (p_of n lens) 0 ≡ ending r (q_of n lens) (p_of n lens)) where
    st : Lists
    st = as_lists at bits

    at_end : (c : ℕ) → c < p_of n lens → get_or at c 0 ≡ start (all_edges n lens addrs) (suc c)
    at_end c h = E.set_to c h ∙ ending_is r C (suc c) h

    bits_length : length bits ≡ start (all_edges n lens addrs) (p_of n lens)
    bits_length = wide ∙ sym (all_start n lens addrs A)

    nothing : HoldsEdges (p_of n lens) (all_edges n lens addrs) [] st
    unfolding st
    nothing = empty (p_of n lens) (all_edges n lens addrs) (as_lists at bits) long bits_length (L ∙ ending_is r C (p_of n lens) (omega arith)) at_end

    room_all : RoomForEdges (p_of n lens) (all_edges n lens addrs) (as_lists at bits)
    unfolding start
    room_all =
        record {
          long = omega (arith, long);
          fits = λ c h. omega (arith, at_end c h, bits_length, start_le (all_edges n lens addrs) (suc c) (p_of n lens) h);
          room = λ c h. omega (arith, at_end c h);
        }

    room_stairs : RoomForEdges (p_of n lens) (to_stairs (k_of lens) 0 (p_of n lens)) (as_lists at bits)
    unfolding all_edges
    room_stairs = room_later (p_of n lens) (meets n lens addrs) _ (as_lists at bits) room_all

    room_meets : RoomForEdges (p_of n lens) (meets n lens addrs) (put_all (to_stairs (k_of lens) 0 (p_of n lens)) (as_lists at bits))
    unfolding all_edges
    room_meets =
        room_then (p_of n lens) (k_of lens + p_of n lens) (meets n lens addrs) _ (as_lists at bits)
        (stairs_inside (p_of n lens) (k_of lens) 0 (p_of n lens) (omega arith)) room_all

    -- after all edges are put
    module _ (at' bits' : List ℕ) (e : as_lists at' bits' ≡ put_all (meets n lens addrs) (put_all (to_stairs (k_of lens) 0 (p_of n lens)) (as_lists at bits))) where
      done : Listed (p_of n lens) (all_edges n lens addrs) (as_lists at' bits')
      unfolding all_edges st
      done =
          subst (Listed (p_of n lens) (all_edges n lens addrs)) (put_all_append (meets n lens addrs) _ (as_lists at bits) ∙ sym e)
          (listed (p_of n lens) (all_edges n lens addrs) _
          (fill (p_of n lens) _ (all_edges n lens addrs) (all_edges n lens addrs) (as_lists at bits) (all_inside n lens addrs (p_pos n lens addrs A)) (λ c h. omega arith) nothing))

      begins : (c : ℕ) → c ≤ p_of n lens → get_or at' c 0 ≡ start_of n lens addrs c
      begins c h = done.begins c h ∙ start_of_lem n lens addrs c h

      front : at' ≡ row_start n lens addrs
      front =
          ext_get_or 0 at' (row_start n lens addrs) (done.long ∙ sym (start_length n lens addrs))
          (λ c h. let g : c ≤ p_of n lens = omega (arith, done.long) in begins c g ∙ sym (start_at n lens addrs A c g))

      back : bits' ≡ rows n lens addrs
      unfolding rows start_of
      back =
          rows_from bits' (done.wide ∙ all_start n lens addrs A)
          (λ c h. ap₂ (λ (x y : ℕ). slice x y bits') (sym (begins c (omega arith))) (sym (begins (suc c) h)) ∙ done.lists c h ∙ all_check n lens addrs c h)
          (sym (start_of_lem n lens addrs (p_of n lens) (omega arith)) ∙ all_start n lens addrs A) 0 (p_of n lens) (omega arith)

      pub built : at' ++ bits' ≡ edge_lists n lens addrs
      unfolding edge_lists
      built = ap₂ (λ (x y : List ℕ). x ++ y) front back

-- ---- a table, with its sizes as the program has them
module _ (T : Table) where
  e_same : T.sizes.e ≡ e_of T.sizes.n T.lens.now T.addrs.now
  e_same = ap (λ (z : Sizes). z.e) T.numbers

  pub counts_few : (r : List ℕ) → CountsBelow r T.sizes.q T.addrs.now → Few r T.sizes.q
  counts_few r C =
      subst (Few r) (sym (table_q T)) (counted_few T.sizes.n T.lens.now T.addrs.now (table_accepted T) r (subst (λ (z : ℕ). CountsBelow r z T.addrs.now) (table_q T) C))

  module _ (r at bits : List ℕ) (C : CountsBelow r T.sizes.q T.addrs.now) (long : length at ≡ suc T.sizes.p) (wide : length bits ≡ T.sizes.e)
      (E : EndsSet r T.sizes.q at T.sizes.p) (L : get_or at T.sizes.p 0 ≡ ending r T.sizes.q T.sizes.p) where
    C' : CountsBelow r (q_of T.sizes.n T.lens.now) T.addrs.now
    C' = subst (λ (z : ℕ). CountsBelow r z T.addrs.now) (table_q T) C

    E' : EndsSet r (q_of T.sizes.n T.lens.now) at (p_of T.sizes.n T.lens.now)
    E' = subst (λ (z : ℕ). EndsSet r z at (p_of T.sizes.n T.lens.now)) (table_q T) (subst (EndsSet r T.sizes.q at) (table_p T) E)

    L' : get_or at (p_of T.sizes.n T.lens.now) 0 ≡ ending r (q_of T.sizes.n T.lens.now) (p_of T.sizes.n T.lens.now)
    L' = ap (λ (z : ℕ). get_or at z 0) (sym (table_p T)) ∙ L ∙ ap₂ (ending r) (table_q T) (table_p T)

    long' : length at ≡ suc (p_of T.sizes.n T.lens.now)
    long' = long ∙ ap suc (table_p T)

    wide' : length bits ≡ e_of T.sizes.n T.lens.now T.addrs.now
    wide' = wide ∙ e_same

    stairs_same : to_stairs T.sizes.k 0 T.sizes.p ≡ to_stairs (k_of T.lens.now) 0 (p_of T.sizes.n T.lens.now)
    stairs_same = ap₂ (λ (x y : ℕ). to_stairs x 0 y) (table_k T) (table_p T)

    meets_same : of_rows T.sizes.p T.sizes.q 0 (rows_of T.lens.now T.addrs.now) ≡ meets T.sizes.n T.lens.now T.addrs.now
    unfolding meets
    meets_same = ap₂ (λ (x y : ℕ). of_rows x y 0 (rows_of T.lens.now T.addrs.now)) (table_p T) (table_q T)

    pub stairs_ready : RoomForEdges T.sizes.p (to_stairs T.sizes.k 0 T.sizes.p) (as_lists at bits)
    stairs_ready =
        subst (λ (es : List Edge). RoomForEdges T.sizes.p es (as_lists at bits)) (sym stairs_same)
        (subst (λ (z : ℕ). RoomForEdges z (to_stairs (k_of T.lens.now) 0 (p_of T.sizes.n T.lens.now)) (as_lists at bits)) (sym (table_p T))
        (room_stairs T.sizes.n T.lens.now T.addrs.now (table_accepted T) r at bits C' long' wide' E' L'))

    module _ (at' bits' : List ℕ) (f : as_lists at' bits' ≡ put_all (to_stairs T.sizes.k 0 T.sizes.p) (as_lists at bits)) where
      f' : as_lists at' bits' ≡ put_all (to_stairs (k_of T.lens.now) 0 (p_of T.sizes.n T.lens.now)) (as_lists at bits)
      f' = f ∙ ap (λ (es : List Edge). put_all es (as_lists at bits)) stairs_same

      pub meets_ready : RoomForEdges T.sizes.p (of_rows T.sizes.p T.sizes.q 0 (rows_of T.lens.now T.addrs.now)) (as_lists at' bits')
      meets_ready =
          subst (λ (es : List Edge). RoomForEdges T.sizes.p es (as_lists at' bits')) (sym meets_same)
          (subst (λ (z : ℕ). RoomForEdges z (meets T.sizes.n T.lens.now T.addrs.now) (as_lists at' bits')) (sym (table_p T))
          (subst (RoomForEdges (p_of T.sizes.n T.lens.now) (meets T.sizes.n T.lens.now T.addrs.now)) (sym f')
          (room_meets T.sizes.n T.lens.now T.addrs.now (table_accepted T) r at bits C' long' wide' E' L')))

      pub build_done : (at₂ bits₂ : List ℕ) → as_lists at₂ bits₂ ≡ put_all (of_rows T.sizes.p T.sizes.q 0 (rows_of T.lens.now T.addrs.now)) (as_lists at' bits')
          → at₂ ++ bits₂ ≡ edge_lists T.sizes.n T.lens.now T.addrs.now
      build_done at₂ bits₂ g =
          built T.sizes.n T.lens.now T.addrs.now (table_accepted T) r at bits C' long' wide' E' L' at₂ bits₂
          (g ∙ ap (λ (es : List Edge). put_all es (as_lists at' bits')) meets_same ∙ ap (put_all (meets T.sizes.n T.lens.now T.addrs.now)) f')
