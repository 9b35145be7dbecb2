use Rattle.std.proofs.Common.{◌≡◌, ◌+◌, ◌%◌, ◌<◌, ◌∙◌, ◌++◌, ap, arith, length, take, take-append-drop, pos, ◌-ℤ◌, lit<, ℕ, get_or}
use Rattle.std.proofs.lemmas.Int.{to_z-of_z}
use Rattle.vectors_case.specs.Format.{number, schedule_of}
use Rattle.vectors_case.proofs.Chunks.{numbers_of}
use Rattle.vectors_case.proofs.Case.read.Goals as goal

pub returns-clause-reads : goal.returns-clause-reads
returns-clause-reads c =
    let input = c.args.input.now in
    let at : (i : ℕ) → i < 20 → get_or c.numbers.result i 0 ≡ number input i =
    numbers_of input c.in_ok-head.head.now c.numbers.result c.numbers.ensures c.in_ok-head.ensures.cases.0 in
    let head : take 80 input ++ c.in_ok-head.rest.now ≡ input = rw c.in_ok-head.ensures.cases.1 (take-append-drop 80 input) in
    let bases_long : length c.in_ok-rest.rest.now + number input 16 ≡ length c.in_ok-addrs.from_bases.now = omega (arith, c.in_ok-rest.ensures.cases, at 16 (lit< tt)) in
    let maps_long : length c.in_ok-rest-2.rest.now + number input 18 ≡ length c.in_ok-recipes.from_maps.now = omega (arith, c.in_ok-rest-2.ensures.cases, at 18 (lit< tt)) in
    let bases : take (number input 16) c.in_ok-addrs.from_bases.now ++ c.in_ok-rest.rest.now ≡ c.in_ok-addrs.from_bases.now =
    rw (c.in_ok-rest.ensures.cases.2, at 16 (lit< tt)) (take-append-drop (number input 16) c.in_ok-addrs.from_bases.now) in
    let maps : take (number input 18) c.in_ok-recipes.from_maps.now ++ c.in_ok-rest-2.rest.now ≡ c.in_ok-recipes.from_maps.now =
    rw (c.in_ok-rest-2.ensures.cases.2, at 18 (lit< tt)) (take-append-drop (number input 18) c.in_ok-recipes.from_maps.now) in
    let offset : c.below_zero.result ≡ pos (number input 8 % 256) -ℤ pos 128 = c.below_zero.ensures ∙ ap (λ x. pos (x % 256) -ℤ pos 128) (at 8 (lit< tt)) in
    record {
      n = omega (arith, at 0 (lit< tt));
      lens = omega (arith, c.in_ok-lens.ensures.0, at 1 (lit< tt));
      addrs = omega (arith, c.in_ok-addrs.ensures.0, at 2 (lit< tt));
      soft = omega (arith, at 3 (lit< tt));
      lanes = omega (arith, at 4 (lit< tt));
      iterations = omega (arith, at 5 (lit< tt));
      schedule = c.schedule.ensures ∙ ap (λ x. schedule_of x (get_or c.numbers.result 7 0)) (at 6 (lit< tt)) ∙ ap (λ x. schedule_of (number input 6) x) (at 7 (lit< tt));
      offset = grind (arith, to_z-of_z, offset);
      rounds = omega (arith, at 9 (lit< tt));
      first = omega (arith, at 10 (lit< tt));
      long = omega (arith, at 11 (lit< tt));
      out = omega (arith, at 12 (lit< tt));
      room = omega (arith, at 13 (lit< tt));
      work = omega (arith, at 14 (lit< tt));
      lists = omega (arith, at 15 (lit< tt));
      bases = omega (arith, bases_long);
      count = omega (arith, at 17 (lit< tt));
      recipes = omega (arith, c.in_ok-recipes.ensures.0, at 17 (lit< tt));
      maps = omega (arith, maps_long);
      checks = omega (arith, at 19 (lit< tt));
      parts = cc (head, c.in_ok-lens.ensures.1, c.in_ok-addrs.ensures.1, bases, c.in_ok-recipes.ensures.1, maps);
      from_bases = cc (head, c.in_ok-lens.ensures.1, c.in_ok-addrs.ensures.1);
      from_maps = cc (bases, c.in_ok-recipes.ensures.1);
    }

pub returns-in_err-lens-clause-complete : goal.returns-in_err-lens-clause-complete
returns-in_err-lens-clause-complete c = λ enough.
    let at = numbers_of c.args.input.now c.in_ok-head.head.now c.numbers.result c.numbers.ensures c.in_ok-head.ensures.cases.0 in
    absurd (omega (arith, enough, at 1 (lit< tt), c.in_ok-head.ensures.cases, c.in_err-lens.ensures))

pub returns-in_err-addrs-clause-complete : goal.returns-in_err-addrs-clause-complete
returns-in_err-addrs-clause-complete c = λ enough.
    let at = numbers_of c.args.input.now c.in_ok-head.head.now c.numbers.result c.numbers.ensures c.in_ok-head.ensures.cases.0 in
    absurd (omega (arith, enough, at 1 (lit< tt), at 2 (lit< tt), c.in_ok-head.ensures.cases, c.in_ok-lens.ensures, c.in_err-addrs.ensures))

pub returns-in_err-rest-clause-complete : goal.returns-in_err-rest-clause-complete
returns-in_err-rest-clause-complete c = λ enough.
    let at = numbers_of c.args.input.now c.in_ok-head.head.now c.numbers.result c.numbers.ensures c.in_ok-head.ensures.cases.0 in
    absurd (omega (arith, enough, at 1 (lit< tt), at 2 (lit< tt), at 16 (lit< tt), c.in_ok-head.ensures.cases, c.in_ok-lens.ensures, c.in_ok-addrs.ensures, c.in_err-rest.ensures))

pub returns-in_err-recipes-clause-complete : goal.returns-in_err-recipes-clause-complete
returns-in_err-recipes-clause-complete c = λ enough.
    let at = numbers_of c.args.input.now c.in_ok-head.head.now c.numbers.result c.numbers.ensures c.in_ok-head.ensures.cases.0 in
    absurd (omega (arith, enough, at 1 (lit< tt), at 2 (lit< tt), at 16 (lit< tt), at 17 (lit< tt), c.in_ok-head.ensures.cases, c.in_ok-lens.ensures, c.in_ok-addrs.ensures, c.in_ok-rest.ensures, c.in_err-recipes.ensures))

pub returns-in_err-rest-2-clause-complete : goal.returns-in_err-rest-2-clause-complete
returns-in_err-rest-2-clause-complete c = λ enough.
    let at = numbers_of c.args.input.now c.in_ok-head.head.now c.numbers.result c.numbers.ensures c.in_ok-head.ensures.cases.0 in
    absurd (omega (arith, enough, at 1 (lit< tt), at 2 (lit< tt), at 16 (lit< tt), at 17 (lit< tt), at 18 (lit< tt), c.in_ok-head.ensures.cases, c.in_ok-lens.ensures, c.in_ok-addrs.ensures, c.in_ok-rest.ensures, c.in_ok-recipes.ensures, c.in_err-rest-2.ensures))
