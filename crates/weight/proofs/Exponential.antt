-- scale · e^r, for r below a sixteenth, beside the true sum: never above it, and short of it by a count of roundings.
use mathlib.Core.Path.{ap}
use Prim.Native.Nat.{ℕ, suc, ◌+◌, ◌*◌, ◌/◌, ◌^◌, ◌≤◌, ◌<◌}
use native.Mathlib.Nat.{le_trans, le_of_lt, mul-le-mul, mul-le-mul_left, mul-le-mul_right, le_of_mul-le-mul_right, pow-succ', pow-le-pow_left}
use native.Mathlib.Nat.{div-mul-le_self, lt-div-mul-add}
use native.Mathlib.Omega.{arith}
use lib.Dec.{lit<, lit≤}
use Rattle.weight.specs.Weight.{num, den, units}
use Rattle.weight.specs.Choice.{scale, square, second, third, fourth, fifth, sixth, exponential}
use Rattle.weight.proofs.Series.{den_pos, pow_one}
use Rattle.weight.proofs.Tail.{tail}

-- t is the term j of scale · e^r or up to e below it
record Term (e r j t : ℕ) : Type 0 where
  low : t * den units j ≤ scale * r ^ j
  high : scale * r ^ j ≤ (t + e) * den units j

-- v is the sum up to the term j or up to e below it
record Sum (e r j v : ℕ) : Type 0 where
  low : v * den units j ≤ scale * num units r j
  high : scale * num units r j ≤ (v + e) * den units j

-- w is x / d, rounded down
record Floor (x d w : ℕ) : Type 0 where
  low : w * d ≤ x
  high : x ≤ (w + 1) * d

floor : (x d : ℕ) → 0 < d → Floor x d (x / d)
floor x d p = record { low = div-mul-le_self x d; high = omega (arith, lt-div-mul-add {a = x} {b = d} p) }

-- the next term, by r
by_one : (e r j t w : ℕ) → r ≤ suc j * units → Term e r j t → Floor (t * r) (suc j * units) w → Term (e + 1) r (suc j) w
unfolding den
by_one e r j t w small h f =
    record {
      low = omega (arith, mul-le-mul_right r h.low, mul-le-mul_right (den units j) f.low, ap (λ x. scale * x) (pow-succ' r j));
      high =
          omega (
            arith,
            mul-le-mul_right r h.high,
            mul-le-mul_right (den units j) f.high,
            mul-le-mul_left (e * den units j) small,
            ap (λ x. scale * x) (pow-succ' r j),
          );
    }

-- the term after it, by the square y of r
by_two : (e r j t y w : ℕ) → t + e * (y + 1) ≤ suc j * suc (suc j) * units → Floor (r * r) units y → Term e r j t
    → Floor (t * y) (suc j * suc (suc j) * units) w → Term 2 r (suc (suc j)) w
unfolding den
by_two e r j t y w small s h f =
    record {
      low =
          omega (
            arith,
            mul-le-mul_right (r * r) h.low,
            mul-le-mul_right (den units j * units) f.low,
            mul-le-mul_left (t * den units j) s.low,
            ap (λ x. scale * x) (pow-succ' r (suc j)),
            ap (λ x. scale * (r * x)) (pow-succ' r j),
          );
      high =
          omega (
            arith,
            mul-le-mul_right (r * r) h.high,
            mul-le-mul_left ((t + e) * den units j) s.high,
            mul-le-mul_right (den units j * units) f.high,
            mul-le-mul_right (den units j * units) small,
            ap (λ x. scale * x) (pow-succ' r (suc j)),
            ap (λ x. scale * (r * x)) (pow-succ' r j),
          );
    }

more : (e f r j v t : ℕ) → Sum e r j v → Term f r (suc j) t → Sum (e + f) r (suc j) (v + t)
unfolding den num
more e f r j v t h k =
    record {
      low = omega (arith, mul-le-mul_right (suc j * units) h.low, k.low);
      high = omega (arith, mul-le-mul_right (suc j * units) h.high, k.high);
    }

-- ---- for r below a sixteenth: what fits, and the sum
pub record Small (r : ℕ) : Type 0 where
  pub by_itself : r * r ≤ 390625000000000000
  pub first_by_r : 18 * r * r ≤ 7031250000000000000
  pub second_by_r : second r * r ≤ 351562500 * 625000000
  pub second_by_square : second r * square r ≤ 351562500 * 39062500
  pub third_by_square : third r * square r ≤ 7324218 * 39062500
  pub fourth_by_square : fourth r * square r ≤ 114440 * 39062500
  pub square_le : square r ≤ 39062500
  pub second_le : second r ≤ 351562500
  pub third_le : third r ≤ 7324218
  pub fourth_le : fourth r ≤ 114440
  pub fifth_le : fifth r ≤ 1430
  pub sixth_le : sixth r ≤ 14

pub small : (r : ℕ) → r < 625000000 → Small r
unfolding square second third fourth fifth sixth
small r h =
    let r-le : r ≤ 625000000 = omega arith in
    let rr : r * r ≤ 390625000000000000 = mul-le-mul r-le r-le in
    let s : square r ≤ 39062500 = omega arith in
    let ar : 18 * r * r ≤ 7031250000000000000 = omega arith in
    let b : second r ≤ 351562500 = omega arith in
    let br : second r * r ≤ 351562500 * 625000000 = mul-le-mul b r-le in
    let bs : second r * square r ≤ 351562500 * 39062500 = mul-le-mul b s in
    let c : third r ≤ 7324218 = omega arith in
    let cs : third r * square r ≤ 7324218 * 39062500 = mul-le-mul c s in
    let d : fourth r ≤ 114440 = omega arith in
    let ds : fourth r * square r ≤ 114440 * 39062500 = mul-le-mul d s in
    record {
      by_itself = rr;
      first_by_r = ar;
      second_by_r = br;
      second_by_square = bs;
      third_by_square = cs;
      fourth_by_square = ds;
      square_le = s;
      second_le = b;
      third_le = c;
      fourth_le = d;
      fifth_le = omega arith;
      sixth_le = omega arith;
    }

module _ (r : ℕ) (h : r < 625000000) where
  square_is : Floor (r * r) units (square r)
  unfolding square
  square_is = floor (r * r) units (lit< tt)

  term_1 : Term 0 r 1 (18 * r)
  unfolding den
  term_1 = record { low = rw (pow_one r) (omega arith); high = rw (pow_one r) (omega arith) }

  term_2 : Term 1 r 2 (second r)
  unfolding second
  term_2 = by_one 0 r 1 (18 * r) (second r) (omega arith) term_1 (floor (18 * r * r) (2 * units) (lit< tt))

  term_3 : Term 2 r 3 (third r)
  unfolding third
  term_3 = by_one 1 r 2 (second r) (third r) (omega arith) term_2 (floor (second r * r) (3 * units) (lit< tt))

  term_4 : Term 2 r 4 (fourth r)
  unfolding fourth
  term_4 =
      by_two 1 r 2 (second r) (square r) (fourth r) (omega (arith, small r h)) square_is term_2
      (floor (second r * square r) (12 * units) (lit< tt))

  term_5 : Term 2 r 5 (fifth r)
  unfolding fifth
  term_5 =
      by_two 2 r 3 (third r) (square r) (fifth r) (omega (arith, small r h)) square_is term_3
      (floor (third r * square r) (20 * units) (lit< tt))

  term_6 : Term 2 r 6 (sixth r)
  unfolding sixth
  term_6 =
      by_two 2 r 4 (fourth r) (square r) (sixth r) (omega (arith, small r h)) square_is term_4
      (floor (fourth r * square r) (30 * units) (lit< tt))

  sum_0 : Sum 0 r 0 scale
  unfolding den num
  sum_0 = record { low = omega arith; high = omega arith }

  sum_6 : Sum 9 r 6 (exponential r)
  unfolding exponential
  sum_6 =
      more 7 2 r 5 _ _ (more 5 2 r 4 _ _ (more 3 2 r 3 _ _ (more 1 2 r 2 _ _ (more 0 1 r 1 _ _ (more 0 0 r 0 _ _ sum_0 term_1) term_2) term_3) term_4) term_5) term_6

  pub exponential_up : exponential r * den units 6 ≤ scale * num units r 6
  exponential_up = sum_6.low

  -- the last term is below 16 units, and what is left beyond it below a quarter of that
  last_term : scale * r ^ 6 ≤ 4 * (4 * den units 6)
  unfolding den
  last_term = le_trans (mul-le-mul_left scale (pow-le-pow_left (le_of_lt h) 6)) (lit≤ tt)

  pub exponential_low : (n : ℕ) → 6 ≤ n → scale * num units r n ≤ (exponential r + 13) * den units n
  exponential_low n l =
      le_of_mul-le-mul_right {k = den units 6}
      (omega (
        arith,
        mul-le-mul_left scale (tail units r 6 n (lit< tt) (omega arith) l),
        mul-le-mul_right (den units n) last_term,
        mul-le-mul_right (den units n) sum_6.high,
      ))
      (den_pos units 6 (lit< tt))

  pub exponential_ge : scale ≤ exponential r
  unfolding exponential
  exponential_ge = omega arith

  pub exponential_le : exponential r ≤ 2 * scale
  unfolding exponential
  exponential_le = omega (arith, small r h)
