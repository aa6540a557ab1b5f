-- S_N(a + r) ≤ S_N(a) S_N(r), and S_M(a) S_K(r) ≤ S_(M+K)(a + r).
use Prim.Native.Nat.{ℕ, zero, suc, ◌+◌, ◌*◌, ◌/◌, ◌^◌, ◌≤◌, ◌<◌}
use mathlib.Core.Path.{◌≡◌, refl, sym, ap, ap₂, ◌∙◌}
use native.Mathlib.Omega.{arith}
use native.Mathlib.Nat.{le_refl, mul-le-mul_left, mul-le-mul_right, pow-succ', pow-zero}
use native.Mathlib.Nat.{eq_of_mul-eq-mul_left, eq_of_mul-eq-mul_right, mul-pos, dvd_refl, dvd-mul_right_of_dvd, div-mul_cancel, le_of_mul-le-mul_right}
use native.Mathlib.Nat.{zero-add, suc-add}
use Prim.Native.Nat.{◌∣◌}
use native.Mathlib.Decide.{le_ind}
use Rattle.weight.specs.Weight.{num, den}
use Rattle.weight.proofs.Series.{den_pos}

abbrev Seq : Type 0
Seq = ℕ → ℕ

next : Seq → Seq
next f i = f (suc i)

-- f 0 + .. + f n
sum : Seq → ℕ → ℕ
sum f zero = f 0
sum f (suc n) = f 0 + sum (next f) n

-- f 0 · g k + f 1 · g (k - 1) + .. + f k · g 0
conv : Seq → Seq → ℕ → ℕ
conv f g zero = f 0 * g 0
conv f g (suc k) = f 0 * g (suc k) + conv (next f) g k

-- conv f g 0 + .. + conv f g n
tri : Seq → Seq → ℕ → ℕ
tri f g n = sum (conv f g) n

sum_last : (f : Seq) (n : ℕ) → sum f (suc n) ≡ sum f n + f (suc n)
unfolding sum next
sum_last f zero = refl
sum_last f (suc n) = omega (arith, sum_last (next f) n)

sum_add : (f g : Seq) (n : ℕ) → sum (λ i. f i + g i) n ≡ sum f n + sum g n
unfolding sum next
sum_add f g zero = refl
sum_add f g (suc n) = omega (arith, sum_add (next f) (next g) n)

sum_scale : (c : ℕ) (g : Seq) (n : ℕ) → sum (λ i. c * g i) n ≡ c * sum g n
unfolding sum next
sum_scale c g zero = refl
sum_scale c g (suc n) = omega (arith, sum_scale c (next g) n)

sum_ext : (f g : Seq) (n : ℕ) → ((i : ℕ) → i ≤ n → f i ≡ g i) → sum f n ≡ sum g n
unfolding sum next
sum_ext f g zero e = e 0 (le_refl 0)
sum_ext f g (suc n) e = omega (arith, e 0 (omega arith), sum_ext (next f) (next g) n (λ i h. e (suc i) (omega arith)))

sum_mono : (f : Seq) (n m : ℕ) → n ≤ m → sum f n ≤ sum f m
sum_mono f n m h = le_ind (λ k. sum f n ≤ sum f k) (le_refl _) (λ k l r. omega (arith, r, sum_last f k)) m h

sum_first : (f : Seq) (n : ℕ) → sum f (suc n) ≡ f 0 + sum (next f) n
unfolding sum
sum_first f n = refl

-- The triangle by its rows.
tri_row : (f g : Seq) (n : ℕ) → tri f g (suc n) ≡ f 0 * sum g (suc n) + tri (next f) g n
unfolding tri sum conv next
tri_row f g n =
    omega (
      arith,
      sum_add (λ i. f 0 * g (suc i)) (conv (next f) g) n,
      sum_scale (f 0) (next g) n,
    )

square : (f g : Seq) (n : ℕ) → tri f g n ≤ sum f n * sum g n
square f g zero = unfold tri sum conv in omega arith
square f g (suc n) =
    rw (tri_row, sum_first f n)
    (omega (arith, square (next f) g n, mul-le-mul_left (sum (next f) n) (sum_mono g n (suc n) (omega arith))))

first_row : (f g : Seq) (k : ℕ) → f 0 * sum g k ≤ tri f g k
first_row f g zero = unfold tri sum conv in omega arith
first_row f g (suc k) = omega (arith, tri_row f g k)

rectangle : (f g : Seq) (m k : ℕ) → sum f m * sum g k ≤ tri f g (m + k)
rectangle f g zero k = rw zero-add (unfold sum in first_row f g k)
rectangle f g (suc m) k =
    rw (suc-add, tri_row, sum_first f m)
    (omega (arith, rectangle (next f) g m k, mul-le-mul_left (f 0) (sum_mono g k (suc (m + k)) (omega arith))))

-- A product's derivative, on coefficients.
deriv : Seq → Seq
deriv f i = suc i * f (suc i)

conv_add : (f h g : Seq) (k : ℕ) → conv (λ i. f i + h i) g k ≡ conv f g k + conv h g k
unfolding conv next
conv_add f h g zero = omega arith
conv_add f h g (suc k) = omega (arith, conv_add (next f) (next h) g k)

conv_left : (c : ℕ) (f g : Seq) (k : ℕ) → conv (λ i. c * f i) g k ≡ c * conv f g k
unfolding conv next
conv_left c f g zero = omega arith
conv_left c f g (suc k) = omega (arith, conv_left c (next f) g k)

conv_right : (c : ℕ) (f g : Seq) (k : ℕ) → conv f (λ i. c * g i) k ≡ c * conv f g k
unfolding conv
conv_right c f g zero = omega arith
conv_right c f g (suc k) = omega (arith, conv_right c (next f) g k)

conv_ext : (f f' g g' : Seq) (k : ℕ) → ((i : ℕ) → i ≤ k → f i ≡ f' i) → ((i : ℕ) → i ≤ k → g i ≡ g' i) → conv f g k ≡ conv f' g' k
unfolding conv next
conv_ext f f' g g' zero e d = ap₂ ◌*◌ (e 0 (le_refl 0)) (d 0 (le_refl 0))
conv_ext f f' g g' (suc k) e d =
    ap₂ ◌+◌
    (ap₂ ◌*◌ (e 0 (omega arith)) (d (suc k) (le_refl _)))
    (conv_ext (next f) (next f') g g' k (λ i h. e (suc i) (omega arith)) (λ i h. d i (omega arith)))

leibniz : (f g : Seq) (k : ℕ) → suc k * conv f g (suc k) ≡ conv (deriv f) g k + conv f (deriv g) k
unfolding conv next deriv
leibniz f g zero = omega arith
leibniz f g (suc k) =
    omega (
      arith,
      leibniz (next f) g k,
      conv_add (λ i. suc i * f (suc (suc i))) (λ i. f (suc (suc i))) g k,
      conv_ext (λ i. suc (suc i) * f (suc (suc i))) (λ i. suc i * f (suc (suc i)) + f (suc (suc i))) g g k (λ i h. omega arith) (λ i h. refl),
    )

-- Sequences of terms over one denominator c: f i is c · (a/b)^i / i!, for i up to n.
Terms : ℕ → ℕ → ℕ → ℕ → Seq → Type 0
Terms b c n a f = (i : ℕ) → i ≤ n → f i * den b i ≡ c * a ^ i

module _ (b : ℕ) (pos : 0 < b) where
  terms_step : (c n a : ℕ) (f : Seq) → Terms b c n a f → (i : ℕ) → suc i ≤ n → b * deriv f i ≡ a * f i
  unfolding Terms deriv den
  terms_step c n a f t i h =
      eq_of_mul-eq-mul_right (den b i) (den_pos b i pos) _ _
      (omega (arith, t (suc i) h, ap (λ x. a * x) (t i (omega arith)), ap (λ x. c * x) (pow-succ' a i)))

  terms_sum : (c n a : ℕ) (f : Seq) → Terms b c n a f → (m : ℕ) → m ≤ n → sum f m * den b m ≡ c * num b a m
  unfolding Terms den num
  terms_sum c n a f t zero h = unfold sum in (t 0 h ∙ ap (λ x. c * x) (pow-zero a))
  terms_sum c n a f t (suc m) h =
      rw sum_last
      (omega (arith, t (suc m) h, ap (λ x. x * (suc m * b)) (terms_sum c n a f t m (omega arith))))

  terms_zero : (c n a : ℕ) (f : Seq) → Terms b c n a f → f 0 ≡ c
  unfolding Terms den
  terms_zero c n a f t = omega (arith, t 0 (omega arith), ap (λ x. c * x) (pow-zero a))

  -- The binomial theorem.
  module _ (c n a r : ℕ) (f g h : Seq) (cpos : 0 < c) (tf : Terms b c n a f) (tg : Terms b c n r g) (th : Terms b c n (a + r) h) where
    binomial : (k : ℕ) → k ≤ n → conv f g k ≡ c * h k
    unfolding deriv
    binomial zero l =
        unfold conv in
        ap₂ ◌*◌ (terms_zero c n a f tf) (terms_zero c n r g tg ∙ sym (terms_zero c n (a + r) h th))
    binomial (suc k) l =
        eq_of_mul-eq-mul_left (suc k * b) (mul-pos (omega arith) pos) _ _
        (omega (
          arith,
          ap (λ x. b * x) (leibniz f g k),
          sym (conv_left b (deriv f) g k),
          conv_ext (λ i. b * deriv f i) (λ i. a * f i) g g k (λ i e. terms_step c n a f tf i (omega arith)) (λ i e. refl),
          conv_left a f g k,
          sym (conv_right b f (deriv g) k),
          conv_ext f f (λ i. b * deriv g i) (λ i. r * g i) k (λ i e. refl) (λ i e. terms_step c n r g tg i (omega arith)),
          conv_right r f g k,
          ap (λ x. (a + r) * x) (binomial k (omega arith)),
          ap (λ x. c * x) (terms_step c n (a + r) h th k l),
        ))

    tri_is : tri f g n ≡ c * sum h n
    unfolding tri
    tri_is = sum_ext (conv f g) (λ k. c * h k) n binomial ∙ sum_scale c h n

-- The terms over the denominator of n.
terms : ℕ → ℕ → ℕ → Seq
terms b n u i = den b n / den b i * u ^ i

den_dvd : (b i n : ℕ) → i ≤ n → den b i ∣ den b n
unfolding den
den_dvd b i n h = le_ind (λ k. den b i ∣ den b k) (dvd_refl _) (λ k l r. dvd-mul_right_of_dvd (den b i) r (suc k * b)) n h

terms_are : (b n u : ℕ) → Terms b (den b n) n u (terms b n u)
unfolding Terms terms
terms_are b n u i h = omega (arith, ap (λ x. x * u ^ i) (div-mul_cancel (den b i) (den_dvd b i n h)))

terms_num : (b n u : ℕ) → 0 < b → sum (terms b n u) n ≡ num b u n
terms_num b n u p =
    eq_of_mul-eq-mul_right (den b n) (den_pos b n p) _ _
    (terms_sum b p (den b n) n u (terms b n u) (terms_are b n u) n (le_refl n) ∙ omega arith)

tri_num : (b n a r : ℕ) → 0 < b → tri (terms b n a) (terms b n r) n ≡ den b n * num b (a + r) n
tri_num b n a r p =
    tri_is b p (den b n) n a r (terms b n a) (terms b n r) (terms b n (a + r)) (den_pos b n p)
    (terms_are b n a) (terms_are b n r) (terms_are b n (a + r))
    ∙ ap (λ x. den b n * x) (terms_num b n (a + r) p)

-- S_n(a + r) ≤ S_n(a) S_n(r)
pub add_up : (b a r n : ℕ) → 0 < b → den b n * num b (a + r) n ≤ num b a n * num b r n
add_up b a r n p =
    omega (
      arith,
      square (terms b n a) (terms b n r) n,
      tri_num b n a r p,
      ap₂ ◌*◌ (terms_num b n a p) (terms_num b n r p),
    )

-- S_m(a) S_k(r) ≤ S_(m+k)(a + r)
pub add_low : (b a r m k : ℕ) → 0 < b → num b a m * num b r k * den b (m + k) ≤ num b (a + r) (m + k) * (den b m * den b k)
add_low b a r m k p =
    le_of_mul-le-mul_right {k = den b (m + k)}
    (omega (
      arith,
      mul-le-mul_right (den b m * den b k) (rectangle (terms b (m + k) a) (terms b (m + k) r) m k),
      ap (λ x. x * (den b m * den b k)) (tri_num b (m + k) a r p),
      ap₂ ◌*◌
          (terms_sum b p (den b (m + k)) (m + k) a (terms b (m + k) a) (terms_are b (m + k) a) m (omega arith))
          (terms_sum b p (den b (m + k)) (m + k) r (terms b (m + k) r) (terms_are b (m + k) r) k (omega arith)),
    ))
    (den_pos b (m + k) p)
