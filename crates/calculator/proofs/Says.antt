-- What demand 3 says of an answer, with its numbers written out: a definition that says less does not give it.
use mathlib.Core.Option.{Option, none, some}
use mathlib.Core.Path.{◌≡◌, sym, ap, subst, ◌∙◌}
use Prim.Native.Nat.{ℕ, ◌≤◌}
use lib.Dec.{lit≤}
use lib.IntN.{ℤ, pos, nat_abs, ◌+ℤ◌, ◌-ℤ◌}
use lib.Signed.{◌≤ℤ◌, ◌<ℤ◌}
use Rattle.std.specs.Prelude as rust
use Rattle.std.specs.Prelude.{Some, None}
use Rattle.fraction.specs.Fraction.{Fraction, Within, over, floor}
use Rattle.fraction.specs.Tens.{Above, Below}
use Rattle.logarithm.specs.Log.{IsLog}
use Rattle.fit.specs.Exact.{in_units, exact_fit}
use Rattle.bands.specs.Bands.{strip_of}
use Rattle.bands.specs.declared.Strip.{Strip}
use Rattle.perfect.specs.Perfect.{perfect_gas}
use Rattle.air.specs.declared.Logs.{Logs}
use Rattle.air.specs.declared.Edges.{Edges}
use Rattle.air.specs.declared.Edges.TheVariants.{Unfitted, One, Two}
use Rattle.air.specs.declared.Answer.{Answer}
use Rattle.air.specs.Held.{Held, held}
use Rattle.air.specs.Places.{Rule, FitClaim, OwnClaim, JoinClaim}
use Rattle.air_temperature.specs.Temperature.{piece_at, temperature_rule}
use Rattle.air_temperature.specs.Claim.{KelvinClaim, TemperatureClaim}
use Rattle.air_entropy.specs.Claim.{exact_entropy, EntropyClaim}
use Rattle.air_pressure.specs.Pressure.{gamma_at, pressure_rule, pressure_of}
use Rattle.air_pressure.specs.Claim.{PressureClaim}
use Rattle.state.specs.State.{Accurate}
use Rattle.calculator.specs.Demand3.{Answered}

-- the fits and the value that are held, 0 where there is none
abbrev pub low_fit : Edges → ℤ
low_fit Unfitted = pos 0
low_fit (One e) = e.fit
low_fit (Two e f) = e.fit

abbrev pub high_fit : Edges → ℤ
high_fit Unfitted = pos 0
high_fit (One e) = pos 0
high_fit (Two e f) = f.fit

abbrev pub value_or0 : Option ℤ → ℤ
value_or0 none = pos 0
value_or0 (some v) = v

-- ---- a claim over any rule, drawn out
module _ (d n : ℕ) (r : Rule) (Claimed : Fraction → ℤ → ℤ → Type 0) (l : Logs) (h : Held) where
  abbrev NearAt : ℤ → ℤ → Type 0
  NearAt y g = Within d g (exact_fit (r.piece_at y l.z) n y l.z)

  own_near : OwnClaim d n r Claimed l h → NearAt l.y (low_fit h.edges)
  own_near c = subst (NearAt l.y) (sym (ap (λ (i : Held). low_fit i.edges) c.is)) c.claim.near

  own_value : OwnClaim d n r Claimed l h → Claimed (exact_fit (r.piece_at l.y l.z) n l.y l.z) (low_fit h.edges) (value_or0 h.value)
  own_value c =
      subst (λ (i : Held). Claimed (exact_fit (r.piece_at l.y l.z) n l.y l.z) (low_fit i.edges) (value_or0 i.value)) (sym c.is) c.claim.value

  both_near : (a b : ℤ) → JoinClaim d n r Claimed (record { low = a; high = b }) l h → NearAt a (low_fit h.edges) × NearAt b (high_fit h.edges)
  both_near a b c = (
    subst (NearAt a) (sym (ap (λ (i : Held). low_fit i.edges) c.is)) c.low_claim.near,
    subst (NearAt b) (sym (ap (λ (i : Held). high_fit i.edges) c.is)) c.high_claim.near,
  )

abbrev or : Logs → Option Logs → Logs
or d none = d
or d (some l) = l

-- the logarithms that a claim carries are those that are held
same_logs : (h : Held) (k l : Logs) → h.logs ≡ some k → h.logs ≡ some l → k ≡ l
same_logs h k l e f = ap (or l) (sym e ∙ f)

-- ---- a temperature
module _ (p d : ℕ) (a : Answer) (l : Logs) (it : Answered 1 p d a) (carried : (held a).logs ≡ some l) where
  temperature : (n : ℕ) → 128 ≤ n → TemperatureClaim n p d (held a)
  unfolding Accurate
  temperature n most = it.accurate n most

  taken_at : (n : ℕ) (most : 128 ≤ n) → (temperature n most).logs ≡ l
  taken_at n most = same_logs (held a) (temperature n most).logs l (temperature n most).carries carried

  fitted_at : (n : ℕ) → 128 ≤ n → pos 250000 <ℤ l.z → FitClaim 4000 n temperature_rule KelvinClaim (strip_of l.y) l (held a)
  fitted_at n most = subst (λ (m : Logs). pos 250000 <ℤ m.z → FitClaim 4000 n temperature_rule KelvinClaim (strip_of m.y) m (held a)) (taken_at n most) (temperature n most).fitted

  own_at : strip_of l.y ≡ None → pos 250000 <ℤ l.z → (n : ℕ) → 128 ≤ n → OwnClaim 4000 n temperature_rule KelvinClaim l (held a)
  own_at clear hot n most = subst (λ (s : rust.Option Strip). FitClaim 4000 n temperature_rule KelvinClaim s l (held a)) clear (fitted_at n most hot)

  pub says_logarithms : (x : ℤ) × (l.x ≡ Some x) × IsLog p 101330000000 x × IsLog d 129200000000 l.y × (l.z ≡ x -ℤ l.y)
  says_logarithms =
      let c = temperature 128 (lit≤ tt) in
      subst (λ (m : Logs). (x : ℤ) × (m.x ≡ Some x) × IsLog p 101330000000 x × IsLog d 129200000000 m.y × (m.z ≡ x -ℤ m.y)) (taken_at 128 (lit≤ tt))
      (c.taken.x, c.taken.carries_x, c.taken.x_log, c.taken.y, c.taken.z)

  pub says_perfect : l.z ≤ℤ pos 250000 → (held a).value ≡ some (pos (perfect_gas p d))
  says_perfect cold =
      let c = temperature 128 (lit≤ tt) in
      c.shows ∙ ap (λ (v : ℤ). some v) (subst (λ (m : Logs). m.z ≤ℤ pos 250000 → c.value ≡ pos (perfect_gas p d)) (taken_at 128 (lit≤ tt)) c.perfect cold)

  -- outside the strips: G within 4,000 of the exact fit, and the temperature by its whole millionths, for every number of terms from 128 up
  pub says_temperature : strip_of l.y ≡ None → pos 250000 <ℤ l.z → (n : ℕ) → 128 ≤ n
      → Within 4000 (low_fit (held a).edges) (exact_fit (in_units (piece_at l.y l.z)) n l.y l.z)
  says_temperature clear hot n most = own_near 4000 n temperature_rule KelvinClaim l (held a) (own_at clear hot n most)

  pub says_kelvin : strip_of l.y ≡ None → pos 250000 <ℤ l.z → (n : ℕ) → 128 ≤ n → (t : ℕ) → (held a).value ≡ some (pos t)
      → let k = floor (over 10000 (exact_fit (in_units (piece_at l.y l.z)) n l.y l.z)) in
      Above (k -ℤ pos 2) 1000000 t 273150000 × Below (k +ℤ pos 3) 1000000 t 273150000
  says_kelvin clear hot n most t shown =
      let c = own_value 4000 n temperature_rule KelvinClaim l (held a) (own_at clear hot n most) in
      let same : c.kelvin ≡ t = ap nat_abs (sym c.is ∙ ap value_or0 shown) in
      let k = floor (over 10000 (exact_fit (in_units (piece_at l.y l.z)) n l.y l.z)) in
      subst (λ (m : ℕ). Above (k -ℤ pos 2) 1000000 m 273150000 × Below (k +ℤ pos 3) 1000000 m 273150000) same (c.between.above, c.between.below)

  -- in a strip: each edge's G
  pub says_joined_temperature : (x y : ℤ) → strip_of l.y ≡ Some (record { low = x; high = y }) → pos 250000 <ℤ l.z → (n : ℕ) → 128 ≤ n
      → Within 4000 (low_fit (held a).edges) (exact_fit (in_units (piece_at x l.z)) n x l.z)
      × Within 4000 (high_fit (held a).edges) (exact_fit (in_units (piece_at y l.z)) n y l.z)
  says_joined_temperature x y strip hot n most =
      both_near 4000 n temperature_rule KelvinClaim l (held a) x y (subst (λ (s : rust.Option Strip). FitClaim 4000 n temperature_rule KelvinClaim s l (held a)) strip (fitted_at n most hot))

-- ---- a pressure
module _ (e d : ℕ) (a : Answer) (l : Logs) (it : Answered 3 e d a) (carried : (held a).logs ≡ some l) where
  abbrev Made : Fraction → ℤ → ℤ → Type 0
  Made f g v = v ≡ pressure_of e d g

  pressed : (n : ℕ) → 128 ≤ n → PressureClaim n e d (held a)
  unfolding Accurate
  pressed n most = it.accurate n most

  gamma_at_lem : (n : ℕ) → 128 ≤ n → FitClaim 100000 n (pressure_rule e d) Made (strip_of l.y) l (held a)
  gamma_at_lem n most =
      let c = pressed n most in
      subst (λ (m : Logs). FitClaim 100000 n (pressure_rule e d) Made (strip_of m.y) m (held a)) (same_logs (held a) c.logs l c.carries carried) c.fitted

  -- outside the strips: gamma within 100,000 of the exact fit, and the pressure that it makes
  pub says_pressure : strip_of l.y ≡ None → (n : ℕ) → 128 ≤ n
      → Within 100000 (low_fit (held a).edges) (exact_fit (in_units (gamma_at l.y l.z)) n l.y l.z)
      × (value_or0 (held a).value ≡ pressure_of e d (low_fit (held a).edges))
  says_pressure clear n most =
      let c = subst (λ (s : rust.Option Strip). FitClaim 100000 n (pressure_rule e d) Made s l (held a)) clear (gamma_at_lem n most) in
      (own_near 100000 n (pressure_rule e d) Made l (held a) c, own_value 100000 n (pressure_rule e d) Made l (held a) c)

  -- in a strip: each edge's gamma
  pub says_joined_pressure : (x y : ℤ) → strip_of l.y ≡ Some (record { low = x; high = y }) → (n : ℕ) → 128 ≤ n
      → Within 100000 (low_fit (held a).edges) (exact_fit (in_units (gamma_at x l.z)) n x l.z)
      × Within 100000 (high_fit (held a).edges) (exact_fit (in_units (gamma_at y l.z)) n y l.z)
  says_joined_pressure x y strip n most =
      both_near 100000 n (pressure_rule e d) Made l (held a) x y (subst (λ (s : rust.Option Strip). FitClaim 100000 n (pressure_rule e d) Made s l (held a)) strip (gamma_at_lem n most))

-- ---- an entropy: within 3 of the exact one
pub says_entropy : (e d : ℕ) (a : Answer) (l : Logs) → Answered 2 e d a → (held a).logs ≡ some l → Within 3 (value_or0 (held a).value) (exact_entropy l.y l.z)
unfolding Accurate
says_entropy e d a l it carried =
    let c : EntropyClaim e d (held a) = it.accurate 128 (lit≤ tt) in
    subst (λ (v : ℤ). Within 3 v (exact_entropy l.y l.z)) (sym (ap value_or0 c.shows))
    (subst (λ (m : Logs). Within 3 c.value (exact_entropy m.y m.z)) (same_logs (held a) c.logs l c.carries carried) c.near)
