-- How large the numbers are that a state's answer shows: its value and its Y can be drawn exactly, and the mark stands for them.
use mathlib.Core.Bool.{Bool, true, false, cond}
use mathlib.Core.Option.{Option, none, some}
use mathlib.Core.Path.{◌≡◌, refl, sym, subst}
use Prim.Native.Nat.{ℕ, suc, ◌+◌, ◌-◌, ◌*◌, ◌^◌, ◌≤◌, ◌<◌}
use native.Mathlib.Nat.{le_trans, mul-le-mul_left}
use native.Mathlib.Omega.{arith}
use lib.Dec.{T, eqb, le→leb, lit<, lit≤}
use lib.IntN.{ℤ, pos, negsuc, nat_abs, ◌-ℤ◌, ◌*ℤ◌}
use lib.Signed.{◌≤ℤ◌, ◌<ℤ◌, shr_z}
use lib.Ieee.{binary64, in_float}
use Rattle.integer.specs.Z.{up, dn, zs, v, ≤→, <→, →≤, ≡-by}
use Rattle.integer.specs.Laws.{abs-+, abs--, abs-*}
use Rattle.quotient.specs.Range.{Between}
use Rattle.proportion.specs.Straight.{straight}
use Rattle.quotient.proofs.Floors.{quotient_upto}
use Rattle.bands.specs.declared.Region.{Region}
use Rattle.bands.specs.declared.Region.TheVariants.{Refused, Perfect, Fitted}
use Rattle.bands.specs.declared.Strip.{Strip}
use Rattle.std.specs.Prelude as rust
use Rattle.std.specs.Prelude.{Some, None}
use Rattle.bands.specs.Bands.{strip_of}
use Rattle.bands.specs.Region.{beyond_window, region_of}
use Rattle.bands.proofs.Regions.{perfect_region, fitted_region}
use Rattle.perfect.proofs.Quotient.{perfect_small}
use Rattle.kind.specs.declared.Kind.{Kind}
use Rattle.kind.specs.declared.Kind.TheVariants.{Temperature, Entropy, Pressure}
use Rattle.kind.specs.Kind.{kind_of}
use Rattle.air.specs.declared.Logs.{Logs}
use Rattle.air.specs.declared.Edges.TheVariants.{Unfitted}
use Rattle.air.specs.Quantities.{D0, is_pressure, is_density, is_energy}
use Rattle.air.specs.Held.{Held, judges, shows}
use Rattle.air.specs.Ready.{PlaceReady}
use Rattle.air.specs.Places.{Rule, Point, edges_at, value_at, shows_at, held_at, point_by}
use Rattle.air_temperature.specs.Temperature.{letter_t, beyond_fit, temperature_rule}
use Rattle.air_entropy.specs.Entropy.{letter_s, entropy_at, above_limit, entropy_in}
use Rattle.air_pressure.specs.Pressure.{letter_p, beyond_gamma, pressure_of, pressure_rule}
use Rattle.air.specs.Join.{joined, any_place}
use Rattle.air.specs.Choices.{chosen}
use Rattle.state.specs.State.{property_of, answer_by}
use Rattle.air.specs.Property.{held_by, ranged}
use Rattle.air_temperature.specs.Property.{kelvin_by, temperature_at, temperature_by}
use Rattle.air_pressure.specs.Property.{pressure_by}
use Rattle.air.specs.Carried.{pressure_logs, energy_logs}
use Rattle.air.proofs.Ranges.{YRange}
use Rattle.air.proofs.Ranges.{y_range, place_ready}
use Rattle.air.proofs.Lawful.{lawful, pressure_logs_lem, energy_logs_lem}
use Rattle.air_entropy.proofs.Sizes.{entropy_most}
use Rattle.air.proofs.Strips.{strip_is, strip_ready}
use Rattle.temperature.specs.Ready.{TemperatureReady}
use Rattle.air.proofs.Tests.{or_left, or_right}
use Rattle.temperature_fit.proofs.Passes.{kelvin_most}
use Rattle.temperature.proofs.Laws.{window_most, dividable}
use Rattle.pressure_fit.proofs.Gammas.{pressure_small}
use Rattle.pressure.specs.Ready.{PressureReady}
use Rattle.pressure.proofs.Laws.{values_ready}
use Rattle.pressure.proofs.Laws as pressure
use Rattle.mark.specs.Mark.{shown_value, Drawable, DrawableFrom, CanDraw, Marked}
use Rattle.mark.proofs.Placed.{marked}

in_float_lem : (z : ℤ) → nat_abs z ≤ 2 ^ 53 → T (in_float binary64 z)
unfolding in_float
in_float_lem (pos n) h = le→leb n (2 ^ 53) h
in_float_lem (negsuc n) h = le→leb (suc n) (2 ^ 53) h

draws : {y z : ℤ} → YRange y → nat_abs z ≤ 2 ^ 53 → Drawable y z
draws {y} {z} r h = record { least = r.least; most = →≤ (omega (arith, ≤→ r.most)); value = in_float_lem z h }

-- ---- what is held, by its size
-- a value, and what a mark shows of it
pub record Small (letter : ℕ) (v : ℤ) : Type 0 where
  pub value : nat_abs v ≤ 2 ^ 62
  pub shown : nat_abs (shown_value letter v) ≤ 2 ^ 53

-- a mark shows the value itself, of a pressure its whole pascals
itself : (letter : ℕ) (v : ℤ) → eqb letter letter_p ≡ false → nat_abs v ≤ 2 ^ 53 → Small letter v
itself letter v e h = record { value = le_trans h (lit≤ tt); shown = rw e h }

pascals : (v : ℤ) → nat_abs v ≤ 2 ^ 62 → Small letter_p v
pascals v h = record { value = h; shown = quotient_upto v (2 ^ 53) 1000000 (lit< tt) (omega (arith, h)) }

-- where Y and Z lie, and a small value; or the number of a refusal
pub record Sized (letter : ℕ) (l : Logs) (v : ℤ) : Type 0 where
  pub y : YRange l.y
  pub z : nat_abs l.z ≤ 5000000
  pub value : Small letter v

abbrev pub SizedFrom : ℕ → ℕ → Option Logs → Option ℤ → Type 0
SizedFrom n letter none v = n ≤ 17
SizedFrom n letter (some l) none = n ≤ 17
SizedFrom n letter (some l) (some v) = Sized letter l v

abbrev pub IsSized : Held → Type 0
IsSized h = SizedFrom h.number h.letter h.logs h.value

-- ---- a fit at its places
places_sized : (r : Rule) (s : rust.Option Strip) (l : Logs) (q : ℤ → Point) → r.logs_number ≤ 17 → r.fit_number ≤ 17 → YRange l.y → nat_abs l.z ≤ 5000000
    → (any_place s (λ v. r.beyond_fit (q v).edge.fit) l.y ≡ false → Small r.letter (value_at s q l.y)) → IsSized (held_at r s l q)
unfolding held_at
places_sized r s l q m n y_in z_in small = go (any_place s (λ v. r.beyond_logs v l.z) l.y) (any_place s (λ v. r.beyond_fit (q v).edge.fit) l.y) refl
  where
    go : (a b : Bool) → any_place s (λ v. r.beyond_fit (q v).edge.fit) l.y ≡ b
        → IsSized (cond a (judges r.logs_number r.letter l Unfitted) (cond b (judges r.fit_number r.letter l (edges_at s q l.y)) (shows_at r s l q)))
    go true b e = m
    go false true e = n
    go false false e = record { y = y_in; z = z_in; value = small e }

-- ---- a join
-- a place between the edges is no farther from the lower than the upper is
apart_some : (a b y : ℤ) → Between a b y → (0 < nat_abs (b -ℤ a)) × (nat_abs (y -ℤ a) ≤ nat_abs (b -ℤ a))
apart_some a b y h =
    let e = sub_pos a b (lt_le h.apart) in
    let f = sub_pos a y h.low in
    rw (e, f) (omega (arith, <→ h.apart), omega (arith, <→ h.apart, ≤→ h.low, ≤→ h.high))
  where
    lt_le : {p q : ℤ} → p <ℤ q → p ≤ℤ q
    lt_le k = →≤ (omega (arith, <→ k))

    sub_pos : (p q : ℤ) → p ≤ℤ q → q -ℤ p ≡ pos ((up q + dn p) - (up p + dn q))
    sub_pos p q k = let vp = v p in let vq = v q in ≡-by (search zs) (omega (arith, ≤→ k))

straight_most : (m : ℕ) (a b low high y : ℤ) → Between a b y → nat_abs low ≤ m → nat_abs high ≤ m → nat_abs (straight a b low high y) ≤ 3 * m
straight_most m a b low high y h k l =
    let w = apart_some a b y h in
    let d = high -ℤ low in
    let q : nat_abs (shr_z (d *ℤ (y -ℤ a)) (nat_abs (b -ℤ a))) ≤ nat_abs d =
    quotient_upto (d *ℤ (y -ℤ a)) (nat_abs d) (nat_abs (b -ℤ a)) w.0 (subst (λ (n : ℕ). n ≤ nat_abs d * nat_abs (b -ℤ a)) (sym (abs-* d (y -ℤ a))) (mul-le-mul_left (nat_abs d) w.1)) in
    omega (arith, abs-+ low (shr_z (d *ℤ (y -ℤ a)) (nat_abs (b -ℤ a))), abs-- high low, q)

-- ---- temperature
temperature_sized : (p d : ℕ) (l : Logs) → TemperatureReady p d l → IsSized (temperature_by chosen p d l)
unfolding temperature_by
temperature_sized p d l h = go (region_of l.y l.z) refl
  where
    r : YRange l.y
    r = y_range d l.y h.density h.taken.y

    -- a temperature for each fit that 13 lets through
    q : ℤ → Point
    q = point_by chosen temperature_rule (kelvin_by chosen) l.z

    in_window : beyond_window l.z ≡ false → nat_abs l.z ≤ 5000000
    in_window e = le_trans (window_most l.z e) (lit≤ tt)

    by_strip : (s : rust.Option Strip) → strip_of l.y ≡ s → any_place s (λ v. beyond_fit (q v).edge.fit) l.y ≡ false → nat_abs (value_at s q l.y) ≤ 2 ^ 53
    by_strip None e f = le_trans (kelvin_most (q l.y).edge.fit f) (lit≤ tt)
    by_strip (Some s) e f =
        let a = s.low in
        let b = s.high in
        let g = (q a).edge.fit in
        let k = (q b).edge.fit in
        le_trans
        (straight_most (2 ^ 43) a b (kelvin_by chosen g) (kelvin_by chosen k) l.y (strip_is l.y e).between
        (kelvin_most g (or_left (beyond_fit g) (beyond_fit k) f)) (kelvin_most k (or_right (beyond_fit g) (beyond_fit k) f)))
        (lit≤ tt)

    go : (x : Region) → region_of l.y l.z ≡ x → IsSized (temperature_at chosen x p d l)
    go Refused e = lit≤ tt
    go Perfect e =
        let i = perfect_region l.y l.z e in
        record { y = r; z = in_window i.window; value = itself letter_t _ refl (le_trans (perfect_small p d (dividable p d l h i)) (lit≤ tt)) }
    go (Fitted b i) e =
        places_sized temperature_rule (strip_of l.y) l q (lit≤ tt) (lit≤ tt) r (in_window (fitted_region l.y l.z e).window)
        (λ f. itself letter_t _ refl (by_strip (strip_of l.y) refl f))

-- ---- entropy
entropy_sized : (l : Logs) → YRange l.y → PlaceReady l.y l.z → IsSized (entropy_in (strip_of l.y) l)
unfolding entropy_in
entropy_sized l r h = by_strip (strip_of l.y) refl
  where
    verdict : (t : Bool) (s : ℤ) → nat_abs s ≤ 2 ^ 53 → IsSized (cond t (judges 12 letter_s l Unfitted) (shows letter_s l Unfitted None s))
    verdict true s k = lit≤ tt
    verdict false s k = record { y = r; z = h.z_most; value = itself letter_s s refl k }

    by_strip : (x : rust.Option Strip) → strip_of l.y ≡ x → IsSized (cond (any_place x (λ p. above_limit p l.z) l.y) (judges 12 letter_s l Unfitted) (shows letter_s l Unfitted None (joined x (λ p. entropy_at p l.z) l.y)))
    by_strip None e = verdict (above_limit l.y l.z) (entropy_at l.y l.z) (le_trans (entropy_most l.y l.z h.y_most h.z_most) (lit≤ tt))
    by_strip (Some s) e =
        let a = s.low in
        let b = s.high in
        let j = strip_ready l.y l.z h.z_most e in
        verdict (any_place (Some s) (λ p. above_limit p l.z) l.y) (straight a b (entropy_at a l.z) (entropy_at b l.z) l.y)
        (le_trans
        (straight_most (2 ^ 43) a b (entropy_at a l.z) (entropy_at b l.z) l.y j.between
        (entropy_most a l.z j.low.y_most j.low.z_most) (entropy_most b l.z j.high.y_most j.high.z_most))
        (lit≤ tt))

-- ---- pressure
pressure_sized : (e d : ℕ) (l : Logs) → PressureReady e d l → IsSized (pressure_by chosen e d l)
unfolding pressure_by
pressure_sized e d l h =
    places_sized (pressure_rule e d) (strip_of l.y) l q (lit≤ tt) (lit≤ tt) (y_range d l.y h.density h.taken.y) (pressure.own_ready h).z_most
    (λ f. pascals (value_at (strip_of l.y) q l.y) (by_strip (strip_of l.y) refl f))
  where
    -- a pressure for each gamma that 17 lets through
    q : ℤ → Point
    q = point_by chosen (pressure_rule e d) (pressure_of e d) l.z

    small : (k : ℕ) → d ≤ k → (g : ℤ) → beyond_gamma g ≡ false → nat_abs (pressure_of e d g) ≤ k * 10 ^ 4
    small k m g t = pressure_small e d k g (values_ready h).energy m t

    by_strip : (s : rust.Option Strip) → strip_of l.y ≡ s → any_place s (λ v. beyond_gamma (q v).edge.fit) l.y ≡ false → nat_abs (value_at s q l.y) ≤ 2 ^ 62
    by_strip None i f = le_trans (small 129200000000000 (values_ready h).density (q l.y).edge.fit f) (lit≤ tt)
    by_strip (Some s) i f =
        let a = s.low in
        let b = s.high in
        let g = (q a).edge.fit in
        let k = (q b).edge.fit in
        let r = pressure.strip_ready h i in
        le_trans
        (straight_most (D0 * 10 ^ 4) a b (pressure_of e d g) (pressure_of e d k) l.y r.between
        (small D0 r.density g (or_left (beyond_gamma g) (beyond_gamma k) f)) (small D0 r.density k (or_right (beyond_gamma g) (beyond_gamma k) f)))
        (lit≤ tt)

-- ---- any state
ranged_sized : (a b : Bool) (h : Held) → (T a → T b → IsSized h) → IsSized (ranged 11 a b h)
ranged_sized true true h f = f tt tt
ranged_sized true false h f = lit≤ tt
ranged_sized false b h f = lit≤ tt

held_sized : (k : rust.Option Kind) (p d : ℕ) → IsSized (held_by chosen (property_of k) p d)
held_sized (Some Temperature) p d =
    ranged_sized (is_pressure p) (is_density d) _
    (λ a b. temperature_sized p d (pressure_logs chosen p d) (record { density = b; taken = pressure_logs_lem chosen lawful p d a b }))
held_sized (Some Entropy) e d =
    ranged_sized (is_energy e) (is_density d) _
    (λ a b. let t = energy_logs_lem chosen lawful e d a b in
    entropy_sized (energy_logs chosen e d) (y_range d _ b t.y) (place_ready e d _ _ a b t.y t.z))
held_sized (Some Pressure) e d =
    ranged_sized (is_energy e) (is_density d) _
    (λ a b. pressure_sized e d (energy_logs chosen e d) (record { energy = a; density = b; taken = energy_logs_lem chosen lawful e d a b }))
held_sized None p d = lit≤ tt

pub answer_sized : (kind first second : ℕ) → IsSized (answer_by chosen kind first second)
unfolding answer_by
answer_sized kind first second = held_sized (kind_of kind) first second

-- what is sized can be drawn
sized_shown : (n letter : ℕ) (l : Option Logs) (v : Option ℤ) → SizedFrom n letter l v → DrawableFrom letter l v
sized_shown n letter none v h = tt
sized_shown n letter (some l) none h = tt
sized_shown n letter (some l) (some v) h = draws h.y h.value.shown

-- what a state's answer holds can be drawn
pub answer_shown : (kind first second : ℕ) → CanDraw (answer_by chosen kind first second)
answer_shown kind first second =
    let h = answer_by chosen kind first second in
    sized_shown h.number h.letter h.logs h.value (answer_sized kind first second)

-- document 01, Plot marks: where a state's answer holds logarithms and a value, its mark is a point, and both doubles equal Y and the value exactly
pub answer_marked : (kind first second : ℕ) (l : Logs) (v : ℤ) → let h = answer_by chosen kind first second in h.logs ≡ some l → h.value ≡ some v → Marked h l v
answer_marked kind first second l v = marked (answer_by chosen kind first second) (answer_shown kind first second) l v
