-- Every temperature that may be held for an accepted state meets demand 3's claim.
use mathlib.Core.Bool.{Bool, true, false, cond}
use Rattle.std.specs.Prelude.{None}
use mathlib.Core.Path.{◌≡◌, refl, sym, ap, subst, ◌∙◌}
use Prim.Native.Nat.{ℕ, ◌≤◌}
use native.Mathlib.Omega.{arith}
use lib.Dec.{T}
use lib.IntN.{ℤ, pos, neg_ℤ}
use lib.Signed.{lt_z, le_z_yes, lt_z_no, clash_ℤ}
use Rattle.bands.specs.Bands.{band_of, strip_of}
use Rattle.bands.specs.Region.{temperature_index, region_of, beyond_window, is_perfect}
use Rattle.bands.specs.declared.Region.{Region}
use Rattle.bands.specs.declared.Region.TheVariants.{Refused, Perfect, Fitted}
use Rattle.perfect.specs.Perfect.{perfect_gas}
use Rattle.air.specs.declared.Logs.{Logs}
use Rattle.air.specs.declared.Edges.TheVariants.{Unfitted}
use Rattle.air.specs.Quantities.{is_density}
use Rattle.air.specs.Held.{Held, shows}
use Rattle.air.specs.Places.{value_at, IsFit}
use Rattle.air_temperature.specs.Temperature.{letter_t, temperature_rule, IsTemperatureIn, IsTemperature}
use Rattle.air.specs.Carried.{PressureLogs}
use Rattle.air_temperature.specs.Claim.{fit_distance, KelvinClaim, TemperatureClaim}
use Rattle.air_temperature.specs.Property.{temperature_property}
use Rattle.air.specs.Property.{AcceptedBy, unfitted}
use Rattle.air.proofs.Tests.{not_right, is_false, is_true, over}
use Rattle.air.proofs.Places.{Measured, Judges, no_place, shown_claim, fitted_shown, Unrefused, fit_unrefused}
use Rattle.air.proofs.Strips.{each_in_range}
use Rattle.air.proofs.Ranges.{YRange, y_range}
use Rattle.air_temperature.proofs.Inside.{inside}
use Rattle.air_temperature.proofs.Fit.{FittedBox, fit_near}
use Rattle.air_temperature.proofs.Between.{temperature_between}

-- within the window 13 alone refuses
judged : (l : Logs) → beyond_window l.z ≡ false → Judges temperature_property temperature_rule (strip_of l.y) l
judged l e = record { by_logs_lem = λ t. no_place (strip_of l.y) l.y; by_fit_lem = λ e t. t; logs_alone = λ t. is_false e; fit_alone = λ e t. t }

module _ (n : ℕ) (n-least : 128 ≤ n) (p d : ℕ) (in-density : T (is_density d)) (l : Logs) (taken : PressureLogs p d l) where
  perfect_claim : is_perfect l.z ≡ true → TemperatureClaim n p d (shows letter_t l Unfitted None (pos (perfect_gas p d)))
  perfect_claim e =
      record {
        logs = l;
        value = pos (perfect_gas p d);
        no_refusal = refl;
        letter = refl;
        carries = refl;
        shows = refl;
        taken = taken;
        perfect = λ t. refl;
        fitted = λ t. clash_ℤ {a = pos 250000} {b = l.z} t (le_z_yes (is_true e));
      }

  measured : Measured fit_distance n temperature_rule KelvinClaim FittedBox
  measured =
      record {
        near = λ y z w b t. fit_near n n-least y z w b;
        claimed = λ f g v near it. record { kelvin = it.kelvin; is = it.is; between = temperature_between g f it.kelvin near it.power };
      }

  from_fit : (h : Held) → AcceptedBy temperature_property p d h → beyond_window l.z ≡ false → is_perfect l.z ≡ false
      → IsFit temperature_rule (strip_of l.y) l h → TemperatureClaim n p d h
  from_fit h ok e₁ e₂ it =
      let s = strip_of l.y in
      let box : (v : ℤ) → YRange v → FittedBox v l.z =
      λ v r. record { density = r; least = over 250000 l.z e₂; most = lt_z_no (not_right (lt_z l.z (neg_ℤ (pos 1000000))) (lt_z (pos 3000000) l.z) (is_false e₁)) } in
      let c = fitted_shown fit_distance n temperature_rule KelvinClaim FittedBox measured temperature_property s l
      (judged l e₁)
      (each_in_range l.y (λ v. FittedBox v l.z) box (y_range d l.y in-density taken.y)) p d h ok it in
      record {
        logs = l;
        value = value_at s c.point l.y;
        no_refusal = ap (λ (x : Held). x.number) c.is;
        letter = ap (λ (x : Held). x.letter) c.is;
        carries = ap (λ (x : Held). x.logs) c.is;
        shows = ap (λ (x : Held). x.value) c.is;
        taken = taken;
        perfect = λ t. absurd (clash_ℤ {a = pos 250000} {b = l.z} (over 250000 l.z e₂) t);
        fitted = λ t. shown_claim s c;
      }

  from_logs : (h : Held) → AcceptedBy temperature_property p d h → IsTemperatureIn (region_of l.y l.z) p d l h → TemperatureClaim n p d h
  from_logs h ok is = go (beyond_window l.z) (is_perfect l.z) refl refl is
    where
      at : Bool → Bool → Region
      at a b = cond a Refused (cond b Perfect (Fitted (band_of l.y) (temperature_index (band_of l.y) l.z)))

      go : (a b : Bool) → beyond_window l.z ≡ a → is_perfect l.z ≡ b → IsTemperatureIn (at a b) p d l h → TemperatureClaim n p d h
      go true b e₁ e₂ s = absurd (inside p d l h ok e₁ s)
      go false true e₁ e₂ s = subst (TemperatureClaim n p d) (sym s) (perfect_claim e₂)
      go false false e₁ e₂ s = from_fit h ok e₁ e₂ s

pub temperature_claim : (n : ℕ) → 128 ≤ n → (p d : ℕ) (h : Held) → AcceptedBy temperature_property p d h → IsTemperature p d h → TemperatureClaim n p d h
temperature_claim n n-least p d h ok it = from_logs n n-least p d ok.no_11 it.logs it.taken h ok it.is

-- a temperature that is no refusal is accepted
pub temperature_unrefused : (p d : ℕ) (h : Held) → IsTemperature p d h → h.number ≡ 0 → Unrefused temperature_property h
temperature_unrefused p d h it zero = go (beyond_window l.z) (is_perfect l.z) refl refl it.is
  where
    l : Logs
    l = it.logs

    at : Bool → Bool → Region
    at a b = cond a Refused (cond b Perfect (Fitted (band_of l.y) (temperature_index (band_of l.y) l.z)))

    go : (a b : Bool) → beyond_window l.z ≡ a → is_perfect l.z ≡ b → IsTemperatureIn (at a b) p d l h → Unrefused temperature_property h
    go true b e₁ e₂ s = let twelve : ◌≡◌ {A = ℕ} 12 0 = sym (ap (λ (i : Held). i.number) s) ∙ zero in absurd (omega (arith, twelve))
    go false true e₁ e₂ s = subst (Unrefused temperature_property) (sym s) (record { by_logs_lem = is_false e₁; by_fit_lem = unfitted })
    go false false e₁ e₂ s = fit_unrefused temperature_property temperature_rule (strip_of l.y) l (judged l e₁) (λ e. omega (arith, e)) (λ e. omega (arith, e)) h s zero
