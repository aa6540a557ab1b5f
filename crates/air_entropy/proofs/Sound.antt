-- Entropy is sound: what `state` asks of a property.
use mathlib.Core.Bool.{Bool, true, false, cond}
use mathlib.Core.Path.{◌≡◌, refl, sym, ap, subst, ◌∙◌}
use Prim.Native.Nat.{ℕ}
use native.Mathlib.Omega.{arith}
use lib.Dec.{T}
use Rattle.air.specs.declared.Logs.{Logs}
use Rattle.air.specs.declared.Edges.TheVariants.{Unfitted}
use Rattle.std.specs.Prelude.{None}
use Rattle.air.specs.Quantities.{is_density, is_energy}
use Rattle.air.specs.Held.{Held, judges, shows}
use Rattle.air_entropy.specs.Entropy.{letter_s, IsEntropy, entropy_in, entropy_of, beyond_entropy, entropy_from}
use Rattle.air_entropy.specs.Property.{entropy_property}
use Rattle.air.specs.Property.{unfitted}
use Rattle.air.specs.Choices.{Choices, Lawful}
use Rattle.air.specs.Carried.{energy_logs}
use Rattle.air.proofs.Tests.{is_false}
use Rattle.air_entropy.proofs.Claim.{entropy_claim}
use Rattle.air.proofs.Places.{Unrefused}
use Rattle.air.proofs.Sound.{Sound}
use Rattle.air.proofs.Lawful.{energy_logs_lem}

entropy_unrefused : (e d : ℕ) (h : Held) → IsEntropy e d h → h.number ≡ 0 → Unrefused entropy_property h
unfolding entropy_in
entropy_unrefused e d h it zero = go (beyond_entropy l) refl it.is
  where
    l : Logs
    l = it.logs

    go : (a : Bool) → beyond_entropy l ≡ a → h ≡ cond a (judges 12 letter_s l Unfitted) (shows letter_s l Unfitted None (entropy_of l.y l.z)) → Unrefused entropy_property h
    go true e₁ is = let twelve : ◌≡◌ {A = ℕ} 12 0 = sym (ap (λ (i : Held). i.number) is) ∙ zero in absurd (omega (arith, twelve))
    go false e₁ is = subst (Unrefused entropy_property) (sym is) (record { by_logs_lem = is_false e₁; by_fit_lem = unfitted })

is_entropy : (c : Choices) → Lawful c → (e d : ℕ) → T (is_energy e) → T (is_density d) → IsEntropy e d (entropy_from (energy_logs c e d))
is_entropy c law e d a b = record { logs = energy_logs c e d; taken = energy_logs_lem c law e d a b; is = refl }

pub entropy_sound : Sound entropy_property
entropy_sound =
    record {
      allowed = is_entropy;
      claim = λ n m. entropy_claim;
      no_refusal = λ n v w h c. c.no_refusal;
      unrefused = entropy_unrefused;
      second_number_lem = λ e. omega (arith, e);
    }
