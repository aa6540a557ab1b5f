-- Every entropy that may be held for an accepted state meets demand 3's claim.
use mathlib.Core.Bool.{Bool, true, false, cond, not}
use mathlib.Core.Path.{◌≡◌, refl, sym, subst}
use Prim.Native.Nat.{ℕ}
use lib.Dec.{T, lit≤}
use Rattle.fraction.proofs.Order.{within_more}
use Rattle.air.specs.declared.Logs.{Logs}
use Rattle.air.specs.declared.Edges.TheVariants.{Unfitted}
use Rattle.std.specs.Prelude.{None}
use Rattle.air.specs.Held.{Held, judges, shows}
use Rattle.air_entropy.specs.Entropy.{letter_s, IsEntropy, entropy_in, entropy_of, beyond_entropy}
use Rattle.air_entropy.specs.Claim.{EntropyClaim}
use Rattle.air_entropy.specs.Property.{entropy_property}
use Rattle.air.specs.Property.{refuses_logs, AcceptedBy}
use Rattle.air.proofs.Tests.{no_true, is_false}
use Rattle.air_entropy.proofs.Near.{entropy_near}
use Rattle.air.proofs.Ranges.{y_range, z_least}

pub entropy_claim : (e d : ℕ) (h : Held) → AcceptedBy entropy_property e d h → IsEntropy e d h → EntropyClaim e d h
unfolding entropy_in
entropy_claim e d h ok it = go (beyond_entropy l) refl it.is
  where
    l : Logs
    l = it.logs

    go : (a : Bool) → beyond_entropy l ≡ a → h ≡ cond a (judges 12 letter_s l Unfitted) (shows letter_s l Unfitted None (entropy_of l.y l.z)) → EntropyClaim e d h
    go true e₁ is = absurd (no_true e₁ (subst (λ (x : Held). T (not (refuses_logs entropy_property x.logs))) is ok.by_logs_lem))
    go false e₁ is =
        subst (EntropyClaim e d) (sym is)
        (record {
          logs = l;
          value = entropy_of l.y l.z;
          no_refusal = refl;
          letter = refl;
          carries = refl;
          shows = refl;
          taken = it.taken;
          near = within_more (lit≤ tt) (entropy_near l.y l.z (record { density = y_range d l.y ok.no_11 it.taken.y; least = z_least e l.z ok.no_10 it.taken.z; most = is_false e₁ }));
        })
