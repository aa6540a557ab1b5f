-- `fit::joint_at` works out a part of B that fits 64 bits.
use borrow.Author.Rules.{rules}
use Prim.Native.Nat.{◌≤◌}
use lib.IntN.{nat_abs}
use Rattle.weight.proofs.Either.{choice_most}
use Rattle.proportion.specs.Reach.{reach}
use Rattle.fit.specs.Edge.{sign_of}
use Rattle.fit.proofs.joint_at.Goals as goal

pub fitted-requires : goal.fitted-requires
fitted-requires c =
    let m : nat_abs c.weight_of-w.result ≤ reach = rw c.weight_of-w.ensures (choice_most (sign_of c.args.form) _ (search rules)) in
    (search rules, (search rules, search rules))
