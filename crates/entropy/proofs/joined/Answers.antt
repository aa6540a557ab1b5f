-- `entropy::joined`: the numbers of the straight line fit it.
use mathlib.Core.Bool.{false}
use mathlib.Core.Path.{◌≡◌}
use Rattle.std.proofs.Common.{rules}
use Rattle.integer.proofs.Machine.{back_ok}
use Rattle.proportion.specs.Straight.{straight}
use Rattle.quotient.proofs.Machine.{in_back, in_ok}
use Rattle.air.proofs.Sizes.{in_25}
use Rattle.air_entropy.specs.Entropy.{entropy_at, above_limit}
use Rattle.air_entropy.proofs.Sizes.{entropy_in_lem}
use Rattle.entropy.proofs.joined.Goals as goal

pub straight-requires : goal.straight-requires
straight-requires c =
    let s = c.args.strip in
    let z = c.args.z in
    let r = c.requires in
    let low : c.entropy_at-low.result ≡ entropy_at s.low z = search rules in
    let high : c.entropy_at-high.result ≡ entropy_at s.high z = search rules in (
      search rules,
      (
        in_back (search rules) (in_25 s.low r.low.y_most),
        (
          in_back (search rules) (in_25 s.high r.high.y_most),
          (in_ok low c.entropy_at-low.type_inv (entropy_in_lem s.low z r.low.y_most r.low.z_most), in_ok high c.entropy_at-high.type_inv (entropy_in_lem s.high z r.high.y_most r.high.z_most)),
        ),
      ),
    )

pub returns : goal.returns
returns c =
    let s = c.args.strip in
    let z = c.args.z in
    let low : c.entropy_at-low.result ≡ entropy_at s.low z = search rules in
    let high : c.entropy_at-high.result ≡ entropy_at s.high z = search rules in
    let low_within : above_limit s.low z ≡ false = search rules in
    let high_within : above_limit s.high z ≡ false = search rules in
    let value : c.straight.result ≡ straight s.low s.high c.entropy_at-low.result c.entropy_at-high.result c.args.y = search rules in
    rw (back_ok c.straight.result c.straight.type_inv, value, low, high, low_within, high_within)
