-- `packed_bicubic::exponent_of` reads each number of its block back and meets its contract.
use mathlib.Core.Path.{refl, sym, ap, ◌∙◌, subst}
use Rattle.std.proofs.Common.{rules, ◌≡◌, List, ℤ}
use Rattle.integer.proofs.Machine.{back, back_ok}
use Rattle.quotient.specs.Range.{AllIn}
use Rattle.packed.specs.Numbers.{numbers}
use Rattle.packed.proofs.Blocks.{unpacked_length}
use Rattle.packed.proofs.Made.{made}
use Rattle.bicubic.specs.Bicubic.{exponent}
use Rattle.packed_bicubic.proofs.exponent_of.Goals as goal
use Rattle.packed_bicubic.proofs.exponent_of.Goals.{After-from_fn}

all_read : (c : After-from_fn) → c.from_fn.result ≡ numbers c.args.q.now
all_read c = made c.from_fn.result (numbers c.args.q.now) (λ f. f ≡ record { 0 = c.args.q }) (λ p q i y k h. (search rules, search rules)) c.from_fn.ensures.items refl (unpacked_length c.args.q.now.bytes c.args.q.now.words ∙ c.args.q.now.packed.count)

pub exponent-requires : goal.exponent-requires
exponent-requires c = (subst (AllIn 44) (sym (all_read c)) c.requires.0, (search rules, search rules))

pub returns : goal.returns
returns c =
    back_ok c.exponent.result c.exponent.type_inv
    ∙ (rw (back c.ranges.y, back c.ranges.z) at c.exponent.ensures)
    ∙ ap (λ (k : List ℤ). exponent k c.args.y c.args.z) (all_read c.before)
