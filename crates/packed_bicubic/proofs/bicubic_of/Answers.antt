-- `packed_bicubic::bicubic_of` reads each number of its block back and meets its contract.
use mathlib.Core.Path.{refl, sym, ap, ◌∙◌, subst}
use Rattle.std.proofs.Common.{rules, ◌≡◌, List, ℤ}
use Rattle.integer.proofs.Machine.{back, back_ok}
use Rattle.quotient.specs.Range.{AllIn}
use Rattle.packed.specs.Numbers.{numbers}
use Rattle.packed.proofs.Blocks.{unpacked_length}
use Rattle.packed.proofs.Made.{made}
use Rattle.bicubic.specs.Bicubic.{bicubic}
use Rattle.packed_bicubic.proofs.bicubic_of.Goals as goal
use Rattle.packed_bicubic.proofs.bicubic_of.Goals.{After-from_fn}

all_read : (c : After-from_fn) → c.from_fn.result ≡ numbers c.args.a.now
all_read c = made c.from_fn.result (numbers c.args.a.now) (λ f. f ≡ record { 0 = c.args.a }) (λ p q i y k h. (search rules, search rules)) c.from_fn.ensures.items refl (unpacked_length c.args.a.now.bytes c.args.a.now.words ∙ c.args.a.now.packed.count)

pub bicubic-requires : goal.bicubic-requires
bicubic-requires c = (subst (AllIn 43) (sym (all_read c)) c.requires.0, (search rules, search rules))

pub returns : goal.returns
returns c =
    back_ok c.bicubic.result c.bicubic.type_inv
    ∙ (rw (back c.ranges.y, back c.ranges.z) at c.bicubic.ensures)
    ∙ ap (λ (k : List ℤ). bicubic k c.args.y c.args.z) (all_read c.before)
