-- `packed::number` reads the number that its byte finds.
use mathlib.Core.List.{List}
use mathlib.Core.Path.{◌≡◌}
use Prim.Native.Nat.{ℕ, ◌+◌, ◌/◌, ◌%◌}
use lib.IntN.{ℤ, pos, ◌*ℤ◌}
use lib.ListN.{get_or}
use mir.Syntax.{w64}
use mir.Val.{SFits, to_z, of_z}
use Rattle.integer.proofs.Machine.{back}
use Rattle.quotient.proofs.Machine.{all_at}
use Rattle.packed.specs.Packed.{word_at}
use Rattle.packed.proofs.Joined.{word_is, sum, wide_is, fit_once, fit_upper, fit_sum, joined}
use Rattle.packed.proofs.number.Goals as goal
use Rattle.packed.proofs.number.Goals.{After-from}

module _ (c : After-from) where
  abbrev words : List ℤ
  words = c.args.words.now

  abbrev byte : ℕ
  byte = get_or c.args.bytes.now c.args.i 0

  -- the two words
  lower : to_z w64 (of_z w64 c.from-lower.result) ≡ word_at words (byte / 2)
  lower = rw c.from-byte.ensures at (word_is (all_at c.requires.words_in _) c.from-lower.type_inv c.from-lower.ensures)

  upper : to_z w64 (of_z w64 c.from.result) ≡ word_at words (byte / 2 + byte % 2)
  upper = rw c.from-byte.ensures at (word_is (all_at c.requires.words_in _) c.from.type_inv c.from.ensures)

  -- the number of words behind the first
  whether : to_z w64 (c.from-byte.result % 2) ≡ pos (byte % 2)
  whether = rw c.from-byte.ensures (wide_is words byte c.requires.words_in c.requires.size)

  once : SFits w64 (word_at words (byte / 2 + byte % 2) *ℤ pos (byte % 2))
  once = fit_once words byte c.requires.words_in c.requires.size

  twice : SFits w64 (word_at words (byte / 2 + byte % 2) *ℤ pos (byte % 2) *ℤ pos 4294967296)
  twice = fit_upper words byte c.requires.words_in c.requires.size

  both : SFits w64 (sum words (byte / 2) (byte % 2))
  both = fit_sum words byte c.requires.words_in c.requires.size

pub overflow_mul-upper : goal.overflow_mul-upper
overflow_mul-upper c = rw (upper c, whether c) (once c)

pub overflow_mul-result : goal.overflow_mul-result
overflow_mul-result c = rw (upper c, whether c, back (once c)) (twice c)

pub overflow_add-result : goal.overflow_add-result
overflow_add-result c = rw (upper c, whether c, back (once c), back (twice c), lower c) (both c)

pub returns : goal.returns
returns c = rw (upper c, whether c, back (once c), back (twice c), lower c, back (both c))
    (joined (words c) (byte c) c.requires.words_in c.requires.size)
