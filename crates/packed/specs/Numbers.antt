-- The numbers of a block, as the code has it.
use Rattle.std.specs.Prelude.{ℕ, List, ℤ}
use Rattle.packed.specs.declared.Block.{Block}
use Rattle.packed.specs.Packed.{unpacked}

abbrev pub numbers : {n w : ℕ} → Block n w → List ℤ
numbers b = unpacked b.bytes b.words
