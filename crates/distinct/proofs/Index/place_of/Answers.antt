-- `Index::place_of` meets its contract: a name that a record has is on the chain of its hash. Assumes nothing.
use Rattle.distinct.proofs.Walk.{placed}
use Rattle.distinct.proofs.Index.place_of.Goals as goal

pub returns : goal.returns
returns c n t =
    let g = c.args in
    let i = g.self.now in
    placed g.s.now i.starts i.heads i.next n t g.name.now (rw c.hash_of.ensures.0 at c.in_chain.ensures)
