-- `Sheet::place_of` looks at one chain of the index.
use Rattle.sheet.proofs.Places.{place_named}
use Rattle.sheet.proofs.Sheet.place_of.Goals as goal

pub returns-clause-value : goal.returns-clause-value
returns-clause-value c =
    let x = c.self.invariant in
    rw (← c.self.view_is) (place_named _ _ _ _ x c.args.name.now c.place_of.result (c.place_of.ensures x.count x.table))
