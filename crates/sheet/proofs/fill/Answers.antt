-- `sheet::fill` gives the number of the definition: the header's, else 16 where two of the records walked over share a name, else the walk's.
use mathlib.Core.Path.{sym, ◌∙◌}
use Rattle.sheet.proofs.Accept.{headed, number_walked}
use Rattle.sheet.proofs.Kept.{names_fit, indexed, ok_zero}
use native.Mathlib.Omega.{arith}
use Rattle.sheet.proofs.fill.Goals as goal

pub number-requires : goal.number-requires
number-requires c = (omega arith, (headed c.args.s.now (sym c.in_ok-check.ensures)).least)

pub keep_places-count-requires : goal.keep_places-count-requires
keep_places-count-requires c = rw c.new-reader.ensures.0 ((headed c.args.s.now (sym c.in_ok-check.ensures)).most, c.new-reader.ensures.1)

pub repeats-requires : goal.repeats-requires
repeats-requires c =
    let k = c.keep_places-count in
    let w = rw (c.new-reader.ensures.0, c.new-reader.ensures.2, c.number.ensures) at k.ensures.walked in
    (w.most, names_fit c.args.s.now k.new.starts _ k.result (omega (arith, w.most)) w.places, record { no_heads = c.requires.no_heads; no_links = c.requires.no_links })

pub returns-then-repeats-clause-value : goal.returns-then-repeats-clause-value
returns-then-repeats-clause-value c =
    let k = c.keep_places-count in
    let w = rw (c.new-reader.ensures.0, c.new-reader.ensures.2, c.number.ensures) at k.ensures.walked in
    sym (rw (sym c.repeats.ensures.value ∙ c.if-repeats.true) at (number_walked c.args.s.now _ _ k.result k.new.starts (sym c.in_ok-check.ensures) w))

pub returns-clause-value : goal.returns-clause-value
returns-clause-value c =
    let k = c.keep_places-count in
    let w = rw (c.new-reader.ensures.0, c.new-reader.ensures.2, c.number.ensures) at k.ensures.walked in
    let e = rw (k.ensures.sheet, c.new-reader.ensures.0) at c.end-end.ensures in
    e ∙ sym (rw (sym c.repeats.ensures.value ∙ c.if-repeats.false) at (number_walked c.args.s.now _ _ k.result k.new.starts (sym c.in_ok-check.ensures) w))

pub returns-clause-indexed : goal.returns-clause-indexed
returns-clause-indexed c =
    let k = c.keep_places-count in
    let w = rw (c.new-reader.ensures.0, c.new-reader.ensures.2, c.number.ensures) at k.ensures.walked in
    let e = rw (k.ensures.sheet, c.new-reader.ensures.0) at c.end-end.ensures in
    let n = rw (sym c.repeats.ensures.value ∙ c.if-repeats.false) at (number_walked c.args.s.now _ _ k.result k.new.starts (sym c.in_ok-check.ensures) w) in
    λ o. indexed c.args.s.now k.new.reader.at k.new.reader.left k.result c.repeats.new.self.starts c.repeats.new.self.heads c.repeats.new.self.next (rw c.repeats.ensures.starts w) (c.repeats.ensures.table c.if-repeats.false) (rw c.repeats.ensures.starts (omega arith))
    (n ∙ sym e ∙ ok_zero c.end-end.result o)
