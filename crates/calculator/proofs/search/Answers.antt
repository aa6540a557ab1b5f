-- `calculator::search` is the answer for what the search finds, and is allowed.
use mathlib.Core.Path.{ap, ◌∙◌}
use Rattle.air.specs.Choices.{chosen}
use Rattle.air.proofs.Lawful.{lawful}
use Rattle.calculator.specs.Search.{answer_at, search_by}
use Rattle.calculator.proofs.Demand3.{search_allowed}
use Rattle.calculator.proofs.search.Goals as goal

pub returns : goal.returns
unfolding search_by
returns c =
    let s = c.args in
    let e = c.answer_at.ensures ∙ ap (answer_at chosen) c.locate.ensures in
    record { result_value = e; search = search_allowed chosen lawful s.sheet.now s.spelled.now c.answer_at.result e }
