use Rattle.std.proofs.Common.{◌-◌, ◌+◌, length, take, drop, rules, tests, MatchOption}
use Rattle.std.proofs.lemmas.List.{take_rest}
use Rattle.std.proofs.lemmas.Iterator.{YieldsList-from_slice}
use Rattle.std.proofs.lemmas.Iterator.Search.{position_from_yields_List}
use Rattle.name_list.specs.Lines.{FirstLine}
use Rattle.name_list.proofs.Lines.{is_newline, found_line}
use Rattle.name_list.proofs.line_end.Goals as goal
use Rattle.name_list.proofs.line_end.Goals.{After-position}

found : (c : After-position) → MatchOption c.position.result (FirstLine c.args.list.now c.args.start (length c.args.list.now)) (λ i. FirstLine c.args.list.now c.args.start (c.args.start + i))
found c =
    let list = c.args.list.now in
    let start = c.args.start in
    let p = position_from_yields_List is_newline _ _ c.position.result c.position.ensures.ran (YieldsList-from_slice (take (length list - start) (drop start list)) (search rules)) (λ x b q k. search (rules, tests)) in
    found_line list start c.position.result c.requires (rw (take_rest list start) at p)

pub returns-in-Some : goal.returns-in-Some
returns-in-Some c = rw c.in-Some.is at (found (goal.at.returns-in-Some c).After-position)

pub returns-in-None : goal.returns-in-None
returns-in-None c = rw c.in-None.is at (found (goal.at.returns-in-None c).After-position)
