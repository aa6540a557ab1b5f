-- `run_list::put_lines` puts all lines where they fit.
use mathlib.Core.Path.{sym, ap, ◌∙◌}
use lib.ListN.{length}
use Rattle.air.specs.Choices.{chosen}
use Rattle.octets.specs.Room.{Text, written}
use Rattle.name_list.specs.Lines.{lines_of}
use Rattle.report.specs.Listing.{lines_by}
use Rattle.report_refusal.proofs.Cases.{done_fits}
use Rattle.report.proofs.Output.{part_whole}
use Rattle.run_list.proofs.put_lines.Goals as goal

pub returns-clause-out_after : goal.returns-clause-out_after
returns-clause-out_after c =
    let s = c.args in
    let p = c.part.ensures in
    let d = done_fits (lines_by chosen s.sheet.now (lines_of s.list.now)) (length s.out.now) c.in_ok-n.n c.in_ok-n.ensures in
    part_whole s.sheet.now s.list.now s.out.now c.part.new.out c.part.result.next c.part.result.len p.part (p.list_len_bound d.1) ∙ sym (ap (λ (t : Text). written t s.out.now) d.2)
