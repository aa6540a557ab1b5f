-- `convert_records::put_record` puts the length byte, the rest of the record and an empty remark.
use mathlib.Core.List.{[], ◌∷◌}
use mathlib.Core.Path.{◌≡◌, ap, ◌∙◌}
use Prim.Native.Nat.{◌+◌, ◌-◌}
use native.Mathlib.Omega.{arith}
use Rattle.octets.specs.Bytes.{part}
use Rattle.octets.specs.Room.{put_at}
use Rattle.convert_records.proofs.Turns.{put_thrice}
use Rattle.convert_records.proofs.put_record.Goals as goal

pub returns-clause-out_after : goal.returns-clause-out_after
returns-clause-out_after c =
    let r = c.args.r in
    let n : r.start + r.len + 17 - r.start ≡ r.len + 17 = omega arith in
    put_thrice c.args.out.now (r.len ∷ []) (part c.args.s.now r.start (r.len + 17)) _ _ _ _ c.args.at _ _ (omega (arith, c.requires))
    c.append-start.ensures.out_after c.append-start.ensures.value (rw n at c.append-end.ensures.out_after) (rw n at c.append-end.ensures.value)
    (c.append.ensures.out_after ∙ ap (put_at c.append-end.new.out c.append-end.result) c.empty_remark.ensures)
