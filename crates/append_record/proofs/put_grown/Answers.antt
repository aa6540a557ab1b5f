-- `append_record::put_grown` puts the sheet with its count raised, then the record.
use mathlib.Core.List.{List}
use mathlib.Core.Path.{◌≡◌, ap, ◌∙◌}
use native.Mathlib.Omega.{arith}
use Prim.Native.Nat.{ℕ, ◌+◌, ◌-◌, ◌≤◌}
use lib.ListN.{length, take, drop, length-drop}
use lib.Seq.{take_all}
use Rattle.octets.specs.Bytes.{part}
use Rattle.octets.specs.Room.{put_at}
use Rattle.append_record.specs.Grown.{new_record}
use Rattle.append_record.proofs.Stored.{put_more, grown_put}
use Rattle.append_record.proofs.put_grown.Goals as goal

pub returns : goal.returns
returns c =
    let s = c.args.s.now in
    let here : 0 ≤ length c.args.out.now = omega arith in
    let all : take (length s - 7) (drop 7 s) ≡ drop 7 s = take_all (length s - 7) (drop 7 s) (omega (arith, length-drop 7 s)) in
    let r = new_record c.args.name.now c.args.kind c.args.first c.args.second in
    let count = take 2 (drop 6 c.to_be_bytes.result) in
    let kept = put_more {t = part s 0 5} count here (record { here = c.append-counted.ensures.value; holds = c.append-counted.ensures.out_after }) (c.append-kept.ensures.value, c.append-kept.ensures.out_after) in
    let rest = put_more (drop 7 s) here kept (c.append-end.ensures.value ∙ ap (λ (x : List ℕ). c.append-kept.result + length x) all, c.append-end.ensures.out_after ∙ ap (put_at c.append-kept.new.out c.append-kept.result) all) in
    grown_put s r c.number-raised.result count c.number-raised.ensures (ap (λ (x : List ℕ). take 2 (drop 6 x)) c.to_be_bytes.ensures)
    (put_more r here rest (c.put_record.ensures.value, c.put_record.ensures.out_after))
