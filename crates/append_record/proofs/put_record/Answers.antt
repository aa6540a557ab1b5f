-- `append_record::put_record` puts a record part by part.
use mathlib.Core.List.{[], ◌∷◌}
use native.Mathlib.Omega.{arith}
use Prim.Native.Nat.{◌≤◌}
use lib.ListN.{length}
use Rattle.append_record.proofs.Stored.{put_more, record_put}
use Rattle.append_record.proofs.put_record.Goals as goal

pub returns : goal.returns
returns c =
    let here : c.args.at ≤ length c.args.out.now = omega (arith, c.requires.1) in
    let named = put_more {t = length c.args.name.now ∷ []} c.args.name.now here (record { here = c.append-named.ensures.value; holds = c.append-named.ensures.out_after }) (c.append-kinded.ensures.value, c.append-kinded.ensures.out_after) in
    let kinded = put_more (c.args.kind ∷ []) here named (c.append-valued.ensures.value, c.append-valued.ensures.out_after) in
    let dense = put_more c.to_be_bytes.result here kinded (c.append-dense.ensures.value, c.append-dense.ensures.out_after) in
    let remarked = put_more c.to_be_bytes-2.result here dense (c.append-remarked.ensures.value, c.append-remarked.ensures.out_after) in
    let both = record_put c.args.name.now c.args.kind c.args.first c.args.second c.to_be_bytes.result c.to_be_bytes-2.result c.to_be_bytes.ensures c.to_be_bytes-2.ensures
    (put_more (0 ∷ []) here remarked (c.append.ensures.value, c.append.ensures.out_after)) in
    record { value = both.0; out_after = both.1 }
