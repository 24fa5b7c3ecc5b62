use Rattle.std.proofs.Common.{◌≡◌, ◌+◌, ◌<◌, subst, List, length, drop, get_or, ◌++◌}
use Rattle.std.specs.List.{list_all}
use Rattle.lt_schema.specs.declared.change.Change.{Change}
use Rattle.lt_schema.specs.Versions.{schema_at}
use Rattle.lt_desc.specs.Lawful.{fits_change}
use Rattle.lt_desc.specs.Spelling.{changes_spelled}
use Rattle.lt_desc.proofs.ChangeText.{cut_at, version_next, put_step, may_step, fits_step}
use Rattle.lt_desc.proofs.encoding.put_changes.Goals as goal

pub loop-ver-preserved : goal.loop-ver-preserved
loop-ver-preserved c =
    let v = c.args.schemas.now in
    let i = c.loop-ver.ver in
    let change = c.change-item.result in
    let rest = drop (c.loop-ver.ver + 1) c.args.schemas.now.changes in
    let lt = subst (λ (cs : List Change). c.loop-ver.ver < length cs) c.changes-change-items.ensures.value c.loop-ver-test.true in
    let is = subst (λ (cs : List Change). c.change-item.result ≡ get_or cs c.loop-ver.ver c.change-item.result) c.changes-change-items.ensures.value c.change-item.is in
    let cut = cut_at c.args.schemas.now.changes c.loop-ver.ver c.change-item.result lt is in
    let next = version_next c.args.schemas.now c.loop-ver.ver c.change-item.result lt is in
    let may = may_step (schema_at v i) (schema_at v (c.loop-ver.ver + 1)) change (drop i v.changes) rest cut next c.loop-ver.invariant.admitted in
    record {
      put = put_step c.loop-ver.out.items c.put_change_of.new.out.items (c.args.out.now.items ++ changes_spelled v.first v.changes) (schema_at v i) (schema_at v (c.loop-ver.ver + 1)) change (drop i v.changes) rest cut next c.in_ok-put_change_of.ensures.ok c.loop-ver.invariant.put;
      admitted = may.1;
      fits = fits_step change (drop i v.changes) rest (list_all fits_change v.changes) cut c.in_ok-put_change_of.ensures.fits c.loop-ver.invariant.fits;
    }
