use Rattle.std.proofs.Common.{ap, arith}
use Rattle.lt_files_runs.proofs.tests.writing.three.Goals as goal

pub add-requires-2-clause-ready : goal.add-requires-2-clause-ready
add-requires-2-clause-ready g c κs within = (_, c.in_ok-add.ensures.added _ c.in_ok-writer.ensures.nothing)

pub add-requires-3-clause-ready : goal.add-requires-3-clause-ready
add-requires-3-clause-ready g c κs within = (_, c.in_ok-add-2.ensures.added _ (c.in_ok-add.ensures.added _ c.in_ok-writer.ensures.nothing))

pub finish-requires-clause-ready : goal.finish-requires-clause-ready
finish-requires-clause-ready g c κs within =
    (_, c.in_ok-add-3.ensures.added _ (c.in_ok-add-2.ensures.added _ (c.in_ok-add.ensures.added _ c.in_ok-writer.ensures.nothing)))

pub finish-requires-clause-some : goal.finish-requires-clause-some
finish-requires-clause-some g c κs within =
    let wrote = c.in_ok-add-3.ensures.added _ (c.in_ok-add-2.ensures.added _ (c.in_ok-add.ensures.added _ c.in_ok-writer.ensures.nothing)) in
    omega (arith, ap (λ found. found.totals.rows) wrote.cut.found_is)
