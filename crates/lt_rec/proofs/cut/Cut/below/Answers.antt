use Rattle.std.proofs.Common.{refl, sym, ◌∙◌, rules}
use Rattle.lt_rec.proofs.Fronts.{compared}
use Rattle.lt_rec.proofs.cut.Cut.below.Goals as goal

pub returns-in-Less : goal.returns-in-Less
returns-in-Less c =
    let says = compared _ c.args.key.now _ c.args.self.now.bytes _ _ c.as_slice-bytes.ensures c.min.ensures c.split_at.ensures.front (sym c.in-Less.is ∙ c.cmp.ensures) in
    record { exact = rw says refl }

pub returns-in-Equal : goal.returns-in-Equal
returns-in-Equal c =
    let says = compared _ c.args.key.now _ c.args.self.now.bytes _ _ c.as_slice-bytes.ensures c.min.ensures c.split_at.ensures.front (sym c.in-Equal.is ∙ c.cmp.ensures) in
    record { exact = rw (says.0, says.1) (search rules) }

pub returns-in-Greater : goal.returns-in-Greater
returns-in-Greater c =
    let says = compared _ c.args.key.now _ c.args.self.now.bytes _ _ c.as_slice-bytes.ensures c.min.ensures c.split_at.ensures.front (sym c.in-Greater.is ∙ c.cmp.ensures) in
    record { exact = rw (says.0, says.1) (search rules) }
