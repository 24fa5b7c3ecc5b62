use Rattle.std.proofs.Common.{ℕ, [], ap, subst, ◌∙◌, arith}
use Rattle.lt_layout.specs.Spelling.{Parts}
use Rattle.lt_layout.specs.Entries.{IsEntries}
use Rattle.lt_layout.proofs.IndexText.{entries_take}
use Rattle.lt_layout.proofs.index.index_of.Goals as goal

pub returns-clause-count : goal.returns-clause-count
returns-clause-count c =
    let found = entries_take c.parts.inside.index c.parts.inside.blocks c.parts.inside.index 8 [] c.args.bytes.now (c.in_ok-entries.entries.items, c.in_ok-entries.left.now) (λ i. omega (arith, c.type_inv.bytes i)) c.in_ok-entries.ensures.exact in
    found.count ∙ ap (λ (v : Parts). v.blocks) c.parts.view_is

pub returns-clause-entries : goal.returns-clause-entries
returns-clause-entries c =
    let found = entries_take c.parts.inside.index c.parts.inside.blocks c.parts.inside.index 8 [] c.args.bytes.now (c.in_ok-entries.entries.items, c.in_ok-entries.left.now) (λ i. omega (arith, c.type_inv.bytes i)) c.in_ok-entries.ensures.exact in
    subst (λ (n : ℕ). IsEntries n 8 [] c.in_ok-entries.entries.items) (ap (λ (v : Parts). v.index) c.parts.view_is) found.entries
