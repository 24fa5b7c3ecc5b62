use Rattle.std.proofs.Common.{List, sym, ap, subst, ◌∙◌, arith}
use Rattle.lt_rec.specs.declared.listed.Listed.{Listed}
use Rattle.lt_desc.specs.Lawful.{IsStone}
use Rattle.lt_desc.specs.Spelling.{spelling}
use Rattle.lt_desc.proofs.Whole.{stone_of, stone_read, stone_takes}
use Rattle.lt_desc.proofs.decoding.decode.Goals as goal

pub new-requires : goal.new-requires
new-requires c =
    let read = stone_read c.args.bytes.now c.in_ok-head.head c.in_ok-head.rest.now c.in_ok-schemas.schemas c.in_ok-schemas.rest.now c.in_ok-tablets.tablets.items c.in_ok-head.ensures.exact c.in_ok-schemas.ensures.exact c.in_ok-tablets.ensures.exact in
    let found = stone_takes c.args.bytes.now (stone_of c.in_ok-head.head c.in_ok-schemas.schemas c.in_ok-tablets.tablets.items) (λ i. omega (arith, c.type_inv.bytes i)) read in
    record { lawful = subst (λ (ts : List Listed). IsStone (stone_of c.in_ok-head.head c.in_ok-schemas.schemas ts)) (sym c.from_vec.ensures) found.lawful }

pub returns-clause-spelled : goal.returns-clause-spelled
returns-clause-spelled c =
    let read = stone_read c.args.bytes.now c.in_ok-head.head c.in_ok-head.rest.now c.in_ok-schemas.schemas c.in_ok-schemas.rest.now c.in_ok-tablets.tablets.items c.in_ok-head.ensures.exact c.in_ok-schemas.ensures.exact c.in_ok-tablets.ensures.exact in
    let found = stone_takes c.args.bytes.now (stone_of c.in_ok-head.head c.in_ok-schemas.schemas c.in_ok-tablets.tablets.items) (λ i. omega (arith, c.type_inv.bytes i)) read in
    found.spelled ∙ ap spelling (sym (c.new.ensures.parts ∙ ap (λ (ts : List Listed). stone_of c.in_ok-head.head c.in_ok-schemas.schemas ts) c.from_vec.ensures))
