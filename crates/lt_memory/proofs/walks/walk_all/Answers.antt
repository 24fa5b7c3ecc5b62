use Rattle.std.proofs.Common.{◌≡◌, ◌++◌, take, sym, ap, ◌∙◌, List}
use Rattle.std.specs.Prelude.{option_to_list}
use Rattle.lt_rec.specs.Record.{Record}
use Rattle.lt_memory.specs.Walking.{walk_if, walks_of}
use Rattle.lt_memory.proofs.Lists.{take_one_more}
use Rattle.lt_memory.proofs.Growing.{walks_more}
use Rattle.lt_memory.proofs.walks.walk_all.Goals as goal

pub loop-tablet-preserved : goal.loop-tablet-preserved
loop-tablet-preserved c =
    let l = c.loop-tablet in
    let ts = c.args.tablets.now in
    let t = c.tablet-item.result in
    let walks = walks_of c.args.raw_box.now c.args.down c.args.limit in
    record {
      exact = c.in_ok-add_walk.ensures.exact
          ∙ ap (λ (ls : List (List Record)). ls ++ option_to_list (walk_if c.args.raw_box.now c.args.down c.args.limit t)) l.invariant.exact
          ∙ sym (walks_more c.args.raw_box.now c.args.down c.args.limit (take l.tablet-index ts) t)
          ∙ ap walks (sym (take_one_more ts l.tablet-index t c.loop-tablet-test.true c.tablet-item.is));
      sorted = c.in_ok-add_walk.ensures.sorted l.invariant.sorted;
    }
