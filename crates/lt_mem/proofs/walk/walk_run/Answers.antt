use Rattle.std.proofs.Common.{◌≡◌, true, false, List, OnOk, take, drop, refl, sym, ap, subst, ◌∙◌}
use Rattle.lt_rec.specs.Record.{Record}
use Rattle.lt_rec.specs.Records.{piece}
use Rattle.lt_mem.specs.Rising.{in_order}
use Rattle.lt_mem.specs.Pieces.{has_time}
use Rattle.lt_mem.specs.Growth.{grown}
use Rattle.lt_mem.proofs.Filtered.{filter_none, filter_all, all_in_piece, drop_front}
use Rattle.lt_mem.proofs.Growth.{grown_by_none}
use Rattle.lt_mem.proofs.walk.walk_run.Goals as goal

pub returns-then-misses : goal.returns-then-misses
returns-then-misses c =
    let a = c.args in
    let p = has_time a.raw_box.now in
    let run = piece a.held.now a.from a.to a.down in
    let none = filter_none p run (all_in_piece (λ (x : Record). p x ≡ false) a.held.now a.from a.to a.down (c.if-misses.ensures refl)) in
    sym (ap (grown a.found.now) none ∙ grown_by_none a.found.now)

pub returns-then-lies_in : goal.returns-then-lies_in
returns-then-lies_in c =
    let a = c.args in
    let p = has_time a.raw_box.now in
    let run = piece a.held.now a.from a.to a.down in
    let all = filter_all p run (all_in_piece (λ (x : Record). p x ≡ true) a.held.now a.from a.to a.down (c.if-lies_in.ensures refl)) in
    subst (λ (ys : List Record). OnOk c.add.result (c.add.new.self ≡ grown a.found.now ys)) (c.in_ok-run.ensures ∙ sym all) c.add.ensures

pub add_timed-requires : goal.add_timed-requires
add_timed-requires c =
    let a = c.args in
    let read : c.split_at-2.result.1.now ≡ drop a.from (take a.to a.held.now) = c.split_at-2.ensures.back ∙ ap (drop a.from) (c.split_at.ensures.front ∙ ap (take a.to) c.as_slice.ensures) in
    record { same = c.in_ok-run.ensures ∙ ap (in_order a.down) (sym (read ∙ drop_front a.held.now a.from a.to c.requires.ordered)) }
