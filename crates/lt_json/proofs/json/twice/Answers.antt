use Rattle.std.proofs.Common.{◌≡◌, ◌+◌, ℕ, List, map, take, drop, ap, sym, ◌∙◌, true, false}
use Rattle.std.specs.List.{list_any}
use Rattle.serde_json.specs.View.{view}
use Rattle.lt_json.specs.FromJson.{twice_from, is_same, name_in, names_in}
use Rattle.lt_json.proofs.Items.{names_drop, names_front, take_step, twice_more, twice_here}
use Rattle.lt_json.proofs.json.twice.Goals as goal

pub returns-then-is_taken : goal.returns-then-is_taken
returns-then-is_taken c =
    let at = c.loop-at.at in
    let names = names_in (map view c.args.columns.now) in
    let name = name_in (view c.index-columns-at.result) in
    let cut = names_drop c.args.columns.now at c.index-columns-at.result c.loop-at-test.true c.index-columns-at.is in
    let is : list_any (is_same name) (take at names) ≡ true = cc (names_front c.args.columns.now at) in
    sym (sym c.loop-at.invariant ∙ ap (twice_from at (take at names)) cut ∙ twice_here at (take at names) name (drop (at + 1) names) is)

pub loop-at-preserved : goal.loop-at-preserved
loop-at-preserved c =
    let at = c.loop-at.at in
    let names = names_in (map view c.args.columns.now) in
    let name = name_in (view c.index-columns-at.result) in
    let cut = names_drop c.args.columns.now at c.index-columns-at.result c.loop-at-test.true c.index-columns-at.is in
    let is : list_any (is_same name) (take at names) ≡ false = cc (names_front c.args.columns.now at) in
    let front = take_step names at name (drop (at + 1) names) cut in
    ap (λ (earlier : List (List ℕ)). twice_from (at + 1) earlier (drop (at + 1) names)) front
    ∙ sym (ap (twice_from at (take at names)) cut ∙ twice_more at (take at names) name (drop (at + 1) names) is) ∙ c.loop-at.invariant
