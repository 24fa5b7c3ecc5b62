use Rattle.std.proofs.Common.{nat_lt, List, length, map, sym, ◌∙◌, ap, subst, Bor}
use Rattle.std.specs.Prelude.{IsPermutation, IsSorted, filter}
use Rattle.std.proofs.lemmas.List.{length-map}
use Rattle.std.proofs.lemmas.List.Sorted.{IsPermutation-map}
use Rattle.lt_schema.specs.Shapes.{SchemaShape}
use Rattle.lt_model.specs.History.{Numbered}
use Rattle.lt_plain.specs.Table.{is_shown, under_newest, numbered_cmp}
use Rattle.lt_plain.proofs.Paging.{IsSorted-map, first_lifted}
use Rattle.lt_plain.proofs.pages.page_of.Goals as goal

pub returns : goal.returns
returns c =
    let versions = c.args.schemas.now in
    let query = c.args.query.now in
    let stands : Bor Numbered → Numbered = λ numbered. numbered.now in
    let sorted : List (Bor Numbered) = c.sort.new.found.items in
    record {
      sorted = map stands sorted;
      all_of_them = subst (λ (xs : List Numbered). IsPermutation xs (map stands sorted)) (c.in_ok-found.ensures ∙ ap (λ (schema : SchemaShape). filter (is_shown schema query c.args.since) c.args.rows.now) c.first-schema.ensures.value)
          (IsPermutation-map stands c.in_ok-found.found.items sorted c.sort.ensures.same);
      in_order = IsSorted-map stands (numbered_cmp versions.first query.down) sorted
          (subst (λ (schema : SchemaShape). IsSorted (λ (a b : Bor Numbered). numbered_cmp schema query.down a.now b.now) sorted) c.first-schema.ensures.value c.in_ok-sort.ensures.sorted);
      first_ones = c.in_ok-rows.ensures ∙ ap (map (λ (numbered : Bor Numbered). under_newest versions numbered.now)) (c.as_slice-2.ensures.value ∙ c.truncate.ensures.items) ∙ first_lifted versions stands query.limit sorted;
      others = ap (λ (xs : List (Bor Numbered)). nat_lt query.limit (length xs)) c.as_slice.ensures.value ∙ ap (nat_lt query.limit) (sym (length-map sorted stands));
    }
