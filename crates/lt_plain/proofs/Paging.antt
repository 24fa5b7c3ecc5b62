-- The rows of a page are the answer of each legal history that has these rows.
use Rattle.std.proofs.Common.{◌≡◌, ℕ, ◌+◌, ◌<◌, ◌≤◌, Bool, true, false, List, [], ◌∷◌, ◌++◌, length, take, drop, map, get_or, refl, sym, ◌∙◌, ap, subst, arith}
use Rattle.std.specs.Prelude.{All, IsSorted}
use Rattle.std.specs.Ordering.{is_lt}
use Rattle.std.specs.declared.cmp.Ordering.{Ordering}
use Rattle.std.proofs.lemmas.Bool.Decides.{Decides-ltb}
use Rattle.std.proofs.lemmas.List.{length-append, length-map, take-append-le, take-map, get_or-map}
use Rattle.std.specs.Cmp.{IsStrictWeakOrder}
use denote.Ref.{Bor}
use Rattle.std.proofs.lemmas.List.Sorted.{IsPermutation-map, All-permutation, ranks_by, IsStrictWeakOrder-flip}
use Rattle.std.proofs.lemmas.List.Elements.{All-from_recursion, All-filter}
use Rattle.lt_schema.specs.declared.value.Value.{Value}
use Rattle.lt_schema.specs.declared.change.Change.{Change}
use Rattle.lt_schema.specs.declared.change.Change.TheVariants.{Append, Widen}
use Rattle.lt_schema.specs.Shapes.{SchemaShape}
use Rattle.lt_schema.specs.Versions.{SchemaVersions, lifted_over}
use Rattle.lt_schema.specs.Check.{key_of}
use Rattle.lt_schema.specs.Orders.{key_cmp_total}
use Rattle.lt_command.specs.declared.query.Query.{Query}
use Rattle.lt_model.specs.History.{Numbered, History}
use Rattle.lt_model.specs.Readings.{rows, schemas}
use Rattle.lt_model.specs.Legal.{IsLegal}
use Rattle.lt_model.specs.Answer.{IsAnswer, row_cmp}
use Rattle.lt_model.proofs.Singles.{long_rows}
use Rattle.lt_plain.specs.Table.{is_shown, under_newest, numbered_cmp, IsPage}

-- no change touches a whole key
lifted_key : (schema : SchemaShape) (changes : List Change) (row : List Value) → schema.key_len ≤ length row → key_of schema (lifted_over changes row) ≡ key_of schema row
lifted_key schema [] row whole = refl
lifted_key schema (Append column ∷ changes) row whole =
    lifted_key schema changes (row ++ column.default ∷ []) (omega (arith, length-append row (column.default ∷ []))) ∙ take-append-le schema.key_len row (column.default ∷ []) whole
lifted_key schema (Widen name ∷ changes) row whole = lifted_key schema changes row whole

row_cmp-by_key : (schema : SchemaShape) (down : Bool) (a b c d : List Value) → key_of schema a ≡ key_of schema c → key_of schema b ≡ key_of schema d → row_cmp schema down a b ≡ row_cmp schema down c d
row_cmp-by_key schema true a b c d first second = cc
row_cmp-by_key schema false a b c d first second = cc

abbrev IsWhole : SchemaShape → Numbered → Type 0
IsWhole schema numbered = schema.key_len ≤ length numbered.row

lifted_order : (versions : SchemaVersions) (down : Bool) (a b : Numbered) → IsWhole versions.first a → IsWhole versions.first b
    → row_cmp versions.first down (under_newest versions a) (under_newest versions b) ≡ numbered_cmp versions.first down a b
lifted_order versions down a b whole_a whole_b =
    row_cmp-by_key versions.first down (under_newest versions a) (under_newest versions b) a.row b.row
    (lifted_key versions.first (drop a.ver versions.changes) a.row whole_a) (lifted_key versions.first (drop b.ver versions.changes) b.row whole_b)

-- rows with whole keys keep their order under later versions
lifted_sorted : (versions : SchemaVersions) (down : Bool) (sorted : List Numbered) → All (IsWhole versions.first) sorted → IsSorted (numbered_cmp versions.first down) sorted
    → IsSorted (row_cmp versions.first down) (map (under_newest versions) sorted)
lifted_sorted versions down sorted whole up k d low high =
    let none : Numbered = record { seq = 0; ver = 0; row = [] } in
    let many : k + 1 < length sorted = omega (arith, length-map sorted (under_newest versions)) in
    let fewer : k < length sorted = omega arith in
    let first = get_or-map (under_newest versions) sorted k none d fewer in
    let second = get_or-map (under_newest versions) sorted (k + 1) none d many in
    ap (λ (pair : List Value × List Value). is_lt (row_cmp versions.first down pair.0 pair.1)) (λ i. (second i, first i))
    ∙ ap is_lt (lifted_order versions down (get_or sorted (k + 1) none) (get_or sorted k none) (whole (k + 1) none many) (whole k none fewer))
    ∙ up k none low many

pub IsAnswer-page : (h : History) (query : Query) (since : ℕ) (shown : List (List Value)) (more : Bool) → IsLegal h → IsPage (schemas h) query since (rows h) shown more → IsAnswer h query since shown more
IsAnswer-page h query since shown more legal page =
    let versions = schemas h in
    let whole : All (IsWhole versions.first) page.sorted =
    All-permutation (IsWhole versions.first) _ _ page.all_of_them (All-filter (is_shown versions.first query since) (IsWhole versions.first) (rows h) (All-from_recursion (IsWhole versions.first) (rows h) (long_rows h legal))) in
    let many : length (map (under_newest versions) page.sorted) ≡ length page.sorted = length-map page.sorted (under_newest versions) in
    record {
      sorted = map (under_newest versions) page.sorted;
      all_of_them = IsPermutation-map (under_newest versions) _ _ page.all_of_them;
      in_order = lifted_sorted versions query.down page.sorted whole page.in_order;
      first_ones = page.first_ones ∙ sym (take-map (under_newest versions) query.limit page.sorted);
      others = (
        λ more. subst (λ (n : ℕ). query.limit < n) (sym many) ((Decides-ltb query.limit (length page.sorted)).0 (sym page.others ∙ more)),
        λ less. page.others ∙ (Decides-ltb query.limit (length page.sorted)).1 (subst (λ (n : ℕ). query.limit < n) many less),
      );
    }

-- rows are ranked by their keys
pub numbered_ranks : (schema : SchemaShape) (down : Bool) → IsStrictWeakOrder (λ (a b : Bor Numbered). is_lt (numbered_cmp schema down a.now b.now))
numbered_ranks schema false = ranks_by key_cmp_total (λ (a : Bor Numbered). key_of schema a.now.row)
numbered_ranks schema true = IsStrictWeakOrder-flip (λ (a b : Bor Numbered). is_lt (numbered_cmp schema false a.now b.now)) (ranks_by key_cmp_total (λ (a : Bor Numbered). key_of schema a.now.row))

-- a list that is sorted by what its elements stand for stands for a sorted list
pub IsSorted-map : {X Y : Type 0} (f : X → Y) (cmp : Y → Y → Ordering) (xs : List X) → IsSorted (λ a b. cmp (f a) (f b)) xs → IsSorted cmp (map f xs)
IsSorted-map f cmp [] up k d low high = absurd (omega arith)
IsSorted-map f cmp (x ∷ xs) up k d low high =
    let many : k + 1 < length (x ∷ xs) = omega (arith, length-map (x ∷ xs) f) in
    let fewer : k < length (x ∷ xs) = omega arith in
    let first = get_or-map f (x ∷ xs) k x d fewer in
    let second = get_or-map f (x ∷ xs) (k + 1) x d many in
    (λ i. is_lt (cmp (second i) (first i))) ∙ up k x low many

map_both : {X Y Z : Type 0} (f : X → Y) (g : Y → Z) (xs : List X) → map (λ x. g (f x)) xs ≡ map g (map f xs)
map_both f g [] = refl
map_both f g (x ∷ xs) = ap (λ rest. g (f x) ∷ rest) (map_both f g xs)

-- the first ones are lifted as what they stand for
pub first_lifted : {X : Type 0} (versions : SchemaVersions) (f : X → Numbered) (n : ℕ) (xs : List X) → map (λ x. under_newest versions (f x)) (take n xs) ≡ map (under_newest versions) (take n (map f xs))
first_lifted versions f n xs = map_both f (under_newest versions) (take n xs) ∙ ap (map (under_newest versions)) (sym (take-map f n xs))
