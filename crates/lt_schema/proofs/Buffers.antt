-- Values in one buffer stay what they are as it grows.
use Rattle.std.proofs.Common.{◌≡◌, ℕ, ◌+◌, ◌-◌, ◌≤◌, List, [], ◌∷◌, ◌++◌, length, take, drop, map, refl, ap, sym, ◌∙◌, subst, arith}
use Rattle.std.specs.Prelude.{Result, Ok, Err, OnErr}
use Rattle.std.specs.List.{All}
use Rattle.std.specs.Str.{IsUtf8}
use Rattle.std.proofs.lemmas.List.{map-append, length-append, length-drop, take-append-le, length-take-le, drop-append-le, drop_at, drop_all, take_all, take-append-drop}
use Rattle.std.proofs.lemmas.List.Elements.{All-weaker, All-push, All-head, All-tail}
use Rattle.lt_schema.specs.declared.value.Value.{Value}
use Rattle.lt_schema.specs.declared.value.Value.TheVariants.{Int, Text, Blob}
use Rattle.lt_schema.specs.declared.packed.Slot.{Slot}
use Rattle.lt_schema.specs.declared.packed.Slot.TheVariants as slots
use Rattle.lt_schema.specs.declared.rows.Place.{Place}
use Rattle.lt_schema.specs.Packing.{part, value_in, LiesIn}
use Rattle.lt_schema.specs.Placing.{RowsSoFar, row_in, so_far, EndsBy}

pub on_err : {T E P : Type 0} → (r : Result T E) → P → OnErr r P
on_err (Ok x) p = tt
on_err (Err e) p = p

pub part_more : {X : Type 0} → (from len : ℕ) (xs ys : List X) → from + len ≤ length xs → part from len (xs ++ ys) ≡ part from len xs
part_more from len xs ys within =
    let first : from ≤ length xs = omega arith in
    let rest : len ≤ length (drop from xs) = rw (length-drop from xs) (omega arith) in
    ap (take len) (drop-append-le from xs ys first) ∙ take-append-le len (drop from xs) ys rest

pub part_pushed : {X : Type 0} → (xs ys : List X) → part (length xs) (length ys) (xs ++ ys) ≡ ys
part_pushed xs ys = ap (take (length ys)) (drop_at xs ys (length xs) refl) ∙ take_all (length ys) ys (omega arith)

within_more : (n : ℕ) (bytes more : List ℕ) → n ≤ length bytes → n ≤ length (bytes ++ more)
within_more n bytes more within = rw (length-append bytes more) (omega arith)

lies_more : (bytes more : List ℕ) (slot : Slot) → LiesIn bytes slot → LiesIn (bytes ++ more) slot
lies_more bytes more (slots.Int z) lies = tt
lies_more bytes more (slots.Text from len) lies = (within_more (from + len) bytes more lies.0, subst IsUtf8 (sym (part_more from len bytes more lies.0)) lies.1)
lies_more bytes more (slots.Blob from len) lies = within_more (from + len) bytes more lies

same_more : (bytes more : List ℕ) (slot : Slot) → LiesIn bytes slot → value_in (bytes ++ more) slot ≡ value_in bytes slot
same_more bytes more (slots.Int z) lies = refl
same_more bytes more (slots.Text from len) lies = ap Text (part_more from len bytes more lies.0)
same_more bytes more (slots.Blob from len) lies = ap Blob (part_more from len bytes more lies)

pub all_lie_more : (bytes more : List ℕ) (all : List Slot) → All (LiesIn bytes) all → All (LiesIn (bytes ++ more)) all
all_lie_more bytes more all lie = All-weaker (LiesIn bytes) (LiesIn (bytes ++ more)) (lies_more bytes more) all lie

pub all_same_more : (bytes more : List ℕ) (all : List Slot) → All (LiesIn bytes) all → map (value_in (bytes ++ more)) all ≡ map (value_in bytes) all
all_same_more bytes more [] lie = refl
all_same_more bytes more (slot ∷ all) lie =
    ap (λ (x : Value). x ∷ map (value_in (bytes ++ more)) all) (same_more bytes more slot (All-head (LiesIn bytes) slot all lie))
    ∙ ap (λ (xs : List Value). value_in bytes slot ∷ xs) (all_same_more bytes more all (All-tail (LiesIn bytes) slot all lie))

pub pushed_same : (bytes more : List ℕ) (all : List Slot) (slot : Slot) (value : Value) → All (LiesIn bytes) all → value_in (bytes ++ more) slot ≡ value
    → map (value_in (bytes ++ more)) (all ++ slot ∷ []) ≡ map (value_in bytes) all ++ value ∷ []
pushed_same bytes more all slot value lie is =
    map-append (value_in (bytes ++ more)) all (slot ∷ []) ∙ ap (λ (xs : List Value). xs ++ value_in (bytes ++ more) slot ∷ []) (all_same_more bytes more all lie)
    ∙ ap (λ (x : Value). map (value_in bytes) all ++ x ∷ []) is

seam_within : (bytes more : List ℕ) → length bytes + length more ≤ length (bytes ++ more)
seam_within bytes more = rw (length-append bytes more) (omega arith)

pub text_lies : (bytes more : List ℕ) → IsUtf8 more → LiesIn (bytes ++ more) (slots.Text (length bytes) (length more))
text_lies bytes more text = (seam_within bytes more, subst IsUtf8 (sym (part_pushed bytes more)) text)

pub blob_lies : (bytes more : List ℕ) → LiesIn (bytes ++ more) (slots.Blob (length bytes) (length more))
blob_lies bytes more = seam_within bytes more

pub all_lie_pushed : (bytes more : List ℕ) (all : List Slot) (slot : Slot) → All (LiesIn bytes) all → LiesIn (bytes ++ more) slot → All (LiesIn (bytes ++ more)) (all ++ slot ∷ [])
all_lie_pushed bytes more all slot lie lies = All-push (LiesIn (bytes ++ more)) all slot (all_lie_more bytes more all lie) lies

-- ---- rows

pub ends_later : (begin end : ℕ) (places : List Place) → begin ≤ end → All (EndsBy begin) places → All (EndsBy end) places
ends_later begin end places later ends = All-weaker (EndsBy begin) (EndsBy end) (λ place within. omega arith) places ends

rows_same : (values more : List Value) (begin : ℕ) (places : List Place) → All (EndsBy begin) places → begin ≤ length values → map (row_in (values ++ more)) places ≡ map (row_in values) places
rows_same values more begin [] ends within = refl
rows_same values more begin (place ∷ places) ends within =
    let first : place.from + place.len ≤ begin = All-head (EndsBy begin) place places ends in
    let fits : place.from + place.len ≤ length values = omega arith in
    ap (λ (row : List Value). row ∷ map (row_in (values ++ more)) places) (part_more place.from place.len values more fits)
    ∙ ap (λ (rows : List (List Value)). row_in values place ∷ rows) (rows_same values more begin places (All-tail (EndsBy begin) place places ends) within)

rows_taken : (values : List Value) (begin : ℕ) (places : List Place) → All (EndsBy begin) places → begin ≤ length values → map (row_in (take begin values)) places ≡ map (row_in values) places
rows_taken values begin places ends within =
    let fits : begin ≤ length (take begin values) = rw (length-take-le begin values within) (omega arith) in
    sym (rows_same (take begin values) (drop begin values) begin places ends fits) ∙ ap (λ (all : List Value). map (row_in all) places) (take-append-drop begin values)

pub value_pushed : (values : List Value) (value : Value) (begin : ℕ) (places : List Place) → All (EndsBy begin) places → begin ≤ length values
    → so_far (values ++ value ∷ []) places begin ≡ record { rows = map (row_in values) places; row = drop begin values ++ value ∷ [] }
value_pushed values value begin places ends within =
    ap (λ (rows : List (List Value)). record { rows = rows; row = drop begin (values ++ value ∷ []) }) (rows_same values (value ∷ []) begin places ends within)
    ∙ ap (λ (row : List Value). record { rows = map (row_in values) places; row = row }) (drop-append-le begin values (value ∷ []) within)

pub row_dropped : (values : List Value) (begin : ℕ) (places : List Place) → All (EndsBy begin) places → begin ≤ length values
    → so_far (take begin values) places begin ≡ record { rows = map (row_in values) places; row = [] }
row_dropped values begin places ends within =
    let past : length (take begin values) ≤ begin = rw (length-take-le begin values within) (omega arith) in
    ap (λ (rows : List (List Value)). record { rows = rows; row = drop begin (take begin values) }) (rows_taken values begin places ends within)
    ∙ ap (λ (row : List Value). record { rows = map (row_in values) places; row = row }) (drop_all begin (take begin values) past)
