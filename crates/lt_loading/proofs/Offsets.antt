-- Where the first record lies that is none of a row.
use Rattle.std.proofs.Common.{◌≡◌, ℕ, zero, suc, ◌+◌, ◌-◌, ◌^◌, ◌<◌, ◌≤◌, Bool, true, false, List, [], ◌∷◌, length, get_or, take, refl, sym, ap, subst, ◌∙◌, inl, inr, arith}
use Rattle.std.specs.Prelude.{Contains, min, Some, Result, Ok, Err, is_ok, slice_get, All}
use Rattle.std.proofs.lemmas.List.{length-append, get_or_default}
use Rattle.std.proofs.lemmas.Bool.{cases_lt}
use Rattle.std.proofs.lemmas.List.Elements.{Contains-append_cases}
use Rattle.lt_rec.specs.Record.{Record, stored_len, spelled}
use Rattle.lt_rec.specs.Records.{joined}
use Rattle.lt_rec.proofs.Reading.{bind_ok}
use Rattle.lt_rec.specs.Reading.{◌>>=◌, holds}
use Rattle.lt_schema.specs.Versions.{SchemaVersions}
use Rattle.lt_codec.specs.Reading.{row_in}
use Rattle.std.specs.List.{flat_map}
use Rattle.std.specs.Int.{w32, to_be_bytes}
use Rattle.lt_block.specs.Spelling.{spelling, places, last_key}
use Rattle.lt_layout.specs.Spelling.{Entry, Totals, IsTablet, entries_of, first_key, blocks_spelled, file_of}
use Rattle.lt_layout.specs.Reading.{file_at, footer_place}
use Rattle.lt_layout.proofs.Whole.{from_place, place_ok, file_parts}
use Rattle.lt_rec.proofs.Stored.{spelled_len}
use Rattle.lt_loading.specs.Rows.{IsOfRow, IsFirstFault, rows_at, blocks_at}

abbrev failed_at : ℕ → Result (Unit {0}) ℕ
failed_at n = Err n

-- what holds of the elements below a place and of the one there
pub one_more : {X : Type 0} (P : X → Type 0) (xs : List X) (i : ℕ) (x : X) → i < length xs → get_or xs i x ≡ x → ((k : ℕ) (d : X) → k < i → P (get_or xs k d)) → P x → (k : ℕ) (d : X) → k < i + 1 → P (get_or xs k d)
one_more {X} P xs i x within there before here k d lt = elim (cases_lt k i) [
  | inl low ↦ before k d low
  | inr up ↦
      let same : k ≡ i = omega (arith, lt, up) in
      let is : get_or xs k d ≡ x = ap (λ j. get_or xs j d) same ∙ get_or_default xs i d x within ∙ there in
      subst P (sym is) here
]

pub fault_there : (versions : SchemaVersions) (recs : List Record) (i : ℕ) (rec : Record) (b : Bool) → i < length recs → get_or recs i rec ≡ rec → b ≡ is_ok (row_in versions rec) → b ≡ false → (d : Record) → is_ok (row_in versions (get_or recs i d)) ≡ false
fault_there versions recs i rec b within there is off d = ap (λ (r : Record). is_ok (row_in versions r)) (get_or_default recs i d rec within ∙ there) ∙ sym is ∙ off

is_ok-same : {A : Type 0} (r : Result A ℕ) (x : A) → r ≡ Ok x → is_ok r ≡ true
is_ok-same r x e = ap is_ok e

pub reads : (versions : SchemaVersions) (rec : Record) → IsOfRow versions rec → is_ok (row_in versions rec) ≡ true
reads versions rec is = is_ok-same (row_in versions rec) is.0.row is.1.read

pub rows_ok : (versions : SchemaVersions) (at : ℕ) (recs : List Record) → All (IsOfRow versions) recs → rows_at versions at recs ≡ Ok tt
rows_ok versions at [] all = refl
rows_ok versions at (rec ∷ recs) all =
    ap (λ (b : Bool). holds b at >>= λ _. rows_at versions (at + stored_len rec) recs) (reads versions rec (all 0 rec (omega arith)))
    ∙ rows_ok versions (at + stored_len rec) recs (λ k d lt. all (suc k) d (omega (arith, lt)))

pub rows_fault : (versions : SchemaVersions) (start at : ℕ) (recs : List Record) (place : ℕ) → IsFirstFault versions recs place → rows_at versions (start + at) recs ≡ Err (start + get_or (places at recs) place 0)
rows_fault versions start at [] place is = absurd (omega (arith, is.within))
rows_fault versions start at (rec ∷ recs) zero is = ap (λ (b : Bool). holds b (start + at) >>= λ _. rows_at versions (start + at + stored_len rec) recs) (is.fault rec)
rows_fault versions start at (rec ∷ recs) (suc place) is =
    let more : start + at + stored_len rec ≡ start + (at + stored_len rec) = omega arith in
    let rest : IsFirstFault versions recs place = record { within = omega (arith, is.within); before = λ k d lt. is.before (suc k) d (omega (arith, lt)); fault = λ d. is.fault d } in
    ap (λ (b : Bool). holds b (start + at) >>= λ _. rows_at versions (start + at + stored_len rec) recs) (is.before 0 rec (omega arith))
    ∙ ap (λ (n : ℕ). rows_at versions n recs) more ∙ rows_fault versions start (at + stored_len rec) recs place rest

-- ---- of blocks

pub blocks_ok : (versions : SchemaVersions) (start : ℕ) (blocks : List (List Record)) → ((k : ℕ) (d : List Record) → k < length blocks → All (IsOfRow versions) (get_or blocks k d)) → blocks_at versions start blocks ≡ Ok tt
blocks_ok versions start [] all = refl
blocks_ok versions start (recs ∷ blocks) all =
    ap (λ (r : Result (Unit {0}) ℕ). r >>= λ _. blocks_at versions (start + length (spelling recs)) blocks) (rows_ok versions (start + 4) recs (all 0 recs (omega arith)))
    ∙ blocks_ok versions (start + length (spelling recs)) blocks (λ k d lt. all (suc k) d (omega (arith, lt)))

spelled_more : (recs : List Record) (blocks : List (List Record)) → length (blocks_spelled (recs ∷ blocks)) ≡ length (spelling recs) + length (blocks_spelled blocks)
spelled_more recs blocks = length-append (spelling recs) (blocks_spelled blocks)

-- where a block begins
pub offset_is : (start : ℕ) (blocks : List (List Record)) (i : ℕ) (e : Entry) → slice_get (entries_of start blocks) i ≡ Some e → e.offset ≡ start + length (blocks_spelled (take i blocks))
offset_is start [] i e is = absurd (cc)
offset_is start (recs ∷ blocks) zero e is = let same : start ≡ e.offset = cc in omega (arith, same)
offset_is start (recs ∷ blocks) (suc i) e is =
    let there = offset_is (start + length (spelling recs)) blocks i e is in
    omega (arith, there, spelled_more recs (take i blocks))

pub blocks_fault : (versions : SchemaVersions) (start : ℕ) (blocks : List (List Record)) (i : ℕ) (recs : List Record) (place : ℕ) → slice_get blocks i ≡ Some recs
    → ((k : ℕ) (d : List Record) → k < i → All (IsOfRow versions) (get_or blocks k d)) → IsFirstFault versions recs place
    → blocks_at versions start blocks ≡ Err (start + length (blocks_spelled (take i blocks)) + get_or (places 4 recs) place 0)
blocks_fault versions start [] i recs place there before is = absurd (cc)
blocks_fault versions start (first ∷ blocks) zero recs place there before is =
    let same : first ≡ recs = cc in
    let here : rows_at versions (start + 4) first ≡ Err (start + get_or (places 4 recs) place 0) = ap (rows_at versions (start + 4)) same ∙ rows_fault versions start 4 recs place is in
    let at : start + get_or (places 4 recs) place 0 ≡ start + 0 + get_or (places 4 recs) place 0 = omega arith in
    ap (λ (r : Result (Unit {0}) ℕ). r >>= λ _. blocks_at versions (start + length (spelling first)) blocks) here ∙ ap failed_at at
blocks_fault versions start (first ∷ blocks) (suc i) recs place there before is =
    let rest = blocks_fault versions (start + length (spelling first)) blocks i recs place there (λ k d lt. before (suc k) d (omega (arith, lt))) is in
    let at : start + length (spelling first) + length (blocks_spelled (take i blocks)) + get_or (places 4 recs) place 0 ≡ start + length (blocks_spelled (first ∷ take i blocks)) + get_or (places 4 recs) place 0 = omega (arith, spelled_more first (take i blocks)) in
    ap (λ (r : Result (Unit {0}) ℕ). r >>= λ _. blocks_at versions (start + length (spelling first)) blocks) (rows_ok versions (start + 4) first (before 0 first (omega arith)))
    ∙ rest ∙ ap failed_at at

-- the entry of a block that is there
pub record EntryThere (start : ℕ) (blocks : List (List Record)) (i : ℕ) : Type 0 where
  pub e : Entry
  pub there : slice_get (entries_of start blocks) i ≡ Some e
  pub offset_is : e.offset ≡ start + length (blocks_spelled (take i blocks))

pub entry_there : (start : ℕ) (blocks : List (List Record)) (i : ℕ) (recs : List Record) → slice_get blocks i ≡ Some recs → EntryThere start blocks i
entry_there start [] i recs is = absurd (cc)
entry_there start (first ∷ blocks) zero recs is = record { e = record { offset = start; len = length (spelling first); count = length first; first = first_key first; last = last_key [] first }; there = refl; offset_is = omega arith }
entry_there start (first ∷ blocks) (suc i) recs is =
    let rest = entry_there (start + length (spelling first)) blocks i recs is in
    record { e = rest.e; there = rest.there; offset_is = omega (arith, rest.offset_is, spelled_more first (take i blocks)) }

-- the records of all blocks
pub all_joined : (versions : SchemaVersions) (blocks : List (List Record)) → ((k : ℕ) (d : List Record) → k < length blocks → All (IsOfRow versions) (get_or blocks k d)) → (rec : Record) → Contains (joined blocks) rec → IsOfRow versions rec
all_joined versions [] all rec has = absurd (omega (arith, has.1))
all_joined versions (recs ∷ blocks) all rec has = elim (Contains-append_cases recs (joined blocks) rec has) [
  | inl own ↦ subst (IsOfRow versions) own.2 (all 0 recs (omega arith) own.0 rec own.1)
  | inr later ↦ all_joined versions blocks (λ k d lt. all (suc k) d (omega (arith, lt))) rec later
]

-- ---- within the file

pub size_is : (t : Totals) (listed : ℕ) (bytes : List ℕ) (blocks : List (List Record)) → file_at t listed bytes ≡ Ok blocks → length bytes ≡ listed
unfolding file_at
size_is t listed bytes blocks e =
    let a = bind_ok (footer_place listed (length bytes)) (from_place t bytes) blocks e in
    (place_ok listed (length bytes) a.0 a.1).listed_so

place_small : (at : ℕ) (recs : List Record) (place : ℕ) → place < length recs → get_or (places at recs) place 0 ≤ at + length (flat_map spelled recs)
place_small at [] place lt = absurd (omega (arith, lt))
place_small at (rec ∷ recs) zero lt = omega arith
place_small at (rec ∷ recs) (suc place) lt =
    let rest = place_small (at + stored_len rec) recs place (omega (arith, lt)) in
    let more : length (flat_map spelled (rec ∷ recs)) ≡ length (spelled rec) + length (flat_map spelled recs) = length-append (spelled rec) (flat_map spelled recs) in
    omega (arith, rest, more, spelled_len rec)

block_within : (blocks : List (List Record)) (i : ℕ) (recs : List Record) → slice_get blocks i ≡ Some recs → length (blocks_spelled (take i blocks)) + length (spelling recs) ≤ length (blocks_spelled blocks)
block_within [] i recs is = absurd (cc)
block_within (first ∷ blocks) zero recs is =
    let same : first ≡ recs = cc in
    let len : length (spelling first) ≡ length (spelling recs) = ap (λ (rs : List Record). length (spelling rs)) same in
    omega (arith, spelled_more first blocks, len)
block_within (first ∷ blocks) (suc i) recs is =
    let rest = block_within blocks i recs is in
    omega (arith, spelled_more first (take i blocks), spelled_more first blocks, rest)

-- the offset of a record in its file
pub offset_small : (blocks : List (List Record)) (bytes : List ℕ) (i : ℕ) (recs : List Record) (place : ℕ) → IsTablet blocks → bytes ≡ file_of blocks → length bytes < 2 ^ 64 → slice_get blocks i ≡ Some recs → place < length recs
    → 8 + length (blocks_spelled (take i blocks)) + get_or (places 4 recs) place 0 < 2 ^ 64
offset_small blocks bytes i recs place tablet spelled_so small there within =
    let whole = (file_parts blocks tablet).len in
    let size : length bytes ≡ length (file_of blocks) = ap length spelled_so in
    let here : length (spelling recs) ≡ 4 + length (flat_map spelled recs) = length-append (to_be_bytes w32 (length recs)) (flat_map spelled recs) in
    omega (arith, whole, size, small, here, place_small 4 recs place within, block_within blocks i recs there)

-- ---- of offsets as they are summed

pub error_at : (m n : ℕ) → m ≡ n → failed_at m ≡ failed_at n
error_at m n e = ap failed_at e

pub min_of : (a b m n : ℕ) → a ≡ m → b ≡ n → m + n < 2 ^ 64 → min (a + b) (2 ^ 64 - 1) ≡ m + n
min_of a b m n e f small = omega (arith, e, f, small)
