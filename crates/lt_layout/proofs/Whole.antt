-- The two laws of tablet files.
use Rattle.std.proofs.Common.{◌≡◌, ℕ, ◌+◌, ◌-◌, ◌^◌, ◌<◌, ◌≤◌, Bool, true, false, cond, eqb, ltb, List, [], ◌∷◌, ◌++◌, length, take, drop, Result, Ok, Err, refl, sym, ap, subst, ◌∙◌, arith}
use Rattle.std.specs.Prelude.{nat_eq, min, None}
use Rattle.std.specs.List.{flat_map, AllByRecursion}
use Rattle.std.specs.Cmp.Lexicographic.{pointwise}
use Rattle.std.specs.Int.{w32, to_be_bytes}
use Rattle.std.proofs.lemmas.Bool.{ltb-false, le-ltb, eqb-true, eq-eqb}
use Rattle.std.proofs.lemmas.List.{append-nil, length-append, length-take, length-drop, take_at, drop_at, take-append-drop, drop-drop, nil_from_length}
use Rattle.lt_rec.specs.Record.{Record, IsRecord, spelled}
use Rattle.lt_rec.specs.Records.{joined}
use Rattle.lt_bloom.proofs.Filters.{filter_len}
use Rattle.lt_block.specs.Spelling.{spelling, IsBlock}
use Rattle.lt_rec.specs.Reading.{◌>>=◌, ended, holds}
use Rattle.lt_rec.proofs.Reading.{IsBytes, IsBytes-take, IsBytes-drop, bind_ok, ok_is, done, holds_ok, holds_again}
use Rattle.lt_block.proofs.Blocks.{all_len}
use Rattle.lt_layout.specs.Spelling.{Entry, Totals, Parts, IsTablet, header, footer_numbers, entries_of, key_spelled, entry_spelled, end_of, blocks_spelled, index_spelled, hashes_from, filter_of, footer_spelled, parts_of, totals_of, file_of}
use Rattle.lt_layout.specs.Reading.{footer_place, footer_at, header_at, entries_at, index_at, blocks_at, totals_at, filter_at, same_at, between, file_at}
use Rattle.lt_layout.proofs.Asked.{same_bytes, bytes_same, same_at_ok, same_at_again, Short}
use Rattle.lt_layout.proofs.FooterText.{FooterFound, footer_takes, footer_again}
use Rattle.lt_layout.specs.Entries.{IsEntries}
use Rattle.lt_layout.specs.Phases.{Lie}
use Rattle.lt_layout.proofs.IndexText.{EntriesFound, AreSmall, entries_take, entries_again, ends}
use Rattle.lt_layout.proofs.Blocks.{BlocksFound, blocks_take, blocks_again, length_entries, block_len, entries_are, entries_small}
use Rattle.lt_layout.proofs.Sums.{all_lawful, all_of, all_within, greatest_below, least_below}

-- ---- the checks, one after the other

pub record IsFoot (listed len foot : ℕ) : Type 0 where
  pub listed_so : len ≡ listed
  pub long : 170 ≤ len
  pub foot_is : foot ≡ len - 88

-- where a footer begins that is not too near to the start
abbrev unless_short : Bool → ℕ → Result ℕ ℕ
unless_short short len = cond short (Err 0) (Ok (len - 88))

abbrev if_listed : Bool → ℕ → ℕ → Result ℕ ℕ
if_listed same listed len = cond same (unless_short (ltb len 170) len) (Err (min len listed))

pub place_ok : (listed len foot : ℕ) → footer_place listed len ≡ Ok foot → IsFoot listed len foot
place_ok listed len foot e = first (eqb len listed) refl e
  where
    second : (b : Bool) → ltb len 170 ≡ b → len ≡ listed → unless_short b len ≡ Ok foot → IsFoot listed len foot
    second true t same h = absurd cc
    second false t same h = record { listed_so = same; long = ltb-false _ _ t; foot_is = sym (ok_is (len - 88) foot h) }

    first : (b : Bool) → eqb len listed ≡ b → if_listed b listed len ≡ Ok foot → IsFoot listed len foot
    first true t h = second (ltb len 170) refl (eqb-true _ _ t) h
    first false t h = absurd cc

pub place_again : (len : ℕ) → 170 ≤ len → footer_place len len ≡ Ok (len - 88)
place_again len long =
    ap (λ (b : Bool). if_listed b len len) (eq-eqb len len refl) ∙ ap (λ (b : Bool). unless_short b len) (le-ltb _ _ long)

pub record IndexFound (p : Parts) (bytes : List ℕ) (es : List Entry) : Type 0 where
  pub spelled_so : bytes ≡ flat_map entry_spelled es
  pub count : length es ≡ p.blocks
  pub entries : IsEntries p.index 8 [] es

pub index_takes : (p : Parts) (bytes : List ℕ) (es : List Entry) → IsBytes bytes → index_at p bytes ≡ Ok es → IndexFound p bytes es
index_takes p bytes es fits e =
    let a = bind_ok (entries_at p.index p.blocks p.index 8 [] bytes) (λ x. ended p.filter x) es e in
    let found = entries_take p.index p.blocks p.index 8 [] bytes a.0 fits a.1 in
    next (eqb (length a.0.1) 0) a.0 refl found a.2
  where
    next : (b : Bool) (x : List Entry × List ℕ) → eqb (length x.1) 0 ≡ b → EntriesFound p.index p.blocks 8 [] bytes x → cond b (Ok x.0) (Err (p.filter - length x.1)) ≡ Ok es → IndexFound p bytes es
    next true x t found h =
        let none : x.1 ≡ [] = nil_from_length x.1 (eqb-true _ _ t) in
        subst (IndexFound p bytes) (ok_is x.0 es h)
        (record { spelled_so = found.takes.parts ∙ (ap (λ (r : List ℕ). flat_map entry_spelled x.0 ++ r) none ∙ append-nil (flat_map entry_spelled x.0)); count = found.count; entries = found.entries })
    next false x t found h = absurd cc

abbrev made : (rows low high first last : ℕ) → Totals
made rows low high first last = record { rows = rows; low = low; high = high; first = first; last = last }

pub totals_ok : (foot : ℕ) (t found : Totals) (u : Unit {0}) → totals_at foot t found ≡ Ok u → found ≡ t
totals_ok foot t found u e =
    let a = bind_ok (holds (eqb found.rows t.rows) (foot + 32)) (λ _. holds (eqb found.low t.low) (foot + 40) >>= λ _. holds (eqb found.high t.high) (foot + 48) >>= λ _. holds (eqb found.first t.first) (foot + 56) >>= λ _. holds (eqb found.last t.last) (foot + 64)) u e in
    let b = bind_ok (holds (eqb found.low t.low) (foot + 40)) (λ _. holds (eqb found.high t.high) (foot + 48) >>= λ _. holds (eqb found.first t.first) (foot + 56) >>= λ _. holds (eqb found.last t.last) (foot + 64)) u a.2 in
    let c = bind_ok (holds (eqb found.high t.high) (foot + 48)) (λ _. holds (eqb found.first t.first) (foot + 56) >>= λ _. holds (eqb found.last t.last) (foot + 64)) u b.2 in
    let d = bind_ok (holds (eqb found.first t.first) (foot + 56)) (λ _. holds (eqb found.last t.last) (foot + 64)) u c.2 in
    let rows : found.rows ≡ t.rows = eqb-true _ _ (holds_ok (eqb found.rows t.rows) (foot + 32) a.0 a.1) in
    let low : found.low ≡ t.low = eqb-true _ _ (holds_ok (eqb found.low t.low) (foot + 40) b.0 b.1) in
    let high : found.high ≡ t.high = eqb-true _ _ (holds_ok (eqb found.high t.high) (foot + 48) c.0 c.1) in
    let first : found.first ≡ t.first = eqb-true _ _ (holds_ok (eqb found.first t.first) (foot + 56) d.0 d.1) in
    let last : found.last ≡ t.last = eqb-true _ _ (holds_ok (eqb found.last t.last) (foot + 64) u d.2) in
    ap (λ (n : ℕ). made n found.low found.high found.first found.last) rows
    ∙ (ap (λ (n : ℕ). made t.rows n found.high found.first found.last) low
    ∙ (ap (λ (n : ℕ). made t.rows t.low n found.first found.last) high
    ∙ (ap (λ (n : ℕ). made t.rows t.low t.high n found.last) first
    ∙ ap (λ (n : ℕ). made t.rows t.low t.high t.first n) last)))

pub totals_again : (foot : ℕ) (t : Totals) → totals_at foot t t ≡ Ok tt
totals_again foot t = rw (eq-eqb t.rows t.rows refl, eq-eqb t.low t.low refl, eq-eqb t.high t.high refl, eq-eqb t.first t.first refl, eq-eqb t.last t.last refl) refl

pub filter_ok : (foot : ℕ) (p : Parts) (bytes wanted : List ℕ) (u : Unit {0}) → filter_at foot p bytes wanted ≡ Ok u → (p.filter_len ≡ length wanted) × (bytes ≡ wanted)
filter_ok foot p bytes wanted u e =
    let a = bind_ok (holds (eqb p.filter_len (length wanted)) (foot + 24)) (λ _. same_at p.filter bytes wanted) u e in
    (eqb-true _ _ (holds_ok (eqb p.filter_len (length wanted)) (foot + 24) a.0 a.1), same_at_ok p.filter bytes wanted u a.2)

pub filter_again : (foot : ℕ) (p : Parts) (wanted : List ℕ) → p.filter_len ≡ length wanted → filter_at foot p wanted wanted ≡ Ok tt
filter_again foot p wanted e =
    ap (λ (q : Result (Unit {0}) ℕ). q >>= λ _. same_at p.filter wanted wanted) (holds_again (eqb p.filter_len (length wanted)) (foot + 24) (eq-eqb _ _ e)) ∙ same_at_again p.filter wanted

-- ---- the parts of the bytes

pub cut_between : (from to : ℕ) (bytes : List ℕ) → from ≤ to → drop from bytes ≡ between from to bytes ++ drop to bytes
cut_between from to bytes le =
    sym (take-append-drop (to - from) (drop from bytes)) ∙ ap (λ (t : List ℕ). between from to bytes ++ t) (drop-drop (to - from) from bytes ∙ ap (λ (n : ℕ). drop n bytes) (back from to le))
  where
    back : (a b : ℕ) → a ≤ b → a + (b - a) ≡ b
    back a b h = omega (arith, h)

-- ---- what is read is so spelled

pub record FileFound (t : Totals) (listed : ℕ) (bytes : List ℕ) (blocks : List (List Record)) : Type 0 where
  pub tablet : IsTablet blocks
  pub spelled_so : bytes ≡ file_of blocks
  pub totals : totals_of (joined blocks) ≡ t
  pub listed_so : length bytes ≡ listed

abbrev parts_made : (index blocks filter filter_len : ℕ) → Parts
parts_made index blocks filter filter_len = record { index = index; blocks = blocks; filter = filter; filter_len = filter_len }

parts_same : (a b c d w x y z : ℕ) → a ≡ w → b ≡ x → c ≡ y → d ≡ z → parts_made a b c d ≡ parts_made w x y z
parts_same a b c d w x y z p q r s =
    ap (λ (n : ℕ). parts_made n b c d) p ∙ (ap (λ (n : ℕ). parts_made w n c d) q ∙ (ap (λ (n : ℕ). parts_made w x n d) r ∙ ap (λ (n : ℕ). parts_made w x y n) s))

found_file : (t : Totals) (listed foot : ℕ) (bytes : List ℕ) (p : Parts) (es : List Entry) (blocks : List (List Record)) → IsFoot listed (length bytes) foot → FooterFound t foot (drop foot bytes) p → take 8 bytes ≡ header → IndexFound p (between p.index p.filter bytes) es → BlocksFound 8 [] es (drop 8 bytes) blocks
    → totals_of (joined blocks) ≡ t → p.filter_len ≡ length (filter_of (joined blocks)) → between p.filter foot bytes ≡ filter_of (joined blocks) → FileFound t listed bytes blocks
found_file t listed foot bytes p es blocks is_foot footer headed index found sums filter_len filtered =
    let some : 0 < length es = omega (arith, index.count, footer.lie.some) in
    let last : end_of 8 es ≡ p.index = ends p.index 8 [] es some index.entries in
    let many : length es ≡ length blocks = ap length found.entries ∙ length_entries 8 blocks in
    let at_index : drop (end_of 8 es - 8) (drop 8 bytes) ≡ drop p.index bytes =
    drop-drop (end_of 8 es - 8) 8 bytes ∙ ap (λ (n : ℕ). drop n bytes) (back (end_of 8 es) p.index last footer.lie.behind_header) in
    let body : drop 8 bytes ≡ blocks_spelled blocks ++ drop p.index bytes = found.parts ∙ ap (λ (x : List ℕ). blocks_spelled blocks ++ x) at_index in
    let indexed : between p.index p.filter bytes ≡ index_spelled blocks = index.spelled_so ∙ ap (flat_map entry_spelled) found.entries in
    let body_len : 8 + length (blocks_spelled blocks) ≡ p.index = omega (arith, ap length body, length-append (blocks_spelled blocks) (drop p.index bytes), length-drop 8 bytes, length-drop p.index bytes, footer.lie.index_within, is_foot.foot_is, is_foot.long, footer.lie.behind_header) in
    let index_len : p.index + length (index_spelled blocks) ≡ p.filter = omega (arith, ap length indexed, length-take (p.filter - p.index) (drop p.index bytes), length-drop p.index bytes, footer.lie.behind_index, footer.lie.filter_within, is_foot.foot_is, is_foot.long) in
    let parts : p ≡ parts_of blocks =
    parts_same p.index p.blocks p.filter p.filter_len (8 + length (blocks_spelled blocks)) (length blocks) (8 + length (blocks_spelled blocks) + length (index_spelled blocks)) (length (filter_of (joined blocks)))
    (sym body_len) (sym index.count ∙ many) (omega (arith, body_len, index_len)) filter_len in
    let foot_so : drop foot bytes ≡ footer_spelled (parts_of blocks) (totals_of (joined blocks)) =
    footer.spelled ∙ (ap (λ (x : Parts). footer_spelled x t) parts ∙ ap (λ (x : Totals). footer_spelled (parts_of blocks) x) (sym sums)) in
    let behind : drop p.filter bytes ≡ filter_of (joined blocks) ++ footer_spelled (parts_of blocks) (totals_of (joined blocks)) =
    cut_between p.filter foot bytes footer.lie.filter_within ∙ (ap (λ (x : List ℕ). x ++ drop foot bytes) filtered ∙ ap (λ (x : List ℕ). filter_of (joined blocks) ++ x) foot_so) in
    let after : drop p.index bytes ≡ index_spelled blocks ++ (filter_of (joined blocks) ++ footer_spelled (parts_of blocks) (totals_of (joined blocks))) =
    cut_between p.index p.filter bytes (omega (arith, footer.lie.behind_index)) ∙ (ap (λ (x : List ℕ). x ++ drop p.filter bytes) indexed ∙ ap (λ (x : List ℕ). index_spelled blocks ++ x) behind) in
    record {
      tablet = record { some = omega (arith, many, some); each = found.each; rising = found.rising };
      spelled_so = sym (take-append-drop 8 bytes) ∙ (ap (λ (x : List ℕ). x ++ drop 8 bytes) headed ∙ ap (λ (x : List ℕ). header ++ x) (body ∙ ap (λ (x : List ℕ). blocks_spelled blocks ++ x) after));
      totals = sums;
      listed_so = is_foot.listed_so;
    }
  where
    back : (n m : ℕ) → n ≡ m → 8 < m → 8 + (n - 8) ≡ m
    back n m e lt = omega (arith, e, lt)

abbrev pub ending : (foot : ℕ) → Totals → List ℕ → Parts → List (List Record) → Result (List (List Record)) ℕ
ending foot t bytes p blocks = filter_at foot p (between p.filter foot bytes) (filter_of (joined blocks)) >>= λ _. Ok blocks

abbrev pub from_blocks : (foot : ℕ) → Totals → List ℕ → Parts → List (List Record) → Result (List (List Record)) ℕ
from_blocks foot t bytes p blocks = totals_at foot t (totals_of (joined blocks)) >>= λ _. ending foot t bytes p blocks

abbrev pub from_index : (foot : ℕ) → Totals → List ℕ → Parts → List Entry → Result (List (List Record)) ℕ
from_index foot t bytes p es = blocks_at t es (drop 8 bytes) >>= from_blocks foot t bytes p

abbrev pub from_header : (foot : ℕ) → Totals → List ℕ → Parts → Result (List (List Record)) ℕ
from_header foot t bytes p = index_at p (between p.index p.filter bytes) >>= from_index foot t bytes p

abbrev pub from_footer : (foot : ℕ) → Totals → List ℕ → Parts → Result (List (List Record)) ℕ
from_footer foot t bytes p = header_at bytes >>= λ _. from_header foot t bytes p

abbrev pub from_place : Totals → List ℕ → ℕ → Result (List (List Record)) ℕ
from_place t bytes foot = footer_at t foot (drop foot bytes) >>= from_footer foot t bytes

pub file_takes : (t : Totals) (listed : ℕ) (bytes : List ℕ) (blocks : List (List Record)) → IsBytes bytes → file_at t listed bytes ≡ Ok blocks → FileFound t listed bytes blocks
unfolding file_at
file_takes t listed bytes blocks fits e =
    let a = bind_ok (footer_place listed (length bytes)) (from_place t bytes) blocks e in
    let b = bind_ok (footer_at t a.0 (drop a.0 bytes)) (from_footer a.0 t bytes) blocks a.2 in
    let c = bind_ok (header_at bytes) (λ _. from_header a.0 t bytes b.0) blocks b.2 in
    let d = bind_ok (index_at b.0 (between b.0.index b.0.filter bytes)) (from_index a.0 t bytes b.0) blocks c.2 in
    let f = bind_ok (blocks_at t d.0 (drop 8 bytes)) (from_blocks a.0 t bytes b.0) blocks d.2 in
    let g = bind_ok (totals_at a.0 t (totals_of (joined f.0))) (λ _. ending a.0 t bytes b.0 f.0) blocks f.2 in
    let h = bind_ok (filter_at a.0 b.0 (between b.0.filter a.0 bytes) (filter_of (joined f.0))) (λ _. Ok f.0) blocks g.2 in
    let is_foot = place_ok listed (length bytes) a.0 a.1 in
    let footer = footer_takes t a.0 (drop a.0 bytes) b.0 (IsBytes-drop a.0 bytes fits) b.1 in
    let headed = same_bytes (take 8 bytes) header (holds_ok (pointwise nat_eq (take 8 bytes) header) 0 c.0 c.1) in
    let index = index_takes b.0 (between b.0.index b.0.filter bytes) d.0 (IsBytes-take (b.0.filter - b.0.index) (drop b.0.index bytes) (IsBytes-drop b.0.index bytes fits)) d.1 in
    let last : end_of 8 d.0 ≡ b.0.index = ends b.0.index 8 [] d.0 (omega (arith, index.count, footer.lie.some)) index.entries in
    let found = blocks_take t b.0.index 8 [] d.0 (drop 8 bytes) f.0 (IsBytes-drop 8 bytes fits) index.entries (omega (arith, last, footer.lie.index_within, is_foot.foot_is, length-drop 8 bytes, is_foot.long)) f.1 in
    let sums = totals_ok a.0 t (totals_of (joined f.0)) g.0 g.1 in
    let filtered = filter_ok a.0 b.0 (between b.0.filter a.0 bytes) (filter_of (joined f.0)) h.0 h.1 in
    subst (FileFound t listed bytes) (ok_is f.0 blocks h.2)
    (found_file t listed a.0 bytes b.0 d.0 f.0 is_foot footer headed index found sums filtered.0 filtered.1)

-- ---- what is so spelled is read

some_hash : (blocks : List (List Record)) → 0 < length blocks → AllByRecursion IsBlock blocks → 0 < length (hashes_from None (joined blocks))
some_hash [] some each = absurd (omega (arith, some))
some_hash ([] ∷ blocks) some each = absurd (omega (arith, each.0.some))
some_hash ((r ∷ recs) ∷ blocks) some each = omega arith

filter_long : (blocks : List (List Record)) → 0 < length blocks → AllByRecursion IsBlock blocks → 2 ≤ length (filter_of (joined blocks))
filter_long blocks some each = omega (arith, filter_len (hashes_from None (joined blocks)), some_hash blocks some each)

body_long : (blocks : List (List Record)) → 0 < length blocks → AllByRecursion IsBlock blocks → 32 ≤ length (blocks_spelled blocks)
body_long [] some each = absurd (omega (arith, some))
body_long (recs ∷ blocks) some each = omega (arith, length-append (spelling recs) (blocks_spelled blocks), block_len recs each.0)

entries_long : (index start : ℕ) (last : List ℕ) (es : List Entry) → 0 < length es → IsEntries index start last es → 40 ≤ length (flat_map entry_spelled es)
entries_long index start last [] some h = absurd (omega (arith, some))
entries_long index start last (e ∷ es) some h =
    omega (arith, length-append (entry_spelled e) (flat_map entry_spelled es), length-append e.first (key_spelled e.last), h.0.first.long_enough, h.0.final.long_enough)

all_blocks_len : (blocks : List (List Record)) → (length (joined blocks) ≤ length (blocks_spelled blocks)) × (AllByRecursion IsBlock blocks → length blocks ≤ length (blocks_spelled blocks))
all_blocks_len [] = (omega arith, λ each. omega arith)
all_blocks_len (recs ∷ blocks) =
    let rest = all_blocks_len blocks in
    let len = length-append (spelling recs) (blocks_spelled blocks) in
    let body = length-append (to_be_bytes w32 (length recs)) (flat_map spelled recs) in
    (omega (arith, rest.0, len, body, length-append recs (joined blocks), all_len recs), λ each. omega (arith, rest.1 each.1, len, block_len recs each.0))

pub record FileParts (blocks : List (List Record)) : Type 0 where
  pub body : 32 ≤ length (blocks_spelled blocks)
  pub index : 40 ≤ length (index_spelled blocks)
  pub filter : 2 ≤ length (filter_of (joined blocks))
  pub len : length (file_of blocks) ≡ 8 + length (blocks_spelled blocks) + length (index_spelled blocks) + length (filter_of (joined blocks)) + 88

pub file_parts : (blocks : List (List Record)) → IsTablet blocks → FileParts blocks
file_parts blocks h =
    let index = entries_are (8 + length (blocks_spelled blocks)) 8 [] blocks h.each h.rising refl in
    let foot : List ℕ = footer_spelled (parts_of blocks) (totals_of (joined blocks)) in
    let foot_len : length (footer_spelled (parts_of blocks) (totals_of (joined blocks))) ≡ 88 = refl in
    record {
      body = body_long blocks h.some h.each;
      index = entries_long (8 + length (blocks_spelled blocks)) 8 [] (entries_of 8 blocks) (omega (arith, length_entries 8 blocks, h.some)) index;
      filter = filter_long blocks h.some h.each;
      len = omega (arith, length-append (blocks_spelled blocks) (index_spelled blocks ++ (filter_of (joined blocks) ++ foot)), length-append (index_spelled blocks) (filter_of (joined blocks) ++ foot), length-append (filter_of (joined blocks)) foot, foot_len);
    }

small_totals : (recs : List Record) → length recs < 2 ^ 64 → AllByRecursion IsRecord recs → Short (footer_numbers (totals_of recs))
small_totals recs few lawful =
    let times = all_of IsRecord (λ r. r.ts < 2 ^ 64) (λ r h. h.moment) recs lawful in
    let numbers = all_of IsRecord (λ r. r.seq < 2 ^ 64) (λ r h. omega (arith, h.numbered)) recs lawful in
    (few, (least_below (λ r. r.ts) (2 ^ 64) recs (omega arith) times, (greatest_below (λ r. r.ts) (2 ^ 64) recs (omega arith) times, (least_below (λ r. r.seq) (2 ^ 64) recs (omega arith) numbers, (greatest_below (λ r. r.seq) (2 ^ 64) recs (omega arith) numbers, (omega arith, tt))))))

index_again : (p : Parts) (es : List Entry) → length es ≡ p.blocks → IsEntries p.index 8 [] es → AreSmall es → index_at p (flat_map entry_spelled es) ≡ Ok es
index_again p es count h small =
    ap (λ (n : ℕ). entries_at p.index n p.index 8 [] (flat_map entry_spelled es) >>= λ x. ended p.filter x) (sym count)
    ∙ (ap (λ (b : List ℕ). entries_at p.index (length es) p.index 8 [] b >>= λ x. ended p.filter x) (sym (append-nil (flat_map entry_spelled es)))
    ∙ ap (λ (q : Result (List Entry × List ℕ) ℕ). q >>= λ x. ended p.filter x) (entries_again p.index p.index 8 [] es [] h small))

pub file_again : (blocks : List (List Record)) → IsTablet blocks → length (file_of blocks) < 2 ^ 64 → file_at (totals_of (joined blocks)) (length (file_of blocks)) (file_of blocks) ≡ Ok blocks
unfolding file_at
file_again blocks h small =
    let parts = file_parts blocks h in
    let s : List ℕ = blocks_spelled blocks in
    let i : List ℕ = index_spelled blocks in
    let w : List ℕ = filter_of (joined blocks) in
    let t : Totals = totals_of (joined blocks) in
    let p : Parts = parts_of blocks in
    let g : List ℕ = footer_spelled (parts_of blocks) (totals_of (joined blocks)) in
    let f : List ℕ = file_of blocks in
    let foot : ℕ = 8 + length (blocks_spelled blocks) + length (index_spelled blocks) + length (filter_of (joined blocks)) in
    let foot_is : length (file_of blocks) - 88 ≡ foot = omega (arith, parts.len) in
    let place : footer_place (length (file_of blocks)) (length (file_of blocks)) ≡ Ok foot = place_again (length (file_of blocks)) (omega (arith, parts.len, parts.body, parts.index, parts.filter)) ∙ ap done foot_is in
    let body : drop (8 + length s) f ≡ i ++ (w ++ g) = drop_at (header ++ s) (i ++ (w ++ g)) (8 + length s) (length-append header s) in
    let after : drop (8 + length s + length i) f ≡ w ++ g = sym (drop-drop (length i) (8 + length s) f) ∙ (ap (drop (length i)) body ∙ drop_at i (w ++ g) (length i) refl) in
    let end : drop foot f ≡ g = sym (drop-drop (length w) (8 + length s + length i) f) ∙ (ap (drop (length w)) after ∙ drop_at w g (length w) refl) in
    let lie : Lie foot p = record {
      behind_header = omega (arith, parts.body);
      index_within = omega arith;
      some = h.some;
      behind_index = omega (arith, parts.index);
      filter_within = omega arith;
      filter_len = omega arith;
    } in
    let counts = all_blocks_len blocks in
    let footer : footer_at t foot (drop foot f) ≡ Ok p = ap (footer_at t foot) end ∙ footer_again t foot p lie (omega (arith, small, parts.len)) (omega (arith, small, parts.len, counts.1 h.each)) (small_totals (joined blocks) (omega (arith, small, parts.len, counts.0)) (all_lawful blocks h.each)) in
    let indexed : between p.index p.filter f ≡ i = ap (take (8 + length s + length i - (8 + length s))) body ∙ take_at i (w ++ g) (8 + length s + length i - (8 + length s)) (omega arith) in
    let index : index_at p (between p.index p.filter f) ≡ Ok (entries_of 8 blocks) =
    ap (index_at p) indexed ∙ index_again p (entries_of 8 blocks) (length_entries 8 blocks) (entries_are (8 + length s) 8 [] blocks h.each h.rising refl) (entries_small 8 blocks h.each (omega (arith, small, parts.len))) in
    let read : blocks_at t (entries_of 8 blocks) (drop 8 f) ≡ Ok blocks = blocks_again t 8 blocks (i ++ (w ++ g)) h.each (all_within (joined blocks)) in
    let filtered : between p.filter foot f ≡ w = ap (take (foot - (8 + length s + length i))) after ∙ take_at w g (foot - (8 + length s + length i)) (omega arith) in
    let last : filter_at foot p (between p.filter foot f) w ≡ Ok tt = ap (λ (x : List ℕ). filter_at foot p x w) filtered ∙ filter_again foot p w refl in
    ap (λ (q : Result ℕ ℕ). q >>= from_place t f) place
    ∙ (ap (λ (q : Result Parts ℕ). q >>= from_footer foot t f) footer
    ∙ (ap (λ (q : Result (Unit {0}) ℕ). q >>= λ _. from_header foot t f p) (holds_again (pointwise nat_eq (take 8 f) header) 0 (bytes_same header))
    ∙ (ap (λ (q : Result (List Entry) ℕ). q >>= from_index foot t f p) index
    ∙ (ap (λ (q : Result (List (List Record)) ℕ). q >>= from_blocks foot t f p) read
    ∙ (ap (λ (q : Result (Unit {0}) ℕ). q >>= λ _. ending foot t f p blocks) (totals_again foot t)
    ∙ ap (λ (q : Result (Unit {0}) ℕ). q >>= λ _. Ok blocks) last)))))
