-- A file that is being written, step by step.
use Rattle.std.proofs.Common.{◌≡◌, ℕ, ◌+◌, ◌^◌, ◌<◌, ◌≤◌, Bool, true, false, cond, eqb, List, [], ◌∷◌, ◌++◌, length, Result, Ok, Err, refl, sym, ap, subst, ◌∙◌, append_assoc, arith}
use Rattle.std.specs.Prelude.{Option, Some, None, fold, min}
use Rattle.std.proofs.lemmas.Bool.{ne_eqb}
use Rattle.std.specs.List.{flat_map, AllByRecursion}
use Rattle.std.proofs.lemmas.List.{append-nil, length-append}
use Rattle.lt_rec.specs.Bytes.{is_less}
use Rattle.lt_rec.specs.Periods.{Stretch, InPeriod}
use Rattle.lt_rec.specs.Record.{Record, IsRecord}
use Rattle.lt_rec.specs.Records.{joined}
use Rattle.lt_rec.specs.declared.listed.Listed.{Listed}
use Rattle.lt_bloom.specs.Filter.{filter_bytes}
use Rattle.lt_block.specs.Spelling.{spelling, Rises, IsBlock, last_key}
use Rattle.lt_tablet.specs.declared.errors.WriteError.{WriteError}
use Rattle.lt_layout.specs.Spelling.{Entry, Totals, Parts, IsTablet, header, first_key, entry_of, entries_of, end_of, entry_spelled, blocks_spelled, index_spelled, filter_of, footer_spelled, parts_of, totals_of, file_of, listed_totals}
use Rattle.lt_layout.specs.Entries.{IsEntries}
use Rattle.lt_layout.specs.Reading.{file_at}
use Rattle.lt_layout.specs.Surveying.{Found, found_in, last_of}
use Rattle.lt_tablet.specs.Loaded.{Loaded, IsLoaded, ok_or_no_blocks}
use Rattle.lt_tablet.specs.Writing.{Writing, IsCut, Keeps, Filled, Wrote, IsListing, HasRecords}
use Rattle.lt_layout.proofs.Blocks.{length_entries, end_of_blocks, entries_are, last_of_some}
use Rattle.lt_layout.proofs.Sums.{all_join, rises_join, all_of, least_below, greatest_below, greatest_high}
use Rattle.lt_tablet.proofs.SoFar.{joined_push}
use Rattle.lt_tablet.proofs.Places.{told_from}
use Rattle.lt_layout.proofs.Whole.{file_parts, file_again}

-- ---- one more block

spelled_push : (blocks : List (List Record)) (own : List Record) → blocks_spelled (blocks ++ own ∷ []) ≡ blocks_spelled blocks ++ spelling own
spelled_push [] own = append-nil (spelling own)
spelled_push (b ∷ blocks) own = ap (λ (xs : List ℕ). spelling b ++ xs) (spelled_push blocks own) ∙ sym (append_assoc (spelling b) (blocks_spelled blocks) (spelling own))

entries_push : (at : ℕ) (blocks : List (List Record)) (own : List Record) → entries_of at (blocks ++ own ∷ []) ≡ entries_of at blocks ++ entry_of (at + length (blocks_spelled blocks)) own ∷ []
entries_push at [] own = let same : at ≡ at + 0 = omega arith in ap (λ (n : ℕ). entry_of n own ∷ []) same
entries_push at (b ∷ blocks) own =
    let there : at + length (spelling b) + length (blocks_spelled blocks) ≡ at + length (spelling b ++ blocks_spelled blocks) = omega (arith, length-append (spelling b) (blocks_spelled blocks)) in
    ap (λ (es : List Entry). entry_of at b ∷ es) (entries_push (at + length (spelling b)) blocks own ∙ ap (λ (n : ℕ). entries_of (at + length (spelling b)) blocks ++ entry_of n own ∷ []) there)

all_push : (blocks : List (List Record)) (own : List Record) → AllByRecursion IsBlock blocks → IsBlock own → AllByRecursion IsBlock (blocks ++ own ∷ [])
all_push [] own h k = (k, tt)
all_push (b ∷ blocks) own h k = (h.0, all_push blocks own h.1 k)

last_push : (last : List ℕ) (recs : List Record) (r : Record) → last_key last (recs ++ r ∷ []) ≡ r.key
last_push last [] r = refl
last_push last (x ∷ recs) r = last_push x.key recs r

last_append : (last : List ℕ) (xs ys : List Record) → last_key last (xs ++ ys) ≡ last_key (last_key last xs) ys
last_append last [] ys = refl
last_append last (x ∷ xs) ys = last_append x.key xs ys

last_filling : (blocks : List (List Record)) (filling : List Record) → 0 < length filling → last_key [] (joined blocks ++ filling) ≡ last_key [] filling
last_filling blocks filling some = last_append [] (joined blocks) filling ∙ last_of_some (last_key [] (joined blocks)) [] filling some

-- ---- the steps

pub cut_new : (honest : Bool) (w : Writing) → w.pen ≡ w.number → w.index ≡ [] → w.offset ≡ 8 → w.filling ≡ [] → w.found ≡ found_in [] → w.last ≡ [] → (honest ≡ true → w.bytes ≡ header) → IsCut honest w [] []
cut_new honest w pen index offset filling found last bytes = record {
  pen_is = pen;
  parts = sym filling;
  each = tt;
  lawful = tt;
  rising = tt;
  timed = tt;
  index_is = index;
  offset_is = offset;
  found_is = found;
  first_is = λ some. absurd (omega (arith, some, ap length filling));
  last_is = last;
  bytes_are = λ h. bytes h ∙ sym (append-nil header);
}

first_push : (filling : List Record) (r : Record) → 0 < length filling → first_key (filling ++ r ∷ []) ≡ first_key filling
first_push [] r some = absurd (omega (arith, some))
first_push (x ∷ filling) r some = refl

either_first : (filling : List Record) (r : Record) (old new : List ℕ) → (0 < length filling → old ≡ first_key filling) → (length filling ≡ 0 → new ≡ r.key) → (0 < length filling → new ≡ old) → new ≡ first_key (filling ++ r ∷ [])
either_first [] r old new h none some = none refl
either_first (x ∷ filling) r old new h none some = some (omega arith) ∙ h (omega arith)

pub cut_added : (honest : Bool) (old new : Writing) (blocks : List (List Record)) (recs : List Record) (r : Record) → IsCut honest old blocks recs → Keeps old new → IsRecord r → is_less old.last r.key ≡ true → InPeriod old.period r.ts → new.filling ≡ old.filling ++ r ∷ [] → new.found ≡ found_in (recs ++ r ∷ []) → new.last ≡ r.key
    → (length old.filling ≡ 0 → new.first ≡ r.key) → (0 < length old.filling → new.first ≡ old.first) → IsCut honest new blocks (recs ++ r ∷ [])
cut_added honest old new blocks recs r h keeps lawful above timed filling found last none some = record {
  pen_is = keeps.pen ∙ (h.pen_is ∙ sym keeps.number);
  parts = ap (λ (xs : List Record). xs ++ r ∷ []) h.parts ∙ (append_assoc (joined blocks) old.filling (r ∷ []) ∙ ap (λ (xs : List Record). joined blocks ++ xs) (sym filling));
  each = h.each;
  lawful = all_join IsRecord recs (r ∷ []) h.lawful (lawful, tt);
  rising = rises_join [] recs (r ∷ []) h.rising (ap (λ (k : List ℕ). is_less k r.key) (sym h.last_is) ∙ above, tt);
  timed = subst (λ (p : Stretch). AllByRecursion (λ x. InPeriod p x.ts) (recs ++ r ∷ [])) (sym keeps.period) (all_join (λ x. InPeriod old.period x.ts) recs (r ∷ []) h.timed (timed, tt));
  index_is = keeps.index ∙ h.index_is;
  offset_is = keeps.offset ∙ h.offset_is;
  found_is = found;
  first_is = λ _. either_first old.filling r old.first new.first h.first_is none some ∙ ap first_key (sym filling);
  last_is = last ∙ sym (last_push [] recs r);
  bytes_are = λ t. keeps.bytes ∙ h.bytes_are t;
}

-- what stays where a block is put
pub record Puts (honest : Bool) (old new : Writing) (e : Entry) : Type 0 where
  pub pen : new.pen ≡ old.pen
  pub number : new.number ≡ old.number
  pub period : new.period ≡ old.period
  pub index : new.index ≡ old.index ++ e ∷ []
  pub offset : new.offset ≡ old.offset + length (spelling old.filling)
  pub filling : new.filling ≡ []
  pub found : new.found ≡ old.found
  pub last : new.last ≡ old.last
  pub bytes : honest ≡ true → new.bytes ≡ old.bytes ++ spelling old.filling

abbrev made : (offset len count : ℕ) → (first last : List ℕ) → Entry
made offset len count first last = record { offset = offset; len = len; count = count; first = first; last = last }

pub cut_put : (honest : Bool) (old new : Writing) (blocks : List (List Record)) (recs : List Record) → IsCut honest old blocks recs → IsBlock old.filling → Puts honest old new (made old.offset (length (spelling old.filling)) (length old.filling) old.first old.last) → IsCut honest new (blocks ++ old.filling ∷ []) recs
cut_put honest old new blocks recs h block puts =
    let last : old.last ≡ last_key [] old.filling = h.last_is ∙ (ap (last_key []) h.parts ∙ last_filling blocks old.filling block.some) in
    record {
      pen_is = puts.pen ∙ (h.pen_is ∙ sym puts.number);
      parts = h.parts ∙ (sym (joined_push blocks old.filling) ∙ (sym (append-nil (joined (blocks ++ old.filling ∷ []))) ∙ ap (λ (xs : List Record). joined (blocks ++ old.filling ∷ []) ++ xs) (sym puts.filling)));
      each = all_push blocks old.filling h.each block;
      lawful = h.lawful;
      rising = h.rising;
      timed = subst (λ (p : Stretch). AllByRecursion (λ x. InPeriod p x.ts) recs) (sym puts.period) h.timed;
      index_is = puts.index
          ∙ (ap (λ (es : List Entry). es ++ made old.offset (length (spelling old.filling)) (length old.filling) old.first old.last ∷ []) h.index_is
          ∙ (ap (λ (n : ℕ). entries_of 8 blocks ++ made n (length (spelling old.filling)) (length old.filling) old.first old.last ∷ []) h.offset_is
          ∙ (ap (λ (k : List ℕ). entries_of 8 blocks ++ made (8 + length (blocks_spelled blocks)) (length (spelling old.filling)) (length old.filling) k old.last ∷ []) (h.first_is block.some)
          ∙ (ap (λ (k : List ℕ). entries_of 8 blocks ++ made (8 + length (blocks_spelled blocks)) (length (spelling old.filling)) (length old.filling) (first_key old.filling) k ∷ []) last
          ∙ sym (entries_push 8 blocks old.filling)))));
      offset_is = omega (arith, puts.offset, h.offset_is, ap length (spelled_push blocks old.filling), length-append (blocks_spelled blocks) (spelling old.filling));
      found_is = puts.found ∙ h.found_is;
      first_is = λ some. absurd (omega (arith, some, ap length puts.filling));
      last_is = puts.last ∙ h.last_is;
      bytes_are = λ t. puts.bytes t ∙ (ap (λ (xs : List ℕ). xs ++ spelling old.filling) (h.bytes_are t) ∙ (append_assoc header (blocks_spelled blocks) (spelling old.filling) ∙ ap (λ (xs : List ℕ). header ++ xs) (sym (spelled_push blocks old.filling))));
    }

-- ---- what the calls make of it

last_is_of : (recs : List Record) → AllByRecursion IsRecord recs → last_of recs ≡ cond (eqb (length (last_key [] recs)) 0) None (Some (last_key [] recs))
last_is_of [] h = refl
last_is_of (r ∷ []) h =
    let test : eqb (length r.key) 0 ≡ false = ne_eqb (length r.key) 0 (λ (e : length r.key ≡ 0). omega (arith, e, h.0.long_enough)) in
    sym (ap (λ (b : Bool). cond b None (Some r.key)) test)
last_is_of (r ∷ (s ∷ recs)) h = last_is_of (s ∷ recs) h.1

pub before_is : (recs : List Record) (last : List ℕ) (before : Option (List ℕ)) → AllByRecursion IsRecord recs → last ≡ last_key [] recs → before ≡ cond (eqb (length last) 0) None (Some last) → before ≡ last_of recs
before_is recs last before lawful same h = h ∙ (ap (λ (k : List ℕ). cond (eqb (length k) 0) None (Some k)) same ∙ sym (last_is_of recs lawful))

less_nil : (a : List ℕ) → 0 < length a → is_less [] a ≡ true
less_nil [] some = absurd (omega (arith, some))
less_nil (x ∷ a) some = refl

-- the key may follow in the block that fills
pub room_above : (honest : Bool) (w : Writing) (recs : List Record) (r : Record) → Wrote honest w recs → IsRecord r → is_less w.last r.key ≡ true → is_less (last_key [] w.filling) r.key ≡ true
room_above honest w recs r h lawful above = by w.filling refl
  where
    by : (filling : List Record) → w.filling ≡ filling → is_less (last_key [] filling) r.key ≡ true
    by [] e = less_nil r.key (omega (arith, lawful.long_enough))
    by (x ∷ xs) e =
        let last : w.last ≡ last_key [] (x ∷ xs) = h.cut.last_is ∙ (ap (last_key []) h.cut.parts ∙ (ap (λ (f : List Record). last_key [] (joined h.blocks ++ f)) e ∙ last_filling h.blocks (x ∷ xs) (omega arith))) in
        ap (λ (k : List ℕ). is_less k r.key) (sym last) ∙ above

pub filled_full : (honest : Bool) (w mid new : Writing) (blocks : List (List Record)) (recs : List Record) (r : Record) → IsCut honest mid blocks recs → mid.filling ≡ [] → Keeps mid new → new.filling ≡ r ∷ [] → new.found ≡ mid.found → new.first ≡ mid.first → new.last ≡ mid.last → Filled honest new recs r
filled_full honest w mid new blocks recs r cut empty keeps filling found first last = record {
  blocks = blocks;
  old = mid;
  cut = cut;
  keeps = keeps;
  filling = filling ∙ ap (λ (xs : List Record). xs ++ r ∷ []) (sym empty);
  found = found;
  first = first;
  last = last;
}

keeps_then : (a b c : Writing) → Keeps a b → Keeps b c → Keeps a c
keeps_then a b c h k = record {
  pen = k.pen ∙ h.pen;
  number = k.number ∙ h.number;
  period = k.period ∙ h.period;
  index = k.index ∙ h.index;
  offset = k.offset ∙ h.offset;
  bytes = k.bytes ∙ h.bytes;
}

-- what is noted of a record
pub record Noted (old new : Writing) (r : Record) : Type 0 where
  pub found : (recs : List Record) → AllByRecursion IsRecord recs → old.last ≡ last_key [] recs → old.found ≡ found_in recs → new.found ≡ found_in (recs ++ r ∷ [])
  pub last : new.last ≡ r.key
  pub first : length old.filling ≡ 1 → new.first ≡ r.key
  pub same_first : (length old.filling ≡ 1 → ⊥) → new.first ≡ old.first
  pub filling : new.filling ≡ old.filling
  pub keeps : Keeps old new

pub added_from : (honest : Bool) (self fill note : Writing) (recs : List Record) (r : Record) → Wrote honest self recs → Filled honest fill recs r → fill.period ≡ self.period → Noted fill note r → IsRecord r → is_less self.last r.key ≡ true → InPeriod self.period r.ts → Wrote honest note (recs ++ r ∷ [])
added_from honest self fill note recs r wrote f period n lawful above timed =
    let last : f.old.last ≡ self.last = f.cut.last_is ∙ sym wrote.cut.last_is in
    let periods : f.old.period ≡ self.period = sym f.keeps.period ∙ period in
    let one : length fill.filling ≡ length f.old.filling + 1 = omega (arith, ap length f.filling, length-append f.old.filling (r ∷ [])) in
    record {
      blocks = f.blocks;
      cut = cut_added honest f.old note f.blocks recs r f.cut (keeps_then f.old fill note f.keeps n.keeps) lawful (ap (λ (k : List ℕ). is_less k r.key) last ∙ above) (subst (λ (p : Stretch). InPeriod p r.ts) (sym periods) timed)
          (n.filling ∙ f.filling) (n.found recs f.cut.lawful (f.last ∙ f.cut.last_is) (f.found ∙ f.cut.found_is)) n.last
          (λ none. n.first (omega (arith, one, none))) (λ some. n.same_first (λ (e : length fill.filling ≡ 1). omega (arith, one, e, some)) ∙ f.first);
      fills = λ some. omega (arith, ap length n.filling, one);
    }

-- ---- the end

abbrev pub filter_of_hashes : Writing → List ℕ
filter_of_hashes w = filter_bytes w.found.hashes

-- what the file's parts are, once its last block went out
pub record Closes (honest : Bool) (w : Writing) (listed : Listed) (filter bytes : List ℕ) (number size : ℕ) : Type 0 where
  pub filling : w.filling ≡ []
  pub some : 0 < w.found.totals.rows
  pub totals : listed_totals listed ≡ w.found.totals
  pub number_is : number ≡ listed.file
  pub size_is : size ≡ listed.bytes
  pub in_range : size < 2 ^ 64
  pub length_is : listed.bytes ≡ w.offset + length (flat_map entry_spelled w.index) + length filter + 88
  pub filter_is : filter ≡ filter_of_hashes w
  pub bytes_are : honest ≡ true → bytes ≡ ((w.bytes ++ flat_map entry_spelled w.index) ++ filter) ++ footer_spelled (record { index = w.offset; blocks = length w.index; filter = w.offset + length (flat_map entry_spelled w.index); filter_len = length filter }) w.found.totals

abbrev pub wanted : Writing → List ℕ → Parts
wanted w filter = record { index = w.offset; blocks = length w.index; filter = w.offset + length (flat_map entry_spelled w.index); filter_len = length filter }

abbrev parts_made : (index blocks filter filter_len : ℕ) → Parts
parts_made index blocks filter filter_len = record { index = index; blocks = blocks; filter = filter; filter_len = filter_len }

pub parts_same : (a b c d i j k l : ℕ) → a ≡ i → b ≡ j → c ≡ k → d ≡ l → parts_made a b c d ≡ parts_made i j k l
parts_same a b c d i j k l p q r s = ap (λ (n : ℕ). parts_made n b c d) p ∙ (ap (λ (n : ℕ). parts_made i n c d) q ∙ (ap (λ (n : ℕ). parts_made i j n d) r ∙ ap (parts_made i j k) s))

some_blocks : (blocks : List (List Record)) → 0 < length (joined blocks) → 0 < length blocks
some_blocks [] some = some
some_blocks (b ∷ blocks) some = omega arith

-- all records went out in blocks
pub record Whole (w : Writing) (blocks : List (List Record)) (recs : List Record) : Type 0 where
  pub recs_are : recs ≡ joined blocks
  pub tablet : IsTablet blocks

pub all_out : (honest : Bool) (w : Writing) (blocks : List (List Record)) (recs : List Record) → IsCut honest w blocks recs → w.filling ≡ [] → 0 < w.found.totals.rows → Whole w blocks recs
all_out honest w blocks recs h none some =
    let recs_are : recs ≡ joined blocks = h.parts ∙ (ap (λ (xs : List Record). joined blocks ++ xs) none ∙ append-nil (joined blocks)) in
    let rows : w.found.totals.rows ≡ length recs = ap (λ (f : Found). f.totals.rows) h.found_is in
    record {
      recs_are = recs_are;
      tablet = record { some = some_blocks blocks (omega (arith, some, rows, ap length recs_are)); each = h.each; rising = subst (Rises []) recs_are h.rising };
    }

joined_up : (a b c d e x y z : List ℕ) → x ≡ a ++ (b ++ c) → y ≡ d → z ≡ e → (x ++ y) ++ z ≡ a ++ (b ++ (c ++ (d ++ e)))
joined_up a b c d e x y z p q r =
    ap (λ (s : List ℕ). (s ++ y) ++ z) p
    ∙ (ap (λ (s : List ℕ). ((a ++ (b ++ c)) ++ s) ++ z) q
    ∙ (ap (λ (s : List ℕ). ((a ++ (b ++ c)) ++ d) ++ s) r
    ∙ (append_assoc (a ++ (b ++ c)) d e
    ∙ (append_assoc a (b ++ c) (d ++ e)
    ∙ ap (λ (s : List ℕ). a ++ s) (append_assoc b c (d ++ e))))))

pub closed_spelled : (honest : Bool) (w : Writing) (listed : Listed) (filter bytes : List ℕ) (number size : ℕ) (blocks : List (List Record)) (recs : List Record) → IsCut honest w blocks recs → Closes honest w listed filter bytes number size → honest ≡ true → bytes ≡ file_of blocks
closed_spelled honest w listed filter bytes number size blocks recs h c is_honest =
    let whole = all_out honest w blocks recs h c.filling c.some in
    let found : w.found ≡ found_in (joined blocks) = h.found_is ∙ ap found_in whole.recs_are in
    let filter_so : filter ≡ filter_of (joined blocks) = c.filter_is ∙ ap (λ (f : Found). filter_bytes f.hashes) found in
    let index_so : flat_map entry_spelled w.index ≡ index_spelled blocks = ap (flat_map entry_spelled) h.index_is in
    let foot : footer_spelled (wanted w filter) w.found.totals ≡ footer_spelled (parts_of blocks) (totals_of (joined blocks)) =
    ap (λ (p : Parts). footer_spelled p w.found.totals) (parts_same w.offset (length w.index) (w.offset + length (flat_map entry_spelled w.index)) (length filter) (8 + length (blocks_spelled blocks)) (length blocks) (8 + length (blocks_spelled blocks) + length (index_spelled blocks)) (length (filter_of (joined blocks)))
    h.offset_is (ap length h.index_is ∙ length_entries 8 blocks) (omega (arith, h.offset_is, ap length index_so)) (ap length filter_so))
    ∙ ap (λ (f : Found). footer_spelled (parts_of blocks) f.totals) found in
    let front : w.bytes ++ flat_map entry_spelled w.index ≡ header ++ (blocks_spelled blocks ++ index_spelled blocks) =
    ap (λ (x : List ℕ). x ++ flat_map entry_spelled w.index) (h.bytes_are is_honest) ∙ (append_assoc header (blocks_spelled blocks) (flat_map entry_spelled w.index) ∙ ap (λ (x : List ℕ). header ++ (blocks_spelled blocks ++ x)) index_so) in
    c.bytes_are is_honest ∙ joined_up header (blocks_spelled blocks) (index_spelled blocks) (filter_of (joined blocks)) (footer_spelled (parts_of blocks) (totals_of (joined blocks))) (w.bytes ++ flat_map entry_spelled w.index) filter (footer_spelled (wanted w filter) w.found.totals) front filter_so foot

closed_totals : (honest : Bool) (w : Writing) (listed : Listed) (filter bytes : List ℕ) (number size : ℕ) (blocks : List (List Record)) (recs : List Record) → IsCut honest w blocks recs → Closes honest w listed filter bytes number size → totals_of (joined blocks) ≡ listed_totals listed
closed_totals honest w listed filter bytes number size blocks recs h c =
    let whole = all_out honest w blocks recs h c.filling c.some in
    let found : w.found ≡ found_in (joined blocks) = h.found_is ∙ ap found_in whole.recs_are in
    sym (c.totals ∙ ap (λ (f : Found). f.totals) found)

closed_long : (honest : Bool) (w : Writing) (listed : Listed) (filter bytes : List ℕ) (number size : ℕ) (blocks : List (List Record)) (recs : List Record) → IsCut honest w blocks recs → Closes honest w listed filter bytes number size → length (file_of blocks) ≡ listed.bytes
closed_long honest w listed filter bytes number size blocks recs h c =
    let whole = all_out honest w blocks recs h c.filling c.some in
    let found : w.found ≡ found_in (joined blocks) = h.found_is ∙ ap found_in whole.recs_are in
    let filter_so : filter ≡ filter_of (joined blocks) = c.filter_is ∙ ap (λ (f : Found). filter_bytes f.hashes) found in
    let index_so : flat_map entry_spelled w.index ≡ index_spelled blocks = ap (flat_map entry_spelled) h.index_is in
    let parts = file_parts blocks whole.tablet in
    omega (arith, parts.len, c.length_is, h.offset_is, ap length index_so, ap length filter_so)

closed_read : (honest : Bool) (w : Writing) (listed : Listed) (filter bytes : List ℕ) (number size : ℕ) (blocks : List (List Record)) (recs : List Record) → IsCut honest w blocks recs → Closes honest w listed filter bytes number size → honest ≡ true → file_at (listed_totals listed) listed.bytes bytes ≡ Ok blocks
closed_read honest w listed filter bytes number size blocks recs h c is_honest =
    let whole = all_out honest w blocks recs h c.filling c.some in
    let long = closed_long honest w listed filter bytes number size blocks recs h c in
    ap (λ (s : Totals). file_at s listed.bytes bytes) (sym (closed_totals honest w listed filter bytes number size blocks recs h c))
    ∙ (ap (λ (n : ℕ). file_at (totals_of (joined blocks)) n bytes) (sym long)
    ∙ (ap (file_at (totals_of (joined blocks)) (length (file_of blocks))) (closed_spelled honest w listed filter bytes number size blocks recs h c is_honest)
    ∙ file_again blocks whole.tablet (omega (arith, long, c.size_is, c.in_range))))

pub closed : (honest : Bool) (w : Writing) (listed : Listed) (filter bytes : List ℕ) (number size : ℕ) (blocks : List (List Record)) (recs : List Record) → IsCut honest w blocks recs → Closes honest w listed filter bytes number size → IsLoaded honest number size (record { listed = listed; index = w.index; filter = filter; bytes = bytes })
closed honest w listed filter bytes number size blocks recs h c =
    let whole = all_out honest w blocks recs h c.filling c.some in
    let t : Loaded = record { listed = listed; index = w.index; filter = filter; bytes = bytes } in
    let found : w.found ≡ found_in (joined blocks) = h.found_is ∙ ap found_in whole.recs_are in
    let filter_so : filter ≡ filter_of (joined blocks) = c.filter_is ∙ ap (λ (f : Found). filter_bytes f.hashes) found in
    let end : end_of 8 w.index ≡ 8 + length (blocks_spelled blocks) = ap (end_of 8) h.index_is ∙ end_of_blocks 8 blocks in
    let entries : IsEntries (8 + length (blocks_spelled blocks)) 8 [] (entries_of 8 blocks) = entries_are (8 + length (blocks_spelled blocks)) 8 [] blocks h.each whole.tablet.rising refl in
    record {
      number_is = c.number_is;
      size_is = c.size_is;
      in_range = c.in_range;
      some = omega (arith, ap length h.index_is, length_entries 8 blocks, whole.tablet.some);
      entries = subst (λ (n : ℕ). IsEntries n 8 [] w.index) (sym end) (subst (IsEntries (8 + length (blocks_spelled blocks)) 8 []) (sym h.index_is) entries);
      within = omega (arith, end, c.size_is, c.length_is, h.offset_is);
      file = λ is_honest. told_from t blocks (closed_read honest w listed filter bytes number size blocks recs h c is_honest) whole.tablet (closed_spelled honest w listed filter bytes number size blocks recs h c is_honest) (closed_totals honest w listed filter bytes number size blocks recs h c) h.index_is filter_so;
    }

pub closed_records : (honest : Bool) (w : Writing) (listed : Listed) (filter bytes : List ℕ) (number size : ℕ) (blocks : List (List Record)) (recs : List Record) → IsCut honest w blocks recs → Closes honest w listed filter bytes number size → HasRecords honest (record { listed = listed; index = w.index; filter = filter; bytes = bytes }) recs
closed_records honest w listed filter bytes number size blocks recs h c =
    let whole = all_out honest w blocks recs h c.filling c.some in
    record {
      totals = c.totals ∙ ap (λ (f : Found). f.totals) h.found_is;
      file = λ is_honest. ap (λ q. joined (ok_or_no_blocks q)) (closed_read honest w listed filter bytes number size blocks recs h c is_honest) ∙ sym whole.recs_are;
    }

-- ---- the listing's bounds lie in the period

stays_above : (f : Record → ℕ) (start a : ℕ) (xs : List Record) → start ≤ a → AllByRecursion (λ r. start ≤ f r) xs → start ≤ fold (λ n x. min n (f x)) a xs
stays_above f start a [] le h = le
stays_above f start a (x ∷ xs) le h = stays_above f start (min a (f x)) xs (omega (arith, le, h.0)) h.1

least_in : (p : Stretch) (recs : List Record) → 0 < length recs → AllByRecursion (λ r. InPeriod p r.ts) recs → InPeriod p (totals_of recs).low
least_in p [] some h = absurd (omega (arith, some))
least_in p (r ∷ recs) some h = record {
  begun = stays_above (λ x. x.ts) p.start r.ts recs h.0.begun (all_of (λ x. InPeriod p x.ts) (λ x. p.start ≤ x.ts) (λ x k. k.begun) recs h.1);
  not_over = least_below (λ x. x.ts) (p.start + p.len) (r ∷ recs) (omega (arith, h.0.not_over)) (all_of (λ x. InPeriod p x.ts) (λ x. x.ts < p.start + p.len) (λ x k. k.not_over) (r ∷ recs) h);
}

greatest_in : (p : Stretch) (recs : List Record) → 0 < length recs → AllByRecursion (λ r. InPeriod p r.ts) recs → InPeriod p (totals_of recs).high
greatest_in p [] some h = absurd (omega (arith, some))
greatest_in p (r ∷ recs) some h = record {
  begun = omega (arith, h.0.begun, (greatest_high (λ x. x.ts) (r ∷ recs)).0);
  not_over = greatest_below (λ x. x.ts) (p.start + p.len) (r ∷ recs) (omega (arith, h.0.not_over)) (all_of (λ x. InPeriod p x.ts) (λ x. x.ts < p.start + p.len) (λ x k. k.not_over) (r ∷ recs) h);
}

pub closed_listing : (honest : Bool) (w : Writing) (listed : Listed) (blocks : List (List Record)) (recs : List Record) → IsCut honest w blocks recs → 0 < w.found.totals.rows → listed_totals listed ≡ w.found.totals → listed.file ≡ w.number → listed.period ≡ w.period → IsListing listed w.number w.period
closed_listing honest w listed blocks recs h some totals file period =
    let found : listed_totals listed ≡ totals_of recs = totals ∙ ap (λ (f : Found). f.totals) h.found_is in
    let rows : 0 < length recs = omega (arith, some, ap (λ (f : Found). f.totals.rows) h.found_is) in
    record {
      number_is = file;
      period_is = period;
      low_is = subst (λ (t : Totals). InPeriod w.period t.low) (sym found) (least_in w.period recs rows h.timed);
      high_is = subst (λ (t : Totals). InPeriod w.period t.high) (sym found) (greatest_in w.period recs rows h.timed);
    }

-- ---- refusals

abbrev write_failed : {A : Type 0} → WriteError → Result A WriteError
write_failed why = Err why

pub write_err : {A B : Type 0} (x y : WriteError) → write_failed {A = A} x ≡ write_failed {A = A} y → write_failed {A = B} x ≡ write_failed {A = B} y
write_err x y e = let same : x ≡ y = cc in ap write_failed same
