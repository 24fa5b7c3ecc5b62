-- Blocks by their place in the index.
use Rattle.std.proofs.Common.{◌≡◌, ℕ, zero, suc, ◌+◌, ◌<◌, Bool, true, List, [], ◌∷◌, ◌++◌, length, get_or, drop, Result, Ok, Err, refl, sym, ap, subst, ◌∙◌, arith}
use Rattle.std.specs.Prelude.{slice_get, Option, Some, None, IfOk, IfErr}
use Rattle.lt_rec.specs.Record.{Record}
use Rattle.lt_rec.specs.Records.{joined}
use Rattle.lt_rec.specs.declared.fault.FormatError.{FormatError}
use Rattle.lt_rec.specs.declared.fault.FormatError.TheVariants as block_errors
use Rattle.lt_rec.specs.Reading.{Gives}
use Rattle.lt_rec.proofs.Reading.{bind_ok, ok_is}
use Rattle.lt_tablet.specs.declared.errors.ReadError.{ReadError}
use Rattle.lt_tablet.specs.declared.errors.ReadError.TheVariants as read_errors
use Rattle.lt_layout.specs.Spelling.{Entry, Totals, end_of, entries_of, index_spelled, filter_of, footer_spelled, parts_of, totals_of, file_of, IsTablet, listed_totals}
use Rattle.lt_layout.specs.Entries.{IsEntries}
use Rattle.lt_layout.specs.Reading.{moved, blocks_at, file_at}
use Rattle.lt_layout.specs.Surveying.{IsWithin}
use Rattle.std.proofs.lemmas.Option.{slice_get_read}
use Rattle.lt_tablet.specs.Loaded.{Loaded, IsTold, IsLoaded, blocks_in, ok_or_no_blocks}
use Rattle.lt_tablet.specs.Causes.{IsNoBad, Loads}
use Rattle.lt_layout.proofs.Blocks.{blocks_again, moved_ok, end_later}
use Rattle.lt_layout.proofs.Sums.{all_within}
use Rattle.lt_tablet.proofs.SoFar.{Lies, own_part, behind, blocks_from}

abbrev one : {A : Type 0} → A → Option A
one x = Some x

abbrev none : {A : Type 0} → Option A
none = None

some_is : {A : Type 0} (x y : A) → one x ≡ one y → x ≡ y
some_is x y e = cc

-- where a block lies, by its place
pub entry_lies : (index begin : ℕ) (last : List ℕ) (es : List Entry) (i : ℕ) (e : Entry) → IsEntries index begin last es → slice_get es i ≡ Some e → Lies (end_of begin es) e
entry_lies index begin last [] i e h q = absurd cc
entry_lies index begin last (x ∷ es) zero e h q =
    subst (Lies (end_of begin (x ∷ es))) (some_is x e q) (record { within = omega (arith, h.0.placed, end_later (begin + x.len) es); short = h.0.short_enough; some = h.0.some })
entry_lies index begin last (x ∷ es) (suc i) e h q = entry_lies index (begin + x.len) x.last es i e h.1 q

-- the block that an entry is of
pub record BlockThere (t : Totals) (bytes : List ℕ) (blocks : List (List Record)) (i : ℕ) (e : Entry) : Type 0 where
  pub recs : List Record
  pub there : slice_get blocks i ≡ Some recs
  pub read : own_part t e bytes ≡ Ok recs

abbrev made : List Record → List (List Record) → Result (List (List Record)) ℕ
made recs others = Ok (recs ∷ others)

pub block_there : (t : Totals) (index begin : ℕ) (last bytes : List ℕ) (es : List Entry) (blocks : List (List Record)) (i : ℕ) (e : Entry) → IsEntries index begin last es → blocks_at t es (drop begin bytes) ≡ Ok blocks → slice_get es i ≡ Some e → BlockThere t bytes blocks i e
block_there t index begin last bytes [] blocks i e h q s = absurd cc
block_there t index begin last bytes (x ∷ es) blocks zero e h q s =
    let a = bind_ok (moved x.offset (own_part t x bytes)) (λ own. behind own (blocks_at t es (drop (begin + x.len) bytes))) blocks (sym (blocks_from t x es begin bytes h.0.placed) ∙ q) in
    let b = bind_ok (blocks_at t es (drop (begin + x.len) bytes)) (made a.0) blocks a.2 in
    let same : x ≡ e = some_is x e s in
    record {
      recs = a.0;
      there = ap (λ (bs : List (List Record)). slice_get bs 0) (sym (ok_is (a.0 ∷ b.0) blocks b.2));
      read = ap (λ (v : Entry). own_part t v bytes) (sym same) ∙ moved_ok x.offset (own_part t x bytes) a.0 a.1;
    }
block_there t index begin last bytes (x ∷ es) blocks (suc i) e h q s =
    let a = bind_ok (moved x.offset (own_part t x bytes)) (λ own. behind own (blocks_at t es (drop (begin + x.len) bytes))) blocks (sym (blocks_from t x es begin bytes h.0.placed) ∙ q) in
    let b = bind_ok (blocks_at t es (drop (begin + x.len) bytes)) (made a.0) blocks a.2 in
    let rest = block_there t index (begin + x.len) x.last bytes es b.0 i e h.1 b.1 s in
    record {
      recs = rest.recs;
      there = ap (λ (bs : List (List Record)). slice_get bs (suc i)) (sym (ok_is (a.0 ∷ b.0) blocks b.2)) ∙ rest.there;
      read = rest.read;
    }

-- the blocks of a tablet's file are read by its index
pub told_blocks : (t : Loaded) → IsTold t → blocks_at (listed_totals t.listed) t.index (drop 8 t.bytes) ≡ Ok (blocks_in t)
told_blocks t h =
    let blocks = blocks_in t in
    let rest : List ℕ = index_spelled (blocks_in t) ++ (filter_of (joined (blocks_in t)) ++ footer_spelled (parts_of (blocks_in t)) (totals_of (joined (blocks_in t)))) in
    ap (λ (s : Totals). blocks_at s t.index (drop 8 t.bytes)) (sym h.totals)
    ∙ (ap (λ (es : List Entry). blocks_at (totals_of (joined (blocks_in t))) es (drop 8 t.bytes)) h.index_is
    ∙ (ap (λ (b : List ℕ). blocks_at (totals_of (joined (blocks_in t))) (entries_of 8 (blocks_in t)) (drop 8 b)) h.spelled
    ∙ blocks_again (totals_of (joined (blocks_in t))) 8 (blocks_in t) rest h.tablet.each (all_within (joined (blocks_in t)))))

pub told_block : (t : Loaded) (i : ℕ) (e : Entry) → IsTold t → IsEntries (end_of 8 t.index) 8 [] t.index → slice_get t.index i ≡ Some e → BlockThere (listed_totals t.listed) t.bytes (blocks_in t) i e
told_block t i e h entries s = block_there (listed_totals t.listed) (end_of 8 t.index) 8 [] t.bytes t.index (blocks_in t) i e entries (told_blocks t h) s

-- ---- what reading a block answers, where its bytes are the block's

pub found_value : (recs : List Record) (start : ℕ) (r : Result (List Record) ReadError) (read : Result (List Record) ℕ) → read ≡ Ok recs → Loads (λ b. b) r (moved start read) → IfOk r (λ block. block ≡ recs)
found_value recs start (Ok block) read e h = ok_is block recs (sym h ∙ ap (moved start) e)
found_value recs start (Err why) read e h = tt

pub found_no_bad : (recs : List Record) (start : ℕ) (r : Result (List Record) ReadError) (read : Result (List Record) ℕ) → read ≡ Ok recs → Loads (λ b. b) r (moved start read) → IfErr r (λ why. IsNoBad why)
found_no_bad recs start (Ok block) read e h = tt
found_no_bad recs start (Err (read_errors.Bad file at)) read e h = let no : moved start (Ok recs) ≡ Err at = sym (ap (moved start) e) ∙ h in absurd cc
found_no_bad recs start (Err read_errors.Fault) read e h = tt
found_no_bad recs start (Err read_errors.NoMemory) read e h = tt

-- ---- a block that is read after it was checked

abbrev done : List Record → Result (List Record) ℕ
done recs = Ok recs

pub again_within : (n : ℕ) (recs : List Record) (r : Result (List Record) FormatError) (read : Result (List Record) ℕ) → read ≡ Ok recs → Gives (λ b. b) r read → IfErr r (λ why. IsWithin n why)
again_within n recs (Ok block) read e h = tt
again_within n recs (Err (block_errors.Bad at)) read e h = let no : done recs ≡ Err at = sym e ∙ h in absurd cc
again_within n recs (Err block_errors.NoMemory) read e h = tt

pub again_exact : (r : Result (List Record) FormatError) (read own : Result (List Record) ℕ) → own ≡ read → Gives (λ b. b) r read → Gives (λ b. b) r own
again_exact r read own e h = subst (λ (q : Result (List Record) ℕ). Gives {X = List Record} (λ b. b) r q) (sym e) h

-- ---- what is told of a file that was read

pub told_from : (t : Loaded) (blocks : List (List Record)) → file_at (listed_totals t.listed) t.listed.bytes t.bytes ≡ Ok blocks → IsTablet blocks → t.bytes ≡ file_of blocks → totals_of (joined blocks) ≡ listed_totals t.listed → t.index ≡ entries_of 8 blocks → t.filter ≡ filter_of (joined blocks) → IsTold t
told_from t blocks read tablet spelled totals index filter =
    let same : blocks_in t ≡ blocks = ap ok_or_no_blocks read in
    record {
      read = read ∙ ap (λ (bs : List (List Record)). Ok bs) (sym same);
      tablet = subst IsTablet (sym same) tablet;
      spelled = spelled ∙ ap file_of (sym same);
      totals = ap (λ (bs : List (List Record)). totals_of (joined bs)) same ∙ totals;
      index_is = index ∙ ap (entries_of 8) (sym same);
      filter_is = filter ∙ ap (λ (bs : List (List Record)). filter_of (joined bs)) (sym same);
    }

pub found_there : (blocks : List (List Record)) (t : Totals) (bytes : List ℕ) (i : ℕ) (e : Entry) (r : Result (List Record) ReadError) → BlockThere t bytes blocks i e → Loads (λ b. b) r (moved e.offset (own_part t e bytes)) → IfOk r (λ block. slice_get blocks i ≡ Some block)
found_there blocks t bytes i e (Ok block) h l = h.there ∙ ap (λ (b : List Record). Some b) (ok_is h.recs block (sym (ap (moved e.offset) h.read) ∙ l))
found_there blocks t bytes i e (Err why) h l = tt

pub never_bad : (blocks : List (List Record)) (t : Totals) (bytes : List ℕ) (i : ℕ) (e : Entry) (r : Result (List Record) ReadError) → BlockThere t bytes blocks i e → Loads (λ b. b) r (moved e.offset (own_part t e bytes)) → IfErr r (λ why. IsNoBad why)
never_bad blocks t bytes i e r h l = found_no_bad h.recs e.offset r (own_part t e bytes) h.read l

-- ---- a tablet's block, by its place

entry_at_place : (t now : Loaded) (i : ℕ) (e : Entry) → t ≡ now → i < length now.index → e ≡ get_or t.index i e → slice_get t.index i ≡ Some e
entry_at_place t now i e same lt is = slice_get_read t.index (length t.index) i e refl (omega (arith, lt, ap (λ (l : Loaded). length l.index) same)) is

pub tablet_lies : (honest : Bool) (number size : ℕ) (t now : Loaded) (i : ℕ) (e : Entry) → t ≡ now → IsLoaded honest number size t → i < length now.index → e ≡ get_or t.index i e → Lies size e
tablet_lies honest number size t now i e same h lt is =
    let lies = entry_lies (end_of 8 t.index) 8 [] t.index i e h.entries (entry_at_place t now i e same lt is) in
    record { within = omega (arith, lies.within, h.within); short = lies.short; some = lies.some }

pub tablet_block : (honest : Bool) (number size : ℕ) (t now : Loaded) (i : ℕ) (e : Entry) (r : Result (List Record) ReadError) → t ≡ now → IsLoaded honest number size t → i < length now.index → e ≡ get_or t.index i e → honest ≡ true → Loads (λ b. b) r (moved e.offset (own_part (listed_totals t.listed) e t.bytes)) → IfOk r (λ block. slice_get (blocks_in now) i ≡ Some block)
tablet_block honest number size t now i e r same h lt is is_honest l =
    let there = told_block t i e (h.file is_honest) h.entries (entry_at_place t now i e same lt is) in
    subst (λ (n : Loaded). IfOk r (λ block. slice_get (blocks_in n) i ≡ Some block)) same (found_there (blocks_in t) (listed_totals t.listed) t.bytes i e r there l)

pub tablet_never_bad : (honest : Bool) (number size : ℕ) (t now : Loaded) (i : ℕ) (e : Entry) (r : Result (List Record) ReadError) → t ≡ now → IsLoaded honest number size t → i < length now.index → e ≡ get_or t.index i e → honest ≡ true → Loads (λ b. b) r (moved e.offset (own_part (listed_totals t.listed) e t.bytes)) → IfErr r (λ why. IsNoBad why)
tablet_never_bad honest number size t now i e r same h lt is is_honest l =
    never_bad (blocks_in t) (listed_totals t.listed) t.bytes i e r (told_block t i e (h.file is_honest) h.entries (entry_at_place t now i e same lt is)) l
