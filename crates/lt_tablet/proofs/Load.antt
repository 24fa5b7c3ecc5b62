-- How the checks of a file follow one another, and what loading gives.
use Rattle.std.proofs.Common.{◌≡◌, ℕ, ◌-◌, List, [], length, drop, Result, Ok, Err, sym, ap, subst, ◌∙◌, arith, inl, inr}
use Rattle.std.proofs.lemmas.Bool.{cases_lt}
use Rattle.std.proofs.lemmas.List.{length-drop, get_or_past}
use Rattle.lt_rec.specs.Record.{Record}
use Rattle.lt_rec.specs.Records.{joined}
use Rattle.lt_bloom.specs.Filter.{filter_bytes}
use Rattle.lt_rec.specs.Reading.{◌>>=◌}
use Rattle.lt_rec.proofs.Reading.{IsBytes, IsBytes-take, IsBytes-drop, bind_ok, ok_is}
use Rattle.lt_block.proofs.Loop.{err_is}
use Rattle.lt_tablet.specs.declared.errors.ReadError.{ReadError}
use Rattle.lt_tablet.specs.declared.errors.ReadError.TheVariants as read_errors
use Rattle.lt_layout.specs.Spelling.{Entry, Totals, Parts, IsTablet, entries_of, filter_of, totals_of, file_of}
use Rattle.lt_layout.specs.Reading.{footer_place, footer_at, header_at, index_at, blocks_at, totals_at, filter_at, between, file_at}
use Rattle.lt_layout.specs.Surveying.{Found, found_in}
use Rattle.lt_layout.specs.Phases.{AreBytes, ends_at, surveyed, filter_found}
use Rattle.lt_tablet.specs.Causes.{Refuses}
use Rattle.lt_layout.proofs.Blocks.{blocks_take}
use Rattle.lt_layout.proofs.IndexText.{ends}
use Rattle.lt_layout.proofs.FooterText.{footer_takes}
use Rattle.lt_layout.proofs.Whole.{place_ok, index_takes, file_takes, ending, from_blocks, from_index, from_header, from_footer, from_place}

abbrev failed : {A : Type 0} → ℕ → Result A ℕ
failed at = Err at

-- ---- checks 1 to 3

abbrev placed : ℕ → Parts → Result (ℕ × Parts) ℕ
placed foot p = Ok (foot, p)

abbrev to_header : List ℕ → (foot : ℕ) → Parts → Result (ℕ × Parts) ℕ
to_header bytes foot p = header_at bytes >>= λ _. placed foot p

abbrev to_footer : Totals → List ℕ → ℕ → Result (ℕ × Parts) ℕ
to_footer t bytes foot = footer_at t foot (drop foot bytes) >>= to_header bytes foot

pub record EndsFound (t : Totals) (listed : ℕ) (bytes : List ℕ) (x : ℕ × Parts) : Type 0 where
  pub done : Unit {0}
  pub place : footer_place listed (length bytes) ≡ Ok x.0
  pub footer : footer_at t x.0 (drop x.0 bytes) ≡ Ok x.1
  pub header : header_at bytes ≡ Ok done

pub ends_found : (t : Totals) (listed : ℕ) (bytes : List ℕ) (x : ℕ × Parts) → ends_at t listed bytes ≡ Ok x → EndsFound t listed bytes x
unfolding ends_at
ends_found t listed bytes x e =
    let a = bind_ok (footer_place listed (length bytes)) (to_footer t bytes) x e in
    let b = bind_ok (footer_at t a.0 (drop a.0 bytes)) (to_header bytes a.0) x a.2 in
    let c = bind_ok (header_at bytes) (λ _. placed a.0 b.0) x b.2 in
    subst (EndsFound t listed bytes) (ok_is (a.0, b.0) x c.2) (record { done = c.0; place = a.1; footer = b.1; header = c.1 })

pub after_ends : (t : Totals) (listed : ℕ) (bytes : List ℕ) (x : ℕ × Parts) → ends_at t listed bytes ≡ Ok x → file_at t listed bytes ≡ from_header x.0 t bytes x.1
unfolding file_at
after_ends t listed bytes x e =
    let a = ends_found t listed bytes x e in
    ap (λ (q : Result ℕ ℕ). q >>= from_place t bytes) a.place
    ∙ (ap (λ (q : Result Parts ℕ). q >>= from_footer x.0 t bytes) a.footer
    ∙ ap (λ (q : Result (Unit {0}) ℕ). q >>= λ _. from_header x.0 t bytes x.1) a.header)

no_header : {Y : Type 0} (r : Result (Unit {0}) ℕ) (foot : ℕ) (p : Parts) (then : Result Y ℕ) (at : ℕ) → (r >>= λ _. placed foot p) ≡ Err at → (r >>= λ _. then) ≡ Err at
no_header (Ok u) foot p then at e = absurd cc
no_header (Err f) foot p then at e = err_is f at e

no_footer : {Y : Type 0} (r : Result Parts ℕ) (header : Result (Unit {0}) ℕ) (foot : ℕ) (then : Parts → Result Y ℕ) (at : ℕ) → (r >>= λ p. header >>= λ _. placed foot p) ≡ Err at → (r >>= λ p. header >>= λ _. then p) ≡ Err at
no_footer (Ok p) header foot then at e = no_header header foot p (then p) at e
no_footer (Err f) header foot then at e = err_is f at e

pub ends_bad : (t : Totals) (listed : ℕ) (bytes : List ℕ) (at : ℕ) → ends_at t listed bytes ≡ Err at → file_at t listed bytes ≡ Err at
unfolding ends_at file_at
ends_bad t listed bytes at e = placing (footer_place listed (length bytes)) e
  where
    placing : (r : Result ℕ ℕ) → (r >>= to_footer t bytes) ≡ Err at → (r >>= from_place t bytes) ≡ Err at
    placing (Ok foot) e = no_footer (footer_at t foot (drop foot bytes)) (header_at bytes) foot (from_header foot t bytes) at e
    placing (Err f) e = err_is f at e

-- ---- refusals

pub refuse_ends : (why : ReadError) (t : Totals) (listed : ℕ) (bytes : List ℕ) → Refuses why (ends_at t listed bytes) → Refuses why (file_at t listed bytes)
refuse_ends (read_errors.Bad file at) t listed bytes h = ends_bad t listed bytes at h
refuse_ends read_errors.Fault t listed bytes h = tt
refuse_ends read_errors.NoMemory t listed bytes h = tt

-- the first step fails
pub refuse_first : {A B : Type 0} (why : ReadError) (r : Result A ℕ) (f : A → Result B ℕ) → Refuses why r → Refuses why (r >>= f)
refuse_first (read_errors.Bad file at) r f h = ap (λ q. q >>= f) h
refuse_first read_errors.Fault r f h = tt
refuse_first read_errors.NoMemory r f h = tt

pub refuse_same : {A : Type 0} (why : ReadError) (r s : Result A ℕ) → r ≡ s → Refuses why s → Refuses why r
refuse_same (read_errors.Bad file at) r s e h = e ∙ h
refuse_same read_errors.Fault r s e h = tt
refuse_same read_errors.NoMemory r s e h = tt

-- reading gives another type's value
pub refuse_mapped : {A B C : Type 0} (why : ReadError) (r : Result A ℕ) (g : A → B) (f : A → Result C ℕ) → Refuses why (r >>= λ x. Ok (g x)) → Refuses why (r >>= f)
refuse_mapped (read_errors.Bad file at) (Ok x) g f h = absurd cc
refuse_mapped (read_errors.Bad file at) (Err d) g f h = err_is d at h
refuse_mapped read_errors.Fault r g f h = tt
refuse_mapped read_errors.NoMemory r g f h = tt

pub ends_no_place : (why : ReadError) (t : Totals) (listed : ℕ) (bytes : List ℕ) → Refuses why (footer_place listed (length bytes)) → Refuses why (ends_at t listed bytes)
unfolding ends_at
ends_no_place why t listed bytes h = refuse_first why (footer_place listed (length bytes)) (to_footer t bytes) h

ends_from_footer : (t : Totals) (listed foot : ℕ) (bytes : List ℕ) → footer_place listed (length bytes) ≡ Ok foot → ends_at t listed bytes ≡ to_footer t bytes foot
unfolding ends_at
ends_from_footer t listed foot bytes e = ap (λ (q : Result ℕ ℕ). q >>= to_footer t bytes) e

pub ends_no_footer : (why : ReadError) (t : Totals) (listed foot : ℕ) (bytes : List ℕ) → footer_place listed (length bytes) ≡ Ok foot → Refuses why (footer_at t foot (drop foot bytes)) → Refuses why (ends_at t listed bytes)
ends_no_footer why t listed foot bytes e h =
    refuse_same why (ends_at t listed bytes) (to_footer t bytes foot) (ends_from_footer t listed foot bytes e) (refuse_first why (footer_at t foot (drop foot bytes)) (to_header bytes foot) h)

ends_from_header : (t : Totals) (listed foot : ℕ) (p : Parts) (bytes : List ℕ) → footer_place listed (length bytes) ≡ Ok foot → footer_at t foot (drop foot bytes) ≡ Ok p → ends_at t listed bytes ≡ to_header bytes foot p
ends_from_header t listed foot p bytes e f = ends_from_footer t listed foot bytes e ∙ ap (λ (q : Result Parts ℕ). q >>= to_header bytes foot) f

pub ends_no_header : (why : ReadError) (t : Totals) (listed foot : ℕ) (p : Parts) (bytes : List ℕ) → footer_place listed (length bytes) ≡ Ok foot → footer_at t foot (drop foot bytes) ≡ Ok p → Refuses why (header_at bytes) → Refuses why (ends_at t listed bytes)
ends_no_header why t listed foot p bytes e f h =
    refuse_same why (ends_at t listed bytes) (to_header bytes foot p) (ends_from_header t listed foot p bytes e f) (refuse_first why (header_at bytes) (λ _. placed foot p) h)

pub ends_read : (t : Totals) (listed foot : ℕ) (p : Parts) (bytes : List ℕ) (u : Unit {0}) → footer_place listed (length bytes) ≡ Ok foot → footer_at t foot (drop foot bytes) ≡ Ok p → header_at bytes ≡ Ok u → ends_at t listed bytes ≡ Ok (foot, p)
ends_read t listed foot p bytes u e f h = ends_from_header t listed foot p bytes e f ∙ ap (λ (q : Result (Unit {0}) ℕ). q >>= λ _. placed foot p) h

pub refuse_index : (why : ReadError) (t : Totals) (listed : ℕ) (bytes : List ℕ) (x : ℕ × Parts) → ends_at t listed bytes ≡ Ok x → Refuses why (index_at x.1 (between x.1.index x.1.filter bytes)) → Refuses why (file_at t listed bytes)
refuse_index why t listed bytes x e h =
    refuse_same why (file_at t listed bytes) (from_header x.0 t bytes x.1) (after_ends t listed bytes x e) (refuse_first why (index_at x.1 (between x.1.index x.1.filter bytes)) (from_index x.0 t bytes x.1) h)

abbrev indexed : ℕ × Parts → List ℕ → Result (List Entry) ℕ
indexed x bytes = index_at x.1 (between x.1.index x.1.filter bytes)

after_index : (t : Totals) (listed : ℕ) (bytes : List ℕ) (x : ℕ × Parts) (es : List Entry) → ends_at t listed bytes ≡ Ok x → indexed x bytes ≡ Ok es → file_at t listed bytes ≡ from_index x.0 t bytes x.1 es
after_index t listed bytes x es e i = after_ends t listed bytes x e ∙ ap (λ (q : Result (List Entry) ℕ). q >>= from_index x.0 t bytes x.1) i

pub refuse_blocks : (why : ReadError) (t : Totals) (listed : ℕ) (bytes : List ℕ) (x : ℕ × Parts) (es : List Entry) → ends_at t listed bytes ≡ Ok x → indexed x bytes ≡ Ok es → Refuses why (surveyed t es bytes) → Refuses why (file_at t listed bytes)
refuse_blocks why t listed bytes x es e i h =
    refuse_same why (file_at t listed bytes) (from_index x.0 t bytes x.1 es) (after_index t listed bytes x es e i)
    (refuse_mapped why (blocks_at t es (drop 8 bytes)) (λ (blocks : List (List Record)). found_in (joined blocks)) (from_blocks x.0 t bytes x.1) h)

abbrev finding : List (List Record) → Result Found ℕ
finding blocks = Ok (found_in (joined blocks))

pub record SurveyFound (t : Totals) (es : List Entry) (bytes : List ℕ) (found : Found) : Type 0 where
  pub blocks : List (List Record)
  pub read : blocks_at t es (drop 8 bytes) ≡ Ok blocks
  pub found_is : found_in (joined blocks) ≡ found

pub survey_found : (t : Totals) (es : List Entry) (bytes : List ℕ) (found : Found) → surveyed t es bytes ≡ Ok found → SurveyFound t es bytes found
survey_found t es bytes found e =
    let a = bind_ok (blocks_at t es (drop 8 bytes)) finding found e in
    record { blocks = a.0; read = a.1; found_is = ok_is (found_in (joined a.0)) found a.2 }

after_blocks : (t : Totals) (listed : ℕ) (bytes : List ℕ) (x : ℕ × Parts) (es : List Entry) (blocks : List (List Record)) → ends_at t listed bytes ≡ Ok x → indexed x bytes ≡ Ok es → blocks_at t es (drop 8 bytes) ≡ Ok blocks → file_at t listed bytes ≡ from_blocks x.0 t bytes x.1 blocks
after_blocks t listed bytes x es blocks e i b = after_index t listed bytes x es e i ∙ ap (λ (q : Result (List (List Record)) ℕ). q >>= from_blocks x.0 t bytes x.1) b

no_end : {A B : Type 0} (why : ReadError) (summed same : Result (Unit {0}) ℕ) (x : A) (y : B) → Refuses why (summed >>= λ _. same >>= λ _. Ok x) → Refuses why (summed >>= λ _. same >>= λ _. Ok y)
no_end why (Ok u) same x y h = refuse_mapped why same (λ _. x) (λ _. Ok y) h
no_end (read_errors.Bad file at) (Err f) same x y h = err_is f at h
no_end read_errors.Fault (Err f) same x y h = tt
no_end read_errors.NoMemory (Err f) same x y h = tt

pub refuse_filter : (why : ReadError) (t : Totals) (listed : ℕ) (bytes : List ℕ) (x : ℕ × Parts) (es : List Entry) (found : Found) → ends_at t listed bytes ≡ Ok x → indexed x bytes ≡ Ok es → surveyed t es bytes ≡ Ok found → Refuses why (filter_found t x.0 x.1 found bytes) → Refuses why (file_at t listed bytes)
refuse_filter why t listed bytes x es found e i s h =
    let b = survey_found t es bytes found s in
    refuse_same why (file_at t listed bytes) (from_blocks x.0 t bytes x.1 b.blocks) (after_blocks t listed bytes x es b.blocks e i b.read)
    (no_end why (totals_at x.0 t (totals_of (joined b.blocks))) (filter_at x.0 x.1 (between x.1.filter x.0 bytes) (filter_of (joined b.blocks))) (filter_of (joined b.blocks)) b.blocks
    (subst (λ (f : Found). Refuses why (filter_found t x.0 x.1 f bytes)) (sym b.found_is) h))

abbrev then_same : ℕ → Parts → Found → List ℕ → Result (List ℕ) ℕ
then_same foot p found bytes = filter_at foot p (between p.filter foot bytes) (filter_bytes found.hashes) >>= λ _. Ok (filter_bytes found.hashes)

pub filter_no_totals : (why : ReadError) (t : Totals) (foot : ℕ) (p : Parts) (found : Found) (bytes : List ℕ) → Refuses why (totals_at foot t found.totals) → Refuses why (filter_found t foot p found bytes)
filter_no_totals why t foot p found bytes h = refuse_first why (totals_at foot t found.totals) (λ _. then_same foot p found bytes) h

pub filter_no_same : (why : ReadError) (t : Totals) (foot : ℕ) (p : Parts) (found : Found) (bytes : List ℕ) (u : Unit {0}) → totals_at foot t found.totals ≡ Ok u → Refuses why (filter_at foot p (between p.filter foot bytes) (filter_bytes found.hashes)) → Refuses why (filter_found t foot p found bytes)
filter_no_same why t foot p found bytes u e h =
    refuse_same why (filter_found t foot p found bytes) (then_same foot p found bytes) (ap (λ (q : Result (Unit {0}) ℕ). q >>= λ _. then_same foot p found bytes) e)
    (refuse_first why (filter_at foot p (between p.filter foot bytes) (filter_bytes found.hashes)) (λ _. Ok (filter_bytes found.hashes)) h)

pub filter_read : (t : Totals) (foot : ℕ) (p : Parts) (found : Found) (bytes : List ℕ) (u v : Unit {0}) → totals_at foot t found.totals ≡ Ok u → filter_at foot p (between p.filter foot bytes) (filter_bytes found.hashes) ≡ Ok v → filter_found t foot p found bytes ≡ Ok (filter_bytes found.hashes)
filter_read t foot p found bytes u v e f =
    ap (λ (q : Result (Unit {0}) ℕ). q >>= λ _. then_same foot p found bytes) e ∙ ap (λ (q : Result (Unit {0}) ℕ). q >>= λ _. Ok (filter_bytes found.hashes)) f

-- ---- all is read

pub record LoadFound (t : Totals) (listed : ℕ) (bytes : List ℕ) (es : List Entry) (filter : List ℕ) : Type 0 where
  pub blocks : List (List Record)
  pub read : file_at t listed bytes ≡ Ok blocks
  pub tablet : IsTablet blocks
  pub spelled : bytes ≡ file_of blocks
  pub totals : totals_of (joined blocks) ≡ t
  pub entries : es ≡ entries_of 8 blocks
  pub filter_is : filter ≡ filter_of (joined blocks)

abbrev same_end : List ℕ → Result (Unit {0}) ℕ → Result (List ℕ) ℕ
same_end filter read = read >>= λ _. Ok filter

pub load_found : (t : Totals) (listed : ℕ) (bytes : List ℕ) (x : ℕ × Parts) (es : List Entry) (found : Found) (filter : List ℕ) → IsBytes bytes → ends_at t listed bytes ≡ Ok x → indexed x bytes ≡ Ok es → surveyed t es bytes ≡ Ok found → filter_found t x.0 x.1 found bytes ≡ Ok filter → LoadFound t listed bytes es filter
load_found t listed bytes x es found filter fits e i s f =
    let ends_are = ends_found t listed bytes x e in
    let place = place_ok listed (length bytes) x.0 ends_are.place in
    let footer = footer_takes t x.0 (drop x.0 bytes) x.1 (IsBytes-drop x.0 bytes fits) ends_are.footer in
    let index = index_takes x.1 (between x.1.index x.1.filter bytes) es (IsBytes-take (x.1.filter - x.1.index) (drop x.1.index bytes) (IsBytes-drop x.1.index bytes fits)) i in
    let b = survey_found t es bytes found s in
    let a = bind_ok (totals_at x.0 t found.totals) (λ _. same_end (filter_bytes found.hashes) (filter_at x.0 x.1 (between x.1.filter x.0 bytes) (filter_bytes found.hashes))) filter f in
    let c = bind_ok (filter_at x.0 x.1 (between x.1.filter x.0 bytes) (filter_bytes found.hashes)) (λ _. Ok (filter_bytes found.hashes)) filter a.2 in
    let totals : totals_at x.0 t (totals_of (joined b.blocks)) ≡ Ok a.0 = ap (λ (g : Found). totals_at x.0 t g.totals) b.found_is ∙ a.1 in
    let same : filter_at x.0 x.1 (between x.1.filter x.0 bytes) (filter_of (joined b.blocks)) ≡ Ok c.0 = ap (λ (g : Found). filter_at x.0 x.1 (between x.1.filter x.0 bytes) (filter_bytes g.hashes)) b.found_is ∙ c.1 in
    let read : file_at t listed bytes ≡ Ok b.blocks =
    after_blocks t listed bytes x es b.blocks e i b.read
    ∙ (ap (λ (q : Result (Unit {0}) ℕ). q >>= λ _. ending x.0 t bytes x.1 b.blocks) totals
    ∙ ap (λ (q : Result (Unit {0}) ℕ). q >>= λ _. Ok b.blocks) same) in
    let file = file_takes t listed bytes b.blocks fits read in
    let last = ends x.1.index 8 [] es (omega (arith, index.count, footer.lie.some)) index.entries in
    let taken = blocks_take t x.1.index 8 [] es (drop 8 bytes) b.blocks (IsBytes-drop 8 bytes fits) index.entries (omega (arith, last, footer.lie.index_within, place.foot_is, length-drop 8 bytes, place.long)) b.read in
    record {
      blocks = b.blocks;
      read = read;
      tablet = file.tablet;
      spelled = file.spelled_so;
      totals = file.totals;
      entries = taken.entries;
      filter_is = sym (ok_is (filter_bytes found.hashes) filter c.2) ∙ ap (λ (g : Found). filter_bytes g.hashes) (sym b.found_is);
    }

-- ---- the bytes, part by part

pub all_bytes : (bytes : List ℕ) (a b c d : ℕ) → AreBytes 0 a bytes → AreBytes a b bytes → AreBytes b c bytes → AreBytes c d bytes → AreBytes d (length bytes) bytes → IsBytes bytes
all_bytes bytes a b c d p q r s t i =
    elim (cases_lt i a) [
      | inl lt ↦ p i (omega arith) lt
      | inr ge ↦ elim (cases_lt i b) [
        | inl lt ↦ q i ge lt
        | inr ge2 ↦ elim (cases_lt i c) [
          | inl lt ↦ r i ge2 lt
          | inr ge3 ↦ elim (cases_lt i d) [
            | inl lt ↦ s i ge3 lt
            | inr ge4 ↦ elim (cases_lt i (length bytes)) [
              | inl lt ↦ t i ge4 lt
              | inr past ↦ rw (get_or_past bytes i 0 past) (omega arith)
            ]
          ]
        ]
      ]
    ]
